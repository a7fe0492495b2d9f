use Rattle.std.proofs.Common.{◌≡◌, ℕ, ◌+◌, ◌*◌, ◌%◌, ◌^◌, ◌<◌, List, length, get_or, sym, ap, subst, ◌∙◌, arith}
use lib.Count.{ones}
use Rattle.std.proofs.Math.Facts.{Fits-lt-pow}
use Rattle.bit_rows.specs.BitRows.{has}
use Rattle.graph_theory.specs.Neighbours.{count}
use Rattle.bit_rows.proofs.WordBits.{count_word}
use Rattle.bit_rows.proofs.Passing.{count_within}
use Rattle.bit_rows.proofs.Rows.{has_at}
use Rattle.bit_rows.proofs.kernels.count_ones.Goals as goal

next-word : (row : List ℕ) (i : ℕ) → get_or row i 0 < 2 ^ 64 → count (has row) (64 * (i + 1)) ≡ count (has row) (64 * i) + ones (get_or row i 0)
next-word row i small =
    let e : 64 * (i + 1) ≡ 64 * i + 64 = omega arith in
    ap (count (has row)) e ∙ count_word (has row) i (get_or row i 0) small (λ b l. sym (has_at row i b l))

pub loop-word-preserved : goal.loop-word-preserved
loop-word-preserved c =
    omega (arith, next-word c.args.row.now c.loop-word.word-index (Fits-lt-pow (c.type_inv.row c.loop-word.word-index)), c.from-total.ensures, c.loop-word.invariant)

pub returns : goal.returns
returns c =
    let e : c.loop-word.word-index ≡ length c.args.row.now = omega arith in
    let exact = subst (λ i. c.loop-word.total ≡ count (has c.args.row.now) (64 * i) % 2 ^ 64) e c.loop-word.invariant in
    record { members = λ small. omega (arith, exact, count_within (has c.args.row.now) (64 * length c.args.row.now)); exact = exact }
