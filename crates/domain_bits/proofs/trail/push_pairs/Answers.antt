use Rattle.std.proofs.Common.{◌≡◌, ℕ, ◌+◌, ◌*◌, ◌%◌, ◌^◌, ◌<◌, [], ◌++◌, length, ap, sym, ◌∙◌, arith, length-append, w64}
use Rattle.std.proofs.lemmas.List.{append-nil}
use Rattle.domain_bits.proofs.Removed.{length-at_vertex}
use Rattle.std.proofs.Math.Facts.{Fits-lt-pow}
use Rattle.std.specs.Int.{trailing_zeros}
use Rattle.std.specs.Int.RustNames.{bit_xor}
use Rattle.bit_rows.specs.BitRows.{word_values}
use Rattle.domain_bits.specs.Removals.{at_vertex}
use Rattle.domain_bits.proofs.Runs.{listed_more}
use Rattle.bit_rows.proofs.WordBits.{one_shifted, word_values-first, word_values-zero, low_bit}
use Rattle.domain_bits.proofs.trail.push_pairs.Goals as goal

-- one value fewer is left
fewer : (place word : ℕ) → 0 < word → word < 2 ^ 64
    → length (word_values place word) ≡ length (word_values place (bit_xor word (1 * 2 ^ trailing_zeros w64 word % 2 ^ 64))) + 1
fewer place word some small = rw (one_shifted (trailing_zeros w64 word) (low_bit word some small)) (omega (arith, ap length (word_values-first place word some small)))

pub push_reserved-requires : goal.push_reserved-requires
push_reserved-requires c =
    let n = fewer c.args.place c.loop-left.left (omega arith) (Fits-lt-pow c.loop-left.auto.left-fits) in
    let l = ap length c.loop-left.invariant.listed in
    let left = length-append c.loop-left.pairs.items (at_vertex c.args.p (word_values c.args.place c.loop-left.left)) in
    let all = length-append c.args.pairs.now.items (at_vertex c.args.p (word_values c.args.place c.args.word)) in
    omega (arith, n, l, left, all, length-at_vertex c.args.p (word_values c.args.place c.loop-left.left), length-at_vertex c.args.p (word_values c.args.place c.args.word), c.loop-left.invariant.room, c.requires.room, c.loop-left.pairs.ok)

pub loop-left-smaller : goal.loop-left-smaller
loop-left-smaller c = omega (arith, fewer c.args.place c.loop-left.left (omega arith) (Fits-lt-pow c.loop-left.auto.left-fits))

pub loop-left-preserved : goal.loop-left-preserved
loop-left-preserved c =
    let word = c.loop-left.left in
    let small = Fits-lt-pow c.loop-left.auto.left-fits in
    let some : 0 < word = omega arith in
    record {
      listed = rw (c.push_reserved.ensures.items, one_shifted (trailing_zeros w64 word) (low_bit word some small))
          (listed_more c.loop-left.pairs.items _ c.args.p c.args.place word some small c.loop-left.invariant.listed);
      room = c.push_reserved.ensures.capacity ∙ c.loop-left.invariant.room;
    }

pub returns-clause-after : goal.returns-clause-after
returns-clause-after c =
    let none : word_values c.args.place c.loop-left.left ≡ [] = rw c.loop-left-test.false (word_values-zero c.args.place) in
    sym (append-nil c.loop-left.pairs.items) ∙ ap (λ us. c.loop-left.pairs.items ++ at_vertex c.args.p us) (sym none) ∙ c.loop-left.invariant.listed
