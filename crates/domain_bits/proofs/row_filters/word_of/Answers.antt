use Rattle.std.proofs.Common.{◌≡◌, ℕ, ◌+◌, ◌*◌, ◌/◌, ◌%◌, ◌<◌, eqb, sym, ◌∙◌, arith}
use Rattle.std.proofs.lemmas.Bool.Decides.{nat_tests}
use Rattle.bit_rows.proofs.WordBits.{one_shifted, is_set_pow}
use Rattle.domain_bits.proofs.row_filters.word_of.Goals as goal

same_place : (t place b : ℕ) → t / 64 ≡ place → b < 64 → eqb b (t % 64) ≡ eqb (64 * place + b) t
same_place t place b e l = let v : 64 * (t / 64) + t % 64 ≡ t = omega arith in grind (arith, nat_tests)

pub returns-then-from-place : goal.returns-then-from-place
returns-then-from-place c b l =
    let few : c.args.t % 64 < 64 = omega arith in
    rw (one_shifted (c.args.t % 64) few) (is_set_pow (c.args.t % 64) b ∙ same_place c.args.t c.args.place b (sym c.from.ensures ∙ c.if-from-place.true) l)
