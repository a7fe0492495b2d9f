use Rattle.std.proofs.Common.{◌≡◌, ℕ, ◌+◌, ◌*◌, ◌/◌, ◌%◌, ◌^◌, ◌<◌, ◌∷◌, [], ◌++◌, length, ap, ◌∙◌, arith}
use Rattle.bit_rows.specs.BitRows.{word_values}
use Rattle.domain_bits.specs.Removals.{at_vertex}
use Rattle.bit_rows.proofs.WordBits.{one_shifted, word_values-pow}
use Rattle.domain_bits.proofs.Cutting.{xor_row}
use Rattle.domain_bits.proofs.row_filters.take_value.Goals as goal

one_value : (t : ℕ) → word_values (t / 64) (1 * 2 ^ (t % 64) % 2 ^ 64) ≡ t ∷ []
one_value t =
    let few : t % 64 < 64 = omega arith in
    let value : 64 * (t / 64) + t % 64 ≡ t = omega arith in
    rw (one_shifted (t % 64) few) (word_values-pow (t / 64) (t % 64) few ∙ ap (λ u. u ∷ []) value)

pub push-requires-clause-room : goal.push-requires-clause-room
push-requires-clause-room g c = omega (arith, ap length (one_value c.args.t), c.requires.room)

pub returns-clause-row : goal.returns-clause-row
returns-clause-row g c u l = rw c.from.ensures (xor_row c.args.domain.now c.args.t c.requires.inside c.requires.here u)

pub returns-clause-trail : goal.returns-clause-trail
returns-clause-trail g c = c.push.ensures.after ∙ ap (λ us. g.T.Trail.removed c.args.trail.now ++ at_vertex c.args.p us) (one_value c.args.t)
