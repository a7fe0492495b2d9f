use Rattle.std.proofs.Common.{◌≡◌, ◌*◌, length, get_or, ap, arith}
use Rattle.bit_rows.specs.BitRows.{has}
use Rattle.biased_choice.specs.Bias.{below, weight_of, top_degree}
use Rattle.biased_choice.proofs.Totals.{weight_some, total_some}
use Rattle.biased_choice.proofs.all_weights.Goals as goal

pub returns-clause-some : goal.returns-clause-some
returns-clause-some c =
    let row = c.args.row.now in
    let degrees = c.args.degrees.now in
    let last : 64 * c.loop-place.place ≡ 64 * length row = omega arith in
    omega (
      arith,
      c.loop-place.invariant,
      ap (below row degrees) last,
      total_some (has row) (weight_of row degrees) (64 * length row) (λ v. weight_some (top_degree row degrees) (get_or degrees v 0)) c.requires.some,
    )
