use Rattle.std.proofs.Common.{◌≡◌, get_or, rules, arith}
use Rattle.std.specs.Char.{digit_value}
use Rattle.std.specs.Str.{all_ascii_digits}
use Rattle.std.proofs.lemmas.Grind.{common_steps}
use Rattle.std.proofs.lemmas.List.{at_drop_more}
use Rattle.opb_text.proofs.CappedNumbers.{capped_more}
use Rattle.opb_text.proofs.numbers.number_in.Goals as goal

pub loop-b-preserved : goal.loop-b-preserved
loop-b-preserved c =
    let step = at_drop_more all_ascii_digits c.args.word.now c.loop-b.b-index 0 (omega arith) in
    let d : c.from.result ≡ digit_value (get_or c.args.word.now c.loop-b.b-index 0) = search rules in
    record {
      digits = grind (arith, step, common_steps);
      value = rw c.with_digit-value.ensures (capped_more c.loop-b.value c.args.word.now c.loop-b.b-index _ _ (omega arith) d c.loop-b.invariant.value);
      small = omega (arith, c.with_digit-value.ensures);
    }
