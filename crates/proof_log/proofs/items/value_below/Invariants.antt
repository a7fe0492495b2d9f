use Rattle.std.proofs.Common.{◌≡◌, ◌<◌, drop}
use Rattle.std.specs.Str.{all_ascii_digits}
use Rattle.std.specs.Str.Parse.{digits_value, digits_value_after}
use Rattle.proof_log.proofs.items.value_below.Given as goal

abbrev pub invariant-loop-b : goal.invariant-loop-b
invariant-loop-b l = record {
  digits : all_ascii_digits (drop l.b-index l.word) ≡ all_ascii_digits l.word;
  value : digits_value_after 10 l.value (drop l.b-index l.word) ≡ digits_value 10 l.word;
  small : l.value < l.most;
}
