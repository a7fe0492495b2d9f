use Rattle.std.proofs.Common.{◌≡◌, ◌+◌, ◌≤◌, ◌^◌, drop}
use Rattle.std.specs.Str.{all_ascii_digits}
use Rattle.std.specs.Str.Parse.{digits_value, digits_value_after}
use Rattle.opb_text.specs.Kinds.{capped}
use Rattle.opb_text.proofs.numbers.number_in.Given as goal

abbrev pub invariant-loop-b : goal.invariant-loop-b
invariant-loop-b l = record {
  digits : all_ascii_digits (drop l.b-index l.word) ≡ all_ascii_digits l.word;
  value : capped (digits_value_after 10 l.value (drop l.b-index l.word)) ≡ capped (digits_value 10 l.word);
  small : l.value ≤ 2 ^ 125 + 1;
}
