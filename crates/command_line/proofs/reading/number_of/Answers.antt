use Rattle.std.proofs.Common.{◌≡◌, ◌<◌, ◌^◌, true, rules, arith, sym}
use Rattle.std.specs.Str.{all_ascii_digits}
use Rattle.command_line.proofs.Numbers.{each_digit, not_parsed}
use Rattle.command_line.proofs.reading.number_of.Goals as goal

pub returns-in-Err-clause-value : goal.returns-in-Err-clause-value
returns-in-Err-clause-value c =
    let digits : all_ascii_digits c.args.text.now ≡ true = search (rules, each_digit c.args.text.now) in
    let few : c.args.most < 2 ^ 64 = omega arith in
    sym (not_parsed c.args.least c.args.most c.args.text.now _ _ _ few digits c.parse.ensures.value.0 c.in-Err.is)
