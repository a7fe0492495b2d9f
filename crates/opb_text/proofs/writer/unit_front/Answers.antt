use Rattle.std.proofs.Common.{◌≡◌, pos, negsuc, refl, rules, arith}
use Rattle.std.proofs.lemmas.Fmt.{decimal_digit}
use Rattle.opb_text.proofs.writer.unit_front.Goals as goal

pub returns-then-coefficient-eq1 : goal.returns-then-coefficient-eq1
returns-then-coefficient-eq1 c = let e : c.args.coefficient ≡ pos 1 = search rules in rw (e, decimal_digit 1 (omega arith)) refl

pub returns-then-coefficient-eqminus1 : goal.returns-then-coefficient-eqminus1
returns-then-coefficient-eqminus1 c = let e : c.args.coefficient ≡ negsuc 0 = search rules in rw (e, decimal_digit 1 (omega arith)) refl
