use Rattle.std.proofs.Common.{◌-◌, ◌+◌, length, drop, arith, refl, length-drop}
use Rattle.std.proofs.lemmas.List.{take_all}
use Rattle.proof_trim.proofs.LinesRead.{split_at}
use Rattle.proof_trim.proofs.reading.first_line.Goals as goal

pub returns-in-Some : goal.returns-in-Some
returns-in-Some c =
    let l = length-drop (c.in-Some.at + 1) c.args.text.now in
    split_at c.args.text.now c.in-Some.at _ _ refl (take_all (length c.args.text.now - (c.in-Some.at + 1)) (drop (c.in-Some.at + 1) c.args.text.now) (omega arith)) c.in-Some.ensures.0 c.in-Some.ensures.1 c.in-Some.ensures.2
