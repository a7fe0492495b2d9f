use Rattle.std.proofs.Common.{[], refl}
use Rattle.job_list.proofs.Pieces.{line_of, only_line}
use Rattle.job_list.proofs.reader.first_line.Goals as goal

pub returns-in-Some-clause-line : goal.returns-in-Some-clause-line
returns-in-Some-clause-line c = line_of c.args.text.now _ _ c.in-Some.ensures.0 c.in-Some.ensures.1

pub returns-in-None-clause-line : goal.returns-in-None-clause-line
returns-in-None-clause-line c = only_line c.args.text.now [] c.requires c.in-None.ensures refl
