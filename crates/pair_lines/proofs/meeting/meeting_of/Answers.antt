use Rattle.pair_lines.proofs.Meetings.{never_of, around_of, may_local, may_any}
use Rattle.pair_lines.proofs.meeting.meeting_of.Goals as goal

pub returns-in-Injective : goal.returns-in-Injective
returns-in-Injective c = never_of c.args.known.now c.in-Injective.ensures

pub returns-in-Some : goal.returns-in-Some
returns-in-Some c = around_of c.args.known.now c.args.p c.args.r c.in-Some.c c.in-Local.ensures c.requires.p_in c.requires.r_in c.requires.others c.in-Some.ensures

pub returns-in-None : goal.returns-in-None
returns-in-None c = may_local c.args.known.now c.args.p c.args.r c.in-Local.ensures c.in-None.ensures

pub returns-in-Any : goal.returns-in-Any
returns-in-Any c = may_any c.args.known.now c.args.p c.args.r c.in-Any.ensures
