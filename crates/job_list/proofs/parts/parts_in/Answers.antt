use Rattle.job_list.proofs.Pieces.{no_job_whole, no_job_pattern, no_job_target}
use Rattle.job_list.proofs.parts.parts_in.Goals as goal

pub returns-in_default : goal.returns-in_default
returns-in_default c = no_job_whole c.args.line.now c.in_default.ensures

pub returns-then-not-is_name : goal.returns-then-not-is_name
returns-then-not-is_name c = no_job_pattern c.args.line.now c.in-Some.pattern.now c.in-Some.rest.now c.in-Some.ensures.0 c.in-Some.ensures.1 c.if-not-is_name.ensures

pub returns-in_default-target_in : goal.returns-in_default-target_in
returns-in_default-target_in c = no_job_target c.args.line.now c.in-Some.pattern.now c.in-Some.rest.now c.in-Some.ensures.0 c.in-Some.ensures.1 c.in_default-target_in.ensures
