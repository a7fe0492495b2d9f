use Rattle.job_list.proofs.Pieces.{no_target_whole}
use Rattle.job_list.proofs.parts.whole_target.Goals as goal

pub returns-then-not-is_name : goal.returns-then-not-is_name
returns-then-not-is_name c = no_target_whole c.args.rest.now c.requires c.if-not-is_name.ensures
