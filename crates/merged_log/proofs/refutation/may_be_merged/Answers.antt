use Rattle.merged_log.proofs.Joining.{merged_well}
use Rattle.merged_log.proofs.refutation.may_be_merged.Goals as goal

pub returns : goal.returns
returns c n finisher model rows clause fs fits few many s all root ends = merged_well n model rows clause c.args.journals.now fs s c.merge_laws.ensures c.ask_all.ensures finisher fits few many all root ends
