use Rattle.std.proofs.Common.{sym, subst}
use Rattle.log_theory.specs.declared.step.Ref.TheVariants.{Shared}
use Rattle.log_theory.specs.LogText.{AreRefs}
use Rattle.proof_trim.proofs.Hinting.{refs_more}
use Rattle.proof_trim.proofs.hints.Replay.take_n.Goals as goal

pub returns-in_ok-push-in-Ok-clause-known : goal.returns-in_ok-push-in-Ok-clause-known
returns-in_ok-push-in-Ok-clause-known c = subst AreRefs (sym c.in_ok-push-in-Ok.ensures.items) (refs_more _ (Shared c.args.row) c.requires.known c.requires.row)
