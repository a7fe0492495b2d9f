use Rattle.std.proofs.Common.{sym, subst}
use Rattle.log_theory.specs.declared.step.Ref.TheVariants.{Made}
use Rattle.log_theory.specs.LogText.{AreRefs}
use Rattle.proof_trim.proofs.Hinting.{refs_more}
use Rattle.proof_trim.proofs.hints.Replay.take_u.Goals as goal

pub returns-clause-known : goal.returns-clause-known
returns-clause-known c = subst AreRefs (sym c.in_ok-push.ensures.items) (refs_more _ (Made c.args.name) c.requires.known c.requires.name)
