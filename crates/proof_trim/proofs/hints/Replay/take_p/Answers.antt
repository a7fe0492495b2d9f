use Rattle.std.proofs.Common.{sym, subst}
use Rattle.log_theory.specs.declared.step.Ref.TheVariants.{Made}
use Rattle.log_theory.specs.LogText.{AreRefs}
use Rattle.proof_trim.proofs.Hinting.{refs_more, p_goes}
use Rattle.proof_trim.proofs.hints.Replay.take_p.Goals as goal

pub returns-clause-known : goal.returns-clause-known
returns-clause-known c = subst AreRefs (sym c.in_ok-push.ensures.items) (refs_more _ (Made c.args.name) c.requires.known c.requires.name)

pub returns-clause-goes : goal.returns-clause-goes
returns-clause-goes c = λ u e. p_goes c.args.model.now c.args.self.now.table c.push_made.new.self u c.args.name c.args.ops.now c.in_ok-made.made (c.in_ok-made.ensures c.args.name) c.in_ok-push_made.ensures e
