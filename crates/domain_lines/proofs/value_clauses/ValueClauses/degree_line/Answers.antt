use Rattle.std.proofs.Common.{sym, subst, [], List, arith}
use Rattle.log_theory.specs.declared.step.Ref.{Ref}
use Rattle.encoding_theory.specs.Encoding.{refusal}
use Rattle.log_growth.specs.Frames.{AnyForms, Named, AreNamed, IsKept}
use Rattle.log_growth.proofs.Going.{goes_as}
use Rattle.domain_line_theory.specs.Crowds.{refused_pairs}
use Rattle.domain_line_theory.proofs.HighNeighbours.{degree_laws}
use Rattle.domain_lines.proofs.value_clauses.ValueClauses.degree_line.Goals as goal

pub crowd_line-requires-clause-fewer : goal.crowd_line-requires-clause-fewer
crowd_line-requires-clause-fewer g c = (degree_laws c.args.self.now).degrees c.args.p c.args.u c.requires.u_in c.requires.less

pub crowd_line-requires-clause-there : goal.crowd_line-requires-clause-there
crowd_line-requires-clause-there g c = λ some.
    (degree_laws c.args.self.now).block c.args.p c.args.u 0 c.requires.p_in (omega arith) some ((degree_laws c.args.self.now).degrees c.args.p c.args.u c.requires.u_in c.requires.less)

pub returns-clause-goes : goal.returns-clause-goes
returns-clause-goes g c = λ w frame.
    goes_as w (g.K.Keeper.kept c.args.keeper.now) (g.K.Keeper.kept c.crowd_line.new.keeper) (Named w c.new.result.items (refused_pairs c.args.self.now [])) (IsKept w c.crowd_line.result (refusal c.args.self.now c.args.p c.args.u))
    AnyForms (IsKept w c.crowd_line.result (refusal c.args.self.now c.args.p c.args.u))
    (λ forms any. subst (λ (rs : List Ref). AreNamed w forms rs []) (sym c.new.ensures.items) tt) (λ forms kept. kept)
    (c.crowd_line.ensures.goes w [] frame ((degree_laws c.args.self.now).none_lower c.args.p c.args.u))
