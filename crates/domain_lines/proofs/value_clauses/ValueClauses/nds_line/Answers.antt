use Rattle.std.proofs.Common.{◌<◌, ◌∙◌, ℕ, List, [], refl, sym, subst}
use Rattle.log_theory.specs.declared.step.Ref.{Ref}
use Rattle.encoding_theory.specs.Encoding.{refusal}
use Rattle.log_growth.specs.Frames.{Named, AreNamed}
use Rattle.log_growth.proofs.Going.{goes_stay, goes_as}
use Rattle.domain_line_theory.specs.Crowds.{refused_pairs, high_count, place_count}
use Rattle.domain_line_theory.proofs.HighNeighbours.{degree_laws}
use Rattle.domain_lines.specs.Named.{AreUnits}
use Rattle.domain_lines.specs.Given.{HasPairs, ArePushed, IsMade, all_pairs}
use Rattle.domain_lines.proofs.Crowds.{chosen_all_lower, all_lower, fails_injective, whole_there}
use Rattle.domain_lines.proofs.Composing.{made_err, made_beside, frame_for_moved}
use Rattle.domain_lines.proofs.value_clauses.ValueClauses.nds_line.Goals as goal

pub returns-in_err-vertices-clause-goes : goal.returns-in_err-vertices-clause-goes
returns-in_err-vertices-clause-goes g c = λ w frame.
    goes_stay w (g.K.Keeper.kept c.args.keeper.now) (g.K.Keeper.kept c.args.keeper.now) (AreUnits w c.args.units.now) (IsMade w c.from_residual.result (refusal c.args.self.now c.args.p c.args.u) c.args.units.now) refl
    (λ forms units. made_err w c.from_residual.result (refusal c.args.self.now c.args.p c.args.u) c.args.units.now forms c.from_residual.ensures.0)

pub returns-in_err-lower-clause-goes : goal.returns-in_err-lower-clause-goes
returns-in_err-lower-clause-goes g c = λ w frame.
    goes_stay w (g.K.Keeper.kept c.args.keeper.now) (g.K.Keeper.kept c.args.keeper.now) (AreUnits w c.args.units.now) (IsMade w c.from_residual-in_err-lower.result (refusal c.args.self.now c.args.p c.args.u) c.args.units.now) refl
    (λ forms units. made_err w c.from_residual-in_err-lower.result (refusal c.args.self.now c.args.p c.args.u) c.args.units.now forms c.from_residual-in_err-lower.ensures.0)

pub push_pairs-requires-clause-lower : goal.push_pairs-requires-clause-lower
push_pairs-requires-clause-lower g c =
    chosen_all_lower c.args.self.now c.args.p c.args.u c.degree_at-d.result c.deref.result.now c.deref-2.result.now (fails_injective c.args.self.now c.args.p c.args.u c.args.place c.requires.fails)
    (c.deref.ensures.value ∙ (rw c.self.view_is at c.in_ok-vertices.ensures))
    (c.deref-2.ensures.value ∙ (rw c.self.view_is at c.in_ok-lower.ensures))

pub returns-in_err-push_pairs-clause-goes : goal.returns-in_err-push_pairs-clause-goes
returns-in_err-push_pairs-clause-goes g c = λ w frame.
    goes_as w (g.K.Keeper.kept c.args.keeper.now) (g.K.Keeper.kept c.push_pairs.new.keeper) (HasPairs w c.args.self.now c.new-clauses.result.items [] c.args.units.now)
    (ArePushed w c.args.self.now c.push_pairs.result c.push_pairs.new.refs.items (all_pairs c.deref.result.now c.deref-2.result.now) c.push_pairs.new.units)
    (AreUnits w c.args.units.now) (IsMade w c.from_residual-in_err-push_pairs.result (refusal c.args.self.now c.args.p c.args.u) c.push_pairs.new.units)
    (λ forms units. (subst (λ (rs : List Ref). AreNamed w forms rs []) (sym c.new-clauses.ensures.items) tt, units))
    (λ forms has. made_err w c.from_residual-in_err-push_pairs.result (refusal c.args.self.now c.args.p c.args.u) c.push_pairs.new.units forms c.from_residual-in_err-push_pairs.ensures.0)
    (c.push_pairs.ensures.goes w [] frame)

pub crowd_line-requires-clause-fewer : goal.crowd_line-requires-clause-fewer
crowd_line-requires-clause-fewer g c =
    subst (λ (d : ℕ). place_count c.args.self.now c.args.u d < high_count c.args.self.now.pattern c.args.p d) (sym c.degree_at-d.ensures)
    ((degree_laws c.args.self.now).sequences c.args.p c.args.u c.args.place c.requires.fails)

pub crowd_line-requires-clause-there : goal.crowd_line-requires-clause-there
crowd_line-requires-clause-there g c = λ some. whole_there c.args.self.now c.args.p (fails_injective c.args.self.now c.args.p c.args.u c.args.place c.requires.fails)

pub returns-clause-goes : goal.returns-clause-goes
returns-clause-goes g c = λ w frame.
    made_beside w (g.K.Keeper.kept c.args.keeper.now) (g.K.Keeper.kept c.push_pairs.new.keeper) (g.K.Keeper.kept c.crowd_line.new.keeper) (AreUnits w c.args.units.now)
    (Named w c.push_pairs.new.refs.items (refused_pairs c.args.self.now (all_pairs c.deref.result.now c.deref-2.result.now))) c.crowd_line.result (refusal c.args.self.now c.args.p c.args.u) c.push_pairs.new.units
    (goes_as w (g.K.Keeper.kept c.args.keeper.now) (g.K.Keeper.kept c.push_pairs.new.keeper) (HasPairs w c.args.self.now c.new-clauses.result.items [] c.args.units.now)
    (HasPairs w c.args.self.now c.push_pairs.new.refs.items (all_pairs c.deref.result.now c.deref-2.result.now) c.push_pairs.new.units)
    (AreUnits w c.args.units.now) (HasPairs w c.args.self.now c.push_pairs.new.refs.items (all_pairs c.deref.result.now c.deref-2.result.now) c.push_pairs.new.units)
    (λ forms units. (subst (λ (rs : List Ref). AreNamed w forms rs []) (sym c.new-clauses.ensures.items) tt, units))
    (λ forms has. has)
    (c.in_ok-push_pairs.ensures.goes w [] frame))
    (c.crowd_line.ensures.goes w (all_pairs c.deref.result.now c.deref-2.result.now)
    (frame_for_moved c.args.self.now (g.K.Keeper.owner c.args.keeper.now) (g.K.Keeper.owner c.push_pairs.new.keeper) w c.in_ok-push_pairs.ensures.rest.owner frame)
    (all_lower c.args.self.now c.args.p c.args.u c.degree_at-d.result c.deref.result.now c.deref-2.result.now
    (c.deref.ensures.value ∙ (rw c.self.view_is at c.in_ok-vertices.ensures))
    (c.deref-2.ensures.value ∙ (rw c.self.view_is at c.in_ok-lower.ensures))))
