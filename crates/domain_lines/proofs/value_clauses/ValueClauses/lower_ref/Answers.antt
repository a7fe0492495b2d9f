use Rattle.std.proofs.Common.{refl, Ok, sym, subst, ℕ}
use Rattle.log_theory.specs.declared.step.Ref.TheVariants.{Made}
use Rattle.encoding_theory.specs.Encoding.{refusal}
use Rattle.log_growth.specs.Frames.{IsNamed}
use Rattle.log_growth.proofs.Going.{goes_stay}
use Rattle.domain_lines.specs.Named.{AreUnits, is_false}
use Rattle.domain_lines.specs.Given.{IsGiven}
use Rattle.domain_lines.proofs.Composing.{remembered, refused_err}
use Rattle.domain_lines.proofs.value_clauses.ValueClauses.lower_ref.Goals as goal

pub returns-in-Some-clause-goes : goal.returns-in-Some-clause-goes
returns-in-Some-clause-goes g c = λ w frame.
    goes_stay w (g.K.Keeper.kept c.args.keeper.now) (g.K.Keeper.kept c.args.keeper.now) (AreUnits w c.args.units.now) (IsGiven w (Ok c.in-Some.found) (refusal c.args.self.now c.args.p c.args.u) c.args.units.now) refl
    (λ forms units. (c.in-Some.ensures.named w (g.K.Keeper.owner c.args.keeper.now) forms frame units, units))

pub returns-in_err-name-clause-goes : goal.returns-in_err-name-clause-goes
returns-in_err-name-clause-goes g c = λ w frame.
    refused_err w (g.K.Keeper.kept c.args.keeper.now) (g.K.Keeper.kept c.degree_line.new.keeper) c.degree_line.result c.from_residual.result (refusal c.args.self.now c.args.p c.args.u) c.args.units.now c.args.units.now
    c.from_residual.ensures.0 (c.degree_line.ensures.goes w frame)

pub returns-clause-goes : goal.returns-clause-goes
returns-clause-goes g c = λ w frame.
    remembered w (g.K.Keeper.kept c.args.keeper.now) (g.K.Keeper.kept c.degree_line.new.keeper) c.in_ok-name.name c.remember.result (refusal c.args.self.now c.args.p c.args.u) c.args.units.now c.remember.new.units
    (c.in_ok-name.ensures.goes w frame)
    (λ forms units named. subst (λ (v : ℕ). IsGiven w c.remember.result (is_false v) c.remember.new.units forms) c.variable.ensures
    (c.remember.ensures.given w forms units (subst (λ (v : ℕ). IsNamed w forms (Made c.in_ok-name.name) (is_false v)) (sym c.variable.ensures) named)))
