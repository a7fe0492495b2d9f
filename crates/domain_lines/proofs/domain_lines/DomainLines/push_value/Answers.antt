use Rattle.std.proofs.Common.{Ok, Option, sym, subst}
use Rattle.std.specs.Prelude.{IfSome, IfNone}
use Rattle.search_theory.specs.Consistency.{IsFirstValue}
use Rattle.log_theory.specs.declared.step.Ref.{Ref}
use Rattle.log_theory.specs.LogText.{AreRefs, IsRef}
use Rattle.log_growth.specs.Frames.{Goes}
use Rattle.domain_lines.specs.Named.{AreUnits}
use Rattle.domain_lines.specs.Given.{IsSeen}
use Rattle.domain_lines.proofs.Composing.{value_pushed, value_passed, refs_pushed}
use Rattle.domain_lines.proofs.domain_lines.DomainLines.push_value.Goals as goal

pub returns-in_ok-push-in-Some-clause-goes : goal.returns-in_ok-push-in-Some-clause-goes
returns-in_ok-push-in-Some-clause-goes g c = λ w frame.
    value_pushed w c.args.self.now (g.K.Keeper.kept c.args.keeper.now) (g.K.Keeper.kept c.value_ref.new.keeper) c.args.p c.args.u c.args.refs.now.items c.args.units.now c.value_ref.new.units c.in-Some.clause c.push.new.self.items
    c.in_ok-push-in-Some.ensures.items
    (subst (λ (o : Option Ref). Goes w (g.K.Keeper.kept c.args.keeper.now) (g.K.Keeper.kept c.value_ref.new.keeper) (AreUnits w c.args.units.now) (IsSeen w c.args.self.now c.args.p c.args.u (Ok o) c.value_ref.new.units)) c.in-Some.is (c.in_ok-clause.ensures.goes w frame))

pub returns-in_ok-push-in-Some-clause-fits : goal.returns-in_ok-push-in-Some-clause-fits
returns-in_ok-push-in-Some-clause-fits g c =
    subst AreRefs (sym c.in_ok-push-in-Some.ensures.items) (refs_pushed c.args.refs.now.items c.in-Some.clause c.requires.fits (subst (λ (o : Option Ref). IfSome o IsRef) c.in-Some.is c.in_ok-clause.ensures.fits))

pub returns-in-None-clause-goes : goal.returns-in-None-clause-goes
returns-in-None-clause-goes g c = λ w frame.
    value_passed w c.args.self.now (g.K.Keeper.kept c.args.keeper.now) (g.K.Keeper.kept c.value_ref.new.keeper) c.args.p c.args.u c.args.refs.now.items c.args.units.now c.value_ref.new.units
    (subst (λ (o : Option Ref). IfNone o (IsFirstValue c.args.self.now c.args.p c.args.u)) c.in-None.is c.in_ok-clause.ensures.first)
    (subst (λ (o : Option Ref). Goes w (g.K.Keeper.kept c.args.keeper.now) (g.K.Keeper.kept c.value_ref.new.keeper) (AreUnits w c.args.units.now) (IsSeen w c.args.self.now c.args.p c.args.u (Ok o) c.value_ref.new.units)) c.in-None.is (c.in_ok-clause.ensures.goes w frame))
