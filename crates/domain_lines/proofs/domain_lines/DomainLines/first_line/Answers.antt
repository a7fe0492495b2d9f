use Rattle.std.proofs.Common.{◌≡◌, ◌+◌, ◌<◌, ◌∙◌, ◌==◌, ℕ, List, length, zero, suc, false, true, Ok, Some, None, sym, ap, subst, arith}
use Rattle.std.proofs.lemmas.Bool.{eqb-true}
use Rattle.graph_theory.specs.Graph.{size}
use Rattle.graph_theory.specs.Embedding.{Problem}
use Rattle.log_theory.specs.declared.step.Ref.{Ref}
use Rattle.log_theory.specs.LogText.{AreRefs}
use Rattle.log_growth.proofs.Going.{goes_then, goes_as}
use Rattle.domain_lines.specs.Named.{AreUnits}
use Rattle.domain_lines.specs.Given.{HasValues, AreCollected, IsFirstLine}
use Rattle.domain_lines.proofs.Composing.{line_err, frame_moved, none_seen, first_none, first_summed, first_fails}
use Rattle.journals.proofs.Rests.{rest_same, rest_then}
use Rattle.domain_lines.proofs.domain_lines.DomainLines.first_line.Goals as goal

not_none : (n : ℕ) → (n == 0) ≡ false → 0 < n
not_none zero e = let bad : true ≡ false = e in absurd cc
not_none (suc n) e = omega arith

pub loop-u-init : goal.loop-u-init
loop-u-init g c = record {
  goes = λ w frame. none_seen w c.args.self.now (g.K.Keeper.kept c.args.keeper.now) c.args.p c.new-refs.result.items c.args.units.now c.new-refs.ensures.items;
  fits = subst AreRefs (sym c.new-refs.ensures.items) tt;
  few = let e = ap (λ (rs : List Ref). length rs) c.new-refs.ensures.items in omega (arith, e);
  rest = rest_same;
}

pub push_value-requires-clause-fits : goal.push_value-requires-clause-fits
push_value-requires-clause-fits g c = c.loop-u.invariant.fits

pub returns-in_err-push_value-clause-goes : goal.returns-in_err-push_value-clause-goes
returns-in_err-push_value-clause-goes g c = λ w frame.
    goes_then w (g.K.Keeper.kept c.args.keeper.now) (g.K.Keeper.kept c.loop-u.keeper) (g.K.Keeper.kept c.push_value.new.keeper) (AreUnits w c.args.units.now) (HasValues w c.args.self.now c.args.p c.loop-u.refs.items c.loop-u.u c.loop-u.units)
    (IsFirstLine w c.args.self.now c.args.p c.from_residual.result c.push_value.new.units)
    (c.loop-u.invariant.goes w frame)
    (goes_as w (g.K.Keeper.kept c.loop-u.keeper) (g.K.Keeper.kept c.push_value.new.keeper) (HasValues w c.args.self.now c.args.p c.loop-u.refs.items c.loop-u.u c.loop-u.units)
    (AreCollected w c.args.self.now c.args.p c.push_value.result c.push_value.new.refs.items (c.loop-u.u + 1) c.push_value.new.units) (HasValues w c.args.self.now c.args.p c.loop-u.refs.items c.loop-u.u c.loop-u.units)
    (IsFirstLine w c.args.self.now c.args.p c.from_residual.result c.push_value.new.units)
    (λ forms has. has) (λ forms has. line_err w c.args.self.now c.args.p c.from_residual.result c.push_value.new.units forms c.from_residual.ensures.0)
    (c.push_value.ensures.goes w (frame_moved c.args.self.now (g.K.Keeper.owner c.args.keeper.now) (g.K.Keeper.owner c.loop-u.keeper) w c.loop-u.invariant.rest.owner frame)))

pub loop-u-preserved : goal.loop-u-preserved
loop-u-preserved g c = record {
  goes = λ w frame.
      goes_then w (g.K.Keeper.kept c.args.keeper.now) (g.K.Keeper.kept c.loop-u.keeper) (g.K.Keeper.kept c.push_value.new.keeper) (AreUnits w c.args.units.now) (HasValues w c.args.self.now c.args.p c.loop-u.refs.items c.loop-u.u c.loop-u.units)
      (HasValues w c.args.self.now c.args.p c.push_value.new.refs.items (c.loop-u.u + 1) c.push_value.new.units)
      (c.loop-u.invariant.goes w frame)
      (c.in_ok-push_value.ensures.goes w (frame_moved c.args.self.now (g.K.Keeper.owner c.args.keeper.now) (g.K.Keeper.owner c.loop-u.keeper) w c.loop-u.invariant.rest.owner frame));
  fits = c.in_ok-push_value.ensures.fits;
  few = let h = c.loop-u.invariant.few in let e = c.push_value.ensures.few in omega (arith, h, e);
  rest = rest_then c.loop-u.invariant.rest c.in_ok-push_value.ensures.rest;
}

pub returns-then-is_empty-clause-goes : goal.returns-then-is_empty-clause-goes
returns-then-is_empty-clause-goes g c = λ w frame.
    let all : size c.target.result.now ≡ size c.args.self.now.target = ap size (c.target.ensures.target ∙ ap (λ (q : Problem). q.target) c.self.view_is) in
    goes_as w (g.K.Keeper.kept c.args.keeper.now) (g.K.Keeper.kept c.loop-u.keeper) (AreUnits w c.args.units.now) (HasValues w c.args.self.now c.args.p c.loop-u.refs.items c.loop-u.u c.loop-u.units)
    (AreUnits w c.args.units.now) (IsFirstLine w c.args.self.now c.args.p (Ok None) c.loop-u.units) (λ forms units. units)
    (λ forms has. first_none w c.args.self.now c.args.p c.loop-u.u c.loop-u.refs.items c.loop-u.units forms (let e = eqb-true c.loop-u.refs.len 0 (sym c.is_empty.ensures ∙ c.if-is_empty.true) in omega (arith, e, c.loop-u.refs.ok)) (omega (arith, all, c.size-u-end.ensures.size, c.loop-u-test.false)) has)
    (c.loop-u.invariant.goes w frame)

pub returns-in_err-keep_sum-clause-goes : goal.returns-in_err-keep_sum-clause-goes
returns-in_err-keep_sum-clause-goes g c = λ w frame.
    goes_then w (g.K.Keeper.kept c.args.keeper.now) (g.K.Keeper.kept c.loop-u.keeper) (g.K.Keeper.kept c.keep_sum.new.keeper) (AreUnits w c.args.units.now) (HasValues w c.args.self.now c.args.p c.loop-u.refs.items c.loop-u.u c.loop-u.units)
    (IsFirstLine w c.args.self.now c.args.p c.from_residual-in_err-keep_sum.result c.loop-u.units)
    (c.loop-u.invariant.goes w frame)
    (first_fails w c.args.self.now (g.K.Keeper.kept c.loop-u.keeper) (g.K.Keeper.kept c.keep_sum.new.keeper) c.args.p c.loop-u.u c.loop-u.refs.items c.deref.result.now c.loop-u.units c.keep_sum.result c.from_residual-in_err-keep_sum.result
    c.from_residual-in_err-keep_sum.ensures.0 c.deref.ensures.value (let few = c.loop-u.invariant.few in omega (arith, few, c.loop-u.auto.u-end, c.size-u-end.ensures.few)) (let e = not_none c.loop-u.refs.len (sym c.is_empty.ensures ∙ c.if-is_empty.false) in omega (arith, e, c.loop-u.refs.ok))
    (λ f gs add. c.keep_sum.ensures.goes w f gs (frame.owner_is ∙ sym c.loop-u.invariant.rest.owner) add))

pub returns-clause-goes : goal.returns-clause-goes
returns-clause-goes g c = λ w frame.
    let all : size c.target.result.now ≡ size c.args.self.now.target = ap size (c.target.ensures.target ∙ ap (λ (q : Problem). q.target) c.self.view_is) in
    goes_then w (g.K.Keeper.kept c.args.keeper.now) (g.K.Keeper.kept c.loop-u.keeper) (g.K.Keeper.kept c.keep_sum.new.keeper) (AreUnits w c.args.units.now) (HasValues w c.args.self.now c.args.p c.loop-u.refs.items c.loop-u.u c.loop-u.units)
    (IsFirstLine w c.args.self.now c.args.p (Ok (Some c.in_ok-keep_sum.field-0)) c.loop-u.units)
    (c.loop-u.invariant.goes w frame)
    (first_summed w c.args.self.now (g.K.Keeper.kept c.loop-u.keeper) (g.K.Keeper.kept c.keep_sum.new.keeper) c.args.p c.loop-u.u c.loop-u.refs.items c.deref.result.now c.loop-u.units c.in_ok-keep_sum.field-0 c.deref.ensures.value (let few = c.loop-u.invariant.few in omega (arith, few, c.loop-u.auto.u-end, c.size-u-end.ensures.few)) (let e = not_none c.loop-u.refs.len (sym c.is_empty.ensures ∙ c.if-is_empty.false) in omega (arith, e, c.loop-u.refs.ok))
    (omega (arith, all, c.size-u-end.ensures.size, c.loop-u-test.false))
    (λ f gs add. c.in_ok-keep_sum.ensures.goes w f gs (frame.owner_is ∙ sym c.loop-u.invariant.rest.owner) add))
