use Rattle.std.proofs.Common.{◌≡◌, false, Ok, Option, Some, None, refl, sym, ap, subst, ◌∙◌}
use Rattle.std.specs.Prelude.{IfSome, IfNone}
use Rattle.graph_theory.specs.Embedding.{Problem}
use Rattle.graph_theory.specs.Reversed.{reversed_problem, AreMutual}
use Rattle.graph_theory.specs.declared.direction.Direction.TheVariants.{Out, In}
use Rattle.log_theory.specs.declared.step.Ref.{Ref}
use Rattle.encoding_theory.specs.Encoding.{refusal, is_refused}
use Rattle.log_growth.specs.Frames.{IsNamed}
use Rattle.log_growth.proofs.Going.{goes_stay}
use Rattle.domain_lines.specs.Named.{AreUnits}
use Rattle.domain_lines.specs.Given.{IsFrameFor, IsSeen}
use Rattle.domain_lines.proofs.Turning.{frame_turned}
use Rattle.domain_lines.proofs.Composing.{seen_err, made_turned, first_value, large_mutual, none_lacks}
use Rattle.domain_lines.proofs.domain_lines.DomainLines.value_ref.Goals as goal

pub returns-in-Some-clause-goes : goal.returns-in-Some-clause-goes
returns-in-Some-clause-goes g c = λ w frame.
    let out_is : c.self.inside.out ≡ c.args.self.now = c.self.invariant.0 ∙ c.self.view_is in
    goes_stay w (g.K.Keeper.kept c.args.keeper.now) (g.K.Keeper.kept c.args.keeper.now) (AreUnits w c.args.units.now) (IsSeen w c.args.self.now c.args.p c.args.u (Ok (Some c.in-Some.found)) c.args.units.now) refl
    (λ forms units. (
      subst (λ (x : Problem). IsNamed w forms c.in-Some.found (refusal x c.args.p c.args.u)) out_is
          (c.in-Some.ensures.named w (g.K.Keeper.owner c.args.keeper.now) forms
          (subst (λ (x : Problem). IsFrameFor x (g.K.Keeper.owner c.args.keeper.now) w) (sym out_is) (frame_turned Out c.args.self.now (g.K.Keeper.owner c.args.keeper.now) w frame)) units),
      units,
    ))

pub returns-in_default-back-clause-goes : goal.returns-in_default-back-clause-goes
returns-in_default-back-clause-goes g c = λ w frame.
    goes_stay w (g.K.Keeper.kept c.args.keeper.now) (g.K.Keeper.kept c.args.keeper.now) (AreUnits w c.args.units.now) (IsSeen w c.args.self.now c.args.p c.args.u (Ok None) c.args.units.now) refl
    (λ forms units. units)

pub returns-in_default-back-clause-first : goal.returns-in_default-back-clause-first
returns-in_default-back-clause-first g c =
    let q = c.args.self.now in
    let out_is : c.self.inside.out ≡ q = c.self.invariant.0 ∙ c.self.view_is in
    let along = none_lacks q c.self.inside.out c.args.p c.args.u c.lack.result out_is c.in_default-lack.is c.lack.ensures.large in
    first_value q c.args.p c.args.u
    (subst (λ (x : Problem). is_refused x c.args.p c.args.u ≡ false) out_is (subst (λ (o : Option Ref). IfNone o (is_refused c.self.inside.out c.args.p c.args.u ≡ false)) c.in_default.is c.known.ensures.allowed))
    along
    (large_mutual q c.args.p c.args.u (subst AreMutual c.self.view_is (subst (λ (o : Option Problem). IfNone o (AreMutual c.self.inside.problem.now)) c.in_default-back.is c.self.invariant.2)) c.requires.p_in c.requires.u_in along)

pub returns-in_err-lacking_ref-in-Some-lack-2-clause-goes : goal.returns-in_err-lacking_ref-in-Some-lack-2-clause-goes
returns-in_err-lacking_ref-in-Some-lack-2-clause-goes g c = λ w frame.
    let q = c.args.self.now in
    let call = c.lacking_ref-in-Some-lack-2 in
    let fails = c.from_residual-in_err-lacking_ref-in-Some-lack-2 in
    made_turned In w (g.K.Keeper.kept c.args.keeper.now) (g.K.Keeper.kept call.new.keeper) (g.K.Keeper.owner c.args.keeper.now) q c.in-Some-back.back c.args.p c.args.u call.result fails.result c.args.units.now call.new.units
    (subst (λ (o : Option Problem). IfSome o (λ b. b ≡ reversed_problem c.self.inside.problem.now)) c.in-Some-back.is c.self.invariant.1 ∙ ap reversed_problem c.self.view_is) frame
    (λ forms given. seen_err w q c.args.p c.args.u fails.result call.new.units forms fails.ensures.0) (call.ensures.goes w)

pub returns-in_ok-lacking_ref-in-Some-lack-2-clause-goes : goal.returns-in_ok-lacking_ref-in-Some-lack-2-clause-goes
returns-in_ok-lacking_ref-in-Some-lack-2-clause-goes g c = λ w frame.
    let call = c.lacking_ref-in-Some-lack-2 in
    let made = c.in_ok-lacking_ref-in-Some-lack-2 in
    made_turned In w (g.K.Keeper.kept c.args.keeper.now) (g.K.Keeper.kept call.new.keeper) (g.K.Keeper.owner c.args.keeper.now) c.args.self.now c.in-Some-back.back c.args.p c.args.u (Ok made.field-0) (Ok (Some made.field-0)) c.args.units.now call.new.units
    (subst (λ (o : Option Problem). IfSome o (λ b. b ≡ reversed_problem c.self.inside.problem.now)) c.in-Some-back.is c.self.invariant.1 ∙ ap reversed_problem c.self.view_is) frame
    (λ forms given. given) (made.ensures.goes w)

pub returns-in-None-clause-goes : goal.returns-in-None-clause-goes
returns-in-None-clause-goes g c = λ w frame.
    goes_stay w (g.K.Keeper.kept c.args.keeper.now) (g.K.Keeper.kept c.args.keeper.now) (AreUnits w c.args.units.now) (IsSeen w c.args.self.now c.args.p c.args.u (Ok None) c.args.units.now) refl
    (λ forms units. units)

pub returns-in-None-clause-first : goal.returns-in-None-clause-first
returns-in-None-clause-first g c =
    let q = c.args.self.now in
    let out_is : c.self.inside.out ≡ q = c.self.invariant.0 ∙ c.self.view_is in
    let back_is : c.in-Some-back.back ≡ reversed_problem q =
    subst (λ (o : Option Problem). IfSome o (λ b. b ≡ reversed_problem c.self.inside.problem.now)) c.in-Some-back.is c.self.invariant.1 ∙ ap reversed_problem c.self.view_is in
    first_value q c.args.p c.args.u
    (subst (λ (x : Problem). is_refused x c.args.p c.args.u ≡ false) out_is (subst (λ (o : Option Ref). IfNone o (is_refused c.self.inside.out c.args.p c.args.u ≡ false)) c.in_default.is c.known.ensures.allowed))
    (none_lacks q c.self.inside.out c.args.p c.args.u c.lack.result out_is c.in_default-lack.is c.lack.ensures.large)
    (none_lacks (reversed_problem q) c.in-Some-back.back c.args.p c.args.u c.lack-2.result back_is c.in-None.is c.lack-2.ensures.large)
