use Rattle.std.proofs.Common.{◌≡◌, ◌∷◌, [], refl, length, subst, sym, Ok, rules}
use Rattle.log_theory.specs.declared.step.Ref.TheVariants.{Made}
use Rattle.log_theory.specs.LogText.{AreRefs}
use Rattle.log_growth.specs.Frames.{AnyForms}
use Rattle.log_growth.proofs.Going.{goes_stay, goes_as}
use Rattle.dead_paths.specs.Lines.{IsCrowdKept}
use Rattle.dead_paths.specs.Explaining.{IsCrowdPushed}
use Rattle.dead_paths.proofs.LineRefs.{refs_behind, crowd_pushed_none}
use Rattle.dead_paths.proofs.pushes.push_crowd.Goals as goal

pub returns-then-is_empty-clause-goes : goal.returns-then-is_empty-clause-goes
returns-then-is_empty-clause-goes g c = λ w frame.
    let empty : length c.args.crowd.now.vertices.now ≡ 0 = search rules in
    goes_stay w (g.K.Keeper.kept c.args.keeper.now) (g.K.Keeper.kept c.args.keeper.now) AnyForms
    (IsCrowdPushed c.args.lines.now c.args.crowd.now.p c.args.crowd.now.t c.args.crowd.now.vertices.now c.args.crowd.now.values.now w c.args.refs.now.items c.args.refs.now.items (Ok tt)) refl
    (λ forms any. crowd_pushed_none c.args.lines.now c.args.crowd.now.p c.args.crowd.now.t c.args.crowd.now.vertices.now c.args.crowd.now.values.now w c.args.refs.now.items forms empty)

pub returns-clause-goes : goal.returns-clause-goes
returns-clause-goes g c = λ w frame.
    goes_as w (g.K.Keeper.kept c.args.keeper.now) (g.K.Keeper.kept c.keep_crowd.new.keeper) AnyForms (IsCrowdKept c.args.lines.now c.args.crowd.now.p c.args.crowd.now.t c.args.crowd.now.vertices.now c.args.crowd.now.values.now w (Ok c.in_ok-name.name)) AnyForms
    (IsCrowdPushed c.args.lines.now c.args.crowd.now.p c.args.crowd.now.t c.args.crowd.now.vertices.now c.args.crowd.now.values.now w c.args.refs.now.items c.push.new.self.items (Ok tt)) (λ forms any. any)
    (λ forms h. record { more = Made c.in_ok-name.name ∷ []; front = c.in_ok-push.ensures.items; named = h }) (c.in_ok-name.ensures.goes w frame)

pub returns-clause-fits : goal.returns-clause-fits
returns-clause-fits g c = subst AreRefs (sym c.in_ok-push.ensures.items) (refs_behind c.args.refs.now.items (Made c.in_ok-name.name ∷ []) c.requires.fits (c.in_ok-name.ensures.name, tt))
