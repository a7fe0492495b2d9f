use Rattle.std.proofs.Common.{◌≡◌, ◌∷◌, [], refl, length, subst, sym, Ok, rules}
use Rattle.log_theory.specs.declared.step.Ref.TheVariants.{Made}
use Rattle.log_theory.specs.LogText.{AreRefs}
use Rattle.log_growth.proofs.Going.{goes_stay, goes_as}
use Rattle.dead_paths.specs.Making.{GivesSet}
use Rattle.dead_paths.specs.Explaining.{IsSetPushed}
use Rattle.dead_paths.proofs.LineRefs.{refs_behind, set_pushed_none, set_pushed_made}
use Rattle.dead_paths.proofs.pushes.push_set.Goals as goal

pub returns-then-is_empty-clause-goes : goal.returns-then-is_empty-clause-goes
returns-then-is_empty-clause-goes g c = λ w frame.
    let empty : length c.args.set.now.vertices.now ≡ 0 = search rules in
    let knows = g.M.LineMaker.knows c.args.maker.now c.args.lines.now w in
    goes_stay w (g.K.Keeper.kept c.args.keeper.now) (g.K.Keeper.kept c.args.keeper.now) knows (IsSetPushed c.args.lines.now c.args.set.now.centre c.args.set.now.vertices.now c.args.set.now.values.now w c.args.refs.now.items c.args.refs.now.items knows (Ok tt)) refl
    (λ forms known. (known, set_pushed_none c.args.lines.now c.args.set.now.centre c.args.set.now.vertices.now c.args.set.now.values.now w c.args.refs.now.items forms empty))

pub returns-clause-goes : goal.returns-clause-goes
returns-clause-goes g c = λ w frame.
    let knows = g.M.LineMaker.knows c.args.maker.now c.args.lines.now w in
    let now = g.M.LineMaker.knows c.set.new.self c.args.lines.now w in
    goes_as w (g.K.Keeper.kept c.args.keeper.now) (g.K.Keeper.kept c.set.new.keeper) knows (GivesSet c.args.lines.now w c.args.set.now.centre c.args.set.now.vertices.now c.args.set.now.values.now (Ok c.in_ok-name.name) now) knows
    (IsSetPushed c.args.lines.now c.args.set.now.centre c.args.set.now.vertices.now c.args.set.now.values.now w c.args.refs.now.items c.push.new.self.items now (Ok tt)) (λ forms known. known)
    (λ forms h. (h.0, set_pushed_made c.args.lines.now c.args.set.now.centre c.args.set.now.vertices.now c.args.set.now.values.now w c.in_ok-name.name c.args.refs.now.items c.push.new.self.items forms c.in_ok-push.ensures.items h.1))
    (c.in_ok-name.ensures.goes w frame)

pub returns-clause-fits : goal.returns-clause-fits
returns-clause-fits g c = subst AreRefs (sym c.in_ok-push.ensures.items) (refs_behind c.args.refs.now.items (Made c.in_ok-name.name ∷ []) c.requires.fits (c.in_ok-name.ensures.fits, tt))
