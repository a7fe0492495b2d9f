use Rattle.std.proofs.Common.{ℕ, List, Err, refl, sym, subst}
use Rattle.std.specs.List.Sorted.{IsPermutation}
use Rattle.std.proofs.lemmas.Result.{err_from_is_err_and}
use Rattle.log_growth.proofs.Going.{goes_stay}
use Rattle.dead_paths.specs.Making.{GivesSet}
use Rattle.line_cache.specs.Sets.{AreSets, IsKnownSet}
use Rattle.line_cache.specs.Made.{IsMade}
use Rattle.line_cache.proofs.Known.{set_same}
use Rattle.line_cache.proofs.Giving.{goes_more, set_given}
use Rattle.line_cache.proofs.maker.LineCacheLineMaker.set.Goals as goal

pub returns-in_err-members-clause-goes : goal.returns-in_err-members-clause-goes
returns-in_err-members-clause-goes g c = λ w frame.
    let j = c.args.self.now in
    let err = err_from_is_err_and c.from_residual.result c.from_residual.ensures.1 in
    rw err.1 (goes_stay w (g.K.Keeper.kept c.args.keeper.now) (g.K.Keeper.kept c.args.keeper.now) (IsMade c.args.lines.now j.problem.now w j.units j.firsts j.rows j.sets)
    (GivesSet c.args.lines.now w c.args.set.now.centre c.args.set.now.vertices.now c.args.set.now.values.now (Err err.0) (IsMade c.args.lines.now j.problem.now w j.units j.firsts j.rows j.sets)) refl (λ forms h. tt))

pub set_line-requires-clause-in_problem : goal.set_line-requires-clause-in_problem
set_line-requires-clause-in_problem g c =
    let sorted : IsPermutation c.args.set.now.vertices.now c.sort_unstable.new.self.items = subst (λ (xs : List ℕ). IsPermutation xs c.sort_unstable.new.self.items) c.in_ok-members.ensures.items c.sort_unstable.ensures.permutation in
    let same : IsPermutation c.args.set.now.vertices.now c.deref.result.now = subst (IsPermutation c.args.set.now.vertices.now) (sym c.deref.ensures.value) sorted in
    set_same c.args.lines.now c.args.set.now.centre c.args.set.now.vertices.now c.deref.result.now c.args.set.now.values.now same c.requires.in_problem

pub returns-clause-goes : goal.returns-clause-goes
returns-clause-goes g c = λ w frame.
    let j = c.args.self.now in
    let q = c.args.lines.now in
    let owner = g.K.Keeper.owner c.args.keeper.now in
    let old = g.K.Keeper.kept c.args.keeper.now in
    let new = g.K.Keeper.kept c.set_line.new.keeper in
    let now = c.set_line.new.sets in
    let sorted : IsPermutation c.args.set.now.vertices.now c.sort_unstable.new.self.items = subst (λ (xs : List ℕ). IsPermutation xs c.sort_unstable.new.self.items) c.in_ok-members.ensures.items c.sort_unstable.ensures.permutation in
    let same : IsPermutation c.args.set.now.vertices.now c.deref.result.now = subst (IsPermutation c.args.set.now.vertices.now) (sym c.deref.ensures.value) sorted in
    goes_more w old new (AreSets q w j.sets) (IsKnownSet q w c.args.set.now.centre c.deref.result.now c.args.set.now.values.now now c.set_line.result) (IsMade q j.problem.now w j.units j.firsts j.rows j.sets)
    (GivesSet q w c.args.set.now.centre c.args.set.now.vertices.now c.args.set.now.values.now c.set_line.result (IsMade q j.problem.now w j.units j.firsts j.rows now)) (c.set_line.ensures.goes w frame) (λ forms h. h.sets_are)
    (λ forms more h known. set_given q j.problem.now w j.units j.firsts j.rows j.sets now c.args.set.now.centre c.args.set.now.vertices.now c.deref.result.now c.args.set.now.values.now c.set_line.result forms more same h known)
