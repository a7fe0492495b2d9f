use Rattle.std.proofs.Common.{[], ℕ, ◌<◌, ◌∙◌, refl, sym, ap, subst, List, Ok, arith}
use Rattle.std.specs.Prelude.{map}
use Rattle.graph_theory.specs.Graph.{size}
use Rattle.graph_theory.specs.Embedding.{Problem}
use Rattle.nogood_book.specs.Rows.{Sound, AreInRange}
use Rattle.dead_theory.specs.Changes.{AreInProblem}
use Rattle.std.proofs.lemmas.Result.{err_from_is_err_and}
use Rattle.log_theory.specs.declared.step.Step.TheVariants.{U}
use Rattle.log_theory.specs.LogText.{AreRefs}
use Rattle.explanation_theory.specs.Reasons.{pairs_clause, not_there}
use Rattle.recorder.specs.Recording.{changes_of, set_at}
use Rattle.log_growth.proofs.Going.{goes_kept}
use Rattle.nogood_watch.specs.Nogoods.{literal}
use Rattle.dead_paths.specs.Choosing.{AreAt, chosen_in, AreNameable}
use Rattle.dead_paths.specs.Explaining.{IsLimited, IsEndIn, end_by, Knowing, IsChosenFor, IsBegun, AreGathered, EndExplained}
use Rattle.dead_paths.proofs.Ends.{last_kept, frame_owner, dead_goes, dead_none, dead_refused, dead_follows, chosen_for, guessed_chosen}
use Rattle.dead_paths.proofs.HeldPairs.{vertex_of}
use Rattle.dead_paths.proofs.dead_line.explain.Goals as goal

pub fill_at-requires : goal.fill_at-requires
fill_at-requires g c =
    let is = c.size_of-size.ensures.size ∙ ap (λ (p : Problem). size p.pattern) c.problem-q.ensures in
    record { vertices = λ k below. subst (λ (n : ℕ). (literal c.args.dead.now.path.now k).0 < n) (sym is) (vertex_of c.args.basis.now.lines.now c.args.dead.now.path.now k c.requires.path below) }

pub choose_for-requires-clause-sound : goal.choose_for-requires-clause-sound
choose_for-requires-clause-sound g c = subst (λ (p : Problem). Sound p c.args.basis.now.rows.now) (sym c.problem-q.ensures) c.requires.sound

pub choose_for-requires-clause-in_problem : goal.choose_for-requires-clause-in_problem
choose_for-requires-clause-in_problem g c = subst (λ (p : Problem). AreInProblem p (changes_of c.args.basis.now.numbers.now c.args.dead.now.entries.now)) (sym c.problem-q.ensures) c.requires.in_problem

pub choose_for-requires-clause-end : goal.choose_for-requires-clause-end
choose_for-requires-clause-end g c = subst (λ (p : Problem). IsEndIn p c.args.basis.now.rows.now (end_by c.args.dead.now.end (set_at c.args.basis.now.numbers.now c.args.dead.now.short) [])) (sym c.problem-q.ensures) c.requires.end

pub gather-requires-clause-limited : goal.gather-requires-clause-limited
gather-requires-clause-limited g c = subst IsLimited c.problem-q.ensures c.size_of-size.ensures.limited

pub literals_of-requires-clause-path : goal.literals_of-requires-clause-path
literals_of-requires-clause-path g c = subst (λ (p : Problem). AreInRange p c.args.dead.now.path.now) (sym c.problem-q.ensures) c.requires.path

pub returns-in_err-fill_at-clause-goes : goal.returns-in_err-fill_at-clause-goes
returns-in_err-fill_at-clause-goes g c = λ w values frame dies guessed.
    let err = err_from_is_err_and c.from_residual.result c.from_residual.ensures.1 in
    rw err.1 (dead_refused c.args.basis.now.lines.now c.args.dead.now.path.now w (g.M.LineMaker.knows c.args.maker.now c.args.basis.now.lines.now w) (g.K.Keeper.kept c.args.keeper.now) (Knowing (g.M.LineMaker.knows c.args.maker.now c.args.basis.now.lines.now w) (IsBegun c.args.basis.now.lines.now c.args.basis.now.rows.now w (g.N.RowNames.names c.args.basis.now.names.now) c.args.dead.now.path.now (end_by c.args.dead.now.end (set_at c.args.basis.now.numbers.now c.args.dead.now.short) values) c.args.dead.now.refuted.now)) err.0)

pub gather-requires-clause-nameable : goal.gather-requires-clause-nameable
gather-requires-clause-nameable g c =
    let ats = subst (λ (xs : List ℕ). AreAt xs c.args.dead.now.path.now) (sym c.deref.ensures.value) c.in_ok-fill_at.ensures.known in
    subst (λ (p : Problem). AreNameable p c.args.basis.now.rows.now (chosen_in c.args.basis.now.numbers.now c.choose_for.new.chosen.items)) c.problem-q.ensures (c.in_ok-choose_for.ensures.nameable c.args.dead.now.path.now ats)

pub gather-requires-clause-long : goal.gather-requires-clause-long
gather-requires-clause-long g c =
    let is = c.size_of-size.ensures.size ∙ ap (λ (p : Problem). size p.pattern) c.problem-q.ensures in
    omega (arith, is, c.in_ok-fill_at.ensures.long)

pub returns-in_err-choose_for-clause-goes : goal.returns-in_err-choose_for-clause-goes
returns-in_err-choose_for-clause-goes g c = λ w values frame dies guessed.
    let err = err_from_is_err_and c.from_residual-in_err-choose_for.result c.from_residual-in_err-choose_for.ensures.1 in
    rw err.1 (dead_refused c.args.basis.now.lines.now c.args.dead.now.path.now w (g.M.LineMaker.knows c.args.maker.now c.args.basis.now.lines.now w) (g.K.Keeper.kept c.args.keeper.now) (Knowing (g.M.LineMaker.knows c.args.maker.now c.args.basis.now.lines.now w) (IsBegun c.args.basis.now.lines.now c.args.basis.now.rows.now w (g.N.RowNames.names c.args.basis.now.names.now) c.args.dead.now.path.now (end_by c.args.dead.now.end (set_at c.args.basis.now.numbers.now c.args.dead.now.short) values) c.args.dead.now.refuted.now)) err.0)

pub returns-in_err-gather-clause-goes : goal.returns-in_err-gather-clause-goes
returns-in_err-gather-clause-goes g c = λ w values frame dies guessed.
    let err = err_from_is_err_and c.from_residual-in_err-gather.result c.from_residual-in_err-gather.ensures.1 in
    rw err.1 (dead_none c.args.basis.now.lines.now c.args.dead.now.path.now w (g.M.LineMaker.knows c.gather.new.maker c.args.basis.now.lines.now w) (g.K.Keeper.kept c.args.keeper.now) (g.K.Keeper.kept c.gather.new.keeper) (g.K.Keeper.kept c.gather.new.keeper) (Knowing (g.M.LineMaker.knows c.args.maker.now c.args.basis.now.lines.now w) (IsBegun c.args.basis.now.lines.now c.args.basis.now.rows.now w (g.N.RowNames.names c.args.basis.now.names.now) c.args.dead.now.path.now (end_by c.args.dead.now.end (set_at c.args.basis.now.numbers.now c.args.dead.now.short) values) c.args.dead.now.refuted.now)) (AreGathered c.args.basis.now.lines.now c.args.basis.now.rows.now w c.args.dead.now.path.now (chosen_in c.args.basis.now.numbers.now c.choose_for.new.chosen.items) (end_by c.args.dead.now.end (set_at c.args.basis.now.numbers.now c.args.dead.now.short) values) c.gather.new.refs.items (g.M.LineMaker.knows c.gather.new.maker c.args.basis.now.lines.now w) c.gather.result) err.0 (c.gather.ensures.goes w values frame) refl)

pub returns-in_err-lits-clause-goes : goal.returns-in_err-lits-clause-goes
returns-in_err-lits-clause-goes g c = λ w values frame dies guessed.
    let err = err_from_is_err_and c.from_residual-in_err-lits.result c.from_residual-in_err-lits.ensures.1 in
    rw err.1 (dead_none c.args.basis.now.lines.now c.args.dead.now.path.now w (g.M.LineMaker.knows c.gather.new.maker c.args.basis.now.lines.now w) (g.K.Keeper.kept c.args.keeper.now) (g.K.Keeper.kept c.gather.new.keeper) (g.K.Keeper.kept c.gather.new.keeper) (Knowing (g.M.LineMaker.knows c.args.maker.now c.args.basis.now.lines.now w) (IsBegun c.args.basis.now.lines.now c.args.basis.now.rows.now w (g.N.RowNames.names c.args.basis.now.names.now) c.args.dead.now.path.now (end_by c.args.dead.now.end (set_at c.args.basis.now.numbers.now c.args.dead.now.short) values) c.args.dead.now.refuted.now)) (AreGathered c.args.basis.now.lines.now c.args.basis.now.rows.now w c.args.dead.now.path.now (chosen_in c.args.basis.now.numbers.now c.choose_for.new.chosen.items) (end_by c.args.dead.now.end (set_at c.args.basis.now.numbers.now c.args.dead.now.short) values) c.gather.new.refs.items (g.M.LineMaker.knows c.gather.new.maker c.args.basis.now.lines.now w) (Ok tt)) err.0 (c.in_ok-gather.ensures.goes w values frame) refl)

pub returns-in_err-name-clause-goes : goal.returns-in_err-name-clause-goes
returns-in_err-name-clause-goes g c = λ w values frame dies guessed.
    let err = err_from_is_err_and c.from_residual-in_err-name.result c.from_residual-in_err-name.ensures.1 in
    rw err.1 (dead_none c.args.basis.now.lines.now c.args.dead.now.path.now w (g.M.LineMaker.knows c.gather.new.maker c.args.basis.now.lines.now w) (g.K.Keeper.kept c.args.keeper.now) (g.K.Keeper.kept c.gather.new.keeper) (g.K.Keeper.kept c.keep.new.self) (Knowing (g.M.LineMaker.knows c.args.maker.now c.args.basis.now.lines.now w) (IsBegun c.args.basis.now.lines.now c.args.basis.now.rows.now w (g.N.RowNames.names c.args.basis.now.names.now) c.args.dead.now.path.now (end_by c.args.dead.now.end (set_at c.args.basis.now.numbers.now c.args.dead.now.short) values) c.args.dead.now.refuted.now)) (AreGathered c.args.basis.now.lines.now c.args.basis.now.rows.now w c.args.dead.now.path.now (chosen_in c.args.basis.now.numbers.now c.choose_for.new.chosen.items) (end_by c.args.dead.now.end (set_at c.args.basis.now.numbers.now c.args.dead.now.short) values) c.gather.new.refs.items (g.M.LineMaker.knows c.gather.new.maker c.args.basis.now.lines.now w) (Ok tt)) err.0 (c.in_ok-gather.ensures.goes w values frame) c.in_err-name.ensures.kept)

pub returns-clause-goes : goal.returns-clause-goes
returns-clause-goes g c = λ w values frame dies guessed.
    let here = frame_owner c.args.basis.now.lines.now (g.K.Keeper.owner c.args.keeper.now) (g.K.Keeper.owner c.gather.new.keeper) w c.gather.ensures.rest.owner frame in
    let ats = subst (λ (xs : List ℕ). AreAt xs c.args.dead.now.path.now) (sym c.deref.ensures.value) c.in_ok-fill_at.ensures.known in
    let chosen = subst (λ (p : Problem). IsChosenFor p c.args.basis.now.rows.now c.args.dead.now.path.now (changes_of c.args.basis.now.numbers.now c.args.dead.now.entries.now) (chosen_in c.args.basis.now.numbers.now c.choose_for.new.chosen.items) (end_by c.args.dead.now.end (set_at c.args.basis.now.numbers.now c.args.dead.now.short) [])) c.problem-q.ensures (c.in_ok-choose_for.ensures.choice c.args.dead.now.path.now ats) in
    let lits = c.in_ok-lits.ensures.literals ∙ ap (λ (p : Problem). map (not_there p) c.args.dead.now.path.now) c.problem-q.ensures in
    let choice = chosen_for c.args.basis.now.lines.now c.args.basis.now.rows.now c.args.dead.now.path.now (changes_of c.args.basis.now.numbers.now c.args.dead.now.entries.now) (chosen_in c.args.basis.now.numbers.now c.choose_for.new.chosen.items) c.args.dead.now.end (set_at c.args.basis.now.numbers.now c.args.dead.now.short) values chosen in
    let all = guessed_chosen c.args.basis.now.lines.now c.args.basis.now.rows.now c.args.dead.now.path.now (changes_of c.args.basis.now.numbers.now c.args.dead.now.entries.now) (chosen_in c.args.basis.now.numbers.now c.choose_for.new.chosen.items) choice.needed choice.choice guessed in
    dead_goes c.args.basis.now.lines.now c.args.basis.now.rows.now w c.args.dead.now.path.now (chosen_in c.args.basis.now.numbers.now c.choose_for.new.chosen.items) (end_by c.args.dead.now.end (set_at c.args.basis.now.numbers.now c.args.dead.now.short) values) c.gather.new.refs.items (g.M.LineMaker.knows c.gather.new.maker c.args.basis.now.lines.now w) (g.K.Keeper.kept c.args.keeper.now) (g.K.Keeper.kept c.gather.new.keeper) (g.K.Keeper.kept c.keep.new.self) (Knowing (g.M.LineMaker.knows c.args.maker.now c.args.basis.now.lines.now w) (IsBegun c.args.basis.now.lines.now c.args.basis.now.rows.now w (g.N.RowNames.names c.args.basis.now.names.now) c.args.dead.now.path.now (end_by c.args.dead.now.end (set_at c.args.basis.now.numbers.now c.args.dead.now.short) values) c.args.dead.now.refuted.now)) c.in_ok-name.name (g.met.M.LineMaker.lasts c.gather.new.maker c.args.basis.now.lines.now w)
    (c.in_ok-gather.ensures.goes w values frame)
    (goes_kept w (Ok c.in_ok-name.name) (g.K.Keeper.owner c.gather.new.keeper) (g.K.Keeper.kept c.gather.new.keeper) (g.K.Keeper.kept c.keep.new.self) (U (record { owner = 0; number = 0 }) c.in_ok-lits.lits c.new.result) (pairs_clause c.args.basis.now.lines.now c.args.dead.now.path.now)
    (EndExplained c.args.basis.now.lines.now c.args.basis.now.rows.now w c.args.dead.now.path.now (chosen_in c.args.basis.now.numbers.now c.choose_for.new.chosen.items) (end_by c.args.dead.now.end (set_at c.args.basis.now.numbers.now c.args.dead.now.short) values) c.gather.new.refs.items) here.owner_is c.in_ok-name.ensures.kept
    (c.in_ok-lits.ensures.fits, subst AreRefs (sym c.new.ensures) c.in_ok-gather.ensures.fits)
    (λ forms ended. rw (lits, c.new.ensures)
    (dead_follows c.args.basis.now.lines.now c.args.basis.now.rows.now (g.K.Keeper.owner c.gather.new.keeper) w c.args.dead.now.path.now (changes_of c.args.basis.now.numbers.now c.args.dead.now.entries.now) (chosen_in c.args.basis.now.numbers.now c.choose_for.new.chosen.items) (end_by c.args.dead.now.end (set_at c.args.basis.now.numbers.now c.args.dead.now.short) values) c.gather.new.refs.items (record { owner = 0; number = 0 }) forms (subst IsLimited c.problem-q.ensures c.size_of-size.ensures.limited) here dies choice all ended)))

pub returns-clause-last : goal.returns-clause-last
returns-clause-last g c = last_kept (g.K.Keeper.owner c.gather.new.keeper) c.in_ok-name.name (g.K.Keeper.kept c.gather.new.keeper) (g.K.Keeper.kept c.keep.new.self) (U (record { owner = 0; number = 0 }) c.in_ok-lits.lits c.new.result) c.in_ok-name.ensures.kept
