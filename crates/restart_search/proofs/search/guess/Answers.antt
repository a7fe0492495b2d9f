use Rattle.std.proofs.Common.{ℕ, ◌<◌, Bool, true, List, IfSome, slice_set, length, ◌∷◌, [], length-append, refl, ap, subst, sym, ◌∙◌, arith}
use Rattle.graph_theory.specs.Path.{Dead}
use Rattle.search_theory.specs.Account.{Account, Honest, path}
use Rattle.restart_search.specs.declared.position.Moment.{Moment}
use Rattle.restart_search.specs.Acting.{WereActedOn}
use Rattle.propagation.proofs.Acting.{kept_assigned}
use Rattle.restart_search.proofs.Moments.{were_guessed, acting_guessed}
use Rattle.propagation.proofs.Holding.{holds_same, same_moved}
use Rattle.restart_search.proofs.Logging.{told_guessed, ends_path}
use Rattle.restart_search.proofs.Guessing.{ready_assigned, inside_assigned, dead_assigned, path_deepened}
use Rattle.propagation.proofs.Past.{leaves_on}
use Rattle.restart_search.proofs.Runs.{within_guess, within_fail, within_on}
use Rattle.restart_search.proofs.Steps.{guessed_room, based_narrowed, sound_guessed}
use Rattle.recorder.specs.Telling.{IsOf}
use Rattle.propagation.proofs.Waiting.{first_on}
use Rattle.propagation.proofs.Visits.{single_of}
use Rattle.propagation.proofs.Narrowing.{is_of_narrowed}
use Rattle.propagation.specs.Propagation.{Ready}
use Rattle.propagation.specs.Acting.{WatchesWait}
use Rattle.propagation.specs.Learning.{Filtering}
use Rattle.restart_search.proofs.Written.{kept_long}
use Rattle.restart_search.proofs.search.guess.Goals as goal

pub push_reserved-requires : goal.push_reserved-requires
push_reserved-requires g c =
    let room = guessed_room c.args.q.now c.args.position.now.domains c.args.position.now.undecided c.args.position.now.account c.args.position.now.marks.items c.args.position.now.root _ c.requires.sound.based.levels c.deepen.ensures.few c.requires.sound.based.honest.pattern_is c.requires.room in
    omega (arith, room, c.args.position.now.marks.ok.0)

pub propagate-requires-clause-ready : goal.propagate-requires-clause-ready
propagate-requires-clause-ready g c =
    let p_in = subst (λ (n : ℕ). c.args.pair.0 < n) c.requires.sound.based.honest.pattern_is c.requires.may.vertex_in in
    subst (λ (ws : List Bool). Ready c.args.q.now c.give.new.d ws) (sym c.deref_mut.ensures.value)
    (subst (λ (i : ℕ). Ready c.args.q.now c.give.new.d (slice_set c.args.propagator.now.waiting.items i true)) (sym c.from.ensures)
    (ready_assigned _ _ _ _ _ _ _ c.requires.sound.here.quiet c.give.ensures.keeps c.give.ensures.single.here c.requires.long p_in))

pub propagate-requires-clause-left : goal.propagate-requires-clause-left
propagate-requires-clause-left g c = leaves_on _ c.args.position.now.domains c.give.new.d _ c.give.ensures.keeps.shrinks.less c.requires.sound.left

pub propagate-requires-clause-first : goal.propagate-requires-clause-first
propagate-requires-clause-first g c =
    first_on _ c.args.position.now.domains c.give.new.d c.give.ensures.keeps.shrinks.less c.requires.sound.here.quiet.first

pub take_back-requires-clause-based : goal.take_back-requires-clause-based
take_back-requires-clause-based g c =
    let told = c.in-Err.ensures.propagated in
    rw (c.deepen.ensures.deepened, c.push_reserved.ensures.items)
    (based_narrowed _ _ _ _ c.args.position.now.undecided _ _ _ _ _ _ _ _ c.requires.sound c.give.ensures.keeps told.0 c.in-Err.ensures.fewer c.present-moment.ensures
    (subst (λ (a : Account). Honest c.args.q.now a) c.deepen.ensures.deepened c.deepen.ensures.honest))

pub take_back-requires-clause-dead : goal.take_back-requires-clause-dead
take_back-requires-clause-dead g c =
    let told = c.in-Err.ensures.propagated in
    subst (λ (a : Account). Dead c.args.q.now (path a)) (sym c.deepen.ensures.deepened)
    (subst (λ (ps : List (ℕ × ℕ)). Dead c.args.q.now ps) (sym (path_deepened c.args.position.now.account c.args.pair.0 c.args.pair.1))
    (dead_assigned _ _ c.give.new.d _ _
    (inside_assigned _ _ c.args.position.now.domains c.give.new.d _ _ _ c.requires.sound.here.stands c.give.ensures.keeps (single_of _ _ _ c.give.ensures.single)) told.1))

pub returns-in-Ok-clause-sound : goal.returns-in-Ok-clause-sound
returns-in-Ok-clause-sound g c =
    let told = c.in-Ok.ensures.propagated in
    rw (c.deepen.ensures.deepened, c.push_reserved.ensures.items)
    (sound_guessed _ _ _ _ c.args.position.now.undecided _ _ _ _ _ _ _ _ c.requires.sound c.give.ensures.keeps (single_of _ _ _ c.give.ensures.single) told.0 told.1 told.2
    (subst (λ (n : ℕ). c.args.pair.0 < n) c.requires.sound.based.honest.pattern_is c.requires.may.vertex_in) c.in-Ok.ensures.fewer c.in-Ok.ensures.left c.present-moment.ensures
    (subst (λ (a : Account). Honest c.args.q.now a) c.deepen.ensures.deepened c.deepen.ensures.honest))

pub propagate-requires-clause-wait : goal.propagate-requires-clause-wait
propagate-requires-clause-wait g c =
    let p_in = subst (λ (n : ℕ). c.args.pair.0 < n) c.requires.sound.based.honest.pattern_is c.requires.may.vertex_in in
    rw (c.enter.ensures)
    (subst (λ (ws : List Bool). IfSome c.args.propagator.now.filters.nogoods (WatchesWait c.give.new.d ws)) (sym c.deref_mut.ensures.value)
    (subst (λ (i : ℕ). IfSome c.args.propagator.now.filters.nogoods (WatchesWait c.give.new.d (slice_set c.args.propagator.now.waiting.items i true))) (sym c.from.ensures)
    (kept_assigned c.args.position.now.domains c.give.new.d c.args.pair.0 _ c.args.propagator.now.waiting.items c.args.propagator.now.filters.nogoods c.give.ensures.keeps (subst (λ (n : ℕ). c.args.pair.0 < n) (sym c.requires.long) p_in)
    c.requires.acting.here)))

pub returns-in_ok-close-in-Err-clause-acting : goal.returns-in_ok-close-in-Err-clause-acting
returns-in_ok-close-in-Err-clause-acting g c =
    let moved = rw (c.enter.ensures) at c.propagate.ensures.moved in
    rw (c.count-in-Err.ensures)
    (c.take_back.ensures.acting c.propagate.new.filters.nogoods
    (subst (λ (ks : List Moment). WereActedOn c.propagate.new.d c.propagate.new.filters.nogoods ks c.args.position.now.root) (sym c.push_reserved.ensures.items)
    (were_guessed c.args.q.now c.args.position.now.domains c.give.new.d c.propagate.new.d c.args.position.now.undecided (path c.args.position.now.account) c.args.position.now.marks.items c.args.position.now.root c.present-moment.result c.args.pair.0 _
    c.args.propagator.now.filters.nogoods c.propagate.new.filters.nogoods c.requires.sound.based.levels c.present-moment.ensures.domains_is c.give.ensures.keeps c.in-Err.ensures.propagated.0
    moved c.requires.acting)))

pub returns-in-Ok-clause-acting : goal.returns-in-Ok-clause-acting
returns-in-Ok-clause-acting g c =
    let moved = rw (c.enter.ensures) at c.propagate.ensures.moved in
    rw (c.push_reserved.ensures.items, c.count.ensures)
    (acting_guessed c.args.q.now c.args.position.now.domains c.give.new.d c.propagate.new.d c.args.position.now.undecided (path c.args.position.now.account) c.args.position.now.marks.items c.args.position.now.root c.present-moment.result c.args.pair.0 _
    c.args.propagator.now.filters.nogoods c.propagate.new.filters.nogoods c.requires.sound.based.levels c.present-moment.ensures.domains_is c.give.ensures.keeps c.in-Ok.ensures.propagated.0
    moved c.requires.acting c.in-Ok.ensures.in_force)

pub returns-in_ok-close-in-Err-clause-kept : goal.returns-in_ok-close-in-Err-clause-kept
returns-in_ok-close-in-Err-clause-kept g c =
    let moved = rw (c.enter.ensures) at c.propagate.ensures.moved in
    rw (c.count-in-Err.ensures)
    (same_moved c.give.new.d c.args.propagator.now.filters.nogoods c.propagate.new.filters.nogoods moved)

pub returns-in-Ok-clause-kept : goal.returns-in-Ok-clause-kept
returns-in-Ok-clause-kept g c =
    let moved = rw (c.enter.ensures) at c.propagate.ensures.moved in
    rw (c.count.ensures)
    (same_moved c.give.new.d c.args.propagator.now.filters.nogoods c.propagate.new.filters.nogoods moved)

pub returns-in_ok-close-in-Err-clause-run : goal.returns-in_ok-close-in-Err-clause-run
returns-in_ok-close-in-Err-clause-run g c = c.take_back.ensures.run ∙ ap (λ (a : Account). a.run) c.deepen.ensures.deepened

pub returns-in-Ok-clause-run : goal.returns-in-Ok-clause-run
returns-in-Ok-clause-run g c = ap (λ (a : Account). a.run) c.deepen.ensures.deepened

pub returns-in_err-close-in-Err-clause-kept : goal.returns-in_err-close-in-Err-clause-kept
returns-in_err-close-in-Err-clause-kept g c =
    let moved = rw (c.enter.ensures) at c.propagate.ensures.moved in
    rw (c.count-in-Err.ensures)
    (same_moved c.give.new.d c.args.propagator.now.filters.nogoods c.propagate.new.filters.nogoods moved)

pub returns-in_err-close-in-Err-clause-run : goal.returns-in_err-close-in-Err-clause-run
returns-in_err-close-in-Err-clause-run g c = ap (λ (a : Account). a.run) c.deepen.ensures.deepened

pub close-requires-clause-writes : goal.close-requires-clause-writes
close-requires-clause-writes g c = rw (c.deepen.ensures.deepened) (c.stays.ensures.guess c.args.q.now c.args.rows.now c.args.position.now.account c.args.pair.0 c.args.pair.1 c.requires.may.level c.requires.logged.writes)

pub close-requires-clause-ends : goal.close-requires-clause-ends
close-requires-clause-ends g c =
    let moved = rw (c.enter.ensures) at c.propagate.ensures.moved in
    let told = rw (c.enter.ensures) at c.propagate.ensures.told in
    let mid : IsOf c.args.q.now c.give.new.d = record { vertices_is = c.give.ensures.keeps.shrinks.vertices_same ∙ c.requires.sound.based.is_of.vertices_is; values_is = c.give.ensures.keeps.shrinks.values_same ∙ c.requires.sound.based.is_of.values_is } in
    ends_path c.args.q.now c.args.rows.now c.propagate.new.filters.nogoods c.propagate.new.d _ _ _ _ _ (is_of_narrowed c.args.q.now c.give.new.d c.propagate.new.d c.in-Err.ensures.propagated.0 mid)
    (holds_same c.args.rows.now c.args.propagator.now.filters.nogoods c.propagate.new.filters.nogoods (same_moved c.give.new.d c.args.propagator.now.filters.nogoods c.propagate.new.filters.nogoods moved) c.requires.holds)
    (told_guessed c.args.q.now c.args.propagator.now.filters.nogoods c.propagate.new.filters.nogoods c.args.position.now.domains c.give.new.d c.propagate.new.d c.args.position.now.undecided c.args.position.now.account _ c.args.position.now.marks.items _ c.args.position.now.root
    c.present-moment.result c.args.pair.0 c.args.pair.1 _ _ _ c.requires.sound.based c.deepen.ensures.deepened c.push_reserved.ensures.items c.present-moment.ensures.domains_is
    (c.give.ensures.told c.args.q.now c.args.propagator.now.filters.nogoods c.requires.sound.based.is_of) c.give.ensures.guesses told c.propagate.ensures.guesses c.requires.logged.told)
    c.in-Err.ensures.fails

pub returns-in-Ok-clause-logged : goal.returns-in-Ok-clause-logged
returns-in-Ok-clause-logged g c =
    let told = rw (c.enter.ensures) at c.propagate.ensures.told in
    record {
      told = rw (c.count.ensures) ((told_guessed c.args.q.now c.args.propagator.now.filters.nogoods c.propagate.new.filters.nogoods c.args.position.now.domains c.give.new.d c.propagate.new.d c.args.position.now.undecided c.args.position.now.account _ c.args.position.now.marks.items _ c.args.position.now.root
          c.present-moment.result c.args.pair.0 c.args.pair.1 _ _ _ c.requires.sound.based c.deepen.ensures.deepened c.push_reserved.ensures.items c.present-moment.ensures.domains_is
          (c.give.ensures.told c.args.q.now c.args.propagator.now.filters.nogoods c.requires.sound.based.is_of) c.give.ensures.guesses told c.propagate.ensures.guesses c.requires.logged.told));
      writes = rw (c.deepen.ensures.deepened) (c.stays.ensures.guess c.args.q.now c.args.rows.now c.args.position.now.account c.args.pair.0 c.args.pair.1 c.requires.may.level c.requires.logged.writes);
    }

pub returns-in-Ok-clause-steps : goal.returns-in-Ok-clause-steps
returns-in-Ok-clause-steps g c = c.stays.ensures.steps c.args.q.now c.args.rows.now c.args.position.now.account c.requires.logged.writes

pub returns-in_ok-close-in-Err-clause-logged : goal.returns-in_ok-close-in-Err-clause-logged
returns-in_ok-close-in-Err-clause-logged g c =
    let told = rw (c.enter.ensures) at c.propagate.ensures.told in
    record {
      told = rw (c.count-in-Err.ensures) (c.take_back.ensures.told c.propagate.new.filters.nogoods (told_guessed c.args.q.now c.args.propagator.now.filters.nogoods c.propagate.new.filters.nogoods c.args.position.now.domains c.give.new.d c.propagate.new.d c.args.position.now.undecided c.args.position.now.account _ c.args.position.now.marks.items _ c.args.position.now.root
          c.present-moment.result c.args.pair.0 c.args.pair.1 _ _ _ c.requires.sound.based c.deepen.ensures.deepened c.push_reserved.ensures.items c.present-moment.ensures.domains_is
          (c.give.ensures.told c.args.q.now c.args.propagator.now.filters.nogoods c.requires.sound.based.is_of) c.give.ensures.guesses told c.propagate.ensures.guesses c.requires.logged.told));
      writes = c.in_ok-close-in-Err.ensures.closed.failed _ c.take_back.ensures.failed;
    }

pub returns-in-Ok-clause-went : goal.returns-in-Ok-clause-went
returns-in-Ok-clause-went g c = within_guess c.args.q.now _ _ c.args.pair.0 c.args.pair.1 c.requires.unspent c.requires.before_cutoff c.requires.may c.deepen.ensures.deepened

pub returns-in_err-close-in-Err-clause-went : goal.returns-in_err-close-in-Err-clause-went
returns-in_err-close-in-Err-clause-went g c = within_guess c.args.q.now _ _ c.args.pair.0 c.args.pair.1 c.requires.unspent c.requires.before_cutoff c.requires.may c.deepen.ensures.deepened

pub returns-in-Ok-clause-honest : goal.returns-in-Ok-clause-honest
returns-in-Ok-clause-honest g c = c.deepen.ensures.honest

pub returns-in_err-close-in-Err-clause-honest : goal.returns-in_err-close-in-Err-clause-honest
returns-in_err-close-in-Err-clause-honest g c = c.deepen.ensures.honest

pub returns-in_ok-close-in-Err-clause-honest : goal.returns-in_ok-close-in-Err-clause-honest
returns-in_ok-close-in-Err-clause-honest g c = c.take_back.ensures.sound.based.honest

pub returns-in_ok-close-in-Err-clause-went : goal.returns-in_ok-close-in-Err-clause-went
returns-in_ok-close-in-Err-clause-went g c =
    let told = c.in-Err.ensures.propagated in
    let dead = subst (λ (a : Account). Dead c.args.q.now (path a)) (sym c.deepen.ensures.deepened)
    (subst (λ (ps : List (ℕ × ℕ)). Dead c.args.q.now ps) (sym (path_deepened c.args.position.now.account c.args.pair.0 c.args.pair.1))
    (dead_assigned _ _ c.give.new.d _ _
    (inside_assigned _ _ c.args.position.now.domains c.give.new.d _ _ _ c.requires.sound.here.stands c.give.ensures.keeps (single_of _ _ _ c.give.ensures.single)) told.1)) in
    within_on c.args.q.now _ _ _
    (within_guess c.args.q.now _ _ c.args.pair.0 c.args.pair.1 c.requires.unspent c.requires.before_cutoff c.requires.may c.deepen.ensures.deepened)
    (within_fail c.args.q.now _ _ dead c.take_back.ensures.failed)

pub returns-in-Ok-clause-problem : goal.returns-in-Ok-clause-problem
returns-in-Ok-clause-problem g c = ap (λ (f : Filtering). f.problem) c.count.ensures ∙ c.propagate.ensures.problem

pub returns-in_ok-close-in-Err-clause-problem : goal.returns-in_ok-close-in-Err-clause-problem
returns-in_ok-close-in-Err-clause-problem g c = ap (λ (f : Filtering). f.problem) c.count-in-Err.ensures ∙ c.propagate.ensures.problem

pub returns-in_err-close-in-Err-clause-problem : goal.returns-in_err-close-in-Err-clause-problem
returns-in_err-close-in-Err-clause-problem g c = ap (λ (f : Filtering). f.problem) c.count-in-Err.ensures ∙ c.propagate.ensures.problem

pub returns-in-Ok-clause-owner : goal.returns-in-Ok-clause-owner
returns-in-Ok-clause-owner g c = refl

pub returns-in_ok-close-in-Err-clause-owner : goal.returns-in_ok-close-in-Err-clause-owner
returns-in_ok-close-in-Err-clause-owner g c = c.close.ensures.owner

pub returns-in_err-close-in-Err-clause-owner : goal.returns-in_err-close-in-Err-clause-owner
returns-in_err-close-in-Err-clause-owner g c = c.close.ensures.owner

pub returns-in_ok-close-in-Err-clause-steps : goal.returns-in_ok-close-in-Err-clause-steps
returns-in_ok-close-in-Err-clause-steps g c = c.close.ensures.steps

pub returns-in_err-close-in-Err-clause-steps : goal.returns-in_err-close-in-Err-clause-steps
returns-in_err-close-in-Err-clause-steps g c = c.close.ensures.steps

pub returns-in-Ok-clause-nearer : goal.returns-in-Ok-clause-nearer
returns-in-Ok-clause-nearer g c = c.deepen.ensures.nearer

pub returns-in_ok-close-in-Err-clause-nearer : goal.returns-in_ok-close-in-Err-clause-nearer
returns-in_ok-close-in-Err-clause-nearer g c = omega (arith, c.take_back.ensures.nearer, c.deepen.ensures.nearer)

pub returns-in-Ok-clause-budget : goal.returns-in-Ok-clause-budget
returns-in-Ok-clause-budget g c = ap (λ (a : Account). a.budget) c.deepen.ensures.deepened

pub returns-in_err-close-in-Err-clause-budget : goal.returns-in_err-close-in-Err-clause-budget
returns-in_err-close-in-Err-clause-budget g c = ap (λ (a : Account). a.budget) c.deepen.ensures.deepened

pub returns-in_ok-close-in-Err-clause-budget : goal.returns-in_ok-close-in-Err-clause-budget
returns-in_ok-close-in-Err-clause-budget g c = c.take_back.ensures.budget ∙ ap (λ (a : Account). a.budget) c.deepen.ensures.deepened

pub returns-in-Ok-clause-root : goal.returns-in-Ok-clause-root
returns-in-Ok-clause-root g c = refl

pub returns-in_err-close-in-Err-clause-root : goal.returns-in_err-close-in-Err-clause-root
returns-in_err-close-in-Err-clause-root g c = refl

pub returns-in_ok-close-in-Err-clause-root : goal.returns-in_ok-close-in-Err-clause-root
returns-in_ok-close-in-Err-clause-root g c = c.take_back.ensures.root

pub returns-in-Ok-clause-room : goal.returns-in-Ok-clause-room
returns-in-Ok-clause-room g c = omega (arith, c.push_reserved.ensures.capacity)

pub returns-in_err-close-in-Err-clause-room : goal.returns-in_err-close-in-Err-clause-room
returns-in_err-close-in-Err-clause-room g c = omega (arith, c.push_reserved.ensures.capacity)

pub returns-in_ok-close-in-Err-clause-room : goal.returns-in_ok-close-in-Err-clause-room
returns-in_ok-close-in-Err-clause-room g c = omega (arith, c.push_reserved.ensures.capacity, c.take_back.ensures.room)

pub returns-in_ok-close-in-Err-clause-sound : goal.returns-in_ok-close-in-Err-clause-sound
returns-in_ok-close-in-Err-clause-sound g c = c.take_back.ensures.sound

pub propagate-requires-clause-problem : goal.propagate-requires-clause-problem
propagate-requires-clause-problem g c = ap (λ (f : Filtering). f.problem) c.enter.ensures ∙ c.requires.problem

pub propagate-requires-clause-is_of : goal.propagate-requires-clause-is_of
propagate-requires-clause-is_of g c = record {
  vertices_is = c.give.ensures.keeps.shrinks.vertices_same ∙ c.requires.sound.based.is_of.vertices_is;
  values_is = c.give.ensures.keeps.shrinks.values_same ∙ c.requires.sound.based.is_of.values_is;
}

pub close-requires-clause-honest : goal.close-requires-clause-honest
close-requires-clause-honest g c = c.deepen.ensures.honest

pub close-requires-clause-sound : goal.close-requires-clause-sound
close-requires-clause-sound g c = c.requires.rows

pub close-requires-clause-few : goal.close-requires-clause-few
close-requires-clause-few g c = c.requires.few

pub deepen-requires-clause-honest : goal.deepen-requires-clause-honest
deepen-requires-clause-honest g c = c.requires.sound.based.honest

pub deepen-requires-clause-unspent : goal.deepen-requires-clause-unspent
deepen-requires-clause-unspent g c = c.requires.unspent

pub deepen-requires-clause-before_cutoff : goal.deepen-requires-clause-before_cutoff
deepen-requires-clause-before_cutoff g c = c.requires.before_cutoff

pub deepen-requires-clause-may_guess : goal.deepen-requires-clause-may_guess
deepen-requires-clause-may_guess g c = c.requires.may

pub give-requires-clause-t_in : goal.give-requires-clause-t_in
give-requires-clause-t_in g c = c.requires.here

pub give-requires-clause-p_in : goal.give-requires-clause-p_in
give-requires-clause-p_in g c = omega (arith, c.requires.may.vertex_in, c.requires.sound.based.honest.pattern_is, c.requires.sound.based.is_of.vertices_is)

pub take_back-requires-clause-some : goal.take_back-requires-clause-some
take_back-requires-clause-some g c =
    omega (
      arith,
      ap (λ (a : Account). length (path a)) c.deepen.ensures.deepened,
      ap length (path_deepened c.args.position.now.account c.args.pair.0 c.args.pair.1),
      length-append (path c.args.position.now.account) ((c.args.pair.0, c.args.pair.1) ∷ []),
    )

pub returns-in-Ok-clause-long : goal.returns-in-Ok-clause-long
returns-in-Ok-clause-long g c = kept_long c.args.propagator.now.waiting.len _ _ _ (c.propagate.auto.waiting ∙ c.deref_mut.ensures.len) (c.args.propagator.now.waiting.ok.0 ∙ c.requires.long)

pub returns-in_ok-close-in-Err-clause-long : goal.returns-in_ok-close-in-Err-clause-long
returns-in_ok-close-in-Err-clause-long g c = kept_long c.args.propagator.now.waiting.len _ _ _ (c.lower.ensures ∙ c.deref_mut-in-Err.ensures.len) (c.args.propagator.now.waiting.ok.0 ∙ c.requires.long)

pub returns-in_err-close-in-Err-clause-long : goal.returns-in_err-close-in-Err-clause-long
returns-in_err-close-in-Err-clause-long g c = kept_long c.args.propagator.now.waiting.len _ _ _ (c.lower.ensures ∙ c.deref_mut-in-Err.ensures.len) (c.args.propagator.now.waiting.ok.0 ∙ c.requires.long)
