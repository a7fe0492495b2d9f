use Rattle.std.proofs.Common.{Some, refl, sym, subst}
use Rattle.nogood_watch.specs.Nogoods.{State}
use Rattle.recorder.proofs.Telling.{tells_named, emptied_fails}
use Rattle.propagation.specs.Learning.{AreNogoods}
use Rattle.propagation.proofs.Acting.{wait_forced, wait_looked, none_out, move_looked, moved_names}
use Rattle.propagation.proofs.Forcing.{assigned_of, unused_forced, held_looked, watches_long, none_whole}
use Rattle.propagation.proofs.Reasons.{whole_decided, forbidden_forced}
use Rattle.propagation.proofs.Narrowing.{narrows_none}
use Rattle.propagation.proofs.Waiting.{shrinks_none}
use Rattle.propagation.proofs.nogoods.Nogoods.force.Goals.{in-Quiet, in-Fail, in-Forced}
use Rattle.propagation.proofs.nogoods.Nogoods.force.Goals as goal

pub on_assign-requires-clause-assigned : goal.on_assign-requires-clause-assigned
on_assign-requires-clause-assigned g c = assigned_of _ _ _ c.requires.single

pub take_out-requires-clause-unused : goal.take_out-requires-clause-unused
take_out-requires-clause-unused g c =
    unused_forced _ _ c.args.self.now _ _ _ _ (sym c.self.view_is) c.requires.is_of c.requires.nogoods
    (held_looked _ c.args.self.now _ _ (sym c.self.view_is) c.requires.nogoods c.on_assign.ensures.new_vertices c.on_assign.ensures.new_values c.on_assign.ensures.nogoods c.on_assign.ensures.units c.on_assign.ensures.watches)
    c.on_assign.ensures.watches c.on_assign.ensures.nogoods c.on_assign.ensures.forced c.forced.ensures

pub returns-clause-forces : goal.returns-clause-forces
returns-clause-forces g c =
    let are = held_looked _ c.args.self.now _ _ (sym c.self.view_is) c.requires.nogoods c.on_assign.ensures.new_vertices c.on_assign.ensures.new_values c.on_assign.ensures.nogoods c.on_assign.ensures.units c.on_assign.ensures.watches in
    elim c.match-on_assign.branch [
      | in-Quiet w ↦ rw (w.result-is, w.d-is, w.waiting-is) (shrinks_none c.args.rows.now.problem c.args.d.now c.args.waiting.now c.requires.bounded)
      | in-Fail w ↦ rw (w.result-is, w.d-is) (narrows_none c.args.rows.now.problem c.args.d.now, none_whole c.args.rows.now.problem c.args.d.now c.on_assign.new.self _ are w.in-Fail.ensures.answer)
      | in-Forced w ↦ rw (w.result-is, w.d-is, w.waiting-is) w.take_out.ensures.forces
    ]

pub returns-clause-wait : goal.returns-clause-wait
returns-clause-wait g c =
    let are = held_looked _ c.args.self.now _ _ (sym c.self.view_is) c.requires.nogoods c.on_assign.ensures.new_vertices c.on_assign.ensures.new_values c.on_assign.ensures.nogoods c.on_assign.ensures.units c.on_assign.ensures.watches in
    let before = subst (λ (s : State). AreNogoods c.args.rows.now.problem s) (sym c.self.view_is) c.requires.nogoods in
    let long = watches_long c.self.inside.watched c.on_assign.new.self before.watches c.on_assign.ensures.watches c.on_assign.ensures.nogoods in
    elim c.match-on_assign.branch [
      | in-Quiet w ↦ rw (w.result-is, w.d-is, w.waiting-is)
          (wait_forced c.args.rows.now.problem c.args.d.now c.args.d.now c.args.waiting.now c.args.waiting.now c.args.self.now c.self.inside.watched c.on_assign.new.self c.args.p c.args.t _ (sym c.self.view_is) c.requires.nogoods are long
          (assigned_of _ _ _ c.requires.single) c.on_assign.ensures.guarded c.on_assign.ensures.others c.requires.wait refl
          (shrinks_none c.args.rows.now.problem c.args.d.now c.args.waiting.now c.requires.bounded) (none_out c.args.d.now _ w.in-Quiet.ensures.answer))
      | in-Fail w ↦ rw (w.result-is) tt
      | in-Forced w ↦ rw (w.result-is, w.d-is, w.waiting-is)
          (wait_looked _ c.args.rows.now.problem c.args.d.now w.take_out.new.d c.args.waiting.now w.take_out.new.waiting c.args.self.now c.self.inside.watched c.on_assign.new.self c.args.p c.args.t _ (sym c.self.view_is) c.requires.nogoods are long
          (assigned_of _ _ _ c.requires.single) c.on_assign.ensures.guarded c.on_assign.ensures.others c.requires.wait w.forced.ensures w.take_out.ensures.forces w.take_out.ensures.out)
    ]

pub returns-clause-moved : goal.returns-clause-moved
returns-clause-moved g c =
    move_looked _ c.args.d.now c.args.self.now c.self.inside.watched c.on_assign.new.self (sym c.self.view_is) c.requires.is_of c.requires.some c.requires.nogoods c.on_assign.ensures.nogoods c.on_assign.ensures.units
    c.on_assign.ensures.watches c.on_assign.ensures.moves

pub returns-clause-fails : goal.returns-clause-fails
returns-clause-fails g c =
    elim c.match-on_assign.branch [
      | in-Quiet w ↦ rw (w.result-is) tt
      | in-Fail w ↦ rw (w.result-is, w.d-is) (whole_decided c.args.d.now c.on_assign.new.self _ w.in-Fail.ensures.answer)
      | in-Forced w ↦ rw (w.result-is, w.d-is)
          (emptied_fails c.args.rows.now.problem (Some c.on_assign.new.self) w.take_out.new.d _ _ w.take_out.result w.take_out.ensures.none)
    ]

pub returns-clause-told : goal.returns-clause-told
returns-clause-told g c t =
    let before = subst (λ (s : State). AreNogoods c.args.rows.now.problem s) (sym c.self.view_is) c.requires.nogoods in
    let named = tells_named c.args.rows.now.problem (Some c.args.self.now) (Some c.on_assign.new.self) c.args.d.now _
    (moved_names c.args.d.now (Some c.args.self.now) (Some c.on_assign.new.self) (returns-clause-moved g c)) t in
    elim c.match-on_assign.branch [
      | in-Quiet w ↦ rw (w.d-is, w.told-is) named
      | in-Fail w ↦ rw (w.d-is, w.told-is) named
      | in-Forced w ↦ rw (w.d-is, w.told-is) (w.take_out.ensures.told (Some c.on_assign.new.self)
          (forbidden_forced c.args.d.now c.self.inside.watched c.on_assign.new.self (c.args.p, c.args.t) w.forced.result.now before.watches c.on_assign.ensures.watches c.on_assign.ensures.nogoods
          c.on_assign.ensures.forced w.forced.ensures) named)
    ]

pub returns-clause-guesses : goal.returns-clause-guesses
returns-clause-guesses g c =
    elim c.match-on_assign.branch [
      | in-Quiet w ↦ rw (w.told-is) (λ p t from h. h)
      | in-Fail w ↦ rw (w.told-is) (λ p t from h. h)
      | in-Forced w ↦ rw (w.told-is) w.take_out.ensures.guesses
    ]
