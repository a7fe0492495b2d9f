use Rattle.std.proofs.Common.{◌≡◌, ℕ, ◌+◌, ◌<◌, ◌≤◌, true, List, length, take, drop, ◌++◌, [], ◌∷◌, ap, ◌∙◌, arith, refl, append_assoc}
use Rattle.std.specs.Prelude.{vec_capacity}
use Rattle.nogood_watch.specs.Nogoods.{AreLiterals, literal}
use Rattle.nogood_watch.specs.declared.watched.Entry.{Entry}
use Rattle.nogood_watch.specs.Inside.{cell}
use Rattle.nogood_watch.proofs.Readiness.{cell_in}
use Rattle.nogood_watch.proofs.Fewer.{kept_seen}
use Rattle.nogood_watch.proofs.Adding.{written_back, put_twice, kept_added, value_added}
use Rattle.nogood_watch.proofs.watched.Watched.add.Goals as goal

-- the literals are vertices and values of these sizes
are : (c : goal.After-put_watch-arg-3-1) → AreLiterals c.self.inside.vertices c.self.inside.values c.args.literals.now
are c = rw (← c.self.view_is) at c.requires.are

pub put_watch-requires-clause-in_range : goal.put_watch-requires-clause-in_range
put_watch-requires-clause-in_range c =
    let f = c.self.inside in
    let a = are c in
    cell_in f.vertices f.values f.values _ (literal c.args.literals.now 0) refl (ap length c.deref_mut.ensures.value ∙ c.self.invariant.heads_long)
    (a.vertex 0 (omega (arith, c.requires.some))) (a.value 0 (omega (arith, c.requires.some)))

-- the heads written back once
back : (c : goal.After-put_watch-arg-6-1) → let f = c.self.inside in take f.heads.len (c.put_watch.new.heads ++ drop (length c.put_watch.new.heads) f.heads.items) ≡ c.put_watch.new.heads
back c =
    let f = c.self.inside in
    written_back f.heads.len f.heads.items c.put_watch.new.heads (omega (arith, f.heads.ok)) (c.put_watch.ensures.heads_long ∙ ap length c.deref_mut.ensures.value)

pub put_watch-requires-2-clause-in_range : goal.put_watch-requires-2-clause-in_range
put_watch-requires-2-clause-in_range c =
    let f = c.self.inside in
    let a : AreLiterals f.vertices f.values c.args.literals.now = rw (← c.self.view_is) at c.requires.are in
    let two : 1 < length c.args.literals.now = omega (arith, c.requires.some, c.if-literals-eq1.false) in
    let long = ap length (c.deref_mut-2.ensures.value ∙ back c) ∙ c.put_watch.ensures.heads_long ∙ ap length c.deref_mut.ensures.value ∙ c.self.invariant.heads_long in
    cell_in f.vertices f.values f.values _ (literal c.args.literals.now 1) refl long (a.vertex 1 two) (a.value 1 two)

-- the entries with the one that is pushed, by the numbers that it stands for
pushed : (es made new : List Entry) (s t start end name : ℕ) → new ≡ made ++ record { start = s; end = t; name = name } ∷ [] → made ≡ es → s ≡ start → t ≡ end
    → new ≡ es ++ record { start = start; end = end; name = name } ∷ []
pushed es made new s t start end name p m a b = rw (p, m, a, b) refl

pub invariant_of-self-2 : goal.invariant_of-self-2
invariant_of-self-2 c =
    let f = c.self.inside in
    let xs = c.args.literals.now in
    let m = c.make_room.ensures in
    let a : AreLiterals f.vertices f.values xs = rw (← c.self.view_is) at c.requires.are in
    let two : 2 ≤ length xs = omega (arith, c.requires.some, c.if-literals-eq1.false) in
    let one-long = c.put_watch.ensures.heads_long ∙ ap length c.deref_mut.ensures.value in
    let one = written_back f.heads.len f.heads.items c.put_watch.new.heads (omega (arith, f.heads.ok)) one-long in
    let two-heads = c.deref_mut-2.ensures.value ∙ one in
    let two-long = c.put_watch-2.ensures.heads_long ∙ ap length c.deref_mut-2.ensures.value in
    let both = written_back f.heads.len (take f.heads.len (c.put_watch.new.heads ++ drop (length c.put_watch.new.heads) f.heads.items)) c.put_watch-2.new.heads (omega (arith, f.heads.ok, one-long, ap length one)) two-long in
    let watches = c.put_watch-2.ensures.watches ∙ ap (λ k. k ++ literal xs 1 ∷ []) (c.put_watch.ensures.watches ∙ ap (λ k. k ++ literal xs 0 ∷ []) m.watches) ∙ append_assoc f.watches.items (literal xs 0 ∷ []) (literal xs 1 ∷ []) in
    let live = c.push_reserved-2.ensures.items ∙ ap (λ k. k ++ true ∷ []) m.live in
    let entries = pushed f.entries.items _ _ _ _ c.len.result (c.len.result + length xs) c.args.name c.push_reserved.ensures.items m.entries c.in_ok-start.ensures.start c.in_ok-start.ensures.end in
    let next-long : length c.put_watch-2.new.next.items ≡ length f.next.items + 2 = omega (arith, c.put_watch-2.ensures.next_long, c.put_watch.ensures.next_long, ap length m.next) in
    let put = put_twice f.heads.items f.next.items c.deref_mut.result.now c.make_room.new.next.items c.put_watch.new.heads c.put_watch.new.next.items c.deref_mut-2.result.now c.put_watch-2.new.heads c.put_watch-2.new.next.items
    (cell f.values (literal xs 0)) (cell f.values (literal xs 1)) c.deref_mut.ensures.value m.next two-heads c.put_watch.ensures.next_long c.put_watch.ensures.chained c.put_watch-2.ensures.chained in
    rw (both, watches, entries, live, c.in_ok-extend_from_slice.ensures.items)
    (kept_added f.vertices f.values f.literals.items f.entries.items f.live.items f.watches.items f.heads.items f.next.items c.put_watch-2.new.heads c.put_watch-2.new.next.items _ (vec_capacity c.make_room.new.forced) xs c.len.result c.args.name
    c.self.invariant a two (omega (arith, c.len.ensures, f.literals.ok)) (two-long ∙ ap length one ∙ one-long) next-long put c.in_ok-make_room.ensures.forced_room)

pub returns-clause-ok : goal.returns-clause-ok
returns-clause-ok c =
    let f = c.self.inside in
    let xs = c.args.literals.now in
    let m = c.make_room.ensures in
    let watches = c.put_watch-2.ensures.watches ∙ ap (λ k. k ++ literal xs 1 ∷ []) (c.put_watch.ensures.watches ∙ ap (λ k. k ++ literal xs 0 ∷ []) m.watches) ∙ append_assoc f.watches.items (literal xs 0 ∷ []) (literal xs 1 ∷ []) in
    let live = c.push_reserved-2.ensures.items ∙ ap (λ k. k ++ true ∷ []) m.live in
    let entries = pushed f.entries.items _ _ _ _ c.len.result (c.len.result + length xs) c.args.name c.push_reserved.ensures.items m.entries c.in_ok-start.ensures.start c.in_ok-start.ensures.end in
    rw (← c.self.view_is, watches, entries, live, c.in_ok-extend_from_slice.ensures.items, m.forced)
    (value_added f.vertices f.values f.literals.items f.entries.items f.live.items f.watches.items f.units.items f.forced.items xs c.len.result c.args.name c.self.invariant.within c.self.invariant.live_long c.self.invariant.watches_are c.self.invariant.covered (omega (arith, c.len.ensures, f.literals.ok)) c.requires.some c.if-literals-eq1.false)

pub returns-clause-watches : goal.returns-clause-watches
returns-clause-watches c = kept_seen _ _ _ _ _ _ _ _ _ (invariant_of-self-2 c)

pub returns-in_err-push-clause-watches : goal.returns-in_err-push-clause-watches
returns-in_err-push-clause-watches c = kept_seen _ _ _ _ _ _ _ _ _ c.self.invariant

pub returns-then-literals-eq1-clause-watches : goal.returns-then-literals-eq1-clause-watches
returns-then-literals-eq1-clause-watches c = kept_seen _ _ _ _ _ _ _ _ _ c.self.invariant

pub returns-in_err-start-clause-watches : goal.returns-in_err-start-clause-watches
returns-in_err-start-clause-watches c = rw (← c.self.view_is) (kept_seen _ _ _ _ _ _ _ _ _ c.self.invariant)

pub returns-in_err-make_room-clause-watches : goal.returns-in_err-make_room-clause-watches
returns-in_err-make_room-clause-watches c =
    let m = c.make_room.ensures in
    rw (m.entries, m.live, m.watches) (kept_seen _ _ _ _ _ _ _ _ _ c.self.invariant)

pub returns-in_err-extend_from_slice-clause-watches : goal.returns-in_err-extend_from_slice-clause-watches
returns-in_err-extend_from_slice-clause-watches c =
    let m = c.make_room.ensures in
    rw (m.entries, m.live, m.watches, c.in_err-extend_from_slice.ensures.items) (kept_seen _ _ _ _ _ _ _ _ _ c.self.invariant)
