use Rattle.std.proofs.Common.{◌≡◌, ◌++◌, length, take, drop, refl, sym, ap, ◌∙◌, arith}
use Rattle.std.proofs.lemmas.List.{length-map}
use Rattle.nogood_watch.specs.Lists.{Chained}
use Rattle.nogood_watch.specs.Nogoods.{literal}
use Rattle.nogood_watch.specs.Covering.{AreCovered}
use Rattle.nogood_watch.specs.Inside.{home_of, nogood_at, nogoods_of}
use Rattle.nogood_watch.proofs.Readiness.{cell_in, watch_in}
use Rattle.nogood_watch.proofs.Adding.{written_back}
use Rattle.nogood_watch.proofs.Covering.{seen_are}
use Rattle.nogood_watch.proofs.Fewer.{kept_thinned}
use Rattle.nogood_watch.proofs.watched.Watched.thin_now.Goals as goal

pub thin-requires-clause-in_range : goal.thin-requires-clause-in_range
thin-requires-clause-in_range c =
    let f = c.self.inside in
    let k = c.self.invariant in
    rw (c.deref-3.ensures.value, c.deref_mut-2.ensures.value) (λ x h.
    let r = watch_in f.vertices f.values (nogoods_of f.literals.items f.entries.items) f.watches.items x (λ i l. k.literals_are i (rw length-map at l)) k.watches_are h in
    cell_in f.vertices f.values f.values _ (literal f.watches.items x) refl k.heads_long r.0 r.1)

-- what is written back
live_back : (c : goal.After-self-3-1) → let f = c.self.inside in take f.live.len (c.thin.new.live ++ drop (length c.thin.new.live) f.live.items) ≡ c.thin.new.live
live_back c = let f = c.self.inside in written_back f.live.len f.live.items c.thin.new.live (omega (arith, f.live.ok)) (c.thin.ensures.live_long ∙ ap length c.deref_mut.ensures.value)

heads_back : (c : goal.After-self-3-1) → let f = c.self.inside in take f.heads.len (c.thin.new.heads ++ drop (length c.thin.new.heads) f.heads.items) ≡ c.thin.new.heads
heads_back c = let f = c.self.inside in written_back f.heads.len f.heads.items c.thin.new.heads (omega (arith, f.heads.ok)) (c.thin.ensures.heads_long ∙ ap length c.deref_mut-2.ensures.value)

next_back : (c : goal.After-self-3-1) → let f = c.self.inside in take f.next.len (c.thin.new.next ++ drop (length c.thin.new.next) f.next.items) ≡ c.thin.new.next
next_back c = let f = c.self.inside in written_back f.next.len f.next.items c.thin.new.next (omega (arith, f.next.ok)) (c.thin.ensures.next_long ∙ ap length c.deref_mut-3.ensures.value)

covered : (c : goal.After-self-3-1) → let f = c.self.inside in AreCovered (nogoods_of f.literals.items f.entries.items) c.thin.new.live
covered c = rw (c.deref.ensures.value, c.deref-2.ensures.value) at c.thin.ensures.covered

chained : (c : goal.After-self-3-1) → let f = c.self.inside in Chained (home_of (length f.heads.items) f.values c.thin.new.live f.watches.items) c.thin.new.heads c.thin.new.next
chained c = rw (c.deref-3.ensures.value, c.deref_mut-2.ensures.value) at c.thin.ensures.chained

pub invariant_of-self : goal.invariant_of-self
invariant_of-self c =
    let f = c.self.inside in
    rw (live_back c, heads_back c, next_back c)
    (kept_thinned f.vertices f.values f.literals.items f.entries.items f.live.items c.thin.new.live f.watches.items f.heads.items c.thin.new.heads f.next.items c.thin.new.next _ c.self.invariant
    (c.thin.ensures.live_long ∙ ap length c.deref_mut.ensures.value) (c.thin.ensures.heads_long ∙ ap length c.deref_mut-2.ensures.value) (c.thin.ensures.next_long ∙ ap length c.deref_mut-3.ensures.value)
    (covered c) (chained c))

pub returns-clause-watches : goal.returns-clause-watches
returns-clause-watches c =
    let f = c.self.inside in
    rw (live_back c) (seen_are (nogoods_of f.literals.items f.entries.items) c.thin.new.live f.watches.items _ (sym (length-map f.entries.items (nogood_at f.literals.items))) c.self.invariant.watches_are (covered c))
