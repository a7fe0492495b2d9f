use Rattle.std.proofs.Common.{◌≡◌, ℕ, ◌<◌, length, sym, arith}
use Rattle.std.proofs.lemmas.List.{length-map}
use Rattle.domain_bits.proofs.Sizes.{in_below}
use Rattle.nogood_watch.specs.Nogoods.{literal}
use Rattle.nogood_watch.specs.Inside.{nogood_at, nogoods_of, watches_of}
use Rattle.nogood_watch.proofs.Walks.{none_watched}
use Rattle.nogood_watch.proofs.Fewer.{kept_seen}
use Rattle.nogood_watch.proofs.Seeing.{none_seen}
use Rattle.nogood_watch.proofs.watched.Watched.on_assign.Goals as goal

-- where the list is empty, no watch is seen at the literal
none : (g : _) (c : goal.Then-index g) → let f = c.self.inside in (x : ℕ) → x < length (watches_of f.literals.items f.entries.items f.live.items f.watches.items)
    → literal (watches_of f.literals.items f.entries.items f.live.items f.watches.items) x ≡ (c.args.p, c.args.t) → ⊥
none g c =
    let f = c.self.inside in
    let d = c.args.d.now in
    let k = c.self.invariant in
    let p_in : c.args.p < f.vertices = rw (← c.self.view_is) at c.requires.p_in in
    let same : d.values ≡ f.values = rw (← c.self.view_is) at c.requires.values in
    none_seen (nogoods_of f.literals.items f.entries.items) f.live.items f.watches.items (length f.entries.items) (c.args.p, c.args.t) (sym (length-map f.entries.items (nogood_at f.literals.items))) k.watches_are k.covered
    (none_watched f.vertices f.values f.literals.items f.entries.items f.live.items f.watches.items f.heads.items f.next.items _ (c.args.p, c.args.t) c.cell_of.result c.index.result.now
    k p_in (omega (arith, in_below d c.args.p c.args.t c.requires.assigned.here, same)) c.cell_of.ensures c.index.ensures c.if-index.true)

pub returns-then-index-clause-guarded : goal.returns-then-index-clause-guarded
returns-then-index-clause-guarded g c = rw (← c.self.view_is) (λ x h e. absurd (none g c x h e))

pub returns-clause-guarded : goal.returns-clause-guarded
returns-clause-guarded g c = rw (← c.self.view_is) c.visit_watched.ensures.guarded

pub returns-clause-moves : goal.returns-clause-moves
returns-clause-moves g c = rw (← c.self.view_is) c.visit_watched.ensures.moves

pub returns-then-index-clause-watches : goal.returns-then-index-clause-watches
returns-then-index-clause-watches g c = kept_seen _ _ _ _ _ _ _ _ _ c.self.invariant
