-- What thinning leaves of the nogoods that are kept.
use Rattle.std.proofs.Common.{◌≡◌, ℕ, ◌+◌, ◌*◌, ◌<◌, Bool, true, false, List, length, get_or, refl, sym, ◌∙◌, subst, arith}
use Rattle.std.proofs.lemmas.List.{length-map}
use Rattle.nogood_watch.specs.Lists.{no_watch, Chained}
use Rattle.nogood_watch.specs.Nogoods.{Nogood, literal, nogood, AreLiterals, AreWatches}
use Rattle.nogood_watch.specs.declared.watched.Entry.{Entry}
use Rattle.nogood_watch.specs.Covering.{AreCovered}
use Rattle.nogood_watch.specs.Inside.{home_of, is_live, nogood_at, nogoods_of, watches_of, Kept}
use Rattle.nogood_watch.proofs.Chains.{chain_empty}
use Rattle.nogood_watch.proofs.Covering.{seen_are}
use Rattle.nogood_watch.proofs.Readiness.{cell_below, watch_in}
use Rattle.nogood_watch.proofs.Walks.{home_live, home_past}

-- where each watch is in the list of its literal or in none, nobody is in hand
none_in_hand : (vertices values : ℕ) (nogoods : List Nogood) (live : List Bool) (w : List (ℕ × ℕ)) (heads next : List ℕ)
    → ((i : ℕ) → i < length nogoods → AreLiterals vertices values (nogood nogoods i).literals) → AreWatches nogoods w → length next ≡ length w → length heads ≡ vertices * values + 1
    → Chained (home_of (vertices * values + 1) values live w) heads next → get_or heads (vertices * values) 0 ≡ no_watch
none_in_hand vertices values nogoods live w heads next are a nl hl c =
    chain_empty (home_of (vertices * values + 1) values live w) heads next (vertices * values) c (omega (arith, hl)) (λ x h e. nobody x h e (is_live live x) refl)
  where
    nobody : (x : ℕ) → x < length next → home_of (vertices * values + 1) values live w x ≡ vertices * values → (b : Bool) → is_live live x ≡ b → ⊥
    nobody x h e true up =
        let r = watch_in vertices values nogoods w x are a (omega (arith, h, nl)) in
        omega (arith, cell_below vertices values (literal w x) r.0 r.1, e, home_live (vertices * values + 1) values live w x up)
    nobody x h e false down = omega (arith, e, home_past (vertices * values + 1) values live w x down)

-- with fewer live nogoods, by which all are covered, and lists of their watches
pub kept_thinned : (vertices values : ℕ) (literals : List (ℕ × ℕ)) (entries : List Entry) (live live' : List Bool) (w : List (ℕ × ℕ)) (heads heads' next next' : List ℕ) (capacity : ℕ)
    → Kept vertices values literals entries live w heads next capacity → length live' ≡ length live → length heads' ≡ length heads → length next' ≡ length next
    → AreCovered (nogoods_of literals entries) live' → Chained (home_of (length heads) values live' w) heads' next'
    → Kept vertices values literals entries live' w heads' next' capacity
kept_thinned vertices values literals entries live live' w heads heads' next next' capacity k ll hl nl covered chained = record {
  heads_long = hl ∙ k.heads_long;
  next_long = nl ∙ k.next_long;
  live_long = ll ∙ k.live_long;
  within = k.within;
  literals_are = k.literals_are;
  watches_are = k.watches_are;
  covered = covered;
  chained = c;
  none = none_in_hand vertices values (nogoods_of literals entries) live' w heads' next' (λ i h. k.literals_are i (rw (length-map entries (nogood_at literals)) at h)) k.watches_are (nl ∙ k.next_long) (hl ∙ k.heads_long) c;
  room = k.room;
}
  where
    c : Chained (home_of (vertices * values + 1) values live' w) heads' next'
    c = subst (λ (n : ℕ). Chained (home_of n values live' w) heads' next') k.heads_long chained

-- the watches that are seen of nogoods that are kept
pub kept_seen : (vertices values : ℕ) (literals : List (ℕ × ℕ)) (entries : List Entry) (live : List Bool) (w : List (ℕ × ℕ)) (heads next : List ℕ) (capacity : ℕ)
    → Kept vertices values literals entries live w heads next capacity → AreWatches (nogoods_of literals entries) (watches_of literals entries live w)
kept_seen vertices values literals entries live w heads next capacity k =
    seen_are (nogoods_of literals entries) live w (length entries) (sym (length-map entries (nogood_at literals))) k.watches_are k.covered
