-- Watches that wait or are in force while consequences are taken, and that all are in force once none waits.

use Rattle.std.proofs.Common.{◌≡◌, ℕ, ◌+◌, ◌<◌, ◌==◌, ◌&&◌, not, Bool, true, false, List, [], length, slice_set, Option, Some, None, IfSome, refl, sym, ap, ◌∙◌, subst, arith, ◌⊎◌, inl, inr}
use Rattle.std.proofs.lemmas.Bool.{cases_eq, eq-eqb}
use Rattle.graph_theory.specs.Graph.{size}
use Rattle.graph_theory.specs.Embedding.{Problem}
use Rattle.domain_bits.specs.Removals.{State, in_domain}
use Rattle.domain_bits.specs.Changes as changes
use Rattle.domain_bits.proofs.Sizes.{single_size}
use Rattle.nogood_watch.specs.Nogoods as watched
use Rattle.nogood_watch.specs.Nogoods.{literal, partner, AreWatches, AreLiterals}
use Rattle.nogood_watch.specs.Watching.{IsAssigned, IsGuarded, GuardsAll, KeepsOthers, MovesToFree, forced_at}
use Rattle.nogood_watch.specs.InForce.{IsInForce, InForce}
use Rattle.nogood_watch.proofs.Visits.{partner_in}
use Rattle.nogood_watch.proofs.Readiness.{watch_in}
use Rattle.nogood_watch.proofs.InForce.{watch_laws_hold}
use Rattle.recorder.specs.Telling.{IsOf, NamesList, NamesUnit, KeepsNames}
use Rattle.propagation.specs.Propagation.{HaveValues, HasTwo, IsSame, Shrinks, DecidedOnesWait, Propagates, waits_at}
use Rattle.propagation.specs.Learning.{AreNogoods, AreKept, DecidedWait, Forces}
use Rattle.propagation.specs.Acting.{WaitsOrIsInForce, WatchesWait, WatchesWaitBut, AreOut, OutAfter, WaitAfter, InForceAfter, ActedAfter, IsPart, Move, HaveMoved, AreActedOn, NothingLeft}
use Rattle.propagation.proofs.Waiting.{flag_other, flag_here}

-- ---- one watch

-- what is out of a domain stays out
pub out_on : (old new : State) (p t : ℕ) → IsPart new old → in_domain old p t ≡ false → in_domain new p t ≡ false
out_on old new p t less gone = by (in_domain new p t) refl
  where
    by : (b : Bool) → in_domain new p t ≡ b → in_domain new p t ≡ false
    by true here = absurd (cc (gone, less p t here))
    by false out = out

-- a literal of a domain that is as it was is assigned only if it was
assigned_before : (old new : State) (l : ℕ × ℕ) → ((t : ℕ) → in_domain new l.0 t ≡ in_domain old l.0 t) → IsAssigned new l → IsAssigned old l
assigned_before old new l same s = record { here = sym (same l.1) ∙ s.here; only = λ u h. s.only u (same u ∙ h) }

-- a literal of a domain of two values is not assigned
not_two : (d : State) (l : ℕ × ℕ) → HasTwo d l.0 → IsAssigned d l → ⊥
not_two d l two s = two.not_single l.1 (record { here = s.here; only = s.only })

-- a watch stays in force where the domain of its literal is as it was, or has two values
pub force_on : (old new : State) (watches : List (ℕ × ℕ)) (x : ℕ) → IsPart new old
    → HasTwo new (literal watches x).0 ⊎ ((t : ℕ) → in_domain new (literal watches x).0 t ≡ in_domain old (literal watches x).0 t) → IsInForce old watches x → IsInForce new watches x
force_on old new watches x less (inl two) force = λ s. absurd (not_two new (literal watches x) two s)
force_on old new watches x less (inr same) force = λ s.
    out_on old new (literal watches (partner x)).0 (literal watches (partner x)).1 less (force (assigned_before old new (literal watches x) same s))

-- one that waits or is in force goes on to
wait_shrunk : (q : Problem) (old new : State) (before after : List Bool) (watches : List (ℕ × ℕ)) (x : ℕ) → Shrinks q old before new after → (literal watches x).0 < size q.pattern
    → WaitsOrIsInForce old before watches x → WaitsOrIsInForce new after watches x
wait_shrunk q old new before after watches x s x_in w = by_note (s.noted (literal watches x).0 x_in) w
  where
    by_note : (waits_at after (literal watches x).0 ≡ true) ⊎ (HasTwo new (literal watches x).0 ⊎ IsSame old before new after (literal watches x).0)
        → WaitsOrIsInForce old before watches x → WaitsOrIsInForce new after watches x
    by_note (inl up) y = inl up
    by_note (inr (inl two)) y = inr (λ a. absurd (not_two new (literal watches x) two a))
    by_note (inr (inr same)) (inl up) = inl (same.flag ∙ up)
    by_note (inr (inr same)) (inr force) = inr (force_on old new watches x s.narrows.less (inr same.domain) force)

-- the vertex of a watch is one of the pattern's
pub watch_vertex : (q : Problem) (s : watched.State) (x : ℕ) → AreNogoods q s → x < length s.watches → (literal s.watches x).0 < size q.pattern
watch_vertex q s x are x_in = (watch_in (size q.pattern) (size q.target) s.nogoods s.watches x (λ i i_in. (are.lists i i_in).literals) are.watches x_in).0

-- ---- all watches

pub wait_on : (q : Problem) (old new : State) (before after : List Bool) (s : watched.State) → Shrinks q old before new after → AreNogoods q s
    → WatchesWait old before s → WatchesWait new after s
wait_on q old new before after s shrinks are w = λ x x_in. wait_shrunk q old new before after s.watches x shrinks (watch_vertex q s x are x_in) (w x x_in)

pub wait_but_on : (q : Problem) (old new : State) (before after : List Bool) (p : ℕ) (s : watched.State) → Shrinks q old before new after → AreNogoods q s
    → WatchesWaitBut old before p s → WatchesWaitBut new after p s
wait_but_on q old new before after p s shrinks are w = λ x x_in other. wait_shrunk q old new before after s.watches x shrinks (watch_vertex q s x are x_in) (w x x_in other)

-- where the flag of p is lowered, the others wait or are in force
pub wait_but_lowered : (d : State) (waiting : List Bool) (p : ℕ) (s : watched.State) → WatchesWait d waiting s → WatchesWaitBut d (slice_set waiting p false) p s
wait_but_lowered d waiting p s w = λ x x_in other. lowered x other (w x x_in)
  where
    lowered : (x : ℕ) → ((literal s.watches x).0 ≡ p → ⊥) → WaitsOrIsInForce d waiting s.watches x → WaitsOrIsInForce d (slice_set waiting p false) s.watches x
    lowered x other (inl up) = inl (flag_other waiting p (literal s.watches x).0 false (λ same. other (sym same)) ∙ up)
    lowered x other (inr force) = inr force

-- and all do where p has two values
pub wait_two : (d : State) (waiting : List Bool) (p : ℕ) (s : watched.State) → HasTwo d p → WatchesWait d waiting s → WatchesWait d (slice_set waiting p false) s
wait_two d waiting p s two w = λ x x_in. by_vertex x x_in (cases_eq (literal s.watches x).0 p)
  where
    by_vertex : (x : ℕ) → x < length s.watches → ((literal s.watches x).0 ≡ p) ⊎ ((literal s.watches x).0 ≡ p → ⊥) → WaitsOrIsInForce d (slice_set waiting p false) s.watches x
    by_vertex x x_in (inl same) = inr (λ a. absurd (not_two d (literal s.watches x) (subst (λ (v : ℕ). HasTwo d v) (sym same) two) a))
    by_vertex x x_in (inr other) = wait_but_lowered d waiting p s w x x_in other

-- where each vertex of one value waits, so it is
pub wait_raised : (q : Problem) (d : State) (waiting : List Bool) (s : watched.State) → IsOf q d → DecidedWait d waiting d.vertices → AreNogoods q s → WatchesWait d waiting s
wait_raised q d waiting s is decided are = λ x x_in. by_flag x (subst (λ (n : ℕ). (literal s.watches x).0 < n) (sym is.vertices_is) (watch_vertex q s x are x_in)) (waits_at waiting (literal s.watches x).0) refl
  where
    by_flag : (x : ℕ) → (literal s.watches x).0 < d.vertices → (b : Bool) → waits_at waiting (literal s.watches x).0 ≡ b → WaitsOrIsInForce d waiting s.watches x
    by_flag x x_in true up = inl up
    by_flag x x_in false down = inr (λ a. absurd (decided (literal s.watches x).0 x_in down (single_size d (literal s.watches x).0 (literal s.watches x).1 a)))

-- where none waits, all are in force
pub force_where_none_waits : (q : Problem) (d : State) (waiting : List Bool) (s : watched.State) → length waiting ≡ size q.pattern
    → ((p : ℕ) → p < length waiting → waits_at waiting p ≡ false) → AreNogoods q s → WatchesWait d waiting s → InForce d s.watches
force_where_none_waits q d waiting s long none are w = λ x x_in. by x (none (literal s.watches x).0 (subst (λ (n : ℕ). (literal s.watches x).0 < n) (sym long) (watch_vertex q s x are x_in))) (w x x_in)
  where
    by : (x : ℕ) → waits_at waiting (literal s.watches x).0 ≡ false → WaitsOrIsInForce d waiting s.watches x → IsInForce d s.watches x
    by x down (inl up) = absurd (cc (down, up))
    by x down (inr force) = force

-- where counting has decided vertices, these wait
pub wait_pruned : (q : Problem) (old new : State) (after : List Bool) (s : watched.State) → IsPart new old → DecidedOnesWait q old new after → AreNogoods q s
    → InForce old s.watches → WatchesWait new after s
wait_pruned q old new after s less noted are force = λ x x_in. by_note x x_in (noted (literal s.watches x).0 (watch_vertex q s x are x_in))
  where
    by_note : (x : ℕ) → x < length s.watches
        → (waits_at after (literal s.watches x).0 ≡ true) ⊎ (HasTwo new (literal s.watches x).0 ⊎ ((t : ℕ) → in_domain new (literal s.watches x).0 t ≡ in_domain old (literal s.watches x).0 t))
        → WaitsOrIsInForce new after s.watches x
    by_note x x_in (inl up) = inl up
    by_note x x_in (inr y) = inr (force_on old new s.watches x less y (force x x_in))

-- where p is given its value and waits, the others are as they were
pub wait_assigned : (old new : State) (p : ℕ) (keeps : ℕ → Bool) (waiting : List Bool) (s : watched.State) → changes.Keeps old new p keeps → p < length waiting
    → InForce old s.watches → WatchesWait new (slice_set waiting p true) s
wait_assigned old new p keeps waiting s k p_in force = λ x x_in. by_vertex x x_in (cases_eq (literal s.watches x).0 p)
  where
    by_vertex : (x : ℕ) → x < length s.watches → ((literal s.watches x).0 ≡ p) ⊎ ((literal s.watches x).0 ≡ p → ⊥) → WaitsOrIsInForce new (slice_set waiting p true) s.watches x
    by_vertex x x_in (inl same) = inl (ap (waits_at (slice_set waiting p true)) same ∙ flag_here waiting p true p_in)
    by_vertex x x_in (inr other) = inr (force_on old new s.watches x k.shrinks.less (inr (λ t. k.shrinks.others (literal s.watches x).0 t other)) (force x x_in))

-- ---- a look at the nogoods of a literal

-- the literal is among these pairs
record IsAmong (pairs : List (ℕ × ℕ × ℕ)) (l : ℕ × ℕ) : Type 0 where
  pub place : ℕ
  pub within : place < length pairs
  pub vertex : (forced_at pairs place).0 ≡ l.0
  pub value : (forced_at pairs place).1 ≡ l.1

-- so it is out where they are
out_among : (d : State) (pairs : List (ℕ × ℕ × ℕ)) (l : ℕ × ℕ) → AreOut d pairs → IsAmong pairs l → in_domain d l.0 l.1 ≡ false
out_among d pairs l out a =
    subst (λ (v : ℕ). in_domain d v l.1 ≡ false) a.vertex (subst (λ (u : ℕ). in_domain d (forced_at pairs a.place).0 u ≡ false) a.value (out a.place a.within))

-- after a look a watch waits or is in force, or the other one is forced
abbrev Looked : State → List Bool → List (ℕ × ℕ) → List (ℕ × ℕ × ℕ) → ℕ → Type 0
Looked d waiting watches pairs x = WaitsOrIsInForce d waiting watches x ⊎ IsAmong pairs (literal watches (partner x))

is_literal : (l : ℕ × ℕ) (p t : ℕ) → (l ≡ (p, t)) ⊎ (l ≡ (p, t) → ⊥)
is_literal l p t = by (cases_eq l.0 p) (cases_eq l.1 t)
  where
    by : (l.0 ≡ p) ⊎ (l.0 ≡ p → ⊥) → (l.1 ≡ t) ⊎ (l.1 ≡ t → ⊥) → (l ≡ (p, t)) ⊎ (l ≡ (p, t) → ⊥)
    by (inl v) (inl u) = inl (ap (λ (x : ℕ). (x, l.1)) v ∙ ap (λ (y : ℕ). (p, y)) u)
    by (inl v) (inr other) = inr (λ same. other (ap (λ (k : ℕ × ℕ). k.1) same))
    by (inr other) y = inr (λ same. other (ap (λ (k : ℕ × ℕ). k.0) same))

-- a watch that has not moved, and whose other one has not, is as it was
wait_same : (d : State) (waiting : List Bool) (old new : List (ℕ × ℕ)) (x : ℕ) → literal new x ≡ literal old x → literal new (partner x) ≡ literal old (partner x)
    → WaitsOrIsInForce d waiting old x → WaitsOrIsInForce d waiting new x
wait_same d waiting old new x this other (inl up) = inl (ap (λ (l : ℕ × ℕ). waits_at waiting l.0) this ∙ up)
wait_same d waiting old new x this other (inr force) = inr (λ a. subst (λ (l : ℕ × ℕ). in_domain d l.0 l.1 ≡ false) (sym other) (force (subst (IsAssigned d) this a)))

looked : (d : State) (waiting : List Bool) (old new : watched.State) (p t x : ℕ) → AreWatches old.nogoods old.watches → changes.Single d p t → GuardsAll d old new (p, t)
    → KeepsOthers old new (p, t) → WatchesWaitBut d waiting p old → x < length old.watches → Looked d waiting new.watches new.forced x
looked d waiting old new p t x are single guarded others w x_in = by_this (is_literal (literal old.watches x) p t)
  where
    y_in : partner x < length old.watches
    y_in = partner_in x (length old.watches) (length old.nogoods) are.two x_in

    here : IsGuarded d new.watches new.forced (p, t) x → Looked d waiting new.watches new.forced x
    here (inl free) = inl (inr (λ a. absurd (free a)))
    here (inr (inl forced)) = inr (record {
      place = forced.place;
      within = forced.within;
      vertex = forced.vertex;
      value = forced.value;
    })
    here (inr (inr left)) = inl (inr (λ a. left.other))

    at_p : (l : ℕ × ℕ) → l.0 ≡ p → (l ≡ (p, t) → ⊥) → IsAssigned d l → ⊥
    at_p l same apart a =
        apart (ap (λ (v : ℕ). (v, l.1)) same ∙ ap (λ (u : ℕ). (p, u)) (single.only l.1 (subst (λ (v : ℕ). in_domain d v l.1 ≡ true) same a.here)))

    -- it is at another literal, and so still there; where the other one was at this one, it was not in force but where it is not assigned
    kept : (literal old.watches x ≡ (p, t) → ⊥) → (literal old.watches (partner x) ≡ (p, t)) ⊎ (literal old.watches (partner x) ≡ (p, t) → ⊥)
        → ((literal old.watches x).0 ≡ p) ⊎ ((literal old.watches x).0 ≡ p → ⊥) → WaitsOrIsInForce d waiting new.watches x
    kept apart y (inl same) = inr (λ a. absurd (at_p (literal old.watches x) same apart (subst (IsAssigned d) (others x x_in apart) a)))
    kept apart (inl is) (inr away) = beside (w x x_in away)
      where
        beside : WaitsOrIsInForce d waiting old.watches x → WaitsOrIsInForce d waiting new.watches x
        beside (inl up) = inl (ap (λ (l : ℕ × ℕ). waits_at waiting l.0) (others x x_in apart) ∙ up)
        beside (inr force) = inr (λ a. absurd (cc (subst (λ (l : ℕ × ℕ). in_domain d l.0 l.1 ≡ false) is (force (subst (IsAssigned d) (others x x_in apart) a)), single.here)))
    kept apart (inr none) (inr away) = wait_same d waiting old.watches new.watches x (others x x_in apart) (others (partner x) y_in none) (w x x_in away)

    by_this : (literal old.watches x ≡ (p, t)) ⊎ (literal old.watches x ≡ (p, t) → ⊥) → Looked d waiting new.watches new.forced x
    by_this (inl is) = here (guarded x x_in is)
    by_this (inr apart) = inl (kept apart (is_literal (literal old.watches (partner x)) p t) (cases_eq (literal old.watches x).0 p))

-- once what is forced is out, each watch waits or is in force
wait_taken : (q : Problem) (old new : State) (before after : List Bool) (watches : List (ℕ × ℕ)) (pairs : List (ℕ × ℕ × ℕ)) (x : ℕ) → Shrinks q old before new after → AreOut new pairs
    → (literal watches x).0 < size q.pattern → Looked old before watches pairs x → WaitsOrIsInForce new after watches x
wait_taken q old new before after watches pairs x s out x_in (inl w) = wait_shrunk q old new before after watches x s x_in w
wait_taken q old new before after watches pairs x s out x_in (inr among) = inr (λ a. out_among new pairs (literal watches (partner x)) out among)

pub wait_forced : (q : Problem) (d e : State) (before after : List Bool) (held old new : watched.State) (p t : ℕ) (pairs : List (ℕ × ℕ × ℕ)) → held ≡ old → AreNogoods q held → AreNogoods q new
    → length new.watches ≡ length old.watches → changes.Single d p t → GuardsAll d old new (p, t) → KeepsOthers old new (p, t) → WatchesWaitBut d before p held
    → pairs ≡ new.forced → Shrinks q d before e after → AreOut e pairs → WatchesWait e after new
wait_forced q d e before after held old new p t pairs same are after_are long single guarded others w is shrinks out = λ x x_in.
    wait_taken q d e before after new.watches new.forced x shrinks (subst (λ (es : List (ℕ × ℕ × ℕ)). AreOut e es) is out) (watch_vertex q new x after_are x_in)
    (looked d before old new p t x (subst (λ (s : watched.State). AreWatches s.nogoods s.watches) same are.watches) single guarded others
    (subst (λ (s : watched.State). WatchesWaitBut d before p s) same w) (subst (λ (n : ℕ). x < n) long x_in))

pub wait_looked : (answer : Bool) (q : Problem) (d e : State) (before after : List Bool) (held old new : watched.State) (p t : ℕ) (pairs : List (ℕ × ℕ × ℕ)) → held ≡ old → AreNogoods q held → AreNogoods q new
    → length new.watches ≡ length old.watches → changes.Single d p t → GuardsAll d old new (p, t) → KeepsOthers old new (p, t) → WatchesWaitBut d before p held
    → pairs ≡ new.forced → Forces answer q d before e after → OutAfter answer e pairs → WaitAfter answer e after (Some new)
wait_looked true q d e before after held old new p t pairs same are after_are long single guarded others w is forces out =
    wait_forced q d e before after held old new p t pairs same are after_are long single guarded others w is forces out
wait_looked false q d e before after held old new p t pairs same are after_are long single guarded others w is forces out = tt

pub none_out : (d : State) (pairs : List (ℕ × ℕ × ℕ)) → pairs ≡ [] → AreOut d pairs
none_out d pairs none = subst (λ (es : List (ℕ × ℕ × ℕ)). AreOut d es) (sym none) (λ k k_in. absurd (omega (arith, k_in)))

-- ---- how watches move

pub move_none : (q : Problem) (d : State) (s : watched.State) → AreNogoods q s → Move d s s
move_none q d s are = record { nogoods_same = refl; units_same = refl; watches_are = are.watches; stays = λ e part force. force }

pub move_more : (d mid : State) (a b c : watched.State) → IsPart mid d → Move d a b → Move mid b c → Move d a c
move_more d mid a b c less m n = record {
  nogoods_same = n.nogoods_same ∙ m.nogoods_same;
  units_same = n.units_same ∙ m.units_same;
  watches_are = n.watches_are;
  stays = λ e part force. n.stays e (λ p t h. part p t (less p t h)) (m.stays e part force);
}

pub move_looked : (q : Problem) (d : State) (held old new : watched.State) → held ≡ old → IsOf q d → HaveValues q d → AreNogoods q held → new.nogoods ≡ old.nogoods → new.units ≡ old.units
    → AreWatches new.nogoods new.watches → MovesToFree d old.watches new.watches → Move d held new
move_looked q d held old new same is some are nogoods units watches moves = subst (λ (s : watched.State). Move d s new) (sym same) (record {
  nogoods_same = nogoods;
  units_same = units;
  watches_are = watches;
  stays = λ e part force. watch_laws_hold.stays d e old.nogoods old.watches new.watches
      (record {
        literals_are = λ i i_in.
            subst (λ (n : ℕ). AreLiterals n d.values (watched.nogood old.nogoods i).literals) (sym is.vertices_is)
            (subst (λ (n : ℕ). AreLiterals (size q.pattern) n (watched.nogood old.nogoods i).literals) (sym is.values_is) (before.lists i i_in).literals);
        before = before.watches;
        after = subst (λ (ns : List watched.Nogood). AreWatches ns new.watches) nogoods watches;
        moves = moves;
      })
      (record { less = part; some = λ p p_in empty. let had = some p (subst (λ (n : ℕ). p < n) is.vertices_is p_in) in empty had.0 had.1 }) force;
})
  where
    before : AreNogoods q old
    before = subst (λ (s : watched.State). AreNogoods q s) same are

-- ---- where nogoods are kept

pub kept_then : (q : Problem) (n : Option watched.State) (P Q : watched.State → Type 0) → AreKept q n → ((s : watched.State) → AreNogoods q s → P s → Q s) → IfSome n P → IfSome n Q
kept_then q None P Q kept f h = tt
kept_then q (Some s) P Q kept f h = f s kept h

pub kept_each : (q : Problem) (n : Option watched.State) (Q : watched.State → Type 0) → AreKept q n → ((s : watched.State) → AreNogoods q s → Q s) → IfSome n Q
kept_each q None Q kept f = tt
kept_each q (Some s) Q kept f = f s kept

pub moved_none : (q : Problem) (d : State) (n : Option watched.State) → AreKept q n → HaveMoved d n n
moved_none q d None kept = tt
moved_none q d (Some s) kept = move_none q d s kept

pub moved_more : (d mid : State) (a b c : Option watched.State) → IsPart mid d → HaveMoved d a b → HaveMoved mid b c → HaveMoved d a c
moved_more d mid None None None less m n = tt
moved_more d mid (Some a) (Some b) (Some c) less m n = move_more d mid a b c less m n
moved_more d mid None None (Some c) less m n = absurd n
moved_more d mid None (Some b) c less m n = absurd m
moved_more d mid (Some a) None c less m n = absurd m
moved_more d mid (Some a) (Some b) None less m n = absurd n

-- watches that move keep names
pub moved_names : (d : State) (old new : Option watched.State) → HaveMoved d old new → KeepsNames old new
moved_names d None None moved name pairs h = h
moved_names d (Some s) (Some r) moved name pairs (inl h) = inl (subst (λ (ns : List watched.Nogood). NamesList ns name pairs) (sym moved.nogoods_same) h)
moved_names d (Some s) (Some r) moved name pairs (inr h) = inr (subst (λ (us : List (ℕ × ℕ × ℕ)). NamesUnit us name pairs) (sym moved.units_same) h)
moved_names d None (Some r) moved name pairs h = absurd moved
moved_names d (Some s) None moved name pairs h = absurd moved

-- ---- at rest

-- in what is part of domains of which d is a part
pub acted_wider : (d e : State) (n m : Option watched.State) → IsPart d e → HaveMoved d n m → AreActedOn e n → AreActedOn e m
acted_wider d e None None part moved a = tt
acted_wider d e (Some s) (Some r) part moved a = record {
  watches_are = moved.watches_are;
  watches = moved.stays e part a.watches;
  units = subst (λ (us : List (ℕ × ℕ × ℕ)). AreOut e us) (sym moved.units_same) a.units;
}
acted_wider d e None (Some r) part moved a = absurd moved
acted_wider d e (Some s) None part moved a = absurd moved

-- in what is left after consequences are taken
pub acted_after : (old new : State) (n m : Option watched.State) → IsPart new old → HaveMoved old n m → IfSome n (λ s. AreOut old s.units) → IfSome m (λ s. InForce new s.watches) → AreActedOn new m
acted_after old new None None part moved out force = tt
acted_after old new (Some s) (Some r) part moved out force = record {
  watches_are = moved.watches_are;
  watches = force;
  units = subst (λ (us : List (ℕ × ℕ × ℕ)). AreOut new us) (sym moved.units_same) (λ k k_in. out_on old new (forced_at s.units k).0 (forced_at s.units k).1 part (out k k_in));
}
acted_after old new None (Some r) part moved out force = absurd moved
acted_after old new (Some s) None part moved out force = absurd moved

pub acted_told : (answer : Bool) (q : Problem) (mid new : State) (n m : Option watched.State) → Propagates answer q mid new → HaveMoved mid n m → IfSome n (λ s. AreOut mid s.units)
    → InForceAfter answer new m → ActedAfter answer new m
acted_told true q mid new n m told moved out force = acted_after mid new n m told.0.less moved out force
acted_told false q mid new n m told moved out force = tt

-- the nogoods of one pair stay out
pub units_on : (old new : State) (n : Option watched.State) → IsPart new old → AreActedOn old n → IfSome n (λ s. AreOut new s.units)
units_on old new None part a = tt
units_on old new (Some s) part a = λ k k_in. out_on old new (forced_at s.units k).0 (forced_at s.units k).1 part (a.units k k_in)

-- and p waits, which is given its value
pub kept_assigned : (old new : State) (p : ℕ) (keeps : ℕ → Bool) (waiting : List Bool) (n : Option watched.State) → changes.Keeps old new p keeps → p < length waiting
    → AreActedOn old n → IfSome n (WatchesWait new (slice_set waiting p true))
kept_assigned old new p keeps waiting None k p_in a = tt
kept_assigned old new p keeps waiting (Some s) k p_in a = wait_assigned old new p keeps waiting s k p_in a.watches

-- nothing is left to follow
pub nothing_left : (d : State) (n : Option watched.State) → AreActedOn d n → IfSome n (NothingLeft d)
nothing_left d None a = tt
nothing_left d (Some s) a = record { follows = watch_laws_hold.enough d s.nogoods s.watches a.watches_are a.watches; units = a.units }

-- ---- what is taken out

-- one pair more
pub out_more : (old new : State) (pairs : List (ℕ × ℕ × ℕ)) (k : ℕ) → IsPart new old → changes.Keeps old new (forced_at pairs k).0 (λ v. not (v == (forced_at pairs k).1))
    → ((j : ℕ) → j < k → in_domain old (forced_at pairs j).0 (forced_at pairs j).1 ≡ false) → (j : ℕ) → j < k + 1 → in_domain new (forced_at pairs j).0 (forced_at pairs j).1 ≡ false
out_more old new pairs k part kept before j j_in = by_place (cases_eq j k)
  where
    fails : (a : Bool) (u : ℕ) → (a && not (u == u)) ≡ false
    fails true u = rw (eq-eqb u u refl) refl
    fails false u = refl

    by_place : (j ≡ k) ⊎ (j ≡ k → ⊥) → in_domain new (forced_at pairs j).0 (forced_at pairs j).1 ≡ false
    by_place (inl is) = subst (λ (i : ℕ). in_domain new (forced_at pairs i).0 (forced_at pairs i).1 ≡ false) (sym is)
        (kept.kept (forced_at pairs k).1 ∙ fails (in_domain old (forced_at pairs k).0 (forced_at pairs k).1) (forced_at pairs k).1)
    by_place (inr other) = out_on old new (forced_at pairs j).0 (forced_at pairs j).1 part (before j (omega (arith, j_in, other)))
