-- What nogoods force: pairs that no embedding has, and their removal.

use Rattle.std.proofs.Common.{◌≡◌, ℕ, suc, ◌*◌, ◌/◌, ◌==◌, ◌<◌, ◌≤◌, ◌&&◌, not, Bool, true, false, List, [], ◌∷◌, length, slice_index, slice_set, refl, sym, ap, ◌∙◌, subst, arith, ◌⊎◌, inl, inr}
use Rattle.std.proofs.lemmas.Bool.{ne_eqb}
use Rattle.graph_theory.specs.Graph.{size}
use Rattle.graph_theory.specs.Embedding.{Problem, Embeds}
use Rattle.graph_theory.specs.Path.{Extends}
use Rattle.search_theory.specs.Claims.{Inside, NoneInside, Single, Quiet}
use Rattle.domain_bits.specs.Removals.{State, in_domain}
use Rattle.domain_bits.specs.Changes as changes
use Rattle.domain_bits.proofs.Sizes.{in_below}
use Rattle.nogood_watch.specs.Nogoods as watched
use Rattle.nogood_watch.specs.Nogoods.{literal, partner, nogood, nogood_of}
use Rattle.nogood_watch.specs.Watching.{IsAssigned, Follows, AllFollow, IsWhole, forced_at}
use Rattle.nogood_watch.proofs.Visits.{partner_in}
use Rattle.recorder.specs.Telling.{IsOf}
use Rattle.propagation.specs.Propagation.{Narrows, HasTwo, IsSame, Shrinks, Rests, Ready, NotesSize, NotesTaken, Settles, Visited, Propagates, waits_at}
use Rattle.propagation.specs.Learning.{IsNogood, AreNogoods, IsUnused, Forces}
use Rattle.propagation.proofs.Narrowing.{narrows_more, narrows_keeps, none_narrowed, none_in_empty}
use Rattle.propagation.proofs.Waiting.{rests_on, rests_with_two}
use Rattle.propagation.proofs.Sweeping.{narrow_shrinks}
use Rattle.propagation.proofs.Visits.{shrinks_same, visited_settled}

-- ---- which pairs no embedding has

-- a list that has each pair of a path extends it
extends_by_place : (xs : List (ℕ × ℕ)) (m : List ℕ) → ((k : ℕ) → k < length xs → ((literal xs k).0 < length m) × (slice_index m (literal xs k).0 ≡ (literal xs k).1)) → Extends xs m
extends_by_place [] m h = tt
extends_by_place (x ∷ xs) m h = let first = h 0 (omega arith) in (first.0, first.1, extends_by_place xs m (λ k k_in. h (suc k) (omega (arith, k_in))))

-- an embedding within the domains has each pair that is assigned
assigned_in : (q : Problem) (d : State) (m : List ℕ) (l : ℕ × ℕ) → Inside q (in_domain d) m → l.0 < size q.pattern → IsAssigned d l → slice_index m l.0 ≡ l.1
assigned_in q d m l h l_in s = s.only (slice_index m l.0) (h l.0 l_in)

-- of a nogood all of whose pairs but one are assigned no embedding within the domains has that one
unused_last : (q : Problem) (d : State) (xs : List (ℕ × ℕ)) (p t : ℕ) → IsNogood q xs → ((k : ℕ) → k < length xs → (literal xs k ≡ (p, t)) ⊎ IsAssigned d (literal xs k))
    → (m : List ℕ) → Embeds q m → Inside q (in_domain d) m → slice_index m p ≡ t → ⊥
unused_last q d xs p t is rest m e h here = is.dead m e (extends_by_place xs m each)
  where
    place : (k : ℕ) → k < length xs → (literal xs k).0 < length m
    place k k_in = subst (λ (n : ℕ). (literal xs k).0 < n) (sym e.size_is) (is.literals.vertex k k_in)

    value : (l : ℕ × ℕ) → l.0 < size q.pattern → (l ≡ (p, t)) ⊎ IsAssigned d l → slice_index m l.0 ≡ l.1
    value l l_in (inl same) = subst (λ (x : ℕ × ℕ). slice_index m x.0 ≡ x.1) (sym same) here
    value l l_in (inr s) = assigned_in q d m l h l_in s

    each : (k : ℕ) → k < length xs → ((literal xs k).0 < length m) × (slice_index m (literal xs k).0 ≡ (literal xs k).1)
    each k k_in = (place k k_in, value (literal xs k) (is.literals.vertex k k_in) (rest k k_in))

-- no embedding is within domains in which a nogood is whole
pub none_whole : (q : Problem) (d : State) (s : watched.State) (name : ℕ) → AreNogoods q s → IsWhole d s.nogoods name → NoneInside q (in_domain d)
none_whole q d s name are w m e h = nogood.dead m e (extends_by_place xs m each)
  where
    xs : List (ℕ × ℕ)
    xs = (watched.nogood s.nogoods w.place).literals

    nogood : IsNogood q xs
    nogood = are.lists w.place w.within

    each : (k : ℕ) → k < length xs → ((literal xs k).0 < length m) × (slice_index m (literal xs k).0 ≡ (literal xs k).1)
    each k k_in = (
      subst (λ (n : ℕ). (literal xs k).0 < n) (sym e.size_is) (nogood.literals.vertex k k_in),
      assigned_in q d m (literal xs k) h (nogood.literals.vertex k k_in) (w.all k k_in),
    )

-- the nogood of a watch
pub half_in : (x n m : ℕ) → n ≡ 2 * m → x < n → x / 2 < m
half_in x n m is x_in = omega arith

-- a pair that follows is unused
pub unused_following : (q : Problem) (d : State) (old new : watched.State) (l : ℕ × ℕ) (e : ℕ × ℕ × ℕ) → IsOf q d → AreNogoods q old → AreNogoods q new
    → length new.watches ≡ length old.watches → Follows d old.nogoods old.watches new.watches l e → IsUnused q d e
unused_following q d old new l e of are after long f = record {
  vertex_in = subst (λ (x : ℕ × ℕ). x.0 < size q.pattern) f.other watch_in;
  value_in = subst (λ (n : ℕ). e.1 < n) of.values_is (in_below d e.0 e.1 f.here);
  none = unused_last q d (nogood_of old.nogoods f.watch).literals e.0 e.1 (are.lists (f.watch / 2) (half_in f.watch (length old.watches) (length old.nogoods) are.watches.two f.within)) f.rest;
}
  where
    other_in : partner f.watch < length new.watches
    other_in = subst (λ (n : ℕ). partner f.watch < n) (sym long) (partner_in f.watch (length old.watches) (length old.nogoods) are.watches.two f.within)

    watch_in : (literal new.watches (partner f.watch)).0 < size q.pattern
    watch_in =
        let place = after.watches.of (partner f.watch) other_in in
        let is = after.lists (partner f.watch / 2) (half_in (partner f.watch) (length new.watches) (length new.nogoods) after.watches.two other_in) in
        subst (λ (x : ℕ × ℕ). x.0 < size q.pattern) place.2 (is.literals.vertex place.0 place.1)

-- a nogood of one pair is unused
pub unused_unit : (q : Problem) (d : State) (e : ℕ × ℕ × ℕ) → IsNogood q ((e.0, e.1) ∷ []) → IsUnused q d e
unused_unit q d e is = record {
  vertex_in = is.literals.vertex 0 (omega arith);
  value_in = is.literals.value 0 (omega arith);
  none = λ m em h here. is.dead m em (subst (λ (n : ℕ). e.0 < n) (sym em.size_is) (is.literals.vertex 0 (omega arith)), here, tt);
}

-- what is unused stays so
pub unused_on : (q : Problem) (old new : State) (e : ℕ × ℕ × ℕ) → Narrows q old new → IsUnused q old e → IsUnused q new e
unused_on q old new e n is = record {
  vertex_in = is.vertex_in;
  value_in = is.value_in;
  none = λ m em h. is.none m em (λ p p_in. n.less p (slice_index m p) (h p p_in));
}

-- ---- the nogoods after a look at them

pub nogoods_looked : (q : Problem) (old new : watched.State) → AreNogoods q old → new.vertices ≡ old.vertices → new.values ≡ old.values → new.nogoods ≡ old.nogoods
    → new.units ≡ old.units → watched.AreWatches new.nogoods new.watches → AreNogoods q new
nogoods_looked q old new are v w same units watches = record {
  vertices_is = v ∙ are.vertices_is;
  values_is = w ∙ are.values_is;
  watches = watches;
  lists = subst (λ (ns : List watched.Nogood). (i : ℕ) → i < length ns → IsNogood q (watched.nogood ns i).literals) (sym same) are.lists;
  units = subst (λ (us : List (ℕ × ℕ × ℕ)). (i : ℕ) → i < length us → IsNogood q (((forced_at us i).0, (forced_at us i).1) ∷ [])) (sym units) are.units;
}

-- as many watches
pub watches_long : (old new : watched.State) → watched.AreWatches old.nogoods old.watches → watched.AreWatches new.nogoods new.watches → new.nogoods ≡ old.nogoods
    → length new.watches ≡ length old.watches
watches_long old new a b same = b.two ∙ ap (λ (ns : List watched.Nogood). 2 * length ns) same ∙ sym a.two

-- what the domains say of a vertex, in the words of the watches
pub assigned_of : (d : State) (p t : ℕ) → Single (in_domain d) p t → changes.Single d p t
assigned_of d p t s = record { here = s.here; only = s.only }

-- what a look at the nogoods forces is unused
pub unused_forced : (q : Problem) (d : State) (held old new : watched.State) (l : ℕ × ℕ) (es : List (ℕ × ℕ × ℕ)) → held ≡ old → IsOf q d → AreNogoods q held → AreNogoods q new
    → watched.AreWatches new.nogoods new.watches → new.nogoods ≡ old.nogoods → AllFollow d old new l → es ≡ new.forced → (k : ℕ) → k < length es → IsUnused q d (forced_at es k)
unused_forced q d held old new l es same of are after watches nogoods follow is k k_in =
    let before = subst (λ (s : watched.State). AreNogoods q s) same are in
    unused_following q d old new l (forced_at es k) of before after (watches_long old new before.watches watches nogoods)
    (subst (λ (fs : List (ℕ × ℕ × ℕ)). Follows d old.nogoods old.watches new.watches l (forced_at fs k)) (sym is)
    (follow k (subst (λ (fs : List (ℕ × ℕ × ℕ)). k < length fs) is k_in)))

pub held_looked : (q : Problem) (held old new : watched.State) → held ≡ old → AreNogoods q held → new.vertices ≡ old.vertices → new.values ≡ old.values → new.nogoods ≡ old.nogoods
    → new.units ≡ old.units → watched.AreWatches new.nogoods new.watches → AreNogoods q new
held_looked q held old new same are v w nogoods units watches = nogoods_looked q old new (subst (λ (s : watched.State). AreNogoods q s) same are) v w nogoods units watches

pub held_unit : (q : Problem) (d : State) (held old : watched.State) (es : List (ℕ × ℕ × ℕ)) → held ≡ old → AreNogoods q held → es ≡ old.units → (k : ℕ) → k < length es
    → IsUnused q d (forced_at es k)
held_unit q d held old es same are is k k_in =
    let before = subst (λ (s : watched.State). AreNogoods q s) same are in
    subst (λ (us : List (ℕ × ℕ × ℕ)). IsUnused q d (forced_at us k)) (sym is)
    (unused_unit q d (forced_at old.units k) (before.units k (subst (λ (us : List (ℕ × ℕ × ℕ)). k < length us) is k_in)))

-- ---- one value

other_passes : (v u : ℕ) → (v ≡ u → ⊥) → not (v == u) ≡ true
other_passes v u apart = rw (ne_eqb v u apart) refl

pub narrows_unused : (q : Problem) (old new : State) (e : ℕ × ℕ × ℕ) → IsUnused q old e → changes.Keeps old new e.0 (λ v. not (v == e.1)) → Narrows q old new
narrows_unused q old new e is k =
    narrows_keeps q old new e.0 (λ v. not (v == e.1)) k (λ m em h. other_passes (slice_index m e.0) e.1 (is.none m em h))

-- where a value was there and others are left, there was not one only
not_single_before : (old new : State) (before after : List Bool) (r u : ℕ) → changes.Keeps old new r (λ v. not (v == u)) → in_domain old r u ≡ true → NotesSize true new before after r
    → (x : ℕ) → Single (in_domain old) r x → ⊥
not_single_before old new before after r u k here notes x s = apart (s.only u here) (left notes)
  where
    second : (a b : Bool) → (a && b) ≡ true → b ≡ true
    second true b h = h
    second false b h = cc

    passed : (v : ℕ) → in_domain new r v ≡ true → not (v == u) ≡ true
    passed v h = second (in_domain old r v) (not (v == u)) (sym (k.kept v) ∙ h)

    one : (v : ℕ) → in_domain new r v ≡ true → not (x == u) ≡ true
    one v h = subst (λ (w : ℕ). not (w == u) ≡ true) (s.only v (k.shrinks.less r v h)) (passed v h)

    left : NotesSize true new before after r → not (x == u) ≡ true
    left (inl (v, single, raised)) = one v single.here
    left (inr (two, same)) = one two.value two.here

    clash : (b : Bool) → b ≡ true → not b ≡ true → ⊥
    clash true f g = cc
    clash false f g = cc

    apart : u ≡ x → not (x == u) ≡ true → ⊥
    apart same passes = grind (arith, same, passes)

pub shrinks_taken : (q : Problem) (old new : State) (before after : List Bool) (e : ℕ × ℕ × ℕ) → IsUnused q old e → changes.Keeps old new e.0 (λ v. not (v == e.1))
    → e.0 < length before → length new.removed ≤ new.vertices * new.values → NotesTaken true old before new after e.0 e.1 → Shrinks q old before new after
shrinks_taken q old new before after e is k flag bounded (inl (told, same, flags)) = shrinks_same q old new before after same flags bounded
shrinks_taken q old new before after e is k flag bounded (inr (here, notes)) =
    narrow_shrinks q old new before after e.0 (λ v. not (v == e.1)) k (narrows_unused q old new e is k) flag bounded notes
    (inr (not_single_before old new before after e.0 e.1 k here notes))

pub none_taken : (q : Problem) (old new : State) (before after : List Bool) (e : ℕ × ℕ × ℕ) → IsUnused q old e → changes.Keeps old new e.0 (λ v. not (v == e.1))
    → NotesTaken false old before new after e.0 e.1 → Narrows q old new × NoneInside q (in_domain old)
none_taken q old new before after e is k (inl (told, same, flags)) = absurd (clash told)
  where
    clash : false ≡ true → ⊥
    clash h = cc
none_taken q old new before after e is k (inr (here, notes)) =
    let n = narrows_unused q old new e is k in
    (n, none_narrowed q old new n (none_in_empty q new e.0 is.vertex_in notes.0))

-- where a value was taken and none is left, the domain is empty
pub emptied_taken : (old new : State) (before after : List Bool) (r u : ℕ) → NotesTaken false old before new after r u → (t : ℕ) → in_domain new r t ≡ true → ⊥
emptied_taken old new before after r u (inl (told, same, flags)) = absurd (clash told)
  where
    clash : false ≡ true → ⊥
    clash h = cc
emptied_taken old new before after r u (inr (here, notes)) = notes.0

-- ---- all of them

pub forces_none : (q : Problem) (old mid new : State) (before between : List Bool) → Shrinks q old before mid between → Narrows q mid new × NoneInside q (in_domain mid)
    → Narrows q old new × NoneInside q (in_domain old)
forces_none q old mid new before between s told = (narrows_more q old mid new s.narrows told.0, none_narrowed q old mid s.narrows told.1)

-- ---- a visit and what the nogoods force after it

-- each vertex goes on to wait or rest
pub ready_on : (q : Problem) (old new : State) (before after : List Bool) → Ready q old before → Shrinks q old before new after → Ready q new after
ready_on q old new before after ready s = record {
  long = s.long ∙ ready.long;
  some = λ r r_in. s.some r (ready.some r r_in);
  each = λ r r_in. by_note r (s.noted r r_in) (ready.each r r_in);
}
  where
    by_note : (r : ℕ) → (waits_at after r ≡ true) ⊎ (HasTwo new r ⊎ IsSame old before new after r) → (waits_at before r ≡ true) ⊎ Rests q old r
        → (waits_at after r ≡ true) ⊎ Rests q new r
    by_note r (inl w) y = inl w
    by_note r (inr (inl two)) y = inr (rests_with_two q new r two)
    by_note r (inr (inr same)) (inl w) = inl (same.flag ∙ w)
    by_note r (inr (inr same)) (inr rests) = inr (rests_on q old new r s.narrows.less same.domain rests)

pub visited_forced : (answer : Bool) (q : Problem) (old mid new : State) (before between after : List Bool) → Visited true q old before mid between
    → Forces answer q mid between new after → Visited answer q old before new after
visited_forced true q old mid new before between after v s = (
  narrows_more q old mid new v.0 s.narrows,
  ready_on q mid new between after v.1 s,
  omega (arith, v.2, s.less_work),
)
visited_forced false q old mid new before between after v told = (narrows_more q old mid new v.0 told.0, none_narrowed q old mid v.0 told.1)

-- the same where the rows are of the problem after they are made as before
pub visited_settled_forced : (answer : Bool) (q r : Problem) (old mid new : State) (waiting between after : List Bool) (p t : ℕ) → r ≡ q → Ready q old waiting → waits_at waiting p ≡ true
    → Single (in_domain old) p t → Settles true r old (slice_set waiting p false) mid between p t → Forces answer r mid between new after → Visited answer q old waiting new after
visited_settled_forced answer q r old mid new waiting between after p t is ready up s settled forced =
    visited_forced answer q old mid new waiting between after
    (visited_settled true q old mid waiting between p t ready up s (subst (λ (x : Problem). Settles true x old (slice_set waiting p false) mid between p t) is settled))
    (subst (λ (x : Problem). Forces answer x mid between new after) is forced)

-- what stands once p at t has been settled, for a look at the nogoods
pub settled_single : (q : Problem) (old mid : State) (before between : List Bool) (p t : ℕ) → Single (in_domain old) p t → Settles true q old before mid between p t → Single (in_domain mid) p t
settled_single q old mid before between p t s g = record { here = g.own t ∙ s.here; only = λ u h. s.only u (sym (g.own u) ∙ h) }

-- ---- from domains at rest

-- each vertex rests, whichever wait
pub ready_at_rest : (q : Problem) (d : State) (waiting : List Bool) → Quiet q (in_domain d) → length waiting ≡ size q.pattern → Ready q d waiting
ready_at_rest q d waiting quiet long = record {
  long = long;
  some = quiet.some;
  each = λ p p_in. inr (record { some = quiet.some p p_in; settled = λ t s. quiet.settled p t p_in s });
}

-- what was taken out and then propagated
pub propagated_after : (answer : Bool) (q : Problem) (old mid new : State) → Narrows q old mid → Propagates answer q mid new → Propagates answer q old new
propagated_after true q old mid new n told = (narrows_more q old mid new n told.0, told.1, told.2)
propagated_after false q old mid new n told = (narrows_more q old mid new n told.0, none_narrowed q old mid n told.1)
