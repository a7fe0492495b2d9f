-- The steps of propagation, put together: one domain, all domains, one vertex that waited.

use Rattle.std.proofs.Common.{◌≡◌, ℕ, zero, suc, ◌*◌, ◌<◌, ◌≤◌, ◌==◌, ◌&&◌, not, Bool, true, false, List, length, slice_set, refl, sym, ◌∙◌, subst, arith, ◌⊎◌, inl, inr}
use Rattle.std.proofs.lemmas.Bool.{cases_eq, eq-eqb, ne_eqb, true≢false}
use Rattle.graph_theory.specs.Graph.{size}
use Rattle.graph_theory.specs.Embedding.{Problem, differ}
use Rattle.search_theory.specs.Consistency.{AreConsistent}
use Rattle.search_theory.specs.Claims.{Single}
use Rattle.graph_theory.specs.Neighbours.{count}
use Rattle.domain_bits.specs.Removals.{State, in_domain, size_of}
use Rattle.domain_bits.specs.Changes as changes
use Rattle.domain_bits.proofs.Sizes.{in_below}
use Rattle.propagation.specs.Propagation.{Narrows, waits_at, work, HasTwo, Shrinks, Rests, Ready, ReadyBut, NotesSize, NotesTaken, Swept, Sweeps, Settles, Visited}
use Rattle.propagation.proofs.Narrowing.{narrows_none, narrows_keeps, none_narrowed, none_in_empty}
use Rattle.propagation.proofs.Waiting.{shrinks_none, ready_but_on, ready_with, ready_but_lowered, rests_with_two, count_lowered, swept_by_rest}
use Rattle.propagation.proofs.Sweeping.{narrow_shrinks, images_pass, kept_swept, rests_settled}

-- ---- what sizes say

-- a test that some number passes
some_counted : (f : ℕ → Bool) (n : ℕ) → (count f n ≡ 0 → ⊥) → (v : ℕ) × (f v ≡ true)
some_counted f zero some = absurd (some refl)
some_counted f (suc n) some = by_last (f n) refl (some_counted f n)
  where
    by_last : (b : Bool) → f n ≡ b → ((count f n ≡ 0 → ⊥) → (v : ℕ) × (f v ≡ true)) → (v : ℕ) × (f v ≡ true)
    by_last true is rest = (n, is)
    by_last false is rest = rest (λ none. some (last is none))
      where
        last : f n ≡ false → count f n ≡ 0 → count f (suc n) ≡ 0
        last off none = rw off (omega (arith, none))

-- what the domains say of one vertex, in the words of the search
pub single_of : (d : State) (p t : ℕ) → changes.Single d p t → Single (in_domain d) p t
single_of d p t s = record { here = s.here; only = s.only }

pub not_single_of : (d : State) (p : ℕ) → ((t : ℕ) → changes.Single d p t → ⊥) → (t : ℕ) → Single (in_domain d) p t → ⊥
not_single_of d p none t s = none t (record { here = s.here; only = s.only })

-- a domain that is neither empty nor single has two values
pub two_of : (d : State) (p size : ℕ) → size ≡ size_of d p → (size ≡ 0 → ⊥) → ((t : ℕ) → changes.Single d p t → ⊥) → HasTwo d p
two_of d p size is some none =
    let found = some_counted (in_domain d p) d.values (λ empty. some (is ∙ empty)) in
    record { value = found.0; here = found.1; not_single = not_single_of d p none }

-- ---- one domain

not_both : (b : Bool) → b ≡ false → b ≡ true → ⊥
not_both true x y = cc
not_both false x y = cc

-- a vertex that is decided and does not wait has taken its consequences
pub sweeps_decided : (q : Problem) (d : State) (waiting : List Bool) (p t r v : ℕ) → p < size q.pattern → r < size q.pattern → (p ≡ r → ⊥) → ReadyBut q d waiting p
    → waits_at waiting r ≡ false → Single (in_domain d) p t → Single (in_domain d) r v → length d.removed ≤ d.vertices * d.values → Sweeps true q d waiting d waiting p t r
sweeps_decided q d waiting p t r v p_in r_in other ready down s o bounded = record {
  narrows = narrows_none q d;
  swept = swept_by_rest q d p t r p_in s.here (resting (ready.each r r_in other)) v o;
  own = λ u. refl;
  gone = λ x u here gone. absurd (not_both (in_domain d x u) gone here);
  shrinks = λ _. shrinks_none q d waiting bounded;
}
  where
    resting : (waits_at waiting r ≡ true) ⊎ Rests q d r → Rests q d r
    resting (inl up) = absurd (not_both (waits_at waiting r) down up)
    resting (inr rests) = rests

-- at p itself there is nothing to do
pub sweeps_own : (q : Problem) (d : State) (waiting : List Bool) (p t r : ℕ) → r ≡ p → length d.removed ≤ d.vertices * d.values → Sweeps true q d waiting d waiting p t r
sweeps_own q d waiting p t r same bounded = record {
  narrows = narrows_none q d;
  swept = λ u other h. absurd (other (sym same));
  own = λ u. refl;
  gone = λ x u here gone. absurd (not_both (in_domain d x u) gone here);
  shrinks = λ _. shrinks_none q d waiting bounded;
}

-- nothing has changed
pub shrinks_same : (q : Problem) (old new : State) (before after : List Bool) → new ≡ old → after ≡ before → length new.removed ≤ new.vertices * new.values
    → Shrinks q old before new after
shrinks_same q old new before after same flags bounded =
    subst (λ (d : State). Shrinks q old before d after) (sym same)
    (subst (λ (ws : List Bool). Shrinks q old before old ws) (sym flags) (shrinks_none q old before (subst (λ (d : State). length d.removed ≤ d.vertices * d.values) same bounded)))

-- what left a domain that keeps what passes was of it, and did not pass
pub gone_kept : (old new : State) (r : ℕ) (keeps : ℕ → Bool) → changes.Keeps old new r keeps → (x u : ℕ) → in_domain old x u ≡ true → in_domain new x u ≡ false
    → (x ≡ r) × (keeps u ≡ false)
gone_kept old new r keeps k x u here gone = by (cases_eq x r)
  where
    failed : (a b : Bool) → a ≡ true → (a && b) ≡ false → b ≡ false
    failed true b h out = out
    failed false b h out = cc

    by : (x ≡ r) ⊎ (x ≡ r → ⊥) → (x ≡ r) × (keeps u ≡ false)
    by (inl is) = (
      is,
      failed (in_domain old r u) (keeps u) (subst (λ (v : ℕ). in_domain old v u ≡ true) is here)
          (sym (k.kept u) ∙ subst (λ (v : ℕ). in_domain new v u ≡ false) is gone),
    )
    by (inr other) = absurd (not_both (in_domain new x u) gone (k.shrinks.others x u other ∙ here))

-- so it is not consistent, where all that is passes
gone_inconsistent : (q : Problem) (old new : State) (p t r : ℕ) (keeps : ℕ → Bool) → old.values ≡ size q.target → changes.Keeps old new r keeps
    → ((u : ℕ) → AreConsistent q p t r u → u < size q.target → keeps u ≡ true) → (x u : ℕ) → in_domain old x u ≡ true → in_domain new x u ≡ false
    → (x ≡ r) × (AreConsistent q p t r u → ⊥)
gone_inconsistent q old new p t r keeps values k complete x u here gone =
    let left = gone_kept old new r keeps k x u here gone in
    (left.0, λ c. not_both (keeps u) left.1 (complete u c (subst (λ (n : ℕ). u < n) values (in_below old x u here))))

-- a domain of which the consistent values are kept
pub sweeps_narrowed : (answer : Bool) (q : Problem) (old new : State) (before after : List Bool) (p t r : ℕ) (keeps : ℕ → Bool) → old.values ≡ size q.target → p < size q.pattern → r < size q.pattern → (p ≡ r → ⊥)
    → r < length before → Single (in_domain old) p t → changes.Keeps old new r keeps → NotesSize answer new before after r → length new.removed ≤ new.vertices * new.values
    → ((u : ℕ) → u < size q.target → keeps u ≡ true → AreConsistent q p t r u) → ((u : ℕ) → AreConsistent q p t r u → u < size q.target → keeps u ≡ true)
    → (waits_at before r ≡ true) ⊎ ((u : ℕ) → Single (in_domain old) r u → ⊥) → Sweeps answer q old before new after p t r
sweeps_narrowed answer q old new before after p t r keeps values p_in r_in other flag s k notes bounded right complete undecided = record {
  narrows = narrows;
  swept = by_answer answer notes;
  own = λ v. k.shrinks.others p v other;
  gone = gone_inconsistent q old new p t r keeps values k complete;
  shrinks = λ is. narrow_shrinks q old new before after r keeps k narrows flag bounded (subst (λ (b : Bool). NotesSize b new before after r) is notes) undecided;
}
  where
    narrows : Narrows q old new
    narrows = narrows_keeps q old new r keeps k (images_pass q old p t r keeps p_in r_in other s complete)

    by_answer : (b : Bool) → NotesSize b new before after r → Swept b q new p t r
    by_answer true n = kept_swept q old new p t r keeps values k right
    by_answer false n = n.0

-- a domain from which nothing was taken, where p and r are asked nothing, not even distinct images
pub sweeps_free : (q : Problem) (d : State) (waiting : List Bool) (p t r : ℕ) → length d.removed ≤ d.vertices * d.values → ((u : ℕ) → AreConsistent q p t r u) → Sweeps true q d waiting d waiting p t r
sweeps_free q d waiting p t r bounded free = record {
  narrows = narrows_none q d;
  swept = λ u other here. free u;
  own = λ v. refl;
  gone = λ x u here gone. absurd (true≢false (sym here ∙ gone));
  shrinks = λ _. shrinks_same q d d waiting waiting refl refl bounded;
}

-- a domain from which t was taken, where p and r are asked nothing but distinct images
pub sweeps_taken : (answer : Bool) (q : Problem) (old new : State) (before after : List Bool) (p t r : ℕ) → old.values ≡ size q.target → p < size q.pattern → r < size q.pattern → (p ≡ r → ⊥)
    → r < length before → Single (in_domain old) p t → changes.Keeps old new r (λ v. not (v == t)) → NotesTaken answer old before new after r t
    → length new.removed ≤ new.vertices * new.values → differ q p r ≡ true → ((u : ℕ) → (differ q p r ≡ true → t ≡ u → ⊥) → AreConsistent q p t r u)
    → (waits_at before r ≡ true) ⊎ ((u : ℕ) → Single (in_domain old) r u → ⊥) → Sweeps answer q old before new after p t r
sweeps_taken answer q old new before after p t r values p_in r_in other flag s k taken bounded apart free undecided = by_taken taken
  where
    right : (u : ℕ) → u < size q.target → not (u == t) ≡ true → AreConsistent q p t r u
    right u u_in passes = free u (λ _ same. not_both (u == t) (passed (u == t) passes) (eq-eqb u t (sym same)))
      where
        passed : (b : Bool) → not b ≡ true → b ≡ false
        passed true h = cc
        passed false h = refl

    complete : (u : ℕ) → AreConsistent q p t r u → u < size q.target → not (u == t) ≡ true
    complete u c u_in = rw (ne_eqb u t (λ same. c.pair.apart apart (sym same))) refl

    by_taken : NotesTaken answer old before new after r t → Sweeps answer q old before new after p t r
    by_taken (inr (here, notes)) = sweeps_narrowed answer q old new before after p t r (λ v. not (v == t)) values p_in r_in other flag s k notes bounded right complete undecided
    by_taken (inl (told, same, flags)) = record {
      narrows = narrows_keeps q old new r (λ v. not (v == t)) k (images_pass q old p t r (λ v. not (v == t)) p_in r_in other s complete);
      swept = subst (λ (b : Bool). Swept b q new p t r) (sym told) (kept_swept q old new p t r (λ v. not (v == t)) values k right);
      own = λ v. k.shrinks.others p v other;
      gone = gone_inconsistent q old new p t r (λ v. not (v == t)) values k complete;
      shrinks = λ _. shrinks_same q old new before after same flags bounded;
    }

-- ---- one vertex that waited

-- its flag lowered, the work is less
lowered_less : (q : Problem) (d new : State) (waiting after : List Bool) (p : ℕ) → waits_at waiting p ≡ true → work new after ≤ work d (slice_set waiting p false) → work new after < work d waiting
lowered_less q d new waiting after p up le = omega (arith, count_lowered waiting p up, le)

pub visited_settled : (answer : Bool) (q : Problem) (old new : State) (waiting after : List Bool) (p t : ℕ) → Ready q old waiting → waits_at waiting p ≡ true
    → Single (in_domain old) p t → Settles answer q old (slice_set waiting p false) new after p t → Visited answer q old waiting new after
visited_settled true q old new waiting after p t ready up s g = (
  g.shrinks.narrows,
  ready_with q new after p (ready_but_on q old new (slice_set waiting p false) after p (ready_but_lowered q old waiting p ready) g.shrinks)
      (rests_settled q old new (slice_set waiting p false) after p t s g),
  lowered_less q old new waiting after p up g.shrinks.less_work,
)
visited_settled false q old new waiting after p t ready up s g = (g.0, none_narrowed q old new g.0 g.1)

pub visited_two : (q : Problem) (d : State) (waiting : List Bool) (p : ℕ) → Ready q d waiting → waits_at waiting p ≡ true → HasTwo d p
    → Visited true q d waiting d (slice_set waiting p false)
visited_two q d waiting p ready up two = (
  narrows_none q d,
  ready_with q d (slice_set waiting p false) p (ready_but_lowered q d waiting p ready) (rests_with_two q d p two),
  lowered_less q d d waiting (slice_set waiting p false) p up (omega arith),
)

pub visited_empty : (q : Problem) (d : State) (waiting after : List Bool) (p : ℕ) → p < size q.pattern → changes.IsEmptyDomain d p → Visited false q d waiting d after
visited_empty q d waiting after p p_in empty = (narrows_none q d, none_in_empty q d p p_in empty)
