-- The consequences of a vertex of one value, taken from one domain after another.

use Rattle.std.proofs.Common.{◌≡◌, ℕ, ◌+◌, ◌-◌, ◌*◌, ◌<◌, ◌≤◌, ◌&&◌, Bool, true, false, List, [], ◌∷◌, ◌++◌, length, slice_index, slice_set, refl, sym, ap, ◌∙◌, subst, arith, ◌⊎◌, inl, inr, length-append}
use Rattle.std.proofs.lemmas.Bool.{cases_eq}
use Rattle.std.proofs.lemmas.List.{append-nil, length-set}
use Rattle.graph_theory.specs.Graph.{size}
use Rattle.graph_theory.specs.Embedding.{Problem, Embeds}
use Rattle.search_theory.specs.Consistency.{AreConsistent}
use Rattle.search_theory.specs.Claims.{Single, Inside}
use Rattle.search_theory.proofs.Pairs.{consistent_of}
use Rattle.domain_bits.specs.Removals.{State, in_domain}
use Rattle.domain_bits.specs.Changes.{Keeps}
use Rattle.domain_bits.proofs.Sizes.{in_below}
use Rattle.recorder.proofs.Telling.{same_trail}
use Rattle.propagation.specs.Propagation.{Narrows, waits_at, waiting_count, work, HasValue, HasTwo, IsSame, Shrinks, Rests, NotesSize, Swept, Settling}
use Rattle.propagation.proofs.Waiting.{flag_other, flag_here, count_raised, count_raised_again, single_moved, single_same}

-- ---- one domain

-- a domain that became single has lost a value
grew : (old new : State) (r v : ℕ) (rest : List (ℕ × ℕ)) → new.vertices ≡ old.vertices → new.values ≡ old.values → new.removed ≡ old.removed ++ rest
    → Single (in_domain new) r v → ((u : ℕ) → Single (in_domain old) r u → ⊥) → length old.removed + 1 ≤ length new.removed
grew old new r v [] vs ws front s not_before =
    absurd (not_before v (subst (λ (d : State). Single (in_domain d) r v) (same_trail old new vs ws (front ∙ append-nil old.removed)) s))
grew old new r v (x ∷ xs) vs ws front s not_before = omega (arith, ap length front, length-append old.removed (x ∷ xs))

-- the trail is no shorter
not_shorter : (old new : State) (rest : List (ℕ × ℕ)) → new.removed ≡ old.removed ++ rest → length old.removed ≤ length new.removed
not_shorter old new rest front = omega (arith, ap length front, length-append old.removed rest)

-- the work after one more removal at least, and a flag more at most
less_by_removal : (space old new flags more : ℕ) → new ≤ space → old + 1 ≤ new → more ≤ flags + 1 → 2 * (space - new) + more ≤ 2 * (space - old) + flags
less_by_removal space old new flags more bounded grown one = omega arith

not_more : (space old new flags more : ℕ) → new ≤ space → old ≤ new → more ≤ flags → 2 * (space - new) + more ≤ 2 * (space - old) + flags
not_more space old new flags more bounded grown one = omega arith

-- where r has a value after its domain has changed, each vertex that had one has
keeps_value : (old new : State) (p r : ℕ) (keeps : ℕ → Bool) → Keeps old new r keeps → HasValue old p → HasValue new r → (p ≡ r) ⊎ (p ≡ r → ⊥) → HasValue new p
keeps_value old new p r keeps k had has (inl same) = subst (λ (x : ℕ). HasValue new x) (sym same) has
keeps_value old new p r keeps k had has (inr other) = (had.0, k.shrinks.others p had.0 other ∙ had.1)

-- what keeping the values of a row does to the work and the flags
pub narrow_shrinks : (q : Problem) (old new : State) (before after : List Bool) (r : ℕ) (keeps : ℕ → Bool) → Keeps old new r keeps → Narrows q old new
    → r < length before → length new.removed ≤ new.vertices * new.values → NotesSize true new before after r
    → (waits_at before r ≡ true) ⊎ ((u : ℕ) → Single (in_domain old) r u → ⊥) → Shrinks q old before new after
narrow_shrinks q old new before after r keeps k n r_in bounded (inr (two, same)) undecided = record {
  narrows = n;
  long = ap length same;
  noted = λ p p_in. by_vertex p (cases_eq p r);
  some = λ p h. keeps_value old new p r keeps k h (two.value, two.here) (cases_eq p r);
  bounded = bounded;
  less_work = less;
}
  where
    by_vertex : (p : ℕ) → (p ≡ r) ⊎ (p ≡ r → ⊥) → (waits_at after p ≡ true) ⊎ (HasTwo new p ⊎ IsSame old before new after p)
    by_vertex p (inl is) = inr (inl (subst (λ (v : ℕ). HasTwo new v) (sym is) two))
    by_vertex p (inr other) = inr (inr (record { domain = λ t. k.shrinks.others p t other; flag = ap (λ (ws : List Bool). waits_at ws p) same }))

    less : work new after ≤ work old before
    less = rw (n.vertices_same, n.values_same, same) (not_more (old.vertices * old.values) (length old.removed) (length new.removed) (waiting_count before) (waiting_count before)
        (subst (λ (x : ℕ). length new.removed ≤ x) (ap (λ (y : ℕ). y * new.values) n.vertices_same ∙ ap (λ (y : ℕ). old.vertices * y) n.values_same) bounded)
        (not_shorter old new n.rest n.front) (omega arith))
narrow_shrinks q old new before after r keeps k n r_in bounded (inl (v, s, raised)) undecided = record {
  narrows = n;
  long = ap length raised ∙ length-set before r true;
  noted = λ p p_in. by_vertex p (cases_eq p r);
  some = λ p h. keeps_value old new p r keeps k h (v, s.here) (cases_eq p r);
  bounded = bounded;
  less_work = less undecided;
}
  where
    by_vertex : (p : ℕ) → (p ≡ r) ⊎ (p ≡ r → ⊥) → (waits_at after p ≡ true) ⊎ (HasTwo new p ⊎ IsSame old before new after p)
    by_vertex p (inl is) = inl (ap (λ (ws : List Bool). waits_at ws p) raised ∙ ap (λ (x : ℕ). waits_at (slice_set before r true) x) is ∙ flag_here before r true r_in)
    by_vertex p (inr other) = inr (inr (record {
      domain = λ t. k.shrinks.others p t other;
      flag = ap (λ (ws : List Bool). waits_at ws p) raised ∙ flag_other before r p true (λ same. other (sym same));
    }))

    space_same : length new.removed ≤ old.vertices * old.values
    space_same = subst (λ (x : ℕ). length new.removed ≤ x) (ap (λ (y : ℕ). y * new.values) n.vertices_same ∙ ap (λ (y : ℕ). old.vertices * y) n.values_same) bounded

    less : (waits_at before r ≡ true) ⊎ ((u : ℕ) → Single (in_domain old) r u → ⊥) → work new after ≤ work old before
    less (inl up) = rw (n.vertices_same, n.values_same, raised)
        (not_more (old.vertices * old.values) (length old.removed) (length new.removed) (waiting_count before) (waiting_count (slice_set before r true))
        space_same (not_shorter old new n.rest n.front) (count_raised_again before r up))
    less (inr undecided_before) = rw (n.vertices_same, n.values_same, raised)
        (less_by_removal (old.vertices * old.values) (length old.removed) (length new.removed) (waiting_count before) (waiting_count (slice_set before r true))
        space_same (grew old new r v n.rest n.vertices_same n.values_same n.front s undecided_before) (count_raised before r))

-- every image of r passes the row of what is consistent with p at t, where p has only t
pub images_pass : (q : Problem) (old : State) (p t r : ℕ) (keeps : ℕ → Bool) → p < size q.pattern → r < size q.pattern → (p ≡ r → ⊥) → Single (in_domain old) p t
    → ((u : ℕ) → AreConsistent q p t r u → u < size q.target → keeps u ≡ true)
    → (m : List ℕ) → Embeds q m → Inside q (in_domain old) m → keeps (slice_index m r) ≡ true
images_pass q old p t r keeps p_in r_in other s row m e h =
    row (slice_index m r) (consistent_of q m p t r (slice_index m r) e p_in r_in other (s.only (slice_index m p) (h p p_in)) refl) (e.values r r_in)

-- what is kept of a row of what is consistent is consistent
pub kept_swept : (q : Problem) (old new : State) (p t r : ℕ) (keeps : ℕ → Bool) → old.values ≡ size q.target → Keeps old new r keeps
    → ((u : ℕ) → u < size q.target → keeps u ≡ true → AreConsistent q p t r u) → Swept true q new p t r
kept_swept q old new p t r keeps values k row = λ u other h.
    row u (subst (λ (n : ℕ). u < n) values (in_below old r u (first (in_domain old r u) (keeps u) (sym (k.kept u) ∙ h)))) (second (in_domain old r u) (keeps u) (sym (k.kept u) ∙ h))
  where
    first : (a b : Bool) → (a && b) ≡ true → a ≡ true
    first true b h = refl
    first false b h = cc

    second : (a b : Bool) → (a && b) ≡ true → b ≡ true
    second true b h = h
    second false b h = cc

-- ---- all domains

-- what was swept stays so
pub swept_on : (q : Problem) (old new : State) (p t s : ℕ) → Narrows q old new → Swept true q old p t s → Swept true q new p t s
swept_on q old new p t s n h = λ u other here. h u other (n.less s u here)

-- p rests once all are swept
pub rests_settled : (q : Problem) (old new : State) (before after : List Bool) (p t : ℕ) → Single (in_domain old) p t
    → Settling q old before new after p t (size q.pattern) → Rests q new p
rests_settled q old new before after p t s g = record {
  some = (t, g.own t ∙ s.here);
  settled = λ u o. record {
    goes = λ r v r_in other h.
        subst (λ (x : ℕ). AreConsistent q p x r v) (single_same (in_domain old) p t u s (single_moved old new p u g.own o)) (g.past r r_in v other h);
  };
}
