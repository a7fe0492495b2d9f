-- Where a run is at its cutoff, something is refuted at the position.

use Rattle.std.proofs.Common.{◌≡◌, ℕ, zero, suc, ◌≤◌, nat_lt, if◌then◌else◌, Bool, true, false, List, [], ◌∷◌, ◌++◌, Contains, Option, Some, None, refl, sym, subst, ◌⊎◌, inl, inr, arith}
use Rattle.std.proofs.lemmas.List.Elements.{Contains-append_right}
use Rattle.graph_theory.specs.Graph.{size}
use Rattle.graph_theory.specs.Embedding.{Problem}
use Rattle.search_theory.specs.Bounds.{cutoff}
use Rattle.search_theory.specs.Account.{Step, Account, level_among, HasRefuted, inserted, fresh, deepened, failed, Event, Deepen, Fail, Restart, Happens, Leads, Reached}
use Rattle.search_theory.proofs.Luby.{luby_pos}

-- at some of these levels a value is refuted for the level's vertex
record RefutedAmong (ss : List Step) (v : Option ℕ) (us : List ℕ) : Type 0 where
  level : ℕ
  vertex : ℕ
  value : ℕ
  vertex_is : (level_among ss v us level).vertex ≡ Some vertex
  refuted : Contains (level_among ss v us level).refuted value

-- a level above changes nothing
one_level_more : (s : Step) (ss : List Step) (v : Option ℕ) (us : List ℕ) → RefutedAmong ss v us → RefutedAmong (s ∷ ss) v us
one_level_more s ss v us h = record { level = suc h.level; vertex = h.vertex; value = h.value; vertex_is = h.vertex_is; refuted = h.refuted }

-- what is put into its place in a list is in the list
contains_inserted : (t : ℕ) (us : List ℕ) → Contains (inserted t us) t
contains_inserted t [] = (0, omega arith, refl)
contains_inserted t (u ∷ us) = by_test (nat_lt t u) (contains_inserted t us)
  where
    by_test : (b : Bool) → Contains (inserted t us) t → Contains (if b then t ∷ u ∷ us else u ∷ inserted t us) t
    by_test true h = (0, omega arith, refl)
    by_test false h = Contains-append_right (u ∷ []) (inserted t us) t h

-- after a fail its value is refuted at the open level
refuted_last : (ss : List Step) (p t : ℕ) (us : List ℕ) → Contains us t → RefutedAmong ss (Some p) us
refuted_last [] p t us h = record { level = 0; vertex = p; value = t; vertex_is = refl; refuted = h }
refuted_last (s ∷ ss) p t us h = one_level_more s ss (Some p) us (refuted_last ss p t us h)

-- a guess leaves what is refuted where it is, at a level that has a vertex
refuted_at_level : (ss : List Step) (v : Option ℕ) (us : List ℕ) (s : Step) (i p t : ℕ) → s.refuted ≡ us → (level_among ss v us i).vertex ≡ Some p
    → Contains (level_among ss v us i).refuted t → RefutedAmong (ss ++ s ∷ []) None []
refuted_at_level [] v us s zero p t same at h =
    record { level = 0; vertex = s.vertex; value = t; vertex_is = refl; refuted = subst (λ (xs : List ℕ). Contains xs t) (sym same) h }
refuted_at_level [] v us s (suc i) p t same at h = cc
refuted_at_level (r ∷ rs) v us s zero p t same at h = record { level = 0; vertex = p; value = t; vertex_is = at; refuted = h }
refuted_at_level (r ∷ rs) v us s (suc i) p t same at h = one_level_more r (rs ++ s ∷ []) None [] (refuted_at_level rs v us s i p t same at h)

-- the run counts from 1, and where it has counted a fail something is refuted
record HasCounted (a : Account) : Type 0 where
  begun : 1 ≤ a.run
  counted : (a.count ≡ 0) ⊎ RefutedAmong a.steps a.vertex a.refuted

counted_same : (old new : Account) → new ≡ old → HasCounted old → HasCounted new
counted_same old new is h = subst (λ (a : Account). HasCounted a) (sym is) h

-- one lawful event more
counted_after : (q : Problem) (old : Account) (e : Event) (new : Account) → HasCounted old → Happens q old e new → HasCounted new
counted_after q old (Deepen p t) new c h = counted_same (deepened old p t) new h.3 (record { begun = c.begun; counted = at c.counted })
  where
    at : (old.count ≡ 0) ⊎ RefutedAmong old.steps old.vertex old.refuted
        → (old.count ≡ 0) ⊎ RefutedAmong (old.steps ++ record { vertex = p; value = t; refuted = old.refuted } ∷ []) None []
    at (inl none) = inl none
    at (inr r) = inr (refuted_at_level old.steps old.vertex old.refuted (record { vertex = p; value = t; refuted = old.refuted }) r.level r.vertex r.value refl r.vertex_is r.refuted)
counted_after q old Fail new c h =
    counted_same (failed old h.1.above h.1.last) new h.1.new_is (record {
      begun = c.begun;
      counted = inr (refuted_last h.1.above h.1.last.vertex h.1.last.value (inserted h.1.last.value h.1.last.refuted) (contains_inserted h.1.last.value h.1.last.refuted));
    })
counted_after q old Restart new c h = subst (λ (a : Account). HasCounted a) (sym h.1) (record { begun = omega arith; counted = inl refl })

-- and all of them
counted_along : (q : Problem) (p t b : ℕ) (es : List Event) (a : Account) → Leads q (fresh p t b) es a → HasCounted a
counted_along q p t b [] a lead = counted_same (fresh p t b) a lead (record { begun = omega arith; counted = inl refl })
counted_along q p t b (e ∷ es) a lead = counted_after q lead.0 e a (counted_along q p t b es lead.0 lead.1) lead.2

-- at its cutoff a run has counted a fail
pub refuted_at_cutoff : (q : Problem) (a : Account) → Reached q a → a.count ≡ cutoff a.run → HasRefuted a
refuted_at_cutoff q a reached due = at (counted_along q (size q.pattern) (size q.target) a.budget reached.events a reached.lead)
  where
    at : HasCounted a → HasRefuted a
    at c = by_case c.counted
      where
        by_case : (a.count ≡ 0) ⊎ RefutedAmong a.steps a.vertex a.refuted → HasRefuted a
        by_case (inl none) = absurd (omega (arith, luby_pos a.run c.begun))
        by_case (inr r) = record { level = r.level; vertex = r.vertex; value = r.value; vertex_is = r.vertex_is; refuted = r.refuted }
