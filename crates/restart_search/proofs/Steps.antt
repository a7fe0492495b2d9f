-- One step of a search: the vertex of a level, its untried values, and the moments.

use Rattle.std.proofs.Common.{◌≡◌, ℕ, suc, ◌*◌, ◌<◌, ◌≤◌, ◌&&◌, not, Bool, true, false, List, [], ◌∷◌, ◌++◌, length, Option, Some, None, IfSome, refl, sym, ap, ◌∙◌, subst, arith, append_assoc, ◌⊎◌, inl, inr}
use Rattle.std.proofs.lemmas.Bool.{cases_lt}
use Rattle.graph_theory.specs.Graph.{size}
use Rattle.graph_theory.specs.Neighbours.{members, count}
use Rattle.graph_theory.specs.Path.{NotOn}
use Rattle.graph_theory.specs.Embedding.{Problem}
use Rattle.search_theory.specs.Claims.{Single, Pins, Quiet}
use Rattle.search_theory.specs.Account.{Account, Step, Honest, deepened, path, path_of, level_at, level_among, IsAt, NotAmong}
use Rattle.search_theory.specs.Bounds.{enough}
use Rattle.domain_bits.specs.Changes as changes
use Rattle.bit_rows.specs.BitRows.{has}
use Rattle.bit_rows.proofs.Rows.{has_past}
use Rattle.domain_bits.proofs.Sizes.{count_some}
use Rattle.domain_bits.specs.Removals.{State, in_domain}
use Rattle.fail_account.proofs.Members.{off_members, members_off}
use Rattle.sparse_set.specs.Removals as sparse
use Rattle.restart_search.specs.declared.position.Moment.{Moment}
use Rattle.recorder.specs.Telling.{IsOf}
use Rattle.propagation.specs.Propagation.{AreCalm, Narrows, Fewer, LeavesPast}
use Rattle.restart_search.specs.Searching.{AtRest, IsNow, Levels, Based, Sound, IsBest, IsFirstUndecided}
use Rattle.restart_search.proofs.Guessing.{path_deepened, based_guessed, rest_guessed}

-- ---- the vertex of a level

-- an undecided vertex is on no path that the domains are pinned to
pub off_path : (q : Problem) (ps : List (ℕ × ℕ)) (D : ℕ → ℕ → Bool) (p : ℕ) → Pins q ps D → ((t : ℕ) → Single D p t → ⊥) → NotOn ps p
off_path q [] D p h none = tt
off_path q (x ∷ xs) D p h none = (λ same. none x.1 (subst (λ (v : ℕ). Single D v x.1) same h.1), off_path q xs D p h.2 none)

-- the best vertex of all may stand after the path
pub best_may_stand : (q : Problem) (ps : List (ℕ × ℕ)) (d : State) (v best : Option ℕ) → IsOf q d → AtRest q ps d → v ≡ None → IsBest q d best (size q.pattern)
    → IfSome best (λ p. (p < size q.pattern) × NotOn ps p × IsAt v p)
best_may_stand q ps d v None is rest none h = tt
best_may_stand q ps d v (Some p) is rest none h = (
  subst (λ (n : ℕ). p < n) is.vertices_is h.undecided.0,
  off_path q ps (in_domain d) p rest.pins h.undecided.1,
  subst (λ (o : Option ℕ). IsAt o p) (sym none) tt,
)

-- and it is the first undecided one
pub best_is_first : (q : Problem) (d : State) (best : Option ℕ) (n : ℕ) → IsBest q d best n → IfSome best (IsFirstUndecided q d)
best_is_first q d None n h = tt
best_is_first q d (Some p) n h = h

-- ---- its untried values

-- the level after the path is the open one
pub level_after : (a : Account) → (level_at a (length (path a))).refuted ≡ a.refuted
level_after a = by_steps a.steps
  where
    by_steps : (ss : List Step) → (level_among ss a.vertex a.refuted (length (path_of ss))).refuted ≡ a.refuted
    by_steps [] = refl
    by_steps (s ∷ ss) = by_steps ss

both : (a b : Bool) → (a && not b) ≡ true → (a ≡ true) × (b ≡ false)
both true false h = (refl, refl)
both true true h = cc
both false b h = cc

pub untried_of : (us : List ℕ) (row : List ℕ) (n t : ℕ) (here : Bool) → members (has row) n ≡ us → (here && not (has row t)) ≡ true → (here ≡ true) × NotAmong us t
untried_of us row n t here is h =
    let parts = both here (has row t) h in
    (parts.0, subst (λ (xs : List ℕ). NotAmong xs t) is (off_members (has row) n t parts.1))

pub all_untried : (us : List ℕ) (row : List ℕ) (n t : ℕ) (here : Bool) → members (has row) n ≡ us → t < n → here ≡ true → NotAmong us t → (here && not (has row t)) ≡ true
all_untried us row n t here is t_in h off =
    let out : has row t ≡ false = members_off (has row) n t t_in (subst (λ (xs : List ℕ). NotAmong xs t) (sym is) off) in
    rw (h, out) refl

-- a row with a value has a count
pub row_counted : (row : List ℕ) (t : ℕ) → has row t ≡ true → 0 < count (has row) (64 * length row)
row_counted row t here = by_place (cases_lt t (64 * length row))
  where
    clash : (b : Bool) → b ≡ false → b ≡ true → ⊥
    clash true x y = cc
    clash false x y = cc

    by_place : (t < 64 * length row) ⊎ (64 * length row ≤ t) → 0 < count (has row) (64 * length row)
    by_place (inl within) = count_some (has row) (64 * length row) t within here
    by_place (inr past) = absurd (clash (has row t) (has_past row t past) here)

-- ---- moments

-- there is a moment for each level
pub levels_length : (q : Problem) (d : State) (s : sparse.State) (low : Moment) (above xs : List (ℕ × ℕ)) (ks : List Moment) → Levels q d s low above xs ks → length ks ≡ length xs
levels_length q d s low above [] [] h = refl
levels_length q d s low above (x ∷ xs) (k ∷ ks) h = ap suc (levels_length q d s k (above ++ x ∷ []) xs ks h.2)
levels_length q d s low above [] (k ∷ ks) h = absurd h
levels_length q d s low above (x ∷ xs) [] h = absurd h

-- so a search that may guess has room for one more
pub guessed_room : (q : Problem) (d : State) (s : sparse.State) (a : Account) (marks : List Moment) (root : Moment) (room : ℕ) → Levels q d s root [] (path a) marks
    → length (path a) < a.pattern → a.pattern ≡ size q.pattern → size q.pattern ≤ room → length marks < room
guessed_room q d s a marks root room levels few is le = omega (arith, levels_length q d s root [] (path a) marks levels, few, is, le)

-- ---- what stands after a guess and its consequences

-- what was removed by an assignment and then by propagation
pub based_narrowed : (q : Problem) (old mid new : State) (s r : sparse.State) (a : Account) (marks : List Moment) (root : Moment) (p t : ℕ) (k : Moment) (keeps : ℕ → Bool)
    → Sound q old s a marks root → changes.Keeps old mid p keeps → Narrows q mid new → Fewer s r → IsNow old s k → Honest q (deepened a p t)
    → Based q new r (deepened a p t) (marks ++ k ∷ []) root
based_narrowed q old mid new s r a marks root p t k keeps sound kept n fewer now honest =
    based_guessed q old new s r a marks root p t k sound (record {
      vertices_same = n.vertices_same ∙ kept.shrinks.vertices_same;
      values_same = n.values_same ∙ kept.shrinks.values_same;
      rest = kept.shrinks.rest ++ n.rest;
      front = n.front ∙ ap (λ (xs : List (ℕ × ℕ)). xs ++ n.rest) kept.shrinks.front ∙ append_assoc old.removed kept.shrinks.rest n.rest;
      fewer = fewer;
    }) now honest

pub sound_guessed : (q : Problem) (old mid new : State) (s r : sparse.State) (a : Account) (marks : List Moment) (root : Moment) (p t : ℕ) (k : Moment) (keeps : ℕ → Bool)
    → Sound q old s a marks root → changes.Keeps old mid p keeps → Single (in_domain mid) p t → Narrows q mid new → Quiet q (in_domain new) → AreCalm q new → p < size q.pattern
    → Fewer s r → LeavesPast q new r → IsNow old s k → Honest q (deepened a p t) → Sound q new r (deepened a p t) (marks ++ k ∷ []) root
sound_guessed q old mid new s r a marks root p t k keeps sound kept single n quiet calm p_in fewer left now honest = record {
  based = based_narrowed q old mid new s r a marks root p t k keeps sound kept n fewer now honest;
  here = subst (λ (ps : List (ℕ × ℕ)). AtRest q ps new) (sym (path_deepened a p t)) (rest_guessed q (path a) old mid new p t keeps sound.here kept single p_in n quiet calm);
  left = left;
}

-- ---- where no value is left

pub none_left : (d : State) (us row : List ℕ) (p : ℕ) → ((t : ℕ) → in_domain d p t ≡ true → NotAmong us t → has row t ≡ true) → ((t : ℕ) → has row t ≡ false)
    → (t : ℕ) → in_domain d p t ≡ true → NotAmong us t → ⊥
none_left d us row p all none t here off = clash (has row t) (all t here off) (none t)
  where
    clash : (b : Bool) → b ≡ true → b ≡ false → ⊥
    clash true h k = cc
    clash false h k = cc

-- ---- a spent budget

-- an honest account has the problem's sizes
pub enough_for : (q : Problem) (a : Account) → Honest q a → a.budget < enough a.pattern a.target → a.budget < enough (size q.pattern) (size q.target)
enough_for q a honest h =
    subst (λ (n : ℕ). a.budget < enough n (size q.target)) honest.pattern_is (subst (λ (n : ℕ). a.budget < enough a.pattern n) honest.target_is h)
