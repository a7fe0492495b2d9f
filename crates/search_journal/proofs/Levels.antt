-- Levels of an account after a guess and after a fail: their vertices, the path up to them, and what is refuted there.
use Rattle.std.proofs.Common.{inl, inr, ◌⊎◌, ◌≡◌, ℕ, zero, suc, ◌≤◌, nat_lt, if◌then◌else◌, Bool, true, false, List, [], ◌∷◌, ◌++◌, length, take, Contains, Option, Some, None, refl, sym, ap, subst, ◌∙◌, arith}
use Rattle.search_theory.specs.Account.{Step, path_of, level_among, IsAt, inserted}
use Rattle.search_journal.specs.Entries.{IsFreshWithout}

-- ---- values in lists

contains_cons : (y x : ℕ) (ys : List ℕ) → Contains (y ∷ ys) x → (y ≡ x) ⊎ Contains ys x
contains_cons y x ys (zero, l, e) = inl e
contains_cons y x ys (suc k, l, e) = inr (k, omega (arith, l), e)

contains_later : (y x : ℕ) (ys : List ℕ) → Contains ys x → Contains (y ∷ ys) x
contains_later y x ys h = let l = h.1 in (suc h.0, omega (arith, l), h.2)

contains_none : (x : ℕ) → Contains [] x → ⊥
contains_none x h = let l = h.1 in omega (arith, l)

-- What is in a list with a value put into it is the value, or was in it.
pub contains_inserted : (v x : ℕ) (us : List ℕ) → Contains (inserted v us) x → (v ≡ x) ⊎ Contains us x
contains_inserted v x [] h = contains_cons v x [] h
contains_inserted v x (u ∷ us) h = by (nat_lt v u) (contains_inserted v x us) h
  where
    late : (Contains (inserted v us) x → (v ≡ x) ⊎ Contains us x) → (u ≡ x) ⊎ Contains (inserted v us) x → (v ≡ x) ⊎ Contains (u ∷ us) x
    late rest (inl e) = inr (0, omega arith, e)
    late rest (inr c) = elim (rest c) [ inl e ↦ inl e | inr d ↦ inr (contains_later u x us d) ]

    by : (b : Bool) → (Contains (inserted v us) x → (v ≡ x) ⊎ Contains us x) → Contains (if b then v ∷ u ∷ us else u ∷ inserted v us) x → (v ≡ x) ⊎ Contains (u ∷ us) x
    by true rest c = contains_cons v x (u ∷ us) c
    by false rest c = late rest (contains_cons u x (inserted v us) c)

-- ---- places

-- A level with a vertex is one of the path or the one after it.
pub level_within : (ss : List Step) (v : Option ℕ) (us : List ℕ) (i p : ℕ) → (level_among ss v us i).vertex ≡ Some p → i ≤ length ss
level_within [] v us zero p e = omega arith
level_within [] v us (suc i) p e = absurd cc
level_within (s ∷ ss) v us zero p e = omega arith
level_within (s ∷ ss) v us (suc i) p e = let l = level_within ss v us i p e in omega (arith, l)

pub length-path_of : (ss : List Step) → length (path_of ss) ≡ length ss
length-path_of [] = refl
length-path_of (s ∷ ss) = ap (λ (n : ℕ). suc n) (length-path_of ss)

pub path_of_more : (ss : List Step) (s : Step) → path_of (ss ++ s ∷ []) ≡ path_of ss ++ (s.vertex, s.value) ∷ []
path_of_more [] s = refl
path_of_more (r ∷ ss) s = ap (λ (xs : List (ℕ × ℕ)). (r.vertex, r.value) ∷ xs) (path_of_more ss s)

-- The path up to a level is the same with a step more.
pub path_deeper : (ss : List Step) (s : Step) (i : ℕ) → i ≤ length ss → take i (path_of (ss ++ s ∷ [])) ≡ take i (path_of ss)
path_deeper ss s zero l = refl
path_deeper [] s (suc i) l = absurd (omega (arith, l))
path_deeper (r ∷ ss) s (suc i) l = ap (λ (xs : List (ℕ × ℕ)). (r.vertex, r.value) ∷ xs) (path_deeper ss s i (omega (arith, l)))

-- ---- after a guess

pub deeper_vertex : (ss : List Step) (v : Option ℕ) (us : List ℕ) (s : Step) (i p : ℕ) → IsAt v s.vertex → (level_among ss v us i).vertex ≡ Some p → (level_among (ss ++ s ∷ []) None [] i).vertex ≡ Some p
deeper_vertex [] None us s zero p at e = absurd cc
deeper_vertex [] (Some x) us s zero p at e = ap (λ (n : ℕ). let o : Option ℕ = Some n in o) (sym at) ∙ e
deeper_vertex [] v us s (suc i) p at e = absurd cc
deeper_vertex (r ∷ ss) v us s zero p at e = e
deeper_vertex (r ∷ ss) v us s (suc i) p at e = deeper_vertex ss v us s i p at e

pub deeper_refuted : (ss : List Step) (v : Option ℕ) (us : List ℕ) (s : Step) (i p t : ℕ) → IsFreshWithout v us → s.refuted ≡ us → (level_among (ss ++ s ∷ []) None [] i).vertex ≡ Some p
    → Contains (level_among (ss ++ s ∷ []) None [] i).refuted t → (r : ℕ) × ((level_among ss v us i).vertex ≡ Some r) × Contains (level_among ss v us i).refuted t
deeper_refuted [] None us s zero p t fresh same e h = absurd (contains_none t (subst (λ (ys : List ℕ). Contains ys t) (same ∙ fresh) h))
deeper_refuted [] (Some x) us s zero p t fresh same e h = (x, refl, subst (λ (ys : List ℕ). Contains ys t) same h)
deeper_refuted [] v us s (suc zero) p t fresh same e h = absurd cc
deeper_refuted [] v us s (suc (suc i)) p t fresh same e h = absurd cc
deeper_refuted (r ∷ ss) v us s zero p t fresh same e h = (r.vertex, refl, h)
deeper_refuted (r ∷ ss) v us s (suc i) p t fresh same e h = deeper_refuted ss v us s i p t fresh same e h

-- ---- after a fail

pub failed_vertex : (ss : List Step) (s : Step) (v : Option ℕ) (us ws : List ℕ) (i p : ℕ) → i ≤ length ss → (level_among (ss ++ s ∷ []) v us i).vertex ≡ Some p
    → (level_among ss (Some s.vertex) ws i).vertex ≡ Some p
failed_vertex [] s v us ws zero p l e = e
failed_vertex [] s v us ws (suc i) p l e = absurd (omega (arith, l))
failed_vertex (r ∷ ss) s v us ws zero p l e = e
failed_vertex (r ∷ ss) s v us ws (suc i) p l e = failed_vertex ss s v us ws i p (omega (arith, l)) e

pub failed_last : (ss : List Step) (p : ℕ) (ws : List ℕ) → (level_among ss (Some p) ws (length ss)).vertex ≡ Some p
failed_last [] p ws = refl
failed_last (r ∷ ss) p ws = failed_last ss p ws

-- What is refuted after it was refuted there before, or is the value that failed.
pub failed_refuted : (ss : List Step) (s : Step) (v : Option ℕ) (us : List ℕ) (i p t : ℕ) → (level_among ss (Some s.vertex) (inserted s.value s.refuted) i).vertex ≡ Some p
    → Contains (level_among ss (Some s.vertex) (inserted s.value s.refuted) i).refuted t
    → ((r : ℕ) × ((level_among (ss ++ s ∷ []) v us i).vertex ≡ Some r) × Contains (level_among (ss ++ s ∷ []) v us i).refuted t) ⊎ ((i ≡ length ss) × (s.value ≡ t))
failed_refuted [] s v us zero p t e h = elim (contains_inserted s.value t s.refuted h) [ inl same ↦ inr (refl, same) | inr c ↦ inl (s.vertex, refl, c) ]
failed_refuted [] s v us (suc i) p t e h = absurd cc
failed_refuted (r ∷ ss) s v us zero p t e h = inl (r.vertex, refl, h)
failed_refuted (r ∷ ss) s v us (suc i) p t e h =
    elim (failed_refuted ss s v us i p t e h) [ inl x ↦ inl x | inr x ↦ inr (ap (λ (n : ℕ). suc n) x.0, x.1) ]
