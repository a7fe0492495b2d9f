-- The levels that a path and its rows hold.

use Rattle.std.proofs.Common.{◌≡◌, ℕ, zero, suc, ◌+◌, ◌<◌, ◌≤◌, false, List, [], ◌∷◌, ◌++◌, length, get_or, Option, Some, None, refl, sym, ap, ◌∙◌, subst, arith}
use Rattle.graph_theory.specs.Path.{NotOn, IsPath}
use Rattle.graph_rows.specs.Held.{marked}
use Rattle.search_theory.specs.Account.{Step, path_of, level_among, InRange}
use Rattle.fail_account.specs.Held.{refuted_at, steps_from, vertex_at, Unmarked}
use Rattle.fail_account.proofs.Members.{members_same, members_none}

-- the levels' pairs are the path
pub path_of-steps : (words : List ℕ) (width target i : ℕ) (path : List (ℕ × ℕ)) → path_of (steps_from words width target i path) ≡ path
path_of-steps words width target i [] = refl
path_of-steps words width target i (x ∷ xs) = ap (λ (ys : List (ℕ × ℕ)). x ∷ ys) (path_of-steps words width target (suc i) xs)

-- there are as many levels as pairs
pub length-steps : (words : List ℕ) (width target i : ℕ) (path : List (ℕ × ℕ)) → length (steps_from words width target i path) ≡ length path
length-steps words width target i [] = refl
length-steps words width target i (x ∷ xs) = ap suc (length-steps words width target (suc i) xs)

-- rows with equal marks have equal refuted values
pub refuted_same : (old new : List ℕ) (width target i : ℕ) → ((t : ℕ) → t < target → marked new width i t ≡ marked old width i t) → refuted_at new width target i ≡ refuted_at old width target i
refuted_same old new width target i same = members_same (marked new width i) (marked old width i) target same

-- a row without marks has none
pub refuted_none : (words : List ℕ) (width target i : ℕ) → ((t : ℕ) → t < target → marked words width i t ≡ false) → refuted_at words width target i ≡ []
refuted_none words width target i none = members_none (marked words width i) target none

-- the levels are the same where the marks of their rows are
pub steps_same : (old new : List ℕ) (width target i : ℕ) (path : List (ℕ × ℕ)) → ((j t : ℕ) → j < i + length path → t < target → marked new width j t ≡ marked old width j t)
    → steps_from new width target i path ≡ steps_from old width target i path
steps_same old new width target i [] same = refl
steps_same old new width target i (x ∷ xs) same =
    let here : refuted_at new width target i ≡ refuted_at old width target i = refuted_same old new width target i (λ t t_in. same i t (omega arith) t_in) in
    let rest : steps_from new width target (suc i) xs ≡ steps_from old width target (suc i) xs = steps_same old new width target (suc i) xs (λ j t j_in t_in. same j t (omega arith) t_in) in
    rw (here, rest) refl

-- one pair more is one level more
pub steps_push : (words : List ℕ) (width target i n : ℕ) (path : List (ℕ × ℕ)) (x : ℕ × ℕ) → n ≡ i + length path
    → steps_from words width target i (path ++ x ∷ []) ≡ steps_from words width target i path ++ record { vertex = x.0; value = x.1; refuted = refuted_at words width target n } ∷ []
steps_push words width target i n [] x is =
    let e : i ≡ n = omega arith in
    ap (λ (j : ℕ). record { vertex = x.0; value = x.1; refuted = refuted_at words width target j } ∷ []) e
steps_push words width target i n (y ∷ ys) x is =
    ap (λ (ss : List Step). record { vertex = y.0; value = y.1; refuted = refuted_at words width target i } ∷ ss) (steps_push words width target (suc i) n ys x (omega arith))

-- what level j has refuted is marked in its row, where the rows after the open one are empty
pub level_refuted : (words : List ℕ) (width target i n : ℕ) (path : List (ℕ × ℕ)) (v : Option ℕ) (j : ℕ) → n ≡ i + length path
    → ((k : ℕ) → n < k → k ≤ i + j → refuted_at words width target k ≡ [])
    → (level_among (steps_from words width target i path) v (refuted_at words width target n) j).refuted ≡ refuted_at words width target (i + j)
level_refuted words width target i n [] v zero is empty = let e : n ≡ i + 0 = omega arith in ap (refuted_at words width target) e
level_refuted words width target i n [] v (suc j) is empty = sym (empty (i + suc j) (omega arith) (omega arith))
level_refuted words width target i n (x ∷ xs) v zero is empty = let e : i ≡ i + 0 = omega arith in ap (refuted_at words width target) e
level_refuted words width target i n (x ∷ xs) v (suc j) is empty =
    let e : suc i + j ≡ i + suc j = omega arith in
    level_refuted words width target (suc i) n xs v j (omega arith) (λ k low high. empty k low (omega arith)) ∙ ap (refuted_at words width target) e

-- and its vertex is that of its pair
pub level_vertex_is : (words : List ℕ) (width target i : ℕ) (path : List (ℕ × ℕ)) (v : Option ℕ) (us : List ℕ) (j : ℕ)
    → (level_among (steps_from words width target i path) v us j).vertex ≡ vertex_at path v j
level_vertex_is words width target i [] v us zero = refl
level_vertex_is words width target i [] v us (suc j) = refl
level_vertex_is words width target i (x ∷ xs) v us zero = refl
level_vertex_is words width target i (x ∷ xs) v us (suc j) = level_vertex_is words width target (suc i) xs v us j

pub vertex_within : (path : List (ℕ × ℕ)) (v : Option ℕ) (i : ℕ) (d : ℕ × ℕ) → i < length path → Some (get_or path i d).0 ≡ vertex_at path v i
vertex_within [] v i d inside = absurd (omega arith)
vertex_within (y ∷ ys) v zero d inside = refl
vertex_within (y ∷ ys) v (suc i) d inside = vertex_within ys v i d (omega arith)

pub vertex_at_end : (path : List (ℕ × ℕ)) (v : Option ℕ) (i : ℕ) → i ≡ length path → v ≡ vertex_at path v i
vertex_at_end [] v zero e = refl
vertex_at_end [] v (suc i) e = absurd (omega arith)
vertex_at_end (y ∷ ys) v zero e = absurd (omega arith)
vertex_at_end (y ∷ ys) v (suc i) e = vertex_at_end ys v i (omega arith)

pub vertex_past : (path : List (ℕ × ℕ)) (v : Option ℕ) (i : ℕ) → length path < i → None ≡ vertex_at path v i
vertex_past [] v zero past = absurd (omega arith)
vertex_past [] v (suc i) past = refl
vertex_past (y ∷ ys) v zero past = absurd (omega arith)
vertex_past (y ∷ ys) v (suc i) past = vertex_past ys v i (omega arith)

-- ---- paths with one pair more or less

not_on_push : (path : List (ℕ × ℕ)) (p t r : ℕ) → NotOn path r → (p ≡ r → ⊥) → NotOn (path ++ (p, t) ∷ []) r
not_on_push [] p t r off ne = (ne, tt)
not_on_push (x ∷ xs) p t r off ne = (off.0, not_on_push xs p t r off.1 ne)

pub is_path_push : (path : List (ℕ × ℕ)) (p t : ℕ) → IsPath path → NotOn path p → IsPath (path ++ (p, t) ∷ [])
is_path_push [] p t is off = (tt, tt)
is_path_push (x ∷ xs) p t is off = (not_on_push xs p t x.0 is.0 (λ e. off.0 (sym e)), is_path_push xs p t is.1 off.1)

not_on_front : (path : List (ℕ × ℕ)) (p t r : ℕ) → NotOn (path ++ (p, t) ∷ []) r → NotOn path r × (p ≡ r → ⊥)
not_on_front [] p t r off = (tt, off.0)
not_on_front (x ∷ xs) p t r off = let h = not_on_front xs p t r off.1 in ((off.0, h.0), h.1)

pub is_path_front : (path : List (ℕ × ℕ)) (p t : ℕ) → IsPath (path ++ (p, t) ∷ []) → IsPath path
is_path_front [] p t is = tt
is_path_front (x ∷ xs) p t is = ((not_on_front xs p t x.0 is.0).0, is_path_front xs p t is.1)

pub not_on_last : (path : List (ℕ × ℕ)) (p t : ℕ) → IsPath (path ++ (p, t) ∷ []) → NotOn path p
not_on_last [] p t is = tt
not_on_last (x ∷ xs) p t is = ((λ e. (not_on_front xs p t x.0 is.0).1 (sym e)), not_on_last xs p t is.1)

pub in_range_push : (pattern target : ℕ) (path : List (ℕ × ℕ)) (p t : ℕ) → InRange pattern target path → p < pattern → t < target → InRange pattern target (path ++ (p, t) ∷ [])
in_range_push pattern target [] p t range p_in t_in = (p_in, t_in, tt)
in_range_push pattern target (x ∷ xs) p t range p_in t_in = (range.0, range.1, in_range_push pattern target xs p t range.2 p_in t_in)

pub in_range_front : (pattern target : ℕ) (path : List (ℕ × ℕ)) (p t : ℕ) → InRange pattern target (path ++ (p, t) ∷ []) → InRange pattern target path × (p < pattern) × (t < target)
in_range_front pattern target [] p t range = (tt, range.0, range.1)
in_range_front pattern target (x ∷ xs) p t range = let h = in_range_front pattern target xs p t range.2 in ((range.0, range.1, h.0), h.1, h.2)

pub unmarked_push : (words : List ℕ) (width i n : ℕ) (path : List (ℕ × ℕ)) (p t : ℕ) → n ≡ i + length path → Unmarked words width i path → marked words width n t ≡ false
    → Unmarked words width i (path ++ (p, t) ∷ [])
unmarked_push words width i n [] p t is unmarked off = let e : n ≡ i = omega arith in (subst (λ (j : ℕ). marked words width j t ≡ false) e off, tt)
unmarked_push words width i n (x ∷ xs) p t is unmarked off = (unmarked.0, unmarked_push words width (suc i) n xs p t (omega arith) unmarked.1 off)

pub unmarked_front : (words : List ℕ) (width i n : ℕ) (path : List (ℕ × ℕ)) (p t : ℕ) → n ≡ i + length path → Unmarked words width i (path ++ (p, t) ∷ []) → Unmarked words width i path × (marked words width n t ≡ false)
unmarked_front words width i n [] p t is unmarked = let e : i ≡ n = omega arith in (tt, subst (λ (j : ℕ). marked words width j t ≡ false) e unmarked.0)
unmarked_front words width i n (x ∷ xs) p t is unmarked = let h = unmarked_front words width (suc i) n xs p t (omega arith) unmarked.1 in ((unmarked.0, h.0), h.1)

-- the same where the marks are
pub unmarked_same : (old new : List ℕ) (width target i : ℕ) (path : List (ℕ × ℕ)) (pattern : ℕ) → InRange pattern target path
    → ((j t : ℕ) → j < i + length path → t < target → marked new width j t ≡ marked old width j t) → Unmarked old width i path → Unmarked new width i path
unmarked_same old new width target i [] pattern range same unmarked = tt
unmarked_same old new width target i (x ∷ xs) pattern range same unmarked =
    (same i x.1 (omega arith) range.1 ∙ unmarked.0, unmarked_same old new width target (suc i) xs pattern range.2 (λ j t j_in t_in. same j t (omega arith) t_in) unmarked.1)
