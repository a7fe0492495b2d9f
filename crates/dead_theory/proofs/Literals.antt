-- The literals of a path: its variables are distinct and in range, and their negations set each pair true.
use Rattle.std.proofs.Common.{◌≡◌, ℕ, zero, suc, ◌+◌, ◌*◌, ◌/◌, ◌<◌, ◌≤◌, ◌==◌, ltb, leb, Bool, true, false, not, ◌&&◌, ◌||◌, cond, List, [], ◌∷◌, length, map, refl, sym, ap, subst, ◌∙◌, arith, Some}
use Rattle.std.proofs.lemmas.Bool.{eqb-true, eq-eqb, lt-ltb, le-leb}
use Rattle.std.specs.Prelude.{Contains, slice_index_or}
use Rattle.std.proofs.Math.Nat.{mul-le-mul_right}
use Rattle.std.proofs.Math.Arith.{digits_div}
use Rattle.graph_theory.specs.Graph.{size}
use Rattle.graph_theory.specs.Embedding.{Problem}
use Rattle.graph_theory.specs.Path.{NotOn, IsPath}
use Rattle.proof_theory.specs.Slack.{Setting, negations}
use Rattle.proof_theory.specs.Forms.{sorted}
use Rattle.proof_theory.specs.Rules.{is_contradiction}
use Rattle.log_theory.specs.Lookups.{is_among, are_distinct, variables_of}
use Rattle.log_theory.specs.Verdicts.{in_range}
use Rattle.encoding_theory.specs.Variables.{variable, variables}
use Rattle.nogood_book.specs.Rows.{AreInRange}
use Rattle.explanation_theory.specs.Reasons.{not_there, pairs_clause, AreTrue}

-- ---- variables

same_vertex : (q : Problem) (p t r u : ℕ) → t < size q.target → u < size q.target → variable q p t ≡ variable q r u → p ≡ r
same_vertex q p t r u t_in u_in same =
    sym (digits_div p t_in) ∙ ap (λ (n : ℕ). n / size q.target) (let e : p * size q.target + t ≡ r * size q.target + u = omega (arith, same) in e) ∙ digits_div r u_in

-- No variable of a pair is that of a vertex which is not on the path.
not_among : (q : Problem) (path : List (ℕ × ℕ)) (p t : ℕ) → t < size q.target → NotOn path p → AreInRange q path → is_among (variable q p t) (variables_of (map (not_there q) path)) ≡ false
not_among q [] p t t_in off range = refl
not_among q (x ∷ xs) p t t_in off range = by (variable q x.0 x.1 == variable q p t) refl (not_among q xs p t t_in off.1 range.2)
  where
    by : (b : Bool) → (variable q x.0 x.1 == variable q p t) ≡ b → is_among (variable q p t) (variables_of (map (not_there q) xs)) ≡ false
        → (b || is_among (variable q p t) (variables_of (map (not_there q) xs))) ≡ false
    by true is rest = absurd (off.0 (same_vertex q x.0 x.1 p t range.1 t_in (eqb-true (variable q x.0 x.1) (variable q p t) is)))
    by false is rest = rest

pub distinct_literals : (q : Problem) (path : List (ℕ × ℕ)) → IsPath path → AreInRange q path → are_distinct (variables_of (map (not_there q) path)) ≡ true
distinct_literals q [] is range = refl
distinct_literals q (x ∷ xs) is range =
    both (is_among (variable q x.0 x.1) (variables_of (map (not_there q) xs))) (are_distinct (variables_of (map (not_there q) xs))) (not_among q xs x.0 x.1 range.1 is.0 range.2)
    (distinct_literals q xs is.1 range.2)
  where
    both : (a b : Bool) → a ≡ false → b ≡ true → (not a && b) ≡ true
    both true b e f = absurd cc
    both false b e f = f

variable_fits : (q : Problem) (p t : ℕ) → p < size q.pattern → t < size q.target → variable q p t ≤ variables q
variable_fits q p t p_in t_in =
    let rows : suc p * size q.target ≤ size q.pattern * size q.target = mul-le-mul_right (size q.target) (let e : suc p ≤ size q.pattern = omega (arith, p_in) in e) in
    let one : suc p * size q.target ≡ p * size q.target + size q.target = omega arith in
    omega (arith, rows, one, t_in)

pub literals_in_range : (q : Problem) (path : List (ℕ × ℕ)) → AreInRange q path → in_range (variables q) (variables_of (map (not_there q) path)) ≡ true
literals_in_range q [] range = refl
literals_in_range q (x ∷ xs) range =
    three (ltb 0 (variable q x.0 x.1)) (leb (variable q x.0 x.1) (variables q)) (in_range (variables q) (variables_of (map (not_there q) xs))) (lt-ltb 0 (variable q x.0 x.1) (omega arith))
    (le-leb (variable q x.0 x.1) (variables q) (variable_fits q x.0 x.1 range.0 range.1)) (literals_in_range q xs range.2)
  where
    three : (a b c : Bool) → a ≡ true → b ≡ true → c ≡ true → (a && b && c) ≡ true
    three true true true e f g = refl
    three true true false e f g = g
    three true false c e f g = absurd cc
    three false b c e f g = absurd cc

-- ---- settings

-- The negations set each pair of the path true.
pub path_true : (q : Problem) (path : List (ℕ × ℕ)) → AreTrue q (negations (map (not_there q) path)) path
path_true q [] = tt
path_true q (x ∷ xs) =
    (ap (λ (b : Bool). cond b (Some true) (negations (map (not_there q) xs) (variable q x.0 x.1))) (eq-eqb (variable q x.0 x.1) (variable q x.0 x.1) refl), later xs (path_true q xs))
  where
    one : (v : ℕ) (b : Bool) → negations (map (not_there q) xs) v ≡ Some true → cond b (Some true) (negations (map (not_there q) xs) v) ≡ Some true
    one v true is = refl
    one v false is = is

    later : (ys : List (ℕ × ℕ)) → AreTrue q (negations (map (not_there q) xs)) ys → AreTrue q (negations (map (not_there q) (x ∷ xs))) ys
    later [] h = tt
    later (y ∷ ys) h = (one (variable q y.0 y.1) (variable q x.0 x.1 == variable q y.0 y.1) h.0, later ys h.1)

-- So it is of a pair that the path contains.
pub true_at : (q : Problem) (s : Setting) (path : List (ℕ × ℕ)) (p t : ℕ) → AreTrue q s path → Contains path (p, t) → s (variable q p t) ≡ Some true
true_at q s path p t are here = at path here.0 are here.1 here.2
  where
    at : (path : List (ℕ × ℕ)) (k : ℕ) → AreTrue q s path → k < length path → slice_index_or path k (p, t) ≡ (p, t) → s (variable q p t) ≡ Some true
    at [] k are k_in is = absurd (omega (arith, k_in))
    at (x ∷ xs) zero are k_in is = subst (λ (y : ℕ × ℕ). s (variable q y.0 y.1) ≡ Some true) is are.0
    at (x ∷ xs) (suc k) are k_in is = at xs k are.1 (omega (arith, k_in)) is

-- ---- the empty path

pub empty_false : (q : Problem) → is_contradiction (pairs_clause q []) ≡ true
unfolding sorted
empty_false q = refl
