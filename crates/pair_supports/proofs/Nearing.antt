-- Lists of neighbours, made member by member.

use Rattle.std.proofs.Common.{◌≡◌, ℕ, ◌+◌, ◌<◌, ◌≤◌, Bool, true, false, ◌==◌, ◌&&◌, ◌||◌, not, List, [], ◌∷◌, ◌++◌, length, get_or, is_some, refl, sym, ap, ◌∙◌, subst, arith, inl, inr, ◌⊎◌}
use Rattle.std.proofs.lemmas.Bool.{cases_lt, cases_eq, eq-eqb, ne_eqb}
use Rattle.std.proofs.lemmas.List.{get_or_append_left, get_or_push, length-append}
use Rattle.graph_theory.specs.Graph.{Graph, size, edge}
use Rattle.graph_theory.specs.Embedding.{Problem}
use Rattle.graph_theory.specs.Neighbours.{is_neighbour}
use Rattle.bit_rows.specs.BitRows.{has}
use Rattle.graph_rows.specs.Held.{stands_in}
use Rattle.pair_supports.specs.Near.{is_listed, AreNear}

-- one number more stands in a list
stands_in-push : (xs : List ℕ) (b y : ℕ) → stands_in (xs ++ b ∷ []) y ≡ (stands_in xs y || (b == y))
stands_in-push [] b y = by (b == y)
  where
    by : (p : Bool) → (p || false) ≡ p
    by true = refl
    by false = refl
stands_in-push (x ∷ xs) b y = ap (λ (t : Bool). (x == y) || t) (stands_in-push xs b y) ∙ by (x == y) (stands_in xs y) (b == y)
  where
    by : (p q r : Bool) → (p || (q || r)) ≡ ((p || q) || r)
    by true q r = refl
    by false q r = refl

pub pushed_other : (old new : List ℕ) (a u : ℕ) → (a ≡ u → ⊥) → new ≡ old ++ u ∷ [] → (v : ℕ) → stands_in new v ≡ (stands_in old v || not (a == u) && (u == v))
pushed_other old new a u other is v =
    ap (λ (xs : List ℕ). stands_in xs v) is ∙ stands_in-push old u v
    ∙ ap (λ (t : Bool). stands_in old v || not t && (u == v)) (sym (ne_eqb a u other))

pub pushed_none : (old : List ℕ) (a u : ℕ) → a ≡ u → (v : ℕ) → stands_in old v ≡ (stands_in old v || not (a == u) && (u == v))
pushed_none old a u same v = sym (ap (λ (t : Bool). stands_in old v || not t && (u == v)) (eq-eqb a u same) ∙ by (stands_in old v))
  where
    by : (p : Bool) → (p || false) ≡ p
    by true = refl
    by false = refl

-- the neighbours below n are listed, and nothing else
pub record ListedBelow (g : Graph) (a n : ℕ) (list : List ℕ) : Type 0 where
  pub each : (u : ℕ) → u < n → stands_in list u ≡ is_neighbour g a u
  pub none : (u : ℕ) → n ≤ u → stands_in list u ≡ false

-- where the row has no member there is no neighbour
no_neighbour : (g : Graph) (row : List ℕ) (a u : ℕ) → ((b : ℕ) → has row b ≡ is_some (edge g a b)) → has row u ≡ false → is_neighbour g a u ≡ false
no_neighbour g row a u is none = ap (λ (t : Bool). not (a == u) && t) (sym (is u) ∙ none) ∙ never (not (a == u))
  where
    never : (x : Bool) → (x && false) ≡ false
    never true = refl
    never false = refl

pub listed_none : (g : Graph) (row list : List ℕ) (a next : ℕ) → list ≡ [] → ((b : ℕ) → has row b ≡ is_some (edge g a b)) → ((v : ℕ) → v < next → has row v ≡ false)
    → ListedBelow g a next list
listed_none g row list a next empty is none = rw empty (record {
  each = λ u u_in. sym (no_neighbour g row a u is (none u u_in));
  none = λ u past. refl;
})

-- the member n, and no other one before the next
pub listed_more : (g : Graph) (row old new : List ℕ) (a n next : ℕ) → ListedBelow g a n old → ((b : ℕ) → has row b ≡ is_some (edge g a b)) → has row n ≡ true → n + 1 ≤ next
    → ((v : ℕ) → n + 1 ≤ v → v < next → has row v ≡ false) → ((v : ℕ) → stands_in new v ≡ (stands_in old v || not (a == n) && (n == v)))
    → ListedBelow g a next new
listed_more g row old new a n next listed is here low none put = record {
  each = λ u u_in. put u ∙ by u u_in (cases_eq n u) (cases_lt u n);
  none = λ u past. put u ∙ ap (λ (t : Bool). stands_in old u || not (a == n) && t) (ne_eqb n u (λ e. omega arith)) ∙ off (stands_in old u) (not (a == n)) ∙ listed.none u (omega arith);
}
  where
    off : (p q : Bool) → (p || (q && false)) ≡ p
    off true true = refl
    off true false = refl
    off false true = refl
    off false false = refl

    on : (p q : Bool) → p ≡ false → (p || (q && true)) ≡ (q && true)
    on false q e = refl
    on true q e = cc

    by : (u : ℕ) → u < next → (n ≡ u) ⊎ (n ≡ u → ⊥) → (u < n) ⊎ (n ≤ u) → (stands_in old u || not (a == n) && (n == u)) ≡ is_neighbour g a u
    by u u_in (inl e) o =
        ap (λ (t : Bool). stands_in old u || not (a == n) && t) (eq-eqb n u e)
        ∙ on (stands_in old u) (not (a == n)) (listed.none u (omega arith))
        ∙ ap (λ (k : ℕ). not (a == k) && true) e
        ∙ ap (λ (t : Bool). not (a == u) && t) (sym (sym (is u) ∙ subst (λ (k : ℕ). has row k ≡ true) e here))
    by u u_in (inr ne) (inl before) =
        ap (λ (t : Bool). stands_in old u || not (a == n) && t) (ne_eqb n u ne) ∙ off (stands_in old u) (not (a == n)) ∙ listed.each u before
    by u u_in (inr ne) (inr after) =
        ap (λ (t : Bool). stands_in old u || not (a == n) && t) (ne_eqb n u ne) ∙ off (stands_in old u) (not (a == n))
        ∙ listed.none u (omega arith) ∙ sym (no_neighbour g row a u is (none u (omega arith) u_in))

pub listed_all : (g : Graph) (row list : List ℕ) (a n : ℕ) → ListedBelow g a n list → ((b : ℕ) → has row b ≡ is_some (edge g a b)) → ((b : ℕ) → has row b ≡ true → b < size g) → size g ≤ n
    → (u : ℕ) → stands_in list u ≡ is_neighbour g a u
listed_all g row list a n listed is within past u = by (cases_lt u n)
  where
    outside : (h : Bool) → size g ≤ u → has row u ≡ h → has row u ≡ false
    outside true out e = absurd (omega (arith, within u e))
    outside false out e = e

    by : (u < n) ⊎ (n ≤ u) → stands_in list u ≡ is_neighbour g a u
    by (inl inside) = listed.each u inside
    by (inr out) = listed.none u out ∙ sym (no_neighbour g row a u is (outside (has row u) (omega arith) refl))

-- one target vertex more has its list
pub near_none : (q : Problem) (lists : List (List ℕ)) → lists ≡ [] → AreNear q lists 0
near_none q lists empty = rw empty (record { long = refl; each = λ t t_in _ u. absurd (omega arith) })

pub near_more : (q : Problem) (lists ls : List (List ℕ)) (n : ℕ) (list : List ℕ) → AreNear q lists n
    → (is_listed q n ≡ true → (u : ℕ) → stands_in list u ≡ is_neighbour q.target n u) → ls ≡ lists ++ list ∷ [] → AreNear q ls (n + 1)
near_more q lists ls n list are right is = rw is (record {
  long = omega (arith, are.long, length-append lists (list ∷ []));
  each = λ t t_in. by t t_in (cases_lt t n);
})
  where
    by : (t : ℕ) → t < n + 1 → (t < n) ⊎ (n ≤ t) → is_listed q t ≡ true → (u : ℕ) → stands_in (get_or (lists ++ list ∷ []) t []) u ≡ is_neighbour q.target t u
    by t t_in (inl before) on u = rw (get_or_append_left lists (list ∷ []) [] t (omega (arith, are.long))) (are.each t before on u)
    by t t_in (inr here) on u =
        let e : n ≡ t = omega arith in
        let at : length lists ≡ t = omega (arith, are.long) in
        rw (get_or_push lists list [] t at)
        (right (subst (λ (k : ℕ). is_listed q k ≡ true) (sym e) on) u ∙ ap (λ (k : ℕ). is_neighbour q.target k u) e)

-- what is listed are vertices
pub near_within : (g : Graph) (row list : List ℕ) (t : ℕ) → ((b : ℕ) → has row b ≡ is_some (edge g t b)) → ((b : ℕ) → has row b ≡ true → b < size g)
    → ((u : ℕ) → stands_in list u ≡ is_neighbour g t u) → (u : ℕ) → stands_in list u ≡ true → u < size g
near_within g row list t is within listed u h = within u (is u ∙ second (not (t == u)) (is_some (edge g t u)) (sym (listed u) ∙ h))
  where
    second : (a b : Bool) → (a && b) ≡ true → b ≡ true
    second true b e = e
    second false b e = cc
