-- Counting values together: what a sum of the constraints of vertices and of values says of an assignment.
use Rattle.std.proofs.Common.{◌≡◌, ℕ, zero, suc, ◌+◌, ◌<◌, ◌≤◌, ◌==◌, Bool, true, false, not, ◌&&◌, ◌||◌, if◌then◌else◌, List, [], ◌∷◌, ◌++◌, length, map, Option, ℤ, pos, negsuc, ◌+ℤ◌, ◌≤ℤ◌, refl, sym, ap, subst, ◌∙◌, arith, inl, inr, ◌⊎◌}
use Rattle.std.proofs.lemmas.Int.{ints}
use Rattle.std.proofs.lemmas.Bool.{cases_eq, or_cases, cases_lt, eqb-true, eq-eqb, ne_eqb}
use Rattle.graph_theory.specs.Graph.{size}
use Rattle.graph_theory.specs.Embedding.{Problem}
use Rattle.graph_theory.specs.Blocks.{in_block}
use Rattle.graph_theory.specs.Neighbours.{count}
use Rattle.proof_theory.specs.Forms.{Form, Holds, Rises, value}
use Rattle.proof_theory.specs.Rules.{sum_of}
use Rattle.proof_theory.proofs.Sorting.{value-sorted, value-append, Rises-sorted}
use Rattle.log_theory.specs.Lookups.{is_among, are_distinct}
use Rattle.encoding_theory.specs.Variables.{variable}
use Rattle.encoding_theory.specs.Encoding.{every, terms_where, at_least, at_most_in}
use Rattle.encoding_theory.proofs.FormMeanings.{value_up, value_down}
use Rattle.forcing_theory.specs.Sums.{sum_from}
use Rattle.explanation_theory.specs.Reasons.{at_leasts, set_form}

or_right : (b c : Bool) → c ≡ true → (b || c) ≡ true
or_right true c e = refl
or_right false c e = e

and_true : (b : Bool) → (b && true) ≡ b
and_true true = refl
and_true false = refl

and_false : (b : Bool) → (b && false) ≡ false
and_false true = refl
and_false false = refl

among_head : (x : ℕ) (xs : List ℕ) → is_among x (x ∷ xs) ≡ true
among_head x xs = ap (λ (b : Bool). b || is_among x xs) (eq-eqb x x refl)

-- ---- sums along a list

-- The sum of a measure over the members of a list.
abbrev pub sum_over : (ℕ → ℕ) → List ℕ → ℕ
sum_over f [] = 0
sum_over f (x ∷ xs) = f x + sum_over f xs

-- One where the test passes.
abbrev pub one_if : Bool → ℕ
one_if b = if b then 1 else 0

pub sum_le : (f g : ℕ → ℕ) (xs : List ℕ) → ((x : ℕ) → is_among x xs ≡ true → f x ≤ g x) → sum_over f xs ≤ sum_over g xs
sum_le f g [] h = omega arith
sum_le f g (x ∷ xs) h =
    let here = h x (ap (λ (b : Bool). b || is_among x xs) (eq-eqb x x refl)) in
    let later = sum_le f g xs (λ y among. h y (or_right (x == y) (is_among y xs) among)) in
    omega (arith, here, later)

-- A sum that is no greater, and at one member less by one, is less.
sum_lt : (f g : ℕ → ℕ) (xs : List ℕ) (w : ℕ) → ((x : ℕ) → is_among x xs ≡ true → f x ≤ g x) → is_among w xs ≡ true → f w + 1 ≤ g w → sum_over f xs + 1 ≤ sum_over g xs
sum_lt f g [] w h among less = absurd cc
sum_lt f g (x ∷ xs) w h among less = by (sum_lt f g xs w later) (cases_eq x w) among
  where
    later : (y : ℕ) → is_among y xs ≡ true → f y ≤ g y
    later y a = h y (or_right (x == y) (is_among y xs) a)

    here : f x ≤ g x
    here = h x (ap (λ (b : Bool). b || is_among x xs) (eq-eqb x x refl))

    by : (is_among w xs ≡ true → f w + 1 ≤ g w → sum_over f xs + 1 ≤ sum_over g xs) → (x ≡ w) ⊎ (x ≡ w → ⊥) → ((x == w) || is_among w xs) ≡ true → sum_over f (x ∷ xs) + 1 ≤ sum_over g (x ∷ xs)
    by rest (inl same) a =
        let less_here : f x + 1 ≤ g x = rw same less in
        let others = sum_le f g xs later in
        omega (arith, less_here, others)
    by rest (inr other) a =
        let tail : is_among w xs ≡ true = ap (λ (b : Bool). b || is_among w xs) (sym (ne_eqb x w other)) ∙ a in
        let r = rest tail less in
        let l = here in
        omega (arith, r, l)

sum_zero : (xs : List ℕ) → sum_over (λ x. 0) xs ≡ 0
sum_zero [] = refl
sum_zero (x ∷ xs) = let h = sum_zero xs in omega (arith, h)

sum_add : (f g : ℕ → ℕ) (xs : List ℕ) → sum_over (λ x. f x + g x) xs ≡ sum_over f xs + sum_over g xs
sum_add f g [] = refl
sum_add f g (x ∷ xs) = let h = sum_add f g xs in omega (arith, h)

-- Rows first, or columns first.
pub sum_swap : (f : ℕ → ℕ → ℕ) (xs ys : List ℕ) → sum_over (λ x. sum_over (f x) ys) xs ≡ sum_over (λ y. sum_over (λ x. f x y) xs) ys
sum_swap f [] ys = sym (sum_zero ys)
sum_swap f (x ∷ xs) ys =
    let h = sum_swap f xs ys in
    let a = sum_add (f x) (λ y. sum_over (λ z. f z y) xs) ys in
    omega (arith, h, a)

-- ---- counts

-- A count with one number left out.
count_without : (f : ℕ → Bool) (n v : ℕ) → v < n → f v ≡ true → count f n ≡ suc (count (λ i. f i && not (i == v)) n)
count_without f zero v v_in is = absurd (omega arith)
count_without f (suc n) v v_in is = by (λ low. count_without f n v low is) (cases_eq v n)
  where
    same_below : (m : ℕ) → m ≤ v → count (λ i. f i && not (i == v)) m ≡ count f m
    same_below zero le = refl
    same_below (suc m) le =
        let rest = same_below m (omega (arith, le)) in
        let here : one_if (f m && not (m == v)) ≡ one_if (f m) = ap one_if (ap (λ (b : Bool). f m && not b) (ne_eqb m v (λ (e : m ≡ v). omega (arith, e, le))) ∙ and_true (f m)) in
        omega (arith, rest, here)

    by : (v < n → count f n ≡ suc (count (λ i. f i && not (i == v)) n)) → (v ≡ n) ⊎ (v ≡ n → ⊥) → count f (suc n) ≡ suc (count (λ i. f i && not (i == v)) (suc n))
    by later (inl same) =
        let one : one_if (f n) ≡ 1 = ap one_if (ap f (sym same) ∙ is) in
        let none : one_if (f n && not (n == v)) ≡ 0 = ap one_if (ap (λ (b : Bool). f n && not b) (eq-eqb n v (sym same)) ∙ and_false (f n)) in
        let rest = same_below n (omega (arith, same)) in
        omega (arith, one, none, rest)
    by later (inr other) =
        let low : v < n = omega (arith, v_in, other) in
        let rest = later low in
        let here : one_if (f n && not (n == v)) ≡ one_if (f n) = ap one_if (ap (λ (b : Bool). f n && not b) (ne_eqb n v (λ (e : n ≡ v). other (sym e))) ∙ and_true (f n)) in
        omega (arith, rest, here)

-- Leaving out a number changes nothing along a list that has it not.
sum_without : (f : ℕ → Bool) (v : ℕ) (xs : List ℕ) → is_among v xs ≡ false → sum_over (λ i. one_if (f i && not (i == v))) xs ≡ sum_over (λ i. one_if (f i)) xs
sum_without f v [] none = refl
sum_without f v (x ∷ xs) none = by (sum_without f v xs) (x == v) refl none
  where
    by : (is_among v xs ≡ false → sum_over (λ i. one_if (f i && not (i == v))) xs ≡ sum_over (λ i. one_if (f i)) xs) → (b : Bool) → (x == v) ≡ b → (b || is_among v xs) ≡ false
        → sum_over (λ i. one_if (f i && not (i == v))) (x ∷ xs) ≡ sum_over (λ i. one_if (f i)) (x ∷ xs)
    by later true e h = absurd cc
    by later false e h =
        let here : one_if (f x && not (x == v)) ≡ one_if (f x) = ap one_if (ap (λ (b : Bool). f x && not b) e ∙ and_true (f x)) in
        let rest = later h in
        omega (arith, here, rest)

distinct_head : (b c : Bool) → (not b && c) ≡ true → (b ≡ false) × (c ≡ true)
distinct_head true c e = absurd cc
distinct_head false c e = (refl, e)

-- Along a list without repetitions no more pass than there are.
pub distinct_sum : (f : ℕ → Bool) (n : ℕ) (xs : List ℕ) → are_distinct xs ≡ true → ((x : ℕ) → is_among x xs ≡ true → x < n) → sum_over (λ i. one_if (f i)) xs ≤ count f n
distinct_sum f n [] distinct within = omega arith
distinct_sum f n (x ∷ xs) distinct within = by (f x) refl (distinct_sum (λ i. f i && not (i == x)) n xs parts.1 later) (distinct_sum f n xs parts.1 later)
  where
    parts : (is_among x xs ≡ false) × (are_distinct xs ≡ true)
    parts = distinct_head (is_among x xs) (are_distinct xs) distinct

    later : (y : ℕ) → is_among y xs ≡ true → y < n
    later y among = within y (or_right (x == y) (is_among y xs) among)

    by : (b : Bool) → f x ≡ b → sum_over (λ i. one_if (f i && not (i == x))) xs ≤ count (λ i. f i && not (i == x)) n → sum_over (λ i. one_if (f i)) xs ≤ count f n
        → sum_over (λ i. one_if (f i)) (x ∷ xs) ≤ count f n
    by true is less all =
        let one : one_if (f x) ≡ 1 = ap one_if is in
        let more = count_without f n x (within x (among_head x xs)) is in
        let same = sum_without f x xs parts.0 in
        omega (arith, one, more, same, less)
    by false is less all = let none : one_if (f x) ≡ 0 = ap one_if is in omega (arith, none, all)

count_none : (g : ℕ → Bool) (n : ℕ) → ((u : ℕ) → u < n → g u ≡ true → ⊥) → count g n ≡ 0
count_none g zero none = refl
count_none g (suc n) none = by (g n) refl (count_none g n (λ u u_in is. none u (omega (arith, u_in)) is))
  where
    by : (b : Bool) → g n ≡ b → count g n ≡ 0 → count g (suc n) ≡ 0
    by true is rest = absurd (none n (omega arith) is)
    by false is rest = let none_here : one_if (g n) ≡ 0 = ap one_if is in omega (arith, none_here, rest)

and_both : (b c : Bool) → (b && not c) ≡ true → (b ≡ true) × (c ≡ false)
and_both true true e = absurd cc
and_both true false e = (refl, refl)
and_both false c e = absurd cc

-- Where all that pass are in a list, they are no more than pass along it.
pub covered_count : (g : ℕ → Bool) (n : ℕ) (ws : List ℕ) → ((u : ℕ) → u < n → g u ≡ true → is_among u ws ≡ true) → count g n ≤ sum_over (λ w. one_if (g w)) ws
covered_count g n [] covered = let z = count_none g n (λ u u_in is. let bad : false ≡ true = covered u u_in is in absurd cc) in omega (arith, z)
covered_count g n (w ∷ ws) covered = by (cases_lt w n) (g w) refl (covered_count (λ i. g i && not (i == w)) n ws) (covered_count g n ws)
  where
    tail : (u : ℕ) → (u ≡ w → ⊥) → is_among u (w ∷ ws) ≡ true → is_among u ws ≡ true
    tail u other among = ap (λ (b : Bool). b || is_among u ws) (sym (ne_eqb w u (λ (e : w ≡ u). other (sym e)))) ∙ among

    without : (u : ℕ) → u < n → (g u && not (u == w)) ≡ true → is_among u ws ≡ true
    without u u_in is = let both = and_both (g u) (u == w) is in tail u (λ (e : u ≡ w). let bad : true ≡ false = sym (eq-eqb u w e) ∙ both.1 in absurd cc) (covered u u_in both.0)

    less : (v : ℕ) → is_among v ws ≡ true → one_if (g v && not (v == w)) ≤ one_if (g v)
    less v among = at (g v) (v == w)
      where
        at : (b c : Bool) → one_if (b && not c) ≤ one_if b
        at true true = omega arith
        at true false = omega arith
        at false c = omega arith

    by : (w < n) ⊎ (n ≤ w) → (b : Bool) → g w ≡ b → (((u : ℕ) → u < n → (g u && not (u == w)) ≡ true → is_among u ws ≡ true) → count (λ i. g i && not (i == w)) n ≤ sum_over (λ v. one_if (g v && not (v == w))) ws)
        → (((u : ℕ) → u < n → g u ≡ true → is_among u ws ≡ true) → count g n ≤ sum_over (λ v. one_if (g v)) ws) → count g n ≤ sum_over (λ v. one_if (g v)) (w ∷ ws)
    by (inl w_in) true is fewer all =
        let one : one_if (g w) ≡ 1 = ap one_if is in
        let more = count_without g n w w_in is in
        let rest = fewer without in
        let fit = sum_le (λ v. one_if (g v && not (v == w))) (λ v. one_if (g v)) ws less in
        omega (arith, one, more, rest, fit)
    by (inr past) true is fewer all = let rest = all (λ u u_in here. tail u (λ (e : u ≡ w). omega (arith, e, u_in, past)) (covered u u_in here)) in omega (arith, rest)
    by place false is fewer all =
        let rest = all (λ u u_in here. tail u (λ (e : u ≡ w). let bad : true ≡ false = sym here ∙ ap g e ∙ is in absurd cc) (covered u u_in here)) in omega (arith, rest)

-- ---- what the sum says

-- How many values of p are true, and how many vertices of a block have u.
abbrev pub row : Problem → (ℕ → Bool) → ℕ → ℕ
row q a p = count (λ i. every i && a (variable q p i)) (size q.target)

abbrev pub column : Problem → Option ℕ → (ℕ → Bool) → ℕ → ℕ
column q b a u = count (λ p. in_block q b p && a (variable q p u)) (size q.pattern)

unfoldable pub total_value : (ℕ → Bool) → List Form → ℤ
total_value a [] = pos 0
total_value a (f ∷ fs) = value a f.terms +ℤ total_value a fs

unfoldable pub total_bound : List Form → ℤ
total_bound [] = pos 0
total_bound (f ∷ fs) = f.bound +ℤ total_bound fs

pub sum_value : (a : ℕ → Bool) (f : Form) (gs : List Form) → value a (sum_from f gs).terms ≡ value a f.terms +ℤ total_value a gs
unfolding total_value
sum_value a f [] = omega (arith, ints)
sum_value a f (g ∷ gs) =
    let e = value-sorted a (f.terms ++ g.terms) ∙ value-append a f.terms g.terms in
    let h = sum_value a (sum_of f g) gs in
    omega (arith, ints)

pub sum_bound : (f : Form) (gs : List Form) → (sum_from f gs).bound ≡ f.bound +ℤ total_bound gs
unfolding total_bound
sum_bound f [] = omega (arith, ints)
sum_bound f (g ∷ gs) = let h = sum_bound (sum_of f g) gs in omega (arith, ints)

pub sum_rises : (f : Form) (gs : List Form) → Rises 0 f.terms → Rises 0 (sum_from f gs).terms
sum_rises f [] rises = rises
sum_rises f (g ∷ gs) rises = sum_rises (sum_of f g) gs (Rises-sorted (f.terms ++ g.terms))

row_value : (q : Problem) (a : ℕ → Bool) (p : ℕ) → value a (at_least q p).terms ≡ pos (row q a p)
row_value q a p = value-sorted a (terms_where (pos 1) every (variable q p) (size q.target)) ∙ value_up a every (variable q p) (size q.target)

column_value : (q : Problem) (b : Option ℕ) (a : ℕ → Bool) (u : ℕ) → value a (at_most_in q b u).terms +ℤ pos (column q b a u) ≡ pos 0
column_value q b a u =
    let e = value-sorted a (terms_where (negsuc 0) (in_block q b) (λ p. variable q p u) (size q.pattern)) in
    let v = value_down a (in_block q b) (λ p. variable q p u) (size q.pattern) in
    omega (arith, ints)

pub columns_value : (q : Problem) (b : Option ℕ) (a : ℕ → Bool) (values : List ℕ) → total_value a (map (at_most_in q b) values) +ℤ pos (sum_over (column q b a) values) ≡ pos 0
unfolding total_value
columns_value q b a [] = omega (arith, ints)
columns_value q b a (u ∷ us) =
    let h = columns_value q b a us in
    let e = column_value q b a u in
    omega (arith, ints)

pub columns_bound : (q : Problem) (b : Option ℕ) (values : List ℕ) → total_bound (map (at_most_in q b) values) +ℤ pos (length values) ≡ pos 0
unfolding total_bound
columns_bound q b [] = omega (arith, ints)
columns_bound q b (u ∷ us) = let h = columns_bound q b us in omega (arith, ints)

all_value : (q : Problem) (b : Option ℕ) (a : ℕ → Bool) (vertices values : List ℕ)
    → total_value a (at_leasts q vertices ++ map (at_most_in q b) values) +ℤ pos (sum_over (column q b a) values) ≡ pos (sum_over (row q a) vertices)
unfolding total_value
all_value q b a [] values = columns_value q b a values
all_value q b a (p ∷ ps) values =
    let h = all_value q b a ps values in
    let e = row_value q a p in
    omega (arith, ints)

all_bound : (q : Problem) (b : Option ℕ) (vertices values : List ℕ) → total_bound (at_leasts q vertices ++ map (at_most_in q b) values) +ℤ pos (length values) ≡ pos (length vertices)
unfolding total_bound
all_bound q b [] values = columns_bound q b values
all_bound q b (p ∷ ps) values = let h = all_bound q b ps values in omega (arith, ints)

-- The vertices and the values that others have are no more than the values that the vertices have, with as many more as there are values.
set_says : (q : Problem) (b : Option ℕ) (a : ℕ → Bool) (p : ℕ) (vertices values : List ℕ) → Holds (set_form q b p vertices values) a
    → length (p ∷ vertices) + sum_over (column q b a) values ≤ sum_over (row q a) (p ∷ vertices) + length values
set_says q b a p vertices values holds =
    let reached = holds.reached in
    let v = sum_value a (at_least q p) (at_leasts q vertices ++ map (at_most_in q b) values) in
    let k = sum_bound (at_least q p) (at_leasts q vertices ++ map (at_most_in q b) values) in
    let r = row_value q a p in
    let av = all_value q b a vertices values in
    let ab = all_bound q b vertices values in
    omega (arith, ints)

-- ---- sets

module _ (q : Problem) (b : Option ℕ) (a : ℕ → Bool) (p : ℕ) (vertices values : List ℕ) (members : (r : ℕ) → is_among r (p ∷ vertices) ≡ true → in_block q b r ≡ true) (distinct : are_distinct (p ∷ vertices) ≡ true) (vertices_in : (r : ℕ) → is_among r (p ∷ vertices) ≡ true → r < size q.pattern)
    (within : (r u : ℕ) → is_among r (p ∷ vertices) ≡ true → u < size q.target → a (variable q r u) ≡ true → is_among u values ≡ true) where
  -- How many of the set have u.
  inside : ℕ → ℕ
  inside u = sum_over (λ r. one_if (in_block q b r && a (variable q r u))) (p ∷ vertices)

  rows_inside : sum_over (row q a) (p ∷ vertices) ≤ sum_over inside values
  unfolding inside
  rows_inside =
      let each = sum_le (row q a) (λ r. sum_over (λ u. one_if (in_block q b r && a (variable q r u))) values) (p ∷ vertices)
      (λ r among. subst (λ (m : Bool). row q a r ≤ sum_over (λ u. one_if (m && a (variable q r u))) values) (sym (members r among))
      (covered_count (λ i. every i && a (variable q r i)) (size q.target) values (λ u u_in is. within r u among u_in is))) in
      let swapped = sum_swap (λ r u. one_if (in_block q b r && a (variable q r u))) (p ∷ vertices) values in
      omega (arith, each, swapped)

  inside_column : (u : ℕ) → inside u ≤ column q b a u
  unfolding inside
  inside_column u = distinct_sum (λ r. in_block q b r && a (variable q r u)) (size q.pattern) (p ∷ vertices) distinct vertices_in

  -- So there are at least as many values.
  pub enough_values : Holds (set_form q b p vertices values) a → length (p ∷ vertices) ≤ length values
  enough_values holds =
      let says = set_says q b a p vertices values holds in
      let rows = rows_inside in
      let fit = sum_le inside (column q b a) values (λ u among. inside_column u) in
      omega (arith, says, rows, fit)

  -- Where there are no more, no other vertex of the block has one of them.
  pub none_outside : Holds (set_form q b p vertices values) a → length values ≤ length (p ∷ vertices) → (r u : ℕ) → r < size q.pattern → in_block q b r ≡ true
      → is_among r (p ∷ vertices) ≡ false → is_among u values ≡ true
      → a (variable q r u) ≡ true → ⊥
  unfolding inside
  none_outside holds few r u r_in member outside among is =
      let says = set_says q b a p vertices values holds in
      let rows = rows_inside in
      let one_more : inside u + 1 ≤ column q b a u =
      (let all = distinct_sum (λ v. in_block q b v && a (variable q v u)) (size q.pattern) (r ∷ p ∷ vertices) (and_of (is_among r (p ∷ vertices)) (are_distinct (p ∷ vertices)) outside distinct) (λ v here. in_all v (or_cases (r == v) (is_among v (p ∷ vertices)) here)) in
      let one : one_if (in_block q b r && a (variable q r u)) ≡ 1 = ap one_if (and_both_true (in_block q b r) (a (variable q r u)) member is) in
      omega (arith, all, one)) in
      let fit = sum_lt inside (column q b a) values u (λ w here. inside_column w) among one_more in
      omega (arith, says, rows, fit, few)
    where
      and_both_true : (b c : Bool) → b ≡ true → c ≡ true → (b && c) ≡ true
      and_both_true true c e f = f
      and_both_true false c e f = absurd cc

      and_of : (b c : Bool) → b ≡ false → c ≡ true → (not b && c) ≡ true
      and_of true c e f = absurd cc
      and_of false c e f = f

      in_all : (v : ℕ) → ((r == v) ≡ true) ⊎ (is_among v (p ∷ vertices) ≡ true) → v < size q.pattern
      in_all v (inl e) = let same : r ≡ v = eqb-true r v e in omega (arith, same, r_in)
      in_all v (inr here) = vertices_in v here
