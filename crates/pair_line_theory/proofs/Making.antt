-- The operations of the lines make their forms, and no sum on the way is too wide.
use Rattle.std.proofs.Common.{◌≡◌, ℕ, zero, suc, ◌+◌, ◌*◌, ◌^◌, ◌≤◌, ◌<◌, ◌==◌, Bool, true, false, ◌||◌, is_some, not, cond, List, [], ◌∷◌, ◌++◌, map, ℤ, pos, negsuc, unsigned_abs, refl, sym, ap, ◌∙◌, arith, Option, Some, None, Result, Ok, Err}
use Rattle.std.proofs.lemmas.Int.{unsigned_abs-mul}
use Rattle.std.proofs.lemmas.Bool.{ne_eqb, eqb-false, not-true, and_parts, and_from, not_from_false}
use native.Mathlib.Nat.{suc-mul, mul-le-mul_right}
use Rattle.graph_theory.specs.Graph.{size as size_of, edge}
use Rattle.graph_theory.specs.Embedding.{Problem, is_injective}
use Rattle.graph_theory.specs.Graph.{Graph}
use Rattle.graph_theory.specs.Blocks.{in_block, has_block_in, has_block}
use Rattle.graph_theory.specs.declared.embedding.Maps.{Maps}
use Rattle.graph_theory.specs.declared.embedding.Maps.TheVariants.{Injective, Local, Any}
use Rattle.graph_theory.specs.Neighbours.{count, is_neighbour, common}
use Rattle.proof_theory.specs.Forms.{Form, size, form_of}
use Rattle.proof_theory.specs.Rules.{sum_of, times_of, divide_of}
use Rattle.proof_theory.specs.Slack.{axiom_form, literal_term}
use Rattle.pb_terms.proofs.Ruled.{size-sorted, size-scaled}
use Rattle.log_theory.specs.declared.step.Name.{Name}
use Rattle.log_theory.specs.declared.step.Ref.{Ref}
use Rattle.log_theory.specs.declared.step.Op.{Op}
use Rattle.log_theory.specs.declared.step.Op.TheVariants.{Push, Axiom, Add, Times, Divide}
use Rattle.log_theory.specs.declared.step.Step.TheVariants.{P}
use Rattle.log_theory.specs.declared.step.Cause.{Cause}
use Rattle.log_theory.specs.declared.step.Cause.TheVariants.{NoSuchName, Zero}
use Rattle.log_theory.specs.Steps.{◌>>=◌, unless, or_fault}
use Rattle.log_theory.specs.Lookups.{Lookup, narrow, on_top, operate, evaluate, only_one, makes}
use Rattle.encoding_theory.specs.Variables.{variable, when}
use Rattle.encoding_theory.specs.Pairs.{is_compatible, is_linked, is_edge_pair}
use Rattle.encoding_theory.specs.Encoding.{every, terms_where, at_least, at_most, at_most_in, at_most_target, pair_form}
use Rattle.encoding_theory.specs.Places.{at_least_place, at_most_place, at_most_place_in, edge_place, non_edge_place}
use Rattle.encoding_theory.proofs.PlaceProofs.{place_laws}
use Rattle.forcing_theory.specs.Sums.{IsSmall}
use Rattle.forcing_theory.proofs.Summing.{size_append, small_sum, narrow_small}
use Rattle.pair_line_theory.specs.Operations.{sum_where, adds_where, FindsEncoding}
use Rattle.pair_line_theory.specs.Rows.{at_least_line, at_most_line, block_line, target_line, edge_line, is_shared, lets, beside_form, beside_ops, near_form, near_ops, alone_ops, there, spread_form, spread_ops, not_both_form, two_ops, around_form, around_ops, weight, joined_form, joined_ops, apart_form, apart_ops, is_consistent, consistent_places, consistent_clause, consistent_form}
use Rattle.pair_line_theory.specs.Laws.{InLimits, IsPlace, AreTwoShared, FindsSpread, RowMakes, RowSizes, RowLaws}
use Rattle.pair_line_theory.proofs.Totals.{one_if}
use Rattle.pair_line_theory.proofs.AskedShares.{asked_laws}
use Rattle.pair_line_theory.proofs.Spreading.{few_form, backs_form, spread_exact, one_alone}
use Rattle.pair_line_theory.proofs.BothWays.{row_serves, clause_terms, clause_bound, clause_made}
use Rattle.pair_line_theory.proofs.Pairing.{not_both_made, few_two, two_exact}
use Rattle.pair_line_theory.proofs.Forcing.{row_forces, edge_forces}

-- ---- sizes

small_more : (m n : ℕ) (f : Form) → IsSmall m f → m ≤ n → IsSmall n f
small_more m n f small le = record { bound_fits = let b = small.bound_fits in omega (arith, b, le); sum_fits = let s = small.sum_fits in omega (arith, s, le) }

small_times : (m k : ℕ) (f : Form) → IsSmall m f → IsSmall (m * k) (times_of k f)
small_times m k f small = record {
  bound_fits = let e = unsigned_abs-mul f.bound (pos k) in let l = mul-le-mul_right {m = unsigned_abs f.bound} {n = m} k small.bound_fits in omega (arith, e, l);
  sum_fits = let e = size-scaled k f.terms in let l = mul-le-mul_right {m = size f.terms} {n = m} k small.sum_fits in omega (arith, e, l);
}

small_where : (test : ℕ → Bool) (f : ℕ → Form) (base : Form) (m s n : ℕ) → IsSmall m base → ((i : ℕ) → IsSmall s (f i)) → IsSmall (m + n * s) (sum_where test f base n)
small_where test f base m s zero small each = small_more m (m + 0 * s) base small (omega arith)
small_where test f base m s (suc n) small each = by (test n) (small_where test f base m s n small each)
  where
    by : (b : Bool) → IsSmall (m + n * s) (sum_where test f base n) → IsSmall (m + suc n * s) (cond b (sum_of (sum_where test f base n) (f n)) (sum_where test f base n))
    by true before = let e = suc-mul n s in small_more (m + n * s + s) (m + suc n * s) _ (small_sum (m + n * s) s (sum_where test f base n) (f n) before (each n)) (omega (arith, e))
    by false before = let e = suc-mul n s in small_more (m + n * s) (m + suc n * s) _ before (omega (arith, e))

size_terms : (c : ℤ) (test : ℕ → Bool) (number : ℕ → ℕ) (n : ℕ) → unsigned_abs c ≤ 1 → size (terms_where c test number n) ≤ n
size_terms c test number zero small = omega arith
size_terms c test number (suc n) small = by (test n) (size_terms c test number n small)
  where
    by : (b : Bool) → size (terms_where c test number n) ≤ n → size (terms_where c test number n ++ when b ((number n, c) ∷ [])) ≤ suc n
    by true h = let e = size_append (terms_where c test number n) ((number n, c) ∷ []) in omega (arith, e, h, small)
    by false h = let e = size_append (terms_where c test number n) [] in omega (arith, e, h)

small_form : (ts : List (ℕ × ℤ)) (b : ℤ) (n : ℕ) → unsigned_abs b ≤ n → size ts ≤ n → IsSmall n (form_of ts b)
small_form ts b n bound sum = record { bound_fits = bound; sum_fits = let s = size-sorted ts in omega (arith, s, sum) }

count_few : (f : ℕ → Bool) (n : ℕ) → count f n ≤ n
count_few f zero = omega arith
count_few f (suc n) = let h = count_few f n in let one = by (f n) in omega (arith, h, one)
  where
    by : (b : Bool) → one_if b ≤ 1
    by true = omega arith
    by false = omega arith

-- ---- operations one after another

evaluate_joined : (look : Lookup) (xs ys : List Op) (stack : List Form) → evaluate look stack (xs ++ ys) ≡ (evaluate look stack xs >>= λ next. evaluate look next ys)
evaluate_joined look [] ys stack = refl
evaluate_joined look (o ∷ os) ys stack = by (operate look stack o) (evaluate_joined look os ys)
  where
    by : (x : Result (List Form) Cause) → ((next : List Form) → evaluate look next (os ++ ys) ≡ (evaluate look next os >>= λ later. evaluate look later ys))
        → (x >>= λ next. evaluate look next (os ++ ys)) ≡ ((x >>= λ next. evaluate look next os) >>= λ next. evaluate look next ys)
    by (Ok next) later = later next
    by (Err c) later = refl

runs_on : (look : Lookup) (old middle new : List Form) (xs ys : List Op) → evaluate look old xs ≡ Ok middle → evaluate look middle ys ≡ Ok new → evaluate look old (xs ++ ys) ≡ Ok new
runs_on look old middle new xs ys first second = evaluate_joined look xs ys old ∙ ap (λ (x : Result (List Form) Cause). x >>= λ next. evaluate look next ys) first ∙ second

step : (look : Lookup) (old middle : List Form) (o : Op) (os : List Op) → operate look old o ≡ Ok middle → evaluate look old (o ∷ os) ≡ evaluate look middle os
step look old middle o os e = ap (λ (x : Result (List Form) Cause). x >>= λ next. evaluate look next os) e

pushed : (look : Lookup) (stack : List Form) (r : Ref) (f : Form) → look r ≡ Some f → operate look stack (Push r) ≡ Ok (f ∷ stack)
pushed look stack r f e = ap (λ (o : Option Form). or_fault o NoSuchName >>= λ g. Ok (g ∷ stack)) e

added : (look : Lookup) (stack : List Form) (f g : Form) (n : ℕ) → IsSmall n (sum_of f g) → n ≤ 2 ^ 125 → operate look (g ∷ f ∷ stack) Add ≡ Ok (sum_of f g ∷ stack)
added look stack f g n small fits = ap (λ (x : Result Form Cause). x >>= λ h. Ok (h ∷ stack)) (narrow_small n (sum_of f g) small fits)

not_zero : (k : ℕ) → 0 < k → (not (k == 0)) ≡ true
not_zero k some = ap not (ne_eqb k 0 (λ (e : k ≡ 0). omega (arith, e, some)))

multiplied : (look : Lookup) (stack : List Form) (k : ℕ) (f : Form) (n : ℕ) → 0 < k → IsSmall n (times_of k f) → n ≤ 2 ^ 125 → operate look (f ∷ stack) (Times k) ≡ Ok (times_of k f ∷ stack)
multiplied look stack k f n some small fits =
    ap (λ (b : Bool). unless b Zero >>= λ _. on_top (times_of k) (f ∷ stack)) (not_zero k some)
    ∙ ap (λ (x : Result Form Cause). x >>= λ h. Ok (h ∷ stack)) (narrow_small n (times_of k f) small fits)

divided : (look : Lookup) (stack : List Form) (k : ℕ) (f g : Form) (n : ℕ) → 0 < k → divide_of k f ≡ g → IsSmall n g → n ≤ 2 ^ 125 → operate look (f ∷ stack) (Divide k) ≡ Ok (g ∷ stack)
divided look stack k f g n some is small fits =
    ap (λ (b : Bool). unless b Zero >>= λ _. on_top (divide_of k) (f ∷ stack)) (not_zero k some)
    ∙ ap (λ (h : Form). narrow h >>= λ x. Ok (x ∷ stack)) is
    ∙ ap (λ (x : Result Form Cause). x >>= λ h. Ok (h ∷ stack)) (narrow_small n g small fits)

-- Those that pass are put and added.
runs_where : (look : Lookup) (test : ℕ → Bool) (put : ℕ → Op) (f : ℕ → Form) (base : Form) (m s n : ℕ) → IsSmall m base → ((i : ℕ) → IsSmall s (f i)) → m + n * s ≤ 2 ^ 125
    → ((i : ℕ) (stack : List Form) → i < n → test i ≡ true → operate look stack (put i) ≡ Ok (f i ∷ stack)) → evaluate look (base ∷ []) (adds_where test put n) ≡ Ok (sum_where test f base n ∷ [])
runs_where look test put f base m s zero small each fits puts = refl
runs_where look test put f base m s (suc n) small each fits puts =
    let e = suc-mul n s in
    by (test n) refl (runs_where look test put f base m s n small each (omega (arith, e, fits)) (λ i stack low is. puts i stack (omega (arith, low)) is))
  where
    by : (b : Bool) → test n ≡ b → evaluate look (base ∷ []) (adds_where test put n) ≡ Ok (sum_where test f base n ∷ [])
        → evaluate look (base ∷ []) (adds_where test put n ++ when b (put n ∷ Add ∷ [])) ≡ Ok (cond b (sum_of (sum_where test f base n) (f n)) (sum_where test f base n) ∷ [])
    by true is before = runs_on look (base ∷ []) (sum_where test f base n ∷ []) _ (adds_where test put n) (put n ∷ Add ∷ []) before
        (step look (sum_where test f base n ∷ []) (f n ∷ sum_where test f base n ∷ []) (put n) (Add ∷ []) (puts n (sum_where test f base n ∷ []) (omega arith) is)
        ∙ step look (f n ∷ sum_where test f base n ∷ []) (sum_of (sum_where test f base n) (f n) ∷ []) Add [] (added look [] (sum_where test f base n) (f n) (m + n * s + s) (small_sum (m + n * s) s (sum_where test f base n) (f n) (small_where test f base m s n small each) (each n)) (let e = suc-mul n s in omega (arith, e, fits))))
    by false is before = runs_on look (base ∷ []) (sum_where test f base n ∷ []) _ (adds_where test put n) [] before refl

line_made : (look : Lookup) (name : Name) (ops : List Op) (f : Form) → evaluate look [] ops ≡ Ok (f ∷ []) → makes look (P name ops) ≡ Ok f
line_made look name ops f e = ap (λ (x : Result (List Form) Cause). x >>= λ stack. only_one stack) e

-- ---- a problem's forms

-- An edge pair, seen from either vertex.
pub pair_to : (q : Problem) (a b : ℕ) → is_neighbour q.pattern a b ≡ true → is_edge_pair q a b ≡ true
pair_to q a b joins =
    let j = and_parts (not (a == b)) (is_some (edge q.pattern a b)) joins in
    and_from (not (a == b)) (is_linked q.pattern a b) j.0 (or_left (is_some (edge q.pattern a b)) (is_some (edge q.pattern b a)) j.1)
  where
    or_left : (x y : Bool) → x ≡ true → (x || y) ≡ true
    or_left true y e = refl
    or_left false y e = absurd cc

pub pair_from : (q : Problem) (a b : ℕ) → is_neighbour q.pattern a b ≡ true → is_edge_pair q b a ≡ true
pair_from q a b joins =
    let j = and_parts (not (a == b)) (is_some (edge q.pattern a b)) joins in
    and_from (not (b == a)) (is_linked q.pattern b a) (not_from_false (b == a) (ne_eqb b a (λ (e : b ≡ a). eqb-false a b (not-true (a == b) j.0) (sym e))))
    (or_right (is_some (edge q.pattern b a)) (is_some (edge q.pattern a b)) j.1)
  where
    or_right : (x y : Bool) → y ≡ true → (x || y) ≡ true
    or_right true y e = refl
    or_right false y e = e

-- What stands before the sums around a place.
abbrev joined_base : Problem → ℕ → ℕ → ℕ → Form
joined_base q p t r = times_of (weight q t) (sum_of (times_of 2 (at_most q r)) (pair_form q p r t))

abbrev apart_base : Problem → ℕ → ℕ → Form
apart_base q t r = times_of (weight q t) (sum_of (at_most q r) (at_most_target q t))

-- Injective maps have the block of all vertices.
whole_block : (k : Maps) (g : Graph) → is_injective k ≡ true → has_block_in k g None ≡ true
whole_block Injective g inj = refl
whole_block Local g inj = absurd cc
whole_block Any g inj = absurd cc

-- The two loops of a spread.
abbrev others_ops : Problem → ℕ → ℕ → ℕ → List Op
others_ops q p r w = adds_where (λ v. not (is_shared q.pattern p r v)) (λ v. Axiom (there q w v)) (size_of q.pattern)

abbrev backs_ops : Problem → ℕ → ℕ → ℕ → List Op
backs_ops q p r w = adds_where (is_shared q.pattern p r) (λ m. Push (edge_line q m r w)) (size_of q.pattern)

module _ (q : Problem) (plain : InLimits q) where
  small_pair : (p r t : ℕ) → IsSmall 8193 (pair_form q p r t)
  small_pair p r t =
      let s = size_terms (pos 1) (is_compatible q p t r) (variable q r) (size_of q.target) (omega arith) in
      let few = plain.targets_few in
      small_form _ (pos 0) 8193 (omega arith) (omega (arith, s, few))

  small_at_most : (r : ℕ) → IsSmall 8192 (at_most q r)
  small_at_most r =
      let s = size_terms (negsuc 0) every (variable q r) (size_of q.target) (omega arith) in
      let few = plain.targets_few in
      small_form _ (negsuc 0) 8192 (omega arith) (omega (arith, s, few))

  small_block : (b : Option ℕ) (w : ℕ) → IsSmall 1024 (at_most_in q b w)
  small_block b w =
      let s = size_terms (negsuc 0) (in_block q b) (λ v. variable q v w) (size_of q.pattern) (omega arith) in
      let few = plain.vertices_few in
      small_form _ (negsuc 0) 1024 (omega arith) (omega (arith, s, few))

  small_target : (w : ℕ) → IsSmall 1024 (at_most_target q w)
  small_target w = small_block None w

  small_beside : (p t r : ℕ) → IsSmall 16385 (beside_form q p t r)
  small_beside p t r = small_sum 8193 8192 (pair_form q p r t) (at_most q r) (small_pair p r t) (small_at_most r)

  small_near : (b : Option ℕ) (p t r : ℕ) → IsSmall 17409 (near_form q b p t r)
  small_near b p t r = small_sum 16385 1024 (beside_form q p t r) (at_most_in q b t) (small_beside p t r) (small_block b t)

  small_spread : (p r w : ℕ) → IsSmall 9216 (spread_form q p r w)
  small_spread p r w =
      let downs : List (ℕ × ℤ) = terms_where (negsuc 0) (is_shared q.pattern p r) (λ m. variable q m w) (size_of q.pattern) in
      let ups : List (ℕ × ℤ) = terms_where (pos 1) (lets q p r w) (variable q r) (size_of q.target) in
      let s = size_terms (negsuc 0) (is_shared q.pattern p r) (λ m. variable q m w) (size_of q.pattern) (omega arith) in
      let k = size_terms (pos 1) (lets q p r w) (variable q r) (size_of q.target) (omega arith) in
      let e = size_append downs ups in
      let few = plain.targets_few in
      let less = plain.vertices_few in
      small_form _ (pos 0) 9216 (omega arith) (omega (arith, s, k, e, few, less))

  small_there : (w v : ℕ) → IsSmall 1 (axiom_form (there q w v))
  small_there w v = small_form (literal_term (there q w v) ∷ []) (pos 0) 1 (omega arith) (omega arith)

  small_few : (p r w : ℕ) → IsSmall 2048 (few_form q p r w)
  small_few p r w =
      let few = plain.vertices_few in
      small_more (1024 + size_of q.pattern * 1) 2048 _ (small_where (λ v. not (is_shared q.pattern p r v)) (λ v. axiom_form (there q w v)) (at_most_target q w) 1024 1 (size_of q.pattern) (small_target w) (λ v. small_there w v)) (omega (arith, few))

  weight_few : (t : ℕ) → weight q t ≤ 8193
  weight_few t = let d = count_few (is_neighbour q.target t) (size_of q.target) in let few = plain.targets_few in omega (arith, d, few)

  -- Up to 2^28 in size, a form stays below 2^30 with the sums around a place.
  small_around : (p t r : ℕ) (base : Form) → IsSmall (2 ^ 28) base → IsSmall (2 ^ 40) (around_form q p t r base)
  small_around p t r base small =
      let few = plain.targets_few in
      let less = plain.vertices_few in
      small_more (2 ^ 28 + size_of q.pattern * 8193 + size_of q.target * 9216) (2 ^ 40) _
      (small_where (is_neighbour q.target t) (spread_form q p r) _ (2 ^ 28 + size_of q.pattern * 8193) 9216 (size_of q.target)
      (small_where (is_shared q.pattern p r) (λ m. pair_form q p m t) base (2 ^ 28) 8193 (size_of q.pattern) small (λ m. small_pair p m t)) (λ w. small_spread p r w))
      (omega (arith, few, less))

  small_joined_base : (p t r : ℕ) → IsSmall (24577 * weight q t) (times_of (weight q t) (sum_of (times_of 2 (at_most q r)) (pair_form q p r t)))
  small_joined_base p t r = small_times 24577 (weight q t) _ (small_sum 16384 8193 (times_of 2 (at_most q r)) (pair_form q p r t) (small_times 8192 2 (at_most q r) (small_at_most r)) (small_pair p r t))

  small_apart_base : (t r : ℕ) → IsSmall (9216 * weight q t) (times_of (weight q t) (sum_of (at_most q r) (at_most_target q t)))
  small_apart_base t r = small_times 9216 (weight q t) _ (small_sum 8192 1024 (at_most q r) (at_most_target q t) (small_at_most r) (small_target t))

  joined_room : (t : ℕ) → 24577 * weight q t ≤ 2 ^ 28
  joined_room t = let few = weight_few t in omega (arith, few)

  apart_room : (t : ℕ) → 9216 * weight q t ≤ 2 ^ 28
  apart_room t = let few = weight_few t in omega (arith, few)

  small_clause : (p t r : ℕ) → IsSmall 8193 (consistent_clause q p t r)
  small_clause p t r = record {
    bound_fits = let b = ap unsigned_abs (clause_bound q p t r) in omega (arith, b);
    sum_fits =
        let s = size-sorted (map literal_term (consistent_places q p t r)) in
        let e = ap (λ (ts : List (ℕ × ℤ)). size ts) (clause_terms q p t r) in
        let k = size_terms (pos 1) (is_consistent q p t r) (variable q r) (size_of q.target) (omega arith) in
        let few = plain.targets_few in
        omega (arith, s, e, k, few);
  }

  small_both : (p t r : ℕ) → IsSmall 16385 (consistent_form q p t r)
  small_both p t r = small_sum 8193 8192 (consistent_clause q p t r) (at_most q r) (small_clause p t r) (small_at_most r)

  row_sizes : RowSizes q
  row_sizes = record {
    beside = λ p t r. small_more 16385 (2 ^ 40) _ (small_beside p t r) (omega arith);
    near = λ b p t r. small_more 17409 (2 ^ 40) _ (small_near b p t r) (omega arith);
    joined = λ p t r. small_around p t r _ (small_more (24577 * weight q t) (2 ^ 28) _ (small_joined_base p t r) (joined_room t));
    apart = λ p t r. small_around p t r _ (small_more (9216 * weight q t) (2 ^ 28) _ (small_apart_base t r) (apart_room t));
    both = λ p t r. small_more 16385 (2 ^ 40) _ (small_both p t r) (omega arith);
    spread = λ p r w. small_more 9216 (2 ^ 40) _ (small_spread p r w) (omega arith);
    clause = λ p t r. small_more 8193 (2 ^ 40) _ (small_clause p t r) (omega arith);
    block = λ b t. small_more 1024 (2 ^ 40) _ (small_block b t) (omega arith);
    free = λ r. small_more 8192 (2 ^ 40) _ (small_at_most r) (omega arith);
  }

  module _ (look : Lookup) (finds : FindsEncoding q look) where
    find_most : (r : ℕ) → r < size_of q.pattern → look (at_most_line q r) ≡ Some (at_most q r)
    find_most r r_in = finds.line (at_most_place q r) (at_most q r) ((place_laws q).at_most r r_in)

    find_least : (r : ℕ) → r < size_of q.pattern → look (at_least_line q r) ≡ Some (at_least q r)
    find_least r r_in = finds.line (at_least_place q r) (at_least q r) ((place_laws q).at_least r r_in)

    find_block : (b : Option ℕ) (w : ℕ) → has_block q b ≡ true → w < size_of q.target → look (block_line q b w) ≡ Some (at_most_in q b w)
    find_block b w has w_in = finds.line (at_most_place_in q b w) (at_most_in q b w) ((place_laws q).at_most_in b w has w_in)

    find_target : (w : ℕ) → is_injective q.maps ≡ true → w < size_of q.target → look (target_line q w) ≡ Some (at_most_target q w)
    find_target w inj w_in = find_block None w (whole_block q.maps q.pattern inj) w_in

    find_edge : (p r t : ℕ) → p < size_of q.pattern → r < size_of q.pattern → t < size_of q.target → is_edge_pair q p r ≡ true → look (edge_line q p r t) ≡ Some (pair_form q p r t)
    find_edge p r t p_in r_in t_in is = finds.line (edge_place q p r t) (pair_form q p r t) ((place_laws q).edge p r t p_in r_in t_in is)

    -- The line of p and a shared neighbour, and of that and r.
    find_first : (p r m t : ℕ) → p < size_of q.pattern → m < size_of q.pattern → t < size_of q.target → is_shared q.pattern p r m ≡ true → look (edge_line q p m t) ≡ Some (pair_form q p m t)
    find_first p r m t p_in m_in t_in is = find_edge p m t p_in m_in t_in (pair_to q p m (and_parts (is_neighbour q.pattern p m) (is_neighbour q.pattern r m) is).0)

    find_second : (p r m t : ℕ) → r < size_of q.pattern → m < size_of q.pattern → t < size_of q.target → is_shared q.pattern p r m ≡ true → look (edge_line q m r t) ≡ Some (pair_form q m r t)
    find_second p r m t r_in m_in t_in is = find_edge m r t m_in r_in t_in (pair_from q r m (and_parts (is_neighbour q.pattern p m) (is_neighbour q.pattern r m) is).1)

    around_made : (spread : ℕ → Ref) (p t r : ℕ) (base : Form) → IsPlace q p t r → FindsSpread q look spread p t r → IsSmall (2 ^ 28) base
        → evaluate look (base ∷ []) (around_ops q spread p t r) ≡ Ok (around_form q p t r base ∷ [])
    around_made spread p t r base place found small =
        let few = plain.targets_few in
        let less = plain.vertices_few in
        runs_on look (base ∷ []) (sum_where (is_shared q.pattern p r) (λ m. pair_form q p m t) base (size_of q.pattern) ∷ []) _
        (adds_where (is_shared q.pattern p r) (λ m. Push (edge_line q p m t)) (size_of q.pattern)) (adds_where (is_neighbour q.target t) (λ w. Push (spread w)) (size_of q.target))
        (runs_where look (is_shared q.pattern p r) (λ m. Push (edge_line q p m t)) (λ m. pair_form q p m t) base (2 ^ 28) 8193 (size_of q.pattern) small (λ m. small_pair p m t) (omega (arith, less))
        (λ m stack m_in is. pushed look stack (edge_line q p m t) (pair_form q p m t) (find_first p r m t place.first m_in place.place is)))
        (runs_where look (is_neighbour q.target t) (λ w. Push (spread w)) (spread_form q p r) _ (2 ^ 28 + size_of q.pattern * 8193) 9216 (size_of q.target)
        (small_where (is_shared q.pattern p r) (λ m. pair_form q p m t) base (2 ^ 28) 8193 (size_of q.pattern) small (λ m. small_pair p m t)) (λ w. small_spread p r w) (omega (arith, few, less))
        (λ w stack w_in is. pushed look stack (spread w) (spread_form q p r w) (found w w_in is)))

    beside_made : (name : Name) (own : Ref) (p t r : ℕ) → IsPlace q p t r → look own ≡ Some (pair_form q p r t) → makes look (P name (beside_ops q own r)) ≡ Ok (beside_form q p t r)
    beside_made name own p t r place found = line_made look name (beside_ops q own r) (beside_form q p t r)
        (step look [] (pair_form q p r t ∷ []) (Push own) (Push (at_most_line q r) ∷ Add ∷ []) (pushed look [] own (pair_form q p r t) found)
        ∙ step look (pair_form q p r t ∷ []) (at_most q r ∷ pair_form q p r t ∷ []) (Push (at_most_line q r)) (Add ∷ []) (pushed look (pair_form q p r t ∷ []) (at_most_line q r) (at_most q r) (find_most r place.second))
        ∙ step look (at_most q r ∷ pair_form q p r t ∷ []) (beside_form q p t r ∷ []) Add [] (added look [] (pair_form q p r t) (at_most q r) 16385 (small_sum 8193 8192 (pair_form q p r t) (at_most q r) (small_pair p r t) (small_at_most r)) (omega arith)))

    near_made : (b : Option ℕ) (name : Name) (own : Ref) (p t r : ℕ) → IsPlace q p t r → has_block q b ≡ true → look own ≡ Some (pair_form q p r t)
        → makes look (P name (near_ops q b own t r)) ≡ Ok (near_form q b p t r)
    near_made b name own p t r place has found = line_made look name (near_ops q b own t r) (near_form q b p t r)
        (step look [] (pair_form q p r t ∷ []) (Push own) (Push (at_most_line q r) ∷ Add ∷ Push (block_line q b t) ∷ Add ∷ []) (pushed look [] own (pair_form q p r t) found)
        ∙ step look (pair_form q p r t ∷ []) (at_most q r ∷ pair_form q p r t ∷ []) (Push (at_most_line q r)) (Add ∷ Push (block_line q b t) ∷ Add ∷ []) (pushed look (pair_form q p r t ∷ []) (at_most_line q r) (at_most q r) (find_most r place.second))
        ∙ step look (at_most q r ∷ pair_form q p r t ∷ []) (beside_form q p t r ∷ []) Add (Push (block_line q b t) ∷ Add ∷ []) (added look [] (pair_form q p r t) (at_most q r) 16385 (small_beside p t r) (omega arith))
        ∙ step look (beside_form q p t r ∷ []) (at_most_in q b t ∷ beside_form q p t r ∷ []) (Push (block_line q b t)) (Add ∷ []) (pushed look (beside_form q p t r ∷ []) (block_line q b t) (at_most_in q b t) (find_block b t has place.place))
        ∙ step look (at_most_in q b t ∷ beside_form q p t r ∷ []) (near_form q b p t r ∷ []) Add [] (added look [] (beside_form q p t r) (at_most_in q b t) 17409 (small_near b p t r) (omega arith)))

    alone_made : (b : Option ℕ) (name : Name) (p t r : ℕ) → IsPlace q p t r → has_block q b ≡ true → makes look (P name (alone_ops q b t)) ≡ Ok (at_most_in q b t)
    alone_made b name p t r place has = line_made look name (alone_ops q b t) (at_most_in q b t) (step look [] (at_most_in q b t ∷ []) (Push (block_line q b t)) [] (pushed look [] (block_line q b t) (at_most_in q b t) (find_block b t has place.place)))

    joined_made : (name : Name) (own : Ref) (spread : ℕ → Ref) (p t r : ℕ) → IsPlace q p t r → look own ≡ Some (pair_form q p r t) → FindsSpread q look spread p t r
        → makes look (P name (joined_ops q own spread p t r)) ≡ Ok (joined_form q p t r)
    joined_made name own spread p t r place found spreads = line_made look name (joined_ops q own spread p t r) (joined_form q p t r)
        (runs_on look [] ((joined_base q p t r) ∷ []) (joined_form q p t r ∷ []) (Push (at_most_line q r) ∷ Times 2 ∷ Push own ∷ Add ∷ Times (weight q t) ∷ []) (around_ops q spread p t r)
        (step look [] ((at_most q r) ∷ []) (Push (at_most_line q r)) (Times 2 ∷ Push own ∷ Add ∷ Times (weight q t) ∷ []) (pushed look [] (at_most_line q r) (at_most q r) (find_most r place.second))
        ∙ step look ((at_most q r) ∷ []) (times_of 2 (at_most q r) ∷ []) (Times 2) (Push own ∷ Add ∷ Times (weight q t) ∷ []) (multiplied look [] 2 (at_most q r) 16384 (omega arith) (small_times 8192 2 (at_most q r) (small_at_most r)) (omega arith))
        ∙ step look (times_of 2 (at_most q r) ∷ []) ((pair_form q p r t) ∷ times_of 2 (at_most q r) ∷ []) (Push own) (Add ∷ Times (weight q t) ∷ []) (pushed look (times_of 2 (at_most q r) ∷ []) own (pair_form q p r t) found)
        ∙ step look ((pair_form q p r t) ∷ times_of 2 (at_most q r) ∷ []) (sum_of (times_of 2 (at_most q r)) (pair_form q p r t) ∷ []) Add (Times (weight q t) ∷ []) (added look [] (times_of 2 (at_most q r)) (pair_form q p r t) 24577 (small_sum 16384 8193 (times_of 2 (at_most q r)) (pair_form q p r t) (small_times 8192 2 (at_most q r) (small_at_most r)) (small_pair p r t)) (omega arith))
        ∙ step look (sum_of (times_of 2 (at_most q r)) (pair_form q p r t) ∷ []) ((joined_base q p t r) ∷ []) (Times (weight q t)) [] (multiplied look [] (weight q t) (sum_of (times_of 2 (at_most q r)) (pair_form q p r t)) (24577 * weight q t) (omega arith) (small_joined_base p t r) (let room = joined_room t in omega (arith, room))))
        (around_made spread p t r (joined_base q p t r) place spreads (small_more (24577 * weight q t) (2 ^ 28) (joined_base q p t r) (small_joined_base p t r) (joined_room t))))

    apart_made : (name : Name) (spread : ℕ → Ref) (p t r : ℕ) → IsPlace q p t r → is_injective q.maps ≡ true → FindsSpread q look spread p t r → makes look (P name (apart_ops q spread p t r)) ≡ Ok (apart_form q p t r)
    apart_made name spread p t r place inj spreads = line_made look name (apart_ops q spread p t r) (apart_form q p t r)
        (runs_on look [] ((apart_base q t r) ∷ []) (apart_form q p t r ∷ []) (Push (at_most_line q r) ∷ Push (target_line q t) ∷ Add ∷ Times (weight q t) ∷ []) (around_ops q spread p t r)
        (step look [] ((at_most q r) ∷ []) (Push (at_most_line q r)) (Push (target_line q t) ∷ Add ∷ Times (weight q t) ∷ []) (pushed look [] (at_most_line q r) (at_most q r) (find_most r place.second))
        ∙ step look ((at_most q r) ∷ []) ((at_most_target q t) ∷ (at_most q r) ∷ []) (Push (target_line q t)) (Add ∷ Times (weight q t) ∷ []) (pushed look ((at_most q r) ∷ []) (target_line q t) (at_most_target q t) (find_target t inj place.place))
        ∙ step look ((at_most_target q t) ∷ (at_most q r) ∷ []) (sum_of (at_most q r) (at_most_target q t) ∷ []) Add (Times (weight q t) ∷ []) (added look [] (at_most q r) (at_most_target q t) 9216 (small_sum 8192 1024 (at_most q r) (at_most_target q t) (small_at_most r) (small_target t)) (omega arith))
        ∙ step look (sum_of (at_most q r) (at_most_target q t) ∷ []) ((apart_base q t r) ∷ []) (Times (weight q t)) [] (multiplied look [] (weight q t) (sum_of (at_most q r) (at_most_target q t)) (9216 * weight q t) (omega arith) (small_apart_base t r) (let room = apart_room t in omega (arith, room))))
        (around_made spread p t r (apart_base q t r) place spreads (small_more (9216 * weight q t) (2 ^ 28) (apart_base q t r) (small_apart_base t r) (apart_room t))))

    spread_made : (name : Name) (p w r less : ℕ) → IsPlace q p w r → is_injective q.maps ≡ true → common q.pattern p r ≡ less + 1 → 0 < less → makes look (P name (spread_ops q p r w less)) ≡ Ok (spread_form q p r w)
    spread_made name p w r less place inj shares some = line_made look name (spread_ops q p r w less) (spread_form q p r w)
        (runs_on look [] (few_form q p r w ∷ []) (spread_form q p r w ∷ []) (Push (target_line q w) ∷ (others_ops q p r w)) ((Times less ∷ (backs_ops q p r w)) ++ Divide (less + 1) ∷ [])
        (step look [] (at_most_target q w ∷ []) (Push (target_line q w)) (others_ops q p r w) (pushed look [] (target_line q w) (at_most_target q w) (find_target w inj place.place))
        ∙ runs_where look (λ v. not (is_shared q.pattern p r v)) (λ v. Axiom (there q w v)) (λ v. axiom_form (there q w v)) (at_most_target q w) 1024 1 (size_of q.pattern) (small_target w) (λ v. small_there w v) (let few = plain.vertices_few in omega (arith, few)) (λ v stack v_in out. refl))
        (runs_on look (few_form q p r w ∷ []) (backs_form q p r w less ∷ []) (spread_form q p r w ∷ []) (Times less ∷ (backs_ops q p r w)) (Divide (less + 1) ∷ [])
        (step look (few_form q p r w ∷ []) (times_of less (few_form q p r w) ∷ []) (Times less) (backs_ops q p r w) (multiplied look [] less (few_form q p r w) (2048 * less) some small_times_few (let room = less_few in omega (arith, room)))
        ∙ runs_where look (is_shared q.pattern p r) (λ m. Push (edge_line q m r w)) (λ m. pair_form q m r w) (times_of less (few_form q p r w)) (2048 * less) 8193 (size_of q.pattern) small_times_few (λ m. small_pair m r w)
        (let room = less_few in let few = plain.vertices_few in omega (arith, room, few))
        (λ m stack m_in is. pushed look stack (edge_line q m r w) (pair_form q m r w) (find_second p r m w place.second m_in place.place is)))
        (step look (backs_form q p r w less ∷ []) (spread_form q p r w ∷ []) (Divide (less + 1)) []
        (divided look [] (less + 1) (backs_form q p r w less) (spread_form q p r w) 9216 (omega arith) (spread_exact q p r w less place shares some) (small_spread p r w) (omega arith)))))
      where
        less_few : less ≤ 1024
        less_few = let c = count_few (is_shared q.pattern p r) (size_of q.pattern) in let few = plain.vertices_few in let e : count (is_shared q.pattern p r) (size_of q.pattern) ≡ less + 1 = shares in omega (arith, c, few, e)

        small_times_few : IsSmall (2048 * less) (times_of less (few_form q p r w))
        small_times_few = small_times 2048 less (few_form q p r w) (small_few p r w)

    two_made : (name : Name) (clause : Ref) (m n p w r : ℕ) → IsPlace q p w r → AreTwoShared q.pattern p r m n → look clause ≡ Some (not_both_form q m n w) → makes look (P name (two_ops q clause p r w)) ≡ Ok (spread_form q p r w)
    two_made name clause m n p w r place two found = line_made look name (two_ops q clause p r w) (spread_form q p r w)
        (step look [] (few_form q p r w ∷ []) (Push clause) (backs_ops q p r w ++ Divide 2 ∷ [])
        (pushed look [] clause (few_form q p r w) (found ∙ ap (λ (f : Form). let o : Option Form = Some f in o) (sym (few_two q p r m n w two))))
        ∙ runs_on look (few_form q p r w ∷ []) (backs ∷ []) (spread_form q p r w ∷ []) (backs_ops q p r w) (Divide 2 ∷ [])
        (runs_where look (is_shared q.pattern p r) (λ m. Push (edge_line q m r w)) (λ m. pair_form q m r w) (few_form q p r w) 2048 8193 (size_of q.pattern) (small_few p r w) (λ m. small_pair m r w)
        (let few = plain.vertices_few in omega (arith, few))
        (λ m stack m_in is. pushed look stack (edge_line q m r w) (pair_form q m r w) (find_second p r m w place.second m_in place.place is)))
        (step look (backs ∷ []) (spread_form q p r w ∷ []) (Divide 2) [] (divided look [] 2 backs (spread_form q p r w) 9216 (omega arith) (two_exact q p r m n w place two) (small_spread p r w) (omega arith))))
      where
        backs : Form
        backs = sum_where (is_shared q.pattern p r) (λ m. pair_form q m r w) (few_form q p r w) (size_of q.pattern)

    both_made : (name : Name) (clause : Ref) (p t r : ℕ) → IsPlace q p t r → look clause ≡ Some (consistent_clause q p t r) → makes look (P name (beside_ops q clause r)) ≡ Ok (consistent_form q p t r)
    both_made name clause p t r place found = line_made look name (beside_ops q clause r) (consistent_form q p t r)
        (step look [] (consistent_clause q p t r ∷ []) (Push clause) (Push (at_most_line q r) ∷ Add ∷ []) (pushed look [] clause (consistent_clause q p t r) found)
        ∙ step look (consistent_clause q p t r ∷ []) (at_most q r ∷ consistent_clause q p t r ∷ []) (Push (at_most_line q r)) (Add ∷ []) (pushed look (consistent_clause q p t r ∷ []) (at_most_line q r) (at_most q r) (find_most r place.second))
        ∙ step look (at_most q r ∷ consistent_clause q p t r ∷ []) (consistent_form q p t r ∷ []) Add [] (added look [] (consistent_clause q p t r) (at_most q r) 16385 (small_both p t r) (omega arith)))

    row_makes : RowMakes q look
    row_makes = record {
      beside = beside_made;
      near = near_made;
      alone = alone_made;
      joined = joined_made;
      apart = apart_made;
      spread = spread_made;
      not_both = λ name m n w inj order n_in w_in. not_both_made q m n w order w_in n_in look name (find_target w inj w_in);
      two = two_made;
      clause = λ name out back first second p t r place found takes again takes_too. clause_made q p t r place look name out back first second found takes again takes_too (find_least r place.second);
      both = both_made;
      one_spread = λ m p w r place m_in one is. find_second p r m w place.second m_in place.place is ∙ ap (λ (f : Form). let o : Option Form = Some f in o) (one_alone q m p r w m_in one is);
      edge = λ p t r place is. find_edge p r t place.first place.second place.place is;
      non_edge = λ p t r place is. finds.line (non_edge_place q p r t) (pair_form q p r t) ((place_laws q).non_edge p r t place.first place.second place.place is);
    }

  pub row_laws : RowLaws q
  row_laws = record { asked = asked_laws q; forces = row_forces q; edges = edge_forces q; serves = row_serves q; makes = row_makes; sizes = row_sizes }
