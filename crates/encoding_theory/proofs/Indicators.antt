-- The 0/1 list of a map: how long it is, what stands at each place, and that no other list says the same.

use Rattle.std.proofs.Common.{◌≡◌, ℕ, zero, suc, ◌+◌, ◌*◌, ◌/◌, ◌%◌, ◌<◌, Bool, false, ◌==◌, List, length, slice_index, slice_get, get_or, Some, sym, subst, ap, ◌∙◌, arith, length-append}
use Rattle.std.proofs.Math.Nat.{mod-lt, div-lt_iff_lt-mul, suc-mul, mul-zero}
use Rattle.std.proofs.lemmas.Nat.{div-add-mod'}
use Rattle.std.proofs.lemmas.List.{ext_get_or}
use Rattle.std.proofs.lemmas.List.FromFn.{length-map-range_with_len}
use Rattle.std.proofs.lemmas.Option.{get_or_from_slice_get}
use Rattle.graph_theory.specs.Graph.{size}
use Rattle.graph_theory.specs.Embedding.{Problem}
use Rattle.graph_theory.proofs.Tables.{slice_get-tabulate}
use Rattle.proof_theory.specs.Forms.{assignment}
use Rattle.encoding_theory.specs.Variables.{variable, variables, collect, image_row, indicator}
use Rattle.encoding_theory.proofs.Collected.{get-collect}

-- parts of one length
pub length-collect : {X : Type 0} (f : ℕ → List X) (n w : ℕ) → ((i : ℕ) → length (f i) ≡ w) → length (collect f n) ≡ n * w
length-collect f zero w each = let e : 0 * w ≡ 0 = omega arith in sym e
length-collect f (suc n) w each =
    let h = length-collect f n w each in
    let e = length-append (collect f n) (f n) in
    let k = each n in
    let m = suc-mul n w in
    omega arith

length-image_row : (q : Problem) (m : List ℕ) (p : ℕ) → length (image_row q m p) ≡ size q.target
length-image_row q m p = length-map-range_with_len (λ t. slice_index m p == t) 0 (size q.target)

-- as many places as there are variables
pub length-indicator : (q : Problem) (m : List ℕ) → length (indicator q m) ≡ variables q
length-indicator q m = length-collect (image_row q m) (size q.pattern) (size q.target) (length-image_row q m)

-- what stands at the place of p and t
indicator_at : (q : Problem) (m : List ℕ) (p t : ℕ) → p < size q.pattern → t < size q.target
    → slice_get (indicator q m) (p * size q.target + t) ≡ Some (slice_index m p == t)
indicator_at q m p t p_in t_in =
    ap (λ (i : ℕ). slice_get (indicator q m) (i + t)) (sym (length-collect (image_row q m) p (size q.target) (length-image_row q m)))
    ∙ get-collect (image_row q m) (size q.pattern) p t (slice_index m p == t) p_in
    (slice_get-tabulate (size q.target) (λ (u : ℕ). slice_index m p == u) t t_in)

-- a variable's value is what stands at the place before its number
assignment_at : (a : List Bool) (i : ℕ) → assignment a (i + 1) ≡ get_or a i false
assignment_at a i = let e : i + 1 ≡ suc i = omega arith in ap (assignment a) e

-- the variable of p and t is true exactly where p goes to t
pub indicator_ones : (q : Problem) (m : List ℕ) (p t : ℕ) → p < size q.pattern → t < size q.target
    → assignment (indicator q m) (variable q p t) ≡ (slice_index m p == t)
indicator_ones q m p t p_in t_in =
    assignment_at (indicator q m) (p * size q.target + t)
    ∙ get_or_from_slice_get (indicator q m) (p * size q.target + t) (slice_index m p == t) false (indicator_at q m p t p_in t_in)

-- a number below a product has a quotient and a remainder in range
pub in_rows : (n w i : ℕ) → i < n * w → (i / w < n) × (i % w < w)
in_rows n zero i h = absurd (let e = mul-zero n in omega arith)
in_rows n (suc w) i h = let some : 0 < suc w = omega arith in ((div-lt_iff_lt-mul some).1 h, mod-lt i some)

-- a list that says the same of each variable is this one
pub indicator_alone : (q : Problem) (m : List ℕ) (a : List Bool) → length a ≡ variables q
    → ((p t : ℕ) → p < size q.pattern → t < size q.target → assignment a (variable q p t) ≡ (slice_index m p == t)) → a ≡ indicator q m
indicator_alone q m a long same = ext_get_or false a (indicator q m) (long ∙ sym (length-indicator q m)) (λ i low. at i (subst (λ (n : ℕ). i < n) long low))
  where
    at : (i : ℕ) → i < variables q → get_or a i false ≡ get_or (indicator q m) i false
    at i low =
        let r = in_rows (size q.pattern) (size q.target) i low in
        let e : i / size q.target * size q.target + i % size q.target ≡ i = div-add-mod' i (size q.target) in
        let s : assignment a (variable q (i / size q.target) (i % size q.target)) ≡ assignment (indicator q m) (variable q (i / size q.target) (i % size q.target)) =
        same (i / size q.target) (i % size q.target) r.0 r.1 ∙ sym (indicator_ones q m (i / size q.target) (i % size q.target) r.0 r.1) in
        let both : assignment a (i + 1) ≡ assignment (indicator q m) (i + 1) =
        subst (λ (k : ℕ). assignment a (k + 1) ≡ assignment (indicator q m) (k + 1)) e s in
        sym (assignment_at a i) ∙ both ∙ assignment_at (indicator q m) i
