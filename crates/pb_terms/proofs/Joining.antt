-- Terms that stand one behind the other, as the sum of both.
use Rattle.std.proofs.Common.{◌≡◌, ℕ, ◌+◌, ◌≤◌, ◌^◌, List, [], ◌∷◌, ◌++◌, ℤ, ◌+ℤ◌, sym, ap, ◌∙◌, subst, arith, unsigned_abs, to_z, of_z}
use Rattle.std.specs.Int.{w128}
use Rattle.std.proofs.lemmas.Int.{ints}
use Rattle.proof_theory.specs.Forms.{Form, IsNarrow, Narrow, Rises, coefficient, form_of, size, sorted}
use Rattle.proof_theory.specs.Rules.{sum_of}
use Rattle.proof_theory.proofs.Sorting.{Rises-sorted, coefficient-sorted, coefficient-append, same_terms}
use Rattle.pb_terms.proofs.Fronts.{sorted_rising}
use Rattle.pb_terms.proofs.Ruled.{exact, same_form, size-sorted}

-- A sum of sorted terms is the sum of the terms.
pub sums_sorted : (xs ys : List (ℕ × ℤ)) → sorted (sorted xs ++ sorted ys) ≡ sorted (xs ++ ys)
sums_sorted xs ys = same_terms 0 (sorted (sorted xs ++ sorted ys)) (sorted (xs ++ ys)) (Rises-sorted (sorted xs ++ sorted ys)) (Rises-sorted (xs ++ ys)) there
  where
    there : (v : ℕ) → coefficient (sorted (sorted xs ++ sorted ys)) v ≡ coefficient (sorted (xs ++ ys)) v
    there v =
        let a = coefficient-sorted (sorted xs ++ sorted ys) v in
        let b = coefficient-append (sorted xs) (sorted ys) v in
        let c = coefficient-sorted xs v in
        let d = coefficient-sorted ys v in
        let e = coefficient-append xs ys v in
        let f = coefficient-sorted (xs ++ ys) v in
        omega (arith, ints)

-- It does not matter which terms stand first.
pub sums_swapped : (xs ys : List (ℕ × ℤ)) → sorted (ys ++ xs) ≡ sorted (xs ++ ys)
sums_swapped xs ys = same_terms 0 (sorted (ys ++ xs)) (sorted (xs ++ ys)) (Rises-sorted (ys ++ xs)) (Rises-sorted (xs ++ ys)) there
  where
    there : (v : ℕ) → coefficient (sorted (ys ++ xs)) v ≡ coefficient (sorted (xs ++ ys)) v
    there v =
        let a = coefficient-sorted (ys ++ xs) v in
        let b = coefficient-append ys xs v in
        let c = coefficient-append xs ys v in
        let d = coefficient-sorted (xs ++ ys) v in
        omega (arith, ints)

pub size-append : (xs ys : List (ℕ × ℤ)) → size (xs ++ ys) ≡ size xs + size ys
size-append [] ys = omega arith
size-append (t ∷ xs) ys = let h = size-append xs ys in omega arith

-- The same where the second list is lent.
pub size_joined : (xs ys zs made : List (ℕ × ℤ)) → made ≡ xs ++ ys → ys ≡ zs → size made ≡ size xs + size zs
size_joined xs ys zs made e f = ap size e ∙ size-append xs ys ∙ ap (λ (ts : List (ℕ × ℤ)). size xs + size ts) f

-- A copy of terms that rise, with their bound in i128, is the form of these terms.
pub copied : (vs ts us : List (ℕ × ℤ)) (b d : ℤ) → vs ≡ ts → ts ≡ us → b ≡ d → Rises 0 ts → IsNarrow ts b → let f : Form = record { terms = us; bound = d } in form_of vs (to_z w128 (of_z w128 b)) ≡ f
copied vs ts us b d e k l r n =
    let h = n.bound_fits in
    same_form (sorted vs) us (to_z w128 (of_z w128 b)) d (ap sorted e ∙ sorted_rising ts r ∙ k) (exact b (omega arith) ∙ l)

-- The sum of two narrow bounds is exact in i128.
pub exact_sum : (b d : ℤ) → unsigned_abs b ≤ 2 ^ 125 → unsigned_abs d ≤ 2 ^ 125 → to_z w128 (of_z w128 (to_z w128 (of_z w128 b) +ℤ to_z w128 (of_z w128 d))) ≡ b +ℤ d
exact_sum b d h k = omega (arith, ints)

-- Terms that sort as those of two forms one behind the other, and weigh no more than both, are the narrow sum of the forms.
pub summed : (xs ys made : List (ℕ × ℤ)) (b d e : ℤ) (f g : Form) → form_of xs b ≡ f → form_of ys d ≡ g → sorted made ≡ sorted (xs ++ ys) → size xs + size ys ≤ 2 ^ 125 → e ≡ b +ℤ d → unsigned_abs (b +ℤ d) ≤ 2 ^ 125 → (form_of made e ≡ sum_of f g) × Narrow (sum_of f g)
summed xs ys made b d e f g first second same fits bound small =
    subst (λ (x : Form). (form_of made e ≡ sum_of x g) × Narrow (sum_of x g)) first
    (subst (λ (y : Form). (form_of made e ≡ sum_of (form_of xs b) y) × Narrow (sum_of (form_of xs b) y)) second (sums, narrow))
  where
    sums : form_of made e ≡ sum_of (form_of xs b) (form_of ys d)
    sums = same_form (sorted made) (sorted (sorted xs ++ sorted ys)) e (b +ℤ d) (same ∙ sym (sums_sorted xs ys)) bound

    narrow : Narrow (sum_of (form_of xs b) (form_of ys d))
    narrow =
        let h = ap size (sums_sorted xs ys) in
        let k = size-sorted (xs ++ ys) in
        let l = size-append xs ys in
        record { bound_fits = small; sum_fits = omega arith }
