-- The form of a set is the same in whatever order its vertices come.
use Rattle.std.proofs.Common.{◌≡◌, ℕ, true, Option, List, [], ◌∷◌, ◌++◌, ℤ, ◌+ℤ◌, refl, sym, ap, ◌∙◌, arith}
use Rattle.std.specs.Prelude.{map}
use Rattle.std.specs.List.Sorted.{IsPermutation}
use Rattle.std.proofs.lemmas.Int.{ints}
use Rattle.std.proofs.lemmas.List.Sorted.{IsPermutation-map, IsPermutation-append_left}
use Rattle.graph_theory.specs.Embedding.{Problem}
use Rattle.proof_theory.specs.Forms.{Form, coefficient, value, Rises, sorted}
use Rattle.proof_theory.specs.Rules.{sum_of}
use Rattle.proof_theory.proofs.Sorting.{value-sorted, coefficient-sorted, coefficient-append, Rises-sorted, same_terms}
use Rattle.pb_terms.proofs.Ruled.{sorted_permuted, same_form}
use Rattle.encoding_theory.specs.Encoding.{at_least, at_most_in}
use Rattle.forcing_theory.specs.Sums.{sum_from}
use Rattle.explanation_theory.specs.Reasons.{at_leasts, set_form}

-- ---- sums over forms

-- A measure of forms, each beside the number 0, and the sum of these.
abbrev beside : (Form → ℤ) → Form → ℕ × ℤ
beside h f = (0, h f)

abbrev sum_by : (Form → ℤ) → List Form → ℤ
sum_by h fs = value (λ n. true) (map (beside h) fs)

sum_permuted : (h : Form → ℤ) (fs gs : List Form) → IsPermutation fs gs → sum_by h gs ≡ sum_by h fs
sum_permuted h fs gs same =
    sym (value-sorted (λ n. true) (map (beside h) gs)) ∙ ap (value (λ n. true)) (sorted_permuted (map (beside h) fs) (map (beside h) gs) (IsPermutation-map (beside h) fs gs same))
    ∙ value-sorted (λ n. true) (map (beside h) fs)

-- ---- what a sum of forms says

abbrev at_variable : ℕ → Form → ℤ
at_variable v f = coefficient f.terms v

regroup : (a b c d : ℤ) → d ≡ a +ℤ b → d +ℤ c ≡ a +ℤ (b +ℤ c)
regroup a b c d is = omega (arith, ints)

coefficient_sum : (f : Form) (gs : List Form) (v : ℕ) → coefficient (sum_from f gs).terms v ≡ sum_by (at_variable v) (f ∷ gs)
coefficient_sum f [] v = omega (arith, ints)
coefficient_sum f (g ∷ gs) v =
    coefficient_sum (sum_of f g) gs v
    ∙ regroup (coefficient f.terms v) (coefficient g.terms v) (sum_by (at_variable v) gs) (coefficient (sorted (f.terms ++ g.terms)) v)
    (coefficient-sorted (f.terms ++ g.terms) v ∙ coefficient-append f.terms g.terms v)

bound_sum : (f : Form) (gs : List Form) → (sum_from f gs).bound ≡ sum_by (λ h. h.bound) (f ∷ gs)
bound_sum f [] = omega (arith, ints)
bound_sum f (g ∷ gs) = bound_sum (sum_of f g) gs ∙ regroup f.bound g.bound (sum_by (λ h. h.bound) gs) (f.bound +ℤ g.bound) refl

rises_sum : (f : Form) (gs : List Form) → Rises 0 f.terms → Rises 0 (sum_from f gs).terms
rises_sum f [] rises = rises
rises_sum f (g ∷ gs) rises = rises_sum (sum_of f g) gs (Rises-sorted (f.terms ++ g.terms))

-- Forms in another order have the same sum.
sum_same : (f g : Form) (fs gs : List Form) → Rises 0 f.terms → Rises 0 g.terms → IsPermutation (f ∷ fs) (g ∷ gs) → sum_from g gs ≡ sum_from f fs
sum_same f g fs gs rises also same =
    same_form (sum_from g gs).terms (sum_from f fs).terms (sum_from g gs).bound (sum_from f fs).bound
    (same_terms 0 (sum_from g gs).terms (sum_from f fs).terms (rises_sum g gs also) (rises_sum f fs rises)
    (λ v. coefficient_sum g gs v ∙ sum_permuted (at_variable v) (f ∷ fs) (g ∷ gs) same ∙ sym (coefficient_sum f fs v)))
    (bound_sum g gs ∙ sum_permuted (λ h. h.bound) (f ∷ fs) (g ∷ gs) same ∙ sym (bound_sum f fs))

pub set_form_same : (q : Problem) (b : Option ℕ) (p r : ℕ) (rest others values : List ℕ) → IsPermutation (p ∷ rest) (r ∷ others) → set_form q b r others values ≡ set_form q b p rest values
set_form_same q b p r rest others values same =
    sum_same (at_least q p) (at_least q r) (at_leasts q rest ++ map (at_most_in q b) values) (at_leasts q others ++ map (at_most_in q b) values) (Rises-sorted _) (Rises-sorted _)
    (IsPermutation-append_left (map (at_most_in q b) values) (at_leasts q (p ∷ rest)) (at_leasts q (r ∷ others)) (IsPermutation-map (at_least q) (p ∷ rest) (r ∷ others) same))
