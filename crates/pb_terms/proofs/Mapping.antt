-- The steps of the loops that change each coefficient.
use Rattle.std.proofs.Common.{◌≡◌, ℕ, ◌+◌, ◌<◌, min, List, [], ◌∷◌, ◌++◌, length, get_or, drop, map, ℤ, sym, ap, ◌∙◌, unsigned_abs}
use Rattle.std.proofs.lemmas.List.{drop_more}
use Rattle.proof_theory.specs.Forms.{keep}
use Rattle.proof_theory.specs.Rules.{cut, signed}
use Rattle.pb_terms.proofs.Fronts.{keep_front}
use Rattle.pb_terms.proofs.Combining.{none, pushed}

-- One more term is changed and pushed.
pub mapped_more : (f : ℕ × ℤ → ℕ × ℤ) (out ts made : List (ℕ × ℤ)) (i : ℕ) (x : ℕ × ℤ) → i < length ts → x ≡ f (get_or ts i none) → out ++ map f (drop i ts) ≡ made → (out ++ x ∷ []) ++ map f (drop (i + 1) ts) ≡ made
mapped_more f out ts made i x h e m =
    pushed out (x ∷ []) (map f (drop (i + 1) ts)) made
    (ap (λ (y : ℕ × ℤ). out ++ (y ∷ map f (drop (i + 1) ts))) e ∙ ap (λ (us : List (ℕ × ℤ)). out ++ map f us) (sym (drop_more ts i none h)) ∙ m)

-- One more term is cut and pushed, unless it is zero.
pub cut_more : (d : ℕ) (out ts made : List (ℕ × ℤ)) (i : ℕ) → i < length ts → out ++ cut d (drop i ts) ≡ made → (out ++ keep (get_or ts i none).0 (signed (get_or ts i none).1 (min (unsigned_abs (get_or ts i none).1) d)) []) ++ cut d (drop (i + 1) ts) ≡ made
cut_more d out ts made i h m =
    pushed out _ (cut d (drop (i + 1) ts)) made
    (ap (λ (us : List (ℕ × ℤ)). out ++ us) (sym (keep_front (get_or ts i none).0 (signed (get_or ts i none).1 (min (unsigned_abs (get_or ts i none).1) d)) (cut d (drop (i + 1) ts))) ∙ ap (cut d) (sym (drop_more ts i none h))) ∙ m)

-- Terms of one variable are the same where their coefficients are.
pub same_term : (v : ℕ) (x y : ℤ) → x ≡ y → let p : ℕ × ℤ = (v, x) in let q : ℕ × ℤ = (v, y) in p ≡ q
same_term v x y e = ap (λ (c : ℤ). let p : ℕ × ℤ = (v, c) in p) e
