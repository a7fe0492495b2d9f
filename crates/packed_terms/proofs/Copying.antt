-- Terms that are copied one by one.
use Rattle.std.proofs.Common.{◌≡◌, ℕ, ◌+◌, ◌<◌, List, [], ◌∷◌, ◌++◌, length, get_or, drop, ℤ, sym, ap, ◌∙◌}
use Rattle.std.proofs.lemmas.List.{drop_more, append_assoc}
use Rattle.proof_theory.specs.Forms.{Form, Rises, form_of, sorted}
use Rattle.pb_terms.proofs.Combining.{none}
use Rattle.pb_terms.proofs.Fronts.{sorted_rising}
use Rattle.pb_terms.proofs.Ruled.{same_form}

-- One more term is copied.
pub copied_more : (out ts : List (ℕ × ℤ)) (i : ℕ) (x : ℕ × ℤ) → i < length ts → x ≡ get_or ts i none → out ++ drop i ts ≡ ts → (out ++ x ∷ []) ++ drop (i + 1) ts ≡ ts
copied_more out ts i x h e m =
    append_assoc out (x ∷ []) (drop (i + 1) ts)
    ∙ ap (λ (y : ℕ × ℤ). out ++ (y ∷ drop (i + 1) ts)) e
    ∙ ap (λ (us : List (ℕ × ℤ)). out ++ us) (sym (drop_more ts i none h))
    ∙ m

-- A copy of terms that rise, with their bound, is the form of these terms.
pub copied_form : (vs ts us : List (ℕ × ℤ)) (b d : ℤ) → vs ≡ ts → ts ≡ us → b ≡ d → Rises 0 ts → let f : Form = record { terms = us; bound = d } in form_of vs b ≡ f
copied_form vs ts us b d e k l r = same_form (sorted vs) us b d (ap sorted e ∙ sorted_rising ts r ∙ k) l
