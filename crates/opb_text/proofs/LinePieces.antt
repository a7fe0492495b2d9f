-- The text of a line from the pieces that are put.
use Rattle.std.proofs.Common.{◌≡◌, ℕ, List, [], ◌∷◌, ◌++◌, ℤ, refl, sym, ap, ◌∙◌, append_assoc}
use Rattle.std.specs.Fmt.{decimal, signed_decimal}
use Rattle.std.specs.List.{flat_map}
use Rattle.std.proofs.lemmas.List.{append-nil}
use lib.Chars.{codes}
use Rattle.log_theory.specs.Words.{joined, line_text}
use Rattle.log_theory.specs.OpbText.{head_words, coefficient_word, term_words}
use Rattle.opb_text.specs.Pieces.{term_text, end_text}

around : (a x b : List ℕ) → a ++ x ++ b ++ 10 ∷ [] ≡ (a ++ (x ++ (b ++ []))) ++ 10 ∷ []
around a x b = ap (λ (t : List ℕ). t ++ 10 ∷ []) (append_assoc a x b ∙ ap (λ (t : List ℕ). a ++ (x ++ t)) (sym (append-nil b)))

-- The pieces of the first line, as they are put.
pub head_pieces : (n m : ℕ) (a b : List ℕ) → a ≡ decimal n → b ≡ decimal m
    → codes "* #variable= " ++ a ++ codes " #constraint= " ++ b ++ 10 ∷ [] ≡ line_text (head_words n m)
head_pieces n m a b p q =
    ap (λ (x : List ℕ). codes "* #variable= " ++ x ++ codes " #constraint= " ++ b ++ 10 ∷ []) p
    ∙ ap (λ (x : List ℕ). codes "* #variable= " ++ decimal n ++ codes " #constraint= " ++ x ++ 10 ∷ []) q
    ∙ ap (λ (t : List ℕ). codes "* #variable= " ++ t) (around (decimal n) (codes " #constraint= ") (decimal m))

-- The words after the terms.
abbrev end_words : ℤ → List (List ℕ)
end_words b = codes ">=" ∷ signed_decimal b ∷ codes ";" ∷ []

regrouped : (c v j e : List ℕ) → (c ++ codes " x" ++ v ++ codes " ") ++ (j ++ e) ≡ (c ++ (codes " x" ++ v ++ 32 ∷ j)) ++ e
regrouped c v j e =
    append_assoc (c ++ codes " x" ++ v) (codes " ") (j ++ e)
    ∙ append_assoc (c ++ codes " x") v (32 ∷ (j ++ e))
    ∙ append_assoc c (codes " x") (v ++ 32 ∷ (j ++ e))
    ∙ ap (λ (t : List ℕ). c ++ (codes " x" ++ t)) (sym (append_assoc v (32 ∷ j) e))
    ∙ sym (append_assoc c (codes " x" ++ v ++ 32 ∷ j) e)

tail_joined : (ts : List (ℕ × ℤ)) (b : ℤ) → flat_map (λ v. 32 ∷ v) (term_words ts ++ end_words b) ≡ 32 ∷ joined (term_words ts ++ end_words b)
tail_joined [] b = refl
tail_joined (t ∷ ts) b = refl

-- The pieces of a constraint's line, as they are put.
pub line_pieces : (ts : List (ℕ × ℤ)) (b : ℤ) → flat_map term_text ts ++ end_text b ≡ line_text (term_words ts ++ end_words b)
line_pieces [] b = refl
line_pieces (t ∷ ts) b =
    let rest = line_pieces ts b in
    let tail = tail_joined ts b in
    append_assoc (term_text t) (flat_map term_text ts) (end_text b)
    ∙ ap (λ (l : List ℕ). term_text t ++ l) rest
    ∙ regrouped (coefficient_word t.1) (decimal t.0) (joined (term_words ts ++ end_words b)) (10 ∷ [])
    ∙ ap (λ (l : List ℕ). (coefficient_word t.1 ++ (codes " x" ++ decimal t.0 ++ l)) ++ 10 ∷ []) (sym tail)
