-- Pieces of a text, from its front.
use Rattle.std.proofs.Common.{◌≡◌, ℕ, ◌+◌, ◌-◌, ◌<◌, ◌≤◌, Bool, true, false, cond, ◌==◌, ◌&&◌, List, [], ◌∷◌, ◌++◌, length, take, drop, get_or, refl, sym, ap, ◌∙◌, append_assoc, length-drop, eq-eqb, Option, Some, None, MatchOption, arith}
use Rattle.std.specs.Borrow.{Bor}
use Rattle.std.proofs.lemmas.Bool.{and_parts, eqb-true}
use Rattle.std.proofs.lemmas.List.{take_more, drop_more, take_all, drop_all, append-nil}
use Rattle.log_theory.specs.Words.{into_first, pieces, same_word}
use Rattle.proof_log.specs.Pieces.{none_left, pieces_left, first_is}

-- Bytes in front of the first of some pieces.
abbrev pub onto_first : List ℕ → List (List ℕ) → List (List ℕ)
onto_first front [] = front ∷ []
onto_first front (w ∷ ws) = (front ++ w) ∷ ws

-- The pieces of a text, where its first bytes cut nothing.
abbrev pub IsUncut : ℕ → List ℕ → ℕ → Type 0
IsUncut separator text i = pieces (λ b. b == separator) text ≡ onto_first (take i text) (pieces (λ b. b == separator) (drop i text))

onto_none : (s : ℕ) (text : List ℕ) → pieces (λ b. b == s) text ≡ onto_first [] (pieces (λ b. b == s) text)
onto_none s [] = refl
onto_none s (b ∷ bs) = by (b == s) (pieces (λ b. b == s) bs)
  where
    by : (x : Bool) (ps : List (List ℕ)) → cond x ([] ∷ ps) (into_first b ps) ≡ onto_first [] (cond x ([] ∷ ps) (into_first b ps))
    by true ps = refl
    by false [] = refl
    by false (p ∷ ps) = refl

pub uncut_first : (s : ℕ) (text : List ℕ) → IsUncut s text 0
uncut_first s text = onto_none s text

onto_into : (front : List ℕ) (b : ℕ) (ps : List (List ℕ)) → onto_first front (into_first b ps) ≡ onto_first (front ++ b ∷ []) ps
onto_into front b [] = refl
onto_into front b (p ∷ ps) = ap (λ (w : List ℕ). w ∷ ps) (sym (append_assoc front (b ∷ []) p))

-- A byte more that cuts nothing.
pub uncut_more : (s : ℕ) (text : List ℕ) (i : ℕ) → i < length text → (get_or text i 0 == s) ≡ false → IsUncut s text i → IsUncut s text (i + 1)
uncut_more s text i i_in e h =
    h ∙ ap (λ (t : List ℕ). onto_first (take i text) (pieces (λ b. b == s) t)) (drop_more text i 0 i_in)
    ∙ ap (λ (x : Bool). onto_first (take i text) (cond x ([] ∷ pieces (λ b. b == s) (drop (i + 1) text)) (into_first (get_or text i 0) (pieces (λ b. b == s) (drop (i + 1) text))))) e
    ∙ onto_into (take i text) (get_or text i 0) (pieces (λ b. b == s) (drop (i + 1) text))
    ∙ ap (λ (t : List ℕ). onto_first t (pieces (λ b. b == s) (drop (i + 1) text))) (sym (take_more text i 0 i_in))

-- What follows a byte.
suffix : (text : List ℕ) (i : ℕ) → drop i text ≡ take (length text - i) (drop i text)
suffix text i = sym (take_all (length text - i) (drop i text) (omega (arith, length-drop i text)))

-- A byte that ends the first piece.
pub cut_at : (s : ℕ) (text : List ℕ) (i : ℕ) → i < length text → get_or text i 0 ≡ s → IsUncut s text i
    → pieces (λ b. b == s) text ≡ take i text ∷ pieces (λ b. b == s) (take (length text - (i + 1)) (drop (i + 1) text))
cut_at s text i i_in e h =
    h ∙ ap (λ (t : List ℕ). onto_first (take i text) (pieces (λ b. b == s) t)) (drop_more text i 0 i_in)
    ∙ ap (λ (x : Bool). onto_first (take i text) (cond x ([] ∷ pieces (λ b. b == s) (drop (i + 1) text)) (into_first (get_or text i 0) (pieces (λ b. b == s) (drop (i + 1) text))))) (eq-eqb _ _ e)
    ∙ ap (λ (t : List ℕ). t ∷ pieces (λ b. b == s) (drop (i + 1) text)) (append-nil (take i text))
    ∙ ap (λ (t : List ℕ). take i text ∷ pieces (λ b. b == s) t) (suffix text (i + 1))

-- A text that nothing cuts.
pub whole : (s : ℕ) (text : List ℕ) (i : ℕ) → length text ≤ i → IsUncut s text i → pieces (λ b. b == s) text ≡ text ∷ []
whole s text i e h =
    h ∙ ap (λ (t : List ℕ). onto_first (take i text) (pieces (λ b. b == s) t)) (drop_all i text e)
    ∙ ap (λ (t : List ℕ). t ∷ []) (append-nil (take i text) ∙ take_all i text e)

-- A text has a piece.
pub some_piece : (s : ℕ) (text : List ℕ) → none_left (pieces (λ b. b == s) text) ≡ false
some_piece s [] = refl
some_piece s (b ∷ bs) = by (b == s) (pieces (λ b. b == s) bs)
  where
    by : (x : Bool) (ps : List (List ℕ)) → none_left (cond x ([] ∷ ps) (into_first b ps)) ≡ false
    by true ps = refl
    by false [] = refl
    by false (p ∷ ps) = refl

and_false : (x : Bool) → false ≡ (x && false)
and_false true = refl
and_false false = refl

-- A word of two bytes or more is no single byte.
pub longer_word : (w : List ℕ) (b : ℕ) → 2 ≤ length w → false ≡ same_word w (b ∷ [])
longer_word [] b h = absurd (omega arith)
longer_word (x ∷ []) b h = absurd (omega arith)
longer_word (x ∷ y ∷ ys) b h = and_false (x == b)

-- Where a rest is left, a piece is.
pub some_left : (s : ℕ) (rest : Option (Bor (List ℕ))) (text : Bor (List ℕ)) → rest ≡ Some text → none_left (pieces_left s rest) ≡ false
some_left s rest text e = ap (λ (r : Option (Bor (List ℕ))). none_left (pieces_left s r)) e ∙ some_piece s text.now

-- Words that are the same.
pub same_word-same : (w v : List ℕ) → same_word w v ≡ true → w ≡ v
same_word-same [] [] e = refl
same_word-same [] (b ∷ bs) e = cc
same_word-same (x ∷ xs) [] e = cc
same_word-same (x ∷ xs) (b ∷ bs) e =
    let p = and_parts (x == b) (same_word xs bs) e in
    ap (λ (y : ℕ). y ∷ xs) (eqb-true x b p.0) ∙ ap (λ (ys : List ℕ). b ∷ ys) (same_word-same xs bs p.1)

-- The piece that was taken is the one that was seen.
pub took_seen : (ws rest : List (List ℕ)) (b : ℕ) (r : Option (Bor (List ℕ))) → MatchOption r ((ws ≡ []) × (rest ≡ [])) (λ p. ws ≡ p.now ∷ rest) → first_is (b ∷ []) ws ≡ true → ws ≡ (b ∷ []) ∷ rest
took_seen ws rest b None h e = let f = ap (first_is (b ∷ [])) h.0 in cc (e, f)
took_seen ws rest b (Some p) h e = h ∙ ap (λ (w : List ℕ). w ∷ rest) (same_word-same p.now (b ∷ []) (sym (ap (first_is (b ∷ [])) h) ∙ e))
