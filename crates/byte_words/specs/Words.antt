-- The words of a text.
use Rattle.std.specs.Prelude.{ℕ, Bool, false, not, if◌then◌else◌, List, [], ◌∷◌}

-- Whether the text begins inside a word.
abbrev pub begins_word : (ℕ → Bool) → List ℕ → Bool
begins_word is_blank [] = false
begins_word is_blank (b ∷ bs) = not (is_blank b)

-- The words, the first of them with one byte more in front.
abbrev pub onto_first : ℕ → List (List ℕ) → List (List ℕ)
onto_first b [] = (b ∷ []) ∷ []
onto_first b (w ∷ ws) = (b ∷ w) ∷ ws

-- The words of a text are its maximal runs of bytes that are no blanks.
abbrev pub words_between : (ℕ → Bool) → List ℕ → List (List ℕ)
words_between is_blank [] = []
words_between is_blank (b ∷ bs) = if is_blank b then words_between is_blank bs else if begins_word is_blank bs then onto_first b
    (words_between is_blank bs) else (b ∷ []) ∷ words_between is_blank bs
