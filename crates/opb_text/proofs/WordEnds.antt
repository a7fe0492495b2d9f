-- The words of a line are what stands between its blanks.
use Rattle.std.proofs.Common.{◌≡◌, ℕ, Bool, true, false, List, [], ◌∷◌, refl, sym, ap, ◌∙◌, inl, inr, ◌⊎◌}
use Rattle.std.specs.Prelude.{Option, Some, None, MatchOption}
use Rattle.std.specs.Borrow.{Bor}
use Rattle.byte_words.specs.Words.{begins_word, words_between}
use Rattle.log_theory.specs.Words.{pieces, not_empty}
use Rattle.log_theory.specs.OpbReading.{opb_words}
use Rattle.opb_text.specs.Cutting.{is_blank}

-- The text begins inside a word: its first piece is that word.
record InWord (blank : ℕ → Bool) (bs : List ℕ) : Type 0 where
  first : ℕ
  more : List ℕ
  others : List (List ℕ)
  begins : begins_word blank bs ≡ true
  pieces_are : pieces blank bs ≡ (first ∷ more) ∷ others
  words_are : words_between blank bs ≡ (first ∷ more) ∷ not_empty others

-- It begins with a blank or is empty: its first piece is empty.
record AtBlank (blank : ℕ → Bool) (bs : List ℕ) : Type 0 where
  others : List (List ℕ)
  begins : begins_word blank bs ≡ false
  pieces_are : pieces blank bs ≡ [] ∷ others
  words_are : words_between blank bs ≡ not_empty others

front : (blank : ℕ → Bool) (bs : List ℕ) → InWord blank bs ⊎ AtBlank blank bs
front blank [] = inr record { others = []; begins = refl; pieces_are = refl; words_are = refl }
front blank (b ∷ bs) = by (blank b) refl (front blank bs)
  where
    by : (x : Bool) → blank b ≡ x → InWord blank bs ⊎ AtBlank blank bs → InWord blank (b ∷ bs) ⊎ AtBlank blank (b ∷ bs)
    by true e (inl w) = inr record { others = pieces blank bs; begins = rw e refl; pieces_are = rw e refl; words_are = rw (e, w.words_are, w.pieces_are) refl }
    by true e (inr a) = inr record { others = pieces blank bs; begins = rw e refl; pieces_are = rw e refl; words_are = rw (e, a.words_are, a.pieces_are) refl }
    by false e (inl w) = inl record {
      first = b;
      more = w.first ∷ w.more;
      others = w.others;
      begins = rw e refl;
      pieces_are = rw (e, w.pieces_are) refl;
      words_are = rw (e, w.begins, w.words_are) refl;
    }
    by false e (inr a) = inl record {
      first = b;
      more = [];
      others = a.others;
      begins = rw e refl;
      pieces_are = rw (e, a.pieces_are) refl;
      words_are = rw (e, a.begins, a.words_are) refl;
    }

-- The pieces that are not empty are the words.
opb_words-same : (line : List ℕ) → opb_words line ≡ words_between is_blank line
opb_words-same line = by (front is_blank line)
  where
    by : InWord is_blank line ⊎ AtBlank is_blank line → opb_words line ≡ words_between is_blank line
    by (inl w) = ap not_empty w.pieces_are ∙ sym w.words_are
    by (inr a) = ap not_empty a.pieces_are ∙ sym a.words_are

-- The first word and what follows it.
pub opb_words-first : (line : List ℕ) (found : Option (Bor (List ℕ) × Bor (List ℕ)))
    → MatchOption found (words_between is_blank line ≡ []) (λ parts. words_between is_blank line ≡ parts.0.now ∷ words_between is_blank parts.1.now)
    → MatchOption found (opb_words line ≡ []) (λ parts. opb_words line ≡ parts.0.now ∷ opb_words parts.1.now)
opb_words-first line None h = opb_words-same line ∙ h
opb_words-first line (Some parts) h =
    opb_words-same line ∙ h ∙ ap (λ (ws : List (List ℕ)). parts.0.now ∷ ws) (sym (opb_words-same parts.1.now))
