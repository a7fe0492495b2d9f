-- Where the words of a text begin and end.

use Rattle.std.specs.Prelude.{◌≡◌, ℕ, zero, suc, ◌+◌, ◌<◌, ◌≤◌, Bool, true, false, not, List, [], ◌∷◌, length, take, drop, get_or, refl}
use Rattle.std.proofs.Common.{ap, subst, ◌∙◌, arith}
use Rattle.std.proofs.Math.ListN.{drop_of_length-le}
use Rattle.byte_words.specs.Words.{begins_word, words_between}

-- A blank in front of words counts for nothing.
pub words-blank : (blank : ℕ → Bool) (b : ℕ) (bs : List ℕ) → blank b ≡ true → words_between blank (b ∷ bs) ≡ words_between blank bs
words-blank blank b bs h = rw h refl

-- A word of one byte.
pub words-last : (blank : ℕ → Bool) (b : ℕ) (bs : List ℕ) → blank b ≡ false → begins_word blank bs ≡ false → words_between blank (b ∷ bs) ≡ (b ∷ []) ∷ words_between blank bs
words-last blank b bs h e = rw (h, e) refl

-- A byte in front of a word belongs to it.
pub words-more : (blank : ℕ → Bool) (b : ℕ) (bs w : List ℕ) (ws : List (List ℕ)) → blank b ≡ false → begins_word blank bs ≡ true → words_between blank bs ≡ w ∷ ws → words_between blank (b ∷ bs) ≡ (b ∷ w) ∷ ws
words-more blank b bs w ws h e f = rw (h, e, f) refl

-- The first n bytes are no blanks.
abbrev pub AreInWord : (ℕ → Bool) → ℕ → List ℕ → Type 0
AreInWord blank zero bs = Unit {0}
AreInWord blank (suc n) [] = ⊥
AreInWord blank (suc n) (b ∷ bs) = (blank b ≡ false) × AreInWord blank n bs

-- What is not false is true.
not_is : (b : Bool) → b ≡ false → not b ≡ true
not_is b h = rw h refl

-- Bytes that are no blanks, in front of a blank or the end, are a word.
pub words-first : (blank : ℕ → Bool) (n : ℕ) (bs : List ℕ) → AreInWord blank (suc n) bs → begins_word blank (drop (suc n) bs) ≡ false → words_between blank bs ≡ take (suc n) bs ∷ words_between blank (drop (suc n) bs)
words-first blank n [] h e = absurd h
words-first blank zero (b ∷ bs) h e = words-last blank b bs h.0 e
words-first blank (suc n) (b ∷ []) h e = absurd h.1
words-first blank (suc n) (b ∷ c ∷ bs) h e =
    words-more blank b (c ∷ bs) _ _ h.0 (not_is (blank c) h.1.0) (words-first blank n (c ∷ bs) h.1 e)

-- One byte more is in the word.
pub AreInWord-more : (blank : ℕ → Bool) (n : ℕ) (bs : List ℕ) → AreInWord blank n bs → n < length bs → blank (get_or bs n 0) ≡ false → AreInWord blank (n + 1) bs
AreInWord-more blank n bs h l e = subst (λ (k : ℕ). AreInWord blank k bs) (let d : suc n ≡ n + 1 = omega arith in d) (in_word n bs h l e)
  where
    in_word : (n : ℕ) (bs : List ℕ) → AreInWord blank n bs → n < length bs → blank (get_or bs n 0) ≡ false → AreInWord blank (suc n) bs
    in_word n [] h l e = absurd (omega arith)
    in_word zero (b ∷ bs) h l e = (e, tt)
    in_word (suc n) (b ∷ bs) h l e = (h.0, in_word n bs h.1 (omega arith) e)

-- Whether the rest begins a word.
begins_word-drop : (blank : ℕ → Bool) (n : ℕ) (bs : List ℕ) → n < length bs → begins_word blank (drop n bs) ≡ not (blank (get_or bs n 0))
begins_word-drop blank n [] h = absurd (omega arith)
begins_word-drop blank zero (b ∷ bs) h = refl
begins_word-drop blank (suc n) (b ∷ bs) h = begins_word-drop blank n bs (omega arith)

-- What is true is not false.
is_not : (b : Bool) → b ≡ true → not b ≡ false
is_not b h = rw h refl

-- No test is true and false.
not_both : (b : Bool) → b ≡ true → not b ≡ true → ⊥
not_both true h e = cc
not_both false h e = cc

-- A word ends in front of a blank.
pub words-before_blank : (blank : ℕ → Bool) (n : ℕ) (bs : List ℕ) → begins_word blank bs ≡ true → AreInWord blank n bs → n < length bs → blank (get_or bs n 0) ≡ true
    → words_between blank bs ≡ take n bs ∷ words_between blank (drop n bs)
words-before_blank blank zero [] b h l e = absurd (omega arith)
words-before_blank blank zero (c ∷ bs) b h l e = absurd (not_both (blank c) e b)
words-before_blank blank (suc n) bs b h l e = words-first blank n bs h (begins_word-drop blank (suc n) bs l ∙ is_not _ e)

-- A word ends where the text ends.
pub words-before_end : (blank : ℕ → Bool) (n : ℕ) (bs : List ℕ) → begins_word blank bs ≡ true → AreInWord blank n bs → n ≡ length bs → words_between blank bs ≡ take n bs ∷ words_between blank (drop n bs)
words-before_end blank zero [] b h e = cc
words-before_end blank zero (c ∷ bs) b h e = absurd (omega arith)
words-before_end blank (suc n) bs b h e = words-first blank n bs h (ap (begins_word blank) (let l : length bs ≤ suc n = omega arith in drop_of_length-le bs l))
