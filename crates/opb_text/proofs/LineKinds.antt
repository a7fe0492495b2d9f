-- The words of a constraint's line, one after another.
use Rattle.std.proofs.Common.{◌≡◌, ℕ, ◌<◌, ◌≤◌, ◌^◌, Bool, true, false, nat_le, List, [], ◌∷◌, map, Result, Ok, Err, ℤ, unsigned_abs, refl, sym, ap, ◌∙◌, arith}
use Rattle.std.proofs.lemmas.Bool.{le-leb}
use Rattle.std.proofs.lemmas.Bool.Decides.{nat_tests}
use Rattle.log_theory.specs.declared.opb.OpbCause.{OpbCause}
use Rattle.log_theory.specs.declared.opb.OpbCause.TheVariants.{Wide}
use Rattle.log_theory.specs.Steps.{unless}
use Rattle.log_theory.specs.OpbReading.{OpbWord, Number, Ended, Semicolon, Place, First, Later, word_of, opb_words, within, closing_words, bound_words, constraint_words}
use Rattle.opb_text.specs.Kinds.{capped_word, kinds}
use Rattle.opb_text.specs.Parts.{Sum, place_of, end_words, EndSays, ClosingSays}

-- The first word of a line, and the others.
pub kinds-first : (line word rest : List ℕ) (w : OpbWord) → opb_words line ≡ word ∷ opb_words rest → w ≡ capped_word (word_of word) → kinds line ≡ w ∷ kinds rest
kinds-first line word rest w e k = ap (map (λ v. capped_word (word_of v))) e ∙ ap (λ (v : OpbWord). v ∷ kinds rest) (sym k)

pub within-wide : (c : ℤ) → 2 ^ 125 < unsigned_abs c → within c ≡ Err Wide
within-wide c h =
    let e : nat_le (unsigned_abs c) (2 ^ 125) ≡ false = grind (arith, nat_tests) in
    ap (λ (b : Bool). let r : Result ℕ OpbCause = unless b Wide in r) e

pub within-narrow : (c : ℤ) → unsigned_abs c ≤ 2 ^ 125 → within c ≡ Ok 0
within-narrow c h = ap (λ (b : Bool). let r : Result ℕ OpbCause = unless b Wide in r) (le-leb (unsigned_abs c) (2 ^ 125) h)

-- A bound that is too wide, whatever follows it.
pub bound-wide : (n : ℕ) (b : ℤ) (ws : List OpbWord) → 2 ^ 125 < unsigned_abs b → bound_words n (Number b ∷ ws) ≡ Err Wide
bound-wide n b ws h = rw (within-wide b h) refl

pub ended-wide : (n : ℕ) (b : ℤ) (ws : List OpbWord) → 2 ^ 125 < unsigned_abs b → bound_words n (Ended b ∷ ws) ≡ Err Wide
ended-wide n b [] h = rw (within-wide b h) refl
ended-wide n b (w ∷ ws) h = rw (within-wide b h) refl

-- A bound that is not, and what follows it.
pub bound-closing : (n : ℕ) (b : ℤ) (ws : List OpbWord) (answer : Result Sum OpbCause) → unsigned_abs b ≤ 2 ^ 125 → closing_words n b ws ≡ answer → bound_words n (Number b ∷ ws) ≡ answer
bound-closing n b ws answer h e = rw (within-narrow b h) e

pub ended-end : (n : ℕ) (b : ℤ) (ws : List OpbWord) (answer : Result Sum OpbCause) → unsigned_abs b ≤ 2 ^ 125 → end_words n b ws ≡ answer → bound_words n (Ended b ∷ ws) ≡ answer
ended-end n b [] answer h e = rw (within-narrow b h) e
ended-end n b (w ∷ ws) answer h e = rw (within-narrow b h) e

pub closing-end : (n : ℕ) (b : ℤ) (ws : List OpbWord) → closing_words n b (Semicolon ∷ ws) ≡ end_words n b ws
closing-end n b [] = refl
closing-end n b (w ∷ ws) = refl

pub closing-says : (n : ℕ) (line rest : List ℕ) (r : Result Unit OpbCause) → kinds line ≡ Semicolon ∷ kinds rest → EndSays n rest r → ClosingSays n line r
closing-says n line rest (Ok done) k e = λ b. ap (closing_words n b) k ∙ closing-end n b (kinds rest) ∙ e b
closing-says n line rest (Err cause) k e = λ b. ap (closing_words n b) k ∙ closing-end n b (kinds rest) ∙ e b

-- A coefficient that is too wide, whatever follows it.
pub coefficient-wide : (n : ℕ) (first : Bool) (c : ℤ) (ws : List OpbWord) → 2 ^ 125 < unsigned_abs c → constraint_words n (place_of first) (Number c ∷ ws) ≡ Err Wide
coefficient-wide n true c ws h = rw (within-wide c h) refl
coefficient-wide n false c ws h = rw (within-wide c h) refl

-- What holds at both places where a coefficient may stand.
pub place-cases : (P : Place → Type 0) → P First → P Later → (first : Bool) → P (place_of first)
place-cases P x y true = x
place-cases P x y false = y
