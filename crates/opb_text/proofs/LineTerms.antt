-- The terms of a line, one after another.
use Rattle.std.proofs.Common.{◌≡◌, ℕ, ◌<◌, ◌≤◌, Bool, true, false, List, [], ◌∷◌, ◌++◌, length, Result, Ok, Err, ℤ, refl, sym, ap, ◌∙◌, arith}
use Rattle.std.proofs.lemmas.List.{append_assoc}
use Rattle.log_theory.specs.declared.opb.OpbCause.{OpbCause}
use Rattle.log_theory.specs.OpbText.{AreVariables}
use Rattle.log_theory.specs.OpbReading.{Place, Later, constraint_words}
use Rattle.opb_text.specs.Kinds.{kinds}
use Rattle.opb_text.specs.Parts.{Sum, after_terms, place_after, place_of}

pub after_terms-none : (x : Result Sum OpbCause) → x ≡ after_terms [] x
after_terms-none (Ok s) = refl
after_terms-none (Err e) = refl

pub after_terms-twice : (ts us : List (ℕ × ℤ)) (x : Result Sum OpbCause) → after_terms ts (after_terms us x) ≡ after_terms (ts ++ us) x
after_terms-twice ts us (Ok s) = ap (λ (l : List (ℕ × ℤ)). let r : Result Sum OpbCause = Ok (l, s.1) in r) (sym (append_assoc ts us s.0))
after_terms-twice ts us (Err e) = refl

-- The place behind terms, by whether there are some.
pub place_after-length : (ts : List (ℕ × ℤ)) (first : Bool) → (first ≡ true → length ts ≡ 0) → (first ≡ false → 0 < length ts) → place_of first ≡ place_after ts
place_after-length [] true e f = refl
place_after-length [] false e f = absurd (let h = f refl in omega arith)
place_after-length (t ∷ ts) true e f = absurd (let h = e refl in omega arith)
place_after-length (t ∷ ts) false e f = refl

place_after-push : (ts : List (ℕ × ℤ)) (t : ℕ × ℤ) → place_after (ts ++ t ∷ []) ≡ Later
place_after-push [] t = refl
place_after-push (u ∷ ts) t = refl

-- One term more.
pub terms-more : (n : ℕ) (whole : Result Sum OpbCause) (ts : List (ℕ × ℤ)) (t : ℕ × ℤ) (place : Place) (rest more : List ℕ) → place ≡ place_after ts
    → whole ≡ after_terms ts (constraint_words n (place_after ts) (kinds rest)) → constraint_words n place (kinds rest) ≡ after_terms (t ∷ []) (constraint_words n Later (kinds more))
    → whole ≡ after_terms (ts ++ t ∷ []) (constraint_words n (place_after (ts ++ t ∷ [])) (kinds more))
terms-more n whole ts t place rest more p h e =
    h
    ∙ ap (λ (q : Place). after_terms ts (constraint_words n q (kinds rest))) (sym p)
    ∙ ap (after_terms ts) e
    ∙ after_terms-twice ts (t ∷ []) (constraint_words n Later (kinds more))
    ∙ ap (λ (q : Place). after_terms (ts ++ t ∷ []) (constraint_words n q (kinds more))) (sym (place_after-push ts t))

-- What the next words say, behind the terms.
pub terms-then : (n : ℕ) (whole next : Result Sum OpbCause) (ts : List (ℕ × ℤ)) (place : Place) (rest : List ℕ) → place ≡ place_after ts
    → whole ≡ after_terms ts (constraint_words n (place_after ts) (kinds rest)) → constraint_words n place (kinds rest) ≡ next → whole ≡ after_terms ts next
terms-then n whole next ts place rest p h e =
    h ∙ ap (λ (q : Place). after_terms ts (constraint_words n q (kinds rest))) (sym p) ∙ ap (after_terms ts) e

pub AreVariables-push : (n : ℕ) (ts : List (ℕ × ℤ)) (t : ℕ × ℤ) → AreVariables n ts → 1 ≤ t.0 → t.0 ≤ n → AreVariables n (ts ++ t ∷ [])
AreVariables-push n [] t h a b = (a, b, tt)
AreVariables-push n (u ∷ ts) t h a b = (h.0, h.1, AreVariables-push n ts t h.2 a b)
