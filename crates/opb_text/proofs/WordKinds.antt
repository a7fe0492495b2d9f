-- What a word is, with its number capped.
use Rattle.std.proofs.Common.{◌≡◌, ℕ, ◌<◌, Bool, true, false, cond, ◌==◌, ◌&&◌, nat_eq, List, [], ◌∷◌, ◌++◌, length, Option, Some, None, option_map, ℤ, refl, sym, ap, ◌∙◌, arith}
use Rattle.std.specs.List.{starts_with}
use Rattle.log_theory.specs.Words.{into_first, pieces, begins_with}
use Rattle.log_theory.specs.OpbReading.{Other, signed_number, plain_word, ended_word, number_word}
use Rattle.opb_text.specs.Cutting.{HasNo}
use Rattle.opb_text.specs.Kinds.{capped_number, capped_word}
use Rattle.opb_text.proofs.LineEnds.{pieces-some, pieces_first, pieces_alone}

capped-plain : (o : Option ℤ) → capped_word (plain_word o) ≡ plain_word (option_map capped_number o)
capped-plain None = refl
capped-plain (Some c) = refl

capped-ended : (o : Option ℤ) → capped_word (ended_word o) ≡ ended_word (option_map capped_number o)
capped-ended None = refl
capped-ended (Some c) = refl

-- A word without `;`.
pub number_alone : (w : List ℕ) → HasNo 59 w → capped_word (number_word (pieces (λ b. b == 59) w)) ≡ plain_word (option_map capped_number (signed_number w))
number_alone w h = ap (λ (ps : List (List ℕ)). capped_word (number_word ps)) (pieces_alone 59 w h) ∙ capped-plain (signed_number w)

-- A word with `;` at its end alone.
pub number_ended : (word front rest : List ℕ) → HasNo 59 front → word ≡ front ++ 59 ∷ rest → length rest ≡ 0
    → capped_word (number_word (pieces (λ b. b == 59) word)) ≡ ended_word (option_map capped_number (signed_number front))
number_ended word front [] h e l =
    ap (λ (w : List ℕ). capped_word (number_word (pieces (λ b. b == 59) w))) e
    ∙ ap (λ (ps : List (List ℕ)). capped_word (number_word ps)) (pieces_first 59 front [] h)
    ∙ capped-ended (signed_number front)
number_ended word front (b ∷ bs) h e l = absurd (omega arith)

later_pieces : (front : List ℕ) (b : ℕ) (bs : List ℕ) → number_word (front ∷ pieces (λ c. c == 59) (b ∷ bs)) ≡ Other
later_pieces front b bs =
    let p = pieces-some (λ c. c == 59) bs in
    ap (λ (ps : List (List ℕ)). number_word (front ∷ cond (b == 59) ([] ∷ ps) (into_first b ps))) p.is ∙ by_test (b == 59) p.first p.others
  where
    by_test : (x : Bool) (w : List ℕ) (ps : List (List ℕ)) → number_word (front ∷ cond x ([] ∷ w ∷ ps) (into_first b (w ∷ ps))) ≡ Other
    by_test true w ps = refl
    by_test false w [] = refl
    by_test false w (v ∷ ps) = refl

-- A word with something behind a `;`.
pub number_other : (word front rest : List ℕ) → HasNo 59 front → word ≡ front ++ 59 ∷ rest → 0 < length rest
    → Other ≡ capped_word (number_word (pieces (λ b. b == 59) word))
number_other word front [] h e l = absurd (omega arith)
number_other word front (b ∷ bs) h e l =
    sym (ap (λ (w : List ℕ). capped_word (number_word (pieces (λ c. c == 59) w))) e
    ∙ ap (λ (ps : List (List ℕ)). capped_word (number_word ps)) (pieces_first 59 front (b ∷ bs) h)
    ∙ ap capped_word (later_pieces front b bs))

-- The front of a word.
pub starts-begins : (word front : List ℕ) → starts_with nat_eq word front ≡ begins_with front word
starts-begins word [] = refl
starts-begins [] (a ∷ front) = refl
starts-begins (b ∷ word) (a ∷ front) = ap (λ (x : Bool). (a == b) && x) (starts-begins word front)
