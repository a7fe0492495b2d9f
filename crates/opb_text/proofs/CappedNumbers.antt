-- Digits whose number is told up to the least size that is too wide.
use Rattle.std.proofs.Common.{◌≡◌, ℕ, ◌+◌, ◌*◌, ◌<◌, List, [], ◌∷◌, length, drop, get_or, sym, ap, ◌∙◌, arith}
use Rattle.std.specs.Char.{digit_value}
use Rattle.std.specs.Str.Parse.{digits_value_after}
use Rattle.std.proofs.lemmas.List.{at_drop_more}
use Rattle.opb_text.specs.Kinds.{capped}

-- What a number was capped to before its last digits came counts for nothing.
pub capped_after : (m : ℕ) (ds : List ℕ) → capped (digits_value_after 10 (capped m) ds) ≡ capped (digits_value_after 10 m ds)
capped_after m [] = omega arith
capped_after m (d ∷ ds) =
    let same : capped (capped m * 10 + digit_value d) ≡ capped (m * 10 + digit_value d) = omega arith in
    sym (capped_after (capped m * 10 + digit_value d) ds)
    ∙ ap (λ (n : ℕ). capped (digits_value_after 10 n ds)) same
    ∙ capped_after (m * 10 + digit_value d) ds

-- One digit more.
pub capped_more : (v : ℕ) (word : List ℕ) (i d total : ℕ) → i < length word → d ≡ digit_value (get_or word i 0)
    → capped (digits_value_after 10 v (drop i word)) ≡ total → capped (digits_value_after 10 (capped (v * 10 + d)) (drop (i + 1) word)) ≡ total
capped_more v word i d total i_in e h =
    capped_after (v * 10 + d) (drop (i + 1) word)
    ∙ ap (λ (k : ℕ). capped (digits_value_after 10 (v * 10 + k) (drop (i + 1) word))) e
    ∙ sym (ap capped (at_drop_more (digits_value_after 10 v) word i 0 i_in))
    ∙ h
