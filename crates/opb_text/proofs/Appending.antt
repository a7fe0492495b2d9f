-- Texts that are appended one after another.
use Rattle.std.proofs.Common.{◌≡◌, ℕ, ◌+◌, ◌<◌, List, ◌++◌, length, take, get_or, Result, Ok, Err, OnOk, sym, ap, ◌∙◌, append_assoc}
use Rattle.std.specs.List.{flat_map}
use Rattle.opb_text.proofs.Putting.{texts-more}

-- The items so far were appended, and then one more.
pub appended-item : {A : Type 0} (text : A → List ℕ) (old middle new : List ℕ) (xs : List A) (i : ℕ) (d : A) → i < length xs
    → middle ≡ old ++ flat_map text (take i xs) → new ≡ middle ++ text (get_or xs i d) → new ≡ old ++ flat_map text (take (i + 1) xs)
appended-item text old middle new xs i d i_in before put =
    put ∙ ap (λ (t : List ℕ). t ++ text (get_or xs i d)) before ∙ append_assoc old (flat_map text (take i xs)) (text (get_or xs i d))
    ∙ ap (λ (t : List ℕ). old ++ t) (sym (texts-more text xs i d i_in))

-- A text was appended, and then what follows it.
pub appended-then : {T E : Type 0} (r : Result T E) (old middle new a b whole : List ℕ) → middle ≡ old ++ a → a ++ b ≡ whole
    → OnOk r (new ≡ middle ++ b) → OnOk r (new ≡ old ++ whole)
appended-then (Ok x) old middle new a b whole before joined put =
    put ∙ ap (λ (t : List ℕ). t ++ b) before ∙ append_assoc old a b ∙ ap (λ (t : List ℕ). old ++ t) joined
appended-then (Err e) old middle new a b whole before joined put = put
