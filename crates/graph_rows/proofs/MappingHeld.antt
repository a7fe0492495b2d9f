-- The text of a mapping that is gathered line by line.

use Rattle.std.proofs.Common.{◌≡◌, ℕ, ◌+◌, ◌<◌, false, List, [], ◌++◌, length, take, get_or, Result, Ok, Err, OnOk, is_err, sym, ap, ◌∙◌, append_assoc}
use Rattle.std.proofs.lemmas.Bool.{true≢false}
use Rattle.std.specs.Borrow.{Bor}
use Rattle.graph_theory.specs.Mapping.{mapping_line, yes_line, yes_text}
use Rattle.outer_io.specs.Sinks.{joined}
use Rattle.outer_io.proofs.JoinedPieces.{joined-more}
use Rattle.graph_rows.proofs.MappingPut.{yes_text-more}

-- one piece more, where there was room for it
pub added_more : {T E : Type 0} (r : Result T E) (first old new : List ℕ) (pieces : List (Bor (List ℕ))) (i : ℕ) (piece : Bor (List ℕ)) → i < length pieces → old ≡ first ++ joined (take i pieces)
    → OnOk r (new ≡ old ++ (get_or pieces i piece).now) → is_err r ≡ false → new ≡ first ++ joined (take (i + 1) pieces)
added_more (Ok x) first old new pieces i piece within before put there =
    put ∙ ap (λ (t : List ℕ). t ++ (get_or pieces i piece).now) before ∙ append_assoc first (joined (take i pieces)) ((get_or pieces i piece).now)
    ∙ ap (λ (t : List ℕ). first ++ t) (sym (joined-more pieces i piece within))
added_more (Err x) first old new pieces i piece within before put there = absurd (true≢false there)

-- the first line, where there was room for it
pub yes_added : {T E : Type 0} (r : Result T E) (old new : List ℕ) → old ≡ [] → OnOk r (new ≡ old ++ yes_line) → is_err r ≡ false → new ≡ yes_text []
yes_added (Ok x) old new none put there = put ∙ ap (λ (t : List ℕ). t ++ yes_line) none
yes_added (Err x) old new none put there = absurd (true≢false there)

-- one line more
pub line_added : (old new m : List ℕ) (i : ℕ) → i < length m → old ≡ yes_text (take i m) → new ≡ old ++ mapping_line i (get_or m i 0) → new ≡ yes_text (take (i + 1) m)
line_added old new m i within before put = put ∙ ap (λ (t : List ℕ). t ++ mapping_line i (get_or m i 0)) before ∙ sym (yes_text-more m i within)
