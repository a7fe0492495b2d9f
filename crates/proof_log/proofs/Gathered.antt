-- The text of short pieces that are gathered in order.
use Rattle.std.proofs.Common.{◌≡◌, ℕ, ◌+◌, ◌<◌, false, List, ◌++◌, length, take, get_or, Result, Ok, Err, OnOk, is_err, sym, ap, ◌∙◌}
use Rattle.std.proofs.lemmas.Bool.{true≢false}
use Rattle.std.specs.Borrow.{Bor}
use Rattle.outer_io.specs.Sinks.{joined}
use Rattle.outer_io.proofs.JoinedPieces.{joined-more}

-- one piece more, where there was room for it
pub gathered_more : {T E : Type 0} (r : Result T E) (old new : List ℕ) (pieces : List (Bor (List ℕ))) (i : ℕ) (piece : Bor (List ℕ)) → i < length pieces → old ≡ joined (take i pieces)
    → OnOk r (new ≡ old ++ (get_or pieces i piece).now) → is_err r ≡ false → new ≡ joined (take (i + 1) pieces)
gathered_more (Ok x) old new pieces i piece within before put there =
    put ∙ ap (λ (t : List ℕ). t ++ (get_or pieces i piece).now) before ∙ sym (joined-more pieces i piece within)
gathered_more (Err x) old new pieces i piece within before put there = absurd (true≢false there)
