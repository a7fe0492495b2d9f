-- A piece of a log that is fed to a checker line by line.
use Rattle.std.proofs.Common.{◌≡◌, ℕ, List, ◌∷◌, ◌++◌, sym, ap, ◌∙◌, append_assoc}
use Rattle.proof_checker.specs.Feeding.{Fed, verdict_with}

-- One line more of the piece.
pub line_fed : (f g start : Fed) (left line behind piece : List ℕ) → left ≡ line ++ 10 ∷ behind → ((rest : List ℕ) → verdict_with g rest ≡ verdict_with f (line ++ 10 ∷ rest))
    → ((rest : List ℕ) → verdict_with f (left ++ rest) ≡ verdict_with start (piece ++ rest)) → (rest : List ℕ) → verdict_with g (behind ++ rest) ≡ verdict_with start (piece ++ rest)
line_fed f g start left line behind piece e s i rest = s (behind ++ rest) ∙ ap (verdict_with f) (sym (ap (λ (t : List ℕ). t ++ rest) e ∙ append_assoc line (10 ∷ behind) rest)) ∙ i rest
