-- The text of lines.
use Rattle.std.specs.Prelude.{ℕ, ◌+◌, cond, ◌==◌, List, [], ◌∷◌}
use Rattle.std.specs.List.{flat_map}
use Rattle.log_theory.specs.Words.{line_text}
use Rattle.log_theory.specs.LogText.{step_words}
use Rattle.log_theory.specs.declared.step.Ref.{Ref}
use Rattle.log_theory.specs.declared.step.Step.{Step}
use Rattle.trim_theory.specs.Marking.{rank, new_line, marked_deletions}

-- The lines of steps, each with its line end.
abbrev pub steps_text : List Step → List ℕ
steps_text steps = flat_map (λ s. line_text (step_words s)) steps

-- What the line at a place becomes: nothing, or the renamed line with its deletions behind it.
abbrev pub next_lines : (Ref → Ref) → (ℕ → ℕ) → ℕ → Step → List Step
next_lines new mark place s =
    cond (mark place == 0) [] (new_line new (rank mark place) s
    ∷ marked_deletions mark (place + 1) place)
