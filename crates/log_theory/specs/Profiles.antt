-- The text of a log without hints: all lines are those of a log with hints, but for the first one and for `u` lines, which end behind
-- their literals.
use Rattle.std.specs.Prelude.{◌≡◌, ℕ, cond, ◌==◌, ◌&&◌, List, [], ◌∷◌, ◌++◌, map, Option, Some, None}
use Rattle.std.specs.List.{flat_map}
use lib.Chars.{codes}
use Rattle.log_theory.specs.declared.profile.Profile.{Profile}
use Rattle.log_theory.specs.declared.profile.Profile.TheVariants.{Hinted, Plain}
use Rattle.log_theory.specs.declared.step.Step.{Step}
use Rattle.log_theory.specs.declared.step.Step.TheVariants.{Head, U}
use Rattle.log_theory.specs.Words.{pieces, same_word, joined}
use Rattle.log_theory.specs.LogText.{name_text, literal_text, step_words, name_of, literal_of, all_of, Parted, part, closed, when_closed, u_from, step_of_words, read_line, IsStep}

-- The words of a line.
abbrev pub words_in : Profile → Step → List (List ℕ)
words_in Hinted s = step_words s
words_in Plain Head = codes "embedding" ∷ codes "proof" ∷ codes "2" ∷ []
words_in Plain (U name lits refs) = codes "u" ∷ name_text name ∷ (map literal_text lits
    ++ codes ";" ∷ [])
words_in Plain s = step_words s

-- The step without its hints.
abbrev pub plain : Step → Step
plain (U name lits refs) = U name lits []
plain s = s

-- What a line of a profile tells of a step: in a log without hints none of them.
abbrev pub told_in : Profile → Step → Step
told_in Hinted s = s
told_in Plain s = plain s

-- The step is one that a line of a profile tells.
abbrev pub IsStepIn : Profile → Step → Type 0
IsStepIn profile s = IsStep s × (told_in profile s ≡ s)

-- A `u` line without hints, from its name and the words behind.
abbrev pub plain_u : List ℕ → List (List ℕ) → Option Step
plain_u name ws = u_from (name_of name) (when_closed (all_of literal_of) (closed (part ws)))
    (Some [])

-- The first line, from the words behind `embedding`.
abbrev pub plain_head : List (List ℕ) → Option Step
plain_head (v ∷ w ∷ []) = cond (same_word v (codes "proof")
    && same_word w (codes "2")) (Some Head) None
plain_head ws = None

-- The step that words tell in a log without hints.
abbrev pub plain_step : List (List ℕ) → Option Step
plain_step (w ∷ v ∷ ws) =
    cond (same_word w (codes "u")) (plain_u v ws) (cond (same_word w (codes "embedding"))
    (plain_head (v ∷ ws)) (step_of_words (w ∷ v ∷ ws)))
plain_step ws = step_of_words ws

-- The step that a line tells in a log of a profile.
abbrev pub read_in : Profile → List ℕ → Option Step
read_in Hinted line = read_line line
read_in Plain line = plain_step (pieces (λ b. b == 32) line)

-- The first line of a profile.
abbrev pub head_of : Profile → List ℕ
head_of profile = joined (words_in profile Head)

-- The profile that a first line tells.
abbrev pub profile_of : List ℕ → Option Profile
profile_of line =
    cond (same_word line (head_of Hinted)) (Some Hinted) (cond (same_word line (head_of Plain))
    (Some Plain) None)

-- ---- a log with its hints dropped

-- Words up to the first `;` and with it, or all where there is none.
abbrev pub up_to_semicolon : List (List ℕ) → Option Parted → List (List ℕ)
up_to_semicolon ws None = ws
up_to_semicolon ws (Some p) = p.front ++ codes ";" ∷ []

-- The words of a line, those of a `u` line without its references.
abbrev pub dropped_words : List (List ℕ) → List (List ℕ)
dropped_words (w ∷ v ∷ ws) = cond (same_word w (codes "u")) (w ∷ v ∷ up_to_semicolon ws (part ws))
    (w ∷ v ∷ ws)
dropped_words ws = ws

abbrev pub dropped_line : List ℕ → List ℕ
dropped_line line = joined (dropped_words (pieces (λ b. b == 32) line))

-- Lines with the first one changed, and without the references of `u` lines.
abbrev pub dropped_lines : List (List ℕ) → List (List ℕ)
dropped_lines [] = []
dropped_lines (l ∷ ls) = head_of Plain ∷ map dropped_line ls

-- Pieces with an LF between each and the next.
abbrev pub with_feeds : List (List ℕ) → List ℕ
with_feeds [] = []
with_feeds (l ∷ ls) = l ++ flat_map (λ m. 10 ∷ m) ls

-- The log with its first line changed, and without the references of its `u` lines.
abbrev pub dropped_log : List ℕ → List ℕ
dropped_log log = with_feeds (dropped_lines (pieces (λ b. b == 10) log))

-- The profile that the first line of pieces tells.
abbrev pub profile_in : List (List ℕ) → Option Profile
profile_in [] = None
profile_in (l ∷ ls) = profile_of l

-- The profile that a log's first line tells.
abbrev pub log_profile : List ℕ → Option Profile
log_profile log = profile_in (pieces (λ b. b == 10) log)
