-- The text of a log in a profile.
use Rattle.std.specs.Prelude.{ℕ, cond, ◌==◌, List, [], ◌∷◌, ◌++◌}
use Rattle.std.specs.List.{flat_map}
use Rattle.log_theory.specs.declared.profile.Profile.{Profile}
use Rattle.log_theory.specs.declared.profile.Profile.TheVariants.{Hinted, Plain}
use Rattle.log_theory.specs.declared.step.Step.{Step}
use Rattle.log_theory.specs.declared.step.Step.TheVariants.{Head, Model}
use Rattle.log_theory.specs.Words.{line_text}
use Rattle.log_theory.specs.LogText.{step_words}
use Rattle.log_theory.specs.Profiles.{words_in, dropped_log}

-- A log with hints as it is written in a profile: without hints these are dropped.
abbrev pub in_profile : Profile → List ℕ → List ℕ
in_profile Hinted log = log
in_profile Plain log = dropped_log log

-- ---- line by line

-- Bytes up to the first `;` and with it, or all where there is none.
abbrev pub up_to_mark : List ℕ → List ℕ
up_to_mark [] = []
up_to_mark (b ∷ bs) = b ∷ cond (b == 59) [] (up_to_mark bs)

-- The text of a line, that of a `u` line up to its first `;`.
abbrev pub without_hints : List ℕ → List ℕ
without_hints [] = []
without_hints (b ∷ bs) = cond (b == 117) (up_to_mark (b ∷ bs) ++ 10 ∷ []) (b ∷ bs)

-- The text of a step's line behind the first line.
abbrev pub line_in : Profile → Step → List ℕ
line_in Hinted s = line_text (step_words s)
line_in Plain s = without_hints (line_text (step_words s))

-- The text of lines behind the first one.
abbrev pub text_in : Profile → List Step → List ℕ
text_in profile steps = flat_map (λ s. line_in profile s) steps

-- The text of the two lines at the head.
abbrev pub head_text : Profile → ℕ → List ℕ
head_text profile lines = line_text (words_in profile Head) ++ line_text (step_words (Model lines))
