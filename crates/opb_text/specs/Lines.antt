-- What the lines of a text are read as.
use Rattle.std.specs.Prelude.{◌≡◌, ℕ, ◌+◌, ◌^◌, List, [], ◌∷◌, ◌++◌, length, nat_le, Option, Some, None, Result, Ok, Err, Vec, ℤ}
use Rattle.std.specs.Borrow.{Bor}
use Rattle.std.specs.Global.{Global}
use Rattle.log_theory.specs.declared.opb.OpbCause.{OpbCause}
use Rattle.log_theory.specs.declared.opb.OpbCause.TheVariants.{Wide}
use Rattle.proof_theory.specs.Forms.{Form, IsNarrow, Narrow, Rises, form_of, size}
use Rattle.log_theory.specs.Steps.{◌>>=◌, unless}
use Rattle.log_theory.specs.OpbText.{OpbModel, AreVariables}
use Rattle.log_theory.specs.OpbReading.{First, bound_words, constraint_words, constraint_line, later_line, later_lines, opb_words, opb_lines}
use Rattle.opb_text.specs.declared.fault.OpbFault.{OpbFault}
use Rattle.opb_text.specs.declared.fault.OpbFault.TheVariants as fault
use Rattle.opb_text.specs.declared.fault.LineFault.{LineFault}
use Rattle.opb_text.specs.declared.fault.LineFault.TheVariants.{Faulty, NoMemory}
use Rattle.opb_text.specs.Kinds.{kinds}
use Rattle.opb_text.specs.Parts.{after_terms}

-- The terms of a line, and what follows `>=`. Want of memory is free here and below.
abbrev pub TermsSay : ℕ → List ℕ → List (ℕ × ℤ) → Result (Bor (List ℕ)) LineFault → Type 0
TermsSay n line ts (Ok rest) = constraint_words n First (kinds line) ≡ after_terms ts
    (bound_words n (kinds rest.now))
TermsSay n line ts (Err (Faulty cause)) = constraint_words n First (kinds line) ≡ Err cause
TermsSay n line ts (Err NoMemory) = Unit {0}

-- The form of terms and a bound, as a line gives it.
abbrev pub form_answer : List (ℕ × ℤ) → ℤ → Result Form OpbCause
form_answer ts b = unless (nat_le (size ts) (2 ^ 125)) Wide >>= λ _. Ok (form_of ts b)

abbrev pub FormSays : List (ℕ × ℤ) → ℤ → Result Form LineFault → Type 0
FormSays ts b (Ok f) = (form_answer ts b ≡ Ok f) × (f ≡ form_of ts b) × IsNarrow ts b
FormSays ts b (Err (Faulty cause)) = form_answer ts b ≡ Err cause
FormSays ts b (Err NoMemory) = Unit {0}

-- The constraint of a line.
abbrev pub ConstraintSays : ℕ → List ℕ → Result Form LineFault → Type 0
ConstraintSays n line (Ok f) = constraint_line n (opb_words line) ≡ Ok f
ConstraintSays n line (Err (Faulty cause)) = constraint_line n (opb_words line) ≡ Err cause
ConstraintSays n line (Err NoMemory) = Unit {0}

-- A form that a model of n variables may have.
abbrev pub IsWithin : ℕ → Form → Type 0
IsWithin n f = Rises 0 f.terms × Narrow f × AreVariables n f.terms

abbrev pub as_list : Option Form → List Form
as_list None = []
as_list (Some f) = f ∷ []

-- The constraint of a line after the first, if it has one.
abbrev pub LineSays : ℕ → List ℕ → Result (Option Form) LineFault → Type 0
LineSays n line (Ok f) = later_line n (opb_words line) ≡ Ok (as_list f)
LineSays n line (Err (Faulty cause)) = later_line n (opb_words line) ≡ Err cause
LineSays n line (Err NoMemory) = Unit {0}

-- The forms of lines after those that stand in front of them.
abbrev pub after_forms : List Form → Result (List Form) (ℕ × OpbCause)
    → Result (List Form) (ℕ × OpbCause)
after_forms fs forms = forms >>= λ gs. Ok (fs ++ gs)

-- The constraints of all lines after the first, and the number of the line after the last.
abbrev pub LinesSay : ℕ → List ℕ → Result (Vec Form Global × ℕ) OpbFault → Type 0
LinesSay n text (Ok (fs, k)) = (later_lines n 2 (opb_lines text) ≡ Ok fs.items)
    × (k ≡ length (opb_lines text) + 2)
LinesSay n text (Err (fault.Line k cause)) = later_lines n 2 (opb_lines text) ≡ Err (k, cause)
LinesSay n text (Err fault.NoMemory) = Unit {0}

-- The answer is the definition's; want of memory is free.
abbrev pub Answers : Result OpbModel OpbFault → Result OpbModel (ℕ × OpbCause) → Type 0
Answers (Ok m) answer = answer ≡ Ok m
Answers (Err (fault.Line k cause)) answer = answer ≡ Err (k, cause)
Answers (Err fault.NoMemory) answer = Unit {0}
