-- What the parts of a constraint's line are read as.
use Rattle.std.specs.Prelude.{◌≡◌, ℕ, ◌≤◌, Bool, true, false, List, [], ◌∷◌, ◌++◌, Result, Ok, Err, ℤ}
use Rattle.std.specs.Borrow.{Bor}
use Rattle.log_theory.specs.declared.opb.OpbCause.{OpbCause}
use Rattle.log_theory.specs.Steps.{◌>>=◌}
use Rattle.log_theory.specs.OpbReading.{OpbWord, Place, First, Later, Due, misplaced, closing_words, bound_words, constraint_words}
use Rattle.opb_text.specs.declared.terms.Part.{Part}
use Rattle.opb_text.specs.declared.terms.Part.TheVariants.{Term, Bound}
use Rattle.opb_text.specs.Kinds.{kinds}

-- Terms and a bound.
abbrev pub Sum : Type 0
Sum = List (ℕ × ℤ) × ℤ

-- The terms of a sum after those that stand in front of them.
abbrev pub after_terms : List (ℕ × ℤ) → Result Sum OpbCause → Result Sum OpbCause
after_terms ts sum = sum >>= λ s. Ok (ts ++ s.0, s.1)

-- The place behind some terms.
abbrev pub place_after : List (ℕ × ℤ) → Place
place_after [] = First
place_after (t ∷ ts) = Later

abbrev pub place_of : Bool → Place
place_of true = First
place_of false = Later

-- A variable that is due and what follows it, or the cause of its fault.
abbrev pub VariableSays : ℕ → List ℕ → Result (ℕ × Bor (List ℕ)) OpbCause → Type 0
VariableSays n line (Ok (v, rest)) = ((c : ℤ)
    → constraint_words n (Due c) (kinds line) ≡ after_terms ((v, c) ∷ [])
    (constraint_words n Later (kinds rest.now))) × ((1 ≤ v) × (v ≤ n))
VariableSays n line (Err cause) = (c : ℤ) → constraint_words n (Due c) (kinds line) ≡ Err cause

-- The next part of a line and what follows it, or the cause of its fault.
abbrev pub PartSays : ℕ → Place → List ℕ → Result (Part × Bor (List ℕ)) OpbCause → Type 0
PartSays n place line (Ok (Term v c, rest)) = (constraint_words n place (kinds line) ≡ after_terms
    ((v, c) ∷ []) (constraint_words n Later (kinds rest.now))) × ((1 ≤ v) × (v ≤ n))
PartSays n place line (Ok (Bound, rest)) = constraint_words n place (kinds line) ≡ bound_words n
    (kinds rest.now)
PartSays n place line (Err cause) = constraint_words n place (kinds line) ≡ Err cause

-- Nothing more is due: the bound, or what is wrong with the first word that is left.
abbrev pub end_words : ℕ → ℤ → List OpbWord → Result Sum OpbCause
end_words n b [] = Ok ([], b)
end_words n b (w ∷ ws) = misplaced n w

abbrev pub EndSays : ℕ → List ℕ → Result Unit OpbCause → Type 0
EndSays n line (Ok done) = (b : ℤ) → end_words n b (kinds line) ≡ Ok ([], b)
EndSays n line (Err cause) = (b : ℤ) → end_words n b (kinds line) ≡ Err cause

-- What closes a line.
abbrev pub ClosingSays : ℕ → List ℕ → Result Unit OpbCause → Type 0
ClosingSays n line (Ok done) = (b : ℤ) → closing_words n b (kinds line) ≡ Ok ([], b)
ClosingSays n line (Err cause) = (b : ℤ) → closing_words n b (kinds line) ≡ Err cause

-- The bound that ends a line, or the cause of its fault.
abbrev pub BoundSays : ℕ → List ℕ → Result ℤ OpbCause → Type 0
BoundSays n line (Ok b) = bound_words n (kinds line) ≡ Ok ([], b)
BoundSays n line (Err cause) = bound_words n (kinds line) ≡ Err cause
