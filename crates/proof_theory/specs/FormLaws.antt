-- The laws of forms: what every rule and every refutation keeps, for each 0/1 list.
use Rattle.std.specs.Prelude.{◌≡◌, ◌⊎◌, ℕ, ◌<◌, Bool, true, false, List, ℤ, Some}
use Rattle.proof_theory.specs.declared.literal.Literal.{Literal}
use Rattle.proof_theory.specs.Forms.{Form, Holds, Satisfies, Rises, coefficient, sorted}
use Rattle.proof_theory.specs.Rules.{sum_of, times_of, divide_of, saturate_of, is_contradiction}
use Rattle.proof_theory.specs.Slack.{Setting, conflict, after, refutes, negations, clause_holds, clause_form, axiom_form}
use Rattle.proof_theory.specs.Propagation.{IsAmong, Value, with_value, ForcesValue, IsForced, HasConflict, Extends, Closes, closes}

-- Sorting terms keeps each coefficient, and there is one sorted list for given coefficients.
pub record SortLaws : Type 0 where
  pub rises : (ts : List (ℕ × ℤ)) → Rises 0 (sorted ts)
  pub same : (ts : List (ℕ × ℤ)) (v : ℕ) → coefficient (sorted ts) v ≡ coefficient ts v
  pub one : (ts us : List (ℕ × ℤ)) → Rises 0 ts → Rises 0 us → ((v : ℕ)
      → coefficient ts v ≡ coefficient us v) → ts ≡ us

-- Each rule keeps every 0/1 list that satisfies its operands.
pub record RuleLaws : Type 0 where
  pub axiom_holds : (l : Literal) (a : ℕ → Bool) → Holds (axiom_form l) a
  pub sum : (f g : Form) (a : ℕ → Bool) → Holds f a → Holds g a → Holds (sum_of f g) a
  pub times : (n : ℕ) (f : Form) (a : ℕ → Bool) → Holds f a → Holds (times_of n f) a
  pub divide : (n : ℕ) (f : Form) (a : ℕ → Bool) → 0 < n → Holds f a → Holds (divide_of n f) a
  pub saturate : (f : Form) (a : ℕ → Bool) → Holds f a → Holds (saturate_of f) a
  pub contradiction : (f : Form) (a : ℕ → Bool) → is_contradiction f ≡ true → Holds f a → ⊥

-- Where the negations of a clause are refuted along forms, every 0/1 list that satisfies these satisfies the clause.
pub record RefutationLaws : Type 0 where
  pub refuted : (ls : List Literal) (fs : List Form) → refutes (negations ls) fs ≡ true
      → (a : ℕ → Bool) → Satisfies fs a → clause_holds a ls ≡ true
  pub clause : (ls : List Literal) (a : ℕ → Bool) → clause_holds a ls ≡ true
      → Holds (clause_form ls) a

-- What unit propagation over all forms comes to does not depend on its order: what is forced stays forced, or is true, or its form is
-- in conflict; so the computed form says exactly whether some order of literals leads to a conflict.
pub record PropagationLaws : Type 0 where
  pub found : (s : Setting) (fs : List Form) → closes s fs ≡ true → Closes s fs
  pub complete : (s : Setting) (fs : List Form) → Closes s fs → closes s fs ≡ true
  pub stays : (s t : Setting) (f : Form) (l : Value) → Extends t s → ForcesValue s f l
      → ForcesValue t f l ⊎ ((t l.0 ≡ Some l.1) ⊎ (conflict t f ≡ true))
  pub wider : (s t : Setting) (fs : List Form) → Extends t s → Closes s fs → Closes t fs
  pub more : (s : Setting) (fs gs : List Form) → ((f : Form) → IsAmong f fs → IsAmong f gs)
      → Closes s fs → Closes s gs
  pub after : (s : Setting) (f : Form) (fs : List Form) → IsAmong f fs
      → closes (after s f) fs ≡ closes s fs
  pub step : (s : Setting) (fs : List Form) (l : Value) → IsForced s fs l
      → closes (with_value s l) fs ≡ closes s fs
  pub rest : (s : Setting) (fs : List Form) → ((l : Value) → IsForced s fs l → ⊥)
      → (HasConflict s fs → ⊥) → closes s fs ≡ false

-- What a refutation along forms shows, unit propagation over them and any others shows too; and a clause whose negations are closed
-- over forms holds wherever these forms hold.
pub record ClosureLaws : Type 0 where
  pub refuted : (s : Setting) (fs gs : List Form) → ((f : Form) → IsAmong f fs → IsAmong f gs)
      → refutes s fs ≡ true → Closes s gs
  pub clause : (ls : List Literal) (fs : List Form) → Closes (negations ls) fs
      → (a : ℕ → Bool) → Satisfies fs a → clause_holds a ls ≡ true
