-- What the lines of a proof log make, as a function of a lookup of references. Tables and journals give such lookups.
use Rattle.std.specs.Prelude.{ℕ, ◌^◌, Bool, true, false, not, ◌==◌, ◌&&◌, ◌||◌, nat_le, List, [], ◌∷◌, Option, Result, Ok, Err, unsigned_abs}
use Rattle.proof_theory.specs.declared.literal.Literal.{Literal}
use Rattle.log_theory.specs.declared.step.Ref.{Ref}
use Rattle.log_theory.specs.declared.step.Ref.TheVariants.{Made}
use Rattle.log_theory.specs.declared.step.Op.{Op}
use Rattle.log_theory.specs.declared.step.Op.TheVariants.{Push, Axiom, Add, Times, Divide, Saturate}
use Rattle.log_theory.specs.declared.step.Step.{Step}
use Rattle.log_theory.specs.declared.step.Step.TheVariants.{P, U, N}
use Rattle.log_theory.specs.declared.step.Cause.{Cause}
use Rattle.log_theory.specs.declared.step.Cause.TheVariants.{Form as Malformed, Twice, NoSuchName, Stack, Zero, Wide, NoConflict}
use Rattle.proof_theory.specs.Forms.{Form, size}
use Rattle.proof_theory.specs.Rules.{sum_of, times_of, divide_of, saturate_of}
use Rattle.proof_theory.specs.Slack.{refutes, negations, clause_form, axiom_form}
use Rattle.proof_theory.specs.Propagation.{closes}
use Rattle.log_theory.specs.Steps.{◌>>=◌, unless, or_fault}

-- What each reference names, if anything.
abbrev pub Lookup : Type 0
Lookup = Ref → Option Form

-- A form that is not too wide for exact arithmetic.
abbrev pub narrow : Form → Result Form Cause
narrow f = unless (nat_le (unsigned_abs f.bound) (2 ^ 125)
    && nat_le (size f.terms) (2 ^ 125)) Wide >>= λ _. Ok f

-- A rule on the top of the stack.
abbrev pub on_top : (Form → Form) → List Form → Result (List Form) Cause
on_top rule [] = Err Stack
on_top rule (f ∷ stack) = narrow (rule f) >>= λ g. Ok (g ∷ stack)

-- A rule on the upper two of the stack.
abbrev pub on_two : (Form → Form → Form) → List Form → Result (List Form) Cause
on_two rule (g ∷ f ∷ stack) = narrow (rule f g) >>= λ h. Ok (h ∷ stack)
on_two rule _ = Err Stack

-- One operation on the stack: a number that is 0 comes before a stack that is too short, and that before a form that is too wide.
abbrev pub operate : Lookup → List Form → Op → Result (List Form) Cause
operate look stack (Push r) = or_fault (look r) NoSuchName >>= λ f. Ok (f ∷ stack)
operate look stack (Axiom l) = Ok (axiom_form l ∷ stack)
operate look stack Add = on_two sum_of stack
operate look stack (Times n) = unless (not (n == 0)) Zero >>= λ _. on_top (times_of n) stack
operate look stack (Divide n) = unless (not (n == 0)) Zero >>= λ _. on_top (divide_of n) stack
operate look stack Saturate = on_top saturate_of stack

-- Operations in order, from the left.
abbrev pub evaluate : Lookup → List Form → List Op → Result (List Form) Cause
evaluate look stack [] = Ok stack
evaluate look stack (o ∷ os) = operate look stack o >>= λ next. evaluate look next os

-- The one form that is left.
abbrev pub only_one : List Form → Result Form Cause
only_one (f ∷ []) = Ok f
only_one _ = Err Stack

-- The forms of references, looked up in order.
abbrev pub find_all : Lookup → List Ref → Result (List Form) Cause
find_all look [] = Ok []
find_all look (r ∷ rs) = or_fault (look r) NoSuchName >>= λ f. find_all look rs >>= λ fs. Ok
    (f ∷ fs)

-- Whether the number stands in the list.
abbrev pub is_among : ℕ → List ℕ → Bool
is_among v [] = false
is_among v (w ∷ ws) = (w == v) || is_among v ws

-- Whether no number stands in the list twice.
abbrev pub are_distinct : List ℕ → Bool
are_distinct [] = true
are_distinct (v ∷ vs) = not (is_among v vs) && are_distinct vs

-- The variables of literals.
abbrev pub variables_of : List Literal → List ℕ
variables_of [] = []
variables_of (l ∷ ls) = l.variable ∷ variables_of ls

-- The form that a line makes, or its first fault but those of its own name.
abbrev pub makes : Lookup → Step → Result Form Cause
makes look (P name ops) = evaluate look [] ops >>= λ stack. only_one stack
makes look (U name lits refs) =
    unless (are_distinct (variables_of lits)) Twice >>= λ _. find_all look refs >>= λ fs. unless
    (refutes (negations lits) fs) NoConflict >>= λ _. Ok (clause_form lits)
makes look (N row name) = or_fault (look (Made name)) NoSuchName
makes look _ = Err Malformed

-- The clause that a line without hints makes over some forms, or its first fault but those of its own name: unit propagation over all of
-- them has to come to a conflict.
abbrev pub closed_clause : List Form → List Literal → Result Form Cause
closed_clause fs lits =
    unless (are_distinct (variables_of lits)) Twice >>= λ _. unless (closes
    (negations lits) fs) NoConflict >>= λ _. Ok (clause_form lits)
