-- What an answer of the code says of the answer that the definitions give: the same value, the same cause, or nothing where memory was refused.
use Rattle.std.specs.Prelude.{◌≡◌, ℕ, Result, Ok, Err}
use Rattle.log_theory.specs.declared.step.Cause.{Cause as Reason}
use Rattle.log_theory.specs.declared.step.Verdict.TheVariants.{Satisfiable}
use Rattle.log_theory.specs.Verdicts.{Progress, Ends}
use Rattle.pb_propagation.specs.declared.fault.LineFault.{LineFault}
use Rattle.pb_propagation.specs.declared.fault.LineFault.TheVariants.{Cause, NoMemory}

-- The value, or the cause.
abbrev pub Told : {A : Type 0} → Result A LineFault → Result A Reason → Type 0
Told (Ok x) r = r ≡ Ok x
Told (Err (Cause e)) r = r ≡ Err e
Told (Err NoMemory) r = Unit {0}

-- A test passed, or its cause.
abbrev pub Passes : {A : Type 0} → Result A Reason → Result ℕ Reason → Type 0
Passes (Ok x) r = r ≡ Ok 0
Passes (Err e) r = r ≡ Err e

-- What is left is what the definitions lead to, or the cause; where memory was refused nothing is said.
abbrev pub Leads : {A B : Type 0} → Result A LineFault → Result B Reason → B → Type 0
Leads (Ok x) r next = r ≡ Ok next
Leads (Err (Cause e)) r next = r ≡ Err e
Leads (Err NoMemory) r next = Unit {0}

-- The claim of a solution stands, or its cause.
abbrev pub Solves : {A : Type 0} → Result A LineFault → Result Progress Reason → Type 0
Solves (Ok x) r = r ≡ Ok (Ends Satisfiable)
Solves (Err (Cause e)) r = r ≡ Err e
Solves (Err NoMemory) r = Unit {0}
