-- What follows a line's name and what it makes.
use Rattle.std.proofs.Common.{Result, Err, ap}
use Rattle.log_theory.specs.declared.step.Cause.{Cause as Reason}
use Rattle.log_theory.specs.Steps.{◌>>=◌}
use Rattle.proof_theory.specs.Forms.{Form}
use Rattle.log_theory.specs.Tables.{Table}
use Rattle.pb_propagation.specs.declared.fault.LineFault.{LineFault}
use Rattle.pb_propagation.specs.declared.fault.LineFault.TheVariants.{Cause, NoMemory}
use Rattle.pb_propagation.specs.Told.{Told, Leads}

-- A fault of what is made is the line's.
pub failed : (fault : LineFault) (r : Result Form Reason) (f : Form → Result Table Reason) (next : Table)
    → (let x : Result Form LineFault = Err fault in Told x r) → (let y : Result Form LineFault = Err fault in Leads y (r >>= f) next)
failed (Cause e) r f next h = ap (λ (x : Result Form Reason). x >>= f) h
failed NoMemory r f next h = tt
