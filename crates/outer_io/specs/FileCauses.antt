-- What a call through a sink over one file leaves of the other files, and the cause that it gives for its answer.
use Rattle.std.specs.Prelude.{◌≡◌, ℕ, ◌≤◌, Bool, List, Option, Some, Result, OnOk, OnErr}
use Rattle.outer_io.specs.Faults.{Use, Rose}
use Rattle.outer_io.specs.Sinks.{other_content}
use Rattle.outer_io.specs.declared.fault.Purpose.TheVariants.{Writing}

-- The other files hold what they held. The count of faults stays at `Ok`; it rises at `Err`, and the last fault is then that of
-- writing this file.
pub record HasFileCause {S T E : Type 0} (tells : S → Bool) (content : S → List ℕ
    → Option (List ℕ)) (faults : S → ℕ) (fault_at : S
    → Option Use) (name : List ℕ) (old new : S) (result : Result T E) : Type 0 where
  pub same : tells new ≡ tells old
  pub others : (file : List ℕ) → other_content (content new) name file ≡ other_content
      (content old) name file
  pub later : faults old ≤ faults new
  pub quiet : OnOk result (faults new ≡ faults old)
  pub failed : OnErr result (Rose (faults old) (faults new))
  pub blame : OnErr result (fault_at new ≡ Some (name, Writing))
