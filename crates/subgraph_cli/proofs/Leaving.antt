-- What calls one after the other leave of the files and of the output.

use Rattle.std.specs.Prelude.{◌≡◌, ℕ, ◌⊎◌, Bool, List, Option, Result, Ok, Err, IfErr, IsErrAnd, IsErrOf, refl}
use Rattle.std.proofs.Common.{subst, inr}
use Rattle.outer_io.specs.Faults.{Use}
use Rattle.outer_io.specs.Sinks.{Spot}
use Rattle.subgraph_cli.specs.Disk.{Disk, disk, KeepsFiles}
use Rattle.subgraph_cli.specs.Streams.{Stream, stream}
use Rattle.subgraph_cli.specs.Stops.{HasCause}
use Rattle.subgraph_cli.specs.Leaving.{OnlyReads, OnlyWrites, OnlyPrints}
use Rattle.subgraph_cli.specs.declared.stop.Stop.{Stop}
use Rattle.subgraph_cli.specs.declared.stop.Stop.TheVariants.{Refused, FilesFault, OutputFault, NoMemory}
use Rattle.subgraph_cli.proofs.Ends.{ok_quiet}
use Rattle.subgraph_cli.proofs.Passing.{if_err_passed, quiet_passed, sink_kept}
use Rattle.subgraph_cli.proofs.Told.{disk_on, keeps_on, keeps_then, keeps_but}

-- A cause of one is a cause of more.
pub cause_of_more : (s : Stop) (blame more : Disk → Type 0) (d : Disk) → (blame d → more d) → HasCause s blame d → HasCause s more d
cause_of_more FilesFault blame more d wider cause = record { rose = cause.rose; of_one = wider cause.of_one }
cause_of_more OutputFault blame more d wider cause = tt
cause_of_more (Refused role fault) blame more d wider cause = tt
cause_of_more NoMemory blame more d wider cause = tt

-- ---- the files

-- What was read well is read well, whatever comes of it.
pub reads_other : {S A B : Type 0} {tells : S → Bool} {content : S → List ℕ → Option (List ℕ)} {faults : S → ℕ} {fault_at : S → Option Use} {blame more : Disk → Type 0} {a : A} {r : Result B Stop} {old new : S}
    → OnlyReads tells content faults fault_at blame (Ok a) old new → IfErr r (λ s. HasCause s more (disk tells content faults fault_at old new)) → OnlyReads tells content faults fault_at more r old new
reads_other {faults = faults} {a = a} {old = old} {new = new} x cause = record { kept = x.kept; cause = cause; quiet = inr (ok_quiet a FilesFault (faults old) (faults new) x.quiet) }

-- A stop that is handed on.
pub reads_stop : {S A B : Type 0} {tells : S → Bool} {content : S → List ℕ → Option (List ℕ)} {faults : S → ℕ} {fault_at : S → Option Use} {blame more : Disk → Type 0} {r : Result B Stop} {s : Stop} {old new : S}
    → IsErrAnd r (λ y. y ≡ s) → OnlyReads {T = A} tells content faults fault_at blame (Err s) old new
    → (HasCause s blame (disk tells content faults fault_at old new) → HasCause s more (disk tells content faults fault_at old new)) → OnlyReads tells content faults fault_at more r old new
reads_stop {A = A} {tells = tells} {content = content} {faults = faults} {fault_at = fault_at} {more = more} {r = r} {s = s} {old = old} {new = new} is x wider = record {
  kept = x.kept;
  cause = if_err_passed r s (λ t. HasCause t more (disk tells content faults fault_at old new)) is (wider x.cause);
  quiet = quiet_passed {B = A} r (Err s) s FilesFault (faults old) (faults old) (faults new) is refl refl x.quiet;
}

-- A read of files that were kept, where no call had failed.
pub reads_after : {S B : Type 0} {tells : S → Bool} {content : S → List ℕ → Option (List ℕ)} {faults : S → ℕ} {fault_at : S → Option Use} {blame : Disk → Type 0} {r : Result B Stop} {old middle new : S}
    → KeepsFiles tells content faults old middle → faults middle ≡ faults old → OnlyReads tells content faults fault_at blame r middle new → OnlyReads tells content faults fault_at blame r old new
reads_after {tells = tells} {content = content} {faults = faults} {fault_at = fault_at} {blame = blame} {r = r} {old = old} {middle = middle} {new = new} kept none y = record {
  kept = keeps_on tells content faults old middle new kept y.kept;
  cause = subst (λ (d : Disk). IfErr r (λ s. HasCause s blame d)) (disk_on tells content faults fault_at old middle new kept none) y.cause;
  quiet = subst (λ (n : ℕ). IsErrOf r FilesFault ⊎ (faults new ≡ n)) none y.quiet;
}

-- One read after another that went well.
pub reads_then : {S A B : Type 0} {tells : S → Bool} {content : S → List ℕ → Option (List ℕ)} {faults : S → ℕ} {fault_at : S → Option Use} {before blame : Disk → Type 0} {a : A} {r : Result B Stop} {old middle new : S}
    → OnlyReads tells content faults fault_at before (Ok a) old middle → OnlyReads tells content faults fault_at blame r middle new → OnlyReads tells content faults fault_at blame r old new
reads_then {faults = faults} {a = a} {old = old} {middle = middle} x y = reads_after x.kept (ok_quiet a FilesFault (faults old) (faults middle) x.quiet) y

-- Nothing was written.
pub writes_none : {S A : Type 0} {tells : S → Bool} {content : S → List ℕ → Option (List ℕ)} {faults : S → ℕ} {fault_at : S → Option Use} {written : List ℕ → Type 0} {blame : Disk → Type 0} {r : Result A Stop} {old new : S}
    → OnlyReads tells content faults fault_at blame r old new → OnlyWrites tells content faults fault_at written blame r old new
writes_none {tells = tells} {content = content} {faults = faults} {written = written} {old = old} {new = new} x = record { kept = keeps_but tells content faults written old new x.kept; cause = x.cause; quiet = x.quiet }

-- What was written well is written well, whatever comes of it.
pub writes_other : {S A B : Type 0} {tells : S → Bool} {content : S → List ℕ → Option (List ℕ)} {faults : S → ℕ} {fault_at : S → Option Use} {written : List ℕ → Type 0} {blame more : Disk → Type 0} {a : A} {r : Result B Stop} {old new : S}
    → OnlyWrites tells content faults fault_at written blame (Ok a) old new → IfErr r (λ s. HasCause s more (disk tells content faults fault_at old new)) → OnlyWrites tells content faults fault_at written more r old new
writes_other {faults = faults} {a = a} {old = old} {new = new} x cause = record { kept = x.kept; cause = cause; quiet = inr (ok_quiet a FilesFault (faults old) (faults new) x.quiet) }

-- A stop that is handed on.
pub writes_stop : {S A B : Type 0} {tells : S → Bool} {content : S → List ℕ → Option (List ℕ)} {faults : S → ℕ} {fault_at : S → Option Use} {written : List ℕ → Type 0} {blame more : Disk → Type 0} {r : Result B Stop} {s : Stop} {old new : S}
    → IsErrAnd r (λ y. y ≡ s) → OnlyWrites {T = A} tells content faults fault_at written blame (Err s) old new
    → (HasCause s blame (disk tells content faults fault_at old new) → HasCause s more (disk tells content faults fault_at old new)) → OnlyWrites tells content faults fault_at written more r old new
writes_stop {A = A} {tells = tells} {content = content} {faults = faults} {fault_at = fault_at} {more = more} {r = r} {s = s} {old = old} {new = new} is x wider = record {
  kept = x.kept;
  cause = if_err_passed r s (λ t. HasCause t more (disk tells content faults fault_at old new)) is (wider x.cause);
  quiet = quiet_passed {B = A} r (Err s) s FilesFault (faults old) (faults old) (faults new) is refl refl x.quiet;
}

-- Writing after a read that went well.
pub writes_then : {S A B : Type 0} {tells : S → Bool} {content : S → List ℕ → Option (List ℕ)} {faults : S → ℕ} {fault_at : S → Option Use} {written : List ℕ → Type 0} {before blame : Disk → Type 0} {a : A} {r : Result B Stop} {old middle new : S}
    → OnlyReads tells content faults fault_at before (Ok a) old middle → OnlyWrites tells content faults fault_at written blame r middle new → OnlyWrites tells content faults fault_at written blame r old new
writes_then {tells = tells} {content = content} {faults = faults} {fault_at = fault_at} {written = written} {blame = blame} {a = a} {r = r} {old = old} {middle = middle} {new = new} x y =
    let none = ok_quiet a FilesFault (faults old) (faults middle) x.quiet in
    record {
      kept = keeps_then tells content faults written old middle new x.kept y.kept;
      cause = subst (λ (d : Disk). IfErr r (λ s. HasCause s blame d)) (disk_on tells content faults fault_at old middle new x.kept none) y.cause;
      quiet = subst (λ (n : ℕ). IsErrOf r FilesFault ⊎ (faults new ≡ n)) none y.quiet;
    }

-- ---- the output

-- Nothing was put to it.
pub prints_none : {S A : Type 0} {spot : S → Spot} {contents : S → Option (List ℕ)} {rest : S → List ℕ → Option (List ℕ)} {faults : S → ℕ} {leaves : Stop → Stream → Type 0} {r : Result A Stop} {o : S}
    → IfErr r (λ s. leaves s (stream spot contents faults o o)) → OnlyPrints spot contents rest faults leaves r o o
prints_none {spot = spot} {rest = rest} {faults = faults} {o = o} spares = record { sink = sink_kept spot rest faults o; spares = spares; quiet = inr refl }

-- A stop that is handed on.
pub prints_stop : {S A B : Type 0} {spot : S → Spot} {contents : S → Option (List ℕ)} {rest : S → List ℕ → Option (List ℕ)} {faults : S → ℕ} {leaves : Stop → Stream → Type 0} {r : Result B Stop} {s : Stop} {old new : S}
    → IsErrAnd r (λ y. y ≡ s) → OnlyPrints {T = A} spot contents rest faults leaves (Err s) old new → OnlyPrints spot contents rest faults leaves r old new
prints_stop {A = A} {spot = spot} {contents = contents} {faults = faults} {leaves = leaves} {r = r} {s = s} {old = old} {new = new} is x = record {
  sink = x.sink;
  spares = if_err_passed r s (λ t. leaves t (stream spot contents faults old new)) is x.spares;
  quiet = quiet_passed {B = A} r (Err s) s OutputFault (faults old) (faults old) (faults new) is refl refl x.quiet;
}

-- What was put well is put well, whatever comes of it.
pub prints_other : {S A B : Type 0} {spot : S → Spot} {contents : S → Option (List ℕ)} {rest : S → List ℕ → Option (List ℕ)} {faults : S → ℕ} {leaves : Stop → Stream → Type 0} {a : A} {b : B} {old new : S}
    → OnlyPrints spot contents rest faults leaves (Ok a) old new → OnlyPrints spot contents rest faults leaves (Ok b) old new
prints_other {faults = faults} {a = a} {old = old} {new = new} x = record { sink = x.sink; spares = tt; quiet = inr (ok_quiet a OutputFault (faults old) (faults new) x.quiet) }
