-- What writing an encoding and then a log leaves of their two files.

use Rattle.std.specs.Prelude.{◌≡◌, ◌≢◌, ℕ, ◌≤◌, ◌⊎◌, Bool, IsTrue, List, Option, Some, Result, Ok, Err}
use Rattle.outer_io.specs.Faults.{Use, Rose}
use Rattle.outer_io.specs.declared.fault.Purpose.TheVariants.{Writing}
use Rattle.outer_io.specs.declared.fault.PutFault.{PutFault}
use Rattle.outer_io.specs.declared.fault.PutFault.TheVariants.{Failed, NoMemory}
use Rattle.proof_files.specs.Findings.{Texts}
use Rattle.proof_files.specs.OneFile.{IsCutShort}

-- The names of the encoding's file and of the log's, and the files before writing and after it: whether they tell what they hold, what they held
-- and hold, how many of their calls had failed before and have after, and of which file the last call was that failed.
pub record TwoFiles : Type 0 where
  pub encoding : List ℕ
  pub log : List ℕ
  pub tells : Bool
  pub before : List ℕ → Option (List ℕ)
  pub after : List ℕ → Option (List ℕ)
  pub faults_before : ℕ
  pub faults_after : ℕ
  pub fault_at : Option Use

-- Two files from their first state to their last one.
abbrev pub two_files : {S : Type 0} → (S → Bool) → (S → List ℕ → Option (List ℕ)) → (S → ℕ)
    → (S → Option Use) → List ℕ → List ℕ → S → S → TwoFiles
two_files tells content faults fault_at encoding log old new = record {
  encoding = encoding;
  log = log;
  tells = tells old;
  before = content old;
  after = content new;
  faults_before = faults old;
  faults_after = faults new;
  fault_at = fault_at new;
}

-- Both files hold their texts.
pub record AreWhole (d : TwoFiles) (t : Texts) : Type 0 where
  pub encoding_is : d.after d.encoding ≡ Some t.encoding
  pub log_is : d.after d.log ≡ Some t.log

-- Writing stopped in the encoding's file; the log's is as it was.
pub record StopsInEncoding (d : TwoFiles) (t : Texts) : Type 0 where
  pub encoding_is : IsCutShort (d.before d.encoding) (d.after d.encoding) t.encoding
  pub log_is : d.after d.log ≡ d.before d.log

-- Writing stopped in the log's file; the encoding is whole.
pub record StopsInLog (d : TwoFiles) (t : Texts) : Type 0 where
  pub encoding_is : d.after d.encoding ≡ Some t.encoding
  pub log_is : IsCutShort (d.before d.log) (d.after d.log) t.log

-- The last call that failed was one of writing this file.
abbrev pub IsWritingOf : List ℕ → TwoFiles → Type 0
IsWritingOf name d = d.fault_at ≡ Some (name, Writing)

-- A call failed on the file in which writing stopped, and that is told of the last fault.
pub record FailsInWriting (d : TwoFiles) (t : Texts) : Type 0 where
  pub rose : Rose d.faults_before d.faults_after
  pub place : (IsWritingOf d.encoding d × (IsTrue d.tells → StopsInEncoding d t))
      ⊎ (IsWritingOf d.log d × (IsTrue d.tells → StopsInLog d t))

-- What writing both says: they are whole; a call on one of them failed; or memory was refused before the log's file was touched.
abbrev pub WritingSays : Result Unit PutFault → TwoFiles → Texts → Type 0
WritingSays (Ok done) d t = IsTrue d.tells → AreWhole d t
WritingSays (Err Failed) d t = FailsInWriting d t
WritingSays (Err NoMemory) d t = IsTrue d.tells → StopsInEncoding d t

-- Each file but these two holds what it held, and the count of faults has not fallen.
pub record KeepsOthers {S : Type 0} (tells : S → Bool) (content : S → List ℕ → Option (List ℕ))
    (faults : S → ℕ) (encoding log : List ℕ) (old new : S) : Type 0 where
  pub told : tells new ≡ tells old
  pub others : (file : List ℕ) → file ≢ encoding → file ≢ log → content new file ≡ content old file
  pub later : faults old ≤ faults new
