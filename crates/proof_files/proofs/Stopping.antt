-- Where writing stopped.
use Rattle.std.proofs.Common.{◌≡◌, ◌≢◌, ℕ, List, Option, Some, Ok, Err, inl, inr, sym, subst, refl, ◌∙◌}
use Rattle.std.specs.Prelude.{◌⊎◌, IsErrOf, IsTrue}
use Rattle.outer_io.specs.Faults.{Rose}
use Rattle.outer_io.specs.NamedFiles.{SameOthers}
use Rattle.outer_io.specs.declared.fault.PutFault.{PutFault}
use Rattle.outer_io.specs.declared.fault.PutFault.TheVariants.{Failed, NoMemory}
use Rattle.proof_files.specs.Findings.{Texts}
use Rattle.proof_files.specs.OneFile.{IsCutShort, FailsAt}
use Rattle.proof_files.specs.TwoFiles.{TwoFiles, WritingSays}

-- no call failed where the answer is good
pub quiet_at_ok : {Q : Type 0} (done : Unit {0}) → IsErrOf {E = PutFault} (Ok done) Failed ⊎ Q → Q
quiet_at_ok done (inl failed) = cc
quiet_at_ok done (inr quiet) = quiet

-- in the encoding's file
pub stops_in_encoding : (e : PutFault) (d : TwoFiles) (t : Texts) → d.log ≢ d.encoding
    → (IsTrue d.tells → IsCutShort (d.before d.encoding) (d.after d.encoding) t.encoding)
    → (IsErrOf {T = Unit {0}} (Err e) Failed → FailsAt d.encoding d.faults_before d.faults_after d.fault_at)
    → SameOthers d.encoding d.before d.after
    → WritingSays (Err e) d t
stops_in_encoding Failed d t apart cut fails others =
    let failed = fails refl in
    record {
      rose = failed.rose;
      place = inl (failed.at, λ told. record { encoding_is = cut told; log_is = others d.log apart });
    }
stops_in_encoding NoMemory d t apart cut fails others = λ told. record { encoding_is = cut told; log_is = others d.log apart }

-- in the log's file, after the encoding was written: what the files held between
pub stops_in_log : (d : TwoFiles) (t : Texts) (between : List ℕ → Option (List ℕ)) (faults_between : ℕ) → d.encoding ≢ d.log
    → (IsTrue d.tells → between d.encoding ≡ Some t.encoding)
    → (IsTrue d.tells → IsCutShort (between d.log) (d.after d.log) t.log)
    → FailsAt d.log faults_between d.faults_after d.fault_at
    → faults_between ≡ d.faults_before
    → SameOthers d.encoding d.before between
    → SameOthers d.log between d.after
    → WritingSays (Err Failed) d t
stops_in_log d t between faults_between apart whole cut failed quiet first then =
    let as_before : between d.log ≡ d.before d.log = first d.log (λ e. apart (sym e)) in
    record {
      rose = subst (λ (n : ℕ). Rose n d.faults_after) quiet failed.rose;
      place = inr (
        failed.at,
        λ told. record {
          encoding_is = then d.encoding apart ∙ whole told;
          log_is = subst (λ (o : Option (List ℕ)). IsCutShort o (d.after d.log) t.log) as_before (cut told);
        },
      );
    }
