-- What a command came to is what its run says, for each command.

use Rattle.std.specs.Prelude.{◌≡◌, ℕ, ◌≤◌, ◌⊎◌, IsTrue, List, Bool, true, false, Result, Ok, Err, IfErr, IsErrOf, refl}
use Rattle.std.proofs.Common.{inl, inr, sym, subst, arith}
use Rattle.graph_theory.specs.LadFault.{TextLaws}
use Rattle.graph_theory.specs.Mapping.{MappingLaws}
use Rattle.search_theory.specs.Account.{Account}
use Rattle.command_line.specs.declared.commands.SolveWords.{SolveWords}
use Rattle.command_line.specs.declared.commands.VerifyWords.{VerifyWords}
use Rattle.command_line.specs.declared.commands.EncodeWords.{EncodeWords}
use Rattle.command_line.specs.declared.commands.CheckWords.{CheckWords}
use Rattle.command_line.specs.declared.commands.TrimWords.{TrimWords}
use Rattle.command_line.specs.declared.commands.DemoWords.{DemoWords}
use Rattle.command_line.specs.declared.commands.Command.TheVariants.{Solve, Verify, Encode, Check, Trim, Demo}
use Rattle.subgraph_cli.specs.Lines.{stop_status}
use Rattle.subgraph_cli.specs.Disk.{Disk}
use Rattle.subgraph_cli.specs.Streams.{Stream}
use Rattle.subgraph_cli.specs.Outcomes.{outcome, IsQuiet}
use Rattle.subgraph_cli.specs.Stops.{HasCause, SparesOutput, SparesInParts, TellsStop}
use Rattle.subgraph_cli.specs.Questions.{IsFaultOfTwo}
use Rattle.subgraph_cli.specs.Proving.{IsFaultOfSolve}
use Rattle.subgraph_cli.specs.Solving.{SolveSays, solve_status}
use Rattle.subgraph_cli.specs.Verifying.{VerifySays, KeepsWhenBad, IsFaultOfThree, TellsTested, verify_status}
use Rattle.subgraph_cli.specs.Encoded.{EncodeSays, encode_status}
use Rattle.subgraph_cli.specs.Checking.{CheckSays, KeepsWhenRefused, IsFaultOfCheck, TellsChecked, check_status}
use Rattle.subgraph_cli.specs.Trimming.{IsFaultOfTrim, TrimSays, KeepsWhenShort, TellsTrimming, trim_status}
use Rattle.subgraph_cli.specs.declared.trim.Trimming.{Trimming}
use Rattle.subgraph_cli.specs.declared.trim.Trimming.TheVariants as trimming
use Rattle.subgraph_cli.specs.Demonstrating.{DemoSays, demo_status, shown_status}
use Rattle.subgraph_cli.specs.Running.{IsFaultOf, IsStatusOf, IsEndOf, Ran}
use Rattle.subgraph_cli.specs.declared.stop.Stop.{Stop}
use Rattle.subgraph_cli.specs.declared.stop.Stop.TheVariants.{Refused, FilesFault, OutputFault, NoMemory}
use Rattle.subgraph_cli.specs.declared.solve.Decision.{Decision}
use Rattle.subgraph_cli.specs.declared.solve.Decision.TheVariants.{Yes, Nothing, Unknown}
use Rattle.subgraph_cli.specs.declared.verify.Tested.{Tested}
use Rattle.subgraph_cli.specs.declared.verify.Tested.TheVariants.{Embedding, NotAnEmbedding}
use Rattle.subgraph_cli.specs.declared.check.Checked.{Checked}
use Rattle.subgraph_cli.specs.declared.check.Checked.TheVariants.{Accepted, NotAccepted}
use Rattle.subgraph_cli.specs.declared.demo.Shown.{Shown}
use Rattle.subgraph_cli.proofs.Ends.{ok_quiet, answer_ends, bad_ends, stop_ends}
use Rattle.subgraph_cli.proofs.Complete.{ran}
use Rattle.subgraph_cli.proofs.SolveStatuses.{solve_status_says}
use Rattle.subgraph_cli.proofs.VerifyStatuses.{verify_status_says}
use Rattle.subgraph_cli.proofs.EncodeStatuses.{encode_status_says}
use Rattle.subgraph_cli.proofs.CheckStatuses.{check_status_says}
use Rattle.subgraph_cli.proofs.TrimStatuses.{trim_status_says}
use Rattle.subgraph_cli.proofs.DemoStatuses.{demo_status_says}

-- After an answer neither the files nor the output have failed.
answer_quiet : {A : Type 0} (answer : A) (n : ℕ) (accounts : List Account) (d : Disk) (out err : Stream)
    → (IsErrOf (Ok answer) FilesFault ⊎ (d.faults_after ≡ d.faults_before)) → (IsErrOf (Ok answer) OutputFault ⊎ (out.faults_after ≡ out.faults_before))
    → IsQuiet (outcome n accounts d out err)
answer_quiet answer n accounts d out err files output = record {
  files = ok_quiet answer FilesFault d.faults_before d.faults_after files;
  output = ok_quiet answer OutputFault out.faults_before out.faults_after output;
}

-- ---- solve

solve_stops : (w : SolveWords) (s : Stop) → IsStatusOf (Solve w) (stop_status s)
solve_stops w (Refused role fault) = inr (inr (inr (inl refl)))
solve_stops w FilesFault = inr (inr (inr (inr (inl refl))))
solve_stops w OutputFault = inr (inr (inr (inr (inl refl))))
solve_stops w NoMemory = inr (inr (inr (inr (inr refl))))

solve_ends : (r : Result Decision Stop) (w : SolveWords) (accounts : List Account) (d : Disk) (out err : Stream)
    → IfErr r (λ (s : Stop). HasCause s (IsFaultOfSolve w) d) → IfErr r (λ (s : Stop). SparesOutput s out)
    → (IsErrOf r FilesFault ⊎ (d.faults_after ≡ d.faults_before)) → (IsErrOf r OutputFault ⊎ (out.faults_after ≡ out.faults_before))
    → TellsStop r err → IsEndOf (Solve w) (outcome (solve_status r) accounts d out err)
solve_ends (Ok Yes) w accounts d out err cause spares files output line =
    answer_ends (Solve w) 0 accounts d out err (omega arith) (inl refl) line (answer_quiet Yes 0 accounts d out err files output)
solve_ends (Ok Nothing) w accounts d out err cause spares files output line =
    answer_ends (Solve w) 1 accounts d out err (omega arith) (inr (inl refl)) line (answer_quiet Nothing 1 accounts d out err files output)
solve_ends (Ok Unknown) w accounts d out err cause spares files output line =
    answer_ends (Solve w) 2 accounts d out err (omega arith) (inr (inr (inl refl))) line (answer_quiet Unknown 2 accounts d out err files output)
solve_ends (Err s) w accounts d out err cause spares files output line =
    stop_ends (Solve w) (Err s) s accounts d out err refl (solve_stops w s) cause spares files output line

-- A run of `solve`.
pub solve_ran : TextLaws → (r : Result Decision Stop) (w : SolveWords) (accounts : List Account) (d : Disk) (out err : Stream) (status : ℕ)
    → (IsTrue d.tells → SolveSays r w (d.content w.pattern) (d.content w.target) accounts d out)
    → IfErr r (λ (s : Stop). HasCause s (IsFaultOfSolve w) d) → IfErr r (λ (s : Stop). SparesOutput s out)
    → (IsErrOf r FilesFault ⊎ (d.faults_after ≡ d.faults_before)) → (IsErrOf r OutputFault ⊎ (out.faults_after ≡ out.faults_before))
    → TellsStop r err → status ≡ solve_status r → Ran (Solve w) (outcome status accounts d out err)
solve_ran laws r w accounts d out err status says cause spares files output line is =
    subst (λ (n : ℕ). Ran (Solve w) (outcome n accounts d out err)) (sym is)
    (ran (Solve w) (outcome (solve_status r) accounts d out err)
    (λ told. solve_status_says laws r w (d.content w.pattern) (d.content w.target) accounts d out err (says told) spares line)
    (solve_ends r w accounts d out err cause spares files output line))

-- ---- verify

verify_stops : (w : VerifyWords) (s : Stop) → IsStatusOf (Verify w) (stop_status s)
verify_stops w (Refused role fault) = inr (inl refl)
verify_stops w FilesFault = inr (inr (inl refl))
verify_stops w OutputFault = inr (inr (inl refl))
verify_stops w NoMemory = inr (inr (inr (inl refl)))

verify_ends : (r : Result Tested Stop) (w : VerifyWords) (accounts : List Account) (d : Disk) (out err : Stream)
    → IfErr r (λ (s : Stop). HasCause s (IsFaultOfThree w) d) → IfErr r (λ (s : Stop). SparesOutput s out) → KeepsWhenBad r out
    → (IsErrOf r FilesFault ⊎ (d.faults_after ≡ d.faults_before)) → (IsErrOf r OutputFault ⊎ (out.faults_after ≡ out.faults_before))
    → TellsTested r err → IsEndOf (Verify w) (outcome (verify_status r) accounts d out err)
verify_ends (Ok Embedding) w accounts d out err cause spares kept files output line =
    answer_ends (Verify w) 0 accounts d out err (omega arith) (inl refl) line (answer_quiet Embedding 0 accounts d out err files output)
verify_ends (Ok NotAnEmbedding) w accounts d out err cause spares kept files output line =
    bad_ends (Verify w) accounts d out err (inr (inr (inr (inr refl)))) kept line (answer_quiet NotAnEmbedding 7 accounts d out err files output)
verify_ends (Err s) w accounts d out err cause spares kept files output line =
    stop_ends (Verify w) (Err s) s accounts d out err refl (verify_stops w s) cause spares files output line

-- A run of `verify`.
pub verify_ran : TextLaws → MappingLaws → (r : Result Tested Stop) (w : VerifyWords) (accounts : List Account) (d : Disk) (out err : Stream) (status : ℕ)
    → (IsTrue d.tells → VerifySays r w (d.content w.pattern) (d.content w.target) (d.content w.mapping) out)
    → IfErr r (λ (s : Stop). HasCause s (IsFaultOfThree w) d) → IfErr r (λ (s : Stop). SparesOutput s out) → KeepsWhenBad r out
    → (IsErrOf r FilesFault ⊎ (d.faults_after ≡ d.faults_before)) → (IsErrOf r OutputFault ⊎ (out.faults_after ≡ out.faults_before))
    → TellsTested r err → status ≡ verify_status r → Ran (Verify w) (outcome status accounts d out err)
verify_ran texts maps r w accounts d out err status says cause spares kept files output line is =
    subst (λ (n : ℕ). Ran (Verify w) (outcome n accounts d out err)) (sym is)
    (ran (Verify w) (outcome (verify_status r) accounts d out err)
    (λ told. verify_status_says texts maps r w (d.content w.pattern) (d.content w.target) (d.content w.mapping) accounts d out err (says told) spares line)
    (verify_ends r w accounts d out err cause spares kept files output line))

-- ---- encode

encode_stops : (w : EncodeWords) (s : Stop) → IsStatusOf (Encode w) (stop_status s)
encode_stops w (Refused role fault) = inr (inl refl)
encode_stops w FilesFault = inr (inr (inl refl))
encode_stops w OutputFault = inr (inr (inl refl))
encode_stops w NoMemory = inr (inr (inr refl))

encode_ends : (r : Result Unit Stop) (w : EncodeWords) (accounts : List Account) (d : Disk) (out err : Stream)
    → IfErr r (λ (s : Stop). HasCause s (IsFaultOfTwo w.pattern w.target w.ask) d) → IfErr r (λ (s : Stop). SparesInParts s out)
    → (IsErrOf r FilesFault ⊎ (d.faults_after ≡ d.faults_before)) → (IsErrOf r OutputFault ⊎ (out.faults_after ≡ out.faults_before))
    → TellsStop r err → IsEndOf (Encode w) (outcome (encode_status r) accounts d out err)
encode_ends (Ok done) w accounts d out err cause spares files output line =
    answer_ends (Encode w) 0 accounts d out err (omega arith) (inl refl) line (answer_quiet done 0 accounts d out err files output)
encode_ends (Err s) w accounts d out err cause spares files output line =
    stop_ends (Encode w) (Err s) s accounts d out err refl (encode_stops w s) cause spares files output line

-- A run of `encode`.
pub encode_ran : TextLaws → (r : Result Unit Stop) (w : EncodeWords) (accounts : List Account) (d : Disk) (out err : Stream) (status : ℕ)
    → (IsTrue d.tells → EncodeSays r w (d.content w.pattern) (d.content w.target) out)
    → IfErr r (λ (s : Stop). HasCause s (IsFaultOfTwo w.pattern w.target w.ask) d) → IfErr r (λ (s : Stop). SparesInParts s out)
    → (IsErrOf r FilesFault ⊎ (d.faults_after ≡ d.faults_before)) → (IsErrOf r OutputFault ⊎ (out.faults_after ≡ out.faults_before))
    → TellsStop r err → status ≡ encode_status r → Ran (Encode w) (outcome status accounts d out err)
encode_ran laws r w accounts d out err status says cause spares files output line is =
    subst (λ (n : ℕ). Ran (Encode w) (outcome n accounts d out err)) (sym is)
    (ran (Encode w) (outcome (encode_status r) accounts d out err)
    (λ told. encode_status_says laws r w (d.content w.pattern) (d.content w.target) accounts d out err (says told) spares line)
    (encode_ends r w accounts d out err cause spares files output line))

-- ---- check

check_stops : (w : CheckWords) (s : Stop) → IsStatusOf (Check w) (stop_status s)
check_stops w (Refused role fault) = inr (inl refl)
check_stops w FilesFault = inr (inr (inl refl))
check_stops w OutputFault = inr (inr (inl refl))
check_stops w NoMemory = inr (inr (inr (inl refl)))

check_ends : (r : Result Checked Stop) (w : CheckWords) (accounts : List Account) (d : Disk) (out err : Stream)
    → IfErr r (λ (s : Stop). HasCause s (IsFaultOfCheck w) d) → IfErr r (λ (s : Stop). SparesOutput s out) → KeepsWhenRefused r out
    → (IsErrOf r FilesFault ⊎ (d.faults_after ≡ d.faults_before)) → (IsErrOf r OutputFault ⊎ (out.faults_after ≡ out.faults_before))
    → TellsChecked r err → IsEndOf (Check w) (outcome (check_status r) accounts d out err)
check_ends (Ok (Accepted claim)) w accounts d out err cause spares kept files output line =
    answer_ends (Check w) 0 accounts d out err (omega arith) (inl refl) line (answer_quiet (Accepted claim) 0 accounts d out err files output)
check_ends (Ok (NotAccepted k why)) w accounts d out err cause spares kept files output line =
    bad_ends (Check w) accounts d out err (inr (inr (inr (inr refl)))) kept (k, why, line) (answer_quiet (NotAccepted k why) 7 accounts d out err files output)
check_ends (Err s) w accounts d out err cause spares kept files output line =
    stop_ends (Check w) (Err s) s accounts d out err refl (check_stops w s) cause spares files output line

-- A run of `check`.
pub check_ran : (r : Result Checked Stop) (w : CheckWords) (accounts : List Account) (d : Disk) (out err : Stream) (status : ℕ)
    → (IsTrue d.tells → CheckSays r (d.content w.encoding) (d.content w.log) out)
    → IfErr r (λ (s : Stop). HasCause s (IsFaultOfCheck w) d) → IfErr r (λ (s : Stop). SparesOutput s out) → KeepsWhenRefused r out
    → (IsErrOf r FilesFault ⊎ (d.faults_after ≡ d.faults_before)) → (IsErrOf r OutputFault ⊎ (out.faults_after ≡ out.faults_before))
    → TellsChecked r err → status ≡ check_status r → Ran (Check w) (outcome status accounts d out err)
check_ran r w accounts d out err status says cause spares kept files output line is =
    subst (λ (n : ℕ). Ran (Check w) (outcome n accounts d out err)) (sym is)
    (ran (Check w) (outcome (check_status r) accounts d out err)
    (λ told. check_status_says r (d.content w.encoding) (d.content w.log) accounts d out err (says told) spares line)
    (check_ends r w accounts d out err cause spares kept files output line))

-- ---- trim

trim_stops : (w : TrimWords) (s : Stop) → IsStatusOf (Trim w) (stop_status s)
trim_stops w (Refused role fault) = inr (inl refl)
trim_stops w FilesFault = inr (inr (inl refl))
trim_stops w OutputFault = inr (inr (inl refl))
trim_stops w NoMemory = inr (inr (inr (inl refl)))

trim_ends : (r : Result Trimming Stop) (w : TrimWords) (accounts : List Account) (d : Disk) (out err : Stream)
    → IfErr r (λ (s : Stop). HasCause s (IsFaultOfTrim w) d) → IfErr r (λ (s : Stop). SparesOutput s out) → KeepsWhenShort r out
    → (IsErrOf r FilesFault ⊎ (d.faults_after ≡ d.faults_before)) → (IsErrOf r OutputFault ⊎ (out.faults_after ≡ out.faults_before))
    → TellsTrimming r err → IsEndOf (Trim w) (outcome (trim_status r) accounts d out err)
trim_ends (Ok (trimming.Shortened k m)) w accounts d out err cause spares kept files output line =
    answer_ends (Trim w) 0 accounts d out err (omega arith) (inl refl) line (answer_quiet (trimming.Shortened k m) 0 accounts d out err files output)
trim_ends (Ok (trimming.NotAccepted k why)) w accounts d out err cause spares kept files output line =
    bad_ends (Trim w) accounts d out err (inr (inr (inr (inr refl)))) kept (k, why, line) (answer_quiet (trimming.NotAccepted k why) 7 accounts d out err files output)
trim_ends (Err s) w accounts d out err cause spares kept files output line =
    stop_ends (Trim w) (Err s) s accounts d out err refl (trim_stops w s) cause spares files output line

-- A run of `trim`.
pub trim_ran : (r : Result Trimming Stop) (w : TrimWords) (accounts : List Account) (d : Disk) (out err : Stream) (status : ℕ)
    → (IsTrue d.tells → TrimSays r w (d.content w.encoding) (d.content w.log) d out)
    → IfErr r (λ (s : Stop). HasCause s (IsFaultOfTrim w) d) → IfErr r (λ (s : Stop). SparesOutput s out) → KeepsWhenShort r out
    → (IsErrOf r FilesFault ⊎ (d.faults_after ≡ d.faults_before)) → (IsErrOf r OutputFault ⊎ (out.faults_after ≡ out.faults_before))
    → TellsTrimming r err → status ≡ trim_status r → Ran (Trim w) (outcome status accounts d out err)
trim_ran r w accounts d out err status says cause spares kept files output line is =
    subst (λ (n : ℕ). Ran (Trim w) (outcome n accounts d out err)) (sym is)
    (ran (Trim w) (outcome (trim_status r) accounts d out err)
    (λ told. trim_status_says r w (d.content w.encoding) (d.content w.log) accounts d out err (says told) spares line)
    (trim_ends r w accounts d out err cause spares kept files output line))

-- ---- demo

-- A demo stops for a fault of the output or for want of memory alone.
demo_stops : (s : Stop) (w : DemoWords) (accounts : List Account) (out : Stream) → DemoSays (Err s) w accounts out → IsStatusOf (Demo w) (stop_status s)
demo_stops (Refused role fault) w accounts out says = absurd says
demo_stops FilesFault w accounts out says = absurd says
demo_stops OutputFault w accounts out says = inr (inr (inl refl))
demo_stops NoMemory w accounts out says = inr (inr (inr refl))

demo_cause : (s : Stop) (w : DemoWords) (accounts : List Account) (d : Disk) (out : Stream) → DemoSays (Err s) w accounts out → HasCause s (IsFaultOf (Demo w)) d
demo_cause (Refused role fault) w accounts d out says = absurd says
demo_cause FilesFault w accounts d out says = absurd says
demo_cause OutputFault w accounts d out says = tt
demo_cause NoMemory w accounts d out says = tt

shown_low : (p c : Bool) → shown_status p c ≤ 2
shown_low true true = omega arith
shown_low true false = omega arith
shown_low false true = omega arith
shown_low false false = omega arith

shown_is : (w : DemoWords) (p c : Bool) → IsStatusOf (Demo w) (shown_status p c)
shown_is w true true = inl refl
shown_is w true false = inr (inl refl)
shown_is w false true = inr (inl refl)
shown_is w false false = inr (inl refl)

demo_ends : (r : Result Shown Stop) (w : DemoWords) (accounts : List Account) (d : Disk) (out err : Stream) → DemoSays r w accounts out
    → IfErr r (λ (s : Stop). SparesOutput s out)
    → d.faults_after ≡ d.faults_before → (IsErrOf r OutputFault ⊎ (out.faults_after ≡ out.faults_before))
    → TellsStop r err → IsEndOf (Demo w) (outcome (demo_status r) accounts d out err)
demo_ends (Ok shown) w accounts d out err says spares files output line =
    answer_ends (Demo w) (shown_status shown.planted shown.cycle) accounts d out err (shown_low shown.planted shown.cycle) (shown_is w shown.planted shown.cycle) line
    (answer_quiet shown (shown_status shown.planted shown.cycle) accounts d out err (inr files) output)
demo_ends (Err s) w accounts d out err says spares files output line =
    stop_ends (Demo w) (Err s) s accounts d out err refl (demo_stops s w accounts out says) (demo_cause s w accounts d out says) spares (inr files) output line

-- A run of `demo`.
pub demo_ran : (r : Result Shown Stop) (w : DemoWords) (accounts : List Account) (d : Disk) (out err : Stream) (status : ℕ)
    → DemoSays r w accounts out → IfErr r (λ (s : Stop). SparesOutput s out)
    → d.faults_after ≡ d.faults_before → (IsErrOf r OutputFault ⊎ (out.faults_after ≡ out.faults_before))
    → TellsStop r err → status ≡ demo_status r → Ran (Demo w) (outcome status accounts d out err)
demo_ran r w accounts d out err status says spares files output line is =
    subst (λ (n : ℕ). Ran (Demo w) (outcome n accounts d out err)) (sym is)
    (ran (Demo w) (outcome (demo_status r) accounts d out err) (demo_status_says r w accounts d out err says)
    (demo_ends r w accounts d out err says spares files output line))
