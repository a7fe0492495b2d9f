-- How what was decided is shown and told.

use Rattle.std.specs.Prelude.{◌≡◌, ℕ, Bool, List, Option, Some, Result, Ok, Err}
use Rattle.graph_theory.specs.Embedding.{Problem, Embeds, HasNone}
use Rattle.graph_theory.specs.Mapping.{yes_text}
use Rattle.search_theory.specs.Account.{Account}
use Rattle.proof_collection.specs.declared.proof.Proof.TheVariants.{Logged}
use Rattle.proof_collection.specs.Proofs.{IsProven}
use Rattle.parallel_solve.specs.Solving.{AreSpent}
use Rattle.pb_encoding.specs.Writing.{encoding_text}
use Rattle.merged_log.specs.Profiles.{in_profile}
use Rattle.proof_files.specs.Findings.{Texts}
use Rattle.proof_files.specs.TwoFiles.{TwoFiles, StopsInEncoding, FailsInWriting}
use Rattle.proof_files.specs.declared.finding.Finding.{Finding}
use Rattle.proof_files.specs.declared.finding.Finding.TheVariants as found
use Rattle.command_line.specs.declared.commands.ProveWords.{ProveWords}
use Rattle.command_line.specs.declared.commands.SolveWords.{SolveWords}
use Rattle.subgraph_cli.specs.Disk.{Disk}
use Rattle.subgraph_cli.specs.Lines.{none_text, unknown_text}
use Rattle.subgraph_cli.specs.Proving.{ShowsMap, ShowsNone, ShowsNothing, IsLogOf, files_of}
use Rattle.subgraph_cli.specs.Streams.{Stream, Got, GotFront}
use Rattle.subgraph_cli.specs.declared.deciding.Answer.{Answer}
use Rattle.subgraph_cli.specs.declared.deciding.Answer.TheVariants as answer
use Rattle.subgraph_cli.specs.declared.stop.Stop.{Stop}
use Rattle.subgraph_cli.specs.declared.stop.Stop.TheVariants.{Refused, FilesFault, OutputFault, NoMemory}
use Rattle.subgraph_cli.specs.declared.solve.Decision.{Decision}
use Rattle.subgraph_cli.specs.declared.solve.Decision.TheVariants.{Yes, Nothing, Unknown}

-- What an answer says of the problem; a refutation comes with the lines of a log exactly where one was asked for.
abbrev pub IsRight : Answer → Problem → Bool → Type 0
IsRight (answer.Yes m) q prove = Embeds q m.items
IsRight (answer.Nothing proof) q prove = HasNone q × IsProven prove q proof
IsRight answer.Unknown q prove = Unit {0}

-- Where nothing was decided, these are the accounts of the workers that spent their budgets.
abbrev pub AreKept : Answer → Problem → SolveWords → List Account → Type 0
AreKept (answer.Yes m) q w accounts = Unit {0}
AreKept (answer.Nothing proof) q w accounts = Unit {0}
AreKept answer.Unknown q w accounts = AreSpent q w.threads w.budget accounts

-- The finding that a log tells of is that of the answer.
abbrev pub IsFindingOf : Finding → Answer → Type 0
IsFindingOf (found.Embedding map) (answer.Yes m) = map.now ≡ m.items
IsFindingOf (found.Refutation parts) (answer.Nothing (Logged lines)) = parts.now ≡ lines
IsFindingOf found.Nothing answer.Unknown = Unit {0}
IsFindingOf _ _ = ⊥

-- The decision that an answer is told as.
abbrev pub decision_of : Answer → Decision
decision_of (answer.Yes m) = Yes
decision_of (answer.Nothing proof) = Nothing
decision_of answer.Unknown = Unknown

-- Where a proof is asked for, the files hold that of the answer.
abbrev pub Shows : Answer → Option ProveWords → (List ℕ → Option (List ℕ)) → Problem → Type 0
Shows (answer.Yes m) prove held q = ShowsMap prove held q m.items
Shows (answer.Nothing proof) prove held q = ShowsNone prove held q
Shows answer.Unknown prove held q = ShowsNothing prove held q

-- A proof of the answer is asked for, and its writing stopped in this way.
pub record StopsOfAnswer (stops : TwoFiles → Texts → Type 0) (a : Answer) (q : Problem)
    (prove : Option ProveWords) (d : Disk) : Type 0 where
  pub names : ProveWords
  pub asked : prove ≡ Some names
  pub log : List ℕ
  pub log_is : IsLogOf (decision_of a) q log
  pub stopped : stops (files_of names d)
      (record { encoding = encoding_text q; log = in_profile names.profile log })

-- What leaving the proof of an answer says: the files hold it where one is asked for, or why it stopped.
abbrev pub LeavingSays : Result Unit Stop → Answer → Problem → Option ProveWords → Disk → Type 0
LeavingSays (Ok done) a q prove d = Shows a prove d.after q
LeavingSays (Err FilesFault) a q prove d = StopsOfAnswer FailsInWriting a q prove d
LeavingSays (Err NoMemory) a q prove d = StopsOfAnswer StopsInEncoding a q prove d
LeavingSays (Err OutputFault) a q prove d = ⊥
LeavingSays (Err (Refused role fault)) a q prove d = ⊥

-- Writing a proof stops for a fault of the files or for want of memory alone.
abbrev pub IsOfWriting : Stop → Type 0
IsOfWriting FilesFault = Unit {0}
IsOfWriting OutputFault = ⊥
IsOfWriting (Refused role fault) = ⊥
IsOfWriting NoMemory = Unit {0}

-- The text of an answer.
abbrev pub answer_text : Answer → List ℕ
answer_text (answer.Yes m) = yes_text m.items
answer_text (answer.Nothing proof) = none_text
answer_text answer.Unknown = unknown_text

-- What telling an answer says: the decision where its text was written, and else that the output failed within it.
abbrev pub TellingSays : Result Decision Stop → Answer → Stream → Type 0
TellingSays (Ok decision) a out = (decision ≡ decision_of a) × Got out (answer_text a)
TellingSays (Err OutputFault) a out = GotFront out (answer_text a)
TellingSays (Err NoMemory) a out = ⊥
TellingSays (Err FilesFault) a out = ⊥
TellingSays (Err (Refused role fault)) a out = ⊥
