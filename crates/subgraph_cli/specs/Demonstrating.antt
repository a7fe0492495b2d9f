-- What a `demo` answers.

use Rattle.std.specs.Prelude.{◌≡◌, ◌≢◌, ℕ, ◌≤◌, ◌⊎◌, Bool, true, false, ◌&&◌, List, [], ◌++◌, length, Result, Ok, Err, codes}
use Rattle.graph_theory.specs.Graph.{size}
use Rattle.graph_theory.specs.Embedding.{Problem}
use Rattle.encoding_theory.specs.Variables.{variables}
use Rattle.encoding_theory.specs.Encoding.{encoding}
use Rattle.log_theory.specs.declared.profile.Profile.TheVariants.{Hinted}
use Rattle.log_theory.specs.declared.step.Verdict.{Verdict}
use Rattle.log_theory.specs.declared.step.Verdict.TheVariants.{Unsatisfiable}
use Rattle.log_theory.specs.Verdicts.{verdict_of}
use Rattle.log_theory.specs.Acceptance.{Accepts}
use Rattle.merged_log.specs.Profiles.{in_profile}
use Rattle.merged_log.specs.Steps.{log_text, refutation}
use Rattle.proof_collection.specs.declared.proof.Logged.{Logged}
use Rattle.search_theory.specs.Bounds.{enough}
use Rattle.search_theory.specs.Account.{Account}
use Rattle.parallel_solve.specs.Solving.{AreSpent}
use Rattle.demo_instances.specs.SeedProblems.{IsPlanted, IsCycle}
use Rattle.command_line.specs.declared.commands.DemoWords.{DemoWords}
use Rattle.subgraph_cli.specs.Lines.{line_of, stop_status}
use Rattle.subgraph_cli.specs.Streams.{Stream, Got, GotFront}
use Rattle.subgraph_cli.specs.Outcomes.{Outcome}
use Rattle.subgraph_cli.specs.Solving.{IsOrStops}
use Rattle.subgraph_cli.specs.declared.demo.Shown.{Shown}
use Rattle.subgraph_cli.specs.declared.stop.Stop.{Stop}
use Rattle.subgraph_cli.specs.declared.stop.Stop.TheVariants.{Refused, FilesFault, OutputFault, NoMemory}

-- The line of the planted problem: an embedding was found, or the budget is spent.
abbrev pub planted_text : Bool → List ℕ
planted_text true = line_of (codes "planted yes")
planted_text false = line_of (codes "planted unknown")

-- The lines of the cycle: none exists, and a log that shows it is accepted; or the budget is spent.
abbrev pub cycle_text : Bool → List ℕ
cycle_text true = line_of (codes "cycle none") ++ line_of (codes "log accepted")
cycle_text false = line_of (codes "cycle unknown")

-- The lines of both, by whether they were decided.
abbrev pub shown_text : Bool → Bool → List ℕ
shown_text planted cycle = planted_text planted ++ cycle_text cycle

-- Each worker of the demo spent the budget on the problem of this description, as their accounts show.
pub record IsSpentOn (description : Problem → Type 0) (w : DemoWords)
    (accounts : List Account) : Type 0 where
  pub problem : Problem
  pub is_described : description problem
  pub spent : AreSpent problem w.threads w.budget accounts

-- What deciding one of the two leaves of the accounts: all as they were where it was decided, and its workers' accounts after them where it was not.
abbrev pub ShowsOne : Result Bool Stop → (Problem → Type 0) → DemoWords → List Account
    → List Account → Type 0
ShowsOne (Ok true) description w old new = new ≡ old
ShowsOne (Ok false) description w old new = (more : List Account) × IsSpentOn description w more
    × (new ≡ old ++ more)
ShowsOne (Err stop) description w old new = Unit {0}

-- The text of a log of these parts, with its hints, over the encoding of the problem.
abbrev pub refuted_log : Problem → Logged → List ℕ
refuted_log q parts = in_profile Hinted (log_text (refutation (length (encoding q))
    parts.journals.items parts.rows.items parts.finisher))

-- What is told of a verdict: whether it is that no solution exists.
abbrev pub TellsRefuted : Bool → Verdict → Type 0
TellsRefuted true v = v ≡ Unsatisfiable
TellsRefuted false v = v ≢ Unsatisfiable

-- The verdict on this text, over the encoding of the problem, is that no solution exists: the text is a log that is accepted.
pub record IsRefutedBy (q : Problem) (log : List ℕ) : Type 0 where
  pub verdict : verdict_of (variables q) (encoding q) log ≡ Unsatisfiable
  pub accepts : Accepts (variables q) (encoding q) log Unsatisfiable

-- There is such a log.
abbrev pub HasRefutation : Problem → Type 0
HasRefutation q = (log : List ℕ) × IsRefutedBy q log

-- Where the cycle was decided, its problem has such a log.
abbrev pub IsLogged : Bool → DemoWords → Type 0
IsLogged true w = (q : Problem) × IsCycle w.seed q × HasRefutation q
IsLogged false w = Unit {0}

-- The accounts of the problems that were not decided, in order.
abbrev pub AreLeft : Bool → Bool → DemoWords → List Account → Type 0
AreLeft true true w accounts = accounts ≡ []
AreLeft false true w accounts = IsSpentOn (IsPlanted w.seed) w accounts
AreLeft true false w accounts = IsSpentOn (IsCycle w.seed) w accounts
AreLeft false false w accounts = (first : List Account) × (second : List Account)
    × IsSpentOn (IsPlanted w.seed) w first × IsSpentOn (IsCycle w.seed) w second
    × (accounts ≡ first ++ second)

-- What a demo says: which of the two problems of the seed were decided, or why it stopped.
abbrev pub DemoSays : Result Shown Stop → DemoWords → List Account → Stream → Type 0
DemoSays (Ok shown) w accounts out =
    AreLeft shown.planted shown.cycle w accounts × IsLogged shown.cycle w
    × Got out (shown_text shown.planted shown.cycle)
DemoSays (Err OutputFault) w accounts out = (planted cycle : Bool)
    × AreLeft planted cycle w accounts × IsLogged cycle w
    × GotFront out (shown_text planted cycle)
DemoSays (Err NoMemory) w accounts out = Unit {0}
DemoSays (Err FilesFault) w accounts out = ⊥
DemoSays (Err (Refused role fault)) w accounts out = ⊥

-- The status of an answer.
abbrev pub shown_status : Bool → Bool → ℕ
shown_status true true = 0
shown_status true false = 2
shown_status false true = 2
shown_status false false = 2

abbrev pub demo_status : Result Shown Stop → ℕ
demo_status (Ok shown) = shown_status shown.planted shown.cycle
demo_status (Err stop) = stop_status stop

-- The budget is enough for each problem of this description.
abbrev pub IsEnoughFor : (Problem → Type 0) → ℕ → Type 0
IsEnoughFor description budget = (q : Problem) → description q
    → enough (size q.pattern) (size q.target) ≤ budget

-- What the status of a demo says.
pub record DemoStatus (o : Outcome) (w : DemoWords) : Type 0 where
  pub decided : o.status ≡ 0 → AreLeft true true w o.accounts × IsLogged true w
      × Got o.out (shown_text true true)
  pub unknown : o.status ≡ 2 → (planted cycle : Bool) × (planted && cycle ≡ false)
      × AreLeft planted cycle w o.accounts × IsLogged cycle w × Got o.out (shown_text planted cycle)
  pub fault : o.status ≡ 5 → (planted cycle : Bool) × AreLeft planted cycle w o.accounts
      × IsLogged cycle w × GotFront o.out (shown_text planted cycle)
  pub answered : (o.status ≡ 0) ⊎ IsOrStops 2 o.status
  pub enough : IsEnoughFor (IsPlanted w.seed) w.budget → IsEnoughFor (IsCycle w.seed) w.budget
      → o.status ≡ 2 → ⊥
