-- A line that is decided tells what a solve of its job by itself decides.

use Rattle.std.specs.Prelude.{◌≡◌, ℕ, List, Option}
use Rattle.std.proofs.Common.{inl, inr, subst}
use Rattle.graph_theory.specs.LadFault.{TextLaws}
use Rattle.graph_theory.specs.Embedding.{Problem, Embeds, HasNone}
use Rattle.search_theory.specs.Account.{Account}
use Rattle.job_list.specs.Jobs.{JobText}
use Rattle.command_line.specs.Questions.{Question}
use Rattle.command_line.specs.declared.batch.BatchWords.{BatchWords}
use Rattle.command_line.specs.declared.commands.SolveWords.{SolveWords}
use Rattle.subgraph_cli.specs.Outcomes.{Outcome}
use Rattle.subgraph_cli.specs.Questions.{Asks}
use Rattle.subgraph_cli.specs.Solving.{SolveStatus, IsDecided}
use Rattle.subgraph_cli.proofs.OneProblem.{one_problem}
use Rattle.whole_program.specs.Jobs.{job_ask}
use Rattle.whole_program.specs.Batches.{Decides, VerdictOf, DecidesAsAlone}
use Rattle.whole_program.specs.declared.batch.Batched.{Batched}
use Rattle.whole_program.specs.declared.verdict.JobVerdict.{JobVerdict}
use Rattle.whole_program.specs.declared.verdict.JobVerdict.TheVariants.{Yes, Nothing, Unknown}
use Rattle.whole_program.proofs.OneBatch.{asked_at, right_at, IsOfProblem}

-- The problem that a solve answers, by what another asks.
asks_as : (s : SolveWords) (ask : Question) (p t : Option (List ℕ)) (q : Problem) → s.ask ≡ ask → Asks p t s.ask q → Asks p t ask q
asks_as s ask p t q same asks = subst (λ (a : Question). Asks p t a q) same asks

agrees : TextLaws → (v : JobVerdict) (q : Problem) (s : SolveWords) (ask : Question) (p t : Option (List ℕ)) (o : Outcome) → IsOfProblem v q
    → Asks p t ask q → s.ask ≡ ask → SolveStatus o s p t → IsDecided o.status → VerdictOf v o.status
agrees laws (Yes m) q s ask p t o right asks is status (inl found) = found
agrees laws (Yes m) q s ask p t o right asks is status (inr refuted) =
    let none = status.none refuted in
    let same = one_problem laws p t ask none.problem q (asks_as s ask p t none.problem is none.asks) asks in
    absurd (subst (λ (r : Problem). HasNone r) same none.has_none m.items right)
agrees laws Nothing q s ask p t o right asks is status (inl found) =
    let written = status.yes found in
    let same = one_problem laws p t ask written.problem q (asks_as s ask p t written.problem is written.asks) asks in
    absurd (right written.map (subst (λ (r : Problem). Embeds r written.map) same written.embeds))
agrees laws Nothing q s ask p t o right asks is status (inr refuted) = refuted
agrees laws Unknown q s ask p t o right asks is status decided = tt

pub as_alone : TextLaws → DecidesAsAlone
as_alone laws w s content accounts batched text d place job verdict o at_job at_verdict is status decided =
    let has = asked_at content w.format d.jobs d.problems place job d.asked at_job in
    let right = right_at w.budget d.problems d.verdicts accounts place has.problem verdict d.right has.at at_verdict in
    agrees laws verdict has.problem s (job_ask w.format job) (content job.pattern) (content job.target) o right has.asks is status decided
