-- What the status of a call that may be ended says.

use Rattle.std.specs.Prelude.{◌≡◌, ℕ, Bool, true, List, length, Result, Ok, Err, refl}
use Rattle.std.proofs.Common.{inl, inr}
use Rattle.graph_theory.specs.LadFault.{TextLaws}
use Rattle.parallel_solve.specs.declared.answers.Interrupted.{Interrupted}
use Rattle.subgraph_c.specs.Asking.{Call}
use Rattle.subgraph_c.specs.Deciding.{EndSays}
use Rattle.subgraph_c.specs.Stopping.{StopStatus, end_status, end_report, images_at_end}
use Rattle.subgraph_c.specs.declared.passed.Report.{Report}
use Rattle.subgraph_c.specs.declared.deciding.Decision.{Decision}
use Rattle.subgraph_c.proofs.DecideStatuses.{decide_status_says}

pub stop_status_says : TextLaws → (e : Result Decision Interrupted) (c : Call) (there : Bool) (before after : List ℕ) (report : Report) → EndSays e c (length before)
    → there ≡ true → after ≡ images_at_end e before → report ≡ end_report e → StopStatus (end_status e) c there before after report
stop_status_says laws (Ok d) c there before after report says is left told = inr (decide_status_says laws d c before after report says left told)
stop_status_says laws (Err i) c there before after report says is left told = inl (refl, record { there_is = is; good = says; kept = left; report_is = told })
