-- A fault of the output while the claim is told says what a check says.

use Rattle.std.specs.Prelude.{ℕ, List, Option, Ok, refl}
use Rattle.std.proofs.Common.{subst, inl, inr}
use Rattle.std.proofs.lemmas.Result.{err_from_is_err_and}
use Rattle.subgraph_cli.specs.Checking.{JudgedSays}
use Rattle.subgraph_cli.proofs.CheckStatuses.{claim_cause, untold_says}
use Rattle.subgraph_cli.proofs.Told.{loading_spares}
use Rattle.subgraph_cli.proofs.Passing.{if_err_passed}
use Rattle.subgraph_cli.proofs.Leaving.{cause_of_more, reads_other, reads_stop, reads_then, prints_none, prints_other, prints_stop}
use Rattle.subgraph_cli.proofs.check.check.Goals as goal

pub returns-in_err-tell_claim-clause-says : goal.returns-in_err-tell_claim-clause-says
returns-in_err-tell_claim-clause-says g c told =
    let p = err_from_is_err_and c.from_residual-in_err-tell_claim.result c.from_residual-in_err-tell_claim.ensures.1 in
    let held = c.in_ok-model.ensures.says told in
    let judged = subst (λ (o : Option (List ℕ)). JudgedSays (Ok c.in_ok-checked.checked) c.in_ok-model.model o) (c.in_ok-model.ensures.files.kept.same _) (c.in_ok-checked.ensures.says (rw c.in_ok-model.ensures.files.kept.told told)) in
    rw (p.1, p.2) (untold_says _ _ _ judged.text _ _ _ judged.says (record { model_is = held; log_is = judged.log_is }) c.in_err-tell_claim.ensures.says)

pub returns-in_err-model-clause-files : goal.returns-in_err-model-clause-files
returns-in_err-model-clause-files g c = reads_stop c.from_residual.ensures.1 c.in_err-model.ensures.files (cause_of_more _ _ _ _ inl)

pub returns-in_err-model-clause-output : goal.returns-in_err-model-clause-output
returns-in_err-model-clause-output g c = prints_none (if_err_passed _ _ _ c.from_residual.ensures.1 (loading_spares _ _ c.in_err-model.ensures.loading refl))

pub returns-in_err-checked-clause-files : goal.returns-in_err-checked-clause-files
returns-in_err-checked-clause-files g c =
    reads_stop c.from_residual-in_err-checked.ensures.1 (reads_then c.in_ok-model.ensures.files c.in_err-checked.ensures.files)
    (cause_of_more _ _ _ _ (λ at. inr (at, λ told. (c.in_ok-model.model, c.in_ok-model.ensures.says told))))

pub returns-in_err-checked-clause-output : goal.returns-in_err-checked-clause-output
returns-in_err-checked-clause-output g c = prints_none (if_err_passed _ _ _ c.from_residual-in_err-checked.ensures.1 (loading_spares _ _ c.in_err-checked.ensures.loading refl))

pub returns-in_err-tell_claim-clause-files : goal.returns-in_err-tell_claim-clause-files
returns-in_err-tell_claim-clause-files g c =
    reads_other (reads_then c.in_ok-model.ensures.files c.in_ok-checked.ensures.files)
    (if_err_passed _ _ _ c.from_residual-in_err-tell_claim.ensures.1 (claim_cause _ _ _ _ _ c.in_err-tell_claim.ensures.says))

pub returns-in_err-tell_claim-clause-output : goal.returns-in_err-tell_claim-clause-output
returns-in_err-tell_claim-clause-output g c = prints_stop c.from_residual-in_err-tell_claim.ensures.1 c.in_err-tell_claim.ensures.output

pub returns-clause-files : goal.returns-clause-files
returns-clause-files g c = reads_other (reads_then c.in_ok-model.ensures.files c.in_ok-checked.ensures.files) tt

pub returns-clause-output : goal.returns-clause-output
returns-clause-output g c = prints_other c.in_ok-tell_claim.ensures.output
