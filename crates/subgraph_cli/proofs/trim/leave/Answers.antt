-- The text is written, and then it is told how much is kept.

use Rattle.std.specs.Prelude.{◌≡◌, ℕ, List, refl}
use Rattle.std.proofs.Common.{subst}
use Rattle.subgraph_cli.specs.Leaving.{OnlyWrites}
use Rattle.subgraph_cli.specs.Trimming.{IsWritingOf}
use Rattle.subgraph_cli.proofs.Told.{writing_spares}
use Rattle.subgraph_cli.proofs.Passing.{if_err_passed}
use Rattle.subgraph_cli.proofs.Leaving.{writes_other, writes_stop, prints_none}
use Rattle.subgraph_cli.proofs.TrimLeaving.{count_cause}
use Rattle.subgraph_cli.proofs.trim.leave.Goals as goal

pub returns-in_err-leave_text-clause-files : goal.returns-in_err-leave_text-clause-files
returns-in_err-leave_text-clause-files g c =
    subst (λ (name : List ℕ). OnlyWrites g.F.Files.tells g.F.Files.content g.F.Files.faults g.F.Files.fault_at (λ file. file ≡ name) (IsWritingOf name) c.from_residual.result c.args.files.now c.leave_text.new.files) c.as_str.ensures.text
    (writes_stop c.from_residual.ensures.1 c.in_err-leave_text.ensures.files (λ cause. cause))

pub returns-in_err-leave_text-clause-output : goal.returns-in_err-leave_text-clause-output
returns-in_err-leave_text-clause-output g c = prints_none (if_err_passed _ _ _ c.from_residual.ensures.1 (writing_spares _ _ c.in_err-leave_text.ensures.writing refl))

pub returns-clause-files : goal.returns-clause-files
returns-clause-files g c =
    subst (λ (name : List ℕ). OnlyWrites g.F.Files.tells g.F.Files.content g.F.Files.faults g.F.Files.fault_at (λ file. file ≡ name) (IsWritingOf name) c.tell_kept.result c.args.files.now c.leave_text.new.files) c.as_str.ensures.text
    (writes_other c.in_ok-leave_text.ensures.files (count_cause c.tell_kept.result _ _ _ _ _ c.tell_kept.ensures.says))
