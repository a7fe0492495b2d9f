-- What a verdict of the file says, as the program tells it.

use Rattle.std.specs.Prelude.{ℕ, ◌^◌, List}
use Rattle.std.proofs.Common.{subst, rules}
use Rattle.log_theory.specs.Verdicts.{verdict_of}
use Rattle.proof_checker.specs.Filed.{FileSays}
use Rattle.proof_checker.specs.declared.log_file.Checked.TheVariants.{Verdict as Judged}
use Rattle.subgraph_cli.specs.Disk.{disk, IsReadingOf}
use Rattle.subgraph_cli.proofs.CheckStatuses.{judged_says, verdict_loads, verdict_causes}
use Rattle.subgraph_cli.proofs.check.judge.Goals as goal

pub returns-in-Verdict-clause-says : goal.returns-in-Verdict-clause-says
returns-in-Verdict-clause-says g c tells =
    let judge = verdict_of c.args.model.now.variables c.args.model.now.constraints in
    let content = g.F.Files.content c.args.files.now in
    let says = subst (λ (name : List ℕ). FileSays (Judged c.in-Verdict.verdict) judge (2 ^ 40) (content name)) c.as_str.ensures.text (c.in-Verdict.ensures.says tells) in
    judged_says c.told.result c.in-Verdict.verdict c.args.model.now (content c.args.name.now) c.log_laws.ensures c.answer_laws.ensures c.told.ensures says

pub returns-in-Verdict-clause-loading : goal.returns-in-Verdict-clause-loading
returns-in-Verdict-clause-loading g c = verdict_loads c.told.result c.in-Verdict.verdict c.told.ensures

pub returns-in-Verdict-clause-files : goal.returns-in-Verdict-clause-files
returns-in-Verdict-clause-files g c =
    record {
      kept = search rules;
      cause = verdict_causes c.told.result c.in-Verdict.verdict (IsReadingOf c.args.name.now)
          (disk g.F.Files.tells g.F.Files.content g.F.Files.faults g.F.Files.fault_at c.args.files.now c.check_file.new.files) c.told.ensures;
      quiet = search rules;
    }
