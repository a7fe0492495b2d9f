use Rattle.std.proofs.Common.{[]}
use Rattle.proof_checker.proofs.Rooted.{rooted_p, rooted_u, rooted_plain, rooted_n}
use Rattle.proof_checker.proofs.lines.prove.Goals as goal

pub returns-in_ok-make_by_propagation-in-Hinted-U-clause-rooted : goal.returns-in_ok-make_by_propagation-in-Hinted-U-clause-rooted
returns-in_ok-make_by_propagation-in-Hinted-U-clause-rooted c =
    rooted_u c.args.model.now c.args.table.now c.make_by_propagation.new.table _ c.as_slice.result.now c.as_slice-in-Hinted-U.result.now c.args.work.now.levels c.in_ok-make_by_propagation-in-Hinted-U.ensures c.requires.rooted

pub returns-in_ok-make_by_closing-in-Plain-U-clause-rooted : goal.returns-in_ok-make_by_closing-in-Plain-U-clause-rooted
returns-in_ok-make_by_closing-in-Plain-U-clause-rooted c =
    rooted_plain c.args.model.now c.args.table.now c.make_by_closing.new.table _ c.as_slice-in-Plain-U.result.now [] c.make_by_closing.new.work.levels c.in_ok-make_by_closing-in-Plain-U.ensures.leads c.make_by_closing.ensures.rooted

pub returns-in_ok-share-in_default-N-clause-rooted : goal.returns-in_ok-share-in_default-N-clause-rooted
returns-in_ok-share-in_default-N-clause-rooted c =
    rooted_n c.args.model.now c.args.table.now c.share.new.self _ _ c.args.work.now.levels (c.in_ok-share-in_default-N.ensures c.args.model.now) c.requires.rooted

pub returns-in_ok-make_by_operations-in_default-P-clause-rooted : goal.returns-in_ok-make_by_operations-in_default-P-clause-rooted
returns-in_ok-make_by_operations-in_default-P-clause-rooted c =
    rooted_p c.args.model.now c.args.table.now c.make_by_operations.new.table _ c.as_slice-in_default-P.result.now c.args.work.now.levels c.in_ok-make_by_operations-in_default-P.ensures c.requires.rooted
