-- The file was begun, so that it was empty before the encoding was added.
use Rattle.proof_files.proofs.Cutting.{cut_short_at}
use Rattle.proof_files.proofs.files.put_encoding.Goals as goal

pub returns-clause-cut : goal.returns-clause-cut
returns-clause-cut g c =
    cut_short_at c.add_encoding.result (g.F.Files.tells c.args.files.now) _ _ _ _ _ c.in_ok-begin.ensures.empty c.add_encoding.ensures.text
