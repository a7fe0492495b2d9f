use Rattle.bit_rows.proofs.FourWords.{changed_by_two}
use Rattle.bit_rows.proofs.kernels.or_four.Goals as goal

pub returns : goal.returns
returns c = changed_by_two _ c.args.at _ _ c.requires.room c.requires.same_length
