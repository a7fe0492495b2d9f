use Rattle.bit_rows.proofs.FourWords.{changed_by_turned}
use Rattle.bit_rows.proofs.kernels.and_not_four.Goals as goal

pub returns : goal.returns
returns c = changed_by_turned c.args.at _ _ c.requires.room c.requires.same_length
