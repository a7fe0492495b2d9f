use Rattle.bit_rows.proofs.WordsAt.{has-unset}
use Rattle.bit_rows.proofs.unset_bit.Goals as goal

pub returns : goal.returns
returns c = λ v. has-unset c.args.row.now c.args.value v c.requires
