use Rattle.bit_rows.proofs.Writing.{has-set}
use Rattle.bit_rows.proofs.set_bit.Goals as goal

pub returns : goal.returns
returns c = λ v. has-set c.args.row.now c.args.value v c.requires
