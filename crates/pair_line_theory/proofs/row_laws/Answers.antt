use Rattle.pair_line_theory.proofs.Making as making
use Rattle.pair_line_theory.proofs.row_laws.Goals as goal

pub returns : goal.returns
returns c = λ q plain. making.row_laws q plain
