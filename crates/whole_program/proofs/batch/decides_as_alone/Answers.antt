use Rattle.whole_program.proofs.Alone.{as_alone}
use Rattle.whole_program.proofs.batch.decides_as_alone.Goals as goal

pub returns : goal.returns
returns c = as_alone c.text_laws.ensures
