use Rattle.encoding_theory.proofs.PairTests.{plain_laws}
use Rattle.encoding_theory.proofs.tests_on_plain_graphs.Goals as goal

pub returns : goal.returns
returns c = plain_laws
