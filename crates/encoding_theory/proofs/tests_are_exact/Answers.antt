use Rattle.encoding_theory.proofs.PairTests.{test_laws}
use Rattle.encoding_theory.proofs.tests_are_exact.Goals as goal

pub returns : goal.returns
returns c = test_laws
