use Rattle.biased_choice.proofs.Totals.{one_bias, small_total}
use Rattle.biased_choice.proofs.bias_laws.Goals as goal

pub returns : goal.returns
returns c = record { one = one_bias; small = small_total }
