use Rattle.std.proofs.Common.{◌∙◌}
use Rattle.pair_lines.proofs.Tables.{found_fits}
use Rattle.pair_lines.proofs.pair_names.PairNames.find.Goals as goal

pub returns-clause-fits : goal.returns-clause-fits
returns-clause-fits c = found_fits c.self.inside.names.entries c.key.result c.copied.result c.self.invariant (c.copied.ensures ∙ c.get.ensures.value)
