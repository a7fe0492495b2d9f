-- The encoding as a model: so many variables, and these constraints.

use Rattle.graph_theory.specs.Embedding.{Problem}
use Rattle.log_theory.specs.OpbText.{OpbModel}
use Rattle.encoding_theory.specs.Variables.{variables}
use Rattle.encoding_theory.specs.Encoding.{encoding}

abbrev pub model_of : Problem → OpbModel
model_of q = record { variables = variables q; constraints = encoding q }
