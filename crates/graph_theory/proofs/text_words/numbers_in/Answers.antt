use Rattle.std.proofs.Common.{rules}
use Rattle.std.proofs.lemmas.Simd.{map-map}
use Rattle.graph_theory.proofs.text_words.numbers_in.Goals as goal

pub returns : goal.returns
returns c = search (rules, map-map)
