use Rattle.std.proofs.lemmas.List.Sorted.{searched}
use Rattle.pb_encoding.proofs.Searching.{none_found}
use Rattle.pb_encoding.proofs.numbers.place_of.Goals as goal

pub returns-clause-none : goal.returns-clause-none
returns-clause-none c =
    none_found c.args.numbers.now c.args.number c.binary_search.result c.ok.result c.ok.ensures.value
    (searched c.args.numbers.now c.args.number c.binary_search.result c.binary_search.ensures.position c.requires)
