use Rattle.std.proofs.Common.{◌<◌, ◌∙◌, arith}
use Rattle.std.proofs.lemmas.List.{get_or-take, length-take-le}
use Rattle.all_different.proofs.OneLook.{listed_first}
use Rattle.all_different.proofs.uniting.unite_first.Goals as goal

pub unite-requires-clause-inside : goal.unite-requires-clause-inside
unite-requires-clause-inside g c k l =
    let less : k < c.args.n = omega (arith, l, length-take-le c.args.n c.args.order.now c.requires.within) in
    rw (get_or-take c.args.n c.args.order.now k 0 less) (c.requires.ordered.vertex k (omega (arith, less, c.requires.within)))

pub returns : goal.returns
returns g c t = c.unite.ensures t ∙ listed_first (g.F.Family.state c.args.d.now) c.args.order.now c.args.n c.requires.ordered c.requires.within t
