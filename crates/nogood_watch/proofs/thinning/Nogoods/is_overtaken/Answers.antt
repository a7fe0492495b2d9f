use Rattle.std.proofs.Common.{◌<◌, List, ℕ, length, sym, subst}
use Rattle.std.proofs.lemmas.List.{length-map}
use Rattle.nogood_watch.specs.Nogoods.{literal}
use Rattle.nogood_watch.specs.Inside.{cell}
use Rattle.nogood_watch.proofs.thinning.Nogoods.is_overtaken.Goals as goal

pub is_overtaken_at-requires-clause-in_range : goal.is_overtaken_at-requires-clause-in_range
is_overtaken_at-requires-clause-in_range c =
    subst (λ (xs : List (ℕ × ℕ)). cell c.args.self.now.values (literal xs c.loop-k.k) < length c.args.heads.now) (sym c.literals_of-literals.ensures)
    (c.requires.lists c.args.i c.loop-k.k (rw length-map c.requires.i_in) (subst (λ (xs : List (ℕ × ℕ)). c.loop-k.k < length xs) c.literals_of-literals.ensures c.loop-k-test.true))
