use Rattle.std.proofs.Common.{sym, ◌∙◌, arith}
use Rattle.std.proofs.lemmas.List.{length-map}
use Rattle.nogood_watch.proofs.Covering.{and_true}
use Rattle.nogood_watch.proofs.thinning.Nogoods.overtakes.Goals as goal

pub returns : goal.returns
returns c = λ e. record {
  by = c.args.j;
  within = rw length-map (omega (arith, c.if-j-self.false));
  other = c.if-j-i.false;
  covers_it = and_true _ _ c.if-not-live-j.false (rw (← c.literals_of.ensures, ← c.literals_of-2.ensures) (sym c.are_among.ensures ∙ e));
}
