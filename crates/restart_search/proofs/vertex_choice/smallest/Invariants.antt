use Rattle.restart_search.proofs.Choosing.{Looked}
use Rattle.restart_search.proofs.vertex_choice.smallest.Given as goal

abbrev pub invariant-loop-k : goal.invariant-loop-k
invariant-loop-k g l = Looked l.q l.d l.members l.best l.k
