use Rattle.std.proofs.Common.{ℕ, List}
use Rattle.log_theory.specs.LogText.{AreRefs}
use Rattle.dead_paths.specs.Choosing.{AreAt}
use Rattle.dead_paths.specs.Explaining.{AddsBorne}
use Rattle.dead_paths.proofs.known.push_bearing_all.Given as goal

abbrev pub invariant-loop-x : goal.invariant-loop-x
invariant-loop-x l = record {
  borne : (known : List (ℕ × ℕ)) → AreAt l.at known → AddsBorne l.lines known l.but l.pairs l.x-index l.initial.refs.items l.refs.items;
  fits : AreRefs l.refs.items;
}
