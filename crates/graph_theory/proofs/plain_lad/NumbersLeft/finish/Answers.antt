use Rattle.std.proofs.Common.{[], ◌<◌, subst, length, drop, length-drop, arith}
use Rattle.graph_theory.specs.Progress.{At, StopsAt}
use Rattle.graph_theory.specs.declared.lad_text.LadCause.TheVariants.{WordsLeft}
use Rattle.graph_theory.specs.declared.lad_text.Place.TheVariants.{End}
use Rattle.graph_theory.proofs.Steps.{OnWord-weaker, StopsAt-here, refused_left}
use Rattle.graph_theory.proofs.plain_lad.NumbersLeft.finish.Goals as goal

pub returns-else-self-clause-err : goal.returns-else-self-clause-err
returns-else-self-clause-err c =
    let s = c.self.inside in
    let some : 0 < length (drop s.taken s.numbers.now) = simp length-drop (omega (arith, c.self.invariant)) in
    let left = subst (λ (a : At). 0 < length a.0) c.self.view_is some in
    OnWord-weaker c.fault.result _ (StopsAt c.args.self.now [] End)
    (λ w d h. StopsAt-here c.args.self.now End w WordsLeft d h.0 h.1 (refused_left _ left))
    c.fault.ensures
