use Rattle.std.proofs.Common.{◌≡◌, ℕ, false, sym, subst, arith, inl, inr, rules}
use Rattle.std.proofs.lemmas.Bool.{cases_lt}
use Rattle.graph_theory.specs.Embedding.{near_both}
use Rattle.pair_lines.proofs.meeting.first_near_both.Goals as goal

pub loop-c-preserved : goal.loop-c-preserved
loop-c-preserved c = λ v below.
    let here : near_both c.args.known.now.pattern c.args.p c.args.r c.loop-c.c ≡ false = search rules in
    elim (cases_lt v c.loop-c.c) [
      | inl less ↦ c.loop-c.invariant v less
      | inr more ↦ (let same : v ≡ c.loop-c.c = omega (arith, below, more) in subst (λ (x : ℕ). near_both c.args.known.now.pattern c.args.p c.args.r x ≡ false) (sym same) here)
    ]
