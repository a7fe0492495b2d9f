use Rattle.std.proofs.Common.{◌∙◌, ◌≡◌, ℕ, ◌+◌, ◌-◌, ◌%◌, List, sym, ap, arith}
use Rattle.std.specs.List.{swap}
use Rattle.demo_instances.specs.SeedProblems.{exchanged}
use Rattle.demo_instances.proofs.Exchanges.{exchanged-none, exchanged-more}
use Rattle.demo_instances.proofs.chosen.exchange.Goals as goal

pub loop-i-init : goal.loop-i-init
loop-i-init c = c.requires ∙ sym (exchanged-none c.args.words.now)

pub loop-i-preserved : goal.loop-i-preserved
loop-i-preserved c =
    let seed = c.args.words.now in
    let i = c.loop-i.i in
    c.swap.ensures.after
    ∙ ap (λ (m : List ℕ). swap m i (i + c.word-word.result % (150 - i))) c.loop-i.invariant
    ∙ ap (λ (w : ℕ). swap (exchanged seed i) i (i + w % (150 - i))) c.word-word.ensures
    ∙ sym (exchanged-more seed i)

pub returns : goal.returns
returns c = c.loop-i.invariant ∙ ap (exchanged c.args.words.now) (let e : c.loop-i.i ≡ 10 = omega arith in e)
