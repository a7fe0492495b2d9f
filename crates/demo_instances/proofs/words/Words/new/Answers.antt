use Rattle.std.proofs.Common.{◌≡◌, ◌<◌, ℕ, ◌∙◌, sym, subst, arith}
use Rattle.demo_instances.proofs.Streams.{front-none, front-more}
use Rattle.demo_instances.proofs.words.Words.new.Goals as goal

pub loop-n-init : goal.loop-n-init
loop-n-init c = front-none c.args.seed c.seed_from_u64-generator.result c.in_ok-words.words.items c.seed_from_u64-generator.ensures c.in_ok-words.ensures.items

pub loop-n-preserved : goal.loop-n-preserved
loop-n-preserved c =
    front-more c.args.seed c.loop-n._n c.loop-n.generator c.next_word.new.self c.loop-n.words.items c.push.new.self.items c.next_word.result
    c.loop-n.invariant c.next_word.ensures c.in_ok-push.ensures.items

pub invariant_of-result : goal.invariant_of-result
invariant_of-result c =
    let e : c.loop-n._n ≡ 12085 = omega arith in
    record { many = c.loop-n.invariant.many ∙ e; each = λ n n_in. c.loop-n.invariant.each n (subst (λ (m : ℕ). n < m) (sym e) n_in) }
