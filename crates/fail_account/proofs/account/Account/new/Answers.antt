use Rattle.std.proofs.Common.{◌≡◌, ℕ, ◌+◌, ◌*◌, ◌∙◌, ap, refl, sym, subst, length, arith, rules}
use Rattle.std.proofs.Math.ListN.{replicate}
use Rattle.std.proofs.lemmas.List.{length-replicate}
use Rattle.graph_theory.specs.Graph.{size}
use Rattle.search_theory.specs.Account.{Account, Honest}
use Rattle.fail_account.proofs.HeldAccount.{fresh_held, kept_fresh, honest_fresh}
use Rattle.fail_account.proofs.account.Account.new.Goals as goal
use Rattle.fail_account.proofs.account.Account.new.Goals.{In_ok-words}

-- all words are 0
words_are : (c : In_ok-words) → c.in_ok-words.words.items ≡ replicate ((c.size-pattern.result + 1) * c.words_for-width.result) 0
words_are c = c.in_ok-words.ensures.items_if_clones_equal (search rules) ∙ ap (λ (n : ℕ). replicate ((n + 1) * c.words_for-width.result) 0) c.from-3.ensures

pub invariant_of-result : goal.invariant_of-result
invariant_of-result c =
    let is = words_are (goal.at.invariant_of-result c).In_ok-words in
    rw c.in_ok-path.ensures.items (kept_fresh c.size-pattern.result c.size-target.result c.args.budget c.words_for-width.result 128 _ c.in_ok-words.words.items
    (omega (arith, c.words_for-width.ensures, c.from.ensures)) is (ap length is ∙ length-replicate _ _) refl (omega (arith, c.in_ok-path.ensures.capacity, c.from-2.ensures)) c.requires)

pub returns-clause-fresh : goal.returns-clause-fresh
returns-clause-fresh c =
    let is = words_are (goal.at.returns-clause-fresh c).In_ok-words in
    let pattern_is : c.size-pattern.result ≡ size c.args.q.now.pattern = c.size-pattern.ensures.size ∙ ap size c.pattern.ensures.pattern in
    let target_is : c.size-target.result ≡ size c.args.q.now.target = c.size-target.ensures.size ∙ ap size c.target.ensures.target in
    rw (← pattern_is, ← target_is, c.in_ok-path.ensures.items)
    (fresh_held c.size-pattern.result c.size-target.result c.args.budget c.words_for-width.result c.in_ok-words.words.items is)

pub returns-clause-honest : goal.returns-clause-honest
returns-clause-honest c = subst (λ (a : Account). Honest c.args.q.now a) (sym (returns-clause-fresh c)) (honest_fresh c.args.q.now c.args.budget)
