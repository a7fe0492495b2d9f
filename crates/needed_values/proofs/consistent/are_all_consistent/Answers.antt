use Rattle.std.proofs.Common.{◌≡◌, ◌<◌, ℕ, subst}
use Rattle.graph_theory.specs.Asked.{asked_shared}
use Rattle.graph_theory.specs.Reversed.{reversed_problem}
use Rattle.needed_values.proofs.Agreeing.{out_all, shares_itself, not_itself, asked_differs, asked_differs_back}
use Rattle.needed_values.proofs.consistent.are_all_consistent.Goals as goal

pub all_share_along-along-requires-clause-other : goal.all_share_along-along-requires-clause-other
all_share_along-along-requires-clause-other c = λ some.
    not_itself c.args.sharers.now c.args.p c.args.t c.args.r c.args.row.now (asked_differs c.args.sharers.now c.args.p c.args.r (subst (λ (n : ℕ). 0 < n) c.in_ok-out.ensures some)) c.requires.go

pub returns-then-is_mutual : goal.returns-then-is_mutual
returns-then-is_mutual c =
    out_all c.args.sharers.now c.args.p c.args.t c.args.r c.requires.p_in c.requires.r_in c.requires.t_in c.args.row.now c.args.row.now c.args.row.now c.requires.within c.requires.go
    (shares_itself c.args.sharers.now.target c.args.t (asked_shared c.args.sharers.now c.args.p c.args.r) c.args.row.now) (rw c.problem-q.ensures at c.is_mutual.ensures c.if-is_mutual.true) c.all_share_along-along.result
    (rw c.in_ok-out.ensures at c.all_share_along-along.ensures)

pub all_share-requires-clause-other : goal.all_share-requires-clause-other
all_share-requires-clause-other c = λ some.
    let back : c.in_ok-back.back ≡ asked_shared (reversed_problem c.args.sharers.now) c.args.p c.args.r = rw c.problem-q.ensures at c.in_ok-back.ensures in
    not_itself c.args.sharers.now c.args.p c.args.t c.args.r c.args.row.now (asked_differs_back c.args.sharers.now c.args.p c.args.r (subst (λ (n : ℕ). 0 < n) back some)) c.requires.go
