use Rattle.std.proofs.Common.{ℕ, ◌<◌, refl, sym, ap, subst, ◌∙◌, ◌&&◌, Bool}
use Rattle.std.proofs.lemmas.Result.{IfOk-from_err}
use Rattle.graph_theory.specs.Graph.{Graph, size}
use Rattle.bit_rows.specs.BitRows.{has, words_for}
use Rattle.needed_values.specs.Consistent.{AllConsistent}
use Rattle.needed_values.proofs.Agreeing.{out_all, out_leaves, both_all, both_leave, never_true, asked_differs, asked_differs_back}
use Rattle.needed_values.proofs.consistent.keep_sharing_both.Goals as goal

pub returns-then-is_mutual-clause-all : goal.returns-then-is_mutual-clause-all
returns-then-is_mutual-clause-all c =
    out_all c.args.q.now c.args.p c.args.t c.args.r c.requires.p_in c.requires.r_in c.requires.t_in c.args.row.now c.keep_sharing.new.row c.keep_sharing.new.row c.requires.within c.requires.go
    (rw (c.target-target.ensures.target, c.in_ok-out.ensures) at c.in_ok-along.ensures.shares)
    (c.is_mutual.ensures c.if-is_mutual.true) c.in_ok-along.along
    (rw (c.target-target.ensures.target, c.in_ok-out.ensures) at c.in_ok-along.ensures.all)

pub returns-then-along-clause-leaves : goal.returns-then-along-clause-leaves
returns-then-along-clause-leaves c =
    both_leave c.args.q.now c.args.p c.args.t c.args.r c.requires.p_in c.requires.r_in c.requires.t_in c.args.row.now c.keep_sharing.new.row c.keep_sharing-2.new.row c.requires.within c.requires.go
    (rw (c.target-target.ensures.target, c.in_ok-out.ensures) at c.in_ok-along.ensures.shares)
    (rw (c.target-target.ensures.target, c.in_ok-back.ensures) at c.in_ok-against.ensures.shares)

pub returns-else-along-clause-leaves : goal.returns-else-along-clause-leaves
returns-else-along-clause-leaves c =
    both_leave c.args.q.now c.args.p c.args.t c.args.r c.requires.p_in c.requires.r_in c.requires.t_in c.args.row.now c.keep_sharing.new.row c.keep_sharing-2.new.row c.requires.within c.requires.go
    (rw (c.target-target.ensures.target, c.in_ok-out.ensures) at c.in_ok-along.ensures.shares)
    (rw (c.target-target.ensures.target, c.in_ok-back.ensures) at c.in_ok-against.ensures.shares)

pub returns-then-along-clause-all : goal.returns-then-along-clause-all
returns-then-along-clause-all c =
    subst (λ (b : Bool). AllConsistent (b && c.in_ok-against.against) c.args.q.now c.args.p c.args.t c.args.r c.keep_sharing-2.new.row) c.if-along.true
    (both_all c.args.q.now c.args.p c.args.t c.args.r c.requires.p_in c.requires.r_in c.requires.t_in c.args.row.now c.keep_sharing.new.row c.keep_sharing-2.new.row c.requires.within c.requires.go
    (rw (c.target-target.ensures.target, c.in_ok-out.ensures) at c.in_ok-along.ensures.shares)
    (rw (c.target-target.ensures.target, c.in_ok-back.ensures) at c.in_ok-against.ensures.shares)
    c.in_ok-along.along c.in_ok-against.against
    (rw (c.target-target.ensures.target, c.in_ok-out.ensures) at c.in_ok-along.ensures.all)
    (rw (c.target-target.ensures.target, c.in_ok-back.ensures) at c.in_ok-against.ensures.all))

pub returns-then-is_mutual-clause-leaves : goal.returns-then-is_mutual-clause-leaves
returns-then-is_mutual-clause-leaves c =
    out_leaves c.args.q.now c.args.p c.args.t c.args.r c.requires.p_in c.requires.r_in c.requires.t_in c.args.row.now c.keep_sharing.new.row c.keep_sharing.new.row c.requires.within c.requires.go
    (rw (c.target-target.ensures.target, c.in_ok-out.ensures) at c.in_ok-along.ensures.shares)

-- ---- where memory is refused nothing is said

pub returns-in_err-out-clause-leaves : goal.returns-in_err-out-clause-leaves
returns-in_err-out-clause-leaves c = IfOk-from_err _ _ c.from_residual.ensures.0

pub returns-in_err-out-clause-all : goal.returns-in_err-out-clause-all
returns-in_err-out-clause-all c = IfOk-from_err _ _ c.from_residual.ensures.0

pub returns-in_err-along-clause-leaves : goal.returns-in_err-along-clause-leaves
returns-in_err-along-clause-leaves c = IfOk-from_err _ _ c.from_residual-in_err-along.ensures.0

pub returns-in_err-along-clause-all : goal.returns-in_err-along-clause-all
returns-in_err-along-clause-all c = IfOk-from_err _ _ c.from_residual-in_err-along.ensures.0

pub returns-in_err-back-clause-leaves : goal.returns-in_err-back-clause-leaves
returns-in_err-back-clause-leaves c = IfOk-from_err _ _ c.from_residual-in_err-back.ensures.0

pub returns-in_err-back-clause-all : goal.returns-in_err-back-clause-all
returns-in_err-back-clause-all c = IfOk-from_err _ _ c.from_residual-in_err-back.ensures.0

pub returns-in_err-against-clause-leaves : goal.returns-in_err-against-clause-leaves
returns-in_err-against-clause-leaves c = IfOk-from_err _ _ c.from_residual-in_err-against.ensures.0

pub returns-in_err-against-clause-all : goal.returns-in_err-against-clause-all
returns-in_err-against-clause-all c = IfOk-from_err _ _ c.from_residual-in_err-against.ensures.0

-- ---- t is not in the row, and what is in it is a value

pub keep_sharing-requires-clause-other : goal.keep_sharing-requires-clause-other
keep_sharing-requires-clause-other c = λ some.
    never_true (has c.args.row.now c.args.t) (λ h. (c.requires.go c.args.t h).apart (asked_differs c.args.q.now c.args.p c.args.r (subst (λ (n : ℕ). 0 < n) c.in_ok-out.ensures some)) refl)

pub keep_sharing-requires-2-clause-other : goal.keep_sharing-requires-2-clause-other
keep_sharing-requires-2-clause-other c = λ some.
    never_true (has c.keep_sharing.new.row c.args.t)
    (λ h. (c.requires.go c.args.t (c.in_ok-along.ensures.shares.kept c.args.t h)).apart (asked_differs_back c.args.q.now c.args.p c.args.r (subst (λ (n : ℕ). 0 < n) c.in_ok-back.ensures some)) refl)

pub keep_sharing-requires-2-clause-within : goal.keep_sharing-requires-2-clause-within
keep_sharing-requires-2-clause-within c = λ u h.
    subst (λ (g : Graph). u < size g) (sym c.target-target.ensures.target) (c.requires.within u (c.in_ok-along.ensures.shares.kept u h))

pub keep_sharing-requires-clause-within : goal.keep_sharing-requires-clause-within
keep_sharing-requires-clause-within c = λ u h. subst (λ (g : Graph). u < size g) (sym c.target-target.ensures.target) (c.requires.within u h)

pub keep_sharing-requires-clause-long : goal.keep_sharing-requires-clause-long
keep_sharing-requires-clause-long c = c.requires.long ∙ ap (λ (g : Graph). words_for (size g)) (sym c.target-target.ensures.target)

pub keep_sharing-requires-2-clause-long : goal.keep_sharing-requires-2-clause-long
keep_sharing-requires-2-clause-long c = c.keep_sharing.auto.row ∙ c.requires.long ∙ ap (λ (g : Graph). words_for (size g)) (sym c.target-target.ensures.target)
