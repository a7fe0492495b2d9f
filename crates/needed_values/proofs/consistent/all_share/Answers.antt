use Rattle.std.proofs.Common.{ℕ, ◌≤◌, sym, ap, subst, ◌∙◌, arith}
use Rattle.std.proofs.lemmas.Bool.{true≢false}
use Rattle.graph_theory.specs.Reversed.{turned}
use Rattle.bit_rows.specs.BitRows.{has}
use Rattle.needed_values.proofs.Agreeing.{below_none, below_next, row_short, row_fits, vertex_fits, is_before}
use Rattle.needed_values.proofs.consistent.all_share.Goals as goal

pub overflow_mul-row : goal.overflow_mul-row
overflow_mul-row c =
    row_fits _ _ (subst (λ (n : ℕ). n ≤ 8192) c.size-size.ensures.size c.size-size.ensures.few) c.requires.long

pub next_member-u-requires-clause-short : goal.next_member-u-requires-clause-short
next_member-u-requires-clause-short c =
    row_short _ _ (subst (λ (n : ℕ). n ≤ 8192) c.size-size.ensures.size c.size-size.ensures.few) c.requires.long

pub next_member-u-requires-in-loop-u-clause-short : goal.next_member-u-requires-in-loop-u-clause-short
next_member-u-requires-in-loop-u-clause-short c =
    row_short _ _ (subst (λ (n : ℕ). n ≤ 8192) c.size-size.ensures.size c.size-size.ensures.few) c.requires.long

pub loop-u-init : goal.loop-u-init
loop-u-init c = record {
  all = below_none (turned c.args.direction c.args.target.now) c.args.t c.args.shared c.next_member-u.result c.args.row.now c.next_member-u.ensures.none;
  within = c.next_member-u.ensures.high;
  member = c.next_member-u.ensures.member;
}

pub overflow_cast-u : goal.overflow_cast-u
overflow_cast-u c =
    vertex_fits c.loop-u.u _ (subst (λ (n : ℕ). n ≤ 8192) c.size-size.ensures.size c.size-size.ensures.few) (c.requires.within c.loop-u.u (c.loop-u.invariant.member c.loop-u-test.true))

pub shares_enough-requires-clause-u_in : goal.shares_enough-requires-clause-u_in
shares_enough-requires-clause-u_in c = c.requires.within c.loop-u.u (c.loop-u.invariant.member c.loop-u-test.true)

pub shares_enough-requires-clause-apart : goal.shares_enough-requires-clause-apart
shares_enough-requires-clause-apart c = λ same.
    true≢false (sym (c.loop-u.invariant.member c.loop-u-test.true) ∙ ap (has c.args.row.now) (sym same) ∙ c.requires.other (let some = c.if-shared-eq0.false in omega (arith, some)))

pub shares_enough-requires-clause-long : goal.shares_enough-requires-clause-long
shares_enough-requires-clause-long c = c.row_by-near.ensures.long

pub shares_enough-requires-clause-near : goal.shares_enough-requires-clause-near
shares_enough-requires-clause-near c = c.row_by-near.ensures.neighbours

pub loop-u-preserved : goal.loop-u-preserved
loop-u-preserved c = record {
  all = below_next (turned c.args.direction c.args.target.now) c.args.t c.args.shared c.loop-u.u c.next_member-u-in-loop-u.result c.args.row.now c.loop-u.invariant.all
      (c.shares_enough.ensures c.if-not-shares_enough.false) c.next_member-u-in-loop-u.ensures.none;
  within = c.next_member-u-in-loop-u.ensures.high;
  member = c.next_member-u-in-loop-u.ensures.member;
}

pub returns : goal.returns
returns c = λ u h. c.loop-u.invariant.all.enough u (is_before u _ _ c.loop-u.u (c.requires.within u h) c.requires.long c.loop-u-test.false) h
