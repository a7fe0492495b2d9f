use Rattle.std.proofs.Common.{ℕ, ◌+◌, ◌<◌, ◌≤◌, refl, sym, subst, arith}
use Rattle.std.proofs.lemmas.Bool.{iff_false}
use Rattle.graph_theory.specs.Graph.{Graph, size}
use Rattle.bit_rows.proofs.Filled.{FilledBelow, filled_none, filled_more, filled_same}
use Rattle.pair_supports.specs.Kinds.{Joins}
use Rattle.pair_supports.proofs.ByWords.{apart_joins_not, filled_skip, near_whole, row_short, vertex_fits}
use Rattle.pair_supports.proofs.kinds.fill_near.Goals as goal
use Rattle.pair_supports.proofs.kinds.fill_near.Goals.{then-joins, else-joins}

pub loop-u-preserved : goal.loop-u-preserved
loop-u-preserved c =
    let here : FilledBelow (Joins c.args.q.now c.args.kind.now c.args.t) (c.loop-u.u + 1) c.if-joins.row =
    (elim c.if-joins.branch [
      | then-joins w ↦ filled_more (Joins c.args.q.now c.args.kind.now c.args.t) c.loop-u.u c.loop-u.u c.loop-u.row _ c.if-joins.row c.loop-u.invariant.filled w.row-is
          w.set_bit.ensures refl (c.joins.ensures.0 w.if-joins.true)
      | else-joins w ↦ filled_same (Joins c.args.q.now c.args.kind.now c.args.t) c.loop-u.u c.loop-u.row c.if-joins.row c.loop-u.invariant.filled w.row-is
          (iff_false c.joins.ensures w.if-joins.false)
    ]) in
    record {
      filled = filled_skip (Joins c.args.q.now c.args.kind.now c.args.t) (c.loop-u.u + 1) c.next_member-u-in-loop-u.result c.if-joins.row here c.next_member-u-in-loop-u.ensures.low
          (λ v low high. apart_joins_not c.args.q.now c.args.kind.now c.near_row-near.result.now c.args.t v c.near_row-near.ensures.near
          (c.next_member-u-in-loop-u.ensures.none v low high));
      within = c.next_member-u-in-loop-u.ensures.high;
      member = c.next_member-u-in-loop-u.ensures.member;
    }

pub returns : goal.returns
returns c =
    near_whole c.args.q.now c.args.kind.now c.near_row-near.result.now c.loop-u.row c.args.t c.loop-u.u c.near_row-near.ensures.near c.near_row-near.ensures.within
    (omega (arith, c.near_row-near.ensures.long, c.loop-u-test.false)) c.loop-u.invariant.filled

-- ---- what is next is a vertex, and has its counts

pub next_member-u-requires-clause-short : goal.next_member-u-requires-clause-short
next_member-u-requires-clause-short c =
    let few : size c.args.q.now.target ≤ 8192 = subst (λ (g : Graph). size g ≤ 8192) c.target.ensures.target c.target.ensures.few in
    row_short _ _ few c.near_row-near.ensures.long

pub next_member-u-requires-in-loop-u-clause-short : goal.next_member-u-requires-in-loop-u-clause-short
next_member-u-requires-in-loop-u-clause-short c =
    let few : size c.args.q.now.target ≤ 8192 = subst (λ (g : Graph). size g ≤ 8192) c.target.ensures.target c.target.ensures.few in
    row_short _ _ few c.near_row-near.ensures.long

pub loop-u-init : goal.loop-u-init
loop-u-init c = record {
  filled = filled_skip (Joins c.args.q.now c.args.kind.now c.args.t) 0 c.next_member-u.result c.clear.new.row (filled_none (Joins c.args.q.now c.args.kind.now c.args.t) c.clear.new.row c.clear.ensures) c.next_member-u.ensures.low
      (λ v low high. apart_joins_not c.args.q.now c.args.kind.now c.near_row-near.result.now c.args.t v c.near_row-near.ensures.near (c.next_member-u.ensures.none v low high));
  within = c.next_member-u.ensures.high;
  member = c.next_member-u.ensures.member;
}

pub bounds-counts-u : goal.bounds-counts-u
bounds-counts-u c = subst (λ (n : ℕ). c.loop-u.u < n) (sym c.requires.counted.long) (c.near_row-near.ensures.within c.loop-u.u (c.loop-u.invariant.member c.loop-u-test.true))

pub bounds-counts-u-in-loop-u : goal.bounds-counts-u-in-loop-u
bounds-counts-u-in-loop-u c = subst (λ (n : ℕ). c.loop-u.u < n) (sym c.requires.counted.back_long) (c.near_row-near.ensures.within c.loop-u.u (c.loop-u.invariant.member c.loop-u-test.true))

pub joins-requires-clause-u_in : goal.joins-requires-clause-u_in
joins-requires-clause-u_in c = c.near_row-near.ensures.within c.loop-u.u (c.loop-u.invariant.member c.loop-u-test.true)

pub joins-requires-clause-told : goal.joins-requires-clause-told
joins-requires-clause-told c = c.requires.counted.told c.loop-u.u (c.near_row-near.ensures.within c.loop-u.u (c.loop-u.invariant.member c.loop-u-test.true))

pub joins-requires-clause-in_told : goal.joins-requires-clause-in_told
joins-requires-clause-in_told c = c.requires.counted.back_told c.loop-u.u (c.near_row-near.ensures.within c.loop-u.u (c.loop-u.invariant.member c.loop-u-test.true))

pub overflow_cast-u : goal.overflow_cast-u
overflow_cast-u c =
    let few : size c.args.q.now.target ≤ 8192 = subst (λ (g : Graph). size g ≤ 8192) c.target.ensures.target c.target.ensures.few in
    vertex_fits c.loop-u.u _ few (c.near_row-near.ensures.within c.loop-u.u (c.loop-u.invariant.member c.loop-u-test.true))
