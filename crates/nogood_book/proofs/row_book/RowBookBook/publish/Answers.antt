-- What might follow may follow behind rows of others, and the row that was written stands where it was tried.
use Rattle.std.proofs.Common.{ap, ◌∙◌, sym, arith}
use Rattle.atomic_table.specs.Seated.{TableId}
use Rattle.nogood_book.specs.Seats.{BookName, HasSeenAll}
use Rattle.nogood_book.proofs.Trying.{may_still, placed_by_add, used_up}
use Rattle.nogood_book.proofs.row_book.RowBookBook.publish.Goals as goal

pub add-requires-clause-row : goal.add-requires-clause-row
add-requires-clause-row c =
    let words = ap (λ (z : TableId). z.words) (c.requires.of.table ∙ sym (ap (λ (b : BookName). b.table) c.self.view_is)) ∙ c.self.invariant.0 in
    may_still c.args.seat.now c.loop-at.seat c.args.row c.loop-at.invariant.0 (omega (arith, words, c.loop-at.invariant.1, c.loop-at-test.true)) c.requires.row

pub returns-then-add-clause-published : goal.returns-then-add-clause-published
returns-then-add-clause-published c =
    let words = ap (λ (z : TableId). z.words) (c.requires.of.table ∙ sym (ap (λ (b : BookName). b.table) c.self.view_is)) ∙ c.self.invariant.0 in
    let added = placed_by_add c.args.seat.now c.loop-at.seat c.add.new.seat c.args.row c.loop-at.at c.loop-at.invariant.0 c.add.ensures.same c.if-add.ensures.told c.add.ensures.honest (sym c.loop-at.invariant.1)
    (omega (arith, words, c.loop-at-test.true)) in
    (added.0, omega (arith, added.1.0))

pub returns-clause-published : goal.returns-clause-published
returns-clause-published c =
    let words = ap (λ (z : TableId). z.words) (c.requires.of.table ∙ sym (ap (λ (b : BookName). b.table) c.self.view_is)) ∙ c.self.invariant.0 in
    let all : HasSeenAll c.loop-at.seat = omega (arith, words, c.loop-at.invariant.1, c.loop-at-test.false, c.loop-at.invariant.0.now.few, ap (λ (z : TableId). z.words) c.loop-at.invariant.0.same.table) in
    used_up c.args.seat.now c.loop-at.seat c.loop-at.invariant.0 all
