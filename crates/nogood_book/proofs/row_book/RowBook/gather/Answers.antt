-- A join keeps the rule; a load after it tells that the shorter list begins the longer.
use Rattle.std.proofs.Common.{false, inl, inr, ℕ, take, length, ap, sym, subst, ◌∙◌, arith}
use Rattle.std.specs.Prelude.{vec_capacity}
use Rattle.atomic_table.specs.Seated.{TableId}
use Rattle.atomic_table.specs.Table.{Me}
use Rattle.nogood_book.specs.declared.view.View.{View}
use Rattle.nogood_book.proofs.Keeps.{joins, checks}
use Rattle.nogood_book.proofs.Opened.{of_inside}
use Rattle.nogood_book.specs.Seats.{SeatName, IsSeat}
use Rattle.nogood_book.proofs.Own.{seat_longer, seat_shorter}
use Rattle.nogood_book.proofs.row_book.RowBook.gather.Goals as goal
use Rattle.nogood_book.proofs.row_book.RowBook.gather.Goals.{then-is_longer, else-is_longer}

pub join_seat-requires : goal.join_seat-requires
join_seat-requires c =
    let into = of_inside _ _ _ _ c.into.view_is c.self.view_is c.requires.into in
    let from = of_inside _ _ _ _ c.from.view_is c.self.view_is c.requires.from in
    (into.table, from.table, c.from.invariant.no_slots, omega (arith, c.self.invariant.0), joins _ _ _ c.into.inside.seat.me.0 _ c.from.inside.seat.me.0 c.into.invariant.live)

pub load-requires : goal.load-requires
load-requires c =
    let into = of_inside _ _ _ _ c.into.view_is c.self.view_is c.requires.into in
    let e = c.join_seat.ensures in
    (e.0 ∙ into.table, omega (arith, c.self.invariant.0), checks _ _ _ _ c.join_seat.new.seat.me (ap (λ (m : Me ℕ View). m.0.spent) e.2 ∙ c.into.invariant.live))

-- the longer of the two lists, cut where the book ends
pub invariant_of-into : goal.invariant_of-into
invariant_of-into c =
    let j = c.join_seat.ensures in
    let l = c.load.ensures in
    let into = of_inside _ _ _ _ c.into.view_is c.self.view_is c.requires.into in
    let from = of_inside _ _ _ _ c.from.view_is c.self.view_is c.requires.from in
    let first = ap (λ (z : SeatName). length z.view.seen) c.into.view_is in
    let second = ap (λ (z : SeatName). length z.view.seen) c.from.view_is in
    let words = ap (λ (z : TableId). z.words) into.table ∙ c.self.invariant.0 in
    let slots = ap (λ (m : Me ℕ View). m.1) (l.2.0 ∙ j.2) ∙ c.into.invariant.no_slots in
    let is = ap (λ (m : Me ℕ View). m.0) (l.2.0 ∙ j.2) in
    elim c.if-is_longer.branch [
      | then-is_longer w ↦ subst (λ z. IsSeat z.seat.table_id z.seat.me c.truncate.new.self z.most z.owner false) (sym w.into-inside-is)
          (seat_longer c.into.inside.seat.table_id _ c.from.inside.seat.table_id c.into.inside.seat.me c.from.inside.seat.me _ c.into.inside.rows c.from.inside.rows c.truncate.new.self _ _ c.self.inside.rows _ _ _ _
          (l.0 ∙ j.0) (from.table ∙ sym into.table) words slots is l.2.1 c.into.invariant c.from.invariant
          (inl (omega (arith, c.truncate.ensures.capacity, ap (λ z. vec_capacity z.rows) w.into-inside-is)))
          (omega (arith, w.if-is_longer.true, first, second, c.len.ensures.len, c.len-2.ensures.len))
          (c.truncate.ensures.items ∙ ap (λ z. take c.self.inside.rows z.rows.items) w.into-inside-is))
      | else-is_longer w ↦ subst (λ z. IsSeat z.seat.table_id z.seat.me c.truncate.new.self z.most z.owner false) (sym w.into-inside-is)
          (seat_shorter c.into.inside.seat.table_id _ c.from.inside.seat.table_id c.into.inside.seat.me c.from.inside.seat.me _ c.into.inside.rows c.from.inside.rows c.truncate.new.self _ _ c.self.inside.rows _ _ _ _
          (l.0 ∙ j.0) (from.table ∙ sym into.table) words slots is l.2.1 c.into.invariant c.from.invariant
          (inr (omega (arith, c.truncate.ensures.capacity, ap (λ z. vec_capacity z.rows) w.into-inside-is)))
          (omega (arith, w.if-is_longer.false, first, second, c.len.ensures.len, c.len-2.ensures.len))
          (c.truncate.ensures.items ∙ ap (λ z. take c.self.inside.rows z.rows.items) w.into-inside-is))
    ]
