use Rattle.std.proofs.Common.{◌≡◌, ◌<◌, ℕ, List, length, subst, sym, arith}
use Rattle.log_theory.specs.declared.step.Name.{Name}
use Rattle.recorder.specs.Recording.{CountedSet, IsIn}
use Rattle.line_cache.specs.Sets.{counted_at, HasName}
use Rattle.line_cache.proofs.Seating.{seat_is, name_is}
use Rattle.line_cache.proofs.set_names.SetNames.find.Goals as goal

pub is_there-requires : goal.is_there-requires
is_there-requires c =
    let below : c.in_ok-at.field-0.now < length c.self.inside.seats.items = omega (arith, c.if-at-len.false, c.len.ensures, c.self.inside.seats.ok) in
    let h = seat_is c.self.inside.seats.items c.in_ok-at.field-0.now (length c.self.inside.numbers.items) c.index-seat.result.now below c.index-seat.ensures c.self.invariant in
    subst (λ (xs : List ℕ). IsIn c.index-seat.result.now.place (length xs)) (sym c.deref.ensures.value) h.0

pub returns-then-is_there-clause-name : goal.returns-then-is_there-clause-name
returns-then-is_there-clause-name c =
    let set : CountedSet = record { centre = c.args.set.now.centre; vertices = c.args.set.now.vertices.now; values = c.args.set.now.values.now } in
    let below : c.in_ok-at.field-0.now < length c.self.inside.seats.items = omega (arith, c.if-at-len.false, c.len.ensures, c.self.inside.seats.ok) in
    let found : counted_at c.self.inside.numbers.items c.index-seat.result.now.centre c.index-seat.result.now.place ≡ set = subst (λ (xs : List ℕ). counted_at xs c.index-seat.result.now.centre c.index-seat.result.now.place ≡ set) c.deref.ensures.value (c.is_there.ensures c.if-is_there.true) in
    subst (λ (sets : List (CountedSet × Name)). HasName sets set c.index-seat.result.now.name) c.self.view_is
    (name_is c.self.inside.numbers.items c.self.inside.seats.items c.in_ok-at.field-0.now c.index-seat.result.now set below c.index-seat.ensures found)

pub returns-then-is_there-clause-fits : goal.returns-then-is_there-clause-fits
returns-then-is_there-clause-fits c =
    let below : c.in_ok-at.field-0.now < length c.self.inside.seats.items = omega (arith, c.if-at-len.false, c.len.ensures, c.self.inside.seats.ok) in
    let h = seat_is c.self.inside.seats.items c.in_ok-at.field-0.now (length c.self.inside.numbers.items) c.index-seat.result.now below c.index-seat.ensures c.self.invariant in
    h.1
