use Rattle.std.proofs.Common.{List, length, ap, subst, sym, ◌∙◌}
use Rattle.std.proofs.lemmas.Result.{err_from_is_err_and}
use Rattle.log_theory.specs.declared.step.Name.{Name}
use Rattle.recorder.specs.Recording.{CountedSet}
use Rattle.line_cache.specs.declared.set_names.Seat.{Seat}
use Rattle.line_cache.specs.Sets.{named_sets, AreSeated, with_set}
use Rattle.line_cache.proofs.Seating.{sets_stay, seated_added, seated_with, sets_with}
use Rattle.line_cache.proofs.set_names.SetNames.add.Goals as goal

pub invariant_of-self : goal.invariant_of-self
invariant_of-self c = seated_added c.self.inside.numbers.items c.put_set.new.numbers.items c.self.inside.seats.items c.put_set.ensures.adds c.self.invariant

pub returns-in_err-place-clause-refused : goal.returns-in_err-place-clause-refused
returns-in_err-place-clause-refused c =
    let err = err_from_is_err_and c.from_residual.result c.from_residual.ensures.1 in
    rw err.1 (sets_stay c.self.inside.numbers.items c.put_set.new.numbers.items c.self.inside.seats.items c.put_set.ensures.adds c.self.invariant ∙ c.self.view_is)

pub invariant_of-self-in_err-insert : goal.invariant_of-self-in_err-insert
invariant_of-self-in_err-insert c = seated_added c.self.inside.numbers.items c.put_set.new.numbers.items c.self.inside.seats.items c.put_set.ensures.adds c.self.invariant

pub returns-in_err-insert-clause-refused : goal.returns-in_err-insert-clause-refused
returns-in_err-insert-clause-refused c =
    let err = err_from_is_err_and c.from_residual-in_err-insert.result c.from_residual-in_err-insert.ensures.1 in
    rw err.1 (sets_stay c.self.inside.numbers.items c.put_set.new.numbers.items c.self.inside.seats.items c.put_set.ensures.adds c.self.invariant ∙ c.self.view_is)

pub invariant_of-self-in_err-push : goal.invariant_of-self-in_err-push
invariant_of-self-in_err-push c =
    subst (λ (seats : List Seat). AreSeated seats (length c.put_set.new.numbers.items)) (sym c.in_err-push.ensures.items)
    (seated_added c.self.inside.numbers.items c.put_set.new.numbers.items c.self.inside.seats.items c.put_set.ensures.adds c.self.invariant)

pub returns-in_err-push-clause-refused : goal.returns-in_err-push-clause-refused
returns-in_err-push-clause-refused c =
    let err = err_from_is_err_and c.from_residual-in_err-push.result c.from_residual-in_err-push.ensures.1 in
    rw err.1 (ap (named_sets c.put_set.new.numbers.items) c.in_err-push.ensures.items
    ∙ sets_stay c.self.inside.numbers.items c.put_set.new.numbers.items c.self.inside.seats.items c.put_set.ensures.adds c.self.invariant ∙ c.self.view_is)

pub invariant_of-self-2 : goal.invariant_of-self-2
invariant_of-self-2 c =
    let seat : Seat = record { centre = c.args.set.now.centre; place = c.in_ok-place.place; name = c.args.name } in
    subst (λ (seats : List Seat). AreSeated seats (length c.put_set.new.numbers.items)) (sym c.in_ok-push.ensures.items)
    (seated_with c.self.inside.seats.items seat (length c.put_set.new.numbers.items)
    (seated_added c.self.inside.numbers.items c.put_set.new.numbers.items c.self.inside.seats.items c.put_set.ensures.adds c.self.invariant) c.in_ok-place.ensures.placed.is_in c.requires)

pub returns-clause-added : goal.returns-clause-added
returns-clause-added c =
    let seat : Seat = record { centre = c.args.set.now.centre; place = c.in_ok-place.place; name = c.args.name } in
    let set : CountedSet = record { centre = c.args.set.now.centre; vertices = c.args.set.now.vertices.now; values = c.args.set.now.values.now } in
    ap (named_sets c.put_set.new.numbers.items) c.in_ok-push.ensures.items
    ∙ sets_with c.self.inside.numbers.items c.put_set.new.numbers.items c.self.inside.seats.items seat c.args.set.now.vertices.now c.args.set.now.values.now c.put_set.ensures.adds c.self.invariant c.in_ok-place.ensures.placed
    ∙ ap (λ (sets : List (CountedSet × Name)). with_set sets set c.args.name) c.self.view_is
