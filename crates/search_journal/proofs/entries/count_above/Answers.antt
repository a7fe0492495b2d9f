use Rattle.std.proofs.Common.{refl, ℕ, ◌≡◌, ◌+◌, ◌-◌, ◌<◌, ◌≤◌, length, take, Some, subst, arith, rules}
use Rattle.std.specs.Prelude.{slice_get}
use Rattle.std.proofs.lemmas.Option.{slice_get_read}
use Rattle.search_journal.specs.Entries.{AreBelow}
use Rattle.search_journal.proofs.Lists.{rising_below}
use Rattle.search_journal.proofs.entries.count_above.Goals as goal

pub returns-then-entries-place-clause-below : goal.returns-then-entries-place-clause-below
returns-then-entries-place-clause-below c = λ rising.
    let items = c.args.entries.now in
    let some : 0 < c.loop-place.place = c.loop-place-test.true in
    let within : c.loop-place.place ≤ length items = c.loop-place.invariant.0 in
    let at : slice_get items (c.loop-place.place - 1) ≡ Some c.index-entries-place.result =
    slice_get_read items (length items) (c.loop-place.place - 1) c.index-entries-place.result refl (omega (arith, some, within)) c.index-entries-place.is in
    let whole : c.loop-place.place - 1 + 1 ≡ c.loop-place.place = omega (arith, some) in
    subst (λ (n : ℕ). AreBelow c.args.level (take n items)) whole
    (rising_below items (c.loop-place.place - 1) c.args.level c.index-entries-place.result rising at (search (rules, c.if-entries-place.true, c.index-entries-place.is)))
