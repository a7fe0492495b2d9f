use Rattle.std.proofs.Common.{refl, ◌≡◌, ◌+◌, ◌-◌, ◌<◌, ◌≤◌, length, Some, sym, subst, arith, rules}
use Rattle.std.specs.Prelude.{slice_get}
use Rattle.std.proofs.lemmas.Bool.{ltb-true, ltb-false}
use Rattle.std.proofs.lemmas.Option.{slice_get_read}
use Rattle.search_journal.specs.Numbers.{RowsBelow, Numbering}
use Rattle.search_journal.proofs.Numbers.{below_last, below_at}
use Rattle.search_journal.proofs.row_numbers.RowNumbers.is_past.Goals as goal

pub returns-else-count-eq0-clause-yes : goal.returns-else-count-eq0-clause-yes
returns-else-count-eq0-clause-yes c = λ h.
    let items = c.self.inside.notes.items in
    let count : c.len-count.result ≡ length items = search rules in
    let some : c.len-count.result ≡ 0 → ⊥ = c.if-count-eq0.false in
    let place : c.len-count.result - 1 < length items = omega (arith, count, some) in
    let last : c.len-count.result - 1 + 1 ≡ length items = omega (arith, count, some) in
    let at : slice_get items (c.len-count.result - 1) ≡ Some c.index.result.now = slice_get_read items (length items) (c.len-count.result - 1) c.index.result.now refl place c.index.ensures in
    let below = below_last items (c.len-count.result - 1) c.args.row c.index.result.now c.self.invariant.1 at last (ltb-true c.index.result.now.0 c.args.row h) in
    subst (λ (n : Numbering). RowsBelow c.args.row n.notes) c.self.view_is below

pub returns-else-count-eq0-clause-no : goal.returns-else-count-eq0-clause-no
returns-else-count-eq0-clause-no c = λ h below.
    let items = c.self.inside.notes.items in
    let count : c.len-count.result ≡ length items = search rules in
    let some : c.len-count.result ≡ 0 → ⊥ = c.if-count-eq0.false in
    let place : c.len-count.result - 1 < length items = omega (arith, count, some) in
    let at : slice_get items (c.len-count.result - 1) ≡ Some c.index.result.now = slice_get_read items (length items) (c.len-count.result - 1) c.index.result.now refl place c.index.ensures in
    let here = subst (λ (n : Numbering). RowsBelow c.args.row n.notes) (sym c.self.view_is) below in
    let less : c.index.result.now.0 < c.args.row = below_at c.args.row items (c.len-count.result - 1) c.index.result.now here at in
    let not_less : c.args.row ≤ c.index.result.now.0 = ltb-false c.index.result.now.0 c.args.row h in
    omega (arith, less, not_less)
