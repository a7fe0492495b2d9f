use Rattle.std.proofs.Common.{refl, slice_index_or, ◌⊎◌, inl, inr, ℕ, ◌≡◌, ◌+◌, ◌-◌, ◌/◌, ◌<◌, ◌≤◌, List, length, Some, sym, ap, ◌∙◌, arith}
use Rattle.std.specs.Prelude.{slice_get}
use Rattle.std.proofs.lemmas.Bool.{cases_lt}
use Rattle.std.proofs.lemmas.Option.{slice_get_read}
use Rattle.journal_theory.specs.Journals.{note_of}
use Rattle.journal_theory.proofs.Placing.{some_same}
use Rattle.search_journal.specs.Numbers.{Numbering, RowsRise}
use Rattle.search_journal.proofs.Numbers.{note_at, note_none, fit_at, rows_order}
use Rattle.search_journal.proofs.row_numbers.RowNumbers.number.Goals as goal

-- what stands in the middle
middle : (items : List (ℕ × ℕ)) (low high : ℕ) (x : ℕ × ℕ) → low < high → high ≤ length items → x ≡ slice_index_or items (low + (high - low) / 2) x → slice_get items (low + (high - low) / 2) ≡ Some x
middle items low high x less within is = slice_get_read items (length items) (low + (high - low) / 2) x refl (omega (arith, less, within)) is

-- a row that is not before another stands not before it
not_before : (items : List (ℕ × ℕ)) (i k : ℕ) (x y : ℕ × ℕ) → RowsRise items → slice_get items i ≡ Some x → slice_get items k ≡ Some y → x.0 < y.0 → i < k
not_before items i k x y rise at to less = by (cases_lt i k) (cases_lt k i)
  where
    by : (i < k) ⊎ (k ≤ i) → (k < i) ⊎ (i ≤ k) → i < k
    by (inl l) m = l
    by (inr l) (inl m) = let o = rows_order items k i y x rise to at m in absurd (omega (arith, o, less))
    by (inr l) (inr m) =
        let same : i ≡ k = omega (arith, l, m) in
        let e : x ≡ y = some_same x y (sym at ∙ ap (slice_get items) same ∙ to) in
        let f : x.0 ≡ y.0 = ap (λ (z : ℕ × ℕ). z.0) e in
        absurd (omega (arith, f, less))

pub returns-then-note-row-clause-is : goal.returns-then-note-row-clause-is
returns-then-note-row-clause-is c =
    let items = c.self.inside.notes.items in
    let x = c.index-note.result.now in
    let at = middle items c.loop-low.low c.loop-low.high x c.loop-low-test.true c.loop-low.invariant.1 c.index-note.ensures in
    let same : x.0 ≡ c.args.row = c.if-note-row.true in
    sym (ap (λ (n : Numbering). note_of n.notes c.args.row) (sym c.self.view_is) ∙ ap (note_of items) (sym same) ∙ note_at items (c.loop-low.low + (c.loop-low.high - c.loop-low.low) / 2) x c.self.invariant.1 at)

pub returns-then-note-row-clause-fits : goal.returns-then-note-row-clause-fits
returns-then-note-row-clause-fits c =
    let items = c.self.inside.notes.items in
    let x = c.index-note.result.now in
    let at = middle items c.loop-low.low c.loop-low.high x c.loop-low-test.true c.loop-low.invariant.1 c.index-note.ensures in
    fit_at items (c.loop-low.low + (c.loop-low.high - c.loop-low.low) / 2) x c.self.invariant.2 at

pub loop-low-preserved-then-note-row-2 : goal.loop-low-preserved-then-note-row-2
loop-low-preserved-then-note-row-2 c =
    let items = c.self.inside.notes.items in
    let x = c.index-note.result.now in
    let less : c.loop-low.low < c.loop-low.high = c.loop-low-test.true in
    let within : c.loop-low.high ≤ length items = c.loop-low.invariant.1 in
    let at = middle items c.loop-low.low c.loop-low.high x less within c.index-note.ensures in (
      omega (arith, less),
      within,
      λ k y to same.
          let old = c.loop-low.invariant.2 k y to same in
          let after : x.0 < y.0 = omega (arith, same, c.if-note-row-2.true) in
          let i = not_before items (c.loop-low.low + (c.loop-low.high - c.loop-low.low) / 2) k x y c.self.invariant.1 at to after in
          (omega (arith, i), old.1),
    )

pub loop-low-preserved : goal.loop-low-preserved
loop-low-preserved c =
    let items = c.self.inside.notes.items in
    let x = c.index-note.result.now in
    let less : c.loop-low.low < c.loop-low.high = c.loop-low-test.true in
    let within : c.loop-low.high ≤ length items = c.loop-low.invariant.1 in
    let at = middle items c.loop-low.low c.loop-low.high x less within c.index-note.ensures in
    let apart : x.0 ≡ c.args.row → ⊥ = c.if-note-row.false in
    let high : c.args.row ≤ x.0 = c.if-note-row-2.false in (
      omega (arith, less),
      omega (arith, less, within),
      λ k y to same.
          let old = c.loop-low.invariant.2 k y to same in
          let before : y.0 < x.0 = omega (arith, same, high, apart) in
          (old.0, not_before items k (c.loop-low.low + (c.loop-low.high - c.loop-low.low) / 2) y x c.self.invariant.1 to at before),
    )

pub returns-clause-is : goal.returns-clause-is
returns-clause-is c =
    let items = c.self.inside.notes.items in
    let done : c.loop-low.high ≤ c.loop-low.low = c.loop-low-test.false in
    sym (ap (λ (n : Numbering). note_of n.notes c.args.row) (sym c.self.view_is) ∙ note_none items c.args.row (λ k x at same.
    let old = c.loop-low.invariant.2 k x at same in
    let l : c.loop-low.low ≤ k = old.0 in
    let m : k < c.loop-low.high = old.1 in
    omega (arith, l, m, done)))
