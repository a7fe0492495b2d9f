use Rattle.std.proofs.Common.{ℕ, ◌≡◌, ◌∷◌, ◌++◌, [], true, sym, subst, rules}
use Rattle.search_journal.specs.Numbers.{RowsBelow, RowsRise, NumbersFit, Numbering}
use Rattle.search_journal.proofs.Numbers.{rise_snoc, fit_snoc}
use Rattle.search_journal.proofs.row_numbers.RowNumbers.push.Goals as goal

pub invariant_of-self : goal.invariant_of-self
invariant_of-self c =
    let items = c.self.inside.notes.items in
    let x : ℕ × ℕ = (c.args.row, c.args.number) in
    let is : c.push_reserved.new.self.items ≡ items ++ x ∷ [] = search rules in
    let past : c.is_past.result ≡ true = c.if-not-is_past.false in
    let below : RowsBelow c.args.row items = subst (λ (n : Numbering). RowsBelow c.args.row n.notes) (sym c.self.view_is) (c.is_past.ensures.yes past) in (
      c.self.invariant.0,
      subst RowsRise (sym is) (rise_snoc items x c.self.invariant.1 below),
      subst NumbersFit (sym is) (fit_snoc items x c.self.invariant.2 c.requires.from_one c.requires.fits),
    )
