use Rattle.std.proofs.Common.{refl, ◌≡◌, ◌<◌, [], ◌∷◌, ◌++◌, List, length, Some, sym, ap, ◌∙◌, subst, rules}
use Rattle.std.specs.Prelude.{slice_get}
use Rattle.std.proofs.lemmas.Option.{slice_get_read}
use Rattle.log_theory.specs.declared.step.Ref.{Ref}
use Rattle.log_theory.specs.LogText.{AreRefs, IsRef}
use Rattle.search_journal.specs.Entries.{entry_ref}
use Rattle.search_journal.proofs.Lists.{refs_snoc, entry_refs_next}
use Rattle.search_journal.proofs.entries.refs_of.Goals as goal

pub loop-entry-preserved : goal.loop-entry-preserved
loop-entry-preserved c =
    let items = c.args.entries.now in
    let e = c.entry-item.result in
    let less : c.loop-entry.entry-index < length items = search (rules, c.loop-entry-test.true) in
    let at : slice_get items c.loop-entry.entry-index ≡ Some e = slice_get_read items (length items) c.loop-entry.entry-index e refl less c.entry-item.is in
    let r : Ref = entry_ref c.args.owner e in
    let pushed : c.push.new.self.items ≡ c.loop-entry.refs.items ++ r ∷ [] = search rules in
    let fits : IsRef r = record { owner_fits = c.requires; from_one = e.fits.0; number_fits = e.fits.1 } in (
      pushed ∙ ap (λ (rs : List Ref). rs ++ r ∷ []) c.loop-entry.invariant.0 ∙ sym (entry_refs_next c.args.owner items c.loop-entry.entry-index e at),
      subst AreRefs (sym pushed) (refs_snoc c.loop-entry.refs.items r c.loop-entry.invariant.1 fits),
    )
