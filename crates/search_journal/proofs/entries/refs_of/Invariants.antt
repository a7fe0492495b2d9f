use Rattle.std.proofs.Common.{◌≡◌, take}
use Rattle.log_theory.specs.LogText.{AreRefs}
use Rattle.search_journal.specs.Entries.{entry_refs}
use Rattle.search_journal.proofs.entries.refs_of.Given as goal

abbrev pub invariant-loop-entry : goal.invariant-loop-entry
invariant-loop-entry l = (l.refs.items ≡ entry_refs l.owner (take l.entry-index l.entries)) × AreRefs l.refs.items
