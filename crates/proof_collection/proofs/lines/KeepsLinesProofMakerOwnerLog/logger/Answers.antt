use Rattle.std.proofs.Common.{[], sym, subst}
use Rattle.graph_theory.specs.Embedding.{Problem}
use Rattle.search_theory.specs.Account.{fresh}
use Rattle.search_journal.specs.Entries.{Writes}
use Rattle.proof_collection.specs.Logs.{IsKnown}
use Rattle.proof_collection.proofs.lines.KeepsLinesProofMakerOwnerLog.logger.Goals as goal

pub new-kept-requires-clause-knows : goal.new-kept-requires-clause-knows
new-kept-requires-clause-knows c = λ w frame.
    let m = c.in_ok-maker.maker in
    subst (λ (q : Problem). IsKnown m q w []) (sym c.args.self.now.same) (c.in_ok-maker.ensures w)

pub returns-clause-writes : goal.returns-clause-writes
returns-clause-writes c = λ rows pattern target budget none.
    let j = c.new-kept.result in
    let m = j.maker in
    subst (λ (q : Problem). Writes (IsKnown m) j.lines.now j.journal j.numbers.owner j.numbers.notes j.entries.items q rows (fresh pattern target budget)) c.args.self.now.same
    (c.new-kept.ensures.writes rows pattern target budget none)
