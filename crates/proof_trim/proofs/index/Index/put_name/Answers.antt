use Rattle.std.proofs.Common.{sym, ◌∙◌}
use Rattle.proof_trim.proofs.Indexing.{name_put, name_kept}
use Rattle.proof_trim.proofs.index.Index.put_name.Goals as goal

pub returns-in_ok-insert-in-None-clause-names : goal.returns-in_ok-insert-in-None-clause-names
returns-in_ok-insert-in-None-clause-names c = λ other.
    c.in_ok-insert-in-None.ensures.updates.0 (other.owner, other.number)
    ∙ name_put c.args.self.now c.args.name other c.args.place (sym c.name_place.ensures ∙ c.in-None.is)

pub returns-in-Some-clause-names : goal.returns-in-Some-clause-names
returns-in-Some-clause-names c = λ other. name_kept c.args.self.now c.args.name other c.args.place c.in-Some.field-0 (sym c.name_place.ensures ∙ c.in-Some.is)
