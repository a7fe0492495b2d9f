use Rattle.std.proofs.Common.{◌∙◌, ℕ, ◌==◌, Bool, Some, cond, ap}
use Rattle.pair_lines.specs.Choices.{Names, entry_at, pair_key}
use Rattle.pair_lines.proofs.Tables.{swapped, added_fits}
use Rattle.pair_lines.proofs.pair_names.PairNames.add.Goals as goal

pub invariant_of-self-2 : goal.invariant_of-self-2
invariant_of-self-2 c = added_fits c.self.inside.names.entries c.insert.new.self.entries c.key.result c.args.name c.in_ok-insert.ensures.updates.0 c.requires c.self.invariant

pub returns-clause-added : goal.returns-clause-added
returns-clause-added c = λ k.
    c.in_ok-insert.ensures.updates.0 k
    ∙ ap (λ (b : Bool). cond b (Some c.args.name) (entry_at c.self.inside.names.entries k)) (swapped c.key.result k ∙ ap (λ (x : ℕ). k == x) c.key.ensures)
    ∙ ap (λ (names : Names). cond (k == pair_key c.args.p c.args.r c.args.w) (Some c.args.name) (entry_at names k)) c.self.view_is
