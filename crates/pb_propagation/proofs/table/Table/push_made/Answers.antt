use Rattle.std.proofs.Common.{◌≡◌, ℕ, List, Option, ap, ◌∙◌}
use Rattle.proof_theory.specs.Forms.{Form}
use Rattle.log_theory.specs.Tables.{Table, with_made}
use Rattle.pb_propagation.specs.Rows.{grown}
use Rattle.pb_propagation.proofs.table.Table.push_made.Goals as goal

-- A table whose owner's list grew.
table_with : (made lists : List (List (Option Form))) (shared : List (ℕ × Option Form)) (owner : ℕ) (f : Form) → lists ≡ grown made owner f
    → let t : Table = record { made = lists; shared = shared } in let u : Table = record { made = grown made owner f; shared = shared } in t ≡ u
table_with made lists shared owner f e = ap (λ (ls : List (List (Option Form))). let t : Table = record { made = ls; shared = shared } in t) e

pub returns-in_ok-push_at : goal.returns-in_ok-push_at
returns-in_ok-push_at c =
    table_with _ _ _ c.args.name.owner c.args.made c.in_ok-push_at.ensures.ok ∙ ap (λ (t : Table). with_made t c.args.name c.args.made) c.self.view_is
