use Rattle.std.proofs.Common.{◌≡◌, ℕ, ◌<◌, List, Option, Some, None, IfSome, sym, subst}
use Rattle.graph_theory.specs.Path.{NotOn}
use Rattle.fail_account.specs.Held.{OpenAt}
use Rattle.fail_account.proofs.Levels.{path_of-steps}
use Rattle.fail_account.proofs.account.Account.vertex.Goals as goal

open_off : (v : Option ℕ) (n : ℕ) (path xs : List (ℕ × ℕ)) → OpenAt v n path → xs ≡ path → IfSome v (λ p. (p < n) × NotOn xs p)
open_off None n path xs at is = tt
open_off (Some p) n path xs at is = (at.0, subst (λ (ys : List (ℕ × ℕ)). NotOn ys p) (sym is) at.1)

pub returns-clause-off_path : goal.returns-clause-off_path
returns-clause-off_path c =
    rw (← c.self.view_is) (open_off c.self.inside.vertex c.self.inside.pattern c.self.inside.path.items _ c.self.invariant.open_at
    (path_of-steps c.self.inside.words.items c.self.inside.width c.self.inside.target 0 c.self.inside.path.items))
