use Rattle.std.proofs.Common.{ℕ, List, sym, subst, ◌∙◌}
use Rattle.graph_theory.specs.Path.{IsPath}
use Rattle.search_theory.specs.Account.{InRange}
use Rattle.fail_account.proofs.Levels.{path_of-steps}
use Rattle.fail_account.proofs.account.Account.path.Goals as goal

pub returns-clause-is : goal.returns-clause-is
returns-clause-is c = rw (← c.self.view_is) (c.deref.ensures.value ∙ sym (path_of-steps c.self.inside.words.items c.self.inside.width c.self.inside.target 0 c.self.inside.path.items))

pub returns-clause-vertices : goal.returns-clause-vertices
returns-clause-vertices c =
    rw (← c.self.view_is) (subst (λ (xs : List (ℕ × ℕ)). IsPath xs) (sym (path_of-steps c.self.inside.words.items c.self.inside.width c.self.inside.target 0 c.self.inside.path.items)) c.self.invariant.vertices)

pub returns-clause-in_range : goal.returns-clause-in_range
returns-clause-in_range c =
    rw (← c.self.view_is) (subst (λ (xs : List (ℕ × ℕ)). InRange c.self.inside.pattern c.self.inside.target xs) (sym (path_of-steps c.self.inside.words.items c.self.inside.width c.self.inside.target 0 c.self.inside.path.items)) c.self.invariant.range)
