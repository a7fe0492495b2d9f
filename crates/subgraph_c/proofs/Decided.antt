-- What is decided of a problem, and what that says of a call that asks it.

use Rattle.std.specs.Prelude.{ℕ, ◌≤◌, List, [], ◌∷◌, Result, Ok, Err, IfOk, IfErr, refl}
use Rattle.std.proofs.Common.{arith, sym, subst, inl, inr}
use Rattle.std.proofs.lemmas.List.Elements.{All-head}
use Rattle.graph_theory.specs.Graph.{size}
use Rattle.graph_theory.specs.Embedding.{Problem}
use Rattle.search_theory.specs.Account.{Account, Spends}
use Rattle.parallel_solve.specs.Solving.{AreSpent}
use Rattle.parallel_solve.specs.declared.answers.Interrupted.{Interrupted}
use Rattle.subgraph_c.specs.Asking.{Call, Asks}
use Rattle.subgraph_c.specs.Deciding.{IsInRange, IsAsked, IsSpent, ProblemSays, RoomSays, DecisionSays, EndSays}
use Rattle.subgraph_c.specs.declared.deciding.Decision.{Decision}
use Rattle.subgraph_c.specs.declared.deciding.Decision.TheVariants.{Yes, Nothing, Unknown, Refused}
use Rattle.subgraph_c.specs.declared.refusal.Refusal.{Refusal}

-- A search of one worker that spent the budget has its account.
pub spent_of : (q : Problem) (budget : ℕ) (accounts : List Account) → AreSpent q 1 budget accounts → IsSpent q budget
spent_of q budget [] spent = absurd (omega (arith, spent.count))
spent_of q budget (a ∷ more) spent = record {
  account = a;
  spends = All-head (Spends q budget) a more spent.spend;
  not_enough = spent.not_enough;
}

-- What is decided of a problem is decided of each call that asks it with room for its images.
decision_of : (d : Decision) (c : Call) (room : ℕ) (q : Problem) → IsAsked c room q → ProblemSays d q c.options.budget → DecisionSays d c room
decision_of (Yes m) c room q asked says = record { problem = q; asked = asked; embeds = says }
decision_of Nothing c room q asked says = record { problem = q; asked = asked; none = says }
decision_of Unknown c room q asked says = record { problem = q; asked = asked; account = says.account; spends = says.spends; not_enough = says.not_enough }
decision_of (Refused refusal) c room q asked says = subst (λ (r : Refusal). DecisionSays (Refused r) c room) (sym says) asked.in_range

-- What is decided of a problem, or that it lacks room, is decided of each call that asks it.
pub room_decision_of : (d : Decision) (c : Call) (room : ℕ) (q : Problem) → Asks c q → IsInRange c → RoomSays d q c.options.budget room → DecisionSays d c room
room_decision_of d c room q asks good (inl x) = decision_of d c room q (record { asks = asks; in_range = good; fits = x.0 }) x.1
room_decision_of d c room q asks good (inr x) =
    subst (λ (e : Decision). DecisionSays e c room) (sym x.1) (inr (inr (refl, record { problem = q; asks = asks; in_range = good; short = x.0 })))

-- What a search of a problem at a gate says, it says of each call that asks it.
pub end_of : (e : Result Decision Interrupted) (c : Call) (room : ℕ) (q : Problem) → Asks c q → IsInRange c
    → IfOk e (λ d. RoomSays d q c.options.budget room) → IfErr e (λ _. size q.pattern ≤ room) → EndSays e c room
end_of (Ok d) c room q asks good says fits = room_decision_of d c room q asks good says
end_of (Err i) c room q asks good says fits = (q, record { asks = asks; in_range = good; fits = fits })
