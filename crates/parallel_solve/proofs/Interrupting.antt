-- What an interrupted run says of the gate, and what is so where none was interrupted.

use Rattle.std.proofs.Common.{List, get_or, subst, inl, inr}
use Rattle.std.specs.Prelude.{All}
use Rattle.std.specs.List.{Any}
use Rattle.restart_search.specs.declared.outcome.Outcome.{Outcome}
use Rattle.restart_search.specs.declared.outcome.Outcome.TheVariants.{Found, Refuted, Spent, Stopped, Interrupted, NoMemory}
use Rattle.restart_search.specs.Searching.{IfInterrupted, IsNotStopped}
use Rattle.parallel_solve.specs.Teaming.{AreSettled, HasEnded, HaveEnded, IsInterrupted}

closed_one : (o : Outcome) (P : Type 0) → IfInterrupted o P → IsInterrupted o → P
closed_one (Found m) P h is = absurd is
closed_one Refuted P h is = absurd is
closed_one Spent P h is = absurd is
closed_one (Stopped n) P h is = absurd is
closed_one Interrupted P h is = h
closed_one NoMemory P h is = absurd is

-- one was interrupted, so the gate may close
pub closed_of : {X : Type 0} (f : X → Outcome) (P : Type 0) (xs : List X) → All (λ x. IfInterrupted (f x) P) xs → Any (λ x. IsInterrupted (f x)) xs → P
closed_of {X} f P xs all (k, x, lt, is, one) = closed_one (f x) P (subst (λ (z : X). IfInterrupted (f z) P) is (all k x lt)) one

ended_one : (o : Outcome) → IsNotStopped o → (IsInterrupted o → ⊥) → HasEnded o
ended_one (Found m) on none = tt
ended_one Refuted on none = tt
ended_one Spent on none = tt
ended_one (Stopped n) on none = absurd on
ended_one Interrupted on none = absurd (none tt)
ended_one NoMemory on none = tt

-- none was interrupted
pub ended_of : {X : Type 0} (f : X → Outcome) (xs : List X) → AreSettled f xs → All (λ x. IsInterrupted (f x) → ⊥) xs → HaveEnded f xs
ended_of f xs (inl d) none = inl d
ended_of f xs (inr all) none = inr (λ k x lt. ended_one (f (get_or xs k x)) (all k x lt) (none k x lt))
