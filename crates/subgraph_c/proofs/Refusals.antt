-- The statuses of refusals, and the status 4 of a fault.

use Rattle.std.specs.Prelude.{◌≡◌, ◌⊎◌, refl}
use Rattle.std.proofs.Common.{inl, inr}
use Rattle.subgraph_c.specs.Reports.{refusal_status}
use Rattle.subgraph_c.specs.declared.refusal.Refusal.{Refusal}
use Rattle.subgraph_c.specs.declared.refusal.Refusal.TheVariants.{Number, Pattern, Target, Vertex, NoMemory}

-- A refusal has one of three statuses.
pub refusal_status_is : (r : Refusal) → (refusal_status r ≡ 3) ⊎ ((refusal_status r ≡ 4) ⊎ (refusal_status r ≡ 6))
refusal_status_is (Number n) = inl refl
refusal_status_is (Pattern word cause) = inr (inl refl)
refusal_status_is (Target word cause) = inr (inl refl)
refusal_status_is (Vertex number) = inr (inl refl)
refusal_status_is NoMemory = inr (inr refl)
