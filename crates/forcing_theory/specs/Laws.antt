-- The laws of forcing, from the definitions alone.

use Rattle.forcing_theory.specs.Units.{UnitLaw}
use Rattle.forcing_theory.specs.Chains.{ChainLaw, FewerLaw}

-- A form forces what its solutions agree on; kept reasons refute an end that rests on them.
pub record ForcingLaws : Type 0 where
  pub unit : UnitLaw
  pub chain : ChainLaw
  pub fewer : FewerLaw
