-- What two problems have in common beside their graphs.

use Rattle.std.specs.Prelude.{◌≡◌}
use Rattle.graph_theory.specs.Embedding.{Problem}

-- They are of the same kind, with the same pairs to be in order.
pub record AskTheSame (q w : Problem) : Type 0 where
  pub induced_is : q.induced ≡ w.induced
  pub maps_are : q.maps ≡ w.maps
  pub less_are : q.less ≡ w.less
