-- A loop turned round is a loop, and gives as much room.

use Rattle.std.proofs.Common.{◌≡◌, ℕ, ◌+◌, ◌<◌, Bool, true, false, if◌then◌else◌, Option, is_some, refl, sym, ap, subst, ◌∙◌, arith}
use Rattle.std.specs.Int.{from_bool}
use Rattle.graph_theory.specs.Graph.{Graph, size, edge}
use Rattle.graph_theory.specs.Neighbours.{degree}
use Rattle.graph_theory.specs.Embedding.{Problem}
use Rattle.graph_theory.specs.Asked.{room_in, room}
use Rattle.graph_theory.specs.Reversed.{turned, turned_problem}
use Rattle.graph_theory.specs.declared.embedding.Maps.{Maps}
use Rattle.graph_theory.specs.declared.embedding.Maps.TheVariants.{Injective, Local, Any}
use Rattle.graph_theory.specs.declared.direction.Direction.{Direction}
use Rattle.graph_theory.specs.declared.direction.Direction.TheVariants.{Out, In}
use Rattle.graph_theory.proofs.ReversedGraphs.{edge-reversed}

pub loop-turned : (direction : Direction) (g : Graph) (t : ℕ) → t < size g → is_some (edge (turned direction g) t t) ≡ is_some (edge g t t)
loop-turned Out g t t_in = refl
loop-turned In g t t_in = ap (λ (e : Option ℕ). is_some e) (edge-reversed g t t t_in t_in)

one_of : (b : Bool) → from_bool b ≡ (if b then 1 else 0)
one_of true = refl
one_of false = refl

looped : (direction : Direction) (g : Graph) (t own others : ℕ) (b : Bool) → own ≡ from_bool b → b ≡ is_some (edge g t t) → others ≡ degree (turned direction g) t → t < size g
    → own + others ≡ (if is_some (edge (turned direction g) t t) then 1 else 0) + degree (turned direction g) t
looped direction g t own others b own_is b_is others_is t_in =
    let one : own ≡ (if is_some (edge (turned direction g) t t) then 1 else 0) =
    own_is ∙ one_of b ∙ ap (λ (x : Bool). if x then 1 else 0) (b_is ∙ sym (loop-turned direction g t t_in)) in
    omega (arith, one, others_is)

pub room_local : (direction : Direction) (q : Problem) (t own others : ℕ) (b : Bool) → Local ≡ q.maps → own ≡ from_bool b → b ≡ is_some (edge q.target t t)
    → others ≡ degree (turned direction q.target) t → t < size q.target → own + others ≡ room (turned_problem direction q) t
room_local direction q t own others b is own_is b_is others_is t_in =
    subst (λ (k : Maps). own + others ≡ room_in k (turned direction q.target) t) is (looped direction q.target t own others b own_is b_is others_is t_in)

pub room_any : (direction : Direction) (q : Problem) (t own others : ℕ) (b : Bool) → Any ≡ q.maps → own ≡ from_bool b → b ≡ is_some (edge q.target t t)
    → others ≡ degree (turned direction q.target) t → t < size q.target → own + others ≡ room (turned_problem direction q) t
room_any direction q t own others b is own_is b_is others_is t_in =
    subst (λ (k : Maps). own + others ≡ room_in k (turned direction q.target) t) is (looped direction q.target t own others b own_is b_is others_is t_in)
