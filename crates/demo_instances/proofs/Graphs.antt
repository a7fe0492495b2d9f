-- The graph of lists that say the pairs of a test.

use Rattle.std.proofs.Common.{◌≡◌, ℕ, ◌<◌, Bool, ◌&&◌, ◌||◌, nat_lt, List, length, map, get_or, replicate, Result, Ok, Err, IfOk, sym, ap, subst, ◌∙◌, arith}
use Rattle.std.proofs.lemmas.Grind.{common_steps}
use Rattle.std.proofs.lemmas.List.{get_or-replicate, length-replicate}
use Rattle.graph_theory.specs.Lad.{Vertex}
use Rattle.graph_theory.specs.Graph.{Graph, graph_of}
use Rattle.graph_theory.proofs.Tables.{edge-graph_of}
use Rattle.lad_reader.specs.Parts.{vertices_from}
use Rattle.graph_rows.specs.Held.{edge_of_mark, either_said, said}
use Rattle.graph_rows.proofs.Parts.{either-vertices, labels-vertices, length-vertices}
use Rattle.demo_instances.specs.Shapes.{IsMadeOf}
use Rattle.demo_instances.specs.Listing.{ListsPairs}

below_true : (b n : ℕ) (t : Bool) → b < n → (nat_lt b n && t) ≡ t
below_true b n t h = grind (arith, common_steps)

-- The graph of lists that say the pairs of the test is made of it.
pub made : (n : ℕ) (pair : ℕ → ℕ → Bool) (labels : List ℕ) (lists : List (List ℕ)) (g : Graph)
    → labels ≡ replicate n 0 → ListsPairs n n pair lists → g ≡ graph_of (vertices_from labels lists) → IsMadeOf n pair g
made n pair labels lists g zeros h is =
    subst (IsMadeOf n pair) (sym is) record {
      size_is = ap length names ∙ many;
      labels = λ a a_in. ap (λ (ls : List ℕ). get_or ls a 0) (names ∙ zeros) ∙ get_or-replicate n a 0 0 a_in;
      edges = λ a b a_in b_in.
          edge-graph_of vs a b (subst (λ (k : ℕ). a < k) (sym size_vs) a_in) (subst (λ (k : ℕ). b < k) (sym size_vs) b_in)
          ∙ either-vertices labels lists a b same
          ∙ ap edge_of_mark (both a b a_in b_in);
    }
  where
    vs : List Vertex
    vs = vertices_from labels lists

    many : length labels ≡ n
    many = ap length zeros ∙ length-replicate n 0

    same : length labels ≡ length lists
    same = many ∙ sym h.many

    names : map (λ (v : Vertex). v.label) (vertices_from labels lists) ≡ labels
    names = labels-vertices labels lists same

    size_vs : length (vertices_from labels lists) ≡ n
    size_vs = length-vertices labels lists same ∙ many

    both : (a b : ℕ) → a < n → b < n → either_said lists a b ≡ (pair a b || pair b a)
    both a b a_in b_in =
        ap (λ (t : Bool). t || said lists b a) (h.each a b a_in ∙ below_true b n (pair a b) b_in)
        ∙ ap (λ (t : Bool). pair a b || t) (h.each b a b_in ∙ below_true a n (pair b a) a_in)

pub made-ok : {E : Type 0} (r : Result Graph E) (n : ℕ) (pair : ℕ → ℕ → Bool) (labels : List ℕ) (lists : List (List ℕ)) → labels ≡ replicate n 0 → ListsPairs n n pair lists
    → IfOk r (λ (g : Graph). g ≡ graph_of (vertices_from labels lists)) → IfOk r (IsMadeOf n pair)
made-ok (Ok g) n pair labels lists zeros h is = made n pair labels lists g zeros h is
made-ok (Err e) n pair labels lists zeros h is = tt
