-- Each form of the encoding stands at the place that is counted for it.

use Rattle.std.proofs.Common.{◌≡◌, ℕ, ◌+◌, ◌<◌, Bool, true, List, [], ◌∷◌, ◌++◌, length, slice_get, Option, Some, None, refl, sym, subst, ap, ◌∙◌, arith, zero-add}
use Rattle.graph_theory.specs.Graph.{size}
use Rattle.graph_theory.specs.Embedding.{Problem}
use Rattle.graph_theory.specs.Blocks.{has_near, has_block_in}
use Rattle.graph_theory.specs.declared.embedding.Maps.{Maps}
use Rattle.graph_theory.specs.declared.embedding.Maps.TheVariants.{Injective, Local, Any}
use Rattle.graph_theory.proofs.BlockProofs.{near_in}
use Rattle.proof_theory.specs.Forms.{Form}
use Rattle.encoding_theory.specs.Variables.{collect}
use Rattle.encoding_theory.specs.Pairs.{is_edge_pair, is_non_edge_pair}
use Rattle.encoding_theory.specs.Encoding.{at_least, at_most, vertex_forms, vertex_group, at_most_in, block_at, block_forms, near_forms, target_group_in, target_group, is_refused, refusal, refused_at, refused_of, refused_group, pair_form, pair_at, pair_forms, pairs_at, pairs_of, pair_group, edge_group, non_edge_group, less_from, less_to, less_from_at, less_to_at, less_forms, is_inside, less_of, less_at, less_group, encoding}
use Rattle.encoding_theory.specs.Places.{at_least_place, at_most_place, target_start, block_start, refused_start, pair_place, edge_start, non_edge_start, less_start, PlaceLaws}
use Rattle.encoding_theory.proofs.Collected.{get-append_left, get-append_right, get-collect, get-when}

-- ---- the groups from each on

abbrev from_five : Problem → List Form
from_five q = non_edge_group q ++ less_group q

abbrev from_four : Problem → List Form
from_four q = edge_group q ++ from_five q

abbrev from_three : Problem → List Form
from_three q = refused_group q ++ from_four q

abbrev from_two : Problem → List Form
from_two q = target_group q ++ from_three q

-- ---- from a place in a group to one in the whole

from_vertices : (q : Problem) (i : ℕ) (f : Form) → slice_get (vertex_group q) i ≡ Some f → slice_get (encoding q) i ≡ Some f
from_vertices q i f h = get-append_left (vertex_group q) (from_two q) i f h

from_targets : (q : Problem) (i : ℕ) (f : Form) → slice_get (target_group q) i ≡ Some f → slice_get (encoding q) (target_start q + i) ≡ Some f
from_targets q i f h = get-append_right (vertex_group q) (from_two q) i ∙ get-append_left (target_group q) (from_three q) i f h

add_apart : (a b c : ℕ) → (a + b) + c ≡ a + (b + c)
add_apart a b c = omega arith

from_refused : (q : Problem) (i : ℕ) (f : Form) → slice_get (from_three q) i ≡ Some f → slice_get (encoding q) (refused_start q + i) ≡ Some f
from_refused q i f h =
    ap (slice_get (encoding q)) (add_apart (target_start q) (length (target_group q)) i)
    ∙ get-append_right (vertex_group q) (from_two q) (length (target_group q) + i)
    ∙ get-append_right (target_group q) (from_three q) i ∙ h

from_edges : (q : Problem) (i : ℕ) (f : Form) → slice_get (from_four q) i ≡ Some f → slice_get (encoding q) (edge_start q + i) ≡ Some f
from_edges q i f h =
    ap (slice_get (encoding q)) (add_apart (refused_start q) (length (refused_group q)) i)
    ∙ from_refused q (length (refused_group q) + i) f (get-append_right (refused_group q) (from_four q) i ∙ h)

from_non_edges : (q : Problem) (i : ℕ) (f : Form) → slice_get (from_five q) i ≡ Some f → slice_get (encoding q) (non_edge_start q + i) ≡ Some f
from_non_edges q i f h =
    ap (slice_get (encoding q)) (add_apart (edge_start q) (length (edge_group q)) i)
    ∙ from_edges q (length (edge_group q) + i) f (get-append_right (edge_group q) (from_five q) i ∙ h)

from_less : (q : Problem) (i : ℕ) (f : Form) → slice_get (less_group q) i ≡ Some f → slice_get (encoding q) (less_start q + i) ≡ Some f
from_less q i f h =
    ap (slice_get (encoding q)) (add_apart (non_edge_start q) (length (non_edge_group q)) i)
    ∙ from_non_edges q (length (non_edge_group q) + i) f (get-append_right (non_edge_group q) (less_group q) i ∙ h)

-- ---- places in groups

add_none : (n : ℕ) → n ≡ n + 0
add_none n = omega arith

-- a form alone in its part
get-single : (f : ℕ → Form) (part : ℕ → List Form) (n i : ℕ) → part i ≡ f i ∷ [] → i < n → slice_get (collect part n) (length (collect part i)) ≡ Some (f i)
get-single f part n i e low =
    ap (slice_get (collect part n)) (add_none (length (collect part i)))
    ∙ get-collect part n i 0 (f i) low (ap (λ (fs : List Form). slice_get fs 0) e)

get-refusal : (q : Problem) (p t : ℕ) → p < size q.pattern → t < size q.target → is_refused q p t ≡ true
    → slice_get (refused_group q) (length (collect (refused_of q) p) + length (collect (refused_at q p) t)) ≡ Some (refusal q p t)
get-refusal q p t p_in t_in r =
    get-collect (refused_of q) (size q.pattern) p (length (collect (refused_at q p) t)) (refusal q p t) p_in
    (ap (slice_get (refused_of q p)) (add_none (length (collect (refused_at q p) t)))
    ∙ get-collect (refused_at q p) (size q.target) t 0 (refusal q p t) t_in (get-when (is_refused q p t) (refusal q p t ∷ []) 0 r))

get-pair : (test : ℕ → ℕ → Bool) (q : Problem) (p r t : ℕ) → p < size q.pattern → r < size q.pattern → t < size q.target → test p r ≡ true
    → slice_get (pair_group test q) (pair_place test q p r t) ≡ Some (pair_form q p r t)
get-pair test q p r t p_in r_in t_in passed =
    get-collect (pairs_of test q) (size q.pattern) p _ (pair_form q p r t) p_in
    (get-collect (pairs_at test q p) (size q.pattern) r (length (collect (pair_at q p r) t)) (pair_form q p r t) r_in
    (get-when (test p r) (pair_forms q p r) (length (collect (pair_at q p r) t)) passed
    ∙ get-single (pair_form q p r) (pair_at q p r) (size q.target) t refl t_in))

-- a form of a block
get-block : (q : Problem) (b : Option ℕ) (t : ℕ) → t < size q.target → slice_get (block_forms q b) (length (collect (block_at q b) t)) ≡ Some (at_most_in q b t)
get-block q b t t_in = get-single (at_most_in q b) (block_at q b) (size q.target) t refl t_in

get-block_in : (k : Maps) (q : Problem) (b : Option ℕ) (t : ℕ) → has_block_in k q.pattern b ≡ true → t < size q.target
    → slice_get (target_group_in k q) (block_start q b + length (collect (block_at q b) t)) ≡ Some (at_most_in q b t)
get-block_in Injective q None t there t_in =
    ap (slice_get (block_forms q None)) (zero-add (length (collect (block_at q None) t))) ∙ get-block q None t t_in
get-block_in Injective q (Some c) t there t_in = absurd cc
get-block_in Local q None t there t_in = absurd cc
get-block_in Local q (Some c) t there t_in =
    get-collect (near_forms q) (size q.pattern) c (length (collect (block_at q (Some c)) t)) (at_most_in q (Some c) t) (near_in q.pattern c there)
    (get-when (has_near q.pattern c) (block_forms q (Some c)) (length (collect (block_at q (Some c)) t)) there ∙ get-block q (Some c) t t_in)
get-block_in Any q b t there t_in = absurd cc

-- a form of a pair that is to be in order
get-less : (q : Problem) (k : ℕ) (x : ℕ × ℕ) (i : ℕ) (f : Form) → k < length q.less → slice_get q.less k ≡ Some x → is_inside q x ≡ true
    → slice_get (less_forms q x) i ≡ Some f → slice_get (less_group q) (length (collect (less_at q) k) + i) ≡ Some f
get-less q k x i f k_in is inside h =
    get-collect (less_at q) (length q.less) k i f k_in
    (ap (λ (o : Option (ℕ × ℕ)). slice_get (less_of q o) i) is ∙ get-when (is_inside q x) (less_forms q x) i inside ∙ h)

get-less_from : (q : Problem) (x : ℕ × ℕ) (t : ℕ) → t < size q.target → slice_get (less_forms q x) (length (collect (less_from_at q x) t)) ≡ Some (less_from q x t)
get-less_from q x t t_in =
    get-append_left (collect (less_from_at q x) (size q.target)) (collect (less_to_at q x) (size q.target)) _ (less_from q x t)
    (get-single (less_from q x) (less_from_at q x) (size q.target) t refl t_in)

get-less_to : (q : Problem) (x : ℕ × ℕ) (t : ℕ) → t < size q.target
    → slice_get (less_forms q x) (length (collect (less_from_at q x) (size q.target)) + length (collect (less_to_at q x) t)) ≡ Some (less_to q x t)
get-less_to q x t t_in =
    get-append_right (collect (less_from_at q x) (size q.target)) (collect (less_to_at q x) (size q.target)) (length (collect (less_to_at q x) t))
    ∙ get-single (less_to q x) (less_to_at q x) (size q.target) t refl t_in

-- ---- all

pub place_laws : (q : Problem) → PlaceLaws q
place_laws q = record {
  at_least = λ p p_in. from_vertices q (at_least_place q p) (at_least q p)
      (ap (slice_get (vertex_group q)) (add_none (length (collect (vertex_forms q) p)))
      ∙ get-collect (vertex_forms q) (size q.pattern) p 0 (at_least q p) p_in refl);
  at_most = λ p p_in. from_vertices q (at_most_place q p) (at_most q p) (get-collect (vertex_forms q) (size q.pattern) p 1 (at_most q p) p_in refl);
  at_most_in = λ b t there t_in. from_targets q (block_start q b + length (collect (block_at q b) t)) (at_most_in q b t)
      (get-block_in q.maps q b t there t_in);
  refused = λ p t p_in t_in r. from_refused q (length (collect (refused_of q) p) + length (collect (refused_at q p) t)) (refusal q p t)
      (get-append_left (refused_group q) (from_four q) _ (refusal q p t) (get-refusal q p t p_in t_in r));
  edge = λ p r t p_in r_in t_in passed. from_edges q (pair_place (is_edge_pair q) q p r t) (pair_form q p r t)
      (get-append_left (edge_group q) (from_five q) _ (pair_form q p r t) (get-pair (is_edge_pair q) q p r t p_in r_in t_in passed));
  non_edge = λ p r t p_in r_in t_in passed. from_non_edges q (pair_place (is_non_edge_pair q) q p r t) (pair_form q p r t)
      (get-append_left (non_edge_group q) (less_group q) _ (pair_form q p r t) (get-pair (is_non_edge_pair q) q p r t p_in r_in t_in passed));
  less_from = λ k x t k_in is inside t_in.
      ap (slice_get (encoding q)) (add_apart (less_start q) (length (collect (less_at q) k)) (length (collect (less_from_at q x) t)))
      ∙ from_less q (length (collect (less_at q) k) + length (collect (less_from_at q x) t)) (less_from q x t)
      (get-less q k x (length (collect (less_from_at q x) t)) (less_from q x t) k_in is inside (get-less_from q x t t_in));
  less_to = λ k x t k_in is inside t_in.
      let after : ℕ = length (collect (less_from_at q x) (size q.target)) + length (collect (less_to_at q x) t) in
      ap (slice_get (encoding q)) (add_apart (less_start q) (length (collect (less_at q) k)) after)
      ∙ from_less q (length (collect (less_at q) k) + after) (less_to q x t) (get-less q k x after (less_to q x t) k_in is inside (get-less_to q x t t_in));
}
