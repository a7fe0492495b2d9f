-- The encoding of the reversed problem is that of the problem: what is asked of two vertices is asked both ways.

use Rattle.std.proofs.Common.{◌≡◌, ℕ, zero, suc, ◌+◌, ◌<◌, ◌==◌, Bool, true, false, ◌&&◌, ◌||◌, not, is_some, List, [], ◌∷◌, ◌++◌, length, Option, Some, None, ℤ, pos, negsuc, refl, ap, ◌∙◌, arith}
use Rattle.graph_theory.specs.Graph.{Graph, size, label, edge}
use Rattle.graph_theory.specs.Embedding.{Problem}
use Rattle.graph_theory.specs.Reversed.{reversed, reversed_problem}
use Rattle.graph_theory.specs.Blocks.{in_block, has_near, has_block_in, has_block}
use Rattle.graph_theory.specs.declared.embedding.Maps.{Maps}
use Rattle.graph_theory.specs.declared.embedding.Maps.TheVariants.{Injective, Local, Any}
use Rattle.graph_theory.proofs.ReversedGraphs.{edge-reversed, near-reversed}
use Rattle.graph_theory.proofs.BlockProofs.{near_in, has_reversed}
use Rattle.proof_theory.specs.Forms.{Form, form_of}
use Rattle.encoding_theory.specs.Variables.{variable, collect, when}
use Rattle.encoding_theory.specs.Pairs.{is_match, is_allowed, is_open, is_compatible, is_linked, is_edge_pair, is_non_edge_pair}
use Rattle.encoding_theory.specs.Encoding.{terms_where, vertex_group, at_most_in, block_at, block_forms, near_forms, target_group_in, target_group, refusal, refused_at, refused_of, refused_group, pair_form, pair_at, pair_forms, pairs_at, pairs_of, pair_group, edge_group, non_edge_group, less_group, encoding}
use Rattle.encoding_theory.specs.Places.{target_start, block_start, at_most_place_in, refused_start, refused_place, pair_place, edge_start, edge_place, non_edge_start, non_edge_place, less_start, less_from_place, less_to_place}
use Rattle.encoding_theory.specs.Reversal.{ReversedEncoding}

-- lists that are collected from equal parts
pub collect_same : {X : Type 0} (f g : ℕ → List X) (n : ℕ) → ((i : ℕ) → i < n → f i ≡ g i) → collect f n ≡ collect g n
collect_same f g zero same = refl
collect_same f g (suc n) same =
    ap (λ (xs : List _). xs ++ f n) (collect_same f g n (λ i low. same i (omega (arith, low)))) ∙ ap (λ (xs : List _). collect g n ++ xs) (same n (omega arith))

pub terms_same : (c : ℤ) (f g : ℕ → Bool) (number : ℕ → ℕ) (n : ℕ) → ((i : ℕ) → i < n → f i ≡ g i) → terms_where c f number n ≡ terms_where c g number n
terms_same c f g number n same =
    collect_same (λ i. when (f i) ((number i, c) ∷ [])) (λ i. when (g i) ((number i, c) ∷ [])) n (λ i low. ap (λ (b : Bool). when b ((number i, c) ∷ [])) (same i low))

and_other : (a b : Bool) → (a && b) ≡ (b && a)
and_other true true = refl
and_other true false = refl
and_other false true = refl
and_other false false = refl

or_other : (a b : Bool) → (a || b) ≡ (b || a)
or_other true true = refl
or_other true false = refl
or_other false true = refl
or_other false false = refl

pub linked_reversed : (g : Graph) (a b : ℕ) → a < size g → b < size g → is_linked (reversed g) a b ≡ is_linked g a b
linked_reversed g a b a_in b_in =
    ap (λ (e : Option ℕ). is_some e || is_some (edge (reversed g) b a)) (edge-reversed g a b a_in b_in)
    ∙ ap (λ (e : Option ℕ). is_some (edge g b a) || is_some e) (edge-reversed g b a b_in a_in)
    ∙ or_other (is_some (edge g b a)) (is_some (edge g a b))

-- the same vertices have a block around them by local maps
centres_same : (g : Graph) (c : ℕ) → has_near (reversed g) c ≡ has_near g c
centres_same g c = has_reversed (record { pattern = g; target = g; induced = false; maps = Local; less = [] }) (Some c)

module _ (q : Problem) where
  pub allowed_reversed : (p t : ℕ) → p < size q.pattern → t < size q.target → is_allowed (reversed_problem q) p t ≡ is_allowed q p t
  allowed_reversed p t p_in t_in =
      ap (λ (e : Option ℕ). (label q.target t == label q.pattern p) && is_match q.induced e (edge (reversed q.target) t t)) (edge-reversed q.pattern p p p_in p_in)
      ∙ ap (λ (e : Option ℕ). (label q.target t == label q.pattern p) && is_match q.induced (edge q.pattern p p) e) (edge-reversed q.target t t t_in t_in)

  match_reversed : (a b t u : ℕ) → a < size q.pattern → b < size q.pattern → t < size q.target → u < size q.target
      → is_match q.induced (edge (reversed q.pattern) a b) (edge (reversed q.target) t u) ≡ is_match q.induced (edge q.pattern b a) (edge q.target u t)
  match_reversed a b t u a_in b_in t_in u_in =
      ap (λ (e : Option ℕ). is_match q.induced e (edge (reversed q.target) t u)) (edge-reversed q.pattern a b a_in b_in)
      ∙ ap (λ (e : Option ℕ). is_match q.induced (edge q.pattern b a) e) (edge-reversed q.target t u t_in u_in)

  pub compatible_reversed : (p t r u : ℕ) → p < size q.pattern → t < size q.target → r < size q.pattern → u < size q.target
      → is_compatible (reversed_problem q) p t r u ≡ is_compatible q p t r u
  compatible_reversed p t r u p_in t_in r_in u_in =
      let out : Bool = is_match q.induced (edge q.pattern p r) (edge q.target t u) in
      let back : Bool = is_match q.induced (edge q.pattern r p) (edge q.target u t) in
      ap (λ (x : Bool). is_open q t u && (x && is_match q.induced (edge (reversed q.pattern) r p) (edge (reversed q.target) u t))) (match_reversed p r t u p_in r_in t_in u_in)
      ∙ ap (λ (x : Bool). is_open q t u && (back && x)) (match_reversed r p u t r_in p_in u_in t_in)
      ∙ ap (λ (x : Bool). is_open q t u && x) (and_other back out)

  pub edge_pair_reversed : (p r : ℕ) → p < size q.pattern → r < size q.pattern → is_edge_pair (reversed_problem q) p r ≡ is_edge_pair q p r
  edge_pair_reversed p r p_in r_in = ap (λ (x : Bool). not (p == r) && x) (linked_reversed q.pattern p r p_in r_in)

  pub non_edge_pair_reversed : (p r : ℕ) → p < size q.pattern → r < size q.pattern → is_non_edge_pair (reversed_problem q) p r ≡ is_non_edge_pair q p r
  non_edge_pair_reversed p r p_in r_in = ap (λ (x : Bool). q.induced && (not (p == r) && not x)) (linked_reversed q.pattern p r p_in r_in)

  pub pair_reversed : (p r t : ℕ) → p < size q.pattern → r < size q.pattern → t < size q.target → pair_form (reversed_problem q) p r t ≡ pair_form q p r t
  pair_reversed p r t p_in r_in t_in =
      ap (λ (ts : List (ℕ × ℤ)). form_of ((variable q p t, negsuc 0) ∷ ts) (pos 0))
      (terms_same (pos 1) (is_compatible (reversed_problem q) p t r) (is_compatible q p t r) (variable q r) (size q.target) (λ u u_in. compatible_reversed p t r u p_in t_in r_in u_in))

  -- ---- blocks

  near_form_same : (c t : ℕ) → c < size q.pattern → at_most_in (reversed_problem q) (Some c) t ≡ at_most_in q (Some c) t
  near_form_same c t c_in =
      ap (λ (ts : List (ℕ × ℤ)). form_of ts (negsuc 0))
      (terms_same (negsuc 0) (in_block (reversed_problem q) (Some c)) (in_block q (Some c)) (λ p. variable q p t) (size q.pattern)
      (λ p p_in. near-reversed q.pattern c p c_in p_in))

  near_before : (c t : ℕ) → c < size q.pattern → collect (block_at (reversed_problem q) (Some c)) t ≡ collect (block_at q (Some c)) t
  near_before c t c_in = collect_same (block_at (reversed_problem q) (Some c)) (block_at q (Some c)) t (λ u _. ap (λ (f : Form). f ∷ []) (near_form_same c u c_in))

  near_forms_same : (c : ℕ) → c < size q.pattern → near_forms (reversed_problem q) c ≡ near_forms q c
  near_forms_same c c_in =
      ap (λ (b : Bool). when b (block_forms (reversed_problem q) (Some c))) (centres_same q.pattern c)
      ∙ ap (λ (fs : List Form). when (has_near q.pattern c) fs) (near_before c (size q.target) c_in)

  targets_same_in : (k : Maps) → target_group_in k (reversed_problem q) ≡ target_group_in k q
  targets_same_in Injective = refl
  targets_same_in Local = collect_same (near_forms (reversed_problem q)) (near_forms q) (size q.pattern) (λ c c_in. near_forms_same c c_in)
  targets_same_in Any = refl

  targets_same : target_group (reversed_problem q) ≡ target_group q
  targets_same = targets_same_in q.maps

  centre_in : (k : Maps) (c : ℕ) → has_block_in k q.pattern (Some c) ≡ true → c < size q.pattern
  centre_in Injective c there = absurd cc
  centre_in Local c there = near_in q.pattern c there
  centre_in Any c there = absurd cc

  at_most_in_same : (b : Option ℕ) (t : ℕ) → has_block q b ≡ true → at_most_in (reversed_problem q) b t ≡ at_most_in q b t
  at_most_in_same None t there = refl
  at_most_in_same (Some c) t there = near_form_same c t (centre_in q.maps c there)

  at_most_place_same : (b : Option ℕ) (t : ℕ) → has_block q b ≡ true → at_most_place_in (reversed_problem q) b t ≡ at_most_place_in q b t
  at_most_place_same None t there = refl
  at_most_place_same (Some c) t there =
      let c_in : c < size q.pattern = centre_in q.maps c there in
      let start : block_start (reversed_problem q) (Some c) ≡ block_start q (Some c) =
      ap (λ (fs : List Form). length fs) (collect_same (near_forms (reversed_problem q)) (near_forms q) c (λ d low. near_forms_same d (omega (arith, low, c_in)))) in
      let place = ap (λ (fs : List Form). length fs) (near_before c t c_in) in
      omega (arith, start, place)

  -- ---- refused lines

  refused_at_same : (p t : ℕ) → p < size q.pattern → t < size q.target → refused_at (reversed_problem q) p t ≡ refused_at q p t
  refused_at_same p t p_in t_in = ap (λ (x : Bool). when (not x) (refusal q p t ∷ [])) (allowed_reversed p t p_in t_in)

  refused_before : (p t : ℕ) → p < size q.pattern → ((u : ℕ) → u < t → u < size q.target) → collect (refused_at (reversed_problem q) p) t ≡ collect (refused_at q p) t
  refused_before p t p_in low = collect_same (refused_at (reversed_problem q) p) (refused_at q p) t (λ u before. refused_at_same p u p_in (low u before))

  refused_of_before : (p : ℕ) → ((r : ℕ) → r < p → r < size q.pattern) → collect (refused_of (reversed_problem q)) p ≡ collect (refused_of q) p
  refused_of_before p low = collect_same (refused_of (reversed_problem q)) (refused_of q) p (λ r before. refused_before r (size q.target) (low r before) (λ u u_in. u_in))

  refused_group_same : refused_group (reversed_problem q) ≡ refused_group q
  refused_group_same = refused_of_before (size q.pattern) (λ r r_in. r_in)

  -- ---- groups of pairs, by a test that is the same

  module _ (old new : ℕ → ℕ → Bool) (same : (p r : ℕ) → p < size q.pattern → r < size q.pattern → new p r ≡ old p r) where
    forms_before : (p r t : ℕ) → p < size q.pattern → r < size q.pattern → ((u : ℕ) → u < t → u < size q.target) → collect (pair_at (reversed_problem q) p r) t ≡ collect (pair_at q p r) t
    forms_before p r t p_in r_in low = collect_same (pair_at (reversed_problem q) p r) (pair_at q p r) t (λ u before. ap (λ (f : Form). f ∷ []) (pair_reversed p r u p_in r_in (low u before)))

    pairs_at_same : (p r : ℕ) → p < size q.pattern → r < size q.pattern → pairs_at new (reversed_problem q) p r ≡ pairs_at old q p r
    pairs_at_same p r p_in r_in =
        ap (λ (b : Bool). when b (pair_forms (reversed_problem q) p r)) (same p r p_in r_in) ∙ ap (λ (fs : List Form). when (old p r) fs) (forms_before p r (size q.target) p_in r_in (λ u u_in. u_in))

    pairs_before : (p r : ℕ) → p < size q.pattern → ((v : ℕ) → v < r → v < size q.pattern) → collect (pairs_at new (reversed_problem q) p) r ≡ collect (pairs_at old q p) r
    pairs_before p r p_in low = collect_same (pairs_at new (reversed_problem q) p) (pairs_at old q p) r (λ v before. pairs_at_same p v p_in (low v before))

    pairs_of_before : (p : ℕ) → ((v : ℕ) → v < p → v < size q.pattern) → collect (pairs_of new (reversed_problem q)) p ≡ collect (pairs_of old q) p
    pairs_of_before p low = collect_same (pairs_of new (reversed_problem q)) (pairs_of old q) p (λ v before. pairs_before v (size q.pattern) (low v before) (λ r r_in. r_in))

    group_same : pair_group new (reversed_problem q) ≡ pair_group old q
    group_same = pairs_of_before (size q.pattern) (λ v v_in. v_in)

    place_same : (p r t : ℕ) → p < size q.pattern → r < size q.pattern → t < size q.target → pair_place new (reversed_problem q) p r t ≡ pair_place old q p r t
    place_same p r t p_in r_in t_in =
        let first = ap (λ (fs : List Form). length fs) (pairs_of_before p (λ v low. omega (arith, low, p_in))) in
        let second = ap (λ (fs : List Form). length fs) (pairs_before p r p_in (λ v low. omega (arith, low, r_in))) in
        let third = ap (λ (fs : List Form). length fs) (forms_before p r t p_in r_in (λ u low. omega (arith, low, t_in))) in
        omega (arith, first, second, third)

  -- ---- the whole

  edges_same : edge_group (reversed_problem q) ≡ edge_group q
  edges_same = group_same (is_edge_pair q) (is_edge_pair (reversed_problem q)) edge_pair_reversed

  non_edges_same : non_edge_group (reversed_problem q) ≡ non_edge_group q
  non_edges_same = group_same (is_non_edge_pair q) (is_non_edge_pair (reversed_problem q)) non_edge_pair_reversed

  refused_start_same : refused_start (reversed_problem q) ≡ refused_start q
  refused_start_same = ap (λ (fs : List Form). target_start q + length fs) targets_same

  edge_start_same : edge_start (reversed_problem q) ≡ edge_start q
  edge_start_same =
      let start = refused_start_same in
      let group = ap (λ (fs : List Form). length fs) refused_group_same in
      omega (arith, start, group)

  non_edge_start_same : non_edge_start (reversed_problem q) ≡ non_edge_start q
  non_edge_start_same =
      let start = edge_start_same in
      let group = ap (λ (fs : List Form). length fs) edges_same in
      omega (arith, start, group)

  less_start_same : less_start (reversed_problem q) ≡ less_start q
  less_start_same =
      let start = non_edge_start_same in
      let group = ap (λ (fs : List Form). length fs) non_edges_same in
      omega (arith, start, group)

  refused_place_same : (p t : ℕ) → p < size q.pattern → t < size q.target → refused_place (reversed_problem q) p t ≡ refused_place q p t
  refused_place_same p t p_in t_in =
      let start = refused_start_same in
      let before = ap (λ (fs : List Form). length fs) (refused_of_before p (λ r low. omega (arith, low, p_in))) in
      let here = ap (λ (fs : List Form). length fs) (refused_before p t p_in (λ u low. omega (arith, low, t_in))) in
      omega (arith, start, before, here)

  edge_place_same : (p r t : ℕ) → p < size q.pattern → r < size q.pattern → t < size q.target → edge_place (reversed_problem q) p r t ≡ edge_place q p r t
  edge_place_same p r t p_in r_in t_in =
      let start = edge_start_same in
      let place = place_same (is_edge_pair q) (is_edge_pair (reversed_problem q)) edge_pair_reversed p r t p_in r_in t_in in
      omega (arith, start, place)

  non_edge_place_same : (p r t : ℕ) → p < size q.pattern → r < size q.pattern → t < size q.target → non_edge_place (reversed_problem q) p r t ≡ non_edge_place q p r t
  non_edge_place_same p r t p_in r_in t_in =
      let start = non_edge_start_same in
      let place = place_same (is_non_edge_pair q) (is_non_edge_pair (reversed_problem q)) non_edge_pair_reversed p r t p_in r_in t_in in
      omega (arith, start, place)

  encoding_same : encoding (reversed_problem q) ≡ encoding q
  encoding_same =
      ap (λ (fs : List Form). vertex_group q ++ (fs ++ (refused_group (reversed_problem q) ++ (edge_group (reversed_problem q) ++ (non_edge_group (reversed_problem q) ++ less_group q))))) targets_same
      ∙ ap (λ (fs : List Form). vertex_group q ++ (target_group q ++ (fs ++ (edge_group (reversed_problem q) ++ (non_edge_group (reversed_problem q) ++ less_group q))))) refused_group_same
      ∙ ap (λ (fs : List Form). vertex_group q ++ (target_group q ++ (refused_group q ++ (fs ++ (non_edge_group (reversed_problem q) ++ less_group q))))) edges_same
      ∙ ap (λ (fs : List Form). vertex_group q ++ (target_group q ++ (refused_group q ++ (edge_group q ++ (fs ++ less_group q))))) non_edges_same

  pub reversed_forms : ReversedEncoding q
  reversed_forms = record {
    whole = encoding_same;
    allowed = allowed_reversed;
    compatible = compatible_reversed;
    edge_pair = edge_pair_reversed;
    non_edge_pair = non_edge_pair_reversed;
    pair = pair_reversed;
    at_most_in = at_most_in_same;
    at_most_at = at_most_place_same;
    refused_at = refused_place_same;
    edge_at = edge_place_same;
    non_edge_at = non_edge_place_same;
    less_from_at = λ k x t. let start = less_start_same in omega (arith, start);
    less_to_at = λ k x t. let start = less_start_same in omega (arith, start);
  }
