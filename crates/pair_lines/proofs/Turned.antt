-- Both graphs of a problem as they are or turned round: the tests of edges, the blocks, and the places of the encoding's lines, are the same.
use Rattle.std.proofs.Common.{◌≡◌, ℕ, ◌+◌, ◌<◌, Bool, true, ◌&&◌, Option, refl, sym, ap, subst, ◌∙◌}
use Rattle.graph_theory.specs.Graph.{size}
use Rattle.graph_theory.specs.Embedding.{Problem, near_both}
use Rattle.graph_theory.specs.Neighbours.{is_near}
use Rattle.graph_theory.specs.Blocks.{has_block}
use Rattle.graph_theory.proofs.BlockProofs.{block_laws_hold}
use Rattle.graph_theory.proofs.ReversedGraphs.{near-reversed}
use Rattle.graph_theory.specs.Reversed.{turned_problem}
use Rattle.graph_theory.specs.declared.direction.Direction.{Direction}
use Rattle.graph_theory.specs.declared.direction.Direction.TheVariants.{Out, In}
use Rattle.log_theory.specs.declared.step.Ref.TheVariants.{Line}
use Rattle.encoding_theory.specs.Pairs.{is_edge_pair, is_non_edge_pair}
use Rattle.encoding_theory.specs.Places.{at_most_place_in, edge_place, non_edge_place}
use Rattle.encoding_theory.proofs.ReversedForms.{reversed_forms}
use Rattle.pair_line_theory.specs.Rows.{block_line, edge_line, non_edge_line}

pub edge_pair_turned : (direction : Direction) (q : Problem) (p r : ℕ) → p < size q.pattern → r < size q.pattern → is_edge_pair (turned_problem direction q) p r ≡ is_edge_pair q p r
edge_pair_turned Out q p r p_in r_in = refl
edge_pair_turned In q p r p_in r_in = (reversed_forms q).edge_pair p r p_in r_in

pub non_edge_pair_turned : (direction : Direction) (q : Problem) (p r : ℕ) → p < size q.pattern → r < size q.pattern → is_non_edge_pair (turned_problem direction q) p r ≡ is_non_edge_pair q p r
non_edge_pair_turned Out q p r p_in r_in = refl
non_edge_pair_turned In q p r p_in r_in = (reversed_forms q).non_edge_pair p r p_in r_in

pub edge_line_turned : (direction : Direction) (q : Problem) (p r t : ℕ) → p < size q.pattern → r < size q.pattern → t < size q.target → edge_line (turned_problem direction q) p r t ≡ edge_line q p r t
edge_line_turned Out q p r t p_in r_in t_in = refl
edge_line_turned In q p r t p_in r_in t_in = ap (λ (k : ℕ). Line (k + 1)) ((reversed_forms q).edge_at p r t p_in r_in t_in)

pub non_edge_line_turned : (direction : Direction) (q : Problem) (p r t : ℕ) → p < size q.pattern → r < size q.pattern → t < size q.target → non_edge_line (turned_problem direction q) p r t ≡ non_edge_line q p r t
non_edge_line_turned Out q p r t p_in r_in t_in = refl
non_edge_line_turned In q p r t p_in r_in t_in = ap (λ (k : ℕ). Line (k + 1)) ((reversed_forms q).non_edge_at p r t p_in r_in t_in)

near_turned : (direction : Direction) (q : Problem) (c p : ℕ) → c < size q.pattern → p < size q.pattern → is_near (turned_problem direction q).pattern c p ≡ is_near q.pattern c p
near_turned Out q c p c_in p_in = refl
near_turned In q c p c_in p_in = near-reversed q.pattern c p c_in p_in

has_turned : (direction : Direction) (q : Problem) (b : Option ℕ) → has_block (turned_problem direction q) b ≡ has_block q b
has_turned Out q b = refl
has_turned In q b = block_laws_hold.reversed_has q b

block_line_turned : (direction : Direction) (q : Problem) (b : Option ℕ) (t : ℕ) → has_block q b ≡ true → block_line (turned_problem direction q) b t ≡ block_line q b t
block_line_turned Out q b t there = refl
block_line_turned In q b t there = ap (λ (k : ℕ). Line (k + 1)) ((reversed_forms q).at_most_at b t there)

-- The blocks of a problem that is known turned, and its lines.
module _ (direction : Direction) (k q : Problem) (same : k ≡ turned_problem direction q) where
  near_known : (c p : ℕ) → c < size k.pattern → p < size k.pattern → is_near q.pattern c p ≡ is_near k.pattern c p
  near_known c p c_in p_in =
      sym (near_turned direction q c p (subst (λ (x : Problem). c < size x.pattern) same c_in) (subst (λ (x : Problem). p < size x.pattern) same p_in)) ∙ ap (λ (x : Problem). is_near x.pattern c p) (sym same)

  pub near_both_known : (c p r : ℕ) → c < size k.pattern → p < size k.pattern → r < size k.pattern → (is_near q.pattern c p && is_near q.pattern c r) ≡ near_both k.pattern p r c
  near_both_known c p r c_in p_in r_in =
      ap (λ (b : Bool). b && is_near q.pattern c r) (near_known c p c_in p_in) ∙ ap (λ (b : Bool). is_near k.pattern c p && b) (near_known c r c_in r_in)

  has_known : (b : Option ℕ) → has_block k b ≡ true → has_block q b ≡ true
  has_known b there = sym (has_turned direction q b) ∙ ap (λ (x : Problem). has_block x b) (sym same) ∙ there

  pub block_there : (l : Problem) → l ≡ q → (b : Option ℕ) → has_block k b ≡ true → has_block l b ≡ true
  block_there l lines b there = ap (λ (x : Problem). has_block x b) lines ∙ has_known b there

  pub block_is : (l : Problem) → l ≡ q → (b : Option ℕ) (t n : ℕ) → has_block k b ≡ true → n ≡ at_most_place_in l b t + 1 → Line n ≡ block_line k b t
  block_is l lines b t n there is =
      ap Line (is ∙ ap (λ (x : Problem). at_most_place_in x b t + 1) lines) ∙ sym (block_line_turned direction q b t (has_known b there)) ∙ ap (λ (x : Problem). block_line x b t) (sym same)

-- The same of a problem that is known turned, and of one that its lines are of.
module _ (direction : Direction) (k q : Problem) (same : k ≡ turned_problem direction q) (p r : ℕ) (p_in : p < size k.pattern) (r_in : r < size k.pattern) where
  first_in : p < size q.pattern
  first_in = subst (λ (x : Problem). p < size x.pattern) same p_in

  second_in : r < size q.pattern
  second_in = subst (λ (x : Problem). r < size x.pattern) same r_in

  pub edge_pair_known : is_edge_pair q p r ≡ is_edge_pair k p r
  edge_pair_known = sym (edge_pair_turned direction q p r first_in second_in) ∙ ap (λ (x : Problem). is_edge_pair x p r) (sym same)

  pub non_edge_pair_known : is_non_edge_pair q p r ≡ is_non_edge_pair k p r
  non_edge_pair_known = sym (non_edge_pair_turned direction q p r first_in second_in) ∙ ap (λ (x : Problem). is_non_edge_pair x p r) (sym same)

  module _ (l : Problem) (lines : l ≡ q) where
    pub edge_there : is_edge_pair k p r ≡ true → is_edge_pair l p r ≡ true
    edge_there is = ap (λ (x : Problem). is_edge_pair x p r) lines ∙ edge_pair_known ∙ is

    pub non_edge_there : is_non_edge_pair k p r ≡ true → is_non_edge_pair l p r ≡ true
    non_edge_there is = ap (λ (x : Problem). is_non_edge_pair x p r) lines ∙ non_edge_pair_known ∙ is

    pub edge_is : (t n : ℕ) → t < size k.target → n ≡ edge_place l p r t + 1 → Line n ≡ edge_line k p r t
    edge_is t n t_in is =
        ap Line (is ∙ ap (λ (x : Problem). edge_place x p r t + 1) lines) ∙ sym (edge_line_turned direction q p r t first_in second_in (subst (λ (x : Problem). t < size x.target) same t_in)) ∙ ap (λ (x : Problem). edge_line x p r t) (sym same)

    pub non_edge_is : (t n : ℕ) → t < size k.target → n ≡ non_edge_place l p r t + 1 → Line n ≡ non_edge_line k p r t
    non_edge_is t n t_in is =
        ap Line (is ∙ ap (λ (x : Problem). non_edge_place x p r t + 1) lines) ∙ sym (non_edge_line_turned direction q p r t first_in second_in (subst (λ (x : Problem). t < size x.target) same t_in)) ∙ ap (λ (x : Problem). non_edge_line x p r t) (sym same)
