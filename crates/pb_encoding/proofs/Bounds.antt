-- How many pairs and forms there can be within the limits on the graphs.

use Rattle.std.proofs.Common.{ℕ, ◌*◌, ◌≤◌, length, arith}
use Rattle.std.proofs.Math.Nat.{mul-le-mul}
use Rattle.graph_theory.specs.Graph.{Graph, size}
use Rattle.graph_theory.specs.Embedding.{Problem}
use Rattle.graph_theory.specs.Blocks.{has_near}
use Rattle.graph_theory.specs.declared.embedding.Maps.{Maps}
use Rattle.graph_theory.specs.declared.embedding.Maps.TheVariants.{Injective, Local, Any}
use Rattle.encoding_theory.specs.Pairs.{is_edge_pair, is_non_edge_pair}
use Rattle.encoding_theory.specs.Encoding.{is_refused}
use Rattle.pb_encoding.specs.Numbers.{by_number, refused_numbers, edge_numbers, non_edge_numbers, centres_in, centres, block_count_in, block_count}
use Rattle.pb_encoding.proofs.Members.{length-members, count_all}

-- Within the limits the lists of pairs, and the forms of pairs, are few.
pub record Few (q : Problem) : Type 0 where
  pub pairs : size q.pattern * size q.target ≤ 8388608
  pub refused : length (refused_numbers q) ≤ 8388608
  pub edges : length (edge_numbers q) ≤ 1048576
  pub non_edges : length (non_edge_numbers q) ≤ 1048576
  pub edge_forms : length (edge_numbers q) * size q.target ≤ 8589934592
  pub non_edge_forms : length (non_edge_numbers q) * size q.target ≤ 8589934592
  pub centres_few : length (centres q) ≤ 1024
  pub blocks : block_count q ≤ 1024
  pub block_forms : block_count q * size q.target ≤ 8388608

centres_at_most : (k : Maps) (g : Graph) → size g ≤ 1024 → length (centres_in k g) ≤ 1024
centres_at_most Injective g few = omega arith
centres_at_most Local g few =
    let l = length-members (has_near g) (size g) in
    let c = count_all (has_near g) (size g) in
    omega (arith, l, c, few)
centres_at_most Any g few = omega arith

blocks_at_most : (k : Maps) (n : ℕ) → n ≤ 1024 → block_count_in k n ≤ 1024
blocks_at_most Injective n few = omega arith
blocks_at_most Local n few = few
blocks_at_most Any n few = omega arith

pub few : (q : Problem) → size q.pattern ≤ 1024 → size q.target ≤ 8192 → Few q
few q ps ts =
    let cells : size q.pattern * size q.target ≤ 1024 * 8192 = mul-le-mul ps ts in
    let squares : size q.pattern * size q.pattern ≤ 1024 * 1024 = mul-le-mul ps ps in
    let r = length-members (by_number (is_refused q) (size q.target)) (size q.pattern * size q.target) in
    let rc = count_all (by_number (is_refused q) (size q.target)) (size q.pattern * size q.target) in
    let e = length-members (by_number (is_edge_pair q) (size q.pattern)) (size q.pattern * size q.pattern) in
    let ec = count_all (by_number (is_edge_pair q) (size q.pattern)) (size q.pattern * size q.pattern) in
    let n = length-members (by_number (is_non_edge_pair q) (size q.pattern)) (size q.pattern * size q.pattern) in
    let nc = count_all (by_number (is_non_edge_pair q) (size q.pattern)) (size q.pattern * size q.pattern) in
    let around : length (centres q) ≤ 1024 = centres_at_most q.maps q.pattern ps in
    let blocks_few : block_count q ≤ 1024 = blocks_at_most q.maps (length (centres q)) around in
    let block_forms_few : block_count q * size q.target ≤ 1024 * 8192 = mul-le-mul blocks_few ts in
    let edges_few : length (edge_numbers q) ≤ 1048576 = omega arith in
    let non_edges_few : length (non_edge_numbers q) ≤ 1048576 = omega arith in
    let edge_forms_few : length (edge_numbers q) * size q.target ≤ 1048576 * 8192 = mul-le-mul edges_few ts in
    let non_edge_forms_few : length (non_edge_numbers q) * size q.target ≤ 1048576 * 8192 = mul-le-mul non_edges_few ts in
    record {
      pairs = omega arith;
      refused = omega arith;
      edges = edges_few;
      non_edges = non_edges_few;
      edge_forms = omega arith;
      non_edge_forms = omega arith;
      centres_few = around;
      blocks = blocks_few;
      block_forms = omega arith;
    }
