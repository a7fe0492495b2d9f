-- The laws of the lines for a pair of pattern vertices.

use Rattle.std.specs.Prelude.{◌≡◌, ℕ, ◌<◌, ◌≤◌, ◌^◌, ◌+◌, true, false, ◌⊎◌, [], ◌∷◌, Option, Some, Ok}
use Rattle.graph_theory.specs.Graph.{Graph, size}
use Rattle.graph_theory.specs.Embedding.{Problem, is_injective, differ, Compatible}
use Rattle.graph_theory.specs.Asked.{asked_shared}
use Rattle.graph_theory.specs.Blocks.{in_block, has_block}
use Rattle.graph_theory.specs.Neighbours.{common, is_neighbour}
use Rattle.graph_theory.specs.Reversed.{reversed, reversed_problem, AreMutual}
use Rattle.proof_theory.specs.Forms.{Form}
use Rattle.proof_theory.specs.Slack.{Setting, conflict, after}
use Rattle.encoding_theory.specs.Variables.{variable}
use Rattle.log_theory.specs.declared.step.Name.{Name}
use Rattle.log_theory.specs.declared.step.Ref.{Ref}
use Rattle.log_theory.specs.declared.step.Step.TheVariants.{P, U}
use Rattle.log_theory.specs.Lookups.{Lookup, makes}
use Rattle.encoding_theory.specs.Pairs.{is_edge_pair, is_non_edge_pair}
use Rattle.encoding_theory.specs.Encoding.{at_most, at_most_in, pair_form}
use Rattle.forcing_theory.specs.Sums.{IsSmall}
use Rattle.explanation_theory.specs.Reasons.{ForcesBeside, ForcesByEdges}
use Rattle.pair_line_theory.specs.Operations.{FindsEncoding}
use Rattle.pair_line_theory.specs.Rows.{at_least_line, target_line, edge_line, non_edge_line, is_paired, is_shared, beside_form, beside_ops, needs_block, near_form, near_ops, alone_ops, spread_form, spread_ops, not_both, not_both_form, two_ops, joined_form, joined_ops, apart_form, apart_ops, consistent_places, consistent_clause, consistent_form}

-- Graphs within the limits of a problem.
pub record InLimits (q : Problem) : Type 0 where
  pub vertices_few : size q.pattern ≤ 1024
  pub targets_few : size q.target ≤ 8192

-- Two vertices of the pattern, and a place of the first.
pub record IsPlace (q : Problem) (p t r : ℕ) : Type 0 where
  pub first : p < size q.pattern
  pub place : t < size q.target
  pub second : r < size q.pattern
  pub others : p ≡ r → ⊥

-- Both are in the block.
pub record HasBoth (q : Problem) (b : Option ℕ) (p r : ℕ) : Type 0 where
  pub first : in_block q b p ≡ true
  pub second : in_block q b r ≡ true

-- The two may meet, and have no line of their own: whatever the place of one, the other may go anywhere.
pub record AreFree (q : Problem) (p r : ℕ) : Type 0 where
  pub may_meet : differ q p r ≡ false
  pub unpaired : is_paired q p r ≡ false

-- These two are all that p and r share, in their order.
pub record AreTwoShared (g : Graph) (p r m n : ℕ) : Type 0 where
  pub counted : common g p r ≡ 2
  pub order : m < n
  pub below : n < size g
  pub first : is_shared g p r m ≡ true
  pub second : is_shared g p r n ≡ true

-- The line of each neighbour of t is found.
abbrev pub FindsSpread : Problem → Lookup → (ℕ → Ref) → ℕ → ℕ → ℕ → Type 0
FindsSpread q look spread p t r = (w : ℕ) → w < size q.target → is_neighbour q.target t w ≡ true
    → look (spread w) ≡ Some (spread_form q p r w)

-- Vertex p at t and r at u go together, and t and u share as many neighbours as is asked of p and r, as edges lead to them.
pub record Shares (q : Problem) (p t r u : ℕ) : Type 0 where
  pub pair : Compatible q p t r u
  pub shared : asked_shared q p r ≤ common q.target t u

-- Where p is at t, the form is in conflict from every setting or takes from r each value that is not so.
abbrev pub ForcesShared : Problem → Form → ℕ → ℕ → ℕ → Type 0
ForcesShared q line p t r =
    (s : Setting) → s (variable q p t) ≡ Some true → (u : ℕ) → u < size q.target
    → (Shares q p t r u → ⊥) → (conflict s line ≡ true)
    ⊎ (after s line (variable q r u) ≡ Some false)

-- Shared neighbours are asked for by injective maps alone, and then all of them.
pub record AskedLaws (q : Problem) : Type 0 where
  pub injective : (p r : ℕ) → 0 < asked_shared q p r → is_injective q.maps ≡ true
  pub counted : (p r : ℕ) → is_injective q.maps ≡ true → asked_shared q p r ≡ common q.pattern p r

-- What each line forces, in the direction of the edges. Any block that has both serves.
pub record RowForces (q : Problem) : Type 0 where
  pub beside : (p t r : ℕ) → IsPlace q p t r → asked_shared q p r ≡ 0 → needs_block q p r ≡ false
      → ForcesShared q (beside_form q p t r) p t r
  pub near : (b : Option ℕ) (p t r : ℕ) → IsPlace q p t r → asked_shared q p r ≡ 0
      → HasBoth q b p r → ForcesShared q (near_form q b p t r) p t r
  pub alone : (b : Option ℕ) (p t r : ℕ) → IsPlace q p t r → asked_shared q p r ≡ 0
      → HasBoth q b p r → is_paired q p r ≡ false → ForcesShared q (at_most_in q b t) p t r
  pub free : (line : Form) (p t r : ℕ) → IsPlace q p t r → asked_shared q p r ≡ 0 → AreFree q p r
      → ForcesShared q line p t r
  pub joined : (p t r : ℕ) → IsPlace q p t r → 0 < asked_shared q p r
      → ForcesShared q (joined_form q p t r) p t r
  pub apart : (p t r : ℕ) → IsPlace q p t r → 0 < asked_shared q p r → is_paired q p r ≡ false
      → ForcesShared q (apart_form q p t r) p t r

-- What the line of two vertices at a place forces with that of the other one, and a block's where it is needed, or the block's own where they
-- have none, whatever they share.
pub record EdgeForces (q : Problem) : Type 0 where
  pub beside : (p t r : ℕ) → IsPlace q p t r → needs_block q p r ≡ false
      → ForcesByEdges q (beside_form q p t r) p t r
  pub near : (b : Option ℕ) (p t r : ℕ) → IsPlace q p t r → HasBoth q b p r
      → ForcesByEdges q (near_form q b p t r) p t r
  pub alone : (b : Option ℕ) (p t r : ℕ) → IsPlace q p t r → HasBoth q b p r
      → is_paired q p r ≡ false → ForcesByEdges q (at_most_in q b t) p t r
  pub free : (line : Form) (p t r : ℕ) → IsPlace q p t r → AreFree q p r
      → ForcesByEdges q line p t r

-- Where edges stand both ways one direction is enough; else the line of one direction where the other asks for no shared neighbour, and a
-- line of both.
pub record RowServes (q : Problem) : Type 0 where
  pub both_ways : (line : Form) (p t r : ℕ) → IsPlace q p t r → AreMutual q
      → ForcesShared q line p t r → ForcesBeside q line p t r
  pub out : (line : Form) (p t r : ℕ) → IsPlace q p t r
      → asked_shared (reversed_problem q) p r ≡ 0 → ForcesShared q line p t r → ForcesBeside q line p t r
  pub back : (line : Form) (p t r : ℕ) → IsPlace q p t r → asked_shared q p r ≡ 0
      → ForcesShared (reversed_problem q) line p t r → ForcesBeside q line p t r
  pub both : (p t r : ℕ) → IsPlace q p t r → is_injective q.maps ≡ true
      → ForcesBeside q (consistent_form q p t r) p t r

-- The operations make the lines, over every lookup that finds the encoding: `own` names the pair's line at t.
pub record RowMakes (q : Problem) (look : Lookup) : Type 0 where
  pub beside : (name : Name) (own : Ref) (p t r : ℕ) → IsPlace q p t r
      → look own ≡ Some (pair_form q p r t)
      → makes look (P name (beside_ops q own r)) ≡ Ok (beside_form q p t r)
  pub near : (b : Option ℕ) (name : Name) (own : Ref) (p t r : ℕ) → IsPlace q p t r
      → has_block q b ≡ true → look own ≡ Some (pair_form q p r t)
      → makes look (P name (near_ops q b own t r)) ≡ Ok (near_form q b p t r)
  pub alone : (b : Option ℕ) (name : Name) (p t r : ℕ) → IsPlace q p t r → has_block q b ≡ true
      → makes look (P name (alone_ops q b t)) ≡ Ok (at_most_in q b t)
  pub joined : (name : Name) (own : Ref) (spread : ℕ → Ref) (p t r : ℕ) → IsPlace q p t r
      → look own ≡ Some (pair_form q p r t) → FindsSpread q look spread p t r
      → makes look (P name (joined_ops q own spread p t r)) ≡ Ok (joined_form q p t r)
  pub apart : (name : Name) (spread : ℕ → Ref) (p t r : ℕ) → IsPlace q p t r
      → is_injective q.maps ≡ true → FindsSpread q look spread p t r
      → makes look (P name (apart_ops q spread p t r)) ≡ Ok (apart_form q p t r)
  pub spread : (name : Name) (p w r less : ℕ) → IsPlace q p w r → is_injective q.maps ≡ true
      → common q.pattern p r ≡ less + 1 → 0 < less
      → makes look (P name (spread_ops q p r w less)) ≡ Ok (spread_form q p r w)
  pub not_both : (name : Name) (m n w : ℕ) → is_injective q.maps ≡ true → m < n
      → n < size q.pattern → w < size q.target
      → makes look (U name (not_both q m n w) (target_line q w ∷ [])) ≡ Ok (not_both_form q m n w)
  pub two : (name : Name) (clause : Ref) (m n p w r : ℕ) → IsPlace q p w r
      → AreTwoShared q.pattern p r m n → look clause ≡ Some (not_both_form q m n w)
      → makes look (P name (two_ops q clause p r w)) ≡ Ok (spread_form q p r w)
  pub clause : (name : Name) (out back : Ref) (first second : Form) (p t r : ℕ) → IsPlace q p t r
      → look out ≡ Some first → ForcesShared q first p t r → look back ≡ Some second
      → ForcesShared (reversed_problem q) second p t r
      → makes look (U name (consistent_places q p t r)
      (out ∷ back ∷ at_least_line q r ∷ [])) ≡ Ok (consistent_clause q p t r)
  pub both : (name : Name) (clause : Ref) (p t r : ℕ) → IsPlace q p t r
      → look clause ≡ Some (consistent_clause q p t r)
      → makes look (P name (beside_ops q clause r)) ≡ Ok (consistent_form q p t r)
  pub one_spread : (m p w r : ℕ) → IsPlace q p w r → m < size q.pattern
      → common q.pattern p r ≡ 1 → is_shared q.pattern p r m ≡ true
      → look (edge_line q m r w) ≡ Some (spread_form q p r w)
  pub edge : (p t r : ℕ) → IsPlace q p t r → is_edge_pair q p r ≡ true
      → look (edge_line q p r t) ≡ Some (pair_form q p r t)
  pub non_edge : (p t r : ℕ) → IsPlace q p t r → is_non_edge_pair q p r ≡ true
      → look (non_edge_line q p r t) ≡ Some (pair_form q p r t)

-- All coefficients together, and the bound, are at most 2^40 in size.
pub record RowSizes (q : Problem) : Type 0 where
  pub beside : (p t r : ℕ) → IsSmall (2 ^ 40) (beside_form q p t r)
  pub near : (b : Option ℕ) (p t r : ℕ) → IsSmall (2 ^ 40) (near_form q b p t r)
  pub joined : (p t r : ℕ) → IsSmall (2 ^ 40) (joined_form q p t r)
  pub apart : (p t r : ℕ) → IsSmall (2 ^ 40) (apart_form q p t r)
  pub spread : (p r w : ℕ) → IsSmall (2 ^ 40) (spread_form q p r w)
  pub both : (p t r : ℕ) → IsSmall (2 ^ 40) (consistent_form q p t r)
  pub clause : (p t r : ℕ) → IsSmall (2 ^ 40) (consistent_clause q p t r)
  pub block : (b : Option ℕ) (t : ℕ) → IsSmall (2 ^ 40) (at_most_in q b t)
  pub free : (r : ℕ) → IsSmall (2 ^ 40) (at_most q r)

-- The lines for a pair of vertices: what they force, what makes them, and that they are small.
pub record RowLaws (q : Problem) : Type 0 where
  pub asked : AskedLaws q
  pub forces : RowForces q
  pub edges : EdgeForces q
  pub serves : RowServes q
  pub makes : (look : Lookup) → FindsEncoding q look → RowMakes q look
  pub sizes : RowSizes q
