-- The encoding of a problem is that of the problem with its graphs turned round.
use Rattle.std.proofs.Common.{◌≡◌, ℕ, ◌+◌, ◌-◌, ◌<◌, Bool, true, not, Option, Some, None, List, refl, sym, ap, subst, ◌∙◌}
use Rattle.std.specs.Prelude.{slice_get, IfSome}
use Rattle.graph_theory.specs.Graph.{size}
use Rattle.graph_theory.specs.Embedding.{Problem}
use Rattle.graph_theory.specs.Reversed.{turned_problem}
use Rattle.graph_theory.specs.Blocks.{has_block}
use Rattle.graph_theory.proofs.BlockProofs.{block_laws_hold}
use Rattle.graph_theory.specs.declared.direction.Direction.{Direction}
use Rattle.graph_theory.specs.declared.direction.Direction.TheVariants.{Out, In}
use Rattle.proof_theory.specs.Forms.{Form}
use Rattle.encoding_theory.specs.Variables.{variables}
use Rattle.encoding_theory.specs.Pairs.{is_edge_pair}
use Rattle.encoding_theory.specs.Encoding.{encoding, is_refused, refusal}
use Rattle.encoding_theory.specs.Places.{at_most_place_in, refused_place, edge_place}
use Rattle.encoding_theory.proofs.ReversedForms.{reversed_forms}
use Rattle.log_growth.specs.Frames.{Frame, IsFrameOf}
use Rattle.domain_lines.specs.Given.{IsFrameFor}

pub encoding_turned : (direction : Direction) (q : Problem) → encoding (turned_problem direction q) ≡ encoding q
encoding_turned Out q = refl
encoding_turned In q = (reversed_forms q).whole

pub refused_turned : (direction : Direction) (q : Problem) (p u : ℕ) → p < size q.pattern → u < size q.target → is_refused (turned_problem direction q) p u ≡ is_refused q p u
refused_turned Out q p u p_in u_in = refl
refused_turned In q p u p_in u_in = ap not ((reversed_forms q).allowed p u p_in u_in)

pub refused_place_turned : (direction : Direction) (q : Problem) (p u : ℕ) → p < size q.pattern → u < size q.target → refused_place (turned_problem direction q) p u ≡ refused_place q p u
refused_place_turned Out q p u p_in u_in = refl
refused_place_turned In q p u p_in u_in = (reversed_forms q).refused_at p u p_in u_in

pub edge_pair_turned : (direction : Direction) (q : Problem) (p r : ℕ) → p < size q.pattern → r < size q.pattern → is_edge_pair (turned_problem direction q) p r ≡ is_edge_pair q p r
edge_pair_turned Out q p r p_in r_in = refl
edge_pair_turned In q p r p_in r_in = (reversed_forms q).edge_pair p r p_in r_in

pub edge_place_turned : (direction : Direction) (q : Problem) (p r u : ℕ) → p < size q.pattern → r < size q.pattern → u < size q.target → edge_place (turned_problem direction q) p r u ≡ edge_place q p r u
edge_place_turned Out q p r u p_in r_in u_in = refl
edge_place_turned In q p r u p_in r_in u_in = (reversed_forms q).edge_at p r u p_in r_in u_in

pub has_turned : (direction : Direction) (q : Problem) (b : Option ℕ) → has_block (turned_problem direction q) b ≡ has_block q b
has_turned Out q b = refl
has_turned In q b = block_laws_hold.reversed_has q b

pub block_place_turned : (direction : Direction) (q : Problem) (b : Option ℕ) (w : ℕ) → has_block q b ≡ true → at_most_place_in (turned_problem direction q) b w ≡ at_most_place_in q b w
block_place_turned Out q b w there = refl
block_place_turned In q b w there = (reversed_forms q).at_most_at b w there

-- So a frame of the one serves for the other.
pub frame_turned : (direction : Direction) (q : Problem) (owner : ℕ) (w : Frame) → IsFrameOf q owner w → IsFrameFor (turned_problem direction q) owner w
frame_turned direction q owner w frame = record {
  variables_are = ap variables frame.problem_is;
  owner_is = frame.owner_is;
  model = record { line = λ k f at. frame.model.line k f (subst (λ (fs : List Form). slice_get fs k ≡ Some f) (encoding_turned direction q) at) };
}

-- What is asked of the lines of a problem, for one that it is seen as.
module _ (direction : Direction) (q lines seen : Problem) (same : lines ≡ q) (is : turned_problem direction q ≡ seen) where
  vertex_in : (p : ℕ) → p < size seen.pattern → p < size q.pattern
  vertex_in p p_in = subst (λ (x : Problem). p < size x.pattern) (sym is) p_in

  value_in : (u : ℕ) → u < size seen.target → u < size q.target
  value_in u u_in = subst (λ (x : Problem). u < size x.target) (sym is) u_in

  pub refused_seen : (p u : ℕ) (b : Bool) → p < size seen.pattern → u < size seen.target → b ≡ is_refused lines p u → b ≡ is_refused seen p u
  refused_seen p u b p_in u_in told =
      told ∙ ap (λ (x : Problem). is_refused x p u) same ∙ sym (refused_turned direction q p u (vertex_in p p_in) (value_in u u_in)) ∙ ap (λ (x : Problem). is_refused x p u) is

  pub refused_line_seen : (p u : ℕ) (found : Option ℕ) → p < size seen.pattern → u < size seen.target → IfSome found (λ line. line ≡ refused_place lines p u + 1) → IfSome found (λ line. line ≡ refused_place seen p u + 1)
  refused_line_seen p u None p_in u_in told = tt
  refused_line_seen p u (Some line) p_in u_in told =
      told
      ∙ ap (λ (k : ℕ). k + 1)
      (ap (λ (x : Problem). refused_place x p u) same ∙ sym (refused_place_turned direction q p u (vertex_in p p_in) (value_in u u_in)) ∙ ap (λ (x : Problem). refused_place x p u) is)

  pub refusal_seen : (p u : ℕ) (found : Option ℕ) → IfSome found (λ line. slice_get (encoding lines) (line - 1) ≡ Some (refusal lines p u))
      → IfSome found (λ line. slice_get (encoding seen) (line - 1) ≡ Some (refusal seen p u))
  refusal_seen p u None told = tt
  refusal_seen p u (Some line) told =
      subst (λ (x : Problem). slice_get (encoding x) (line - 1) ≡ Some (refusal x p u)) is
      (subst (λ (fs : List Form). slice_get fs (line - 1) ≡ Some (refusal q p u)) (sym (encoding_turned direction q))
      (subst (λ (x : Problem). slice_get (encoding x) (line - 1) ≡ Some (refusal x p u)) same told))

  pub edge_pair_seen : (p r : ℕ) → p < size seen.pattern → r < size seen.pattern → is_edge_pair seen p r ≡ true → is_edge_pair lines p r ≡ true
  edge_pair_seen p r p_in r_in pair =
      ap (λ (x : Problem). is_edge_pair x p r) same ∙ sym (edge_pair_turned direction q p r (vertex_in p p_in) (vertex_in r r_in)) ∙ ap (λ (x : Problem). is_edge_pair x p r) is ∙ pair

  pub edge_seen : (p r u line : ℕ) → p < size seen.pattern → r < size seen.pattern → u < size seen.target → line ≡ edge_place lines p r u + 1 → line ≡ edge_place seen p r u + 1
  edge_seen p r u line p_in r_in u_in told =
      told
      ∙ ap (λ (k : ℕ). k + 1)
      (ap (λ (x : Problem). edge_place x p r u) same ∙ sym (edge_place_turned direction q p r u (vertex_in p p_in) (vertex_in r r_in) (value_in u u_in)) ∙ ap (λ (x : Problem). edge_place x p r u) is)

  pub has_seen : (b : Option ℕ) → has_block seen b ≡ true → has_block lines b ≡ true
  has_seen b there =
      ap (λ (x : Problem). has_block x b) same ∙ sym (has_turned direction q b) ∙ ap (λ (x : Problem). has_block x b) is ∙ there

  pub block_seen : (b : Option ℕ) (w line : ℕ) → has_block seen b ≡ true → line ≡ at_most_place_in lines b w + 1 → line ≡ at_most_place_in seen b w + 1
  block_seen b w line there told =
      let has : has_block q b ≡ true = sym (has_turned direction q b) ∙ ap (λ (x : Problem). has_block x b) is ∙ there in
      told
      ∙ ap (λ (k : ℕ). k + 1)
      (ap (λ (x : Problem). at_most_place_in x b w) same ∙ sym (block_place_turned direction q b w has) ∙ ap (λ (x : Problem). at_most_place_in x b w) is)
