-- Values without support: no embedding within the domains has them.

use Rattle.std.proofs.Common.{◌≡◌, ℕ, ◌+◌, ◌*◌, ◌<◌, ◌≤◌, ltb, Bool, true, false, ◌&&◌, ◌||◌, not, is_some, List, [], ◌∷◌, ◌++◌, length, slice_index, Option, Some, None, Ok, sym, ap, ◌∙◌, subst, arith, length-append, ◌⊎◌, inl, inr}
use Rattle.std.proofs.lemmas.Bool.{true≢false, and_parts, cases_eq, cases_lt, lt-ltb, ltb-true, or_left, or_right}
use Rattle.std.proofs.lemmas.List.{append-nil}
use Rattle.graph_theory.specs.Graph.{Graph, size, edge}
use Rattle.graph_theory.specs.Embedding.{Problem, Matches}
use Rattle.graph_theory.specs.Reversed.{turned}
use Rattle.graph_theory.specs.declared.direction.Direction.{Direction}
use Rattle.graph_theory.proofs.ReversedGraphs.{embeds_turned}
use Rattle.search_theory.specs.Claims.{Inside, Quiet}
use Rattle.bit_rows.specs.BitRows.{has}
use Rattle.bit_rows.proofs.Counting.{has_within}
use Rattle.domain_bits.specs.Removals.{State, in_domain}
use Rattle.domain_bits.proofs.Sizes.{in_below}
use Rattle.recorder.specs.Telling.{IsOf, IsUnsupported, Joins}
use Rattle.recorder.proofs.Telling.{same_trail}
use Rattle.propagation.specs.Edges.{AreUnsupported, LacksBefore, LacksSupport, Unites, UnitesBefore}
use Rattle.propagation.specs.Learning.{IsUnused, Forces}
use Rattle.propagation.specs.Propagation.{Narrows, Shrinks, HasTwo, IsSame, PrunesFor, waits_at}
use Rattle.propagation.proofs.Waiting.{shrinks_more}
use Rattle.propagation.proofs.Forcing.{forces_none, ready_on, ready_at_rest}

-- an edge that is kept has its label
pub kept_same : (induced : Bool) (e f : Option ℕ) → Matches induced e f → is_some e ≡ true → f ≡ e
kept_same false None f m some = cc
kept_same false (Some l) f m some = m
kept_same true None f m some = cc
kept_same true (Some l) f m some = m.0

-- so it leads somewhere
pub kept_there : (induced : Bool) (e f : Option ℕ) → Matches induced e f → is_some e ≡ true → is_some f ≡ true
kept_there induced e f m some = ap is_some (kept_same induced e f m some) ∙ some

-- a value without support is of no embedding within the domains
pub unused_unsupported : (q : Problem) (d : State) (direction : Direction) (p r u : ℕ) → IsUnsupported q d direction p r u → IsUnused q d (r, u, 0)
unused_unsupported q d direction p r u is = record {
  vertex_in = is.joins.other_in;
  value_in = is.value_in;
  none = λ m e h here. clash m h here (kept_same q.induced _ _ ((embeds_turned direction q m e).edges p r is.joins.vertex_in is.joins.other_in) is.joins.joined);
}
  where
    clash : (m : List ℕ) → Inside q (in_domain d) m → slice_index m r ≡ u → edge (turned direction q.target) (slice_index m p) (slice_index m r) ≡ edge (turned direction q.pattern) p r → ⊥
    clash m h here alike =
        is.none (slice_index m p) (h p is.joins.vertex_in) (subst (λ (v : ℕ). edge (turned direction q.target) (slice_index m p) v ≡ edge (turned direction q.pattern) p r) here alike)

-- what has no support has none while values leave
pub unsupported_on : (q : Problem) (old new : State) (direction : Direction) (p r u : ℕ) → ((s t : ℕ) → in_domain new s t ≡ true → in_domain old s t ≡ true) → IsUnsupported q old direction p r u
    → IsUnsupported q new direction p r u
unsupported_on q old new direction p r u less is = record { joins = is.joins; value_in = is.value_in; none = λ w here. is.none w (less p w here) }

-- and a row that has all values with support goes on to
pub unites_on : (target : Graph) (old new : State) (direction : Direction) (p : ℕ) (row : List ℕ) → ((s t : ℕ) → in_domain new s t ≡ true → in_domain old s t ≡ true)
    → Unites target old direction p row → Unites target new direction p row
unites_on target old new direction p row less unites w u here leads = unites w u (less p w here) leads

-- a row that has gained the row of w has all values with support from those below the next one that is left
pub unites_more : (target : Graph) (d : State) (direction : Direction) (p w n : ℕ) (domain before row after : List ℕ) → ((v : ℕ) → has domain v ≡ in_domain d p v)
    → ((u : ℕ) → has row u ≡ is_some (edge (turned direction target) w u)) → ((u : ℕ) → has after u ≡ (has before u || has row u)) → ((v : ℕ) → w + 1 ≤ v → v < n → has domain v ≡ false)
    → UnitesBefore target d direction p before w → UnitesBefore target d direction p after n
unites_more target d direction p w n domain before row after bits near gained none unites v u v_in here leads = gained u ∙ by (cases_lt v w) (cases_eq v w)
  where
    by : (v < w) ⊎ (w ≤ v) → (v ≡ w) ⊎ (v ≡ w → ⊥) → (has before u || has row u) ≡ true
    by (inl lt) eq = or_left (has before u) (has row u) (unites v u lt here leads)
    by (inr le) (inl same) = or_right (has before u) (has row u) (near u ∙ subst (λ (x : ℕ). is_some (edge (turned direction target) x u) ≡ true) same leads)
    by (inr le) (inr apart) = absurd (true≢false (sym (bits v ∙ here) ∙ none v (omega (arith, le, apart)) v_in))

-- what such a row lacks has none
pub unsupported_lacking : (q : Problem) (d : State) (direction : Direction) (p r : ℕ) (union domain gone : List ℕ) → IsOf q d → Joins q direction p r → Unites q.target d direction p union
    → ((u : ℕ) → has domain u ≡ in_domain d r u) → ((u : ℕ) → has gone u ≡ (has domain u && not (has union u))) → AreUnsupported q d direction p r gone
unsupported_lacking q d direction p r union domain gone of joins unites bits kept u here = record {
  joins = joins;
  value_in = subst (λ (n : ℕ). u < n) of.values_is (in_below d r u (sym (bits u) ∙ parts.0));
  none = λ w left alike. off (has union u) parts.1 (unites w u left (ap is_some alike ∙ joins.joined));
}
  where
    parts : (has domain u ≡ true) × (not (has union u) ≡ true)
    parts = and_parts (has domain u) (not (has union u)) (sym (kept u) ∙ here)

    off : (b : Bool) → not b ≡ true → b ≡ true → ⊥
    off true h e = cc
    off false h e = cc

-- ---- along edges with labels

-- below the next one of those from which an edge leads to u none supports it
pub lacks_none : (target : Graph) (d : State) (direction : Direction) (p u label n : ℕ) (near : List ℕ) → ((v : ℕ) → v < n → has near v ≡ false)
    → ((w : ℕ) → has near w ≡ is_some (edge (turned direction target) w u)) → LacksBefore target d direction p u label n
lacks_none target d direction p u label n near none leads w w_in left alike =
    true≢false (sym (leads w ∙ ap is_some alike) ∙ none w w_in)

-- one that does not support it is passed
pub lacks_more : (target : Graph) (d : State) (direction : Direction) (p u label n next : ℕ) (near : List ℕ) → ((w : ℕ) → has near w ≡ is_some (edge (turned direction target) w u))
    → ((v : ℕ) → n + 1 ≤ v → v < next → has near v ≡ false) → (in_domain d p n ≡ true → edge (turned direction target) n u ≡ Some label → ⊥) → LacksBefore target d direction p u label n
    → LacksBefore target d direction p u label next
lacks_more target d direction p u label n next near leads none here lacks w w_in left alike = by (cases_lt w n) (cases_eq w n)
  where
    by : (w < n) ⊎ (n ≤ w) → (w ≡ n) ⊎ (w ≡ n → ⊥) → ⊥
    by (inl lt) eq = lacks w lt left alike
    by (inr le) (inl same) =
        here (subst (λ (x : ℕ). in_domain d p x ≡ true) same left) (subst (λ (x : ℕ). edge (turned direction target) x u ≡ Some label) same alike)
    by (inr le) (inr apart) = true≢false (sym (leads w ∙ ap is_some alike) ∙ none w (omega (arith, le, apart)) w_in)

-- behind the last one none does
pub lacks_all : (target : Graph) (d : State) (direction : Direction) (p u label n : ℕ) (near : List ℕ) → ((w : ℕ) → has near w ≡ is_some (edge (turned direction target) w u))
    → 64 * length near ≤ n → LacksBefore target d direction p u label n → LacksSupport target d direction p u label
lacks_all target d direction p u label n near leads all lacks w left alike =
    let within = has_within near w (leads w ∙ ap is_some alike) in
    lacks w (omega (arith, within, all)) left alike

-- what lacks it is without support
pub lacking_unsupported : (q : Problem) (d : State) (direction : Direction) (p r u label : ℕ) → Joins q direction p r → u < size q.target → edge (turned direction q.pattern) p r ≡ Some label
    → LacksSupport q.target d direction p u label → IsUnsupported q d direction p r u
lacking_unsupported q d direction p r u label joins u_in labelled lacks = record { joins = joins; value_in = u_in; none = λ w left alike. lacks w left (alike ∙ labelled) }

-- and the other way round
pub unsupported_lacks : (q : Problem) (d : State) (direction : Direction) (p r u label : ℕ) → edge (turned direction q.pattern) p r ≡ Some label → IsUnsupported q d direction p r u
    → LacksSupport q.target d direction p u label
unsupported_lacks q d direction p r u label labelled is w left alike = is.none w left (alike ∙ sym labelled)

-- ---- after looks at edges

-- what is taken after values have left
pub forces_more : (answer : Bool) (q : Problem) (old mid new : State) (before between after : List Bool) → Shrinks q old before mid between → Forces answer q mid between new after
    → Forces answer q old before new after
forces_more true q old mid new before between after s f = shrinks_more q old mid new before between after s f
forces_more false q old mid new before between after s f = forces_none q old mid new before between s f

-- where the trail is no longer, nothing has left
pub narrows_same : (q : Problem) (old new : State) → Narrows q old new → length new.removed ≤ length old.removed → new ≡ old
narrows_same q old new n le = by n.rest n.front
  where
    by : (rest : List (ℕ × ℕ)) → new.removed ≡ old.removed ++ rest → new ≡ old
    by [] front = same_trail old new n.vertices_same n.values_same (front ∙ append-nil old.removed)
    by (x ∷ xs) front = absurd (omega (arith, ap length front, length-append old.removed (x ∷ xs), le))

-- what has left domains at rest, in the words of a filter's answer
pub supported_prunes : (Has : State → Type 0) (some : Bool) (q : Problem) (old new : State) (before after : List Bool) → Quiet q (in_domain old)
    → (length new.removed ≤ length old.removed → Has new) → length before ≡ size q.pattern
    → Shrinks q old before new after → some ≡ ltb (length old.removed) (length new.removed) → PrunesFor Has (Ok some) q old new after
supported_prunes Has true q old new before after quiet has long s is = (
  s.narrows,
  ready_on q old new before after (ready_at_rest q old before quiet long) s,
  ltb-true (length old.removed) (length new.removed) (sym is),
  λ p p_in. by p (s.noted p p_in),
)
  where
    by : (p : ℕ) → (waits_at after p ≡ true) ⊎ (HasTwo new p ⊎ IsSame old before new after p)
        → (waits_at after p ≡ true) ⊎ (HasTwo new p ⊎ ((t : ℕ) → in_domain new p t ≡ in_domain old p t))
    by p (inl waits) = inl waits
    by p (inr (inl two)) = inr (inl two)
    by p (inr (inr same)) = inr (inr same.domain)
supported_prunes Has false q old new before after quiet has long s is =
    let few = by (cases_lt (length old.removed) (length new.removed)) in
    (narrows_same q old new s.narrows few, has few)
  where
    by : (length old.removed < length new.removed) ⊎ (length new.removed ≤ length old.removed) → length new.removed ≤ length old.removed
    by (inl less) = absurd (true≢false (sym (lt-ltb (length old.removed) (length new.removed) less) ∙ sym is))
    by (inr le) = le
