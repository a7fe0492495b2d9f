-- The walks over the vertices that are not past: the consequences of one vertex, and the flags of the undecided.

use Rattle.std.proofs.Common.{◌≡◌, ℕ, ◌+◌, ◌*◌, ◌<◌, ◌≤◌, Bool, true, false, not, eqb, List, length, slice_index, slice_set, refl, sym, ap, ◌∙◌, subst, arith, ◌⊎◌, inl, inr}
use Rattle.std.proofs.lemmas.Bool.{cases_eq, eqb-true, not-false}
use Rattle.std.proofs.lemmas.List.{length-set}
use Rattle.graph_theory.specs.Graph.{size}
use Rattle.graph_theory.specs.Embedding.{Problem}
use Rattle.search_theory.specs.Claims.{Single}
use Rattle.domain_bits.specs.Removals.{State, in_domain, size_of}
use Rattle.sparse_set.specs.Removals as sparse
use Rattle.propagation.specs.Propagation.{waits_at, Shrinks, Swept, Sweeps, Settles, LeavesPast}
use Rattle.propagation.proofs.Narrowing.{narrows_more, none_in_empty}
use Rattle.propagation.proofs.Waiting.{shrinks_none, shrinks_more, flag_other, flag_here}
use Rattle.propagation.proofs.Sweeping.{swept_on}
use Rattle.propagation.proofs.Past.{past_on, past_swept, no_member_past}

-- each member stands in the list
abbrev pub Lists : List ℕ → sparse.State → Type 0
Lists members s = (p : ℕ) → sparse.has s p ≡ true → (k : ℕ) × (k < length members) × (slice_index members k ≡ p)

-- what holds of each number in the list holds of each member
pub each_member : (P : ℕ → Type 0) (members : List ℕ) (s : sparse.State) → Lists members s → ((k : ℕ) → k < length members → P (slice_index members k))
    → (p : ℕ) → sparse.has s p ≡ true → P p
each_member P members s lists each p here = let at = lists p here in subst P at.2 (each at.0 at.1)

-- what holds of the members and of the others holds of each number
pub each_number : (n : ℕ) (P : ℕ → Type 0) (members : List ℕ) (s : sparse.State) → Lists members s → ((k : ℕ) → k < length members → P (slice_index members k))
    → ((p : ℕ) → p < n → sparse.has s p ≡ false → P p) → (p : ℕ) → p < n → P p
each_number n P members s lists each others p p_in = by (sparse.has s p) refl
  where
    by : (b : Bool) → sparse.has s p ≡ b → P p
    by true here = each_member P members s lists each p here
    by false out = others p p_in out

-- ---- the consequences of one vertex

-- after the steps at the first k of the list
pub record Walked (q : Problem) (old : State) (before : List Bool) (new : State) (after : List Bool) (p t : ℕ) (members : List ℕ) (k : ℕ) : Type 0 where
  pub shrinks : Shrinks q old before new after
  pub own : (v : ℕ) → in_domain new p v ≡ in_domain old p v
  pub past : (j : ℕ) → j < k → Swept true q new p t (slice_index members j)

pub walked_start : (q : Problem) (d : State) (waiting : List Bool) (p t : ℕ) (members : List ℕ) → length d.removed ≤ d.vertices * d.values → Walked q d waiting d waiting p t members 0
walked_start q d waiting p t members bounded = record { shrinks = shrinks_none q d waiting bounded; own = λ v. refl; past = λ j j_in. absurd (omega arith) }

pub walked_more : (q : Problem) (old mid new : State) (before between after : List Bool) (p t : ℕ) (members : List ℕ) (k : ℕ) → Walked q old before mid between p t members k
    → Sweeps true q mid between new after p t (slice_index members k) → Walked q old before new after p t members (k + 1)
walked_more q old mid new before between after p t members k s w = record {
  shrinks = shrinks_more q old mid new before between after s.shrinks (w.shrinks refl);
  own = λ v. w.own v ∙ s.own v;
  past = λ j j_in. by_place j j_in (cases_eq j k);
}
  where
    by_place : (j : ℕ) → j < k + 1 → (j ≡ k) ⊎ (j ≡ k → ⊥) → Swept true q new p t (slice_index members j)
    by_place j j_in (inl is) = subst (λ (i : ℕ). Swept true q new p t (slice_index members i)) (sym is) w.swept
    by_place j j_in (inr other) = swept_on q mid new p t (slice_index members j) w.narrows (s.past j (omega (arith, j_in, other)))

-- where the step at r finds an empty domain, no embedding is within the domains
pub walked_none : (q : Problem) (old mid new : State) (before between after : List Bool) (p t r : ℕ) (members : List ℕ) (k : ℕ) → Walked q old before mid between p t members k
    → Sweeps false q mid between new after p t r → r < size q.pattern → Settles false q old before new after p t
walked_none q old mid new before between after p t r members k g w r_in =
    (narrows_more q old mid new g.shrinks.narrows w.narrows, none_in_empty q new r r_in w.swept)

-- at the end all vertices are swept: those that are past were so before
pub walked_all : (q : Problem) (old new : State) (before after : List Bool) (p t : ℕ) (members : List ℕ) (s : sparse.State) (k : ℕ) → p < size q.pattern → Single (in_domain old) p t
    → LeavesPast q old s → Lists members s → length members ≤ k → Walked q old before new after p t members k → Settles true q old before new after p t
walked_all q old new before after p t members s k p_in single left lists end w = record {
  shrinks = w.shrinks;
  own = w.own;
  past = each_number (size q.pattern) (λ r. Swept true q new p t r) members s lists (λ j j_in. w.past j (omega (arith, j_in, end)))
      (λ r r_in out. past_swept q new p t r p_in (w.own t ∙ single.here) (past_on q old new r w.shrinks.narrows.less (no_member_past q old s r left r_in out)));
}

-- ---- the flags of the undecided

-- the first k of the list wait unless they have one value
pub record Raised (d : State) (waiting : List Bool) (members : List ℕ) (k : ℕ) : Type 0 where
  pub long : length waiting ≡ d.vertices
  pub each : (j : ℕ) → j < k → waits_at waiting (slice_index members j) ≡ false → size_of d (slice_index members j) ≡ 1

pub raised_more : (d : State) (waiting : List Bool) (members : List ℕ) (k i : ℕ) (b : Bool) → i ≡ slice_index members k → i < length waiting
    → (b ≡ false → size_of d (slice_index members k) ≡ 1) → Raised d waiting members k → Raised d (slice_set waiting i b) members (k + 1)
raised_more d waiting members k i b i_is i_in one r = record {
  long = length-set waiting i b ∙ r.long;
  each = λ j j_in down. by_number j j_in down (cases_eq i (slice_index members j)) (cases_eq j k);
}
  where
    by_number : (j : ℕ) → j < k + 1 → waits_at (slice_set waiting i b) (slice_index members j) ≡ false → (i ≡ slice_index members j) ⊎ (i ≡ slice_index members j → ⊥)
        → (j ≡ k) ⊎ (j ≡ k → ⊥) → size_of d (slice_index members j) ≡ 1
    by_number j j_in down (inl same) y =
        let here : waits_at (slice_set waiting i b) i ≡ false = ap (waits_at (slice_set waiting i b)) same ∙ down in
        ap (size_of d) (sym same ∙ i_is) ∙ one (sym (flag_here waiting i b i_in) ∙ here)
    by_number j j_in down (inr other) (inl is) = absurd (other (i_is ∙ ap (slice_index members) (sym is)))
    by_number j j_in down (inr other) (inr before) =
        r.each j (omega (arith, j_in, before)) (sym (flag_other waiting i (slice_index members j) b other) ∙ down)

-- what is not other than 1 is 1
pub unless_one : (n : ℕ) → not (eqb n 1) ≡ false → n ≡ 1
unless_one n h = eqb-true n 1 (not-false (eqb n 1) h)
