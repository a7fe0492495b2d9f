-- Removals that lose no embedding, one after another.

use Rattle.std.proofs.Common.{◌≡◌, ℕ, ◌<◌, Bool, true, false, ◌&&◌, List, [], ◌++◌, slice_index, refl, sym, ap, ◌∙◌, subst, append_assoc, ◌⊎◌, inl, inr}
use Rattle.std.proofs.lemmas.Bool.{cases_eq}
use Rattle.std.proofs.lemmas.List.{append-nil}
use Rattle.graph_theory.specs.Graph.{size}
use Rattle.graph_theory.specs.Embedding.{Problem, Embeds}
use Rattle.search_theory.specs.Claims.{Inside, NoneInside}
use Rattle.domain_bits.specs.Removals.{State, in_domain}
use Rattle.domain_bits.specs.Changes.{Keeps}
use Rattle.recorder.specs.Telling.{IsOf}
use Rattle.propagation.specs.Propagation.{Narrows}

-- nothing was removed
pub narrows_none : (q : Problem) (d : State) → Narrows q d d
narrows_none q d = record {
  vertices_same = refl;
  values_same = refl;
  rest = [];
  front = sym (append-nil d.removed);
  less = λ p t h. h;
  keeps = λ m e h. h;
}

-- first these and then those
pub narrows_more : (q : Problem) (a b c : State) → Narrows q a b → Narrows q b c → Narrows q a c
narrows_more q a b c f s = record {
  vertices_same = s.vertices_same ∙ f.vertices_same;
  values_same = s.values_same ∙ f.values_same;
  rest = f.rest ++ s.rest;
  front = s.front ∙ ap (λ (xs : List (ℕ × ℕ)). xs ++ s.rest) f.front ∙ append_assoc a.removed f.rest s.rest;
  less = λ p t h. f.less p t (s.less p t h);
  keeps = λ m e h. s.keeps m e (f.keeps m e h);
}

-- the domain of r keeps what passes, and every image of r does
pub narrows_keeps : (q : Problem) (old new : State) (r : ℕ) (keeps : ℕ → Bool) → Keeps old new r keeps
    → ((m : List ℕ) → Embeds q m → Inside q (in_domain old) m → keeps (slice_index m r) ≡ true) → Narrows q old new
narrows_keeps q old new r keeps k passes = record {
  vertices_same = k.shrinks.vertices_same;
  values_same = k.shrinks.values_same;
  rest = k.shrinks.rest;
  front = k.shrinks.front;
  less = k.shrinks.less;
  keeps = λ m e h. λ p p_in. by_vertex m e h p p_in (cases_eq p r);
}
  where
    by_vertex : (m : List ℕ) → Embeds q m → Inside q (in_domain old) m → (p : ℕ) → p < size q.pattern → (p ≡ r) ⊎ (p ≡ r → ⊥)
        → in_domain new p (slice_index m p) ≡ true
    by_vertex m e h p p_in (inl same) =
        subst (λ (v : ℕ). in_domain new v (slice_index m v) ≡ true) (sym same)
        (k.kept (slice_index m r) ∙ both _ _ (subst (λ (v : ℕ). in_domain old v (slice_index m v) ≡ true) same (h p p_in)) (passes m e h))
      where
        both : (a b : Bool) → a ≡ true → b ≡ true → (a && b) ≡ true
        both true b x y = y
        both false b x y = cc
    by_vertex m e h p p_in (inr other) = k.shrinks.others p (slice_index m p) other ∙ h p p_in

-- where no embedding is within fewer values, none is within more
pub none_narrowed : (q : Problem) (old new : State) → Narrows q old new → NoneInside q (in_domain new) → NoneInside q (in_domain old)
none_narrowed q old new n none = λ m e h. none m e (n.keeps m e h)

-- no embedding is within domains of which one has no value
pub none_in_empty : (q : Problem) (d : State) (r : ℕ) → r < size q.pattern → ((t : ℕ) → in_domain d r t ≡ true → ⊥) → NoneInside q (in_domain d)
none_in_empty q d r r_in empty = λ m e h. empty (slice_index m r) (h r r_in)

-- fewer values are of the same problem
pub is_of_narrowed : (q : Problem) (old new : State) → Narrows q old new → IsOf q old → IsOf q new
is_of_narrowed q old new n o = record { vertices_is = n.vertices_same ∙ o.vertices_is; values_is = n.values_same ∙ o.values_is }
