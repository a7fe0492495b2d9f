-- A guess: the vertex is given its value, and the consequences are taken.

use Rattle.std.proofs.Common.{◌≡◌, ℕ, ◌<◌, Bool, true, List, [], ◌∷◌, ◌++◌, length, slice_index, slice_set, sym, ap, ◌∙◌, subst, ◌⊎◌, inl, inr}
use Rattle.std.proofs.lemmas.Bool.{cases_eq}
use Rattle.std.proofs.lemmas.List.{length-set}
use Rattle.graph_theory.specs.Graph.{size}
use Rattle.graph_theory.specs.Embedding.{Problem, Embeds}
use Rattle.graph_theory.specs.Path.{Extends, Dead}
use Rattle.graph_theory.proofs.DeadPaths.{extends_front, extends_last}
use Rattle.search_theory.specs.Claims.{NoneInside, Stands, Single, Pins, Quiet}
use Rattle.search_theory.specs.Account.{Account, path, deepened, Honest}
use Rattle.search_theory.proofs.Refuted.{path_of_push}
use Rattle.domain_bits.specs.Removals.{State, in_domain}
use Rattle.domain_bits.specs.Changes.{Keeps}
use Rattle.sparse_set.specs.Removals as sparse
use Rattle.propagation.specs.Propagation.{AreCalm, Narrows, waits_at, HasValue, Rests, Ready}
use Rattle.restart_search.specs.declared.position.Moment.{Moment}
use Rattle.restart_search.specs.Searching.{AtRest, IsNow, Levels, Based, Sound}
use Rattle.propagation.proofs.Waiting.{rests_on, flag_here}
use Rattle.restart_search.proofs.Levels.{Later, low_within, rested_now, rested_later, levels_push, levels_more}

-- ---- the domains after the assignment

-- each vertex waits or rests once p, which has a new domain, waits
pub ready_assigned : (q : Problem) (old new : State) (p t : ℕ) (keeps : ℕ → Bool) (waiting : List Bool) → Quiet q (in_domain old) → Keeps old new p keeps → in_domain new p t ≡ true
    → length waiting ≡ size q.pattern → p < size q.pattern → Ready q new (slice_set waiting p true)
ready_assigned q old new p t keeps waiting quiet k here long p_in = record {
  long = length-set waiting p true ∙ long;
  some = λ r r_in. by_value r (quiet.some r r_in) (cases_eq r p);
  each = λ r r_in. by_vertex r r_in (cases_eq r p);
}
  where
    by_value : (r : ℕ) → HasValue old r → (r ≡ p) ⊎ (r ≡ p → ⊥) → HasValue new r
    by_value r had (inl same) = subst (λ (x : ℕ). HasValue new x) (sym same) (t, here)
    by_value r had (inr other) = (had.0, k.shrinks.others r had.0 other ∙ had.1)

    by_vertex : (r : ℕ) → r < size q.pattern → (r ≡ p) ⊎ (r ≡ p → ⊥) → (waits_at (slice_set waiting p true) r ≡ true) ⊎ Rests q new r
    by_vertex r r_in (inl same) = inl (ap (waits_at (slice_set waiting p true)) same ∙ flag_here waiting p true (subst (λ (n : ℕ). p < n) (sym long) p_in))
    by_vertex r r_in (inr other) =
        inr (rests_on q old new r k.shrinks.less (λ u. k.shrinks.others r u other) (record { some = quiet.some r r_in; settled = λ t s. quiet.settled r t r_in s }))

-- an embedding that extends the path by p at t is within the domains in which p has only t
pub inside_assigned : (q : Problem) (above : List (ℕ × ℕ)) (old new : State) (p t : ℕ) (keeps : ℕ → Bool) → Stands q above (in_domain old) → Keeps old new p keeps
    → Single (in_domain new) p t → Stands q (above ++ (p, t) ∷ []) (in_domain new)
inside_assigned q above old new p t keeps stands k s = λ m e h. λ r r_in. by_vertex m e h r r_in (cases_eq r p)
  where
    by_vertex : (m : List ℕ) → Embeds q m → Extends (above ++ (p, t) ∷ []) m → (r : ℕ) → r < size q.pattern → (r ≡ p) ⊎ (r ≡ p → ⊥) → in_domain new r (slice_index m r) ≡ true
    by_vertex m e h r r_in (inl same) =
        subst (λ (v : ℕ). in_domain new v (slice_index m v) ≡ true) (sym same)
        (subst (λ (u : ℕ). in_domain new p u ≡ true) (sym (extends_last above p t m h)) s.here)
    by_vertex m e h r r_in (inr other) = k.shrinks.others r (slice_index m r) other ∙ stands m e (extends_front above ((p, t) ∷ []) m h) r r_in

-- so where none is within them, the longer path is dead
pub dead_assigned : (q : Problem) (above : List (ℕ × ℕ)) (new : State) (p t : ℕ) → Stands q (above ++ (p, t) ∷ []) (in_domain new) → NoneInside q (in_domain new)
    → Dead q (above ++ (p, t) ∷ [])
dead_assigned q above new p t stands none = λ m e h. none m e (stands m e h)

-- ---- pins

-- a single domain that loses values and keeps one is what it was
pub single_kept : (D E : ℕ → ℕ → Bool) (p t : ℕ) → ((r u : ℕ) → E r u ≡ true → D r u ≡ true) → Single D p t → (u : ℕ) × (E p u ≡ true) → Single E p t
single_kept D E p t less s some = record {
  here = subst (λ (v : ℕ). E p v ≡ true) (s.only some.0 (less p some.0 some.1)) some.1;
  only = λ u h. s.only u (less p u h);
}

-- pins stay while each vertex keeps a value
pub pins_kept : (q : Problem) (above : List (ℕ × ℕ)) (D E : ℕ → ℕ → Bool) → ((r u : ℕ) → E r u ≡ true → D r u ≡ true)
    → ((r : ℕ) → r < size q.pattern → (u : ℕ) × (E r u ≡ true)) → Pins q above D → Pins q above E
pins_kept q [] D E less some h = tt
pins_kept q (x ∷ xs) D E less some h = (h.0, single_kept D E x.0 x.1 less h.1 (some x.0 h.0), pins_kept q xs D E less some h.2)

-- one pin more
pub pins_more : (q : Problem) (above : List (ℕ × ℕ)) (D : ℕ → ℕ → Bool) (p t : ℕ) → Pins q above D → p < size q.pattern → Single D p t → Pins q (above ++ (p, t) ∷ []) D
pins_more q [] D p t h p_in s = (p_in, s, tt)
pins_more q (x ∷ xs) D p t h p_in s = (h.0, h.1, pins_more q xs D p t h.2 p_in s)

-- ---- at rest after the guess

pub rest_guessed : (q : Problem) (above : List (ℕ × ℕ)) (old mid new : State) (p t : ℕ) (keeps : ℕ → Bool) → AtRest q above old → Keeps old mid p keeps
    → Single (in_domain mid) p t → p < size q.pattern → Narrows q mid new → Quiet q (in_domain new) → AreCalm q new → AtRest q (above ++ (p, t) ∷ []) new
rest_guessed q above old mid new p t keeps rest k s p_in n quiet calm = record {
  quiet = quiet;
  calm = calm;
  stands = λ m e h. n.keeps m e (inside_assigned q above old mid p t keeps rest.stands k s m e h);
  pins = pins_more q above (in_domain new) p t
      (pins_kept q above (in_domain old) (in_domain new) (λ r u h. k.shrinks.less r u (n.less r u h)) quiet.some rest.pins) p_in
      (single_kept (in_domain mid) (in_domain new) p t n.less s (quiet.some p p_in));
}

-- the path after a guess
pub path_deepened : (a : Account) (p t : ℕ) → path (deepened a p t) ≡ path a ++ (p, t) ∷ []
path_deepened a p t = path_of_push a.steps (record { vertex = p; value = t; refuted = a.refuted })

-- what the search stands on after a guess
pub based_guessed : (q : Problem) (old new : State) (s r : sparse.State) (a : Account) (marks : List Moment) (root : Moment) (p t : ℕ) (k : Moment)
    → Sound q old s a marks root → Later old new s r → IsNow old s k → Honest q (deepened a p t) → Based q new r (deepened a p t) (marks ++ k ∷ []) root
based_guessed q old new s r a marks root p t k sound l now honest = record {
  is_of = record { vertices_is = l.vertices_same ∙ sound.based.is_of.vertices_is; values_is = l.values_same ∙ sound.based.is_of.values_is };
  honest = honest;
  levels = subst (λ (ps : List (ℕ × ℕ)). Levels q new r root [] ps (marks ++ k ∷ [])) (sym (path_deepened a p t))
      (levels_more q old new s r root [] (path a ++ (p, t) ∷ []) (marks ++ k ∷ []) l
      (levels_push q old s root [] (path a) marks (p, t) k now sound.based.levels (rested_now q (path a) old s k now sound.here sound.left)));
  root_rest = rested_later q [] old new s r root l (low_within q old s root [] (path a) marks sound.based.levels) sound.based.root_rest;
}
