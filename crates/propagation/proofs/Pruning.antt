-- Pruning by counting, in the words of a problem, and which vertices wait after it.

use Rattle.std.proofs.Common.{◌≡◌, ℕ, ◌+◌, ◌<◌, Bool, true, false, List, length, slice_index, refl, sym, ap, ◌∙◌, subst, arith, ◌⊎◌, inl, inr}
use Rattle.std.proofs.lemmas.Bool.{cases_eq}
use Rattle.std.proofs.lemmas.List.{length-set}
use Rattle.graph_theory.specs.Graph.{size}
use Rattle.graph_theory.specs.Embedding.{Problem, Embeds, differ, differ_in}
use Rattle.graph_theory.specs.declared.embedding.Maps.{Maps}
use Rattle.graph_theory.specs.declared.embedding.Maps.TheVariants.{Injective}
use Rattle.search_theory.specs.Claims.{Inside, NoneInside, Quiet, Single}
use Rattle.domain_bits.specs.Removals.{State, in_domain, size_of}
use Rattle.domain_bits.proofs.Sizes.{some_counted, size_single, not_single}
use Rattle.all_different.specs.Choices.{Chooses, LosesNoChoice}
use Rattle.all_different.specs.Pruning.{DecidedApart}
use Rattle.all_different.proofs.Unions.{same_tests}
use Rattle.recorder.specs.Telling.{IsOf}
use Rattle.propagation.specs.Propagation.{Narrows, waits_at, HasValue, HasTwo, Rests, Ready, UndecidedWait, NotesDecided, Noting, DecidedOnesWait}
use Rattle.propagation.proofs.Narrowing.{narrows_none, none_narrowed, none_in_empty}
use Rattle.propagation.proofs.Waiting.{rests_on, rests_with_two, flag_other}

-- ---- choices and embeddings

-- by injective maps any two images differ
pub all_differ : (q : Problem) (p r : ℕ) → q.maps ≡ Injective → differ q p r ≡ true
all_differ q p r injective = ap (λ (k : Maps). differ_in k q.pattern p r) injective

-- an embedding within the domains is an injective choice from them
choice_of : (q : Problem) (d : State) (m : List ℕ) → IsOf q d → q.maps ≡ Injective → Embeds q m → Inside q (in_domain d) m → Chooses d (slice_index m)
choice_of q d m is injective e h = record {
  inside = λ p p_in. h p (subst (λ (n : ℕ). p < n) is.vertices_is p_in);
  distinct = λ p r p_in r_in same. e.distinct p r (subst (λ (n : ℕ). p < n) is.vertices_is p_in) (subst (λ (n : ℕ). r < n) is.vertices_is r_in) (all_differ q p r injective) same;
}

-- removals that lose no choice lose no embedding
pub narrows_choices : (q : Problem) (old new : State) → IsOf q old → q.maps ≡ Injective → LosesNoChoice old new → Narrows q old new
narrows_choices q old new is injective l = record {
  vertices_same = l.vertices_same;
  values_same = l.values_same;
  rest = l.rest;
  front = l.front;
  less = l.less;
  keeps = λ m e h. λ p p_in. (l.keeps (slice_index m) (choice_of q old m is injective e h)).inside p (subst (λ (n : ℕ). p < n) (sym (l.vertices_same ∙ is.vertices_is)) p_in);
}

-- where there is no choice, there is no embedding
pub none_chosen : (q : Problem) (d : State) → IsOf q d → q.maps ≡ Injective → ((m : ℕ → ℕ) → Chooses d m → ⊥) → NoneInside q (in_domain d)
none_chosen q d is injective none = λ m e h. none (slice_index m) (choice_of q d m is injective e h)

-- ---- what is decided

-- domains at rest hold no value that is all of another
pub decided_apart : (q : Problem) (d : State) → IsOf q d → q.maps ≡ Injective → Quiet q (in_domain d) → DecidedApart d
decided_apart q d is injective quiet = record {
  apart = λ p r t p_in r_in other one here there.
      let s = size_single d p t one here in
      let settled = quiet.settled p t (subst (λ (n : ℕ). p < n) is.vertices_is p_in) (record { here = s.here; only = s.only }) in
      (settled.goes r t (subst (λ (n : ℕ). r < n) is.vertices_is r_in) other there).pair.apart (all_differ q p r injective) refl;
}

-- a domain of one value that keeps one is the same
same_single : (old new : State) (p : ℕ) → ((u : ℕ) → in_domain new p u ≡ true → in_domain old p u ≡ true) → size_of old p ≡ 1 → size_of new p ≡ 1
    → (u : ℕ) → in_domain new p u ≡ in_domain old p u
same_single old new p less one still u =
    let found = some_counted (in_domain new p) new.values (omega (arith, still)) in
    let s = size_single old p found.0 one (less found.0 found.2) in
    same_tests (in_domain new p u) (in_domain old p u) (less u) (λ h. subst (λ (v : ℕ). in_domain new p v ≡ true) (sym (s.only u h)) found.2)

-- a domain of neither no value nor one has two
pub two_by_size : (d : State) (p : ℕ) → (size_of d p ≡ 0 → ⊥) → (size_of d p ≡ 1 → ⊥) → HasTwo d p
two_by_size d p some more =
    let found = some_counted (in_domain d p) d.values (omega (arith, some)) in
    record { value = found.0; here = found.2; not_single = λ t s. not_single d p more t (record { here = s.here; only = s.only }) }

-- a domain of one value has that one only
pub one_by_size : (d : State) (p : ℕ) → size_of d p ≡ 1 → (v : ℕ) × Single (in_domain d) p v
one_by_size d p one =
    let found = some_counted (in_domain d p) d.values (omega (arith, one)) in
    let s = size_single d p found.0 one found.2 in
    (found.0, record { here = s.here; only = s.only })

-- and one of another number of values has not
pub not_one_by_size : (d : State) (p : ℕ) → (size_of d p ≡ 1 → ⊥) → (t : ℕ) → Single (in_domain d) p t → ⊥
not_one_by_size d p more t s = not_single d p more t (record { here = s.here; only = s.only })

-- ---- one vertex after another

pub noting_start : (d : State) (waiting : List Bool) → Noting d waiting waiting 0
noting_start d waiting = record { long = refl; noted = λ p p_in. absurd (omega arith); rest = λ p le. refl }

pub noting_more : (d : State) (before between after : List Bool) (n : ℕ) → Noting d before between n → NotesDecided true d between after n → Noting d before after (n + 1)
noting_more d before between after n g (inl (one, same)) = record {
  long = ap length same ∙ g.long;
  noted = λ p p_in. by_place p p_in (cases_eq p n);
  rest = λ p le. ap (λ (ws : List Bool). waits_at ws p) same ∙ g.rest p (omega (arith, le));
}
  where
    by_place : (p : ℕ) → p < n + 1 → (p ≡ n) ⊎ (p ≡ n → ⊥) → ((size_of d p ≡ 1) × (waits_at after p ≡ waits_at before p)) ⊎ HasTwo d p
    by_place p p_in (inl is) = inl (ap (size_of d) is ∙ one, ap (λ (ws : List Bool). waits_at ws p) same ∙ g.rest p (omega (arith, is)))
    by_place p p_in (inr other) = earlier (g.noted p (omega (arith, p_in, other)))
      where
        earlier : ((size_of d p ≡ 1) × (waits_at between p ≡ waits_at before p)) ⊎ HasTwo d p → ((size_of d p ≡ 1) × (waits_at after p ≡ waits_at before p)) ⊎ HasTwo d p
        earlier (inl (single, flag)) = inl (single, ap (λ (ws : List Bool). waits_at ws p) same ∙ flag)
        earlier (inr two) = inr two
noting_more d before between after n g (inr (two, lowered)) = record {
  long = ap length lowered ∙ length-set between n false ∙ g.long;
  noted = λ p p_in. by_place p p_in (cases_eq p n);
  rest = λ p le. ap (λ (ws : List Bool). waits_at ws p) lowered ∙ flag_other between n p false (λ is. omega (arith, is, le)) ∙ g.rest p (omega (arith, le));
}
  where
    by_place : (p : ℕ) → p < n + 1 → (p ≡ n) ⊎ (p ≡ n → ⊥) → ((size_of d p ≡ 1) × (waits_at after p ≡ waits_at before p)) ⊎ HasTwo d p
    by_place p p_in (inl is) = inr (subst (λ (v : ℕ). HasTwo d v) (sym is) two)
    by_place p p_in (inr other) = earlier (g.noted p (omega (arith, p_in, other)))
      where
        earlier : ((size_of d p ≡ 1) × (waits_at between p ≡ waits_at before p)) ⊎ HasTwo d p → ((size_of d p ≡ 1) × (waits_at after p ≡ waits_at before p)) ⊎ HasTwo d p
        earlier (inl (single, flag)) = inl (single, ap (λ (ws : List Bool). waits_at ws p) lowered ∙ flag_other between n p false (λ is. other (sym is)) ∙ flag)
        earlier (inr twice) = inr twice

-- each of them has a value
value_noted : (d : State) (a b : Bool) (p : ℕ) → ((size_of d p ≡ 1) × (a ≡ b)) ⊎ HasTwo d p → HasValue d p
value_noted d a b p (inl (one, flag)) = let found = one_by_size d p one in (found.0, found.1.here)
value_noted d a b p (inr two) = (two.value, two.here)

-- and each that is decided by it waits
pub decided_wait : (q : Problem) (old new : State) (before after : List Bool) → IsOf q old → Narrows q old new → UndecidedWait old before old.vertices → Noting new before after new.vertices
    → DecidedOnesWait q old new after
decided_wait q old new before after is n undecided g p p_in = by_note (g.noted p (omega (arith, p_in, n.vertices_same, is.vertices_is))) (waits_at before p) refl
  where
    by_note : ((size_of new p ≡ 1) × (waits_at after p ≡ waits_at before p)) ⊎ HasTwo new p → (b : Bool) → waits_at before p ≡ b
        → (waits_at after p ≡ true) ⊎ (HasTwo new p ⊎ ((t : ℕ) → in_domain new p t ≡ in_domain old p t))
    by_note (inr two) b flag = inr (inl two)
    by_note (inl (one, same)) true flag = inl (same ∙ flag)
    by_note (inl (one, same)) false flag = inr (inr (same_single old new p (n.less p) (undecided p (omega (arith, p_in, is.vertices_is)) flag) one))

-- after all of them each vertex waits or rests
pub ready_noted : (q : Problem) (old new : State) (before after : List Bool) → Quiet q (in_domain old) → IsOf q old → Narrows q old new → length before ≡ size q.pattern
    → UndecidedWait old before old.vertices → Noting new before after new.vertices → Ready q new after
ready_noted q old new before after quiet is n long undecided g = record {
  long = g.long ∙ long;
  some = λ p p_in. value_noted new (waits_at after p) (waits_at before p) p (g.noted p (omega (arith, p_in, n.vertices_same, is.vertices_is)));
  each = λ p p_in. by_note p p_in (g.noted p (omega (arith, p_in, n.vertices_same, is.vertices_is))) (waits_at before p) refl;
}
  where
    by_note : (p : ℕ) → p < size q.pattern → ((size_of new p ≡ 1) × (waits_at after p ≡ waits_at before p)) ⊎ HasTwo new p → (b : Bool) → waits_at before p ≡ b
        → (waits_at after p ≡ true) ⊎ Rests q new p
    by_note p p_in (inr two) b flag = inr (rests_with_two q new p two)
    by_note p p_in (inl (one, same)) true flag = inl (same ∙ flag)
    by_note p p_in (inl (one, same)) false flag =
        inr (rests_on q old new p n.less (same_single old new p (n.less p) (undecided p (omega (arith, p_in, is.vertices_is)) flag) one)
        (record { some = quiet.some p p_in; settled = λ t s. quiet.settled p t p_in s }))

-- ---- what each answer tells

pub pruned_fail : (q : Problem) (old new : State) → (new ≡ old) × NoneInside q (in_domain old) → Narrows q old new × NoneInside q (in_domain old)
pruned_fail q old new says = (subst (λ (d : State). Narrows q old d) (sym says.0) (narrows_none q old), says.1)

pub pruned_empty : (q : Problem) (old new : State) → IsOf q old → Narrows q old new → (p : ℕ) × (p < new.vertices) × ((t : ℕ) → in_domain new p t ≡ true → ⊥)
    → Narrows q old new × NoneInside q (in_domain old)
pruned_empty q old new is n empty =
    (n, none_narrowed q old new n (none_in_empty q new empty.0 (omega (arith, empty.1, n.vertices_same, is.vertices_is)) empty.2))
