-- Each vertex waits or rests, and goes on to.

use Rattle.std.proofs.Common.{◌≡◌, ℕ, zero, suc, ◌+◌, ◌*◌, ◌<◌, ◌≤◌, Bool, true, false, List, [], ◌∷◌, length, slice_set, refl, sym, ◌∙◌, subst, arith, ◌⊎◌, inl, inr}
use Rattle.std.proofs.lemmas.Bool.{cases_eq}
use Rattle.std.proofs.lemmas.List.{get_or-set_same, get_or-set_other, length-set}
use Rattle.graph_theory.specs.Graph.{size}
use Rattle.graph_theory.specs.Embedding.{Problem}
use Rattle.search_theory.specs.Consistency.{AreConsistent}
use Rattle.search_theory.specs.Claims.{Single, Quiet, First}
use Rattle.search_theory.proofs.Pairs.{consistent_other}
use Rattle.domain_bits.specs.Removals.{State, in_domain}
use Rattle.propagation.specs.Propagation.{waits_at, waiting_count, HasTwo, IsSame, Shrinks, Rests, Ready, ReadyBut, Swept}
use Rattle.propagation.proofs.Narrowing.{narrows_none, narrows_more}

-- ---- single domains

-- a domain of one value is one where it is the same
pub single_moved : (old new : State) (p t : ℕ) → ((u : ℕ) → in_domain new p u ≡ in_domain old p u) → Single (in_domain new) p t → Single (in_domain old) p t
single_moved old new p t same s = record { here = sym (same t) ∙ s.here; only = λ u h. s.only u (same u ∙ h) }

-- two single values of one domain are the same
pub single_same : (D : ℕ → ℕ → Bool) (p t u : ℕ) → Single D p t → Single D p u → t ≡ u
single_same D p t u s o = o.only t s.here

-- ---- resting

-- what rests goes on to while its own domain stays and the others lose values
pub rests_on : (q : Problem) (old new : State) (p : ℕ) → ((r u : ℕ) → in_domain new r u ≡ true → in_domain old r u ≡ true)
    → ((u : ℕ) → in_domain new p u ≡ in_domain old p u) → Rests q old p → Rests q new p
rests_on q old new p less same r = record {
  some = (r.some.0, same r.some.0 ∙ r.some.1);
  settled = λ t s. record { goes = λ v u v_in other h. (r.settled t (single_moved old new p t same s)).goes v u v_in other (less v u h) };
}

-- a domain of two values rests
pub rests_with_two : (q : Problem) (d : State) (p : ℕ) → HasTwo d p → Rests q d p
rests_with_two q d p two = record { some = (two.value, two.here); settled = λ t s. absurd (two.not_single t s) }

-- two values stay two where the domain stays
pub two_on : (old new : State) (p : ℕ) → ((u : ℕ) → in_domain new p u ≡ in_domain old p u) → HasTwo old p → HasTwo new p
two_on old new p same two = record {
  value = two.value;
  here = same two.value ∙ two.here;
  not_single = λ t s. two.not_single t (single_moved old new p t same s);
}

-- ---- shrinking

pub shrinks_none : (q : Problem) (d : State) (waiting : List Bool) → length d.removed ≤ d.vertices * d.values → Shrinks q d waiting d waiting
shrinks_none q d waiting bounded = record {
  narrows = narrows_none q d;
  long = refl;
  noted = λ p p_in. inr (inr (record { domain = λ t. refl; flag = refl }));
  some = λ p h. h;
  bounded = bounded;
  less_work = omega arith;
}

pub shrinks_more : (q : Problem) (a b c : State) (before between after : List Bool) → Shrinks q a before b between → Shrinks q b between c after → Shrinks q a before c after
shrinks_more q a b c before between after f s = record {
  narrows = narrows_more q a b c f.narrows s.narrows;
  long = s.long ∙ f.long;
  noted = λ p p_in. by_later p (s.noted p p_in) (f.noted p p_in);
  some = λ p h. s.some p (f.some p h);
  bounded = s.bounded;
  less_work = omega (arith, f.less_work, s.less_work);
}
  where
    by_later : (p : ℕ) → (waits_at after p ≡ true) ⊎ (HasTwo c p ⊎ IsSame b between c after p)
        → (waits_at between p ≡ true) ⊎ (HasTwo b p ⊎ IsSame a before b between p) → (waits_at after p ≡ true) ⊎ (HasTwo c p ⊎ IsSame a before c after p)
    by_later p (inl w) y = inl w
    by_later p (inr (inl two)) y = inr (inl two)
    by_later p (inr (inr same)) (inl w) = inl (same.flag ∙ w)
    by_later p (inr (inr same)) (inr (inl two)) = inr (inl (two_on b c p same.domain two))
    by_later p (inr (inr same)) (inr (inr first)) =
        inr (inr (record { domain = λ t. same.domain t ∙ first.domain t; flag = same.flag ∙ first.flag }))

-- each vertex but p goes on to wait or rest
pub ready_but_on : (q : Problem) (old new : State) (before after : List Bool) (p : ℕ) → ReadyBut q old before p → Shrinks q old before new after → ReadyBut q new after p
ready_but_on q old new before after p ready s = record {
  long = s.long ∙ ready.long;
  some = λ r r_in. s.some r (ready.some r r_in);
  each = λ r r_in other. by_note r (s.noted r r_in) (ready.each r r_in other);
}
  where
    by_note : (r : ℕ) → (waits_at after r ≡ true) ⊎ (HasTwo new r ⊎ IsSame old before new after r) → (waits_at before r ≡ true) ⊎ Rests q old r
        → (waits_at after r ≡ true) ⊎ Rests q new r
    by_note r (inl w) y = inl w
    by_note r (inr (inl two)) y = inr (rests_with_two q new r two)
    by_note r (inr (inr same)) (inl w) = inl (same.flag ∙ w)
    by_note r (inr (inr same)) (inr rests) = inr (rests_on q old new r s.narrows.less same.domain rests)

-- and all do where p rests
pub ready_with : (q : Problem) (d : State) (waiting : List Bool) (p : ℕ) → ReadyBut q d waiting p → Rests q d p → Ready q d waiting
ready_with q d waiting p ready rests = record { long = ready.long; some = ready.some; each = λ r r_in. by_vertex r r_in (cases_eq p r) }
  where
    by_vertex : (r : ℕ) → r < size q.pattern → (p ≡ r) ⊎ (p ≡ r → ⊥) → (waits_at waiting r ≡ true) ⊎ Rests q d r
    by_vertex r r_in (inl same) = inr (subst (λ (v : ℕ). Rests q d v) same rests)
    by_vertex r r_in (inr other) = ready.each r r_in other

-- where no vertex waits, domains of first values are at rest
pub quiet_where_none_waits : (q : Problem) (d : State) (waiting : List Bool) → Ready q d waiting → First q (in_domain d)
    → ((p : ℕ) → p < length waiting → waits_at waiting p ≡ false) → Quiet q (in_domain d)
quiet_where_none_waits q d waiting ready first none = record {
  some = λ p p_in. (rests p p_in).some;
  first = first;
  settled = λ p t p_in s. (rests p p_in).settled t s;
}
  where
    by_note : (p : ℕ) → waits_at waiting p ≡ false → (waits_at waiting p ≡ true) ⊎ Rests q d p → Rests q d p
    by_note p down (inl w) = absurd (clash (sym down ∙ w))
      where
        clash : false ≡ true → ⊥
        clash h = cc
    by_note p down (inr r) = r

    rests : (p : ℕ) → p < size q.pattern → Rests q d p
    rests p p_in = by_note p (none p (subst (λ (n : ℕ). p < n) (sym ready.long) p_in)) (ready.each p p_in)

-- first values stay first values
pub first_on : (q : Problem) (old new : State) → ((r u : ℕ) → in_domain new r u ≡ true → in_domain old r u ≡ true) → First q (in_domain old) → First q (in_domain new)
first_on q old new less f = record {
  values = λ p t p_in h. f.values p t p_in (less p t h);
  alone = λ p t p_in h. f.alone p t p_in (less p t h);
}

-- ---- flags

-- raising or lowering the flag of p leaves the others
pub flag_other : (waiting : List Bool) (p r : ℕ) (b : Bool) → (p ≡ r → ⊥) → waits_at (slice_set waiting p b) r ≡ waits_at waiting r
flag_other waiting p r b other = get_or-set_other waiting p r b false (λ same. other (sym same))

pub flag_here : (waiting : List Bool) (p : ℕ) (b : Bool) → p < length waiting → waits_at (slice_set waiting p b) p ≡ b
flag_here waiting p b p_in = get_or-set_same waiting p b false p_in

-- the count after lowering a flag that was up, and after raising one
pub count_lowered : (waiting : List Bool) (p : ℕ) → waits_at waiting p ≡ true → waiting_count (slice_set waiting p false) + 1 ≡ waiting_count waiting
count_lowered [] p up = cc
count_lowered (b ∷ bs) zero up = rw up (omega arith)
count_lowered (b ∷ bs) (suc p) up = omega (arith, count_lowered bs p up)

pub count_raised : (waiting : List Bool) (p : ℕ) → waiting_count (slice_set waiting p true) ≤ waiting_count waiting + 1
count_raised [] p = omega arith
count_raised (true ∷ bs) zero = omega arith
count_raised (false ∷ bs) zero = omega arith
count_raised (b ∷ bs) (suc p) = omega (arith, count_raised bs p)

pub count_raised_again : (waiting : List Bool) (p : ℕ) → waits_at waiting p ≡ true → waiting_count (slice_set waiting p true) ≤ waiting_count waiting
count_raised_again [] p up = omega arith
count_raised_again (true ∷ bs) zero up = omega arith
count_raised_again (false ∷ bs) zero up = cc
count_raised_again (b ∷ bs) (suc p) up = omega (arith, count_raised_again bs p up)

-- what was ready is ready but for p when the flag of p is lowered
pub ready_but_lowered : (q : Problem) (d : State) (waiting : List Bool) (p : ℕ) → Ready q d waiting → ReadyBut q d (slice_set waiting p false) p
ready_but_lowered q d waiting p ready = record {
  long = length-set waiting p false ∙ ready.long;
  some = ready.some;
  each = λ r r_in other. by_note r other (ready.each r r_in);
}
  where
    by_note : (r : ℕ) → (p ≡ r → ⊥) → (waits_at waiting r ≡ true) ⊎ Rests q d r → (waits_at (slice_set waiting p false) r ≡ true) ⊎ Rests q d r
    by_note r other (inl w) = inl (flag_other waiting p r false other ∙ w)
    by_note r other (inr rests) = inr rests

-- ---- pairs

-- a vertex that is decided and rests is consistent with p at t
pub swept_by_rest : (q : Problem) (d : State) (p t r : ℕ) → p < size q.pattern → in_domain d p t ≡ true → Rests q d r → (v : ℕ) → Single (in_domain d) r v → Swept true q d p t r
swept_by_rest q d p t r p_in here rests v s = λ u other h.
    consistent_other q r u p t (subst (λ (w : ℕ). AreConsistent q r w p t) (sym (s.only u h)) ((rests.settled v s).goes p t p_in (λ same. other (sym same)) here))
