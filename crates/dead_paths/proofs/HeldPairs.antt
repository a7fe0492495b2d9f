-- Pairs that are known to hold, and those that are borne or upheld.
use Rattle.std.proofs.Common.{◌≡◌, ℕ, zero, suc, ◌+◌, ◌<◌, ◌≤◌, ◌==◌, ◌||◌, Bool, true, false, List, [], ◌∷◌, ◌++◌, length, slice_index, get_or, Option, Result, Ok, Err, OnOk, refl, sym, ap, subst, ◌∙◌, append_assoc, append-nil, arith, inl, inr, ◌⊎◌}
use Rattle.std.specs.Prelude.{set}
use Rattle.std.proofs.lemmas.Bool.{cases_eq, cases_lt, eqb-true, eq-eqb}
use Rattle.std.proofs.lemmas.List.{get_or-set_same, get_or-set_other}
use Rattle.std.specs.declared.alloc.AllocError.{AllocError}
use Rattle.graph_theory.specs.Graph.{size}
use Rattle.graph_theory.specs.Embedding.{Problem}
use Rattle.log_theory.specs.Lookups.{is_among}
use Rattle.log_theory.specs.declared.step.Ref.{Ref}
use Rattle.nogood_watch.specs.Nogoods.{literal}
use Rattle.nogood_book.specs.declared.row.Row.{Row}
use Rattle.nogood_book.specs.Rows.{path_at, Sound, AreInRange}
use Rattle.dead_theory.proofs.Dying.{told_laws_hold}
use Rattle.dead_theory.specs.Changes.{IsOneOf, IsLeftOut, IsBorne, AreBorne, IsUpheld}
use Rattle.dead_paths.specs.Lines.{at_least_ref, at_least_refs}
use Rattle.dead_paths.specs.Choosing.{AreAt, no_value}
use Rattle.dead_theory.specs.Walks.{IsWithin}
use Rattle.dead_paths.specs.Explaining.{AddsBorne, AddsNogood}

-- ---- pairs that are upheld

pub upheld_more : (path : List (ℕ × ℕ)) (but : Option ℕ) (f g : ℕ → ℕ → Bool) (x : ℕ × ℕ) → IsWithin f g → IsUpheld path but f x → IsUpheld path but g x
upheld_more path but f g x more (inl out) = inl out
upheld_more path but f g x more (inr (inl here)) = inr (inl here)
upheld_more path but f g x more (inr (inr up)) = inr (inr (λ u other. more x.0 u (up u other)))

-- In range the default does not matter.
pub literal_at : (xs : List (ℕ × ℕ)) (k : ℕ) (d : ℕ × ℕ) → k < length xs → literal xs k ≡ get_or xs k d
literal_at [] k d below = absurd (omega (arith, below))
literal_at (x ∷ xs) zero d below = refl
literal_at (x ∷ xs) (suc k) d below = literal_at xs k d (omega (arith, below))

-- One more of which something is so.
pub each_next : (pairs : List (ℕ × ℕ)) (Claim : ℕ × ℕ → Type 0) (i : ℕ) (x : ℕ × ℕ) → literal pairs i ≡ x → Claim x → ((k : ℕ) → k < i → Claim (literal pairs k)) → (k : ℕ) → k < i + 1 → Claim (literal pairs k)
each_next pairs Claim i x is here before k below = by (cases_lt k i)
  where
    by : (k < i) ⊎ (i ≤ k) → Claim (literal pairs k)
    by (inl h) = before k h
    by (inr h) = let same : i ≡ k = omega (arith, h, below) in subst (λ (n : ℕ). Claim (literal pairs n)) same (subst Claim (sym is) here)

-- ---- pairs that are borne

or_right : (b c : Bool) → c ≡ true → (b || c) ≡ true
or_right true c e = refl
or_right false c e = e

among_behind : (vs us : List ℕ) (p : ℕ) → is_among p vs ≡ true → is_among p (vs ++ us) ≡ true
among_behind [] us p h = absurd cc
among_behind (v ∷ vs) us p h = by (v == p) h (λ e. among_behind vs us p e)
  where
    by : (b : Bool) → (b || is_among p vs) ≡ true → (is_among p vs ≡ true → is_among p (vs ++ us) ≡ true) → (b || is_among p (vs ++ us)) ≡ true
    by true e later = refl
    by false e later = later e

among_last : (vs : List ℕ) (p : ℕ) → is_among p (vs ++ p ∷ []) ≡ true
among_last [] p = ap (λ (b : Bool). b || false) (eq-eqb p p refl)
among_last (v ∷ vs) p = or_right (v == p) (is_among p (vs ++ p ∷ [])) (among_last vs p)

among_parts : (vs : List ℕ) (p r : ℕ) → is_among r (vs ++ p ∷ []) ≡ true → (is_among r vs ≡ true) ⊎ (p ≡ r)
among_parts [] p r h = by (p == r) refl h
  where
    by : (b : Bool) → (p == r) ≡ b → (b || false) ≡ true → (is_among r [] ≡ true) ⊎ (p ≡ r)
    by true is e = inr (eqb-true p r is)
    by false is e = absurd cc
among_parts (v ∷ vs) p r h = by (v == r) h (λ e. among_parts vs p r e)
  where
    by : (b : Bool) → (b || is_among r (vs ++ p ∷ [])) ≡ true → (is_among r (vs ++ p ∷ []) ≡ true → (is_among r vs ≡ true) ⊎ (p ≡ r)) → ((b || is_among r vs) ≡ true) ⊎ (p ≡ r)
    by true e later = inl refl
    by false e later = later e

pub refs_next : (q : Problem) (vs : List ℕ) (p : ℕ) → at_least_refs q (vs ++ p ∷ []) ≡ at_least_refs q vs ++ at_least_ref q p ∷ []
refs_next q [] p = refl
refs_next q (v ∷ vs) p = ap (λ (rs : List Ref). at_least_ref q v ∷ rs) (refs_next q vs p)

borne_more : (known : List (ℕ × ℕ)) (vs us : List ℕ) (but : Option ℕ) (x : ℕ × ℕ) → IsBorne known vs but x → IsBorne known (vs ++ us) but x
borne_more known vs us but x (inl out) = inl out
borne_more known vs us but x (inr (inl here)) = inr (inl here)
borne_more known vs us but x (inr (inr among)) = inr (inr (among_behind vs us x.0 among))

module _ (q : Problem) (known : List (ℕ × ℕ)) (but : Option ℕ) (pairs : List (ℕ × ℕ)) where
  pub bearing_none : (refs : List Ref) → AddsBorne q known but pairs 0 refs refs
  bearing_none refs = record { vertices = []; inside = λ p h. absurd cc; front = sym (append-nil refs); borne = λ k below. absurd (omega (arith, below)) }

  -- Of fewer pairs.
  pub bearing_fewer : (count n : ℕ) (old new : List Ref) → n ≤ count → AddsBorne q known but pairs count old new → AddsBorne q known but pairs n old new
  bearing_fewer count n old new few h = record { vertices = h.vertices; inside = h.inside; front = h.front; borne = λ k below. h.borne k (omega (arith, below, few)) }

  -- A pair for which nothing is pushed.
  pub bearing_same : (count : ℕ) (old new : List Ref) (x : ℕ × ℕ) → literal pairs count ≡ x → IsLeftOut but x.0 ⊎ IsOneOf known x → AddsBorne q known but pairs count old new
      → AddsBorne q known but pairs (count + 1) old new
  bearing_same count old new x is here h = record {
    vertices = h.vertices;
    inside = h.inside;
    front = h.front;
    borne = each_next pairs (IsBorne known h.vertices but) count x is (elim here [ inl out ↦ inl out | inr one ↦ inr (inl one) ]) h.borne;
  }

  -- One whose vertex is pushed.
  pub bearing_pushed : (count : ℕ) (old mid new : List Ref) (x : ℕ × ℕ) → literal pairs count ≡ x → x.0 < size q.pattern → new ≡ mid ++ at_least_ref q x.0 ∷ [] → AddsBorne q known but pairs count old mid
      → AddsBorne q known but pairs (count + 1) old new
  bearing_pushed count old mid new x is inside pushed h = record {
    vertices = h.vertices ++ x.0 ∷ [];
    inside = λ r among. elim (among_parts h.vertices x.0 r among) [ inl e ↦ h.inside r e | inr same ↦ subst (λ (v : ℕ). v < size q.pattern) same inside ];
    front = pushed ∙ ap (λ (rs : List Ref). rs ++ at_least_ref q x.0 ∷ []) h.front ∙ append_assoc old (at_least_refs q h.vertices) (at_least_ref q x.0 ∷ [])
        ∙ ap (λ (rs : List Ref). old ++ rs) (sym (refs_next q h.vertices x.0));
    borne = each_next pairs (IsBorne known (h.vertices ++ x.0 ∷ []) but) count x is (inr (inr (among_last h.vertices x.0)))
        (λ k below. borne_more known h.vertices (x.0 ∷ []) but (literal pairs k) (h.borne k below));
  }

-- ---- pairs by their vertices

slice_same : (xs : List ℕ) (p : ℕ) → p < length xs → slice_index xs p ≡ get_or xs p 0
slice_same [] p below = absurd (omega (arith, below))
slice_same (x ∷ xs) zero below = refl
slice_same (x ∷ xs) (suc p) below = slice_same xs p (omega (arith, below))

set_long : {A : Type 0} (xs : List A) (p : ℕ) (t : A) → length (set xs p t) ≡ length xs
set_long [] p t = refl
set_long (x ∷ xs) zero t = refl
set_long (x ∷ xs) (suc p) t = ap (λ (n : ℕ). suc n) (set_long xs p t)

-- What more is put at a vertex is known then.
pub at_set : (at : List ℕ) (known : List (ℕ × ℕ)) (p t : ℕ) → p < length at → AreAt at known → AreAt (set at p t) ((p, t) ∷ known)
at_set at known p t inside are r u r_in is some = by (cases_eq r p)
  where
    r_below : r < length at
    r_below = let e = set_long at p t in omega (arith, r_in, e)

    by : (r ≡ p) ⊎ (r ≡ p → ⊥) → IsOneOf ((p, t) ∷ known) (r, u)
    by (inl same) =
        let e : t ≡ u = sym (get_or-set_same at p t 0 inside) ∙ ap (λ (k : ℕ). get_or (set at p t) k 0) (sym same) ∙ sym (slice_same (set at p t) r r_in) ∙ is in
        inl (ap (λ (k : ℕ). (k, t)) (sym same) ∙ ap (λ (v : ℕ). (r, v)) e)
    by (inr other) =
        inr (are r u r_below (slice_same at r r_below ∙ sym (get_or-set_other at p r t 0 other) ∙ sym (slice_same (set at p t) r r_in) ∙ is) some)

-- More pairs are known.
pub at_known : (at : List ℕ) (less more : List (ℕ × ℕ)) → ((x : ℕ × ℕ) → IsOneOf less x → IsOneOf more x) → AreAt at less → AreAt at more
at_known at less more within are p t below is some = within (p, t) (are p t below is some)

pub one_at : (xs : List (ℕ × ℕ)) (k : ℕ) → k < length xs → IsOneOf xs (literal xs k)
one_at [] k below = absurd (omega (arith, below))
one_at (x ∷ xs) zero below = inl refl
one_at (x ∷ xs) (suc k) below = inr (one_at xs k (omega (arith, below)))

-- A pair of the list is put at its vertex.
pub at_again : (at : List ℕ) (path : List (ℕ × ℕ)) (i : ℕ) (x : ℕ × ℕ) (v t : ℕ) → i < length path → literal path i ≡ x → v ≡ x.0 → t ≡ x.1 → v < length at → AreAt at path → AreAt (set at v t) path
at_again at path i x v t below is v_is t_is inside are =
    at_known (set at v t) ((v, t) ∷ path) path
    (λ y one. elim one [ inl e ↦ subst (IsOneOf path) (is ∙ ap (λ (w : ℕ). (w, x.1)) (sym v_is) ∙ ap (λ (w : ℕ). (v, w)) (sym t_is) ∙ e) (one_at path i below) | inr h ↦ h ]) (at_set at path v t inside are)

-- Where no vertex has a value, nothing is at any.
pub none_at : (at : List ℕ) → ((p : ℕ) → p < length at → slice_index at p ≡ no_value) → AreAt at []
none_at at none p t below is some = absurd (some (sym is ∙ none p below))

slice_append : (xs : List ℕ) (v p : ℕ) → p < length (xs ++ v ∷ []) → ((r : ℕ) → r < length xs → slice_index xs r ≡ v) → slice_index (xs ++ v ∷ []) p ≡ v
slice_append [] v zero below all = refl
slice_append [] v (suc p) below all = absurd (omega (arith, below))
slice_append (x ∷ xs) v zero below all = all 0 (omega arith)
slice_append (x ∷ xs) v (suc p) below all = slice_append xs v p (omega (arith, below)) (λ r r_in. all (suc r) (omega (arith, r_in)))

-- One more vertex without a value.
pub none_more : (old new : List ℕ) → new ≡ old ++ no_value ∷ [] → ((p : ℕ) → p < length old → slice_index old p ≡ no_value) → (p : ℕ) → p < length new → slice_index new p ≡ no_value
none_more old new is all p below =
    ap (λ (xs : List ℕ). slice_index xs p) is ∙ slice_append old no_value p (subst (λ (xs : List ℕ). p < length xs) is below) all

-- ---- rows

pub vertex_of : (q : Problem) (path : List (ℕ × ℕ)) (k : ℕ) → AreInRange q path → k < length path → (literal path k).0 < size q.pattern
vertex_of q [] k range below = absurd (omega (arith, below))
vertex_of q (x ∷ path) zero range below = range.0
vertex_of q (x ∷ path) (suc k) range below = vertex_of q path k range.2 (omega (arith, below))

pub row_vertex_of : (q : Problem) (rows : List Row) (name : ℕ) (pairs : List (ℕ × ℕ)) (k : ℕ) → Sound q rows → pairs ≡ path_at rows name → k < length pairs → (literal pairs k).0 < size q.pattern
row_vertex_of q rows name pairs k sound is below = vertex_of q pairs k (subst (AreInRange q) (sym is) (told_laws_hold.row_path q rows name sound).1) below

pub value_of : (q : Problem) (path : List (ℕ × ℕ)) (k : ℕ) → AreInRange q path → k < length path → (literal path k).1 < size q.target
value_of q [] k range below = absurd (omega (arith, below))
value_of q (x ∷ path) zero range below = range.1
value_of q (x ∷ path) (suc k) range below = value_of q path k range.2 (omega (arith, below))

pub row_value_of : (q : Problem) (rows : List Row) (name : ℕ) (pairs : List (ℕ × ℕ)) (k : ℕ) → Sound q rows → pairs ≡ path_at rows name → k < length pairs → (literal pairs k).1 < size q.target
row_value_of q rows name pairs k sound is below = value_of q pairs k (subst (AreInRange q) (sym is) (told_laws_hold.row_path q rows name sound).1) below

-- What is pushed for a nogood row.
pub nogood_pushed : (q : Problem) (rows : List Row) (names : ℕ → Ref) (known : List (ℕ × ℕ)) (but : Option ℕ) (name : ℕ) (pairs : List (ℕ × ℕ)) (old mid new : List Ref) (ref : Ref) → pairs ≡ path_at rows name
    → ref ≡ names name → new ≡ mid ++ ref ∷ [] → AddsBorne q known but pairs (length pairs) old mid → AddsNogood q rows names known but name old new
nogood_pushed q rows names known but name pairs old mid new ref is ref_is pushed h = record {
  vertices = h.vertices;
  inside = h.inside;
  front = pushed ∙ ap (λ (r : Ref). mid ++ r ∷ []) ref_is ∙ ap (λ (rs : List Ref). rs ++ names name ∷ []) h.front ∙ append_assoc old (at_least_refs q h.vertices) (names name ∷ []);
  borne = subst (λ (xs : List (ℕ × ℕ)). AreBorne known h.vertices but xs) is h.borne;
}

-- What holds anyhow holds where memory sufficed.
pub ok_still : {A : Type 0} (result : Result (Unit {0}) AllocError) → A → OnOk result A
ok_still (Ok u) a = a
ok_still (Err e) a = tt
