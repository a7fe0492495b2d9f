-- Rows that come into the book, as a logger is told of them.

use Rattle.std.proofs.Common.{◌≡◌, ℕ, zero, suc, ◌+◌, ◌<◌, ◌≤◌, Bool, true, false, List, [], ◌∷◌, ◌++◌, length, take, Contains, Some, refl, sym, ap, ◌∙◌, subst, arith, ◌⊎◌, inl, inr, eq-eqb}
use Rattle.std.specs.Prelude.{slice_get, ◌==◌}
use Rattle.std.proofs.lemmas.Bool.{cases_lt, cases_eq, true≢false}
use Rattle.std.proofs.lemmas.List.{append_cancel_left, append-nil}
use Rattle.graph_theory.specs.Neighbours.{members}
use Rattle.search_theory.specs.Account.{Account, path, level_at, NotAmong}
use Rattle.fail_account.proofs.Members.{members_off}
use Rattle.nogood_book.specs.declared.row.Row.{Row}
use Rattle.nogood_book.specs.declared.row.RowKind.TheVariants.{Step, Nogood}
use Rattle.nogood_book.specs.Rows.{Pairs}
use Rattle.nogood_book.specs.Places.{StartsWith, place_or, places, places_from}
use Rattle.nogood_book.specs.Facts.{Facts, CaughtUp, StandsAt, IsFull}
use Rattle.nogood_book.specs.Reaching.{Reaches}
use Rattle.nogood_book.proofs.Lists.{places-append}
use Rattle.nogood_book.proofs.Reaching.{row_placed}
use Rattle.proof_logger.specs.Logging.{IsNogoodBy, GrowsBeside, Publishes}

-- ---- the places of an owner

abbrev Has : List ℕ → ℕ → Type 0
Has [] y = ⊥
Has (x ∷ xs) y = (x ≡ y) ⊎ Has xs y

-- each of an owner's rows has its place among them
has_place : (at o : ℕ) (rows : List Row) (j : ℕ) (r : Row) → slice_get rows j ≡ Some r → r.owner ≡ o → Has (places_from at o rows) (at + j)
has_place at o [] j r here own = cc
has_place at o (x ∷ xs) zero r here own = by (x.owner == o) refl
  where
    same : x ≡ r
    same = cc

    by : (b : Bool) → (x.owner == o) ≡ b → Has (place_or b at (places_from (at + 1) o xs)) (at + 0)
    by true e = inl (omega arith)
    by false e = absurd (true≢false (sym (eq-eqb x.owner o (ap (λ (y : Row). y.owner) same ∙ own)) ∙ e))
has_place at o (x ∷ xs) (suc j) r here own = by (x.owner == o) (subst (λ (n : ℕ). Has (places_from (at + 1) o xs) n) next (has_place (at + 1) o xs j r here own))
  where
    next : (at + 1) + j ≡ at + suc j
    next = omega arith

    by : (b : Bool) → Has (places_from (at + 1) o xs) (at + suc j) → Has (place_or b at (places_from (at + 1) o xs)) (at + suc j)
    by true h = inr h
    by false h = h

-- a row past the seam
pub past_seam : (xs ys : List Row) (k : ℕ) (r : Row) → slice_get (xs ++ ys) k ≡ Some r → length xs ≤ k → (j : ℕ) × (slice_get ys j ≡ Some r) × (length xs + j ≡ k)
past_seam [] ys k r here past = (k, here, omega arith)
past_seam (x ∷ xs) ys zero r here past = absurd (omega (arith, past))
past_seam (x ∷ xs) ys (suc k) r here past = let h = past_seam xs ys k r here (omega (arith, past)) in (h.0, h.1, omega (arith, h.2))

-- what an owner's new rows are, by the places
own_new : (o : ℕ) (rows more : List Row) (new : List ℕ) (s : StartsWith more rows) → places o more ≡ places o rows ++ new → (k : ℕ) → IsNogoodBy o more k → (k < length rows) ⊎ Has new k
own_new o rows more new s are k own = by (cases_lt k (length rows))
  where
    rest_are : places_from (length rows) o s.0 ≡ new
    rest_are = append_cancel_left (places o rows) (places_from (length rows) o s.0) new (sym (places-append o rows s.0) ∙ ap (places o) (sym s.1) ∙ are)

    by : (k < length rows) ⊎ (length rows ≤ k) → (k < length rows) ⊎ Has new k
    by (inl less) = inl less
    by (inr past) =
        let h = past_seam rows s.0 k own.row (subst (λ (zs : List Row). slice_get zs k ≡ Some own.row) s.1 own.row_is) past in
        inr (subst (λ (xs : List ℕ). Has xs k) rest_are
        (subst (λ (n : ℕ). Has (places_from (length rows) o s.0) n) h.2 (has_place (length rows) o s.0 h.0 own.row h.1 own.owner_is)))

-- ---- rows of others

-- where the owner's places are the same, the rows that came are beside
beside_same : (o : ℕ) (rows more : List Row) → StartsWith more rows → places o more ≡ places o rows → GrowsBeside o rows more
beside_same o rows more s same = record {
  rest = s.0;
  front = s.1;
  none_own = λ k own. by k (own_new o rows more [] s (same ∙ sym (append-nil (places o rows))) k own);
}
  where
    by : (k : ℕ) → (k < length rows) ⊎ Has [] k → k < length rows
    by k (inl less) = less
    by k (inr h) = absurd h

of_owner : (o : ℕ) (s t : Facts) → s.owner ≡ o → places s.owner t.seen ≡ places s.owner s.seen → places o t.seen ≡ places o s.seen
of_owner o s t is same = subst (λ (n : ℕ). places n t.seen ≡ places n s.seen) is same

pub beside_caught : (o : ℕ) (s t : Facts) → s.owner ≡ o → CaughtUp s t → GrowsBeside o s.seen t.seen
beside_caught o s t is c = beside_same o s.seen t.seen c.grew.seen (of_owner o s t is c.mine)

pub beside_full : (o : ℕ) (s t : Facts) → s.owner ≡ o → IsFull s t → GrowsBeside o s.seen t.seen
beside_full o s t is f = beside_same o s.seen t.seen f.grew.seen (of_owner o s t is f.mine)

pub beside_none : (o : ℕ) (rows : List Row) → GrowsBeside o rows rows
beside_none o rows = beside_same o rows rows ([], sym (append-nil rows)) refl

-- a step of one's own is no nogood
pub beside_step : (r : Row) (at o : ℕ) (s t : Facts) → s.owner ≡ o → r.kind ≡ Step → StandsAt r at s t → GrowsBeside o s.seen t.seen
beside_step r at o s t is kind h = record {
  rest = h.grew.seen.0;
  front = h.grew.seen.1;
  none_own = λ k own. by k own (own_new o s.seen t.seen (at ∷ []) h.grew.seen (subst (λ (n : ℕ). places n t.seen ≡ places n s.seen ++ at ∷ []) is h.mine) k own);
}
  where
    clash : Step ≡ Nogood → ⊥
    clash e = cc

    is_row : (k : ℕ) (own : IsNogoodBy o t.seen k) → at ≡ k → own.row ≡ r
    is_row k own e =
        let here : slice_get t.seen at ≡ Some own.row = subst (λ (n : ℕ). slice_get t.seen n ≡ Some own.row) (sym e) own.row_is in
        let both : Some own.row ≡ Some r = sym here ∙ h.row_is in
        cc

    by : (k : ℕ) → IsNogoodBy o t.seen k → (k < length s.seen) ⊎ Has (at ∷ []) k → k < length s.seen
    by k own (inl less) = less
    by k own (inr (inl e)) = absurd (clash (sym kind ∙ ap (λ (x : Row). x.kind) (sym (is_row k own e)) ∙ own.kind))
    by k own (inr (inr h)) = absurd h

-- ---- a nogood of one's own

pub publishes_at : (a : Account) (r : Row) (at o level : ℕ) (s t : Facts) (above : Pairs) → s.owner ≡ o → r.kind ≡ Nogood → r.owner ≡ o → StandsAt r at s t → Reaches s.seen r.parent above
    → above ≡ take level (path a) → (level_at a level).vertex ≡ Some r.vertex → Contains (level_at a level).refuted r.value → Publishes a o level r.value s.seen t.seen at
publishes_at a r at o level s t above is kind owner h reaches above_is vertex_is refuted =
    let placed = row_placed r at s t above h reaches in
    record {
      rest = h.grew.seen.0;
      front = h.grew.seen.1;
      behind = h.new_;
      within = omega (arith, h.last);
      only = λ k own. by k (own_new o s.seen t.seen (at ∷ []) h.grew.seen (subst (λ (n : ℕ). places n t.seen ≡ places n s.seen ++ at ∷ []) is h.mine) k own);
      nogood = record { row = r; row_is = h.row_is; kind = kind; owner_is = owner };
      vertex = r.vertex;
      vertex_is = vertex_is;
      refuted = refuted;
      path_is = placed.1 ∙ ap (λ (xs : Pairs). xs ++ (r.vertex, r.value) ∷ []) above_is;
    }
  where
    by : (k : ℕ) → (k < length s.seen) ⊎ Has (at ∷ []) k → (k < length s.seen) ⊎ (k ≡ at)
    by k (inl less) = inl less
    by k (inr (inl e)) = inr (sym e)
    by k (inr (inr h)) = absurd h

-- ---- the refuted values of a level

contained_or : (us : List ℕ) (t : ℕ) → Contains us t ⊎ NotAmong us t
contained_or [] t = inr tt
contained_or (u ∷ us) t = by (cases_eq u t) (contained_or us t)
  where
    by : (u ≡ t) ⊎ (u ≡ t → ⊥) → Contains us t ⊎ NotAmong us t → Contains (u ∷ us) t ⊎ NotAmong (u ∷ us) t
    by (inl is) rest = inl (0, omega arith, is)
    by (inr other) (inl c) = inl (suc c.0, omega (arith, c.1), c.2)
    by (inr other) (inr off) = inr (other, off)

-- a number that passes the test is among the members
pub passes_member : (f : ℕ → Bool) (n t : ℕ) (us : List ℕ) → members f n ≡ us → t < n → f t ≡ true → Contains us t
passes_member f n t us is t_in here = by (contained_or us t)
  where
    by : Contains us t ⊎ NotAmong us t → Contains us t
    by (inl c) = c
    by (inr off) = absurd (true≢false (sym here ∙ members_off f n t t_in (subst (λ (vs : List ℕ). NotAmong vs t) (sym is) off)))
