-- What the first seat knows as it takes in the seats that were split from it.
use Rattle.std.proofs.Common.{◌≡◌, inl, inr, ℕ, zero, suc, ◌+◌, ◌<◌, ◌≤◌, Bool, true, false, eq-eqb, List, [], ◌∷◌, ◌++◌, length, refl, sym, ap, subst, ◌∙◌, arith, ◌⊎◌}
use Rattle.std.specs.Prelude.{if◌then◌else◌, ◌==◌, ◌≢◌, All, None, Some, slice_get}
use Rattle.std.proofs.lemmas.Bool.{cases_lt, true≢false}
use Rattle.graph_theory.specs.Embedding.{Problem}
use Rattle.nogood_book.specs.declared.row.Row.{Row}
use Rattle.nogood_book.specs.declared.view.View.{View}
use Rattle.nogood_book.specs.Rows.{Sound}
use Rattle.nogood_book.specs.Places.{place_or, places, places_from}
use Rattle.nogood_book.specs.Facts.{Facts}
use Rattle.nogood_book.specs.Seats.{SeatName, Gathered, IsHonest, IsSeatWith, facts_of}
use Rattle.nogood_book.specs.Views.{Part, parts, Told, HasPart, HasNumber, Owned, gathers, maker}
use Rattle.nogood_book.proofs.Lists.{starts_on}
use Rattle.restart_search.specs.Sharing.{IsSeatFor}
use Rattle.restart_search.proofs.Noting.{beside_caught, past_seam}
use Rattle.proof_logger.specs.Logging.{IsNogoodBy, EndsInOwn, GrowsBeside}
use Rattle.restart_search.specs.Searching.{Search}
use Rattle.parallel_solve.specs.Teaming.{AreBelow}
use Rattle.parallel_solve.proofs.Numbers.{below_next}
use Rattle.proof_collection.specs.Making.{AreBy}
use Rattle.parallel_solve.specs.Gathering.{HasMade, TookIn, Keeps, RowsCame}
use Rattle.parallel_solve.proofs.Runs.{at_place}

-- ---- the owners that a view answers for

-- a view that is not spent answers for its owner and for those gathered
parts_live : (v : View) → v.spent ≡ false → parts v ≡ (v.owner, v.mine) ∷ v.gathered
parts_live v live = let P : Bool → List Part = λ b. if b then [] else (v.owner, v.mine) ∷ v.gathered in ap P live

parts_gathers : (v w : View) → v.spent ≡ false → parts (gathers v w) ≡ parts v ++ parts w
parts_gathers v w live = parts_live (gathers v w) live ∙ ap (λ z. z ++ parts w) (sym (parts_live v live))

part_left : (o : ℕ) (xs ys : List Part) → HasPart o xs → HasPart o (xs ++ ys)
part_left o [] ys h = absurd h
part_left o (x ∷ xs) ys (inl e) = inl e
part_left o (x ∷ xs) ys (inr h) = inr (part_left o xs ys h)

part_right : (o : ℕ) (xs ys : List Part) → HasPart o ys → HasPart o (xs ++ ys)
part_right o [] ys h = h
part_right o (x ∷ xs) ys h = inr (part_right o xs ys h)

told_left : (rows : List Row) (xs ys : List Part) → Told rows (xs ++ ys) → Told rows xs
told_left rows [] ys h = tt
told_left rows (x ∷ xs) ys h = (h.0, told_left rows xs ys h.1)

told_right : (rows : List Row) (xs ys : List Part) → Told rows (xs ++ ys) → Told rows ys
told_right rows [] ys h = h
told_right rows (x ∷ xs) ys h = told_right rows xs ys h.1

-- an owner of whom two lists of rows are told alike has the same places in both
same_told : (o : ℕ) (rows more : List Row) (ps : List Part) → Told rows ps → Told more ps → HasPart o ps → places o more ≡ places o rows
same_told o rows more [] h k has = absurd has
same_told o rows more (p ∷ ps) h k (inl e) = let P : ℕ → Type 0 = λ n. places n more ≡ places n rows in subst P e (k.0 ∙ sym h.0)
same_told o rows more (p ∷ ps) h k (inr has) = same_told o rows more ps h.1 k.1 has

-- ---- one seat more

parts_new : (into from new : View) → into.spent ≡ false → Gathered into from new → parts new ≡ parts into ++ parts from
parts_new into from new live g = ap parts g.view_is ∙ parts_gathers into from live

told_new : (into from new : View) → into.spent ≡ false → Gathered into from new → Told new.seen (parts into ++ parts from)
told_new into from new live g = let P : List Part → Type 0 = Told new.seen in subst P (parts_new into from new live g) g.told

-- the seat is taken in
pub took_in : (s t u : SeatName) → IsHonest s → IsHonest t → Gathered s.view t.view u.view → TookIn t u
took_in s t u into from g =
    let v = s.view in
    let w = t.view in
    let new = u.view in
    let P : List Part → Type 0 = HasPart w.owner in
    let own : HasPart w.owner (parts w) = subst P (sym (parts_live w from.live)) (inl refl) in
    record {
      seen = g.second;
      part = subst P (sym (parts_new v w new into.live g)) (part_right w.owner (parts v) (parts w) own);
      none_own = same_told w.owner w.seen new.seen (parts w) from.shown.told (told_right new.seen (parts v) (parts w) (told_new v w new into.live g)) own;
      own = from.own.owners;
    }

-- the seats that were taken in before still are
still_in : (s t r : SeatName) (w : View) → IsHonest s → Gathered s.view w t.view → TookIn r s → TookIn r t
still_in s t r w into g h =
    let v = s.view in
    let new = t.view in
    let u = r.view in
    let P : List Part → Type 0 = HasPart u.owner in
    record {
      seen = starts_on u.seen v.seen new.seen h.seen g.first;
      part = subst P (sym (parts_new v w new into.live g)) (part_left u.owner (parts v) (parts w) h.part);
      none_own = same_told u.owner v.seen new.seen (parts v) into.shown.told (told_left new.seen (parts v) (parts w) (told_new v w new into.live g)) h.part ∙ h.none_own;
      own = h.own;
    }

still_made : (n : ℕ) (s t : SeatName) (w : View) → t.view ≡ gathers s.view w → t.own ≡ [] → HasMade n s → HasMade n t
still_made n s t w is none h = record {
  first = ap (λ (v : View). v.first) is ∙ h.first;
  owner_is = ap (λ (v : View). v.owner) is ∙ h.owner_is;
  none_own = ap (λ (v : View). v.mine) is ∙ h.none_own;
  alone = none;
  below = subst (λ (v : View). AreBelow v.made n) (sym is) h.below;
}

pub keeps : (s t : SeatName) (w : View) → IsHonest s → t.own ≡ [] → Gathered s.view w t.view → Keeps s t
keeps s t w into none g = record {
  made = λ n h. still_made n s t w g.view_is none h;
  taken = λ u h. still_in s t u w into g h;
}

-- ---- one owner more

pub made_next : (n : ℕ) (s t : SeatName) → IsSeatWith s t (maker n s.view) → HasMade n s → HasMade (n + 1) t
made_next n s t is h = record {
  first = ap (λ (v : View). v.first) is.view ∙ h.first;
  owner_is = ap (λ (v : View). v.owner) is.view ∙ h.owner_is;
  none_own = ap (λ (v : View). v.mine) is.view ∙ h.none_own;
  alone = is.own ∙ h.alone;
  below = subst (λ (v : View). AreBelow v.made (n + 1)) (sym is.view) (let l : n < n + 1 = omega arith in (l, below_next s.view.made n h.below));
}

-- ---- once all are taken in

-- the rows that came to those of a seat are beside its owner
beside_taken : (q : Problem) (from s : SeatName) → Sound q s.view.seen → TookIn from s → GrowsBeside from.view.owner from.view.seen s.view.seen
beside_taken q from s sound t = beside_caught from.view.owner (shown from.view.seen) (shown s.view.seen) refl (record {
  grew = record { problem = refl; owner = refl; size = refl; seen = t.seen; sound = sound; over = λ e. absurd (true≢false (sym e)) };
  mine = t.none_own;
  looks = inl refl;
})
  where
    shown : List Row → Facts
    shown rows = record { problem = q; owner = from.view.owner; size = 0; seen = rows; looks = None; ended = false }

-- a nogood of another is not among rows of an owner
ends_in_own : (o : ℕ) (rows own : List Row) → All (λ r. r.owner ≡ o) own → EndsInOwn o rows (rows ++ own)
ends_in_own o rows own all = record {
  rest = own;
  front = refl;
  none_of_others = λ k p apart n. by k p apart n (cases_lt k (length rows));
}
  where
    by : (k p : ℕ) → p ≢ o → IsNogoodBy p (rows ++ own) k → (k < length rows) ⊎ (length rows ≤ k) → k < length rows
    by k p apart n (inl less) = less
    by k p apart n (inr past) =
        let h = past_seam rows own k n.row n.row_is past in
        absurd (apart (sym n.owner_is ∙ at_place (λ (r : Row). r.owner ≡ o) own h.0 n.row all h.1))

-- so it is for what the worker at that seat shows
pub rows_came : {K : Type 0} (q : Problem) (w : Search SeatName K) (t : SeatName) → IsSeatFor q w.number w.facts → w.facts ≡ facts_of w.seat → IsHonest t → TookIn w.seat t → RowsCame t.view.seen w
rows_came q w t seat is honest taken =
    let s = w.seat in
    let owner : s.view.owner ≡ w.number = sym (ap (λ (z : Facts). z.owner) is) ∙ seat.owner_is in
    record {
      own = subst (λ (z : List Row). EndsInOwn w.number s.view.seen z) (sym (ap (λ (z : Facts). z.seen) is))
          (subst (λ (z : ℕ). EndsInOwn z s.view.seen (s.view.seen ++ s.own)) owner (ends_in_own s.view.owner s.view.seen s.own taken.own));
      came = subst (λ (z : ℕ). GrowsBeside z s.view.seen t.view.seen) owner (beside_taken t.view.problem s t honest.shown.sound taken);
    }

-- an owner with a row has a place
no_row : (at o : ℕ) (rows : List Row) (k : ℕ) (r : Row) → places_from at o rows ≡ [] → slice_get rows k ≡ Some r → r.owner ≡ o → ⊥
no_row at o [] k r none here own = cc
no_row at o (x ∷ xs) zero r none here own =
    let same : x ≡ r = cc in
    let is = eq-eqb x.owner o (ap (λ (y : Row). y.owner) same ∙ own) in
    let some : at ∷ places_from (at + 1) o xs ≡ [] = ap (λ b. place_or b at (places_from (at + 1) o xs)) (sym is) ∙ none in
    cc
no_row at o (x ∷ xs) (suc k) r none here own = by (x.owner == o) none (λ e. no_row (at + 1) o xs k r e here own)
  where
    by : (b : Bool) → place_or b at (places_from (at + 1) o xs) ≡ [] → (places_from (at + 1) o xs ≡ [] → ⊥) → ⊥
    by true e n = cc
    by false e n = n e

is_below : (xs : List ℕ) (n o : ℕ) → AreBelow xs n → HasNumber o xs → o < n
is_below [] n o h has = absurd has
is_below (x ∷ xs) n o h (inl same) = let l : x < n = h.0 in omega (arith, l, same)
is_below (x ∷ xs) n o h (inr later) = is_below xs n o h.1 later

owned_at : (made : List ℕ) (rows : List Row) (k : ℕ) (r : Row) → Owned made rows → slice_get rows k ≡ Some r → HasNumber r.owner made
owned_at made [] k r h here = cc
owned_at made (x ∷ xs) zero r h here = let same : x ≡ r = cc in let P : Row → Type 0 = λ z. HasNumber z.owner made in subst P same h.0
owned_at made (x ∷ xs) (suc k) r h here = owned_at made xs k r h.1 here

-- each row that the first seat has seen is of an owner made, and not its own
pub authors : (n : ℕ) (s : SeatName) → IsHonest s → HasMade (n + 1) s → AreBy n s.view.seen
authors n s honest made k r here = by (cases_lt 0 r.owner)
  where
    v : View
    v = s.view

    below : r.owner < n + 1
    below = is_below v.made (n + 1) r.owner made.below (owned_at v.made v.seen k r (honest.shown.owned made.first) here)

    told : Told v.seen ((v.owner, v.mine) ∷ v.gathered)
    told = let P : List Part → Type 0 = Told v.seen in subst P (parts_live v honest.live) honest.shown.told

    none : places_from 0 v.owner v.seen ≡ []
    none = told.0 ∙ made.none_own

    by : (0 < r.owner) ⊎ (r.owner ≤ 0) → (0 < r.owner) × (r.owner ≤ n)
    by (inl some) = (some, omega (arith, below))
    by (inr zero_) = absurd (no_row 0 v.owner v.seen k r none here (let e : r.owner ≡ 0 = omega (arith, zero_) in e ∙ sym made.owner_is))
