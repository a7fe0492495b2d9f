-- What rows that serve a seat tell of it, and what a seat knows that wrote a row by itself.
use Rattle.std.proofs.lemmas.Bool.{leb-true, le-leb}
use Rattle.std.proofs.lemmas.List.{take-append-drop, take_all}
use Rattle.std.specs.Prelude.{nat_le}
use Rattle.std.proofs.Common.{◌≡◌, inl, true, ℕ, ◌<◌, ◌≤◌, List, [], ◌∷◌, ◌++◌, length, take, drop, sym, ap, subst, ◌∙◌, refl, append-nil as append_nil, length-append, arith}
use Rattle.graph_theory.specs.Embedding.{Problem}
use Rattle.nogood_book.specs.declared.row.Row.{Row}
use Rattle.nogood_book.specs.Rows.{Sound, MayFollow}
use Rattle.nogood_book.specs.Places.{StartsWith, places}
use Rattle.nogood_book.specs.Facts.{Facts, Grew, CaughtUp, StandsAt}
use Rattle.nogood_book.proofs.Lists.{starts_same, starts_on, starts_length, get_seam, places-append, places_own, none_of_others}
use Rattle.nogood_book.proofs.Parts.{empty_of}
use Rattle.nogood_book.proofs.Paths.{sound_snoc, follow_more}
use Rattle.locked_shelf.specs.Shelf.{Held, ShelfView, IsKept, Serves, facts_of}

-- what stands behind a beginning, by the place where it ends
pub starts_drop : (rows seen : List Row) → StartsWith rows seen → seen ++ drop (length seen) rows ≡ rows
starts_drop rows seen s = let e = s.1 in sym (e ∙ ap (λ z. seen ++ z) (sym (ap (drop (length seen)) e ∙ gone seen s.0)))
  where
    gone : (xs ys : List Row) → drop (length xs) (xs ++ ys) ≡ ys
    gone [] ys = refl
    gone (x ∷ xs) ys = gone xs ys

-- a seat that serves itself
pub caught_alone : (s : ShelfView) → Sound s.problem s.seen → CaughtUp (facts_of s) (facts_of s)
caught_alone s h = record {
  grew = record { problem = refl; owner = refl; size = refl; seen = starts_same s.seen; sound = h; over = λ e. (e, refl) };
  mine = refl;
  looks = inl refl;
}

-- a seat that had seen as many rows as its book has room for has them still
shown_all : (s : ShelfView) (rows : List Row) → StartsWith rows s.seen → length rows ≤ s.most → s.most ≤ length s.seen → (nat_le s.most (length rows) ≡ true) × (rows ≡ s.seen)
shown_all s rows starts few whole =
    let none : length starts.0 ≡ 0 = omega (arith, few, whole, ap (λ (z : List Row). length z) starts.1, length-append s.seen starts.0) in (
      le-leb s.most (length rows) (omega (arith, whole, starts_length s.seen rows starts)),
      starts.1 ∙ (ap (λ (z : List Row). s.seen ++ z) (empty_of starts.0 none) ∙ append_nil s.seen),
    )

-- a seat that took up rows which serve it
pub caught_up : (h : Held) (s : ShelfView) → Sound h.problem h.rows → Serves h s → CaughtUp (facts_of s) (facts_of (record s { seen = h.rows }))
caught_up h s sound v =
    let P : Problem → Type 0 = λ q. Sound q h.rows in
    let e = starts_drop h.rows s.seen v.seen in record {
      grew = record { problem = refl; owner = refl; size = refl; seen = v.seen; sound = subst P v.problem sound; over = λ e. shown_all s h.rows v.seen v.few (leb-true s.most (length s.seen) e) };
      mine = ap (places s.owner) (sym e) ∙ (places-append s.owner s.seen (drop (length s.seen) h.rows)
          ∙ (ap (λ z. places s.owner s.seen ++ z) (none_of_others s.owner (length s.seen) (drop (length s.seen) h.rows) v.others) ∙ append_nil (places s.owner s.seen)));
      looks = inl refl;
    }

-- a seat that wrote a row behind what it had seen
pub placed_alone : (s : ShelfView) (r : Row) → IsKept s → r.owner ≡ s.owner → length s.seen < s.most → MayFollow s.problem s.seen r
    → StandsAt r (length s.seen) (facts_of s) (facts_of (record s { seen = s.seen ++ r ∷ [] }))
placed_alone s r k own room may = record {
  inside = omega (arith, room, k.limit);
  new_ = omega arith;
  grew = record { problem = refl; owner = refl; size = refl; seen = (r ∷ [], refl); sound = sound_snoc s.problem s.seen r k.sound may; over = λ e. absurd (omega (arith, room, leb-true s.most (length s.seen) e)) };
  row_is = get_seam s.seen [] (length s.seen) r refl;
  last = length-append s.seen (r ∷ []);
  mine = places_own s.owner s.seen r own;
  looks = refl;
}

-- what a row may follow it may still follow once a seat has caught up
pub may_still : (s t : Facts) (r : Row) → CaughtUp s t → MayFollow s.problem s.seen r → MayFollow t.problem t.seen r
may_still s t r h m =
    let P : List Row → Type 0 = λ z. MayFollow t.problem z r in
    let Q : Problem → Type 0 = λ z. MayFollow z (s.seen ++ h.grew.seen.0) r in
    subst P (sym h.grew.seen.1) (subst Q (sym h.grew.problem) (follow_more s.problem s.seen h.grew.seen.0 r m))

grew_on : (s t u : Facts) → Grew s t → Grew t u → Grew s u
grew_on s t u a b = record {
  problem = b.problem ∙ a.problem;
  owner = b.owner ∙ a.owner;
  size = b.size ∙ a.size;
  seen = starts_on s.seen t.seen u.seen a.seen b.seen;
  sound = b.sound;
  over = λ e. let m = a.over e in let n = b.over m.0 in (n.0, n.1 ∙ m.1);
}

-- rows that are the same as what was seen, as far as that goes, begin with it
pub starts_by_take : (rows seen : List Row) (k : ℕ) → take k rows ≡ take k seen → length seen ≤ k → StartsWith rows seen
starts_by_take rows seen k e h = (drop k rows, sym (take-append-drop k rows) ∙ ap (λ z. z ++ drop k rows) (e ∙ take_all k seen h))

-- rows that begin with one more of the seat's own are sound and no more than there is room for
pub kept_add : (s : ShelfView) (r : Row) (rows : List Row) → IsKept s → length s.seen < s.most → MayFollow s.problem s.seen r → rows ≡ s.seen ++ r ∷ [] → IsKept (record s { seen = rows })
kept_add s r rows k room may e =
    let P : List Row → Type 0 = Sound s.problem in record {
      sound = subst P (sym e) (sound_snoc s.problem s.seen r k.sound may);
      few = omega (arith, ap length e, length-append s.seen (r ∷ []));
      limit = k.limit;
    }

-- what may follow what the seat has seen may follow the rows that it has seen all of
pub may_behind : (h : Held) (s t : ShelfView) (r : Row) → CaughtUp (facts_of s) (facts_of t) → (t.problem ≡ h.problem) × (t.seen ≡ h.rows) → MayFollow s.problem s.seen r → MayFollow h.problem h.rows r
may_behind h s t r c e m =
    let P : Problem → Type 0 = λ q. MayFollow q h.rows r in
    let Q : List Row → Type 0 = λ z. MayFollow t.problem z r in
    subst P e.0 (subst Q e.1 (may_still (facts_of s) (facts_of t) r c m))

-- the same, where the seat and its place are known by equations
pub placed_at : (s t : ShelfView) (r : Row) (at : ℕ) (rows : List Row) → t ≡ s → IsKept t → r.owner ≡ s.owner → length s.seen < s.most → MayFollow s.problem s.seen r → at ≡ length t.seen
    → rows ≡ t.seen ++ r ∷ [] → StandsAt r at (facts_of s) (facts_of (record t { seen = rows }))
placed_at s t r at rows e k own room may n m =
    let O : ShelfView → Type 0 = λ z. r.owner ≡ z.owner in
    let R : ShelfView → Type 0 = λ z. length z.seen < z.most in
    let M : ShelfView → Type 0 = λ z. MayFollow z.problem z.seen r in
    let A : ℕ → Type 0 = λ z. StandsAt r z (facts_of t) (facts_of (record t { seen = rows })) in
    let S : ShelfView → Type 0 = λ z. StandsAt r at (facts_of z) (facts_of (record t { seen = rows })) in
    let W : List Row → Type 0 = λ z. StandsAt r (length t.seen) (facts_of t) (facts_of (record t { seen = z })) in
    subst S e (subst A (sym n) (subst W (sym m) (placed_alone t r k (subst O (sym e) own) (subst R (sym e) room) (subst M (sym e) may))))
