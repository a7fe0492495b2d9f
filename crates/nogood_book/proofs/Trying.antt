-- What a seat knows while it tries: rows of others have come into sight. And what it knows once it has found an unused word, written
-- its row, or seen all.
use Rattle.std.proofs.Common.{◌≡◌, ◌⊎◌, inl, inr, ℕ, ◌+◌, ◌-◌, ◌<◌, ◌≤◌, true, false, List, [], ◌∷◌, ◌++◌, length, sym, ap, subst, ◌∙◌, append_assoc, append-nil as append_nil, length-append, arith}
use Rattle.std.specs.Prelude.{Some, slice_get}
use Rattle.std.proofs.lemmas.Bool.{true≢false}
use Rattle.nogood_book.specs.declared.row.Row.{Row}
use Rattle.nogood_book.specs.declared.row.Published.{Published}
use Rattle.nogood_book.specs.declared.row.Published.TheVariants.{At, Full}
use Rattle.nogood_book.specs.declared.view.View.{View}
use Rattle.graph_theory.specs.Embedding.{Problem}
use Rattle.nogood_book.specs.Rows.{MayFollow}
use Rattle.nogood_book.specs.Places.{StartsWith, places}
use Rattle.nogood_book.specs.Facts.{Grew, CaughtUp, StandsAt, IsUsedUp, IsPlaced}
use Rattle.nogood_book.specs.Views.{Part, Told, looked, added}
use Rattle.nogood_book.specs.Plays.{Shown}
use Rattle.nogood_book.specs.Seats.{SeatName, KeepsOwn, IsHonest, IsSeatWith, HasSeenAll, SawMore, HasKept, IsAfterLook, IsAfterPlacing, IsInBook, seeing, facts_of}
use Rattle.nogood_book.proofs.Lists.{starts_on, starts_same, starts_length, get_seam, places_own}
use Rattle.nogood_book.proofs.Own.{none_own}
use Rattle.nogood_book.proofs.Paths.{follow_more}
use Rattle.nogood_book.proofs.Parts.{parts_live, empty_of}

-- the places of a view's owner are those that it knows
own_places : (v : View) → v.spent ≡ false → Shown v → places v.owner v.seen ≡ v.mine
own_places v live s = let P : List Part → Type 0 = Told v.seen in (subst P (parts_live v live) s.told).0

-- where rows are kept behind a list, a longer list of the book is none
own_cases : (most : ℕ) (v : View) (own seen : List Row) → KeepsOwn most v own → StartsWith seen v.seen → length seen ≤ most → (own ≡ []) ⊎ (seen ≡ v.seen)
own_cases most v own seen k more few = elim k.behind [
  | inl e ↦ inl e
  | inr e ↦ inr (let none : length more.0 ≡ 0 = omega (arith, e, few, ap (λ (z : List Row). length z) more.1, length-append v.seen more.0) in
      more.1 ∙ (ap (λ (z : List Row). v.seen ++ z) (empty_of more.0 none) ∙ append_nil v.seen))
]

-- and the rows kept stand behind either
behind_more : (v : View) (own seen : List Row) → StartsWith seen v.seen → (own ≡ []) ⊎ (seen ≡ v.seen) → StartsWith (seen ++ own) (v.seen ++ own)
behind_more v own seen more (inl e) =
    let P : List Row → Type 0 = λ z. StartsWith (seen ++ z) (v.seen ++ z) in
    let Q : List Row → Type 0 = λ z. StartsWith z (v.seen ++ []) in
    let R : List Row → Type 0 = λ z. StartsWith seen z in
    subst P (sym e) (subst Q (sym (append_nil seen)) (subst R (sym (append_nil v.seen)) more))
behind_more v own seen more (inr e) =
    let P : List Row → Type 0 = λ z. StartsWith (z ++ own) (v.seen ++ own) in
    subst P (sym e) (starts_same (v.seen ++ own))

-- where all rows of the book were seen no more come
all_same : (s u : SeatName) → HasSeenAll s → StartsWith u.view.seen s.view.seen → length u.view.seen + 1 ≤ s.table.words → u.view.seen ≡ s.view.seen
all_same s u all more few =
    let none : length more.0 ≡ 0 = omega (arith, all, few, ap (λ (z : List Row). length z) more.1, length-append s.view.seen more.0) in
    more.1 ∙ (ap (λ (z : List Row). s.view.seen ++ z) (empty_of more.0 none) ∙ append_nil s.view.seen)

few_of : (s : SeatName) → IsHonest s → length s.view.seen ≤ s.table.words - 1
few_of s h = omega (arith, h.few)

-- a seat that has seen more of the book has more rows
grew : (s u : SeatName) → u.table ≡ s.table → u.view.problem ≡ s.view.problem → u.view.owner ≡ s.view.owner → (s.ended ≡ true → u.ended ≡ true) → u.own ≡ s.own → StartsWith u.view.seen s.view.seen
    → IsHonest s → IsHonest u → Grew (facts_of s) (facts_of u)
grew s u t p o still w more h k = record {
  problem = p;
  owner = o;
  size = ap (λ z. z.words - 1) t;
  seen = subst (λ (z : List Row). StartsWith (u.view.seen ++ z) (s.view.seen ++ s.own)) (sym w)
      (behind_more s.view s.own u.view.seen more (own_cases (s.table.words - 1) s.view s.own u.view.seen h.own more (omega (arith, few_of u k, ap (λ z. z.words) t))));
  sound = k.own.sound;
  over = λ e. (
    still e,
    ap (λ (z : List Row). z ++ u.own) (all_same s u (h.over e) more (omega (arith, k.few, ap (λ z. z.words) t))) ∙ ap (λ (z : List Row). s.view.seen ++ z) w,
  );
}

-- rows of others leave an owner's places as they were, where its view knows no more of them
same_places : (s u : SeatName) → u.table ≡ s.table → u.view.owner ≡ s.view.owner → u.view.mine ≡ s.view.mine → u.own ≡ s.own → StartsWith u.view.seen s.view.seen → IsHonest s → IsHonest u
    → places s.view.owner (u.view.seen ++ u.own) ≡ places s.view.owner (s.view.seen ++ s.own)
same_places s u t o m w more h k =
    ap (λ (z : List Row). places s.view.owner (u.view.seen ++ z)) w
    ∙ by (own_cases (s.table.words - 1) s.view s.own u.view.seen h.own more (omega (arith, few_of u k, ap (λ z. z.words) t)))
  where
    alone : places s.view.owner u.view.seen ≡ places s.view.owner s.view.seen
    alone = ap (λ (n : ℕ). places n u.view.seen) (sym o) ∙ (own_places u.view k.live k.shown ∙ (m ∙ sym (own_places s.view h.live h.shown)))

    by : (s.own ≡ []) ⊎ (u.view.seen ≡ s.view.seen) → places s.view.owner (u.view.seen ++ s.own) ≡ places s.view.owner (s.view.seen ++ s.own)
    by (inl e) =
        let P : List Row → Type 0 = λ z. places s.view.owner (u.view.seen ++ z) ≡ places s.view.owner (s.view.seen ++ z) in
        subst P (sym e) (ap (λ (z : List Row). places s.view.owner z) (append_nil u.view.seen) ∙ (alone ∙ ap (λ (z : List Row). places s.view.owner z) (sym (append_nil s.view.seen))))
    by (inr e) = ap (λ (z : List Row). places s.view.owner (z ++ s.own)) e

-- ---- catching up

-- a look that found the next word unused
pub caught_by_look : (s t u : SeatName) → SawMore s t → IsSeatWith t u u.view → u.view ≡ looked t.view → IsHonest u → length t.view.seen + 1 < s.table.words
    → CaughtUp (facts_of s) (facts_of u) × IsAfterLook s u
caught_by_look s t u h same e now more =
    let view : u.view ≡ looked (seeing s.view t.view.seen) = e ∙ ap looked h.same.view in
    let seen : u.view.seen ≡ t.view.seen = ap (λ (v : View). v.seen) e in
    let table = same.table ∙ h.same.table in
    let own = same.own ∙ h.same.own in
    let ended = same.ended ∙ h.same.ended in
    let owner = ap (λ (v : View). v.owner) view in
    let starts = subst (λ (z : List Row). StartsWith z s.view.seen) (sym seen) h.more in
    let none : s.own ≡ [] = none_own (s.table.words - 1) s.view s.own h.before.own (omega (arith, more, starts_length s.view.seen t.view.seen h.more)) in
    let long : length t.view.seen ≡ length (u.view.seen ++ u.own) =
    sym (ap (λ (z : List Row). length (u.view.seen ++ z)) (own ∙ none) ∙ (ap (λ (z : List Row). length z) (append_nil u.view.seen) ∙ ap (λ (z : List Row). length z) seen)) in (
      record {
        grew = grew s u table (ap (λ (v : View). v.problem) view) owner (λ e. ended ∙ e) own starts h.before now;
        mine = same_places s u table owner (ap (λ (v : View). v.mine) view) own starts h.before now;
        looks = inl (ap (λ (v : View). Some v.looks) view ∙ ap (λ (n : ℕ). Some (s.view.looks ++ n ∷ [])) long);
      },
      inl (record {
        table = table;
        id = same.id ∙ h.same.id;
        view = view ∙ ap (λ (z : List Row). looked (seeing s.view z)) (sym seen);
        own = own;
        ended = ended;
      }),
    )

-- no look where all rows of the book are used and seen
pub caught_all : (s t : SeatName) → SawMore s t → HasSeenAll t → CaughtUp (facts_of s) (facts_of t) × IsAfterLook s t
caught_all s t h all =
    let owner = ap (λ (v : View). v.owner) h.same.view in (
      record {
        grew = grew s t h.same.table (ap (λ (v : View). v.problem) h.same.view) owner (λ e. h.same.ended ∙ e) h.same.own h.more h.before h.now;
        mine = same_places s t h.same.table owner (ap (λ (v : View). v.mine) h.same.view) h.same.own h.more h.before h.now;
        looks = inr (
          ap (λ (v : View). Some v.looks) h.same.view,
          omega (arith, all, ap (λ z. z.words) h.same.table, length-append t.view.seen t.own),
        );
      },
      inr (all, h.same),
    )

-- ---- publishing

-- a row that was written stands at its place
pub placed_by_add : (s t u : SeatName) (r : Row) (at : ℕ) → SawMore s t → IsSeatWith t u u.view → u.view ≡ added t.view r → IsHonest u → at ≡ length t.view.seen → at + 1 < s.table.words
    → StandsAt r at (facts_of s) (facts_of u) × IsInBook s u at
placed_by_add s t u r at h same e now here inside =
    let seen : u.view.seen ≡ t.view.seen ++ r ∷ [] = ap (λ (v : View). v.seen) e in
    let view : u.view ≡ record s.view { seen = u.view.seen; mine = s.view.mine ++ at ∷ [] } =
    e ∙ (ap (λ (v : View). added v r) h.same.view
    ∙ (λ i. record s.view { seen = sym seen i; mine = s.view.mine ++ sym here i ∷ [] })) in
    let more : StartsWith u.view.seen s.view.seen = starts_on s.view.seen t.view.seen u.view.seen h.more (r ∷ [], seen) in
    let table = same.table ∙ h.same.table in
    let own = same.own ∙ h.same.own in
    let ended = same.ended ∙ h.same.ended in
    let short = starts_length s.view.seen t.view.seen h.more in
    let none : s.own ≡ [] = none_own (s.table.words - 1) s.view s.own h.before.own (omega (arith, inside, here, short)) in
    let all : u.view.seen ++ u.own ≡ u.view.seen = ap (λ (z : List Row). u.view.seen ++ z) (own ∙ none) ∙ append_nil u.view.seen in
    let old : s.view.seen ++ s.own ≡ s.view.seen = ap (λ (z : List Row). s.view.seen ++ z) none ∙ append_nil s.view.seen in
    let owner = ap (λ (v : View). v.owner) view in (
      record {
        inside = omega (arith, inside, h.before.limit);
        new_ = omega (arith, short, here, ap (λ (z : List Row). length z) old);
        grew = grew s u table (ap (λ (v : View). v.problem) view) owner (λ e. ended ∙ e) own more h.before now;
        row_is = ap (λ (z : List Row). slice_get z at) (all ∙ seen) ∙ get_seam t.view.seen [] at r here;
        last = ap (λ (z : List Row). length z) (all ∙ seen) ∙ omega (arith, here, length-append t.view.seen (r ∷ []));
        mine = ap (λ (z : List Row). places s.view.owner z) all
            ∙ (ap (λ (z : ℕ). places z u.view.seen) (sym owner)
            ∙ (own_places u.view now.live now.shown
            ∙ (ap (λ (v : View). v.mine) view
            ∙ (ap (λ (z : List ℕ). z ++ at ∷ []) (sym (own_places s.view h.before.live h.before.shown))
            ∙ ap (λ (z : List Row). places s.view.owner z ++ at ∷ []) (sym old)))));
        looks = ap (λ (v : View). Some v.looks) view;
      },
      (inside, record { table = table; id = same.id ∙ h.same.id; view = view; own = own; ended = ended }),
    )

-- a row that the seat keeps for itself stands behind all others; and one that it does not keep, nowhere
pub placed_by_keep : (s t u : SeatName) (r : Row) (answer : Published) → SawMore s t → HasSeenAll t → HasKept r t u answer → IsHonest u → r.owner ≡ s.view.owner
    → IsPlaced r (facts_of s) (facts_of u) answer × IsAfterPlacing r s u answer
placed_by_keep s t u r (At at) h all kept now mine =
    let caught = caught_all s t h all in
    let same = kept.2 in
    let open_ : s.ended ≡ false = sym h.same.ended ∙ kept.1 in
    let view : u.view ≡ seeing s.view u.view.seen = same.view ∙ (h.same.view ∙ (λ i. seeing s.view (ap (λ (v : View). v.seen) (sym same.view) i))) in
    let seen : u.view.seen ≡ t.view.seen = ap (λ (v : View). v.seen) same.view in
    let rows : u.view.seen ++ u.own ≡ (t.view.seen ++ t.own) ++ r ∷ [] =
    ap (λ (z : List Row). z ++ u.own) seen ∙ (ap (λ (z : List Row). t.view.seen ++ z) same.own ∙ sym (append_assoc t.view.seen t.own (r ∷ []))) in
    let long = ap (λ (z : List Row). length z) rows ∙ length-append (t.view.seen ++ t.own) (r ∷ []) in
    let before = caught.0.grew in
    let here : at ≡ length (t.view.seen ++ t.own) = kept.0 in (
      record {
        inside = omega (arith, long, here, now.own.few);
        new_ = omega (arith, here, starts_length (s.view.seen ++ s.own) (t.view.seen ++ t.own) before.seen);
        grew = record {
          problem = ap (λ (v : View). v.problem) view;
          owner = ap (λ (v : View). v.owner) view;
          size = ap (λ z. z.words - 1) (same.table ∙ h.same.table);
          seen = starts_on (s.view.seen ++ s.own) (t.view.seen ++ t.own) (u.view.seen ++ u.own) before.seen (r ∷ [], rows);
          sound = now.own.sound;
          over = λ e. absurd (true≢false (sym e ∙ open_));
        };
        row_is = ap (λ (z : List Row). slice_get z at) rows ∙ get_seam (t.view.seen ++ t.own) [] at r here;
        last = long ∙ omega (arith, here);
        mine = ap (λ (z : List Row). places s.view.owner z) rows
            ∙ (places_own s.view.owner (t.view.seen ++ t.own) r mine
            ∙ (ap (λ (z : List ℕ). z ++ length (t.view.seen ++ t.own) ∷ []) caught.0.mine
            ∙ ap (λ (n : ℕ). places s.view.owner (s.view.seen ++ s.own) ++ n ∷ []) (sym here)));
        looks = ap (λ (v : View). Some v.looks) view;
      },
      inr (
        omega (arith, all, ap (λ (z : List Row). length z) seen, ap (λ z. z.words) same.table),
        here ∙ (ap (λ (z : List Row). length (z ++ t.own)) (sym seen) ∙ ap (λ (z : List Row). length (u.view.seen ++ z)) h.same.own),
        open_,
        record {
          table = same.table ∙ h.same.table;
          id = same.id ∙ h.same.id;
          view = view;
          own = same.own ∙ ap (λ (z : List Row). z ++ r ∷ []) h.same.own;
          ended = same.ended ∙ h.same.ended;
        },
      ),
    )
placed_by_keep s t u r Full h all kept now mine =
    let view : u.view ≡ seeing s.view u.view.seen = kept.view ∙ (h.same.view ∙ (λ i. seeing s.view (ap (λ (v : View). v.seen) (sym kept.view) i))) in
    let seen : u.view.seen ≡ t.view.seen = ap (λ (v : View). v.seen) kept.view in
    let more = subst (λ (z : List Row). StartsWith z s.view.seen) (sym seen) h.more in
    let table = kept.table ∙ h.same.table in
    let own = kept.own ∙ h.same.own in
    let owner = ap (λ (v : View). v.owner) view in
    let whole : HasSeenAll u = omega (arith, all, ap (λ (z : List Row). length z) seen, ap (λ z. z.words) kept.table) in (
      record {
        grew = grew s u table (ap (λ (v : View). v.problem) view) owner (λ e. kept.ended) own more h.before now;
        mine = same_places s u table owner (ap (λ (v : View). v.mine) view) own more h.before now;
        full = record {
          full = omega (arith, whole, length-append u.view.seen u.own);
          ended = kept.ended;
        };
        looks = ap (λ (v : View). Some v.looks) view;
      },
      (whole, record { table = table; id = kept.id ∙ h.same.id; view = view; own = own; ended = kept.ended }),
    )

-- where all rows of the book are used and seen, no row is published
pub used_up : (s t : SeatName) → SawMore s t → HasSeenAll t → IsUsedUp (facts_of s) (facts_of t)
used_up s t h all =
    let caught = (caught_all s t h all).0 in
    let owner = ap (λ (v : View). v.owner) h.same.view in
    record {
      grew = caught.grew;
      mine = same_places s t h.same.table owner (ap (λ (v : View). v.mine) h.same.view) h.same.own h.more h.before h.now;
      full = omega (arith, all, ap (λ z. z.words) h.same.table, length-append t.view.seen t.own);
      looks = ap (λ (v : View). Some v.looks) h.same.view;
    }

-- what might follow still may
pub may_still : (s t : SeatName) (r : Row) → SawMore s t → length t.view.seen + 1 < s.table.words → MayFollow s.view.problem (s.view.seen ++ s.own) r → MayFollow t.view.problem t.view.seen r
may_still s t r h more m =
    let none : s.own ≡ [] = none_own (s.table.words - 1) s.view s.own h.before.own (omega (arith, more, starts_length s.view.seen t.view.seen h.more)) in
    let old : s.view.seen ++ s.own ≡ s.view.seen = ap (λ (z : List Row). s.view.seen ++ z) none ∙ append_nil s.view.seen in
    let O : List Row → Type 0 = λ z. MayFollow s.view.problem z r in
    let P : List Row → Type 0 = λ z. MayFollow t.view.problem z r in
    let Q : Problem → Type 0 = λ z. MayFollow z (s.view.seen ++ h.more.0) r in
    subst P (sym h.more.1) (subst Q (sym (ap (λ (v : View). v.problem) h.same.view)) (follow_more s.view.problem s.view.seen h.more.0 r (subst O old m)))

-- and it may follow all that the seat has
pub may_follow_all : (s t : SeatName) (r : Row) → SawMore s t → HasSeenAll t → MayFollow s.view.problem (s.view.seen ++ s.own) r → MayFollow t.view.problem (t.view.seen ++ t.own) r
may_follow_all s t r h all m =
    let g = (caught_all s t h all).0.grew in
    let P : List Row → Type 0 = λ z. MayFollow t.view.problem z r in
    let Q : Problem → Type 0 = λ z. MayFollow z ((s.view.seen ++ s.own) ++ g.seen.0) r in
    subst P (sym g.seen.1) (subst Q (sym g.problem) (follow_more s.view.problem (s.view.seen ++ s.own) g.seen.0 r m))
