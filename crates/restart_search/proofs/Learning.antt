-- What an owner has learned, as rows come: exactly what its position has refuted.

use Rattle.std.proofs.Common.{◌≡◌, ℕ, zero, suc, ◌+◌, ◌<◌, ◌≤◌, Bool, true, false, List, [], ◌∷◌, ◌++◌, length, map, take, Option, Some, None, OnOk, Result, Ok, Err, refl, sym, ap, ◌∙◌, subst, arith, append_assoc, ◌⊎◌, inl, inr}
use Rattle.std.specs.Prelude.{slice_get, ◌==◌, if◌then◌else◌}
use Rattle.std.proofs.lemmas.Bool.{cases_lt, cases_eq}
use Rattle.std.proofs.lemmas.List.{append-nil, map-append}
use Rattle.graph_theory.specs.Neighbours.{members}
use Rattle.bit_rows.specs.BitRows.{has}
use Rattle.search_theory.specs.Account.{Account, Step as Level, path, path_of, level_at, level_among}
use Rattle.nogood_book.specs.declared.row.Row.{Row}
use Rattle.nogood_book.specs.declared.row.RowKind.{RowKind}
use Rattle.nogood_book.specs.declared.row.RowKind.TheVariants.{Step, Nogood}
use Rattle.nogood_book.specs.Rows.{Pairs, path_at}
use Rattle.nogood_book.specs.Places.{StartsWith, place_or, places, places_from}
use Rattle.nogood_book.specs.Facts.{Facts, CaughtUp, IsFull, StandsAt, Grew, HasEnded}
use Rattle.nogood_book.specs.Reaching.{Reaches}
use Rattle.nogood_book.proofs.Lists.{get_front, starts_length}
use Rattle.nogood_book.proofs.Reaching.{path_stays, row_placed}
use Rattle.restart_search.specs.Sharing.{Went, if_nogood, nogood_of, nogoods_at, learned_by, refuted_at, refuted_below, refuted_in, LearnsFirst, HasLearned}
use Rattle.restart_search.proofs.Publishing.{no_vertex_after, ended_on}

-- ---- the nogoods at places

nogoods-append : (rows : List Row) (ks ls : List ℕ) → nogoods_at rows (ks ++ ls) ≡ nogoods_at rows ks ++ nogoods_at rows ls
nogoods-append rows [] ls = refl
nogoods-append rows (k ∷ ks) ls =
    ap (λ (zs : List Pairs). nogood_of (slice_get rows k) (path_at rows k) ++ zs) (nogoods-append rows ks ls)
    ∙ sym (append_assoc (nogood_of (slice_get rows k) (path_at rows k)) (nogoods_at rows ks) (nogoods_at rows ls))

abbrev AllBelow : ℕ → List ℕ → Type 0
AllBelow n [] = Unit {0}
AllBelow n (k ∷ ks) = (k < n) × AllBelow n ks

-- an owner's places are rows'
places_below : (at o : ℕ) (rows : List Row) → AllBelow (at + length rows) (places_from at o rows)
places_below at o [] = tt
places_below at o (r ∷ rs) = by (r.owner == o) (subst (λ (n : ℕ). AllBelow n (places_from (at + 1) o rs)) next (places_below (at + 1) o rs))
  where
    next : (at + 1) + length rs ≡ at + length (r ∷ rs)
    next = omega arith

    by : (b : Bool) → AllBelow (at + length (r ∷ rs)) (places_from (at + 1) o rs) → AllBelow (at + length (r ∷ rs)) (place_or b at (places_from (at + 1) o rs))
    by false rest = rest
    by true rest = (omega arith, rest)

-- what stands at them stays as rows follow
nogoods_stay : (rows more : List Row) (ks : List ℕ) → StartsWith more rows → AllBelow (length rows) ks → nogoods_at more ks ≡ nogoods_at rows ks
nogoods_stay rows more [] s below = refl
nogoods_stay rows more (k ∷ ks) s below =
    let row_is : slice_get more k ≡ slice_get rows k = ap (λ (zs : List Row). slice_get zs k) s.1 ∙ get_front rows s.0 k below.0 in
    ap (λ (r : Option Row). nogood_of r (path_at more k) ++ nogoods_at more ks) row_is
    ∙ (ap (λ (xs : Pairs). nogood_of (slice_get rows k) xs ++ nogoods_at more ks) (path_stays rows more k below.0 s)
    ∙ ap (λ (zs : List Pairs). nogood_of (slice_get rows k) (path_at rows k) ++ zs) (nogoods_stay rows more ks s below.1))

learned_stays : (o : ℕ) (rows more : List Row) → StartsWith more rows → nogoods_at more (places o rows) ≡ learned_by o rows
learned_stays o rows more s =
    let from_none : 0 + length rows ≡ length rows = omega arith in
    nogoods_stay rows more (places o rows) s (subst (λ (n : ℕ). AllBelow n (places o rows)) from_none (places_below 0 o rows))

-- where the owner has no new row
pub learned_same : (o : ℕ) (rows more : List Row) → StartsWith more rows → places o more ≡ places o rows → learned_by o more ≡ learned_by o rows
learned_same o rows more s same = ap (nogoods_at more) same ∙ learned_stays o rows more s

-- where it has one
learned_one : (o at : ℕ) (rows more : List Row) (r : Row) (xs : Pairs) → StartsWith more rows → places o more ≡ places o rows ++ at ∷ []
    → slice_get more at ≡ Some r → path_at more at ≡ xs → learned_by o more ≡ learned_by o rows ++ if_nogood r.kind xs
learned_one o at rows more r xs s mine row_is path_is =
    ap (nogoods_at more) mine ∙ (nogoods-append more (places o rows) (at ∷ [])
    ∙ (ap (λ (zs : List Pairs). zs ++ nogoods_at more (at ∷ [])) (learned_stays o rows more s) ∙ ap (λ (zs : List Pairs). learned_by o rows ++ zs) last))
  where
    last : nogoods_at more (at ∷ []) ≡ if_nogood r.kind xs
    last =
        ap (λ (found : Option Row). nogood_of found (path_at more at) ++ []) row_is
        ∙ (ap (λ (ys : Pairs). if_nogood r.kind ys ++ []) path_is ∙ append-nil (if_nogood r.kind xs))

-- ---- a row

-- a nogood that is published is learned
pub learned_nogood : (r : Row) (at o : ℕ) (s t : Facts) (above : Pairs) → StandsAt r at s t → Reaches s.seen r.parent above → r.kind ≡ Nogood → s.owner ≡ o
    → learned_by o t.seen ≡ learned_by o s.seen ++ (above ++ (r.vertex, r.value) ∷ []) ∷ []
learned_nogood r at o s t above h reaches kind owner =
    let xs = above ++ (r.vertex, r.value) ∷ [] in
    let placed = row_placed r at s t above h reaches in
    subst (λ (k : RowKind). learned_by o t.seen ≡ learned_by o s.seen ++ if_nogood k xs) kind
    (learned_one o at s.seen t.seen r xs h.grew.seen (subst (λ (n : ℕ). places n t.seen ≡ places n s.seen ++ at ∷ []) owner h.mine) placed.0 placed.1)

-- by a step nothing is
pub learned_step : (r : Row) (at o : ℕ) (s t : Facts) (above : Pairs) → StandsAt r at s t → Reaches s.seen r.parent above → r.kind ≡ Step → s.owner ≡ o → learned_by o t.seen ≡ learned_by o s.seen
learned_step r at o s t above h reaches kind owner =
    let xs = above ++ (r.vertex, r.value) ∷ [] in
    let placed = row_placed r at s t above h reaches in
    subst (λ (k : RowKind). learned_by o t.seen ≡ learned_by o s.seen ++ if_nogood k xs) kind
    (learned_one o at s.seen t.seen r xs h.grew.seen (subst (λ (n : ℕ). places n t.seen ≡ places n s.seen ++ at ∷ []) owner h.mine) placed.0 placed.1)
    ∙ append-nil (learned_by o s.seen)

-- nor where there is no room for it
pub learned_full : (o : ℕ) (s t : Facts) → IsFull s t → s.owner ≡ o → learned_by o t.seen ≡ learned_by o s.seen
learned_full o s t h owner = learned_same o s.seen t.seen h.grew.seen (subst (λ (n : ℕ). places n t.seen ≡ places n s.seen) owner h.mine)

-- ---- the first ones of some paths

-- all of them
pub first_all : (o : ℕ) (rows more : List Row) (xs : List Pairs) → learned_by o more ≡ learned_by o rows ++ xs → LearnsFirst o rows more xs
first_all o rows more xs is = ([], sym is ∙ sym (append-nil (learned_by o more)))

-- all of some that others follow, and of these the first ones
pub first_more : (o : ℕ) (rows mid more : List Row) (xs ys rest all : List Pairs) → learned_by o mid ≡ learned_by o rows ++ xs → LearnsFirst o mid more ys → all ≡ (xs ++ ys) ++ rest
    → LearnsFirst o rows more all
first_more o rows mid more xs ys rest all before h split = (
  h.0 ++ rest,
  ap (λ (zs : List Pairs). learned_by o rows ++ zs) split
      ∙ (sym (append_assoc (learned_by o rows) (xs ++ ys) rest)
      ∙ (ap (λ (zs : List Pairs). zs ++ rest) (sym (append_assoc (learned_by o rows) xs ys) ∙ (ap (λ (zs : List Pairs). zs ++ ys) (sym before) ∙ h.1))
      ∙ append_assoc (learned_by o more) h.0 rest)),
)

-- ---- a level

-- the members below a number are the first ones of those below a greater one
members_front : (f : ℕ → Bool) (a b : ℕ) → a ≤ b → (rest : List ℕ) × (members f b ≡ members f a ++ rest)
members_front f a zero le = let none_left : zero ≡ a = omega (arith, le) in ([], ap (members f) none_left ∙ sym (append-nil (members f a)))
members_front f a (suc b) le = by (members_front f a b) (cases_eq a (suc b))
  where
    last : List ℕ
    last = if f b then b ∷ [] else []

    by : (a ≤ b → (rest : List ℕ) × (members f b ≡ members f a ++ rest)) → (a ≡ suc b) ⊎ (a ≡ suc b → ⊥) → (rest : List ℕ) × (members f (suc b) ≡ members f a ++ rest)
    by earlier (inl is) = ([], sym (ap (members f) is) ∙ sym (append-nil (members f a)))
    by earlier (inr other) =
        let r = earlier (omega (arith, le, other)) in
        (r.0 ++ last, ap (λ (us : List ℕ). us ++ last) r.1 ∙ append_assoc (members f a) r.0 last)

-- before its last value the first ones of a level are learned
pub level_first_ones : (o : ℕ) (rows mid more : List Row) (above : Pairs) (p : ℕ) (f : ℕ → Bool) (t n : ℕ) → learned_by o mid ≡ learned_by o rows ++ refuted_at above (Some p) (members f t)
    → learned_by o more ≡ learned_by o mid → t ≤ n → LearnsFirst o rows more (refuted_at above (Some p) (members f n))
level_first_ones o rows mid more above p f t n before same le =
    let r = members_front f t n le in (
      map of r.0,
      ap (λ (zs : List Pairs). learned_by o rows ++ zs) (ap (map of) r.1 ∙ map-append of (members f t) r.0)
          ∙ (sym (append_assoc (learned_by o rows) (map of (members f t)) (map of r.0)) ∙ ap (λ (zs : List Pairs). zs ++ map of r.0) (sym before ∙ sym same)),
    )
  where
    of : ℕ → Pairs
    of u = above ++ (p, u) ∷ []

members_skip : (f : ℕ → Bool) (a b : ℕ) → a ≤ b → ((i : ℕ) → a ≤ i → i < b → f i ≡ false) → members f b ≡ members f a
members_skip f a zero le none = let none_left : zero ≡ a = omega (arith, le) in ap (members f) none_left
members_skip f a (suc b) le none = by (members_skip f a b) (cases_eq a (suc b))
  where
    step : (x : Bool) → x ≡ false → members f b ++ (if x then b ∷ [] else []) ≡ members f b
    step true h = cc
    step false h = append-nil (members f b)

    by : (a ≤ b → ((i : ℕ) → a ≤ i → i < b → f i ≡ false) → members f b ≡ members f a) → (a ≡ suc b) ⊎ (a ≡ suc b → ⊥) → members f (suc b) ≡ members f a
    by earlier (inl is) = sym (ap (members f) is)
    by earlier (inr other) = step (f b) (none b (omega (arith, le, other)) (omega arith)) ∙ earlier (omega (arith, le, other)) (λ i low high. none i low (omega (arith, high)))

-- what is no member of a row is none
pub has_none : (row : List ℕ) (i : ℕ) → (has row i ≡ true → ⊥) → has row i ≡ false
has_none row i never = by (has row i) never
  where
    by : (b : Bool) → (b ≡ true → ⊥) → b ≡ false
    by false n = refl
    by true n = absurd (n refl)

-- past all members their list is the same
members_past : (f : ℕ → Bool) (a b : ℕ) → ((i : ℕ) → a ≤ i → f i ≡ false) → ((i : ℕ) → b ≤ i → f i ≡ false) → members f a ≡ members f b
members_past f a b past_a past_b = by (cases_lt a b)
  where
    by : (a < b) ⊎ (b ≤ a) → members f a ≡ members f b
    by (inl less) = sym (members_skip f a b (omega (arith, less)) (λ i low high. past_a i low))
    by (inr least) = members_skip f b a least (λ i low high. past_b i low)

-- before its first value nothing of the level is learned
pub level_first : (old : List Pairs) (above : Pairs) (p : ℕ) (f : ℕ → Bool) (t : ℕ) → ((u : ℕ) → 0 ≤ u → u < t → f u ≡ false) → old ≡ old ++ refuted_at above (Some p) (members f t)
level_first old above p f t none =
    sym (ap (λ (us : List ℕ). old ++ refuted_at above (Some p) us) (members_skip f 0 t (omega arith) none) ∙ append-nil old)

-- with each value one path more
pub level_next : (old mid new : List Pairs) (above : Pairs) (p : ℕ) (f : ℕ → Bool) (t next : ℕ) → mid ≡ old ++ refuted_at above (Some p) (members f t)
    → new ≡ mid ++ (above ++ (p, t) ∷ []) ∷ [] → f t ≡ true → t + 1 ≤ next → ((u : ℕ) → t + 1 ≤ u → u < next → f u ≡ false) → new ≡ old ++ refuted_at above (Some p) (members f next)
level_next old mid new above p f t next before one here le none =
    one ∙ (ap (λ (zs : List Pairs). zs ++ of t ∷ []) before ∙ (append_assoc old (map of (members f t)) (of t ∷ [])
    ∙ ap (λ (zs : List Pairs). old ++ zs) (sym (ap (map of) next_is ∙ map-append of (members f t) (t ∷ [])))))
  where
    of : ℕ → Pairs
    of u = above ++ (p, u) ∷ []

    next_is : members f next ≡ members f t ++ t ∷ []
    next_is =
        members_skip f (suc t) next (omega (arith, le)) (λ i low high. none i (omega (arith, low)) high)
        ∙ ap (λ (b : Bool). members f t ++ (if b then t ∷ [] else [])) here

-- past its last value all of it is
pub level_end : (old new : List Pairs) (above : Pairs) (p : ℕ) (f : ℕ → Bool) (t n : ℕ) → new ≡ old ++ refuted_at above (Some p) (members f t)
    → ((i : ℕ) → t ≤ i → f i ≡ false) → ((i : ℕ) → n ≤ i → f i ≡ false) → new ≡ old ++ refuted_at above (Some p) (members f n)
level_end old new above p f t n all past_t past_n = all ∙ ap (λ (us : List ℕ). old ++ refuted_at above (Some p) us) (members_past f t n past_t past_n)

-- ---- the levels

-- what a level has refuted, as its account tells
level_as : (above : Pairs) (i p : ℕ) (us : List ℕ) (a : Account) → above ≡ take i (path a) → (level_at a i).vertex ≡ Some p → us ≡ (level_at a i).refuted
    → refuted_at above (Some p) us ≡ refuted_at (take i (path a)) (level_at a i).vertex (level_at a i).refuted
level_as above i p us a above_is vertex us_are =
    ap (λ (xs : Pairs). refuted_at xs (Some p) us) above_is
    ∙ (ap (λ (v : Option ℕ). refuted_at (take i (path a)) v us) (sym vertex) ∙ ap (refuted_at (take i (path a)) (level_at a i).vertex) us_are)

-- one level more
pub below_more : (a : Account) (old mid next new : List Pairs) (above : Pairs) (i p : ℕ) (us : List ℕ) → mid ≡ old ++ refuted_below a i → next ≡ mid ++ refuted_at above (Some p) us → new ≡ next
    → above ≡ take i (path a) → (level_at a i).vertex ≡ Some p → us ≡ (level_at a i).refuted → new ≡ old ++ refuted_below a (i + 1)
below_more a old mid next new above i p us before level guess above_is vertex us_are =
    guess ∙ (level ∙ (ap (λ (zs : List Pairs). zs ++ refuted_at above (Some p) us) before ∙ (append_assoc old (refuted_below a i) (refuted_at above (Some p) us)
    ∙ ap (λ (zs : List Pairs). old ++ zs) (ap (λ (zs : List Pairs). refuted_below a i ++ zs) (level_as above i p us a above_is vertex us_are) ∙ ap (refuted_below a) one_more))))
  where
    one_more : suc i ≡ i + 1
    one_more = omega arith

-- levels without a vertex have refuted nothing
below_same : (a : Account) (i n : ℕ) → ((j : ℕ) → i ≤ j → (level_at a j).vertex ≡ None) → i ≤ n → refuted_below a n ≡ refuted_below a i
below_same a i zero none le = let none_left : zero ≡ i = omega (arith, le) in ap (refuted_below a) none_left
below_same a i (suc n) none le = by (below_same a i n none) (cases_eq i (suc n))
  where
    by : (i ≤ n → refuted_below a n ≡ refuted_below a i) → (i ≡ suc n) ⊎ (i ≡ suc n → ⊥) → refuted_below a (suc n) ≡ refuted_below a i
    by earlier (inl is) = sym (ap (refuted_below a) is)
    by earlier (inr other) =
        ap (λ (v : Option ℕ). refuted_below a n ++ refuted_at (take n (path a)) v (level_at a n).refuted) (none n (omega (arith, le, other)))
        ∙ (append-nil (refuted_below a n) ∙ earlier (omega (arith, le, other)))

-- past the level after the path there is none with a vertex
past_path : (ss : List Level) (v : Option ℕ) (us : List ℕ) (j : ℕ) → length (path_of ss) + 1 ≤ j → (level_among ss v us j).vertex ≡ None
past_path [] v us zero le = absurd (omega (arith, le))
past_path [] v us (suc j) le = refl
past_path (s ∷ ss) v us zero le = absurd (omega (arith, le))
past_path (s ∷ ss) v us (suc j) le = past_path ss v us j (omega (arith, le))

-- what the first levels have refuted comes first
below_front : (a : Account) (i n : ℕ) → i ≤ n → (rest : List Pairs) × (refuted_below a n ≡ refuted_below a i ++ rest)
below_front a i zero le = let none_left : zero ≡ i = omega (arith, le) in ([], ap (refuted_below a) none_left ∙ sym (append-nil (refuted_below a i)))
below_front a i (suc n) le = by (below_front a i n) (cases_eq i (suc n))
  where
    last : List Pairs
    last = refuted_at (take n (path a)) (level_at a n).vertex (level_at a n).refuted

    by : (i ≤ n → (rest : List Pairs) × (refuted_below a n ≡ refuted_below a i ++ rest)) → (i ≡ suc n) ⊎ (i ≡ suc n → ⊥) → (rest : List Pairs) × (refuted_below a (suc n) ≡ refuted_below a i ++ rest)
    by earlier (inl is) = ([], sym (ap (refuted_below a) is) ∙ sym (append-nil (refuted_below a i)))
    by earlier (inr other) =
        let r = earlier (omega (arith, le, other)) in
        (r.0 ++ last, ap (λ (zs : List Pairs). zs ++ last) r.1 ∙ append_assoc (refuted_below a i) r.0 last)

-- so it does where its last level has a vertex
in_front : (a : Account) (i p : ℕ) → (level_at a i).vertex ≡ Some p → (rest : List Pairs) × (refuted_in a ≡ refuted_below a (suc i) ++ rest)
in_front a i p vertex = by (cases_lt i (length (path a) + 1))
  where
    clash : (v : Option ℕ) → v ≡ Some p → v ≡ None → ⊥
    clash None is none = cc
    clash (Some r) is none = cc

    by : (i < length (path a) + 1) ⊎ (length (path a) + 1 ≤ i) → (rest : List Pairs) × (refuted_in a ≡ refuted_below a (suc i) ++ rest)
    by (inl less) = below_front a (suc i) (length (path a) + 1) (omega (arith, less))
    by (inr least) = absurd (clash (level_at a i).vertex vertex (past_path a.steps a.vertex a.refuted i least))

-- with the first ones of a level those of the position are learned
pub position_first_ones : (a : Account) (o : ℕ) (rows mid more : List Row) (above : Pairs) (i p : ℕ) (us : List ℕ) → learned_by o mid ≡ learned_by o rows ++ refuted_below a i
    → LearnsFirst o mid more (refuted_at above (Some p) us) → above ≡ take i (path a) → (level_at a i).vertex ≡ Some p → us ≡ (level_at a i).refuted → LearnsFirst o rows more (refuted_in a)
position_first_ones a o rows mid more above i p us before h above_is vertex us_are =
    let r = in_front a i p vertex in
    first_more o rows mid more (refuted_below a i) (refuted_at above (Some p) us) r.0 (refuted_in a) before h
    (r.1 ∙ ap (λ (zs : List Pairs). (refuted_below a i ++ zs) ++ r.0) (sym (level_as above i p us a above_is vertex us_are)))

-- so all is learned once no further level has a vertex
pub below_all : (a : Account) (i : ℕ) → ((j : ℕ) → i ≤ j → (level_at a j).vertex ≡ None) → refuted_below a i ≡ refuted_in a
below_all a i none = by (cases_lt i (length (path a) + 1))
  where
    by : (i < length (path a) + 1) ⊎ (length (path a) + 1 ≤ i) → refuted_below a i ≡ refuted_in a
    by (inl less) = sym (below_same a i (length (path a) + 1) none (omega (arith, less)))
    by (inr least) = below_same a (length (path a) + 1) i (λ j le. past_path a.steps a.vertex a.refuted j le) least

-- a level has no vertex where it cannot have one
pub no_vertex : (v : Option ℕ) → ((p : ℕ) → v ≡ Some p → ⊥) → v ≡ None
no_vertex None never = refl
no_vertex (Some p) never = absurd (never p refl)

-- none after one without a vertex has one
pub none_after : (a : Account) (i : ℕ) → (level_at a i).vertex ≡ None → (j : ℕ) → i ≤ j → (level_at a j).vertex ≡ None
none_after a i none j le = no_vertex (level_at a j).vertex (λ p is. no_vertex_after a.steps a.vertex a.refuted i j p none le is)

-- ---- a restart

-- catching up adds nothing of one's own
pub learned_caught : (o : ℕ) (t u : Facts) → t.owner ≡ o → CaughtUp t u → learned_by o u.seen ≡ learned_by o t.seen
learned_caught o t u owner caught = learned_same o t.seen u.seen caught.grew.seen (subst (λ (n : ℕ). places n u.seen ≡ places n t.seen) owner caught.mine)

pub first_caught : (o : ℕ) (rows : List Row) (t u : Facts) (xs : List Pairs) → t.owner ≡ o → CaughtUp t u → LearnsFirst o rows t.seen xs → LearnsFirst o rows u.seen xs
first_caught o rows t u xs owner caught h = (h.0, h.1 ∙ ap (λ (zs : List Pairs). zs ++ h.0) (sym (learned_caught o t u owner caught)))

-- what was published is learned
pub has_learned : (a : Account) (o : ℕ) (whole : Bool) (s t u : Facts) → s.owner ≡ o → Went s t → CaughtUp t u
    → (whole ≡ true → learned_by o t.seen ≡ learned_by o s.seen ++ refuted_in a) → LearnsFirst o s.seen t.seen (refuted_in a) → (whole ≡ false → HasEnded t) → HasLearned a s u
has_learned a o whole s t u owner went caught published part full = by whole published full
  where
    mine : t.owner ≡ s.owner
    mine = went.grew.owner

    first : LearnsFirst s.owner s.seen t.seen (refuted_in a)
    first = subst (λ (n : ℕ). LearnsFirst n s.seen t.seen (refuted_in a)) (sym owner) part

    by : (b : Bool) → (b ≡ true → learned_by o t.seen ≡ learned_by o s.seen ++ refuted_in a) → (b ≡ false → HasEnded t) → HasLearned a s u
    by true all none = inl (learned_caught s.owner t u mine caught ∙ subst (λ (n : ℕ). learned_by n t.seen ≡ learned_by n s.seen ++ refuted_in a) (sym owner) (all refl))
    by false all none = inr (ended_on t u (none refl) caught.grew, first_caught s.owner s.seen t u (refuted_in a) mine caught first)

pub on_ok : {A E : Type 0} (answer : Result A E) (P : Type 0) → P → OnOk answer P
on_ok (Ok x) P p = p
on_ok (Err e) P p = tt
