-- Publishing what a position has refuted, a level after the other.

use Rattle.std.proofs.Common.{◌≡◌, ℕ, zero, suc, ◌+◌, ◌*◌, ◌<◌, ◌≤◌, Bool, true, false, List, [], ◌∷◌, ◌++◌, length, take, slice_index_or, Contains, Option, Some, None, IfSome, refl, sym, ap, ◌∙◌, subst, arith, length-append, ◌⊎◌, inl, inr, add-one}
use Rattle.std.proofs.lemmas.Bool.{cases_lt, cases_eq}
use Rattle.std.proofs.lemmas.List.{length-take-le}
use Rattle.std.proofs.Math.Seq.{take-suc}
use Rattle.graph_theory.specs.Graph.{size}
use Rattle.graph_theory.specs.Embedding.{Problem}
use Rattle.graph_theory.specs.Path.{NotOn, IsPath}
use Rattle.graph_theory.specs.Neighbours.{members}
use Rattle.search_theory.specs.Account.{Account, Step, path, level_at, level_among, InRange, Honest}
use Rattle.bit_rows.specs.BitRows.{has}
use Rattle.bit_rows.proofs.Rows.{has_past}
use Rattle.fail_account.proofs.Distinct.{path_fewer}
use Rattle.nogood_book.specs.declared.row.Row.{Row}
use Rattle.nogood_book.specs.declared.row.RowKind.TheVariants.{Nogood}
use Rattle.nogood_book.specs.Rows.{Pairs, Sound, DeadFor, MayFollow}
use Rattle.nogood_book.specs.Places.{StartsWith}
use Rattle.nogood_book.specs.Facts.{Facts, Grew, HasEnded, StandsAt, IsFull}
use Rattle.nogood_book.specs.Reaching.{Reaches, MayStand}
use Rattle.nogood_book.proofs.Lists.{starts_same, starts_on}
use Rattle.nogood_book.proofs.Reaching.{row_of_more, may_follow, row_placed}
use Rattle.restart_search.specs.Sharing.{IsSeatFor, IsRowOf, IsPublished, Went}
use Rattle.restart_search.proofs.Positions.{level_is, member_passes}

-- ---- a seat as rows come

-- where nothing was published
pub went_none : (s : Facts) → Sound s.problem s.seen → Went s s
went_none s sound = record { grew = record { problem = refl; owner = refl; size = refl; seen = starts_same s.seen; sound = sound; over = λ e. (e, refl) }; looks = refl }

-- one after the other
pub grew_on : (a b c : Facts) → Grew a b → Grew b c → Grew a c
grew_on a b c g h = record {
  problem = h.problem ∙ g.problem;
  owner = h.owner ∙ g.owner;
  size = h.size ∙ g.size;
  seen = starts_on a.seen b.seen c.seen g.seen h.seen;
  sound = h.sound;
  over = λ e. let m = g.over e in let n = h.over m.0 in (n.0, n.1 ∙ m.1);
}

pub went_more : (a b c : Facts) → Went a b → Went b c → Went a c
went_more a b c g h = record { grew = grew_on a b c g.grew h.grew; looks = h.looks ∙ g.looks }

pub went_at : (r : Row) (at : ℕ) (s t : Facts) → StandsAt r at s t → Went s t
went_at r at s t h = record { grew = h.grew; looks = h.looks }

pub went_full : (s t : Facts) → IsFull s t → Went s t
went_full s t h = record { grew = h.grew; looks = h.looks }

-- a seat that takes no further row takes none later
pub ended_on : (s t : Facts) → HasEnded s → Grew s t → HasEnded t
ended_on s t h grew = record {
  full = let e = h.full in omega (arith, e, ap length grew.seen.1, length-append s.seen grew.seen.0, grew.size);
  ended = (grew.over h.ended).0;
}

-- it is the same owner's, for the same problem
pub seat_went : (q : Problem) (o : ℕ) (s t : Facts) → Went s t → IsSeatFor q o s → IsSeatFor q o t
seat_went q o s t w h = record { problem = w.grew.problem ∙ h.problem; owner_is = w.grew.owner ∙ h.owner_is }

-- ---- one row

-- a row with its path may be published at the seat
pub may_publish : (q : Problem) (o : ℕ) (f : Facts) (r : Row) (above : Pairs) → IsSeatFor q o f → Reaches f.seen r.parent above → MayStand q above (r.vertex, r.value)
    → DeadFor q r.kind (above ++ (r.vertex, r.value) ∷ []) → r.owner < 128 → size q.pattern ≤ 1024 → size q.target ≤ 8192 → MayFollow f.problem f.seen r
may_publish q o f r above seat reaches stands dead narrow few many =
    subst (λ (p : Problem). MayFollow p f.seen r) (sym seat.problem) (may_follow q f.seen r above reaches stands dead narrow few many)

-- a nogood that was published is a row of its owner with the path that was meant
pub row_published : (r : Row) (at o : ℕ) (s t : Facts) (above : Pairs) → StandsAt r at s t → Reaches s.seen r.parent above → r.kind ≡ Nogood → r.owner ≡ o
    → IsRowOf o (length s.seen) t.seen (above ++ (r.vertex, r.value) ∷ [])
row_published r at o s t above h reaches kind owner =
    let placed = row_placed r at s t above h reaches in
    record { place = at; past = h.new_; row = r; row_is = placed.0; kind = kind; owner_is = owner; path_is = placed.1 }

-- it stays one as rows follow, and is one from an earlier place on
pub row_on : (o from low : ℕ) (rows more : List Row) (xs : Pairs) → StartsWith more rows → low ≤ from → IsRowOf o from rows xs → IsRowOf o low more xs
row_on o from low rows more xs starts le h =
    let later = row_of_more rows more h.place h.row h.row_is starts in
    record { place = h.place; past = omega (arith, h.past); row = h.row; row_is = later.0; kind = h.kind; owner_is = h.owner_is; path_is = later.1 ∙ h.path_is }

-- what a later part of the publishing has written stands behind what was seen first
pub row_later : (o : ℕ) (a b c : Facts) (xs : Pairs) → Went a b → IsRowOf o (length b.seen) c.seen xs → IsRowOf o (length a.seen) c.seen xs
row_later o a b c xs w h =
    row_on o (length b.seen) (length a.seen) c.seen c.seen xs (starts_same c.seen)
    (omega (arith, ap length w.grew.seen.1, length-append a.seen w.grew.seen.0)) h

-- ---- a level

clash : (b : Bool) → b ≡ true → b ≡ false → ⊥
clash true f g = cc
clash false f g = cc

-- none of its values is below the first
pub level_before : (K : Pairs → Type 0) (row : List ℕ) (above : Pairs) (p t : ℕ) → ((u : ℕ) → 0 ≤ u → u < t → has row u ≡ false)
    → (u : ℕ) → u < t → has row u ≡ true → K (above ++ (p, u) ∷ [])
level_before K row above p t none u u_in is = absurd (clash (has row u) is (none u (omega arith) u_in))

-- its values below the next are published
pub level_more : (K L : Pairs → Type 0) (row : List ℕ) (above : Pairs) (p t next : ℕ) → ((xs : Pairs) → K xs → L xs)
    → ((u : ℕ) → u < t → has row u ≡ true → K (above ++ (p, u) ∷ [])) → L (above ++ (p, t) ∷ [])
    → ((u : ℕ) → t + 1 ≤ u → u < next → has row u ≡ false) → (u : ℕ) → u < next → has row u ≡ true → L (above ++ (p, u) ∷ [])
level_more K L row above p t next widens below here none u u_in is = by_place (cases_lt u t) (cases_eq t u)
  where
    by_place : (u < t) ⊎ (t ≤ u) → (t ≡ u) ⊎ (t ≡ u → ⊥) → L (above ++ (p, u) ∷ [])
    by_place (inl less) e = widens (above ++ (p, u) ∷ []) (below u less is)
    by_place (inr least) (inl e) = subst (λ (v : ℕ). L (above ++ (p, v) ∷ [])) e here
    by_place (inr least) (inr ne) = absurd (clash (has row u) is (none u (omega arith) u_in))

-- all of them are, once none is left
pub level_all : (K : Pairs → Type 0) (row : List ℕ) (above : Pairs) (p t : ℕ) → 64 * length row ≤ t
    → ((u : ℕ) → u < t → has row u ≡ true → K (above ++ (p, u) ∷ [])) → (u : ℕ) → has row u ≡ true → K (above ++ (p, u) ∷ [])
level_all K row above p t end below u is = by_place (cases_lt u t)
  where
    by_place : (u < t) ⊎ (t ≤ u) → K (above ++ (p, u) ∷ [])
    by_place (inl less) = below u less is
    by_place (inr past) = absurd (clash (has row u) is (has_past row u (omega arith)))

-- ---- the levels below n

-- what they have refuted is published
pub record PublishedBelow (a : Account) (K : Pairs → Type 0) (n : ℕ) : Type 0 where
  pub each : (i p t : ℕ) → i < n → (level_at a i).vertex ≡ Some p → Contains (level_at a i).refuted t → K (take i (path a) ++ (p, t) ∷ [])

pub published_none : (a : Account) (K : Pairs → Type 0) → PublishedBelow a K 0
published_none a K = record { each = λ i p t i_in v h. absurd (omega arith) }

-- more stands in more rows
pub published_on : (a : Account) (K L : Pairs → Type 0) (n : ℕ) → ((xs : Pairs) → K xs → L xs) → PublishedBelow a K n → PublishedBelow a L n
published_on a K L n widens below = record { each = λ i p t i_in v h. widens (take i (path a) ++ (p, t) ∷ []) (below.each i p t i_in v h) }

-- one level more
pub published_more : (a : Account) (K : Pairs → Type 0) (i p : ℕ) (row : List ℕ) (above : Pairs) → PublishedBelow a K i
    → (level_at a i).vertex ≡ Some p → members (has row) a.target ≡ (level_at a i).refuted → above ≡ take i (path a)
    → ((t : ℕ) → has row t ≡ true → K (above ++ (p, t) ∷ [])) → PublishedBelow a K (i + 1)
published_more a K i p row above below vertex is above_is all = record { each = each }
  where
    here : (t : ℕ) → Contains (level_at a i).refuted t → K (take i (path a) ++ (p, t) ∷ [])
    here t h = subst (λ (xs : Pairs). K (xs ++ (p, t) ∷ [])) above_is (all t (member_passes (has row) a.target t (level_at a i).refuted is h))

    last : (j r t : ℕ) → j ≡ i → (level_at a j).vertex ≡ Some r → Contains (level_at a j).refuted t → K (take j (path a) ++ (r, t) ∷ [])
    last j r t e v h =
        let v_here : (level_at a i).vertex ≡ Some r = subst (λ (k : ℕ). (level_at a k).vertex ≡ Some r) e v in
        let same : p ≡ r = cc in
        subst (λ (k : ℕ). K (take k (path a) ++ (r, t) ∷ [])) (sym e)
        (subst (λ (s : ℕ). K (take i (path a) ++ (s, t) ∷ [])) same (here t (subst (λ (k : ℕ). Contains (level_at a k).refuted t) e h)))

    each : (j r t : ℕ) → j < i + 1 → (level_at a j).vertex ≡ Some r → Contains (level_at a j).refuted t → K (take j (path a) ++ (r, t) ∷ [])
    each j r t j_in v h = by_place (cases_lt j i)
      where
        by_place : (j < i) ⊎ (i ≤ j) → K (take j (path a) ++ (r, t) ∷ [])
        by_place (inl less) = below.each j r t less v h
        by_place (inr least) = last j r t (omega arith) v h

-- after a level without a vertex there is none with one
pub no_vertex_after : (ss : List Step) (v : Option ℕ) (us : List ℕ) (i j p : ℕ) → (level_among ss v us i).vertex ≡ None → i ≤ j → (level_among ss v us j).vertex ≡ Some p → ⊥
no_vertex_after [] v us zero zero p none le is = cc
no_vertex_after [] v us zero (suc j) p none le is = cc
no_vertex_after [] v us (suc i) zero p none le is = absurd (omega arith)
no_vertex_after [] v us (suc i) (suc j) p none le is = cc
no_vertex_after (s ∷ ss) v us zero j p none le is = cc
no_vertex_after (s ∷ ss) v us (suc i) zero p none le is = absurd (omega arith)
no_vertex_after (s ∷ ss) v us (suc i) (suc j) p none le is = no_vertex_after ss v us i j p none (omega arith) is

-- so all is published where the next level has none
pub published_ended : (a : Account) (o from : ℕ) (rows : List Row) (i : ℕ) → PublishedBelow a (IsRowOf o from rows) i → (level_at a i).vertex ≡ None → IsPublished a o from rows
published_ended a o from rows i below none = record { each = each }
  where
    each : (j p t : ℕ) → (level_at a j).vertex ≡ Some p → Contains (level_at a j).refuted t → IsRowOf o from rows (take j (path a) ++ (p, t) ∷ [])
    each j p t v h = by_place (cases_lt j i)
      where
        by_place : (j < i) ⊎ (i ≤ j) → IsRowOf o from rows (take j (path a) ++ (p, t) ∷ [])
        by_place (inl less) = below.each j p t less v h
        by_place (inr least) = absurd (no_vertex_after a.steps a.vertex a.refuted i j p none least v)

-- a level that has a vertex is one of as many as there are pattern vertices
pub level_few : (q : Problem) (a : Account) (j p : ℕ) → Honest q a → IsPath (path a) → InRange a.pattern a.target (path a)
    → IfSome a.vertex (λ r. (r < a.pattern) × NotOn (path a) r) → (level_at a j).vertex ≡ Some p → j < size q.pattern
level_few q a j p honest path_is range off v =
    let level = level_is q a j p honest path_is range off v in
    let few : length (take j (path a)) < size q.pattern =
    path_fewer (size q.pattern) (suc (size q.target)) (take j (path a)) p 0 level.1.path_is (wider (take j (path a)) level.1.in_range) level.1.off level.1.vertex_in (omega arith) in
    omega (arith, few, level.0, length-take-le j (path a) level.0)
  where
    wider : (xs : Pairs) → InRange (size q.pattern) (size q.target) xs → InRange (size q.pattern) (suc (size q.target)) xs
    wider [] r = tt
    wider (x ∷ xs) r = (r.0, omega (arith, r.1), wider xs r.2)

-- and where as many levels are looked at as there are pattern vertices
pub published_all : (q : Problem) (a : Account) (o from : ℕ) (rows : List Row) (n : ℕ) → n ≡ size q.pattern → Honest q a → IsPath (path a) → InRange a.pattern a.target (path a)
    → IfSome a.vertex (λ r. (r < a.pattern) × NotOn (path a) r) → PublishedBelow a (IsRowOf o from rows) n → IsPublished a o from rows
published_all q a o from rows n is honest path_is range off below = record { each = each }
  where
    each : (j p t : ℕ) → (level_at a j).vertex ≡ Some p → Contains (level_at a j).refuted t → IsRowOf o from rows (take j (path a) ++ (p, t) ∷ [])
    each j p t v h = below.each j p t (omega (arith, level_few q a j p honest path_is range off v)) v h

-- ---- the guesses

-- with the guess at a place the path is longer by it
pub take_guess : (xs : Pairs) (at : ℕ) (d : ℕ × ℕ) → at < length xs → take (at + 1) xs ≡ take at xs ++ slice_index_or xs at d ∷ []
take_guess xs at d within = rw (add-one) (take-suc xs at d within)

-- past the end there is none
pub take_past : (xs : Pairs) (at : ℕ) → length xs ≤ at → take (at + 1) xs ≡ take at xs
take_past xs at past = whole xs (at + 1) (omega (arith, past)) ∙ sym (whole xs at past)
  where
    whole : (ys : Pairs) (n : ℕ) → length ys ≤ n → take n ys ≡ ys
    whole [] zero le = refl
    whole [] (suc n) le = refl
    whole (y ∷ ys) zero le = absurd (omega (arith, le))
    whole (y ∷ ys) (suc n) le = ap (λ (zs : Pairs). y ∷ zs) (whole ys n (omega (arith, le)))
