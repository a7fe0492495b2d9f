-- Nogoods that are covered by live ones, and their watches as they are seen.
use Rattle.std.proofs.Common.{◌≡◌, ℕ, ◌+◌, ◌-◌, ◌*◌, ◌/◌, ◌%◌, ◌<◌, ◌≤◌, zero, suc, Bool, true, false, cond, eqb, ltb, ◌&&◌, List, [], ◌∷◌, ◌++◌, length, set, refl, sym, ap, ◌∙◌, subst, arith, inl, inr, ◌⊎◌, length-append}
use Rattle.std.proofs.lemmas.Bool.{cases_eq, eq-eqb, eqb-true, ltb-true, ltb-false}
use Rattle.std.proofs.Math.Seq.{get_or-append_seam}
use Rattle.std.proofs.lemmas.List.{get_or_append_left, get_or-append-add, get_or-set_other}
use Rattle.nogood_watch.specs.Nogoods.{Nogood, literal, partner, nogood, nogood_of, AreWatches}
use Rattle.nogood_watch.specs.Covering.{has_literal, lies_in, live_at, covers, AreCovered, IsOvertaken, first_of, watched_for, seen}
use Rattle.nogood_watch.proofs.Visits.{partner_half, pair_is}

-- ---- literals that lie in others

clash : (b : Bool) → b ≡ true → b ≡ false → ⊥
clash true e f = cc
clash false e f = cc

and_both : (a b : Bool) → (a && b) ≡ true → (a ≡ true) × (b ≡ true)
and_both true b e = (refl, e)
and_both false b e = cc

-- a literal that is one of these has a place among them
pub literal_at : (xs : List (ℕ × ℕ)) (l : ℕ × ℕ) → has_literal xs l ≡ true → (k : ℕ) × (k < length xs) × (literal xs k ≡ l)
literal_at [] l e = cc
literal_at (x ∷ xs) l e = by (literal_at xs l) (eqb x.0 l.0 && eqb x.1 l.1) refl
  where
    by : (has_literal xs l ≡ true → (k : ℕ) × (k < length xs) × (literal xs k ≡ l)) → (b : Bool) → (eqb x.0 l.0 && eqb x.1 l.1) ≡ b → (k : ℕ) × (k < length (x ∷ xs)) × (literal (x ∷ xs) k ≡ l)
    by rec true f = let both = and_both (eqb x.0 l.0) (eqb x.1 l.1) f in (0, omega arith, pair_is x l (eqb-true x.0 l.0 both.0) (eqb-true x.1 l.1 both.1))
    by rec false f =
        let rest = rec (ap (λ (b : Bool). cond b true (has_literal xs l)) (sym f) ∙ e) in
        (suc rest.0, omega (arith, rest.1), rest.2)

pub has_at : (xs : List (ℕ × ℕ)) (k : ℕ) (l : ℕ × ℕ) → k < length xs → literal xs k ≡ l → has_literal xs l ≡ true
has_at [] k l h e = absurd (omega (arith, h))
has_at (x ∷ xs) zero l h e = rw (eq-eqb x.0 l.0 (ap (λ (y : ℕ × ℕ). y.0) e), eq-eqb x.1 l.1 (ap (λ (y : ℕ × ℕ). y.1) e)) refl
has_at (x ∷ xs) (suc k) l h e = by (has_at xs k l (omega (arith, h)) e) (eqb x.0 l.0 && eqb x.1 l.1)
  where
    by : has_literal xs l ≡ true → (b : Bool) → cond b true (has_literal xs l) ≡ true
    by rest true = refl
    by rest false = rest

pub lies_at : (xs ys : List (ℕ × ℕ)) (k : ℕ) → lies_in xs ys ≡ true → k < length xs → (m : ℕ) × (m < length ys) × (literal ys m ≡ literal xs k)
lies_at [] ys k e h = absurd (omega (arith, h))
lies_at (x ∷ xs) ys zero e h = literal_at ys x (and_both (has_literal ys x) (lies_in xs ys) e).0
lies_at (x ∷ xs) ys (suc k) e h = lies_at xs ys k (and_both (has_literal ys x) (lies_in xs ys) e).1 (omega (arith, h))

pub lies_by : (xs ys : List (ℕ × ℕ)) → ((k : ℕ) → k < length xs → (m : ℕ) × (m < length ys) × (literal ys m ≡ literal xs k)) → lies_in xs ys ≡ true
lies_by [] ys f = refl
lies_by (x ∷ xs) ys f = let first = f 0 (omega arith) in rw (has_at ys first.0 x first.1 first.2, lies_by xs ys (λ k h. f (suc k) (omega (arith, h)))) refl

pub lies_self : (xs : List (ℕ × ℕ)) → lies_in xs xs ≡ true
lies_self xs = lies_by xs xs (λ k h. (k, h, refl))

pub lies_more : (xs ys zs : List (ℕ × ℕ)) → lies_in xs ys ≡ true → lies_in ys zs ≡ true → lies_in xs zs ≡ true
lies_more xs ys zs e f = lies_by xs zs (λ k h. let one = lies_at xs ys k e h in let two = lies_at ys zs one.0 f one.1 in (two.0, two.1, two.2 ∙ one.2))

pub and_true : (a b : Bool) → a ≡ true → b ≡ true → (a && b) ≡ true
and_true a b e f = rw (e, f) refl

-- what passes at each place up to k, and at k
pub each_more : (f : ℕ → Bool) (k : ℕ) → ((j : ℕ) → j < k → f j ≡ true) → f k ≡ true → (j : ℕ) → j < k + 1 → f j ≡ true
each_more f k each here j h = by (cases_eq j k)
  where
    by : (j ≡ k) ⊎ (j ≡ k → ⊥) → f j ≡ true
    by (inl e) = ap f e ∙ here
    by (inr n) = each j (omega (arith, h, n))

-- what the code finds place by place
pub has_none : (xs : List (ℕ × ℕ)) (l : ℕ × ℕ) → ((k : ℕ) → k < length xs → literal xs k ≡ l → ⊥) → has_literal xs l ≡ false
has_none xs l none = by (has_literal xs l) refl
  where
    by : (b : Bool) → has_literal xs l ≡ b → has_literal xs l ≡ false
    by true e = let at = literal_at xs l e in absurd (none at.0 at.1 at.2)
    by false e = e

pub lies_none : (xs ys : List (ℕ × ℕ)) (k : ℕ) → k < length xs → has_literal ys (literal xs k) ≡ false → lies_in xs ys ≡ false
lies_none xs ys k h none = by (lies_in xs ys) refl
  where
    by : (b : Bool) → lies_in xs ys ≡ b → lies_in xs ys ≡ false
    by true e = let at = lies_at xs ys k e h in absurd (clash (has_literal ys (literal xs k)) (has_at ys at.0 (literal xs k) at.1 at.2) none)
    by false e = e

pub lies_all : (xs ys : List (ℕ × ℕ)) → ((k : ℕ) → k < length xs → has_literal ys (literal xs k) ≡ true) → lies_in xs ys ≡ true
lies_all xs ys each = lies_by xs ys (λ k h. literal_at ys (literal xs k) (each k h))

-- ---- the first that passes

pub first_passes : (f : ℕ → Bool) (n k : ℕ) → k < n → f k ≡ true → (first_of f n < n) × (f (first_of f n) ≡ true)
first_passes f zero k h e = absurd (omega (arith, h))
first_passes f (suc n) k h e = by (first_passes (λ i. f (suc i)) n) (f zero) refl k h e
  where
    by : ((j : ℕ) → j < n → f (suc j) ≡ true → (first_of (λ i. f (suc i)) n < n) × (f (suc (first_of (λ i. f (suc i)) n)) ≡ true)) → (b : Bool) → f zero ≡ b
        → (j : ℕ) → j < suc n → f j ≡ true → (first_of f (suc n) < suc n) × (f (first_of f (suc n)) ≡ true)
    by rec true g j j-in p = rw g (omega arith, g)
    by rec false g zero j-in p = absurd (clash (f zero) p g)
    by rec false g (suc j) j-in p = let rest = rec j (omega (arith, j-in)) p in rw g (omega (arith, rest.0), rest.1)

-- it is the same among more, and where the same pass
pub first_same : (f g : ℕ → Bool) (n m k : ℕ) → k < n → f k ≡ true → n ≤ m → ((i : ℕ) → i < n → g i ≡ f i) → first_of g m ≡ first_of f n
first_same f g zero m k h e le same = absurd (omega (arith, h))
first_same f g (suc n) zero k h e le same = absurd (omega (arith, le))
first_same f g (suc n) (suc m) k h e le same =
    by (λ j j-in p. first_same (λ i. f (suc i)) (λ i. g (suc i)) n m j j-in p (omega (arith, le)) (λ i i-in. same (suc i) (omega (arith, i-in)))) (f zero) refl k h e
  where
    by : ((j : ℕ) → j < n → f (suc j) ≡ true → first_of (λ i. g (suc i)) m ≡ first_of (λ i. f (suc i)) n) → (b : Bool) → f zero ≡ b
        → (j : ℕ) → j < suc n → f j ≡ true → first_of g (suc m) ≡ first_of f (suc n)
    by rec true x j j-in p = rw (x, same 0 (omega arith) ∙ x) refl
    by rec false x zero j-in p = absurd (clash (f zero) p x)
    by rec false x (suc j) j-in p = rw (x, same 0 (omega arith) ∙ x) (ap suc (rec j (omega (arith, j-in)) p))

-- ---- the nogood that is watched for one

-- it is live, and its literals lie in those of that one
pub record IsWatchedFor (nogoods : List Nogood) (live : List Bool) (i j : ℕ) : Type 0 where
  pub within : j < length nogoods
  pub live_is : live_at live j ≡ true
  pub lies : lies_in (nogood nogoods j).literals (nogood nogoods i).literals ≡ true

pub watched_is : (nogoods : List Nogood) (live : List Bool) (i : ℕ) → AreCovered nogoods live → i < length nogoods → IsWatchedFor nogoods live i (watched_for nogoods live i)
watched_is nogoods live i covered h = by (live_at live i) refl
  where
    by : (b : Bool) → live_at live i ≡ b → IsWatchedFor nogoods live i (watched_for nogoods live i)
    by true e = rw e (record { within = h; live_is = e; lies = lies_self (nogood nogoods i).literals })
    by false e =
        let some = covered i h e in
        let first = first_passes (covers nogoods live i) (length nogoods) some.0 some.1 some.2 in
        let both = and_both (live_at live (first_of (covers nogoods live i) (length nogoods))) (lies_in (nogood nogoods (first_of (covers nogoods live i) (length nogoods))).literals (nogood nogoods i).literals) first.1 in
        rw e (record { within = first.0; live_is = both.0; lies = both.1 })

pub watched_self : (nogoods : List Nogood) (live : List Bool) (i : ℕ) → live_at live i ≡ true → watched_for nogoods live i ≡ i
watched_self nogoods live i e = rw e refl

-- ---- the watches as they are seen

-- the watch that stands for watch x
abbrev pub stands : (ℕ → ℕ) → ℕ → ℕ
stands at x = 2 * at (x / 2) + x % 2

pub stands_half : (at : ℕ → ℕ) (x : ℕ) → stands at x / 2 ≡ at (x / 2)
stands_half at x = half (at (x / 2)) (x % 2) (omega arith)
  where
    half : (a r : ℕ) → r < 2 → (2 * a + r) / 2 ≡ a
    half a r h = omega arith

pub stands_partner : (at : ℕ → ℕ) (x : ℕ) → partner (stands at x) ≡ stands at (partner x)
stands_partner at x =
    other (at (x / 2)) (x % 2) (omega arith) ∙ ap (λ (k : ℕ). 2 * k + (1 - x % 2)) (ap at (sym (partner_half x))) ∙ ap (λ (r : ℕ). 2 * at (partner x / 2) + r) (omega arith)
  where
    other : (a r : ℕ) → r < 2 → 2 * a + r + 1 - 2 * ((2 * a + r) % 2) ≡ 2 * a + (1 - r)
    other a r h = omega arith

pub stands_in : (at : ℕ → ℕ) (x n m : ℕ) → n ≡ 2 * m → at (x / 2) < m → stands at x < n
stands_in at x n m e h = low (at (x / 2)) (x % 2) (omega arith) h
  where
    low : (a r : ℕ) → r < 2 → a < m → 2 * a + r < n
    low a r l i = omega (arith, e, l, i)

pub stands_self : (at : ℕ → ℕ) (x : ℕ) → at (x / 2) ≡ x / 2 → stands at x ≡ x
stands_self at x e = ap (λ (k : ℕ). 2 * k + x % 2) e ∙ omega arith

pub seen_long : (at : ℕ → ℕ) (w : List (ℕ × ℕ)) (n : ℕ) → length (seen at w n) ≡ 2 * n
seen_long at w zero = refl
seen_long at w (suc n) = omega (arith, length-append (seen at w n) (literal w (2 * at n) ∷ literal w (2 * at n + 1) ∷ []), seen_long at w n)

pub seen_at : (at : ℕ → ℕ) (w : List (ℕ × ℕ)) (n x : ℕ) → x < 2 * n → literal (seen at w n) x ≡ literal w (stands at x)
seen_at at w zero x h = absurd (omega (arith, h))
seen_at at w (suc n) x h = by (seen_at at w n x) (cut x (2 * n)) (cases_eq x (2 * n))
  where
    a : ℕ × ℕ
    a = literal w (2 * at n)

    b : ℕ × ℕ
    b = literal w (2 * at n + 1)

    cut : (j k : ℕ) → (j < k) ⊎ (k ≤ j)
    cut j k = split (ltb j k) refl
      where
        split : (c : Bool) → ltb j k ≡ c → (j < k) ⊎ (k ≤ j)
        split true e = inl (ltb-true j k e)
        split false e = inr (ltb-false j k e)

    here : (r : ℕ) → x ≡ 2 * n + r → r < 2 → literal w (2 * at n + r) ≡ literal w (stands at x)
    here r e l = ap (literal w) (ap (λ (k : ℕ). 2 * k + r) (ap at (halved e l)) ∙ ap (λ (k : ℕ). 2 * at (x / 2) + k) (rest e l))
      where
        halved : x ≡ 2 * n + r → r < 2 → n ≡ x / 2
        halved e l = omega (arith, e, l)

        rest : x ≡ 2 * n + r → r < 2 → r ≡ x % 2
        rest e l = omega (arith, e, l)

    by : (x < 2 * n → literal (seen at w n) x ≡ literal w (stands at x)) → (x < 2 * n) ⊎ (2 * n ≤ x) → (x ≡ 2 * n) ⊎ (x ≡ 2 * n → ⊥) → literal (seen at w n ++ a ∷ b ∷ []) x ≡ literal w (stands at x)
    by rec (inl l) _ = get_or_append_left (seen at w n) (a ∷ b ∷ []) (0, 0) x (omega (arith, l, seen_long at w n)) ∙ rec l
    by rec (inr m) (inl e) =
        ap (literal (seen at w n ++ a ∷ b ∷ [])) (e ∙ sym (seen_long at w n)) ∙ get_or-append_seam (seen at w n) a (b ∷ []) (0, 0)
        ∙ ap (literal w) (omega arith) ∙ here 0 (omega (arith, e)) (omega arith)
    by rec (inr m) (inr o) =
        let e : x ≡ 2 * n + 1 = omega (arith, h, m, o) in
        ap (literal (seen at w n ++ a ∷ b ∷ [])) (e ∙ ap (λ (k : ℕ). k + 1) (sym (seen_long at w n))) ∙ get_or-append-add (seen at w n) (a ∷ b ∷ []) 1 (0, 0)
        ∙ here 1 e (omega arith)

pub seen_same : (at at' : ℕ → ℕ) (w w' : List (ℕ × ℕ)) (n : ℕ) → ((i : ℕ) → i < n → at' i ≡ at i)
    → ((i : ℕ) → i < n → (literal w' (2 * at i) ≡ literal w (2 * at i)) × (literal w' (2 * at i + 1) ≡ literal w (2 * at i + 1))) → seen at' w' n ≡ seen at w n
seen_same at at' w w' zero same e = refl
seen_same at at' w w' (suc n) same e =
    let one = e n (omega arith) in
    let k = same n (omega arith) in
    rw (seen_same at at' w w' n (λ i h. same i (omega (arith, h))) (λ i h. e i (omega (arith, h))), k, one.0, one.1) refl

-- the watches that are seen of a nogood are two of its literals
pub seen_are : (nogoods : List Nogood) (live : List Bool) (w : List (ℕ × ℕ)) (n : ℕ) → n ≡ length nogoods → AreWatches nogoods w → AreCovered nogoods live
    → AreWatches nogoods (seen (watched_for nogoods live) w n)
seen_are nogoods live w n e a covered = record {
  two = seen_long (watched_for nogoods live) w n ∙ ap (λ (k : ℕ). 2 * k) e;
  of = λ x h. of x (rw (seen_long (watched_for nogoods live) w n) at h);
  apart = λ x h. differ x (rw (seen_long (watched_for nogoods live) w n) at h);
}
  where
    at : ℕ → ℕ
    at = watched_for nogoods live

    is : (x : ℕ) → x < 2 * n → IsWatchedFor nogoods live (x / 2) (at (x / 2))
    is x h = watched_is nogoods live (x / 2) covered (omega (arith, h, e))

    below : (x : ℕ) → x < 2 * n → stands at x < length w
    below x h = stands_in at x (length w) (length nogoods) a.two (is x h).within

    of : (x : ℕ) → x < 2 * n → (k : ℕ) × (k < length (nogood_of nogoods x).literals) × (literal (nogood_of nogoods x).literals k ≡ literal (seen at w n) x)
    of x h =
        let own = a.of (stands at x) (below x h) in
        let own-is : (k : ℕ) × (k < length (nogood nogoods (at (x / 2))).literals) × (literal (nogood nogoods (at (x / 2))).literals k ≡ literal w (stands at x)) =
        subst (λ (j : ℕ). (k : ℕ) × (k < length (nogood nogoods j).literals) × (literal (nogood nogoods j).literals k ≡ literal w (stands at x))) (stands_half at x) own in
        let in-i = lies_at (nogood nogoods (at (x / 2))).literals (nogood_of nogoods x).literals own-is.0 (is x h).lies own-is.1 in
        (in-i.0, in-i.1, in-i.2 ∙ own-is.2 ∙ sym (seen_at at w n x h))

    differ : (x : ℕ) → x < 2 * n → (literal (seen at w n) x).0 ≡ (literal (seen at w n) (partner x)).0 → ⊥
    differ x h same =
        let y-in : partner x < 2 * n = omega (arith, h) in
        a.apart (stands at x) (below x h) (ap (λ (l : ℕ × ℕ). l.0) (sym (seen_at at w n x h)) ∙ same ∙ ap (λ (l : ℕ × ℕ). l.0) (seen_at at w n (partner x) y-in)
        ∙ ap (λ (k : ℕ). (literal w k).0) (sym (stands_partner at x)))

-- ---- one nogood more, which is live

pub live_front : (live : List Bool) (b : Bool) (i : ℕ) → i < length live → live_at (live ++ b ∷ []) i ≡ live_at live i
live_front live b i h = get_or_append_left live (b ∷ []) false i h

pub live_last : (live : List Bool) (b : Bool) (i : ℕ) → i ≡ length live → live_at (live ++ b ∷ []) i ≡ b
live_last live b i e = ap (live_at (live ++ b ∷ [])) e ∙ get_or-append_seam live b [] false

nogood_front : (ns : List Nogood) (n : Nogood) (i : ℕ) → i < length ns → nogood (ns ++ n ∷ []) i ≡ nogood ns i
nogood_front ns n i h = get_or_append_left ns (n ∷ []) (record { literals = []; name = 0 }) i h

covers_front : (ns : List Nogood) (live : List Bool) (n : Nogood) (b : Bool) (i j : ℕ) → length live ≡ length ns → i < length ns → j < length ns
    → covers (ns ++ n ∷ []) (live ++ b ∷ []) i j ≡ covers ns live i j
covers_front ns live n b i j long i-in j-in = rw (live_front live b j (omega (arith, long, j-in)), nogood_front ns n i i-in, nogood_front ns n j j-in) refl

pub covered_more : (ns : List Nogood) (live : List Bool) (n : Nogood) → length live ≡ length ns → AreCovered ns live → AreCovered (ns ++ n ∷ []) (live ++ true ∷ [])
covered_more ns live n long covered i h down = by (cases_eq i (length ns))
  where
    by : (i ≡ length ns) ⊎ (i ≡ length ns → ⊥) → (j : ℕ) × (j < length (ns ++ n ∷ [])) × (covers (ns ++ n ∷ []) (live ++ true ∷ []) i j ≡ true)
    by (inl e) = absurd (clash (live_at (live ++ true ∷ []) i) (live_last live true i (e ∙ sym long)) down)
    by (inr o) =
        let i-in : i < length ns = omega (arith, h, length-append ns (n ∷ []), o) in
        let some = covered i i-in (sym (live_front live true i (omega (arith, i-in, long))) ∙ down) in
        (some.0, omega (arith, some.1, length-append ns (n ∷ [])), covers_front ns live n true i some.0 long i-in some.1 ∙ some.2)

watched_front : (ns : List Nogood) (live : List Bool) (n : Nogood) (i : ℕ) → length live ≡ length ns → AreCovered ns live → i < length ns
    → watched_for (ns ++ n ∷ []) (live ++ true ∷ []) i ≡ watched_for ns live i
watched_front ns live n i long covered i-in = by (live_at live i) refl
  where
    same : live_at (live ++ true ∷ []) i ≡ live_at live i
    same = live_front live true i (omega (arith, i-in, long))

    by : (b : Bool) → live_at live i ≡ b → watched_for (ns ++ n ∷ []) (live ++ true ∷ []) i ≡ watched_for ns live i
    by true e = watched_self (ns ++ n ∷ []) (live ++ true ∷ []) i (same ∙ e) ∙ sym (watched_self ns live i e)
    by false e =
        let some = covered i i-in e in
        rw (same, e)
        (first_same (covers ns live i) (covers (ns ++ n ∷ []) (live ++ true ∷ []) i) (length ns) (length (ns ++ n ∷ [])) some.0 some.1 some.2 (omega (arith, length-append ns (n ∷ [])))
        (λ j j-in. covers_front ns live n true i j long i-in j-in))

-- the watches that are seen have its two more
pub seen_more : (ns : List Nogood) (live : List Bool) (n : Nogood) (w : List (ℕ × ℕ)) (a b : ℕ × ℕ) (m m' : ℕ) → m ≡ length ns → m' ≡ m + 1 → length live ≡ length ns → length w ≡ 2 * length ns → AreCovered ns live
    → seen (watched_for (ns ++ n ∷ []) (live ++ true ∷ [])) (w ++ a ∷ b ∷ []) m' ≡ seen (watched_for ns live) w m ++ a ∷ b ∷ []
seen_more ns live n w a b m m' e more long two covered = ap (seen at' (w ++ a ∷ b ∷ [])) count ∙ rw (front, last, first, second) refl
  where
    at' : ℕ → ℕ
    at' = watched_for (ns ++ n ∷ []) (live ++ true ∷ [])

    count : m' ≡ suc m
    count = omega (arith, more)

    old : (x : ℕ) → x < length w → literal (w ++ a ∷ b ∷ []) x ≡ literal w x
    old x h = get_or_append_left w (a ∷ b ∷ []) (0, 0) x h

    front : seen at' (w ++ a ∷ b ∷ []) m ≡ seen (watched_for ns live) w m
    front = seen_same (watched_for ns live) at' w (w ++ a ∷ b ∷ []) m (λ i h. watched_front ns live n i long covered (omega (arith, h, e)))
        (λ i h. let j-in = (watched_is ns live i covered (omega (arith, h, e))).within in (old (2 * watched_for ns live i) (omega (arith, j-in, two)), old (2 * watched_for ns live i + 1) (omega (arith, j-in, two))))

    last : at' m ≡ m
    last = watched_self (ns ++ n ∷ []) (live ++ true ∷ []) m (live_last live true m (e ∙ sym long))

    first : literal (w ++ a ∷ b ∷ []) (2 * m) ≡ a
    first = ap (literal (w ++ a ∷ b ∷ [])) (omega (arith, e, two)) ∙ get_or-append_seam w a (b ∷ []) (0, 0)

    second : literal (w ++ a ∷ b ∷ []) (2 * m + 1) ≡ b
    second = ap (literal (w ++ a ∷ b ∷ [])) (omega (arith, e, two)) ∙ get_or-append-add w (a ∷ b ∷ []) 1 (0, 0)

-- ---- one nogood that is live no longer

-- where another one covers it, all are covered still
pub covered_less : (ns : List Nogood) (live : List Bool) (i : ℕ) → length live ≡ length ns → AreCovered ns live → IsOvertaken ns live i → AreCovered ns (set live i false)
covered_less ns live i long covered o k k-in down = by (cases_eq k i)
  where
    off : (j : ℕ) → (j ≡ i → ⊥) → live_at (set live i false) j ≡ live_at live j
    off j n = get_or-set_other live i j false false n

    over : (j : ℕ) → j < length ns → (j ≡ i → ⊥) → live_at live j ≡ true → lies_in (nogood ns j).literals (nogood ns k).literals ≡ true
        → (j : ℕ) × (j < length ns) × (covers ns (set live i false) k j ≡ true)
    over j j-in n up lies = (j, j-in, rw (off j n, up) lies)

    both : (live_at live o.by ≡ true) × (lies_in (nogood ns o.by).literals (nogood ns i).literals ≡ true)
    both = and_both (live_at live o.by) (lies_in (nogood ns o.by).literals (nogood ns i).literals) o.covers_it

    -- what nogood i covered, the other one covers
    beyond : (j : ℕ) → (j < length ns) × (covers ns live k j ≡ true) → (j ≡ i) ⊎ (j ≡ i → ⊥) → (j : ℕ) × (j < length ns) × (covers ns (set live i false) k j ≡ true)
    beyond j h (inl e) =
        let own = and_both (live_at live j) (lies_in (nogood ns j).literals (nogood ns k).literals) h.1 in
        let in-k : lies_in (nogood ns i).literals (nogood ns k).literals ≡ true = subst (λ (z : ℕ). lies_in (nogood ns z).literals (nogood ns k).literals ≡ true) e own.1 in
        over o.by o.within o.other both.0 (lies_more (nogood ns o.by).literals (nogood ns i).literals (nogood ns k).literals both.1 in-k)
    beyond j h (inr n) = let own = and_both (live_at live j) (lies_in (nogood ns j).literals (nogood ns k).literals) h.1 in over j h.0 n own.0 own.1

    by : (k ≡ i) ⊎ (k ≡ i → ⊥) → (j : ℕ) × (j < length ns) × (covers ns (set live i false) k j ≡ true)
    by (inl e) = over o.by o.within o.other both.0 (subst (λ (z : ℕ). lies_in (nogood ns o.by).literals (nogood ns z).literals ≡ true) (sym e) both.1)
    by (inr n) = let some = covered k k-in (sym (off k n) ∙ down) in beyond some.0 (some.1, some.2) (cases_eq some.0 i)
