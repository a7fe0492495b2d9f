-- What one visit leaves.
use Rattle.std.proofs.Common.{◌≡◌, ℕ, ◌*◌, ◌/◌, ◌<◌, ◌≤◌, zero, suc, Bool, true, false, ltb, List, [], ◌∷◌, ◌++◌, length, set, refl, sym, ap, ◌∙◌, subst, arith, inl, inr, ◌⊎◌, length-append}
use Rattle.std.proofs.lemmas.Bool.{cases_eq, ltb-true, ltb-false}
use Rattle.std.proofs.Math.Seq.{get_or-append_seam}
use Rattle.std.proofs.lemmas.List.{get_or-set_same, get_or-set_other, length-set, append-nil}
use Rattle.domain_bits.specs.Removals as removals
use Rattle.nogood_watch.specs.Nogoods.{Nogood, literal, partner, nogood, nogood_of, AreLiterals, AreWatches}
use Rattle.nogood_watch.specs.Watching.{IsAssigned, AllBut, KeepsOrFrees, Follows, forced_at}
use Rattle.nogood_watch.specs.Walking.{NoneFree, IsFreeLiteral, Forces, Visited}

pub partner_twice : (x : ℕ) → partner (partner x) ≡ x
partner_twice x = omega arith

pub partner_apart : (x : ℕ) → partner x ≡ x → ⊥
partner_apart x e = omega arith

pub partner_half : (x : ℕ) → partner x / 2 ≡ x / 2
partner_half x = omega arith

pub partner_in : (x n m : ℕ) → n ≡ 2 * m → x < n → partner x < n
partner_in x n m e h = omega arith

pub half_in : (x n m : ℕ) → n ≡ 2 * m → x < n → x / 2 < m
half_in x n m e h = omega arith

pub pair_is : (a b : ℕ × ℕ) → a.0 ≡ b.0 → a.1 ≡ b.1 → a ≡ b
pair_is a b e f = subst (λ k. a ≡ (k, b.1)) e (subst (λ k. a ≡ (a.0, k)) f refl)

-- ---- one watch set

set_here : (w : List (ℕ × ℕ)) (x : ℕ) (to : ℕ × ℕ) → x < length w → literal (set w x to) x ≡ to
set_here w x to h = get_or-set_same w x to (0, 0) h

set_else : (w : List (ℕ × ℕ)) (x : ℕ) (to : ℕ × ℕ) (z : ℕ) → (z ≡ x → ⊥) → literal (set w x to) z ≡ literal w z
set_else w x to z n = get_or-set_other w x z to (0, 0) n

set_watches : (nogoods : List Nogood) (w : List (ℕ × ℕ)) (x : ℕ) (to : ℕ × ℕ) → AreWatches nogoods w → x < length w
    → ((k : ℕ) × (k < length (nogood_of nogoods x).literals) × (literal (nogood_of nogoods x).literals k ≡ to))
    → (to.0 ≡ (literal w (partner x)).0 → ⊥) → AreWatches nogoods (set w x to)
set_watches nogoods w x to a x-in to-is apart = record {
  two = length-set w x to ∙ a.two;
  of = λ z h. of z (rw (length-set w x to) at h) (cases_eq z x);
  apart = λ z h. differ z (rw (length-set w x to) at h) (cases_eq z x) (cases_eq z (partner x));
}
  where
    this : literal (set w x to) x ≡ to
    this = set_here w x to x-in

    other : literal (set w x to) (partner x) ≡ literal w (partner x)
    other = set_else w x to (partner x) (partner_apart x)

    of : (z : ℕ) → z < length w → (z ≡ x) ⊎ (z ≡ x → ⊥)
        → (k : ℕ) × (k < length (nogood_of nogoods z).literals) × (literal (nogood_of nogoods z).literals k ≡ literal (set w x to) z)
    of z h (inl e) = rw (e, this) to-is
    of z h (inr n) = rw (set_else w x to z n) (a.of z h)

    differ : (z : ℕ) → z < length w → (z ≡ x) ⊎ (z ≡ x → ⊥) → (z ≡ partner x) ⊎ (z ≡ partner x → ⊥)
        → (literal (set w x to) z).0 ≡ (literal (set w x to) (partner z)).0 → ⊥
    differ z h (inl e) _ same = apart (ap (λ l. l.0) (sym this) ∙ ap (λ k. (literal (set w x to) k).0) (sym e) ∙ same
        ∙ ap (λ k. (literal (set w x to) (partner k)).0) e ∙ ap (λ l. l.0) other)
    differ z h (inr n) (inl e) same = apart (sym (ap (λ l. l.0) (sym other) ∙ ap (λ k. (literal (set w x to) k).0) (sym e) ∙ same
        ∙ ap (λ k. (literal (set w x to) k).0) (ap partner e ∙ partner_twice x) ∙ ap (λ l. l.0) this))
    differ z h (inr n) (inr m) same = a.apart z h (ap (λ l. l.0) (sym (set_else w x to z n)) ∙ same
        ∙ ap (λ l. l.0) (set_else w x to (partner z) (λ f. m (sym (partner_twice z) ∙ ap partner f))))

-- ---- the three ends of a visit

no_more : (d : removals.State) (nogoods : List Nogood) (old new : List (ℕ × ℕ)) (x : ℕ) (forced : List (ℕ × ℕ × ℕ)) → Forces d nogoods old new x forced forced
no_more d nogoods old new x forced = record { more = []; after = sym (append-nil forced); few = omega arith; follows = λ k h. absurd (omega arith) }

-- it stays, and the other watch has left its domain
pub visited_left : (d : removals.State) (nogoods : List Nogood) (w : List (ℕ × ℕ)) (forced : List (ℕ × ℕ × ℕ)) (x : ℕ) → AreWatches nogoods w
    → removals.in_domain d (literal w (partner x)).0 (literal w (partner x)).1 ≡ false → Visited d nogoods w w forced forced x
visited_left d nogoods w forced x a gone = record {
  long = refl;
  watches_are = a;
  guarded = inr (inr (record { this = refl; other = gone }));
  others = λ y n. refl;
  moves = λ z h. inl refl;
  forces = no_more d nogoods w w x forced;
}

-- it moves to a literal that is free
pub visited_free : (d : removals.State) (nogoods : List Nogood) (w : List (ℕ × ℕ)) (forced : List (ℕ × ℕ × ℕ)) (x : ℕ) (to : ℕ × ℕ) → AreWatches nogoods w → x < length w → IsAssigned d (literal w x)
    → IsFreeLiteral d (nogood_of nogoods x).literals (literal w x).0 (literal w (partner x)).0 to → Visited d nogoods w (set w x to) forced forced x
visited_free d nogoods w forced x to a x-in assigned f = record {
  long = length-set w x to;
  watches_are = set_watches nogoods w x to a x-in (f.place, f.within, f.is) f.not_q;
  guarded = inl (λ s. f.free (subst (IsAssigned d) (set_here w x to x-in) s));
  others = λ y n. set_else w x to y n;
  moves = λ z h. moves z (cases_eq z x);
  forces = no_more d nogoods w (set w x to) x forced;
}
  where
    moves : (z : ℕ) → (z ≡ x) ⊎ (z ≡ x → ⊥) → KeepsOrFrees d (literal w z) (literal (set w x to) z)
    moves z (inl e) = rw (e, set_here w x to x-in) (inr (assigned, f.free))
    moves z (inr n) = inl (set_else w x to z n)

lt_or_le : (j k : ℕ) → (j < k) ⊎ (k ≤ j)
lt_or_le j k = by (ltb j k) refl
  where
    by : (b : Bool) → ltb j k ≡ b → (j < k) ⊎ (k ≤ j)
    by true e = inl (ltb-true j k e)
    by false e = inr (ltb-false j k e)

-- two places of one vertex are one
pub same_place : (vertices values : ℕ) (xs : List (ℕ × ℕ)) (j k : ℕ) → AreLiterals vertices values xs → j < length xs → k < length xs
    → (literal xs j).0 ≡ (literal xs k).0 → literal xs j ≡ literal xs k
same_place vertices values xs j k a hj hk e = by (cases_eq j k)
  where
    by : (j ≡ k) ⊎ (j ≡ k → ⊥) → literal xs j ≡ literal xs k
    by (inl f) = ap (literal xs) f
    by (inr n) = absurd (pick (lt_or_le j k))
      where
        pick : (j < k) ⊎ (k ≤ j) → ⊥
        pick (inl l) = a.apart j k l hk e
        pick (inr l) = a.apart k j (omega arith) hj (sym e)

-- it stays, and the other watch is forced
pub visited_forced : (d : removals.State) (nogoods : List Nogood) (w : List (ℕ × ℕ)) (forced : List (ℕ × ℕ × ℕ)) (x : ℕ) → AreWatches nogoods w → x < length w
    → AreLiterals d.vertices d.values (nogood_of nogoods x).literals → IsAssigned d (literal w x)
    → removals.in_domain d (literal w (partner x)).0 (literal w (partner x)).1 ≡ true
    → NoneFree d (nogood_of nogoods x).literals (literal w x).0 (literal w (partner x)).0
    → Visited d nogoods w w forced (forced ++ ((literal w (partner x)).0, (literal w (partner x)).1, (nogood_of nogoods x).name) ∷ []) x
visited_forced d nogoods w forced x a x-in are assigned here none = record {
  long = refl;
  watches_are = a;
  guarded = inr (inl (record {
    this = refl;
    place = length forced;
    within = rw length-append (omega arith);
    vertex = ap (λ (k : ℕ × ℕ × ℕ). k.0) at-seam;
    value = ap (λ (k : ℕ × ℕ × ℕ). k.1) at-seam;
  }));
  others = λ y n. refl;
  moves = λ z h. inl refl;
  forces = record {
    more = ((literal w (partner x)).0, (literal w (partner x)).1, (nogood_of nogoods x).name) ∷ [];
    after = refl;
    few = omega arith;
    follows = λ k h. follow k h;
  };
}
  where
    at-seam : forced_at (forced ++ ((literal w (partner x)).0, (literal w (partner x)).1, (nogood_of nogoods x).name) ∷ []) (length forced)
        ≡ ((literal w (partner x)).0, (literal w (partner x)).1, (nogood_of nogoods x).name)
    at-seam = get_or-append_seam forced ((literal w (partner x)).0, (literal w (partner x)).1, (nogood_of nogoods x).name) [] (0, 0, 0)

    rest : AllBut d (nogood_of nogoods x).literals ((literal w (partner x)).0, (literal w (partner x)).1)
    rest k h = by (none k h)
      where
        by : ((literal (nogood_of nogoods x).literals k).0 ≡ (literal w x).0) ⊎ (((literal (nogood_of nogoods x).literals k).0 ≡ (literal w (partner x)).0) ⊎ IsAssigned d (literal (nogood_of nogoods x).literals k))
            → (literal (nogood_of nogoods x).literals k ≡ ((literal w (partner x)).0, (literal w (partner x)).1)) ⊎ IsAssigned d (literal (nogood_of nogoods x).literals k)
        by (inl e) =
            let own = a.of x x-in in
            let same = same_place d.vertices d.values (nogood_of nogoods x).literals k own.0 are h own.1 (e ∙ ap (λ l. l.0) (sym own.2)) in
            inr (subst (IsAssigned d) (sym (same ∙ own.2)) assigned)
        by (inr (inl e)) =
            let other = other-is in
            inl (same_place d.vertices d.values (nogood_of nogoods x).literals k other.0 are h other.1 (e ∙ ap (λ l. l.0) (sym other.2)) ∙ other.2)
          where
            other-is : (j : ℕ) × (j < length (nogood_of nogoods x).literals) × (literal (nogood_of nogoods x).literals j ≡ literal w (partner x))
            other-is =
                subst (λ (i : ℕ). (j : ℕ) × (j < length (nogood nogoods i).literals) × (literal (nogood nogoods i).literals j ≡ literal w (partner x))) (partner_half x)
                (a.of (partner x) (partner_in x (length w) (length nogoods) a.two x-in))
        by (inr (inr s)) = inr s

    follow : (k : ℕ) → k < 1
        → (f : Follows d nogoods w w (literal w x) (forced_at (((literal w (partner x)).0, (literal w (partner x)).1, (nogood_of nogoods x).name) ∷ []) k)) × (f.watch ≡ x)
    follow zero h = (
      record {
        watch = x;
        within = x-in;
        was = refl;
        is = refl;
        other = refl;
        name = refl;
        here = here;
        rest = rest;
      },
      refl,
    )
    follow (suc k) h = absurd (omega arith)
