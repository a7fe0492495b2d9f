-- Lists that are made anew, watch by watch.
use Rattle.std.proofs.Common.{◌≡◌, ℕ, ◌+◌, ◌<◌, ◌≤◌, Bool, true, false, cond, eqb, ltb, ◌&&◌, List, [], length, get_or, refl, sym, ap, ◌∙◌, arith, inl, inr, ◌⊎◌}
use Rattle.std.proofs.lemmas.Bool.{cases_eq, ne_eqb, ltb-true, ltb-false, lt-ltb, le-ltb}
use Rattle.nogood_watch.specs.Lists.{no_watch, Chained, moved}
use Rattle.nogood_watch.specs.Inside.{cell, is_live, home_of}
use Rattle.nogood_watch.specs.Nogoods.{literal}
use Rattle.nogood_watch.proofs.Chains.{chained_same, moved_at, moved_other}
use Rattle.nogood_watch.proofs.Walks.{home_live, home_past}

-- where the first x watches are at home, and the others are in no list
abbrev pub home_below : ℕ → (ℕ → ℕ) → ℕ → ℕ → ℕ
home_below x home past y = cond (ltb y x) (home y) past

below_in : (x : ℕ) (home : ℕ → ℕ) (past y : ℕ) → y < x → home_below x home past y ≡ home y
below_in x home past y h = ap (λ (b : Bool). cond b (home y) past) (lt-ltb y x h)

below_out : (x : ℕ) (home : ℕ → ℕ) (past y : ℕ) → x ≤ y → home_below x home past y ≡ past
below_out x home past y h = ap (λ (b : Bool). cond b (home y) past) (le-ltb y x h)

-- no list has any
none_linked : (home : ℕ → ℕ) (heads next : List ℕ) → length next ≤ no_watch → ((k : ℕ) → k < length heads → get_or heads k 0 ≡ no_watch) → ((y : ℕ) → length heads ≤ home y) → Chained home heads next
none_linked home heads next few none out = record {
  few = few;
  lists = λ k. [];
  chains = λ k h. none k h;
  once = λ k x h. sym (nobody k x h);
}
  where
    nobody : (k x : ℕ) → k < length heads → ◌≡◌ {A = ℕ} (cond (ltb x (length next) && eqb (home x) k) 1 0) 0
    nobody k x h = rw (ne_eqb (home x) k (λ e. omega (arith, out x, e, h))) (by (ltb x (length next)))
      where
        by : (b : Bool) → ◌≡◌ {A = ℕ} (cond (b && false) 1 0) 0
        by true = refl
        by false = refl

pub linked_none : (home : ℕ → ℕ) (past : ℕ) (heads next : List ℕ) → length next ≤ no_watch → length heads ≡ past → ((k : ℕ) → k < length heads → get_or heads k 0 ≡ no_watch)
    → Chained (home_below 0 home past) heads next
linked_none home past heads next few long none =
    none_linked (home_below 0 home past) heads next few none (λ y. omega (arith, long, below_out 0 home past y (omega arith)))

-- one watch more is at home
pub linked_live : (past values : ℕ) (live : List Bool) (w : List (ℕ × ℕ)) (heads next heads' next' : List ℕ) (x at : ℕ) → is_live live x ≡ true → at ≡ cell values (literal w x) → length heads ≡ past
    → Chained (home_below x (home_of past values live w) past) heads next
    → ((home : ℕ → ℕ) → Chained home heads next → length heads ≤ home x → Chained (moved home x at) heads' next')
    → Chained (home_below (x + 1) (home_of past values live w) past) heads' next'
linked_live past values live w heads next heads' next' x at up at-is long c linked =
    chained_same (moved (home_below x home past) x at) (home_below (x + 1) home past) heads' next'
    (linked (home_below x home past) c (omega (arith, long, below_out x home past x (omega arith)))) (λ y h. same y (cases_eq y x))
  where
    home : ℕ → ℕ
    home = home_of past values live w

    cut : (y : ℕ) → (y ≡ x → ⊥) → (y < x) ⊎ (x + 1 ≤ y)
    cut y n = by (ltb y x) refl
      where
        by : (b : Bool) → ltb y x ≡ b → (y < x) ⊎ (x + 1 ≤ y)
        by true e = inl (ltb-true y x e)
        by false e = inr (omega (arith, ltb-false y x e, n))

    same : (y : ℕ) → (y ≡ x) ⊎ (y ≡ x → ⊥) → home_below (x + 1) home past y ≡ moved (home_below x home past) x at y
    same y (inl e) =
        below_in (x + 1) home past y (omega (arith, e)) ∙ ap home e ∙ home_live past values live w x up ∙ sym at-is ∙ sym (ap (moved (home_below x home past) x at) e ∙ moved_at (home_below x home past) x at)
    same y (inr n) = by (cut y n)
      where
        by : (y < x) ⊎ (x + 1 ≤ y) → home_below (x + 1) home past y ≡ moved (home_below x home past) x at y
        by (inl l) = below_in (x + 1) home past y (omega (arith, l)) ∙ sym (moved_other (home_below x home past) x at y n ∙ below_in x home past y l)
        by (inr l) = below_out (x + 1) home past y l ∙ sym (moved_other (home_below x home past) x at y n ∙ below_out x home past y (omega (arith, l)))

-- one watch more is in no list
pub linked_past : (past values : ℕ) (live : List Bool) (w : List (ℕ × ℕ)) (heads next : List ℕ) (x : ℕ) → is_live live x ≡ false
    → Chained (home_below x (home_of past values live w) past) heads next → Chained (home_below (x + 1) (home_of past values live w) past) heads next
linked_past past values live w heads next x down c = chained_same (home_below x home past) (home_below (x + 1) home past) heads next c (λ y h. same y (cases_eq y x))
  where
    home : ℕ → ℕ
    home = home_of past values live w

    same : (y : ℕ) → (y ≡ x) ⊎ (y ≡ x → ⊥) → home_below (x + 1) home past y ≡ home_below x home past y
    same y (inl e) = below_in (x + 1) home past y (omega (arith, e)) ∙ ap home e ∙ home_past past values live w x down ∙ sym (below_out x home past y (omega (arith, e)))
    same y (inr n) = by (ltb y x) refl
      where
        by : (b : Bool) → ltb y x ≡ b → home_below (x + 1) home past y ≡ home_below x home past y
        by true e = let l = ltb-true y x e in below_in (x + 1) home past y (omega (arith, l)) ∙ sym (below_in x home past y l)
        by false e = let l = ltb-false y x e in below_out (x + 1) home past y (omega (arith, l, n)) ∙ sym (below_out x home past y l)

-- all are at home
pub linked_all : (past values : ℕ) (live : List Bool) (w : List (ℕ × ℕ)) (heads next : List ℕ) (x : ℕ) → length next ≤ x
    → Chained (home_below x (home_of past values live w) past) heads next → Chained (home_of past values live w) heads next
linked_all past values live w heads next x long c =
    chained_same (home_below x (home_of past values live w) past) (home_of past values live w) heads next c (λ y h. sym (below_in x (home_of past values live w) past y (omega (arith, h, long))))
