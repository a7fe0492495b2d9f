-- Lists by index, as one number is put in or left out.
use Rattle.std.proofs.Common.{◌≡◌, ℕ, ◌+◌, ◌<◌, ◌≤◌, zero, suc, Bool, true, false, cond, eqb, ltb, ◌&&◌, List, [], ◌∷◌, length, get_or, set, refl, sym, ap, ◌∙◌, subst, arith, inl, inr, ◌⊎◌, ◌++◌, length-append}
use Rattle.std.proofs.lemmas.Bool.{cases_eq, eq-eqb, ne_eqb, ltb-true, ltb-false, lt-ltb, le-ltb}
use Rattle.std.proofs.lemmas.List.{get_or-set_same, get_or-set_other, length-set, get_or_append_left}
use Rattle.nogood_watch.specs.Lists.{no_watch, times, Chain, IsOnceEach, Chained, moved, renamed, followed}
use Rattle.nogood_watch.proofs.Times.{times_same, times_other, once_length}

-- what stands in a list is one of the numbers
pub chain_below : (next : List ℕ) (at : ℕ) (l : List ℕ) (x : ℕ) → Chain next at l → 0 < times l x → x < length next
chain_below next at [] x c h = absurd (omega arith)
chain_below next at (y ∷ l) x c h = by (cases_eq y x) (chain_below next (get_or next y 0) l x c.2)
  where
    by : (y ≡ x) ⊎ (y ≡ x → ⊥) → (0 < times l x → x < length next) → x < length next
    by (inl e) more = omega (arith, c.1)
    by (inr n) more = more (omega (arith, times_other y x l n))

-- another number's next changes nothing
pub chain_frame : (next : List ℕ) (at : ℕ) (l : List ℕ) (x v : ℕ) → Chain next at l → times l x ≡ 0 → Chain (set next x v) at l
chain_frame next at [] x v c h = c
chain_frame next at (y ∷ l) x v c h = by (cases_eq y x) (chain_frame next (get_or next y 0) l x v c.2)
  where
    by : (y ≡ x) ⊎ (y ≡ x → ⊥) → (times l x ≡ 0 → Chain (set next x v) (get_or next y 0) l) → Chain (set next x v) at (y ∷ l)
    by (inl e) more = absurd (omega (arith, rw (eq-eqb y x e) at h))
    by (inr n) more = (c.0, rw (length-set next x v) c.1, rw (get_or-set_other next x y v 0 n) (more (sym (times_other y x l n) ∙ h)))

-- a list that begins at no number is empty
pub chain_none : (next : List ℕ) (at : ℕ) (l : List ℕ) (x : ℕ) → length next ≤ no_watch → Chain next at l → at ≡ no_watch → times l x ≡ 0
chain_none next at [] x few c e = refl
chain_none next at (y ∷ l) x few c e = absurd (omega (arith, c.0, c.1))

-- following finds the list
pub followed_is : (n : ℕ) (next : List ℕ) (at : ℕ) (l : List ℕ) → length next ≤ no_watch → Chain next at l → length l ≤ n → followed n next at ≡ l
followed_is zero next at [] few c h = refl
followed_is zero next at (y ∷ l) few c h = absurd (omega arith)
followed_is (suc n) next at [] few c h = by (ltb at (length next)) refl
  where
    by : (b : Bool) → ltb at (length next) ≡ b → followed (suc n) next at ≡ []
    by true e = absurd (omega (arith, ltb-true at (length next) e, c))
    by false e = rw e refl
followed_is (suc n) next at (y ∷ l) few c h =
    rw (c.0, lt-ltb y (length next) c.1) (ap (λ k. y ∷ k) (followed_is n next (get_or next y 0) l few c.2 (omega arith)))

pub chain_length : (next : List ℕ) (at : ℕ) (l : List ℕ) → Chain next at l → IsOnceEach l → length l ≤ length next
chain_length next at l c o = once_length l (length next) o (λ q h. chain_below next at l q c h)

-- ---- homes

cond-false : (b : Bool) → ◌≡◌ {A = ℕ} (cond (b && false) 1 0) 0
cond-false true = refl
cond-false false = refl

-- who is at home elsewhere is not in the list
pub not_home : (home : ℕ → ℕ) (heads next : List ℕ) (k x : ℕ) (c : Chained home heads next) → k < length heads → (home x ≡ k → ⊥) → times (c.lists k) x ≡ 0
not_home home heads next k x c h ne = c.once k x h ∙ rw (ne_eqb (home x) k ne) (cond-false (ltb x (length next)))

-- who is at home there is in it once
pub at_home : (home : ℕ → ℕ) (heads next : List ℕ) (k x : ℕ) (c : Chained home heads next) → k < length heads → x < length next → home x ≡ k → times (c.lists k) x ≡ 1
at_home home heads next k x c h l e = c.once k x h ∙ rw (lt-ltb x (length next) l, eq-eqb (home x) k e) refl

-- and only who is
pub home_is : (home : ℕ → ℕ) (heads next : List ℕ) (k x : ℕ) (c : Chained home heads next) → k < length heads → 0 < times (c.lists k) x → home x ≡ k
home_is home heads next k x c h p = by (cases_eq (home x) k)
  where
    by : (home x ≡ k) ⊎ (home x ≡ k → ⊥) → home x ≡ k
    by (inl e) = e
    by (inr n) = absurd (omega (arith, not_home home heads next k x c h n))

pub once_each : (home : ℕ → ℕ) (heads next : List ℕ) (k : ℕ) (c : Chained home heads next) → k < length heads → IsOnceEach (c.lists k)
once_each home heads next k c h y = rw (c.once k y h) (by (ltb y (length next) && eqb (home y) k))
  where
    by : (b : Bool) → cond b 1 0 ≤ 1
    by true = omega arith
    by false = omega arith

-- homes that agree on the numbers
pub chained_same : (home home' : ℕ → ℕ) (heads next : List ℕ) → Chained home heads next → ((y : ℕ) → y < length next → home' y ≡ home y) → Chained home' heads next
chained_same home home' heads next c same = record {
  few = c.few;
  lists = c.lists;
  chains = c.chains;
  once = λ k x h. c.once k x h ∙ by k x (ltb x (length next)) refl;
}
  where
    by : (k x : ℕ) (b : Bool) → ltb x (length next) ≡ b → ◌≡◌ {A = ℕ} (cond (ltb x (length next) && eqb (home x) k) 1 0) (cond (ltb x (length next) && eqb (home' x) k) 1 0)
    by k x true e = rw (same x (ltb-true x (length next) e)) refl
    by k x false e = rw e refl

pub once_moved : (home : ℕ → ℕ) (x to n k : ℕ) (l l' : List ℕ) → x < n → ((y : ℕ) → times l y ≡ cond (ltb y n && eqb (home y) k) 1 0)
    → ((y : ℕ) → (y ≡ x → ⊥) → times l' y ≡ times l y) → times l' x ≡ cond (eqb to k) 1 0
    → (y : ℕ) → times l' y ≡ cond (ltb y n && eqb (moved home x to y) k) 1 0
once_moved home x to n k l l' x-in once others at-x y = by (cases_eq y x)
  where
    by : (y ≡ x) ⊎ (y ≡ x → ⊥) → times l' y ≡ cond (ltb y n && eqb (moved home x to y) k) 1 0
    by (inl e) = rw (e, eq-eqb x x refl, lt-ltb x n x-in) at-x
    by (inr ne) = others y ne ∙ once y ∙ rw (ne_eqb y x ne) refl

-- ---- one number in front of a list

pub linked : (home : ℕ → ℕ) (heads next : List ℕ) (to x : ℕ) → Chained home heads next → to < length heads → x < length next → length heads ≤ home x
    → Chained (moved home x to) (set heads to x) (set next x (get_or heads to 0))
linked home heads next to x c to-in x-in out = record {
  few = rw (length-set next x (get_or heads to 0)) c.few;
  lists = λ k. cond (eqb k to) (x ∷ c.lists k) (c.lists k);
  chains = λ k h. chain k (rw (length-set heads to x) at h) (cases_eq k to);
  once = λ k y h. rw (length-set next x (get_or heads to 0)) (once k (rw (length-set heads to x) at h) y);
}
  where
    none : (k : ℕ) → k < length heads → times (c.lists k) x ≡ 0
    none k h = not_home home heads next k x c h (λ e. omega arith)

    chain : (k : ℕ) → k < length heads → (k ≡ to) ⊎ (k ≡ to → ⊥)
        → Chain (set next x (get_or heads to 0)) (get_or (set heads to x) k 0) (cond (eqb k to) (x ∷ c.lists k) (c.lists k))
    chain k h (inl e) =
        rw (e, eq-eqb to to refl, get_or-set_same heads to x 0 to-in) (
          refl,
          rw (length-set next x (get_or heads to 0)) x-in,
          rw (get_or-set_same next x (get_or heads to 0) 0 x-in)
              (chain_frame next (get_or heads to 0) (c.lists to) x (get_or heads to 0) (c.chains to to-in) (none to to-in)),
        )
    chain k h (inr ne) =
        rw (ne_eqb k to ne, get_or-set_other heads to k x 0 ne)
        (chain_frame next (get_or heads k 0) (c.lists k) x (get_or heads to 0) (c.chains k h) (none k h))

    once : (k : ℕ) → k < length heads → (y : ℕ) → times (cond (eqb k to) (x ∷ c.lists k) (c.lists k)) y ≡ cond (ltb y (length next) && eqb (moved home x to y) k) 1 0
    once k h = once_moved home x to (length next) k (c.lists k) (cond (eqb k to) (x ∷ c.lists k) (c.lists k)) x-in (λ y. c.once k y h) (λ y ne. other y ne (cases_eq k to)) (same (cases_eq k to))
      where
        other : (y : ℕ) → (y ≡ x → ⊥) → (k ≡ to) ⊎ (k ≡ to → ⊥) → times (cond (eqb k to) (x ∷ c.lists k) (c.lists k)) y ≡ times (c.lists k) y
        other y ne (inl e) = rw (eq-eqb k to e) (times_other x y (c.lists k) (λ f. ne (sym f)))
        other y ne (inr n) = rw (ne_eqb k to n) refl

        same : (k ≡ to) ⊎ (k ≡ to → ⊥) → times (cond (eqb k to) (x ∷ c.lists k) (c.lists k)) x ≡ cond (eqb to k) 1 0
        same (inl e) = rw (eq-eqb k to e, eq-eqb to k (sym e)) (times_same x (c.lists k) ∙ omega (arith, none k h))
        same (inr n) = rw (ne_eqb k to n, ne_eqb to k (λ f. n (sym f))) (none k h)

-- ---- a whole list

pub taken : (home : ℕ → ℕ) (heads next : List ℕ) (from to : ℕ) → Chained home heads next → from < length heads → to < length heads → (from ≡ to → ⊥)
    → get_or heads to 0 ≡ no_watch → Chained (renamed home from to) (set (set heads to (get_or heads from 0)) from no_watch) next
taken home heads next from to c from-in to-in apart none = record {
  few = c.few;
  lists = λ k. cond (eqb k from) [] (cond (eqb k to) (c.lists from) (c.lists k));
  chains = λ k h. chain k (rw (length-set (set heads to (get_or heads from 0)) from no_watch, length-set heads to (get_or heads from 0)) at h) (cases_eq k from) (cases_eq k to);
  once = λ k y h. once k (rw (length-set (set heads to (get_or heads from 0)) from no_watch, length-set heads to (get_or heads from 0)) at h) y (cases_eq k from) (cases_eq k to) (cases_eq (home y) from);
}
  where
    from-in' : from < length (set heads to (get_or heads from 0))
    from-in' = rw (length-set heads to (get_or heads from 0)) from-in

    chain : (k : ℕ) → k < length heads → (k ≡ from) ⊎ (k ≡ from → ⊥) → (k ≡ to) ⊎ (k ≡ to → ⊥)
        → Chain next (get_or (set (set heads to (get_or heads from 0)) from no_watch) k 0) (cond (eqb k from) [] (cond (eqb k to) (c.lists from) (c.lists k)))
    chain k h (inl e) _ = rw (e, eq-eqb from from refl, get_or-set_same (set heads to (get_or heads from 0)) from no_watch 0 from-in') refl
    chain k h (inr n) (inl e) =
        rw (ne_eqb k from n, get_or-set_other (set heads to (get_or heads from 0)) from k no_watch 0 n, e, eq-eqb to to refl, get_or-set_same heads to (get_or heads from 0) 0 to-in) (c.chains from from-in)
    chain k h (inr n) (inr m) =
        rw (ne_eqb k from n, get_or-set_other (set heads to (get_or heads from 0)) from k no_watch 0 n, ne_eqb k to m, get_or-set_other heads to k (get_or heads from 0) 0 m) (c.chains k h)

    empty : (y : ℕ) → times (c.lists to) y ≡ 0
    empty y = chain_none next (get_or heads to 0) (c.lists to) y c.few (c.chains to to-in) none

    once : (k : ℕ) → k < length heads → (y : ℕ) → (k ≡ from) ⊎ (k ≡ from → ⊥) → (k ≡ to) ⊎ (k ≡ to → ⊥) → (home y ≡ from) ⊎ (home y ≡ from → ⊥)
        → times (cond (eqb k from) [] (cond (eqb k to) (c.lists from) (c.lists k))) y ≡ cond (ltb y (length next) && eqb (renamed home from to y) k) 1 0
    once k h y (inl e) _ (inl f) = rw (eq-eqb k from e, eq-eqb (home y) from f, ne_eqb to k (λ g. apart (sym (g ∙ e)))) (sym (cond-false (ltb y (length next))))
    once k h y (inl e) _ (inr g) = rw (eq-eqb k from e, ne_eqb (home y) from g, ne_eqb (home y) k (λ i. g (i ∙ e))) (sym (cond-false (ltb y (length next))))
    once k h y (inr n) (inl e) (inl f) = rw (ne_eqb k from n, eq-eqb k to e, eq-eqb (home y) from f, eq-eqb to k (sym e)) (c.once from y from-in ∙ rw (eq-eqb (home y) from f) refl)
    once k h y (inr n) (inl e) (inr g) =
        rw (ne_eqb k from n, eq-eqb k to e, ne_eqb (home y) from g)
        (c.once from y from-in ∙ rw (ne_eqb (home y) from g) (cond-false (ltb y (length next))) ∙ sym (empty y) ∙ c.once to y to-in ∙ rw e refl)
    once k h y (inr n) (inr m) (inl f) =
        rw (ne_eqb k from n, ne_eqb k to m, eq-eqb (home y) from f, ne_eqb to k (λ g. m (sym g)))
        (c.once k y h ∙ rw (ne_eqb (home y) k (λ g. n (sym g ∙ f))) refl)
    once k h y (inr n) (inr m) (inr g) = rw (ne_eqb k from n, ne_eqb k to m, ne_eqb (home y) from g) (c.once k y h)

pub moved_at : (home : ℕ → ℕ) (x k : ℕ) → moved home x k x ≡ k
moved_at home x k = rw (eq-eqb x x refl) refl

pub moved_other : (home : ℕ → ℕ) (x k y : ℕ) → (y ≡ x → ⊥) → moved home x k y ≡ home y
moved_other home x k y ne = rw (ne_eqb y x ne) refl

pub moved_twice : (home : ℕ → ℕ) (x j k y : ℕ) → moved home x k y ≡ moved (moved home x j) x k y
moved_twice home x j k y = by (cases_eq y x)
  where
    by : (y ≡ x) ⊎ (y ≡ x → ⊥) → moved home x k y ≡ moved (moved home x j) x k y
    by (inl e) = rw (eq-eqb y x e) refl
    by (inr n) = rw (ne_eqb y x n) refl

-- the first of a list is at home there
pub first_home : (home : ℕ → ℕ) (heads next : List ℕ) (k : ℕ) → Chained home heads next → k < length heads → (get_or heads k 0 ≡ no_watch → ⊥)
    → (get_or heads k 0 < length next) × (home (get_or heads k 0) ≡ k)
first_home home heads next k c h some = by (c.lists k) (c.chains k h) (λ p. home_is home heads next k (get_or heads k 0) c h p)
  where
    by : (l : List ℕ) → Chain next (get_or heads k 0) l → (0 < times l (get_or heads k 0) → home (get_or heads k 0) ≡ k) → (get_or heads k 0 < length next) × (home (get_or heads k 0) ≡ k)
    by [] d f = absurd (some d)
    by (y ∷ l) d f = (omega (arith, d.0, d.1), f (rw (eq-eqb y (get_or heads k 0) (sym d.0)) (omega arith)))

-- nobody is at home where no list begins
pub no_home : (home : ℕ → ℕ) (heads next : List ℕ) (k x : ℕ) → Chained home heads next → k < length heads → get_or heads k 0 ≡ no_watch → x < length next → home x ≡ k → ⊥
no_home home heads next k x c h none x-in e =
    omega (arith, at_home home heads next k x c h x-in e, chain_none next (get_or heads k 0) (c.lists k) x c.few (c.chains k h) none)

-- where nobody is at home, no list begins
pub chain_empty : (home : ℕ → ℕ) (heads next : List ℕ) (k : ℕ) → Chained home heads next → k < length heads → ((x : ℕ) → x < length next → home x ≡ k → ⊥) → get_or heads k 0 ≡ no_watch
chain_empty home heads next k c h none = by (c.lists k) (c.chains k h) (λ y p. home_is home heads next k y c h p)
  where
    by : (l : List ℕ) → Chain next (get_or heads k 0) l → ((y : ℕ) → 0 < times l y → home y ≡ k) → get_or heads k 0 ≡ no_watch
    by [] d f = d
    by (y ∷ l) d f = absurd (none y d.1 (f y (rw (eq-eqb y y refl) (omega arith))))

-- one number more, in no list
chain_grow : (next : List ℕ) (at v : ℕ) (l : List ℕ) → Chain next at l → Chain (next ++ v ∷ []) at l
chain_grow next at v [] c = c
chain_grow next at v (y ∷ l) c =
    (c.0, rw (length-append next (v ∷ [])) (omega (arith, c.1)), rw (get_or_append_left next (v ∷ []) 0 y c.1) (chain_grow next (get_or next y 0) v l c.2))

pub grown : (home : ℕ → ℕ) (heads next : List ℕ) (v : ℕ) → Chained home heads next → length next + 1 ≤ no_watch → Chained (moved home (length next) (length heads)) heads (next ++ v ∷ [])
grown home heads next v c few = record {
  few = rw (length-append next (v ∷ [])) few;
  lists = c.lists;
  chains = λ k h. chain_grow next (get_or heads k 0) v (c.lists k) (c.chains k h);
  once = λ k y h. rw (length-append next (v ∷ [])) (once k y h (cases_eq y (length next)));
}
  where
    longer : (y : ℕ) → (y ≡ length next → ⊥) → ltb y (length next + 1) ≡ ltb y (length next)
    longer y n = by (ltb y (length next)) refl
      where
        by : (b : Bool) → ltb y (length next) ≡ b → ltb y (length next + 1) ≡ ltb y (length next)
        by true e = let l = ltb-true y (length next) e in rw e (lt-ltb y (length next + 1) (omega arith))
        by false e = let l = ltb-false y (length next) e in rw e (le-ltb y (length next + 1) (omega arith))

    once : (k y : ℕ) → k < length heads → (y ≡ length next) ⊎ (y ≡ length next → ⊥) → times (c.lists k) y ≡ cond (ltb y (length next + 1) && eqb (moved home (length next) (length heads) y) k) 1 0
    once k y h (inl e) =
        let away : ◌≡◌ {A = ℕ} (cond (ltb y (length next + 1) && eqb (moved home (length next) (length heads) y) k) 1 0) 0 =
        rw (eq-eqb y (length next) e, ne_eqb (length heads) k (λ f. omega arith)) (cond-false (ltb y (length next + 1))) in
        c.once k y h ∙ rw (le-ltb y (length next) (omega arith)) (sym away)
    once k y h (inr n) = c.once k y h ∙ rw (longer y n, ne_eqb y (length next) n) refl

-- and put in front of a list
pub put : (home : ℕ → ℕ) (heads heads' next next1 next' : List ℕ) (v at : ℕ) → Chained home heads next → length next + 1 ≤ no_watch → next1 ≡ next ++ v ∷ []
    → ((home : ℕ → ℕ) → Chained home heads next1 → length heads ≤ home (length next) → Chained (moved home (length next) at) heads' next')
    → Chained (moved home (length next) at) heads' next'
put home heads heads' next next1 next' v at c few e linked =
    let c1 = subst (Chained (moved home (length next) (length heads)) heads) (sym e) (grown home heads next v c few) in
    chained_same (moved (moved home (length next) (length heads)) (length next) at) (moved home (length next) at) heads' next'
    (linked (moved home (length next) (length heads)) c1 (omega (arith, moved_at home (length next) (length heads))))
    (λ y h. moved_twice home (length next) (length heads) at y)
