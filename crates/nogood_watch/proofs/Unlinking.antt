-- Lists by index, as the first number of one is taken out.
use Rattle.std.proofs.Common.{◌≡◌, ℕ, ◌<◌, cond, eqb, ltb, ◌&&◌, List, [], ◌∷◌, length, get_or, set, refl, sym, ◌∙◌, subst, arith, inl, inr, ◌⊎◌}
use Rattle.std.proofs.lemmas.Bool.{cases_eq, eq-eqb, ne_eqb}
use Rattle.std.proofs.lemmas.List.{get_or-set_same, get_or-set_other, length-set}
use Rattle.nogood_watch.specs.Lists.{times, Chain, Chained, moved, without}
use Rattle.nogood_watch.proofs.Times.{without_other, without_same}
use Rattle.nogood_watch.proofs.Chains.{not_home, at_home, once_moved}

without_one : (home : ℕ → ℕ) (heads heads' next next' : List ℕ) (from x : ℕ) (c : Chained home heads next) → from < length heads → x < length next → home x ≡ from
    → length heads' ≡ length heads → length next' ≡ length next
    → ((k : ℕ) → k < length heads → Chain next' (get_or heads' k 0) (cond (eqb k from) (without x (c.lists k)) (c.lists k)))
    → Chained (moved home x (length heads)) heads' next'
without_one home heads heads' next next' from x c from-in x-in there long long' chain = record {
  few = rw long' c.few;
  lists = λ k. cond (eqb k from) (without x (c.lists k)) (c.lists k);
  chains = λ k h. chain k (rw long at h);
  once = λ k y h. rw long' (once k (rw long at h) y);
}
  where
    once : (k : ℕ) → k < length heads → (y : ℕ) → times (cond (eqb k from) (without x (c.lists k)) (c.lists k)) y ≡ cond (ltb y (length next) && eqb (moved home x (length heads) y) k) 1 0
    once k h = once_moved home x (length heads) (length next) k (c.lists k) (cond (eqb k from) (without x (c.lists k)) (c.lists k)) x-in (λ y. c.once k y h)
        (λ y ne. other y ne (cases_eq k from)) (same (cases_eq k from))
      where
        other : (y : ℕ) → (y ≡ x → ⊥) → (k ≡ from) ⊎ (k ≡ from → ⊥) → times (cond (eqb k from) (without x (c.lists k)) (c.lists k)) y ≡ times (c.lists k) y
        other y ne (inl e) = rw (eq-eqb k from e) (without_other (c.lists k) x y ne)
        other y ne (inr n) = rw (ne_eqb k from n) refl

        same : (k ≡ from) ⊎ (k ≡ from → ⊥) → times (cond (eqb k from) (without x (c.lists k)) (c.lists k)) x ≡ cond (eqb (length heads) k) 1 0
        same (inl e) = rw (eq-eqb k from e, ne_eqb (length heads) k (λ f. omega arith)) (without_same (c.lists k) x (at_home home heads next k x c h x-in (there ∙ sym e)))
        same (inr n) = rw (ne_eqb k from n, ne_eqb (length heads) k (λ f. omega arith)) (not_home home heads next k x c h (λ f. n (sym f ∙ there)))

pub unlinked : (home : ℕ → ℕ) (heads next : List ℕ) (from x : ℕ) → Chained home heads next → from < length heads → x < length next → home x ≡ from
    → get_or heads from 0 ≡ x → Chained (moved home x (length heads)) (set heads from (get_or next x 0)) next
unlinked home heads next from x c from-in x-in there first =
    without_one home heads (set heads from (get_or next x 0)) next next from x c from-in x-in there (length-set heads from (get_or next x 0)) refl (λ k h. chain k h (cases_eq k from))
  where
    front : (l : List ℕ) → Chain next (get_or heads from 0) l → times l x ≡ 1 → Chain next (get_or next x 0) (without x l)
    front [] d h = absurd (omega arith)
    front (y ∷ l) d h = let e : y ≡ x = sym d.0 ∙ first in rw (eq-eqb y x e) (subst (λ k. Chain next (get_or next k 0) l) e d.2)

    chain : (k : ℕ) → k < length heads → (k ≡ from) ⊎ (k ≡ from → ⊥)
        → Chain next (get_or (set heads from (get_or next x 0)) k 0) (cond (eqb k from) (without x (c.lists k)) (c.lists k))
    chain k h (inl e) = rw (e, eq-eqb from from refl, get_or-set_same heads from (get_or next x 0) 0 from-in) (front (c.lists from) (c.chains from from-in) (at_home home heads next from x c from-in x-in there))
    chain k h (inr n) = rw (ne_eqb k from n, get_or-set_other heads from k (get_or next x 0) 0 n) (c.chains k h)
