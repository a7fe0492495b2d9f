-- References that are pushed one after the other.
use Rattle.std.proofs.Common.{◌≡◌, ℕ, zero, suc, ◌+◌, ◌<◌, List, [], ◌∷◌, ◌++◌, length, take, get_or, refl, sym, ap, ◌∙◌, append_assoc, arith}
use Rattle.std.specs.Prelude.{map}

module _ {A B : Type 0} (f : A → B) where
  map_next : (xs : List A) (i : ℕ) (d : A) → i < length xs → map f (take (suc i) xs) ≡ map f (take i xs) ++ f (get_or xs i d) ∷ []
  map_next [] i d below = absurd (omega (arith, below))
  map_next (x ∷ xs) zero d below = refl
  map_next (x ∷ xs) (suc i) d below = ap (λ (ys : List B). f x ∷ ys) (map_next xs i d (omega (arith, below)))

  -- One more is pushed.
  pub pushed_next : (old a b : List B) (xs : List A) (i : ℕ) (d : A) (y : B) → i < length xs → a ≡ old ++ map f (take i xs) → b ≡ a ++ y ∷ [] → y ≡ f (get_or xs i d)
      → b ≡ old ++ map f (take (i + 1) xs)
  pushed_next old a b xs i d y below before pushed is =
      let e : suc i ≡ i + 1 = omega arith in
      pushed ∙ ap (λ (ys : List B). ys ++ y ∷ []) before ∙ ap (λ (z : B). (old ++ map f (take i xs)) ++ z ∷ []) is ∙ append_assoc old (map f (take i xs)) (f (get_or xs i d) ∷ [])
      ∙ ap (λ (ys : List B). old ++ ys) (sym (map_next xs i d below)) ∙ ap (λ (n : ℕ). old ++ map f (take n xs)) e
