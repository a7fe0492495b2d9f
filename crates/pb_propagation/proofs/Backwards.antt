-- A walk over a list from its end.
use Rattle.std.proofs.Common.{◌≡◌, ℕ, ◌<◌, ◌≤◌, ◌-◌, List, ◌∷◌, length, get_or, drop, ap, ◌∙◌, arith}
use Rattle.std.proofs.lemmas.List.{drop_more}

-- The items from one place on, the next one in front.
pub from_place : {X : Type 0} (xs : List X) (i : ℕ) (d : X) → 0 < i → i ≤ length xs → drop (i - 1) xs ≡ get_or xs (i - 1) d ∷ drop i xs
from_place xs i d h k = drop_more xs (i - 1) d (omega arith) ∙ ap (λ (n : ℕ). get_or xs (i - 1) d ∷ drop n xs) (omega arith)
