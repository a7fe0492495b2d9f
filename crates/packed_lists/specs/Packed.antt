-- Lists that lie one after another in one.

use Rattle.std.specs.Prelude.{ℕ, ◌-◌, ◌≤◌, List, [], ◌∷◌, take, drop, refl}
use Rattle.std.specs.Coded.{Coded, code_by, coded×, coded_list}

-- Lists, and behind them one that is still written.
pub record Written (A : Type 0) : Type 0 where
  pub lists : List (List A)
  pub rest : List A

-- Such lists are stored as the pair of both.
abbrev pub written_code : {A : Type 0} → Coded A → Coded (Written A)
written_code {A} code =
    code_by (List (List A) × List A) (coded× (coded_list (coded_list code)) (coded_list code))
    (λ w. (w.lists, w.rest)) (λ p. record { lists = p.0; rest = p.1 }) (λ _. refl)

-- The items from one place up to another.
abbrev pub part : {A : Type 0} → List A → ℕ → ℕ → List A
part items start end = take (end - start) (drop start items)

-- The lists that end at these places, the first of which begins at a place.
abbrev pub lists_from : {A : Type 0} → List A → ℕ → List ℕ → List (List A)
lists_from items start [] = []
lists_from items start (e ∷ ends) = part items start e ∷ lists_from items e ends

-- Where the last of them ends.
abbrev pub last_end : ℕ → List ℕ → ℕ
last_end start [] = start
last_end start (e ∷ ends) = last_end e ends

-- The places rise, from a first one up to so many.
abbrev pub AreEnds : ℕ → List ℕ → ℕ → Type 0
AreEnds start [] n = start ≤ n
AreEnds start (e ∷ ends) n = (start ≤ e) × AreEnds e ends n

-- What items and ends are: the lists that are closed, and what stands behind the last end.
abbrev pub written : {A : Type 0} → List A → List ℕ → Written A
written items ends = record {
  lists = lists_from items 0 ends;
  rest = drop (last_end 0 ends) items;
}
