-- What a walk over the members of one word of a row comes to.
use Rattle.std.specs.Prelude.{◌≡◌, ℕ, ◌+◌, ◌*◌, ◌<◌, ◌≤◌, true, List}
use Rattle.bit_rows.specs.BitRows.{has}
use Rattle.biased_choice.specs.Bias.{below, weight_of}
use Rattle.biased_choice.specs.declared.WordEnd.{WordEnd}
use Rattle.biased_choice.specs.declared.WordEnd.TheVariants.{Chosen, Left}

-- v is the member at which the running sum of weights passes a number
pub record PassesAt (row degrees : List ℕ) (number v : ℕ) : Type 0 where
  pub member : has row v ≡ true
  pub from : below row degrees v ≤ number
  pub upto : number < below row degrees v + weight_of row degrees v

-- of so much that is left before the word at a place: the member of the word at which the weights pass it, or what of it is left behind the word
abbrev pub Passes : WordEnd → List ℕ → List ℕ → ℕ → ℕ → Type 0
Passes (Chosen v) row degrees place rest = PassesAt row degrees (rest + below row degrees
    (64 * place)) v
Passes (Left left) row degrees place rest = left + below row degrees (64 * (place + 1))
    ≡ rest + below row degrees (64 * place)
