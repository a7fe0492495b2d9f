-- Which guesses are among the changes that are told.

use Rattle.std.proofs.Common.{◌≡◌, ℕ, List, ◌∷◌, Option, Some, None, sym, subst, inl, inr}
use Rattle.recorder.specs.declared.change.Cause.TheVariants as cause
use Rattle.recorder.specs.Recording.{Change, LeftOne, LeftOthers, LeftOver, Took, MayTake, KeepsSame, IsAmong, HasGuess, NoNewGuess}

-- The change is a guess.
abbrev pub IsGuess : Change → Type 0
IsGuess (LeftOne p cause.First from) = ⊥
IsGuess (LeftOne p (cause.Guess t) from) = Unit {0}
IsGuess (LeftOne p (cause.Vertex r t) from) = ⊥
IsGuess (LeftOne p (cause.Nogood name) from) = ⊥
IsGuess (LeftOne p (cause.Edge r u direction) from) = ⊥
IsGuess (LeftOne p (cause.Order k u side) from) = ⊥
IsGuess (LeftOthers centre vertices values from) = ⊥
IsGuess (LeftOver p t direction vertices values from) = ⊥

-- where nothing is told, no guess is new
pub guesses_same : (b a : Option (List Change)) → a ≡ b → NoNewGuess b a
guesses_same b a same p t from h = subst (λ (cs : Option (List Change)). HasGuess cs p t from) same h

-- nor where nothing is kept
pub guesses_none : (b a : Option (List Change)) → a ≡ None → NoNewGuess b a
guesses_none b a none p t from h = absurd (subst (λ (cs : Option (List Change)). HasGuess cs p t from) none h)

pub guesses_kept : (b a : Option (List Change)) → KeepsSame b a → NoNewGuess b a
guesses_kept b a (inl same) = guesses_same b a same
guesses_kept b a (inr none) = guesses_none b a none

-- nor where another change is told than a guess
pub guesses_took : (b a : Option (List Change)) (c : Change) → (IsGuess c → ⊥) → Took b a c → NoNewGuess b a
guesses_took b a c other (inr none) = guesses_none b a none
guesses_took None a c other (inl kept) = guesses_none None a kept
guesses_took (Some cs) a c other (inl kept) = λ p t from h. by p t from (subst (λ (es : Option (List Change)). HasGuess es p t from) kept h)
  where
    by : (p t from : ℕ) → IsAmong (LeftOne p (cause.Guess t) from) (c ∷ cs) → IsAmong (LeftOne p (cause.Guess t) from) cs
    by p t from (inl is) = absurd (other (subst IsGuess (sym is) tt))
    by p t from (inr among) = among

pub guesses_may : (b a : Option (List Change)) (c : Change) → (IsGuess c → ⊥) → MayTake b a c → NoNewGuess b a
guesses_may b a c other (inl took) = guesses_took b a c other took
guesses_may b a c other (inr same) = guesses_same b a same

-- no guess is new by two steps
pub guesses_more : (b m a : Option (List Change)) → NoNewGuess b m → NoNewGuess m a → NoNewGuess b a
guesses_more b m a first second p t from h = first p t from (second p t from h)
