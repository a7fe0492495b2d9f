-- Steps that may fail, one after the other: the first failure is the answer.
use Rattle.std.specs.Prelude.{ℕ, Bool, true, false, Option, Some, None, Result, Ok, Err}

infixl 10 ◌>>=◌
-- The second step goes on with what the first gives.
abbrev pub ◌>>=◌ : {E A B : Type 0} → Result A E → (A → Result B E) → Result B E
(Ok x) >>= f = f x
(Err e) >>= f = Err e

-- Goes on where the test passes.
abbrev pub unless : {E : Type 0} → Bool → E → Result ℕ E
unless true e = Ok 0
unless false e = Err e

-- Goes on with the value if there is one.
abbrev pub or_fault : {E A : Type 0} → Option A → E → Result A E
or_fault (Some x) e = Ok x
or_fault None e = Err e
