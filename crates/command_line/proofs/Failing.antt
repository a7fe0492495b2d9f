-- A result that is a failure, or that comes from one: what has to be so of what was made.

use Rattle.std.proofs.Common.{Result, Ok, Err, IsErrAnd, IfOk}

-- Of a failure nothing has to be so.
pub if_ok_failed : {A E : Type 0} (r : Result A E) (Q : E → Type 0) (P : A → Type 0) → IsErrAnd r Q → IfOk r P
if_ok_failed (Ok a) Q P is = absurd is
if_ok_failed (Err e) Q P is = tt

-- What follows of what is made is so of it.
pub if_ok_on : {A E : Type 0} (r : Result A E) (P Q : A → Type 0) → ((a : A) → P a → Q a) → IfOk r P → IfOk r Q
if_ok_on (Ok a) P Q on p = on a p
if_ok_on (Err e) P Q on p = tt
