-- Where a call has failed nothing has to be so of what would have been made.

use Rattle.std.proofs.Common.{Result, Ok, Err, IsErrAnd, IfOk}

pub if_ok_failed : {A E : Type 0} (r : Result A E) (Q : E → Type 0) (P : A → Type 0) → IsErrAnd r Q → IfOk r P
if_ok_failed (Ok a) Q P is = absurd is
if_ok_failed (Err e) Q P is = tt
