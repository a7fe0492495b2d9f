-- A result that comes from a failure: of what it would have made nothing has to be so.

use Rattle.std.proofs.Common.{Result, Ok, Err, IsErrAnd, IfOk, OnOk}

pub if_ok_failed : {A E : Type 0} (r : Result A E) (Q : E → Type 0) (P : A → Type 0) → IsErrAnd r Q → IfOk r P
if_ok_failed (Ok a) Q P is = absurd is
if_ok_failed (Err e) Q P is = tt

pub on_ok_failed : {A E : Type 0} (r : Result A E) (Q : E → Type 0) (P : Type 0) → IsErrAnd r Q → OnOk r P
on_ok_failed (Ok a) Q P is = absurd is
on_ok_failed (Err e) Q P is = tt
