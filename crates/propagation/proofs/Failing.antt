-- Where a call has failed, its failure is the answer: what it says is said of the problem that the caller was given.

use Rattle.std.proofs.Common.{◌≡◌, Bool, false, List, Option, Result, IsErrAnd, IfErr, subst}
use Rattle.std.specs.Result.{is_ok}
use Rattle.std.proofs.lemmas.Result.{err_from_is_err_and}
use Rattle.graph_theory.specs.Embedding.{Problem}
use Rattle.search_theory.specs.Claims.{NoneInside}
use Rattle.domain_bits.specs.Removals.{State, in_domain}
use Rattle.nogood_watch.specs.Nogoods as watched
use Rattle.recorder.specs.declared.change.Failure.{Failure}
use Rattle.recorder.specs.Recording.{Change, CountedSet}
use Rattle.recorder.specs.Telling.{Fails, IsEmptied}
use Rattle.recorder.proofs.Telling.{fails_emptied}
use Rattle.propagation.specs.Acting.{ActedAfter, InForceAfter, WaitAfter}
use Rattle.propagation.specs.Propagation.{Narrows, Propagates, Visited}
use Rattle.propagation.proofs.Narrowing.{none_narrowed}

pub visited_failed : (answer : Result (Unit {0}) Failure) (failure : Failure) (q r : Problem) (old new : State) (waiting after : List Bool) → IsErrAnd answer (λ y. y ≡ failure) → r ≡ q
    → Narrows r old new × NoneInside r (in_domain new) → Visited (is_ok answer) q old waiting new after
visited_failed answer failure q r old new waiting after is same g =
    rw (err_from_is_err_and answer is).1 (subst (λ (x : Problem). Visited false x old waiting new after) same (g.0, none_narrowed r old new g.0 g.1))

pub propagated_failed : (answer : Result (Unit {0}) Failure) (failure : Failure) (q r : Problem) (old new : State) → IsErrAnd answer (λ y. y ≡ failure) → r ≡ q
    → Narrows r old new × NoneInside r (in_domain old) → Propagates (is_ok answer) q old new
propagated_failed answer failure q r old new is same g = rw (err_from_is_err_and answer is).1 (subst (λ (x : Problem). Propagates false x old new) same g)

-- a failure of an empty domain
pub fails_where_emptied : (answer : Result (Unit {0}) Failure) (failure : Failure) (q r : Problem) (s : Option watched.State) (d : State) (tells : Option (List Change)) (short : Option CountedSet)
    → IsErrAnd answer (λ y. y ≡ failure) → r ≡ q → IsEmptied r d failure → IfErr answer (Fails q s d tells short)
fails_where_emptied answer failure q r s d tells short is same none =
    let p = err_from_is_err_and answer is in
    rw (p.1, p.2) (fails_emptied q s d tells short failure (subst (λ (x : Problem). IsEmptied x d failure) same none))

pub fails_as : (answer : Result (Unit {0}) Failure) (failure : Failure) (q r : Problem) (s : Option watched.State) (d : State) (tells : Option (List Change)) (short : Option CountedSet)
    → IsErrAnd answer (λ y. y ≡ failure) → r ≡ q → Fails r s d tells short failure → IfErr answer (Fails q s d tells short)
fails_as answer failure q r s d tells short is same fails =
    let p = err_from_is_err_and answer is in
    rw (p.1, p.2) (subst (λ (x : Problem). Fails x s d tells short failure) same fails)

-- nothing has to be so of the nogoods then
pub waits_failed : (answer : Result (Unit {0}) Failure) (failure : Failure) (d : State) (waiting : List Bool) (n : Option watched.State) → IsErrAnd answer (λ y. y ≡ failure) → WaitAfter (is_ok answer) d waiting n
waits_failed answer failure d waiting n is = rw (err_from_is_err_and answer is).1 tt

pub in_force_failed : (answer : Result (Unit {0}) Failure) (failure : Failure) (d : State) (n : Option watched.State) → IsErrAnd answer (λ y. y ≡ failure) → InForceAfter (is_ok answer) d n
in_force_failed answer failure d n is = rw (err_from_is_err_and answer is).1 tt

pub acted_failed : (answer : Result (Unit {0}) Failure) (failure : Failure) (d : State) (n : Option watched.State) → IsErrAnd answer (λ y. y ≡ failure) → ActedAfter (is_ok answer) d n
acted_failed answer failure d n is = rw (err_from_is_err_and answer is).1 tt
