-- What the logs of workers say beside all rows that they share.
use Rattle.std.proofs.Common.{◌≡◌, ℕ, ◌+◌, List, [], ◌∷◌, ◌++◌, map, length, get_or, Option, Some, None, sym, ap, ◌∙◌, append-nil, subst}
use Rattle.std.specs.Prelude.{All, IfSome}
use Rattle.std.proofs.lemmas.List.Elements.{All-map}
use Rattle.graph_theory.specs.Embedding.{Problem}
use Rattle.nogood_book.specs.declared.row.Row.{Row}
use Rattle.proof_logger.specs.Logging.{EndsInOwn, GrowsBeside}
use Rattle.restart_search.specs.declared.outcome.Outcome.{Outcome}
use Rattle.restart_search.specs.declared.outcome.Outcome.TheVariants.{Found, Refuted, Spent, Stopped, Interrupted, NoMemory}
use Rattle.restart_search.specs.Logging.{IfRefuted}
use Rattle.parallel_solve.specs.Teaming.{IsRefuter, refuted_by, StaysBeside, StaysWithoutOwn}
use Rattle.parallel_solve.proofs.Runs.{unmapped, refuter_kept, refuter_last, refuter_made}

-- who refuted first, once one more was heard
pub refuter_heard : {X : Type 0} (P : X → Type 0) (xs : List X) (x : X) (old : Option ℕ) (number : ℕ) (o : Outcome) → number ≡ length xs + 1 → IfRefuted o (P x) → IfSome old (IsRefuter P xs)
    → IfSome (refuted_by old number o) (IsRefuter P (xs ++ x ∷ []))
refuter_heard P xs x None number (Found m) last p old = tt
refuter_heard P xs x None number Refuted last p old = refuter_last P xs x number last p
refuter_heard P xs x None number Spent last p old = tt
refuter_heard P xs x None number (Stopped n) last p old = tt
refuter_heard P xs x None number Interrupted last p old = tt
refuter_heard P xs x None number NoMemory last p old = tt
refuter_heard P xs x (Some f) number (Found m) last p old = refuter_kept P xs x f old
refuter_heard P xs x (Some f) number Refuted last p old = refuter_kept P xs x f old
refuter_heard P xs x (Some f) number Spent last p old = refuter_kept P xs x f old
refuter_heard P xs x (Some f) number (Stopped n) last p old = refuter_kept P xs x f old
refuter_heard P xs x (Some f) number Interrupted last p old = refuter_kept P xs x f old
refuter_heard P xs x (Some f) number NoMemory last p old = refuter_kept P xs x f old

-- where a seat keeps no row for itself its rows are the book's
pub rows_alone : (rows seen own : List Row) → rows ≡ seen ++ own → own ≡ [] → rows ≡ seen
rows_alone rows seen own is none = is ∙ (ap (λ (z : List Row). seen ++ z) none ∙ append-nil seen)

-- what each log says beside the rows that its worker has it says beside all rows of the book: without those that the worker keeps for itself, and
-- then as others came beside that worker
pub says_more : {D K : Type 0} (log : D → K) (number : D → ℕ) (shared seen : D → List Row) (owner : K → ℕ) (says : K → Problem → List Row → Type 0) (q : Problem) (all : List Row) (ds : List D)
    → All (λ d. owner (log d) ≡ number d) ds → All (λ d. EndsInOwn (number d) (shared d) (seen d)) ds → All (λ d. GrowsBeside (number d) (shared d) all) ds
    → All (λ l. StaysWithoutOwn (owner l) (says l)) (map log ds) → All (λ l. StaysBeside (owner l) (says l)) (map log ds) → All (λ d. says (log d) q (seen d) → says (log d) q all) ds
says_more log number shared seen owner says q all ds same ends grows alone stays k d lt said =
    let e = get_or ds k d in
    unmapped log (λ l. StaysBeside (owner l) (says l)) ds stays k d lt q (shared e) all
    (subst (λ (n : ℕ). GrowsBeside n (shared e) all) (sym (same k d lt)) (grows k d lt))
    (unmapped log (λ l. StaysWithoutOwn (owner l) (says l)) ds alone k d lt q (shared e) (seen e)
    (subst (λ (n : ℕ). EndsInOwn n (shared e) (seen e)) (sym (same k d lt)) (ends k d lt)) said)

-- so all of them do
pub all_say : {D K : Type 0} (log : D → K) (seen : D → List Row) (says : K → Problem → List Row → Type 0) (q : Problem) (all : List Row) (ds : List D) (logs : List K) → logs ≡ map log ds
    → All (λ d. says (log d) q (seen d) → says (log d) q all) ds → All (λ d. says (log d) q (seen d)) ds → All (λ l. says l q all) logs
all_say log seen says q all ds logs are more each =
    subst (All (λ l. says l q all)) (sym are) (All-map (λ l. says l q all) log ds (λ k d lt. more k d lt (each k d lt)))

-- and who refuted does
pub refuter_among : {D K : Type 0} (log : D → K) (seen : D → List Row) (says : K → Problem → List Row → Type 0) (q : Problem) (all : List Row) (ds : List D) (logs : List K) (number : Option ℕ) → logs ≡ map log ds
    → All (λ d. says (log d) q (seen d) → says (log d) q all) ds → IfSome number (IsRefuter (λ d. says (log d) q (seen d)) ds) → IfSome number (IsRefuter (λ l. says l q all) logs)
refuter_among log seen says q all ds logs None are more r = tt
refuter_among log seen says q all ds logs (Some n) are more r =
    subst (λ ls. IsRefuter (λ l. says l q all) ls n) (sym are) (refuter_made log (λ d. says (log d) q (seen d)) (λ l. says l q all) ds n more r)
