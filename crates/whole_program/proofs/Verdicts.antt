-- The verdicts that answers are told as are right.

use Rattle.std.specs.Prelude.{◌≡◌, ℕ, ◌+◌, List, [], ◌∷◌, ◌++◌, length, map, slice_get, Some, Result, Ok, Err, IfOk, Vec, refl}
use Rattle.std.proofs.Common.{suc, ap, sym, subst, ◌∙◌, append_assoc, arith}
use Rattle.std.specs.Global.{Global}
use Rattle.std.proofs.lemmas.List.{append-nil}
use Rattle.graph_theory.specs.Embedding.{Problem}
use Rattle.search_theory.specs.Account.{Account}
use Rattle.batch_pool.specs.Placing.{AreDone}
use Rattle.parallel_solve.specs.Solving.{AreSpent}
use Rattle.whole_program.specs.Answers.{IsJobAnswer}
use Rattle.parallel_solve.specs.declared.answers.Solved.{Solved}
use Rattle.parallel_solve.specs.declared.answers.Solved.TheVariants.{Yes, NoEmbedding, Unknown, NoMemory}
use Rattle.subgraph_cli.specs.declared.stop.Stop.{Stop}
use Rattle.whole_program.specs.declared.verdict.JobVerdict.{JobVerdict}
use Rattle.whole_program.specs.Verdicts.{AreRight, verdict_of, accounts_of, accounts_in}

-- A list of one element.
one_of : {A : Type 0} (xs : List A) → length xs ≡ 1 → (a : A) × (xs ≡ a ∷ [])
one_of [] count = absurd (omega arith)
one_of (a ∷ []) count = (a, refl)
one_of (a ∷ b ∷ rest) count = absurd (omega arith)

first_right : (budget : ℕ) (q : Problem) (answer : Solved) (qs : List Problem) (answers : List Solved) → IsJobAnswer answer q budget
    → AreRight budget qs (map verdict_of answers) (accounts_in answers)
    → AreRight budget (q ∷ qs) (map verdict_of (answer ∷ answers)) (accounts_in (answer ∷ answers))
first_right budget q (Yes m) qs answers is more = (is, more)
first_right budget q (NoEmbedding proof) qs answers is more = (is, more)
first_right budget q (Unknown accounts) qs answers is more =
    let one = one_of accounts.items is.count in
    (one.0, accounts_in answers, ap (λ xs. xs ++ accounts_in answers) one.1, subst (λ (xs : List Account). AreSpent q 1 budget xs) one.1 is, more)
first_right budget q NoMemory qs answers is more = absurd is

-- Answers, one to each problem at its place.
pub all_right : (budget : ℕ) (qs : List Problem) (answers : List Solved) → AreDone (λ q answer. IsJobAnswer answer q budget) qs answers
    → AreRight budget qs (map verdict_of answers) (accounts_in answers)
all_right budget [] [] done = refl
all_right budget [] (answer ∷ answers) done = let e = done.count in absurd (omega arith)
all_right budget (q ∷ qs) [] done = let e = done.count in absurd (omega arith)
all_right budget (q ∷ qs) (answer ∷ answers) done =
    first_right budget q answer qs answers (done.each 0 q answer refl refl)
    (all_right budget qs answers record { count = (let e = done.count in omega arith); each = λ i job out here there. done.each (suc i) job out here there })

-- One answer more.
pub accounts_push : (answers : List Solved) (answer : Solved) → accounts_in (answers ++ answer ∷ []) ≡ accounts_in answers ++ accounts_of answer
accounts_push [] answer = append-nil (accounts_of answer)
accounts_push (a ∷ more) answer =
    ap (λ xs. accounts_of a ++ xs) (accounts_push more answer) ∙ sym (append_assoc (accounts_of a) (accounts_in more) (accounts_of answer))

-- What telling the answers of a pool says.
pub told_right : (r : Result (Vec JobVerdict Global) Stop) (budget : ℕ) (qs : List Problem) (answers : List Solved) (old new : List Account) → old ≡ []
    → AreDone (λ q answer. IsJobAnswer answer q budget) qs answers
    → IfOk r (λ v. v.items ≡ map verdict_of answers) → IfOk r (λ v. new ≡ old ++ accounts_in answers) → IfOk r (λ v. AreRight budget qs v.items new)
told_right (Err stop) budget qs answers old new none done told kept = tt
told_right (Ok vs) budget qs answers old new none done told kept =
    let accounts : new ≡ accounts_in answers = kept ∙ ap (λ (xs : List Account). xs ++ accounts_in answers) none in
    subst (λ (xs : List JobVerdict). AreRight budget qs xs new) (sym told)
    (subst (λ (xs : List Account). AreRight budget qs (map verdict_of answers) xs) (sym accounts) (all_right budget qs answers done))
