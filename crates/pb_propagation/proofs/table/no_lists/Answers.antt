-- One more empty list at each turn.

use Rattle.std.proofs.Common.{◌≡◌, ℕ, ◌+◌, List, Option, [], ◌∷◌, ◌++◌, map, replicate, ap, ◌∙◌, arith}
use Rattle.std.proofs.lemmas.List.{map-append, replicate_more}
use Rattle.proof_theory.specs.Forms.{Form}
use Rattle.pb_propagation.proofs.Failing.{if_ok_failed}
use Rattle.pb_propagation.proofs.table.no_lists.Goals as goal

one_more : {A : Type 0} (f : A → List (Option Form)) (xs ys : List A) (v : A) (n : ℕ) → ys ≡ xs ++ v ∷ [] → f v ≡ [] → map f xs ≡ replicate n [] → map f ys ≡ replicate (n + 1) []
one_more f xs ys v n e empty is = rw (e, map-append, is, empty) (replicate_more n [])

pub returns-in_err-made : goal.returns-in_err-made
returns-in_err-made c = if_ok_failed c.from_residual.result _ _ c.from_residual.ensures.1

pub loop-init : goal.loop-init
loop-init c = rw c.in_ok-made.ensures.items

pub returns-in_err-push : goal.returns-in_err-push
returns-in_err-push c = if_ok_failed c.from_residual-in_err-push.result _ _ c.from_residual-in_err-push.ensures.1

pub loop-smaller : goal.loop-smaller
loop-smaller c = omega arith

pub loop-preserved : goal.loop-preserved
loop-preserved c = one_more _ _ _ _ _ c.in_ok-push.ensures.items c.new.ensures.items c.loop.invariant

pub returns : goal.returns
returns c =
    let all : c.loop.counter ≡ 65 = omega arith in
    c.loop.invariant ∙ ap (λ (n : ℕ). replicate {A = List (Option Form)} n []) all
