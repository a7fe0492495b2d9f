-- Each constraint stands at its place.

use Rattle.std.proofs.Common.{◌≡◌, ℕ, ◌+◌, ◌-◌, ◌<◌, List, [], ◌∷◌, ◌++◌, length, take, get_or, slice_get, Some, ap, sym, subst, ◌∙◌, arith}
use Rattle.std.proofs.lemmas.Option.{slice_get-get_or}
use Rattle.std.proofs.lemmas.List.{take_more}
use Rattle.proof_theory.specs.Forms.{Form}
use Rattle.encoding_theory.specs.Encoding.{encoding}
use Rattle.subgraph_cli.proofs.accepting.constraints_of.Goals as goal

-- A list so far and the next of its elements are the list that is one longer.
next : (fs old new : List Form) (i : ℕ) (f : Form) → i < length fs → old ≡ take i fs → new ≡ old ++ f ∷ [] → slice_get fs (i + 1 - 1) ≡ Some f → new ≡ take (i + 1) fs
next fs old new i f inside before more here =
    let place : i + 1 - 1 ≡ i = omega arith in
    let at = subst (λ (k : ℕ). slice_get fs k ≡ Some f) place here in
    let read = slice_get-get_or fs i f inside in
    let same : get_or fs i f ≡ f = cc in
    more ∙ ap (λ (xs : List Form). xs ++ f ∷ []) before ∙ ap (λ (x : Form). take i fs ++ x ∷ []) (sym same) ∙ sym (take_more fs i f inside)

pub loop-i-preserved : goal.loop-i-preserved
loop-i-preserved c =
    let inside : c.loop-i.i < length (encoding c.args.encoding.now) = omega (arith, c.loop-i-test.true, c.len-i-end.ensures) in
    next (encoding c.args.encoding.now) _ _ c.loop-i.i c.in_ok-constraint.constraint inside c.loop-i.invariant c.in_ok-push.ensures.items c.in_ok-constraint.ensures
