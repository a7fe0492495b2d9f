use Rattle.std.proofs.Common.{◌++◌, ℕ, ℤ, List, arith, ap, ◌∙◌}
use Rattle.std.proofs.lemmas.Result.{IfOk-weaker}
use Rattle.proof_theory.specs.Forms.{sorted}
use Rattle.pb_terms.proofs.Joining.{sums_swapped, size_joined}
use Rattle.pb_terms.proofs.sum.both.Goals as goal

pub returns-then-len-clause-sized : goal.returns-then-len-clause-sized
returns-then-len-clause-sized c =
    IfOk-weaker c.joined.result _ _ (λ v h. let s = size_joined c.args.b.items _ c.args.a.items v.items h c.deref.ensures.value in omega arith) c.joined.ensures

pub returns-then-len-clause-sums : goal.returns-then-len-clause-sums
returns-then-len-clause-sums c =
    IfOk-weaker c.joined.result _ _ (λ v h. ap sorted (h ∙ ap (λ (ts : List (ℕ × ℤ)). c.args.b.items ++ ts) c.deref.ensures.value) ∙ sums_swapped c.args.a.items c.args.b.items) c.joined.ensures

pub returns-else-len-clause-sized : goal.returns-else-len-clause-sized
returns-else-len-clause-sized c =
    IfOk-weaker c.joined-else-len.result _ _ (λ v h. size_joined c.args.a.items _ c.args.b.items v.items h c.deref-else-len.ensures.value) c.joined-else-len.ensures
