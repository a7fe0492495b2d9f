use Rattle.std.proofs.Common.{◌≡◌, ◌∷◌, ◌≤◌, ◌^◌, [], ℕ, ℤ, pos, neg_ℤ, cond, List, length, map, Bool, true, false, unsigned_abs, arith, ap, ◌<◌, ◌-ℤ◌, to_z, of_z, ◌∙◌}
use Rattle.std.specs.Int.{w128}
use Rattle.pb_terms.proofs.Ruled.{exact}
use Rattle.std.proofs.lemmas.Int.{ints}
use Rattle.proof_theory.specs.declared.literal.Literal.{Literal}
use Rattle.proof_theory.specs.Forms.{size}
use Rattle.proof_theory.specs.Slack.{literal_term}
use Rattle.pb_propagation.proofs.clauses.wide_clause.Goals as goal

one_each : (b : Bool) → unsigned_abs (cond b (neg_ℤ (pos 1)) (pos 1)) ≤ 1
one_each true = omega arith
one_each false = omega arith

-- A clause is no wider than it is long.
clause_size : (ls : List Literal) → size (map literal_term ls) ≤ length (map literal_term ls)
clause_size [] = omega arith
clause_size (l ∷ ls) = let a = one_each l.negated in let b = clause_size ls in omega arith

-- The bound of a clause of a list that a machine holds.
bound_small : (n : ℕ) (z : ℤ) → z ≡ pos n → n < 2 ^ 64 → unsigned_abs (to_z w128 (of_z w128 (pos 1 -ℤ to_z w128 (of_z w128 z)))) ≤ 2 ^ 125
bound_small n z e h = let x : to_z w128 (of_z w128 z) ≡ pos n = ap (λ (y : ℤ). to_z w128 (of_z w128 y)) e ∙ exact (pos n) (omega arith) in
    let y : to_z w128 (of_z w128 (pos 1 -ℤ to_z w128 (of_z w128 z))) ≡ pos 1 -ℤ pos n = ap (λ (w : ℤ). to_z w128 (of_z w128 (pos 1 -ℤ w))) x ∙ exact (pos 1 -ℤ pos n) (omega (arith, ints)) in
    rw y (omega (arith, ints))

pub unreachable-requires : goal.unreachable-requires
unreachable-requires c =
    let s : size c.deref.result.now ≤ length c.deref.result.now = rw (c.deref.ensures.value, c.in_ok-terms.ensures) (clause_size c.args.literals.now) in
    let n = c.deref.type_inv in
    let m = c.negated_count.type_inv in
    let h = rw c.in-Err-Wide.field-0-is at c.in-Err-Wide.ensures in
    h (record { bound_fits = bound_small c.negated_count.result c.from-bound.result c.from-bound.ensures (omega arith); sum_fits = omega arith })
