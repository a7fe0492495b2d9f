use Rattle.std.proofs.Common.{◌∙◌, ℕ, List, refl, sym, ap, arith}
use Rattle.journal_theory.proofs.Placing.{take_all}
use Rattle.log_theory.specs.Lookups.{is_among}
use Rattle.dead_paths.proofs.Marking.{among_at, out_next, rest_next}
use Rattle.dead_paths.proofs.needs.take_out.Goals as goal

pub loop-u-init : goal.loop-u-init
loop-u-init c = record { out = λ u h. absurd cc; rest = λ u h. refl }

pub unset_bit-requires : goal.unset_bit-requires
unset_bit-requires c =
    let h = c.requires c.from.result (among_at c.args.values.now c.loop-u.u-index c.from.result c.loop-u-test.true (sym c.from.ensures)) in
    omega (arith, h, c.loop-u.auto.row)

pub loop-u-preserved : goal.loop-u-preserved
loop-u-preserved c = record {
  out = out_next c.args.values.now c.loop-u.u-index c.from.result c.args.row.now c.loop-u.row c.unset_bit.new.row c.loop-u-test.true (sym c.from.ensures) c.unset_bit.ensures c.loop-u.invariant.out;
  rest = rest_next c.args.values.now c.loop-u.u-index c.from.result c.args.row.now c.loop-u.row c.unset_bit.new.row c.loop-u-test.true (sym c.from.ensures) c.unset_bit.ensures c.loop-u.invariant.rest;
}

pub returns-clause-out : goal.returns-clause-out
returns-clause-out c = λ u h. c.loop-u.invariant.out u (ap (λ (xs : List ℕ). is_among u xs) (take_all c.args.values.now c.loop-u.u-index c.loop-u-test.false) ∙ h)

pub returns-clause-rest : goal.returns-clause-rest
returns-clause-rest c = λ u h. c.loop-u.invariant.rest u (ap (λ (xs : List ℕ). is_among u xs) (take_all c.args.values.now c.loop-u.u-index c.loop-u-test.false) ∙ h)
