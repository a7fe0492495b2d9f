use Rattle.std.proofs.Common.{◌∙◌, ℕ, List, refl, sym, ap, subst, arith}
use Rattle.journal_theory.proofs.Placing.{take_all}
use Rattle.graph_theory.specs.Graph.{size}
use Rattle.log_theory.specs.Lookups.{is_among}
use Rattle.bit_rows.specs.BitRows.{words_for}
use Rattle.needed_values.specs.Needed.{AreRows}
use Rattle.dead_paths.proofs.Marking.{among_at}
use Rattle.dead_paths.proofs.Resting.{rows_again, each_more}
use Rattle.dead_paths.proofs.needs.need_each.Goals as goal

pub loop-p-init : goal.loop-p-init
loop-p-init c = record { needed = λ r u among u_in h. absurd cc; stays = λ r u u_in h. h }

pub need_set-requires-clause-held : goal.need_set-requires-clause-held
need_set-requires-clause-held c = subst (λ (k : ℕ). AreRows k c.loop-p.marked c.loop-p.needed) (sym c.count_values.ensures.is)
    (rows_again (size c.args.q.now.target) c.args.marked.now c.loop-p.marked c.args.needed.now c.loop-p.needed (omega (arith, c.loop-p.auto.marked)) (omega (arith, c.loop-p.auto.needed)) c.requires.held)

pub need_set-requires-clause-r_in : goal.need_set-requires-clause-r_in
need_set-requires-clause-r_in c =
    let h = c.requires.vertices _ (among_at c.args.vertices.now c.loop-p.p-index _ c.loop-p-test.true refl) in
    omega (arith, h, c.loop-p.auto.marked)

pub need_set-requires-clause-set : goal.need_set-requires-clause-set
need_set-requires-clause-set c = c.requires.set ∙ ap (λ (k : ℕ). words_for k) (sym c.count_values.ensures.is)

pub need_set-requires-clause-spare : goal.need_set-requires-clause-spare
need_set-requires-clause-spare c =
    let e = ap (λ (k : ℕ). words_for k) (sym c.count_values.ensures.is) in
    omega (arith, c.loop-p.auto.spare, c.requires.spare, e)

pub loop-p-preserved : goal.loop-p-preserved
loop-p-preserved c =
    let m = each_more (size c.args.q.now.target) c.count_values.result c.args.marked.now c.loop-p.marked c.need_set.new.marked c.args.needed.now c.loop-p.needed c.need_set.new.rows c.args.vertices.now c.args.set.now c.loop-p.p-index _ c.count_values.ensures.is c.loop-p-test.true refl
    c.loop-p.invariant.needed c.loop-p.invariant.stays c.need_set.ensures.needed c.need_set.ensures.stays in
    record { needed = m.0; stays = m.1 }

pub returns-clause-needed : goal.returns-clause-needed
returns-clause-needed c = λ r u among. c.loop-p.invariant.needed r u (ap (λ (xs : List ℕ). is_among r xs) (take_all c.args.vertices.now c.loop-p.p-index c.loop-p-test.false) ∙ among)
