use Rattle.std.proofs.Common.{◌≡◌, ℕ, true, List, slice_index, refl, sym, ap, ◌∙◌, rules}
use Rattle.journal_theory.proofs.Placing.{take_all}
use Rattle.graph_theory.specs.Blocks.{in_block}
use Rattle.log_theory.specs.Lookups.{is_among}
use Rattle.dead_paths.proofs.Marking.{among_at}
use Rattle.line_tests.proofs.Ranges.{all_next}
use Rattle.line_tests.proofs.checked.are_members.Goals as goal

pub is_member-requires-clause-p_in : goal.is_member-requires-clause-p_in
is_member-requires-clause-p_in c =
    c.requires.inside (slice_index c.args.vertices.now c.loop-p.p-index) (among_at c.args.vertices.now c.loop-p.p-index (slice_index c.args.vertices.now c.loop-p.p-index) c.loop-p-test.true refl)

pub loop-p-init : goal.loop-p-init
loop-p-init c = λ p h. absurd cc

pub loop-p-preserved : goal.loop-p-preserved
loop-p-preserved c =
    let here : c.is_member.result ≡ true = search rules in
    all_next (λ p. in_block c.args.q.now c.args.centre p ≡ true) c.args.vertices.now c.loop-p.p-index _ c.loop-p-test.true refl (sym c.is_member.ensures ∙ here) c.loop-p.invariant

pub returns : goal.returns
returns c = λ e p h. c.loop-p.invariant p (ap (λ (xs : List ℕ). is_among p xs) (take_all c.args.vertices.now c.loop-p.p-index c.loop-p-test.false) ∙ h)
