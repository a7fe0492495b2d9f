use Rattle.std.proofs.Common.{◌∷◌, [], ◌++◌, List, ap, ◌∙◌}
use Rattle.log_theory.specs.declared.step.Ref.{Ref}
use Rattle.log_theory.specs.declared.step.Op.{Op}
use Rattle.log_theory.specs.declared.step.Op.TheVariants.{Push, Add}
use Rattle.pair_lines.specs.Choices.{block_ops}
use Rattle.pair_lines.proofs.Meetings.{own_with}
use Rattle.pair_lines.proofs.ops.own_ops.Goals as goal

pub returns : goal.returns
returns c =
    let q = c.args.known.now in
    c.new.ensures
    ∙ (c.in_ok-add_block.ensures
    ∙ (ap (λ (xs : List Op). xs ++ block_ops q c.args.meeting c.args.pair.t)
    (c.in_ok-push-3.ensures.items
    ∙ ap (λ (xs : List Op). xs ++ Add ∷ [])
    (c.in_ok-push-2.ensures.items
    ∙ (ap (λ (xs : List Op). xs ++ Push c.at_most.result ∷ []) (c.in_ok-push.ensures.items ∙ ap (λ (xs : List Op). xs ++ Push c.args.own ∷ []) c.in_ok-ops.ensures.items)
    ∙ ap (λ (r : Ref). let ops : List Op = Push c.args.own ∷ Push r ∷ [] in ops) c.at_most.ensures)))
    ∙ own_with q c.args.meeting c.args.own c.args.pair.t c.args.pair.r))
