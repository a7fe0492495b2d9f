use Rattle.std.proofs.Common.{◌++◌, ◌∷◌, [], Result, Ok, Err, Some, OnErr, ap, ◌∙◌}
use Rattle.pb_propagation.proofs.SharedRows.{changed, unpushed}
use Rattle.pb_propagation.proofs.table.push_at.Goals as goal

on_err : {T E : Type 0} (r : Result T E) (P : Type 0) → P → OnErr r P
on_err (Ok x) P h = tt
on_err (Err e) P h = h

pub returns-in_err-push-clause-err : goal.returns-in_err-push-clause-err
returns-in_err-push-clause-err c =
    on_err _ _ (unpushed (λ v. v.items) c.args.lists.now.items c.args.owner c.index_mut.result.now c.push.new.self c.index_mut.ensures.value c.in_err-push.ensures.items)

pub returns-clause-ok : goal.returns-clause-ok
returns-clause-ok c =
    changed (λ v. v.items) (λ fs. fs ++ Some c.args.made ∷ []) c.args.lists.now.items c.args.owner c.index_mut.result.now c.push.new.self c.requires c.index_mut.ensures.value
    (c.in_ok-push.ensures.items ∙ ap (λ o. c.index_mut.result.now.items ++ o ∷ []) c.in_ok-slot.ensures)
