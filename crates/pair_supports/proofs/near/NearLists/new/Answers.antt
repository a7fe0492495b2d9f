use Rattle.std.proofs.Common.{map, ap, ◌∙◌}
use Rattle.std.proofs.lemmas.List.{map-append}
use Rattle.pair_supports.proofs.Nearing.{near_none, near_more}
use Rattle.pair_supports.proofs.near.NearLists.new.Goals as goal

pub loop-t-init : goal.loop-t-init
loop-t-init c = near_none _ _ (ap (map (λ us. us.items)) c.new-lists.ensures.items)

pub loop-t-preserved : goal.loop-t-preserved
loop-t-preserved c =
    near_more _ _ _ c.loop-t.t c.in_ok-list.list.items c.loop-t.invariant c.in_ok-list.ensures
    (ap (map (λ us. us.items)) c.in_ok-push.ensures.items ∙ map-append (λ us. us.items) c.loop-t.lists.items _)
