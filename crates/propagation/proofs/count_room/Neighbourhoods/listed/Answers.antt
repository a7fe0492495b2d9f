use Rattle.std.proofs.Common.{map, ap, ◌∙◌}
use Rattle.std.proofs.lemmas.List.{map-append}
use Rattle.propagation.proofs.Nearness.{near_none, near_more}
use Rattle.propagation.proofs.count_room.Neighbourhoods.listed.Goals as goal

pub loop-c-init : goal.loop-c-init
loop-c-init c = near_none _ _ (ap (map (λ us. us.items)) c.new-lists.ensures.items)

pub loop-c-preserved : goal.loop-c-preserved
loop-c-preserved c =
    near_more _ _ _ c.loop-c.c c.in_ok-list.list.items c.loop-c.invariant c.in_ok-list.ensures
    (ap (map (λ us. us.items)) c.in_ok-push.ensures.items ∙ map-append (λ us. us.items) c.loop-c.lists.items _)
