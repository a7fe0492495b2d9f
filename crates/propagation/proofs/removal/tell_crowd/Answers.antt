use Rattle.std.proofs.Common.{ltb, sym, ap, ◌∙◌, arith}
use Rattle.std.proofs.lemmas.Bool.{ltb-true}
use Rattle.recorder.proofs.Telling.{told_more, told_tested}
use Rattle.propagation.proofs.removal.tell_crowd.Goals as goal

pub returns-then-is_before-clause-told : goal.returns-then-is_before-clause-told
returns-then-is_before-clause-told g c q s old l t =
    let less = ltb-true c.args.from c.mark.result (sym c.is_before.ensures ∙ c.if-is_before.true) in
    told_more q s old c.args.d.now _ _ _ l (omega (arith, less, c.mark.ensures.length)) c.crowded.ensures t

pub returns-else-is_before-clause-told : goal.returns-else-is_before-clause-told
returns-else-is_before-clause-told g c q s old l t =
    told_tested q s old c.args.d.now _ _ l (sym (ap (ltb c.args.from) c.mark.ensures.length) ∙ (sym c.is_before.ensures ∙ c.if-is_before.false)) t
