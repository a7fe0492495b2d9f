use Rattle.std.proofs.Common.{rules, ◌∙◌}
use Rattle.nds_filter.proofs.Keeping.{no_firsts, none_kept, kept_more, kept_long}
use Rattle.nds_filter.proofs.kept.KeptRows.with_target.Goals as goal

pub loop-p-init : goal.loop-p-init
loop-p-init c = record {
  firsts = no_firsts _ _ _ c.in_ok-firsts.ensures.items c.in_ok-rows.ensures.lists;
  kept = none_kept _ _ _ c.in_ok-classes.ensures.items;
  begun = c.in_ok-rows.ensures.rest;
  long = search rules;
}

pub loop-p-preserved : goal.loop-p-preserved
loop-p-preserved c = record {
  firsts = c.in_ok-class.ensures.firsts;
  kept = kept_more _ _ _ _ _ c.loop-p.p c.in_ok-class.class c.loop-p.invariant.kept c.in_ok-class.ensures.stay
      c.in_ok-class.ensures.inside c.in_ok-class.ensures.class c.in_ok-push.ensures.items;
  begun = c.in_ok-class.ensures.begun;
  long = kept_long c.loop-p.row.len _ _ _ (c.class_of.auto.row ∙ c.deref_mut.ensures.len) (c.loop-p.row.ok.0 ∙ c.loop-p.invariant.long);
}
