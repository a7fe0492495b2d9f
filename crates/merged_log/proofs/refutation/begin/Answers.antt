use Rattle.std.proofs.Common.{◌≡◌, length, refl, ap, ◌∙◌}
use Rattle.std.proofs.lemmas.Option.{slice_get_read}
use Rattle.journals.proofs.Texts.{ends_long}
use Rattle.merged_log.proofs.RowSteps.{begun_is}
use Rattle.merged_log.proofs.refutation.begin.Goals as goal

pub returns : goal.returns
returns c =
    let js = c.args.journals.now in
    let j = c.index-journals-0.result in
    let long : length c.ends.result.now ≡ length j.steps = ap length c.ends.ensures.ends ∙ ends_long 0 j.steps in
    begun_is js c.args.done.now j (length c.ends.result.now) c.requires.none (slice_get_read js _ 0 j refl c.requires.some c.index-journals-0.is) long
