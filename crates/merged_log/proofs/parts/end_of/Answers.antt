use Rattle.std.proofs.Common.{◌≡◌, ℕ, ◌-◌, List, length, get_or, ap, ◌∙◌, arith}
use Rattle.journals.proofs.Texts.{ends_long}
use Rattle.merged_log.proofs.PartTexts.{end_is}
use Rattle.merged_log.proofs.parts.end_of.Goals as goal

pub returns : goal.returns
returns c steps is =
    let some = c.if-count-eq0.false in
    let long : length c.args.ends.now ≡ length steps = ap length is ∙ ends_long 0 steps in
    let last = c.requires in
    ap (λ (es : List ℕ). get_or es (c.args.count - 1) 0) is ∙ end_is steps c.args.count (omega (arith, some)) (omega (arith, last, long))
