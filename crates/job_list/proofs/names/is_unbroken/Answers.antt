use Rattle.std.proofs.Common.{◌≡◌, ◌∙◌, ℕ, false, slice_index, sym, ap, arith}
use borrow.Author.Count.{below_more}
use Rattle.std.proofs.lemmas.List.{get_or_default}
use Rattle.job_list.specs.Jobs.{is_blank}
use Rattle.job_list.proofs.names.is_unbroken.Goals as goal

pub loop-i-preserved : goal.loop-i-preserved
loop-i-preserved c = below_more (λ (k : ℕ). is_blank (slice_index c.args.bytes.now k) ≡ false) c.loop-i.i c.loop-i.invariant (sym c.is_blank.ensures ∙ c.if-is_blank.false)

pub returns : goal.returns
returns c k d h = ap is_blank (get_or_default c.args.bytes.now k d 0 h) ∙ c.loop-i.invariant k (omega arith)
