use Rattle.std.proofs.Common.{ℕ, List, Option, take, get_or, sym, subst}
use Rattle.std.proofs.lemmas.List.{take_more}
use Rattle.log_theory.specs.declared.step.Ref.{Ref}
use Rattle.log_theory.specs.declared.step.Ref.TheVariants.{Line}
use Rattle.proof_trim.specs.Places.{place_in}
use Rattle.proof_trim.specs.Marks.{MarksOne, MarksRefs}
use Rattle.proof_trim.proofs.Marking.{marks_none, marks_more}
use Rattle.proof_trim.proofs.marks.mark_refs.Goals as goal

pub loop-at-init : goal.loop-at-init
loop-at-init c = marks_none (place_in c.args.index.now) c.args.limit c.args.mark c.args.marks.now.items

pub loop-at-preserved : goal.loop-at-preserved
loop-at-preserved c =
    let q = get_or c.args.refs.now c.loop-at.at-index (Line 0) in
    subst (λ (rs : List Ref). MarksRefs (place_in c.args.index.now) rs c.args.limit c.args.mark c.args.marks.now.items c.mark_place.new.marks.items)
    (sym (take_more c.args.refs.now c.loop-at.at-index (Line 0) c.loop-at-test.true))
    (marks_more (place_in c.args.index.now) (take c.loop-at.at-index c.args.refs.now) q c.args.limit c.args.mark c.args.marks.now.items c.loop-at.marks.items c.mark_place.new.marks.items
    c.requires.some c.loop-at.invariant (subst (λ (o : Option ℕ). MarksOne o c.args.limit c.args.mark c.loop-at.marks.items c.mark_place.new.marks.items) c.place_of.ensures c.mark_place.ensures))
