use Rattle.std.proofs.Common.{◌≡◌, ℕ, ◌+◌, ◌<◌, List, length, get_or, arith, sym, ◌∙◌, subst}
use Rattle.std.proofs.lemmas.List.{get_or_read}
use Rattle.log_theory.specs.declared.step.Ref.{Ref}
use Rattle.proof_trim.specs.Places.{place_in}
use Rattle.proof_trim.specs.Marks.{MarksRefs}
use Rattle.proof_trim.proofs.Marking.{marked_left, marked_kept}
use Rattle.proof_trim.proofs.marks.mark_line.Goals as goal

-- What was read is the mark there.
read : (marks : List ℕ) (at x : ℕ) {n : ℕ} → at < n → length marks ≡ n → x ≡ get_or marks at x → x ≡ get_or marks at 0
read marks at x within long is = get_or_read marks at x (omega (arith, within, long)) is 0

pub returns-in_ok-take_refs-clause-marked : goal.returns-in_ok-take_refs-clause-marked
returns-in_ok-take_refs-clause-marked c = λ made last at before.
    marked_kept (place_in c.args.index.now) made last c.in_ok-step.step c.args.at c.args.marks.now.items c.mark_refs.new.marks.items
    (c.in_ok-step.ensures.told made at) (λ e. c.if-index-ne0.true (read c.args.marks.now.items c.args.at c.index.result.now c.requires.within c.requires.long c.index.ensures ∙ e))
    (subst (λ (rs : List Ref). MarksRefs (place_in c.args.index.now) rs c.args.at (c.args.at + 1) c.args.marks.now.items c.mark_refs.new.marks.items) (c.deref.ensures.value ∙ c.in_ok-take_refs.ensures) c.mark_refs.ensures)
    before

pub returns-else-index-ne0-clause-marked : goal.returns-else-index-ne0-clause-marked
returns-else-index-ne0-clause-marked c = λ made last at before. marked_left (place_in c.args.index.now) made last c.args.at c.args.marks.now.items (sym (read c.args.marks.now.items c.args.at c.index.result.now c.requires.within c.requires.long c.index.ensures) ∙ c.if-index-ne0.false) before
