use Rattle.std.proofs.Common.{ℕ, List, refl, sym, ◌∙◌, subst, arith}
use Rattle.log_theory.specs.declared.profile.Profile.TheVariants.{Hinted}
use Rattle.trim_theory.specs.Marking.{made_lines}
use Rattle.proof_trim.specs.Lined.{AreAt}
use Rattle.proof_trim.proofs.LinesRead.{steps_parted}
use Rattle.proof_trim.proofs.Renewing.{scanned_few, found, ready, low, marks_long, all_text}
use Rattle.proof_trim.proofs.renewed.renew.Goals as goal

pub marks_of-requires : goal.marks_of-requires
marks_of-requires c =
    let s = c.in_ok-index.field-0 in
    let f = (scanned_few c.args.text.now s.index s.lines.places.items s.last c.in_ok-index.ensures.scanned c.requires.few).1 in
    omega (arith, f)

pub invariant_of-renaming : goal.invariant_of-renaming
invariant_of-renaming c =
    let s = c.in_ok-index.field-0 in
    let k = c.in_ok-index.ensures.scanned in
    let made = made_lines k.steps in
    let at = subst (λ (t : List ℕ). AreAt t s.lines.places.items made) (sym c.in_ok-index.ensures.text) k.at in
    let f = found s.index k.steps s.last made c.in_ok-marks.marks.items c.in_ok-ranks.ranks.items k.steps made _ refl refl refl c.deref.ensures.value k.known (c.in_ok-marks.ensures made at) c.in_ok-ranks.ensures in
    let r = ready s.index k.steps s.last made c.in_ok-marks.marks.items c.in_ok-ranks.ranks.items c.deref-2.result.now c.deref-3.result.now f c.deref-2.ensures.value
    (scanned_few c.args.text.now s.index s.lines.places.items s.last k c.requires.few).0 c.deref-3.ensures.value in
    record { ranked = r.0; few = r.1; within = r.2 }

pub put_kept-requires-clause-few : goal.put_kept-requires-clause-few
put_kept-requires-clause-few c =
    let s = c.in_ok-index.field-0 in
    (scanned_few c.args.text.now s.index s.lines.places.items s.last c.in_ok-index.ensures.scanned c.requires.few).1

pub put_kept-requires-clause-long : goal.put_kept-requires-clause-long
put_kept-requires-clause-long c =
    let s = c.in_ok-index.field-0 in
    let k = c.in_ok-index.ensures.scanned in
    let made = made_lines k.steps in
    let at = subst (λ (t : List ℕ). AreAt t s.lines.places.items made) (sym c.in_ok-index.ensures.text) k.at in
    let f = found s.index k.steps s.last made c.in_ok-marks.marks.items c.in_ok-ranks.ranks.items k.steps made _ refl refl refl c.deref.ensures.value k.known (c.in_ok-marks.ensures made at) c.in_ok-ranks.ensures in
    marks_long s.index k.steps s.last made c.in_ok-marks.marks.items c.in_ok-ranks.ranks.items c.deref-2.result.now c.deref-3.result.now f c.deref-2.ensures.value
    ∙ sym (scanned_few c.args.text.now s.index s.lines.places.items s.last k c.requires.few).2

pub put_kept-requires-clause-low : goal.put_kept-requires-clause-low
put_kept-requires-clause-low c = λ i.
    let s = c.in_ok-index.field-0 in
    let k = c.in_ok-index.ensures.scanned in
    let made = made_lines k.steps in
    let at = subst (λ (t : List ℕ). AreAt t s.lines.places.items made) (sym c.in_ok-index.ensures.text) k.at in
    let f = found s.index k.steps s.last made c.in_ok-marks.marks.items c.in_ok-ranks.ranks.items k.steps made _ refl refl refl c.deref.ensures.value k.known (c.in_ok-marks.ensures made at) c.in_ok-ranks.ensures in
    let l = low s.index k.steps s.last made c.in_ok-marks.marks.items c.in_ok-ranks.ranks.items c.deref-2.result.now c.deref-3.result.now f c.deref-2.ensures.value made refl i in
    let e = (scanned_few c.args.text.now s.index s.lines.places.items s.last k c.requires.few).2 in
    omega (arith, l, e)

pub returns : goal.returns
returns c =
    let s = c.in_ok-index.field-0 in
    let k = c.in_ok-index.ensures.scanned in
    let made = made_lines k.steps in
    let at = subst (λ (t : List ℕ). AreAt t s.lines.places.items made) (sym c.in_ok-index.ensures.text) k.at in
    let few = scanned_few c.args.text.now s.index s.lines.places.items s.last k c.requires.few in
    let f = found s.index k.steps s.last made c.in_ok-marks.marks.items c.in_ok-ranks.ranks.items k.steps made _ refl refl refl c.deref.ensures.value k.known (c.in_ok-marks.ensures made at) c.in_ok-ranks.ensures in
    record {
      hinted = k.steps;
      last = s.last;
      reads = k.reads;
      few = few.0;
      renewed = all_text s.index k.steps s.last made c.in_ok-marks.marks.items c.in_ok-ranks.ranks.items c.deref-2.result.now c.deref-3.result.now f c.deref-2.ensures.value made
          c.in_ok-end.end c.args.constraints c.len.result c.count_marked.result c.deref-4.result.now c.in_ok-text.text.bytes c.put_kept.new.text.bytes c.put_step.new.text.bytes
          refl c.in_ok-end.ensures.renamed (c.len.ensures ∙ few.2) c.in_ok-text.ensures (c.in_ok-put_kept.ensures made at) c.in_ok-put_step.ensures (c.deref-4.ensures.value ∙ sym c.deref-2.ensures.value) c.count_marked.ensures;
    }

pub put_step-requires : goal.put_step-requires
put_step-requires c =
    let k = c.in_ok-index.ensures.scanned in
    c.in_ok-end.ensures.fits (steps_parted Hinted k.steps c.in_ok-index.field-0.last k.reads.in_range).1
