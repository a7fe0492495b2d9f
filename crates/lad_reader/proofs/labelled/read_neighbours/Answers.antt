use Rattle.std.proofs.Common.{◌≡◌, ◌<◌, ℕ, [], Option, None, length-append, refl, subst, ◌∙◌, arith}
use Rattle.std.proofs.lemmas.Result.{err_from_is_err_and}
use Rattle.graph_theory.specs.Lad.{listed_label}
use Rattle.graph_theory.specs.LadFault.{clash}
use Rattle.graph_theory.specs.Progress.{StopsAt, StopsListed}
use Rattle.graph_theory.specs.declared.lad_text.LadKind.TheVariants.{LabelledLad}
use Rattle.graph_theory.specs.declared.lad_text.Place.TheVariants.{Neighbour, EdgeLabel}
use Rattle.graph_theory.proofs.Descent.{neighbour_below}
use Rattle.graph_theory.proofs.Steps.{OnWord-weaker, WentListed-none, WentListed-more, WentListed-stops, WentListed-label_stops}
use Rattle.lad_reader.specs.Parts.{with_labels}
use Rattle.lad_reader.proofs.LabelledParts.{with_labels-push, given_none, given_more}
use Rattle.lad_reader.proofs.labelled.read_neighbours.Goals as goal

pub loop-i-init : goal.loop-i-init
loop-i-init c = record {
  went = rw (c.requires.begun.neighbours) (WentListed-none LabelledLad c.args.size c.args.words.now);
  given = rw (c.requires.begun.neighbours) (given_none c.args.size c.args.stamp c.args.stamps.now c.args.labels.now c.requires.new);
  lengths = rw (c.requires.begun.neighbours, c.requires.begun.labels) refl;
  lists = refl;
  edges = refl;
}

pub returns-in_err-neighbour-clause-fault : goal.returns-in_err-neighbour-clause-fault
returns-in_err-neighbour-clause-fault c =
    let a = c.args in
    let l = c.loop-i in
    let p = err_from_is_err_and c.from_residual.result c.from_residual.ensures.1 in
    rw (p.1, p.2) (OnWord-weaker _ (StopsAt l.words [] (Neighbour a.size)) (StopsListed LabelledLad a.size a.due a.words.now)
    (λ w cause s. WentListed-stops LabelledLad a.size a.due l._i a.words.now l.words _ w cause l.invariant.went (omega arith) s)
    c.in_err-neighbour.ensures.err)

pub returns-in_err-label-clause-fault : goal.returns-in_err-label-clause-fault
returns-in_err-label-clause-fault c =
    let a = c.args in
    let l = c.loop-i in
    let b = c.in_ok-neighbour.neighbour in
    let taken = c.in_ok-neighbour.ensures.ok in
    let earlier = c.given-earlier.ensures ∙ l.invariant.given.each b (neighbour_below a.size b taken.1) in
    let p = err_from_is_err_and c.from_residual-in_err-label.result c.from_residual-in_err-label.ensures.1 in
    rw (p.1, p.2) (OnWord-weaker _ (StopsAt c.take.new.self [] (EdgeLabel c.given-earlier.result)) (StopsListed LabelledLad a.size a.due a.words.now)
    (λ w cause s. WentListed-label_stops LabelledLad a.size a.due l._i a.words.now l.words c.take.new.self _ b w cause l.invariant.went (omega arith) taken.0 taken.1
    (subst (λ (o : Option ℕ). StopsAt c.take.new.self [] (EdgeLabel o) w cause) earlier s))
    c.in_err-label.ensures.err)

pub loop-i-preserved : goal.loop-i-preserved
loop-i-preserved c =
    let a = c.args in
    let l = c.loop-i in
    let b = c.in_ok-neighbour.neighbour in
    let label = c.in_ok-label.label in
    let taken = c.in_ok-neighbour.ensures.ok in
    let labelled = c.in_ok-label.ensures.ok in
    let b_in : b < a.size = neighbour_below a.size b taken.1 in
    let earlier = c.given-earlier.ensures ∙ l.invariant.given.each b b_in in
    let none : clash (listed_label (with_labels l.listed.neighbours.rest l.listed.labels.rest) b) label ≡ None = subst (λ (o : Option ℕ). clash o label ≡ None) earlier labelled.1 in
    let pushed = with_labels-push l.listed.neighbours.rest l.listed.labels.rest b label l.invariant.lengths in
    record {
      went = rw (c.in_ok-push.ensures.neighbours, c.in_ok-push.ensures.labels, pushed)
          (WentListed-more LabelledLad a.size l._i a.words.now l.words c.take.new.self c.take-in-loop-i.new.self _ b label l.invariant.went taken.0 taken.1 labelled.0 none);
      given = rw (c.in_ok-push.ensures.neighbours, c.in_ok-push.ensures.labels, pushed)
          (given_more a.size a.stamp l.stamps l.labels _ b label (omega (arith, c.requires.stamps)) (omega (arith, c.requires.labels)) b_in l.invariant.given none);
      lengths = rw (c.in_ok-push.ensures.neighbours, c.in_ok-push.ensures.labels) (simp length-append (omega (arith, l.invariant.lengths)));
      lists = c.in_ok-push.ensures.lists ∙ l.invariant.lists;
      edges = c.in_ok-push.ensures.edges ∙ l.invariant.edges;
    }
