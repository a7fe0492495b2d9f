use Rattle.std.proofs.Common.{◌≡◌, [], map, ◌∙◌, arith}
use Rattle.std.proofs.lemmas.Result.{err_from_is_err_and}
use Rattle.graph_theory.specs.Progress.{StopsAt, StopsListed}
use Rattle.graph_theory.specs.declared.lad_text.Place.TheVariants.{Neighbour}
use Rattle.graph_theory.proofs.Steps.{OnWord-weaker, WentListed-stops}
use Rattle.lad_reader.specs.Parts.{unlabelled}
use Rattle.lad_reader.proofs.VertexParts.{unlabelled_more, unlabelled-push}
use Rattle.lad_reader.proofs.reader.read_neighbours.Goals as goal

pub returns-in_err-neighbour-clause-fault : goal.returns-in_err-neighbour-clause-fault
returns-in_err-neighbour-clause-fault c = λ kind none.
    let a = c.args in
    let l = c.loop-i in
    let p = err_from_is_err_and c.from_residual.result c.from_residual.ensures.1 in
    rw (p.1, p.2) (OnWord-weaker _ (StopsAt l.words [] (Neighbour a.size)) (StopsListed kind a.size a.due a.words.now)
    (λ w cause s. WentListed-stops kind a.size a.due l._i a.words.now l.words (map unlabelled l.lists.rest) w cause (l.invariant.went kind none) (omega arith) s)
    c.in_err-neighbour.ensures.err)

pub loop-i-preserved : goal.loop-i-preserved
loop-i-preserved c =
    let a = c.args in
    let l = c.loop-i in
    let b = c.in_ok-neighbour.neighbour in
    let taken = c.in_ok-neighbour.ensures.ok in
    record {
      went = λ kind none.
          rw (c.in_ok-push.ensures.rest, unlabelled-push l.lists.rest b)
          (unlabelled_more kind a.size l._i a.words.now l.words c.take.new.self (map unlabelled l.lists.rest) b none (l.invariant.went kind none) taken.0 taken.1);
      lists = c.in_ok-push.ensures.lists ∙ l.invariant.lists;
    }

pub returns-clause-found : goal.returns-clause-found
returns-clause-found c = λ kind none. let e : c.args.due ≡ c.loop-i._i = omega arith in rw e (c.loop-i.invariant.went kind none)
