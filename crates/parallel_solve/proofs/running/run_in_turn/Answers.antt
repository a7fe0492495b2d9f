use Rattle.std.proofs.Common.{◌≡◌, ◌+◌, ◌∷◌, [], ◌++◌, List, length, Some, append_assoc, append-nil, length-append, sym, subst, ap, ◌∙◌, arith, rules, inr}
use Rattle.std.specs.Prelude.{All, slice_get}
use Rattle.std.specs.List.{Any}
use Rattle.std.proofs.lemmas.Option.{none-some}
use Rattle.std.specs.Vec.Iter.{into_iter_items}
use Rattle.std.proofs.lemmas.List.Elements.{All-push}
use Rattle.nogood_book.specs.Seats.{SeatName}
use Rattle.restart_search.specs.Searching.{IsNotStopped, Search}
use Rattle.proof_collection.specs.Making.{AreOfOwners}
use Rattle.parallel_solve.specs.declared.running.Done.{Done}
use Rattle.parallel_solve.specs.Teaming.{AreSettled, HasRunAt, HaveEnded, IsInterrupted, IsJob}
use Rattle.parallel_solve.proofs.Interrupting.{closed_of}
use Rattle.parallel_solve.proofs.Runs.{at_place, nothing_left, numbers_push, one_there}
use Rattle.parallel_solve.proofs.running.run_in_turn.Goals as goal

pub loop-job-init : goal.loop-job-init
loop-job-init g c =
    let empty : c.in-Ok.done.items ≡ [] = c.in-Ok.ensures.items in
    let none = ap (λ (ds : List (Done g.row.L.Denot g.row.L-Told.Denot)). length ds) empty in
    record {
      whole = c.into_iter-job-iterator.ensures.into_iter_gives.0;
      left = search rules;
      ran = λ k d lt. absurd (omega (arith, none, lt));
      numbers = λ i d is. absurd (none-some d (subst (λ (ds : List (Done g.row.L.Denot g.row.L-Told.Denot)). slice_get ds i ≡ Some d) empty is));
      alone = λ k d lt. absurd (omega (arith, none, lt));
      count = none;
      room = omega (arith, c.in-Ok.ensures.capacity, c.len.ensures, c.args.jobs.ok.0);
    }

pub run_to_end-requires : goal.run_to_end-requires
run_to_end-requires g c =
    let there = one_there c.loop-job.yielded c.in-Some.job (into_iter_items c.loop-job.job-iterator) (into_iter_items c.next.new.self) c.args.jobs.items c.in-Some.ensures.steps.0 c.loop-job.invariant.whole in
    at_place (λ (w : Search SeatName g.row.L.Denot). IsJob g.L.ProofLogger.owner c.args.book.now c.args.q.now c.args.budget w) c.args.jobs.items (length c.loop-job.yielded) c.in-Some.job c.requires.jobs there

pub push_reserved-requires : goal.push_reserved-requires
push_reserved-requires g c =
    let whole = ap (λ (ws : List (Search SeatName g.row.L.Denot)). length ws) c.loop-job.invariant.whole in
    let parts = length-append c.loop-job.yielded (into_iter_items c.loop-job.job-iterator) in
    let short = ap (λ (ws : List (Search SeatName g.row.L.Denot)). length ws) c.in-Some.ensures.steps.0 in
    omega (arith, whole, parts, short, c.loop-job.invariant.count, c.loop-job.invariant.room)

pub loop-job-preserved : goal.loop-job-preserved
loop-job-preserved g c =
    let at = c.loop-job in
    let before = at.invariant in
    let one = c.in-Some.job in
    let left = into_iter_items c.next.new.self in
    let steps : into_iter_items at.job-iterator ≡ one ∷ left = c.in-Some.ensures.steps.0 in
    let gone = c.in-Some.ensures.steps.1 in
    let short = ap (λ (ws : List (Search SeatName g.row.L.Denot)). length ws) steps in
    let more = length-append at.yielded (one ∷ []) in
    let there = one_there at.yielded one (into_iter_items at.job-iterator) left c.args.jobs.items steps before.whole in
    let ended = c.run_to_end.result in
    let items : c.push_reserved.new.self.items ≡ at.done.items ++ ended ∷ [] = c.push_reserved.ensures.items in
    let has_run = λ (d : Done g.row.L.Denot g.row.L-Told.Denot). HasRunAt g.L.ProofLogger.owner g.L.ProofLogger.steps g.L.ProofLogger.refutes (g.G.Gate.may_close c.args.gate.now) c.args.book.now c.args.q.now c.args.budget d.worker d.outcome in
    let number = λ (d : Done g.row.L.Denot g.row.L-Told.Denot). d.worker.number in
    let alone = λ (d : Done g.row.L.Denot g.row.L-Told.Denot). IsNotStopped d.outcome in
    record {
      whole = append_assoc at.yielded (one ∷ []) left ∙ (ap (λ (ws : List (Search SeatName g.row.L.Denot)). at.yielded ++ ws) (sym steps) ∙ before.whole);
      left = omega (arith, before.left, gone, short);
      ran = subst (All has_run) (sym items) (All-push has_run at.done.items ended before.ran c.run_to_end.ensures.ran);
      numbers = subst (AreOfOwners number) (sym items)
          (numbers_push number at.done.items ended (c.run_to_end.ensures.number ∙ (c.requires.numbers (length at.yielded) one there ∙ ap (λ n. n + 1) (sym before.count))) before.numbers);
      alone = subst (All alone) (sym items) (All-push alone at.done.items ended before.alone c.run_to_end.ensures.alone);
      count = omega (arith, ap (λ (ds : List (Done g.row.L.Denot g.row.L-Told.Denot)). length ds) items, length-append at.done.items (ended ∷ []), before.count, more);
      room = omega (arith, c.push_reserved.ensures.capacity, before.room);
    }

pub returns-clause-count : goal.returns-clause-count
returns-clause-count g c =
    let none : into_iter_items c.loop-job.job-iterator ≡ [] = nothing_left _ (sym c.in-None.ensures.steps.0 ∙ c.loop-job.invariant.left) in
    let all : c.loop-job.yielded ≡ c.args.jobs.items = sym (append-nil c.loop-job.yielded) ∙ (ap (λ (ws : List (Search SeatName g.row.L.Denot)). c.loop-job.yielded ++ ws) (sym none) ∙ c.loop-job.invariant.whole) in
    c.loop-job.invariant.count ∙ ap (λ (ws : List (Search SeatName g.row.L.Denot)). length ws) all

pub returns-clause-ran : goal.returns-clause-ran
returns-clause-ran g c = λ k d lt. (c.loop-job.invariant.ran k d lt).run

pub returns-clause-numbers : goal.returns-clause-numbers
returns-clause-numbers g c = c.loop-job.invariant.numbers

pub is_interrupted-requires : goal.is_interrupted-requires
is_interrupted-requires g c = subst (AreSettled (λ (d : Done g.row.L.Denot g.row.L-Told.Denot). d.outcome)) (sym c.deref.ensures.value) (inr c.loop-job.invariant.alone)

pub returns-clause-ended : goal.returns-clause-ended
returns-clause-ended g c = subst (HaveEnded (λ (d : Done g.row.L.Denot g.row.L-Told.Denot). d.outcome)) c.deref.ensures.value (c.is_interrupted.ensures.no c.if-is_interrupted.false)

pub returns-then-is_interrupted-clause-closed : goal.returns-then-is_interrupted-clause-closed
returns-then-is_interrupted-clause-closed g c =
    λ same. closed_of (λ (d : Done g.row.L.Denot g.row.L-Told.Denot). d.outcome) (g.G.Gate.may_close c.args.gate.now) c.loop-job.done.items (λ k d lt. (c.loop-job.invariant.ran k d lt).closed)
    (subst (Any (λ (d : Done g.row.L.Denot g.row.L-Told.Denot). IsInterrupted d.outcome)) c.deref.ensures.value (c.is_interrupted.ensures.yes c.if-is_interrupted.true))
