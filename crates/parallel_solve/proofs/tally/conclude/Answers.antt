use Rattle.std.proofs.Common.{◌≡◌, ℕ, List, length, sym, subst, ap, ◌∙◌, arith}
use Rattle.std.specs.Prelude.{All, IfSome}
use Rattle.std.proofs.lemmas.List.{length-map}
use Rattle.nogood_book.specs.declared.row.Row.{Row}
use Rattle.proof_collection.specs.Making.{AreBy, AreOfOwners}
use Rattle.parallel_solve.specs.declared.running.Done.{Done}
use Rattle.parallel_solve.specs.Teaming.{IsRefuter, StaysBeside, StaysWithoutOwn}
use Rattle.parallel_solve.proofs.Concluding.{concluded}
use Rattle.parallel_solve.proofs.Runs.{owners_made}
use Rattle.parallel_solve.proofs.Growth.{rows_alone, says_more, all_say, refuter_among}
use Rattle.parallel_solve.proofs.tally.conclude.Goals as goal

pub answer-requires-clause-few : goal.answer-requires-clause-few
answer-requires-clause-few g c =
    omega (arith, ap (λ (ls : List g.row.L.Denot). length ls) c.gather_all-tally.ensures.logs, length-map c.args.done.items (λ (d : Done g.row.L.Denot g.row.L-Told.Denot). d.worker.log), c.requires.few)

pub answer-requires-clause-fit : goal.answer-requires-clause-fit
answer-requires-clause-fit g c = c.rows.ensures.few

pub answer-requires-clause-owners : goal.answer-requires-clause-owners
answer-requires-clause-owners g c =
    subst (AreOfOwners g.L.ProofLogger.owner) (sym c.gather_all-tally.ensures.logs)
    (owners_made (λ (d : Done g.row.L.Denot g.row.L-Told.Denot). d.worker.log) (λ (d : Done g.row.L.Denot g.row.L-Told.Denot). d.worker.number) g.L.ProofLogger.owner c.args.done.items (λ k d k_in. (c.requires.ran k d k_in).owner_is) c.requires.numbers)

pub answer-requires-clause-authors : goal.answer-requires-clause-authors
answer-requires-clause-authors g c =
    let count = ap (λ (ls : List g.row.L.Denot). length ls) c.gather_all-tally.ensures.logs ∙ length-map c.args.done.items (λ (d : Done g.row.L.Denot g.row.L-Told.Denot). d.worker.log) in
    subst (λ (rows : List Row). AreBy (length c.gather_all-tally.new.logs.items) rows) (sym (rows_alone _ _ _ c.rows.ensures.seen c.gather_all-tally.ensures.alone))
    (subst (λ (n : ℕ). AreBy n c.gather_all-tally.new.first.view.seen) (sym count) c.gather_all-tally.ensures.authors)

pub answer-requires-clause-steps : goal.answer-requires-clause-steps
answer-requires-clause-steps g c =
    let log = λ (d : Done g.row.L.Denot g.row.L-Told.Denot). d.worker.log in
    let number = λ (d : Done g.row.L.Denot g.row.L-Told.Denot). d.worker.number in
    let shared = λ (d : Done g.row.L.Denot g.row.L-Told.Denot). d.worker.seat.view.seen in
    let seen = λ (d : Done g.row.L.Denot g.row.L-Told.Denot). d.worker.facts.seen in
    let rows = c.gather_all-tally.new.first.view.seen in
    let logs = c.gather_all-tally.ensures.logs in
    let same : All (λ (d : Done g.row.L.Denot g.row.L-Told.Denot). g.L.ProofLogger.owner d.worker.log ≡ d.worker.number) c.args.done.items = λ k d k_in. (c.requires.ran k d k_in).owner_is in
    let stays = subst (All (λ (l : g.row.L.Denot). StaysBeside (g.L.ProofLogger.owner l) (g.L.ProofLogger.steps l))) (c.deref.ensures.value ∙ logs) c.all_stay.ensures.steps in
    let alone = subst (All (λ (l : g.row.L.Denot). StaysWithoutOwn (g.L.ProofLogger.owner l) (g.L.ProofLogger.steps l))) (c.deref.ensures.value ∙ logs) c.all_stay.ensures.steps_alone in
    let more = says_more log number shared seen g.L.ProofLogger.owner g.L.ProofLogger.steps c.args.root.now.q.now rows c.args.done.items same (λ k d k_in. (c.gather_all-tally.ensures.grown k d k_in).own)
    (λ k d k_in. (c.gather_all-tally.ensures.grown k d k_in).came) alone stays in
    subst (λ (rs : List Row). All (λ (l : g.row.L.Denot). g.L.ProofLogger.steps l c.args.root.now.q.now rs) c.gather_all-tally.new.logs.items) (sym (rows_alone _ _ _ c.rows.ensures.seen c.gather_all-tally.ensures.alone))
    (all_say log seen g.L.ProofLogger.steps c.args.root.now.q.now rows c.args.done.items _ logs more (λ k d k_in. (c.requires.ran k d k_in).steps_of))

pub answer-requires-clause-refuter : goal.answer-requires-clause-refuter
answer-requires-clause-refuter g c =
    let log = λ (d : Done g.row.L.Denot g.row.L-Told.Denot). d.worker.log in
    let number = λ (d : Done g.row.L.Denot g.row.L-Told.Denot). d.worker.number in
    let shared = λ (d : Done g.row.L.Denot g.row.L-Told.Denot). d.worker.seat.view.seen in
    let seen = λ (d : Done g.row.L.Denot g.row.L-Told.Denot). d.worker.facts.seen in
    let rows = c.gather_all-tally.new.first.view.seen in
    let logs = c.gather_all-tally.ensures.logs in
    let same : All (λ (d : Done g.row.L.Denot g.row.L-Told.Denot). g.L.ProofLogger.owner d.worker.log ≡ d.worker.number) c.args.done.items = λ k d k_in. (c.requires.ran k d k_in).owner_is in
    let stays = subst (All (λ (l : g.row.L.Denot). StaysBeside (g.L.ProofLogger.owner l) (g.L.ProofLogger.refutes l))) (c.deref.ensures.value ∙ logs) c.all_stay.ensures.refutes in
    let alone = subst (All (λ (l : g.row.L.Denot). StaysWithoutOwn (g.L.ProofLogger.owner l) (g.L.ProofLogger.refutes l))) (c.deref.ensures.value ∙ logs) c.all_stay.ensures.refutes_alone in
    let more = says_more log number shared seen g.L.ProofLogger.owner g.L.ProofLogger.refutes c.args.root.now.q.now rows c.args.done.items same (λ k d k_in. (c.gather_all-tally.ensures.grown k d k_in).own)
    (λ k d k_in. (c.gather_all-tally.ensures.grown k d k_in).came) alone stays in
    subst (λ (rs : List Row). IfSome c.gather_all-tally.result.refuted (IsRefuter (λ (l : g.row.L.Denot). g.L.ProofLogger.refutes l c.args.root.now.q.now rs) c.gather_all-tally.new.logs.items)) (sym (rows_alone _ _ _ c.rows.ensures.seen c.gather_all-tally.ensures.alone))
    (refuter_among log seen g.L.ProofLogger.refutes c.args.root.now.q.now rows c.args.done.items _ c.gather_all-tally.result.refuted logs more c.gather_all-tally.ensures.refuter)

pub returns-clause-concluded : goal.returns-clause-concluded
returns-clause-concluded g c =
    concluded (λ (d : Done g.row.L.Denot g.row.L-Told.Denot). d.outcome) c.args.done.items c.gather_all-tally.result c.answer.result c.gather_all-tally.ensures.heard c.requires.ended c.answer.ensures.told
