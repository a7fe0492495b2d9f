use Rattle.std.proofs.Common.{◌<◌, ◌≤◌, length, sym, ap, ◌∙◌, subst, arith, inl, inr}
use Rattle.std.specs.List.{Any}
use Rattle.std.proofs.lemmas.List.{length-set}
use Rattle.std.proofs.lemmas.List.Elements.{All-set}
use Rattle.std.proofs.lemmas.List.Quantifiers.{any-set}
use Rattle.restart_search.specs.Searching.{IsNotStopped}
use Rattle.parallel_solve.specs.declared.running.Done.{Done}
use Rattle.parallel_solve.specs.Teaming.{HasRunAt, Decides}
use Rattle.parallel_solve.proofs.Runs.{numbers_set, all_taken, taken_set}
use Rattle.parallel_solve.proofs.running.finish.Goals as goal

pub go_on-requires : goal.go_on-requires
go_on-requires g c =
    let there : c.loop-place.place < length c.loop-place.done.items = omega (arith, c.loop-place-test.true, c.len-place-end.ensures, c.loop-place.invariant.count) in
    subst (λ (d : Done g.row.L.Denot g.row.L-Told.Denot). HasRunAt g.L.ProofLogger.owner g.L.ProofLogger.steps g.L.ProofLogger.refutes (g.G.Gate.may_close c.args.gate.now) c.args.book.now c.args.q.now c.args.budget d.worker d.outcome)
    (sym c.index_mut.ensures.value) (c.loop-place.invariant.ran c.loop-place.place c.index_mut.result.now there)

pub returns-then-go_on-clause-ran : goal.returns-then-go_on-clause-ran
returns-then-go_on-clause-ran g c =
    All-set (λ (d : Done g.row.L.Denot g.row.L-Told.Denot). HasRunAt g.L.ProofLogger.owner g.L.ProofLogger.steps g.L.ProofLogger.refutes (g.G.Gate.may_close c.args.gate.now) c.args.book.now c.args.q.now c.args.budget d.worker d.outcome)
    c.loop-place.done.items c.loop-place.place c.go_on.new.one c.go_on.ensures.ran c.loop-place.invariant.ran

pub returns-then-go_on-clause-numbers : goal.returns-then-go_on-clause-numbers
returns-then-go_on-clause-numbers g c =
    let there : c.loop-place.place < length c.loop-place.done.items = omega (arith, c.loop-place-test.true, c.len-place-end.ensures, c.loop-place.invariant.count) in
    let number = λ (d : Done g.row.L.Denot g.row.L-Told.Denot). d.worker.number in
    numbers_set number c.loop-place.done.items c.loop-place.place c.index_mut.result.now c.go_on.new.one there (c.go_on.ensures.number ∙ ap number c.index_mut.ensures.value)
    c.loop-place.invariant.numbers

pub loop-place-preserved : goal.loop-place-preserved
loop-place-preserved g c =
    let there : c.loop-place.place < length c.loop-place.done.items = omega (arith, c.loop-place-test.true, c.len-place-end.ensures, c.loop-place.invariant.count) in
    let number = λ (d : Done g.row.L.Denot g.row.L-Told.Denot). d.worker.number in
    record {
      ran = All-set (λ (d : Done g.row.L.Denot g.row.L-Told.Denot). HasRunAt g.L.ProofLogger.owner g.L.ProofLogger.steps g.L.ProofLogger.refutes (g.G.Gate.may_close c.args.gate.now) c.args.book.now c.args.q.now c.args.budget d.worker d.outcome)
          c.loop-place.done.items c.loop-place.place c.go_on.new.one c.go_on.ensures.ran c.loop-place.invariant.ran;
      numbers = numbers_set number c.loop-place.done.items c.loop-place.place c.index_mut.result.now c.go_on.new.one there (c.go_on.ensures.number ∙ ap number c.index_mut.ensures.value)
          c.loop-place.invariant.numbers;
      count = length-set c.loop-place.done.items c.loop-place.place c.go_on.new.one ∙ c.loop-place.invariant.count;
      alone = taken_set (λ (d : Done g.row.L.Denot g.row.L-Told.Denot). IsNotStopped d.outcome) c.loop-place.done.items c.loop-place.place c.go_on.new.one there c.loop-place.invariant.alone c.go_on.ensures.alone;
    }

pub returns-then-is_decided-clause-settled : goal.returns-then-is_decided-clause-settled
returns-then-is_decided-clause-settled g c =
    inl (subst (Any (λ (d : Done g.row.L.Denot g.row.L-Told.Denot). Decides d.outcome)) c.deref.ensures.value (c.is_decided.ensures c.if-is_decided.true))

pub returns-then-go_on-clause-settled : goal.returns-then-go_on-clause-settled
returns-then-go_on-clause-settled g c =
    let there : c.loop-place.place < length c.loop-place.done.items = omega (arith, c.loop-place-test.true, c.len-place-end.ensures, c.loop-place.invariant.count) in
    inl (any-set (λ (d : Done g.row.L.Denot g.row.L-Told.Denot). Decides d.outcome) c.loop-place.done.items c.loop-place.place c.go_on.new.one there (c.go_on.ensures.decided c.if-go_on.true))

pub returns-clause-settled : goal.returns-clause-settled
returns-clause-settled g c =
    let whole : length c.loop-place.done.items ≤ c.loop-place.place = omega (arith, c.loop-place-test.false, c.len-place-end.ensures, c.loop-place.invariant.count) in
    inr (all_taken (λ (d : Done g.row.L.Denot g.row.L-Told.Denot). IsNotStopped d.outcome) c.loop-place.done.items c.loop-place.place whole c.loop-place.invariant.alone)
