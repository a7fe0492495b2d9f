use Rattle.std.proofs.Common.{ℕ, Option, sym, subst}
use Rattle.std.specs.Prelude.{All, IfSome}
use Rattle.graph_theory.specs.Embedding.{Problem}
use Rattle.proof_collection.specs.Making.{IsFinisher}
use Rattle.parallel_solve.specs.Teaming.{IsRefuter}
use Rattle.parallel_solve.proofs.Accounts.{all_spent}
use Rattle.parallel_solve.proofs.tally.answer.Goals as goal

pub of_workers-requires-clause-steps : goal.of_workers-requires-clause-steps
of_workers-requires-clause-steps g c = subst (λ (p : Problem). All (λ (l : g.row.L.Denot). g.L.ProofLogger.steps l p c.args.rows.now) c.args.logs.items) (sym c.requires.maker) c.requires.steps

pub of_workers-requires-clause-refutes : goal.of_workers-requires-clause-refutes
of_workers-requires-clause-refutes g c =
    let refuter = subst (λ (o : Option ℕ). IfSome o (IsRefuter (λ (l : g.row.L.Denot). g.L.ProofLogger.refutes l c.args.q.now c.args.rows.now) c.args.logs.items)) c.in-Some-refuted.is c.requires.refuter in
    subst (λ (p : Problem). IsFinisher (λ (l : g.row.L.Denot). g.L.ProofLogger.refutes l p c.args.rows.now) c.args.logs.items c.in-Some-refuted.finisher) (sym c.requires.maker) refuter.finisher

pub returns-then-spent-clause-solved : goal.returns-then-spent-clause-solved
returns-then-spent-clause-solved g c = all_spent c.args.q.now c.args.budget c.args.tally.accounts.items c.requires.some (c.requires.tally.spent_of c.if-spent.true)
