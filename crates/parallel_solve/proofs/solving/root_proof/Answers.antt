use Rattle.std.proofs.Common.{[], refl, sym, ap, ◌∙◌, subst}
use Rattle.graph_theory.specs.Graph.{size}
use Rattle.graph_theory.specs.Embedding.{Problem}
use Rattle.search_theory.specs.Account.{Account, path, fresh}
use Rattle.parallel_solve.proofs.Told.{root_ends, none_by}
use Rattle.parallel_solve.proofs.solving.root_proof.Goals as goal

pub close-requires-clause-writes : goal.close-requires-clause-writes
close-requires-clause-writes g c =
    subst (λ (a : Account). g.L.ProofLogger.writes c.in_ok-log.log c.args.q.now [] a) (sym c.in_ok-account.ensures.fresh)
    (subst (λ (p : Problem). g.L.ProofLogger.writes c.in_ok-log.log p [] (fresh (size c.args.q.now.pattern) (size c.args.q.now.target) 0)) c.requires.maker
    (c.in_ok-log.ensures.writes [] (size c.args.q.now.pattern) (size c.args.q.now.target) 0 (none_by 0 [] refl)))

pub close-requires-clause-ends : goal.close-requires-clause-ends
close-requires-clause-ends g c = root_ends c.args.q.now c.in_ok-account.account (g.L.Told.Recorder.changes c.args.told.now) (g.L.Told.Recorder.short c.args.told.now) c.args.failure c.requires.fails

pub of_root-requires-clause-owner : goal.of_root-requires-clause-owner
of_root-requires-clause-owner g c = c.close.ensures.owner ∙ c.in_ok-log.ensures.owner

pub of_root-requires-clause-refutes : goal.of_root-requires-clause-refutes
of_root-requires-clause-refutes g c =
    subst (λ (p : Problem). g.L.ProofLogger.refutes c.close.new.self p []) (sym c.requires.maker)
    (c.in_ok-close.ensures.closed.refuted (ap path c.in_ok-account.ensures.fresh))
