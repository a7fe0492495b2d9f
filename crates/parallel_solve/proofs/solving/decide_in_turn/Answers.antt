use Rattle.std.proofs.Common.{ℕ, ◌+◌, length, ap, sym, subst, ◌∙◌, arith}
use Rattle.parallel_solve.specs.Gathering.{HasMade}
use Rattle.parallel_solve.specs.Solving.{IsSolved}
use Rattle.parallel_solve.proofs.solving.decide_in_turn.Goals as goal

pub conclude-requires-clause-none : goal.conclude-requires-clause-none
conclude-requires-clause-none g c = ap length c.requires.team.no_accounts

pub conclude-requires-clause-room : goal.conclude-requires-clause-room
conclude-requires-clause-room g c = omega (arith, c.in-Ok.ensures.count, c.requires.team.count, c.requires.team.room)

pub conclude-requires-clause-no_logs : goal.conclude-requires-clause-no_logs
conclude-requires-clause-no_logs g c = c.requires.team.no_logs

pub conclude-requires-clause-log_room : goal.conclude-requires-clause-log_room
conclude-requires-clause-log_room g c = omega (arith, c.in-Ok.ensures.count, c.requires.team.count, c.requires.team.log_room)

pub conclude-requires-clause-some : goal.conclude-requires-clause-some
conclude-requires-clause-some g c = omega (arith, c.in-Ok.ensures.count, c.requires.team.count, c.requires.bounds.some)

pub conclude-requires-clause-few : goal.conclude-requires-clause-few
conclude-requires-clause-few g c = omega (arith, c.in-Ok.ensures.count, c.requires.team.count, c.requires.bounds.few)

pub conclude-requires-clause-of : goal.conclude-requires-clause-of
conclude-requires-clause-of g c = c.requires.team.of

pub conclude-requires-clause-made : goal.conclude-requires-clause-made
conclude-requires-clause-made g c =
    subst (λ (n : ℕ). HasMade (n + 1) c.args.team.first) (sym (c.in-Ok.ensures.count ∙ c.requires.team.count)) c.requires.team.made

pub conclude-requires-clause-ran : goal.conclude-requires-clause-ran
conclude-requires-clause-ran g c = c.in-Ok.ensures.ran

pub conclude-requires-clause-numbers : goal.conclude-requires-clause-numbers
conclude-requires-clause-numbers g c = c.in-Ok.ensures.numbers

pub returns-in-Ok-clause-solved : goal.returns-in-Ok-clause-solved
returns-in-Ok-clause-solved g c =
    subst (λ (n : ℕ). IsSolved c.conclude.result c.args.root.now.q.now n c.args.root.now.settings.now.budget (g.M.ProofMaker.logged c.args.root.now.maker.now)) (c.in-Ok.ensures.count ∙ c.requires.team.count) c.conclude.ensures.solved

pub conclude-requires-clause-ended : goal.conclude-requires-clause-ended
conclude-requires-clause-ended g c = c.in-Ok.ensures.ended
