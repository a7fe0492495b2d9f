use Rattle.std.proofs.Common.{subst}
use Rattle.search_theory.specs.Account.{Account, Honest}
use Rattle.restart_search.proofs.Closing.{sound_restarted}
use Rattle.restart_search.proofs.BetweenRuns.{at_root_restarted}
use Rattle.restart_search.proofs.Logging.{told_restarted}
use Rattle.restart_search.proofs.position.Position.restart.Goals as goal

pub undo_to-requires : goal.undo_to-requires
undo_to-requires g c =
    (sound_restarted _ _ _ _ _ _ c.requires.sound (subst (λ (a : Account). Honest c.args.q.now a) c.restart.ensures.restarted c.restart.ensures.honest)).0.domains

pub undo_to-requires-2 : goal.undo_to-requires-2
undo_to-requires-2 g c =
    (sound_restarted _ _ _ _ _ _ c.requires.sound (subst (λ (a : Account). Honest c.args.q.now a) c.restart.ensures.restarted c.restart.ensures.honest)).0.past

pub returns-clause-at_root : goal.returns-clause-at_root
returns-clause-at_root g c =
    rw (c.undo_to.ensures.after, c.undo_to-2.ensures.after, c.restart.ensures.restarted, c.clear.ensures.items)
    (at_root_restarted _ _ _ _ _ _ c.requires.sound (subst (λ (a : Account). Honest c.args.q.now a) c.restart.ensures.restarted c.restart.ensures.honest))

pub returns-clause-told : goal.returns-clause-told
returns-clause-told g c = λ n t.
    told_restarted c.args.q.now n c.args.self.now.domains _ c.args.self.now.undecided c.args.self.now.account c.args.self.now.marks.items _ _ c.args.self.now.root _ _ c.requires.sound.based c.undo_to.ensures.after c.forget_to.ensures t
