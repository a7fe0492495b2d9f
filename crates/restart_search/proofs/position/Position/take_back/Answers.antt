use Rattle.std.proofs.Common.{List, ap, subst, arith}
use Rattle.search_theory.specs.Account.{Account}
use Rattle.restart_search.specs.declared.position.Moment.{Moment}
use Rattle.restart_search.specs.Searching.{Based}
use Rattle.restart_search.specs.Acting.{WereActedOn}
use Rattle.restart_search.proofs.Moments.{acting_closed}
use Rattle.restart_search.proofs.Closing.{sound_closed, some_mark}
use Rattle.restart_search.proofs.Logging.{told_closed}
use Rattle.restart_search.proofs.position.Position.take_back.Goals as goal

pub undo_to-requires : goal.undo_to-requires
undo_to-requires g c = (sound_closed _ _ _ _ _ _ _ c.in-Some.moment
    (subst (λ (ks : List Moment). Based c.args.q.now c.args.self.now.domains c.args.self.now.undecided c.args.self.now.account ks c.args.self.now.root) c.in-Some.ensures.items c.requires.based)
    c.fail.ensures.failed c.fail.ensures.honest).0.domains

pub undo_to-requires-in-Some : goal.undo_to-requires-in-Some
undo_to-requires-in-Some g c = (sound_closed _ _ _ _ _ _ _ c.in-Some.moment
    (subst (λ (ks : List Moment). Based c.args.q.now c.args.self.now.domains c.args.self.now.undecided c.args.self.now.account ks c.args.self.now.root) c.in-Some.ensures.items c.requires.based)
    c.fail.ensures.failed c.fail.ensures.honest).0.past

pub returns-in-None-clause-sound : goal.returns-in-None-clause-sound
returns-in-None-clause-sound g c =
    absurd (omega (arith, some_mark _ _ _ _ _ _ c.requires.based c.requires.some, c.in-None.ensures.cases.0, c.args.self.now.marks.ok.0))

pub returns-in-Some-clause-sound : goal.returns-in-Some-clause-sound
returns-in-Some-clause-sound g c =
    rw (c.undo_to.ensures.after, c.undo_to-in-Some.ensures.after)
    (sound_closed _ _ _ _ _ _ _ c.in-Some.moment
    (subst (λ (ks : List Moment). Based c.args.q.now c.args.self.now.domains c.args.self.now.undecided c.args.self.now.account ks c.args.self.now.root) c.in-Some.ensures.items c.requires.based)
    c.fail.ensures.failed c.fail.ensures.honest).1

pub returns-in-None-clause-acting : goal.returns-in-None-clause-acting
returns-in-None-clause-acting g c = λ n were.
    absurd (omega (arith, some_mark _ _ _ _ _ _ c.requires.based c.requires.some, c.in-None.ensures.cases.0, c.args.self.now.marks.ok.0))

pub returns-in-Some-clause-acting : goal.returns-in-Some-clause-acting
returns-in-Some-clause-acting g c = λ n were.
    rw (c.undo_to.ensures.after)
    (acting_closed c.args.self.now.domains n _ c.in-Some.moment c.args.self.now.root (subst (λ (ks : List Moment). WereActedOn c.args.self.now.domains n ks c.args.self.now.root) c.in-Some.ensures.items were))

pub returns-in-None-clause-run : goal.returns-in-None-clause-run
returns-in-None-clause-run g c = ap (λ (a : Account). a.run) c.fail.ensures.failed.new_is

pub returns-in-Some-clause-run : goal.returns-in-Some-clause-run
returns-in-Some-clause-run g c = ap (λ (a : Account). a.run) c.fail.ensures.failed.new_is

pub returns-in-None-clause-told : goal.returns-in-None-clause-told
returns-in-None-clause-told g c = λ n t.
    absurd (omega (arith, some_mark _ _ _ _ _ _ c.requires.based c.requires.some, c.in-None.ensures.cases.0, c.args.self.now.marks.ok.0))

pub returns-in-Some-clause-told : goal.returns-in-Some-clause-told
returns-in-Some-clause-told g c = λ n t.
    told_closed c.args.q.now n c.args.self.now.domains _ c.args.self.now.undecided c.args.self.now.account _ c.args.self.now.marks.items _ c.args.self.now.root c.in-Some.moment _ _ c.requires.based c.fail.ensures.failed c.in-Some.ensures.items
    c.undo_to.ensures.after c.forget_to.ensures t
