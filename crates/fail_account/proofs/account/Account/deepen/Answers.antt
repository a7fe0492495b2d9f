use Rattle.std.proofs.Common.{◌<◌, length, sym, subst, arith}
use Rattle.search_theory.specs.Account.{Account, Honest, deepened}
use Rattle.search_theory.specs.Remaining.{remaining}
use Rattle.fail_account.proofs.Levels.{path_of-steps}
use Rattle.fail_account.proofs.HeldAccount.{room_to_deepen, deepened_held, kept_deepened, honest_deepened, nearer_deepened}
use Rattle.fail_account.proofs.account.Account.deepen.Goals as goal

pub push_reserved-requires : goal.push_reserved-requires
push_reserved-requires c =
    let i = c.self.inside in
    let may = rw (← c.self.view_is) at c.requires.may_guess in
    omega (arith, room_to_deepen i.pattern i.target i.budget i.path.items i.words.items i.width i.vertex i.count i.run i.all i.limit _ c.args.q.now c.args.p c.args.t c.self.invariant may)

pub invariant_of-self : goal.invariant_of-self
invariant_of-self c =
    let i = c.self.inside in
    let may = rw (← c.self.view_is) at c.requires.may_guess in
    rw c.push_reserved.ensures.items (kept_deepened i.pattern i.target i.budget i.path.items i.words.items i.width i.vertex i.count i.run i.all i.limit _ _ c.args.q.now c.args.p c.args.t c.self.invariant may
    (room_to_deepen i.pattern i.target i.budget i.path.items i.words.items i.width i.vertex i.count i.run i.all i.limit _ c.args.q.now c.args.p c.args.t c.self.invariant may) (omega arith))

pub returns-clause-deepened : goal.returns-clause-deepened
returns-clause-deepened c =
    let i = c.self.inside in
    let may = rw (← c.self.view_is) at c.requires.may_guess in
    rw (← c.self.view_is) (rw c.push_reserved.ensures.items (deepened_held i.pattern i.target i.budget i.path.items i.words.items i.width i.vertex i.count i.run i.all i.limit _ c.args.p c.args.t c.self.invariant
    (room_to_deepen i.pattern i.target i.budget i.path.items i.words.items i.width i.vertex i.count i.run i.all i.limit _ c.args.q.now c.args.p c.args.t c.self.invariant may)))

pub returns-clause-few : goal.returns-clause-few
returns-clause-few c =
    let i = c.self.inside in
    let may = rw (← c.self.view_is) at c.requires.may_guess in
    let few : length i.path.items < i.pattern = room_to_deepen i.pattern i.target i.budget i.path.items i.words.items i.width i.vertex i.count i.run i.all i.limit _ c.args.q.now c.args.p c.args.t c.self.invariant may in
    rw (← c.self.view_is) (rw (path_of-steps i.words.items i.width i.target 0 i.path.items) few)

pub returns-clause-honest : goal.returns-clause-honest
returns-clause-honest c =
    subst (λ (a : Account). Honest c.args.q.now a) (sym (returns-clause-deepened c))
    (honest_deepened c.args.q.now c.args.self.now c.args.p c.args.t c.requires.honest c.requires.unspent c.requires.before_cutoff c.requires.may_guess)

pub returns-clause-nearer : goal.returns-clause-nearer
returns-clause-nearer c =
    let i = c.self.inside in
    let may = rw (← c.self.view_is) at c.requires.may_guess in
    let near = nearer_deepened i.pattern i.target i.budget i.path.items i.words.items i.width i.vertex i.count i.run i.all i.limit 0 c.args.q.now c.args.p c.args.t may
    (room_to_deepen i.pattern i.target i.budget i.path.items i.words.items i.width i.vertex i.count i.run i.all i.limit _ c.args.q.now c.args.p c.args.t c.self.invariant may) in
    subst (λ (a : Account). remaining a < remaining c.args.self.now) (sym (returns-clause-deepened c)) (subst (λ (a : Account). remaining (deepened a c.args.p c.args.t) < remaining a) c.self.view_is near)
