use Rattle.std.proofs.Common.{◌≡◌, ℕ, ◌+◌, ◌*◌, ◌<◌, ◌≤◌, length, ap, sym, subst, arith}
use Rattle.std.specs.Vec.{with_items, vec_capacity}
use Rattle.std.proofs.lemmas.List.{with_items_is}
use Rattle.search_theory.specs.Bounds.{luby, cutoff}
use Rattle.search_theory.specs.Account.{Account, Honest}
use Rattle.search_theory.specs.Remaining.{remaining}
use Rattle.search_theory.proofs.Luby.{luby_le}
use Rattle.search_theory.proofs.Left.{run_small}
use Rattle.fail_account.proofs.Distinct.{path_few}
use Rattle.fail_account.proofs.HeldAccount.{rows_inside, RestartLeaves, restart_leaves, honest_restarted, nearer_restarted}
use Rattle.fail_account.proofs.account.Account.restart.Goals as goal
use Rattle.fail_account.proofs.account.Account.restart.Goals.{After-clear_words}

pub overflow_mul-used : goal.overflow_mul-used
overflow_mul-used c =
    let i = c.self.inside in
    let few : length i.path.items ≤ i.pattern = path_few i.pattern i.target i.path.items c.self.invariant.vertices c.self.invariant.range in
    let rows : (length i.path.items + 1) * i.width ≤ length i.words.items = rows_inside i.pattern i.width (length i.words.items) (length i.path.items) c.self.invariant.long few in
    let e : c.len.result ≡ length i.path.items = omega (arith, c.len.ensures, i.path.ok.0) in
    rw e (omega (arith, rows, i.words.ok.0, i.words.small))

pub overflow_add-self : goal.overflow_add-self
overflow_add-self c =
    let i = c.self.inside in
    let due : i.count ≡ cutoff i.run = rw (← c.self.view_is) at c.requires.due in
    let small : 128 * i.run ≤ i.all = run_small _ c.self.invariant.bounded due in
    omega (arith, small, c.self.invariant.bounded.spending, c.self.invariant.modest)

pub overflow_mul-self : goal.overflow_mul-self
overflow_mul-self c =
    let i = c.self.inside in
    let due : i.count ≡ cutoff i.run = rw (← c.self.view_is) at c.requires.due in
    let small : 128 * i.run ≤ i.all = run_small _ c.self.invariant.bounded due in
    let term : luby (i.run + 1) ≤ i.run + 1 = luby_le (i.run + 1) (omega arith) in
    omega (arith, small, term, c.luby.ensures, c.self.invariant.bounded.spending, c.self.invariant.modest)

pub clear_words-requires-clause-inside : goal.clear_words-requires-clause-inside
clear_words-requires-clause-inside c =
    let i = c.self.inside in
    let few : length i.path.items ≤ i.pattern = path_few i.pattern i.target i.path.items c.self.invariant.vertices c.self.invariant.range in
    let rows : (length i.path.items + 1) * i.width ≤ length i.words.items = rows_inside i.pattern i.width (length i.words.items) (length i.path.items) c.self.invariant.long few in
    let e : c.len.result ≡ length i.path.items = omega (arith, c.len.ensures, i.path.ok.0) in
    rw (e, c.deref_mut.ensures.value) rows

-- what is left when the rows are written
leaves : (c : After-clear_words)
    → RestartLeaves c.self.inside.pattern c.self.inside.target c.self.inside.budget c.self.inside.path.items c.self.inside.words.items c.self.inside.width c.self.inside.vertex
    c.self.inside.count c.self.inside.run c.self.inside.all c.clear.new.self.items (with_items c.self.inside.words c.clear_words.new.words).items (128 * c.luby.result) (vec_capacity c.clear.new.self)
leaves c =
    let i = c.self.inside in
    let due : i.count ≡ cutoff i.run = rw (← c.self.view_is) at c.requires.due in
    let long : length c.clear_words.new.words ≡ length c.deref_mut.result.now = c.clear_words.auto.words in
    let stored_is = with_items_is i.words c.clear_words.new.words (omega (arith, long, c.deref_mut.ensures.len, i.words.ok.0)) in
    let e : c.len.result ≡ length i.path.items = omega (arith, c.len.ensures, i.path.ok.0) in
    restart_leaves i.pattern i.target i.budget i.path.items i.words.items i.width i.vertex i.count i.run i.all i.limit _
    c.clear.new.self.items c.deref_mut.result.now c.clear_words.new.words (with_items i.words c.clear_words.new.words).items ((c.len.result + 1) * i.width) (128 * c.luby.result) _
    c.self.invariant c.clear.ensures.items c.deref_mut.ensures.value (ap (λ (n : ℕ). (n + 1) * i.width) e) c.clear_words.ensures stored_is long
    due (ap (λ (n : ℕ). 128 * n) c.luby.ensures) (omega (arith, c.self.invariant.room, c.clear.ensures.capacity))

pub invariant_of-self : goal.invariant_of-self
invariant_of-self c = (leaves (goal.at.invariant_of-self c).After-clear_words).kept

pub returns-clause-restarted : goal.returns-clause-restarted
returns-clause-restarted c = rw (← c.self.view_is) ((leaves (goal.at.returns-clause-restarted c).After-clear_words).is)

pub returns-clause-honest : goal.returns-clause-honest
returns-clause-honest c =
    subst (λ (a : Account). Honest c.args.q.now a) (sym (returns-clause-restarted c)) (honest_restarted c.args.q.now c.args.self.now c.requires.honest c.requires.due)

pub returns-clause-nearer : goal.returns-clause-nearer
returns-clause-nearer c =
    subst (λ (a : Account). remaining a < remaining c.args.self.now) (sym (returns-clause-restarted c)) (nearer_restarted c.args.self.now c.requires.due)
