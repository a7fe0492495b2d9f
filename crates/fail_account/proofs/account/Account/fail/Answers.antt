use Rattle.std.proofs.Common.{◌≡◌, ℕ, ◌+◌, ◌-◌, ◌*◌, ◌<◌, ◌≤◌, List, [], ◌∷◌, ◌++◌, length, ap, sym, ◌∙◌, arith, length-append}
use Rattle.std.specs.Vec.{with_items, vec_capacity}
use Rattle.std.proofs.lemmas.List.{with_items_is}
use Rattle.fail_account.proofs.Levels.{path_of-steps}
use Rattle.fail_account.proofs.Distinct.{path_few}
use Rattle.fail_account.proofs.HeldAccount.{in_row, rows_inside, last_value, split_last, FailLeaves, fail_leaves, honest_failed}
use Rattle.fail_account.proofs.account.Account.fail.Goals as goal
use Rattle.fail_account.proofs.account.Account.fail.Goals.{After-truncate, After-refute}

-- there is a last pair
some : (c : After-truncate) → c.len-last.result - 1 + 1 ≡ length c.self.inside.path.items
some c =
    let h = rw (← c.self.view_is) at c.requires.some in
    let long : 0 < length c.self.inside.path.items = rw (path_of-steps c.self.inside.words.items c.self.inside.width c.self.inside.target 0 c.self.inside.path.items) at h in
    omega (arith, c.len-last.ensures, c.self.inside.path.ok.0)

-- which the path ends in
path_is : (c : After-truncate) → c.self.inside.path.items ≡ c.truncate.new.self.items ++ c.index.result.now ∷ []
path_is c =
    split_last c.self.inside.path.items (c.len-last.result - 1) c.index.result.now (some c) c.index.ensures
    ∙ ap (λ (xs : List (ℕ × ℕ)). xs ++ c.index.result.now ∷ []) (sym c.truncate.ensures.items)

pub refute-requires-clause-in_row : goal.refute-requires-clause-in_row
refute-requires-clause-in_row c =
    let i = c.self.inside in
    let is = path_is (goal.at.refute-requires-clause-in_row c).After-truncate in
    let value : c.from.result < i.target = rw c.from.ensures (last_value i.pattern i.target i.path.items c.truncate.new.self.items c.index.result.now c.self.invariant.range is) in
    in_row i.target i.width c.from.result c.self.invariant.width_is value

pub refute-requires-clause-inside : goal.refute-requires-clause-inside
refute-requires-clause-inside c =
    let i = c.self.inside in
    let deep = some (goal.at.refute-requires-clause-inside c).After-truncate in
    let few : length i.path.items ≤ i.pattern = path_few i.pattern i.target i.path.items c.self.invariant.vertices c.self.invariant.range in
    let rows : (length i.path.items + 1) * i.width ≤ length i.words.items = rows_inside i.pattern i.width (length i.words.items) (length i.path.items) c.self.invariant.long few in
    let e : c.len-last.result - 1 + 2 ≡ length i.path.items + 1 = omega (arith, deep) in
    rw (e, c.deref_mut.ensures.value) rows

-- what is left when the rows are written
leaves : (c : After-refute) → c.self.inside.path.items ≡ c.truncate.new.self.items ++ c.index.result.now ∷ [] → c.len-last.result - 1 + 1 ≡ length c.self.inside.path.items
    → FailLeaves c.self.inside.pattern c.self.inside.target c.self.inside.budget c.self.inside.path.items c.self.inside.words.items c.self.inside.width c.self.inside.vertex
    c.self.inside.count c.self.inside.run c.self.inside.all c.self.inside.limit c.truncate.new.self.items (with_items c.self.inside.words c.refute.new.words).items
    c.index.result.now.0 c.counted-count.result.0 c.counted-count.result.1 (vec_capacity c.truncate.new.self)
leaves c is deep =
    let i = c.self.inside in
    let long : length c.refute.new.words ≡ length c.deref_mut.result.now = c.refute.auto.words in
    let front_long : length c.truncate.new.self.items ≡ c.len-last.result - 1 = omega (arith, ap length is, length-append c.truncate.new.self.items (c.index.result.now ∷ []), deep) in
    let stored_is = with_items_is i.words c.refute.new.words (omega (arith, long, c.deref_mut.ensures.len, i.words.ok.0)) in
    fail_leaves i.pattern i.target i.budget i.path.items i.words.items i.width i.vertex i.count i.run i.all i.limit _
    c.truncate.new.self.items c.deref_mut.result.now c.refute.new.words (with_items i.words c.refute.new.words).items (c.len-last.result - 1) c.from.result c.counted-count.result.0 c.counted-count.result.1 _ c.index.result.now
    c.self.invariant is c.deref_mut.ensures.value (sym front_long) c.from.ensures c.refute.ensures stored_is long (omega (arith, c.self.invariant.room, c.truncate.ensures.capacity)) c.counted-count.ensures.run c.counted-count.ensures.all

pub invariant_of-self : goal.invariant_of-self
invariant_of-self c = (leaves (goal.at.invariant_of-self c).After-refute (path_is (goal.at.invariant_of-self c).After-truncate) (some (goal.at.invariant_of-self c).After-truncate)).kept

pub returns-clause-failed : goal.returns-clause-failed
returns-clause-failed c = rw (← c.self.view_is) ((leaves (goal.at.returns-clause-failed c).After-refute (path_is (goal.at.returns-clause-failed c).After-truncate) (some (goal.at.returns-clause-failed c).After-truncate)).fails)

pub returns-clause-honest : goal.returns-clause-honest
returns-clause-honest c = honest_failed c.args.q.now c.args.self.now _ c.requires.honest c.requires.dead (returns-clause-failed c)

pub returns-clause-nearer : goal.returns-clause-nearer
returns-clause-nearer c = rw (← c.self.view_is) ((leaves (goal.at.returns-clause-nearer c).After-refute (path_is (goal.at.returns-clause-nearer c).After-truncate) (some (goal.at.returns-clause-nearer c).After-truncate)).nearer)
