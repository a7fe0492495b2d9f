use Rattle.std.proofs.Common.{◌≡◌, ℕ, ◌-◌, ◌<◌, List, length, take, drop, ap, ◌∙◌, subst}
use Rattle.sparse_set.proofs.Places.{rest_from, member_at, member_place}
use Rattle.sparse_set.proofs.SparseSet.members.Goals as goal

-- the slice is the rest of the items
rest : (c : goal.After-result-1) → take (length c.deref.result.now - c.self.inside.gone) (drop c.self.inside.gone c.deref.result.now) ≡ drop c.self.inside.gone c.self.inside.items.items
rest c = rest_from c.deref.result.now c.self.inside.gone ∙ ap (drop c.self.inside.gone) c.deref.ensures.value

pub returns-clause-member : goal.returns-clause-member
returns-clause-member c k k_in =
    let f = c.self.inside in
    let inside : k < length (drop f.gone f.items.items) = subst (λ (xs : List ℕ). k < length xs) (rest c) k_in in
    rw (rest c, ← c.self.view_is) (member_at f.items.items f.places.items f.gone k c.self.invariant inside)

pub returns-clause-all : goal.returns-clause-all
returns-clause-all c p here =
    let f = c.self.inside in
    let member = rw (← c.self.view_is) at here in
    rw (rest c) (member_place f.items.items f.places.items f.gone p c.self.invariant member)
