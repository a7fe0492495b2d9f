use Rattle.std.proofs.Common.{◌≡◌, ◌<◌, ◌++◌, ◌∷◌, [], arith, None, not, length, get_or, IsOk}
use Rattle.std.specs.Vec.{vec_len}
use Rattle.pb_terms.proofs.Trails.{IsTrailOf-set, IsTrailOf-room, trail_below}
use Rattle.pb_terms.proofs.literals.Literals.set.Goals as goal

pub invariant_of-self : goal.invariant_of-self
invariant_of-self c =
    let v = c.args.literal.variable in
    let i : v < length c.self.inside.values.items = rw (← c.self.view_is) at c.requires.in_range in
    let u : get_or c.self.inside.values.items v None ≡ None = rw (← c.self.view_is) at c.requires.unset in
    let h = trail_below c.self.inside.values.items c.self.inside.trail.items v c.self.invariant.counted i u in
    let n : vec_len c.self.inside.trail ≡ length c.self.inside.trail.items = (let o = c.self.inside.trail.ok.0 in omega arith) in
    let r = c.self.invariant.room in
    let k : IsOk c.push.result = c.push.ensures.succeeds (omega arith) in
    let e : c.push.new.self.items ≡ c.self.inside.trail.items ++ v ∷ [] = grind arith in
    rw e (IsTrailOf-room _ _ _ _ (IsTrailOf-set c.self.inside.values.items c.self.inside.trail.items _ v (not c.args.literal.negated) c.self.invariant i u) c.push.ensures.capacity)
