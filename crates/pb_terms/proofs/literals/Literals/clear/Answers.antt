use Rattle.std.proofs.Common.{◌≡◌, ◌<◌, ◌++◌, ◌∷◌, [], arith, subst, List, ℕ, length}
use Rattle.std.specs.Vec.{vec_capacity}
use Rattle.pb_terms.specs.Trail.{AllBelow}
use Rattle.pb_terms.proofs.Trails.{ToClear, ToClear-more, ToClear-end, ToClear-room, IsTrailOf-none, AllBelow-pop, no_items}
use Rattle.pb_terms.proofs.literals.Literals.clear.Goals as goal

pub index_mut-requires : goal.index_mut-requires
index_mut-requires c =
    let n : ℕ = length c.args.self.now in
    let e : c.loop-variable.self-inside.trail.items ≡ c.pop.new.self.items ++ c.in-Some.variable ∷ [] = c.in-Some.ensures.items in
    let r : AllBelow n (c.pop.new.self.items ++ c.in-Some.variable ∷ []) = subst (λ (xs : List ℕ). AllBelow n xs) e c.loop-variable.invariant.range in
    let k : c.in-Some.variable < n = (AllBelow-pop n c.in-Some.variable c.pop.new.self.items r).1 in
    let l : length c.loop-variable.self-inside.values.items ≡ n = c.loop-variable.invariant.long in
    let o = c.loop-variable.self-inside.values.ok.0 in
    omega arith

pub loop-variable-preserved : goal.loop-variable-preserved
loop-variable-preserved c =
    let n : ℕ = length c.args.self.now in
    let values = c.loop-variable.self-inside.values.items in
    let capacity = vec_capacity c.loop-variable.self-inside.trail in
    let e : c.loop-variable.self-inside.trail.items ≡ c.pop.new.self.items ++ c.in-Some.variable ∷ [] = c.in-Some.ensures.items in
    let t : ToClear values (c.pop.new.self.items ++ c.in-Some.variable ∷ []) n capacity = subst (λ (xs : List ℕ). ToClear values xs n capacity) e c.loop-variable.invariant in
    ToClear-room _ _ n capacity _ (ToClear-more values c.pop.new.self.items n capacity c.in-Some.variable t) (let q = c.pop.ensures.capacity in omega arith)

pub invariant_of-self : goal.invariant_of-self
invariant_of-self c =
    let n : ℕ = length c.args.self.now in
    let values = c.loop-variable.self-inside.values.items in
    let capacity = vec_capacity c.loop-variable.self-inside.trail in
    let d : c.loop-variable.self-inside.trail.items ≡ [] = grind (arith, no_items, c.loop-variable.self-inside.trail.ok.0) in
    let e : c.pop.new.self.items ≡ [] = grind (arith, no_items, c.pop.new.self.ok.0) in
    let k = ToClear-end values n capacity (subst (λ (xs : List ℕ). ToClear values xs n capacity) d c.loop-variable.invariant) in
    let q = c.pop.ensures.capacity in
    rw e (IsTrailOf-none values n _ k (let r = c.loop-variable.invariant.room in omega arith))

pub returns : goal.returns
returns c =
    let n : ℕ = length c.args.self.now in
    let values = c.loop-variable.self-inside.values.items in
    let capacity = vec_capacity c.loop-variable.self-inside.trail in
    let e : c.loop-variable.self-inside.trail.items ≡ [] = grind (arith, no_items, c.loop-variable.self-inside.trail.ok.0) in
    ToClear-end values n capacity (subst (λ (xs : List ℕ). ToClear values xs n capacity) e c.loop-variable.invariant)
