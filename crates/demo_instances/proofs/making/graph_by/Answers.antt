use Rattle.std.proofs.Common.{◌∙◌, ◌≡◌, sym, ap, subst, map, replicate, Vec, ℕ, Global, List, [], ◌∷◌, rules, arith}
use Rattle.std.proofs.lemmas.List.{map-append}
use Rattle.demo_instances.specs.Listing.{ListsPairs}
use Rattle.demo_instances.proofs.Lists.{pairs-more}
use Rattle.demo_instances.proofs.Graphs.{made-ok}
use Rattle.demo_instances.proofs.making.graph_by.Goals as goal

-- the items of each vector
abbrev items_of : List (Vec ℕ Global) → List (List ℕ)
items_of vs = map (λ v. v.items) vs

pub loop-a-preserved : goal.loop-a-preserved
loop-a-preserved g c =
    pairs-more c.args.size c.loop-a.a (g.P.Pairs.pair c.args.pairs.now) (items_of c.loop-a.lists.items) (items_of c.push.new.self.items) c.in_ok-list.list.items
    (ap items_of c.in_ok-push.ensures.items ∙ map-append (λ (v : Vec ℕ Global). v.items) c.loop-a.lists.items (c.in_ok-list.list ∷ []))
    c.in_ok-list.ensures c.loop-a.invariant

pub returns-clause-made : goal.returns-clause-made
returns-clause-made g c =
    let n = c.args.size in
    let pair = g.P.Pairs.pair c.args.pairs.now in
    let all : c.loop-a.a ≡ n = omega arith in
    let lists = subst (λ (m : ℕ). ListsPairs n m pair (items_of c.loop-a.lists.items)) all c.loop-a.invariant in
    let zeros : c.in_ok-labels.labels.items ≡ replicate c.args.size 0 = search rules in
    made-ok c.new.result n pair c.from_vec.result c.in_ok-neighbours.neighbours (c.from_vec.ensures ∙ zeros)
    (subst (ListsPairs n n pair) (sym (c.in_ok-neighbours.ensures ∙ ap items_of c.deref.ensures.value)) lists) c.new.ensures.graph

pub returns-clause-plain : goal.returns-clause-plain
returns-clause-plain g c = c.new.ensures.plain tt
