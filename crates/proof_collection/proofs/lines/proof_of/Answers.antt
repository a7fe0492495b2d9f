use Rattle.std.proofs.Common.{◌≤◌, refl, subst}
use Rattle.graph_theory.specs.Graph.{size}
use Rattle.graph_rows.specs.Orders.{IsOrder}
use Rattle.proof_collection.proofs.Merging.{MayMerge, proven}
use Rattle.proof_collection.proofs.lines.proof_of.Goals as goal

pub returns-clause-finisher : goal.returns-clause-finisher
returns-clause-finisher c = refl

pub returns-clause-proven : goal.returns-clause-proven
returns-clause-proven c =
    let q = c.args.problem.now in
    let pattern_few : size q.pattern ≤ 1024 = subst (λ g. size g ≤ 1024) c.pattern-pattern.ensures.pattern c.pattern-pattern.ensures.few in
    let target_few : size q.target ≤ 8192 = subst (λ g. size g ≤ 8192) c.target-target.ensures.target c.target-target.ensures.few in
    let order : IsOrder (size q.pattern) q.less = subst (IsOrder (size q.pattern)) c.less-less.ensures.pairs c.less-less.ensures.order in
    let may : MayMerge c.args.parts.journals.items = subst MayMerge c.deref.ensures.value c.may_be_merged.ensures in
    proven q c.args.parts c.requires pattern_few target_few order may
