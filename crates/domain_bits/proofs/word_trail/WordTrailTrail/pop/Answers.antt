use Rattle.std.proofs.Common.{◌++◌, ◌-◌, ap, ◌∙◌, sym, arith, length, subst, List}
use Rattle.domain_bits.specs.declared.trail.Run.{Run}
use Rattle.domain_bits.specs.Runs.{pairs_of, AreRuns}
use Rattle.domain_bits.specs.Removals.{at_vertex}
use Rattle.bit_rows.specs.BitRows.{word_values}
use Rattle.domain_bits.proofs.WordRuns.{pairs_of-last, taken, shortened, shortened_pairs, ones_some}
use Rattle.domain_bits.proofs.word_trail.WordTrailTrail.pop.Goals as goal

pub invariant_of-self : goal.invariant_of-self
invariant_of-self c = rw c.values_in-count.ensures.count (taken c.self.inside.runs.items c.pop.new.self.items c.self.inside.pairs c.in-Some.run' c.in-Some.ensures.items c.self.invariant).kept

pub returns-then-count-self-clause-some : goal.returns-then-count-self-clause-some
returns-then-count-self-clause-some c =
    ap (λ v. v.listed) (sym c.self.view_is) ∙ ap pairs_of c.in-Some.ensures.items ∙ pairs_of-last c.pop.new.self.items c.in-Some.run'

pub returns-then-count-self-clause-fewer : goal.returns-then-count-self-clause-fewer
returns-then-count-self-clause-fewer c =
    let t = taken c.self.inside.runs.items c.pop.new.self.items c.self.inside.pairs c.in-Some.run' c.in-Some.ensures.items c.self.invariant in
    omega (arith, ap (λ v. length v.listed) c.self.view_is, c.self.invariant.counted, t.count, ones_some c.in-Some.run'.word t.run.some)

pub returns-then-count-self-clause-above : goal.returns-then-count-self-clause-above
returns-then-count-self-clause-above c =
    let t = taken c.self.inside.runs.items c.pop.new.self.items c.self.inside.pairs c.in-Some.run' c.in-Some.ensures.items c.self.invariant in
    omega (arith, t.count, c.values_in-count.ensures.count, c.if-count-self.true, c.if-self-mark.false)

pub invariant_of-self-2 : goal.invariant_of-self-2
invariant_of-self-2 c =
    let t = taken c.self.inside.runs.items c.pop.new.self.items c.self.inside.pairs c.in-Some.run' c.in-Some.ensures.items c.self.invariant in
    let P : List Run → Type 0 = λ rs. AreRuns rs (c.self.inside.pairs - 1) in
    subst P (sym c.push_reserved.ensures.items)
    (shortened c.pop.new.self.items c.self.inside.pairs c.in-Some.run' c.top_bit-top.result t (record { last = c.top_bit-top.ensures.last; one = c.top_bit-top.ensures.one; others = c.top_bit-top.ensures.others }) c.top_bit-top.type_inv (omega (arith, c.values_in-count.ensures.count, c.if-count-self.false, c.if-self-mark.false)))

pub returns-clause-some : goal.returns-clause-some
returns-clause-some c =
    ap (λ v. v.listed) (sym c.self.view_is) ∙ ap pairs_of c.in-Some.ensures.items
    ∙ shortened_pairs c.pop.new.self.items c.in-Some.run' c.top_bit-top.result (record { last = c.top_bit-top.ensures.last; one = c.top_bit-top.ensures.one; others = c.top_bit-top.ensures.others })
    ∙ ap (λ rs. pairs_of rs ++ at_vertex c.in-Some.run'.vertex (word_values c.in-Some.run'.place c.top_bit-top.result)) (sym c.push_reserved.ensures.items)

pub returns-clause-fewer : goal.returns-clause-fewer
returns-clause-fewer c = omega (arith, ap (λ v. length v.listed) c.self.view_is, c.self.invariant.counted, (invariant_of-self-2 c).counted, c.if-self-mark.false)

pub returns-clause-above : goal.returns-clause-above
returns-clause-above c = omega (arith, (invariant_of-self-2 c).counted, c.if-self-mark.false)
