use Rattle.std.proofs.Common.{◌≡◌, cond, length, ap, arith}
use Rattle.pb_propagation.specs.Levels.{TwoLevels}
use Rattle.pb_propagation.proofs.Marks.{stamp_root, stamp_line, put_stamped, put_sets, put_keeps}
use Rattle.pb_propagation.proofs.levels.Levels.set.Goals.{then-self, else-self}
use Rattle.pb_propagation.proofs.levels.Levels.set.Goals as goal

stamp_is : (c : goal.After-push) → c.if-self.stamp ≡ cond c.self.inside.at_root 0 c.self.inside.line
stamp_is c = elim c.if-self.branch [
  | then-self w ↦ stamp_root c.self.inside.at_root c.self.inside.line c.if-self.stamp w.if-self.true w.stamp-is
  | else-self w ↦ stamp_line c.self.inside.at_root c.self.inside.line c.if-self.stamp w.if-self.false w.stamp-is
]

pub index_mut-requires : goal.index_mut-requires
index_mut-requires c = omega (arith, c.requires.within, c.self.inside.marks.ok.0, ap (λ (l : TwoLevels). length l.marks) c.self.view_is)

pub invariant_of-self : goal.invariant_of-self
invariant_of-self c =
    let l = ap (λ (l : TwoLevels). length l.marks) c.self.view_is in
    put_stamped c.self.inside.marks.items c.self.inside.line c.args.variable c.if-self.stamp c.self.inside.at_root c.args.value (omega (arith, c.requires.within, l)) (stamp_is c) c.self.invariant

pub returns-clause-set : goal.returns-clause-set
returns-clause-set c =
    put_sets c.args.self.now c.self.inside.marks.items c.self.inside.line c.args.variable c.if-self.stamp c.self.inside.at_root c.args.value c.self.view_is c.requires.within c.requires.unset (stamp_is c)

pub returns-clause-kept : goal.returns-clause-kept
returns-clause-kept c =
    put_keeps c.args.self.now c.self.inside.marks.items c.self.inside.line c.args.variable c.if-self.stamp c.self.inside.at_root c.args.value c.self.view_is c.requires.within c.requires.unset (stamp_is c)
    c.self.invariant
