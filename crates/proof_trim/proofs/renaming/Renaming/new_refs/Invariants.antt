use Rattle.std.proofs.Common.{◌≡◌, map, take}
use Rattle.proof_trim.specs.Ranks.{renamed}
use Rattle.proof_trim.proofs.renaming.Renaming.new_refs.Given as goal

abbrev pub invariant-loop-at : goal.invariant-loop-at
invariant-loop-at l = l.out.items ≡ map (renamed l.self.index.now l.self.marks.now) (take l.at-index l.refs)
