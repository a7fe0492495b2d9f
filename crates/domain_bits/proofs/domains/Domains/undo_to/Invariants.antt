use Rattle.std.proofs.Common.{length}
use Rattle.domain_bits.specs.Inside.{Noted}
use Rattle.domain_bits.proofs.Keeping.{state}
use Rattle.domain_bits.proofs.Undoing.{Unwinding}
use Rattle.domain_bits.proofs.domains.Domains.undo_to.Given as goal

-- while its vectors are lent, self is its fields in nested pairs: vertices and values stand first, the trail last
abbrev pub invariant-loop-run : goal.invariant-loop-run
invariant-loop-run g l = let f = l.self-inside in let i = l.initial.self-inside in record {
  unwinding : Unwinding i.1.0 i.1.1.0 l.words (g.T.Trail.removed i.1.1.1.1.1.1.1.0) (g.T.Trail.removed f.1.1.1.1.1.1.1.0) l.rows l.sizes (g.T.Trail.capacity f.1.1.1.1.1.1.1.0) l.mark-inside.length;
  noted : Noted (state i.1.0 i.1.1.0 (g.T.Trail.removed f.1.1.1.1.1.1.1.0)) l.singles;
}

abbrev pub decreases-loop-run : goal.decreases-loop-run
decreases-loop-run g l = length (g.T.Trail.removed l.self-inside.1.1.1.1.1.1.1.0)
