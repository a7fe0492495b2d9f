use Rattle.std.proofs.Common.{take}
use Rattle.domain_bits.specs.Changes.{Keeps}
use Rattle.propagation.proofs.Taking.{is_left}
use Rattle.propagation.proofs.removal.take_values.Given as goal

abbrev pub invariant-loop-u : goal.invariant-loop-u
invariant-loop-u g l = Keeps l.fn.d l.d l.r (is_left l.t (take l.u-index l.near))
