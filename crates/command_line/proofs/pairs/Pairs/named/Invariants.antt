use Rattle.std.proofs.Common.{◌≡◌, length, IsUtf8}
use Rattle.command_line.specs.Pairs.{pieces, pairs}
use Rattle.command_line.proofs.PairTexts.{onto}
use Rattle.command_line.proofs.pairs.Pairs.named.Given as goal

abbrev pub invariant-pieces : goal.invariant-pieces
invariant-pieces l = (pairs l.fn.text ≡ onto l.pairs (pieces l.rest)) × IsUtf8 l.rest

abbrev pub decreases-pieces : goal.decreases-pieces
decreases-pieces l = length l.rest
