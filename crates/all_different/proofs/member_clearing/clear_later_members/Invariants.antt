use Rattle.std.proofs.Common.{◌≡◌, ◌+◌, length, not}
use Rattle.domain_bits.specs.Removals.{size_of}
use Rattle.all_different.specs.Members.{cleared_at, part}
use Rattle.all_different.specs.Prefixes.{in_prefix, in_union}
use Rattle.all_different.specs.Ranks.{rank}
use Rattle.all_different.proofs.member_clearing.clear_later_members.Given as goal

abbrev pub invariant-loop-place : goal.invariant-loop-place
invariant-loop-place g l =
    let whole = part l.fn.d l.members in
    let n = rank (size_of whole) (length l.members) l.last + 1 in
    l.d ≡ cleared_at l.fn.d l.members (λ i. not (in_prefix whole n i)) (in_union whole n) l.place
