use Rattle.std.proofs.Common.{arith}
use Rattle.all_different.proofs.Parts.{few_members}
use Rattle.all_different.proofs.member_clearing.clear_member.Goals as goal

pub invariant_of-is_later : goal.invariant_of-is_later
invariant_of-is_later g c = record {
  are_members = c.requires.are_members;
  few = omega (arith, few_members c.args.d.now.vertices c.args.members.now c.requires.are_members, c.vertices-vertices.ensures, c.vertices-vertices.type_inv);
}
