use Rattle.std.proofs.Common.{sym, subst}
use Rattle.pair_lines.specs.Choices.{IsSharing}
use Rattle.pair_lines.proofs.Meetings.{sharing_count}
use Rattle.pair_lines.proofs.sharing.Sharing.count.Goals as goal

pub returns-in-Nothing : goal.returns-in-Nothing
returns-in-Nothing c = λ q p r shares. sym (subst (IsSharing q p r) c.in-Nothing.is shares)

pub returns-in-One : goal.returns-in-One
returns-in-One c = λ q p r shares. let h = subst (IsSharing q p r) c.in-One.is shares in sym (sharing_count q p r 1 h.3 h.0)

pub returns-in-Many : goal.returns-in-Many
returns-in-Many c = λ q p r shares. let h = subst (IsSharing q p r) c.in-Many.is shares in sym (sharing_count q p r c.in-Many.count h.2 h.0)
