use Rattle.std.proofs.Common.{ℕ, get_or, sym, ap, ◌∙◌}
use Rattle.domain_bits.specs.Removals.{in_domain}
use Rattle.all_different.proofs.Parts.{part_domain}
use Rattle.all_different.proofs.family.PartFamily.row.Goals as goal

pub returns-clause-bits : goal.returns-clause-bits
returns-clause-bits g c t =
    let x = c.args.self.now in
    c.row.ensures.bits t ∙ ap (λ (i : ℕ). in_domain x.domains.now (get_or x.members.now i 0) t) c.from.ensures
    ∙ sym (part_domain x.domains.now x.members.now x.are_members.rising c.args.p c.requires t)
