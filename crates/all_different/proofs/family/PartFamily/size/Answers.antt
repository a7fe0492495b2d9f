use Rattle.std.proofs.Common.{ℕ, get_or, sym, ap, ◌∙◌}
use Rattle.domain_bits.specs.Removals.{size_of}
use Rattle.all_different.proofs.Parts.{part_size}
use Rattle.all_different.proofs.family.PartFamily.size.Goals as goal

pub returns : goal.returns
returns g c =
    let x = c.args.self.now in
    c.size.ensures.size ∙ ap (λ (i : ℕ). size_of x.domains.now (get_or x.members.now i 0)) c.from.ensures ∙ sym (part_size x.domains.now x.members.now x.are_members.rising c.args.p c.requires)
