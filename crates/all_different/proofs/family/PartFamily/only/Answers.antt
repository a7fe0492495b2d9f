use Rattle.std.proofs.Common.{◌≡◌, ℕ, Option, Some, None, IfNone, get_or, sym, ap, ◌∙◌, subst}
use Rattle.std.proofs.lemmas.Option.{IfSome_then}
use Rattle.domain_bits.specs.Changes.{Single}
use Rattle.domain_bits.specs.Removals.{size_of}
use Rattle.all_different.specs.Members.{part}
use Rattle.all_different.proofs.Parts.{part_size, part_single, single_part}
use Rattle.all_different.proofs.family.PartFamily.only.Goals as goal

none_then : (o : Option ℕ) (P Q : Type 0) → IfNone o P → (P → Q) → IfNone o Q
none_then None P Q h follows = follows h
none_then (Some t) P Q h follows = h

pub returns-clause-one : goal.returns-clause-one
returns-clause-one g c =
    let d = c.args.self.now.domains.now in
    let ms = c.args.self.now.members.now in
    let same : size_of (part d ms) c.args.p ≡ size_of d (get_or ms c.from.result 0) =
    part_size d ms c.args.self.now.are_members.rising c.args.p c.requires ∙ ap (λ (i : ℕ). size_of d (get_or ms i 0)) (sym c.from.ensures) in
    (λ s. same ∙ c.only.ensures.one.0 s, λ e. c.only.ensures.one.1 (sym same ∙ e))

pub returns-clause-some : goal.returns-clause-some
returns-clause-some g c =
    let d = c.args.self.now.domains.now in
    let ms = c.args.self.now.members.now in
    IfSome_then c.only.result c.only.ensures.some
    (λ t s. part_single d ms c.args.self.now.are_members.rising c.args.p c.requires t (subst (λ (i : ℕ). Single d (get_or ms i 0) t) c.from.ensures s))

pub returns-clause-none : goal.returns-clause-none
returns-clause-none g c =
    let d = c.args.self.now.domains.now in
    let ms = c.args.self.now.members.now in
    none_then c.only.result _ _ c.only.ensures.none
    (λ none t s. none t (subst (λ (i : ℕ). Single d (get_or ms i 0) t) (sym c.from.ensures) (single_part d ms c.args.self.now.are_members.rising c.args.p c.requires t s)))
