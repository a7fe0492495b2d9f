use Rattle.std.proofs.Common.{◌≡◌, ◌<◌, true, sym, ◌∙◌, arith}
use Rattle.std.proofs.lemmas.List.{get_or_read}
use Rattle.domain_bits.specs.Removals.{in_domain}
use Rattle.domain_bits.proofs.Sizes.{size_single, not_single}
use Rattle.domain_bits.proofs.domains.Domains.only.Goals as goal

pub returns-then-size-ne1-clause-none : goal.returns-then-size-ne1-clause-none
returns-then-size-ne1-clause-none g c = not_single c.args.self.now c.args.p (λ e. c.if-size-ne1.true (c.size.ensures.size ∙ e))

pub returns-clause-some : goal.returns-clause-some
returns-clause-some g c =
    let f = c.self.inside in
    let in-range : c.args.p < f.vertices = rw (← c.self.view_is) at c.requires in
    let one = sym c.size.ensures.size ∙ c.if-size-ne1.false in
    let read = get_or_read f.singles.items c.from.result c.index.result.now (omega (arith, c.from.ensures, in-range, c.self.invariant.noted.long)) c.index.ensures 0 in
    let here : in_domain c.args.self.now c.args.p c.index.result.now ≡ true =
    rw (← c.self.view_is, read, c.from.ensures) (c.self.invariant.noted.single c.args.p in-range (rw (← c.self.view_is) at one)) in
    size_single c.args.self.now c.args.p c.index.result.now one here
