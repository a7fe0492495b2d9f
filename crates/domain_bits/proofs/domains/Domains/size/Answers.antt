use Rattle.std.proofs.Common.{◌≡◌, ◌<◌, sym, ◌∙◌, arith}
use Rattle.std.proofs.lemmas.List.{get_or_read}
use Rattle.domain_bits.specs.Removals.{size_of}
use Rattle.domain_bits.proofs.Sizes.{size_none, none_size}
use Rattle.domain_bits.proofs.domains.Domains.size.Goals as goal

is-size : (g : _) (c : goal.After-row_known-1 g) → c.index.result.now ≡ size_of c.args.self.now c.args.p
is-size g c =
    let f = c.self.inside in
    let in-range : c.args.p < f.vertices = rw (← c.self.view_is) at c.requires in
    let read = get_or_read f.sizes.items c.from.result c.index.result.now (omega (arith, c.from.ensures, in-range, c.self.invariant.kept.sized)) c.index.ensures 0 in
    rw (← c.self.view_is) (read ∙ rw c.from.ensures (c.self.invariant.kept.counts c.args.p in-range))

pub returns-clause-empty : goal.returns-clause-empty
returns-clause-empty g c =
    (λ none. size_none c.args.self.now c.args.p (sym (is-size g c) ∙ none), λ none. is-size g c ∙ none_size c.args.self.now c.args.p none)
