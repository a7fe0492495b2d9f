use Rattle.std.proofs.Common.{◌≡◌, ◌+◌, ◌*◌, ◌∙◌, false, ap, refl, None}
use Rattle.graph_theory.specs.Graph.{size}
use Rattle.graph_theory.specs.Reversed.{reversed}
use Rattle.graph_theory.specs.Asked.{asked_shared_in}
use Rattle.graph_theory.specs.declared.embedding.Maps.{Maps}
use Rattle.graph_theory.proofs.NeighbourCounts.{shared_is_symmetric}
use Rattle.pair_supports.specs.declared.kinds.PairKind.{PairKind}
use Rattle.pair_supports.proofs.Classes.{turned_before}
use Rattle.pair_supports.proofs.kinds.shared_by.Goals as goal

pub returns-then-r-p-clause-out : goal.returns-then-r-p-clause-out
returns-then-r-p-clause-out c =
    let n_is : c.from-then-r-p.result ≡ size c.args.q.now.pattern = c.from-then-r-p.ensures ∙ c.size.ensures.size ∙ ap size c.pattern.ensures.pattern in
    let number : c.from.result * c.from-then-r-p.result + c.from-then-r-p-2.result ≡ c.args.r * size c.args.q.now.pattern + c.args.p = rw (c.from.ensures, n_is, c.from-then-r-p-2.ensures) refl in
    ap (λ (k : PairKind). k.shared)
    (turned_before c.args.q.now c.args.kinds.now c.args.places.now c.args.p c.args.r (c.from.result * c.from-then-r-p.result + c.from-then-r-p-2.result)
    (record { apart = false; out = None; back = None; shared = 0; in_shared = 0 }) c.requires.before c.if-r-p.true c.requires.p_in number)
    ∙ ap (λ (k : Maps). asked_shared_in k c.args.q.now.pattern c.args.r c.args.p) c.requires.injective ∙ shared_is_symmetric c.args.q.now.pattern c.args.r c.args.p

pub returns-then-r-p-clause-back : goal.returns-then-r-p-clause-back
returns-then-r-p-clause-back c =
    let n_is : c.from-then-r-p.result ≡ size c.args.q.now.pattern = c.from-then-r-p.ensures ∙ c.size.ensures.size ∙ ap size c.pattern.ensures.pattern in
    let number : c.from.result * c.from-then-r-p.result + c.from-then-r-p-2.result ≡ c.args.r * size c.args.q.now.pattern + c.args.p = rw (c.from.ensures, n_is, c.from-then-r-p-2.ensures) refl in
    ap (λ (k : PairKind). k.in_shared)
    (turned_before c.args.q.now c.args.kinds.now c.args.places.now c.args.p c.args.r (c.from.result * c.from-then-r-p.result + c.from-then-r-p-2.result)
    (record { apart = false; out = None; back = None; shared = 0; in_shared = 0 }) c.requires.before c.if-r-p.true c.requires.p_in number)
    ∙ ap (λ (k : Maps). asked_shared_in k (reversed c.args.q.now.pattern) c.args.r c.args.p) c.requires.injective ∙ shared_is_symmetric (reversed c.args.q.now.pattern) c.args.r c.args.p
