use Rattle.std.proofs.Common.{◌≡◌, ◌==◌, ◌&&◌, not, nat_lt, ℕ, ◌∙◌, ap}
use Rattle.graph_theory.specs.Graph.{size}
use Rattle.bit_rows.specs.BitRows.{has}
use Rattle.pair_supports.proofs.ByWords.{whole_by_words, whole_meeting}
use Rattle.pair_supports.proofs.kinds.fill_by_words.Goals as goal

pub returns-then-not-kind : goal.returns-then-not-kind
returns-then-not-kind c =
    let n_is : c.from.result ≡ size c.args.q.now.target = c.from.ensures ∙ c.size.ensures.size ∙ ap size c.target.ensures.target in
    whole_meeting c.args.q.now c.args.kind.now c.fill_below.new.row c.keep_matching.new.row c.args.t (let off = c.if-not-kind.true in cc) (λ u. c.fill_below.ensures u ∙ ap (nat_lt u) n_is)
    c.keep_matching.ensures.right c.keep_matching.ensures.complete

pub returns : goal.returns
returns c =
    let n_is : c.from.result ≡ size c.args.q.now.target = c.from.ensures ∙ c.size.ensures.size ∙ ap size c.target.ensures.target in
    whole_by_words c.args.q.now c.args.kind.now c.fill_below.new.row c.keep_matching.new.row c.keep_shared.new.row c.unset_bit.new.row c.args.t (let on = c.if-not-kind.false in cc)
    (λ u. c.fill_below.ensures u ∙ ap (nat_lt u) n_is) c.keep_matching.ensures.right c.keep_matching.ensures.complete c.keep_shared.ensures.right c.keep_shared.ensures.complete
    (λ u. c.unset_bit.ensures u ∙ ap (λ (v : ℕ). has c.keep_shared.new.row u && not (v == u)) c.from-2.ensures)
