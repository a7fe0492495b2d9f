use Rattle.std.proofs.Common.{◌≡◌, ◌∙◌, ◌+◌, ◌*◌, ◌++◌, ◌&&◌, not, length, get_or, sym, ap, arith}
use Rattle.std.proofs.Math.Facts.{Fits-lt-pow}
use Rattle.graph_theory.specs.Neighbours.{count, members}
use Rattle.bit_rows.specs.BitRows.{has}
use Rattle.bit_rows.proofs.Rows.{has_at}
use Rattle.domain_bits.specs.Removals.{at_vertex}
use Rattle.domain_bits.proofs.Filtering.{filtering_begins, filtering_room, filtering_more}
use Rattle.domain_bits.proofs.row_filters.filter_row.Goals as goal

pub filter_word-requires-clause-room : goal.filter_word-requires-clause-room
filter_word-requires-clause-room g c =
    filtering_room c.args.domain.now c.args.domain.now (has c.args.keep.now) 0 c.args.p _ _ 0 (get_or c.args.keep.now 0 0) _
    (filtering_begins c.args.domain.now (has c.args.keep.now) c.args.p (g.T.Trail.removed c.args.trail.now)) (omega (arith, c.if-domain-eq1.true)) (Fits-lt-pow (c.type_inv.keep 0))
    (λ b l. sym (has_at c.args.keep.now 0 b l)) c.requires.room

pub returns-then-domain-eq1-clause-row : goal.returns-then-domain-eq1-clause-row
returns-then-domain-eq1-clause-row g c t l =
    let f =
    filtering_more c.args.domain.now c.args.domain.now c.filter_word.new.domain (has c.args.keep.now) 0 c.args.p _ _ _ 0 c.filter_word.result (get_or c.args.keep.now 0 0)
    (filtering_begins c.args.domain.now (has c.args.keep.now) c.args.p (g.T.Trail.removed c.args.trail.now)) (omega (arith, c.if-domain-eq1.true)) (Fits-lt-pow (c.type_inv.keep 0))
    (λ b l. sym (has_at c.args.keep.now 0 b l)) c.filter_word.ensures.word c.filter_word.ensures.trail c.filter_word.ensures.count in
    f.done t (omega (arith, l, c.if-domain-eq1.true))

pub returns-then-domain-eq1-clause-trail : goal.returns-then-domain-eq1-clause-trail
returns-then-domain-eq1-clause-trail g c =
    let f =
    filtering_more c.args.domain.now c.args.domain.now c.filter_word.new.domain (has c.args.keep.now) 0 c.args.p _ _ _ 0 c.filter_word.result (get_or c.args.keep.now 0 0)
    (filtering_begins c.args.domain.now (has c.args.keep.now) c.args.p (g.T.Trail.removed c.args.trail.now)) (omega (arith, c.if-domain-eq1.true)) (Fits-lt-pow (c.type_inv.keep 0))
    (λ b l. sym (has_at c.args.keep.now 0 b l)) c.filter_word.ensures.word c.filter_word.ensures.trail c.filter_word.ensures.count in
    let one : 64 * (0 + 1) ≡ 64 * length c.args.domain.now = omega (arith, c.if-domain-eq1.true) in
    f.listed ∙ ap (λ n. g.T.Trail.removed c.args.trail.now ++ at_vertex c.args.p (members (λ u. has c.args.domain.now u && not (has c.args.keep.now u)) n)) one

pub returns-then-domain-eq1-clause-count : goal.returns-then-domain-eq1-clause-count
returns-then-domain-eq1-clause-count g c =
    let f =
    filtering_more c.args.domain.now c.args.domain.now c.filter_word.new.domain (has c.args.keep.now) 0 c.args.p _ _ _ 0 c.filter_word.result (get_or c.args.keep.now 0 0)
    (filtering_begins c.args.domain.now (has c.args.keep.now) c.args.p (g.T.Trail.removed c.args.trail.now)) (omega (arith, c.if-domain-eq1.true)) (Fits-lt-pow (c.type_inv.keep 0))
    (λ b l. sym (has_at c.args.keep.now 0 b l)) c.filter_word.ensures.word c.filter_word.ensures.trail c.filter_word.ensures.count in
    let one : 64 * (0 + 1) ≡ 64 * length c.args.domain.now = omega (arith, c.if-domain-eq1.true) in
    omega (arith, f.counted ∙ ap (count (λ u. has c.args.domain.now u && not (has c.args.keep.now u))) one)
