use Rattle.std.proofs.Common.{◌∙◌, ◌*◌, get_or, refl, sym, subst, arith}
use Rattle.std.proofs.Math.Facts.{Fits-lt-pow}
use Rattle.bit_rows.specs.BitRows.{has}
use Rattle.bit_rows.proofs.Rows.{has_at}
use Rattle.domain_bits.proofs.Filtering.{Filtering, filtering_room, filtering_more, filtering_past, filtering_count, few_gone}
use Rattle.domain_bits.proofs.row_filters.filter_words.Goals as goal

pub loop-block-preserved-then-are_within : goal.loop-block-preserved-then-are_within
loop-block-preserved-then-are_within g c = record {
  filtering = subst (λ n. Filtering c.args.domain.now c.loop-block.domain (has c.args.keep.now) n c.args.p (g.T.Trail.removed c.args.trail.now) (g.T.Trail.removed c.loop-block.trail) c.loop-block.gone) (omega arith)
      (filtering_past c.args.domain.now c.loop-block.domain c.args.keep.now (4 * c.loop-block.block) 4 c.args.p _ _ c.loop-block.gone c.loop-block.invariant.filtering
      (λ k. Fits-lt-pow (c.type_inv.keep k)) (λ k low high. c.if-are_within.ensures refl k low high));
  room = c.loop-block.invariant.room;
}

pub filter_word-gone-requires-clause-room : goal.filter_word-gone-requires-clause-room
filter_word-gone-requires-clause-room g c =
    filtering_room c.args.domain.now c.loop-k.domain (has c.args.keep.now) c.loop-k.k c.args.p _ _ c.loop-k.gone (get_or c.args.keep.now c.loop-k.k 0) _
    c.loop-k.invariant.filtering (omega arith) (Fits-lt-pow (c.type_inv.keep c.loop-k.k)) (λ b l. sym (has_at c.args.keep.now c.loop-k.k b l)) (rw c.loop-k.invariant.room c.requires.room)

pub overflow_add-gone : goal.overflow_add-gone
overflow_add-gone g c =
    omega (
      arith,
      filtering_count c.args.domain.now c.loop-k.domain (has c.args.keep.now) c.loop-k.k c.args.p _ _ c.loop-k.gone c.loop-k.invariant.filtering,
      few_gone (get_or c.loop-k.domain c.loop-k.k 0) (get_or c.args.keep.now c.loop-k.k 0),
      c.filter_word-gone.ensures.count,
      c.requires.short,
    )

pub loop-k-preserved : goal.loop-k-preserved
loop-k-preserved g c = record {
  filtering = filtering_more c.args.domain.now c.loop-k.domain c.filter_word-gone.new.domain (has c.args.keep.now) c.loop-k.k c.args.p _ _ _ c.loop-k.gone c.filter_word-gone.result (get_or c.args.keep.now c.loop-k.k 0)
      c.loop-k.invariant.filtering (omega arith) (Fits-lt-pow (c.type_inv.keep c.loop-k.k)) (λ b l. sym (has_at c.args.keep.now c.loop-k.k b l)) c.filter_word-gone.ensures.word c.filter_word-gone.ensures.trail c.filter_word-gone.ensures.count;
  room = c.filter_word-gone.ensures.room ∙ c.loop-k.invariant.room;
}

pub filter_word-gone-requires-in-loop-place-clause-room : goal.filter_word-gone-requires-in-loop-place-clause-room
filter_word-gone-requires-in-loop-place-clause-room g c =
    filtering_room c.args.domain.now c.loop-place.domain (has c.args.keep.now) c.loop-place.place c.args.p _ _ c.loop-place.gone (get_or c.args.keep.now c.loop-place.place 0) _
    c.loop-place.invariant.filtering (omega arith) (Fits-lt-pow (c.type_inv.keep c.loop-place.place)) (λ b l. sym (has_at c.args.keep.now c.loop-place.place b l)) (rw c.loop-place.invariant.room c.requires.room)

pub overflow_add-gone-in-loop-place : goal.overflow_add-gone-in-loop-place
overflow_add-gone-in-loop-place g c =
    omega (
      arith,
      filtering_count c.args.domain.now c.loop-place.domain (has c.args.keep.now) c.loop-place.place c.args.p _ _ c.loop-place.gone c.loop-place.invariant.filtering,
      few_gone (get_or c.loop-place.domain c.loop-place.place 0) (get_or c.args.keep.now c.loop-place.place 0),
      c.filter_word-gone-in-loop-place.ensures.count,
      c.requires.short,
    )

pub loop-place-preserved : goal.loop-place-preserved
loop-place-preserved g c = record {
  filtering = filtering_more c.args.domain.now c.loop-place.domain c.filter_word-gone-in-loop-place.new.domain (has c.args.keep.now) c.loop-place.place c.args.p _ _ _ c.loop-place.gone c.filter_word-gone-in-loop-place.result (get_or c.args.keep.now c.loop-place.place 0)
      c.loop-place.invariant.filtering (omega arith) (Fits-lt-pow (c.type_inv.keep c.loop-place.place)) (λ b l. sym (has_at c.args.keep.now c.loop-place.place b l)) c.filter_word-gone-in-loop-place.ensures.word c.filter_word-gone-in-loop-place.ensures.trail c.filter_word-gone-in-loop-place.ensures.count;
  room = c.filter_word-gone-in-loop-place.ensures.room ∙ c.loop-place.invariant.room;
}
