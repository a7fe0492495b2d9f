use Rattle.std.proofs.Common.{◌∙◌, get_or, arith}
use Rattle.std.specs.Prelude.{◌==◌}
use Rattle.domain_bits.proofs.Filtering.{filtering_room, filtering_more, filtering_count, few_gone}
use Rattle.domain_bits.proofs.row_filters.filter_value.Goals as goal

pub filter_word-gone-requires-clause-room : goal.filter_word-gone-requires-clause-room
filter_word-gone-requires-clause-room g c =
    filtering_room c.args.domain.now c.loop-place.domain (λ u. u == c.args.t) c.loop-place.place c.args.p _ _ c.loop-place.gone (c.word_of.result) _
    c.loop-place.invariant.filtering c.loop-place-test.true c.word_of.type_inv c.word_of.ensures (rw c.loop-place.invariant.room c.requires.room)

pub overflow_add-gone : goal.overflow_add-gone
overflow_add-gone g c =
    omega (
      arith,
      filtering_count c.args.domain.now c.loop-place.domain (λ u. u == c.args.t) c.loop-place.place c.args.p _ _ c.loop-place.gone c.loop-place.invariant.filtering,
      few_gone (get_or c.loop-place.domain c.loop-place.place 0) (c.word_of.result),
      c.filter_word-gone.ensures.count,
      c.requires.short,
    )

pub loop-place-preserved : goal.loop-place-preserved
loop-place-preserved g c = record {
  filtering = filtering_more c.args.domain.now c.loop-place.domain c.filter_word-gone.new.domain (λ u. u == c.args.t) c.loop-place.place c.args.p _ _ _ c.loop-place.gone c.filter_word-gone.result (c.word_of.result)
      c.loop-place.invariant.filtering c.loop-place-test.true c.word_of.type_inv c.word_of.ensures c.filter_word-gone.ensures.word c.filter_word-gone.ensures.trail c.filter_word-gone.ensures.count;
  room = c.filter_word-gone.ensures.room ∙ c.loop-place.invariant.room;
}
