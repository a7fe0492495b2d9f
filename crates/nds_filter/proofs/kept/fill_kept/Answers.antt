use Rattle.std.proofs.Common.{◌<◌, nat_lt, arith, ap, sym, ◌∙◌}
use Rattle.std.proofs.lemmas.Bool.{ltb-true}
use Rattle.nds_filter.proofs.Keeping.{sequences_long, kept_made}
use Rattle.nds_filter.proofs.kept.fill_kept.Goals as goal

pub of-requires : goal.of-requires
of-requires c = omega (arith, sequences_long c.args.q.now.pattern c.args.ps.now c.requires.pattern, c.requires.p_in)

pub keep_sequences-requires-clause-within : goal.keep_sequences-requires-clause-within
keep_sequences-requires-clause-within c = λ t h.
    let below : t < c.from.result = ltb-true t c.from.result (sym (c.fill_below.ensures t) ∙ (c.keep_large.ensures.right t h).0) in
    omega (
      arith,
      below,
      c.from.ensures,
      c.target_size.ensures.size,
      sequences_long c.args.q.now.target c.args.ts.now c.requires.target,
    )

pub returns : goal.returns
returns c =
    kept_made c.args.q.now c.args.p c.args.ps.now c.args.ts.now c.of.result.now c.fill_below.new.row c.keep_large.new.row c.keep_sequences.new.row
    c.requires.pattern c.requires.target c.requires.p_in c.of.ensures.list (omega (arith, c.requires.long))
    (λ t. c.fill_below.ensures t ∙ ap (nat_lt t) (c.from.ensures ∙ c.target_size.ensures.size))
    c.keep_large.ensures.right c.keep_large.ensures.complete c.keep_sequences.ensures.right c.keep_sequences.ensures.complete
