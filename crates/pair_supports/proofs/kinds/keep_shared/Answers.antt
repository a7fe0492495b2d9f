use Rattle.std.proofs.Common.{ℕ, ◌<◌, sym, subst, arith}
use Rattle.pair_supports.proofs.ByWords.{row_fits_counts, shared_right, shared_mutual, shared_kept, shared_complete, still_within}
use Rattle.pair_supports.proofs.kinds.keep_shared.Goals as goal

pub keep_counted-requires-clause-within : goal.keep_counted-requires-clause-within
keep_counted-requires-clause-within c = λ v h. subst (λ (n : ℕ). v < n) (sym c.requires.counted.long) (c.requires.within v h)

pub keep_counted-requires-clause-long : goal.keep_counted-requires-clause-long
keep_counted-requires-clause-long c = row_fits_counts _ _ _ c.requires.long c.requires.counted.long

pub keep_counted-requires-then-not-counts-clause-within : goal.keep_counted-requires-then-not-counts-clause-within
keep_counted-requires-then-not-counts-clause-within c = λ v h.
    subst (λ (n : ℕ). v < n) (sym c.requires.counted.back_long) (still_within _ _ _ _ c.requires.within c.keep_counted.ensures v h)

pub returns-then-not-counts-clause-right : goal.returns-then-not-counts-clause-right
returns-then-not-counts-clause-right c =
    shared_right c.args.q.now c.args.kind.now c.args.t c.args.row.now c.keep_counted.new.row c.keep_counted-then-not-counts.new.row c.args.counts.now.out.now c.args.counts.now.back.now c.args.counts.now.both_ways
    c.requires.counted c.requires.within c.keep_counted.ensures c.keep_counted-then-not-counts.ensures

pub returns-then-not-counts-clause-complete : goal.returns-then-not-counts-clause-complete
returns-then-not-counts-clause-complete c =
    shared_complete c.args.q.now c.args.kind.now c.args.t c.args.row.now c.keep_counted.new.row c.keep_counted-then-not-counts.new.row c.args.counts.now.out.now c.args.counts.now.back.now c.args.counts.now.both_ways
    c.requires.counted c.requires.within c.keep_counted.ensures c.keep_counted-then-not-counts.ensures

pub returns-else-kind-clause-right : goal.returns-else-kind-clause-right
returns-else-kind-clause-right c =
    shared_mutual c.args.q.now c.args.kind.now c.args.t c.args.row.now c.keep_counted.new.row c.args.counts.now.out.now c.args.counts.now.back.now c.args.counts.now.both_ways
    c.requires.counted (let off = c.if-not-counts.false in cc) c.reversed_laws.ensures.shared c.requires.t_in (omega (arith, c.if-kind.false)) c.requires.within c.keep_counted.ensures

pub returns-else-kind-clause-complete : goal.returns-else-kind-clause-complete
returns-else-kind-clause-complete c =
    shared_kept c.args.q.now c.args.kind.now c.args.t c.args.row.now c.keep_counted.new.row c.args.counts.now.out.now c.args.counts.now.back.now c.args.counts.now.both_ways
    c.requires.counted c.requires.within c.keep_counted.ensures
