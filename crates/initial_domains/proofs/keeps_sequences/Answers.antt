use Rattle.std.proofs.Common.{arith, ◌≡◌, true, false, sym, ◌∙◌}
use Rattle.std.proofs.lemmas.Bool.{false≢true}
use Rattle.graph_theory.specs.Reversed.{reversed}
use Rattle.nds_filter.proofs.Keeping.{sequences_long}
use Rattle.initial_domains.proofs.Degrees.{kept_in}
use Rattle.initial_domains.proofs.keeps_sequences.Goals as goal

pub keeps_sequence-requires-clause-p_in : goal.keeps_sequence-requires-clause-p_in
keeps_sequence-requires-clause-p_in c = omega (arith, sequences_long c.args.q.now.pattern c.args.ps.now c.requires.pattern, c.requires.p_in)

pub keeps_sequence-requires-clause-t_in : goal.keeps_sequence-requires-clause-t_in
keeps_sequence-requires-clause-t_in c = omega (arith, sequences_long c.args.q.now.target c.args.ts.now c.requires.target, c.requires.t_in)

pub keeps_sequence-requires-then-keeps_sequence-clause-p_in : goal.keeps_sequence-requires-then-keeps_sequence-clause-p_in
keeps_sequence-requires-then-keeps_sequence-clause-p_in c =
    omega (arith, sequences_long (reversed c.args.q.now.pattern) c.args.in_ps.now c.requires.in_pattern, c.requires.p_in)

pub keeps_sequence-requires-then-keeps_sequence-clause-t_in : goal.keeps_sequence-requires-then-keeps_sequence-clause-t_in
keeps_sequence-requires-then-keeps_sequence-clause-t_in c =
    omega (arith, sequences_long (reversed c.args.q.now.target) c.args.in_ts.now c.requires.in_target, c.requires.t_in)

pub returns-then-keeps_sequence : goal.returns-then-keeps_sequence
returns-then-keeps_sequence c =
    let q = c.args.q.now in
    let along = kept_in q.pattern q.target c.args.ps.now c.args.ts.now c.args.p c.args.t c.keeps_sequence.result c.requires.pattern c.requires.target c.requires.p_in c.requires.t_in
    c.keeps_sequence.ensures in
    let against = kept_in (reversed q.pattern) (reversed q.target) c.args.in_ps.now c.args.in_ts.now c.args.p c.args.t c.keeps_sequence-then-keeps_sequence.result
    c.requires.in_pattern c.requires.in_target c.requires.p_in c.requires.t_in c.keeps_sequence-then-keeps_sequence.ensures in (
      λ told. record { in_sequence = against.0 told; sequence = along.0 c.if-keeps_sequence.true },
      λ kept. against.1 kept.in_sequence,
    )

pub returns-else-keeps_sequence : goal.returns-else-keeps_sequence
returns-else-keeps_sequence c =
    let q = c.args.q.now in
    let along = kept_in q.pattern q.target c.args.ps.now c.args.ts.now c.args.p c.args.t c.keeps_sequence.result c.requires.pattern c.requires.target c.requires.p_in c.requires.t_in
    c.keeps_sequence.ensures in (
      λ told. absurd (false≢true (sym c.if-keeps_sequence.false ∙ told)),
      λ kept. along.1 kept.sequence,
    )
