use Rattle.std.proofs.Common.{◌≡◌, ◌∙◌, ℕ, List, length, slice_index, slice_index_or, ap, sym, arith}
use Rattle.graph_theory.specs.Asked.{asked_sequence}
use Rattle.nds_filter.proofs.Keeping.{sequence_is, sequences_long}
use Rattle.domain_lines.proofs.Crowds.{set_seen, fails_in, fails_injective, asked_injective}
use Rattle.graph_theory.specs.Neighbours.{sequence}
use Rattle.domain_lines.proofs.value_clauses.ValueClauses.degree_at.Goals as goal

pub of-requires : goal.of-requires
of-requires c =
    let k = set_seen _ _ _ _ c.self.view_is c.self.invariant in
    let long = sequences_long c.args.self.now.pattern c.self.inside.pattern k.pattern_are in
    omega (arith, long, c.requires.p_in)

pub bounds-of-from : goal.bounds-of-from
bounds-of-from c =
    let k = set_seen _ _ _ _ c.self.view_is c.self.invariant in
    let apart = fails_injective c.args.self.now c.args.p c.args.u c.args.place c.requires.fails in
    let e : c.of.result.now ≡ asked_sequence c.args.self.now c.args.p =
    c.of.ensures.list ∙ sequence_is c.args.self.now.pattern c.self.inside.pattern c.args.p k.pattern_are c.requires.p_in ∙ sym (asked_injective c.args.self.now c.args.p apart) in
    let long : length c.of.result.now ≡ length (asked_sequence c.args.self.now c.args.p) = ap length e in
    let inside = fails_in (asked_sequence c.args.self.now c.args.p) (sequence c.args.self.now.target c.args.u) c.args.place c.requires.fails in
    omega (arith, long, inside, c.from.ensures)

pub returns : goal.returns
returns c =
    let k = set_seen _ _ _ _ c.self.view_is c.self.invariant in
    let apart = fails_injective c.args.self.now c.args.p c.args.u c.args.place c.requires.fails in
    let e : c.of.result.now ≡ asked_sequence c.args.self.now c.args.p =
    c.of.ensures.list ∙ sequence_is c.args.self.now.pattern c.self.inside.pattern c.args.p k.pattern_are c.requires.p_in ∙ sym (asked_injective c.args.self.now c.args.p apart) in
    ap (λ (n : ℕ). slice_index_or c.of.result.now n 0) c.from.ensures ∙ ap (λ (xs : List ℕ). slice_index xs c.args.place) e
