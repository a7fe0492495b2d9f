use Rattle.std.proofs.Common.{◌≡◌, ◌∙◌, ℕ, List, true, subst, sym, ap, arith}
use Rattle.graph_theory.specs.Embedding.{Problem}
use Rattle.graph_theory.specs.Neighbours.{fails_at, IsKeptBy}
use Rattle.graph_theory.specs.Asked.{asked_sequence}
use Rattle.nds_filter.specs.Sequences.{sequence_at}
use Rattle.nds_filter.proofs.Keeping.{sequence_is, sequences_long}
use Rattle.domain_lines.proofs.Crowds.{set_seen, injective_of, asked_injective, asked_local, asked_any}
use Rattle.domain_lines.proofs.value_clauses.ValueClauses.compared.Goals as goal

pub keeps-requires-clause-p_in : goal.keeps-requires-clause-p_in
keeps-requires-clause-p_in c =
    let k = set_seen _ _ _ _ c.self.view_is c.self.invariant in
    let long = sequences_long c.args.self.now.pattern c.self.inside.pattern k.pattern_are in
    omega (arith, long, c.requires.p_in)

pub keeps-requires-clause-t_in : goal.keeps-requires-clause-t_in
keeps-requires-clause-t_in c =
    let k = set_seen _ _ _ _ c.self.view_is c.self.invariant in
    let long = sequences_long c.args.self.now.target c.self.inside.target k.target_are in
    omega (arith, long, c.requires.u_in)

pub returns-in-Injective-clause-kept : goal.returns-in-Injective-clause-kept
returns-in-Injective-clause-kept c = λ is.
    let k = set_seen _ _ _ _ c.self.view_is c.self.invariant in
    let apart = injective_of c.args.self.now.maps (c.in-Injective.ensures ∙ ap (λ (q : Problem). q.maps) c.self.view_is) in
    subst (λ (ys : List ℕ). IsKeptBy (asked_sequence c.args.self.now c.args.p) ys) (sequence_is c.args.self.now.target c.self.inside.target c.args.u k.target_are c.requires.u_in)
    (subst (λ (xs : List ℕ). IsKeptBy xs (sequence_at c.self.inside.target c.args.u))
    (sequence_is c.args.self.now.pattern c.self.inside.pattern c.args.p k.pattern_are c.requires.p_in ∙ sym (asked_injective c.args.self.now c.args.p apart)) (c.keeps.ensures.kept.0 is))

pub returns-in-Injective-clause-fails : goal.returns-in-Injective-clause-fails
returns-in-Injective-clause-fails c = λ i is.
    let k = set_seen _ _ _ _ c.self.view_is c.self.invariant in
    let apart = injective_of c.args.self.now.maps (c.in-Injective.ensures ∙ ap (λ (q : Problem). q.maps) c.self.view_is) in
    subst (λ (ys : List ℕ). fails_at (asked_sequence c.args.self.now c.args.p) ys i ≡ true) (sequence_is c.args.self.now.target c.self.inside.target c.args.u k.target_are c.requires.u_in)
    (subst (λ (xs : List ℕ). fails_at xs (sequence_at c.self.inside.target c.args.u) i ≡ true)
    (sequence_is c.args.self.now.pattern c.self.inside.pattern c.args.p k.pattern_are c.requires.p_in ∙ sym (asked_injective c.args.self.now c.args.p apart)) ((c.keeps.ensures.fails i).0 is).here)

pub returns-in-Local-clause-kept : goal.returns-in-Local-clause-kept
returns-in-Local-clause-kept c = λ is. asked_local c.args.self.now c.args.p c.args.u (c.in-Local.ensures ∙ ap (λ (q : Problem). q.maps) c.self.view_is)

pub returns-in-Local-clause-fails : goal.returns-in-Local-clause-fails
returns-in-Local-clause-fails c = λ i is. absurd cc

pub returns-in-Any-clause-kept : goal.returns-in-Any-clause-kept
returns-in-Any-clause-kept c = λ is. asked_any c.args.self.now c.args.p c.args.u (c.in-Any.ensures ∙ ap (λ (q : Problem). q.maps) c.self.view_is)

pub returns-in-Any-clause-fails : goal.returns-in-Any-clause-fails
returns-in-Any-clause-fails c = λ i is. absurd cc
