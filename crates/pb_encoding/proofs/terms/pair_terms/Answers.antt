use Rattle.std.proofs.Common.{◌≡◌, ℕ, ℤ, not, nat_lt, pos, negsuc, List, [], ◌∷◌, ◌++◌, ap, ◌∙◌, arith}
use Rattle.graph_theory.specs.Graph.{size}
use Rattle.proof_theory.specs.Forms.{form_of}
use Rattle.encoding_theory.specs.Variables.{variable, when}
use Rattle.encoding_theory.specs.Pairs.{is_compatible}
use Rattle.encoding_theory.specs.Encoding.{terms_where}
use Rattle.pb_encoding.proofs.TermLists.{placed, few-placed, form-placed}
use Rattle.pb_encoding.proofs.terms.pair_terms.Goals as goal

pub returns-clause-few : goal.returns-clause-few
returns-clause-few c =
    let own : ℕ × ℤ = (c.variable.result, negsuc 0) in
    let others : List (ℕ × ℤ) = terms_where (pos 1) (is_compatible c.args.q.now c.args.p c.args.t c.args.r) (variable c.args.q.now c.args.r) (size c.args.q.now.target) in
    let e : c.push_where-2.new.out.items ≡ placed (nat_lt c.args.p c.args.r) own others =
    c.in_ok-push_where-2.ensures
    ∙ ap (λ (xs : List (ℕ × ℤ)). xs ++ when (not (nat_lt c.args.p c.args.r)) (own ∷ []))
    (c.in_ok-push_compatible.ensures
    ∙ ap (λ (xs : List (ℕ × ℤ)). xs ++ others)
    (c.in_ok-push_where.ensures ∙ ap (λ (xs : List (ℕ × ℤ)). xs ++ when (nat_lt c.args.p c.args.r) (own ∷ [])) c.in_ok-begin_terms.ensures)) in
    few-placed (nat_lt c.args.p c.args.r) own (is_compatible c.args.q.now c.args.p c.args.t c.args.r) (variable c.args.q.now c.args.r) (size c.args.q.now.target)
    c.push_where-2.new.out.items e (omega arith) c.requires.targets

pub returns-clause-form : goal.returns-clause-form
returns-clause-form c =
    let own : ℕ × ℤ = (c.variable.result, negsuc 0) in
    let others : List (ℕ × ℤ) = terms_where (pos 1) (is_compatible c.args.q.now c.args.p c.args.t c.args.r) (variable c.args.q.now c.args.r) (size c.args.q.now.target) in
    let e : c.push_where-2.new.out.items ≡ placed (nat_lt c.args.p c.args.r) own others =
    c.in_ok-push_where-2.ensures
    ∙ ap (λ (xs : List (ℕ × ℤ)). xs ++ when (not (nat_lt c.args.p c.args.r)) (own ∷ []))
    (c.in_ok-push_compatible.ensures
    ∙ ap (λ (xs : List (ℕ × ℤ)). xs ++ others)
    (c.in_ok-push_where.ensures ∙ ap (λ (xs : List (ℕ × ℤ)). xs ++ when (nat_lt c.args.p c.args.r) (own ∷ [])) c.in_ok-begin_terms.ensures)) in
    rw e (form-placed (nat_lt c.args.p c.args.r) own others (pos 0)
    ∙ ap (λ (v : ℕ). form_of ((v, negsuc 0) ∷ others) (pos 0)) c.variable.ensures.variable)
