use Rattle.std.proofs.Common.{◌≡◌, ℕ, Result, Ok, arith, ap, sym, ◌∙◌}
use Rattle.std.specs.Result.{result_unwrap_or}
use Rattle.log_theory.specs.declared.step.Cause.{Cause}
use Rattle.log_theory.specs.Tables.{find}
use Rattle.proof_theory.specs.Slack.{setting, negations}
use Rattle.pb_propagation.specs.Reach.{forms_of}
use Rattle.pb_propagation.proofs.Propagation.{literals_wider, forms_wider, named_found, same_refutes, derived, not_derived}
use Rattle.pb_propagation.proofs.propagate.derive.Goals as goal

pub negate_all-requires-clause-within : goal.negate_all-requires-clause-within
negate_all-requires-clause-within c =
    let h = c.in_ok-clear.ensures.1 in
    let m = c.max.ensures in
    literals_wider c.above.result _ c.args.literals.now (omega arith) c.above.ensures.reach

-- The number that an answer has, or none.
told : (r : Result ℕ Cause) (n m : ℕ) → r ≡ Ok n → m ≡ result_unwrap_or r 0 → m ≡ n
told r n m e f = f ∙ ap (λ (x : Result ℕ Cause). result_unwrap_or x 0) e

pub refute-requires : goal.refute-requires
refute-requires c =
    let h = c.in_ok-clear.ensures.1 in
    let m = c.max.ensures in
    let l = c.negate_all.ensures.long in
    let u : c.unwrap_or.result ≡ c.in_ok-named.field-0 = told c.reach_of-named.result _ _ c.in_ok-named.was c.unwrap_or.ensures in
    forms_wider c.in_ok-named.field-0 _ _ (omega arith) (named_found _ _ c.args.refs.now c.in_ok-named.ensures.ok.0).1

pub returns-then-not-refute : goal.returns-then-not-refute
returns-then-not-refute c name =
    let look = find c.args.model.now c.args.table.now in
    let fs = forms_of look c.args.refs.now in
    not_derived look name c.args.literals.now c.args.refs.now fs (sym c.if-not-negate_all.ensures.distinct) (named_found look _ c.args.refs.now c.in_ok-named.ensures.ok.0).0
    (sym (same_refutes (setting c.negate_all.new.set) (negations c.args.literals.now) fs c.if-not-negate_all.ensures.set) ∙ sym c.if-not-refute.ensures)

pub returns : goal.returns
returns c name =
    let look = find c.args.model.now c.args.table.now in
    let fs = forms_of look c.args.refs.now in
    derived look name c.args.literals.now c.args.refs.now fs (sym c.if-not-negate_all.ensures.distinct) (named_found look _ c.args.refs.now c.in_ok-named.ensures.ok.0).0
    (sym (same_refutes (setting c.negate_all.new.set) (negations c.args.literals.now) fs c.if-not-negate_all.ensures.set) ∙ sym c.if-not-refute.ensures)
    ∙ ap Ok (sym c.in_ok-clause.ensures)
