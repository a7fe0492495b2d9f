use Rattle.std.proofs.Common.{◌≡◌, ℕ, Bool, List, Ok, arith, ap, sym, ◌∙◌}
use Rattle.proof_theory.specs.Forms.{Form}
use Rattle.proof_theory.specs.Slack.{Setting, setting, negations}
use Rattle.proof_theory.specs.Propagation.{IsAmong, closes}
use Rattle.proof_theory.proofs.Propagation.{closes_same}
use Rattle.log_theory.specs.Tables.{all_forms}
use Rattle.pb_propagation.proofs.Propagation.{literals_wider, forms_wider}
use Rattle.proof_checker.proofs.Passing.{closed_makes, closed_fails}
use Rattle.proof_checker.proofs.closing.derive_by_passes.Goals as goal

pub negate_all-requires-clause-within : goal.negate_all-requires-clause-within
negate_all-requires-clause-within c =
    let h = c.in_ok-clear.ensures.1 in
    let m = c.max.ensures in
    literals_wider c.above.result _ c.args.literals.now (omega arith) c.above.ensures.reach

pub close-requires : goal.close-requires
close-requires c =
    let h = c.in_ok-clear.ensures.1 in
    let m = c.max.ensures in
    let l = c.negate_all.ensures.long in
    forms_wider c.reach_table.result _ _ (omega arith) c.reach_table.ensures.reach

-- What propagation says from one setting, it says from the same.
told : (answer : Bool) (s t : Setting) (fs : List Form) → ((v : ℕ) → s v ≡ t v) → answer ≡ closes s fs → closes t fs ≡ answer
told answer s t fs e a = sym (closes_same s t fs fs e (λ f i. i) (λ f i. i)) ∙ sym a

pub returns-then-not-close : goal.returns-then-not-close
returns-then-not-close c =
    closed_fails (all_forms c.args.model.now c.args.table.now) c.args.literals.now (sym c.if-not-negate_all.ensures.distinct)
    (told _ (setting c.negate_all.new.set) (negations c.args.literals.now) (all_forms c.args.model.now c.args.table.now) c.if-not-negate_all.ensures.set c.if-not-close.ensures)

pub returns : goal.returns
returns c =
    closed_makes (all_forms c.args.model.now c.args.table.now) c.args.literals.now (sym c.if-not-negate_all.ensures.distinct)
    (told _ (setting c.negate_all.new.set) (negations c.args.literals.now) (all_forms c.args.model.now c.args.table.now) c.if-not-negate_all.ensures.set c.if-not-close.ensures)
    ∙ ap Ok (sym c.in_ok-clause.ensures)
