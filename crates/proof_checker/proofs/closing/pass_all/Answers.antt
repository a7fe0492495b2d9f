use Rattle.std.proofs.Common.{ℕ, List, Option, length, sym, subst, ◌∙◌, map}
use Rattle.proof_theory.specs.Forms.{Form}
use Rattle.proof_theory.specs.Slack.{setting}
use Rattle.log_theory.specs.Tables.{somes}
use Rattle.pb_propagation.specs.Reach.{AllReach}
use Rattle.proof_checker.proofs.Passing.{flat, conflict_in_front, all_passed, made_conflict, reach_model, reach_made, reach_shared}
use Rattle.proof_checker.proofs.closing.pass_all.Goals as goal

pub pass-requires : goal.pass-requires
pass-requires c = reach_model _ c.args.model.now c.args.table.now c.requires

pub pass_lists-requires : goal.pass_lists-requires
pass_lists-requires c =
    subst (λ (n : ℕ). AllReach n (somes (flat (map (λ v. v.items) c.lists.result.now)))) (sym c.pass.ensures.long)
    (subst (λ (ls : List (List (Option Form))). AllReach (length c.args.set.now) (somes (flat ls))) (sym c.lists.ensures) (reach_made (length c.args.set.now) c.args.model.now c.args.table.now c.requires))

pub pass_slots-requires : goal.pass_slots-requires
pass_slots-requires c =
    subst (λ (n : ℕ). AllReach n (somes c.shared.result.now)) (sym (c.pass_lists.ensures.long ∙ c.pass.ensures.long))
    (subst (λ (os : List (Option Form)). AllReach (length c.args.set.now) (somes os)) (sym c.shared.ensures) (reach_shared (length c.args.set.now) c.args.model.now c.args.table.now c.requires))

pub returns-then-pass-clause-passed : goal.returns-then-pass-clause-passed
returns-then-pass-clause-passed c = conflict_in_front (setting c.args.set.now) (setting c.pass.new.set) (setting c.pass.new.set) c.args.model.now _ c.if-pass.ensures.passed

pub returns-then-pass_lists-clause-passed : goal.returns-then-pass_lists-clause-passed
returns-then-pass_lists-clause-passed c =
    made_conflict (setting c.args.set.now) (setting c.pass.new.set) (setting c.pass_lists.new.set) (setting c.pass_lists.new.set) c.args.model.now c.args.table.now _ c.lists.ensures c.if-pass.ensures.passed c.if-pass_lists.ensures.passed

pub returns-clause-passed : goal.returns-clause-passed
returns-clause-passed c =
    all_passed c.pass_slots.result (setting c.args.set.now) (setting c.pass.new.set) (setting c.pass_lists.new.set) (setting c.pass_slots.new.set) c.args.model.now c.args.table.now _ _ c.lists.ensures c.shared.ensures
    c.if-pass.ensures.passed c.if-pass_lists.ensures.passed c.pass_slots.ensures.passed
