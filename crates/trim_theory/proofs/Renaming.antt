-- A line whose references find what they found makes the same form under its new name.
use Rattle.std.proofs.Common.{◌≡◌, ℕ, Bool, List, [], ◌∷◌, Option, Result, Ok, ap, ◌∙◌}
use Rattle.proof_theory.specs.declared.literal.Literal.{Literal}
use Rattle.proof_theory.specs.Forms.{Form}
use Rattle.proof_theory.specs.Slack.{refutes, negations, clause_form}
use Rattle.log_theory.specs.declared.step.Op.{Op}
use Rattle.log_theory.specs.declared.step.Op.TheVariants.{Push, Axiom, Add, Times, Divide, Saturate}
use Rattle.log_theory.specs.declared.step.Ref.{Ref}
use Rattle.log_theory.specs.declared.step.Step.{Step}
use Rattle.log_theory.specs.declared.step.Step.TheVariants.{P, U}
use Rattle.log_theory.specs.declared.step.Cause.{Cause}
use Rattle.log_theory.specs.declared.step.Cause.TheVariants.{Twice, NoSuchName, NoConflict}
use Rattle.log_theory.specs.Steps.{◌>>=◌, unless, or_fault}
use Rattle.log_theory.specs.Lookups.{Lookup, operate, evaluate, only_one, find_all, are_distinct, variables_of, makes}
use Rattle.log_theory.proofs.LogSound.{bind_ok, unless_ok, or_fault_ok}
use Rattle.trim_theory.specs.Renaming.{Renaming, RefsRenamed, OpRenamed, OpsRenamed, LineRenamed, Follows, RenamingLaw}

-- ---- a wider relation

module _ (to on : Renaming) (wider : (q r : Ref) → to q r → on q r) where
  pub refs_wider : (qs rs : List Ref) → RefsRenamed to qs rs → RefsRenamed on qs rs
  refs_wider [] [] h = tt
  refs_wider (q ∷ qs) (r ∷ rs) h = (wider q r h.0, refs_wider qs rs h.1)
  refs_wider [] (r ∷ rs) h = h
  refs_wider (q ∷ qs) [] h = h

  op_wider : (o p : Op) → OpRenamed to o p → OpRenamed on o p
  op_wider (Push q) (Push r) h = wider q r h
  op_wider (Push q) (Axiom l) h = h
  op_wider (Push q) Add h = h
  op_wider (Push q) (Times n) h = h
  op_wider (Push q) (Divide n) h = h
  op_wider (Push q) Saturate h = h
  op_wider (Axiom l) p h = h
  op_wider Add p h = h
  op_wider (Times n) p h = h
  op_wider (Divide n) p h = h
  op_wider Saturate p h = h

  ops_wider : (os ps : List Op) → OpsRenamed to os ps → OpsRenamed on os ps
  ops_wider [] [] h = tt
  ops_wider (o ∷ os) (p ∷ ps) h = (op_wider o p h.0, ops_wider os ps h.1)
  ops_wider [] (p ∷ ps) h = h
  ops_wider (o ∷ os) [] h = h

  pub line_wider : (place : ℕ) (s u : Step) → LineRenamed to place s u → LineRenamed on place s u
  line_wider place (P name ops) (P new os) h = (h.0, ops_wider ops os h.1)
  line_wider place (U name lits refs) (U new ls rs) h = (h.0, h.1, refs_wider refs rs h.2)
  line_wider place s u h = absurd h

-- ---- what is made

-- An operation that succeeded on a stack succeeds where it pushes what it pushed.
operate_renamed : (look see : Lookup) (stack next : List Form) (o p : Op) → OpRenamed (Follows look see) o p → operate look stack o ≡ Ok next → operate see stack p ≡ Ok next
operate_renamed look see stack next (Push q) (Push r) h e =
    let b = bind_ok (or_fault (look q) _) _ next e in
    ap (λ (o : Option Form). or_fault o NoSuchName >>= λ f. Ok (f ∷ stack)) (h b.0 (or_fault_ok (look q) _ b.0 b.1.0)) ∙ b.1.1
operate_renamed look see stack next (Push q) (Axiom l) h e = absurd h
operate_renamed look see stack next (Push q) Add h e = absurd h
operate_renamed look see stack next (Push q) (Times n) h e = absurd h
operate_renamed look see stack next (Push q) (Divide n) h e = absurd h
operate_renamed look see stack next (Push q) Saturate h e = absurd h
operate_renamed look see stack next (Axiom l) p h e = ap (operate see stack) h ∙ e
operate_renamed look see stack next Add p h e = ap (operate see stack) h ∙ e
operate_renamed look see stack next (Times n) p h e = ap (operate see stack) h ∙ e
operate_renamed look see stack next (Divide n) p h e = ap (operate see stack) h ∙ e
operate_renamed look see stack next Saturate p h e = ap (operate see stack) h ∙ e

evaluate_renamed : (look see : Lookup) (os ps : List Op) (stack next : List Form) → OpsRenamed (Follows look see) os ps → evaluate look stack os ≡ Ok next → evaluate see stack ps ≡ Ok next
evaluate_renamed look see [] [] stack next h e = e
evaluate_renamed look see (o ∷ os) (p ∷ ps) stack next h e =
    let b = bind_ok (operate look stack o) _ next e in
    ap (λ (x : Result (List Form) Cause). x >>= λ more. evaluate see more ps) (operate_renamed look see stack b.0 o p h.0 b.1.0)
    ∙ evaluate_renamed look see os ps b.0 next h.1 b.1.1
evaluate_renamed look see [] (p ∷ ps) stack next h e = absurd h
evaluate_renamed look see (o ∷ os) [] stack next h e = absurd h

find_renamed : (look see : Lookup) (qs rs : List Ref) (fs : List Form) → RefsRenamed (Follows look see) qs rs → find_all look qs ≡ Ok fs → find_all see rs ≡ Ok fs
find_renamed look see [] [] fs h e = e
find_renamed look see (q ∷ qs) (r ∷ rs) fs h e =
    let b = bind_ok (or_fault (look q) _) _ fs e in
    let d = bind_ok (find_all look qs) _ fs b.1.1 in
    ap (λ (o : Option Form). or_fault o NoSuchName >>= λ f. find_all see rs >>= λ gs. Ok (f ∷ gs)) (h.0 b.0 (or_fault_ok (look q) _ b.0 b.1.0))
    ∙ ap (λ (x : Result (List Form) Cause). x >>= λ gs. Ok (b.0 ∷ gs)) (find_renamed look see qs rs d.0 h.1 d.1.0)
    ∙ d.1.1
find_renamed look see [] (r ∷ rs) fs h e = absurd h
find_renamed look see (q ∷ qs) [] fs h e = absurd h

pub makes_renamed : RenamingLaw
makes_renamed look see place (P name ops) (P new os) f h e =
    let b = bind_ok (evaluate look [] ops) _ f e in
    ap (λ (x : Result (List Form) Cause). x >>= λ stack. only_one stack) (evaluate_renamed look see ops os [] b.0 h.1 b.1.0) ∙ b.1.1
makes_renamed look see place (U name lits refs) (U new ls rs) f h e =
    let b = bind_ok (unless (are_distinct (variables_of lits)) Twice) _ f e in
    let d = bind_ok (find_all look refs) _ f b.1.1 in
    ap (λ (x : List Literal). makes see (U new x rs)) h.1
    ∙ ap (λ (x : Bool). unless x Twice >>= λ _. find_all see rs >>= λ fs. unless (refutes (negations lits) fs) NoConflict >>= λ _. Ok (clause_form lits)) (unless_ok (are_distinct (variables_of lits)) _ b.0 b.1.0)
    ∙ ap (λ (x : Result (List Form) Cause). x >>= λ fs. unless (refutes (negations lits) fs) NoConflict >>= λ _. Ok (clause_form lits)) (find_renamed look see refs rs d.0 h.2 d.1.0)
    ∙ d.1.1
makes_renamed look see place s u f h e = absurd h
