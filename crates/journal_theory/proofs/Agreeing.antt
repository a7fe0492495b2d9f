-- What a line makes depends on nothing but what its references name.
use Rattle.std.proofs.Common.{◌≡◌, List, [], ◌∷◌, Option, Result, Ok, Err, refl, ap, ◌∙◌}
use Rattle.proof_theory.specs.Forms.{Form}
use Rattle.proof_theory.specs.Slack.{refutes, negations, clause_form, axiom_form}
use Rattle.log_theory.specs.declared.step.Op.{Op}
use Rattle.log_theory.specs.declared.step.Op.TheVariants.{Push, Axiom, Add, Times, Divide, Saturate}
use Rattle.log_theory.specs.declared.step.Ref.{Ref}
use Rattle.log_theory.specs.declared.step.Step.TheVariants.{Head, Model, P, U, N, D, E, Y, Q}
use Rattle.log_theory.specs.declared.step.Cause.{Cause}
use Rattle.log_theory.specs.declared.step.Cause.TheVariants.{Twice, NoSuchName, NoConflict}
use Rattle.log_theory.specs.Steps.{◌>>=◌, unless, or_fault}
use Rattle.log_theory.specs.Lookups.{Lookup, operate, evaluate, only_one, find_all, are_distinct, variables_of}
use Rattle.journal_theory.specs.Referring.{op_refs, Agree, RefsLaw}

-- Steps that go on alike from each value go on alike.
pub bind_on : {E A B : Type 0} (x : Result A E) (f g : A → Result B E) → ((a : A) → f a ≡ g a) → (x >>= f) ≡ (x >>= g)
bind_on (Ok a) f g h = h a
bind_on (Err e) f g h = refl

evaluate_same : (look see : Lookup) (os : List Op) (stack : List Form) → Agree look see (op_refs os) → evaluate look stack os ≡ evaluate see stack os
evaluate_same look see [] stack a = refl
evaluate_same look see (Push r ∷ os) stack a =
    ap (λ (o : Option Form). (or_fault o NoSuchName >>= λ f. Ok (f ∷ stack)) >>= λ next. evaluate look next os) a.0
    ∙ bind_on (operate see stack (Push r)) (λ next. evaluate look next os) (λ next. evaluate see next os) (λ next. evaluate_same look see os next a.1)
evaluate_same look see (Axiom l ∷ os) stack a = evaluate_same look see os (axiom_form l ∷ stack) a
evaluate_same look see (Add ∷ os) stack a =
    bind_on (operate look stack Add) (λ next. evaluate look next os) (λ next. evaluate see next os) (λ next. evaluate_same look see os next a)
evaluate_same look see (Times n ∷ os) stack a =
    bind_on (operate look stack (Times n)) (λ next. evaluate look next os) (λ next. evaluate see next os) (λ next. evaluate_same look see os next a)
evaluate_same look see (Divide n ∷ os) stack a =
    bind_on (operate look stack (Divide n)) (λ next. evaluate look next os) (λ next. evaluate see next os) (λ next. evaluate_same look see os next a)
evaluate_same look see (Saturate ∷ os) stack a =
    bind_on (operate look stack Saturate) (λ next. evaluate look next os) (λ next. evaluate see next os) (λ next. evaluate_same look see os next a)

find_same : (look see : Lookup) (rs : List Ref) → Agree look see rs → find_all look rs ≡ find_all see rs
find_same look see [] a = refl
find_same look see (r ∷ rs) a =
    ap (λ (o : Option Form). or_fault o NoSuchName >>= λ f. find_all look rs >>= λ fs. Ok (f ∷ fs)) a.0
    ∙ bind_on (or_fault (see r) NoSuchName) (λ f. find_all look rs >>= λ fs. Ok (f ∷ fs)) (λ f. find_all see rs >>= λ fs. Ok (f ∷ fs))
    (λ f. ap (λ (x : Result (List Form) Cause). x >>= λ fs. Ok (f ∷ fs)) (find_same look see rs a.1))

pub makes_same : RefsLaw
makes_same look see (P name ops) a = ap (λ (x : Result (List Form) Cause). x >>= λ stack. only_one stack) (evaluate_same look see ops [] a)
makes_same look see (U name lits refs) a =
    ap (λ (x : Result (List Form) Cause). unless (are_distinct (variables_of lits)) Twice >>= λ _. x >>= λ fs. unless (refutes (negations lits) fs) NoConflict >>= λ _. Ok (clause_form lits))
    (find_same look see refs a)
makes_same look see (N row name) a = ap (λ (o : Option Form). or_fault o NoSuchName) a.0
makes_same look see Head a = refl
makes_same look see (Model m) a = refl
makes_same look see (D at) a = refl
makes_same look see (E at) a = refl
makes_same look see (Y ones) a = refl
makes_same look see Q a = refl
