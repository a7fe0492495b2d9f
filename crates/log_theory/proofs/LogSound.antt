-- What an accepted log claims is true of its model.
use Rattle.std.proofs.Common.{◌≡◌, ℕ, zero, suc, ◌<◌, ◌^◌, Bool, true, false, not, ◌==◌, ◌&&◌, nat_le, List, [], ◌∷◌, Option, Some, None, Result, Ok, Err, unsigned_abs, refl, subst, arith}
use Rattle.proof_theory.specs.declared.literal.Literal.{Literal}
use Rattle.log_theory.specs.declared.step.Ref.{Ref}
use Rattle.log_theory.specs.declared.step.Ref.TheVariants.{Made}
use Rattle.log_theory.specs.declared.step.Op.{Op}
use Rattle.log_theory.specs.declared.step.Op.TheVariants.{Push, Axiom, Add, Times, Divide, Saturate}
use Rattle.log_theory.specs.declared.step.Step.{Step}
use Rattle.log_theory.specs.declared.step.Step.TheVariants.{Head, Model, P, U, N, D, E, Y, Q}
use Rattle.log_theory.specs.declared.step.Cause.{Cause}
use Rattle.proof_theory.specs.Forms.{Form, Holds, Satisfies, size}
use Rattle.proof_theory.specs.Rules.{sum_of, times_of, divide_of, saturate_of}
use Rattle.proof_theory.specs.Slack.{refutes, negations, clause_form, axiom_form}
use Rattle.log_theory.specs.Steps.{◌>>=◌, unless, or_fault}
use Rattle.log_theory.specs.Lookups.{Lookup, narrow, on_top, on_two, operate, evaluate, only_one, find_all, are_distinct, variables_of, makes, closed_clause}
use Rattle.proof_theory.proofs.Rules.{axiom_form_holds, sum_holds, times_holds, divide_holds, saturate_holds}
use Rattle.proof_theory.specs.Propagation.{closes}
use Rattle.proof_theory.proofs.Refutation.{refuted_clause, clause_form_holds}
use Rattle.proof_theory.proofs.Propagation.{closes_found, closed_clause as clause_of_closure}

-- What a step that succeeded went through.
pub bind_ok : {E A B : Type 0} (r : Result A E) (f : A → Result B E) (y : B) → (r >>= f) ≡ Ok y → (x : A) × ((r ≡ Ok x) × (f x ≡ Ok y))
bind_ok (Ok x) f y e = (x, (refl, e))
bind_ok (Err e1) f y e = absurd cc

-- A test that let through was true.
pub unless_ok : {E : Type 0} (b : Bool) (e : E) (x : ℕ) → unless b e ≡ Ok x → b ≡ true
unless_ok true e x h = refl
unless_ok false e x h = absurd cc

pub or_fault_ok : {E A : Type 0} (o : Option A) (e : E) (x : A) → or_fault o e ≡ Ok x → o ≡ Some x
or_fault_ok (Some y) e x h = cc
or_fault_ok None e x h = absurd cc

-- All that a lookup names holds at an assignment.
pub record IsSound (look : Lookup) (a : ℕ → Bool) : Type 0 where
  pub holds : (r : Ref) (f : Form) → look r ≡ Some f → Holds f a

ok_same : (f g : Form) → let x : Result Form Cause = Ok f in let y : Result Form Cause = Ok g in x ≡ y → f ≡ g
ok_same f g e = cc

oks_same : (f g : List Form) → let x : Result (List Form) Cause = Ok f in let y : Result (List Form) Cause = Ok g in x ≡ y → f ≡ g
oks_same f g e = cc

narrow_same : (f g : Form) → narrow f ≡ Ok g → f ≡ g
narrow_same f g e =
    let b = bind_ok (unless (nat_le (unsigned_abs f.bound) (2 ^ 125) && nat_le (size f.terms) (2 ^ 125)) _) _ g e in
    ok_same f g b.1.1

top_sound : (a : ℕ → Bool) (rule : Form → Form) → ((f : Form) → Holds f a → Holds (rule f) a) → (stack next : List Form) → Satisfies stack a → on_top rule stack ≡ Ok next → Satisfies next a
top_sound a rule keeps [] next s e = absurd cc
top_sound a rule keeps (f ∷ stack) next s e =
    let b = bind_ok (narrow (rule f)) _ next e in
    let h : Holds b.0 a = subst (λ (x : Form). Holds x a) (narrow_same (rule f) b.0 b.1.0) (keeps f s.0) in
    subst (λ (x : List Form). Satisfies x a) (oks_same (b.0 ∷ stack) next b.1.1) (h, s.1)

two_sound : (a : ℕ → Bool) (stack next : List Form) → Satisfies stack a → on_two sum_of stack ≡ Ok next → Satisfies next a
two_sound a [] next s e = absurd cc
two_sound a (g ∷ []) next s e = absurd cc
two_sound a (g ∷ f ∷ stack) next s e =
    let b = bind_ok (narrow (sum_of f g)) _ next e in
    let h : Holds b.0 a = subst (λ (x : Form). Holds x a) (narrow_same (sum_of f g) b.0 b.1.0) (sum_holds f g a s.1.0 s.0) in
    subst (λ (x : List Form). Satisfies x a) (oks_same (b.0 ∷ stack) next b.1.1) (h, s.1.1)

not_zero : (n : ℕ) → not (n == 0) ≡ true → 0 < n
not_zero zero e = absurd cc
not_zero (suc n) e = omega arith

-- An operation keeps the stack true.
operate_sound : (look : Lookup) (a : ℕ → Bool) → IsSound look a → (stack next : List Form) (o : Op) → Satisfies stack a → operate look stack o ≡ Ok next → Satisfies next a
operate_sound look a l stack next (Push r) s e =
    let b = bind_ok (or_fault (look r) _) _ next e in
    subst (λ (x : List Form). Satisfies x a) (oks_same (b.0 ∷ stack) next b.1.1) (l.holds r b.0 (or_fault_ok (look r) _ b.0 b.1.0), s)
operate_sound look a l stack next (Axiom x) s e = subst (λ (y : List Form). Satisfies y a) (oks_same (axiom_form x ∷ stack) next e) (axiom_form_holds x a, s)
operate_sound look a l stack next Add s e = two_sound a stack next s e
operate_sound look a l stack next (Times n) s e =
    let b = bind_ok (unless (not (n == 0)) _) _ next e in
    top_sound a (times_of n) (λ f h. times_holds n f a h) stack next s b.1.1
operate_sound look a l stack next (Divide n) s e =
    let b = bind_ok (unless (not (n == 0)) _) _ next e in
    top_sound a (divide_of n) (λ f h. divide_holds n f a (not_zero n (unless_ok (not (n == 0)) _ b.0 b.1.0)) h) stack next s b.1.1
operate_sound look a l stack next Saturate s e = top_sound a saturate_of (λ f h. saturate_holds f a h) stack next s e

evaluate_sound : (look : Lookup) (a : ℕ → Bool) → IsSound look a → (os : List Op) (stack next : List Form) → Satisfies stack a → evaluate look stack os ≡ Ok next → Satisfies next a
evaluate_sound look a l [] stack next s e = subst (λ (y : List Form). Satisfies y a) (oks_same stack next e) s
evaluate_sound look a l (o ∷ os) stack next s e =
    let b = bind_ok (operate look stack o) _ next e in
    evaluate_sound look a l os b.0 next (operate_sound look a l stack b.0 o s b.1.0) b.1.1

only_sound : (a : ℕ → Bool) (stack : List Form) (f : Form) → Satisfies stack a → only_one stack ≡ Ok f → Holds f a
only_sound a [] f s e = absurd cc
only_sound a (g ∷ []) f s e = subst (λ (x : Form). Holds x a) (ok_same g f e) s.0
only_sound a (g ∷ h ∷ stack) f s e = absurd cc

find_all_sound : (look : Lookup) (a : ℕ → Bool) → IsSound look a → (rs : List Ref) (fs : List Form) → find_all look rs ≡ Ok fs → Satisfies fs a
find_all_sound look a l [] fs e = subst (λ (x : List Form). Satisfies x a) (oks_same [] fs e) tt
find_all_sound look a l (r ∷ rs) fs e =
    let b = bind_ok (or_fault (look r) _) _ fs e in
    let d = bind_ok (find_all look rs) _ fs b.1.1 in
    subst (λ (x : List Form). Satisfies x a) (oks_same (b.0 ∷ d.0) fs d.1.1) (l.holds r b.0 (or_fault_ok (look r) _ b.0 b.1.0), find_all_sound look a l rs d.0 d.1.0)

-- What a line makes holds wherever what it looks up holds.
pub makes_sound : (look : Lookup) (a : ℕ → Bool) → IsSound look a → (s : Step) (f : Form) → makes look s ≡ Ok f → Holds f a
makes_sound look a l (P name ops) f e =
    let b = bind_ok (evaluate look [] ops) _ f e in
    only_sound a b.0 f (evaluate_sound look a l ops [] b.0 tt b.1.0) b.1.1
makes_sound look a l (U name lits refs) f e =
    let b = bind_ok (unless (are_distinct (variables_of lits)) _) _ f e in
    let d = bind_ok (find_all look refs) _ f b.1.1 in
    let g = bind_ok (unless (refutes (negations lits) d.0) _) _ f d.1.1 in
    subst (λ (x : Form). Holds x a) (ok_same (clause_form lits) f g.1.1)
    (clause_form_holds lits a (refuted_clause lits d.0 (unless_ok (refutes (negations lits) d.0) _ g.0 g.1.0) a (find_all_sound look a l refs d.0 d.1.0)))
makes_sound look a l (N row name) f e = l.holds (Made name) f (or_fault_ok (look (Made name)) _ f e)
makes_sound look a l Head f e = absurd cc
makes_sound look a l (Model m) f e = absurd cc
makes_sound look a l (D at) f e = absurd cc
makes_sound look a l (E at) f e = absurd cc
makes_sound look a l (Y ones) f e = absurd cc
makes_sound look a l Q f e = absurd cc

-- A clause that propagation over forms finds holds wherever they hold.
pub closed_sound : (a : ℕ → Bool) (fs : List Form) (lits : List Literal) (f : Form) → Satisfies fs a → closed_clause fs lits ≡ Ok f → Holds f a
closed_sound a fs lits f sat e =
    let b = bind_ok (unless (are_distinct (variables_of lits)) _) _ f e in
    let d = bind_ok (unless (closes (negations lits) fs) _) _ f b.1.1 in
    subst (λ (x : Form). Holds x a) (ok_same (clause_form lits) f d.1.1)
    (clause_form_holds lits a (clause_of_closure lits fs (closes_found (negations lits) fs (unless_ok (closes (negations lits) fs) _ d.0 d.1.0)) a sat))
