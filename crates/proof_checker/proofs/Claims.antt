-- The walk that marks the variables of a claimed solution, and what the claim says of the model.
use Rattle.std.proofs.Common.{not, ◌≡◌, ℕ, zero, suc, ◌<◌, ◌≤◌, Bool, true, false, cond, ◌&&◌, nat_lt, nat_le, List, [], ◌∷◌, length, get_or, drop, Ok, Err, ℤ, pos, ◌+ℤ◌, int_le, refl, sym, ap, ◌∙◌, arith}
use Rattle.std.proofs.lemmas.Bool.{and_parts, ltb-true}
use Rattle.proof_theory.specs.Forms.{Form, value}
use Rattle.log_theory.specs.declared.step.Cause.TheVariants.{NotSolution}
use Rattle.log_theory.specs.declared.step.Verdict.TheVariants.{Satisfiable}
use Rattle.log_theory.specs.Lookups.{is_among, are_distinct}
use Rattle.log_theory.specs.Verdicts.{Ends, in_range, holds_at, all_hold_at, solved_by}
use Rattle.proof_checker.specs.Ones.{AreUpTo}

pub up_to_wider : (n m : ℕ) (vs : List ℕ) → n ≤ m → AreUpTo n vs → AreUpTo m vs
up_to_wider n m [] l h = tt
up_to_wider n m (v ∷ vs) l h = let a = h.0 in (omega arith, up_to_wider n m vs l h.1)

pub up_to_at : (n : ℕ) (vs : List ℕ) (i : ℕ) → AreUpTo n vs → i < length vs → get_or vs i 0 ≤ n
up_to_at n [] i h k = absurd (omega arith)
up_to_at n (v ∷ vs) zero h k = h.0
up_to_at n (v ∷ vs) (suc i) h k = up_to_at n vs i h.1 (omega arith)

pub positive_at : (n : ℕ) (vs : List ℕ) (i : ℕ) → in_range n vs ≡ true → i < length vs → 0 < get_or vs i 0
positive_at n [] i h k = absurd (omega arith)
positive_at n (v ∷ vs) zero h k =
    let p : ((nat_lt 0 v && nat_le v n) ≡ true) × (in_range n vs ≡ true) = and_parts _ _ h in
    ltb-true 0 v (and_parts (nat_lt 0 v) (nat_le v n) p.0).0
positive_at n (v ∷ vs) (suc i) h k =
    let p : ((nat_lt 0 v && nat_le v n) ≡ true) × (in_range n vs ≡ true) = and_parts _ _ h in
    positive_at n vs i p.1 (omega arith)

-- A variable that was one stands twice.
pub marked_twice : (a : ℕ → Bool) (v : ℕ) (vs : List ℕ) → ((w : ℕ) → a w ≡ is_among w vs) → a v ≡ true → are_distinct (v ∷ vs) ≡ false
marked_twice a v vs e h = ap (λ (b : Bool). not b && are_distinct vs) (sym (e v) ∙ h)

pub twice_behind : (i : ℕ) (vs : List ℕ) → are_distinct (drop i vs) ≡ false → are_distinct vs ≡ false
twice_behind zero vs h = h
twice_behind (suc i) [] h = h
twice_behind (suc i) (v ∷ vs) h = ap (λ (b : Bool). not (is_among v vs) && b) (twice_behind i vs h) ∙ and_false (not (is_among v vs))
  where
    and_false : (b : Bool) → (b && false) ≡ false
    and_false true = refl
    and_false false = refl

-- Assignments that say the same give the same values.
same_value : (a b : ℕ → Bool) (ts : List (ℕ × ℤ)) → ((v : ℕ) → a v ≡ b v) → value a ts ≡ value b ts
same_value a b [] e = refl
same_value a b (t ∷ ts) e =
    ap (λ (x : Bool). cond x t.1 (pos 0) +ℤ value a ts) (e t.0) ∙ ap (λ (z : ℤ). cond (b t.0) t.1 (pos 0) +ℤ z) (same_value a b ts e)

pub same_holds : (a b : ℕ → Bool) (fs : List Form) → ((v : ℕ) → a v ≡ b v) → all_hold_at a fs ≡ all_hold_at b fs
same_holds a b [] e = refl
same_holds a b (f ∷ fs) e =
    ap (λ (z : ℤ). int_le f.bound z && all_hold_at a fs) (same_value a b f.terms e) ∙ ap (λ (x : Bool). holds_at b f && x) (same_holds a b fs e)

-- What the claim leads to.
pub solved : (model : List Form) (ones : List ℕ) (a : ℕ → Bool) → are_distinct ones ≡ true → ((v : ℕ) → a v ≡ is_among v ones) → all_hold_at a model ≡ true → solved_by model ones ≡ Ok (Ends Satisfiable)
solved model ones a d e h =
    let s : all_hold_at (λ v. is_among v ones) model ≡ true = sym (same_holds a (λ v. is_among v ones) model e) ∙ h in
    rw (d, s)

pub not_solved : (model : List Form) (ones : List ℕ) (a : ℕ → Bool) → are_distinct ones ≡ true → ((v : ℕ) → a v ≡ is_among v ones) → all_hold_at a model ≡ false → solved_by model ones ≡ Err NotSolution
not_solved model ones a d e h =
    let s : all_hold_at (λ v. is_among v ones) model ≡ false = sym (same_holds a (λ v. is_among v ones) model e) ∙ h in
    rw (d, s)
