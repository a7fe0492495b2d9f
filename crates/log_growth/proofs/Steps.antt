-- Lines that may be kept: sums of named forms, and clauses that named forms refute the negation of.
use Rattle.std.proofs.Common.{◌≡◌, ℕ, zero, suc, ◌+◌, ◌-◌, ◌*◌, ◌^◌, ◌<◌, ◌≤◌, Bool, true, false, cond, pos, neg_ℤ, unsigned_abs, List, [], ◌∷◌, ◌++◌, length, take, drop, Result, Ok, refl, sym, ap, subst, ◌∙◌, append_assoc, arith}
use Rattle.std.specs.Prelude.{get_or, map}
use Rattle.std.proofs.lemmas.Int.{ints}
use Rattle.log_theory.specs.declared.step.Op.{Op}
use Rattle.log_theory.specs.declared.step.Op.TheVariants.{Push, Add}
use Rattle.proof_theory.specs.declared.literal.Literal.{Literal}
use Rattle.proof_theory.specs.Forms.{Form, size}
use Rattle.proof_theory.specs.Slack.{refutes, negations, clause_form, literal_term, negated_count}
use Rattle.pb_terms.proofs.Ruled.{size-sorted}
use Rattle.log_theory.specs.declared.step.Name.{Name}
use Rattle.log_theory.specs.declared.step.Ref.{Ref}
use Rattle.log_theory.specs.declared.step.Ref.TheVariants.{Line}
use Rattle.log_theory.specs.declared.step.Cause.{Cause}
use Rattle.log_theory.specs.declared.step.Cause.TheVariants.{Twice, NoConflict}
use Rattle.log_theory.specs.declared.step.Step.TheVariants.{P, U}
use Rattle.log_theory.specs.Steps.{◌>>=◌, unless}
use Rattle.log_theory.specs.LogText.{AreOps, AreRefs}
use Rattle.log_theory.specs.Lookups.{are_distinct, variables_of, find_all}
use Rattle.log_theory.specs.Verdicts.{in_range, axiom_variables}
use Rattle.encoding_theory.specs.Variables.{variables}
use native.Mathlib.Nat.{suc-mul}
use Rattle.proof_theory.specs.Rules.{sum_of}
use Rattle.forcing_theory.specs.Sums.{sum_from, adding, summing, IsSmall, AreSmall}
use Rattle.forcing_theory.proofs.Summing.{sums, small_sum}
use Rattle.journal_theory.specs.Referring.{op_refs, NamesRow}
use Rattle.log_growth.specs.Frames.{Frame, AreNamed, MayFollow, IsAddable, AreSumOf}
use Rattle.journal_theory.proofs.Placing.{take_all}
use Rattle.log_growth.proofs.Naming.{all_found, named_rows}

refs_of_adding : (rs : List Ref) → op_refs (adding rs) ≡ rs
refs_of_adding [] = refl
refs_of_adding (r ∷ rs) = ap (λ (xs : List Ref). r ∷ xs) (refs_of_adding rs)

no_axioms : (rs : List Ref) → axiom_variables (adding rs) ≡ []
no_axioms [] = refl
no_axioms (r ∷ rs) = no_axioms rs

ops_of_adding : (rs : List Ref) → AreRefs rs → AreOps (adding rs)
ops_of_adding [] h = tt
ops_of_adding (r ∷ rs) h = (h.0, (tt, ops_of_adding rs h.1))

-- The operations that sum references are in their ranges where these are.
pub summing_ops : (r : Ref) (rs : List Ref) → AreRefs (r ∷ rs) → AreOps (summing r rs)
summing_ops r rs h = (h.0, ops_of_adding rs h.1)

-- ---- sizes

-- What is small is so by every larger measure.
small_more : (m n : ℕ) (f : Form) → m ≤ n → IsSmall m f → IsSmall n f
small_more m n f le small = record { bound_fits = let b = small.bound_fits in omega (arith, b, le); sum_fits = let s = small.sum_fits in omega (arith, s, le) }

small_from : (m n : ℕ) (f : Form) (gs : List Form) → IsSmall m f → AreSmall n gs → IsSmall (m + length gs * n) (sum_from f gs)
small_from m n f [] small all = small_more m (m + 0 * n) f (omega arith) small
small_from m n f (g ∷ gs) small all =
    let room = suc-mul (length gs) n in
    small_more (m + n + length gs * n) (m + suc (length gs) * n) (sum_from (sum_of f g) gs) (omega (arith, room)) (small_from (m + n) n (sum_of f g) gs (small_sum m n f g small all.0) all.1)

-- So is a sum of forms whose sizes add up to no more.
sum_small : (n : ℕ) (f : Form) (gs : List Form) → AreSmall n (f ∷ gs) → length (f ∷ gs) * n ≤ 2 ^ 40 → IsSmall (2 ^ 40) (sum_from f gs)
sum_small n f gs all fits = let room = suc-mul (length gs) n in small_more (n + length gs * n) (2 ^ 40) (sum_from f gs) (omega (arith, room, fits)) (small_from n n f gs all.0 all.1)

one_unit : (b : Bool) → unsigned_abs (cond b (neg_ℤ (pos 1)) (pos 1)) ≡ 1
one_unit true = refl
one_unit false = refl

clause_terms : (lits : List Literal) → size (map literal_term lits) ≡ length lits
clause_terms [] = refl
clause_terms (l ∷ ls) = let h = clause_terms ls in let o = one_unit l.negated in omega (arith, h, o)

negated_most : (lits : List Literal) → negated_count lits ≤ length lits
negated_most [] = omega arith
negated_most (l ∷ ls) = by l.negated (negated_most ls)
  where
    by : (b : Bool) → negated_count ls ≤ length ls → cond b 1 0 + negated_count ls ≤ suc (length ls)
    by true h = omega (arith, h)
    by false h = omega (arith, h)

-- So is a clause of so many literals.
pub clause_small : (lits : List Literal) → length lits ≤ 2 ^ 40 → IsSmall (2 ^ 40) (clause_form lits)
clause_small lits few = record {
  bound_fits = let n = negated_most lits in omega (arith, ints, n, few);
  sum_fits = let l = size-sorted (map literal_term lits) in let e = clause_terms lits in omega (arith, l, e, few);
}

-- The sum of named forms.
pub sum_follows : (w : Frame) (forms : List Form) (name : Name) (r : Ref) (rs : List Ref) (f : Form) (gs : List Form) → AreNamed w forms (r ∷ rs) (f ∷ gs) → IsAddable (f ∷ gs)
    → MayFollow w forms (P name (summing r rs)) (sum_from f gs)
sum_follows w forms name r rs f gs named small = record {
  made = λ look finds own. sums.made look name r rs f gs small.most (all_found w forms (r ∷ rs) (f ∷ gs) look named finds own) small.small (let fits = small.fits in omega (arith, fits));
  rows = λ k names. named_rows w forms (r ∷ rs) (f ∷ gs) named k (subst (λ (xs : List Ref). NamesRow (r ∷ xs) k) (refs_of_adding rs) names);
  ranges = ap (in_range (variables w.problem)) (no_axioms rs);
  small = sum_small small.most f gs small.small small.fits;
}

-- A clause whose negation named forms refute.
pub clause_follows : (w : Frame) (forms : List Form) (name : Name) (lits : List Literal) (rs : List Ref) (fs : List Form) → AreNamed w forms rs fs → are_distinct (variables_of lits) ≡ true
    → in_range (variables w.problem) (variables_of lits) ≡ true → refutes (negations lits) fs ≡ true → length lits ≤ 2 ^ 40
    → MayFollow w forms (U name lits rs) (clause_form lits)
clause_follows w forms name lits rs fs named distinct ranges refuted few = record {
  made = λ look finds own.
      ap (λ (b : Bool). unless b Twice >>= λ _. find_all look rs >>= λ gs. unless (refutes (negations lits) gs) NoConflict >>= λ _. let x : Result Form Cause = Ok (clause_form lits) in x) distinct
      ∙ ap (λ (x : Result (List Form) Cause). x >>= λ gs. unless (refutes (negations lits) gs) NoConflict >>= λ _. let y : Result Form Cause = Ok (clause_form lits) in y) (all_found w forms rs fs look named finds own)
      ∙ ap (λ (b : Bool). unless b NoConflict >>= λ _. let x : Result Form Cause = Ok (clause_form lits) in x) refuted;
  rows = λ k names. named_rows w forms rs fs named k names;
  ranges = ranges;
  small = clause_small lits few;
}

adding_next : (rs : List Ref) (i : ℕ) → i < length rs → adding (take i rs) ++ Push (get_or rs i (Line 0)) ∷ Add ∷ [] ≡ adding (take (suc i) rs)
adding_next [] i below = absurd (omega (arith, below))
adding_next (x ∷ rs) zero below = refl
adding_next (x ∷ rs) (suc i) below = ap (λ (os : List Op). Push x ∷ Add ∷ os) (adding_next rs i (omega (arith, below)))

-- One more reference is pushed and added.
pub adding_more : (old a b c : List Op) (rs : List Ref) (i : ℕ) → i < length rs → a ≡ old ++ adding (take i rs) → b ≡ a ++ Push (get_or rs i (Line 0)) ∷ [] → c ≡ b ++ Add ∷ []
    → c ≡ old ++ adding (take (i + 1) rs)
adding_more old a b c rs i below before pushed added =
    let e : suc i ≡ i + 1 = omega arith in
    let r = get_or rs i (Line 0) in
    added ∙ ap (λ (os : List Op). os ++ Add ∷ []) (pushed ∙ ap (λ (os : List Op). os ++ Push r ∷ []) before)
    ∙ append_assoc (old ++ adding (take i rs)) (Push r ∷ []) (Add ∷ []) ∙ append_assoc old (adding (take i rs)) (Push r ∷ Add ∷ [])
    ∙ ap (λ (os : List Op). old ++ os) (adding_next rs i below) ∙ ap (λ (n : ℕ). old ++ adding (take n rs)) e

-- ---- operations that sum references

pub sum_ops : (rs : List Ref) (ops : List Op) → AreSumOf rs ops → AreRefs rs → AreOps ops
sum_ops [] ops sum fits = absurd sum
sum_ops (r ∷ rs) ops sum fits = subst AreOps (sym sum) (summing_ops r rs fits)

pub sum_may_follow : (w : Frame) (forms : List Form) (name : Name) (rs : List Ref) (ops : List Op) (f : Form) (gs : List Form) → AreSumOf rs ops → AreNamed w forms rs (f ∷ gs) → IsAddable (f ∷ gs)
    → MayFollow w forms (P name ops) (sum_from f gs)
sum_may_follow w forms name [] ops f gs sum named small = absurd sum
sum_may_follow w forms name (r ∷ rs) ops f gs sum named small = subst (λ (os : List Op). MayFollow w forms (P name os) (sum_from f gs)) (sym sum) (sum_follows w forms name r rs f gs named small)

-- The first reference pushed, and then the others.
pub sum_made : (refs : List Ref) (a b : List Op) → 0 < length refs → a ≡ Push (get_or refs 0 (Line 0)) ∷ [] → b ≡ a ++ adding (take (length refs - 1) (drop 1 refs)) → AreSumOf refs b
sum_made [] a b some first rest = absurd (omega (arith, some))
sum_made (r ∷ rs) a b some first rest = rest ∙ ap (λ (os : List Op). os ++ adding (take (suc (length rs) - 1) rs)) first ∙ ap (λ (xs : List Ref). Push r ∷ adding xs) (take_all rs (suc (length rs) - 1) (omega arith))
