-- A setting that agrees with an assignment keeps agreeing along forms that hold, and meets no conflict.
use Rattle.std.proofs.Common.{◌≡◌, ℕ, ◌+◌, ◌≤◌, ◌<◌, Bool, true, false, cond, not, ◌==◌, List, [], ◌∷◌, map, ℤ, pos, negsuc, ◌+ℤ◌, neg_ℤ, ◌<ℤ◌, unsigned_abs, int_lt, refl, sym, ap, ◌∙◌, arith, Option, Some, None, inl, inr, ◌⊎◌}
use Rattle.std.proofs.lemmas.Int.{ints}
use Rattle.std.proofs.lemmas.Bool.{eqb-true, or_cases, or_parts, cases_Bool}
use Rattle.proof_theory.specs.declared.literal.Literal.{Literal}
use Rattle.proof_theory.specs.Forms.{Form, Holds, Satisfies, value}
use Rattle.proof_theory.specs.Slack.{Setting, open_at, open_sum, slack, conflict, wanted, forced_by, forced_at, or_else, after, refutes, negations, clause_holds, is_true_at, clause_form, literal_term, negated_count}
use Rattle.proof_theory.proofs.Sorting.{value-sorted}
use Rattle.proof_theory.proofs.Weights.{term_weight, weight, degree_below}

-- What the setting sets has the assignment's value.
pub record Agrees (s : Setting) (a : ℕ → Bool) : Type 0 where
  pub same : (v : ℕ) (b : Bool) → s v ≡ Some b → a v ≡ b

-- A literal that is true is not false in a setting that agrees.
weight_of_term : (o : Option Bool) (b : Bool) (c : ℤ) → ((d : Bool) → o ≡ Some d → b ≡ d) → term_weight b c ≤ cond (open_at o c) (unsigned_abs c) 0
weight_of_term None true (pos n) h = omega arith
weight_of_term None true (negsuc n) h = omega arith
weight_of_term None false (pos n) h = omega arith
weight_of_term None false (negsuc n) h = omega arith
weight_of_term (Some d) b c h = let e : b ≡ d = h d refl in rw e (omega arith)

-- The weight is at most what is still open.
pub weight_below : (s : Setting) (a : ℕ → Bool) (ts : List (ℕ × ℤ)) → Agrees s a → weight a ts ≤ open_sum s ts
weight_below s a [] h = omega arith
weight_below s a (t ∷ ts) h =
    let k = weight_below s a ts h in
    let e = weight_of_term (s t.0) (a t.0) t.1 (h.same t.0) in
    omega arith

pub some_same : (b d : Bool) → let P : Option Bool → Option Bool → Type 0 = λ x y. x ≡ y in P (Some b) (Some d) → b ≡ d
some_same b d e = cc

-- A value that is forced and not taken leaves the weight below what is open by more than the slack.
pub forced_term : (k c : ℤ) (b : Bool) → forced_by k c ≡ Some b → (k <ℤ pos (unsigned_abs c)) × (wanted c ≡ b)
forced_term k c b = by-cases (int_lt k (pos (unsigned_abs c))) refl
  where
    by-cases : (x : Bool) → int_lt k (pos (unsigned_abs c)) ≡ x → cond x (Some (wanted c)) None ≡ Some b → (k <ℤ pos (unsigned_abs c)) × (wanted c ≡ b)
    by-cases true e h = (grind (arith, ints), cc)
    by-cases false e h = absurd cc

pub unwanted_weight : (c : ℤ) (b : Bool) → b ≡ not (wanted c) → term_weight b c ≡ 0
unwanted_weight (pos n) b e = rw e refl
unwanted_weight (negsuc n) b e = rw e refl

pub forced_gap : (s : Setting) (a : ℕ → Bool) (k : ℤ) (ts : List (ℕ × ℤ)) (v : ℕ) (b : Bool) → Agrees s a → s v ≡ None → forced_at k ts v ≡ Some b → a v ≡ not b → (pos (weight a ts) +ℤ k) <ℤ pos (open_sum s ts)
forced_gap s a k [] v b h unset f g = absurd cc
forced_gap s a k (t ∷ ts) v b h unset f g = by-cases (forced_gap s a k ts v b h unset) (t.0 == v) refl f
  where
    by-cases : (forced_at k ts v ≡ Some b → a v ≡ not b → (pos (weight a ts) +ℤ k) <ℤ pos (open_sum s ts)) → (x : Bool) → (t.0 == v) ≡ x → cond x (forced_by k t.1) (forced_at k ts v) ≡ Some b → (pos (weight a (t ∷ ts)) +ℤ k) <ℤ pos (open_sum s (t ∷ ts))
    by-cases ih true e i =
        let w : t.0 ≡ v = eqb-true t.0 v e in
        let p = forced_term k t.1 b i in
        let z : term_weight (a t.0) t.1 ≡ 0 = unwanted_weight t.1 (a t.0) (ap a w ∙ g ∙ ap not (sym p.1)) in
        let n : s t.0 ≡ None = ap s w ∙ unset in
        let o : cond (open_at (s t.0) t.1) (unsigned_abs t.1) 0 ≡ unsigned_abs t.1 = ap (λ (q : Option Bool). cond (open_at q t.1) (unsigned_abs t.1) 0) n in
        let m = weight_below s a ts h in
        let q : k <ℤ pos (unsigned_abs t.1) = p.0 in
        omega (arith, ints)
    by-cases ih false e i =
        let j = ih i g in
        let m = weight_of_term (s t.0) (a t.0) t.1 (h.same t.0) in
        omega (arith, ints)

-- What a form that holds forces agrees.
pub after_agrees : (s : Setting) (a : ℕ → Bool) (f : Form) → Agrees s a → Holds f a → Agrees (after s f) a
after_agrees s a f h holds = record { same = λ v b e. by-setting v b (s v) refl e }
  where
    by-value : (v : ℕ) (b : Bool) → s v ≡ None → forced_at (slack s f) f.terms v ≡ Some b → (a v ≡ b) ⊎ (a v ≡ not b) → a v ≡ b
    by-value v b unset e (inl g) = g
    by-value v b unset e (inr g) =
        let x = forced_gap s a (slack s f) f.terms v b h unset e g in
        let d = degree_below a f holds in
        absurd (omega (arith, ints))

    either : (x b : Bool) → (x ≡ b) ⊎ (x ≡ not b)
    either true true = inl refl
    either false false = inl refl
    either true false = inr refl
    either false true = inr refl

    by-setting : (v : ℕ) (b : Bool) (o : Option Bool) → s v ≡ o → or_else o (forced_at (slack s f) f.terms v) ≡ Some b → a v ≡ b
    by-setting v b None unset e = by-value v b unset e (either (a v) b)
    by-setting v b (Some d) is e = h.same v b (is ∙ e)

-- A form that holds is in no conflict.
pub no_conflict : (s : Setting) (a : ℕ → Bool) (f : Form) → Agrees s a → Holds f a → conflict s f ≡ true → ⊥
no_conflict s a f h holds e =
    let w = weight_below s a f.terms h in
    let d = degree_below a f holds in
    let k : slack s f <ℤ pos 0 = grind (arith, ints) in
    omega (arith, ints)

-- Forms that all hold refute no setting that agrees.
pub not_refuted : (s : Setting) (a : ℕ → Bool) (fs : List Form) → Agrees s a → Satisfies fs a → refutes s fs ≡ true → ⊥
not_refuted s a [] h sat e = cc
not_refuted s a (f ∷ fs) h sat e = by-cases (λ q. not_refuted (after s f) a fs (after_agrees s a f h sat.0) sat.1 q) (or_cases (conflict s f) (refutes (after s f) fs) e)
  where
    by-cases : (refutes (after s f) fs ≡ true → ⊥) → (conflict s f ≡ true) ⊎ (refutes (after s f) fs ≡ true) → ⊥
    by-cases ih (inl c) = no_conflict s a f h sat.0 c
    by-cases ih (inr r) = ih r

false_literal : (n x : Bool) → cond n (not x) x ≡ false → x ≡ n
false_literal true true e = refl
false_literal true false e = absurd cc
false_literal false true e = absurd cc
false_literal false false e = refl

-- Where no literal of the clause is true, the negations agree with the assignment.
pub negations_agree : (ls : List Literal) (a : ℕ → Bool) → clause_holds a ls ≡ false → Agrees (negations ls) a
negations_agree ls a e = record { same = λ v b h. at ls v b e h }
  where
    literal_false : (l : Literal) (v : ℕ) (b : Bool) → is_true_at a l ≡ false → l.variable ≡ v → l.negated ≡ b → a v ≡ b
    literal_false l v b f g h = ap a (sym g) ∙ false_literal l.negated (a l.variable) f ∙ h

    first : (l : Literal) (v : ℕ) (b : Bool) (o : Option Bool) → (o ≡ Some b → a v ≡ b) → is_true_at a l ≡ false → (x : Bool) → (l.variable == v) ≡ x → cond x (Some l.negated) o ≡ Some b → a v ≡ b
    first l v b o rest f true g h = literal_false l v b f (eqb-true l.variable v g) (some_same l.negated b h)
    first l v b o rest f false g h = rest h

    at : (ks : List Literal) (v : ℕ) (b : Bool) → clause_holds a ks ≡ false → negations ks v ≡ Some b → a v ≡ b
    at [] v b f h = absurd cc
    at (l ∷ ks) v b f h =
        let p = or_parts (is_true_at a l) (clause_holds a ks) f in
        first l v b (negations ks v) (at ks v b p.1) p.0 (l.variable == v) refl h

-- A clause whose negations are refuted along forms that hold has a true literal.
pub refuted_clause : (ls : List Literal) (fs : List Form) → refutes (negations ls) fs ≡ true → (a : ℕ → Bool) → Satisfies fs a → clause_holds a ls ≡ true
refuted_clause ls fs e a sat = by-cases (cases_Bool (clause_holds a ls))
  where
    by-cases : (clause_holds a ls ≡ true) ⊎ (clause_holds a ls ≡ false) → clause_holds a ls ≡ true
    by-cases (inl h) = h
    by-cases (inr h) = absurd (not_refuted (negations ls) a fs (negations_agree ls a h) sat e)

-- How many of the literals are true.
abbrev pub true_count : (ℕ → Bool) → List Literal → ℕ
true_count a [] = 0
true_count a (l ∷ ls) = cond (is_true_at a l) 1 0 + true_count a ls

literal_value : (n x : Bool) → cond x (cond n (neg_ℤ (pos 1)) (pos 1)) (pos 0) +ℤ pos (cond n 1 0) ≡ pos (cond (cond n (not x) x) 1 0)
literal_value true true = omega (arith, ints)
literal_value true false = omega (arith, ints)
literal_value false true = omega (arith, ints)
literal_value false false = omega (arith, ints)

-- The value of a clause's terms, the negated literals counted up, is how many literals are true.
pub value-clause : (a : ℕ → Bool) (ls : List Literal) → value a (map literal_term ls) +ℤ pos (negated_count ls) ≡ pos (true_count a ls)
value-clause a [] = refl
value-clause a (l ∷ ls) =
    let e = literal_value l.negated (a l.variable) in
    let k = value-clause a ls in
    omega (arith, ints)

some_true : (a : ℕ → Bool) (ls : List Literal) → clause_holds a ls ≡ true → 0 < true_count a ls
some_true a [] e = absurd cc
some_true a (l ∷ ls) e = by-cases (some_true a ls) (or_cases (is_true_at a l) (clause_holds a ls) e)
  where
    by-cases : (clause_holds a ls ≡ true → 0 < true_count a ls) → (is_true_at a l ≡ true) ⊎ (clause_holds a ls ≡ true) → 0 < true_count a (l ∷ ls)
    by-cases ih (inl t) = let P : ℕ → ℕ → Type 0 = λ x y. x ≡ y in let g : P (cond (is_true_at a l) 1 0) 1 = ap (λ (b : Bool). cond b 1 0) t in omega arith
    by-cases ih (inr h) = let k = ih h in omega arith

-- A clause with a true literal holds as a form.
pub clause_form_holds : (ls : List Literal) (a : ℕ → Bool) → clause_holds a ls ≡ true → Holds (clause_form ls) a
clause_form_holds ls a e =
    let s = value-sorted a (map literal_term ls) in
    let c = value-clause a ls in
    let k = some_true a ls e in
    record { reached = omega (arith, ints) }
