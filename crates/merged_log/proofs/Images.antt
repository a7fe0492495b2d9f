-- The variables of an embedding's images are a solution of the encoding.
use Rattle.std.proofs.Common.{◌⊎◌, inl, inr, ◌≡◌, ℕ, zero, suc, ◌+◌, ◌*◌, ◌/◌, ◌%◌, ◌^◌, ◌<◌, ◌≤◌, ◌==◌, ◌&&◌, ◌||◌, nat_le, not, cond, Bool, true, false, List, [], ◌∷◌, ◌++◌, length, take, get_or, ℤ, pos, ◌+ℤ◌, ◌≤ℤ◌, refl, sym, ap, subst, ◌∙◌, arith}
use Rattle.std.proofs.Math.Nat.{mul-le-mul_right, suc-mul}
use Rattle.std.proofs.lemmas.Nat.{div-add-mod'}
use Rattle.std.proofs.lemmas.Bool.{eq-eqb, ne_eqb, lt-ltb, cases_eq, cases_lt}
use Rattle.std.proofs.lemmas.Grind.{common_steps}
use Rattle.std.proofs.lemmas.List.{get_or_past}
use Rattle.graph_theory.specs.Graph.{size}
use Rattle.graph_theory.specs.Embedding.{Problem, Embeds}
use Rattle.proof_theory.specs.Forms.{Form, Satisfies, value, assignment}
use Rattle.log_theory.specs.Lookups.{is_among, are_distinct}
use Rattle.log_theory.specs.Verdicts.{in_range}
use Rattle.log_theory.specs.LogText.{AreOnes}
use Rattle.encoding_theory.specs.Variables.{variable, variables, indicator}
use Rattle.encoding_theory.specs.Encoding.{encoding}
use Rattle.encoding_theory.specs.Solutions.{SolutionLaws}
use Rattle.encoding_theory.proofs.Indicators.{in_rows}
use Rattle.merged_log.specs.Answers.{ones_from, embedding_ones, Solves}

-- The images are target vertices.
abbrev AreTargets : Problem → List ℕ → Type 0
AreTargets q ts = (i : ℕ) → i < length ts → get_or ts i 0 < size q.target

targets_tail : (q : Problem) (t : ℕ) (ts : List ℕ) → AreTargets q (t ∷ ts) → AreTargets q ts
targets_tail q t ts low i h = low (suc i) (omega (arith, h))

next_row : (p n : ℕ) → (p + 1) * n ≡ p * n + n
next_row p n = let e : p + 1 ≡ suc p = omega arith in ap (λ (k : ℕ). k * n) e ∙ suc-mul p n

-- A variable below those of some vertices is none of theirs.
below_all : (q : Problem) (p v : ℕ) (ts : List ℕ) → v ≤ p * size q.target → is_among v (ones_from q p ts) ≡ false
below_all q p v [] h = refl
below_all q p v (t ∷ ts) h =
    ap (λ (b : Bool). b || is_among v (ones_from q (p + 1) ts)) (ne_eqb (variable q p t) v (λ (e : variable q p t ≡ v). omega (arith, e, h)))
    ∙ below_all q (p + 1) v ts (omega (arith, h, next_row p (size q.target)))

-- Each vertex from p on has its row of variables below a number.
abbrev RowsFit : Problem → ℕ → List ℕ → ℕ → Type 0
RowsFit q p ts n = (i : ℕ) → i < length ts → (p + i) * size q.target + size q.target ≤ n

rows_tail : (q : Problem) (p n t : ℕ) (ts : List ℕ) → RowsFit q p (t ∷ ts) n → RowsFit q (p + 1) ts n
rows_tail q p n t ts fit i h =
    let f = fit (suc i) (omega (arith, h)) in
    let e : p + suc i ≡ p + 1 + i = omega arith in
    subst (λ (k : ℕ). k * size q.target + size q.target ≤ n) e f

first_fits : (q : Problem) (p n t : ℕ) (ts : List ℕ) → AreTargets q (t ∷ ts) → RowsFit q p (t ∷ ts) n → variable q p t ≤ n
first_fits q p n t ts low fit =
    let f = fit 0 (omega arith) in
    let l : t < size q.target = low 0 (omega arith) in
    let e : (p + 0) * size q.target ≡ p * size q.target = (let z : p + 0 ≡ p = omega arith in ap (λ (k : ℕ). k * size q.target) z) in
    omega (arith, f, l, e)

above_all : (q : Problem) (p v n : ℕ) (ts : List ℕ) → AreTargets q ts → RowsFit q p ts n → n < v → is_among v (ones_from q p ts) ≡ false
above_all q p v n [] low fit h = refl
above_all q p v n (t ∷ ts) low fit h =
    let f = first_fits q p n t ts low fit in
    ap (λ (b : Bool). b || is_among v (ones_from q (p + 1) ts)) (ne_eqb (variable q p t) v (λ (e : variable q p t ≡ v). omega (arith, e, h, f)))
    ∙ above_all q (p + 1) v n ts (targets_tail q t ts low) (rows_tail q p n t ts fit) h

ranges : (q : Problem) (p n : ℕ) (ts : List ℕ) → AreTargets q ts → RowsFit q p ts n → in_range n (ones_from q p ts) ≡ true
ranges q p n [] low fit = refl
ranges q p n (t ∷ ts) low fit =
    let f = first_fits q p n t ts low fit in
    ap (λ (b : Bool). b && nat_le (variable q p t) n && in_range n (ones_from q (p + 1) ts)) (lt-ltb 0 (variable q p t) (omega arith))
    ∙ ap (λ (b : Bool). b && in_range n (ones_from q (p + 1) ts)) (le_test (variable q p t) n f)
    ∙ ranges q (p + 1) n ts (targets_tail q t ts low) (rows_tail q p n t ts fit)
  where
    le_test : (a b : ℕ) → a ≤ b → nat_le a b ≡ true
    le_test a b h = grind (arith, common_steps)

pub small : (q : Problem) (p n : ℕ) (ts : List ℕ) → n < 2 ^ 32 → AreTargets q ts → RowsFit q p ts n → AreOnes (ones_from q p ts)
small q p n [] h low fit = tt
small q p n (t ∷ ts) h low fit = (let f = first_fits q p n t ts low fit in omega (arith, f, h), small q (p + 1) n ts h (targets_tail q t ts low) (rows_tail q p n t ts fit))

apart : (q : Problem) (p : ℕ) (ts : List ℕ) → AreTargets q ts → are_distinct (ones_from q p ts) ≡ true
apart q p [] low = refl
apart q p (t ∷ ts) low =
    let l : t < size q.target = low 0 (omega arith) in
    ap (λ (b : Bool). not b && are_distinct (ones_from q (p + 1) ts)) (below_all q (p + 1) (variable q p t) ts (omega (arith, l, next_row p (size q.target))))
    ∙ apart q (p + 1) ts (targets_tail q t ts low)

same_test : (a b t u : ℕ) → a ≡ b + t → (x : ℕ) → x ≡ b + u → (a == x) ≡ (t == u)
same_test a b t u e x f = by (cases_eq t u)
  where
    by : (t ≡ u) ⊎ (t ≡ u → ⊥) → (a == x) ≡ (t == u)
    by (inl h) = eq-eqb a x (omega (arith, e, f, h)) ∙ sym (eq-eqb t u h)
    by (inr h) = ne_eqb a x (λ (g : a ≡ x). h (omega (arith, e, f, g))) ∙ sym (ne_eqb t u h)

or_false : (b : Bool) → (b || false) ≡ b
or_false true = refl
or_false false = refl

-- A vertex's variable is there exactly where it goes there.
among : (q : Problem) (p i u : ℕ) (ts : List ℕ) → AreTargets q ts → i < length ts → u < size q.target → is_among (variable q (p + i) u) (ones_from q p ts) ≡ (get_or ts i 0 == u)
among q p i u [] low h l = absurd (omega (arith, h))
among q p zero u (t ∷ ts) low h l =
    let z : variable q (p + 0) u ≡ variable q p u = (let e : p + 0 ≡ p = omega arith in ap (λ (k : ℕ). variable q k u) e) in
    ap (λ (v : ℕ). is_among v (ones_from q p (t ∷ ts))) z
    ∙ ap (λ (b : Bool). (variable q p t == variable q p u) || b) (below_all q (p + 1) (variable q p u) ts (omega (arith, l, next_row p (size q.target))))
    ∙ or_false (variable q p t == variable q p u)
    ∙ same_test (variable q p t) (p * size q.target + 1) t u (omega arith) (variable q p u) (omega arith)
among q p (suc i) u (t ∷ ts) low h l =
    let first : t < size q.target = low 0 (omega arith) in
    let e : p + suc i ≡ p + 1 + i = omega arith in
    let wide = mul-le-mul_right {m = p + 1} {n = p + suc i} (size q.target) (omega arith) in
    let row = next_row p (size q.target) in
    ap (λ (b : Bool). b || is_among (variable q (p + suc i) u) (ones_from q (p + 1) ts)) (ne_eqb (variable q p t) (variable q (p + suc i) u) (λ (g : variable q p t ≡ variable q (p + suc i) u). omega (arith, g, wide, row, first)))
    ∙ ap (λ (k : ℕ). is_among (variable q k u) (ones_from q (p + 1) ts)) e
    ∙ among q (p + 1) i u ts (targets_tail q t ts low) (omega (arith, h)) l

module _ (laws : SolutionLaws) (q : Problem) (m : List ℕ) (embeds : Embeds q m) where
  pub targets : AreTargets q m
  targets i h = embeds.values i (omega (arith, h, embeds.size_is))

  pub rows_fit : RowsFit q 0 m (variables q)
  rows_fit i h =
      let wide = mul-le-mul_right {m = i + 1} {n = size q.pattern} (size q.target) (omega (arith, h, embeds.size_is)) in
      let row = next_row i (size q.target) in
      let e : (0 + i) * size q.target ≡ i * size q.target = (let z : 0 + i ≡ i = omega arith in ap (λ (k : ℕ). k * size q.target) z) in
      omega (arith, wide, row, e)

  -- The list and the variables say the same of each variable.
  says : (v : ℕ) → is_among v (embedding_ones q m) ≡ assignment (indicator q m) v
  says zero = below_all q 0 0 m (omega arith)
  says (suc i) =
      elim (cases_lt i (variables q)) [
        | inl h ↦ inside h
        | inr h ↦ above_all q 0 (suc i) (variables q) m targets rows_fit (omega (arith, h)) ∙ sym (get_or_past (indicator q m) i false (omega (arith, h, laws.indicators.places q m)))
      ]
    where
      inside : i < variables q → is_among (suc i) (embedding_ones q m) ≡ assignment (indicator q m) (suc i)
      inside h =
          let r = in_rows (size q.pattern) (size q.target) i h in
          let p = i / size q.target in
          let u = i % size q.target in
          let e : p * size q.target + u ≡ i = div-add-mod' i (size q.target) in
          let v : variable q p u ≡ suc i = omega (arith, e) in
          let z : variable q (0 + p) u ≡ suc i = (let f : 0 + p ≡ p = omega arith in ap (λ (k : ℕ). variable q k u) f ∙ v) in
          let in_p : p < size q.pattern = r.0 in
          ap (λ (x : ℕ). is_among x (embedding_ones q m)) (sym z)
          ∙ among q 0 p u m targets (omega (arith, in_p, embeds.size_is)) r.1
          ∙ sym (laws.indicators.ones q m p u r.0 r.1)
          ∙ ap (assignment (indicator q m)) v

  same_value : (ts : List (ℕ × ℤ)) → value (assignment (indicator q m)) ts ≡ value (λ v. is_among v (embedding_ones q m)) ts
  same_value [] = refl
  same_value (t ∷ ts) = ap (λ (b : Bool). cond b t.1 (pos 0) +ℤ value (assignment (indicator q m)) ts) (sym (says t.0)) ∙ ap (λ (z : ℤ). cond (is_among t.0 (embedding_ones q m)) t.1 (pos 0) +ℤ z) (same_value ts)

  same_holds : (fs : List Form) → Satisfies fs (assignment (indicator q m)) → Satisfies fs (λ v. is_among v (embedding_ones q m))
  same_holds [] h = tt
  same_holds (f ∷ fs) h = (record { reached = subst (λ (z : ℤ). f.bound ≤ℤ z) (same_value f.terms) h.0.reached }, same_holds fs h.1)

  pub images_solve : Solves (variables q) (encoding q) (embedding_ones q m)
  images_solve = record {
    range = ranges q 0 (variables q) m targets rows_fit;
    apart = apart q 0 m targets;
    holds = same_holds (encoding q) ((laws.solutions q (indicator q m)).1 (record { images = m; embeds = embeds; shown = refl })).satisfied;
  }

-- One image more.
pub ones_more : (q : Problem) (p : ℕ) (m : List ℕ) (i : ℕ) → i < length m → ones_from q p (take (i + 1) m) ≡ ones_from q p (take i m) ++ variable q (p + i) (get_or m i 0) ∷ []
ones_more q p [] i h = absurd (omega (arith, h))
ones_more q p (t ∷ ts) zero h = let e : p ≡ p + 0 = omega arith in ap (λ (k : ℕ). variable q k t ∷ []) e
ones_more q p (t ∷ ts) (suc i) h =
    let e : p + 1 + i ≡ p + suc i = omega arith in
    let f : suc i + 1 ≡ suc (i + 1) = omega arith in
    ap (λ (k : ℕ). ones_from q p (take k (t ∷ ts))) f
    ∙ ap (λ (vs : List ℕ). variable q p t ∷ vs) (ones_more q (p + 1) ts i (omega (arith, h)) ∙ ap (λ (k : ℕ). ones_from q (p + 1) (take i ts) ++ variable q k (get_or ts i 0) ∷ []) e)
