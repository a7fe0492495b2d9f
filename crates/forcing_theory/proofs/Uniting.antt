-- A form forces what all its solutions beside a setting agree on.
use Rattle.std.proofs.Common.{◌≡◌, ℕ, ◌+◌, ◌≤◌, ◌<◌, Bool, true, false, cond, not, ◌==◌, List, [], ◌∷◌, ℤ, pos, negsuc, ◌-ℤ◌, ◌+ℤ◌, ◌<ℤ◌, ◌≤ℤ◌, unsigned_abs, int_lt, refl, sym, ap, ◌∙◌, arith, Option, Some, None, inl, inr, ◌⊎◌}
use Rattle.std.proofs.lemmas.Int.{ints}
use Rattle.std.proofs.lemmas.Bool.{eqb-true, eqb-false, eq-eqb, ne_eqb}
use Rattle.proof_theory.specs.Forms.{Form, Holds, Rises}
use Rattle.proof_theory.specs.Slack.{Setting, open_at, open_sum, slack, conflict, wanted, forced_by, forced_at, or_else, after}
use Rattle.proof_theory.specs.Rules.{degree}
use Rattle.proof_theory.proofs.Weights.{term_weight, weight, degree_below, holds_from}
use Rattle.forcing_theory.specs.Units.{Follows, Implies, UnitLaw}

-- The value that the terms want for a variable.
abbrev wanted_at : List (ℕ × ℤ) → ℕ → Bool
wanted_at [] v = false
wanted_at (t ∷ ts) v = cond (t.0 == v) (wanted t.1) (wanted_at ts v)

-- What is set, else another value.
abbrev value_or : Option Bool → Bool → Bool
value_or None b = b
value_or (Some c) b = c

-- ---- the assignment that does best

best_term : (o : Option Bool) (c : ℤ) → term_weight (value_or o (wanted c)) c ≡ cond (open_at o c) (unsigned_abs c) 0
best_term None (pos n) = refl
best_term None (negsuc n) = refl
best_term (Some b) c = refl

-- An assignment that has each set value, and elsewhere what the terms want, weighs all that is open.
best_weight : (s : Setting) (a : ℕ → Bool) (ts : List (ℕ × ℤ)) (low : ℕ) → Rises low ts → ((v : ℕ) → low ≤ v → a v ≡ value_or (s v) (wanted_at ts v)) → weight a ts ≡ open_sum s ts
best_weight s a [] low rises best = refl
best_weight s a (t ∷ ts) low rises best =
    let from : low ≤ t.0 = rises.0 in
    let here : a t.0 ≡ value_or (s t.0) (wanted t.1) = best t.0 from ∙ ap (λ (b : Bool). value_or (s t.0) (cond b (wanted t.1) (wanted_at ts t.0))) (eq-eqb t.0 t.0 refl) in
    let head = ap (λ (b : Bool). term_weight b t.1) here ∙ best_term (s t.0) t.1 in
    let rest = best_weight s a ts (t.0 + 1) rises.2 (λ v above. best v (omega (arith, from, above)) ∙ ap (λ (b : Bool). value_or (s v) (cond b (wanted t.1) (wanted_at ts v))) (ne_eqb t.0 v (λ (e : t.0 ≡ v). omega (arith, e, above)))) in
    omega (arith, head, rest)

-- ---- one value turned

-- Terms above a variable weigh the same where the assignments differ there alone.
same_weight : (a b : ℕ → Bool) (ts : List (ℕ × ℤ)) (low : ℕ) → Rises low ts → ((v : ℕ) → low ≤ v → b v ≡ a v) → weight b ts ≡ weight a ts
same_weight a b [] low rises same = refl
same_weight a b (t ∷ ts) low rises same =
    let from : low ≤ t.0 = rises.0 in
    let head = ap (λ (x : Bool). term_weight x t.1) (same t.0 from) in
    let rest = same_weight a b ts (t.0 + 1) rises.2 (λ v above. same v (omega (arith, from, above))) in
    omega (arith, head, rest)

-- The variable has a term: what forces it, what it wants, and what turning its value costs.
record HasTerm (a b : ℕ → Bool) (ts : List (ℕ × ℤ)) (v : ℕ) : Type 0 where
  pub size_is : ℤ
  pub forced : (k : ℤ) → forced_at k ts v ≡ forced_by k size_is
  pub wants : wanted_at ts v ≡ wanted size_is
  pub costs : a v ≡ wanted size_is → weight b ts + unsigned_abs size_is ≡ weight a ts

turned_weight : (x y : Bool) (c : ℤ) → x ≡ wanted c → y ≡ not x → term_weight y c + unsigned_abs c ≡ term_weight x c
turned_weight x y (pos n) e f = rw (f, e) (omega arith)
turned_weight x y (negsuc n) e f = rw (f, e) (omega arith)

-- Where two assignments differ at a variable alone: the terms have it not, and weigh the same, or they have it.
turned : (a b : ℕ → Bool) (ts : List (ℕ × ℤ)) (low v : ℕ) → Rises low ts → ((w : ℕ) → (w ≡ v → ⊥) → b w ≡ a w) → b v ≡ not (a v) → (weight b ts ≡ weight a ts) ⊎ HasTerm a b ts v
turned a b [] low v rises same differs = inl refl
turned a b (t ∷ ts) low v rises same differs = by (turned a b ts (t.0 + 1) v rises.2 same differs) (t.0 == v) refl
  where
    by : (weight b ts ≡ weight a ts) ⊎ HasTerm a b ts v → (x : Bool) → (t.0 == v) ≡ x → (weight b (t ∷ ts) ≡ weight a (t ∷ ts)) ⊎ HasTerm a b (t ∷ ts) v
    by later true e =
        let at : t.0 ≡ v = eqb-true t.0 v e in
        let rest = same_weight a b ts (t.0 + 1) rises.2 (λ w above. same w (λ (f : w ≡ v). omega (arith, f, at, above))) in
        inr (record {
          size_is = t.1;
          forced = λ k. ap (λ (x : Bool). cond x (forced_by k t.1) (forced_at k ts v)) e;
          wants = ap (λ (x : Bool). cond x (wanted t.1) (wanted_at ts v)) e;
          costs = λ is.
              let head : term_weight (b t.0) t.1 + unsigned_abs t.1 ≡ term_weight (a t.0) t.1 = turned_weight (a t.0) (b t.0) t.1 (ap a at ∙ is) (ap b at ∙ differs ∙ ap (λ w. not (a w)) (sym at)) in
              omega (arith, head, rest);
        })
    by later false e =
        let head : term_weight (b t.0) t.1 ≡ term_weight (a t.0) t.1 = ap (λ (x : Bool). term_weight x t.1) (same t.0 (λ (f : t.0 ≡ v). eqb-false t.0 v e f)) in
        elim later [
          | inl h ↦ inl (omega (arith, head, h))
          | inr h ↦ inr (record {
            size_is = h.size_is;
            forced = λ k. ap (λ (x : Bool). cond x (forced_by k t.1) (forced_at k ts v)) e ∙ h.forced k;
            wants = ap (λ (x : Bool). cond x (wanted t.1) (wanted_at ts v)) e ∙ h.wants;
            costs = λ is. let c = h.costs is in omega (arith, head, c);
          })
        ]

-- ---- the law

-- The assignment that does best, and the same with one value turned.
abbrev best : Setting → List (ℕ × ℤ) → ℕ → Bool
best s ts v = value_or (s v) (wanted_at ts v)

abbrev turn : (ℕ → Bool) → ℕ → ℕ → Bool
turn a v w = cond (w == v) (not (a w)) (a w)

not_twice : (b : Bool) → not b ≡ b → ⊥
not_twice true e = absurd cc
not_twice false e = absurd cc

best_follows : (s : Setting) (ts : List (ℕ × ℤ)) → Follows s (best s ts)
best_follows s ts = record { same = λ v b is. ap (λ (o : Option Bool). value_or o (wanted_at ts v)) is }

module _ (s : Setting) (f : Form) (v : ℕ) (b : Bool) (implied : Implies s f v b) where
  all_open : weight (best s f.terms) f.terms ≡ open_sum s f.terms
  all_open = best_weight s (best s f.terms) f.terms 0 implied.rises (λ w above. refl)

  turned_follows : s v ≡ None → Follows s (turn (best s f.terms) v)
  turned_follows unset = record { same = λ w c is. by w c is (w == v) refl }
    where
      by : (w : ℕ) (c : Bool) → s w ≡ Some c → (x : Bool) → (w == v) ≡ x → cond x (not (best s f.terms w)) (best s f.terms w) ≡ c
      by w c is true e = let n : s w ≡ None = ap s (eqb-true w v e) ∙ unset in absurd cc
      by w c is false e = (best_follows s f.terms).same w c is

  -- Where nothing is in conflict and the variable is unset, the form forces it.
  forced : s v ≡ None → conflict s f ≡ false → after s f v ≡ Some b
  forced unset quiet =
      let room : pos 0 ≤ℤ slack s f = grind (arith, ints) in
      let open_is = all_open in
      let holds = holds_from (best s f.terms) f (omega (arith, ints)) in
      let is_b : best s f.terms v ≡ b = implied.there (best s f.terms) (best_follows s f.terms) holds in
      let other : turn (best s f.terms) v v ≡ not (best s f.terms v) = ap (λ (x : Bool). cond x (not (best s f.terms v)) (best s f.terms v)) (eq-eqb v v refl) in
      by room is_b other (turned (best s f.terms) (turn (best s f.terms) v) f.terms 0 v implied.rises (λ w ne. ap (λ (x : Bool). cond x (not (best s f.terms w)) (best s f.terms w)) (ne_eqb w v ne)) other)
    where
      fails : best s f.terms v ≡ b → turn (best s f.terms) v v ≡ not (best s f.terms v) → Holds f (turn (best s f.terms) v) → ⊥
      fails is_b other holds = not_twice b (sym (ap not is_b) ∙ sym other ∙ implied.there (turn (best s f.terms) v) (turned_follows unset) holds)

      by : pos 0 ≤ℤ slack s f → best s f.terms v ≡ b → turn (best s f.terms) v v ≡ not (best s f.terms v)
          → (weight (turn (best s f.terms) v) f.terms ≡ weight (best s f.terms) f.terms) ⊎ HasTerm (best s f.terms) (turn (best s f.terms) v) f.terms v → after s f v ≡ Some b
      by room is_b other (inl same) =
          let open_is = all_open in
          absurd (fails is_b other (holds_from (turn (best s f.terms) v) f (omega (arith, ints))))
      by room is_b other (inr h) =
          let wants : best s f.terms v ≡ wanted h.size_is = ap (λ (o : Option Bool). value_or o (wanted_at f.terms v)) unset ∙ h.wants in
          let costs = h.costs wants in
          let open_is = all_open in
          decide wants costs open_is (int_lt (slack s f) (pos (unsigned_abs h.size_is))) refl
        where
          decide : best s f.terms v ≡ wanted h.size_is → weight (turn (best s f.terms) v) f.terms + unsigned_abs h.size_is ≡ weight (best s f.terms) f.terms
              → weight (best s f.terms) f.terms ≡ open_sum s f.terms → (x : Bool) → int_lt (slack s f) (pos (unsigned_abs h.size_is)) ≡ x → after s f v ≡ Some b
          decide wants costs open_is true less =
              ap (λ (o : Option Bool). or_else o (forced_at (slack s f) f.terms v)) unset ∙ h.forced (slack s f)
              ∙ ap (λ (x : Bool). let o : Option Bool = cond x (Some (wanted h.size_is)) None in o) less
              ∙ ap (λ (x : Bool). let o : Option Bool = Some x in o) (sym wants ∙ is_b)
          decide wants costs open_is false more =
              let enough : pos (unsigned_abs h.size_is) ≤ℤ slack s f = grind (arith, ints) in
              absurd (fails is_b other (holds_from (turn (best s f.terms) v) f (omega (arith, ints))))

  -- Where the variable is set otherwise, the form is in conflict.
  set_otherwise : (c : Bool) → s v ≡ Some c → conflict s f ≡ false → c ≡ b
  set_otherwise c is quiet =
      let room : pos 0 ≤ℤ slack s f = grind (arith, ints) in
      let open_is = all_open in
      let holds = holds_from (best s f.terms) f (omega (arith, ints)) in
      sym ((best_follows s f.terms).same v c is) ∙ implied.there (best s f.terms) (best_follows s f.terms) holds

pub unit : UnitLaw
unit s f v b implied = by (conflict s f) refl (s v) refl
  where
    by : (x : Bool) → conflict s f ≡ x → (o : Option Bool) → s v ≡ o → (conflict s f ≡ true) ⊎ (after s f v ≡ Some b)
    by true e o is = inl e
    by false e None is = inr (forced s f v b implied is e)
    by false e (Some c) is =
        inr (ap (λ (o : Option Bool). or_else o (forced_at (slack s f) f.terms v)) is ∙ ap (λ (x : Bool). let o : Option Bool = Some x in o) (set_otherwise s f v b implied c is e))
