-- Walks from one number that passes a test to the next: a stretch of numbers that fail it adds no operation.
use Rattle.std.proofs.Common.{◌≡◌, ℕ, zero, suc, ◌+◌, ◌<◌, ◌≤◌, Bool, true, false, not, List, [], ◌∷◌, ◌++◌, sym, ap, ◌∙◌, arith, inl, inr, ◌⊎◌}
use Rattle.std.proofs.lemmas.Bool.{cases_eq, true≢false}
use Rattle.std.proofs.lemmas.List.{append-nil, append_assoc}
use Rattle.log_theory.specs.declared.step.Op.{Op}
use Rattle.log_theory.specs.declared.step.Op.TheVariants.{Add}
use Rattle.encoding_theory.specs.Variables.{when}
use Rattle.pair_line_theory.specs.Operations.{adds_where}
use Rattle.pair_lines.specs.Choices.{IsNext}

-- Numbers that do not pass add none.
skipped : (test : ℕ → Bool) (put : ℕ → Op) (from to : ℕ) → from ≤ to → ((v : ℕ) → from ≤ v → v < to → test v ≡ false) → adds_where test put to ≡ adds_where test put from
skipped test put from zero le none = ap (adds_where test put) (let e : 0 ≡ from = omega (arith, le) in e)
skipped test put from (suc to) le none = by (λ low. skipped test put from to low (λ v l h. none v l (omega (arith, h)))) (cases_eq from (suc to))
  where
    by : (from ≤ to → adds_where test put to ≡ adds_where test put from) → (from ≡ suc to) ⊎ (from ≡ suc to → ⊥) → adds_where test put (suc to) ≡ adds_where test put from
    by later (inl same) = ap (adds_where test put) (sym same)
    by later (inr other) =
        let low : from ≤ to = omega (arith, le, other) in
        ap (λ (b : Bool). adds_where test put to ++ when b (put to ∷ Add ∷ [])) (none to low (omega arith)) ∙ append-nil (adds_where test put to) ∙ later low

-- Before the first that passes nothing is added.
pub adds_none : (test : ℕ → Bool) (put : ℕ → Op) (n next : ℕ) (old : List Op) → IsNext test 0 n next → old ≡ old ++ adds_where test put next
adds_none test put n next old is =
    sym (ap (λ (ops : List Op). old ++ ops) (skipped test put 0 next is.low is.none) ∙ append-nil old)

-- One that passes is added, and none from there to the next.
pub adds_next : (test : ℕ → Bool) (put : ℕ → Op) (n v next : ℕ) (first old new : List Op) → test v ≡ true → IsNext test (v + 1) n next → old ≡ first ++ adds_where test put v → new ≡ old ++ put v ∷ Add ∷ []
    → new ≡ first ++ adds_where test put next
adds_next test put n v next first old new passes is before pushed =
    let e : v + 1 ≡ suc v = omega arith in
    pushed ∙ ap (λ (ops : List Op). ops ++ put v ∷ Add ∷ []) before
    ∙ ap (λ (b : Bool). (first ++ adds_where test put v) ++ when b (put v ∷ Add ∷ [])) (sym passes)
    ∙ append_assoc first (adds_where test put v) (when (test v) (put v ∷ Add ∷ []))
    ∙ ap (λ (n : ℕ). first ++ adds_where test put n) (sym e)
    ∙ ap (λ (ops : List Op). first ++ ops) (sym (skipped test put (v + 1) next is.low is.none))

-- Behind the last all are added.
pub adds_all : (test : ℕ → Bool) (put : ℕ → Op) (n v : ℕ) (first old : List Op) → v ≤ n → n ≤ v → old ≡ first ++ adds_where test put v → old ≡ first ++ adds_where test put n
adds_all test put n v first old high low before = before ∙ ap (λ (k : ℕ). first ++ adds_where test put k) (let e : v ≡ n = omega (arith, high, low) in e)

-- Before the first that passes none passes.
pub none_before : (test : ℕ → Bool) (n next v : ℕ) → IsNext test 0 n next → v < next → test v ≡ true → ⊥
none_before test n next v is low passes = true≢false (sym passes ∙ is.none v (omega arith) low)

-- Where those that fail are added, one before the next that passes is.
pub adds_other : (test : ℕ → Bool) (put : ℕ → Op) (n v next : ℕ) (first old new : List Op) → IsNext test v n next → v < next → old ≡ first ++ adds_where (λ i. not (test i)) put v → new ≡ old ++ put v ∷ Add ∷ []
    → new ≡ first ++ adds_where (λ i. not (test i)) put (v + 1)
adds_other test put n v next first old new is before =
    adds_next (λ i. not (test i)) put (v + 1) v (v + 1) first old new (ap not (is.none v (omega arith) before)) (record {
      low = omega arith;
      high = omega arith;
      none = λ u low high. absurd (let no : ⊥ = omega (arith, low, high) in no);
      passes = λ past. absurd (let no : ⊥ = omega (arith, past) in no);
    })

-- One that passes is not.
pub adds_no_other : (test : ℕ → Bool) (put : ℕ → Op) (v : ℕ) (first old : List Op) → test v ≡ true → old ≡ first ++ adds_where (λ i. not (test i)) put v → old ≡ first ++ adds_where (λ i. not (test i)) put (v + 1)
adds_no_other test put v first old passes before =
    before ∙ ap (λ (ops : List Op). first ++ ops) (sym (skipped (λ i. not (test i)) put v (v + 1) (omega arith)
    (λ u low high. ap (λ k. not (test k)) (let e : u ≡ v = omega (arith, low, high) in e) ∙ ap not passes)))

-- Behind one that fails the next that passes is the same.
pub next_later : (test : ℕ → Bool) (n v next : ℕ) → IsNext test v n next → v < next → IsNext test (v + 1) n next
next_later test n v next is before = record {
  low = omega (arith, before);
  high = is.high;
  none = λ u low high. is.none u (omega (arith, low)) high;
  passes = is.passes;
}
