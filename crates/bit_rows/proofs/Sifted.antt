-- A row that is walked member by member, and keeps of them those that have a property.

use Rattle.std.proofs.Common.{◌≡◌, ℕ, ◌+◌, ◌*◌, ◌<◌, ◌≤◌, Bool, true, false, not, ◌==◌, ◌&&◌, List, length, refl, sym, ap, ◌∙◌, subst, arith, inl, inr, ◌⊎◌}
use Rattle.std.proofs.lemmas.Bool.{cases_eq, cases_lt, eq-eqb, ne_eqb}
use Rattle.bit_rows.specs.BitRows.{has}
use Rattle.bit_rows.proofs.Counting.{has_within}

-- the row has lost members of the old one without the property alone, and below n all of these
pub record SiftedBelow (P : ℕ → Type 0) (old row : List ℕ) (n : ℕ) : Type 0 where
  pub less : (v : ℕ) → has row v ≡ true → has old v ≡ true
  pub right : (v : ℕ) → v < n → has row v ≡ true → P v
  pub complete : (v : ℕ) → has old v ≡ true → P v → has row v ≡ true

no_truth : {A : Type 0} (b : Bool) → b ≡ true → b ≡ false → A
no_truth b x y = absurd (cc)

first_of : (a b : Bool) → (a && b) ≡ true → a ≡ true
first_of true b h = refl
first_of false b h = cc

-- nothing is lost, and no member is below the first
pub sifted_none : (P : ℕ → Type 0) (row : List ℕ) (next : ℕ) → ((v : ℕ) → v < next → has row v ≡ false) → SiftedBelow P row row next
sifted_none P row next none = record {
  less = λ v h. h;
  right = λ v v_in h. no_truth (has row v) h (none v v_in);
  complete = λ v h _. h;
}

-- the next member has the property, and stays
pub sifted_kept : (P : ℕ → Type 0) (old now row : List ℕ) (n next : ℕ) → SiftedBelow P old now n → row ≡ now → P n
    → ((v : ℕ) → n + 1 ≤ v → v < next → has row v ≡ false) → SiftedBelow P old row next
sifted_kept P old now row n next sifted is here none = record {
  less = λ v h. sifted.less v (ap (λ (r : List ℕ). has r v) (sym is) ∙ h);
  right = λ v v_in h. by v v_in h (cases_eq n v) (cases_lt v n);
  complete = λ v h p. ap (λ (r : List ℕ). has r v) is ∙ sifted.complete v h p;
}
  where
    by : (v : ℕ) → v < next → has row v ≡ true → (n ≡ v) ⊎ (n ≡ v → ⊥) → (v < n) ⊎ (n ≤ v) → P v
    by v v_in h (inl e) o = subst P e here
    by v v_in h (inr ne) (inl before) = sifted.right v before (ap (λ (r : List ℕ). has r v) (sym is) ∙ h)
    by v v_in h (inr ne) (inr after) = no_truth (has row v) h (none v (omega arith) v_in)

-- the next member has it not, and is taken out
pub sifted_out : (P : ℕ → Type 0) (old now new row : List ℕ) (n next : ℕ) → SiftedBelow P old now n → row ≡ new → (P n → ⊥)
    → ((v : ℕ) → has new v ≡ (has now v && not (n == v))) → ((v : ℕ) → n + 1 ≤ v → v < next → has row v ≡ false) → SiftedBelow P old row next
sifted_out P old now new row n next sifted is gone cut none = record {
  less = λ v h. sifted.less v (before v h);
  right = λ v v_in h. by v v_in h (cases_eq n v) (cases_lt v n);
  complete = λ v h p. read v ∙ kept v h p (cases_eq n v);
}
  where
    read : (v : ℕ) → has row v ≡ (has now v && not (n == v))
    read v = ap (λ (r : List ℕ). has r v) is ∙ cut v

    before : (v : ℕ) → has row v ≡ true → has now v ≡ true
    before v h = first_of (has now v) (not (n == v)) (sym (read v) ∙ h)

    off : (b : Bool) → (b && not true) ≡ false
    off true = refl
    off false = refl

    on : (b : Bool) → (b && not false) ≡ b
    on true = refl
    on false = refl

    by : (v : ℕ) → v < next → has row v ≡ true → (n ≡ v) ⊎ (n ≡ v → ⊥) → (v < n) ⊎ (n ≤ v) → P v
    by v v_in h (inl e) o =
        no_truth (has row v) h (read v ∙ ap (λ (t : Bool). has now v && not t) (eq-eqb n v e) ∙ off (has now v))
    by v v_in h (inr ne) (inl less) = sifted.right v less (before v h)
    by v v_in h (inr ne) (inr after) = no_truth (has row v) h (none v (omega arith) v_in)

    kept : (v : ℕ) → has old v ≡ true → P v → (n ≡ v) ⊎ (n ≡ v → ⊥) → (has now v && not (n == v)) ≡ true
    kept v h p (inl e) = absurd (gone (subst P (sym e) p))
    kept v h p (inr ne) =
        ap (λ (t : Bool). has now v && not t) (ne_eqb n v ne) ∙ on (has now v) ∙ sifted.complete v h p

-- after the last member all that is left has it
pub sifted_all : (P : ℕ → Type 0) (old row : List ℕ) (n : ℕ) → SiftedBelow P old row n → 64 * length row ≤ n
    → (v : ℕ) → has row v ≡ true → (has old v ≡ true) × P v
sifted_all P old row n sifted all v h = let within = has_within row v h in (sifted.less v h, sifted.right v (omega arith) h)
