-- A line is read alike where its numbers are capped.
use Rattle.std.proofs.Common.{◌≡◌, ℕ, zero, suc, ◌<◌, ◌^◌, ◌⊎◌, inl, inr, Bool, true, false, nat_lt, nat_le, ◌&&◌, List, [], ◌∷◌, map, Result, Ok, Err, ℤ, pos, negsuc, neg_ℤ, unsigned_abs, refl, sym, ap, ◌∙◌, arith}
use Rattle.std.proofs.lemmas.Bool.{leb-true, leb-false, lt-leb}
use Rattle.log_theory.specs.declared.opb.OpbCause.{OpbCause}
use Rattle.log_theory.specs.declared.opb.OpbCause.TheVariants.{NoSuchVariable, Form as Malformed}
use Rattle.log_theory.specs.Steps.{◌>>=◌, unless}
use Rattle.log_theory.specs.OpbReading.{OpbWord, Number, Ended, Variable, Relation, Equals, Semicolon, Other, Place, First, Later, Due, within, misplaced, closing_words, bound_words, constraint_words}
use Rattle.opb_text.specs.Kinds.{capped, capped_number, capped_word}
use Rattle.opb_text.specs.Parts.{Sum}
use Rattle.opb_text.proofs.LineKinds.{within-wide}

-- A size stays as it is, or both are too wide.
by-size : (n : ℕ) → (capped n ≡ n) ⊎ ((2 ^ 125 < n) × (2 ^ 125 < capped n))
by-size n = by_test (nat_le n (2 ^ 125)) refl
  where
    by_test : (b : Bool) → nat_le n (2 ^ 125) ≡ b → (capped n ≡ n) ⊎ ((2 ^ 125 < n) × (2 ^ 125 < capped n))
    by_test true e = inl (let h = leb-true n (2 ^ 125) e in omega arith)
    by_test false e = inr (let h = leb-false n (2 ^ 125) e in (h, omega arith))

abs-neg : (n : ℕ) → unsigned_abs (neg_ℤ (pos n)) ≡ n
abs-neg zero = refl
abs-neg (suc n) = refl

-- A number stays as it is, or both are too wide.
abbrev IsCapped : ℤ → Type 0
IsCapped c = (capped_number c ≡ c) ⊎ ((2 ^ 125 < unsigned_abs c) × (2 ^ 125 < unsigned_abs (capped_number c)))

by-number : (c : ℤ) → IsCapped c
by-number (pos n) = by_size (by-size n)
  where
    by_size : (capped n ≡ n) ⊎ ((2 ^ 125 < n) × (2 ^ 125 < capped n)) → IsCapped (pos n)
    by_size (inl e) = inl (ap pos e)
    by_size (inr h) = inr h
by-number (negsuc n) = by_size (by-size (suc n))
  where
    by_size : (capped (suc n) ≡ suc n) ⊎ ((2 ^ 125 < suc n) × (2 ^ 125 < capped (suc n))) → IsCapped (negsuc n)
    by_size (inl e) = inl (ap (λ (k : ℕ). neg_ℤ (pos k)) e)
    by_size (inr h) = inr (h.0, rw (abs-neg (capped (suc n))) h.1)

-- What begins with a number's test ends alike for both.
number-then : (f : ℤ → Result Sum OpbCause) (c : ℤ) → (within (capped_number c) >>= λ _. f (capped_number c)) ≡ (within c >>= λ _. f c)
number-then f c = by_number (by-number c)
  where
    by_number : IsCapped c → (within (capped_number c) >>= λ _. f (capped_number c)) ≡ (within c >>= λ _. f c)
    by_number (inl e) = ap (λ (d : ℤ). let r : Result Sum OpbCause = within d >>= λ _. f d in r) e
    by_number (inr h) = rw (within-wide c h.0, within-wide (capped_number c) h.1) refl

-- What begins with a variable's test ends alike for both.
variable-then : (n : ℕ) (f : ℕ → Result Sum OpbCause) (v : ℕ) → n < 2 ^ 32
    → (unless (nat_lt 0 (capped v) && nat_le (capped v) n) NoSuchVariable >>= λ _. f (capped v)) ≡ (unless (nat_lt 0 v && nat_le v n) NoSuchVariable >>= λ _. f v)
variable-then n f v small = by_size (by-size v)
  where
    out : (w : ℕ) → 2 ^ 125 < w → (unless (nat_lt 0 w && nat_le w n) NoSuchVariable >>= λ _. f w) ≡ Err NoSuchVariable
    out w h =
        let e : nat_le w n ≡ false = lt-leb w n (omega arith) in
        rw e (by_first (nat_lt 0 w))
      where
        by_first : (b : Bool) → (unless (b && false) NoSuchVariable >>= λ _. f w) ≡ Err NoSuchVariable
        by_first true = refl
        by_first false = refl

    by_size : (capped v ≡ v) ⊎ ((2 ^ 125 < v) × (2 ^ 125 < capped v))
        → (unless (nat_lt 0 (capped v) && nat_le (capped v) n) NoSuchVariable >>= λ _. f (capped v)) ≡ (unless (nat_lt 0 v && nat_le v n) NoSuchVariable >>= λ _. f v)
    by_size (inl e) = ap (λ (w : ℕ). let r : Result Sum OpbCause = unless (nat_lt 0 w && nat_le w n) NoSuchVariable >>= λ _. f w in r) e
    by_size (inr h) = out (capped v) h.1 ∙ sym (out v h.0)

misplaced-capped : (n : ℕ) (w : OpbWord) → n < 2 ^ 32 → misplaced n (capped_word w) ≡ misplaced n w
misplaced-capped n (Number c) small = number-then (λ _. Err Malformed) c
misplaced-capped n (Ended c) small = number-then (λ _. Err Malformed) c
misplaced-capped n (Variable v) small = variable-then n (λ _. Err Malformed) v small
misplaced-capped n Relation small = refl
misplaced-capped n Equals small = refl
misplaced-capped n Semicolon small = refl
misplaced-capped n Other small = refl

closing-capped : (n : ℕ) (b : ℤ) (ws : List OpbWord) → n < 2 ^ 32 → closing_words n b (map capped_word ws) ≡ closing_words n b ws
closing-capped n b [] small = refl
closing-capped n b (Semicolon ∷ []) small = refl
closing-capped n b (Semicolon ∷ w ∷ ws) small = misplaced-capped n w small
closing-capped n b (Number c ∷ ws) small = misplaced-capped n (Number c) small
closing-capped n b (Ended c ∷ ws) small = misplaced-capped n (Ended c) small
closing-capped n b (Variable v ∷ ws) small = misplaced-capped n (Variable v) small
closing-capped n b (Relation ∷ ws) small = refl
closing-capped n b (Equals ∷ ws) small = refl
closing-capped n b (Other ∷ ws) small = refl

bound-capped : (n : ℕ) (ws : List OpbWord) → n < 2 ^ 32 → bound_words n (map capped_word ws) ≡ bound_words n ws
bound-capped n [] small = refl
bound-capped n (Number c ∷ ws) small =
    ap (λ (r : Result Sum OpbCause). let q : Result Sum OpbCause = within (capped_number c) >>= λ _. r in q) (closing-capped n (capped_number c) ws small)
    ∙ number-then (λ b. closing_words n b ws) c
bound-capped n (Ended c ∷ []) small = number-then (λ b. Ok ([], b)) c
bound-capped n (Ended c ∷ w ∷ ws) small =
    ap (λ (r : Result Sum OpbCause). let q : Result Sum OpbCause = within (capped_number c) >>= λ _. r in q) (misplaced-capped n w small)
    ∙ number-then (λ _. misplaced n w) c
bound-capped n (Variable v ∷ ws) small = misplaced-capped n (Variable v) small
bound-capped n (Relation ∷ ws) small = refl
bound-capped n (Equals ∷ ws) small = refl
bound-capped n (Semicolon ∷ ws) small = refl
bound-capped n (Other ∷ ws) small = refl

-- The words of a constraint are read alike where their numbers are capped.
pub constraint-capped : (n : ℕ) (place : Place) (ws : List OpbWord) → n < 2 ^ 32 → constraint_words n place (map capped_word ws) ≡ constraint_words n place ws
constraint-capped n place [] small = refl
constraint-capped n (Due c) (Variable v ∷ ws) small =
    ap (λ (r : Result Sum OpbCause). let q : Result Sum OpbCause = unless (nat_lt 0 (capped v) && nat_le (capped v) n) NoSuchVariable >>= λ _. r >>= λ s. Ok ((capped v, c) ∷ s.0, s.1) in q) (constraint-capped n Later ws small)
    ∙ variable-then n (λ w. constraint_words n Later ws >>= λ s. Ok ((w, c) ∷ s.0, s.1)) v small
constraint-capped n (Due c) (Number d ∷ ws) small = misplaced-capped n (Number d) small
constraint-capped n (Due c) (Ended d ∷ ws) small = misplaced-capped n (Ended d) small
constraint-capped n (Due c) (Relation ∷ ws) small = refl
constraint-capped n (Due c) (Equals ∷ ws) small = refl
constraint-capped n (Due c) (Semicolon ∷ ws) small = refl
constraint-capped n (Due c) (Other ∷ ws) small = refl
constraint-capped n First (Number d ∷ ws) small =
    ap (λ (r : Result Sum OpbCause). let q : Result Sum OpbCause = within (capped_number d) >>= λ _. r in q) (constraint-capped n (Due (capped_number d)) ws small)
    ∙ number-then (λ b. constraint_words n (Due b) ws) d
constraint-capped n First (Ended d ∷ ws) small = misplaced-capped n (Ended d) small
constraint-capped n First (Variable v ∷ ws) small = misplaced-capped n (Variable v) small
constraint-capped n First (Relation ∷ ws) small = bound-capped n ws small
constraint-capped n First (Equals ∷ ws) small = refl
constraint-capped n First (Semicolon ∷ ws) small = refl
constraint-capped n First (Other ∷ ws) small = refl
constraint-capped n Later (Number d ∷ ws) small =
    ap (λ (r : Result Sum OpbCause). let q : Result Sum OpbCause = within (capped_number d) >>= λ _. r in q) (constraint-capped n (Due (capped_number d)) ws small)
    ∙ number-then (λ b. constraint_words n (Due b) ws) d
constraint-capped n Later (Ended d ∷ ws) small = misplaced-capped n (Ended d) small
constraint-capped n Later (Variable v ∷ ws) small = refl
constraint-capped n Later (Relation ∷ ws) small = bound-capped n ws small
constraint-capped n Later (Equals ∷ ws) small = refl
constraint-capped n Later (Semicolon ∷ ws) small = refl
constraint-capped n Later (Other ∷ ws) small = refl
