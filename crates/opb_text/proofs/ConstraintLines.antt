-- The line of a constraint, from what its parts are read as.
use Rattle.std.proofs.Common.{◌≡◌, ℕ, ◌≤◌, ◌<◌, ◌^◌, Bool, true, false, cond, ◌==◌, nat_lt, nat_le, List, [], ◌∷◌, ◌++◌, map, Result, Ok, Err, ℤ, pos, negsuc, zero, suc, ◌+ℤ◌, sym, ap, subst, ◌∙◌, IfOk, arith}
use Rattle.std.specs.Borrow.{Bor}
use Rattle.std.proofs.lemmas.List.{append-nil}
use Rattle.std.proofs.lemmas.Simd.{map-map}
use Rattle.log_theory.specs.declared.opb.OpbCause.{OpbCause}
use Rattle.log_theory.specs.declared.opb.OpbCause.TheVariants.{Wide}
use Rattle.proof_theory.specs.Forms.{Form, form_of, size, sorted, put, keep}
use Rattle.proof_theory.proofs.Sorting.{Rises-sorted}
use Rattle.pb_terms.proofs.Ruled.{size-sorted}
use Rattle.log_theory.specs.Steps.{◌>>=◌, unless}
use Rattle.log_theory.specs.OpbText.{AreVariables}
use Rattle.log_theory.specs.OpbReading.{First, word_of, opb_words, constraint_words, constraint_line}
use Rattle.opb_text.specs.declared.fault.LineFault.{LineFault}
use Rattle.opb_text.specs.declared.fault.LineFault.TheVariants.{Faulty, NoMemory}
use Rattle.opb_text.specs.Kinds.{capped_word, kinds}
use Rattle.opb_text.specs.Parts.{Sum, after_terms, BoundSays}
use Rattle.opb_text.specs.Lines.{TermsSay, form_answer, FormSays, ConstraintSays, IsWithin}
use Rattle.opb_text.proofs.CappedLines.{constraint-capped}

-- The words of a line, without caps.
line-words : (n : ℕ) (line : List ℕ) → n < 2 ^ 32 → constraint_words n First (map word_of (opb_words line)) ≡ constraint_words n First (kinds line)
line-words n line small =
    sym (constraint-capped n First (map word_of (opb_words line)) small) ∙ ap (constraint_words n First) (map-map capped_word word_of (opb_words line))

abbrev formed : Result Sum OpbCause → Result Form OpbCause
formed r = r >>= λ s. unless (nat_le (size s.0) (2 ^ 125)) Wide >>= λ _. Ok (form_of s.0 s.1)

line-formed : (n : ℕ) (line : List ℕ) (r : Result Sum OpbCause) → n < 2 ^ 32 → constraint_words n First (kinds line) ≡ r → constraint_line n (opb_words line) ≡ formed r
line-formed n line r small e = ap formed (line-words n line small ∙ e)

pub terms-stop : (n : ℕ) (line : List ℕ) (ts : List (ℕ × ℤ)) (e : LineFault) → n < 2 ^ 32 → TermsSay n line ts (Err e) → ConstraintSays n line (Err e)
terms-stop n line ts (Faulty cause) small h = line-formed n line (Err cause) small h
terms-stop n line ts NoMemory small h = tt

pub bound-stops : (n : ℕ) (line : List ℕ) (ts : List (ℕ × ℤ)) (rest : Bor (List ℕ)) (cause : OpbCause) → n < 2 ^ 32 → TermsSay n line ts (Ok rest) → BoundSays n rest.now (Err cause)
    → ConstraintSays n line (Err (Faulty cause))
bound-stops n line ts rest cause small h e = line-formed n line (Err cause) small (h ∙ ap (after_terms ts) e)

pub form-says : (n : ℕ) (line : List ℕ) (ts : List (ℕ × ℤ)) (rest : Bor (List ℕ)) (b : ℤ) (r : Result Form LineFault) → n < 2 ^ 32 → TermsSay n line ts (Ok rest) → BoundSays n rest.now (Ok b)
    → FormSays ts b r → ConstraintSays n line r
form-says n line ts rest b r small h e says = by_result r says
  where
    whole : constraint_line n (opb_words line) ≡ form_answer ts b
    whole =
        line-formed n line (Ok (ts ++ [], b)) small (h ∙ ap (after_terms ts) e)
        ∙ ap (λ (us : List (ℕ × ℤ)). form_answer us b) (append-nil ts)

    by_result : (r : Result Form LineFault) → FormSays ts b r → ConstraintSays n line r
    by_result (Ok f) k = whole ∙ k.0
    by_result (Err (Faulty cause)) k = whole ∙ k
    by_result (Err NoMemory) k = tt

AreVariables-keep : (n v : ℕ) (c : ℤ) (ts : List (ℕ × ℤ)) → 1 ≤ v → v ≤ n → AreVariables n ts → AreVariables n (keep v c ts)
AreVariables-keep n v (pos zero) ts a b h = h
AreVariables-keep n v (pos (suc c)) ts a b h = (a, b, h)
AreVariables-keep n v (negsuc c) ts a b h = (a, b, h)

AreVariables-put : (n v : ℕ) (c : ℤ) (ts : List (ℕ × ℤ)) → 1 ≤ v → v ≤ n → AreVariables n ts → AreVariables n (put v c ts)
unfolding put
AreVariables-put n v c [] a b h = AreVariables-keep n v c [] a b h
AreVariables-put n v c (t ∷ ts) a b h = by-less (AreVariables-put n v c ts a b h.2) (nat_lt v t.0)
  where
    by-same : AreVariables n (put v c ts) → (x : Bool) → AreVariables n (cond x (keep v (c +ℤ t.1) ts) (t ∷ put v c ts))
    by-same later true = AreVariables-keep n v (c +ℤ t.1) ts a b h.2
    by-same later false = (h.0, h.1, later)

    by-less : AreVariables n (put v c ts) → (x : Bool) → AreVariables n (cond x (keep v c (t ∷ ts)) (cond (v == t.0) (keep v (c +ℤ t.1) ts) (t ∷ put v c ts)))
    by-less later true = AreVariables-keep n v c (t ∷ ts) a b h
    by-less later false = by-same later (v == t.0)

AreVariables-sorted : (n : ℕ) (ts : List (ℕ × ℤ)) → AreVariables n ts → AreVariables n (sorted ts)
unfolding sorted
AreVariables-sorted n [] h = tt
AreVariables-sorted n (t ∷ ts) h = AreVariables-put n t.0 t.1 (sorted ts) h.0 h.1 (AreVariables-sorted n ts h.2)

-- The form of a line is one that a model may have.
pub form-within : (n : ℕ) (ts : List (ℕ × ℤ)) (b : ℤ) (r : Result Form LineFault) → FormSays ts b r → AreVariables n ts → IfOk r (λ f. IsWithin n f)
form-within n ts b (Ok f) says v =
    subst (IsWithin n) (sym says.1) (
      Rises-sorted ts,
      (record { bound_fits = says.2.bound_fits; sum_fits = let h = size-sorted ts in let k = says.2.sum_fits in omega arith }),
      AreVariables-sorted n ts v,
    )
form-within n ts b (Err e) says v = tt
