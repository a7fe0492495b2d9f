-- Terms that are combined where they stand.
use Rattle.std.proofs.Common.{◌≡◌, ◌≢◌, ℕ, zero, suc, ◌+◌, ◌≤◌, ◌<◌, List, [], ◌++◌, length, get_or, drop, take, ℤ, pos, negsuc, ◌+ℤ◌, unsigned_abs, refl, sym, ap, ◌∙◌, arith}
use Rattle.std.proofs.lemmas.List.{drop_more}
use Rattle.std.specs.List.Sorted.{IsNonDecreasingBy}
use Rattle.proof_theory.specs.Forms.{keep, size, sorted}
use Rattle.pb_terms.proofs.Combining.{none, Combined, size_more, combined_first, combined_same, combined_next, combined_end}

-- Of the terms as they were, those before a place are combined. What is done of them stands in front of what is left, and behind it there is
-- room for the term that waits.
pub record Placed (ts now : List (ℕ × ℤ)) (kept i v : ℕ) (sum : ℤ) : Type 0 where
  pub combined : Combined (take kept now) ts v i sum
  pub left : drop i now ≡ drop i ts
  pub room : kept + length (keep v sum []) ≤ i

pub placed_first : (ts : List (ℕ × ℤ)) → Placed ts ts 0 0 0 (pos 0)
placed_first ts = record { combined = combined_first (take 0 ts) ts refl; left = refl; room = omega arith }

-- A term takes at most one place.
keep_fits : (v : ℕ) (c : ℤ) → length (keep v c []) ≤ 1
keep_fits v (pos zero) = omega arith
keep_fits v (pos (suc n)) = omega arith
keep_fits v (negsuc n) = omega arith

-- What is left is as it was, the next term too.
next_is : (ts now : List (ℕ × ℤ)) (i : ℕ) → i < length ts → i < length now → drop i now ≡ drop i ts → get_or now i none ≡ get_or ts i none
next_is ts now i h k e = ap (λ (x : List (ℕ × ℤ)). get_or x 0 none) (sym (drop_more now i none k) ∙ e ∙ drop_more ts i none h)

rest_is : (ts now : List (ℕ × ℤ)) (i : ℕ) → i < length ts → i < length now → drop i now ≡ drop i ts → drop (i + 1) now ≡ drop (i + 1) ts
rest_is ts now i h k e = ap (λ (x : List (ℕ × ℤ)). drop 1 x) (sym (drop_more now i none k) ∙ e ∙ drop_more ts i none h)

-- The next term and the one that waits weigh no more than all.
pub placed_within : (ts now : List (ℕ × ℤ)) (kept i v : ℕ) (sum : ℤ) → i < length ts → i < length now → Placed ts now kept i v sum → unsigned_abs sum + unsigned_abs (get_or now i none).1 ≤ size ts
placed_within ts now kept i v sum h k p =
    let m = size_more ts i h in
    let w = p.combined.within in
    let e = ap (λ (t : ℕ × ℤ). unsigned_abs t.1) (next_is ts now i h k p.left) in
    omega arith

-- The next term has the waiting term's variable.
pub placed_same : (ts now : List (ℕ × ℤ)) (kept i v : ℕ) (sum : ℤ) → IsNonDecreasingBy (λ (t : ℕ × ℤ). t.0) ts → i < length ts → i < length now → (get_or now i none).0 ≡ v → Placed ts now kept i v sum → Placed ts now kept (i + 1) v (sum +ℤ (get_or now i none).1)
placed_same ts now kept i v sum order h k same p =
    let e = next_is ts now i h k p.left in
    let r = p.room in
    let f = keep_fits v (sum +ℤ (get_or now i none).1) in
    record {
      combined = rw e (combined_same (take kept now) ts v i sum order h (sym (ap (λ (t : ℕ × ℤ). t.0) e) ∙ same) p.combined);
      left = rest_is ts now i h k p.left;
      room = omega arith;
    }

-- The next term has another variable: the waiting term is put behind what is done.
pub placed_next : (ts now after : List (ℕ × ℤ)) (kept more i v : ℕ) (sum : ℤ) → IsNonDecreasingBy (λ (t : ℕ × ℤ). t.0) ts → i < length ts → i < length now → (get_or now i none).0 ≢ v
    → more ≡ kept + length (keep v sum []) → take more after ≡ take kept now ++ keep v sum [] → ((k : ℕ) → more ≤ k → drop k after ≡ drop k now)
    → Placed ts now kept i v sum → Placed ts after more (i + 1) (get_or now i none).0 (get_or now i none).1
placed_next ts now after kept more i v sum order h k other behind put rest p =
    let e = next_is ts now i h k p.left in
    let r = p.room in
    let f = keep_fits (get_or now i none).0 (get_or now i none).1 in
    record {
      combined = rw (put, e) (combined_next (take kept now) ts v i sum order h (λ same. other (ap (λ (t : ℕ × ℤ). t.0) e ∙ same)) p.combined);
      left = rest (i + 1) (omega arith) ∙ rest_is ts now i h k p.left;
      room = omega arith;
    }

-- At the end the waiting term is the last.
pub placed_end : (ts now : List (ℕ × ℤ)) (kept i v : ℕ) (sum : ℤ) → length ts ≤ i → Placed ts now kept i v sum → take kept now ++ keep v sum [] ≡ sorted ts
placed_end ts now kept i v sum h p = combined_end (take kept now) ts v i sum h p.combined
