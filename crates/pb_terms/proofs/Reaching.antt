-- Sums of terms, one term after the other: the greatest that can still be, and the value.
use Rattle.std.proofs.Common.{◌≡◌, ℕ, ℤ, pos, negsuc, ◌+◌, ◌<◌, ◌≤◌, ◌+ℤ◌, ◌-ℤ◌, cond, List, length, get_or, drop, unsigned_abs, arith, ap, ◌∙◌, to_z, of_z, FitsSigned, true, false, Bool, Option, Some, None}
use Rattle.std.specs.Int.{Width}
use Rattle.std.proofs.lemmas.Int.{ints, to_z-of_z}
use Rattle.std.proofs.lemmas.List.{drop_more}
use Rattle.proof_theory.specs.Forms.{size, value}
use Rattle.proof_theory.specs.Rules.{negative, negatives}
use Rattle.proof_theory.specs.Slack.{Setting, open_at, open_sum}
use Rattle.pb_terms.specs.Forcing.{greatest_at}
use Rattle.pb_terms.proofs.Combining.{none, size_more}

-- What is open of terms, less what counts for the degree.
abbrev pub still : Setting → List (ℕ × ℤ) → ℤ
still s ts = pos (open_sum s ts) -ℤ pos (negatives ts)

-- A term adds no more than that, and no more than its coefficient.
one_term : (o : Option Bool) (c : ℤ) → (greatest_at o c ≡ pos (cond (open_at o c) (unsigned_abs c) 0) -ℤ pos (negative c)) × (unsigned_abs (greatest_at o c) ≤ unsigned_abs c)
one_term None (pos n) = (omega (arith, ints), omega (arith, ints))
one_term None (negsuc n) = (omega (arith, ints), omega (arith, ints))
one_term (Some true) (pos n) = (omega (arith, ints), omega (arith, ints))
one_term (Some true) (negsuc n) = (omega (arith, ints), omega (arith, ints))
one_term (Some false) (pos n) = (omega (arith, ints), omega (arith, ints))
one_term (Some false) (negsuc n) = (omega (arith, ints), omega (arith, ints))

-- The sum with one term more, whose coefficient is read from its bits, and the terms behind it.
pub term_more : (w : Width) (s : Setting) (ts : List (ℕ × ℤ)) (i most : ℕ) (sum g : ℤ) (o : Option Bool) → i < length ts → FitsSigned w (get_or ts i none).1
    → o ≡ s (get_or ts i none).0 → g ≡ greatest_at o (to_z w (of_z w (get_or ts i none).1))
    → sum +ℤ still s (drop i ts) ≡ still s ts → unsigned_abs sum + size (drop i ts) ≤ most
    → ((sum +ℤ g) +ℤ still s (drop (i + 1) ts) ≡ still s ts) × (unsigned_abs (sum +ℤ g) + size (drop (i + 1) ts) ≤ most)
term_more w s ts i most sum g o h fits set e k l =
    let t : ℕ × ℤ = get_or ts i none in
    let d = drop_more ts i none h in
    let a : open_sum s (drop i ts) ≡ cond (open_at (s t.0) t.1) (unsigned_abs t.1) 0 + open_sum s (drop (i + 1) ts) = ap (open_sum s) d in
    let n : negatives (drop i ts) ≡ negative t.1 + negatives (drop (i + 1) ts) = ap negatives d in
    let z = size_more ts i h in
    let r : g ≡ greatest_at (s t.0) t.1 = e ∙ ap (λ (p : Option Bool). greatest_at p (to_z w (of_z w t.1))) set ∙ ap (greatest_at (s t.0)) (to_z-of_z w t.1 fits) in
    let p = one_term (s t.0) t.1 in
    let x = p.0 in
    let y = p.1 in
    (omega (arith, ints), omega (arith, ints))

cond_size : (b : Bool) (c : ℤ) → unsigned_abs (cond b c (pos 0)) ≤ unsigned_abs c
cond_size true c = omega arith
cond_size false c = omega arith

-- The value with one term more, whose coefficient is read from its bits, and the terms behind it.
pub value_more : (w : Width) (f : ℕ → Bool) (ts : List (ℕ × ℤ)) (i most : ℕ) (sum g : ℤ) → i < length ts → FitsSigned w (get_or ts i none).1
    → g ≡ cond (f (get_or ts i none).0) (to_z w (of_z w (get_or ts i none).1)) (pos 0)
    → sum +ℤ value f (drop i ts) ≡ value f ts → unsigned_abs sum + size (drop i ts) ≤ most
    → ((sum +ℤ g) +ℤ value f (drop (i + 1) ts) ≡ value f ts) × (unsigned_abs (sum +ℤ g) + size (drop (i + 1) ts) ≤ most)
value_more w f ts i most sum g h fits e k l =
    let t : ℕ × ℤ = get_or ts i none in
    let v : value f (drop i ts) ≡ cond (f t.0) t.1 (pos 0) +ℤ value f (drop (i + 1) ts) = ap (value f) (drop_more ts i none h) in
    let z = size_more ts i h in
    let r : g ≡ cond (f t.0) t.1 (pos 0) = e ∙ ap (λ (x : ℤ). cond (f t.0) x (pos 0)) (to_z-of_z w t.1 fits) in
    let c = cond_size (f t.0) t.1 in
    (omega (arith, ints), omega (arith, ints))
