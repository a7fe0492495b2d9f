-- The words of a seed, one more at a time.

use Rattle.std.proofs.Common.{◌≡◌, ℕ, ◌+◌, ◌<◌, ◌≤◌, List, [], ◌∷◌, ◌++◌, length, get_or, sym, ap, ◌∙◌, ◌⊎◌, inl, inr, add-one, length-append, arith}
use Rattle.std.proofs.lemmas.Bool.{cases_lt}
use Rattle.std.proofs.lemmas.List.{get_or_append_left}
use Rattle.std.proofs.Math.Seq.{get_or-append_seam}
use Rattle.rand_xoshiro.specs.Xoshiro256.{of_seed, plus_plus}
use Rattle.rand_xoshiro.specs.SplitMix64.{splitmix_seed}
use Rattle.demo_instances.specs.Stream.{state, word}

-- The first words of the seed, and the state after them.
pub record IsFront (seed n : ℕ) (s words : List ℕ) : Type 0 where
  pub stands : s ≡ state seed n
  pub many : length words ≡ n
  pub each : (k : ℕ) → k < n → get_or words k 0 ≡ word seed k

pub front-none : (seed : ℕ) (s words : List ℕ) → s ≡ of_seed (splitmix_seed 32 seed) → words ≡ [] → IsFront seed 0 s words
unfolding state
front-none seed s words start empty = record { stands = start; many = ap length empty; each = λ k k_in. absurd (omega arith) }

pub front-more : (seed n : ℕ) (s t words grown : List ℕ) (w : ℕ) → IsFront seed n s words → (w, t) ≡ plus_plus s → grown ≡ words ++ w ∷ [] → IsFront seed (n + 1) t grown
unfolding state word
front-more seed n s t words grown w h next grows =
    let step : (w, t) ≡ plus_plus (state seed n) = next ∙ ap plus_plus h.stands in
    record {
      stands = ap (λ (p : ℕ × List ℕ). p.1) step ∙ ap (state seed) (sym (add-one n));
      many = ap length grows ∙ length-append words (w ∷ []) ∙ ap (λ (k : ℕ). k + 1) h.many;
      each = λ k k_in. by (ap (λ (p : ℕ × List ℕ). p.0) step) k (cases_lt k n) k_in;
    }
  where
    last : w ≡ word seed n → (k : ℕ) → k ≡ n → get_or grown k 0 ≡ word seed k
    last is k e =
        ap (λ (l : List ℕ). get_or l k 0) grows ∙ ap (λ (i : ℕ). get_or (words ++ w ∷ []) i 0) (e ∙ sym h.many)
        ∙ get_or-append_seam words w [] 0 ∙ is ∙ ap (word seed) (sym e)

    by : w ≡ word seed n → (k : ℕ) → (k < n) ⊎ (n ≤ k) → k < n + 1 → get_or grown k 0 ≡ word seed k
    by is k (inl l) k_in = ap (λ (m : List ℕ). get_or m k 0) grows ∙ get_or_append_left words (w ∷ []) 0 k (omega (arith, h.many)) ∙ h.each k l
    by is k (inr l) k_in = last is k (omega arith)
