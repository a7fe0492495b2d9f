-- Images that fit vertex by vertex beside those before them go together pair by pair.

use Rattle.std.proofs.Common.{◌≡◌, ℕ, ◌<◌, List, length, get_or, sym, ◌∙◌, arith, inl, inr, ◌⊎◌}
use Rattle.std.proofs.lemmas.Bool.{cases_order}
use Rattle.graph_theory.specs.Graph.{size}
use Rattle.graph_theory.specs.Embedding.{Problem, InOrder, Compatible, Pairwise}
use Rattle.graph_theory.proofs.BlockProofs.{differ_is_symmetric}
use Rattle.graph_rows.specs.Fitting.{Fits}

-- two that go together do so the other way round
turned_pair : (q : Problem) (p t r u : ℕ) → Compatible q p t r u → Compatible q r u p t
turned_pair q p t r u c = record { apart = λ two e. c.apart (differ_is_symmetric q p r ∙ two) (sym e); out = c.back; back = c.out }

pub fits_pairwise : (q : Problem) (m : List ℕ) → length m ≡ size q.pattern → InOrder q.less m → ((p : ℕ) → p < size q.pattern → Fits q m p) → Pairwise q m
fits_pairwise q m long order fits = record {
  size_is = long;
  values = λ p p_in. (fits p p_in).value;
  alone = λ p p_in. (fits p p_in).alone;
  pairs = λ p r p_in r_in apart. by p r p_in r_in apart (cases_order p r);
  order = order;
}
  where
    by : (p r : ℕ) → p < size q.pattern → r < size q.pattern → (p ≡ r → ⊥) → (p ≡ r) ⊎ ((p < r) ⊎ (r < p)) → Compatible q p (get_or m p 0) r (get_or m r 0)
    by p r p_in r_in apart (inl e) = absurd (apart e)
    by p r p_in r_in apart (inr (inl less)) = turned_pair q r (get_or m r 0) p (get_or m p 0) ((fits r r_in).first.each p less)
    by p r p_in r_in apart (inr (inr more)) = (fits p p_in).first.each r more

-- and the other way round
pub pairwise_fits : (q : Problem) (m : List ℕ) (p : ℕ) → Pairwise q m → p < size q.pattern → Fits q m p
pairwise_fits q m p pairwise p_in = record {
  value = pairwise.values p p_in;
  alone = pairwise.alone p p_in;
  first = record { each = λ r less. pairwise.pairs p r p_in (omega (arith, less, p_in)) (λ e. let no : ⊥ = omega (arith, less, e) in no) };
}
