-- The values that may stand beside one that an edge leads to: an edge leads to it from each, and those that are two with it are among those that go together with it.
use Rattle.std.proofs.Common.{◌≡◌, ℕ, ◌<◌, ◌||◌, nat_lt, is_some, ◌==◌, Bool, true, false, List, refl, sym, ap, ◌∙◌, inl, inr, ◌⊎◌}
use Rattle.std.proofs.lemmas.Bool.{and_from, cases_eq, eq-eqb, lt-ltb, or_left, or_right, true≢false}
use Rattle.graph_theory.specs.Graph.{size, edge}
use Rattle.graph_theory.specs.Reversed.{turned}
use Rattle.graph_theory.specs.declared.direction.Direction.{Direction}
use Rattle.graph_theory.specs.Embedding.{Problem}
use Rattle.encoding_theory.specs.Pairs.{is_compatible}
use Rattle.encoding_theory.proofs.PairTests.{compatible_from}
use Rattle.bit_rows.specs.BitRows.{has}
use Rattle.recorder.specs.Telling.{Joins}
use Rattle.needed_values.specs.Consistent.{IsParted}
use Rattle.dead_theory.proofs.Explaining.{compatible_alike}

pub fits_leads : (q : Problem) (direction : Direction) (p r u w : ℕ) → Joins q direction p r → u < size q.target → w < size q.target → is_compatible q r u p w ≡ true
    → is_some (edge (turned direction q.target) w u) ≡ true
fits_leads q direction p r u w joins u_in w_in fits = ap is_some (compatible_alike q direction p r u w joins u_in w_in fits) ∙ joins.joined

fits_left : (q : Problem) (p r u w : ℕ) (row own left : List ℕ) (whole : Bool) → IsParted q r u p row own left whole → w < size q.target → has row w ≡ true → (w ≡ u → ⊥) → is_compatible q r u p w ≡ true
    → has left w ≡ true
fits_left q p r u w row own left whole parted w_in here apart fits = by (has left w) refl
  where
    by : (b : Bool) → has left w ≡ b → b ≡ true
    by true is = refl
    by false is =
        absurd (parted.goes.right w (parted.bits w ∙ and_from (has row w) (nat_lt w (size q.target)) here (lt-ltb w (size q.target) w_in)) is (compatible_from q r u p w fits (λ differ same. apart (sym same))))

-- With u itself beside these all are there,
pub fits_marked : (q : Problem) (p r u w : ℕ) (row own left set : List ℕ) (whole : Bool) → IsParted q r u p row own left whole → ((v : ℕ) → has set v ≡ (has left v || (u == v))) → w < size q.target
    → has row w ≡ true → is_compatible q r u p w ≡ true → has set w ≡ true
fits_marked q p r u w row own left set whole parted marked w_in here fits = marked w ∙ by (cases_eq w u)
  where
    by : (w ≡ u) ⊎ (w ≡ u → ⊥) → (has left w || (u == w)) ≡ true
    by (inl same) = or_right (has left w) (u == w) (eq-eqb u w (sym same))
    by (inr apart) = or_left (has left w) (u == w) (fits_left q p r u w row own left whole parted w_in here apart fits)

-- and without it where no edge leads from it to itself.
pub fits_unmarked : (q : Problem) (p r u w : ℕ) (row own left : List ℕ) (whole : Bool) → IsParted q r u p row own left whole → has row u ≡ false → w < size q.target → has row w ≡ true
    → is_compatible q r u p w ≡ true → has left w ≡ true
fits_unmarked q p r u w row own left whole parted off w_in here fits = by (cases_eq w u)
  where
    by : (w ≡ u) ⊎ (w ≡ u → ⊥) → has left w ≡ true
    by (inl same) = absurd (true≢false (sym here ∙ ap (has row) same ∙ off))
    by (inr apart) = fits_left q p r u w row own left whole parted w_in here apart fits
