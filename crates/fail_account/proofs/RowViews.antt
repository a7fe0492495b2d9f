-- The row of a level, as a part of the words.

use Rattle.std.proofs.Common.{◌≡◌, ℕ, ◌+◌, ◌-◌, ◌*◌, ◌<◌, ◌≤◌, false, List, length, take, drop, Option, sym, ap, ◌∙◌, ◌⊎◌, inl, inr, arith}
use Rattle.std.proofs.lemmas.Bool.{cases_lt}
use Rattle.std.proofs.lemmas.List.{length-take}
use Rattle.bit_rows.specs.BitRows.{has}
use Rattle.graph_rows.specs.Held.{marked}
use Rattle.graph_rows.proofs.Places.{has-row}
use Rattle.bit_rows.proofs.Rows.{has_past}
use Rattle.search_theory.specs.Account.{level_among}
use Rattle.graph_theory.specs.Neighbours.{members}
use Rattle.fail_account.specs.Held.{refuted_at, steps_from, Kept}
use Rattle.fail_account.proofs.Members.{members_same}
use Rattle.fail_account.proofs.Levels.{level_refuted, refuted_none}
use Rattle.fail_account.proofs.HeldAccount.{in_row}

-- its bits are the marks of the level
row_bits : (words lent : List ℕ) (width place from to t : ℕ) → lent ≡ words → from ≡ place * width → to ≡ from + width → t < 64 * width
    → has (take (to - from) (drop from lent)) t ≡ marked words width place t
row_bits words lent width place from to t lent_is from_is to_is t_in =
    let e : to - from ≡ width = omega arith in
    rw (e, lent_is) (has-row words width place t from from_is t_in)

-- those below the target's size are what the level has refuted
pub row_refuted : (pattern target budget : ℕ) (path : List (ℕ × ℕ)) (words : List ℕ) (width : ℕ) (v : Option ℕ) (count run all limit capacity : ℕ) (lent : List ℕ) (place from to : ℕ)
    → Kept pattern target budget path words width v count run all limit capacity → place ≤ pattern → lent ≡ words → from ≡ place * width → to ≡ from + width
    → members (has (take (to - from) (drop from lent))) target ≡ (level_among (steps_from words width target 0 path) v (refuted_at words width target (length path)) place).refuted
row_refuted pattern target budget path words width v count run all limit capacity lent place from to kept place_in lent_is from_is to_is =
    let e : place ≡ 0 + place = omega arith in
    members_same (has (take (to - from) (drop from lent))) (marked words width place) target
    (λ t t_in. row_bits words lent width place from to t lent_is from_is to_is (in_row target width t kept.width_is t_in))
    ∙ ap (refuted_at words width target) e
    ∙ sym (level_refuted words width target 0 (length path) path v place (omega arith)
    (λ k low high. refuted_none words width target k (λ t t_in. kept.clear k t low (omega arith) (in_row target width t kept.width_is t_in))))

-- and no other is set
pub row_padded : (pattern target budget : ℕ) (path : List (ℕ × ℕ)) (words : List ℕ) (width : ℕ) (v : Option ℕ) (count run all limit capacity : ℕ) (lent : List ℕ) (place from to t : ℕ)
    → Kept pattern target budget path words width v count run all limit capacity → place ≤ pattern → lent ≡ words → from ≡ place * width → to ≡ from + width → target ≤ t
    → has (take (to - from) (drop from lent)) t ≡ false
row_padded pattern target budget path words width v count run all limit capacity lent place from to t kept place_in lent_is from_is to_is past = by (cases_lt t (64 * width))
  where
    by : (t < 64 * width) ⊎ (64 * width ≤ t) → has (take (to - from) (drop from lent)) t ≡ false
    by (inl h) = row_bits words lent width place from to t lent_is from_is to_is h ∙ kept.padded place t place_in past h
    by (inr h) = has_past (take (to - from) (drop from lent)) t (omega (arith, length-take (to - from) (drop from lent)))
