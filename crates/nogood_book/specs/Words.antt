-- The word of a row. From bit 0: the target vertex in 13 bits, the pattern vertex in 10, the parent's place plus 1 in 24 (0 for no
-- parent), the owner in 7, a bit that is 1 for a nogood, and a bit that is always 1. The word 0 is a row not yet written.
-- The nogood of owner 1 with no parent that takes vertex 0 to 3 is 0x00c0_8000_0000_0003.

use Rattle.std.specs.Prelude.{◌≡◌, ℕ, zero, suc, ◌+◌, ◌*◌, ◌/◌, ◌%◌, ◌^◌, Option, Some, None, List, [], ◌∷◌}
use Rattle.nogood_book.specs.declared.row.Row.{Row}
use Rattle.nogood_book.specs.declared.row.RowKind.{RowKind}
use Rattle.nogood_book.specs.declared.row.RowKind.TheVariants.{Step, Nogood}
use Rattle.nogood_book.specs.Rows.{parent_code}

abbrev pub kind_code : RowKind → ℕ
kind_code Step = 0
kind_code Nogood = 1

abbrev pub word_of : Row → ℕ
word_of r = r.value + r.vertex * 2 ^ 13 + parent_code r.parent * 2 ^ 23 + r.owner * 2 ^ 47 +
    kind_code r.kind * 2 ^ 54 + 2 ^ 55

abbrev pub kind_of : ℕ → RowKind
kind_of zero = Step
kind_of (suc n) = Nogood

abbrev pub parent_of : ℕ → Option ℕ
parent_of zero = None
parent_of (suc k) = Some k

-- The row that a word says.
abbrev pub row_of : ℕ → Row
row_of w = record {
  kind = kind_of (w / 2 ^ 54 % 2);
  owner = w / 2 ^ 47 % 2 ^ 7;
  parent = parent_of (w / 2 ^ 23 % 2 ^ 24);
  vertex = w / 2 ^ 13 % 2 ^ 10;
  value = w % 2 ^ 13;
}

-- The words of a book say these rows: used words come first, and each says its row.
abbrev pub AreZero : List ℕ → Type 0
AreZero [] = Unit {0}
AreZero (w ∷ ws) = (w ≡ 0) × AreZero ws

abbrev pub Cells : List ℕ → List Row → Type 0
Cells words [] = AreZero words
Cells [] (r ∷ rs) = ⊥
Cells (w ∷ ws) (r ∷ rs) = (w ≡ word_of r) × Cells ws rs
