-- A row's word says that row, and is not 0.
use Rattle.std.proofs.Common.{◌≡◌, ℕ, suc, ◌+◌, ◌*◌, ◌/◌, ◌%◌, ◌^◌, ◌<◌, false, refl, ap, ◌∙◌, arith}
use Rattle.std.specs.Prelude.{Option, Some, None, ◌==◌}
use Rattle.std.proofs.lemmas.Bool.Decides.{nat_tests}
use Rattle.nogood_book.specs.declared.row.Row.{Row}
use Rattle.nogood_book.specs.declared.row.RowKind.{RowKind}
use Rattle.nogood_book.specs.declared.row.RowKind.TheVariants.{Step, Nogood}
use Rattle.nogood_book.specs.Rows.{parent_code, IsNarrow}
use Rattle.nogood_book.specs.Words.{kind_code, word_of, kind_of, parent_of, row_of}

kind_back : (k : RowKind) → kind_of (kind_code k) ≡ k
kind_back Step = refl
kind_back Nogood = refl

kind_small : (k : RowKind) → kind_code k < 2
kind_small Step = omega arith
kind_small Nogood = omega arith

parent_back : (p : Option ℕ) → parent_of (parent_code p) ≡ p
parent_back None = refl
parent_back (Some k) = let e : k + 1 ≡ suc k = omega arith in ap parent_of e

-- the five parts of a sum of parts
split : (v x p o k w : ℕ) → v < 2 ^ 13 → x < 2 ^ 10 → p < 2 ^ 24 → o < 2 ^ 7 → k < 2 → w ≡ v + x * 2 ^ 13 + p * 2 ^ 23 + o * 2 ^ 47 + k * 2 ^ 54 + 2 ^ 55
    → (w % 2 ^ 13 ≡ v) × (w / 2 ^ 13 % 2 ^ 10 ≡ x) × (w / 2 ^ 23 % 2 ^ 24 ≡ p) × (w / 2 ^ 47 % 2 ^ 7 ≡ o) × (w / 2 ^ 54 % 2 ≡ k)
split v x p o k w a b c d f e = (omega arith, omega arith, omega arith, omega arith, omega arith)

pub row_back : (r : Row) → IsNarrow r → row_of (word_of r) ≡ r
row_back r h =
    let s = split r.value r.vertex (parent_code r.parent) r.owner (kind_code r.kind) (word_of r) h.value h.vertex h.parent h.owner (kind_small r.kind) refl in
    λ i. record {
      kind = (ap kind_of s.4 ∙ kind_back r.kind) i;
      owner = s.3 i;
      parent = (ap parent_of s.2 ∙ parent_back r.parent) i;
      vertex = s.1 i;
      value = s.0 i;
    }

pub word_some : (r : Row) → (word_of r == 0) ≡ false
word_some r = grind (arith, nat_tests)

-- worked words, to the bit: a step below row 5, and three nogoods with no parent
worked_step : word_of (record { kind = Step; owner = 3; parent = Some 5; vertex = 2; value = 7 }) ≡ 36451009534377991
worked_step = refl

worked_nogood : word_of (record { kind = Nogood; owner = 1; parent = None; vertex = 0; value = 0 }) ≡ 54183933016801280
worked_nogood = refl

worked_value : word_of (record { kind = Nogood; owner = 1; parent = None; vertex = 0; value = 3 }) ≡ 54183933016801283
worked_value = refl

worked_owner : word_of (record { kind = Nogood; owner = 2; parent = None; vertex = 0; value = 1 }) ≡ 54324670505156609
worked_owner = refl
