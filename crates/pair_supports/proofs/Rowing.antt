-- Rows among other rows: which words are theirs, and what stays when another row is written.

use Rattle.std.proofs.Common.{◌≡◌, ℕ, ◌+◌, ◌*◌, ◌/◌, ◌<◌, ◌≤◌, suc, List, length, take, drop, get_or, refl, sym, ◌∙◌, subst, arith, inl, inr, ◌⊎◌, Some, length-drop}
use Rattle.std.specs.Prelude.{slice_get}
use Rattle.std.proofs.lemmas.Bool.{cases_lt}
use Rattle.std.proofs.lemmas.List.{get_or-take, get_or-drop, length-take, length-take-le}
use native.Mathlib.Nat.{mul-le-mul_right, suc-mul}
use borrow.Rule.Slice.PartMut.{put_mid}
use Rattle.bit_rows.specs.BitRows.{has}
use Rattle.bit_rows.proofs.Rows.{has_same, has-take, has_past, has-put_inside, get_or-put_outside, length-put_mid}
use Rattle.graph_theory.specs.Embedding.{Problem}
use Rattle.pair_supports.specs.declared.kinds.PairKind.{PairKind}
use Rattle.pair_supports.specs.Kinds.{RowIs, HasRow, WordsStay}

-- rows that hold the same values
pub row_same : (q : Problem) (k : PairKind) (t : ℕ) (old new : List ℕ) → ((v : ℕ) → has new v ≡ has old v) → RowIs q k t old → RowIs q k t new
row_same q k t old new same is = record {
  right = λ u h. is.right u (sym (same u) ∙ h);
  complete = λ u u_in j. same u ∙ is.complete u u_in j;
}

-- words of two lists, in each from a first one on, hold the same values where they agree
pub part_same : (width a b : ℕ) (old new : List ℕ) → ((i : ℕ) → i < width → get_or new (b + i) 0 ≡ get_or old (a + i) 0)
    → (v : ℕ) → has (take width (drop b new)) v ≡ has (take width (drop a old)) v
part_same width a b old new same v = by (cases_lt (v / 64) width)
  where
    by : (v / 64 < width) ⊎ (width ≤ v / 64) → has (take width (drop b new)) v ≡ has (take width (drop a old)) v
    by (inl inside) = has_same (take width (drop b new)) (take width (drop a old)) v
        (get_or-take width (drop b new) (v / 64) 0 inside ∙ get_or-drop b new (v / 64) 0 ∙ same (v / 64) inside
        ∙ sym (get_or-take width (drop a old) (v / 64) 0 inside ∙ get_or-drop a old (v / 64) 0))
    by (inr past) =
        has_past (take width (drop b new)) v (omega (arith, length-take width (drop b new)))
        ∙ sym (has_past (take width (drop a old)) v (omega (arith, length-take width (drop a old))))

-- a row that is written stands where it was written
pub part_written : (width a : ℕ) (all row : List ℕ) → a ≤ length all → length row ≡ width → (v : ℕ) → has (take width (drop a (put_mid a width all row))) v ≡ has row v
part_written width a all row inside long v = by (cases_lt v (64 * width))
  where
    by : (v < 64 * width) ⊎ (64 * width ≤ v) → has (take width (drop a (put_mid a width all row))) v ≡ has row v
    by (inl v_in) = has-take width (drop a (put_mid a width all row)) v v_in ∙ has-put_inside a width all row v inside long v_in
    by (inr past) =
        has_past (take width (drop a (put_mid a width all row))) v (omega (arith, length-take width (drop a (put_mid a width all row))))
        ∙ sym (has_past row v (omega arith))

-- the first word of a row after another
pub next_row : (a b width : ℕ) → a < b → a * width + width ≤ b * width
next_row a b width l = let m = mul-le-mul_right {m = suc a} {n = b} width l in omega (arith, m, suc-mul a width)

-- the rows of a block, as far as they are made
pub record MadeBelow (q : Problem) (kinds : List PairKind) (width t first n : ℕ) (old new : List ℕ) : Type 0 where
  pub long : length new ≡ length old
  pub made : (i : ℕ) → i < n → HasRow q kinds width t i (drop ((first + i) * width) new)
  pub stay : WordsStay (first * width) ((first + n) * width) old new

pub made_none : (q : Problem) (kinds : List PairKind) (width t first : ℕ) (old : List ℕ) → MadeBelow q kinds width t first 0 old old
made_none q kinds width t first old = record {
  long = refl;
  made = λ i i_in. absurd (omega arith);
  stay = record { each = λ w _. refl };
}

-- one row more
pub made_more : (q : Problem) (kinds : List PairKind) (width t first n from : ℕ) (old now row : List ℕ) (k : PairKind)
    → MadeBelow q kinds width t first n old now → from ≡ (first + n) * width → from + width ≤ length now → length row ≡ width
    → slice_get kinds n ≡ Some k → RowIs q k t row → MadeBelow q kinds width t first (n + 1) old (put_mid from width now row)
made_more q kinds width t first n from old now row k before from_is inside long stands is = record {
  long = length-put ∙ before.long;
  made = λ i i_in. by i i_in (cases_lt i n);
  stay = record { each = λ w out. stays w out };
}
  where
    length-put : length (put_mid from width now row) ≡ length now
    length-put = length-put_mid from width now row inside long

    outside : (w : ℕ) → (w < from) ⊎ (from + width ≤ w) → get_or (put_mid from width now row) w 0 ≡ get_or now w 0
    outside w out = get_or-put_outside from width now row w 0 (omega arith) long out

    same_kind : (x y : PairKind) → slice_get kinds n ≡ Some x → slice_get kinds n ≡ Some y → x ≡ y
    same_kind x y a b = some_same x y (sym a ∙ b)
      where
        some_same : (x y : PairKind) → Some x ≡ Some y → x ≡ y
        some_same x y e = cc

    here : HasRow q kinds width t n (drop from (put_mid from width now row))
    here = record {
      each = λ x x_is. row_same q x t row (take width (drop from (put_mid from width now row))) (part_written width from now row (omega arith) long)
          (subst (λ (y : PairKind). RowIs q y t row) (same_kind k x stands x_is) is);
    }

    by : (i : ℕ) → i < n + 1 → (i < n) ⊎ (n ≤ i) → HasRow q kinds width t i (drop ((first + i) * width) (put_mid from width now row))
    by i i_in (inl below) =
        let ends = next_row (first + i) (first + n) width (omega arith) in
        record {
          each = λ x x_is. row_same q x t (take width (drop ((first + i) * width) now)) (take width (drop ((first + i) * width) (put_mid from width now row)))
              (part_same width ((first + i) * width) ((first + i) * width) now (put_mid from width now row) (λ j j_in. outside ((first + i) * width + j) (inl (omega arith))))
              ((before.made i below).each x x_is);
        }
    by i i_in (inr above) =
        let e : i ≡ n = omega arith in
        subst (λ (j : ℕ). HasRow q kinds width t j (drop ((first + j) * width) (put_mid from width now row))) (sym e)
        (subst (λ (a : ℕ). HasRow q kinds width t n (drop a (put_mid from width now row))) from_is here)

    stays : (w : ℕ) → (w < first * width) ⊎ ((first + (n + 1)) * width ≤ w) → get_or (put_mid from width now row) w 0 ≡ get_or old w 0
    stays w (inl low) = outside w (inl (let m = mul-le-mul_right {m = first} {n = first + n} width (omega arith) in omega (arith, from_is, m))) ∙ before.stay.each w (inl low)
    stays w (inr high) =
        let ends = next_row (first + n) (first + (n + 1)) width (omega arith) in
        outside w (inr (omega arith)) ∙ before.stay.each w (inr (omega arith))

-- the length of a part
pub part_long : (n width a : ℕ) (all : List ℕ) → n ≡ width → a + width ≤ length all → length (take n (drop a all)) ≡ width
part_long n width a all is inside = rw is (length-take-le width (drop a all) (omega (arith, length-drop a all)))
