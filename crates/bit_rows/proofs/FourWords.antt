-- Rows that are combined four words at a time, and then word by word.
use Rattle.std.proofs.Common.{◌≡◌, ℕ, ◌+◌, ◌-◌, ◌<◌, ◌≤◌, List, length, map, get_or, bit_and, w64, refl, subst, arith}
use Rattle.std.specs.Int.{bit_not}
use Rattle.std.specs.Simd.Lanes.{chunk, put_chunk, zip2}
use Rattle.std.proofs.lemmas.List.{get_or-map, length-map}
use Rattle.std.proofs.lemmas.Simd.{length-zip2, length-chunk, length-put_chunk, get_or-zip2, get_or-chunk, get_or-put_chunk_below, get_or-put_chunk_at, get_or-put_chunk_above}
use Rattle.bit_rows.specs.BitRows.{AreChanged, without}

-- What a store of four lanes leaves.
pub changed_by_lanes : (op : ℕ → ℕ → ℕ) (at : ℕ) (old from lanes : List ℕ) → at + 4 ≤ length old → length lanes ≡ 4
    → ((j : ℕ) → j < 4 → get_or lanes j 0 ≡ op (get_or old (at + j) 0) (get_or from (at + j) 0)) → AreChanged op at (at + 4) old from (put_chunk at old lanes)
changed_by_lanes op at old from lanes room four each = record {
  long = length-put_chunk at old lanes;
  changed = λ k low high. subst (λ n. get_or (put_chunk at old lanes) n 0 ≡ op (get_or old n 0) (get_or from n 0)) (back k low) (at_lane (k - at) (omega arith));
  before = λ k h. get_or-put_chunk_below at old lanes k 0 h;
  behind = λ k h. get_or-put_chunk_above at old lanes k 0 (omega arith);
}
  where
    back : (k : ℕ) → at ≤ k → at + (k - at) ≡ k
    back k low = omega arith

    at_lane : (j : ℕ) → j < 4 → get_or (put_chunk at old lanes) (at + j) 0 ≡ op (get_or old (at + j) 0) (get_or from (at + j) 0)
    at_lane j h = rw (get_or-put_chunk_at at old lanes j 0 (omega arith) (omega arith)) (each j h)

-- The lanes are those of an operation on two loads.
pub changed_by_two : (op : ℕ → ℕ → ℕ) (at : ℕ) (old from : List ℕ) → at + 4 ≤ length old → length old ≡ length from
    → AreChanged op at (at + 4) old from (put_chunk at old (zip2 op (chunk at 4 old) (chunk at 4 from)))
changed_by_two op at old from room same = changed_by_lanes op at old from _ room (rw (length-zip2 op (chunk at 4 old) (chunk at 4 from) (omega (arith, long_old, long_from))) long_old) each
  where
    long_old : length (chunk at 4 old) ≡ 4
    long_old = length-chunk at 4 old room

    long_from : length (chunk at 4 from) ≡ 4
    long_from = length-chunk at 4 from (omega arith)

    each : (j : ℕ) → j < 4 → get_or (zip2 op (chunk at 4 old) (chunk at 4 from)) j 0 ≡ op (get_or old (at + j) 0) (get_or from (at + j) 0)
    each j h = rw (get_or-zip2 op (chunk at 4 old) (chunk at 4 from) j 0 0 0 (omega (arith, long_old)) (omega (arith, long_from)), get_or-chunk at 4 old j 0 h, get_or-chunk at 4 from j 0 h) refl

-- The second load's words are turned over first.
pub changed_by_turned : (at : ℕ) (old from : List ℕ) → at + 4 ≤ length old → length old ≡ length from
    → AreChanged without at (at + 4) old from (put_chunk at old (zip2 bit_and (chunk at 4 old) (map (bit_not w64) (chunk at 4 from))))
changed_by_turned at old from room same = changed_by_lanes without at old from _ room (rw (length-zip2 bit_and (chunk at 4 old) turned (omega (arith, long_old, long_turned))) long_old) each
  where
    turned : List ℕ
    turned = map (bit_not w64) (chunk at 4 from)

    long_old : length (chunk at 4 old) ≡ 4
    long_old = length-chunk at 4 old room

    long_from : length (chunk at 4 from) ≡ 4
    long_from = length-chunk at 4 from (omega arith)

    long_turned : length turned ≡ 4
    long_turned = rw (length-map (chunk at 4 from) (bit_not w64)) long_from

    each : (j : ℕ) → j < 4 → get_or (zip2 bit_and (chunk at 4 old) turned) j 0 ≡ without (get_or old (at + j) 0) (get_or from (at + j) 0)
    each j h = rw (get_or-zip2 bit_and (chunk at 4 old) turned j 0 0 0 (omega (arith, long_old)) (omega (arith, long_turned)), get_or-map (bit_not w64) (chunk at 4 from) j 0 0 (omega (arith, long_from)), get_or-chunk at 4 old j 0 h, get_or-chunk at 4 from j 0 h) refl
