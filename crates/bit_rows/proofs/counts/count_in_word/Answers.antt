use Rattle.std.proofs.Common.{◌≡◌, ℕ, ◌+◌, ◌*◌, ◌/◌, ◌%◌, ◌^◌, ◌<◌, ◌≤◌, Bool, true, false, List, length, get_or, refl, ap, ◌∙◌, sym, arith, w64}
use Rattle.std.proofs.Math.Facts.{Fits-lt-pow}
use Rattle.std.specs.Int.{from_bool, trailing_zeros}
use Rattle.std.proofs.lemmas.Bool.{eq-eqb}
use Rattle.bit_rows.proofs.WordBits.{low_bit, low_is_set}
use Rattle.bit_rows.proofs.Counting.{in_word, fewer, in_range, counted_one, left_in_word, counted_word}
use Rattle.bit_rows.proofs.counts.count_in_word.Goals as goal

-- and there is room for one more
room_left : (place word rest : ℕ) (counts first : List ℕ) → ((v : ℕ) → v / 64 ≡ place → get_or first v 0 < 65535) → 0 < rest → rest < 2 ^ 64
    → ((v : ℕ) → get_or counts v 0 + from_bool (in_word place rest v) ≡ get_or first v 0 + from_bool (in_word place word v))
    → get_or counts (64 * place + trailing_zeros w64 rest) 0 < 65535
room_left place word rest counts first room some small all =
    let v = 64 * place + trailing_zeros w64 rest in
    let k_in = low_bit rest some small in
    let here : (64 * place + trailing_zeros w64 rest) / 64 ≡ place = omega arith in
    let bit : (64 * place + trailing_zeros w64 rest) % 64 ≡ trailing_zeros w64 rest = omega arith in
    let was : in_word place rest (64 * place + trailing_zeros w64 rest) ≡ true = rw (here, bit, eq-eqb place place refl) (low_is_set rest some small) in
    let e : get_or counts v 0 + from_bool true ≡ get_or first v 0 + from_bool (in_word place word v) = ap (λ (t : Bool). get_or counts v 0 + from_bool t) (sym was) ∙ all v in
    omega (arith, e, room v here, few (in_word place word v))
  where
    few : (t : Bool) → from_bool t ≤ 1
    few true = omega arith
    few false = omega arith

pub bounds-counts-place : goal.bounds-counts-place
bounds-counts-place c =
    omega (arith, in_range c.args.place c.args.word c.loop-rest.rest (length c.args.counts.now) c.requires.within c.loop-rest.invariant.part (omega arith) (Fits-lt-pow c.loop-rest.auto.rest-fits))

pub overflow_add-counts-in-loop-rest : goal.overflow_add-counts-in-loop-rest
overflow_add-counts-in-loop-rest c =
    omega (arith, room_left c.args.place c.args.word c.loop-rest.rest c.loop-rest.counts c.args.counts.now c.requires.room (omega arith) (Fits-lt-pow c.loop-rest.auto.rest-fits) c.loop-rest.invariant.counted)

pub bounds-counts-place-in-loop-rest : goal.bounds-counts-place-in-loop-rest
bounds-counts-place-in-loop-rest c =
    omega (arith, in_range c.args.place c.args.word c.loop-rest.rest (length c.args.counts.now) c.requires.within c.loop-rest.invariant.part (omega arith) (Fits-lt-pow c.loop-rest.auto.rest-fits))

pub loop-rest-smaller : goal.loop-rest-smaller
loop-rest-smaller c = omega (arith, fewer c.args.place c.loop-rest.rest (omega arith) (Fits-lt-pow c.loop-rest.auto.rest-fits))

pub loop-rest-preserved : goal.loop-rest-preserved
loop-rest-preserved c =
    let small = Fits-lt-pow c.loop-rest.auto.rest-fits in
    let some : 0 < c.loop-rest.rest = omega arith in
    let inside = in_range c.args.place c.args.word c.loop-rest.rest (length c.args.counts.now) c.requires.within c.loop-rest.invariant.part some small in
    record {
      part = left_in_word c.args.word c.loop-rest.rest c.loop-rest.invariant.part some small;
      counted = counted_one c.loop-rest.counts c.args.counts.now c.args.place c.args.word c.loop-rest.rest (64 * c.args.place + trailing_zeros w64 c.loop-rest.rest) some small refl
          (omega (arith, inside)) c.loop-rest.invariant.counted;
    }

pub returns : goal.returns
returns c = counted_word c.loop-rest.counts c.args.counts.now c.args.place c.args.word c.loop-rest.rest c.loop-rest-test.false c.loop-rest.invariant.counted
