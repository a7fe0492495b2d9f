-- A row that is filtered word by word.
use Rattle.std.proofs.Common.{◌≡◌, ℕ, ◌+◌, ◌*◌, ◌-◌, ◌/◌, ◌%◌, ◌^◌, ◌<◌, ◌≤◌, Bool, true, false, ◌&&◌, not, List, map, ◌++◌, length, get_or, set, refl, sym, ap, ◌∙◌, subst, arith, bit_and, w64, append_assoc, inl, inr, ◌⊎◌, length-append}
use Rattle.std.specs.Int.{bit_not}
use Rattle.std.proofs.lemmas.List.{get_or-set_same, get_or-set_other, length-set, append-nil, map-append}
use Rattle.std.proofs.lemmas.Nat.{and_le_r}
use Rattle.std.proofs.lemmas.Bool.{cases_lt, and_parts}
use lib.Count.{ones, ones-le}
use Rattle.graph_theory.specs.Neighbours.{count, members}
use Rattle.bit_rows.specs.BitRows.{is_set, has, word_values}
use Rattle.domain_bits.specs.Removals.{at_vertex}
use Rattle.bit_rows.proofs.Passing.{count_within, count_le, length-members, count_add, count_none, members_add, members_none}
use Rattle.bit_rows.proofs.WordBits.{is_set_and, is_set_and_not, is_set-zero, members_word, count_word}
use Rattle.bit_rows.proofs.Rows.{has_at, has_same}
use Rattle.domain_bits.proofs.Removed.{length-at_vertex}

-- u is in the row and does not stay
abbrev pub leaves : List ℕ → (ℕ → Bool) → ℕ → Bool
leaves start keeps u = has start u && not (keeps u)

-- the words before `place` have been filtered, and the trail and the count have what left them
pub record Filtering (start row : List ℕ) (keeps : ℕ → Bool) (place p : ℕ) (before after : List (ℕ × ℕ)) (gone : ℕ) : Type 0 where
  pub long : length row ≡ length start
  pub done : (t : ℕ) → t < 64 * place → has row t ≡ (has start t && keeps t)
  pub todo : (k : ℕ) → place ≤ k → get_or row k 0 ≡ get_or start k 0
  pub listed : after ≡ before ++ at_vertex p (members (leaves start keeps) (64 * place))
  pub counted : gone ≡ count (leaves start keeps) (64 * place)

pub filtering_begins : (start : List ℕ) (keeps : ℕ → Bool) (p : ℕ) (before : List (ℕ × ℕ)) → Filtering start start keeps 0 p before before 0
filtering_begins start keeps p before = record {
  long = refl;
  done = λ t l. absurd (omega arith);
  todo = λ k l. refl;
  listed = sym (append-nil before);
  counted = refl;
}

-- what one word loses
gone_bits : (start : List ℕ) (keeps : ℕ → Bool) (place word kept : ℕ) → word ≡ get_or start place 0 → kept < 2 ^ 64
    → ((b : ℕ) → b < 64 → is_set kept b ≡ keeps (64 * place + b)) → (b : ℕ) → b < 64 → is_set (bit_and word (bit_not w64 kept)) b ≡ leaves start keeps (64 * place + b)
gone_bits start keeps place word kept same small bits b l =
    is_set_and_not word kept b small l ∙ rw (bits b l, same, has_at start place b l) refl

small_word : (a b : ℕ) → bit_and a (bit_not w64 b) < 2 ^ 64
small_word a b = omega (arith, and_le_r a (bit_not w64 b))

-- a word loses no more than its bits
pub few_gone : (word kept : ℕ) → ones (bit_and word (bit_not w64 kept)) ≤ 64
few_gone word kept = ones-le 64 (bit_and word (bit_not w64 kept)) (small_word word kept)

next_count : (start : List ℕ) (keeps : ℕ → Bool) (place word kept : ℕ) → word ≡ get_or start place 0 → kept < 2 ^ 64
    → ((b : ℕ) → b < 64 → is_set kept b ≡ keeps (64 * place + b))
    → count (leaves start keeps) (64 * (place + 1)) ≡ count (leaves start keeps) (64 * place) + ones (bit_and word (bit_not w64 kept))
next_count start keeps place word kept same small bits =
    let e : 64 * (place + 1) ≡ 64 * place + 64 = omega arith in
    ap (count (leaves start keeps)) e
    ∙ count_word (leaves start keeps) place (bit_and word (bit_not w64 kept)) (small_word word kept) (gone_bits start keeps place word kept same small bits)

-- the trail has room for what one more word loses
pub filtering_room : (start row : List ℕ) (keeps : ℕ → Bool) (place p : ℕ) (before after : List (ℕ × ℕ)) (gone kept capacity : ℕ)
    → Filtering start row keeps place p before after gone → place < length start → kept < 2 ^ 64
    → ((b : ℕ) → b < 64 → is_set kept b ≡ keeps (64 * place + b))
    → length before + count (has start) (64 * length start) ≤ capacity
    → length after + ones (bit_and (get_or row place 0) (bit_not w64 kept)) ≤ capacity
filtering_room start row keeps place p before after gone kept capacity inv inside small bits room =
    let us = members (leaves start keeps) (64 * place) in
    omega (
      arith,
      next_count start keeps place (get_or row place 0) kept (inv.todo place (omega arith)) small bits,
      count_le (leaves start keeps) (has start) (64 * (place + 1)) (64 * length start) (omega arith) (λ i e. (and_parts _ _ e).0),
      ap length inv.listed,
      length-append before (at_vertex p us),
      length-at_vertex p us,
      length-members (leaves start keeps) (64 * place),
      room,
    )

pub filtering_count : (start row : List ℕ) (keeps : ℕ → Bool) (place p : ℕ) (before after : List (ℕ × ℕ)) (gone : ℕ)
    → Filtering start row keeps place p before after gone → gone ≤ 64 * place
filtering_count start row keeps place p before after gone inv = omega (arith, inv.counted, count_within (leaves start keeps) (64 * place))

-- one word more
pub filtering_more : (start row new : List ℕ) (keeps : ℕ → Bool) (place p : ℕ) (before after later : List (ℕ × ℕ)) (gone added kept : ℕ)
    → Filtering start row keeps place p before after gone → place < length start → kept < 2 ^ 64
    → ((b : ℕ) → b < 64 → is_set kept b ≡ keeps (64 * place + b))
    → new ≡ set row place (bit_and (get_or row place 0) kept)
    → later ≡ after ++ at_vertex p (word_values place (bit_and (get_or row place 0) (bit_not w64 kept)))
    → added ≡ ones (bit_and (get_or row place 0) (bit_not w64 kept))
    → Filtering start new keeps (place + 1) p before later (gone + added)
filtering_more start row new keeps place p before after later gone added kept inv inside small bits new-is later-is added-is = record {
  long = ap length new-is ∙ length-set row place _ ∙ inv.long;
  done = done;
  todo = λ k l. rw new-is (get_or-set_other row place k _ 0 (λ e. absurd (omega arith)) ∙ inv.todo k (omega arith));
  listed = later-is ∙ rw inv.listed (append_assoc before _ _) ∙ ap (λ us. before ++ us) (joined ∙ ap (at_vertex p) more);
  counted = rw (added-is, inv.counted) (sym (next_count start keeps place (get_or row place 0) kept (inv.todo place (omega arith)) small bits));
}
  where
    more : members (leaves start keeps) (64 * place) ++ word_values place (bit_and (get_or row place 0) (bit_not w64 kept)) ≡ members (leaves start keeps) (64 * (place + 1))
    more = let e : 64 * (place + 1) ≡ 64 * place + 64 = omega arith in
        sym (ap (members (leaves start keeps)) e ∙ members_word (leaves start keeps) place (bit_and (get_or row place 0) (bit_not w64 kept))
        (gone_bits start keeps place (get_or row place 0) kept (inv.todo place (omega arith)) small bits))

    joined : at_vertex p (members (leaves start keeps) (64 * place)) ++ at_vertex p (word_values place (bit_and (get_or row place 0) (bit_not w64 kept)))
        ≡ at_vertex p (members (leaves start keeps) (64 * place) ++ word_values place (bit_and (get_or row place 0) (bit_not w64 kept)))
    joined = sym (map-append (λ u. (p, u)) _ _)

    here : (b : ℕ) → b < 64 → has new (64 * place + b) ≡ (has start (64 * place + b) && keeps (64 * place + b))
    here b l =
        let at : place < length row = omega (arith, inv.long) in
        has_at new place b l ∙ rw (new-is, get_or-set_same row place (bit_and (get_or row place 0) kept) 0 at, is_set_and (get_or row place 0) kept b, bits b l, inv.todo place (omega arith), has_at start place b l) refl

    done : (t : ℕ) → t < 64 * (place + 1) → has new t ≡ (has start t && keeps t)
    done t l = by (cases_lt t (64 * place))
      where
        by : (t < 64 * place) ⊎ (64 * place ≤ t) → has new t ≡ (has start t && keeps t)
        by (inl h) =
            let other : (t / 64 ≡ place → ⊥) = λ e. absurd (omega arith) in
            has_same new row t (rw new-is (get_or-set_other row place (t / 64) _ 0 other)) ∙ inv.done t h
        by (inr h) =
            let e : 64 * place + (t - 64 * place) ≡ t = omega arith in
            subst (λ u. has new u ≡ (has start u && keeps u)) e (here (t - 64 * place) (omega arith))

-- of two tests the first passes where the second does
kept_by : (a b : Bool) → (a && not b) ≡ false → a ≡ (a && b)
kept_by true true e = refl
kept_by true false e = e
kept_by false b e = refl

-- words that lose nothing
pub filtering_past : (start row keep : List ℕ) (place more p : ℕ) (before after : List (ℕ × ℕ)) (gone : ℕ)
    → Filtering start row (has keep) place p before after gone → ((k : ℕ) → get_or keep k 0 < 2 ^ 64)
    → ((k : ℕ) → place ≤ k → k < place + more → bit_and (get_or row k 0) (bit_not w64 (get_or keep k 0)) ≡ 0)
    → Filtering start row (has keep) (place + more) p before after gone
filtering_past start row keep place more p before after gone inv small nothing = record {
  long = inv.long;
  done = λ t l. by t l (cases_lt t (64 * place));
  todo = λ k l. inv.todo k (omega arith);
  listed = inv.listed ∙ ap (λ us. before ++ at_vertex p us) (sym list_same);
  counted = inv.counted ∙ sym count_same;
}
  where
    gone_none : (t : ℕ) → 64 * place ≤ t → t < 64 * (place + more) → leaves start (has keep) t ≡ false
    gone_none t low high =
        ap (λ w. is_set w (t % 64) && not (has keep t)) (sym (inv.todo (t / 64) (omega arith)))
        ∙ sym (is_set_and_not (get_or row (t / 64) 0) (get_or keep (t / 64) 0) (t % 64) (small (t / 64)) (omega arith))
        ∙ ap (λ w. is_set w (t % 64)) (nothing (t / 64) (omega arith) (omega arith))
        ∙ is_set-zero (t % 64)

    by : (t : ℕ) → t < 64 * (place + more) → (t < 64 * place) ⊎ (64 * place ≤ t) → has row t ≡ (has start t && has keep t)
    by t l (inl h) = inv.done t h
    by t l (inr h) = ap (λ w. is_set w (t % 64)) (inv.todo (t / 64) (omega arith)) ∙ kept_by (has start t) (has keep t) (gone_none t h l)

    parts : 64 * (place + more) ≡ 64 * place + 64 * more
    parts = omega arith

    list_same : members (leaves start (has keep)) (64 * (place + more)) ≡ members (leaves start (has keep)) (64 * place)
    list_same =
        ap (members (leaves start (has keep))) parts ∙ members_add (leaves start (has keep)) (64 * place) (64 * more)
        ∙ ap (λ us. members (leaves start (has keep)) (64 * place) ++ map (λ i. 64 * place + i) us)
        (members_none (λ i. leaves start (has keep) (64 * place + i)) (64 * more) (λ i h. gone_none (64 * place + i) (omega arith) (omega arith)))
        ∙ append-nil _

    count_same : count (leaves start (has keep)) (64 * (place + more)) ≡ count (leaves start (has keep)) (64 * place)
    count_same =
        ap (count (leaves start (has keep))) parts
        ∙ omega (
          arith,
          count_add (leaves start (has keep)) (64 * place) (64 * more),
          count_none (λ i. leaves start (has keep) (64 * place + i)) (64 * more) (λ i h. gone_none (64 * place + i) (omega arith) (omega arith)),
        )
