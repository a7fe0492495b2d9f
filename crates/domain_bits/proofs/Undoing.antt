-- The rows, sizes and trail of domains to which values are given back.
use Rattle.std.proofs.Common.{◌≡◌, ℕ, ◌+◌, ◌*◌, ◌/◌, ◌%◌, ◌^◌, ◌<◌, ◌≤◌, zero, suc, Bool, true, false, eqb, ltb, ◌&&◌, ◌||◌, not, List, [], ◌∷◌, ◌++◌, All, length, take, drop, get_or, set, refl, sym, ap, ◌∙◌, subst, arith, inl, inr, ◌⊎◌, length-append, bit_or, w64}
use Rattle.std.specs.Int.{trailing_zeros}
use Rattle.std.proofs.lemmas.List.{get_or-set_same, get_or-set_other, length-set, get_or-drop, get_or_append_left, take-append-drop, take_all, take_at, take-take}
use Rattle.std.proofs.lemmas.Bool.{cases_eq, cases_order, and_parts, lt-ltb, eqb-true, eq-eqb, ne_eqb}
use Rattle.std.proofs.lemmas.Nat.Bits.{bit_at-trailing_zeros}
use native.Mathlib.Nat.{mul-le-mul_right, suc-mul}
use lib.Count.{ones}
use Rattle.graph_theory.specs.Neighbours.{members}
use Rattle.bit_rows.specs.BitRows.{is_set, has, word_values}
use Rattle.domain_bits.specs.Removals.{State, times, in_domain, size_of, at_vertex, without_all, undone}
use Rattle.domain_bits.specs.Changes.{Grows}
use Rattle.domain_bits.specs.Inside.{InRange, Kept}
use Rattle.bit_rows.proofs.Passing.{members_none, length-members}
use Rattle.bit_rows.proofs.WordBits.{members_word, length-word_values, word_values-zero, is_set_or}
use Rattle.bit_rows.proofs.Rows.{has_same}
use Rattle.domain_bits.proofs.Removed.{times-append, times-members, in_domain-without_other, in_domain-without_own, size_of-without, length-at_vertex}
use Rattle.domain_bits.proofs.Keeping.{state, kept_change, row_starts, values_fit}

-- u is a value of this word
abbrev pub in_word : ℕ → ℕ → ℕ → Bool
in_word place word u = eqb (u / 64) place && is_set word (u % 64)

in_word_at : (place word b : ℕ) → b < 64 → is_set word b ≡ in_word place word (64 * place + b)
in_word_at place word b l =
    let q : (64 * place + b) / 64 ≡ place = omega arith in
    let r : (64 * place + b) % 64 ≡ b = omega arith in
    rw (q, r, eq-eqb place place refl) refl

in_word_below : (place word u : ℕ) → in_word place word u ≡ true → u < 64 * place + 64
in_word_below place word u e = let q = eqb-true (u / 64) place (and_parts (eqb (u / 64) place) (is_set word (u % 64)) e).0 in omega (arith, q)

in_word_from : (place word u : ℕ) → u < 64 * place → in_word place word u ≡ false
in_word_from place word u l = rw (ne_eqb (u / 64) place (λ e. absurd (omega arith))) refl

-- a word's values are the numbers that are values of this word
pub word_values_members : (place word : ℕ) → word_values place word ≡ members (in_word place word) (64 * place + 64)
word_values_members place word =
    sym (members_word (in_word place word) place word (λ b l. in_word_at place word b l)
    ∙ ap (λ us. us ++ word_values place word) (members_none (in_word place word) (64 * place) (λ i l. in_word_from place word i l)))

-- a pair of the trail is in range
pub range_at : (v n : ℕ) (xs : List (ℕ × ℕ)) (q t : ℕ) → All (InRange v n) xs → 0 < times xs q t → InRange v n (q, t)
range_at v n [] q t all some = absurd (omega arith)
range_at v n (x ∷ xs) q t all some = by (eqb x.0 q) (eqb x.1 t) refl refl (range_at v n xs q t (λ k d l. all (suc k) d (omega arith)))
  where
    first : InRange v n x
    first = all 0 x (omega arith)

    by : (a b : Bool) → eqb x.0 q ≡ a → eqb x.1 t ≡ b → (0 < times xs q t → InRange v n (q, t)) → InRange v n (q, t)
    by true true ea eb rest = record { vertex = subst (λ i. i < v) (eqb-true x.0 q ea) first.vertex; value = subst (λ i. i < n) (eqb-true x.1 t eb) first.value }
    by true false ea eb rest = let h = rw (ea, eb) at some in rest (omega arith)
    by false b ea eb rest = let h = rw ea at some in rest (omega arith)

-- the domains before a run was removed, and after it
pub run_removed : (v n p place word : ℕ) (removed : List (ℕ × ℕ)) → state v n (removed ++ at_vertex p (word_values place word))
    ≡ without_all (state v n removed) p (members (in_word place word) (64 * place + 64))
run_removed v n p place word removed = ap (λ us. state v n (removed ++ at_vertex p us)) (word_values_members place word)

-- another vertex's domain was the same before a run was removed
pub in_domain-before : (v n p place word : ℕ) (now later : List (ℕ × ℕ)) (q t : ℕ) → now ≡ later ++ at_vertex p (word_values place word) → (q ≡ p → ⊥)
    → in_domain (state v n later) q t ≡ in_domain (state v n now) q t
in_domain-before v n p place word now later q t e ne =
    sym (ap (λ xs. in_domain (state v n xs) q t) e ∙ ap (λ d. in_domain d q t) (run_removed v n p place word later)
    ∙ in_domain-without_other (state v n later) (in_word place word) (64 * place + 64) p q t ne)

-- what is known of a run at the end of the trail
pub record Last (v n words p place word : ℕ) (removed : List (ℕ × ℕ)) (sizes : List ℕ) : Type 0 where
  pub vertex : p < v
  pub place-in : place < words
  pub values : (u : ℕ) → in_word place word u ≡ true → in_domain (state v n removed) p u ≡ true
  pub size : size_of (state v n removed) p ≡ get_or sizes p 0 + ones word
  pub first : in_domain (state v n removed) p (64 * place + trailing_zeros w64 word) ≡ true

pub last_run_is : (v n words : ℕ) (removed : List (ℕ × ℕ)) (rows sizes : List ℕ) (cap p place word : ℕ)
    → Kept (state v n (removed ++ at_vertex p (word_values place word))) words rows sizes cap → 0 < word → word < 2 ^ 64
    → Last v n words p place word removed sizes
last_run_is v n words removed rows sizes cap p place word k some small = record {
  vertex = lowest.vertex;
  place-in = omega (arith, lowest.value, (values_fit v n words _ rows sizes cap k).0);
  values = inside;
  size = size_of-without (state v n removed) f m p (in_word_below place word) inside
      ∙ rw (sym (length-members f m) ∙ ap length (sym (word_values_members place word)) ∙ length-word_values place word small)
      (omega (arith, sym (k.counts p lowest.vertex) ∙ refl, ap (λ d. size_of d p) (run_removed v n p place word removed)));
  first = inside (64 * place + trailing_zeros w64 word) lowest-in;
}
  where
    f : ℕ → Bool
    f = in_word place word

    m : ℕ
    m = 64 * place + 64

    trail : List (ℕ × ℕ)
    trail = removed ++ at_vertex p (word_values place word)

    often : (u : ℕ) → in_word place word u ≡ true → times (removed ++ at_vertex p (word_values place word)) p u ≡ times removed p u + 1
    often u e = rw (
      word_values_members place word,
      times-append removed (at_vertex p (members (in_word place word) (64 * place + 64))) p u,
      times-members (in_word place word) (64 * place + 64) p p u,
      eq-eqb p p refl,
      lt-ltb u (64 * place + 64) (in_word_below place word u e),
      e,
    ) refl

    ranged : (u : ℕ) → in_word place word u ≡ true → InRange v n (p, u)
    ranged u e = range_at v n (removed ++ at_vertex p (word_values place word)) p u k.range (omega (arith, often u e))

    inside : (u : ℕ) → in_word place word u ≡ true → in_domain (state v n removed) p u ≡ true
    inside u e = rw (lt-ltb u n (ranged u e).value) (eq-eqb (times removed p u) 0 (omega (arith, often u e, k.once p u)))

    low : (trailing_zeros w64 word < 64) × (is_set word (trailing_zeros w64 word) ≡ true)
    low = let h = bit_at-trailing_zeros w64 word some small in (h.0, rw h.1 refl)

    lowest-in : in_word place word (64 * place + trailing_zeros w64 word) ≡ true
    lowest-in = sym (in_word_at place word (trailing_zeros w64 word) low.0) ∙ low.1

    lowest : InRange v n (p, 64 * place + trailing_zeros w64 word)
    lowest = ranged (64 * place + trailing_zeros w64 word) lowest-in

joined : (d e f : Bool) → e ≡ (d && not f) → (f ≡ true → d ≡ true) → (e || f) ≡ d
joined d e true h back = rw (back refl) (by e)
  where
    by : (x : Bool) → (x || true) ≡ true
    by true = refl
    by false = refl
joined d e false h back = rw h (by d)
  where
    by : (x : Bool) → ((x && true) || false) ≡ x
    by true = refl
    by false = refl

-- the rows when the run has been given back
pub back_kept : (v n words : ℕ) (removed : List (ℕ × ℕ)) (rows sizes : List ℕ) (cap p place word : ℕ)
    → Kept (state v n (removed ++ at_vertex p (word_values place word))) words rows sizes cap → 0 < word → word < 2 ^ 64
    → Kept (state v n removed) words (set rows (p * words + place) (bit_or (get_or rows (p * words + place) 0) word)) (set sizes p (get_or sizes p 0 + ones word)) cap
back_kept v n words removed rows sizes cap p place word k some small =
    kept_change v n words (removed ++ at_vertex p (word_values place word)) removed rows
    (set rows (p * words + place) (bit_or (get_or rows (p * words + place) 0) word)) sizes cap p (get_or sizes p 0 + ones word) k last.vertex
    (length-set rows (p * words + place) _)
    own others
    (λ q t ne. in_domain-before v n p place word (removed ++ at_vertex p (word_values place word)) removed q t refl ne)
    (sym last.size)
    (λ q t. omega (arith, k.once q t, times-append removed (at_vertex p (word_values place word)) q t))
    (λ i d l. let h : i < length (removed ++ at_vertex p (word_values place word)) = omega (arith, length-append removed (at_vertex p (word_values place word))) in
    subst (InRange v n) (get_or_append_left removed (at_vertex p (word_values place word)) d i l) (k.range i d h))
    (omega (arith, length-append removed (at_vertex p (word_values place word)), length-at_vertex p (word_values place word), length-word_values place word small))
  where
    last : Last v n words p place word removed sizes
    last = last_run_is v n words removed rows sizes cap p place word k some small

    inside : p * words + place < length rows
    inside = omega (arith, row_starts v n words _ rows sizes cap p k last.vertex, last.place-in)

    then : (t : ℕ) → in_domain (state v n (removed ++ at_vertex p (word_values place word))) p t ≡ (in_domain (state v n removed) p t && not (in_word place word t))
    then t = ap (λ d. in_domain d p t) (run_removed v n p place word removed)
        ∙ in_domain-without_own (state v n removed) (in_word place word) (64 * place + 64) p t (in_word_below place word)

    row_new : (t : ℕ) → t < 64 * words → has (drop (p * words) (set rows (p * words + place) (bit_or (get_or rows (p * words + place) 0) word))) t
        ≡ (has (drop (p * words) rows) t || in_word place word t)
    row_new t l = by (cases_eq (t / 64) place)
      where
        by : (t / 64 ≡ place) ⊎ (t / 64 ≡ place → ⊥) → has (drop (p * words) (set rows (p * words + place) (bit_or (get_or rows (p * words + place) 0) word))) t
            ≡ (has (drop (p * words) rows) t || in_word place word t)
        by (inl e) =
            rw (
              get_or-drop (p * words) (set rows (p * words + place) (bit_or (get_or rows (p * words + place) 0) word)) (t / 64) 0,
              get_or-drop (p * words) rows (t / 64) 0,
              e,
              eq-eqb place place refl,
              get_or-set_same rows (p * words + place) (bit_or (get_or rows (p * words + place) 0) word) 0 inside,
              is_set_or (get_or rows (p * words + place) 0) word (t % 64),
            ) refl
        by (inr ne) =
            has_same (drop (p * words) (set rows (p * words + place) (bit_or (get_or rows (p * words + place) 0) word))) (drop (p * words) rows) t
            (get_or-drop (p * words) (set rows (p * words + place) (bit_or (get_or rows (p * words + place) 0) word)) (t / 64) 0
            ∙ get_or-set_other rows (p * words + place) (p * words + t / 64) _ 0 (λ e. ne (omega arith)) ∙ sym (get_or-drop (p * words) rows (t / 64) 0))
            ∙ sym (rw (ne_eqb (t / 64) place ne) (or-false (has (drop (p * words) rows) t)))
          where
            or-false : (x : Bool) → (x || false) ≡ x
            or-false true = refl
            or-false false = refl

    own : (t : ℕ) → t < 64 * words → has (drop (p * words) (set rows (p * words + place) (bit_or (get_or rows (p * words + place) 0) word))) t ≡ in_domain (state v n removed) p t
    own t l = row_new t l ∙ rw (k.bits p t last.vertex l)
        (joined (in_domain (state v n removed) p t) (in_domain (state v n (removed ++ at_vertex p (word_values place word))) p t) (in_word place word t) (then t) (last.values t))

    others : (q t : ℕ) → (q ≡ p → ⊥) → t < 64 * words
        → has (drop (q * words) (set rows (p * words + place) (bit_or (get_or rows (p * words + place) 0) word))) t ≡ has (drop (q * words) rows) t
    others q t ne l = has_same _ (drop (q * words) rows) t
        (get_or-drop (q * words) (set rows (p * words + place) (bit_or (get_or rows (p * words + place) 0) word)) (t / 64) 0
        ∙ get_or-set_other rows (p * words + place) (q * words + t / 64) _ 0 (apart (cases_order q p)) ∙ sym (get_or-drop (q * words) rows (t / 64) 0))
      where
        apart : (q ≡ p) ⊎ ((q < p) ⊎ (p < q)) → q * words + t / 64 ≡ p * words + place → ⊥
        apart (inl e) h = ne e
        apart (inr (inl less)) h = omega (arith, mul-le-mul_right {m = suc q} {n = p} words less, suc-mul q words)
        apart (inr (inr more)) h = omega (arith, mul-le-mul_right {m = suc p} {n = q} words more, suc-mul p words, last.place-in)

-- what has been undone, in terms of membership
pub undone_grows : (d : State) (mark : ℕ) → Grows d (undone d mark)
undone_grows d mark = record {
  vertices_same = refl;
  values_same = refl;
  rest = drop mark d.removed;
  front = sym (take-append-drop mark d.removed);
  more = more;
}
  where
    split : (q t : ℕ) → times d.removed q t ≡ times (take mark d.removed) q t + times (drop mark d.removed) q t
    split q t = ap (λ xs. times xs q t) (sym (take-append-drop mark d.removed)) ∙ times-append (take mark d.removed) (drop mark d.removed) q t

    more : (q t : ℕ) → in_domain d q t ≡ true → in_domain (undone d mark) q t ≡ true
    more q t e =
        let parts = and_parts (ltb t d.values) (eqb (times d.removed q t) 0) e in
        rw parts.0 (eq-eqb (times (take mark d.removed) q t) 0 (omega (arith, split q t, eqb-true (times d.removed q t) 0 parts.1)))

-- ---- going back, run by run

-- the trail is a front of what it was, down to the mark at most, and rows and sizes are as it says
pub record Unwinding (v n words : ℕ) (before now : List (ℕ × ℕ)) (rows sizes : List ℕ) (cap mark : ℕ) : Type 0 where
  pub kept : Kept (state v n now) words rows sizes cap
  pub front : now ≡ take (length now) before
  pub above : mark ≤ length now

pub unwinding_begins : (v n words : ℕ) (before : List (ℕ × ℕ)) (rows sizes : List ℕ) (cap mark : ℕ)
    → Kept (state v n before) words rows sizes cap → mark ≤ length before → Unwinding v n words before before rows sizes cap mark
unwinding_begins v n words before rows sizes cap mark k l = record { kept = k; front = sym (take_all (length before) before (omega arith)); above = l }

-- a run that is not empty has a bit
pub run_some : (p place word : ℕ) (now later : List (ℕ × ℕ)) → now ≡ later ++ at_vertex p (word_values place word) → length later < length now → 0 < word
run_some p place zero now later e fewer =
    absurd (omega (arith, fewer, ap length e, length-append later (at_vertex p (word_values place 0)), ap (λ us. length (at_vertex p us)) (word_values-zero place)))
run_some p place (suc word) now later e fewer = omega arith

pub unwinding_last : (v n words : ℕ) (before now later : List (ℕ × ℕ)) (rows sizes : List ℕ) (cap mark p place word : ℕ)
    → Unwinding v n words before now rows sizes cap mark → now ≡ later ++ at_vertex p (word_values place word) → length later < length now → word < 2 ^ 64
    → Last v n words p place word later sizes
unwinding_last v n words before now later rows sizes cap mark p place word u e fewer small =
    last_run_is v n words later rows sizes cap p place word (subst (λ xs. Kept (state v n xs) words rows sizes cap) e u.kept) (run_some p place word now later e fewer) small

pub unwinding_row : (v n words : ℕ) (before now later : List (ℕ × ℕ)) (rows sizes : List ℕ) (cap mark p place word : ℕ)
    → Unwinding v n words before now rows sizes cap mark → now ≡ later ++ at_vertex p (word_values place word) → length later < length now → word < 2 ^ 64
    → p * words + place < length rows
unwinding_row v n words before now later rows sizes cap mark p place word u e fewer small =
    let last = unwinding_last v n words before now later rows sizes cap mark p place word u e fewer small in
    omega (arith, row_starts v n words now rows sizes cap p u.kept last.vertex, last.place-in)

pub unwinding_more : (v n words : ℕ) (before now later : List (ℕ × ℕ)) (rows sizes : List ℕ) (cap cap' mark p place word : ℕ)
    → Unwinding v n words before now rows sizes cap mark → now ≡ later ++ at_vertex p (word_values place word) → length later < length now → word < 2 ^ 64
    → mark ≤ length later → cap' ≡ cap
    → Unwinding v n words before later (set rows (p * words + place) (bit_or (get_or rows (p * words + place) 0) word)) (set sizes p (get_or sizes p 0 + ones word)) cap' mark
unwinding_more v n words before now later rows sizes cap cap' mark p place word u e fewer small above room = record {
  kept = rw room (back_kept v n words later rows sizes cap p place word (subst (λ xs. Kept (state v n xs) words rows sizes cap) e u.kept) (run_some p place word now later e fewer) small);
  front = sym (take_at later (at_vertex p (word_values place word)) (length later) refl)
      ∙ ap (take (length later)) (sym e ∙ u.front) ∙ take-take (length later) (length now) before (omega arith);
  above = above;
}

pub unwinding_ends : (v n words : ℕ) (before now : List (ℕ × ℕ)) (rows sizes : List ℕ) (cap mark : ℕ)
    → Unwinding v n words before now rows sizes cap mark → length now ≤ mark → now ≡ take mark before
unwinding_ends v n words before now rows sizes cap mark u l = let e : length now ≡ mark = omega (arith, u.above) in u.front ∙ ap (λ m. take m before) e
