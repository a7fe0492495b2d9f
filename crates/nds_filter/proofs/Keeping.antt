-- The row that belongs to a pattern vertex, and to each vertex of the same sequence.

use Rattle.std.proofs.Common.{◌≡◌, ℕ, ◌+◌, ◌<◌, ◌≤◌, nat_lt, Bool, true, false, List, [], ◌∷◌, ◌++◌, length, take, get_or, refl, sym, ap, ◌∙◌, subst, zero-add, arith, inl, inr, ◌⊎◌}
use Rattle.std.proofs.lemmas.Bool.{cases_lt, lt-ltb, le-ltb, ltb-true}
use Rattle.std.proofs.lemmas.List.{get_or_append_left, get_or_push, length-append}
use Rattle.std.proofs.lemmas.List.FromFn.{get_or-map-range_with_len, length-map-range_with_len}
use Rattle.std.proofs.Math.Seq.{take-append_seam}
use Rattle.graph_theory.specs.Graph.{Graph, size}
use Rattle.graph_theory.specs.Embedding.{Problem}
use Rattle.graph_theory.specs.Neighbours.{degree, sequence, fails_at, IsKeptBy}
use Rattle.bit_rows.specs.BitRows.{has, words_for}
use Rattle.nds_filter.specs.Sequences.{sequences, sequence_at}
use Rattle.nds_filter.specs.Kept.{KeptRow, row_at, AreFirsts, RowsStay, AreKept}
use Rattle.nds_filter.proofs.CountedLists.{length-sequence}

-- the sequence of a vertex, in the list of all of them
pub sequence_is : (g : Graph) (lists : List (List ℕ)) (a : ℕ) → lists ≡ sequences g → a < size g → sequence_at lists a ≡ sequence g a
sequence_is g lists a is a_in =
    ap (λ (v : List (List ℕ)). sequence_at v a) is ∙ get_or-map-range_with_len (sequence g) 0 (size g) a a [] a_in (zero-add a)

pub sequences_long : (g : Graph) (lists : List (List ℕ)) → lists ≡ sequences g → length lists ≡ size g
sequences_long g lists is = ap length is ∙ length-map-range_with_len (sequence g) 0 (size g)

-- a sequence that is kept is no longer
kept_length : (ps ts : List ℕ) → IsKeptBy ps ts → length ps ≤ length ts
kept_length ps ts kept = by (cases_lt (length ts) (length ps))
  where
    ended : length ts < length ps → fails_at ps ts (length ts) ≡ true
    ended less = rw (lt-ltb (length ts) (length ps) less, le-ltb (length ts) (length ts) (omega arith)) refl

    no_truth : (b : Bool) → b ≡ true → b ≡ false → ⊥
    no_truth b x y = cc

    by : (length ts < length ps) ⊎ (length ps ≤ length ts) → length ps ≤ length ts
    by (inl less) = absurd (no_truth (fails_at ps ts (length ts)) (ended less) (kept (length ts)))
    by (inr le) = le

-- so a vertex whose sequence keeps that of p has as many neighbours
pub kept_degree : (q : Problem) (p t : ℕ) → IsKeptBy (sequence q.pattern p) (sequence q.target t) → degree q.pattern p ≤ degree q.target t
kept_degree q p t kept =
    omega (arith, kept_length (sequence q.pattern p) (sequence q.target t) kept, length-sequence q.pattern p, length-sequence q.target t)

-- all target vertices, of them those with as many neighbours, and of these those whose sequences keep that of p
pub kept_made : (q : Problem) (p : ℕ) (ps ts : List (List ℕ)) (ss full part row : List ℕ) → ps ≡ sequences q.pattern → ts ≡ sequences q.target → p < size q.pattern
    → ss ≡ sequence_at ps p → length row ≡ words_for (size q.target)
    → ((t : ℕ) → has full t ≡ nat_lt t (size q.target))
    → ((t : ℕ) → has part t ≡ true → (has full t ≡ true) × (degree q.pattern p ≤ degree q.target t))
    → ((t : ℕ) → has full t ≡ true → degree q.pattern p ≤ degree q.target t → has part t ≡ true)
    → ((t : ℕ) → has row t ≡ true → (has part t ≡ true) × IsKeptBy ss (sequence_at ts t))
    → ((t : ℕ) → has part t ≡ true → IsKeptBy ss (sequence_at ts t) → has row t ≡ true)
    → KeptRow q p row
kept_made q p ps ts ss full part row p_is t_is p_in s_is long whole degrees_right degrees_all right all = record {
  long = long;
  within = inside;
  right = λ t h. there t (inside t h) (right t h).1;
  degrees = λ t h. (degrees_right t (right t h).0).1;
  complete = λ t t_in kept.
      all t (degrees_all t (whole t ∙ lt-ltb t (size q.target) t_in) (kept_degree q p t kept)) (back t t_in kept);
}
  where
    first : ss ≡ sequence q.pattern p
    first = s_is ∙ sequence_is q.pattern ps p p_is p_in

    inside : (t : ℕ) → has row t ≡ true → t < size q.target
    inside t h = ltb-true t (size q.target) (sym (whole t) ∙ (degrees_right t (right t h).0).0)

    there : (t : ℕ) → t < size q.target → IsKeptBy ss (sequence_at ts t) → IsKeptBy (sequence q.pattern p) (sequence q.target t)
    there t t_in kept =
        subst (λ (ys : List ℕ). IsKeptBy (sequence q.pattern p) ys) (sequence_is q.target ts t t_is t_in)
        (subst (λ (xs : List ℕ). IsKeptBy xs (sequence_at ts t)) first kept)

    back : (t : ℕ) → t < size q.target → IsKeptBy (sequence q.pattern p) (sequence q.target t) → IsKeptBy ss (sequence_at ts t)
    back t t_in kept =
        subst (λ (ys : List ℕ). IsKeptBy ss ys) (sym (sequence_is q.target ts t t_is t_in))
        (subst (λ (xs : List ℕ). IsKeptBy xs (sequence q.target t)) (sym first) kept)

-- the row of a vertex is that of each vertex of the same sequence
pub kept_same : (q : Problem) (p r : ℕ) (row : List ℕ) → sequence q.pattern r ≡ sequence q.pattern p → KeptRow q r row → KeptRow q p row
kept_same q p r row same kept = record {
  long = kept.long;
  within = kept.within;
  right = λ t h. subst (λ (xs : List ℕ). IsKeptBy xs (sequence q.target t)) same (kept.right t h);
  degrees = λ t h. kept_degree q p t (subst (λ (xs : List ℕ). IsKeptBy xs (sequence q.target t)) same (kept.right t h));
  complete = λ t t_in k. kept.complete t t_in (subst (λ (xs : List ℕ). IsKeptBy xs (sequence q.target t)) (sym same) k);
}

-- so the row of its class belongs to a vertex
pub kept_of_class : (q : Problem) (ps : List (List ℕ)) (firsts : List ℕ) (rows : List (List ℕ)) (p k : ℕ) → AreFirsts q firsts rows → ps ≡ sequences q.pattern → p < size q.pattern
    → k < length firsts → sequence_at ps (get_or firsts k 0) ≡ sequence_at ps p → KeptRow q p (row_at rows k)
kept_of_class q ps firsts rows p k are is p_in k_in same =
    let first_in = are.inside k k_in in
    kept_same q p (get_or firsts k 0) (row_at rows k)
    (sym (sequence_is q.pattern ps (get_or firsts k 0) is first_in) ∙ same ∙ sequence_is q.pattern ps p is p_in) (are.each k k_in)

-- ---- one class more

pub no_firsts : (q : Problem) (firsts : List ℕ) (rows : List (List ℕ)) → firsts ≡ [] → rows ≡ [] → AreFirsts q firsts rows
no_firsts q firsts rows none empty = rw (none, empty) (record {
  long = refl;
  inside = λ k k_in. absurd (omega arith);
  each = λ k k_in. absurd (omega arith);
})

pub firsts_more : (q : Problem) (firsts fs : List ℕ) (rows rs : List (List ℕ)) (p : ℕ) (row : List ℕ) → AreFirsts q firsts rows → p < size q.pattern → KeptRow q p row
    → fs ≡ firsts ++ p ∷ [] → rs ≡ rows ++ row ∷ [] → AreFirsts q fs rs
firsts_more q firsts fs rows rs p row are p_in kept f_is r_is = rw (f_is, r_is) (record {
  long = omega (arith, are.long, length-append firsts (p ∷ []), length-append rows (row ∷ []));
  inside = λ k k_in. inside k k_in (cases_lt k (length firsts));
  each = λ k k_in. each k k_in (cases_lt k (length firsts));
})
  where
    inside : (k : ℕ) → k < length (firsts ++ p ∷ []) → (k < length firsts) ⊎ (length firsts ≤ k) → get_or (firsts ++ p ∷ []) k 0 < size q.pattern
    inside k k_in (inl before) = rw (get_or_append_left firsts (p ∷ []) 0 k before) (are.inside k before)
    inside k k_in (inr here) =
        let at : length firsts ≡ k = omega (arith, length-append firsts (p ∷ [])) in
        rw (get_or_push firsts p 0 k at) p_in

    each : (k : ℕ) → k < length (firsts ++ p ∷ []) → (k < length firsts) ⊎ (length firsts ≤ k)
        → KeptRow q (get_or (firsts ++ p ∷ []) k 0) (row_at (rows ++ row ∷ []) k)
    each k k_in (inl before) =
        rw (get_or_append_left firsts (p ∷ []) 0 k before, get_or_append_left rows (row ∷ []) [] k (omega (arith, are.long))) (are.each k before)
    each k k_in (inr here) =
        let at : length firsts ≡ k = omega (arith, length-append firsts (p ∷ [])) in
        let too : length rows ≡ k = omega (arith, are.long) in
        rw (get_or_push firsts p 0 k at, get_or_push rows row [] k too) kept

pub rows_same : (rows : List (List ℕ)) → RowsStay rows rows
rows_same rows = record { longer = omega arith; each = λ k k_in. refl }

pub rows_more : (rows rs : List (List ℕ)) (row : List ℕ) → rs ≡ rows ++ row ∷ [] → RowsStay rows rs
rows_more rows rs row is = rw is (record {
  longer = omega (arith, length-append rows (row ∷ []));
  each = λ k k_in. get_or_append_left rows (row ∷ []) [] k k_in;
})

pub new_row : (q : Problem) (rows rs : List (List ℕ)) (p k : ℕ) (row : List ℕ) → rs ≡ rows ++ row ∷ [] → length rows ≡ k → KeptRow q p row → KeptRow q p (row_at rs k)
new_row q rows rs p k row is at kept = rw (is, get_or_push rows row [] k at) kept

-- ---- one vertex more

pub none_kept : (q : Problem) (classes : List ℕ) (rows : List (List ℕ)) → classes ≡ [] → AreKept q classes rows 0
none_kept q classes rows none = rw none (record {
  long = refl;
  inside = λ p p_in. absurd (omega arith);
  each = λ p p_in. absurd (omega arith);
})

pub kept_more : (q : Problem) (classes cs : List ℕ) (rows rs : List (List ℕ)) (n k : ℕ) → AreKept q classes rows n → RowsStay rows rs → k < length rs
    → KeptRow q n (row_at rs k) → cs ≡ classes ++ k ∷ [] → AreKept q cs rs (n + 1)
kept_more q classes cs rows rs n k are stay k_in kept is = rw is (record {
  long = omega (arith, are.long, length-append classes (k ∷ []));
  inside = λ p p_in. inside p p_in (cases_lt p n);
  each = λ p p_in. each p p_in (cases_lt p n);
})
  where
    inside : (p : ℕ) → p < n + 1 → (p < n) ⊎ (n ≤ p) → get_or (classes ++ k ∷ []) p 0 < length rs
    inside p p_in (inl before) = rw (get_or_append_left classes (k ∷ []) 0 p (omega (arith, are.long))) (omega (arith, are.inside p before, stay.longer))
    inside p p_in (inr here) = let at : length classes ≡ p = omega (arith, are.long) in rw (get_or_push classes k 0 p at) k_in

    each : (p : ℕ) → p < n + 1 → (p < n) ⊎ (n ≤ p) → KeptRow q p (row_at rs (get_or (classes ++ k ∷ []) p 0))
    each p p_in (inl before) =
        rw (get_or_append_left classes (k ∷ []) 0 p (omega (arith, are.long)), stay.each (get_or classes p 0) (are.inside p before)) (are.each p before)
    each p p_in (inr here) =
        let at : length classes ≡ p = omega (arith, are.long) in
        let e : n ≡ p = omega arith in
        rw (get_or_push classes k 0 p at, ← e) kept

-- ---- the row that is written in

-- items that were written in place of a vector's are as many as they were
pub kept_long : (n m : ℕ) (xs ys : List ℕ) → length xs ≡ n → n ≡ m → length (take n (xs ++ ys)) ≡ m
kept_long n m xs ys long is = ap length (subst (λ (k : ℕ). take k (xs ++ ys) ≡ xs) long (take-append_seam xs ys)) ∙ (long ∙ is)
