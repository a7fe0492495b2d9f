-- What rows bring, row after row.
use Rattle.std.proofs.Common.{◌≡◌, ℕ, zero, suc, ◌+◌, ◌<◌, ◌≤◌, cond, List, [], ◌∷◌, ◌++◌, length, take, drop, get_or, set, replicate, map, Option, Some, None, option_map, refl, sym, ap, ◌∙◌, append_assoc, append-nil, arith}
use Rattle.std.specs.Prelude.{slice_get}
use Rattle.std.proofs.lemmas.List.{take-append-drop}
use Rattle.std.proofs.lemmas.Option.{slice_get_within, slice_get-map, get_or_from_slice_get}
use Rattle.log_theory.specs.declared.step.Step.{Step}
use Rattle.log_theory.specs.declared.step.Step.TheVariants.{N}
use Rattle.nogood_book.specs.declared.row.Row.{Row as BookRow}
use Rattle.nogood_book.specs.declared.row.RowKind.{RowKind}
use Rattle.nogood_book.specs.declared.row.RowKind.TheVariants.{Nogood}
use Rattle.nogood_book.specs.Places.{is_nogood}
use Rattle.journals.specs.Keeping.{Keeping}
use Rattle.journal_theory.specs.Journals.{numbered, note_of, Row, Journal, no_journal}
use Rattle.journal_theory.specs.Merging.{journal_of, at_of, begun, row_lines, row_done, noted_at, merge_from}
use Rattle.journal_theory.proofs.Placing.{take_next, take_all, some_same}
use Rattle.merged_log.specs.Lines.{part_of, brought, count_then}
use Rattle.merged_log.specs.Steps.{rows_steps, rows_done, journal_in, row_in, journals_in, rows_in}

-- The merge is what the rows bring, and then the finisher's further lines.
pub merge_parts : (js : List Journal) (f k : ℕ) (rs : List Row) (done : List ℕ)
    → merge_from js f k rs done ≡ rows_steps js k rs done ++ numbered f (at_of (rows_done js k rs done) f) (drop (at_of (rows_done js k rs done) f) (journal_of js f).lines)
merge_parts js f k [] done = refl
merge_parts js f k (r ∷ rs) done =
    let here = row_lines js done k r.owner (noted_at js k r) in
    let next = row_done done r.owner (noted_at js k r) in
    ap (λ (ss : List Step). here ++ ss) (merge_parts js f (k + 1) rs next) ∙ sym (append_assoc here (rows_steps js (k + 1) rs next) _)

-- Rows and then others.
pub rows_join : (js : List Journal) (k : ℕ) (xs ys : List Row) (done : List ℕ) → rows_steps js k (xs ++ ys) done ≡ rows_steps js k xs done ++ rows_steps js (k + length xs) ys (rows_done js k xs done)
rows_join js k [] ys done = let e : k ≡ k + 0 = omega arith in ap (λ (n : ℕ). rows_steps js n ys done) e
rows_join js k (r ∷ rs) ys done =
    let here = row_lines js done k r.owner (noted_at js k r) in
    let next = row_done done r.owner (noted_at js k r) in
    let e : k + 1 + length rs ≡ k + suc (length rs) = omega arith in
    ap (λ (ss : List Step). here ++ ss) (rows_join js (k + 1) rs ys next)
    ∙ sym (append_assoc here (rows_steps js (k + 1) rs next) (rows_steps js (k + 1 + length rs) ys (rows_done js (k + 1) rs next)))
    ∙ ap (λ (n : ℕ). (here ++ rows_steps js (k + 1) rs next) ++ rows_steps js n ys (rows_done js (k + 1) rs next)) e

pub done_join : (js : List Journal) (k : ℕ) (xs ys : List Row) (done : List ℕ) → rows_done js k (xs ++ ys) done ≡ rows_done js (k + length xs) ys (rows_done js k xs done)
done_join js k [] ys done = let e : k ≡ k + 0 = omega arith in ap (λ (n : ℕ). rows_done js n ys done) e
done_join js k (r ∷ rs) ys done =
    let next = row_done done r.owner (noted_at js k r) in
    let e : k + 1 + length rs ≡ k + suc (length rs) = omega arith in
    done_join js (k + 1) rs ys next ∙ ap (λ (n : ℕ). rows_done js n ys (rows_done js (k + 1) rs next)) e

-- One row more.
next_rows : (rows : List Row) (i : ℕ) → i ≤ length rows → 0 + length (take i rows) ≡ i
next_rows rows zero h = omega arith
next_rows [] (suc i) h = absurd (omega arith)
next_rows (r ∷ rs) (suc i) h = let e = next_rows rs i (omega (arith, h)) in omega (arith, e)

pub rows_more : (js : List Journal) (rows : List Row) (i : ℕ) (r : Row) (done : List ℕ) → slice_get rows i ≡ Some r
    → rows_steps js 0 (take (i + 1) rows) done ≡ rows_steps js 0 (take i rows) done ++ row_lines js (rows_done js 0 (take i rows) done) i r.owner (noted_at js i r)
rows_more js rows i r done at =
    let before = rows_done js 0 (take i rows) done in
    let within = slice_get_within rows i r at in
    ap (λ (rs : List Row). rows_steps js 0 rs done) (take_next rows i r at)
    ∙ rows_join js 0 (take i rows) (r ∷ []) done
    ∙ ap (λ (k : ℕ). rows_steps js 0 (take i rows) done ++ rows_steps js k (r ∷ []) before) (next_rows rows i (omega (arith, within)))
    ∙ ap (λ (ss : List Step). rows_steps js 0 (take i rows) done ++ ss) (append-nil (row_lines js before i r.owner (noted_at js i r)))

pub done_more : (js : List Journal) (rows : List Row) (i : ℕ) (r : Row) (done : List ℕ) → slice_get rows i ≡ Some r
    → rows_done js 0 (take (i + 1) rows) done ≡ row_done (rows_done js 0 (take i rows) done) r.owner (noted_at js i r)
done_more js rows i r done at =
    let before = rows_done js 0 (take i rows) done in
    let within = slice_get_within rows i r at in
    ap (λ (rs : List Row). rows_done js 0 rs done) (take_next rows i r at)
    ∙ done_join js 0 (take i rows) (r ∷ []) done
    ∙ ap (λ (k : ℕ). rows_done js k (r ∷ []) before) (next_rows rows i (omega (arith, within)))

-- The rows so far and those after them.
pub rows_cut : (js : List Journal) (rows : List Row) (i : ℕ) (done : List ℕ)
    → rows_steps js 0 rows done ≡ rows_steps js 0 (take i rows) done ++ rows_steps js (0 + length (take i rows)) (drop i rows) (rows_done js 0 (take i rows) done)
rows_cut js rows i done = ap (λ (rs : List Row). rows_steps js 0 rs done) (sym (take-append-drop i rows)) ∙ rows_join js 0 (take i rows) (drop i rows) done

-- ---- journals that are kept

pub journal_here : (js : List Keeping) (w : ℕ) (j : Keeping) → slice_get js w ≡ Some j → journal_of (journals_in js) w ≡ journal_in j
journal_here js w j at = get_or_from_slice_get (journals_in js) w (journal_in j) no_journal (slice_get-map journal_in js w ∙ ap (λ (o : Option Keeping). option_map journal_in o) at)

pub noted_is : (js : List Keeping) (k : ℕ) (r : BookRow) (j : Keeping) → slice_get js r.owner ≡ Some j → r.kind ≡ Nogood → noted_at (journals_in js) k (row_in r) ≡ note_of j.notes k
noted_is js k r j at kind =
    ap (λ (x : RowKind). cond (is_nogood x) (note_of (journal_of (journals_in js) r.owner).notes k) None) kind
    ∙ ap (λ (x : Journal). note_of x.notes k) (journal_here js r.owner j at)

lines_of : (js : List Journal) (done : List ℕ) (k w : ℕ) (j : Keeping) (o : Option ℕ) → journal_of js w ≡ journal_in j → j.owner ≡ w → row_lines js done k w o ≡ brought j (at_of done w) k o
lines_of js done k w j None at owner = refl
lines_of js done k w j (Some n) at owner =
    ap (λ (x : Journal). numbered w (at_of done w) (drop (at_of done w) (take n x.lines)) ++ N k (record { owner = w; number = n }) ∷ []) at
    ∙ ap (λ (v : ℕ). numbered v (at_of done w) (drop (at_of done w) (take n j.steps)) ++ N k (record { owner = v; number = n }) ∷ []) (sym owner)

-- What a nogood's row brings is what its owner's journal brings.
pub row_brings : (js : List Keeping) (done : List ℕ) (k : ℕ) (r : BookRow) (j : Keeping) → slice_get js r.owner ≡ Some j → j.owner ≡ r.owner → r.kind ≡ Nogood
    → row_lines (journals_in js) done k r.owner (noted_at (journals_in js) k (row_in r)) ≡ brought j (at_of done r.owner) k (note_of j.notes k)
row_brings js done k r j at owner kind =
    ap (row_lines (journals_in js) done k r.owner) (noted_is js k r j at kind) ∙ lines_of (journals_in js) done k r.owner j (note_of j.notes k) (journal_here js r.owner j at) owner

set_same : (xs : List ℕ) (i : ℕ) → i < length xs → set xs i (get_or xs i 0) ≡ xs
set_same [] i h = absurd (omega arith)
set_same (x ∷ xs) zero h = refl
set_same (x ∷ xs) (suc i) h = ap (λ (ys : List ℕ). x ∷ ys) (set_same xs i (omega (arith, h)))

counts_of : (done : List ℕ) (w : ℕ) (o : Option ℕ) → w < length done → set done w (count_then (at_of done w) o) ≡ row_done done w o
counts_of done w None h = set_same done w h
counts_of done w (Some n) h = refl

pub row_counts : (js : List Keeping) (done : List ℕ) (k : ℕ) (r : BookRow) (j : Keeping) → slice_get js r.owner ≡ Some j → r.kind ≡ Nogood → r.owner < length done
    → set done r.owner (count_then (at_of done r.owner) (note_of j.notes k)) ≡ row_done done r.owner (noted_at (journals_in js) k (row_in r))
row_counts js done k r j at kind within = counts_of done r.owner (note_of j.notes k) within ∙ ap (row_done done r.owner) (sym (noted_is js k r j at kind))

-- The further lines of a finisher are its journal's from a count on.
pub last_part : (js : List Keeping) (f : ℕ) (j : Keeping) (at n : ℕ) → slice_get js f ≡ Some j → j.owner ≡ f → length j.steps ≤ n
    → part_of j at n ≡ numbered f at (drop at (journal_of (journals_in js) f).lines)
last_part js f j at n here owner all =
    ap (λ (ss : List Step). numbered j.owner at (drop at ss)) (take_all j.steps n all)
    ∙ ap (λ (w : ℕ). numbered w at (drop at j.steps)) owner
    ∙ ap (λ (x : Journal). numbered f at (drop at x.lines)) (sym (journal_here js f j here))

-- All lines of owner 0 are a part from 0 on.
pub first_part : (js : List Keeping) (j : Keeping) (n : ℕ) → slice_get js 0 ≡ Some j → j.owner ≡ 0 → length j.steps ≤ n → part_of j 0 n ≡ numbered 0 0 (journal_of (journals_in js) 0).lines
first_part js j n here owner all = last_part js 0 j 0 n here owner all

pub long_in : (js : List Keeping) → length (journals_in js) ≡ length js
long_in [] = refl
long_in (j ∷ js) = ap suc (long_in js)

pub rows_long : (rows : List BookRow) → length (rows_in rows) ≡ length rows
rows_long [] = refl
rows_long (r ∷ rs) = ap suc (rows_long rs)

-- No line of some owners.
abbrev no_lines : List Journal → List ℕ
no_lines js = map (λ (j : Journal). 0) js

no_counts : (js : List Keeping) → replicate {A = ℕ} (length js) 0 ≡ no_lines (journals_in js)
no_counts [] = refl
no_counts (j ∷ js) = ap (λ (ns : List ℕ). 0 ∷ ns) (no_counts js)

pub begun_is : (js : List Keeping) (done : List ℕ) (j : Keeping) (n : ℕ) → done ≡ replicate (length js) 0 → slice_get js 0 ≡ Some j → n ≡ length j.steps → set done 0 n ≡ begun (journals_in js)
begun_is [] done j n none here is = absurd cc
begun_is (k ∷ ks) done j n none here is =
    let same : k ≡ j = some_same k j here in
    ap (λ (ds : List ℕ). set ds 0 n) none ∙ ap (λ (ds : List ℕ). n ∷ ds) (no_counts ks)
    ∙ ap (λ (m : ℕ). m ∷ no_lines (journals_in ks)) (is ∙ ap (λ (x : Keeping). length x.steps) (sym same))

pub take_replicate : (n m : ℕ) → n ≤ m → take {A = ℕ} n (replicate m 0) ≡ replicate n 0
take_replicate zero m h = refl
take_replicate (suc n) zero h = absurd (omega arith)
take_replicate (suc n) (suc m) h = ap (λ (ns : List ℕ). 0 ∷ ns) (take_replicate n m (omega (arith, h)))

pub begun_long : (js : List Keeping) → length (begun (journals_in js)) ≡ length js
begun_long [] = refl
begun_long (j ∷ js) = ap suc (long js)
  where
    long : (ks : List Keeping) → length (no_lines (journals_in ks)) ≡ length ks
    long [] = refl
    long (k ∷ ks) = ap suc (long ks)
