-- All steps of a merged log have their numbers in their ranges.
use Rattle.std.proofs.Common.{◌≡◌, ℕ, zero, suc, ◌+◌, ◌^◌, ◌<◌, ◌≤◌, List, [], ◌∷◌, ◌++◌, length, take, drop, Option, Some, None, option_map, refl, sym, ap, subst, ◌∙◌, arith}
use Rattle.std.specs.Prelude.{slice_get}
use Rattle.std.proofs.lemmas.Option.{slice_get_within, slice_get-map}
use Rattle.log_theory.specs.declared.step.Ref.TheVariants.{Made}
use Rattle.log_theory.specs.declared.step.Step.{Step}
use Rattle.log_theory.specs.declared.step.Step.TheVariants.{N, E}
use Rattle.nogood_book.specs.declared.row.Row.{Row as BookRow}
use Rattle.journals.specs.Keeping.{Keeping, AreSteps, BearNames}
use Rattle.journal_theory.specs.Journals.{numbered, Row, Journal}
use Rattle.journal_theory.specs.Merging.{journal_of, at_of, begun, lines_to, noted_at, row_lines, row_done, merge_from, merged, last_name}
use Rattle.journal_theory.proofs.Placing.{get_some, take_all, some_same}
use Rattle.merged_log.specs.Steps.{journals_in, row_in, rows_in, StandAtOwners, AllWritten, HaveOwners, NotesAreOfLines}
use Rattle.merged_log.proofs.PartTexts.{names_part}
use Rattle.merged_log.proofs.RowSteps.{journal_here, rows_long}

steps_on : (xs ys : List Step) → AreSteps xs → AreSteps ys → AreSteps (xs ++ ys)
steps_on [] ys a b = b
steps_on (x ∷ xs) ys a b = (a.0, steps_on xs ys a.1 b)

steps_take : (n : ℕ) (ss : List Step) → AreSteps ss → AreSteps (take n ss)
steps_take zero ss h = tt
steps_take (suc n) [] h = tt
steps_take (suc n) (s ∷ ss) h = (h.0, steps_take n ss h.1)

steps_drop : (n : ℕ) (ss : List Step) → AreSteps ss → AreSteps (drop n ss)
steps_drop zero ss h = h
steps_drop (suc n) [] h = tt
steps_drop (suc n) (s ∷ ss) h = steps_drop n ss h.1

module _ (js : List Keeping) (rows : List BookRow) (down : AllWritten js) (owners : StandAtOwners js) (owned : HaveOwners js rows) (of_lines : NotesAreOfLines (journals_in js) (rows_in rows)) (few : length js ≤ 65) (many : length rows ≤ 4194304) where
  lines_steps : (w : ℕ) → w < length js → AreSteps (journal_of (journals_in js) w).lines
  lines_steps w h = let j = get_some js w h in subst (λ (x : Journal). AreSteps x.lines) (sym (journal_here js w j.0 j.1)) (down w j.0 j.1).ranges

  lines_named : (w : ℕ) → w < length js → BearNames w (journal_of (journals_in js) w).lines
  lines_named w h =
      let j = get_some js w h in
      subst (λ (x : Journal). BearNames w x.lines) (sym (journal_here js w j.0 j.1)) (subst (λ (v : ℕ). BearNames v j.0.steps) (owners w j.0 j.1) (down w j.0 j.1).names)

  lines_few : (w : ℕ) → w < length js → length (journal_of (journals_in js) w).lines < 2 ^ 63
  lines_few w h = let j = get_some js w h in subst (λ (x : Journal). length x.lines < 2 ^ 63) (sym (journal_here js w j.0 j.1)) (down w j.0 j.1).few

  -- Some of an owner's lines in order.
  part_steps : (w from to : ℕ) → w < length js → AreSteps (numbered w from (drop from (take to (journal_of (journals_in js) w).lines)))
  part_steps w from to h =
      let lines = (journal_of (journals_in js) w).lines in
      subst AreSteps (sym (names_part w from to lines (lines_named w h))) (steps_drop from (take to lines) (steps_take to lines (lines_steps w h)))

  rest_steps : (w from : ℕ) → w < length js → AreSteps (numbered w from (drop from (journal_of (journals_in js) w).lines))
  rest_steps w from h =
      let lines = (journal_of (journals_in js) w).lines in
      subst (λ (ss : List Step). AreSteps (numbered w from (drop from ss))) (take_all lines (length lines) (omega arith)) (part_steps w from (length lines) h)

  owner_inside : (k : ℕ) (r : Row) → slice_get (rows_in rows) k ≡ Some r → r.owner < length js
  owner_inside k r at =
      let within = slice_get_within (rows_in rows) k r at in
      let b = get_some rows k (omega (arith, within, rows_long rows)) in
      let same : row_in b.0 ≡ r = some_same (row_in b.0) r (sym (slice_get-map row_in rows k ∙ ap (λ (o : Option BookRow). option_map row_in o) b.1) ∙ at) in
      subst (λ (x : Row). x.owner < length js) same (owned k b.0 b.1)

  -- What a row brings.
  row_steps : (k : ℕ) (done : List ℕ) (r : Row) → slice_get (rows_in rows) k ≡ Some r → AreSteps (row_lines (journals_in js) done k r.owner (noted_at (journals_in js) k r))
  row_steps k done r at = by (noted_at (journals_in js) k r) refl
    where
      by : (o : Option ℕ) → noted_at (journals_in js) k r ≡ o → AreSteps (row_lines (journals_in js) done k r.owner o)
      by None is = tt
      by (Some n) is =
          let inside = owner_inside k r at in
          let place = slice_get_within (rows_in rows) k r at in
          let line = of_lines k n r at is in
          let least = line.0 in
          let most = line.1 in
          let short = lines_few r.owner inside in
          steps_on (lines_to (journals_in js) done r.owner n) (N k (record { owner = r.owner; number = n }) ∷ []) (part_steps r.owner (at_of done r.owner) n inside)
          ((omega (arith, many, place, rows_long rows), record { owner_fits = omega (arith, few, inside); from_one = least; number_fits = omega (arith, most, short) }), tt)

  from_steps : (f k : ℕ) (rs : List Row) (done : List ℕ) → f < length js → ((i : ℕ) → slice_get rs i ≡ slice_get (rows_in rows) (k + i)) → AreSteps (merge_from (journals_in js) f k rs done)
  from_steps f k [] done inside stand = rest_steps f (at_of done f) inside
  from_steps f k (r ∷ rs) done inside stand =
      let here : slice_get (rows_in rows) k ≡ Some r = (let e : k ≡ k + 0 = omega arith in ap (slice_get (rows_in rows)) e ∙ sym (stand 0)) in
      let next = row_done done r.owner (noted_at (journals_in js) k r) in
      steps_on (row_lines (journals_in js) done k r.owner (noted_at (journals_in js) k r)) (merge_from (journals_in js) f (k + 1) rs next) (row_steps k done r here)
      (from_steps f (k + 1) rs next inside (λ i. let e : k + suc i ≡ k + 1 + i = omega arith in stand (suc i) ∙ ap (slice_get (rows_in rows)) e))

  -- The merged lines, and the last one.
  pub body_steps : (f : ℕ) → f < length js → 0 < length (journal_of (journals_in js) f).lines → AreSteps (merged (journals_in js) f (rows_in rows) ++ E (Made (last_name (journals_in js) f)) ∷ [])
  body_steps f inside some =
      let first : 0 < length js = omega (arith, inside) in
      steps_on (merged (journals_in js) f (rows_in rows)) (E (Made (last_name (journals_in js) f)) ∷ [])
      (steps_on (numbered 0 0 (journal_of (journals_in js) 0).lines) (merge_from (journals_in js) f 0 (rows_in rows) (begun (journals_in js))) (rest_steps 0 0 first)
      (from_steps f 0 (rows_in rows) (begun (journals_in js)) inside (λ i. let e : i ≡ 0 + i = omega arith in ap (slice_get (rows_in rows)) e)))
      (record { owner_fits = omega (arith, few, inside); from_one = some; number_fits = lines_few f inside }, tt)
