-- How marks grow, from the last line of a log to its first.
use Rattle.std.proofs.Common.{◌⊎◌, inl, inr, ◌≡◌, ◌≢◌, ℕ, zero, suc, ◌+◌, ◌<◌, ◌≤◌, List, [], ◌∷◌, ◌++◌, length, get_or, replicate, Option, Some, None, refl, sym, ap, ◌∙◌, subst, arith}
use Rattle.std.specs.Prelude.{slice_get}
use Rattle.std.proofs.lemmas.Bool.{cases_eq, cases_lt}
use Rattle.std.proofs.lemmas.List.{length-replicate}
use Rattle.std.proofs.lemmas.Option.{slice_get_within}
use Rattle.log_theory.specs.declared.step.Ref.{Ref}
use Rattle.log_theory.specs.declared.step.Step.{Step}
use Rattle.proof_theory.specs.Propagation.{IsAmong}
use Rattle.journal_theory.specs.Referring.{step_refs}
use Rattle.journal_theory.proofs.Placing.{some_same}
use Rattle.trim_theory.proofs.Listing.{among_front, among_behind, among_either}
use Rattle.proof_trim.specs.Marks.{MarksOne, MarksRefs, IsMarked}

-- Whether there is this place.
place_cases : (o : Option ℕ) (i : ℕ) → (o ≡ Some i) ⊎ (o ≡ Some i → ⊥)
place_cases None i = inr (λ e. cc)
place_cases (Some k) i = elim (cases_eq k i) [ inl e ↦ inl (ap (λ (n : ℕ). let p : Option ℕ = Some n in p) e) | inr ne ↦ inr (λ e. ne (some_number k i e)) ]
  where
    some_number : (a b : ℕ) → let x : Option ℕ = Some a in let y : Option ℕ = Some b in x ≡ y → a ≡ b
    some_number a b e = cc

-- No references mark nothing.
pub marks_none : (place : Ref → Option ℕ) (limit mark : ℕ) (old : List ℕ) → MarksRefs place [] limit mark old old
marks_none place limit mark old = record {
  long = refl;
  kept = λ i ne. refl;
  past = λ i l. refl;
  reached = λ i q among p l. absurd among;
  from = λ i z ne. absurd (ne z);
}

-- One more reference.
pub marks_more : (place : Ref → Option ℕ) (refs : List Ref) (q : Ref) (limit mark : ℕ) (old now new : List ℕ) → mark ≢ 0 → MarksRefs place refs limit mark old now → MarksOne (place q) limit mark now new
    → MarksRefs place (refs ++ q ∷ []) limit mark old new
marks_more place refs q limit mark old now new some before one = record {
  long = one.long ∙ before.long;
  kept = λ i ne. one.kept i (λ e. ne (sym (before.kept i ne) ∙ e)) ∙ before.kept i ne;
  past = λ i l. one.past i l ∙ before.past i l;
  reached = λ i p among lands l. reached i p (among_either p refs (q ∷ []) among) lands l;
  from = λ i z ne. from i z ne (cases_eq (get_or now i 0) 0) (place_cases (place q) i);
}
  where
    stays : (i : ℕ) → get_or now i 0 ≢ 0 → get_or new i 0 ≢ 0
    stays i ne e = ne (sym (one.kept i ne) ∙ e)

    reached : (i : ℕ) (p : Ref) → IsAmong p refs ⊎ ((p ≡ q) ⊎ ⊥) → place p ≡ Some i → i < limit → get_or new i 0 ≢ 0
    reached i p (inl h) lands l = stays i (before.reached i p h lands l)
    reached i p (inr (inr h)) lands l = absurd h
    reached i p (inr (inl same)) lands l = by (cases_eq (get_or now i 0) 0)
      where
        by : (get_or now i 0 ≡ 0) ⊎ (get_or now i 0 ≡ 0 → ⊥) → get_or new i 0 ≢ 0
        by (inl z) = λ e. some (sym (one.marked i (sym (ap place same) ∙ lands) l z) ∙ e)
        by (inr ne) = stays i ne

    from : (i : ℕ) → get_or old i 0 ≡ 0 → get_or new i 0 ≢ 0 → (get_or now i 0 ≡ 0) ⊎ (get_or now i 0 ≡ 0 → ⊥) → (place q ≡ Some i) ⊎ (place q ≡ Some i → ⊥)
        → (get_or new i 0 ≡ mark) × ((p : Ref) × IsAmong p (refs ++ q ∷ []) × (place p ≡ Some i))
    from i z ne (inr marked) c = let h = before.from i z marked in (one.kept i marked ∙ h.0, (h.1.0, among_front h.1.0 refs (q ∷ []) h.1.1, h.1.2))
    from i z ne (inl zero_) (inr other) = absurd (ne (one.others i other ∙ zero_))
    from i z ne (inl zero_) (inl lands) = elim (cases_lt i limit) [
      | inl l ↦ (one.marked i lands l zero_, (q, among_behind q refs (q ∷ []) (inl refl), lands))
      | inr l ↦ absurd (ne (one.past i l ∙ zero_))
    ]

get_zeros : (n i : ℕ) → let x : ℕ = get_or {A = ℕ} (replicate n 0) i 0 in x ≡ 0
get_zeros zero i = refl
get_zeros (suc n) zero = refl
get_zeros (suc n) (suc i) = get_zeros n i

-- Before any line the last one has marked what it names.
pub marked_start : (place : Ref → Option ℕ) (made : List Step) (last : Step) (marks : List ℕ) → MarksRefs place (step_refs last) (length made) (length made + 1) (replicate (length made) 0) marks
    → IsMarked place made last (length made) marks
marked_start place made last marks first = record {
  long = first.long ∙ length-replicate (length made) 0;
  by_line = λ i j s q l at kept among lands low. let w = slice_get_within made j s at in absurd (omega (arith, w, l));
  by_last = λ i q among lands l. let m = first.from i (get_zeros (length made) i) (first.reached i q among lands l) in let e = m.0 in omega (arith, e);
  from = λ i j is.
      let m = first.from i (get_zeros (length made) i) (λ e. omega (arith, is, e)) in
      let e = m.0 in
      (omega (arith, e, is), inr (omega (arith, e, is), m.1));
}

-- A line that is not needed marks nothing.
pub marked_left : (place : Ref → Option ℕ) (made : List Step) (last : Step) (at : ℕ) (marks : List ℕ) → get_or marks at 0 ≡ 0 → IsMarked place made last (at + 1) marks → IsMarked place made last at marks
marked_left place made last at marks left m = record {
  long = m.long;
  by_line = λ i j s q l is kept among lands low. m.by_line i j s q (above j l kept) is kept among lands low;
  by_last = m.by_last;
  from = λ i j is. let h = m.from i j is in (let l = h.0 in omega (arith, l), h.1);
}
  where
    above : (j : ℕ) → at ≤ j → get_or marks j 0 ≢ 0 → at + 1 ≤ j
    above j l kept = elim (cases_eq at j) [ inl e ↦ absurd (kept (sym (ap (λ (n : ℕ). get_or marks n 0) e) ∙ left)) | inr ne ↦ omega (arith, l, ne) ]

-- A line that is needed marks what it names.
pub marked_kept : (place : Ref → Option ℕ) (made : List Step) (last s : Step) (at : ℕ) (marks new : List ℕ) → slice_get made at ≡ Some s → get_or marks at 0 ≢ 0 → MarksRefs place (step_refs s) at (at + 1) marks new
    → IsMarked place made last (at + 1) marks → IsMarked place made last at new
marked_kept place made last s at marks new here needed more m = record {
  long = more.long ∙ m.long;
  by_line = λ i j u q l is kept among lands low. by i j u q l is kept among lands low (cases_eq at j) (cases_eq (get_or marks i 0) 0);
  by_last = λ i q among lands l. let h = m.by_last i q among lands l in let e = more.kept i (λ z. omega (arith, h, z)) in omega (arith, h, e);
  from = λ i j is. from i j is (cases_eq (get_or marks i 0) 0);
}
  where
    -- a mark of a place from this line on is as it was
    same : (j : ℕ) → at ≤ j → get_or new j 0 ≡ get_or marks j 0
    same j l = more.past j l

    -- what was marked is marked by a later line
    later : (i : ℕ) → get_or marks i 0 ≢ 0 → at + 1 < get_or marks i 0
    later i ne = by-mark (get_or marks i 0) refl
      where
        by-mark : (n : ℕ) → get_or marks i 0 ≡ n → at + 1 < get_or marks i 0
        by-mark zero e = absurd (ne e)
        by-mark (suc j) e = let h = m.from i j e in let l = h.0 in omega (arith, l, e)

    by : (i j : ℕ) (u : Step) (q : Ref) → at ≤ j → slice_get made j ≡ Some u → get_or new j 0 ≢ 0 → IsAmong q (step_refs u) → place q ≡ Some i → i < j → (at ≡ j) ⊎ (at ≡ j → ⊥)
        → (get_or marks i 0 ≡ 0) ⊎ (get_or marks i 0 ≡ 0 → ⊥) → j < get_or new i 0
    by i j u q l is kept among lands low (inr ne) c =
        let h = m.by_line i j u q (omega (arith, l, ne)) is (λ z. kept (same j l ∙ z)) among lands low in
        let e = more.kept i (λ z. omega (arith, h, z)) in
        omega (arith, h, e)
    by i j u q l is kept among lands low (inl e) (inr marked) = let h = later i marked in let k = more.kept i marked in omega (arith, h, k, e)
    by i j u q l is kept among lands low (inl e) (inl zero_) =
        let one : u ≡ s = some_same u s (sym is ∙ ap (slice_get made) (sym e) ∙ here) in
        let h = more.from i zero_ (more.reached i q (subst (λ (x : Step). IsAmong q (step_refs x)) one among) lands (omega (arith, low, e))) in
        let v = h.0 in
        omega (arith, v, e)

    from : (i j : ℕ) → get_or new i 0 ≡ suc j → (get_or marks i 0 ≡ 0) ⊎ (get_or marks i 0 ≡ 0 → ⊥)
        → (at ≤ j) × (((u : Step) × (slice_get made j ≡ Some u) × (get_or new j 0 ≢ 0) × ((q : Ref) × IsAmong q (step_refs u) × (place q ≡ Some i)))
        ⊎ ((j ≡ length made) × ((q : Ref) × IsAmong q (step_refs last) × (place q ≡ Some i))))
    from i j is (inr marked) =
        let h = m.from i j (sym (more.kept i marked) ∙ is) in
        let l = h.0 in (
          omega (arith, l),
          elim h.1 [
            | inl k ↦ inl (k.0, k.1, (λ z. k.2 (sym (same j (omega (arith, l))) ∙ z)), k.3)
            | inr k ↦ inr k
          ],
        )
    from i j is (inl zero_) =
        let h = more.from i zero_ (λ z. omega (arith, is, z)) in
        let v = h.0 in
        let e : at ≡ j = omega (arith, v, is) in (
          omega (arith, e),
          inl (s, ap (slice_get made) (sym e) ∙ here, (λ z. needed (sym (same at (omega arith)) ∙ ap (λ (n : ℕ). get_or new n 0) e ∙ z)), h.1),
        )
