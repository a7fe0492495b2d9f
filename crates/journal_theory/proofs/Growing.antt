-- How a journal stays one: with a further line, with rows that come, with a row that it notes.
use Rattle.std.proofs.Common.{◌⊎◌, inl, inr, ◌≡◌, ℕ, ◌<◌, ◌≤◌, ◌==◌, nat_lt, Bool, true, false, cond, List, [], ◌∷◌, ◌++◌, length, take, Option, Some, None, Ok, refl, sym, ap, subst, ◌∙◌, length-append, arith}
use Rattle.std.specs.Prelude.{slice_get}
use Rattle.std.proofs.lemmas.Bool.{lt-ltb, ltb-true, eq-eqb, eqb-true}
use Rattle.std.proofs.lemmas.Option.{slice_get_within}
use Rattle.proof_theory.specs.Forms.{Form}
use Rattle.log_theory.specs.declared.step.Ref.{Ref}
use Rattle.log_theory.specs.declared.step.Ref.TheVariants.{Line, Made, Shared}
use Rattle.log_theory.specs.declared.step.Step.{Step}
use Rattle.log_theory.specs.Lookups.{Lookup, makes}
use Rattle.log_theory.specs.Tables.{from_one}
use Rattle.journal_theory.specs.Referring.{step_refs, Agree, NamesRow}
use Rattle.journal_theory.specs.Journals.{IsMaking, Finds, HoldsOwn, IsJournal, base_of, Row, IsNogoodOf, Journal, no_journal, note_of, Journaled, with_line, with_note, GrowsFor, PublishesAt, EndsInOwn}
use Rattle.journal_theory.specs.Laws.{GrowthLaws}
use Rattle.journal_theory.proofs.Agreeing.{makes_same}
use Rattle.journal_theory.proofs.Placing.{get_more, get_front, get_snoc, take_front, take_all, some_same, from_one_more, from_one_within}

-- ---- lines beside a base

pub finds_on : (a b c : Lookup) → Finds a b → Finds b c → Finds a c
finds_on a b c h k = record { alike = λ r f e. k.alike r f (h.alike r f e) }

-- a journal steps over a wider base
pub wider_base : (less more : Lookup) (owner : ℕ) (lines : List Step) (forms : List Form) → Finds less more → IsJournal less owner lines forms → IsJournal more owner lines forms
wider_base less more owner lines forms finds j = record {
  same = j.same;
  making = j.making;
  steps = λ k s f look at form found own. j.steps k s f look at form (finds_on less more look finds found) own;
}

-- one line more
pub journal_more : (base : Lookup) (owner : ℕ) (lines : List Step) (forms : List Form) (s : Step) (f : Form) → IsJournal base owner lines forms → IsMaking s
    → ((look : Lookup) → Finds base look → HoldsOwn owner forms look → makes look s ≡ Ok f) → IsJournal base owner (lines ++ s ∷ []) (forms ++ f ∷ [])
journal_more base owner lines forms s f j making goes = record {
  same = omega (arith, length-append lines (s ∷ []), length-append forms (f ∷ []), j.same);
  making = λ k x at. elim (get_snoc lines s x k at) [ inl h ↦ j.making k x h.1 | inr h ↦ subst IsMaking (sym h.1) making ];
  steps = λ k x g look at form found own. by k x g look at form found own (get_snoc lines s x k at) (get_snoc forms f g k form);
}
  where
    by : (k : ℕ) (x : Step) (g : Form) (look : Lookup) → slice_get (lines ++ s ∷ []) k ≡ Some x → slice_get (forms ++ f ∷ []) k ≡ Some g → Finds base look
        → HoldsOwn owner (take k (forms ++ f ∷ [])) look → ((k < length lines) × (slice_get lines k ≡ Some x)) ⊎ ((k ≡ length lines) × (x ≡ s))
        → ((k < length forms) × (slice_get forms k ≡ Some g)) ⊎ ((k ≡ length forms) × (g ≡ f)) → makes look x ≡ Ok g
    by k x g look at form found own (inl a) (inl b) =
        j.steps k x g look a.1 b.1 found (subst (λ (fs : List Form). HoldsOwn owner fs look) (take_front forms (f ∷ []) k (let l : k < length forms = b.0 in omega (arith, l))) own)
    by k x g look at form found own (inl a) (inr b) = let l : k < length lines = a.0 in let m : k ≡ length forms = b.0 in absurd (omega (arith, l, m, j.same))
    by k x g look at form found own (inr a) (inl b) = let l : k ≡ length lines = a.0 in let m : k < length forms = b.0 in absurd (omega (arith, l, m, j.same))
    by k x g look at form found own (inr a) (inr b) =
        let m : k ≡ length forms = b.0 in
        let whole : take k (forms ++ f ∷ []) ≡ forms = take_front forms (f ∷ []) k (omega (arith, m)) ∙ take_all forms k (omega (arith, m)) in
        rw (a.1, b.1) (goes look found (subst (λ (fs : List Form). HoldsOwn owner fs look) whole own))

-- ---- bases and rows

within_of : (b : Bool) (c f : Form) → cond b (Some c) None ≡ Some f → (b ≡ true) × (c ≡ f)
within_of true c f e = (refl, cc)
within_of false c f e = absurd cc

pub base_more : (model root : List Form) (clause other : ℕ → Form) (a b : ℕ) → a ≤ b → ((k : ℕ) → k < a → other k ≡ clause k) → Finds (base_of model root clause a) (base_of model root other b)
base_more model root clause other a b le same = record { alike = alike }
  where
    alike : (r : Ref) (f : Form) → base_of model root clause a r ≡ Some f → base_of model root other b r ≡ Some f
    alike (Line k) f e = e
    alike (Made name) f e = e
    alike (Shared row) f e =
        let w = within_of (nat_lt row a) (clause row) f e in
        let below : row < a = ltb-true row a w.0 in
        ap (λ (x : Bool). let o : Option Form = cond x (Some (other row)) None in o) (lt-ltb row b (omega (arith, below, le)))
        ∙ ap (λ (g : Form). let o : Option Form = Some g in o) (same row below ∙ w.1)

own_more : (rows rest : List Row) (k o : ℕ) → IsNogoodOf rows k o → IsNogoodOf (rows ++ rest) k o
own_more rows rest k o n = (n.0, get_more rows rest k n.0 n.1, n.2, n.3)

own_front : (rows rest : List Row) (k o : ℕ) → k < length rows → IsNogoodOf (rows ++ rest) k o → IsNogoodOf rows k o
own_front rows rest k o l n = (n.0, sym (get_front rows rest k l) ∙ n.1, n.2, n.3)

own_within : (rows : List Row) (k o : ℕ) → IsNogoodOf rows k o → k < length rows
own_within rows k o n = slice_get_within rows k n.0 n.1

-- ---- the ways of growing

starts : (model : List Form) (rows : List Row) (clause : ℕ → Form) (root : List Form) (owner : ℕ) → ((k : ℕ) → IsNogoodOf rows k owner → ⊥) → Journaled model rows clause root owner no_journal []
starts model rows clause root owner none = record {
  journal = record { same = refl; making = λ k s at. absurd cc; steps = λ k s f look at form found own. absurd cc };
  foreign = λ i k s at names. absurd cc;
  noted = λ k own. absurd (none k own);
  early = λ k n i m s own is below at names. absurd cc;
}

keeps : (model : List Form) (rows : List Row) (clause : ℕ → Form) (root : List Form) (owner : ℕ) (j : Journal) (forms : List Form) (s : Step) (f : Form)
    → Journaled model rows clause root owner j forms → IsMaking s
    → ((look : Lookup) → Finds (base_of model root clause (length rows)) look → HoldsOwn owner forms look → makes look s ≡ Ok f)
    → ((k : ℕ) → NamesRow (step_refs s) k → (o : ℕ) × IsNogoodOf rows k o × (o ≡ owner → ⊥))
    → Journaled model rows clause root owner (with_line j s) (forms ++ f ∷ [])
keeps model rows clause root owner j forms s f before making goes others = record {
  journal = journal_more (base_of model root clause (length rows)) owner j.lines forms s f before.journal making goes;
  foreign = λ i k x at names. elim (get_snoc j.lines s x i at) [ inl h ↦ before.foreign i k x h.1 names | inr h ↦ others k (subst (λ (y : Step). NamesRow (step_refs y) k) h.1 names) ];
  noted = λ k own. let n = before.noted k own in (n.0, n.1, from_one_more forms (f ∷ []) n.0 (clause k) n.2);
  early = λ k n i m x own is below at names. by k n i m x own is below at names (get_snoc j.lines s x i at);
}
  where
    by : (k n i m : ℕ) (x : Step) → IsNogoodOf rows k owner → note_of j.notes k ≡ Some n → i < n → slice_get (j.lines ++ s ∷ []) i ≡ Some x → NamesRow (step_refs x) m
        → ((i < length j.lines) × (slice_get j.lines i ≡ Some x)) ⊎ ((i ≡ length j.lines) × (x ≡ s)) → m < k
    by k n i m x own is below at names (inl h) = before.early k n i m x own is below h.1 names
    by k n i m x own is below at names (inr h) =
        let noted = before.noted k own in
        let same : n ≡ noted.0 = some_same n noted.0 (sym is ∙ noted.1) in
        let within = from_one_within forms noted.0 (clause k) noted.2 in
        let place : i ≡ length j.lines = h.0 in
        absurd (omega (arith, same, within, place, below, before.journal.same))

grows : (model : List Form) (rows more : List Row) (clause : ℕ → Form) (root : List Form) (owner : ℕ) (j : Journal) (forms : List Form)
    → Journaled model rows clause root owner j forms → GrowsFor rows more owner → Journaled model more clause root owner j forms
grows model rows more clause root owner j forms before g =
    subst (λ (rs : List Row). Journaled model rs clause root owner j forms) (sym g.front) (record {
      journal = wider_base (base_of model root clause (length rows)) (base_of model root clause (length (rows ++ g.rest))) owner j.lines forms
          (base_more model root clause clause (length rows) (length (rows ++ g.rest)) (omega (arith, length-append rows g.rest)) (λ k l. refl)) before.journal;
      foreign = λ i k s at names. let n = before.foreign i k s at names in (n.0, own_more rows g.rest k n.0 n.1, n.2);
      noted = λ k own. before.noted k (old k own);
      early = λ k n i m s own is below at names. before.early k n i m s (old k own) is below at names;
    })
  where
    old : (k : ℕ) → IsNogoodOf (rows ++ g.rest) k owner → IsNogoodOf rows k owner
    old k own = own_front rows g.rest k owner (g.none_own k (subst (λ (rs : List Row). IsNogoodOf rs k owner) (sym g.front) own)) own

-- ---- notes

note_more : (xs ys : List (ℕ × ℕ)) (k n : ℕ) → note_of xs k ≡ Some n → note_of (xs ++ ys) k ≡ Some n
note_more [] ys k n e = absurd cc
note_more (x ∷ xs) ys k n e = by (x.0 == k) (note_more xs ys k n) e
  where
    by : (b : Bool) → (note_of xs k ≡ Some n → note_of (xs ++ ys) k ≡ Some n) → cond b (Some x.1) (note_of xs k) ≡ Some n
        → cond b (Some x.1) (note_of (xs ++ ys) k) ≡ Some n
    by true later h = h
    by false later h = later h

-- a note is an old one, or the one that was added
note_cases : (xs : List (ℕ × ℕ)) (k n i m : ℕ) → note_of (xs ++ (k, n) ∷ []) i ≡ Some m → (note_of xs i ≡ Some m) ⊎ ((note_of xs i ≡ None) × (i ≡ k) × (m ≡ n))
note_cases [] k n i m e = by (k == i) refl e
  where
    by : (b : Bool) → (k == i) ≡ b → cond b (Some n) None ≡ Some m → (note_of [] i ≡ Some m) ⊎ ((note_of [] i ≡ None) × (i ≡ k) × (m ≡ n))
    by true same h = inr (refl, sym (eqb-true k i same), some_same m n (sym h))
    by false same h = absurd cc
note_cases (x ∷ xs) k n i m e = by (x.0 == i) (note_cases xs k n i m) e
  where
    by : (b : Bool) → (note_of (xs ++ (k, n) ∷ []) i ≡ Some m → (note_of xs i ≡ Some m) ⊎ ((note_of xs i ≡ None) × (i ≡ k) × (m ≡ n))) → cond b (Some x.1) (note_of (xs ++ (k, n) ∷ []) i) ≡ Some m
        → (cond b (Some x.1) (note_of xs i) ≡ Some m) ⊎ ((cond b (Some x.1) (note_of xs i) ≡ None) × (i ≡ k) × (m ≡ n))
    by true later h = inl h
    by false later h = later h

note_last : (xs : List (ℕ × ℕ)) (k n : ℕ) → note_of xs k ≡ None → note_of (xs ++ (k, n) ∷ []) k ≡ Some n
note_last [] k n e = ap (λ (b : Bool). let o : Option ℕ = cond b (Some n) None in o) (eq-eqb k k refl)
note_last (x ∷ xs) k n e = by (x.0 == k) (note_last xs k n) e
  where
    by : (b : Bool) → (note_of xs k ≡ None → note_of (xs ++ (k, n) ∷ []) k ≡ Some n) → cond b (Some x.1) (note_of xs k) ≡ None
        → cond b (Some x.1) (note_of (xs ++ (k, n) ∷ []) k) ≡ Some n
    by true later h = absurd cc
    by false later h = later h

none_or_some : (o : Option ℕ) → (o ≡ None) ⊎ ((n : ℕ) × (o ≡ Some n))
none_or_some None = inl refl
none_or_some (Some n) = inr (n, refl)

notes : (model : List Form) (rows more : List Row) (clause : ℕ → Form) (root : List Form) (owner : ℕ) (j : Journal) (forms : List Form) (k n : ℕ)
    → Journaled model rows clause root owner j forms → PublishesAt rows more owner k → note_of j.notes k ≡ None → from_one forms n ≡ Some (clause k)
    → Journaled model more clause root owner (with_note j k n) forms
notes model rows more clause root owner j forms k n before p unnoted line =
    subst (λ (rs : List Row). Journaled model rs clause root owner (with_note j k n) forms) (sym p.front) (record {
      journal = wider_base (base_of model root clause (length rows)) (base_of model root clause (length (rows ++ p.rest))) owner j.lines forms
          (base_more model root clause clause (length rows) (length (rows ++ p.rest)) (omega (arith, length-append rows p.rest)) (λ i l. refl)) before.journal;
      foreign = λ i m s at names. let o = before.foreign i m s at names in (o.0, own_more rows p.rest m o.0 o.1, o.2);
      noted = λ i own. noted i own (which i own);
      early = λ i m l r s own is below at names. early i m l r s own is below at names (which i own);
    })
  where
    which : (i : ℕ) → IsNogoodOf (rows ++ p.rest) i owner → (i < length rows) ⊎ (i ≡ k)
    which i own = p.own i (subst (λ (rs : List Row). IsNogoodOf rs i owner) (sym p.front) own)

    noted : (i : ℕ) → IsNogoodOf (rows ++ p.rest) i owner → (i < length rows) ⊎ (i ≡ k) → (m : ℕ) × (note_of (j.notes ++ (k, n) ∷ []) i ≡ Some m) × (from_one forms m ≡ Some (clause i))
    noted i own (inl l) = let m = before.noted i (own_front rows p.rest i owner l own) in (m.0, note_more j.notes ((k, n) ∷ []) i m.0 m.1, m.2)
    noted i own (inr e) = rw e (n, note_last j.notes k n unnoted, line)

    early : (i m l r : ℕ) (s : Step) → IsNogoodOf (rows ++ p.rest) i owner → note_of (j.notes ++ (k, n) ∷ []) i ≡ Some m → l < m → slice_get j.lines l ≡ Some s
        → NamesRow (step_refs s) r → (i < length rows) ⊎ (i ≡ k) → r < i
    early i m l r s own is below at names (inl low) =
        let old = own_front rows p.rest i owner low own in
        let first = before.noted i old in
        let same : m ≡ first.0 = some_same m first.0 (sym is ∙ note_more j.notes ((k, n) ∷ []) i first.0 first.1) in
        before.early i m l r s old (first.1 ∙ ap (λ (x : ℕ). let o : Option ℕ = Some x in o) (sym same)) below at names
    early i m l r s own is below at names (inr e) =
        let o = before.foreign l r s at names in
        let inside = own_within rows r o.0 o.1 in
        let b = p.behind in
        omega (arith, e, inside, b)

clauses : (model : List Form) (rows : List Row) (clause other : ℕ → Form) (root : List Form) (owner : ℕ) (j : Journal) (forms : List Form)
    → ((k : ℕ) → k < length rows → other k ≡ clause k) → Journaled model rows clause root owner j forms → Journaled model rows other root owner j forms
clauses model rows clause other root owner j forms same before = record {
  journal = wider_base (base_of model root clause (length rows)) (base_of model root other (length rows)) owner j.lines forms
      (base_more model root clause other (length rows) (length rows) (omega arith) same) before.journal;
  foreign = before.foreign;
  noted = λ k own. let n = before.noted k own in (n.0, n.1, n.2 ∙ ap (λ (g : Form). let o : Option Form = Some g in o) (sym (same k (own_within rows k owner own))));
  early = before.early;
}

-- ---- without rows of the owner's own at the end

-- what the one lookup finds, and of the rows from a place on their clauses
abbrev with_clauses : Lookup → (ℕ → Form) → ℕ → ℕ → Lookup
with_clauses look clause few many (Shared row) = cond (nat_lt row few) (look (Shared row)) (cond (nat_lt row many) (Some (clause row)) None)
with_clauses look clause few many (Line k) = look (Line k)
with_clauses look clause few many (Made name) = look (Made name)

agrees_below : (look : Lookup) (clause : ℕ → Form) (few many : ℕ) (rs : List Ref) → ((k : ℕ) → NamesRow rs k → k < few) → Agree look (with_clauses look clause few many) rs
agrees_below look clause few many [] below = cc
agrees_below look clause few many (Line k ∷ rs) below = (refl, agrees_below look clause few many rs below)
agrees_below look clause few many (Made name ∷ rs) below = (refl, agrees_below look clause few many rs below)
agrees_below look clause few many (Shared row ∷ rs) below = (
  ap (λ (b : Bool). let o : Option Form = cond b (look (Shared row)) (cond (nat_lt row many) (Some (clause row)) None) in o) (sym (lt-ltb row few (below row (inl refl)))),
  agrees_below look clause few many rs (λ k names. below k (inr names)),
)

narrower_base : (model root : List Form) (clause : ℕ → Form) (few many owner : ℕ) (lines : List Step) (forms : List Form) → few ≤ many
    → ((i k : ℕ) (s : Step) → slice_get lines i ≡ Some s → NamesRow (step_refs s) k → k < few) → IsJournal (base_of model root clause many) owner lines forms
    → IsJournal (base_of model root clause few) owner lines forms
narrower_base model root clause few many owner lines forms le below j = record {
  same = j.same;
  making = j.making;
  steps = λ k s f look at form found own.
      makes_same look (with_clauses look clause few many) s (agrees_below look clause few many (step_refs s) (λ row names. below k row s at names))
      ∙ j.steps k s f (with_clauses look clause few many) at form (finds look found) (record { own = own.own });
}
  where
    finds : (look : Lookup) → Finds (base_of model root clause few) look → Finds (base_of model root clause many) (with_clauses look clause few many)
    finds look found = record { alike = alike }
      where
        alike : (r : Ref) (f : Form) → base_of model root clause many r ≡ Some f → with_clauses look clause few many r ≡ Some f
        alike (Line k) f e = found.alike (Line k) f e
        alike (Made name) f e = found.alike (Made name) f e
        alike (Shared row) f e = by (nat_lt row few) refl e
          where
            by : (b : Bool) → (nat_lt row few ≡ b) → cond (nat_lt row many) (Some (clause row)) None ≡ Some f
                → cond b (look (Shared row)) (cond (nat_lt row many) (Some (clause row)) None) ≡ Some f
            by true is h =
                let w = within_of (nat_lt row many) (clause row) f h in
                found.alike (Shared row) f (ap (λ (b : Bool). let o : Option Form = cond b (Some (clause row)) None in o) is ∙ ap (λ (g : Form). let o : Option Form = Some g in o) w.1)
            by false is h = h

ends_in_own : (model : List Form) (rows whole : List Row) (clause : ℕ → Form) (root : List Form) (owner : ℕ) (j : Journal) (forms : List Form) → EndsInOwn rows whole owner
    → Journaled model whole clause root owner j forms → Journaled model rows clause root owner j forms
ends_in_own model rows whole clause root owner j forms e before = record {
  journal = narrower_base model root clause (length rows) (length whole) owner j.lines forms (omega (arith, length-append rows e.rest, ap (λ (rs : List Row). length rs) e.front))
      (λ i k s at names. let o = before.foreign i k s at names in e.others k o.0 o.1 o.2) before.journal;
  foreign = λ i k s at names.
      let o = before.foreign i k s at names in
      (o.0, own_front rows e.rest k o.0 (e.others k o.0 o.1 o.2) (subst (λ (rs : List Row). IsNogoodOf rs k o.0) e.front o.1), o.2);
  noted = λ k own. before.noted k (later k own);
  early = λ k n i m s own is below at names. before.early k n i m s (later k own) is below at names;
}
  where
    later : (k : ℕ) → IsNogoodOf rows k owner → IsNogoodOf whole k owner
    later k own = subst (λ (rs : List Row). IsNogoodOf rs k owner) (sym e.front) (own_more rows e.rest k owner own)

pub growth : GrowthLaws
growth = record {
  start = starts;
  kept = keeps;
  grows = grows;
  noted = notes;
  clauses = clauses;
  wider = wider_base;
  narrower = narrower_base;
  without_own = ends_in_own;
}
