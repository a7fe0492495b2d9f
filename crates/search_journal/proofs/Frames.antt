-- The owner's own names, rows as a log speaks of them, and lines as rows come.
use Rattle.std.proofs.Common.{inl, inr, ◌≡◌, ℕ, zero, suc, ◌+◌, ◌<◌, ◌==◌, Bool, true, false, cond, List, [], ◌∷◌, ◌++◌, length, Option, Some, None, refl, sym, ap, subst, ◌∙◌, length-append, arith}
use Rattle.std.specs.Prelude.{slice_get}
use Rattle.std.proofs.lemmas.Bool.{eq-eqb, eqb-true}
use Rattle.std.proofs.lemmas.List.{length-map}
use Rattle.graph_theory.specs.Embedding.{Problem}
use Rattle.search_theory.specs.Account.{Account}
use Rattle.proof_theory.specs.Forms.{Form}
use Rattle.log_theory.specs.declared.step.Name.{Name}
use Rattle.log_theory.specs.declared.step.Ref.{Ref}
use Rattle.log_theory.specs.declared.step.Ref.TheVariants.{Line, Made, Shared}
use Rattle.log_theory.specs.Lookups.{Lookup}
use Rattle.log_theory.specs.Tables.{from_one}
use Rattle.encoding_theory.specs.Encoding.{encoding}
use Rattle.nogood_book.specs.declared.row.Row.{Row}
use Rattle.nogood_book.specs.declared.row.RowKind.{RowKind}
use Rattle.nogood_book.specs.declared.row.RowKind.TheVariants.{Nogood, Step as Guess}
use Rattle.nogood_book.specs.Places.{is_nogood}
use Rattle.nogood_book.proofs.Paths.{path_at_more}
use Rattle.explanation_theory.specs.Reasons.{pairs_clause}
use Rattle.journal_theory.specs.Journals.{own_name, Finds, HoldsOwn, Row as LogRow, IsNogoodOf, Journaled, GrowsFor, PublishesAt, EndsInOwn as LogEnds}
use Rattle.journal_theory.proofs.Growing.{base_more, growth}
use Rattle.journals.specs.Keeping.{Keeping}
use Rattle.log_growth.specs.Frames.{Frame, Stands, IsNamed, After}
use Rattle.log_growth.specs.Rows.{Widens}
use Rattle.log_growth.proofs.Rows.{others_of, is_other, journaled_on, stands_of, stands_wider}
use Rattle.proof_logger.specs.Logging.{IsNogoodBy, GrowsBeside, EndsInOwn, Publishes}
use Rattle.search_journal.specs.Lines.{log_row, log_rows, row_clause, row_frame, StandsBeside}
use Rattle.search_journal.specs.Numbers.{RowsBelow, RowsRise}
use Rattle.search_journal.proofs.Numbers.{rise_snoc, below_more, below_unnoted}

-- ---- the owner's own names

-- What stands before an owner's lines, and these forms.
abbrev own_look : Lookup → ℕ → List Form → Lookup
own_look base owner forms (Line k) = base (Line k)
own_look base owner forms (Made n) = cond (n.owner == owner) (from_one forms n.number) None
own_look base owner forms (Shared k) = base (Shared k)

-- a name of the owner is that of its form
pub own_found : (q : Problem) (rows : List Row) (owner : ℕ) (forms : List Form) (n : Name) (f : Form) → IsNamed (row_frame q rows owner) forms (Made n) f
    → (n.owner ≡ owner) × (from_one forms n.number ≡ Some f)
own_found q rows owner forms n f named = by (n.owner == owner) refl (named.found look finds own)
  where
    look : Lookup
    look = own_look (row_frame q rows owner).base owner forms

    no_root : (b : Bool) (k : ℕ) (g : Form) → cond b (from_one [] k) None ≡ Some g → ⊥
    no_root true zero g e = cc
    no_root true (suc k) g e = cc
    no_root false k g e = cc

    alike : (r : Ref) (g : Form) → (row_frame q rows owner).base r ≡ Some g → own_look (row_frame q rows owner).base owner forms r ≡ Some g
    alike (Line k) g e = e
    alike (Made m) g e = absurd (no_root (m.owner == 0) m.number g e)
    alike (Shared k) g e = e

    finds : Finds (row_frame q rows owner).base (own_look (row_frame q rows owner).base owner forms)
    finds = record { alike = alike }

    here : (k : ℕ) (g : Form) → slice_get forms k ≡ Some g → own_look (row_frame q rows owner).base owner forms (Made (own_name owner k)) ≡ Some g
    here k g at =
        let s : k + 1 ≡ suc k = omega arith in
        ap (λ (b : Bool). let o : Option Form = cond b (from_one forms (k + 1)) None in o) (eq-eqb owner owner refl) ∙ ap (from_one forms) s ∙ at

    own : HoldsOwn owner forms (own_look (row_frame q rows owner).base owner forms)
    own = record { own = here }

    by : (b : Bool) → (n.owner == owner) ≡ b → cond b (from_one forms n.number) None ≡ Some f → (n.owner ≡ owner) × (from_one forms n.number ≡ Some f)
    by true same e = (eqb-true n.owner owner same, e)
    by false same e = absurd cc

-- and a form of the owner is named by its number
pub own_named : (w : Frame) (forms : List Form) (k : ℕ) (f : Form) → from_one forms k ≡ Some f → IsNamed w forms (Made (record { owner = w.owner; number = k })) f
own_named w forms zero f e = absurd cc
own_named w forms (suc k) f e = record {
  found = λ look finds own.
      let s : k + 1 ≡ suc k = omega arith in
      subst (λ (n : ℕ). look (Made (record { owner = w.owner; number = n })) ≡ Some f) s (own.own k f e);
  foreign = λ i is. absurd cc;
}

-- ---- rows

pub log_get : (rows : List Row) (k : ℕ) (r : LogRow) → slice_get (log_rows rows) k ≡ Some r → (x : Row) × (slice_get rows k ≡ Some x) × (log_row x ≡ r)
log_get [] k r e = absurd cc
log_get (x ∷ rows) zero r e = (x, refl, cc)
log_get (x ∷ rows) (suc k) r e = log_get rows k r e

pub get_log : (rows : List Row) (k : ℕ) (x : Row) → slice_get rows k ≡ Some x → slice_get (log_rows rows) k ≡ Some (log_row x)
get_log [] k x e = absurd cc
get_log (y ∷ rows) zero x e = let same : y ≡ x = cc in ap (λ (z : Row). let o : Option LogRow = Some (log_row z) in o) same
get_log (y ∷ rows) (suc k) x e = get_log rows k x e

pub log_more : (rows rest : List Row) → log_rows (rows ++ rest) ≡ log_rows rows ++ log_rows rest
log_more [] rest = refl
log_more (r ∷ rows) rest = ap (λ (rs : List LogRow). log_row r ∷ rs) (log_more rows rest)

pub length-log_rows : (rows : List Row) → length (log_rows rows) ≡ length rows
length-log_rows rows = length-map rows log_row

kind_nogood : (k : RowKind) → is_nogood k ≡ true → k ≡ Nogood
kind_nogood Nogood e = refl
kind_nogood Guess e = absurd cc

-- A nogood of the owner is one as a log says it, and so back.
pub own_row : (rows : List Row) (owner k : ℕ) → IsNogoodOf (log_rows rows) k owner → IsNogoodBy owner rows k
own_row rows owner k n =
    let x = log_get rows k n.0 n.1 in
    record {
      row = x.0;
      row_is = x.1;
      kind = kind_nogood x.0.kind (ap (λ (r : LogRow). r.is_nogood) x.2 ∙ n.2);
      owner_is = ap (λ (r : LogRow). r.owner) x.2 ∙ n.3;
    }

pub log_own : (rows : List Row) (owner k : ℕ) → IsNogoodBy owner rows k → IsNogoodOf (log_rows rows) k owner
log_own rows owner k n = (log_row n.row, get_log rows k n.row n.row_is, ap is_nogood n.kind, n.owner_is)

-- ---- rows that come

pub clause_stays : (q : Problem) (rows rest : List Row) (k : ℕ) → k < length rows → row_clause q (rows ++ rest) k ≡ row_clause q rows k
clause_stays q rows rest k l = ap (pairs_clause q) (path_at_more rows rest k l)

pub rows_widen : (q : Problem) (rows rest : List Row) (owner : ℕ) → Widens (row_frame q rows owner) (row_frame q (rows ++ rest) owner)
rows_widen q rows rest owner = record {
  problem_same = refl;
  owner_same = refl;
  finds = base_more (encoding q) [] (row_clause q rows) (row_clause q (rows ++ rest)) (length (log_rows rows)) (length (log_rows (rows ++ rest)))
      (omega (arith, length-log_rows rows, length-log_rows (rows ++ rest), length-append rows rest))
      (λ k l. clause_stays q rows rest k (omega (arith, l, length-log_rows rows)));
  foreign = λ k other.
      let o = others_of (log_rows rows) owner k other in
      let x = log_get rows k o.1.0 o.1.1 in
      is_other (log_rows (rows ++ rest)) owner k o.0 (o.1.0, more_get (log_rows rows) (log_rows rest) (log_rows (rows ++ rest)) (log_more rows rest) k o.1.0 o.1.1, o.1.2, o.1.3) o.2;
}
  where
    front : (xs ys : List LogRow) (k : ℕ) (r : LogRow) → slice_get xs k ≡ Some r → slice_get (xs ++ ys) k ≡ Some r
    front [] ys k r e = absurd cc
    front (x ∷ xs) ys zero r e = e
    front (x ∷ xs) ys (suc k) r e = front xs ys k r e

    more_get : (xs ys zs : List LogRow) → zs ≡ xs ++ ys → (k : ℕ) (r : LogRow) → slice_get xs k ≡ Some r → slice_get zs k ≡ Some r
    more_get xs ys zs same k r e = ap (λ (rs : List LogRow). slice_get rs k) same ∙ front xs ys k r e

pub grows_for : (owner : ℕ) (rows more : List Row) → GrowsBeside owner rows more → GrowsFor (log_rows rows) (log_rows more) owner
grows_for owner rows more g = record {
  rest = log_rows g.rest;
  front = ap log_rows g.front ∙ log_more rows g.rest;
  none_own = λ k n. let l = g.none_own k (own_row more owner k n) in omega (arith, l, length-log_rows rows);
}

pub publishes_at : (a : Account) (owner level value : ℕ) (rows more : List Row) (k : ℕ) → Publishes a owner level value rows more k → PublishesAt (log_rows rows) (log_rows more) owner k
publishes_at a owner level value rows more k p = record {
  rest = log_rows p.rest;
  front = ap log_rows p.front ∙ log_more rows p.rest;
  behind = let b = p.behind in omega (arith, b, length-log_rows rows);
  within = let w = p.within in omega (arith, w, length-log_rows more);
  own = λ i n. elim (p.only i (own_row more owner i n)) [ inl l ↦ inl (omega (arith, l, length-log_rows rows)) | inr e ↦ inr e ];
}

-- The journal beside the rows, with the clauses of more rows.
clauses_of : (q : Problem) (rows rest : List Row) (j : Keeping) (forms : List Form) → StandsBeside q rows j forms
    → Journaled (encoding q) (log_rows rows) (row_clause q (rows ++ rest)) [] j.owner (record { lines = j.steps; notes = j.notes }) forms
clauses_of q rows rest j forms beside =
    growth.clauses (encoding q) (log_rows rows) (row_clause q rows) (row_clause q (rows ++ rest)) [] j.owner (record { lines = j.steps; notes = j.notes }) forms
    (λ k l. clause_stays q rows rest k (omega (arith, l, length-log_rows rows))) beside.journaled

pub beside_grown : (q : Problem) (rows more : List Row) (j : Keeping) (forms : List Form) → GrowsBeside j.owner rows more → StandsBeside q rows j forms → StandsBeside q more j forms
beside_grown q rows more j forms g beside = record {
  journaled = growth.grows (encoding q) (log_rows rows) (log_rows more) (row_clause q more) [] j.owner (record { lines = j.steps; notes = j.notes }) forms
      (subst (λ (rs : List Row). Journaled (encoding q) (log_rows rows) (row_clause q rs) [] j.owner (record { lines = j.steps; notes = j.notes }) forms) (sym g.front)
      (clauses_of q rows g.rest j forms beside))
      (grows_for j.owner rows more g);
  stands = subst (λ (rs : List Row). Stands (row_frame q rs j.owner) j.steps forms) (sym g.front)
      (stands_wider (row_frame q rows j.owner) (row_frame q (rows ++ g.rest) j.owner) j.steps forms (rows_widen q rows g.rest j.owner) beside.stands);
  notes = beside.notes;
}

-- The journal beside the rows without those at the end that its owner keeps for itself.
ends_in_own : (owner : ℕ) (rows whole : List Row) → EndsInOwn owner rows whole → LogEnds (log_rows rows) (log_rows whole) owner
ends_in_own owner rows whole e = record {
  rest = log_rows e.rest;
  front = ap log_rows e.front ∙ log_more rows e.rest;
  others = λ k o n apart. let l = e.none_of_others k o apart (own_row whole o k n) in omega (arith, l, length-log_rows rows);
}

pub beside_without : (q : Problem) (rows whole : List Row) (j : Keeping) (forms : List Form) → EndsInOwn j.owner rows whole → StandsBeside q whole j forms → StandsBeside q rows j forms
beside_without q rows whole j forms e beside = record {
  journaled = less;
  stands = stands_of q (log_rows rows) (row_clause q rows) [] j.owner (record { lines = j.steps; notes = j.notes }) forms less (λ i s at. (beside.stands.fits i s at, beside.stands.ranges i s at)) beside.stands.small;
  notes = beside.notes;
}
  where
    same : (k : ℕ) → k < length (log_rows rows) → row_clause q rows k ≡ row_clause q whole k
    same k l = sym (clause_stays q rows e.rest k (omega (arith, l, length-log_rows rows))) ∙ ap (λ (rs : List Row). row_clause q rs k) (sym e.front)

    less : Journaled (encoding q) (log_rows rows) (row_clause q rows) [] j.owner (record { lines = j.steps; notes = j.notes }) forms
    less = growth.clauses (encoding q) (log_rows rows) (row_clause q whole) (row_clause q rows) [] j.owner (record { lines = j.steps; notes = j.notes }) forms same
        (growth.without_own (encoding q) (log_rows rows) (log_rows whole) (row_clause q whole) [] j.owner (record { lines = j.steps; notes = j.notes }) forms
        (ends_in_own j.owner rows whole e) beside.journaled)

-- The journal that notes a row with the number of its clause.
pub beside_noted : (q : Problem) (a : Account) (level value : ℕ) (rows more : List Row) (old new : Keeping) (forms : List Form) (k n : ℕ) → Publishes a old.owner level value rows more k
    → RowsBelow (length rows) old.notes → from_one forms n ≡ Some (row_clause q more k) → new.owner ≡ old.owner → new.steps ≡ old.steps → new.notes ≡ old.notes ++ (k, n) ∷ []
    → StandsBeside q rows old forms → StandsBeside q more new forms
beside_noted q a level value rows more old new forms k n p in_rows line owner_same steps_same notes_are beside = rw (owner_same, steps_same, notes_are) (record {
  journaled = growth.noted (encoding q) (log_rows rows) (log_rows more) (row_clause q more) [] old.owner (record { lines = old.steps; notes = old.notes }) forms k n
      (subst (λ (rs : List Row). Journaled (encoding q) (log_rows rows) (row_clause q rs) [] old.owner (record { lines = old.steps; notes = old.notes }) forms) (sym p.front)
      (clauses_of q rows p.rest old forms beside))
      (publishes_at a old.owner level value rows more k p) (below_unnoted k old.notes all_before) line;
  stands = subst (λ (rs : List Row). Stands (row_frame q rs old.owner) old.steps forms) (sym p.front)
      (stands_wider (row_frame q rows old.owner) (row_frame q (rows ++ p.rest) old.owner) old.steps forms (rows_widen q rows p.rest old.owner) beside.stands);
  notes = rise_snoc old.notes (k, n) beside.notes all_before;
})
  where
    all_before : RowsBelow k old.notes
    all_before = below_more (length rows) k old.notes p.behind in_rows

-- The journal that has further lines which stand.
pub beside_on : (q : Problem) (rows : List Row) (old new : Keeping) (forms : List Form) (Claim : List Form → Type 0) → new.owner ≡ old.owner → new.notes ≡ old.notes
    → StandsBeside q rows old forms → (m : After (row_frame q rows old.owner) old.steps new.steps forms Claim) → StandsBeside q rows new (forms ++ m.more)
beside_on q rows old new forms Claim owner_same notes_same beside m = record {
  journaled = subst (λ (o : ℕ). Journaled (encoding q) (log_rows rows) (row_clause q rows) [] o (record { lines = new.steps; notes = new.notes }) (forms ++ m.more)) (sym owner_same)
      (subst (λ (ns : List (ℕ × ℕ)). Journaled (encoding q) (log_rows rows) (row_clause q rows) [] old.owner (record { lines = new.steps; notes = ns }) (forms ++ m.more)) (sym notes_same)
      (journaled_on q (log_rows rows) (row_clause q rows) [] old.owner (record { lines = old.steps; notes = old.notes }) forms m.more m.rest new.steps beside.journaled m.stands m.front));
  stands = subst (λ (o : ℕ). Stands (row_frame q rows o) new.steps (forms ++ m.more)) (sym owner_same) m.stands;
  notes = subst RowsRise (sym notes_same) beside.notes;
}

-- No line and no note stand beside rows without a nogood of the owner.
pub beside_begun : (q : Problem) (rows : List Row) (j : Keeping) → j.steps ≡ [] → j.notes ≡ [] → ((k : ℕ) → IsNogoodBy j.owner rows k → ⊥) → StandsBeside q rows j []
beside_begun q rows j steps_none notes_none none = rw (steps_none, notes_none) (record {
  journaled = begun;
  stands = record { journal = begun.journal; rows = λ i k s at names. absurd cc; fits = λ i s at. absurd cc; ranges = λ i s at. absurd cc; small = tt };
  notes = tt;
})
  where
    begun : Journaled (encoding q) (log_rows rows) (row_clause q rows) [] j.owner (record { lines = []; notes = [] }) []
    begun = growth.start (encoding q) (log_rows rows) (row_clause q rows) [] j.owner (λ k n. none k (own_row rows j.owner k n))
