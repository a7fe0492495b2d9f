-- The merged lines of journals step from the empty table.
use Rattle.std.proofs.Common.{◌⊎◌, inl, inr, ◌≡◌, ◌≢◌, ℕ, zero, suc, ◌+◌, ◌<◌, ◌≤◌, ◌==◌, nat_lt, nat_le, not, ◌&&◌, Bool, true, false, cond, List, [], ◌∷◌, ◌++◌, length, take, drop, get_or, set, max, map, Option, Some, None, Result, Ok, refl, sym, ap, subst, ◌∙◌, length-drop, replicate, arith}
use Rattle.std.proofs.lemmas.Grind.{common_steps}
use Rattle.std.specs.Prelude.{slice_get}
use Rattle.std.proofs.lemmas.Bool.{lt-ltb, ltb-true, eq-eqb, eqb-true, ne_eqb, cases_eq, cases_lt}
use Rattle.std.proofs.lemmas.List.{get_or-set_same, get_or-set_other, length-set, get_or_past, get_or-replicate, length-replicate}
use Rattle.std.proofs.lemmas.Option.{slice_get_within}
use Rattle.std.proofs.Math.Nat.{le-max_right}
use Rattle.proof_theory.specs.Forms.{Form}
use Rattle.log_theory.specs.declared.step.Ref.{Ref}
use Rattle.log_theory.specs.declared.step.Ref.TheVariants.{Line, Made, Shared}
use Rattle.log_theory.specs.declared.step.Step.{Step}
use Rattle.log_theory.specs.declared.step.Step.TheVariants.{P, U, N}
use Rattle.log_theory.specs.declared.step.Cause.{Cause}
use Rattle.log_theory.specs.declared.step.Cause.TheVariants.{NameUsed, Order, NoSuchName}
use Rattle.log_theory.specs.Steps.{◌>>=◌, unless, or_fault}
use Rattle.log_theory.specs.Lookups.{Lookup, makes}
use Rattle.log_theory.specs.Tables.{Table, empty_table, made_by, from_one, standing, shared_at, find, undeleted, is_row_used, are_rows_below, fresh_name, with_made, with_shared, step_of}
use Rattle.journal_theory.specs.Referring.{step_refs, Agree, NamesRow}
use Rattle.journal_theory.specs.Stepping.{StepsRun}
use Rattle.journal_theory.specs.Journals.{own_name, IsMaking, named, numbered, Finds, HoldsOwn, IsJournal, base_of, Row, IsNogoodOf, Journal, note_of}
use Rattle.journal_theory.specs.Merging.{journal_of, at_of, begun, lines_to, noted_at, row_lines, row_done, merge_from, AreJournals}
use Rattle.journal_theory.specs.Laws.{MergeLaw}
use Rattle.journal_theory.proofs.Agreeing.{makes_same}
use Rattle.journal_theory.proofs.Placing.{get_drop, get_take, get_some, take_next, take_all, take_get, some_same, from_one_within, undeleted_at, undeleted_snoc, length-undeleted}

-- ---- one line

-- A line makes the same whatever name it bears.
renamed : (look : Lookup) (owner place : ℕ) (s : Step) → makes look (named owner place s) ≡ makes look s
renamed look owner place (P name ops) = refl
renamed look owner place (U name lits refs) = refl
renamed look owner place s = refl

-- An owner's next name is fresh.
fresh_own : (t : Table) (owner : ℕ) → fresh_name t (own_name owner (length (made_by t owner))) ≡ Ok 0
fresh_own t owner =
    ap (λ (b : Bool). unless (not b) NameUsed >>= λ _. unless ((length (made_by t owner) + 1) == (length (made_by t owner) + 1)) Order) (not_below (length (made_by t owner)))
    ∙ ap (λ (b : Bool). unless b Order) (eq-eqb (length (made_by t owner) + 1) (length (made_by t owner) + 1) refl)
  where
    not_below : (n : ℕ) → nat_le (n + 1) n ≡ false
    not_below n = grind (arith, common_steps)

-- An owner's next line steps where it makes its form.
pub line_steps : (model : List Form) (t : Table) (owner place : ℕ) (s : Step) (f : Form) → IsMaking s → length (made_by t owner) ≡ place → makes (find model t) s ≡ Ok f
    → step_of model t (named owner place s) ≡ Ok (with_made t (own_name owner place) f)
line_steps model t owner place (P name ops) f making at goes =
    ap (λ (x : Result ℕ Cause). x >>= λ _. makes (find model t) (P (own_name owner place) ops) >>= λ g. Ok (with_made t (own_name owner place) g))
    (subst (λ (n : ℕ). fresh_name t (own_name owner n) ≡ Ok 0) at (fresh_own t owner))
    ∙ ap (λ (x : Result Form Cause). x >>= λ g. Ok (with_made t (own_name owner place) g)) goes
line_steps model t owner place (U name lits refs) f making at goes =
    ap (λ (x : Result ℕ Cause). x >>= λ _. makes (find model t) (U (own_name owner place) lits refs) >>= λ g. Ok (with_made t (own_name owner place) g))
    (subst (λ (n : ℕ). fresh_name t (own_name owner n) ≡ Ok 0) at (fresh_own t owner))
    ∙ ap (λ (x : Result Form Cause). x >>= λ g. Ok (with_made t (own_name owner place) g)) goes
line_steps model t owner place s f making at goes = absurd making

-- ---- a table beside a journal

-- A lookup that finds every row as its clause, and all else as the table does.
abbrev shown : List Form → Table → (ℕ → Form) → Lookup
shown model t clause (Line k) = find model t (Line k)
shown model t clause (Made name) = find model t (Made name)
shown model t clause (Shared row) = Some (clause row)

agree : (model : List Form) (t : Table) (clause : ℕ → Form) (rs : List Ref) → ((m : ℕ) → NamesRow rs m → shared_at t.shared m ≡ Some (clause m)) → Agree (shown model t clause) (find model t) rs
agree model t clause [] h = tt
agree model t clause (Line k ∷ rs) h = (refl, agree model t clause rs h)
agree model t clause (Made name ∷ rs) h = (refl, agree model t clause rs h)
agree model t clause (Shared row ∷ rs) h = (sym (h row (inl refl)), agree model t clause rs (λ m n. h m (inr n)))

-- A table has the owner's earlier forms under their names.
holds_own : (model : List Form) (t : Table) (clause : ℕ → Form) (owner : ℕ) (forms : List Form) → made_by t owner ≡ undeleted forms → HoldsOwn owner forms (shown model t clause)
holds_own model t clause owner forms is = record { own = λ k f at. let e : k + 1 ≡ suc k = omega arith in ap (λ n. standing (from_one (made_by t owner) n)) e ∙ ap (λ (os : List (Option Form)). standing (from_one os (suc k))) is ∙ undeleted_at forms (suc k) ∙ at }

-- A table finds what the base of a journal does, once it has owner 0's forms.
finds_base : (model root : List Form) (t : Table) (clause : ℕ → Form) (seen : ℕ) → made_by t 0 ≡ undeleted root → Finds (base_of model root clause seen) (shown model t clause)
finds_base model root t clause seen is = record { alike = alike }
  where
    by_owner : (b : Bool) (o : Option Form) (f : Form) → cond b o None ≡ Some f → (b ≡ true) × (o ≡ Some f)
    by_owner true o f e = (refl, e)
    by_owner false o f e = absurd cc

    alike : (r : Ref) (f : Form) → base_of model root clause seen r ≡ Some f → shown model t clause r ≡ Some f
    alike (Line k) f e = e
    alike (Made name) f e =
        let b = by_owner (name.owner == 0) (from_one root name.number) f e in
        let zero_ : name.owner ≡ 0 = eqb-true name.owner 0 b.0 in
        ap (λ (w : ℕ). standing (from_one (made_by t w) name.number)) zero_ ∙ ap (λ (os : List (Option Form)). standing (from_one os name.number)) is ∙ undeleted_at root name.number ∙ b.1
    alike (Shared row) f e = (by_owner (nat_lt row seen) (Some (clause row)) f e).1

-- A line of a journal makes its form in a table that has owner 0's forms, the owner's earlier ones, and the rows that the line names.
line_makes : (model root : List Form) (clause : ℕ → Form) (seen owner i : ℕ) (lines : List Step) (forms : List Form) (t : Table) (s : Step) (f : Form)
    → IsJournal (base_of model root clause seen) owner lines forms → made_by t 0 ≡ undeleted root → made_by t owner ≡ undeleted (take i forms)
    → ((m : ℕ) → NamesRow (step_refs s) m → shared_at t.shared m ≡ Some (clause m)) → slice_get lines i ≡ Some s → slice_get forms i ≡ Some f → makes (find model t) s ≡ Ok f
line_makes model root clause seen owner i lines forms t s f j root_is own rows at form =
    sym (makes_same (shown model t clause) (find model t) s (agree model t clause (step_refs s) rows))
    ∙ j.steps i s f (shown model t clause) at form (finds_base model root t clause seen root_is) (holds_own model t clause owner (take i forms) own)

-- Owner 0's lines name no row, and stand over the model alone.
root_makes : (model : List Form) (clause : ℕ → Form) (i : ℕ) (lines : List Step) (forms : List Form) (t : Table) (s : Step) (f : Form)
    → IsJournal (base_of model [] clause 0) 0 lines forms → made_by t 0 ≡ undeleted (take i forms)
    → ((m : ℕ) → NamesRow (step_refs s) m → ⊥) → slice_get lines i ≡ Some s → slice_get forms i ≡ Some f → makes (find model t) s ≡ Ok f
root_makes model clause i lines forms t s f j own none at form =
    sym (makes_same (shown model t clause) (find model t) s (agree model t clause (step_refs s) (λ m n. absurd (none m n))))
    ∙ j.steps i s f (shown model t clause) at form finds (holds_own model t clause 0 (take i forms) own)
  where
    by_owner : (b : Bool) (n : ℕ) (g : Form) → cond b (from_one [] n) None ≡ Some g → ⊥
    by_owner true zero g e = absurd cc
    by_owner true (suc n) g e = absurd cc
    by_owner false n g e = absurd cc

    none_below : (n : ℕ) (b : Bool) (g : Form) → nat_lt n 0 ≡ b → cond b (Some (clause n)) None ≡ Some g → ⊥
    none_below n true g is e = let l = ltb-true n 0 is in omega (arith, l)
    none_below n false g is e = absurd cc

    alike : (r : Ref) (g : Form) → base_of model [] clause 0 r ≡ Some g → shown model t clause r ≡ Some g
    alike (Line k) g e = e
    alike (Made name) g e = absurd (by_owner (name.owner == 0) name.number g e)
    alike (Shared row) g e = absurd (none_below row (nat_lt row 0) g refl e)

    finds : Finds (base_of model [] clause 0) (shown model t clause)
    finds = record { alike = alike }

-- ---- a run of lines of one owner

-- What a run of an owner's lines leaves.
record Ran (owner : ℕ) (forms : List Form) (t u : Table) : Type 0 where
  pub own : made_by u owner ≡ undeleted forms
  pub others : (w : ℕ) → w ≢ owner → made_by u w ≡ made_by t w
  pub shared_same : u.shared ≡ t.shared
  pub owners_same : length u.made ≡ length t.made

-- Each line at these places makes its form in a table that has the owner's earlier forms and stands beside the rest as t does.
abbrev MayRun : List Form → ℕ → List Step → List Form → Table → ℕ → ℕ → Type 0
MayRun model owner lines forms t from to =
    (i : ℕ) (s : Step) (f : Form) (x : Table) → from ≤ i → i < to → slice_get lines i ≡ Some s → slice_get forms i ≡ Some f → made_by x owner ≡ undeleted (take i forms)
    → ((w : ℕ) → w ≢ owner → made_by x w ≡ made_by t w) → x.shared ≡ t.shared → makes (find model x) s ≡ Ok f

module _ (model : List Form) (owner : ℕ) (lines : List Step) (forms : List Form) (same : length lines ≡ length forms) (making : (k : ℕ) (s : Step) → slice_get lines k ≡ Some s → IsMaking s) where
  run : (ss : List Step) (place : ℕ) (t x : Table) (to : ℕ) → ((i : ℕ) (s : Step) → slice_get ss i ≡ Some s → slice_get lines (place + i) ≡ Some s) → place + length ss ≡ to → to ≤ length forms
      → owner < length t.made → made_by x owner ≡ undeleted (take place forms) → ((w : ℕ) → w ≢ owner → made_by x w ≡ made_by t w) → x.shared ≡ t.shared → length x.made ≡ length t.made
      → MayRun model owner lines forms t place to → (u : Table) × StepsRun model x (numbered owner place ss) u × Ran owner (take to forms) t u
  run [] place t x to stand ends within inside own others shared_same owners_same may =
      let e : place ≡ to = omega (arith, ends) in
      (x, refl, record { own = own ∙ ap (λ n. undeleted (take n forms)) e; others = others; shared_same = shared_same; owners_same = owners_same })
  run (s ∷ ss) place t x to stand ends within inside own others shared_same owners_same may =
      let here : slice_get lines place ≡ Some s = (let e : place ≡ place + 0 = omega arith in ap (slice_get lines) e ∙ stand 0 s refl) in
      let g = get_some forms place (omega (arith, ends, within)) in
      let f = g.0 in
      let made_long : length (made_by x owner) ≡ place = ap length own ∙ length-undeleted (take place forms) ∙ take_long place forms (omega (arith, ends, within)) in
      let goes = may place s f x (omega arith) (omega (arith, ends)) here g.1 own others shared_same in
      let next = with_made x (own_name owner place) f in
      let step = line_steps model x owner place s f (making place s here) made_long goes in
      let own_next : made_by next owner ≡ undeleted (take (place + 1) forms) =
      get_or-set_same x.made owner (made_by x owner ++ Some f ∷ []) [] (omega (arith, inside, owners_same)) ∙ ap (λ (os : List (Option Form)). os ++ Some f ∷ []) own ∙ undeleted_snoc (take place forms) f ∙ ap undeleted (sym (take_next forms place f g.1)) in
      let rest = run ss (place + 1) t next to (λ i y at. let e : place + 1 + i ≡ place + suc i = omega arith in ap (slice_get lines) e ∙ stand (suc i) y at) (omega (arith, ends)) within inside own_next
      (λ w ne. get_or-set_other x.made owner w (made_by x owner ++ Some f ∷ []) [] ne ∙ others w ne) shared_same (length-set x.made owner (made_by x owner ++ Some f ∷ []) ∙ owners_same)
      (λ i y h z low high at form own_z others_z shared_z. may i y h z (omega (arith, low)) high at form own_z others_z shared_z) in
      (rest.0, (next, step, rest.1), rest.2)
    where
      take_long : (n : ℕ) (fs : List Form) → n ≤ length fs → length (take n fs) ≡ n
      take_long zero fs l = refl
      take_long (suc n) [] l = absurd (omega arith)
      take_long (suc n) (g ∷ fs) l = let e = take_long n fs (omega arith) in omega (arith, e)

  -- An owner's lines from one place up to another.
  block : (t : Table) (from to : ℕ) → from ≤ to → to ≤ length forms → owner < length t.made → made_by t owner ≡ undeleted (take from forms) → MayRun model owner lines forms t from to
      → (u : Table) × StepsRun model t (numbered owner from (drop from (take to lines))) u × Ran owner (take to forms) t u
  block t from to le within inside own may =
      run (drop from (take to lines)) from t t to (λ i s at. (get_take to lines (from + i) s (sym (get_drop from (take to lines) i) ∙ at)).1)
      (omega (arith, le, length-drop from (take to lines), long to lines (omega (arith, within, same)))) within inside own (λ w ne. refl) refl refl may
    where
      long : (n : ℕ) (xs : List Step) → n ≤ length xs → length (take n xs) ≡ n
      long zero xs l = refl
      long (suc n) [] l = absurd (omega arith)
      long (suc n) (y ∷ xs) l = let e = long n xs (omega arith) in omega (arith, e)

pub steps_on : (model : List Form) (t m u : Table) (xs ys : List Step) → StepsRun model t xs m → StepsRun model m ys u → StepsRun model t (xs ++ ys) u
steps_on model t m u [] ys a b = subst (λ (x : Table). StepsRun model x ys u) a b
steps_on model t m u (x ∷ xs) ys a b = (a.0, a.1, steps_on model a.0 m u xs ys a.2 b)

-- ---- rows

-- Every row used lies below this one.
abbrev AllBelow : List (ℕ × Option Form) → ℕ → Type 0
AllBelow [] k = Unit {0}
AllBelow (s ∷ ss) k = (s.0 < k) × AllBelow ss k

below_more : (ss : List (ℕ × Option Form)) (k : ℕ) → AllBelow ss k → AllBelow ss (k + 1)
below_more [] k h = tt
below_more (s ∷ ss) k h = (let l : s.0 < k = h.0 in omega (arith, l), below_more ss k h.1)

below_snoc : (ss : List (ℕ × Option Form)) (k : ℕ) (f : Form) → AllBelow ss k → AllBelow (ss ++ (k, Some f) ∷ []) (k + 1)
below_snoc [] k f h = (omega arith, tt)
below_snoc (s ∷ ss) k f h = (let l : s.0 < k = h.0 in omega (arith, l), below_snoc ss k f h.1)

row_unused : (ss : List (ℕ × Option Form)) (k : ℕ) → AllBelow ss k → is_row_used ss k ≡ false
row_unused [] k h = refl
row_unused (s ∷ ss) k h = let l : s.0 < k = h.0 in ap (λ (b : Bool). cond b true (is_row_used ss k)) (ne_eqb s.0 k (λ (e : s.0 ≡ k). omega (arith, l, e))) ∙ row_unused ss k h.1

rows_below : (ss : List (ℕ × Option Form)) (k : ℕ) → AllBelow ss k → are_rows_below ss k ≡ true
rows_below [] k h = refl
rows_below (s ∷ ss) k h = ap (λ (b : Bool). b && are_rows_below ss k) (lt-ltb s.0 k h.0) ∙ rows_below ss k h.1

-- A form that a row has it keeps.
shared_more : (ss more : List (ℕ × Option Form)) (k : ℕ) (f : Form) → shared_at ss k ≡ Some f → shared_at (ss ++ more) k ≡ Some f
shared_more [] more k f e = absurd cc
shared_more (s ∷ ss) more k f e = by (s.0 == k) (shared_more ss more k f) e
  where
    by : (b : Bool) → (shared_at ss k ≡ Some f → shared_at (ss ++ more) k ≡ Some f) → cond b s.1 (shared_at ss k) ≡ Some f
        → cond b s.1 (shared_at (ss ++ more) k) ≡ Some f
    by true later h = h
    by false later h = later h

shared_last : (ss : List (ℕ × Option Form)) (k : ℕ) (f : Form) → AllBelow ss k → shared_at (ss ++ (k, Some f) ∷ []) k ≡ Some f
shared_last [] k f h = ap (λ (b : Bool). let o : Option Form = cond b (Some f) None in o) (eq-eqb k k refl)
shared_last (s ∷ ss) k f h =
    let l : s.0 < k = h.0 in
    ap (λ (b : Bool). cond b s.1 (shared_at (ss ++ (k, Some f) ∷ []) k)) (ne_eqb s.0 k (λ (e : s.0 ≡ k). omega (arith, l, e))) ∙ shared_last ss k f h.1

-- The line that shares an owner's form under the next row.
row_steps : (model : List Form) (t : Table) (k w n : ℕ) (f : Form) → AllBelow t.shared k → standing (from_one (made_by t w) n) ≡ Some f
    → step_of model t (N k (record { owner = w; number = n })) ≡ Ok (with_shared t k f)
row_steps model t k w n f below found =
    ap (λ (b : Bool). (unless (not b) NameUsed >>= λ _. unless (are_rows_below t.shared k) Order) >>= λ _. makes (find model t) (N k (record { owner = w; number = n })) >>= λ g. Ok (with_shared t k g)) (row_unused t.shared k below)
    ∙ ap (λ (b : Bool). unless b Order >>= λ _. makes (find model t) (N k (record { owner = w; number = n })) >>= λ g. Ok (with_shared t k g)) (rows_below t.shared k below)
    ∙ ap (λ (o : Option Form). or_fault o NoSuchName >>= λ g. Ok (with_shared t k g)) found

-- ---- the invariant

-- The table before row k: each owner has made its first lines, owner 0 all of its own, and the nogood rows before k have their clauses.
record Reached (rows : List Row) (clause : ℕ → Form) (js : List Journal) (forms : ℕ → List Form) (k : ℕ) (done : List ℕ) (t : Table) : Type 0 where
  pub owners : length t.made ≡ 65
  pub counts : length done ≡ length js
  pub within : (w : ℕ) → w < length js → at_of done w ≤ length (forms w)
  pub made : (w : ℕ) → w < length js → made_by t w ≡ undeleted (take (at_of done w) (forms w))
  pub root_all : made_by t 0 ≡ undeleted (forms 0)
  pub root_done : at_of done 0 ≡ length (forms 0)
  pub below : AllBelow t.shared k
  pub shared_is : (i o : ℕ) → i < k → IsNogoodOf rows i o → shared_at t.shared i ≡ Some (clause i)

module _ (model : List Form) (rows : List Row) (clause : ℕ → Form) (js : List Journal) (forms : ℕ → List Form) (all : AreJournals model rows clause js forms) where
  -- An owner's lines may run where each row that they name stands below k.
  may_run : (k w to : ℕ) (done : List ℕ) (t : Table) → Reached rows clause js forms k done t → 0 < w → w < length js
      → ((i m : ℕ) (s : Step) → i < to → slice_get (journal_of js w).lines i ≡ Some s → NamesRow (step_refs s) m → m < k)
      → MayRun model w (journal_of js w).lines (forms w) t (at_of done w) to
  may_run k w to done t reached positive inside early i s f x low high at form own others shared_same =
      let j = all.each w positive inside in
      line_makes model (forms 0) clause (length rows) w i (journal_of js w).lines (forms w) x s f j.journal (others 0 (λ (e : 0 ≡ w). omega (arith, e, positive)) ∙ reached.root_all) own
      (λ m names. let o = j.foreign i m s at names in ap (λ (ss : List (ℕ × Option Form)). shared_at ss m) shared_same ∙ reached.shared_is m o.0 (early i m s high at names) o.1) at form

  -- The same after a run of an owner's lines.
  reached_run : (k w to : ℕ) (done : List ℕ) (t u : Table) → Reached rows clause js forms k done t → 0 < w → w < length js → to ≤ length (forms w) → Ran w (take to (forms w)) t u
      → Reached rows clause js forms k (set done w to) u
  reached_run k w to done t u reached positive inside to_in ran = record {
    owners = ran.owners_same ∙ reached.owners;
    counts = length-set done w to ∙ reached.counts;
    within = λ v v_in. within v v_in (cases_eq v w);
    made = λ v v_in. made v v_in (cases_eq v w);
    root_all = ran.others 0 no_root ∙ reached.root_all;
    root_done = get_or-set_other done w 0 to 0 no_root ∙ reached.root_done;
    below = subst (λ (ss : List (ℕ × Option Form)). AllBelow ss k) (sym ran.shared_same) reached.below;
    shared_is = λ i o below own. ap (λ (ss : List (ℕ × Option Form)). shared_at ss i) ran.shared_same ∙ reached.shared_is i o below own;
  }
    where
      no_root : 0 ≡ w → ⊥
      no_root e = omega (arith, e, positive)

      here : get_or (set done w to) w 0 ≡ to
      here = get_or-set_same done w to 0 (let l = reached.counts in omega (arith, l, inside))

      within : (v : ℕ) → v < length js → (v ≡ w) ⊎ (v ≡ w → ⊥) → at_of (set done w to) v ≤ length (forms v)
      within v v_in (inl e) = rw e (omega (arith, here, to_in))
      within v v_in (inr ne) = let l = reached.within v v_in in omega (arith, get_or-set_other done w v to 0 ne, l)

      made : (v : ℕ) → v < length js → (v ≡ w) ⊎ (v ≡ w → ⊥) → made_by u v ≡ undeleted (take (at_of (set done w to) v) (forms v))
      made v v_in (inl e) = rw (e, here) ran.own
      made v v_in (inr ne) = ran.others v ne ∙ reached.made v v_in ∙ ap (λ n. undeleted (take n (forms v))) (sym (get_or-set_other done w v to 0 ne))

  -- The same after a row that is no nogood.
  reached_plain : (k : ℕ) (done : List ℕ) (t : Table) (r : Row) → Reached rows clause js forms k done t → slice_get rows k ≡ Some r → r.is_nogood ≡ false → Reached rows clause js forms (k + 1) done t
  reached_plain k done t r reached at plain = record {
    owners = reached.owners;
    counts = reached.counts;
    within = reached.within;
    made = reached.made;
    root_all = reached.root_all;
    root_done = reached.root_done;
    below = below_more t.shared k reached.below;
    shared_is = λ i o below own. by i o below own (cases_eq i k);
  }
    where
      by : (i o : ℕ) → i < k + 1 → IsNogoodOf rows i o → (i ≡ k) ⊎ (i ≡ k → ⊥) → shared_at t.shared i ≡ Some (clause i)
      by i o below own (inl e) =
          let same : own.0 ≡ r = some_same own.0 r (sym own.1 ∙ ap (slice_get rows) e ∙ at) in
          let bad : true ≡ false = sym own.2 ∙ ap (λ (x : Row). x.is_nogood) same ∙ plain in absurd cc
      by i o below own (inr ne) = reached.shared_is i o (omega (arith, below, ne)) own

  -- The same after the line that shares row k.
  reached_shared : (k : ℕ) (done : List ℕ) (t : Table) → Reached rows clause js forms k done t → Reached rows clause js forms (k + 1) done (with_shared t k (clause k))
  reached_shared k done t reached = record {
    owners = reached.owners;
    counts = reached.counts;
    within = reached.within;
    made = reached.made;
    root_all = reached.root_all;
    root_done = reached.root_done;
    below = below_snoc t.shared k (clause k) reached.below;
    shared_is = λ i o below own. by i o below own (cases_eq i k);
  }
    where
      by : (i o : ℕ) → i < k + 1 → IsNogoodOf rows i o → (i ≡ k) ⊎ (i ≡ k → ⊥) → shared_at (t.shared ++ (k, Some (clause k)) ∷ []) i ≡ Some (clause i)
      by i o below own (inl e) = rw e (shared_last t.shared k (clause k) reached.below)
      by i o below own (inr ne) = shared_more t.shared ((k, Some (clause k)) ∷ []) i (clause i) (reached.shared_is i o (omega (arith, below, ne)) own)

  -- What a row leads to.
  Next : ℕ → List ℕ → Table → List Step → List ℕ → Type 0
  Next k done t lines after = (u : Table) × StepsRun model t lines u × Reached rows clause js forms (k + 1) after u

  -- A nogood row: its owner's lines up to its clause, and the line that shares it.
  nogood_goes : (k n : ℕ) (done : List ℕ) (t : Table) (r : Row) → Reached rows clause js forms k done t → slice_get rows k ≡ Some r → r.is_nogood ≡ true
      → note_of (journal_of js r.owner).notes k ≡ Some n → from_one (forms r.owner) n ≡ Some (clause k)
      → (u : Table) × StepsRun model t (row_lines js done k r.owner (Some n)) u × Reached rows clause js forms (k + 1) (row_done done r.owner (Some n)) u
  nogood_goes k n done t r reached at nogood noted line =
      let o = all.owners k r at in
      let j = all.each r.owner o.0 o.1 in
      let own : IsNogoodOf rows k r.owner = (r, at, nogood, refl) in
      let n_in = from_one_within (forms r.owner) n (clause k) line in
      let few = all.few in
      let inside : r.owner < length t.made = (let l : r.owner < length js = o.1 in omega (arith, reached.owners, few, l)) in
      let ran = by_order r.owner n (cases_lt n (at_of done r.owner)) n_in inside o.0 o.1 (λ i m s below line_at names. j.early k n i m s own noted below line_at names) in
      let reach = at_of (set done r.owner (max (at_of done r.owner) n)) r.owner in
      let found : standing (from_one (made_by ran.0 r.owner) n) ≡ Some (clause k) = ap (λ (os : List (Option Form)). standing (from_one os n)) (ran.2.made r.owner o.1) ∙ undeleted_at (take reach (forms r.owner)) n ∙ in_front n reach (forms r.owner) (clause k) (at_least r.owner o.1) line in (
        with_shared ran.0 k (clause k),
        steps_on model t ran.0 (with_shared ran.0 k (clause k)) (lines_to js done r.owner n) (N k (record { owner = r.owner; number = n }) ∷ []) ran.1 (with_shared ran.0 k (clause k), row_steps model ran.0 k r.owner n (clause k) ran.2.below found, refl),
        reached_shared k (set done r.owner (max (at_of done r.owner) n)) ran.0 ran.2,
      )
    where
      at_least : (w : ℕ) → w < length js → n ≤ at_of (set done w (max (at_of done w) n)) w
      at_least w inside =
          let e = get_or-set_same done w (max (at_of done w) n) 0 (let l = reached.counts in omega (arith, l, inside)) in
          let l = le-max_right (at_of done w) n in omega (arith, e, l)

      in_front : (n b : ℕ) (fs : List Form) (f : Form) → n ≤ b → from_one fs n ≡ Some f → from_one (take b fs) n ≡ Some f
      in_front zero b fs f l e = absurd cc
      in_front (suc i) b fs f l e = take_get b fs i f (omega (arith, l)) e

      nothing : (w n : ℕ) → n < at_of done w → lines_to js done w n ≡ []
      nothing w n l = ap (numbered w (at_of done w)) (gone (at_of done w) n (journal_of js w).lines l)
        where
          gone : (a b : ℕ) (xs : List Step) → b < a → drop a (take b xs) ≡ []
          gone zero b xs h = absurd (omega arith)
          gone (suc a) zero xs h = refl
          gone (suc a) (suc b) [] h = refl
          gone (suc a) (suc b) (x ∷ xs) h = gone a b xs (omega (arith, h))

      by_order : (w n : ℕ) → (n < at_of done w) ⊎ (at_of done w ≤ n) → n ≤ length (forms w) → w < length t.made → 0 < w → w < length js
          → ((i m : ℕ) (s : Step) → i < n → slice_get (journal_of js w).lines i ≡ Some s → NamesRow (step_refs s) m → m < k)
          → (u : Table) × StepsRun model t (lines_to js done w n) u × Reached rows clause js forms k (set done w (max (at_of done w) n)) u
      by_order w n (inl less) n_in inside positive w_in early =
          let most : max (at_of done w) n ≡ at_of done w = grind (arith, common_steps) in (
            t,
            subst (λ (ss : List Step). StepsRun model t ss t) (sym (nothing w n less)) refl,
            subst (λ (m : ℕ). Reached rows clause js forms k (set done w m) t) (sym most)
                (reached_run k w (at_of done w) done t t reached positive w_in (reached.within w w_in) (record { own = reached.made w w_in; others = λ v ne. refl; shared_same = refl; owners_same = refl })),
          )
      by_order w n (inr more) n_in inside positive w_in early =
          let most : max (at_of done w) n ≡ n = grind (arith, common_steps) in
          let j = all.each w positive w_in in
          let b = block model w (journal_of js w).lines (forms w) j.journal.same j.journal.making t (at_of done w) n more n_in inside (reached.made w w_in) (may_run k w n done t reached positive w_in early) in
          (b.0, b.1, subst (λ (m : ℕ). Reached rows clause js forms k (set done w m) b.0) (sym most) (reached_run k w n done t b.0 reached positive w_in n_in b.2))

  -- Row k brings its lines, or none.
  row_goes : (k : ℕ) (done : List ℕ) (t : Table) (r : Row) → Reached rows clause js forms k done t → slice_get rows k ≡ Some r
      → (u : Table) × StepsRun model t (row_lines js done k r.owner (noted_at js k r)) u × Reached rows clause js forms (k + 1) (row_done done r.owner (noted_at js k r)) u
  row_goes k done t r reached at = by r.is_nogood refl
    where
      Goes : Option ℕ → Type 0
      Goes o = (u : Table) × StepsRun model t (row_lines js done k r.owner o) u × Reached rows clause js forms (k + 1) (row_done done r.owner o) u

      by : (b : Bool) → r.is_nogood ≡ b → (u : Table) × StepsRun model t (row_lines js done k r.owner (cond b (note_of (journal_of js r.owner).notes k) None)) u
          × Reached rows clause js forms (k + 1) (row_done done r.owner (cond b (note_of (journal_of js r.owner).notes k) None)) u
      by false is = (t, refl, reached_plain k done t r reached at is)
      by true is =
          let o = all.owners k r at in
          let j = all.each r.owner o.0 o.1 in
          let noted = j.noted k (r, at, is, refl) in
          subst (λ (x : Option ℕ). (u : Table) × StepsRun model t (row_lines js done k r.owner x) u × Reached rows clause js forms (k + 1) (row_done done r.owner x) u) (sym noted.1)
          (nogood_goes k noted.0 done t r reached at is noted.1 noted.2)

  -- The rows from k on, and then the finisher's further lines.
  rows_go : (f k : ℕ) (rs : List Row) (done : List ℕ) (t : Table) → f < length js → ((i : ℕ) → slice_get rs i ≡ slice_get rows (k + i)) → length rows ≤ k + length rs → Reached rows clause js forms k done t
      → (u : Table) × StepsRun model t (merge_from js f k rs done) u × (made_by u f ≡ undeleted (forms f))
  rows_go f k [] done t inside stand ends reached = finishes f inside
    where
      long_enough : (w : ℕ) (lines : List Step) → drop (at_of done w) (take (length lines) lines) ≡ drop (at_of done w) lines
      long_enough w lines = ap (drop (at_of done w)) (take_all lines (length lines) (omega arith))

      finishes : (w : ℕ) → w < length js → (u : Table) × StepsRun model t (numbered w (at_of done w) (drop (at_of done w) (journal_of js w).lines)) u × (made_by u w ≡ undeleted (forms w))
      finishes zero w_in =
          let all_made : length (journal_of js 0).lines ≡ length (forms 0) = all.root.same in
          (t, subst (λ (ss : List Step). StepsRun model t (numbered 0 (at_of done 0) ss) t) (sym (none (at_of done 0) (journal_of js 0).lines (omega (arith, reached.root_done, all_made)))) refl, reached.root_all)
        where
          none : (n : ℕ) (xs : List Step) → length xs ≤ n → drop n xs ≡ []
          none zero [] h = refl
          none (suc n) [] h = refl
          none zero (x ∷ xs) h = absurd (omega arith)
          none (suc n) (x ∷ xs) h = none n xs (omega arith)
      finishes (suc v) w_in =
          let w : ℕ = suc v in
          let j = all.each w (omega arith) w_in in
          let few = all.few in
          let same : length (journal_of js w).lines ≡ length (forms w) = j.journal.same in
          let b = block model w (journal_of js w).lines (forms w) same j.journal.making t (at_of done w) (length (forms w)) (reached.within w w_in) (omega arith) (omega (arith, reached.owners, few, w_in))
          (reached.made w w_in) (may_run k w (length (forms w)) done t reached (omega arith) w_in (λ i m s below at names. let o = j.foreign i m s at names in let l = slice_get_within rows m o.1.0 o.1.1 in omega (arith, l, ends))) in (
            b.0,
            subst (λ (ss : List Step). StepsRun model t (numbered w (at_of done w) ss) b.0) (subst (λ (n : ℕ). drop (at_of done w) (take n (journal_of js w).lines) ≡ drop (at_of done w) (journal_of js w).lines) same (long_enough w (journal_of js w).lines)) b.1,
            b.2.own ∙ ap undeleted (take_all (forms w) (length (forms w)) (omega arith)),
          )
  rows_go f k (r ∷ rs) done t inside stand ends reached =
      let here : slice_get rows k ≡ Some r = (let e : k ≡ k + 0 = omega arith in ap (slice_get rows) e ∙ sym (stand 0)) in
      let g = row_goes k done t r reached here in
      let rest = rows_go f (k + 1) rs (row_done done r.owner (noted_at js k r)) g.0 inside (λ i. let e : k + suc i ≡ k + 1 + i = omega arith in stand (suc i) ∙ ap (slice_get rows) e) (omega (arith, ends)) g.2 in
      (rest.0, steps_on model t g.0 rest.0 (row_lines js done k r.owner (noted_at js k r)) (merge_from js f (k + 1) rs (row_done done r.owner (noted_at js k r))) g.1 rest.1, rest.2)

  -- Owner 0's lines from the empty table.
  begins : (u : Table) × StepsRun model empty_table (numbered 0 0 (journal_of js 0).lines) u × Reached rows clause js forms 0 (begun js) u
  begins =
      let j = all.root in
      let few = all.few in
      let b = run model 0 (journal_of js 0).lines (forms 0) j.same j.making (journal_of js 0).lines 0 empty_table empty_table (length (forms 0)) (λ i s at. let z : 0 + i ≡ i = omega arith in ap (slice_get (journal_of js 0).lines) z ∙ at) (let e : 0 + length (journal_of js 0).lines ≡ length (forms 0) = omega (arith, j.same) in e) (omega arith)
      (omega (arith, sixty_five)) (nothing 0) (λ w ne. refl) refl refl
      (λ i s f x low high at form own others shared_same. root_makes model clause i (journal_of js 0).lines (forms 0) x s f j own (λ m names. all.plain i m s at names) at form) in
      let whole : made_by b.0 0 ≡ undeleted (forms 0) = b.2.own ∙ ap undeleted (take_all (forms 0) (length (forms 0)) (omega arith)) in (
        b.0,
        b.1,
        record {
          owners = b.2.owners_same ∙ sixty_five;
          counts = count_of js;
          within = λ w w_in. within w w_in;
          made = λ w w_in. made b.0 b.2 whole w w_in;
          root_all = whole;
          root_done = root_count;
          below = subst (λ (ss : List (ℕ × Option Form)). AllBelow ss 0) (sym b.2.shared_same) tt;
          shared_is = λ i o below own. absurd (omega arith);
        },
      )
    where
      sixty_five : length empty_table.made ≡ 65
      sixty_five = length-replicate {A = List (Option Form)} 65 []

      nothing : (w : ℕ) → made_by empty_table w ≡ []
      nothing w = by (cases_lt w 65)
        where
          by : (w < 65) ⊎ (65 ≤ w) → get_or {A = List (Option Form)} (replicate 65 []) w [] ≡ []
          by (inl h) = get_or-replicate 65 w [] [] h
          by (inr h) = get_or_past (replicate 65 []) w [] (omega (arith, h, length-replicate {A = List (Option Form)} 65 []))

      length_map : (xs : List Journal) → length {A = ℕ} (map (λ i. 0) xs) ≡ length xs
      length_map [] = refl
      length_map (x ∷ xs) = ap (λ n. suc n) (length_map xs)

      count_of : (xs : List Journal) → length (begun xs) ≡ length xs
      count_of [] = refl
      count_of (x ∷ xs) = ap (λ n. suc n) (length_map xs)

      zeros : (xs : List Journal) (w : ℕ) → get_or {A = ℕ} (map (λ i. 0) xs) w 0 ≡ 0
      zeros [] w = refl
      zeros (x ∷ xs) zero = refl
      zeros (x ∷ xs) (suc w) = zeros xs w

      root_count : at_of (begun js) 0 ≡ length (forms 0)
      root_count = by js refl
        where
          by : (xs : List Journal) → js ≡ xs → at_of (begun js) 0 ≡ length (forms 0)
          by [] e = let s = all.some_ in absurd (omega (arith, s, ap (λ (ys : List Journal). length ys) e))
          by (x ∷ xs) e = ap (λ (ys : List Journal). at_of (begun ys) 0) e ∙ sym (ap (λ (ys : List Journal). length (journal_of ys 0).lines) e) ∙ all.root.same

      other_count : (w : ℕ) → at_of (begun js) (suc w) ≡ 0
      other_count w = by js
        where
          by : (xs : List Journal) → at_of (begun xs) (suc w) ≡ 0
          by [] = refl
          by (x ∷ xs) = zeros xs w

      within : (w : ℕ) → w < length js → at_of (begun js) w ≤ length (forms w)
      within zero w_in = omega (arith, root_count)
      within (suc w) w_in = omega (arith, other_count w)

      made : (u : Table) → Ran 0 (take (length (forms 0)) (forms 0)) empty_table u → made_by u 0 ≡ undeleted (forms 0) → (w : ℕ) → w < length js → made_by u w ≡ undeleted (take (at_of (begun js) w) (forms w))
      made u ran whole zero w_in = whole ∙ ap undeleted (sym (take_all (forms 0) (at_of (begun js) 0) (omega (arith, root_count))))
      made u ran whole (suc w) w_in = ran.others (suc w) (λ (e : suc w ≡ 0). omega (arith, e)) ∙ nothing (suc w) ∙ ap (λ n. undeleted (take n (forms (suc w)))) (sym (other_count w))

pub merge : MergeLaw
merge model rows clause js forms f all inside =
    let b = begins model rows clause js forms all in
    let r = rows_go model rows clause js forms all f 0 rows (begun js) b.0 inside (λ i. let e : i ≡ 0 + i = omega arith in ap (slice_get rows) e) (omega arith) b.2 in
    (r.0, steps_on model empty_table b.0 r.0 (numbered 0 0 (journal_of js 0).lines) (merge_from js f 0 rows (begun js)) b.1 r.1, r.2)
