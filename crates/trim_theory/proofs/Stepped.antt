-- What a step of either profile did, by the kind of its line, and what its table finds and counts then.
use Rattle.std.proofs.Common.{◌⊎◌, inl, inr, ◌≡◌, ◌≢◌, ℕ, zero, suc, ◌+◌, ◌<◌, ◌≤◌, ◌==◌, Bool, true, false, cond, not, nat_le, List, [], ◌∷◌, ◌++◌, length, get_or, set, Option, Some, None, Result, Ok, refl, sym, ap, ◌∙◌, subst, length-append, arith}
use Rattle.std.specs.Prelude.{slice_get}
use Rattle.std.proofs.lemmas.Bool.{cases_eq, cases_lt, eqb-true, eq-eqb, not-true}
use Rattle.std.proofs.lemmas.List.{get_or-set_same, get_or-set_other, set_past, length-set}
use Rattle.log_theory.specs.declared.profile.Profile.{Profile}
use Rattle.log_theory.specs.declared.profile.Profile.TheVariants.{Hinted, Plain}
use Rattle.proof_theory.specs.declared.literal.Literal.{Literal}
use Rattle.log_theory.specs.declared.step.Name.{Name}
use Rattle.log_theory.specs.declared.step.Ref.{Ref}
use Rattle.log_theory.specs.declared.step.Ref.TheVariants.{Line, Made, Shared}
use Rattle.log_theory.specs.declared.step.Step.{Step}
use Rattle.log_theory.specs.declared.step.Step.TheVariants.{Head, Model, P, U, N, D, E, Y, Q}
use Rattle.log_theory.specs.declared.step.Cause.{Cause}
use Rattle.log_theory.specs.declared.step.Cause.TheVariants.{Form as Malformed, NameUsed, Order, Twice, NoSuchName, NoConflict}
use Rattle.proof_theory.specs.Forms.{Form}
use Rattle.proof_theory.specs.Slack.{refutes, negations, clause_form}
use Rattle.proof_theory.specs.Propagation.{closes}
use Rattle.log_theory.specs.Steps.{◌>>=◌, unless, or_fault}
use Rattle.log_theory.specs.LogText.{is_line}
use Rattle.log_theory.specs.Profiles.{told_in}
use Rattle.log_theory.specs.Lookups.{find_all, are_distinct, variables_of, makes, closed_clause}
use Rattle.log_theory.specs.Tables.{Table, made_by, from_one, standing, shared_at, find, is_row_used, fresh_name, fresh_row, with_made, with_shared, without_number, without_row, without, step_of, all_forms, step_in}
use Rattle.log_theory.proofs.LogSound.{bind_ok, unless_ok, or_fault_ok}
use Rattle.journal_theory.proofs.Placing.{get_snoc, some_same}
use Rattle.trim_theory.specs.Trimming.{LineStands}
use Rattle.trim_theory.proofs.Simulating.{get_set_other, stands}

-- ---- what a step did

-- A name, its owner's next, was given to a form.
pub record Makes (t u : Table) (name : Name) (f : Form) : Type 0 where
  pub number : name.number ≡ length (made_by t name.owner) + 1
  pub is : u ≡ with_made t name f

-- What a line's step did.
abbrev pub Did : Profile → List Form → Table → Step → Table → Type 0
Did profile model t (P name ops) u = (f : Form) × (makes (find model t) (P name ops) ≡ Ok f) × Makes t u name f
Did Hinted model t (U name lits refs) u = (f : Form) × (makes (find model t) (U name lits refs) ≡ Ok f) × Makes t u name f
Did Plain model t (U name lits refs) u = (are_distinct (variables_of lits) ≡ true) × Makes t u name (clause_form lits)
Did profile model t (N row name) u =
    (f : Form) × (find model t (Made name) ≡ Some f) × (is_row_used t.shared row ≡ false) × (u ≡ with_shared t row f)
Did profile model t (D at) u = u ≡ without t at
Did profile model t s u = ⊥

table_same : (t u : Table) → let x : Result Table Cause = Ok t in let y : Result Table Cause = Ok u in x ≡ y → u ≡ t
table_same t u e = cc

form_same : (f g : Form) → let x : Result Form Cause = Ok f in let y : Result Form Cause = Ok g in x ≡ y → g ≡ f
form_same f g e = cc

-- A fresh name is its owner's next.
fresh_number : (t : Table) (name : Name) (k : ℕ) → fresh_name t name ≡ Ok k → name.number ≡ length (made_by t name.owner) + 1
fresh_number t name k e =
    let b = bind_ok (unless (not (nat_le name.number (length (made_by t name.owner)))) NameUsed) _ k e in
    eqb-true name.number (length (made_by t name.owner) + 1) (unless_ok (name.number == length (made_by t name.owner) + 1) Order k b.1.1)

-- A fresh row is not used.
fresh_unused : (t : Table) (row k : ℕ) → fresh_row t row ≡ Ok k → is_row_used t.shared row ≡ false
fresh_unused t row k e =
    let b = bind_ok (unless (not (is_row_used t.shared row)) NameUsed) _ k e in
    not-true (is_row_used t.shared row) (unless_ok (not (is_row_used t.shared row)) NameUsed b.0 b.1.0)

-- A line that makes a form in a log with hints.
p_did : (model : List Form) (t u : Table) (name : Name) (s : Step) → (fresh_name t name >>= λ _. makes (find model t) s >>= λ f. Ok (with_made t name f)) ≡ Ok u
    → (f : Form) × (makes (find model t) s ≡ Ok f) × Makes t u name f
p_did model t u name s e =
    let b = bind_ok (fresh_name t name) _ u e in
    let d = bind_ok (makes (find model t) s) _ u b.1.1 in
    (d.0, d.1.0, record { number = fresh_number t name b.0 b.1.0; is = table_same (with_made t name d.0) u d.1.1 })

u_did : (model : List Form) (t u : Table) (name : Name) (lits : List Literal) → (fresh_name t name >>= λ _. closed_clause (all_forms model t) lits >>= λ f. Ok (with_made t name f)) ≡ Ok u
    → (are_distinct (variables_of lits) ≡ true) × Makes t u name (clause_form lits)
u_did model t u name lits e =
    let b = bind_ok (fresh_name t name) _ u e in
    let d = bind_ok (closed_clause (all_forms model t) lits) _ u b.1.1 in
    let g = bind_ok (unless (are_distinct (variables_of lits)) Twice) _ d.0 d.1.0 in
    let h = bind_ok (unless (closes (negations lits) (all_forms model t)) NoConflict) _ d.0 g.1.1 in (
      unless_ok (are_distinct (variables_of lits)) Twice g.0 g.1.0,
      record {
        number = fresh_number t name b.0 b.1.0;
        is = table_same (with_made t name d.0) u d.1.1 ∙ ap (with_made t name) (form_same (clause_form lits) d.0 h.1.1);
      },
    )

n_did : (model : List Form) (t u : Table) (row : ℕ) (name : Name) → step_of model t (N row name) ≡ Ok u
    → (f : Form) × (find model t (Made name) ≡ Some f) × (is_row_used t.shared row ≡ false) × (u ≡ with_shared t row f)
n_did model t u row name e =
    let b = bind_ok (fresh_row t row) _ u e in
    let d = bind_ok (makes (find model t) (N row name)) _ u b.1.1 in
    (d.0, or_fault_ok (find model t (Made name)) NoSuchName d.0 d.1.0, fresh_unused t row b.0 b.1.0, table_same (with_shared t row d.0) u d.1.1)

d_did : (model : List Form) (t u : Table) (at : Ref) → step_of model t (D at) ≡ Ok u → u ≡ without t at
d_did model t u at e =
    let b = bind_ok (unless (not (is_line at)) Malformed) _ u e in
    let d = bind_ok (or_fault (find model t at) NoSuchName) _ u b.1.1 in
    table_same (without t at) u d.1.1

pub stepped : (profile : Profile) (model : List Form) (t u : Table) (s : Step) → step_in profile model t (told_in profile s) ≡ Ok u → Did profile model t s u
stepped Hinted model t u (P name ops) e = p_did model t u name (P name ops) e
stepped Plain model t u (P name ops) e = p_did model t u name (P name ops) e
stepped Hinted model t u (U name lits refs) e = p_did model t u name (U name lits refs) e
stepped Plain model t u (U name lits refs) e = u_did model t u name lits e
stepped Hinted model t u (N row name) e = n_did model t u row name e
stepped Plain model t u (N row name) e = n_did model t u row name e
stepped Hinted model t u (D at) e = d_did model t u at e
stepped Plain model t u (D at) e = d_did model t u at e
stepped Hinted model t u Head e = absurd cc
stepped Plain model t u Head e = absurd cc
stepped Hinted model t u (Model m) e = absurd cc
stepped Plain model t u (Model m) e = absurd cc
stepped Hinted model t u (E at) e = absurd cc
stepped Plain model t u (E at) e = absurd cc
stepped Hinted model t u (Y ones) e = absurd cc
stepped Plain model t u (Y ones) e = absurd cc
stepped Hinted model t u Q e = absurd cc
stepped Plain model t u Q e = absurd cc

-- A kept `u` line makes its form by its references.
pub clause_makes : (profile : Profile) (keep : Name → Bool) (model : List Form) (t u : Table) (name : Name) (lits : List Literal) (refs : List Ref) → Did profile model t (U name lits refs) u
    → (f : Form) × (keep name ≡ true → LineStands profile keep model t (U name lits refs) → makes (find model t) (U name lits refs) ≡ Ok f) × Makes t u name f
clause_makes Hinted keep model t u name lits refs did = (did.0, (λ k h. did.1), did.2)
clause_makes Plain keep model t u name lits refs did = (
  clause_form lits,
  (λ k stand. let h = stand k in
      ap (λ (b : Bool). unless b Twice >>= λ _. find_all (find model t) refs >>= λ fs. unless (refutes (negations lits) fs) NoConflict >>= λ _. Ok (clause_form lits)) did.0
      ∙ ap (λ (x : Result (List Form) Cause). x >>= λ fs. unless (refutes (negations lits) fs) NoConflict >>= λ _. Ok (clause_form lits)) h.1
      ∙ ap (λ (b : Bool). unless b NoConflict >>= λ _. Ok (clause_form lits)) h.2),
  did.1,
)

-- ---- a table with one more name

-- The form of the name just made, where the table has its owner.
pub made_long : (t : Table) (name : Name) (f : Form) → name.owner < length t.made → made_by (with_made t name f) name.owner ≡ made_by t name.owner ++ Some f ∷ []
made_long t name f l = get_or-set_same t.made name.owner (made_by t name.owner ++ Some f ∷ []) [] l

made_other : (t : Table) (name : Name) (f : Form) (owner : ℕ) → owner ≢ name.owner → made_by (with_made t name f) owner ≡ made_by t owner
made_other t name f owner ne = get_or-set_other t.made name.owner owner (made_by t name.owner ++ Some f ∷ []) [] ne

made_past : (t : Table) (name : Name) (f : Form) (owner : ℕ) → length t.made ≤ name.owner → made_by (with_made t name f) owner ≡ made_by t owner
made_past t name f owner l = ap (λ (lists : List (List (Option Form))). get_or lists owner []) (set_past t.made name.owner (made_by t name.owner ++ Some f ∷ []) l)

pub name_same : (a b : Name) → a.owner ≡ b.owner → a.number ≡ b.number → a ≡ b
name_same a b e g = λ i. record { owner = e i; number = g i }

-- What is found under a name was found before, or is the form just made under its name.
pub made_finds : (model : List Form) (t : Table) (name other : Name) (f g : Form) → name.number ≡ length (made_by t name.owner) + 1 → find model (with_made t name f) (Made other) ≡ Some g
    → (find model t (Made other) ≡ Some g) ⊎ ((name.owner < length t.made) × (other ≡ name) × (g ≡ f))
made_finds model t name other f g number e = by (cases_eq other.owner name.owner) (cases_lt name.owner (length t.made))
  where
    at : (v : List (Option Form)) → made_by (with_made t name f) other.owner ≡ v → standing (from_one v other.number) ≡ Some g
    at v is = ap (λ (w : List (Option Form)). standing (from_one w other.number)) (sym is) ∙ e

    by-place : (k : ℕ) → other.number ≡ k → other.owner ≡ name.owner → name.owner < length t.made → standing (from_one (made_by t name.owner ++ Some f ∷ []) k) ≡ Some g
        → (standing (from_one (made_by t name.owner) k) ≡ Some g) ⊎ ((name.owner < length t.made) × (other ≡ name) × (g ≡ f))
    by-place zero n o l h = absurd cc
    by-place (suc k) n o l h = elim (get_snoc (made_by t name.owner) (Some f) (Some g) k (stands (slice_get (made_by t name.owner ++ Some f ∷ []) k) g h)) [
      | inl p ↦ inl (ap standing p.1)
      | inr p ↦ inr (l, name_same other name o (let q : k ≡ length (made_by t name.owner) = p.0 in omega (arith, n, q, number)), some_same g f p.1)
    ]

    by : (other.owner ≡ name.owner) ⊎ (other.owner ≡ name.owner → ⊥) → (name.owner < length t.made) ⊎ (length t.made ≤ name.owner)
        → (find model t (Made other) ≡ Some g) ⊎ ((name.owner < length t.made) × (other ≡ name) × (g ≡ f))
    by (inr ne) c = inl (at (made_by t other.owner) (made_other t name f other.owner ne))
    by (inl o) (inr l) = inl (at (made_by t other.owner) (made_past t name f other.owner l))
    by (inl o) (inl l) = elim (by-place other.number refl o l (at (made_by t name.owner ++ Some f ∷ []) (ap (made_by (with_made t name f)) o ∙ made_long t name f l))) [
      | inl p ↦ inl (ap (λ (w : ℕ). standing (from_one (made_by t w) other.number)) o ∙ p)
      | inr p ↦ inr p
    ]

pub made_grows : (t : Table) (name : Name) (f : Form) (owner : ℕ) → length (made_by t owner) ≤ length (made_by (with_made t name f) owner)
made_grows t name f owner = by (cases_eq owner name.owner) (cases_lt name.owner (length t.made))
  where
    by : (owner ≡ name.owner) ⊎ (owner ≡ name.owner → ⊥) → (name.owner < length t.made) ⊎ (length t.made ≤ name.owner) → length (made_by t owner) ≤ length (made_by (with_made t name f) owner)
    by (inr ne) c = omega (arith, ap length (made_other t name f owner ne))
    by (inl o) (inr l) = omega (arith, ap length (made_past t name f owner l))
    by (inl o) (inl l) =
        let e = ap (λ (w : ℕ). length (made_by t w)) o in
        let g = ap (λ (w : ℕ). length (made_by (with_made t name f) w)) o in
        omega (arith, e, g, ap length (made_long t name f l), length-append (made_by t name.owner) (Some f ∷ []))

-- ---- a table with one more row

-- What is found under a row was found before, or is the form just shared.
pub shared_finds : (ss : List (ℕ × Option Form)) (row k : ℕ) (f g : Form) → shared_at (ss ++ (row, Some f) ∷ []) k ≡ Some g → (shared_at ss k ≡ Some g) ⊎ ((k ≡ row) × (g ≡ f))
shared_finds [] row k f g e = by (row == k) refl e
  where
    by : (b : Bool) → (row == k) ≡ b → cond b (Some f) None ≡ Some g → (None ≡ Some g) ⊎ ((k ≡ row) × (g ≡ f))
    by true t h = inr (sym (eqb-true row k t), some_same g f (sym h))
    by false t h = inl h
shared_finds (s ∷ ss) row k f g e = by (s.0 == k) (shared_finds ss row k f g) e
  where
    by : (b : Bool) → (shared_at (ss ++ (row, Some f) ∷ []) k ≡ Some g → (shared_at ss k ≡ Some g) ⊎ ((k ≡ row) × (g ≡ f)))
        → cond b s.1 (shared_at (ss ++ (row, Some f) ∷ []) k) ≡ Some g → (cond b s.1 (shared_at ss k) ≡ Some g) ⊎ ((k ≡ row) × (g ≡ f))
    by true later h = inl h
    by false later h = later h

-- A row that is not used then was not used, and is another one.
pub shared_free : (ss : List (ℕ × Option Form)) (row k : ℕ) (o : Option Form) → is_row_used (ss ++ (row, o) ∷ []) k ≡ false → (is_row_used ss k ≡ false) × (row ≢ k)
shared_free [] row k o e = (refl, λ (same : row ≡ k). by (row == k) (eq-eqb row k same) e)
  where
    by : (b : Bool) → b ≡ true → cond b true false ≡ false → ⊥
    by true t h = cc
    by false t h = cc
shared_free (s ∷ ss) row k o e = by (s.0 == k) (shared_free ss row k o) e
  where
    by : (b : Bool) → (is_row_used (ss ++ (row, o) ∷ []) k ≡ false → (is_row_used ss k ≡ false) × (row ≢ k))
        → cond b true (is_row_used (ss ++ (row, o) ∷ []) k) ≡ false → (cond b true (is_row_used ss k) ≡ false) × (row ≢ k)
    by true later h = absurd cc
    by false later h = later h

-- ---- a table without a name

number_less : (v : List (Option Form)) (n k : ℕ) (g : Form) → standing (from_one (without_number v n) k) ≡ Some g → standing (from_one v k) ≡ Some g
number_less v zero k g e = e
number_less v (suc n) zero g e = absurd cc
number_less v (suc n) (suc k) g e = by (cases_eq k n)
  where
    emptied : (xs : List (Option Form)) (m : ℕ) → slice_get (set xs m None) m ≡ Some (Some g) → ⊥
    emptied [] m h = cc
    emptied (x ∷ xs) zero h = cc
    emptied (x ∷ xs) (suc m) h = emptied xs m h

    by : (k ≡ n) ⊎ (k ≡ n → ⊥) → standing (slice_get v k) ≡ Some g
    by (inl o) = absurd (emptied v n (ap (slice_get (set v n None)) (sym o) ∙ stands (slice_get (set v n None) k) g e))
    by (inr ne) = ap standing (sym (get_set_other v n k None ne)) ∙ e

long_number : (v : List (Option Form)) (n : ℕ) → length (without_number v n) ≡ length v
long_number v zero = refl
long_number v (suc n) = length-set v n None

row_less : (ss : List (ℕ × Option Form)) (row k : ℕ) (g : Form) → shared_at (without_row ss row) k ≡ Some g → shared_at ss k ≡ Some g
row_less [] row k g e = e
row_less (s ∷ ss) row k g e = by (s.0 == k) (s.0 == row) (row_less ss row k g) e
  where
    by : (b c : Bool) → (shared_at (without_row ss row) k ≡ Some g → shared_at ss k ≡ Some g) → cond b (cond c None s.1) (shared_at (without_row ss row) k) ≡ Some g → cond b s.1 (shared_at ss k) ≡ Some g
    by true true later h = absurd cc
    by true false later h = h
    by false c later h = later h

row_used : (ss : List (ℕ × Option Form)) (row k : ℕ) → is_row_used (without_row ss row) k ≡ is_row_used ss k
row_used [] row k = refl
row_used (s ∷ ss) row k = ap (cond (s.0 == k) true) (row_used ss row k)

-- The places of one owner, where those of one are others of the same number.
module _ (t : Table) (name : Name) (v : List (Option Form)) (same : length v ≡ length (made_by t name.owner)) where
  abbrev changed : Table
  changed = record { made = set t.made name.owner v; shared = t.shared }

  changed_long : (owner : ℕ) → length (made_by changed owner) ≡ length (made_by t owner)
  changed_long owner = by (cases_eq owner name.owner) (cases_lt name.owner (length t.made))
    where
      by : (owner ≡ name.owner) ⊎ (owner ≡ name.owner → ⊥) → (name.owner < length t.made) ⊎ (length t.made ≤ name.owner) → length (made_by changed owner) ≡ length (made_by t owner)
      by (inr ne) c = ap length (get_or-set_other t.made name.owner owner v [] ne)
      by (inl o) (inr l) = ap (λ (lists : List (List (Option Form))). length (get_or lists owner [])) (set_past t.made name.owner v l)
      by (inl o) (inl l) = ap (λ (w : ℕ). length (made_by changed w)) o ∙ ap length (get_or-set_same t.made name.owner v [] l) ∙ same ∙ ap (λ (w : ℕ). length (made_by t w)) (sym o)

  changed_less : (other : Name) (g : Form) → ((k : ℕ) → standing (from_one v k) ≡ Some g → standing (from_one (made_by t name.owner) k) ≡ Some g)
      → standing (from_one (made_by changed other.owner) other.number) ≡ Some g → standing (from_one (made_by t other.owner) other.number) ≡ Some g
  changed_less other g less e = by (cases_eq other.owner name.owner) (cases_lt name.owner (length t.made))
    where
      at : (w : List (Option Form)) → made_by changed other.owner ≡ w → standing (from_one w other.number) ≡ Some g
      at w is = ap (λ (x : List (Option Form)). standing (from_one x other.number)) (sym is) ∙ e

      by : (other.owner ≡ name.owner) ⊎ (other.owner ≡ name.owner → ⊥) → (name.owner < length t.made) ⊎ (length t.made ≤ name.owner) → standing (from_one (made_by t other.owner) other.number) ≡ Some g
      by (inr ne) c = at (made_by t other.owner) (get_or-set_other t.made name.owner other.owner v [] ne)
      by (inl o) (inr l) = at (made_by t other.owner) (ap (λ (lists : List (List (Option Form))). get_or lists other.owner []) (set_past t.made name.owner v l))
      by (inl o) (inl l) =
          ap (λ (w : ℕ). standing (from_one (made_by t w) other.number)) o
          ∙ less other.number (at v (ap (made_by changed) o ∙ get_or-set_same t.made name.owner v [] l))

-- What is found then was found before.
pub without_less : (model : List Form) (t : Table) (at r : Ref) (g : Form) → find model (without t at) r ≡ Some g → find model t r ≡ Some g
without_less model t (Line k) r g e = e
without_less model t (Made name) (Line k) g e = e
without_less model t (Made name) (Shared k) g e = e
without_less model t (Made name) (Made other) g e =
    changed_less t name (without_number (made_by t name.owner) name.number) (long_number (made_by t name.owner) name.number) other g (λ k h. number_less (made_by t name.owner) name.number k g h) e
without_less model t (Shared row) (Line k) g e = e
without_less model t (Shared row) (Made other) g e = e
without_less model t (Shared row) (Shared k) g e = row_less t.shared row k g e

-- Names and rows that were used stay used.
pub without_long : (t : Table) (at : Ref) (owner : ℕ) → length (made_by (without t at) owner) ≡ length (made_by t owner)
without_long t (Line k) owner = refl
without_long t (Made name) owner = changed_long t name (without_number (made_by t name.owner) name.number) (long_number (made_by t name.owner) name.number) owner
without_long t (Shared row) owner = refl

pub without_used : (t : Table) (at : Ref) (k : ℕ) → is_row_used (without t at).shared k ≡ is_row_used t.shared k
without_used t (Line i) k = refl
without_used t (Made name) k = refl
without_used t (Shared row) k = row_used t.shared row k

pub without_owners : (t : Table) (at : Ref) → length (without t at).made ≡ length t.made
without_owners t (Line k) = refl
without_owners t (Made name) = length-set t.made name.owner (without_number (made_by t name.owner) name.number)
without_owners t (Shared row) = refl

-- ---- any step

pub grown : (profile : Profile) (model : List Form) (t u : Table) (s : Step) → Did profile model t s u → (owner : ℕ) → length (made_by t owner) ≤ length (made_by u owner)
grown profile model t u (P name ops) did owner = subst (λ (x : Table). length (made_by t owner) ≤ length (made_by x owner)) (sym did.2.is) (made_grows t name did.0 owner)
grown Hinted model t u (U name lits refs) did owner = subst (λ (x : Table). length (made_by t owner) ≤ length (made_by x owner)) (sym did.2.is) (made_grows t name did.0 owner)
grown Plain model t u (U name lits refs) did owner = subst (λ (x : Table). length (made_by t owner) ≤ length (made_by x owner)) (sym did.1.is) (made_grows t name (clause_form lits) owner)
grown profile model t u (N row name) did owner = subst (λ (x : Table). length (made_by t owner) ≤ length (made_by x owner)) (sym did.3) (omega arith)
grown profile model t u (D at) did owner = subst (λ (x : Table). length (made_by t owner) ≤ length (made_by x owner)) (sym did) (omega (arith, without_long t at owner))
grown profile model t u Head did owner = absurd did
grown profile model t u (Model m) did owner = absurd did
grown profile model t u (E at) did owner = absurd did
grown profile model t u (Y ones) did owner = absurd did
grown profile model t u Q did owner = absurd did

-- Owners stay as many.
pub owners_same : (profile : Profile) (model : List Form) (t u : Table) (s : Step) → Did profile model t s u → length u.made ≡ length t.made
owners_same profile model t u (P name ops) did = ap (λ (x : Table). length x.made) did.2.is ∙ length-set t.made name.owner (made_by t name.owner ++ Some did.0 ∷ [])
owners_same Hinted model t u (U name lits refs) did = ap (λ (x : Table). length x.made) did.2.is ∙ length-set t.made name.owner (made_by t name.owner ++ Some did.0 ∷ [])
owners_same Plain model t u (U name lits refs) did = ap (λ (x : Table). length x.made) did.1.is ∙ length-set t.made name.owner (made_by t name.owner ++ Some (clause_form lits) ∷ [])
owners_same profile model t u (N row name) did = ap (λ (x : Table). length x.made) did.3
owners_same profile model t u (D at) did = ap (λ (x : Table). length x.made) did ∙ without_owners t at
owners_same profile model t u Head did = absurd did
owners_same profile model t u (Model m) did = absurd did
owners_same profile model t u (E at) did = absurd did
owners_same profile model t u (Y ones) did = absurd did
owners_same profile model t u Q did = absurd did
