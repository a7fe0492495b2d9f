-- The kept lines of a log make their forms over the kept ones alone.
use Rattle.std.proofs.Common.{◌⊎◌, inl, inr, ◌≡◌, ℕ, zero, suc, ◌+◌, ◌<◌, ◌≤◌, Bool, true, false, cond, List, [], ◌∷◌, ◌++◌, length, map, get_or, replicate, Option, Some, None, Ok, refl, sym, ap, ◌∙◌, subst, length-append, append_assoc, arith}
use Rattle.std.specs.Prelude.{slice_get}
use Rattle.std.proofs.lemmas.Bool.{ne_eqb, eq-eqb}
use Rattle.std.proofs.lemmas.List.{length-set}
use Rattle.log_theory.specs.declared.profile.Profile.{Profile}
use Rattle.log_theory.specs.declared.step.Name.{Name}
use Rattle.log_theory.specs.declared.step.Ref.{Ref}
use Rattle.log_theory.specs.declared.step.Ref.TheVariants.{Line, Made, Shared}
use Rattle.log_theory.specs.declared.step.Step.{Step}
use Rattle.log_theory.specs.declared.step.Step.TheVariants.{Head, Model, P, U, N, D, E, Y, Q}
use Rattle.proof_theory.specs.Forms.{Form}
use Rattle.log_theory.specs.Profiles.{told_in}
use Rattle.log_theory.specs.Lookups.{makes}
use Rattle.log_theory.specs.Tables.{Table, empty_table, made_by, from_one, standing, find, is_row_used, with_shared, without}
use Rattle.journal_theory.specs.Journals.{own_name}
use Rattle.journal_theory.proofs.Placing.{get_more, get_snoc, some_same}
use Rattle.trim_theory.specs.Renaming.{Renaming, LineRenamed, LinesRenamed, Follows}
use Rattle.trim_theory.specs.Running.{own_look, Bears, MakesFrom}
use Rattle.trim_theory.specs.Trimming.{StepsIn, kept_lines, made_names, kept_names, row_name, ToKept, HintsStand}
use Rattle.trim_theory.specs.Laws.{KeepingLaw}
use Rattle.trim_theory.proofs.Renaming.{line_wider, makes_renamed}
use Rattle.trim_theory.proofs.Simulating.{get_last, at_own}
use Rattle.trim_theory.proofs.Stepped.{Makes, stepped, clause_makes, made_long, made_finds, made_grows, shared_finds, shared_free, without_less, without_long, without_used, without_owners, grown}

-- What stands in two lists stands in the one or in the other.
pub get_either : {A : Type 0} (xs ys : List A) (i : ℕ) (x : A) → slice_get (xs ++ ys) i ≡ Some x
    → ((i < length xs) × (slice_get xs i ≡ Some x)) ⊎ ((j : ℕ) × (i ≡ length xs + j) × (slice_get ys j ≡ Some x))
get_either [] ys i x e = inr (i, omega arith, e)
get_either (y ∷ xs) ys zero x e = inl (omega arith, e)
get_either (y ∷ xs) ys (suc i) x e = elim (get_either xs ys i x e) [ inl h ↦ inl (omega (arith, h.0), h.1) | inr h ↦ inr (h.0, omega (arith, h.1), h.2) ]

-- ---- names of later lines

-- A line that makes a form, kept or not, in front of others.
later_of : (keep : Name → Bool) (t m : Table) (s : Step) (name : Name) (f : Form) (rest : List Step) → Makes t m name f → (b : Bool)
    → ((i : ℕ) (nm : Name) → slice_get (kept_names keep rest) i ≡ Some nm → length (made_by m nm.owner) < nm.number)
    → ((ss : List Step) → made_names (s ∷ ss) ≡ name ∷ made_names ss)
    → (i : ℕ) (nm : Name) → slice_get (made_names (cond b (s ∷ kept_lines keep rest) (kept_lines keep rest))) i ≡ Some nm → length (made_by t nm.owner) < nm.number
later_of keep t m s name f rest did false more bears i nm at =
    let l = more i nm at in
    let g : length (made_by t nm.owner) ≤ length (made_by m nm.owner) = subst (λ (x : Table). length (made_by t nm.owner) ≤ length (made_by x nm.owner)) (sym did.is) (made_grows t name f nm.owner) in
    omega (arith, l, g)
later_of keep t m s name f rest did true more bears i nm at = by i (ap (λ (ns : List Name). slice_get ns i) (sym (bears (kept_lines keep rest))) ∙ at)
  where
    by : (j : ℕ) → slice_get (name ∷ kept_names keep rest) j ≡ Some nm → length (made_by t nm.owner) < nm.number
    by zero e =
        let same : name ≡ nm = some_same name nm e in
        subst (λ (x : Name). length (made_by t x.owner) < x.number) same (let k = did.number in omega (arith, k))
    by (suc j) e =
        let l = more j nm e in
        let g : length (made_by t nm.owner) ≤ length (made_by m nm.owner) = subst (λ (x : Table). length (made_by t nm.owner) ≤ length (made_by x nm.owner)) (sym did.is) (made_grows t name f nm.owner) in
        omega (arith, l, g)

-- The names of later lines have numbers above the places there.
pub fresh_later : (profile : Profile) (model : List Form) (keep : Name → Bool) (rest : List Step) (t z : Table) → StepsIn profile model t (map (told_in profile) rest) z
    → (i : ℕ) (nm : Name) → slice_get (kept_names keep rest) i ≡ Some nm → length (made_by t nm.owner) < nm.number
fresh_later profile model keep [] t z steps i nm at = absurd cc
fresh_later profile model keep (P name ops ∷ rest) t z steps i nm at =
    let did = stepped profile model t steps.0 (P name ops) steps.1 in
    later_of keep t steps.0 (P name ops) name did.0 rest did.2 (keep name) (fresh_later profile model keep rest steps.0 z steps.2) (λ ss. refl) i nm at
fresh_later profile model keep (U name lits refs ∷ rest) t z steps i nm at =
    let did = clause_makes profile keep model t steps.0 name lits refs (stepped profile model t steps.0 (U name lits refs) steps.1) in
    later_of keep t steps.0 (U name lits refs) name did.0 rest did.2 (keep name) (fresh_later profile model keep rest steps.0 z steps.2) (λ ss. refl) i nm at
fresh_later profile model keep (N row name ∷ rest) t z steps i nm at =
    let g = grown profile model t steps.0 (N row name) (stepped profile model t steps.0 (N row name) steps.1) nm.owner in
    let l = fresh_later profile model keep rest steps.0 z steps.2 i nm at in
    omega (arith, g, l)
fresh_later profile model keep (D r ∷ rest) t z steps i nm at =
    let g = grown profile model t steps.0 (D r) (stepped profile model t steps.0 (D r) steps.1) nm.owner in
    let l = fresh_later profile model keep rest steps.0 z steps.2 i nm at in
    omega (arith, g, l)
fresh_later profile model keep (Head ∷ rest) t z steps i nm at = absurd (stepped profile model t steps.0 Head steps.1)
fresh_later profile model keep (Model k ∷ rest) t z steps i nm at = absurd (stepped profile model t steps.0 (Model k) steps.1)
fresh_later profile model keep (E r ∷ rest) t z steps i nm at = absurd (stepped profile model t steps.0 (E r) steps.1)
fresh_later profile model keep (Y ones ∷ rest) t z steps i nm at = absurd (stepped profile model t steps.0 (Y ones) steps.1)
fresh_later profile model keep (Q ∷ rest) t z steps i nm at = absurd (stepped profile model t steps.0 Q steps.1)

-- ---- the walk

-- A renamed line bears its new name.
new_bears : (to : Renaming) (place : ℕ) (s u : Step) → LineRenamed to place s u → Bears (own_name 0 place) u
new_bears to place (P name ops) (P new os) h = h.0
new_bears to place (U name lits refs) (U new ls rs) h = h.0
new_bears to place s u h = absurd h

module _ (model : List Form) (full : List Step) (names : List Name) where
  -- What a table says of the forms of the kept lines before it: what it finds under a kept name, or a row of one, is that name's form.
  record Known (t : Table) (before : List Form) (later : List Name) (row : ℕ → Option Name) : Type 0 where
    earlier : List Name
    names_are : names ≡ earlier ++ later
    long : length earlier ≡ length before
    past : (i : ℕ) (nm : Name) → slice_get earlier i ≡ Some nm → nm.owner < length t.made → nm.number ≤ length (made_by t nm.owner)
    finds : (i : ℕ) (nm : Name) (f : Form) → slice_get names i ≡ Some nm → find model t (Made nm) ≡ Some f → slice_get before i ≡ Some f
    rows : (i k : ℕ) (nm : Name) (f : Form) → row_name full k ≡ Some nm → slice_get names i ≡ Some nm → find model t (Shared k) ≡ Some f → slice_get before i ≡ Some f
    rest_rows : (k : ℕ) → is_row_used t.shared k ≡ false → row_name full k ≡ row k

  -- What is kept finds the same under its new name.
  new_follows : (t : Table) (before : List Form) (later : List Name) (row : ℕ → Option Name) → Known t before later row → (q r : Ref) → ToKept full names q r
      → Follows (find model t) (own_look model before) q r
  new_follows t before later row known (Line k) r h f e = ap (own_look model before) h ∙ e
  new_follows t before later row known (Made nm) r h f e = ap (own_look model before) h.2 ∙ at_own before h.0 ∙ known.finds h.0 nm f h.1 e
  new_follows t before later row known (Shared k) r h f e = ap (own_look model before) h.2.2 ∙ at_own before h.2.0 ∙ known.rows h.2.0 k h.0 f h.1 h.2.1 e

  -- A table with one more name, kept behind the earlier ones or not kept.
  module _ (t m : Table) (name : Name) (f : Form) (did : Makes t m name f) (before : List Form) (ks : List Name) (row : ℕ → Option Name)
      (fresh : (i : ℕ) (nm : Name) → slice_get ks i ≡ Some nm → length (made_by m nm.owner) < nm.number) where
    grows : (owner : ℕ) → length (made_by t owner) ≤ length (made_by m owner)
    grows owner = subst (λ (x : Table). length (made_by t owner) ≤ length (made_by x owner)) (sym did.is) (made_grows t name f owner)

    owners : length m.made ≡ length t.made
    owners = ap (λ (x : Table). length x.made) did.is ∙ length-set t.made name.owner (made_by t name.owner ++ Some f ∷ [])

    found : (nm : Name) (g : Form) → find model m (Made nm) ≡ Some g → (find model t (Made nm) ≡ Some g) ⊎ ((name.owner < length t.made) × (nm ≡ name) × (g ≡ f))
    found nm g e = made_finds model t name nm f g did.number (ap (λ (x : Table). find model x (Made nm)) (sym did.is) ∙ e)

    row_found : (k : ℕ) (g : Form) → find model m (Shared k) ≡ Some g → find model t (Shared k) ≡ Some g
    row_found k g e = ap (λ (x : Table). find model x (Shared k)) (sym did.is) ∙ e

    rows_used : (k : ℕ) → is_row_used m.shared k ≡ false → is_row_used t.shared k ≡ false
    rows_used k e = ap (λ (x : Table). is_row_used x.shared k) (sym did.is) ∙ e

    -- the name is none of the earlier ones
    not_earlier : (earlier : List Name) (i : ℕ) → slice_get earlier i ≡ Some name → name.owner < length t.made
        → ((j : ℕ) (nm : Name) → slice_get earlier j ≡ Some nm → nm.owner < length t.made → nm.number ≤ length (made_by t nm.owner)) → ⊥
    not_earlier earlier i at within past = let l = past i name at within in let n = did.number in omega (arith, l, n)

    -- nor of the later ones
    not_later : (i : ℕ) → slice_get ks i ≡ Some name → name.owner < length t.made → ⊥
    not_later i at within =
        let l = fresh i name at in
        let n = did.number in
        let e : length (made_by m name.owner) ≡ length (made_by t name.owner) + 1 = ap (λ (x : Table). length (made_by x name.owner)) did.is ∙ ap length (made_long t name f within) ∙ length-append (made_by t name.owner) (Some f ∷ []) in
        omega (arith, l, n, e)

    past_more : (earlier : List Name) → ((j : ℕ) (nm : Name) → slice_get earlier j ≡ Some nm → nm.owner < length t.made → nm.number ≤ length (made_by t nm.owner))
        → (j : ℕ) (nm : Name) → slice_get earlier j ≡ Some nm → nm.owner < length m.made → nm.number ≤ length (made_by m nm.owner)
    past_more earlier past j nm at within = let l = past j nm at (omega (arith, within, owners)) in let g = grows nm.owner in omega (arith, l, g)

    known_left : Known t before ks row → Known m before ks row
    known_left known = record {
      earlier = known.earlier;
      names_are = known.names_are;
      long = known.long;
      past = past_more known.earlier known.past;
      finds = λ i nm g at e. elim (found nm g e) [
        | inl h ↦ known.finds i nm g at h
        | inr h ↦ absurd (elsewhere i (ap (λ (ns : List Name). slice_get ns i) (sym known.names_are) ∙ at ∙ ap (λ (x : Name). let o : Option Name = Some x in o) h.1) h.0)
      ];
      rows = λ i k nm g is at e. known.rows i k nm g is at (row_found k g e);
      rest_rows = λ k free. known.rest_rows k (rows_used k free);
    }
      where
        elsewhere : (i : ℕ) → slice_get (known.earlier ++ ks) i ≡ Some name → name.owner < length t.made → ⊥
        elsewhere i at within = elim (get_either known.earlier ks i name at) [
          | inl h ↦ not_earlier known.earlier i h.1 within known.past
          | inr h ↦ not_later h.0 h.2 within
        ]

    known_kept : Known t before (name ∷ ks) row → Known m (before ++ f ∷ []) ks row
    known_kept known = record {
      earlier = known.earlier ++ name ∷ [];
      names_are = known.names_are ∙ sym (append_assoc known.earlier (name ∷ []) ks);
      long = length-append known.earlier (name ∷ []) ∙ ap (λ (n : ℕ). n + 1) known.long ∙ sym (length-append before (f ∷ []));
      past = λ j nm at within. elim (get_snoc known.earlier name nm j at) [
        | inl h ↦ past_more known.earlier known.past j nm h.1 within
        | inr h ↦ newest nm h.1 within
      ];
      finds = λ i nm g at e. elim (found nm g e) [
        | inl h ↦ get_more before (f ∷ []) i g (known.finds i nm g at h)
        | inr h ↦ here i g (ap (λ (ns : List Name). slice_get ns i) (sym known.names_are) ∙ at ∙ ap (λ (x : Name). let o : Option Name = Some x in o) h.1) h.0 h.2
      ];
      rows = λ i k nm g is at e. get_more before (f ∷ []) i g (known.rows i k nm g is at (row_found k g e));
      rest_rows = λ k free. known.rest_rows k (rows_used k free);
    }
      where
        newest : (nm : Name) → nm ≡ name → nm.owner < length m.made → nm.number ≤ length (made_by m nm.owner)
        newest nm same within =
            let in_t : name.owner < length t.made = subst (λ (x : Name). x.owner < length t.made) same (omega (arith, within, owners)) in
            let e : length (made_by m name.owner) ≡ length (made_by t name.owner) + 1 = ap (λ (x : Table). length (made_by x name.owner)) did.is ∙ ap length (made_long t name f in_t) ∙ length-append (made_by t name.owner) (Some f ∷ []) in
            let n = did.number in
            subst (λ (x : Name). x.number ≤ length (made_by m x.owner)) (sym same) (omega (arith, e, n))

        by-rest : (j i : ℕ) (g : Form) → i ≡ length known.earlier + j → slice_get (name ∷ ks) j ≡ Some name → name.owner < length t.made → g ≡ f → slice_get (before ++ f ∷ []) i ≡ Some g
        by-rest zero i g is at within same =
            let place : i ≡ length before = omega (arith, is, known.long) in
            ap (slice_get (before ++ f ∷ [])) place ∙ get_last before f ∙ ap (λ (x : Form). let o : Option Form = Some x in o) (sym same)
        by-rest (suc j) i g is at within same = absurd (not_later j at within)

        here : (i : ℕ) (g : Form) → slice_get (known.earlier ++ name ∷ ks) i ≡ Some name → name.owner < length t.made → g ≡ f → slice_get (before ++ f ∷ []) i ≡ Some g
        here i g at within same = elim (get_either known.earlier (name ∷ ks) i name at) [
          | inl h ↦ absurd (not_earlier known.earlier i h.1 within known.past)
          | inr h ↦ by-rest h.0 i g h.1 h.2 within same
        ]

  -- A table with one more row.
  known_shared : (t : Table) (k : ℕ) (name : Name) (f : Form) (before : List Form) (ks : List Name) (rest : List Step) → find model t (Made name) ≡ Some f → is_row_used t.shared k ≡ false
      → Known t before ks (row_name (N k name ∷ rest)) → Known (with_shared t k f) before ks (row_name rest)
  known_shared t k name f before ks rest at free known = record {
    earlier = known.earlier;
    names_are = known.names_are;
    long = known.long;
    past = known.past;
    finds = known.finds;
    rows = λ i row nm g is named found. elim (shared_finds t.shared k row f g found) [
      | inl h ↦ known.rows i row nm g is named h
      | inr h ↦ shared i row nm g is named h.0 h.1
    ];
    rest_rows = λ row unused. let h = shared_free t.shared k row (Some f) unused in known.rest_rows row h.0 ∙ ap (λ (b : Bool). cond b (Some name) (row_name rest row)) (ne_eqb k row h.1);
  }
    where
      shared : (i row : ℕ) (nm : Name) (g : Form) → row_name full row ≡ Some nm → slice_get names i ≡ Some nm → row ≡ k → g ≡ f → slice_get before i ≡ Some g
      shared i row nm g is named same form =
          let told : Some name ≡ Some nm = sym (ap (λ (b : Bool). cond b (Some name) (row_name rest k)) (eq-eqb k k refl)) ∙ sym (known.rest_rows k free) ∙ ap (row_name full) (sym same) ∙ is in
          let one : name ≡ nm = some_same name nm told in
          known.finds i name f (named ∙ ap (λ (x : Name). let o : Option Name = Some x in o) (sym one)) at ∙ ap (λ (x : Form). let o : Option Form = Some x in o) (sym form)

  -- A table without a name.
  known_without : (t : Table) (at : Ref) (before : List Form) (ks : List Name) (row : ℕ → Option Name) → Known t before ks row → Known (without t at) before ks row
  known_without t at before ks row known = record {
    earlier = known.earlier;
    names_are = known.names_are;
    long = known.long;
    past = λ i nm e within. let l = known.past i nm e (omega (arith, within, without_owners t at)) in omega (arith, l, without_long t at nm.owner);
    finds = λ i nm g e found. known.finds i nm g e (without_less model t at (Made nm) g found);
    rows = λ i k nm g is e found. known.rows i k nm g is e (without_less model t at (Shared k) g found);
    rest_rows = λ k free. known.rest_rows k (sym (without_used t at k) ∙ free);
  }

  -- What the walk over the rest of a log gives.
  record Walked (z : Table) (before : List Form) (lines : List Step) : Type 0 where
    all : List Form
    makes_all : MakesFrom model before lines all
    ends : (q r : Ref) → ToKept full names q r → Follows (find model z) (own_look model all) q r

  -- A line that makes a form, kept or not, in front of the rest.
  making : (s : Step) (name : Name) (f : Form) (keep : Name → Bool) (rest : List Step) (t m z : Table) (before : List Form) (b : Bool) (lines : List Step) → Makes t m name f
      → ((ss : List Step) → made_names (s ∷ ss) ≡ name ∷ made_names ss) → (b ≡ true → makes (find model t) s ≡ Ok f)
      → ((i : ℕ) (nm : Name) → slice_get (kept_names keep rest) i ≡ Some nm → length (made_by m nm.owner) < nm.number)
      → Known t before (made_names (cond b (s ∷ kept_lines keep rest) (kept_lines keep rest))) (row_name rest)
      → LinesRenamed (ToKept full names) (length before) (cond b (s ∷ kept_lines keep rest) (kept_lines keep rest)) lines
      → ((next : List Form) (us : List Step) → Known m next (kept_names keep rest) (row_name rest) → LinesRenamed (ToKept full names) (length next) (kept_lines keep rest) us → Walked z next us)
      → Walked z before lines
  making s name f keep rest t m z before false lines did bears goes fresh known renamed more =
      more before lines (known_left t m name f did before (kept_names keep rest) (row_name rest) fresh known) renamed
  making s name f keep rest t m z before true [] did bears goes fresh known renamed more = absurd renamed
  making s name f keep rest t m z before true (u ∷ us) did bears goes fresh known renamed more =
      let kept : Known t before (name ∷ kept_names keep rest) (row_name rest) = subst (λ (ns : List Name). Known t before ns (row_name rest)) (bears (kept_lines keep rest)) known in
      let walked = more (before ++ f ∷ []) us (known_kept t m name f did before (kept_names keep rest) (row_name rest) fresh kept)
      (subst (λ (n : ℕ). LinesRenamed (ToKept full names) n (kept_lines keep rest) us) (sym (length-append before (f ∷ []))) renamed.1) in
      let made : makes (own_look model before) u ≡ Ok f =
      makes_renamed (find model t) (own_look model before) (length before) s u f
      (line_wider (ToKept full names) (Follows (find model t) (own_look model before)) (new_follows t before (name ∷ kept_names keep rest) (row_name rest) kept) (length before) s u renamed.0) (goes refl) in
      record {
        all = walked.all;
        makes_all = (new_bears (ToKept full names) (length before) s u renamed.0, (f, made, walked.makes_all));
        ends = walked.ends;
      }

  walk : (profile : Profile) (keep : Name → Bool) (rest : List Step) (t z : Table) (before : List Form) (lines : List Step) → Known t before (kept_names keep rest) (row_name rest)
      → StepsIn profile model t (map (told_in profile) rest) z → HintsStand profile keep model t rest → LinesRenamed (ToKept full names) (length before) (kept_lines keep rest) lines → Walked z before lines
  walk profile keep [] t z before [] known steps hints renamed =
      record { all = before; makes_all = refl; ends = subst (λ (x : Table). (q r : Ref) → ToKept full names q r → Follows (find model x) (own_look model before) q r) (sym steps) (new_follows t before [] (row_name []) known) }
  walk profile keep [] t z before (u ∷ us) known steps hints renamed = absurd renamed
  walk profile keep (P name ops ∷ rest) t z before lines known steps hints renamed =
      let m = steps.0 in
      let did = stepped profile model t m (P name ops) steps.1 in
      making (P name ops) name did.0 keep rest t m z before (keep name) lines did.2 (λ ss. refl) (λ k. did.1) (fresh_later profile model keep rest m z steps.2) known renamed
      (λ next us now more. walk profile keep rest m z next us now steps.2 (hints.1 m steps.1) more)
  walk profile keep (U name lits refs ∷ rest) t z before lines known steps hints renamed =
      let m = steps.0 in
      let did = clause_makes profile keep model t m name lits refs (stepped profile model t m (U name lits refs) steps.1) in
      making (U name lits refs) name did.0 keep rest t m z before (keep name) lines did.2 (λ ss. refl) (λ k. did.1 k hints.0) (fresh_later profile model keep rest m z steps.2) known renamed
      (λ next us now more. walk profile keep rest m z next us now steps.2 (hints.1 m steps.1) more)
  walk profile keep (N row name ∷ rest) t z before lines known steps hints renamed =
      let m = steps.0 in
      let did = stepped profile model t m (N row name) steps.1 in
      walk profile keep rest m z before lines
      (subst (λ (x : Table). Known x before (kept_names keep rest) (row_name rest)) (sym did.3) (known_shared t row name did.0 before (kept_names keep rest) rest did.1 did.2 known))
      steps.2 (hints.1 m steps.1) renamed
  walk profile keep (D at ∷ rest) t z before lines known steps hints renamed =
      let m = steps.0 in
      let did = stepped profile model t m (D at) steps.1 in
      walk profile keep rest m z before lines
      (subst (λ (x : Table). Known x before (kept_names keep rest) (row_name rest)) (sym did) (known_without t at before (kept_names keep rest) (row_name rest) known))
      steps.2 (hints.1 m steps.1) renamed
  walk profile keep (Head ∷ rest) t z before lines known steps hints renamed = absurd (stepped profile model t steps.0 Head steps.1)
  walk profile keep (Model k ∷ rest) t z before lines known steps hints renamed = absurd (stepped profile model t steps.0 (Model k) steps.1)
  walk profile keep (E r ∷ rest) t z before lines known steps hints renamed = absurd (stepped profile model t steps.0 (E r) steps.1)
  walk profile keep (Y ones ∷ rest) t z before lines known steps hints renamed = absurd (stepped profile model t steps.0 (Y ones) steps.1)
  walk profile keep (Q ∷ rest) t z before lines known steps hints renamed = absurd (stepped profile model t steps.0 Q steps.1)

-- Nothing is found in the empty table.
nothing_made : (n owner : ℕ) → get_or {A = List (Option Form)} (replicate n []) owner [] ≡ []
nothing_made zero owner = refl
nothing_made (suc n) zero = refl
nothing_made (suc n) (suc owner) = nothing_made n owner

nothing_stands : (k : ℕ) → standing (from_one {A = Option Form} [] k) ≡ None
nothing_stands zero = refl
nothing_stands (suc k) = refl

not_found : (o : Option Form) (f : Form) → o ≡ None → o ≡ Some f → ⊥
not_found None f e h = cc
not_found (Some g) f e h = cc

pub empty_finds : (model : List Form) (nm : Name) (f : Form) → find model empty_table (Made nm) ≡ Some f → ⊥
empty_finds model nm f found = not_found (find model empty_table (Made nm)) f (ap (λ (v : List (Option Form)). standing (from_one v nm.number)) (nothing_made 65 nm.owner) ∙ nothing_stands nm.number) found

known_nothing : (model : List Form) (full : List Step) (names : List Name) → Known model full names empty_table [] names (row_name full)
known_nothing model full names = record {
  earlier = [];
  names_are = refl;
  long = refl;
  past = λ i nm at within. absurd cc;
  finds = λ i nm f at found. absurd (empty_finds model nm f found);
  rows = λ i k nm f is at found. absurd cc;
  rest_rows = λ k free. refl;
}

pub keeping : KeepingLaw
keeping profile model hinted z keep lines steps hints renamed =
    let w = walk model hinted (kept_names keep hinted) profile keep hinted empty_table z [] lines (known_nothing model hinted (kept_names keep hinted)) steps hints renamed in
    (w.all, w.makes_all, w.ends)
