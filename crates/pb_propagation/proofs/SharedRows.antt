-- What a search among rising rows says of the table's list of them, and what stays as forms and rows are added and deleted.
use Rattle.std.proofs.Common.{inl, inr, not, map, ◌-◌, ◌≡◌, ◌≢◌, ℕ, zero, suc, ◌<◌, ◌≤◌, Bool, true, false, cond, ◌&&◌, nat_lt, List, [], ◌∷◌, ◌++◌, length, get_or, set, slice_get, Option, Some, None, Ok, Err, refl, sym, ap, ◌∙◌, arith, subst, length-append}
use Rattle.std.proofs.lemmas.Bool.Decides.{nat_tests}
use Rattle.std.proofs.lemmas.Bool.{ne_eqb, eq-eqb}
use Rattle.std.proofs.lemmas.Bool.{cases_lt, cases_eq, and_parts, ltb-true}
use Rattle.std.proofs.Math.Seq.{map-set_same}
use Rattle.std.proofs.Math.ListN.{get_or-append}
use Rattle.std.proofs.Math.Seq.{get_or-append_seam}
use Rattle.std.proofs.lemmas.List.{map-set, get_or-map, length-set}
use Rattle.proof_theory.specs.Forms.{Form}
use Rattle.log_theory.specs.declared.step.Cause.TheVariants.{NameUsed, Order, NoSuchName}
use Rattle.log_theory.specs.Tables.{Table, from_one, standing, find, made_by, shared_at, without_row, without, is_row_used, are_rows_below, fresh_row, step_of}
use Rattle.log_theory.specs.Steps.{◌>>=◌, unless}
use Rattle.log_theory.specs.declared.step.Name.{Name}
use Rattle.log_theory.specs.declared.step.Ref.TheVariants.{Made, Shared}
use Rattle.log_theory.specs.declared.step.Step.TheVariants.{N, D}
use Rattle.pb_propagation.specs.Rows.{rows_of, AreKept, StandsAt, WouldStand, grown, replaced}

-- No row before the index is this one, and the row there is.
pub found_at : (rows : List ℕ) (forms : List (Option Form)) (row i : ℕ)
    → length forms ≡ length rows → i < length rows → ((k : ℕ) → k < i → get_or rows k 0 ≢ row) → get_or rows i 0 ≡ row
    → (shared_at (rows_of rows forms) row ≡ standing (slice_get forms i)) × (is_row_used (rows_of rows forms) row ≡ true)
found_at [] forms row i l h f e = absurd (omega arith)
found_at (r ∷ rs) [] row i l h f e = absurd (omega arith)
found_at (r ∷ rs) (o ∷ os) row zero l h f e = (
  ap (λ (b : Bool). cond b o (shared_at (rows_of rs os) row)) (eq-eqb r row e),
  ap (λ (b : Bool). cond b true (is_row_used (rows_of rs os) row)) (eq-eqb r row e),
)
found_at (r ∷ rs) (o ∷ os) row (suc i) l h f e =
    let rest = found_at rs os row i (omega arith) (omega arith) (λ k q. f (suc k) (omega arith)) e in (
      ap (λ (b : Bool). cond b o (shared_at (rows_of rs os) row)) (ne_eqb r row (f 0 (omega arith))) ∙ rest.0,
      ap (λ (b : Bool). cond b true (is_row_used (rows_of rs os) row)) (ne_eqb r row (f 0 (omega arith))) ∙ rest.1,
    )

-- No row is this one.
pub none_at : (rows : List ℕ) (forms : List (Option Form)) (row : ℕ)
    → ((k : ℕ) → k < length rows → get_or rows k 0 ≢ row)
    → (shared_at (rows_of rows forms) row ≡ None) × (is_row_used (rows_of rows forms) row ≡ false)
none_at [] forms row f = (refl, refl)
none_at (r ∷ rs) [] row f = (refl, refl)
none_at (r ∷ rs) (o ∷ os) row f =
    let rest = none_at rs os row (λ k q. f (suc k) (omega arith)) in (
      ap (λ (b : Bool). cond b o (shared_at (rows_of rs os) row)) (ne_eqb r row (f 0 (omega arith))) ∙ rest.0,
      ap (λ (b : Bool). cond b true (is_row_used (rows_of rs os) row)) (ne_eqb r row (f 0 (omega arith))) ∙ rest.1,
    )

-- Where no row is this one, nothing is without it.
none_without : (rows : List ℕ) (forms : List (Option Form)) (row : ℕ)
    → ((k : ℕ) → k < length rows → get_or rows k 0 ≢ row) → without_row (rows_of rows forms) row ≡ rows_of rows forms
none_without [] forms row f = refl
none_without (r ∷ rs) [] row f = refl
none_without (r ∷ rs) (o ∷ os) row f =
    ap (λ (b : Bool). (r, cond b None o) ∷ without_row (rows_of rs os) row) (ne_eqb r row (f 0 (omega arith)))
    ∙ ap (λ (ss : List (ℕ × Option Form)). (r, o) ∷ ss) (none_without rs os row (λ k q. f (suc k) (omega arith)))

-- The rows without the one at the index, which no other is.
without_at : (rows : List ℕ) (forms : List (Option Form)) (row i : ℕ)
    → length forms ≡ length rows → i < length rows → ((k : ℕ) → k < length rows → k ≢ i → get_or rows k 0 ≢ row) → get_or rows i 0 ≡ row
    → rows_of rows (set forms i None) ≡ without_row (rows_of rows forms) row
without_at [] forms row i l h f e = absurd (omega arith)
without_at (r ∷ rs) [] row i l h f e = absurd (omega arith)
without_at (r ∷ rs) (o ∷ os) row zero l h f e =
    sym (ap (λ (b : Bool). (r, cond b None o) ∷ without_row (rows_of rs os) row) (eq-eqb r row e)
    ∙ ap (λ (ss : List (ℕ × Option Form)). (r, None) ∷ ss) (none_without rs os row (λ k q. f (suc k) (omega arith) (λ z. absurd cc))))
without_at (r ∷ rs) (o ∷ os) row (suc i) l h f e =
    ap (λ (ss : List (ℕ × Option Form)). (r, o) ∷ ss) (without_at rs os row i (omega arith) (omega arith) (λ k q n. f (suc k) (omega arith) (λ z. n (omega (arith, z)))) e)
    ∙ sym (ap (λ (b : Bool). (r, cond b None o) ∷ without_row (rows_of rs os) row) (ne_eqb r row (f 0 (omega arith) (λ z. absurd cc))))

below : (x y : ℕ) → x < y → nat_lt x y ≡ true
below x y h = grind (arith, nat_tests)

not_below : (x y : ℕ) → y ≤ x → nat_lt x y ≡ false
not_below x y h = grind (arith, nat_tests)

and_false : (b : Bool) → (b && false) ≡ false
and_false true = refl
and_false false = refl

-- All rows are lower.
pub all_below : (rows : List ℕ) (forms : List (Option Form)) (row : ℕ)
    → ((k : ℕ) → k < length rows → get_or rows k 0 < row) → are_rows_below (rows_of rows forms) row ≡ true
all_below [] forms row f = refl
all_below (r ∷ rs) [] row f = refl
all_below (r ∷ rs) (o ∷ os) row f =
    ap (λ (b : Bool). b && are_rows_below (rows_of rs os) row) (below r row (f 0 (omega arith))) ∙ all_below rs os row (λ k q. f (suc k) (omega arith))

-- Some row is not lower.
pub some_above : (rows : List ℕ) (forms : List (Option Form)) (row i : ℕ)
    → length forms ≡ length rows → i < length rows → row ≤ get_or rows i 0 → are_rows_below (rows_of rows forms) row ≡ false
some_above [] forms row i l h f = absurd (omega arith)
some_above (r ∷ rs) [] row i l h f = absurd (omega arith)
some_above (r ∷ rs) (o ∷ os) row zero l h f = ap (λ (b : Bool). b && are_rows_below (rows_of rs os) row) (not_below r row f)
some_above (r ∷ rs) (o ∷ os) row (suc i) l h f =
    ap (λ (b : Bool). nat_lt r row && b) (some_above rs os row i (omega arith) (omega arith) f) ∙ and_false (nat_lt r row)

-- ---- what the search tells

pub shared_where : (rows : List ℕ) (forms : List (Option Form)) (row i : ℕ) → AreKept rows forms → StandsAt rows row i
    → (shared_at (rows_of rows forms) row ≡ standing (slice_get forms i)) × (is_row_used (rows_of rows forms) row ≡ true)
shared_where rows forms row i kept s =
    found_at rows forms row i kept.long s.inside (λ k h e. let r = kept.rise k i h s.inside in let q = s.here in absurd (omega arith)) s.here

pub shared_nowhere : (rows : List ℕ) (forms : List (Option Form)) (row i : ℕ) → WouldStand rows row i
    → (shared_at (rows_of rows forms) row ≡ None) × (is_row_used (rows_of rows forms) row ≡ false)
shared_nowhere rows forms row i w =
    none_at rows forms row (λ k h e. elim (cases_lt k i) [
      | inl q ↦ let a = w.lower k q in absurd (omega arith)
      | inr q ↦ let b = w.higher k q h in absurd (omega arith)
    ])

-- What each answer of a search says of a new row.
pub row_used : (rows : List ℕ) (forms : List (Option Form)) (row i : ℕ) (t : Table) → t.shared ≡ rows_of rows forms → AreKept rows forms → StandsAt rows row i
    → fresh_row t row ≡ Err NameUsed
row_used rows forms row i t e kept s =
    let u : is_row_used t.shared row ≡ true = ap (λ (ss : List (ℕ × Option Form)). is_row_used ss row) e ∙ (shared_where rows forms row i kept s).1 in
    rw u

pub row_below : (rows : List ℕ) (forms : List (Option Form)) (row i : ℕ) (t : Table) → t.shared ≡ rows_of rows forms → AreKept rows forms → WouldStand rows row i → i < length rows
    → fresh_row t row ≡ Err Order
row_below rows forms row i t e kept w h =
    let u : is_row_used t.shared row ≡ false = ap (λ (ss : List (ℕ × Option Form)). is_row_used ss row) e ∙ (shared_nowhere rows forms row i w).1 in
    let above = w.higher i (omega arith) h in
    let b : are_rows_below t.shared row ≡ false = ap (λ (ss : List (ℕ × Option Form)). are_rows_below ss row) e ∙ some_above rows forms row i kept.long h (omega arith) in
    rw (u, b)

pub row_above : (rows : List ℕ) (forms : List (Option Form)) (row i : ℕ) (t : Table) → t.shared ≡ rows_of rows forms → AreKept rows forms → WouldStand rows row i → length rows ≤ i
    → fresh_row t row ≡ Ok 0
row_above rows forms row i t e kept w h =
    let u : is_row_used t.shared row ≡ false = ap (λ (ss : List (ℕ × Option Form)). is_row_used ss row) e ∙ (shared_nowhere rows forms row i w).1 in
    let b : are_rows_below t.shared row ≡ true = ap (λ (ss : List (ℕ × Option Form)). are_rows_below ss row) e ∙ all_below rows forms row (λ k q. w.lower k (omega arith)) in
    rw (u, b)

-- ---- what is kept as rows are added and deleted

-- What stands under the rows, without their numbers.
pub rows_forms : (rows : List ℕ) (forms : List (Option Form)) → length forms ≡ length rows → map (λ s. s.1) (rows_of rows forms) ≡ forms
rows_forms [] [] h = refl
rows_forms [] (o ∷ os) h = absurd (omega arith)
rows_forms (r ∷ rs) [] h = absurd (omega arith)
rows_forms (r ∷ rs) (o ∷ os) h = ap (λ (fs : List (Option Form)). o ∷ fs) (rows_forms rs os (omega arith))

-- One more row, at the end.
pub rows_more : (rows : List ℕ) (forms : List (Option Form)) (row : ℕ) (o : Option Form) → length forms ≡ length rows
    → rows_of (rows ++ row ∷ []) (forms ++ o ∷ []) ≡ rows_of rows forms ++ (row, o) ∷ []
rows_more [] [] row o h = refl
rows_more [] (q ∷ qs) row o h = absurd (omega arith)
rows_more (r ∷ rs) [] row o h = absurd (omega arith)
rows_more (r ∷ rs) (q ∷ qs) row o h = ap (λ (ss : List (ℕ × Option Form)). (r, q) ∷ ss) (rows_more rs qs row o (omega arith))

pub rise_more : (rows : List ℕ) (row : ℕ) → ((i j : ℕ) → i < j → j < length rows → get_or rows i 0 < get_or rows j 0) → ((k : ℕ) → k < length rows → get_or rows k 0 < row)
    → (i j : ℕ) → i < j → j < length (rows ++ row ∷ []) → get_or (rows ++ row ∷ []) i 0 < get_or (rows ++ row ∷ []) j 0
rise_more rows row f g i j h k =
    let l = length-append rows (row ∷ []) in
    elim (cases_lt j (length rows)) [
      | inl q ↦ rw (get_or-append rows (row ∷ []) 0 i (omega arith), get_or-append rows (row ∷ []) 0 j q) (f i j h q)
      | inr q ↦
          let e : get_or (rows ++ row ∷ []) j 0 ≡ row = ap (λ (n : ℕ). get_or (rows ++ row ∷ []) n 0) (let z : j ≡ length rows = omega arith in z) ∙ get_or-append_seam rows row [] 0 in
          let m : get_or (rows ++ row ∷ []) i 0 ≡ get_or rows i 0 = get_or-append rows (row ∷ []) 0 i (omega arith) in
          let b = g i (omega arith) in
          omega arith
    ]

pub kept_more : (rows : List ℕ) (forms : List (Option Form)) (row : ℕ) (o : Option Form) → AreKept rows forms → ((k : ℕ) → k < length rows → get_or rows k 0 < row)
    → AreKept (rows ++ row ∷ []) (forms ++ o ∷ [])
kept_more rows forms row o k above = record {
  rise = rise_more rows row k.rise above;
  long = (let a = length-append rows (row ∷ []) in let b = length-append forms (o ∷ []) in let l = k.long in omega arith);
}

pub kept_set : (rows : List ℕ) (forms : List (Option Form)) (i : ℕ) (o : Option Form) → AreKept rows forms → AreKept rows (set forms i o)
kept_set rows forms i o k = record { rise = k.rise; long = length-set forms i o ∙ k.long }

-- ---- a line that shares

-- A test that let through was true.
passed : (used below : Bool) → (unless (not used) NameUsed >>= λ (n : ℕ). unless below Order) ≡ Ok 0 → below ≡ true
passed true below h = absurd cc
passed false true h = refl
passed false false h = absurd cc

below_each : (rows : List ℕ) (forms : List (Option Form)) (row : ℕ) → length forms ≡ length rows → are_rows_below (rows_of rows forms) row ≡ true → (k : ℕ) → k < length rows → get_or rows k 0 < row
below_each [] forms row l h k q = absurd (omega arith)
below_each (r ∷ rs) [] row l h k q = absurd (omega arith)
below_each (r ∷ rs) (o ∷ os) row l h zero q = ltb-true r row (and_parts _ _ h).0
below_each (r ∷ rs) (o ∷ os) row l h (suc k) q = below_each rs os row (omega arith) (and_parts _ _ h).1 k (omega arith)

-- A row that passed lies above all others.
pub fresh_above : (rows : List ℕ) (forms : List (Option Form)) (row : ℕ) (t : Table) → t.shared ≡ rows_of rows forms → length forms ≡ length rows → fresh_row t row ≡ Ok 0 → (k : ℕ) → k < length rows → get_or rows k 0 < row
fresh_above rows forms row t e l h =
    below_each rows forms row l (ap (λ (ss : List (ℕ × Option Form)). are_rows_below ss row) (sym e) ∙ passed (is_row_used t.shared row) (are_rows_below t.shared row) h)

-- A name that names nothing cannot be shared, nor deleted.
pub unshared_step : (model : List Form) (t : Table) (row : ℕ) (name : Name) → fresh_row t row ≡ Ok 0 → standing (from_one (made_by t name.owner) name.number) ≡ None → step_of model t (N row name) ≡ Err NoSuchName
unshared_step model t row name fresh n = rw (fresh, n)

-- The step of a line that shares, where its name names a form.
pub shared_step : (model : List Form) (made : List (List (Option Form))) (rows more : List ℕ) (forms further : List (Option Form)) (t : Table) (row : ℕ) (name : Name) (o : Option Form) (f : Form)
    → (let u : Table = record { made = made; shared = rows_of rows forms } in u) ≡ t → length forms ≡ length rows → more ≡ rows ++ row ∷ [] → further ≡ forms ++ o ∷ [] → o ≡ Some f
    → standing (from_one (made_by t name.owner) name.number) ≡ Some f → fresh_row t row ≡ Ok 0
    → step_of model t (N row name) ≡ Ok (record { made = made; shared = rows_of more further })
shared_step model made rows more forms further t row name o f e l m g s n fresh =
    let d : t.made ≡ made = ap (λ (u : Table). u.made) (sym e) in
    let h : t.shared ≡ rows_of rows forms = ap (λ (u : Table). u.shared) (sym e) in
    let a : rows_of more further ≡ rows_of rows forms ++ (row, Some f) ∷ [] = rw (m, g, s) (rows_more rows forms row (Some f) l) in
    rw (fresh, n, d, h, a)

-- ---- a line that deletes

pub unnamed_step : (model : List Form) (t : Table) (name : Name) → standing (from_one (made_by t name.owner) name.number) ≡ None → step_of model t (D (Made name)) ≡ Err NoSuchName
unnamed_step model t name n = rw n

pub unrowed_step : (model : List Form) (t : Table) (row : ℕ) → shared_at t.shared row ≡ None → step_of model t (D (Shared row)) ≡ Err NoSuchName
unrowed_step model t row n = rw n

-- A form that is found has a number, and a place.
pub numbered : (os : List (Option Form)) (n : ℕ) (f : Form) → standing (from_one os n) ≡ Some f → (0 < n) × (n - 1 < length os)
numbered os zero f e = absurd cc
numbered [] (suc n) f e = absurd cc
numbered (o ∷ os) (suc zero) f e = (omega arith, omega arith)
numbered (o ∷ os) (suc (suc n)) f e = let r = numbered os (suc n) f e in let a = r.1 in (omega arith, omega arith)

pub owned : (made : List (List (Option Form))) (owner i : ℕ) → i < length (get_or made owner []) → owner < length made
owned [] owner i h = absurd (omega arith)
owned (fs ∷ made) zero i h = omega arith
owned (fs ∷ made) (suc owner) i h = let r = owned made owner i h in omega arith

-- The step of a line that deletes a name.
pub unname_step : (model : List Form) (made lists : List (List (Option Form))) (shared : List (ℕ × Option Form)) (t : Table) (name : Name) (f : Form)
    → (let u : Table = record { made = made; shared = shared } in u) ≡ t → standing (from_one (made_by t name.owner) name.number) ≡ Some f → lists ≡ replaced made name.owner (name.number - 1) None
    → step_of model t (D (Made name)) ≡ Ok (record { made = lists; shared = shared })
unname_step model made lists shared t name f e n l =
    let d : t.made ≡ made = ap (λ (u : Table). u.made) (sym e) in
    let h : t.shared ≡ shared = ap (λ (u : Table). u.shared) (sym e) in
    by name.number (numbered (made_by t name.owner) name.number f n).0 refl d h
  where
    by : (k : ℕ) → 0 < k → name.number ≡ k → t.made ≡ made → t.shared ≡ shared → step_of model t (D (Made name)) ≡ Ok (record { made = lists; shared = shared })
    by zero p i d h = absurd (omega arith)
    by (suc k) p i d h =
        let w : name.number - 1 ≡ k = omega (arith, i) in
        let a : lists ≡ set t.made name.owner (set (made_by t name.owner) k None) = l ∙ rw (w, d) refl in
        rw (n, i, a, h)

-- The step of a line that deletes a row.
pub unrow_step : (model : List Form) (made : List (List (Option Form))) (rows : List ℕ) (forms left : List (Option Form)) (t : Table) (row i : ℕ) (f : Form)
    → (let u : Table = record { made = made; shared = rows_of rows forms } in u) ≡ t → AreKept rows forms → StandsAt rows row i → shared_at t.shared row ≡ Some f → left ≡ set forms i None
    → step_of model t (D (Shared row)) ≡ Ok (record { made = made; shared = rows_of rows left })
unrow_step model made rows forms left t row i f e kept s n l =
    let d : t.made ≡ made = ap (λ (u : Table). u.made) (sym e) in
    let h : t.shared ≡ rows_of rows forms = ap (λ (u : Table). u.shared) (sym e) in
    let a : rows_of rows left ≡ without_row t.shared row =
    ap (rows_of rows) l ∙ without_at rows forms row i kept.long s.inside (λ k q m g. other k q m g) s.here ∙ ap (λ (ss : List (ℕ × Option Form)). without_row ss row) (sym h) in
    rw (n, d, a)
  where
    other : (k : ℕ) → k < length rows → k ≢ i → get_or rows k 0 ≡ row → ⊥
    other k q m g = elim (cases_lt k i) [
      | inl b ↦ let r = kept.rise k i b s.inside in let z = s.here in omega (arith, r, z, g)
      | inr b ↦ elim (cases_eq k i) [
        | inl c ↦ m c
        | inr c ↦ let r = kept.rise i k (omega (arith, b, c)) q in let z = s.here in omega (arith, r, z, g)
      ]
    ]

-- ---- a list of lists of which one changes

pub changed : {X : Type 0} (f : X → List (Option Form)) (g : List (Option Form) → List (Option Form)) (xs : List X) (i : ℕ) (x y : X) → i < length xs → x ≡ get_or xs i x → f y ≡ g (f x)
    → map f (set xs i y) ≡ set (map f xs) i (g (get_or (map f xs) i []))
changed f g xs i x y h e k =
    map-set f xs i y ∙ ap (set (map f xs) i) (k ∙ ap g (ap f e ∙ sym (get_or-map f xs i x [] h)))

pub unpushed : {X : Type 0} (f : X → List (Option Form)) (xs : List X) (i : ℕ) (x y : X) → x ≡ get_or xs i x → f y ≡ f x → map f (set xs i y) ≡ map f xs
unpushed f xs i x y e k = map-set_same f xs i y x (k ∙ ap f e)
