-- The names of kept lines are distinct.
use Rattle.std.proofs.Common.{◌≡◌, ℕ, zero, suc, ◌+◌, ◌<◌, Bool, true, false, cond, List, [], ◌∷◌, length, map, Some, refl, sym, ap, ◌∙◌, subst, length-append, arith}
use Rattle.std.specs.Prelude.{slice_get}
use Rattle.log_theory.specs.declared.profile.Profile.{Profile}
use Rattle.log_theory.specs.declared.step.Name.{Name}
use Rattle.log_theory.specs.declared.step.Step.{Step}
use Rattle.log_theory.specs.declared.step.Step.TheVariants.{Head, Model, P, U, N, D, E, Y, Q}
use Rattle.proof_theory.specs.Forms.{Form}
use Rattle.log_theory.specs.Profiles.{told_in}
use Rattle.log_theory.specs.Tables.{Table, made_by}
use Rattle.trim_theory.specs.Trimming.{StepsIn, kept_lines, made_names, kept_names}
use Rattle.trim_theory.specs.Logs.{AreSteps}
use Rattle.trim_theory.proofs.Stepped.{Makes, stepped, made_long}
use Rattle.trim_theory.proofs.Keeping.{fresh_later}
use Rattle.journal_theory.proofs.Placing.{some_same}
use Rattle.trim_theory.proofs.Stepped.{clause_makes, owners_same}

-- A name in front of later ones, kept or not.
distinct_first : (keep : Name → Bool) (t m : Table) (s : Step) (name : Name) (f : Form) (rest : List Step) → Makes t m name f → name.owner < length t.made
    → ((ss : List Step) → made_names (s ∷ ss) ≡ name ∷ made_names ss) → ((i : ℕ) (nm : Name) → slice_get (kept_names keep rest) i ≡ Some nm → length (made_by m nm.owner) < nm.number)
    → ((i j : ℕ) (nm : Name) → slice_get (kept_names keep rest) i ≡ Some nm → slice_get (kept_names keep rest) j ≡ Some nm → i ≡ j) → (b : Bool) (i j : ℕ) (nm : Name)
    → slice_get (made_names (cond b (s ∷ kept_lines keep rest) (kept_lines keep rest))) i ≡ Some nm → slice_get (made_names (cond b (s ∷ kept_lines keep rest) (kept_lines keep rest))) j ≡ Some nm → i ≡ j
distinct_first keep t m s name f rest did within bears fresh ih false i j nm at too = ih i j nm at too
distinct_first keep t m s name f rest did within bears fresh ih true i j nm at too = by i j (moved i at) (moved j too)
  where
    moved : (k : ℕ) → slice_get (made_names (s ∷ kept_lines keep rest)) k ≡ Some nm → slice_get (name ∷ kept_names keep rest) k ≡ Some nm
    moved k e = ap (λ (ns : List Name). slice_get ns k) (sym (bears (kept_lines keep rest))) ∙ e

    later : (k : ℕ) → name ≡ nm → slice_get (kept_names keep rest) k ≡ Some nm → ⊥
    later k same e =
        let l : length (made_by m name.owner) < name.number = subst (λ (x : Name). length (made_by m x.owner) < x.number) (sym same) (fresh k nm e) in
        let n = did.number in
        let g : length (made_by m name.owner) ≡ length (made_by t name.owner) + 1 = ap (λ (x : Table). length (made_by x name.owner)) did.is ∙ ap length (made_long t name f within) ∙ length-append (made_by t name.owner) (Some f ∷ []) in
        omega (arith, l, n, g)

    by : (x y : ℕ) → slice_get (name ∷ kept_names keep rest) x ≡ Some nm → slice_get (name ∷ kept_names keep rest) y ≡ Some nm → x ≡ y
    by zero zero e g = refl
    by zero (suc y) e g = absurd (later y (some_same name nm e) g)
    by (suc x) zero e g = absurd (later x (some_same name nm g) e)
    by (suc x) (suc y) e g = ap suc (ih x y nm e g)

pub names_distinct : (profile : Profile) (model : List Form) (keep : Name → Bool) (rest : List Step) (t z : Table) → StepsIn profile model t (map (told_in profile) rest) z → length t.made ≡ 65 → AreSteps rest
    → (i j : ℕ) (nm : Name) → slice_get (kept_names keep rest) i ≡ Some nm → slice_get (kept_names keep rest) j ≡ Some nm → i ≡ j
names_distinct profile model keep [] t z steps owners range i j nm at too = absurd cc
names_distinct profile model keep (P name ops ∷ rest) t z steps owners range i j nm at too =
    let m = steps.0 in
    let did = stepped profile model t m (P name ops) steps.1 in
    let fits = range.0.0.owner_fits in
    distinct_first keep t m (P name ops) name did.0 rest did.2 (omega (arith, fits, owners)) (λ ss. refl) (fresh_later profile model keep rest m z steps.2)
    (names_distinct profile model keep rest m z steps.2 (owners_same profile model t m (P name ops) did ∙ owners) range.1) (keep name) i j nm at too
names_distinct profile model keep (U name lits refs ∷ rest) t z steps owners range i j nm at too =
    let m = steps.0 in
    let step = stepped profile model t m (U name lits refs) steps.1 in
    let did = clause_makes profile keep model t m name lits refs step in
    let fits = range.0.0.owner_fits in
    distinct_first keep t m (U name lits refs) name did.0 rest did.2 (omega (arith, fits, owners)) (λ ss. refl) (fresh_later profile model keep rest m z steps.2)
    (names_distinct profile model keep rest m z steps.2 (owners_same profile model t m (U name lits refs) step ∙ owners) range.1) (keep name) i j nm at too
names_distinct profile model keep (N row name ∷ rest) t z steps owners range i j nm at too =
    names_distinct profile model keep rest steps.0 z steps.2 (owners_same profile model t steps.0 (N row name) (stepped profile model t steps.0 (N row name) steps.1) ∙ owners) range.1 i j nm at too
names_distinct profile model keep (D r ∷ rest) t z steps owners range i j nm at too =
    names_distinct profile model keep rest steps.0 z steps.2 (owners_same profile model t steps.0 (D r) (stepped profile model t steps.0 (D r) steps.1) ∙ owners) range.1 i j nm at too
names_distinct profile model keep (Head ∷ rest) t z steps owners range i j nm at too = absurd (stepped profile model t steps.0 Head steps.1)
names_distinct profile model keep (Model k ∷ rest) t z steps owners range i j nm at too = absurd (stepped profile model t steps.0 (Model k) steps.1)
names_distinct profile model keep (E r ∷ rest) t z steps owners range i j nm at too = absurd (stepped profile model t steps.0 (E r) steps.1)
names_distinct profile model keep (Y ones ∷ rest) t z steps owners range i j nm at too = absurd (stepped profile model t steps.0 (Y ones) steps.1)
names_distinct profile model keep (Q ∷ rest) t z steps owners range i j nm at too = absurd (stepped profile model t steps.0 Q steps.1)
