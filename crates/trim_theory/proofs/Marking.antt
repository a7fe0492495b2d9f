-- Marked lines, their ranks, and their names.
use Rattle.std.proofs.Common.{◌⊎◌, inl, inr, ◌≡◌, ◌≢◌, ℕ, zero, suc, ◌+◌, ◌-◌, ◌<◌, ◌≤◌, ◌==◌, Bool, true, false, cond, not, List, [], ◌∷◌, ◌++◌, length, Some, refl, sym, ap, ◌∙◌, subst, length-append, append_assoc, arith}
use Rattle.std.specs.Prelude.{slice_get}
use Rattle.std.proofs.lemmas.Bool.{cases_order, eqb-true, ne_eqb}
use Rattle.log_theory.specs.declared.step.Name.{Name}
use Rattle.log_theory.specs.declared.step.Ref.{Ref}
use Rattle.log_theory.specs.declared.step.Step.{Step}
use Rattle.log_theory.specs.declared.step.Step.TheVariants.{Head, Model, P, U, N, D, E, Y, Q}
use Rattle.proof_theory.specs.Propagation.{IsAmong}
use Rattle.journal_theory.specs.Referring.{step_refs}
use Rattle.journal_theory.specs.Journals.{IsMaking}
use Rattle.journal_theory.proofs.Placing.{some_same}
use Rattle.trim_theory.specs.Trimming.{kept_lines, made_names}
use Rattle.trim_theory.specs.Marking.{made_lines, is_marked, keeps, rank, new_line}
use Rattle.trim_theory.proofs.Placed.{place_first, place_is, get_at, Placed, AllPlaced}

-- ---- ranks

rank_next : (mark : ℕ → ℕ) (j : ℕ) → rank mark (j + 1) ≡ rank mark j + cond (mark j == 0) 0 1
rank_next mark j = let e : j + 1 ≡ suc j = omega arith in ap (rank mark) e

pub rank_kept : (mark : ℕ → ℕ) (j : ℕ) → (mark j == 0) ≡ false → rank mark (j + 1) ≡ rank mark j + 1
rank_kept mark j is = rank_next mark j ∙ ap (λ (b : Bool). rank mark j + cond b 0 1) is

pub rank_left : (mark : ℕ → ℕ) (j : ℕ) → (mark j == 0) ≡ true → rank mark (j + 1) ≡ rank mark j
rank_left mark j is = rank_next mark j ∙ ap (λ (b : Bool). rank mark j + cond b 0 1) is ∙ (let e : rank mark j + 0 ≡ rank mark j = omega arith in e)

rank_grows : (mark : ℕ → ℕ) (i k : ℕ) → rank mark i ≤ rank mark (i + k)
rank_grows mark i zero = let e : i ≡ i + 0 = omega arith in omega (arith, ap (rank mark) e)
rank_grows mark i (suc k) =
    let l = rank_grows mark i k in
    let e : i + suc k ≡ suc (i + k) = omega arith in
    omega (arith, l, ap (rank mark) e)

pub rank_less : (mark : ℕ → ℕ) (i j : ℕ) → i < j → mark i ≢ 0 → rank mark i < rank mark j
rank_less mark i j l kept =
    let e : i + 1 + (j - (i + 1)) ≡ j = omega (arith, l) in
    let g = rank_grows mark (i + 1) (j - (i + 1)) in
    omega (arith, g, ap (rank mark) e, rank_kept mark i (ne_eqb (mark i) 0 kept))

pub rank_one : (mark : ℕ → ℕ) (i j : ℕ) → mark i ≢ 0 → mark j ≢ 0 → rank mark i ≡ rank mark j → i ≡ j
rank_one mark i j a b e = by (cases_order i j)
  where
    by : (i ≡ j) ⊎ ((i < j) ⊎ (j < i)) → i ≡ j
    by (inl same) = same
    by (inr (inl l)) = let r = rank_less mark i j l a in absurd (omega (arith, r, e))
    by (inr (inr l)) = let r = rank_less mark j i l b in absurd (omega (arith, r, e))

-- ---- marked lines

-- The marked lines from a place on.
abbrev pub chosen : (ℕ → ℕ) → ℕ → List Step → List Step
chosen mark j [] = []
chosen mark j (s ∷ ss) = cond (mark j == 0) (chosen mark (j + 1) ss) (s ∷ chosen mark (j + 1) ss)

-- What they become.
abbrev pub renewed : (Ref → Ref) → (ℕ → ℕ) → ℕ → List Step → List Step
renewed new mark j [] = []
renewed new mark j (s ∷ ss) = cond (mark j == 0) (renewed new mark (j + 1) ss) (new_line new (rank mark j) s ∷ renewed new mark (j + 1) ss)

-- How many of k places from one on are marked.
abbrev pub count_from : (ℕ → ℕ) → ℕ → ℕ → ℕ
count_from mark j zero = 0
count_from mark j (suc k) = cond (mark j == 0) 0 1 + count_from mark (j + 1) k

pub rank_from : (mark : ℕ → ℕ) (j k : ℕ) → rank mark (j + k) ≡ rank mark j + count_from mark j k
rank_from mark j zero = let e : j + 0 ≡ j = omega arith in omega (arith, ap (rank mark) e)
rank_from mark j (suc k) =
    let e : j + suc k ≡ j + 1 + k = omega arith in
    let r = rank_from mark (j + 1) k in
    let n = rank_next mark j in
    omega (arith, ap (rank mark) e, r, n)

module _ (mark : ℕ → ℕ) where
  -- The name of a marked line stands among the names of the marked lines, at its rank.
  chosen_first : (j k : ℕ) (s : Step) (name nm : Name) (ks ns : List Step) → ((ss : List Step) → made_names (s ∷ ss) ≡ name ∷ made_names ss) → slice_get (name ∷ made_names ns) k ≡ Some nm → mark (j + k) ≢ 0
      → ((i : ℕ) → slice_get (made_names ns) i ≡ Some nm → mark (j + 1 + i) ≢ 0 → slice_get (made_names ks) (count_from mark (j + 1) i) ≡ Some nm) → (b : Bool) → (mark j == 0) ≡ b
      → slice_get (made_names (cond b ks (s ∷ ks))) (count_from mark j k) ≡ Some nm
  chosen_first j zero s name nm ks ns bears at kept more true is = let e : j + 0 ≡ j = omega arith in absurd (kept (ap mark e ∙ eqb-true (mark j) 0 is))
  chosen_first j zero s name nm ks ns bears at kept more false is = ap (λ (xs : List Name). slice_get xs 0) (bears ks) ∙ at
  chosen_first j (suc k) s name nm ks ns bears at kept more true is =
      let e : j + 1 + k ≡ j + suc k = omega arith in
      let c : cond (mark j == 0) 0 1 + count_from mark (j + 1) k ≡ count_from mark (j + 1) k = (let z = ap {B = ℕ} (λ (b : Bool). cond b 0 1) is in omega (arith, z)) in
      ap (slice_get (made_names ks)) c ∙ more k at (λ h. kept (ap mark (sym e) ∙ h))
  chosen_first j (suc k) s name nm ks ns bears at kept more false is =
      let e : j + 1 + k ≡ j + suc k = omega arith in
      let c : cond (mark j == 0) 0 1 + count_from mark (j + 1) k ≡ suc (count_from mark (j + 1) k) = (let z = ap {B = ℕ} (λ (b : Bool). cond b 0 1) is in omega (arith, z)) in
      ap (slice_get (made_names (s ∷ ks))) c ∙ ap (λ (xs : List Name). slice_get xs (suc (count_from mark (j + 1) k))) (bears ks) ∙ more k at (λ h. kept (ap mark (sym e) ∙ h))

  pub chosen_at : (rest : List Step) (j k : ℕ) (nm : Name) → slice_get (made_names (made_lines rest)) k ≡ Some nm → mark (j + k) ≢ 0
      → slice_get (made_names (chosen mark j (made_lines rest))) (count_from mark j k) ≡ Some nm
  chosen_at [] j k nm at kept = absurd cc
  chosen_at (P name ops ∷ rest) j k nm at kept =
      chosen_first j k (P name ops) name nm (chosen mark (j + 1) (made_lines rest)) (made_lines rest) (λ ss. refl) at kept (λ i e g. chosen_at rest (j + 1) i nm e g) (mark j == 0) refl
  chosen_at (U name lits refs ∷ rest) j k nm at kept =
      chosen_first j k (U name lits refs) name nm (chosen mark (j + 1) (made_lines rest)) (made_lines rest) (λ ss. refl) at kept (λ i e g. chosen_at rest (j + 1) i nm e g) (mark j == 0) refl
  chosen_at (Head ∷ rest) j k nm at kept = chosen_at rest j k nm at kept
  chosen_at (Model m ∷ rest) j k nm at kept = chosen_at rest j k nm at kept
  chosen_at (N row name ∷ rest) j k nm at kept = chosen_at rest j k nm at kept
  chosen_at (D r ∷ rest) j k nm at kept = chosen_at rest j k nm at kept
  chosen_at (E r ∷ rest) j k nm at kept = chosen_at rest j k nm at kept
  chosen_at (Y ones ∷ rest) j k nm at kept = chosen_at rest j k nm at kept
  chosen_at (Q ∷ rest) j k nm at kept = chosen_at rest j k nm at kept

  module _ (names : List Name) (distinct : (i j : ℕ) (nm : Name) → slice_get names i ≡ Some nm → slice_get names j ≡ Some nm → i ≡ j) where
    -- A name is kept where its place is marked.
    keeps_place : (j : ℕ) (name : Name) → slice_get names j ≡ Some name → keeps names mark name ≡ not (mark j == 0)
    keeps_place j name at =
        let p = place_first names name j at in
        ap (is_marked mark) p.2 ∙ ap (λ (i : ℕ). not (mark i == 0)) (distinct p.0 j name (place_is names name p.0 p.2) at)

    place_there : (earlier : List Name) (j : ℕ) (name : Name) (later : List Name) → names ≡ earlier ++ name ∷ later → length earlier ≡ j → slice_get names j ≡ Some name
    place_there earlier j name later are long = ap (λ (ns : List Name). slice_get ns j) are ∙ ap (slice_get (earlier ++ name ∷ later)) (sym long) ∙ get_at earlier later name

    either_way : (s : Step) (xs ys : List Step) (b : Bool) (c : Bool) → c ≡ not b → xs ≡ ys → cond c (s ∷ xs) xs ≡ cond b ys (s ∷ ys)
    either_way s xs ys true c is same = ap (λ (x : Bool). cond x (s ∷ xs) xs) is ∙ same
    either_way s xs ys false c is same = ap (λ (x : Bool). cond x (s ∷ xs) xs) is ∙ ap (λ (zs : List Step). s ∷ zs) same

    longer : (earlier : List Name) (j : ℕ) (name : Name) → length earlier ≡ j → length (earlier ++ name ∷ []) ≡ j + 1
    longer earlier j name long = length-append earlier (name ∷ []) ∙ ap (λ (n : ℕ). n + 1) long

    -- The kept lines are the marked ones.
    pub kept_chosen : (rest : List Step) (j : ℕ) (earlier : List Name) → names ≡ earlier ++ made_names (made_lines rest) → length earlier ≡ j → kept_lines (keeps names mark) rest ≡ chosen mark j (made_lines rest)
    kept_chosen [] j earlier are long = refl
    kept_chosen (P name ops ∷ rest) j earlier are long =
        either_way (P name ops) (kept_lines (keeps names mark) rest) (chosen mark (j + 1) (made_lines rest)) (mark j == 0) (keeps names mark name)
        (keeps_place j name (place_there earlier j name (made_names (made_lines rest)) are long))
        (kept_chosen rest (j + 1) (earlier ++ name ∷ []) (are ∙ sym (append_assoc earlier (name ∷ []) (made_names (made_lines rest)))) (longer earlier j name long))
    kept_chosen (U name lits refs ∷ rest) j earlier are long =
        either_way (U name lits refs) (kept_lines (keeps names mark) rest) (chosen mark (j + 1) (made_lines rest)) (mark j == 0) (keeps names mark name)
        (keeps_place j name (place_there earlier j name (made_names (made_lines rest)) are long))
        (kept_chosen rest (j + 1) (earlier ++ name ∷ []) (are ∙ sym (append_assoc earlier (name ∷ []) (made_names (made_lines rest)))) (longer earlier j name long))
    kept_chosen (Head ∷ rest) j earlier are long = kept_chosen rest j earlier are long
    kept_chosen (Model m ∷ rest) j earlier are long = kept_chosen rest j earlier are long
    kept_chosen (N row name ∷ rest) j earlier are long = kept_chosen rest j earlier are long
    kept_chosen (D r ∷ rest) j earlier are long = kept_chosen rest j earlier are long
    kept_chosen (E r ∷ rest) j earlier are long = kept_chosen rest j earlier are long
    kept_chosen (Y ones ∷ rest) j earlier are long = kept_chosen rest j earlier are long
    kept_chosen (Q ∷ rest) j earlier are long = kept_chosen rest j earlier are long

    -- What marked lines name is placed.
    abbrev pub IsGround : List Step → ℕ → Step → Type 0
    IsGround log j s = IsMaking s × (mark j ≢ 0 → (q : Ref) → IsAmong q (step_refs s) → Placed log names j q)

    pub ground : (log rest : List Step) (j : ℕ) (earlier : List Name) → names ≡ earlier ++ made_names (made_lines rest) → length earlier ≡ j → AllPlaced (keeps names mark) log names j (made_lines rest)
        → (k : ℕ) (s : Step) → slice_get (made_lines rest) k ≡ Some s → IsGround log (j + k) s
    ground log [] j earlier are long placed k s at = absurd cc
    ground log (P name ops ∷ rest) j earlier are long placed zero s at =
        let e : j ≡ j + 0 = omega arith in
        subst (λ (n : ℕ). IsGround log n s) e
        (subst (IsGround log j) (some_same (P name ops) s at) (tt, λ kept q i. placed.0 (keeps_place j name (place_there earlier j name (made_names (made_lines rest)) are long) ∙ ap not (ne_eqb (mark j) 0 kept)) q i))
    ground log (P name ops ∷ rest) j earlier are long placed (suc k) s at =
        let e : j + 1 + k ≡ j + suc k = omega arith in
        subst (λ (n : ℕ). IsGround log n s) e
        (ground log rest (j + 1) (earlier ++ name ∷ []) (are ∙ sym (append_assoc earlier (name ∷ []) (made_names (made_lines rest)))) (longer earlier j name long) placed.1 k s at)
    ground log (U name lits refs ∷ rest) j earlier are long placed zero s at =
        let e : j ≡ j + 0 = omega arith in
        subst (λ (n : ℕ). IsGround log n s) e
        (subst (IsGround log j) (some_same (U name lits refs) s at) (tt, λ kept q i. placed.0 (keeps_place j name (place_there earlier j name (made_names (made_lines rest)) are long) ∙ ap not (ne_eqb (mark j) 0 kept)) q i))
    ground log (U name lits refs ∷ rest) j earlier are long placed (suc k) s at =
        let e : j + 1 + k ≡ j + suc k = omega arith in
        subst (λ (n : ℕ). IsGround log n s) e
        (ground log rest (j + 1) (earlier ++ name ∷ []) (are ∙ sym (append_assoc earlier (name ∷ []) (made_names (made_lines rest)))) (longer earlier j name long) placed.1 k s at)
    ground log (Head ∷ rest) j earlier are long placed k s at = ground log rest j earlier are long placed k s at
    ground log (Model m ∷ rest) j earlier are long placed k s at = ground log rest j earlier are long placed k s at
    ground log (N row name ∷ rest) j earlier are long placed k s at = ground log rest j earlier are long placed k s at
    ground log (D r ∷ rest) j earlier are long placed k s at = ground log rest j earlier are long placed k s at
    ground log (E r ∷ rest) j earlier are long placed k s at = ground log rest j earlier are long placed k s at
    ground log (Y ones ∷ rest) j earlier are long placed k s at = ground log rest j earlier are long placed k s at
    ground log (Q ∷ rest) j earlier are long placed k s at = ground log rest j earlier are long placed k s at
