-- What the lines of a log name stands before them, by its place among the lines that make forms.
use Rattle.std.proofs.Common.{◌⊎◌, inl, inr, ◌≡◌, ℕ, zero, suc, ◌+◌, ◌<◌, ◌≤◌, ◌==◌, Bool, true, false, cond, List, [], ◌∷◌, ◌++◌, length, map, Option, Some, None, Ok, refl, sym, ap, ◌∙◌, subst, length-append, append_assoc, arith}
use Rattle.std.specs.Prelude.{slice_get}
use Rattle.std.proofs.lemmas.Bool.{ne_eqb, eq-eqb, eqb-true, and_parts, and_from}
use Rattle.log_theory.specs.declared.profile.Profile.{Profile}
use Rattle.log_theory.specs.declared.step.Name.{Name}
use Rattle.log_theory.specs.declared.step.Op.{Op}
use Rattle.log_theory.specs.declared.step.Op.TheVariants.{Push, Axiom, Add, Times, Divide, Saturate}
use Rattle.log_theory.specs.declared.step.Ref.{Ref}
use Rattle.log_theory.specs.declared.step.Ref.TheVariants.{Line, Made, Shared}
use Rattle.log_theory.specs.declared.step.Step.{Step}
use Rattle.log_theory.specs.declared.step.Step.TheVariants.{Head, Model, P, U, N, D, E, Y, Q}
use Rattle.log_theory.specs.declared.step.Cause.TheVariants.{Twice, NoSuchName}
use Rattle.proof_theory.specs.Forms.{Form}
use Rattle.proof_theory.specs.Propagation.{IsAmong}
use Rattle.proof_theory.specs.Slack.{axiom_form}
use Rattle.log_theory.specs.Steps.{unless, or_fault}
use Rattle.log_theory.specs.Profiles.{told_in}
use Rattle.log_theory.specs.Lookups.{Lookup, operate, evaluate, find_all, are_distinct, variables_of, makes}
use Rattle.log_theory.specs.Tables.{Table, empty_table, find, is_row_used, with_shared, without}
use Rattle.log_theory.proofs.LogSound.{bind_ok, or_fault_ok}
use Rattle.journal_theory.specs.Referring.{op_refs, step_refs}
use Rattle.journal_theory.proofs.Placing.{some_same}
use Rattle.trim_theory.specs.Trimming.{StepsIn, made_names, row_name, HintsStand}
use Rattle.trim_theory.specs.Marking.{made_lines, same_name, one_behind, place_of, place_of_row}
use Rattle.trim_theory.proofs.Keeping.{empty_finds}
use Rattle.trim_theory.proofs.Stepped.{Makes, stepped, clause_makes, made_finds, shared_finds, shared_free, without_less, without_used, name_same}

-- ---- places of names

pub same_name_is : (a b : Name) → same_name a b ≡ true → a ≡ b
same_name_is a b e = let p = and_parts (a.owner == b.owner) (a.number == b.number) e in name_same a b (eqb-true a.owner b.owner p.0) (eqb-true a.number b.number p.1)

same_name_itself : (a b : Name) → a ≡ b → same_name a b ≡ true
same_name_itself a b e = and_from (a.owner == b.owner) (a.number == b.number) (eq-eqb a.owner b.owner (ap (λ (n : Name). n.owner) e)) (eq-eqb a.number b.number (ap (λ (n : Name). n.number) e))

some_place : (a b : ℕ) → let x : Option ℕ = Some a in let y : Option ℕ = Some b in x ≡ y → a ≡ b
some_place a b e = cc

-- A name that stands at a place has a first place, no later.
pub place_first : (names : List Name) (name : Name) (i : ℕ) → slice_get names i ≡ Some name → (k : ℕ) × (k ≤ i) × (place_of names name ≡ Some k)
place_first [] name i at = absurd cc
place_first (n ∷ ns) name i at = by (same_name n name) refl i at (λ j e. place_first ns name j e)
  where
    by : (b : Bool) → same_name n name ≡ b → (j : ℕ) → slice_get (n ∷ ns) j ≡ Some name → ((m : ℕ) → slice_get ns m ≡ Some name → (k : ℕ) × (k ≤ m) × (place_of ns name ≡ Some k))
        → (k : ℕ) × (k ≤ j) × (cond b (Some 0) (one_behind (place_of ns name)) ≡ Some k)
    by true is j e more = (0, omega arith, refl)
    by false is zero e more = absurd (differ (same_name_itself n name (some_same n name e)))
      where
        differ : same_name n name ≡ true → ⊥
        differ h = let f : false ≡ true = sym is ∙ h in cc
    by false is (suc j) e more = let k = more j e in (suc k.0, (let l : k.0 ≤ j = k.1 in omega (arith, l)), ap one_behind k.2)

-- At the first place of a name it stands.
pub place_is : (names : List Name) (name : Name) (i : ℕ) → place_of names name ≡ Some i → slice_get names i ≡ Some name
place_is [] name i e = absurd cc
place_is (n ∷ ns) name i e = by (same_name n name) refl (place_of ns name) (λ j h. place_is ns name j h) e
  where
    by : (b : Bool) → same_name n name ≡ b → (o : Option ℕ) → ((j : ℕ) → o ≡ Some j → slice_get ns j ≡ Some name) → cond b (Some 0) (one_behind o) ≡ Some i → slice_get (n ∷ ns) i ≡ Some name
    by true is o more h = ap (slice_get (n ∷ ns)) (sym (some_place 0 i h)) ∙ ap (λ (m : Name). let p : Option Name = Some m in p) (same_name_is n name is)
    by false is None more h = absurd cc
    by false is (Some j) more h = ap (slice_get (n ∷ ns)) (sym (some_place (suc j) i h)) ∙ more j refl

pub get_at : {A : Type 0} (xs ys : List A) (x : A) → slice_get (xs ++ x ∷ ys) (length xs) ≡ Some x
get_at [] ys x = refl
get_at (y ∷ xs) ys x = get_at xs ys x

-- ---- what lines that make a form find

evaluate_found : (look : Lookup) (os : List Op) (stack next : List Form) (q : Ref) → evaluate look stack os ≡ Ok next → IsAmong q (op_refs os) → (f : Form) × (look q ≡ Some f)
evaluate_found look [] stack next q e i = absurd i
evaluate_found look (Push r ∷ os) stack next q e i =
    let b = bind_ok (operate look stack (Push r)) _ next e in
    let d = bind_ok (or_fault (look r) NoSuchName) _ b.0 b.1.0 in
    by d.0 (or_fault_ok (look r) NoSuchName d.0 d.1.0) (λ k. evaluate_found look os b.0 next q b.1.1 k) i
  where
    by : (f : Form) → look r ≡ Some f → (IsAmong q (op_refs os) → (g : Form) × (look q ≡ Some g)) → (q ≡ r) ⊎ IsAmong q (op_refs os) → (g : Form) × (look q ≡ Some g)
    by f found more (inl same) = (f, ap look same ∙ found)
    by f found more (inr k) = more k
evaluate_found look (Axiom l ∷ os) stack next q e i = evaluate_found look os (axiom_form l ∷ stack) next q e i
evaluate_found look (Add ∷ os) stack next q e i = let b = bind_ok (operate look stack Add) _ next e in evaluate_found look os b.0 next q b.1.1 i
evaluate_found look (Times n ∷ os) stack next q e i = let b = bind_ok (operate look stack (Times n)) _ next e in evaluate_found look os b.0 next q b.1.1 i
evaluate_found look (Divide n ∷ os) stack next q e i = let b = bind_ok (operate look stack (Divide n)) _ next e in evaluate_found look os b.0 next q b.1.1 i
evaluate_found look (Saturate ∷ os) stack next q e i = let b = bind_ok (operate look stack Saturate) _ next e in evaluate_found look os b.0 next q b.1.1 i

all_found : (look : Lookup) (rs : List Ref) (fs : List Form) (q : Ref) → find_all look rs ≡ Ok fs → IsAmong q rs → (f : Form) × (look q ≡ Some f)
all_found look [] fs q e i = absurd i
all_found look (r ∷ rs) fs q e i =
    let b = bind_ok (or_fault (look r) NoSuchName) _ fs e in
    let d = bind_ok (find_all look rs) _ fs b.1.1 in
    by b.0 (or_fault_ok (look r) NoSuchName b.0 b.1.0) (λ k. all_found look rs d.0 q d.1.0 k) i
  where
    by : (f : Form) → look r ≡ Some f → (IsAmong q rs → (g : Form) × (look q ≡ Some g)) → (q ≡ r) ⊎ IsAmong q rs → (g : Form) × (look q ≡ Some g)
    by f found more (inl same) = (f, ap look same ∙ found)
    by f found more (inr k) = more k

-- A line that makes a form finds all that it names.
pub makes_found : (look : Lookup) (s : Step) (f : Form) (q : Ref) → makes look s ≡ Ok f → IsAmong q (step_refs s) → (g : Form) × (look q ≡ Some g)
makes_found look (P name ops) f q e i = let b = bind_ok (evaluate look [] ops) _ f e in evaluate_found look ops [] b.0 q b.1.0 i
makes_found look (U name lits refs) f q e i =
    let b = bind_ok (unless (are_distinct (variables_of lits)) Twice) _ f e in
    let d = bind_ok (find_all look refs) _ f b.1.1 in
    all_found look refs d.0 q d.1.0 i
makes_found look (N row name) f q e (inl same) = (f, ap look same ∙ or_fault_ok (look (Made name)) NoSuchName f e)
makes_found look (N row name) f q e (inr i) = absurd i
makes_found look Head f q e i = absurd i
makes_found look (Model m) f q e i = absurd i
makes_found look (D at) f q e i = absurd cc
makes_found look (E at) f q e i = absurd cc
makes_found look (Y ones) f q e i = absurd i
makes_found look Q f q e i = absurd i

-- ---- the walk

-- The reference names the model, or a line before a place.
abbrev pub Placed : List Step → List Name → ℕ → Ref → Type 0
Placed log names j (Line k) = Unit {0}
Placed log names j (Made name) = (i : ℕ) × (i < j) × (place_of names name ≡ Some i)
Placed log names j (Shared k) = (i : ℕ) × (i < j) × (place_of_row names (row_name log k) ≡ Some i)

-- What a kept line at a place names stands before it.
abbrev pub LinePlaced : (Name → Bool) → List Step → List Name → ℕ → Step → Type 0
LinePlaced keep log names j (P name ops) = keep name ≡ true → (q : Ref) → IsAmong q (op_refs ops) → Placed log names j q
LinePlaced keep log names j (U name lits refs) = keep name ≡ true → (q : Ref) → IsAmong q refs → Placed log names j q
LinePlaced keep log names j s = Unit {0}

abbrev pub AllPlaced : (Name → Bool) → List Step → List Name → ℕ → List Step → Type 0
AllPlaced keep log names j [] = Unit {0}
AllPlaced keep log names j (s ∷ ss) = LinePlaced keep log names j s × AllPlaced keep log names (j + 1) ss

module _ (model : List Form) (full : List Step) (names : List Name) where
  -- What a table finds under a name or a row is a line that was made before it.
  pub record Seen (t : Table) (count : ℕ) (later : List Name) (row : ℕ → Option Name) : Type 0 where
    earlier : List Name
    names_are : names ≡ earlier ++ later
    long : length earlier ≡ count
    made : (name : Name) (f : Form) → find model t (Made name) ≡ Some f → (i : ℕ) × (i < count) × (slice_get names i ≡ Some name)
    rows : (k : ℕ) (f : Form) → find model t (Shared k) ≡ Some f → (name : Name) × (row_name full k ≡ Some name) × ((i : ℕ) × (i < count) × (slice_get names i ≡ Some name))
    rest_rows : (k : ℕ) → is_row_used t.shared k ≡ false → row_name full k ≡ row k

  -- What a table finds is placed.
  pub seen_placed : (t : Table) (count : ℕ) (later : List Name) (row : ℕ → Option Name) → Seen t count later row → (q : Ref) (f : Form) → find model t q ≡ Some f → Placed full names count q
  seen_placed t count later row seen (Line k) f e = tt
  seen_placed t count later row seen (Made name) f e =
      let h = seen.made name f e in
      let p = place_first names name h.0 h.2 in
      (p.0, (let l = h.1 in let m = p.1 in omega (arith, l, m)), p.2)
  seen_placed t count later row seen (Shared k) f e =
      let h = seen.rows k f e in
      let p = place_first names h.0 h.2.0 h.2.2 in
      (p.0, (let l = h.2.1 in let m = p.1 in omega (arith, l, m)), ap (place_of_row names) h.1 ∙ p.2)

  seen_made : (t m : Table) (name : Name) (f : Form) (count : ℕ) (later : List Name) (row : ℕ → Option Name) → Makes t m name f → Seen t count (name ∷ later) row → Seen m (count + 1) later row
  seen_made t m name f count later row did seen = record {
    earlier = seen.earlier ++ name ∷ [];
    names_are = seen.names_are ∙ sym (append_assoc seen.earlier (name ∷ []) later);
    long = length-append seen.earlier (name ∷ []) ∙ ap (λ (n : ℕ). n + 1) seen.long;
    made = λ other g e. elim (made_finds model t name other f g did.number (ap (λ (x : Table). find model x (Made other)) (sym did.is) ∙ e)) [
      | inl h ↦ (let k = seen.made other g h in (k.0, (let l = k.1 in omega (arith, l)), k.2))
      | inr h ↦ (count, omega arith, here ∙ ap (λ (x : Name). let o : Option Name = Some x in o) (sym h.1))
    ];
    rows = λ k g e. let h = seen.rows k g (ap (λ (x : Table). find model x (Shared k)) (sym did.is) ∙ e) in (h.0, h.1, (h.2.0, (let l = h.2.1 in omega (arith, l)), h.2.2));
    rest_rows = λ k free. seen.rest_rows k (ap (λ (x : Table). is_row_used x.shared k) (sym did.is) ∙ free);
  }
    where
      here : slice_get names count ≡ Some name
      here = ap (λ (ns : List Name). slice_get ns count) seen.names_are ∙ ap (slice_get (seen.earlier ++ name ∷ later)) (sym seen.long) ∙ get_at seen.earlier later name

  seen_shared : (t : Table) (k : ℕ) (name : Name) (f : Form) (count : ℕ) (later : List Name) (rest : List Step) → find model t (Made name) ≡ Some f → is_row_used t.shared k ≡ false
      → Seen t count later (row_name (N k name ∷ rest)) → Seen (with_shared t k f) count later (row_name rest)
  seen_shared t k name f count later rest at free seen = record {
    earlier = seen.earlier;
    names_are = seen.names_are;
    long = seen.long;
    made = seen.made;
    rows = λ row g e. elim (shared_finds t.shared k row f g e) [
      | inl h ↦ seen.rows row g h
      | inr h ↦ (name, told row h.0, seen.made name f at)
    ];
    rest_rows = λ row unused. let h = shared_free t.shared k row (Some f) unused in seen.rest_rows row h.0 ∙ ap (λ (b : Bool). cond b (Some name) (row_name rest row)) (ne_eqb k row h.1);
  }
    where
      told : (row : ℕ) → row ≡ k → row_name full row ≡ Some name
      told row same = ap (row_name full) same ∙ seen.rest_rows k free ∙ ap (λ (b : Bool). cond b (Some name) (row_name rest k)) (eq-eqb k k refl)

  seen_without : (t : Table) (at : Ref) (count : ℕ) (later : List Name) (row : ℕ → Option Name) → Seen t count later row → Seen (without t at) count later row
  seen_without t at count later row seen = record {
    earlier = seen.earlier;
    names_are = seen.names_are;
    long = seen.long;
    made = λ name g e. seen.made name g (without_less model t at (Made name) g e);
    rows = λ k g e. seen.rows k g (without_less model t at (Shared k) g e);
    rest_rows = λ k free. seen.rest_rows k (sym (without_used t at k) ∙ free);
  }

  -- What the walk over the rest of a log gives.
  pub record Walked (keep : Name → Bool) (z : Table) (count : ℕ) (rest : List Step) : Type 0 where
    pub all : AllPlaced keep full names count (made_lines rest)
    pub ends : (q : Ref) (f : Form) → find model z q ≡ Some f → Placed full names (count + length (made_lines rest)) q

  -- A line that makes a form in front of the rest.
  in_front : (keep : Name → Bool) (z : Table) (count : ℕ) (s : Step) (rest : List Step) → LinePlaced keep full names count s → Walked keep z (count + 1) rest
      → made_lines (s ∷ rest) ≡ s ∷ made_lines rest → Walked keep z count (s ∷ rest)
  in_front keep z count s rest placed walked bears = record {
    all = subst (AllPlaced keep full names count) (sym bears) (placed, walked.all);
    ends = λ q f e. subst (λ (n : ℕ). Placed full names n q) (longer (length (made_lines (s ∷ rest))) (ap (λ (ss : List Step). length ss) bears)) (walked.ends q f e);
  }
    where
      longer : (n : ℕ) → n ≡ suc (length (made_lines rest)) → count + 1 + length (made_lines rest) ≡ count + n
      longer n e = omega (arith, e)

  pub place_walk : (profile : Profile) (keep : Name → Bool) (rest : List Step) (t z : Table) (count : ℕ) → Seen t count (made_names (made_lines rest)) (row_name rest)
      → StepsIn profile model t (map (told_in profile) rest) z → HintsStand profile keep model t rest → Walked keep z count rest
  place_walk profile keep [] t z count seen steps hints = record {
    all = tt;
    ends = λ q f e. subst (λ (n : ℕ). Placed full names n q) (let h : count ≡ count + 0 = omega arith in h) (seen_placed t count [] (row_name []) seen q f (ap (λ (x : Table). find model x q) (sym steps) ∙ e));
  }
  place_walk profile keep (P name ops ∷ rest) t z count seen steps hints =
      let m = steps.0 in
      let did = stepped profile model t m (P name ops) steps.1 in
      in_front keep z count (P name ops) rest
      (λ k q i. let g = makes_found (find model t) (P name ops) did.0 q did.1 i in seen_placed t count (name ∷ made_names (made_lines rest)) (row_name rest) seen q g.0 g.1)
      (place_walk profile keep rest m z (count + 1) (seen_made t m name did.0 count (made_names (made_lines rest)) (row_name rest) did.2 seen) steps.2 (hints.1 m steps.1)) refl
  place_walk profile keep (U name lits refs ∷ rest) t z count seen steps hints =
      let m = steps.0 in
      let did = clause_makes profile keep model t m name lits refs (stepped profile model t m (U name lits refs) steps.1) in
      in_front keep z count (U name lits refs) rest
      (λ k q i. let g = makes_found (find model t) (U name lits refs) did.0 q (did.1 k hints.0) i in seen_placed t count (name ∷ made_names (made_lines rest)) (row_name rest) seen q g.0 g.1)
      (place_walk profile keep rest m z (count + 1) (seen_made t m name did.0 count (made_names (made_lines rest)) (row_name rest) did.2 seen) steps.2 (hints.1 m steps.1)) refl
  place_walk profile keep (N row name ∷ rest) t z count seen steps hints =
      let m = steps.0 in
      let did = stepped profile model t m (N row name) steps.1 in
      let w = place_walk profile keep rest m z count
      (subst (λ (x : Table). Seen x count (made_names (made_lines rest)) (row_name rest)) (sym did.3) (seen_shared t row name did.0 count (made_names (made_lines rest)) rest did.1 did.2 seen))
      steps.2 (hints.1 m steps.1) in
      record { all = w.all; ends = w.ends }
  place_walk profile keep (D at ∷ rest) t z count seen steps hints =
      let m = steps.0 in
      let did = stepped profile model t m (D at) steps.1 in
      let w = place_walk profile keep rest m z count
      (subst (λ (x : Table). Seen x count (made_names (made_lines rest)) (row_name rest)) (sym did) (seen_without t at count (made_names (made_lines rest)) (row_name rest) seen))
      steps.2 (hints.1 m steps.1) in
      record { all = w.all; ends = w.ends }
  place_walk profile keep (Head ∷ rest) t z count seen steps hints = absurd (stepped profile model t steps.0 Head steps.1)
  place_walk profile keep (Model k ∷ rest) t z count seen steps hints = absurd (stepped profile model t steps.0 (Model k) steps.1)
  place_walk profile keep (E r ∷ rest) t z count seen steps hints = absurd (stepped profile model t steps.0 (E r) steps.1)
  place_walk profile keep (Y ones ∷ rest) t z count seen steps hints = absurd (stepped profile model t steps.0 (Y ones) steps.1)
  place_walk profile keep (Q ∷ rest) t z count seen steps hints = absurd (stepped profile model t steps.0 Q steps.1)

-- What the lines of a log that steps name is placed, and so is what its last line finds.
pub all_placed : (profile : Profile) (model : List Form) (log : List Step) (z : Table) (keep : Name → Bool) → StepsIn profile model empty_table (map (told_in profile) log) z
    → HintsStand profile keep model empty_table log → Walked model log (made_names (made_lines log)) keep z 0 log
all_placed profile model log z keep steps hints =
    place_walk model log (made_names (made_lines log)) profile keep log empty_table z 0
    (record {
      earlier = [];
      names_are = refl;
      long = refl;
      made = λ name f e. absurd (empty_finds model name f e);
      rows = λ k f e. absurd cc;
      rest_rows = λ k free. refl;
    }) steps hints
