-- Marked lines are the trimmed log.
use Rattle.std.proofs.Common.{◌⊎◌, inl, inr, ◌≡◌, ◌≢◌, ℕ, zero, suc, ◌+◌, ◌-◌, ◌<◌, ◌≤◌, ◌==◌, Bool, true, false, cond, List, [], ◌∷◌, ◌++◌, length, map, Option, Some, None, refl, sym, ap, ◌∙◌, subst, append-nil, arith}
use Rattle.std.specs.Prelude.{slice_get}
use Rattle.std.proofs.lemmas.Bool.{cases_eq, eqb-true, eqb-false, eq-eqb, or_left, or_right, both_ways, false_from_ne_true}
use Rattle.std.proofs.lemmas.Option.{slice_get_within}
use Rattle.log_theory.specs.declared.profile.Profile.{Profile}
use Rattle.log_theory.specs.declared.step.Name.{Name}
use Rattle.log_theory.specs.declared.step.Op.{Op}
use Rattle.log_theory.specs.declared.step.Op.TheVariants.{Push, Axiom, Add, Times, Divide, Saturate}
use Rattle.log_theory.specs.declared.step.Ref.{Ref}
use Rattle.log_theory.specs.declared.step.Ref.TheVariants.{Line, Made, Shared}
use Rattle.log_theory.specs.declared.step.Step.{Step}
use Rattle.log_theory.specs.declared.step.Step.TheVariants.{P, U, D, E, Y, Q}
use Rattle.proof_theory.specs.Forms.{Form}
use Rattle.proof_theory.specs.Propagation.{IsAmong}
use Rattle.log_theory.specs.Profiles.{told_in}
use Rattle.log_theory.specs.Tables.{empty_table}
use Rattle.journal_theory.specs.Referring.{op_refs, step_refs}
use Rattle.journal_theory.specs.Journals.{own_name, IsMaking}
use Rattle.journal_theory.proofs.Placing.{some_same}
use Rattle.trim_theory.specs.Renaming.{Renaming, RefsRenamed, OpsRenamed, LineRenamed, LinesRenamed, EndRenamed}
use Rattle.trim_theory.specs.Running.{later_refs, is_own, is_named, deletions, with_deletions}
use Rattle.trim_theory.specs.Trimming.{kept_lines, made_names, kept_names, row_name, ToKept, AreUsed, HintsStand, Trims}
use Rattle.trim_theory.specs.Laws.{AreRising, AreLast}
use Rattle.trim_theory.specs.Marking.{made_lines, place_of, place_of_row, place_at, Marked, keeps, rank, ref_to, new_ref, new_op, new_line, new_last, marked_deletions, marked_log, IsLast, MarkLaw}
use Rattle.trim_theory.proofs.Listing.{among_front, among_behind, among_either, rising_snoc, deleted_places}
use Rattle.trim_theory.proofs.Referring.{own_named}
use Rattle.trim_theory.proofs.Distinct.{names_distinct}
use Rattle.trim_theory.proofs.Placed.{place_is, Placed, all_placed}
use Rattle.trim_theory.proofs.Marking.{rank_kept, rank_left, rank_less, rank_one, chosen, renewed, count_from, rank_from, chosen_at, kept_chosen, ground}

-- ---- references of renewed lines

module _ {A B : Type 0} (f : A → B) where
  among_map : (x : A) (xs : List A) → IsAmong x xs → IsAmong (f x) (map f xs)
  among_map x [] h = absurd h
  among_map x (y ∷ xs) (inl e) = inl (ap f e)
  among_map x (y ∷ xs) (inr h) = inr (among_map x xs h)

  map_among : (y : B) (xs : List A) → IsAmong y (map f xs) → (x : A) × IsAmong x xs × (y ≡ f x)
  map_among y [] h = absurd h
  map_among y (x ∷ xs) (inl e) = (x, inl refl, e)
  map_among y (x ∷ xs) (inr h) = let k = map_among y xs h in (k.0, inr k.1, k.2)

  map_on : (xs ys : List A) → map f (xs ++ ys) ≡ map f xs ++ map f ys
  map_on [] ys = refl
  map_on (x ∷ xs) ys = ap (λ (zs : List B). f x ∷ zs) (map_on xs ys)

own_is : (i : ℕ) → is_own i (Made (own_name 0 i)) ≡ true
own_is i = eq-eqb (i + 1) (i + 1) refl

-- Owner 0's line of a place is named where it is among references.
named_among : (i : ℕ) (r : Ref) (rs : List Ref) → r ≡ Made (own_name 0 i) → IsAmong r rs → is_named i rs ≡ true
named_among i r [] e h = absurd h
named_among i r (p ∷ rs) e (inl same) = or_left (is_own i p) (is_named i rs) (ap (is_own i) (sym same ∙ e) ∙ own_is i)
named_among i r (p ∷ rs) e (inr h) = or_right (is_own i p) (is_named i rs) (named_among i r rs e h)

op_refs_new : (new : Ref → Ref) (os : List Op) → op_refs (map (new_op new) os) ≡ map new (op_refs os)
op_refs_new new [] = refl
op_refs_new new (Push q ∷ os) = ap (λ (rs : List Ref). new q ∷ rs) (op_refs_new new os)
op_refs_new new (Axiom l ∷ os) = op_refs_new new os
op_refs_new new (Add ∷ os) = op_refs_new new os
op_refs_new new (Times n ∷ os) = op_refs_new new os
op_refs_new new (Divide n ∷ os) = op_refs_new new os
op_refs_new new (Saturate ∷ os) = op_refs_new new os

line_refs_new : (new : Ref → Ref) (place : ℕ) (s : Step) → IsMaking s → step_refs (new_line new place s) ≡ map new (step_refs s)
line_refs_new new place (P name ops) m = op_refs_new new ops
line_refs_new new place (U name lits refs) m = refl
line_refs_new new place s m = absurd m

last_refs_new : (new : Ref → Ref) (s : Step) → IsLast s → step_refs (new_last new s) ≡ map new (step_refs s)
last_refs_new new (E q) m = refl
last_refs_new new (Y ones) m = refl
last_refs_new new Q m = refl
last_refs_new new s m = absurd m

-- ---- renewed lines are renamed

module _ (to : Renaming) (new : Ref → Ref) where
  refs_renamed : (qs : List Ref) → ((q : Ref) → IsAmong q qs → to q (new q)) → RefsRenamed to qs (map new qs)
  refs_renamed [] h = tt
  refs_renamed (q ∷ qs) h = (h q (inl refl), refs_renamed qs (λ r i. h r (inr i)))

  ops_renamed : (os : List Op) → ((q : Ref) → IsAmong q (op_refs os) → to q (new q)) → OpsRenamed to os (map (new_op new) os)
  ops_renamed [] h = tt
  ops_renamed (Push q ∷ os) h = (h q (inl refl), ops_renamed os (λ r i. h r (inr i)))
  ops_renamed (Axiom l ∷ os) h = (refl, ops_renamed os h)
  ops_renamed (Add ∷ os) h = (refl, ops_renamed os h)
  ops_renamed (Times n ∷ os) h = (refl, ops_renamed os h)
  ops_renamed (Divide n ∷ os) h = (refl, ops_renamed os h)
  ops_renamed (Saturate ∷ os) h = (refl, ops_renamed os h)

  line_renamed : (place : ℕ) (s : Step) → IsMaking s → ((q : Ref) → IsAmong q (step_refs s) → to q (new q)) → LineRenamed to place s (new_line new place s)
  line_renamed place (P name ops) m h = (refl, ops_renamed ops h)
  line_renamed place (U name lits refs) m h = (refl, refl, refs_renamed refs h)
  line_renamed place s m h = absurd m

  last_renamed : (s : Step) → IsLast s → ((q : Ref) → IsAmong q (step_refs s) → to q (new q)) → EndRenamed to s (new_last new s)
  last_renamed (E q) m h = h q (inl refl)
  last_renamed (Y ones) m h = refl
  last_renamed Q m h = refl
  last_renamed s m h = absurd m

-- ---- marks of one log

own_place : (i j : ℕ) → Made (own_name 0 i) ≡ Made (own_name 0 j) → i ≡ j
own_place i j e = let n : own_name 0 i ≡ own_name 0 j = cc in omega (arith, ap (λ (x : Name). x.number) n)

line_not_made : (k : ℕ) (name : Name) → Line k ≡ Made name → ⊥
line_not_made k name e = cc

module _ (log : List Step) (last : Step) (mark : ℕ → ℕ) (marked : Marked log last mark) (is_last : IsLast last)
    (distinct : (i j : ℕ) (nm : Name) → slice_get (made_names (made_lines log)) i ≡ Some nm → slice_get (made_names (made_lines log)) j ≡ Some nm → i ≡ j)
    (grounds : (j : ℕ) (s : Step) → slice_get (made_lines log) j ≡ Some s → IsMaking s × (mark j ≢ 0 → (q : Ref) → IsAmong q (step_refs s) → Placed log (made_names (made_lines log)) j q))
    (last_placed : (q : Ref) → IsAmong q (step_refs last) → Placed log (made_names (made_lines log)) (length (made_lines log)) q) where
  abbrev all : List Step
  all = made_lines log

  abbrev names : List Name
  names = made_names (made_lines log)

  abbrev new : Ref → Ref
  new = new_ref log mark

  abbrev to : Renaming
  to = ToKept log (kept_names (keeps names mark) log)

  -- A placed reference names the model, or a line at an earlier place.
  placed_cases : (j : ℕ) (q : Ref) → Placed log names j q → ((k : ℕ) × (q ≡ Line k)) ⊎ ((i : ℕ) × (i < j) × (place_at log names q ≡ Some i))
  placed_cases j (Line k) h = inl (k, refl)
  placed_cases j (Made name) h = inr h
  placed_cases j (Shared k) h = inr h

  -- What becomes owner 0's line of a place was placed there.
  placed_new : (j m : ℕ) (q : Ref) → Placed log names j q → new q ≡ Made (own_name 0 m) → (i : ℕ) × (i < j) × (place_at log names q ≡ Some i) × (rank mark i ≡ m)
  placed_new j m q h e = by (placed_cases j q h)
    where
      by : ((k : ℕ) × (q ≡ Line k)) ⊎ ((i : ℕ) × (i < j) × (place_at log names q ≡ Some i)) → (i : ℕ) × (i < j) × (place_at log names q ≡ Some i) × (rank mark i ≡ m)
      by (inl k) = absurd (line_not_made k.0 (own_name 0 m) (sym (ap new k.1) ∙ e))
      by (inr k) = (k.0, k.1, k.2, own_place (rank mark k.0) m (sym (ap (ref_to mark q) k.2) ∙ e))

  kept_are : kept_lines (keeps names mark) log ≡ chosen mark 0 all
  kept_are = kept_chosen mark names distinct log 0 [] refl refl

  -- The name at a marked place is kept at its rank.
  kept_at : (i : ℕ) (name : Name) → slice_get names i ≡ Some name → mark i ≢ 0 → slice_get (kept_names (keeps names mark) log) (rank mark i) ≡ Some name
  kept_at i name at kept =
      let z : 0 + i ≡ i = omega arith in
      let r : rank mark i ≡ count_from mark 0 i = (let f = rank_from mark 0 i in omega (arith, f, ap (rank mark) z)) in
      ap (λ (ss : List Step). slice_get (made_names ss) (rank mark i)) kept_are ∙ ap (slice_get (made_names (chosen mark 0 all))) r ∙ chosen_at mark log 0 i name at (λ h. kept (ap mark (sym z) ∙ h))

  row_cases : (o : Option Name) (i : ℕ) → place_of_row names o ≡ Some i → (name : Name) × (o ≡ Some name) × (place_of names name ≡ Some i)
  row_cases None i e = absurd cc
  row_cases (Some name) i e = (name, refl, e)

  -- A reference to a marked place is renamed.
  renamed_ref : (q : Ref) (i : ℕ) → place_at log names q ≡ Some i → mark i ≢ 0 → to q (new q)
  renamed_ref (Line k) i e kept = absurd cc
  renamed_ref (Made name) i e kept = (rank mark i, kept_at i name (place_is names name i e) kept, ap (ref_to mark (Made name)) e)
  renamed_ref (Shared k) i e kept = let h = row_cases (row_name log k) i e in (h.0, h.1, (rank mark i, kept_at i h.0 (place_is names h.0 i h.2) kept, ap (ref_to mark (Shared k)) e))

  placed_renamed : (j : ℕ) (q : Ref) → Placed log names j q → ((i : ℕ) → place_at log names q ≡ Some i → mark i ≢ 0) → to q (new q)
  placed_renamed j q h kept = by (placed_cases j q h)
    where
      by : ((k : ℕ) × (q ≡ Line k)) ⊎ ((i : ℕ) × (i < j) × (place_at log names q ≡ Some i)) → to q (new q)
      by (inl k) = subst (λ (x : Ref). to x (new x)) (sym k.1) refl
      by (inr k) = renamed_ref q k.0 k.2 (kept k.0 k.2)

  above : (i j : ℕ) → j < mark i → mark i ≢ 0
  above i j l e = omega (arith, l, e)

  line_fits : (j : ℕ) (s : Step) → slice_get all j ≡ Some s → mark j ≢ 0 → (q : Ref) → IsAmong q (step_refs s) → to q (new q)
  line_fits j s at kept q i = placed_renamed j q ((grounds j s at).1 kept q i) (λ k e. above k j (marked.by_line k j s q at kept i e))

  last_fits : (q : Ref) → IsAmong q (step_refs last) → to q (new q)
  last_fits q i = placed_renamed (length all) q (last_placed q i) (λ k e. above k (length all) (marked.by_last k q i e))

  -- ---- from a place on

  abbrev Stand : ℕ → List Step → Type 0
  Stand j ss = (k : ℕ) → slice_get all (j + k) ≡ slice_get ss k

  stand_here : (j : ℕ) (s : Step) (ss : List Step) → Stand j (s ∷ ss) → slice_get all j ≡ Some s
  stand_here j s ss stand = let e : j ≡ j + 0 = omega arith in ap (slice_get all) e ∙ stand 0

  stand_next : (j : ℕ) (s : Step) (ss : List Step) → Stand j (s ∷ ss) → Stand (j + 1) ss
  stand_next j s ss stand k = let e : j + 1 + k ≡ j + suc k = omega arith in ap (slice_get all) e ∙ stand (suc k)

  lines_renamed : (j : ℕ) (ss : List Step) → Stand j ss → LinesRenamed to (rank mark j) (chosen mark j ss) (renewed new mark j ss)
  lines_renamed j [] stand = tt
  lines_renamed j (s ∷ ss) stand = by (mark j == 0) refl (lines_renamed (j + 1) ss (stand_next j s ss stand))
    where
      by : (b : Bool) → (mark j == 0) ≡ b → LinesRenamed to (rank mark (j + 1)) (chosen mark (j + 1) ss) (renewed new mark (j + 1) ss)
          → LinesRenamed to (rank mark j) (cond b (chosen mark (j + 1) ss) (s ∷ chosen mark (j + 1) ss)) (cond b (renewed new mark (j + 1) ss) (new_line new (rank mark j) s ∷ renewed new mark (j + 1) ss))
      by true is more = subst (λ (n : ℕ). LinesRenamed to n (chosen mark (j + 1) ss) (renewed new mark (j + 1) ss)) (rank_left mark j is) more
      by false is more = (
        line_renamed to new (rank mark j) s (grounds j s (stand_here j s ss stand)).0 (line_fits j s (stand_here j s ss stand) (eqb-false (mark j) 0 is)),
        subst (λ (n : ℕ). LinesRenamed to n (chosen mark (j + 1) ss) (renewed new mark (j + 1) ss)) (rank_kept mark j is) more,
      )

  -- What renewed lines and the last one refer to.
  later_new : (j : ℕ) (ss : List Step) → Stand j ss → later_refs (renewed new mark j ss) (new_last new last) ≡ map new (later_refs (chosen mark j ss) last)
  later_new j [] stand = last_refs_new new last is_last
  later_new j (s ∷ ss) stand = by (mark j == 0) (later_new (j + 1) ss (stand_next j s ss stand))
    where
      by : (b : Bool) → later_refs (renewed new mark (j + 1) ss) (new_last new last) ≡ map new (later_refs (chosen mark (j + 1) ss) last)
          → later_refs (cond b (renewed new mark (j + 1) ss) (new_line new (rank mark j) s ∷ renewed new mark (j + 1) ss)) (new_last new last) ≡ map new (later_refs (cond b (chosen mark (j + 1) ss) (s ∷ chosen mark (j + 1) ss)) last)
      by true more = more
      by false more =
          ap (λ (rs : List Ref). rs ++ later_refs (renewed new mark (j + 1) ss) (new_last new last)) (line_refs_new new (rank mark j) s (grounds j s (stand_here j s ss stand)).0)
          ∙ ap (λ (rs : List Ref). map new (step_refs s) ++ rs) more
          ∙ sym (map_on new (step_refs s) (later_refs (chosen mark (j + 1) ss) last))

  -- A marked line from a place on refers to what it names.
  later_in : (j : ℕ) (ss : List Step) → Stand j ss → (k : ℕ) (u : Step) (q : Ref) → j ≤ k → slice_get all k ≡ Some u → mark k ≢ 0 → IsAmong q (step_refs u) → IsAmong q (later_refs (chosen mark j ss) last)
  later_in j [] stand k u q l at kept i =
      let e : j + (k - j) ≡ k = omega (arith, l) in
      let none : slice_get {X = Step} [] (k - j) ≡ Some u = sym (stand (k - j)) ∙ ap (slice_get all) e ∙ at in
      absurd cc
  later_in j (s ∷ ss) stand k u q l at kept i = by (mark j == 0) refl (cases_eq j k) (λ m. later_in (j + 1) ss (stand_next j s ss stand) k u q m at kept i)
    where
      by : (b : Bool) → (mark j == 0) ≡ b → (j ≡ k) ⊎ (j ≡ k → ⊥) → (j + 1 ≤ k → IsAmong q (later_refs (chosen mark (j + 1) ss) last)) → IsAmong q (later_refs (cond b (chosen mark (j + 1) ss) (s ∷ chosen mark (j + 1) ss)) last)
      by true is (inl e) more = absurd (kept (ap mark (sym e) ∙ eqb-true (mark j) 0 is))
      by false is (inl e) more =
          let same : u ≡ s = some_same u s (sym at ∙ ap (slice_get all) (sym e) ∙ stand_here j s ss stand) in
          among_front q (step_refs s) (later_refs (chosen mark (j + 1) ss) last) (subst (λ (x : Step). IsAmong q (step_refs x)) same i)
      by true is (inr ne) more = more (omega (arith, l, ne))
      by false is (inr ne) more = among_behind q (step_refs s) (later_refs (chosen mark (j + 1) ss) last) (more (omega (arith, l, ne)))

  later_last : (j : ℕ) (ss : List Step) (q : Ref) → IsAmong q (step_refs last) → IsAmong q (later_refs (chosen mark j ss) last)
  later_last j [] q i = i
  later_last j (s ∷ ss) q i = by (mark j == 0) (later_last (j + 1) ss q i)
    where
      by : (b : Bool) → IsAmong q (later_refs (chosen mark (j + 1) ss) last) → IsAmong q (later_refs (cond b (chosen mark (j + 1) ss) (s ∷ chosen mark (j + 1) ss)) last)
      by true more = more
      by false more = among_behind q (step_refs s) (later_refs (chosen mark (j + 1) ss) last) more

  -- What is referred to from a place on, a marked line there refers to, or the last.
  abbrev Later : ℕ → Ref → Type 0
  Later j q = ((k : ℕ) × ((u : Step) × ((j ≤ k) × (slice_get all k ≡ Some u) × (mark k ≢ 0) × IsAmong q (step_refs u)))) ⊎ IsAmong q (step_refs last)

  later_out : (j : ℕ) (ss : List Step) → Stand j ss → (q : Ref) → IsAmong q (later_refs (chosen mark j ss) last) → Later j q
  later_out j [] stand q i = inr i
  later_out j (s ∷ ss) stand q i = by (mark j == 0) refl (λ h. later_out (j + 1) ss (stand_next j s ss stand) q h) i
    where
      onward : Later (j + 1) q → Later j q
      onward (inl h) = inl (h.0, (h.1.0, ((let l : j + 1 ≤ h.0 = h.1.1.0 in omega (arith, l)), h.1.1.1, h.1.1.2, h.1.1.3)))
      onward (inr h) = inr h

      by : (b : Bool) → (mark j == 0) ≡ b → (IsAmong q (later_refs (chosen mark (j + 1) ss) last) → Later (j + 1) q) → IsAmong q (later_refs (cond b (chosen mark (j + 1) ss) (s ∷ chosen mark (j + 1) ss)) last) → Later j q
      by true is more h = onward (more h)
      by false is more h = elim (among_either q (step_refs s) (later_refs (chosen mark (j + 1) ss) last) h) [
        | inl k ↦ inl (j, (s, (omega arith, stand_here j s ss stand, eqb-false (mark j) 0 is, k)))
        | inr k ↦ onward (more k)
      ]

  -- ---- a marked line

  mark_from : (i : ℕ) → mark i ≢ 0 → (j : ℕ) × (mark i ≡ suc j)
  mark_from i kept = by (mark i) refl
    where
      by : (m : ℕ) → mark i ≡ m → (j : ℕ) × (mark i ≡ suc j)
      by zero e = absurd (kept e)
      by (suc j) e = (j, e)

  -- A marked line is named from the next place on.
  used_at : (j : ℕ) (s : Step) (ss : List Step) → Stand j (s ∷ ss) → mark j ≢ 0 → is_named (rank mark j) (later_refs (renewed new mark (j + 1) ss) (new_last new last)) ≡ true
  used_at j s ss stand kept =
      ap (is_named (rank mark j)) (later_new (j + 1) ss (stand_next j s ss stand))
      ∙ (let m = mark_from j kept in by m.0 (marked.from j m.0 m.1))
    where
      here : (q : Ref) → place_at log names q ≡ Some j → IsAmong q (later_refs (chosen mark (j + 1) ss) last) → is_named (rank mark j) (map new (later_refs (chosen mark (j + 1) ss) last)) ≡ true
      here q lands i = named_among (rank mark j) (new q) (map new (later_refs (chosen mark (j + 1) ss) last)) (ap (ref_to mark q) lands) (among_map new q (later_refs (chosen mark (j + 1) ss) last) i)

      behind : (k : ℕ) (q : Ref) → Placed log names k q → place_at log names q ≡ Some j → j + 1 ≤ k
      behind k q placed lands = elim (placed_cases k q placed) [
        | inl h ↦ absurd (no_line h.0 (sym (ap (place_at log names) h.1) ∙ lands))
        | inr h ↦ (let same = some_number h.0 j (sym h.2 ∙ lands) in let l = h.1 in omega (arith, l, same))
      ]
        where
          no_line : (i : ℕ) → let o : Option ℕ = None in let p : Option ℕ = Some j in o ≡ p → ⊥
          no_line i e = cc

          some_number : (a b : ℕ) → let x : Option ℕ = Some a in let y : Option ℕ = Some b in x ≡ y → a ≡ b
          some_number a b e = cc

      by : (k : ℕ) → ((u : Step) × (slice_get all k ≡ Some u) × (mark k ≢ 0) × ((q : Ref) × IsAmong q (step_refs u) × (place_at log names q ≡ Some j)))
          ⊎ ((k ≡ length all) × ((q : Ref) × IsAmong q (step_refs last) × (place_at log names q ≡ Some j))) → is_named (rank mark j) (map new (later_refs (chosen mark (j + 1) ss) last)) ≡ true
      by k (inl h) =
          let q = h.3.0 in
          here q h.3.2 (later_in (j + 1) ss (stand_next j s ss stand) k h.0 q (behind k q ((grounds k h.0 h.1).1 h.2 q h.3.1) h.3.2) h.1 h.2 h.3.1)
      by k (inr h) = here h.1.0 h.1.2 (later_last (j + 1) ss h.1.0 h.1.1)

  lines_used : (j : ℕ) (ss : List Step) → Stand j ss → AreUsed (rank mark j) (renewed new mark j ss) (new_last new last)
  lines_used j [] stand = tt
  lines_used j (s ∷ ss) stand = by (mark j == 0) refl (lines_used (j + 1) ss (stand_next j s ss stand))
    where
      by : (b : Bool) → (mark j == 0) ≡ b → AreUsed (rank mark (j + 1)) (renewed new mark (j + 1) ss) (new_last new last)
          → AreUsed (rank mark j) (cond b (renewed new mark (j + 1) ss) (new_line new (rank mark j) s ∷ renewed new mark (j + 1) ss)) (new_last new last)
      by true is more = subst (λ (n : ℕ). AreUsed n (renewed new mark (j + 1) ss) (new_last new last)) (rank_left mark j is) more
      by false is more = (used_at j s ss stand (eqb-false (mark j) 0 is), subst (λ (n : ℕ). AreUsed n (renewed new mark (j + 1) ss) (new_last new last)) (rank_kept mark j is) more)

  -- ---- its deletions

  -- The ranks of the places below n that bear this mark.
  abbrev marked_ranks : ℕ → ℕ → List ℕ
  marked_ranks m zero = []
  marked_ranks m (suc n) = marked_ranks m n ++ cond (mark n == m) (rank mark n ∷ []) []

  ranks_deleted : (m n : ℕ) → map (λ i. D (Made (own_name 0 i))) (marked_ranks m n) ≡ marked_deletions mark m n
  ranks_deleted m zero = refl
  ranks_deleted m (suc n) =
      map_on (λ i. D (Made (own_name 0 i))) (marked_ranks m n) (cond (mark n == m) (rank mark n ∷ []) [])
      ∙ ap (λ (xs : List Step). xs ++ map (λ i. D (Made (own_name 0 i))) (cond (mark n == m) (rank mark n ∷ []) [])) (ranks_deleted m n)
      ∙ ap (λ (xs : List Step). marked_deletions mark m n ++ xs) (by (mark n == m))
    where
      by : (b : Bool) → map (λ i. D (Made (own_name 0 i))) (cond b (rank mark n ∷ []) []) ≡ cond b (D (Made (own_name 0 (rank mark n))) ∷ []) []
      by true = refl
      by false = refl

  rank_in : (m n i : ℕ) → i < n → mark i ≡ m → IsAmong (rank mark i) (marked_ranks m n)
  rank_in m zero i l e = absurd (omega arith)
  rank_in m (suc n) i l e = by (cases_eq i n) (λ k. rank_in m n i k e)
    where
      by : (i ≡ n) ⊎ (i ≡ n → ⊥) → (i < n → IsAmong (rank mark i) (marked_ranks m n)) → IsAmong (rank mark i) (marked_ranks m (suc n))
      by (inr ne) more = among_front (rank mark i) (marked_ranks m n) (cond (mark n == m) (rank mark n ∷ []) []) (more (omega (arith, l, ne)))
      by (inl same) more =
          among_behind (rank mark i) (marked_ranks m n) (cond (mark n == m) (rank mark n ∷ []) [])
          (subst (λ (b : Bool). IsAmong (rank mark i) (cond b (rank mark n ∷ []) [])) (sym (eq-eqb (mark n) m (ap mark (sym same) ∙ e))) (inl (ap (rank mark) same)))

  rank_out : (m n x : ℕ) → IsAmong x (marked_ranks m n) → (i : ℕ) × (i < n) × (mark i ≡ m) × (x ≡ rank mark i)
  rank_out m zero x h = absurd h
  rank_out m (suc n) x h = elim (among_either x (marked_ranks m n) (cond (mark n == m) (rank mark n ∷ []) []) h) [
    | inl k ↦ (let r = rank_out m n x k in (r.0, (let l = r.1 in omega (arith, l)), r.2, r.3))
    | inr k ↦ by (mark n == m) refl k
  ]
    where
      by : (b : Bool) → (mark n == m) ≡ b → IsAmong x (cond b (rank mark n ∷ []) []) → (i : ℕ) × (i < suc n) × (mark i ≡ m) × (x ≡ rank mark i)
      by true is (inl e) = (n, omega arith, eqb-true (mark n) m is, e)
      by true is (inr k) = absurd k
      by false is k = absurd k

  ranks_rise : (m n : ℕ) → m ≢ 0 → AreRising 0 (marked_ranks m n)
  ranks_rise m zero some = tt
  ranks_rise m (suc n) some = by (mark n == m) (ranks_rise m n some)
    where
      by : (b : Bool) → AreRising 0 (marked_ranks m n) → AreRising 0 (marked_ranks m n ++ cond b (rank mark n ∷ []) [])
      by false more = subst (AreRising 0) (sym (append-nil (marked_ranks m n))) more
      by true more = rising_snoc 0 (marked_ranks m n) (rank mark n) more (λ x h. let r = rank_out m n x h in let l = rank_less mark r.0 n r.1 (λ e. some (sym r.2 ∙ e)) in let g = r.3 in omega (arith, l, g)) (omega arith)

  module _ (j : ℕ) (s : Step) (ss : List Step) (stand : Stand j (s ∷ ss)) (kept : mark j ≢ 0) where
    abbrev later : List Ref
    later = later_refs (chosen mark (j + 1) ss) last

    at : slice_get all j ≡ Some s
    at = stand_here j s ss stand

    inside : j < length all
    inside = slice_get_within all j s at

    -- What is named later, and comes to the rank of a marked place, is named behind this line.
    later_mark : (q : Ref) (i : ℕ) → mark i ≢ 0 → IsAmong q later → new q ≡ Made (own_name 0 (rank mark i)) → j + 1 < mark i
    later_mark q i marked_i among e = by (later_out (j + 1) ss (stand_next j s ss stand) q among)
      where
        by : Later (j + 1) q → j + 1 < mark i
        by (inl h) =
            let p = placed_new h.0 (rank mark i) q ((grounds h.0 h.1.0 h.1.1.1).1 h.1.1.2 q h.1.1.3) e in
            let l = marked.by_line p.0 h.0 h.1.0 q h.1.1.1 h.1.1.2 h.1.1.3 p.2 in
            let same = rank_one mark p.0 i (above p.0 h.0 l) marked_i p.3 in
            let low = h.1.1.0 in
            omega (arith, l, low, ap mark same)
        by (inr h) =
            let p = placed_new (length all) (rank mark i) q (last_placed q h) e in
            let l = marked.by_last p.0 q h p.2 in
            let same = rank_one mark p.0 i (above p.0 (length all) l) marked_i p.3 in
            omega (arith, l, inside, ap mark same)

    -- What is named here and by no later line bears this place's mark.
    last_mark : (i : ℕ) → j < mark i → is_named (rank mark i) (map new later) ≡ false → mark i ≡ j + 1
    last_mark i l none = let m = mark_from i (above i j l) in by m.0 m.1 (cases_eq m.0 j) (marked.from i m.0 m.1)
      where
        named : (q : Ref) → place_at log names q ≡ Some i → IsAmong q later → ⊥
        named q lands among = both_ways (is_named (rank mark i) (map new later)) none (named_among (rank mark i) (new q) (map new later) (ap (ref_to mark q) lands) (among_map new q later among))

        by : (k : ℕ) → mark i ≡ suc k → (k ≡ j) ⊎ (k ≡ j → ⊥) → ((u : Step) × (slice_get all k ≡ Some u) × (mark k ≢ 0) × ((q : Ref) × IsAmong q (step_refs u) × (place_at log names q ≡ Some i)))
            ⊎ ((k ≡ length all) × ((q : Ref) × IsAmong q (step_refs last) × (place_at log names q ≡ Some i))) → mark i ≡ j + 1
        by k is (inl same) h = omega (arith, is, same)
        by k is (inr ne) (inl h) = absurd (named h.3.0 h.3.2 (later_in (j + 1) ss (stand_next j s ss stand) k h.0 h.3.0 (omega (arith, l, is, ne)) h.1 h.2 h.3.1))
        by k is (inr ne) (inr h) = absurd (named h.1.0 h.1.2 (later_last (j + 1) ss h.1.0 h.1.1))

    named_here : (i : ℕ) → mark i ≡ j + 1 → is_named (rank mark i) (map new (step_refs s)) ≡ true
    named_here i is = by (marked.from i j (omega (arith, is)))
      where
        by : ((u : Step) × (slice_get all j ≡ Some u) × (mark j ≢ 0) × ((q : Ref) × IsAmong q (step_refs u) × (place_at log names q ≡ Some i)))
            ⊎ ((j ≡ length all) × ((q : Ref) × IsAmong q (step_refs last) × (place_at log names q ≡ Some i))) → is_named (rank mark i) (map new (step_refs s)) ≡ true
        by (inl h) =
            let same : h.0 ≡ s = some_same h.0 s (sym h.1 ∙ at) in
            let among = subst (λ (x : Step). IsAmong h.3.0 (step_refs x)) same h.3.1 in
            named_among (rank mark i) (new h.3.0) (map new (step_refs s)) (ap (ref_to mark h.3.0) h.3.2) (among_map new h.3.0 (step_refs s) among)
        by (inr h) = let e = h.0 in absurd (omega (arith, inside, e))

    are_last : AreLast (rank mark j) (map new (step_refs s)) (map new later) (marked_ranks (j + 1) j)
    are_last = record {
      rising = ranks_rise (j + 1) j (λ e. omega (arith, e));
      sound = λ x h. sound x (rank_out (j + 1) j x h);
      complete = λ x l named none. complete x named none (map_among new (Made (own_name 0 x)) (step_refs s) (own_named x (map new (step_refs s)) named));
    }
      where
        not_later : (i : ℕ) → mark i ≡ j + 1 → is_named (rank mark i) (map new later) ≡ true → ⊥
        not_later i is named =
            let m = map_among new (Made (own_name 0 (rank mark i))) later (own_named (rank mark i) (map new later) named) in
            let l = later_mark m.0 i (λ e. omega (arith, is, e)) m.1 (sym m.2) in
            omega (arith, l, is)

        sound : (x : ℕ) → (i : ℕ) × (i < j) × (mark i ≡ j + 1) × (x ≡ rank mark i) → (x < rank mark j) × (is_named x (map new (step_refs s)) ≡ true) × (is_named x (map new later) ≡ false)
        sound x r =
            let l = rank_less mark r.0 j r.1 (λ e. let m = r.2 in omega (arith, m, e)) in (
              (let e = r.3 in omega (arith, l, e)),
              ap (λ (y : ℕ). is_named y (map new (step_refs s))) r.3 ∙ named_here r.0 r.2,
              ap (λ (y : ℕ). is_named y (map new later)) r.3 ∙ false_from_ne_true (is_named (rank mark r.0) (map new later)) (not_later r.0 r.2),
            )

        complete : (x : ℕ) → is_named x (map new (step_refs s)) ≡ true → is_named x (map new later) ≡ false → (q : Ref) × IsAmong q (step_refs s) × (Made (own_name 0 x) ≡ new q) → IsAmong x (marked_ranks (j + 1) j)
        complete x named none h =
            let p = placed_new j x h.0 ((grounds j s at).1 kept h.0 h.1) (sym h.2) in
            let l = marked.by_line p.0 j s h.0 at kept h.1 p.2 in
            let is = last_mark p.0 l (ap (λ (y : ℕ). is_named y (map new later)) p.3 ∙ none) in
            subst (λ (y : ℕ). IsAmong y (marked_ranks (j + 1) j)) p.3 (rank_in (j + 1) j p.0 p.1 is)

    -- The deletions behind a marked line are those of what it names last.
    deletions_are : marked_deletions mark (j + 1) j ≡ deletions (rank mark j) (step_refs (new_line new (rank mark j) s)) (later_refs (renewed new mark (j + 1) ss) (new_last new last))
    deletions_are =
        sym (ranks_deleted (j + 1) j)
        ∙ deleted_places (rank mark j) (map new (step_refs s)) (map new later) (marked_ranks (j + 1) j) are_last
        ∙ ap (λ (rs : List Ref). deletions (rank mark j) rs (map new later)) (sym (line_refs_new new (rank mark j) s (grounds j s at).0))
        ∙ ap (deletions (rank mark j) (step_refs (new_line new (rank mark j) s))) (sym (later_new (j + 1) ss (stand_next j s ss stand)))

  log_is : (j : ℕ) (ss : List Step) → Stand j ss → marked_log new mark j ss ≡ with_deletions (rank mark j) (renewed new mark j ss) (new_last new last)
  log_is j [] stand = refl
  log_is j (s ∷ ss) stand = by (mark j == 0) refl (log_is (j + 1) ss (stand_next j s ss stand))
    where
      by : (b : Bool) → (mark j == 0) ≡ b → marked_log new mark (j + 1) ss ≡ with_deletions (rank mark (j + 1)) (renewed new mark (j + 1) ss) (new_last new last)
          → cond b (marked_log new mark (j + 1) ss) (new_line new (rank mark j) s ∷ (marked_deletions mark (j + 1) j ++ marked_log new mark (j + 1) ss))
          ≡ with_deletions (rank mark j) (cond b (renewed new mark (j + 1) ss) (new_line new (rank mark j) s ∷ renewed new mark (j + 1) ss)) (new_last new last)
      by true is more = more ∙ ap (λ (n : ℕ). with_deletions n (renewed new mark (j + 1) ss) (new_last new last)) (rank_left mark j is)
      by false is more =
          ap (λ (xs : List Step). new_line new (rank mark j) s ∷ (xs ++ marked_log new mark (j + 1) ss)) (deletions_are j s ss stand (eqb-false (mark j) 0 is))
          ∙ ap (λ (xs : List Step). new_line new (rank mark j) s ∷ (deletions (rank mark j) (step_refs (new_line new (rank mark j) s)) (later_refs (renewed new mark (j + 1) ss) (new_last new last)) ++ xs))
          (more ∙ ap (λ (n : ℕ). with_deletions n (renewed new mark (j + 1) ss) (new_last new last)) (rank_kept mark j is))

  pub trims_marked : (profile : Profile) (model : List Form) → HintsStand profile (keeps names mark) model empty_table log
      → (t : Trims profile model (map (told_in profile) log) last (marked_log new mark 0 all) (new_last new last)) × (t.hinted ≡ log)
  trims_marked profile model hints = (
    record {
      keep = keeps names mark;
      hinted = log;
      told = refl;
      hints = hints;
      lines = renewed new mark 0 all;
      renamed = subst (λ (ss : List Step). LinesRenamed to 0 ss (renewed new mark 0 all)) (sym kept_are) (lines_renamed 0 all start);
      ends = last_renamed to new last is_last last_fits;
      used = lines_used 0 all start;
      deleted = log_is 0 all start;
    },
    refl,
  )
    where
      start : Stand 0 all
      start k = let e : 0 + k ≡ k = omega arith in ap (slice_get all) e

pub marked_trims : MarkLaw
marked_trims profile model hinted z last mark range steps hints is_last found marked =
    let names = made_names (made_lines hinted) in
    let distinct = names_distinct profile model (λ n. true) hinted empty_table z steps refl range in
    let walked = all_placed profile model hinted z (keeps names mark) steps hints in
    trims_marked hinted last mark marked is_last distinct
    (λ j s at. subst (λ (n : ℕ). IsMaking s × (mark n ≢ 0 → (q : Ref) → IsAmong q (step_refs s) → Placed hinted names n q)) (let e : 0 + j ≡ j = omega arith in e) (ground mark names distinct hinted hinted 0 [] refl refl walked.all j s at))
    (λ q i. subst (λ (n : ℕ). Placed hinted names n q) (let e : 0 + length (made_lines hinted) ≡ length (made_lines hinted) = omega arith in e) (let f = found q i in walked.ends q f.0 f.1))
    profile model hints
