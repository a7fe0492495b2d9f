-- What renamed lines refer to comes from what the lines referred to.
use Rattle.std.proofs.Common.{◌⊎◌, inl, inr, ◌≡◌, ℕ, ◌+◌, ◌==◌, true, List, [], ◌∷◌, ◌++◌, refl, sym, ap, subst}
use Rattle.std.proofs.lemmas.Bool.{and_parts, or_cases, eqb-true}
use Rattle.log_theory.specs.declared.step.Name.{Name}
use Rattle.log_theory.specs.declared.step.Op.{Op}
use Rattle.log_theory.specs.declared.step.Op.TheVariants.{Push, Axiom, Add, Times, Divide, Saturate}
use Rattle.log_theory.specs.declared.step.Ref.{Ref}
use Rattle.log_theory.specs.declared.step.Ref.TheVariants.{Line, Made, Shared}
use Rattle.log_theory.specs.declared.step.Step.{Step}
use Rattle.log_theory.specs.declared.step.Step.TheVariants.{P, U, E, Y, Q}
use Rattle.proof_theory.specs.Propagation.{IsAmong}
use Rattle.journal_theory.specs.Referring.{op_refs, step_refs}
use Rattle.journal_theory.specs.Journals.{own_name}
use Rattle.trim_theory.specs.Renaming.{Renaming, RefsRenamed, OpRenamed, OpsRenamed, LineRenamed, LinesRenamed, EndRenamed}
use Rattle.trim_theory.specs.Running.{later_refs, is_own, is_named}
use Rattle.trim_theory.proofs.Stepped.{name_same}

-- Owner 0's line of a place is among references that name it.
pub own_named : (i : ℕ) (rs : List Ref) → is_named i rs ≡ true → IsAmong (Made (own_name 0 i)) rs
own_named i [] e = absurd cc
own_named i (r ∷ rs) e = by (or_cases (is_own i r) (is_named i rs) e) (own_named i rs)
  where
    own_is : (q : Ref) → is_own i q ≡ true → Made (own_name 0 i) ≡ q
    own_is (Line k) h = absurd cc
    own_is (Shared k) h = absurd cc
    own_is (Made name) h =
        let p = and_parts (name.owner == 0) (name.number == i + 1) h in
        ap (λ (n : Name). Made n) (name_same (own_name 0 i) name (sym (eqb-true name.owner 0 p.0)) (sym (eqb-true name.number (i + 1) p.1)))

    by : (is_own i r ≡ true) ⊎ (is_named i rs ≡ true) → (is_named i rs ≡ true → IsAmong (Made (own_name 0 i)) rs) → IsAmong (Made (own_name 0 i)) (r ∷ rs)
    by (inl h) ih = inl (own_is r h)
    by (inr h) ih = inr (ih h)

module _ (to : Renaming) where
  refs_on : (qs rs xs ys : List Ref) → RefsRenamed to qs rs → RefsRenamed to xs ys → RefsRenamed to (qs ++ xs) (rs ++ ys)
  refs_on [] [] xs ys h k = k
  refs_on (q ∷ qs) (r ∷ rs) xs ys h k = (h.0, refs_on qs rs xs ys h.1 k)
  refs_on [] (r ∷ rs) xs ys h k = absurd h
  refs_on (q ∷ qs) [] xs ys h k = absurd h

  pub op_pushes : (q : Ref) (p : Op) → OpRenamed to (Push q) p → (r : Ref) × (p ≡ Push r) × to q r
  op_pushes q (Push r) h = (r, refl, h)
  op_pushes q (Axiom l) h = absurd h
  op_pushes q Add h = absurd h
  op_pushes q (Times n) h = absurd h
  op_pushes q (Divide n) h = absurd h
  op_pushes q Saturate h = absurd h

  ops_refs : (os ps : List Op) → OpsRenamed to os ps → RefsRenamed to (op_refs os) (op_refs ps)
  ops_refs [] [] h = tt
  ops_refs [] (p ∷ ps) h = absurd h
  ops_refs (o ∷ os) [] h = absurd h
  ops_refs (Push q ∷ os) (p ∷ ps) h = let k = op_pushes q p h.0 in subst (λ (x : Op). RefsRenamed to (q ∷ op_refs os) (op_refs (x ∷ ps))) (sym k.1) (k.2, ops_refs os ps h.1)
  ops_refs (Axiom l ∷ os) (p ∷ ps) h = subst (λ (x : Op). RefsRenamed to (op_refs os) (op_refs (x ∷ ps))) (sym h.0) (ops_refs os ps h.1)
  ops_refs (Add ∷ os) (p ∷ ps) h = subst (λ (x : Op). RefsRenamed to (op_refs os) (op_refs (x ∷ ps))) (sym h.0) (ops_refs os ps h.1)
  ops_refs (Times n ∷ os) (p ∷ ps) h = subst (λ (x : Op). RefsRenamed to (op_refs os) (op_refs (x ∷ ps))) (sym h.0) (ops_refs os ps h.1)
  ops_refs (Divide n ∷ os) (p ∷ ps) h = subst (λ (x : Op). RefsRenamed to (op_refs os) (op_refs (x ∷ ps))) (sym h.0) (ops_refs os ps h.1)
  ops_refs (Saturate ∷ os) (p ∷ ps) h = subst (λ (x : Op). RefsRenamed to (op_refs os) (op_refs (x ∷ ps))) (sym h.0) (ops_refs os ps h.1)

  line_refs : (place : ℕ) (s u : Step) → LineRenamed to place s u → RefsRenamed to (step_refs s) (step_refs u)
  line_refs place (P name ops) (P new os) h = ops_refs ops os h.1
  line_refs place (U name lits refs) (U new ls rs) h = h.2
  line_refs place s u h = absurd h

  end_refs : (last end : Step) → EndRenamed to last end → RefsRenamed to (step_refs last) (step_refs end)
  end_refs (E q) (E r) h = (h, tt)
  end_refs (Y ones) u h = subst (λ (x : Step). RefsRenamed to [] (step_refs x)) (sym h) tt
  end_refs Q u h = subst (λ (x : Step). RefsRenamed to [] (step_refs x)) (sym h) tt
  end_refs s u h = absurd h

  pub lines_refs : (place : ℕ) (ss us : List Step) (last end : Step) → LinesRenamed to place ss us → EndRenamed to last end → RefsRenamed to (later_refs ss last) (later_refs us end)
  lines_refs place [] [] last end h k = end_refs last end k
  lines_refs place (s ∷ ss) (u ∷ us) last end h k = refs_on (step_refs s) (step_refs u) (later_refs ss last) (later_refs us end) (line_refs place s u h.0) (lines_refs (place + 1) ss us last end h.1 k)
  lines_refs place [] (u ∷ us) last end h k = absurd h
  lines_refs place (s ∷ ss) [] last end h k = absurd h

  -- Each new reference comes from an old one, and each old one became one.
  pub renamed_from : (qs rs : List Ref) (r : Ref) → RefsRenamed to qs rs → IsAmong r rs → (q : Ref) × IsAmong q qs × to q r
  renamed_from [] [] r h i = absurd i
  renamed_from (q ∷ qs) (p ∷ rs) r h (inl e) = (q, inl refl, subst (to q) (sym e) h.0)
  renamed_from (q ∷ qs) (p ∷ rs) r h (inr i) = let k = renamed_from qs rs r h.1 i in (k.0, inr k.1, k.2)
  renamed_from [] (p ∷ rs) r h i = absurd h
  renamed_from (q ∷ qs) [] r h i = absurd h

  pub renamed_to : (qs rs : List Ref) (q : Ref) → RefsRenamed to qs rs → IsAmong q qs → (r : Ref) × to q r
  renamed_to [] [] q h i = absurd i
  renamed_to (p ∷ qs) (r ∷ rs) q h (inl e) = (r, subst (λ (x : Ref). to x r) (sym e) h.0)
  renamed_to (p ∷ qs) (r ∷ rs) q h (inr i) = renamed_to qs rs q h.1 i
  renamed_to [] (r ∷ rs) q h i = absurd h
  renamed_to (p ∷ qs) [] q h i = absurd h
