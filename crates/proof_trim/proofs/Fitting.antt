-- The numbers of renamed lines are in their ranges.
use Rattle.std.proofs.Common.{◌≡◌, ℕ, zero, suc, ◌+◌, ◌==◌, ◌<◌, ◌≤◌, ◌^◌, false, true, Bool, cond, List, [], ◌∷◌, length, map, Option, Some, None, refl, arith}
use Rattle.log_theory.specs.declared.step.Op.{Op}
use Rattle.log_theory.specs.declared.step.Op.TheVariants.{Push, Axiom, Add, Times, Divide, Saturate}
use Rattle.log_theory.specs.declared.step.Ref.{Ref}
use Rattle.log_theory.specs.declared.step.Ref.TheVariants.{Made}
use Rattle.log_theory.specs.declared.step.Step.{Step}
use Rattle.log_theory.specs.declared.step.Step.TheVariants.{Head, Model, P, U, N, D, E, Y, Q}
use Rattle.log_theory.specs.LogText.{IsName, IsRef, AreRefs, AreOps, IsStep}
use Rattle.log_theory.specs.Profiles.{plain}
use Rattle.journal_theory.specs.Journals.{own_name}
use Rattle.trim_theory.specs.Marking.{rank, ref_to, new_op, new_line}
use Rattle.proof_trim.specs.declared.index.Index.{Index}
use Rattle.proof_trim.specs.Places.{place_in}
use Rattle.proof_trim.specs.Ranks.{mark_at, renamed}

rank_low : (mark : ℕ → ℕ) (i : ℕ) → rank mark i ≤ i
rank_low mark zero = omega arith
rank_low mark (suc i) = by (mark i == 0) (rank_low mark i)
  where
    by : (b : Bool) → rank mark i ≤ i → rank mark i + cond b 0 1 ≤ suc i
    by true l = omega (arith, l)
    by false l = omega (arith, l)

-- The new name of a place is in its range.
pub name_fits : (mark : ℕ → ℕ) (i n : ℕ) → i < n → n < 2 ^ 63 → IsName (own_name 0 (rank mark i))
name_fits mark i n within few = let l = rank_low mark i in record { owner_fits = omega arith; from_one = omega arith; number_fits = omega (arith, l, within, few) }

-- So is what a reference becomes.
pub ref_fits : (index : Index) (marks : List ℕ) → length marks < 2 ^ 63 → ((q : Ref) (i : ℕ) → place_in index q ≡ Some i → i < length marks) → (q : Ref) → IsRef q → IsRef (renamed index marks q)
ref_fits index marks few within q fits = by (place_in index q) refl
  where
    by : (o : Option ℕ) → place_in index q ≡ o → IsRef (ref_to (mark_at marks) q o)
    by None e = fits
    by (Some i) e = name_fits (mark_at marks) i (length marks) (within q i e) few

module _ (new : Ref → Ref) (fits : (q : Ref) → IsRef q → IsRef (new q)) where
  refs_fit : (qs : List Ref) → AreRefs qs → AreRefs (map new qs)
  refs_fit [] h = tt
  refs_fit (q ∷ qs) h = (fits q h.0, refs_fit qs h.1)

  ops_fit : (os : List Op) → AreOps os → AreOps (map (new_op new) os)
  ops_fit [] h = tt
  ops_fit (Push q ∷ os) h = (fits q h.0, ops_fit os h.1)
  ops_fit (Axiom l ∷ os) h = (h.0, ops_fit os h.1)
  ops_fit (Add ∷ os) h = (h.0, ops_fit os h.1)
  ops_fit (Times n ∷ os) h = (h.0, ops_fit os h.1)
  ops_fit (Divide n ∷ os) h = (h.0, ops_fit os h.1)
  ops_fit (Saturate ∷ os) h = (h.0, ops_fit os h.1)

  pub line_fits : (place : ℕ) (s : Step) → IsName (own_name 0 place) → IsStep s → IsStep (new_line new place s)
  line_fits place (P name ops) n h = (n, ops_fit ops h.1)
  line_fits place (U name lits refs) n h = (n, h.1, refs_fit refs h.2)
  line_fits place Head n h = h
  line_fits place (Model m) n h = h
  line_fits place (N row name) n h = h
  line_fits place (D at) n h = h
  line_fits place (E at) n h = h
  line_fits place (Y ones) n h = h
  line_fits place Q n h = h

-- A line without its hints is in its ranges.
pub plain_fits : (s : Step) → IsStep s → IsStep (plain s)
plain_fits Head h = h
plain_fits (Model m) h = h
plain_fits (P name ops) h = h
plain_fits (U name lits refs) h = (h.0, h.1, tt)
plain_fits (N row name) h = h
plain_fits (D at) h = h
plain_fits (E at) h = h
plain_fits (Y ones) h = h
plain_fits Q h = h

-- The deletion of a place is.
pub deletion_fits : (mark : ℕ → ℕ) (i n : ℕ) → i < n → n < 2 ^ 63 → IsStep (D (Made (own_name 0 (rank mark i))))
deletion_fits mark i n within few = (name_fits mark i n within few, refl)
