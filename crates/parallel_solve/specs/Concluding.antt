-- What the outcomes of all workers come to, and by whom.

use Rattle.std.specs.Prelude.{◌≡◌, ◌⊎◌, ℕ, ◌-◌, ◌≤◌, false, List, length, take, All, Option, Some, None, slice_get}
use Rattle.std.specs.List.{Any}
use Rattle.restart_search.specs.declared.outcome.Outcome.{Outcome}
use Rattle.restart_search.specs.declared.outcome.Outcome.TheVariants as outcome
use Rattle.proof_collection.specs.Proofs.{IsFinishedBy}
use Rattle.parallel_solve.specs.declared.answers.Solved.{Solved}
use Rattle.parallel_solve.specs.declared.answers.Solved.TheVariants.{Yes, NoEmbedding, Unknown, NoMemory}
use Rattle.parallel_solve.specs.declared.tally.Tally.{Tally}

-- The outcome is an embedding.
abbrev pub IsFound : Outcome → Type 0
IsFound (outcome.Found m) = Unit {0}
IsFound outcome.Refuted = ⊥
IsFound outcome.Spent = ⊥
IsFound (outcome.Stopped n) = ⊥
IsFound outcome.Interrupted = ⊥
IsFound outcome.NoMemory = ⊥

-- It is a refutation.
abbrev pub IsRefuted : Outcome → Type 0
IsRefuted (outcome.Found m) = ⊥
IsRefuted outcome.Refuted = Unit {0}
IsRefuted outcome.Spent = ⊥
IsRefuted (outcome.Stopped n) = ⊥
IsRefuted outcome.Interrupted = ⊥
IsRefuted outcome.NoMemory = ⊥

-- It is that memory was refused.
abbrev pub IsRefusedMemory : Outcome → Type 0
IsRefusedMemory (outcome.Found m) = ⊥
IsRefusedMemory outcome.Refuted = ⊥
IsRefusedMemory outcome.Spent = ⊥
IsRefusedMemory (outcome.Stopped n) = ⊥
IsRefusedMemory outcome.Interrupted = ⊥
IsRefusedMemory outcome.NoMemory = Unit {0}

-- It is not that the budget was spent.
abbrev pub IsUnspent : Outcome → Type 0
IsUnspent (outcome.Found m) = Unit {0}
IsUnspent outcome.Refuted = Unit {0}
IsUnspent outcome.Spent = ⊥
IsUnspent (outcome.Stopped n) = Unit {0}
IsUnspent outcome.Interrupted = Unit {0}
IsUnspent outcome.NoMemory = Unit {0}

module _ {X : Type 0} (outcome_of : X → Outcome) where
  -- Not one of these found an embedding.
  abbrev pub NoneFound : List X → Type 0
  NoneFound xs = All (λ x. IsFound (outcome_of x) → ⊥) xs

  -- Not one of these refuted.
  abbrev pub NoneRefuted : List X → Type 0
  NoneRefuted xs = All (λ x. IsRefuted (outcome_of x) → ⊥) xs

  -- The worker of this number refuted, and none before it.
  pub record IsFirst (xs : List X) (number : ℕ) : Type 0 where
    pub some : 1 ≤ number
    pub there : number ≤ length xs
    pub refuted : (x : X) → slice_get xs (number - 1) ≡ Some x → IsRefuted (outcome_of x)
    pub first : NoneRefuted (take (number - 1) xs)

  -- The number is that of the first that refuted; without one none did.
  abbrev pub IsFirstOrNone : List X → Option ℕ → Type 0
  IsFirstOrNone xs None = NoneRefuted xs
  IsFirstOrNone xs (Some number) = IsFirst xs number

  -- Where the tally has no embedding none was found; it has the first that refuted; where not all were spent, one was not.
  pub record HasHeard (xs : List X) (t : Tally) : Type 0 where
    pub found : t.map ≡ None → NoneFound xs
    pub refuter : IsFirstOrNone xs t.refuted
    pub unspent : t.spent ≡ false → Any (λ x. IsUnspent (outcome_of x)) xs

  -- A refutation comes where no embedding was found, and its log is finished by the first that refuted.
  -- That memory was refused is told where no embedding was found, and one worker refuted, whose proof was refused it, or none
  -- refuted and one was refused it.
  abbrev pub IsConclusion : List X → Solved → Type 0
  IsConclusion xs (Yes m) = Unit {0}
  IsConclusion xs (NoEmbedding proof) = NoneFound xs × ((number : ℕ) × IsFirst xs number
      × IsFinishedBy number proof)
  IsConclusion xs (Unknown accounts) = NoneFound xs × NoneRefuted xs
  IsConclusion xs NoMemory = NoneFound xs
      × (Any (λ x. IsRefuted (outcome_of x)) xs ⊎ (NoneRefuted xs
      × Any (λ x. IsRefusedMemory (outcome_of x)) xs))

-- What the answer takes from a tally.
abbrev pub IsToldBy : Tally → Solved → Type 0
IsToldBy t (Yes m) = Unit {0}
IsToldBy t (NoEmbedding proof) = (t.map ≡ None) × ((number : ℕ) × (t.refuted ≡ Some number)
    × IsFinishedBy number proof)
IsToldBy t (Unknown accounts) = (t.map ≡ None) × (t.refuted ≡ None)
IsToldBy t NoMemory = (t.map ≡ None) × (((number : ℕ)
    × (t.refuted ≡ Some number)) ⊎ ((t.refuted ≡ None) × (t.spent ≡ false)))
