-- What shows that no embedding exists, and when it does.

use Rattle.std.specs.Prelude.{◌≡◌, ℕ, ◌≤◌, Bool, true, false, length}
use Rattle.graph_theory.specs.Embedding.{Problem}
use Rattle.encoding_theory.specs.Variables.{variables}
use Rattle.encoding_theory.specs.Encoding.{encoding}
use Rattle.merged_log.specs.Steps.{StandAtOwners, AllRise, MayBeMerged}
use Rattle.proof_collection.specs.declared.proof.Logged.{Logged}
use Rattle.proof_collection.specs.declared.proof.Proof.{Proof}
use Rattle.proof_collection.specs.declared.proof.Proof.TheVariants.{Unlogged, Logged as WithLog}

-- A log may be written of the journals and rows, and a checker of logs accepts it over the encoding of the problem as unsatisfiable.
pub record IsProof (q : Problem) (l : Logged) : Type 0 where
  pub few : length l.journals.items ≤ 65
  pub owners : StandAtOwners l.journals.items
  pub notes : AllRise l.journals.items
  pub rows_fit : length l.rows.items ≤ 4194304
  pub merged : MayBeMerged (variables q) (encoding q) l.journals.items l.rows.items l.finisher

-- Where a log was asked for there is one, and it is a proof; where none was, there is none.
abbrev pub IsProven : Bool → Problem → Proof → Type 0
IsProven false q Unlogged = Unit {0}
IsProven false q (WithLog l) = ⊥
IsProven true q Unlogged = ⊥
IsProven true q (WithLog l) = IsProof q l

-- The log, where there is one, is that of a refutation by this owner.
abbrev pub IsFinishedBy : ℕ → Proof → Type 0
IsFinishedBy finisher Unlogged = Unit {0}
IsFinishedBy finisher (WithLog l) = l.finisher ≡ finisher
