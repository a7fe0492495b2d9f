-- What a command that may stop leaves of the files, and of its output.

use Rattle.std.specs.Prelude.{◌≡◌, ℕ, ◌⊎◌, Bool, List, Option, Result, IfErr, IsErrOf}
use Rattle.outer_io.specs.Faults.{Use}
use Rattle.outer_io.specs.Sinks.{Spot}
use Rattle.subgraph_cli.specs.Disk.{Disk, disk, KeepsFiles, KeepsAllBut}
use Rattle.subgraph_cli.specs.Streams.{Stream, stream, IsSameSink}
use Rattle.subgraph_cli.specs.Stops.{HasCause}
use Rattle.subgraph_cli.specs.declared.stop.Stop.{Stop}
use Rattle.subgraph_cli.specs.declared.stop.Stop.TheVariants.{FilesFault, OutputFault}

-- The files are as they were. A call on them has failed only where the command stopped for that, and then this is so of
-- the file of the last one.
pub record OnlyReads {S T : Type 0} (tells : S → Bool) (content : S → List ℕ → Option (List ℕ))
    (faults : S → ℕ) (fault_at : S → Option Use) (blame : Disk → Type 0) (ended : Result T Stop)
    (old new : S) : Type 0 where
  pub kept : KeepsFiles tells content faults old new
  pub cause : IfErr ended
      (λ stop. HasCause stop blame (disk tells content faults fault_at old new))
  pub quiet : IsErrOf ended FilesFault ⊎ (faults new ≡ faults old)

-- The same, but for the files that are written.
pub record OnlyWrites {S T : Type 0} (tells : S → Bool) (content : S → List ℕ → Option (List ℕ))
    (faults : S → ℕ) (fault_at : S → Option Use) (written : List ℕ → Type 0)
    (blame : Disk → Type 0) (ended : Result T Stop) (old new : S) : Type 0 where
  pub kept : KeepsAllBut tells content faults written old new
  pub cause : IfErr ended
      (λ stop. HasCause stop blame (disk tells content faults fault_at old new))
  pub quiet : IsErrOf ended FilesFault ⊎ (faults new ≡ faults old)

-- The output is the sink that it was, and what stands beside it is as it was. A call on it has failed only where the
-- command stopped for that. Where it stopped, the output is as that stop leaves it.
pub record OnlyPrints {S T : Type 0} (spot : S → Spot) (contents : S → Option (List ℕ))
    (rest : S → List ℕ → Option (List ℕ)) (faults : S → ℕ) (leaves : Stop → Stream → Type 0)
    (ended : Result T Stop) (old new : S) : Type 0 where
  pub sink : IsSameSink spot rest faults old new
  pub spares : IfErr ended (λ stop. leaves stop (stream spot contents faults old new))
  pub quiet : IsErrOf ended OutputFault ⊎ (faults new ≡ faults old)
