-- What a check says of a proof that `solve` left.

use Rattle.std.specs.Prelude.{ℕ, ◌≤◌, ◌^◌, List, length, Option}
use Rattle.graph_theory.specs.Graph.{size}
use Rattle.graph_theory.specs.Embedding.{Problem}
use Rattle.pb_encoding.specs.Writing.{encoding_text}
use Rattle.merged_log.specs.Profiles.{in_profile}
use Rattle.command_line.specs.declared.commands.ProveWords.{ProveWords}
use Rattle.subgraph_cli.specs.Outcomes.{Outcome}
use Rattle.subgraph_cli.specs.Proving.{HoldProof}
use Rattle.subgraph_cli.specs.Checking.{CheckStatus, verdict_of_claim}
use Rattle.subgraph_cli.specs.Solving.{IsOrStops}
use Rattle.subgraph_cli.specs.declared.check.Claim.{Claim}

-- A check of two files that hold a proof, as `solve` leaves them, accepts it, unless one of them is over the limit of 2^40 bytes, a call failed or memory was refused.
abbrev pub ProofsAreAccepted : Type 0
ProofsAreAccepted = (p : ProveWords) (held : List ℕ → Option (List ℕ)) (q : Problem)
    (log : List ℕ) (claim : Claim) (o : Outcome) → size q.pattern ≤ 1024 → size q.target ≤ 8192
    → length q.less ≤ 64
    → HoldProof p held q log (verdict_of_claim claim)
    → length (encoding_text q) ≤ 2 ^ 40 → length (in_profile p.profile log) ≤ 2 ^ 40
    → CheckStatus o (held p.encoding) (held p.log) → IsOrStops 0 o.status
