-- What an `encode` answers.

use Rattle.std.specs.Prelude.{◌≡◌, ℕ, ◌⊎◌, List, Option, Result, Ok, Err}
use Rattle.graph_theory.specs.Embedding.{Problem}
use Rattle.pb_encoding.specs.Writing.{encoding_text}
use Rattle.command_line.specs.declared.commands.EncodeWords.{EncodeWords}
use Rattle.subgraph_cli.specs.Lines.{refusal_text, stop_status}
use Rattle.subgraph_cli.specs.Streams.{Stream, IsAsBefore, Got, GotFront, Tells}
use Rattle.subgraph_cli.specs.Outcomes.{Outcome}
use Rattle.subgraph_cli.specs.Solving.{IsOrStops}
use Rattle.subgraph_cli.specs.Questions.{Asks, IsFirstRefused}
use Rattle.subgraph_cli.specs.declared.stop.Role.{Role}
use Rattle.subgraph_cli.specs.declared.stop.TextFault.{TextFault}
use Rattle.subgraph_cli.specs.declared.stop.Stop.{Stop}
use Rattle.subgraph_cli.specs.declared.stop.Stop.TheVariants.{Refused, FilesFault, OutputFault, NoMemory}

-- The files ask a problem, and the text of its encoding was written.
pub record IsEncoded (w : EncodeWords) (pattern target : Option (List ℕ))
    (out : Stream) : Type 0 where
  pub problem : Problem
  pub asks : Asks pattern target w.ask problem
  pub written : Got out (encoding_text problem)

-- The files ask a problem, and the output holds a front part of the text of its encoding.
pub record StopsInEncoding (w : EncodeWords) (pattern target : Option (List ℕ))
    (out : Stream) : Type 0 where
  pub problem : Problem
  pub asks : Asks pattern target w.ask problem
  pub front : GotFront out (encoding_text problem)

-- The text of a problem's encoding was written, or the output holds what came before a fault or want of memory.
abbrev pub WritingSays : Result Unit Stop → Problem → Stream → Type 0
WritingSays (Ok done) q out = Got out (encoding_text q)
WritingSays (Err OutputFault) q out = GotFront out (encoding_text q)
WritingSays (Err NoMemory) q out = IsAsBefore out ⊎ GotFront out (encoding_text q)
WritingSays (Err FilesFault) q out = ⊥
WritingSays (Err (Refused role fault)) q out = ⊥

-- What an encode says: that the encoding of the problem that the files ask was written, or why it stopped.
abbrev pub EncodeSays : Result Unit Stop → EncodeWords → Option (List ℕ) → Option (List ℕ) → Stream
    → Type 0
EncodeSays (Ok done) w pattern target out = IsEncoded w pattern target out
EncodeSays (Err (Refused role fault)) w pattern target out =
    IsFirstRefused pattern target w.ask role fault
EncodeSays (Err OutputFault) w pattern target out = StopsInEncoding w pattern target out
EncodeSays (Err NoMemory) w pattern target out =
    IsAsBefore out ⊎ StopsInEncoding w pattern target out
EncodeSays (Err FilesFault) w pattern target out = Unit {0}

-- The status of an answer.
abbrev pub encode_status : Result Unit Stop → ℕ
encode_status (Ok done) = 0
encode_status (Err stop) = stop_status stop

-- What the files lead to: the encoding where they ask a problem, and a refusal where one of them is not good.
pub record EncodeLeads (status : ℕ) (w : EncodeWords)
    (pattern target : Option (List ℕ)) : Type 0 where
  pub encoded : (q : Problem) → Asks pattern target w.ask q → IsOrStops 0 status
  pub refused : (role : Role) (fault : TextFault)
      → IsFirstRefused pattern target w.ask role fault → IsOrStops 4 status

-- What the status of an encode says, where the files tell their contents.
pub record EncodeStatus (o : Outcome) (w : EncodeWords)
    (pattern target : Option (List ℕ)) : Type 0 where
  pub encoded : o.status ≡ 0 → IsEncoded w pattern target o.out
  pub refused : o.status ≡ 4 → (role : Role) × (fault : TextFault)
      × IsFirstRefused pattern target w.ask role fault × Tells o.err (refusal_text role fault)
  pub fault : o.status ≡ 5 → IsAsBefore o.out ⊎ StopsInEncoding w pattern target o.out
  pub no_memory : o.status ≡ 6 → IsAsBefore o.out ⊎ StopsInEncoding w pattern target o.out
  pub leads : EncodeLeads o.status w pattern target
