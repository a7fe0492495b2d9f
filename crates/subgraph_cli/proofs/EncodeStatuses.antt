-- What the status of an encode says, by the cases of its end.

use Rattle.std.specs.Prelude.{◌≡◌, ℕ, ◌⊎◌, List, Option, Result, Ok, Err, IfErr, refl}
use Rattle.std.proofs.Common.{inl, inr, arith}
use Rattle.graph_theory.specs.Embedding.{Problem}
use Rattle.graph_theory.specs.LadFault.{TextLaws}
use Rattle.search_theory.specs.Account.{Account}
use Rattle.command_line.specs.declared.commands.EncodeWords.{EncodeWords}
use Rattle.subgraph_cli.specs.Lines.{refusal_text}
use Rattle.subgraph_cli.specs.Disk.{Disk}
use Rattle.subgraph_cli.specs.Streams.{Stream, IsAsBefore, Tells}
use Rattle.subgraph_cli.specs.Outcomes.{outcome}
use Rattle.subgraph_cli.specs.Questions.{Asks, IsFirstRefused}
use Rattle.subgraph_cli.specs.Stops.{HasCause, SparesInParts, TellsStop, IsOfFiles}
use Rattle.subgraph_cli.specs.Solving.{IsOrStops}
use Rattle.subgraph_cli.specs.Encoded.{IsEncoded, StopsInEncoding, WritingSays, EncodeSays, EncodeStatus, encode_status}
use Rattle.subgraph_cli.specs.declared.stop.Role.{Role}
use Rattle.subgraph_cli.specs.declared.stop.TextFault.{TextFault}
use Rattle.subgraph_cli.specs.declared.stop.Stop.{Stop}
use Rattle.subgraph_cli.specs.declared.stop.Stop.TheVariants.{Refused, FilesFault, OutputFault, NoMemory}
use Rattle.subgraph_cli.proofs.OneProblem.{asks_not_refused}

-- A stop while loading leaves an output that nothing was put to.
pub loading_spares_parts : (s : Stop) (out : Stream) → IsOfFiles s → IsAsBefore out → SparesInParts s out
loading_spares_parts FilesFault out of_files kept = kept
loading_spares_parts OutputFault out of_files kept = absurd of_files
loading_spares_parts (Refused role fault) out of_files kept = kept
loading_spares_parts NoMemory out of_files kept = tt

-- Writing the encoding stops for no file.
pub writing_cause : (r : Result Unit Stop) (q : Problem) (out : Stream) (blame : Disk → Type 0) (d : Disk) → WritingSays r q out → IfErr r (λ (s : Stop). HasCause s blame d)
writing_cause (Ok done) q out blame d says = tt
writing_cause (Err OutputFault) q out blame d says = tt
writing_cause (Err NoMemory) q out blame d says = tt
writing_cause (Err FilesFault) q out blame d says = absurd says
writing_cause (Err (Refused role fault)) q out blame d says = absurd says

-- What writing the encoding of the problem that the files ask says is what an encode says.
pub writing_says : (r : Result Unit Stop) (q : Problem) (w : EncodeWords) (p t : Option (List ℕ)) (out : Stream)
    → WritingSays r q out → Asks p t w.ask q → EncodeSays r w p t out
writing_says (Ok done) q w p t out says asks = record { problem = q; asks = asks; written = says }
writing_says (Err OutputFault) q w p t out says asks = record { problem = q; asks = asks; front = says }
writing_says (Err NoMemory) q w p t out (inl says) asks = inl says
writing_says (Err NoMemory) q w p t out (inr says) asks = inr record { problem = q; asks = asks; front = says }
writing_says (Err FilesFault) q w p t out says asks = absurd says
writing_says (Err (Refused role fault)) q w p t out says asks = absurd says

-- Status 0 is that of the encoding, which is written.
encoded_says : (r : Result Unit Stop) (w : EncodeWords) (p t : Option (List ℕ)) (out : Stream)
    → EncodeSays r w p t out → encode_status r ≡ 0 → IsEncoded w p t out
encoded_says (Ok done) w p t out says e = says
encoded_says (Err (Refused role fault)) w p t out says e = absurd (omega arith)
encoded_says (Err FilesFault) w p t out says e = absurd (omega arith)
encoded_says (Err OutputFault) w p t out says e = absurd (omega arith)
encoded_says (Err NoMemory) w p t out says e = absurd (omega arith)

-- Status 4 is that of a refused text, of which the error stream is told.
refused_says : (r : Result Unit Stop) (w : EncodeWords) (p t : Option (List ℕ)) (out err : Stream)
    → EncodeSays r w p t out → TellsStop r err → encode_status r ≡ 4
    → (role : Role) × (fault : TextFault) × IsFirstRefused p t w.ask role fault × Tells err (refusal_text role fault)
refused_says (Err (Refused role fault)) w p t out err says line e = (role, fault, says, line)
refused_says (Ok done) w p t out err says line e = absurd (omega arith)
refused_says (Err FilesFault) w p t out err says line e = absurd (omega arith)
refused_says (Err OutputFault) w p t out err says line e = absurd (omega arith)
refused_says (Err NoMemory) w p t out err says line e = absurd (omega arith)

-- Status 5 is that of a fault: of the files, where nothing was written, or of the output within the text.
fault_says : (r : Result Unit Stop) (w : EncodeWords) (p t : Option (List ℕ)) (out : Stream)
    → EncodeSays r w p t out → IfErr r (λ (s : Stop). SparesInParts s out) → encode_status r ≡ 5
    → IsAsBefore out ⊎ StopsInEncoding w p t out
fault_says (Err FilesFault) w p t out says spares e = inl spares
fault_says (Err OutputFault) w p t out says spares e = inr says
fault_says (Ok done) w p t out says spares e = absurd (omega arith)
fault_says (Err (Refused role fault)) w p t out says spares e = absurd (omega arith)
fault_says (Err NoMemory) w p t out says spares e = absurd (omega arith)

-- Status 6 is that of want of memory, before the text or within it.
no_memory_says : (r : Result Unit Stop) (w : EncodeWords) (p t : Option (List ℕ)) (out : Stream)
    → EncodeSays r w p t out → encode_status r ≡ 6 → IsAsBefore out ⊎ StopsInEncoding w p t out
no_memory_says (Err NoMemory) w p t out says e = says
no_memory_says (Ok done) w p t out says e = absurd (omega arith)
no_memory_says (Err FilesFault) w p t out says e = absurd (omega arith)
no_memory_says (Err OutputFault) w p t out says e = absurd (omega arith)
no_memory_says (Err (Refused role fault)) w p t out says e = absurd (omega arith)

-- Files that ask a problem lead to its encoding.
encoded_leads : TextLaws → (r : Result Unit Stop) (w : EncodeWords) (p t : Option (List ℕ)) (out : Stream)
    → EncodeSays r w p t out → (q : Problem) → Asks p t w.ask q → IsOrStops 0 (encode_status r)
encoded_leads laws (Ok done) w p t out says q asks = inl refl
encoded_leads laws (Err (Refused role fault)) w p t out says q asks = absurd (asks_not_refused laws p t w.ask q role fault asks says)
encoded_leads laws (Err FilesFault) w p t out says q asks = inr (inl refl)
encoded_leads laws (Err OutputFault) w p t out says q asks = inr (inl refl)
encoded_leads laws (Err NoMemory) w p t out says q asks = inr (inr refl)

-- Where a text is refused that is told.
refused_leads : TextLaws → (r : Result Unit Stop) (w : EncodeWords) (p t : Option (List ℕ)) (out : Stream)
    → EncodeSays r w p t out → (role : Role) (fault : TextFault) → IsFirstRefused p t w.ask role fault → IsOrStops 4 (encode_status r)
refused_leads laws (Ok done) w p t out says role fault refused = absurd (asks_not_refused laws p t w.ask says.problem role fault says.asks refused)
refused_leads laws (Err (Refused who why)) w p t out says role fault refused = inl refl
refused_leads laws (Err FilesFault) w p t out says role fault refused = inr (inl refl)
refused_leads laws (Err OutputFault) w p t out says role fault refused = inr (inl refl)
refused_leads laws (Err NoMemory) w p t out says role fault refused = inr (inr refl)

-- The status of an encode says what its end says.
pub encode_status_says : TextLaws → (r : Result Unit Stop) (w : EncodeWords) (p t : Option (List ℕ)) (accounts : List Account) (d : Disk) (out err : Stream)
    → EncodeSays r w p t out → IfErr r (λ (s : Stop). SparesInParts s out) → TellsStop r err
    → EncodeStatus (outcome (encode_status r) accounts d out err) w p t
encode_status_says laws r w p t accounts d out err says spares line = record {
  encoded = encoded_says r w p t out says;
  refused = refused_says r w p t out err says line;
  fault = fault_says r w p t out says spares;
  no_memory = no_memory_says r w p t out says;
  leads = record {
    encoded = encoded_leads laws r w p t out says;
    refused = refused_leads laws r w p t out says;
  };
}
