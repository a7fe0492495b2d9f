-- What a `verify` answers.

use Rattle.std.specs.Prelude.{◌≡◌, ℕ, ◌<◌, ◌≤◌, ◌⊎◌, IsTrue, List, length, Option, Some, Result, Ok, Err, Vec}
use Rattle.std.specs.Global.{Global}
use Rattle.graph_theory.specs.Embedding.{Problem, Embeds}
use Rattle.graph_theory.specs.Mapping.{IsMapping, FaultyLine}
use Rattle.command_line.specs.declared.commands.VerifyWords.{VerifyWords}
use Rattle.subgraph_cli.specs.Lines.{embedding_text, no_embedding_text, refusal_text, stop_text, stop_status}
use Rattle.subgraph_cli.specs.Streams.{Stream, IsAsBefore, Got, GotFront, Tells}
use Rattle.subgraph_cli.specs.Outcomes.{Outcome}
use Rattle.subgraph_cli.specs.Solving.{IsOrStops}
use Rattle.subgraph_cli.specs.Questions.{Asks, IsFirstRefused, IsFaultOfTwo}
use Rattle.subgraph_cli.specs.Disk.{Disk, IsReadingOf}
use Rattle.subgraph_cli.specs.declared.stop.Role.{Role}
use Rattle.subgraph_cli.specs.declared.stop.Role.TheVariants.{Pattern, Less, Target, Mapping}
use Rattle.subgraph_cli.specs.declared.stop.TextFault.{TextFault}
use Rattle.subgraph_cli.specs.declared.stop.TextFault.TheVariants.{TooLong, Line}
use Rattle.subgraph_cli.specs.declared.stop.Stop.{Stop}
use Rattle.subgraph_cli.specs.declared.stop.Stop.TheVariants.{Refused, FilesFault, OutputFault, NoMemory}
use Rattle.subgraph_cli.specs.declared.verify.Tested.{Tested}
use Rattle.subgraph_cli.specs.declared.verify.Tested.TheVariants.{Embedding, NotAnEmbedding}

-- The content of a file is the text of this mapping, within the limit of 67,108,864 bytes.
pub record HoldsMapping (content : Option (List ℕ)) (m : List ℕ) : Type 0 where
  pub bytes : List ℕ
  pub there : content ≡ Some bytes
  pub short : length bytes ≤ 67108864
  pub is : IsMapping bytes m

-- Bytes are no mapping's text, for this fault: they are over the limit, or have a first faulty line.
abbrev pub IsNoMapping : List ℕ → TextFault → Type 0
IsNoMapping bytes TooLong = 67108864 < length bytes
IsNoMapping bytes (Line n) = (length bytes ≤ 67108864) × FaultyLine bytes n
IsNoMapping bytes _ = ⊥

-- The content of a file is no mapping's text, for this fault.
pub record HoldsNoMapping (content : Option (List ℕ)) (fault : TextFault) : Type 0 where
  pub bytes : List ℕ
  pub there : content ≡ Some bytes
  pub is : IsNoMapping bytes fault

-- The files ask this problem and hold this mapping.
pub record AsksOf (w : VerifyWords) (pattern target mapping : Option (List ℕ)) (q : Problem)
    (m : List ℕ) : Type 0 where
  pub problem_is : Asks pattern target w.ask q
  pub mapping_is : HoldsMapping mapping m

-- The files ask a problem, and the third holds no mapping, for this fault.
pub record AsksNone (w : VerifyWords) (pattern target mapping : Option (List ℕ))
    (fault : TextFault) : Type 0 where
  pub problem : Problem
  pub asks : Asks pattern target w.ask problem
  pub is : HoldsNoMapping mapping fault

-- The first text that is not good is this one, for this fault; the mapping is looked at last.
abbrev pub IsFirstOfThree : VerifyWords → Option (List ℕ) → Option (List ℕ) → Option (List ℕ)
    → Role → TextFault → Type 0
IsFirstOfThree w pattern target mapping Pattern fault =
    IsFirstRefused pattern target w.ask Pattern fault
IsFirstOfThree w pattern target mapping Less fault =
    IsFirstRefused pattern target w.ask Less fault
IsFirstOfThree w pattern target mapping Target fault =
    IsFirstRefused pattern target w.ask Target fault
IsFirstOfThree w pattern target mapping Mapping fault = AsksNone w pattern target mapping fault
IsFirstOfThree w pattern target mapping _ fault = ⊥

-- The last fault was one of reading the graphs' files, or of reading the mapping's where these ask a problem.
abbrev pub IsFaultOfThree : VerifyWords → Disk → Type 0
IsFaultOfThree w d = IsFaultOfTwo w.pattern w.target w.ask d
    ⊎ (IsReadingOf w.mapping d × (IsTrue d.tells → (q : Problem)
    × Asks (d.content w.pattern) (d.content w.target) w.ask q))

-- The mapping that the third file holds is an embedding for the problem of the first two.
pub record IsGood (w : VerifyWords) (pattern target mapping : Option (List ℕ)) : Type 0 where
  pub problem : Problem
  pub map : List ℕ
  pub asks : AsksOf w pattern target mapping problem map
  pub embeds : Embeds problem map

-- It is a mapping, and no embedding.
pub record IsBad (w : VerifyWords) (pattern target mapping : Option (List ℕ)) : Type 0 where
  pub problem : Problem
  pub map : List ℕ
  pub asks : AsksOf w pattern target mapping problem map
  pub no_embedding : Embeds problem map → ⊥

-- What a verify says: whether the mapping embeds, or why it stopped. Only that it does is written to the output.
abbrev pub VerifySays : Result Tested Stop → VerifyWords → Option (List ℕ) → Option (List ℕ)
    → Option (List ℕ) → Stream → Type 0
VerifySays (Ok Embedding) w pattern target mapping out =
    IsGood w pattern target mapping × Got out embedding_text
VerifySays (Ok NotAnEmbedding) w pattern target mapping out = IsBad w pattern target mapping
VerifySays (Err (Refused role fault)) w pattern target mapping out =
    IsFirstOfThree w pattern target mapping role fault
VerifySays (Err OutputFault) w pattern target mapping out =
    IsGood w pattern target mapping × GotFront out embedding_text
VerifySays (Err FilesFault) w pattern target mapping out = Unit {0}
VerifySays (Err NoMemory) w pattern target mapping out = Unit {0}

-- Where the mapping is no embedding the output is as it was.
abbrev pub KeepsWhenBad : Result Tested Stop → Stream → Type 0
KeepsWhenBad (Ok NotAnEmbedding) out = IsAsBefore out
KeepsWhenBad (Ok Embedding) out = Unit {0}
KeepsWhenBad (Err stop) out = Unit {0}

-- The error stream is given a line where the mapping is no embedding and where the command stopped, and else nothing.
abbrev pub TellsTested : Result Tested Stop → Stream → Type 0
TellsTested (Ok Embedding) err = IsAsBefore err
TellsTested (Ok NotAnEmbedding) err = Tells err no_embedding_text
TellsTested (Err stop) err = Tells err (stop_text stop)

-- The status of an answer.
abbrev pub tested_status : Tested → ℕ
tested_status Embedding = 0
tested_status NotAnEmbedding = 7

abbrev pub verify_status : Result Tested Stop → ℕ
verify_status (Ok tested) = tested_status tested
verify_status (Err stop) = stop_status stop

-- What the files lead to: the right answer where each is good, and a refusal where one is not.
pub record VerifyLeads (status : ℕ) (w : VerifyWords)
    (pattern target mapping : Option (List ℕ)) : Type 0 where
  pub tested : (q : Problem) (m : List ℕ) → AsksOf w pattern target mapping q m
      → (status ≡ 0) ⊎ IsOrStops 7 status
  pub embedding : (q : Problem) (m : List ℕ) → AsksOf w pattern target mapping q m → Embeds q m
      → IsOrStops 0 status
  pub not_embedding : (q : Problem) (m : List ℕ) → AsksOf w pattern target mapping q m
      → (Embeds q m → ⊥) → IsOrStops 7 status
  pub refused : (role : Role) (fault : TextFault)
      → IsFirstOfThree w pattern target mapping role fault → IsOrStops 4 status

-- What the status of a verify says, where the files tell their contents.
pub record VerifyStatus (o : Outcome) (w : VerifyWords)
    (pattern target mapping : Option (List ℕ)) : Type 0 where
  pub embedding : o.status ≡ 0 → IsGood w pattern target mapping × Got o.out embedding_text
  pub not_embedding : o.status ≡ 7 → IsBad w pattern target mapping × Tells o.err no_embedding_text
  pub refused : o.status ≡ 4 → (role : Role) × (fault : TextFault)
      × IsFirstOfThree w pattern target mapping role fault × Tells o.err (refusal_text role fault)
  pub fault : o.status ≡ 5 → IsAsBefore o.out
      ⊎ (IsGood w pattern target mapping × GotFront o.out embedding_text)
  pub leads : VerifyLeads o.status w pattern target mapping

-- What loading a mapping answers.
abbrev pub MappingSays : Result (Vec ℕ Global) Stop → Option (List ℕ) → Type 0
MappingSays (Ok m) content = HoldsMapping content m.items
MappingSays (Err (Refused role fault)) content = (role ≡ Mapping) × HoldsNoMapping content fault
MappingSays (Err FilesFault) content = Unit {0}
MappingSays (Err OutputFault) content = Unit {0}
MappingSays (Err NoMemory) content = Unit {0}
