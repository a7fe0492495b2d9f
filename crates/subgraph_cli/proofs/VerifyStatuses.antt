-- What the status of a verify says, by the cases of its end.

use Rattle.std.specs.Prelude.{◌≡◌, ℕ, ◌⊎◌, List, Option, Result, Ok, Err, IfErr, refl}
use Rattle.std.proofs.Common.{subst, inl, inr, arith}
use Rattle.graph_theory.specs.Embedding.{Problem, Embeds}
use Rattle.graph_theory.specs.LadFault.{TextLaws}
use Rattle.graph_theory.specs.Mapping.{MappingLaws}
use Rattle.search_theory.specs.Account.{Account}
use Rattle.command_line.specs.declared.commands.VerifyWords.{VerifyWords}
use Rattle.subgraph_cli.specs.Lines.{refusal_text, embedding_text, no_embedding_text}
use Rattle.subgraph_cli.specs.Disk.{Disk}
use Rattle.subgraph_cli.specs.Streams.{Stream, IsAsBefore, Got, GotFront, Tells}
use Rattle.subgraph_cli.specs.Outcomes.{outcome}
use Rattle.subgraph_cli.specs.Stops.{SparesOutput}
use Rattle.subgraph_cli.specs.Solving.{IsOrStops}
use Rattle.subgraph_cli.specs.Verifying.{AsksOf, IsFirstOfThree, IsGood, IsBad, VerifySays, TellsTested, VerifyStatus, verify_status}
use Rattle.subgraph_cli.specs.declared.stop.Role.{Role}
use Rattle.subgraph_cli.specs.declared.stop.TextFault.{TextFault}
use Rattle.subgraph_cli.specs.declared.stop.Stop.{Stop}
use Rattle.subgraph_cli.specs.declared.stop.Stop.TheVariants.{Refused, FilesFault, OutputFault, NoMemory}
use Rattle.subgraph_cli.specs.declared.verify.Tested.{Tested}
use Rattle.subgraph_cli.specs.declared.verify.Tested.TheVariants.{Embedding, NotAnEmbedding}
use Rattle.subgraph_cli.proofs.OneProblem.{one_problem, one_mapping, asked_not_refused}

-- Status 0 is that of an embedding, which is written.
good_says : (r : Result Tested Stop) (w : VerifyWords) (p t m : Option (List ℕ)) (out : Stream)
    → VerifySays r w p t m out → verify_status r ≡ 0 → IsGood w p t m × Got out embedding_text
good_says (Ok Embedding) w p t m out says e = says
good_says (Ok NotAnEmbedding) w p t m out says e = absurd (omega arith)
good_says (Err (Refused role fault)) w p t m out says e = absurd (omega arith)
good_says (Err FilesFault) w p t m out says e = absurd (omega arith)
good_says (Err OutputFault) w p t m out says e = absurd (omega arith)
good_says (Err NoMemory) w p t m out says e = absurd (omega arith)

-- Status 7 is that of another mapping, of which the error stream is told.
bad_says : (r : Result Tested Stop) (w : VerifyWords) (p t m : Option (List ℕ)) (out err : Stream)
    → VerifySays r w p t m out → TellsTested r err → verify_status r ≡ 7 → IsBad w p t m × Tells err no_embedding_text
bad_says (Ok NotAnEmbedding) w p t m out err says line e = (says, line)
bad_says (Ok Embedding) w p t m out err says line e = absurd (omega arith)
bad_says (Err (Refused role fault)) w p t m out err says line e = absurd (omega arith)
bad_says (Err FilesFault) w p t m out err says line e = absurd (omega arith)
bad_says (Err OutputFault) w p t m out err says line e = absurd (omega arith)
bad_says (Err NoMemory) w p t m out err says line e = absurd (omega arith)

-- Status 4 is that of a refused text, of which the error stream is told.
refused_says : (r : Result Tested Stop) (w : VerifyWords) (p t m : Option (List ℕ)) (out err : Stream)
    → VerifySays r w p t m out → TellsTested r err → verify_status r ≡ 4
    → (role : Role) × (fault : TextFault) × IsFirstOfThree w p t m role fault × Tells err (refusal_text role fault)
refused_says (Err (Refused role fault)) w p t m out err says line e = (role, fault, says, line)
refused_says (Ok Embedding) w p t m out err says line e = absurd (omega arith)
refused_says (Ok NotAnEmbedding) w p t m out err says line e = absurd (omega arith)
refused_says (Err FilesFault) w p t m out err says line e = absurd (omega arith)
refused_says (Err OutputFault) w p t m out err says line e = absurd (omega arith)
refused_says (Err NoMemory) w p t m out err says line e = absurd (omega arith)

-- Status 5 is that of a fault: of the files, where nothing was written, or of the output within the answer.
fault_says : (r : Result Tested Stop) (w : VerifyWords) (p t m : Option (List ℕ)) (out : Stream)
    → VerifySays r w p t m out → IfErr r (λ (s : Stop). SparesOutput s out) → verify_status r ≡ 5
    → IsAsBefore out ⊎ (IsGood w p t m × GotFront out embedding_text)
fault_says (Err FilesFault) w p t m out says spares e = inl spares
fault_says (Err OutputFault) w p t m out says spares e = inr says
fault_says (Ok Embedding) w p t m out says spares e = absurd (omega arith)
fault_says (Ok NotAnEmbedding) w p t m out says spares e = absurd (omega arith)
fault_says (Err (Refused role fault)) w p t m out says spares e = absurd (omega arith)
fault_says (Err NoMemory) w p t m out says spares e = absurd (omega arith)

-- A mapping is tested.
tested_leads : TextLaws → MappingLaws → (r : Result Tested Stop) (w : VerifyWords) (p t m : Option (List ℕ)) (out : Stream)
    → VerifySays r w p t m out → (q : Problem) (map : List ℕ) → AsksOf w p t m q map → (verify_status r ≡ 0) ⊎ IsOrStops 7 (verify_status r)
tested_leads texts maps (Ok Embedding) w p t m out says q map asks = inl refl
tested_leads texts maps (Ok NotAnEmbedding) w p t m out says q map asks = inr (inl refl)
tested_leads texts maps (Err (Refused role fault)) w p t m out says q map asks = absurd (asked_not_refused texts maps w p t m q map role fault asks says)
tested_leads texts maps (Err FilesFault) w p t m out says q map asks = inr (inr (inl refl))
tested_leads texts maps (Err OutputFault) w p t m out says q map asks = inr (inr (inl refl))
tested_leads texts maps (Err NoMemory) w p t m out says q map asks = inr (inr (inr refl))

-- A fact of the problem and the mapping that the files hold is one of any that they hold.
same_asked : TextLaws → MappingLaws → (w : VerifyWords) (p t m : Option (List ℕ)) (q s : Problem) (map other : List ℕ)
    → AsksOf w p t m q map → AsksOf w p t m s other → Embeds q map → Embeds s other
same_asked texts maps w p t m q s map other x y embeds =
    let problems = one_problem texts p t w.ask q s x.problem_is y.problem_is in
    let lists = one_mapping maps m map other x.mapping_is y.mapping_is in
    subst (λ (n : List ℕ). Embeds s n) lists (subst (λ (u : Problem). Embeds u map) problems embeds)

-- An embedding is told as one.
good_leads : TextLaws → MappingLaws → (r : Result Tested Stop) (w : VerifyWords) (p t m : Option (List ℕ)) (out : Stream)
    → VerifySays r w p t m out → (q : Problem) (map : List ℕ) → AsksOf w p t m q map → Embeds q map → IsOrStops 0 (verify_status r)
good_leads texts maps (Ok Embedding) w p t m out says q map asks embeds = inl refl
good_leads texts maps (Ok NotAnEmbedding) w p t m out says q map asks embeds =
    absurd (says.no_embedding (same_asked texts maps w p t m q says.problem map says.map asks says.asks embeds))
good_leads texts maps (Err (Refused role fault)) w p t m out says q map asks embeds = absurd (asked_not_refused texts maps w p t m q map role fault asks says)
good_leads texts maps (Err FilesFault) w p t m out says q map asks embeds = inr (inl refl)
good_leads texts maps (Err OutputFault) w p t m out says q map asks embeds = inr (inl refl)
good_leads texts maps (Err NoMemory) w p t m out says q map asks embeds = inr (inr refl)

-- Another mapping is told as none.
bad_leads : TextLaws → MappingLaws → (r : Result Tested Stop) (w : VerifyWords) (p t m : Option (List ℕ)) (out : Stream)
    → VerifySays r w p t m out → (q : Problem) (map : List ℕ) → AsksOf w p t m q map → (Embeds q map → ⊥) → IsOrStops 7 (verify_status r)
bad_leads texts maps (Ok NotAnEmbedding) w p t m out says q map asks none = inl refl
bad_leads texts maps (Ok Embedding) w p t m out says q map asks none =
    absurd (none (same_asked texts maps w p t m says.0.problem q says.0.map map says.0.asks asks says.0.embeds))
bad_leads texts maps (Err (Refused role fault)) w p t m out says q map asks none = absurd (asked_not_refused texts maps w p t m q map role fault asks says)
bad_leads texts maps (Err FilesFault) w p t m out says q map asks none = inr (inl refl)
bad_leads texts maps (Err OutputFault) w p t m out says q map asks none = inr (inl refl)
bad_leads texts maps (Err NoMemory) w p t m out says q map asks none = inr (inr refl)

-- Where a text is refused that is told.
refused_leads : TextLaws → MappingLaws → (r : Result Tested Stop) (w : VerifyWords) (p t m : Option (List ℕ)) (out : Stream)
    → VerifySays r w p t m out → (role : Role) (fault : TextFault) → IsFirstOfThree w p t m role fault → IsOrStops 4 (verify_status r)
refused_leads texts maps (Ok Embedding) w p t m out says role fault refused =
    absurd (asked_not_refused texts maps w p t m says.0.problem says.0.map role fault says.0.asks refused)
refused_leads texts maps (Ok NotAnEmbedding) w p t m out says role fault refused =
    absurd (asked_not_refused texts maps w p t m says.problem says.map role fault says.asks refused)
refused_leads texts maps (Err (Refused who why)) w p t m out says role fault refused = inl refl
refused_leads texts maps (Err FilesFault) w p t m out says role fault refused = inr (inl refl)
refused_leads texts maps (Err OutputFault) w p t m out says role fault refused = inr (inl refl)
refused_leads texts maps (Err NoMemory) w p t m out says role fault refused = inr (inr refl)

-- The status of a verify says what its end says.
pub verify_status_says : TextLaws → MappingLaws → (r : Result Tested Stop) (w : VerifyWords) (p t m : Option (List ℕ)) (accounts : List Account) (d : Disk) (out err : Stream)
    → VerifySays r w p t m out → IfErr r (λ (s : Stop). SparesOutput s out) → TellsTested r err
    → VerifyStatus (outcome (verify_status r) accounts d out err) w p t m
verify_status_says texts maps r w p t m accounts d out err says spares line = record {
  embedding = good_says r w p t m out says;
  not_embedding = bad_says r w p t m out err says line;
  refused = refused_says r w p t m out err says line;
  fault = fault_says r w p t m out says spares;
  leads = record {
    tested = tested_leads texts maps r w p t m out says;
    embedding = good_leads texts maps r w p t m out says;
    not_embedding = bad_leads texts maps r w p t m out says;
    refused = refused_leads texts maps r w p t m out says;
  };
}
