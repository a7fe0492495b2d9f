-- What the status of a test says, by the cases of what it says.

use Rattle.std.specs.Prelude.{◌≡◌, ℕ, ◌⊎◌, List, Some, None, refl}
use Rattle.std.proofs.Common.{inl, inr, sym, subst, ◌∙◌, arith}
use Rattle.graph_theory.specs.Embedding.{Problem, Embeds}
use Rattle.graph_theory.specs.LadFault.{TextLaws}
use Rattle.subgraph_c.specs.Asking.{Call, Asks, IsFaulty, bad_question}
use Rattle.subgraph_c.specs.Reports.{FaultTold, images_report}
use Rattle.subgraph_c.specs.Verifying.{TestSays, IsGood, IsBad, QuestionTold, VerifyStatus, tested_status, tested_report}
use Rattle.subgraph_c.specs.declared.passed.Report.{Report}
use Rattle.subgraph_c.specs.declared.refusal.Refusal.{Refusal}
use Rattle.subgraph_c.specs.declared.refusal.Refusal.TheVariants.{Number, Pattern, Target, Vertex, NoMemory}
use Rattle.subgraph_c.specs.declared.verifying.Tested.{Tested}
use Rattle.subgraph_c.specs.declared.verifying.Tested.TheVariants.{Embedding, NoEmbedding, Refused}
use Rattle.subgraph_c.proofs.OneProblem.{one_problem, asks_not_faulty}
use Rattle.subgraph_c.proofs.Refusals.{refusal_status_is}

-- Status 0 is that of an embedding.
good_says : (t : Tested) (c : Call) (m : List ℕ) → TestSays t c m → tested_status t ≡ 0 → IsGood c m
good_says Embedding c m says e = says
good_says NoEmbedding c m says e = absurd (omega arith)
good_says (Refused r) c m says e = absurd (omega (arith, refusal_status_is r, e))

-- Status 7 is that of another map.
bad_says : (t : Tested) (c : Call) (m : List ℕ) → TestSays t c m → tested_status t ≡ 7 → IsBad c m
bad_says NoEmbedding c m says e = says
bad_says Embedding c m says e = absurd (omega arith)
bad_says (Refused r) c m says e = absurd (omega (arith, refusal_status_is r, e))

-- Status 3 is that of a number out of range.
range_says : (t : Tested) (c : Call) (m : List ℕ) (report : Report) → TestSays t c m → report ≡ tested_report t → tested_status t ≡ 3 → QuestionTold c report
range_says (Refused (Number n)) c m report says told e = record { number = n; is = says; report_is = told }
range_says Embedding c m report says told e = absurd (omega arith)
range_says NoEmbedding c m report says told e = absurd (omega arith)
range_says (Refused (Pattern word cause)) c m report says told e = absurd (omega arith)
range_says (Refused (Target word cause)) c m report says told e = absurd (omega arith)
range_says (Refused (Vertex number)) c m report says told e = absurd (omega arith)
range_says (Refused NoMemory) c m report says told e = absurd (omega arith)

-- Status 4 is that of a fault.
fault_says : (t : Tested) (c : Call) (m : List ℕ) (report : Report) → TestSays t c m → report ≡ tested_report t → tested_status t ≡ 4
    → (bad_question c.options c.less ≡ None) × FaultTold c report
fault_says (Refused (Pattern word cause)) c m report says told e = (says.0, record { refusal = Pattern word cause; is = says.1; report_is = told })
fault_says (Refused (Target word cause)) c m report says told e = (says.0, record { refusal = Target word cause; is = says.1; report_is = told })
fault_says (Refused (Vertex number)) c m report says told e = (says.0, record { refusal = Vertex number; is = says.1; report_is = told })
fault_says Embedding c m report says told e = absurd (omega arith)
fault_says NoEmbedding c m report says told e = absurd (omega arith)
fault_says (Refused (Number n)) c m report says told e = absurd (omega arith)
fault_says (Refused NoMemory) c m report says told e = absurd (omega arith)

-- Where nothing is to be told the report is zeros.
zeros_says : (t : Tested) (report : Report) → report ≡ tested_report t → (tested_status t ≡ 0) ⊎ ((tested_status t ≡ 6) ⊎ (tested_status t ≡ 7))
    → report ≡ images_report 0
zeros_says Embedding report told quiet = told
zeros_says NoEmbedding report told quiet = told
zeros_says (Refused NoMemory) report told quiet = told
zeros_says (Refused (Number n)) report told quiet = absurd (omega (arith, quiet))
zeros_says (Refused (Pattern word cause)) report told quiet = absurd (omega (arith, quiet))
zeros_says (Refused (Target word cause)) report told quiet = absurd (omega (arith, quiet))
zeros_says (Refused (Vertex number)) report told quiet = absurd (omega (arith, quiet))

-- A test has one of five statuses.
one_of : (t : Tested) → (tested_status t ≡ 0) ⊎ ((tested_status t ≡ 3) ⊎ ((tested_status t ≡ 4) ⊎ ((tested_status t ≡ 6) ⊎ (tested_status t ≡ 7))))
one_of Embedding = inl refl
one_of NoEmbedding = inr (inr (inr (inr refl)))
one_of (Refused (Number n)) = inr (inl refl)
one_of (Refused (Pattern word cause)) = inr (inr (inl refl))
one_of (Refused (Target word cause)) = inr (inr (inl refl))
one_of (Refused (Vertex number)) = inr (inr (inl refl))
one_of (Refused NoMemory) = inr (inr (inr (inl refl)))

-- A fact of the problem that is asked is one of any that is.
same_asked : TextLaws → (c : Call) (m : List ℕ) (q s : Problem) → Asks c q → Asks c s → Embeds q m → Embeds s m
same_asked laws c m q s x y embeds = subst (λ (u : Problem). Embeds u m) (one_problem laws c q s x y) embeds

-- An embedding is told as one.
good_leads : TextLaws → (t : Tested) (c : Call) (m : List ℕ) → TestSays t c m → (q : Problem) → Asks c q → Embeds q m
    → (tested_status t ≡ 0) ⊎ (tested_status t ≡ 6)
good_leads laws Embedding c m says q asks embeds = inl refl
good_leads laws NoEmbedding c m says q asks embeds = absurd (says.no_embedding (same_asked laws c m q says.problem asks says.asks embeds))
good_leads laws (Refused (Number n)) c m says q asks embeds = let no : None ≡ Some n = sym asks.in_range ∙ says in cc
good_leads laws (Refused (Pattern word cause)) c m says q asks embeds = absurd (asks_not_faulty laws c q (Pattern word cause) asks says.1)
good_leads laws (Refused (Target word cause)) c m says q asks embeds = absurd (asks_not_faulty laws c q (Target word cause) asks says.1)
good_leads laws (Refused (Vertex number)) c m says q asks embeds = absurd (asks_not_faulty laws c q (Vertex number) asks says.1)
good_leads laws (Refused NoMemory) c m says q asks embeds = inr refl

-- Another map is told as none.
bad_leads : TextLaws → (t : Tested) (c : Call) (m : List ℕ) → TestSays t c m → (q : Problem) → Asks c q → (Embeds q m → ⊥)
    → (tested_status t ≡ 7) ⊎ (tested_status t ≡ 6)
bad_leads laws NoEmbedding c m says q asks none = inl refl
bad_leads laws Embedding c m says q asks none = absurd (none (same_asked laws c m says.problem q says.asks asks says.embeds))
bad_leads laws (Refused (Number n)) c m says q asks none = let no : None ≡ Some n = sym asks.in_range ∙ says in cc
bad_leads laws (Refused (Pattern word cause)) c m says q asks none = absurd (asks_not_faulty laws c q (Pattern word cause) asks says.1)
bad_leads laws (Refused (Target word cause)) c m says q asks none = absurd (asks_not_faulty laws c q (Target word cause) asks says.1)
bad_leads laws (Refused (Vertex number)) c m says q asks none = absurd (asks_not_faulty laws c q (Vertex number) asks says.1)
bad_leads laws (Refused NoMemory) c m says q asks none = inr refl

-- A number out of range is told.
range_leads : (t : Tested) (c : Call) (m : List ℕ) → TestSays t c m → (bad_question c.options c.less ≡ None → ⊥) → tested_status t ≡ 3
range_leads Embedding c m says out = absurd (out says.asks.in_range)
range_leads NoEmbedding c m says out = absurd (out says.asks.in_range)
range_leads (Refused (Number n)) c m says out = refl
range_leads (Refused (Pattern word cause)) c m says out = absurd (out says.0)
range_leads (Refused (Target word cause)) c m says out = absurd (out says.0)
range_leads (Refused (Vertex number)) c m says out = absurd (out says.0)
range_leads (Refused NoMemory) c m says out = absurd (out says)

-- A fault is told.
fault_leads : TextLaws → (t : Tested) (c : Call) (m : List ℕ) → TestSays t c m → (refusal : Refusal) → bad_question c.options c.less ≡ None → IsFaulty c refusal
    → (tested_status t ≡ 4) ⊎ (tested_status t ≡ 6)
fault_leads laws Embedding c m says refusal good faulty = absurd (asks_not_faulty laws c says.problem refusal says.asks faulty)
fault_leads laws NoEmbedding c m says refusal good faulty = absurd (asks_not_faulty laws c says.problem refusal says.asks faulty)
fault_leads laws (Refused (Number n)) c m says refusal good faulty = let no : None ≡ Some n = sym good ∙ says in cc
fault_leads laws (Refused (Pattern word cause)) c m says refusal good faulty = inl refl
fault_leads laws (Refused (Target word cause)) c m says refusal good faulty = inl refl
fault_leads laws (Refused (Vertex number)) c m says refusal good faulty = inl refl
fault_leads laws (Refused NoMemory) c m says refusal good faulty = inr refl

-- The status of a test says what the test says.
pub verify_status_says : TextLaws → (t : Tested) (c : Call) (m : List ℕ) (report : Report) → TestSays t c m → report ≡ tested_report t
    → VerifyStatus (tested_status t) c m report
verify_status_says laws t c m report says told = record {
  embedding = good_says t c m says;
  no_embedding = bad_says t c m says;
  range = range_says t c m report says told;
  faulty = fault_says t c m report says told;
  zeros = zeros_says t report told;
  one_of = one_of t;
  leads = record {
    embedding = good_leads laws t c m says;
    no_embedding = bad_leads laws t c m says;
    range = range_leads t c m says;
    faulty = fault_leads laws t c m says;
  };
}
