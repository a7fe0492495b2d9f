-- What the status of an encoding says, by the cases of what was made.

use Rattle.std.specs.Prelude.{◌≡◌, ◌≢◌, ℕ, ◌<◌, ◌≤◌, ◌⊎◌, List, length, Some, None, refl}
use Rattle.std.proofs.Common.{inl, inr, sym, ap, subst, ◌∙◌, arith}
use Rattle.graph_theory.specs.Embedding.{Problem}
use Rattle.graph_theory.specs.LadFault.{TextLaws}
use Rattle.pb_encoding.specs.Writing.{encoding_text}
use Rattle.subgraph_c.specs.Asking.{Call, Asks, IsFaulty, bad_question}
use Rattle.subgraph_c.specs.Reports.{FaultTold, images_report}
use Rattle.subgraph_c.specs.Verifying.{IsUntested, QuestionTold}
use Rattle.subgraph_c.specs.Encoding.{IsEncoding, EncodedSays, MadeOf, TextWritten, LengthTold, EncodeStatus, encoded_status, encoded_report, bytes_after}
use Rattle.subgraph_c.specs.declared.passed.Report.{Report}
use Rattle.subgraph_c.specs.declared.refusal.Refusal.{Refusal}
use Rattle.subgraph_c.specs.declared.refusal.Refusal.TheVariants.{Number, Pattern, Target, Vertex, NoMemory}
use Rattle.subgraph_c.specs.declared.encoding.Encoded.{Encoded}
use Rattle.subgraph_c.specs.declared.encoding.Encoded.TheVariants.{Text, TooLong, Refused}
use Rattle.subgraph_c.proofs.OneProblem.{one_problem, asks_not_faulty}
use Rattle.subgraph_c.proofs.Refusals.{refusal_status_is}

-- What is made of the problem that is asked is made of the call.
pub made_says : (e : Encoded) (c : Call) (q : Problem) (room : ℕ) → Asks c q → MadeOf e q room → EncodedSays e c room
made_says (Text t) c q room asks made = record { is = record { problem = q; asks = asks; text_is = made.0 }; fits = made.1 }
made_says (TooLong count) c q room asks made = record {
  text = encoding_text q;
  is = record { problem = q; asks = asks; text_is = refl };
  count_is = made.0;
  long = made.1;
}
made_says (Refused r) c q room asks made = subst (λ (s : Refusal). IsUntested c s) (sym made) asks.in_range

-- Status 0 is that of an encoding, which is written.
written_says : (e : Encoded) (c : Call) (before after : List ℕ) (report : Report) → EncodedSays e c (length before) → after ≡ bytes_after e before
    → report ≡ encoded_report e → encoded_status e ≡ 0 → TextWritten c before after report
written_says (Text t) c before after report says left told e = record {
  text = t.bytes;
  is = says.is;
  fits = says.fits;
  after_is = left;
  report_is = told;
}
written_says (TooLong count) c before after report says left told e = absurd (omega arith)
written_says (Refused r) c before after report says left told e = absurd (omega (arith, refusal_status_is r, e))

-- Status 3 is that of a number out of range, or of an encoding without room.
range_says : (e : Encoded) (c : Call) (room : ℕ) (report : Report) → EncodedSays e c room → report ≡ encoded_report e → encoded_status e ≡ 3
    → QuestionTold c report ⊎ LengthTold c room report
range_says (TooLong count) c room report says told e = inr (record { count = count; is = says; report_is = told })
range_says (Refused (Number n)) c room report says told e = inl (record { number = n; is = says; report_is = told })
range_says (Text t) c room report says told e = absurd (omega arith)
range_says (Refused (Pattern word cause)) c room report says told e = absurd (omega arith)
range_says (Refused (Target word cause)) c room report says told e = absurd (omega arith)
range_says (Refused (Vertex number)) c room report says told e = absurd (omega arith)
range_says (Refused NoMemory) c room report says told e = absurd (omega arith)

-- Status 4 is that of a fault.
fault_says : (e : Encoded) (c : Call) (room : ℕ) (report : Report) → EncodedSays e c room → report ≡ encoded_report e → encoded_status e ≡ 4
    → (bad_question c.options c.less ≡ None) × FaultTold c report
fault_says (Refused (Pattern word cause)) c room report says told e = (says.0, record { refusal = Pattern word cause; is = says.1; report_is = told })
fault_says (Refused (Target word cause)) c room report says told e = (says.0, record { refusal = Target word cause; is = says.1; report_is = told })
fault_says (Refused (Vertex number)) c room report says told e = (says.0, record { refusal = Vertex number; is = says.1; report_is = told })
fault_says (Text t) c room report says told e = absurd (omega arith)
fault_says (TooLong count) c room report says told e = absurd (omega arith)
fault_says (Refused (Number n)) c room report says told e = absurd (omega arith)
fault_says (Refused NoMemory) c room report says told e = absurd (omega arith)

-- Where memory was refused the report is zeros.
zeros_says : (e : Encoded) (report : Report) → report ≡ encoded_report e → encoded_status e ≡ 6 → report ≡ images_report 0
zeros_says (Refused NoMemory) report told e = told
zeros_says (Text t) report told e = absurd (omega arith)
zeros_says (TooLong count) report told e = absurd (omega arith)
zeros_says (Refused (Number n)) report told e = absurd (omega arith)
zeros_says (Refused (Pattern word cause)) report told e = absurd (omega arith)
zeros_says (Refused (Target word cause)) report told e = absurd (omega arith)
zeros_says (Refused (Vertex number)) report told e = absurd (omega arith)

-- What was made has one of four statuses.
one_of : (e : Encoded) → (encoded_status e ≡ 0) ⊎ ((encoded_status e ≡ 3) ⊎ ((encoded_status e ≡ 4) ⊎ (encoded_status e ≡ 6)))
one_of (Text t) = inl refl
one_of (TooLong count) = inr (inl refl)
one_of (Refused r) = inr (refusal_status_is r)

-- At every other status than 0 the bytes are as before.
kept_says : (e : Encoded) (before after : List ℕ) → after ≡ bytes_after e before → encoded_status e ≢ 0 → after ≡ before
kept_says (Text t) before after left other = absurd (other refl)
kept_says (TooLong count) before after left other = left
kept_says (Refused r) before after left other = left

-- The encoding of a call is that of the problem that it asks.
one_length : TextLaws → (c : Call) (text : List ℕ) (q : Problem) → IsEncoding c text → Asks c q → length text ≡ length (encoding_text q)
one_length laws c text q is asks =
    ap length is.text_is ∙ ap (λ (p : Problem). length (encoding_text p)) (one_problem laws c is.problem q is.asks asks)

-- An encoding that has room is written.
encoded_leads : TextLaws → (e : Encoded) (c : Call) (room : ℕ) → EncodedSays e c room → (q : Problem) → Asks c q → length (encoding_text q) ≤ room
    → (encoded_status e ≡ 0) ⊎ (encoded_status e ≡ 6)
encoded_leads laws (Text t) c room says q asks fits = inl refl
encoded_leads laws (TooLong count) c room says q asks fits =
    let same = one_length laws c says.text q says.is asks in absurd (omega (arith, same, says.long, fits))
encoded_leads laws (Refused (Number n)) c room says q asks fits = let no : None ≡ Some n = sym asks.in_range ∙ says in cc
encoded_leads laws (Refused (Pattern word cause)) c room says q asks fits = absurd (asks_not_faulty laws c q (Pattern word cause) asks says.1)
encoded_leads laws (Refused (Target word cause)) c room says q asks fits = absurd (asks_not_faulty laws c q (Target word cause) asks says.1)
encoded_leads laws (Refused (Vertex number)) c room says q asks fits = absurd (asks_not_faulty laws c q (Vertex number) asks says.1)
encoded_leads laws (Refused NoMemory) c room says q asks fits = inr refl

-- One that has none is told.
long_leads : TextLaws → (e : Encoded) (c : Call) (room : ℕ) → EncodedSays e c room → (q : Problem) → Asks c q → room < length (encoding_text q)
    → (encoded_status e ≡ 3) ⊎ (encoded_status e ≡ 6)
long_leads laws (Text t) c room says q asks long =
    let same = one_length laws c t.bytes q says.is asks in absurd (omega (arith, same, says.fits, long))
long_leads laws (TooLong count) c room says q asks long = inl refl
long_leads laws (Refused (Number n)) c room says q asks long = inl refl
long_leads laws (Refused (Pattern word cause)) c room says q asks long = absurd (asks_not_faulty laws c q (Pattern word cause) asks says.1)
long_leads laws (Refused (Target word cause)) c room says q asks long = absurd (asks_not_faulty laws c q (Target word cause) asks says.1)
long_leads laws (Refused (Vertex number)) c room says q asks long = absurd (asks_not_faulty laws c q (Vertex number) asks says.1)
long_leads laws (Refused NoMemory) c room says q asks long = inr refl

-- A number out of range is told.
range_leads : (e : Encoded) (c : Call) (room : ℕ) → EncodedSays e c room → (bad_question c.options c.less ≡ None → ⊥) → encoded_status e ≡ 3
range_leads (Text t) c room says out = absurd (out says.is.asks.in_range)
range_leads (TooLong count) c room says out = refl
range_leads (Refused (Number n)) c room says out = refl
range_leads (Refused (Pattern word cause)) c room says out = absurd (out says.0)
range_leads (Refused (Target word cause)) c room says out = absurd (out says.0)
range_leads (Refused (Vertex number)) c room says out = absurd (out says.0)
range_leads (Refused NoMemory) c room says out = absurd (out says)

-- A fault is told.
fault_leads : TextLaws → (e : Encoded) (c : Call) (room : ℕ) → EncodedSays e c room → (refusal : Refusal) → bad_question c.options c.less ≡ None
    → IsFaulty c refusal → (encoded_status e ≡ 4) ⊎ (encoded_status e ≡ 6)
fault_leads laws (Text t) c room says refusal good faulty = absurd (asks_not_faulty laws c says.is.problem refusal says.is.asks faulty)
fault_leads laws (TooLong count) c room says refusal good faulty = absurd (asks_not_faulty laws c says.is.problem refusal says.is.asks faulty)
fault_leads laws (Refused (Number n)) c room says refusal good faulty = let no : None ≡ Some n = sym good ∙ says in cc
fault_leads laws (Refused (Pattern word cause)) c room says refusal good faulty = inl refl
fault_leads laws (Refused (Target word cause)) c room says refusal good faulty = inl refl
fault_leads laws (Refused (Vertex number)) c room says refusal good faulty = inl refl
fault_leads laws (Refused NoMemory) c room says refusal good faulty = inr refl

-- The status of what was made says what it is.
pub encode_status_says : TextLaws → (e : Encoded) (c : Call) (before after : List ℕ) (report : Report) → EncodedSays e c (length before)
    → after ≡ bytes_after e before → report ≡ encoded_report e → EncodeStatus (encoded_status e) c before after report
encode_status_says laws e c before after report says left told = record {
  written = written_says e c before after report says left told;
  range = range_says e c (length before) report says told;
  faulty = fault_says e c (length before) report says told;
  zeros = zeros_says e report told;
  kept = kept_says e before after left;
  one_of = one_of e;
  leads = record {
    encoded = encoded_leads laws e c (length before) says;
    long = long_leads laws e c (length before) says;
    range = range_leads e c (length before) says;
    faulty = fault_leads laws e c (length before) says;
  };
}
