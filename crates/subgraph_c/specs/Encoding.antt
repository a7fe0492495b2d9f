-- What a call that writes an encoding answers.

use Rattle.std.specs.Prelude.{◌≡◌, ◌≢◌, ℕ, ◌<◌, ◌≤◌, ◌⊎◌, List, ◌++◌, length, drop, None}
use Rattle.graph_theory.specs.Embedding.{Problem}
use Rattle.pb_encoding.specs.Writing.{encoding_text}
use Rattle.subgraph_c.specs.Asking.{Call, Asks, IsFaulty, bad_question}
use Rattle.subgraph_c.specs.Reports.{refusal_status, refusal_report, images_report, long_report, FaultTold}
use Rattle.subgraph_c.specs.Verifying.{IsUntested, QuestionTold}
use Rattle.subgraph_c.specs.declared.encoding.Encoded.{Encoded}
use Rattle.subgraph_c.specs.declared.encoding.Encoded.TheVariants.{Text, TooLong, Refused}
use Rattle.subgraph_c.specs.declared.passed.Report.{Report}
use Rattle.subgraph_c.specs.declared.refusal.Refusal.{Refusal}
use Rattle.subgraph_c.specs.declared.refusal.Refusal.TheVariants.{NoMemory}

-- This is the text of the encoding of the problem that is asked.
pub record IsEncoding (c : Call) (text : List ℕ) : Type 0 where
  pub problem : Problem
  pub asks : Asks c problem
  pub text_is : text ≡ encoding_text problem

-- The text has so many bytes, which is more than there is room for.
pub record LacksBytes (c : Call) (room count : ℕ) : Type 0 where
  pub text : List ℕ
  pub is : IsEncoding c text
  pub count_is : count ≡ length text
  pub long : room < length text

-- There is room for the encoding.
pub record FitsBytes (c : Call) (room : ℕ) (text : List ℕ) : Type 0 where
  pub is : IsEncoding c text
  pub fits : length text ≤ room

-- What is made of a problem, where there is room for so many bytes.
abbrev pub MadeOf : Encoded → Problem → ℕ → Type 0
MadeOf (Text t) q room = (t.bytes ≡ encoding_text q) × (length t.bytes ≤ room)
MadeOf (TooLong count) q room =
    (count ≡ length (encoding_text q)) × (room < length (encoding_text q))
MadeOf (Refused refusal) q room = refusal ≡ NoMemory

-- What is made of a call, where there is room for so many bytes.
abbrev pub EncodedSays : Encoded → Call → ℕ → Type 0
EncodedSays (Text t) c room = FitsBytes c room t.bytes
EncodedSays (TooLong count) c room = LacksBytes c room count
EncodedSays (Refused refusal) c room = IsUntested c refusal

-- There is room for what is written.
abbrev pub HasRoom : Encoded → ℕ → Type 0
HasRoom (Text t) room = length t.bytes ≤ room
HasRoom (TooLong count) room = Unit {0}
HasRoom (Refused refusal) room = Unit {0}

-- The status of it, its report, and the bytes that it leaves.
abbrev pub encoded_status : Encoded → ℕ
encoded_status (Text t) = 0
encoded_status (TooLong count) = 3
encoded_status (Refused refusal) = refusal_status refusal

abbrev pub encoded_report : Encoded → Report
encoded_report (Text t) = images_report (length t.bytes)
encoded_report (TooLong count) = long_report count
encoded_report (Refused refusal) = refusal_report refusal

abbrev pub bytes_after : Encoded → List ℕ → List ℕ
bytes_after (Text t) before = t.bytes ++ drop (length t.bytes) before
bytes_after (TooLong count) before = before
bytes_after (Refused refusal) before = before

-- The encoding is written to the front of the bytes.
pub record TextWritten (c : Call) (before after : List ℕ) (report : Report) : Type 0 where
  pub text : List ℕ
  pub is : IsEncoding c text
  pub fits : length text ≤ length before
  pub after_is : after ≡ text ++ drop (length text) before
  pub report_is : report ≡ images_report (length text)

-- The encoding has no room, and the report tells how many bytes it has.
pub record LengthTold (c : Call) (room : ℕ) (report : Report) : Type 0 where
  pub count : ℕ
  pub is : LacksBytes c room count
  pub report_is : report ≡ long_report count

-- What a call leads to.
pub record EncodeLeads (status : ℕ) (c : Call) (room : ℕ) : Type 0 where
  pub encoded : (q : Problem) → Asks c q → length (encoding_text q) ≤ room
      → (status ≡ 0) ⊎ (status ≡ 6)
  pub long : (q : Problem) → Asks c q → room < length (encoding_text q)
      → (status ≡ 3) ⊎ (status ≡ 6)
  pub range : (bad_question c.options c.less ≡ None → ⊥) → status ≡ 3
  pub faulty : (refusal : Refusal) → bad_question c.options c.less ≡ None → IsFaulty c refusal
      → (status ≡ 4) ⊎ (status ≡ 6)

-- What the status of a call says of what was passed, of the bytes and of the report.
pub record EncodeStatus (status : ℕ) (c : Call) (before after : List ℕ)
    (report : Report) : Type 0 where
  pub written : status ≡ 0 → TextWritten c before after report
  pub range : status ≡ 3 → QuestionTold c report ⊎ LengthTold c (length before) report
  pub faulty : status ≡ 4 → (bad_question c.options c.less ≡ None) × FaultTold c report
  pub zeros : status ≡ 6 → report ≡ images_report 0
  pub kept : status ≢ 0 → after ≡ before
  pub one_of : (status ≡ 0) ⊎ ((status ≡ 3) ⊎ ((status ≡ 4) ⊎ (status ≡ 6)))
  pub leads : EncodeLeads status c (length before)
