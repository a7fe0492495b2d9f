-- What the status of a call that opens a target says, by the cases of its outcome.

use Rattle.std.specs.Prelude.{◌≡◌, ◌≢◌, ℕ, ◌≤◌, ◌<◌, ◌⊎◌, List, Option, Some, None, Result, Ok, Err, refl}
use Rattle.std.proofs.Common.{inl, inr, sym, subst, ◌∙◌, arith}
use Rattle.graph_theory.specs.Text.{words}
use Rattle.graph_theory.specs.GraphText.{ReadsGraph}
use Rattle.graph_theory.specs.LadFault.{TextLaws}
use Rattle.graph_theory.specs.declared.lad_text.LadCause.{LadCause}
use Rattle.graph_theory.specs.declared.lad_text.LadKind.{LadKind}
use Rattle.target_handle.specs.Target.{Target}
use Rattle.subgraph_c.specs.Asking.{format_of}
use Rattle.subgraph_c.specs.Reports.{images_report}
use Rattle.subgraph_c.specs.Holding.{IsRead, IsUnreadable, IsHeld, OpenSays, OpenRangeTold, OpenFaultTold, OpenStatus, open_status, open_report}
use Rattle.subgraph_c.specs.declared.passed.Report.{Report}
use Rattle.subgraph_c.specs.declared.refusal.Refusal.{Refusal}
use Rattle.subgraph_c.specs.declared.refusal.Refusal.TheVariants.{Number, Pattern, Target as InTarget, Vertex, NoMemory}
use Rattle.subgraph_c.proofs.Refusals.{refusal_status_is}

abbrev Outcome : Type 0
Outcome = Result (Unit {0}) Refusal

-- A handle that holds a target is not one that holds none.
holds : (before : Option Target) (t : Target) → before ≡ Some t → before ≡ None → ⊥
holds before t some none = let clash : None ≡ Some t = sym none ∙ some in cc

-- A text that is read has no faulty word.
read_not_faulty : TextLaws → (t : Target) (text : List ℕ) (format word : ℕ) (cause : LadCause) → IsRead t text format → IsUnreadable text format word cause → ⊥
read_not_faulty laws t text format word cause read bad =
    let reads : ReadsGraph (words text) (format_of format) 8192 t.graph =
    subst (λ (kind : LadKind). ReadsGraph (words text) kind 8192 t.graph) read.kind_is read.text_is in
    laws.no_fault (words text) (format_of format) 8192 _ word cause reads.reads bad.fault

-- Status 0 is that of a target which is held.
opened_says : (r : Outcome) (text : List ℕ) (format : ℕ) (before after : Option Target) → OpenSays r text format before after → open_status r ≡ 0
    → IsHeld after text format
opened_says (Ok u) text format before after says e = says.1
opened_says (Err r) text format before after says e = absurd (omega (arith, refusal_status_is r, e))

-- Status 3 is that of a number out of range.
range_says : (r : Outcome) (text : List ℕ) (format : ℕ) (before after : Option Target) (report : Report) → OpenSays r text format before after → report ≡ open_report r
    → open_status r ≡ 3 → OpenRangeTold format before report
range_says (Err (Number n)) text format before after report says told e = record { number = n; is = says.1; report_is = told }
range_says (Ok u) text format before after report says told e = absurd (omega arith)
range_says (Err (Pattern word cause)) text format before after report says told e = absurd (omega arith)
range_says (Err (InTarget word cause)) text format before after report says told e = absurd (omega arith)
range_says (Err (Vertex number)) text format before after report says told e = absurd (omega arith)
range_says (Err NoMemory) text format before after report says told e = absurd (omega arith)

-- Status 4 is that of a fault.
fault_says : (r : Outcome) (text : List ℕ) (format : ℕ) (before after : Option Target) (report : Report) → OpenSays r text format before after → report ≡ open_report r
    → open_status r ≡ 4 → OpenFaultTold text format report
fault_says (Err (InTarget word cause)) text format before after report says told e = record { word = word; cause = cause; is = says.1.1; report_is = told }
fault_says (Err (Pattern word cause)) text format before after report says told e = absurd says.1.1
fault_says (Err (Vertex number)) text format before after report says told e = absurd says.1.1
fault_says (Ok u) text format before after report says told e = absurd (omega arith)
fault_says (Err (Number n)) text format before after report says told e = absurd (omega arith)
fault_says (Err NoMemory) text format before after report says told e = absurd (omega arith)

-- Where nothing is to be told the report is zeros.
zeros_says : (r : Outcome) (report : Report) → report ≡ open_report r → (open_status r ≡ 0) ⊎ (open_status r ≡ 6) → report ≡ images_report 0
zeros_says (Ok u) report told quiet = told
zeros_says (Err NoMemory) report told quiet = told
zeros_says (Err (Number n)) report told quiet = absurd (omega (arith, quiet))
zeros_says (Err (Pattern word cause)) report told quiet = absurd (omega (arith, quiet))
zeros_says (Err (InTarget word cause)) report told quiet = absurd (omega (arith, quiet))
zeros_says (Err (Vertex number)) report told quiet = absurd (omega (arith, quiet))

-- At every other status than 0 the handle holds what it held.
kept_says : (r : Outcome) (text : List ℕ) (format : ℕ) (before after : Option Target) → OpenSays r text format before after → open_status r ≢ 0 → after ≡ before
kept_says (Ok u) text format before after says other = absurd (other refl)
kept_says (Err (Number n)) text format before after says other = says.0
kept_says (Err (Pattern word cause)) text format before after says other = says.0
kept_says (Err (InTarget word cause)) text format before after says other = says.0
kept_says (Err (Vertex number)) text format before after says other = says.0
kept_says (Err NoMemory) text format before after says other = says.0

-- An outcome has one of four statuses.
one_of : (r : Outcome) → (open_status r ≡ 0) ⊎ ((open_status r ≡ 3) ⊎ ((open_status r ≡ 4) ⊎ (open_status r ≡ 6)))
one_of (Ok u) = inl refl
one_of (Err r) = inr (refusal_status_is r)

-- A target that is held already is told.
held_leads : (r : Outcome) (text : List ℕ) (format : ℕ) (before after : Option Target) → OpenSays r text format before after
    → (t : Target) → before ≡ Some t → open_status r ≡ 3
held_leads (Ok u) text format before after says t some = absurd (holds before t some says.0)
held_leads (Err (Number n)) text format before after says t some = refl
held_leads (Err (Pattern word cause)) text format before after says t some = absurd says.1.1
held_leads (Err (InTarget word cause)) text format before after says t some = absurd (holds before t some says.1.0)
held_leads (Err (Vertex number)) text format before after says t some = absurd says.1.1
held_leads (Err NoMemory) text format before after says t some = absurd (holds before t some says.1.0)

-- A number that names no format is told.
range_leads : (r : Outcome) (text : List ℕ) (format : ℕ) (before after : Option Target) → OpenSays r text format before after → 3 < format → open_status r ≡ 3
range_leads (Ok u) text format before after says high = absurd (omega (arith, says.1.read.known, high))
range_leads (Err (Number n)) text format before after says high = refl
range_leads (Err (Pattern word cause)) text format before after says high = absurd says.1.1
range_leads (Err (InTarget word cause)) text format before after says high = absurd (omega (arith, says.1.1.known, high))
range_leads (Err (Vertex number)) text format before after says high = absurd says.1.1
range_leads (Err NoMemory) text format before after says high = absurd (omega (arith, says.1.1, high))

-- A number is out of range only where a target is held or the format is none.
number_leads : (format : ℕ) (before : Option Target) {A B C : Type 0} → (A × ((t : Target) × (before ≡ Some t))) ⊎ (B × (C × (3 < format))) → before ≡ None → format ≤ 3 → ⊥
number_leads format before (inl x) none known = holds before x.1.0 x.1.1 none
number_leads format before (inr x) none known = omega (arith, x.1.1, known)

-- A text of a target is opened, or memory was refused.
read_leads : TextLaws → (r : Outcome) (text : List ℕ) (format : ℕ) (before after : Option Target) → OpenSays r text format before after
    → (t : Target) → before ≡ None → IsRead t text format → (open_status r ≡ 0) ⊎ (open_status r ≡ 6)
read_leads laws (Ok u) text format before after says t none read = inl refl
read_leads laws (Err (Number n)) text format before after says t none read = absurd (number_leads format before says.1 none read.known)
read_leads laws (Err (Pattern word cause)) text format before after says t none read = absurd says.1.1
read_leads laws (Err (InTarget word cause)) text format before after says t none read = absurd (read_not_faulty laws t text format word cause read says.1.1)
read_leads laws (Err (Vertex number)) text format before after says t none read = absurd says.1.1
read_leads laws (Err NoMemory) text format before after says t none read = inr refl

-- A fault is told, or memory was refused.
fault_leads : TextLaws → (r : Outcome) (text : List ℕ) (format : ℕ) (before after : Option Target) → OpenSays r text format before after
    → (word : ℕ) (cause : LadCause) → before ≡ None → IsUnreadable text format word cause → (open_status r ≡ 4) ⊎ (open_status r ≡ 6)
fault_leads laws (Ok u) text format before after says word cause none bad = absurd (read_not_faulty laws says.1.target text format word cause says.1.read bad)
fault_leads laws (Err (Number n)) text format before after says word cause none bad = absurd (number_leads format before says.1 none bad.known)
fault_leads laws (Err (Pattern w c)) text format before after says word cause none bad = absurd says.1.1
fault_leads laws (Err (InTarget w c)) text format before after says word cause none bad = inl refl
fault_leads laws (Err (Vertex number)) text format before after says word cause none bad = absurd says.1.1
fault_leads laws (Err NoMemory) text format before after says word cause none bad = inr refl

-- The status of an outcome says what the outcome says.
pub open_status_says : TextLaws → (r : Outcome) (text : List ℕ) (format : ℕ) (before after : Option Target) (report : Report)
    → OpenSays r text format before after → report ≡ open_report r → OpenStatus (open_status r) text format before after report
open_status_says laws r text format before after report says told = record {
  opened = opened_says r text format before after says;
  range = range_says r text format before after report says told;
  faulty = fault_says r text format before after report says told;
  zeros = zeros_says r report told;
  kept = kept_says r text format before after says;
  one_of = one_of r;
  leads = record {
    held = held_leads r text format before after says;
    range = range_leads r text format before after says;
    read = read_leads laws r text format before after says;
    faulty = fault_leads laws r text format before after says;
  };
}
