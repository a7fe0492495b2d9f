-- What is decided of a target that is held, and what the status says of it.

use Rattle.std.specs.Prelude.{◌≡◌, ℕ, ◌≤◌, Bool, true, List, Option, Some, None, Result, Ok, Err, IfOk, IfErr, length, refl}
use Rattle.std.proofs.Common.{sym, ap, subst, ◌∙◌, inl, inr}
use Rattle.graph_theory.specs.Text.{words}
use Rattle.graph_theory.specs.Graph.{Graph, size}
use Rattle.graph_theory.specs.GraphText.{ReadsGraph}
use Rattle.graph_theory.specs.LadFault.{TextLaws}
use Rattle.graph_theory.specs.Embedding.{Problem}
use Rattle.graph_theory.specs.declared.lad_text.LadKind.{LadKind}
use Rattle.parallel_solve.specs.declared.answers.Interrupted.{Interrupted}
use Rattle.target_handle.specs.Target.{Target}
use Rattle.subgraph_c.specs.Asking.{Asks, call, problem_of}
use Rattle.subgraph_c.specs.Deciding.{IsInRange, RoomSays, decision_status, decision_report, images_after}
use Rattle.subgraph_c.specs.Holding.{IsTextOf, HasFormat, Premises, HeldSays, HeldStatus}
use Rattle.subgraph_c.specs.Stopping.{IsHeldGood, HeldEndSays, HeldStopStatus, end_status, end_report, images_at_end}
use Rattle.subgraph_c.specs.declared.deciding.Decision.{Decision}
use Rattle.subgraph_c.specs.declared.deciding.Decision.TheVariants.{Refused}
use Rattle.subgraph_c.specs.declared.passed.Options.{Options}
use Rattle.subgraph_c.specs.declared.passed.Pair.{Pair}
use Rattle.subgraph_c.specs.declared.passed.Report.{Report}
use Rattle.subgraph_c.specs.declared.refusal.OutOfRange.TheVariants.{Format}
use Rattle.subgraph_c.specs.declared.refusal.Refusal.TheVariants.{Number}
use Rattle.subgraph_c.proofs.Decided.{room_decision_of}
use Rattle.subgraph_c.proofs.DecideStatuses.{decide_status_says}

-- What a handle holds is one target.
held_once : (u v : Target) → Some u ≡ Some v → u ≡ v
held_once u v e = cc

-- What was read, with a text of the target, is a call that asks the problem.
asks_held : (g : Graph) (pairs : List (ℕ × ℕ)) (t : Target) (pattern text : List ℕ) (o : Options) (less : List Pair) → Premises g pairs pattern o less
    → HasFormat o t → IsTextOf text t → Asks (call pattern text o less) (problem_of g t.graph o less)
asks_held g pairs t pattern text o less read format is_text = record {
  in_range = read.question;
  pattern_is = read.pattern_is;
  target_is = subst (λ (kind : LadKind). ReadsGraph (words text) kind 8192 t.graph) (sym format.kind_is) is_text;
  induced_is = refl;
  maps_are = refl;
  less_is = refl;
  vertices = read.vertices;
}

-- Numbers of what was read are in range, whatever the target's text is.
in_range_held : (g : Graph) (pairs : List (ℕ × ℕ)) (pattern text : List ℕ) (o : Options) (less : List Pair) → Premises g pairs pattern o less
    → IsInRange (call pattern text o less)
in_range_held g pairs pattern text o less read = record { question = read.question; search = read.search }

-- What is decided of the problem is decided of the call with each text of the target.
held_says : (d : Decision) (g : Graph) (pairs : List (ℕ × ℕ)) (t : Target) (pattern : List ℕ) (o : Options) (less : List Pair) (room : ℕ) (q : Problem)
    → Premises g pairs pattern o less → HasFormat o t → q ≡ problem_of g t.graph o less → RoomSays d q o.budget room → HeldSays d t pattern o less room
held_says d g pairs t pattern o less room q read format is says = record {
  other = λ bad. absurd (bad format);
  same = λ format text is_text.
      room_decision_of d (call pattern text o less) room (problem_of g t.graph o less) (asks_held g pairs t pattern text o less read format is_text)
      (in_range_held g pairs pattern text o less read) (subst (λ (p : Problem). RoomSays d p o.budget room) is says);
}

-- A problem with room for its images is that of a good call with each text of the target.
held_good : (g : Graph) (pairs : List (ℕ × ℕ)) (t : Target) (pattern : List ℕ) (o : Options) (less : List Pair) (room : ℕ) (q : Problem)
    → Premises g pairs pattern o less → HasFormat o t → q ≡ problem_of g t.graph o less → size q.pattern ≤ room → IsHeldGood t pattern o less room
held_good g pairs t pattern o less room q read format is fits = record {
  format = format;
  good = λ text is_text. (
    problem_of g t.graph o less,
    record {
      asks = asks_held g pairs t pattern text o less read format is_text;
      in_range = in_range_held g pairs pattern text o less read;
      fits = subst (λ (p : Problem). size p.pattern ≤ room) is fits;
    },
  );
}

-- What a search of the problem at a gate says, it says of the call with each text of the target.
pub held_end_says : (e : Result Decision Interrupted) (g : Graph) (pairs : List (ℕ × ℕ)) (t : Target) (pattern : List ℕ) (o : Options) (less : List Pair)
    (room : ℕ) (q : Problem) → Premises g pairs pattern o less → HasFormat o t → q ≡ problem_of g t.graph o less
    → IfOk e (λ d. RoomSays d q o.budget room) → IfErr e (λ _. size q.pattern ≤ room) → HeldEndSays e t pattern o less room
held_end_says (Ok d) g pairs t pattern o less room q read format is says fits = held_says d g pairs t pattern o less room q read format is says
held_end_says (Err i) g pairs t pattern o less room q read format is says fits = held_good g pairs t pattern o less room q read format is fits

-- The status of a decision says what the decision says of each text of the target.
pub held_status_says : TextLaws → (d : Decision) (held : Option Target) (t : Target) → held ≡ Some t → (pattern : List ℕ) (o : Options) (less : List Pair)
    (before after : List ℕ) (report : Report) → HeldSays d t pattern o less (length before) → after ≡ images_after d before → report ≡ decision_report d
    → HeldStatus (decision_status d) held pattern o less before after report
held_status_says laws d held t is pattern o less before after report says left told = record {
  closed = λ none. let clash : None ≡ Some t = sym none ∙ is in cc;
  other = λ u there bad. let same : u ≡ t = held_once u t (sym there ∙ is) in
      let refused : d ≡ Refused (Number Format) = says.other (subst (λ (v : Target). HasFormat o v → ⊥) same bad) in
      record {
        status_is = ap decision_status refused;
        report_is = told ∙ ap decision_report refused;
        kept = left ∙ ap (λ (e : Decision). images_after e before) refused;
      };
  decided = λ u there format text is_text. let same : u ≡ t = held_once u t (sym there ∙ is) in
      decide_status_says laws d (call pattern text o less) before after report
      (says.same (subst (λ (v : Target). HasFormat o v) same format) text (subst (λ (v : Target). IsTextOf text v) same is_text)) left told;
}

-- The status of a call that may be ended says what is said of it.
pub held_stop_status_says : TextLaws → (e : Result Decision Interrupted) (held : Option Target) (t : Target) → held ≡ Some t → (pattern : List ℕ)
    (o : Options) (less : List Pair) (there : Bool) (before after : List ℕ) (report : Report) → HeldEndSays e t pattern o less (length before)
    → IfErr e (λ _. there ≡ true) → after ≡ images_at_end e before → report ≡ end_report e
    → HeldStopStatus (end_status e) held pattern o less there before after report
held_stop_status_says laws (Ok d) held t is pattern o less there before after report says up left told =
    inr (held_status_says laws d held t is pattern o less before after report says left told)
held_stop_status_says laws (Err i) held t is pattern o less there before after report says up left told = inl (
  refl,
  record {
    there_is = up;
    target = t;
    held_is = is;
    good = says;
    kept = left;
    report_is = told;
  },
)
