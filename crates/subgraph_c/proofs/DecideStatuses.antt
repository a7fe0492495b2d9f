-- What the status of a decision says, by the cases of the decision.

use Rattle.std.specs.Prelude.{◌≡◌, ◌≢◌, ℕ, ◌≤◌, ◌⊎◌, List, length, Some, None, refl}
use Rattle.std.proofs.Common.{inl, inr, sym, ap, subst, ◌∙◌, arith}
use Rattle.graph_theory.specs.Graph.{size}
use Rattle.graph_theory.specs.Embedding.{Problem, Embeds, HasNone}
use Rattle.graph_theory.specs.LadFault.{TextLaws}
use Rattle.search_theory.specs.Bounds.{enough}
use Rattle.subgraph_c.specs.Asking.{Call, Asks, IsFaulty}
use Rattle.subgraph_c.specs.Reports.{FaultTold, images_report}
use Rattle.subgraph_c.specs.Deciding.{IsInRange, IsAsked, IsOutOfRange, LacksRoom, Refuted, Undecided, DecisionSays, FoundWritten, RangeTold, DecideStatus, decision_status, decision_report, images_after}
use Rattle.subgraph_c.specs.declared.passed.Report.{Report}
use Rattle.subgraph_c.specs.declared.refusal.OutOfRange.{OutOfRange}
use Rattle.subgraph_c.specs.declared.refusal.Refusal.{Refusal}
use Rattle.subgraph_c.specs.declared.refusal.Refusal.TheVariants.{Number, Pattern, Target, Vertex, NoMemory}
use Rattle.subgraph_c.specs.declared.deciding.Decision.{Decision}
use Rattle.subgraph_c.specs.declared.deciding.Decision.TheVariants.{Yes, Nothing, Unknown, Refused}
use Rattle.subgraph_c.proofs.OneProblem.{one_problem, asks_not_faulty}
use Rattle.subgraph_c.proofs.Refusals.{refusal_status_is}

-- Status 0 is that of an embedding, which is written.
yes_says : (d : Decision) (c : Call) (before after : List ℕ) (report : Report) → DecisionSays d c (length before) → after ≡ images_after d before
    → report ≡ decision_report d → decision_status d ≡ 0 → FoundWritten c before after report
yes_says (Yes m) c before after report says left told e = record { map = m.items; found = says; after_is = left; report_is = told }
yes_says Nothing c before after report says left told e = absurd (omega arith)
yes_says Unknown c before after report says left told e = absurd (omega arith)
yes_says (Refused r) c before after report says left told e = absurd (omega (arith, refusal_status_is r, e))

-- Status 1 is that of a refutation.
none_says : (d : Decision) (c : Call) (room : ℕ) → DecisionSays d c room → decision_status d ≡ 1 → Refuted c room
none_says Nothing c room says e = says
none_says (Yes m) c room says e = absurd (omega arith)
none_says Unknown c room says e = absurd (omega arith)
none_says (Refused r) c room says e = absurd (omega (arith, refusal_status_is r, e))

-- Status 2 is that of a spent budget.
unknown_says : (d : Decision) (c : Call) (room : ℕ) → DecisionSays d c room → decision_status d ≡ 2 → Undecided c room
unknown_says Unknown c room says e = says
unknown_says (Yes m) c room says e = absurd (omega arith)
unknown_says Nothing c room says e = absurd (omega arith)
unknown_says (Refused r) c room says e = absurd (omega (arith, refusal_status_is r, e))

-- Status 3 is that of a number out of range.
range_says : (d : Decision) (c : Call) (room : ℕ) (report : Report) → DecisionSays d c room → report ≡ decision_report d → decision_status d ≡ 3
    → RangeTold c room report
range_says (Refused (Number n)) c room report says told e = record { number = n; is = says; report_is = told }
range_says (Yes m) c room report says told e = absurd (omega arith)
range_says Nothing c room report says told e = absurd (omega arith)
range_says Unknown c room report says told e = absurd (omega arith)
range_says (Refused (Pattern word cause)) c room report says told e = absurd (omega arith)
range_says (Refused (Target word cause)) c room report says told e = absurd (omega arith)
range_says (Refused (Vertex number)) c room report says told e = absurd (omega arith)
range_says (Refused NoMemory) c room report says told e = absurd (omega arith)

-- Status 4 is that of a fault.
fault_says : (d : Decision) (c : Call) (room : ℕ) (report : Report) → DecisionSays d c room → report ≡ decision_report d → decision_status d ≡ 4
    → IsInRange c × FaultTold c report
fault_says (Refused (Pattern word cause)) c room report says told e = (says.0, record { refusal = Pattern word cause; is = says.1; report_is = told })
fault_says (Refused (Target word cause)) c room report says told e = (says.0, record { refusal = Target word cause; is = says.1; report_is = told })
fault_says (Refused (Vertex number)) c room report says told e = (says.0, record { refusal = Vertex number; is = says.1; report_is = told })
fault_says (Yes m) c room report says told e = absurd (omega arith)
fault_says Nothing c room report says told e = absurd (omega arith)
fault_says Unknown c room report says told e = absurd (omega arith)
fault_says (Refused (Number n)) c room report says told e = absurd (omega arith)
fault_says (Refused NoMemory) c room report says told e = absurd (omega arith)

-- Where nothing is to be told the report is zeros.
zeros_says : (d : Decision) (report : Report) → report ≡ decision_report d → (decision_status d ≡ 1) ⊎ ((decision_status d ≡ 2) ⊎ (decision_status d ≡ 6))
    → report ≡ images_report 0
zeros_says Nothing report told quiet = told
zeros_says Unknown report told quiet = told
zeros_says (Refused NoMemory) report told quiet = told
zeros_says (Yes m) report told quiet = absurd (omega (arith, quiet))
zeros_says (Refused (Number n)) report told quiet = absurd (omega (arith, quiet))
zeros_says (Refused (Pattern word cause)) report told quiet = absurd (omega (arith, quiet))
zeros_says (Refused (Target word cause)) report told quiet = absurd (omega (arith, quiet))
zeros_says (Refused (Vertex number)) report told quiet = absurd (omega (arith, quiet))

-- At every other status than 0 the images are as before.
kept_says : (d : Decision) (before after : List ℕ) → after ≡ images_after d before → decision_status d ≢ 0 → after ≡ before
kept_says (Yes m) before after left other = absurd (other refl)
kept_says Nothing before after left other = left
kept_says Unknown before after left other = left
kept_says (Refused r) before after left other = left

-- A decision has one of six statuses.
one_of : (d : Decision) → (decision_status d ≤ 4) ⊎ (decision_status d ≡ 6)
one_of (Yes m) = inl (omega arith)
one_of Nothing = inl (omega arith)
one_of Unknown = inl (omega arith)
one_of (Refused (Number n)) = inl (omega arith)
one_of (Refused (Pattern word cause)) = inl (omega arith)
one_of (Refused (Target word cause)) = inl (omega arith)
one_of (Refused (Vertex number)) = inl (omega arith)
one_of (Refused NoMemory) = inr refl

-- A problem that is asked with room for its images has no number out of range.
all_in_range : TextLaws → (c : Call) (room : ℕ) (q : Problem) (n : OutOfRange) → IsAsked c room q → IsOutOfRange c room n → ⊥
all_in_range laws c room q n asked (inl bad) = let no : None ≡ Some n = sym asked.in_range.question ∙ bad in cc
all_in_range laws c room q n asked (inr (inl bad)) = let no : None ≡ Some n = sym asked.in_range.search ∙ bad.1 in cc
all_in_range laws c room q n asked (inr (inr bad)) =
    let same : size bad.1.problem.pattern ≡ size q.pattern = ap (λ (p : Problem). size p.pattern) (one_problem laws c bad.1.problem q bad.1.asks asked.asks) in
    omega (arith, same, bad.1.short, asked.fits)

-- A problem that is asked is decided, or memory was refused.
answered_leads : TextLaws → (d : Decision) (c : Call) (room : ℕ) → DecisionSays d c room → (q : Problem) → IsAsked c room q
    → (decision_status d ≡ 0) ⊎ ((decision_status d ≡ 1) ⊎ ((decision_status d ≡ 2) ⊎ (decision_status d ≡ 6)))
answered_leads laws (Yes m) c room says q asked = inl refl
answered_leads laws Nothing c room says q asked = inr (inl refl)
answered_leads laws Unknown c room says q asked = inr (inr (inl refl))
answered_leads laws (Refused (Number n)) c room says q asked = absurd (all_in_range laws c room q n asked says)
answered_leads laws (Refused (Pattern word cause)) c room says q asked = absurd (asks_not_faulty laws c q (Pattern word cause) asked.asks says.1)
answered_leads laws (Refused (Target word cause)) c room says q asked = absurd (asks_not_faulty laws c q (Target word cause) asked.asks says.1)
answered_leads laws (Refused (Vertex number)) c room says q asked = absurd (asks_not_faulty laws c q (Vertex number) asked.asks says.1)
answered_leads laws (Refused NoMemory) c room says q asked = inr (inr (inr refl))

-- Where an embedding exists none is not told.
found_leads : TextLaws → (d : Decision) (c : Call) (room : ℕ) → DecisionSays d c room → (q : Problem) (m : List ℕ) → Asks c q → Embeds q m
    → decision_status d ≢ 1
found_leads laws Nothing c room says q m asks embeds e =
    says.none m (subst (λ (p : Problem). Embeds p m) (one_problem laws c q says.problem asks says.asked.asks) embeds)
found_leads laws (Yes n) c room says q m asks embeds e = omega arith
found_leads laws Unknown c room says q m asks embeds e = omega arith
found_leads laws (Refused r) c room says q m asks embeds e = omega (arith, refusal_status_is r, e)

-- Where none exists none is told.
none_leads : TextLaws → (d : Decision) (c : Call) (room : ℕ) → DecisionSays d c room → (q : Problem) → Asks c q → HasNone q → decision_status d ≢ 0
none_leads laws (Yes m) c room says q asks none e =
    none m.items (subst (λ (p : Problem). Embeds p m.items) (one_problem laws c says.problem q says.asked.asks asks) says.embeds)
none_leads laws Nothing c room says q asks none e = omega arith
none_leads laws Unknown c room says q asks none e = omega arith
none_leads laws (Refused r) c room says q asks none e = omega (arith, refusal_status_is r, e)

-- A budget that is enough is not spent.
enough_leads : TextLaws → (d : Decision) (c : Call) (room : ℕ) → DecisionSays d c room → (q : Problem) → Asks c q
    → enough (size q.pattern) (size q.target) ≤ c.options.budget → decision_status d ≢ 2
enough_leads laws Unknown c room says q asks much e =
    let same : enough (size says.problem.pattern) (size says.problem.target) ≡ enough (size q.pattern) (size q.target) =
    ap (λ (p : Problem). enough (size p.pattern) (size p.target)) (one_problem laws c says.problem q says.asked.asks asks) in
    omega (arith, same, says.not_enough, much)
enough_leads laws (Yes m) c room says q asks much e = omega arith
enough_leads laws Nothing c room says q asks much e = omega arith
enough_leads laws (Refused r) c room says q asks much e = omega (arith, refusal_status_is r, e)

-- A problem that is asked with room does not lack it.
has_room : TextLaws → (c : Call) (room : ℕ) (q : Problem) → IsAsked c room q → LacksRoom c room → ⊥
has_room laws c room q asked lacks =
    let same : size lacks.problem.pattern ≡ size q.pattern = ap (λ (p : Problem). size p.pattern) (one_problem laws c lacks.problem q lacks.asks asked.asks) in
    omega (arith, same, lacks.short, asked.fits)

-- Want of room is told.
room_leads : TextLaws → (d : Decision) (c : Call) (room : ℕ) → DecisionSays d c room → LacksRoom c room → (decision_status d ≡ 3) ⊎ (decision_status d ≡ 6)
room_leads laws (Yes m) c room says lacks = absurd (has_room laws c room says.problem says.asked lacks)
room_leads laws Nothing c room says lacks = absurd (has_room laws c room says.problem says.asked lacks)
room_leads laws Unknown c room says lacks = absurd (has_room laws c room says.problem says.asked lacks)
room_leads laws (Refused (Number n)) c room says lacks = inl refl
room_leads laws (Refused (Pattern word cause)) c room says lacks = absurd (asks_not_faulty laws c lacks.problem (Pattern word cause) lacks.asks says.1)
room_leads laws (Refused (Target word cause)) c room says lacks = absurd (asks_not_faulty laws c lacks.problem (Target word cause) lacks.asks says.1)
room_leads laws (Refused (Vertex number)) c room says lacks = absurd (asks_not_faulty laws c lacks.problem (Vertex number) lacks.asks says.1)
room_leads laws (Refused NoMemory) c room says lacks = inr refl

-- A number out of range is told.
range_leads : (d : Decision) (c : Call) (room : ℕ) → DecisionSays d c room → (IsInRange c → ⊥) → decision_status d ≡ 3
range_leads (Yes m) c room says out = absurd (out says.asked.in_range)
range_leads Nothing c room says out = absurd (out says.asked.in_range)
range_leads Unknown c room says out = absurd (out says.asked.in_range)
range_leads (Refused (Number n)) c room says out = refl
range_leads (Refused (Pattern word cause)) c room says out = absurd (out says.0)
range_leads (Refused (Target word cause)) c room says out = absurd (out says.0)
range_leads (Refused (Vertex number)) c room says out = absurd (out says.0)
range_leads (Refused NoMemory) c room says out = absurd (out says)

-- Numbers that are in range leave a fault only of the room, for which there is a problem.
not_faulty : TextLaws → (c : Call) (room : ℕ) (n : OutOfRange) (refusal : Refusal) → IsInRange c → IsOutOfRange c room n → IsFaulty c refusal → ⊥
not_faulty laws c room n refusal good (inl bad) faulty = let no : None ≡ Some n = sym good.question ∙ bad in cc
not_faulty laws c room n refusal good (inr (inl bad)) faulty = let no : None ≡ Some n = sym good.search ∙ bad.1 in cc
not_faulty laws c room n refusal good (inr (inr bad)) faulty = asks_not_faulty laws c bad.1.problem refusal bad.1.asks faulty

-- A fault is told.
fault_leads : TextLaws → (d : Decision) (c : Call) (room : ℕ) → DecisionSays d c room → (refusal : Refusal) → IsInRange c → IsFaulty c refusal
    → (decision_status d ≡ 4) ⊎ (decision_status d ≡ 6)
fault_leads laws (Yes m) c room says refusal good faulty = absurd (asks_not_faulty laws c says.problem refusal says.asked.asks faulty)
fault_leads laws Nothing c room says refusal good faulty = absurd (asks_not_faulty laws c says.problem refusal says.asked.asks faulty)
fault_leads laws Unknown c room says refusal good faulty = absurd (asks_not_faulty laws c says.problem refusal says.asked.asks faulty)
fault_leads laws (Refused (Number n)) c room says refusal good faulty = absurd (not_faulty laws c room n refusal good says faulty)
fault_leads laws (Refused (Pattern word cause)) c room says refusal good faulty = inl refl
fault_leads laws (Refused (Target word cause)) c room says refusal good faulty = inl refl
fault_leads laws (Refused (Vertex number)) c room says refusal good faulty = inl refl
fault_leads laws (Refused NoMemory) c room says refusal good faulty = inr refl

-- The status of a decision says what the decision says.
pub decide_status_says : TextLaws → (d : Decision) (c : Call) (before after : List ℕ) (report : Report) → DecisionSays d c (length before)
    → after ≡ images_after d before → report ≡ decision_report d → DecideStatus (decision_status d) c before after report
decide_status_says laws d c before after report says left told = record {
  yes = yes_says d c before after report says left told;
  none = none_says d c (length before) says;
  unknown = unknown_says d c (length before) says;
  range = range_says d c (length before) report says told;
  faulty = fault_says d c (length before) report says told;
  zeros = zeros_says d report told;
  kept = kept_says d before after left;
  one_of = one_of d;
  leads = record {
    answered = answered_leads laws d c (length before) says;
    found = found_leads laws d c (length before) says;
    none = none_leads laws d c (length before) says;
    enough = enough_leads laws d c (length before) says;
    no_room = room_leads laws d c (length before) says;
    range = range_leads d c (length before) says;
    faulty = fault_leads laws d c (length before) says;
  };
}
