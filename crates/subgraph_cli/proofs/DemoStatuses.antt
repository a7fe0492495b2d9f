-- What the status of a demo says, by the cases of its end.

use Rattle.std.specs.Prelude.{◌≡◌, ◌⊎◌, Bool, true, false, ◌&&◌, List, [], ◌++◌, Result, Ok, Err, IfOk, refl}
use Rattle.std.proofs.Common.{sym, ap, subst, ◌∙◌, inl, inr, arith}
use Rattle.graph_theory.specs.Embedding.{Problem}
use Rattle.search_theory.specs.Account.{Account}
use Rattle.demo_instances.specs.SeedProblems.{IsPlanted, IsCycle}
use Rattle.command_line.specs.declared.commands.DemoWords.{DemoWords}
use Rattle.subgraph_cli.specs.Disk.{Disk}
use Rattle.subgraph_cli.specs.Streams.{Stream, Got, GotFront}
use Rattle.subgraph_cli.specs.Outcomes.{outcome}
use Rattle.subgraph_cli.specs.Solving.{IsOrStops}
use Rattle.subgraph_cli.specs.Demonstrating.{IsLogged, IsSpentOn, ShowsOne, AreLeft, DemoSays, DemoStatus, IsEnoughFor, shown_text, shown_status, demo_status}
use Rattle.subgraph_cli.specs.declared.demo.Shown.{Shown}
use Rattle.subgraph_cli.specs.declared.stop.Stop.{Stop}
use Rattle.subgraph_cli.specs.declared.stop.Stop.TheVariants.{Refused, FilesFault, OutputFault, NoMemory}

-- Accounts that were kept are left over.
pub kept_shows : (r : Result Bool Stop) (description : Problem → Type 0) (w : DemoWords) (more old new : List Account)
    → IfOk r (λ (decided : Bool). (decided ≡ false) × (new ≡ old ++ more)) → IsSpentOn description w more → ShowsOne r description w old new
kept_shows (Ok true) description w more old new kept spent = let e : true ≡ false = kept.0 in cc
kept_shows (Ok false) description w more old new kept spent = (more, spent, kept.1)
kept_shows (Err stop) description w more old new kept spent = tt

-- A list behind none is that list.
behind_none : (old new more : List Account) → old ≡ [] → new ≡ old ++ more → more ≡ new
behind_none old new more empty e = sym (e ∙ ap (λ (xs : List Account). xs ++ more) empty)

-- The accounts of the two problems, one after the other.
pub left : (planted cycle : Bool) (w : DemoWords) (old middle new : List Account) → old ≡ []
    → ShowsOne (Ok planted) (IsPlanted w.seed) w old middle → ShowsOne (Ok cycle) (IsCycle w.seed) w middle new → AreLeft planted cycle w new
left true true w old middle new empty p c = c ∙ p ∙ empty
left false true w old middle new empty p c =
    subst (λ (xs : List Account). IsSpentOn (IsPlanted w.seed) w xs) (behind_none old middle p.0 empty p.2 ∙ sym c) p.1
left true false w old middle new empty p c =
    subst (λ (xs : List Account). IsSpentOn (IsCycle w.seed) w xs) (behind_none middle new c.0 (p ∙ empty) c.2) c.1
left false false w old middle new empty p c =
    (p.0, c.0, p.1, c.1, c.2 ∙ ap (λ (xs : List Account). xs ++ c.0) (sym (behind_none old middle p.0 empty p.2)))

decided_by : (p c : Bool) (w : DemoWords) (accounts : List Account) (out : Stream) → AreLeft p c w accounts × IsLogged c w × Got out (shown_text p c) → shown_status p c ≡ 0
    → AreLeft true true w accounts × IsLogged true w × Got out (shown_text true true)
decided_by true true w accounts out says e = says
decided_by true false w accounts out says e = absurd (omega arith)
decided_by false true w accounts out says e = absurd (omega arith)
decided_by false false w accounts out says e = absurd (omega arith)

decided_says : (r : Result Shown Stop) (w : DemoWords) (accounts : List Account) (out : Stream) → DemoSays r w accounts out → demo_status r ≡ 0
    → AreLeft true true w accounts × IsLogged true w × Got out (shown_text true true)
decided_says (Ok shown) w accounts out says e = decided_by shown.planted shown.cycle w accounts out says e
decided_says (Err (Refused role fault)) w accounts out says e = absurd (omega arith)
decided_says (Err FilesFault) w accounts out says e = absurd (omega arith)
decided_says (Err OutputFault) w accounts out says e = absurd (omega arith)
decided_says (Err NoMemory) w accounts out says e = absurd (omega arith)

not_both : (p c : Bool) → shown_status p c ≡ 2 → p && c ≡ false
not_both true true e = absurd (omega arith)
not_both true false e = refl
not_both false true e = refl
not_both false false e = refl

unknown_says : (r : Result Shown Stop) (w : DemoWords) (accounts : List Account) (out : Stream) → DemoSays r w accounts out → demo_status r ≡ 2
    → (planted cycle : Bool) × (planted && cycle ≡ false) × AreLeft planted cycle w accounts × IsLogged cycle w
    × Got out (shown_text planted cycle)
unknown_says (Ok shown) w accounts out says e = (shown.planted, shown.cycle, not_both shown.planted shown.cycle e, says.0, says.1, says.2)
unknown_says (Err (Refused role fault)) w accounts out says e = absurd (omega arith)
unknown_says (Err FilesFault) w accounts out says e = absurd (omega arith)
unknown_says (Err OutputFault) w accounts out says e = absurd (omega arith)
unknown_says (Err NoMemory) w accounts out says e = absurd (omega arith)

no_fault_status : (p c : Bool) → shown_status p c ≡ 5 → ⊥
no_fault_status true true e = omega arith
no_fault_status true false e = omega arith
no_fault_status false true e = omega arith
no_fault_status false false e = omega arith

fault_says : (r : Result Shown Stop) (w : DemoWords) (accounts : List Account) (out : Stream) → DemoSays r w accounts out → demo_status r ≡ 5
    → (planted cycle : Bool) × AreLeft planted cycle w accounts × IsLogged cycle w × GotFront out (shown_text planted cycle)
fault_says (Ok shown) w accounts out says e = absurd (no_fault_status shown.planted shown.cycle e)
fault_says (Err (Refused role fault)) w accounts out says e = absurd says
fault_says (Err FilesFault) w accounts out says e = absurd says
fault_says (Err OutputFault) w accounts out says e = says
fault_says (Err NoMemory) w accounts out says e = absurd (omega arith)

shown_answers : (p c : Bool) → (shown_status p c ≡ 0) ⊎ IsOrStops 2 (shown_status p c)
shown_answers true true = inl refl
shown_answers true false = inr (inl refl)
shown_answers false true = inr (inl refl)
shown_answers false false = inr (inl refl)

answers : (r : Result Shown Stop) (w : DemoWords) (accounts : List Account) (out : Stream) → DemoSays r w accounts out → (demo_status r ≡ 0) ⊎ IsOrStops 2 (demo_status r)
answers (Ok shown) w accounts out says = shown_answers shown.planted shown.cycle
answers (Err (Refused role fault)) w accounts out says = absurd says
answers (Err FilesFault) w accounts out says = absurd says
answers (Err OutputFault) w accounts out says = inr (inr (inl refl))
answers (Err NoMemory) w accounts out says = inr (inr (inr refl))

less : (description : Problem → Type 0) (w : DemoWords) (accounts : List Account) → IsSpentOn description w accounts → IsEnoughFor description w.budget → ⊥
less description w accounts spent most =
    let h = most spent.problem spent.is_described in
    let k = spent.spent.not_enough in
    omega (arith, h, k)

both_less : (p c : Bool) (w : DemoWords) (accounts : List Account) → p && c ≡ false → AreLeft p c w accounts → IsEnoughFor (IsPlanted w.seed) w.budget → IsEnoughFor (IsCycle w.seed) w.budget → ⊥
both_less true true w accounts e left most more = cc
both_less false true w accounts e left most more = less (IsPlanted w.seed) w accounts left most
both_less true false w accounts e left most more = less (IsCycle w.seed) w accounts left more
both_less false false w accounts e left most more = less (IsPlanted w.seed) w left.0 left.2 most

-- The status of a demo says what its end says.
pub demo_status_says : (r : Result Shown Stop) (w : DemoWords) (accounts : List Account) (d : Disk) (out err : Stream)
    → DemoSays r w accounts out → DemoStatus (outcome (demo_status r) accounts d out err) w
demo_status_says r w accounts d out err says = record {
  decided = decided_says r w accounts out says;
  unknown = unknown_says r w accounts out says;
  fault = fault_says r w accounts out says;
  answered = answers r w accounts out says;
  enough = λ most more e. let u = unknown_says r w accounts out says e in both_less u.0 u.1 w accounts u.2 u.3 most more;
}
