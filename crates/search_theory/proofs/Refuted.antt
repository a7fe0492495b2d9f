-- What lawful events reach holds only dead values refuted.

use Rattle.std.proofs.Common.{◌≡◌, ℕ, Bool, true, false, nat_lt, if◌then◌else◌, List, [], ◌∷◌, ◌++◌, Option, Some, None, refl, sym, ap, ◌∙◌, subst, append_assoc}
use Rattle.std.proofs.lemmas.List.{append-nil}
use Rattle.graph_theory.specs.Graph.{size}
use Rattle.graph_theory.specs.Embedding.{Problem}
use Rattle.graph_theory.specs.Path.{Dead}
use Rattle.search_theory.specs.Account.{Step, Account, path_of, path, fresh, IsAt, inserted, deepened, failed, restarted, Event, Deepen, Fail, Restart, Happens, Leads, Reached, AllDead, LawfulSteps, LawfulLevel, Lawful}
use Rattle.search_theory.specs.Laws.{AccountLaws}
use Rattle.search_theory.proofs.Enough.{spent_below}
use Rattle.search_theory.proofs.Cutoffs.{refuted_at_cutoff}

-- the path with one level more
pub path_of_push : (ss : List Step) (s : Step) → path_of (ss ++ s ∷ []) ≡ path_of ss ++ (s.vertex, s.value) ∷ []
path_of_push [] s = refl
path_of_push (r ∷ rs) s = ap (λ (xs : List (ℕ × ℕ)). (r.vertex, r.value) ∷ xs) (path_of_push rs s)

-- one dead value more among dead ones
pub all_dead_inserted : (q : Problem) (above : List (ℕ × ℕ)) (p t : ℕ) (us : List ℕ) → AllDead q above p us → Dead q (above ++ (p, t) ∷ []) → AllDead q above p (inserted t us)
all_dead_inserted q above p t [] all dead = (dead, tt)
all_dead_inserted q above p t (u ∷ us) all dead = by_test (nat_lt t u) (all_dead_inserted q above p t us all.1 dead)
  where
    by_test : (b : Bool) → AllDead q above p (inserted t us) → AllDead q above p (if b then t ∷ u ∷ us else u ∷ inserted t us)
    by_test true _ = (dead, all)
    by_test false more = (all.0, more)

-- a level more at the end
lawful_steps_push : (q : Problem) (above : List (ℕ × ℕ)) (ss : List Step) (s : Step) → LawfulSteps q above ss → AllDead q (above ++ path_of ss) s.vertex s.refuted
    → LawfulSteps q above (ss ++ s ∷ [])
lawful_steps_push q above [] s steps last = (subst (λ (xs : List (ℕ × ℕ)). AllDead q xs s.vertex s.refuted) (append-nil above) last, tt)
lawful_steps_push q above (r ∷ rs) s steps last = (
  steps.0,
  lawful_steps_push q (above ++ (r.vertex, r.value) ∷ []) rs s steps.1
      (subst (λ (xs : List (ℕ × ℕ)). AllDead q xs s.vertex s.refuted) (sym (append_assoc above ((r.vertex, r.value) ∷ []) (path_of rs))) last),
)

-- the levels above the last one
lawful_steps_front : (q : Problem) (above : List (ℕ × ℕ)) (ss : List Step) (s : Step) → LawfulSteps q above (ss ++ s ∷ []) → LawfulSteps q above ss
lawful_steps_front q above [] s steps = tt
lawful_steps_front q above (r ∷ rs) s steps = (steps.0, lawful_steps_front q (above ++ (r.vertex, r.value) ∷ []) rs s steps.1)

-- and the last one
lawful_steps_last : (q : Problem) (above : List (ℕ × ℕ)) (ss : List Step) (s : Step) → LawfulSteps q above (ss ++ s ∷ []) → AllDead q (above ++ path_of ss) s.vertex s.refuted
lawful_steps_last q above [] s steps = subst (λ (xs : List (ℕ × ℕ)). AllDead q xs s.vertex s.refuted) (sym (append-nil above)) steps.0
lawful_steps_last q above (r ∷ rs) s steps =
    subst (λ (xs : List (ℕ × ℕ)). AllDead q xs s.vertex s.refuted) (append_assoc above ((r.vertex, r.value) ∷ []) (path_of rs))
    (lawful_steps_last q (above ++ (r.vertex, r.value) ∷ []) rs s steps.1)

-- what a level has refuted is dead for each vertex that it may take
level_dead : (q : Problem) (above : List (ℕ × ℕ)) (v : Option ℕ) (us : List ℕ) (p : ℕ) → LawfulLevel q above v us → IsAt v p → AllDead q above p us
level_dead q above None us p level at = subst (λ (xs : List ℕ). AllDead q above p xs) (sym level) tt
level_dead q above (Some v) us p level at = subst (λ (r : ℕ). AllDead q above r us) at level

-- a guess keeps it
pub lawful_deepened : (q : Problem) (a : Account) (p t : ℕ) → Lawful q a → IsAt a.vertex p → Lawful q (deepened a p t)
lawful_deepened q a p t lawful at = record {
  steps = lawful_steps_push q [] a.steps (record { vertex = p; value = t; refuted = a.refuted }) lawful.steps (level_dead q (path a) a.vertex a.refuted p lawful.level at);
  level = refl;
}

-- so does a fail, where the path is dead
pub lawful_failed : (q : Problem) (old : Account) (above : List Step) (last : Step) → Lawful q old → Dead q (path old) → old.steps ≡ above ++ last ∷ [] → Lawful q (failed old above last)
lawful_failed q old above last lawful dead is =
    let steps = subst (λ (ss : List Step). LawfulSteps q [] ss) is lawful.steps in
    let dead_here : Dead q (path_of above ++ (last.vertex, last.value) ∷ []) = subst (λ (xs : List (ℕ × ℕ)). Dead q xs) (ap path_of is ∙ path_of_push above last) dead in
    record {
      steps = lawful_steps_front q [] above last steps;
      level = all_dead_inserted q (path_of above) last.vertex last.value last.refuted (lawful_steps_last q [] above last steps) dead_here;
    }

-- and a restart
pub lawful_restarted : (q : Problem) (a : Account) → Lawful q (restarted a)
lawful_restarted q a = record { steps = tt; level = refl }

-- one lawful event more
lawful_after : (q : Problem) (old : Account) (e : Event) (new : Account) → Lawful q old → Happens q old e new → Lawful q new
lawful_after q old (Deepen p t) new lawful h = subst (λ (a : Account). Lawful q a) (sym h.3) (lawful_deepened q old p t lawful h.2.level)
lawful_after q old Fail new lawful h =
    subst (λ (a : Account). Lawful q a) (sym h.1.new_is) (lawful_failed q old h.1.above h.1.last lawful h.0 h.1.steps_are)
lawful_after q old Restart new lawful h = subst (λ (a : Account). Lawful q a) (sym h.1) (lawful_restarted q old)

-- and all of them
lawful_along : (q : Problem) (p t b : ℕ) (es : List Event) (a : Account) → Leads q (fresh p t b) es a → Lawful q a
lawful_along q p t b [] a lead = subst (λ (x : Account). Lawful q x) (sym lead) (record { steps = tt; level = refl })
lawful_along q p t b (e ∷ es) a lead = lawful_after q lead.0 e a (lawful_along q p t b es lead.0 lead.1) lead.2

-- what lawful events reach is lawful
pub reached_is_lawful : (q : Problem) (a : Account) → Reached q a → Lawful q a
reached_is_lawful q a reached = lawful_along q (size q.pattern) (size q.target) a.budget reached.events a reached.lead

pub account_laws_hold : AccountLaws
account_laws_hold = record { lawful = reached_is_lawful; enough = spent_below; refuted = refuted_at_cutoff }
