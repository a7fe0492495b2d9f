-- The account of a search: where it stands, how often it failed, and by which events it came there.

use Rattle.std.specs.Prelude.{◌≡◌, ℕ, ◌+◌, ◌<◌, nat_lt, Bool, ◌&&◌, if◌then◌else◌, List, [], ◌∷◌, ◌++◌, Contains, Option, Some, None}
use Rattle.std.proofs.Common.{zero, suc}
use Rattle.graph_theory.specs.Graph.{size}
use Rattle.graph_theory.specs.Embedding.{Problem}
use Rattle.graph_theory.specs.Path.{NotOn, Dead}
use Rattle.search_theory.specs.Fits.{Fits}
use Rattle.search_theory.specs.Bounds.{cutoff}

-- A level of the path: its vertex, its value, and the values refuted there before, rising.
pub record Step : Type 0 where
  pub vertex : ℕ
  pub value : ℕ
  pub refuted : List ℕ

-- The sizes of the problem, the budget, the levels of the path, the vertex (if any) and the refuted values of the level after it, the fails of this run, its number, and the fails of all runs.
pub record Account : Type 0 where
  pub pattern : ℕ
  pub target : ℕ
  pub budget : ℕ
  pub steps : List Step
  pub vertex : Option ℕ
  pub refuted : List ℕ
  pub count : ℕ
  pub run : ℕ
  pub all : ℕ

-- The pairs of these levels.
abbrev pub path_of : List Step → List (ℕ × ℕ)
path_of [] = []
path_of (s ∷ ss) = (s.vertex, s.value) ∷ path_of ss

-- The path where the search stands.
abbrev pub path : Account → List (ℕ × ℕ)
path a = path_of a.steps

-- Each pair is of a pattern vertex and a target vertex.
abbrev pub InRange : ℕ → ℕ → List (ℕ × ℕ) → Type 0
InRange pattern target [] = Unit {0}
InRange pattern target (x ∷ xs) = (x.0 < pattern) × (x.1 < target) × InRange pattern target xs

-- A level as others see it: its vertex, if it has one, and its refuted values.
pub record Level : Type 0 where
  pub vertex : Option ℕ
  pub refuted : List ℕ

-- Level i, where these levels are followed by one with this vertex and these values, and that by empty ones.
abbrev pub level_among : List Step → Option ℕ → List ℕ → ℕ → Level
level_among [] vertex us zero = record { vertex = vertex; refuted = us }
level_among [] vertex us (suc i) = record { vertex = None; refuted = [] }
level_among (s ∷ ss) vertex us zero = record { vertex = Some s.vertex; refuted = s.refuted }
level_among (s ∷ ss) vertex us (suc i) = level_among ss vertex us i

-- Level i of the account, from 0.
abbrev pub level_at : Account → ℕ → Level
level_at a i = level_among a.steps a.vertex a.refuted i

-- At some level a value is refuted for the level's vertex.
pub record HasRefuted (a : Account) : Type 0 where
  pub level : ℕ
  pub vertex : ℕ
  pub value : ℕ
  pub vertex_is : (level_at a level).vertex ≡ Some vertex
  pub refuted : Contains (level_at a level).refuted value

-- The empty state of these sizes.
abbrev pub fresh : ℕ → ℕ → ℕ → Account
fresh p t b = record {
  pattern = p;
  target = t;
  budget = b;
  steps = [];
  vertex = None;
  refuted =
      [];
  count = 0;
  run = 1;
  all = 0;
}

-- Where the level has a vertex, it is p.
abbrev pub IsAt : Option ℕ → ℕ → Type 0
IsAt None p = Unit {0}
IsAt (Some v) p = v ≡ p

-- The value t is none of these.
abbrev pub NotAmong : List ℕ → ℕ → Type 0
NotAmong [] t = Unit {0}
NotAmong (u ∷ us) t = (u ≡ t → ⊥) × NotAmong us t

-- The rising list with t in its place.
abbrev pub inserted : ℕ → List ℕ → List ℕ
inserted t [] = t ∷ []
inserted t (u ∷ us) = if nat_lt t u then t ∷ u ∷ us else u ∷ inserted t us

-- ---- events

-- The guess of t for p meets every condition but those on budget and cutoff.
pub record MayGuess (q : Problem) (a : Account) (p t : ℕ) : Type 0 where
  pub vertex_in : p < a.pattern
  pub value_in : t < a.target
  pub level : IsAt a.vertex p
  pub new_vertex : NotOn (path a) p
  pub untried : NotAmong a.refuted t
  pub fits : Fits q (path a) p t

-- A guess makes the level after the path its last one, and opens an empty level.
abbrev pub deepened : Account → ℕ → ℕ → Account
deepened a p t = record a {
  steps = a.steps
      ++ record { vertex = p; value = t; refuted = a.refuted } ∷ [];
  vertex = None;
  refuted = [];
}

-- Neither count stands at its bound.
abbrev pub counts : Account → Bool
counts a = nat_lt a.count (cutoff a.run) && nat_lt a.all a.budget

-- A fail takes the last level's value into its refuted ones, empties what lies below, and is counted unless a count stands at its bound.
abbrev pub failed : Account → List Step → Step → Account
failed a above last = record a {
  steps = above;
  vertex = Some last.vertex;
  refuted = inserted last.value last.refuted;
  count = (if counts a then a.count + 1 else a.count);
  all = (if counts a then a.all + 1 else a.all);
}

-- The new state is the old one after its last value, not refuted there before, is refuted at its level.
pub record FailsTo (old new : Account) : Type 0 where
  pub above : List Step
  pub last : Step
  pub steps_are : old.steps ≡ above ++ last ∷ []
  pub untried : NotAmong last.refuted last.value
  pub new_is : new ≡ failed old above last

-- A restart empties the position and begins the next run.
abbrev pub restarted : Account → Account
restarted a = record a { steps = []; vertex = None; refuted = []; count = 0; run = a.run + 1 }

-- What can happen to an account.
pub data Event : Type 0 where
  Deepen : ℕ → ℕ → Event
  Fail : Event
  Restart : Event

-- The event is lawful in the old state, and leads to the new one.
abbrev pub Happens : Problem → Account → Event → Account → Type 0
Happens q old (Deepen p t) new = (old.all < old.budget) × (old.count < cutoff old.run)
    × MayGuess q old p t × (new ≡ deepened old p t)
Happens q old Fail new = Dead q (path old) × FailsTo old new
Happens q old Restart new = (old.count ≡ cutoff old.run) × (new ≡ restarted old)

-- These events, the last one first, lead from the start to the account.
abbrev pub Leads : Problem → Account → List Event → Account → Type 0
Leads q start [] a = a ≡ start
Leads q start (e ∷ es) a = (before : Account) × Leads q start es before × Happens q before e a

-- Lawful events lead to the account from the empty state of the problem's sizes.
pub record Reached (q : Problem) (a : Account) : Type 0 where
  pub events : List Event
  pub lead : Leads q (fresh (size q.pattern) (size q.target) a.budget) events a

-- ---- what is refuted is dead

-- Each of these values of p is dead after the path.
abbrev pub AllDead : Problem → List (ℕ × ℕ) → ℕ → List ℕ → Type 0
AllDead q above p [] = Unit {0}
AllDead q above p (u ∷ us) = Dead q (above ++ (p, u) ∷ []) × AllDead q above p us

-- Each refuted value of these levels is dead after the path above it.
abbrev pub LawfulSteps : Problem → List (ℕ × ℕ) → List Step → Type 0
LawfulSteps q above [] = Unit {0}
LawfulSteps q above (s ∷ ss) = AllDead q above s.vertex s.refuted
    × LawfulSteps q (above ++ (s.vertex, s.value) ∷ []) ss

-- So is each of the level after the path, which has none without a vertex.
abbrev pub LawfulLevel : Problem → List (ℕ × ℕ) → Option ℕ → List ℕ → Type 0
LawfulLevel q above None us = us ≡ []
LawfulLevel q above (Some p) us = AllDead q above p us

-- Each refuted value of the account, with the path above it, is dead.
pub record Lawful (q : Problem) (a : Account) : Type 0 where
  pub steps : LawfulSteps q [] a.steps
  pub level : LawfulLevel q (path a) a.vertex a.refuted

-- The account is one of a search of this problem: its sizes, a lawful way to it, and what it holds refuted is dead.
pub record Honest (q : Problem) (a : Account) : Type 0 where
  pub pattern_is : a.pattern ≡ size q.pattern
  pub target_is : a.target ≡ size q.target
  pub reached : Reached q a
  pub lawful : Lawful q a

-- The budget is spent where some guess is due.
pub record Spends (q : Problem) (budget : ℕ) (a : Account) : Type 0 where
  pub reached : Reached q a
  pub budget_is : a.budget ≡ budget
  pub spent : a.all ≡ budget
  pub vertex : ℕ
  pub value : ℕ
  pub due : MayGuess q a vertex value
