-- A search: domains that claim only what is sound for the path, the set of the vertices that are not past, an account, and a moment for each level.

use Rattle.std.specs.Prelude.{◌≡◌, ℕ, ◌<◌, ◌≤◌, Bool, true, false, ◌⊎◌, List, [], ◌∷◌, ◌++◌, length, Option, Some, None, IfSome}
use Rattle.graph_theory.specs.Graph.{size}
use Rattle.graph_theory.specs.Embedding.{Problem, Embeds, HasNone}
use Rattle.search_theory.specs.Claims.{NoneInside, Single, Stands, Pins, Quiet}
use Rattle.search_theory.specs.Consistency.{IsFirstValue}
use Rattle.search_theory.specs.Bounds.{enough}
use Rattle.search_theory.specs.Account.{Account, path, Honest, Spends}
use Rattle.domain_bits.specs.Removals.{State, in_domain, size_of, undone}
use Rattle.sparse_set.specs.Removals as sparse
use Rattle.nogood_watch.specs.Nogoods as watched
use Rattle.recorder.specs.declared.change.Failure.{Failure}
use Rattle.recorder.specs.Recording.{Change, CountedSet}
use Rattle.recorder.specs.Telling.{IsOf, Fails}
use Rattle.recorder.specs.Holding.{HoldsRows}
use Rattle.propagation.specs.Propagation.{AreCalm, LeavesPast, Narrows, waits_at, HasTwo, HasValue}
use Rattle.nogood_book.specs.Rows as book
use Rattle.nogood_book.specs.Facts.{Facts}
use Rattle.worker_gate.specs.Answers.{AnswerView, NoteView}
use Rattle.nogood_book.specs.declared.row.Row.{Row}
use Rattle.propagation.specs.Acting.{AreActedOn}
use Rattle.restart_search.specs.Acting.{Acting}
use Rattle.restart_search.specs.Degrees.{either_degree}
use Rattle.restart_search.specs.Sharing.{RowsInForce, KeepsUp}
use Rattle.restart_search.specs.Logging.{IsTold}
use Rattle.restart_search.specs.declared.root.Rooted.{Rooted}
use Rattle.restart_search.specs.declared.root.Rooted.TheVariants as rooted
use Rattle.restart_search.specs.declared.position.Moment.{Moment}
use Rattle.restart_search.specs.declared.outcome.Outcome.{Outcome}
use Rattle.restart_search.specs.declared.outcome.Outcome.TheVariants.{Found, Refuted, Spent, Stopped, Interrupted, NoMemory}
use Rattle.restart_search.specs.declared.outcome.Stage.{Stage}
use Rattle.restart_search.specs.declared.outcome.Stage.TheVariants.{Fresh, Halfway, Over}

-- The domains are at rest, one by one, pair by pair, in the unions of each block and in the order of images; they hold each embedding
-- that extends the path, and have each pair of the path as its vertex's domain.
pub record AtRest (q : Problem) (path : List (ℕ × ℕ)) (d : State) : Type 0 where
  pub quiet : Quiet q (in_domain d)
  pub calm : AreCalm q d
  pub stands : Stands q path (in_domain d)
  pub pins : Pins q path (in_domain d)

-- The moment is the present one.
pub record IsNow (d : State) (s : sparse.State) (k : Moment) : Type 0 where
  pub domains_is : k.domains ≡ length d.removed
  pub past_is : k.past ≡ length s.removed

-- No more had happened at the moment j than at k.
pub record IsEarlier (j k : Moment) : Type 0 where
  pub domains : j.domains ≤ k.domains
  pub past : j.past ≤ k.past

-- The moment is not later than the present.
pub record HasBeen (d : State) (s : sparse.State) (k : Moment) : Type 0 where
  pub domains : k.domains ≤ length d.removed
  pub past : k.past ≤ length s.removed

-- At the moment the domains were at rest for the path, and the vertices that had left the set were past.
pub record RestedAt (q : Problem) (path : List (ℕ
    × ℕ)) (d : State) (s : sparse.State) (k : Moment) : Type 0 where
  pub rest : AtRest q path (undone d k.domains)
  pub left : LeavesPast q (undone d k.domains) (sparse.undone s k.past)

-- So it was at each level's moment for the path above it; the moments rise from low.
abbrev pub Levels : Problem → State → sparse.State → Moment → List (ℕ × ℕ) → List (ℕ × ℕ)
    → List Moment → Type 0
Levels q d s low above [] [] = HasBeen d s low
Levels q d s low above (x ∷ xs) (k ∷ ks) = IsEarlier low k × RestedAt q above d s k
    × Levels q d s k (above ++ x ∷ []) xs ks
Levels q d s low above [] (k ∷ ks) = ⊥
Levels q d s low above (x ∷ xs) [] = ⊥

-- What holds of a search also where its last guess has failed.
pub record Based (q : Problem) (d : State) (s : sparse.State) (a : Account) (marks : List Moment)
    (root : Moment) : Type 0 where
  pub is_of : IsOf q d
  pub honest : Honest q a
  pub levels : Levels q d s root [] (path a) marks
  pub root_rest : RestedAt q [] d s root

-- What holds of a search before each step.
pub record Sound (q : Problem) (d : State) (s : sparse.State) (a : Account) (marks : List Moment)
    (root : Moment) : Type 0 where
  pub based : Based q d s a marks root
  pub here : AtRest q (path a) d
  pub left : LeavesPast q d s

-- ---- how a run ends

-- The note knows an answer to the problem.
pub record Knows (q : Problem) (n : NoteView) : Type 0 where
  pub answer : AnswerView
  pub known : n.known ≡ Some answer
  pub problem_is : answer.problem ≡ q

-- What an outcome says.
abbrev pub Ends : Outcome → Problem → Account → Type 0
Ends (Found m) q a = Embeds q m.items
Ends Refuted q a = HasNone q
Ends Spent q a = Spends q a.budget a × (a.budget < enough (size q.pattern) (size q.target))
Ends (Stopped n) q a = Knows q n
Ends Interrupted q a = Unit {0}
Ends NoMemory q a = Unit {0}

-- What the outcome decides is true of the problem.
abbrev pub IsTrueFor : Problem → Outcome → Type 0
IsTrueFor q (Found m) = Embeds q m.items
IsTrueFor q Refuted = HasNone q
IsTrueFor q Spent = Unit {0}
IsTrueFor q (Stopped n) = Unit {0}
IsTrueFor q Interrupted = Unit {0}
IsTrueFor q NoMemory = Unit {0}

-- The run was not stopped.
abbrev pub IsNotStopped : Outcome → Type 0
IsNotStopped (Found m) = Unit {0}
IsNotStopped Refuted = Unit {0}
IsNotStopped Spent = Unit {0}
IsNotStopped (Stopped n) = ⊥
IsNotStopped Interrupted = Unit {0}
IsNotStopped NoMemory = Unit {0}

-- This is so of the note by which the run was stopped, if it was.
abbrev pub IfStopped : Outcome → (NoteView → Type 0) → Type 0
IfStopped (Found m) P = Unit {0}
IfStopped Refuted P = Unit {0}
IfStopped Spent P = Unit {0}
IfStopped (Stopped n) P = P n
IfStopped Interrupted P = Unit {0}
IfStopped NoMemory P = Unit {0}

-- After an interrupted run this holds.
abbrev pub IfInterrupted : Outcome → Type 0 → Type 0
IfInterrupted (Found m) P = Unit {0}
IfInterrupted Refuted P = Unit {0}
IfInterrupted Spent P = Unit {0}
IfInterrupted (Stopped n) P = Unit {0}
IfInterrupted Interrupted P = P
IfInterrupted NoMemory P = Unit {0}

-- What is left after an outcome, unless nothing can go on from there.
abbrev pub Leaves : Outcome → Type 0 → Type 0
Leaves (Found m) P = P
Leaves Refuted P = Unit {0}
Leaves Spent P = P
Leaves (Stopped n) P = P
Leaves Interrupted P = P
Leaves NoMemory P = Unit {0}

-- The first holds after an outcome, and the second where memory was refused.
abbrev pub IfMemory : Outcome → Type 0 → Type 0 → Type 0
IfMemory (Found m) P Q = P
IfMemory Refuted P Q = P
IfMemory Spent P Q = P
IfMemory (Stopped n) P Q = P
IfMemory Interrupted P Q = P
IfMemory NoMemory P Q = Q

-- The vertex p is undecided.
abbrev pub IsUndecided : State → ℕ → Type 0
IsUndecided d p = (p < d.vertices) × ((t : ℕ) → Single (in_domain d) p t → ⊥)

-- Vertex p comes before r: its domain is smaller, or as large and its neighbours in either direction more, or these are alike and its number is less.
abbrev pub ComesFirst : Problem → State → ℕ → ℕ → Type 0
ComesFirst q d p r = (size_of d p < size_of d r) ⊎ ((size_of d p ≡ size_of d r)
    × ((either_degree q.pattern r < either_degree q.pattern p)
    ⊎ ((either_degree q.pattern p ≡ either_degree q.pattern r) × (p < r))))

-- Vertex p is undecided, and no undecided vertex comes before it.
pub record IsFirstUndecided (q : Problem) (d : State) (p : ℕ) : Type 0 where
  pub undecided : IsUndecided d p
  pub first : (r : ℕ) → IsUndecided d r → ComesFirst q d r p → ⊥

-- The best vertex is the first undecided one; where there is none, each vertex below n is decided.
abbrev pub IsBest : Problem → State → Option ℕ → ℕ → Type 0
IsBest q d None n = (s : ℕ) → s < n → (t : ℕ) × Single (in_domain d) s t
IsBest q d (Some p) n = IsFirstUndecided q d p

-- Whatever comes before the next best vertex came before the best one, and is not p where p is undecided.
abbrev pub IsNextBest : Problem → State → ℕ → Option ℕ → ℕ → Type 0
IsNextBest q d p best next = (IsUndecided d p → ComesFirst q d p next
    → ⊥) × IfSome best (λ r. (s : ℕ) → ComesFirst q d s next → ComesFirst q d s r)

-- The found list is an embedding, or memory was refused.
abbrev pub FoundOf : Problem → Outcome → Type 0
FoundOf q (Found m) = Embeds q m.items
FoundOf q Refuted = ⊥
FoundOf q Spent = ⊥
FoundOf q (Stopped n) = ⊥
FoundOf q Interrupted = ⊥
FoundOf q NoMemory = Unit {0}

-- ---- the root

-- After the first domains of the vertices below r.
pub record Beginning (q : Problem) (old new : State) (waiting : List Bool) (r : ℕ) : Type 0 where
  pub is_of : IsOf q new
  pub narrows : Narrows q old new
  pub long : length waiting ≡ size q.pattern
  pub first : (p t : ℕ) → p < r → in_domain new p t ≡ true → IsFirstValue q p t
  pub noted : (p : ℕ) → p < r → (waits_at waiting p ≡ true) ⊎ HasTwo new p
  pub some : (p : ℕ) → p < r → HasValue new p

-- What the first domains of all vertices leave.
abbrev pub Begins : Bool → Problem → State → State → List Bool → Type 0
Begins true q old new waiting = Beginning q old new waiting (size q.pattern)
Begins false q old new waiting = NoneInside q (in_domain old)

-- What the first propagation answers: domains at rest, or that no embedding exists.
abbrev pub Roots : Bool → Problem → State → Type 0
Roots true q d = IsOf q d × AtRest q [] d
Roots false q d = HasNone q

-- The root's domains failed so, and what was told of them is true.
pub record RootFails (q : Problem) (changes : Option (List Change)) (short : Option CountedSet)
    (f : Failure) : Type 0 where
  pub domains : State
  pub is_of : IsOf q domains
  pub told : IsTold q None domains [] [] changes
  pub fails : Fails q None domains changes short f

-- What the root says: its domains are at rest and hold every embedding; or none exists, and why.
abbrev pub RootSays : {T R : Type 0} → (R → Option (List Change)) → (R → Option CountedSet)
    → Rooted T R → Problem → Type 0
RootSays changes short (rooted.Quiet d told) q = IsOf q d × AtRest q [] d
    × IsTold q None d [] [] (changes told)
RootSays changes short (rooted.Failed f told) q = HasNone q
    × RootFails q (changes told) (short told) f
RootSays changes short rooted.NoMemory q = Unit {0}

-- ---- a worker

-- A worker as its callers see it.
pub record Search (S L : Type 0) : Type 0 where
  pub problem : Problem
  pub number : ℕ
  pub seat : S
  pub facts : Facts
  pub log : L
  pub domains : State
  pub account : Account
  pub stage : Stage

-- The search stands at the root: its domains are at rest for the empty path, and the root's moment is the present one.
pub record IsAtRoot (q : Problem) (d : State) (s : sparse.State) (a : Account)
    (marks : List Moment) (root : Moment) : Type 0 where
  pub is_of : IsOf q d
  pub honest : Honest q a
  pub no_path : path a ≡ []
  pub no_marks : marks ≡ []
  pub now : IsNow d s root
  pub rest : AtRest q [] d
  pub left : LeavesPast q d s

-- The first run has not begun.
pub record NotBegun (q : Problem) (nogoods : Option watched.State) (d : State) (s : sparse.State)
    (a : Account) (marks : List Moment) (root : Moment) : Type 0 where
  pub at_root : IsAtRoot q d s a marks root
  pub none : nogoods ≡ None
  pub first : a.run ≡ 1

-- What holds of a search before each step: it is sound, and so are the rows that were seen, whose nogoods are kept; nothing is left to follow from them, and the search keeps up with its book.
pub record Begun (q : Problem) (nogoods : Option watched.State) (d : State) (s : sparse.State)
    (a : Account) (marks : List Moment) (root : Moment) (f : Facts) : Type 0 where
  pub sound : Sound q d s a marks root
  pub acting : Acting d nogoods marks root
  pub rows : book.Sound q f.seen
  pub holds : HoldsRows f.seen nogoods
  pub keeps : KeepsUp f a.run

-- What taking up the book leaves at the root: all nogoods that were seen are kept and nothing is left to follow from them, or no embedding exists.
abbrev pub TookUp : Bool → Problem → Option watched.State → State → sparse.State → Account
    → List Moment → Moment → List Row → Type 0
TookUp true q nogoods d s a marks root rows = IsAtRoot q d s a marks root × AreActedOn d nogoods
    × book.Sound q rows × HoldsRows rows nogoods
TookUp false q nogoods d s a marks root rows = HasNone q

-- What beginning again leaves: a search that goes on, or no embedding exists.
abbrev pub BeganAgain : Bool → Problem → Option watched.State → State → sparse.State → Account
    → List Moment → Moment → Facts → Type 0
BeganAgain true q nogoods d s a marks root f = Begun q nogoods d s a marks root f
BeganAgain false q nogoods d s a marks root f = HasNone q

-- Where the worker stands between its runs.
abbrev pub AtStage : Stage → Problem → Option watched.State → State → sparse.State → Account
    → List Moment → Moment → Facts → Type 0
AtStage Fresh q nogoods d s a marks root f = NotBegun q nogoods d s a marks root
AtStage Halfway q nogoods d s a marks root f = Begun q nogoods d s a marks root f
AtStage Over q nogoods d s a marks root f = Unit {0}

-- After a stop and an interruption a worker may go on; after every other outcome it may not.
abbrev pub stage_after : Outcome → Stage
stage_after (Found m) = Over
stage_after Refuted = Over
stage_after Spent = Over
stage_after (Stopped n) = Halfway
stage_after Interrupted = Halfway
stage_after NoMemory = Over

-- A worker that has not ended by refuting or for want of memory: its domains are at rest for its path, no row that it has seen is left to follow from, and it keeps up with its book.
pub record IsPaused {S L : Type 0} (w : Search S L) : Type 0 where
  pub rest : AtRest w.problem (path w.account) w.domains
  pub in_force : RowsInForce w.domains w.facts.seen
  pub keeps : KeepsUp w.facts w.account.run
