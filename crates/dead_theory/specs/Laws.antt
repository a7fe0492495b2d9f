-- The laws of dead paths: what a search was told, and what its path ended by, is what a line of a log refutes.

use Rattle.std.specs.Prelude.{◌≡◌, ℕ, ◌<◌, Bool, true, false, List, [], ◌∷◌, ◌++◌, map, Option, Some, Ok}
use Rattle.graph_theory.specs.Graph.{size}
use Rattle.graph_theory.specs.Embedding.{Problem}
use Rattle.graph_theory.specs.Path.{IsPath}
use Rattle.proof_theory.specs.Forms.{Form}
use Rattle.proof_theory.specs.Rules.{is_contradiction}
use Rattle.proof_theory.specs.Slack.{refutes, negations}
use Rattle.log_theory.specs.declared.step.Name.{Name}
use Rattle.log_theory.specs.declared.step.Ref.{Ref}
use Rattle.log_theory.specs.declared.step.Step.TheVariants.{U}
use Rattle.log_theory.specs.Lookups.{Lookup, find_all, makes, is_among, are_distinct, variables_of}
use Rattle.log_theory.specs.Verdicts.{in_range}
use Rattle.encoding_theory.specs.Variables.{variables}
use Rattle.explanation_theory.specs.Reasons.{not_there, pairs_clause, vertices_of}
use Rattle.search_theory.specs.Account.{NotAmong, InRange}
use Rattle.domain_bits.specs.Removals.{State, in_domain}
use Rattle.nogood_watch.specs.Nogoods as watched
use Rattle.nogood_book.specs.declared.row.Row.{Row}
use Rattle.nogood_book.specs.Rows.{path_at, Sound, AreInRange}
use Rattle.nogood_book.specs.Places.{StartsWith}
use Rattle.recorder.specs.declared.change.Failure.{Failure}
use Rattle.recorder.specs.Recording.{Change, CountedSet}
use Rattle.recorder.specs.Telling.{KeepsNames, Told, Fails}
use Rattle.recorder.specs.Holding.{HoldsRows}
use Rattle.dead_theory.specs.Changes.{Chosen, told_of, NamesRows, known_after, ExplainAll, AreGuessed, AreInProblem}
use Rattle.dead_theory.specs.Ends.{End, Exhausted, end_of, EndsBy, IsEndIn, EndsIn, EndNeeds}
use Rattle.dead_theory.specs.Walks.{MayPass, RestsOn, IsChoice, Walked, IsWithin}

-- ---- dead paths

-- The changes, the last one first, have led to domains in which the path ends by this; the path is one in range, and nogoods are rows.
pub record Dies (q : Problem) (rows : List Row) (path : List (ℕ
    × ℕ)) (changes : List Change) (e : End) : Type 0 where
  pub sound : Sound q rows
  pub nogoods : Option watched.State
  pub names : NamesRows rows nogoods
  pub domains : State
  pub values_is : domains.values ≡ size q.target
  pub told : Told q nogoods domains changes
  pub distinct : IsPath path
  pub range : AreInRange q path
  pub ends : EndsBy e q nogoods domains

-- Where a path dies, the forms of the changes that are chosen for its end, each guess among them one of the path, and then the end's, refute
-- it; so a line that names them makes its clause. The clause of the empty path is plainly false.
pub record DeadLaws : Type 0 where
  pub refuted : (q : Problem) (rows : List Row) (path : List (ℕ
      × ℕ)) (changes : List Change) (e : End) → Dies q rows path changes e
      → (chosen : List Chosen) (needed : ℕ → ℕ → Bool) (forms ends : List Form)
      → EndNeeds rows path e needed → IsChoice q rows path changes chosen needed
      → ExplainAll q rows path chosen forms → AreGuessed path (told_of chosen)
      → EndsIn q rows path (known_after path chosen) e ends
      → refutes (negations (map (not_there q) path)) (forms ++ ends) ≡ true
  pub line : (q : Problem) (rows : List Row) (path : List (ℕ
      × ℕ)) (changes : List Change) (e : End) → Dies q rows path changes e
      → (chosen : List Chosen) (needed : ℕ → ℕ → Bool) (forms ends : List Form)
      → EndNeeds rows path e needed → IsChoice q rows path changes chosen needed
      → ExplainAll q rows path chosen forms → AreGuessed path (told_of chosen)
      → EndsIn q rows path (known_after path chosen) e ends
      → (look : Lookup) (name : Name) (refs : List Ref) → find_all look refs ≡ Ok (forms ++ ends)
      → makes look (U name (map (not_there q) path) refs) ≡ Ok (pairs_clause q path)
  pub empty : (q : Problem) → is_contradiction (pairs_clause q []) ≡ true

-- ---- the walk back

-- A walk begins with what is needed, keeps a change or passes it, and chooses once it has seen all changes, or once nothing is needed.
pub record WalkLaws : Type 0 where
  pub begins : (q : Problem) (rows : List Row) (path : List (ℕ × ℕ)) (needed : ℕ → ℕ → Bool)
      → Walked q rows path [] [] needed needed
  pub keeps : (q : Problem) (rows : List Row) (path : List (ℕ
      × ℕ)) (seen : List Change) (chosen : List Chosen) (needed now next : ℕ → ℕ → Bool)
      (c : Chosen) → Walked q rows path seen chosen needed now → RestsOn q rows path c now next
      → Walked q rows path (seen ++ c.change ∷ []) (chosen ++ c ∷ []) needed next
  pub passes : (q : Problem) (rows : List Row) (path : List (ℕ
      × ℕ)) (seen : List Change) (chosen : List Chosen) (needed now : ℕ → ℕ → Bool) (c : Change)
      → Walked q rows path seen chosen needed now → MayPass q rows c now
      → Walked q rows path (seen ++ c ∷ []) chosen needed now
  pub ends : (q : Problem) (rows : List Row) (path : List (ℕ
      × ℕ)) (seen : List Change) (chosen : List Chosen) (needed now : ℕ → ℕ → Bool)
      → Walked q rows path seen chosen needed now → IsChoice q rows path seen chosen needed
  pub fewer : (q : Problem) (rows : List Row) (path : List (ℕ
      × ℕ)) (changes : List Change) (chosen : List Chosen) (more fewer : ℕ → ℕ → Bool)
      → IsWithin fewer more → IsChoice q rows path changes chosen more
      → IsChoice q rows path changes chosen fewer
  pub stops : (q : Problem) (rows : List Row) (path : List (ℕ
      × ℕ)) (seen rest : List Change) (chosen : List Chosen) (needed now : ℕ → ℕ → Bool)
      → Walked q rows path seen chosen needed now → ((r u : ℕ) → now r u ≡ false)
      → IsChoice q rows path (seen ++ rest) chosen needed

-- ---- what is told is in range, and what is named is a row

pub record ToldLaws : Type 0 where
  pub failed : (q : Problem) (s : Option watched.State) (d : State) (cs : List Change)
      (short : Option CountedSet) (f : Failure) → Fails q s d (Some cs) short f
      → EndsBy (end_of f short) q s d
  pub exhausted : (q : Problem) (s : Option watched.State) (d : State) (p : ℕ) (values : List ℕ)
      → ((u : ℕ) → in_domain d p u ≡ true → NotAmong values u → ⊥)
      → EndsBy (Exhausted p values) q s d
  pub in_problem : (q : Problem) (s : Option watched.State) (d : State) (cs : List Change)
      → d.values ≡ size q.target → Told q s d cs → AreInProblem q cs
  pub end_in_problem : (q : Problem) (rows : List Row) (s : Option watched.State) (d : State)
      (e : End) → NamesRows rows s → EndsBy e q s d → IsEndIn q rows e
  pub names : (rows : List Row) (s : Option watched.State) → HoldsRows rows s → NamesRows rows s
  pub names_more : (seen rows : List Row) (s : Option watched.State) → StartsWith rows seen
      → NamesRows seen s → NamesRows rows s
  pub keeps_names : (seen rows : List Row) (old new : Option watched.State)
      → StartsWith rows seen → HoldsRows seen old → HoldsRows rows new → KeepsNames old new
  pub row_vertices : (q : Problem) (rows : List Row) (k : ℕ) → Sound q rows → (p : ℕ)
      → is_among p (vertices_of (path_at rows k)) ≡ true → p < size q.pattern
  pub path_range : (q : Problem) (path : List (ℕ × ℕ))
      → InRange (size q.pattern) (size q.target) path → AreInRange q path
  pub row_path : (q : Problem) (rows : List Row) (k : ℕ) → Sound q rows
      → IsPath (path_at rows k) × AreInRange q (path_at rows k)
  pub distinct : (q : Problem) (path : List (ℕ × ℕ)) → IsPath path → AreInRange q path
      → are_distinct (variables_of (map (not_there q) path)) ≡ true
  pub range : (q : Problem) (path : List (ℕ × ℕ)) → AreInRange q path
      → in_range (variables q) (variables_of (map (not_there q) path)) ≡ true
