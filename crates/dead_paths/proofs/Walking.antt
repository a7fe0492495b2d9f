-- How far a walk back has come.
use Rattle.std.proofs.Common.{◌≡◌, ℕ, suc, ◌<◌, ◌≤◌, Bool, false, List, [], ◌∷◌, ◌++◌, length, take, get_or, reverse, Result, Ok, Err, OnOk, sym, ap, subst, ◌∙◌, append_assoc, append-nil, arith}
use Rattle.std.specs.Prelude.{map}
use Rattle.std.specs.declared.alloc.AllocError.{AllocError}
use Rattle.std.proofs.lemmas.List.{reverse-append, map-append}
use Rattle.std.proofs.Math.Seq.{take-suc}
use Rattle.journal_theory.proofs.Placing.{take_all}
use Rattle.graph_theory.specs.Embedding.{Problem}
use Rattle.nogood_book.specs.declared.row.Row.{Row}
use Rattle.recorder.specs.declared.change.Entry.{Entry}
use Rattle.recorder.specs.Recording.{Change, change_of, changes_of}
use Rattle.dead_theory.specs.Changes.{Chosen, IsInProblem, AreInProblem}
use Rattle.dead_theory.specs.Walks.{MayPass, RestsOn, IsWithin, IsChoice}
use Rattle.dead_theory.proofs.Choosing.{walk_laws_hold}
use Rattle.dead_paths.specs.declared.room.ChosenEntry.{ChosenEntry}
use Rattle.dead_paths.specs.Choosing.{AreAt, asked_of, chosen_of, chosen_in, IsOfRow, IsStep, AreNameable, HasCome}

nameable_more : (q : Problem) (rows : List Row) (cs : List Chosen) (c : Chosen) → AreNameable q rows cs → IsInProblem q c.change → IsOfRow rows c.change → AreNameable q rows (cs ++ c ∷ [])
nameable_more q rows [] c h i o = ((i, o), tt)
nameable_more q rows (d ∷ cs) c h i o = (h.0, nameable_more q rows cs c h.1 i o)

-- A change that may be passed.
pub come_pass : (q : Problem) (rows : List Row) (path : List (ℕ × ℕ)) (seen : List Change) (chosen : List Chosen) (first now : ℕ → ℕ → Bool) (c : Change) → HasCome q rows path seen chosen first now → MayPass q rows c now
    → HasCome q rows path (seen ++ c ∷ []) chosen first now
come_pass q rows path seen chosen first now c h may = record { walked = walk_laws_hold.passes q rows path seen chosen first now c h.walked may; nameable = h.nameable }

-- And what was needed still is.
come_within : (q : Problem) (rows : List Row) (path : List (ℕ × ℕ)) (seen : List Change) (chosen : List Chosen) (first now next : ℕ → ℕ → Bool) → IsWithin now next → HasCome q rows path seen chosen first now
    → HasCome q rows path seen chosen first next
come_within q rows path seen chosen first now next within h =
    record { walked = λ rest more choice. h.walked rest more (walk_laws_hold.fewer q rows path rest more next now within choice); nameable = h.nameable }

-- One that is chosen.
pub come_keep : (q : Problem) (rows : List Row) (path : List (ℕ × ℕ)) (numbers : List ℕ) (seen : List Change) (chosen next : List ChosenEntry) (first old new : ℕ → ℕ → Bool) (e : ChosenEntry)
    → HasCome q rows path seen (chosen_in numbers chosen) first old → RestsOn q rows path (chosen_of numbers e) old new → IsInProblem q (change_of numbers e.entry) → IsOfRow rows (change_of numbers e.entry)
    → next ≡ chosen ++ e ∷ [] → HasCome q rows path (seen ++ change_of numbers e.entry ∷ []) (chosen_in numbers next) first new
come_keep q rows path numbers seen chosen next first old new e h rests in_problem of_row is =
    subst (λ (cs : List Chosen). HasCome q rows path (seen ++ change_of numbers e.entry ∷ []) cs first new) (sym (ap (chosen_in numbers) is ∙ map-append (chosen_of numbers) chosen (e ∷ []))) (record {
      walked = walk_laws_hold.keeps q rows path seen (chosen_in numbers chosen) first old new (chosen_of numbers e) h.walked rests;
      nameable = nameable_more q rows (chosen_in numbers chosen) (chosen_of numbers e) h.nameable in_problem of_row;
    })

-- One step back, and what was chosen with it.
pub come_on : (q : Problem) (rows : List Row) (path : List (ℕ × ℕ)) (numbers : List ℕ) (seen : List Change) (chosen next : List ChosenEntry) (first old new : ℕ → ℕ → Bool) (e : Entry) (by_edges : Bool)
    → HasCome q rows path seen (chosen_in numbers chosen) first old → IsInProblem q (change_of numbers e) → RestsOn q rows path (asked_of by_edges (change_of numbers e)) old new × IsOfRow rows (change_of numbers e)
    → (result : Result (Unit {0}) AllocError) → OnOk result (next ≡ chosen ++ (record { entry = e; by_edges = by_edges }) ∷ [])
    → OnOk result (HasCome q rows path (seen ++ change_of numbers e ∷ []) (chosen_in numbers next) first new)
come_on q rows path numbers seen chosen next first old new e by_edges h in_problem step (Ok u) is =
    come_keep q rows path numbers seen chosen next first old new (record { entry = e; by_edges = by_edges }) h step.0 in_problem step.1 is
come_on q rows path numbers seen chosen next first old new e by_edges h in_problem step (Err x) is = tt

pub come_past : (q : Problem) (rows : List Row) (path : List (ℕ × ℕ)) (numbers : List ℕ) (seen : List Change) (chosen : List ChosenEntry) (first old new : ℕ → ℕ → Bool) (e : Entry)
    → HasCome q rows path seen (chosen_in numbers chosen) first old → IsStep false q rows path (change_of numbers e) old new → HasCome q rows path (seen ++ change_of numbers e ∷ []) (chosen_in numbers chosen) first new
come_past q rows path numbers seen chosen first old new e h step =
    come_within q rows path (seen ++ change_of numbers e ∷ []) (chosen_in numbers chosen) first old new step.1 (come_pass q rows path seen (chosen_in numbers chosen) first old (change_of numbers e) h step.0)

-- The last of the first entries is the first of their changes.
pub last_first : (numbers : List ℕ) (entries : List Entry) (k left : ℕ) (e : Entry) → k < length entries → left ≡ suc k → e ≡ get_or entries k e
    → changes_of numbers (take left entries) ≡ change_of numbers e ∷ changes_of numbers (take k entries)
last_first numbers entries k left e below is at =
    ap (λ (n : ℕ). changes_of numbers (take n entries)) is ∙ ap (λ (es : List Entry). map (change_of numbers) (reverse es)) (take-suc entries k e below)
    ∙ ap (λ (x : Entry). map (change_of numbers) (reverse (take k entries ++ x ∷ []))) (sym at)
    ∙ ap (map (change_of numbers)) (reverse-append (take k entries) (e ∷ []))

-- What has been seen, and how far it leads under any path.
pub record Gone (q : Problem) (rows : List Row) (numbers : List ℕ) (at : List ℕ) (all : List Change) (entries : List Entry) (k : ℕ) (chosen : List Chosen) (needed now : ℕ → ℕ → Bool) : Type 0 where
  pub seen : List Change
  pub whole : all ≡ seen ++ changes_of numbers (take k entries)
  pub in_problem : AreInProblem q (changes_of numbers (take k entries))
  pub come : (path : List (ℕ × ℕ)) → AreAt at path → HasCome q rows path seen chosen needed now
  pub within : k ≤ length entries

-- One step of the walk.
pub stepped : (q : Problem) (rows : List Row) (numbers at : List ℕ) (all : List Change) (entries : List Entry) (k left : ℕ) (e : Entry) (before chosen : List Chosen) (needed was now : ℕ → ℕ → Bool)
    → k < length entries → left ≡ suc k → e ≡ get_or entries k e → (g : Gone q rows numbers at all entries left before needed was)
    → ((path : List (ℕ × ℕ)) → AreAt at path → HasCome q rows path (g.seen ++ change_of numbers e ∷ []) chosen needed now) → Gone q rows numbers at all entries k chosen needed now
stepped q rows numbers at all entries k left e before chosen needed was now below is here g come =
    let first = last_first numbers entries k left e below is here in
    record {
      seen = g.seen ++ change_of numbers e ∷ [];
      whole = g.whole ∙ ap (λ (cs : List Change). g.seen ++ cs) first ∙ sym (append_assoc g.seen (change_of numbers e ∷ []) (changes_of numbers (take k entries)));
      in_problem = (subst (AreInProblem q) first g.in_problem).1;
      come = come;
      within = omega (arith, below);
    }

pub first_in : (q : Problem) (numbers : List ℕ) (entries : List Entry) (k left : ℕ) (e : Entry) → k < length entries → left ≡ suc k → e ≡ get_or entries k e
    → AreInProblem q (changes_of numbers (take left entries)) → IsInProblem q (change_of numbers e)
first_in q numbers entries k left e below is at in_problem = (subst (AreInProblem q) (last_first numbers entries k left e below is at) in_problem).0

pub in_problem_here : (q : Problem) (rows : List Row) (numbers at : List ℕ) (all : List Change) (entries : List Entry) (k left : ℕ) (e : Entry) (chosen : List Chosen) (needed now : ℕ → ℕ → Bool) → k < length entries
    → left ≡ suc k → e ≡ get_or entries k e → Gone q rows numbers at all entries left chosen needed now → IsInProblem q (change_of numbers e)
in_problem_here q rows numbers at all entries k left e chosen needed now below is here g = first_in q numbers entries k left e below is here g.in_problem

-- At its beginning.
pub gone_none : (q : Problem) (rows : List Row) (numbers at : List ℕ) (entries : List Entry) (left : ℕ) (chosen : List ChosenEntry) (needed : ℕ → ℕ → Bool) → left ≡ length entries → chosen ≡ []
    → AreInProblem q (changes_of numbers entries) → Gone q rows numbers at (changes_of numbers entries) entries left (chosen_in numbers chosen) needed needed
gone_none q rows numbers at entries left chosen needed is none in_problem =
    let all : take left entries ≡ entries = take_all entries left (omega (arith, is)) in
    record {
      seen = [];
      whole = ap (changes_of numbers) (sym all);
      in_problem = subst (λ (es : List Entry). AreInProblem q (changes_of numbers es)) (sym all) in_problem;
      come = λ path here. subst (λ (es : List ChosenEntry). HasCome q rows path [] (chosen_in numbers es) needed needed) (sym none) (record { walked = walk_laws_hold.begins q rows path needed; nameable = tt });
      within = omega (arith, is);
    }

-- At its end.
pub walked_all : (q : Problem) (rows : List Row) (numbers at : List ℕ) (all : List Change) (entries : List Entry) (k : ℕ) (chosen : List Chosen) (needed now : ℕ → ℕ → Bool) → k ≡ 0
    → Gone q rows numbers at all entries k chosen needed now → (path : List (ℕ × ℕ)) → AreAt at path → IsChoice q rows path all chosen needed
walked_all q rows numbers at all entries k chosen needed now none g path path_at_is =
    subst (λ (cs : List Change). IsChoice q rows path cs chosen needed)
    (sym (g.whole ∙ ap (λ (n : ℕ). g.seen ++ changes_of numbers (take n entries)) none ∙ append-nil g.seen))
    (walk_laws_hold.ends q rows path g.seen chosen needed now (g.come path path_at_is).walked)

pub nameable_all : (q : Problem) (rows : List Row) (numbers at : List ℕ) (all : List Change) (entries : List Entry) (k : ℕ) (chosen : List Chosen) (needed now : ℕ → ℕ → Bool)
    → Gone q rows numbers at all entries k chosen needed now → (path : List (ℕ × ℕ)) → AreAt at path → AreNameable q rows chosen
nameable_all q rows numbers at all entries k chosen needed now g path here = (g.come path here).nameable
