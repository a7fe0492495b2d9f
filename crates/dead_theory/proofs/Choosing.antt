-- How a walk back chooses: it begins, keeps or passes, and ends.
use Rattle.std.proofs.Common.{◌≡◌, ℕ, Bool, false, List, [], ◌∷◌, ◌++◌, sym, subst, ◌∙◌, append_assoc, append-nil}
use Rattle.std.proofs.lemmas.Bool.{true≢false}
use Rattle.graph_theory.specs.Embedding.{Problem}
use Rattle.nogood_book.specs.declared.row.Row.{Row}
use Rattle.recorder.specs.Recording.{Change}
use Rattle.dead_theory.specs.Changes.{Chosen}
use Rattle.dead_theory.specs.Walks.{MayPass, RestsOn, IsChoice, nothing, keeps, passes, Walked, IsWithin}
use Rattle.dead_theory.specs.Laws.{WalkLaws}

-- ---- fewer needed values

rests_fewer : (q : Problem) (rows : List Row) (path : List (ℕ × ℕ)) (c : Chosen) (more fewer now : ℕ → ℕ → Bool) → IsWithin fewer more → RestsOn q rows path c more now → RestsOn q rows path c fewer now
rests_fewer q rows path c more fewer now within h = record { suffices = λ r u u_in is. h.suffices r u u_in (within r u is); carried = λ r u is. h.carried r u (within r u is); needs = h.needs }

-- What is chosen for more needed values serves for fewer.
pub choice_fewer : (q : Problem) (rows : List Row) (path : List (ℕ × ℕ)) (cs : List Change) (chosen : List Chosen) (more fewer : ℕ → ℕ → Bool) → IsWithin fewer more → IsChoice q rows path cs chosen more
    → IsChoice q rows path cs chosen fewer
choice_fewer q rows path _ _ _ fewer within (nothing more) = nothing fewer
choice_fewer q rows path _ _ _ fewer within (keeps c cs chosen more now rests rest) = keeps c cs chosen fewer now (rests_fewer q rows path c more fewer now within rests) rest
choice_fewer q rows path _ _ _ fewer within (passes c cs chosen more may rest) =
    passes c cs chosen fewer (λ r u u_in is. may r u u_in (within r u is)) (choice_fewer q rows path cs chosen more fewer within rest)

-- ---- the walk

module _ (q : Problem) (rows : List Row) (path : List (ℕ × ℕ)) where
  walk_begins : (needed : ℕ → ℕ → Bool) → Walked q rows path [] [] needed needed
  walk_begins needed rest more h = h

  walk_keeps : (seen : List Change) (chosen : List Chosen) (needed now next : ℕ → ℕ → Bool) (c : Chosen) → Walked q rows path seen chosen needed now → RestsOn q rows path c now next
      → Walked q rows path (seen ++ c.change ∷ []) (chosen ++ c ∷ []) needed next
  walk_keeps seen chosen needed now next c walked rests rest more h =
      subst (λ (xs : List Change). IsChoice q rows path xs ((chosen ++ c ∷ []) ++ more) needed) (sym (append_assoc seen (c.change ∷ []) rest))
      (subst (λ (xs : List Chosen). IsChoice q rows path (seen ++ c.change ∷ rest) xs needed) (sym (append_assoc chosen (c ∷ []) more)) (walked (c.change ∷ rest) (c ∷ more) (keeps c rest more now next rests h)))

  walk_passes : (seen : List Change) (chosen : List Chosen) (needed now : ℕ → ℕ → Bool) (c : Change) → Walked q rows path seen chosen needed now → MayPass q rows c now → Walked q rows path (seen ++ c ∷ []) chosen needed now
  walk_passes seen chosen needed now c walked may rest more h =
      subst (λ (xs : List Change). IsChoice q rows path xs (chosen ++ more) needed) (sym (append_assoc seen (c ∷ []) rest)) (walked (c ∷ rest) more (passes c rest more now may h))

  walk_ends : (seen : List Change) (chosen : List Chosen) (needed now : ℕ → ℕ → Bool) → Walked q rows path seen chosen needed now → IsChoice q rows path seen chosen needed
  walk_ends seen chosen needed now walked =
      subst (λ (xs : List Change). IsChoice q rows path xs chosen needed) (append-nil seen)
      (subst (λ (xs : List Chosen). IsChoice q rows path (seen ++ []) xs needed) (append-nil chosen) (walked [] [] (nothing now)))

  -- ---- nothing needed

  all_passed : (cs : List Change) (needed : ℕ → ℕ → Bool) → ((r u : ℕ) → needed r u ≡ false) → IsChoice q rows path cs [] needed
  all_passed [] needed none = nothing needed
  all_passed (c ∷ cs) needed none = passes c cs [] needed (λ r u u_in is takes. true≢false (sym is ∙ none r u)) (all_passed cs needed none)

  walk_stops : (seen rest : List Change) (chosen : List Chosen) (needed now : ℕ → ℕ → Bool) → Walked q rows path seen chosen needed now → ((r u : ℕ) → now r u ≡ false)
      → IsChoice q rows path (seen ++ rest) chosen needed
  walk_stops seen rest chosen needed now walked none =
      subst (λ (xs : List Chosen). IsChoice q rows path (seen ++ rest) xs needed) (append-nil chosen) (walked rest [] (all_passed rest now none))

pub walk_laws_hold : WalkLaws
walk_laws_hold = record { begins = walk_begins; keeps = walk_keeps; passes = walk_passes; ends = walk_ends; fewer = choice_fewer; stops = walk_stops }
