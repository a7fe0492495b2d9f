-- What pruning by counting does.
use Rattle.std.specs.Prelude.{◌≡◌, ℕ, ◌<◌, ◌==◌, Bool, true, false, not, cond, ◌||◌, List, [], ◌∷◌, length}
use Rattle.std.proofs.Common.{zero, suc}
use Rattle.bit_rows.specs.BitRows.{has}
use Rattle.domain_bits.specs.Removals.{State, filtered, in_domain, size_of}
use Rattle.all_different.specs.Prefixes.{in_prefix, in_union, First, Short, Tight, Balanced}
use Rattle.all_different.specs.Choices.{Chooses, LosesNoChoice}
use Rattle.all_different.specs.declared.Pruned.{Pruned}
use Rattle.all_different.specs.declared.Pruned.TheVariants.{Quiet, Hall, Fail}

-- the values that pass leave the domains of the vertices below n that pass, by rising vertex and then by rising value
abbrev pub cleared : State → (ℕ → Bool) → (ℕ → Bool) → ℕ → State
cleared d from gone zero = d
cleared d from gone (suc p) = cond (from p) (filtered (cleared d from gone p) p (λ u. not
    (gone u))) (cleared d from gone p)

-- the union of the first n domains has left all later ones
abbrev pub without_union : State → ℕ → State
without_union d n = cleared d (λ p. not (in_prefix d n p)) (in_union d n) d.vertices

-- whether p stands in the list
abbrev pub among : List ℕ → ℕ → Bool
among [] p = false
among (x ∷ xs) p = (x == p) || among xs p

-- the list holds just the first n vertices
pub record Lists (d : State) (n : ℕ) (set : List ℕ) : Type 0 where
  pub size : length set ≡ n
  pub vertices : (p : ℕ) → among set p ≡ in_prefix d n p

-- the list holds just the first n vertices, and the row the union of their domains
pub record Shows (d : State) (n : ℕ) (set row : List ℕ) : Type 0 where
  pub size : length set ≡ n
  pub vertices : (p : ℕ) → among set p ≡ in_prefix d n p
  pub values : (t : ℕ) → has row t ≡ in_union d n t

-- whether t is in the domain of a vertex of the list
abbrev pub in_one_of : State → List ℕ → ℕ → Bool
in_one_of d [] t = false
in_one_of d (p ∷ ps) t = in_domain d p t || in_one_of d ps t

-- a value that is all of one domain is in no other
pub record DecidedApart (d : State) : Type 0 where
  pub apart : (p r t : ℕ) → p < d.vertices → r < d.vertices → (p ≡ r → ⊥) → size_of d p ≡ 1
      → in_domain d p t ≡ true → in_domain d r t ≡ true → ⊥

-- what each answer says of the domains before and after, and of the set and its union
abbrev pub Prunes : Pruned → State → State → List ℕ → List ℕ → Type 0
Prunes Quiet old new set values = Balanced old × (new ≡ old)
Prunes Hall old new set values =
    (n : ℕ) × ((m : ℕ) → Short old m → ⊥) × First (Tight old) n × Shows old n set values
    × (new ≡ without_union old n)
Prunes Fail old new set values = (n : ℕ) × First (Short old) n × Lists old n set × (new ≡ old)

-- what each answer means for a search
abbrev pub PruneSays : Pruned → State → State → Type 0
PruneSays Quiet old new = (new ≡ old) × Balanced old
PruneSays Hall old new = LosesNoChoice old new × (length old.removed < length new.removed)
PruneSays Fail old new = (new ≡ old) × ((m : ℕ → ℕ) → Chooses old m → ⊥)

-- what counting refuses lies in no injective choice
pub record CountingLaws : Type 0 where
  pub short : (d : State) (n : ℕ) → Short d n → (m : ℕ → ℕ) → Chooses d m → ⊥
  pub tight : (d : State) (n : ℕ) → Tight d n → (m : ℕ → ℕ) → Chooses d m
      → Chooses (without_union d n) m
