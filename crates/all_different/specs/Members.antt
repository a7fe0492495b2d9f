-- Counting over the domains of some vertices only.
use Rattle.std.specs.Prelude.{◌≡◌, ℕ, ◌<◌, ◌==◌, Bool, not, cond, List, [], ◌∷◌, length, map, slice_index}
use Rattle.std.proofs.Common.{zero, suc}
use Rattle.bit_rows.specs.BitRows.{has}
use Rattle.domain_bits.specs.Removals.{State, filtered}
use Rattle.all_different.specs.Prefixes.{in_prefix, in_union, First, Short, Tight, Balanced}
use Rattle.all_different.specs.Pruning.{among}
use Rattle.all_different.specs.declared.Pruned.{Pruned}
use Rattle.all_different.specs.declared.Pruned.TheVariants.{Quiet, Hall, Fail}

-- the first place of p in the list, or its length where p isn't there
abbrev pub place_of : List ℕ → ℕ → ℕ
place_of [] p = 0
place_of (x ∷ xs) p = cond (x == p) 0 (suc (place_of xs p))

-- the domains of the members alone, each at its member's place: what leaves the domain of another vertex leaves none of these
abbrev pub part : State → List ℕ → State
part d ms = record {
  vertices =
      length ms;
  values = d.values;
  removed =
      map (λ x. (place_of ms x.0, x.1)) d.removed;
}

-- the list holds vertices, each once and rising
pub record AreMembers (vertices : ℕ) (ms : List ℕ) : Type 0 where
  pub rising : (i j : ℕ) → i < j → j < length ms → slice_index ms i < slice_index ms j
  pub inside : (i : ℕ) → i < length ms → slice_index ms i < vertices

-- the values that pass leave the domains of the members at the places below n that pass, by rising place and then by rising value
abbrev pub cleared_at : State → List ℕ → (ℕ → Bool) → (ℕ → Bool) → ℕ → State
cleared_at d ms from gone zero = d
cleared_at d ms from gone (suc i) = cond (from i)
    (filtered (cleared_at d ms from gone i) (slice_index ms i) (λ u. not (gone u)))
    (cleared_at d ms from gone i)

-- the union of the first n members' domains has left those of all later members
abbrev pub without_union_of : State → List ℕ → ℕ → State
without_union_of d ms n = cleared_at d ms (λ i. not (in_prefix (part d ms) n i))
    (in_union (part d ms) n) (length ms)

-- the list holds just the first n members
pub record ListsOf (d : State) (ms : List ℕ) (n : ℕ) (set : List ℕ) : Type 0 where
  pub size : length set ≡ n
  pub vertices : (p : ℕ) → among set p ≡ in_prefix (part d ms) n (place_of ms p)

-- the list holds just the first n members, and the row the union of their domains
pub record ShowsOf (d : State) (ms : List ℕ) (n : ℕ) (set row : List ℕ) : Type 0 where
  pub size : length set ≡ n
  pub vertices : (p : ℕ) → among set p ≡ in_prefix (part d ms) n (place_of ms p)
  pub values : (t : ℕ) → has row t ≡ in_union (part d ms) n t

-- what each answer says of the domains before and after, and of the set and its union
abbrev pub PrunesOf : List ℕ → Pruned → State → State → List ℕ → List ℕ → Type 0
PrunesOf ms Quiet old new set values = Balanced (part old ms) × (new ≡ old)
PrunesOf ms Hall old new set values =
    (n : ℕ) × ((m : ℕ) → Short (part old ms) m → ⊥) × First (Tight (part old ms)) n
    × ShowsOf old ms n set values × (new ≡ without_union_of old ms n)
PrunesOf ms Fail old new set values =
    (n : ℕ) × First (Short (part old ms)) n × ListsOf old ms n set × (new ≡ old)
