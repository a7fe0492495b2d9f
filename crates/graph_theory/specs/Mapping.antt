-- The text of a mapping: the line `yes`, then a line `p -> t` for each pattern vertex p in order.

use Rattle.std.specs.Prelude.{◌≡◌, ◌≢◌, ℕ, ◌+◌, ◌^◌, ◌<◌, ◌⊎◌, List, [], ◌∷◌, ◌++◌, length, codes}
use Rattle.std.specs.Fmt.{decimal}
use Rattle.graph_theory.specs.declared.mapping_text.MapFault.{MapFault}
use Rattle.graph_theory.specs.declared.mapping_text.MapFault.TheVariants.{Line, NoMemory}

-- The line of vertex p at t.
abbrev pub mapping_line : ℕ → ℕ → List ℕ
mapping_line p t = decimal p ++ (codes " -> " ++ (decimal t ++ 10 ∷ []))

-- The lines of a list of images, the first of them that of vertex p.
abbrev pub mapping_lines : ℕ → List ℕ → List ℕ
mapping_lines p [] = []
mapping_lines p (t ∷ ts) = mapping_line p t ++ mapping_lines (p + 1) ts

-- The first line of an answer `yes`.
abbrev pub yes_line : List ℕ
yes_line = codes "yes" ++ 10 ∷ []

-- The text of the mapping m.
abbrev pub yes_text : List ℕ → List ℕ
yes_text m = yes_line ++ mapping_lines 0 m

-- Each image is below 2^32.
abbrev pub AreNumbers32 : List ℕ → Type 0
AreNumbers32 [] = Unit {0}
AreNumbers32 (t ∷ ts) = (t < 2 ^ 32) × AreNumbers32 ts

-- The bytes are the text of the mapping m.
pub record IsMapping (bytes m : List ℕ) : Type 0 where
  pub images : AreNumbers32 m
  pub text : bytes ≡ yes_text m

-- The bytes do not begin with a line of vertex p.
abbrev pub HasNoLine : ℕ → List ℕ → Type 0
HasNoLine p bytes = (t : ℕ) (more : List ℕ) → t < 2 ^ 32 → bytes ≢ mapping_line p t ++ more

-- The bytes begin with the text of m, go on, and the next line is not one for the next vertex.
pub record StopsAfter (bytes m : List ℕ) : Type 0 where
  pub images : AreNumbers32 m
  pub rest : List ℕ
  pub text : bytes ≡ yes_text m ++ rest
  pub goes_on : rest ≢ []
  pub no_line : HasNoLine (length m) rest

-- Lines 1 to n - 1 are each of their form, and line n is not; lines count from 1.
abbrev pub FaultyLine : List ℕ → ℕ → Type 0
FaultyLine bytes n = ((n ≡ 1) × ((more : List ℕ) → bytes ≢ yes_line ++ more))
    ⊎ ((m : List ℕ) × (n ≡ length m + 2) × StopsAfter bytes m)

-- A fact of the line that a fault names, where it names one.
abbrev pub OnLine : MapFault → (ℕ → Type 0) → Type 0
OnLine NoMemory P = Unit {0}
OnLine (Line n) P = P n

-- No byte is a line feed.
abbrev pub HasNoLineFeed : List ℕ → Type 0
HasNoLineFeed [] = Unit {0}
HasNoLineFeed (b ∷ bs) = (b ≢ 10) × HasNoLineFeed bs

-- What holds of every text: it is that of one mapping or has one first faulty line, and never both.
pub record MappingLaws : Type 0 where
  pub one_mapping : (bytes m n : List ℕ) → IsMapping bytes m → IsMapping bytes n → m ≡ n
  pub no_fault : (bytes m : List ℕ) (n : ℕ) → IsMapping bytes m → FaultyLine bytes n → ⊥
  pub one_fault : (bytes : List ℕ) (n k : ℕ) → FaultyLine bytes n → FaultyLine bytes k → n ≡ k
  pub either : (bytes : List ℕ) → ((m : List ℕ) × IsMapping bytes m) ⊎ ((n : ℕ)
      × FaultyLine bytes n)
