-- Sets of numbers as rows of words: value v is bit v % 64 of word v / 64.
use Rattle.std.specs.Prelude.{◌≡◌, ℕ, ◌+◌, ◌*◌, ◌/◌, ◌%◌, ◌==◌, ◌<◌, ◌≤◌, Bool, List, length, map, slice_index, bit_and}
use Rattle.std.specs.Int.{bit_at, bit_not, w64}
use Rattle.graph_theory.specs.Neighbours.{members}

-- whether bit b of a word is set
abbrev pub is_set : ℕ → ℕ → Bool
is_set word b = bit_at word b == 1

-- whether v is in the set that the row holds
abbrev pub has : List ℕ → ℕ → Bool
has row v = is_set (slice_index row (v / 64)) (v % 64)

-- how many words a row of so many values has
abbrev pub words_for : ℕ → ℕ
words_for values = (values + 63) / 64

-- the values that a word of a row stands for, rising
unfoldable pub word_values : ℕ → ℕ → List ℕ
word_values place word = map (λ b. 64 * place + b) (members (is_set word) 64)

-- the bits of the first word that the second lacks
abbrev pub without : ℕ → ℕ → ℕ
without a b = bit_and a (bit_not w64 b)

-- the words from one place up to another became those of an operation on them and another row's, and all others are as they were
pub record AreChanged (op : ℕ → ℕ → ℕ) (start end : ℕ) (old from new : List ℕ) : Type 0 where
  pub long : length new ≡ length old
  pub changed : (k : ℕ) → start ≤ k → k < end
      → slice_index new k ≡ op (slice_index old k) (slice_index from k)
  pub before : (k : ℕ) → k < start → slice_index new k ≡ slice_index old k
  pub behind : (k : ℕ) → end ≤ k → slice_index new k ≡ slice_index old k
