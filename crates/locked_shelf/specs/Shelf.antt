-- A book under a lock, and its seats.

use Rattle.std.specs.Prelude.{◌≡◌, ◌≢◌, ◌⊎◌, ℕ, ◌≤◌, List, [], ◌∷◌, ◌++◌, drop, length, Vec, vec_capacity, None, nat_le}
use Rattle.std.specs.Global.{Global}
use Rattle.std.specs.List.{All}
use Rattle.graph_theory.specs.Embedding.{Problem}
use Rattle.nogood_book.specs.declared.row.Row.{Row}
use Rattle.nogood_book.specs.Rows.{Sound}
use Rattle.nogood_book.specs.Places.{StartsWith}
use Rattle.nogood_book.specs.Facts.{Facts}

-- The rows under the lock, and the problem that they are about.
pub record Held : Type 0 where
  pub problem : Problem
  pub rows : List Row

-- A book: its problem, and how many rows it has room for.
pub record ShelfName : Type 0 where
  pub problem : Problem
  pub size : ℕ

-- A seat: its problem, its owner, how many rows its book has room for, and what it has seen.
pub record ShelfView : Type 0 where
  pub problem : Problem
  pub owner : ℕ
  pub most : ℕ
  pub seen : List Row

abbrev pub view_of : Problem → ℕ → ℕ → List Row → ShelfView
view_of q owner most seen = record { problem = q; owner = owner; most = most; seen = seen }

-- What a seat shows; a book under a lock tells no looks, and its seats take rows until it is full.
abbrev pub facts_of : ShelfView → Facts
facts_of s = record {
  problem = s.problem;
  owner = s.owner;
  size = s.most;
  seen = s.seen;
  looks = None;
  ended = nat_le s.most (length s.seen);
}

-- What a seat keeps.
pub record IsKept (s : ShelfView) : Type 0 where
  pub sound : Sound s.problem s.seen
  pub few : length s.seen ≤ s.most
  pub limit : s.most ≤ 4194304

-- The rows under the lock serve the seat: they are about its problem, are no more than its book has room for, begin with what it has
-- seen, and none of those behind is of its owner.
pub record Serves (h : Held) (s : ShelfView) : Type 0 where
  pub problem : h.problem ≡ s.problem
  pub few : length h.rows ≤ s.most
  pub seen : StartsWith h.rows s.seen
  pub others : All (λ r. r.owner ≢ s.owner) (drop (length s.seen) h.rows)

-- The seat's problem is that of the rows under the lock, and it has seen all of them.
abbrev pub HasSeenAll : Held → ShelfView → Type 0
HasSeenAll h s = (s.problem ≡ h.problem) × (s.seen ≡ h.rows)

-- The row was written behind the others, or nothing was.
abbrev pub IsWritten : Row → List Row → List Row → Type 0
IsWritten r old new = (new ≡ old ++ r ∷ []) ⊎ (new ≡ old)

-- A seat that has seen nothing.
abbrev pub fresh : Problem → ℕ → ℕ → ShelfView
fresh q owner most = view_of q owner most []

-- The seat's fields are within its limits, and its list has room for all rows of its book.
abbrev pub IsSeat : Problem → ℕ → ℕ → Vec Row Global → Type 0
IsSeat q owner most rows = IsKept (view_of q owner most rows.items) × (most ≤ vec_capacity rows)
