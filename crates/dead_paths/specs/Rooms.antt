-- Memory of a walk back.

use Rattle.std.specs.Prelude.{◌≡◌, ℕ, length}
use Rattle.bit_rows.specs.BitRows.{words_for}
use Rattle.dead_paths.specs.declared.room.Room.{Room}

-- Its rows and counts are as long as a target of so many values asks for.
pub record IsFit (values : ℕ) (room : Room) : Type 0 where
  pub spare : length room.spare.items ≡ words_for values
  pub other : length room.other.items ≡ words_for values
  pub set : length room.set.items ≡ words_for values
  pub counts : length room.counts.items ≡ values
