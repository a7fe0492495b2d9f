-- What a handle owns.

use Rattle.std.specs.Prelude.{Bool, true, false, None}
use base.Fml.{Fml, ftrue}
use denote.RawPtr.{Ptr}
use Rattle.std.specs.Box.Ownership.{box_owns}
use Rattle.std.specs.Global.{Global}
use Rattle.std.specs.contracts.impls.GlobalAllocator.TheImpl.{ghosts}
use Rattle.target_handle.specs.contracts.open_target.Kept.{the_row}

-- A handle to the heap. All are one.
abbrev pub heap : Global
heap = record { memory = record { seal = tt } }

abbrev pub kept_at : Ptr → Bool → the_row.Denot → Fml
kept_at p true x = box_owns (ghosts.dealloc_token heap) the_row p x
kept_at p false x = ftrue

-- A place without a target.
abbrev pub nothing_kept : the_row.Denot
nothing_kept = record { target = None }
