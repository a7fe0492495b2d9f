-- What a handle owns.

use Rattle.std.specs.Prelude.{Bool, true, false}
use base.Fml.{Fml, ftrue}
use denote.RawPtr.{Ptr, null_ptr}
use Rattle.std.specs.Box.Ownership.{box_owns}
use Rattle.std.specs.Global.{Global}
use Rattle.std.specs.contracts.impls.GlobalAllocator.TheImpl.{ghosts}
use Rattle.call_flag.specs.contracts.owner.Owner.{the_row}

-- A handle to the heap. All are one.
abbrev pub heap : Global
heap = record { memory = record { seal = tt } }

abbrev pub kept_at : Ptr → Bool → the_row.Denot → Fml
kept_at p true x = box_owns (ghosts.dealloc_token heap) the_row p x
kept_at p false x = ftrue

-- What stands for an owner where there is none.
abbrev pub nothing_kept : the_row.Denot
nothing_kept = record { flag = record { ptr = null_ptr; value = record { word = tt } } }
