-- The target that a handle has.

use Rattle.std.specs.Prelude.{Option, None, Some, if◌then◌else◌}
use Rattle.target_handle.specs.declared.handle.TargetHandle.{TargetHandle}
use Rattle.target_handle.specs.Target.{Target}

-- The target that a handle has, if any.
abbrev pub opened : TargetHandle → Option Target
opened h = if h.there then h.kept.target else None

-- The target that was taken out, if any, with its place.
abbrev pub taken : {X : Type 0} → Option (Target × X) → Option Target
taken None = None
taken (Some r) = Some r.0
