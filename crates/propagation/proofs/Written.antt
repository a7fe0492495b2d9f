-- Vectors that were written through their slices: as long as they were.

use Rattle.std.proofs.Common.{◌≡◌, List, length, sym, ◌∙◌}
use Rattle.std.specs.Global.{Vec}
use Rattle.std.specs.Vec.{with_items}

pub length_written : {X : Type 0} (v : Vec X) (ws : List X) → length (with_items v ws).items ≡ length v.items
length_written v ws = sym (with_items v ws).ok.0 ∙ v.ok.0
