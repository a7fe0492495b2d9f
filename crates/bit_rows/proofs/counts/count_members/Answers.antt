use Rattle.std.proofs.Common.{◌≡◌, ℕ, ◌+◌, ◌/◌, ◌<◌, Bool, false, List, get_or, refl, ap, ◌∙◌, arith}
use Rattle.std.specs.Int.{from_bool}
use Rattle.std.proofs.lemmas.Bool.{le-ltb}
use Rattle.bit_rows.proofs.Counting.{in_first}
use Rattle.bit_rows.proofs.counts.count_members.Goals as goal

-- no value of this word has been counted
still_room : (row first counts : List ℕ) (place : ℕ) → ((v : ℕ) → get_or counts v 0 ≡ get_or first v 0 + from_bool (in_first row place v)) → ((v : ℕ) → get_or first v 0 < 65535)
    → (v : ℕ) → v / 64 ≡ place → get_or counts v 0 < 65535
still_room row first counts place before room v here =
    let none : in_first row place v ≡ false = rw (le-ltb (v / 64) place (omega arith)) refl in
    let e : get_or counts v 0 ≡ get_or first v 0 + from_bool false = before v ∙ ap (λ (t : Bool). get_or first v 0 + from_bool t) none in
    omega (arith, e, room v)

pub count_in_word-requires-clause-room : goal.count_in_word-requires-clause-room
count_in_word-requires-clause-room c = still_room c.args.row.now c.args.counts.now c.loop-place.counts c.loop-place.place c.loop-place.invariant c.requires.room
