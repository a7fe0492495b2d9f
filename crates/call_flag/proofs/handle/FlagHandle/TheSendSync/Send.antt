use mathlib.Core.Bool.{Bool, true, false}
use mir.Raw.{raw}
use base.Fraction.{full_share}
use base.Shift.{Keyless}
use denote.Memory.{lone}
use denote.RawPtr.{Ptr, block_ptr, null_ptr, lies_at}
use denote.Builtin.{RawPtr, bool}
use denote.Struct.Struct.{exits_of}
use denote.Struct.Owning.{shape, fields, to}
use denote.Exit.{Exit, unchanged, leaves, hidden, under}
use denote.Param.Send.{IsSend, Quiet, AllSend, part_keyless, owning_send, struct_send, sendable}
use Rattle.std.proofs.Crossing.{frees}
use Rattle.call_flag.specs.Owning.{heap, kept_at}
use Rattle.call_flag.specs.contracts.owner.Owner.{the_row as R}
use Rattle.call_flag.specs.contracts.handle.FlagHandle as handle
use Rattle.call_flag.proofs.owner.Owner.TheSendSync as kept

ps : IsSend RawPtr
ps = search sendable

bs : IsSend bool
bs = search sendable

lies : (p : Ptr) (x : R.Denot) → Keyless (lies_at R full_share p x)
lies (block_ptr b o) x = part_keyless R kept.the_send full_share x b o
lies null_ptr x = tt

quiet : {D X : Type 0} (to : D → X) (e : Exit X) → Quiet e → Quiet (hidden (under to e))
quiet to unchanged q = λ x w. tt
quiet to (leaves L l S s r₀) q = λ d. q (to d)

kept_keyless : (p : Ptr) (y : Bool) (x : R.Denot) → Keyless (kept_at p y x)
kept_keyless p true x = (lies p x, frees.frees heap (raw (lone R.mir)) p)
kept_keyless p false x = tt

pub send : IsSend handle.the_row
send = let O = handle.the_type in let all : AllSend (fields O) = (ps, (bs, tt)) in
    owning_send O all (λ d. kept_keyless d.at d.there d.kept) (λ k. quiet (to O) (exits_of k (fields O)) ((struct_send (shape O) all).leaving k))
