-- Where a call fails, what has to be so of the answer is so because of that failure; the files are as the last call left them.

use Rattle.std.proofs.Common.{◌≡◌, ℕ, ◌≢◌, ◌+◌, ◌-◌, ◌<◌, ◌≤◌, List, [], ◌++◌, length, take, Option, Some, None, Result, Ok, Err, IsErrAnd, IsErrOf, IsSome, IsSomeAnd, inl, inr, refl, sym, ap, ◌∙◌, subst, append_assoc, length-append, arith}
use Rattle.std.proofs.lemmas.List.{append-nil, length-take}
use Rattle.std.proofs.lemmas.Result.{IfOk-from_err}
use Rattle.std.proofs.Math.Seq.{take-append_seam}
use Rattle.std.specs.Io.KnownBytes.{prepend_known, IsAtEnd}
use Rattle.outer_io.specs.Faults.{Rose}
use Rattle.outer_io.specs.declared.fault.LoadFault.TheVariants.{the_data, Failed, TooLong, NoMemory}
use Rattle.outer_io.proofs.reading.load.Goals as goal

-- an error that is known is no other
no_other : {A E : Type 0} (r : Result A E) (x y : E) → (x ≡ y → ⊥) → IsErrAnd r (λ e. e ≡ x) → IsErrOf r y → ⊥
no_other (Ok a) x y apart is other = absurd is
no_other (Err e) x y apart is other = apart (let same : e ≡ y = cc in cc)

-- the errors are apart
failed_too_long : ◌≡◌ {A = the_data} Failed TooLong → ⊥
failed_too_long same = cc

no_memory_too_long : ◌≡◌ {A = the_data} NoMemory TooLong → ⊥
no_memory_too_long same = cc

no_memory_failed : ◌≡◌ {A = the_data} NoMemory Failed → ⊥
no_memory_failed same = cc

too_long_failed : {A : Type 0} → IsErrOf {T = A} (Err TooLong) Failed → ⊥
too_long_failed same = cc

-- what was made is no error
made_no_error : {A E : Type 0} (a : A) (e : E) → IsErrOf (Ok a) e → ⊥
made_no_error a e same = cc

-- a known error is that error
is_error : {A E : Type 0} (r : Result A E) (x : E) → IsErrAnd r (λ e. e ≡ x) → IsErrOf r x
is_error (Ok a) x is = absurd is
is_error (Err e) x is = ap Err is

-- nothing is no value
none_is_none : IsSome {T = List ℕ} None → ⊥
none_is_none some = cc

-- what was read is all, where the read that gave no byte was at the end
read_all : (content left later : Option (List ℕ)) (bytes buffer : List ℕ) (count : ℕ) → content ≡ prepend_known bytes left → left ≡ prepend_known (take count buffer) later → count ≡ 0 → IsAtEnd later → IsSome content → content ≡ Some bytes
read_all content left later bytes buffer count whole front none end some =
    by later (whole ∙ ap (prepend_known bytes) (front ∙ ap (λ n. prepend_known (take n buffer) later) none)) end
  where
    by : (known : Option (List ℕ)) → content ≡ prepend_known bytes (prepend_known [] known) → IsAtEnd known → content ≡ Some bytes
    by None is end = absurd (none_is_none (subst IsSome is some))
    by (Some rest) is end = is ∙ ap (λ xs. Some (bytes ++ xs)) end ∙ ap Some (append-nil bytes)

-- what the buffer shows after a read, and what of it was taken
read_is : (shown new lent rest bytes more : List ℕ) (size count : ℕ) → shown ≡ take size (new ++ rest) → length new ≡ length lent → length lent ≡ size → more ≡ bytes ++ take count shown → more ≡ bytes ++ take count new
read_is shown new lent rest bytes more size count shows filled whole taken =
    taken ∙ ap (λ xs. bytes ++ take count xs) (shows ∙ ap (λ n. take n (new ++ rest)) (sym (filled ∙ whole)) ∙ take-append_seam new rest)

-- what was read before a read, and what it read
prepend_more : (content left later : Option (List ℕ)) (shown new lent rest bytes more : List ℕ) (size count : ℕ) → content ≡ prepend_known bytes left → left ≡ prepend_known (take count new) later
    → shown ≡ take size (new ++ rest) → length new ≡ length lent → length lent ≡ size → more ≡ bytes ++ take count shown → content ≡ prepend_known more later
prepend_more content left later shown new lent rest bytes more size count before front shows filled whole taken =
    before ∙ ap (prepend_known bytes) front ∙ joined later ∙ ap (λ xs. prepend_known xs later) (sym (read_is shown new lent rest bytes more size count shows filled whole taken))
  where
    joined : (known : Option (List ℕ)) → prepend_known bytes (prepend_known (take count new) known) ≡ prepend_known (bytes ++ take count new) known
    joined None = refl
    joined (Some xs) = ap Some (sym (append_assoc bytes (take count new) xs))

-- no byte before what is left is what is left
prepend_none : (known : Option (List ℕ)) → known ≡ prepend_known [] known
prepend_none None = refl
prepend_none (Some xs) = refl

-- the buffer is as long as what was asked for
as_asked : (new lent : List ℕ) (size room : ℕ) → length new ≡ length lent → length lent ≡ size → size ≡ room → length new ≡ room
as_asked new lent size room filled whole sized = filled ∙ whole ∙ sized

-- how many bytes there are after a read
more_long : (shown new lent rest bytes more : List ℕ) (size room count : ℕ) → shown ≡ take size (new ++ rest) → length new ≡ length lent → length lent ≡ size → size ≡ room → count ≤ length new
    → more ≡ bytes ++ take count shown → (length more ≡ length bytes + count) × (length more ≤ length bytes + room)
more_long shown new lent rest bytes more size room count shows filled whole sized within taken =
    let read = read_is shown new lent rest bytes more size count shows filled whole taken in
    let all : length more ≡ length bytes + count = ap length read ∙ length-append bytes (take count new) ∙ omega (arith, length-take count new) in
    (all, omega arith)

-- the bytes are not more than one too many, and more than they were
read_fits : (shown new lent rest bytes more : List ℕ) (size room count had most : ℕ) → shown ≡ take size (new ++ rest) → length new ≡ length lent → length lent ≡ size → size ≡ room → count ≤ length new
    → more ≡ bytes ++ take count shown → had ≡ length bytes → had + room ≤ most + 1 → length more ≤ most + 1
read_fits shown new lent rest bytes more size room count had most shows filled whole sized within taken all near =
    let after = more_long shown new lent rest bytes more size room count shows filled whole sized within taken in
    omega (arith, after.1)

read_less_left : (shown new lent rest bytes more : List ℕ) (size room count had most : ℕ) → shown ≡ take size (new ++ rest) → length new ≡ length lent → length lent ≡ size → size ≡ room → count ≤ length new
    → more ≡ bytes ++ take count shown → had ≡ length bytes → had + room ≤ most + 1 → count ≢ 0 → most + 1 - length more < most + 1 - length bytes
read_less_left shown new lent rest bytes more size room count had most shows filled whole sized within taken all near some =
    let after = more_long shown new lent rest bytes more size room count shows filled whole sized within taken in
    omega (arith, after.0, after.1)

-- a file is longer than the bytes that were read of it
longer : (content left : Option (List ℕ)) (bytes : List ℕ) (most : ℕ) → content ≡ prepend_known bytes left → most < length bytes → IsSome content → IsSomeAnd content (λ all. most < length all)
longer content None bytes most whole past some = absurd (none_is_none (subst IsSome whole some))
longer content (Some rest) bytes most whole past some =
    subst (λ (known : Option (List ℕ)). IsSomeAnd known (λ all. most < length all)) (sym whole) (omega (arith, length-append bytes rest))

pub returns-in_err-start-clause-whole : goal.returns-in_err-start-clause-whole
returns-in_err-start-clause-whole g c = IfOk-from_err _ _ c.from_residual.ensures.0

pub returns-in_err-start-clause-short : goal.returns-in_err-start-clause-short
returns-in_err-start-clause-short g c = IfOk-from_err _ _ c.from_residual.ensures.0

pub returns-in_err-start-clause-too_long : goal.returns-in_err-start-clause-too_long
returns-in_err-start-clause-too_long g c = λ other. absurd (no_other c.from_residual.result Failed TooLong failed_too_long c.from_residual.ensures.1 other)

pub returns-in_err-start-clause-rose : goal.returns-in_err-start-clause-rose
returns-in_err-start-clause-rose g c = λ _. c.in_err-start.ensures.cause.failed

pub returns-in_err-start-clause-fault_at : goal.returns-in_err-start-clause-fault_at
returns-in_err-start-clause-fault_at g c = λ _. c.in_err-start.ensures.fault_at

pub returns-in_err-start-clause-quiet : goal.returns-in_err-start-clause-quiet
returns-in_err-start-clause-quiet g c = inl (is_error c.from_residual.result Failed c.from_residual.ensures.1)

pub returns-in_err-start-clause-later : goal.returns-in_err-start-clause-later
returns-in_err-start-clause-later g c = c.start.ensures.cause.later

pub returns-in_err-start-clause-same : goal.returns-in_err-start-clause-same
returns-in_err-start-clause-same g c = c.start.ensures.same

pub returns-in_err-start-clause-tells : goal.returns-in_err-start-clause-tells
returns-in_err-start-clause-tells g c = c.start.ensures.tells

pub returns-in_err-start-clause-begun : goal.returns-in_err-start-clause-begun
returns-in_err-start-clause-begun g c = c.start.ensures.begun

pub returns-in_err-resize-clause-whole : goal.returns-in_err-resize-clause-whole
returns-in_err-resize-clause-whole g c = IfOk-from_err _ _ c.from_residual-in_err-resize.ensures.0

pub returns-in_err-resize-clause-short : goal.returns-in_err-resize-clause-short
returns-in_err-resize-clause-short g c = IfOk-from_err _ _ c.from_residual-in_err-resize.ensures.0

pub returns-in_err-resize-clause-too_long : goal.returns-in_err-resize-clause-too_long
returns-in_err-resize-clause-too_long g c = λ other. absurd (no_other c.from_residual-in_err-resize.result NoMemory TooLong no_memory_too_long c.from_residual-in_err-resize.ensures.1 other)

pub returns-in_err-resize-clause-rose : goal.returns-in_err-resize-clause-rose
returns-in_err-resize-clause-rose g c = λ other. absurd (no_other c.from_residual-in_err-resize.result NoMemory Failed no_memory_failed c.from_residual-in_err-resize.ensures.1 other)

pub returns-in_err-resize-clause-fault_at : goal.returns-in_err-resize-clause-fault_at
returns-in_err-resize-clause-fault_at g c = λ other. absurd (no_other c.from_residual-in_err-resize.result NoMemory Failed no_memory_failed c.from_residual-in_err-resize.ensures.1 other)

pub returns-in_err-resize-clause-quiet : goal.returns-in_err-resize-clause-quiet
returns-in_err-resize-clause-quiet g c = inr c.loop-buffer.invariant.faults

pub returns-in_err-resize-clause-later : goal.returns-in_err-resize-clause-later
returns-in_err-resize-clause-later g c = subst (λ (now : ℕ). g.F.Files.faults c.args.files.now ≤ now) (sym c.loop-buffer.invariant.faults) (omega arith)

pub returns-in_err-resize-clause-same : goal.returns-in_err-resize-clause-same
returns-in_err-resize-clause-same g c = c.loop-buffer.invariant.same

pub returns-in_err-resize-clause-tells : goal.returns-in_err-resize-clause-tells
returns-in_err-resize-clause-tells g c = c.loop-buffer.invariant.tells

pub returns-in_err-resize-clause-begun : goal.returns-in_err-resize-clause-begun
returns-in_err-resize-clause-begun g c = c.loop-buffer.invariant.begun

pub returns-in_err-count-clause-whole : goal.returns-in_err-count-clause-whole
returns-in_err-count-clause-whole g c = IfOk-from_err _ _ c.from_residual-in_err-count.ensures.0

pub returns-in_err-count-clause-short : goal.returns-in_err-count-clause-short
returns-in_err-count-clause-short g c = IfOk-from_err _ _ c.from_residual-in_err-count.ensures.0

pub returns-in_err-count-clause-too_long : goal.returns-in_err-count-clause-too_long
returns-in_err-count-clause-too_long g c = λ other. absurd (no_other c.from_residual-in_err-count.result Failed TooLong failed_too_long c.from_residual-in_err-count.ensures.1 other)

pub returns-in_err-count-clause-rose : goal.returns-in_err-count-clause-rose
returns-in_err-count-clause-rose g c = λ _. subst (λ (before : ℕ). Rose before (g.F.Files.faults c.next.new.self)) c.loop-buffer.invariant.faults c.in_err-count.ensures.cause.failed

pub returns-in_err-count-clause-fault_at : goal.returns-in_err-count-clause-fault_at
returns-in_err-count-clause-fault_at g c = λ _. c.in_err-count.ensures.fault_at _ c.loop-buffer.invariant.chosen

pub returns-in_err-count-clause-quiet : goal.returns-in_err-count-clause-quiet
returns-in_err-count-clause-quiet g c = inl (is_error c.from_residual-in_err-count.result Failed c.from_residual-in_err-count.ensures.1)

pub returns-in_err-count-clause-later : goal.returns-in_err-count-clause-later
returns-in_err-count-clause-later g c = subst (λ (before : ℕ). before ≤ g.F.Files.faults c.next.new.self) c.loop-buffer.invariant.faults c.next.ensures.cause.later

pub returns-in_err-count-clause-same : goal.returns-in_err-count-clause-same
returns-in_err-count-clause-same g c = λ file. c.next.ensures.same file ∙ c.loop-buffer.invariant.same file

pub returns-in_err-count-clause-tells : goal.returns-in_err-count-clause-tells
returns-in_err-count-clause-tells g c = c.next.ensures.tells ∙ c.loop-buffer.invariant.tells

pub returns-in_err-count-clause-begun : goal.returns-in_err-count-clause-begun
returns-in_err-count-clause-begun g c = c.next.ensures.begun ∙ c.loop-buffer.invariant.begun

pub returns-in_err-extend_from_slice-clause-whole : goal.returns-in_err-extend_from_slice-clause-whole
returns-in_err-extend_from_slice-clause-whole g c = IfOk-from_err _ _ c.from_residual-in_err-extend_from_slice.ensures.0

pub returns-in_err-extend_from_slice-clause-short : goal.returns-in_err-extend_from_slice-clause-short
returns-in_err-extend_from_slice-clause-short g c = IfOk-from_err _ _ c.from_residual-in_err-extend_from_slice.ensures.0

pub returns-in_err-extend_from_slice-clause-too_long : goal.returns-in_err-extend_from_slice-clause-too_long
returns-in_err-extend_from_slice-clause-too_long g c = λ other. absurd (no_other c.from_residual-in_err-extend_from_slice.result NoMemory TooLong no_memory_too_long c.from_residual-in_err-extend_from_slice.ensures.1 other)

pub returns-in_err-extend_from_slice-clause-rose : goal.returns-in_err-extend_from_slice-clause-rose
returns-in_err-extend_from_slice-clause-rose g c = λ other. absurd (no_other c.from_residual-in_err-extend_from_slice.result NoMemory Failed no_memory_failed c.from_residual-in_err-extend_from_slice.ensures.1 other)

pub returns-in_err-extend_from_slice-clause-fault_at : goal.returns-in_err-extend_from_slice-clause-fault_at
returns-in_err-extend_from_slice-clause-fault_at g c = λ other. absurd (no_other c.from_residual-in_err-extend_from_slice.result NoMemory Failed no_memory_failed c.from_residual-in_err-extend_from_slice.ensures.1 other)

pub returns-in_err-extend_from_slice-clause-quiet : goal.returns-in_err-extend_from_slice-clause-quiet
returns-in_err-extend_from_slice-clause-quiet g c = inr (c.in_ok-count.ensures.cause.quiet ∙ c.loop-buffer.invariant.faults)

pub returns-in_err-extend_from_slice-clause-later : goal.returns-in_err-extend_from_slice-clause-later
returns-in_err-extend_from_slice-clause-later g c = subst (λ (before : ℕ). before ≤ g.F.Files.faults c.next.new.self) c.loop-buffer.invariant.faults c.next.ensures.cause.later

pub returns-in_err-extend_from_slice-clause-same : goal.returns-in_err-extend_from_slice-clause-same
returns-in_err-extend_from_slice-clause-same g c = λ file. c.next.ensures.same file ∙ c.loop-buffer.invariant.same file

pub returns-in_err-extend_from_slice-clause-tells : goal.returns-in_err-extend_from_slice-clause-tells
returns-in_err-extend_from_slice-clause-tells g c = c.next.ensures.tells ∙ c.loop-buffer.invariant.tells

pub returns-in_err-extend_from_slice-clause-begun : goal.returns-in_err-extend_from_slice-clause-begun
returns-in_err-extend_from_slice-clause-begun g c = c.next.ensures.begun ∙ c.loop-buffer.invariant.begun

pub returns-then-count-eq0-clause-whole : goal.returns-then-count-eq0-clause-whole
returns-then-count-eq0-clause-whole g c = λ tells. read_all _ _ _ _ c.next.new.buffer c.in_ok-count.count c.loop-buffer.invariant.whole c.in_ok-count.ensures.bytes.0 c.if-count-eq0.true (c.in_ok-count.ensures.bytes.1 c.if-count-eq0.true (omega (arith, as_asked _ _ _ _ c.next.auto.buffer c.deref_mut.ensures.len c.in_ok-resize.ensures.len, c.room_for.ensures.some))) (c.in_ok-start.ensures.there tells)

pub returns-then-count-eq0-clause-short : goal.returns-then-count-eq0-clause-short
returns-then-count-eq0-clause-short g c = subst (λ (n : ℕ). n ≤ c.args.most) (c.len.ensures ∙ c.loop-buffer.bytes.ok.0) c.loop-buffer-test.true

pub returns-then-count-eq0-clause-too_long : goal.returns-then-count-eq0-clause-too_long
returns-then-count-eq0-clause-too_long g c = λ other. absurd (made_no_error _ _ other)

pub returns-then-count-eq0-clause-rose : goal.returns-then-count-eq0-clause-rose
returns-then-count-eq0-clause-rose g c = λ other. absurd (made_no_error _ _ other)

pub returns-then-count-eq0-clause-fault_at : goal.returns-then-count-eq0-clause-fault_at
returns-then-count-eq0-clause-fault_at g c = λ other. absurd (made_no_error _ _ other)

pub returns-then-count-eq0-clause-quiet : goal.returns-then-count-eq0-clause-quiet
returns-then-count-eq0-clause-quiet g c = inr (c.in_ok-count.ensures.cause.quiet ∙ c.loop-buffer.invariant.faults)

pub returns-then-count-eq0-clause-later : goal.returns-then-count-eq0-clause-later
returns-then-count-eq0-clause-later g c = subst (λ (before : ℕ). before ≤ g.F.Files.faults c.next.new.self) c.loop-buffer.invariant.faults c.next.ensures.cause.later

pub returns-then-count-eq0-clause-same : goal.returns-then-count-eq0-clause-same
returns-then-count-eq0-clause-same g c = λ file. c.next.ensures.same file ∙ c.loop-buffer.invariant.same file

pub returns-then-count-eq0-clause-tells : goal.returns-then-count-eq0-clause-tells
returns-then-count-eq0-clause-tells g c = c.next.ensures.tells ∙ c.loop-buffer.invariant.tells

pub returns-then-count-eq0-clause-begun : goal.returns-then-count-eq0-clause-begun
returns-then-count-eq0-clause-begun g c = c.next.ensures.begun ∙ c.loop-buffer.invariant.begun

pub returns-clause-too_long : goal.returns-clause-too_long
returns-clause-too_long g c = λ _ tells. longer _ _ _ _ c.loop-buffer.invariant.whole (subst (λ (n : ℕ). c.args.most < n) (c.len.ensures ∙ c.loop-buffer.bytes.ok.0) c.loop-buffer-test.false) (c.in_ok-start.ensures.there tells)

pub returns-clause-rose : goal.returns-clause-rose
returns-clause-rose g c = λ other. absurd (too_long_failed other)

pub returns-clause-fault_at : goal.returns-clause-fault_at
returns-clause-fault_at g c = λ other. absurd (too_long_failed other)

pub returns-clause-quiet : goal.returns-clause-quiet
returns-clause-quiet g c = inr c.loop-buffer.invariant.faults

pub returns-clause-later : goal.returns-clause-later
returns-clause-later g c = subst (λ (now : ℕ). g.F.Files.faults c.args.files.now ≤ now) (sym c.loop-buffer.invariant.faults) (omega arith)

pub returns-clause-same : goal.returns-clause-same
returns-clause-same g c = c.loop-buffer.invariant.same

pub returns-clause-tells : goal.returns-clause-tells
returns-clause-tells g c = c.loop-buffer.invariant.tells

pub returns-clause-begun : goal.returns-clause-begun
returns-clause-begun g c = c.loop-buffer.invariant.begun

pub loop-buffer-init : goal.loop-buffer-init
loop-buffer-init g c = record {
  short = omega (arith, ap length c.new-bytes.ensures.items);
  whole = sym c.in_ok-start.ensures.left ∙ prepend_none _ ∙ ap (λ (xs : List ℕ). prepend_known xs (g.F.Files.left c.start.new.self)) (sym c.new-bytes.ensures.items);
  chosen = c.in_ok-start.ensures.chosen;
  same = c.start.ensures.same;
  faults = c.in_ok-start.ensures.cause.quiet;
  tells = c.start.ensures.tells;
  begun = c.start.ensures.begun;
}

pub loop-buffer-preserved : goal.loop-buffer-preserved
loop-buffer-preserved g c = record {
  short = read_fits _ _ _ _ _ _ _ _ _ _ _ c.deref.ensures.value c.next.auto.buffer c.deref_mut.ensures.len c.in_ok-resize.ensures.len c.in_ok-count.ensures.bound.0 c.in_ok-extend_from_slice.ensures.items (c.len-in-loop-buffer.ensures ∙ c.loop-buffer.bytes.ok.0) c.room_for.ensures.near;
  whole = prepend_more _ _ _ _ _ _ _ _ _ _ _ c.loop-buffer.invariant.whole c.in_ok-count.ensures.bytes.0 c.deref.ensures.value c.next.auto.buffer c.deref_mut.ensures.len c.in_ok-extend_from_slice.ensures.items;
  chosen = c.next.ensures.chosen ∙ c.loop-buffer.invariant.chosen;
  same = λ file. c.next.ensures.same file ∙ c.loop-buffer.invariant.same file;
  faults = c.in_ok-count.ensures.cause.quiet ∙ c.loop-buffer.invariant.faults;
  tells = c.next.ensures.tells ∙ c.loop-buffer.invariant.tells;
  begun = c.next.ensures.begun ∙ c.loop-buffer.invariant.begun;
}

pub loop-buffer-smaller : goal.loop-buffer-smaller
loop-buffer-smaller g c = read_less_left _ _ _ _ _ _ _ _ _ _ _ c.deref.ensures.value c.next.auto.buffer c.deref_mut.ensures.len c.in_ok-resize.ensures.len c.in_ok-count.ensures.bound.0 c.in_ok-extend_from_slice.ensures.items (c.len-in-loop-buffer.ensures ∙ c.loop-buffer.bytes.ok.0) c.room_for.ensures.near c.if-count-eq0.false
