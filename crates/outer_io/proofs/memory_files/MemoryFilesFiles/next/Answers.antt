-- What was read and what is left.

use Rattle.std.proofs.Common.{ℕ, List, Some, refl, ap, ◌∙◌, rules}
use Rattle.outer_io.specs.declared.fault.Purpose.TheVariants.{Reading}
use Rattle.outer_io.proofs.ReadingInMemory.{TakesFront-content}
use Rattle.outer_io.proofs.MemoryFaults.{fault_cause, no_fault_cause, told_to_fail, chosen_name}
use Rattle.outer_io.proofs.memory_files.MemoryFilesFiles.next.Goals as goal

pub returns-clause-labels : goal.returns-clause-labels
returns-clause-labels c = refl

pub returns-clause-begun : goal.returns-clause-begun
returns-clause-begun c = refl

pub returns-clause-tells : goal.returns-clause-tells
returns-clause-tells c = refl

pub returns-clause-same : goal.returns-clause-same
returns-clause-same c = λ file. refl

pub returns-clause-bytes : goal.returns-clause-bytes
returns-clause-bytes c = rw c.in-Some.is (TakesFront-content _ c.in-Some-content_of.bytes.now _ c.in-Some.at c.min-from.result c.copy_from-count.result (search rules) c.min-from.ensures c.copy_from-count.ensures.count c.copy_from-count.ensures.copied)

pub returns-clause-nothing : goal.returns-clause-nothing
returns-clause-nothing c = λ failing. refl

pub returns-clause-cause : goal.returns-clause-cause
returns-clause-cause c = no_fault_cause _ _

pub returns-clause-counted : goal.returns-clause-counted
returns-clause-counted c = c.count.ensures.counted

pub returns-clause-fault_at : goal.returns-clause-fault_at
returns-clause-fault_at c = λ file chosen. refl

pub returns-in_default-clause-fault_at : goal.returns-in_default-clause-fault_at
returns-in_default-clause-fault_at c = λ file chosen. c.raise-in_default.ensures.last ∙ ap (λ (name : List ℕ). Some (name, Reading)) (c.as_bytes-name.ensures.name ∙ chosen_name _ file _ chosen)

pub returns-in_default-clause-counted : goal.returns-in_default-clause-counted
returns-in_default-clause-counted c = c.count.ensures.counted

pub returns-in_default-clause-cause : goal.returns-in_default-clause-cause
returns-in_default-clause-cause c = fault_cause _ _ _ c.raise-in_default.ensures.count c.raise-in_default.ensures.later

pub returns-in_default-clause-nothing : goal.returns-in_default-clause-nothing
returns-in_default-clause-nothing c = λ failing. refl

pub returns-in_default-clause-bytes : goal.returns-in_default-clause-bytes
returns-in_default-clause-bytes c = refl

pub returns-in_default-clause-chosen : goal.returns-in_default-clause-chosen
returns-in_default-clause-chosen c = refl

pub returns-in_default-clause-same : goal.returns-in_default-clause-same
returns-in_default-clause-same c = λ file. refl

pub returns-in_default-clause-tells : goal.returns-in_default-clause-tells
returns-in_default-clause-tells c = refl

pub returns-in_default-clause-begun : goal.returns-in_default-clause-begun
returns-in_default-clause-begun c = refl

pub returns-in_default-clause-labels : goal.returns-in_default-clause-labels
returns-in_default-clause-labels c = refl

pub returns-in_default-content_of-clause-bytes : goal.returns-in_default-content_of-clause-bytes
returns-in_default-content_of-clause-bytes c = refl

pub returns-in_default-content_of-clause-nothing : goal.returns-in_default-content_of-clause-nothing
returns-in_default-content_of-clause-nothing c = λ failing. refl

pub returns-in_default-content_of-clause-cause : goal.returns-in_default-content_of-clause-cause
returns-in_default-content_of-clause-cause c = fault_cause _ _ _ c.raise-in_default-content_of.ensures.count c.raise-in_default-content_of.ensures.later

pub returns-in_default-content_of-clause-counted : goal.returns-in_default-content_of-clause-counted
returns-in_default-content_of-clause-counted c = c.count.ensures.counted

pub returns-in_default-content_of-clause-fault_at : goal.returns-in_default-content_of-clause-fault_at
returns-in_default-content_of-clause-fault_at c = λ file chosen. c.raise-in_default-content_of.ensures.last ∙ ap (λ (name : List ℕ). Some (name, Reading)) (c.as_bytes-name.ensures.name ∙ chosen_name _ file _ chosen)

pub returns-in_default-content_of-clause-labels : goal.returns-in_default-content_of-clause-labels
returns-in_default-content_of-clause-labels c = refl

pub returns-in_default-content_of-clause-begun : goal.returns-in_default-content_of-clause-begun
returns-in_default-content_of-clause-begun c = refl

pub returns-in_default-content_of-clause-tells : goal.returns-in_default-content_of-clause-tells
returns-in_default-content_of-clause-tells c = refl

pub returns-in_default-content_of-clause-same : goal.returns-in_default-content_of-clause-same
returns-in_default-content_of-clause-same c = λ file. refl

pub returns-in_default-content_of-clause-chosen : goal.returns-in_default-content_of-clause-chosen
returns-in_default-content_of-clause-chosen c = refl

pub returns-then-count-clause-labels : goal.returns-then-count-clause-labels
returns-then-count-clause-labels c = refl

pub returns-then-count-clause-succeeds : goal.returns-then-count-clause-succeeds
returns-then-count-clause-succeeds c = told_to_fail _ _ (c.count.ensures.fails.0 c.if-count.true)

pub returns-then-count-clause-begun : goal.returns-then-count-clause-begun
returns-then-count-clause-begun c = refl

pub returns-then-count-clause-tells : goal.returns-then-count-clause-tells
returns-then-count-clause-tells c = refl

pub returns-then-count-clause-same : goal.returns-then-count-clause-same
returns-then-count-clause-same c = λ file. refl

pub returns-then-count-clause-chosen : goal.returns-then-count-clause-chosen
returns-then-count-clause-chosen c = refl

pub returns-then-count-clause-bytes : goal.returns-then-count-clause-bytes
returns-then-count-clause-bytes c = refl

pub returns-then-count-clause-nothing : goal.returns-then-count-clause-nothing
returns-then-count-clause-nothing c = λ failing. refl

pub returns-then-count-clause-cause : goal.returns-then-count-clause-cause
returns-then-count-clause-cause c = fault_cause _ _ _ c.raise.ensures.count c.raise.ensures.later

pub returns-then-count-clause-counted : goal.returns-then-count-clause-counted
returns-then-count-clause-counted c = c.count.ensures.counted

pub returns-then-count-clause-fault_at : goal.returns-then-count-clause-fault_at
returns-then-count-clause-fault_at c = λ file chosen. c.raise.ensures.last ∙ ap (λ (name : List ℕ). Some (name, Reading)) (c.as_bytes-name.ensures.name ∙ chosen_name _ file _ chosen)
