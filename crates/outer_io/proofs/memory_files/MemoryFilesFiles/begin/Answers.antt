-- A call that fails has changed nothing but its counts and the choice; one that succeeds has emptied the file.

use Rattle.std.proofs.Common.{◌≡◌, ℕ, List, [], map, Some, IsSome, inl, refl, sym, ap, ◌∙◌, subst}
use Rattle.outer_io.specs.declared.fault.Purpose.TheVariants.{Writing}
use Rattle.outer_io.specs.Memory.{Kept, content_in, label_of}
use Rattle.outer_io.proofs.MemoryFaults.{fault_cause, no_fault_cause, told_to_fail, refused, done, not_told, lent_whole, lent_same, lent_others, lent_labels, lent_file}
use Rattle.outer_io.proofs.memory_files.MemoryFilesFiles.begin.Goals as goal

pub returns-then-count-clause-begun : goal.returns-then-count-clause-begun
returns-then-count-clause-begun c = refl

pub returns-then-count-clause-at_fault : goal.returns-then-count-clause-at_fault
returns-then-count-clause-at_fault c = inl refl

pub returns-then-count-clause-cause : goal.returns-then-count-clause-cause
returns-then-count-clause-cause c = fault_cause _ _ _ c.raise.ensures.count c.raise.ensures.later

pub returns-then-count-clause-fault_at : goal.returns-then-count-clause-fault_at
returns-then-count-clause-fault_at c = c.raise.ensures.last ∙ ap (λ (name : List ℕ). Some (name, Writing)) c.as_bytes.ensures.value

pub returns-then-count-clause-others : goal.returns-then-count-clause-others
returns-then-count-clause-others c = λ file apart. refl

pub returns-then-count-clause-tells : goal.returns-then-count-clause-tells
returns-then-count-clause-tells c = refl

pub returns-then-count-clause-chosen : goal.returns-then-count-clause-chosen
returns-then-count-clause-chosen c = refl

pub returns-then-count-clause-succeeds : goal.returns-then-count-clause-succeeds
returns-then-count-clause-succeeds c = told_to_fail _ _ (c.count.ensures.fails.0 c.if-count.true)

pub returns-then-count-clause-counted : goal.returns-then-count-clause-counted
returns-then-count-clause-counted c = c.count.ensures.counted

pub returns-then-count-clause-labels : goal.returns-then-count-clause-labels
returns-then-count-clause-labels c = refl

pub returns-then-count-clause-nothing : goal.returns-then-count-clause-nothing
returns-then-count-clause-nothing c = λ failing. refl

pub returns-then-not-empty_file-clause-nothing : goal.returns-then-not-empty_file-clause-nothing
returns-then-not-empty_file-clause-nothing c = λ failing. (lent_same c.args.self.now.files.len c.args.self.now.files.items c.deref_mut.result.now c.empty_file.new.files c.args.self.now.files.ok.0 c.deref_mut.ensures.value c.empty_file.auto.files c.if-not-empty_file.ensures.unchanged)

pub returns-then-not-empty_file-clause-succeeds : goal.returns-then-not-empty_file-clause-succeeds
returns-then-not-empty_file-clause-succeeds c = refused _ _ (λ there. c.if-not-empty_file.ensures.found.1 (subst IsSome (sym (lent_file _ _ _ _ c.deref_mut.ensures.value c.as_bytes-2.ensures.value)) there))

pub returns-then-not-empty_file-clause-labels : goal.returns-then-not-empty_file-clause-labels
returns-then-not-empty_file-clause-labels c = ap (map label_of) (lent_same c.args.self.now.files.len c.args.self.now.files.items c.deref_mut.result.now c.empty_file.new.files c.args.self.now.files.ok.0 c.deref_mut.ensures.value c.empty_file.auto.files c.if-not-empty_file.ensures.unchanged)

pub returns-then-not-empty_file-clause-others : goal.returns-then-not-empty_file-clause-others
returns-then-not-empty_file-clause-others c = λ file apart. ap (λ (files : List Kept). content_in files file) (lent_same c.args.self.now.files.len c.args.self.now.files.items c.deref_mut.result.now c.empty_file.new.files c.args.self.now.files.ok.0 c.deref_mut.ensures.value c.empty_file.auto.files c.if-not-empty_file.ensures.unchanged)

pub returns-then-not-empty_file-clause-at_fault : goal.returns-then-not-empty_file-clause-at_fault
returns-then-not-empty_file-clause-at_fault c = inl (ap (λ (files : List Kept). content_in files c.args.name.now) (lent_same c.args.self.now.files.len c.args.self.now.files.items c.deref_mut.result.now c.empty_file.new.files c.args.self.now.files.ok.0 c.deref_mut.ensures.value c.empty_file.auto.files c.if-not-empty_file.ensures.unchanged))

pub returns-then-not-empty_file-clause-counted : goal.returns-then-not-empty_file-clause-counted
returns-then-not-empty_file-clause-counted c = c.count.ensures.counted

pub returns-then-not-empty_file-clause-chosen : goal.returns-then-not-empty_file-clause-chosen
returns-then-not-empty_file-clause-chosen c = refl

pub returns-then-not-empty_file-clause-tells : goal.returns-then-not-empty_file-clause-tells
returns-then-not-empty_file-clause-tells c = refl

pub returns-then-not-empty_file-clause-fault_at : goal.returns-then-not-empty_file-clause-fault_at
returns-then-not-empty_file-clause-fault_at c = c.raise-then-not-empty_file.ensures.last ∙ ap (λ (name : List ℕ). Some (name, Writing)) c.as_bytes-then-not-empty_file.ensures.value

pub returns-then-not-empty_file-clause-cause : goal.returns-then-not-empty_file-clause-cause
returns-then-not-empty_file-clause-cause c = fault_cause _ _ _ c.raise-then-not-empty_file.ensures.count c.raise-then-not-empty_file.ensures.later

pub returns-then-not-empty_file-clause-begun : goal.returns-then-not-empty_file-clause-begun
returns-then-not-empty_file-clause-begun c = refl

pub returns-clause-counted : goal.returns-clause-counted
returns-clause-counted c = c.count.ensures.counted

pub returns-clause-empty : goal.returns-clause-empty
returns-clause-empty c = λ tells. ap (λ (files : List Kept). content_in files c.args.name.now) (lent_whole c.args.self.now.files.len c.args.self.now.files.items c.deref_mut.result.now c.empty_file.new.files c.args.self.now.files.ok.0 c.deref_mut.ensures.value c.empty_file.auto.files) ∙ subst (λ (name : List ℕ). content_in c.empty_file.new.files name ≡ Some []) c.as_bytes-2.ensures.value (c.empty_file.ensures.empty c.if-not-empty_file.false)

pub returns-clause-others : goal.returns-clause-others
returns-clause-others c = lent_others _ _ _ _ _ _ (lent_whole c.args.self.now.files.len c.args.self.now.files.items c.deref_mut.result.now c.empty_file.new.files c.args.self.now.files.ok.0 c.deref_mut.ensures.value c.empty_file.auto.files) c.deref_mut.ensures.value c.as_bytes-2.ensures.value c.empty_file.ensures.others

pub returns-clause-labels : goal.returns-clause-labels
returns-clause-labels c = lent_labels _ _ _ _ (lent_whole c.args.self.now.files.len c.args.self.now.files.items c.deref_mut.result.now c.empty_file.new.files c.args.self.now.files.ok.0 c.deref_mut.ensures.value c.empty_file.auto.files) c.deref_mut.ensures.value c.empty_file.ensures.labels

pub returns-clause-succeeds : goal.returns-clause-succeeds
returns-clause-succeeds c = done _ _ (not_told _ _ c.if-count.false c.count.ensures.fails.1) (subst IsSome (lent_file _ _ _ _ c.deref_mut.ensures.value c.as_bytes-2.ensures.value) (c.empty_file.ensures.found.0 c.if-not-empty_file.false))

pub returns-clause-nothing : goal.returns-clause-nothing
returns-clause-nothing c = λ failing. absurd ((not_told _ _ c.if-count.false c.count.ensures.fails.1) failing)

pub returns-clause-begun : goal.returns-clause-begun
returns-clause-begun c = ap Some (c.set.ensures ∙ c.as_bytes-3.ensures.value)

pub returns-clause-cause : goal.returns-clause-cause
returns-clause-cause c = no_fault_cause _ _

pub returns-clause-fault_at : goal.returns-clause-fault_at
returns-clause-fault_at c = refl

pub returns-clause-tells : goal.returns-clause-tells
returns-clause-tells c = refl

pub returns-clause-chosen : goal.returns-clause-chosen
returns-clause-chosen c = refl
