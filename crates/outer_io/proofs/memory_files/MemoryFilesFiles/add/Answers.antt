-- The file that was begun is the one of the name that is kept.

use Rattle.std.proofs.Common.{ℕ, true, List, Option, Some, refl, sym, ap, ◌∙◌, subst}
use Rattle.outer_io.specs.declared.fault.Purpose.TheVariants.{Writing}
use Rattle.outer_io.specs.Memory.{Kept, HasRoom}
use Rattle.outer_io.proofs.KnownTexts.{StopsIn-none}
use Rattle.outer_io.proofs.ReadingInMemory.{chosen_is}
use Rattle.outer_io.proofs.MemoryFaults.{fault_cause, no_fault_cause, told_to_fail, refused, done, not_told, lent_whole, lent_others, lent_labels, lent_file, lent_put, lent_stops}
use Rattle.outer_io.proofs.memory_files.MemoryFilesFiles.add.Goals as goal

pub returns-clause-fault_at : goal.returns-clause-fault_at
returns-clause-fault_at c = λ file chosen. refl

pub returns-clause-succeeds : goal.returns-clause-succeeds
returns-clause-succeeds c = λ file chosen. done _ _ (not_told _ _ c.if-count.false c.count.ensures.fails.1) (subst (λ (kept : Option Kept). HasRoom kept c.args.piece.now) (lent_file _ _ file _ c.deref_mut.ensures.value (c.as_bytes-name.ensures.name ∙ chosen_is _ _ file chosen)) (c.append_to.ensures.fits.0 c.if-not-append_to.false))

pub returns-clause-chosen : goal.returns-clause-chosen
returns-clause-chosen c = refl

pub returns-clause-counted : goal.returns-clause-counted
returns-clause-counted c = c.count.ensures.counted

pub returns-clause-labels : goal.returns-clause-labels
returns-clause-labels c = lent_labels _ _ _ _ (lent_whole c.args.self.now.files.len c.args.self.now.files.items c.deref_mut.result.now c.append_to.new.files c.args.self.now.files.ok.0 c.deref_mut.ensures.value c.append_to.auto.files) c.deref_mut.ensures.value c.append_to.ensures.labels

pub returns-clause-tells : goal.returns-clause-tells
returns-clause-tells c = refl

pub returns-clause-nothing : goal.returns-clause-nothing
returns-clause-nothing c = λ failing. absurd ((not_told _ _ c.if-count.false c.count.ensures.fails.1) failing)

pub returns-clause-others : goal.returns-clause-others
returns-clause-others c = λ file chosen. lent_others _ _ _ _ file _ (lent_whole c.args.self.now.files.len c.args.self.now.files.items c.deref_mut.result.now c.append_to.new.files c.args.self.now.files.ok.0 c.deref_mut.ensures.value c.append_to.auto.files) c.deref_mut.ensures.value (c.as_bytes-name.ensures.name ∙ chosen_is _ _ file chosen) c.append_to.ensures.others

pub returns-clause-cause : goal.returns-clause-cause
returns-clause-cause c = no_fault_cause _ _

pub returns-clause-begun : goal.returns-clause-begun
returns-clause-begun c = refl

pub returns-clause-text : goal.returns-clause-text
returns-clause-text c = λ file chosen. lent_put _ _ _ _ file _ _ (lent_whole c.args.self.now.files.len c.args.self.now.files.items c.deref_mut.result.now c.append_to.new.files c.args.self.now.files.ok.0 c.deref_mut.ensures.value c.append_to.auto.files) c.deref_mut.ensures.value (c.as_bytes-name.ensures.name ∙ chosen_is _ _ file chosen) c.if-not-append_to.ensures.text

pub returns-then-count-clause-text : goal.returns-then-count-clause-text
returns-then-count-clause-text c = λ file chosen. StopsIn-none true _ _ _ refl

pub returns-then-count-clause-begun : goal.returns-then-count-clause-begun
returns-then-count-clause-begun c = refl

pub returns-then-count-clause-cause : goal.returns-then-count-clause-cause
returns-then-count-clause-cause c = fault_cause _ _ _ c.raise.ensures.count c.raise.ensures.later

pub returns-then-count-clause-others : goal.returns-then-count-clause-others
returns-then-count-clause-others c = λ file chosen other apart. refl

pub returns-then-count-clause-nothing : goal.returns-then-count-clause-nothing
returns-then-count-clause-nothing c = λ failing. refl

pub returns-then-count-clause-tells : goal.returns-then-count-clause-tells
returns-then-count-clause-tells c = refl

pub returns-then-count-clause-labels : goal.returns-then-count-clause-labels
returns-then-count-clause-labels c = refl

pub returns-then-count-clause-counted : goal.returns-then-count-clause-counted
returns-then-count-clause-counted c = c.count.ensures.counted

pub returns-then-count-clause-chosen : goal.returns-then-count-clause-chosen
returns-then-count-clause-chosen c = refl

pub returns-then-count-clause-succeeds : goal.returns-then-count-clause-succeeds
returns-then-count-clause-succeeds c = λ file chosen. told_to_fail _ _ (c.count.ensures.fails.0 c.if-count.true)

pub returns-then-count-clause-fault_at : goal.returns-then-count-clause-fault_at
returns-then-count-clause-fault_at c = λ file chosen. c.raise.ensures.last ∙ ap (λ (name : List ℕ). Some (name, Writing)) (c.as_bytes-name.ensures.name ∙ chosen_is _ _ file chosen)

pub returns-then-not-append_to-clause-tells : goal.returns-then-not-append_to-clause-tells
returns-then-not-append_to-clause-tells c = refl

pub returns-then-not-append_to-clause-nothing : goal.returns-then-not-append_to-clause-nothing
returns-then-not-append_to-clause-nothing c = λ failing. absurd ((not_told _ _ c.if-count.false c.count.ensures.fails.1) failing)

pub returns-then-not-append_to-clause-others : goal.returns-then-not-append_to-clause-others
returns-then-not-append_to-clause-others c = λ file chosen. lent_others _ _ _ _ file _ (lent_whole c.args.self.now.files.len c.args.self.now.files.items c.deref_mut.result.now c.append_to.new.files c.args.self.now.files.ok.0 c.deref_mut.ensures.value c.append_to.auto.files) c.deref_mut.ensures.value (c.as_bytes-name.ensures.name ∙ chosen_is _ _ file chosen) c.append_to.ensures.others

pub returns-then-not-append_to-clause-cause : goal.returns-then-not-append_to-clause-cause
returns-then-not-append_to-clause-cause c = fault_cause _ _ _ c.raise-then-not-append_to.ensures.count c.raise-then-not-append_to.ensures.later

pub returns-then-not-append_to-clause-begun : goal.returns-then-not-append_to-clause-begun
returns-then-not-append_to-clause-begun c = refl

pub returns-then-not-append_to-clause-text : goal.returns-then-not-append_to-clause-text
returns-then-not-append_to-clause-text c = λ file chosen. lent_stops _ _ _ _ file _ _ (lent_whole c.args.self.now.files.len c.args.self.now.files.items c.deref_mut.result.now c.append_to.new.files c.args.self.now.files.ok.0 c.deref_mut.ensures.value c.append_to.auto.files) c.deref_mut.ensures.value (c.as_bytes-name.ensures.name ∙ chosen_is _ _ file chosen) c.if-not-append_to.ensures.text

pub returns-then-not-append_to-clause-fault_at : goal.returns-then-not-append_to-clause-fault_at
returns-then-not-append_to-clause-fault_at c = λ file chosen. c.raise-then-not-append_to.ensures.last ∙ ap (λ (name : List ℕ). Some (name, Writing)) (c.as_bytes-name.ensures.name ∙ chosen_is _ _ file chosen)

pub returns-then-not-append_to-clause-succeeds : goal.returns-then-not-append_to-clause-succeeds
returns-then-not-append_to-clause-succeeds c = λ file chosen. refused _ _ (λ there. c.if-not-append_to.ensures.fits.1 (subst (λ (kept : Option Kept). HasRoom kept c.args.piece.now) (sym (lent_file _ _ file _ c.deref_mut.ensures.value (c.as_bytes-name.ensures.name ∙ chosen_is _ _ file chosen))) there))

pub returns-then-not-append_to-clause-chosen : goal.returns-then-not-append_to-clause-chosen
returns-then-not-append_to-clause-chosen c = refl

pub returns-then-not-append_to-clause-counted : goal.returns-then-not-append_to-clause-counted
returns-then-not-append_to-clause-counted c = c.count.ensures.counted

pub returns-then-not-append_to-clause-labels : goal.returns-then-not-append_to-clause-labels
returns-then-not-append_to-clause-labels c = lent_labels _ _ _ _ (lent_whole c.args.self.now.files.len c.args.self.now.files.items c.deref_mut.result.now c.append_to.new.files c.args.self.now.files.ok.0 c.deref_mut.ensures.value c.append_to.auto.files) c.deref_mut.ensures.value c.append_to.ensures.labels
