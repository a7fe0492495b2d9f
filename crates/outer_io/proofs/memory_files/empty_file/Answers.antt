use Rattle.std.proofs.Common.{rules, get_or, ap, ◌∙◌}
use Rattle.std.specs.Prelude.{option_and_then}
use Rattle.outer_io.specs.Memory.{Kept, label_of}
use Rattle.outer_io.proofs.FilesInMemory.{file_in-at, file_in-past, file_in-set, content_in-set_others, SameLabels-set}
use Rattle.outer_io.proofs.memory_files.empty_file.Goals as goal

pub returns-then-place-files-clause-found : goal.returns-then-place-files-clause-found
returns-then-place-files-clause-found c =
    let none = file_in-past c.args.files.now c.args.name.now _ c.place_of-place.ensures c.if-place-files.true in rw none (search rules)

pub returns-clause-found : goal.returns-clause-found
returns-clause-found c =
    let here = file_in-at c.args.files.now c.args.name.now _ _ c.place_of-place.ensures c.if-place-files.false (ap (get_or c.args.files.now c.place_of-place.result) c.index-files-place.is) in rw here (search rules)

pub returns-clause-empty : goal.returns-clause-empty
returns-clause-empty c = λ _. ap (option_and_then (λ (file : Kept). file.bytes))
    (file_in-set c.args.files.now c.args.name.now _ _ _ c.place_of-place.ensures c.if-place-files.false (ap (get_or c.args.files.now c.place_of-place.result) c.index-files-place.is) (ap (λ (file : Kept). file.name) c.empty.ensures)) ∙ ap (λ (file : Kept). file.bytes) c.empty.ensures

pub returns-clause-others : goal.returns-clause-others
returns-clause-others c =
    content_in-set_others c.args.files.now c.args.name.now _ _ _ c.place_of-place.ensures c.if-place-files.false (ap (get_or c.args.files.now c.place_of-place.result) c.index-files-place.is) (ap (λ (file : Kept). file.name) c.empty.ensures)

pub returns-clause-labels : goal.returns-clause-labels
returns-clause-labels c = SameLabels-set c.args.files.now _ _ c.index-files-place.result (ap label_of c.empty.ensures)
