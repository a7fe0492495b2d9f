use Rattle.std.proofs.Common.{sym, ap, ◌∙◌}
use Rattle.std.specs.Prelude.{option_and_then}
use Rattle.outer_io.specs.Memory.{Kept}
use Rattle.outer_io.proofs.FilesInMemory.{file_in-at, file_in-past}
use Rattle.outer_io.proofs.memory_files.content_of.Goals as goal

pub returns-then-place-files : goal.returns-then-place-files
returns-then-place-files c =
    c.content.ensures ∙ sym (ap (option_and_then (λ (file : Kept). file.bytes)) (file_in-at c.args.files.now c.args.name.now _ _ c.place_of-place.ensures c.if-place-files.true c.index-files-place.is))

pub returns-else-place-files : goal.returns-else-place-files
returns-else-place-files c =
    sym (ap (option_and_then (λ (file : Kept). file.bytes)) (file_in-past c.args.files.now c.args.name.now _ c.place_of-place.ensures c.if-place-files.false))
