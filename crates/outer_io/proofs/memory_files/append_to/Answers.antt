use Rattle.std.proofs.Common.{rules, get_or, ap}
use Rattle.std.specs.Prelude.{option_and_then}
use Rattle.outer_io.specs.Memory.{Kept, label_of}
use Rattle.outer_io.proofs.FilesInMemory.{file_in-at, file_in-past, file_in-set, content_in-set_others, SameLabels-set, appended}
use Rattle.outer_io.proofs.memory_files.append_to.Goals as goal

pub returns-then-place-files-clause-fits : goal.returns-then-place-files-clause-fits
returns-then-place-files-clause-fits c =
    let here = file_in-at c.args.files.now c.args.name.now _ _ c.place_of-place.ensures c.if-place-files.true (ap (get_or c.args.files.now c.place_of-place.result) c.index-files-place.is) in rw here c.append.ensures.fits

pub returns-then-place-files-clause-text : goal.returns-then-place-files-clause-text
returns-then-place-files-clause-text c =
    let files = c.args.files.now in
    let file = get_or files c.place_of-place.result c.index-files-place.result in
    let at = ap (get_or files c.place_of-place.result) c.index-files-place.is in
    let new = ap (option_and_then (λ (kept : Kept). kept.bytes)) (file_in-set files c.args.name.now _ file c.append.new.self c.place_of-place.ensures c.if-place-files.true at (ap (λ (kept : Kept). kept.name) c.append.ensures.after)) in
    let old = ap (option_and_then (λ (kept : Kept). kept.bytes)) (file_in-at files c.args.name.now _ file c.place_of-place.ensures c.if-place-files.true at) in
    rw (new, old) (appended c.append.result _ _ file.room c.args.piece.now c.append.ensures.fits.0 (ap (λ (kept : Kept). kept.bytes) c.append.ensures.after))

pub returns-then-place-files-clause-others : goal.returns-then-place-files-clause-others
returns-then-place-files-clause-others c =
    content_in-set_others c.args.files.now c.args.name.now _ _ _ c.place_of-place.ensures c.if-place-files.true (ap (get_or c.args.files.now c.place_of-place.result) c.index-files-place.is) (ap (λ (file : Kept). file.name) c.append.ensures.after)

pub returns-then-place-files-clause-labels : goal.returns-then-place-files-clause-labels
returns-then-place-files-clause-labels c = SameLabels-set c.args.files.now _ _ c.index-files-place.result (ap label_of c.append.ensures.after)

pub returns-else-place-files-clause-fits : goal.returns-else-place-files-clause-fits
returns-else-place-files-clause-fits c =
    let none = file_in-past c.args.files.now c.args.name.now _ c.place_of-place.ensures c.if-place-files.false in rw none (λ yes. absurd (search rules), λ no. absurd no)
