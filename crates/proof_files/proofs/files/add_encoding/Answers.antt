-- What was put is what the file holds and what is kept back, and in the end the file holds all of it.
use Rattle.std.proofs.Common.{rules, ◌≡◌, ◌∙◌, ap, Ok, Err}
use Rattle.std.proofs.lemmas.Result.{err_from_is_err_and}
use Rattle.outer_io.specs.declared.fault.Failed.{Failed}
use Rattle.outer_io.specs.Sinks.{Spot}
use Rattle.outer_io.proofs.HeldBytes.{stops_in_file, flushed}
use Rattle.proof_files.proofs.files.add_encoding.Goals as goal

pub returns-in_err-write_lines-clause-text : goal.returns-in_err-write_lines-clause-text
returns-in_err-write_lines-clause-text g c =
    let p = err_from_is_err_and c.from_residual.result c.from_residual.ensures.1 in
    let named : c.write_lines.new.sink.name.now ≡ c.args.name.now = ap (λ (s : Spot). s.file) c.write_lines.ensures.cause.same ∙ c.new-sink.ensures.name in
    let stop = rw (c.new-sink.ensures.files, c.new-sink.ensures.name, named) at c.in_err-write_lines.ensures.text in
    let here = stops_in_file _ _ _ _ _ c.new-sink.ensures.empty stop in
    rw p.1 (search rules)

pub returns-in_err-flush-clause-text : goal.returns-in_err-flush-clause-text
returns-in_err-flush-clause-text g c =
    let p = err_from_is_err_and c.from_residual-in_err-flush.result c.from_residual-in_err-flush.ensures.1 in
    let named : c.write_lines.new.sink.name.now ≡ c.args.name.now = ap (λ (s : Spot). s.file) c.write_lines.ensures.cause.same ∙ c.new-sink.ensures.name in
    let put = rw (c.new-sink.ensures.files, c.new-sink.ensures.name, named) at c.in_ok-write_lines.ensures.text in
    let flush = rw (c.in_err-flush.ensures.name, named) at c.in_err-flush.ensures.text in
    let here = flushed {T = Unit {0}} {E = Failed} (Err c.in_err-flush.field-0.0) _ _ _ _ _ _ _ c.new-sink.ensures.empty put flush c.in_err-flush.ensures.empty in
    rw p.1 (search rules)

pub returns-clause-text : goal.returns-clause-text
returns-clause-text g c =
    let named : c.write_lines.new.sink.name.now ≡ c.args.name.now = ap (λ (s : Spot). s.file) c.write_lines.ensures.cause.same ∙ c.new-sink.ensures.name in
    let put = rw (c.new-sink.ensures.files, c.new-sink.ensures.name, named) at c.in_ok-write_lines.ensures.text in
    let flush = rw (c.in_ok-flush.ensures.name, named) at c.in_ok-flush.ensures.text in
    let here = flushed {T = Unit {0}} {E = Failed} (Ok tt) _ _ _ _ _ _ _ c.new-sink.ensures.empty put flush c.in_ok-flush.ensures.empty in
    search rules
