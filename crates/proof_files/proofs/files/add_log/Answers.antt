-- What was put is what the file holds and what is kept back, and in the end the file holds all of it.
use Rattle.std.proofs.Common.{rules, ◌≡◌, ◌∙◌, ap}
use Rattle.std.proofs.lemmas.Result.{err_from_is_err_and}
use Rattle.outer_io.specs.Sinks.{Spot}
use Rattle.outer_io.proofs.HeldBytes.{stops_in_file, flushed}
use Rattle.proof_files.proofs.files.add_log.Goals as goal

pub returns-in_err-write_log-clause-text : goal.returns-in_err-write_log-clause-text
returns-in_err-write_log-clause-text g c =
    let p = err_from_is_err_and c.from_residual.result c.from_residual.ensures.1 in
    let named : c.write_log.new.sink.name.now ≡ c.args.name.now = ap (λ (s : Spot). s.file) c.write_log.ensures.cause.same ∙ c.headed-sink.ensures.name in
    let stop = rw (c.headed-sink.ensures.files, c.headed-sink.ensures.name, named) at c.in_err-write_log.ensures.text in
    let here = stops_in_file _ _ _ _ _ c.headed-sink.ensures.empty stop in
    rw p.1 (search rules)

pub returns-clause-text : goal.returns-clause-text
returns-clause-text g c =
    let named : c.write_log.new.sink.name.now ≡ c.args.name.now = ap (λ (s : Spot). s.file) c.write_log.ensures.cause.same ∙ c.headed-sink.ensures.name in
    let put = rw (c.headed-sink.ensures.files, c.headed-sink.ensures.name, named) at c.in_ok-write_log.ensures.text in
    let flush = rw (c.flush.ensures.name, named) at c.flush.ensures.text in
    let here = flushed c.flush.result _ _ _ _ _ _ _ c.headed-sink.ensures.empty put flush c.flush.ensures.empty in
    search rules
