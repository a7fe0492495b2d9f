-- What was put is what the file holds and what is kept back, and in the end the file holds all of it.
use Rattle.std.proofs.Common.{rules, ◌≡◌, ◌∙◌, ap}
use Rattle.std.proofs.lemmas.Result.{err_from_is_err_and}
use Rattle.outer_io.specs.Sinks.{Spot}
use Rattle.outer_io.proofs.HeldBytes.{stops_in_file}
use Rattle.subgraph_cli.proofs.out_file.add_text.Goals as goal

pub returns-in_err-put-clause-text : goal.returns-in_err-put-clause-text
returns-in_err-put-clause-text g c =
    let p = err_from_is_err_and c.from_residual.result c.from_residual.ensures.1 in
    let named : c.put.new.self.name.now ≡ c.args.name.now = ap (λ (s : Spot). s.file) c.put.ensures.cause.same ∙ c.new-sink.ensures.name in
    let stop = rw (c.new-sink.ensures.files, c.new-sink.ensures.name, named) at c.in_err-put.ensures.text in
    let here = stops_in_file _ _ _ _ _ c.new-sink.ensures.empty stop in
    rw p.1 (search rules)
