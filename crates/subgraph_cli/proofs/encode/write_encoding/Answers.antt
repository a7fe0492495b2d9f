-- What the encoding's text says of the problem that it encodes.

use Rattle.std.proofs.Common.{subst, inr}
use Rattle.graph_theory.specs.Embedding.{Problem}
use Rattle.pb_encoding.specs.Writing.{encoding_text}
use Rattle.subgraph_cli.specs.Streams.{stream, Got, GotFront}
use Rattle.subgraph_cli.proofs.encode.write_encoding.Goals as goal

pub returns-in-Ok-write-clause-says : goal.returns-in-Ok-write-clause-says
returns-in-Ok-write-clause-says g c =
    subst (λ (q : Problem). Got (stream g.O.Sink.spot g.O.Sink.contents g.O.Sink.faults c.args.out.now c.write.new.sink) (encoding_text q)) c.in-Ok.ensures c.in-Ok-write.ensures.text

pub returns-in-Err-Failed-clause-says : goal.returns-in-Err-Failed-clause-says
returns-in-Err-Failed-clause-says g c =
    subst (λ (q : Problem). GotFront (stream g.O.Sink.spot g.O.Sink.contents g.O.Sink.faults c.args.out.now c.write.new.sink) (encoding_text q)) c.in-Ok.ensures c.in-Err-Failed.ensures.text

pub returns-clause-says : goal.returns-clause-says
returns-clause-says g c =
    inr (subst (λ (q : Problem). GotFront (stream g.O.Sink.spot g.O.Sink.contents g.O.Sink.faults c.args.out.now c.write.new.sink) (encoding_text q)) c.in-Ok.ensures c.in-Err-NoMemory.ensures.text)
