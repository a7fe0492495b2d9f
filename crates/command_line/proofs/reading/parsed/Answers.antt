use Rattle.std.proofs.Common.{◌≡◌, map, string_bytes, rules}
use Rattle.clap.specs.Words.{app_of}
use Rattle.command_line.specs.Grammar.{grammar}
use Rattle.command_line.specs.declared.reading.Refusal.TheVariants.{NotACommand}
use Rattle.command_line.proofs.Simple.{found_by_grammar, refused_by_grammar}
use Rattle.command_line.proofs.reading.parsed.Goals as goal

pub returns-in-Ok-clause-ok : goal.returns-in-Ok-clause-ok
returns-in-Ok-clause-ok c =
    let app : app_of c.in_ok-parser.parser ≡ grammar = search rules in
    found_by_grammar (app_of c.in_ok-parser.parser) (map string_bytes c.args.words.now) c.in-Ok.matches app c.in-Ok.ensures.matches c.in-Ok.ensures.kinds

pub returns-in-Err-clause-refused : goal.returns-in-Err-clause-refused
returns-in-Err-clause-refused c refused =
    let app : app_of c.in_ok-parser.parser ≡ grammar = search rules in
    let refusal : c.refusal_of.result ≡ NotACommand = cc in
    refused_by_grammar (app_of c.in_ok-parser.parser) (map string_bytes c.args.words.now) c.in-Err.error app c.in-Err.ensures.kinds
    (c.refusal_of.ensures refusal)
