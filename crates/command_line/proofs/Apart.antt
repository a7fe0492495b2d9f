-- Words that are a batch are no command for one problem.

use Rattle.std.proofs.Common.{◌≡◌, Bool, true, false, if◌then◌else◌, List, [], Option, Some, None, codes, refl, sym, ap, ◌∙◌}
use Rattle.std.specs.Str.{bytes_eq}
use Rattle.std.proofs.lemmas.Slice.Eq.{bytes_eq-Decides}
use Rattle.clap.specs.Words.{Kinds, Row, Text, fault_of, subcommand_of}
use Rattle.clap.specs.Walk.{is_empty}
use Rattle.command_line.specs.Grammar.{grammar}
use Rattle.command_line.specs.CommandLine.{named_command, entered_command, command}
use Rattle.command_line.specs.Batch.{batch_in, entered_batch}
use Rattle.command_line.specs.declared.batch.BatchWords.{BatchWords}

-- No command has the name of a batch.
named_apart : (name : Text) (rows : List Row) (t : Bool) (w : BatchWords) → bytes_eq name (codes "batch") ≡ t
    → (if t then batch_in rows else None) ≡ Some w → named_command name rows ≡ None
named_apart name rows false w test is = cc
named_apart name rows true w test is =
    let same : name ≡ codes "batch" = (bytes_eq-Decides name (codes "batch")).0 test in
    ap (λ (n : Text). named_command n rows) same

entered_apart : (e : Option (Text × List Row)) (w : BatchWords) → entered_batch e ≡ Some w → entered_command e ≡ None
entered_apart None w is = refl
entered_apart (Some p) w is = named_apart p.0 p.1 (bytes_eq p.0 (codes "batch")) w refl is

-- What was found of words that are a batch is no command.
pub found_apart : (words : List Text) (found : Option (Text × List Row)) (w : BatchWords) → fault_of grammar words ≡ []
    → found ≡ subcommand_of grammar words → Some w ≡ entered_batch found → command words ≡ None
unfolding command
found_apart words found w good is some =
    ap (λ (f : Kinds). if is_empty f then entered_command (subcommand_of grammar words) else None) good
    ∙ entered_apart (subcommand_of grammar words) w (ap entered_batch (sym is) ∙ sym some)
