-- Which batch of problems a list of words is.

use Rattle.std.specs.Prelude.{ℕ, ◌<◌, ◌≤◌, ◌^◌, if◌then◌else◌, List, length, Option, Some, None, codes}
use Rattle.std.specs.Str.{bytes_eq}
use Rattle.clap.specs.Words.{Row, Text, fault_of, subcommand_of}
use Rattle.clap.specs.Walk.{is_empty}
use Rattle.graph_theory.specs.declared.lad_text.LadKind.{LadKind}
use Rattle.command_line.specs.Grammar.{grammar}
use Rattle.command_line.specs.CommandLine.{name_at, format_at, threads_at, seed_at, budget_at, book_at}
use Rattle.command_line.specs.declared.batch.BatchWords.{BatchWords}

-- A batch, where each of its words is good.
abbrev pub batch_from : Option Text → Option LadKind → Option ℕ → Option ℕ → Option ℕ → Option ℕ
    → Option BatchWords
batch_from (Some l) (Some f) (Some n) (Some s) (Some b) (Some k) =
    Some (record { list = l; format = f; threads = n; seed = s; budget = b; book = k })
batch_from _ _ _ _ _ _ = None

-- The batch that the words after `batch` are.
abbrev pub batch_in : List Row → Option BatchWords
batch_in rows = batch_from (name_at (codes "list") rows) (format_at rows) (threads_at rows)
    (seed_at rows) (budget_at rows) (book_at rows)

-- The batch of this name, with what was found for it.
abbrev pub named_batch : Text → List Row → Option BatchWords
named_batch name rows = if bytes_eq name (codes "batch") then batch_in rows else None

-- The batch that a parse entered, if it entered one.
abbrev pub entered_batch : Option (Text × List Row) → Option BatchWords
entered_batch None = None
entered_batch (Some p) = named_batch p.0 p.1

-- The batch that the words are, the program's name first among them. Words that are a batch are no command for one problem.
unfoldable pub batch : List Text → Option BatchWords
batch words = if is_empty (fault_of grammar words) then entered_batch
    (subcommand_of grammar words) else None

-- The ranges of a batch's name and numbers.
pub record IsBatchInRange (w : BatchWords) : Type 0 where
  pub list : length w.list ≤ 4095
  pub some : 1 ≤ w.threads
  pub few : w.threads ≤ 64
  pub least : 1 ≤ w.budget
  pub most : w.budget < 2 ^ 63
  pub book : w.book ≤ 4194304
