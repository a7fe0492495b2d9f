-- The grammar of the words, as the command that `clap` reads them by: one level of subcommands, without help and version.

use Rattle.std.specs.Prelude.{◌≡◌, Some, Result, IfOk, true, false, codes}
use Rattle.std.specs.declared.alloc.AllocError.{AllocError}
use Rattle.clap.specs.Words.{App, Rule, Text, app_of, new_app, new_rule, with_rule, with_subcommand}
use Rattle.clap.specs.Simple.{on_top}
use Rattle.clap.specs.declared.builder.action.ArgAction.TheVariants.{Set, SetTrue}
use Rattle.clap.specs.declared.builder.command.Command.{Command}
use Rattle.clap.specs.declared.builder.command.Command.TheViews.{out-Command}

-- Where a command was made, it is this one.
abbrev pub Makes : App → Result Command AllocError → Type 0
Makes a made = IfOk made (λ c. app_of c ≡ a)

-- Where a command was made, none of its arguments is one of its subcommands too.
abbrev pub IsLocal : Result Command AllocError → Type 0
IsLocal made = IfOk made (λ c. (out-Command c).has_globals ≡ false)

-- A word that must be there, in its place.
abbrev pub positional : Text → Rule
positional name = record (new_rule name) { required = true; action = Some Set }

-- An option with one word after it, which may stand once.
abbrev pub option : Text → Rule
option name = record (new_rule name) { long = Some name; action = Some Set }

-- An option with no word after it, which may stand once.
abbrev pub flag : Text → Rule
flag name = record (new_rule name) { long = Some name; action = Some SetTrue }

-- The two graphs.
unfoldable pub with_graphs : App → App
with_graphs a = with_rule (with_rule a (positional (codes "pattern"))) (positional (codes "target"))

-- What is asked of a map, and the format of the graphs.
unfoldable pub with_question : App → App
with_question a = with_rule (with_rule (with_rule (with_rule a (flag (codes "induced"))) (option
    (codes "map"))) (option (codes "less")))
    (option (codes "format"))

-- The mapping to be tested.
unfoldable pub with_mapping : App → App
with_mapping a = with_rule a (positional (codes "mapping"))

-- What steers the search and bounds it.
unfoldable pub with_search : App → App
with_search a = with_rule (with_rule (with_rule a (option (codes "threads"))) (option
    (codes "seed"))) (option (codes "budget"))

-- The files of a proof, and the profile of its log.
unfoldable pub with_proof : App → App
with_proof a = with_rule (with_rule (with_rule a (option (codes "prove"))) (option (codes "log")))
    (option (codes "profile"))

-- `solve P T [--induced] [--map M] [--less L] [--format F] [--threads N] [--seed N] [--budget N] [--book N]`
-- `[--prove ENC --log LOG [--profile N]]`
unfoldable pub solve_grammar : App
solve_grammar = with_proof (with_rule (with_search (with_question (with_graphs (new_app
    (codes "solve"))))) (option (codes "book")))

-- `verify P T MAP [--induced] [--map M] [--less L] [--format F]`
unfoldable pub verify_grammar : App
verify_grammar = with_question (with_mapping (with_graphs (new_app (codes "verify"))))

-- `encode P T [--induced] [--map M] [--less L] [--format F]`
unfoldable pub encode_grammar : App
encode_grammar = with_question (with_graphs (new_app (codes "encode")))

-- `check ENC LOG`
unfoldable pub check_grammar : App
check_grammar = with_rule (with_rule (new_app (codes "check")) (positional (codes "encoding")))
    (positional (codes "log"))

-- `trim ENC LOG OUT`
unfoldable pub trim_grammar : App
trim_grammar = with_rule (with_rule (with_rule (new_app (codes "trim")) (positional
    (codes "encoding"))) (positional (codes "log")))
    (positional (codes "out"))

-- `demo K [--threads N] [--budget N]`
unfoldable pub demo_grammar : App
demo_grammar = with_rule (with_rule (with_rule (new_app (codes "demo")) (positional
    (codes "seed"))) (option (codes "threads")))
    (option (codes "budget"))

-- `batch LIST [--format F] [--threads N] [--seed N] [--budget N] [--book N]`
unfoldable pub batch_grammar : App
batch_grammar = with_rule (with_search (with_rule (with_rule (new_app (codes "batch")) (positional
    (codes "list"))) (option (codes "format")))) (option (codes "book"))

-- A command without help flag, help command and version flag; its subcommands have none either.
abbrev pub quiet : App → App
quiet a = on_top (λ s. record s {
  disable_help_flag = true;
  disable_help_subcommand = true;
  disable_version_flag = true;
}) a

-- The commands that answer questions of a pattern and a target.
unfoldable pub answering : App
answering = with_subcommand (with_subcommand (quiet (new_app
    (codes "subgraph"))) solve_grammar.top) verify_grammar.top

-- The commands that read files.
unfoldable pub reading : App
reading = with_subcommand (with_subcommand answering encode_grammar.top) check_grammar.top

-- The commands that read files, and the one that writes a trimmed log.
unfoldable pub trimming : App
trimming = with_subcommand reading trim_grammar.top

-- All commands.
unfoldable pub grammar : App
grammar = with_subcommand (with_subcommand trimming demo_grammar.top) batch_grammar.top
