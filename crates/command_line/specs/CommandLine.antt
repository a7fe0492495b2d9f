-- Which command a list of words is.

use Rattle.std.specs.Prelude.{◌≢◌, ℕ, ◌<◌, ◌≤◌, ◌^◌, Bool, true, false, not, ◌&&◌, ◌||◌, if◌then◌else◌, List, [], length, Option, Some, None, IfSome, option_and_then, codes}
use Rattle.std.specs.Option.{option_map_or}
use Rattle.std.specs.Str.{bytes_eq}
use Rattle.clap.specs.Words.{Row, Text, first_of, fault_of, subcommand_of}
use Rattle.clap.specs.Walk.{is_empty}
use Rattle.log_theory.specs.declared.profile.Profile.{Profile}
use Rattle.log_theory.specs.declared.profile.Profile.TheVariants.{Hinted}
use Rattle.graph_theory.specs.declared.lad_text.LadKind.{LadKind}
use Rattle.graph_theory.specs.declared.lad_text.LadKind.TheVariants.{Lad}
use Rattle.graph_theory.specs.Embedding.{is_injective}
use Rattle.graph_theory.specs.declared.embedding.Maps.{Maps}
use Rattle.graph_theory.specs.declared.embedding.Maps.TheVariants.{Injective}
use Rattle.command_line.specs.Words.{file_name, threads, budget, seed, book, profile, format, maps}
use Rattle.command_line.specs.Pairs.{pairs}
use Rattle.command_line.specs.Questions.{Question, IsQuestion}
use Rattle.command_line.specs.Grammar.{grammar}
use Rattle.command_line.specs.declared.commands.Command.{Command}
use Rattle.command_line.specs.declared.commands.Command.TheVariants.{Solve, Verify, Encode, Check, Trim, Demo}
use Rattle.command_line.specs.declared.commands.SolveWords.{SolveWords}
use Rattle.command_line.specs.declared.commands.ProveWords.{ProveWords}
use Rattle.command_line.specs.declared.commands.VerifyWords.{VerifyWords}
use Rattle.command_line.specs.declared.commands.EncodeWords.{EncodeWords}
use Rattle.command_line.specs.declared.commands.CheckWords.{CheckWords}
use Rattle.command_line.specs.declared.commands.TrimWords.{TrimWords}
use Rattle.command_line.specs.declared.commands.DemoWords.{DemoWords}

-- The name of a file that stands in the place of this name.
abbrev pub name_at : Text → List Row → Option Text
name_at id rows = option_and_then file_name (first_of id rows)

-- Whether the flag stands among the words.
abbrev pub flag_at : Text → List Row → Bool
flag_at id rows = option_map_or (λ t. bytes_eq t (codes "true")) (first_of id rows) false

-- What an option's word is read as, and what stands for an option that is left out.
abbrev pub or_default : {A : Type 0} → A → (Text → Option A) → Option Text → Option A
or_default default read None = Some default
or_default default read (Some text) = read text

-- The format of both graphs, `lad` where none is named.
abbrev pub format_at : List Row → Option LadKind
format_at rows = or_default Lad format (first_of (codes "format") rows)

-- Which images have to differ, those of any two vertices where no word says it.
abbrev pub maps_at : List Row → Option Maps
maps_at rows = or_default Injective maps (first_of (codes "map") rows)

-- The pairs that are to be in order, none where no word names them.
abbrev pub less_at : List Row → Option (List (ℕ × ℕ))
less_at rows = or_default [] pairs (first_of (codes "less") rows)

-- What is asked, where each of its words is good; induced copies are those of injective maps alone.
abbrev pub question_from : Bool → Option Maps → Option (List (ℕ × ℕ)) → Option LadKind
    → Option Question
question_from induced (Some m) (Some l) (Some f) = if induced && not (is_injective m) then None
    else Some (record { induced = induced; maps = m; less = l; format = f })
question_from _ _ _ _ = None

-- What the words ask.
abbrev pub question_at : List Row → Option Question
question_at rows = question_from (flag_at (codes "induced") rows) (maps_at rows) (less_at rows)
    (format_at rows)

-- The budget, the largest where none is named.
abbrev pub budget_at : List Row → Option ℕ
budget_at rows = or_default 9223372036854775807 budget (first_of (codes "budget") rows)

-- The seed, 0 where none is named.
abbrev pub seed_at : List Row → Option ℕ
seed_at rows = or_default 0 seed (first_of (codes "seed") rows)

-- How many workers search, 1 where no number is named.
abbrev pub threads_at : List Row → Option ℕ
threads_at rows = or_default 1 threads (first_of (codes "threads") rows)

-- How many rows the workers share, 65,536 where no number is named.
abbrev pub book_at : List Row → Option ℕ
book_at rows = or_default 65536 book (first_of (codes "book") rows)

-- The files of a proof, where both names are good, and so is the profile of its log.
abbrev pub prove_named : Option Text → Option Text → Option Profile → Option (Option ProveWords)
prove_named (Some e) (Some l) (Some n) = Some (Some (record { encoding = e; log = l; profile = n }))
prove_named _ _ _ = None

-- The profile of a log, the one with hints where no number is named.
abbrev pub profile_from : Option Text → Option Profile
profile_from word = or_default Hinted profile word

-- The files of a proof, where both are named, or that none is asked for, where neither is, and no profile.
abbrev pub prove_from : Option Text → Option Text → Option Text → Option (Option ProveWords)
prove_from None None None = Some None
prove_from (Some e) (Some l) word = prove_named (file_name e) (file_name l) (profile_from word)
prove_from _ _ _ = None

-- Whether the files of a proof differ from each other, and from the pattern's and the target's.
abbrev pub are_apart : Text → Text → Option ProveWords → Bool
are_apart p t None = true
are_apart p t (Some w) = not (bytes_eq w.encoding w.log) && (not (bytes_eq w.encoding p)
    && (not (bytes_eq w.encoding t)
    && (not (bytes_eq w.log p) && not (bytes_eq w.log t))))

-- The files of a proof that the words name, `--prove` and `--log` together, and `--profile` only beside them.
abbrev pub prove_at : List Row → Option (Option ProveWords)
prove_at rows = prove_from (first_of (codes "prove") rows) (first_of (codes "log") rows) (first_of
    (codes "profile") rows)

-- A solve, where each of its words is good, and the files of its proof are apart.
abbrev pub solve_from : Option Text → Option Text → Option Question → Option ℕ → Option ℕ
    → Option ℕ → Option ℕ
    → Option (Option ProveWords) → Option Command
solve_from (Some p) (Some t) (Some a) (Some n) (Some s) (Some b) (Some k)
    (Some w) = if are_apart p t w then Some (Solve (record {
      pattern = p;
      target = t;
      ask = a;
      threads = n;
      seed = s;
      budget = b;
      book = k;
      prove = w;
    })) else None
solve_from _ _ _ _ _ _ _ _ = None

-- A verify, where each of its words is good.
abbrev pub verify_from : Option Text → Option Text → Option Text → Option Question → Option Command
verify_from (Some p) (Some t) (Some m) (Some a) =
    Some (Verify (record { pattern = p; target = t; mapping = m; ask = a }))
verify_from _ _ _ _ = None

-- An encode, where each of its words is good.
abbrev pub encode_from : Option Text → Option Text → Option Question → Option Command
encode_from (Some p) (Some t) (Some a) = Some (Encode
    (record { pattern = p; target = t; ask = a }))
encode_from _ _ _ = None

-- A check, where both of its words are good.
abbrev pub check_from : Option Text → Option Text → Option Command
check_from (Some e) (Some l) = Some (Check (record { encoding = e; log = l }))
check_from _ _ = None

-- A trim, where each of its words is good, and its third file is neither of the others.
abbrev pub trim_from : Option Text → Option Text → Option Text → Option Command
trim_from (Some e) (Some l) (Some o) = if bytes_eq o e || bytes_eq o l then None
    else Some (Trim (record { encoding = e; log = l; out = o }))
trim_from _ _ _ = None

-- A demo, where both of its numbers are good.
abbrev pub demo_from : Option ℕ → Option ℕ → Option ℕ → Option Command
demo_from (Some s) (Some n) (Some b) = Some (Demo (record { seed = s; threads = n; budget = b }))
demo_from _ _ _ = None

-- The solve that the words after `solve` are.
abbrev pub solve_of : List Row → Option Command
solve_of rows = solve_from (name_at (codes "pattern") rows) (name_at (codes "target") rows)
    (question_at rows) (threads_at rows) (seed_at rows) (budget_at rows) (book_at rows) (prove_at rows)

-- The verify that the words after `verify` are.
abbrev pub verify_of : List Row → Option Command
verify_of rows = verify_from (name_at (codes "pattern") rows) (name_at (codes "target") rows)
    (name_at (codes "mapping") rows) (question_at rows)

-- The encode that the words after `encode` are.
abbrev pub encode_of : List Row → Option Command
encode_of rows = encode_from (name_at (codes "pattern") rows) (name_at (codes "target") rows)
    (question_at rows)

-- The check that the words after `check` are.
abbrev pub check_of : List Row → Option Command
check_of rows = check_from (name_at (codes "encoding") rows) (name_at (codes "log") rows)

-- The trim that the words after `trim` are.
abbrev pub trim_of : List Row → Option Command
trim_of rows = trim_from (name_at (codes "encoding") rows) (name_at (codes "log") rows)
    (name_at (codes "out") rows)

-- The demo that the words after `demo` are; its seed is the first of them.
abbrev pub demo_of : List Row → Option Command
demo_of rows = demo_from (option_and_then seed (first_of (codes "seed") rows)) (threads_at rows)
    (budget_at rows)

-- The command of this name, with what was found for it.
abbrev pub named_command : Text → List Row → Option Command
named_command name rows = if bytes_eq name (codes "solve") then solve_of rows
    else (if bytes_eq name (codes "verify") then verify_of rows
    else (if bytes_eq name (codes "encode") then encode_of rows else (if bytes_eq name
    (codes "check") then check_of rows
    else (if bytes_eq name (codes "trim") then trim_of rows else (if bytes_eq name
    (codes "demo") then demo_of rows else None)))))

-- The command that a parse entered, if it entered one.
abbrev pub entered_command : Option (Text × List Row) → Option Command
entered_command None = None
entered_command (Some p) = named_command p.0 p.1

-- The command that the words are, the program's name first among them: what `clap`'s function of the words gives, where that passes the tests.
unfoldable pub command : List Text → Option Command
command words = if is_empty (fault_of grammar words) then entered_command
    (subcommand_of grammar words) else None

-- The names of a proof's files have at most 4,095 bytes, and differ from each other and from the pattern's and the target's.
pub record IsProveInRange (pattern target : List ℕ) (w : ProveWords) : Type 0 where
  pub encoding : length w.encoding ≤ 4095
  pub log : length w.log ≤ 4095
  pub apart : w.encoding ≢ w.log
  pub encoding_not_pattern : w.encoding ≢ pattern
  pub encoding_not_target : w.encoding ≢ target
  pub log_not_pattern : w.log ≢ pattern
  pub log_not_target : w.log ≢ target

-- The ranges of a command's names and numbers.
pub record IsSolveInRange (w : SolveWords) : Type 0 where
  pub pattern : length w.pattern ≤ 4095
  pub target : length w.target ≤ 4095
  pub question : IsQuestion w.ask
  pub some : 1 ≤ w.threads
  pub few : w.threads ≤ 64
  pub least : 1 ≤ w.budget
  pub most : w.budget < 2 ^ 63
  pub book : w.book ≤ 4194304
  pub prove : IfSome w.prove (λ p. IsProveInRange w.pattern w.target p)

pub record IsVerifyInRange (w : VerifyWords) : Type 0 where
  pub pattern : length w.pattern ≤ 4095
  pub target : length w.target ≤ 4095
  pub mapping : length w.mapping ≤ 4095
  pub question : IsQuestion w.ask

pub record IsEncodeInRange (w : EncodeWords) : Type 0 where
  pub pattern : length w.pattern ≤ 4095
  pub target : length w.target ≤ 4095
  pub question : IsQuestion w.ask

pub record IsCheckInRange (w : CheckWords) : Type 0 where
  pub encoding : length w.encoding ≤ 4095
  pub log : length w.log ≤ 4095

pub record IsTrimInRange (w : TrimWords) : Type 0 where
  pub encoding : length w.encoding ≤ 4095
  pub log : length w.log ≤ 4095
  pub out : length w.out ≤ 4095
  pub not_encoding : w.out ≢ w.encoding
  pub not_log : w.out ≢ w.log

pub record IsDemoInRange (w : DemoWords) : Type 0 where
  pub some : 1 ≤ w.threads
  pub few : w.threads ≤ 64
  pub least : 1 ≤ w.budget
  pub most : w.budget < 2 ^ 63

-- A command's names have at most 4,095 bytes, and its numbers are in their ranges.
abbrev pub IsInRange : Command → Type 0
IsInRange (Solve w) = IsSolveInRange w
IsInRange (Verify w) = IsVerifyInRange w
IsInRange (Encode w) = IsEncodeInRange w
IsInRange (Check w) = IsCheckInRange w
IsInRange (Trim w) = IsTrimInRange w
IsInRange (Demo w) = IsDemoInRange w
