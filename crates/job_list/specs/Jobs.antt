-- The text of a list of jobs.
--
-- For one, `tri c4` and a line feed, and then `path tri induced`, are the lines of two jobs.

use Rattle.std.specs.Prelude.{◌≡◌, ℕ, ◌+◌, ◌<◌, ◌≤◌, ◌==◌, Bool, true, false, ◌||◌, if◌then◌else◌, List, [], ◌∷◌, ◌++◌, length, codes, Some, slice_get, string_bytes}
use Rattle.std.specs.List.{All, AllZip}
use Rattle.std.specs.Str.{IsUtf8}
use Rattle.job_list.specs.declared.job.Job.{Job}
use Rattle.job_list.specs.declared.fault.ListCause.{ListCause}
use Rattle.job_list.specs.declared.fault.ListCause.TheVariants.{Form, TooMany}
use Rattle.job_list.specs.declared.fault.ListFault.{ListFault}
use Rattle.job_list.specs.declared.fault.ListFault.TheVariants.{Line, NoMemory}

-- The lines of a text. A line feed ends a line; what follows the last one is a line where it is not empty.
abbrev pub onto_first : ℕ → List (List ℕ) → List (List ℕ)
onto_first b [] = (b ∷ []) ∷ []
onto_first b (l ∷ ls) = (b ∷ l) ∷ ls

abbrev pub lines : List ℕ → List (List ℕ)
lines [] = []
lines (b ∷ bs) = if b == 10 then [] ∷ lines bs else onto_first b (lines bs)

-- The blanks of all kinds are blank, tab, carriage return and line feed.
abbrev pub is_blank : ℕ → Bool
is_blank b = b == 32 || (b == 9 || (b == 13 || b == 10))

-- No byte is a blank of any kind.
abbrev pub IsUnbroken : List ℕ → Type 0
IsUnbroken = All (λ b. is_blank b ≡ false)

-- A name is one to 4,095 bytes of UTF-8 without blanks.
pub record IsName (name : List ℕ) : Type 0 where
  pub utf8 : IsUtf8 name
  pub some : 0 < length name
  pub short : length name ≤ 4095
  pub unbroken : IsUnbroken name

-- What a line says: the names of a pattern and of a target, and whether the subgraph is to be induced.
pub record JobText : Type 0 where
  pub pattern : List ℕ
  pub target : List ℕ
  pub induced : Bool

abbrev pub job_text : List ℕ → List ℕ → Bool → JobText
job_text pattern target induced = record {
  pattern = pattern;
  target = target;
  induced =
      induced;
}

-- What a job of the reader says.
abbrev pub text_of : Job → JobText
text_of job = job_text (string_bytes job.pattern) (string_bytes job.target) job.induced

-- What follows the target's name.
abbrev pub ending : Bool → List ℕ
ending true = codes " induced"
ending false = []

-- The line says this job: a name, a blank, a name, and where the subgraph is to be induced a blank and `induced`.
pub record Says (line : List ℕ) (j : JobText) : Type 0 where
  pub text : line ≡ j.pattern ++ 32 ∷ (j.target ++ ending j.induced)
  pub pattern : IsName j.pattern
  pub target : IsName j.target

-- The text lists these jobs, one in each line, and at most 1,000.
pub record IsList (text : List ℕ) (jobs : List JobText) : Type 0 where
  pub said : AllZip Says (lines text) jobs
  pub few : length jobs ≤ 1000

-- The line at place k, counted from 0, is faulty: it is one of the first 1,000 and says no job, or the one behind these.
abbrev pub IsBad : List (List ℕ) → ℕ → ListCause → Type 0
IsBad ls k Form = (k < 1000) × (line : List ℕ) × (slice_get ls k ≡ Some line)
    × ((j : JobText) → ¬ (Says line j))
IsBad ls k TooMany = (k ≡ 1000) × (1000 < length ls)

-- Line n, counted from 1, is the first faulty one, and this is why.
pub record FirstBad (text : List ℕ) (n : ℕ) (cause : ListCause) : Type 0 where
  pub place : ℕ
  pub line : n ≡ place + 1
  pub bad : IsBad (lines text) place cause
  pub first : (k : ℕ) (c : ListCause) → IsBad (lines text) k c → place ≤ k

-- A fact of the line that a fault names, and of the cause.
abbrev pub OnLine : ListFault → (ℕ → ListCause → Type 0) → Type 0
OnLine NoMemory P = Unit {0}
OnLine (Line n cause) P = P n cause
