-- The list of a batch, and the problems that its jobs ask.

use Rattle.std.specs.Prelude.{◌≡◌, ℕ, ◌+◌, ◌<◌, ◌≤◌, ◌⊎◌, IsTrue, List, length, map, take, slice_get, Option, Some, Result, Ok, Err, Vec}
use Rattle.std.specs.Global.{Global}
use Rattle.std.specs.List.{All, AllZip}
use Rattle.graph_theory.specs.Embedding.{Problem}
use Rattle.graph_theory.specs.declared.lad_text.LadKind.{LadKind}
use Rattle.job_list.specs.Jobs.{JobText, IsList, FirstBad, text_of}
use Rattle.job_list.specs.declared.job.Job.{Job}
use Rattle.command_line.specs.Questions.{Question, plain_question}
use Rattle.subgraph_cli.specs.Disk.{Disk}
use Rattle.subgraph_cli.specs.Questions.{Asks, IsFirstRefused, IsFaultOfTwo}
use Rattle.subgraph_cli.specs.declared.stop.Role.{Role}
use Rattle.subgraph_cli.specs.declared.stop.Role.TheVariants.{Pattern, Target, JobList, JobPattern, JobTarget}
use Rattle.subgraph_cli.specs.declared.stop.TextFault.{TextFault}
use Rattle.subgraph_cli.specs.declared.stop.TextFault.TheVariants.{TooLong, Listed}
use Rattle.subgraph_cli.specs.declared.stop.Stop.{Stop}
use Rattle.subgraph_cli.specs.declared.stop.Stop.TheVariants.{Refused, FilesFault, OutputFault, NoMemory}

-- The content of a file lists these jobs, within the limit of 1,048,576 bytes.
pub record HoldsList (content : Option (List ℕ)) (jobs : List JobText) : Type 0 where
  pub bytes : List ℕ
  pub there : content ≡ Some bytes
  pub short : length bytes ≤ 1048576
  pub is : IsList bytes jobs

-- Bytes are no list, for this fault: they are over the limit, or have a first faulty line.
abbrev pub IsNoList : List ℕ → TextFault → Type 0
IsNoList bytes TooLong = 1048576 < length bytes
IsNoList bytes (Listed n cause) = (length bytes ≤ 1048576) × FirstBad bytes n cause
IsNoList bytes _ = ⊥

-- The content of a file is no list, for this fault.
pub record HoldsNoList (content : Option (List ℕ)) (fault : TextFault) : Type 0 where
  pub bytes : List ℕ
  pub there : content ≡ Some bytes
  pub is : IsNoList bytes fault

-- What loading the list answers.
abbrev pub ListSays : Result (Vec Job Global) Stop → Option (List ℕ) → Type 0
ListSays (Ok jobs) content = HoldsList content (map text_of jobs.items)
ListSays (Err (Refused role fault)) content = (role ≡ JobList) × HoldsNoList content fault
ListSays (Err FilesFault) content = Unit {0}
ListSays (Err OutputFault) content = ⊥
ListSays (Err NoMemory) content = Unit {0}

-- The names of a job are names of files.
pub record HasNames (j : JobText) : Type 0 where
  pub pattern : length j.pattern ≤ 4095
  pub target : length j.target ≤ 4095

-- At most 1,000 jobs, with names of files.
pub record AreJobs (jobs : List JobText) : Type 0 where
  pub few : length jobs ≤ 1000
  pub names : All HasNames jobs

-- What a job asks of its two graphs: injective maps with no order of images, and induced copies where the job says so.
abbrev pub job_ask : LadKind → JobText → Question
job_ask kind j = plain_question j.induced kind

module _ (content : List ℕ → Option (List ℕ)) (kind : LadKind) where
  -- The files of a job ask this problem.
  abbrev pub JobAsks : JobText → Problem → Type 0
  JobAsks j q = Asks (content j.pattern) (content j.target) (job_ask kind j) q

  -- The jobs ask these problems, in order.
  abbrev pub AreAsked : List JobText → List Problem → Type 0
  AreAsked jobs problems = AllZip JobAsks jobs problems

  -- The job at this place has a file that is not good, the first of all: the jobs before it ask problems, and of its own files this is the first that is not good, for this fault.
  pub record StopsAt (jobs : List JobText) (number : ℕ) (role : Role) (fault : TextFault) : Type 0 where
    pub place : ℕ
    pub number_is : number ≡ place + 1
    pub job : JobText
    pub at : slice_get jobs place ≡ Some job
    pub problems : List Problem
    pub before : AreAsked (take place jobs) problems
    pub refused : IsFirstRefused (content job.pattern) (content job.target)
        (job_ask kind job) role fault

  -- The first file of the jobs that is not good has this role, for this fault; jobs are numbered from 1.
  abbrev pub IsFirstOfJobs : List JobText → Role → TextFault → Type 0
  IsFirstOfJobs jobs (JobPattern number) fault = StopsAt jobs number Pattern fault
  IsFirstOfJobs jobs (JobTarget number) fault = StopsAt jobs number Target fault
  IsFirstOfJobs jobs _ fault = ⊥

-- The last fault was one of reading a file of a job, where the jobs before it ask problems.
pub record IsFaultOfJobs (jobs : List JobText) (kind : LadKind) (d : Disk) : Type 0 where
  pub place : ℕ
  pub job : JobText
  pub at : slice_get jobs place ≡ Some job
  pub before : IsTrue d.tells → (problems : List Problem)
      × AreAsked d.content kind (take place jobs) problems
  pub of_two : IsFaultOfTwo job.pattern job.target (job_ask kind job) d

-- Why a batch stops where the problem of a job was not loaded.
abbrev pub stop_of_job : ℕ → Stop → Stop
stop_of_job number (Refused Pattern fault) = Refused (JobPattern number) fault
stop_of_job number (Refused Target fault) = Refused (JobTarget number) fault
stop_of_job number stop = stop

-- What loading the problem of a job answers.
abbrev pub JobSays : Result Problem Stop → ℕ → JobText → (List ℕ → Option (List ℕ)) → LadKind → Type 0
JobSays (Ok q) number j content kind = JobAsks content kind j q
JobSays (Err (Refused (JobPattern n) fault)) number j content kind = (n ≡ number)
    × IsFirstRefused (content j.pattern) (content j.target) (job_ask kind j) Pattern fault
JobSays (Err (Refused (JobTarget n) fault)) number j content kind = (n ≡ number)
    × IsFirstRefused (content j.pattern) (content j.target) (job_ask kind j) Target fault
JobSays (Err (Refused _ fault)) number j content kind = ⊥
JobSays (Err FilesFault) number j content kind = Unit {0}
JobSays (Err OutputFault) number j content kind = ⊥
JobSays (Err NoMemory) number j content kind = Unit {0}

-- What loading the problems of all jobs answers.
abbrev pub JobsSay : Result (Vec Problem Global) Stop → List JobText → (List ℕ → Option (List ℕ))
    → LadKind → Type 0
JobsSay (Ok problems) jobs content kind = AreAsked content kind jobs problems.items
JobsSay (Err (Refused role fault)) jobs content kind = IsFirstOfJobs content kind jobs role fault
JobsSay (Err FilesFault) jobs content kind = Unit {0}
JobsSay (Err OutputFault) jobs content kind = ⊥
JobsSay (Err NoMemory) jobs content kind = Unit {0}
