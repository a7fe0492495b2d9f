-- Loading the list of a batch and the problems of its jobs.

use Rattle.std.specs.Prelude.{◌≡◌, ℕ, ◌+◌, ◌≤◌, Bool, IsTrue, List, [], ◌∷◌, ◌++◌, length, map, take, get_or, slice_get, Option, Some, None, Result, Ok, Err, Vec, refl}
use Rattle.std.proofs.Common.{zero, suc, ap, sym, subst, ◌∙◌, arith}
use Rattle.std.specs.Global.{Global}
use Rattle.std.specs.List.{All, AllZip}
use Rattle.std.proofs.lemmas.List.{take_more}
use Rattle.std.proofs.lemmas.Option.{slice_get-get_or, slice_get_within}
use Rattle.std.proofs.lemmas.List.Elements.{All-cons, All-head, All-tail}
use Rattle.graph_theory.specs.Embedding.{Problem}
use Rattle.graph_theory.specs.declared.lad_text.LadKind.{LadKind}
use Rattle.job_list.specs.Jobs.{JobText, Says, IsList, lines, text_of}
use Rattle.job_list.specs.declared.job.Job.{Job}
use Rattle.outer_io.specs.NamedFiles.{SameFiles}
use Rattle.subgraph_cli.specs.Disk.{Disk}
use Rattle.command_line.specs.Questions.{Question, plain_question}
use Rattle.subgraph_cli.specs.Questions.{AskSays, LacksPair, IsFaultOfTwo}
use Rattle.subgraph_cli.specs.Stops.{HasCause, IsOfFiles}
use Rattle.subgraph_cli.specs.declared.stop.TextFault.{TextFault}
use Rattle.subgraph_cli.proofs.OneProblem.{pairs_not_refused}
use Rattle.subgraph_cli.specs.declared.stop.Role.TheVariants.{Pattern, Less, Target, Mapping, Encoding, Log, JobList, JobPattern, JobTarget}
use Rattle.subgraph_cli.specs.declared.stop.Stop.{Stop}
use Rattle.subgraph_cli.specs.declared.stop.Stop.TheVariants.{Refused, FilesFault, OutputFault, NoMemory}
use Rattle.whole_program.specs.Jobs.{HoldsList, HasNames, AreJobs, JobAsks, AreAsked, StopsAt, IsFirstOfJobs, IsFaultOfJobs, JobSays, JobsSay, job_ask, stop_of_job}

-- The names of a list's jobs are names of files.
names_of : (ls : List (List ℕ)) (jobs : List JobText) → AllZip Says ls jobs → All HasNames jobs
names_of [] [] said = λ k d inside. absurd (omega arith)
names_of [] (j ∷ js) said = absurd said
names_of (l ∷ ls) [] said = absurd said
names_of (l ∷ ls) (j ∷ js) said =
    All-cons HasNames j js (record { pattern = said.0.pattern.short; target = said.0.target.short }) (names_of ls js said.1)

pub are_jobs : (text : List ℕ) (jobs : List JobText) → IsList text jobs → AreJobs jobs
are_jobs text jobs is = record { few = is.few; names = names_of (lines text) jobs is.said }

-- The element at a place.
all_at : {A : Type 0} (P : A → Type 0) (xs : List A) (i : ℕ) (x : A) → slice_get xs i ≡ Some x → All P xs → P x
all_at P [] i x there all = let no : None ≡ Some x = there in cc
all_at P (y ∷ ys) zero x there all = let same : y ≡ x = cc in subst P same (All-head P y ys all)
all_at P (y ∷ ys) (suc i) x there all = all_at P ys i x there (All-tail P y ys all)

pub text_at : (jobs : List Job) (i : ℕ) (j : Job) → slice_get jobs i ≡ Some j → slice_get (map text_of jobs) i ≡ Some (text_of j)
text_at [] i j there = let no : None ≡ Some j = there in cc
text_at (k ∷ ks) zero j there = let same : k ≡ j = cc in ap (λ (x : Job). Some (text_of x)) same
text_at (k ∷ ks) (suc i) j there = text_at ks i j there

pub has_names : (jobs : List Job) (i : ℕ) (j : Job) → slice_get jobs i ≡ Some j → AreJobs (map text_of jobs) → HasNames (text_of j)
has_names jobs i j there are = all_at HasNames (map text_of jobs) i (text_of j) (text_at jobs i j there) are.names

-- What is said of files holds of those that hold the same.
pub job_says_on : (r : Result Problem Stop) (number : ℕ) (j : JobText) (kind : LadKind) (before after : List ℕ → Option (List ℕ)) → SameFiles before after
    → JobSays r number j after kind → JobSays r number j before kind
job_says_on r number j kind before after same says = subst (λ (content : List ℕ → Option (List ℕ)). JobSays r number j content kind) (λ i. λ file. same file i) says

pub jobs_say_on : (r : Result (Vec Problem Global) Stop) (jobs : List JobText) (kind : LadKind) (before after : List ℕ → Option (List ℕ)) → SameFiles before after
    → JobsSay r jobs after kind → JobsSay r jobs before kind
jobs_say_on r jobs kind before after same says = subst (λ (content : List ℕ → Option (List ℕ)). JobsSay r jobs content kind) (λ i. λ file. same file i) says

-- The list that was loaded, as it is lent.
pub list_as : (content : Option (List ℕ)) (js ks : List Job) → ks ≡ js → HoldsList content (map text_of js) → HoldsList content (map text_of ks)
list_as content js ks same holds = subst (λ (xs : List Job). HoldsList content (map text_of xs)) (sym same) holds

-- The jobs so far ask problems, and the next one does.
asked_push : (content : List ℕ → Option (List ℕ)) (kind : LadKind) (jobs : List JobText) (qs : List Problem) (j : JobText) (q : Problem)
    → AreAsked content kind jobs qs → JobAsks content kind j q → AreAsked content kind (jobs ++ j ∷ []) (qs ++ q ∷ [])
asked_push content kind [] [] j q asked one = (one, tt)
asked_push content kind [] (p ∷ ps) j q asked one = absurd asked
asked_push content kind (i ∷ is) [] j q asked one = absurd asked
asked_push content kind (i ∷ is) (p ∷ ps) j q asked one = (asked.0, asked_push content kind is ps j q asked.1 one)

take_next : {A : Type 0} (xs : List A) (i : ℕ) (x : A) → slice_get xs i ≡ Some x → take (i + 1) xs ≡ take i xs ++ x ∷ []
take_next xs i x there =
    let inside = slice_get_within xs i x there in
    let read = slice_get-get_or xs i x inside in
    let same : get_or xs i x ≡ x = cc in
    take_more xs i x inside ∙ ap (λ y. take i xs ++ y ∷ []) same

pub asked_next : (content : List ℕ → Option (List ℕ)) (kind : LadKind) (jobs : List JobText) (qs more : List Problem) (i : ℕ) (j : JobText) (q : Problem)
    → slice_get jobs i ≡ Some j → AreAsked content kind (take i jobs) qs → JobAsks content kind j q → more ≡ qs ++ q ∷ []
    → AreAsked content kind (take (i + 1) jobs) more
asked_next content kind jobs qs more i j q there asked one is =
    subst (λ (ps : List Problem). AreAsked content kind (take (i + 1) jobs) ps) (sym is)
    (subst (λ (js : List JobText). AreAsked content kind js (qs ++ q ∷ [])) (sym (take_next jobs i j there)) (asked_push content kind (take i jobs) qs j q asked one))

-- What stops where the problem of one of the jobs is loaded.
pub jobs_stop : (s : Stop) (number i : ℕ) (jobs : List JobText) (j : JobText) (qs : List Problem) (content : List ℕ → Option (List ℕ)) (kind : LadKind)
    → number ≡ i + 1 → slice_get jobs i ≡ Some j → AreAsked content kind (take i jobs) qs → JobSays (Err s) number j content kind → JobsSay (Err s) jobs content kind
jobs_stop FilesFault number i jobs j qs content kind is there asked says = tt
jobs_stop OutputFault number i jobs j qs content kind is there asked says = absurd says
jobs_stop NoMemory number i jobs j qs content kind is there asked says = tt
jobs_stop (Refused (JobPattern n) fault) number i jobs j qs content kind is there asked says =
    record { place = i; number_is = says.0 ∙ is; job = j; at = there; problems = qs; before = asked; refused = says.1 }
jobs_stop (Refused (JobTarget n) fault) number i jobs j qs content kind is there asked says =
    record { place = i; number_is = says.0 ∙ is; job = j; at = there; problems = qs; before = asked; refused = says.1 }
jobs_stop (Refused Pattern fault) number i jobs j qs content kind is there asked says = absurd says
jobs_stop (Refused Less fault) number i jobs j qs content kind is there asked says = absurd says
jobs_stop (Refused Target fault) number i jobs j qs content kind is there asked says = absurd says
jobs_stop (Refused Mapping fault) number i jobs j qs content kind is there asked says = absurd says
jobs_stop (Refused Encoding fault) number i jobs j qs content kind is there asked says = absurd says
jobs_stop (Refused Log fault) number i jobs j qs content kind is there asked says = absurd says
jobs_stop (Refused JobList fault) number i jobs j qs content kind is there asked says = absurd says

-- A cause of reading the files of a job, where the jobs before it ask problems.
pub jobs_cause : (s : Stop) (i : ℕ) (jobs : List JobText) (j : JobText) (kind : LadKind) (d : Disk) → slice_get jobs i ≡ Some j
    → (IsTrue d.tells → (qs : List Problem) × AreAsked d.content kind (take i jobs) qs)
    → HasCause s (IsFaultOfTwo j.pattern j.target (job_ask kind j)) d → HasCause s (IsFaultOfJobs jobs kind) d
jobs_cause FilesFault i jobs j kind d there before cause =
    record { rose = cause.rose; of_one = record { place = i; job = j; at = there; before = before; of_two = cause.of_one } }
jobs_cause OutputFault i jobs j kind d there before cause = tt
jobs_cause (Refused role fault) i jobs j kind d there before cause = tt
jobs_cause NoMemory i jobs j kind d there before cause = tt

-- A job names no pairs, so none is refused.
no_pair : (pattern : Option (List ℕ)) (kind : LadKind) (induced : Bool) (fault : TextFault) → LacksPair pattern (plain_question induced kind) fault → ⊥
no_pair pattern kind induced fault lacks = pairs_not_refused lacks.graph [] fault (λ k d inside. absurd (omega arith)) lacks.is

-- What is said of two names and a question holds of the same ones.
pub ask_says_as : (r : Result Problem Stop) (content : List ℕ → Option (List ℕ)) (p q t u : List ℕ) (a b : Question) → p ≡ q → t ≡ u → a ≡ b
    → AskSays r (content p) (content t) a → AskSays r (content q) (content u) b
ask_says_as r content p q t u a b pattern target ask says =
    subst (λ (x : List ℕ). AskSays r (content x) (content u) b) pattern
    (subst (λ (x : List ℕ). AskSays r (content p) (content x) b) target (subst (λ (x : Question). AskSays r (content p) (content t) x) ask says))

-- What loading the problem of a job says of the job.
pub job_stops : (s : Stop) (number : ℕ) (j : JobText) (content : List ℕ → Option (List ℕ)) (kind : LadKind) → IsOfFiles s
    → AskSays (Err s) (content j.pattern) (content j.target) (job_ask kind j) → JobSays (Err (stop_of_job number s)) number j content kind
job_stops FilesFault number j content kind of_files says = tt
job_stops OutputFault number j content kind of_files says = absurd of_files
job_stops NoMemory number j content kind of_files says = tt
job_stops (Refused Pattern fault) number j content kind of_files says = (refl, says)
job_stops (Refused Less fault) number j content kind of_files says = no_pair (content j.pattern) kind j.induced fault says
job_stops (Refused Target fault) number j content kind of_files says = (refl, says)
job_stops (Refused Mapping fault) number j content kind of_files says = absurd says
job_stops (Refused Encoding fault) number j content kind of_files says = absurd says
job_stops (Refused Log fault) number j content kind of_files says = absurd says
job_stops (Refused JobList fault) number j content kind of_files says = absurd says
job_stops (Refused (JobPattern n) fault) number j content kind of_files says = absurd says
job_stops (Refused (JobTarget n) fault) number j content kind of_files says = absurd says
