-- What workers hand back, and how it is put in the order of the jobs.

use Rattle.std.specs.Prelude.{◌≡◌, ℕ, ◌<◌, ◌≤◌, List, [], length, map, Option, Some, None, IfSome, slice_get}
use Rattle.std.specs.List.{All}
use Rattle.crossbeam_queue.specs.declared.array_queue.Doing.{Doing}
use Rattle.crossbeam_queue.specs.declared.array_queue.Slotted.{Slotted}
use Rattle.crossbeam_queue.specs.Passes.{view, IsPassOf}
use Rattle.batch_pool.specs.declared.numbers.Hand.{Hand}
use Rattle.batch_pool.specs.declared.worker.Taken.{Taken}
use Rattle.batch_pool.specs.declared.worker.Worker.{Worker}
use Rattle.batch_pool.specs.declared.worker.Done.{Done}
use Rattle.batch_pool.specs.declared.entries.Entry.{Entry}
use Rattle.batch_pool.specs.Rule.{hand, times}

-- What a worker has of a job.
abbrev pub entry : {O : Type 0} → ℕ → Option O → Entry O
entry worker out = record { worker = worker; out = out }

-- The numbers of what was taken.
abbrev pub numbers_of : {O : Type 0} → List (Taken O) → List ℕ
numbers_of taken = map (λ t. t.number) taken

-- The slots of what this worker took have its number and what it has of each job; the others are as they were.
pub record ArePut {O : Type 0} (worker : ℕ) (taken : List (Taken O)) (old new : List (Option (Entry O))) : Type 0 where
  pub count : length new ≡ length old
  pub put : All (λ t. slice_get new t.number ≡ Some (Some (entry worker t.out))) taken
  pub kept : (i : ℕ) → times i (numbers_of taken) ≡ 0 → slice_get new i ≡ slice_get old i

-- The slot at this place has this worker's number.
abbrev pub IsNamed : {O : Type 0} → ℕ → ℕ → List (Option (Entry O)) → Type 0
IsNamed {O} worker i slots = (e : Entry O) × (slice_get slots i ≡ Some (Some e)) × (e.worker ≡ worker)

-- A worker before it begins: one of so many, with a pass of the queue that knows how many jobs there are.
pub record IsHired {Q A : Type 0} (queue : Slotted (Option ℕ) (Doing ℕ Hand) Q A) (count workers : ℕ) (w : Worker) : Type 0 where
  pub pass : IsPassOf queue w.pass
  pub begins : view w.pass ≡ hand 1 count []
  pub number : w.number ≤ workers

module _ {J O : Type 0} (answers : J → O → Type 0) (jobs : List J) where
  -- The job at this place is answered by out.
  abbrev pub IsAnswerAt : ℕ → O → Type 0
  IsAnswerAt i out = (job : J) → slice_get jobs i ≡ Some job → answers job out

  -- As many answers as jobs, and what stands at place i answers the job at place i.
  pub record AreDone (outs : List O) : Type 0 where
    pub count : length outs ≡ length jobs
    pub each : (i : ℕ) (job : J) (out : O) → slice_get jobs i ≡ Some job → slice_get outs i ≡ Some out → answers job out

  -- What a worker took is the number of a job, and what it has of that job answers it.
  pub record IsTaken (t : Taken O) : Type 0 where
    pub below : t.number < length jobs
    pub answer : IfSome t.out (λ out. IsAnswerAt t.number out)

  -- A worker has a pass that knows how many jobs there are, and has taken the numbers of its list in their order.
  pub record HasWorked (h : Hand) (taken : List (Taken O)) : Type 0 where
    pub parts : h.parts ≡ 1
    pub pushed : h.pushed ≡ length jobs
    pub numbers : h.taken ≡ numbers_of taken
    pub each : All (λ t. IsTaken t) taken

  -- What a worker hands back: its number is one of so many, and its pass is one of the queue.
  pub record HasHanded {Q A : Type 0} (queue : Slotted (Option ℕ) (Doing ℕ Hand) Q A) (workers : ℕ) (d : Done O) : Type 0 where
    pub pass : IsPassOf queue d.pass
    pub number : d.worker ≤ workers
    pub worked : HasWorked (view d.pass) d.taken.items

  -- An entry tells one of the workers, and what it has of the job answers it.
  pub record IsEntry (workers i : ℕ) (e : Entry O) : Type 0 where
    pub worker : e.worker ≤ workers
    pub answer : IfSome e.out (λ out. IsAnswerAt i out)

  -- There is a slot for each job. Those of the numbers that were taken are filled, and the others are free.
  pub record ArePlaced (workers : ℕ) (taken : List ℕ) (slots : List (Option (Entry O))) : Type 0 where
    pub count : length slots ≡ length jobs
    pub free : (i : ℕ) → i < length jobs → times i taken ≡ 0 → slice_get slots i ≡ Some None
    pub filled : (i : ℕ) → i < length jobs → 0 < times i taken → (e : Entry O) × (slice_get slots i ≡ Some (Some e)) × IsEntry workers i e

-- Who took each of n jobs: n numbers, each at most that of the last worker.
pub record AreTakers (n workers : ℕ) (by : List ℕ) : Type 0 where
  pub count : length by ≡ n
  pub each : All (λ w. w ≤ workers) by
