-- A stop that is handed on, and what nothing was done to.

use Rattle.std.specs.Prelude.{◌≡◌, ℕ, ◌⊎◌, List, Option, IsTrue, Result, Ok, Err, IfErr, IsErrAnd, IsErrOf, refl}
use Rattle.std.proofs.Common.{sym, subst, ap, inl, inr, arith, ◌∙◌}
use Rattle.graph_theory.specs.Graph.{Graph}
use Rattle.outer_io.specs.Sinks.{Spot}
use Rattle.command_line.specs.Questions.{Question}
use Rattle.command_line.specs.declared.commands.VerifyWords.{VerifyWords}
use Rattle.subgraph_cli.specs.Disk.{Disk, IsReadingOf}
use Rattle.subgraph_cli.specs.Streams.{Stream, IsSameSink}
use Rattle.subgraph_cli.specs.Questions.{HoldsGraph, HaveVertices, IsGoodPattern, AskSays, RoleSays, PairsSay, IsFaultOfTwo}
use Rattle.subgraph_cli.specs.Stops.{HasCause, IsOfFiles}
use Rattle.subgraph_cli.specs.Verifying.{IsFaultOfThree, VerifySays, KeepsWhenBad}
use Rattle.subgraph_cli.specs.declared.stop.Role.TheVariants.{Pattern, Less, Target, Mapping, Encoding, Log, JobList, JobPattern, JobTarget}
use Rattle.subgraph_cli.specs.declared.stop.Stop.{Stop}
use Rattle.subgraph_cli.specs.declared.stop.Stop.TheVariants.{Refused, FilesFault, OutputFault, NoMemory}
use Rattle.subgraph_cli.specs.declared.verify.Tested.{Tested}

-- What is so of a stop is so where it is handed on.
pub if_err_passed : {A : Type 0} (r : Result A Stop) (s : Stop) (P : Stop → Type 0) → IsErrAnd r (λ y. y ≡ s) → P s → IfErr r P
if_err_passed (Ok a) s P is p = absurd is
if_err_passed (Err e) s P is p = subst P (sym is) p

-- Where no call failed before, and none but for the stop, none has failed but for it.
pub quiet_passed : {A B : Type 0} (r : Result A Stop) (q : Result B Stop) (s fault : Stop) (before middle after : ℕ) → IsErrAnd r (λ y. y ≡ s) → q ≡ Err s → middle ≡ before
    → IsErrOf q fault ⊎ (after ≡ middle) → IsErrOf r fault ⊎ (after ≡ before)
quiet_passed (Ok a) q s fault before middle after is was none last = absurd is
quiet_passed (Err e) q s fault before middle after is was none (inl stop) = let same : s ≡ fault = cc in inl (ap Err (is ∙ same))
quiet_passed (Err e) q s fault before middle after is was none (inr same) = inr (same ∙ none)

-- A sink that nothing was put to.
pub sink_kept : {S : Type 0} (spot : S → Spot) (rest : S → List ℕ → Option (List ℕ)) (faults : S → ℕ) (s : S) → IsSameSink spot rest faults s s
sink_kept spot rest faults s = record { same = refl; others = λ file. refl; later = omega arith }

-- A stop is no bad mapping.
pub bad_passed : (r : Result Tested Stop) (s : Stop) (out : Stream) → IsErrAnd r (λ y. y ≡ s) → KeepsWhenBad r out
bad_passed (Ok tested) s out is = absurd is
bad_passed (Err e) s out is = tt

-- What stops a verify where its problem is loaded.
pub asking_stops : (s : Stop) (w : VerifyWords) (p t m : Option (List ℕ)) (out : Stream) → IsOfFiles s → AskSays (Err s) p t w.ask → VerifySays (Err s) w p t m out
asking_stops FilesFault w p t m out of_files says = tt
asking_stops OutputFault w p t m out of_files says = absurd of_files
asking_stops NoMemory w p t m out of_files says = tt
asking_stops (Refused Pattern fault) w p t m out of_files says = says
asking_stops (Refused Less fault) w p t m out of_files says = says
asking_stops (Refused Target fault) w p t m out of_files says = says
asking_stops (Refused Mapping fault) w p t m out of_files says = absurd says
asking_stops (Refused Encoding fault) w p t m out of_files says = absurd says
asking_stops (Refused Log fault) w p t m out of_files says = absurd says
asking_stops (Refused JobList fault) w p t m out of_files says = absurd says
asking_stops (Refused (JobPattern n) fault) w p t m out of_files says = absurd says
asking_stops (Refused (JobTarget n) fault) w p t m out of_files says = absurd says

pub asking_cause : (s : Stop) (w : VerifyWords) (d : Disk) → HasCause s (IsFaultOfTwo w.pattern w.target w.ask) d → HasCause s (IsFaultOfThree w) d
asking_cause FilesFault w d cause = record { rose = cause.rose; of_one = inl cause.of_one }
asking_cause OutputFault w d cause = tt
asking_cause (Refused role fault) w d cause = tt
asking_cause NoMemory w d cause = tt

-- What stops where the pattern is loaded.
pub pattern_refused : (s : Stop) (p t : Option (List ℕ)) (ask : Question) → RoleSays (Err s) Pattern p ask.format 1024 → AskSays (Err s) p t ask
pattern_refused FilesFault p t ask says = tt
pattern_refused OutputFault p t ask says = absurd says
pattern_refused NoMemory p t ask says = tt
pattern_refused (Refused Pattern fault) p t ask says = says.1
pattern_refused (Refused Less fault) p t ask says = let e : Less ≡ Pattern = says.0 in cc
pattern_refused (Refused Target fault) p t ask says = let e : Target ≡ Pattern = says.0 in cc
pattern_refused (Refused Mapping fault) p t ask says = let e : Mapping ≡ Pattern = says.0 in cc
pattern_refused (Refused Encoding fault) p t ask says = let e : Encoding ≡ Pattern = says.0 in cc
pattern_refused (Refused Log fault) p t ask says = let e : Log ≡ Pattern = says.0 in cc
pattern_refused (Refused JobList fault) p t ask says = let e : JobList ≡ Pattern = says.0 in cc
pattern_refused (Refused (JobPattern n) fault) p t ask says = let e : JobPattern n ≡ Pattern = says.0 in cc
pattern_refused (Refused (JobTarget n) fault) p t ask says = let e : JobTarget n ≡ Pattern = says.0 in cc

-- What stops where the pairs are looked at, and the pattern was loaded.
pub pairs_refused : (s : Stop) (p t : Option (List ℕ)) (ask : Question) (g : Graph) → HoldsGraph p ask.format 1024 g → PairsSay (Err s) g ask.less → AskSays (Err s) p t ask
pairs_refused FilesFault p t ask g holds says = absurd says
pairs_refused OutputFault p t ask g holds says = absurd says
pairs_refused NoMemory p t ask g holds says = tt
pairs_refused (Refused Less fault) p t ask g holds says = record { graph = g; pattern_is = holds; is = says.1 }
pairs_refused (Refused Pattern fault) p t ask g holds says = let e : Pattern ≡ Less = says.0 in cc
pairs_refused (Refused Target fault) p t ask g holds says = let e : Target ≡ Less = says.0 in cc
pairs_refused (Refused Mapping fault) p t ask g holds says = let e : Mapping ≡ Less = says.0 in cc
pairs_refused (Refused Encoding fault) p t ask g holds says = let e : Encoding ≡ Less = says.0 in cc
pairs_refused (Refused Log fault) p t ask g holds says = let e : Log ≡ Less = says.0 in cc
pairs_refused (Refused JobList fault) p t ask g holds says = let e : JobList ≡ Less = says.0 in cc
pairs_refused (Refused (JobPattern n) fault) p t ask g holds says = let e : JobPattern n ≡ Less = says.0 in cc
pairs_refused (Refused (JobTarget n) fault) p t ask g holds says = let e : JobTarget n ≡ Less = says.0 in cc

pub pairs_of_files : (s : Stop) (g : Graph) (less : List (ℕ × ℕ)) → PairsSay (Err s) g less → IsOfFiles s
pairs_of_files FilesFault g less says = tt
pairs_of_files OutputFault g less says = absurd says
pairs_of_files (Refused role fault) g less says = tt
pairs_of_files NoMemory g less says = tt

pub pairs_cause : (s : Stop) (g : Graph) (less : List (ℕ × ℕ)) (blame : Disk → Type 0) (d : Disk) → PairsSay (Err s) g less → HasCause s blame d
pairs_cause FilesFault g less blame d says = absurd says
pairs_cause OutputFault g less blame d says = tt
pairs_cause (Refused role fault) g less blame d says = tt
pairs_cause NoMemory g less blame d says = tt

-- What stops where the target is loaded, and the pattern was, with the vertices of each pair.
pub target_refused : (s : Stop) (p t : Option (List ℕ)) (ask : Question) (g : Graph) → HoldsGraph p ask.format 1024 g → HaveVertices g ask.less
    → RoleSays (Err s) Target t ask.format 8192 → AskSays (Err s) p t ask
target_refused FilesFault p t ask g holds have says = tt
target_refused OutputFault p t ask g holds have says = absurd says
target_refused NoMemory p t ask g holds have says = tt
target_refused (Refused Target fault) p t ask g holds have says = record { graph = g; pattern_is = holds; vertices = have; target_is = says.1 }
target_refused (Refused Pattern fault) p t ask g holds have says = let e : Pattern ≡ Target = says.0 in cc
target_refused (Refused Less fault) p t ask g holds have says = let e : Less ≡ Target = says.0 in cc
target_refused (Refused Mapping fault) p t ask g holds have says = let e : Mapping ≡ Target = says.0 in cc
target_refused (Refused Encoding fault) p t ask g holds have says = let e : Encoding ≡ Target = says.0 in cc
target_refused (Refused Log fault) p t ask g holds have says = let e : Log ≡ Target = says.0 in cc
target_refused (Refused JobList fault) p t ask g holds have says = let e : JobList ≡ Target = says.0 in cc
target_refused (Refused (JobPattern n) fault) p t ask g holds have says = let e : JobPattern n ≡ Target = says.0 in cc
target_refused (Refused (JobTarget n) fault) p t ask g holds have says = let e : JobTarget n ≡ Target = says.0 in cc

-- A cause of reading one of the two is one of both.
pub pattern_cause : (s : Stop) (pattern target : List ℕ) (ask : Question) (d : Disk) → HasCause s (IsReadingOf pattern) d → HasCause s (IsFaultOfTwo pattern target ask) d
pattern_cause FilesFault pattern target ask d cause = record { rose = cause.rose; of_one = inl cause.of_one }
pattern_cause OutputFault pattern target ask d cause = tt
pattern_cause (Refused role fault) pattern target ask d cause = tt
pattern_cause NoMemory pattern target ask d cause = tt

pub target_cause : (s : Stop) (pattern target : List ℕ) (ask : Question) (d : Disk) → HasCause s (IsReadingOf target) d
    → (IsTrue d.tells → IsGoodPattern (d.content pattern) ask) → HasCause s (IsFaultOfTwo pattern target ask) d
target_cause FilesFault pattern target ask d cause holds = record { rose = cause.rose; of_one = inr (cause.of_one, holds) }
target_cause OutputFault pattern target ask d cause holds = tt
target_cause (Refused role fault) pattern target ask d cause holds = tt
target_cause NoMemory pattern target ask d cause holds = tt
