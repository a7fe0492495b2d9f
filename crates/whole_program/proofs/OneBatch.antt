-- What the files of a batch hold is one list and one problem for each job.

use Rattle.std.specs.Prelude.{◌≡◌, ℕ, ◌+◌, ◌<◌, ◌≤◌, Bool, true, false, List, [], ◌∷◌, length, take, slice_get, Option, Some, None, refl}
use Rattle.std.proofs.Common.{zero, suc, ap, sym, subst, ◌∙◌, arith}
use Rattle.std.specs.List.{AllZip}
use Rattle.graph_theory.specs.Graph.{size}
use Rattle.graph_theory.specs.LadFault.{TextLaws}
use Rattle.graph_theory.specs.Embedding.{Problem, Embeds, HasNone}
use Rattle.graph_theory.specs.declared.lad_text.LadKind.{LadKind}
use Rattle.search_theory.specs.Account.{Account}
use Rattle.search_theory.specs.Bounds.{enough}
use Rattle.std.specs.List.{All}
use Rattle.std.proofs.lemmas.List.Elements.{All-head, All-tail}
use Rattle.job_list.specs.Jobs.{JobText, IsList, FirstBad}
use Rattle.job_list.proofs.Reading.{said_once, never_both}
use Rattle.command_line.specs.declared.batch.BatchWords.{BatchWords}
use Rattle.subgraph_cli.proofs.OneProblem.{one_problem, asks_not_refused}
use Rattle.subgraph_cli.specs.declared.stop.Role.{Role}
use Rattle.subgraph_cli.specs.declared.stop.Role.TheVariants.{Pattern, Less, Target, Mapping, Encoding, Log, JobList, JobPattern, JobTarget}
use Rattle.subgraph_cli.specs.declared.stop.TextFault.{TextFault}
use Rattle.subgraph_cli.specs.declared.stop.TextFault.TheVariants.{TooLong, Listed}
use Rattle.whole_program.specs.Jobs.{HoldsList, HoldsNoList, JobAsks, AreAsked, StopsAt, job_ask}
use Rattle.whole_program.specs.Batches.{IsFirstOfBatch, are_decided, IsEnough}
use Rattle.whole_program.specs.Verdicts.{AreRight}
use Rattle.whole_program.specs.declared.verdict.JobVerdict.{JobVerdict}
use Rattle.whole_program.specs.declared.verdict.JobVerdict.TheVariants.{Yes, Nothing, Unknown}

bytes_same : (content : Option (List ℕ)) (a b : List ℕ) → content ≡ Some a → content ≡ Some b → a ≡ b
bytes_same content a b e f = cc

-- A content is one list.
pub one_list : (content : Option (List ℕ)) (js ks : List JobText) → HoldsList content js → HoldsList content ks → js ≡ ks
one_list content js ks x y =
    let same = bytes_same content y.bytes x.bytes y.there x.there in
    let again : IsList x.bytes ks = subst (λ (b : List ℕ). IsList b ks) same y.is in
    said_once _ js ks x.is.said again.said

-- A list is not refused.
pub list_not_refused : (content : Option (List ℕ)) (js : List JobText) (fault : TextFault) → HoldsList content js → HoldsNoList content fault → ⊥
list_not_refused content js TooLong x y =
    let same = bytes_same content y.bytes x.bytes y.there x.there in
    let long : 1048576 < length x.bytes = subst (λ (b : List ℕ). 1048576 < length b) same y.is in
    let short : length x.bytes ≤ 1048576 = x.short in
    omega arith
list_not_refused content js (Listed n cause) x y =
    let same = bytes_same content y.bytes x.bytes y.there x.there in
    never_both x.bytes js n cause x.is (subst (λ (b : List ℕ). FirstBad b n cause) same y.is.1)
list_not_refused content js _ x y = y.is

-- The jobs ask one list of problems.
pub one_asked : TextLaws → (content : List ℕ → Option (List ℕ)) (kind : LadKind) (jobs : List JobText) (ps qs : List Problem)
    → AreAsked content kind jobs ps → AreAsked content kind jobs qs → ps ≡ qs
one_asked laws content kind [] [] [] x y = refl
one_asked laws content kind [] [] (q ∷ qs) x y = absurd y
one_asked laws content kind [] (p ∷ ps) qs x y = absurd x
one_asked laws content kind (j ∷ js) [] qs x y = absurd x
one_asked laws content kind (j ∷ js) (p ∷ ps) [] x y = absurd y
one_asked laws content kind (j ∷ js) (p ∷ ps) (q ∷ qs) x y =
    ap (λ r. r ∷ ps) (one_problem laws (content j.pattern) (content j.target) (job_ask kind j) p q x.0 y.0)
    ∙ ap (λ rs. q ∷ rs) (one_asked laws content kind js ps qs x.1 y.1)

-- The problem of the job at a place.
pub record HasProblem (content : List ℕ → Option (List ℕ)) (kind : LadKind) (qs : List Problem) (i : ℕ) (j : JobText) : Type 0 where
  pub problem : Problem
  pub at : slice_get qs i ≡ Some problem
  pub asks : JobAsks content kind j problem

pub asked_at : (content : List ℕ → Option (List ℕ)) (kind : LadKind) (jobs : List JobText) (qs : List Problem) (i : ℕ) (j : JobText)
    → AreAsked content kind jobs qs → slice_get jobs i ≡ Some j → HasProblem content kind qs i j
asked_at content kind [] qs i j asked there = let no : None ≡ Some j = there in cc
asked_at content kind (k ∷ ks) [] i j asked there = absurd asked
asked_at content kind (k ∷ ks) (q ∷ qs) zero j asked there =
    let same : k ≡ j = cc in record { problem = q; at = refl; asks = subst (λ (x : JobText). JobAsks content kind x q) same asked.0 }
asked_at content kind (k ∷ ks) (q ∷ qs) (suc i) j asked there =
    let more = asked_at content kind ks qs i j asked.1 there in record { problem = more.problem; at = more.at; asks = more.asks }

-- Jobs that ask problems have no file that is refused.
not_stopped : TextLaws → (content : List ℕ → Option (List ℕ)) (kind : LadKind) (jobs : List JobText) (qs : List Problem) (number : ℕ) (role : Role) (fault : TextFault)
    → AreAsked content kind jobs qs → StopsAt content kind jobs number role fault → ⊥
not_stopped laws content kind jobs qs number role fault asked stops =
    let has = asked_at content kind jobs qs stops.place stops.job asked stops.at in
    asks_not_refused laws (content stops.job.pattern) (content stops.job.target) (job_ask kind stops.job) has.problem role fault has.asks stops.refused

-- A batch whose jobs ask problems is not refused.
pub batch_not_refused : TextLaws → (w : BatchWords) (content : List ℕ → Option (List ℕ)) (jobs : List JobText) (qs : List Problem) (role : Role) (fault : TextFault)
    → HoldsList (content w.list) jobs → AreAsked content w.format jobs qs → IsFirstOfBatch w content role fault → ⊥
batch_not_refused laws w content jobs qs JobList fault holds asked refused = list_not_refused (content w.list) jobs fault holds refused
batch_not_refused laws w content jobs qs (JobPattern n) fault holds asked refused =
    not_stopped laws content w.format jobs qs n Pattern fault asked
    (subst (λ (js : List JobText). StopsAt content w.format js n Pattern fault) (one_list (content w.list) refused.0 jobs refused.1 holds) refused.2)
batch_not_refused laws w content jobs qs (JobTarget n) fault holds asked refused =
    not_stopped laws content w.format jobs qs n Target fault asked
    (subst (λ (js : List JobText). StopsAt content w.format js n Target fault) (one_list (content w.list) refused.0 jobs refused.1 holds) refused.2)
batch_not_refused laws w content jobs qs Pattern fault holds asked refused = refused.2
batch_not_refused laws w content jobs qs Less fault holds asked refused = refused.2
batch_not_refused laws w content jobs qs Target fault holds asked refused = refused.2
batch_not_refused laws w content jobs qs Mapping fault holds asked refused = refused.2
batch_not_refused laws w content jobs qs Encoding fault holds asked refused = refused.2
batch_not_refused laws w content jobs qs Log fault holds asked refused = refused.2

-- A budget that is enough for each problem leaves none undecided.
pub enough_decides : (budget : ℕ) (qs : List Problem) (vs : List JobVerdict) (accounts : List Account) → AreRight budget qs vs accounts → All (IsEnough budget) qs → are_decided vs ≡ true
enough_decides budget [] [] accounts right most = refl
enough_decides budget [] (v ∷ vs) accounts right most = absurd right
enough_decides budget (q ∷ qs) [] accounts right most = absurd right
enough_decides budget (q ∷ qs) (Yes m ∷ vs) accounts right most = enough_decides budget qs vs accounts right.1 (All-tail (IsEnough budget) q qs most)
enough_decides budget (q ∷ qs) (Nothing ∷ vs) accounts right most = enough_decides budget qs vs accounts right.1 (All-tail (IsEnough budget) q qs most)
enough_decides budget (q ∷ qs) (Unknown ∷ vs) accounts right most =
    let here : enough (size q.pattern) (size q.target) ≤ budget = All-head (IsEnough budget) q qs most in
    let less : budget < enough (size q.pattern) (size q.target) = right.3.not_enough in
    absurd (omega arith)

-- What a verdict says of its problem, but for an account.
abbrev pub IsOfProblem : JobVerdict → Problem → Type 0
IsOfProblem (Yes m) q = Embeds q m.items
IsOfProblem Nothing q = HasNone q
IsOfProblem Unknown q = Unit {0}

first_right : (budget : ℕ) (q : Problem) (v : JobVerdict) (qs : List Problem) (vs : List JobVerdict) (accounts : List Account) → AreRight budget (q ∷ qs) (v ∷ vs) accounts → IsOfProblem v q
first_right budget q (Yes m) qs vs accounts right = right.0
first_right budget q Nothing qs vs accounts right = right.0
first_right budget q Unknown qs vs accounts right = tt

later_right : (budget : ℕ) (q : Problem) (v : JobVerdict) (qs : List Problem) (vs : List JobVerdict) (accounts : List Account) → AreRight budget (q ∷ qs) (v ∷ vs) accounts
    → (rest : List Account) × AreRight budget qs vs rest
later_right budget q (Yes m) qs vs accounts right = (accounts, right.1)
later_right budget q Nothing qs vs accounts right = (accounts, right.1)
later_right budget q Unknown qs vs accounts right = (right.1, right.4)

pub right_at : (budget : ℕ) (qs : List Problem) (vs : List JobVerdict) (accounts : List Account) (i : ℕ) (q : Problem) (v : JobVerdict)
    → AreRight budget qs vs accounts → slice_get qs i ≡ Some q → slice_get vs i ≡ Some v → IsOfProblem v q
right_at budget [] [] accounts i q v right at_q at_v = let no : None ≡ Some q = at_q in cc
right_at budget [] (x ∷ vs) accounts i q v right at_q at_v = absurd right
right_at budget (p ∷ qs) [] accounts i q v right at_q at_v = absurd right
right_at budget (p ∷ qs) (x ∷ vs) accounts zero q v right at_q at_v =
    let one : p ≡ q = cc in
    let two : x ≡ v = cc in
    subst (λ (r : Problem). IsOfProblem v r) one (subst (λ (y : JobVerdict). IsOfProblem y p) two (first_right budget p x qs vs accounts right))
right_at budget (p ∷ qs) (x ∷ vs) accounts (suc i) q v right at_q at_v =
    let more = later_right budget p x qs vs accounts right in
    right_at budget qs vs more.0 i q v more.1 at_q at_v
