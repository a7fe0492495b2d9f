-- The lines of an accepted text as steps that lead to a claim.
use Rattle.std.proofs.Common.{◌≡◌, ℕ, true, ◌==◌, List, [], ◌∷◌, ◌++◌, length, Option, Some, Result, Ok, refl, sym, ap, ◌∙◌, subst}
use Rattle.std.proofs.lemmas.List.{append_assoc}
use Rattle.log_theory.specs.declared.profile.Profile.{Profile}
use Rattle.log_theory.specs.declared.step.Step.{Step}
use Rattle.log_theory.specs.declared.step.Step.TheVariants.{Head, Model, P, U, N, D, E, Y, Q}
use Rattle.log_theory.specs.declared.step.Cause.{Cause}
use Rattle.log_theory.specs.declared.step.Cause.TheVariants.{Form as Malformed, Twice, NoSuchName, NotFalse, NotSolution}
use Rattle.log_theory.specs.declared.step.Verdict.{Verdict}
use Rattle.proof_theory.specs.Forms.{Form}
use Rattle.proof_theory.specs.Rules.{is_contradiction}
use Rattle.log_theory.specs.Steps.{◌>>=◌, unless, or_fault}
use Rattle.log_theory.specs.Words.{pieces}
use Rattle.log_theory.specs.Profiles.{read_in, profile_of}
use Rattle.log_theory.specs.Lookups.{is_among, are_distinct}
use Rattle.log_theory.specs.Tables.{Table, empty_table, find, step_in}
use Rattle.log_theory.specs.Verdicts.{all_hold_at, in_range, step_variables, Stage, Opening, Counting, Proving, Progress, Goes, Ends, refuted_by, solved_by, progress_of, further_progress, line_progress}
use Rattle.log_theory.specs.Acceptance.{NoFeed, AreLines, lines_text, Runs, Accepts}
use Rattle.log_theory.proofs.LogSound.{bind_ok, unless_ok, or_fault_ok}
use Rattle.log_theory.proofs.Dropping.{Lacks, cut, pieces_glued}
use Rattle.trim_theory.specs.Trimming.{StepsIn}
use Rattle.trim_theory.specs.Logs.{AreRead, IsLogOf}
use Rattle.trim_theory.proofs.Writing.{AreInRange}

-- ---- a text has one list of lines

no_feed_lacks : (bs : List ℕ) → NoFeed bs → Lacks 10 bs
no_feed_lacks [] h = tt
no_feed_lacks (b ∷ bs) h = (h.0, no_feed_lacks bs h.1)

pub lines_cut : (lines : List (List ℕ)) → AreLines lines → pieces (cut 10) (lines_text lines) ≡ lines ++ [] ∷ []
lines_cut [] h = refl
lines_cut (l ∷ ls) h =
    ap (pieces (cut 10)) (append_assoc l (10 ∷ []) (lines_text ls))
    ∙ pieces_glued 10 l (lines_text ls) (no_feed_lacks l h.0)
    ∙ ap (λ (ps : List (List ℕ)). l ∷ ps) (lines_cut ls h.1)

-- All items but the last.
abbrev but_last : List (List ℕ) → List (List ℕ)
but_last [] = []
but_last (l ∷ []) = []
but_last (l ∷ m ∷ ls) = l ∷ but_last (m ∷ ls)

but_last-snoc : (ls : List (List ℕ)) (l : List ℕ) → but_last (ls ++ l ∷ []) ≡ ls
but_last-snoc [] l = refl
but_last-snoc (m ∷ []) l = refl
but_last-snoc (m ∷ k ∷ ls) l = ap (λ (xs : List (List ℕ)). m ∷ xs) (but_last-snoc (k ∷ ls) l)

pub lines_one : (ls ms : List (List ℕ)) → AreLines ls → AreLines ms → lines_text ls ≡ lines_text ms → ls ≡ ms
lines_one ls ms h k e =
    sym (but_last-snoc ls []) ∙ ap but_last (sym (lines_cut ls h) ∙ ap (pieces (cut 10)) e ∙ lines_cut ms k) ∙ but_last-snoc ms []

-- ---- steps

goes_same : (a b : Stage) → let x : Result Progress Cause = Ok (Goes a) in let y : Result Progress Cause = Ok (Goes b) in x ≡ y → b ≡ a
goes_same a b e = cc

progress_same : (p q : Progress) → let x : Result Progress Cause = Ok p in let y : Result Progress Cause = Ok q in x ≡ y → q ≡ p
progress_same p q e = cc

some_step : (s u : Step) → let x : Option Step = Some s in let y : Option Step = Some u in x ≡ y → s ≡ u
some_step s u e = cc

some_profile : (p q : Profile) → let x : Option Profile = Some p in let y : Option Profile = Some q in x ≡ y → p ≡ q
some_profile p q e = cc

-- A step that goes on makes a table.
table_goes : (profile : Profile) (r : Result Table Cause) (stage : Stage) → (r >>= λ u. Ok (Goes (Proving profile u))) ≡ Ok (Goes stage) → (m : Table) × (r ≡ Ok m) × (stage ≡ Proving profile m)
table_goes profile r stage e = let b = bind_ok r _ (Goes stage) e in (b.0, b.1.0, goes_same (Proving profile b.0) stage b.1.1)

refuted_ends : (o : Option Form) (stage : Stage) → refuted_by o ≡ Ok (Goes stage) → ⊥
refuted_ends o stage e =
    let b = bind_ok (or_fault o NoSuchName) _ (Goes stage) e in
    let d = bind_ok (unless (is_contradiction b.0) NotFalse) _ (Goes stage) b.1.1 in
    let f = d.1.1 in
    cc

solved_ends : (model : List Form) (ones : List ℕ) (stage : Stage) → solved_by model ones ≡ Ok (Goes stage) → ⊥
solved_ends model ones stage e =
    let b = bind_ok (unless (are_distinct ones) Twice) _ (Goes stage) e in
    let d = bind_ok (unless (all_hold_at (λ v. is_among v ones) model) NotSolution) _ (Goes stage) b.1.1 in
    let f = d.1.1 in
    cc

goes_on : (profile : Profile) (model : List Form) (t : Table) (s : Step) (stage : Stage) → progress_of model (Proving profile t) s ≡ Ok (Goes stage)
    → (m : Table) × (step_in profile model t s ≡ Ok m) × (stage ≡ Proving profile m)
goes_on profile model t (P name ops) stage e = table_goes profile (step_in profile model t (P name ops)) stage e
goes_on profile model t (U name lits refs) stage e = table_goes profile (step_in profile model t (U name lits refs)) stage e
goes_on profile model t (N row name) stage e = table_goes profile (step_in profile model t (N row name)) stage e
goes_on profile model t (D at) stage e = table_goes profile (step_in profile model t (D at)) stage e
goes_on profile model t Head stage e = table_goes profile (step_in profile model t Head) stage e
goes_on profile model t (Model m) stage e = table_goes profile (step_in profile model t (Model m)) stage e
goes_on profile model t (E at) stage e = absurd (refuted_ends (find model t at) stage e)
goes_on profile model t (Y ones) stage e = absurd (solved_ends model ones stage e)
goes_on profile model t Q stage e = absurd cc

-- What a line tells that is read as a step.
line_tells : (n : ℕ) (model : List Form) (profile : Profile) (stage : Stage) (line : List ℕ) (s : Step) (p : Progress) → read_in profile line ≡ Some s → further_progress n model profile stage line ≡ Ok p
    → (in_range n (step_variables s) ≡ true) × (progress_of model stage s ≡ Ok p)
line_tells n model profile stage line s p read e =
    let f : (unless (in_range n (step_variables s)) Malformed >>= λ _. progress_of model stage s) ≡ Ok p =
    sym (ap (λ (o : Option Step). or_fault o Malformed >>= λ x. unless (in_range n (step_variables x)) Malformed >>= λ _. progress_of model stage x) read) ∙ e in
    let d = bind_ok (unless (in_range n (step_variables s)) Malformed) _ p f in
    (unless_ok (in_range n (step_variables s)) Malformed d.0 d.1.0, d.1.1)

-- What lines that lead to a claim tell of their steps.
pub record Told (n : ℕ) (model : List Form) (profile : Profile) (t : Table) (steps : List Step) (last : Step) (claim : Verdict) : Type 0 where
  pub table : Table
  pub run : StepsIn profile model t steps table
  pub variables : AreInRange n steps
  pub last_variables : in_range n (step_variables last) ≡ true
  pub ends : progress_of model (Proving profile table) last ≡ Ok (Ends claim)

lines_tell : (n : ℕ) (model : List Form) (profile : Profile) (steps : List Step) (last : Step) (claim : Verdict) (lines : List (List ℕ)) (t : Table) → AreRead profile lines (steps ++ last ∷ [])
    → Runs n model (Goes (Proving profile t)) lines (Ends claim) → Told n model profile t steps last claim
lines_tell n model profile [] last claim [] t read run = absurd read
lines_tell n model profile [] last claim (l ∷ m ∷ ls) t read run = absurd read.1
lines_tell n model profile [] last claim (l ∷ []) t read run =
    let h = line_tells n model profile (Proving profile t) l last run.0 read.0 run.1.0 in
    record { table = t; run = refl; variables = tt; last_variables = h.0; ends = h.1 ∙ ap (λ (p : Progress). let r : Result Progress Cause = Ok p in r) (sym run.1.1) }
lines_tell n model profile (s ∷ ss) last claim [] t read run = absurd read
lines_tell n model profile (s ∷ ss) last claim (l ∷ ls) t read run =
    let h = line_tells n model profile (Proving profile t) l s run.0 read.0 run.1.0 in
    by ls read.1 (λ u more r. lines_tell n model profile ss last claim more u r) run.0 h.0 h.1 run.1.1
  where
    nothing : (xs : List Step) → AreRead profile [] (xs ++ last ∷ []) → ⊥
    nothing [] r = r
    nothing (x ∷ xs) r = r

    by : (more : List (List ℕ)) → AreRead profile more (ss ++ last ∷ [])
        → ((u : Table) (rest : List (List ℕ)) → AreRead profile rest (ss ++ last ∷ []) → Runs n model (Goes (Proving profile u)) rest (Ends claim) → Told n model profile u ss last claim)
        → (next : Progress) → in_range n (step_variables s) ≡ true → progress_of model (Proving profile t) s ≡ Ok next → Runs n model next more (Ends claim) → Told n model profile t (s ∷ ss) last claim
    by [] r ih (Ends v) range e runs = absurd (nothing ss r)
    by (m ∷ ms) r ih (Ends v) range e runs = absurd runs
    by more r ih (Goes stage) range e runs =
        let g = goes_on profile model t s stage e in
        let rest = ih g.0 more r (subst (λ (x : Stage). Runs n model (Goes x) more (Ends claim)) g.2 runs) in
        record { table = rest.table; run = (g.0, g.1, rest.run); variables = (range, rest.variables); last_variables = rest.last_variables; ends = rest.ends }

-- The second line leads to the empty table.
counts : (model : List Form) (profile : Profile) (s : Step) (p : Progress) → progress_of model (Counting profile) s ≡ Ok p → p ≡ Goes (Proving profile empty_table)
counts model profile (Model m) p e = let b = bind_ok (unless (m == length model) Malformed) _ p e in progress_same (Goes (Proving profile empty_table)) p b.1.1
counts model profile Head p e = absurd cc
counts model profile (P name ops) p e = absurd cc
counts model profile (U name lits refs) p e = absurd cc
counts model profile (N row name) p e = absurd cc
counts model profile (D at) p e = absurd cc
counts model profile (E at) p e = absurd cc
counts model profile (Y ones) p e = absurd cc
counts model profile Q p e = absurd cc

count_goes : (n : ℕ) (model : List Form) (profile : Profile) (line : List ℕ) (p : Progress) → further_progress n model profile (Counting profile) line ≡ Ok p → p ≡ Goes (Proving profile empty_table)
count_goes n model profile line p e =
    let b = bind_ok (or_fault (read_in profile line) Malformed) _ p e in
    let d = bind_ok (unless (in_range n (step_variables b.0)) Malformed) _ p b.1.1 in
    counts model profile b.0 p d.1.1

head_goes : (n : ℕ) (model : List Form) (profile : Profile) (line : List ℕ) (p : Progress) → profile_of line ≡ Some profile → line_progress n model Opening line ≡ Ok p → p ≡ Goes (Counting profile)
head_goes n model profile line p is e =
    let b = bind_ok (or_fault (profile_of line) Malformed) _ p e in
    let same : b.0 ≡ profile = some_profile b.0 profile (sym (or_fault_ok (profile_of line) Malformed b.0 b.1.0) ∙ is) in
    progress_same (Goes (Counting b.0)) p b.1.1 ∙ ap (λ (x : Profile). Goes (Counting x)) same

-- An accepted text's steps lead from the empty table to its claim.
pub steps_told : (n : ℕ) (model : List Form) (log : List ℕ) (claim : Verdict) (profile : Profile) (steps : List Step) (last : Step) → Accepts n model log claim → IsLogOf profile log steps last
    → Told n model profile empty_table steps last claim
steps_told n model log claim profile steps last a l =
    let same : a.lines ≡ l.head ∷ l.count ∷ l.rest = lines_one a.lines (l.head ∷ l.count ∷ l.rest) a.are_lines l.are_lines (sym a.text ∙ l.text_is) in
    let run = subst (λ (ls : List (List ℕ)). Runs n model (Goes Opening) ls (Ends claim)) same a.runs in
    let second = subst (λ (p : Progress). Runs n model p (l.count ∷ l.rest) (Ends claim)) (head_goes n model profile l.head run.0 l.profile_is run.1.0) run.1.1 in
    let rest = subst (λ (p : Progress). Runs n model p l.rest (Ends claim)) (count_goes n model profile l.count second.0 second.1.0) second.1.1 in
    lines_tell n model profile steps last claim l.rest empty_table l.read rest
