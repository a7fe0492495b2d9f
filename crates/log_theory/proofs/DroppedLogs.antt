-- A log that is accepted with its hints is accepted without them: the whole log.
use Rattle.std.proofs.Common.{◌≡◌, ◌≢◌, ℕ, zero, suc, ◌≤◌, Bool, true, false, cond, ◌==◌, List, [], ◌∷◌, ◌++◌, length, map, get_or, slice_get, Option, Some, None, Result, Ok, refl, sym, ap, ◌∙◌, subst, arith, inl, inr, ◌⊎◌}
use Rattle.std.specs.List.{flat_map}
use Rattle.std.proofs.lemmas.List.{append_assoc}
use Rattle.proof_theory.specs.declared.literal.Literal.{Literal}
use Rattle.log_theory.specs.declared.profile.Profile.{Profile}
use Rattle.log_theory.specs.declared.profile.Profile.TheVariants.{Hinted, Plain}
use Rattle.log_theory.specs.declared.step.Name.{Name}
use Rattle.log_theory.specs.declared.step.Ref.{Ref}
use Rattle.log_theory.specs.declared.step.Ref.TheVariants.{Line, Made, Shared}
use Rattle.log_theory.specs.declared.step.Step.{Step}
use Rattle.log_theory.specs.declared.step.Step.TheVariants.{Head, Model, P, U, N, D, E, Y, Q}
use Rattle.log_theory.specs.declared.step.Cause.{Cause}
use Rattle.log_theory.specs.declared.step.Cause.TheVariants.{Form as Malformed, Twice, NoConflict}
use Rattle.log_theory.specs.declared.step.Verdict.{Verdict}
use Rattle.log_theory.specs.declared.step.Verdict.TheVariants.{Unsatisfiable, Satisfiable, Undecided}
use Rattle.proof_theory.specs.Forms.{Form}
use Rattle.proof_theory.specs.Rules.{is_contradiction}
use Rattle.proof_theory.specs.Slack.{refutes, negations, clause_form}
use Rattle.proof_theory.specs.Propagation.{IsAmong, closes}
use Rattle.log_theory.specs.Steps.{◌>>=◌, unless, or_fault}
use Rattle.log_theory.specs.Words.{pieces}
use Rattle.log_theory.specs.LogText.{read_line}
use Rattle.log_theory.specs.Lookups.{find_all, is_among, are_distinct, variables_of, makes, closed_clause}
use Rattle.log_theory.specs.Tables.{Table, empty_table, made_by, from_one, standing, shared_at, find, fresh_name, with_made, step_of, somes, all_forms, step_in}
use Rattle.log_theory.specs.Profiles.{plain, head_of, profile_of, profile_in, log_profile, dropped_line, dropped_lines, with_feeds, dropped_log}
use Rattle.log_theory.specs.Verdicts.{all_hold_at, in_range, step_variables, Stage, Opening, Counting, Proving, Progress, Goes, Ends, refuted_by, solved_by, progress_of, further_progress, line_progress}
use Rattle.log_theory.specs.Acceptance.{NoFeed, AreLines, lines_text, Runs, Accepts}
use Rattle.proof_theory.proofs.Propagation.{refuted_closes, closes_there}
use Rattle.log_theory.proofs.Splitting.{AllBetween, AllBetween-tested}
use Rattle.log_theory.proofs.LogSound.{bind_ok, unless_ok, or_fault_ok}
use Rattle.log_theory.proofs.Dropping.{Lacks, cut, pieces_glued, line_dropped, dropped_line_lacks}

-- ---- what a reference names is among all forms

pub left_among : (f : Form) (fs gs : List Form) → IsAmong f fs → IsAmong f (fs ++ gs)
left_among f [] gs i = absurd i
left_among f (x ∷ xs) gs (inl e) = inl e
left_among f (x ∷ xs) gs (inr i) = inr (left_among f xs gs i)

pub right_among : (f : Form) (fs gs : List Form) → IsAmong f gs → IsAmong f (fs ++ gs)
right_among f [] gs i = i
right_among f (x ∷ xs) gs i = inr (right_among f xs gs i)

got_among : (fs : List Form) (k : ℕ) (f : Form) → slice_get fs k ≡ Some f → IsAmong f fs
got_among [] k f e = absurd cc
got_among (g ∷ gs) zero f e = inl cc
got_among (g ∷ gs) (suc k) f e = inr (got_among gs k f e)

counted_among : (fs : List Form) (k : ℕ) (f : Form) → from_one fs k ≡ Some f → IsAmong f fs
counted_among fs zero f e = absurd cc
counted_among fs (suc k) f e = got_among fs k f e

-- The forms that stand in places are those of the first and those of the others.
pub somes-append : (os ps : List (Option Form)) → somes (os ++ ps) ≡ somes os ++ somes ps
somes-append [] ps = refl
somes-append (None ∷ os) ps = somes-append os ps
somes-append (Some f ∷ os) ps = ap (λ (fs : List Form). f ∷ fs) (somes-append os ps)

-- One more place, if a form stands in it.
pub some_among : (o : Option Form) (os : List (Option Form)) (f : Form) → o ≡ Some f → IsAmong f (somes (o ∷ os))
some_among None os f e = absurd cc
some_among (Some g) os f e = inl cc

pub behind_among : (o : Option Form) (os : List (Option Form)) (f : Form) → IsAmong f (somes os) → IsAmong f (somes (o ∷ os))
behind_among None os f i = i
behind_among (Some g) os f i = inr i

-- The form of a place is among those that stand.
pub place_among : (os : List (Option Form)) (k : ℕ) (f : Form) → standing (from_one os k) ≡ Some f → IsAmong f (somes os)
place_among os zero f e = absurd cc
place_among [] (suc k) f e = absurd cc
place_among (o ∷ os) (suc zero) f e = some_among o os f e
place_among (o ∷ os) (suc (suc k)) f e = behind_among o os f (place_among os (suc k) f e)

pub list_among : (lists : List (List (Option Form))) (owner : ℕ) (f : Form) → IsAmong f (somes (get_or lists owner [])) → IsAmong f (somes (flat_map (λ fs. fs) lists))
list_among [] owner f i = absurd i
list_among (fs ∷ lists) zero f i =
    subst (λ (gs : List Form). IsAmong f gs) (sym (somes-append fs (flat_map (λ gs. gs) lists))) (left_among f (somes fs) (somes (flat_map (λ gs. gs) lists)) i)
list_among (fs ∷ lists) (suc owner) f i =
    subst (λ (gs : List Form). IsAmong f gs) (sym (somes-append fs (flat_map (λ gs. gs) lists))) (right_among f (somes fs) (somes (flat_map (λ gs. gs) lists)) (list_among lists owner f i))

row_among : (ss : List (ℕ × Option Form)) (row : ℕ) (f : Form) → shared_at ss row ≡ Some f → IsAmong f (somes (map (λ s. s.1) ss))
row_among [] row f e = absurd cc
row_among (s ∷ ss) row f e = by-row (row_among ss row f) (s.0 == row) e
  where
    by-row : (shared_at ss row ≡ Some f → IsAmong f (somes (map (λ x. x.1) ss))) → (b : Bool) → cond b s.1 (shared_at ss row) ≡ Some f → IsAmong f (somes (s.1 ∷ map (λ x. x.1) ss))
    by-row ih true g = some_among s.1 (map (λ x. x.1) ss) f g
    by-row ih false g = behind_among s.1 (map (λ x. x.1) ss) f (ih g)

pub found_among : (model : List Form) (t : Table) (r : Ref) (f : Form) → find model t r ≡ Some f → IsAmong f (all_forms model t)
found_among model t (Line k) f e = left_among f model _ (counted_among model k f e)
found_among model t (Made name) f e =
    right_among f model _ (left_among f (somes (flat_map (λ fs. fs) t.made)) _ (list_among t.made name.owner f (place_among (made_by t name.owner) name.number f e)))
found_among model t (Shared row) f e =
    right_among f model _ (right_among f (somes (flat_map (λ fs. fs) t.made)) _ (row_among t.shared row f e))

forms_same : (f g : List Form) → let x : Result (List Form) Cause = Ok f in let y : Result (List Form) Cause = Ok g in x ≡ y → f ≡ g
forms_same f g e = cc

some_form : (f g : Form) → let x : Option Form = Some f in let y : Option Form = Some g in x ≡ y → f ≡ g
some_form f g e = cc

all_among : (model : List Form) (t : Table) (rs : List Ref) (fs : List Form) → find_all (find model t) rs ≡ Ok fs → (f : Form) → IsAmong f fs → IsAmong f (all_forms model t)
all_among model t [] fs e f i = absurd (subst (λ (x : List Form). IsAmong f x) (sym (forms_same [] fs e)) i)
all_among model t (r ∷ rs) fs e f i =
    let b = bind_ok (or_fault (find model t r) _) _ fs e in
    let d = bind_ok (find_all (find model t) rs) _ fs b.1.1 in
    by-place b.0 d.0 (or_fault_ok (find model t r) _ b.0 b.1.0) (λ g k. all_among model t rs d.0 d.1.0 g k) (subst (λ (x : List Form). IsAmong f x) (sym (forms_same (b.0 ∷ d.0) fs d.1.1)) i)
  where
    by-place : (g : Form) (gs : List Form) → find model t r ≡ Some g → ((h : Form) → IsAmong h gs → IsAmong h (all_forms model t)) → (f ≡ g) ⊎ IsAmong f gs → IsAmong f (all_forms model t)
    by-place g gs found ih (inl k) = subst (λ (x : Form). IsAmong x (all_forms model t)) (sym k) (found_among model t r g found)
    by-place g gs found ih (inr k) = ih f k

-- ---- a step without its hints

-- What a `u` line makes by its hints, propagation over all forms makes without them.
clause_dropped : (model : List Form) (t : Table) (name : Name) (lits : List Literal) (refs : List Ref) (f : Form) → makes (find model t) (U name lits refs) ≡ Ok f → closed_clause (all_forms model t) lits ≡ Ok f
clause_dropped model t name lits refs f e =
    let b = bind_ok (unless (are_distinct (variables_of lits)) _) _ f e in
    let d = bind_ok (find_all (find model t) refs) _ f b.1.1 in
    let g = bind_ok (unless (refutes (negations lits) d.0) _) _ f d.1.1 in
    let c = closes_there (negations lits) (all_forms model t) (refuted_closes (negations lits) d.0 (all_forms model t) (all_among model t refs d.0 d.1.0) (unless_ok (refutes (negations lits) d.0) _ g.0 g.1.0)) in
    ap (λ (x : Bool). unless x Twice >>= λ _. unless (closes (negations lits) (all_forms model t)) NoConflict >>= λ _. Ok (clause_form lits)) (unless_ok (are_distinct (variables_of lits)) _ b.0 b.1.0)
    ∙ ap (λ (x : Bool). unless x NoConflict >>= λ _. Ok (clause_form lits)) c
    ∙ g.1.1

pub step_dropped : (model : List Form) (t u : Table) (s : Step) → step_of model t s ≡ Ok u → step_in Plain model t (plain s) ≡ Ok u
step_dropped model t u (U name lits refs) e =
    let b = bind_ok (fresh_name t name) _ u e in
    let d = bind_ok (makes (find model t) (U name lits refs)) _ u b.1.1 in
    ap (λ (x : Result ℕ Cause). x >>= λ _. closed_clause (all_forms model t) lits >>= λ f. Ok (with_made t name f)) b.1.0
    ∙ ap (λ (x : Result Form Cause). x >>= λ f. Ok (with_made t name f)) (clause_dropped model t name lits refs d.0 d.1.0)
    ∙ d.1.1
step_dropped model t u (P name ops) e = e
step_dropped model t u (N row name) e = e
step_dropped model t u (D at) e = e
step_dropped model t u Head e = absurd cc
step_dropped model t u (Model m) e = absurd cc
step_dropped model t u (E at) e = absurd cc
step_dropped model t u (Y ones) e = absurd cc
step_dropped model t u Q e = absurd cc

-- ---- a line without its hints

-- Where a log without hints stands.
abbrev plain_stage : Stage → Stage
plain_stage Opening = Opening
plain_stage (Counting profile) = Counting Plain
plain_stage (Proving profile t) = Proving Plain t

abbrev plain_progress : Progress → Progress
plain_progress (Goes stage) = Goes (plain_stage stage)
plain_progress (Ends v) = Ends v

-- A log with hints stands here, behind its first line.
abbrev IsHinted : Progress → Type 0
IsHinted (Goes Opening) = ⊥
IsHinted (Goes (Counting profile)) = profile ≡ Hinted
IsHinted (Goes (Proving profile t)) = profile ≡ Hinted
IsHinted (Ends v) = Unit {0}

-- The same is reached without hints.
record Dropped (r : Result Progress Cause) (p : Progress) : Type 0 where
  reached : r ≡ Ok (plain_progress p)
  hinted : IsHinted p

progress_same : (p q : Progress) → let x : Result Progress Cause = Ok p in let y : Result Progress Cause = Ok q in x ≡ y → p ≡ q
progress_same p q e = cc

ends_dropped : (r : Result Progress Cause) (v : Verdict) (p : Progress) → r ≡ Ok p → Ends v ≡ p → Dropped r p
ends_dropped r v p e i = subst (λ (q : Progress). Dropped r q) i (record { reached = e ∙ ap (λ (q : Progress). Ok q) (sym i); hinted = tt })

goes_dropped : (model : List Form) (t : Table) (s : Step) (p : Progress) → (step_of model t s >>= λ u. Ok (Goes (Proving Hinted u))) ≡ Ok p → Dropped (step_in Plain model t (plain s) >>= λ u. Ok (Goes (Proving Plain u))) p
goes_dropped model t s p e =
    let b = bind_ok (step_of model t s) _ p e in
    subst (λ (q : Progress). Dropped (step_in Plain model t (plain s) >>= λ u. Ok (Goes (Proving Plain u))) q) (progress_same (Goes (Proving Hinted b.0)) p b.1.1)
    (record { reached = ap (λ (x : Result Table Cause). x >>= λ u. Ok (Goes (Proving Plain u))) (step_dropped model t b.0 s b.1.0); hinted = refl })

refuted_ends : (o : Option Form) (p : Progress) → refuted_by o ≡ Ok p → Ends Unsatisfiable ≡ p
refuted_ends o p e =
    let b = bind_ok (or_fault o _) _ p e in
    let d = bind_ok (unless (is_contradiction b.0) _) _ p b.1.1 in
    progress_same (Ends Unsatisfiable) p d.1.1

solved_ends : (model : List Form) (ones : List ℕ) (p : Progress) → solved_by model ones ≡ Ok p → Ends Satisfiable ≡ p
solved_ends model ones p e =
    let b = bind_ok (unless (are_distinct ones) _) _ p e in
    let d = bind_ok (unless (all_hold_at (λ v. is_among v ones) model) _) _ p b.1.1 in
    progress_same (Ends Satisfiable) p d.1.1

proving_dropped : (model : List Form) (t : Table) (s : Step) (p : Progress) → progress_of model (Proving Hinted t) s ≡ Ok p → Dropped (progress_of model (Proving Plain t) (plain s)) p
proving_dropped model t (E at) p e = ends_dropped (refuted_by (find model t at)) Unsatisfiable p e (refuted_ends (find model t at) p e)
proving_dropped model t (Y ones) p e = ends_dropped (solved_by model ones) Satisfiable p e (solved_ends model ones p e)
proving_dropped model t Q p e = ends_dropped (Ok (Ends Undecided)) Undecided p e (progress_same (Ends Undecided) p e)
proving_dropped model t (P name ops) p e = goes_dropped model t (P name ops) p e
proving_dropped model t (U name lits refs) p e = goes_dropped model t (U name lits refs) p e
proving_dropped model t (N row name) p e = goes_dropped model t (N row name) p e
proving_dropped model t (D at) p e = goes_dropped model t (D at) p e
proving_dropped model t Head p e = absurd cc
proving_dropped model t (Model m) p e = absurd cc

counting_dropped : (model : List Form) (s : Step) (p : Progress) → progress_of model (Counting Hinted) s ≡ Ok p → Dropped (progress_of model (Counting Plain) (plain s)) p
counting_dropped model (Model m) p e =
    let b = bind_ok (unless (m == length model) _) _ p e in
    subst (λ (q : Progress). Dropped (progress_of model (Counting Plain) (Model m)) q) (progress_same (Goes (Proving Hinted empty_table)) p b.1.1)
    (record { reached = ap (λ (x : Bool). unless x Malformed >>= λ _. Ok (Goes (Proving Plain empty_table))) (unless_ok (m == length model) _ b.0 b.1.0); hinted = refl })
counting_dropped model Head p e = absurd cc
counting_dropped model (P name ops) p e = absurd cc
counting_dropped model (U name lits refs) p e = absurd cc
counting_dropped model (N row name) p e = absurd cc
counting_dropped model (D at) p e = absurd cc
counting_dropped model (E at) p e = absurd cc
counting_dropped model (Y ones) p e = absurd cc
counting_dropped model Q p e = absurd cc

same_variables : (s : Step) → step_variables (plain s) ≡ step_variables s
same_variables Head = refl
same_variables (Model m) = refl
same_variables (P name ops) = refl
same_variables (U name lits refs) = refl
same_variables (N row name) = refl
same_variables (D at) = refl
same_variables (E at) = refl
same_variables (Y ones) = refl
same_variables Q = refl

-- A further line, where its step leads on without hints, and no first line does.
further_dropped : (n : ℕ) (model : List Form) (from to : Stage) (line : List ℕ) (p : Progress)
    → ((s : Step) → progress_of model from s ≡ Ok p → Dropped (progress_of model to (plain s)) p) → (progress_of model from Head ≢ Ok p)
    → further_progress n model Hinted from line ≡ Ok p → Dropped (further_progress n model Plain to (dropped_line line)) p
further_dropped n model from to line p steps no_head e =
    let b = bind_ok (or_fault (read_line line) _) _ p e in
    let d = bind_ok (unless (in_range n (step_variables b.0)) _) _ p b.1.1 in
    let told = line_dropped line b.0 (or_fault_ok (read_line line) _ b.0 b.1.0) (λ h. no_head (subst (λ (s : Step). progress_of model from s ≡ Ok p) h d.1.1)) in
    let range = unless_ok (in_range n (step_variables b.0)) _ d.0 d.1.0 in
    let k = steps b.0 d.1.1 in
    record {
      reached =
          ap (λ (o : Option Step). or_fault o Malformed >>= λ s. unless (in_range n (step_variables s)) Malformed >>= λ _. progress_of model to s) told
          ∙ ap (λ (vs : List ℕ). unless (in_range n vs) Malformed >>= λ _. progress_of model to (plain b.0)) (same_variables b.0)
          ∙ ap (λ (x : Bool). unless x Malformed >>= λ _. progress_of model to (plain b.0)) range
          ∙ k.reached;
      hinted = k.hinted;
    }

progress_dropped : (n : ℕ) (model : List Form) (stage : Stage) (line : List ℕ) (p : Progress) → IsHinted (Goes stage) → line_progress n model stage line ≡ Ok p → Dropped (line_progress n model (plain_stage stage) (dropped_line line)) p
progress_dropped n model Opening line p h e = absurd h
progress_dropped n model (Counting Hinted) line p h e = further_dropped n model (Counting Hinted) (Counting Plain) line p (λ s g. counting_dropped model s p g) (λ g. cc) e
progress_dropped n model (Proving Hinted t) line p h e = further_dropped n model (Proving Hinted t) (Proving Plain t) line p (λ s g. proving_dropped model t s p g) (λ g. cc) e
progress_dropped n model (Counting Plain) line p h e = absurd cc
progress_dropped n model (Proving Plain t) line p h e = absurd cc

-- Lines that lead somewhere lead there without their references.
runs_dropped : (n : ℕ) (model : List Form) (from to : Progress) (lines : List (List ℕ)) → IsHinted from → Runs n model from lines to → Runs n model (plain_progress from) (map dropped_line lines) (plain_progress to)
runs_dropped n model from to [] h r = ap plain_progress r
runs_dropped n model (Ends v) to (l ∷ ls) h r = r
runs_dropped n model (Goes stage) to (l ∷ ls) h r =
    let k = progress_dropped n model stage l r.0 h r.1.0 in
    (plain_progress r.0, (k.reached, runs_dropped n model r.0 to ls k.hinted r.1.1))

-- ---- the whole log

no_feed_lacks : (bs : List ℕ) → NoFeed bs → Lacks 10 bs
no_feed_lacks [] h = tt
no_feed_lacks (b ∷ bs) h = (h.0, no_feed_lacks bs h.1)

lacks_no_feed : (bs : List ℕ) → Lacks 10 bs → NoFeed bs
lacks_no_feed [] h = tt
lacks_no_feed (b ∷ bs) h = (h.0, lacks_no_feed bs h.1)

lines_dropped : (lines : List (List ℕ)) → AreLines lines → AreLines (map dropped_line lines)
lines_dropped [] h = tt
lines_dropped (l ∷ ls) h = (lacks_no_feed (dropped_line l) (dropped_line_lacks 10 l (λ e. omega (arith, e)) (λ e. omega (arith, e)) (no_feed_lacks l h.0)), lines_dropped ls h.1)

no_feed_between : (bs : List ℕ) → AllBetween 32 126 bs → NoFeed bs
no_feed_between [] h = tt
no_feed_between (b ∷ bs) h = ((λ e. let low : 32 ≤ b = h.0 in omega (arith, low, e)), no_feed_between bs h.2)

lines_cut : (lines : List (List ℕ)) → AreLines lines → pieces (cut 10) (lines_text lines) ≡ lines ++ [] ∷ []
lines_cut [] h = refl
lines_cut (l ∷ ls) h =
    ap (pieces (cut 10)) (append_assoc l (10 ∷ []) (lines_text ls))
    ∙ pieces_glued 10 l (lines_text ls) (no_feed_lacks l h.0)
    ∙ ap (λ (ps : List (List ℕ)). l ∷ ps) (lines_cut ls h.1)

mapped : (ls : List (List ℕ)) → map dropped_line (ls ++ [] ∷ []) ≡ map dropped_line ls ++ [] ∷ []
mapped [] = refl
mapped (l ∷ ls) = ap (λ (ps : List (List ℕ)). dropped_line l ∷ ps) (mapped ls)

fed : (ls : List (List ℕ)) → flat_map (λ m. 10 ∷ m) (ls ++ [] ∷ []) ≡ 10 ∷ lines_text ls
fed [] = refl
fed (l ∷ ls) = ap (λ (bs : List ℕ). (10 ∷ l) ++ bs) (fed ls) ∙ ap (λ (bs : List ℕ). 10 ∷ bs) (sym (append_assoc l (10 ∷ []) (lines_text ls)))

-- Lines with their hints dropped, of which the first is the head, are the text with its hints dropped.
pub text_dropped : (l : List ℕ) (ls : List (List ℕ)) → AreLines (l ∷ ls) → dropped_log (lines_text (l ∷ ls)) ≡ lines_text (head_of Plain ∷ map dropped_line ls)
text_dropped l ls h =
    ap (λ (ps : List (List ℕ)). with_feeds (dropped_lines ps)) (lines_cut (l ∷ ls) h)
    ∙ ap (λ (ps : List (List ℕ)). with_feeds (head_of Plain ∷ ps)) (mapped ls)
    ∙ ap (λ (bs : List ℕ). head_of Plain ++ bs) (fed (map dropped_line ls))
    ∙ sym (append_assoc (head_of Plain) (10 ∷ []) (lines_text (map dropped_line ls)))

some_profile : (p q : Profile) → let x : Option Profile = Some p in let y : Option Profile = Some q in x ≡ y → p ≡ q
some_profile p q e = cc

-- A log with hints that is accepted is accepted with its hints dropped.
pub log_dropped : (n : ℕ) (model : List Form) (log : List ℕ) (claim : Verdict) → log_profile log ≡ Some Hinted → Accepts n model log claim → Accepts n model (dropped_log log) claim
log_dropped n model log claim e a = by-lines a.lines a.are_lines a.text a.runs
  where
    by-lines : (lines : List (List ℕ)) → AreLines lines → log ≡ lines_text lines → Runs n model (Goes Opening) lines (Ends claim) → Accepts n model (dropped_log log) claim
    by-lines [] h t r = absurd cc
    by-lines (l ∷ ls) h t r =
        let first : profile_of l ≡ Some Hinted = sym (ap profile_in (ap (pieces (cut 10)) t ∙ lines_cut (l ∷ ls) h)) ∙ e in
        let b = bind_ok (or_fault (profile_of l) _) _ r.0 r.1.0 in
        let told : b.0 ≡ Hinted = some_profile b.0 Hinted (sym (or_fault_ok (profile_of l) _ b.0 b.1.0) ∙ first) in
        let next : Goes (Counting Hinted) ≡ r.0 = ap (λ (p : Profile). Goes (Counting p)) (sym told) ∙ progress_same (Goes (Counting b.0)) r.0 b.1.1 in
        let rest = subst (λ (p : Progress). Runs n model p ls (Ends claim)) (sym next) r.1.1 in record {
          lines = head_of Plain ∷ map dropped_line ls;
          are_lines = (no_feed_between (head_of Plain) (AllBetween-tested 32 126 (head_of Plain) refl), lines_dropped ls h.1);
          text = ap dropped_log t ∙ text_dropped l ls h;
          runs = (Goes (Counting Plain), (refl, runs_dropped n model (Goes (Counting Hinted)) (Ends claim) ls refl rest));
        }
