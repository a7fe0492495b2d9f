-- A log is accepted or refused exactly as its verdict says.
use Rattle.std.proofs.Common.{◌≡◌, ◌≢◌, ℕ, ◌+◌, Bool, true, false, cond, ◌==◌, List, [], ◌∷◌, ◌++◌, length, Result, Ok, Err, refl, sym, ap, ◌∙◌, subst, arith, inl, inr, ◌⊎◌}
use Rattle.std.proofs.lemmas.Bool.{ne_eqb, eqb-true, eqb-false}
use Rattle.std.proofs.lemmas.List.{append_assoc, append-nil}
use Rattle.log_theory.specs.declared.step.Cause.{Cause}
use Rattle.log_theory.specs.declared.step.Cause.TheVariants.{EndsEarly, Form as Malformed}
use Rattle.log_theory.specs.declared.step.Verdict.{Verdict}
use Rattle.log_theory.specs.declared.step.Verdict.TheVariants.{Refused}
use Rattle.proof_theory.specs.Forms.{Form}
use Rattle.log_theory.specs.Words.{pieces, into_first}
use Rattle.log_theory.specs.Verdicts.{Stage, Opening, Progress, Goes, Ends, line_progress, at_end, go_on, when_ended, verdict_from, verdict_of, IsClaim}
use Rattle.log_theory.proofs.LogVerdicts.{ProgressHolds, line_sound}
use Rattle.log_theory.specs.Acceptance.{NoFeed, AreLines, lines_text, Runs, Accepts, HasFault, Refuses}

abbrev feeds : ℕ → Bool
feeds b = b == 10

-- A line stands before its LF.
pieces_line : (l rest : List ℕ) → NoFeed l → pieces feeds (l ++ 10 ∷ rest) ≡ l ∷ pieces feeds rest
pieces_line [] rest h = refl
pieces_line (b ∷ bs) rest h =
    ap (λ (x : Bool). cond x ([] ∷ pieces feeds (bs ++ 10 ∷ rest)) (into_first b (pieces feeds (bs ++ 10 ∷ rest)))) (ne_eqb b 10 h.0)
    ∙ ap (into_first b) (pieces_line bs rest h.1)

pieces_rest : (l : List ℕ) → NoFeed l → pieces feeds l ≡ l ∷ []
pieces_rest [] h = refl
pieces_rest (b ∷ bs) h =
    ap (λ (x : Bool). cond x ([] ∷ pieces feeds bs) (into_first b (pieces feeds bs))) (ne_eqb b 10 h.0)
    ∙ ap (into_first b) (pieces_rest bs h.1)

pieces_some : (bs : List ℕ) → (p : List ℕ) × ((ps : List (List ℕ)) × (pieces feeds bs ≡ p ∷ ps))
pieces_some [] = ([], ([], refl))
pieces_some (b ∷ bs) = by-test (b == 10) (pieces feeds bs)
  where
    by-test : (x : Bool) (ps : List (List ℕ)) → (q : List ℕ) × ((qs : List (List ℕ)) × (cond x ([] ∷ ps) (into_first b ps) ≡ q ∷ qs))
    by-test true ps = ([], (ps, refl))
    by-test false [] = (b ∷ [], ([], refl))
    by-test false (p ∷ ps) = (b ∷ p, (ps, refl))

-- The verdict of a text from where a log stands, its next line being k.
abbrev verdict_at : ℕ → List Form → Progress → ℕ → List ℕ → Verdict
verdict_at n model (Goes stage) k text = verdict_from n model stage k (pieces feeds text)
verdict_at n model (Ends v) k text = at_end k v (pieces feeds text)

-- One line more.
line_verdict : (n : ℕ) (model : List Form) (stage : Stage) (k : ℕ) (l rest : List ℕ) → NoFeed l → verdict_from n model stage k (pieces feeds (l ++ 10 ∷ rest)) ≡ go_on k (pieces feeds rest) (line_progress n model stage l) (λ next. verdict_from n model next (k + 1) (pieces feeds rest))
line_verdict n model stage k l rest h =
    let p = pieces_some rest in
    ap (verdict_from n model stage k) (pieces_line l rest h)
    ∙ ended (pieces feeds rest) p.0 p.1.0 p.1.1
  where
    ended : (ps : List (List ℕ)) (q : List ℕ) (qs : List (List ℕ)) → ps ≡ q ∷ qs → when_ended k ps (line_progress n model stage l) (λ next. verdict_from n model next (k + 1) ps) ≡ go_on k ps (line_progress n model stage l) (λ next. verdict_from n model next (k + 1) ps)
    ended [] q qs e = absurd cc
    ended (p ∷ ps) q qs e = refl

-- A lawful line passes the verdict on.
next_verdict : (n : ℕ) (model : List Form) (stage : Stage) (k : ℕ) (l rest : List ℕ) (next : Progress) → NoFeed l → line_progress n model stage l ≡ Ok next → verdict_from n model stage k (pieces feeds (l ++ 10 ∷ rest)) ≡ verdict_at n model next (k + 1) rest
next_verdict n model stage k l rest next h e =
    line_verdict n model stage k l rest h
    ∙ ap (λ (r : Result Progress Cause). go_on k (pieces feeds rest) r (λ s. verdict_from n model s (k + 1) (pieces feeds rest))) e
    ∙ by-next next
  where
    by-next : (p : Progress) → go_on k (pieces feeds rest) (Ok p) (λ s. verdict_from n model s (k + 1) (pieces feeds rest)) ≡ verdict_at n model p (k + 1) rest
    by-next (Goes s) = refl
    by-next (Ends v) = refl

-- Lawful lines pass the verdict on.
run_verdict : (n : ℕ) (model : List Form) (lines : List (List ℕ)) (from to : Progress) (k : ℕ) (rest : List ℕ) → AreLines lines → Runs n model from lines to → verdict_at n model from k (lines_text lines ++ rest) ≡ verdict_at n model to (k + length lines) rest
run_verdict n model [] from to k rest h r = ap (λ (p : Progress). verdict_at n model p k rest) (sym r) ∙ ap (λ (i : ℕ). verdict_at n model to i rest) (omega arith)
run_verdict n model (l ∷ ls) (Ends v) to k rest h r = absurd r
run_verdict n model (l ∷ ls) (Goes stage) to k rest h r =
    ap (λ (t : List ℕ). verdict_from n model stage k (pieces feeds t)) (append_assoc (l ++ 10 ∷ []) (lines_text ls) rest ∙ append_assoc l (10 ∷ []) (lines_text ls ++ rest))
    ∙ next_verdict n model stage k l (lines_text ls ++ rest) r.0 h.0 r.1.0
    ∙ run_verdict n model ls r.0 to (k + 1) rest h.1 r.1.1
    ∙ ap (λ (i : ℕ). verdict_at n model to i rest) (omega arith)

-- An accepted log has its claim as its verdict.
pub accepts_verdict : (n : ℕ) (model : List Form) (log : List ℕ) (claim : Verdict) → Accepts n model log claim → verdict_of n model log ≡ claim
accepts_verdict n model log claim a =
    ap (verdict_of n model) (a.text ∙ sym (append-nil (lines_text a.lines)))
    ∙ run_verdict n model a.lines (Goes Opening) (Ends claim) 1 [] a.are_lines a.runs

text_behind : (k : ℕ) (v : Verdict) (bs : List ℕ) → bs ≢ [] → at_end k v (pieces feeds bs) ≡ Refused k Malformed
text_behind k v [] h = absurd (h refl)
text_behind k v (b ∷ bs) h = let p = pieces_some bs in by-test (b == 10) (pieces feeds bs) p.0 p.1.0 p.1.1
  where
    by-test : (x : Bool) (ps : List (List ℕ)) (q : List ℕ) (qs : List (List ℕ)) → ps ≡ q ∷ qs → at_end k v (cond x ([] ∷ ps) (into_first b ps)) ≡ Refused k Malformed
    by-test x [] q qs e = absurd cc
    by-test true (p ∷ ps) q qs e = refl
    by-test false (p ∷ []) q qs e = refl
    by-test false (p ∷ r ∷ ps) q qs e = refl

fault_verdict : (n : ℕ) (model : List Form) (reached : Progress) (k : ℕ) (rest : List ℕ) (cause : Cause) → HasFault n model reached rest cause → verdict_at n model reached k rest ≡ Refused k cause
fault_verdict n model (Ends v) k rest cause h = text_behind k v rest h.0 ∙ ap (Refused k) (sym h.1)
fault_verdict n model (Goes stage) k rest cause (inl h) = ap (verdict_from n model stage k) (pieces_rest rest h.0) ∙ ap (Refused k) (sym h.1)
fault_verdict n model (Goes stage) k rest cause (inr (line, more, text, no_feed, e)) =
    ap (λ (t : List ℕ). verdict_from n model stage k (pieces feeds t)) text
    ∙ line_verdict n model stage k line more no_feed
    ∙ ap (λ (r : Result Progress Cause). go_on k (pieces feeds more) r (λ s. verdict_from n model s (k + 1) (pieces feeds more))) e

-- A refused log has its line and cause as its verdict.
pub refuses_verdict : (n : ℕ) (model : List Form) (log : List ℕ) (k : ℕ) (cause : Cause) → Refuses n model log k cause → verdict_of n model log ≡ Refused k cause
refuses_verdict n model log k cause r =
    ap (verdict_of n model) r.text
    ∙ run_verdict n model r.lines (Goes Opening) r.reached 1 r.rest r.are_lines r.runs
    ∙ fault_verdict n model r.reached (1 + length r.lines) r.rest cause r.fault
    ∙ ap (λ (i : ℕ). Refused i cause) (let e = r.number in omega arith)

-- A text from its pieces.
abbrev unpieced : List (List ℕ) → List ℕ
unpieced [] = []
unpieced (l ∷ []) = l
unpieced (l ∷ m ∷ ls) = l ++ 10 ∷ unpieced (m ∷ ls)

unpieced_front : (b : ℕ) (ps : List (List ℕ)) → unpieced (into_first b ps) ≡ b ∷ unpieced ps
unpieced_front b [] = refl
unpieced_front b (p ∷ []) = refl
unpieced_front b (p ∷ q ∷ ps) = refl

-- The pieces of a text are that text.
unpieced-pieces : (bs : List ℕ) → unpieced (pieces feeds bs) ≡ bs
unpieced-pieces [] = refl
unpieced-pieces (b ∷ bs) = let p = pieces_some bs in by-test (b == 10) refl (pieces feeds bs) p.0 p.1.0 p.1.1 (unpieced-pieces bs)
  where
    by-test : (x : Bool) → (b == 10) ≡ x → (ps : List (List ℕ)) (q : List ℕ) (qs : List (List ℕ)) → ps ≡ q ∷ qs → unpieced ps ≡ bs → unpieced (cond x ([] ∷ ps) (into_first b ps)) ≡ b ∷ bs
    by-test x t [] q qs e h = absurd cc
    by-test true t (p ∷ ps) q qs e h = ap (λ (r : List ℕ). 10 ∷ r) h ∙ ap (λ (c : ℕ). c ∷ bs) (sym (eqb-true b 10 t))
    by-test false t (p ∷ ps) q qs e h = unpieced_front b (p ∷ ps) ∙ ap (λ (r : List ℕ). b ∷ r) h

pieces_lines : (bs : List ℕ) → AreLines (pieces feeds bs)
pieces_lines [] = (tt, tt)
pieces_lines (b ∷ bs) = by-test (b == 10) refl (pieces feeds bs) (pieces_lines bs)
  where
    by-test : (x : Bool) → (b == 10) ≡ x → (ps : List (List ℕ)) → AreLines ps → AreLines (cond x ([] ∷ ps) (into_first b ps))
    by-test true t ps h = (tt, h)
    by-test false t [] h = ((eqb-false b 10 t, tt), tt)
    by-test false t (p ∷ ps) h = ((eqb-false b 10 t, h.0), h.1)

-- The claim is reached and nothing is left.
abbrev Claimed : Progress → List ℕ → Type 0
Claimed (Ends v) rest = rest ≡ []
Claimed (Goes stage) rest = ⊥

-- How a text goes on from where a log stands.
record Outcome (n : ℕ) (model : List Form) (from : Progress) (text : List ℕ) : Type 0 where
  lines : List (List ℕ)
  rest : List ℕ
  reached : Progress
  are_lines : AreLines lines
  parts : text ≡ lines_text lines ++ rest
  runs : Runs n model from lines reached
  answer : Claimed reached rest ⊎ ((cause : Cause) × HasFault n model reached rest cause)

ended_outcome : (n : ℕ) (model : List Form) (v : Verdict) (text : List ℕ) → Outcome n model (Ends v) text
ended_outcome n model v text = record { lines = []; rest = text; reached = Ends v; are_lines = tt; parts = refl; runs = refl; answer = by-text text }
  where
    by-text : (t : List ℕ) → (t ≡ []) ⊎ ((cause : Cause) × ((t ≢ []) × (cause ≡ Malformed)))
    by-text [] = inl refl
    by-text (b ∷ bs) = inr (Malformed, ((λ e. cc), refl))

outcome : (n : ℕ) (model : List Form) (from : Progress) (ls : List (List ℕ)) → ls ≢ [] → AreLines ls → Outcome n model from (unpieced ls)
outcome n model from [] h a = absurd (h refl)
outcome n model (Ends v) (l ∷ []) h a = ended_outcome n model v l
outcome n model (Ends v) (l ∷ m ∷ ls) h a = ended_outcome n model v (l ++ 10 ∷ unpieced (m ∷ ls))
outcome n model (Goes stage) (l ∷ []) h a = record { lines = []; rest = l; reached = Goes stage; are_lines = tt; parts = refl; runs = refl; answer = inr (EndsEarly, inl (a.0, refl)) }
outcome n model (Goes stage) (l ∷ m ∷ ls) h a = by-progress (λ next. outcome n model next (m ∷ ls) (λ e. cc) a.1) (line_progress n model stage l) refl
  where
    whole : List ℕ
    whole = l ++ 10 ∷ unpieced (m ∷ ls)

    by-progress : ((next : Progress) → Outcome n model next (unpieced (m ∷ ls))) → (r : Result Progress Cause) → line_progress n model stage l ≡ r → Outcome n model (Goes stage) (l ++ 10 ∷ unpieced (m ∷ ls))
    by-progress more (Err cause) e = record { lines = []; rest = l ++ 10 ∷ unpieced (m ∷ ls); reached = Goes stage; are_lines = tt; parts = refl; runs = refl; answer = inr (cause, inr (l, unpieced (m ∷ ls), refl, a.0, e)) }
    by-progress more (Ok next) e =
        let o = more next in
        record {
          lines = l ∷ o.lines;
          rest = o.rest;
          reached = o.reached;
          are_lines = (a.0, o.are_lines);
          parts = ap (λ (t : List ℕ). l ++ 10 ∷ t) o.parts ∙ sym (append_assoc l (10 ∷ []) (lines_text o.lines ++ o.rest)) ∙ sym (append_assoc (l ++ 10 ∷ []) (lines_text o.lines) o.rest);
          runs = (next, (e, o.runs));
          answer = o.answer;
        }

-- Lawful lines keep what is true.
runs_sound : (n : ℕ) (model : List Form) (lines : List (List ℕ)) (from to : Progress) → ProgressHolds n model from → Runs n model from lines to → ProgressHolds n model to
runs_sound n model [] from to h r = subst (λ (p : Progress). ProgressHolds n model p) (sym r) h
runs_sound n model (l ∷ ls) (Ends v) to h r = absurd r
runs_sound n model (l ∷ ls) (Goes stage) to h r = runs_sound n model ls r.0 to (line_sound n model stage l r.0 h r.1.0) r.1.1

log_outcome : (n : ℕ) (model : List Form) (log : List ℕ) → Outcome n model (Goes Opening) log
log_outcome n model log =
    let p = pieces_some log in
    subst (λ (t : List ℕ). Outcome n model (Goes Opening) t) (unpieced-pieces log) (outcome n model (Goes Opening) (pieces feeds log) (λ e. let f = p.1.1 in cc) (pieces_lines log))

-- A log that is not accepted is refused.
pub either_answer : (n : ℕ) (model : List Form) (log : List ℕ) → ((claim : Verdict) × Accepts n model log claim) ⊎ ((k : ℕ) × ((cause : Cause) × Refuses n model log k cause))
either_answer n model log = let o = log_outcome n model log in by-answer o.reached o.lines o.rest o.are_lines o.parts o.runs o.answer
  where
    by-answer : (reached : Progress) (lines : List (List ℕ)) (rest : List ℕ) → AreLines lines → log ≡ lines_text lines ++ rest → Runs n model (Goes Opening) lines reached → Claimed reached rest ⊎ ((cause : Cause) × HasFault n model reached rest cause) → ((claim : Verdict) × Accepts n model log claim) ⊎ ((k : ℕ) × ((cause : Cause) × Refuses n model log k cause))
    by-answer (Goes stage) lines rest a t r (inl c) = absurd c
    by-answer (Ends v) lines rest a t r (inl c) = inl (v, record { lines = lines; are_lines = a; text = t ∙ ap (λ (x : List ℕ). lines_text lines ++ x) c ∙ append-nil (lines_text lines); runs = r })
    by-answer reached lines rest a t r (inr f) = inr (length lines + 1, (f.0, record { lines = lines; rest = rest; reached = reached; are_lines = a; text = t; number = refl; runs = r; fault = f.1 }))

-- An accepted log's verdict is a claim that it is accepted with.
pub verdict_accepted : (n : ℕ) (model : List Form) (log : List ℕ) → IsClaim (verdict_of n model log) → Accepts n model log (verdict_of n model log)
verdict_accepted n model log c = by-answer (either_answer n model log)
  where
    by-answer : ((claim : Verdict) × Accepts n model log claim) ⊎ ((k : ℕ) × ((cause : Cause) × Refuses n model log k cause)) → Accepts n model log (verdict_of n model log)
    by-answer (inl a) = subst (λ (v : Verdict). Accepts n model log v) (sym (accepts_verdict n model log a.0 a.1)) a.1
    by-answer (inr r) = absurd (subst (λ (v : Verdict). IsClaim v) (refuses_verdict n model log r.0 r.1.0 r.1.1) c)

refusal_same : (n : ℕ) (model : List Form) (log : List ℕ) (k i : ℕ) (c d : Cause) → Refused k c ≡ Refused i d → Refuses n model log k c → Refuses n model log i d
refusal_same n model log k i c d e r =
    let f : k ≡ i = cc in
    let g : c ≡ d = cc in
    subst (λ (x : Cause). Refuses n model log i x) g (subst (λ (j : ℕ). Refuses n model log j c) f r)

-- A refused log's verdict is the line and cause that it is refused with.
pub verdict_refused : (n : ℕ) (model : List Form) (log : List ℕ) (k : ℕ) (cause : Cause) → verdict_of n model log ≡ Refused k cause → Refuses n model log k cause
verdict_refused n model log k cause e = by-answer (either_answer n model log)
  where
    by-answer : ((claim : Verdict) × Accepts n model log claim) ⊎ ((i : ℕ) × ((c : Cause) × Refuses n model log i c)) → Refuses n model log k cause
    by-answer (inl a) = absurd (subst (λ (v : Verdict). ProgressHolds n model (Ends v)) (sym (accepts_verdict n model log a.0 a.1) ∙ e) (runs_sound n model a.1.lines (Goes Opening) (Ends a.0) tt a.1.runs))
    by-answer (inr r) = refusal_same n model log r.0 k r.1.0 cause (sym (refuses_verdict n model log r.0 r.1.0 r.1.1) ∙ e) r.1.1
