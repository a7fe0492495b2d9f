-- A log that is cut at its LFs, and what each of its lines does to the verdict.
use Rattle.std.proofs.Common.{◌≡◌, ◌≢◌, ℕ, zero, suc, ◌+◌, ◌<◌, Bool, true, false, cond, ◌==◌, List, [], ◌∷◌, ◌++◌, length, get_or, take, drop, Some, Result, Ok, Err, refl, sym, ap, ◌∙◌, arith, subst, length-append, append_assoc}
use Rattle.std.proofs.lemmas.Bool.{ne_eqb}
use Rattle.proof_theory.specs.Forms.{Form}
use Rattle.log_theory.specs.declared.step.Cause.{Cause}
use Rattle.log_theory.specs.declared.step.Cause.TheVariants.{EndsEarly, Form as Malformed}
use Rattle.log_theory.specs.declared.step.Verdict.{Verdict}
use Rattle.log_theory.specs.declared.step.Verdict.TheVariants.{Unsatisfiable, Satisfiable, Undecided, Refused, NoMemory as Unanswered}
use Rattle.log_theory.specs.Words.{pieces, into_first}
use Rattle.log_theory.specs.Acceptance.{NoFeed}
use Rattle.log_theory.specs.Verdicts.{Stage, Progress, Goes, Ends, line_progress, verdict_from, when_ended, go_on, at_end}
use Rattle.std.specs.declared.alloc.AllocError.{AllocError}
use Rattle.std.specs.Prelude.{is_ok}
use Rattle.proof_checker.specs.declared.checker.Standing.{Standing}
use Rattle.proof_checker.specs.declared.checker.Standing.TheVariants.{Open, Claimed}
use Rattle.proof_checker.specs.Feeding.{Fed, verdict_on, verdict_with}
use Rattle.proof_checker.specs.Turns.{Answers, Checking, Splits, verdict_at}

-- ---- a text and its first LF

pub no_feed-append : (xs ys : List ℕ) → NoFeed xs → NoFeed ys → NoFeed (xs ++ ys)
no_feed-append [] ys h k = k
no_feed-append (x ∷ xs) ys h k = (h.0, no_feed-append xs ys h.1 k)

pub no_feed_in : (bs : List ℕ) → ((k : ℕ) → k < length bs → get_or bs k 0 ≢ 10) → NoFeed bs
no_feed_in [] f = tt
no_feed_in (b ∷ bs) f = (f 0 (omega arith), no_feed_in bs (λ k q. f (suc k) (omega arith)))

no_feed_before : (bs : List ℕ) (i : ℕ) → i < length bs → ((k : ℕ) → k < i → get_or bs k 0 ≢ 10) → NoFeed (take i bs)
no_feed_before [] i h f = absurd (omega arith)
no_feed_before (b ∷ bs) zero h f = tt
no_feed_before (b ∷ bs) (suc i) h f = (f 0 (omega arith), no_feed_before bs i (omega arith) (λ k q. f (suc k) (omega arith)))

parts_at : (bs : List ℕ) (i : ℕ) → i < length bs → get_or bs i 0 ≡ 10 → bs ≡ take i bs ++ 10 ∷ drop (suc i) bs
parts_at [] i h e = absurd (omega arith)
parts_at (b ∷ bs) zero h e = ap (λ (x : ℕ). x ∷ bs) e
parts_at (b ∷ bs) (suc i) h e = ap (λ (x : List ℕ). b ∷ x) (parts_at bs i (omega arith) e)

-- The cut at the first LF.
pub split_at : (bs : List ℕ) (i : ℕ) (front rest : List ℕ) → front ≡ take i bs → rest ≡ drop (i + 1) bs → i < length bs → get_or bs i 0 ≡ 10 → ((k : ℕ) → k < i → get_or bs k 0 ≢ 10) → Splits bs (Some (front, rest))
split_at bs i front rest a b h e f =
    let n : suc i ≡ i + 1 = omega arith in
    let d : drop (suc i) bs ≡ rest = ap (λ (m : ℕ). drop m bs) n ∙ sym b in (
      parts_at bs i h e ∙ ap (λ (x : List ℕ). take i bs ++ 10 ∷ x) d ∙ ap (λ (x : List ℕ). x ++ 10 ∷ rest) (sym a),
      subst NoFeed (sym a) (no_feed_before bs i h f),
    )

-- What stands behind the first line is shorter.
pub behind_shorter : (text line rest : List ℕ) → text ≡ line ++ 10 ∷ rest → length rest < length text
behind_shorter text line rest e = let l = ap (length {A = ℕ}) e in let m = length-append line (10 ∷ rest) in omega arith

-- A text within texts joined.
pub joined_within : (a b c d : List ℕ) → a ++ (b ++ (c ++ d)) ≡ (a ++ b) ++ (c ++ d)
joined_within a b c d = sym (append_assoc a b (c ++ d))

-- ---- the pieces of a text

pieces_line : (l rest : List ℕ) → NoFeed l → pieces (λ b. b == 10) (l ++ 10 ∷ rest) ≡ l ∷ pieces (λ b. b == 10) rest
pieces_line [] rest h = refl
pieces_line (b ∷ bs) rest h =
    ap (λ (x : Bool). cond x ([] ∷ pieces (λ b. b == 10) (bs ++ 10 ∷ rest)) (into_first b (pieces (λ b. b == 10) (bs ++ 10 ∷ rest)))) (ne_eqb b 10 h.0)
    ∙ ap (into_first b) (pieces_line bs rest h.1)

pieces_none : (bs : List ℕ) → NoFeed bs → pieces (λ b. b == 10) bs ≡ bs ∷ []
pieces_none [] h = refl
pieces_none (b ∷ bs) h =
    ap (λ (x : Bool). cond x ([] ∷ pieces (λ b. b == 10) bs) (into_first b (pieces (λ b. b == 10) bs))) (ne_eqb b 10 h.0)
    ∙ ap (into_first b) (pieces_none bs h.1)

-- A text has a piece.
some_piece : (bs : List ℕ) → (p : List ℕ) × (ps : List (List ℕ)) × (pieces (λ b. b == 10) bs ≡ p ∷ ps)
some_piece [] = ([], [], refl)
some_piece (b ∷ bs) = by (b == 10) (some_piece bs)
  where
    by : (x : Bool) → ((p : List ℕ) × (ps : List (List ℕ)) × (pieces (λ b. b == 10) bs ≡ p ∷ ps))
        → (p : List ℕ) × (ps : List (List ℕ)) × (cond x ([] ∷ pieces (λ b. b == 10) bs) (into_first b (pieces (λ b. b == 10) bs)) ≡ p ∷ ps)
    by true q = ([], pieces (λ b. b == 10) bs, refl)
    by false q = (b ∷ q.0, q.1, ap (into_first b) q.2)

-- ---- the verdict by the first line

ended : (k : ℕ) (ps : List (List ℕ)) (p : List ℕ) (qs : List (List ℕ)) (r : Result Progress Cause) (more : Stage → Verdict) → ps ≡ p ∷ qs → when_ended k ps r more ≡ go_on k ps r more
ended k ps p qs r more e = ap (λ (x : List (List ℕ)). when_ended k x r more) e ∙ ap (λ (x : List (List ℕ)). go_on k x r more) (sym e)

by_line : (c : Checking) (k : ℕ) (line rest : List ℕ) → NoFeed line
    → verdict_at c k (line ++ 10 ∷ rest) ≡ go_on k (pieces (λ b. b == 10) rest) (line_progress c.variables c.model c.stage line) (λ next. verdict_from c.variables c.model next (k + 1) (pieces (λ b. b == 10) rest))
by_line c k line rest h =
    let p = some_piece rest in
    ap (verdict_from c.variables c.model c.stage k) (pieces_line line rest h)
    ∙ ended k (pieces (λ b. b == 10) rest) p.0 p.1 (line_progress c.variables c.model c.stage line) (λ next. verdict_from c.variables c.model next (k + 1) (pieces (λ b. b == 10) rest)) p.2

by_progress : (c : Checking) (k : ℕ) (line rest : List ℕ) (r : Result Progress Cause) → NoFeed line → line_progress c.variables c.model c.stage line ≡ r
    → verdict_at c k (line ++ 10 ∷ rest) ≡ go_on k (pieces (λ b. b == 10) rest) r (λ next. verdict_from c.variables c.model next (k + 1) (pieces (λ b. b == 10) rest))
by_progress c k line rest r h e =
    by_line c k line rest h
    ∙ ap (λ (x : Result Progress Cause). go_on k (pieces (λ b. b == 10) rest) x (λ next. verdict_from c.variables c.model next (k + 1) (pieces (λ b. b == 10) rest))) e

-- A lawful line passes the verdict on.
pub goes_on : (c d : Checking) (k : ℕ) (line rest : List ℕ) → NoFeed line → d.variables ≡ c.variables → d.model ≡ c.model → line_progress c.variables c.model c.stage line ≡ Ok (Goes d.stage)
    → verdict_at d (k + 1) rest ≡ verdict_at c k (line ++ 10 ∷ rest)
goes_on c d k line rest h n m e =
    ap (λ (x : ℕ). verdict_from x d.model d.stage (k + 1) (pieces (λ b. b == 10) rest)) n
    ∙ ap (λ (x : List Form). verdict_from c.variables x d.stage (k + 1) (pieces (λ b. b == 10) rest)) m
    ∙ sym (by_progress c k line rest (Ok (Goes d.stage)) h e)

-- Behind a last line nothing may stand.
pub ends_with : (c : Checking) (v : Verdict) (k : ℕ) (line rest : List ℕ) → NoFeed line → line_progress c.variables c.model c.stage line ≡ Ok (Ends v)
    → at_end (k + 1) v (pieces (λ b. b == 10) rest) ≡ verdict_at c k (line ++ 10 ∷ rest)
ends_with c v k line rest h e = sym (by_progress c k line rest (Ok (Ends v)) h e)

-- A line that leads nowhere is refused, whatever follows.
pub refused_for : (c : Checking) (cause : Cause) (k : ℕ) (line rest : List ℕ) → NoFeed line → line_progress c.variables c.model c.stage line ≡ Err cause
    → Refused k cause ≡ verdict_at c k (line ++ 10 ∷ rest)
refused_for c cause k line rest h e = sym (by_progress c k line rest (Err cause) h e)

-- A text that ends within a line ends early.
pub ends_early : (c : Checking) (k : ℕ) (text : List ℕ) → NoFeed text → verdict_at c k text ≡ Refused k EndsEarly
ends_early c k text h = ap (verdict_from c.variables c.model c.stage k) (pieces_none text h)

-- Text behind a last line is a fault at its own line.
pub text_behind : (k : ℕ) (v : Verdict) (bs : List ℕ) → bs ≢ [] → at_end k v (pieces (λ b. b == 10) bs) ≡ Refused k Malformed
text_behind k v [] h = absurd (h refl)
text_behind k v (b ∷ bs) h = let p = some_piece bs in by (b == 10) (pieces (λ b. b == 10) bs) p.0 p.1 p.2
  where
    by : (x : Bool) (ps : List (List ℕ)) (q : List ℕ) (qs : List (List ℕ)) → ps ≡ q ∷ qs → at_end k v (cond x ([] ∷ ps) (into_first b ps)) ≡ Refused k Malformed
    by x [] q qs e = absurd cc
    by true (p ∷ ps) q qs e = refl
    by false (p ∷ []) q qs e = refl
    by false (p ∷ (r ∷ rs)) q qs e = refl

-- An answer that is the verdict.
pub answers : (a v : Verdict) → a ≡ v → Answers a v
answers Unsatisfiable v e = sym e
answers Satisfiable v e = sym e
answers Undecided v e = sym e
answers (Refused n c) v e = sym e
answers Unanswered v e = tt

-- ---- the line that has not ended

-- Text in front of a line end is some text.
pub some_behind : (text rest : List ℕ) → text ++ 10 ∷ rest ≢ []
some_behind [] rest e = cc
some_behind (b ∷ bs) rest e = cc

-- Some text and what follows it are some text.
pub some_text : (text rest : List ℕ) → text ≢ [] → text ++ rest ≢ []
some_text [] rest h e = h refl
some_text (b ∷ bs) rest h e = cc

-- What is kept of a line that goes on, also where there was no room.
pub extended : (r : Result (Unit {0}) AllocError) (old more new : List ℕ) → new ≡ cond (is_ok r) (old ++ more) old → NoFeed old → NoFeed more → NoFeed new
extended (Ok done) old more new e h k = subst NoFeed (sym e) (no_feed-append old more h k)
extended (Err f) old more new e h k = subst NoFeed (sym e) h

-- A line that has grown by its end.
pub grown_end : (next : Standing) (c d : Checking) (k : ℕ) (old end whole new : List ℕ) → whole ≡ old ++ end → new ≡ []
    → ((rest : List ℕ) → verdict_on next d (k + 1) [] rest ≡ verdict_at c k (whole ++ 10 ∷ rest))
    → (rest : List ℕ) → verdict_on next d (k + 1) new rest ≡ verdict_at c k (old ++ (end ++ 10 ∷ rest))
grown_end next c d k old end whole new e n s rest =
    ap (λ (t : List ℕ). verdict_on next d (k + 1) t rest) n
    ∙ s rest
    ∙ ap (verdict_at c k) (ap (λ (w : List ℕ). w ++ 10 ∷ rest) e ∙ append_assoc old end (10 ∷ rest))

-- A log that ends before its last line.
pub open_ends : (f : Fed) (dead : Bool) (s : Standing) (c : Checking) (k : ℕ) (tail : List ℕ) → s ≡ Open → NoFeed tail
    → (let g : Fed = record { is_dead = dead; standing = s; lines = c; number = k; tail = tail } in g) ≡ f → verdict_with f [] ≡ Refused k EndsEarly
open_ends f dead s c k tail e h v =
    ap (λ (g : Fed). verdict_with g []) (sym v) ∙ ap (λ (x : Standing). verdict_on x c k tail []) e ∙ ends_early c k (tail ++ []) (no_feed-append tail [] h tt)

-- Text behind a claim.
pub claim_behind : (f : Fed) (claim : Verdict) (dead : Bool) (s : Standing) (c : Checking) (k : ℕ) (tail text : List ℕ) → s ≡ Claimed claim
    → (let g : Fed = record { is_dead = dead; standing = s; lines = c; number = k; tail = tail } in g) ≡ f → text ≢ [] → Refused k Malformed ≡ verdict_with f text
claim_behind f claim dead s c k tail text e v h =
    sym (text_behind k claim text h) ∙ ap (λ (x : Standing). verdict_on x c k tail text) (sym e) ∙ ap (λ (g : Fed). verdict_with g text) v
