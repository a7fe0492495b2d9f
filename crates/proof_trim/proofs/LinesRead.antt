-- The lines of a text, one after the other, as steps.
use Rattle.std.proofs.Common.{◌≡◌, ◌≢◌, ℕ, zero, suc, ◌+◌, ◌==◌, ◌<◌, ◌≤◌, Bool, true, false, cond, length, map, length-append, append-nil, get_or, take, drop, arith, List, [], ◌∷◌, ◌++◌, Option, Some, refl, sym, ap, ◌∙◌, subst}
use Rattle.std.specs.Prelude.{slice_get, nat_lt}
use Rattle.std.proofs.lemmas.Bool.{eqb-true, le-ltb, lt-ltb}
use Rattle.std.proofs.lemmas.Grind.{flat_map-append}
use Rattle.std.proofs.lemmas.List.Concat.{flat_map-cons}
use Rattle.std.proofs.Math.Seq.{drop-append_seam}
use Rattle.std.proofs.lemmas.List.{append_assoc}
use Rattle.log_theory.specs.declared.profile.Profile.{Profile}
use Rattle.log_theory.specs.declared.profile.Profile.TheVariants.{Hinted}
use Rattle.log_theory.specs.declared.step.Step.{Step}
use Rattle.log_theory.specs.declared.step.Step.TheVariants.{Head, Model, P, U, N, D, E, Y, Q}
use Rattle.log_theory.specs.Words.{line_text}
use Rattle.log_theory.specs.LogText.{IsStep, step_words}
use Rattle.log_theory.specs.Profiles.{read_in, IsStepIn}
use Rattle.log_theory.specs.Acceptance.{NoFeed, AreLines, lines_text}
use Rattle.journal_theory.specs.Stepping.{step_line, NoFeedLaw, LinesLaw}
use Rattle.trim_theory.specs.Logs.{AreRead, AreSteps}
use Rattle.trim_theory.specs.Marking.{made_lines}
use Rattle.trim_theory.proofs.Telling.{lines_one}
use Rattle.proof_trim.specs.declared.index.Index.{Index}
use Rattle.proof_trim.specs.Places.{IsIndexOf}
use Rattle.proof_trim.specs.Reading.{AreStepsIn, ReadsAs, IsReadLog, IsOpened}
use Rattle.proof_trim.specs.Texts.{steps_text}
use Rattle.proof_trim.specs.Lined.{IsLineAt, AreAt, IsScanned}
use Rattle.proof_trim.proofs.Indexing.{lines_on}

lines_more : (ls : List (List ℕ)) (l : List ℕ) → AreLines ls → NoFeed l → AreLines (ls ++ l ∷ [])
lines_more [] l h k = (k, tt)
lines_more (m ∷ ls) l h k = (h.0, lines_more ls l h.1 k)

text_more : (ls : List (List ℕ)) (l : List ℕ) → lines_text (ls ++ l ∷ []) ≡ lines_text ls ++ (l ++ 10 ∷ [])
text_more [] l = append-nil (l ++ 10 ∷ [])
text_more (m ∷ ls) l = ap (λ (t : List ℕ). (m ++ 10 ∷ []) ++ t) (text_more ls l) ∙ sym (append_assoc (m ++ 10 ∷ []) (lines_text ls) (l ++ 10 ∷ []))

read_more : (profile : Profile) (ls : List (List ℕ)) (l : List ℕ) (ss : List Step) (s : Step) → AreRead profile ls ss → read_in profile l ≡ Some s → AreRead profile (ls ++ l ∷ []) (ss ++ s ∷ [])
read_more profile [] l [] s h e = (e, tt)
read_more profile [] l (u ∷ ss) s h e = absurd h
read_more profile (m ∷ ls) l [] s h e = absurd h
read_more profile (m ∷ ls) l (u ∷ ss) s h e = (h.0, read_more profile ls l ss s h.1 e)

steps_more : (profile : Profile) (ss : List Step) (s : Step) → AreStepsIn profile ss → IsStepIn profile s → AreStepsIn profile (ss ++ s ∷ [])
steps_more profile [] s h k = (k, tt)
steps_more profile (u ∷ ss) s h k = (h.0, steps_more profile ss s h.1 k)

pub steps_parted : (profile : Profile) (ss : List Step) (s : Step) → AreStepsIn profile (ss ++ s ∷ []) → AreStepsIn profile ss × IsStep s
steps_parted profile [] s h = (tt, h.0.0)
steps_parted profile (u ∷ ss) s h = let r = steps_parted profile ss s h.1 in ((h.0, r.0), r.1)

pub reads_none : (profile : Profile) → ReadsAs profile [] []
reads_none profile = record { lines = []; are_lines = tt; text_is = refl; read = tt; in_range = tt }

-- A text of which a front part was read as steps.
pub record ReadTo (profile : Profile) (text left : List ℕ) (steps : List Step) : Type 0 where
  pub front : List ℕ
  pub text_is : text ≡ front ++ left
  pub reads : ReadsAs profile front steps

pub read_start : (profile : Profile) (text : List ℕ) → ReadTo profile text text []
read_start profile text = record { front = []; text_is = refl; reads = reads_none profile }

-- One more line.
pub read_line_more : (profile : Profile) (text left line behind : List ℕ) (steps : List Step) (s : Step) → left ≡ line ++ 10 ∷ behind → NoFeed line → read_in profile line ≡ Some s → IsStepIn profile s
    → ReadTo profile text left steps → ReadTo profile text behind (steps ++ s ∷ [])
read_line_more profile text left line behind steps s cut no_feed read fits to = record {
  front = to.front ++ (line ++ 10 ∷ []);
  text_is = to.text_is ∙ ap (λ (t : List ℕ). to.front ++ t) (cut ∙ sym (append_assoc line (10 ∷ []) behind)) ∙ sym (append_assoc to.front (line ++ 10 ∷ []) behind);
  reads = record {
    lines = to.reads.lines ++ line ∷ [];
    are_lines = lines_more to.reads.lines line to.reads.are_lines no_feed;
    text_is = ap (λ (t : List ℕ). t ++ (line ++ 10 ∷ [])) to.reads.text_is ∙ sym (text_more to.reads.lines line);
    read = read_more profile to.reads.lines line steps s to.reads.read read;
    in_range = steps_more profile steps s to.reads.in_range fits;
  };
}

pub read_all : (profile : Profile) (text left : List ℕ) (steps : List Step) → left ≡ [] → ReadTo profile text left steps → ReadsAs profile text steps
read_all profile text left steps none to = subst (λ (t : List ℕ). ReadsAs profile t steps) (sym (to.text_is ∙ ap (λ (t : List ℕ). to.front ++ t) none ∙ append-nil to.front)) to.reads

-- The steps behind two head lines are the log's, the last of them apart.
pub log_read : (profile : Profile) (text lines : List ℕ) (steps : List Step) (last : Step) → IsOpened profile text lines → ReadsAs profile lines (steps ++ last ∷ []) → IsReadLog profile text steps last
log_read profile text lines steps last opened reads =
    let range = steps_parted profile steps last reads.in_range in
    record {
      is_log = record {
        head = opened.head;
        count = opened.count;
        rest = reads.lines;
        are_lines = (opened.head_is, (opened.count_is, reads.are_lines));
        text_is =
            opened.text_is
            ∙ ap (λ (t : List ℕ). opened.head ++ 10 ∷ t) (sym (append_assoc opened.count (10 ∷ []) lines) ∙ ap (λ (t : List ℕ). (opened.count ++ 10 ∷ []) ++ t) reads.text_is)
            ∙ sym (append_assoc opened.head (10 ∷ []) ((opened.count ++ 10 ∷ []) ++ lines_text reads.lines));
        profile_is = opened.profile_is;
        read = reads.read;
      };
      in_range = range.0;
      last_in_range = range.1;
    }

-- ---- a text is read as one list of steps

some_step : (s u : Step) → let x : Option Step = Some s in let y : Option Step = Some u in x ≡ y → s ≡ u
some_step s u e = cc

read_one : (profile : Profile) (ls : List (List ℕ)) (ss us : List Step) → AreRead profile ls ss → AreRead profile ls us → ss ≡ us
read_one profile [] [] [] h k = refl
read_one profile [] [] (u ∷ us) h k = absurd k
read_one profile [] (s ∷ ss) us h k = absurd h
read_one profile (l ∷ ls) [] us h k = absurd h
read_one profile (l ∷ ls) (s ∷ ss) [] h k = absurd k
read_one profile (l ∷ ls) (s ∷ ss) (u ∷ us) h k = ap (λ (x : Step). x ∷ ss) (some_step s u (sym h.0 ∙ k.0)) ∙ ap (λ (xs : List Step). u ∷ xs) (read_one profile ls ss us h.1 k.1)

pub reads_one : (profile : Profile) (text : List ℕ) (ss us : List Step) → ReadsAs profile text ss → ReadsAs profile text us → ss ≡ us
reads_one profile text ss us h k =
    read_one profile h.lines ss us h.read (subst (λ (ls : List (List ℕ)). AreRead profile ls us) (lines_one k.lines h.lines k.are_lines h.are_lines (sym k.text_is ∙ h.text_is)) k.read)

-- All but the last, and the last one.
pub snoc_same : (xs ys : List Step) (x y : Step) → xs ++ x ∷ [] ≡ ys ++ y ∷ [] → (xs ≡ ys) × (x ≡ y)
snoc_same [] [] x y e = (refl, cc)
snoc_same [] (b ∷ []) x y e = absurd cc
snoc_same [] (b ∷ c ∷ ys) x y e = absurd cc
snoc_same (a ∷ []) [] x y e = absurd cc
snoc_same (a ∷ c ∷ xs) [] x y e = absurd cc
snoc_same (a ∷ xs) (b ∷ ys) x y e =
    let r = snoc_same xs ys x y (tails a b (xs ++ x ∷ []) (ys ++ y ∷ []) e) in
    (ap (λ (s : Step). s ∷ xs) (heads a b (xs ++ x ∷ []) (ys ++ y ∷ []) e) ∙ ap (λ (ss : List Step). b ∷ ss) r.0, r.1)
  where
    heads : (a b : Step) (xs ys : List Step) → a ∷ xs ≡ b ∷ ys → a ≡ b
    heads a b xs ys e = cc

    tails : (a b : Step) (xs ys : List Step) → a ∷ xs ≡ b ∷ ys → xs ≡ ys
    tails a b xs ys e = cc

-- There are no more steps than bytes.
pub reads_few : (profile : Profile) (text : List ℕ) (ss : List Step) → ReadsAs profile text ss → length ss ≤ length text
reads_few profile text ss h = let a = read_long h.lines ss h.read in let b = lines_long h.lines in let c = ap (λ (t : List ℕ). length t) h.text_is in omega (arith, a, b, c)
  where
    read_long : (ls : List (List ℕ)) (us : List Step) → AreRead profile ls us → length us ≡ length ls
    read_long [] [] k = refl
    read_long [] (u ∷ us) k = absurd k
    read_long (l ∷ ls) [] k = absurd k
    read_long (l ∷ ls) (u ∷ us) k = ap suc (read_long ls us k.1)

    lines_long : (ls : List (List ℕ)) → length ls ≤ length (lines_text ls)
    lines_long [] = omega arith
    lines_long (l ∷ ls) = let more = lines_long ls in let a = length-append (l ++ 10 ∷ []) (lines_text ls) in let b = length-append l (10 ∷ []) in omega (arith, more, a, b)

-- ---- what is written is read again

-- One line more.
pub text_snoc : (ss : List Step) (s : Step) → steps_text ss ++ line_text (step_words s) ≡ steps_text (ss ++ s ∷ [])
text_snoc ss s =
    ap (λ (t : List ℕ). steps_text ss ++ t) (sym (append-nil (line_text (step_words s))) ∙ sym (flat_map-cons (λ (u : Step). line_text (step_words u)) s []))
    ∙ sym (flat_map-append (λ (u : Step). line_text (step_words u)) ss (s ∷ []))

pub written_reads : ((s : Step) → IsStep s → read_in Hinted (step_line s) ≡ Some s) → NoFeedLaw → LinesLaw → (ss : List Step) (text : List ℕ) → AreSteps ss → text ≡ steps_text ss → ReadsAs Hinted text ss
written_reads read no_feed lines ss text fit is = record {
  lines = map step_line ss;
  are_lines = are ss fit;
  text_is = is ∙ sym (lines ss);
  read = told ss fit;
  in_range = range ss fit;
}
  where
    are : (us : List Step) → AreSteps us → AreLines (map step_line us)
    are [] h = tt
    are (u ∷ us) h = (no_feed u h.0, are us h.1)

    told : (us : List Step) → AreSteps us → AreRead Hinted (map step_line us) us
    told [] h = tt
    told (u ∷ us) h = (read u h.0, told us h.1)

    range : (us : List Step) → AreSteps us → AreStepsIn Hinted us
    range [] h = tt
    range (u ∷ us) h = ((h.0, refl), range us h.1)

-- ---- where lines stand

heads : (n m : ℕ) (xs ys : List ℕ) → n ∷ xs ≡ m ∷ ys → n ≡ m
heads n m xs ys e = cc

tails : (n m : ℕ) (xs ys : List ℕ) → n ∷ xs ≡ m ∷ ys → xs ≡ ys
tails n m xs ys e = cc

line_one : (a b x y : List ℕ) → NoFeed a → NoFeed b → a ++ 10 ∷ x ≡ b ++ 10 ∷ y → a ≡ b
line_one [] [] x y h k e = refl
line_one [] (c ∷ b) x y h k e = absurd (k.0 (sym (heads 10 c x (b ++ 10 ∷ y) e)))
line_one (c ∷ a) [] x y h k e = absurd (h.0 (heads c 10 (a ++ 10 ∷ x) y e))
line_one (c ∷ a) (d ∷ b) x y h k e = ap (λ (n : ℕ). n ∷ a) (heads c d (a ++ 10 ∷ x) (b ++ 10 ∷ y) e) ∙ ap (λ (ns : List ℕ). d ∷ ns) (line_one a b x y h.1 k.1 (tails c d (a ++ 10 ∷ x) (b ++ 10 ∷ y) e))

pub at_long : (text ps : List ℕ) (ss : List Step) → AreAt text ps ss → length ps ≡ length ss
at_long text [] [] h = refl
at_long text [] (s ∷ ss) h = absurd h
at_long text (p ∷ ps) [] h = absurd h
at_long text (p ∷ ps) (s ∷ ss) h = ap suc (at_long text ps ss h.1)

at_more : (text ps : List ℕ) (ss : List Step) (p : ℕ) (s : Step) → AreAt text ps ss → IsLineAt text p s → AreAt text (ps ++ p ∷ []) (ss ++ s ∷ [])
at_more text [] [] p s h k = (k, tt)
at_more text [] (u ∷ us) p s h k = absurd h
at_more text (q ∷ qs) [] p s h k = absurd h
at_more text (q ∷ qs) (u ∷ us) p s h k = (h.0, at_more text qs us p s h.1 k)

-- The line at one of them.
pub line_at : (text ps : List ℕ) (ss : List Step) (i : ℕ) → AreAt text ps ss → i < length ps → (s : Step) × (slice_get ss i ≡ Some s) × IsLineAt text (get_or ps i 0) s
line_at text [] ss i h l = absurd (omega (arith, l))
line_at text (p ∷ ps) [] i h l = absurd h
line_at text (p ∷ ps) (s ∷ ss) zero h l = (s, refl, h.0)
line_at text (p ∷ ps) (s ∷ ss) (suc i) h l = line_at text ps ss i h.1 (omega (arith, l))

-- The step that is read there.
pub step_there : (text ps line rest : List ℕ) (i place : ℕ) (s : Step) → i < length ps → place ≡ get_or ps i 0 → drop place text ≡ line ++ 10 ∷ rest → NoFeed line → read_in Hinted line ≡ Some s
    → (made : List Step) → AreAt text ps made → slice_get made i ≡ Some s
step_there text ps line rest i place s within is there no_feed read made at =
    let l = line_at text ps made i at within in
    let same : line ≡ l.2.line = line_one line l.2.line rest l.2.rest no_feed l.2.no_feed (sym there ∙ ap (λ (n : ℕ). drop n text) is ∙ l.2.there) in
    l.1 ∙ sym l.2.read ∙ ap (read_in Hinted) (sym same) ∙ read

pub nothing_left : (xs : List ℕ) (b : Bool) → b ≡ (length xs == 0) → b ≡ true → xs ≡ []
nothing_left [] b e t = refl
nothing_left (x ∷ xs) b e t = let l = eqb-true (length (x ∷ xs)) 0 (sym e ∙ t) in absurd (omega (arith, l))

-- ---- one pass over a log with hints

pub record ScannedTo (text left : List ℕ) (index : Index) (places : List ℕ) : Type 0 where
  pub steps : List Step
  pub to : ReadTo Hinted text left steps
  pub known : IsIndexOf index steps
  pub at : AreAt text places (made_lines steps)

pub scan_start : (text : List ℕ) (index : Index) (places : List ℕ) → places ≡ [] → IsIndexOf index [] → ScannedTo text text index places
scan_start text index places none known = record { steps = []; to = read_start Hinted text; known = known; at = subst (λ (ps : List ℕ). AreAt text ps []) (sym none) tt }

-- How many lines make a constraint so far.
pub scan_count : (text left : List ℕ) (index : Index) (places : List ℕ) → (to : ScannedTo text left index places) → length places ≡ length (made_lines to.steps)
scan_count text left index places to = at_long text places (made_lines to.steps) to.at

-- The place of what is left.
left_at : (front left text : List ℕ) (n : ℕ) → text ≡ front ++ left → n + length left ≡ length text → drop n text ≡ left
left_at front left text n is here = ap (drop n) is ∙ ap (λ (m : ℕ). drop m (front ++ left)) (let a = length-append front left in let b = ap (λ (t : List ℕ). length t) is in let e : n ≡ length front = omega (arith, a, b, here) in e) ∙ drop-append_seam front left

-- A line makes a constraint exactly where there are more behind it.
made_if : (log : List Step) (s : Step) → made_lines (log ++ s ∷ []) ≡ cond (nat_lt (length (made_lines log)) (length (made_lines (log ++ s ∷ [])))) (made_lines log ++ s ∷ []) (made_lines log)
made_if log s = by s
  where
    some : (u : Step) → made_lines (u ∷ []) ≡ u ∷ [] → made_lines (log ++ u ∷ []) ≡ cond (nat_lt (length (made_lines log)) (length (made_lines (log ++ u ∷ [])))) (made_lines log ++ u ∷ []) (made_lines log)
    some u e =
        let more = lines_on log (u ∷ []) ∙ ap (λ (ss : List Step). made_lines log ++ ss) e in
        let long = ap (λ (ss : List Step). length ss) more ∙ length-append (made_lines log) (u ∷ []) in
        more ∙ ap (λ (b : Bool). cond b (made_lines log ++ u ∷ []) (made_lines log)) (sym (lt-ltb (length (made_lines log)) (length (made_lines (log ++ u ∷ []))) (omega (arith, long))))

    none : (u : Step) → made_lines (u ∷ []) ≡ [] → made_lines (log ++ u ∷ []) ≡ cond (nat_lt (length (made_lines log)) (length (made_lines (log ++ u ∷ [])))) (made_lines log ++ u ∷ []) (made_lines log)
    none u e =
        let same = lines_on log (u ∷ []) ∙ ap (λ (ss : List Step). made_lines log ++ ss) e ∙ append-nil (made_lines log) in
        let long = ap (λ (ss : List Step). length ss) same in
        same ∙ ap (λ (b : Bool). cond b (made_lines log ++ u ∷ []) (made_lines log)) (sym (le-ltb (length (made_lines log)) (length (made_lines (log ++ u ∷ []))) (omega (arith, long))))

    by : (u : Step) → made_lines (log ++ u ∷ []) ≡ cond (nat_lt (length (made_lines log)) (length (made_lines (log ++ u ∷ [])))) (made_lines log ++ u ∷ []) (made_lines log)
    by (P name ops) = some (P name ops) refl
    by (U name lits refs) = some (U name lits refs) refl
    by Head = none Head refl
    by (Model m) = none (Model m) refl
    by (N row name) = none (N row name) refl
    by (D at) = none (D at) refl
    by (E at) = none (E at) refl
    by (Y ones) = none (Y ones) refl
    by Q = none Q refl

-- One more line.
pub scan_more : (text left line behind : List ℕ) (old new : Index) (places more : List ℕ) (s : Step) (place : ℕ) (to : ScannedTo text left old places) → left ≡ line ++ 10 ∷ behind → NoFeed line → read_in Hinted line ≡ Some s → IsStepIn Hinted s
    → place + length left ≡ length text
    → ((log : List Step) → IsIndexOf old log → length places ≡ length (made_lines log)
    → IsIndexOf new (log ++ s ∷ []) × (more ≡ cond (nat_lt (length (made_lines log)) (length (made_lines (log ++ s ∷ [])))) (places ++ place ∷ []) places))
    → ScannedTo text behind new more
scan_more text left line behind old new places more s place to cut no_feed read fits here takes =
    let log = to.steps in
    let t = takes log to.known (scan_count text left old places to) in
    record {
      steps = log ++ s ∷ [];
      to = read_line_more Hinted text left line behind log s cut no_feed read fits to.to;
      known = t.0;
      at = subst (λ (ps : List ℕ). AreAt text ps (made_lines (log ++ s ∷ []))) (sym t.1)
          (subst (AreAt text (cond (nat_lt (length (made_lines log)) (length (made_lines (log ++ s ∷ [])))) (places ++ place ∷ []) places)) (sym (made_if log s))
          (by (nat_lt (length (made_lines log)) (length (made_lines (log ++ s ∷ []))))));
    }
  where
    by : (b : Bool) → AreAt text (cond b (places ++ place ∷ []) places) (cond b (made_lines to.steps ++ s ∷ []) (made_lines to.steps))
    by true = at_more text places (made_lines to.steps) place s to.at (record { line = line; rest = behind; there = left_at to.to.front left text place to.to.text_is here ∙ cut; no_feed = no_feed; read = read })
    by false = to.at

-- The last line.
pub scan_all : (text left line behind : List ℕ) (index : Index) (places : List ℕ) (s : Step) → left ≡ line ++ 10 ∷ behind → NoFeed line → read_in Hinted line ≡ Some s → IsStepIn Hinted s → behind ≡ []
    → ScannedTo text left index places → IsScanned text index places s
scan_all text left line behind index places s cut no_feed read fits none to = record {
  steps = to.steps;
  reads = read_all Hinted text behind (to.steps ++ s ∷ []) none (read_line_more Hinted text left line behind to.steps s cut no_feed read fits to.to);
  known = to.known;
  at = to.at;
}

-- ---- the first line

no_feed_before : (bs : List ℕ) (i : ℕ) → i < length bs → ((k : ℕ) → k < i → get_or bs k 0 ≢ 10) → NoFeed (take i bs)
no_feed_before [] i h f = absurd (omega arith)
no_feed_before (b ∷ bs) zero h f = tt
no_feed_before (b ∷ bs) (suc i) h f = (f 0 (omega arith), no_feed_before bs i (omega arith) (λ k q. f (suc k) (omega arith)))

parts_at : (bs : List ℕ) (i : ℕ) → i < length bs → get_or bs i 0 ≡ 10 → bs ≡ take i bs ++ 10 ∷ drop (suc i) bs
parts_at [] i h e = absurd (omega arith)
parts_at (b ∷ bs) zero h e = ap (λ (x : ℕ). x ∷ bs) e
parts_at (b ∷ bs) (suc i) h e = ap (λ (x : List ℕ). b ∷ x) (parts_at bs i (omega arith) e)

-- The cut at the first LF.
pub split_at : (bs : List ℕ) (i : ℕ) (front rest : List ℕ) → front ≡ take i bs → rest ≡ drop (i + 1) bs → i < length bs → get_or bs i 0 ≡ 10 → ((k : ℕ) → k < i → get_or bs k 0 ≢ 10)
    → (bs ≡ front ++ 10 ∷ rest) × NoFeed front
split_at bs i front rest a b h e f =
    let n : suc i ≡ i + 1 = omega arith in
    let d : drop (suc i) bs ≡ rest = ap (λ (m : ℕ). drop m bs) n ∙ sym b in (
      parts_at bs i h e ∙ ap (λ (x : List ℕ). take i bs ++ 10 ∷ x) d ∙ ap (λ (x : List ℕ). x ++ 10 ∷ rest) (sym a),
      subst NoFeed (sym a) (no_feed_before bs i h f),
    )
