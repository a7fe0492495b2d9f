-- Needed lines one after the other, and the places that bear each mark.
use Rattle.std.proofs.Common.{◌⊎◌, inl, inr, ◌≡◌, ◌≢◌, ℕ, zero, suc, ◌+◌, ◌<◌, ◌≤◌, ◌==◌, Bool, true, false, cond, List, [], ◌∷◌, ◌++◌, length, map, get_or, set, replicate, drop, Some, refl, sym, ap, ◌∙◌, arith}
use Rattle.std.specs.Prelude.{slice_get}
use Rattle.std.proofs.Math.Seq.{drop-length}
use Rattle.std.proofs.lemmas.Option.{slice_get-get_or}
use Rattle.std.proofs.lemmas.Bool.{cases_eq, eq-eqb, ne_eqb}
use Rattle.std.proofs.lemmas.Grind.{flat_map-append}
use Rattle.std.proofs.lemmas.List.Concat.{flat_map-cons}
use Rattle.std.proofs.lemmas.List.{append_assoc, append-nil, length-set, get_or-set_same, get_or-set_other, map-set, length-map, get_or-map, drop_more}
use Rattle.log_theory.specs.declared.step.Ref.{Ref}
use Rattle.log_theory.specs.declared.step.Ref.TheVariants.{Made}
use Rattle.log_theory.specs.declared.step.Step.{Step}
use Rattle.log_theory.specs.declared.step.Step.TheVariants.{Head, Model, P, U, N, D, E, Y, Q}
use Rattle.journal_theory.specs.Journals.{own_name}
use Rattle.journal_theory.proofs.Placing.{some_same}
use Rattle.log_theory.specs.Words.{line_text}
use Rattle.log_theory.specs.LogText.{step_words}
use Rattle.trim_theory.specs.Marking.{made_lines, rank, new_line, marked_deletions, marked_log}
use Rattle.proof_trim.specs.Ranks.{mark_at, AreBelow, places_with, AreListed}
use Rattle.proof_trim.specs.Texts.{steps_text, next_lines}
use Rattle.proof_trim.specs.Lined.{AreAt}
use Rattle.proof_trim.proofs.Indexing.{lines_on}
use Rattle.proof_trim.proofs.LinesRead.{at_long, line_at}

-- The deletions of places.
pub deleted : (mark : ℕ → ℕ) (m n : ℕ) → map (λ i. D (Made (own_name 0 (rank mark i)))) (places_with mark m n) ≡ marked_deletions mark m n
deleted mark m zero = refl
deleted mark m (suc n) = on (places_with mark m n) (cond (mark n == m) (n ∷ []) []) ∙ ap (λ (xs : List Step). xs ++ map deletion (cond (mark n == m) (n ∷ []) [])) (deleted mark m n) ∙ ap (λ (xs : List Step). marked_deletions mark m n ++ xs) (by (mark n == m))
  where
    deletion : ℕ → Step
    deletion i = D (Made (own_name 0 (rank mark i)))

    on : (xs ys : List ℕ) → map deletion (xs ++ ys) ≡ map deletion xs ++ map deletion ys
    on [] ys = refl
    on (x ∷ xs) ys = ap (λ (zs : List Step). deletion x ∷ zs) (on xs ys)

    by : (b : Bool) → map deletion (cond b (n ∷ []) []) ≡ cond b (D (Made (own_name 0 (rank mark n))) ∷ []) []
    by true = refl
    by false = refl

-- Places with a mark lie below the limit.
pub below : (mark : ℕ → ℕ) (m n limit : ℕ) → n ≤ limit → AreBelow limit (places_with mark m n)
below mark m zero limit l = tt
below mark m (suc n) limit l = on (places_with mark m n) (below mark m n limit (omega (arith, l))) (mark n == m)
  where
    on : (xs : List ℕ) → AreBelow limit xs → (b : Bool) → AreBelow limit (xs ++ cond b (n ∷ []) [])
    on [] h true = (omega (arith, l), tt)
    on [] h false = tt
    on (x ∷ xs) h b = (h.0, on xs h.1 b)

-- No places yet.
pub listed_none : (marks : List ℕ) (lists : List (List ℕ)) (count : ℕ) → lists ≡ replicate count [] → AreListed marks 0 lists
listed_none marks lists count e m some within = ap (λ (ls : List (List ℕ)). get_or ls m []) e ∙ empty count m
  where
    empty : (n i : ℕ) → let xs : List ℕ = get_or (replicate n []) i [] in xs ≡ []
    empty zero i = refl
    empty (suc n) zero = refl
    empty (suc n) (suc i) = empty n i

-- A place without a mark is listed nowhere.
pub listed_left : (marks : List ℕ) (n : ℕ) (lists : List (List ℕ)) → mark_at marks n ≡ 0 → AreListed marks n lists → AreListed marks (n + 1) lists
listed_left marks n lists none h m some within =
    h m some within
    ∙ sym (append-nil (places_with (mark_at marks) m n))
    ∙ ap (λ (b : Bool). places_with (mark_at marks) m n ++ cond b (n ∷ []) []) (sym (ne_eqb (mark_at marks n) m (λ e. some (sym e ∙ none))))
    ∙ ap (places_with (mark_at marks) m) (let e : suc n ≡ n + 1 = omega arith in e)

-- A place with a mark is listed there.
pub listed_more : (marks : List ℕ) (n mark : ℕ) (old new : List (List ℕ)) → mark < length old → mark_at marks n ≡ mark → new ≡ set old mark (get_or old mark [] ++ n ∷ []) → AreListed marks n old → AreListed marks (n + 1) new
listed_more marks n mark old new inside is change h m some within =
    ap (λ (ls : List (List ℕ)). get_or ls m []) change
    ∙ by (cases_eq mark m)
    ∙ ap (places_with (mark_at marks) m) (let e : suc n ≡ n + 1 = omega arith in e)
  where
    long : length new ≡ length old
    long = ap (λ (ls : List (List ℕ)). length ls) change ∙ length-set old mark (get_or old mark [] ++ n ∷ [])

    by : (mark ≡ m) ⊎ (mark ≡ m → ⊥) → get_or (set old mark (get_or old mark [] ++ n ∷ [])) m [] ≡ places_with (mark_at marks) m n ++ cond (mark_at marks n == m) (n ∷ []) []
    by (inl e) =
        ap (λ (i : ℕ). get_or (set old mark (get_or old mark [] ++ n ∷ [])) i []) (sym e)
        ∙ get_or-set_same old mark (get_or old mark [] ++ n ∷ []) [] inside
        ∙ ap (λ (i : ℕ). get_or old i [] ++ n ∷ []) e
        ∙ ap (λ (xs : List ℕ). xs ++ n ∷ []) (h m some (omega (arith, within, long)))
        ∙ ap (λ (b : Bool). places_with (mark_at marks) m n ++ cond b (n ∷ []) []) (sym (eq-eqb (mark_at marks n) m (is ∙ e)))
    by (inr ne) =
        get_or-set_other old mark m (get_or old mark [] ++ n ∷ []) [] (λ e. ne (sym e))
        ∙ h m some (omega (arith, within, long))
        ∙ sym (append-nil (places_with (mark_at marks) m n))
        ∙ ap (λ (b : Bool). places_with (mark_at marks) m n ++ cond b (n ∷ []) []) (sym (ne_eqb (mark_at marks n) m (λ e. ne (sym is ∙ e))))

-- A list grows by the place.
pub place_listed : {X : Type 0} (f : X → List ℕ) (marks : List ℕ) (n mark : ℕ) (xs : List X) (x y : X) → mark < length xs → x ≡ get_or xs mark x → f y ≡ f x ++ n ∷ [] → mark_at marks n ≡ mark → AreListed marks n (map f xs)
    → AreListed marks (n + 1) (map f (set xs mark y))
place_listed f marks n mark xs x y inside here grown is h =
    listed_more marks n mark (map f xs) (map f (set xs mark y)) (let l = length-map xs f in omega (arith, inside, l)) is
    (map-set f xs mark y ∙ ap (set (map f xs) mark) (grown ∙ ap (λ (zs : List ℕ). zs ++ n ∷ []) (ap f here ∙ sym (get_or-map f xs mark x [] inside)))) h

-- The places that the line behind is to delete.
pub listed_there : {X : Type 0} (f : X → List ℕ) (marks : List ℕ) (n m : ℕ) (xs : List X) (x : X) → m ≢ 0 → m < length xs → x ≡ get_or xs m x → AreListed marks n (map f xs) → f x ≡ places_with (mark_at marks) m n
listed_there f marks n m xs x some inside here h = ap f here ∙ sym (get_or-map f xs m x [] inside) ∙ h m some (let l = length-map xs f in omega (arith, inside, l))

-- ---- what is written

-- A text behind another one, and what the lines from a place on become, are in the end what all become behind that.
abbrev pub IsWrittenTo : (Ref → Ref) → List ℕ → List Step → ℕ → List ℕ → List ℕ → Type 0
IsWrittenTo new marks made place start out =
    out ++ steps_text (marked_log new (mark_at marks) place (drop place made)) ≡ start ++ steps_text (marked_log new (mark_at marks) 0 made)

-- A line and its deletions are put.
pub line_put : (mark : ℕ → ℕ) (place : ℕ) (s line : Step) (old pushed out : List ℕ) (named : List ℕ) → line ≡ s → pushed ≡ old ++ line_text (step_words line) → out ≡ pushed ++ steps_text (map (λ i. D (Made (own_name 0 (rank mark i)))) named)
    → named ≡ places_with mark (place + 1) place → out ≡ old ++ steps_text (s ∷ marked_deletions mark (place + 1) place)
line_put mark place s line old pushed out named same push put is =
    put
    ∙ ap (λ (xs : List ℕ). xs ++ steps_text (map (λ i. D (Made (own_name 0 (rank mark i)))) named)) (push ∙ ap (λ (x : Step). old ++ line_text (step_words x)) same)
    ∙ append_assoc old (line_text (step_words s)) (steps_text (map (λ i. D (Made (own_name 0 (rank mark i)))) named))
    ∙ ap (λ (ns : List ℕ). old ++ (line_text (step_words s) ++ steps_text (map (λ i. D (Made (own_name 0 (rank mark i)))) ns))) is
    ∙ ap (λ (xs : List Step). old ++ (line_text (step_words s) ++ steps_text xs)) (deleted mark (place + 1) place)
    ∙ ap (λ (xs : List ℕ). old ++ xs) (sym (flat_map-cons (λ (u : Step). line_text (step_words u)) s (marked_deletions mark (place + 1) place)))

-- A needed line becomes one, with its deletions.
pub next_kept : (new : Ref → Ref) (mark : ℕ → ℕ) (place : ℕ) (s : Step) (old out : List ℕ) → mark place ≢ 0 → out ≡ old ++ steps_text (new_line new (rank mark place) s ∷ marked_deletions mark (place + 1) place)
    → out ≡ old ++ steps_text (next_lines new mark place s)
next_kept new mark place s old out some put =
    put ∙ ap (λ (b : Bool). old ++ steps_text (cond b [] (new_line new (rank mark place) s ∷ marked_deletions mark (place + 1) place))) (sym (ne_eqb (mark place) 0 some))

-- Another becomes nothing.
pub next_left : (new : Ref → Ref) (mark : ℕ → ℕ) (place : ℕ) (s : Step) (out : List ℕ) → mark place ≡ 0 → out ≡ out ++ steps_text (next_lines new mark place s)
next_left new mark place s out none =
    sym (append-nil out) ∙ ap (λ (b : Bool). out ++ steps_text (cond b [] (new_line new (rank mark place) s ∷ marked_deletions mark (place + 1) place))) (sym (eq-eqb (mark place) 0 none))

-- What a line and those behind it become.
next_text : (new : Ref → Ref) (mark : ℕ → ℕ) (place : ℕ) (s : Step) (rest : List Step) → steps_text (marked_log new mark place (s ∷ rest)) ≡ steps_text (next_lines new mark place s) ++ steps_text (marked_log new mark (place + 1) rest)
next_text new mark place s rest = by (mark place == 0)
  where
    by : (b : Bool) → steps_text (cond b (marked_log new mark (place + 1) rest) (new_line new (rank mark place) s ∷ (marked_deletions mark (place + 1) place ++ marked_log new mark (place + 1) rest)))
        ≡ steps_text (cond b [] (new_line new (rank mark place) s ∷ marked_deletions mark (place + 1) place)) ++ steps_text (marked_log new mark (place + 1) rest)
    by true = refl
    by false = flat_map-append (λ (u : Step). line_text (step_words u)) (new_line new (rank mark place) s ∷ marked_deletions mark (place + 1) place) (marked_log new mark (place + 1) rest)

-- So the lines from the next place on are still to come.
pub written_on : (new : Ref → Ref) (marks : List ℕ) (made : List Step) (place : ℕ) (s : Step) (start old out : List ℕ) → place < length made → s ≡ get_or made place s → out ≡ old ++ steps_text (next_lines new (mark_at marks) place s)
    → IsWrittenTo new marks made place start old → IsWrittenTo new marks made (place + 1) start out
written_on new marks made place s start old out within is put before =
    ap (λ (xs : List ℕ). xs ++ steps_text (marked_log new (mark_at marks) (place + 1) (drop (place + 1) made))) put
    ∙ append_assoc old (steps_text (next_lines new (mark_at marks) place s)) (steps_text (marked_log new (mark_at marks) (place + 1) (drop (place + 1) made)))
    ∙ ap (λ (xs : List ℕ). old ++ xs) (sym (next_text new (mark_at marks) place s (drop (place + 1) made)))
    ∙ ap (λ (xs : List Step). old ++ steps_text (marked_log new (mark_at marks) place xs)) (ap (λ (x : Step). x ∷ drop (place + 1) made) is ∙ sym (drop_more made place s within))
    ∙ before

-- ---- how many lines are left

deletions_none : (mark : ℕ → ℕ) (m n : ℕ) → made_lines (marked_deletions mark m n) ≡ []
deletions_none mark m zero = refl
deletions_none mark m (suc n) = lines_on (marked_deletions mark m n) (cond (mark n == m) (D (Made (own_name 0 (rank mark n))) ∷ []) []) ∙ by (mark n == m) (deletions_none mark m n)
  where
    by : (b : Bool) → made_lines (marked_deletions mark m n) ≡ [] → made_lines (marked_deletions mark m n) ++ made_lines (cond b (D (Made (own_name 0 (rank mark n))) ∷ []) []) ≡ []
    by true none = ap (λ (ss : List Step). ss ++ []) none
    by false none = ap (λ (ss : List Step). ss ++ []) none

-- One place more, with a line that makes a constraint.
left_more : (mark : ℕ → ℕ) (place : ℕ) (l : Step) (rest : List Step) (n : ℕ) → ((xs : List Step) → length (made_lines (l ∷ xs)) ≡ suc (length (made_lines xs))) → length (made_lines rest) + rank mark (place + 1) ≡ rank mark (place + 1 + n)
    → length (made_lines (cond (mark place == 0) rest (l ∷ (marked_deletions mark (place + 1) place ++ rest)))) + rank mark place ≡ rank mark (place + suc n)
left_more mark place l rest n makes more = by (mark place == 0) refl ∙ more ∙ ap (rank mark) (let e : place + 1 + n ≡ place + suc n = omega arith in e)
  where
    by : (b : Bool) → (mark place == 0) ≡ b → length (made_lines (cond b rest (l ∷ (marked_deletions mark (place + 1) place ++ rest)))) + rank mark place ≡ length (made_lines rest) + rank mark (place + 1)
    by true e =
        let r : rank mark (place + 1) ≡ rank mark place + 0 = ap (rank mark) (let f : place + 1 ≡ suc place = omega arith in f) ∙ ap (λ (c : Bool). rank mark place + cond c 0 1) e in
        omega (arith, r)
    by false e =
        let r : rank mark (place + 1) ≡ rank mark place + 1 = ap (rank mark) (let f : place + 1 ≡ suc place = omega arith in f) ∙ ap (λ (c : Bool). rank mark place + cond c 0 1) e in
        let m = makes (marked_deletions mark (place + 1) place ++ rest) in
        let d = ap (λ (xs : List Step). length xs) (lines_on (marked_deletions mark (place + 1) place) rest ∙ ap (λ (xs : List Step). xs ++ made_lines rest) (deletions_none mark (place + 1) place)) in
        omega (arith, r, m, d)

-- As many as there are marked places.
pub left_count : (new : Ref → Ref) (mark : ℕ → ℕ) (place : ℕ) (log : List Step) → length (made_lines (marked_log new mark place (made_lines log))) + rank mark place ≡ rank mark (place + length (made_lines log))
left_count new mark place [] = let e = ap (rank mark) (let f : place ≡ place + 0 = omega arith in f) in omega (arith, e)
left_count new mark place (P name ops ∷ ss) =
    left_more mark place (new_line new (rank mark place) (P name ops)) (marked_log new mark (place + 1) (made_lines ss)) (length (made_lines ss)) (λ xs. refl) (left_count new mark (place + 1) ss)
left_count new mark place (U name lits refs ∷ ss) =
    left_more mark place (new_line new (rank mark place) (U name lits refs)) (marked_log new mark (place + 1) (made_lines ss)) (length (made_lines ss)) (λ xs. refl) (left_count new mark (place + 1) ss)
left_count new mark place (Head ∷ ss) = left_count new mark place ss
left_count new mark place (Model m ∷ ss) = left_count new mark place ss
left_count new mark place (N row name ∷ ss) = left_count new mark place ss
left_count new mark place (D at ∷ ss) = left_count new mark place ss
left_count new mark place (E at ∷ ss) = left_count new mark place ss
left_count new mark place (Y ones ∷ ss) = left_count new mark place ss
left_count new mark place (Q ∷ ss) = left_count new mark place ss

-- ---- over lines of a text

-- The line at a place is put.
pub written_at : (new : Ref → Ref) (marks text ps : List ℕ) (made : List Step) (place : ℕ) (start old out : List ℕ) → place < length ps → AreAt text ps made
    → ((s : Step) → slice_get made place ≡ Some s → out ≡ old ++ steps_text (next_lines new (mark_at marks) place s)) → IsWrittenTo new marks made place start old → IsWrittenTo new marks made (place + 1) start out
written_at new marks text ps made place start old out within at put before =
    let l = line_at text ps made place at within in
    let long = at_long text ps made at in
    written_on new marks made place l.0 start old out (omega (arith, within, long)) (some_same l.0 (get_or made place l.0) (sym l.1 ∙ slice_get-get_or made place l.0 (omega (arith, within, long)))) (put l.0 l.1) before

-- All of them are.
pub written_all : (new : Ref → Ref) (marks text ps : List ℕ) (made : List Step) (place : ℕ) (start out : List ℕ) → place ≡ length ps → AreAt text ps made → IsWrittenTo new marks made place start out
    → out ≡ start ++ steps_text (marked_log new (mark_at marks) 0 made)
written_all new marks text ps made place start out end at before =
    sym (append-nil out)
    ∙ ap (λ (ss : List Step). out ++ steps_text (marked_log new (mark_at marks) place ss)) (sym (drop-length made) ∙ ap (λ (n : ℕ). drop n made) (sym (end ∙ at_long text ps made at)))
    ∙ before
