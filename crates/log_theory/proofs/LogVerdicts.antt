-- The laws of whole logs: soundness, one answer, and fronts that end early.
use Rattle.std.proofs.Common.{◌≡◌, ◌≢◌, ℕ, zero, suc, ◌+◌, ◌≤◌, ◌<◌, Bool, true, false, cond, not, ◌==◌, ◌&&◌, ◌||◌, nat_lt, nat_le, List, [], ◌∷◌, ◌++◌, length, map, get_or, set, replicate, Option, Some, None, Result, Ok, Err, ℤ, pos, ◌≤ℤ◌, ◌+ℤ◌, refl, sym, ap, ◌∙◌, subst, arith, inl, inr, ◌⊎◌, slice_get}
use Rattle.std.proofs.lemmas.Int.{ints}
use Rattle.std.proofs.lemmas.Bool.{and_parts, cases_eq, cases_lt, eqb-true, leb-true, ltb-true}
use Rattle.std.proofs.lemmas.List.{get_or-set_same, get_or-set_other, set_past, get_or_past}
use Rattle.std.specs.List.{flat_map}
use Rattle.log_theory.specs.declared.profile.Profile.{Profile}
use Rattle.log_theory.specs.declared.profile.Profile.TheVariants.{Hinted, Plain}
use Rattle.log_theory.specs.declared.step.Name.{Name}
use Rattle.log_theory.specs.declared.step.Ref.{Ref}
use Rattle.log_theory.specs.declared.step.Ref.TheVariants.{Line, Made, Shared}
use Rattle.log_theory.specs.declared.step.Step.{Step}
use Rattle.log_theory.specs.declared.step.Step.TheVariants.{Head, Model, P, U, N, D, E, Y, Q}
use Rattle.log_theory.specs.declared.step.Cause.{Cause}
use Rattle.log_theory.specs.declared.step.Verdict.{Verdict}
use Rattle.log_theory.specs.declared.step.Verdict.TheVariants.{Unsatisfiable, Satisfiable, Undecided, Refused, NoMemory}
use Rattle.proof_theory.specs.Forms.{Form, Holds, Satisfies, value, assignment, IsSolution, HasNoSolution}
use Rattle.proof_theory.specs.Rules.{is_contradiction}
use Rattle.log_theory.specs.Steps.{◌>>=◌, unless, or_fault}
use Rattle.log_theory.specs.Words.{pieces}
use Rattle.log_theory.specs.LogText.{is_line}
use Rattle.log_theory.specs.Profiles.{read_in, profile_of}
use Rattle.log_theory.specs.Lookups.{makes, closed_clause, is_among, are_distinct}
use Rattle.log_theory.specs.Tables.{Table, empty_table, made_by, from_one, standing, shared_at, find, fresh_name, fresh_row, with_made, without_number, without_row, without, step_of, somes, all_forms, step_in}
use Rattle.log_theory.specs.Verdicts.{holds_at, all_hold_at, in_range, step_variables, Stage, Opening, Counting, Proving, Progress, Goes, Ends, refuted_by, solved_by, progress_of, further_progress, line_progress, at_end, go_on, verdict_from, verdict_of}
use Rattle.proof_theory.proofs.Rules.{contradiction_fails}
use Rattle.log_theory.proofs.LogSound.{IsSound, bind_ok, unless_ok, or_fault_ok, makes_sound, closed_sound}

some_same : (f g : Form) → let x : Option Form = Some f in let y : Option Form = Some g in x ≡ y → f ≡ g
some_same f g e = cc

-- A form of a list that an assignment satisfies holds.
satisfied_at : (fs : List Form) (a : ℕ → Bool) (k : ℕ) (f : Form) → Satisfies fs a → slice_get fs k ≡ Some f → Holds f a
satisfied_at [] a k f s e = absurd cc
satisfied_at (g ∷ gs) a zero f s e = subst (λ (x : Form). Holds x a) (some_same g f e) s.0
satisfied_at (g ∷ gs) a (suc k) f s e = satisfied_at gs a k f s.1 e

-- The form of a place holds, if one stands in it.
abbrev pub PlaceHolds : Option Form → (ℕ → Bool) → Type 0
PlaceHolds None a = Unit {0}
PlaceHolds (Some f) a = Holds f a

-- Every form that stands in a place holds.
abbrev pub PlacesHold : List (Option Form) → (ℕ → Bool) → Type 0
PlacesHold [] a = Unit {0}
PlacesHold (o ∷ os) a = PlaceHolds o a × PlacesHold os a

place_holds : (o : Option Form) (a : ℕ → Bool) (f : Form) → PlaceHolds o a → o ≡ Some f → Holds f a
place_holds None a f h e = absurd cc
place_holds (Some g) a f h e = subst (λ (x : Form). Holds x a) (some_same g f e) h

place_at : (os : List (Option Form)) (a : ℕ → Bool) (k : ℕ) (f : Form) → PlacesHold os a → standing (slice_get os k) ≡ Some f → Holds f a
place_at [] a k f h e = absurd cc
place_at (o ∷ os) a zero f h e = place_holds o a f h.0 e
place_at (o ∷ os) a (suc k) f h e = place_at os a k f h.1 e

places_push : (os : List (Option Form)) (f : Form) (a : ℕ → Bool) → PlacesHold os a → Holds f a → PlacesHold (os ++ Some f ∷ []) a
places_push [] f a h k = (k, tt)
places_push (o ∷ os) f a h k = (h.0, places_push os f a h.1 k)

places_without : (os : List (Option Form)) (k : ℕ) (a : ℕ → Bool) → PlacesHold os a → PlacesHold (set os k None) a
places_without [] k a h = tt
places_without (o ∷ os) zero a h = (tt, h.1)
places_without (o ∷ os) (suc k) a h = (h.0, places_without os k a h.1)

-- Every shared form holds.
abbrev pub EntriesHold : List (ℕ × Option Form) → (ℕ → Bool) → Type 0
EntriesHold [] a = Unit {0}
EntriesHold (s ∷ ss) a = PlaceHolds s.1 a × EntriesHold ss a

entry_at : (ss : List (ℕ × Option Form)) (a : ℕ → Bool) (row : ℕ) (f : Form) → EntriesHold ss a → shared_at ss row ≡ Some f → Holds f a
entry_at [] a row f h e = absurd cc
entry_at (s ∷ ss) a row f h e = by-row (entry_at ss a row f h.1) (s.0 == row) e
  where
    by-row : (shared_at ss row ≡ Some f → Holds f a) → (b : Bool) → cond b s.1 (shared_at ss row) ≡ Some f → Holds f a
    by-row ih true k = place_holds s.1 a f h.0 k
    by-row ih false k = ih k

entries_push : (ss : List (ℕ × Option Form)) (row : ℕ) (f : Form) (a : ℕ → Bool) → EntriesHold ss a → Holds f a → EntriesHold (ss ++ (row, Some f) ∷ []) a
entries_push [] row f a h k = (k, tt)
entries_push (s ∷ ss) row f a h k = (h.0, entries_push ss row f a h.1 k)

entries_without : (ss : List (ℕ × Option Form)) (row : ℕ) (a : ℕ → Bool) → EntriesHold ss a → EntriesHold (without_row ss row) a
entries_without [] row a h = tt
entries_without (s ∷ ss) row a h = (by-row (s.0 == row), entries_without ss row a h.1)
  where
    by-row : (b : Bool) → PlaceHolds (cond b None s.1) a
    by-row true = tt
    by-row false = h.0

-- The table's forms hold at an assignment.
pub record TableHolds (t : Table) (a : ℕ → Bool) : Type 0 where
  pub made : (owner : ℕ) → PlacesHold (made_by t owner) a
  pub shared : EntriesHold t.shared a

find_sound : (model : List Form) (t : Table) (a : ℕ → Bool) → Satisfies model a → TableHolds t a → IsSound (find model t) a
find_sound model t a s h = record { holds = at }
  where
    counted : (fs : List Form) (k : ℕ) (f : Form) → Satisfies fs a → from_one fs k ≡ Some f → Holds f a
    counted fs zero f sat e = absurd cc
    counted fs (suc k) f sat e = satisfied_at fs a k f sat e

    placed : (os : List (Option Form)) (k : ℕ) (f : Form) → PlacesHold os a → standing (from_one os k) ≡ Some f → Holds f a
    placed os zero f g e = absurd cc
    placed os (suc k) f g e = place_at os a k f g e

    at : (r : Ref) (f : Form) → find model t r ≡ Some f → Holds f a
    at (Line k) f e = counted model k f s e
    at (Made name) f e = placed (made_by t name.owner) name.number f (h.made name.owner) e
    at (Shared row) f e = entry_at t.shared a row f h.shared e

empty_holds : (a : ℕ → Bool) → TableHolds empty_table a
empty_holds a = record { made = λ owner. nothing 65 owner; shared = tt }
  where
    nothing : (n owner : ℕ) → PlacesHold (get_or (replicate n []) owner []) a
    nothing zero owner = tt
    nothing (suc n) zero = tt
    nothing (suc n) (suc owner) = nothing n owner

-- One owner's places become others whose forms hold too.
owner_set : (t : Table) (who : ℕ) (more : List (Option Form)) (a : ℕ → Bool) → TableHolds t a → PlacesHold more a → TableHolds (record { made = set t.made who more; shared = t.shared }) a
owner_set t who more a h k = record { made = λ owner. at owner (cases_eq owner who); shared = h.shared }
  where
    in_place : (owner : ℕ) → owner ≡ who → (who < length t.made) ⊎ (length t.made ≤ who) → PlacesHold (get_or (set t.made who more) owner []) a
    in_place owner e (inl l) = subst (λ (os : List (Option Form)). PlacesHold os a) (sym (get_or-set_same t.made who more [] l) ∙ ap (λ (o : ℕ). get_or (set t.made who more) o []) (sym e)) k
    in_place owner e (inr l) = subst (λ (lists : List (List (Option Form))). PlacesHold (get_or lists owner []) a) (sym (set_past t.made who more l)) (h.made owner)

    at : (owner : ℕ) → (owner ≡ who) ⊎ (owner ≡ who → ⊥) → PlacesHold (get_or (set t.made who more) owner []) a
    at owner (inl e) = in_place owner e (cases_lt who (length t.made))
    at owner (inr n) = subst (λ (os : List (Option Form)). PlacesHold os a) (sym (get_or-set_other t.made who owner more [] n)) (h.made owner)

made_holds : (t : Table) (name : Name) (f : Form) (a : ℕ → Bool) → TableHolds t a → Holds f a → TableHolds (with_made t name f) a
made_holds t name f a h k = owner_set t name.owner (made_by t name.owner ++ Some f ∷ []) a h (places_push (made_by t name.owner) f a (h.made name.owner) k)

-- What is left of a true table is true.
without_holds : (t : Table) (at : Ref) (a : ℕ → Bool) → TableHolds t a → TableHolds (without t at) a
without_holds t (Line k) a h = h
without_holds t (Made name) a h = owner_set t name.owner (without_number (made_by t name.owner) name.number) a h (by-number name.number)
  where
    by-number : (k : ℕ) → PlacesHold (without_number (made_by t name.owner) k) a
    by-number zero = h.made name.owner
    by-number (suc k) = places_without (made_by t name.owner) k a (h.made name.owner)
without_holds t (Shared row) a h = record { made = h.made; shared = entries_without t.shared row a h.shared }

table_same : (t u : Table) → let x : Result Table Cause = Ok t in let y : Result Table Cause = Ok u in x ≡ y → t ≡ u
table_same t u e = cc

-- A step keeps the table true.
step_sound : (model : List Form) (t u : Table) (s : Step) (a : ℕ → Bool) → Satisfies model a → TableHolds t a → step_of model t s ≡ Ok u → TableHolds u a
step_sound model t u (P name ops) a sat h e =
    let b = bind_ok (fresh_name t name) _ u e in
    let d = bind_ok (makes (find model t) (P name ops)) _ u b.1.1 in
    subst (λ (x : Table). TableHolds x a) (table_same _ u d.1.1) (made_holds t name d.0 a h (makes_sound (find model t) a (find_sound model t a sat h) (P name ops) d.0 d.1.0))
step_sound model t u (U name lits refs) a sat h e =
    let b = bind_ok (fresh_name t name) _ u e in
    let d = bind_ok (makes (find model t) (U name lits refs)) _ u b.1.1 in
    subst (λ (x : Table). TableHolds x a) (table_same _ u d.1.1) (made_holds t name d.0 a h (makes_sound (find model t) a (find_sound model t a sat h) (U name lits refs) d.0 d.1.0))
step_sound model t u (N row name) a sat h e =
    let b = bind_ok (fresh_row t row) _ u e in
    let d = bind_ok (makes (find model t) (N row name)) _ u b.1.1 in
    subst (λ (x : Table). TableHolds x a) (table_same _ u d.1.1) (record { made = h.made; shared = entries_push t.shared row d.0 a h.shared (makes_sound (find model t) a (find_sound model t a sat h) (N row name) d.0 d.1.0) })
step_sound model t u (D at) a sat h e =
    let b = bind_ok (unless (not (is_line at)) _) _ u e in
    let d = bind_ok (or_fault (find model t at) _) _ u b.1.1 in
    subst (λ (x : Table). TableHolds x a) (table_same _ u d.1.1) (without_holds t at a h)
step_sound model t u Head a sat h e = absurd cc
step_sound model t u (Model m) a sat h e = absurd cc
step_sound model t u (E at) a sat h e = absurd cc
step_sound model t u (Y ones) a sat h e = absurd cc
step_sound model t u Q a sat h e = absurd cc

satisfied_append : (fs gs : List Form) (a : ℕ → Bool) → Satisfies fs a → Satisfies gs a → Satisfies (fs ++ gs) a
satisfied_append [] gs a h k = k
satisfied_append (f ∷ fs) gs a h k = (h.0, satisfied_append fs gs a h.1 k)

places_append : (os ps : List (Option Form)) (a : ℕ → Bool) → PlacesHold os a → PlacesHold ps a → PlacesHold (os ++ ps) a
places_append [] ps a h k = k
places_append (o ∷ os) ps a h k = (h.0, places_append os ps a h.1 k)

places_lists : (lists : List (List (Option Form))) (a : ℕ → Bool) → ((owner : ℕ) → PlacesHold (get_or lists owner []) a) → PlacesHold (flat_map (λ os. os) lists) a
places_lists [] a h = tt
places_lists (os ∷ lists) a h = places_append os (flat_map (λ ps. ps) lists) a (h 0) (places_lists lists a (λ owner. h (suc owner)))

places_entries : (ss : List (ℕ × Option Form)) (a : ℕ → Bool) → EntriesHold ss a → PlacesHold (map (λ s. s.1) ss) a
places_entries [] a h = tt
places_entries (s ∷ ss) a h = (h.0, places_entries ss a h.1)

-- The forms that stand in places that hold hold.
places_satisfied : (os : List (Option Form)) (a : ℕ → Bool) → PlacesHold os a → Satisfies (somes os) a
places_satisfied [] a h = tt
places_satisfied (None ∷ os) a h = places_satisfied os a h.1
places_satisfied (Some f ∷ os) a h = (h.0, places_satisfied os a h.1)

-- All forms so far hold.
all_satisfied : (model : List Form) (t : Table) (a : ℕ → Bool) → Satisfies model a → TableHolds t a → Satisfies (all_forms model t) a
all_satisfied model t a s h =
    satisfied_append model (somes (flat_map (λ os. os) t.made) ++ somes (map (λ e. e.1) t.shared)) a s
    (satisfied_append (somes (flat_map (λ os. os) t.made)) (somes (map (λ e. e.1) t.shared)) a
    (places_satisfied (flat_map (λ os. os) t.made) a (places_lists t.made a h.made)) (places_satisfied (map (λ e. e.1) t.shared) a (places_entries t.shared a h.shared)))

-- A step of either profile keeps the table true.
step_in_sound : (profile : Profile) (model : List Form) (t u : Table) (s : Step) (a : ℕ → Bool) → Satisfies model a → TableHolds t a → step_in profile model t s ≡ Ok u → TableHolds u a
step_in_sound Hinted model t u s a sat h e = step_sound model t u s a sat h e
step_in_sound Plain model t u (U name lits refs) a sat h e =
    let b = bind_ok (fresh_name t name) _ u e in
    let d = bind_ok (closed_clause (all_forms model t) lits) _ u b.1.1 in
    subst (λ (x : Table). TableHolds x a) (table_same _ u d.1.1) (made_holds t name d.0 a h (closed_sound a (all_forms model t) lits d.0 (all_satisfied model t a sat h) d.1.0))
step_in_sound Plain model t u (P name ops) a sat h e = step_sound model t u (P name ops) a sat h e
step_in_sound Plain model t u (N row name) a sat h e = step_sound model t u (N row name) a sat h e
step_in_sound Plain model t u (D at) a sat h e = step_sound model t u (D at) a sat h e
step_in_sound Plain model t u Head a sat h e = absurd cc
step_in_sound Plain model t u (Model m) a sat h e = absurd cc
step_in_sound Plain model t u (E at) a sat h e = absurd cc
step_in_sound Plain model t u (Y ones) a sat h e = absurd cc
step_in_sound Plain model t u Q a sat h e = absurd cc

-- What a stage keeps true of every assignment that satisfies the model.
abbrev pub StageHolds : List Form → Stage → Type 0
StageHolds model (Proving profile t) = (a : ℕ → Bool) → Satisfies model a → TableHolds t a
StageHolds model Opening = Unit {0}
StageHolds model (Counting profile) = Unit {0}

-- What a line's progress says.
abbrev pub ProgressHolds : ℕ → List Form → Progress → Type 0
ProgressHolds n model (Goes stage) = StageHolds model stage
ProgressHolds n model (Ends Unsatisfiable) = (a : ℕ → Bool) → Satisfies model a → ⊥
ProgressHolds n model (Ends Satisfiable) = (ones : List ℕ) × ((in_range n ones ≡ true) × Satisfies model (λ v. is_among v ones))
ProgressHolds n model (Ends Undecided) = Unit {0}
ProgressHolds n model (Ends (Refused k c)) = ⊥
ProgressHolds n model (Ends NoMemory) = ⊥

progress_same : (p q : Progress) → let x : Result Progress Cause = Ok p in let y : Result Progress Cause = Ok q in x ≡ y → p ≡ q
progress_same p q e = cc

all_hold : (fs : List Form) (a : ℕ → Bool) → all_hold_at a fs ≡ true → Satisfies fs a
all_hold [] a e = tt
all_hold (f ∷ fs) a e =
    let p = and_parts (holds_at a f) (all_hold_at a fs) e in
    let q = p.0 in
    (record { reached = grind (arith, ints) }, all_hold fs a p.1)

refuted_progress : (n : ℕ) (model : List Form) (o : Option Form) (p : Progress) → ((f : Form) → o ≡ Some f → (a : ℕ → Bool) → Satisfies model a → Holds f a) → refuted_by o ≡ Ok p → ProgressHolds n model p
refuted_progress n model o p h e =
    let b = bind_ok (or_fault o _) _ p e in
    let d = bind_ok (unless (is_contradiction b.0) _) _ p b.1.1 in
    subst (λ (x : Progress). ProgressHolds n model x) (progress_same (Ends Unsatisfiable) p d.1.1)
    (λ a sat. contradiction_fails b.0 a (unless_ok (is_contradiction b.0) _ d.0 d.1.0) (h b.0 (or_fault_ok o _ b.0 b.1.0) a sat))

solved_progress : (n : ℕ) (model : List Form) (ones : List ℕ) (p : Progress) → in_range n ones ≡ true → solved_by model ones ≡ Ok p → ProgressHolds n model p
solved_progress n model ones p r e =
    let b = bind_ok (unless (are_distinct ones) _) _ p e in
    let d = bind_ok (unless (all_hold_at (λ v. is_among v ones) model) _) _ p b.1.1 in
    subst (λ (x : Progress). ProgressHolds n model x) (progress_same (Ends Satisfiable) p d.1.1)
    (ones, (r, all_hold model (λ v. is_among v ones) (unless_ok (all_hold_at (λ v. is_among v ones) model) _ d.0 d.1.0)))

made_progress : (n : ℕ) (model : List Form) (profile : Profile) (t : Table) (s : Step) (p : Progress) → StageHolds model (Proving profile t) → (step_in profile model t s >>= λ u. Ok (Goes (Proving profile u))) ≡ Ok p → ProgressHolds n model p
made_progress n model profile t s p h e =
    let b = bind_ok (step_in profile model t s) _ p e in
    subst (λ (x : Progress). ProgressHolds n model x) (progress_same (Goes (Proving profile b.0)) p b.1.1)
    (λ a sat. step_in_sound profile model t b.0 s a sat (h a sat) b.1.0)

progress_sound : (n : ℕ) (model : List Form) (stage : Stage) (s : Step) (p : Progress) → StageHolds model stage → in_range n (step_variables s) ≡ true → progress_of model stage s ≡ Ok p → ProgressHolds n model p
progress_sound n model (Counting profile) (Model m) p h r e =
    let b = bind_ok (unless (m == length model) _) _ p e in
    subst (λ (x : Progress). ProgressHolds n model x) (progress_same (Goes (Proving profile empty_table)) p b.1.1) (λ a sat. empty_holds a)
progress_sound n model (Proving profile t) (E at) p h r e = refuted_progress n model (find model t at) p (λ f k a sat. (find_sound model t a sat (h a sat)).holds at f k) e
progress_sound n model (Proving profile t) (Y ones) p h r e = solved_progress n model ones p r e
progress_sound n model (Proving profile t) Q p h r e = subst (λ (x : Progress). ProgressHolds n model x) (progress_same (Ends Undecided) p e) tt
progress_sound n model (Proving profile t) (P name ops) p h r e = made_progress n model profile t (P name ops) p h e
progress_sound n model (Proving profile t) (U name lits refs) p h r e = made_progress n model profile t (U name lits refs) p h e
progress_sound n model (Proving profile t) (N row name) p h r e = made_progress n model profile t (N row name) p h e
progress_sound n model (Proving profile t) (D at) p h r e = made_progress n model profile t (D at) p h e
progress_sound n model (Proving profile t) Head p h r e = made_progress n model profile t Head p h e
progress_sound n model (Proving profile t) (Model m) p h r e = made_progress n model profile t (Model m) p h e
progress_sound n model stage s p h r e = absurd cc

further_sound : (n : ℕ) (model : List Form) (profile : Profile) (stage : Stage) (line : List ℕ) (p : Progress) → StageHolds model stage → further_progress n model profile stage line ≡ Ok p → ProgressHolds n model p
further_sound n model profile stage line p h e =
    let b = bind_ok (or_fault (read_in profile line) _) _ p e in
    let d = bind_ok (unless (in_range n (step_variables b.0)) _) _ p b.1.1 in
    progress_sound n model stage b.0 p h (unless_ok (in_range n (step_variables b.0)) _ d.0 d.1.0) d.1.1

-- What a line leads to is true.
pub line_sound : (n : ℕ) (model : List Form) (stage : Stage) (line : List ℕ) (p : Progress) → StageHolds model stage → line_progress n model stage line ≡ Ok p → ProgressHolds n model p
line_sound n model Opening line p h e =
    let b = bind_ok (or_fault (profile_of line) _) _ p e in
    subst (λ (x : Progress). ProgressHolds n model x) (progress_same (Goes (Counting b.0)) p b.1.1) tt
line_sound n model (Counting profile) line p h e = further_sound n model profile (Counting profile) line p h e
line_sound n model (Proving profile t) line p h e = further_sound n model profile (Proving profile t) line p h e

-- What a verdict says of its model.
abbrev pub VerdictHolds : ℕ → List Form → Verdict → Type 0
VerdictHolds n model (Refused k c) = Unit {0}
VerdictHolds n model v = ProgressHolds n model (Ends v)

end_sound : (n k : ℕ) (model : List Form) (v : Verdict) (rest : List (List ℕ)) → ProgressHolds n model (Ends v) → VerdictHolds n model (at_end k v rest)
end_sound n k model v [] h = tt
end_sound n k model Unsatisfiable ([] ∷ []) h = h
end_sound n k model Satisfiable ([] ∷ []) h = h
end_sound n k model Undecided ([] ∷ []) h = tt
end_sound n k model (Refused i c) ([] ∷ []) h = tt
end_sound n k model NoMemory ([] ∷ []) h = h
end_sound n k model v ((b ∷ bs) ∷ []) h = tt
end_sound n k model v ([] ∷ m ∷ ms) h = tt
end_sound n k model v ((b ∷ bs) ∷ m ∷ ms) h = tt

go_sound : (n k : ℕ) (model : List Form) (rest : List (List ℕ)) (r : Result Progress Cause) (more : Stage → Verdict) → ((p : Progress) → r ≡ Ok p → ProgressHolds n model p) → ((stage : Stage) → StageHolds model stage → VerdictHolds n model (more stage)) → VerdictHolds n model (go_on k rest r more)
go_sound n k model rest (Err c) more h next = tt
go_sound n k model rest (Ok (Ends v)) more h next = end_sound n (k + 1) model v rest (h (Ends v) refl)
go_sound n k model rest (Ok (Goes stage)) more h next = next stage (h (Goes stage) refl)

-- A verdict is true of its model.
pub verdict_sound : (n : ℕ) (model : List Form) (stage : Stage) (k : ℕ) (ls : List (List ℕ)) → StageHolds model stage → VerdictHolds n model (verdict_from n model stage k ls)
verdict_sound n model stage k [] h = tt
verdict_sound n model stage k (l ∷ []) h = tt
verdict_sound n model stage k (l ∷ m ∷ ls) h =
    go_sound n k model (m ∷ ls) (line_progress n model stage l) (λ next. verdict_from n model next (k + 1) (m ∷ ls)) (λ p e. line_sound n model stage l p h e) (λ next g. verdict_sound n model next (k + 1) (m ∷ ls) g)

-- A verdict of a whole log is true of its model.
pub log_sound : (n : ℕ) (model : List Form) (log : List ℕ) → VerdictHolds n model (verdict_of n model log)
log_sound n model log = verdict_sound n model Opening 1 (pieces (λ b. b == 10) log) tt

-- An unsatisfiable verdict leaves no solution.
pub log_unsatisfiable : (n : ℕ) (model : List Form) (log : List ℕ) → verdict_of n model log ≡ Unsatisfiable → HasNoSolution n model
log_unsatisfiable n model log e a s =
    let h : VerdictHolds n model Unsatisfiable = subst (λ (v : Verdict). VerdictHolds n model v) e (log_sound n model log) in
    h (assignment a) s.satisfied

-- Every log is answered.
pub log_answered : (n : ℕ) (model : List Form) (log : List ℕ) → verdict_of n model log ≢ NoMemory
log_answered n model log e =
    let h : VerdictHolds n model NoMemory = subst (λ (v : Verdict). VerdictHolds n model v) e (log_sound n model log) in
    h

-- A 0/1 list of an assignment's values from a variable on.
abbrev pub tabulated : (ℕ → Bool) → ℕ → ℕ → List Bool
tabulated f from zero = []
tabulated f from (suc n) = f from ∷ tabulated f (from + 1) n

length-tabulated : (f : ℕ → Bool) (from n : ℕ) → length (tabulated f from n) ≡ n
length-tabulated f from zero = refl
length-tabulated f from (suc n) = let h = length-tabulated f (from + 1) n in omega arith

get_or-tabulated : (f : ℕ → Bool) (from n v : ℕ) → v < n → get_or (tabulated f from n) v false ≡ f (from + v)
get_or-tabulated f from zero v h = absurd (omega arith)
get_or-tabulated f from (suc n) zero h = ap f (omega arith)
get_or-tabulated f from (suc n) (suc v) h = get_or-tabulated f (from + 1) n v (omega arith) ∙ ap f (omega arith)

in_range_at : (n : ℕ) (ones : List ℕ) (v : ℕ) → in_range n ones ≡ true → is_among v ones ≡ true → (0 < v) × (v ≤ n)
in_range_at n [] v r e = absurd cc
in_range_at n (w ∷ ws) v r e = by-first (in_range_at n ws v p.1) (w == v) refl e
  where
    p : (nat_lt 0 w && nat_le w n ≡ true) × (in_range n ws ≡ true)
    p = and_parts (nat_lt 0 w && nat_le w n) (in_range n ws) r

    by-first : (is_among v ws ≡ true → (0 < v) × (v ≤ n)) → (b : Bool) → (w == v) ≡ b → (b || is_among v ws) ≡ true → (0 < v) × (v ≤ n)
    by-first ih true k g =
        let q = and_parts (nat_lt 0 w) (nat_le w n) p.0 in
        let x : 0 < w = ltb-true 0 w q.0 in
        let y : w ≤ n = leb-true w n q.1 in
        let z : w ≡ v = eqb-true w v k in
        (omega arith, omega arith)
    by-first ih false k g = ih g

value_same : (a b : ℕ → Bool) → ((v : ℕ) → a v ≡ b v) → (ts : List (ℕ × ℤ)) → value a ts ≡ value b ts
value_same a b h [] = refl
value_same a b h (t ∷ ts) = ap (λ (x : Bool). cond x t.1 (pos 0) +ℤ value a ts) (h t.0) ∙ ap (λ (z : ℤ). cond (b t.0) t.1 (pos 0) +ℤ z) (value_same a b h ts)

satisfied_same : (a b : ℕ → Bool) → ((v : ℕ) → a v ≡ b v) → (fs : List Form) → Satisfies fs a → Satisfies fs b
satisfied_same a b h [] s = tt
satisfied_same a b h (f ∷ fs) s =
    (record { reached = subst (λ (z : ℤ). f.bound ≤ℤ z) (value_same a b h f.terms) s.0.reached }, satisfied_same a b h fs s.1)

false_unless : (b : Bool) → (b ≡ true → ⊥) → b ≡ false
false_unless true h = absurd (h refl)
false_unless false h = refl

-- The 0/1 list of the ones says of each variable whether it is one.
listed_same : (n : ℕ) (ones : List ℕ) → in_range n ones ≡ true → (v : ℕ) → is_among v ones ≡ assignment (tabulated (λ w. is_among w ones) 1 n) v
listed_same n ones r zero = false_unless (is_among 0 ones) (λ e. let p = in_range_at n ones 0 r e in let x = p.0 in omega arith)
listed_same n ones r (suc v) = by-place (cases_lt v n)
  where
    by-place : (v < n) ⊎ (n ≤ v) → is_among (suc v) ones ≡ get_or (tabulated (λ w. is_among w ones) 1 n) v false
    by-place (inl l) = sym (get_or-tabulated (λ w. is_among w ones) 1 n v l ∙ ap (λ (w : ℕ). is_among w ones) (omega arith))
    by-place (inr l) = false_unless (is_among (suc v) ones) (λ e. let p = in_range_at n ones (suc v) r e in let x = p.1 in omega arith) ∙ sym (get_or_past (tabulated (λ w. is_among w ones) 1 n) v false (let k = length-tabulated (λ w. is_among w ones) 1 n in omega arith))

-- A satisfiable verdict has a solution.
pub log_satisfiable : (n : ℕ) (model : List Form) (log : List ℕ) → verdict_of n model log ≡ Satisfiable → (a : List Bool) × IsSolution n model a
log_satisfiable n model log e =
    let h : VerdictHolds n model Satisfiable = subst (λ (v : Verdict). VerdictHolds n model v) e (log_sound n model log) in (
      tabulated (λ w. is_among w h.0) 1 n,
      record {
        places = length-tabulated (λ w. is_among w h.0) 1 n;
        satisfied = satisfied_same (λ w. is_among w h.0) (assignment (tabulated (λ w. is_among w h.0) 1 n)) (listed_same n h.0 h.1.0) model h.1.1;
      },
    )
