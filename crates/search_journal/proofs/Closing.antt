-- What was told at a dead end, and what is named there, as the line of the dead path asks for it.
use Rattle.std.proofs.Common.{inl, inr, ◌⊎◌, ◌≡◌, ℕ, suc, ◌+◌, ◌<◌, ◌≤◌, ◌==◌, Bool, true, false, cond, List, [], ◌∷◌, ◌++◌, length, take, drop, Contains, Option, Some, None, IfSome, Result, Ok, refl, sym, ap, subst, ◌∙◌, length-append, arith}
use Rattle.std.specs.Prelude.{slice_get}
use Rattle.std.proofs.lemmas.Bool.{eq-eqb, ne_eqb, cases_eq}
use Rattle.std.specs.declared.alloc.AllocError.{AllocError}
use Rattle.graph_theory.specs.Graph.{size}
use Rattle.graph_theory.specs.Embedding.{Problem}
use Rattle.graph_theory.specs.Path.{IsPath}
use Rattle.search_theory.specs.Account.{Account, Step, path, path_of, level_at, level_among, InRange, IsAt, NotAmong, FailsTo}
use Rattle.domain_bits.specs.Removals.{State, in_domain}
use Rattle.proof_theory.specs.Forms.{Form}
use Rattle.log_theory.specs.declared.step.Name.{Name}
use Rattle.log_theory.specs.declared.step.Ref.{Ref}
use Rattle.log_theory.specs.declared.step.Ref.TheVariants.{Made, Shared}
use Rattle.log_theory.specs.Tables.{from_one}
use Rattle.explanation_theory.specs.Reasons.{pairs_clause, value_clauses}
use Rattle.nogood_book.specs.declared.row.Row.{Row}
use Rattle.nogood_book.specs.Rows.{path_at, Sound, AreInRange}
use Rattle.recorder.specs.declared.change.Cause.TheVariants as cause
use Rattle.recorder.specs.declared.change.Failure.TheVariants as failure
use Rattle.recorder.specs.Recording.{Change, LeftOne, LeftOthers, LeftOver, CountedSet}
use Rattle.dead_theory.specs.Changes.{AreInProblem, IsGuessed, AreGuessed}
use Rattle.dead_theory.specs.Ends.{Whole, Short, EndsBy}
use Rattle.dead_theory.specs.Laws.{Dies}
use Rattle.dead_theory.proofs.Dying.{dead_laws_hold, told_laws_hold}
use Rattle.journal_theory.specs.Journals.{note_of, IsNogoodOf}
use Rattle.journal_theory.proofs.Placing.{take_all, get_snoc}
use Rattle.journals.specs.Keeping.{Keeping}
use Rattle.log_growth.specs.Frames.{Frame, IsFrameOf, IsNamed, AreNamed, After, Goes}
use Rattle.log_growth.proofs.Rows.{frame_is, row_named}
use Rattle.recorder.specs.declared.change.DeadEnd.{DeadEnd}
use Rattle.recorder.specs.declared.change.DeadEnd.TheVariants as told
use Rattle.proof_logger.specs.Logging.{IsExhausted, EndsPath, AreGuessed as AreTold, Closed}
use Rattle.dead_paths.specs.Making.{AreRowsNamed}
use Rattle.dead_paths.specs.Explaining.{end_by, IsEndIn, AreRefuted, Knowing, IsBegun, IsDeadName, IsLastOf}
use Rattle.search_journal.specs.declared.refuted.Refuted.{Refuted}
use Rattle.search_journal.specs.Closing.{IsLined}
use Rattle.search_journal.specs.Lines.{log_rows, row_clause, row_frame, StandsBeside, Steps, Refutes}
use Rattle.search_journal.specs.Entries.{AreFrom, AreBelow, AreRising, IsEntry, AreEntries, HasEntry, AreCovered, IsFreshWithout, entry_ref, entry_refs, entry_values, Writes}
use Rattle.search_journal.specs.Numbers.{RowsBelow, is_by, noted_ref, row_ref}
use Rattle.search_journal.proofs.Levels.{level_within, length-path_of, path_of_more}
use Rattle.search_journal.proofs.Lists.{has_drop, entries_drop}
use Rattle.search_journal.proofs.Frames.{own_found, own_named, log_own, beside_on}
use Rattle.search_journal.proofs.Writing.{writes_failed}

-- ---- the level after the path

open_vertex : (ss : List Step) (v : Option ℕ) (us : List ℕ) → (level_among ss v us (length ss)).vertex ≡ v
open_vertex [] v us = refl
open_vertex (s ∷ ss) v us = open_vertex ss v us

open_refuted : (ss : List Step) (v : Option ℕ) (us : List ℕ) → (level_among ss v us (length ss)).refuted ≡ us
open_refuted [] v us = refl
open_refuted (s ∷ ss) v us = open_refuted ss v us

-- ---- rows

-- Each nogood row is named, the owner's own ones by their lines.
pub rows_named : (q : Problem) (rows : List Row) (j : Keeping) (forms : List Form) (owner : ℕ) (numbers : List (ℕ × ℕ)) → owner ≡ j.owner → numbers ≡ j.notes → StandsBeside q rows j forms
    → AreRowsNamed q rows (row_frame q rows j.owner) (row_ref rows owner numbers) forms
rows_named q rows j forms owner numbers owner_is numbers_are beside k nogood = by (cases_eq nogood.0.owner owner)
  where
    is_nogood_of : (o : ℕ) → nogood.0.owner ≡ o → IsNogoodOf (log_rows rows) k o
    is_nogood_of o is = log_own rows o k (record { row = nogood.0; row_is = nogood.1; kind = nogood.2; owner_is = is })

    name_is : (b : Bool) → (nogood.0.owner == owner) ≡ b → row_ref rows owner numbers k ≡ cond b (noted_ref owner k (note_of numbers k)) (Shared k)
    name_is b e = ap (λ (o : Option Row). cond (is_by o owner) (noted_ref owner k (note_of numbers k)) (Shared k)) nogood.1
        ∙ ap (λ (x : Bool). cond x (noted_ref owner k (note_of numbers k)) (Shared k)) e

    by : (nogood.0.owner ≡ owner) ⊎ (nogood.0.owner ≡ owner → ⊥) → IsNamed (row_frame q rows j.owner) forms (row_ref rows owner numbers k) (pairs_clause q (path_at rows k))
    by (inl own) =
        let n = beside.journaled.noted k (is_nogood_of j.owner (own ∙ owner_is)) in
        subst (λ (r : Ref). IsNamed (row_frame q rows j.owner) forms r (pairs_clause q (path_at rows k)))
        (sym (name_is true (eq-eqb nogood.0.owner owner own) ∙ ap (noted_ref owner k) (ap (λ (ns : List (ℕ × ℕ)). note_of ns k) numbers_are ∙ n.1)
        ∙ ap (λ (o : ℕ). Made (record { owner = o; number = n.0 })) owner_is))
        (own_named (row_frame q rows j.owner) forms n.0 (pairs_clause q (path_at rows k)) n.2)
    by (inr other) =
        subst (λ (r : Ref). IsNamed (row_frame q rows j.owner) forms r (pairs_clause q (path_at rows k)))
        (sym (name_is false (ne_eqb nogood.0.owner owner other)))
        (row_named q (log_rows rows) (row_clause q rows) [] j.owner forms k nogood.0.owner (is_nogood_of nogood.0.owner refl) (λ e. other (e ∙ sym owner_is)))

-- ---- refuted values

-- The entries of the level after the path name the clauses of its values.
entries_named : (q : Problem) (a : Account) (w : Frame) (forms : List Form) (p owner : ℕ) (es : List Refuted) → owner ≡ w.owner → AreEntries q a forms es → AreFrom (length (path a)) es → IsAt a.vertex p
    → AreNamed w forms (entry_refs owner es) (value_clauses q (path a) p (entry_values es))
entries_named q a w forms p owner [] owner_is entries from at = tt
entries_named q a w forms p owner (e ∷ es) owner_is entries from at = (here entries.0 from.0, entries_named q a w forms p owner es owner_is entries.1 from.1 at)
  where
    at_vertex : (v : Option ℕ) (x : ℕ) → v ≡ Some x → IsAt v p → x ≡ p
    at_vertex None x is h = absurd cc
    at_vertex (Some y) x is h = let same : y ≡ x = cc in sym same ∙ h

    here : IsEntry q a forms e → length (path a) ≤ e.level → IsNamed w forms (entry_ref owner e) (pairs_clause q (path a ++ (p, e.value) ∷ []))
    here i low =
        let long : length (path a) ≡ length a.steps = length-path_of a.steps in
        let high : e.level ≤ length a.steps = level_within a.steps a.vertex a.refuted e.level i.vertex i.vertex_is in
        let level : e.level ≡ length a.steps = omega (arith, long, low, high) in
        let vertex : i.vertex ≡ p = at_vertex a.vertex i.vertex (sym (open_vertex a.steps a.vertex a.refuted) ∙ ap (λ (n : ℕ). (level_at a n).vertex) (sym level) ∙ i.vertex_is) at in
        subst (λ (o : ℕ). IsNamed w forms (Made (record { owner = o; number = e.number })) (pairs_clause q (path a ++ (p, e.value) ∷ []))) (sym owner_is)
        (own_named w forms e.number (pairs_clause q (path a ++ (p, e.value) ∷ []))
        (i.line ∙ ap (λ (xs : List (ℕ × ℕ)). let o : Option Form = Some (pairs_clause q (xs ++ (i.vertex, e.value) ∷ [])) in o) (take_all (path a) e.level (omega (arith, level, long)))
        ∙ ap (λ (n : ℕ). let o : Option Form = Some (pairs_clause q (path a ++ (n, e.value) ∷ [])) in o) vertex))

-- Where the end is an exhausted vertex, it is that of the level.
IsEndAt : Account → DeadEnd → Type 0
IsEndAt a (told.Failed f) = Unit {0}
IsEndAt a (told.Exhausted p) = IsAt a.vertex p

pub refuted_named : (q : Problem) (rows : List Row) (changes : Option (List Change)) (a : Account) (told_short short : Option CountedSet) (end : DeadEnd) (w : Frame) (forms : List Form) (owner : ℕ) (es : List Refuted) → owner ≡ w.owner
    → AreEntries q a forms es → AreFrom (length (path a)) es → EndsPath q rows changes told_short a end → AreRefuted q (path a) (end_by end short (entry_values es)) w (entry_refs owner es) forms
refuted_named q rows changes a told_short short (told.Failed (failure.Empty p)) w forms owner es owner_is entries from ends = tt
refuted_named q rows changes a told_short short (told.Failed (failure.Whole n)) w forms owner es owner_is entries from ends = tt
refuted_named q rows changes a told_short (Some s) (told.Failed (failure.Short n)) w forms owner es owner_is entries from ends = tt
refuted_named q rows changes a told_short None (told.Failed (failure.Short n)) w forms owner es owner_is entries from ends = tt
refuted_named q rows changes a told_short short (told.Exhausted p) w forms owner es owner_is entries from ends = entries_named q a w forms p owner es owner_is entries from ends.ends.level

-- ---- the end

not_among : (us : List ℕ) (u : ℕ) → (Contains us u → ⊥) → NotAmong us u
not_among [] u none = tt
not_among (x ∷ us) u none = (λ (e : x ≡ u). none (0, omega arith, e), not_among us u (λ h. let l = h.1 in none (suc h.0, omega (arith, l), h.2)))

has_not : (es : List Refuted) (level u : ℕ) → HasEntry es level u → NotAmong (entry_values es) u → ⊥
has_not [] level u h not = h
has_not (e ∷ es) level u (inl h) not = not.0 h.1
has_not (e ∷ es) level u (inr h) not = has_not es level u h not.1

none_left : (q : Problem) (d : State) (a : Account) (p k : ℕ) (entries : List Refuted) → IsExhausted q d a p → AreCovered a entries → IsFreshWithout a.vertex a.refuted
    → AreBelow (length (path a)) (take k entries) → (u : ℕ) → in_domain d p u ≡ true → NotAmong (entry_values (drop k entries)) u → ⊥
none_left q d a p k entries exhausted covered fresh below u here not = exhausted.none u here (not_among a.refuted u (λ h. by a.vertex refl fresh h))
  where
    by : (v : Option ℕ) → a.vertex ≡ v → IsFreshWithout v a.refuted → Contains a.refuted u → ⊥
    by None is f h = let l = (subst (λ (us : List ℕ). Contains us u) f h).1 in omega (arith, l)
    by (Some v) is f h =
        let long : length (path a) ≡ length a.steps = length-path_of a.steps in
        let has : HasEntry entries (length a.steps) u = covered (length a.steps) v u (open_vertex a.steps a.vertex a.refuted ∙ is) (subst (λ (us : List ℕ). Contains us u) (sym (open_refuted a.steps a.vertex a.refuted)) h) in
        has_not (drop k entries) (length a.steps) u (has_drop entries k (length a.steps) u (subst (λ (n : ℕ). AreBelow n (take k entries)) long below) has) not

ends_by : (q : Problem) (cs : List Change) (short : Option CountedSet) (a : Account) (end : DeadEnd) (k : ℕ) (entries : List Refuted) (rows : List Row) → (e : EndsPath q rows (Some cs) short a end)
    → AreCovered a entries → IsFreshWithout a.vertex a.refuted → AreBelow (length (path a)) (take k entries)
    → EndsBy (end_by end short (entry_values (drop k entries))) q e.nogoods e.domains
ends_by q cs short a (told.Failed f) k entries rows e covered fresh below = told_laws_hold.failed q e.nogoods e.domains cs short f e.ends
ends_by q cs short a (told.Exhausted p) k entries rows e covered fresh below =
    told_laws_hold.exhausted q e.nogoods e.domains p (entry_values (drop k entries)) (none_left q e.domains a p k entries e.ends covered fresh below)

-- The path dies by it.
pub told_dies : (q : Problem) (rows : List Row) (cs : List Change) (short : Option CountedSet) (a : Account) (end : DeadEnd) (k : ℕ) (entries : List Refuted) → EndsPath q rows (Some cs) short a end → Sound q rows
    → IsPath (path a) → AreInRange q (path a) → AreCovered a entries → IsFreshWithout a.vertex a.refuted → AreBelow (length (path a)) (take k entries)
    → Dies q rows (path a) cs (end_by end short (entry_values (drop k entries)))
told_dies q rows cs short a end k entries e sound distinct range covered fresh below = record {
  sound = sound;
  nogoods = e.nogoods;
  names = told_laws_hold.names rows e.nogoods e.holds;
  domains = e.domains;
  values_is = e.is_of.values_is;
  told = e.told;
  distinct = distinct;
  range = range;
  ends = ends_by q cs short a end k entries rows e covered fresh below;
}

pub told_in_problem : (q : Problem) (rows : List Row) (cs : List Change) (short : Option CountedSet) (a : Account) (end : DeadEnd) → EndsPath q rows (Some cs) short a end → AreInProblem q cs
told_in_problem q rows cs short a end e = told_laws_hold.in_problem q e.nogoods e.domains cs e.is_of.values_is e.told

-- Its numbers are in range.
pub told_end_in : (q : Problem) (rows : List Row) (cs : List Change) (short : Option CountedSet) (a : Account) (end : DeadEnd) → EndsPath q rows (Some cs) short a end → IsEndIn q rows (end_by end short [])
told_end_in q rows cs short a (told.Exhausted p) e = e.ends.vertex_in
told_end_in q rows cs short a (told.Failed (failure.Empty p)) e = e.ends.0
told_end_in q rows cs short a (told.Failed (failure.Whole n)) e = told_laws_hold.end_in_problem q rows e.nogoods e.domains (Whole n) (told_laws_hold.names rows e.nogoods e.holds) e.ends
told_end_in q rows cs (Some s) a (told.Failed (failure.Short n)) e =
    let h = told_laws_hold.end_in_problem q rows e.nogoods e.domains (Short s.centre s.vertices s.values) (told_laws_hold.names rows e.nogoods e.holds) (told_laws_hold.failed q e.nogoods e.domains cs (Some s) (failure.Short n) e.ends) in
    h.0
told_end_in q rows cs None a (told.Failed (failure.Short n)) e =
    let h = told_laws_hold.end_in_problem q rows e.nogoods e.domains (Short None [] []) (told_laws_hold.names rows e.nogoods e.holds) (told_laws_hold.failed q e.nogoods e.domains cs None (failure.Short n) e.ends) in
    h.0

-- What was guessed is of the path.
pub told_guessed : (xs : List (ℕ × ℕ)) (cs : List Change) → AreTold xs (Some cs) → AreGuessed xs cs
told_guessed xs [] h = tt
told_guessed xs (c ∷ cs) h = (one c (λ p t from e. h p t from (inl e)), told_guessed xs cs (λ p t from m. h p t from (inr m)))
  where
    one : (d : Change) → ((p t from : ℕ) → d ≡ LeftOne p (cause.Guess t) from → Contains xs (p, t)) → IsGuessed xs d
    one (LeftOne r (cause.Guess t) from) f = f r t from refl
    one (LeftOne r cause.First from) f = tt
    one (LeftOne r (cause.Vertex p t) from) f = tt
    one (LeftOne r (cause.Nogood n) from) f = tt
    one (LeftOne r (cause.Edge p u direction) from) f = tt
    one (LeftOne r (cause.Order k u side) from) f = tt
    one (LeftOthers centre vertices values from) f = tt
    one (LeftOver p t direction vertices values from) f = tt

-- The same with what is kept.
pub ends_kept : (q : Problem) (rows : List Row) (changes : Option (List Change)) (cs : List Change) (old short : Option CountedSet) (a : Account) (end : DeadEnd) → EndsPath q rows changes old a end
    → changes ≡ Some cs → old ≡ short → EndsPath q rows (Some cs) short a end
ends_kept q rows changes cs old short a end e same short_same =
    subst (λ (s : Option CountedSet). EndsPath q rows (Some cs) s a end) short_same (subst (λ (o : Option (List Change)). EndsPath q rows o old a end) same e)

-- ---- the line of the dead path

-- Whatever comes of it, the lines stand.
pub steps_after : (knows : Problem → Frame → List Form → Type 0) (lines : Problem) (old new : Keeping) (owner : ℕ) (numbers : List (ℕ × ℕ)) (entries : List Refuted) (q : Problem) (rows : List Row) (a : Account)
    (Claim : List Form → Type 0) → (w : Writes knows lines old owner numbers entries q rows a) → new.owner ≡ old.owner → new.notes ≡ old.notes
    → After (row_frame q rows old.owner) old.steps new.steps w.forms Claim → Steps lines new q rows
steps_after knows lines old new owner numbers entries q rows a Claim w owner_same notes_same m =
    record { problem_is = w.problem_is; forms = w.forms ++ m.more; beside = beside_on q rows old new w.forms Claim owner_same notes_same w.beside m }

-- What has to be so before.
pub begun : (knows : Problem → Frame → List Form → Type 0) (lines : Problem) (j : Keeping) (owner : ℕ) (numbers : List (ℕ × ℕ)) (entries : List Refuted) (q : Problem) (rows : List Row) (a : Account)
    (changes : Option (List Change)) (told_short short : Option CountedSet) (end : DeadEnd) (k : ℕ) (refs : List Ref) → (w : Writes knows lines j owner numbers entries q rows a) → EndsPath q rows changes told_short a end
    → AreFrom (length (path a)) (drop k entries) → refs ≡ entry_refs owner (drop k entries)
    → Knowing (knows q (row_frame q rows j.owner)) (IsBegun q rows (row_frame q rows j.owner) (row_ref rows owner numbers) (path a) (end_by end short (entry_values (drop k entries))) refs) w.forms
begun knows lines j owner numbers entries q rows a changes told_short short end k refs w ends from refs_are = (
  w.known,
  record {
    rows_named = rows_named q rows j w.forms owner numbers w.owner_is w.numbers_are w.beside;
    refuted_named = subst (λ (rs : List Ref). AreRefuted q (path a) (end_by end short (entry_values (drop k entries))) (row_frame q rows j.owner) rs w.forms) (sym refs_are)
        (refuted_named q rows changes a told_short short end (row_frame q rows j.owner) w.forms owner (drop k entries) w.owner_is (entries_drop q a w.forms k entries w.entries_are) from ends);
  },
)

-- What the name of the line is that of.
pub line_found : (q : Problem) (rows : List Row) (owner : ℕ) (xs : List (ℕ × ℕ)) (knows : List Form → Type 0) (n : Name) (forms : List Form) → IsDeadName q xs (row_frame q rows owner) knows (Ok (Some n)) forms
    → from_one forms n.number ≡ Some (pairs_clause q xs)
line_found q rows owner xs knows n forms h = (own_found q rows owner forms n (pairs_clause q xs) h.1).1

-- The empty path's line is plainly false.
pub refutes_after : (knows : Problem → Frame → List Form → Type 0) (lines : Problem) (old new : Keeping) (owner : ℕ) (numbers : List (ℕ × ℕ)) (entries : List Refuted) (q : Problem) (rows : List Row) (a : Account)
    (later : List Form → Type 0) (n : Name) → (w : Writes knows lines old owner numbers entries q rows a) → new.owner ≡ old.owner → new.notes ≡ old.notes
    → After (row_frame q rows old.owner) old.steps new.steps w.forms (IsDeadName q (path a) (row_frame q rows old.owner) later (Ok (Some n))) → n.number ≡ length new.steps → path a ≡ [] → Refutes lines new q rows
refutes_after knows lines old new owner numbers entries q rows a later n w owner_same notes_same m last none = record {
  problem_is = w.problem_is;
  forms = w.forms ++ m.more;
  beside = beside_on q rows old new w.forms (IsDeadName q (path a) (row_frame q rows old.owner) later (Ok (Some n))) owner_same notes_same w.beside m;
  last = pairs_clause q [];
  last_is = ap (from_one (w.forms ++ m.more)) (sym last) ∙ line_found q rows old.owner (path a) later n (w.forms ++ m.more) m.claim ∙ ap (λ (xs : List (ℕ × ℕ)). let o : Option Form = Some (pairs_clause q xs) in o) none;
  plainly_false = dead_laws_hold.empty q;
}

-- The last pair of the path is that of the step that fails.
last_value : (q : Problem) (a b : Account) (level : ℕ) (x : ℕ × ℕ) → level + 1 ≡ length (path a) → slice_get (path a) level ≡ Some x → (f : FailsTo a b) → x.1 ≡ f.last.value
last_value q a b level x level_is at f = by (get_snoc (path_of f.above) (f.last.vertex, f.last.value) x level (ap (λ (xs : List (ℕ × ℕ)). slice_get xs level) (sym path_is) ∙ at))
  where
    path_is : path a ≡ path_of f.above ++ (f.last.vertex, f.last.value) ∷ []
    path_is = ap path_of f.steps_are ∙ path_of_more f.above f.last

    by : ((level < length (path_of f.above)) × (slice_get (path_of f.above) level ≡ Some x)) ⊎ ((level ≡ length (path_of f.above)) × (x ≡ (f.last.vertex, f.last.value))) → x.1 ≡ f.last.value
    by (inl h) = let l = h.0 in absurd (omega (arith, l, level_is, ap (λ (xs : List (ℕ × ℕ)). length xs) path_is, length-append (path_of f.above) ((f.last.vertex, f.last.value) ∷ [])))
    by (inr h) = ap (λ (y : ℕ × ℕ). y.1) h.1

-- The account after the fail has its lines.
pub failed_after : (knows later : Problem → Frame → List Form → Type 0) (lines : Problem) (old new : Keeping) (owner : ℕ) (numbers : List (ℕ × ℕ)) (entries : List Refuted) (q : Problem) (rows : List Row) (a b : Account)
    (n : Name) (k : ℕ) (e : Refuted) (x : ℕ × ℕ) → (w : Writes knows lines old owner numbers entries q rows a) → new.owner ≡ old.owner → new.notes ≡ old.notes
    → After (row_frame q rows old.owner) old.steps new.steps w.forms (IsDeadName q (path a) (row_frame q rows old.owner) (later q (row_frame q rows old.owner)) (Ok (Some n)))
    → AreFrom (length (path a)) (drop k entries) → AreBelow (length (path a)) (take k entries) → e.number ≡ n.number → e.level + 1 ≡ length (path a)
    → slice_get (path a) e.level ≡ Some x → e.value ≡ x.1 → FailsTo a b → Writes later lines new owner numbers (take k entries ++ e ∷ []) q rows b
failed_after knows later lines old new owner numbers entries q rows a b n k e x w owner_same notes_same m from below number_is level_is at value_is f =
    writes_failed later lines new owner numbers entries q rows a b w.forms m.more k e w.problem_is
    (beside_on q rows old new w.forms (IsDeadName q (path a) (row_frame q rows old.owner) (later q (row_frame q rows old.owner)) (Ok (Some n))) owner_same notes_same w.beside m)
    (subst (λ (o : ℕ). later q (row_frame q rows o) (w.forms ++ m.more)) (sym owner_same) m.claim.0)
    (w.owner_is ∙ sym owner_same) (w.numbers_are ∙ sym notes_same) (subst (RowsBelow (length rows)) (sym notes_same) w.in_rows) w.rising w.entries_are w.covered from below
    (ap (from_one (w.forms ++ m.more)) number_is ∙ line_found q rows old.owner (path a) (later q (row_frame q rows old.owner)) n (w.forms ++ m.more) m.claim)
    f level_is (value_is ∙ last_value q a b e.level x level_is at f)

-- ---- what is asked of it

pub path_in_range : (q : Problem) (a : Account) → a.pattern ≡ size q.pattern → a.target ≡ size q.target → InRange a.pattern a.target (path a) → AreInRange q (path a)
path_in_range q a pattern_is target_is range =
    told_laws_hold.path_range q (path a) (subst (λ (n : ℕ). InRange n (size q.target) (path a)) pattern_is (subst (λ (n : ℕ). InRange a.pattern n (path a)) target_is range))

-- What was done for the problem of the lines was done for a search's that is the same.
pub lined_for : (knows later : Problem → Frame → List Form → Type 0) (lines q : Problem) (old new : Keeping) (owner : ℕ) (numbers : List (ℕ × ℕ)) (entries : List Refuted) (rows : List Row) (a : Account) (above : ℕ)
    (result : Result (Option Name) AllocError) → lines ≡ q → IsLined knows later lines old new owner numbers entries lines rows a above result → IsLined knows later lines old new owner numbers entries q rows a above result
lined_for knows later lines q old new owner numbers entries rows a above result same done = subst (λ (p : Problem). IsLined knows later lines old new owner numbers entries p rows a above result) same done

-- From what the call is promised to do, what it has done.
pub lined : (knows later : Problem → Frame → List Form → Type 0) (lines : Problem) (old new : Keeping) (owner : ℕ) (numbers : List (ℕ × ℕ)) (entries : List Refuted) (q : Problem) (rows : List Row) (a : Account)
    (above : ℕ) (result : Result (Option Name) AllocError) (cs : List Change) (short : Option CountedSet) (end : DeadEnd) (xs : List (ℕ × ℕ)) (refs : List Ref)
    → xs ≡ path a → refs ≡ entry_refs owner (drop above entries) → EndsPath q rows (Some cs) short a end → Sound q rows → IsPath (path a) → AreInRange q (path a)
    → ((w : Frame) (values : List ℕ) → IsFrameOf q old.owner w → Dies q rows xs cs (end_by end short values) → AreGuessed xs cs
    → Goes w (Some old.steps) (Some new.steps) (Knowing (knows q w) (IsBegun q rows w (row_ref rows owner numbers) xs (end_by end short values) refs)) (IsDeadName q xs w (later q w) result))
    → IsLined knows later lines old new owner numbers entries q rows a above result
lined knows later lines old new owner numbers entries q rows a above result cs short end xs refs xs_is refs_are ends sound distinct range goes = λ w from below.
    let dies : Dies q rows (path a) cs (end_by end short (entry_values (drop above entries))) =
    told_dies q rows cs short a end above entries ends sound distinct range w.covered w.fresh_level below in
    let before = begun knows lines old owner numbers entries q rows a (Some cs) short short end above refs w ends from refs_are in
    by xs_is w dies before
  where
    by : xs ≡ path a → (w : Writes knows lines old owner numbers entries q rows a) → Dies q rows (path a) cs (end_by end short (entry_values (drop above entries)))
        → Knowing (knows q (row_frame q rows old.owner)) (IsBegun q rows (row_frame q rows old.owner) (row_ref rows owner numbers) (path a) (end_by end short (entry_values (drop above entries))) refs) w.forms
        → After (row_frame q rows old.owner) old.steps new.steps w.forms (IsDeadName q (path a) (row_frame q rows old.owner) (later q (row_frame q rows old.owner)) result)
    by xs_same w dies before =
        let frame : IsFrameOf q old.owner (row_frame q rows old.owner) = frame_is q (log_rows rows) (row_clause q rows) [] old.owner in
        let dies_here : Dies q rows xs cs (end_by end short (entry_values (drop above entries))) =
        subst (λ (ys : List (ℕ × ℕ)). Dies q rows ys cs (end_by end short (entry_values (drop above entries)))) (sym xs_same)
        dies in
        let guessed : AreGuessed xs cs = subst (λ (ys : List (ℕ × ℕ)). AreGuessed ys cs) (sym xs_same) (told_guessed (path a) cs ends.guesses) in
        let before_here : Knowing (knows q (row_frame q rows old.owner)) (IsBegun q rows (row_frame q rows old.owner) (row_ref rows owner numbers) xs (end_by end short (entry_values (drop above entries))) refs) w.forms =
        subst (λ (ys : List (ℕ × ℕ)). Knowing (knows q (row_frame q rows old.owner)) (IsBegun q rows (row_frame q rows old.owner) (row_ref rows owner numbers) ys (end_by end short (entry_values (drop above entries))) refs) w.forms) (sym xs_same)
        before in
        subst (λ (ys : List (ℕ × ℕ)). After (row_frame q rows old.owner) old.steps new.steps w.forms (IsDeadName q ys (row_frame q rows old.owner) (later q (row_frame q rows old.owner)) result)) xs_same
        (goes (row_frame q rows old.owner) (entry_values (drop above entries)) frame dies_here guessed w.forms w.beside.stands before_here)

-- ---- what was counted

-- The entries at a dead end have their lines; those from a place on are of the level after the path, and those before it of levels above.
pub record Counted (knows : Problem → Frame → List Form → Type 0) (lines : Problem) (old : Keeping) (owner : ℕ) (numbers : List (ℕ × ℕ)) (entries : List Refuted) (q : Problem) (rows : List Row) (a : Account) (k : ℕ) : Type 0 where
  pub writes : Writes knows lines old owner numbers entries q rows a
  pub from : AreFrom (length (path a)) (drop k entries)
  pub below : AreBelow (length (path a)) (take k entries)

pub counted : (knows : Problem → Frame → List Form → Type 0) (lines : Problem) (old : Keeping) (owner : ℕ) (numbers : List (ℕ × ℕ)) (held entries seen : List Refuted) (q : Problem) (rows : List Row) (a : Account) (k : ℕ) (xs : List (ℕ × ℕ))
    → entries ≡ held → seen ≡ entries → xs ≡ path a → Writes knows lines old owner numbers held q rows a → AreFrom (length xs) (drop k seen) → (AreRising seen → AreBelow (length xs) (take k seen))
    → Counted knows lines old owner numbers entries q rows a k
counted knows lines old owner numbers held entries seen q rows a k xs same seen_is xs_is w from below =
    let writes : Writes knows lines old owner numbers entries q rows a = subst (λ (es : List Refuted). Writes knows lines old owner numbers es q rows a) (sym same) w in
    let long : length xs ≡ length (path a) = ap (λ (ys : List (ℕ × ℕ)). length ys) xs_is in
    record {
      writes = writes;
      from = subst (λ (n : ℕ). AreFrom n (drop k entries)) long (subst (λ (es : List Refuted). AreFrom (length xs) (drop k es)) seen_is from);
      below = subst (λ (n : ℕ). AreBelow n (take k entries)) long (subst (λ (es : List Refuted). AreBelow (length xs) (take k es)) seen_is (below (subst AreRising (sym seen_is) writes.rising)));
    }

-- The lines that stood still do, whether or not the path's was added.
pub counted_steps : (knows later : Problem → Frame → List Form → Type 0) (lines : Problem) (old new : Keeping) (owner : ℕ) (numbers : List (ℕ × ℕ)) (held entries seen : List Refuted) (q : Problem) (rows : List Row) (a : Account) (k : ℕ)
    (xs : List (ℕ × ℕ)) (result : Result (Option Name) AllocError) → entries ≡ held → seen ≡ entries → xs ≡ path a → Writes knows lines old owner numbers held q rows a → AreFrom (length xs) (drop k seen)
    → (AreRising seen → AreBelow (length xs) (take k seen)) → new.owner ≡ old.owner → new.notes ≡ old.notes → IsLined knows later lines old new owner numbers entries lines rows a k result → Steps lines new q rows
counted_steps knows later lines old new owner numbers held entries seen q rows a k xs result same seen_is xs_is w from below owner_same notes_same done =
    let n = counted knows lines old owner numbers held entries seen q rows a k xs same seen_is xs_is w from below in
    steps_after knows lines old new owner numbers entries q rows a (IsDeadName q (path a) (row_frame q rows old.owner) (later q (row_frame q rows old.owner)) result) n.writes owner_same notes_same
    (lined_for knows later lines q old new owner numbers entries rows a k result n.writes.problem_is done n.writes n.from n.below)

-- The line that was added is the one named.
pub counted_line : (knows later : Problem → Frame → List Form → Type 0) (lines : Problem) (old new : Keeping) (owner : ℕ) (numbers : List (ℕ × ℕ)) (entries : List Refuted) (q : Problem) (rows : List Row) (a : Account) (k : ℕ)
    (answer : Option Name) (n : Name) → answer ≡ Some n → (c : Counted knows lines old owner numbers entries q rows a k) → IsLined knows later lines old new owner numbers entries lines rows a k (Ok answer)
    → After (row_frame q rows old.owner) old.steps new.steps c.writes.forms (IsDeadName q (path a) (row_frame q rows old.owner) (later q (row_frame q rows old.owner)) (Ok (Some n)))
counted_line knows later lines old new owner numbers entries q rows a k answer n is c done =
    subst (λ (o : Option Name). IsLined knows later lines old new owner numbers entries q rows a k (Ok o)) is
    (lined_for knows later lines q old new owner numbers entries rows a k (Ok answer) c.writes.problem_is done) c.writes c.from c.below

-- What was counted, the line that was added for the path, and that it is the last one.
pub record Named (knows later : Problem → Frame → List Form → Type 0) (lines : Problem) (old new : Keeping) (owner : ℕ) (numbers : List (ℕ × ℕ)) (entries : List Refuted) (q : Problem) (rows : List Row) (a : Account) (k : ℕ)
    (n : Name) : Type 0 where
  pub count : Counted knows lines old owner numbers entries q rows a k
  pub line : After (row_frame q rows old.owner) old.steps new.steps count.writes.forms (IsDeadName q (path a) (row_frame q rows old.owner) (later q (row_frame q rows old.owner)) (Ok (Some n)))
  pub last : IsLastOf (Some new.steps) n

pub named : (knows later : Problem → Frame → List Form → Type 0) (lines : Problem) (old new : Keeping) (owner : ℕ) (numbers : List (ℕ × ℕ)) (held entries seen : List Refuted) (q : Problem) (rows : List Row) (a : Account) (k : ℕ)
    (xs : List (ℕ × ℕ)) (answer : Option Name) (n : Name) → answer ≡ Some n → entries ≡ held → seen ≡ entries → xs ≡ path a → Writes knows lines old owner numbers held q rows a → AreFrom (length xs) (drop k seen)
    → (AreRising seen → AreBelow (length xs) (take k seen)) → IsLined knows later lines old new owner numbers entries lines rows a k (Ok answer) → IfSome answer (IsLastOf (Some new.steps))
    → Named knows later lines old new owner numbers entries q rows a k n
named knows later lines old new owner numbers held entries seen q rows a k xs answer n is same seen_is xs_is w from below done last =
    let c = counted knows lines old owner numbers held entries seen q rows a k xs same seen_is xs_is w from below in
    record {
      count = c;
      line = counted_line knows later lines old new owner numbers entries q rows a k answer n is c done;
      last = subst (λ (o : Option Name). IfSome o (IsLastOf (Some new.steps))) is last;
    }

-- ---- closed

-- The path was the empty one.
pub closed_empty : (knows later : Problem → Frame → List Form → Type 0) (lines : Problem) (old new : Keeping) (owner : ℕ) (numbers : List (ℕ × ℕ)) (entries left : List Refuted) (q : Problem) (rows : List Row) (a : Account)
    (n : Name) → (w : Writes knows lines old owner numbers entries q rows a) → new.owner ≡ old.owner → new.notes ≡ old.notes
    → After (row_frame q rows old.owner) old.steps new.steps w.forms (IsDeadName q (path a) (row_frame q rows old.owner) (later q (row_frame q rows old.owner)) (Ok (Some n))) → n.number ≡ length new.steps → length (path a) ≡ 0
    → Closed (λ b. Writes later lines new owner numbers left q rows b) (Refutes lines new q rows) a
closed_empty knows later lines old new owner numbers entries left q rows a n w owner_same notes_same m last none = record {
  refuted = refutes_after knows lines old new owner numbers entries q rows a (later q (row_frame q rows old.owner)) n w owner_same notes_same m last;
  failed = λ b f. absurd (omega (arith, none, length-path_of a.steps, ap (λ (ss : List Step). length ss) f.steps_are, length-append f.above (f.last ∷ [])));
}

-- It was not.
pub closed_failed : (knows later : Problem → Frame → List Form → Type 0) (lines : Problem) (old new : Keeping) (owner : ℕ) (numbers : List (ℕ × ℕ)) (entries : List Refuted) (q : Problem) (rows : List Row) (a : Account)
    (n : Name) (k : ℕ) (front : List Refuted) (e : Refuted) (x : ℕ × ℕ) → front ≡ take k entries → (w : Writes knows lines old owner numbers entries q rows a) → new.owner ≡ old.owner → new.notes ≡ old.notes
    → After (row_frame q rows old.owner) old.steps new.steps w.forms (IsDeadName q (path a) (row_frame q rows old.owner) (later q (row_frame q rows old.owner)) (Ok (Some n))) → n.number ≡ length new.steps
    → AreFrom (length (path a)) (drop k entries) → AreBelow (length (path a)) (take k entries) → e.number ≡ n.number → e.level + 1 ≡ length (path a)
    → slice_get (path a) e.level ≡ Some x → e.value ≡ x.1 → Closed (λ b. Writes later lines new owner numbers (front ++ e ∷ []) q rows b) (Refutes lines new q rows) a
closed_failed knows later lines old new owner numbers entries q rows a n k front e x front_is w owner_same notes_same m last from below number_is level_is at value_is = record {
  refuted = refutes_after knows lines old new owner numbers entries q rows a (later q (row_frame q rows old.owner)) n w owner_same notes_same m last;
  failed = λ b f. subst (λ (es : List Refuted). Writes later lines new owner numbers (es ++ e ∷ []) q rows b) (sym front_is)
      (failed_after knows later lines old new owner numbers entries q rows a b n k e x w owner_same notes_same m from below number_is level_is at value_is f);
}

-- What is left of the same problem and the same notes is as much.
pub closed_same : (later : Problem → Frame → List Form → Type 0) (lines lines2 : Problem) (new : Keeping) (owner owner2 : ℕ) (numbers numbers2 : List (ℕ × ℕ)) (entries : List Refuted) (q : Problem) (rows : List Row) (a : Account)
    → lines2 ≡ lines → owner2 ≡ owner → numbers2 ≡ numbers → Closed (λ b. Writes later lines new owner numbers entries q rows b) (Refutes lines new q rows) a
    → Closed (λ b. Writes later lines2 new owner2 numbers2 entries q rows b) (Refutes lines2 new q rows) a
closed_same later lines lines2 new owner owner2 numbers numbers2 entries q rows a lines_same owner_same numbers_same closed = rw (lines_same, owner_same, numbers_same) closed
