-- What an end comes to, and the line of a dead path.
use Rattle.std.proofs.Common.{◌≡◌, ℕ, zero, suc, ◌*◌, ◌^◌, ◌<◌, ◌≤◌, Bool, false, List, [], ◌∷◌, ◌++◌, length, drop, get_or, Option, Some, None, Result, Ok, Err, OnOk, is_some, refl, sym, ap, subst, ◌∙◌, append_assoc, length-append, arith}
use Rattle.std.specs.Prelude.{map}
use Rattle.std.proofs.Math.Nat.{mul-le-mul}
use Rattle.std.proofs.lemmas.List.{length-map}
use Rattle.std.specs.declared.alloc.AllocError.{AllocError}
use Rattle.graph_theory.specs.Graph.{size}
use Rattle.graph_theory.specs.Embedding.{Problem}
use Rattle.search_theory.specs.Account.{InRange}
use Rattle.fail_account.proofs.Distinct.{path_few}
use Rattle.proof_theory.specs.Forms.{Form}
use Rattle.log_theory.specs.declared.step.Name.{Name}
use Rattle.log_theory.specs.declared.step.Ref.{Ref}
use Rattle.log_theory.specs.declared.step.Step.{Step}
use Rattle.log_theory.specs.declared.step.Step.TheVariants.{U}
use Rattle.log_theory.specs.LogText.{AreRefs, AreLiterals}
use Rattle.log_theory.specs.Lookups.{variables_of}
use Rattle.log_theory.specs.Verdicts.{in_range}
use Rattle.encoding_theory.specs.Variables.{variable, variables}
use Rattle.explanation_theory.specs.Reasons.{not_there, pairs_clause, at_leasts, value_clauses}
use Rattle.nogood_book.specs.declared.row.Row.{Row}
use Rattle.nogood_book.specs.Rows.{AreInRange, path_at}
use Rattle.nogood_book.specs.Places.{IsNogoodRow}
use Rattle.recorder.specs.declared.change.Failure.{Failure}
use Rattle.recorder.specs.declared.change.Failure.TheVariants as failure
use Rattle.recorder.specs.Recording.{Change, CountedSet, change_of}
use Rattle.dead_theory.specs.Changes.{Chosen, told_of, known_after, set_forms, AreGuessed, IsInProblem}
use Rattle.dead_theory.specs.Ends as ends
use Rattle.dead_theory.specs.Ends.{End, Empty, Whole, Short, Exhausted, end_of, EndsIn, EndNeeds}
use Rattle.dead_theory.specs.Walks.{IsChoice, nothing, keeps, passes}
use Rattle.dead_theory.specs.Laws.{Dies}
use Rattle.dead_theory.proofs.Dying.{dead_laws_hold, told_laws_hold}
use Rattle.journal_theory.specs.Journals.{named}
use Rattle.journals.specs.Keeping.{Keeps}
use Rattle.log_growth.specs.Frames.{Frame, IsFrameOf, AreNamed, MayFollow, Goes, Lasts, IsKept}
use Rattle.log_growth.proofs.Going.{goes_stay, goes_as, goes_then, goes_beside}
use Rattle.log_growth.proofs.Steps.{clause_small}
use Rattle.log_growth.proofs.Naming.{are_named_later, named_behind, all_found, named_rows}
use Rattle.dead_paths.specs.declared.room.ChosenEntry.{ChosenEntry}
use Rattle.recorder.specs.declared.change.DeadEnd.{DeadEnd}
use Rattle.recorder.specs.declared.change.DeadEnd.TheVariants as dead_end
use Rattle.dead_paths.specs.Making.{AreRowsNamed}
use Rattle.dead_paths.specs.Choosing.{chosen_of, chosen_in, IsOfRow, AreNameable}
use Rattle.dead_paths.specs.Explaining.{IsLimited, Explained, Knowing, AreRefuted, end_by, IsEndIn, IsChosenFor, IsBegun, EndExplained, AddsNogood, AddsEnd, IsEndPushed, IsSetPushed, AreChangesPushed, AreGathered, IsDeadName, IsLastOf}
use Rattle.dead_paths.proofs.LineRefs.{refs_behind}
use Rattle.dead_paths.proofs.Causes.{nogood_named, explained_last}

-- ---- frames

pub frame_owner : (q : Problem) (a b : ℕ) (w : Frame) → b ≡ a → IsFrameOf q a w → IsFrameOf q b w
frame_owner q a b w same frame = record { problem_is = frame.problem_is; owner_is = frame.owner_is ∙ sym same; model = frame.model }

-- ---- chosen changes by place

pub nameable_at : (q : Problem) (rows : List Row) (numbers : List ℕ) (chosen : List ChosenEntry) (k : ℕ) (d : ChosenEntry) → k < length chosen → AreNameable q rows (chosen_in numbers chosen)
    → IsInProblem q (change_of numbers (get_or chosen k d).entry) × IsOfRow rows (change_of numbers (get_or chosen k d).entry)
nameable_at q rows numbers [] k d below h = absurd (omega (arith, below))
nameable_at q rows numbers (e ∷ chosen) zero d below h = h.0
nameable_at q rows numbers (e ∷ chosen) (suc k) d below h = nameable_at q rows numbers chosen k d (omega (arith, below)) h.1

pub changes_drop : (numbers : List ℕ) (chosen : List ChosenEntry) (k left : ℕ) (d : ChosenEntry) → k < length chosen → left ≡ suc k
    → chosen_in numbers (drop k chosen) ≡ chosen_of numbers (get_or chosen k d) ∷ chosen_in numbers (drop left chosen)
changes_drop numbers chosen k left d below is = by chosen k below ∙ ap (λ (n : ℕ). chosen_of numbers (get_or chosen k d) ∷ chosen_in numbers (drop n chosen)) (sym is)
  where
    by : (chosen : List ChosenEntry) (k : ℕ) → k < length chosen → chosen_in numbers (drop k chosen) ≡ chosen_of numbers (get_or chosen k d) ∷ chosen_in numbers (drop (suc k) chosen)
    by [] k below = absurd (omega (arith, below))
    by (e ∷ chosen) zero below = refl
    by (e ∷ chosen) (suc k) below = by chosen k (omega (arith, below))

pub drop_past : {A : Type 0} (chosen : List A) (k : ℕ) → length chosen ≤ k → drop k chosen ≡ []
drop_past [] zero h = refl
drop_past [] (suc k) h = refl
drop_past (e ∷ chosen) zero h = absurd (omega (arith, h))
drop_past (e ∷ chosen) (suc k) h = drop_past chosen k (omega (arith, h))

-- ---- ends

pub refuted_last : (q : Problem) (path : List (ℕ × ℕ)) (e : End) (w : Frame) (refuted : List Ref) → Lasts (AreRefuted q path e w refuted)
refuted_last q path (Empty p) w refuted = λ forms more h. tt
refuted_last q path (Whole name) w refuted = λ forms more h. tt
refuted_last q path (Short centre vertices values) w refuted = λ forms more h. tt
refuted_last q path (Exhausted p values) w refuted = λ forms more h. are_named_later w forms more refuted (value_clauses q path p values) h

-- ---- literals

pub variable_fits : (q : Problem) (p t : ℕ) → IsLimited q → p < size q.pattern → t < size q.target → variable q p t < 2 ^ 32
variable_fits q p t few p_in t_in =
    let a = few.pattern in
    let b = few.target in
    let le : p ≤ 1024 = omega (arith, a, p_in) in
    let m : p * size q.target ≤ 1024 * 8192 = mul-le-mul le b in
    omega (arith, m, b, t_in)

pub literals_fit : (q : Problem) (path : List (ℕ × ℕ)) → IsLimited q → AreInRange q path → AreLiterals (map (not_there q) path)
literals_fit q [] few range = tt
literals_fit q (x ∷ path) few range = (variable_fits q x.0 x.1 few range.0 range.1, literals_fit q path few range.2)

pub range_at : (q : Problem) (path : List (ℕ × ℕ)) (i : ℕ) (d : ℕ × ℕ) → i < length path → AreInRange q path → ((get_or path i d).0 < size q.pattern) × ((get_or path i d).1 < size q.target)
range_at q [] i d below range = absurd (omega (arith, below))
range_at q (x ∷ path) zero d below range = (range.0, range.1)
range_at q (x ∷ path) (suc i) d below range = range_at q path i d (omega (arith, below)) range.2

-- ---- guesses

-- What is chosen of guesses of the path are guesses of the path.
pub guessed_chosen : (q : Problem) (rows : List Row) (path : List (ℕ × ℕ)) (cs : List Change) (chosen : List Chosen) (needed : ℕ → ℕ → Bool) → IsChoice q rows path cs chosen needed → AreGuessed path cs → AreGuessed path (told_of chosen)
guessed_chosen q rows path _ _ _ (nothing needed) g = tt
guessed_chosen q rows path _ _ _ (keeps c cs chosen needed now rests rest) g = (g.0, guessed_chosen q rows path cs chosen now rest g.1)
guessed_chosen q rows path _ _ _ (passes c cs chosen needed may rest) g = guessed_chosen q rows path cs chosen needed rest g.1

-- ---- the line

-- Both are pushed: the changes, then the end.
gathered : (q : Problem) (rows : List Row) (w : Frame) (path : List (ℕ × ℕ)) (e : End) (refuted : List Ref) (now : List Form → Type 0) (names : ℕ → Ref) (cs : List Chosen) (old new : List Ref) (result : Result (Unit {0}) AllocError)
    (forms : List Form) → IsEndPushed q rows path (known_after path cs) e w old new now result forms → Explained q rows path w names cs old forms → AreGathered q rows w path cs e new now result forms
gathered q rows w path e refuted now names cs old new (Ok u) forms pushed h = (
  pushed.0,
  record {
    own = h.own;
    ends = pushed.1.ends;
    explained = h.explained;
    in_end = pushed.1.in_end;
    named = subst (λ (rs : List Ref). AreNamed w forms rs (h.own ++ pushed.1.ends)) (sym pushed.1.adds.front) (named_behind w forms old h.own pushed.1.adds.more pushed.1.ends h.named pushed.1.adds.named);
  },
)
gathered q rows w path e refuted now names cs old new (Err x) forms pushed h = tt

pub gather_goes : (q : Problem) (rows : List Row) (w : Frame) (names : ℕ → Ref) (path : List (ℕ × ℕ)) (e : End) (refuted : List Ref) (knows mid now : List Form → Type 0) (a b c : Option (List Step)) (cs : List Chosen)
    (old new : List Ref) (result : Result (Unit {0}) AllocError) → Goes w a b (Knowing knows (AreRowsNamed q rows w names)) (AreChangesPushed q rows path w names cs old mid (Ok tt))
    → Goes w b c (Knowing mid (IsBegun q rows w names path e refuted)) (IsEndPushed q rows path (known_after path cs) e w old new now result)
    → Goes w a c (Knowing knows (IsBegun q rows w names path e refuted)) (AreGathered q rows w path cs e new now result)
gather_goes q rows w names path e refuted knows mid now a b c cs old new result changes ends =
    goes_then w a b c (Knowing knows (IsBegun q rows w names path e refuted)) (λ forms. mid forms × Explained q rows path w names cs old forms × AreRefuted q path e w refuted forms) (AreGathered q rows w path cs e new now result)
    (goes_as w a b (λ forms. Knowing knows (AreRowsNamed q rows w names) forms × AreRefuted q path e w refuted forms) (λ forms. AreChangesPushed q rows path w names cs old mid (Ok tt) forms × AreRefuted q path e w refuted forms)
    (Knowing knows (IsBegun q rows w names path e refuted)) (λ forms. mid forms × Explained q rows path w names cs old forms × AreRefuted q path e w refuted forms)
    (λ forms h. ((h.0, h.1.rows_named), h.1.refuted_named)) (λ forms h. (h.0.0, h.0.1, h.1))
    (goes_beside w a b (Knowing knows (AreRowsNamed q rows w names)) (AreChangesPushed q rows path w names cs old mid (Ok tt)) (AreRefuted q path e w refuted) (refuted_last q path e w refuted) changes))
    (goes_as w b c (λ forms. Knowing mid (IsBegun q rows w names path e refuted) forms × Explained q rows path w names cs old forms)
    (λ forms. IsEndPushed q rows path (known_after path cs) e w old new now result forms × Explained q rows path w names cs old forms)
    (λ forms. mid forms × Explained q rows path w names cs old forms × AreRefuted q path e w refuted forms) (AreGathered q rows w path cs e new now result)
    (λ forms h. ((h.0, record { rows_named = h.1.rows_named; refuted_named = h.2 }), h.1))
    (λ forms h. gathered q rows w path e refuted now names cs old new result forms h.0 h.1)
    (goes_beside w b c (Knowing mid (IsBegun q rows w names path e refuted)) (IsEndPushed q rows path (known_after path cs) e w old new now result) (Explained q rows path w names cs old)
    (explained_last q rows path w names cs old) ends))

in_bounds : (q : Problem) (path : List (ℕ × ℕ)) → AreInRange q path → InRange (size q.pattern) (size q.target) path
in_bounds q [] range = tt
in_bounds q (x ∷ path) range = (range.0, range.1, in_bounds q path range.2)

-- The path's clause may follow.
pub dead_follows : (q : Problem) (rows : List Row) (owner : ℕ) (w : Frame) (path : List (ℕ × ℕ)) (changes : List Change) (chosen : List Chosen) (e : End) (refs : List Ref) (name : Name) (forms : List Form) → IsLimited q → IsFrameOf q owner w
    → Dies q rows path changes e → IsChosenFor q rows path changes chosen e → AreGuessed path (told_of chosen) → EndExplained q rows w path chosen e refs forms
    → MayFollow w forms (U name (map (not_there q) path) refs) (pairs_clause q path)
dead_follows q rows owner w path changes chosen e refs name forms limited frame dies choice guessed ended = record {
  made = λ look finds own.
      dead_laws_hold.line q rows path changes e dies chosen choice.needed ended.own ended.ends choice.needs choice.choice ended.explained guessed ended.in_end look name refs
      (all_found w forms refs (ended.own ++ ended.ends) look ended.named finds own);
  rows = λ k names. named_rows w forms refs (ended.own ++ ended.ends) ended.named k names;
  ranges = ap (λ (p : Problem). in_range (variables p) (variables_of (map (not_there q) path))) frame.problem_is ∙ told_laws_hold.range q path dies.range;
  small = clause_small (map (not_there q) path) (let few = path_few (size q.pattern) (size q.target) path dies.distinct (in_bounds q path dies.range) in let most = limited.pattern in omega (arith, few, most, length-map path (not_there q)));
}

-- And is kept.
pub dead_goes : (q : Problem) (rows : List Row) (w : Frame) (path : List (ℕ × ℕ)) (cs : List Chosen) (e : End) (refs : List Ref) (now : List Form → Type 0) (a b c : Option (List Step)) (Before : List Form → Type 0) (n : Name)
    → Lasts now → Goes w a b Before (AreGathered q rows w path cs e refs now (Ok tt)) → Goes w b c (EndExplained q rows w path cs e refs) (IsKept w (Ok n) (pairs_clause q path))
    → Goes w a c Before (IsDeadName q path w now (Ok (Some n)))
dead_goes q rows w path cs e refs now a b c Before n lasts first kept =
    goes_then w a b c Before (AreGathered q rows w path cs e refs now (Ok tt)) (IsDeadName q path w now (Ok (Some n))) first
    (goes_as w b c (λ forms. EndExplained q rows w path cs e refs forms × now forms) (λ forms. IsKept w (Ok n) (pairs_clause q path) forms × now forms) (AreGathered q rows w path cs e refs now (Ok tt)) (IsDeadName q path w now (Ok (Some n)))
    (λ forms h. (h.1, h.0)) (λ forms h. (h.1, h.0)) (goes_beside w b c (EndExplained q rows w path cs e refs) (IsKept w (Ok n) (pairs_clause q path)) now lasts kept))

-- After a refusal nothing is claimed.
pub dead_none : (q : Problem) (path : List (ℕ × ℕ)) (w : Frame) (now : List Form → Type 0) (a b c : Option (List Step)) (Before Claim : List Form → Type 0) (x : AllocError) → Goes w a b Before Claim → c ≡ b
    → Goes w a c Before (IsDeadName q path w now (Err x))
dead_none q path w now a b c Before Claim x first same =
    goes_then w a b c Before Claim (IsDeadName q path w now (Err x)) first (goes_stay w b c Claim (IsDeadName q path w now (Err x)) same (λ forms h. tt))

pub dead_refused : (q : Problem) (path : List (ℕ × ℕ)) (w : Frame) (now : List Form → Type 0) (kept : Option (List Step)) (Before : List Form → Type 0) (x : AllocError) → Goes w kept kept Before (IsDeadName q path w now (Err x))
dead_refused q path w now kept Before x = goes_stay w kept kept Before (IsDeadName q path w now (Err x)) refl (λ forms h. tt)

-- Where nothing is kept there is no name.
pub dead_off : (q : Problem) (path : List (ℕ × ℕ)) (w : Frame) (now : List Form → Type 0) (kept : Option (List Step)) (Before : List Form → Type 0) → is_some kept ≡ false → Goes w kept kept Before (IsDeadName q path w now (Ok None))
dead_off q path w now None Before off = tt
dead_off q path w now (Some steps) Before off = absurd cc

-- What is chosen for the end, whatever is refuted.
pub chosen_for : (q : Problem) (rows : List Row) (path : List (ℕ × ℕ)) (cs : List Change) (chosen : List Chosen) (e : DeadEnd) (short : Option CountedSet) (values : List ℕ) → IsChosenFor q rows path cs chosen (end_by e short [])
    → IsChosenFor q rows path cs chosen (end_by e short values)
chosen_for q rows path cs chosen e short values h = record { needed = h.needed; needs = by e h.needs; choice = h.choice }
  where
    by : (e : DeadEnd) → EndNeeds rows path (end_by e short []) h.needed → EndNeeds rows path (end_by e short values) h.needed
    by (dead_end.Failed f) needs = needs
    by (dead_end.Exhausted p) needs = needs

-- ---- what is pushed for an end

pub ok_fits : (result : Result (Unit {0}) AllocError) (old new more : List Ref) → OnOk result (new ≡ old ++ more) → AreRefs old → AreRefs more → OnOk result (AreRefs new)
ok_fits (Ok u) old new more is a b = subst AreRefs (sym is) (refs_behind old more a b)
ok_fits (Err e) old new more is a b = tt

pub ok_behind : (result : Result (Unit {0}) AllocError) (old mid new more last : List Ref) → mid ≡ old ++ more → OnOk result (new ≡ mid ++ last) → OnOk result (new ≡ old ++ (more ++ last))
ok_behind (Ok u) old mid new more last first is = is ∙ ap (λ (xs : List Ref). xs ++ last) first ∙ append_assoc old more last
ok_behind (Err e) old mid new more last first is = tt

module _ (q : Problem) (rows : List Row) (w : Frame) (names : ℕ → Ref) (path known : List (ℕ × ℕ)) where
  -- What is pushed without a line being kept.
  pub end_pushed : (e f : End) (refuted : List Ref) (knows : List Form → Type 0) (kept : Option (List Step)) (result : Result (Unit {0}) AllocError) (old new : List Ref) → e ≡ f
      → ((forms : List Form) → IsBegun q rows w names path f refuted forms → OnOk result (AddsEnd q rows path known f w old new forms))
      → Goes w kept kept (Knowing knows (IsBegun q rows w names path e refuted)) (IsEndPushed q rows path known e w old new knows result)
  end_pushed e f refuted knows kept result old new is adds =
      subst (λ (x : End). Goes w kept kept (Knowing knows (IsBegun q rows w names path x refuted)) (IsEndPushed q rows path known x w old new knows result)) (sym is)
      (goes_stay w kept kept (Knowing knows (IsBegun q rows w names path f refuted)) (IsEndPushed q rows path known f w old new knows result) refl (λ forms h. by result forms h.0 (adds forms h.1)))
    where
      by : (result : Result (Unit {0}) AllocError) (forms : List Form) → knows forms → OnOk result (AddsEnd q rows path known f w old new forms) → IsEndPushed q rows path known f w old new knows result forms
      by (Ok u) forms known_ h = (known_, h)
      by (Err x) forms known_ h = tt

  -- Some forms that it comes to, by their references.
  pub end_named : (f : End) (result : Result (Unit {0}) AllocError) (old new more : List Ref) (ends forms : List Form) → EndsIn q rows path known f ends → OnOk result (new ≡ old ++ more) → AreNamed w forms more ends
      → OnOk result (AddsEnd q rows path known f w old new forms)
  end_named f (Ok u) old new more ends forms in_end pushed named = record { ends = ends; in_end = in_end; adds = record { more = more; front = pushed; named = named } }
  end_named f (Err x) old new more ends forms in_end pushed named = tt

  -- Those of a nogood.
  pub end_nogood : (owner name : ℕ) (result : Result (Unit {0}) AllocError) (old new : List Ref) (forms : List Form) → IsFrameOf q owner w → IsNogoodRow rows name → AreRowsNamed q rows w names forms
      → OnOk result (AddsNogood q rows names known None name old new) → OnOk result (AddsEnd q rows path known (Whole name) w old new forms)
  end_nogood owner name (Ok u) old new forms frame nogood named h = record {
    ends = at_leasts q h.vertices ++ pairs_clause q (path_at rows name) ∷ [];
    in_end = (h.vertices, refl, h.borne);
    adds = nogood_named q rows owner w names known None forms name old new frame nogood named h;
  }
  end_nogood owner name (Err x) old new forms frame nogood named h = tt

  -- The line of a set.
  pub set_pushed : (e : End) (centre : Option ℕ) (vertices values : List ℕ) (refuted : List Ref) (knows now : List Form → Type 0) (a b : Option (List Step))
      (result : Result (Unit {0}) AllocError) (old new : List Ref) → e ≡ Short centre vertices values → Goes w a b knows (IsSetPushed q centre vertices values w old new now result)
      → Goes w a b (Knowing knows (IsBegun q rows w names path e refuted)) (IsEndPushed q rows path known e w old new now result)
  set_pushed e centre vertices values refuted knows now a b result old new is goes =
      subst (λ (x : End). Goes w a b (Knowing knows (IsBegun q rows w names path x refuted)) (IsEndPushed q rows path known x w old new now result)) (sym is)
      (goes_as w a b knows (IsSetPushed q centre vertices values w old new now result) (Knowing knows (IsBegun q rows w names path (Short centre vertices values) refuted)) (IsEndPushed q rows path known (Short centre vertices values) w old new now result)
      (λ forms h. h.0) (λ forms h. by result forms h) goes)
    where
      by : (result : Result (Unit {0}) AllocError) (forms : List Form) → IsSetPushed q centre vertices values w old new now result forms → IsEndPushed q rows path known (Short centre vertices values) w old new now result forms
      by (Ok u) forms h = (h.0, record { ends = set_forms q centre vertices values; in_end = refl; adds = h.1 })
      by (Err x) forms h = tt

  -- After a refusal nothing is claimed.
  pub end_none : (e : End) (refuted : List Ref) (knows : List Form → Type 0) (kept : Option (List Step)) (old new : List Ref) (x : AllocError)
      → Goes w kept kept (Knowing knows (IsBegun q rows w names path e refuted)) (IsEndPushed q rows path known e w old new knows (Err x))
  end_none e refuted knows kept old new x =
      goes_stay w kept kept (Knowing knows (IsBegun q rows w names path e refuted)) (IsEndPushed q rows path known e w old new knows (Err x)) refl (λ forms h. tt)

-- A choice for needed values among which are those that the end needs.
pub choice_is : (q : Problem) (rows : List Row) (path : List (ℕ × ℕ)) (cs : List Change) (chosen : List Chosen) (e : End) (needed : ℕ → ℕ → Bool) (result : Result (Unit {0}) AllocError) → EndNeeds rows path e needed
    → OnOk result (IsChoice q rows path cs chosen needed) → OnOk result (IsChosenFor q rows path cs chosen e)
choice_is q rows path cs chosen e needed (Ok u) needs choice = record { needed = needed; needs = needs; choice = choice }
choice_is q rows path cs chosen e needed (Err x) needs choice = tt

-- What propagation tells is in range where its end is.
pub failed_in : (q : Problem) (rows : List Row) (f : Failure) (short : Option CountedSet) → ends.IsEndIn q rows (end_of f short) → IsEndIn q rows (end_by (dead_end.Failed f) short [])
failed_in q rows (failure.Empty p) short h = h
failed_in q rows (failure.Whole name) short h = h
failed_in q rows (failure.Short n) (Some set) h = h.0
failed_in q rows (failure.Short n) None h = h.0

-- A line that is kept is the last one.
pub last_kept : (owner : ℕ) (n : Name) (old new : Option (List Step)) (step : Step) → Keeps {E = AllocError} (Ok n) owner old new step → IsLastOf new n
last_kept owner n None None step k = tt
last_kept owner n None (Some ys) step k = absurd k
last_kept owner n (Some xs) None step k = absurd k
last_kept owner n (Some xs) (Some ys) step k =
    omega (arith, ap (λ (m : Name). m.number) k.0, ap (λ (ss : List Step). length ss) k.1, length-append xs (named owner (length xs) step ∷ []))
