-- From marks over an index to the trimmed log.
use Rattle.std.proofs.Common.{inl, inr, ◌≡◌, ◌≢◌, ℕ, zero, suc, ◌+◌, ◌^◌, ◌<◌, ◌≤◌, ◌==◌, Bool, true, false, cond, List, [], ◌∷◌, ◌++◌, length, length-append, map, get_or, Option, Some, None, refl, sym, ap, ◌∙◌, subst, arith}
use Rattle.std.specs.Prelude.{slice_get}
use Rattle.std.proofs.lemmas.Grind.{flat_map-append}
use Rattle.std.proofs.lemmas.Option.{slice_get_within}
use Rattle.log_theory.specs.declared.profile.Profile.TheVariants.{Hinted}
use Rattle.log_theory.specs.declared.step.Name.{Name}
use Rattle.log_theory.specs.declared.step.Op.{Op}
use Rattle.log_theory.specs.declared.step.Op.TheVariants.{Push, Axiom, Add, Times, Divide, Saturate}
use Rattle.log_theory.specs.declared.step.Ref.{Ref}
use Rattle.log_theory.specs.declared.step.Ref.TheVariants.{Line, Made, Shared}
use Rattle.log_theory.specs.declared.step.Step.{Step}
use Rattle.log_theory.specs.declared.step.Step.TheVariants.{Head, Model, P, U, N, D, E, Y, Q}
use Rattle.proof_theory.specs.Propagation.{IsAmong}
use Rattle.log_theory.specs.Words.{line_text}
use Rattle.log_theory.specs.LogText.{step_words}
use Rattle.journal_theory.specs.Referring.{step_refs}
use Rattle.journal_theory.specs.Journals.{own_name}
use Rattle.trim_theory.specs.Trimming.{made_names, row_name}
use Rattle.trim_theory.specs.Marking.{made_lines, place_of_row, place_at, Marked, rank, ref_to, new_ref, new_op, new_line, new_last, marked_deletions, marked_log, IsLast}
use Rattle.trim_theory.proofs.Placed.{place_is, Placed}
use Rattle.proof_trim.specs.declared.index.Index.{Index}
use Rattle.proof_trim.specs.Places.{place_by, place_in, IsIndexOf}
use Rattle.proof_trim.specs.Marks.{IsMarked}
use Rattle.trim_theory.proofs.Writing.{kept_few}
use Rattle.proof_trim.specs.Ranks.{mark_at, AreRanks, renamed}
use Rattle.proof_trim.specs.Texts.{steps_text}
use Rattle.proof_trim.specs.Trimmed.{IsRenewed, IsRenewedText}
use Rattle.proof_trim.specs.Lined.{IsScanned}
use Rattle.proof_trim.proofs.Indexing.{names_long}
use Rattle.proof_trim.proofs.Advancing.{left_count}
use Rattle.proof_trim.proofs.LinesRead.{text_snoc, reads_few, at_long}

-- ---- what an index knows

pub index_places : (index : Index) (log : List Step) → IsIndexOf index log → (q : Ref) → place_in index q ≡ place_at log (made_names (made_lines log)) q
index_places index log known (Line k) = refl
index_places index log known (Made name) = known.places name
index_places index log known (Shared k) = ap (place_by index) (known.rows k) ∙ by (row_name log k)
  where
    by : (o : Option Name) → place_by index o ≡ place_of_row (made_names (made_lines log)) o
    by None = refl
    by (Some name) = known.places name

-- ---- renaming that agrees

module _ (a b : Ref → Ref) (same : (q : Ref) → a q ≡ b q) where
  op_same : (o : Op) → new_op a o ≡ new_op b o
  op_same (Push q) = ap (λ (r : Ref). Push r) (same q)
  op_same (Axiom l) = refl
  op_same Add = refl
  op_same (Times n) = refl
  op_same (Divide n) = refl
  op_same Saturate = refl

  ops_same : (os : List Op) → map (new_op a) os ≡ map (new_op b) os
  ops_same [] = refl
  ops_same (o ∷ os) = ap (λ (p : Op). p ∷ map (new_op a) os) (op_same o) ∙ ap (λ (ps : List Op). new_op b o ∷ ps) (ops_same os)

  refs_same : (qs : List Ref) → map a qs ≡ map b qs
  refs_same [] = refl
  refs_same (q ∷ qs) = ap (λ (r : Ref). r ∷ map a qs) (same q) ∙ ap (λ (rs : List Ref). b q ∷ rs) (refs_same qs)

  line_same : (place : ℕ) (s : Step) → new_line a place s ≡ new_line b place s
  line_same place (P name ops) = ap (λ (os : List Op). P (own_name 0 place) os) (ops_same ops)
  line_same place (U name lits refs) = ap (λ (rs : List Ref). U (own_name 0 place) lits rs) (refs_same refs)
  line_same place Head = refl
  line_same place (Model m) = refl
  line_same place (N row name) = refl
  line_same place (D at) = refl
  line_same place (E at) = refl
  line_same place (Y ones) = refl
  line_same place Q = refl

  pub last_same : (s : Step) → new_last a s ≡ new_last b s
  last_same (E q) = ap (λ (r : Ref). E r) (same q)
  last_same Head = refl
  last_same (Model m) = refl
  last_same (P name ops) = refl
  last_same (U name lits refs) = refl
  last_same (N row name) = refl
  last_same (D at) = refl
  last_same (Y ones) = refl
  last_same Q = refl

  pub log_same : (mark : ℕ → ℕ) (place : ℕ) (ss : List Step) → marked_log a mark place ss ≡ marked_log b mark place ss
  log_same mark place [] = refl
  log_same mark place (s ∷ ss) = by (mark place == 0) (log_same mark (place + 1) ss)
    where
      by : (c : Bool) → marked_log a mark (place + 1) ss ≡ marked_log b mark (place + 1) ss
          → cond c (marked_log a mark (place + 1) ss) (new_line a (rank mark place) s ∷ (marked_deletions mark (place + 1) place ++ marked_log a mark (place + 1) ss))
          ≡ cond c (marked_log b mark (place + 1) ss) (new_line b (rank mark place) s ∷ (marked_deletions mark (place + 1) place ++ marked_log b mark (place + 1) ss))
      by true more = more
      by false more =
          ap (λ (u : Step). u ∷ (marked_deletions mark (place + 1) place ++ marked_log a mark (place + 1) ss)) (line_same (rank mark place) s)
          ∙ ap (λ (us : List Step). new_line b (rank mark place) s ∷ (marked_deletions mark (place + 1) place ++ us)) more

-- ---- marks over places that agree

pub marked_same : (a b : Ref → Option ℕ) → ((q : Ref) → a q ≡ b q) → (made : List Step) (last : Step) (at : ℕ) (marks : List ℕ) → IsMarked a made last at marks → IsMarked b made last at marks
marked_same a b same made last at marks m = record {
  long = m.long;
  by_line = λ i j s q l is kept among lands low. m.by_line i j s q l is kept among (same q ∙ lands) low;
  by_last = λ i q among lands l. m.by_last i q among (same q ∙ lands) l;
  from = λ i j is. let h = m.from i j is in (
    h.0,
    elim h.1 [
      | inl k ↦ inl (k.0, k.1, k.2, (k.3.0, k.3.1, sym (same k.3.0) ∙ k.3.2))
      | inr k ↦ inr (k.0, (k.1.0, k.1.1, sym (same k.1.0) ∙ k.1.2))
    ],
  );
}

-- A mark is at most one more than there are lines.
pub marks_low : (place : Ref → Option ℕ) (made : List Step) (last : Step) (marks : List ℕ) → IsMarked place made last 0 marks → (i : ℕ) → get_or marks i 0 ≤ length made + 1
marks_low place made last marks m i = by (get_or marks i 0) refl
  where
    by : (n : ℕ) → get_or marks i 0 ≡ n → n ≤ length made + 1
    by zero e = omega arith
    by (suc j) e = elim (m.from i j e).1 [
      | inl k ↦ (let w = slice_get_within made j k.0 k.1 in omega (arith, w))
      | inr k ↦ (let w = k.0 in omega (arith, w))
    ]

-- ---- the marks that the law asks for

some_place : (a b : ℕ) → let x : Option ℕ = Some a in let y : Option ℕ = Some b in x ≡ y → a ≡ b
some_place a b e = cc

-- What stands before a line, and has a place, has a lower one.
placed_low : (log : List Step) (names : List Name) (j i : ℕ) (q : Ref) → Placed log names j q → place_at log names q ≡ Some i → i < j
placed_low log names j i (Line k) p e = absurd cc
placed_low log names j i (Made name) p e = let l = p.1 in let s = some_place p.0 i (sym p.2 ∙ e) in omega (arith, l, s)
placed_low log names j i (Shared k) p e = let l = p.1 in let s = some_place p.0 i (sym p.2 ∙ e) in omega (arith, l, s)

-- A place is that of a line.
place_within : (log : List Step) (i : ℕ) (q : Ref) → place_at log (made_names (made_lines log)) q ≡ Some i → i < length (made_lines log)
place_within log i (Line k) e = absurd cc
place_within log i (Made name) e = let w = slice_get_within (made_names (made_lines log)) i name (place_is (made_names (made_lines log)) name i e) in let n = names_long log in omega (arith, w, n)
place_within log i (Shared k) e = by (row_name log k) e
  where
    by : (o : Option Name) → place_of_row (made_names (made_lines log)) o ≡ Some i → i < length (made_lines log)
    by None h = absurd cc
    by (Some name) h = let w = slice_get_within (made_names (made_lines log)) i name (place_is (made_names (made_lines log)) name i h) in let n = names_long log in omega (arith, w, n)

-- The places of an index lie within the lines.
pub index_within : (index : Index) (log : List Step) → IsIndexOf index log → (q : Ref) (i : ℕ) → place_in index q ≡ Some i → i < length (made_lines log)
index_within index log known q i e = place_within log i q (sym (index_places index log known q) ∙ e)

pub marked_all : (log : List Step) (last : Step) (marks : List ℕ) → IsMarked (place_at log (made_names (made_lines log))) (made_lines log) last 0 marks
    → ((j : ℕ) (s : Step) → slice_get (made_lines log) j ≡ Some s → get_or marks j 0 ≢ 0 → (q : Ref) → IsAmong q (step_refs s) → Placed log (made_names (made_lines log)) j q)
    → Marked log last (mark_at marks)
marked_all log last marks m grounds = record {
  by_line = λ i j s q is kept among lands. m.by_line i j s q (omega arith) is kept among lands (placed_low log (made_names (made_lines log)) j i q (grounds j s is kept q among) lands);
  by_last = λ i q among lands. m.by_last i q among lands (place_within log i q lands);
  from = λ i j is. (m.from i j is).1;
}

-- ---- what is put

text_whole : (count : ℕ) (steps : List Step) (end : Step) (head lines text : List ℕ) → head ≡ steps_text (Head ∷ Model count ∷ []) → lines ≡ head ++ steps_text steps → text ≡ lines ++ line_text (step_words end)
    → text ≡ steps_text (Head ∷ Model count ∷ (steps ++ end ∷ []))
text_whole count steps end head lines text head_is lines_are text_is =
    text_is
    ∙ ap (λ (xs : List ℕ). xs ++ line_text (step_words end)) (lines_are ∙ ap (λ (xs : List ℕ). xs ++ steps_text steps) head_is ∙ sym (flat_map-append (λ (s : Step). line_text (step_words s)) (Head ∷ Model count ∷ []) steps))
    ∙ text_snoc (Head ∷ Model count ∷ steps) end

-- ---- what the parts give together

pub renewed : (index : Index) (hinted : List Step) (last : Step) (marks : List ℕ) (lines : List Step) (end : Step) (made : ℕ) → IsIndexOf index hinted → IsMarked (place_in index) (made_lines hinted) last 0 marks
    → lines ≡ marked_log (renamed index marks) (mark_at marks) 0 (made_lines hinted) → (IsLast last → end ≡ new_last (renamed index marks) last) → made ≡ length (made_lines hinted) → IsRenewed hinted last lines end made
renewed index hinted last marks lines end made known marked lines_are end_is made_is = record {
  marks = marks;
  marked = marked_same (place_in index) (place_at hinted (made_names (made_lines hinted))) places (made_lines hinted) last 0 marks marked;
  lines_are = lines_are ∙ log_same (renamed index marks) (new_ref hinted (mark_at marks)) news (mark_at marks) 0 (made_lines hinted);
  end_is = λ l. end_is l ∙ last_same (renamed index marks) (new_ref hinted (mark_at marks)) news last;
  made_is = made_is;
}
  where
    places : (q : Ref) → place_in index q ≡ place_at hinted (made_names (made_lines hinted)) q
    places = index_places index hinted known

    news : (q : Ref) → renamed index marks q ≡ new_ref hinted (mark_at marks) q
    news q = ap (ref_to (mark_at marks) q) (places q)

-- There are no more steps than bytes, nor more places.
pub scanned_few : (text : List ℕ) (index : Index) (places : List ℕ) (last : Step) (k : IsScanned text index places last) → length text < 2 ^ 63 → (length k.steps < 2 ^ 63) × (length places < 2 ^ 63) × (length places ≡ length (made_lines k.steps))
scanned_few text index places last k few =
    let a = reads_few Hinted text (k.steps ++ last ∷ []) k.reads in
    let b = length-append k.steps (last ∷ []) in
    let c = at_long text places (made_lines k.steps) k.at in
    let d = kept_few (λ name. true) k.steps in
    (omega (arith, a, b, few), omega (arith, a, b, c, d, few), c)

-- What the parts of a renewal have found: where each name stands, the lines that make a constraint, their marks, and how many needed ones
-- stand before each.
pub record Found (index : Index) (hinted : List Step) (last : Step) (made : List Step) (marks ranks : List ℕ) : Type 0 where
  pub known : IsIndexOf index hinted
  pub made_is : made ≡ made_lines hinted
  pub marked : IsMarked (place_in index) made last 0 marks
  pub ranked : AreRanks marks ranks

-- As the parts are given, behind references.
pub found : (index : Index) (hinted : List Step) (last : Step) (made : List Step) (marks ranks : List ℕ) (h m : List Step) (n : List ℕ) → h ≡ hinted → made ≡ made_lines hinted → m ≡ made → n ≡ marks → IsIndexOf index h
    → IsMarked (place_in index) m last 0 marks → AreRanks n ranks → Found index hinted last made marks ranks
found index hinted last made marks ranks h m n here made_is there same known marked ranked = record {
  known = subst (IsIndexOf index) here known;
  made_is = made_is;
  marked = subst (λ (ss : List Step). IsMarked (place_in index) ss last 0 marks) there marked;
  ranked = subst (λ (ns : List ℕ). AreRanks ns ranks) same ranked;
}

module _ (index : Index) (hinted : List Step) (last : Step) (made : List Step) (marks ranks n r : List ℕ) (f : Found index hinted last made marks ranks) (same : n ≡ marks) where
  -- There are no more marks than lines.
  long : length n ≡ length (made_lines hinted)
  long = ap (λ (ns : List ℕ). length ns) same ∙ f.marked.long ∙ ap (λ (ss : List Step). length ss) f.made_is

  pub marks_long : length n ≡ length made
  marks_long = ap (λ (ns : List ℕ). length ns) same ∙ f.marked.long

  -- What a renaming asks for.
  pub ready : length hinted < 2 ^ 63 → r ≡ ranks → AreRanks n r × (length n < 2 ^ 63) × ((q : Ref) (i : ℕ) → place_in index q ≡ Some i → i < length n)
  ready few alike = (
    subst (λ (rs : List ℕ). AreRanks n rs) (sym alike) (subst (λ (ns : List ℕ). AreRanks ns ranks) (sym same) f.ranked),
    (let l = kept_few (λ name. true) hinted in let e = long in omega (arith, few, l, e)),
    λ q i e. let w = index_within index hinted f.known q i e in let l = long in omega (arith, w, l),
  )

  -- Marks are low.
  pub low : (m : List Step) → m ≡ made → (i : ℕ) → get_or n i 0 ≤ length m + 1
  low m there i =
      let l = marks_low (place_in index) made last marks f.marked i in
      let e = ap (λ (ns : List ℕ). get_or ns i 0) same in
      let k = ap (λ (ss : List Step). length ss) there in
      omega (arith, l, e, k)

  -- The lines and the last one are renewed.
  pub all_renewed : (m lines : List Step) (end : Step) (count : ℕ) → m ≡ made → lines ≡ marked_log (renamed index n) (mark_at n) 0 m → (IsLast last → end ≡ new_last (renamed index n) last) → count ≡ length made → IsRenewed hinted last lines end count
  all_renewed m lines end count there lines_are end_is count_is =
      renewed index hinted last marks lines end count f.known (subst (λ (ss : List Step). IsMarked (place_in index) ss last 0 marks) f.made_is f.marked)
      (lines_are ∙ ap (λ (ns : List ℕ). marked_log (renamed index ns) (mark_at ns) 0 m) same ∙ ap (marked_log (renamed index marks) (mark_at marks) 0) (there ∙ f.made_is))
      (λ l. end_is l ∙ ap (λ (ns : List ℕ). new_last (renamed index ns) last) same) (count_is ∙ ap (λ (ss : List Step). length ss) f.made_is)

  -- The text of the lines and the last one.
  pub all_text : (m : List Step) (end : Step) (constraints count kept : ℕ) (k head lines text : List ℕ) → m ≡ made → (IsLast last → end ≡ new_last (renamed index n) last) → count ≡ length made
      → head ≡ steps_text (Head ∷ Model constraints ∷ []) → lines ≡ head ++ steps_text (marked_log (renamed index n) (mark_at n) 0 m) → text ≡ lines ++ line_text (step_words end) → k ≡ n → kept ≡ rank (mark_at k) (length k)
      → IsRenewedText constraints hinted last text count kept
  all_text m end constraints count kept k head lines text there end_is count_is head_is lines_are text_is alike kept_is = record {
    lines = marked_log (renamed index n) (mark_at n) 0 m;
    end = end;
    renewed = all_renewed m (marked_log (renamed index n) (mark_at n) 0 m) end count there refl end_is count_is;
    text_is = text_whole constraints (marked_log (renamed index n) (mark_at n) 0 m) end head lines text head_is lines_are text_is;
    kept_is =
        kept_is
        ∙ ap (λ (ns : List ℕ). rank (mark_at ns) (length ns)) alike
        ∙ ap (rank (mark_at n)) (long ∙ (let e : length (made_lines hinted) ≡ 0 + length (made_lines hinted) = omega arith in e))
        ∙ sym (left_count (renamed index n) (mark_at n) 0 hinted)
        ∙ (let e : length (made_lines (marked_log (renamed index n) (mark_at n) 0 (made_lines hinted))) + 0 ≡ length (made_lines (marked_log (renamed index n) (mark_at n) 0 (made_lines hinted))) = omega arith in e)
        ∙ ap (λ (ss : List Step). length (made_lines (marked_log (renamed index n) (mark_at n) 0 ss))) (sym (there ∙ f.made_is));
  }
