-- Of a log with hints there is one trimmed log.
use Rattle.std.proofs.Common.{◌≡◌, ℕ, zero, suc, ◌+◌, ◌==◌, Bool, true, false, cond, List, [], ◌∷◌, ◌++◌, length, map, Option, Some, refl, sym, ap, ◌∙◌, subst, length-append, append_assoc, arith}
use Rattle.std.specs.Prelude.{slice_get}
use Rattle.std.proofs.lemmas.Bool.{both_ways}
use Rattle.log_theory.specs.declared.profile.Profile.{Profile}
use Rattle.log_theory.specs.declared.profile.Profile.TheVariants.{Hinted}
use Rattle.proof_theory.specs.declared.literal.Literal.{Literal}
use Rattle.log_theory.specs.declared.step.Name.{Name}
use Rattle.log_theory.specs.declared.step.Op.{Op}
use Rattle.log_theory.specs.declared.step.Op.TheVariants.{Push, Axiom, Add, Times, Divide, Saturate}
use Rattle.log_theory.specs.declared.step.Ref.{Ref}
use Rattle.log_theory.specs.declared.step.Ref.TheVariants.{Line, Made, Shared}
use Rattle.log_theory.specs.declared.step.Step.{Step}
use Rattle.log_theory.specs.declared.step.Step.TheVariants.{Head, Model, P, U, N, D, E, Y, Q}
use Rattle.proof_theory.specs.Propagation.{IsAmong}
use Rattle.log_theory.specs.Words.{pieces}
use Rattle.log_theory.specs.Profiles.{told_in, profile_in, log_profile}
use Rattle.log_theory.specs.Tables.{empty_table}
use Rattle.log_theory.specs.Acceptance.{lines_text}
use Rattle.journal_theory.specs.Stepping.{step_line}
use Rattle.journal_theory.specs.Journals.{own_name}
use Rattle.trim_theory.specs.Renaming.{Renaming, RefsRenamed, OpRenamed, OpsRenamed, LineRenamed, LinesRenamed, EndRenamed}
use Rattle.trim_theory.specs.Running.{later_refs, with_deletions}
use Rattle.trim_theory.specs.Trimming.{StepsIn, kept_lines, made_names, kept_names, row_name, ToKept, AreUsed, Trims}
use Rattle.trim_theory.specs.Logs.{AreRead, IsLogOf, ended_log, AreSteps}
use Rattle.trim_theory.specs.Laws.{OneLaw, OneTextLaw, OneLaws}
use Rattle.trim_theory.proofs.Telling.{lines_cut, lines_one, steps_told}
use Rattle.trim_theory.proofs.Referring.{own_named, op_pushes, lines_refs, renamed_from, renamed_to}
use Rattle.trim_theory.proofs.Distinct.{names_distinct}

-- ---- which lines are kept

-- The reference is this name, or a row that shares it.
abbrev Names : List Step → Ref → Name → Type 0
Names log (Line k) name = ⊥
Names log (Made nm) name = nm ≡ name
Names log (Shared k) name = row_name log k ≡ Some name

own_same : (i j : ℕ) → Made (own_name 0 i) ≡ Made (own_name 0 j) → i ≡ j
own_same i j e = let n : own_name 0 i ≡ own_name 0 j = cc in omega (arith, ap (λ (x : Name). x.number) n)

some_name : (a b : Name) → let x : Option Name = Some a in let y : Option Name = Some b in x ≡ y → a ≡ b
some_name a b e = cc

-- A reference that becomes the name of a place is the name there.
names_place : (log : List Step) (names : List Name) (q : Ref) (i : ℕ) (name : Name) → ToKept log names q (Made (own_name 0 i)) → slice_get names i ≡ Some name → Names log q name
names_place log names (Line k) i name h at = absurd cc
names_place log names (Made nm) i name h at = some_name nm name (sym h.1 ∙ ap (slice_get names) (sym (own_same i h.0 h.2)) ∙ at)
names_place log names (Shared k) i name h at = h.1 ∙ sym h.2.1 ∙ ap (slice_get names) (sym (own_same i h.2.0 h.2.2)) ∙ at

-- What is renamed has its name among those that are kept.
place_named : (log : List Step) (names : List Name) (q r : Ref) (name : Name) → ToKept log names q r → Names log q name → (j : ℕ) × (slice_get names j ≡ Some name)
place_named log names (Line k) r name h n = absurd n
place_named log names (Made nm) r name h n = (h.0, h.1 ∙ ap (λ (x : Name). let o : Option Name = Some x in o) n)
place_named log names (Shared k) r name h n = (h.2.0, h.2.1 ∙ sym h.1 ∙ n)

-- A name among those that are kept is kept.
kept_true : (keep : Name → Bool) (log : List Step) (j : ℕ) (name : Name) → slice_get (kept_names keep log) j ≡ Some name → keep name ≡ true
kept_true keep [] j name at = absurd cc
kept_true keep (P nm ops ∷ ss) j name at = by (keep nm) refl j at (λ i e. kept_true keep ss i name e)
  where
    by : (b : Bool) → keep nm ≡ b → (i : ℕ) → slice_get (made_names (cond b (P nm ops ∷ kept_lines keep ss) (kept_lines keep ss))) i ≡ Some name
        → ((k : ℕ) → slice_get (kept_names keep ss) k ≡ Some name → keep name ≡ true) → keep name ≡ true
    by true is zero e ih = ap keep (sym (some_name nm name e)) ∙ is
    by true is (suc i) e ih = ih i e
    by false is i e ih = ih i e
kept_true keep (U nm lits refs ∷ ss) j name at = by (keep nm) refl j at (λ i e. kept_true keep ss i name e)
  where
    by : (b : Bool) → keep nm ≡ b → (i : ℕ) → slice_get (made_names (cond b (U nm lits refs ∷ kept_lines keep ss) (kept_lines keep ss))) i ≡ Some name
        → ((k : ℕ) → slice_get (kept_names keep ss) k ≡ Some name → keep name ≡ true) → keep name ≡ true
    by true is zero e ih = ap keep (sym (some_name nm name e)) ∙ is
    by true is (suc i) e ih = ih i e
    by false is i e ih = ih i e
kept_true keep (Head ∷ ss) j name at = kept_true keep ss j name at
kept_true keep (Model m ∷ ss) j name at = kept_true keep ss j name at
kept_true keep (N row nm ∷ ss) j name at = kept_true keep ss j name at
kept_true keep (D r ∷ ss) j name at = kept_true keep ss j name at
kept_true keep (E r ∷ ss) j name at = kept_true keep ss j name at
kept_true keep (Y ones ∷ ss) j name at = kept_true keep ss j name at
kept_true keep (Q ∷ ss) j name at = kept_true keep ss j name at

get_at : {A : Type 0} (xs ys : List A) (x : A) → slice_get (xs ++ x ∷ ys) (length xs) ≡ Some x
get_at [] ys x = refl
get_at (y ∷ xs) ys x = get_at xs ys x

module _ (log : List Step) (last : Step) where
  -- One trimmed log, seen from a line on: the kept lines from there, and what they became.
  record Side (keep : Name → Bool) (ks us : List Step) (end : Step) (place : ℕ) : Type 0 where
    earlier : List Name
    names_are : kept_names keep log ≡ earlier ++ made_names ks
    long : length earlier ≡ place
    renamed : LinesRenamed (ToKept log (kept_names keep log)) place ks us
    ends : EndRenamed (ToKept log (kept_names keep log)) last end
    used : AreUsed place us end

  record Behind (keep : Name → Bool) (ks : List Step) (end : Step) : Type 0 where
    lines : List Step
    place : ℕ
    side : Side keep ks lines end place

  -- Behind a line, kept or not.
  behind : (keep : Name → Bool) (s : Step) (name : Name) (b : Bool) (ks us : List Step) (end : Step) (place : ℕ) → ((ss : List Step) → made_names (s ∷ ss) ≡ name ∷ made_names ss)
      → Side keep (cond b (s ∷ ks) ks) us end place → Behind keep ks end
  behind keep s name false ks us end place bears side = record { lines = us; place = place; side = side }
  behind keep s name true ks [] end place bears side = absurd side.renamed
  behind keep s name true ks (u ∷ us) end place bears side = record {
    lines = us;
    place = place + 1;
    side = record {
      earlier = side.earlier ++ name ∷ [];
      names_are = side.names_are ∙ ap (λ (ns : List Name). side.earlier ++ ns) (bears ks) ∙ sym (append_assoc side.earlier (name ∷ []) (made_names ks));
      long = length-append side.earlier (name ∷ []) ∙ ap (λ (n : ℕ). n + 1) side.long;
      renamed = side.renamed.1;
      ends = side.ends;
      used = side.used.1;
    };
  }

  -- A kept line is named by a later one or by the last.
  named_later : (keep : Name → Bool) (s : Step) (name : Name) (ks us : List Step) (end : Step) (place : ℕ) → ((ss : List Step) → made_names (s ∷ ss) ≡ name ∷ made_names ss)
      → Side keep (s ∷ ks) us end place → (q : Ref) × IsAmong q (later_refs ks last) × Names log q name
  named_later keep s name ks [] end place bears side = absurd side.renamed
  named_later keep s name ks (u ∷ us) end place bears side =
      let to = ToKept log (kept_names keep log) in
      let at : slice_get (kept_names keep log) place ≡ Some name =
      ap (λ (ns : List Name). slice_get ns place) (side.names_are ∙ ap (λ (ns : List Name). side.earlier ++ ns) (bears ks)) ∙ ap (slice_get (side.earlier ++ name ∷ made_names ks)) (sym side.long) ∙ get_at side.earlier (made_names ks) name in
      let k = renamed_from to (later_refs ks last) (later_refs us end) (Made (own_name 0 place)) (lines_refs to (place + 1) ks us last end side.renamed.1 side.ends) (own_named place (later_refs us end) side.used.0) in
      (k.0, k.1, names_place log (kept_names keep log) k.0 place name k.2 at)

  -- What later kept lines name, or the last, is kept.
  kept_named : (keep : Name → Bool) (ks us : List Step) (end : Step) (place : ℕ) (q : Ref) (name : Name) → Side keep ks us end place → IsAmong q (later_refs ks last) → Names log q name → keep name ≡ true
  kept_named keep ks us end place q name side i n =
      let to = ToKept log (kept_names keep log) in
      let r = renamed_to to (later_refs ks last) (later_refs us end) q (lines_refs to place ks us last end side.renamed side.ends) i in
      let j = place_named log (kept_names keep log) q r.0 name r.1 n in
      kept_true keep log j.0 name j.1

  same_first : (keep other : Name → Bool) (s : Step) (name : Name) (ks js us vs : List Step) (end stop : Step) (p m : ℕ) → ((ss : List Step) → made_names (s ∷ ss) ≡ name ∷ made_names ss)
      → Behind keep ks end → Behind other js stop → ks ≡ js → (b c : Bool) → keep name ≡ b → other name ≡ c
      → Side keep (cond b (s ∷ ks) ks) us end p → Side other (cond c (s ∷ js) js) vs stop m → cond b (s ∷ ks) ks ≡ cond c (s ∷ js) js
  same_first keep other s name ks js us vs end stop p m bears x y same true true kb kc a d = ap (λ (xs : List Step). s ∷ xs) same
  same_first keep other s name ks js us vs end stop p m bears x y same false false kb kc a d = same
  same_first keep other s name ks js us vs end stop p m bears x y same true false kb kc a d =
      let n = named_later keep s name ks us end p bears a in
      absurd (both_ways (other name) kc (kept_named other js y.lines stop y.place n.0 name y.side (subst (λ (xs : List Step). IsAmong n.0 (later_refs xs last)) same n.1) n.2))
  same_first keep other s name ks js us vs end stop p m bears x y same false true kb kc a d =
      let n = named_later other s name js vs stop m bears d in
      absurd (both_ways (keep name) kb (kept_named keep ks x.lines end x.place n.0 name x.side (subst (λ (xs : List Step). IsAmong n.0 (later_refs xs last)) (sym same) n.1) n.2))

  -- From the log's end on, two trimmed logs keep the same lines.
  same_kept : (keep other : Name → Bool) (rest us vs : List Step) (end stop : Step) (p m : ℕ) → Side keep (kept_lines keep rest) us end p → Side other (kept_lines other rest) vs stop m
      → kept_lines keep rest ≡ kept_lines other rest
  same_kept keep other [] us vs end stop p m a d = refl
  same_kept keep other (P name ops ∷ ss) us vs end stop p m a d =
      let x = behind keep (P name ops) name (keep name) (kept_lines keep ss) us end p (λ ts. refl) a in
      let y = behind other (P name ops) name (other name) (kept_lines other ss) vs stop m (λ ts. refl) d in
      let rest = same_kept keep other ss x.lines y.lines end stop x.place y.place x.side y.side in
      same_first keep other (P name ops) name (kept_lines keep ss) (kept_lines other ss) us vs end stop p m (λ ts. refl) x y rest (keep name) (other name) refl refl a d
  same_kept keep other (U name lits refs ∷ ss) us vs end stop p m a d =
      let x = behind keep (U name lits refs) name (keep name) (kept_lines keep ss) us end p (λ ts. refl) a in
      let y = behind other (U name lits refs) name (other name) (kept_lines other ss) vs stop m (λ ts. refl) d in
      let rest = same_kept keep other ss x.lines y.lines end stop x.place y.place x.side y.side in
      same_first keep other (U name lits refs) name (kept_lines keep ss) (kept_lines other ss) us vs end stop p m (λ ts. refl) x y rest (keep name) (other name) refl refl a d
  same_kept keep other (Head ∷ ss) us vs end stop p m a d = same_kept keep other ss us vs end stop p m a d
  same_kept keep other (Model k ∷ ss) us vs end stop p m a d = same_kept keep other ss us vs end stop p m a d
  same_kept keep other (N row name ∷ ss) us vs end stop p m a d = same_kept keep other ss us vs end stop p m a d
  same_kept keep other (D r ∷ ss) us vs end stop p m a d = same_kept keep other ss us vs end stop p m a d
  same_kept keep other (E r ∷ ss) us vs end stop p m a d = same_kept keep other ss us vs end stop p m a d
  same_kept keep other (Y ones ∷ ss) us vs end stop p m a d = same_kept keep other ss us vs end stop p m a d
  same_kept keep other (Q ∷ ss) us vs end stop p m a d = same_kept keep other ss us vs end stop p m a d

-- ---- one renaming

-- Where names are distinct a reference becomes one.
one_new : (log : List Step) (names : List Name) → ((i j : ℕ) (nm : Name) → slice_get names i ≡ Some nm → slice_get names j ≡ Some nm → i ≡ j)
    → (q r p : Ref) → ToKept log names q r → ToKept log names q p → r ≡ p
one_new log names distinct (Line k) r p h g = h ∙ sym g
one_new log names distinct (Made nm) r p h g = h.2 ∙ ap (λ (i : ℕ). Made (own_name 0 i)) (distinct h.0 g.0 nm h.1 g.1) ∙ sym g.2
one_new log names distinct (Shared k) r p h g =
    let same : h.0 ≡ g.0 = some_name h.0 g.0 (sym h.1 ∙ g.1) in
    let at : slice_get names g.2.0 ≡ Some h.0 = g.2.1 ∙ ap (λ (x : Name). let o : Option Name = Some x in o) (sym same) in
    h.2.2 ∙ ap (λ (i : ℕ). Made (own_name 0 i)) (distinct h.2.0 g.2.0 h.0 h.2.1 at) ∙ sym g.2.2

module _ (to : Renaming) (only : (q r p : Ref) → to q r → to q p → r ≡ p) where
  refs_same : (qs rs ps : List Ref) → RefsRenamed to qs rs → RefsRenamed to qs ps → rs ≡ ps
  refs_same [] [] [] h k = refl
  refs_same [] [] (p ∷ ps) h k = absurd k
  refs_same [] (r ∷ rs) ps h k = absurd h
  refs_same (q ∷ qs) [] ps h k = absurd h
  refs_same (q ∷ qs) (r ∷ rs) [] h k = absurd k
  refs_same (q ∷ qs) (r ∷ rs) (p ∷ ps) h k = ap (λ (x : Ref). x ∷ rs) (only q r p h.0 k.0) ∙ ap (λ (xs : List Ref). p ∷ xs) (refs_same qs rs ps h.1 k.1)

  op_same : (o p w : Op) → OpRenamed to o p → OpRenamed to o w → p ≡ w
  op_same (Push q) p w h k =
      let a = op_pushes to q p h in
      let b = op_pushes to q w k in
      a.1 ∙ ap (λ (x : Ref). Push x) (only q a.0 b.0 a.2 b.2) ∙ sym b.1
  op_same (Axiom l) p w h k = h ∙ sym k
  op_same Add p w h k = h ∙ sym k
  op_same (Times n) p w h k = h ∙ sym k
  op_same (Divide n) p w h k = h ∙ sym k
  op_same Saturate p w h k = h ∙ sym k

  ops_same : (os ps ws : List Op) → OpsRenamed to os ps → OpsRenamed to os ws → ps ≡ ws
  ops_same [] [] [] h k = refl
  ops_same [] [] (w ∷ ws) h k = absurd k
  ops_same [] (p ∷ ps) ws h k = absurd h
  ops_same (o ∷ os) [] ws h k = absurd h
  ops_same (o ∷ os) (p ∷ ps) [] h k = absurd k
  ops_same (o ∷ os) (p ∷ ps) (w ∷ ws) h k = ap (λ (x : Op). x ∷ ps) (op_same o p w h.0 k.0) ∙ ap (λ (xs : List Op). w ∷ xs) (ops_same os ps ws h.1 k.1)

  -- What a line became, by its parts.
  p_is : (place : ℕ) (name : Name) (ops : List Op) (u : Step) → LineRenamed to place (P name ops) u → (os : List Op) × (u ≡ P (own_name 0 place) os) × OpsRenamed to ops os
  p_is place name ops (P new os) h = (os, ap (λ (n : Name). P n os) h.0, h.1)
  p_is place name ops (U new ls rs) h = absurd h
  p_is place name ops Head h = absurd h
  p_is place name ops (Model m) h = absurd h
  p_is place name ops (N row nm) h = absurd h
  p_is place name ops (D at) h = absurd h
  p_is place name ops (E at) h = absurd h
  p_is place name ops (Y ones) h = absurd h
  p_is place name ops Q h = absurd h

  u_is : (place : ℕ) (name : Name) (lits : List Literal) (refs : List Ref) (u : Step) → LineRenamed to place (U name lits refs) u
      → (rs : List Ref) × (u ≡ U (own_name 0 place) lits rs) × RefsRenamed to refs rs
  u_is place name lits refs (U new ls rs) h = (rs, ap (λ (n : Name). U n ls rs) h.0 ∙ ap (λ (xs : List Literal). U (own_name 0 place) xs rs) h.1, h.2)
  u_is place name lits refs (P new os) h = absurd h
  u_is place name lits refs Head h = absurd h
  u_is place name lits refs (Model m) h = absurd h
  u_is place name lits refs (N row nm) h = absurd h
  u_is place name lits refs (D at) h = absurd h
  u_is place name lits refs (E at) h = absurd h
  u_is place name lits refs (Y ones) h = absurd h
  u_is place name lits refs Q h = absurd h

  line_same : (place : ℕ) (s u v : Step) → LineRenamed to place s u → LineRenamed to place s v → u ≡ v
  line_same place (P name ops) u v h k =
      let a = p_is place name ops u h in
      let b = p_is place name ops v k in
      a.1 ∙ ap (λ (os : List Op). P (own_name 0 place) os) (ops_same ops a.0 b.0 a.2 b.2) ∙ sym b.1
  line_same place (U name lits refs) u v h k =
      let a = u_is place name lits refs u h in
      let b = u_is place name lits refs v k in
      a.1 ∙ ap (λ (rs : List Ref). U (own_name 0 place) lits rs) (refs_same refs a.0 b.0 a.2 b.2) ∙ sym b.1
  line_same place s u v h k = absurd h

  lines_same : (place : ℕ) (ss us vs : List Step) → LinesRenamed to place ss us → LinesRenamed to place ss vs → us ≡ vs
  lines_same place [] [] [] h k = refl
  lines_same place [] [] (v ∷ vs) h k = absurd k
  lines_same place [] (u ∷ us) vs h k = absurd h
  lines_same place (s ∷ ss) [] vs h k = absurd h
  lines_same place (s ∷ ss) (u ∷ us) [] h k = absurd k
  lines_same place (s ∷ ss) (u ∷ us) (v ∷ vs) h k =
      ap (λ (x : Step). x ∷ us) (line_same place s u v h.0 k.0) ∙ ap (λ (xs : List Step). v ∷ xs) (lines_same (place + 1) ss us vs h.1 k.1)

  e_is : (q : Ref) (u : Step) → EndRenamed to (E q) u → (r : Ref) × (u ≡ E r) × to q r
  e_is q (E r) h = (r, refl, h)
  e_is q (P new os) h = absurd h
  e_is q (U new ls rs) h = absurd h
  e_is q Head h = absurd h
  e_is q (Model m) h = absurd h
  e_is q (N row nm) h = absurd h
  e_is q (D at) h = absurd h
  e_is q (Y ones) h = absurd h
  e_is q Q h = absurd h

  end_same : (s u v : Step) → EndRenamed to s u → EndRenamed to s v → u ≡ v
  end_same (E q) u v h k =
      let a = e_is q u h in
      let b = e_is q v k in
      a.1 ∙ ap (λ (r : Ref). E r) (only q a.0 b.0 a.2 b.2) ∙ sym b.1
  end_same (Y ones) u v h k = h ∙ sym k
  end_same Q u v h k = h ∙ sym k
  end_same s u v h k = absurd h

-- ---- one trimmed log

told_same : (xs : List Step) → map (told_in Hinted) xs ≡ xs
told_same [] = refl
told_same (x ∷ xs) = ap (λ (ys : List Step). x ∷ ys) (told_same xs)

one_of_steps : OneLaw
one_of_steps model log z last out other end stop range steps a b =
    by a.keep b.keep a.lines b.lines
    (subst (λ (xs : List Step). LinesRenamed (ToKept xs (kept_names a.keep xs)) 0 (kept_lines a.keep xs) a.lines) (hints_are a.hinted a.told) a.renamed)
    (subst (λ (xs : List Step). EndRenamed (ToKept xs (kept_names a.keep xs)) last end) (hints_are a.hinted a.told) a.ends) a.used a.deleted
    (subst (λ (xs : List Step). LinesRenamed (ToKept xs (kept_names b.keep xs)) 0 (kept_lines b.keep xs) b.lines) (hints_are b.hinted b.told) b.renamed)
    (subst (λ (xs : List Step). EndRenamed (ToKept xs (kept_names b.keep xs)) last stop) (hints_are b.hinted b.told) b.ends) b.used b.deleted
  where
    hints_are : (hinted : List Step) → map (told_in Hinted) hinted ≡ log → hinted ≡ log
    hints_are hinted e = sym (told_same hinted) ∙ e

    run : StepsIn Hinted model empty_table (map (told_in Hinted) log) z
    run = subst (λ (xs : List Step). StepsIn Hinted model empty_table xs z) (sym (told_same log)) steps

    by : (keep more : Name → Bool) (us vs : List Step) → LinesRenamed (ToKept log (kept_names keep log)) 0 (kept_lines keep log) us → EndRenamed (ToKept log (kept_names keep log)) last end → AreUsed 0 us end
        → out ≡ with_deletions 0 us end → LinesRenamed (ToKept log (kept_names more log)) 0 (kept_lines more log) vs → EndRenamed (ToKept log (kept_names more log)) last stop → AreUsed 0 vs stop
        → other ≡ with_deletions 0 vs stop → (out ≡ other) × (end ≡ stop)
    by keep more us vs renamed ends used deleted renamed_too ends_too used_too deleted_too =
        let kept : kept_lines keep log ≡ kept_lines more log = same_kept log last keep more log us vs end stop 0 0
        (record { earlier = []; names_are = refl; long = refl; renamed = renamed; ends = ends; used = used })
        (record { earlier = []; names_are = refl; long = refl; renamed = renamed_too; ends = ends_too; used = used_too }) in
        let to = ToKept log (kept_names keep log) in
        let only = one_new log (kept_names keep log) (names_distinct Hinted model keep log empty_table z run refl range) in
        let lines : us ≡ vs = lines_same to only 0 (kept_lines keep log) us vs renamed (subst (λ (xs : List Step). LinesRenamed (ToKept log (made_names xs)) 0 xs vs) (sym kept) renamed_too) in
        let last_one : end ≡ stop = end_same to only last end stop ends (subst (λ (xs : List Step). EndRenamed (ToKept log (made_names xs)) last stop) (sym kept) ends_too) in
        (deleted ∙ ap (λ (xs : List Step). with_deletions 0 xs end) lines ∙ ap (with_deletions 0 vs) last_one ∙ sym deleted_too, last_one)

-- ---- one trimmed text

some_profile : (p q : Profile) → let x : Option Profile = Some p in let y : Option Profile = Some q in x ≡ y → p ≡ q
some_profile p q e = cc

some_step : (s u : Step) → let x : Option Step = Some s in let y : Option Step = Some u in x ≡ y → s ≡ u
some_step s u e = cc

-- The profile of a text is the one that it is read in.
profile_is : (profile : Profile) (log : List ℕ) (steps : List Step) (last : Step) → IsLogOf profile log steps last → log_profile log ≡ Some profile
profile_is profile log steps last l =
    ap profile_in (ap (pieces (λ b. b == 10)) l.text_is ∙ lines_cut (l.head ∷ l.count ∷ l.rest) l.are_lines) ∙ l.profile_is

-- Lines are read as one list of steps.
read_same : (profile : Profile) (ls : List (List ℕ)) (ss us : List Step) → AreRead profile ls ss → AreRead profile ls us → ss ≡ us
read_same profile [] [] [] a b = refl
read_same profile [] [] (u ∷ us) a b = absurd b
read_same profile [] (s ∷ ss) us a b = absurd a
read_same profile (l ∷ ls) [] us a b = absurd a
read_same profile (l ∷ ls) (s ∷ ss) [] a b = absurd b
read_same profile (l ∷ ls) (s ∷ ss) (u ∷ us) a b = ap (λ (x : Step). x ∷ ss) (some_step s u (sym a.0 ∙ b.0)) ∙ ap (λ (xs : List Step). u ∷ xs) (read_same profile ls ss us a.1 b.1)

-- The parts of a list that ends in an item.
abbrev but_last : List Step → List Step
but_last [] = []
but_last (s ∷ []) = []
but_last (s ∷ u ∷ ss) = s ∷ but_last (u ∷ ss)

abbrev last_step : List Step → Step
last_step [] = Q
last_step (s ∷ []) = s
last_step (s ∷ u ∷ ss) = last_step (u ∷ ss)

but_last-snoc : (ss : List Step) (s : Step) → but_last (ss ++ s ∷ []) ≡ ss
but_last-snoc [] s = refl
but_last-snoc (u ∷ []) s = refl
but_last-snoc (u ∷ v ∷ ss) s = ap (λ (xs : List Step). u ∷ xs) (but_last-snoc (v ∷ ss) s)

last_step-snoc : (ss : List Step) (s : Step) → last_step (ss ++ s ∷ []) ≡ s
last_step-snoc [] s = refl
last_step-snoc (u ∷ []) s = refl
last_step-snoc (u ∷ v ∷ ss) s = last_step-snoc (v ∷ ss) s

abbrev behind_two : List (List ℕ) → List (List ℕ)
behind_two [] = []
behind_two (l ∷ []) = []
behind_two (l ∷ m ∷ ls) = ls

one_of_text : OneTextLaw
one_of_text n model log text other claim hinted accepted a b =
    by a.profile b.profile a.steps b.steps a.last b.last a.is_log b.is_log (told a.profile a.steps a.last a.is_log) (told b.profile b.steps b.last b.is_log) a.trims b.trims a.in_range
  where
    told : (profile : Profile) (steps : List Step) (last : Step) → IsLogOf profile log steps last → profile ≡ Hinted
    told profile steps last l = some_profile profile Hinted (sym (profile_is profile log steps last l) ∙ hinted)

    by : (p q : Profile) (steps more : List Step) (last end : Step) → IsLogOf p log steps last → IsLogOf q log more end → p ≡ Hinted → q ≡ Hinted
        → (x : Trims p model steps last a.out a.end) → Trims q model more end b.out b.end → AreSteps x.hinted → text ≡ other
    by p q steps more last end l k pe qe x y range =
        let lm = subst (λ (r : Profile). IsLogOf r log steps last) pe l in
        let km = subst (λ (r : Profile). IsLogOf r log more end) qe k in
        let lines : lm.head ∷ lm.count ∷ lm.rest ≡ km.head ∷ km.count ∷ km.rest = lines_one (lm.head ∷ lm.count ∷ lm.rest) (km.head ∷ km.count ∷ km.rest) lm.are_lines km.are_lines (sym lm.text_is ∙ km.text_is) in
        let read : steps ++ last ∷ [] ≡ more ++ end ∷ [] = read_same Hinted km.rest (steps ++ last ∷ []) (more ++ end ∷ []) (subst (λ (ls : List (List ℕ)). AreRead Hinted ls (steps ++ last ∷ [])) (ap behind_two lines) lm.read) km.read in
        let same : more ≡ steps = sym (but_last-snoc more end) ∙ ap but_last (sym read) ∙ but_last-snoc steps last in
        let same_last : end ≡ last = sym (last_step-snoc more end) ∙ ap last_step (sym read) ∙ last_step-snoc steps last in
        let first : Trims Hinted model steps last a.out a.end = subst (λ (r : Profile). Trims r model steps last a.out a.end) pe x in
        let second : Trims Hinted model steps last b.out b.end =
        subst (λ (e : Step). Trims Hinted model steps e b.out b.end) same_last (subst (λ (ss : List Step). Trims Hinted model ss end b.out b.end) same (subst (λ (r : Profile). Trims r model more end b.out b.end) qe y)) in
        let run = steps_told n model log claim Hinted steps last accepted lm in
        let ranges : AreSteps steps = subst AreSteps (sym (told_same x.hinted) ∙ (hinted_told p pe x.hinted ∙ x.told)) range in
        let one = one_of_steps model steps run.table last a.out b.out a.end b.end ranges run.run first second in
        a.text_is ∙ ap (λ (out : List Step). lines_text (map step_line (ended_log model out a.end))) one.0 ∙ ap (λ (e : Step). lines_text (map step_line (ended_log model b.out e))) one.1 ∙ sym b.text_is
      where
        hinted_told : (r : Profile) → r ≡ Hinted → (xs : List Step) → map (told_in Hinted) xs ≡ map (told_in r) xs
        hinted_told r e xs = ap (λ (w : Profile). map (told_in w) xs) (sym e)

pub one : OneLaws
one = record { steps = one_of_steps; text = one_of_text }
