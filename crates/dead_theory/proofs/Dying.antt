-- A dead path's changes and its end refute it, and what is told of them is in range.
use Rattle.std.proofs.Common.{arith, ◌≡◌, ℕ, ◌<◌, ◌==◌, ◌&&◌, Bool, true, false, List, [], ◌∷◌, ◌++◌, refl, sym, ap, subst, ◌∙◌, Option, Some, Result, Ok, inl, inr, ◌⊎◌}
use Rattle.std.specs.Prelude.{map}
use Rattle.std.proofs.lemmas.Bool.{lt-ltb, true≢false}
use Rattle.graph_theory.specs.Graph.{size}
use Rattle.graph_theory.specs.Embedding.{Problem}
use Rattle.proof_theory.specs.Forms.{Form}
use Rattle.proof_theory.specs.Slack.{Setting, refutes, negations, clause_form}
use Rattle.log_theory.specs.declared.step.Name.{Name}
use Rattle.log_theory.specs.declared.step.Ref.{Ref}
use Rattle.log_theory.specs.declared.step.Step.TheVariants.{U}
use Rattle.log_theory.specs.declared.step.Cause as faults
use Rattle.log_theory.specs.declared.step.Cause.TheVariants.{Twice, NoConflict}
use Rattle.log_theory.specs.Steps.{◌>>=◌, unless}
use Rattle.log_theory.specs.Lookups.{Lookup, find_all, makes}
use Rattle.encoding_theory.specs.Variables.{variable}
use Rattle.forcing_theory.specs.Chains.{run}
use Rattle.forcing_theory.proofs.Chaining.{run_keeps, refutes_more, refutes_behind}
use Rattle.explanation_theory.specs.Reasons.{not_there, pairs_clause, AreTrue}
use Rattle.explanation_theory.proofs.Giving.{Gives, run_on}
use Rattle.domain_bits.specs.Removals.{State, in_domain, full}
use Rattle.domain_bits.proofs.Sizes.{in_below}
use Rattle.nogood_watch.specs.Nogoods as watched
use Rattle.nogood_book.specs.declared.row.Row.{Row}
use Rattle.nogood_book.specs.Rows.{Sound}
use Rattle.recorder.specs.declared.change.Cause.TheVariants as cause
use Rattle.recorder.specs.Recording.{Change, LeftOne, LeftOthers, LeftOver}
use Rattle.recorder.specs.Telling as telling
use Rattle.recorder.specs.Telling.{Stands, Leaves, Changed, Told}
use Rattle.dead_theory.specs.Changes.{Chosen, told_of, NamesRows, IsOneOf, Covers, Suffices, shown_of, known_after, ExplainsTold, ExplainsChange, ExplainAll, Needs, IsGuessed, AreGuessed, IsInProblem, AreInProblem}
use Rattle.dead_theory.specs.Ends.{End, EndsIn, EndNeeds}
use Rattle.dead_theory.specs.Walks.{MayPass, RestsOn, IsChoice, nothing, keeps, passes}
use Rattle.dead_theory.specs.Laws.{Dies, DeadLaws, ToldLaws}
use Rattle.dead_theory.proofs.Naming.{rows_named, named_more, names_kept, range_of, path_of_row, row_vertex_in}
use Rattle.dead_theory.proofs.Literals.{distinct_literals, literals_in_range, path_true, true_at, empty_false}
use Rattle.dead_theory.proofs.Explaining.{same_among, NeededOut, AreOn, refused_may, vertex_shown, change_gives}
use Rattle.dead_theory.proofs.Ending.{distinct_few, set_in, failure_ends, exhausted_ends, end_in, end_refutes}

-- ---- what was told, taken apart

-- The domains before the last change, and this change.
record Before (q : Problem) (s : Option watched.State) (d : State) (c : Change) (cs : List Change) : Type 0 where
  pub old : State
  pub told : Told q s old cs
  pub changed : Changed q s old d c

before_of : (q : Problem) (s : Option watched.State) (d : State) (c : Change) (cs : List Change) → Told q s d (c ∷ cs) → Before q s d c cs
before_of q s _ _ _ (telling.goes_on old new cs c told changed) = record { old = old; told = told; changed = changed }

all_there : (q : Problem) (s : Option watched.State) (n : ℕ) (d : State) → Told q s d [] → d.values ≡ n → (r u : ℕ) → u < n → in_domain d r u ≡ true
all_there q s n _ (telling.begins vertices values) is r u u_in = full_there vertices values r u (subst (λ (m : ℕ). u < m) (sym is) u_in)
  where
    full_there : (vertices values r u : ℕ) → u < values → in_domain (full vertices values) r u ≡ true
    full_there vertices values r u u_in = ap (λ (b : Bool). b && (0 == 0)) (lt-ltb u values u_in)

-- Each pair of a path that is set true.
on_path : (q : Problem) (s : Setting) (path : List (ℕ × ℕ)) → AreTrue q s path → AreOn q s path
on_path q s [] are x here = absurd here
on_path q s (y ∷ ys) are x (inl is) = subst (λ (z : ℕ × ℕ). s (variable q z.0 z.1) ≡ Some true) is are.0
on_path q s (y ∷ ys) are x (inr later) = on_path q s ys are.1 x later

-- ---- the changes in their order

-- Forms refute the setting, or after them the needed values that are gone are false and the known pairs true.
abbrev Reaches : Problem → Setting → State → (ℕ → ℕ → Bool) → List (ℕ × ℕ) → List Form → Type 0
Reaches q base d needed known forms = (refutes base forms ≡ true) ⊎ (NeededOut q (run base forms) d needed × AreOn q (run base forms) known)

module _ (q : Problem) (rows : List Row) (sound : Sound q rows) (s : Option watched.State) (names : NamesRows rows s) (base : Setting) (path : List (ℕ × ℕ)) (are_true : AreTrue q base path) where
  path_on : (forms : List Form) → AreOn q (run base forms) path
  path_on forms x here = run_keeps base forms (variable q x.0 x.1) true (on_path q base path are_true x here)

  passed : (d old : State) (c : Change) (needed : ℕ → ℕ → Bool) (known : List (ℕ × ℕ)) (forms : List Form) → Leaves q s old d c → MayPass q rows c needed → Reaches q base old needed known forms
      → Reaches q base d needed known forms
  passed d old c needed known forms l may (inl refuted) = inl refuted
  passed d old c needed known forms l may (inr h) = inr ((λ r u u_in is gone. h.0 r u u_in is (by r u u_in is gone (in_domain old r u) refl)), h.1)
    where
      by : (r u : ℕ) → u < size q.target → needed r u ≡ true → in_domain d r u ≡ false → (b : Bool) → in_domain old r u ≡ b → in_domain old r u ≡ false
      by r u u_in is gone true was = absurd (may r u u_in is (refused_may q rows sound s names c old d l r u was gone))
      by r u u_in is gone false was = was

  -- What it shows holds after its forms.
  shown_gives : (by_edges : Bool) (c : Change) (d old : State) (now : ℕ → ℕ → Bool) (known : List (ℕ × ℕ)) (at : Setting) (own : List Form) → old.values ≡ size q.target → Leaves q s old d c → NeededOut q at old now → AreOn q at path
      → AreOn q at known → Needs q rows path c now → ExplainsTold by_edges q rows known c own → (x : ℕ × ℕ) → IsOneOf (shown_of c known) x → Gives at own (variable q x.0 x.1) true
  shown_gives by_edges (LeftOne r (cause.Vertex p t) from) d old now known at own values_is l out on_p on needs h x (inl is) =
      subst (λ (z : ℕ × ℕ). Gives at own (variable q z.0 z.1) true) is (vertex_shown q rows sound s names path known at old values_is now out on_p on p t r h.0 own l.stands.decided needs h.1)
  shown_gives by_edges (LeftOne r (cause.Vertex p t) from) d old now known at own values_is l out on_p on needs h x (inr later) = inr (run_keeps at own (variable q x.0 x.1) true (on x later))
  shown_gives by_edges (LeftOne r cause.First from) d old now known at own values_is l out on_p on needs h x here = inr (run_keeps at own (variable q x.0 x.1) true (on x here))
  shown_gives by_edges (LeftOne r (cause.Guess t) from) d old now known at own values_is l out on_p on needs h x here = inr (run_keeps at own (variable q x.0 x.1) true (on x here))
  shown_gives by_edges (LeftOne r (cause.Nogood name) from) d old now known at own values_is l out on_p on needs h x here = inr (run_keeps at own (variable q x.0 x.1) true (on x here))
  shown_gives by_edges (LeftOne r (cause.Edge v u direction) from) d old now known at own values_is l out on_p on needs h x here = inr (run_keeps at own (variable q x.0 x.1) true (on x here))
  shown_gives by_edges (LeftOne r (cause.Order k u side) from) d old now known at own values_is l out on_p on needs h x here = inr (run_keeps at own (variable q x.0 x.1) true (on x here))
  shown_gives by_edges (LeftOthers centre vertices values from) d old now known at own values_is l out on_p on needs h x here = inr (run_keeps at own (variable q x.0 x.1) true (on x here))
  shown_gives by_edges (LeftOver p t direction vertices values from) d old now known at own values_is l out on_p on needs h x here = inr (run_keeps at own (variable q x.0 x.1) true (on x here))

  quiet : (at : Setting) (own : List Form) (v : ℕ) (b : Bool) → refutes at own ≡ false → Gives at own v b → run at own v ≡ Some b
  quiet at own v b calm (inl refuted) = absurd (true≢false (sym refuted ∙ calm))
  quiet at own v b calm (inr is) = is

  kept : (d old : State) (c : Chosen) (needed now : ℕ → ℕ → Bool) (known : List (ℕ × ℕ)) (before own : List Form) → old.values ≡ size q.target → Leaves q s old d c.change → IsGuessed path c.change
      → RestsOn q rows path c needed now → ExplainsChange q rows known c own → Reaches q base old now known before → Reaches q base d needed (shown_of c.change known) (before ++ own)
  kept d old c needed now known before own values_is l guessed rests h (inl refuted) = inl (refutes_more base before own refuted)
  kept d old c needed now known before own values_is l guessed rests h (inr reached) = by (refutes (run base before) own) refl
    where
      at : Setting
      at = run base before

      guess_on : (r t from : ℕ) → c.change ≡ LeftOne r (cause.Guess t) from → at (variable q r t) ≡ Some true
      guess_on r t from is = run_keeps base before (variable q r t) true (true_at q base path r t are_true (subst (IsGuessed path) is guessed))

      gives : (r u : ℕ) → u < size q.target → (in_domain old r u ≡ true) × (in_domain d r u ≡ false) × Suffices q c r u ⊎ ((in_domain old r u ≡ false) × Covers q c r u) → Gives at own (variable q r u) false
      gives r u u_in which = change_gives q rows sound s names path known at old values_is now reached.0 (path_on before) reached.1 c.by_edges c.change d own l guess_on rests.needs h r u u_in which

      by : (b : Bool) → refutes at own ≡ b → Reaches q base d needed (shown_of c.change known) (before ++ own)
      by true is = inl (refutes_behind base before own is)
      by false calm = inr (
        (λ r u u_in is gone. run_on base before own (variable q r u) ∙ out r u u_in is gone (in_domain old r u) refl (rests.carried r u is)),
        (λ x here. run_on base before own (variable q x.0 x.1)
            ∙ quiet at own (variable q x.0 x.1) true calm (shown_gives c.by_edges c.change d old now known at own values_is l reached.0 (path_on before) reached.1 rests.needs h x here)),
      )
        where
          out : (r u : ℕ) → u < size q.target → needed r u ≡ true → in_domain d r u ≡ false → (e : Bool) → in_domain old r u ≡ e → (now r u ≡ true) ⊎ Covers q c r u → run at own (variable q r u) ≡ Some false
          out r u u_in is gone true was which = quiet at own (variable q r u) false calm (gives r u u_in (inl (was, gone, rests.suffices r u u_in is)))
          out r u u_in is gone false was (inl needs) = run_keeps at own (variable q r u) false (reached.0 r u u_in needs was)
          out r u u_in is gone false was (inr covers) = quiet at own (variable q r u) false calm (gives r u u_in (inr (was, covers)))

  before_values : (d old : State) (c : Change) → Changed q s old d c → d.values ≡ size q.target → old.values ≡ size q.target
  before_values d old c changed is = sym changed.leaves.values_same ∙ is

  reached : (d : State) (cs : List Change) (chosen : List Chosen) (needed : ℕ → ℕ → Bool) (forms : List Form) → IsChoice q rows path cs chosen needed → Told q s d cs → d.values ≡ size q.target → AreGuessed path (told_of chosen)
      → ExplainAll q rows path chosen forms → Reaches q base d needed (known_after path chosen) forms
  reached d _ _ _ forms (nothing needed) told values_is guessed are =
      inr ((λ r u u_in is gone. absurd (true≢false (sym (all_there q s (size q.target) d told values_is r u u_in) ∙ gone))), path_on forms)
  reached d _ _ _ forms (keeps c cs chosen needed now rests rest) told values_is guessed are =
      let b = before_of q s d c.change cs told in
      let was = before_values d b.old c.change b.changed values_is in
      subst (λ (fs : List Form). Reaches q base d needed (shown_of c.change (known_after path chosen)) fs) (sym are.2)
      (kept d b.old c needed now (known_after path chosen) are.0 are.1 was b.changed.leaves guessed.0 rests are.4 (reached b.old cs chosen now are.0 rest b.told was guessed.1 are.3))
  reached d _ _ _ forms (passes c cs chosen needed may rest) told values_is guessed are =
      let b = before_of q s d c cs told in
      let was = before_values d b.old c b.changed values_is in
      passed d b.old c needed (known_after path chosen) forms b.changed.leaves may (reached b.old cs chosen needed forms rest b.told was guessed are)

-- ---- the path

pub dead_refuted : (q : Problem) (rows : List Row) (path : List (ℕ × ℕ)) (changes : List Change) (e : End) → Dies q rows path changes e
    → (chosen : List Chosen) (needed : ℕ → ℕ → Bool) (forms ends : List Form) → EndNeeds rows path e needed → IsChoice q rows path changes chosen needed
    → ExplainAll q rows path chosen forms → AreGuessed path (told_of chosen) → EndsIn q rows path (known_after path chosen) e ends
    → refutes (negations (map (not_there q) path)) (forms ++ ends) ≡ true
dead_refuted q rows path changes e dies chosen needed forms ends needs choice are guessed in_end =
    by (reached q rows dies.sound dies.nogoods dies.names base path (path_true q path) dies.domains changes chosen needed forms choice dies.told dies.values_is guessed are)
  where
    base : Setting
    base = negations (map (not_there q) path)

    by : Reaches q base dies.domains needed (known_after path chosen) forms → refutes base (forms ++ ends) ≡ true
    by (inl refuted) = refutes_more base forms ends refuted
    by (inr h) = refutes_behind base forms ends
        (end_refutes q rows dies.nogoods dies.names path (known_after path chosen) (run base forms) dies.domains needed h.0
        (path_on q rows dies.sound dies.nogoods dies.names base path (path_true q path) forms) h.1 e ends dies.ends needs in_end)

pub dead_line : (q : Problem) (rows : List Row) (path : List (ℕ × ℕ)) (changes : List Change) (e : End) → Dies q rows path changes e
    → (chosen : List Chosen) (needed : ℕ → ℕ → Bool) (forms ends : List Form) → EndNeeds rows path e needed → IsChoice q rows path changes chosen needed
    → ExplainAll q rows path chosen forms → AreGuessed path (told_of chosen) → EndsIn q rows path (known_after path chosen) e ends
    → (look : Lookup) (name : Name) (refs : List Ref) → find_all look refs ≡ Ok (forms ++ ends)
    → makes look (U name (map (not_there q) path) refs) ≡ Ok (pairs_clause q path)
dead_line q rows path changes e dies chosen needed forms ends needs choice are guessed in_end look name refs found =
    let lits = map (not_there q) path in
    ap (λ (b : Bool). unless b Twice >>= λ _. find_all look refs >>= λ fs. unless (refutes (negations lits) fs) NoConflict >>= λ _. Ok (clause_form lits)) (distinct_literals q path dies.distinct dies.range)
    ∙ ap (λ (r : Result (List Form) faults.Cause). r >>= λ fs. unless (refutes (negations lits) fs) NoConflict >>= λ _. Ok (clause_form lits)) found
    ∙ ap (λ (b : Bool). unless b NoConflict >>= λ _. Ok (clause_form lits)) (dead_refuted q rows path changes e dies chosen needed forms ends needs choice are guessed in_end)

pub dead_laws_hold : DeadLaws
dead_laws_hold = record { refuted = dead_refuted; line = dead_line; empty = empty_false }

-- ---- what is told is in range

change_in : (q : Problem) (s : Option watched.State) (old new : State) (c : Change) → old.values ≡ size q.target → Leaves q s old new c → IsInProblem q c
change_in q s old new (LeftOne r cause.First from) is l = l.stands
change_in q s old new (LeftOne r (cause.Guess t) from) is l = (l.stands.0, subst (λ (n : ℕ). t < n) is (in_below old r t l.stands.1))
change_in q s old new (LeftOne r (cause.Vertex p t) from) is l = (l.stands.vertex_in, l.stands.value_in, l.stands.other_in, l.stands.apart)
change_in q s old new (LeftOne r (cause.Nogood name) from) is l = l.stands
change_in q s old new (LeftOne r (cause.Edge p u direction) from) is l = (l.stands.joins, l.stands.value_in)
change_in q s old new (LeftOne r (cause.Order k u side) from) is l =
    (record { pair = l.stands.pair; pair_is = l.stands.pair_is; end_is = l.stands.end_is; vertex_in = l.stands.vertex_in; other_in = l.stands.other_in }, l.stands.value_in)
change_in q s old new (LeftOthers centre vertices values from) is l = set_in q centre old vertices values l.stands.0 l.stands.1
change_in q s old new (LeftOver p t direction vertices values from) is l = record {
  injective = l.stands.injective;
  vertex_in = l.stands.vertex_in;
  value_in = l.stands.value_in;
  joins = λ r h. l.stands.joins r (same_among vertices r ∙ h);
  values_in = λ u h. l.stands.values_in u (same_among values u ∙ h);
  vertices_few = distinct_few (size q.pattern) vertices l.stands.distinct (λ r here. (l.stands.joins r here).other_in);
  values_few = let less = l.stands.fewer in omega (arith, less);
}

pub told_in : (q : Problem) (s : Option watched.State) (d : State) (cs : List Change) → d.values ≡ size q.target → Told q s d cs → AreInProblem q cs
told_in q s d [] is told = tt
told_in q s d (c ∷ cs) is told =
    let b = before_of q s d c cs told in
    let was : b.old.values ≡ size q.target = sym b.changed.leaves.values_same ∙ is in
    (change_in q s b.old d c was b.changed.leaves, told_in q s b.old cs was b.told)

pub told_laws_hold : ToldLaws
told_laws_hold = record {
  failed = failure_ends;
  exhausted = exhausted_ends;
  in_problem = told_in;
  end_in_problem = end_in;
  names = rows_named;
  names_more = named_more;
  keeps_names = names_kept;
  row_vertices = row_vertex_in;
  path_range = range_of;
  row_path = path_of_row;
  distinct = distinct_literals;
  range = literals_in_range;
}
