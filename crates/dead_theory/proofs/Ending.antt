-- What each end comes to.
use Rattle.std.proofs.Common.{◌≡◌, ℕ, zero, suc, ◌<◌, ◌≤◌, Bool, true, false, ◌||◌, List, [], ◌∷◌, length, Option, Some, None, refl, sym, ◌∙◌, ap, subst, arith, inl, inr, ◌⊎◌}
use Rattle.std.proofs.lemmas.Bool.{cases_eq, eqb-true, eq-eqb, ne_eqb}
use Rattle.graph_theory.specs.Graph.{size}
use Rattle.graph_theory.specs.Embedding.{Problem}
use Rattle.graph_theory.specs.Neighbours.{count}
use Rattle.proof_theory.specs.Forms.{Form}
use Rattle.proof_theory.specs.Slack.{Setting, refutes}
use Rattle.log_theory.specs.Lookups.{is_among}
use Rattle.encoding_theory.specs.Encoding.{at_least}
use Rattle.forcing_theory.specs.Chains.{run}
use Rattle.explanation_theory.specs.Reasons.{IsNoPair, AreTrue, at_leasts, pairs_clause}
use Rattle.explanation_theory.proofs.SetCounting.{sum_over, one_if, distinct_sum}
use Rattle.explanation_theory.proofs.Giving.{leads_to_end}
use Rattle.explanation_theory.proofs.Forcing.{at_least_fails, clause_fails, AreSet}
use Rattle.explanation_theory.proofs.Explaining as explaining
use Rattle.explanation_theory.proofs.Explaining.{conflict_refutes}
use Rattle.search_theory.specs.Account.{NotAmong}
use Rattle.domain_bits.specs.Removals.{State, in_domain}
use Rattle.all_different.specs.Pruning.{among}
use Rattle.nogood_watch.specs.Nogoods as watched
use Rattle.nogood_watch.specs.Nogoods.{literal}
use Rattle.nogood_book.specs.declared.row.Row.{Row}
use Rattle.nogood_book.specs.Rows.{path_at}
use Rattle.recorder.specs.declared.change.Failure.{Failure}
use Rattle.recorder.specs.declared.change.Failure.TheVariants as failure
use Rattle.recorder.specs.Recording.{Change, CountedSet}
use Rattle.recorder.specs.Telling.{HasAtMost, AreDistinct, HaveOnly, IsDecided, IsShown, Fails}
use Rattle.dead_theory.specs.Changes.{NamesRows, IsLeftOut, NogoodForms, AreUpheld, IsSetIn}
use Rattle.dead_theory.specs.Ends.{End, Empty, Whole, Short, Exhausted, end_of, EndsBy, IsEndIn, EndsIn, EndNeeds}
use Rattle.dead_theory.proofs.Explaining.{same_among, distinct_of, NeededOut, AreOn, pairs_lead, only_these, these_only, these_out}

-- What propagation tells is an end.
pub failure_ends : (q : Problem) (s : Option watched.State) (d : State) (cs : List Change) (short : Option CountedSet) (f : Failure) → Fails q s d (Some cs) short f → EndsBy (end_of f short) q s d
failure_ends q s d cs short (failure.Empty p) h = h
failure_ends q s d cs short (failure.Whole name) h = h
failure_ends q s d cs short (failure.Short n) h = by h.1
  where
    by : (Some cs ≡ None) ⊎ IsShown q d short → EndsBy (end_of (failure.Short n) short) q s d
    by (inl none) = absurd cc
    by (inr shown) = subst (λ (o : Option CountedSet). EndsBy (end_of (failure.Short n) o) q s d) (sym shown.set_is) (shown.only, shown.fewer)

-- Where each value that is left was refuted, the vertex is exhausted.
refuted_among : (us : List ℕ) (u : ℕ) → (NotAmong us u → ⊥) → is_among u us ≡ true
refuted_among [] u refuted = absurd (refuted tt)
refuted_among (w ∷ ws) u refuted = by (cases_eq w u) (λ other. refuted_among ws u (λ h. refuted (other, h)))
  where
    by : (w ≡ u) ⊎ (w ≡ u → ⊥) → ((w ≡ u → ⊥) → is_among u ws ≡ true) → is_among u (w ∷ ws) ≡ true
    by (inl same) later = ap (λ (b : Bool). b || is_among u ws) (eq-eqb w u same)
    by (inr other) later = ap (λ (b : Bool). b || is_among u ws) (ne_eqb w u other) ∙ later other

pub exhausted_ends : (q : Problem) (s : Option watched.State) (d : State) (p : ℕ) (values : List ℕ) → ((u : ℕ) → in_domain d p u ≡ true → NotAmong values u → ⊥) → EndsBy (Exhausted p values) q s d
exhausted_ends q s d p values left u there = refuted_among values u (left u there)

ones : (xs : List ℕ) → sum_over (λ i. one_if true) xs ≡ length xs
ones [] = refl
ones (x ∷ xs) = let h = ones xs in omega (arith, h)

all_counted : (n : ℕ) → count (λ i. true) n ≡ n
all_counted zero = refl
all_counted (suc n) = let h = all_counted n in omega (arith, h)

-- Different numbers below n are n at most.
pub distinct_few : (n : ℕ) (xs : List ℕ) → AreDistinct xs → ((x : ℕ) → among xs x ≡ true → x < n) → length xs ≤ n
distinct_few n xs distinct within =
    let l = distinct_sum (λ i. true) n xs (distinct_of xs distinct) (λ x here. within x (same_among xs x ∙ here)) in
    let a = ones xs in
    let b = all_counted n in
    omega (arith, l, a, b)

-- The numbers of a set are of the problem.
pub set_in : (q : Problem) (centre : Option ℕ) (d : State) (vertices values : List ℕ) → HaveOnly q centre d vertices values → length values ≤ length vertices → IsSetIn q centre vertices values
set_in q centre d vertices values only short = record {
  block = only.block;
  members = λ p here. only.members p (same_among vertices p ∙ here);
  vertices_in = λ p here. only.vertices_in p (same_among vertices p ∙ here);
  values_in = λ u here. only.values_in u (same_among values u ∙ here);
  vertices_few = distinct_few (size q.pattern) vertices only.distinct only.vertices_in;
  values_few = short;
}

-- Its numbers are in range.
pub end_in : (q : Problem) (rows : List Row) (s : Option watched.State) (d : State) (e : End) → NamesRows rows s → EndsBy e q s d → IsEndIn q rows e
end_in q rows s d (Empty p) names h = h.0
end_in q rows s d (Whole name) names h = (names name h.pairs h.named).0
end_in q rows s d (Short centre vertices values) names h = (set_in q centre d vertices values h.0 (let less = h.1 in omega (arith, less)), h.1)
end_in q rows s d (Exhausted p values) names h = tt

-- ---- what it comes to

-- Pairs of which each is true are true together.
on_true : (q : Problem) (at : Setting) (path : List (ℕ × ℕ)) → AreOn q at path → AreTrue q at path
on_true q at [] on = tt
on_true q at (x ∷ xs) on = (on x (inl refl), on_true q at xs (λ y here. on y (inr here)))

none_there : (d : State) (p u : ℕ) → (in_domain d p u ≡ true → ⊥) → in_domain d p u ≡ false
none_there d p u none = by (in_domain d p u) refl
  where
    by : (b : Bool) → in_domain d p u ≡ b → in_domain d p u ≡ false
    by true is = absurd (none is)
    by false is = is

module _ (q : Problem) (rows : List Row) (s : Option watched.State) (names : NamesRows rows s) (path known : List (ℕ × ℕ)) (at : Setting) (d : State) (needed : ℕ → ℕ → Bool) (out : NeededOut q at d needed)
    (on_path : AreOn q at path) (on : AreOn q at known) where
  whole_refutes : (name : ℕ) (forms : List Form) → IsDecided s d name → AreUpheld path None needed (path_at rows name) → NogoodForms q known None (path_at rows name) forms → refutes at forms ≡ true
  whole_refutes name forms f upheld h =
      let is : path_at rows name ≡ f.pairs = (names name f.pairs f.named).1 in
      subst (λ (fs : List Form). refutes at fs ≡ true) (sym h.1)
      (leads_to_end at (at_leasts q h.0) (pairs_clause q (path_at rows name) ∷ []) (λ z. AreSet q z IsNoPair (path_at rows name))
      (pairs_lead q at d path known needed h.0 None IsNoPair (path_at rows name) out on_path on h.2 upheld
      (subst (λ (xs : List (ℕ × ℕ)). (k : ℕ) → k < length xs → IsNoPair (literal xs k) ⊎ ((IsLeftOut None (literal xs k).0 → ⊥) × HasAtMost d (literal xs k).0 (literal xs k).1)) (sym is)
      (λ k k_in. inr ((λ none. none), f.all k k_in))))
      (λ are. conflict_refutes (run at (at_leasts q h.0)) (pairs_clause q (path_at rows name)) (clause_fails q (run at (at_leasts q h.0)) (path_at rows name) are)))

  -- Its forms lead to a conflict.
  pub end_refutes : (e : End) (forms : List Form) → EndsBy e q s d → EndNeeds rows path e needed → EndsIn q rows path known e forms → refutes at forms ≡ true
  end_refutes (Empty p) forms h needs is =
      subst (λ (fs : List Form). refutes at fs ≡ true) (sym is)
      (conflict_refutes at (at_least q p) (at_least_fails q at p (λ u u_in. out p u u_in (needs u) (none_there d p u (h.1 u)))))
  end_refutes (Whole name) forms h needs is = whole_refutes name forms h needs is
  end_refutes (Short centre [] values) forms h needs is = absurd (omega (arith, h.1))
  end_refutes (Short centre (p ∷ rest) values) forms h needs is =
      subst (λ (fs : List Form). refutes at fs ≡ true) (sym is)
      ((explaining.end_laws q).short at (only_these (p ∷ rest) values) centre p rest values (these_only q centre d (p ∷ rest) values h.0) h.1 at (λ v b e. e) (these_out q at centre d needed (p ∷ rest) values h.0 out needs))
  end_refutes (Exhausted p values) forms h needs is =
      subst (λ (fs : List Form). refutes at fs ≡ true) (sym is)
      ((explaining.end_laws q).refuted at (in_domain d) p path values (on_true q at path on_path) (λ u u_in there. h u there) at (λ v b e. e)
      (λ r r_is u u_in gone. out r u u_in (subst (λ (v : ℕ). needed v u ≡ true) (sym (eqb-true r p r_is)) (needs u)) gone))
