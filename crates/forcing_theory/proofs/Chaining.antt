-- Kept reasons refute an end that rests on them.
use Rattle.std.proofs.Common.{◌≡◌, ℕ, ◌<◌, Bool, true, false, ◌||◌, List, [], ◌∷◌, ◌++◌, refl, sym, ap, subst, ◌∙◌, Option, Some, None, inl, inr, ◌⊎◌}
use Rattle.std.proofs.lemmas.Bool.{or_cases, cases_Bool}
use Rattle.proof_theory.specs.Forms.{Form}
use Rattle.proof_theory.specs.Slack.{Setting, conflict, forced_at, slack, or_else, after, refutes}
use Rattle.forcing_theory.specs.Chains.{run, Within, Domains, AreOut, Reason, Explains, Chain, begins, goes_on, Kept, reasons_of, forms_where, forms_of, either, IsClosedBy, IsClosed, EndsAt, ChainLaw, FewerLaw}

-- ---- settings along forms

-- What is set stays set.
pub after_keeps : (s : Setting) (f : Form) → Within s (after s f)
after_keeps s f v b is = ap (λ (o : Option Bool). or_else o (forced_at (slack s f) f.terms v)) is

pub run_keeps : (s : Setting) (fs : List Form) → Within s (run s fs)
run_keeps s [] v b is = is
run_keeps s (f ∷ fs) v b is = run_keeps (after s f) fs v b (after_keeps s f v b is)

-- What refutes does so with more forms behind it.
pub refutes_more : (s : Setting) (fs gs : List Form) → refutes s fs ≡ true → refutes s (fs ++ gs) ≡ true
refutes_more s [] gs e = absurd cc
refutes_more s (f ∷ fs) gs e = by (refutes_more (after s f) fs gs) (conflict s f) e
  where
    by : (refutes (after s f) fs ≡ true → refutes (after s f) (fs ++ gs) ≡ true) → (b : Bool) → (b || refutes (after s f) fs) ≡ true → (b || refutes (after s f) (fs ++ gs)) ≡ true
    by later true h = refl
    by later false h = later h

-- Forms that refute after others have been run refute behind them.
pub refutes_behind : (s : Setting) (fs gs : List Form) → refutes (run s fs) gs ≡ true → refutes s (fs ++ gs) ≡ true
refutes_behind s [] gs e = e
refutes_behind s (f ∷ fs) gs e = by (conflict s f) (refutes_behind (after s f) fs gs e)
  where
    by : (b : Bool) → refutes (after s f) (fs ++ gs) ≡ true → (b || refutes (after s f) (fs ++ gs)) ≡ true
    by true h = refl
    by false h = h

refutes_moved : (s : Setting) (a b c : List Form) → refutes s (a ++ (b ++ c)) ≡ true → refutes s ((a ++ b) ++ c) ≡ true
refutes_moved s a b c e = subst (λ (fs : List Form). refutes s fs ≡ true) (sym (moved a)) e
  where
    moved : (a : List Form) → (a ++ b) ++ c ≡ a ++ (b ++ c)
    moved [] = refl
    moved (f ∷ fs) = ap (λ (gs : List Form). f ∷ gs) (moved fs)

either_left : (m n : ℕ → Bool) (r : ℕ) → m r ≡ true → either m n r ≡ true
either_left m n r e = ap (λ (b : Bool). b || n r) e

either_right : (m n : ℕ → Bool) (r : ℕ) → n r ≡ true → either m n r ≡ true
either_right m n r e = by (m r)
  where
    by : (b : Bool) → (b || n r) ≡ true
    by true = refl
    by false = e

-- ---- one reason

module _ (x : ℕ → ℕ → ℕ) (n : ℕ) (base : Setting) (d e : Domains) (why : Reason) (explained : Explains x n base d e why) (needed : ℕ → Bool) (end : List Form) (ends : EndsAt x n base e needed end) where
  -- Its forms and the end's refute wherever the needed domains and its own needs are out.
  ends_kept : EndsAt x n base d (either needed why.needs) (why.forms ++ end)
  ends_kept s above out = by (explained.forces s above (λ r h. out r (either_right needed why.needs r h)))
    where
      is_out : ((r u : ℕ) → why.takes r ≡ true → u < n → d r u ≡ true → e r u ≡ false → run s why.forms (x r u) ≡ Some false) → (r : ℕ) → needed r ≡ true → AreOut x n (run s why.forms) e r
      is_out forced r h u u_in gone = by_there (d r u) refl (why.takes r) refl
        where
          by_there : (b : Bool) → d r u ≡ b → (c : Bool) → why.takes r ≡ c → run s why.forms (x r u) ≡ Some false
          by_there false was c takes = run_keeps s why.forms (x r u) false (out r (either_left needed why.needs r h) u u_in was)
          by_there true was true takes = forced r u takes u_in was gone
          by_there true was false takes = let same : e r u ≡ d r u = explained.others r u takes in let bad : true ≡ false = sym was ∙ sym same ∙ gone in absurd cc

      by : (refutes s why.forms ≡ true) ⊎ ((r u : ℕ) → why.takes r ≡ true → u < n → d r u ≡ true → e r u ≡ false → run s why.forms (x r u) ≡ Some false) → refutes s (why.forms ++ end) ≡ true
      by (inl refuted) = refutes_more s why.forms end refuted
      by (inr forced) = refutes_behind s why.forms end (ends (run s why.forms) (λ v b is. run_keeps s why.forms v b (above v b is)) (is_out forced))

  -- Where it takes nothing of a needed vertex, the end's forms refute before it too.
  ends_passed : ((r : ℕ) → why.takes r ≡ true → needed r ≡ false) → EndsAt x n base d needed end
  ends_passed none s above out = ends s above (λ r h u u_in gone. out r h u u_in (sym (explained.others r u (not_taken r h (why.takes r) refl)) ∙ gone))
    where
      not_taken : (r : ℕ) → needed r ≡ true → (b : Bool) → why.takes r ≡ b → why.takes r ≡ false
      not_taken r h true takes = let bad : true ≡ false = sym h ∙ none r takes in absurd cc
      not_taken r h false takes = takes

-- ---- the chain

-- A chain of at least one change, taken apart.
record Last (x : ℕ → ℕ → ℕ) (n : ℕ) (base : Setting) (e : Domains) (why : Reason) (whys : List Reason) : Type 0 where
  pub before : Domains
  pub chain : Chain x n base before whys
  pub explained : Explains x n base before e why

last_of : (x : ℕ → ℕ → ℕ) (n : ℕ) (base : Setting) (e : Domains) (why : Reason) (whys : List Reason) → Chain x n base e (why ∷ whys) → Last x n base e why whys
last_of x n base e why whys (goes_on d f ws w chain explained) = record { before = d; chain = chain; explained = explained }

all_there : (x : ℕ → ℕ → ℕ) (n : ℕ) (base : Setting) (d : Domains) → Chain x n base d [] → (r u : ℕ) → d r u ≡ true
all_there x n base d (begins f full) = full

-- One change more in front of a chain.
step : (x : ℕ → ℕ → ℕ) (n : ℕ) (base : Setting) (d : Domains) (ks : List Kept) (k : Kept) (needed : ℕ → Bool) (end : List Form) (last : Last x n base d k.reason (reasons_of ks)) → EndsAt x n base d needed end
    → ((more : ℕ → Bool) (end' : List Form) → IsClosed ks more → EndsAt x n base last.before more end' → refutes base (forms_of ks ++ end') ≡ true)
    → (b : Bool) → IsClosedBy b k.reason needed (IsClosed ks) → refutes base (forms_where b (forms_of ks) k.reason.forms ++ end) ≡ true
step x n base d ks k needed end last ends before true closed =
    refutes_moved base (forms_of ks) k.reason.forms end (before (either needed k.reason.needs) (k.reason.forms ++ end) closed (ends_kept x n base last.before d k.reason last.explained needed end ends))
step x n base d ks k needed end last ends before false closed =
    before needed end closed.1 (ends_passed x n base last.before d k.reason last.explained needed end ends closed.0)

pub chain_refutes : ChainLaw
chain_refutes x n base d [] needed end chain closed ends = ends base (λ v b is. is) (λ r h u u_in gone. let bad : true ≡ false = sym (all_there x n base d chain r u) ∙ gone in absurd cc)
chain_refutes x n base d (k ∷ ks) needed end chain closed ends =
    let last = last_of x n base d k.reason (reasons_of ks) chain in
    step x n base d ks k needed end last ends (λ more end' closed' ends'. chain_refutes x n base last.before ks more end' last.chain closed' ends') k.kept closed

pub closed_fewer : FewerLaw
closed_fewer [] more fewer less closed = tt
closed_fewer (k ∷ ks) more fewer less closed = by (closed_fewer ks) k.kept closed
  where
    by : ((m f : ℕ → Bool) → ((r : ℕ) → f r ≡ true → m r ≡ true) → IsClosed ks m → IsClosed ks f) → (b : Bool) → IsClosedBy b k.reason more (IsClosed ks) → IsClosedBy b k.reason fewer (IsClosed ks)
    by before true h = before (either more k.reason.needs) (either fewer k.reason.needs) (λ r e. elim (or_cases (fewer r) (k.reason.needs r) e) [ inl l ↦ either_left more k.reason.needs r (less r l) | inr l ↦ either_right more k.reason.needs r l ]) h
    by before false h = ((λ r takes. not_needed r (fewer r) refl takes), before more fewer less h.1)
      where
        not_needed : (r : ℕ) (c : Bool) → fewer r ≡ c → k.reason.takes r ≡ true → fewer r ≡ false
        not_needed r true e takes = let bad : true ≡ false = sym (less r e) ∙ h.0 r takes in absurd cc
        not_needed r false e takes = e
