-- The laws of reasons: what each kind of change, and each kind of end, is explained by.

use Rattle.std.specs.Prelude.{◌≡◌, ℕ, ◌<◌, ◌≤◌, ◌==◌, Bool, true, false, not, List, [], ◌∷◌, ◌++◌, length, map, Option, Some}
use Rattle.graph_theory.specs.Graph.{size}
use Rattle.graph_theory.specs.Embedding.{Problem}
use Rattle.graph_theory.specs.Blocks.{in_block}
use Rattle.proof_theory.specs.Forms.{Form}
use Rattle.proof_theory.specs.Slack.{Setting}
use Rattle.log_theory.specs.Lookups.{is_among}
use Rattle.encoding_theory.specs.Variables.{variable}
use Rattle.encoding_theory.specs.Encoding.{at_least, at_most, leads_form}
use Rattle.forcing_theory.specs.Chains.{Domains, Explains, EndsAt}
use Rattle.explanation_theory.specs.Reasons.{pairs_clause, at_leasts, vertices_of, set_form, over_form, TakesFirst, TakesBeside, HasAtMost, AreDecided, IsPair, IsNoPair, HaveOnly, HaveBeside, OnlyOf, LeftRefused, reason_for, no_vertex, AreTrue, value_clauses}

-- The reasons of changes of the domains of a problem.
pub record ChangeLaws (q : Problem) : Type 0 where
  pub first : (base : Setting) (d e : Domains) (line : Form) (p : ℕ) (refused : ℕ → Bool)
      → TakesFirst q line p refused → OnlyOf d e p → LeftRefused d e p refused
      → Explains (variable q) (size q.target) base d e (reason_for (line ∷ []) p no_vertex)
  pub guess : (base : Setting) (d e : Domains) (p t : ℕ) → t < size q.target
      → base (variable q p t) ≡ Some true → OnlyOf d e p → LeftRefused d e p (λ u. not (u == t))
      → Explains (variable q) (size q.target) base d e (reason_for (at_most q p ∷ []) p no_vertex)
  pub vertex : (base : Setting) (d e : Domains) (line : Form) (p t r : ℕ) (refused : ℕ → Bool)
      → t < size q.target → HasAtMost d p t → TakesBeside q line p t r refused → OnlyOf d e r
      → LeftRefused d e r refused → Explains (variable q) (size q.target) base d e (reason_for
      (at_least q p ∷ line ∷ []) r (λ v. v == p))
  pub nogood : (base : Setting) (d e : Domains) (pairs : List (ℕ × ℕ)) (r : ℕ) → ((u : ℕ)
      → d r u ≡ true → e r u ≡ false → AreDecided q d (IsPair r u) pairs) → OnlyOf d e r
      → Explains (variable q) (size q.target) base d e (reason_for (at_leasts q
      (vertices_of pairs) ++ pairs_clause q pairs ∷ []) r (λ v. is_among v (vertices_of pairs)))
  pub edge : (base : Setting) (d e : Domains) (p r u : ℕ) (test : ℕ → Bool) → ((w : ℕ)
      → w < size q.target → test w ≡ true → d p w ≡ false) → OnlyOf d e r
      → LeftRefused d e r (λ v. v == u) → Explains (variable q) (size q.target) base d e
      (reason_for (leads_form q r u p test ∷ []) r (λ v. v == p))
  pub counted : (base : Setting) (d e : Domains) (b : Option ℕ) (p : ℕ) (vertices values : List
      ℕ) → HaveOnly q b d (p ∷ vertices) values → length values ≤ length (p ∷ vertices)
      → ((r u : ℕ) → is_among r (p ∷ vertices) ≡ true → e r u ≡ d r u) → ((r u : ℕ)
      → d r u ≡ true → e r u ≡ false → (r < size q.pattern) × (in_block q b r ≡ true)
      × (is_among u values ≡ true)) → Explains (variable q) (size q.target) base d e
      (record {
        forms = set_form q b p vertices values ∷ [];
        takes = λ r. not (is_among r
            (p ∷ vertices));
        needs = λ r. is_among r (p ∷ vertices);
      })
  pub over : (base : Setting) (d e : Domains) (p t r : ℕ) (vertices values : List ℕ)
      → HaveBeside q d p t (r ∷ vertices) values → length values < length (r ∷ vertices)
      → OnlyOf d e p → LeftRefused d e p (λ v. v == t) → Explains (variable q) (size q.target)
      base d e (reason_for (over_form q p t r vertices values ∷ []) p
      (λ v. is_among v (r ∷ vertices)))

-- The ends of dead paths.
pub record EndLaws (q : Problem) : Type 0 where
  pub empty : (base : Setting) (d : Domains) (p : ℕ) → ((u : ℕ) → u < size q.target
      → d p u ≡ false) → EndsAt (variable q) (size q.target) base d (λ r. r == p)
      (at_least q p ∷ [])
  pub whole : (base : Setting) (d : Domains) (pairs : List (ℕ × ℕ)) → AreDecided q d IsNoPair pairs
      → EndsAt (variable q) (size q.target) base d (λ r. is_among r (vertices_of pairs))
      (at_leasts q (vertices_of pairs) ++ pairs_clause q pairs ∷ [])
  pub short : (base : Setting) (d : Domains) (b : Option ℕ) (p : ℕ) (vertices values : List ℕ)
      → HaveOnly q b d (p ∷ vertices) values → length values < length (p ∷ vertices)
      → EndsAt (variable q) (size q.target) base d (λ r. is_among r (p ∷ vertices))
      (set_form q b p vertices values ∷ [])
  pub refuted : (base : Setting) (d : Domains) (p : ℕ) (path : List (ℕ × ℕ)) (values : List ℕ)
      → AreTrue q base path → ((u : ℕ) → u < size q.target → d p u ≡ true
      → is_among u values ≡ true)
      → EndsAt (variable q) (size q.target) base d (λ r. r == p) (value_clauses q path p values
      ++ at_least q p ∷ [])
