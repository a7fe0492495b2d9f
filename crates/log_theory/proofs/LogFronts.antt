-- A proper front of an accepted log ends early.
use Rattle.std.proofs.Common.{◌≡◌, ◌≢◌, ℕ, ◌+◌, Bool, true, false, cond, ◌==◌, List, [], ◌∷◌, ◌++◌, Result, Ok, Err, refl, ap, ◌∙◌, subst}
use Rattle.log_theory.specs.declared.step.Cause.{Cause}
use Rattle.log_theory.specs.declared.step.Cause.TheVariants.{EndsEarly}
use Rattle.log_theory.specs.declared.step.Verdict.{Verdict}
use Rattle.log_theory.specs.declared.step.Verdict.TheVariants.{Refused}
use Rattle.proof_theory.specs.Forms.{Form}
use Rattle.log_theory.specs.Words.{pieces, into_first}
use Rattle.log_theory.specs.Verdicts.{Stage, Opening, Progress, Goes, Ends, line_progress, at_end, go_on, when_ended, verdict_from, verdict_of, IsClaim}

-- Pieces of which the last one goes on with the first of others.
abbrev pub glued : List (List ℕ) → List (List ℕ) → List (List ℕ)
glued [] rs = rs
glued (l ∷ []) [] = l ∷ []
glued (l ∷ []) (r ∷ rs) = (l ++ r) ∷ rs
glued (l ∷ m ∷ ls) rs = l ∷ glued (m ∷ ls) rs

pieces_some : (ends : ℕ → Bool) (bs : List ℕ) → pieces ends bs ≢ []
pieces_some ends [] e = cc
pieces_some ends (b ∷ bs) e = by-test (ends b) (pieces ends bs) e
  where
    by-test : (x : Bool) (ps : List (List ℕ)) → cond x ([] ∷ ps) (into_first b ps) ≡ [] → ⊥
    by-test true ps k = cc
    by-test false [] k = cc
    by-test false (p ∷ ps) k = cc

-- The pieces of two texts joined.
pub pieces-append : (ends : ℕ → Bool) (front rest : List ℕ) → pieces ends (front ++ rest) ≡ glued (pieces ends front) (pieces ends rest)
pieces-append ends [] rest = by-rest (pieces ends rest) (pieces_some ends rest)
  where
    by-rest : (ps : List (List ℕ)) → ps ≢ [] → ps ≡ glued ([] ∷ []) ps
    by-rest [] h = absurd (h refl)
    by-rest (p ∷ ps) h = refl
pieces-append ends (b ∷ bs) rest =
    ap (λ (ps : List (List ℕ)). cond (ends b) ([] ∷ ps) (into_first b ps)) (pieces-append ends bs rest)
    ∙ by-test (ends b) (pieces ends bs) (pieces ends rest) (pieces_some ends bs)
  where
    by-test : (x : Bool) (ps rs : List (List ℕ)) → ps ≢ [] → cond x ([] ∷ glued ps rs) (into_first b (glued ps rs)) ≡ glued (cond x ([] ∷ ps) (into_first b ps)) rs
    by-test true [] rs h = absurd (h refl)
    by-test false [] rs h = absurd (h refl)
    by-test true (p ∷ ps) rs h = refl
    by-test false (p ∷ []) [] h = refl
    by-test false (p ∷ []) (r ∷ rs) h = refl
    by-test false (p ∷ q ∷ ps) rs h = refl

-- Some text has more pieces than nothing.
pieces_more : (ends : ℕ → Bool) (bs : List ℕ) → bs ≢ [] → pieces ends bs ≢ [] ∷ []
pieces_more ends [] h e = h refl
pieces_more ends (b ∷ bs) h e = by-test (ends b) (pieces ends bs) (pieces_some ends bs) e
  where
    by-test : (x : Bool) (ps : List (List ℕ)) → ps ≢ [] → cond x ([] ∷ ps) (into_first b ps) ≡ [] ∷ [] → ⊥
    by-test true [] k g = k refl
    by-test true (p ∷ ps) k g = cc
    by-test false [] k g = cc
    by-test false (p ∷ ps) k g = cc

glued_some : (ls rs : List (List ℕ)) → ls ≢ [] → glued ls rs ≢ []
glued_some [] rs h e = h refl
glued_some (l ∷ []) [] h e = cc
glued_some (l ∷ []) (r ∷ rs) h e = cc
glued_some (l ∷ m ∷ ls) rs h e = cc

-- Only nothing, glued to nothing, is nothing.
glued_nothing : (ls rs : List (List ℕ)) → ls ≢ [] → rs ≢ [] → rs ≢ [] ∷ [] → glued ls rs ≢ [] ∷ []
glued_nothing [] rs h k g e = h refl
glued_nothing (l ∷ []) [] h k g e = k refl
glued_nothing ([] ∷ []) (r ∷ rs) h k g e = g e
glued_nothing ((b ∷ bs) ∷ []) (r ∷ rs) h k g e = cc
glued_nothing (l ∷ m ∷ ls) rs h k g e = by-rest (glued (m ∷ ls) rs) (glued_some (m ∷ ls) rs (λ x. cc)) e
  where
    by-rest : (xs : List (List ℕ)) → xs ≢ [] → l ∷ xs ≡ [] ∷ [] → ⊥
    by-rest [] n x = n refl
    by-rest (y ∷ ys) n x = cc

no_claim : (k : ℕ) (c : Cause) → IsClaim (Refused k c) → ⊥
no_claim k c h = h

claimed_end : (k : ℕ) (v : Verdict) (rest : List (List ℕ)) → rest ≢ [] ∷ [] → IsClaim (at_end k v rest) → ⊥
claimed_end k v [] n h = h
claimed_end k v ([] ∷ []) n h = n refl
claimed_end k v ((b ∷ bs) ∷ []) n h = h
claimed_end k v ([] ∷ m ∷ ms) n h = h
claimed_end k v ((b ∷ bs) ∷ m ∷ ms) n h = h

-- A front of the pieces of an accepted log is refused where they end.
pub front_from : (n : ℕ) (model : List Form) (stage : Stage) (k : ℕ) (ls rs : List (List ℕ)) → ls ≢ [] → rs ≢ [] → rs ≢ [] ∷ [] → IsClaim (verdict_from n model stage k (glued ls rs)) → (i : ℕ) × (verdict_from n model stage k ls ≡ Refused i EndsEarly)
front_from n model stage k [] rs h p q c = absurd (h refl)
front_from n model stage k (l ∷ []) rs h p q c = (k, refl)
front_from n model stage k (l ∷ m ∷ ls) rs h p q c =
    by-progress (line_progress n model stage l) (glued (m ∷ ls) rs) (glued_some (m ∷ ls) rs (λ x. cc)) (glued_nothing (m ∷ ls) rs (λ x. cc) p q) (λ next g. front_from n model next (k + 1) (m ∷ ls) rs (λ x. cc) p q g) c
  where
    by-progress : (r : Result Progress Cause) (whole : List (List ℕ)) → whole ≢ [] → whole ≢ [] ∷ []
        → ((next : Stage) → IsClaim (verdict_from n model next (k + 1) whole) → (i : ℕ) × (verdict_from n model next (k + 1) (m ∷ ls) ≡ Refused i EndsEarly))
        → IsClaim (when_ended k whole r (λ next. verdict_from n model next (k + 1) whole))
        → (i : ℕ) × (go_on k (m ∷ ls) r (λ next. verdict_from n model next (k + 1) (m ∷ ls)) ≡ Refused i EndsEarly)
    by-progress r [] a b ih g = absurd (a refl)
    by-progress (Err e) (w ∷ ws) a b ih g = absurd g
    by-progress (Ok (Ends v)) (w ∷ ws) a b ih g = absurd (claimed_end (k + 1) v (w ∷ ws) b g)
    by-progress (Ok (Goes next)) (w ∷ ws) a b ih g = ih next g

-- A proper front of an accepted log ends early.
pub log_fronts : (n : ℕ) (model : List Form) (front rest : List ℕ) → rest ≢ [] → IsClaim (verdict_of n model (front ++ rest)) → (k : ℕ) × (verdict_of n model front ≡ Refused k EndsEarly)
log_fronts n model front rest h c =
    front_from n model Opening 1 (pieces (λ b. b == 10) front) (pieces (λ b. b == 10) rest) (pieces_some _ front) (pieces_some _ rest) (pieces_more _ rest h)
    (subst (λ (ps : List (List ℕ)). IsClaim (verdict_from n model Opening 1 ps)) (pieces-append (λ b. b == 10) front rest) c)
