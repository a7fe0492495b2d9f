-- What lasts goes on to last: each step that makes or shares a constraint only adds forms.
use Rattle.std.proofs.Common.{◌≡◌, ◌⊎◌, inl, inr, ℕ, zero, suc, List, [], ◌∷◌, ◌++◌, map, get_or, set, Option, Some, None, Result, Ok, Err, refl, sym, ap, subst}
use Rattle.log_theory.specs.declared.profile.Profile.TheVariants.{Plain}
use Rattle.log_theory.specs.declared.step.Cause.{Cause}
use Rattle.log_theory.specs.declared.step.Name.{Name}
use Rattle.log_theory.specs.declared.step.Op.{Op}
use Rattle.log_theory.specs.declared.step.Ref.{Ref}
use Rattle.log_theory.specs.declared.step.Step.TheVariants.{P, U, N}
use Rattle.proof_theory.specs.declared.literal.Literal.{Literal}
use Rattle.proof_theory.specs.Forms.{Form}
use Rattle.proof_theory.specs.Propagation.{IsAmong}
use Rattle.log_theory.specs.Steps.{◌>>=◌}
use Rattle.log_theory.specs.Lookups.{makes, closed_clause}
use Rattle.log_theory.specs.Tables.{Table, find, with_made, with_shared, fresh_name, fresh_row, all_forms, somes, step_of, step_in}
use Rattle.log_theory.proofs.DroppedLogs.{left_among, right_among, somes-append}
use Rattle.pb_propagation.specs.Led.{nothing}
use Rattle.pb_propagation.specs.Levels.{TwoLevels, root}
use Rattle.pb_propagation.specs.Rooted.{IsRooted}
use Rattle.proof_checker.proofs.Passing.{flat, split_among}
use Rattle.pb_propagation.proofs.Led.{led_nothing, led_more}

-- The forms of one are among those of the other.
abbrev pub Grows : List Form → List Form → Type 0
Grows fs gs = (f : Form) → IsAmong f fs → IsAmong f gs

grows_parts : (fs gs rs ss : List Form) → Grows fs gs → Grows rs ss → Grows (fs ++ rs) (gs ++ ss)
grows_parts fs gs rs ss h k f i = by (split_among f fs rs i)
  where
    by : IsAmong f fs ⊎ IsAmong f rs → IsAmong f (gs ++ ss)
    by (inl j) = left_among f gs ss (h f j)
    by (inr j) = right_among f gs ss (k f j)

-- What stands in places, and in more of them.
grows_somes : (os ps : List (Option Form)) → Grows (somes os) (somes (os ++ ps))
grows_somes os ps f i = subst (λ (gs : List Form). IsAmong f gs) (sym (somes-append os ps)) (left_among f (somes os) (somes ps) i)

grows_flat : (lists : List (List (Option Form))) (owner : ℕ) (o : Option Form) → Grows (somes (flat lists)) (somes (flat (set lists owner (get_or lists owner [] ++ o ∷ []))))
grows_flat [] owner o f i = absurd i
grows_flat (fs ∷ lists) zero o f i =
    subst (λ (gs : List Form). IsAmong f gs) (sym (somes-append (fs ++ o ∷ []) (flat lists)))
    (grows_parts (somes fs) (somes (fs ++ o ∷ [])) (somes (flat lists)) (somes (flat lists)) (grows_somes fs (o ∷ [])) (λ g j. j) f (subst (λ (gs : List Form). IsAmong f gs) (somes-append fs (flat lists)) i))
grows_flat (fs ∷ lists) (suc owner) o f i =
    subst (λ (gs : List Form). IsAmong f gs) (sym (somes-append fs (flat (set lists owner (get_or lists owner [] ++ o ∷ [])))))
    (grows_parts (somes fs) (somes fs) (somes (flat lists)) (somes (flat (set lists owner (get_or lists owner [] ++ o ∷ [])))) (λ g j. j) (grows_flat lists owner o) f (subst (λ (gs : List Form). IsAmong f gs) (somes-append fs (flat lists)) i))

grows_made : (model : List Form) (t : Table) (name : Name) (g : Form) → Grows (all_forms model t) (all_forms model (with_made t name g))
grows_made model t name g =
    grows_parts model model _ _ (λ f i. i)
    (grows_parts (somes (flat t.made)) (somes (flat (with_made t name g).made)) (somes (map (λ s. s.1) t.shared)) (somes (map (λ s. s.1) t.shared)) (grows_flat t.made name.owner (Some g)) (λ f i. i))

grows_shared : (model : List Form) (t : Table) (row : ℕ) (g : Form) → Grows (all_forms model t) (all_forms model (with_shared t row g))
grows_shared model t row g =
    grows_parts model model _ _ (λ f i. i)
    (grows_parts (somes (flat t.made)) (somes (flat t.made)) (somes (map (λ s. s.1) t.shared)) (somes (map (λ s. s.1) (t.shared ++ (row, Some g) ∷ []))) (λ f i. i) more)
  where
    behind_rows : (ss : List (ℕ × Option Form)) → map (λ s. s.1) (ss ++ (row, Some g) ∷ []) ≡ map (λ s. s.1) ss ++ Some g ∷ []
    behind_rows [] = refl
    behind_rows (s ∷ ss) = ap (λ (os : List (Option Form)). s.1 ∷ os) (behind_rows ss)

    more : Grows (somes (map (λ s. s.1) t.shared)) (somes (map (λ s. s.1) (t.shared ++ (row, Some g) ∷ [])))
    more f i = subst (λ (os : List (Option Form)). IsAmong f (somes os)) (sym (behind_rows t.shared)) (grows_somes (map (λ s. s.1) t.shared) (Some g ∷ []) f i)

-- ---- steps

-- What stands behind a test and a value comes from the value.
behind : {A B : Type 0} (says : A → Type 0) (test : Result ℕ Cause) (r : Result B Cause) (k : B → A) (x : A) → ((b : B) → says (k b)) → (test >>= λ _. r >>= λ b. Ok (k b)) ≡ Ok x → says x
behind says (Err e) r k x h g = absurd cc
behind says (Ok n) (Err e) k x h g = absurd cc
behind says (Ok n) (Ok b) k x h g = subst says (same (k b) x g) (h b)
  where
    same : {A : Type 0} (a x : A) → (let y : Result A Cause = Ok a in let z : Result A Cause = Ok x in y ≡ z) → a ≡ x
    same a x e = cc

-- ---- what lasts

-- Where nothing lasts.
pub rooted_none : (model : List Form) (t : Table) (l : TwoLevels) → ((v : ℕ) → root l v ≡ None) → IsRooted model t l
rooted_none model t l e = record { led = led_nothing nothing (all_forms model t) (root l) e }

rooted_grown : (model : List Form) (t : Table) (l : TwoLevels) → IsRooted model t l → (u : Table) → Grows (all_forms model t) (all_forms model u) → IsRooted model u l
rooted_grown model t l r u g = record { led = led_more nothing (all_forms model t) (all_forms model u) (root l) g r.led }

-- Behind each kind of line that makes or shares a constraint.
pub rooted_p : (model : List Form) (t u : Table) (name : Name) (ops : List Op) (l : TwoLevels) → step_of model t (P name ops) ≡ Ok u → IsRooted model t l → IsRooted model u l
rooted_p model t u name ops l e r = behind (λ x. IsRooted model x l) (fresh_name t name) (makes (find model t) (P name ops)) (with_made t name) u (λ g. rooted_grown model t l r (with_made t name g) (grows_made model t name g)) e

pub rooted_u : (model : List Form) (t u : Table) (name : Name) (lits : List Literal) (refs : List Ref) (l : TwoLevels) → step_of model t (U name lits refs) ≡ Ok u → IsRooted model t l → IsRooted model u l
rooted_u model t u name lits refs l e r = behind (λ x. IsRooted model x l) (fresh_name t name) (makes (find model t) (U name lits refs)) (with_made t name) u (λ g. rooted_grown model t l r (with_made t name g) (grows_made model t name g)) e

pub rooted_plain : (model : List Form) (t u : Table) (name : Name) (lits : List Literal) (refs : List Ref) (l : TwoLevels) → step_in Plain model t (U name lits refs) ≡ Ok u → IsRooted model t l → IsRooted model u l
rooted_plain model t u name lits refs l e r = behind (λ x. IsRooted model x l) (fresh_name t name) (closed_clause (all_forms model t) lits) (with_made t name) u (λ g. rooted_grown model t l r (with_made t name g) (grows_made model t name g)) e

pub rooted_n : (model : List Form) (t u : Table) (row : ℕ) (name : Name) (l : TwoLevels) → step_of model t (N row name) ≡ Ok u → IsRooted model t l → IsRooted model u l
rooted_n model t u row name l e r = behind (λ x. IsRooted model x l) (fresh_row t row) (makes (find model t) (N row name)) (with_shared t row) u (λ g. rooted_grown model t l r (with_shared t row g) (grows_shared model t row g)) e
