-- An index of a log and of one line more.
use Rattle.std.proofs.Common.{◌≡◌, ℕ, zero, suc, ◌+◌, ◌==◌, Bool, true, false, cond, List, [], ◌∷◌, ◌++◌, ◌≤◌, length, take, Option, Some, None, refl, sym, ap, ◌∙◌, length-append, append-nil, arith}
use Rattle.std.specs.Prelude.{nat_eq}
use Rattle.std.specs.HashMap.{get}
use Rattle.log_theory.specs.declared.step.Name.{Name}
use Rattle.proof_theory.specs.declared.literal.Literal.{Literal}
use Rattle.log_theory.specs.declared.step.Op.{Op}
use Rattle.log_theory.specs.declared.step.Ref.{Ref}
use Rattle.log_theory.specs.declared.step.Step.{Step}
use Rattle.log_theory.specs.declared.step.Step.TheVariants.{Head, Model, P, U, N, D, E, Y, Q}
use Rattle.trim_theory.specs.Trimming.{made_names, row_name}
use Rattle.trim_theory.specs.Marking.{made_lines, same_name, one_behind, place_of}
use Rattle.trim_theory.proofs.Placed.{same_name_is}
use Rattle.trim_theory.proofs.Writing.{kept_few}
use Rattle.proof_trim.specs.declared.index.Index.{Index}
use Rattle.proof_trim.specs.Places.{same_key, name_place, IsIndexOf, IsIndexWith, only, or_else}

-- The lines of one log behind another.
pub lines_on : (xs ys : List Step) → made_lines (xs ++ ys) ≡ made_lines xs ++ made_lines ys
lines_on [] ys = refl
lines_on (P name ops ∷ xs) ys = ap (λ (ss : List Step). P name ops ∷ ss) (lines_on xs ys)
lines_on (U name lits refs ∷ xs) ys = ap (λ (ss : List Step). U name lits refs ∷ ss) (lines_on xs ys)
lines_on (Head ∷ xs) ys = lines_on xs ys
lines_on (Model m ∷ xs) ys = lines_on xs ys
lines_on (N row name ∷ xs) ys = lines_on xs ys
lines_on (D at ∷ xs) ys = lines_on xs ys
lines_on (E at ∷ xs) ys = lines_on xs ys
lines_on (Y ones ∷ xs) ys = lines_on xs ys
lines_on (Q ∷ xs) ys = lines_on xs ys

names_on : (xs ys : List Step) → made_names (xs ++ ys) ≡ made_names xs ++ made_names ys
names_on [] ys = refl
names_on (P name ops ∷ xs) ys = ap (λ (ns : List Name). name ∷ ns) (names_on xs ys)
names_on (U name lits refs ∷ xs) ys = ap (λ (ns : List Name). name ∷ ns) (names_on xs ys)
names_on (Head ∷ xs) ys = names_on xs ys
names_on (Model m ∷ xs) ys = names_on xs ys
names_on (N row name ∷ xs) ys = names_on xs ys
names_on (D at ∷ xs) ys = names_on xs ys
names_on (E at ∷ xs) ys = names_on xs ys
names_on (Y ones ∷ xs) ys = names_on xs ys
names_on (Q ∷ xs) ys = names_on xs ys

-- Each line that makes a constraint has a name.
pub names_long : (log : List Step) → length (made_names (made_lines log)) ≡ length (made_lines log)
names_long [] = refl
names_long (P name ops ∷ xs) = ap suc (names_long xs)
names_long (U name lits refs ∷ xs) = ap suc (names_long xs)
names_long (Head ∷ xs) = names_long xs
names_long (Model m ∷ xs) = names_long xs
names_long (N row name ∷ xs) = names_long xs
names_long (D at ∷ xs) = names_long xs
names_long (E at ∷ xs) = names_long xs
names_long (Y ones ∷ xs) = names_long xs
names_long (Q ∷ xs) = names_long xs

-- The place of a name where one more stands behind the others.
place_snoc : (names : List Name) (name other : Name) → place_of (names ++ name ∷ []) other ≡ or_else (place_of names other) (only (same_name name other) (length names))
place_snoc [] name other = by (same_name name other)
  where
    by : (b : Bool) → cond {A = Option ℕ} b (Some 0) None ≡ only b 0
    by true = refl
    by false = refl
place_snoc (n ∷ ns) name other = ap (λ (o : Option ℕ). cond (same_name n other) (Some 0) (one_behind o)) (place_snoc ns name other) ∙ by (same_name n other) (place_of ns other) (same_name name other)
  where
    by : (b : Bool) (o : Option ℕ) (c : Bool) → cond b (Some 0) (one_behind (or_else o (only c (length ns)))) ≡ or_else (cond b (Some 0) (one_behind o)) (only c (suc (length ns)))
    by true o c = refl
    by false (Some i) c = refl
    by false None true = refl
    by false None false = refl

row_snoc : (log : List Step) (row k : ℕ) (name : Name) → row_name (log ++ N row name ∷ []) k ≡ or_else (row_name log k) (only (row == k) name)
row_snoc [] row k name = by (row == k)
  where
    by : (b : Bool) → cond b (Some name) None ≡ only b name
    by true = refl
    by false = refl
row_snoc (N r n ∷ xs) row k name = by (r == k) (row_snoc xs row k name)
  where
    by : (b : Bool) → row_name (xs ++ N row name ∷ []) k ≡ or_else (row_name xs k) (only (row == k) name) → cond b (Some n) (row_name (xs ++ N row name ∷ []) k) ≡ or_else (cond b (Some n) (row_name xs k)) (only (row == k) name)
    by true e = refl
    by false e = e
row_snoc (P nm ops ∷ xs) row k name = row_snoc xs row k name
row_snoc (U nm lits refs ∷ xs) row k name = row_snoc xs row k name
row_snoc (Head ∷ xs) row k name = row_snoc xs row k name
row_snoc (Model m ∷ xs) row k name = row_snoc xs row k name
row_snoc (D at ∷ xs) row k name = row_snoc xs row k name
row_snoc (E at ∷ xs) row k name = row_snoc xs row k name
row_snoc (Y ones ∷ xs) row k name = row_snoc xs row k name
row_snoc (Q ∷ xs) row k name = row_snoc xs row k name

-- A line that shares nothing leaves the rows.
row_same : (log : List Step) (s : Step) (k : ℕ) → row_name (s ∷ []) k ≡ None → row_name (log ++ s ∷ []) k ≡ row_name log k
row_same [] s k e = e
row_same (N r n ∷ xs) s k e = ap (cond (r == k) (Some n)) (row_same xs s k e)
row_same (P nm ops ∷ xs) s k e = row_same xs s k e
row_same (U nm lits refs ∷ xs) s k e = row_same xs s k e
row_same (Head ∷ xs) s k e = row_same xs s k e
row_same (Model m ∷ xs) s k e = row_same xs s k e
row_same (D at ∷ xs) s k e = row_same xs s k e
row_same (E at ∷ xs) s k e = row_same xs s k e
row_same (Y ones ∷ xs) s k e = row_same xs s k e
row_same (Q ∷ xs) s k e = row_same xs s k e

-- One more line that makes a constraint.
pub index_made : (old more : Index) (log : List Step) (s : Step) (name : Name) (count : ℕ) → made_lines (s ∷ []) ≡ s ∷ [] → made_names (s ∷ []) ≡ name ∷ [] → ((k : ℕ) → row_name (s ∷ []) k ≡ None)
    → ((other : Name) → name_place more other ≡ or_else (name_place old other) (only (same_name name other) count)) → more.rows ≡ old.rows
    → IsIndexOf old log → count ≡ length (made_lines log) → IsIndexWith more (log ++ s ∷ []) (count + 1)
index_made old more log s name count making bears unshared put rows index counted = record {
  index_of = record {
    places = λ other.
        put other
        ∙ ap (λ (o : Option ℕ). or_else o (only (same_name name other) count)) (index.places other)
        ∙ ap (λ (n : ℕ). or_else (place_of (made_names (made_lines log)) other) (only (same_name name other) n)) (counted ∙ sym (names_long log))
        ∙ sym (place_snoc (made_names (made_lines log)) name other)
        ∙ ap (λ (ns : List Name). place_of ns other) (sym (ap made_names (lines_on log (s ∷ []) ∙ ap (λ (ss : List Step). made_lines log ++ ss) making) ∙ names_on (made_lines log) (s ∷ []) ∙ ap (λ (ns : List Name). made_names (made_lines log) ++ ns) bears));
    rows = λ k. ap (λ (m : _). get nat_eq m k) rows ∙ index.rows k ∙ sym (row_same log s k (unshared k));
  };
  counted = ap (λ (n : ℕ). n + 1) counted ∙ sym (ap (λ (ss : List Step). length ss) (lines_on log (s ∷ []) ∙ ap (λ (ss : List Step). made_lines log ++ ss) making) ∙ length-append (made_lines log) (s ∷ []));
}

-- One more line that shares a constraint.
pub index_shared : (old more : Index) (log : List Step) (row : ℕ) (name : Name) (count : ℕ) → ((k : ℕ) → get nat_eq more.rows k ≡ or_else (get nat_eq old.rows k) (only (row == k) name)) → more.places ≡ old.places
    → IsIndexOf old log → count ≡ length (made_lines log) → IsIndexWith more (log ++ N row name ∷ []) count
index_shared old more log row name count put places index counted = record {
  index_of = record {
    places = λ other.
        ap (λ (m : _). get same_key m (other.owner, other.number)) places
        ∙ index.places other
        ∙ ap (λ (ss : List Step). place_of (made_names ss) other) (sym (lines_on log (N row name ∷ []) ∙ append-nil (made_lines log)));
    rows = λ k. put k ∙ ap (λ (o : Option Name). or_else o (only (row == k) name)) (index.rows k) ∙ sym (row_snoc log row k name);
  };
  counted = counted ∙ ap (λ (ss : List Step). length ss) (sym (lines_on log (N row name ∷ []) ∙ append-nil (made_lines log)));
}

-- One more line that does neither.
pub index_other : (index : Index) (log : List Step) (s : Step) (count : ℕ) → made_lines (s ∷ []) ≡ [] → ((k : ℕ) → row_name (s ∷ []) k ≡ None)
    → IsIndexOf index log → count ≡ length (made_lines log) → IsIndexWith index (log ++ s ∷ []) count
index_other index log s count nothing unshared known counted = record {
  index_of = record {
    places = λ other.
        known.places other
        ∙ ap (λ (ss : List Step). place_of (made_names ss) other) (sym (lines_on log (s ∷ []) ∙ ap (λ (ss : List Step). made_lines log ++ ss) nothing ∙ append-nil (made_lines log)));
    rows = λ k. known.rows k ∙ sym (row_same log s k (unshared k));
  };
  counted = counted ∙ ap (λ (ss : List Step). length ss) (sym (lines_on log (s ∷ []) ∙ ap (λ (ss : List Step). made_lines log ++ ss) nothing ∙ append-nil (made_lines log)));
}

-- A name that has no place gets one.
pub name_put : (old : Index) (name other : Name) (place : ℕ) → name_place old name ≡ None → cond (same_name name other) (Some place) (name_place old other) ≡ or_else (name_place old other) (only (same_name name other) place)
name_put old name other place none = by (same_name name other) refl
  where
    nothing_or : (o : Option ℕ) → o ≡ or_else o None
    nothing_or None = refl
    nothing_or (Some i) = refl

    by : (b : Bool) → same_name name other ≡ b → cond b (Some place) (name_place old other) ≡ or_else (name_place old other) (only b place)
    by true is = ap (λ (o : Option ℕ). or_else o (Some place)) (sym none ∙ ap (name_place old) (same_name_is name other is))
    by false is = nothing_or (name_place old other)

-- A name that has a place keeps it.
pub name_kept : (old : Index) (name other : Name) (place at : ℕ) → name_place old name ≡ Some at → name_place old other ≡ or_else (name_place old other) (only (same_name name other) place)
name_kept old name other place at is = by (same_name name other) refl
  where
    nothing_or : (o : Option ℕ) → o ≡ or_else o None
    nothing_or None = refl
    nothing_or (Some i) = refl

    by : (b : Bool) → same_name name other ≡ b → name_place old other ≡ or_else (name_place old other) (only b place)
    by true e = let here : name_place old other ≡ Some at = ap (name_place old) (sym (same_name_is name other e)) ∙ is in here ∙ ap (λ (o : Option ℕ). or_else o (Some place)) (sym here)
    by false e = nothing_or (name_place old other)

-- A line that neither makes nor shares a constraint.
pub other_step : (s : Step) → ((name : Name) (ops : List Op) → s ≡ P name ops → ⊥) → ((name : Name) (lits : List Literal) (refs : List Ref) → s ≡ U name lits refs → ⊥)
    → ((row : ℕ) (name : Name) → s ≡ N row name → ⊥) → (made_lines (s ∷ []) ≡ []) × ((k : ℕ) → row_name (s ∷ []) k ≡ None)
other_step (P name ops) p u n = absurd (p name ops refl)
other_step (U name lits refs) p u n = absurd (u name lits refs refl)
other_step (N row name) p u n = absurd (n row name refl)
other_step Head p u n = (refl, λ k. refl)
other_step (Model m) p u n = (refl, λ k. refl)
other_step (D at) p u n = (refl, λ k. refl)
other_step (E at) p u n = (refl, λ k. refl)
other_step (Y ones) p u n = (refl, λ k. refl)
other_step Q p u n = (refl, λ k. refl)

-- No more lines make constraints than there are.
counted_lines : (log : List Step) → length (made_lines log) ≤ length log
counted_lines log = kept_few (λ name. true) log

pub counted_most : (log : List Step) (i count : ℕ) → count ≡ length (made_lines (take i log)) → count ≤ i
counted_most log i count e = let l = counted_lines (take i log) in let t = length-take-le i log in omega (arith, e, l, t)
  where
    length-take-le : (n : ℕ) (xs : List Step) → length (take n xs) ≤ n
    length-take-le zero xs = omega arith
    length-take-le (suc n) [] = omega arith
    length-take-le (suc n) (x ∷ xs) = let h = length-take-le n xs in omega (arith, h)
