-- Lists of numbers in range, one number more.
use Rattle.std.proofs.Common.{◌≡◌, ℕ, suc, ◌+◌, ◌<◌, ◌≤◌, nat_lt, true, List, [], ◌∷◌, ◌++◌, take, slice_index, length, get_or, Some, sym, ap, subst, ◌∙◌, arith, inl, inr}
use Rattle.std.specs.Prelude.{map, slice_get}
use Rattle.std.proofs.lemmas.List.{reverse-append}
use Rattle.std.proofs.lemmas.Bool.{and_from, cases_eq, lt-ltb}
use Rattle.std.proofs.lemmas.Option.{slice_get_within, get_or_from_slice_get}
use Rattle.graph_theory.specs.Graph.{Graph, size}
use Rattle.graph_theory.specs.Neighbours.{count, is_near}
use Rattle.graph_theory.specs.Blocks.{has_near}
use Rattle.graph_theory.proofs.Counts.{count_two}
use Rattle.graph_theory.specs.Embedding.{Problem}
use Rattle.log_theory.specs.declared.step.Ref.{Ref}
use Rattle.log_theory.specs.LogText.{IsRef, AreRefs}
use Rattle.log_theory.specs.Lookups.{is_among}
use Rattle.nogood_book.specs.Rows.{AreInRange}
use Rattle.recorder.specs.declared.change.Entry.{Entry}
use Rattle.recorder.specs.Recording.{change_of, changes_of}
use Rattle.dead_theory.specs.Changes.{IsInProblem, AreInProblem}
use Rattle.dead_paths.proofs.Marking.{among_next}
use Rattle.dead_paths.proofs.LineRefs.{refs_behind}

-- What is so of all up to one, and of this.
pub all_next : (P : ℕ → Type 0) (xs : List ℕ) (i v : ℕ) → i < length xs → slice_index xs i ≡ v → P v → ((p : ℕ) → is_among p (take i xs) ≡ true → P p) → (p : ℕ) → is_among p (take (i + 1) xs) ≡ true → P p
all_next P xs i v below is here old p among =
    let e : i + 1 ≡ suc i = omega arith in
    elim (among_next xs i p below (sym (ap (λ (k : ℕ). is_among p (take k xs)) e) ∙ among)) [ inl h ↦ old p h | inr same ↦ subst P (sym is ∙ same) here ]

range_more : (q : Problem) (xs : List (ℕ × ℕ)) (x : ℕ × ℕ) → AreInRange q xs → x.0 < size q.pattern → x.1 < size q.target → AreInRange q (xs ++ x ∷ [])
range_more q [] x all p t = (p, t, tt)
range_more q (y ∷ ys) x all p t = (all.0, all.1, range_more q ys x all.2 p t)

pub range_pushed : (q : Problem) (old new : List (ℕ × ℕ)) (x : ℕ × ℕ) → new ≡ old ++ x ∷ [] → AreInRange q old → x.0 < size q.pattern → x.1 < size q.target → AreInRange q new
range_pushed q old new x is all p t = subst (AreInRange q) (sym is) (range_more q old x all p t)

pub refs_pushed : (old new : List Ref) (r : Ref) → new ≡ old ++ r ∷ [] → AreRefs old → IsRef r → AreRefs new
refs_pushed old new r is all fits = subst AreRefs (sym is) (refs_behind old (r ∷ []) all (fits, tt))

-- The change of the last entry is the first.
pub changes_pushed : (q : Problem) (numbers : List ℕ) (old new : List Entry) (e : Entry) → new ≡ old ++ e ∷ [] → AreInProblem q (changes_of numbers old) → IsInProblem q (change_of numbers e)
    → AreInProblem q (changes_of numbers new)
changes_pushed q numbers old new e is all fits =
    let first : changes_of numbers new ≡ change_of numbers e ∷ changes_of numbers old = ap (changes_of numbers) is ∙ ap (map (change_of numbers)) (reverse-append old (e ∷ [])) in
    subst (AreInProblem q) (sym first) (fits, all)

-- ---- blocks

-- Two vertices near a third are a block around it.
pub two_near : (g : Graph) (c a b : ℕ) → c < size g → a < size g → b < size g → (a ≡ b → ⊥) → is_near g c a ≡ true → is_near g c b ≡ true → has_near g c ≡ true
two_near g c a b c_in a_in b_in two first second =
    and_from (nat_lt c (size g)) (nat_lt 1 (count (is_near g c) (size g))) (lt-ltb c (size g) c_in) (count_two (is_near g c) a b (size g) a_in b_in two first second)
