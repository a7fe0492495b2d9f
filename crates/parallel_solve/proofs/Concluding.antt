-- Who decided, as one outcome more is heard, and what all of them come to.

use Rattle.std.proofs.Common.{◌≡◌, ℕ, ◌+◌, ◌-◌, ◌<◌, ◌≤◌, Bool, false, List, [], ◌∷◌, ◌++◌, length, take, get_or, Option, Some, None, refl, sym, ap, ◌∙◌, subst, arith, length-append, ◌⊎◌, inl, inr}
use Rattle.std.specs.Prelude.{Vec, slice_get}
use Rattle.std.specs.Global.{Global}
use Rattle.std.specs.List.{Any}
use Rattle.std.proofs.lemmas.Grind.{common_steps}
use Rattle.std.proofs.lemmas.List.{take-append-le}
use Rattle.std.proofs.lemmas.List.Elements.{All-push}
use Rattle.std.proofs.lemmas.List.Quantifiers.{Any-push}
use Rattle.std.proofs.lemmas.Option.{none-some, same_Some, slice_get_cases}
use Rattle.std.proofs.Math.Seq.{take-append_seam}
use Rattle.restart_search.specs.declared.outcome.Outcome.{Outcome}
use Rattle.restart_search.specs.declared.outcome.Outcome.TheVariants.{Found, Refuted, Spent, Stopped, Interrupted, NoMemory}
use Rattle.parallel_solve.specs.declared.answers.Solved.{Solved}
use Rattle.parallel_solve.specs.declared.answers.Solved.TheVariants as solved
use Rattle.parallel_solve.specs.declared.tally.Tally.{Tally}
use Rattle.parallel_solve.specs.Teaming.{Decides, HasEnded, HaveEnded, map_by, refuted_by, spent_by}
use Rattle.parallel_solve.specs.Concluding.{IsFound, IsRefuted, IsRefusedMemory, IsUnspent, NoneFound, NoneRefuted, IsFirst, IsFirstOrNone, HasHeard, IsConclusion, IsToldBy}
use Rattle.parallel_solve.proofs.Runs.{before_last, at_last}

-- ---- one outcome more

not_found : {X : Type 0} (f : X → Outcome) (xs : List X) (x : X) (o : Outcome) → f x ≡ o → (IsFound o → ⊥) → NoneFound f xs → NoneFound f (xs ++ x ∷ [])
not_found f xs x o is otherwise none = All-push (λ y. IsFound (f y) → ⊥) xs x none (subst (λ (p : Outcome). IsFound p → ⊥) (sym is) otherwise)

not_refuted : {X : Type 0} (f : X → Outcome) (xs : List X) (x : X) (o : Outcome) → f x ≡ o → (IsRefuted o → ⊥) → NoneRefuted f xs → NoneRefuted f (xs ++ x ∷ [])
not_refuted f xs x o is otherwise none = All-push (λ y. IsRefuted (f y) → ⊥) xs x none (subst (λ (p : Outcome). IsRefuted p → ⊥) (sym is) otherwise)

-- an embedding
found_push : {X : Type 0} (f : X → Outcome) (xs : List X) (x : X) (old new : Option (Vec ℕ Global)) (o : Outcome) → f x ≡ o → new ≡ map_by old o → (old ≡ None → NoneFound f xs)
    → new ≡ None → NoneFound f (xs ++ x ∷ [])
found_push f xs x old new (Found m) is same before none = absurd (none-some m (sym none ∙ same))
found_push f xs x old new Refuted is same before none = not_found f xs x Refuted is (λ z. z) (before (sym same ∙ none))
found_push f xs x old new Spent is same before none = not_found f xs x Spent is (λ z. z) (before (sym same ∙ none))
found_push f xs x old new (Stopped n) is same before none = not_found f xs x (Stopped n) is (λ z. z) (before (sym same ∙ none))
found_push f xs x old new Interrupted is same before none = not_found f xs x Interrupted is (λ z. z) (before (sym same ∙ none))
found_push f xs x old new NoMemory is same before none = not_found f xs x NoMemory is (λ z. z) (before (sym same ∙ none))

-- a refutation: the first one stays the first
first_kept : {X : Type 0} (f : X → Outcome) (xs : List X) (x : X) (number : ℕ) → IsFirst f xs number → IsFirst f (xs ++ x ∷ []) number
first_kept f xs x number r = record {
  some = r.some;
  there = omega (arith, r.there, length-append xs (x ∷ []));
  refuted = λ y is. r.refuted y (sym (before_last xs x (number - 1) (omega (arith, r.some, r.there))) ∙ is);
  first = subst (NoneRefuted f) (sym (take-append-le (number - 1) xs (x ∷ []) (omega (arith, r.some, r.there)))) r.first;
}

first_here : {X : Type 0} (f : X → Outcome) (xs : List X) (x : X) (number : ℕ) → f x ≡ Refuted → number ≡ length xs + 1 → NoneRefuted f xs → IsFirst f (xs ++ x ∷ []) number
first_here f xs x number is last none =
    let at : length xs ≡ number - 1 = omega (arith, last) in
    record {
      some = omega (arith, last);
      there = omega (arith, last, length-append xs (x ∷ []));
      refuted = λ y there. subst (λ z. IsRefuted (f z)) (same_Some x y (sym (at_last xs x) ∙ (ap (slice_get (xs ++ x ∷ [])) at ∙ there))) (subst IsRefuted (sym is) tt);
      first = subst (NoneRefuted f) (sym (ap (λ (k : ℕ). take k (xs ++ x ∷ [])) (sym at) ∙ take-append_seam xs (x ∷ []))) none;
    }

refuter_of : {X : Type 0} (f : X → Outcome) (xs : List X) (x : X) (old : Option ℕ) (number : ℕ) (o : Outcome) → f x ≡ o → number ≡ length xs + 1 → IsFirstOrNone f xs old
    → IsFirstOrNone f (xs ++ x ∷ []) (refuted_by old number o)
refuter_of f xs x None number (Found m) is last h = not_refuted f xs x (Found m) is (λ z. z) h
refuter_of f xs x None number Refuted is last h = first_here f xs x number is last h
refuter_of f xs x None number Spent is last h = not_refuted f xs x Spent is (λ z. z) h
refuter_of f xs x None number (Stopped n) is last h = not_refuted f xs x (Stopped n) is (λ z. z) h
refuter_of f xs x None number Interrupted is last h = not_refuted f xs x Interrupted is (λ z. z) h
refuter_of f xs x None number NoMemory is last h = not_refuted f xs x NoMemory is (λ z. z) h
refuter_of f xs x (Some k) number (Found m) is last h = first_kept f xs x k h
refuter_of f xs x (Some k) number Refuted is last h = first_kept f xs x k h
refuter_of f xs x (Some k) number Spent is last h = first_kept f xs x k h
refuter_of f xs x (Some k) number (Stopped n) is last h = first_kept f xs x k h
refuter_of f xs x (Some k) number Interrupted is last h = first_kept f xs x k h
refuter_of f xs x (Some k) number NoMemory is last h = first_kept f xs x k h

-- one that was not spent
any_left : {X : Type 0} (P : X → Type 0) (xs : List X) (x : X) → Any P xs → Any P (xs ++ x ∷ [])
any_left P xs x (k, y, lt, is, p) =
    let low : get_or (xs ++ x ∷ []) k y ≡ get_or xs k y = grind (arith, common_steps) in
    (k, y, omega (arith, lt, length-append xs (x ∷ [])), low ∙ is, p)

unspent_here : {X : Type 0} (f : X → Outcome) (xs : List X) (x : X) (o : Outcome) → f x ≡ o → IsUnspent o → Any (λ y. IsUnspent (f y)) (xs ++ x ∷ [])
unspent_here f xs x o is one = Any-push (λ y. IsUnspent (f y)) xs x (subst IsUnspent (sym is) one)

unspent_push : {X : Type 0} (f : X → Outcome) (xs : List X) (x : X) (old new : Bool) (o : Outcome) → f x ≡ o → new ≡ spent_by old o → (old ≡ false → Any (λ y. IsUnspent (f y)) xs)
    → new ≡ false → Any (λ y. IsUnspent (f y)) (xs ++ x ∷ [])
unspent_push f xs x old new (Found m) is same before none = unspent_here f xs x (Found m) is tt
unspent_push f xs x old new Refuted is same before none = unspent_here f xs x Refuted is tt
unspent_push f xs x old new Spent is same before none = any_left (λ y. IsUnspent (f y)) xs x (before (sym same ∙ none))
unspent_push f xs x old new (Stopped n) is same before none = unspent_here f xs x (Stopped n) is tt
unspent_push f xs x old new Interrupted is same before none = unspent_here f xs x Interrupted is tt
unspent_push f xs x old new NoMemory is same before none = unspent_here f xs x NoMemory is tt

pub heard_push : {X : Type 0} (f : X → Outcome) (xs : List X) (x : X) (old new : Tally) (number : ℕ) → number ≡ length xs + 1 → HasHeard f xs old → new.map ≡ map_by old.map (f x)
    → new.refuted ≡ refuted_by old.refuted number (f x) → new.spent ≡ spent_by old.spent (f x) → HasHeard f (xs ++ x ∷ []) new
heard_push f xs x old new number last h map refuted spent = record {
  found = found_push f xs x old.map new.map (f x) refl map h.found;
  refuter = subst (IsFirstOrNone f (xs ++ x ∷ [])) (sym refuted) (refuter_of f xs x old.refuted number (f x) refl last h.refuter);
  unspent = unspent_push f xs x old.spent new.spent (f x) refl spent h.unspent;
}

-- ---- all of them

-- the first that refuted is there
refuter_there : {X : Type 0} (f : X → Outcome) (xs : List X) (number : ℕ) → IsFirst f xs number → Any (λ x. IsRefuted (f x)) xs
refuter_there {X} f xs number r = by (slice_get_cases xs (number - 1)).1
  where
    by : ((x : X) × (number - 1 < length xs) × (slice_get xs (number - 1) ≡ Some x) × (get_or xs (number - 1) x ≡ x)) ⊎ ((length xs ≤ number - 1) × (slice_get xs (number - 1) ≡ None)) → Any (λ x. IsRefuted (f x)) xs
    by (inl h) = (number - 1, h.0, h.1, h.3, r.refuted h.0 h.2)
    by (inr h) = absurd (omega (arith, h.0, r.some, r.there))

decides_neither : (o : Outcome) → (IsFound o → ⊥) → (IsRefuted o → ⊥) → Decides o → ⊥
decides_neither (Found m) found refuted d = found tt
decides_neither Refuted found refuted d = refuted tt
decides_neither Spent found refuted d = d
decides_neither (Stopped n) found refuted d = d
decides_neither Interrupted found refuted d = d
decides_neither NoMemory found refuted d = d

memory_left : (o : Outcome) → (IsFound o → ⊥) → (IsRefuted o → ⊥) → HasEnded o → IsUnspent o → IsRefusedMemory o
memory_left (Found m) found refuted ended unspent = absurd (found tt)
memory_left Refuted found refuted ended unspent = absurd (refuted tt)
memory_left Spent found refuted ended unspent = absurd unspent
memory_left (Stopped n) found refuted ended unspent = absurd ended
memory_left Interrupted found refuted ended unspent = absurd ended
memory_left NoMemory found refuted ended unspent = tt

-- where none decides and all have come to their ends, one that was not spent was refused memory
memory_there : {X : Type 0} (f : X → Outcome) (xs : List X) → NoneFound f xs → NoneRefuted f xs → HaveEnded f xs → Any (λ x. IsUnspent (f x)) xs → Any (λ x. IsRefusedMemory (f x)) xs
memory_there {X} f xs found refuted ended (k, x, lt, is, one) = (k, x, lt, is, memory_left (f x) (neither_found k x lt is) (neither_refuted k x lt is) (has_ended ended) one)
  where
    neither_found : (i : ℕ) (y : X) → i < length xs → get_or xs i y ≡ y → IsFound (f y) → ⊥
    neither_found i y inside same = subst (λ (z : X). IsFound (f z) → ⊥) same (found i y inside)

    neither_refuted : (i : ℕ) (y : X) → i < length xs → get_or xs i y ≡ y → IsRefuted (f y) → ⊥
    neither_refuted i y inside same = subst (λ (z : X). IsRefuted (f z) → ⊥) same (refuted i y inside)

    has_ended : HaveEnded f xs → HasEnded (f x)
    has_ended (inl (i, y, inside, same, d)) = absurd (decides_neither (f y) (neither_found i y inside same) (neither_refuted i y inside same) d)
    has_ended (inr all) = subst (λ (z : X). HasEnded (f z)) is (all k x lt)

pub concluded : {X : Type 0} (f : X → Outcome) (xs : List X) (t : Tally) (s : Solved) → HasHeard f xs t → HaveEnded f xs → IsToldBy t s → IsConclusion f xs s
concluded f xs t (solved.Yes m) h ended told = tt
concluded f xs t (solved.NoEmbedding proof) h ended told = (h.found told.0, (told.1.0, subst (IsFirstOrNone f xs) told.1.1 h.refuter, told.1.2))
concluded f xs t (solved.Unknown accounts) h ended told = (h.found told.0, subst (IsFirstOrNone f xs) told.1 h.refuter)
concluded f xs t solved.NoMemory h ended told = (h.found told.0, by told.1)
  where
    by : ((number : ℕ) × (t.refuted ≡ Some number)) ⊎ ((t.refuted ≡ None) × (t.spent ≡ false)) → Any (λ x. IsRefuted (f x)) xs ⊎ (NoneRefuted f xs × Any (λ x. IsRefusedMemory (f x)) xs)
    by (inl r) = inl (refuter_there f xs r.0 (subst (IsFirstOrNone f xs) r.1 h.refuter))
    by (inr u) =
        let none = subst (IsFirstOrNone f xs) u.0 h.refuter in
        inr (none, memory_there f xs (h.found told.0) none ended (h.unspent u.1))
