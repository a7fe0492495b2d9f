-- What workers leave, place by place: numbers from 1 on, and who refuted.
use Rattle.std.proofs.Common.{◌≡◌, ℕ, zero, suc, ◌+◌, ◌-◌, ◌<◌, ◌≤◌, List, [], ◌∷◌, ◌++◌, length, map, get_or, set, take, Some, None, refl, sym, ap, ◌∙◌, subst, arith, length-append, ◌⊎◌, inl, inr}
use Rattle.std.specs.Prelude.{All, slice_get}
use Rattle.std.proofs.lemmas.Option.{slice_get_cases, slice_get-get_or, slice_get_within, get_or_from_slice_get, none-some, same_Some}
use Rattle.std.proofs.lemmas.List.{length-map, length-set, get_or-map, get_or-set_same, take_all, take-set}
use Rattle.std.proofs.lemmas.List.Elements.{All-more}
use Rattle.parallel_solve.specs.Jobs.{AreRun}
use Rattle.proof_collection.specs.Making.{AreOfOwners}
use Rattle.parallel_solve.specs.Teaming.{IsRefuter}

-- ---- places

-- what holds of all holds of that at a place
pub at_place : {X : Type 0} (P : X → Type 0) (xs : List X) (i : ℕ) (x : X) → All P xs → slice_get xs i ≡ Some x → P x
at_place P xs i x all is = subst P (get_or_from_slice_get xs i x x is) (all i x (slice_get_within xs i x is))

-- what stands there once one more is there
pub before_last : {X : Type 0} (xs : List X) (x : X) (i : ℕ) → i < length xs → slice_get (xs ++ x ∷ []) i ≡ slice_get xs i
before_last [] x i lt = absurd (omega (arith, lt))
before_last (y ∷ ys) x zero lt = refl
before_last (y ∷ ys) x (suc i) lt = before_last ys x i (omega (arith, lt))

pub at_last : {X : Type 0} (xs : List X) (x : X) → slice_get (xs ++ x ∷ []) (length xs) ≡ Some x
at_last [] x = refl
at_last (y ∷ ys) x = at_last ys x

-- what stands there in a list that is made of another
pub made_of : {X Y : Type 0} (f : X → Y) (xs : List X) (i : ℕ) (y : Y) → slice_get (map f xs) i ≡ Some y → (x : X) × (slice_get xs i ≡ Some x) × (f x ≡ y)
made_of f [] i y is = absurd (none-some y is)
made_of f (x ∷ xs) zero y is = (x, refl, same_Some (f x) y is)
made_of f (x ∷ xs) (suc i) y is = made_of f xs i y is

-- what is so of all that is made of a list
pub unmapped : {X Y : Type 0} (f : X → Y) (P : Y → Type 0) (xs : List X) → All P (map f xs) → All (λ x. P (f x)) xs
unmapped f P xs all k d lt = subst P (get_or-map f xs k d (f d) lt) (all k (f d) (omega (arith, lt, length-map xs f)))

-- ---- a list that is gone over

-- the one at hand is that of the next place
pub one_there : {X : Type 0} (xs : List X) (x : X) (rest ys all : List X) → rest ≡ x ∷ ys → xs ++ rest ≡ all → slice_get all (length xs) ≡ Some x
one_there [] x rest ys all steps whole = ap (λ zs. slice_get zs 0) (sym whole ∙ steps)
one_there (z ∷ zs) x rest ys all steps whole = sym (ap (λ ws. slice_get ws (length (z ∷ zs))) whole) ∙ one_there zs x rest ys (zs ++ rest) steps refl

pub nothing_left : {A : Type 0} (xs : List A) → 0 ≡ length xs → xs ≡ []
nothing_left [] none = refl
nothing_left (x ∷ xs) none = absurd (omega arith)

-- all of them were taken
pub all_taken : {X : Type 0} (P : X → Type 0) (xs : List X) (n : ℕ) → length xs ≤ n → All P (take n xs) → All P xs
all_taken P xs n whole h = subst (All P) (take_all n xs whole) h

-- one more is so, where it was written
pub taken_set : {X : Type 0} (P : X → Type 0) (xs : List X) (i : ℕ) (x : X) → i < length xs → All P (take i xs) → P x → All P (take (i + 1) (set xs i x))
taken_set P xs i x there before here =
    All-more P (set xs i x) i x (omega (arith, there, length-set xs i x)) (subst (All P) (sym (take-set xs i x)) before) (subst P (sym (get_or-set_same xs i x x there)) here)

-- one more is made
pub pushed_map : {X Y : Type 0} (f : X → Y) (xs : List X) (x : X) (ys : List Y) (y : Y) → ys ≡ map f xs → y ≡ f x → ys ++ y ∷ [] ≡ map f (xs ++ x ∷ [])
pushed_map f [] x ys y same last = ap (λ zs. zs ++ y ∷ []) same ∙ ap (λ z. z ∷ []) last
pushed_map f (z ∷ zs) x ys y same last = ap (λ ws. ws ++ y ∷ []) same ∙ ap (λ ws. f z ∷ ws) (pushed_map f zs x (map f zs) y refl last)

-- ---- runs

job_there : {J D : Type 0} (js : List J) (ds : List D) (i : ℕ) (d : D) → length ds ≡ length js → slice_get ds i ≡ Some d → (j : J) × (slice_get js i ≡ Some j)
job_there {J} {D} js ds i d same is = by (slice_get_cases js i).1
  where
    by : ((x : J) × (i < length js) × (slice_get js i ≡ Some x) × (get_or js i x ≡ x)) ⊎ ((length js ≤ i) × (slice_get js i ≡ None)) → (j : J) × (slice_get js i ≡ Some j)
    by (inl h) = (h.0, h.2)
    by (inr h) = absurd (omega (arith, h.0, same, slice_get_within ds i d is))

-- each was left by a job
pub all_run : {J D : Type 0} (ran : J → D → Type 0) (P : D → Type 0) (js : List J) (ds : List D) → length ds ≡ length js → ((j : J) (d : D) → ran j d → P d) → AreRun ran js ds → All P ds
all_run ran P js ds same gives run k d lt =
    let there : slice_get ds k ≡ Some (get_or ds k d) = slice_get-get_or ds k d lt in
    let job = job_there js ds k (get_or ds k d) same there in
    gives job.0 (get_or ds k d) (run k job.0 (get_or ds k d) job.1 there)

-- and has its number
pub numbers_run : {J D : Type 0} (ran : J → D → Type 0) (number : J → ℕ) (number_of : D → ℕ) (js : List J) (ds : List D) → length ds ≡ length js → ((j : J) (d : D) → ran j d → number_of d ≡ number j)
    → AreOfOwners number js → AreRun ran js ds → AreOfOwners number_of ds
numbers_run ran number number_of js ds same gives owners run i d is =
    let job = job_there js ds i d same is in
    gives job.0 d (run i job.0 d job.1 is) ∙ owners i job.0 job.1

-- ---- numbers

pushed : {X : Type 0} (xs : List X) (x : X) (i : ℕ) (y : X) → slice_get (xs ++ x ∷ []) i ≡ Some y → (slice_get xs i ≡ Some y) ⊎ ((i ≡ length xs) × (y ≡ x))
pushed [] x zero y is = inr (refl, sym (same_Some x y is))
pushed [] x (suc i) y is = absurd (none-some y is)
pushed (z ∷ zs) x zero y is = inl is
pushed (z ∷ zs) x (suc i) y is = elim (pushed zs x i y is) [ inl h ↦ inl h | inr h ↦ inr (ap suc h.0, h.1) ]

placed : {X : Type 0} (xs : List X) (i : ℕ) (x : X) (j : ℕ) (y : X) → slice_get (set xs i x) j ≡ Some y → (slice_get xs j ≡ Some y) ⊎ ((j ≡ i) × (y ≡ x))
placed [] i x j y is = absurd (none-some y is)
placed (z ∷ zs) zero x zero y is = inr (refl, sym (same_Some x y is))
placed (z ∷ zs) zero x (suc j) y is = inl is
placed (z ∷ zs) (suc i) x zero y is = inl is
placed (z ∷ zs) (suc i) x (suc j) y is = elim (placed zs i x j y is) [ inl h ↦ inl h | inr h ↦ inr (ap suc h.0, h.1) ]

-- one more, of the next number
pub numbers_push : {X : Type 0} (number : X → ℕ) (xs : List X) (x : X) → number x ≡ length xs + 1 → AreOfOwners number xs → AreOfOwners number (xs ++ x ∷ [])
numbers_push {X = X} number xs x next owners i y is = by (pushed xs x i y is)
  where
    by : (slice_get xs i ≡ Some y) ⊎ ((i ≡ length xs) × (y ≡ x)) → number y ≡ i + 1
    by (inl h) = owners i y h
    by (inr h) = ap number h.1 ∙ next ∙ ap (λ n. n + 1) (sym h.0)

-- another of the same number in the place of one
pub numbers_set : {X : Type 0} (number : X → ℕ) (xs : List X) (i : ℕ) (d x : X) → i < length xs → number x ≡ number (get_or xs i d) → AreOfOwners number xs → AreOfOwners number (set xs i x)
numbers_set {X = X} number xs i d x lt same owners j y is = by (placed xs i x j y is)
  where
    by : (slice_get xs j ≡ Some y) ⊎ ((j ≡ i) × (y ≡ x)) → number y ≡ j + 1
    by (inl h) = owners j y h
    by (inr h) = ap number h.1 ∙ same ∙ owners i (get_or xs i d) (slice_get-get_or xs i d lt) ∙ ap (λ n. n + 1) (sym h.0)

-- ---- who refuted

-- where one more is there
pub refuter_kept : {X : Type 0} (P : X → Type 0) (xs : List X) (x : X) (number : ℕ) → IsRefuter P xs number → IsRefuter P (xs ++ x ∷ []) number
refuter_kept P xs x number r = record {
  some = r.some;
  there = omega (arith, r.there, length-append xs (x ∷ []));
  finisher = λ y is. r.finisher y (sym (before_last xs x (number - 1) (omega (arith, r.some, r.there))) ∙ is);
}

-- where it is that one
pub refuter_last : {X : Type 0} (P : X → Type 0) (xs : List X) (x : X) (number : ℕ) → number ≡ length xs + 1 → P x → IsRefuter P (xs ++ x ∷ []) number
refuter_last P xs x number last p = record {
  some = omega (arith, last);
  there = omega (arith, last, length-append xs (x ∷ []));
  finisher = λ y is. subst P (same_Some x y (sym (at_last xs x) ∙ ap (slice_get (xs ++ x ∷ [])) (omega (arith, last)) ∙ is)) p;
}

-- among what is made of them
pub refuter_made : {X Y : Type 0} (f : X → Y) (P : X → Type 0) (Q : Y → Type 0) (xs : List X) (number : ℕ) → All (λ x. P x → Q (f x)) xs → IsRefuter P xs number → IsRefuter Q (map f xs) number
refuter_made f P Q xs number each r = record {
  some = r.some;
  there = omega (arith, r.there, length-map xs f);
  finisher = λ y is.
      let x = made_of f xs (number - 1) y is in
      subst Q x.2 (at_place (λ z. P z → Q (f z)) xs (number - 1) x.0 each x.1 (r.finisher x.0 x.1));
}

-- what is made of each has its number
pub owners_made : {D K : Type 0} (log : D → K) (number : D → ℕ) (owner : K → ℕ) (ds : List D) → All (λ d. owner (log d) ≡ number d) ds → AreOfOwners number ds → AreOfOwners owner (map log ds)
owners_made log number owner ds same numbers i l is =
    let d = made_of log ds i l is in
    sym (ap owner d.2) ∙ at_place (λ z. owner (log z) ≡ number z) ds i d.0 same d.1 ∙ numbers i d.0 d.1
