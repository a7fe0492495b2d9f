-- The rising list of the numbers that pass a test, and how one number more changes it.

use Rattle.std.proofs.Common.{◌≡◌, ℕ, zero, suc, ◌<◌, ◌≤◌, Bool, true, false, nat_lt, if◌then◌else◌, List, [], ◌∷◌, ◌++◌, length, refl, sym, ap, ◌∙◌, subst, ◌⊎◌, inl, inr, arith, length-append}
use Rattle.std.proofs.lemmas.List.{append-nil}
use Rattle.std.proofs.lemmas.Bool.{cases_eq}
use Rattle.std.proofs.lemmas.Bool.Decides.{nat_tests}
use Rattle.search_theory.specs.Account.{NotAmong, inserted}
use Rattle.graph_theory.specs.Neighbours.{members}

-- the list n, or nothing
abbrev one_if : Bool → ℕ → List ℕ
one_if b n = if b then n ∷ [] else []

-- tests that agree have the same members
pub members_same : (f g : ℕ → Bool) (n : ℕ) → ((k : ℕ) → k < n → f k ≡ g k) → members f n ≡ members g n
members_same f g zero same = refl
members_same f g (suc n) same =
    let here : f n ≡ g n = same n (omega arith) in
    let rest : members f n ≡ members g n = members_same f g n (λ k k_in. same k (omega arith)) in
    rw (here, rest) refl

-- a test that nothing passes has none
pub members_none : (f : ℕ → Bool) (n : ℕ) → ((k : ℕ) → k < n → f k ≡ false) → members f n ≡ []
members_none f zero none = refl
members_none f (suc n) none =
    let here : f n ≡ false = none n (omega arith) in
    let rest : members f n ≡ [] = members_none f n (λ k k_in. none k (omega arith)) in
    rw (here, rest) refl

-- each is below n
abbrev AllBelow : ℕ → List ℕ → Type 0
AllBelow n [] = Unit {0}
AllBelow n (u ∷ us) = (u < n) × AllBelow n us

all_below_push : (n : ℕ) (us : List ℕ) (b : Bool) → AllBelow n us → AllBelow (suc n) (us ++ one_if b n)
all_below_push n [] true all = (omega arith, tt)
all_below_push n [] false all = tt
all_below_push n (u ∷ us) b all = (omega (arith, all.0), all_below_push n us b all.1)

members_below : (f : ℕ → Bool) (n : ℕ) → AllBelow n (members f n)
members_below f zero = tt
members_below f (suc n) = all_below_push n (members f n) (f n) (members_below f n)

-- there are at most n
pub length-members : (f : ℕ → Bool) (n : ℕ) → length (members f n) ≤ n
length-members f zero = omega arith
length-members f (suc n) = by_test (f n) (length-members f n)
  where
    by_test : (b : Bool) → length (members f n) ≤ n → length (members f n ++ one_if b n) ≤ suc n
    by_test true h = omega (arith, length-append (members f n) (n ∷ []))
    by_test false h = omega (arith, length-append (members f n) [])

-- and fewer where one does not pass
pub members_few : (f : ℕ → Bool) (n t : ℕ) → t < n → f t ≡ false → length (members f n) < n
members_few f zero t t_in off = absurd (omega arith)
members_few f (suc n) t t_in off = by_place (cases_eq t n) (λ h. members_few f n t h off)
  where
    by_test : (b : Bool) → length (members f n) < n → length (members f n ++ one_if b n) < suc n
    by_test true h = omega (arith, length-append (members f n) (n ∷ []))
    by_test false h = omega (arith, length-append (members f n) [])

    by_place : (t ≡ n) ⊎ (t ≡ n → ⊥) → (t < n → length (members f n) < n) → length (members f n ++ one_if (f n) n) < suc n
    by_place (inl e) _ =
        let here : f n ≡ false = rw (← e) off in
        rw here (omega (arith, length-append (members f n) [], length-members f n))
    by_place (inr ne) rest = by_test (f n) (rest (omega arith))

not_among_append : (us vs : List ℕ) (t : ℕ) → NotAmong us t → NotAmong vs t → NotAmong (us ++ vs) t
not_among_append [] vs t h g = g
not_among_append (u ∷ us) vs t h g = (h.0, not_among_append us vs t h.1 g)

not_among_front : (us vs : List ℕ) (t : ℕ) → NotAmong (us ++ vs) t → NotAmong us t
not_among_front [] vs t h = tt
not_among_front (u ∷ us) vs t h = (h.0, not_among_front us vs t h.1)

not_among_back : (us vs : List ℕ) (t : ℕ) → NotAmong (us ++ vs) t → NotAmong vs t
not_among_back [] vs t h = h
not_among_back (u ∷ us) vs t h = not_among_back us vs t h.1

-- what does not pass is not among the members
pub off_members : (f : ℕ → Bool) (n t : ℕ) → f t ≡ false → NotAmong (members f n) t
off_members f zero t off = tt
off_members f (suc n) t off = not_among_append (members f n) (one_if (f n) n) t (off_members f n t off) (last (cases_eq n t))
  where
    last : (n ≡ t) ⊎ (n ≡ t → ⊥) → NotAmong (one_if (f n) n) t
    last (inl e) = let here : f n ≡ false = rw e off in rw here tt
    last (inr ne) = by_test (f n)
      where
        by_test : (b : Bool) → NotAmong (one_if b n) t
        by_test true = (ne, tt)
        by_test false = tt

-- and what is not among them does not pass
pub members_off : (f : ℕ → Bool) (n t : ℕ) → t < n → NotAmong (members f n) t → f t ≡ false
members_off f zero t t_in off = absurd (omega arith)
members_off f (suc n) t t_in off = by_place (cases_eq n t) (λ h. members_off f n t h (not_among_front (members f n) (one_if (f n) n) t off))
  where
    by_test : (b : Bool) → NotAmong (one_if b n) n → b ≡ false
    by_test true h = absurd (h.0 refl)
    by_test false h = refl

    by_place : (n ≡ t) ⊎ (n ≡ t → ⊥) → (t < n → f t ≡ false) → f t ≡ false
    by_place (inl e) _ =
        let here : NotAmong (one_if (f n) n) n = subst (λ (x : ℕ). NotAmong (one_if (f n) n) x) (sym e) (not_among_back (members f n) (one_if (f n) n) t off) in
        rw (← e) (by_test (f n) here)
    by_place (inr ne) rest = rest (omega arith)

-- a number above all goes to the end
inserted_last : (n : ℕ) (us : List ℕ) → AllBelow n us → inserted n us ≡ us ++ n ∷ []
inserted_last n [] all = refl
inserted_last n (u ∷ us) all = by_test (nat_lt n u) (no_test n u all.0) (inserted_last n us all.1)
  where
    no_test : (n u : ℕ) → u < n → nat_lt n u ≡ false
    no_test n u h = grind (arith, nat_tests)

    by_test : (b : Bool) → b ≡ false → inserted n us ≡ us ++ n ∷ [] → (if b then n ∷ u ∷ us else u ∷ inserted n us) ≡ u ∷ (us ++ n ∷ [])
    by_test true e _ = absurd (cc)
    by_test false _ e = ap (λ (xs : List ℕ). u ∷ xs) e

-- and one below the last stays before it
inserted_before : (t n : ℕ) (us : List ℕ) → t < n → inserted t us ++ n ∷ [] ≡ inserted t (us ++ n ∷ [])
inserted_before t n [] h = by_test (nat_lt t n) (test t n h)
  where
    test : (t n : ℕ) → t < n → nat_lt t n ≡ true
    test t n h = grind (arith, nat_tests)

    by_test : (b : Bool) → b ≡ true → t ∷ n ∷ [] ≡ (if b then t ∷ n ∷ [] else n ∷ t ∷ [])
    by_test true _ = refl
    by_test false e = absurd (cc)
inserted_before t n (u ∷ us) h = by_test (nat_lt t u) (inserted_before t n us h)
  where
    by_test : (b : Bool) → inserted t us ++ n ∷ [] ≡ inserted t (us ++ n ∷ [])
        → (if b then t ∷ u ∷ us else u ∷ inserted t us) ++ n ∷ [] ≡ (if b then t ∷ u ∷ (us ++ n ∷ []) else u ∷ inserted t (us ++ n ∷ []))
    by_test true _ = refl
    by_test false e = ap (λ (xs : List ℕ). u ∷ xs) e

-- one number more that passes takes its place
pub members_put : (f g : ℕ → Bool) (n t : ℕ) → t < n → f t ≡ false → g t ≡ true → ((u : ℕ) → u < n → (u ≡ t → ⊥) → g u ≡ f u) → members g n ≡ inserted t (members f n)
members_put f g zero t t_in off on same = absurd (omega arith)
members_put f g (suc n) t t_in off on same = by_place (cases_eq n t) (λ h. members_put f g n t h off on (λ u u_in ne. same u (omega arith) ne))
  where
    by_test : (b : Bool) → t < n → members g n ≡ inserted t (members f n) → members g n ++ one_if b n ≡ inserted t (members f n ++ one_if b n)
    by_test true h e = ap (λ (xs : List ℕ). xs ++ n ∷ []) e ∙ inserted_before t n (members f n) h
    by_test false h e = append-nil (members g n) ∙ e ∙ ap (inserted t) (sym (append-nil (members f n)))

    by_place : (n ≡ t) ⊎ (n ≡ t → ⊥) → (t < n → members g n ≡ inserted t (members f n)) → members g n ++ one_if (g n) n ≡ inserted t (members f n ++ one_if (f n) n)
    by_place (inl e) _ =
        let on_n : g n ≡ true = rw e on in
        let off_n : f n ≡ false = rw e off in
        let rest : members g n ≡ members f n = members_same g f n (λ k k_in. same k (omega arith) (λ h. omega arith)) in
        let last : inserted n (members f n) ≡ members f n ++ n ∷ [] = inserted_last n (members f n) (members_below f n) in
        let end : inserted t (members f n) ≡ members f n ++ n ∷ [] = subst (λ (x : ℕ). inserted x (members f n) ≡ members f n ++ n ∷ []) e last in
        rw (on_n, off_n, rest, append-nil (members f n)) (sym end)
    by_place (inr ne) rest =
        let e : g n ≡ f n = same n (omega arith) ne in
        rw e (by_test (f n) (omega arith) (rest (omega arith)))
