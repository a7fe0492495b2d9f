-- Lists of neighbours that grow at their end.

use Rattle.std.proofs.Common.{◌≡◌, ℕ, ◌+◌, ◌<◌, ◌≤◌, Bool, true, false, ◌==◌, ◌&&◌, ◌||◌, nat_lt, List, [], ◌∷◌, ◌++◌, get_or, refl, sym, ap, subst, ◌∙◌, ◌⊎◌, inl, inr, length-append, arith}
use Rattle.std.proofs.lemmas.Grind.{common_steps}
use Rattle.std.proofs.lemmas.Bool.{cases_lt}
use Rattle.std.proofs.lemmas.List.{get_or_append_left}
use Rattle.std.proofs.Math.Seq.{get_or-append_seam}
use Rattle.lad_reader.specs.Parts.{AreBelow, AllBelow}
use Rattle.graph_rows.specs.Held.{stands_in, said}
use Rattle.demo_instances.specs.Listing.{ListsThose, ListsPairs}

-- one more number stands in the list
stands_in-more : (xs : List ℕ) (b k : ℕ) → stands_in (xs ++ b ∷ []) k ≡ (stands_in xs k || b == k)
stands_in-more [] b k = by (b == k)
  where
    by : (t : Bool) → (t || false) ≡ (false || t)
    by true = refl
    by false = refl
stands_in-more (x ∷ xs) b k = ap (λ (t : Bool). x == k || t) (stands_in-more xs b k) ∙ by (x == k) (stands_in xs k) (b == k)
  where
    by : (s t u : Bool) → (s || (t || u)) ≡ ((s || t) || u)
    by true t u = refl
    by false t u = refl

below-more : (n : ℕ) (xs : List ℕ) (b : ℕ) → b < n → AreBelow n xs → AreBelow n (xs ++ b ∷ [])
below-more n [] b h below = (h, tt)
below-more n (x ∷ xs) b h below = (below.0, below-more n xs b h below.1)

all_below-more : (n : ℕ) (xs : List (List ℕ)) (bs : List ℕ) → AreBelow n bs → AllBelow n xs → AllBelow n (xs ++ bs ∷ [])
all_below-more n [] bs h below = (h, tt)
all_below-more n (x ∷ xs) bs h below = (below.0, all_below-more n xs bs h below.1)

-- what passes below m + 1 is what passes below m, and m where it passes
passes-more : (test : ℕ → Bool) (m k : ℕ) → test m ≡ true → ((nat_lt k m && test k) || m == k) ≡ (nat_lt k (m + 1) && test k)
passes-more test m k passes = grind (arith, common_steps, passes)

passes-same : (test : ℕ → Bool) (m k : ℕ) → test m ≡ false → (nat_lt k m && test k) ≡ (nat_lt k (m + 1) && test k)
passes-same test m k fails = grind (arith, common_steps, fails)

-- no number was tested
pub those-none : (n : ℕ) (test : ℕ → Bool) → ListsThose n 0 test []
those-none n test = record { each = λ b. none b; below = tt }
  where
    none : (b : ℕ) → false ≡ (nat_lt b 0 && test b)
    none b = grind (arith, common_steps)

-- one more number that passes
pub those-more : (n m : ℕ) (test : ℕ → Bool) (xs ys : List ℕ) → m < n → test m ≡ true → ys ≡ xs ++ m ∷ [] → ListsThose n m test xs → ListsThose n (m + 1) test ys
those-more n m test xs ys m_in passes grows h =
    subst (λ (zs : List ℕ). ListsThose n (m + 1) test zs) (sym grows) record {
      each = λ k. stands_in-more xs m k ∙ ap (λ (t : Bool). t || m == k) (h.each k) ∙ passes-more test m k passes;
      below = below-more n xs m m_in h.below;
    }

-- one more that does not
pub those-same : (n m : ℕ) (test : ℕ → Bool) (xs : List ℕ) → test m ≡ false → ListsThose n m test xs → ListsThose n (m + 1) test xs
those-same n m test xs fails h = record { each = λ k. h.each k ∙ passes-same test m k fails; below = h.below }

-- no vertex has its list
pub pairs-none : (n : ℕ) (pair : ℕ → ℕ → Bool) → ListsPairs n 0 pair []
pairs-none n pair = record { many = refl; each = λ a b a_in. absurd (omega arith); below = tt }

-- one more list
pub pairs-more : (n m : ℕ) (pair : ℕ → ℕ → Bool) (xs ys : List (List ℕ)) (list : List ℕ) → ys ≡ xs ++ list ∷ [] → ListsThose n n (pair m) list → ListsPairs n m pair xs → ListsPairs n (m + 1) pair ys
pairs-more n m pair xs ys list grows those h =
    subst (λ (zs : List (List ℕ)). ListsPairs n (m + 1) pair zs) (sym grows) record {
      many = length-append xs (list ∷ []) ∙ ap (λ (k : ℕ). k + 1) h.many;
      each = λ a b a_in. by a b (cases_lt a m) a_in;
      below = all_below-more n xs list those.below h.below;
    }
  where
    last : (a b : ℕ) → a ≡ m → said (xs ++ list ∷ []) a b ≡ (nat_lt b n && pair a b)
    last a b e =
        let at : get_or (xs ++ list ∷ []) a [] ≡ list = ap (λ (k : ℕ). get_or (xs ++ list ∷ []) k []) (e ∙ sym h.many) ∙ get_or-append_seam xs list [] [] in
        ap (λ (zs : List ℕ). stands_in zs b) at ∙ those.each b ∙ ap (λ (k : ℕ). nat_lt b n && pair k b) (sym e)

    by : (a b : ℕ) → (a < m) ⊎ (m ≤ a) → a < m + 1 → said (xs ++ list ∷ []) a b ≡ (nat_lt b n && pair a b)
    by a b (inl l) a_in = ap (λ (zs : List ℕ). stands_in zs b) (get_or_append_left xs (list ∷ []) [] a (omega (arith, h.many))) ∙ h.each a b l
    by a b (inr l) a_in = last a b (omega arith)
