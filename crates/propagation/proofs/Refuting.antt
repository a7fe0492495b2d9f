-- Nogoods among rows, and what is kept with one more.

use Rattle.std.proofs.Common.{◌≡◌, ℕ, zero, suc, ◌<◌, List, [], ◌∷◌, ◌++◌, length, refl, sym, subst, arith}
use Rattle.graph_theory.specs.Graph.{size}
use Rattle.graph_theory.specs.Embedding.{Problem}
use Rattle.graph_theory.specs.Path.{NotOn, IsPath}
use Rattle.nogood_watch.specs.Nogoods as watched
use Rattle.nogood_watch.specs.Nogoods.{literal, nogood}
use Rattle.nogood_watch.specs.Watching.{forced_at}
use Rattle.nogood_book.specs.declared.row.Row.{Row}
use Rattle.nogood_book.specs.Rows.{Pairs, AreInRange, path_at, Sound}
use Rattle.nogood_book.specs.Places.{IsNogoodRow}
use Rattle.nogood_book.proofs.Paths.{sound_row, row_nogood}
use Rattle.propagation.specs.Learning.{IsNogood, AreNogoods}

-- ---- the path of a row

-- pairs of a path are literals
literals_of : (q : Problem) (xs : Pairs) → IsPath xs → AreInRange q xs → watched.AreLiterals (size q.pattern) (size q.target) xs
literals_of q xs path_is range = record { vertex = vertex xs range; value = value xs range; apart = apart xs path_is }
  where
    vertex : (ys : Pairs) → AreInRange q ys → (k : ℕ) → k < length ys → (literal ys k).0 < size q.pattern
    vertex [] h k k_in = absurd (omega arith)
    vertex (y ∷ ys) h zero k_in = h.0
    vertex (y ∷ ys) h (suc k) k_in = vertex ys h.2 k (omega arith)

    value : (ys : Pairs) → AreInRange q ys → (k : ℕ) → k < length ys → (literal ys k).1 < size q.target
    value [] h k k_in = absurd (omega arith)
    value (y ∷ ys) h zero k_in = h.1
    value (y ∷ ys) h (suc k) k_in = value ys h.2 k (omega arith)

    other : (ys : List (ℕ × ℕ)) (p k : ℕ) → NotOn ys p → k < length ys → (literal ys k).0 ≡ p → ⊥
    other [] p k h k_in = absurd (omega arith)
    other (y ∷ ys) p zero h k_in = h.0
    other (y ∷ ys) p (suc k) h k_in = other ys p k h.1 (omega arith)

    apart : (ys : List (ℕ × ℕ)) → IsPath ys → (j k : ℕ) → j < k → k < length ys → (literal ys j).0 ≡ (literal ys k).0 → ⊥
    apart [] h j k less k_in = absurd (omega arith)
    apart (y ∷ ys) h zero zero less k_in = absurd (omega arith)
    apart (y ∷ ys) h zero (suc k) less k_in = λ same. other ys y.0 k h.0 (omega arith) (sym same)
    apart (y ∷ ys) h (suc j) zero less k_in = absurd (omega arith)
    apart (y ∷ ys) h (suc j) (suc k) less k_in = apart ys h.1 j k (omega arith) (omega arith)

-- the path of a nogood among sound rows is a nogood
pub row_is_nogood : (q : Problem) (rows : List Row) (k : ℕ) → Sound q rows → IsNogoodRow rows k → IsNogood q (path_at rows k)
row_is_nogood q rows k sound here =
    let row = sound_row q rows k here.0 sound here.1 in
    record { literals = literals_of q (path_at rows k) row.path row.range; dead = row_nogood q rows k here.0 sound here.1 here.2 }

-- ---- one nogood more

-- what holds of each place of a list, and of one more at its end
lists_more : (q : Problem) (ns : List watched.Nogood) (n : watched.Nogood) → ((i : ℕ) → i < length ns → IsNogood q (nogood ns i).literals) → IsNogood q n.literals
    → (i : ℕ) → i < length (ns ++ n ∷ []) → IsNogood q (nogood (ns ++ n ∷ []) i).literals
lists_more q [] n all last zero i_in = last
lists_more q [] n all last (suc i) i_in = absurd (omega arith)
lists_more q (x ∷ xs) n all last zero i_in = all 0 (omega arith)
lists_more q (x ∷ xs) n all last (suc i) i_in = lists_more q xs n (λ k k_in. all (suc k) (omega (arith, k_in))) last i (omega (arith, i_in))

units_more : (q : Problem) (us : List (ℕ × ℕ × ℕ)) (u : ℕ × ℕ × ℕ) → ((i : ℕ) → i < length us → IsNogood q (((forced_at us i).0, (forced_at us i).1) ∷ [])) → IsNogood q ((u.0, u.1) ∷ [])
    → (i : ℕ) → i < length (us ++ u ∷ []) → IsNogood q (((forced_at (us ++ u ∷ []) i).0, (forced_at (us ++ u ∷ []) i).1) ∷ [])
units_more q [] u all last zero i_in = last
units_more q [] u all last (suc i) i_in = absurd (omega arith)
units_more q (x ∷ xs) u all last zero i_in = all 0 (omega arith)
units_more q (x ∷ xs) u all last (suc i) i_in = units_more q xs u (λ k k_in. all (suc k) (omega (arith, k_in))) last i (omega (arith, i_in))

pub nogoods_empty : (q : Problem) → AreNogoods q (watched.empty (size q.pattern) (size q.target))
nogoods_empty q = record {
  vertices_is = refl;
  values_is = refl;
  watches = record { two = refl; of = λ x x_in. absurd (omega arith); apart = λ x x_in. absurd (omega arith) };
  lists = λ i i_in. absurd (omega arith);
  units = λ i i_in. absurd (omega arith);
}

pub nogoods_added : (q : Problem) (s : watched.State) (xs : List (ℕ × ℕ)) (name : ℕ) → AreNogoods q s → IsNogood q xs
    → watched.AreWatches (watched.added s xs name).nogoods (watched.added s xs name).watches → AreNogoods q (watched.added s xs name)
nogoods_added q s [] name are is watches = are
nogoods_added q s (x ∷ []) name are is watches = record {
  vertices_is = are.vertices_is;
  values_is = are.values_is;
  watches = watches;
  lists = are.lists;
  units = units_more q s.units (x.0, x.1, name) are.units is;
}
nogoods_added q s (x ∷ y ∷ rest) name are is watches = record {
  vertices_is = are.vertices_is;
  values_is = are.values_is;
  watches = watches;
  lists = lists_more q s.nogoods (record { literals = x ∷ y ∷ rest; name = name }) are.lists is;
  units = are.units;
}

-- so it is with what a call has added
pub nogoods_kept : (q : Problem) (held old new : watched.State) (xs ys : List (ℕ × ℕ)) (name : ℕ) → held ≡ old → AreNogoods q held → IsNogood q ys → xs ≡ ys → new ≡ watched.added old xs name
    → watched.AreWatches new.nogoods new.watches → AreNogoods q new
nogoods_kept q held old new xs ys name same are is pairs after watches =
    subst (λ (s : watched.State). AreNogoods q s) (sym after)
    (nogoods_added q old xs name (subst (λ (s : watched.State). AreNogoods q s) same are) (subst (λ (zs : List (ℕ × ℕ)). IsNogood q zs) (sym pairs) is)
    (subst (λ (s : watched.State). watched.AreWatches s.nogoods s.watches) after watches))
