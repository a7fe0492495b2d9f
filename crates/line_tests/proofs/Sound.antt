-- By injective maps three vertices have no places in two, so that a nogood's path is dead whatever it is.
use Rattle.std.proofs.Common.{◌≡◌, ℕ, zero, suc, ◌<◌, ◌^◌, ◌⊎◌, true, inl, inr, List, slice_index, None, refl, arith}
use Rattle.graph_theory.specs.Graph.{Graph, size}
use Rattle.graph_theory.specs.Embedding.{Problem, is_injective, differ_in, HasNone}
use Rattle.graph_theory.specs.declared.embedding.Maps.{Maps}
use Rattle.graph_theory.specs.declared.embedding.Maps.TheVariants.{Injective, Local, Any}
use Rattle.nogood_book.specs.declared.row.Row.{Row}
use Rattle.nogood_book.specs.declared.row.RowKind.TheVariants.{Nogood}
use Rattle.nogood_book.specs.Rows.{MayFollow, Sound}
use Rattle.line_tests.specs.Shared.{shared_rows}

two_of_three : (a b c : ℕ) → a < 2 → b < 2 → c < 2 → (a ≡ b) ⊎ ((a ≡ c) ⊎ (b ≡ c))
two_of_three zero zero c x y z = inl refl
two_of_three zero (suc b) zero x y z = inr (inl refl)
two_of_three zero (suc b) (suc c) x y z = inr (inr (omega (arith, y, z)))
two_of_three (suc a) zero zero x y z = inr (inr refl)
two_of_three (suc a) zero (suc c) x y z = inr (inl (omega (arith, x, z)))
two_of_three (suc a) (suc b) c x y z = inl (omega (arith, x, y))

-- By injective maps all images differ.
all_differ : (k : Maps) (g : Graph) (p r : ℕ) → is_injective k ≡ true → differ_in k g p r ≡ true
all_differ Injective g p r is = refl
all_differ Local g p r is = absurd cc
all_differ Any g p r is = absurd cc

none_of_three : (q : Problem) → is_injective q.maps ≡ true → size q.pattern ≡ 3 → size q.target ≡ 2 → HasNone q
none_of_three q injective three two m e =
    let at_0 : 0 < size q.pattern = omega (arith, three) in
    let at_1 : 1 < size q.pattern = omega (arith, three) in
    let at_2 : 2 < size q.pattern = omega (arith, three) in
    let differ : (p r : ℕ) → differ_in q.maps q.pattern p r ≡ true = λ p r. all_differ q.maps q.pattern p r injective in
    let a = e.values 0 at_0 in
    let b = e.values 1 at_1 in
    let c = e.values 2 at_2 in
    elim (two_of_three (slice_index m 0) (slice_index m 1) (slice_index m 2) (omega (arith, a, two)) (omega (arith, b, two)) (omega (arith, c, two))) [
      | inl same ↦ (let is = e.distinct 0 1 at_0 at_1 (differ 0 1) same in omega (arith, is))
      | inr rest ↦ elim rest [ inl same ↦ (let is = e.distinct 0 2 at_0 at_2 (differ 0 2) same in omega (arith, is)) | inr same ↦ (let is = e.distinct 1 2 at_1 at_2 (differ 1 2) same in omega (arith, is)) ]
    ]

-- A nogood without a parent may follow any rows.
nogood_follows : (q : Problem) (rows : List Row) (owner value : ℕ) → owner < 2 ^ 7 → value < 2 ^ 13 → 0 < size q.pattern → value < size q.target → HasNone q
    → MayFollow q rows (record { kind = Nogood; owner = owner; parent = None; vertex = 0; value = value })
nogood_follows q rows owner value owner_fits value_fits vertex_in value_in none =
    record { narrow = record { value = value_fits; vertex = omega arith; parent = omega arith; owner = owner_fits }; parent = tt; fresh = tt; vertex = vertex_in; value = value_in; dead = λ m e x. none m e }

pub rows_sound : (q : Problem) → is_injective q.maps ≡ true → size q.pattern ≡ 3 → size q.target ≡ 2 → Sound q shared_rows
rows_sound q injective three two =
    let none = none_of_three q injective three two in
    let first : 0 < size q.pattern = omega (arith, three) in
    let second : 1 < size q.pattern = omega (arith, three) in
    let at_0 : 0 < size q.target = omega (arith, two) in
    let at_1 : 1 < size q.target = omega (arith, two) in (
      nogood_follows q _ 2 0 (omega arith) (omega arith) first at_0 none,
      (
        record { narrow = record { value = omega arith; vertex = omega arith; parent = omega arith; owner = omega arith }; parent = tt; fresh = tt; vertex = first; value = at_1; dead = tt },
        (
          record { narrow = record { value = omega arith; vertex = omega arith; parent = omega arith; owner = omega arith }; parent = (_, refl, refl); fresh = ((λ e. absurd (omega (arith, e))), tt); vertex = second; value = at_0; dead = λ m e x. none m e },
          (nogood_follows q _ 1 1 (omega arith) (omega arith) first at_1 none, tt),
        ),
      ),
    )
