-- Two graphs that are held are one exactly where their labels and words are.

use Rattle.std.proofs.Common.{◌≡◌, ℕ, ◌+◌, ◌*◌, ◌/◌, ◌%◌, ◌^◌, ◌<◌, ◌≤◌, zero, suc, Bool, true, false, eqb, List, [], length, Option, None, get_or, IsTrue, ◌↔◌, refl, sym, ap, subst, ◌∙◌, arith, inl, inr, ◌⊎◌}
use Rattle.std.specs.Int.{bit_at}
use Rattle.std.proofs.Math.Nat.{div-add-mod, mod-lt, mul_left_comm, mul_comm}
use Rattle.std.proofs.lemmas.Bool.{cases_lt}
use Rattle.std.proofs.lemmas.List.{same_lists, get_or_default}
use Rattle.std.proofs.lemmas.Nat.Bits.{bit_at-lt, same_from_bits_below}
use native.Mathlib.Nat.{mul-le-mul_right}
use Rattle.graph_theory.specs.Graph.{Graph, size, edge, tabulate}
use Rattle.bit_rows.specs.BitRows.{has, words_for}
use Rattle.graph_rows.specs.Held.{marked, edge_held, graph_held, AreMarks}
use Rattle.graph_rows.proofs.HeldGraph.{tabulate-same, edge-held}

-- one mark for one edge
same_mark : (m k : Bool) (l j : ℕ) → edge_held m l ≡ edge_held k j → m ≡ k
same_mark true true l j e = refl
same_mark true false l j e = cc
same_mark false true l j e = cc
same_mark false false l j e = refl

-- a bit by its test
same_bit : (x y : ℕ) → x < 2 → y < 2 → eqb x 1 ≡ eqb y 1 → x ≡ y
same_bit zero zero h k e = refl
same_bit zero (suc zero) h k e = cc
same_bit (suc zero) zero h k e = cc
same_bit (suc zero) (suc zero) h k e = refl
same_bit (suc (suc x)) y h k e = absurd (omega arith)
same_bit zero (suc (suc y)) h k e = absurd (omega arith)
same_bit (suc zero) (suc (suc y)) h k e = absurd (omega arith)

-- words of the same values are the same
same_words_by_values : (xs ys : List ℕ) → length xs ≡ length ys → ((k : ℕ) → get_or xs k 0 < 2 ^ 64) → ((k : ℕ) → get_or ys k 0 < 2 ^ 64)
    → ((v : ℕ) → v < 64 * length xs → has xs v ≡ has ys v) → xs ≡ ys
same_words_by_values xs ys long fit fits same =
    same_lists xs ys long (λ k d k_in.
    get_or_default xs k d 0 k_in ∙ word k k_in ∙ get_or_default ys k 0 d (omega (arith, long)))
  where
    word : (k : ℕ) → k < length xs → get_or xs k 0 ≡ get_or ys k 0
    word k k_in = same_from_bits_below 64 (get_or xs k 0) (get_or ys k 0) (fit k) (fits k) (λ i i_in.
        let place : (64 * k + i) / 64 ≡ k = omega arith in
        let bit : (64 * k + i) % 64 ≡ i = omega arith in
        let tests = rw (place, bit) at (same (64 * k + i) (omega arith)) in
        same_bit (bit_at (get_or xs k 0) i) (bit_at (get_or ys k 0) i) (bit_at-lt (get_or xs k 0) i) (bit_at-lt (get_or ys k 0) i) tests)

-- marks that agree in each row are the same values
values_by_marks : (n width : ℕ) (xs ys : List ℕ) → length xs ≡ n * width → ((a b : ℕ) → a < n → b < 64 * width → marked xs width a b ≡ marked ys width a b)
    → (v : ℕ) → v < 64 * length xs → has xs v ≡ has ys v
values_by_marks n width xs ys long same v v_in =
    let some : 0 < 64 * width = positive width (cases_lt 0 width) in
    let s = 64 * width in
    let split : v / s * s + v % s ≡ v = ap (λ (k : ℕ). k + v % s) (mul_comm (v / s) s) ∙ div-add-mod v s in
    let b_in : v % s < s = mod-lt v {m = s} some in
    subst (λ (k : ℕ). has xs k ≡ has ys k) split (same (v / s) (v % s) (row (v / s) (v % s) split (cases_lt (v / s) n)) b_in)
  where
    small : v < n * (64 * width)
    small = omega (arith, long, mul_left_comm n 64 width)

    positive : (w : ℕ) → (0 < width) ⊎ (width ≤ 0) → 0 < 64 * width
    positive w (inl h) = omega arith
    positive w (inr h) =
        let none : width ≡ 0 = omega arith in
        let empty : v < n * (64 * 0) = subst (λ (k : ℕ). v < n * (64 * k)) none small in
        absurd (omega arith)

    row : (a b : ℕ) → a * (64 * width) + b ≡ v → (a < n) ⊎ (n ≤ a) → a < n
    row a b e (inl h) = h
    row a b e (inr h) = let m = mul-le-mul_right {m = n} {n = a} (64 * width) h in absurd (omega (arith, m, small))

-- graphs that are one are held by the same words
same_words : (labels others words more : List ℕ) (label_at other_at : ℕ → ℕ → ℕ) (degrees counts : List ℕ) (width wide : ℕ) → AreMarks (length labels) width words degrees → AreMarks (length others) wide more counts
    → ((k : ℕ) → get_or words k 0 < 2 ^ 64) → ((k : ℕ) → get_or more k 0 < 2 ^ 64) → graph_held labels words label_at width ≡ graph_held others more other_at wide → words ≡ more
same_words labels others words more label_at other_at degrees counts width wide marks marks_more fit fits e =
    same_words_by_values words more (marks.words_are ∙ ap (λ (n : ℕ). n * width) sizes ∙ ap (λ (w : ℕ). length others * w) widths ∙ sym marks_more.words_are) fit fits
    (values_by_marks (length labels) width words more marks.words_are (λ a b a_in b_in. by a b a_in b_in (cases_lt b (length labels))))
  where
    sizes : length labels ≡ length others
    sizes = ap size e

    widths : width ≡ wide
    widths = marks.width_is ∙ ap words_for sizes ∙ sym marks_more.width_is

    by : (a b : ℕ) → a < length labels → b < 64 * width → (b < length labels) ⊎ (length labels ≤ b) → marked words width a b ≡ marked more width a b
    by a b a_in b_in (inl inside) =
        same_mark (marked words width a b) (marked more wide a b) (label_at a b) (other_at a b)
        (sym (edge-held labels words label_at width a b a_in inside) ∙ ap (λ (g : Graph). edge g a b) e
        ∙ edge-held others more other_at wide a b (omega (arith, sizes)) (omega (arith, sizes))) ∙ ap (λ (w : ℕ). marked more w a b) (sym widths)
    by a b a_in b_in (inr past) =
        marks.padded a b a_in past b_in
        ∙ sym (ap (λ (w : ℕ). marked more w a b) widths ∙ marks_more.padded a b (omega (arith, sizes)) (omega (arith, sizes)) (omega (arith, widths)))

-- a test of labels and words that fails tells the graphs apart
pub other_lists : (labels others words more : List ℕ) (label_at other_at : ℕ → ℕ → ℕ) (degrees counts ls os ws ms : List ℕ) (width wide : ℕ) (g h : Graph)
    → graph_held labels words label_at width ≡ g → graph_held others more other_at wide ≡ h
    → AreMarks (length labels) width words degrees → AreMarks (length others) wide more counts → ls ≡ labels → os ≡ others → ws ≡ words → ms ≡ more
    → ((k : ℕ) → get_or ws k 0 < 2 ^ 64) → ((k : ℕ) → get_or ms k 0 < 2 ^ 64) → (((ls ≡ os) × (ws ≡ ms)) → ⊥) → g ≡ h → ⊥
other_lists labels others words more label_at other_at degrees counts ls os ws ms width wide g h is_g is_h marks marks_more l o w m fit fits apart e =
    let held : graph_held labels words label_at width ≡ graph_held others more other_at wide = is_g ∙ e ∙ sym is_h in
    apart (
      l ∙ ap (λ (k : Graph). k.labels) held ∙ sym o,
      w ∙ same_words labels others words more label_at other_at degrees counts width wide marks marks_more (λ k. rw (← w) (fit k)) (λ k. rw (← m) (fits k)) held ∙ sym m,
    )

-- graphs of the same labels and edges are one
pub same_by_edges : (labels others words more : List ℕ) (label_at other_at : ℕ → ℕ → ℕ) (ls os : List ℕ) (width wide : ℕ) (g h : Graph) (r : Bool) → graph_held labels words label_at width ≡ g → graph_held others more other_at wide ≡ h
    → ls ≡ labels → os ≡ others → ls ≡ os → (IsTrue r ↔ ((a b : ℕ) → a < size g → b < size g → edge g a b ≡ edge h a b)) → IsTrue r ↔ (g ≡ h)
same_by_edges labels others words more label_at other_at ls os width wide g h r is_g is_h l o same test = (
  λ t. sym is_g ∙ whole (test.0 t) ∙ is_h,
  λ e. test.1 (λ a b _ _. ap (λ (k : Graph). edge k a b) e),
)
  where
    names : labels ≡ others
    names = sym l ∙ same ∙ o

    sizes : length labels ≡ length others
    sizes = ap length names

    size_g : length labels ≡ size g
    size_g = ap size is_g

    at : ((a b : ℕ) → a < size g → b < size g → edge g a b ≡ edge h a b) → (a b : ℕ) → a < length labels → b < length labels
        → edge_held (marked words width a b) (label_at a b) ≡ edge_held (marked more wide a b) (other_at a b)
    at all a b a_in b_in =
        sym (edge-held labels words label_at width a b a_in b_in) ∙ ap (λ (k : Graph). edge k a b) is_g ∙ all a b (rw (← size_g) a_in) (rw (← size_g) b_in)
        ∙ ap (λ (k : Graph). edge k a b) (sym is_h) ∙ edge-held others more other_at wide a b (omega (arith, sizes)) (omega (arith, sizes))

    whole : ((a b : ℕ) → a < size g → b < size g → edge g a b ≡ edge h a b) → graph_held labels words label_at width ≡ graph_held others more other_at wide
    whole all =
        ap (λ (rows : List (List (Option ℕ))). record { labels = labels; rows = rows })
        (tabulate-same (length labels) _ (λ (a : ℕ). tabulate (length labels) (λ (b : ℕ). edge_held (marked more wide a b) (other_at a b))) []
        (λ a a_in. tabulate-same (length labels) _ (λ (b : ℕ). edge_held (marked more wide a b) (other_at a b)) None (λ b b_in. at all a b a_in b_in)))
        ∙ ap (λ (n : ℕ). record { labels = labels; rows = tabulate n (λ (a : ℕ). tabulate n (λ (b : ℕ). edge_held (marked more wide a b) (other_at a b))) }) sizes
        ∙ ap (λ (ks : List ℕ). record { labels = ks; rows = tabulate (length others) (λ (a : ℕ). tabulate (length others) (λ (b : ℕ). edge_held (marked more wide a b) (other_at a b))) }) names
