-- Marks that are added one after another.

use Rattle.std.proofs.Common.{◌≡◌, ℕ, ◌+◌, ◌*◌, ◌<◌, ◌≤◌, Bool, true, false, not, eqb, ◌&&◌, ◌||◌, List, [], ◌∷◌, ◌++◌, length, get_or, take, refl, sym, ap, subst, ◌∙◌, arith, inl, inr, ◌⊎◌}
use Rattle.std.proofs.Math.ListN.{set, replicate}
use Rattle.std.proofs.lemmas.Bool.{cases_eq, cases_order, eq-eqb, ne_eqb}
use Rattle.std.proofs.lemmas.List.{get_or-set_same, get_or-set_other, length-set, get_or-take, get_or_past, take_more, length-replicate, get_or-replicate, length-take-le}
use Rattle.std.proofs.lemmas.Grind.{common_steps}
use Rattle.lad_reader.specs.Parts.{AllBelow}
use Rattle.bit_rows.specs.BitRows.{has, words_for}
use Rattle.graph_theory.specs.Neighbours.{count}
use Rattle.graph_theory.proofs.Counts.{count-same}
use Rattle.graph_rows.specs.Held.{marked, marks_other, AreMarks, AreUnmarked, AddsMark, AddsListed, AddsOut, AddsIn, stands_in, said, either_said}
use Rattle.bit_rows.proofs.Writing.{has-zeros}
use Rattle.graph_rows.proofs.Counting.{count_more}
use Rattle.bit_rows.proofs.Passing.{count_none}
use Rattle.graph_rows.proofs.Places.{eqb-places}

-- a value added to the words is a mark added to the rows
pub adds_mark : (width a b : ℕ) (old new : List ℕ) → b < 64 * width
    → ((v : ℕ) → has new v ≡ (has old v || eqb (a * (64 * width) + b) v)) → AddsMark width old new a b
adds_mark width a b old new b_in set = record {
  each = λ x y y_in. set (x * (64 * width) + y) ∙ ap (λ t. marked old width x y || t) (eqb-places (64 * width) a b x y b_in y_in);
}

-- there is room in a row for each vertex
pub room_in_row : (n width : ℕ) → width ≡ words_for n → n ≤ 64 * width
room_in_row n width is = omega arith

-- n rows without marks
pub no_marks : (n width : ℕ) (words degrees : List ℕ) → n ≤ 8192 → width ≡ words_for n → words ≡ replicate (n * width) 0 → degrees ≡ replicate n 0
    → AreMarks n width words degrees
no_marks n width words degrees few width_is words_are degrees_are = record {
  few = few;
  width_is = width_is;
  words_are = rw words_are (length-replicate {A = ℕ} (n * width) 0);
  degrees_are = rw degrees_are (length-replicate {A = ℕ} n 0);
  padded = λ a b a_in past b_in. rw words_are (has-zeros (n * width) (a * (64 * width) + b));
  counted = λ a a_in. rw degrees_are (get_or-replicate {A = ℕ} n a 0 0 a_in ∙ sym (count_none (marks_other words width a) n (λ k k_in. none a k)));
}
  where
    and_false : (t : Bool) → (t && false) ≡ false
    and_false true = refl
    and_false false = refl

    none : (a k : ℕ) → marks_other words width a k ≡ false
    none a k = ap (λ t. not (eqb a k) && t) (ap (λ (ws : List ℕ). has ws (a * (64 * width) + k)) words_are ∙ has-zeros (n * width) (a * (64 * width) + k)) ∙ and_false (not (eqb a k))

-- and so has what was made for so many
pub no_marks_made : (size width : ℕ) (words degrees ws ds : List ℕ) → size ≤ 8192 → width ≡ words_for size → words ≡ ws → ws ≡ replicate (size * width) 0
    → degrees ≡ ds → ds ≡ replicate size 0 → AreMarks (length degrees) width words degrees
no_marks_made size width words degrees ws ds few width_is words_are zeros degrees_are nones =
    let long : length degrees ≡ size = rw (degrees_are, nones) (length-replicate {A = ℕ} size 0) in
    rw long (no_marks size width words degrees few width_is (words_are ∙ zeros) (degrees_are ∙ nones))

-- and lists of neighbours can be marked in it
pub unmarked_made : (size width : ℕ) (words degrees ws ds : List ℕ) (lists : List (List ℕ)) → size ≤ 8192 → width ≡ words_for size → words ≡ ws → ws ≡ replicate (size * width) 0
    → degrees ≡ ds → ds ≡ replicate size 0 → length lists ≡ size → AllBelow size lists → AreUnmarked (length degrees) width words degrees lists
unmarked_made size width words degrees ws ds lists few width_is words_are zeros degrees_are nones all to =
    let long : length degrees ≡ size = rw (degrees_are, nones) (length-replicate {A = ℕ} size 0) in
    record {
      marks = no_marks_made size width words degrees ws ds few width_is words_are zeros degrees_are nones;
      empty = λ x y. ap (λ (us : List ℕ). has us (x * (64 * width) + y)) (words_are ∙ zeros) ∙ has-zeros (size * width) (x * (64 * width) + y);
      all = all ∙ sym long;
      to = subst (λ (n : ℕ). AllBelow n lists) (sym long) to;
    }

or_false : (b : Bool) → (b || false) ≡ b
or_false true = refl
or_false false = refl

-- marks elsewhere in a row stay
other_value : (width : ℕ) (old new : List ℕ) (a b x y : ℕ) → AddsMark width old new a b → y < 64 * width → (b ≡ y → ⊥) → marked new width x y ≡ marked old width x y
other_value width old new a b x y adds y_in ne = adds.each x y y_in ∙ rw (ne_eqb b y ne) (by (marked old width x y) (eqb a x))
  where
    by : (m t : Bool) → (m || (t && false)) ≡ m
    by true t = refl
    by false true = refl
    by false false = refl

-- and so do those of other rows
other_row : (width : ℕ) (old new : List ℕ) (a b x y : ℕ) → AddsMark width old new a b → y < 64 * width → (a ≡ x → ⊥) → marked new width x y ≡ marked old width x y
other_row width old new a b x y adds y_in ne = adds.each x y y_in ∙ rw (ne_eqb a x ne) (or_false (marked old width x y))

-- the mark itself stands
marked_now : (width : ℕ) (old new : List ℕ) (a b : ℕ) → AddsMark width old new a b → b < 64 * width → marked new width a b ≡ true
marked_now width old new a b adds b_in = adds.each a b b_in ∙ rw (eq-eqb a a refl, eq-eqb b b refl) (by (marked old width a b))
  where
    by : (m : Bool) → (m || true) ≡ true
    by true = refl
    by false = refl

-- a mark below n leaves the places past it empty
padded_after : (n width : ℕ) (old new degrees : List ℕ) (a b : ℕ) → AreMarks n width old degrees → AddsMark width old new a b → b < n
    → (x y : ℕ) → x < n → n ≤ y → y < 64 * width → marked new width x y ≡ false
padded_after n width old new degrees a b marks adds b_in x y x_in past y_in =
    other_value width old new a b x y adds y_in (λ h. omega arith) ∙ marks.padded x y x_in past y_in

-- a new neighbour, counted
pub marks_new : (n width : ℕ) (old new degrees : List ℕ) (a b : ℕ) → AreMarks n width old degrees → AddsMark width old new a b → length new ≡ length old
    → a < n → b < n → (a ≡ b → ⊥) → marked old width a b ≡ false → AreMarks n width new (set degrees a (get_or degrees a 0 + 1))
marks_new n width old new degrees a b marks adds long a_in b_in apart unmarked = record {
  few = marks.few;
  width_is = marks.width_is;
  words_are = long ∙ marks.words_are;
  degrees_are = length-set degrees a (get_or degrees a 0 + 1) ∙ marks.degrees_are;
  padded = padded_after n width old new degrees a b marks adds b_in;
  counted = λ x x_in. by x x_in (cases_eq x a);
}
  where
    room : n ≤ 64 * width
    room = room_in_row n width marks.width_is

    off : marks_other old width a b ≡ false
    off = rw (ne_eqb a b apart, unmarked) refl

    on : marks_other new width a b ≡ true
    on = ap (λ t. not (eqb a b) && t) (marked_now width old new a b adds (omega (arith, room))) ∙ rw (ne_eqb a b apart) refl

    by : (x : ℕ) → x < n → (x ≡ a) ⊎ (x ≡ a → ⊥) → get_or (set degrees a (get_or degrees a 0 + 1)) x 0 ≡ count (marks_other new width x) n
    by x x_in (inl e) =
        let inside : a < length degrees = omega (arith, marks.degrees_are) in
        let more : count (marks_other new width a) n ≡ count (marks_other old width a) n + 1 =
        count_more (marks_other old width a) (marks_other new width a) n b b_in off on
        (λ k k_in ne. ap (λ t. not (eqb a k) && t) (other_value width old new a b a k adds (omega (arith, room)) (λ h. ne (sym h)))) in
        rw e (get_or-set_same degrees a (get_or degrees a 0 + 1) 0 inside ∙ ap (λ m. m + 1) (marks.counted a a_in) ∙ sym more)
    by x x_in (inr ne) =
        get_or-set_other degrees a x (get_or degrees a 0 + 1) 0 ne ∙ marks.counted x x_in
        ∙ count-same (marks_other old width x) (marks_other new width x) n
        (λ k k_in. ap (λ t. not (eqb x k) && t) (sym (other_row width old new a b x k adds (omega (arith, room)) (λ h. ne (sym h)))))

-- a loop or a mark that stood before counts for nothing
pub marks_old : (n width : ℕ) (old new degrees : List ℕ) (a b : ℕ) → AreMarks n width old degrees → AddsMark width old new a b → length new ≡ length old
    → a < n → b < n → (a ≡ b) ⊎ (marked old width a b ≡ true) → AreMarks n width new degrees
marks_old n width old new degrees a b marks adds long a_in b_in known = record {
  few = marks.few;
  width_is = marks.width_is;
  words_are = long ∙ marks.words_are;
  degrees_are = marks.degrees_are;
  padded = padded_after n width old new degrees a b marks adds b_in;
  counted = λ x x_in. marks.counted x x_in ∙ count-same (marks_other old width x) (marks_other new width x) n (λ k k_in. by x k k_in (cases_eq a x) (cases_eq b k) known);
}
  where
    room : n ≤ 64 * width
    room = room_in_row n width marks.width_is

    by : (x k : ℕ) → k < n → (a ≡ x) ⊎ (a ≡ x → ⊥) → (b ≡ k) ⊎ (b ≡ k → ⊥) → (a ≡ b) ⊎ (marked old width a b ≡ true) → marks_other old width x k ≡ marks_other new width x k
    by x k k_in (inr ne) f g = ap (λ t. not (eqb x k) && t) (sym (other_row width old new a b x k adds (omega (arith, room)) ne))
    by x k k_in (inl e) (inr ne) g = ap (λ t. not (eqb x k) && t) (sym (other_value width old new a b x k adds (omega (arith, room)) ne))
    by x k k_in (inl e) (inl f) (inl g) = let same : x ≡ k = omega arith in rw (eq-eqb x k same) refl
    by x k k_in (inl e) (inl f) (inr g) =
        let before : marked old width x k ≡ true = rw (← e, ← f) g in
        let after : marked new width x k ≡ true = rw (← e, ← f) (marked_now width old new a b adds (omega (arith, room))) in
        ap (λ t. not (eqb x k) && t) (before ∙ sym after)

-- one more in a list
stands_in-push : (xs : List ℕ) (b y : ℕ) → stands_in (xs ++ b ∷ []) y ≡ (stands_in xs y || eqb b y)
stands_in-push [] b y = or_false (eqb b y)
stands_in-push (x ∷ xs) b y = rw (stands_in-push xs b y) (by (eqb x y) (stands_in xs y) (eqb b y))
  where
    by : (p q r : Bool) → (p || (q || r)) ≡ ((p || q) || r)
    by true q r = refl
    by false q r = refl

pub stands_in-take : (xs : List ℕ) (i y : ℕ) → i < length xs → stands_in (take (i + 1) xs) y ≡ (stands_in (take i xs) y || eqb (get_or xs i 0) y)
stands_in-take xs i y i_in = ap (λ (zs : List ℕ). stands_in zs y) (take_more xs i 0 i_in) ∙ stands_in-push (take i xs) (get_or xs i 0) y

listed_tests : (o p q sy sx ey ex : Bool) → (((o || ((p && sy) || (q && sx))) || (p && ey)) || (ex && q)) ≡ (o || ((p && (sy || ey)) || (q && (sx || ex))))
listed_tests o p q sy sx ey ex = grind (arith, common_steps)

-- an edge is marked from both ends
pub adds_listed_more : (width : ℕ) (old now next new : List ℕ) (a : ℕ) (listed : List ℕ) (i : ℕ) → i < length listed
    → AddsListed width old now a (take i listed) → AddsMark width now next a (get_or listed i 0) → AddsMark width next new (get_or listed i 0) a
    → AddsListed width old new a (take (i + 1) listed)
adds_listed_more width old now next new a listed i i_in adds first second = record {
  each = λ x y x_in y_in.
      second.each x y y_in
      ∙ ap (λ t. t || (eqb (get_or listed i 0) x && eqb a y)) (first.each x y y_in ∙ ap (λ t. t || (eqb a x && eqb (get_or listed i 0) y)) (adds.each x y x_in y_in))
      ∙ listed_tests (marked old width x y) (eqb a x) (eqb a y) (stands_in (take i listed) y) (stands_in (take i listed) x) (eqb (get_or listed i 0) y) (eqb (get_or listed i 0) x)
      ∙ sym (rw (stands_in-take listed i y i_in, stands_in-take listed i x i_in) refl);
}

-- no list, no mark
pub adds_listed_none : (width : ℕ) (old : List ℕ) (a : ℕ) → AddsListed width old old a []
adds_listed_none width old a = record { each = λ x y x_in y_in. by (marked old width x y) (eqb a x) (eqb a y) }
  where
    by : (m p q : Bool) → m ≡ (m || ((p && false) || (q && false)))
    by true p q = refl
    by false true true = refl
    by false true false = refl
    by false false true = refl
    by false false false = refl

-- one vertex's list more is said
pub said_more : (lists : List (List ℕ)) (a x y : ℕ) (listed : List ℕ) → a < length lists → get_or lists a [] ≡ listed
    → said (take (a + 1) lists) x y ≡ (said (take a lists) x y || (eqb a x && stands_in listed y))
said_more lists a x y listed a_in is = by (cases_order x a)
  where
    by : (x ≡ a) ⊎ ((x < a) ⊎ (a < x)) → said (take (a + 1) lists) x y ≡ (said (take a lists) x y || (eqb a x && stands_in listed y))
    by (inl e) =
        let before : get_or (take a lists) x [] ≡ [] = get_or_past (take a lists) x [] (omega (arith, length-take-le a lists (omega arith))) in
        let here : get_or (take (a + 1) lists) x [] ≡ listed = get_or-take (a + 1) lists x [] (omega arith) ∙ ap (λ (k : ℕ). get_or lists k []) e ∙ is in
        rw (before, here, eq-eqb a x (sym e)) refl
    by (inr (inl less)) =
        let before : get_or (take a lists) x [] ≡ get_or lists x [] = get_or-take a lists x [] less in
        let here : get_or (take (a + 1) lists) x [] ≡ get_or lists x [] = get_or-take (a + 1) lists x [] (omega arith) in
        rw (before, here, ne_eqb a x (λ h. omega arith)) (sym (or_false (stands_in (get_or lists x []) y)))
    by (inr (inr more)) =
        let before : get_or (take a lists) x [] ≡ [] = get_or_past (take a lists) x [] (omega (arith, length-take-le a lists (omega arith))) in
        let here : get_or (take (a + 1) lists) x [] ≡ [] = get_or_past (take (a + 1) lists) x [] (omega (arith, length-take-le (a + 1) lists (omega arith))) in
        rw (before, here, ne_eqb a x (λ h. omega arith)) refl

said_tests : (s r u v : Bool) → ((s || r) || (u || v)) ≡ ((s || u) || (r || v))
said_tests true r u v = refl
said_tests false true true v = refl
said_tests false true false v = refl
said_tests false false u v = refl

-- the marks say what the lists do, one vertex further
pub said_marks_more : (width : ℕ) (now new : List ℕ) (lists : List (List ℕ)) (a : ℕ) (listed : List ℕ) → a < length lists → get_or lists a [] ≡ listed
    → ((x y : ℕ) → x < 64 * width → y < 64 * width → marked now width x y ≡ either_said (take a lists) x y) → AddsListed width now new a listed
    → (x y : ℕ) → x < 64 * width → y < 64 * width → marked new width x y ≡ either_said (take (a + 1) lists) x y
said_marks_more width now new lists a listed a_in is so_far adds x y x_in y_in =
    adds.each x y x_in y_in
    ∙ ap (λ t. t || ((eqb a x && stands_in listed y) || (eqb a y && stands_in listed x))) (so_far x y x_in y_in)
    ∙ said_tests (said (take a lists) x y) (said (take a lists) y x) (eqb a x && stands_in listed y) (eqb a y && stands_in listed x)
    ∙ sym (rw (said_more lists a x y listed a_in is, said_more lists a y x listed a_in is) refl)

-- ---- marks of one direction

out_tests : (o p s e : Bool) → ((o || (p && s)) || (p && e)) ≡ (o || (p && (s || e)))
out_tests o p s e = grind (arith, common_steps)

-- an edge more leads out
pub adds_out_more : (width : ℕ) (old now new : List ℕ) (a : ℕ) (listed : List ℕ) (i : ℕ) → i < length listed
    → AddsOut width old now a (take i listed) → AddsMark width now new a (get_or listed i 0) → AddsOut width old new a (take (i + 1) listed)
adds_out_more width old now new a listed i i_in adds one = record {
  each = λ x y x_in y_in.
      one.each x y y_in ∙ ap (λ t. t || (eqb a x && eqb (get_or listed i 0) y)) (adds.each x y x_in y_in)
      ∙ out_tests (marked old width x y) (eqb a x) (stands_in (take i listed) y) (eqb (get_or listed i 0) y)
      ∙ sym (rw (stands_in-take listed i y i_in) refl);
}

in_tests : (o q s e : Bool) → ((o || (q && s)) || (e && q)) ≡ (o || (q && (s || e)))
in_tests o q s e = grind (arith, common_steps)

-- an edge more leads in
pub adds_in_more : (width : ℕ) (old now new : List ℕ) (a : ℕ) (listed : List ℕ) (i : ℕ) → i < length listed
    → AddsIn width old now a (take i listed) → AddsMark width now new (get_or listed i 0) a → AddsIn width old new a (take (i + 1) listed)
adds_in_more width old now new a listed i i_in adds one = record {
  each = λ x y x_in y_in.
      one.each x y y_in ∙ ap (λ t. t || (eqb (get_or listed i 0) x && eqb a y)) (adds.each x y x_in y_in)
      ∙ in_tests (marked old width x y) (eqb a y) (stands_in (take i listed) x) (eqb (get_or listed i 0) x)
      ∙ sym (rw (stands_in-take listed i x i_in) refl);
}

none_added : (m p : Bool) → m ≡ (m || (p && false))
none_added true p = refl
none_added false true = refl
none_added false false = refl

-- no list, no mark
pub adds_out_none : (width : ℕ) (old : List ℕ) (a : ℕ) → AddsOut width old old a []
adds_out_none width old a = record { each = λ x y x_in y_in. none_added (marked old width x y) (eqb a x) }

pub adds_in_none : (width : ℕ) (old : List ℕ) (a : ℕ) → AddsIn width old old a []
adds_in_none width old a = record { each = λ x y x_in y_in. none_added (marked old width x y) (eqb a y) }

-- the marks say what the lists do, one vertex further
pub said_out_more : (width : ℕ) (now new : List ℕ) (lists : List (List ℕ)) (a : ℕ) (listed : List ℕ) → a < length lists → get_or lists a [] ≡ listed
    → ((x y : ℕ) → x < 64 * width → y < 64 * width → marked now width x y ≡ said (take a lists) x y) → AddsOut width now new a listed
    → (x y : ℕ) → x < 64 * width → y < 64 * width → marked new width x y ≡ said (take (a + 1) lists) x y
said_out_more width now new lists a listed a_in is so_far adds x y x_in y_in =
    adds.each x y x_in y_in ∙ ap (λ t. t || (eqb a x && stands_in listed y)) (so_far x y x_in y_in) ∙ sym (said_more lists a x y listed a_in is)

pub said_in_more : (width : ℕ) (now new : List ℕ) (lists : List (List ℕ)) (a : ℕ) (listed : List ℕ) → a < length lists → get_or lists a [] ≡ listed
    → ((x y : ℕ) → x < 64 * width → y < 64 * width → marked now width x y ≡ said (take a lists) y x) → AddsIn width now new a listed
    → (x y : ℕ) → x < 64 * width → y < 64 * width → marked new width x y ≡ said (take (a + 1) lists) y x
said_in_more width now new lists a listed a_in is so_far adds x y x_in y_in =
    adds.each x y x_in y_in ∙ ap (λ t. t || (eqb a y && stands_in listed x)) (so_far x y x_in y_in) ∙ sym (said_more lists a y x listed a_in is)
