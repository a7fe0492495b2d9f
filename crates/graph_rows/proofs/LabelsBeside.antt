-- Labels of edges beside the marks: each vertex's gathered in the order of its row.

use Rattle.std.proofs.Common.{◌≡◌, ℕ, ◌+◌, ◌-◌, ◌*◌, ◌<◌, ◌≤◌, zero, suc, Bool, true, false, eqb, ◌||◌, ◌&&◌, if◌then◌else◌, List, [], ◌∷◌, ◌++◌, length, map, get_or, take, drop, Some, is_some, refl, sym, ap, subst, ◌∙◌, arith, inl, inr, ◌⊎◌, length-append, append_assoc}
use Rattle.std.proofs.Math.ListN.{set}
use Rattle.std.proofs.Math.Seq.{drop-nil, drop-length}
use Rattle.std.proofs.lemmas.Bool.{cases_eq, cases_lt, eq-eqb, ne_eqb, false≢true}
use Rattle.std.proofs.lemmas.List.{get_or-set_same, get_or-set_other, get_or_read, get_or_append_left, get_or-append-add, get_or-map, get_or_push, length-map, length-take, length-drop, map-append, append-nil}
use native.Mathlib.Nat.{mul-le-mul_right, suc-mul}
use Rattle.graph_theory.specs.Graph.{Graph, size, edge}
use Rattle.graph_theory.specs.Neighbours.{count, members}
use Rattle.graph_theory.proofs.Counts.{count-pass, count-same}
use Rattle.lad_reader.specs.Parts.{with_labels, AreBelow}
use Rattle.bit_rows.specs.BitRows.{has, words_for}
use Rattle.bit_rows.proofs.Passing.{count_within, count_le, length-members, members_none, members_add, members_same}
use Rattle.graph_rows.specs.Held.{marked, edge_held, graph_held, label_kept, label_in, label_listed, said, stands_in, AreBeside, AreFirst, AreListed}
use Rattle.bit_rows.proofs.Rows.{has_past}
use Rattle.graph_rows.proofs.Places.{has-row}
use Rattle.graph_rows.proofs.Marking.{room_in_row}
use Rattle.graph_rows.proofs.HeldGraph.{edge-held, is_some-mark}

-- ---- what stands at each listed vertex

-- the next neighbour where no label is given, and the rest
unlabelled-drop : (bs : List ℕ) (i : ℕ) → i < length bs → with_labels (drop i bs) [] ≡ (get_or bs i 0, 0) ∷ with_labels (drop (suc i) bs) []
unlabelled-drop [] i i_in = absurd (omega arith)
unlabelled-drop (b ∷ bs) zero i_in = refl
unlabelled-drop (b ∷ bs) (suc i) i_in = unlabelled-drop bs i (omega arith)

-- the next neighbour with its label, and the rest
with_labels-drop : (bs es : List ℕ) (i : ℕ) → i < length bs
    → with_labels (drop i bs) (drop i es) ≡ (get_or bs i 0, get_or es i 0) ∷ with_labels (drop (suc i) bs) (drop (suc i) es)
with_labels-drop bs [] i i_in = rw (drop-nil {A = ℕ} i, drop-nil {A = ℕ} (suc i)) (unlabelled-drop bs i i_in)
with_labels-drop [] (e ∷ es) i i_in = absurd (omega arith)
with_labels-drop (b ∷ bs) (e ∷ es) zero i_in = refl
with_labels-drop (b ∷ bs) (e ∷ es) (suc i) i_in = with_labels-drop bs es i (omega arith)

-- the next neighbour, and the rest
stands-drop : (bs : List ℕ) (i b : ℕ) → i < length bs → stands_in (drop i bs) b ≡ (eqb (get_or bs i 0) b || stands_in (drop (suc i) bs) b)
stands-drop [] i b i_in = absurd (omega arith)
stands-drop (c ∷ bs) zero b i_in = refl
stands-drop (c ∷ bs) (suc i) b i_in = stands-drop bs i b (omega arith)

-- nothing is listed behind the last one
pub first_none : (listed labels found : List ℕ) → AreFirst (drop (length listed) listed) (drop (length listed) labels) found
first_none listed labels found = record {
  each = λ b there.
      absurd (false≢true (ap (λ (bs : List ℕ). stands_in bs b) (sym (drop-length listed)) ∙ there));
}

-- one label more, in front of those that are written
pub first_more : (listed labels found : List ℕ) (i j : ℕ) → j ≡ suc i → i < length listed → get_or listed i 0 < length found
    → AreFirst (drop j listed) (drop j labels) found → AreFirst (drop i listed) (drop i labels) (set found (get_or listed i 0) (get_or labels i 0))
first_more listed labels found i j is i_in c_in before = record { each = λ b there. by b there (cases_eq c b) }
  where
    c : ℕ
    c = get_or listed i 0

    label : ℕ
    label = get_or labels i 0

    rest : (b : ℕ) → label_in (with_labels (drop i listed) (drop i labels)) b ≡ (if eqb (get_or listed i 0) b then get_or labels i 0 else label_in (with_labels (drop j listed) (drop j labels)) b)
    rest b =
        ap (λ (es : List (ℕ × ℕ)). label_in es b) (with_labels-drop listed labels i i_in)
        ∙ ap (λ (k : ℕ). if eqb (get_or listed i 0) b then get_or labels i 0 else label_in (with_labels (drop k listed) (drop k labels)) b) (sym is)

    later : (b : ℕ) → stands_in (drop i listed) b ≡ true → (get_or listed i 0 ≡ b → ⊥) → stands_in (drop j listed) b ≡ true
    later b there ne =
        ap (λ (k : ℕ). stands_in (drop k listed) b) is
        ∙ ap (λ (t : Bool). t || stands_in (drop (suc i) listed) b) (sym (ne_eqb (get_or listed i 0) b ne)) ∙ sym (stands-drop listed i b i_in) ∙ there

    by : (b : ℕ) → stands_in (drop i listed) b ≡ true → (get_or listed i 0 ≡ b) ⊎ (get_or listed i 0 ≡ b → ⊥)
        → get_or (set found (get_or listed i 0) (get_or labels i 0)) b 0 ≡ label_in (with_labels (drop i listed) (drop i labels)) b
    by b there (inl e) =
        ap (λ (k : ℕ). get_or (set found (get_or listed i 0) (get_or labels i 0)) k 0) (sym e)
        ∙ get_or-set_same found (get_or listed i 0) (get_or labels i 0) 0 c_in ∙ sym (rest b ∙ rw (eq-eqb (get_or listed i 0) b e) refl)
    by b there (inr ne) =
        get_or-set_other found (get_or listed i 0) b (get_or labels i 0) 0 (λ e. ne (sym e)) ∙ before.each b (later b there ne)
        ∙ sym (rest b ∙ rw (ne_eqb (get_or listed i 0) b ne) refl)

-- ---- members of a test

-- numbers that do not pass are passed over
members_skip : (f : ℕ → Bool) (a b : ℕ) → a ≤ b → ((v : ℕ) → a ≤ v → v < b → f v ≡ false) → members f b ≡ members f a
members_skip f a b le none =
    let e : b ≡ a + (b - a) = omega arith in
    ap (members f) e ∙ members_add f a (b - a)
    ∙ ap (λ (vs : List ℕ). members f a ++ map (λ i. a + i) vs) (members_none (λ i. f (a + i)) (b - a) (λ i i_in. none (a + i) (omega arith) (omega arith)))
    ∙ append-nil (members f a)

-- before the first member there is none
pub added_none : (f : ℕ → Bool) (g : ℕ → ℕ) (xs : List ℕ) (next : ℕ) → ((v : ℕ) → v < next → f v ≡ false) → xs ≡ xs ++ map g (members f next)
added_none f g xs next none = sym (ap (λ (vs : List ℕ). xs ++ map g vs) (members_none f next none) ∙ append-nil xs)

-- what was found at a member is added, and what is no member passed over
pub added_next : (f : ℕ → Bool) (g : ℕ → ℕ) (xs now new : List ℕ) (v next : ℕ) → f v ≡ true → v + 1 ≤ next → ((u : ℕ) → v + 1 ≤ u → u < next → f u ≡ false)
    → now ≡ xs ++ map g (members f v) → new ≡ now ++ g v ∷ [] → new ≡ xs ++ map g (members f next)
added_next f g xs now new v next here le none before pushed =
    let e : v + 1 ≡ suc v = omega arith in
    let own : members f (suc v) ≡ members f v ++ v ∷ [] = ap (λ (b : Bool). members f v ++ (if b then v ∷ [] else [])) here in
    pushed ∙ ap (λ (ys : List ℕ). ys ++ g v ∷ []) before ∙ append_assoc xs (map g (members f v)) (g v ∷ [])
    ∙ ap (λ (ys : List ℕ). xs ++ ys) (sym (map-append g (members f v) (v ∷ [])))
    ∙ ap (λ (vs : List ℕ). xs ++ map g vs) (sym own ∙ ap (members f) (sym e) ∙ sym (members_skip f (v + 1) next le none))

-- more pass below a number than below one of those that pass
count_before : (f : ℕ → Bool) (b n : ℕ) → f b ≡ true → b < n → count f b < count f n
count_before f b n here b_in = omega (arith, count-pass f b here, count_le f f (suc b) n (omega arith) (λ i h. h))

-- a member stands in the list behind as many as there are below it
member_at : (f : ℕ → Bool) (b n : ℕ) → f b ≡ true → b < n → get_or (members f n) (count f b) 0 ≡ b
member_at f b zero here b_in = absurd (omega arith)
member_at f b (suc n) here b_in = by (member_at f b n here) (cases_eq b n)
  where
    last : List ℕ
    last = if f n then n ∷ [] else []

    by : (b < n → get_or (members f n) (count f b) 0 ≡ b) → (b ≡ n) ⊎ (b ≡ n → ⊥) → get_or (members f n ++ (if f n then n ∷ [] else [])) (count f b) 0 ≡ b
    by before (inl e) =
        let own : f n ≡ true = subst (λ (k : ℕ). f k ≡ true) e here in
        ap (λ (t : Bool). get_or (members f n ++ (if t then n ∷ [] else [])) (count f b) 0) own
        ∙ get_or_push (members f n) n 0 (count f b) (length-members f n ∙ ap (count f) (sym e)) ∙ sym e
    by before (inr ne) =
        let b_below : b < n = omega arith in
        let inside : count f b < length (members f n) = rw (length-members f n) (count_before f b n here b_below) in
        get_or_append_left (members f n) (if f n then n ∷ [] else []) 0 (count f b) inside ∙ before b_below

-- ---- the labels of a graph's edges, vertex by vertex

-- those of the first a vertices are gathered
pub record AreGathered (a width : ℕ) (words starts labels : List ℕ) (lists ess : List (List ℕ)) : Type 0 where
  pub long : length starts ≡ a
  pub few : length labels ≤ a * (64 * width)
  pub within : (x : ℕ) → x < a → get_or starts x 0 + count (marked words width x) (64 * width) ≤ length labels
  pub listed : AreListed a width words starts labels lists ess

-- what a list of numbers below n has is below n
stands_below : (n : ℕ) (bs : List ℕ) (v : ℕ) → AreBelow n bs → stands_in bs v ≡ true → v < n
stands_below n [] v below there = absurd (false≢true there)
stands_below n (b ∷ bs) v below there = by (cases_eq b v) (stands_below n bs v below.1)
  where
    by : (b ≡ v) ⊎ (b ≡ v → ⊥) → (stands_in bs v ≡ true → v < n) → v < n
    by (inl e) later = subst (λ (k : ℕ). k < n) e below.0
    by (inr ne) later = later (ap (λ (t : Bool). t || stands_in bs v) (sym (ne_eqb b v ne)) ∙ there)

-- the part of the words that is row a has its marks
pub row_marks : (words : List ℕ) (width a from len : ℕ) → from ≡ a * width → len ≡ width → (v : ℕ) → v < 64 * width → has (take len (drop from words)) v ≡ marked words width a v
row_marks words width a from len at long v v_in = ap (λ (k : ℕ). has (take k (drop from words)) v) long ∙ has-row words width a v from at v_in

-- and is as long as a row
pub row_long : (n width a from len : ℕ) (words : List ℕ) → length words ≡ n * width → a < n → from ≡ a * width → len ≡ width → length (take len (drop from words)) ≡ width
row_long n width a from len words long a_in at is =
    let m = mul-le-mul_right {m = suc a} {n = n} width a_in in
    omega (arith, length-take len (drop from words), length-drop from words, m, suc-mul a width)

-- a mark stands for a vertex that is listed
pub mark_listed : (n width a : ℕ) (words listed : List ℕ) (lists : List (List ℕ)) → width ≡ words_for n → a < n → get_or lists a [] ≡ listed
    → ((x y : ℕ) → x < 64 * width → y < 64 * width → marked words width x y ≡ said lists x y)
    → (v : ℕ) → v < 64 * width → marked words width a v ≡ true → stands_in listed v ≡ true
mark_listed n width a words listed lists width_is a_in listed_is are v v_in mark =
    ap (λ (bs : List ℕ). stands_in bs v) (sym listed_is) ∙ sym (are a v (omega (arith, room_in_row n width width_is)) v_in) ∙ mark

-- so a row's members are vertices
pub members_within : (n width a from len : ℕ) (words listed : List ℕ) (lists : List (List ℕ)) → width ≡ words_for n → a < n → get_or lists a [] ≡ listed → AreBelow n listed
    → ((x y : ℕ) → x < 64 * width → y < 64 * width → marked words width x y ≡ said lists x y) → from ≡ a * width → len ≡ width
    → (v : ℕ) → has (take len (drop from words)) v ≡ true → v < n
members_within n width a from len words listed lists width_is a_in listed_is below are at long v there = by (cases_lt v (64 * width))
  where
    by : (v < 64 * width) ⊎ (64 * width ≤ v) → v < n
    by (inl v_in) =
        stands_below n listed v below
        (mark_listed n width a words listed lists width_is a_in listed_is are v v_in (sym (row_marks words width a from len at long v v_in) ∙ there))
    by (inr past) =
        absurd (false≢true (sym (has_past (take len (drop from words)) v (omega (arith, length-take len (drop from words)))) ∙ there))

-- none at first
pub gathered_none : (width : ℕ) (words starts labels : List ℕ) (lists ess : List (List ℕ)) → starts ≡ [] → labels ≡ [] → AreGathered 0 width words starts labels lists ess
gathered_none width words starts labels lists ess no_start no_label =
    let first : length starts ≡ 0 = ap length no_start in
    let none : length labels ≡ 0 = ap length no_label in
    record {
      long = first;
      few = omega arith;
      within = λ x x_in. absurd (omega arith);
      listed = record { each = λ x y x_in. absurd (omega arith) };
    }

-- those of one vertex more
pub gathered_next : (a width : ℕ) (words starts labels row found listed es new_starts new_labels : List ℕ) (lists ess : List (List ℕ)) (start : ℕ)
    → AreGathered a width words starts labels lists ess
    → length row ≡ width → ((v : ℕ) → v < 64 * width → has row v ≡ marked words width a v)
    → ((v : ℕ) → v < 64 * width → marked words width a v ≡ true → stands_in listed v ≡ true)
    → get_or lists a [] ≡ listed → es ≡ get_or ess a [] → AreFirst listed es found
    → start ≡ length labels → new_starts ≡ starts ++ start ∷ []
    → new_labels ≡ labels ++ map (λ (v : ℕ). get_or found v 0) (members (has row) (64 * length row))
    → AreGathered (a + 1) width words new_starts new_labels lists ess
gathered_next a width words starts labels row found listed es new_starts new_labels lists ess start before narrow row_is standing listed_is es_is first start_is pushed added = record {
  long = ap length pushed ∙ length-append starts (start ∷ []) ∙ ap (λ (k : ℕ). k + 1) before.long;
  few = let e : (a + 1) * s ≡ a * s + s = one_more in omega (arith, longer, before.few, count_within f s, e);
  within = λ x x_in. room x x_in (cases_lt x a);
  listed = record { each = λ x y x_in y_in mark. label_is x y x_in y_in mark (cases_lt x a) };
}
  where
    s : ℕ
    s = 64 * width

    f : ℕ → Bool
    f = marked words width a

    g : ℕ → ℕ
    g v = get_or found v 0

    own : List ℕ
    own = map g (members f s)

    one_more : (a + 1) * (64 * width) ≡ a * (64 * width) + 64 * width
    one_more = let e : a + 1 ≡ suc a = omega arith in ap (λ (k : ℕ). k * (64 * width)) e ∙ suc-mul a (64 * width)

    is_added : new_labels ≡ labels ++ own
    is_added =
        added ∙ ap (λ (n : ℕ). labels ++ map g (members (has row) (64 * n))) narrow
        ∙ ap (λ (vs : List ℕ). labels ++ map g vs) (members_same (has row) f (64 * width) row_is)

    longer : length new_labels ≡ length labels + count f s
    longer = ap length is_added ∙ length-append labels own ∙ ap (λ (k : ℕ). length labels + k) (length-map (members f s) g ∙ length-members f s)

    earlier : (x : ℕ) → x < a → get_or new_starts x 0 ≡ get_or starts x 0
    earlier x x_in = ap (λ (xs : List ℕ). get_or xs x 0) pushed ∙ get_or_append_left starts (start ∷ []) 0 x (omega (arith, before.long))

    newest : get_or new_starts a 0 ≡ length labels
    newest = ap (λ (xs : List ℕ). get_or xs a 0) pushed ∙ get_or_push starts start 0 a before.long ∙ start_is

    room : (x : ℕ) → x < a + 1 → (x < a) ⊎ (a ≤ x) → get_or new_starts x 0 + count (marked words width x) (64 * width) ≤ length new_labels
    room x x_in (inl less) = omega (arith, earlier x less, before.within x less, longer)
    room x x_in (inr more) =
        let e : a ≡ x = omega arith in
        subst (λ (k : ℕ). get_or new_starts k 0 + count (marked words width k) (64 * width) ≤ length new_labels) e (omega (arith, newest, longer))

    old_label : (x y : ℕ) → x < a → y < 64 * width → marked words width x y ≡ true → label_kept new_starts new_labels words width x y ≡ label_listed lists ess x y
    old_label x y less y_in mark =
        let place = get_or starts x 0 + count (marked words width x) y in
        let inside : get_or starts x 0 + count (marked words width x) y < length labels =
        omega (arith, before.within x less, count_before (marked words width x) y (64 * width) mark y_in) in
        ap (λ (k : ℕ). get_or new_labels (k + count (marked words width x) y) 0) (earlier x less)
        ∙ ap (λ (xs : List ℕ). get_or xs (get_or starts x 0 + count (marked words width x) y) 0) is_added
        ∙ get_or_append_left labels own 0 (get_or starts x 0 + count (marked words width x) y) inside
        ∙ before.listed.each x y less y_in mark

    own_label : (y : ℕ) → y < 64 * width → marked words width a y ≡ true → label_kept new_starts new_labels words width a y ≡ label_listed lists ess a y
    own_label y y_in mark =
        let inside : count f y < length (members f s) = rw (length-members f s) (count_before f y s mark y_in) in
        ap (λ (k : ℕ). get_or new_labels (k + count f y) 0) newest
        ∙ ap (λ (xs : List ℕ). get_or xs (length labels + count f y) 0) is_added
        ∙ get_or-append-add labels own (count f y) 0
        ∙ get_or-map g (members f s) (count f y) 0 0 inside
        ∙ ap g (member_at f y s mark y_in)
        ∙ first.each y (standing y y_in mark)
        ∙ ap (λ (bs : List ℕ). label_in (with_labels bs es) y) (sym listed_is)
        ∙ ap (λ (fs : List ℕ). label_in (with_labels (get_or lists a []) fs) y) es_is

    label_is : (x y : ℕ) → x < a + 1 → y < 64 * width → marked words width x y ≡ true → (x < a) ⊎ (a ≤ x)
        → label_kept new_starts new_labels words width x y ≡ label_listed lists ess x y
    label_is x y x_in y_in mark (inl less) = old_label x y less y_in mark
    label_is x y x_in y_in mark (inr more) =
        let e : a ≡ x = omega arith in
        subst (λ (k : ℕ). marked words width k y ≡ true → label_kept new_starts new_labels words width k y ≡ label_listed lists ess k y) e (own_label y y_in) mark

-- all are gathered
pub gathered_beside : (n width : ℕ) (words starts labels : List ℕ) (lists ess : List (List ℕ)) → AreGathered n width words starts labels lists ess → AreBeside n width words starts labels
gathered_beside n width words starts labels lists ess all = record {
  none = λ e.
      let z : n ≡ 0 = omega (arith, all.long) in
      let few : length labels ≤ 0 * (64 * width) = subst (λ (k : ℕ). length labels ≤ k * (64 * width)) z all.few in
      omega arith;
  long = λ _. all.long;
  within = λ a a_in. all.within a (omega (arith, all.long));
}

-- ---- the label that is read

-- an edge stands where a mark does
pub edge_mark : (labels words : List ℕ) (label_at : ℕ → ℕ → ℕ) (width : ℕ) (g : Graph) (a b : ℕ) → graph_held labels words label_at width ≡ g → a < size g → b < size g
    → is_some (edge g a b) ≡ marked words width a b
edge_mark labels words label_at width g a b is a_in b_in =
    let same : length labels ≡ size g = ap size is in
    ap (λ (h : Graph). is_some (edge h a b)) (sym is) ∙ ap is_some (edge-held labels words label_at width a b (rw same a_in) (rw same b_in)) ∙ is_some-mark (marked words width a b) (label_at a b)

-- as many members of a row as marks
pub marks_before : (labels words : List ℕ) (label_at : ℕ → ℕ → ℕ) (width : ℕ) (g : Graph) (row : List ℕ) (a b : ℕ) → graph_held labels words label_at width ≡ g → a < size g → b < size g
    → ((v : ℕ) → has row v ≡ is_some (edge g a v)) → count (λ v. has row v && has row v) b ≡ count (marked words width a) b
marks_before labels words label_at width g row a b is a_in b_in row_is =
    count-same (λ v. has row v && has row v) (marked words width a) b (λ v v_in. twice (has row v) ∙ row_is v ∙ edge_mark labels words label_at width g a v is a_in (omega arith))
  where
    twice : (t : Bool) → (t && t) ≡ t
    twice true = refl
    twice false = refl

-- the place that is read, as it is counted, and within the labels
pub place_is : (labels words : List ℕ) (label_at : ℕ → ℕ → ℕ) (width : ℕ) (g : Graph) (row starts kept : List ℕ) (a b i j start before : ℕ) → graph_held labels words label_at width ≡ g
    → width ≡ words_for (length labels) → AreBeside (length labels) width words starts kept → 0 < length starts → a < size g → b < size g → is_some (edge g a b) ≡ true
    → ((v : ℕ) → has row v ≡ is_some (edge g a v)) → before ≡ count (λ v. has row v && has row v) j → j ≡ b → start ≡ get_or starts i start → i ≡ a
    → (start + before ≡ get_or starts a 0 + count (marked words width a) b) × (start + before < length kept)
place_is labels words label_at width g row starts kept a b i j start before is width_is beside some a_in b_in stands row_is counted till read at =
    let sizes : length labels ≡ size g = ap size is in
    let long = beside.long some in
    let first : start ≡ get_or starts a 0 = get_or_read starts i start (omega (arith, sizes)) read 0 ∙ ap (λ (k : ℕ). get_or starts k 0) at in
    let passed : before ≡ count (marked words width a) b =
    counted ∙ ap (count (λ v. has row v && has row v)) till ∙ marks_before labels words label_at width g row a b is a_in b_in row_is in
    let mark = sym (edge_mark labels words label_at width g a b is a_in b_in) ∙ stands in
    let room = room_in_row (length labels) width width_is in
    let more = count_before (marked words width a) b (64 * width) mark (omega (arith, sizes)) in
    (omega arith, omega (arith, beside.within a (omega (arith, sizes))))

-- and its label is that of the edge
pub label_read : (labels words : List ℕ) (label_at : ℕ → ℕ → ℕ) (width : ℕ) (g : Graph) (a b l : ℕ) → graph_held labels words label_at width ≡ g → a < size g → b < size g
    → is_some (edge g a b) ≡ true → l ≡ label_at a b → Some l ≡ edge g a b
label_read labels words label_at width g a b l is a_in b_in stands l_is =
    let same : length labels ≡ size g = ap size is in
    ap Some l_is ∙ ap (λ (t : Bool). edge_held t (label_at a b)) (sym (sym (edge_mark labels words label_at width g a b is a_in b_in) ∙ stands))
    ∙ sym (edge-held labels words label_at width a b (rw same a_in) (rw same b_in)) ∙ ap (λ (h : Graph). edge h a b) is
