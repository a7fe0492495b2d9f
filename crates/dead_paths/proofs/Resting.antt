-- Needed values, and what one step back from a change leaves of them.
use Rattle.std.proofs.Common.{◌≡◌, ℕ, zero, suc, ◌+◌, ◌*◌, ◌<◌, ◌≤◌, ◌||◌, ◌&&◌, not, nat_lt, is_some, ◌==◌, Bool, true, false, List, [], ◌∷◌, length, take, drop, get_or, slice_index, Option, Some, None, Result, Ok, Err, refl, sym, ap, subst, ◌∙◌, arith, inl, inr, ◌⊎◌}
use Rattle.std.specs.Prelude.{IfOk, slice_get}
use Rattle.std.proofs.lemmas.Bool.{and_parts, and_from, cases_eq, ne_eqb, cases_lt, lt-ltb, le-ltb, ltb-true, true≢false}
use Rattle.std.specs.declared.alloc.AllocError.{AllocError}
use Rattle.graph_theory.specs.Graph.{size, edge}
use Rattle.graph_theory.specs.Reversed.{turned}
use Rattle.graph_theory.specs.declared.direction.Direction.{Direction}
use Rattle.graph_theory.specs.Embedding.{Problem, Compatible}
use Rattle.graph_theory.specs.Blocks.{in_block, has_near, has_block_in, has_block}
use Rattle.graph_theory.specs.declared.embedding.Maps.{Maps}
use Rattle.graph_theory.specs.declared.embedding.Maps.TheVariants.{Injective, Local, Any}
use Rattle.graph_theory.proofs.BlockProofs.{near_in}
use Rattle.search_theory.specs.Consistency.{AreConsistent}
use Rattle.log_theory.specs.Lookups.{is_among}
use Rattle.encoding_theory.specs.Pairs.{is_compatible}
use Rattle.bit_rows.specs.BitRows.{has, words_for}
use Rattle.nogood_book.specs.declared.row.Row.{Row}
use Rattle.nogood_book.specs.Rows.{path_at}
use Rattle.nogood_book.specs.Places.{IsNogoodRow}
use Rattle.recorder.specs.declared.change.Cause.{Cause}
use Rattle.recorder.specs.declared.change.Cause.TheVariants as cause
use Rattle.recorder.specs.declared.change.Side.{Side}
use Rattle.recorder.specs.Telling.{end_beside, is_beside}
use Rattle.recorder.specs.declared.change.What.{What}
use Rattle.recorder.specs.declared.change.What.TheVariants.{One}
use Rattle.recorder.specs.Recording.{Change, LeftOne, LeftOthers, LeftOver, change_by}
use Rattle.needed_values.specs.Needed.{needs, AreRows, StaysNeeded, AreOthers}
use Rattle.needed_values.specs.Consistent.{Goes, Leaves, AllConsistent}
use Rattle.dead_theory.specs.Changes.{MayTake, GoTogether, IsUpheld, AreUpheld}
use Rattle.dead_theory.specs.Walks.{RestsOn, IsWithin}
use Rattle.dead_paths.specs.declared.takes.Choice.{Choice}
use Rattle.dead_paths.specs.declared.takes.Choice.TheVariants as choice
use Rattle.dead_paths.specs.Choosing.{values_of, asked_of, IsStep, IsMade, is_other, AreLeft, AreLeftBut, AreInside}
use Rattle.dead_paths.proofs.Marking.{among_next}

-- ---- needed values

pub neither : (a b : Bool) → (a || b) ≡ false → (a ≡ false) × (b ≡ false)
neither true b h = absurd cc
neither false b h = (refl, h)

-- A value is needed that is if there is one.
pub need_up : (n : ℕ) (m : List Bool) (d : List ℕ) (r u : ℕ) → (u < n → needs n m d r u ≡ true) → values_of n m d r u ≡ true
need_up n m d r u h = by (nat_lt u n) refl
  where
    by : (b : Bool) → nat_lt u n ≡ b → (not b || needs n m d r u) ≡ true
    by true is = h (ltb-true u n is)
    by false is = refl

pub need_of : (n : ℕ) (m : List Bool) (d : List ℕ) (r u : ℕ) → u < n → values_of n m d r u ≡ true → needs n m d r u ≡ true
need_of n m d r u u_in h = sym (ap (λ (b : Bool). not b || needs n m d r u) (lt-ltb u n u_in)) ∙ h

pub rows_again : (n : ℕ) (m m' : List Bool) (d d' : List ℕ) → length m' ≡ length m → length d' ≡ length d → AreRows n m d → AreRows n m' d'
rows_again n m m' d d' ms ds h = record { few = h.few; vertices = omega (arith, h.vertices, ms); long = ds ∙ h.long ∙ ap (λ (k : ℕ). k * words_for n) (sym ms) }

pub within_of : (n k : ℕ) (m m' : List Bool) (d d' : List ℕ) → k ≡ n → StaysNeeded k (needs k m d) (needs k m' d') → IsWithin (values_of n m d) (values_of n m' d')
within_of n k m m' d d' is stays r u was =
    need_up n m' d' r u (λ u_in. subst (λ (w : ℕ). StaysNeeded w (needs w m d) (needs w m' d')) is stays r u u_in (need_of n m d r u u_in was))

pub upheld_of : (n k : ℕ) (m : List Bool) (d : List ℕ) (r t : ℕ) → k ≡ n → ((u : ℕ) → u < k → (u ≡ t → ⊥) → needs k m d r u ≡ true) → (u : ℕ) → (u ≡ t → ⊥) → values_of n m d r u ≡ true
upheld_of n k m d r t is h u other = need_up n m d r u (λ u_in. subst (λ (w : ℕ). (v : ℕ) → v < w → (v ≡ t → ⊥) → needs w m d r v ≡ true) is h u u_in other)

pub all_of : (n k : ℕ) (m : List Bool) (d : List ℕ) (r : ℕ) → k ≡ n → ((u : ℕ) → u < k → needs k m d r u ≡ true) → (u : ℕ) → values_of n m d r u ≡ true
all_of n k m d r is h u = need_up n m d r u (λ u_in. subst (λ (w : ℕ). (v : ℕ) → v < w → needs w m d r v ≡ true) is h u u_in)

-- Of a row of needed values those of the target are the needed ones.
pub kept_needs : (n k r : ℕ) (m : List Bool) (d row other : List ℕ) → k ≡ n → ((u : ℕ) → u < k → has row u ≡ needs k m d r u) → ((u : ℕ) → has other u ≡ (has row u && nat_lt u n)) → (u : ℕ) → u < n → has other u ≡ needs n m d r u
kept_needs n k r m d row other is row_is bits u u_in =
    bits u ∙ ap (λ (b : Bool). has row u && b) (lt-ltb u n u_in) ∙ and_right (has row u) ∙ subst (λ (w : ℕ). (v : ℕ) → v < w → has row v ≡ needs w m d r v) is row_is u u_in
  where
    and_right : (b : Bool) → (b && true) ≡ b
    and_right true = refl
    and_right false = refl

pub kept_below : (n : ℕ) (row other : List ℕ) → ((u : ℕ) → has other u ≡ (has row u && nat_lt u n)) → (u : ℕ) → has other u ≡ true → u < n
kept_below n row other bits u h = ltb-true u n (second (has row u) (nat_lt u n) (sym (bits u) ∙ h))
  where
    second : (a b : Bool) → (a && b) ≡ true → b ≡ true
    second true b e = e
    second false b e = absurd cc

-- A vertex of a needed value has a mark.
pub marked_in : (n : ℕ) (m : List Bool) (d : List ℕ) (r u : ℕ) → needs n m d r u ≡ true → r < length m
marked_in n m d r u h = by (cases_lt r (length m))
  where
    none : (m : List Bool) (r : ℕ) → length m ≤ r → get_or m r false ≡ false
    none [] zero h = refl
    none [] (suc r) h = refl
    none (b ∷ m) zero h = absurd (omega (arith, h))
    none (b ∷ m) (suc r) h = none m r (omega (arith, h))

    by : (r < length m) ⊎ (length m ≤ r) → r < length m
    by (inl inside) = inside
    by (inr past) = absurd (true≢false (sym h ∙ ap (λ (b : Bool). b && has (drop (r * words_for n) d) u) (none m r past)))

-- The values of a row are needed of one more vertex.
pub each_more : (n k : ℕ) (m m1 m2 : List Bool) (d d1 d2 : List ℕ) (vertices set : List ℕ) (i v : ℕ) → k ≡ n → i < length vertices → slice_index vertices i ≡ v
    → ((r u : ℕ) → is_among r (take i vertices) ≡ true → u < n → has set u ≡ true → needs n m1 d1 r u ≡ true) → StaysNeeded n (needs n m d) (needs n m1 d1)
    → ((u : ℕ) → u < k → has set u ≡ true → needs k m2 d2 v u ≡ true) → StaysNeeded k (needs k m1 d1) (needs k m2 d2)
    → ((r u : ℕ) → is_among r (take (i + 1) vertices) ≡ true → u < n → has set u ≡ true → needs n m2 d2 r u ≡ true) × StaysNeeded n (needs n m d) (needs n m2 d2)
each_more n k m m1 m2 d d1 d2 vertices set i v is below v_is each stays more stays2 = (
  (λ r u among u_in h. let e : i + 1 ≡ suc i = omega arith in
      elim (among_next vertices i r below (sym (ap (λ (j : ℕ). is_among r (take j vertices)) e) ∙ among)) [
        | inl a ↦ on r u u_in (each r u a u_in h)
        | inr same ↦ ap (λ (x : ℕ). needs n m2 d2 x u) (sym same ∙ v_is) ∙ subst (λ (w : ℕ). (y : ℕ) → y < w → has set y ≡ true → needs w m2 d2 v y ≡ true) is more u u_in h
      ]),
  (λ r u u_in h. on r u u_in (stays r u u_in h)),
)
  where
    on : StaysNeeded n (needs n m1 d1) (needs n m2 d2)
    on = subst (λ (w : ℕ). StaysNeeded w (needs w m1 d1) (needs w m2 d2)) is stays2

not_true : (b : Bool) → not b ≡ true → b ≡ false
not_true false h = refl
not_true true h = absurd cc

-- ---- steps of a set

-- A row that lost no needed value has them all.
pub row_inside : (n k : ℕ) (m : List Bool) (d : List ℕ) (r : ℕ) (other spare left set : List ℕ) → k ≡ n → ((u : ℕ) → u < k → has other u ≡ needs k m d r u) → spare ≡ other → ((u : ℕ) → has left u ≡ (has spare u && has set u)) → other ≡ left
    → (u : ℕ) → u < n → needs n m d r u ≡ true → has set u ≡ true
row_inside n k m d r other spare left set is bits same cut kept u u_in h =
    let there : has other u ≡ true = subst (λ (w : ℕ). (v : ℕ) → v < w → has other v ≡ needs w m d r v) is bits u u_in ∙ h in
    second (has spare u) (has set u) (sym (cut u) ∙ sym (ap (λ (xs : List ℕ). has xs u) kept) ∙ there)
  where
    second : (a b : Bool) → (a && b) ≡ true → b ≡ true
    second true b e = e
    second false b e = absurd cc

pub none_inside : (n k : ℕ) (m : List Bool) (d : List ℕ) (r : ℕ) (set : List ℕ) → k ≡ n → ((u : ℕ) → u < k → needs k m d r u ≡ false) → (u : ℕ) → u < n → needs n m d r u ≡ true → has set u ≡ true
none_inside n k m d r set is none u u_in h = absurd (true≢false (sym h ∙ subst (λ (w : ℕ). (v : ℕ) → v < w → needs w m d r v ≡ false) is none u u_in))

pub row_left : (n k : ℕ) (m m1 : List Bool) (d d1 : List ℕ) (r : ℕ) (other spare left set : List ℕ) → k ≡ n → ((u : ℕ) → u < k → has other u ≡ needs k m d r u) → spare ≡ other → ((u : ℕ) → has left u ≡ (has spare u && has set u))
    → ((u : ℕ) → u < k → needs k m1 d1 r u ≡ has left u) → AreOthers k r (needs k m d) (needs k m1 d1)
    → (s u : ℕ) → u < n → needs n m d s u ≡ true → (needs n m1 d1 s u ≡ true) ⊎ ((s ≡ r) × (has set u ≡ false))
row_left n k m m1 d d1 r other spare left set is bits same cut put others s u u_in h = by (cases_eq s r)
  where
    by : (s ≡ r) ⊎ (s ≡ r → ⊥) → (needs n m1 d1 s u ≡ true) ⊎ ((s ≡ r) × (has set u ≡ false))
    by (inr apart) = inl (subst (λ (w : ℕ). AreOthers w r (needs w m d) (needs w m1 d1)) is others s u apart u_in ∙ h)
    by (inl e) = on (has set u) refl
      where
        there : has spare u ≡ true
        there = ap (λ (xs : List ℕ). has xs u) same ∙ subst (λ (w : ℕ). (v : ℕ) → v < w → has other v ≡ needs w m d r v) is bits u u_in ∙ sym (ap (λ (x : ℕ). needs n m d x u) e) ∙ h

        on : (b : Bool) → has set u ≡ b → (needs n m1 d1 s u ≡ true) ⊎ ((s ≡ r) × (has set u ≡ false))
        on true in_set =
            inl (ap (λ (x : ℕ). needs n m1 d1 x u) e ∙ subst (λ (w : ℕ). (v : ℕ) → v < w → needs w m1 d1 r v ≡ has left v) is put u u_in ∙ cut u ∙ ap (λ (b : Bool). b && has set u) there ∙ in_set)
        on false out = inr (e, out)

-- The same for one vertex more, of those that are none of the set.
pub others_inside : (n : ℕ) (m m1 : List Bool) (d d1 : List ℕ) (test : ℕ → Bool) (set : List ℕ) (k : ℕ) → ((r u : ℕ) → r < k → test r ≡ true → u < n → needs n m d r u ≡ true → has set u ≡ true)
    → StaysNeeded n (needs n m d) (needs n m1 d1) → (test k ≡ true → (u : ℕ) → u < n → needs n m1 d1 k u ≡ true → has set u ≡ true)
    → (r u : ℕ) → r < k + 1 → test r ≡ true → u < n → needs n m d r u ≡ true → has set u ≡ true
others_inside n m m1 d d1 test set k before stays here r u below off u_in h = elim (cases_lt r k) [
  | inl less ↦ before r u less off u_in h
  | inr more ↦ (let same : r ≡ k = omega (arith, more, below) in
      here (subst (λ (x : ℕ). test x ≡ true) same off) u u_in (stays k u u_in (subst (λ (x : ℕ). needs n m d x u ≡ true) same h)))
]

pub left_then : (n : ℕ) (test : ℕ → Bool) (set : List ℕ) (f g h : ℕ → ℕ → Bool) → AreLeft n test set f g → AreLeft n test set g h → AreLeft n test set f h
left_then n test set f g h first second r u u_in is = elim (first r u u_in is) [ inl now ↦ second r u u_in now | inr out ↦ inr out ]

pub all_inside : (n : ℕ) (m : List Bool) (d : List ℕ) (test : ℕ → Bool) (set : List ℕ) (k : ℕ) → length m ≤ k → ((r u : ℕ) → r < k → test r ≡ true → u < n → needs n m d r u ≡ true → has set u ≡ true)
    → AreInside n test set (needs n m d)
all_inside n m d test set k past before r u off u_in h = before r u (omega (arith, past, marked_in n m d r u h)) off u_in h

-- ---- blocks and sides

-- A centre is a vertex.
pub centre_below : (q : Problem) (c : ℕ) → has_block q (Some c) ≡ true → c < size q.pattern
centre_below q c there = near_in q.pattern c (by q.maps there)
  where
    by : (k : Maps) → has_block_in k q.pattern (Some c) ≡ true → has_near q.pattern c ≡ true
    by Injective h = absurd cc
    by Local h = h
    by Any h = absurd cc

-- What is past u stays where what is not is taken out of all.
pub past_kept : (all low left : List ℕ) (u n k w : ℕ) → k ≡ n → ((v : ℕ) → has all v ≡ nat_lt v k) → ((v : ℕ) → has low v ≡ nat_lt v (u + 1)) → ((v : ℕ) → has left v ≡ (has all v && not (has low v)))
    → w < n → nat_lt u w ≡ true → has left w ≡ true
past_kept all low left u n k w is whole below cut w_in past =
    let more : u < w = ltb-true u w past in
    cut w ∙ and_from (has all w) (not (has low w)) (whole w ∙ ap (λ (j : ℕ). nat_lt w j) is ∙ lt-ltb w n w_in)
    (ap not (below w ∙ le-ltb w (u + 1) (omega (arith, more))))

-- ---- one value

-- The rest of what was needed where a vertex lost one value.
pub value_left : (n k : ℕ) (m m1 : List Bool) (d d1 : List ℕ) (r u : ℕ) (other left : List ℕ) → k ≡ n → ((v : ℕ) → v < k → has other v ≡ needs k m d r v) → ((v : ℕ) → has left v ≡ (has other v && not (u == v)))
    → ((v : ℕ) → v < k → needs k m1 d1 r v ≡ has left v) → AreOthers k r (needs k m d) (needs k m1 d1) → AreLeftBut n r u (needs n m d) (needs n m1 d1)
value_left n k m m1 d d1 r u other left is bits cut put others s v v_in h = by (cases_eq s r) (cases_eq v u)
  where
    by : (s ≡ r) ⊎ (s ≡ r → ⊥) → (v ≡ u) ⊎ (v ≡ u → ⊥) → (needs n m1 d1 s v ≡ true) ⊎ ((s ≡ r) × (v ≡ u))
    by (inr apart) f = inl (subst (λ (w : ℕ). AreOthers w r (needs w m d) (needs w m1 d1)) is others s v apart v_in ∙ h)
    by (inl e) (inl f) = inr (e, f)
    by (inl e) (inr f) = inl (ap (λ (x : ℕ). needs n m1 d1 x v) e ∙ (subst (λ (w : ℕ). (x : ℕ) → x < w → needs w m1 d1 r x ≡ has left x) is put v v_in ∙ kept))
      where
        there : has other v ≡ true
        there = subst (λ (w : ℕ). (x : ℕ) → x < w → has other x ≡ needs w m d r x) is bits v v_in ∙ (sym (ap (λ (x : ℕ). needs n m d x v) e) ∙ h)

        kept : has left v ≡ true
        kept = cut v ∙ (ap (λ (b : Bool). b && not (u == v)) there ∙ ap not (ne_eqb u v (λ same. f (sym same))))

-- A value that two rows have is in what they have both, another one aside.
pub beside_left : (first row both last : List ℕ) (t u : ℕ) → ((v : ℕ) → has both v ≡ (has first v && has row v)) → ((v : ℕ) → has last v ≡ (has both v && not (t == v))) → has first u ≡ true → has row u ≡ true → (t ≡ u → ⊥)
    → has last u ≡ true
beside_left first row both last t u cut out here there other =
    out u ∙ (ap (λ (b : Bool). b && not (t == u)) (cut u ∙ (ap (λ (b : Bool). b && has row u) here ∙ there)) ∙ ap not (ne_eqb t u other))

-- ---- steps back

module _ (q : Problem) (rows : List Row) (path : List (ℕ × ℕ)) where
  pub within_same : (f : ℕ → ℕ → Bool) → IsWithin f f
  within_same f r u h = h

  -- Of a vertex of which nothing is needed nothing is taken.
  pub pass_one : (n k : ℕ) (m : List Bool) (d : List ℕ) (r : ℕ) (why : Cause) (from : ℕ) → n ≡ size q.target → k ≡ n → ((u : ℕ) → u < k → needs k m d r u ≡ false)
      → IsStep false q rows path (LeftOne r why from) (values_of n m d) (values_of n m d)
  pass_one n k m d r why from n_is is none = (
    (λ v u u_in h takes. let u_n = subst (λ (w : ℕ). u < w) (sym n_is) u_in in
        true≢false (sym (need_of n m d v u u_n h) ∙ ap (λ (p : ℕ). needs n m d p u) takes.0 ∙ subst (λ (w : ℕ). (v : ℕ) → v < w → needs w m d r v ≡ false) is none u u_n)),
    within_same (values_of n m d),
  )

  pub step_first : (n k : ℕ) (m : List Bool) (d : List ℕ) (b : Bool) (numbers : List ℕ) (what : What) (r : ℕ) (why : Cause) (from : ℕ) → n ≡ size q.target → k ≡ n → what ≡ One r why → why ≡ cause.First
      → (b ≡ false → (u : ℕ) → u < k → needs k m d r u ≡ false) → IsStep b q rows path (change_by numbers what from) (values_of n m d) (values_of n m d)
  step_first n k m d b numbers what r why from n_is is w_is by_first none =
      let at : what ≡ One r cause.First = w_is ∙ ap (λ (c : Cause). let x : What = One r c in x) by_first in
      subst (λ (x : What). IsStep b q rows path (change_by numbers x from) (values_of n m d) (values_of n m d)) (sym at) (by b none)
    where
      by : (b : Bool) → (b ≡ false → (u : ℕ) → u < k → needs k m d r u ≡ false) → IsStep b q rows path (LeftOne r cause.First from) (values_of n m d) (values_of n m d)
      by true none = (record { suffices = λ v u u_in h same. tt; carried = λ v u h. inl h; needs = tt }, tt)
      by false none = pass_one n k m d r cause.First from n_is is (none refl)

  pub step_guess : (n k : ℕ) (m m' : List Bool) (d : List ℕ) (r t from : ℕ) → k ≡ n → AreOthers k r (needs k m d) (needs k m' d)
      → IsStep true q rows path (LeftOne r (cause.Guess t) from) (values_of n m d) (values_of n m' d)
  step_guess n k m m' d r t from is others = (record { suffices = λ v u u_in h same. tt; carried = carried; needs = tt }, tt)
    where
      carried : (s u : ℕ) → values_of n m d s u ≡ true → (values_of n m' d s u ≡ true) ⊎ ((s ≡ r) × Unit {0})
      carried s u h = elim (cases_eq s r) [
        | inl e ↦ inr (e, tt)
        | inr other ↦ inl (need_up n m' d s u (λ u_in. subst (λ (w : ℕ). AreOthers w r (needs w m d) (needs w m' d)) is others s u other u_in ∙ need_of n m d s u u_in h))
      ]

  -- The rows before and after a vertex has taken what it does from r, and then what it needs itself.
  pub pass_vertex : (n : ℕ) (m : List Bool) (d : List ℕ) (p t r from : ℕ) (other left : List ℕ) → n ≡ size q.target → ((u : ℕ) → u < n → has other u ≡ needs n m d r u)
      → AllConsistent true q p t r left → ((u : ℕ) → has other u ≡ true → has left u ≡ true) → IsStep false q rows path (LeftOne r (cause.Vertex p t) from) (values_of n m d) (values_of n m d)
  pass_vertex n m d p t r from other left n_is bits all same = (
    (λ v u u_in h takes. let u_n = subst (λ (w : ℕ). u < w) (sym n_is) u_in in
        let here : needs n m d r u ≡ true = sym (ap (λ (x : ℕ). needs n m d x u) takes.0) ∙ need_of n m d v u u_n h in
        takes.1 (subst (λ (x : ℕ). AreConsistent q p t x u) (sym takes.0) (all u (same u (bits u u_n ∙ here))))),
    within_same (values_of n m d),
  )

  -- Which values it takes, by what is asked of it.
  pub step_vertex : (by_edges : Bool) (n k : ℕ) (m m1 m2 : List Bool) (d d1 d2 : List ℕ) (p t r from : ℕ) (other left : List ℕ) → k ≡ n → ((u : ℕ) → u < k → has other u ≡ needs k m d r u)
      → ((u : ℕ) → u < size q.target → needs n m d r u ≡ true → GoTogether by_edges q p t r u → AreConsistent q p t r u) → ((u : ℕ) → has other u ≡ true → has left u ≡ false → GoTogether by_edges q p t r u → ⊥)
      → ((u : ℕ) → u < k → needs k m1 d1 r u ≡ has left u) → AreOthers k r (needs k m d) (needs k m1 d1) → IsWithin (values_of n m1 d1) (values_of n m2 d2) → IsUpheld path None (values_of n m2 d2) (p, t) → n ≡ size q.target
      → RestsOn q rows path (asked_of by_edges (LeftOne r (cause.Vertex p t) from)) (values_of n m d) (values_of n m2 d2) × Unit {0}
  step_vertex by_edges n k m m1 m2 d d1 d2 p t r from other left is bits enough right put others more upheld n_is = (record { suffices = suffices; carried = carried; needs = upheld }, tt)
    where
      suffices : (s u : ℕ) → u < size q.target → values_of n m d s u ≡ true → s ≡ r → GoTogether by_edges q p t s u → AreConsistent q p t s u
      suffices s u u_in h same =
          subst (λ (x : ℕ). GoTogether by_edges q p t x u → AreConsistent q p t x u) (sym same)
          (enough u u_in (sym (ap (λ (x : ℕ). needs n m d x u) same) ∙ need_of n m d s u (subst (λ (w : ℕ). u < w) (sym n_is) u_in) h))

      carried : (s u : ℕ) → values_of n m d s u ≡ true → (values_of n m2 d2 s u ≡ true) ⊎ ((s ≡ r) × (GoTogether by_edges q p t s u → ⊥))
      carried s u h = by (cases_lt u n) (cases_eq s r)
        where
          first : (w : ℕ) → u < w → k ≡ w → has other u ≡ needs w m d r u
          first w u_in k_is = subst (λ (x : ℕ). (v : ℕ) → v < x → has other v ≡ needs x m d r v) k_is bits u u_in

          second : (w : ℕ) → u < w → k ≡ w → needs w m1 d1 r u ≡ has left u
          second w u_in k_is = subst (λ (x : ℕ). (v : ℕ) → v < x → needs x m1 d1 r v ≡ has left v) k_is put u u_in

          by : (u < n) ⊎ (n ≤ u) → (s ≡ r) ⊎ (s ≡ r → ⊥) → (values_of n m2 d2 s u ≡ true) ⊎ ((s ≡ r) × (GoTogether by_edges q p t s u → ⊥))
          by (inr past) e = inl (need_up n m2 d2 s u (λ u_in. absurd (omega (arith, past, u_in))))
          by (inl u_in) (inr apart) =
              inl (more s u (need_up n m1 d1 s u (λ v_in. subst (λ (w : ℕ). AreOthers w r (needs w m d) (needs w m1 d1)) is others s u apart u_in ∙ need_of n m d s u u_in h)))
          by (inl u_in) (inl e) = on (has left u) refl
            where
              there : has other u ≡ true
              there = first n u_in is ∙ sym (ap (λ (x : ℕ). needs n m d x u) e) ∙ need_of n m d s u u_in h

              on : (b : Bool) → has left u ≡ b → (values_of n m2 d2 s u ≡ true) ⊎ ((s ≡ r) × (GoTogether by_edges q p t s u → ⊥))
              on true stays = inl (more s u (need_up n m1 d1 s u (λ v_in. ap (λ (x : ℕ). needs n m1 d1 x u) e ∙ second n u_in is ∙ stays)))
              on false gone = inr (e, λ c. right u there gone (subst (λ (x : ℕ). GoTogether by_edges q p t x u) e c))

  -- All that is consistent is asked.
  pub step_all : (n k : ℕ) (m m1 m2 : List Bool) (d d1 d2 : List ℕ) (p t r from : ℕ) (other spare near left : List ℕ) → k ≡ n → ((u : ℕ) → u < k → has other u ≡ needs k m d r u) → spare ≡ other → Goes q p t r spare near → Leaves q p t r near left
      → ((u : ℕ) → u < k → needs k m1 d1 r u ≡ has left u) → AreOthers k r (needs k m d) (needs k m1 d1) → IsWithin (values_of n m1 d1) (values_of n m2 d2) → IsUpheld path None (values_of n m2 d2) (p, t) → n ≡ size q.target
      → IsMade choice.AsTold q rows path (LeftOne r (cause.Vertex p t) from) (values_of n m d) (values_of n m2 d2)
  step_all n k m m1 m2 d d1 d2 p t r from other spare near left is bits same goes leaves put others more upheld n_is =
      step_vertex false n k m m1 m2 d d1 d2 p t r from other left is bits (λ u u_in h c. c) right put others more upheld n_is
    where
      right : (u : ℕ) → has other u ≡ true → has left u ≡ false → AreConsistent q p t r u → ⊥
      right u was gone c = by (has near u) refl
        where
          by : (b : Bool) → has near u ≡ b → ⊥
          by true there = leaves.right u there gone c
          by false out = goes.right u (ap (λ (xs : List ℕ). has xs u) same ∙ was) out c.pair

  -- What edges leave of the needed values is consistent, so they alone are asked.
  pub step_edges : (n k : ℕ) (m m1 m2 : List Bool) (d d1 d2 : List ℕ) (p t r from : ℕ) (other spare near : List ℕ) → k ≡ n → ((u : ℕ) → u < k → has other u ≡ needs k m d r u) → spare ≡ other → Goes q p t r spare near
      → AllConsistent true q p t r near → ((u : ℕ) → u < k → needs k m1 d1 r u ≡ has near u) → AreOthers k r (needs k m d) (needs k m1 d1) → IsWithin (values_of n m1 d1) (values_of n m2 d2) → IsUpheld path None (values_of n m2 d2) (p, t)
      → n ≡ size q.target → IsMade choice.ByEdges q rows path (LeftOne r (cause.Vertex p t) from) (values_of n m d) (values_of n m2 d2)
  step_edges n k m m1 m2 d d1 d2 p t r from other spare near is bits same goes all put others more upheld n_is =
      step_vertex true n k m m1 m2 d d1 d2 p t r from other near is bits enough right put others more upheld n_is
    where
      right : (u : ℕ) → has other u ≡ true → has near u ≡ false → Compatible q p t r u → ⊥
      right u was gone c = goes.right u (ap (λ (xs : List ℕ). has xs u) same ∙ was) gone c

      enough : (u : ℕ) → u < size q.target → needs n m d r u ≡ true → Compatible q p t r u → AreConsistent q p t r u
      enough u u_in h c = by (has near u) refl
        where
          was : has other u ≡ true
          was = subst (λ (w : ℕ). (v : ℕ) → v < w → has other v ≡ needs w m d r v) is bits u (subst (λ (w : ℕ). u < w) (sym n_is) u_in) ∙ h

          by : (b : Bool) → has near u ≡ b → AreConsistent q p t r u
          by true there = all u there
          by false gone = absurd (right u was gone c)

  -- A change that takes one value, which is not needed.
  pub pass_value : (c : Change) (n : ℕ) (m m' : List Bool) (d d' : List ℕ) (r u : ℕ) → n ≡ size q.target → ((v t : ℕ) → MayTake q rows c v t → (v ≡ r) × (t ≡ u)) → needs n m d r u ≡ false
      → StaysNeeded n (needs n m d) (needs n m' d') → IsStep false q rows path c (values_of n m d) (values_of n m' d')
  pass_value c n m m' d d' r u n_is taken off stays = (
    (λ v t t_in h takes. let same = taken v t takes in
        let here : needs n m d r t ≡ true = sym (ap (λ (x : ℕ). needs n m d x t) same.0) ∙ need_of n m d v t (subst (λ (w : ℕ). t < w) (sym n_is) t_in) h in
        true≢false (sym here ∙ ap (λ (x : ℕ). needs n m d r x) same.1 ∙ off)),
    within_of n n m m' d d' refl stays,
  )

  -- One whose value is needed leaves all others needed.
  but_one : (n : ℕ) (m m1 m2 : List Bool) (d d1 d2 : List ℕ) (r u : ℕ) → AreLeftBut n r u (needs n m d) (needs n m1 d1) → StaysNeeded n (needs n m1 d1) (needs n m2 d2)
      → (s v : ℕ) → values_of n m d s v ≡ true → (values_of n m2 d2 s v ≡ true) ⊎ ((s ≡ r) × (v ≡ u))
  but_one n m m1 m2 d d1 d2 r u left stays s v h = elim (cases_lt v n) [
    | inr past ↦ inl (need_up n m2 d2 s v (λ v_in. absurd (omega (arith, past, v_in))))
    | inl v_in ↦ elim (left s v v_in (need_of n m d s v v_in h)) [ inl now ↦ inl (need_up n m2 d2 s v (λ v_n. stays s v v_in now)) | inr taken ↦ inr taken ]
  ]

  -- An edge's value, and a crowd's.
  pub step_edge : (n k : ℕ) (m m1 m2 : List Bool) (d d1 d2 : List ℕ) (p u r from : ℕ) (direction : Direction) (set : List ℕ) → n ≡ size q.target → k ≡ n → AreLeftBut n r u (needs n m d) (needs n m1 d1)
      → StaysNeeded k (needs k m1 d1) (needs k m2 d2) → ((w : ℕ) → w < size q.target → is_compatible q r u p w ≡ true → has set w ≡ true) → ((w : ℕ) → w < k → has set w ≡ true → needs k m2 d2 p w ≡ true)
      → IsStep true q rows path (LeftOne r (cause.Edge p u direction) from) (values_of n m d) (values_of n m2 d2)
  step_edge n k m m1 m2 d d1 d2 p u r from direction set n_is is left stays fills support = (
    record {
      suffices = λ v t t_in h same. tt;
      carried = but_one n m m1 m2 d d1 d2 r u left (subst (λ (x : ℕ). StaysNeeded x (needs x m1 d1) (needs x m2 d2)) is stays);
      needs = λ w w_in fits. need_up n m2 d2 p w (λ w_n. subst (λ (x : ℕ). (v : ℕ) → v < x → has set v ≡ true → needs x m2 d2 p v ≡ true) is support w w_n (fills w w_in fits));
    },
    tt,
  )

  -- A pair's that is to be in order.
  pub step_order : (n k : ℕ) (m m1 m2 : List Bool) (d d1 d2 : List ℕ) (i u r from beside : ℕ) (side : Side) (set : List ℕ) → n ≡ size q.target → k ≡ n → AreLeftBut n r u (needs n m d) (needs n m1 d1)
      → StaysNeeded k (needs k m1 d1) (needs k m2 d2) → ((x : ℕ × ℕ) → slice_get q.less i ≡ Some x → beside ≡ end_beside side x) → ((w : ℕ) → w < size q.target → is_beside side u w ≡ true → has set w ≡ true)
      → ((w : ℕ) → w < k → has set w ≡ true → needs k m2 d2 beside w ≡ true) → IsStep true q rows path (LeftOne r (cause.Order i u side) from) (values_of n m d) (values_of n m2 d2)
  step_order n k m m1 m2 d d1 d2 i u r from beside side set n_is is left stays beside_is fills needed = (
    record {
      suffices = λ v t t_in h same. tt;
      carried = but_one n m m1 m2 d d1 d2 r u left (subst (λ (x : ℕ). StaysNeeded x (needs x m1 d1) (needs x m2 d2)) is stays);
      needs = λ x x_is w w_in on_side. need_up n m2 d2 (end_beside side x) w
          (λ w_n. subst (λ (p : ℕ). needs n m2 d2 p w ≡ true) (beside_is x x_is)
          (subst (λ (y : ℕ). (v : ℕ) → v < y → has set v ≡ true → needs y m2 d2 beside v ≡ true) is needed w w_n (fills w w_in on_side)));
    },
    tt,
  )

  pub step_crowd : (n : ℕ) (m m1 m2 : List Bool) (d d1 d2 : List ℕ) (p t from : ℕ) (direction : Direction) (vertices values set : List ℕ) → n ≡ size q.target → AreLeftBut n p t (needs n m d) (needs n m1 d1)
      → StaysNeeded n (needs n m1 d1) (needs n m2 d2)
      → ((u : ℕ) → u < size q.target → (t ≡ u → ⊥) → is_some (edge (turned direction q.target) t u) ≡ true → is_among u values ≡ false → has set u ≡ true)
      → ((r u : ℕ) → is_among r vertices ≡ true → u < n → has set u ≡ true → needs n m2 d2 r u ≡ true)
      → IsStep true q rows path (LeftOver p t direction vertices values from) (values_of n m d) (values_of n m2 d2)
  step_crowd n m m1 m2 d d1 d2 p t from direction vertices values set n_is left stays beside each = (
    record {
      suffices = λ r u u_in h. tt;
      carried = but_one n m m1 m2 d d1 d2 p t left stays;
      needs = λ r u among u_in other leads off. need_up n m2 d2 r u (λ u_n. each r u among u_n (beside u u_in other leads off));
    },
    tt,
  )

  pub pass_nogood : (f : ℕ → ℕ → Bool) (r name from : ℕ) → (IsNogoodRow rows name → ⊥) → IsStep false q rows path (LeftOne r (cause.Nogood name) from) f f
  pass_nogood f r name from none = ((λ v u u_in h takes. none takes.1.0), within_same f)

  pub step_nogood : (f g : ℕ → ℕ → Bool) (r name from : ℕ) → IsNogoodRow rows name → IsWithin f g → AreUpheld path (Some r) g (path_at rows name) → IsStep true q rows path (LeftOne r (cause.Nogood name) from) f g
  step_nogood f g r name from is more upheld = (record { suffices = λ v u u_in h same. tt; carried = λ v u h. inl (more v u h); needs = upheld }, is)

  -- A set whose values no other vertex needs.
  pub pass_set : (n : ℕ) (m m' : List Bool) (d d' : List ℕ) (centre : Option ℕ) (vertices values set : List ℕ) (from : ℕ) → n ≡ size q.target → ((u : ℕ) → is_among u values ≡ true → has set u ≡ false)
      → AreInside n (is_other q centre vertices) set (needs n m d) → StaysNeeded n (needs n m d) (needs n m' d') → IsStep false q rows path (LeftOthers centre vertices values from) (values_of n m d) (values_of n m' d')
  pass_set n m m' d d' centre vertices values set from n_is out inside stays = (
    (λ v u u_in h takes. let u_n = subst (λ (w : ℕ). u < w) (sym n_is) u_in in
        true≢false (sym (inside v u (and_from (in_block q centre v) (not (is_among v vertices)) takes.0 (ap not takes.1)) u_n (need_of n m d v u u_n h)) ∙ out u takes.2)),
    within_of n n m m' d d' refl stays,
  )

  pub step_set : (n : ℕ) (m m1 m2 : List Bool) (d d1 d2 : List ℕ) (centre : Option ℕ) (vertices values set : List ℕ) (from : ℕ) → length m ≡ size q.pattern → ((u : ℕ) → u < n → is_among u values ≡ false → has set u ≡ true)
      → AreLeft n (is_other q centre vertices) set (needs n m d) (needs n m1 d1) → StaysNeeded n (needs n m1 d1) (needs n m2 d2) → ((r u : ℕ) → is_among r vertices ≡ true → u < n → has set u ≡ true → needs n m2 d2 r u ≡ true)
      → IsStep true q rows path (LeftOthers centre vertices values from) (values_of n m d) (values_of n m2 d2)
  step_set n m m1 m2 d d1 d2 centre vertices values set from long rest left stays each = (
    record {
      suffices = λ r u u_in h. tt;
      carried = λ r u h. carried r u h (cases_lt u n);
      needs = λ r u among off. need_up n m2 d2 r u (λ u_in. each r u among u_in (rest u u_in off));
    },
    tt,
  )
    where
      carried : (r u : ℕ) → values_of n m d r u ≡ true → (u < n) ⊎ (n ≤ u) → (values_of n m2 d2 r u ≡ true) ⊎ ((r < size q.pattern) × (in_block q centre r ≡ true) × (is_among r vertices ≡ false) × (is_among u values ≡ true))
      carried r u h (inr past) = inl (need_up n m2 d2 r u (λ u_in. absurd (omega (arith, past, u_in))))
      carried r u h (inl u_in) = by (left r u u_in (need_of n m d r u u_in h))
        where
          by : (needs n m1 d1 r u ≡ true) ⊎ ((is_other q centre vertices r ≡ true) × (has set u ≡ false)) → (values_of n m2 d2 r u ≡ true) ⊎ ((r < size q.pattern) × (in_block q centre r ≡ true) × (is_among r vertices ≡ false) × (is_among u values ≡ true))
          by (inl is) = inl (need_up n m2 d2 r u (λ v_in. stays r u u_in is))
          by (inr out) = on (is_among u values) refl
            where
              on : (b : Bool) → is_among u values ≡ b → (values_of n m2 d2 r u ≡ true) ⊎ ((r < size q.pattern) × (in_block q centre r ≡ true) × (is_among r vertices ≡ false) × (is_among u values ≡ true))
              on true is = inr (subst (λ (w : ℕ). r < w) long (marked_in n m d r u (need_of n m d r u u_in h)), (and_parts (in_block q centre r) (not (is_among r vertices)) out.0).0, not_true (is_among r vertices) (and_parts (in_block q centre r) (not (is_among r vertices)) out.0).1, is)
              on false is = absurd (true≢false (sym (rest u u_in is) ∙ out.1))

-- What is chosen as it was told, if it is.
pub told_made : (q : Problem) (rows : List Row) (path : List (ℕ × ℕ)) (c : Change) (f g : ℕ → ℕ → Bool) (b : Bool) (made : Choice) → (b ≡ true → made ≡ choice.AsTold) → (b ≡ false → made ≡ choice.Passed) → IsStep b q rows path c f g → IsMade made q rows path c f g
told_made q rows path c f g b made chosen passed step = by b refl
  where
    by : (e : Bool) → b ≡ e → IsMade made q rows path c f g
    by true is = subst (λ (m : Choice). IsMade m q rows path c f g) (sym (chosen is)) (subst (λ (x : Bool). IsStep x q rows path c f g) is step)
    by false is = subst (λ (m : Choice). IsMade m q rows path c f g) (sym (passed is)) (subst (λ (x : Bool). IsStep x q rows path c f g) is step)

-- The same for a change by its kind.
module _ (q : Problem) (rows : List Row) (path : List (ℕ × ℕ)) (numbers : List ℕ) (what : What) (from : ℕ) (f g : ℕ → ℕ → Bool) where
  pub step_one : (b : Bool) (r : ℕ) (why last : Cause) → what ≡ One r why → why ≡ last → IsStep b q rows path (LeftOne r last from) f g → IsStep b q rows path (change_by numbers what from) f g
  step_one b r why last is by_last step =
      subst (λ (x : What). IsStep b q rows path (change_by numbers x from) f g) (sym (is ∙ ap (λ (c : Cause). let x : What = One r c in x) by_last)) step

  pub made_one_ok : (result : Result Choice AllocError) (r : ℕ) (why last : Cause) → what ≡ One r why → why ≡ last → IfOk result (λ b. IsMade b q rows path (LeftOne r last from) f g)
      → IfOk result (λ b. IsMade b q rows path (change_by numbers what from) f g)
  made_one_ok (Ok b) r why last is by_last step =
      subst (λ (x : What). IsMade b q rows path (change_by numbers x from) f g) (sym (is ∙ ap (λ (c : Cause). let x : What = One r c in x) by_last)) step
  made_one_ok (Err e) r why last is by_last step = tt
