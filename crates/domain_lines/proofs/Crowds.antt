-- The lines of a crowd: which they are, that they can be named, and which pairs are to be refused besides.
use Rattle.std.proofs.Common.{◌≡◌, ℕ, zero, suc, ◌+◌, ◌-◌, ◌^◌, ◌<◌, ◌≤◌, ◌==◌, nat_lt, Bool, true, false, ◌&&◌, ◌||◌, not, is_some, if◌then◌else◌, List, [], ◌∷◌, ◌++◌, length, map, take, slice_get, slice_index, Option, refl, sym, ap, subst, ◌∙◌, arith, Some, Result, Ok, Err, inl, inr, ◌⊎◌}
use Rattle.std.specs.Prelude.{IfOk}
use Rattle.std.specs.declared.alloc.AllocError.{AllocError}
use Rattle.std.proofs.lemmas.Bool.{and_parts, and_from, cases_lt, lt-ltb, ltb-true, eq-eqb, eqb-true, or_cases}
use Rattle.std.proofs.lemmas.Option.{slice_get_within}
use Rattle.graph_theory.specs.Graph.{Graph, size, edge}
use Rattle.graph_theory.specs.Embedding.{Problem, is_injective}
use Rattle.graph_theory.specs.Blocks.{has_block_in, has_block}
use Rattle.graph_theory.specs.Asked.{asked_degree_in, asked_degree, room_in, room, asked_sequence_in, asked_sequence}
use Rattle.graph_theory.specs.declared.embedding.Maps.{Maps}
use Rattle.graph_theory.specs.declared.embedding.Maps.TheVariants.{Injective, Local, Any}
use Rattle.graph_theory.proofs.NeighbourCounts.{nothing_kept}
use Rattle.graph_rows.specs.Orders.{IsOrder}
use Rattle.graph_theory.specs.Neighbours.{count, is_neighbour, degree, sequence, fails_at, IsKeptBy}
use Rattle.proof_theory.specs.Forms.{Form}
use Rattle.log_theory.specs.declared.step.Ref.{Ref}
use Rattle.log_theory.specs.declared.step.Ref.TheVariants.{Line}
use Rattle.log_theory.specs.LogText.{AreRefs}
use Rattle.log_theory.specs.Lookups.{is_among}
use Rattle.encoding_theory.specs.Pairs.{is_edge_pair}
use Rattle.encoding_theory.specs.Encoding.{encoding, at_most_in, pair_form}
use Rattle.encoding_theory.specs.Places.{edge_place, at_most_place_in}
use Rattle.encoding_theory.proofs.PlaceProofs.{place_laws}
use Rattle.pb_encoding.proofs.LineNumbers.{encoding_few}
use Rattle.log_growth.specs.Frames.{Frame, IsNamed, AreNamed, IsAddable}
use Rattle.log_growth.proofs.Naming.{named_behind}
use Rattle.domain_line_theory.specs.Crowds.{IsOneOf, is_high, high_neighbours, high_count, is_place, is_high_place, high_places, place_count, crowd_block_in, crowd_block, HasAllLower, beside_forms, crowd_forms}
use Rattle.domain_line_theory.proofs.Crowding.{crowd_small}
use Rattle.domain_line_theory.proofs.HighNeighbours.{member_passes, passing_listed, members_count}
use Rattle.domain_lines.specs.Choosing.{is_chosen, chosen}
use Rattle.domain_lines.specs.Operands.{beside_refs, value_refs, crowd_refs, AreBeside, AreValues, HasBlockFor}
use Rattle.domain_lines.specs.Given.{IsFrameFor, pairs_with, all_pairs, AreAllLower, IsCrowd, IsSet}

-- ---- ranges

-- A place of the encoding is small.
pub place_small : (q : Problem) (k : ℕ) (f : Form) → size q.pattern ≤ 1024 → size q.target ≤ 8192 → IsOrder (size q.pattern) q.less → slice_get (encoding q) k ≡ Some f → k < 2 ^ 40
place_small q k f ps ts order at =
    let inside : k < length (encoding q) = slice_get_within (encoding q) k f at in
    let most = encoding_few q ps ts order in
    omega (arith, inside, most)

pub line_fits : (q : Problem) (line : ℕ) (f : Form) → size q.pattern ≤ 1024 → size q.target ≤ 8192 → IsOrder (size q.pattern) q.less → slice_get (encoding q) (line - 1) ≡ Some f → line < 2 ^ 63
line_fits q line f ps ts order at = let s = place_small q (line - 1) f ps ts order at in omega (arith, s)

-- ---- what is chosen

or_right : (b c : Bool) → c ≡ true → (b || c) ≡ true
or_right true c e = refl
or_right false c e = e

or_left : (b c : Bool) → b ≡ true → (b || c) ≡ true
or_left true c e = refl
or_left false c e = absurd cc

index_among : (xs : List ℕ) (i : ℕ) → i < length xs → is_among (slice_index xs i) xs ≡ true
index_among [] i i_in = absurd (omega (arith, i_in))
index_among (x ∷ xs) zero i_in = or_left (x == x) (is_among x xs) (eq-eqb x x refl)
index_among (x ∷ xs) (suc i) i_in = or_right (x == slice_index xs i) (is_among (slice_index xs i) xs) (index_among xs i (omega (arith, i_in)))

chosen_at : (apart : Bool) (g : Graph) (a d : ℕ) (low : Bool) (xs : List ℕ) (i : ℕ) → xs ≡ chosen apart g a d low → i < length xs → (slice_index xs i < size g) × (is_chosen apart g a d low (slice_index xs i) ≡ true)
chosen_at apart g a d low xs i is i_in = member_passes (is_chosen apart g a d low) (size g) (slice_index xs i) (subst (λ (ys : List ℕ). is_among (slice_index xs i) ys ≡ true) is (index_among xs i i_in))

edge_pair : (q : Problem) (p r : ℕ) → is_neighbour q.pattern p r ≡ true → is_edge_pair q p r ≡ true
edge_pair q p r near =
    let s = and_parts (not (p == r)) (is_some (edge q.pattern p r)) near in
    and_from (not (p == r)) (is_some (edge q.pattern p r) || is_some (edge q.pattern r p)) s.0 (or_left (is_some (edge q.pattern p r)) (is_some (edge q.pattern r p)) s.1)

pub chosen_beside : (q : Problem) (p d : ℕ) (xs : List ℕ) → xs ≡ chosen true q.pattern p d false → AreBeside q p xs
chosen_beside q p d xs is i i_in =
    let m = chosen_at true q.pattern p d false xs i is i_in in
    (m.0, edge_pair q p (slice_index xs i) (and_parts (is_neighbour q.pattern p (slice_index xs i)) (not (nat_lt (degree q.pattern (slice_index xs i)) d)) m.1).0)

pub chosen_values : (q : Problem) (u d : ℕ) (low : Bool) (xs : List ℕ) → xs ≡ chosen (is_injective q.maps) q.target u d low → AreValues q xs
chosen_values q u d low xs is i i_in = (chosen_at (is_injective q.maps) q.target u d low xs i is i_in).0

high_enough : (e d : ℕ) → not (nat_lt e d) ≡ true → d ≤ e
high_enough e d h = by (cases_lt e d)
  where
    by : (e < d) ⊎ (d ≤ e) → d ≤ e
    by (inl low) = let bad : false ≡ true = sym (ap not (lt-ltb e d low)) ∙ h in absurd cc
    by (inr high) = high

-- What is asked of degrees, by injective maps.
room_apart : (k : Maps) (g : Graph) (w : ℕ) → is_injective k ≡ true → room_in k g w ≡ degree g w
room_apart Injective g w is = refl
room_apart Local g w is = absurd cc
room_apart Any g w is = absurd cc

asked_apart : (k : Maps) (g : Graph) (r : ℕ) → is_injective k ≡ true → asked_degree_in k g r ≡ degree g r
asked_apart Injective g r is = refl
asked_apart Local g r is = absurd cc
asked_apart Any g r is = absurd cc

none_fails : (ts : List ℕ) (i : ℕ) → fails_at [] ts i ≡ true → ⊥
none_fails ts i h = let kept = nothing_kept ts i in let bad : true ≡ false = sym h ∙ kept in cc

-- Sequences are asked for by these alone.
fails_apart : (k : Maps) (g : Graph) (p i : ℕ) (ts : List ℕ) → fails_at (asked_sequence_in k g p) ts i ≡ true → is_injective k ≡ true
fails_apart Injective g p i ts fails = refl
fails_apart Local g p i ts fails = absurd (none_fails ts i fails)
fails_apart Any g p i ts fails = absurd (none_fails ts i fails)

pub fails_injective : (q : Problem) (p u i : ℕ) → fails_at (asked_sequence q p) (sequence q.target u) i ≡ true → is_injective q.maps ≡ true
fails_injective q p u i fails = fails_apart q.maps q.pattern p i (sequence q.target u) fails

asked_is : (k : Maps) (g : Graph) (p : ℕ) → is_injective k ≡ true → asked_sequence_in k g p ≡ sequence g p
asked_is Injective g p is = refl
asked_is Local g p is = absurd cc
asked_is Any g p is = absurd cc

pub asked_injective : (q : Problem) (p : ℕ) → is_injective q.maps ≡ true → asked_sequence q p ≡ sequence q.pattern p
asked_injective q p is = asked_is q.maps q.pattern p is

pub injective_of : (k : Maps) → Injective ≡ k → is_injective k ≡ true
injective_of k is = sym (ap is_injective is)

-- Others ask nothing.
pub asked_local : (q : Problem) (p u : ℕ) → Local ≡ q.maps → IsKeptBy (asked_sequence q p) (sequence q.target u)
asked_local q p u is = subst (λ (k : Maps). IsKeptBy (asked_sequence_in k q.pattern p) (sequence q.target u)) is (nothing_kept (sequence q.target u))

pub asked_any : (q : Problem) (p u : ℕ) → Any ≡ q.maps → IsKeptBy (asked_sequence q p) (sequence q.target u)
asked_any q p u is = subst (λ (k : Maps). IsKeptBy (asked_sequence_in k q.pattern p) (sequence q.target u)) is (nothing_kept (sequence q.target u))

has_whole : (k : Maps) (q : Problem) (p : ℕ) → q.maps ≡ k → is_injective k ≡ true → has_block q (crowd_block q p) ≡ true
has_whole Injective q p same is = subst (λ (j : Maps). has_block_in j q.pattern (crowd_block_in j p) ≡ true) (sym same) refl
has_whole Local q p same is = absurd cc
has_whole Any q p same is = absurd cc

-- And their block is there.
pub whole_there : (q : Problem) (p : ℕ) → is_injective q.maps ≡ true → has_block q (crowd_block q p) ≡ true
whole_there q p is = has_whole q.maps q p refl is

pub chosen_all_lower : (q : Problem) (p u d : ℕ) (xs ys : List ℕ) → is_injective q.maps ≡ true → xs ≡ chosen true q.pattern p d false → ys ≡ chosen (is_injective q.maps) q.target u d true → AreAllLower q xs ys
chosen_all_lower q p u d xs ys apart is are i i_in =
    let m = chosen_at true q.pattern p d false xs i is i_in in
    let high = high_enough (degree q.pattern (slice_index xs i)) d (and_parts (is_neighbour q.pattern p (slice_index xs i)) (not (nat_lt (degree q.pattern (slice_index xs i)) d)) m.1).1 in (
      m.0,
      (λ j j_in.
          let n = chosen_at (is_injective q.maps) q.target u d true ys j are j_in in
          let low : degree q.target (slice_index ys j) < d = ltb-true (degree q.target (slice_index ys j)) d (and_parts (is_place q u (slice_index ys j)) (nat_lt (degree q.target (slice_index ys j)) d) n.1).1 in
          let has : room q (slice_index ys j) ≡ degree q.target (slice_index ys j) = room_apart q.maps q.target (slice_index ys j) apart in
          let asks : asked_degree q (slice_index xs i) ≡ degree q.pattern (slice_index xs i) = asked_apart q.maps q.pattern (slice_index xs i) apart in
          (n.0, omega (arith, low, high, has, asks))),
    )

-- ---- pairs

one_of_more : (r w : ℕ) (xs ys : List (ℕ × ℕ)) → IsOneOf r w xs ⊎ IsOneOf r w ys → IsOneOf r w (xs ++ ys)
one_of_more r w [] ys (inl one) = absurd one
one_of_more r w [] ys (inr one) = one
one_of_more r w (x ∷ xs) ys (inl (inl same)) = inl same
one_of_more r w (x ∷ xs) ys (inl (inr later)) = inr (one_of_more r w xs ys (inl later))
one_of_more r w (x ∷ xs) ys (inr one) = inr (one_of_more r w xs ys (inr one))

one_with : (r v w : ℕ) (values : List ℕ) → v ≡ r → is_among w values ≡ true → IsOneOf r w (pairs_with v values)
one_with r v w [] same among = absurd cc
one_with r v w (x ∷ xs) same among = by (one_with r v w xs same) (or_cases (x == w) (is_among w xs) among)
  where
    by : (is_among w xs ≡ true → IsOneOf r w (pairs_with v xs)) → ((x == w) ≡ true) ⊎ (is_among w xs ≡ true) → IsOneOf r w (pairs_with v (x ∷ xs))
    by later (inl here) = inl (same, eqb-true x w here)
    by later (inr there) = inr (later there)

one_of_all : (r w : ℕ) (vertices values : List ℕ) → is_among r vertices ≡ true → is_among w values ≡ true → IsOneOf r w (all_pairs vertices values)
one_of_all r w [] values in_vertices in_values = absurd cc
one_of_all r w (v ∷ vs) values in_vertices in_values = one_of_more r w (pairs_with v values) (all_pairs vs values) (by (λ later. one_of_all r w vs values later in_values) (or_cases (v == r) (is_among r vs) in_vertices))
  where
    by : (is_among r vs ≡ true → IsOneOf r w (all_pairs vs values)) → ((v == r) ≡ true) ⊎ (is_among r vs ≡ true) → IsOneOf r w (pairs_with v values) ⊎ IsOneOf r w (all_pairs vs values)
    by later (inl here) = inl (one_with r v w values (eqb-true v r here) in_values)
    by later (inr there) = inr (later there)

-- The pairs of chosen vertices and values are all that have to be refused.
pub all_lower : (q : Problem) (p u d : ℕ) (xs ys : List ℕ) → xs ≡ chosen true q.pattern p d false → ys ≡ chosen (is_injective q.maps) q.target u d true → HasAllLower q p u d (all_pairs xs ys)
all_lower q p u d xs ys is are r w r_in high w_in near low =
    one_of_all r w xs ys
    (subst (λ (zs : List ℕ). is_among r zs ≡ true) (sym is) (passing_listed (is_chosen true q.pattern p d false) (size q.pattern) r r_in high))
    (subst (λ (zs : List ℕ). is_among w zs ≡ true) (sym are) (passing_listed (is_chosen (is_injective q.maps) q.target u d true) (size q.target) w w_in (and_from (is_place q u w) (nat_lt (degree q.target w) d) near (lt-ltb (degree q.target w) d low))))

map_more : (q : Problem) (r : ℕ) (xs : List ℕ) (i : ℕ) → i < length xs → pairs_with r (take i xs) ++ (r, slice_index xs i) ∷ [] ≡ pairs_with r (take (suc i) xs)
map_more q r [] i i_in = absurd (omega (arith, i_in))
map_more q r (x ∷ xs) zero i_in = refl
map_more q r (x ∷ xs) (suc i) i_in = ap (λ (ys : List (ℕ × ℕ)). (r, x) ∷ ys) (map_more q r xs i (omega (arith, i_in)))

append-assoc : {X : Type 0} (xs ys zs : List X) → (xs ++ ys) ++ zs ≡ xs ++ (ys ++ zs)
append-assoc [] ys zs = refl
append-assoc (x ∷ xs) ys zs = ap (λ us. x ∷ us) (append-assoc xs ys zs)

append-none : {X : Type 0} (xs : List X) → xs ++ [] ≡ xs
append-none [] = refl
append-none (x ∷ xs) = ap (λ us. x ∷ us) (append-none xs)

pub with_more : (q : Problem) (pairs : List (ℕ × ℕ)) (r : ℕ) (xs : List ℕ) (i : ℕ) → i < length xs → (pairs ++ pairs_with r (take i xs)) ++ (r, slice_index xs i) ∷ [] ≡ pairs ++ pairs_with r (take (i + 1) xs)
with_more q pairs r xs i i_in =
    append-assoc pairs (pairs_with r (take i xs)) ((r, slice_index xs i) ∷ []) ∙ ap (λ (ys : List (ℕ × ℕ)). pairs ++ ys) (map_more q r xs i i_in)
    ∙ ap (λ (n : ℕ). pairs ++ pairs_with r (take n xs)) (let e : suc i ≡ i + 1 = omega arith in e)

all_more : (xs ys : List ℕ) (i : ℕ) → i < length xs → all_pairs (take i xs) ys ++ pairs_with (slice_index xs i) ys ≡ all_pairs (take (suc i) xs) ys
all_more [] ys i i_in = absurd (omega (arith, i_in))
all_more (x ∷ xs) ys zero i_in = sym (append-none (pairs_with x ys))
all_more (x ∷ xs) ys (suc i) i_in =
    append-assoc (pairs_with x ys) (all_pairs (take i xs) ys) (pairs_with (slice_index xs i) ys) ∙ ap (λ (us : List (ℕ × ℕ)). pairs_with x ys ++ us) (all_more xs ys i (omega (arith, i_in)))

pub pairs_more : (pairs : List (ℕ × ℕ)) (xs ys : List ℕ) (i : ℕ) → i < length xs → (pairs ++ all_pairs (take i xs) ys) ++ pairs_with (slice_index xs i) ys ≡ pairs ++ all_pairs (take (i + 1) xs) ys
pairs_more pairs xs ys i i_in =
    append-assoc pairs (all_pairs (take i xs) ys) (pairs_with (slice_index xs i) ys) ∙ ap (λ (us : List (ℕ × ℕ)). pairs ++ us) (all_more xs ys i i_in)
    ∙ ap (λ (n : ℕ). pairs ++ all_pairs (take n xs) ys) (let e : suc i ≡ i + 1 = omega arith in e)

pub pairs_none : (pairs : List (ℕ × ℕ)) → pairs ++ [] ≡ pairs
pairs_none pairs = append-none pairs

-- ---- sizes

count_most : (f : ℕ → Bool) (n : ℕ) → count f n ≤ n
count_most f zero = omega arith
count_most f (suc n) = by (f n) (count_most f n)
  where
    by : (b : Bool) → count f n ≤ n → (if b then 1 else 0) + count f n ≤ suc n
    by true h = omega (arith, h)
    by false h = omega (arith, h)

pub crowd_long : (q : Problem) (b : Option ℕ) (p u : ℕ) (vs ws : List ℕ) → length (crowd_forms q b p u vs ws) ≡ length vs + length ws
crowd_long q b p u [] [] = refl
crowd_long q b p u [] (x ∷ xs) = let h = crowd_long q b p u [] xs in omega (arith, h)
crowd_long q b p u (v ∷ vs) ws = let h = crowd_long q b p u vs ws in omega (arith, h)

crowd_addable : (q : Problem) (p u d : ℕ) → size q.pattern ≤ 1024 → size q.target ≤ 8192 → IsAddable (crowd_forms q (crowd_block q p) p u (high_neighbours q.pattern p d) (high_places q u d))
crowd_addable q p u d ps ts =
    let a = members_count (is_high q.pattern p d) (size q.pattern) in
    let b = members_count (is_high_place q u d) (size q.target) in
    let x = count_most (is_high q.pattern p d) (size q.pattern) in
    let y = count_most (is_high_place q u d) (size q.target) in
    let l = crowd_long q (crowd_block q p) p u (high_neighbours q.pattern p d) (high_places q u d) in
    record {
      most = 2 ^ 14;
      small = crowd_small q (crowd_block q p) p u (high_neighbours q.pattern p d) (high_places q u d) ps ts;
      fits = omega (arith, a, b, x, y, l, ps, ts);
    }

take_whole_of : (xs : List ℕ) (n : ℕ) → length xs ≤ n → take n xs ≡ xs
take_whole_of [] zero le = refl
take_whole_of [] (suc n) le = refl
take_whole_of (x ∷ xs) zero le = absurd (omega (arith, le))
take_whole_of (x ∷ xs) (suc n) le = ap (λ (ys : List ℕ). x ∷ ys) (take_whole_of xs n (omega (arith, le)))

-- All of a list.
pub take_whole : (xs : List ℕ) (n : ℕ) → length xs ≤ n → take n xs ≡ xs
take_whole xs n le = take_whole_of xs n le

-- ---- what is kept

pub set_seen : (q seen : Problem) (pattern target : List (List ℕ)) → q ≡ seen → IsSet q pattern target → IsSet seen pattern target
set_seen q seen pattern target is h = subst (λ (r : Problem). IsSet r pattern target) is h

-- A place that fails is one of the first list's.
pub fails_in : (xs ys : List ℕ) (i : ℕ) → fails_at xs ys i ≡ true → i < length xs
fails_in xs ys i fails = ltb-true i (length xs) (and_parts (nat_lt i (length xs)) (not (nat_lt i (length ys) && not (nat_lt (slice_index ys i) (slice_index xs i)))) fails).0

-- ---- lines

line : (q : Problem) (owner : ℕ) (w : Frame) (forms : List Form) (k : ℕ) (f : Form) → IsFrameFor q owner w → slice_get (encoding q) k ≡ Some f → IsNamed w forms (Line (k + 1)) f
line q owner w forms k f frame at = record { found = λ look finds own. finds.alike (Line (k + 1)) f (frame.model.line k f at); foreign = λ i is. absurd cc }

-- A number of the encoding names its line.
pub line_found : (q : Problem) (owner : ℕ) (w : Frame) (forms : List Form) (n place : ℕ) (f : Form) → n ≡ place + 1 → IsFrameFor q owner w → slice_get (encoding q) (n - 1) ≡ Some f → IsNamed w forms (Line n) f
line_found q owner w forms n place f is frame at =
    subst (λ (m : ℕ). IsNamed w forms (Line m) f) (let e : n - 1 + 1 ≡ n = omega (arith, is) in e) (line q owner w forms (n - 1) f frame at)

module _ (q : Problem) (p u : ℕ) (p_in : p < size q.pattern) (u_in : u < size q.target) where
  beside_fit : (vs : List ℕ) → size q.pattern ≤ 1024 → size q.target ≤ 8192 → IsOrder (size q.pattern) q.less → AreBeside q p vs → (rest : List Ref) → AreRefs rest → AreRefs (beside_refs q p u vs ++ rest)
  beside_fit [] ps ts order beside rest fits = fits
  beside_fit (r ∷ rs) ps ts order beside rest fits =
      let h = beside 0 (omega arith) in
      let s = place_small q (edge_place q p r u) (pair_form q p r u) ps ts order ((place_laws q).edge p r u p_in h.0 u_in h.1) in
      (omega (arith, s), beside_fit rs ps ts order (λ i i_in. beside (suc i) (omega (arith, i_in))) rest fits)

  values_fit : (b : Option ℕ) (ws : List ℕ) → size q.pattern ≤ 1024 → size q.target ≤ 8192 → IsOrder (size q.pattern) q.less → AreValues q ws → HasBlockFor q b ws → AreRefs (value_refs q b ws)
  values_fit b [] ps ts order values there = tt
  values_fit b (w ∷ ws) ps ts order values there =
      let has : has_block q b ≡ true = there (omega arith) in
      let s = place_small q (at_most_place_in q b w) (at_most_in q b w) ps ts order ((place_laws q).at_most_in b w has (values 0 (omega arith))) in
      (omega (arith, s), values_fit b ws ps ts order (λ i i_in. values (suc i) (omega (arith, i_in))) (λ some. has))

  beside_named : (owner : ℕ) (w : Frame) (forms : List Form) → IsFrameFor q owner w → (vs : List ℕ) → AreBeside q p vs → AreNamed w forms (beside_refs q p u vs) (beside_forms q p u vs)
  beside_named owner w forms frame [] beside = tt
  beside_named owner w forms frame (r ∷ rs) beside =
      let h = beside 0 (omega arith) in (
        line q owner w forms (edge_place q p r u) (pair_form q p r u) frame ((place_laws q).edge p r u p_in h.0 u_in h.1),
        beside_named owner w forms frame rs (λ i i_in. beside (suc i) (omega (arith, i_in))),
      )

  values_named : (owner : ℕ) (w : Frame) (forms : List Form) → IsFrameFor q owner w → (b : Option ℕ) (ws : List ℕ) → AreValues q ws → HasBlockFor q b ws → AreNamed w forms (value_refs q b ws) (map (at_most_in q b) ws)
  values_named owner w forms frame b [] values there = tt
  values_named owner w forms frame b (v ∷ vs) values there =
      let has : has_block q b ≡ true = there (omega arith) in (
        line q owner w forms (at_most_place_in q b v) (at_most_in q b v) frame ((place_laws q).at_most_in b v has (values 0 (omega arith))),
        values_named owner w forms frame b vs (λ i i_in. values (suc i) (omega (arith, i_in))) (λ some. has),
      )

  pub is_crowd : (d : ℕ) (xs ys : List ℕ) (refs : List Ref) → size q.pattern ≤ 1024 → size q.target ≤ 8192 → IsOrder (size q.pattern) q.less → (0 < place_count q u d → has_block q (crowd_block q p) ≡ true)
      → xs ≡ chosen true q.pattern p d false → ys ≡ chosen (is_injective q.maps) q.target u d false → refs ≡ crowd_refs q (crowd_block q p) p u xs ys → IsCrowd q p u d refs
  is_crowd d xs ys refs ps ts order there is are made =
      let block : Option ℕ = crowd_block q p in
      let beside = chosen_beside q p d (chosen true q.pattern p d false) refl in
      let values = chosen_values q u d false (chosen (is_injective q.maps) q.target u d false) refl in
      let has : HasBlockFor q block (high_places q u d) = λ some. there (let c = members_count (is_high_place q u d) (size q.target) in omega (arith, c, some)) in
      let lines : refs ≡ crowd_refs q block p u (high_neighbours q.pattern p d) (high_places q u d) =
      made ∙ ap (λ (vs : List ℕ). crowd_refs q block p u vs ys) is ∙ ap (crowd_refs q block p u (chosen true q.pattern p d false)) are in
      record {
        lines = lines;
        addable = crowd_addable q p u d ps ts;
        fits = subst AreRefs (sym lines)
            (beside_fit (high_neighbours q.pattern p d) ps ts order beside (value_refs q block (high_places q u d)) (values_fit block (high_places q u d) ps ts order values has));
        named = λ w owner forms frame. subst (λ (rs : List Ref). AreNamed w forms rs (crowd_forms q block p u (high_neighbours q.pattern p d) (high_places q u d))) (sym lines)
            (named_behind w forms (beside_refs q p u (high_neighbours q.pattern p d)) (beside_forms q p u (high_neighbours q.pattern p d)) (value_refs q block (high_places q u d))
            (map (at_most_in q block) (high_places q u d))
            (beside_named owner w forms frame (high_neighbours q.pattern p d) beside) (values_named owner w forms frame block (high_places q u d) values has));
      }

  -- Where there are too many, there is a line.
  pub crowd_some : (d : ℕ) (refs : List Ref) → place_count q u d < high_count q.pattern p d → IsCrowd q p u d refs → 0 < length refs
  crowd_some d refs fewer crowd =
      let c = members_count (is_high q.pattern p d) (size q.pattern) in
      subst (λ (rs : List Ref). 0 < length rs) (sym crowd.lines) (by (high_neighbours q.pattern p d) (omega (arith, c, fewer)))
    where
      by : (vs : List ℕ) → 0 < length vs → 0 < length (crowd_refs q (crowd_block q p) p u vs (high_places q u d))
      by [] some = absurd (omega (arith, some))
      by (v ∷ vs) some = omega arith

  -- The same of the answer of a call.
  pub all_crowds : {V : Type 0} (items : V → List Ref) (d : ℕ) (xs ys : List ℕ) (result : Result V AllocError) → size q.pattern ≤ 1024 → size q.target ≤ 8192 → IsOrder (size q.pattern) q.less
      → (0 < place_count q u d → has_block q (crowd_block q p) ≡ true) → xs ≡ chosen true q.pattern p d false → ys ≡ chosen (is_injective q.maps) q.target u d false
      → IfOk result (λ v. items v ≡ crowd_refs q (crowd_block q p) p u xs ys) → IfOk result (λ v. IsCrowd q p u d (items v))
  all_crowds items d xs ys (Ok v) ps ts order there is are made = is_crowd d xs ys (items v) ps ts order there is are made
  all_crowds items d xs ys (Err e) ps ts order there is are made = tt

-- Where a value is chosen there is a place.
pub chosen_block : (q : Problem) (p u d : ℕ) (ys : List ℕ) → (0 < place_count q u d → has_block q (crowd_block q p) ≡ true) → ys ≡ chosen (is_injective q.maps) q.target u d false → HasBlockFor q (crowd_block q p) ys
chosen_block q p u d ys there are some =
    let c = members_count (is_high_place q u d) (size q.target) in
    let l : length ys ≡ length (high_places q u d) = ap length are in
    there (omega (arith, c, l, some))
