-- Values that are out of order are of no embedding within the domains, and domains from which none leaves are in order.

use Rattle.std.proofs.Common.{◌≡◌, ℕ, ◌+◌, ◌-◌, ◌<◌, ◌≤◌, ◌==◌, ◌&&◌, not, nat_lt, Bool, true, false, List, length, Some, slice_get, slice_index, refl, sym, ap, ◌∙◌, subst, arith, ◌⊎◌, inl, inr}
use Rattle.std.proofs.Common.{get_or, length-append, Option, Result, Ok, Err}
use Rattle.std.proofs.lemmas.Option.{slice_get_within, slice_get-get_or}
use Rattle.std.proofs.lemmas.Bool.{true≢false, cases_lt, cases_eq, lt-ltb, le-ltb, eq-eqb}
use Rattle.graph_theory.specs.Graph.{size}
use Rattle.graph_theory.specs.Embedding.{Problem, Embeds}
use Rattle.graph_theory.proofs.Orders.{rises_at}
use Rattle.search_theory.specs.Claims.{Inside, Rising, Ordered}
use Rattle.bit_rows.specs.BitRows.{has}
use Rattle.domain_bits.specs.Changes.{Keeps}
use Rattle.domain_bits.proofs.Sizes.{in_below}
use Rattle.domain_bits.specs.Removals.{State, in_domain}
use Rattle.recorder.specs.declared.change.Side.{Side}
use Rattle.recorder.specs.declared.change.Side.TheVariants.{Lesser, Greater}
use Rattle.recorder.specs.Telling.{IsOutOfOrder, end_beside}
use Rattle.propagation.specs.Learning.{IsUnused}
use Rattle.propagation.specs.Ordering.{AreOutOfOrder}
use Rattle.propagation.specs.Propagation.{Narrows}
use Rattle.propagation.specs.Taking.{Takes}
use Rattle.recorder.specs.declared.change.Failure.{Failure}
use Rattle.recorder.specs.Recording.{Change}
use Rattle.propagation.proofs.Supporting.{narrows_same}

-- ---- one value

-- a value that is out of order is of no embedding within the domains
pub unused_misplaced : (q : Problem) (d : State) (k : ℕ) (side : Side) (r u : ℕ) → IsOutOfOrder q d k side r u → IsUnused q d (r, u, 0)
unused_misplaced q d k side r u is = record { vertex_in = is.vertex_in; value_in = is.value_in; none = clash side is }
  where
    clash : (s : Side) → IsOutOfOrder q d k s r u → (m : List ℕ) → Embeds q m → Inside q (in_domain d) m → slice_index m r ≡ u → ⊥
    clash Lesser out m e h here =
        let rises = rises_at q.less m k out.pair e.order out.pair_is (omega (arith, out.end_is, out.vertex_in, e.size_is)) (omega (arith, out.other_in, e.size_is)) in
        let less : u < slice_index m out.pair.1 = subst (λ (v : ℕ). v < slice_index m out.pair.1) (ap (slice_index m) out.end_is ∙ here) rises in
        true≢false (sym (lt-ltb u (slice_index m out.pair.1) less) ∙ out.none (slice_index m out.pair.1) (h out.pair.1 out.other_in))
    clash Greater out m e h here =
        let rises = rises_at q.less m k out.pair e.order out.pair_is (omega (arith, out.other_in, e.size_is)) (omega (arith, out.end_is, out.vertex_in, e.size_is)) in
        let less : slice_index m out.pair.0 < u = subst (λ (v : ℕ). slice_index m out.pair.0 < v) (ap (slice_index m) out.end_is ∙ here) rises in
        true≢false (sym (lt-ltb (slice_index m out.pair.0) u less) ∙ out.none (slice_index m out.pair.0) (h out.pair.0 out.other_in))

-- what is out of order is so while values leave
pub misplaced_on : (q : Problem) (old new : State) (k : ℕ) (side : Side) (r u : ℕ) → ((s t : ℕ) → in_domain new s t ≡ true → in_domain old s t ≡ true) → IsOutOfOrder q old k side r u
    → IsOutOfOrder q new k side r u
misplaced_on q old new k side r u less is = record {
  pair = is.pair;
  pair_is = is.pair_is;
  end_is = is.end_is;
  vertex_in = is.vertex_in;
  other_in = is.other_in;
  value_in = is.value_in;
  none = λ w here. is.none w (less (end_beside side is.pair) w here);
}

-- ---- a range of values

-- no value of the range before n is left
pub record GoneBelow (d : State) (r from n : ℕ) : Type 0 where
  pub low : from ≤ n
  pub gone : (v : ℕ) → from ≤ v → v < n → in_domain d r v ≡ false

pub gone_first : (d : State) (r from n : ℕ) (row : List ℕ) → ((v : ℕ) → has row v ≡ in_domain d r v) → from ≤ n → ((v : ℕ) → from ≤ v → v < n → has row v ≡ false) → GoneBelow d r from n
gone_first d r from n row bits low none = record { low = low; gone = λ v first last. sym (bits v) ∙ none v first last }

stays_out : (old new : State) (p t : ℕ) → ((s u : ℕ) → in_domain new s u ≡ true → in_domain old s u ≡ true) → in_domain old p t ≡ false → in_domain new p t ≡ false
stays_out old new p t less out = by (in_domain new p t) refl
  where
    by : (b : Bool) → in_domain new p t ≡ b → b ≡ false
    by true here = absurd (true≢false (sym (less p t here) ∙ out))
    by false here = refl

-- one value more, and then those that are not there
pub gone_more : (old new : State) (r from u n : ℕ) (row : List ℕ) → GoneBelow old r from u → Keeps old new r (λ v. not (v == u)) → ((v : ℕ) → has row v ≡ in_domain new r v)
    → u + 1 ≤ n → ((v : ℕ) → u + 1 ≤ v → v < n → has row v ≡ false) → GoneBelow new r from n
gone_more old new r from u n row before k bits low none = record { low = omega (arith, before.low, low); gone = λ v first last. by v first last (cases_lt v u) (cases_eq v u) }
  where
    off : (a : Bool) → (a && false) ≡ false
    off true = refl
    off false = refl

    by : (v : ℕ) → from ≤ v → v < n → (v < u) ⊎ (u ≤ v) → (v ≡ u) ⊎ (v ≡ u → ⊥) → in_domain new r v ≡ false
    by v first last (inl lt) eq = stays_out old new r v k.shrinks.less (before.gone v first lt)
    by v first last (inr le) (inl same) = k.kept v ∙ (ap (λ (b : Bool). in_domain old r v && not b) (eq-eqb v u same) ∙ off (in_domain old r v))
    by v first last (inr le) (inr other) = sym (bits v) ∙ none v (omega (arith, le, other)) last

-- ---- a pair

-- before the least value that is left for the first there is none
pub out_greater : (q : Problem) (d : State) (k : ℕ) (pair : ℕ × ℕ) (least until values : ℕ) → slice_get q.less k ≡ Some pair → pair.0 < size q.pattern → pair.1 < size q.pattern
    → values ≡ size q.target → until ≤ values → until ≤ least + 1 → ((u : ℕ) → u < least → in_domain d pair.0 u ≡ false) → AreOutOfOrder q d k Greater pair.1 0 until
out_greater q d k pair least until values pair_is a_in b_in values_are within below none u low high = record {
  pair = pair;
  pair_is = pair_is;
  end_is = refl;
  vertex_in = b_in;
  other_in = a_in;
  value_in = omega (arith, high, within, values_are);
  none = λ w here. by w here (cases_lt w u);
}
  where
    by : (w : ℕ) → in_domain d pair.0 w ≡ true → (w < u) ⊎ (u ≤ w) → nat_lt w u ≡ false
    by w here (inl lt) = absurd (true≢false (sym here ∙ none w (omega (arith, lt, high, below))))
    by w here (inr le) = le-ltb w u le

-- and past the greatest that is left for the second there is none
pub out_lesser : (q : Problem) (d : State) (k : ℕ) (pair : ℕ × ℕ) (past from values : ℕ) → slice_get q.less k ≡ Some pair → pair.0 < size q.pattern → pair.1 < size q.pattern
    → values ≡ size q.target → from ≡ past - 1 → ((u : ℕ) → past ≤ u → in_domain d pair.1 u ≡ false) → AreOutOfOrder q d k Lesser pair.0 from values
out_lesser q d k pair past from values pair_is a_in b_in values_are from_is none u low high = record {
  pair = pair;
  pair_is = pair_is;
  end_is = refl;
  vertex_in = a_in;
  other_in = b_in;
  value_in = omega (arith, high, values_are);
  none = λ w here. by w here (cases_lt u w);
}
  where
    by : (w : ℕ) → in_domain d pair.1 w ≡ true → (u < w) ⊎ (w ≤ u) → nat_lt u w ≡ false
    by w here (inl lt) = absurd (true≢false (sym here ∙ none w (omega (arith, lt, low, from_is))))
    by w here (inr le) = le-ltb u w le

-- where nothing of both has left, the domains rise
rising_left : (d : State) (a b least until past from : ℕ) → (until ≡ least + 1) ⊎ (until ≡ d.values) → from ≡ past - 1
    → (least < d.values → in_domain d a least ≡ true) → (0 < past → in_domain d b (past - 1) ≡ true)
    → ((u : ℕ) → 0 ≤ u → u < until → in_domain d b u ≡ false) → ((u : ℕ) → from ≤ u → u < d.values → in_domain d a u ≡ false) → Rising (in_domain d) a b
rising_left d a b least until past from until_is from_is here last low_gone high_gone = record { lesser = lesser; greater = greater }
  where
    past_least : (t : ℕ) → in_domain d b t ≡ true → until ≤ t
    past_least t there = by (cases_lt t until)
      where
        by : (t < until) ⊎ (until ≤ t) → until ≤ t
        by (inl lt) = absurd (true≢false (sym there ∙ low_gone t (omega arith) lt))
        by (inr le) = le

    lesser : (t : ℕ) → in_domain d b t ≡ true → (s : ℕ) × (in_domain d a s ≡ true) × (s < t)
    lesser t there = by until_is
      where
        by : (until ≡ least + 1) ⊎ (until ≡ d.values) → (s : ℕ) × (in_domain d a s ≡ true) × (s < t)
        by (inl is) = (least, here (omega (arith, past_least t there, is, in_below d b t there)), omega (arith, past_least t there, is))
        by (inr all) = absurd (omega (arith, past_least t there, all, in_below d b t there))

    greater : (s : ℕ) → in_domain d a s ≡ true → (t : ℕ) × (in_domain d b t ≡ true) × (s < t)
    greater s there = by (cases_lt s from)
      where
        by : (s < from) ⊎ (from ≤ s) → (t : ℕ) × (in_domain d b t ≡ true) × (s < t)
        by (inl lt) = (past - 1, last (omega (arith, lt, from_is)), omega (arith, lt, from_is))
        by (inr le) = absurd (true≢false (sym there ∙ high_gone s le (in_below d a s there)))

-- the trail is no shorter
not_shorter : (q : Problem) (old new : State) → Narrows q old new → length old.removed ≤ length new.removed
not_shorter q old new n = omega (arith, ap length n.front, length-append old.removed n.rest)

-- so it is where nothing has left in two steps
pub pair_rises : (q : Problem) (old mid new : State) (a b least until past from values : ℕ) → Narrows q old mid → Narrows q mid new → values ≡ old.values
    → (until ≡ least + 1) ⊎ (until ≡ values) → from ≡ past - 1
    → (least < old.values → in_domain old a least ≡ true) → (0 < past → in_domain mid b (past - 1) ≡ true)
    → ((u : ℕ) → 0 ≤ u → u < until → in_domain mid b u ≡ false) → ((u : ℕ) → from ≤ u → u < values → in_domain new a u ≡ false)
    → length new.removed ≤ length old.removed → Rising (in_domain new) a b
pair_rises q old mid new a b least until past from values first second values_is until_is from_is here last low_gone high_gone few =
    rising_left new a b least until past from
    (subst (λ (n : ℕ). (until ≡ least + 1) ⊎ (until ≡ n)) (omega (arith, values_is, first.values_same, second.values_same)) until_is) from_is
    (λ lt. subst (λ (d : State). in_domain d a least ≡ true) (sym (second_same ∙ first_same)) (here (omega (arith, lt, first.values_same, second.values_same))))
    (λ some. subst (λ (d : State). in_domain d b (past - 1) ≡ true) (sym second_same) (last some))
    (λ u low high. subst (λ (d : State). in_domain d b u ≡ false) (sym second_same) (low_gone u low high))
    (λ u low high. high_gone u low (omega (arith, high, second.values_same, first.values_same, values_is)))
  where
    second_same : new ≡ mid
    second_same = narrows_same q mid new second (omega (arith, few, not_shorter q old mid first))

    first_same : mid ≡ old
    first_same = narrows_same q old mid first (omega (arith, few, not_shorter q mid new second))

-- ---- all pairs

-- Where nothing has left, the domains rise for each pair before the number.
abbrev pub RiseBelow : Problem → State → State → ℕ → Type 0
RiseBelow q old new n = length new.removed ≤ length old.removed → (k : ℕ) (x : ℕ × ℕ) → k < n → slice_get q.less k ≡ Some x → Rising (in_domain new) x.0 x.1

pub rise_none : (q : Problem) (d : State) → RiseBelow q d d 0
rise_none q d few k x k_in is = absurd (omega (arith, k_in))

-- what is told of the second range, whether or not it failed
pub narrows_of : (answer : Result (Unit {0}) Failure) (q : Problem) (old new : State) (before after : List Bool) (told tells : Option (List Change)) → Takes answer q old before told new after tells → Narrows q old new
narrows_of (Ok u) q old new before after told tells took = took.forces.narrows
narrows_of (Err failure) q old new before after told tells took = took.forces.0

pub rise_more : (q : Problem) (old mid new : State) (n : ℕ) (pair : ℕ × ℕ) → RiseBelow q old mid n → Narrows q old mid → Narrows q mid new → slice_get q.less n ≡ Some pair
    → (length new.removed ≤ length mid.removed → Rising (in_domain new) pair.0 pair.1) → RiseBelow q old new (n + 1)
rise_more q old mid new n pair before first next pair_is rising few k x k_in is = by (cases_lt k n)
  where
    mid_few : length new.removed ≤ length mid.removed
    mid_few = omega (arith, few, not_shorter q old mid first)

    same : new ≡ mid
    same = narrows_same q mid new next mid_few

    some_same : (y z : ℕ × ℕ) → Some y ≡ Some z → y ≡ z
    some_same y z e = cc

    by : (k < n) ⊎ (n ≤ k) → Rising (in_domain new) x.0 x.1
    by (inl lt) = subst (λ (d : State). Rising (in_domain d) x.0 x.1) (sym same) (before (omega (arith, few, not_shorter q mid new next)) k x lt is)
    by (inr le) =
        let here : n ≡ k = omega (arith, le, k_in) in
        let pair_here : slice_get q.less k ≡ Some pair = subst (λ (i : ℕ). slice_get q.less i ≡ Some pair) here pair_is in
        subst (λ (y : ℕ × ℕ). Rising (in_domain new) y.0 y.1) (some_same pair x (sym pair_here ∙ is)) (rising mid_few)

pub ordered_all : (q : Problem) (old new : State) (n : ℕ) → length q.less ≤ n → RiseBelow q old new n → length new.removed ≤ length old.removed → Ordered q (in_domain new)
ordered_all q old new n all below few = record { rising = λ k x is a_in b_in. below few k x (omega (arith, slice_get_within q.less k x is, all)) is }

-- a pair that is read at its place
pub pair_at : (less pairs : List (ℕ × ℕ)) (k : ℕ) → pairs ≡ less → k < length pairs → slice_get less k ≡ Some (get_or pairs k (0, 0))
pair_at less pairs k same k_in = subst (λ (xs : List (ℕ × ℕ)). slice_get xs k ≡ Some (get_or pairs k (0, 0))) same (slice_get-get_or pairs k (0, 0) k_in)

-- where no order is asked for, any domains are in order
pub ordered_none : (q : Problem) (D : ℕ → ℕ → Bool) → length q.less ≡ 0 → Ordered q D
ordered_none q D none = record { rising = λ k x is a_in b_in. absurd (omega (arith, slice_get_within q.less k x is, none)) }
