-- What bits tell of places is what is asked of them, where labels of edges ask nothing more.

use Rattle.std.proofs.Common.{◌≡◌, ℕ, ◌<◌, nat_lt, Bool, true, false, ◌&&◌, is_some, List, Option, Some, None, refl, sym, ap, ◌∙◌}
use Rattle.std.proofs.lemmas.Bool.{or_parts, lt-ltb}
use Rattle.graph_theory.specs.Graph.{Graph, size, edge}
use Rattle.bit_rows.specs.BitRows.{has}
use Rattle.graph_theory.specs.Embedding.{Problem}
use Rattle.graph_rows.specs.Labels.{HasZeroLabels, agree}
use Rattle.encoding_theory.specs.Pairs.{is_match, is_open, is_linked, is_compatible}
use Rattle.pb_encoding.specs.Agreement.{may_go}

-- Edges that do not agree do not match.
unmatched : (induced : Bool) (e f : Option ℕ) → agree induced (is_some e) (is_some f) ≡ false → is_match induced e f ≡ false
unmatched false None f h = absurd cc
unmatched true None None h = absurd cc
unmatched true None (Some k) h = refl
unmatched false (Some l) None h = refl
unmatched true (Some l) None h = refl
unmatched induced (Some l) (Some k) h = absurd cc

-- Without a pattern edge those that agree match,
matched_free : (induced : Bool) (e f : Option ℕ) → is_some e ≡ false → is_match induced e f ≡ agree induced (is_some e) (is_some f)
matched_free false None f none = refl
matched_free true None None none = refl
matched_free true None (Some k) none = refl
matched_free induced (Some l) f none = absurd cc

-- and where all labels are 0.
matched_zeros : (induced : Bool) (e f : Option ℕ) → ((l : ℕ) → e ≡ Some l → l ≡ 0) → ((l : ℕ) → f ≡ Some l → l ≡ 0) → is_match induced e f ≡ agree induced (is_some e) (is_some f)
matched_zeros false None f one two = refl
matched_zeros true None None one two = refl
matched_zeros true None (Some k) one two = refl
matched_zeros false (Some l) None one two = refl
matched_zeros true (Some l) None one two = refl
matched_zeros false (Some l) (Some k) one two = rw (one l refl, two k refl) refl
matched_zeros true (Some l) (Some k) one two = rw (one l refl, two k refl) refl

three : (x a b c d : Bool) → (a ≡ false → c ≡ false) → (b ≡ false → d ≡ false) → (x && (a && b)) ≡ false → (x && (c && d)) ≡ false
three false a b c d f g h = refl
three true false b c d f g h = rw (f refl) refl
three true true false true d f g h = g refl
three true true false false d f g h = refl
three true true true c d f g h = absurd cc

-- A place that bits rule out is not right.
ruled_out : (q : Problem) (p t r u : ℕ) → may_go q p t r u ≡ false → is_compatible q p t r u ≡ false
ruled_out q p t r u h =
    three (is_open q t u) (agree q.induced (is_some (edge q.pattern p r)) (is_some (edge q.target t u))) (agree q.induced (is_some (edge q.pattern r p)) (is_some (edge q.target u t)))
    (is_match q.induced (edge q.pattern p r) (edge q.target t u)) (is_match q.induced (edge q.pattern r p) (edge q.target u t))
    (unmatched q.induced (edge q.pattern p r) (edge q.target t u)) (unmatched q.induced (edge q.pattern r p) (edge q.target u t)) h

-- So it is with a place that is not in the row of those that bits leave.
pub left_out : (q : Problem) (p t r u : ℕ) (there : Bool) → there ≡ (nat_lt u (size q.target) && may_go q p t r u) → u < size q.target → there ≡ false → is_compatible q p t r u ≡ false
left_out q p t r u there is u_in out = ruled_out q p t r u (sym (is ∙ ap (λ (b : Bool). b && may_go q p t r u) (lt-ltb u (size q.target) u_in)) ∙ out)

both : (q : Problem) (p t r u : ℕ) → is_match q.induced (edge q.pattern p r) (edge q.target t u) ≡ agree q.induced (is_some (edge q.pattern p r)) (is_some (edge q.target t u))
    → is_match q.induced (edge q.pattern r p) (edge q.target u t) ≡ agree q.induced (is_some (edge q.pattern r p)) (is_some (edge q.target u t)) → is_compatible q p t r u ≡ may_go q p t r u
both q p t r u out back =
    ap (λ (b : Bool). is_open q t u && (b && is_match q.induced (edge q.pattern r p) (edge q.target u t))) out
    ∙ ap (λ (b : Bool). is_open q t u && (agree q.induced (is_some (edge q.pattern p r)) (is_some (edge q.target t u)) && b)) back

-- Others are, where no edge joins the two pattern vertices,
pub told_free : (q : Problem) (p t r u : ℕ) → is_linked q.pattern p r ≡ false → is_compatible q p t r u ≡ may_go q p t r u
told_free q p t r u apart =
    let none = or_parts (is_some (edge q.pattern p r)) (is_some (edge q.pattern r p)) apart in
    both q p t r u (matched_free q.induced (edge q.pattern p r) (edge q.target t u) none.0) (matched_free q.induced (edge q.pattern r p) (edge q.target u t) none.1)

-- or where all labels are 0.
pub told_zeros : (q : Problem) (p t r u : ℕ) → p < size q.pattern → r < size q.pattern → t < size q.target → u < size q.target → HasZeroLabels q.pattern → HasZeroLabels q.target
    → is_compatible q p t r u ≡ may_go q p t r u
told_zeros q p t r u p_in r_in t_in u_in pattern target =
    both q p t r u (matched_zeros q.induced (edge q.pattern p r) (edge q.target t u) (λ l. pattern.zeros p r l p_in r_in) (λ l. target.zeros t u l t_in u_in))
    (matched_zeros q.induced (edge q.pattern r p) (edge q.target u t) (λ l. pattern.zeros r p l r_in p_in) (λ l. target.zeros u t l u_in t_in))

-- Then the members of the row are the places that are right.
pub left_in : (q : Problem) (p t r u : ℕ) (there : Bool) → there ≡ (nat_lt u (size q.target) && may_go q p t r u) → u < size q.target → is_compatible q p t r u ≡ may_go q p t r u → there ≡ is_compatible q p t r u
left_in q p t r u there is u_in told = is ∙ ap (λ (b : Bool). b && may_go q p t r u) (lt-ltb u (size q.target) u_in) ∙ sym told

-- ---- the row of right places, bit by bit

turn_round : (a b c d : Bool) → (((a && b) && c) && d) ≡ (a && (d && (b && c)))
turn_round false b c d = refl
turn_round true false c false = refl
turn_round true false c true = refl
turn_round true true false false = refl
turn_round true true false true = refl
turn_round true true true false = refl
turn_round true true true true = refl

pub right_bits : (q : Problem) (p t r u n : ℕ) (g h : Graph) (induced a b : Bool) (all first second last out back : List ℕ) → g ≡ q.pattern → h ≡ q.target → induced ≡ q.induced → a ≡ is_some (edge g p r) → b ≡ is_some (edge g r p)
    → n ≡ size h → has all u ≡ nat_lt u n → has out u ≡ is_some (edge h t u) → has back u ≡ is_some (edge h u t) → has first u ≡ (has all u && agree induced a (has out u))
    → has second u ≡ (has first u && agree induced b (has back u)) → has last u ≡ (has second u && is_open q t u) → has last u ≡ (nat_lt u (size q.target) && may_go q p t r u)
right_bits q p t r u n g h induced a b all first second last out back g_is h_is i_is a_is b_is n_is all_is out_is back_is first_is second_is last_is =
    rw (last_is, second_is, first_is, all_is, out_is, back_is, a_is, b_is, i_is, n_is, g_is, h_is)
    (turn_round (nat_lt u (size q.target)) (agree q.induced (is_some (edge q.pattern p r)) (is_some (edge q.target t u))) (agree q.induced (is_some (edge q.pattern r p)) (is_some (edge q.target u t))) (is_open q t u))
