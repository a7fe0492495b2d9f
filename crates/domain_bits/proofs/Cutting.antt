-- What a filtered part of the rows leaves of the domains, in the words of the code.
use Rattle.std.proofs.Common.{◌≡◌, ℕ, ◌+◌, ◌*◌, ◌-◌, ◌<◌, ◌≤◌, Bool, true, false, ◌&&◌, not, ◌==◌, eqb, ◌⊎◌, inl, inr, zero, suc, ◌/◌, ◌%◌, ◌^◌, List, [], ◌∷◌, ◌++◌, length, take, drop, get_or, set, refl, sym, ap, ◌∙◌, subst, arith}
use Rattle.std.proofs.lemmas.List.{take_at, append-nil, get_or-set_same, get_or-set_other}
use Rattle.std.proofs.lemmas.Bool.{and_parts, eqb-true, eq-eqb, ne_eqb, le-ltb, cases_eq, cases_lt}
use borrow.Rule.Slice.PartMut.{put_mid}
use Rattle.graph_theory.specs.Neighbours.{count, members}
use Rattle.std.specs.Int.RustNames.{bit_xor}
use Rattle.bit_rows.specs.BitRows.{has, is_set}
use Rattle.bit_rows.proofs.Passing.{members_same, members_none, length-members}
use Rattle.bit_rows.proofs.WordBits.{one_shifted, xor_same, xor_other}
use Rattle.domain_bits.specs.Removals.{State, in_domain, size_of, at_vertex, filtered}
use Rattle.domain_bits.specs.Changes.{Keeps, Single}
use Rattle.domain_bits.specs.Inside.{Kept}
use Rattle.domain_bits.proofs.Filtering.{leaves}
use Rattle.bit_rows.proofs.Rows.{has_past, length-put_mid}
use Rattle.domain_bits.proofs.Keeping.{state, length_start, start_bits, values_fit, cut_room, cut_enough, cut_after, cut_kept, filtered_keeps}
use Rattle.domain_bits.proofs.Sizes.{row_size}

-- the part that the code cuts out
pub part_is : (p a w : ℕ) (rows xs : List ℕ) → a ≡ p → xs ≡ rows → take (a * w + w - a * w) (drop (a * w) xs) ≡ take w (drop (p * w) rows)
part_is p a w rows xs e f = let g : p * w + w - p * w ≡ w = omega arith in rw (e, f, g) refl

-- a part written back
pub rows_after : (p a w len : ℕ) (rows xs ys : List ℕ) → a ≡ p → xs ≡ rows → len ≡ length rows → p * w + w ≤ length rows → length ys ≡ w
    → take len (put_mid (a * w) (a * w + w - a * w) xs ys ++ drop (length (put_mid (a * w) (a * w + w - a * w) xs ys)) rows) ≡ put_mid (p * w) w rows ys
rows_after p a w len rows xs ys e f l inside long =
    let g : p * w + w - p * w ≡ w = omega arith in
    rw (e, f, g) (take_at (put_mid (p * w) w rows ys) _ len (length-put_mid (p * w) w rows ys inside long ∙ sym l))

-- sizes written back
pub sizes_after : (len : ℕ) (sizes xs : List ℕ) → len ≡ length sizes → length xs ≡ length sizes → take len (xs ++ drop (length xs) sizes) ≡ xs
sizes_after len sizes xs l e = take_at xs (drop (length xs) sizes) len (e ∙ sym l)

-- the same facts of the part, by whatever name
pub part_room : (v n words : ℕ) (removed : List (ℕ × ℕ)) (rows sizes start : List ℕ) (cap p : ℕ)
    → Kept (state v n removed) words rows sizes cap → p < v → start ≡ take words (drop (p * words) rows)
    → length removed + count (has start) (64 * length start) ≤ cap
part_room v n words removed rows sizes start cap p k h e = rw e (cut_room v n words removed rows sizes cap p k h)

pub part_enough : (v n words : ℕ) (removed : List (ℕ × ℕ)) (rows sizes start : List ℕ) (cap p gone : ℕ) (keeps : ℕ → Bool)
    → Kept (state v n removed) words rows sizes cap → p < v → start ≡ take words (drop (p * words) rows)
    → gone ≡ count (leaves start keeps) (64 * length start) → gone ≤ get_or sizes p 0
part_enough v n words removed rows sizes start cap p gone keeps k h e counted =
    rw (counted, e) (cut_enough v n words removed rows sizes cap p keeps k h)

pub part_length : (v n words : ℕ) (removed : List (ℕ × ℕ)) (rows sizes start : List ℕ) (cap p : ℕ)
    → Kept (state v n removed) words rows sizes cap → p < v → start ≡ take words (drop (p * words) rows) → length start ≡ words
part_length v n words removed rows sizes start cap p k h e = ap length e ∙ length_start v n words removed rows sizes cap p k h

-- a row that was filtered is what is left of the domain
row_left : (v n words : ℕ) (removed removed' : List (ℕ × ℕ)) (rows sizes row' : List ℕ) (cap p : ℕ) (keeps : ℕ → Bool)
    → Kept (state v n removed) words rows sizes cap → p < v → length row' ≡ words
    → ((t : ℕ) → t < 64 * words → has row' t ≡ (has (take words (drop (p * words) rows)) t && keeps t))
    → Keeps (state v n removed) (state v n removed') p keeps
    → (t : ℕ) → has row' t ≡ in_domain (state v n removed') p t
row_left v n words removed removed' rows sizes row' cap p keeps k h long bits those t = by (cases_lt t (64 * words))
  where
    by : (t < 64 * words) ⊎ (64 * words ≤ t) → has row' t ≡ in_domain (state v n removed') p t
    by (inl l) = bits t l ∙ rw (start_bits v n words removed rows sizes cap p k h t) (sym (those.kept t))
    by (inr l) =
        let past : n ≤ t = omega (arith, (values_fit v n words removed rows sizes cap k).0) in
        has_past row' t (omega (arith, long)) ∙ rw (le-ltb t n past) refl

-- what is left after a cut
pub record Cut (v n words : ℕ) (removed removed' : List (ℕ × ℕ)) (rows sizes row' : List ℕ) (cap p gone : ℕ) (keeps : ℕ → Bool) : Type 0 where
  pub kept : Kept (state v n removed') words (put_mid (p * words) words rows row') (set sizes p (get_or sizes p 0 - gone)) cap
  pub after : state v n removed' ≡ filtered (state v n removed) p keeps
  pub keeps-those : Keeps (state v n removed) (state v n removed') p keeps
  pub row : (t : ℕ) → has row' t ≡ in_domain (state v n removed') p t
  pub wide : length row' ≡ words
  pub size : size_of (state v n removed') p ≡ get_or sizes p 0 - gone
  pub left : count (has row') (64 * length row') ≡ get_or sizes p 0 - gone

pub cut_all : (v n words : ℕ) (removed removed' : List (ℕ × ℕ)) (rows sizes start row' : List ℕ) (cap cap' p gone : ℕ) (keeps : ℕ → Bool)
    → Kept (state v n removed) words rows sizes cap → p < v → start ≡ take words (drop (p * words) rows) → length row' ≡ length start
    → ((t : ℕ) → t < 64 * length start → has row' t ≡ (has start t && keeps t))
    → gone ≡ count (leaves start keeps) (64 * length start)
    → removed' ≡ removed ++ at_vertex p (members (leaves start keeps) (64 * length start))
    → cap' ≡ cap
    → Cut v n words removed removed' rows sizes row' cap' p gone keeps
cut_all v n words removed removed' rows sizes start row' cap cap' p gone keeps k h e long bits counted trail room =
    let part = take words (drop (p * words) rows) in
    let long' : length row' ≡ words = long ∙ ap length e ∙ length_start v n words removed rows sizes cap p k h in
    let bits' = subst (λ s. (t : ℕ) → t < 64 * length s → has row' t ≡ (has s t && keeps t)) e bits in
    let counted' = subst (λ s. gone ≡ count (leaves s keeps) (64 * length s)) e counted in
    let trail' = subst (λ s. removed' ≡ removed ++ at_vertex p (members (leaves s keeps) (64 * length s))) e trail in
    let after = cut_after v n words removed removed' rows sizes cap p keeps k h trail' in
    let sizes' = set sizes p (get_or sizes p 0 - gone) in
    let rows' = put_mid (p * words) words rows row' in
    let kept : Kept (state v n removed') words rows' sizes' cap = subst (λ d. Kept d words rows' sizes' cap) (sym after)
    (cut_kept v n words removed rows sizes row' cap p gone keeps k h long' bits' counted') in
    let those : Keeps (state v n removed) (state v n removed') p keeps = subst (λ d. Keeps (state v n removed) d p keeps) (sym after) (filtered_keeps (state v n removed) p keeps) in
    let row = row_left v n words removed removed' rows sizes row' cap p keeps k h long'
    (λ t l. bits' t (rw (length_start v n words removed rows sizes cap p k h) l)) those in
    let size : size_of (state v n removed') p ≡ get_or sizes p 0 - gone =
    sym (kept.counts p h) ∙ get_or-set_same sizes p (get_or sizes p 0 - gone) 0 (omega (arith, k.sized)) in
    record {
      kept = subst (λ c. Kept (state v n removed') words rows' sizes' c) (sym room) kept;
      after = after;
      keeps-those = those;
      row = row;
      wide = long';
      size = size;
      left = row_size (state v n removed') p row' (long' ∙ k.words_are) row ∙ size;
    }

-- a domain of which one value is kept is that value
pub kept_single : (d e : State) (p t : ℕ) → Keeps d e p (λ u. u == t) → in_domain d p t ≡ true → Single e p t
kept_single d e p t k here = record {
  here = k.kept t ∙ rw (here, eq-eqb t t refl) refl;
  only = λ u h. eqb-true u t (and_parts (in_domain d p u) (eqb u t) (sym (k.kept u) ∙ h)).1;
}

-- ---- one value taken

one_member : (n t : ℕ) → t < n → members (λ u. u == t) n ≡ t ∷ []
one_member zero t l = absurd (omega arith)
one_member (suc n) t l = by (cases_eq n t) (one_member n t)
  where
    before : n ≡ t → (i : ℕ) → i < n → eqb i t ≡ false
    before e i h = ne_eqb i t (λ f. absurd (omega arith))

    by : (n ≡ t) ⊎ (n ≡ t → ⊥) → (t < n → members (λ u. u == t) n ≡ t ∷ []) → members (λ u. u == t) (suc n) ≡ t ∷ []
    by (inl e) below = rw (members_none (λ u. u == t) n (before e), eq-eqb n t e, e) refl
    by (inr ne) below = rw (below (omega arith), ne_eqb n t ne) refl

-- of a row of which one value does not stay that value leaves
pub one_leaves : (start : List ℕ) (t : ℕ) → t < 64 * length start → has start t ≡ true
    → members (leaves start (λ u. not (u == t))) (64 * length start) ≡ t ∷ []
one_leaves start t l here =
    members_same (leaves start (λ u. not (u == t))) (λ u. u == t) (64 * length start) (λ i h. by i (cases_eq i t)) ∙ one_member (64 * length start) t l
  where
    none : (b : Bool) → (b && not (not false)) ≡ false
    none true = refl
    none false = refl

    by : (i : ℕ) → (i ≡ t) ⊎ (i ≡ t → ⊥) → leaves start (λ u. not (u == t)) i ≡ eqb i t
    by i (inl e) = rw (e, here, eq-eqb t t refl) refl
    by i (inr ne) = rw (ne_eqb i t ne) (none (has start i))

pub one_left : (start : List ℕ) (t : ℕ) → t < 64 * length start → has start t ≡ true → 1 ≡ count (leaves start (λ u. not (u == t))) (64 * length start)
one_left start t l here = sym (ap length (one_leaves start t l here)) ∙ length-members (leaves start (λ u. not (u == t))) (64 * length start)

-- a value that is not there takes nothing with it
pub keeps_absent : (d : State) (p t : ℕ) → in_domain d p t ≡ false → Keeps d d p (λ u. not (u == t))
keeps_absent d p t none = record {
  shrinks = record { vertices_same = refl; values_same = refl; rest = []; front = sym (append-nil d.removed); others = λ q u ne. refl; less = λ q u e. e };
  kept = λ u. by u (cases_eq u t);
}
  where
    stays : (b : Bool) → b ≡ (b && not false)
    stays true = refl
    stays false = refl

    by : (u : ℕ) → (u ≡ t) ⊎ (u ≡ t → ⊥) → in_domain d p u ≡ (in_domain d p u && not (eqb u t))
    by u (inl e) = rw (e, none) refl
    by u (inr ne) = rw (ne_eqb u t ne) (stays (in_domain d p u))

-- a word with one of its bits turned off
pub xor_row : (row : List ℕ) (t : ℕ) → t < 64 * length row → has row t ≡ true → (u : ℕ)
    → has (set row (t / 64) (bit_xor (get_or row (t / 64) 0) (1 * 2 ^ (t % 64) % 2 ^ 64))) u ≡ (has row u && not (u == t))
xor_row row t l here u = rw (one_shifted (t % 64) (omega arith)) (by (cases_eq (u / 64) (t / 64)))
  where
    new : List ℕ
    new = set row (t / 64) (bit_xor (get_or row (t / 64) 0) (2 ^ (t % 64)))

    inside : t / 64 < length row
    inside = omega arith

    stays : (b : Bool) → b ≡ (b && not false)
    stays true = refl
    stays false = refl

    bit : (i : ℕ) → (i ≡ t % 64) ⊎ (i ≡ t % 64 → ⊥) → is_set (bit_xor (get_or row (t / 64) 0) (2 ^ (t % 64))) i ≡ (is_set (get_or row (t / 64) 0) i && not (eqb i (t % 64)))
    bit i (inl e) = rw (e, eq-eqb (t % 64) (t % 64) refl, here, xor_same (get_or row (t / 64) 0) (t % 64) here) refl
    bit i (inr ne) = rw (ne_eqb i (t % 64) ne, xor_other (get_or row (t / 64) 0) (t % 64) i ne) (stays (is_set (get_or row (t / 64) 0) i))

    same-value : u / 64 ≡ t / 64 → eqb (u % 64) (t % 64) ≡ eqb u t
    same-value e = pick (cases_eq (u % 64) (t % 64))
      where
        pick : (u % 64 ≡ t % 64) ⊎ (u % 64 ≡ t % 64 → ⊥) → eqb (u % 64) (t % 64) ≡ eqb u t
        pick (inl f) = eq-eqb (u % 64) (t % 64) f ∙ sym (eq-eqb u t (omega (arith, e, f)))
        pick (inr ne) = ne_eqb (u % 64) (t % 64) ne ∙ sym (ne_eqb u t (λ f. ne (ap (λ x. x % 64) f)))

    by : (u / 64 ≡ t / 64) ⊎ (u / 64 ≡ t / 64 → ⊥) → has (set row (t / 64) (bit_xor (get_or row (t / 64) 0) (2 ^ (t % 64)))) u ≡ (has row u && not (eqb u t))
    by (inl e) = rw (← same-value e, e, get_or-set_same row (t / 64) (bit_xor (get_or row (t / 64) 0) (2 ^ (t % 64))) 0 inside) (bit (u % 64) (cases_eq (u % 64) (t % 64)))
    by (inr ne) = rw (get_or-set_other row (t / 64) (u / 64) (bit_xor (get_or row (t / 64) 0) (2 ^ (t % 64))) 0 ne, ne_eqb u t (λ f. ne (ap (λ x. x / 64) f))) (stays (has row u))
