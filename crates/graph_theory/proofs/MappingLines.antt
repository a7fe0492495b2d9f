-- A text is that of one mapping, or has one first faulty line.

use Rattle.std.specs.Prelude.{◌≡◌, ◌≢◌, ℕ, zero, suc, ◌+◌, ◌^◌, ◌<◌, ◌≤◌, ◌⊎◌, List, [], ◌∷◌, ◌++◌, length, codes, refl}
use Rattle.std.proofs.Common.{sym, ap, subst, inl, inr, ◌∙◌, append_assoc, length-append, arith}
use Rattle.std.proofs.lemmas.Bool.{cases_eq}
use Rattle.std.proofs.lemmas.List.{append_cancel_left, append-nil}
use Rattle.std.proofs.lemmas.Fmt.{decimal_is_IsNumeral, decimal_injective}
use Rattle.std.proofs.lemmas.Str.Parse.{digit_from_value}
use Rattle.std.specs.Fmt.{decimal}
use Rattle.std.specs.Str.Parse.{AllDigits}
use Rattle.graph_theory.specs.Mapping.{mapping_line, mapping_lines, yes_line, AreNumbers32, HasNoLine, IsMapping, StopsAfter, FaultyLine}

-- A digit is no line feed.
no_digit : (bs : List ℕ) → AllDigits 10 (10 ∷ bs) → ⊥
no_digit bs h = let r = digit_from_value 10 h.0 in absurd (omega arith)

-- Equal lists have equal parts.
pub heads : (x y : ℕ) (xs ys : List ℕ) → x ∷ xs ≡ y ∷ ys → (x ≡ y) × (xs ≡ ys)
heads x y xs ys e = (cc, cc)

-- Digits in front of a line feed are found again.
cut_at_line_feed : (xs ys r s : List ℕ) → AllDigits 10 xs → AllDigits 10 ys → xs ++ 10 ∷ r ≡ ys ++ 10 ∷ s → (xs ≡ ys) × (r ≡ s)
cut_at_line_feed [] [] r s h k e = (refl, (heads _ _ _ _ e).1)
cut_at_line_feed [] (y ∷ ys) r s h k e =
    let p = heads _ _ _ _ e in
    absurd (no_digit ys (subst (λ (v : ℕ). AllDigits 10 (v ∷ ys)) (sym p.0) k))
cut_at_line_feed (x ∷ xs) [] r s h k e =
    let p = heads _ _ _ _ e in
    absurd (no_digit xs (subst (λ (v : ℕ). AllDigits 10 (v ∷ xs)) p.0 h))
cut_at_line_feed (x ∷ xs) (y ∷ ys) r s h k e =
    let p = heads _ _ _ _ e in
    let q = cut_at_line_feed xs ys r s h.1 k.1 p.1 in
    let first = p.0 in
    let rest = q.0 in
    (cc, q.1)

-- A line and what follows, part by part.
pub line_parts : (p t : ℕ) (r : List ℕ) → mapping_line p t ++ r ≡ decimal p ++ (codes " -> " ++ (decimal t ++ 10 ∷ r))
line_parts p t r = simp append_assoc

-- A line of vertex p has one image.
line_cancel : (p t u : ℕ) (r s : List ℕ) → t < 2 ^ 32 → u < 2 ^ 32 → mapping_line p t ++ r ≡ mapping_line p u ++ s → (t ≡ u) × (r ≡ s)
line_cancel p t u r s h k e =
    let whole = sym (line_parts p t r) ∙ (e ∙ line_parts p u s) in
    let images = append_cancel_left (codes " -> ") _ _ (append_cancel_left (decimal p) _ _ whole) in
    let t_digits = decimal_is_IsNumeral t (omega arith) in
    let u_digits = decimal_is_IsNumeral u (omega arith) in
    let cut = cut_at_line_feed (decimal t) (decimal u) r s t_digits.0.1 u_digits.0.1 images in
    (decimal_injective t u (omega arith) (omega arith) cut.0, cut.1)

-- A line is not empty.
line_not_empty : (p t : ℕ) (r : List ℕ) → mapping_line p t ++ r ≡ [] → ⊥
line_not_empty p t r e = let n : length (mapping_line p t ++ r) ≡ 0 = ap length e in absurd (omega (arith, simp length-append at n))

-- The same for an equal vertex.
HasNoLine-same : (i j : ℕ) (r : List ℕ) → i ≡ j → HasNoLine i r → HasNoLine j r
HasNoLine-same i j r e h = subst (λ (q : ℕ). HasNoLine q r) e h

-- No line stands in no bytes.
HasNoLine-empty : (p : ℕ) → HasNoLine p []
HasNoLine-empty p t more h e = line_not_empty p t more (sym e)

-- The first of some lines stands in front.
first_line : (p t : ℕ) (m r : List ℕ) → mapping_lines p (t ∷ m) ++ r ≡ mapping_line p t ++ (mapping_lines (p + 1) m ++ r)
first_line p t m r = append_assoc (mapping_line p t) (mapping_lines (p + 1) m) r

-- Lines up to a place where none follows are found again.
lines_cancel : (p : ℕ) (m n r s : List ℕ) → AreNumbers32 m → AreNumbers32 n → HasNoLine (p + length m) r → HasNoLine (p + length n) s
    → mapping_lines p m ++ r ≡ mapping_lines p n ++ s → (m ≡ n) × (r ≡ s)
lines_cancel p [] [] r s h k no_r no_s e = (refl, e)
lines_cancel p [] (u ∷ n) r s h k no_r no_s e =
    absurd (HasNoLine-same (p + 0) p r (omega arith) no_r u (mapping_lines (p + 1) n ++ s) k.0 (e ∙ first_line p u n s))
lines_cancel p (t ∷ m) [] r s h k no_r no_s e =
    absurd (HasNoLine-same (p + 0) p s (omega arith) no_s t (mapping_lines (p + 1) m ++ r) h.0 (sym e ∙ first_line p t m r))
lines_cancel p (t ∷ m) (u ∷ n) r s h k no_r no_s e =
    let one = line_cancel p t u (mapping_lines (p + 1) m ++ r) (mapping_lines (p + 1) n ++ s) h.0 k.0 (sym (first_line p t m r) ∙ (e ∙ first_line p u n s)) in
    let rest = lines_cancel (p + 1) m n r s h.1 k.1
    (HasNoLine-same _ _ r (omega arith) no_r) (HasNoLine-same _ _ s (omega arith) no_s) one.1 in
    let first = one.0 in
    let more = rest.0 in
    (cc, rest.1)

-- A text has one mapping.
pub one_mapping : (bytes m n : List ℕ) → IsMapping bytes m → IsMapping bytes n → m ≡ n
one_mapping bytes m n h k =
    let same = append_cancel_left yes_line _ _ (sym h.text ∙ k.text) in
    (lines_cancel 0 m n [] [] h.images k.images (HasNoLine-empty _) (HasNoLine-empty _)
    (append-nil (mapping_lines 0 m) ∙ (same ∙ sym (append-nil (mapping_lines 0 n))))).0

-- The lines of a text begin with that of vertex 0.
from_zero : (m r : List ℕ) → HasNoLine (length m) r → HasNoLine (0 + length m) r
from_zero m r h = HasNoLine-same (length m) (0 + length m) r (omega arith) h

-- What follows the line `yes`.
after_yes : (bytes m : List ℕ) (s : StopsAfter bytes m) → bytes ≡ yes_line ++ (mapping_lines 0 m ++ s.rest)
after_yes bytes m s = s.text ∙ append_assoc yes_line (mapping_lines 0 m) s.rest

-- The text of a mapping has no faulty line.
pub no_fault : (bytes m : List ℕ) (n : ℕ) → IsMapping bytes m → FaultyLine bytes n → ⊥
no_fault bytes m n h f =
    elim f [
      | inl first ↦ first.1 (mapping_lines 0 m) h.text
      | inr later ↦
          (let s = later.2 in
          let same = append_cancel_left yes_line _ _ (sym h.text ∙ after_yes bytes later.0 s) in
          s.goes_on (sym (lines_cancel 0 m later.0 [] s.rest h.images s.images (HasNoLine-empty _) (from_zero later.0 s.rest s.no_line)
          (append-nil (mapping_lines 0 m) ∙ same)).1))
    ]

-- A text has one first faulty line.
pub one_fault : (bytes : List ℕ) (n k : ℕ) → FaultyLine bytes n → FaultyLine bytes k → n ≡ k
one_fault bytes n k f g =
    elim f [
      | inl first ↦
          elim g [
            | inl other ↦ first.0 ∙ sym other.0
            | inr other ↦ absurd (first.1 _ (after_yes bytes other.0 other.2))
          ]
      | inr later ↦
          elim g [
            | inl other ↦ absurd (other.1 _ (after_yes bytes later.0 later.2))
            | inr other ↦
                (let same = append_cancel_left yes_line _ _ (sym (after_yes bytes later.0 later.2) ∙ after_yes bytes other.0 other.2) in
                let maps = (lines_cancel 0 later.0 other.0 _ _ later.2.images other.2.images (from_zero later.0 _ later.2.no_line) (from_zero other.0 _ other.2.no_line) same).0 in
                later.1 ∙ (ap (λ (m : List ℕ). length m + 2) maps ∙ sym other.1))
          ]
    ]

-- A list begins with another or does not.
begins_with : (xs ys : List ℕ) → ((more : List ℕ) × (ys ≡ xs ++ more)) ⊎ ((more : List ℕ) → ys ≢ xs ++ more)
begins_with [] ys = inl (ys, refl)
begins_with (x ∷ xs) [] = inr (λ more e. cc)
begins_with (x ∷ xs) (y ∷ ys) =
    elim (cases_eq y x) [
      | inl same ↦
          elim (begins_with xs ys) [
            | inl b ↦ (let rest = b.1 in inl (b.0, cc))
            | inr differs ↦ inr (λ more e. differs more (heads _ _ _ _ e).1)
          ]
      | inr other ↦ inr (λ more e. other (heads _ _ _ _ e).0)
    ]

-- The bytes begin with a line of vertex p whose image is below b, or do not.
line_below : (b p : ℕ) (r : List ℕ) → ((t : ℕ) × (more : List ℕ) × (t < b) × (r ≡ mapping_line p t ++ more)) ⊎ ((t : ℕ) (more : List ℕ) → t < b → r ≢ mapping_line p t ++ more)
line_below zero p r = inr (λ t more h e. absurd (omega arith))
line_below (suc b) p r =
    elim (begins_with (mapping_line p b) r) [
      | inl y ↦ inl (b, y.0, omega arith, y.1)
      | inr differs ↦
          elim (line_below b p r) [
            | inl y ↦ inl (y.0, y.1, omega (arith, y.2), y.3)
            | inr none ↦ inr (λ t more h e.
                elim (cases_eq t b) [
                  | inl same ↦ differs more (subst (λ (v : ℕ). r ≡ mapping_line p v ++ more) same e)
                  | inr other ↦ none t more (omega arith) e
                ])
          ]
    ]

-- Lines from vertex p on, and nothing more.
pub record AreLines (r : List ℕ) (p : ℕ) : Type 0 where
  pub images : List ℕ
  pub small : AreNumbers32 images
  pub text : r ≡ mapping_lines p images

-- Lines from vertex p on, and then bytes that do not begin with the next.
pub record LinesStop (r : List ℕ) (p : ℕ) : Type 0 where
  pub images : List ℕ
  pub rest : List ℕ
  pub small : AreNumbers32 images
  pub text : r ≡ mapping_lines p images ++ rest
  pub goes_on : rest ≢ []
  pub no_line : HasNoLine (p + length images) rest

-- What follows a line is shorter.
line_shortens : (p t n : ℕ) (r more : List ℕ) → r ≡ mapping_line p t ++ more → length r ≤ suc n → length more ≤ n
line_shortens p t n r more e h = let l : length r ≡ length (mapping_line p t ++ more) = ap length e in omega (arith, simp length-append at l)

-- Bytes are lines, or stop being lines at a place.
lines_or_stop : (n p : ℕ) (r : List ℕ) → length r ≤ n → AreLines r p ⊎ LinesStop r p
lines_or_stop n p [] h = inl (record { images = []; small = tt; text = refl })
lines_or_stop zero p (b ∷ bs) h = absurd (omega arith)
lines_or_stop (suc n) p (b ∷ bs) h =
    elim (line_below (2 ^ 32) p (b ∷ bs)) [
      | inl y ↦
          elim (lines_or_stop n (p + 1) y.1 (line_shortens p y.0 n (b ∷ bs) y.1 y.3 h)) [
            | inl a ↦ inl (record {
              images = y.0 ∷ a.images;
              small = (y.2, a.small);
              text = y.3 ∙ ap (λ (v : List ℕ). mapping_line p y.0 ++ v) a.text;
            })
            | inr s ↦ inr (record {
              images = y.0 ∷ s.images;
              rest = s.rest;
              small = (y.2, s.small);
              text = y.3 ∙ (ap (λ (v : List ℕ). mapping_line p y.0 ++ v) s.text ∙ sym (append_assoc (mapping_line p y.0) (mapping_lines (p + 1) s.images) s.rest));
              goes_on = s.goes_on;
              no_line = HasNoLine-same (p + 1 + length s.images) (p + length (y.0 ∷ s.images)) s.rest (omega arith) s.no_line;
            })
          ]
      | inr none ↦ inr (record {
        images = [];
        rest = b ∷ bs;
        small = tt;
        text = refl;
        goes_on = λ e. cc;
        no_line = HasNoLine-same p (p + 0) (b ∷ bs) (omega arith) none;
      })
    ]

-- A text is that of a mapping or has a faulty line.
pub mapping_or_fault : (bytes : List ℕ) → ((m : List ℕ) × IsMapping bytes m) ⊎ ((n : ℕ) × FaultyLine bytes n)
mapping_or_fault bytes =
    elim (begins_with yes_line bytes) [
      | inl y ↦
          elim (lines_or_stop (length y.0) 0 y.0 (omega arith)) [
            | inl a ↦ inl (a.images, record { images = a.small; text = y.1 ∙ ap (λ (v : List ℕ). yes_line ++ v) a.text })
            | inr s ↦ inr (
              length s.images + 2,
              inr (
                s.images,
                refl,
                record {
                  images = s.small;
                  rest = s.rest;
                  text = y.1 ∙ (ap (λ (v : List ℕ). yes_line ++ v) s.text ∙ sym (append_assoc yes_line (mapping_lines 0 s.images) s.rest));
                  goes_on = s.goes_on;
                  no_line = HasNoLine-same (0 + length s.images) (length s.images) s.rest (omega arith) s.no_line;
                },
              ),
            )
          ]
      | inr differs ↦ inr (1, inl (refl, differs))
    ]
