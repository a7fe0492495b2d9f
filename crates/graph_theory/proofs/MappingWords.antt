-- The parts of a line of a mapping's text.

use Rattle.std.specs.Prelude.{◌≡◌, ◌≢◌, ℕ, zero, suc, ◌+◌, ◌^◌, ◌<◌, nat_lt, Bool, true, ◌&&◌, if◌then◌else◌, List, [], ◌∷◌, ◌++◌, length, take, get_or, codes, Option, Some, None, Result, Ok, Err, IfOk, IfErr, MatchResult, refl}
use Rattle.std.proofs.Common.{sym, ap, subst, ◌∙◌, append_assoc, inr, arith, tests}
use Rattle.std.proofs.lemmas.List.{append_cancel_left, append-nil}
use Rattle.std.proofs.lemmas.Fmt.{decimal_is_IsNumeral}
use Rattle.std.proofs.lemmas.Str.Parse.{digit_from_value, numerals_by_value, tells_all_ascii_digits}
use Rattle.std.specs.Fmt.{decimal}
use Rattle.std.specs.Str.{all_ascii_digits}
use Rattle.std.specs.Str.Parse.{AllDigits}
use Rattle.graph_theory.specs.Text.{number_of}
use Rattle.graph_theory.specs.Mapping.{mapping_line, mapping_lines, yes_line, yes_text, AreNumbers32, HasNoLine, HasNoLineFeed, IsMapping, FaultyLine, OnLine, MappingLaws}
use Rattle.graph_theory.specs.declared.mapping_text.MapFault.{MapFault}
use Rattle.graph_theory.specs.declared.mapping_text.MapFault.TheVariants.{Line, NoMemory}
use Rattle.graph_theory.proofs.MappingLines.{line_parts, heads}

-- Digits have no line feed.
HasNoLineFeed-digits : (ds : List ℕ) → AllDigits 10 ds → HasNoLineFeed ds
HasNoLineFeed-digits [] h = tt
HasNoLineFeed-digits (d ∷ ds) h = (λ e. let r = digit_from_value d h.0 in omega arith, HasNoLineFeed-digits ds h.1)

-- One byte more is no line feed.
pub HasNoLineFeed-more : (n : ℕ) (bs : List ℕ) → HasNoLineFeed (take n bs) → n < length bs → get_or bs n 0 ≢ 10 → HasNoLineFeed (take (n + 1) bs)
HasNoLineFeed-more n bs h l e = subst (λ (k : ℕ). HasNoLineFeed (take k bs)) (let d : suc n ≡ n + 1 = omega arith in d) (more n bs h l e)
  where
    more : (n : ℕ) (bs : List ℕ) → HasNoLineFeed (take n bs) → n < length bs → get_or bs n 0 ≢ 10 → HasNoLineFeed (take (suc n) bs)
    more n [] h l e = tt
    more zero (b ∷ bs) h l e = (e, tt)
    more (suc n) (b ∷ bs) h l e = (h.0, more n bs h.1 (omega arith) e)

-- The front of a text up to its first line feed is one.
pub line_same : (xs ys r s : List ℕ) → HasNoLineFeed xs → HasNoLineFeed ys → xs ++ 10 ∷ r ≡ ys ++ 10 ∷ s → xs ≡ ys
line_same [] [] r s h k e = refl
line_same [] (y ∷ ys) r s h k e = absurd (k.0 (sym (heads _ _ _ _ e).0))
line_same (x ∷ xs) [] r s h k e = absurd (h.0 (heads _ _ _ _ e).0)
line_same (x ∷ xs) (y ∷ ys) r s h k e =
    let p = heads _ _ _ _ e in
    let rest = line_same xs ys r s h.1 k.1 p.1 in
    let first = p.0 in
    cc

-- A text with a line feed has one.
not_without : (xs r : List ℕ) → HasNoLineFeed (xs ++ 10 ∷ r) → ⊥
not_without [] r h = h.0 refl
not_without (x ∷ xs) r h = not_without xs r h.1

-- The tests of a number, where they hold.
number_if : (n v : ℕ) (d : Bool) → 0 < n → d ≡ true → v < 2 ^ 32 → (if nat_lt 0 n && (d && nat_lt v (2 ^ 32)) then Some v else None) ≡ Some v
number_if n v d h k l = grind (arith, tests)

-- The text of a number below 2^32 writes it.
pub number_of-decimal : (t : ℕ) → t < 2 ^ 32 → number_of (decimal t) ≡ Some t
number_of-decimal t h =
    let d = decimal_is_IsNumeral t (omega arith) in
    let own = numerals_by_value _ tells_all_ascii_digits in
    let digits = own.from (decimal t) d.0.1 in
    let value = d.1 in
    rw value (number_if (length (decimal t)) t (all_ascii_digits (decimal t)) d.0.0 digits h)

-- Without the vertex's number there is no line.
pub HasNoLine-number : (p : ℕ) (bs : List ℕ) → ((more : List ℕ) → bs ≢ decimal p ++ more) → HasNoLine p bs
HasNoLine-number p bs h t more l e = h _ (e ∙ line_parts p t more)

-- Nor without the arrow.
pub HasNoLine-arrow : (p : ℕ) (bs arrow : List ℕ) → bs ≡ decimal p ++ arrow → ((more : List ℕ) → arrow ≢ codes " -> " ++ more) → HasNoLine p bs
HasNoLine-arrow p bs arrow e h t more l f = h _ (append_cancel_left (decimal p) _ _ (sym e ∙ (f ∙ line_parts p t more)))

-- In a line of the vertex, its image follows the arrow.
image_of : (p t : ℕ) (bs arrow image more : List ℕ) → bs ≡ decimal p ++ arrow → arrow ≡ codes " -> " ++ image → bs ≡ mapping_line p t ++ more → image ≡ decimal t ++ 10 ∷ more
image_of p t bs arrow image more e f g =
    append_cancel_left (codes " -> ") _ _ (sym f ∙ append_cancel_left (decimal p) _ _ (sym e ∙ (g ∙ line_parts p t more)))

-- Nor without a line feed.
pub HasNoLine-feed : (p : ℕ) (bs arrow image : List ℕ) → bs ≡ decimal p ++ arrow → arrow ≡ codes " -> " ++ image → HasNoLineFeed image → HasNoLine p bs
HasNoLine-feed p bs arrow image e f h t more l g =
    not_without (decimal t) more (subst HasNoLineFeed (image_of p t bs arrow image more e f g) h)

-- Nor without an image.
pub HasNoLine-image : (p : ℕ) (bs arrow image word rest : List ℕ) → bs ≡ decimal p ++ arrow → arrow ≡ codes " -> " ++ image → image ≡ word ++ 10 ∷ rest → HasNoLineFeed word
    → ((t : ℕ) → t < 2 ^ 32 → word ≢ decimal t) → HasNoLine p bs
HasNoLine-image p bs arrow image word rest e f s w h t more l g =
    let d = decimal_is_IsNumeral t (omega arith) in
    h t l (line_same word (decimal t) rest more w (HasNoLineFeed-digits _ d.0.1) (sym s ∙ image_of p t bs arrow image more e f g))

-- The parts make a line.
pub line_from_parts : (p t : ℕ) (bs arrow image rest : List ℕ) → bs ≡ decimal p ++ arrow → arrow ≡ codes " -> " ++ image → image ≡ decimal t ++ 10 ∷ rest → bs ≡ mapping_line p t ++ rest
line_from_parts p t bs arrow image rest e f g = rw (e, f, g) (sym (line_parts p t rest))

-- Something is not nothing.
some_none : (o : Option ℕ) (t : ℕ) → o ≡ Some t → o ≡ None → ⊥
some_none o t e f = cc

-- Something is one thing.
some_same : (x y : ℕ) → Some x ≡ Some y → x ≡ y
some_same x y e = cc

-- A word that writes no number is the text of none.
pub no_image : (w : List ℕ) (o : Option ℕ) → o ≡ number_of w → o ≡ None → (t : ℕ) → t < 2 ^ 32 → w ≢ decimal t
no_image w o e f t l g = let h : number_of w ≡ Some t = ap number_of g ∙ number_of-decimal t l in some_none o t (e ∙ h) f

-- A word other than the text of its number is the text of none.
pub other_image : (w text : List ℕ) (image : ℕ) → number_of w ≡ Some image → text ≡ decimal image → (text ≡ w → ⊥) → (t : ℕ) → t < 2 ^ 32 → w ≢ decimal t
other_image w text image e f h t l g =
    let same : image ≡ t = some_same image t (sym e ∙ (ap number_of g ∙ number_of-decimal t l)) in
    h (f ∙ (ap decimal same ∙ sym g))

-- The lines of one image more.
pub mapping_lines-push : (p t : ℕ) (m : List ℕ) → mapping_lines p (m ++ t ∷ []) ≡ mapping_lines p m ++ mapping_line (p + length m) t
mapping_lines-push p t [] = let d : p + 0 ≡ p = omega arith in rw d (append-nil (mapping_line p t))
mapping_lines-push p t (u ∷ m) =
    let d : p + 1 + length m ≡ p + length (u ∷ m) = omega arith in
    let more : mapping_lines (p + 1) (m ++ t ∷ []) ≡ mapping_lines (p + 1) m ++ mapping_line (p + length (u ∷ m)) t =
    mapping_lines-push (p + 1) t m ∙ ap (λ (q : ℕ). mapping_lines (p + 1) m ++ mapping_line q t) d in
    ap (λ (v : List ℕ). mapping_line p u ++ v) more ∙ sym (append_assoc (mapping_line p u) (mapping_lines (p + 1) m) (mapping_line (p + length (u ∷ m)) t))

-- One image more.
pub AreNumbers32-push : (m : List ℕ) (t : ℕ) → AreNumbers32 m → t < 2 ^ 32 → AreNumbers32 (m ++ t ∷ [])
AreNumbers32-push [] t h l = (l, tt)
AreNumbers32-push (u ∷ m) t h l = (h.0, AreNumbers32-push m t h.1 l)

-- A text of lines that goes on with a line is one of a line more.
pub yes_text-push : (bytes m rest more : List ℕ) (t : ℕ) → bytes ≡ yes_text m ++ rest → rest ≡ mapping_line (length m) t ++ more → bytes ≡ yes_text (m ++ t ∷ []) ++ more
yes_text-push bytes m rest more t e f =
    let d : 0 + length m ≡ length m = omega arith in
    let lines : mapping_lines 0 (m ++ t ∷ []) ≡ mapping_lines 0 m ++ mapping_line (length m) t =
    mapping_lines-push 0 t m ∙ ap (λ (q : ℕ). mapping_lines 0 m ++ mapping_line q t) d in
    rw (e, f, lines) (simp append_assoc)

-- The whole text was read.
pub IsMapping-all : (bytes m rest : List ℕ) → AreNumbers32 m → bytes ≡ yes_text m ++ rest → length rest ≡ 0 → IsMapping bytes m
IsMapping-all bytes m [] h e l = record { images = h; text = e ∙ append-nil (yes_text m) }
IsMapping-all bytes m (b ∷ rest) h e l = absurd (omega arith)

-- The next line is faulty.
pub FaultyLine-next : (bytes m rest : List ℕ) → AreNumbers32 m → bytes ≡ yes_text m ++ rest → (length rest ≡ 0 → ⊥) → HasNoLine (length m) rest → FaultyLine bytes (length m + 2)
FaultyLine-next bytes m rest h e l none = inr (m, refl, record { images = h; rest = rest; text = e; goes_on = λ f. l (ap length f); no_line = none })

-- The line `yes` was read.
pub yes_text-none : (bytes rest : List ℕ) → bytes ≡ yes_line ++ rest → bytes ≡ yes_text [] ++ rest
yes_text-none bytes rest e = e

-- Where the text is a mapping's, the answer is this mapping or want of memory.
pub only_mapping : {X : Type 0} (laws : MappingLaws) (bytes : List ℕ) (images : X → List ℕ) (r : Result X MapFault)
    → IfOk r (λ x. IsMapping bytes (images x)) → IfErr r (λ e. OnLine e (FaultyLine bytes)) → (m : List ℕ) → IsMapping bytes m → MatchResult r (λ x. images x ≡ m) (λ e. e ≡ NoMemory)
only_mapping laws bytes images (Ok x) h k m is = laws.one_mapping bytes (images x) m h is
only_mapping laws bytes images (Err NoMemory) h k m is = refl
only_mapping laws bytes images (Err (Line n)) h k m is = absurd (laws.no_fault bytes m n is k)

-- Where it has a faulty line, the answer is this line or want of memory.
pub only_line : {X : Type 0} (laws : MappingLaws) (bytes : List ℕ) (images : X → List ℕ) (r : Result X MapFault)
    → IfOk r (λ x. IsMapping bytes (images x)) → IfErr r (λ e. OnLine e (FaultyLine bytes)) → (n : ℕ) → FaultyLine bytes n → MatchResult r (λ _. ⊥) (λ e. OnLine e (λ k. k ≡ n))
only_line laws bytes images (Ok x) h k n fault = laws.no_fault bytes (images x) n h fault
only_line laws bytes images (Err NoMemory) h k n fault = tt
only_line laws bytes images (Err (Line l)) h k n fault = laws.one_fault bytes l n k fault
