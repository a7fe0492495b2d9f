-- The text of a mapping, put line by line.

use Rattle.std.proofs.Common.{◌≡◌, ℕ, ◌+◌, ◌<◌, Bool, List, [], ◌∷◌, ◌++◌, length, take, drop, get_or, Option, refl, sym, ap, subst, ◌∙◌, append_assoc, arith}
use Rattle.std.specs.Io.KnownBytes.{append_known}
use Rattle.std.proofs.lemmas.List.{take_more, take-append-drop, length-take-le}
use Rattle.graph_theory.specs.Mapping.{mapping_line, mapping_lines, yes_line, yes_text}
use Rattle.graph_theory.proofs.MappingWords.{mapping_lines-push}
use Rattle.outer_io.specs.KnownText.{StopsIn}
use Rattle.outer_io.proofs.KnownTexts.{append_known-append_known, StopsIn-first, StopsIn-then}

-- the lines of two lists of images, one after the other
mapping_lines-append : (p : ℕ) (xs ys : List ℕ) → mapping_lines p (xs ++ ys) ≡ mapping_lines p xs ++ mapping_lines (p + length xs) ys
mapping_lines-append p [] ys = let e : p + 0 ≡ p = omega arith in rw e refl
mapping_lines-append p (x ∷ xs) ys =
    let e : p + 1 + length xs ≡ p + length (x ∷ xs) = omega arith in
    ap (λ (t : List ℕ). mapping_line p x ++ t) (mapping_lines-append (p + 1) xs ys ∙ ap (λ (q : ℕ). mapping_lines (p + 1) xs ++ mapping_lines q ys) e)
    ∙ sym (append_assoc (mapping_line p x) (mapping_lines (p + 1) xs) (mapping_lines (p + length (x ∷ xs)) ys))

-- one line more
pub yes_text-more : (m : List ℕ) (i : ℕ) → i < length m → yes_text (take (i + 1) m) ≡ yes_text (take i m) ++ mapping_line i (get_or m i 0)
yes_text-more m i i_in =
    let at : 0 + length (take i m) ≡ i = omega (arith, length-take-le i m (omega arith)) in
    ap yes_text (take_more m i 0 i_in)
    ∙ ap (λ (t : List ℕ). yes_line ++ t) (mapping_lines-push 0 (get_or m i 0) (take i m) ∙ ap (λ (q : ℕ). mapping_lines 0 (take i m) ++ mapping_line q (get_or m i 0)) at)
    ∙ sym (append_assoc yes_line (mapping_lines 0 (take i m)) (mapping_line i (get_or m i 0)))

-- the lines so far and those after them
pub yes_text-parts : (m : List ℕ) (i : ℕ) → yes_text m ≡ yes_text (take i m) ++ mapping_lines (0 + length (take i m)) (drop i m)
yes_text-parts m i =
    ap yes_text (sym (take-append-drop i m)) ∙ ap (λ (t : List ℕ). yes_line ++ t) (mapping_lines-append 0 (take i m) (drop i m))
    ∙ sym (append_assoc yes_line (mapping_lines 0 (take i m)) (mapping_lines (0 + length (take i m)) (drop i m)))

-- where a line stopped, the whole stopped
pub StopsIn-line : (steady steady_now : Bool) → steady_now ≡ steady → (old middle new : Option (List ℕ)) (m : List ℕ) (i : ℕ) → i < length m
    → middle ≡ append_known old (yes_text (take i m)) → StopsIn steady_now middle new (mapping_line i (get_or m i 0)) → StopsIn steady old new (yes_text m)
StopsIn-line steady steady_now same old middle new m i i_in before s =
    let here = subst (λ (b : Bool). StopsIn b middle new (mapping_line i (get_or m i 0))) same s in
    let to_line = StopsIn-then steady old middle new (yes_text (take i m)) (mapping_line i (get_or m i 0)) before here in
    let rest = mapping_lines (0 + length (take (i + 1) m)) (drop (i + 1) m) in
    subst (λ (t : List ℕ). StopsIn steady old new t)
    (ap (λ (t : List ℕ). t ++ rest) (sym (yes_text-more m i i_in)) ∙ sym (yes_text-parts m (i + 1)))
    (StopsIn-first steady old new _ rest to_line)

-- where the first line stopped, the whole stopped
pub StopsIn-yes : (steady : Bool) (old new : Option (List ℕ)) (m : List ℕ) → StopsIn steady old new yes_line → StopsIn steady old new (yes_text m)
StopsIn-yes steady old new m s = StopsIn-first steady old new yes_line (mapping_lines 0 m) s

-- the lines so far were put, and then one more
pub append_known-line : (old middle new : Option (List ℕ)) (m : List ℕ) (i : ℕ) → i < length m → middle ≡ append_known old (yes_text (take i m))
    → new ≡ append_known middle (mapping_line i (get_or m i 0)) → new ≡ append_known old (yes_text (take (i + 1) m))
append_known-line old middle new m i i_in before put =
    put ∙ ap (λ (k : Option (List ℕ)). append_known k (mapping_line i (get_or m i 0))) before
    ∙ append_known-append_known old (yes_text (take i m)) (mapping_line i (get_or m i 0)) ∙ ap (append_known old) (sym (yes_text-more m i i_in))
