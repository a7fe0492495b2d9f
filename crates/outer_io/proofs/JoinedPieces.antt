-- The text of pieces that are put in order.
use Rattle.std.proofs.Common.{◌≡◌, ℕ, ◌+◌, ◌<◌, Bool, List, [], ◌∷◌, ◌++◌, length, take, drop, get_or, Option, refl, sym, ap, ◌∙◌, append_assoc, subst}
use Rattle.std.specs.Io.KnownBytes.{append_known}
use Rattle.std.specs.Borrow.{Bor}
use Rattle.std.proofs.lemmas.List.{take_more, take-append-drop, append-nil}
use Rattle.outer_io.specs.KnownText.{StopsIn}
use Rattle.outer_io.specs.Sinks.{joined, joined_to}
use Rattle.outer_io.proofs.KnownTexts.{StopsIn-first, StopsIn-then, append_known-append_known}

-- the pieces, by what follows the first
flat : List (Bor (List ℕ)) → List ℕ
flat [] = []
flat (piece ∷ pieces) = piece.now ++ flat pieces

joined_to-flat : (text : List ℕ) (pieces : List (Bor (List ℕ))) → joined_to text pieces ≡ text ++ flat pieces
unfolding flat
joined_to-flat text [] = sym (append-nil text)
joined_to-flat text (piece ∷ pieces) = joined_to-flat (text ++ piece.now) pieces ∙ append_assoc text piece.now (flat pieces)

joined-flat : (pieces : List (Bor (List ℕ))) → joined pieces ≡ flat pieces
unfolding flat
joined-flat [] = refl
joined-flat (piece ∷ pieces) = joined_to-flat piece.now pieces

flat-append : (xs ys : List (Bor (List ℕ))) → flat (xs ++ ys) ≡ flat xs ++ flat ys
unfolding flat
flat-append [] ys = refl
flat-append (x ∷ xs) ys = ap (λ t. x.now ++ t) (flat-append xs ys) ∙ sym (append_assoc x.now (flat xs) (flat ys))

-- the text of two rows of pieces is that of the first and then that of the second
pub joined-append : (xs ys : List (Bor (List ℕ))) → joined (xs ++ ys) ≡ joined xs ++ joined ys
joined-append xs ys = rw (joined-flat (xs ++ ys), joined-flat xs, joined-flat ys) (flat-append xs ys)

-- one more piece
pub joined-more : (pieces : List (Bor (List ℕ))) (i : ℕ) (piece : Bor (List ℕ)) → i < length pieces → joined (take (i + 1) pieces) ≡ joined (take i pieces) ++ (get_or pieces i piece).now
joined-more pieces i piece within = rw (take_more pieces i piece within, joined-append (take i pieces) (get_or pieces i piece ∷ [])) refl

-- the pieces to the next and those after it
pub joined-parts : (pieces : List (Bor (List ℕ))) (i : ℕ) → joined pieces ≡ joined (take i pieces) ++ joined (drop i pieces)
joined-parts pieces i = ap joined (sym (take-append-drop i pieces)) ∙ joined-append (take i pieces) (drop i pieces)

-- the pieces to the next, and that, and those after it
joined-at : (pieces : List (Bor (List ℕ))) (i : ℕ) (piece : Bor (List ℕ)) → i < length pieces → (joined (take i pieces) ++ (get_or pieces i piece).now) ++ joined (drop (i + 1) pieces) ≡ joined pieces
joined-at pieces i piece within = ap (λ t. t ++ joined (drop (i + 1) pieces)) (sym (joined-more pieces i piece within)) ∙ sym (joined-parts pieces (i + 1))

-- where a piece stopped, the whole stopped
pub StopsIn-pieces : (steady steady_now : Bool) → steady_now ≡ steady → (old middle new : Option (List ℕ)) (pieces : List (Bor (List ℕ))) (i : ℕ) (piece : Bor (List ℕ)) → i < length pieces → middle ≡ append_known old (joined (take i pieces)) → StopsIn steady_now middle new (get_or pieces i piece).now → StopsIn steady old new (joined pieces)
StopsIn-pieces steady steady_now same old middle new pieces i piece within before s =
    let here = subst (λ (b : Bool). StopsIn b middle new (get_or pieces i piece).now) same s in
    let to_piece = StopsIn-then steady old middle new (joined (take i pieces)) (get_or pieces i piece).now before here in
    subst (λ (t : List ℕ). StopsIn steady old new t) (joined-at pieces i piece within) (StopsIn-first steady old new _ (joined (drop (i + 1) pieces)) to_piece)

-- the pieces to the next were put, and then that
pub append_known-pieces : (old middle new : Option (List ℕ)) (pieces : List (Bor (List ℕ))) (i : ℕ) (piece : Bor (List ℕ)) → i < length pieces → middle ≡ append_known old (joined (take i pieces)) → new ≡ append_known middle (get_or pieces i piece).now → new ≡ append_known old (joined (take (i + 1) pieces))
append_known-pieces old middle new pieces i piece within before put =
    put ∙ ap (λ m. append_known m (get_or pieces i piece).now) before ∙ append_known-append_known old _ _ ∙ ap (append_known old) (sym (joined-more pieces i piece within))
