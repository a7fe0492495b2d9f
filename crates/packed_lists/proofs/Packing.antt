-- Lists that lie one after another, when one is written, closed or read.

use Rattle.std.proofs.Common.{◌≡◌, ℕ, zero, suc, ◌+◌, ◌-◌, ◌<◌, ◌≤◌, List, [], ◌∷◌, ◌++◌, length, take, drop, get_or, slice_get, Some, refl, sym, ap, ◌∙◌, arith, length-append}
use Rattle.std.proofs.lemmas.List.{take-append-le, drop-append-le, drop_all, take_rest, length-drop}
use Rattle.packed_lists.specs.Packed.{Written, written, part, lists_from, last_end, AreEnds}

-- There is a list for each end.
pub length-lists : {A : Type 0} (items : List A) (start : ℕ) (ends : List ℕ) → length (lists_from items start ends) ≡ length ends
length-lists items start [] = refl
length-lists items start (e ∷ ends) = ap suc (length-lists items e ends)

-- The last end is within.
pub last_within : (start : ℕ) (ends : List ℕ) (n : ℕ) → AreEnds start ends n → (start ≤ last_end start ends) × (last_end start ends ≤ n)
last_within start [] n h = (omega arith, h)
last_within start (e ∷ ends) n h = let more = last_within e ends n h.1 in (omega (arith, h.0, more.0), more.1)

-- Ends are within more items too.
pub ends_longer : (start : ℕ) (ends : List ℕ) (n m : ℕ) → n ≤ m → AreEnds start ends n → AreEnds start ends m
ends_longer start [] n m le h = omega (arith, h)
ends_longer start (e ∷ ends) n m le h = (h.0, ends_longer e ends n m le h.1)

-- A part stays when items are written behind it.
part_kept : {A : Type 0} (items more : List A) (start end : ℕ) → start ≤ end → end ≤ length items → part (items ++ more) start end ≡ part items start end
part_kept items more start end le within =
    ap (take (end - start)) (drop-append-le start items more (omega arith))
    ∙ take-append-le (end - start) (drop start items) more (omega (arith, length-drop start items))

-- So do closed lists.
pub lists_kept : {A : Type 0} (items more : List A) (start : ℕ) (ends : List ℕ) → AreEnds start ends (length items) → lists_from (items ++ more) start ends ≡ lists_from items start ends
lists_kept items more start [] h = refl
lists_kept {A} items more start (e ∷ ends) h =
    let first : part (items ++ more) start e ≡ part items start e = part_kept items more start e h.0 (omega (arith, (last_within e ends (length items) h.1).0, (last_within e ends (length items) h.1).1)) in
    ap (λ (xs : List A). xs ∷ lists_from (items ++ more) e ends) first ∙ ap (λ (ls : List (List A)). part items start e ∷ ls) (lists_kept items more e ends h.1)

-- The list that is written grows.
pub rest_grows : {A : Type 0} (items more : List A) (ends : List ℕ) → AreEnds 0 ends (length items) → drop (last_end 0 ends) (items ++ more) ≡ drop (last_end 0 ends) items ++ more
rest_grows items more ends h = drop-append-le (last_end 0 ends) items more (last_within 0 ends (length items) h).1

-- Where the ends rise, one more at the very end does.
pub ends_closed : (start : ℕ) (ends : List ℕ) (n : ℕ) → AreEnds start ends n → AreEnds start (ends ++ n ∷ []) n
ends_closed start [] n h = (h, omega arith)
ends_closed start (e ∷ ends) n h = (h.0, ends_closed e ends n h.1)

-- It is the last one then.
pub last_closed : (start : ℕ) (ends : List ℕ) (n : ℕ) → last_end start (ends ++ n ∷ []) ≡ n
last_closed start [] n = refl
last_closed start (e ∷ ends) n = last_closed e ends n

-- And the list that was written is closed.
pub lists_closed : {A : Type 0} (items : List A) (start : ℕ) (ends : List ℕ)
    → lists_from items start (ends ++ length items ∷ []) ≡ lists_from items start ends ++ drop (last_end start ends) items ∷ []
lists_closed {A} items start [] = ap (λ (xs : List A). xs ∷ []) (take_rest items start)
lists_closed {A} items start (e ∷ ends) = ap (λ (ls : List (List A)). part items start e ∷ ls) (lists_closed items e ends)

-- Nothing stands behind it.
pub rest_closed : {A : Type 0} (items : List A) (ends : List ℕ) → drop (last_end 0 (ends ++ length items ∷ [])) items ≡ []
rest_closed items ends = rw (last_closed 0 ends (length items)) (drop_all (length items) items (omega arith))

-- A list begins where the one before it ends, and both places are within.
pub ends_rise : (start : ℕ) (ends : List ℕ) (n a : ℕ) → AreEnds start ends n → a < length ends → (get_or (start ∷ ends) a 0 ≤ get_or ends a 0) × (get_or ends a 0 ≤ n)
ends_rise start [] n a h a_in = absurd (omega arith)
ends_rise start (e ∷ ends) n zero h a_in = (h.0, omega (arith, (last_within e ends n h.1).0, (last_within e ends n h.1).1))
ends_rise start (e ∷ ends) n (suc a) h a_in = ends_rise e ends n a h.1 (omega arith)

-- It is the part between them.
pub list_at : {A : Type 0} (items : List A) (start : ℕ) (ends : List ℕ) (a : ℕ) → a < length ends
    → slice_get (lists_from items start ends) a ≡ Some (part items (get_or (start ∷ ends) a 0) (get_or ends a 0))
list_at items start [] a a_in = absurd (omega arith)
list_at items start (e ∷ ends) zero a_in = refl
list_at items start (e ∷ ends) (suc a) a_in = list_at items e ends a (omega arith)

-- ---- what is written, after a call

-- Items more are written behind the last end.
pub written_more : {A : Type 0} (items new more : List A) (ends : List ℕ) (w : Written A) → written items ends ≡ w → AreEnds 0 ends (length items) → new ≡ items ++ more
    → written new ends ≡ record { lists = w.lists; rest = w.rest ++ more }
written_more items new more ends w is h grown = rw (sym is, grown, lists_kept items more 0 ends h, rest_grows items more ends h) refl

-- The ends stay within.
pub within_more : {A : Type 0} (items new more : List A) (ends : List ℕ) → AreEnds 0 ends (length items) → new ≡ items ++ more → AreEnds 0 ends (length new)
within_more items new more ends h grown = rw grown (ends_longer 0 ends (length items) (length (items ++ more)) (omega (arith, length-append items more)) h)

-- An end more closes the list.
pub written_closed : {A : Type 0} (items : List A) (ends new : List ℕ) (n : ℕ) (w : Written A) → written items ends ≡ w → n ≡ length items → new ≡ ends ++ n ∷ []
    → written items new ≡ record { lists = w.lists ++ w.rest ∷ []; rest = [] }
written_closed items ends new n w is last grown = rw (sym is, grown, last, lists_closed items 0 ends, rest_closed items ends) refl

-- The ends rise as before.
pub within_closed : {A : Type 0} (items : List A) (ends new : List ℕ) (n : ℕ) → AreEnds 0 ends (length items) → n ≡ length items → new ≡ ends ++ n ∷ [] → AreEnds 0 new (length items)
within_closed items ends new n h last grown = rw (grown, last) (ends_closed 0 ends (length items) h)

-- How many lists are closed.
pub written_long : {A : Type 0} (items : List A) (ends : List ℕ) (w : Written A) → written items ends ≡ w → length w.lists ≡ length ends
written_long items ends w is = rw (sym is) (length-lists items 0 ends)

-- A list that is read.
pub written_at : {A : Type 0} (items found : List A) (ends : List ℕ) (w : Written A) (a start end : ℕ) → written items ends ≡ w → a < length ends → start ≡ get_or (0 ∷ ends) a 0
    → end ≡ get_or ends a 0 → found ≡ part items start end → slice_get w.lists a ≡ Some found
written_at items found ends w a start end is a_in starts ends_at read = rw (sym is, read, starts, ends_at) (list_at items 0 ends a a_in)

-- It lies within.
pub within_at : {A : Type 0} (items : List A) (ends : List ℕ) (w : Written A) (a start end : ℕ) → written items ends ≡ w → AreEnds 0 ends (length items) → a < length w.lists
    → start ≡ get_or (0 ∷ ends) a 0 → end ≡ get_or ends a 0 → (start ≤ end) × (end ≤ length items)
within_at items ends w a start end is h a_in starts ends_at =
    let rise = ends_rise 0 ends (length items) a h (omega (arith, a_in, written_long items ends w is)) in
    (omega (arith, starts, ends_at, rise.0), omega (arith, ends_at, rise.1))

-- What is found at a place stands there.
pub found_at : {A : Type 0} (ls : List (List A)) (a : ℕ) (xs : List A) → slice_get ls a ≡ Some xs → xs ≡ get_or ls a []
found_at [] a xs e = cc
found_at (ys ∷ ls) zero xs e = let same : ys ≡ xs = cc in sym same
found_at (ys ∷ ls) (suc a) xs e = found_at ls a xs e

-- Items that are written behind closed lists are a list more once it is closed.
pub closed_with : {A : Type 0} (ls mid new : List (List A)) (rest grown xs : List A) → mid ≡ ls → rest ≡ [] → grown ≡ rest ++ xs → new ≡ mid ++ grown ∷ [] → new ≡ ls ++ xs ∷ []
closed_with ls mid new rest grown xs same none is closed = rw (closed, same, is, none) refl
