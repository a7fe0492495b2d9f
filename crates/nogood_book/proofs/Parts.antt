-- What a view knows of the rows of its owners, as rows follow and as views are put together.
use Rattle.std.proofs.Common.{◌≡◌, ◌⊎◌, inl, inr, ℕ, ◌+◌, Bool, false, ne_eqb, List, [], ◌∷◌, ◌++◌, length, refl, sym, ap, subst, ◌∙◌, append_assoc, append-nil as append_nil, length-append, arith}
use Rattle.std.specs.Prelude.{if◌then◌else◌}
use Rattle.nogood_book.specs.declared.row.Row.{Row}
use Rattle.nogood_book.specs.declared.view.View.{View}
use Rattle.nogood_book.specs.Places.{StartsWith, place_or, places, places_from}
use Rattle.nogood_book.specs.Views.{Part, parts, Told, HasPart, HasNumber, Owned, AllMade, Apart}
use Rattle.nogood_book.proofs.Lists.{places-append, places_from-append, places_other, places_own}

-- a view that is not spent answers for its owner and for those gathered
pub parts_live : (v : View) → v.spent ≡ false → parts v ≡ (v.owner, v.mine) ∷ v.gathered
parts_live v e = let P : Bool → List Part = λ b. if b then [] else (v.owner, v.mine) ∷ v.gathered in ap P e

-- a list of no length
pub empty_of : {A : Type 0} (xs : List A) → length xs ≡ 0 → xs ≡ []
empty_of [] e = refl
empty_of (x ∷ xs) e = absurd (omega arith)

-- where an owner has no more places in a longer list, it has none in between
places_between : (o : ℕ) (a b c : List Row) → places o (a ++ (b ++ c)) ≡ places o a → places o (a ++ b) ≡ places o a
places_between o a b c e =
    let s : places o a ++ places_from (length a) o (b ++ c) ≡ places o a = sym (places-append o a (b ++ c)) ∙ e in
    let none : length (places_from (length a) o b) ≡ 0 =
    omega (
      arith,
      ap length s,
      length-append (places o a) (places_from (length a) o (b ++ c)),
      ap length (places_from-append (length a) o b c),
      length-append (places_from (length a) o b) (places_from (length a + length b) o c),
    ) in
    places-append o a b ∙ (ap (λ z. places o a ++ z) (empty_of (places_from (length a) o b) none) ∙ append_nil (places o a))

-- what is so of what was seen and of all rows is so of what lies between
pub told_between : (a b c : List Row) (ps : List Part) → Told a ps → Told (a ++ (b ++ c)) ps → Told (a ++ b) ps
told_between a b c [] h k = tt
told_between a b c (p ∷ ps) h k = (places_between p.0 a b c (k.0 ∙ sym h.0) ∙ h.0, told_between a b c ps h.1 k.1)

pub told_mid : (seen mid rows : List Row) (ps : List Part) → StartsWith mid seen → StartsWith rows mid → Told seen ps → Told rows ps → Told mid ps
told_mid seen mid rows ps s t h k =
    let whole : rows ≡ seen ++ (s.0 ++ t.0) = t.1 ∙ (ap (λ z. z ++ t.0) s.1 ∙ append_assoc seen s.0 t.0) in
    let P : List Row → Type 0 = λ z. Told z ps in
    subst P (sym s.1) (told_between seen s.0 t.0 ps h (subst P whole k))

-- a row of another owner changes no places
pub told_other : (rows : List Row) (r : Row) (ps : List Part) → (HasPart r.owner ps → ⊥) → Told rows ps → Told (rows ++ r ∷ []) ps
told_other rows r [] n h = tt
told_other rows r (p ∷ ps) n h = (places_other p.0 rows r (λ e. n (inl (sym e))) ∙ h.0, told_other rows r ps (λ k. n (inr k)) h.1)

-- a row of one's own is one more place
pub told_own : (rows : List Row) (r : Row) (o : ℕ) (mine : List ℕ) (ps : List Part) → r.owner ≡ o → Apart ((o, mine) ∷ ps) → Told rows ((o, mine) ∷ ps)
    → Told (rows ++ r ∷ []) ((o, mine ++ length rows ∷ []) ∷ ps)
told_own rows r o mine ps e a h =
    (places_own o rows r e ∙ ap (λ z. z ++ length rows ∷ []) h.0, told_other rows r ps (λ k. a.0 (let P : ℕ → Type 0 = λ n. HasPart n ps in subst P e k)) h.1)

pub told_append : (rows : List Row) (xs ys : List Part) → Told rows xs → Told rows ys → Told rows (xs ++ ys)
told_append rows [] ys h k = k
told_append rows (x ∷ xs) ys h k = (h.0, told_append rows xs ys h.1 k)

pub part_either : (o : ℕ) (xs ys : List Part) → HasPart o (xs ++ ys) → HasPart o xs ⊎ HasPart o ys
part_either o [] ys h = inr h
part_either o (x ∷ xs) ys (inl e) = inl (inl e)
part_either o (x ∷ xs) ys (inr h) = elim (part_either o xs ys h) [ inl k ↦ inl (inr k) | inr k ↦ inr k ]

pub part_left : (o : ℕ) (xs ys : List Part) → HasPart o xs → HasPart o (xs ++ ys)
part_left o [] ys h = absurd h
part_left o (x ∷ xs) ys (inl e) = inl e
part_left o (x ∷ xs) ys (inr h) = inr (part_left o xs ys h)

pub part_right : (o : ℕ) (xs ys : List Part) → HasPart o ys → HasPart o (xs ++ ys)
part_right o [] ys h = h
part_right o (x ∷ xs) ys h = inr (part_right o xs ys h)

pub made_append : (made : List ℕ) (xs ys : List Part) → AllMade made xs → AllMade made ys → AllMade made (xs ++ ys)
made_append made [] ys h k = k
made_append made (x ∷ xs) ys h k = (h.0, made_append made xs ys h.1 k)

pub made_more : (o : ℕ) (made : List ℕ) (ps : List Part) → AllMade made ps → AllMade (o ∷ made) ps
made_more o made [] h = tt
made_more o made (p ∷ ps) h = (inr h.0, made_more o made ps h.1)

pub made_has : (made : List ℕ) (ps : List Part) (o : ℕ) → AllMade made ps → HasPart o ps → HasNumber o made
made_has made [] o h k = absurd k
made_has made (p ∷ ps) o h (inl e) = let P : ℕ → Type 0 = λ n. HasNumber n made in subst P e h.0
made_has made (p ∷ ps) o h (inr k) = made_has made ps o h.1 k

pub apart_append : (xs ys : List Part) → Apart xs → Apart ys → ((o : ℕ) → HasPart o xs → HasPart o ys → ⊥) → Apart (xs ++ ys)
apart_append [] ys a b n = b
apart_append (x ∷ xs) ys a b n =
    ((λ h. elim (part_either x.0 xs ys h) [ inl k ↦ a.0 k | inr k ↦ n x.0 (inl refl) k ]), apart_append xs ys a.1 b (λ o h k. n o (inr h) k))

pub owned_more : (o : ℕ) (made : List ℕ) (rows : List Row) → Owned made rows → Owned (o ∷ made) rows
owned_more o made [] h = tt
owned_more o made (r ∷ rs) h = (inr h.0, owned_more o made rs h.1)

pub owned_snoc : (made : List ℕ) (rows : List Row) (r : Row) → Owned made rows → HasNumber r.owner made → Owned made (rows ++ r ∷ [])
owned_snoc made [] r h k = (k, tt)
owned_snoc made (x ∷ xs) r h k = (h.0, owned_snoc made xs r h.1 k)

pub owned_front : (made : List ℕ) (xs ys : List Row) → Owned made (xs ++ ys) → Owned made xs
owned_front made [] ys h = tt
owned_front made (x ∷ xs) ys h = (h.0, owned_front made xs ys h.1)

none_from : (o at : ℕ) (made : List ℕ) (rows : List Row) → Owned made rows → (HasNumber o made → ⊥) → places_from at o rows ≡ []
none_from o at made [] h n = refl
none_from o at made (r ∷ rs) h n =
    let P : ℕ → Type 0 = λ k. HasNumber k made in
    ap (λ b. place_or b at (places_from (at + 1) o rs)) (ne_eqb r.owner o (λ e. n (subst P e h.0))) ∙ none_from o (at + 1) made rs h.1 n

-- an owner that was not made has no rows
pub none_of_owner : (o : ℕ) (made : List ℕ) (rows : List Row) → Owned made rows → (HasNumber o made → ⊥) → places o rows ≡ []
none_of_owner o made rows h n = none_from o 0 made rows h n
