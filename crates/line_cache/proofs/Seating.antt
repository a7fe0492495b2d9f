-- How sets with their names are kept, found and added.
use Rattle.std.proofs.Common.{◌≡◌, ℕ, zero, suc, Option, ◌-◌, ◌<◌, ◌≤◌, List, [], ◌∷◌, ◌++◌, length, take, drop, get_or, slice_range, refl, sym, ap, subst, ◌∙◌, arith, length-append, length-drop, inl, inr}
use Rattle.std.proofs.lemmas.List.{take-append-le, drop-append-le}
use Rattle.log_theory.specs.declared.step.Name.{Name}
use Rattle.log_theory.specs.LogText.{IsName}
use Rattle.recorder.specs.declared.change.Place.{Place}
use Rattle.recorder.specs.Recording.{CountedSet, Adds, IsIn, IsPlaced}
use Rattle.line_cache.specs.declared.set_names.Seat.{Seat}
use Rattle.line_cache.specs.Sets.{counted_at, named_set, named_sets, AreSeated, with_set, HasName}

pub seat_at : (seats : List Seat) (k n : ℕ) (d : Seat) → k < length seats → AreSeated seats n → IsIn (get_or seats k d).place n × IsName (get_or seats k d).name
seat_at [] k n d below h = absurd (omega (arith, below))
seat_at (s ∷ seats) zero n d below h = h.0
seat_at (s ∷ seats) (suc k) n d below h = seat_at seats k n d (omega (arith, below)) h.1

pub name_held : (numbers : List ℕ) (seats : List Seat) (k : ℕ) (d : Seat) (s : CountedSet) → k < length seats → counted_at numbers (get_or seats k d).centre (get_or seats k d).place ≡ s → HasName (named_sets numbers seats) s (get_or seats k d).name
name_held numbers [] k d s below is = absurd (omega (arith, below))
name_held numbers (x ∷ seats) zero d s below is = inl (is, refl)
name_held numbers (x ∷ seats) (suc k) d s below is = inr (name_held numbers seats k d s (omega (arith, below)) is)

-- So it is of a seat that was read.
pub seat_is : (seats : List Seat) (k n : ℕ) (s : Seat) → k < length seats → s ≡ get_or seats k s → AreSeated seats n → IsIn s.place n × IsName s.name
seat_is seats k n s below is h = subst (λ (x : Seat). IsIn x.place n × IsName x.name) (sym is) (seat_at seats k n s below h)

pub name_is : (numbers : List ℕ) (seats : List Seat) (k : ℕ) (s : Seat) (set : CountedSet) → k < length seats → s ≡ get_or seats k s → counted_at numbers s.centre s.place ≡ set → HasName (named_sets numbers seats) set s.name
name_is numbers seats k s set below is found =
    subst (λ (x : Seat). HasName (named_sets numbers seats) set x.name) (sym is) (name_held numbers seats k s set below (subst (λ (x : Seat). counted_at numbers x.centre x.place ≡ set) is found))

-- ---- numbers behind the old ones

range_front : (xs more : List ℕ) (a b : ℕ) → a ≤ b → b ≤ length xs → slice_range (xs ++ more) a b ≡ slice_range xs a b
range_front xs more a b first within =
    let long = length-drop a xs in
    ap (take (b - a)) (drop-append-le a xs more (omega (arith, first, within))) ∙ take-append-le (b - a) (drop a xs) more (omega (arith, long, first, within))

counted_front : (xs more : List ℕ) (b : Option ℕ) (k : Place) → IsIn k (length xs) → counted_at (xs ++ more) b k ≡ counted_at xs b k
counted_front xs more b k i =
    let e : slice_range (xs ++ more) k.start k.middle ≡ slice_range xs k.start k.middle = range_front xs more k.start k.middle i.first (omega (arith, i.second, i.within)) in
    let f : slice_range (xs ++ more) k.middle k.end ≡ slice_range xs k.middle k.end = range_front xs more k.middle k.end i.second i.within in
    ap (λ (ps : List ℕ). let s : CountedSet = record { centre = b; vertices = ps; values = slice_range (xs ++ more) k.middle k.end } in s) e
    ∙ ap (λ (us : List ℕ). let s : CountedSet = record { centre = b; vertices = slice_range xs k.start k.middle; values = us } in s) f

pub sets_stay : (old new : List ℕ) (seats : List Seat) → Adds old new → AreSeated seats (length old) → named_sets new seats ≡ named_sets old seats
sets_stay old new seats adds seated = ap (λ (xs : List ℕ). named_sets xs seats) adds.front ∙ by seats seated
  where
    by : (seats : List Seat) → AreSeated seats (length old) → named_sets (old ++ adds.more) seats ≡ named_sets old seats
    by [] h = refl
    by (s ∷ seats) h =
        ap (λ (x : CountedSet). let y : CountedSet × Name = (x, s.name) in y ∷ named_sets (old ++ adds.more) seats) (counted_front old adds.more s.centre s.place h.0.0)
        ∙ ap (λ (xs : List (CountedSet × Name)). named_set old s ∷ xs) (by seats h.1)

pub seated_still : (seats : List Seat) (m n : ℕ) → m ≤ n → AreSeated seats m → AreSeated seats n
seated_still [] m n le h = tt
seated_still (s ∷ seats) m n le h = ((record { first = h.0.0.first; second = h.0.0.second; within = (let w = h.0.0.within in omega (arith, w, le)) }, h.0.1), seated_still seats m n le h.1)

pub seated_added : (old new : List ℕ) (seats : List Seat) → Adds old new → AreSeated seats (length old) → AreSeated seats (length new)
seated_added old new seats adds h = seated_still seats (length old) (length new) (omega (arith, ap (λ (xs : List ℕ). length xs) adds.front, length-append old adds.more)) h

pub seated_with : (seats : List Seat) (s : Seat) (n : ℕ) → AreSeated seats n → IsIn s.place n → IsName s.name → AreSeated (seats ++ s ∷ []) n
seated_with [] s n h i name = ((i, name), tt)
seated_with (x ∷ seats) s n h i name = (h.0, seated_with seats s n h.1 i name)

pub sets_with : (old new : List ℕ) (seats : List Seat) (s : Seat) (vertices values : List ℕ) → Adds old new → AreSeated seats (length old) → IsPlaced old new vertices values s.place
    → named_sets new (seats ++ s ∷ []) ≡ with_set (named_sets old seats) (record { centre = s.centre; vertices = vertices; values = values }) s.name
sets_with old new seats s vertices values adds seated placed =
    behind seats ∙ ap (λ (xs : List (CountedSet × Name)). xs ++ named_set new s ∷ []) (sets_stay old new seats adds seated)
    ∙ ap (λ (x : CountedSet). let y : CountedSet × Name = (x, s.name) in named_sets old seats ++ y ∷ []) there
  where
    behind : (seats : List Seat) → named_sets new (seats ++ s ∷ []) ≡ named_sets new seats ++ named_set new s ∷ []
    behind [] = refl
    behind (x ∷ seats) = ap (λ (xs : List (CountedSet × Name)). named_set new x ∷ xs) (behind seats)

    there : counted_at new s.centre s.place ≡ record { centre = s.centre; vertices = vertices; values = values }
    there =
        ap (λ (ps : List ℕ). let c : CountedSet = record { centre = s.centre; vertices = ps; values = slice_range new s.place.middle s.place.end } in c) placed.vertices_are
        ∙ ap (λ (us : List ℕ). let c : CountedSet = record { centre = s.centre; vertices = vertices; values = us } in c) placed.values_are
