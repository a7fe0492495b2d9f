-- A text of which a part was put and the rest is kept back.
use Rattle.std.proofs.Common.{◌≡◌, ℕ, ◌≤◌, Bool, true, false, List, [], ◌++◌, length, take, drop, Option, Some, None, Result, Ok, Err, refl, sym, ap, subst, ◌∙◌, arith, length-append}
use Rattle.std.specs.List.{between}
use Rattle.std.specs.Io.KnownBytes.{append_known}
use Rattle.std.proofs.Math.Seq.{take-take, take-append_seam}
use Rattle.std.proofs.lemmas.Slice.{between_is}
use Rattle.std.proofs.lemmas.List.{take-append-drop, append-nil, length-take}
use Rattle.outer_io.specs.KnownText.{known_len, known_front, StopsIn, Wrote}
use Rattle.outer_io.proofs.KnownTexts.{append_known-append_known, append_known-nil, StopsIn-first, StopsIn-then}

-- nothing is kept of an object that may lose what it held
no_less : {P : Type 0} → false ≡ true → P
no_less e = cc

-- what was kept back was put with a piece behind it
pub put_with : (old new : Option (List ℕ)) (held piece : List ℕ) → new ≡ append_known old (held ++ piece) → append_known new [] ≡ append_known (append_known old held) piece
put_with old new held piece put = append_known-nil new ∙ put ∙ sym (append_known-append_known old held piece)

-- putting it stopped
pub stops_with : (steady : Bool) (old new : Option (List ℕ)) (held piece : List ℕ) → StopsIn steady old new (held ++ piece) → StopsIn false (append_known old held) (append_known new []) piece
stops_with steady old new held piece s =
    subst (λ (n : Option (List ℕ)). StopsIn false (append_known old held) n piece) (sym (append_known-nil new)) record {
      front = s.front ∙ ap (known_front (known_len new)) (sym (append_known-append_known old held piece));
      kept = λ t. no_less t;
    }

-- what was kept back was put by itself
pub put_alone : (old new : Option (List ℕ)) (held : List ℕ) → new ≡ append_known old held → append_known new [] ≡ append_known (append_known old held) []
put_alone old new held put = put_with old new held [] (put ∙ ap (append_known old) (sym (append-nil held)))

-- putting it by itself stopped
pub stops_alone : (steady : Bool) (old new : Option (List ℕ)) (held : List ℕ) → StopsIn steady old new held → StopsIn false (append_known old held) (append_known new []) []
stops_alone steady old new held s = stops_with steady old new held [] (subst (λ (t : List ℕ). StopsIn steady old new t) (sym (append-nil held)) s)

-- a front part and what follows it up to a place
pub take_to : (xs : List ℕ) (i j : ℕ) → i ≤ j → take i xs ++ between i j xs ≡ take j xs
take_to xs i j h =
    ap (λ (b : List ℕ). take i xs ++ b) (between_is xs i j) ∙ ap (λ (f : List ℕ). f ++ drop i (take j xs)) (sym (take-take i j xs h)) ∙ take-append-drop i (take j xs)

-- a piece was taken up to a place, and then up to a later one
pub taken_more : (start middle new : Option (List ℕ)) (piece : List ℕ) (i j : ℕ) → i ≤ j → middle ≡ append_known start (take i piece) → new ≡ append_known middle (between i j piece)
    → new ≡ append_known start (take j piece)
taken_more start middle new piece i j h before put =
    put ∙ ap (λ (m : Option (List ℕ)). append_known m (between i j piece)) before ∙ append_known-append_known start (take i piece) (between i j piece)
    ∙ ap (append_known start) (take_to piece i j h)

-- the same up to its end
pub taken_all : (start middle new : Option (List ℕ)) (piece : List ℕ) (i : ℕ) → middle ≡ append_known start (take i piece) → new ≡ append_known middle (drop i piece) → new ≡ append_known start piece
taken_all start middle new piece i before put =
    put ∙ ap (λ (m : Option (List ℕ)). append_known m (drop i piece)) before ∙ append_known-append_known start (take i piece) (drop i piece)
    ∙ ap (append_known start) (take-append-drop i piece)

-- where taking more of it stopped, the piece stopped
pub stops_taken : (start middle new : Option (List ℕ)) (piece : List ℕ) (i j : ℕ) → i ≤ j → middle ≡ append_known start (take i piece) → StopsIn false middle new (between i j piece)
    → StopsIn false start new piece
stops_taken start middle new piece i j h before s =
    let up = StopsIn-then false start middle new (take i piece) (between i j piece) before s in
    let to : StopsIn false start new (take j piece) = subst (λ (t : List ℕ). StopsIn false start new t) (take_to piece i j h) up in
    subst (λ (t : List ℕ). StopsIn false start new t) (take-append-drop j piece) (StopsIn-first false start new (take j piece) (drop j piece) to)

-- bytes that are told stay told
told : (x y : List ℕ) → ◌≡◌ {A = Option (List ℕ)} (Some x) (Some y) → x ≡ y
told x y e = cc

-- what is put of a text is a front part of it, whatever is kept back
front_put : (file held whole : List ℕ) (n : ℕ) → file ++ held ≡ take n whole → file ≡ take (length file) whole
front_put file held whole n e =
    let within : length file ≤ n = omega (arith, ap length e, length-append file held, length-take n whole) in
    sym (take-append_seam file held) ∙ ap (take (length file)) e ∙ take-take (length file) n whole within

-- a file holds a front part of a text of which it and what is kept back hold one
pub stops_put : (steady : Bool) (old file : Option (List ℕ)) (held text : List ℕ) → StopsIn steady old (append_known file held) text → StopsIn false old file text
stops_put steady None None held text s = record { front = refl; kept = λ t. no_less t }
stops_put steady None (Some file) held text s = let e = s.front in cc
stops_put steady (Some old) None held text s = let e = s.front in cc
stops_put steady (Some old) (Some file) held text s = record {
  front = ap Some (front_put file held (old ++ text) (length (file ++ held)) (told _ _ s.front));
  kept = λ t. no_less t;
}

-- a file holds what is put and kept back where nothing is
pub put_all_held : (file : Option (List ℕ)) (held : List ℕ) → held ≡ [] → append_known file held ≡ file
put_all_held file held none = ap (append_known file) none ∙ append_known-nil file

-- where putting a text to a file through what is kept back stopped
pub stops_in_file : (old file : Option (List ℕ)) (first held text : List ℕ) → first ≡ [] → StopsIn false (append_known old first) (append_known file held) text → StopsIn false old file text
stops_in_file old file first held text none s =
    stops_put false old file held text (subst (λ (o : Option (List ℕ)). StopsIn false o (append_known file held) text) (put_all_held old first none) s)

-- what a text is in a file after it was put and what was kept back was flushed, by the answer of the flush
pub flushed : {T E : Type 0} (r : Result T E) (old middle file : Option (List ℕ)) (first between held text : List ℕ) → first ≡ [] → append_known middle between ≡ append_known (append_known old first) text
    → Wrote false (append_known middle between) (append_known file held) r [] → held ≡ [] → Wrote false old file r text
flushed (Ok done) old middle file first between held text none put flush empty =
    sym (put_all_held file held empty) ∙ flush ∙ append_known-nil (append_known middle between) ∙ put ∙ ap (λ (o : Option (List ℕ)). append_known o text) (put_all_held old first none)
flushed (Err e) old middle file first between held text none put flush empty =
    let whole : append_known middle between ≡ append_known old text = put ∙ ap (λ (o : Option (List ℕ)). append_known o text) (put_all_held old first none) in
    let stop = StopsIn-then false old (append_known middle between) (append_known file held) text [] whole flush in
    stops_put false old file held text (subst (λ (t : List ℕ). StopsIn false old (append_known file held) t) (append-nil text) stop)
