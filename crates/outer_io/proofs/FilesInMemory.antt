-- The first file of a name in a list of files, before and after one of them changes.
use Rattle.std.proofs.Common.{◌≡◌, ◌≢◌, ℕ, ◌<◌, ◌≤◌, ◌-◌, zero, suc, Bool, true, false, cond, List, [], ◌∷◌, length, get_or, set, take, drop, ◌++◌, Option, Some, None, refl, sym, ap, ◌∙◌, subst, arith}
use Rattle.std.specs.Prelude.{IsTrue, IsSomeAnd, MatchBool, option_map, find, slice_get, bytes_eq, option_and_then, map}
use Rattle.std.specs.List.{position_or_len}
use Rattle.std.specs.Io.KnownBytes.{append_known}
use Rattle.std.proofs.lemmas.Slice.Eq.{bytes_eq-Decides}
use Rattle.std.proofs.lemmas.Option.{slice_get_read, slice_get_past}
use Rattle.std.proofs.lemmas.List.Folds.{find_at, find-set}
use Rattle.std.proofs.lemmas.List.Sums.{passes_at_first}
use Rattle.std.proofs.Math.Seq.{take-append_seam}
use Rattle.std.proofs.lemmas.List.{take_all}
use Rattle.outer_io.specs.KnownText.{StopsIn}
use Rattle.outer_io.specs.NamedFiles.{SameOthers}
use Rattle.outer_io.specs.Memory.{Kept, is_named, file_in, content_in, label_of, SameLabels}
use Rattle.outer_io.proofs.KnownTexts.{StopsIn-front, StopsIn-none}

-- a change of an element that fails the test before and after is not found
find-set_out : (p : Kept → Bool) (xs : List Kept) (i : ℕ) (y d : Kept) → p y ≡ false → p (get_or xs i d) ≡ false → find p (set xs i y) ≡ find p xs
find-set_out p [] i y d new old = refl
find-set_out p (x ∷ xs) zero y d new old = ap (λ b. cond b (Some y) (find p xs)) new ∙ sym (ap (λ b. cond b (Some x) (find p xs)) old)
find-set_out p (x ∷ xs) (suc i) y d new old = ap (λ r. cond (p x) (Some x) r) (find-set_out p xs i y d new old)

-- a file of one name is not one of another
other_name : (file : Kept) (name other : List ℕ) → is_named name file ≡ true → other ≢ name → is_named other file ≡ false
other_name file name other here apart =
    by_test (is_named other file) refl (λ there. apart (sym ((bytes_eq-Decides file.name other).0 there) ∙ (bytes_eq-Decides file.name name).0 here))
  where
    by_test : (b : Bool) → is_named other file ≡ b → (is_named other file ≡ true → ⊥) → is_named other file ≡ false
    by_test true e not_there = absurd (not_there e)
    by_test false e not_there = e

-- the file at the first place of a name has it
named_at : (files : List Kept) (name : List ℕ) (i : ℕ) (x : Kept) → i ≡ position_or_len (is_named name) files → i < length files → x ≡ get_or files i x → is_named name x ≡ true
named_at files name i x place within at =
    let first : position_or_len (is_named name) files < length files = omega (arith, place) in
    ap (is_named name) (at ∙ ap (λ j. get_or files j x) place) ∙ passes_at_first (is_named name) files x first

-- it is the file of the name
pub file_in-at : (files : List Kept) (name : List ℕ) (i : ℕ) (x : Kept) → i ≡ position_or_len (is_named name) files → i < length files → x ≡ get_or files i x → file_in files name ≡ Some x
file_in-at files name i x place within at =
    find_at (is_named name) files ∙ ap (slice_get files) (sym place) ∙ slice_get_read files (length files) i x refl within at

-- there is none where the first place is past the end
pub file_in-past : (files : List Kept) (name : List ℕ) (i : ℕ) → i ≡ position_or_len (is_named name) files → length files ≤ i → file_in files name ≡ None
file_in-past files name i place past = find_at (is_named name) files ∙ ap (slice_get files) (sym place) ∙ slice_get_past files i past

-- after it was changed, but not its name
pub file_in-set : (files : List Kept) (name : List ℕ) (i : ℕ) (x y : Kept) → i ≡ position_or_len (is_named name) files → i < length files → x ≡ get_or files i x → y.name ≡ x.name → file_in (set files i y) name ≡ Some y
file_in-set files name i x y place within at same =
    find-set (is_named name) files i y place within (ap (λ n. bytes_eq n name) same ∙ named_at files name i x place within at)

-- the other files are as they were
pub content_in-set_others : (files : List Kept) (name : List ℕ) (i : ℕ) (x y : Kept) → i ≡ position_or_len (is_named name) files → i < length files → x ≡ get_or files i x → y.name ≡ x.name → SameOthers name (content_in files) (content_in (set files i y))
content_in-set_others files name i x y place within at same other apart =
    let old = other_name x name other (named_at files name i x place within at) apart in
    ap (option_and_then (λ (file : Kept). file.bytes)) (find-set_out (is_named other) files i y x (ap (λ n. bytes_eq n other) same ∙ old) (ap (is_named other) (sym at) ∙ old))

-- names and rooms are as they were
pub SameLabels-set : (files : List Kept) (i : ℕ) (y d : Kept) → label_of y ≡ label_of (get_or files i d) → SameLabels files (set files i y)
SameLabels-set [] i y d same = refl
SameLabels-set (x ∷ xs) zero y d same = ap (λ label. label ∷ map label_of xs) same
SameLabels-set (x ∷ xs) (suc i) y d same = ap (λ labels. label_of x ∷ labels) (SameLabels-set xs i y d same)

-- what appending to a file's bytes leaves: all of the piece, or what there was room for
pub appended : (all : Bool) (old new : Option (List ℕ)) (room : ℕ) (piece : List ℕ) → (IsTrue all → IsSomeAnd old (λ bytes. length piece ≤ room - length bytes)) → new ≡ option_map (λ bytes. bytes ++ take (room - length bytes) piece) old → MatchBool all (new ≡ append_known old piece) (StopsIn true old new piece)
appended true None new room piece fits after = absurd (fits refl)
appended true (Some old) new room piece fits after = after ∙ ap (λ front. Some (old ++ front)) (take_all (room - length old) piece (fits refl))
appended false None new room piece fits after = StopsIn-none true None new piece after
appended false (Some old) new room piece fits after =
    subst (λ (held : Option (List ℕ)). StopsIn true (Some old) held piece) (sym after) (StopsIn-front true old _ piece (room - length old) refl)

-- the whole of a list was changed as a slice
pub whole_slice : (len : ℕ) (old new : List Kept) → length new ≡ length old → len ≡ length old → take len (new ++ drop (length new) old) ≡ new
whole_slice len old new same all =
    let e : len ≡ length new = all ∙ sym same in
    ap (λ n. take n (new ++ drop (length new) old)) e ∙ take-append_seam new (drop (length new) old)
