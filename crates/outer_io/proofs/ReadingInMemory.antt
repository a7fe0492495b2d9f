-- Reading a list of bytes from a place on.
use Rattle.std.proofs.Common.{◌≡◌, ℕ, ◌+◌, ◌<◌, ◌≤◌, min, Bool, true, false, cond, List, [], ◌++◌, length, take, drop, Option, Some, None, ⊎_elim, sym, ap, ◌∙◌, length-drop, arith}
use Rattle.std.specs.Prelude.{◌⊎◌, option_map}
use Rattle.std.specs.Io.KnownBytes.{prepend_known, IsAtEnd}
use Rattle.std.proofs.lemmas.List.{take-append-drop, drop-drop, drop_all}

-- past the end nothing stands, wherever that is
drop_min : (bytes : List ℕ) (at : ℕ) → drop (min at (length bytes)) bytes ≡ drop at bytes
drop_min bytes at = ⊎_elim
    (λ (within : at ≤ length bytes). ap (λ n. drop n bytes) (let e : min at (length bytes) ≡ at = omega arith in e))
    (λ (past : length bytes ≤ at). drop_all (min at (length bytes)) bytes (omega arith) ∙ sym (drop_all at bytes past))
    (cases at (length bytes))
  where
    cases : (m n : ℕ) → (m ≤ n) ⊎ (n ≤ m)
    cases m n = grind arith

-- what a read of so many bytes took and left
pub read_front : (bytes buffer : List ℕ) (at from count : ℕ) → from ≡ min at (length bytes) → take count buffer ≡ take count (drop from bytes) → ◌≡◌ {A = Option (List ℕ)} (Some (drop at bytes)) (prepend_known (take count buffer) (Some (drop (from + count) bytes)))
read_front bytes buffer at from count start copied = ap Some (
    sym (ap (λ n. drop n bytes) start ∙ drop_min bytes at)
    ∙ sym (take-append-drop count (drop from bytes))
    ∙ ap (λ front. front ++ drop count (drop from bytes)) (sym copied)
    ∙ ap (λ rest. take count buffer ++ rest) (drop-drop count from bytes))

-- a read of no byte into a buffer with room was at the end
pub read_end : (bytes buffer : List ℕ) (from count : ℕ) → count ≡ min (length (drop from bytes)) (length buffer) → count ≡ 0 → 0 < length buffer → drop (from + count) bytes ≡ []
read_end bytes buffer from count some none room = drop_all (from + count) bytes (omega (arith, length-drop from bytes))

-- the file that was chosen has the name that is kept
pub chosen_is : (is_chosen : Bool) (name file : List ℕ) → cond is_chosen (Some name) None ≡ Some file → name ≡ file
chosen_is true name file chosen = cc
chosen_is false name file chosen = cc

-- what a read took and left, by the content of the file that is read
pub TakesFront-content : (content : Option (List ℕ)) (bytes buffer : List ℕ) (at from count : ℕ) → content ≡ Some bytes → from ≡ min at (length bytes) → count ≡ min (length (drop from bytes)) (length buffer) → take count buffer ≡ take count (drop from bytes) → (option_map (drop at) content ≡ prepend_known (take count buffer) (option_map (drop (from + count)) content)) × (count ≡ 0 → 0 < length buffer → IsAtEnd (option_map (drop (from + count)) content))
TakesFront-content content bytes buffer at from count is start some copied =
    rw is (read_front bytes buffer at from count start copied, read_end bytes buffer from count some)
