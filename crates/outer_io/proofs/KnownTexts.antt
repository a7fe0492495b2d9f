-- Texts that are put one after another.
use Rattle.std.proofs.Common.{◌≡◌, ℕ, ◌≤◌, Bool, List, [], ◌++◌, length, take, drop, Option, Some, None, refl, sym, ap, ◌∙◌, append_assoc, length-append, arith}
use Rattle.std.specs.Io.KnownBytes.{append_known}
use Rattle.std.proofs.lemmas.List.{take-append-le, take-append-drop, length-take, append-nil}
use Rattle.std.proofs.Math.Seq.{take-append_seam}
use Rattle.outer_io.specs.KnownText.{known_len, known_front, StopsIn}

-- a text and then another are put as the two joined
pub append_known-append_known : (old : Option (List ℕ)) (a b : List ℕ) → append_known (append_known old a) b ≡ append_known old (a ++ b)
append_known-append_known None a b = refl
append_known-append_known (Some bytes) a b = ap Some (append_assoc bytes a b)

-- no text changes nothing
pub append_known-nil : (old : Option (List ℕ)) → append_known old [] ≡ old
append_known-nil None = refl
append_known-nil (Some bytes) = ap Some (append-nil bytes)

-- more bytes are told where a text was put
pub known_len-append_known : (old : Option (List ℕ)) (text : List ℕ) → known_len old ≤ known_len (append_known old text)
known_len-append_known None text = omega arith
known_len-append_known (Some bytes) text = omega (arith, length-append bytes text)

-- a front that lies in the first text is a front of the two
front_more : (old new a b : List ℕ) → new ≡ take (length new) (old ++ a) → new ≡ take (length new) (old ++ (a ++ b))
front_more old new a b e =
    let within : length new ≤ length (old ++ a) = omega (arith, ap length e, length-take (length new) (old ++ a)) in
    e ∙ sym (take-append-le (length new) (old ++ a) b within) ∙ ap (take (length new)) (append_assoc old a b)

-- bytes that are told stay told
some_is_some : (x y : List ℕ) → ◌≡◌ {A = Option (List ℕ)} (Some x) (Some y) → x ≡ y
some_is_some x y e = cc

-- where the first text stopped, the whole stopped
pub StopsIn-first : (steady : Bool) (old new : Option (List ℕ)) (a b : List ℕ) → StopsIn steady old new a → StopsIn steady old new (a ++ b)
StopsIn-first steady None None a b s = record { front = refl; kept = s.kept }
StopsIn-first steady None (Some new) a b s = let e = s.front in cc
StopsIn-first steady (Some old) None a b s = let e = s.front in cc
StopsIn-first steady (Some old) (Some new) a b s =
    let e : new ≡ take (length new) (old ++ a) = some_is_some _ _ s.front in
    record { front = ap Some (front_more old new a b e); kept = s.kept }

-- where the second text stopped, the whole stopped
pub StopsIn-then : (steady : Bool) (old middle new : Option (List ℕ)) (a b : List ℕ) → middle ≡ append_known old a → StopsIn steady middle new b → StopsIn steady old new (a ++ b)
StopsIn-then steady old middle new a b e s =
    let joined = append_known-append_known old a b in
    let more = known_len-append_known old a in
    record {
      front = s.front ∙ ap (λ m. known_front (known_len new) (append_known m b)) e ∙ ap (known_front (known_len new)) joined;
      kept = λ t. let k = s.kept t in omega (arith, k, more, ap known_len e);
    }

-- a front of the text was put
pub StopsIn-front : (steady : Bool) (old new text : List ℕ) (count : ℕ) → new ≡ old ++ take count text → StopsIn steady (Some old) (Some new) text
StopsIn-front steady old new text count put =
    let parts : old ++ text ≡ new ++ drop count text = ap (λ t. old ++ t) (sym (take-append-drop count text)) ∙ sym (append_assoc old (take count text) (drop count text)) ∙ ap (λ t. t ++ drop count text) (sym put) in
    record {
      front = ap Some (sym (ap (take (length new)) parts ∙ take-append_seam new (drop count text)));
      kept = λ t. omega (arith, ap length put, length-append old (take count text));
    }

-- nothing was put
pub StopsIn-none : (steady : Bool) (old new : Option (List ℕ)) (text : List ℕ) → new ≡ old → StopsIn steady old new text
StopsIn-none steady None None text same = record { front = refl; kept = λ t. omega arith }
StopsIn-none steady None (Some new) text same = cc
StopsIn-none steady (Some old) None text same = cc
StopsIn-none steady (Some old) (Some new) text same = StopsIn-front steady old new text 0 (some_is_some _ _ same ∙ sym (append-nil old))
