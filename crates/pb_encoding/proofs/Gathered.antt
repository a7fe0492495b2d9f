-- A text that is gathered in a buffer and put in pieces.
use Rattle.std.proofs.Common.{◌≡◌, ℕ, Bool, List, [], ◌++◌, Option, refl, sym, ap, subst, ◌∙◌, append_assoc}
use Rattle.std.specs.Io.KnownBytes.{append_known}
use Rattle.std.proofs.lemmas.List.{append-nil}
use Rattle.outer_io.specs.KnownText.{StopsIn}
use Rattle.outer_io.proofs.KnownTexts.{append_known-append_known, append_known-nil, StopsIn-none, StopsIn-first, StopsIn-then}
use Rattle.pb_encoding.specs.Gathering.{IsGathered}

-- Nothing was put, and the buffer holds all.
pub gathered-none : (old : Option (List ℕ)) (text : List ℕ) → IsGathered old old text text
gathered-none old text = record { put = []; whole = refl; held = sym (append_known-nil old) }

-- The buffer was put and is empty.
pub gathered-all : (old new : Option (List ℕ)) (text : List ℕ) → new ≡ append_known old text → IsGathered old new [] text
gathered-all old new text put = record { put = text; whole = append-nil text; held = put }

-- More was appended to the buffer.
pub gathered-more : (old new : Option (List ℕ)) (buffer grown text more whole : List ℕ) → IsGathered old new buffer text → grown ≡ buffer ++ more → text ++ more ≡ whole
    → IsGathered old new grown whole
gathered-more old new buffer grown text more whole g grows joined = record {
  put = g.put;
  whole = ap (λ (t : List ℕ). g.put ++ t) grows ∙ sym (append_assoc g.put buffer more) ∙ ap (λ (t : List ℕ). t ++ more) g.whole ∙ joined;
  held = g.held;
}

-- A front part of the buffer was put.
pub gathered-then : (old middle new : Option (List ℕ)) (buffer left text : List ℕ) → IsGathered old middle buffer text → IsGathered middle new left buffer → IsGathered old new left text
gathered-then old middle new buffer left text g h = record {
  put = g.put ++ h.put;
  whole = append_assoc g.put h.put left ∙ ap (λ (t : List ℕ). g.put ++ t) h.whole ∙ g.whole;
  held = h.held ∙ ap (λ (k : Option (List ℕ)). append_known k h.put) g.held ∙ append_known-append_known old g.put h.put;
}

-- What was put is a front part of the text, and of one that goes on.
pub gathered-front : (steady : Bool) (old new : Option (List ℕ)) (buffer text rest : List ℕ) → IsGathered old new buffer text → StopsIn steady old new (text ++ rest)
gathered-front steady old new buffer text rest g =
    let stop = StopsIn-then steady old new new g.put buffer g.held (StopsIn-none steady new new buffer refl) in
    StopsIn-first steady old new text rest (subst (λ (t : List ℕ). StopsIn steady old new t) g.whole stop)

-- Putting the buffer stopped, so the text stopped, and one that goes on.
pub gathered-stops : (steady steady_now : Bool) → steady_now ≡ steady → (old middle new : Option (List ℕ)) (buffer text rest : List ℕ) → IsGathered old middle buffer text
    → StopsIn steady_now middle new buffer → StopsIn steady old new (text ++ rest)
gathered-stops steady steady_now same old middle new buffer text rest g stop =
    let here = subst (λ (b : Bool). StopsIn b middle new buffer) same stop in
    let whole = StopsIn-then steady old middle new g.put buffer g.held here in
    StopsIn-first steady old new text rest (subst (λ (t : List ℕ). StopsIn steady old new t) g.whole whole)

-- Putting the rest of the buffer ends the text.
pub gathered-ends : (old middle new : Option (List ℕ)) (buffer text : List ℕ) → IsGathered old middle buffer text → new ≡ append_known middle buffer → new ≡ append_known old text
gathered-ends old middle new buffer text g put =
    put ∙ ap (λ (k : Option (List ℕ)). append_known k buffer) g.held ∙ append_known-append_known old g.put buffer ∙ ap (append_known old) g.whole
