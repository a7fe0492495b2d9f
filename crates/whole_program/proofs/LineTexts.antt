-- The lines of a batch, put part by part.

use Rattle.std.proofs.Common.{◌≡◌, ℕ, ◌+◌, ◌<◌, Bool, List, [], ◌∷◌, ◌++◌, length, take, drop, get_or, slice_get, Option, Some, refl, sym, ap, subst, ◌∙◌, append_assoc, arith, codes, Vec}
use Rattle.std.specs.Io.KnownBytes.{append_known}
use Rattle.std.proofs.lemmas.List.{take_more, take-append-drop, length-take-le, append-nil}
use Rattle.std.proofs.lemmas.Option.{slice_get-get_or, slice_get_within}
use Rattle.outer_io.specs.KnownText.{StopsIn}
use Rattle.outer_io.proofs.KnownTexts.{append_known-append_known, StopsIn-first, StopsIn-then}
use Rattle.whole_program.specs.Texts.{image_text, images_text, verdict_text, verdicts_from, verdicts_text}
use Rattle.std.specs.Global.{Global}
use Rattle.std.specs.Fmt.{decimal}
use Rattle.whole_program.specs.declared.verdict.JobVerdict.{JobVerdict}
use Rattle.whole_program.specs.declared.verdict.JobVerdict.TheVariants.{Yes}

images_append : (xs ys : List ℕ) → images_text (xs ++ ys) ≡ images_text xs ++ images_text ys
images_append [] ys = refl
images_append (x ∷ xs) ys = ap (λ (t : List ℕ). image_text x ++ t) (images_append xs ys) ∙ sym (append_assoc (image_text x) (images_text xs) (images_text ys))

-- One image more.
images_more : (m : List ℕ) (i : ℕ) → i < length m → images_text (take (i + 1) m) ≡ images_text (take i m) ++ image_text (get_or m i 0)
images_more m i inside =
    ap images_text (take_more m i 0 inside) ∙ images_append (take i m) (get_or m i 0 ∷ [])
    ∙ ap (λ (t : List ℕ). images_text (take i m) ++ t) (append-nil (image_text (get_or m i 0)))

images_parts : (m : List ℕ) (i : ℕ) → images_text m ≡ images_text (take i m) ++ images_text (drop i m)
images_parts m i = ap images_text (sym (take-append-drop i m)) ∙ images_append (take i m) (drop i m)

-- A text is put after another: the parts so far, one part more, and the rest.
next_put : (old middle new : Option (List ℕ)) (before here after : List ℕ) → after ≡ before ++ here → middle ≡ append_known old before → new ≡ append_known middle here → new ≡ append_known old after
next_put old middle new before here after is was put =
    put ∙ ap (λ (k : Option (List ℕ)). append_known k here) was ∙ append_known-append_known old before here ∙ ap (append_known old) (sym is)

-- Where a part stopped, the whole stopped.
next_stops : (steady now : Bool) (old middle new : Option (List ℕ)) (before here rest whole : List ℕ) → now ≡ steady → whole ≡ (before ++ here) ++ rest → middle ≡ append_known old before
    → StopsIn now middle new here → StopsIn steady old new whole
next_stops steady now old middle new before here rest whole same is was stops =
    let at = subst (λ (b : Bool). StopsIn b middle new here) same stops in
    subst (λ (t : List ℕ). StopsIn steady old new t) (sym is) (StopsIn-first steady old new (before ++ here) rest (StopsIn-then steady old middle new before here was at))

pub image_put : (old middle new : Option (List ℕ)) (m : List ℕ) (i : ℕ) → i < length m → middle ≡ append_known old (images_text (take i m))
    → new ≡ append_known middle (image_text (get_or m i 0)) → new ≡ append_known old (images_text (take (i + 1) m))
image_put old middle new m i inside was put = next_put old middle new _ _ _ (images_more m i inside) was put

pub image_stops : (steady now : Bool) → now ≡ steady → (old middle new : Option (List ℕ)) (m : List ℕ) (i : ℕ) → i < length m
    → middle ≡ append_known old (images_text (take i m)) → StopsIn now middle new (image_text (get_or m i 0)) → StopsIn steady old new (images_text m)
image_stops steady now same old middle new m i inside was stops =
    next_stops steady now old middle new (images_text (take i m)) (image_text (get_or m i 0)) (images_text (drop (i + 1) m)) (images_text m) same
    (images_parts m (i + 1) ∙ ap (λ (t : List ℕ). t ++ images_text (drop (i + 1) m)) (images_more m i inside)) was stops

-- The parts of a line with images.
yes_parts : (n : ℕ) (m : Vec ℕ Global) → verdict_text n (Yes m) ≡ ((decimal n ++ codes ": yes") ++ images_text m.items) ++ 10 ∷ []
yes_parts n m = refl

pub yes_stops_first : (steady : Bool) (old new : Option (List ℕ)) (n : ℕ) (number : List ℕ) (v : JobVerdict) (m : Vec ℕ Global) → number ≡ decimal n → v ≡ Yes m
    → StopsIn steady old new (number ++ codes ": yes") → StopsIn steady old new (verdict_text n v)
yes_stops_first steady old new n number v m is it stops =
    let here = subst (λ (t : List ℕ). StopsIn steady old new (t ++ codes ": yes")) is stops in
    subst (λ (t : List ℕ). StopsIn steady old new t) (sym (ap (verdict_text n) it ∙ yes_parts n m ∙ append_assoc (decimal n ++ codes ": yes") (images_text m.items) (10 ∷ [])))
    (StopsIn-first steady old new (decimal n ++ codes ": yes") (images_text m.items ++ 10 ∷ []) here)

pub yes_stops_then : (steady now : Bool) (old middle new : Option (List ℕ)) (n : ℕ) (number : List ℕ) (v : JobVerdict) (m : Vec ℕ Global) (images : List ℕ) → now ≡ steady → number ≡ decimal n → v ≡ Yes m → images ≡ m.items
    → middle ≡ append_known old (number ++ codes ": yes") → StopsIn now middle new (images_text images) → StopsIn steady old new (verdict_text n v)
yes_stops_then steady now old middle new n number v m images same is it are was stops =
    let begun : middle ≡ append_known old (decimal n ++ codes ": yes") = was ∙ ap (λ (t : List ℕ). append_known old (t ++ codes ": yes")) is in
    let here = subst (λ (k : List ℕ). StopsIn now middle new (images_text k)) are stops in
    next_stops steady now old middle new (decimal n ++ codes ": yes") (images_text m.items) (10 ∷ []) (verdict_text n v) same (ap (verdict_text n) it ∙ yes_parts n m) begun here

verdicts_append : (n : ℕ) (xs ys : List JobVerdict) → verdicts_from n (xs ++ ys) ≡ verdicts_from n xs ++ verdicts_from (n + length xs) ys
verdicts_append n [] ys = let e : n + 0 ≡ n = omega arith in rw e refl
verdicts_append n (x ∷ xs) ys =
    let e : n + 1 + length xs ≡ n + length (x ∷ xs) = omega arith in
    ap (λ (t : List ℕ). verdict_text n x ++ t) (verdicts_append (n + 1) xs ys ∙ ap (λ (k : ℕ). verdicts_from (n + 1) xs ++ verdicts_from k ys) e)
    ∙ sym (append_assoc (verdict_text n x) (verdicts_from (n + 1) xs) (verdicts_from (n + length (x ∷ xs)) ys))

verdicts_more : (vs : List JobVerdict) (i : ℕ) (v : JobVerdict) → slice_get vs i ≡ Some v → verdicts_text (take (i + 1) vs) ≡ verdicts_text (take i vs) ++ verdict_text (i + 1) v
verdicts_more vs i v there =
    let inside = slice_get_within vs i v there in
    let read = slice_get-get_or vs i v inside in
    let same : get_or vs i v ≡ v = cc in
    let at : 1 + length (take i vs) ≡ i + 1 = omega (arith, length-take-le i vs (omega arith)) in
    ap verdicts_text (take_more vs i v inside) ∙ verdicts_append 1 (take i vs) (get_or vs i v ∷ [])
    ∙ ap (λ (k : ℕ). verdicts_text (take i vs) ++ (verdict_text k (get_or vs i v) ++ [])) at
    ∙ ap (λ (t : List ℕ). verdicts_text (take i vs) ++ t) (append-nil (verdict_text (i + 1) (get_or vs i v)))
    ∙ ap (λ (x : JobVerdict). verdicts_text (take i vs) ++ verdict_text (i + 1) x) same

verdicts_parts : (vs : List JobVerdict) (i : ℕ) → verdicts_text vs ≡ verdicts_text (take i vs) ++ verdicts_from (1 + length (take i vs)) (drop i vs)
verdicts_parts vs i = ap verdicts_text (sym (take-append-drop i vs)) ∙ verdicts_append 1 (take i vs) (drop i vs)

pub verdict_put : (old middle new : Option (List ℕ)) (vs : List JobVerdict) (i : ℕ) (v : JobVerdict) → slice_get vs i ≡ Some v → middle ≡ append_known old (verdicts_text (take i vs))
    → new ≡ append_known middle (verdict_text (i + 1) v) → new ≡ append_known old (verdicts_text (take (i + 1) vs))
verdict_put old middle new vs i v there was put = next_put old middle new _ _ _ (verdicts_more vs i v there) was put

pub verdict_stops : (steady now : Bool) → now ≡ steady → (old middle new : Option (List ℕ)) (vs : List JobVerdict) (i : ℕ) (v : JobVerdict) → slice_get vs i ≡ Some v
    → middle ≡ append_known old (verdicts_text (take i vs)) → StopsIn now middle new (verdict_text (i + 1) v) → StopsIn steady old new (verdicts_text vs)
verdict_stops steady now same old middle new vs i v there was stops =
    next_stops steady now old middle new (verdicts_text (take i vs)) (verdict_text (i + 1) v) (verdicts_from (1 + length (take (i + 1) vs)) (drop (i + 1) vs)) (verdicts_text vs) same
    (verdicts_parts vs (i + 1) ∙ ap (λ (t : List ℕ). t ++ verdicts_from (1 + length (take (i + 1) vs)) (drop (i + 1) vs)) (verdicts_more vs i v there)) was stops
