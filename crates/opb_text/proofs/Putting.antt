-- Texts of items that are put one after another.
use Rattle.std.proofs.Common.{◌≡◌, ℕ, ◌+◌, ◌<◌, Bool, List, [], ◌∷◌, ◌++◌, length, take, drop, get_or, Option, Result, Ok, Err, sym, ap, subst, ◌∙◌}
use Rattle.std.specs.List.{flat_map}
use Rattle.std.specs.Io.KnownBytes.{append_known}
use Rattle.std.proofs.lemmas.Grind.{flat_map-append}
use Rattle.std.proofs.lemmas.List.{take_more, take-append-drop, append-nil}
use Rattle.outer_io.specs.KnownText.{StopsIn, Wrote}
use Rattle.outer_io.proofs.KnownTexts.{append_known-append_known, StopsIn-first, StopsIn-then}

module _ {A : Type 0} (text : A → List ℕ) where
  -- One item more.
  pub texts-more : (xs : List A) (i : ℕ) (d : A) → i < length xs → flat_map text (take (i + 1) xs) ≡ flat_map text (take i xs) ++ text (get_or xs i d)
  texts-more xs i d i_in =
      ap (flat_map text) (take_more xs i d i_in) ∙ flat_map-append text (take i xs) (get_or xs i d ∷ [])
      ∙ ap (λ (t : List ℕ). flat_map text (take i xs) ++ t) (append-nil (text (get_or xs i d)))

  -- The items so far and those after them.
  pub texts-parts : (xs : List A) (i : ℕ) → flat_map text xs ≡ flat_map text (take i xs) ++ flat_map text (drop i xs)
  texts-parts xs i = ap (flat_map text) (sym (take-append-drop i xs)) ∙ flat_map-append text (take i xs) (drop i xs)

  -- Where an item stopped, the whole stopped.
  pub StopsIn-item : (steady steady_now : Bool) → steady_now ≡ steady → (old middle new : Option (List ℕ)) (xs : List A) (i : ℕ) (d : A) → i < length xs
      → middle ≡ append_known old (flat_map text (take i xs)) → StopsIn steady_now middle new (text (get_or xs i d)) → StopsIn steady old new (flat_map text xs)
  StopsIn-item steady steady_now same old middle new xs i d i_in before s =
      let here = subst (λ (b : Bool). StopsIn b middle new (text (get_or xs i d))) same s in
      let to_item = StopsIn-then steady old middle new (flat_map text (take i xs)) (text (get_or xs i d)) before here in
      subst (λ (t : List ℕ). StopsIn steady old new t)
      (ap (λ (t : List ℕ). t ++ flat_map text (drop (i + 1) xs)) (sym (texts-more xs i d i_in)) ∙ sym (texts-parts xs (i + 1)))
      (StopsIn-first steady old new _ (flat_map text (drop (i + 1) xs)) to_item)

  -- The items so far were put, and then one more.
  pub append_known-item : (old middle new : Option (List ℕ)) (xs : List A) (i : ℕ) (d : A) → i < length xs → middle ≡ append_known old (flat_map text (take i xs))
      → new ≡ append_known middle (text (get_or xs i d)) → new ≡ append_known old (flat_map text (take (i + 1) xs))
  append_known-item old middle new xs i d i_in before put =
      put ∙ ap (λ (k : Option (List ℕ)). append_known k (text (get_or xs i d))) before
      ∙ append_known-append_known old (flat_map text (take i xs)) (text (get_or xs i d)) ∙ ap (append_known old) (sym (texts-more xs i d i_in))

-- A text was put, and then what follows it was put or stopped in.
pub Wrote-then : {T E : Type 0} (steady steady_now : Bool) → steady_now ≡ steady → (old middle new : Option (List ℕ)) (r : Result T E) (a b : List ℕ)
    → middle ≡ append_known old a → Wrote steady_now middle new r b → Wrote steady old new r (a ++ b)
Wrote-then steady steady_now same old middle new (Ok x) a b before put = put ∙ ap (λ (k : Option (List ℕ)). append_known k b) before ∙ append_known-append_known old a b
Wrote-then steady steady_now same old middle new (Err e) a b before stop = StopsIn-then steady old middle new a b before (subst (λ (s : Bool). StopsIn s middle new b) same stop)
