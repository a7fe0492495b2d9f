-- The trail of a set of literals, as literals are set and cleared.
use Rattle.std.proofs.Common.{◌≡◌, ℕ, zero, suc, ◌+◌, ◌≤◌, ◌<◌, Bool, true, List, [], ◌∷◌, ◌++◌, length, get_or, set, replicate, Option, Some, None, refl, sym, ap, ◌∙◌, subst, arith, inl, inr, ◌⊎◌}
use Rattle.std.proofs.lemmas.Bool.{cases_eq}
use Rattle.std.proofs.lemmas.List.{length-set, get_or-set_same, get_or-set_other, length_push, ext_get_or, length-replicate, get_or-replicate}
use Rattle.pb_terms.specs.Trail.{unset_count, Among, AllBelow, IsTrailOf}

-- What a pushed number adds.
pub Among-push : (v x : ℕ) (xs : List ℕ) → Among v xs ⊎ (v ≡ x) → Among v (xs ++ x ∷ [])
Among-push v x [] (inl h) = absurd h
Among-push v x [] (inr e) = inl e
Among-push v x (y ∷ xs) (inl (inl e)) = inl e
Among-push v x (y ∷ xs) (inl (inr h)) = inr (Among-push v x xs (inl h))
Among-push v x (y ∷ xs) (inr e) = inr (Among-push v x xs (inr e))

pub Among-pop : (v x : ℕ) (xs : List ℕ) → Among v (xs ++ x ∷ []) → Among v xs ⊎ (v ≡ x)
Among-pop v x [] (inl e) = inr e
Among-pop v x [] (inr h) = absurd h
Among-pop v x (y ∷ xs) (inl e) = inl (inl e)
Among-pop v x (y ∷ xs) (inr h) = more (Among-pop v x xs h)
  where
    more : Among v xs ⊎ (v ≡ x) → ((v ≡ y) ⊎ Among v xs) ⊎ (v ≡ x)
    more (inl k) = inl (inr k)
    more (inr e) = inr e

pub AllBelow-push : (n x : ℕ) (xs : List ℕ) → AllBelow n xs → x < n → AllBelow n (xs ++ x ∷ [])
AllBelow-push n x [] h l = (l, tt)
AllBelow-push n x (y ∷ xs) h l = (h.0, AllBelow-push n x xs h.1 l)

pub AllBelow-pop : (n x : ℕ) (xs : List ℕ) → AllBelow n (xs ++ x ∷ []) → AllBelow n xs × (x < n)
AllBelow-pop n x [] h = (tt, h.0)
AllBelow-pop n x (y ∷ xs) h = let k = AllBelow-pop n x xs h.1 in ((h.0, k.0), k.1)

-- Setting a place that has no value leaves one place fewer without one.
pub unset_count-set : (values : List (Option Bool)) (v : ℕ) (b : Bool) → v < length values → get_or values v None ≡ None → unset_count (set values v (Some b)) + 1 ≡ unset_count values
unset_count-set [] v b h e = absurd (omega arith)
unset_count-set (None ∷ os) zero b h e = omega arith
unset_count-set (Some c ∷ os) zero b h e = absurd cc
unset_count-set (None ∷ os) (suc v) b h e = let k = unset_count-set os v b (omega arith) e in omega arith
unset_count-set (Some c ∷ os) (suc v) b h e = let k = unset_count-set os v b (omega arith) e in omega arith

-- Where no place has a value, all are counted.
pub unset_count-replicate : (n : ℕ) → unset_count (replicate n None) ≡ n
unset_count-replicate zero = refl
unset_count-replicate (suc n) = let k = unset_count-replicate n in omega arith

-- A literal set keeps the trail.
pub IsTrailOf-set : (values : List (Option Bool)) (trail : List ℕ) (capacity v : ℕ) (b : Bool) → IsTrailOf values trail capacity → v < length values → get_or values v None ≡ None → IsTrailOf (set values v (Some b)) (trail ++ v ∷ []) capacity
IsTrailOf-set values trail capacity v b t h e = record {
  named = λ w c k. by-place w c k (cases_eq w v);
  range = AllBelow-push _ v trail (subst (λ (n : ℕ). AllBelow n trail) (sym (length-set values v (Some b))) t.range) (let l = length-set values v (Some b) in omega arith);
  counted = let a = unset_count-set values v b h e in let l = length-set values v (Some b) in let p = length_push trail v in let k = t.counted in omega arith;
  room = let l = length-set values v (Some b) in let r = t.room in omega arith;
}
  where
    by-place : (w : ℕ) (c : Bool) → get_or (set values v (Some b)) w None ≡ Some c → (w ≡ v) ⊎ (w ≡ v → ⊥) → Among w (trail ++ v ∷ [])
    by-place w c k (inl same) = Among-push w v trail (inr same)
    by-place w c k (inr other) = Among-push w v trail (inl (t.named w c (sym (get_or-set_other values v w (Some b) None other) ∙ k)))

-- Where a trail is used up, room is left for one more.
pub trail_below : (values : List (Option Bool)) (trail : List ℕ) (v : ℕ) → unset_count values + length trail ≡ length values → v < length values → get_or values v None ≡ None → length trail < length values
trail_below values trail v c h e = let k = unset_count-set values v true h e in omega arith

-- What is still to be cleared: the values that are named by the rest of the trail.
pub record ToClear (values : List (Option Bool)) (trail : List ℕ) (n capacity : ℕ) : Type 0 where
  pub named : (v : ℕ) (b : Bool) → get_or values v None ≡ Some b → Among v trail
  pub range : AllBelow n trail
  pub long : length values ≡ n
  pub room : n ≤ capacity

pub ToClear-start : (values : List (Option Bool)) (trail : List ℕ) (capacity : ℕ) → IsTrailOf values trail capacity → ToClear values trail (length values) capacity
ToClear-start values trail capacity t = record { named = t.named; range = t.range; long = refl; room = t.room }

pub ToClear-more : (values : List (Option Bool)) (trail : List ℕ) (n capacity v : ℕ) → ToClear values (trail ++ v ∷ []) n capacity → ToClear (set values v None) trail n capacity
ToClear-more values trail n capacity v t = record {
  named = λ w c k. by-place w c k (cases_eq w v);
  range = (AllBelow-pop n v trail t.range).0;
  long = length-set values v None ∙ t.long;
  room = t.room;
}
  where
    v_in : v < length values
    v_in = let h = (AllBelow-pop n v trail t.range).1 in let l = t.long in omega arith

    kept : (w : ℕ) → Among w trail ⊎ (w ≡ v) → (w ≡ v → ⊥) → Among w trail
    kept w (inl h) other = h
    kept w (inr e) other = absurd (other e)

    by-place : (w : ℕ) (c : Bool) → get_or (set values v None) w None ≡ Some c → (w ≡ v) ⊎ (w ≡ v → ⊥) → Among w trail
    by-place w c k (inl same) = absurd (let e : get_or (set values v None) w None ≡ None = ap (λ (u : ℕ). get_or (set values v None) u None) same ∙ get_or-set_same values v None None v_in in cc)
    by-place w c k (inr other) = kept w (Among-pop w v trail (t.named w c (sym (get_or-set_other values v w None None other) ∙ k))) other

none_unless : (o : Option Bool) → ((b : Bool) → o ≡ Some b → ⊥) → o ≡ None
none_unless None h = refl
none_unless (Some b) h = absurd (h b refl)

-- With nothing left of the trail no place has a value.
pub ToClear-end : (values : List (Option Bool)) (n capacity : ℕ) → ToClear values [] n capacity → values ≡ replicate n None
ToClear-end values n capacity t =
    ext_get_or None values (replicate n None) (t.long ∙ sym (length-replicate n None)) (λ i h.
    none_unless (get_or values i None) (λ b e. t.named i b e) ∙ sym (get_or-replicate n i None None (let l = t.long in omega arith)))

no_values : (m v : ℕ) → let nothing : Option Bool = None in get_or (replicate m nothing) v nothing ≡ nothing
no_values zero v = refl
no_values (suc m) zero = refl
no_values (suc m) (suc v) = no_values m v

-- A set with no literal has an empty trail.
pub IsTrailOf-none : (values : List (Option Bool)) (n capacity : ℕ) → values ≡ replicate n None → n ≤ capacity → IsTrailOf values [] capacity
IsTrailOf-none values n capacity e h = record {
  named = λ v b k. absurd (unset v b k);
  range = tt;
  counted = let u = ap unset_count e ∙ unset_count-replicate n in let l = ap length e ∙ length-replicate n None in omega arith;
  room = let l = ap length e ∙ length-replicate n None in omega arith;
}
  where
    unset : (v : ℕ) (b : Bool) → get_or values v None ≡ Some b → ⊥
    unset v b k = let f : get_or values v None ≡ None = ap (λ (os : List (Option Bool)). get_or os v None) e ∙ no_values n v in cc

-- More room does no harm.
pub IsTrailOf-room : (values : List (Option Bool)) (trail : List ℕ) (small large : ℕ) → IsTrailOf values trail small → small ≤ large → IsTrailOf values trail large
IsTrailOf-room values trail small large t h = record { named = t.named; range = t.range; counted = t.counted; room = let r = t.room in omega arith }

pub ToClear-room : (values : List (Option Bool)) (trail : List ℕ) (n small large : ℕ) → ToClear values trail n small → small ≤ large → ToClear values trail n large
ToClear-room values trail n small large t h = record { named = t.named; range = t.range; long = t.long; room = let r = t.room in omega arith }

-- A list of no length is empty.
pub no_items : (xs : List ℕ) → length xs ≡ 0 → xs ≡ []
no_items [] e = refl
no_items (x ∷ xs) e = absurd (omega arith)
