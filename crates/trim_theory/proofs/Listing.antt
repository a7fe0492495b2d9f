-- What whoever makes a trimmed log needs: which names are deleted behind a line, when references refute, and when nothing is kept.
use Rattle.std.proofs.Common.{◌⊎◌, inl, inr, ◌≡◌, ℕ, zero, suc, ◌+◌, ◌<◌, ◌≤◌, Bool, true, false, cond, not, ◌&&◌, List, [], ◌∷◌, ◌++◌, map, refl, sym, ap, ◌∙◌, subst, append-nil, arith}
use Rattle.std.proofs.lemmas.Bool.{cases_Bool, cases_eq, and_parts, and_from, or_left, or_right, not-true, not_from_false, both_ways}
use Rattle.log_theory.specs.declared.step.Ref.{Ref}
use Rattle.log_theory.specs.declared.step.Ref.TheVariants.{Made}
use Rattle.log_theory.specs.declared.step.Step.{Step}
use Rattle.log_theory.specs.declared.step.Step.TheVariants.{D}
use Rattle.proof_theory.specs.Slack.{conflict, after, refutes}
use Rattle.proof_theory.specs.Propagation.{IsAmong}
use Rattle.journal_theory.specs.Referring.{step_refs}
use Rattle.journal_theory.specs.Journals.{own_name}
use Rattle.trim_theory.specs.Running.{later_refs, is_named, deletions}
use Rattle.trim_theory.specs.Laws.{AreRising, DeletionLaw, HintLaw, NothingLaw}

-- ---- items of lists

module _ {A : Type 0} where
  pub among_front : (x : A) (xs ys : List A) → IsAmong x xs → IsAmong x (xs ++ ys)
  among_front x [] ys h = absurd h
  among_front x (y ∷ xs) ys (inl e) = inl e
  among_front x (y ∷ xs) ys (inr h) = inr (among_front x xs ys h)

  pub among_behind : (x : A) (xs ys : List A) → IsAmong x ys → IsAmong x (xs ++ ys)
  among_behind x [] ys h = h
  among_behind x (y ∷ xs) ys h = inr (among_behind x xs ys h)

  pub among_either : (x : A) (xs ys : List A) → IsAmong x (xs ++ ys) → IsAmong x xs ⊎ IsAmong x ys
  among_either x [] ys h = inr h
  among_either x (y ∷ xs) ys (inl e) = inl (inl e)
  among_either x (y ∷ xs) ys (inr h) = elim (among_either x xs ys h) [ inl k ↦ inl (inr k) | inr k ↦ inr k ]

-- Places from `low` on lie from there on.
rising_low : (low : ℕ) (xs : List ℕ) (i : ℕ) → AreRising low xs → IsAmong i xs → low ≤ i
rising_low low [] i r h = absurd h
rising_low low (x ∷ xs) i r (inl e) = let l : low ≤ x = r.0 in omega (arith, l, e)
rising_low low (x ∷ xs) i r (inr h) = let l : low ≤ x = r.0 in let k = rising_low (x + 1) xs i r.1 h in omega (arith, l, k)

-- One more place behind others.
pub rising_snoc : (low : ℕ) (xs : List ℕ) (n : ℕ) → AreRising low xs → ((i : ℕ) → IsAmong i xs → i < n) → low ≤ n → AreRising low (xs ++ n ∷ [])
rising_snoc low [] n r below l = (l, tt)
rising_snoc low (x ∷ xs) n r below l = (r.0, rising_snoc (x + 1) xs n r.1 (λ i h. below i (inr h)) (let b = below x (inl refl) in omega (arith, b)))

-- Strictly rising places with the same members are the same.
rising_same : (low : ℕ) (xs ys : List ℕ) → AreRising low xs → AreRising low ys → ((i : ℕ) → IsAmong i xs → IsAmong i ys) → ((i : ℕ) → IsAmong i ys → IsAmong i xs) → xs ≡ ys
rising_same low [] [] r q on back = refl
rising_same low [] (y ∷ ys) r q on back = absurd (back y (inl refl))
rising_same low (x ∷ xs) [] r q on back = absurd (on x (inl refl))
rising_same low (x ∷ xs) (y ∷ ys) r q on back =
    ap (λ (n : ℕ). n ∷ xs) same ∙ ap (λ (zs : List ℕ). y ∷ zs)
    (rising_same (y + 1) xs ys (subst (λ (n : ℕ). AreRising (n + 1) xs) same r.1) q.1
    (λ i h. behind i (on i (inr h)) (subst (λ (n : ℕ). n + 1 ≤ i) same (rising_low (x + 1) xs i r.1 h)))
    (λ i h. before i (back i (inr h)) (rising_low (y + 1) ys i q.1 h)))
  where
    least : (a b : ℕ) (bs : List ℕ) → AreRising low (b ∷ bs) → (a ≡ b) ⊎ IsAmong a bs → b ≤ a
    least a b bs s (inl e) = omega (arith, e)
    least a b bs s (inr h) = let l = rising_low (b + 1) bs a s.1 h in omega (arith, l)

    same : x ≡ y
    same = let l = least x y ys q (on x (inl refl)) in let k = least y x xs r (back y (inl refl)) in omega (arith, l, k)

    behind : (i : ℕ) → (i ≡ y) ⊎ IsAmong i ys → y + 1 ≤ i → IsAmong i ys
    behind i (inl e) l = absurd (omega (arith, l, e))
    behind i (inr h) l = h

    before : (i : ℕ) → (i ≡ x) ⊎ IsAmong i xs → y + 1 ≤ i → IsAmong i xs
    before i (inl e) l = absurd (omega (arith, l, e, same))
    before i (inr h) l = h

-- ---- deletions

-- The places of the deletions.
abbrev last_places : ℕ → List Ref → List Ref → List ℕ
last_places zero here later = []
last_places (suc n) here later = last_places n here later ++ cond (is_named n here && not (is_named n later)) (n ∷ []) []

abbrev deletion : ℕ → Step
deletion i = D (Made (own_name 0 i))

map_on : (xs ys : List ℕ) → map deletion (xs ++ ys) ≡ map deletion xs ++ map deletion ys
map_on [] ys = refl
map_on (x ∷ xs) ys = ap (λ (zs : List Step). deletion x ∷ zs) (map_on xs ys)

places_deleted : (n : ℕ) (here later : List Ref) → map deletion (last_places n here later) ≡ deletions n here later
places_deleted zero here later = refl
places_deleted (suc n) here later =
    map_on (last_places n here later) (cond (is_named n here && not (is_named n later)) (n ∷ []) [])
    ∙ ap (λ (xs : List Step). xs ++ map deletion (cond (is_named n here && not (is_named n later)) (n ∷ []) [])) (places_deleted n here later)
    ∙ ap (λ (xs : List Step). deletions n here later ++ xs) (by (is_named n here && not (is_named n later)))
  where
    by : (b : Bool) → map deletion (cond b (n ∷ []) []) ≡ cond b (deletion n ∷ []) []
    by true = refl
    by false = refl

last_sound : (n : ℕ) (here later : List Ref) (i : ℕ) → IsAmong i (last_places n here later) → (i < n) × (is_named i here ≡ true) × (is_named i later ≡ false)
last_sound zero here later i h = absurd h
last_sound (suc n) here later i h = by (last_sound n here later i) (cases_Bool (is_named n here && not (is_named n later))) (among_either i (last_places n here later) (cond (is_named n here && not (is_named n later)) (n ∷ []) []) h)
  where
    newest : (b : Bool) → IsAmong i (cond b (n ∷ []) []) → (b ≡ true) × (i ≡ n)
    newest true (inl e) = (refl, e)
    newest true (inr k) = absurd k
    newest false k = absurd k

    by : (IsAmong i (last_places n here later) → (i < n) × (is_named i here ≡ true) × (is_named i later ≡ false))
        → ((is_named n here && not (is_named n later)) ≡ true) ⊎ ((is_named n here && not (is_named n later)) ≡ false)
        → IsAmong i (last_places n here later) ⊎ IsAmong i (cond (is_named n here && not (is_named n later)) (n ∷ []) [])
        → (i < suc n) × (is_named i here ≡ true) × (is_named i later ≡ false)
    by ih c (inl k) = let s = ih k in (let l : i < n = s.0 in omega (arith, l), s.1, s.2)
    by ih c (inr k) =
        let s = newest (is_named n here && not (is_named n later)) k in
        let p = and_parts (is_named n here) (not (is_named n later)) s.0 in
        (let e : i ≡ n = s.1 in omega (arith, e), ap (λ (m : ℕ). is_named m here) s.1 ∙ p.0, ap (λ (m : ℕ). is_named m later) s.1 ∙ not-true (is_named n later) p.1)

last_complete : (n : ℕ) (here later : List Ref) (i : ℕ) → i < n → is_named i here ≡ true → is_named i later ≡ false → IsAmong i (last_places n here later)
last_complete zero here later i l h k = absurd (omega arith)
last_complete (suc n) here later i l h k = by (cases_eq i n) (last_complete n here later i)
  where
    by : (i ≡ n) ⊎ (i ≡ n → ⊥) → (i < n → is_named i here ≡ true → is_named i later ≡ false → IsAmong i (last_places n here later)) → IsAmong i (last_places (suc n) here later)
    by (inr ne) ih = among_front i (last_places n here later) (cond (is_named n here && not (is_named n later)) (n ∷ []) []) (ih (omega (arith, l, ne)) h k)
    by (inl e) ih =
        let b : (is_named n here && not (is_named n later)) ≡ true =
        and_from (is_named n here) (not (is_named n later)) (ap (λ (m : ℕ). is_named m here) (sym e) ∙ h) (not_from_false (is_named n later) (ap (λ (m : ℕ). is_named m later) (sym e) ∙ k)) in
        among_behind i (last_places n here later) (cond (is_named n here && not (is_named n later)) (n ∷ []) []) (subst (λ (x : Bool). IsAmong i (cond x (n ∷ []) [])) (sym b) (inl e))

last_rising : (n : ℕ) (here later : List Ref) → AreRising 0 (last_places n here later)
last_rising zero here later = tt
last_rising (suc n) here later = by (is_named n here && not (is_named n later)) (last_rising n here later)
  where
    by : (b : Bool) → AreRising 0 (last_places n here later) → AreRising 0 (last_places n here later ++ cond b (n ∷ []) [])
    by true r = rising_snoc 0 (last_places n here later) n r (λ i h. (last_sound n here later i h).0) (omega arith)
    by false r = subst (AreRising 0) (sym (append-nil (last_places n here later))) r

pub deleted_places : DeletionLaw
deleted_places n here later places last =
    ap (λ (xs : List ℕ). map deletion xs)
    (rising_same 0 places (last_places n here later) last.rising (last_rising n here later)
    (λ i h. let s = last.sound i h in last_complete n here later i s.0 s.1 s.2)
    (λ i h. let s = last_sound n here later i h in last.complete i s.0 s.1 s.2))
    ∙ places_deleted n here later

-- ---- hints

pub hints_refute : HintLaw
hints_refute s [] g e = or_left (conflict s g) (refutes (after s g) []) e
hints_refute s (f ∷ fs) g e = or_right (conflict s f) (refutes (after s f) (fs ++ g ∷ [])) (hints_refute (after s f) fs g e)

-- ---- nothing kept

pub nothing_used : NothingLaw
nothing_used place [] end used none = refl
nothing_used place (s ∷ ss) end used none =
    let rest : ss ≡ [] = nothing_used (place + 1) ss end used.1 none in
    absurd (both_ways (is_named place (step_refs end)) (none place) (ap (λ (us : List Step). is_named place (later_refs us end)) (sym rest) ∙ used.0))
