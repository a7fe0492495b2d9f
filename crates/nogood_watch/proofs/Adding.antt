-- One nogood more.
use Rattle.std.proofs.Common.{◌≡◌, ℕ, ◌+◌, ◌-◌, ◌*◌, ◌/◌, ◌<◌, ◌≤◌, suc, Bool, true, false, cond, eqb, ltb, ◌&&◌, List, [], ◌∷◌, ◌++◌, length, take, drop, map, get_or, refl, sym, ap, ◌∙◌, subst, arith, inl, inr, ◌⊎◌, length-append, length-drop}
use Rattle.std.proofs.lemmas.Bool.{cases_eq, ltb-true, ltb-false, le-ltb}
use Rattle.std.proofs.lemmas.List.{take_at, length-map, map-append, get_or_append_left, take-append-le, drop-append-le, get_or-append-add}
use Rattle.std.proofs.Math.Seq.{get_or-append_seam, drop-append_seam, take-length}
use Rattle.nogood_watch.specs.declared.watched.Entry.{Entry}
use Rattle.nogood_watch.specs.Lists.{no_watch, Chained, moved}
use Rattle.nogood_watch.specs.Nogoods.{State, Nogood, added, literal, partner, nogood, nogood_of, AreLiterals, AreWatches}
use Rattle.nogood_watch.specs.Covering.{AreCovered, watched_for, seen}
use Rattle.nogood_watch.specs.Inside.{cell, home_of, is_live, entry, nogood_at, nogoods_of, watches_of, Within, Kept}
use Rattle.nogood_watch.proofs.Chains.{chained_same, chain_empty, moved_at, moved_other}
use Rattle.nogood_watch.proofs.Visits.{partner_in, half_in}
use Rattle.nogood_watch.proofs.Readiness.{cell_below, watch_in}
use Rattle.nogood_watch.proofs.Covering.{live_front, live_last, covered_more, seen_more}
use Rattle.nogood_watch.proofs.Walks.{home_live, home_past}

-- a slice written back into its vector
pub written_back : {A : Type 0} (len : ℕ) (old xs : List A) → len ≡ length old → length xs ≡ length old → take len (xs ++ drop (length xs) old) ≡ xs
written_back len old xs l e = take_at xs (drop (length xs) old) len (e ∙ sym l)

-- ---- the value

pub added_one : (s : State) (xs : List (ℕ × ℕ)) (name : ℕ) → length xs ≡ 1 → record s { units = s.units ++ ((literal xs 0).0, (literal xs 0).1, name) ∷ [] } ≡ added s xs name
added_one s [] name e = absurd (omega arith)
added_one s (x ∷ []) name e = refl
added_one s (x ∷ y ∷ xs) name e = absurd (omega arith)

pub added_more : (s : State) (xs : List (ℕ × ℕ)) (name : ℕ) → 0 < length xs → (length xs ≡ 1 → ⊥)
    → record s { nogoods = s.nogoods ++ record { literals = xs; name = name } ∷ []; watches = s.watches ++ literal xs 0 ∷ literal xs 1 ∷ [] } ≡ added s xs name
added_more s [] name some more = absurd (omega arith)
added_more s (x ∷ []) name some more = absurd (more refl)
added_more s (x ∷ y ∷ xs) name some more = refl

-- ---- the nogoods

map_same : {A B : Type 0} (f g : A → B) (xs : List A) (d : A) → ((i : ℕ) → i < length xs → f (get_or xs i d) ≡ g (get_or xs i d)) → map f xs ≡ map g xs
map_same f g [] d same = refl
map_same f g (x ∷ xs) d same = rw (same 0 (omega arith), map_same f g xs d (λ i h. same (suc i) (omega arith))) refl

-- more literals at the end change no nogood
nogood_front : (literals xs : List (ℕ × ℕ)) (e : Entry) → Within literals e → nogood_at (literals ++ xs) e ≡ nogood_at literals e
nogood_front literals xs e w =
    let d : drop e.start (literals ++ xs) ≡ drop e.start literals ++ xs = drop-append-le e.start literals xs (omega (arith, w.rising, w.inside)) in
    let t : take (e.end - e.start) (drop e.start literals ++ xs) ≡ take (e.end - e.start) (drop e.start literals) =
    take-append-le (e.end - e.start) (drop e.start literals) xs (omega (arith, w.rising, w.inside, length-drop e.start literals)) in
    ap (λ k. record { literals = k; name = e.name }) (ap (take (e.end - e.start)) d ∙ t)

pub nogoods_more : (literals xs : List (ℕ × ℕ)) (entries : List Entry) (start name : ℕ) → ((i : ℕ) → i < length entries → Within literals (entry entries i)) → start ≡ length literals
    → nogoods_of (literals ++ xs) (entries ++ record { start = start; end = start + length xs; name = name } ∷ []) ≡ nogoods_of literals entries ++ record { literals = xs; name = name } ∷ []
nogoods_more literals xs entries start name within e =
    let front = map_same (nogood_at (literals ++ xs)) (nogood_at literals) entries (record { start = 0; end = 0; name = 0 }) (λ i h. nogood_front literals xs (entry entries i) (within i h)) in
    let size : start + length xs - start ≡ length xs = omega arith in
    let last : take (start + length xs - start) (drop start (literals ++ xs)) ≡ xs =
    ap (λ k. take (start + length xs - start) (drop k (literals ++ xs))) e ∙ ap (take (start + length xs - start)) (drop-append_seam literals xs) ∙ ap (λ k. take k xs) size ∙ take-length xs in
    map-append (nogood_at (literals ++ xs)) entries (record { start = start; end = start + length xs; name = name } ∷ [])
    ∙ ap (λ k. k ++ nogood_at (literals ++ xs) (record { start = start; end = start + length xs; name = name }) ∷ []) front
    ∙ ap (λ k. nogoods_of literals entries ++ record { literals = k; name = name } ∷ []) last

-- ---- the watches

old_nogood : (nogoods : List Nogood) (n : Nogood) (x : ℕ) → x / 2 < length nogoods → nogood_of (nogoods ++ n ∷ []) x ≡ nogood_of nogoods x
old_nogood nogoods n x h = get_or_append_left nogoods (n ∷ []) (record { literals = []; name = 0 }) (x / 2) h

last_nogood : (nogoods : List Nogood) (n : Nogood) (x : ℕ) → x / 2 ≡ length nogoods → nogood_of (nogoods ++ n ∷ []) x ≡ n
last_nogood nogoods n x e = ap (λ k. get_or (nogoods ++ n ∷ []) k (record { literals = []; name = 0 })) e ∙ get_or-append_seam nogoods n [] (record { literals = []; name = 0 })

watch_0 : (w : List (ℕ × ℕ)) (a b : ℕ × ℕ) (x : ℕ) → x ≡ length w → literal (w ++ a ∷ b ∷ []) x ≡ a
watch_0 w a b x e = ap (literal (w ++ a ∷ b ∷ [])) e ∙ get_or-append_seam w a (b ∷ []) (0, 0)

watch_1 : (w : List (ℕ × ℕ)) (a b : ℕ × ℕ) (x : ℕ) → x ≡ length w + 1 → literal (w ++ a ∷ b ∷ []) x ≡ b
watch_1 w a b x e = ap (literal (w ++ a ∷ b ∷ [])) e ∙ get_or-append-add w (a ∷ b ∷ []) 1 (0, 0)

watch_old : (w : List (ℕ × ℕ)) (a b : ℕ × ℕ) (x : ℕ) → x < length w → literal (w ++ a ∷ b ∷ []) x ≡ literal w x
watch_old w a b x h = get_or_append_left w (a ∷ b ∷ []) (0, 0) x h

lt_or_le : (j k : ℕ) → (j < k) ⊎ (k ≤ j)
lt_or_le j k = by (ltb j k) refl
  where
    by : (b : Bool) → ltb j k ≡ b → (j < k) ⊎ (k ≤ j)
    by true e = inl (ltb-true j k e)
    by false e = inr (ltb-false j k e)

pub watches_more : (vertices values : ℕ) (nogoods : List Nogood) (w xs : List (ℕ × ℕ)) (name : ℕ) → AreWatches nogoods w → AreLiterals vertices values xs → 2 ≤ length xs
    → AreWatches (nogoods ++ record { literals = xs; name = name } ∷ []) (w ++ literal xs 0 ∷ literal xs 1 ∷ [])
watches_more vertices values nogoods w xs name a are long = record {
  two = omega (arith, length-append w (literal xs 0 ∷ literal xs 1 ∷ []), length-append nogoods (new ∷ []), a.two);
  of = λ x h. of x (rw (length-append w (literal xs 0 ∷ literal xs 1 ∷ [])) at h) (lt_or_le x (length w)) (cases_eq x (length w));
  apart = λ x h. differ x (rw (length-append w (literal xs 0 ∷ literal xs 1 ∷ [])) at h) (lt_or_le x (length w)) (cases_eq x (length w));
}
  where
    new : Nogood
    new = record { literals = xs; name = name }

    of : (x : ℕ) → x < length w + 2 → (x < length w) ⊎ (length w ≤ x) → (x ≡ length w) ⊎ (x ≡ length w → ⊥)
        → (k : ℕ) × (k < length (nogood_of (nogoods ++ new ∷ []) x).literals) × (literal (nogood_of (nogoods ++ new ∷ []) x).literals k ≡ literal (w ++ literal xs 0 ∷ literal xs 1 ∷ []) x)
    of x h (inl l) _ = rw (old_nogood nogoods new x (half_in x (length w) (length nogoods) a.two l), watch_old w (literal xs 0) (literal xs 1) x l) (a.of x l)
    of x h (inr m) (inl e) = rw (last_nogood nogoods new x (omega (arith, a.two, e)), watch_0 w (literal xs 0) (literal xs 1) x e) (0, omega (arith, long), refl)
    of x h (inr m) (inr n) = rw (last_nogood nogoods new x (omega (arith, a.two, h, m, n)), watch_1 w (literal xs 0) (literal xs 1) x (omega (arith, h, m, n))) (1, omega (arith, long), refl)

    differ : (x : ℕ) → x < length w + 2 → (x < length w) ⊎ (length w ≤ x) → (x ≡ length w) ⊎ (x ≡ length w → ⊥)
        → (literal (w ++ literal xs 0 ∷ literal xs 1 ∷ []) x).0 ≡ (literal (w ++ literal xs 0 ∷ literal xs 1 ∷ []) (partner x)).0 → ⊥
    differ x h (inl l) _ same =
        a.apart x l (ap (λ (k : ℕ × ℕ). k.0) (sym (watch_old w (literal xs 0) (literal xs 1) x l)) ∙ same
        ∙ ap (λ (k : ℕ × ℕ). k.0) (watch_old w (literal xs 0) (literal xs 1) (partner x) (partner_in x (length w) (length nogoods) a.two l)))
    differ x h (inr m) (inl e) same =
        are.apart 0 1 (omega arith) (omega (arith, long)) (ap (λ (k : ℕ × ℕ). k.0) (sym (watch_0 w (literal xs 0) (literal xs 1) x e)) ∙ same
        ∙ ap (λ (k : ℕ × ℕ). k.0) (watch_1 w (literal xs 0) (literal xs 1) (partner x) (omega (arith, e, a.two))))
    differ x h (inr m) (inr n) same =
        are.apart 0 1 (omega arith) (omega (arith, long)) (sym (ap (λ (k : ℕ × ℕ). k.0) (sym (watch_1 w (literal xs 0) (literal xs 1) x (omega (arith, h, m, n)))) ∙ same
        ∙ ap (λ (k : ℕ × ℕ). k.0) (watch_0 w (literal xs 0) (literal xs 1) (partner x) (omega (arith, h, m, n, a.two)))))

-- ---- all together

pub kept_added : (vertices values : ℕ) (literals : List (ℕ × ℕ)) (entries : List Entry) (live : List Bool) (w : List (ℕ × ℕ)) (heads next heads' next' : List ℕ) (capacity capacity' : ℕ) (xs : List (ℕ × ℕ)) (start name : ℕ)
    → Kept vertices values literals entries live w heads next capacity → AreLiterals vertices values xs → 2 ≤ length xs → start ≡ length literals
    → length heads' ≡ length heads → length next' ≡ length next + 2
    → ((home : ℕ → ℕ) → Chained home heads next → Chained (moved (moved home (length next) (cell values (literal xs 0))) (length next + 1) (cell values (literal xs 1))) heads' next')
    → length entries + 1 ≤ capacity'
    → Kept vertices values (literals ++ xs) (entries ++ record { start = start; end = start + length xs; name = name } ∷ []) (live ++ true ∷ []) (w ++ literal xs 0 ∷ literal xs 1 ∷ []) heads' next' capacity'
kept_added vertices values literals entries live w heads next heads' next' capacity capacity' xs start name k are long e hl nl put room = record {
  heads_long = hl ∙ k.heads_long;
  next_long = omega (arith, nl, k.next_long, length-append w (literal xs 0 ∷ literal xs 1 ∷ []));
  live_long = omega (arith, k.live_long, length-append live (true ∷ []), length-append entries (new ∷ []));
  within = λ i h. within i (rw (length-append entries (new ∷ [])) at h) (lt_or_le i (length entries));
  literals_are = λ i h. literals-are i (rw (length-append entries (new ∷ [])) at h);
  watches_are = watches-are;
  covered = subst (λ ns. AreCovered ns (live ++ true ∷ [])) (sym all) (covered_more (nogoods_of literals entries) live (record { literals = xs; name = name }) (k.live_long ∙ sym length-nogoods) k.covered);
  chained = chained;
  none = chain_empty (home_of (vertices * values + 1) values (live ++ true ∷ []) w') heads' next' (vertices * values) chained (omega (arith, hl, k.heads_long)) nobody;
  room = omega (arith, length-append entries (new ∷ []), room);
}
  where
    new : Entry
    new = record { start = start; end = start + length xs; name = name }

    w' : List (ℕ × ℕ)
    w' = w ++ literal xs 0 ∷ literal xs 1 ∷ []

    all : nogoods_of (literals ++ xs) (entries ++ new ∷ []) ≡ nogoods_of literals entries ++ record { literals = xs; name = name } ∷ []
    all = nogoods_more literals xs entries start name k.within e

    length-nogoods : length (nogoods_of literals entries) ≡ length entries
    length-nogoods = length-map entries (nogood_at literals)

    watches-are : AreWatches (nogoods_of (literals ++ xs) (entries ++ new ∷ [])) w'
    watches-are = subst (λ ns. AreWatches ns w') (sym all) (watches_more vertices values (nogoods_of literals entries) w xs name k.watches_are are long)

    within : (i : ℕ) → i < length entries + 1 → (i < length entries) ⊎ (length entries ≤ i) → Within (literals ++ xs) (entry (entries ++ new ∷ []) i)
    within i h (inl l) =
        let old = k.within i l in
        rw (get_or_append_left entries (new ∷ []) (record { start = 0; end = 0; name = 0 }) i l) (record { rising = old.rising; inside = rw (length-append literals xs) (omega (arith, old.inside)) })
    within i h (inr m) =
        let at : i ≡ length entries = omega (arith, h, m) in
        rw (at, get_or-append_seam entries new [] (record { start = 0; end = 0; name = 0 })) (record { rising = omega arith; inside = rw (length-append literals xs) (omega (arith, e)) })

    literals-are : (i : ℕ) → i < length entries + 1 → AreLiterals vertices values (nogood (nogoods_of (literals ++ xs) (entries ++ new ∷ [])) i).literals
    literals-are i h = subst (λ (ns : List Nogood). AreLiterals vertices values (nogood ns i).literals) (sym all) (by (lt_or_le i (length entries)))
      where
        by : (i < length entries) ⊎ (length entries ≤ i) → AreLiterals vertices values (nogood (nogoods_of literals entries ++ record { literals = xs; name = name } ∷ []) i).literals
        by (inl l) = rw (get_or_append_left (nogoods_of literals entries) (record { literals = xs; name = name } ∷ []) (record { literals = []; name = 0 }) i (omega (arith, l, length-nogoods))) (k.literals_are i l)
        by (inr m) =
            let at : i ≡ length (nogoods_of literals entries) = omega (arith, h, m, length-nogoods) in
            rw (at, get_or-append_seam (nogoods_of literals entries) (record { literals = xs; name = name }) [] (record { literals = []; name = 0 })) are

    home : ℕ → ℕ
    home = home_of (vertices * values + 1) values live w

    home' : ℕ → ℕ
    home' = home_of (vertices * values + 1) values (live ++ true ∷ []) w'

    twice : ℕ → ℕ
    twice = moved (moved home (length next) (cell values (literal xs 0))) (length next + 1) (cell values (literal xs 1))

    chained : Chained home' heads' next'
    chained = chained_same twice home' heads' next' (put home k.chained) (λ y h. same y (rw nl at h) (cases_eq y (length next + 1)) (cases_eq y (length next)))
      where
        last-live : (y : ℕ) → y / 2 ≡ length live → is_live (live ++ true ∷ []) y ≡ true
        last-live y e = live_last live true (y / 2) e

        half : (y : ℕ) → y < length next + 2 → length next ≤ y → y / 2 ≡ length live
        half y h l = omega (arith, h, l, k.next_long, k.watches_are.two, length-nogoods, k.live_long)

        older : (y : ℕ) → y < length w → home' y ≡ home y
        older y h = rw (live_front live true (y / 2) (omega (arith, h, k.watches_are.two, length-nogoods, k.live_long)), watch_old w (literal xs 0) (literal xs 1) y h) refl

        same : (y : ℕ) → y < length next + 2 → (y ≡ length next + 1) ⊎ (y ≡ length next + 1 → ⊥) → (y ≡ length next) ⊎ (y ≡ length next → ⊥) → home' y ≡ twice y
        same y h (inl f) _ =
            home_live (vertices * values + 1) values (live ++ true ∷ []) w' y (last-live y (half y h (omega (arith, f)))) ∙ ap (cell values) (watch_1 w (literal xs 0) (literal xs 1) y (f ∙ ap (λ n. n + 1) k.next_long))
            ∙ sym (ap twice f ∙ moved_at (moved home (length next) (cell values (literal xs 0))) (length next + 1) (cell values (literal xs 1)))
        same y h (inr n) (inl f) =
            home_live (vertices * values + 1) values (live ++ true ∷ []) w' y (last-live y (half y h (omega (arith, f)))) ∙ ap (cell values) (watch_0 w (literal xs 0) (literal xs 1) y (f ∙ k.next_long))
            ∙ sym (moved_other (moved home (length next) (cell values (literal xs 0))) (length next + 1) (cell values (literal xs 1)) y n
            ∙ ap (moved home (length next) (cell values (literal xs 0))) f ∙ moved_at home (length next) (cell values (literal xs 0)))
        same y h (inr n) (inr m) =
            older y (omega (arith, h, n, m, k.next_long))
            ∙ sym (moved_other (moved home (length next) (cell values (literal xs 0))) (length next + 1) (cell values (literal xs 1)) y n
            ∙ moved_other home (length next) (cell values (literal xs 0)) y m)

    nobody : (x : ℕ) → x < length next' → home' x ≡ vertices * values → ⊥
    nobody x h f = by (is_live (live ++ true ∷ []) x) refl
      where
        by : (b : Bool) → is_live (live ++ true ∷ []) x ≡ b → ⊥
        by true e =
            let r = watch_in vertices values (nogoods_of (literals ++ xs) (entries ++ new ∷ [])) w' x
            (λ i l. literals-are i (omega (arith, l, length-map (entries ++ new ∷ []) (nogood_at (literals ++ xs)), length-append entries (new ∷ [])))) watches-are
            (omega (arith, h, nl, k.next_long, length-append w (literal xs 0 ∷ literal xs 1 ∷ []))) in
            omega (arith, cell_below vertices values (literal w' x) r.0 r.1, f, home_live (vertices * values + 1) values (live ++ true ∷ []) w' x e)
        by false e = omega (arith, f, home_past (vertices * values + 1) values (live ++ true ∷ []) w' x e)

-- both watches put in front of their lists
pub put_twice : (heads next da n0 h1 n1 db h2 n2 : List ℕ) (a b : ℕ) → da ≡ heads → n0 ≡ next → db ≡ h1 → length n1 ≡ length n0 + 1
    → ((home : ℕ → ℕ) → Chained home da n0 → Chained (moved home (length n0) a) h1 n1)
    → ((home : ℕ → ℕ) → Chained home db n1 → Chained (moved home (length n1) b) h2 n2)
    → (home : ℕ → ℕ) → Chained home heads next → Chained (moved (moved home (length next) a) (length next + 1) b) h2 n2
put_twice heads next da n0 h1 n1 db h2 n2 a b ea en eb long first second home c =
    let one = first home (subst (λ k. Chained home k n0) (sym ea) (subst (λ k. Chained home heads k) (sym en) c)) in
    let two = second (moved home (length n0) a) (subst (λ k. Chained (moved home (length n0) a) k n1) (sym eb) one) in
    subst (λ k. Chained (moved (moved home (length k) a) (length k + 1) b) h2 n2) en (subst (λ k. Chained (moved (moved home (length n0) a) k b) h2 n2) long two)

-- the value has the nogood more
pub value_added : (vertices values : ℕ) (literals : List (ℕ × ℕ)) (entries : List Entry) (live : List Bool) (w : List (ℕ × ℕ)) (units forced : List (ℕ × ℕ × ℕ)) (xs : List (ℕ × ℕ)) (start name : ℕ)
    → ((i : ℕ) → i < length entries → Within literals (entry entries i)) → length live ≡ length entries → AreWatches (nogoods_of literals entries) w → AreCovered (nogoods_of literals entries) live
    → start ≡ length literals → 0 < length xs → (length xs ≡ 1 → ⊥)
    → ◌≡◌ {A = State} (record {
      vertices = vertices;
      values = values;
      nogoods = nogoods_of (literals ++ xs) (entries ++ record { start = start; end = start + length xs; name = name } ∷ []);
      watches = watches_of (literals ++ xs) (entries ++ record { start = start; end = start + length xs; name = name } ∷ []) (live ++ true ∷ []) (w ++ literal xs 0 ∷ literal xs 1 ∷ []);
      units = units;
      forced = forced;
    })
    (added (record { vertices = vertices; values = values; nogoods = nogoods_of literals entries; watches = watches_of literals entries live w; units = units; forced = forced }) xs name)
value_added vertices values literals entries live w units forced xs start name within long watches covered e some more =
    ap (λ (k : List Nogood). record { vertices = vertices; values = values; nogoods = k; watches = seen (watched_for k (live ++ true ∷ [])) (w ++ literal xs 0 ∷ literal xs 1 ∷ []) (length (entries ++ new ∷ [])); units = units; forced = forced })
    (nogoods_more literals xs entries start name within e)
    ∙ ap (λ (k : List (ℕ × ℕ)). record { vertices = vertices; values = values; nogoods = nogoods_of literals entries ++ record { literals = xs; name = name } ∷ []; watches = k; units = units; forced = forced }) two-more
    ∙ added_more (record { vertices = vertices; values = values; nogoods = nogoods_of literals entries; watches = watches_of literals entries live w; units = units; forced = forced }) xs name some more
  where
    new : Entry
    new = record { start = start; end = start + length xs; name = name }

    two-more : seen (watched_for (nogoods_of literals entries ++ record { literals = xs; name = name } ∷ []) (live ++ true ∷ [])) (w ++ literal xs 0 ∷ literal xs 1 ∷ []) (length (entries ++ new ∷ []))
        ≡ watches_of literals entries live w ++ literal xs 0 ∷ literal xs 1 ∷ []
    two-more = seen_more (nogoods_of literals entries) live (record { literals = xs; name = name }) w (literal xs 0) (literal xs 1) (length entries) (length (entries ++ new ∷ []))
        (sym (length-map entries (nogood_at literals))) (length-append entries (new ∷ [])) (long ∙ sym (length-map entries (nogood_at literals))) watches.two covered

-- no nogoods
pub kept_empty : (vertices values : ℕ) (heads : List ℕ) (capacity : ℕ) → length heads ≡ vertices * values + 1 → ((k : ℕ) → k < length heads → get_or heads k 0 ≡ no_watch)
    → Kept vertices values [] [] [] [] heads [] capacity
kept_empty vertices values heads capacity long none = record {
  heads_long = long;
  next_long = refl;
  live_long = refl;
  within = λ i h. absurd (omega arith);
  literals_are = λ i h. absurd (omega arith);
  watches_are = record { two = refl; of = λ x h. absurd (omega arith); apart = λ x h. absurd (omega arith) };
  covered = λ i h e. absurd (omega (arith, h));
  chained = record {
    few = omega arith;
    lists = λ k. [];
    chains = λ k h. none k h;
    once = λ k x h. sym (nobody x k (home_of (vertices * values + 1) values [] [] x));
  };
  none = none (vertices * values) (omega (arith, long));
  room = omega arith;
}
  where
    nobody : (x k h : ℕ) → ◌≡◌ {A = ℕ} (cond (ltb x 0 && eqb h k) 1 0) 0
    nobody x k h = rw (le-ltb x 0 (omega arith)) refl
