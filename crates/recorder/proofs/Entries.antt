-- How the entries of changes, and the numbers of their sets, are added and cut.

use Rattle.std.proofs.Common.{get_or, ◌≡◌, ℕ, zero, suc, ◌+◌, ◌-◌, ◌<◌, ◌≤◌, Bool, true, false, ltb, cond, List, [], ◌∷◌, ◌++◌, length, take, drop, map, reverse, slice_range, Option, Some, refl, sym, ap, ◌∙◌, subst, arith, append_assoc, length-append, ◌⊎◌, inl, inr, if◌then◌else◌}
use Rattle.std.proofs.lemmas.Bool.{cases_eq}
use Rattle.std.proofs.lemmas.List.{append-nil, take_at, take_all, drop_at, take-take, drop-take, take_more, length-take-le, reverse-append}
use Rattle.graph_theory.specs.Neighbours.{members}
use Rattle.recorder.specs.declared.change.Place.{Place}
use Rattle.recorder.specs.declared.change.What.{What}
use Rattle.recorder.specs.declared.change.What.TheVariants.{One, Others, Over}
use Rattle.recorder.specs.declared.change.Entry.{Entry}
use Rattle.recorder.specs.Recording.{Change, LeftOthers, LeftOver, Took, KeepsSame, with_change, from_of, cut, change_by, change_of, changes_of, when_whole, IsIn, LaidBy, Laid, AreLaid, Adds, IsPlaced, IsLast, EndsBefore, left_by}

-- ---- numbers

pub adds_none : (xs : List ℕ) → Adds xs xs
adds_none xs = record { more = []; front = sym (append-nil xs) }

pub adds_these : (old new more : List ℕ) → new ≡ old ++ more → Adds old new
adds_these old new more is = record { more = more; front = is }

pub adds_more : (old mid new : List ℕ) → Adds old mid → Adds mid new → Adds old new
adds_more old mid new a b = record { more = a.more ++ b.more; front = b.front ∙ (ap (λ (xs : List ℕ). xs ++ b.more) a.front ∙ append_assoc old a.more b.more) }

-- the first numbers stay
adds_front : (old new : List ℕ) → Adds old new → take (length old) new ≡ take (length old) old
adds_front old new a = ap (take (length old)) a.front ∙ take_at old a.more (length old) refl ∙ sym (take_all (length old) old (omega arith))

-- where none passes on the way, there are no more members
members_skip : (f : ℕ → Bool) (a b : ℕ) → a ≤ b → ((i : ℕ) → a ≤ i → i < b → f i ≡ false) → members f b ≡ members f a
members_skip f a zero le none = let none_left : zero ≡ a = omega (arith, le) in ap (members f) none_left
members_skip f a (suc b) le none = by (members_skip f a b) (cases_eq a (suc b))
  where
    step : (x : Bool) → x ≡ false → members f b ++ cond x (b ∷ []) [] ≡ members f b
    step true h = cc
    step false h = append-nil (members f b)

    by : (a ≤ b → ((i : ℕ) → a ≤ i → i < b → f i ≡ false) → members f b ≡ members f a) → (a ≡ suc b) ⊎ (a ≡ suc b → ⊥) → members f (suc b) ≡ members f a
    by earlier (inl is) = sym (ap (members f) is)
    by earlier (inr other) = step (f b) (none b (omega (arith, le, other)) (omega arith)) ∙ earlier (omega (arith, le, other)) (λ i low high. none i low (omega (arith, high)))

-- one member more, and then none
pub members_next : (f : ℕ → Bool) (t next : ℕ) → f t ≡ true → t + 1 ≤ next → ((i : ℕ) → t + 1 ≤ i → i < next → f i ≡ false) → members f next ≡ members f t ++ t ∷ []
members_next f t next here le none =
    members_skip f (suc t) next (omega (arith, le)) (λ i low high. none i (omega (arith, low)) high) ∙ ap (λ (b : Bool). members f t ++ cond b (t ∷ []) []) here

pub members_first : (f : ℕ → Bool) (next : ℕ) → ((i : ℕ) → 0 ≤ i → i < next → f i ≡ false) → members f next ≡ []
members_first f next none = members_skip f 0 next (omega arith) none

-- ---- one set more

pub placed : (old set values new : List ℕ) (k : Place) → new ≡ (old ++ set) ++ values → k.start ≡ length old → k.middle ≡ length (old ++ set) → k.end ≡ length new → IsPlaced old new set values k
placed old set values new k is start middle end = record {
  start_is = start;
  is_in = record {
    first = omega (arith, start, middle, length-append old set);
    second = omega (arith, middle, end, ap length is, length-append (old ++ set) values);
    within = omega (arith, end);
  };
  vertices_are =
      let long : k.middle - k.start ≡ length set = omega (arith, start, middle, length-append old set) in
      ap (λ (n : ℕ). take n (drop k.start new)) long
      ∙ ap (λ (xs : List ℕ). take (length set) (drop k.start xs)) (is ∙ append_assoc old set values)
      ∙ ap (take (length set)) (drop_at old (set ++ values) k.start (sym start))
      ∙ take_at set values (length set) refl;
  values_are =
      let long : length values ≡ k.end - k.middle = omega (arith, middle, end, ap length is, length-append (old ++ set) values) in
      ap (λ (xs : List ℕ). take (k.end - k.middle) (drop k.middle xs)) is
      ∙ ap (take (k.end - k.middle)) (drop_at (old ++ set) values k.middle (sym middle))
      ∙ take_all (k.end - k.middle) values (omega (arith, long));
}

-- ---- the same changes over other numbers

-- a part of the first n numbers
part_front : (xs : List ℕ) (a b n : ℕ) → a ≤ b → b ≤ n → slice_range (take n xs) a b ≡ slice_range xs a b
part_front xs a b n first within =
    let whole : a + (n - a) ≡ n = omega (arith, first, within) in
    ap (λ (k : ℕ). take (b - a) (drop a (take k xs))) (sym whole)
    ∙ ap (take (b - a)) (drop-take a (n - a) xs)
    ∙ take-take (b - a) (n - a) (drop a xs) (omega (arith, first, within))

part_same : (xs ys : List ℕ) (a b n : ℕ) → a ≤ b → b ≤ n → take n xs ≡ take n ys → slice_range xs a b ≡ slice_range ys a b
part_same xs ys a b n first within same = sym (part_front xs a b n first within) ∙ (ap (λ (zs : List ℕ). slice_range zs a b) same ∙ part_front ys a b n first within)

-- a set among them
set_same : (xs ys : List ℕ) (k : Place) (n : ℕ) (f : List ℕ → List ℕ → Change) → IsIn k n → take n xs ≡ take n ys
    → f (slice_range xs k.start k.middle) (slice_range xs k.middle k.end) ≡ f (slice_range ys k.start k.middle) (slice_range ys k.middle k.end)
set_same xs ys k n f is_in same =
    let first = part_same xs ys k.start k.middle n is_in.first (omega (arith, is_in.second, is_in.within)) same in
    let second = part_same xs ys k.middle k.end n is_in.second is_in.within same in
    ap (λ (us : List ℕ). f us (slice_range xs k.middle k.end)) first ∙ ap (λ (us : List ℕ). f (slice_range ys k.start k.middle) us) second

change_same : (xs ys : List ℕ) (what : What) (from n : ℕ) (Before : ℕ → Type 0) → LaidBy what Before n → take n xs ≡ take n ys → change_by xs what from ≡ change_by ys what from
change_same xs ys (One p cause) from n Before laid same = refl
change_same xs ys (Others centre k) from n Before laid same = set_same xs ys k n (λ us vs. LeftOthers centre us vs from) laid.0 same
change_same xs ys (Over p t direction k) from n Before laid same = set_same xs ys k n (λ us vs. LeftOver p t direction us vs from) laid.0 same

pub same_changes : (es : List Entry) (n : ℕ) (xs ys : List ℕ) → Laid es n → take n xs ≡ take n ys → map (change_of xs) es ≡ map (change_of ys) es
same_changes [] n xs ys laid same = refl
same_changes (e ∷ es) n xs ys laid same =
    ap (λ (c : Change). c ∷ map (change_of xs) es) (change_same xs ys e.what e.from n (Laid es) laid same)
    ∙ ap (λ (cs : List Change). change_of ys e ∷ cs) (later (λ m. same_changes es m xs ys) e.what laid)
  where
    before_set : ((m : ℕ) → Laid es m → take m xs ≡ take m ys → map (change_of xs) es ≡ map (change_of ys) es) → (k : Place) → IsIn k n × Laid es k.start
        → map (change_of xs) es ≡ map (change_of ys) es
    before_set rest k laid_k =
        rest k.start laid_k.1
        (sym (take-take k.start n xs (omega (arith, laid_k.0.first, laid_k.0.second, laid_k.0.within)))
        ∙ (ap (take k.start) same ∙ take-take k.start n ys (omega (arith, laid_k.0.first, laid_k.0.second, laid_k.0.within))))

    later : ((m : ℕ) → Laid es m → take m xs ≡ take m ys → map (change_of xs) es ≡ map (change_of ys) es) → (what : What) → LaidBy what (Laid es) n
        → map (change_of xs) es ≡ map (change_of ys) es
    later rest (One p cause) before = rest n before same
    later rest (Others centre k) laid_k = before_set rest k laid_k
    later rest (Over p t direction k) laid_k = before_set rest k laid_k

-- entries are laid in more numbers
laid_on : (es : List Entry) (n m : ℕ) → n ≤ m → Laid es n → Laid es m
laid_on [] n m le laid = tt
laid_on (e ∷ es) n m le laid = by (laid_on es n m le) e.what laid
  where
    in_more : (k : Place) → IsIn k n → IsIn k m
    in_more k is_in = record { first = is_in.first; second = is_in.second; within = omega (arith, is_in.within, le) }

    by : (Laid es n → Laid es m) → (what : What) → LaidBy what (Laid es) n → LaidBy what (Laid es) m
    by rest (One p cause) before = rest before
    by rest (Others centre k) (is_in, before) = (in_more k is_in, before)
    by rest (Over p t direction k) (is_in, before) = (in_more k is_in, before)

-- ---- one change more

-- more numbers change nothing
pub laid_added : (es : List Entry) (old new : List ℕ) → AreLaid es old → Adds old new → AreLaid es new
laid_added es old new laid a = laid_on (reverse es) (length old) (length new) (omega (arith, ap length a.front, length-append old a.more)) laid

pub changes_added : (es : List Entry) (old new : List ℕ) → AreLaid es old → Adds old new → changes_of new es ≡ changes_of old es
changes_added es old new laid a = same_changes (reverse es) (length old) new old laid (adds_front old new a)

pub changes_push : (numbers : List ℕ) (es : List Entry) (e : Entry) → changes_of numbers (es ++ e ∷ []) ≡ change_of numbers e ∷ changes_of numbers es
changes_push numbers es e = ap (map (change_of numbers)) (reverse-append es (e ∷ []))

pub laid_push : (es : List Entry) (numbers : List ℕ) (e : Entry) → LaidBy e.what (Laid (reverse es)) (length numbers) → AreLaid (es ++ e ∷ []) numbers
laid_push es numbers e laid = subst (λ (rs : List Entry). Laid rs (length numbers)) (sym (reverse-append es (e ∷ []))) laid

-- ---- the last changes forgotten

from_is : (numbers : List ℕ) (what : What) (from : ℕ) → from_of (change_by numbers what from) ≡ from
from_is numbers (One p cause) from = refl
from_is numbers (Others centre k) from = refl
from_is numbers (Over p t direction k) from = refl

-- what is left of the numbers where the last entry goes
pub record Shorter (mark : ℕ) (es before : List Entry) (old new : List ℕ) : Type 0 where
  pub laid : AreLaid before new
  pub cut_is : cut mark (changes_of new before) ≡ cut mark (changes_of old es)

shorter_set : (rs : List Entry) (numbers : List ℕ) (k : Place) → IsIn k (length numbers) → Laid rs k.start
    → Laid rs (length (take k.start numbers)) × (map (change_of (take k.start numbers)) rs ≡ map (change_of numbers) rs)
shorter_set rs numbers k is_in laid =
    let low : k.start ≤ length numbers = omega (arith, is_in.first, is_in.second, is_in.within) in (
      subst (λ (n : ℕ). Laid rs n) (sym (length-take-le k.start numbers low)) laid,
      same_changes rs k.start (take k.start numbers) numbers laid (take-take k.start k.start numbers (omega arith)),
    )

shorter : (rs : List Entry) (e : Entry) (numbers : List ℕ) (mark : ℕ) (what : What) → LaidBy what (Laid rs) (length numbers)
    → Laid rs (length (take (left_by what (length numbers)) numbers)) × (map (change_of (take (left_by what (length numbers)) numbers)) rs ≡ map (change_of numbers) rs)
shorter rs e numbers mark (One p cause) laid =
    let whole = take_all (length numbers) numbers (omega arith) in
    (subst (λ (xs : List ℕ). Laid rs (length xs)) (sym whole) laid, ap (λ (xs : List ℕ). map (change_of xs) rs) whole)
shorter rs e numbers mark (Others centre k) (is_in, laid) = shorter_set rs numbers k is_in laid
shorter rs e numbers mark (Over p t direction k) (is_in, laid) = shorter_set rs numbers k is_in laid

pub cut_last : (es before : List Entry) (e : Entry) (numbers : List ℕ) (mark : ℕ) → es ≡ before ++ e ∷ [] → ltb e.from mark ≡ false → AreLaid es numbers
    → Shorter mark es before numbers (take (left_by e.what (length numbers)) numbers)
cut_last es before e numbers mark is since laid =
    let turned : reverse es ≡ e ∷ reverse before = ap reverse is ∙ reverse-append before (e ∷ []) in
    let laid_e : Laid (e ∷ reverse before) (length numbers) = subst (λ (rs : List Entry). Laid rs (length numbers)) turned laid in
    let parts = shorter (reverse before) e numbers mark e.what laid_e in
    record {
      laid = parts.0;
      cut_is = ap (cut mark) parts.1 ∙ (sym (forgotten (map (change_of numbers) (reverse before))) ∙ ap (λ (rs : List Entry). cut mark (map (change_of numbers) rs)) (sym turned));
    }
  where
    forgotten : (cs : List Change) → cut mark (change_of numbers e ∷ cs) ≡ cut mark cs
    forgotten cs = rw (from_is numbers e.what e.from, since) refl

-- where the last entry is before the mark, all are kept
pub cut_none : (es : List Entry) (numbers : List ℕ) (mark : ℕ) → EndsBefore (reverse es) mark → cut mark (changes_of numbers es) ≡ changes_of numbers es
cut_none es numbers mark ends = by (reverse es) ends
  where
    by : (rs : List Entry) → EndsBefore rs mark → cut mark (map (change_of numbers) rs) ≡ map (change_of numbers) rs
    by [] ends_r = refl
    by (e ∷ rs) ends_r = rw (from_is numbers e.what e.from, ends_r) refl

-- ---- the last entry

split_last : (es : List Entry) (e : Entry) (n : ℕ) → n + 1 ≡ length es → e ≡ get_or es n e → es ≡ take n es ++ e ∷ []
split_last es e n is here =
    sym (take_all (n + 1) es (omega (arith, is))) ∙ (take_more es n e (omega (arith, is)) ∙ ap (λ (x : Entry). take n es ++ x ∷ []) (sym here))

pub last_is : (es : List Entry) (e : Entry) (mark n : ℕ) → n + 1 ≡ length es → e ≡ get_or es n e → ltb e.from mark ≡ false → IsLast es e mark
last_is es e mark n is here since = record { before = take n es; are = split_last es e n is here; since = since }

pub ends_before : (es : List Entry) (e : Entry) (mark n : ℕ) → n + 1 ≡ length es → e ≡ get_or es n e → ltb e.from mark ≡ true → EndsBefore (reverse es) mark
ends_before es e mark n is here before =
    subst (λ (rs : List Entry). EndsBefore rs mark) (sym (ap reverse (split_last es e n is here) ∙ reverse-append (take n es) (e ∷ []))) before

pub ends_empty : (es : List Entry) (mark : ℕ) → length es ≡ 0 → EndsBefore (reverse es) mark
ends_empty [] mark none = tt
ends_empty (e ∷ es) mark none = absurd (omega (arith, none))

-- the entries before the last one
pub before_last : (es : List Entry) (e : Entry) (mark : ℕ) (l : IsLast es e mark) → take (length es - 1) es ≡ l.before
before_last es e mark l =
    let long : length es - 1 ≡ length l.before = omega (arith, ap length l.are, length-append l.before (e ∷ [])) in
    ap (λ (n : ℕ). take n es) long ∙ (ap (take (length l.before)) l.are ∙ take_at l.before (e ∷ []) (length l.before) refl)

-- ---- what a recorder does

-- the entry was added, or was not
pub laid_maybe : (es new_es : List Entry) (old new : List ℕ) (what : What) (from : ℕ) (b : Bool) → AreLaid es old → Adds old new → LaidBy what (Laid (reverse es)) (length new)
    → new_es ≡ (if b then es ++ record { what = what; from = from } ∷ [] else es) → AreLaid new_es new
laid_maybe es new_es old new what from true laid a within is = subst (λ (xs : List Entry). AreLaid xs new) (sym is) (laid_push es new (record { what = what; from = from }) within)
laid_maybe es new_es old new what from false laid a within is = subst (λ (xs : List Entry). AreLaid xs new) (sym is) (laid_added es old new laid a)

-- a set behind the old numbers is laid behind the entries
pub set_laid : (es : List Entry) (old new vertices values : List ℕ) (k : Place) → AreLaid es old → IsPlaced old new vertices values k → IsIn k (length new) × Laid (reverse es) k.start
set_laid es old new vertices values k laid p = (p.is_in, subst (λ (n : ℕ). Laid (reverse es) n) (sym p.start_is) laid)

-- and stands for these vertices and values
pub set_placed : (f : List ℕ → List ℕ → Change) (old new vertices values : List ℕ) (k : Place) → IsPlaced old new vertices values k
    → f (slice_range new k.start k.middle) (slice_range new k.middle k.end) ≡ f vertices values
set_placed f old new vertices values k p = ap (λ (us : List ℕ). f us (slice_range new k.middle k.end)) p.vertices_are ∙ ap (f vertices) p.values_are

-- the change is told
pub told_entry : (held : Option (List Change)) (whole : Bool) (es new_es : List Entry) (old new : List ℕ) (what : What) (from : ℕ) (b : Bool) (c : Change) → whole ≡ true
    → when_whole whole (changes_of old es) ≡ held → AreLaid es old → Adds old new → change_by new what from ≡ c → b ≡ true
    → new_es ≡ (if b then es ++ record { what = what; from = from } ∷ [] else es) → Took held (when_whole whole (changes_of new new_es)) c
told_entry held false es new_es old new what from b c up view laid a stands pushed is = cc
told_entry held true es new_es old new what from false c up view laid a stands pushed is = cc
told_entry held true es new_es old new what from true c up view laid a stands pushed is =
    inl (ap Some (ap (changes_of new) is ∙ (changes_push new es (record { what = what; from = from }) ∙ (ap (λ (x : Change). x ∷ changes_of new es) stands
    ∙ ap (λ (cs : List Change). c ∷ cs) (changes_added es old new laid a))))
    ∙ ap (λ (h : Option (List Change)). with_change h c) view)

-- the numbers of a set that is short stand behind the others
pub kept_added : (held : Option (List Change)) (whole : Bool) (es : List Entry) (old new : List ℕ) → when_whole whole (changes_of old es) ≡ held → AreLaid es old → Adds old new
    → KeepsSame held (when_whole whole (changes_of new es))
kept_added held whole es old new view laid a = inl (ap (when_whole whole) (changes_added es old new laid a) ∙ view)

-- what is shorter is so by whatever name
pub shorter_at : (mark : ℕ) (es before before_now : List Entry) (old new new_now : List ℕ) → before_now ≡ before → new_now ≡ new → Shorter mark es before old new → Shorter mark es before_now old new_now
shorter_at mark es before before_now old new new_now b n s =
    subst (λ (xs : List Entry). Shorter mark es xs old new_now) (sym b) (subst (λ (ys : List ℕ). Shorter mark es before old ys) (sym n) s)

-- the last entry goes, and with it its numbers
pub cut_more : (mark : ℕ) (xs es es_now : List Entry) (e : Entry) (numbers numbers_now : List ℕ) (m n : ℕ) → IsLast xs e mark → xs ≡ es → m ≡ length es → n ≡ left_by e.what (length numbers)
    → es_now ≡ take (m - 1) es → numbers_now ≡ take n numbers → AreLaid es numbers → AreLaid es_now numbers_now × (cut mark (changes_of numbers_now es_now) ≡ cut mark (changes_of numbers es))
cut_more mark xs es es_now e numbers numbers_now m n last same m_is n_is es_is numbers_is laid = by (subst (λ (ys : List Entry). IsLast ys e mark) same last)
  where
    by : IsLast es e mark → AreLaid es_now numbers_now × (cut mark (changes_of numbers_now es_now) ≡ cut mark (changes_of numbers es))
    by l =
        let s = shorter_at mark es l.before es_now numbers (take (left_by e.what (length numbers)) numbers) numbers_now
        (es_is ∙ (ap (λ (k : ℕ). take (k - 1) es) m_is ∙ before_last es e mark l)) (numbers_is ∙ ap (λ (k : ℕ). take k numbers) n_is)
        (cut_last es l.before e numbers mark l.are l.since laid) in
        (s.laid, s.cut_is)
