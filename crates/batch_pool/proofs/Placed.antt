-- What stands in the slots after writes.
use Rattle.std.proofs.Common.{◌≡◌, ◌≢◌, ℕ, zero, suc, ◌+◌, ◌<◌, ◌≤◌, List, [], ◌∷◌, ◌++◌, length, map, take, set, get_or, slice_get, Option, Some, None, IfSome, refl, sym, ap, ◌∙◌, subst, ⊎_elim, ◌⊎◌, inl, inr, replicate, length-set, arith}
use Rattle.std.specs.List.{All, range_with_len}
use Rattle.std.proofs.lemmas.List.FromFn.{map-range_with_len_more, length-range_with_len}
use Rattle.std.proofs.lemmas.List.{map-id, map_push, length-map, length-replicate}
use Rattle.std.proofs.lemmas.List.Elements.{All-head, All-tail, All-push}
use Rattle.std.proofs.lemmas.Option.{slice_get_read, same_Some, none-some}
use native.Mathlib.Decide.{ℕ_discrete}
use Rattle.batch_pool.specs.declared.worker.Taken.{Taken}
use Rattle.batch_pool.specs.declared.worker.Worker.{Worker}
use Rattle.batch_pool.specs.declared.entries.Entry.{Entry}
use Rattle.batch_pool.specs.Rule.{times, AreBelow, AreOnce}
use Rattle.batch_pool.specs.Placing.{entry, numbers_of, ArePut, IsNamed, IsAnswerAt, AreDone, IsTaken, IsEntry, ArePlaced}
use Rattle.batch_pool.proofs.Counts.{one_if, times-cons, times-append, times_push, one_if_same, one_if_else, once_in}

pub get_set_same : {A : Type 0} (xs : List A) (i : ℕ) (a : A) → i < length xs → slice_get (set xs i a) i ≡ Some a
get_set_same [] i a h = absurd (omega arith)
get_set_same (x ∷ xs) zero a h = refl
get_set_same (x ∷ xs) (suc i) a h = get_set_same xs i a (omega arith)

pub get_set_else : {A : Type 0} (xs : List A) (i j : ℕ) (a : A) → j ≢ i → slice_get (set xs i a) j ≡ slice_get xs j
get_set_else [] i j a n = refl
get_set_else (x ∷ xs) zero zero a n = absurd (n refl)
get_set_else (x ∷ xs) zero (suc j) a n = refl
get_set_else (x ∷ xs) (suc i) zero a n = refl
get_set_else (x ∷ xs) (suc i) (suc j) a n = get_set_else xs i j a (λ e. n (ap suc e))

-- an element after a push is one of before, or the last
pub get_push : {A : Type 0} (xs : List A) (y a : A) (i : ℕ) → slice_get (xs ++ y ∷ []) i ≡ Some a → (slice_get xs i ≡ Some a) ⊎ ((i ≡ length xs) × (y ≡ a))
get_push [] y a zero e = inr (refl, same_Some y a e)
get_push [] y a (suc i) e = absurd (none-some a e)
get_push (x ∷ xs) y a zero e = inl e
get_push (x ∷ xs) y a (suc i) e = ⊎_elim (λ t. inl t) (λ t. inr (ap suc t.0, t.1)) (get_push xs y a i e)

get_same : {A : Type 0} (n i : ℕ) (a : A) → i < n → slice_get (replicate n a) i ≡ Some a
get_same zero i a h = absurd (omega arith)
get_same (suc n) zero a h = refl
get_same (suc n) (suc i) a h = get_same n i a (omega arith)

-- what holds of each of a list holds after a push
pub all_pushed : {A : Type 0} (P : A → Type 0) (xs ys : List A) (x : A) → ys ≡ xs ++ x ∷ [] → All P xs → P x → All P ys
all_pushed {A} P xs ys x is all one = subst (λ (l : List A). All P l) (sym is) (All-push P xs x all one)

-- the numbers of workers that are hired in turn
pub numbers_more : (staff : List Worker) (w : Worker) (k : ℕ) → map (λ (v : Worker). v.number) staff ≡ range_with_len 1 k → w.number ≡ k + 1 → map (λ (v : Worker). v.number) (staff ++ w ∷ []) ≡ range_with_len 1 (k + 1)
numbers_more staff w k are is =
    let more : map (λ (n : ℕ). n) (range_with_len 1 (k + 1)) ≡ map (λ (n : ℕ). n) (range_with_len 1 k) ++ (k + 1) ∷ [] = map-range_with_len_more (λ (n : ℕ). n) 1 k (k + 1) (omega arith) in
    map_push (λ (v : Worker). v.number) staff w
    ∙ ap (λ (l : List ℕ). l ++ w.number ∷ []) are
    ∙ ap (λ (n : ℕ). range_with_len 1 k ++ n ∷ []) is
    ∙ ap (λ (l : List ℕ). l ++ (k + 1) ∷ []) (sym (map-id (range_with_len 1 k)))
    ∙ sym more
    ∙ map-id (range_with_len 1 (k + 1))

pub staff_count : (staff : List Worker) (n : ℕ) → map (λ (v : Worker). v.number) staff ≡ range_with_len 1 n → length staff ≡ n
staff_count staff n are = sym (length-map staff (λ (v : Worker). v.number)) ∙ ap length are ∙ length-range_with_len 1 n

module _ {O : Type 0} where
  -- a number of a list stands in it
  times_at : (ts : List (Taken O)) (k : ℕ) (d : Taken O) → k < length ts → 0 < times (get_or ts k d).number (numbers_of ts)
  times_at [] k d h = absurd (omega arith)
  times_at (t ∷ ts) zero d h = let a = times-cons t.number t.number (numbers_of ts) in let b = one_if_same t.number t.number refl in omega arith
  times_at (t ∷ ts) (suc k) d h = let x = (get_or ts k d).number in let a = times-cons x t.number (numbers_of ts) in let r = times_at ts k d (omega arith) in omega arith

  -- a number that stands in a list is one of it
  pub find_number : (P : Taken O → Type 0) (ts : List (Taken O)) (x : ℕ) → All P ts → 0 < times x (numbers_of ts) → (t : Taken O) × (t.number ≡ x) × P t
  find_number P [] x all h = absurd (omega arith)
  find_number P (t ∷ ts) x all h = by (ℕ_discrete t.number x) (λ more. find_number P ts x (All-tail P t ts all) more)
    where
      by : Dec (t.number ≡ x) → (0 < times x (numbers_of ts) → (u : Taken O) × (u.number ≡ x) × P u) → (u : Taken O) × (u.number ≡ x) × P u
      by (yes e) later = (t, e, All-head P t ts all)
      by (no n) later = let a = times-cons x t.number (numbers_of ts) in let b = one_if_else t.number x n in later (omega arith)

  times_so_far : (ts : List (Taken O)) (k : ℕ) (d : Taken O) (x : ℕ) → k < length ts → times x (numbers_of (take k ts)) + one_if (get_or ts k d).number x ≤ times x (numbers_of ts)
  times_so_far [] k d x h = absurd (omega arith)
  times_so_far (t ∷ ts) zero d x h = let a = times-cons x t.number (numbers_of ts) in omega arith
  times_so_far (t ∷ ts) (suc k) d x h =
      let a = times-cons x t.number (numbers_of ts) in
      let b = times-cons x t.number (numbers_of (take k ts)) in
      let r = times_so_far ts k d x (omega arith) in omega arith

  -- the next one of a list without a number that stands twice is not among those before it
  pub fresh_next : (all xs : List (Taken O)) (t : Taken O) → AreOnce (numbers_of all) → map (λ y. y) xs ≡ take (length xs) all → length xs < length all → t ≡ get_or all (length xs) t → times t.number (numbers_of xs) ≡ 0
  fresh_next all xs t once so_far within is =
      let same : xs ≡ take (length xs) all = sym (map-id xs) ∙ so_far in
      let a : times t.number (numbers_of xs) ≡ times t.number (numbers_of (take (length xs) all)) = ap (λ ys. times t.number (numbers_of ys)) same in
      let b = times_so_far all (length xs) t t.number within in
      let c : one_if (get_or all (length xs) t).number t.number ≡ 1 = one_if_same _ _ (ap (λ (y : Taken O). y.number) (sym is)) in
      let o = once t.number in omega arith

  pub put_none : (worker : ℕ) (slots : List (Option (Entry O))) → ArePut worker [] slots slots
  put_none worker slots = record { count = refl; put = λ k d h. absurd (omega arith); kept = λ i none. refl }

  pub put_more : (worker : ℕ) (xs : List (Taken O)) (t : Taken O) (old new newer : List (Option (Entry O))) → ArePut worker xs old new → times t.number (numbers_of xs) ≡ 0 → t.number < length new
      → newer ≡ set new t.number (Some (entry worker t.out)) → ArePut worker (xs ++ t ∷ []) old newer
  put_more worker xs t old new newer was fresh within is =
      let slot : Option (Entry O) = Some (entry worker t.out) in
      let P : Taken O → Type 0 = λ u. slice_get newer u.number ≡ Some (Some (entry worker u.out)) in
      record {
        count = ap length is ∙ length-set new t.number slot ∙ was.count;
        put = All-push P xs t
            (λ k d h.
            let x = (get_or xs k d).number in
            let a = times_at xs k d h in
            let apart : x ≢ t.number = λ e. let f : times x (numbers_of xs) ≡ times t.number (numbers_of xs) = ap (λ y. times y (numbers_of xs)) e in absurd (omega arith) in
            ap (λ ys. slice_get ys x) is ∙ get_set_else new t.number x slot apart ∙ was.put k d h)
            (ap (λ ys. slice_get ys t.number) is ∙ get_set_same new t.number slot within);
        kept = λ i none.
            let m : numbers_of (xs ++ t ∷ []) ≡ numbers_of xs ++ t.number ∷ [] = map_push (λ (u : Taken O). u.number) xs t in
            let a : times i (numbers_of (xs ++ t ∷ [])) ≡ times i (numbers_of xs ++ t.number ∷ []) = ap (times i) m in
            let b = times_push i (numbers_of xs) t.number in
            let apart : i ≢ t.number = λ e. let s = one_if_same t.number i (sym e) in absurd (omega arith) in
            ap (λ ys. slice_get ys i) is ∙ get_set_else new t.number i slot apart ∙ was.kept i (omega arith);
      }

  pub named_from : (worker : ℕ) (ts : List (Taken O)) (old new : List (Option (Entry O))) → ArePut worker ts old new → All (λ t. IsNamed worker t.number new) ts
  named_from worker ts old new put k d h = (entry worker (get_or ts k d).out, put.put k d h, refl)

  -- no number of a worker's list stands twice
  pub once_theirs : (before numbers after : List ℕ) (ts : List (Taken O)) → after ≡ before ++ numbers → numbers ≡ numbers_of ts → AreOnce after → AreOnce (numbers_of ts)
  once_theirs before numbers after ts joined are once x =
      let a = times-append x before numbers in
      let e : times x after ≡ times x (before ++ numbers) = ap (times x) joined in
      let f : times x numbers ≡ times x (numbers_of ts) = ap (times x) are in
      let o = once x in omega arith

module _ {J O : Type 0} (answers : J → O → Type 0) (jobs : List J) (workers : ℕ) where
  pub placed_none : (slots : List (Option (Entry O))) (taken : List ℕ) → taken ≡ [] → slots ≡ replicate (length jobs) None → ArePlaced answers jobs workers taken slots
  placed_none slots taken nothing is = record {
    count = ap length is ∙ length-replicate {A = Option (Entry O)} (length jobs) None;
    free = λ i within none. ap (λ ys. slice_get ys i) is ∙ get_same {A = Option (Entry O)} (length jobs) i None within;
    filled = λ i within some_time. let e : times i taken ≡ 0 = ap (times i) nothing in absurd (omega arith);
  }

  -- the slots of what a worker took are free, where no number stands twice
  pub free_all : (before numbers after : List ℕ) (ts : List (Taken O)) (slots : List (Option (Entry O))) → after ≡ before ++ numbers → numbers ≡ numbers_of ts → ArePlaced answers jobs workers before slots → AreOnce after
      → All (λ t. IsTaken answers jobs t) ts → All (λ t. slice_get slots t.number ≡ Some None) ts
  free_all before numbers after ts slots joined are placed once each k d h =
      let x = (get_or ts k d).number in
      let a = times_at ts k d h in
      let b = times-append x before numbers in
      let e : times x after ≡ times x (before ++ numbers) = ap (times x) joined in
      let f : times x numbers ≡ times x (numbers_of ts) = ap (times x) are in
      let o = once x in
      placed.free x ((each k d h).below) (omega arith)

  pub placed_more : (before numbers after : List ℕ) (worker : ℕ) (ts : List (Taken O)) (old new : List (Option (Entry O))) → after ≡ before ++ numbers → numbers ≡ numbers_of ts → ArePlaced answers jobs workers before old
      → worker ≤ workers → ArePut worker ts old new → All (λ t. IsTaken answers jobs t) ts → ArePlaced answers jobs workers after new
  placed_more before numbers after worker ts old new joined are placed few put each = record {
    count = put.count ∙ placed.count;
    free = λ i within none.
        let a = split i in
        put.kept i (omega arith) ∙ placed.free i within (omega arith);
    filled = λ i within some_time. by i within some_time (ℕ_discrete (times i (numbers_of ts)) 0);
  }
    where
      split : (i : ℕ) → times i after ≡ times i before + times i (numbers_of ts)
      split i = ap (times i) joined ∙ times-append i before numbers ∙ ap (λ (n : ℕ). times i before + n) (ap (times i) are)

      by : (i : ℕ) → i < length jobs → 0 < times i after → Dec (times i (numbers_of ts) ≡ 0) → (e : Entry O) × (slice_get new i ≡ Some (Some e)) × IsEntry answers jobs workers i e
      by i within some_time (yes none) =
          let a = split i in
          let f = placed.filled i within (omega arith) in (f.0, put.kept i none ∙ f.1, f.2)
      by i within some_time (no found) =
          let Both : Taken O → Type 0 = λ t. (slice_get new t.number ≡ Some (Some (entry worker t.out))) × IsTaken answers jobs t in
          let f = find_number Both ts i (λ k d h. (put.put k d h, each k d h)) (omega arith) in
          let t = f.0 in (
            entry worker t.out,
            ap (slice_get new) (sym f.1) ∙ f.2.0,
            record { worker = few; answer = subst (λ (y : ℕ). IfSome t.out (λ out. IsAnswerAt answers jobs y out)) f.1 f.2.1.answer },
          )

  -- the caller places one
  pub placed_one : (before after : List ℕ) (x : ℕ) (out : O) (old new : List (Option (Entry O))) → after ≡ before ++ x ∷ [] → ArePlaced answers jobs workers before old → x < length jobs → IsAnswerAt answers jobs x out
      → new ≡ set old x (Some (entry 0 (Some out))) → ArePlaced answers jobs workers after new
  placed_one before after x out old new joined placed within answer is =
      let t : Taken O = record { number = x; out = Some out } in
      let put = put_more 0 [] t old old new (put_none 0 old) refl (let c = placed.count in omega arith) is in
      placed_more before (x ∷ []) after 0 (t ∷ []) old new joined refl placed (omega arith) put
      (All-push (λ u. IsTaken answers jobs u) [] t (λ k d h. absurd (omega arith)) (record { below = within; answer = answer }))

  -- where each number was taken, each slot is filled
  pub slot_at : (taken : List ℕ) (slots : List (Option (Entry O))) (i : ℕ) (s : Option (Entry O)) → ArePlaced answers jobs workers taken slots → AreBelow (length jobs) taken → i < length slots → s ≡ get_or slots i s
      → (e : Entry O) × (s ≡ Some e) × IsEntry answers jobs workers i e
  slot_at taken slots i s placed all within is =
      let c = placed.count in
      let a = all i in
      let b = once_in (length jobs) i (omega arith) in
      let f = placed.filled i (omega arith) (omega arith) in
      let r = slice_get_read slots (length slots) i s refl within is in
      (f.0, same_Some s (Some f.0) (sym r ∙ f.1), f.2)

  -- what stands in a slot, where each number was taken
  pub entry_at : (taken : List ℕ) (slots : List (Option (Entry O))) (i place : ℕ) (s : Option (Entry O)) (e : Entry O) → ArePlaced answers jobs workers taken slots → AreBelow (length jobs) taken → i < length slots
      → s ≡ get_or slots i s → s ≡ Some e → place ≡ i → IsEntry answers jobs workers place e
  entry_at taken slots i place s e placed all within is some_one here =
      let f = slot_at taken slots i s placed all within is in
      let same : f.0 ≡ e = same_Some f.0 e (sym f.1 ∙ some_one) in
      subst (λ (y : Entry O). IsEntry answers jobs workers place y) same (subst (λ (k : ℕ). IsEntry answers jobs workers k f.0) (sym here) f.2)

-- the answers so far
abbrev pub AreAnswered : {J O : Type 0} → (J → O → Type 0) → List J → List O → Type 0
AreAnswered {J} {O} answers jobs outs = (i : ℕ) (out : O) → slice_get outs i ≡ Some out → IsAnswerAt answers jobs i out

module _ {J O : Type 0} (answers : J → O → Type 0) (jobs : List J) where
  pub answered_none : AreAnswered answers jobs []
  answered_none i out e = absurd (none-some out e)

  pub answered_push : (outs more : List O) (i : ℕ) (out : O) → more ≡ outs ++ out ∷ [] → i ≡ length outs → AreAnswered answers jobs outs → IsAnswerAt answers jobs i out → AreAnswered answers jobs more
  answered_push outs more i out is last was answer j o at =
      ⊎_elim (λ (x : slice_get outs j ≡ Some o). was j o x)
      (λ (x : (j ≡ length outs) × (out ≡ o)). λ job there.
      subst (λ (y : O). answers job y) x.1 (answer job (ap (slice_get jobs) (last ∙ sym x.0) ∙ there)))
      (get_push outs out o j (ap (λ ys. slice_get ys j) (sym is) ∙ at))

  pub done_from : (outs : List O) → length outs ≡ length jobs → AreAnswered answers jobs outs → AreDone answers jobs outs
  done_from outs count each = record { count = count; each = λ i job out there at. each i out at job there }
