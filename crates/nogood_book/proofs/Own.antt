-- The rows that a seat keeps for itself, behind those of its book.
use Rattle.std.proofs.Common.{◌≡◌, ◌⊎◌, inl, inr, ℕ, ◌+◌, ◌-◌, ◌<◌, ◌≤◌, Bool, true, false, ne_eqb, List, [], ◌∷◌, ◌++◌, length, take, drop, refl, sym, ap, subst, ◌∙◌, append_assoc, append-nil as append_nil, length-append, arith}
use Rattle.std.specs.Prelude.{Vec, vec_capacity, if◌then◌else◌, ◌==◌}
use Rattle.std.specs.Global.{Global}
use Rattle.std.proofs.lemmas.Bool.{le-leb}
use Rattle.std.proofs.lemmas.Bool.Decides.{leb_tells}
use Rattle.std.proofs.lemmas.List.{take_all, take-append-le}
use Rattle.std.proofs.Math.Seq.{drop-append_seam}
use Rattle.std.proofs.lemmas.List.Elements.{All-nil, All-push}
use Rattle.atomic_table.specs.Table.{Me}
use Rattle.atomic_table.specs.Seated.{TableId}
use Rattle.nogood_book.specs.declared.row.Row.{Row}
use Rattle.nogood_book.specs.declared.view.View.{View}
use Rattle.nogood_book.specs.Rows.{Sound, MayFollow}
use Rattle.nogood_book.specs.Views.{gathers, longer}
use Rattle.nogood_book.specs.Plays.{Shown}
use Rattle.nogood_book.specs.Seats.{KeepsOwn, behind, IsSeat, IsHonest}
use Rattle.nogood_book.proofs.Paths.{sound_snoc}

-- what stands behind the rows of a view
pub behind_is : (v : View) (rows own : List Row) → rows ≡ v.seen ++ own → behind v rows ≡ own
behind_is v rows own e = ap (λ (z : List Row). drop (length v.seen) z) e ∙ drop-append_seam v.seen own

pub none_behind : (v : View) (rows : List Row) → rows ≡ v.seen → behind v rows ≡ []
none_behind v rows e = behind_is v rows [] (e ∙ sym (append_nil v.seen))

-- before all rows of the book are seen there are none
pub none_own : (most : ℕ) (v : View) (own : List Row) → KeepsOwn most v own → length v.seen < most → own ≡ []
none_own most v own k few = elim k.behind [ inl e ↦ e | inr e ↦ absurd (omega (arith, e, few)) ]

pub keeps_none : (most : ℕ) (v : View) → Shown v → length v.seen ≤ 4194304 → KeepsOwn most v []
keeps_none most v shown few = record {
  behind = inl refl;
  owners = All-nil (λ (r : Row). r.owner ≡ v.owner);
  few = omega (arith, few, length-append v.seen []);
  sound = subst (Sound v.problem) (sym (append_nil v.seen)) shown.sound;
}

-- the rows of the book alone
pub cut_own : (most : ℕ) (v : View) (own : List Row) → KeepsOwn most v own → length v.seen ≤ most → take most (v.seen ++ own) ≡ v.seen
cut_own most v own k few = elim k.behind [
  | inl e ↦ ap (λ (z : List Row). take most (v.seen ++ z)) e ∙ (ap (λ (z : List Row). take most z) (append_nil v.seen) ∙ take_all most v.seen few)
  | inr e ↦ take-append-le most v.seen own (omega (arith, e)) ∙ take_all most v.seen few
]

-- a seat that keeps none
pub seat_seeing : (table : TableId) (me : Me ℕ View) (rows : Vec Row Global) (most owner : ℕ) (ended : Bool) → (ended ≡ true → length me.0.seen ≡ most) → me.1 ≡ [] → most ≤ vec_capacity rows → table.words ≡ most + 1 → most ≤ 4194304
    → me.0.owner ≡ owner → me.0.spent ≡ false → Shown me.0 → length me.0.seen ≤ most → rows.items ≡ me.0.seen → IsSeat table me rows most owner ended
seat_seeing table me rows most owner ended over slots room words limit owner_is live shown few are =
    let none = none_behind me.0 rows.items are in record {
      rows_are = are ∙ (sym (append_nil me.0.seen) ∙ ap (λ (z : List Row). me.0.seen ++ z) (sym none));
      no_slots = slots;
      room = room;
      words = words;
      limit = limit;
      owner_is = owner_is;
      live = live;
      few = few;
      shown = shown;
      own = subst (KeepsOwn most me.0) (sym none) (keeps_none most me.0 shown (omega (arith, few, limit)));
      over = over;
    }

-- the view after a step, by the word that it found
pub found_none : (w a s : View) (n : ℕ) → n ≡ 0 → w ≡ (if n == 0 then a else s) → w ≡ a
found_none w a s n e is = is ∙ ap (λ (k : ℕ). if k == 0 then a else s) e

pub found_some : (w a s : View) (n : ℕ) → (n ≡ 0 → ⊥) → w ≡ (if n == 0 then a else s) → w ≡ s
found_some w a s n e is = is ∙ ap (λ (b : Bool). if b then a else s) (ne_eqb n 0 e)

-- the seat after a step that brought one row of the book into sight
pub seat_more : (table table' : TableId) (me me' : Me ℕ View) (rows rows' : Vec Row Global) (most owner : ℕ) (ended : Bool) (r : Row) → table' ≡ table → me'.1 ≡ me.1 → me'.0.seen ≡ me.0.seen ++ r ∷ []
    → me'.0.owner ≡ me.0.owner → me'.0.spent ≡ me.0.spent → Shown me'.0 → length me.0.seen < most → rows'.items ≡ rows.items ++ r ∷ [] → vec_capacity rows' ≡ vec_capacity rows
    → IsSeat table me rows most owner ended → IsSeat table' me' rows' most owner ended
seat_more table table' me me' rows rows' most owner ended r e f seen owner_is live shown more pushed room h =
    let none = none_own most me.0 (behind me.0 rows.items) h.own more in
    let all : rows.items ≡ me.0.seen = h.rows_are ∙ (ap (λ (z : List Row). me.0.seen ++ z) none ∙ append_nil me.0.seen) in
    seat_seeing table' me' rows' most owner ended (λ is. absurd (omega (arith, h.over is, more))) (f ∙ h.no_slots) (omega (arith, room, h.room)) (ap (λ (z : TableId). z.words) e ∙ h.words) h.limit (owner_is ∙ h.owner_is) (live ∙ h.live) shown
    (omega (arith, ap (λ (z : List Row). length z) seen, length-append me.0.seen (r ∷ []), more))
    (pushed ∙ (ap (λ (z : List Row). z ++ r ∷ []) all ∙ sym seen))

longer_second : (xs ys : List Row) → length xs ≤ length ys → longer xs ys ≡ ys
longer_second xs ys le = ap (λ (b : Bool). if b then ys else xs) (le-leb (length xs) (length ys) le)

longer_first : (xs ys : List Row) → length ys < length xs → longer xs ys ≡ xs
longer_first xs ys lt = elim (leb_tells (length xs) (length ys)) [
  | inl h ↦ absurd (omega (arith, lt, h.1))
  | inr h ↦ ap (λ (b : Bool). if b then ys else xs) h.0
]

-- the rows of the book that a seat has seen
book_rows : (table : TableId) (me : Me ℕ View) (rows : Vec Row Global) (most owner cut : ℕ) (ended : Bool) → cut ≡ most → IsSeat table me rows most owner ended → take cut rows.items ≡ me.0.seen
book_rows table me rows most owner cut ended e h =
    ap (λ (n : ℕ). take n rows.items) e ∙ (ap (λ (z : List Row). take most z) h.rows_are ∙ cut_own most me.0 (behind me.0 rows.items) h.own h.few)

-- the seat that has taken in another
module _ (table table' table2 : TableId) (me from me' : Me ℕ View) (a b rows : Vec Row Global) (most most2 cut owner owner2 : ℕ) (ended ended2 : Bool) (t' : table' ≡ table) (t2 : table2 ≡ table) (words : table.words ≡ cut + 1)
    (slots : me'.1 ≡ []) (is : me'.0 ≡ gathers me.0 from.0) (shown : Shown me'.0) (h : IsSeat table me a most owner ended) (k : IsSeat table2 from b most2 owner2 ended2) (room : vec_capacity b ≤ vec_capacity rows ⊎ vec_capacity a ≤ vec_capacity rows) where
  first_most : cut ≡ most
  first_most = omega (arith, words, h.words)

  second_most : cut ≡ most2
  second_most = omega (arith, words, k.words, ap (λ (z : TableId). z.words) t2)

  wide : most ≤ vec_capacity rows
  wide = elim room [ inl r ↦ omega (arith, r, k.room, first_most, second_most) | inr r ↦ omega (arith, r, h.room) ]

  joined : length me'.0.seen ≤ most → rows.items ≡ me'.0.seen → IsSeat table' me' rows most owner false
  joined few are = seat_seeing table' me' rows most owner false (λ is. cc) slots wide (ap (λ (z : TableId). z.words) t' ∙ h.words) h.limit (ap (λ (v : View). v.owner) is ∙ h.owner_is) (ap (λ (v : View). v.spent) is ∙ h.live) shown few are

  -- which had seen no less
  pub seat_longer : length me.0.seen ≤ length from.0.seen → rows.items ≡ take cut b.items → IsSeat table' me' rows most owner false
  seat_longer le are =
      let seen : me'.0.seen ≡ from.0.seen = ap (λ (v : View). v.seen) is ∙ longer_second me.0.seen from.0.seen le in
      joined (omega (arith, ap (λ (z : List Row). length z) seen, k.few, first_most, second_most)) (are ∙ (book_rows table2 from b most2 owner2 cut ended2 second_most k ∙ sym seen))

  -- or fewer rows
  pub seat_shorter : length from.0.seen < length me.0.seen → rows.items ≡ take cut a.items → IsSeat table' me' rows most owner false
  seat_shorter lt are =
      let seen : me'.0.seen ≡ me.0.seen = ap (λ (v : View). v.seen) is ∙ longer_first me.0.seen from.0.seen lt in
      joined (omega (arith, ap (λ (z : List Row). length z) seen, h.few)) (are ∙ (book_rows table me a most owner cut ended first_most h ∙ sym seen))

-- the seat that keeps one row more
pub seat_keeps : (table : TableId) (me : Me ℕ View) (rows rows' : Vec Row Global) (most owner : ℕ) (ended : Bool) (r : Row) → length me.0.seen ≡ most → r.owner ≡ me.0.owner
    → MayFollow me.0.problem (me.0.seen ++ behind me.0 rows.items) r → length rows.items < 4194304 → rows'.items ≡ rows.items ++ r ∷ [] → vec_capacity rows ≤ vec_capacity rows'
    → IsSeat table me rows most owner ended → IsSeat table me rows' most owner ended
seat_keeps table me rows rows' most owner ended r all mine may few pushed room h =
    let v = me.0 in
    let own = behind v rows.items in
    let whole : rows'.items ≡ v.seen ++ (own ++ r ∷ []) = pushed ∙ (ap (λ (z : List Row). z ++ r ∷ []) h.rows_are ∙ append_assoc v.seen own (r ∷ [])) in
    let is : behind v rows'.items ≡ own ++ r ∷ [] = behind_is v rows'.items (own ++ r ∷ []) whole in
    let long = length-append (v.seen ++ own) (r ∷ []) in
    let same = append_assoc v.seen own (r ∷ []) in
    let kept : KeepsOwn most v (own ++ r ∷ []) = record {
      behind = inr all;
      owners = All-push (λ (x : Row). x.owner ≡ v.owner) own r h.own.owners mine;
      few = omega (arith, few, ap (λ (z : List Row). length z) h.rows_are, long, ap (λ (z : List Row). length z) same);
      sound = subst (Sound v.problem) same (sound_snoc v.problem (v.seen ++ own) r h.own.sound may);
    } in record {
      rows_are = whole ∙ ap (λ (z : List Row). v.seen ++ z) (sym is);
      no_slots = h.no_slots;
      room = omega (arith, room, h.room);
      words = h.words;
      limit = h.limit;
      owner_is = h.owner_is;
      live = h.live;
      few = h.few;
      shown = h.shown;
      own = subst (KeepsOwn most v) (sym is) kept;
      over = h.over;
    }

-- what is so of a seat's fields is so of the seat
pub honest_of : (table : TableId) (id : ℕ) (me : Me ℕ View) (rows : Vec Row Global) (most owner : ℕ) (ended : Bool) → IsSeat table me rows most owner ended
    → IsHonest (record { table = table; id = id; view = me.0; own = behind me.0 rows.items; ended = ended })
honest_of table id me rows most owner ended h = record {
  shown = h.shown;
  live = h.live;
  few = omega (arith, h.few, h.words);
  limit = omega (arith, h.limit, h.words);
  own = let same : most ≡ table.words - 1 = omega (arith, h.words) in subst (λ (n : ℕ). KeepsOwn n me.0 (behind me.0 rows.items)) same h.own;
  over = λ is. omega (arith, h.over is, h.words);
}
