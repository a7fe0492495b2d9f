-- What is so of a book and a seat of it is so of their fields.
use Rattle.std.proofs.Common.{Bool, true, false, ◌≡◌, ℕ, zero, suc, ◌+◌, ◌<◌, ◌≤◌, [], ◌∷◌, length, sym, ap, subst, ◌∙◌, replicate, refl, arith}
use Rattle.atomic_table.specs.Table.{Me}
use Rattle.atomic_table.specs.Seated.{TableId}
use Rattle.std.specs.Prelude.{Vec, vec_capacity}
use Rattle.std.specs.Global.{Global}
use Rattle.graph_theory.specs.Embedding.{Problem}
use Rattle.nogood_book.specs.declared.row.Row.{Row}
use Rattle.nogood_book.specs.declared.view.View.{View}
use Rattle.nogood_book.specs.Rows.{MayFollow}
use Rattle.nogood_book.specs.Views.{HasNumber, maker, newcomer}
use Rattle.nogood_book.specs.Plays.{Shown}
use Rattle.nogood_book.proofs.Steps.{shown_maker, shown_newcomer}
use Rattle.nogood_book.specs.Words.{AreZero}
use Rattle.nogood_book.specs.Seats.{SeatName, BookName, IsSeatOf, IsSeat}
use Rattle.nogood_book.proofs.Own.{seat_seeing}

pub of_inside : (s t : SeatName) (b d : BookName) → s ≡ t → d ≡ b → IsSeatOf b t → IsSeatOf d s
of_inside s t b d e f h = record {
  table = ap (λ (z : SeatName). z.table) e ∙ (h.table ∙ sym (ap (λ (z : BookName). z.table) f));
  problem = ap (λ (z : SeatName). z.view.problem) e ∙ (h.problem ∙ sym (ap (λ (z : BookName). z.problem) f));
}

pub more_inside : (s t : SeatName) (b d : BookName) → s ≡ t → d ≡ b → length t.view.seen < b.size → length s.view.seen < d.size
more_inside s t b d e f h = omega (arith, ap (λ (z : SeatName). length z.view.seen) e, ap (λ (z : BookName). z.size) f)

-- zeros in a row
pub zeros : (n : ℕ) → AreZero (replicate n 0)
zeros zero = tt
zeros (suc n) = (refl, zeros n)

-- a row that may follow what the seat has seen may follow it for the book's problem
pub may_inside : (s t : SeatName) (b d : BookName) (r : Row) → s ≡ t → d ≡ b → IsSeatOf b t → MayFollow t.view.problem t.view.seen r → MayFollow d.problem s.view.seen r
may_inside s t b d r e f h m =
    let P : SeatName → Type 0 = λ z. MayFollow z.view.problem z.view.seen r in
    let Q : Problem → Type 0 = λ z. MayFollow z s.view.seen r in
    subst Q (of_inside s t b d e f h).problem (subst P (sym e) m)

pub one_more_zero : (n : ℕ) → replicate {A = ℕ} (n + 1) 0 ≡ 0 ∷ replicate n 0
one_more_zero n = let e : n + 1 ≡ suc n = omega arith in let z : ℕ = 0 in ap (λ (k : ℕ). replicate k z) e

-- what the seat keeps once it has made an owner
pub seat_maker : (table table' : TableId) (me me' : Me ℕ View) (rows : Vec Row Global) (most owner : ℕ) (ended : Bool) (o : ℕ) → table' ≡ table → me' ≡ (maker o me.0, me.1)
    → IsSeat table me rows most owner ended → IsSeat table' me' rows most owner ended
seat_maker table table' me me' rows most owner ended o e f h =
    let P : TableId → Type 0 = λ z. IsSeat z me' rows most owner ended in
    let Q : Me ℕ View → Type 0 = λ z. IsSeat table z rows most owner ended in
    subst P (sym e) (subst Q (sym f) (record {
      rows_are = h.rows_are;
      no_slots = h.no_slots;
      room = h.room;
      words = h.words;
      limit = h.limit;
      owner_is = h.owner_is;
      live = h.live;
      few = h.few;
      shown = shown_maker me.0 o h.shown;
      own = record { behind = h.own.behind; owners = h.own.owners; few = h.own.few; sound = h.own.sound };
      over = h.over;
    }))

-- and what the new seat keeps
pub seat_newcomer : (table table' : TableId) (v : View) (me' : Me ℕ View) (rows : Vec Row Global) (most o : ℕ) → table' ≡ table → me' ≡ (newcomer o v, []) → rows.items ≡ v.seen → most ≤ vec_capacity rows
    → table.words ≡ most + 1 → most ≤ 4194304 → length v.seen ≤ most → v.first ≡ true → (HasNumber o v.made → ⊥) → Shown v → IsSeat table' me' rows most o false
seat_newcomer table table' v me' rows most o e f rows_are room words limit few first new_ shown =
    let P : TableId → Type 0 = λ z. IsSeat z me' rows most o false in
    let Q : Me ℕ View → Type 0 = λ z. IsSeat table z rows most o false in
    subst P (sym e) (subst Q (sym f) (seat_seeing table (newcomer o v, []) rows most o false (λ is. cc) refl room words limit refl refl (shown_newcomer v o first new_ shown) few rows_are))

pub new_inside : (o p : ℕ) (s t : SeatName) → o ≡ p → s ≡ t → (HasNumber o t.view.made → ⊥) → HasNumber p s.view.made → ⊥
new_inside o p s t e f n h =
    let P : ℕ → Type 0 = λ z. HasNumber z s.view.made in
    let Q : SeatName → Type 0 = λ z. HasNumber o z.view.made in
    n (subst Q f (subst P (sym e) h))
