-- What a walk has done, of the watches as they are seen.
use Rattle.std.proofs.Common.{◌≡◌, ℕ, ◌*◌, ◌/◌, ◌<◌, Bool, true, List, length, sym, ap, ◌∙◌, subst, arith, inl, inr}
use Rattle.domain_bits.specs.Removals as removals
use Rattle.nogood_watch.specs.Nogoods.{Nogood, literal, partner, AreWatches}
use Rattle.nogood_watch.specs.Watching.{IsAssigned, IsGuarded, KeepsOrFrees, MovesToFree, Follows, forced_at}
use Rattle.nogood_watch.specs.Covering.{AreCovered, watched_for, seen, live_at}
use Rattle.nogood_watch.specs.Inside.{is_live}
use Rattle.nogood_watch.specs.Walking.{Walked}
use Rattle.nogood_watch.proofs.Visits.{partner_in}
use Rattle.nogood_watch.proofs.Covering.{watched_is, watched_self, stands, stands_half, stands_partner, stands_in, stands_self, seen_long, seen_at}

-- a watch that is seen and the one that stands for it
record Seen (nogoods : List Nogood) (live : List Bool) (w : List (ℕ × ℕ)) (n x : ℕ) : Type 0 where
  pub within : stands (watched_for nogoods live) x < length w
  pub live_is : is_live live (stands (watched_for nogoods live) x) ≡ true
  pub this : literal (seen (watched_for nogoods live) w n) x ≡ literal w (stands (watched_for nogoods live) x)
  pub other : literal (seen (watched_for nogoods live) w n) (partner x) ≡ literal w (partner (stands (watched_for nogoods live) x))

seen_is : (nogoods : List Nogood) (live : List Bool) (w : List (ℕ × ℕ)) (n x : ℕ) → n ≡ length nogoods → length w ≡ 2 * length nogoods → AreCovered nogoods live → x < 2 * n → Seen nogoods live w n x
seen_is nogoods live w n x e two covered h =
    let at = watched_for nogoods live in
    let half : x / 2 < length nogoods = omega (arith, h, e) in
    let is = watched_is nogoods live (x / 2) covered half in
    record {
      within = stands_in at x (length w) (length nogoods) two is.within;
      live_is = ap (live_at live) (stands_half at x) ∙ is.live_is;
      this = seen_at at w n x h;
      other = seen_at at w n (partner x) (partner_in x (2 * n) n (omega arith) h) ∙ ap (literal w) (sym (stands_partner at x));
    }

-- a live watch is seen as it is
live_self : (nogoods : List Nogood) (live : List Bool) (x : ℕ) → is_live live x ≡ true → stands (watched_for nogoods live) x ≡ x
live_self nogoods live x up = stands_self (watched_for nogoods live) x (watched_self nogoods live (x / 2) up)

-- what holds of the watches after a walk holds of those that are seen
pub record SeenWalked (d : removals.State) (nogoods : List Nogood) (old new : List (ℕ × ℕ)) (l : ℕ × ℕ) (forced : List (ℕ × ℕ × ℕ)) : Type 0 where
  pub guarded : (x : ℕ) → x < length old → literal old x ≡ l → IsGuarded d new forced l x
  pub others : (x : ℕ) → x < length old → (literal old x ≡ l → ⊥) → literal new x ≡ literal old x
  pub moves : MovesToFree d old new
  pub follows : (k : ℕ) → k < length forced → Follows d nogoods old new l (forced_at forced k)

pub seen_walked : (d : removals.State) (nogoods : List Nogood) (live : List Bool) (w w' : List (ℕ × ℕ)) (n : ℕ) (l : ℕ × ℕ) (forced : List (ℕ × ℕ × ℕ)) → n ≡ length nogoods
    → AreWatches nogoods w → AreWatches nogoods w' → AreCovered nogoods live → Walked d nogoods live w w' l forced
    → SeenWalked d nogoods (seen (watched_for nogoods live) w n) (seen (watched_for nogoods live) w' n) l forced
seen_walked d nogoods live w w' n l forced e a b covered walked = record {
  guarded = λ x h here. guard x (inside x h) here;
  others = λ x h away. keep x (inside x h) away;
  moves = λ x h. move x (inside x h);
  follows = λ k h. follow k h;
}
  where
    at : ℕ → ℕ
    at = watched_for nogoods live

    inside : (x : ℕ) → x < length (seen at w n) → x < 2 * n
    inside x h = rw (seen_long at w n) at h

    old : (x : ℕ) → x < 2 * n → Seen nogoods live w n x
    old x h = seen_is nogoods live w n x e a.two covered h

    new : (x : ℕ) → x < 2 * n → Seen nogoods live w' n x
    new x h = seen_is nogoods live w' n x e b.two covered h

    guard : (x : ℕ) → x < 2 * n → literal (seen at w n) x ≡ l → IsGuarded d (seen at w' n) forced l x
    guard x h here = by (walked.guarded (stands at x) (old x h).within (old x h).live_is (sym (old x h).this ∙ here))
      where
        by : IsGuarded d w' forced l (stands at x) → IsGuarded d (seen at w' n) forced l x
        by (inl free) = inl (λ s. free (subst (IsAssigned d) (new x h).this s))
        by (inr (inl f)) = inr (inl (record {
          this = (new x h).this ∙ f.this;
          place = f.place;
          within = f.within;
          vertex = f.vertex ∙ ap (λ (k : ℕ × ℕ). k.0) (sym (new x h).other);
          value = f.value ∙ ap (λ (k : ℕ × ℕ). k.1) (sym (new x h).other);
        }))
        by (inr (inr f)) = inr (inr (record { this = (new x h).this ∙ f.this; other = rw (new x h).other f.other }))

    keep : (x : ℕ) → x < 2 * n → (literal (seen at w n) x ≡ l → ⊥) → literal (seen at w' n) x ≡ literal (seen at w n) x
    keep x h away = (new x h).this ∙ walked.others (stands at x) (old x h).within (λ here. away ((old x h).this ∙ here)) ∙ sym (old x h).this

    move : (x : ℕ) → x < 2 * n → KeepsOrFrees d (literal (seen at w n) x) (literal (seen at w' n) x)
    move x h = rw ((old x h).this, (new x h).this) (walked.moves (stands at x) (old x h).within)

    follow : (k : ℕ) → k < length forced → Follows d nogoods (seen at w n) (seen at w' n) l (forced_at forced k)
    follow k h = record {
      watch = f.watch;
      within = rw (seen_long at w n) f-in;
      was = (old f.watch f-in).this ∙ ap (literal w) self ∙ f.was;
      is = (new f.watch f-in).this ∙ ap (literal w') self ∙ f.is;
      other = (new f.watch f-in).other ∙ ap (λ (x : ℕ). literal w' (partner x)) self ∙ f.other;
      name = f.name;
      here = f.here;
      rest = f.rest;
    }
      where
        f : Follows d nogoods w w' l (forced_at forced k)
        f = (walked.follows k h).0

        f-in : f.watch < 2 * n
        f-in = omega (arith, f.within, a.two, e)

        self : stands at f.watch ≡ f.watch
        self = live_self nogoods live f.watch (walked.follows k h).1

-- no watch is seen at a literal where no live one is
pub none_seen : (nogoods : List Nogood) (live : List Bool) (w : List (ℕ × ℕ)) (n : ℕ) (l : ℕ × ℕ) → n ≡ length nogoods → AreWatches nogoods w → AreCovered nogoods live
    → ((x : ℕ) → x < length w → is_live live x ≡ true → literal w x ≡ l → ⊥)
    → (x : ℕ) → x < length (seen (watched_for nogoods live) w n) → literal (seen (watched_for nogoods live) w n) x ≡ l → ⊥
none_seen nogoods live w n l e a covered none x h here =
    let is = seen_is nogoods live w n x e a.two covered (rw (seen_long (watched_for nogoods live) w n) at h) in
    none (stands (watched_for nogoods live) x) is.within is.live_is (sym is.this ∙ here)
