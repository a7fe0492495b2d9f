-- Rows in force, and that a worker keeps up with its book over restarts.

use Rattle.std.proofs.Common.{◌≡◌, ℕ, zero, suc, ◌+◌, ◌<◌, ◌≤◌, ◌&&◌, cond, Bool, true, false, List, [], ◌∷◌, ◌++◌, length, Option, Some, None, IfSome, refl, sym, ap, ◌∙◌, subst, arith, length-append, ◌⊎◌, inl, inr}
use Rattle.std.specs.Prelude.{slice_get, ◌==◌}
use Rattle.std.proofs.lemmas.Grind.{common_steps}
use Rattle.graph_theory.specs.Embedding.{Problem}
use Rattle.search_theory.specs.Bounds.{cutoff}
use Rattle.search_theory.specs.Account.{Account, Honest, restarted}
use Rattle.search_theory.proofs.Cutoffs.{refuted_at_cutoff}
use Rattle.domain_bits.specs.Removals.{State, in_domain}
use Rattle.nogood_watch.specs.Nogoods as watched
use Rattle.nogood_watch.specs.Nogoods.{literal, nogood}
use Rattle.nogood_watch.specs.Watching.{IsAssigned, AllBut, forced_at}
use Rattle.nogood_book.specs.declared.row.Row.{Row}
use Rattle.nogood_book.specs.declared.row.RowKind.TheVariants.{Nogood}
use Rattle.nogood_book.specs.Rows.{Pairs, path_at, Sound}
use Rattle.nogood_book.specs.Places.{StartsWith, is_nogood, nogoods_by}
use Rattle.nogood_book.specs.Facts.{Facts, Grew, CaughtUp, HasEnded, one_more}
use Rattle.nogood_book.proofs.Lists.{starts_length, get_split, nogoods_by-append}
use Rattle.nogood_book.proofs.Reaching.{by_stays}
use Rattle.recorder.specs.Holding.{lists_in, singles_in, HoldsRows}
use Rattle.propagation.specs.Acting.{NothingLeft}
use Rattle.propagation.proofs.Holding.{listed_place, single_place, path_some}
use Rattle.restart_search.proofs.Publishing.{ended_on}
use Rattle.restart_search.specs.Sharing.{IsSeatFor, IsRowOf, IsPublished, Went, IsPathInForce, RowsInForce, HasLooked, KeepsUp}

-- ---- rows in force

-- a list that is kept is in force where nothing is left
list_in_force : (d : State) (s : watched.State) (xs : Pairs) (i : ℕ) → NothingLeft d s → i < length s.nogoods → (nogood s.nogoods i).literals ≡ xs → IsPathInForce d xs
list_in_force d s xs i left within is = record {
  not_whole = λ all. left.follows.none_whole (nogood s.nogoods i).name (record {
    place = i;
    within = within;
    named = refl;
    all = λ k k_in. subst (λ (ys : Pairs). IsAssigned d (literal ys k)) (sym is) (all k (subst (λ (ys : Pairs). k < length ys) is k_in));
  });
  last_gone = λ l rest. left.follows.last_gone i l within (subst (λ (ys : Pairs). AllBut d ys l) (sym is) rest);
}

-- so is a single pair that is kept
single_in_force : (d : State) (s : watched.State) (x : ℕ × ℕ) (i name : ℕ) → NothingLeft d s → i < length s.units → forced_at s.units i ≡ (x.0, x.1, name) → IsPathInForce d (x ∷ [])
single_in_force d s x i name left within is = record {
  not_whole = λ all. clash (in_domain d x.0 x.1) (all 0 (omega arith)).here gone;
  last_gone = λ l rest. at l (rest 0 (omega arith));
}
  where
    gone : in_domain d x.0 x.1 ≡ false
    gone = subst (λ (e : ℕ × ℕ × ℕ). in_domain d e.0 e.1 ≡ false) is (left.units i within)

    clash : (b : Bool) → b ≡ true → b ≡ false → ⊥
    clash true f g = cc
    clash false f g = cc

    at : (l : ℕ × ℕ) → (x ≡ l) ⊎ IsAssigned d x → in_domain d l.0 l.1 ≡ false
    at l (inl e) = subst (λ (y : ℕ × ℕ). in_domain d y.0 y.1 ≡ false) e gone
    at l (inr one) = absurd (clash (in_domain d x.0 x.1) one.here gone)

-- where the nogoods among sound rows are kept and nothing is left, each of these rows is in force
pub rows_in_force : (q : Problem) (d : State) (rows : List Row) (n : Option watched.State) → Sound q rows → HoldsRows rows n → IfSome n (NothingLeft d) → RowsInForce d rows
rows_in_force q d rows n sound holds left k row = by_path (path_at rows k) refl (path_some q rows k sound row)
  where
    by_path : (xs : Pairs) → path_at rows k ≡ xs → 0 < length (path_at rows k) → IsPathInForce d (path_at rows k)
    by_path [] is some = absurd (omega (arith, ap length is))
    by_path (x ∷ []) is some = subst (λ (ys : Pairs). IsPathInForce d ys) (sym is) (at n left (single_place q rows k n x sound row is holds))
      where
        at : (m : Option watched.State) → IfSome m (NothingLeft d) → (i : ℕ) × (i < length (singles_in m)) × (forced_at (singles_in m) i ≡ (x.0, x.1, k)) → IsPathInForce d (x ∷ [])
        at None l h = absurd (omega (arith, h.1))
        at (Some s) l h = single_in_force d s x h.0 k l h.1 h.2
    by_path (x ∷ y ∷ rest) is some = subst (λ (ys : Pairs). IsPathInForce d ys) (sym is) (at n left (listed_place q rows k n x y rest sound row is holds))
      where
        at : (m : Option watched.State) → IfSome m (NothingLeft d) → (i : ℕ) × (i < length (lists_in m)) × ((nogood (lists_in m) i).literals ≡ x ∷ y ∷ rest) → IsPathInForce d (x ∷ y ∷ rest)
        at None l h = absurd (omega (arith, h.1))
        at (Some s) l h = list_in_force d s (x ∷ y ∷ rest) h.0 l h.1 h.2

-- ---- keeping up

counts_one : (o : ℕ) (r : Row) → r.kind ≡ Nogood → r.owner ≡ o → 1 ≤ cond (is_nogood r.kind && (r.owner == o)) 1 0
counts_one o r k e = grind (arith, common_steps)

-- a nogood of the owner behind what was seen counts
row_counts : (o : ℕ) (rows more : List Row) (xs : Pairs) → StartsWith more rows → IsRowOf o (length rows) more xs → nogoods_by o rows + 1 ≤ nogoods_by o more
row_counts o rows more xs starts h =
    let behind = behind_seam rows starts.0 h.place h.past (subst (λ (zs : List Row). slice_get zs h.place ≡ Some h.row) starts.1 h.row_is) in
    let split = get_split starts.0 behind.0 h.row behind.1 in
    omega (arith, ap (nogoods_by o) starts.1, nogoods_by-append o rows starts.0, ap (nogoods_by o) split.2, nogoods_by-append o split.0 (h.row ∷ split.1), counts_one o h.row h.kind h.owner_is)
  where
    behind_seam : (front back : List Row) (n : ℕ) → length front ≤ n → slice_get (front ++ back) n ≡ Some h.row → (k : ℕ) × (slice_get back k ≡ Some h.row)
    behind_seam [] back n past here = (n, here)
    behind_seam (z ∷ zs) back zero past here = absurd (omega (arith, past))
    behind_seam (z ∷ zs) back (suc n) past here = behind_seam zs back n (omega (arith, past)) here

-- one look more
looked_more : (looks : Option (List ℕ)) (n seen : ℕ) → HasLooked looks n → HasLooked (one_more looks seen) (n + 1)
looked_more None n seen h = tt
looked_more (Some looks) n seen h = omega (arith, length-append looks (seen ∷ []), h)

looked_none : (looks : Option (List ℕ)) → HasLooked looks 0
looked_none None = tt
looked_none (Some looks) = omega arith

-- after catching up there was one look more, or all rows of the book are used and seen
caught_looks : (s t : Facts) (run : ℕ) → CaughtUp s t → HasLooked s.looks run → (t.size ≤ length t.seen) ⊎ HasLooked t.looks (run + 1)
caught_looks s t run c looked = elim c.looks [
  | inl more ↦ inr (subst (λ (l : Option (List ℕ)). HasLooked l (run + 1)) (sym more) (looked_more s.looks run (length t.seen) looked))
  | inr h ↦ inl (omega (arith, c.grew.size, h.1))
]

-- before the first run
pub keeps_first : (s t : Facts) (a : Account) → a.run ≡ 1 → CaughtUp s t → KeepsUp t a.run
keeps_first s t a first c = subst (λ (n : ℕ). KeepsUp t n) (sym first) (inr (omega arith), caught_looks s t 0 c (looked_none s.looks))

-- before a later one: the position is published, or the seat takes no further row
pub keeps_again : (q : Problem) (o : ℕ) (s t u : Facts) (a : Account) (all : Bool) → IsSeatFor q o s → Honest q a → a.count ≡ cutoff a.run → KeepsUp s a.run → Went s t
    → (all ≡ true → IsPublished a o (length s.seen) t.seen) → (all ≡ false → HasEnded t) → CaughtUp t u → KeepsUp u (restarted a).run
keeps_again q o s t u a all seat honest due keeps went published full caught = (left all published full keeps.0, looked keeps.1)
  where
    one_run : IsPublished a o (length s.seen) t.seen → a.run ≤ nogoods_by s.owner s.seen + 1 → a.run + 1 ≤ nogoods_by u.owner u.seen + 1
    one_run p h =
        let r = refuted_at_cutoff q a honest.reached due in
        let more = row_counts o s.seen t.seen _ went.grew.seen (p.each r.level r.vertex r.value r.vertex_is r.refuted) in
        let stays = by_stays o t.seen u.seen caught.grew.seen in
        omega (arith, h, more, stays, ap (λ (n : ℕ). nogoods_by n s.seen) seat.owner_is, ap (λ (n : ℕ). nogoods_by n u.seen) (caught.grew.owner ∙ (went.grew.owner ∙ seat.owner_is)))

    left : (b : Bool) → (b ≡ true → IsPublished a o (length s.seen) t.seen) → (b ≡ false → HasEnded t) → HasEnded s ⊎ (a.run ≤ nogoods_by s.owner s.seen + 1)
        → HasEnded u ⊎ (a.run + 1 ≤ nogoods_by u.owner u.seen + 1)
    left true p f (inl e) = inl (ended_on t u (ended_on s t e went.grew) caught.grew)
    left true p f (inr h) = inr (one_run (p refl) h)
    left false p f h = inl (ended_on t u (f refl) caught.grew)

    looked : (s.size ≤ length s.seen) ⊎ HasLooked s.looks a.run → (u.size ≤ length u.seen) ⊎ HasLooked u.looks (a.run + 1)
    looked (inl seen) = inl (omega (arith, seen, starts_length s.seen t.seen went.grew.seen, starts_length t.seen u.seen caught.grew.seen, went.grew.size, caught.grew.size))
    looked (inr l) = caught_looks t u a.run caught (subst (λ (l : Option (List ℕ)). HasLooked l a.run) (sym went.looks) l)
