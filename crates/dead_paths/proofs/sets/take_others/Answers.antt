use Rattle.std.proofs.Common.{◌≡◌, ℕ, ◌+◌, ◌<◌, Bool, true, false, List, inl, inr, sym, ap, ◌∙◌, arith}
use Rattle.std.proofs.lemmas.Bool.{cases_eq, true≢false}
use Rattle.graph_theory.specs.Graph.{size}
use Rattle.bit_rows.specs.BitRows.{has}
use Rattle.needed_values.specs.Needed.{needs, StaysNeeded}
use Rattle.dead_paths.specs.Choosing.{is_other, AreLeft}
use Rattle.dead_paths.proofs.Resting.{rows_again, all_inside}
use Rattle.dead_paths.proofs.sets.take_others.Goals as goal
use Rattle.dead_paths.proofs.sets.take_others.Goals.{then-taken, else-taken}

-- One vertex more is looked at.
module _ (n : ℕ) (test : ℕ → Bool) (set : List ℕ) (first old new : ℕ → ℕ → Bool) where
  inside_more : (i : ℕ) → ((r u : ℕ) → r < i → test r ≡ true → u < n → first r u ≡ true → has set u ≡ true) → StaysNeeded n first old
      → (test i ≡ true → (u : ℕ) → u < n → old i u ≡ true → has set u ≡ true) → (r u : ℕ) → r < i + 1 → test r ≡ true → u < n → first r u ≡ true → has set u ≡ true
  inside_more i before stays here r u below other u_in h = elim (cases_eq r i) [
    | inl same ↦ here (sym (ap test same) ∙ other) u u_in (sym (ap (λ (s : ℕ). old s u) same) ∙ stays r u u_in h)
    | inr apart ↦ before r u (omega (arith, below, apart)) other u_in h
  ]

  left_more : AreLeft n test set first old → AreLeft n test set old new → AreLeft n test set first new
  left_more before here r u u_in h = elim (before r u u_in h) [ inl is ↦ here r u u_in is | inr out ↦ inr out ]

pub loop-r-init : goal.loop-r-init
loop-r-init c = record { inside = λ none r u below off u_in h. absurd (omega (arith, below)); stays = λ none r u u_in h. h; left = λ r u u_in h. inl h }

pub take_other-here-requires-clause-held : goal.take_other-here-requires-clause-held
take_other-here-requires-clause-held c =
    rows_again (size c.args.apart.now.q.now.target) c.args.marked.now c.loop-r.marked c.args.needed.now c.loop-r.needed (omega (arith, c.loop-r.auto.marked)) (omega (arith, c.loop-r.auto.needed)) c.requires.held

pub returns-clause-inside : goal.returns-clause-inside
returns-clause-inside c = λ none. all_inside (size c.args.apart.now.q.now.target) c.args.marked.now c.args.needed.now (is_other c.args.apart.now.q.now c.args.apart.now.centre c.args.apart.now.vertices.now) c.args.apart.now.row.now c.loop-r.r (omega (arith, c.loop-r-test.false)) (c.loop-r.invariant.inside none)

pub loop-r-preserved : goal.loop-r-preserved
loop-r-preserved c =
    let apart = c.args.apart.now in
    let n = size apart.q.now.target in
    let test : ℕ → Bool = is_other apart.q.now apart.centre apart.vertices.now in
    let was = c.loop-r.invariant in
    let now = c.take_other-here.ensures in
    let first = needs n c.args.marked.now c.args.needed.now in
    let old = needs n c.loop-r.marked c.loop-r.needed in
    let new = needs n c.take_other-here.new.marked c.take_other-here.new.needed in
    let both : c.if-taken.taken ≡ false → (c.loop-r.taken ≡ false) × (c.take_other-here.result ≡ false) = λ none. elim c.if-taken.branch [
      | then-taken w ↦ absurd (true≢false (sym w.if-taken.true ∙ sym w.taken-is ∙ none))
      | else-taken w ↦ (w.if-taken.false, sym w.taken-is ∙ none)
    ] in
    record {
      inside = λ none. inside_more n test apart.row.now first old new c.loop-r.r (was.inside (both none).0) (was.stays (both none).0) (now.inside (both none).1);
      stays = λ none r u u_in h. now.stays (both none).1 r u u_in (was.stays (both none).0 r u u_in h);
      left = left_more n test apart.row.now first old new was.left now.left;
    }
