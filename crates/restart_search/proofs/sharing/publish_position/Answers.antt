use Rattle.std.proofs.Common.{◌≡◌, ℕ, ◌+◌, ◌<◌, ◌≤◌, ◌++◌, List, Option, Some, IfSome, length, take, refl, sym, ap, ◌∙◌, subst, arith}
use Rattle.std.proofs.lemmas.List.{length-take-le}
use Rattle.graph_theory.specs.Graph.{size}
use Rattle.graph_theory.specs.Path.{NotOn}
use Rattle.graph_theory.specs.Neighbours.{members}
use Rattle.bit_rows.specs.BitRows.{has}
use Rattle.search_theory.specs.Account.{path}
use Rattle.nogood_book.specs.Rows.{Pairs}
use Rattle.nogood_book.proofs.Reaching.{reaches_more}
use Rattle.restart_search.specs.Sharing.{IsRowOf, learned_by, refuted_at, refuted_in}
use Rattle.restart_search.proofs.Positions.{level_is, refuted_dead}
use Rattle.restart_search.proofs.Publishing.{went_more, row_on, row_later, published_on, published_more, published_ended, published_all, level_few, seat_went}
use Rattle.restart_search.proofs.Learning.{below_more, below_all, none_after, no_vertex, first_all, position_first_ones}
use Rattle.proof_logger.specs.Logging.{GrowsBeside}
use Rattle.restart_search.proofs.sharing.publish_position.Goals as goal

pub returns-in_default-clause-all : goal.returns-in_default-clause-all
returns-in_default-clause-all g c = λ yes.
    published_ended c.args.account.now c.args.author.now.owner (length (g.B.Seat.RowSeat.shows c.args.seat.now).seen) (g.B.Seat.RowSeat.shows c.loop-i.seat).seen c.loop-i.i c.loop-i.invariant.published
    (sym c.level-vertex.ensures.vertex ∙ c.in_default.is)

pub slice_bounds-above-end : goal.slice_bounds-above-end
slice_bounds-above-end g c =
    let level = level_is c.args.author.now.problem.now c.args.account.now c.loop-i.i c.in-Some.p c.requires.honest c.path-path.ensures.vertices c.path-path.ensures.in_range
    (subst (λ (v : Option ℕ). IfSome v (λ r. (r < c.args.account.now.pattern) × NotOn (path c.args.account.now) r)) c.vertex-vertex.ensures.is c.vertex-vertex.ensures.off_path)
    (sym c.level-vertex.ensures.vertex ∙ c.in-Some.is) in
    let le : c.from-at.result ≤ length c.path-path.result.now = omega (arith, level.0, c.from-at.ensures, ap length c.path-path.ensures.is) in
    sym (length-take-le c.from-at.result c.path-path.result.now le)

pub publish_level-requires-clause-parent : goal.publish_level-requires-clause-parent
publish_level-requires-clause-parent g c = rw c.from-at.ensures c.loop-i.invariant.parent

pub publish_level-requires-clause-fresh : goal.publish_level-requires-clause-fresh
publish_level-requires-clause-fresh g c =
    let level = level_is c.args.author.now.problem.now c.args.account.now c.loop-i.i c.in-Some.p c.requires.honest c.path-path.ensures.vertices c.path-path.ensures.in_range
    (subst (λ (v : Option ℕ). IfSome v (λ r. (r < c.args.account.now.pattern) × NotOn (path c.args.account.now) r)) c.vertex-vertex.ensures.is c.vertex-vertex.ensures.off_path)
    (sym c.level-vertex.ensures.vertex ∙ c.in-Some.is) in
    rw (c.from-at.ensures, c.path-path.ensures.is) level.1.off

pub publish_level-requires-clause-vertex : goal.publish_level-requires-clause-vertex
publish_level-requires-clause-vertex g c =
    let level = level_is c.args.author.now.problem.now c.args.account.now c.loop-i.i c.in-Some.p c.requires.honest c.path-path.ensures.vertices c.path-path.ensures.in_range
    (subst (λ (v : Option ℕ). IfSome v (λ r. (r < c.args.account.now.pattern) × NotOn (path c.args.account.now) r)) c.vertex-vertex.ensures.is c.vertex-vertex.ensures.off_path)
    (sym c.level-vertex.ensures.vertex ∙ c.in-Some.is) in
    level.1.vertex_in

pub publish_level-requires-clause-refuted : goal.publish_level-requires-clause-refuted
publish_level-requires-clause-refuted g c t here =
    let level = level_is c.args.author.now.problem.now c.args.account.now c.loop-i.i c.in-Some.p c.requires.honest c.path-path.ensures.vertices c.path-path.ensures.in_range
    (subst (λ (v : Option ℕ). IfSome v (λ r. (r < c.args.account.now.pattern) × NotOn (path c.args.account.now) r)) c.vertex-vertex.ensures.is c.vertex-vertex.ensures.off_path)
    (sym c.level-vertex.ensures.vertex ∙ c.in-Some.is) in
    rw (c.from-at.ensures, c.path-path.ensures.is)
    (refuted_dead c.args.author.now.problem.now (take c.loop-i.i (path c.args.account.now)) c.in-Some.p t c.args.account.now.target _ c.level-vertex.result.1.now level.1 c.level-vertex.ensures.refuted
    c.requires.honest.target_is c.level-vertex.ensures.others here)

pub publish_guess-requires-clause-parent : goal.publish_guess-requires-clause-parent
publish_guess-requires-clause-parent g c =
    rw c.from-at.ensures (reaches_more _ _ c.loop-i.parent (take c.loop-i.i c.path-path.result.now) c.loop-i.invariant.parent c.publish_level.ensures.went.grew.seen)

pub loop-i-preserved : goal.loop-i-preserved
loop-i-preserved g c =
    let first = g.B.Seat.RowSeat.shows c.args.seat.now in
    let mid = g.B.Seat.RowSeat.shows c.loop-i.seat in
    let next = g.B.Seat.RowSeat.shows c.publish_level.new.seat in
    let last = g.B.Seat.RowSeat.shows c.publish_guess.new.seat in
    let o = c.args.author.now.owner in
    let K : Pairs → Type 0 = IsRowOf o (length first.seen) next.seen in
    let above : take c.from-at.result c.path-path.result.now ≡ take c.loop-i.i (path c.args.account.now) = rw (c.from-at.ensures, c.path-path.ensures.is) refl in
    let to_next = went_more first mid next c.loop-i.invariant.went c.publish_level.ensures.went in
    let level = published_more c.args.account.now K c.loop-i.i c.in-Some.p c.level-vertex.result.1.now (take c.from-at.result c.path-path.result.now)
    (published_on c.args.account.now (IsRowOf o (length first.seen) mid.seen) K c.loop-i.i
    (λ xs. row_on o (length first.seen) (length first.seen) mid.seen next.seen xs c.publish_level.ensures.went.grew.seen (omega arith)) c.loop-i.invariant.published)
    (sym c.level-vertex.ensures.vertex ∙ c.in-Some.is) c.level-vertex.ensures.refuted above
    (λ t here. row_later o first mid next _ c.loop-i.invariant.went (c.in_ok-whole.ensures.all c.if-not-whole.false t here)) in
    record {
      fits = c.publish_guess.ensures.fits;
      went = went_more first next last to_next c.publish_guess.ensures.went;
      parent = rw (sym c.from-at.ensures) (c.if-not-publish_guess.ensures.next refl);
      published = published_on c.args.account.now K (IsRowOf o (length first.seen) last.seen) (c.loop-i.i + 1)
          (λ xs. row_on o (length first.seen) (length first.seen) next.seen last.seen xs c.publish_guess.ensures.went.grew.seen (omega arith)) level;
      learned = below_more c.args.account.now (learned_by o first.seen) (learned_by o mid.seen) (learned_by o next.seen) (learned_by o last.seen) (take c.from-at.result c.path-path.result.now) c.loop-i.i c.in-Some.p _
          c.loop-i.invariant.learned (c.in_ok-whole.ensures.learned c.if-not-whole.false) c.publish_guess.ensures.learned above (sym c.level-vertex.ensures.vertex ∙ c.in-Some.is) c.level-vertex.ensures.refuted;
      owner = c.publish_level.ensures.owner ∙ c.loop-i.invariant.owner;
      writes = c.stays.ensures.grown c.args.author.now.problem.now next.seen last.seen c.args.account.now
          (subst (λ (n : ℕ). GrowsBeside n next.seen last.seen) (sym (c.publish_level.ensures.owner ∙ (c.loop-i.invariant.owner ∙ c.requires.owner))) c.publish_guess.ensures.beside)
          c.publish_level.ensures.writes;
    }

pub returns-clause-all : goal.returns-clause-all
returns-clause-all g c = λ yes.
    let end : c.loop-i.i ≡ c.size-i-end.result = omega (arith, c.loop-i.auto.i-end, c.loop-i-test.false) in
    published_all c.args.author.now.problem.now c.args.account.now c.args.author.now.owner (length (g.B.Seat.RowSeat.shows c.args.seat.now).seen) (g.B.Seat.RowSeat.shows c.loop-i.seat).seen c.loop-i.i
    (end ∙ c.size-i-end.ensures.size ∙ ap size c.pattern.ensures.pattern)
    c.requires.honest c.path-path.ensures.vertices c.path-path.ensures.in_range
    (subst (λ (v : Option ℕ). IfSome v (λ r. (r < c.args.account.now.pattern) × NotOn (path c.args.account.now) r)) c.vertex-vertex.ensures.is c.vertex-vertex.ensures.off_path)
    c.loop-i.invariant.published

pub publish_level-requires-clause-level : goal.publish_level-requires-clause-level
publish_level-requires-clause-level g c = sym c.level-vertex.ensures.vertex ∙ c.in-Some.is

pub publish_level-requires-clause-above : goal.publish_level-requires-clause-above
publish_level-requires-clause-above g c = rw (c.from-at.ensures, c.path-path.ensures.is) refl

pub publish_level-requires-clause-owner : goal.publish_level-requires-clause-owner
publish_level-requires-clause-owner g c = c.loop-i.invariant.owner ∙ c.requires.owner

pub returns-then-not-publish_guess-clause-writes : goal.returns-then-not-publish_guess-clause-writes
returns-then-not-publish_guess-clause-writes g c =
    let next = g.B.Seat.RowSeat.shows c.publish_level.new.seat in
    let last = g.B.Seat.RowSeat.shows c.publish_guess.new.seat in
    c.stays.ensures.grown c.args.author.now.problem.now next.seen last.seen c.args.account.now
    (subst (λ (n : ℕ). GrowsBeside n next.seen last.seen) (sym (c.publish_level.ensures.owner ∙ (c.loop-i.invariant.owner ∙ c.requires.owner))) c.publish_guess.ensures.beside)
    c.publish_level.ensures.writes

pub returns-in_default-clause-learned : goal.returns-in_default-clause-learned
returns-in_default-clause-learned g c = λ yes.
    let o = c.args.author.now.owner in
    c.loop-i.invariant.learned
    ∙ ap (λ (zs : List Pairs). learned_by o (g.B.Seat.RowSeat.shows c.args.seat.now).seen ++ zs)
    (below_all c.args.account.now c.loop-i.i (none_after c.args.account.now c.loop-i.i (sym c.level-vertex.ensures.vertex ∙ c.in_default.is)))

pub returns-clause-learned : goal.returns-clause-learned
returns-clause-learned g c = λ yes.
    let o = c.args.author.now.owner in
    let end : c.loop-i.i ≡ size c.args.author.now.problem.now.pattern =
    omega (arith, c.loop-i.auto.i-end, c.loop-i-test.false) ∙ c.size-i-end.ensures.size ∙ ap size c.pattern.ensures.pattern in
    c.loop-i.invariant.learned
    ∙ ap (λ (zs : List Pairs). learned_by o (g.B.Seat.RowSeat.shows c.args.seat.now).seen ++ zs)
    (below_all c.args.account.now c.loop-i.i
    (λ j le. no_vertex _ (λ p is.
    omega (
      arith,
      le,
      end,
      level_few c.args.author.now.problem.now c.args.account.now j p c.requires.honest c.path-path.ensures.vertices c.path-path.ensures.in_range
          (subst (λ (v : Option ℕ). IfSome v (λ r. (r < c.args.account.now.pattern) × NotOn (path c.args.account.now) r)) c.vertex-vertex.ensures.is c.vertex-vertex.ensures.off_path) is,
    ))))

pub returns-in_default-clause-part : goal.returns-in_default-clause-part
returns-in_default-clause-part g c =
    first_all c.args.author.now.owner (g.B.Seat.RowSeat.shows c.args.seat.now).seen (g.B.Seat.RowSeat.shows c.loop-i.seat).seen (refuted_in c.args.account.now) (returns-in_default-clause-learned g c refl)

pub returns-clause-part : goal.returns-clause-part
returns-clause-part g c =
    first_all c.args.author.now.owner (g.B.Seat.RowSeat.shows c.args.seat.now).seen (g.B.Seat.RowSeat.shows c.loop-i.seat).seen (refuted_in c.args.account.now) (returns-clause-learned g c refl)

pub returns-in_err-whole-clause-part : goal.returns-in_err-whole-clause-part
returns-in_err-whole-clause-part g c =
    let above : take c.from-at.result c.path-path.result.now ≡ take c.loop-i.i (path c.args.account.now) = rw (c.from-at.ensures, c.path-path.ensures.is) refl in
    position_first_ones c.args.account.now c.args.author.now.owner (g.B.Seat.RowSeat.shows c.args.seat.now).seen (g.B.Seat.RowSeat.shows c.loop-i.seat).seen (g.B.Seat.RowSeat.shows c.publish_level.new.seat).seen (take c.from-at.result c.path-path.result.now) c.loop-i.i c.in-Some.p (members (has c.level-vertex.result.1.now) c.args.account.now.target)
    c.loop-i.invariant.learned c.publish_level.ensures.part above (sym c.level-vertex.ensures.vertex ∙ c.in-Some.is) c.level-vertex.ensures.refuted

pub returns-then-not-whole-clause-part : goal.returns-then-not-whole-clause-part
returns-then-not-whole-clause-part g c =
    let above : take c.from-at.result c.path-path.result.now ≡ take c.loop-i.i (path c.args.account.now) = rw (c.from-at.ensures, c.path-path.ensures.is) refl in
    position_first_ones c.args.account.now c.args.author.now.owner (g.B.Seat.RowSeat.shows c.args.seat.now).seen (g.B.Seat.RowSeat.shows c.loop-i.seat).seen (g.B.Seat.RowSeat.shows c.publish_level.new.seat).seen (take c.from-at.result c.path-path.result.now) c.loop-i.i c.in-Some.p (members (has c.level-vertex.result.1.now) c.args.account.now.target)
    c.loop-i.invariant.learned c.publish_level.ensures.part above (sym c.level-vertex.ensures.vertex ∙ c.in-Some.is) c.level-vertex.ensures.refuted

pub returns-then-not-publish_guess-clause-part : goal.returns-then-not-publish_guess-clause-part
returns-then-not-publish_guess-clause-part g c =
    let above : take c.from-at.result c.path-path.result.now ≡ take c.loop-i.i (path c.args.account.now) = rw (c.from-at.ensures, c.path-path.ensures.is) refl in
    position_first_ones c.args.account.now c.args.author.now.owner (g.B.Seat.RowSeat.shows c.args.seat.now).seen (g.B.Seat.RowSeat.shows c.loop-i.seat).seen (g.B.Seat.RowSeat.shows c.publish_guess.new.seat).seen (take c.from-at.result c.path-path.result.now) c.loop-i.i c.in-Some.p (members (has c.level-vertex.result.1.now) c.args.account.now.target)
    c.loop-i.invariant.learned (first_all c.args.author.now.owner (g.B.Seat.RowSeat.shows c.loop-i.seat).seen (g.B.Seat.RowSeat.shows c.publish_guess.new.seat).seen (refuted_at (take c.from-at.result c.path-path.result.now) (Some c.in-Some.p) (members (has c.level-vertex.result.1.now) c.args.account.now.target)) (c.publish_guess.ensures.learned ∙ c.in_ok-whole.ensures.learned c.if-not-whole.false)) above (sym c.level-vertex.ensures.vertex ∙ c.in-Some.is) c.level-vertex.ensures.refuted

pub returns-in_default-clause-owner : goal.returns-in_default-clause-owner
returns-in_default-clause-owner g c = c.loop-i.invariant.owner

pub returns-in_default-clause-writes : goal.returns-in_default-clause-writes
returns-in_default-clause-writes g c = c.loop-i.invariant.writes

pub returns-in_default-clause-fits : goal.returns-in_default-clause-fits
returns-in_default-clause-fits g c = c.loop-i.invariant.fits

pub returns-in_default-clause-went : goal.returns-in_default-clause-went
returns-in_default-clause-went g c = c.loop-i.invariant.went

pub returns-in_default-clause-full : goal.returns-in_default-clause-full
returns-in_default-clause-full g c = λ no. cc

pub returns-clause-owner : goal.returns-clause-owner
returns-clause-owner g c = c.loop-i.invariant.owner

pub returns-clause-writes : goal.returns-clause-writes
returns-clause-writes g c = c.loop-i.invariant.writes

pub returns-clause-fits : goal.returns-clause-fits
returns-clause-fits g c = c.loop-i.invariant.fits

pub returns-clause-went : goal.returns-clause-went
returns-clause-went g c = c.loop-i.invariant.went

pub returns-clause-full : goal.returns-clause-full
returns-clause-full g c = λ no. cc

pub returns-in_err-whole-clause-owner : goal.returns-in_err-whole-clause-owner
returns-in_err-whole-clause-owner g c = c.publish_level.ensures.owner ∙ c.loop-i.invariant.owner

pub returns-in_err-whole-clause-writes : goal.returns-in_err-whole-clause-writes
returns-in_err-whole-clause-writes g c = c.publish_level.ensures.writes

pub returns-in_err-whole-clause-fits : goal.returns-in_err-whole-clause-fits
returns-in_err-whole-clause-fits g c = c.publish_level.ensures.fits

pub returns-in_err-whole-clause-went : goal.returns-in_err-whole-clause-went
returns-in_err-whole-clause-went g c = went_more (g.B.Seat.RowSeat.shows c.args.seat.now) (g.B.Seat.RowSeat.shows c.loop-i.seat) (g.B.Seat.RowSeat.shows c.publish_level.new.seat) c.loop-i.invariant.went c.publish_level.ensures.went

pub returns-then-not-whole-clause-owner : goal.returns-then-not-whole-clause-owner
returns-then-not-whole-clause-owner g c = c.publish_level.ensures.owner ∙ c.loop-i.invariant.owner

pub returns-then-not-whole-clause-writes : goal.returns-then-not-whole-clause-writes
returns-then-not-whole-clause-writes g c = c.publish_level.ensures.writes

pub returns-then-not-whole-clause-fits : goal.returns-then-not-whole-clause-fits
returns-then-not-whole-clause-fits g c = c.publish_level.ensures.fits

pub returns-then-not-whole-clause-went : goal.returns-then-not-whole-clause-went
returns-then-not-whole-clause-went g c = went_more (g.B.Seat.RowSeat.shows c.args.seat.now) (g.B.Seat.RowSeat.shows c.loop-i.seat) (g.B.Seat.RowSeat.shows c.publish_level.new.seat) c.loop-i.invariant.went c.publish_level.ensures.went

pub returns-then-not-publish_guess-clause-owner : goal.returns-then-not-publish_guess-clause-owner
returns-then-not-publish_guess-clause-owner g c = c.publish_level.ensures.owner ∙ c.loop-i.invariant.owner

pub returns-then-not-publish_guess-clause-fits : goal.returns-then-not-publish_guess-clause-fits
returns-then-not-publish_guess-clause-fits g c = c.publish_guess.ensures.fits

pub returns-then-not-publish_guess-clause-went : goal.returns-then-not-publish_guess-clause-went
returns-then-not-publish_guess-clause-went g c = went_more (g.B.Seat.RowSeat.shows c.args.seat.now) (g.B.Seat.RowSeat.shows c.publish_level.new.seat) (g.B.Seat.RowSeat.shows c.publish_guess.new.seat) (went_more (g.B.Seat.RowSeat.shows c.args.seat.now) (g.B.Seat.RowSeat.shows c.loop-i.seat) (g.B.Seat.RowSeat.shows c.publish_level.new.seat) c.loop-i.invariant.went c.publish_level.ensures.went) c.publish_guess.ensures.went

pub returns-then-not-whole-clause-full : goal.returns-then-not-whole-clause-full
returns-then-not-whole-clause-full g c = λ no. c.in_ok-whole.ensures.full c.if-not-whole.true

pub returns-then-not-publish_guess-clause-full : goal.returns-then-not-publish_guess-clause-full
returns-then-not-publish_guess-clause-full g c = λ no. c.if-not-publish_guess.ensures.full refl

pub returns-then-not-whole-clause-all : goal.returns-then-not-whole-clause-all
returns-then-not-whole-clause-all g c = λ yes. cc

pub returns-then-not-whole-clause-learned : goal.returns-then-not-whole-clause-learned
returns-then-not-whole-clause-learned g c = λ yes. cc

pub returns-then-not-publish_guess-clause-all : goal.returns-then-not-publish_guess-clause-all
returns-then-not-publish_guess-clause-all g c = λ yes. cc

pub returns-then-not-publish_guess-clause-learned : goal.returns-then-not-publish_guess-clause-learned
returns-then-not-publish_guess-clause-learned g c = λ yes. cc

pub publish_level-requires-clause-fits : goal.publish_level-requires-clause-fits
publish_level-requires-clause-fits g c = c.loop-i.invariant.fits

pub publish_level-requires-clause-seat : goal.publish_level-requires-clause-seat
publish_level-requires-clause-seat g c = seat_went c.args.author.now.problem.now c.args.author.now.owner (g.B.Seat.RowSeat.shows c.args.seat.now) (g.B.Seat.RowSeat.shows c.loop-i.seat) c.loop-i.invariant.went c.requires.seat

pub publish_level-requires-clause-row : goal.publish_level-requires-clause-row
publish_level-requires-clause-row g c = c.level-vertex.ensures.refuted

pub publish_level-requires-clause-target : goal.publish_level-requires-clause-target
publish_level-requires-clause-target g c = c.requires.honest.target_is

pub publish_level-requires-clause-writes : goal.publish_level-requires-clause-writes
publish_level-requires-clause-writes g c = c.loop-i.invariant.writes

pub publish_guess-requires-clause-fits : goal.publish_guess-requires-clause-fits
publish_guess-requires-clause-fits g c = c.publish_level.ensures.fits

pub publish_guess-requires-clause-seat : goal.publish_guess-requires-clause-seat
publish_guess-requires-clause-seat g c = seat_went c.args.author.now.problem.now c.args.author.now.owner (g.B.Seat.RowSeat.shows c.args.seat.now) (g.B.Seat.RowSeat.shows c.publish_level.new.seat) (went_more (g.B.Seat.RowSeat.shows c.args.seat.now) (g.B.Seat.RowSeat.shows c.loop-i.seat) (g.B.Seat.RowSeat.shows c.publish_level.new.seat) c.loop-i.invariant.went c.publish_level.ensures.went) c.requires.seat
