use Rattle.std.proofs.Common.{◌≡◌, ◌++◌, true, false, List, take, vec_capacity, ℕ, ◌<◌, length, sym, ap, ◌∙◌, refl, subst, arith}
use Rattle.std.proofs.lemmas.Bool.{eqb-true}
use Rattle.bit_rows.specs.BitRows.{has, words_for}
use Rattle.search_theory.specs.Account.{Account, Honest}
use Rattle.restart_search.specs.Sharing.{KeepsUp}
use Rattle.propagation.proofs.Holding.{holds_same}
use Rattle.restart_search.proofs.Closing.{dead_where_all_refuted, none_where_dead, may_guess, spends_where_due}
use Rattle.restart_search.proofs.Steps.{none_left, enough_for}
use Rattle.restart_search.proofs.Runs.{learned_none, learned_on, learned_again, part_again, part_of, within_fail, memory_of}
use Rattle.restart_search.proofs.BetweenRuns.{goes_on, honest_at, found_ends, found_alone, found_note, found_closed, found_refutes, leaves_of}
use Rattle.nogood_book.specs.declared.row.Row.{Row}
use Rattle.restart_search.specs.Logging.{IsLogged}
use Rattle.restart_search.proofs.Logging.{ends_path, logs_true}
use Rattle.restart_search.proofs.Written.{written}
use Rattle.restart_search.proofs.search.run.Goals as goal

-- a row that was written in place of a vector's has as many words as the values want
kept_words : (d v n j : ℕ) (xs ys : List ℕ) → length xs ≡ words_for d → d ≡ v → j ≡ words_for v → n ≡ j → length (take n (xs ++ ys)) ≡ words_for v
kept_words d v n j xs ys long is words ok =
    let all : length xs ≡ words_for v = long ∙ ap words_for is in
    ap length (written n xs ys (all ∙ sym words ∙ sym ok)) ∙ all

pub returns-in_default-clause-ends : goal.returns-in_default-clause-ends
returns-in_default-clause-ends g c = found_ends c.found.result _ _ c.found.ensures

pub returns-in_default-clause-alone : goal.returns-in_default-clause-alone
returns-in_default-clause-alone g c = λ none. found_alone c.found.result _ c.found.ensures

pub returns-in_default-clause-cell : goal.returns-in_default-clause-cell
returns-in_default-clause-cell g c = found_note c.found.result _ _ c.found.ensures

pub returns-in_default-clause-closed : goal.returns-in_default-clause-closed
returns-in_default-clause-closed g c = found_closed c.found.result _ _ c.found.ensures

pub returns-in_default-clause-begun : goal.returns-in_default-clause-begun
returns-in_default-clause-begun g c = leaves_of c.found.result _ c.loop-p.invariant.begun

pub returns-then-is_empty-clause-ends : goal.returns-then-is_empty-clause-ends
returns-then-is_empty-clause-ends g c =
    let len = c.fill_untried.ensures.long ∙ ap words_for c.loop-p.invariant.begun.sound.based.is_of.values_is ∙ sym c.loop-p.invariant.words ∙ sym c.loop-p.walk.untried.ok.0 in
    let row : c.deref.result.now ≡ c.fill_untried.new.row = c.deref.ensures.value ∙ written _ _ _ len in
    none_where_dead _ c.loop-p.walk.position.account
    (dead_where_all_refuted _ c.loop-p.walk.position.domains c.loop-p.walk.position.undecided c.loop-p.walk.position.account _ _ c.in-Some.p c.loop-p.invariant.begun.sound c.in-Some.ensures.some.0 c.in-Some.ensures.some.2
    (none_left c.loop-p.walk.position.domains c.loop-p.walk.position.account.refuted c.fill_untried.new.row c.in-Some.p c.fill_untried.ensures.all (subst (λ (ws : List ℕ). (t : ℕ) → has ws t ≡ false) row (c.if-not-has_value.ensures.none refl))))
    (ap length (sym c.path.ensures.is) ∙ eqb-true (length c.path.result.now) 0 (sym (c.if-is_empty.ensures)))

pub take_back-requires-clause-dead : goal.take_back-requires-clause-dead
take_back-requires-clause-dead g c =
    let len = c.fill_untried.ensures.long ∙ ap words_for c.loop-p.invariant.begun.sound.based.is_of.values_is ∙ sym c.loop-p.invariant.words ∙ sym c.loop-p.walk.untried.ok.0 in
    let row : c.deref.result.now ≡ c.fill_untried.new.row = c.deref.ensures.value ∙ written _ _ _ len in
    dead_where_all_refuted _ c.loop-p.walk.position.domains c.loop-p.walk.position.undecided c.loop-p.walk.position.account _ _ c.in-Some.p c.loop-p.invariant.begun.sound c.in-Some.ensures.some.0 c.in-Some.ensures.some.2
    (none_left c.loop-p.walk.position.domains c.loop-p.walk.position.account.refuted c.fill_untried.new.row c.in-Some.p c.fill_untried.ensures.all (subst (λ (ws : List ℕ). (t : ℕ) → has ws t ≡ false) row (c.if-not-has_value.ensures.none refl)))

pub returns-then-spent-clause-ends : goal.returns-then-spent-clause-ends
returns-then-spent-clause-ends g c =
    let len = c.fill_untried.ensures.long ∙ ap words_for c.loop-p.invariant.begun.sound.based.is_of.values_is ∙ sym c.loop-p.invariant.words ∙ sym c.loop-p.walk.untried.ok.0 in
    let row : c.deref.result.now ≡ c.fill_untried.new.row = c.deref.ensures.value ∙ written _ _ _ len in
    let some = c.if-not-has_value.ensures.some refl in
    let untried = c.fill_untried.ensures.untried some.0 (subst (λ (ws : List ℕ). has ws some.0 ≡ true) row some.1) in (
      spends_where_due _ c.loop-p.walk.position.account c.in-Some.p some.0 c.loop-p.invariant.begun.sound.based.honest (c.if-spent.ensures.exactly.0 refl)
          (may_guess _ c.loop-p.walk.position.domains c.loop-p.walk.position.undecided c.loop-p.walk.position.account _ _ c.in-Some.p some.0 c.loop-p.invariant.begun.sound c.in-Some.ensures.some.0 c.in-Some.ensures.some.2 c.in-Some.ensures.some.1 untried.0 untried.1),
      enough_for _ c.loop-p.walk.position.account c.loop-p.invariant.begun.sound.based.honest (c.if-spent.ensures.not_enough refl),
    )

pub choose-t-requires-clause-within : goal.choose-t-requires-clause-within
choose-t-requires-clause-within g c t h =
    let len = c.fill_untried.ensures.long ∙ ap words_for c.loop-p.invariant.begun.sound.based.is_of.values_is ∙ sym c.loop-p.invariant.words ∙ sym c.loop-p.walk.untried.ok.0 in
    let row : c.deref-in-loop-p.result.now ≡ c.fill_untried.new.row = c.deref-in-loop-p.ensures.value ∙ written _ _ _ len in
    subst (λ (n : ℕ). t < n) (sym c.loop-p.invariant.choice)
    (c.loop-p.invariant.begun.sound.here.quiet.first.values c.in-Some.p t c.in-Some.ensures.some.0 (c.fill_untried.ensures.untried t (subst (λ (ws : List ℕ). has ws t ≡ true) row h)).0)

pub guess-requires-clause-may : goal.guess-requires-clause-may
guess-requires-clause-may g c =
    let len = c.fill_untried.ensures.long ∙ ap words_for c.loop-p.invariant.begun.sound.based.is_of.values_is ∙ sym c.loop-p.invariant.words ∙ sym c.loop-p.walk.untried.ok.0 in
    let row : c.deref-in-loop-p.result.now ≡ c.fill_untried.new.row = c.deref-in-loop-p.ensures.value ∙ written _ _ _ len in
    let t = c.choose-t.result in
    let untried = c.fill_untried.ensures.untried t (subst (λ (ws : List ℕ). has ws t ≡ true) row c.choose-t.ensures.member) in
    may_guess _ c.loop-p.walk.position.domains c.loop-p.walk.position.undecided c.loop-p.walk.position.account _ _ c.in-Some.p t c.loop-p.invariant.begun.sound c.in-Some.ensures.some.0 c.in-Some.ensures.some.2 c.in-Some.ensures.some.1 untried.0 untried.1

pub loop-p-init : goal.loop-p-init
loop-p-init g c = record {
  fits = c.begin.ensures.fits;
  seat = c.begin.ensures.seat;
  problem = c.begin.ensures.problem;
  begun = goes_on c.in-Ok-true.field-0 _ _ _ _ _ _ _ _ c.in-Ok-true.field-0-test c.in-Ok-true.ensures.begun;
  budget = ap (λ (a : Account). a.budget) c.begin.ensures.account;
  learned = learned_none c.args.author.now.problem.now _ _ _ _ c.args.author.now.owner c.begin.ensures.account c.requires.seat.owner_is c.begin.ensures.learned;
  long = c.begin.ensures.long;
  words = c.requires.walk.words;
  choice = c.requires.walk.degrees;
  owner = c.begin.ensures.owner ∙ c.requires.owner;
  logged = logs_true c.in-Ok-true.field-0 _ _ _ _ _ _ _ _ _ c.in-Ok-true.field-0-test c.in-Ok-true.ensures.logged;
  room = omega (arith, c.requires.walk.room, ap vec_capacity c.begin.ensures.marks);
}

pub loop-p-preserved-then-not-has_value : goal.loop-p-preserved-then-not-has_value
loop-p-preserved-then-not-has_value g c =
    let len = c.fill_untried.ensures.long ∙ ap words_for c.loop-p.invariant.begun.sound.based.is_of.values_is ∙ sym c.loop-p.invariant.words ∙ sym c.loop-p.walk.untried.ok.0 in
    let row : c.deref.result.now ≡ c.fill_untried.new.row = c.deref.ensures.value ∙ written _ _ _ len in
    let begun = c.loop-p.invariant.begun in
    let dead =
    dead_where_all_refuted _ c.loop-p.walk.position.domains c.loop-p.walk.position.undecided c.loop-p.walk.position.account _ _ c.in-Some.p c.loop-p.invariant.begun.sound c.in-Some.ensures.some.0 c.in-Some.ensures.some.2
    (none_left c.loop-p.walk.position.domains c.loop-p.walk.position.account.refuted c.fill_untried.new.row c.in-Some.p c.fill_untried.ensures.all (subst (λ (ws : List ℕ). (t : ℕ) → has ws t ≡ false) row (c.if-not-has_value.ensures.none refl))) in
    record {
      fits = c.loop-p.invariant.fits;
      seat = c.loop-p.invariant.seat;
      problem = c.loop-p.invariant.problem;
      begun = record {
        sound = c.take_back.ensures.sound;
        acting = c.take_back.ensures.acting c.loop-p.walk.propagator.filters.nogoods begun.acting.past;
        rows = begun.rows;
        holds = begun.holds;
        keeps = subst (λ (n : ℕ). KeepsUp (g.B.Seat.RowSeat.shows c.loop-p.seat) n) (sym c.take_back.ensures.run) begun.keeps;
      };
      budget = c.take_back.ensures.budget ∙ c.loop-p.invariant.budget;
      learned = learned_on c.args.author.now.problem.now _ c.loop-p.walk.position.account c.take_back.new.self.account _ _ c.loop-p.invariant.learned (within_fail c.args.author.now.problem.now _ _ dead c.take_back.ensures.failed);
      long = c.loop-p.invariant.long;
      words = ap length (written _ _ _ len) ∙ c.fill_untried.ensures.long ∙ ap words_for begun.sound.based.is_of.values_is;
      choice = c.loop-p.invariant.choice;
      owner = c.in-Ok.ensures.owner ∙ c.loop-p.invariant.owner;
      logged = record {
        told = c.take_back.ensures.told c.loop-p.walk.propagator.filters.nogoods c.loop-p.invariant.logged.told;
        writes = subst (λ (rows : List Row). g.L.ProofLogger.writes c.close.new.self c.args.author.now.problem.now rows c.take_back.new.self.account) c.rows-rows.ensures.seen (c.in-Ok.ensures.closed.failed _ c.take_back.ensures.failed);
      };
      room = omega (arith, c.loop-p.invariant.room, c.take_back.ensures.room);
    }

pub loop-p-preserved : goal.loop-p-preserved
loop-p-preserved g c =
    let len = c.fill_untried.ensures.long ∙ ap words_for c.loop-p.invariant.begun.sound.based.is_of.values_is ∙ sym c.loop-p.invariant.words ∙ sym c.loop-p.walk.untried.ok.0 in
    let begun = c.loop-p.invariant.begun in
    record {
      fits = c.loop-p.invariant.fits;
      seat = c.loop-p.invariant.seat;
      problem = c.guess.ensures.problem;
      begun = record {
        sound = c.in-Ok-guess.ensures.sound;
        acting = c.in-Ok-guess.ensures.acting;
        rows = begun.rows;
        holds = holds_same (g.B.Seat.RowSeat.shows c.loop-p.seat).seen c.loop-p.walk.propagator.filters.nogoods c.guess.new.propagator.filters.nogoods c.guess.ensures.kept begun.holds;
        keeps = subst (λ (n : ℕ). KeepsUp (g.B.Seat.RowSeat.shows c.loop-p.seat) n) (sym c.guess.ensures.run) begun.keeps;
      };
      budget = c.guess.ensures.budget ∙ c.loop-p.invariant.budget;
      learned = learned_on c.args.author.now.problem.now _ _ _ _ _ c.loop-p.invariant.learned c.guess.ensures.went;
      long = c.guess.ensures.long;
      words = ap length (written _ _ _ len) ∙ c.fill_untried.ensures.long ∙ ap words_for begun.sound.based.is_of.values_is;
      choice = c.choose-t.ensures.same ∙ c.loop-p.invariant.choice;
      owner = c.guess.ensures.owner ∙ c.loop-p.invariant.owner;
      logged = subst (λ (rows : List Row). IsLogged c.args.author.now.problem.now rows c.guess.new.propagator.filters.nogoods c.guess.new.position.domains c.guess.new.position.account c.guess.new.position.marks.items
          (g.L.Told.Recorder.changes c.guess.new.position.told) (g.L.ProofLogger.writes c.guess.new.log)) c.rows.ensures.seen c.in-Ok-guess.ensures.logged;
      room = omega (arith, c.loop-p.invariant.room, c.guess.ensures.room);
    }

pub returns-in_default-clause-logged : goal.returns-in_default-clause-logged
returns-in_default-clause-logged g c = leaves_of c.found.result _ c.loop-p.invariant.logged

pub returns-in_default-clause-refutes : goal.returns-in_default-clause-refutes
returns-in_default-clause-refutes g c = found_refutes c.found.result _ _ c.found.ensures

pub returns-in_default-clause-steps : goal.returns-in_default-clause-steps
returns-in_default-clause-steps g c = c.stays.ensures.steps _ _ _ c.loop-p.invariant.logged.writes

pub close-requires-clause-ends : goal.close-requires-clause-ends
close-requires-clause-ends g c =
    let len = c.fill_untried.ensures.long ∙ ap words_for c.loop-p.invariant.begun.sound.based.is_of.values_is ∙ sym c.loop-p.invariant.words ∙ sym c.loop-p.walk.untried.ok.0 in
    let row : c.deref.result.now ≡ c.fill_untried.new.row = c.deref.ensures.value ∙ written _ _ _ len in
    ends_path _ c.rows-rows.result.now c.loop-p.walk.propagator.filters.nogoods c.loop-p.walk.position.domains _ _ _ _ _ c.loop-p.invariant.begun.sound.based.is_of (rw c.rows-rows.ensures.seen c.loop-p.invariant.begun.holds) c.loop-p.invariant.logged.told
    (record {
      vertex_in = c.in-Some.ensures.some.0;
      level = c.in-Some.ensures.some.2;
      none = none_left c.loop-p.walk.position.domains c.loop-p.walk.position.account.refuted c.fill_untried.new.row c.in-Some.p c.fill_untried.ensures.all (subst (λ (ws : List ℕ). (t : ℕ) → has ws t ≡ false) row (c.if-not-has_value.ensures.none refl));
    })

pub close-requires-clause-writes : goal.close-requires-clause-writes
close-requires-clause-writes g c = rw c.rows-rows.ensures.seen c.loop-p.invariant.logged.writes

pub close-requires-clause-sound : goal.close-requires-clause-sound
close-requires-clause-sound g c = rw c.rows-rows.ensures.seen c.loop-p.invariant.begun.rows

pub guess-requires-clause-rows : goal.guess-requires-clause-rows
guess-requires-clause-rows g c = rw c.rows.ensures.seen c.loop-p.invariant.begun.rows

pub guess-requires-clause-holds : goal.guess-requires-clause-holds
guess-requires-clause-holds g c = rw c.rows.ensures.seen c.loop-p.invariant.begun.holds

pub guess-requires-clause-logged : goal.guess-requires-clause-logged
guess-requires-clause-logged g c = rw c.rows.ensures.seen c.loop-p.invariant.logged

pub returns-in_default-clause-learned : goal.returns-in_default-clause-learned
returns-in_default-clause-learned g c = memory_of c.found.result _ _ c.loop-p.invariant.learned (part_of c.args.author.now.problem.now _ _ _ _)

pub returns-in-Ok-false-clause-learned : goal.returns-in-Ok-false-clause-learned
returns-in-Ok-false-clause-learned g c = learned_none c.args.author.now.problem.now _ _ _ _ c.args.author.now.owner c.begin.ensures.account c.requires.seat.owner_is c.begin.ensures.learned

pub returns-in-Err-clause-learned : goal.returns-in-Err-clause-learned
returns-in-Err-clause-learned g c =
    part_of c.args.author.now.problem.now c.args.walk.now.position.account c.begin.new.position.account (g.B.Seat.RowSeat.shows c.args.seat.now) (g.B.Seat.RowSeat.shows c.begin.new.seat)
    (learned_none c.args.author.now.problem.now _ _ _ _ c.args.author.now.owner c.begin.ensures.account c.requires.seat.owner_is c.begin.ensures.learned)

pub returns-in_default-close-clause-learned : goal.returns-in_default-close-clause-learned
returns-in_default-close-clause-learned g c = part_of c.args.author.now.problem.now _ _ _ _ c.loop-p.invariant.learned

pub returns-in_default-guess-clause-learned : goal.returns-in_default-guess-clause-learned
returns-in_default-guess-clause-learned g c =
    part_of c.args.author.now.problem.now _ _ _ _
    (learned_on c.args.author.now.problem.now _ c.loop-p.walk.position.account c.guess.new.position.account _ _ c.loop-p.invariant.learned c.guess.ensures.went)

pub returns-in-Ok-false-begin_again-clause-learned : goal.returns-in-Ok-false-begin_again-clause-learned
returns-in-Ok-false-begin_again-clause-learned g c =
    learned_again c.args.author.now.problem.now c.args.walk.now.position.account c.loop-p.walk.position.account c.begin_again.new.position.account (g.B.Seat.RowSeat.shows c.args.seat.now) (g.B.Seat.RowSeat.shows c.loop-p.seat)
    (g.B.Seat.RowSeat.shows c.begin_again.new.seat) c.loop-p.invariant.learned (c.if-at_cutoff.ensures.exactly.0 refl) c.in-Ok-false-begin_again.ensures.restarted c.in-Ok-false-begin_again.ensures.learned
    (c.loop-p.invariant.seat.owner_is ∙ sym c.requires.seat.owner_is) c.begin_again.ensures.grew

pub returns-in-Err-begin_again-clause-learned : goal.returns-in-Err-begin_again-clause-learned
returns-in-Err-begin_again-clause-learned g c =
    part_again c.args.author.now.problem.now c.args.walk.now.position.account c.loop-p.walk.position.account c.begin_again.new.position.account (g.B.Seat.RowSeat.shows c.args.seat.now) (g.B.Seat.RowSeat.shows c.loop-p.seat)
    (g.B.Seat.RowSeat.shows c.begin_again.new.seat) c.args.author.now.owner c.loop-p.invariant.learned (c.if-at_cutoff.ensures.exactly.0 refl) c.begin_again.ensures.account c.begin_again.ensures.part c.requires.seat.owner_is
    c.begin_again.ensures.grew

pub loop-p-preserved-in-Ok-true-begin_again : goal.loop-p-preserved-in-Ok-true-begin_again
loop-p-preserved-in-Ok-true-begin_again g c =
    let len = c.fill_untried.ensures.long ∙ ap words_for c.loop-p.invariant.begun.sound.based.is_of.values_is ∙ sym c.loop-p.invariant.words ∙ sym c.loop-p.walk.untried.ok.0 in
    record {
      fits = c.begin_again.ensures.fits;
      seat = c.begin_again.ensures.seat;
      problem = c.begin_again.ensures.problem;
      begun = goes_on c.in-Ok-true-begin_again.field-0 _ _ _ _ _ _ _ _ c.in-Ok-true-begin_again.field-0-test c.in-Ok-true-begin_again.ensures.begun;
      budget = c.begin_again.ensures.budget ∙ c.loop-p.invariant.budget;
      learned = learned_again c.args.author.now.problem.now c.args.walk.now.position.account c.loop-p.walk.position.account c.begin_again.new.position.account (g.B.Seat.RowSeat.shows c.args.seat.now) (g.B.Seat.RowSeat.shows c.loop-p.seat)
          (g.B.Seat.RowSeat.shows c.begin_again.new.seat) c.loop-p.invariant.learned (c.if-at_cutoff.ensures.exactly.0 refl) c.in-Ok-true-begin_again.ensures.restarted c.in-Ok-true-begin_again.ensures.learned
          (c.loop-p.invariant.seat.owner_is ∙ sym c.requires.seat.owner_is) c.begin_again.ensures.grew;
      long = c.begin_again.ensures.long;
      words = ap length (written _ _ _ len) ∙ c.fill_untried.ensures.long ∙ ap words_for c.loop-p.invariant.begun.sound.based.is_of.values_is;
      choice = c.loop-p.invariant.choice;
      owner = c.begin_again.ensures.owner ∙ c.loop-p.invariant.owner;
      logged = logs_true c.in-Ok-true-begin_again.field-0 _ _ _ _ _ _ _ _ _ c.in-Ok-true-begin_again.field-0-test c.in-Ok-true-begin_again.ensures.logged;
      room = omega (arith, c.loop-p.invariant.room, c.begin_again.ensures.room);
    }

pub returns-in-Ok-false-clause-walk : goal.returns-in-Ok-false-clause-walk
returns-in-Ok-false-clause-walk g c = record {
  problem = c.begin.ensures.problem;
  long = c.begin.ensures.long;
  words = c.requires.walk.words;
  degrees = c.requires.walk.degrees;
  room = omega (arith, c.requires.walk.room, ap vec_capacity c.begin.ensures.marks);
}

pub returns-in-Ok-false-clause-budget : goal.returns-in-Ok-false-clause-budget
returns-in-Ok-false-clause-budget g c = ap (λ (a : Account). a.budget) c.begin.ensures.account

pub returns-in-Ok-false-clause-owner : goal.returns-in-Ok-false-clause-owner
returns-in-Ok-false-clause-owner g c = c.begin.ensures.owner

pub returns-in-Ok-false-clause-steps : goal.returns-in-Ok-false-clause-steps
returns-in-Ok-false-clause-steps g c = c.begin.ensures.steps

pub returns-in-Err-clause-walk : goal.returns-in-Err-clause-walk
returns-in-Err-clause-walk g c = record {
  problem = c.begin.ensures.problem;
  long = c.begin.ensures.long;
  words = c.requires.walk.words;
  degrees = c.requires.walk.degrees;
  room = omega (arith, c.requires.walk.room, ap vec_capacity c.begin.ensures.marks);
}

pub returns-in-Err-clause-budget : goal.returns-in-Err-clause-budget
returns-in-Err-clause-budget g c = ap (λ (a : Account). a.budget) c.begin.ensures.account

pub returns-in-Err-clause-owner : goal.returns-in-Err-clause-owner
returns-in-Err-clause-owner g c = c.begin.ensures.owner

pub returns-in-Err-clause-steps : goal.returns-in-Err-clause-steps
returns-in-Err-clause-steps g c = c.begin.ensures.steps

pub returns-in_default-clause-walk : goal.returns-in_default-clause-walk
returns-in_default-clause-walk g c = record {
  problem = c.loop-p.invariant.problem;
  long = c.loop-p.invariant.long;
  words = c.loop-p.invariant.words;
  degrees = c.loop-p.invariant.choice;
  room = c.loop-p.invariant.room;
}

pub returns-in_default-clause-budget : goal.returns-in_default-clause-budget
returns-in_default-clause-budget g c = c.loop-p.invariant.budget

pub returns-in_default-clause-owner : goal.returns-in_default-clause-owner
returns-in_default-clause-owner g c = c.loop-p.invariant.owner ∙ sym c.requires.owner

pub returns-in_default-close-clause-walk : goal.returns-in_default-close-clause-walk
returns-in_default-close-clause-walk g c = record {
  problem = c.loop-p.invariant.problem;
  long = c.loop-p.invariant.long;
  words = kept_words _ _ c.loop-p.walk.untried.len _ _ _ c.fill_untried.ensures.long c.loop-p.invariant.begun.sound.based.is_of.values_is c.loop-p.invariant.words c.loop-p.walk.untried.ok.0;
  degrees = c.loop-p.invariant.choice;
  room = c.loop-p.invariant.room;
}

pub returns-in_default-close-clause-budget : goal.returns-in_default-close-clause-budget
returns-in_default-close-clause-budget g c = c.loop-p.invariant.budget

pub returns-in_default-close-clause-owner : goal.returns-in_default-close-clause-owner
returns-in_default-close-clause-owner g c = c.close.ensures.owner ∙ (c.loop-p.invariant.owner ∙ sym c.requires.owner)

pub returns-in_default-close-clause-steps : goal.returns-in_default-close-clause-steps
returns-in_default-close-clause-steps g c = subst (λ (rows : List Row). g.L.ProofLogger.steps c.close.new.self c.args.author.now.problem.now rows) c.rows-rows.ensures.seen c.close.ensures.steps

pub returns-then-is_empty-clause-walk : goal.returns-then-is_empty-clause-walk
returns-then-is_empty-clause-walk g c = record {
  problem = c.loop-p.invariant.problem;
  long = c.loop-p.invariant.long;
  words = kept_words _ _ c.loop-p.walk.untried.len _ _ _ c.fill_untried.ensures.long c.loop-p.invariant.begun.sound.based.is_of.values_is c.loop-p.invariant.words c.loop-p.walk.untried.ok.0;
  degrees = c.loop-p.invariant.choice;
  room = c.loop-p.invariant.room;
}

pub returns-then-is_empty-clause-budget : goal.returns-then-is_empty-clause-budget
returns-then-is_empty-clause-budget g c = c.loop-p.invariant.budget

pub returns-then-is_empty-clause-owner : goal.returns-then-is_empty-clause-owner
returns-then-is_empty-clause-owner g c = c.close.ensures.owner ∙ (c.loop-p.invariant.owner ∙ sym c.requires.owner)

pub returns-then-is_empty-clause-learned : goal.returns-then-is_empty-clause-learned
returns-then-is_empty-clause-learned g c = c.loop-p.invariant.learned

pub returns-then-is_empty-clause-steps : goal.returns-then-is_empty-clause-steps
returns-then-is_empty-clause-steps g c = subst (λ (rows : List Row). g.L.ProofLogger.steps c.close.new.self c.args.author.now.problem.now rows) c.rows-rows.ensures.seen c.close.ensures.steps

pub returns-in-Some-stop_at-clause-walk : goal.returns-in-Some-stop_at-clause-walk
returns-in-Some-stop_at-clause-walk g c = record {
  problem = c.loop-p.invariant.problem;
  long = c.loop-p.invariant.long;
  words = kept_words _ _ c.loop-p.walk.untried.len _ _ _ c.fill_untried.ensures.long c.loop-p.invariant.begun.sound.based.is_of.values_is c.loop-p.invariant.words c.loop-p.walk.untried.ok.0;
  degrees = c.loop-p.invariant.choice;
  room = c.loop-p.invariant.room;
}

pub returns-in-Some-stop_at-clause-budget : goal.returns-in-Some-stop_at-clause-budget
returns-in-Some-stop_at-clause-budget g c = c.loop-p.invariant.budget

pub returns-in-Some-stop_at-clause-owner : goal.returns-in-Some-stop_at-clause-owner
returns-in-Some-stop_at-clause-owner g c = c.loop-p.invariant.owner ∙ sym c.requires.owner

pub returns-in-Some-stop_at-clause-steps : goal.returns-in-Some-stop_at-clause-steps
returns-in-Some-stop_at-clause-steps g c = c.stays.ensures.steps _ _ _ c.loop-p.invariant.logged.writes

pub returns-in-Some-stop_at-clause-learned : goal.returns-in-Some-stop_at-clause-learned
returns-in-Some-stop_at-clause-learned g c = c.loop-p.invariant.learned

pub returns-in-Some-stop_at-clause-logged : goal.returns-in-Some-stop_at-clause-logged
returns-in-Some-stop_at-clause-logged g c = c.loop-p.invariant.logged

pub returns-in-Some-stop_at-clause-begun : goal.returns-in-Some-stop_at-clause-begun
returns-in-Some-stop_at-clause-begun g c = c.loop-p.invariant.begun

pub returns-then-spent-clause-walk : goal.returns-then-spent-clause-walk
returns-then-spent-clause-walk g c = record {
  problem = c.loop-p.invariant.problem;
  long = c.loop-p.invariant.long;
  words = kept_words _ _ c.loop-p.walk.untried.len _ _ _ c.fill_untried.ensures.long c.loop-p.invariant.begun.sound.based.is_of.values_is c.loop-p.invariant.words c.loop-p.walk.untried.ok.0;
  degrees = c.loop-p.invariant.choice;
  room = c.loop-p.invariant.room;
}

pub returns-then-is_closed-clause-walk : goal.returns-then-is_closed-clause-walk
returns-then-is_closed-clause-walk g c = record {
  problem = c.loop-p.invariant.problem;
  long = c.loop-p.invariant.long;
  words = kept_words _ _ c.loop-p.walk.untried.len _ _ _ c.fill_untried.ensures.long c.loop-p.invariant.begun.sound.based.is_of.values_is c.loop-p.invariant.words c.loop-p.walk.untried.ok.0;
  degrees = c.loop-p.invariant.choice;
  room = c.loop-p.invariant.room;
}

pub returns-then-spent-clause-budget : goal.returns-then-spent-clause-budget
returns-then-spent-clause-budget g c = c.loop-p.invariant.budget

pub returns-then-is_closed-clause-budget : goal.returns-then-is_closed-clause-budget
returns-then-is_closed-clause-budget g c = c.loop-p.invariant.budget

pub returns-then-spent-clause-owner : goal.returns-then-spent-clause-owner
returns-then-spent-clause-owner g c = c.loop-p.invariant.owner ∙ sym c.requires.owner

pub returns-then-is_closed-clause-owner : goal.returns-then-is_closed-clause-owner
returns-then-is_closed-clause-owner g c = c.loop-p.invariant.owner ∙ sym c.requires.owner

pub returns-then-spent-clause-steps : goal.returns-then-spent-clause-steps
returns-then-spent-clause-steps g c = c.stays.ensures.steps _ _ _ c.loop-p.invariant.logged.writes

pub returns-then-is_closed-clause-steps : goal.returns-then-is_closed-clause-steps
returns-then-is_closed-clause-steps g c = c.stays.ensures.steps _ _ _ c.loop-p.invariant.logged.writes

pub returns-then-spent-clause-learned : goal.returns-then-spent-clause-learned
returns-then-spent-clause-learned g c = c.loop-p.invariant.learned

pub returns-then-is_closed-clause-learned : goal.returns-then-is_closed-clause-learned
returns-then-is_closed-clause-learned g c = c.loop-p.invariant.learned

pub returns-then-spent-clause-logged : goal.returns-then-spent-clause-logged
returns-then-spent-clause-logged g c = c.loop-p.invariant.logged

pub returns-then-is_closed-clause-logged : goal.returns-then-is_closed-clause-logged
returns-then-is_closed-clause-logged g c = c.loop-p.invariant.logged

pub returns-then-spent-clause-begun : goal.returns-then-spent-clause-begun
returns-then-spent-clause-begun g c = c.loop-p.invariant.begun

pub returns-then-is_closed-clause-begun : goal.returns-then-is_closed-clause-begun
returns-then-is_closed-clause-begun g c = c.loop-p.invariant.begun

pub returns-in-Ok-false-begin_again-clause-walk : goal.returns-in-Ok-false-begin_again-clause-walk
returns-in-Ok-false-begin_again-clause-walk g c = record {
  problem = c.begin_again.ensures.problem;
  long = c.begin_again.ensures.long;
  words = kept_words _ _ c.loop-p.walk.untried.len _ _ _ c.fill_untried.ensures.long c.loop-p.invariant.begun.sound.based.is_of.values_is c.loop-p.invariant.words c.loop-p.walk.untried.ok.0;
  degrees = c.loop-p.invariant.choice;
  room = omega (arith, c.loop-p.invariant.room, c.begin_again.ensures.room);
}

pub returns-in-Ok-false-begin_again-clause-budget : goal.returns-in-Ok-false-begin_again-clause-budget
returns-in-Ok-false-begin_again-clause-budget g c = c.begin_again.ensures.budget ∙ c.loop-p.invariant.budget

pub returns-in-Ok-false-begin_again-clause-owner : goal.returns-in-Ok-false-begin_again-clause-owner
returns-in-Ok-false-begin_again-clause-owner g c = c.begin_again.ensures.owner ∙ (c.loop-p.invariant.owner ∙ sym c.requires.owner)

pub returns-in-Ok-false-begin_again-clause-steps : goal.returns-in-Ok-false-begin_again-clause-steps
returns-in-Ok-false-begin_again-clause-steps g c = c.begin_again.ensures.steps

pub returns-in-Err-begin_again-clause-walk : goal.returns-in-Err-begin_again-clause-walk
returns-in-Err-begin_again-clause-walk g c = record {
  problem = c.begin_again.ensures.problem;
  long = c.begin_again.ensures.long;
  words = kept_words _ _ c.loop-p.walk.untried.len _ _ _ c.fill_untried.ensures.long c.loop-p.invariant.begun.sound.based.is_of.values_is c.loop-p.invariant.words c.loop-p.walk.untried.ok.0;
  degrees = c.loop-p.invariant.choice;
  room = omega (arith, c.loop-p.invariant.room, c.begin_again.ensures.room);
}

pub returns-in-Err-begin_again-clause-budget : goal.returns-in-Err-begin_again-clause-budget
returns-in-Err-begin_again-clause-budget g c = c.begin_again.ensures.budget ∙ c.loop-p.invariant.budget

pub returns-in-Err-begin_again-clause-owner : goal.returns-in-Err-begin_again-clause-owner
returns-in-Err-begin_again-clause-owner g c = c.begin_again.ensures.owner ∙ (c.loop-p.invariant.owner ∙ sym c.requires.owner)

pub returns-in-Err-begin_again-clause-steps : goal.returns-in-Err-begin_again-clause-steps
returns-in-Err-begin_again-clause-steps g c = c.begin_again.ensures.steps

pub returns-in_default-guess-clause-walk : goal.returns-in_default-guess-clause-walk
returns-in_default-guess-clause-walk g c = record {
  problem = c.guess.ensures.problem;
  long = c.guess.ensures.long;
  words = kept_words _ _ c.loop-p.walk.untried.len _ _ _ c.fill_untried.ensures.long c.loop-p.invariant.begun.sound.based.is_of.values_is c.loop-p.invariant.words c.loop-p.walk.untried.ok.0;
  degrees = c.choose-t.ensures.same ∙ c.loop-p.invariant.choice;
  room = omega (arith, c.loop-p.invariant.room, c.guess.ensures.room);
}

pub returns-in_default-guess-clause-budget : goal.returns-in_default-guess-clause-budget
returns-in_default-guess-clause-budget g c = c.guess.ensures.budget ∙ c.loop-p.invariant.budget

pub returns-in_default-guess-clause-owner : goal.returns-in_default-guess-clause-owner
returns-in_default-guess-clause-owner g c = c.guess.ensures.owner ∙ (c.loop-p.invariant.owner ∙ sym c.requires.owner)

pub returns-in_default-guess-clause-steps : goal.returns-in_default-guess-clause-steps
returns-in_default-guess-clause-steps g c = subst (λ (rows : List Row). g.L.ProofLogger.steps c.guess.new.log c.args.author.now.problem.now rows) c.rows.ensures.seen c.guess.ensures.steps

pub choose-t-requires-clause-some : goal.choose-t-requires-clause-some
choose-t-requires-clause-some g c =
    subst (λ (ws : List ℕ). (t : ℕ) × (has ws t ≡ true)) (c.deref.ensures.value ∙ sym c.deref-in-loop-p.ensures.value) (c.if-not-has_value.ensures.some refl)

pub begin-requires-clause-problem : goal.begin-requires-clause-problem
begin-requires-clause-problem g c = c.requires.walk.problem

pub begin-requires-clause-long : goal.begin-requires-clause-long
begin-requires-clause-long g c = c.requires.walk.long

pub returns-in-Ok-false-clause-honest : goal.returns-in-Ok-false-clause-honest
returns-in-Ok-false-clause-honest g c =
    subst (λ (a : Account). Honest c.args.author.now.problem.now a) (sym c.begin.ensures.account) (honest_at c.args.stage _ _ _ _ _ _ _ _ c.requires.open c.requires.stands)

pub returns-in-Err-clause-honest : goal.returns-in-Err-clause-honest
returns-in-Err-clause-honest g c =
    subst (λ (a : Account). Honest c.args.author.now.problem.now a) (sym c.begin.ensures.account) (honest_at c.args.stage _ _ _ _ _ _ _ _ c.requires.open c.requires.stands)

pub returns-in_default-clause-honest : goal.returns-in_default-clause-honest
returns-in_default-clause-honest g c = c.loop-p.invariant.begun.sound.based.honest

pub returns-in_default-close-clause-honest : goal.returns-in_default-close-clause-honest
returns-in_default-close-clause-honest g c = c.loop-p.invariant.begun.sound.based.honest

pub returns-then-is_empty-clause-honest : goal.returns-then-is_empty-clause-honest
returns-then-is_empty-clause-honest g c = c.loop-p.invariant.begun.sound.based.honest

pub returns-in-Some-stop_at-clause-honest : goal.returns-in-Some-stop_at-clause-honest
returns-in-Some-stop_at-clause-honest g c = c.loop-p.invariant.begun.sound.based.honest

pub returns-then-spent-clause-honest : goal.returns-then-spent-clause-honest
returns-then-spent-clause-honest g c = c.loop-p.invariant.begun.sound.based.honest

pub returns-then-is_closed-clause-honest : goal.returns-then-is_closed-clause-honest
returns-then-is_closed-clause-honest g c = c.loop-p.invariant.begun.sound.based.honest

pub returns-in-Ok-false-begin_again-clause-honest : goal.returns-in-Ok-false-begin_again-clause-honest
returns-in-Ok-false-begin_again-clause-honest g c = c.begin_again.ensures.honest

pub returns-in-Err-begin_again-clause-honest : goal.returns-in-Err-begin_again-clause-honest
returns-in-Err-begin_again-clause-honest g c = c.begin_again.ensures.honest

pub returns-in_default-guess-clause-honest : goal.returns-in_default-guess-clause-honest
returns-in_default-guess-clause-honest g c = c.guess.ensures.honest
