use Rattle.std.proofs.Common.{◌≡◌, ℕ, ◌∷◌, [], ◌++◌, List, length, map, append_assoc, append-nil, length-append, Option, refl, sym, subst, ap, ◌∙◌, arith, rules}
use Rattle.std.specs.Prelude.{All, IfSome, slice_index_or}
use Rattle.std.specs.Vec.Iter.{into_iter_items}
use Rattle.std.proofs.lemmas.List.Elements.{All-push}
use Rattle.parallel_solve.specs.declared.running.Done.{Done}
use Rattle.parallel_solve.specs.Concluding.{HasHeard}
use Rattle.parallel_solve.specs.Gathering.{TookIn}
use Rattle.parallel_solve.specs.Teaming.{HasRun, IsRefuter}
use Rattle.parallel_solve.proofs.Concluding.{heard_push}
use Rattle.parallel_solve.proofs.Gathering.{authors, rows_came}
use Rattle.parallel_solve.proofs.Growth.{refuter_heard}
use Rattle.parallel_solve.proofs.Runs.{at_place, one_there, nothing_left, pushed_map}
use Rattle.parallel_solve.proofs.tally.gather_all.Goals as goal

pub loop-one-init : goal.loop-one-init
loop-one-init g c = record {
  whole = c.into_iter-one-iterator.ensures.into_iter_gives.0;
  left = search rules;
  tally = record { map_of = tt; refuted_of = tt; spent_of = λ e k d lt. absurd (omega (arith, c.requires.none, lt)) };
  count = c.requires.none;
  room = c.requires.room;
  logs = c.requires.no_logs;
  log_room = c.requires.log_room;
  refuter = tt;
  heard = record { found = λ none k d lt. absurd (omega (arith, lt)); refuter = λ k d lt. absurd (omega (arith, lt)); unspent = λ e. cc };
  of = c.requires.of;
  honest = c.rows-rows.ensures.honest;
  made = c.requires.made;
  taken = λ k d lt. absurd (omega (arith, lt));
}

pub take_one-requires-clause-ran : goal.take_one-requires-clause-ran
take_one-requires-clause-ran g c =
    let there = one_there c.loop-one.yielded c.in-Some.one (into_iter_items c.loop-one.one-iterator) (into_iter_items c.next.new.self) c.args.done.items c.in-Some.ensures.steps.0 c.loop-one.invariant.whole in
    at_place (λ (d : Done g.row.L.Denot g.row.L-Told.Denot). HasRun g.L.ProofLogger.owner g.L.ProofLogger.steps g.L.ProofLogger.refutes c.args.book.now c.args.q.now c.args.budget d.worker d.outcome) c.args.done.items (length c.loop-one.yielded) c.in-Some.one c.requires.ran there

pub loop-one-preserved : goal.loop-one-preserved
loop-one-preserved g c =
    let at = c.loop-one in
    let before = at.invariant in
    let one = c.in-Some.one in
    let left = into_iter_items c.next.new.self in
    let steps : into_iter_items at.one-iterator ≡ one ∷ left = c.in-Some.ensures.steps.0 in
    let gone = c.in-Some.ensures.steps.1 in
    let short = ap (λ (ds : List (Done g.row.L.Denot g.row.L-Told.Denot)). length ds) steps in
    let more = length-append at.yielded (one ∷ []) in
    let there = one_there c.loop-one.yielded c.in-Some.one (into_iter_items c.loop-one.one-iterator) (into_iter_items c.next.new.self) c.args.done.items c.in-Some.ensures.steps.0 c.loop-one.invariant.whole in
    let ran = at_place (λ (d : Done g.row.L.Denot g.row.L-Told.Denot). HasRun g.L.ProofLogger.owner g.L.ProofLogger.steps g.L.ProofLogger.refutes c.args.book.now c.args.q.now c.args.budget d.worker d.outcome) c.args.done.items (length c.loop-one.yielded) c.in-Some.one c.requires.ran there in
    let number = c.requires.numbers (length at.yielded) one there in
    let refutes = λ (d : Done g.row.L.Denot g.row.L-Told.Denot). g.L.ProofLogger.refutes d.worker.log c.args.q.now d.worker.facts.seen in
    record {
      whole = append_assoc at.yielded (one ∷ []) left ∙ (ap (λ (ds : List (Done g.row.L.Denot g.row.L-Told.Denot)). at.yielded ++ ds) (sym steps) ∙ before.whole);
      left = omega (arith, before.left, gone, short);
      tally = c.take_one.ensures.tally;
      count = omega (arith, c.take_one.ensures.count, before.count, more);
      room = omega (arith, c.take_one.ensures.room, before.room);
      logs = c.take_one.ensures.logs ∙ pushed_map (λ (d : Done g.row.L.Denot g.row.L-Told.Denot). d.worker.log) at.yielded one at.logs.items one.worker.log before.logs refl;
      log_room = omega (arith, c.take_one.ensures.log_room, before.log_room);
      refuter = subst (λ (o : Option ℕ). IfSome o (IsRefuter refutes (at.yielded ++ one ∷ []))) (sym c.take_one.ensures.refuted)
          (refuter_heard refutes at.yielded one at.tally.refuted one.worker.number one.outcome number ran.refutes_of before.refuter);
      heard = heard_push (λ (d : Done g.row.L.Denot g.row.L-Told.Denot). d.outcome) at.yielded one at.tally c.take_one.new.tally one.worker.number number before.heard
          c.take_one.ensures.map c.take_one.ensures.refuted c.take_one.ensures.spent;
      of = c.take_one.ensures.of;
      honest = c.take_one.ensures.honest;
      made = c.take_one.ensures.kept.made _ before.made;
      taken = All-push (λ (d : Done g.row.L.Denot g.row.L-Told.Denot). TookIn d.worker.seat c.take_one.new.first) at.yielded one (λ k d k_in. c.take_one.ensures.kept.taken _ (before.taken k d k_in)) c.take_one.ensures.taken;
    }

pub returns-clause-count : goal.returns-clause-count
returns-clause-count g c =
    let none : into_iter_items c.loop-one.one-iterator ≡ [] = nothing_left _ (sym c.in-None.ensures.steps.0 ∙ c.loop-one.invariant.left) in
    let all : c.loop-one.yielded ≡ c.args.done.items = sym (append-nil c.loop-one.yielded) ∙ (ap (λ (ds : List (Done g.row.L.Denot g.row.L-Told.Denot)). c.loop-one.yielded ++ ds) (sym none) ∙ c.loop-one.invariant.whole) in
    c.loop-one.invariant.count ∙ ap (λ (ds : List (Done g.row.L.Denot g.row.L-Told.Denot)). length ds) all

pub returns-clause-logs : goal.returns-clause-logs
returns-clause-logs g c =
    let none : into_iter_items c.loop-one.one-iterator ≡ [] = nothing_left _ (sym c.in-None.ensures.steps.0 ∙ c.loop-one.invariant.left) in
    let all : c.loop-one.yielded ≡ c.args.done.items = sym (append-nil c.loop-one.yielded) ∙ (ap (λ (ds : List (Done g.row.L.Denot g.row.L-Told.Denot)). c.loop-one.yielded ++ ds) (sym none) ∙ c.loop-one.invariant.whole) in
    c.loop-one.invariant.logs ∙ ap (λ (ds : List (Done g.row.L.Denot g.row.L-Told.Denot)). map (λ (d : Done g.row.L.Denot g.row.L-Told.Denot). d.worker.log) ds) all

pub returns-clause-refuter : goal.returns-clause-refuter
returns-clause-refuter g c =
    let none : into_iter_items c.loop-one.one-iterator ≡ [] = nothing_left _ (sym c.in-None.ensures.steps.0 ∙ c.loop-one.invariant.left) in
    let all : c.loop-one.yielded ≡ c.args.done.items = sym (append-nil c.loop-one.yielded) ∙ (ap (λ (ds : List (Done g.row.L.Denot g.row.L-Told.Denot)). c.loop-one.yielded ++ ds) (sym none) ∙ c.loop-one.invariant.whole) in
    subst (λ (ds : List (Done g.row.L.Denot g.row.L-Told.Denot)). IfSome c.loop-one.tally.refuted (IsRefuter (λ (d : Done g.row.L.Denot g.row.L-Told.Denot). g.L.ProofLogger.refutes d.worker.log c.args.q.now d.worker.facts.seen) ds)) all c.loop-one.invariant.refuter

pub returns-clause-heard : goal.returns-clause-heard
returns-clause-heard g c =
    let none : into_iter_items c.loop-one.one-iterator ≡ [] = nothing_left _ (sym c.in-None.ensures.steps.0 ∙ c.loop-one.invariant.left) in
    let all : c.loop-one.yielded ≡ c.args.done.items = sym (append-nil c.loop-one.yielded) ∙ (ap (λ (ds : List (Done g.row.L.Denot g.row.L-Told.Denot)). c.loop-one.yielded ++ ds) (sym none) ∙ c.loop-one.invariant.whole) in
    subst (λ (ds : List (Done g.row.L.Denot g.row.L-Told.Denot)). HasHeard (λ (d : Done g.row.L.Denot g.row.L-Told.Denot). d.outcome) ds c.loop-one.tally) all c.loop-one.invariant.heard

pub returns-clause-grown : goal.returns-clause-grown
returns-clause-grown g c =
    let none : into_iter_items c.loop-one.one-iterator ≡ [] = nothing_left _ (sym c.in-None.ensures.steps.0 ∙ c.loop-one.invariant.left) in
    let all : c.loop-one.yielded ≡ c.args.done.items = sym (append-nil c.loop-one.yielded) ∙ (ap (λ (ds : List (Done g.row.L.Denot g.row.L-Told.Denot)). c.loop-one.yielded ++ ds) (sym none) ∙ c.loop-one.invariant.whole) in
    let taken = subst (All (λ (d : Done g.row.L.Denot g.row.L-Told.Denot). TookIn d.worker.seat c.loop-one.first)) all c.loop-one.invariant.taken in
    λ k d k_in.
    let ran = c.requires.ran k d k_in in
    let worker = (slice_index_or c.args.done.items k d).worker in
    rows_came worker.problem worker c.loop-one.first ran.seat_for ran.facts_are c.loop-one.invariant.honest (taken k d k_in)

pub returns-clause-authors : goal.returns-clause-authors
returns-clause-authors g c = authors (length c.args.done.items) c.loop-one.first c.loop-one.invariant.honest c.loop-one.invariant.made
