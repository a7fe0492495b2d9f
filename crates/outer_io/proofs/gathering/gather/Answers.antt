-- What is put and kept back is a front part of the piece behind what was, and in the end all of it.
use Rattle.std.proofs.Common.{rules, ◌≡◌, ◌+◌, ◌-◌, ◌<◌, ℕ, List, [], ◌++◌, length, drop, refl, sym, ap, subst, ◌∙◌, arith}
use Rattle.std.specs.Io.KnownBytes.{append_known}
use Rattle.std.specs.List.{between}
use Rattle.std.proofs.lemmas.Slice.{between_to_end}
use Rattle.std.proofs.lemmas.Result.{err_from_is_err_and}
use Rattle.outer_io.proofs.KnownTexts.{append_known-nil, append_known-append_known}
use Rattle.outer_io.proofs.HeldBytes.{put_with, stops_with, taken_more, taken_all, stops_taken}
use Rattle.outer_io.proofs.gathering.gather.Goals as goal

pub loop-at-init : goal.loop-at-init
loop-at-init g c = record {
  within = omega arith;
  short = c.requires.short;
  text = sym (append_known-nil _);
  same = refl;
  others = λ file. refl;
  faults = refl;
}

pub returns-in_err-put_whole-clause-text : goal.returns-in_err-put_whole-clause-text
returns-in_err-put_whole-clause-text g c =
    let p = err_from_is_err_and c.from_residual.result c.from_residual.ensures.1 in
    let none : c.put_whole.new.held ≡ [] = c.put_whole.ensures.empty in
    let at = c.loop-at.at in
    let end = at + (65536 - length c.as_slice-in-loop-at.result.now) in
    let stop = stops_with _ _ _ c.loop-at.held _ c.in_err-put_whole.ensures.text in
    rw (p.1, none) (stops_taken _ _ _ c.args.piece.now at end (omega arith) c.loop-at.invariant.text stop)

pub loop-at-preserved : goal.loop-at-preserved
loop-at-preserved g c =
    let none : c.put_whole.new.held ≡ [] = c.put_whole.ensures.empty in
    let at = c.loop-at.at in
    let end = at + (65536 - length c.as_slice-in-loop-at.result.now) in
    let put = put_with _ _ c.loop-at.held _ c.in_ok-put_whole.ensures.text in
    record {
      within = search rules;
      short = subst (λ (b : List ℕ). length b < 65536) (sym none) (omega arith);
      text = rw none (taken_more _ _ _ c.args.piece.now at end (omega arith) c.loop-at.invariant.text put);
      same = search rules;
      others = search rules;
      faults = search rules;
    }

pub returns-clause-text : goal.returns-clause-text
returns-clause-text g c =
    let piece = c.args.piece.now in
    let at = c.loop-at.at in
    let held = c.loop-at.held in
    let rest = between at (length piece) piece in
    let tail : rest ≡ drop at piece = between_to_end piece at (length piece) (omega arith) in
    let grown : c.append.new.self ≡ held ++ drop at piece = c.append.ensures ∙ ap (λ (t : List ℕ). held ++ t) tail in
    taken_all _ _ _ piece at c.loop-at.invariant.text (ap (append_known (g.S.Sink.contents c.loop-at.sink)) grown ∙ sym (append_known-append_known _ held (drop at piece)))
