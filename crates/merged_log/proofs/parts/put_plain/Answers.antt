use Rattle.std.proofs.Common.{rules, ◌≡◌, ◌+◌, List, ◌++◌, ap, sym, subst, ◌∙◌, arith}
use Rattle.std.specs.Io.KnownBytes.{append_known}
use Rattle.std.proofs.lemmas.Result.{err_from_is_err_and}
use Rattle.outer_io.specs.KnownText.{StopsIn}
use Rattle.outer_io.specs.Sinks.{Spot}
use Rattle.log_theory.specs.declared.profile.Profile.TheVariants.{Plain}
use Rattle.log_theory.specs.declared.step.Step.{Step}
use Rattle.merged_log.specs.Lines.{part_of}
use Rattle.merged_log.specs.Profiles.{text_in}
use Rattle.merged_log.proofs.Putting.{steps-stop, steps-more}
use Rattle.merged_log.proofs.Profiled.{part_split}
use Rattle.merged_log.proofs.parts.put_plain.Goals as goal

pub returns-in_err-put_step-clause-text : goal.returns-in_err-put_step-clause-text
returns-in_err-put_step-clause-text g c =
    let p = err_from_is_err_and c.from_residual.result c.from_residual.ensures.1 in
    let j = c.args.journal.now in
    let i = c.loop-at.at in
    let within = c.loop-at-test.true in
    let least = c.loop-at.invariant.least in
    let whole : (part_of j c.args.from i ++ part_of j i (i + 1)) ++ part_of j (i + 1) c.args.to ≡ part_of j c.args.from c.args.to =
    ap (λ (ss : List Step). ss ++ part_of j (i + 1) c.args.to) (sym (part_split j c.args.from i (i + 1) c.text-text.ensures.names least (omega arith)))
    ∙ sym (part_split j c.args.from (i + 1) c.args.to c.text-text.ensures.names (omega (arith, least)) (omega (arith, within))) in
    rw p.1
    (subst (λ (ss : List Step). StopsIn (g.S.Sink.spot c.args.sink.now).steady (g.S.Sink.contents c.args.sink.now) (g.S.Sink.contents c.put_step.new.sink) (text_in Plain ss)) whole
    (steps-stop Plain _ _ (ap (λ (s : Spot). s.steady) c.loop-at.invariant.same) _ _ _ (part_of j c.args.from i) (part_of j i (i + 1)) (part_of j (i + 1) c.args.to)
    c.loop-at.invariant.text c.in_err-put_step.ensures.text))

pub loop-at-preserved : goal.loop-at-preserved
loop-at-preserved g c =
    let j = c.args.journal.now in
    let i = c.loop-at.at in
    let within = c.loop-at-test.true in
    let low = c.loop-at.invariant.least in
    record {
      least = omega (arith, low);
      most = omega (arith, within);
      text =
          steps-more Plain (g.S.Sink.contents c.args.sink.now) (g.S.Sink.contents c.loop-at.sink) (g.S.Sink.contents c.put_step.new.sink) (part_of j c.args.from i) (part_of j i (i + 1))
          c.loop-at.invariant.text c.in_ok-put_step.ensures.text
          ∙ ap (λ (ss : List Step). append_known (g.S.Sink.contents c.args.sink.now) (text_in Plain ss)) (sym (part_split j c.args.from i (i + 1) c.text-text.ensures.names low (omega arith)));
      same = search rules;
      others = search rules;
      faults = search rules;
    }
