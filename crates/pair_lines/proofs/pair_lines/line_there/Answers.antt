use Rattle.std.proofs.Common.{◌∙◌, sym, subst}
use Rattle.log_theory.specs.declared.step.Ref.{Ref}
use Rattle.log_theory.specs.LogText.{IsRef}
use Rattle.pair_lines.specs.declared.sharing.Asked.{Asked}
use Rattle.pair_lines.specs.declared.sharing.Asked.TheVariants.{Out}
use Rattle.pair_lines.specs.declared.sharing.Sharing.{Sharing}
use Rattle.pair_lines.specs.Choices.{IsAsked}
use Rattle.pair_lines.proofs.Good.{good_served}
use Rattle.pair_lines.proofs.pair_lines.line_there.Goals as goal

pub returns-else-is_paired-clause-there : goal.returns-else-is_paired-clause-there
returns-else-is_paired-clause-there c = record {
  meeting = c.meeting_of-meeting.result;
  is_so = c.meeting_of-meeting.ensures;
  line = c.alone.ensures;
  asked = subst (λ (s : Sharing). IsAsked c.args.known.now c.args.pair.p c.args.pair.r (Out s)) c.in-Nothing.is (subst (λ (a : Asked). IsAsked c.args.known.now c.args.pair.p c.args.pair.r a) c.in-Out.is c.requires.asked);
  unpaired = sym c.is_paired.ensures ∙ c.if-is_paired.false;
}

pub returns-else-is_paired-clause-fits : goal.returns-else-is_paired-clause-fits
returns-else-is_paired-clause-fits c =
    subst (λ (x : Ref). IsRef x) (sym c.alone.ensures) (good_served c.args.known.now c.in_limits.ensures c.meeting_of-meeting.result c.args.pair.p c.args.pair.t c.args.pair.r c.meeting_of-meeting.ensures c.requires.placed.place c.requires.placed.second)
