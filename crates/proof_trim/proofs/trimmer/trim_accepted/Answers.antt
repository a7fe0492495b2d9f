use Rattle.std.proofs.Common.{List, length, subst}
use Rattle.log_theory.specs.declared.profile.Profile.{Profile}
use Rattle.log_theory.specs.declared.profile.Profile.TheVariants.{Hinted}
use Rattle.proof_theory.specs.Forms.{Form}
use Rattle.proof_trim.specs.Reading.{IsOpened}
use Rattle.proof_trim.specs.Lined.{IsReplayedText, IsRenewedFrom}
use Rattle.proof_trim.proofs.Accepted.{trimmed_hinted, trimmed_plain}
use Rattle.proof_trim.proofs.trimmer.trim_accepted.Goals as goal

pub returns-in_ok-trim_hinted-in-Hinted : goal.returns-in_ok-trim_hinted-in-Hinted
returns-in_ok-trim_hinted-in-Hinted c =
    let n = c.args.model.now.variables in
    let model = c.args.model.now.constraints in
    let same = c.constraints-constraints.ensures.exact in
    let k = c.in_ok-trim_hinted-in-Hinted.field-0 in
    trimmed_hinted c.code_laws.ensures.mark c.line_laws.ensures.lines n model c.args.log.now c.in-Some.lines.now c.requires.0 k.text.bytes k.made k.kept c.requires.1 c.constraints-constraints.ensures.within.constraints_fit
    (subst (λ (p : Profile). IsOpened p c.args.log.now c.in-Some.lines.now) c.in-Hinted.is c.in-Some.ensures)
    (subst (λ (fs : List Form). IsRenewedFrom (length fs) c.in-Some.lines.now k.text.bytes k.made k.kept) same c.in_ok-trim_hinted-in-Hinted.ensures)

pub returns-in_ok-trim_plain-in-Plain : goal.returns-in_ok-trim_plain-in-Plain
returns-in_ok-trim_plain-in-Plain c =
    let n = c.args.model.now.variables in
    let model = c.args.model.now.constraints in
    let same = c.constraints-constraints.ensures.exact in
    let k = c.in_ok-trim_plain-in-Plain.field-0 in
    let e = c.in_ok-trim_plain-in-Plain.ensures in
    trimmed_plain c.code_laws.ensures.mark c.line_laws.ensures.lines c.line_laws.ensures.no_feed (c.profile_laws.ensures.read Hinted) n model c.args.log.now c.in-Some.lines.now c.requires.0 e.0 k.text.bytes k.made k.kept c.requires.1
    c.constraints-constraints.ensures.within.constraints_fit (subst (λ (p : Profile). IsOpened p c.args.log.now c.in-Some.lines.now) c.in-Plain.is c.in-Some.ensures)
    (subst (λ (fs : List Form). IsReplayedText fs c.in-Some.lines.now e.0) same e.1) (subst (λ (fs : List Form). IsRenewedFrom (length fs) e.0 k.text.bytes k.made k.kept) same e.2)
