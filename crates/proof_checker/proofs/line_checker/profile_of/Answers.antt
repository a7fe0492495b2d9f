use Rattle.std.proofs.Common.{◌≡◌, ℕ, Bool, false, cond, List, Option, Some, None, ap, sym, ◌∙◌}
use Rattle.log_theory.specs.declared.profile.Profile.{Profile}
use Rattle.log_theory.specs.declared.profile.Profile.TheVariants.{Hinted, Plain}
use Rattle.log_theory.specs.Words.{same_word}
use Rattle.log_theory.specs.Profiles.{head_of, profile_of}
use Rattle.proof_checker.proofs.line_checker.profile_of.Goals as goal

-- A line that is neither first line tells no profile.
neither : (line : List ℕ) → same_word line (head_of Hinted) ≡ false → same_word line (head_of Plain) ≡ false → None ≡ profile_of line
neither line h p =
    sym (ap (λ (x : Bool). let o : Option Profile = cond x (Some Hinted) (cond (same_word line (head_of Plain)) (Some Plain) None) in o) h
    ∙ ap (λ (x : Bool). let o : Option Profile = cond x (Some Plain) None in o) p)

pub returns : goal.returns
returns c = neither c.args.line.now (sym c.is_line-hinted.ensures ∙ c.if-hinted.false) (sym c.is_line-plain.ensures ∙ c.if-plain.false)
