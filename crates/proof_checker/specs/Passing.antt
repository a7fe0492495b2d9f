-- What a pass of unit propagation over forms has done.
use Rattle.std.specs.Prelude.{◌≡◌, Bool, true, false, List}
use Rattle.proof_theory.specs.Forms.{Form, Rises}
use Rattle.proof_theory.specs.Slack.{Setting, conflict, after}
use Rattle.proof_theory.specs.Propagation.{IsAmong, Extends, closes}

-- Under some setting on the way the form was no conflict, and all that it forced there is true at the end.
pub record Taken (s : Setting) (f : Form) (t : Setting) : Type 0 where
  pub under : Setting
  pub from : Extends under s
  pub calm : conflict under f ≡ false
  pub to : Extends t (after under f)
  pub rises : Rises 0 f.terms

-- Each form was taken; over these forms and any others propagation comes to what it came to before.
pub record PassedOver (s : Setting) (fs : List Form) (t : Setting) : Type 0 where
  pub wider : Extends t s
  pub same : (gs : List Form) → ((f : Form) → IsAmong f fs → IsAmong f gs)
      → closes t gs ≡ closes s gs
  pub taken : (f : Form) → IsAmong f fs → Taken s f t

-- Propagation over the forms comes to a conflict, or each was taken.
abbrev pub Passed : Bool → Setting → List Form → Setting → Type 0
Passed true s fs t = (gs : List Form) → ((f : Form) → IsAmong f fs → IsAmong f gs)
    → closes s gs ≡ true
Passed false s fs t = PassedOver s fs t
