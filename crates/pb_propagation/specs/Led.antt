-- What unit propagation has come to on the way from assumptions.
use Rattle.std.specs.Prelude.{◌≡◌, Bool, true, false, List, None}
use Rattle.proof_theory.specs.Forms.{Form}
use Rattle.proof_theory.specs.Slack.{Setting}
use Rattle.proof_theory.specs.Propagation.{IsAmong, Extends, closes}

-- Nothing is assumed.
abbrev pub nothing : Setting
nothing v = None

-- A setting without a conflict has a wider one without a conflict that has all of t.
pub record Widens (u : Setting) (gs : List Form) (t : Setting) : Type 0 where
  pub wide : Setting
  pub from : Extends wide u
  pub has : Extends wide t
  pub calm : closes wide gs ≡ false

-- The assumptions s lead to t over the forms: whoever has s, over these forms and any others, comes to no other conflict by having t too.
pub record Led (s : Setting) (fs : List Form) (t : Setting) : Type 0 where
  pub widens : (gs : List Form) → ((f : Form) → IsAmong f fs → IsAmong f gs) → (u : Setting)
      → Extends u s → closes u gs ≡ false → Widens u gs t

-- The assumptions lead to a conflict, or to t.
abbrev pub Comes : Bool → Setting → List Form → Setting → Type 0
Comes true s fs t = closes s fs ≡ true
Comes false s fs t = Led s fs t
