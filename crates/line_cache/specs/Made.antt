-- What the names of lines that were made say of the forms of a log.

use Rattle.std.specs.Prelude.{◌≡◌, ℕ, List, ◌++◌, Some}
use Rattle.graph_theory.specs.Embedding.{Problem}
use Rattle.proof_theory.specs.Forms.{Form}
use Rattle.log_theory.specs.declared.step.Name.{Name}
use Rattle.log_theory.specs.declared.step.Ref.TheVariants.{Made}
use Rattle.explanation_theory.specs.Reasons.{ForcesFirst}
use Rattle.recorder.specs.Recording.{CountedSet}
use Rattle.log_growth.specs.Frames.{Frame, IsNamed}
use Rattle.log_growth.specs.Rows.{Widens}
use Rattle.log_growth.proofs.Naming.{named_later}
use Rattle.log_growth.proofs.Rows.{named_wider}
use Rattle.domain_lines.specs.Named.{name_at, AreUnits, is_false}
use Rattle.pair_lines.specs.declared.pair_lines.PairLines.{PairLines}
use Rattle.pair_lines.specs.Claims.{Knows}
use Rattle.pair_lines.proofs.Following.{knows_last, knows_wider}
use Rattle.line_cache.specs.Sets.{AreSets, sets_last, sets_wider}

-- Each name is that of a line that forces the first domain of its vertex.
abbrev pub AreFirsts : Problem → Frame → List (ℕ × Name) → List Form → Type 0
AreFirsts q w names forms = (p : ℕ) (n : Name) → name_at names p ≡ Some n
    → (f : Form) × IsNamed w forms (Made n) f × ForcesFirst q f p

-- The names were made for this problem, and each is right.
pub record IsMade (q made_for : Problem) (w : Frame) (units firsts : List (ℕ
    × Name)) (lines : PairLines) (sets : List (CountedSet × Name)) (forms : List Form) : Type 0 where
  pub problem_is : made_for ≡ q
  pub units_are : AreUnits w units forms
  pub firsts_are : AreFirsts q w firsts forms
  pub rows_are : Knows w q lines forms
  pub sets_are : AreSets q w sets forms

-- So it stays as forms are added, and as more is found beside them.
pub made_last : (q made_for : Problem) (w : Frame) (units firsts : List (ℕ
    × Name)) (lines : PairLines) (sets : List (CountedSet × Name)) (forms more : List Form)
    → IsMade q made_for w units firsts lines sets forms
    → IsMade q made_for w units firsts lines sets (forms ++ more)
made_last q made_for w units firsts lines sets forms more h = record {
  problem_is = h.problem_is;
  units_are = λ v n e. named_later w forms more (Made n) (is_false v) (h.units_are v n e);
  firsts_are = λ p n e. let x = h.firsts_are p n e in (
    x.0,
    named_later w forms more
        (Made n) x.0 x.1,
    x.2,
  );
  rows_are = knows_last w q lines forms more h.rows_are;
  sets_are = sets_last q w sets forms more h.sets_are;
}

pub made_wider : (q made_for : Problem) (w v : Frame) (units firsts : List (ℕ
    × Name)) (lines : PairLines) (sets : List (CountedSet × Name)) (forms : List Form)
    → Widens w v → IsMade q made_for w units firsts lines sets forms
    → IsMade q made_for v units firsts lines sets forms
made_wider q made_for w v units firsts lines sets forms wider h = record {
  problem_is = h.problem_is;
  units_are = λ x n e. named_wider w v forms (Made n) (is_false x) wider (h.units_are x n e);
  firsts_are = λ p n e. let x = h.firsts_are p n e in (
    x.0,
    named_wider w v forms
        (Made n) x.0 wider x.1,
    x.2,
  );
  rows_are = knows_wider w v q lines forms wider h.rows_are;
  sets_are = sets_wider q w v sets forms wider h.sets_are;
}
