-- The two levels of literals that are true: those of the root, which last, and with them a line's own.
use Rattle.std.specs.Prelude.{◌≡◌, ◌⊎◌, ℕ, ◌≤◌, ℤ, ◌<ℤ◌, pos, unsigned_abs, Bool, false, cond, ◌==◌, List, length, get_or, Option, Some, None}
use Rattle.proof_theory.specs.Slack.{Setting, wanted}
use Rattle.pb_propagation.specs.declared.levels.Mark.{Mark}

-- A variable that was never set: its stamp is that of no line, and not the root's.
abbrev pub unset : Mark
unset = record { stamp = 1; value = false }

-- A variable's value at the root, whose stamp is 0.
abbrev pub root_of : Mark → Option Bool
root_of m = cond (m.stamp == 0) (Some m.value) None

-- A variable's value for a line: that of the root, or the line's own.
abbrev pub now_of : ℕ → Mark → Option Bool
now_of line m = cond (m.stamp == 0) (Some m.value) (cond (m.stamp == line) (Some m.value) None)

-- The mark of each variable, the number of the line, and whether what is set next lasts.
pub record TwoLevels : Type 0 where
  pub marks : List Mark
  pub line : ℕ
  pub at_root : Bool

-- What lasts.
abbrev pub root : TwoLevels → Setting
root l v = root_of (get_or l.marks v unset)

-- What is true now.
abbrev pub now : TwoLevels → Setting
now l v = now_of l.line (get_or l.marks v unset)

-- No mark has the stamp of a later line.
pub record AreStamped (line : ℕ) (marks : List Mark) : Type 0 where
  pub later : 2 ≤ line
  pub stamps : (v : ℕ) → (get_or marks v unset).stamp ≤ line

-- The same variables on the same level; where that is a line's own, the root stays as it was.
pub record Keeps (a b : TwoLevels) : Type 0 where
  pub long : length b.marks ≡ length a.marks
  pub level : b.at_root ≡ a.at_root
  pub lasts : a.at_root ≡ false → (v : ℕ) → root b v ≡ root a v

-- The variable was unset, and now it has the value.
pub record SetTo (s : Setting) (w : ℕ) (b : Bool) (t : Setting) : Type 0 where
  pub was : s w ≡ None
  pub is : (v : ℕ) → t v ≡ cond (w == v) (Some b) (s v)

-- The literal of a term was set, since its variable was unset and its coefficient exceeds the slack; or nothing was.
abbrev pub MaySet : Setting → ℤ → ℕ → ℤ → Setting → Type 0
MaySet s k v c t = ((w : ℕ) → t w ≡ s w) ⊎ (SetTo s v (wanted c) t × (k <ℤ pos (unsigned_abs c)))
