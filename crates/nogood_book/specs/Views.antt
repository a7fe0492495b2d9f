-- What the seats of a book know, and the rule that each step on its words keeps. All of it is said of the running words: the list of
-- rows is what they say.

use Rattle.std.specs.Prelude.{◌≡◌, ℕ, ◌⊎◌, true, false, if◌then◌else◌, nat_le, List, [], ◌∷◌, ◌++◌, length}
use mathlib.Core.Option.{some}
use lib.ListN.{get_elem?}
use Rattle.atomic_table.specs.Table.{State}
use Rattle.graph_theory.specs.Embedding.{Problem, injective_problem}
use Rattle.nogood_book.specs.declared.row.Row.{Row}
use Rattle.nogood_book.specs.declared.view.View.{View}
use Rattle.nogood_book.specs.Rows.{Sound}
use Rattle.nogood_book.specs.Places.{StartsWith, places}
use Rattle.nogood_book.specs.Words.{Cells}

-- An owner with the places of its rows.
abbrev pub Part : Type 0
Part = ℕ × List ℕ

-- The owners that a view answers for: its own, and those whose seats were gathered. A spent view answers for none.
abbrev pub parts : View → List Part
parts v = if v.spent then [] else (v.owner, v.mine) ∷ v.gathered

-- The places of each owner are its rows' in this list.
abbrev pub Told : List Row → List Part → Type 0
Told rows [] = Unit {0}
Told rows (p ∷ ps) = (places p.0 rows ≡ p.1) × Told rows ps

abbrev pub HasPart : ℕ → List Part → Type 0
HasPart o [] = ⊥
HasPart o (p ∷ ps) = (p.0 ≡ o) ⊎ HasPart o ps

abbrev pub HasNumber : ℕ → List ℕ → Type 0
HasNumber o [] = ⊥
HasNumber o (n ∷ ns) = (n ≡ o) ⊎ HasNumber o ns

-- Each row's owner was made.
abbrev pub Owned : List ℕ → List Row → Type 0
Owned made [] = Unit {0}
Owned made (r ∷ rs) = HasNumber r.owner made × Owned made rs

abbrev pub AllMade : List ℕ → List Part → Type 0
AllMade made [] = Unit {0}
AllMade made (p ∷ ps) = HasNumber p.0 made × AllMade made ps

-- No owner stands twice.
abbrev pub Apart : List Part → Type 0
Apart [] = Unit {0}
Apart (p ∷ ps) = (HasPart p.0 ps → ⊥) × Apart ps

-- What the view of seat i knows is so of the rows: what was seen is how they begin, and the places of each owner that it answers for
-- are all of its rows and lie within what was seen. The first seat knows the owners made. (What else a join has to find out: `other`
-- is a beginning too.)
pub record Knows (q : Problem) (rows : List Row) (made : List ℕ) (i : ℕ) (v : View) : Type 0 where
  pub problem : v.spent ≡ false → v.problem ≡ q
  pub seen : StartsWith rows v.seen
  pub other : StartsWith rows v.other
  pub told : Told v.seen (parts v)
  pub all_told : Told rows (parts v)
  pub apart : Apart (parts v)
  pub all_made : AllMade made (parts v)
  pub first : v.first ≡ true → (i ≡ 0) × (v.made ≡ made)

-- The rule: the words say rows, which are sound; each is of an owner made; what each view knows is so; and each owner made is
-- answered for by exactly one view. Word 0 says nothing, so that a book of no rows has a word too.
pub record IsBook (q : Problem) (most : ℕ) (words : List ℕ) (views : List View) : Type 0 where
  pub rows : List Row
  pub cells : List ℕ
  pub made : List ℕ
  pub words_are : words ≡ 0 ∷ cells
  pub size : length cells ≡ most
  pub filled : Cells cells rows
  pub sound : Sound q rows
  pub owned : Owned made rows
  pub each : (i : ℕ) (v : View) → get_elem? views i ≡ some v → Knows q rows made i v
  pub alone : (i j : ℕ) (v w : View) (o : ℕ) → get_elem? views i ≡ some v
      → get_elem? views j ≡ some w
      → HasPart o (parts v) → HasPart o (parts w) → i ≡ j
  pub somewhere : (o : ℕ) → HasNumber o made
      → (i : ℕ) × (v : View) × (get_elem? views i ≡ some v) × HasPart o (parts v)

abbrev pub Rule : Problem → ℕ → State ℕ View → Type 0
Rule q most s = IsBook q most s.words s.views

-- ---- the views that steps leave

-- The first seat, of owner 0.
abbrev pub first_view : Problem → View
first_view q = record {
  problem = q;
  first = true;
  spent = false;
  owner = 0;
  seen = [];
  mine = [];
  gathered = [];
  made = 0 ∷ [];
  looks = [];
  other = [];
}

-- A row that was there.
abbrev pub sees : View → Row → View
sees v r = record v { seen = v.seen ++ r ∷ [] }

-- A look that found the next word unused.
abbrev pub looked : View → View
looked v = record v { looks = v.looks ++ length v.seen ∷ [] }

-- A row of one's own.
abbrev pub added : View → Row → View
added v r = record v { seen = v.seen ++ r ∷ []; mine = v.mine ++ length v.seen ∷ [] }

-- The first seat once it has made an owner.
abbrev pub maker : ℕ → View → View
maker o v = record v { made = o ∷ v.made }

-- The seat of that owner.
abbrev pub newcomer : ℕ → View → View
newcomer o v = record {
  problem = v.problem;
  first = false;
  spent = false;
  owner = o;
  seen = v.seen;
  mine = [];
  gathered = [];
  made = [];
  looks = [];
  other = [];
}

abbrev pub longer : List Row → List Row → List Row
longer xs ys = if nat_le (length xs) (length ys) then ys else xs

abbrev pub shorter : List Row → List Row → List Row
shorter xs ys = if nat_le (length xs) (length ys) then xs else ys

-- The seat that took in another.
abbrev pub gathers : View → View → View
gathers v w = record v {
  seen = longer v.seen w.seen;
  other = shorter v.seen w.seen;
  gathered =
      v.gathered ++ parts w;
}

-- The problem of a seat that is spent.
abbrev pub no_problem : Problem
no_problem = injective_problem (record { labels = []; rows = [] }) (record {
  labels = [];
  rows = [];
}) false

-- What is left of a seat that was taken in.
abbrev pub nobody : View
nobody = record {
  problem = no_problem;
  first = false;
  spent = true;
  owner = 0;
  seen = [];
  mine = [];
  gathered = [];
  made = [];
  looks = [];
  other = [];
}
