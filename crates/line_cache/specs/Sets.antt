-- Sets whose lines have names, as a table keeps them, and what they say of the forms of a log.

use Rattle.std.specs.Prelude.{◌≡◌, ℕ, List, [], ◌∷◌, ◌++◌, map, slice_range, ◌⊎◌, Option, Result, Ok, Err}
use Rattle.std.specs.declared.alloc.AllocError.{AllocError}
use Rattle.graph_theory.specs.Embedding.{Problem}
use Rattle.proof_theory.specs.Forms.{Form}
use Rattle.log_theory.specs.declared.step.Name.{Name}
use Rattle.log_theory.specs.declared.step.Ref.TheVariants.{Made}
use Rattle.log_theory.specs.LogText.{IsName}
use Rattle.explanation_theory.specs.Reasons.{set_form}
use Rattle.recorder.specs.declared.change.Place.{Place}
use Rattle.recorder.specs.Recording.{CountedSet, IsIn}
use Rattle.log_growth.specs.Frames.{Frame}
use Rattle.log_growth.specs.Rows.{Widens}
use Rattle.log_growth.proofs.Naming.{named_later}
use Rattle.log_growth.proofs.Rows.{named_wider}
use Rattle.dead_paths.specs.Lines.{IsSetKept}
use Rattle.line_cache.specs.declared.set_names.Seat.{Seat}

-- ---- the table

-- Vertices of a block with their values, and the set at a place.
abbrev pub counted : Option ℕ → List ℕ → List ℕ → CountedSet
counted centre vertices values = record {
  centre = centre;
  vertices = vertices;
  values = values;
}

abbrev pub counted_at : List ℕ → Option ℕ → Place → CountedSet
counted_at numbers centre k = counted centre (slice_range numbers k.start k.middle)
    (slice_range numbers k.middle k.end)

-- The sets with their names.
abbrev pub named_set : List ℕ → Seat → CountedSet × Name
named_set numbers s = (counted_at numbers s.centre s.place, s.name)

abbrev pub named_sets : List ℕ → List Seat → List (CountedSet × Name)
named_sets numbers seats = map (named_set numbers) seats

-- Each stands among the first n numbers, and its name is one that a log can have.
abbrev pub AreSeated : List Seat → ℕ → Type 0
AreSeated [] n = Unit {0}
AreSeated (s ∷ seats) n = (IsIn s.place n × IsName s.name) × AreSeated seats n

-- One set more.
abbrev pub with_set : List (CountedSet × Name) → CountedSet → Name → List (CountedSet × Name)
with_set sets s n = sets ++ (s, n) ∷ []

-- The set is among these, with this name.
abbrev pub HasName : List (CountedSet × Name) → CountedSet → Name → Type 0
HasName [] s n = ⊥
HasName (x ∷ sets) s n = ((x.0 ≡ s) × (x.1 ≡ n)) ⊎ HasName sets s n

-- ---- what it says

-- Each name is that of its set's form.
abbrev pub AreSets : Problem → Frame → List (CountedSet × Name) → List Form → Type 0
AreSets q w sets forms = (s : CountedSet) (n : Name) → HasName sets s n
    → IsSetKept q s.centre s.vertices s.values w (Ok n) forms

-- So they are, and the name that is answered is that of this set's form.
abbrev pub IsKnownSet : Problem → Frame → Option ℕ → List ℕ → List ℕ → List (CountedSet × Name)
    → Result Name AllocError → List Form → Type 0
IsKnownSet q w b vertices values sets (Ok n) forms = AreSets q w sets forms
    × IsSetKept q b vertices values w (Ok n) forms
IsKnownSet q w b vertices values sets (Err e) forms = AreSets q w sets forms

-- So it stays as forms are added, and as more is found beside them.
set_last : (q : Problem) (w : Frame) (b : Option ℕ) (vertices values : List ℕ) (n : Name)
    (forms more : List Form) → IsSetKept q b vertices values w (Ok n) forms
    → IsSetKept q b vertices values w (Ok n) (forms ++ more)
set_last q w b [] values n forms more h = h
set_last q w b (p ∷ rest) values n forms more h = named_later w forms more (Made n)
    (set_form q b p rest values) h

set_wider : (q : Problem) (w v : Frame) (b : Option ℕ) (vertices values : List ℕ) (n : Name)
    (forms : List Form) → Widens w v → IsSetKept q b vertices values w (Ok n) forms
    → IsSetKept q b vertices values v (Ok n) forms
set_wider q w v b [] values n forms wider h = h
set_wider q w v b (p ∷ rest) values n forms wider h = named_wider w v forms (Made n)
    (set_form q b p rest values) wider h

pub sets_last : (q : Problem) (w : Frame) (sets : List (CountedSet
    × Name)) (forms more : List Form) → AreSets q w sets forms → AreSets q w sets (forms ++ more)
sets_last q w sets forms more h = λ s n has. set_last q w s.centre s.vertices s.values n forms
    more (h s n has)

pub sets_wider : (q : Problem) (w v : Frame) (sets : List (CountedSet
    × Name)) (forms : List Form) → Widens w v → AreSets q w sets forms → AreSets q v sets forms
sets_wider q w v sets forms wider h = λ s n has. set_wider q w v s.centre s.vertices s.values n
    forms wider (h s n has)
