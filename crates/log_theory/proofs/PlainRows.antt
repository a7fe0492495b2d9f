-- Worked logs without hints, as the definitions judge them.
use Rattle.std.proofs.Common.{◌≡◌, ℕ, List, [], ◌∷◌, ◌++◌, pos, negsuc, refl}
use lib.Chars.{codes}
use Rattle.log_theory.specs.declared.step.Cause.TheVariants.{EndsEarly, Form as Malformed, NameUsed, Order, Twice, NoSuchName, NoConflict}
use Rattle.log_theory.specs.declared.step.Verdict.{Verdict}
use Rattle.log_theory.specs.declared.step.Verdict.TheVariants.{Unsatisfiable, Undecided, Refused}
use Rattle.proof_theory.specs.Forms.{Form, put, sorted}
use Rattle.log_theory.specs.Verdicts.{verdict_of}
use Rattle.log_theory.specs.Profiles.{dropped_log}
use Rattle.log_theory.proofs.LogRows.{two, triangle}

-- +1 x1 +1 x2 >= 1 and +1 x1 -1 x2 >= 0
abbrev open_two : List Form
open_two = record { terms = (1, pos 1) ∷ (2, pos 1) ∷ []; bound = pos 1 } ∷ record { terms = (1, pos 1) ∷ (2, negsuc 0) ∷ []; bound = pos 0 } ∷ []

-- The verdict of the head and some lines.
abbrev judged : List ℕ → Verdict
judged lines = verdict_of 1 two (codes "embedding proof 2" ++ 10 ∷ codes "m 2" ++ 10 ∷ lines)

abbrev judged_open : List ℕ → Verdict
judged_open lines = verdict_of 2 open_two (codes "embedding proof 2" ++ 10 ∷ codes "m 2" ++ 10 ∷ lines)

refuted : judged (codes "u 0.1 ;" ++ 10 ∷ [] ++ codes "e 0.1" ++ 10 ∷ []) ≡ Unsatisfiable
unfolding sorted put
refuted = refl

-- A line with hints is no line of a log without them, nor is one with an empty list of hints.
hinted : judged (codes "u 0.1 ; 2 ;" ++ 10 ∷ []) ≡ Refused 3 Malformed
hinted = refl

hints_of_none : judged (codes "u 0.1 ; ;" ++ 10 ∷ []) ≡ Refused 3 Malformed
hints_of_none = refl

-- And a line without hints is none of a log with them.
not_hinted : verdict_of 1 two (codes "embedding proof 1" ++ 10 ∷ codes "m 2" ++ 10 ∷ codes "u 0.1 ;" ++ 10 ∷ []) ≡ Refused 3 Malformed
not_hinted = refl

no_conflict : judged_open (codes "u 0.1 ;" ++ 10 ∷ []) ≡ Refused 3 NoConflict
unfolding sorted put
no_conflict = refl

closed : judged_open (codes "u 0.1 x1 ;" ++ 10 ∷ [] ++ codes "q" ++ 10 ∷ []) ≡ Undecided
unfolding sorted put
closed = refl

-- What a line made serves the next ones.
by_what_was_made : judged_open (codes "u 0.1 x1 ;" ++ 10 ∷ [] ++ codes "u 0.2 x1 ~x2 ;" ++ 10 ∷ [] ++ codes "q" ++ 10 ∷ []) ≡ Undecided
unfolding sorted put
by_what_was_made = refl

name_used : judged (codes "u 0.1 ;" ++ 10 ∷ [] ++ codes "u 0.1 ;" ++ 10 ∷ []) ≡ Refused 4 NameUsed
unfolding sorted put
name_used = refl

out_of_order : judged (codes "u 0.2 ;" ++ 10 ∷ []) ≡ Refused 3 Order
out_of_order = refl

twice : judged (codes "u 0.1 x1 ~x1 ;" ++ 10 ∷ []) ≡ Refused 3 Twice
twice = refl

no_variable : judged (codes "u 0.1 x2 ;" ++ 10 ∷ []) ≡ Refused 3 Malformed
no_variable = refl

-- A deleted constraint no longer propagates, but one that a row still names does.
deleted : judged (codes "u 0.1 ;" ++ 10 ∷ [] ++ codes "d 0.1" ++ 10 ∷ [] ++ codes "e 0.1" ++ 10 ∷ []) ≡ Refused 5 NoSuchName
unfolding sorted put
deleted = refl

deleted_row : judged (codes "u 0.1 ;" ++ 10 ∷ [] ++ codes "n 0 0.1" ++ 10 ∷ [] ++ codes "d 0.1" ++ 10 ∷ [] ++ codes "e #0" ++ 10 ∷ []) ≡ Unsatisfiable
unfolding sorted put
deleted_row = refl

-- +1 x1 +1 x2 >= 1, +1 x1 -1 x2 >= 0, -1 x1 +1 x2 >= 0 and -1 x1 -1 x2 >= -1: no propagation alone refutes them.
abbrev crossed : List Form
crossed = record { terms = (1, pos 1) ∷ (2, pos 1) ∷ []; bound = pos 1 } ∷ record { terms = (1, pos 1) ∷ (2, negsuc 0) ∷ []; bound = pos 0 } ∷ record { terms = (1, negsuc 0) ∷ (2, pos 1) ∷ []; bound = pos 0 } ∷ record { terms = (1, negsuc 0) ∷ (2, negsuc 0) ∷ []; bound = negsuc 0 } ∷ []

abbrev judged_crossed : List ℕ → Verdict
judged_crossed lines = verdict_of 2 crossed (codes "embedding proof 2" ++ 10 ∷ codes "m 4" ++ 10 ∷ codes "u 0.1 x1 ;" ++ 10 ∷ lines)

stands : judged_crossed (codes "u 0.2 ;" ++ 10 ∷ [] ++ codes "e 0.2" ++ 10 ∷ []) ≡ Unsatisfiable
unfolding sorted put
stands = refl

propagates_no_more : judged_crossed (codes "d 0.1" ++ 10 ∷ [] ++ codes "u 0.2 ;" ++ 10 ∷ []) ≡ Refused 5 NoConflict
unfolding sorted put
propagates_no_more = refl

propagates_by_row : judged_crossed (codes "n 0 0.1" ++ 10 ∷ [] ++ codes "d 0.1" ++ 10 ∷ [] ++ codes "u 0.2 ;" ++ 10 ∷ []) ≡ Refused 7 EndsEarly
unfolding sorted put
propagates_by_row = refl

propagates_by_no_row : judged_crossed (codes "n 0 0.1" ++ 10 ∷ [] ++ codes "d 0.1" ++ 10 ∷ [] ++ codes "d #0" ++ 10 ∷ [] ++ codes "u 0.2 ;" ++ 10 ∷ []) ≡ Refused 7 NoConflict
unfolding sorted put
propagates_by_no_row = refl

no_third_profile : verdict_of 1 two (codes "embedding proof 3" ++ 10 ∷ codes "m 2" ++ 10 ∷ []) ≡ Refused 1 Malformed
no_third_profile = refl

-- The profile is told by the first line alone.
second_head : judged (codes "embedding proof 2" ++ 10 ∷ []) ≡ Refused 3 Malformed
second_head = refl

head_alone : judged [] ≡ Refused 3 EndsEarly
head_alone = refl

-- Two lines of a log with hints, its hints dropped.
dropped : dropped_log (codes "embedding proof 1" ++ 10 ∷ codes "m 2" ++ 10 ∷ codes "u 0.1 ; 1 2 ;" ++ 10 ∷ codes "e 0.1" ++ 10 ∷ []) ≡ codes "embedding proof 2" ++ 10 ∷ codes "m 2" ++ 10 ∷ codes "u 0.1 ;" ++ 10 ∷ codes "e 0.1" ++ 10 ∷ []
dropped = refl

-- The whole log of a triangle into a cycle of four.
triangle_refuted : verdict_of 12 triangle (codes "embedding proof 2" ++ 10 ∷ [] ++ codes "m 34" ++ 10 ∷ [] ++ codes "p 0.1 15 24 + 6 + ;" ++ 10 ∷ [] ++ codes "p 0.2 15 26 + 6 + ;" ++ 10 ∷ [] ++ codes "u 0.3 ~x1 ;" ++ 10 ∷ [] ++ codes "p 0.4 16 23 + 6 + ;" ++ 10 ∷ [] ++ codes "p 0.5 16 25 + 6 + ;" ++ 10 ∷ [] ++ codes "u 0.6 ~x2 ;" ++ 10 ∷ [] ++ codes "p 0.7 17 24 + 6 + ;" ++ 10 ∷ [] ++ codes "p 0.8 17 26 + 6 + ;" ++ 10 ∷ [] ++ codes "u 0.9 ~x3 ;" ++ 10 ∷ [] ++ codes "p 0.10 18 23 + 6 + ;" ++ 10 ∷ [] ++ codes "p 0.11 18 25 + 6 + ;" ++ 10 ∷ [] ++ codes "u 0.12 ~x4 ;" ++ 10 ∷ [] ++ codes "u 0.13 ;" ++ 10 ∷ [] ++ codes "e 0.13" ++ 10 ∷ []) ≡ Unsatisfiable
unfolding sorted put
triangle_refuted = refl
