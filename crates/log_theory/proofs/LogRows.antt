-- Worked logs, as the definitions judge them: verdict, line and cause.
use Rattle.std.proofs.Common.{◌≡◌, ℕ, List, [], ◌∷◌, ◌++◌, pos, negsuc, refl}
use lib.Chars.{codes}
use Rattle.log_theory.specs.declared.step.Cause.TheVariants.{EndsEarly, Form as Malformed, NameUsed, Order, Twice, NoSuchName, Stack, Zero, Wide, NoConflict, NotFalse, NotSolution}
use Rattle.log_theory.specs.declared.step.Verdict.{Verdict}
use Rattle.log_theory.specs.declared.step.Verdict.TheVariants.{Unsatisfiable, Satisfiable, Undecided, Refused}
use Rattle.proof_theory.specs.Forms.{Form, put, sorted}
use Rattle.log_theory.specs.Verdicts.{verdict_of}

-- +1 x1 >= 1 and -1 x1 >= 0
abbrev pub two : List Form
two = record { terms = (1, pos 1) ∷ []; bound = pos 1 } ∷ record { terms = (1, negsuc 0) ∷ []; bound = pos 0 } ∷ []

-- >= 1 and >= -1
abbrev none_at_all : List Form
none_at_all = record { terms = []; bound = pos 1 } ∷ record { terms = []; bound = negsuc 0 } ∷ []

-- Three vertices into two, without an edge.
abbrev three_into_two : List Form
three_into_two = record { terms = (1, pos 1) ∷ (2, pos 1) ∷ []; bound = pos 1 } ∷ record { terms = (1, negsuc 0) ∷ (2, negsuc 0) ∷ []; bound = negsuc 0 } ∷ record { terms = (3, pos 1) ∷ (4, pos 1) ∷ []; bound = pos 1 } ∷ record { terms = (3, negsuc 0) ∷ (4, negsuc 0) ∷ []; bound = negsuc 0 } ∷ record { terms = (5, pos 1) ∷ (6, pos 1) ∷ []; bound = pos 1 } ∷ record { terms = (5, negsuc 0) ∷ (6, negsuc 0) ∷ []; bound = negsuc 0 } ∷ record { terms = (1, negsuc 0) ∷ (3, negsuc 0) ∷ (5, negsuc 0) ∷ []; bound = negsuc 0 } ∷ record { terms = (2, negsuc 0) ∷ (4, negsuc 0) ∷ (6, negsuc 0) ∷ []; bound = negsuc 0 } ∷ []

-- A triangle into a cycle of four.
abbrev pub triangle : List Form
triangle = record { terms = (1, pos 1) ∷ (2, pos 1) ∷ (3, pos 1) ∷ (4, pos 1) ∷ []; bound = pos 1 } ∷ record { terms = (1, negsuc 0) ∷ (2, negsuc 0) ∷ (3, negsuc 0) ∷ (4, negsuc 0) ∷ []; bound = negsuc 0 } ∷ record { terms = (5, pos 1) ∷ (6, pos 1) ∷ (7, pos 1) ∷ (8, pos 1) ∷ []; bound = pos 1 } ∷ record { terms = (5, negsuc 0) ∷ (6, negsuc 0) ∷ (7, negsuc 0) ∷ (8, negsuc 0) ∷ []; bound = negsuc 0 } ∷ record { terms = (9, pos 1) ∷ (10, pos 1) ∷ (11, pos 1) ∷ (12, pos 1) ∷ []; bound = pos 1 } ∷ record { terms = (9, negsuc 0) ∷ (10, negsuc 0) ∷ (11, negsuc 0) ∷ (12, negsuc 0) ∷ []; bound = negsuc 0 } ∷ record { terms = (1, negsuc 0) ∷ (5, negsuc 0) ∷ (9, negsuc 0) ∷ []; bound = negsuc 0 } ∷ record { terms = (2, negsuc 0) ∷ (6, negsuc 0) ∷ (10, negsuc 0) ∷ []; bound = negsuc 0 } ∷ record { terms = (3, negsuc 0) ∷ (7, negsuc 0) ∷ (11, negsuc 0) ∷ []; bound = negsuc 0 } ∷ record { terms = (4, negsuc 0) ∷ (8, negsuc 0) ∷ (12, negsuc 0) ∷ []; bound = negsuc 0 } ∷ record { terms = (1, negsuc 0) ∷ (6, pos 1) ∷ (8, pos 1) ∷ []; bound = pos 0 } ∷ record { terms = (2, negsuc 0) ∷ (5, pos 1) ∷ (7, pos 1) ∷ []; bound = pos 0 } ∷ record { terms = (3, negsuc 0) ∷ (6, pos 1) ∷ (8, pos 1) ∷ []; bound = pos 0 } ∷ record { terms = (4, negsuc 0) ∷ (5, pos 1) ∷ (7, pos 1) ∷ []; bound = pos 0 } ∷ record { terms = (1, negsuc 0) ∷ (10, pos 1) ∷ (12, pos 1) ∷ []; bound = pos 0 } ∷ record { terms = (2, negsuc 0) ∷ (9, pos 1) ∷ (11, pos 1) ∷ []; bound = pos 0 } ∷ record { terms = (3, negsuc 0) ∷ (10, pos 1) ∷ (12, pos 1) ∷ []; bound = pos 0 } ∷ record { terms = (4, negsuc 0) ∷ (9, pos 1) ∷ (11, pos 1) ∷ []; bound = pos 0 } ∷ record { terms = (2, pos 1) ∷ (4, pos 1) ∷ (5, negsuc 0) ∷ []; bound = pos 0 } ∷ record { terms = (1, pos 1) ∷ (3, pos 1) ∷ (6, negsuc 0) ∷ []; bound = pos 0 } ∷ record { terms = (2, pos 1) ∷ (4, pos 1) ∷ (7, negsuc 0) ∷ []; bound = pos 0 } ∷ record { terms = (1, pos 1) ∷ (3, pos 1) ∷ (8, negsuc 0) ∷ []; bound = pos 0 } ∷ record { terms = (5, negsuc 0) ∷ (10, pos 1) ∷ (12, pos 1) ∷ []; bound = pos 0 } ∷ record { terms = (6, negsuc 0) ∷ (9, pos 1) ∷ (11, pos 1) ∷ []; bound = pos 0 } ∷ record { terms = (7, negsuc 0) ∷ (10, pos 1) ∷ (12, pos 1) ∷ []; bound = pos 0 } ∷ record { terms = (8, negsuc 0) ∷ (9, pos 1) ∷ (11, pos 1) ∷ []; bound = pos 0 } ∷ record { terms = (2, pos 1) ∷ (4, pos 1) ∷ (9, negsuc 0) ∷ []; bound = pos 0 } ∷ record { terms = (1, pos 1) ∷ (3, pos 1) ∷ (10, negsuc 0) ∷ []; bound = pos 0 } ∷ record { terms = (2, pos 1) ∷ (4, pos 1) ∷ (11, negsuc 0) ∷ []; bound = pos 0 } ∷ record { terms = (1, pos 1) ∷ (3, pos 1) ∷ (12, negsuc 0) ∷ []; bound = pos 0 } ∷ record { terms = (6, pos 1) ∷ (8, pos 1) ∷ (9, negsuc 0) ∷ []; bound = pos 0 } ∷ record { terms = (5, pos 1) ∷ (7, pos 1) ∷ (10, negsuc 0) ∷ []; bound = pos 0 } ∷ record { terms = (6, pos 1) ∷ (8, pos 1) ∷ (11, negsuc 0) ∷ []; bound = pos 0 } ∷ record { terms = (5, pos 1) ∷ (7, pos 1) ∷ (12, negsuc 0) ∷ []; bound = pos 0 } ∷ []

-- The verdict over the two constraints, of the head and some lines.
abbrev judged : List ℕ → Verdict
judged lines = verdict_of 1 two (codes "embedding proof 1" ++ 10 ∷ codes "m 2" ++ 10 ∷ lines)

no_variables : verdict_of 0 [] (codes "embedding proof 1" ++ 10 ∷ [] ++ codes "m 0" ++ 10 ∷ [] ++ codes "y" ++ 10 ∷ []) ≡ Satisfiable
unfolding sorted put
no_variables = refl

false_model : verdict_of 0 none_at_all (codes "embedding proof 1" ++ 10 ∷ [] ++ codes "m 2" ++ 10 ∷ [] ++ codes "e 1" ++ 10 ∷ []) ≡ Unsatisfiable
unfolding sorted put
false_model = refl

pigeons : verdict_of 6 three_into_two (codes "embedding proof 1" ++ 10 ∷ [] ++ codes "m 8" ++ 10 ∷ [] ++ codes "p 0.1 1 3 + 5 + 7 + 8 + 3 d ;" ++ 10 ∷ [] ++ codes "e 0.1" ++ 10 ∷ []) ≡ Unsatisfiable
unfolding sorted put
pigeons = refl

refuted : judged (codes "u 0.1 ; 1 2 ;" ++ 10 ∷ [] ++ codes "e 0.1" ++ 10 ∷ []) ≡ Unsatisfiable
unfolding sorted put
refuted = refl

not_refuted : judged (codes "u 0.1 ; 2 ;" ++ 10 ∷ []) ≡ Refused 3 NoConflict
unfolding sorted put
not_refuted = refl

undecided : judged (codes "q" ++ 10 ∷ []) ≡ Undecided
unfolding sorted put
undecided = refl

square : judged (codes "p 0.1 1 9223372036854775807 * 9223372036854775807 * ;" ++ 10 ∷ []) ≡ Refused 3 Wide
unfolding sorted put
square = refl

no_name : judged (codes "p 0.1 0.2 ;" ++ 10 ∷ []) ≡ Refused 3 NoSuchName
unfolding sorted put
no_name = refl

used_name : judged (codes "p 0.1 1 ;" ++ 10 ∷ [] ++ codes "p 0.1 2 ;" ++ 10 ∷ []) ≡ Refused 4 NameUsed
unfolding sorted put
used_name = refl

head_alone : judged ([]) ≡ Refused 3 EndsEarly
unfolding sorted put
head_alone = refl

no_owner : judged (codes "p 65.1 1 ;" ++ 10 ∷ []) ≡ Refused 3 Malformed
unfolding sorted put
no_owner = refl

leading_zero : judged (codes "p 0.1 01 ;" ++ 10 ∷ []) ≡ Refused 3 Malformed
unfolding sorted put
leading_zero = refl

large_number : judged (codes "p 0.1 1 9223372036854775808 * ;" ++ 10 ∷ []) ≡ Refused 3 Malformed
unfolding sorted put
large_number = refl

row_of_a_line : judged (codes "n 0 1" ++ 10 ∷ []) ≡ Refused 3 Malformed
unfolding sorted put
row_of_a_line = refl

out_of_order : judged (codes "p 0.2 1 ;" ++ 10 ∷ []) ≡ Refused 3 Order
unfolding sorted put
out_of_order = refl

twice : judged (codes "u 0.1 x1 ~x1 ; 1 ;" ++ 10 ∷ []) ≡ Refused 3 Twice
unfolding sorted put
twice = refl

no_line : judged (codes "p 0.1 3 ;" ++ 10 ∷ []) ≡ Refused 3 NoSuchName
unfolding sorted put
no_line = refl

short_stack : judged (codes "p 0.1 + ;" ++ 10 ∷ []) ≡ Refused 3 Stack
unfolding sorted put
short_stack = refl

long_stack : judged (codes "p 0.1 1 2 ;" ++ 10 ∷ []) ≡ Refused 3 Stack
unfolding sorted put
long_stack = refl

zero_times : judged (codes "p 0.1 0 * ;" ++ 10 ∷ []) ≡ Refused 3 Zero
unfolding sorted put
zero_times = refl

not_false : judged (codes "e 1" ++ 10 ∷ []) ≡ Refused 3 NotFalse
unfolding sorted put
not_false = refl

no_solution : judged (codes "y x1" ++ 10 ∷ []) ≡ Refused 3 NotSolution
unfolding sorted put
no_solution = refl

no_solution_either : judged (codes "y" ++ 10 ∷ []) ≡ Refused 3 NotSolution
unfolding sorted put
no_solution_either = refl

behind_the_end : judged (codes "q" ++ 10 ∷ [] ++ codes "q" ++ 10 ∷ []) ≡ Refused 4 Malformed
unfolding sorted put
behind_the_end = refl

no_variable : judged (codes "u 0.1 x2 ; 1 ;" ++ 10 ∷ []) ≡ Refused 3 Malformed
unfolding sorted put
no_variable = refl

no_axiom_variable : judged (codes "p 0.1 x2 ;" ++ 10 ∷ []) ≡ Refused 3 Malformed
unfolding sorted put
no_axiom_variable = refl

no_operand : judged (codes "p 0.1 * ;" ++ 10 ∷ []) ≡ Refused 3 Malformed
unfolding sorted put
no_operand = refl

times_nothing : judged (codes "p 0.1 2 * ;" ++ 10 ∷ []) ≡ Refused 3 Stack
unfolding sorted put
times_nothing = refl

line_zero : judged (codes "p 0.1 0 ;" ++ 10 ∷ []) ≡ Refused 3 NoSuchName
unfolding sorted put
line_zero = refl

second_blank : judged (codes "u 0.1  ; 1 2 ;" ++ 10 ∷ []) ≡ Refused 3 Malformed
unfolding sorted put
second_blank = refl

rows_rise : judged (codes "p 0.1 1 ;" ++ 10 ∷ [] ++ codes "n 1 0.1" ++ 10 ∷ [] ++ codes "n 0 0.1" ++ 10 ∷ []) ≡ Refused 5 Order
unfolding sorted put
rows_rise = refl

row_used : judged (codes "p 0.1 1 ;" ++ 10 ∷ [] ++ codes "n 1 0.1" ++ 10 ∷ [] ++ codes "n 1 0.1" ++ 10 ∷ []) ≡ Refused 5 NameUsed
unfolding sorted put
row_used = refl

by_a_row : judged (codes "p 3.1 1 2 + ;" ++ 10 ∷ [] ++ codes "n 5 3.1" ++ 10 ∷ [] ++ codes "e #5" ++ 10 ∷ []) ≡ Unsatisfiable
unfolding sorted put
by_a_row = refl

axioms : judged (codes "p 0.1 x1 ~x1 + 1 2 + + ;" ++ 10 ∷ [] ++ codes "q" ++ 10 ∷ []) ≡ Undecided
unfolding sorted put
axioms = refl

without_feed : judged (codes "q") ≡ Refused 3 EndsEarly
unfolding sorted put
without_feed = refl

behind_without_feed : judged (codes "q" ++ 10 ∷ codes "q") ≡ Refused 4 Malformed
unfolding sorted put
behind_without_feed = refl

other_count : verdict_of 1 two (codes "embedding proof 1" ++ 10 ∷ [] ++ codes "m 3" ++ 10 ∷ []) ≡ Refused 2 Malformed
unfolding sorted put
other_count = refl

empty_log : verdict_of 1 two [] ≡ Refused 1 EndsEarly
unfolding sorted put
empty_log = refl

-- A name that was deleted names nothing.
deleted : judged (codes "p 0.1 1 ;" ++ 10 ∷ [] ++ codes "d 0.1" ++ 10 ∷ [] ++ codes "p 0.2 0.1 ;" ++ 10 ∷ []) ≡ Refused 5 NoSuchName
unfolding sorted put
deleted = refl

deleted_twice : judged (codes "p 0.1 1 ;" ++ 10 ∷ [] ++ codes "d 0.1" ++ 10 ∷ [] ++ codes "d 0.1" ++ 10 ∷ []) ≡ Refused 5 NoSuchName
unfolding sorted put
deleted_twice = refl

deleted_before : judged (codes "d 0.1" ++ 10 ∷ []) ≡ Refused 3 NoSuchName
unfolding sorted put
deleted_before = refl

-- A model's constraint is not deleted.
deleted_line : judged (codes "d 1" ++ 10 ∷ []) ≡ Refused 3 Malformed
unfolding sorted put
deleted_line = refl

deleted_two : judged (codes "p 0.1 1 ;" ++ 10 ∷ [] ++ codes "p 0.2 1 ;" ++ 10 ∷ [] ++ codes "d 0.1 0.2" ++ 10 ∷ []) ≡ Refused 5 Malformed
unfolding sorted put
deleted_two = refl

-- A deleted name counts as used.
deleted_is_used : judged (codes "p 0.1 1 ;" ++ 10 ∷ [] ++ codes "d 0.1" ++ 10 ∷ [] ++ codes "p 0.1 1 ;" ++ 10 ∷ []) ≡ Refused 5 NameUsed
unfolding sorted put
deleted_is_used = refl

next_after_deleted : judged (codes "p 0.1 1 ;" ++ 10 ∷ [] ++ codes "d 0.1" ++ 10 ∷ [] ++ codes "p 0.2 1 2 + ;" ++ 10 ∷ [] ++ codes "e 0.2" ++ 10 ∷ []) ≡ Unsatisfiable
unfolding sorted put
next_after_deleted = refl

-- A row goes on naming its form where the form's name is deleted.
row_stands : judged (codes "p 0.1 1 2 + ;" ++ 10 ∷ [] ++ codes "n 5 0.1" ++ 10 ∷ [] ++ codes "d 0.1" ++ 10 ∷ [] ++ codes "e #5" ++ 10 ∷ []) ≡ Unsatisfiable
unfolding sorted put
row_stands = refl

deleted_row : judged (codes "p 0.1 1 2 + ;" ++ 10 ∷ [] ++ codes "n 5 0.1" ++ 10 ∷ [] ++ codes "d #5" ++ 10 ∷ [] ++ codes "e #5" ++ 10 ∷ []) ≡ Refused 6 NoSuchName
unfolding sorted put
deleted_row = refl

name_stands : judged (codes "p 0.1 1 2 + ;" ++ 10 ∷ [] ++ codes "n 5 0.1" ++ 10 ∷ [] ++ codes "d #5" ++ 10 ∷ [] ++ codes "e 0.1" ++ 10 ∷ []) ≡ Unsatisfiable
unfolding sorted put
name_stands = refl

-- A deleted row counts as used.
deleted_row_is_used : judged (codes "p 0.1 1 ;" ++ 10 ∷ [] ++ codes "n 5 0.1" ++ 10 ∷ [] ++ codes "d #5" ++ 10 ∷ [] ++ codes "n 5 0.1" ++ 10 ∷ []) ≡ Refused 6 NameUsed
unfolding sorted put
deleted_row_is_used = refl

deleted_row_in_order : judged (codes "p 0.1 1 ;" ++ 10 ∷ [] ++ codes "n 5 0.1" ++ 10 ∷ [] ++ codes "d #5" ++ 10 ∷ [] ++ codes "n 4 0.1" ++ 10 ∷ []) ≡ Refused 6 Order
unfolding sorted put
deleted_row_in_order = refl

-- The whole log of a triangle into a cycle of four.
triangle_refuted : verdict_of 12 triangle (codes "embedding proof 1" ++ 10 ∷ [] ++ codes "m 34" ++ 10 ∷ [] ++ codes "p 0.1 15 24 + 6 + ;" ++ 10 ∷ [] ++ codes "p 0.2 15 26 + 6 + ;" ++ 10 ∷ [] ++ codes "u 0.3 ~x1 ; 0.1 0.2 11 ;" ++ 10 ∷ [] ++ codes "p 0.4 16 23 + 6 + ;" ++ 10 ∷ [] ++ codes "p 0.5 16 25 + 6 + ;" ++ 10 ∷ [] ++ codes "u 0.6 ~x2 ; 0.4 0.5 12 ;" ++ 10 ∷ [] ++ codes "p 0.7 17 24 + 6 + ;" ++ 10 ∷ [] ++ codes "p 0.8 17 26 + 6 + ;" ++ 10 ∷ [] ++ codes "u 0.9 ~x3 ; 0.7 0.8 13 ;" ++ 10 ∷ [] ++ codes "p 0.10 18 23 + 6 + ;" ++ 10 ∷ [] ++ codes "p 0.11 18 25 + 6 + ;" ++ 10 ∷ [] ++ codes "u 0.12 ~x4 ; 0.10 0.11 14 ;" ++ 10 ∷ [] ++ codes "u 0.13 ; 0.3 0.6 0.9 0.12 1 ;" ++ 10 ∷ [] ++ codes "e 0.13" ++ 10 ∷ []) ≡ Unsatisfiable
unfolding sorted put
triangle_refuted = refl
