-- Worked OPB texts, as the definitions read them.
use Rattle.std.proofs.Common.{◌≡◌, [], ◌∷◌, ◌++◌, Ok, Err, pos, refl}
use lib.Chars.{codes}
use Rattle.log_theory.specs.declared.opb.OpbCause.TheVariants.{Header, Objective, Equality, Product, NoSuchVariable, Wide, Form as Malformed, Count}
use Rattle.proof_theory.specs.Forms.{put, sorted}
use Rattle.log_theory.specs.OpbReading.{opb_answer, later_line, opb_words}

-- A line over two variables, without its constraint's number.
empty_text : opb_answer [] ≡ Err (1, Header)
empty_text = refl

objective : later_line 2 (opb_words (codes "min: +1 x1 ;")) ≡ Err Objective
objective = refl

equality : later_line 2 (opb_words (codes "+1 x1 = 1 ;")) ≡ Err Equality
equality = refl

product : later_line 2 (opb_words (codes "+1 x1 x2 >= 1 ;")) ≡ Err Product
product = refl

no_variable : later_line 2 (opb_words (codes "+1 x3 >= 1 ;")) ≡ Err NoSuchVariable
no_variable = refl

negated_literal : later_line 2 (opb_words (codes "+1 ~x1 >= 1 ;")) ≡ Err Malformed
negated_literal = refl

too_wide : later_line 2 (opb_words (codes "+42535295865117307932921825928971026433 x1 >= 1 ;")) ≡ Err Wide
too_wide = refl

at_the_limit : later_line 2 (opb_words (codes "+42535295865117307932921825928971026432 x1 >= 1 ;")) ≡ Ok (record { terms = (1, pos 42535295865117307932921825928971026432) ∷ []; bound = pos 1 } ∷ [])
unfolding sorted put
at_the_limit = refl

variable_first : later_line 2 (opb_words (codes "x1 >= 1 ;")) ≡ Err Malformed
variable_first = refl

no_variable_first : later_line 2 (opb_words (codes "x5 >= 1 ;")) ≡ Err NoSuchVariable
no_variable_first = refl

no_variable_last : later_line 2 (opb_words (codes "+1 x1 >= 1 ; x0")) ≡ Err NoSuchVariable
no_variable_last = refl

wide_for_a_variable : later_line 2 (opb_words (codes "+1 +42535295865117307932921825928971026433 x1 >= 1 ;")) ≡ Err Wide
wide_for_a_variable = refl

wide_after_the_bound : later_line 2 (opb_words (codes "+1 x1 >= 1 42535295865117307932921825928971026433 ;")) ≡ Err Wide
wide_after_the_bound = refl

wide_and_ended : later_line 2 (opb_words (codes "42535295865117307932921825928971026433; x1 >= 1 ;")) ≡ Err Wide
wide_and_ended = refl

equals_for_a_variable : later_line 2 (opb_words (codes "+1 = 1 ;")) ≡ Err Malformed
equals_for_a_variable = refl

lenient : later_line 2 (opb_words (codes "  x1")) ≡ Err Malformed
lenient = refl

too_few : opb_answer (codes "* #variable= 2 #constraint= 2" ++ 10 ∷ codes "+1 x1 >= 1 ;" ++ 10 ∷ []) ≡ Err (3, Count)
unfolding sorted put
too_few = refl
