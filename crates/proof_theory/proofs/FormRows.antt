-- Worked examples of the rules and of a refutation, as the definitions compute them.
use Rattle.std.proofs.Common.{◌≡◌, true, false, [], ◌∷◌, pos, negsuc, refl}
use Rattle.proof_theory.specs.Forms.{Form, put, sorted}
use Rattle.proof_theory.specs.Rules.{sum_of, times_of, divide_of, saturate_of}
use Rattle.proof_theory.specs.Slack.{refutes, negations, clause_form}

-- +3 x1 -2 x2 >= 1
abbrev first : Form
first = record { terms = (1, pos 3) ∷ (2, negsuc 1) ∷ []; bound = pos 1 }

-- +5 x1 +1 x2 >= 2
abbrev second : Form
second = record { terms = (1, pos 5) ∷ (2, pos 1) ∷ []; bound = pos 2 }

-- +2 x1 -1 x2 >= 1
divided : divide_of 2 first ≡ record { terms = (1, pos 2) ∷ (2, negsuc 0) ∷ []; bound = pos 1 }
divided = refl

-- +2 x1 +1 x2 >= 2
saturated : saturate_of second ≡ record { terms = (1, pos 2) ∷ (2, pos 1) ∷ []; bound = pos 2 }
saturated = refl

-- +9 x1 -6 x2 >= 3
tripled : times_of 3 first ≡ record { terms = (1, pos 9) ∷ (2, negsuc 5) ∷ []; bound = pos 3 }
tripled = refl

-- +8 x1 -1 x2 >= 3
added : sum_of first second ≡ record { terms = (1, pos 8) ∷ (2, negsuc 0) ∷ []; bound = pos 3 }
unfolding sorted put
added = refl

-- +1 x1 >= 1
one : Form
one = record { terms = (1, pos 1) ∷ []; bound = pos 1 }

-- -1 x1 >= 0
none : Form
none = record { terms = (1, negsuc 0) ∷ []; bound = pos 0 }

-- The two forms refute the empty clause; the second alone does not.
both_refute : refutes (negations []) (one ∷ none ∷ []) ≡ true
unfolding one none
both_refute = refl

second_refutes_not : refutes (negations []) (none ∷ []) ≡ false
unfolding none
second_refutes_not = refl

-- The clause x1 or not x2 is +1 x1 -1 x2 >= 0.
clause : clause_form (record { variable = 1; negated = false } ∷ record { variable = 2; negated = true } ∷ []) ≡ record { terms = (1, pos 1) ∷ (2, negsuc 0) ∷ []; bound = pos 0 }
unfolding sorted put
clause = refl
