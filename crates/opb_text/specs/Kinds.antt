-- What the words of a line are, where a number past all that may be written is told as one just past them.
use Rattle.std.specs.Prelude.{ℕ, suc, ◌+◌, ◌^◌, min, List, map, ℤ, pos, negsuc, neg_ℤ}
use Rattle.log_theory.specs.OpbReading.{OpbWord, Number, Ended, Variable, Relation, Equals, Semicolon, Other, word_of, opb_words}
use Rattle.opb_text.specs.declared.word_kinds.Word.{Word}
use Rattle.opb_text.specs.declared.word_kinds.Word.TheVariants as kind

-- A size, or the least one that is too wide.
abbrev pub capped : ℕ → ℕ
capped n = min n (2 ^ 125 + 1)

abbrev pub capped_number : ℤ → ℤ
capped_number (pos n) = pos (capped n)
capped_number (negsuc n) = neg_ℤ (pos (capped (suc n)))

abbrev pub capped_word : OpbWord → OpbWord
capped_word (Number c) = Number (capped_number c)
capped_word (Ended c) = Ended (capped_number c)
capped_word (Variable v) = Variable (capped v)
capped_word Relation = Relation
capped_word Equals = Equals
capped_word Semicolon = Semicolon
capped_word Other = Other

-- What the program's word is.
abbrev pub shown : Word → OpbWord
shown (kind.Number c) = Number c
shown (kind.Ended c) = Ended c
shown (kind.Variable v) = Variable v
shown kind.Relation = Relation
shown kind.Equals = Equals
shown kind.Semicolon = Semicolon
shown kind.Other = Other

-- What the words of a line are.
abbrev pub kinds : List ℕ → List OpbWord
kinds line = map (λ w. capped_word (word_of w)) (opb_words line)
