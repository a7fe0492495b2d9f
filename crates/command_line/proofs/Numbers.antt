-- What a parsed word says of the number that it writes.

use Rattle.std.proofs.Common.{◌≡◌, ◌&&◌, [], ◌∷◌, refl, ap, ℕ, ◌<◌, ◌^◌, true, List, None, Result, Err, arith}
use Rattle.std.specs.List.{list_all}
use Rattle.std.specs.Char.{is_ascii_digit}
use Rattle.std.specs.Str.{all_ascii_digits}
use Rattle.std.specs.Str.Parse.{ParsesUnsigned}
use Rattle.std.proofs.lemmas.Grind.{common_steps}
use Rattle.std.proofs.lemmas.Str.Parse.{parse_digits, numerals_by_value, tells_all_ascii_digits}
use Rattle.command_line.specs.Words.{number_within}

-- a text is of digits where each byte is one
pub each_digit : (bs : List ℕ) → list_all is_ascii_digit bs ≡ all_ascii_digits bs
each_digit [] = refl
each_digit (b ∷ bs) = ap (λ rest. is_ascii_digit b && rest) (each_digit bs)

-- a text that is not parsed writes no number below 2^64
pub not_parsed : (least most : ℕ) (bs : List ℕ) (E : Type 0) (r : Result ℕ E) (e : E) → most < 2 ^ 64 → all_ascii_digits bs ≡ true → ParsesUnsigned 64 10 bs r → r ≡ Err e
    → number_within least most bs ≡ None
not_parsed least most bs E r e few digits parses is =
    let fact = parse_digits (numerals_by_value _ tells_all_ascii_digits) 64 bs r parses digits in
    let here = rw is at fact in
    grind (arith, common_steps)
