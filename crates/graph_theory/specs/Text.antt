-- The words of a text, and the numbers that words write.

use Rattle.std.specs.Prelude.{ℕ, ◌^◌, ◌==◌, nat_lt, Bool, ◌&&◌, ◌||◌, if◌then◌else◌, List, length, Option, Some, None}
use Rattle.std.specs.Str.{all_ascii_digits}
use Rattle.std.specs.Str.Parse.{digits_value}
use Rattle.byte_words.specs.Words.{words_between}

-- The blanks are space, tab, carriage return and line feed.
abbrev pub is_blank : ℕ → Bool
is_blank b = b == 32 || (b == 9 || (b == 13 || b == 10))

-- The words of a text are its maximal runs of bytes that are no blanks.
abbrev pub words : List ℕ → List (List ℕ)
words = words_between is_blank

-- A word writes a number where it is one or more decimal digits with a value below 2^32; leading zeros count for nothing.
abbrev pub number_of : List ℕ → Option ℕ
number_of w = if nat_lt 0 (length w) && (all_ascii_digits w
    && nat_lt (digits_value 10 w) (2 ^ 32)) then Some (digits_value 10 w) else None
