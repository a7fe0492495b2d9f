-- What single words stand for: names of files, numbers, formats and kinds of maps.

use Rattle.std.specs.Prelude.{ℕ, ◌==◌, ◌&&◌, nat_lt, nat_le, if◌then◌else◌, List, length, Option, Some, None, option_map, codes}
use Rattle.std.specs.Str.{all_ascii_digits, bytes_eq}
use Rattle.std.specs.Str.Parse.{digits_value}
use Rattle.log_theory.specs.declared.profile.Profile.{Profile}
use Rattle.log_theory.specs.declared.profile.Profile.TheVariants.{Hinted, Plain}
use Rattle.graph_theory.specs.declared.embedding.Maps.{Maps}
use Rattle.graph_theory.specs.declared.embedding.Maps.TheVariants.{Injective, Local, Any}
use Rattle.graph_theory.specs.declared.lad_text.LadKind.{LadKind}
use Rattle.graph_theory.specs.declared.lad_text.LadKind.TheVariants.{Lad, VertexLabelledLad, DirectedLad, LabelledLad}

-- A file's name is a text of at most 4,095 bytes.
abbrev pub file_name : List ℕ → Option (List ℕ)
file_name text = if nat_le (length text) 4095 then Some text else None

-- A number is one or more decimal digits and nothing else, with a value from `least` to `most`; leading zeros count for nothing.
abbrev pub number_within : ℕ → ℕ → List ℕ → Option ℕ
number_within least most text =
    if nat_lt 0 (length text) && (all_ascii_digits text && (nat_le least (digits_value 10 text)
    && nat_le (digits_value 10 text) most))
    then Some (digits_value 10 text) else None

-- A budget is a number from 1 to 2^63 - 1.
abbrev pub budget : List ℕ → Option ℕ
budget = number_within 1 9223372036854775807

-- A seed is a number from 0 to 2^64 - 1.
abbrev pub seed : List ℕ → Option ℕ
seed = number_within 0 18446744073709551615

-- How many workers search is a number from 1 to 64.
abbrev pub threads : List ℕ → Option ℕ
threads = number_within 1 64

-- How many rows of nogoods the workers share is a number from 0 to 4,194,304.
abbrev pub book : List ℕ → Option ℕ
book = number_within 0 4194304

-- The profile of a log is a number: 1, with hints, or 2, without.
abbrev pub profile : List ℕ → Option Profile
profile text = option_map (λ n. if n == 2 then Plain else Hinted) (number_within 1 2 text)

-- The format that a word names.
abbrev pub format : List ℕ → Option LadKind
format text = if bytes_eq text (codes "lad") then Some Lad
    else (if bytes_eq text (codes "vertexlabelledlad") then Some VertexLabelledLad
    else (if bytes_eq text (codes "directedlad") then Some DirectedLad
    else (if bytes_eq text (codes "labelledlad") then Some LabelledLad else None)))

-- Which images have to differ, as a word names it.
abbrev pub maps : List ℕ → Option Maps
maps text = if bytes_eq text (codes "injective") then Some Injective
    else (if bytes_eq text (codes "local") then Some Local
    else (if bytes_eq text (codes "any") then Some Any else None))
