-- Files that are kept in memory, seen by their names.
use Rattle.std.specs.Prelude.{◌≡◌, ℕ, ◌-◌, ◌≤◌, Bool, List, length, map, Option, IsSomeAnd, find, bytes_eq, option_and_then}

-- a name, what its file holds where it is there, and how much it may hold
pub record Kept : Type 0 where
  pub name : List ℕ
  pub bytes : Option (List ℕ)
  pub room : ℕ

abbrev pub is_named : List ℕ → Kept → Bool
is_named name file = bytes_eq file.name name

-- the first file of a name
abbrev pub file_in : List Kept → List ℕ → Option Kept
file_in files name = find (is_named name) files

-- what the file of a name holds
abbrev pub content_in : List Kept → List ℕ → Option (List ℕ)
content_in files name = option_and_then (λ file. file.bytes) (file_in files name)

-- the file is there and has room for the piece
abbrev pub HasRoom : Option Kept → List ℕ → Type 0
HasRoom file piece = IsSomeAnd file (λ kept. IsSomeAnd kept.bytes
    (λ bytes. length piece ≤ kept.room - length bytes))

-- a file's name and room
abbrev pub label_of : Kept → List ℕ × ℕ
label_of file = (file.name, file.room)

-- the files have the names and rooms that they had
abbrev pub SameLabels : List Kept → List Kept → Type 0
SameLabels old new = map label_of new ≡ map label_of old
