-- What the files in memory tell.
use Rattle.std.specs.Prelude.{ℕ, Bool, true, List, drop, Option, Some, None, if◌then◌else◌, option_map, option_and_then, string_bytes}
use Rattle.outer_io.specs.declared.memory_files.MemoryFiles.{MemoryFiles}
use Rattle.outer_io.specs.declared.memory_files.MemoryPart.{MemoryPart}
use Rattle.outer_io.specs.Faults.{Use}
use Rattle.outer_io.specs.Bounded.{Calls}
use Rattle.outer_io.specs.Memory.{Kept, content_in}

-- the file that a part asks for
abbrev pub kept_part : MemoryPart → Kept
kept_part part = record {
  name = string_bytes part.name;
  bytes = option_map
      (λ bytes. bytes.items) part.bytes;
  room = part.room;
}

abbrev pub files_kept : MemoryFiles → List Kept
files_kept s = s.files.items

abbrev pub files_calls : MemoryFiles → Calls
files_calls s = s.calls

-- they tell all
abbrev pub files_tell : MemoryFiles → Bool
files_tell s = true

abbrev pub files_content : MemoryFiles → List ℕ → Option (List ℕ)
files_content s = content_in s.files.items

abbrev pub files_faults : MemoryFiles → ℕ
files_faults s = s.fault.count

abbrev pub files_fault_at : MemoryFiles → Option Use
files_fault_at s = s.fault.last

abbrev pub files_chosen : MemoryFiles → Option (List ℕ)
files_chosen s = option_map (λ at. s.read_name) s.read_at

-- what stands past the place that reading has come to
abbrev pub files_left : MemoryFiles → Option (List ℕ)
files_left s = option_and_then (λ at. option_map (drop at)
    (content_in s.files.items s.read_name)) s.read_at

abbrev pub files_begun : MemoryFiles → Option (List ℕ)
files_begun s = if s.is_begun then Some s.write_name else None
