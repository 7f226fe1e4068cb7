use Rattle.std.specs.Prelude.{ℕ, Bool, List, Option}
use Rattle.ck_edges.specs.declared.memory_press.MemPress.{MemPress}
use Rattle.ck_edges.specs.Faults.{next_count}
use Rattle.ck_edges.specs.Failing.{fails_after, front_length}
use Rattle.ck_edges.specs.Press.{Sheet}
use Rattle.ck_edges.specs.Starts.{sheets_at}

-- the sheets begun so far
abbrev pub press_sheets : MemPress → List Sheet
press_sheets press = sheets_at press.text.items press.starts.items press.unended

-- whether the last of them stands unended
abbrev pub has_unended : MemPress → Bool
has_unended press = press.unended

-- how many more sheets it has room for
abbrev pub sheet_room : MemPress → ℕ
sheet_room press = press.sheet_room

-- how many more bytes, of names and of sheets, it has room for
abbrev pub byte_room : MemPress → ℕ
byte_room press = press.byte_room

-- the calls that are to fail, each with the bytes that it takes at most
abbrev pub failing_calls : MemPress → List (ℕ × ℕ)
failing_calls press = press.fails.items

-- how many calls there were, of all three kinds
abbrev pub calls_made : MemPress → ℕ
calls_made press = press.calls

-- how many of them failed
abbrev pub calls_failed : MemPress → ℕ
calls_failed press = press.faults

-- after how many bytes at most the next call fails, where it is listed
abbrev pub next_failure : MemPress → Option ℕ
next_failure press = fails_after (failing_calls press) (next_count (calls_made press))

-- how many of so many bytes the next call takes, where it is a write
abbrev pub next_taken : MemPress → ℕ → ℕ
next_taken press bytes = front_length (next_failure press) (byte_room press) bytes
