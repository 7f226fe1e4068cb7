use Rattle.std.specs.Prelude.{ℕ, List}
use Rattle.ck_edges.specs.declared.memory_shelf.MemShelf.{MemShelf}
use Rattle.ck_edges.specs.Named.{NamedFiles}

-- the files of the shelf, with their names
abbrev pub shelf_files : MemShelf → NamedFiles
shelf_files shelf = shelf.files.items

-- the numbers of the calls that are to fail
abbrev pub failing_reads : MemShelf → List ℕ
failing_reads shelf = shelf.fails.items

-- how many calls there were
abbrev pub reads_made : MemShelf → ℕ
reads_made shelf = shelf.calls

-- how many of them failed
abbrev pub reads_failed : MemShelf → ℕ
reads_failed shelf = shelf.faults
