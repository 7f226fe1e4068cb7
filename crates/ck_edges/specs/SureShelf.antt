use Rattle.ck_edges.specs.declared.sure.SureShelf.{SureShelf}
use Rattle.ck_edges.specs.Named.{NamedFiles}

-- the files of the shelf, with their names
abbrev pub sure_files : SureShelf → NamedFiles
sure_files shelf = shelf.files.items
