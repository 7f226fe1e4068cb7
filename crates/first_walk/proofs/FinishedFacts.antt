-- The finished classes, each at its number.
use Rattle.std.proofs.Common.{◌≡◌, ℕ, ◌<◌, length, slice_get, Some, ap, ◌∙◌}
use Rattle.std.proofs.lemmas.List.{length-map}
use Rattle.std.proofs.lemmas.Option.{slice_get-map}
use Rattle.std.specs.Option.{option_map}
use Rattle.type_table.specs.Finished.{numbers, finished_class, finished_classes}
use Rattle.type_table.specs.Table.{Table}
use Rattle.first_walk.proofs.Places.{length-numbers, get-numbers}
use Rattle.type_table.proofs.Ranges.{many}

pub finished_classes_are : (t : Table) (c : ℕ) → c < many t → slice_get (finished_classes t) c ≡ Some (finished_class t c)
finished_classes_are t c lt = slice_get-map (finished_class t) (numbers (many t)) c ∙ ap (option_map (finished_class t)) (get-numbers (many t) c lt)

pub length-finished_classes : (t : Table) → length (finished_classes t) ≡ many t
length-finished_classes t = length-map (numbers (many t)) (finished_class t) ∙ length-numbers (many t)
