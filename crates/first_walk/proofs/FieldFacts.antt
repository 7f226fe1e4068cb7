-- The fields of objects: those of a class follow those of its parent.
use Rattle.std.proofs.Common.{◌≡◌, ℕ, ◌<◌, List, [], ◌∷◌, ◌++◌, length, Option, refl, sym, ap, ◌∙◌, arith, append-nil, length-append}
use Rattle.ck_values.specs.declared.kind.Kind.{Kind}
use Rattle.type_table.specs.Finished.{all_fields}
use Rattle.type_table.specs.Table.{Table, class_of, count_fields, line, parent}
use Rattle.first_walk.proofs.Lines.{IsLine, line_is, line_up, for_all, parent_of_object}
use Rattle.first_walk.proofs.Places.{each_append}
use Rattle.type_table.proofs.Ranges.{Each, ValueIn, many}
use Rattle.first_walk.proofs.TableFacts.{IsTable}

pub length-all_fields : (t : Table) (l : List ℕ) → length (all_fields t l) ≡ count_fields t l
length-all_fields t [] = refl
length-all_fields t (c ∷ above) = omega (arith, length-append (all_fields t above) (class_of t c).fields, length-all_fields t above)

module _ (t : Table) (owners : List (Option ℕ)) (is : IsTable t owners) where
  fields_of_line : (l : List ℕ) → IsLine t l → Each (ValueIn (many t)) (all_fields t l)
  fields_of_line [] in_line = tt
  fields_of_line (c ∷ above) in_line = each_append (ValueIn (many t)) (all_fields t above) (class_of t c).fields (fields_of_line above in_line.2) (is.classes c in_line.0).fields

  -- a variable may have the type of each field
  pub fields_in : (c : ℕ) → c < many t → Each (ValueIn (many t)) (all_fields t (line t c))
  fields_in c lt = fields_of_line (line t c) (line_is t owners is c lt)

  pub extends : (c : ℕ) → c < many t → (own : List Kind) × (all_fields t (line t c) ≡ all_fields t (line t (parent t c)) ++ own)
  extends = for_all t owners is (λ c. (own : List Kind) × (all_fields t (line t c) ≡ all_fields t (line t (parent t c)) ++ own))
      ([], sym (ap (λ p. all_fields t (line t p) ++ []) (parent_of_object t owners is) ∙ append-nil (all_fields t (line t 0))))
      (λ c lt other above. ((class_of t c).fields, ap (all_fields t) (line_up t owners is c lt other)))
