-- The walks over the parameters of a function, the members of a class, the items of a file, and
-- files.
use Rattle.std.proofs.Common.{◌≡◌, ◌∙◌, ℕ, ◌+◌, ◌<◌, ◌≤◌, List, [], ◌∷◌, length, drop, get_or, map}
use Rattle.std.proofs.Common.{slice_get, refl, sym, ap}
use Rattle.std.proofs.lemmas.List.{drop_more, drop_all}
use Rattle.ck_values.specs.declared.kind.Kind.{Kind}
use Rattle.ck_syntax.specs.declared.file.File.{File as ParsedFile}
use Rattle.ck_syntax.specs.declared.file.Item.{Item}
use Rattle.ck_syntax.specs.declared.file.Member.{Member}
use Rattle.ck_syntax.specs.declared.file.Param.{Param}
use Rattle.ck_syntax.specs.Tree.{Params, and_param, Members, and_member, File, and_item}
use Rattle.ck_syntax.specs.View.{params_of, view_member, members_of, view_item, items_of, view_file}
use Rattle.type_table.specs.Answer.{Answer, Fault, gives, refused, and_then}
use Rattle.type_table.specs.Table.{Table}
use Rattle.type_table.proofs.Walks.{run, on}
use Rattle.check_scope.specs.Scope.{Scope, or_void}
use Rattle.program_laws.specs.Programs.{with_param, count, with_params, Walked, and_member_typed}
use Rattle.program_laws.specs.Programs.{members_typed, and_item_typed, items_typed, Checked}
use Rattle.program_laws.specs.Programs.{file_checked, files_from}

-- parameters by their places
module _ (types : List Kind) (l : ℕ) where
  abbrev pub one_param : (place : ℕ) → Scope → Param → Answer Scope
  one_param i s p = with_param s l p.name (or_void (slice_get types i))

  -- those from this place on
  abbrev pub and_params : Answer Scope → (place : ℕ) → List Param → Answer Scope
  and_params a i [] = a
  and_params a i (p ∷ ps) = and_params (and_then a (λ s. one_param i s p)) (i + 1) ps

  pub params_from : (s : Scope) (before : Params) (params : List Param)
      → with_params types s l (params_of before params)
      ≡ and_params (with_params types s l before) (count before) params
  params_from s before [] = refl
  params_from s before (p ∷ params) = params_from s (and_param before p) params

  still : (why : Fault) (i : ℕ) (ps : List Param) → and_params (refused why) i ps ≡ refused why
  still why i [] = refl
  still why i (p ∷ ps) = still why (i + 1) ps

  module _ (ps : List Param) (i : ℕ) (s : Scope) where
    pub params_end : length ps ≤ i → and_params (gives s) i (drop i ps) ≡ gives s
    params_end le = ap (and_params (gives s) i) (drop_all i ps le)

    module _ (p : Param) (lt : i < length ps) (is : p ≡ get_or ps i p) where
      pub params_next : and_params (gives s) i (drop i ps)
          ≡ and_params (one_param i s p) (i + 1) (drop (i + 1) ps)
      params_next =
          ap (and_params (gives s) i) (drop_more ps i p lt)
          ∙ ap (λ q. and_params (one_param i s q) (i + 1) (drop (i + 1) ps)) (sym is)

      pub params_fault : (why : Fault) → one_param i s p ≡ refused why
          → and_params (gives s) i (drop i ps) ≡ refused why
      params_fault why stops =
          params_next ∙ ap (λ a. and_params a (i + 1) (drop (i + 1) ps)) stops
          ∙ still why (i + 1) (drop (i + 1) ps)

module _ (t : Table) (f : ℕ) where
  abbrev pub one_member : (class first : ℕ) → Walked → Member → Answer Walked
  one_member c first w m = and_member_typed t f c first w (view_member m)

  pub members_run : (c first : ℕ) (settled : List (ℕ × Kind)) (before : Members)
      (members : List Member)
      → members_typed t f c first settled (members_of before members)
      ≡ run (on (one_member c first)) (members_typed t f c first settled before) members
  members_run c first settled before [] = refl
  members_run c first settled before (m ∷ members) =
      members_run c first settled (and_member before (view_member m)) members

  abbrev pub one_item : Walked → Item → Answer Walked
  one_item w i = and_item_typed t f w (view_item i)

  pub items_run : (before : File) (items : List Item)
      → items_typed t f (items_of before items) ≡ run (on one_item) (items_typed t f before) items
  items_run before [] = refl
  items_run before (i ∷ items) = items_run (and_item before (view_item i)) items

-- files by their numbers
module _ (c : Checked) (files : List ParsedFile) (i : ℕ) where
  abbrev rest : List ParsedFile → Answer Checked
  rest more = files_from c i (map view_file more)

  module _ (x : ParsedFile) (lt : i < length files) (is : x ≡ get_or files i x) where
    cut : rest (drop i files) ≡ rest (x ∷ drop (i + 1) files)
    cut = ap rest (drop_more files i x lt ∙ ap (λ y. y ∷ drop (i + 1) files) (sym is))

    abbrev later : Answer Checked → Answer Checked
    later a = and_then a (λ d. files_from d (i + 1) (map view_file (drop (i + 1) files)))

    pub file_next : (d : Checked) → file_checked c i (view_file x) ≡ gives d
        → rest (drop i files) ≡ files_from d (i + 1) (map view_file (drop (i + 1) files))
    file_next d step = cut ∙ ap later step

    pub file_stops : (why : Fault) → file_checked c i (view_file x) ≡ refused why
        → rest (drop i files) ≡ refused why
    file_stops why step = cut ∙ ap later step

  pub files_end : length files ≤ i → rest (drop i files) ≡ gives c
  files_end le = ap rest (drop_all i files le)
