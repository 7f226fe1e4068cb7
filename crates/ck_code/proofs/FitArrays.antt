-- What the instructions of arrays lead to fits again.
use Rattle.std.proofs.Common.{ℕ, ◌+◌, Bool, true, false, List, [], ◌∷◌, replicate, refl}
use Rattle.ck_values.specs.declared.kind.Elem.{Elem}
use Rattle.ck_values.specs.declared.kind.Elem.TheVariants.{Int as IntElem}
use Rattle.ck_values.specs.declared.kind.Kind.{Kind}
use Rattle.ck_values.specs.declared.kind.Kind.TheVariants.{One, Row as RowKind, Grid as GridKind}
use Rattle.ck_values.specs.declared.operator.Op2.{Op2 as Operator}
use Rattle.ck_values.specs.declared.trap.Place.{Place}
use Rattle.ck_values.specs.Datum.{Datum}
use Rattle.ck_store.specs.Store.{Shapes, shapes_of, State}
use Rattle.ck_store.specs.Operators.{binary}
use Rattle.ck_store.specs.Arrays.{item_of, with_item, appended, row_made, array_made, grid_made, has_item, filled}
use Rattle.ck_typed.specs.declared.class.Class.{Class}
use Rattle.ck_code.specs.declared.instr.Instr.TheVariants.{Item, SetItem, OpItem, Row, Grid, Lit, LitGrid, Each, Fill, Append}
use Rattle.ck_code.specs.declared.code.Fun.{Fun}
use Rattle.ck_code.specs.declared.code.CodeParts.{CodeParts}
use Rattle.ck_code.specs.Machine.{Frame, frame, Effect, Next, tried, on_top, taken, effect}
use Rattle.ck_code.specs.Verified.{Places, Typing, Finds, OnTop, Indexed, Fits}
use Rattle.ck_code.specs.Fitting.{IsOf, Suits, Suit, IsFitState, IsFitEffect}
use Rattle.ck_code.proofs.Standing.{stands_suits, suits_kept, suit_kept}
use Rattle.ck_code.proofs.Suiting.{items_fine}
use Rattle.ck_code.proofs.Tables.{Grown, Makes}
use Rattle.ck_code.proofs.Arrays.{array_kind, item_kind, item_of_fine, with_item_fine, appended_fine, has_item_fine, IsFilled, filled_fine, array_made_fine, row_made_fine, grid_made_fine}
use Rattle.ck_code.proofs.Values.{picked, update_fine}
use Rattle.ck_code.proofs.Nulls.{null_or, item_traps, with_item_traps, has_item_traps, filled_traps, appended_traps}
use Rattle.ck_code.proofs.Frames.{Stand, stand_kept, grown_state, good_try, good_trap, good_top, next_fits, grown_fits, made_fits}

-- an instruction at place p of a function, with what it finds there
module _ (code : CodeParts) (typing : Typing) (main : ℕ) (start : State) (fn : Fun)
    (places : Places) (f : ℕ) (rest : List Frame) (shred : ℕ) (place : Place) (p : ℕ)
    (kinds : List Kind) (l ops : List Datum) (s : State)
    (stands : Stand code typing main fn places f rest (shapes_of s.store))
    (held : Suit code.classes (shapes_of s.store) kinds ops)
    (locals : Suit code.classes (shapes_of s.store) fn.locals l) (state : IsFitState code start s) where
  abbrev classes : List Class
  classes = code.classes

  abbrev shapes : Shapes
  shapes = shapes_of s.store

  -- an instruction leads to what fits
  abbrev Good : Effect → Type 0
  Good e = IsFitEffect code typing main start e

  -- after an index is taken, and the array beneath it
  good_indexed : (P : Kind → List Kind → Type 0) (kinds : List Kind) (ops : List Datum)
      (go : Datum → Datum → List Datum → Effect) → Indexed classes kinds P
      → Suit classes shapes kinds ops
      → ((a : Kind) (beneath : List Kind) (i r : Datum) (under : List Datum) → P a beneath
      → IsOf classes shapes IntElem i → Suits classes shapes a r
      → Suit classes shapes beneath under → Good (go i r under))
      → Good (on_top ops (λ i lower. on_top lower (λ r under. go i r under)))
  good_indexed P kinds ops go fits held next =
      good_top Good classes shapes _ kinds ops _ fits held (λ a kinds1 i lower top is_i suit1.
      good_top Good classes shapes P kinds1 lower _ top.1 suit1
      (λ b beneath r under holds is_r suit.
      next b beneath i r under holds (stands_suits classes shapes a (One IntElem) i top.0 is_i)
      is_r suit))

  pub item_fits : Fits code typing fn f places p Item kinds
      → Good (effect code shred Item place f p l ops rest s)
  item_fits fits =
      good_indexed _ kinds ops _ fits held (λ a beneath i r under array is_i is_r suit.
      null_or classes shapes a r array is_r (λ null.
      good_trap Good (item_of s.store.objects r i) place s _ (item_traps s.store r null i) (λ trap. state))
      (λ top.
      good_try Good (Suits classes shapes top.1) (item_of s.store.objects r i) place s _
      (item_of_fine code s.store r top.0 top.1 state.store top.2
      (stands_suits classes shapes a top.0 r top.3 is_r) i is_i) (λ trap. state) (λ v is.
      next_fits fn places f rest (p + 1) (top.1 ∷ beneath) l (v ∷ under) s stands top.4 (is, suit)
      locals state)))

  pub set_item_fits : Fits code typing fn f places p SetItem kinds
      → Good (effect code shred SetItem place f p l ops rest s)
  set_item_fits fits =
      good_indexed _ kinds ops _ fits held (λ a kinds1 i r lower value is_i is_r suit1.
      good_top Good classes shapes _ kinds1 lower _ value suit1
      (λ b beneath v under array is_v suit.
      null_or classes shapes a r array is_r (λ null.
      good_trap Good (with_item s.store r i v) place s _ (with_item_traps s.store r null i v)
      (λ trap. state)) (λ top.
      good_try Good (Grown code s.store) (with_item s.store r i v) place s _
      (with_item_fine code s.store r top.0 top.1 state.store top.2
      (stands_suits classes shapes a top.0 r top.3 is_r) i v is_i
      (stands_suits classes shapes b top.1 v top.4.0 is_v)) (λ trap. state) (λ store grown.
      grown_fits fn places f rest (p + 1) (b ∷ beneath) l (v ∷ under) s store stands top.4.1 (
        is_v,
        suit,
      ) locals state grown))))

  pub op_item_fits : (o : Operator) → Fits code typing fn f places p (OpItem o) kinds
      → Good (effect code shred (OpItem o) place f p l ops rest s)
  op_item_fits o fits =
      good_indexed _ kinds ops _ fits held (λ a kinds1 i r lower value is_i is_r suit1.
      good_top Good classes shapes _ kinds1 lower _ value suit1
      (λ b beneath v under array is_v suit.
      null_or classes shapes a r array is_r (λ null.
      good_trap Good (item_of s.store.objects r i) place s _ (item_traps s.store r null i) (λ trap. state))
      (λ top.
      let suits_r = stands_suits classes shapes a top.0 r top.3 is_r in
      let update = update_fine classes shapes o top.1 (b ∷ beneath) (λ result under1.
      Finds classes places (p + 1) (One result ∷ under1)) top.4 in
      good_try Good (Suits classes shapes top.1) (item_of s.store.objects r i) place s _
      (item_of_fine code s.store r top.0 top.1 state.store top.2 suits_r i is_i) (λ trap. state)
      (λ old was.
      good_try Good (IsOf classes shapes update.0) (binary o old v) place s _
      (update.3 old v was is_v) (λ trap. state) (λ w is_w.
      good_try Good (Grown code s.store) (with_item s.store r i w) place s _
      (with_item_fine code s.store r top.0 top.1 state.store top.2 suits_r i w is_i
      (stands_suits classes shapes (One update.0) top.1 w update.2 is_w)) (λ trap. state)
      (λ store grown.
      grown_fits fn places f rest (p + 1) (One update.0 ∷ beneath) l (w ∷ under) s store stands
      update.1 (is_w, suit) locals state grown))))))

  pub row_fits : (e : Elem) → Fits code typing fn f places p (Row e) kinds
      → Good (effect code shred (Row e) place f p l ops rest s)
  row_fits e fits =
      good_top Good classes shapes _ kinds ops _ fits.1 held (λ a beneath n under top is_n suit.
      good_try Good (Makes code s.store (RowKind e)) (row_made e n s.store) place s _
      (row_made_fine code s.store e n state.store
      (stands_suits classes shapes a (One IntElem) n top.0 is_n)) (λ trap. state) (λ made h.
      made_fits fn places f rest (p + 1) (RowKind e) beneath l under s made stands top.1 suit locals
      state h))

  pub grid_fits : (e : Elem) → Fits code typing fn f places p (Grid e) kinds
      → Good (effect code shred (Grid e) place f p l ops rest s)
  grid_fits e fits =
      good_top Good classes shapes _ kinds ops _ fits.1 held (λ a kinds1 m lower top is_m suit1.
      good_top Good classes shapes _ kinds1 lower _ top.1 suit1
      (λ b beneath n under top1 is_n suit.
      let part = grid_made e n m s.store in
      let fine = grid_made_fine code s.store e n m state.store
      (stands_suits classes shapes b (One IntElem) n top1.0 is_n)
      (stands_suits classes shapes a (One IntElem) m top.0 is_m) in
      let kept = fine.0.2 in
      let after = grown_state s part.store state fine.0 in
      good_try Good (Suits classes (shapes_of part.store) (GridKind e)) part.end place
      (record s { store = part.store }) _ fine.1 (λ trap. after) (λ r is_r.
      next_fits fn places f rest (p + 1) (GridKind e ∷ beneath) l (r ∷ under)
      (record s { store = part.store })
      (stand_kept code typing main fn places f rest shapes (shapes_of part.store) kept stands) top1.1
      (is_r, suit_kept classes shapes (shapes_of part.store) kept beneath under suit)
      (suit_kept classes shapes (shapes_of part.store) kept fn.locals l locals) after)))

  -- an array of items that are taken
  lit_made : (e : Elem) (b : Bool) (n : ℕ)
      → OnTop classes (replicate n (item_kind e b)) kinds (λ beneath.
      Finds classes places (p + 1) (array_kind e b ∷ beneath))
      → Good (tried (taken n [] ops) place s (λ t.
      tried (array_made e b t.arguments s.store) place s (λ made.
      Next (frame f (p + 1) l (made.reference ∷ t.beneath) ∷ rest)
      (record s { store = made.store }))))
  lit_made e b n fits =
      good_try Good _ (taken n [] ops) place s _
      (items_fine classes shapes n (item_kind e b) kinds ops _ fits held) (λ trap. state)
      (λ t suits.
      good_try Good (Makes code s.store (array_kind e b)) (array_made e b t.arguments s.store)
      place s _
      (array_made_fine code s.store e b t.arguments state.store suits.0) (λ trap. state) (λ made h.
      made_fits fn places f rest (p + 1) (array_kind e b) suits.1 l t.beneath s made stands suits.2
      suits.3 locals state h))

  pub lit_fits : (e : Elem) (n : ℕ) → Fits code typing fn f places p (Lit e n) kinds
      → Good (effect code shred (Lit e n) place f p l ops rest s)
  lit_fits e n fits = lit_made e false n fits.1

  pub lit_grid_fits : (e : Elem) (n : ℕ) → Fits code typing fn f places p (LitGrid e n) kinds
      → Good (effect code shred (LitGrid e n) place f p l ops rest s)
  lit_grid_fits e n fits = lit_made e true n fits.1

  pub each_fits : (t : ℕ) → Fits code typing fn f places p (Each t) kinds
      → Good (effect code shred (Each t) place f p l ops rest s)
  each_fits t fits =
      good_indexed _ kinds ops _ fits.1 held (λ a beneath i r under array is_i is_r suit.
      null_or classes shapes a r array is_r (λ null.
      good_trap Good (has_item s.store.objects r i) place s _ (has_item_traps s.store r null i)
      (λ trap. state)) (λ top.
      let e = top.0 in
      let suits_r = stands_suits classes shapes a (RowKind e) r top.1 is_r in
      good_try Good (λ is. Unit {0}) (has_item s.store.objects r i) place s _
      (has_item_fine classes s.store.units s.store.objects r i (RowKind e) (One e) refl suits_r is_i) (λ trap. state)
      (λ is fine.
      picked (λ e. Good e) is _ _
      (next_fits fn places f rest (p + 1) (One IntElem ∷ RowKind e ∷ beneath) l (i ∷ r ∷ under) s
      stands top.2.0 (is_i, (suits_r, suit)) locals state)
      (next_fits fn places f rest t (RowKind e ∷ beneath) l (r ∷ under) s stands top.2.1 (
        suits_r,
        suit,
      ) locals state))))

  pub fill_fits : Fits code typing fn f places p Fill kinds
      → Good (effect code shred Fill place f p l ops rest s)
  fill_fits fits =
      good_top Good classes shapes _ kinds ops _ fits held (λ a kinds1 v lower indexed is_v suit1.
      good_indexed _ kinds1 lower _ indexed suit1 (λ b beneath i r under array is_i is_r suit.
      null_or classes shapes b r array is_r (λ null.
      good_trap Good (filled s.store r i v) place s _ (filled_traps s.store r null i v)
      (λ trap. state)) (λ top.
      let e = top.0 in
      let suits_r = stands_suits classes shapes b (RowKind e) r top.1 is_r in
      good_try Good (IsFilled code s.store) (filled s.store r i v) place s _
      (filled_fine code s.store r (RowKind e) (One e) state.store refl suits_r i v is_i
      (stands_suits classes shapes a (One e) v top.2.0 is_v)) (λ trap. state) (λ done h.
      let kept = h.1.2 in
      next_fits fn places f rest (p + 1) (One IntElem ∷ RowKind e ∷ beneath) l
      (done.next ∷ r ∷ under) (record s { store = done.store })
      (stand_kept code typing main fn places f rest shapes (shapes_of done.store) kept stands)
      top.2.1 (
        h.0,
        (
          suits_kept classes shapes (shapes_of done.store) kept (RowKind e) r suits_r,
          suit_kept classes shapes (shapes_of done.store) kept beneath under suit,
        ),
      ) (suit_kept classes shapes (shapes_of done.store) kept fn.locals l locals)
      (grown_state s done.store state h.1)))))

  pub append_fits : Fits code typing fn f places p Append kinds
      → Good (effect code shred Append place f p l ops rest s)
  append_fits fits =
      good_top Good classes shapes _ kinds ops _ fits held (λ a kinds1 v lower array is_v suit1.
      good_top Good classes shapes _ kinds1 lower _ array suit1
      (λ b beneath r under array is_r suit.
      null_or classes shapes b r array is_r (λ null.
      good_trap Good (appended s.store r v) place s _ (appended_traps s.store r null v)
      (λ trap. state)) (λ top.
      let e = top.0 in
      let suits_r = stands_suits classes shapes b (RowKind e) r top.1 is_r in
      good_try Good (Grown code s.store) (appended s.store r v) place s _
      (appended_fine code s.store r (RowKind e) (One e) state.store refl suits_r v
      (stands_suits classes shapes a (One e) v top.2.0 is_v)) (λ trap. state) (λ store grown.
      grown_fits fn places f rest (p + 1) (RowKind e ∷ beneath) l (r ∷ under) s store stands
      top.2.1 (suits_r, suit) locals state grown))))
