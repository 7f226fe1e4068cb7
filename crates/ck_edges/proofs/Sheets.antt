-- What a start, a piece of text and an end do to the sheets in memory.
use Rattle.std.proofs.Common.{◌≡◌, ℕ, suc, zero, ◌+◌, ◌-◌, ◌<◌, ◌≤◌, Bool, true, false}
use Rattle.std.proofs.Common.{List, [], ◌∷◌}
use Rattle.std.proofs.Common.{◌++◌, ◌∙◌, Some, length, take, drop, get_or, refl, sym, ap, subst}
use Rattle.std.proofs.Common.{MatchOption, IsSomeAnd, not}
use Rattle.std.proofs.Common.{add-one, append-nil, arith, length-append, length-drop}
use Rattle.std.specs.List.{slice_get, slice_range}
use Rattle.std.proofs.lemmas.List.{take-append-le, drop-append-le, take_all}
use Rattle.std.proofs.Math.Seq.{drop-append_seam, drop-length}
use Rattle.ck_edges.specs.declared.memory_press.Start.{Start}
use Rattle.ck_edges.specs.Press.{Sheet, with_begun, with_written, with_ended}
use Rattle.ck_edges.specs.Starts.{end_before, ended_before, sheet_from, sheets_at}
use Rattle.ck_edges.specs.Starts.{IsSheetAt, EndsBy, AreInOrder}

-- no sheet ends past the text
pub end_before-le : (starts : List Start) (end : ℕ) → AreInOrder starts end
    → end_before starts end ≤ end
end_before-le [] end h = omega arith
end_before-le (start ∷ starts) end h =
    let rest = end_before-le starts end (h.1) in omega arith

-- nor does one with only some of the starts behind it
pub end_before-drop-le : (starts : List Start) (end n : ℕ) → AreInOrder starts end
    → end_before (drop n starts) end ≤ end
end_before-drop-le [] end zero h = omega arith
end_before-drop-le [] end (suc n) h = omega arith
end_before-drop-le (start ∷ starts) end zero h = end_before-le (start ∷ starts) end h
end_before-drop-le (start ∷ starts) end (suc n) h = end_before-drop-le starts end n (h.1)

-- each sheet ends by the start of the next one
pub EndsBy-get_or : (starts : List Start) (end i : ℕ) (other : Start) → i < length starts
    → AreInOrder starts end → EndsBy (get_or starts i other) (end_before (drop (suc i) starts) end)
EndsBy-get_or [] end i other h order = absurd (omega arith)
EndsBy-get_or (start ∷ starts) end zero other h order = order.0
EndsBy-get_or (start ∷ starts) end (suc i) other h order =
    EndsBy-get_or starts end i other (omega arith) (order.1)

-- the sheet at an index is the one that starts there
pub slice_get-sheets_at : (text : List ℕ) (starts : List Start) (unended : Bool) (i : ℕ)
    (other : Start) → i < length starts
    → slice_get (sheets_at text starts unended) i
    ≡ Some (sheet_from text (get_or starts i other) (drop (suc i) starts) unended)
slice_get-sheets_at text [] unended i other h = absurd (omega arith)
slice_get-sheets_at text (start ∷ starts) unended zero other h = refl
slice_get-sheets_at text (start ∷ starts) unended (suc i) other h =
    slice_get-sheets_at text starts unended i other (omega arith)

-- a sheet ends where the next one starts, or else with the text
pub end_before-drop : (starts : List Start) (n end : ℕ)
    → MatchOption (slice_get starts n) (end_before (drop n starts) end ≡ end)
    (λ next. end_before (drop n starts) end ≡ next.name)
end_before-drop [] zero end = refl
end_before-drop [] (suc n) end = refl
end_before-drop (start ∷ starts) zero end = refl
end_before-drop (start ∷ starts) (suc n) end = end_before-drop starts n end

-- a sheet is ended where another starts behind it, and the last one unless it stands unended
pub ended_before-drop : (starts : List Start) (n : ℕ) (unended : Bool) → n < length starts
    → ended_before (drop n starts) unended ≡ true
ended_before-drop [] n unended h = absurd (omega arith)
ended_before-drop (start ∷ starts) zero unended h = refl
ended_before-drop (start ∷ starts) (suc n) unended h =
    ended_before-drop starts n unended (omega arith)

pub ended_before-past : (starts : List Start) (n : ℕ) (unended : Bool) → length starts ≤ n
    → ended_before (drop n starts) unended ≡ not unended
ended_before-past [] zero unended h = refl
ended_before-past [] (suc n) unended h = refl
ended_before-past (start ∷ starts) zero unended h = absurd (omega arith)
ended_before-past (start ∷ starts) (suc n) unended h =
    ended_before-past starts n unended (omega arith)

-- what was read of a sheet's start and end tells its name and bytes
pub sheet_read : (text : List ℕ) (starts : List Start) (unended : Bool) (i : ℕ) (start : Start)
    (end : ℕ) → i < length starts → start ≡ get_or starts i start
    → end ≡ end_before (drop (i + 1) starts) (length text)
    → IsSomeAnd (slice_get (sheets_at text starts unended) i) (IsSheetAt text start end)
sheet_read text starts unended i start end h read ends =
    let behind = ends ∙ ap (λ n. end_before (drop n starts) (length text)) (add-one i) in
    let named = ap (λ start. slice_range text start.name start.bytes) (sym read) in
    let last = end_before (drop (suc i) starts) (length text) in
    let filled = ap (λ start. slice_range text start.bytes last) (sym read)
    ∙ ap (slice_range text start.bytes) (sym behind) in
    subst (λ sheet. IsSomeAnd sheet (IsSheetAt text start end))
    (sym (slice_get-sheets_at text starts unended i start h)) (named, filled)

-- and whether one starts behind it, whether it is ended
pub ended_read : (text : List ℕ) (starts : List Start) (unended : Bool) (i : ℕ) (ended : Bool)
    → i < length starts → ended ≡ ended_before (drop (suc i) starts) unended
    → IsSomeAnd (slice_get (sheets_at text starts unended) i) (λ sheet. ended ≡ sheet.ended)
ended_read text [] unended i ended h e = absurd (omega arith)
ended_read text (first ∷ starts) unended i ended h e =
    subst (λ sheet. IsSomeAnd sheet (λ sheet. ended ≡ sheet.ended))
    (sym (slice_get-sheets_at text (first ∷ starts) unended i first h)) e

-- a range within the text is the same where more text follows
pub range_within : (text more : List ℕ) (from to : ℕ) → from ≤ to → to ≤ length text
    → slice_range (text ++ more) from to ≡ slice_range text from to
range_within text more from to ordered within =
    let starts : from ≤ length text = omega arith in
    let ends : to - from ≤ length (drop from text) = omega (arith, length-drop from text) in
    ap (take (to - from)) (drop-append-le from text more starts)
    ∙ take-append-le (to - from) (drop from text) more ends

-- the last range grows with the text
pub range_grows : (text more : List ℕ) (from : ℕ) → from ≤ length text
    → slice_range (text ++ more) from (length (text ++ more))
    ≡ slice_range text from (length text) ++ more
range_grows text more from within =
    let all : length (drop from (text ++ more)) ≤ length (text ++ more) - from =
    omega (arith, length-drop from (text ++ more)) in
    let old : length (drop from text) ≤ length text - from =
    omega (arith, length-drop from text) in
    take_all _ _ all ∙ drop-append-le from text more within
    ∙ ap (λ xs. xs ++ more) (sym (take_all _ _ old))

-- two sheets are equal where their parts are
sheet_eq : (name name' bytes bytes' : List ℕ) (ended ended' : Bool) → name ≡ name'
    → bytes ≡ bytes' → ended ≡ ended'
    → ◌≡◌ {A = Sheet} (record { name = name; bytes = bytes; ended = ended })
    (record { name = name'; bytes = bytes'; ended = ended' })
sheet_eq name name' bytes bytes' ended ended' p q r = cc

-- more text at the end is more bytes of the last sheet
pub sheets_at-written : (text more : List ℕ) (starts : List Start) (unended : Bool)
    → AreInOrder starts (length text)
    → sheets_at (text ++ more) starts unended ≡ with_written more (sheets_at text starts unended)
sheets_at-written text more [] unended h = refl
sheets_at-written text more (start ∷ []) unended h =
    let named = range_within text more start.name start.bytes (h.0.0) (h.0.1) in
    let grown = range_grows text more start.bytes (h.0.1) in
    ap (λ sheet. sheet ∷ []) (sheet_eq _ _ _ _ _ _ named grown refl)
sheets_at-written text more (start ∷ next ∷ starts) unended h =
    let next_within = end_before-le (next ∷ starts) (length text) (h.1) in
    let named = range_within text more start.name start.bytes (h.0.0) (omega arith) in
    let filled = range_within text more start.bytes next.name (h.0.1) next_within in
    let same : sheet_from (text ++ more) start (next ∷ starts) unended
    ≡ sheet_from text start (next ∷ starts) unended =
    sheet_eq _ _ _ _ _ _ named filled refl in
    let rest = sheets_at-written text more (next ∷ starts) unended (h.1) in
    cc (same, rest)

-- no bytes more change no sheet
pub with_written-nil : (sheets : List Sheet) → with_written [] sheets ≡ sheets
with_written-nil [] = refl
with_written-nil (sheet ∷ []) =
    ap (λ sheet. sheet ∷ []) (sheet_eq _ _ _ _ _ _ refl (append-nil sheet.bytes) refl)
with_written-nil (sheet ∷ next ∷ sheets) =
    ap (λ sheets. sheet ∷ sheets) (with_written-nil (next ∷ sheets))

-- the last sheet is ended where none stands unended any more
pub sheets_at-ended : (text : List ℕ) (starts : List Start)
    → sheets_at text starts false ≡ with_ended (sheets_at text starts true)
sheets_at-ended text [] = refl
sheets_at-ended text (start ∷ []) = refl
sheets_at-ended text (start ∷ next ∷ starts) =
    ap (λ sheets. sheet_from text start (next ∷ starts) true ∷ sheets)
    (sheets_at-ended text (next ∷ starts))

-- a start behind the others is where the one before it ends
end_before-last : (starts : List Start) (start : Start) (end end' : ℕ) → start.name ≡ end
    → end_before (starts ++ start ∷ []) end' ≡ end_before starts end
end_before-last [] start end end' e = e
end_before-last (first ∷ starts) start end end' e = refl

ended_before-last : (starts : List Start) (start : Start)
    → ended_before (starts ++ start ∷ []) true ≡ ended_before starts false
ended_before-last [] start = refl
ended_before-last (first ∷ starts) start = refl

-- what follows a text is the range from its end on
drop_whole : (text more : List ℕ) (to : ℕ) → to ≡ length (text ++ more)
    → slice_range (text ++ more) (length text) to ≡ more
drop_whole text more to e =
    let behind : drop (length text) (text ++ more) ≡ more = drop-append_seam text more in
    let all : length more ≤ to - length text = omega (arith, length-append text more) in
    ap (take (to - length text)) behind ∙ take_all _ _ all

take_of_nil : (n : ℕ) → ◌≡◌ {A = List ℕ} (take n []) []
take_of_nil zero = refl
take_of_nil (suc n) = refl

take_none : (xs : List ℕ) → take (length xs - length xs) (drop (length xs) xs) ≡ []
take_none xs = ap (take (length xs - length xs)) (drop-length xs) ∙ take_of_nil _

-- a start at the end of the text, with a name behind it, begins a sheet
pub sheets_at-begun : (text name : List ℕ) (starts : List Start) (start : Start)
    → start.name ≡ length text → start.bytes ≡ length (text ++ name)
    → AreInOrder starts (length text)
    → sheets_at (text ++ name) (starts ++ start ∷ []) true
    ≡ with_begun name (sheets_at text starts false)
sheets_at-begun text name [] start named filled h =
    let whole : slice_range (text ++ name) start.name start.bytes ≡ name =
    subst (λ from. slice_range (text ++ name) from start.bytes ≡ name) (sym named)
    (drop_whole text name start.bytes filled) in
    let none : slice_range (text ++ name) start.bytes (length (text ++ name)) ≡ [] =
    ap (λ from. take (length (text ++ name) - from) (drop from (text ++ name))) filled
    ∙ take_none (text ++ name) in
    ap (λ sheet. sheet ∷ []) (sheet_eq _ _ _ _ _ _ whole none refl)
sheets_at-begun text name (first ∷ starts) start named filled h =
    let first_within = end_before-le starts (length text) (h.1) in
    let end_same = end_before-last starts start (length text) (length (text ++ name)) named in
    let first_named = range_within text name first.name first.bytes (h.0.0) (omega arith) in
    let first_filled = ap (slice_range (text ++ name) first.bytes) end_same
    ∙ range_within text name first.bytes (end_before starts (length text)) (h.0.1) first_within in
    let same : sheet_from (text ++ name) first (starts ++ start ∷ []) true
    ≡ sheet_from text first starts false =
    sheet_eq _ _ _ _ _ _ first_named first_filled (ended_before-last starts start) in
    let rest = sheets_at-begun text name starts start named filled (h.1) in
    cc (same, rest)

-- the starts stay in order with one more at the end of the text
pub AreInOrder-begun : (starts : List Start) (start : Start) (end end' : ℕ) → start.name ≡ end
    → EndsBy start end' → AreInOrder starts end → AreInOrder (starts ++ start ∷ []) end'
AreInOrder-begun [] start end end' named h order = (h, tt)
AreInOrder-begun (first ∷ starts) start end end' named h order =
    let end_same = end_before-last starts start end end' named in
    ((order.0.0, omega arith), AreInOrder-begun starts start end end' named h (order.1))

-- and where more text follows
pub AreInOrder-longer : (starts : List Start) (end end' : ℕ) → end ≤ end'
    → AreInOrder starts end → AreInOrder starts end'
AreInOrder-longer [] end end' h order = tt
AreInOrder-longer (start ∷ []) end end' h order = ((order.0.0, omega arith), tt)
AreInOrder-longer (start ∷ next ∷ starts) end end' h order =
    (order.0, AreInOrder-longer (next ∷ starts) end end' h (order.1))

-- there are as many sheets as starts
pub length-sheets_at : (text : List ℕ) (starts : List Start) (unended : Bool)
    → length (sheets_at text starts unended) ≡ length starts
length-sheets_at text [] unended = refl
length-sheets_at text (start ∷ starts) unended =
    let rest = length-sheets_at text starts unended in omega arith
