-- The frames of a shred in one list of values.
use Rattle.std.proofs.Common.{◌≡◌, ℕ, ℤ, suc, ◌+◌, ◌-◌, ◌<◌, ◌≤◌, List, [], ◌∷◌, ◌++◌}
use Rattle.std.proofs.Common.{Some, take, drop, length, reverse, get_or, slice_get, slice_set}
use Rattle.std.proofs.Common.{refl, ap, sym, ◌∙◌, arith, length-drop}
use Rattle.std.proofs.lemmas.Option.{slice_get-get_or}
use Rattle.std.proofs.lemmas.List.{reverse-append, reverse-reverse, length-reverse}
use Rattle.std.proofs.lemmas.List.{take-append-drop, take-append-le, drop-append-le}
use Rattle.std.proofs.lemmas.List.{take-take, drop-take, drop-drop, length-take-le}
use Rattle.std.proofs.lemmas.List.{take_all, drop_all, take_at, drop_at, take_more}
use Rattle.std.proofs.lemmas.List.{drop-set-lt, drop-set-add, take-set-le}
use Rattle.std.proofs.lemmas.List.{get_or-take, get_or-drop}
use Rattle.std.proofs.Math.Seq.{take-set-lt, set-append_seam}
use Rattle.ck_values.specs.declared.value.Value.{Value}
use Rattle.shred_state.specs.Frames.{Frame, frame, Standing, with_locals, with_operands}
use Rattle.shred_state.specs.Extents.{locals_in, operands_in, top_in, below_in, frames_in}
use Rattle.shred_state.specs.Extents.{AreLaid, standing}
use Rattle.shred_state.specs.declared.extent.Extent.{Extent}

-- values added at the end are operands of the top frame
pub added_top : (values more : List Value) (e : Extent)
    → e.base ≤ e.middle → e.middle ≤ length values
    → top_in (values ++ more) e
    ≡ frame e.fun e.place (locals_in values e) (reverse more ++ operands_in values e)
added_top values more e low high =
    let ops = operands_in (values ++ more) e in
    ap (λ ls. frame e.fun e.place (drop e.base ls) ops) (take-append-le e.middle values more high)
    ∙ ap (frame e.fun e.place (locals_in values e))
    (ap reverse (drop-append-le e.middle values more high)
    ∙ reverse-append (drop e.middle values) more)

-- and no values of the frames beneath
pub added_below : (values more : List Value) (e : Extent) (below : List Extent)
    → e.base ≤ length values → below_in (values ++ more) e below ≡ below_in values e below
added_below values more e below within =
    ap (λ vs. frames_in vs below) (take-append-le e.base values more within)

-- there are as many frames as extents
pub length-frames : (values : List Value) (below : List Extent)
    → length (frames_in values below) ≡ length below
length-frames values [] = refl
length-frames values (e ∷ below) = ap suc (length-frames (take e.base values) below)

-- as many frames stand beneath the top one as were put there
pub depth_is : (values : List Value) (e : Extent) (stack : List Extent) (below : List Frame)
    → below_in values e (reverse stack) ≡ below → length below ≡ length stack
depth_is values e stack below is =
    sym (ap length is) ∙ length-frames (take e.base values) (reverse stack) ∙ length-reverse stack

-- a value set among the top frame's locals
set_top : (values : List Value) (e : Extent) (i : ℕ) (v : Value) → e.base + i < e.middle
    → top_in (slice_set values (e.base + i) v) e
    ≡ frame e.fun e.place (slice_set (locals_in values e) i v) (operands_in values e)
set_top values e i v within =
    let ops = operands_in (slice_set values (e.base + i) v) e in
    ap (λ ls. frame e.fun e.place (drop e.base ls) ops)
    (take-set-lt e.middle values (e.base + i) v within)
    ∙ ap (λ ls. frame e.fun e.place ls ops) (drop-set-add e.base (take e.middle values) i v)
    ∙ ap (λ vs. frame e.fun e.place (slice_set (locals_in values e) i v) (reverse vs))
    (drop-set-lt e.middle values (e.base + i) v within)

-- is in no frame beneath
set_below : (values : List Value) (e : Extent) (below : List Extent) (i : ℕ) (v : Value)
    → below_in (slice_set values (e.base + i) v) e below ≡ below_in values e below
set_below values e below i v =
    ap (λ vs. frames_in vs below) (take-set-le e.base values (e.base + i) v (omega arith))

length-locals : (values : List Value) (e : Extent) → e.middle ≤ length values
    → length (locals_in values e) ≡ e.middle - e.base
length-locals values e high =
    length-drop e.base (take e.middle values)
    ∙ ap (λ n. n - e.base) (length-take-le e.middle values high)

get_local : (values : List Value) (e : Extent) (i : ℕ) (d : Value) → e.middle ≤ length values
    → i < length (locals_in values e)
    → slice_get (locals_in values e) i ≡ Some (get_or values (e.base + i) d)
get_local values e i d high lt =
    let fits : e.base + i < e.middle = omega (arith, length-locals values e high, lt) in
    slice_get-get_or (locals_in values e) i d lt
    ∙ ap Some (get_or-drop e.base (take e.middle values) i d
    ∙ get_or-take e.middle values (e.base + i) d fits)

-- a local stands so far above the frame's base as its number
pub get_done : (values : List Value) (e : Extent) (i : ℕ) (d : Value) (top : Frame)
    → e.middle ≤ length values → top_in values e ≡ top → i < length top.locals
    → slice_get top.locals i ≡ Some (get_or values (e.base + i) d)
get_done values e i d top high is lt =
    let fits : i < length (locals_in values e) = omega (arith, ap (λ f. length f.locals) is, lt) in
    sym (ap (λ f. slice_get f.locals i) is) ∙ get_local values e i d high fits

-- setting a value there sets the local
pub set_done : (number parent turns : ℕ) (last : ℤ) (values : List Value)
    (e : Extent) (below : List Extent) (i : ℕ) (v : Value) (old : Standing)
    → AreLaid (length values) (e ∷ below)
    → standing number parent values e below turns last ≡ old → i < length old.top.locals
    → standing number parent (slice_set values (e.base + i) v) e below turns last
    ≡ with_locals old (slice_set old.top.locals i v)
set_done number parent turns last values e below i v old laid is lt =
    let made : Frame → List Frame → Standing = λ top frames. record {
      number = number;
      parent = parent;
      top = top;
      below = frames;
      turns = turns;
      last = last;
    } in
    let size = ap (λ (s : Standing). length s.top.locals) is in
    let fits : e.base + i < e.middle = omega (arith, length-locals values e laid.1, size, lt) in
    let sets : Standing → Standing = λ s. with_locals s (slice_set s.top.locals i v) in
    let top = frame e.fun e.place (slice_set (locals_in values e) i v) (operands_in values e) in
    ap (λ top. made top (below_in (slice_set values (e.base + i) v) e below))
    (set_top values e i v fits)
    ∙ ap (made top) (set_below values e below i v)
    ∙ ap sets is

-- the last value apart from those before it
last_apart : (values : List Value) (n : ℕ) (d : Value) → n + 1 ≡ length values
    → values ≡ take n values ++ get_or values n d ∷ []
last_apart values n d is =
    sym (take_all (n + 1) values (omega (arith, is))) ∙ take_more values n d (omega (arith, is))

-- a value set in the place of the last one
last_set : (values : List Value) (n : ℕ) (d v : Value) → n + 1 ≡ length values
    → slice_set values n v ≡ take n values ++ v ∷ []
last_set values n d v is =
    let front = take n values in
    let size : length front ≡ n = length-take-le n values (omega (arith, is)) in
    ap (λ vs. slice_set vs n v) (last_apart values n d is)
    ∙ ap (λ k. slice_set (front ++ get_or values n d ∷ []) k v) (sym size)
    ∙ set-append_seam front (get_or values n d) [] v

-- a shred with one value more is one with one operand more
more_held : (number parent turns : ℕ) (last : ℤ) (front : List Value) (e : Extent)
    (below : List Extent) (v : Value) → e.base ≤ e.middle → e.middle ≤ length front
    → standing number parent (front ++ v ∷ []) e below turns last
    ≡ record {
      number = number;
      parent = parent;
      top = frame e.fun e.place (locals_in front e) (v ∷ operands_in front e);
      below = below_in front e below;
      turns = turns;
      last = last;
    }
more_held number parent turns last front e below v low high =
    let made : Frame → List Frame → Standing = λ top frames. record {
      number = number;
      parent = parent;
      top = top;
      below = frames;
      turns = turns;
      last = last;
    } in
    let values = front ++ v ∷ [] in
    let top = frame e.fun e.place (locals_in front e) (v ∷ operands_in front e) in
    ap (λ top. made top (below_in values e below)) (added_top front (v ∷ []) e low high)
    ∙ ap (made top) (added_below front (v ∷ []) e below (omega (arith, low, high)))

-- setting the last value sets the operand on the top
pub top_set : (number parent turns : ℕ) (last : ℤ) (values : List Value) (e : Extent)
    (below : List Extent) (n : ℕ) (d v : Value) (old : Standing)
    → AreLaid (length values) (e ∷ below)
    → standing number parent values e below turns last ≡ old → 0 < length old.top.operands
    → n ≡ length values - 1
    → (standing number parent (slice_set values n v) e below turns last
    ≡ with_operands old (v ∷ drop 1 old.top.operands))
    × (old.top.operands ≡ get_or values n d ∷ drop 1 old.top.operands)
top_set number parent turns last values e below n d v old laid is some there =
    let front = take n values in
    let x = get_or values n d in
    let stands : List Value → Standing =
    λ vs. standing number parent vs e below turns last in
    let sets : Standing → Standing = λ s. with_operands s (v ∷ drop 1 s.top.operands) in
    let count : length (operands_in values e) ≡ length values - e.middle =
    length-reverse (drop e.middle values) ∙ length-drop e.middle values in
    let size = ap (λ (s : Standing). length s.top.operands) is in
    let at : n + 1 ≡ length values = omega (arith, count, size, some, there) in
    let few : length front ≡ n = length-take-le n values (omega (arith, at)) in
    let high : e.middle ≤ length front = omega (arith, count, size, some, few, at) in
    let held = more_held number parent turns last front e below x laid.0 high in
    let before : old ≡ stands (front ++ x ∷ []) =
    sym is ∙ ap stands (last_apart values n d at) in
    let was = before ∙ held in (
      ap stands (last_set values n d v at)
          ∙ more_held number parent turns last front e below v laid.0 high
          ∙ ap sets (sym was),
      ap (λ (s : Standing). s.top.operands) was
          ∙ ap (λ (s : Standing). x ∷ drop 1 s.top.operands) (sym was),
    )

-- a frame without values stands at the end of the values
empty_at : (values : List Value) (e : Extent) → e.base ≤ e.middle → e.middle ≤ length values
    → locals_in values e ≡ [] → operands_in values e ≡ [] → take e.base values ≡ values
empty_at values e low high locals operands =
    let above : length values - e.middle ≡ 0 =
    sym (length-reverse (drop e.middle values) ∙ length-drop e.middle values)
    ∙ ap length operands in
    let between : e.middle - e.base ≡ 0 = sym (length-locals values e high) ∙ ap length locals in
    take_all e.base values (omega (arith, above, between))

-- the frame beneath it is then the last one
pub left_done : (values : List Value) (e caller : Extent) (stack rest : List Extent)
    (below : List Frame) → AreLaid (length values) (e ∷ reverse stack)
    → below_in values e (reverse stack) ≡ below
    → locals_in values e ≡ [] → operands_in values e ≡ [] → stack ≡ rest ++ caller ∷ []
    → below ≡ top_in values caller ∷ below_in values caller (reverse rest)
left_done values e caller stack rest below laid is locals operands items =
    sym is ∙ ap (below_in values e) (ap reverse items ∙ reverse-append rest (caller ∷ []))
    ∙ ap (λ vs. frames_in vs (caller ∷ reverse rest))
    (empty_at values e laid.0 laid.1 locals operands)

-- the operands in the order of the values, the n topmost ones apart
apart : (ops : List Value) (k : ℕ) → reverse ops ≡ reverse (drop k ops) ++ reverse (take k ops)
apart ops k =
    ap reverse (sym (take-append-drop k ops)) ∙ reverse-append (take k ops) (drop k ops)

length-topmost : (ops : List Value) (n : ℕ) → n ≤ length ops
    → length (reverse (drop (length ops - n) ops)) ≡ n
length-topmost ops n few =
    let k = length ops - n in
    let back : length ops - k ≡ n = omega (arith, few) in
    length-reverse (drop k ops) ∙ length-drop k ops ∙ back

topmost : (ops : List Value) (n : ℕ) → n ≤ length ops
    → reverse (take n (reverse ops)) ≡ drop (length ops - n) ops
topmost ops n few =
    let k = length ops - n in
    let size = length-topmost ops n few in
    ap (λ os. reverse (take n os)) (apart ops k)
    ∙ ap reverse (take_at (reverse (drop k ops)) (reverse (take k ops)) n size)
    ∙ reverse-reverse (drop k ops)

beneath : (ops : List Value) (n : ℕ) → n ≤ length ops
    → drop n (reverse ops) ≡ reverse (take (length ops - n) ops)
beneath ops n few =
    let k = length ops - n in
    let size = length-topmost ops n few in
    ap (drop n) (apart ops k) ∙ drop_at (reverse (drop k ops)) (reverse (take k ops)) n size

-- a function that is entered takes the n topmost operands as its first locals, where they stand
pub entered_done : (number parent turns : ℕ) (last : ℤ) (values firsts : List Value)
    (e : Extent) (below : List Extent) (fun n base middle : ℕ) (old : Standing)
    → AreLaid (length values) (e ∷ below)
    → standing number parent values e below turns last ≡ old → n ≤ length old.top.operands
    → base ≡ length values - n → middle ≡ length (values ++ firsts)
    → standing number parent (values ++ firsts)
    (record { fun = fun; place = 0; base = base; middle = middle }) (e ∷ below) turns last
    ≡ record old {
      top = frame fun 0 (reverse (take n old.top.operands) ++ firsts) [];
      below = record old.top { operands = drop n old.top.operands } ∷ old.below;
    }
entered_done number parent turns last values firsts e below fun n base middle old laid is few at
    ends =
    let vs = values ++ firsts in
    let ops = drop e.middle values in
    let size : length (reverse ops) ≡ length values - e.middle =
    length-reverse ops ∙ length-drop e.middle values in
    let fits : n ≤ length ops =
    omega (arith, length-drop e.middle values, size, ap (λ s. length s.top.operands) is, few) in
    let k = length ops - n in
    let there : base ≡ e.middle + k =
    omega (arith, at, length-drop e.middle values, fits, laid.1) in
    let args = reverse (take n (reverse ops)) in
    let whole : take middle vs ≡ vs = take_all middle vs (omega (arith, ends)) in
    let none : drop middle vs ≡ [] = drop_all middle vs (omega (arith, ends)) in
    let last_ones : drop base values ≡ args =
    ap (λ b. drop b values) there ∙ sym (drop-drop k e.middle values)
    ∙ sym (topmost ops n fits) in
    let locals : drop base (take middle vs) ≡ args ++ firsts =
    ap (drop base) whole ∙ drop-append-le base values firsts (omega (arith, at))
    ∙ ap (λ vs. vs ++ firsts) last_ones in
    let under : take base vs ≡ take base values =
    take-append-le base values firsts (omega (arith, at)) in
    let old_locals : take e.middle (take base values) ≡ take e.middle values =
    take-take e.middle base values (omega (arith, there)) in
    let old_operands : reverse (drop e.middle (take base values)) ≡ drop n (reverse ops) =
    ap reverse (ap (λ b. drop e.middle (take b values)) there ∙ drop-take e.middle k values)
    ∙ sym (beneath ops n fits) in
    let old_below : take e.base (take base values) ≡ take e.base values =
    take-take e.base base values (omega (arith, there, laid.0)) in
    let made : (ls os before oldos under : List Value) → Standing =
    λ ls os before oldos under. record {
      number = number;
      parent = parent;
      top = frame fun 0 ls (reverse os);
      below = frame e.fun e.place (drop e.base before) oldos ∷ frames_in under below;
      turns = turns;
      last = last;
    } in
    let enters : Standing → Standing = λ s. record s {
      top = frame fun 0 (reverse (take n s.top.operands) ++ firsts) [];
      below = record s.top { operands = drop n s.top.operands } ∷ s.below;
    } in
    let of : List Value → List Value → List Value → Standing =
    λ ls os us. made ls os (take e.middle us) (reverse (drop e.middle us)) (take e.base us) in
    ap (λ ls. of ls (drop middle vs) (take base vs)) locals
    ∙ ap (λ os. of (args ++ firsts) os (take base vs)) none
    ∙ ap (of (args ++ firsts) []) under
    ∙ ap (λ ls. made (args ++ firsts) [] ls (reverse (drop e.middle (take base values)))
    (take e.base (take base values))) old_locals
    ∙ ap (λ os. made (args ++ firsts) [] (take e.middle values) os (take e.base (take base values)))
    old_operands
    ∙ ap (made (args ++ firsts) [] (take e.middle values) (drop n (reverse ops))) old_below
    ∙ ap enters is

pub ruleset laid = (added_top, added_below, length-frames)
