-- What a rendering leaves on a press: what was there before, and at most one sheet more.
use Rattle.std.proofs.Common.{◌≡◌, ℕ, List, [], ◌∷◌, ◌++◌, Option, Some, None, true, false, Ok, Err, refl, sym, ap, ◌∙◌, subst, append_assoc}
use Rattle.std.specs.Prelude.{Result}
use Rattle.ck_edges.specs.Press.{Sheet, Changes, with_written, with_ended}
use Rattle.chuck_vm.specs.declared.tally.Tally.{Tally}
use Rattle.run_report.specs.declared.cut.Cut.{Cut}
use Rattle.run_report.specs.declared.cut.Cut.TheVariants as cut
use Rattle.run_report.specs.Step.{Step, Write, BeginSheet, WriteSheet, EndSheet, sheets_after, Edges, Does, IsPart}
use Rattle.run_report.specs.Answer.{WholeAnswer}
use Rattle.run_report.specs.Ends.{Moment, KeepsTold, HasDone, EndsRun}
use Rattle.run_report.proofs.Steps.{keeps_same, Remains, remains_all, remains_then}

-- steps on the last sheet leave those before it
written_behind : (bytes : List ℕ) (front : List Sheet) (s : Sheet) (rest : List Sheet)
    → with_written bytes (front ++ s ∷ rest) ≡ front ++ with_written bytes (s ∷ rest)
written_behind bytes [] s rest = refl
written_behind bytes (f ∷ []) s rest = refl
written_behind bytes (f ∷ g ∷ front) s rest =
    ap (λ sheets. f ∷ sheets) (written_behind bytes (g ∷ front) s rest)

ended_behind : (front : List Sheet) (s : Sheet) (rest : List Sheet)
    → with_ended (front ++ s ∷ rest) ≡ front ++ with_ended (s ∷ rest)
ended_behind [] s rest = refl
ended_behind (f ∷ []) s rest = refl
ended_behind (f ∷ g ∷ front) s rest =
    ap (λ sheets. f ∷ sheets) (ended_behind (g ∷ front) s rest)

-- a list that has a sheet still has one after a step
written_some : (bytes : List ℕ) (s : Sheet) (rest : List Sheet)
    → (t : Sheet) × (more : List Sheet) × (with_written bytes (s ∷ rest) ≡ t ∷ more)
written_some bytes s [] = (record s { bytes = s.bytes ++ bytes }, [], refl)
written_some bytes s (r ∷ rest) = (s, with_written bytes (r ∷ rest), refl)

ended_some : (s : Sheet) (rest : List Sheet)
    → (t : Sheet) × (more : List Sheet) × (with_ended (s ∷ rest) ≡ t ∷ more)
ended_some s [] = (record s { ended = true }, [], refl)
ended_some s (r ∷ rest) = (s, with_ended (r ∷ rest), refl)

-- steps leave the sheets before the last one
steps_behind : (steps : List Step) (front : List Sheet) (s : Sheet) (rest : List Sheet)
    → sheets_after steps (front ++ s ∷ rest) ≡ front ++ sheets_after steps (s ∷ rest)
steps_behind [] front s rest = refl
steps_behind (Write bytes ∷ steps) front s rest = steps_behind steps front s rest
steps_behind (BeginSheet name ∷ steps) front s rest =
    let new : List Sheet = record { name = name; bytes = []; ended = false } ∷ [] in
    ap (sheets_after steps) (append_assoc front (s ∷ rest) new)
    ∙ steps_behind steps front s (rest ++ new)
steps_behind (WriteSheet bytes ∷ steps) front s rest =
    let some = written_some bytes s rest in
    ap (sheets_after steps) (written_behind bytes front s rest
    ∙ ap (λ sheets. front ++ sheets) some.2)
    ∙ steps_behind steps front some.0 some.1
    ∙ ap (λ sheets. front ++ sheets_after steps sheets) (sym some.2)
steps_behind (EndSheet ∷ steps) front s rest =
    let some = ended_some s rest in
    ap (sheets_after steps) (ended_behind front s rest ∙ ap (λ sheets. front ++ sheets) some.2)
    ∙ steps_behind steps front some.0 some.1
    ∙ ap (λ sheets. front ++ sheets_after steps sheets) (sym some.2)

-- steps that begin a sheet first keep what was there
begun_keeps : (name : List ℕ) (steps : List Step) (old new : Option (List Sheet))
    → Changes old new (sheets_after (BeginSheet name ∷ steps)) → KeepsTold old new
begun_keeps name steps None new changes = tt
begun_keeps name steps (Some sheets) new changes =
    let one : Sheet = record { name = name; bytes = []; ended = false } in
    (sheets_after steps (one ∷ []), changes ∙ ap Some (steps_behind steps sheets one []))

none_keeps : (old new : Option (List Sheet)) → Changes old new (λ s. s) → KeepsTold old new
none_keeps None new changes = tt
none_keeps (Some sheets) new changes =
    subst (KeepsTold (Some sheets)) (sym changes) (keeps_same (Some sheets))

-- so does each front of such steps
front_keeps : (name : List ℕ) (steps front rest : List Step) (old new : Edges)
    → BeginSheet name ∷ steps ≡ front ++ rest → Does front old new
    → KeepsTold old.sheets new.sheets
front_keeps name steps [] rest old new is does = none_keeps old.sheets new.sheets does.sheets
front_keeps name steps (x ∷ front) rest old new is does =
    let first : x ≡ BeginSheet name = cc in
    begun_keeps name front old.sheets new.sheets
    (subst (λ y. Changes old.sheets new.sheets (sheets_after (y ∷ front))) first does.sheets)

part_keeps : (name : List ℕ) (steps front rest : List Step) (step : Step) (part : List Step)
    (old new : Edges) → BeginSheet name ∷ steps ≡ front ++ step ∷ rest → IsPart step part
    → Does (front ++ part) old new → KeepsTold old.sheets new.sheets
part_keeps name steps [] rest step part old new is so does =
    let first : step ≡ BeginSheet name = cc in
    let none : part ≡ [] = subst (λ s. IsPart s part) first so in
    none_keeps old.sheets new.sheets
    (subst (λ p. Changes old.sheets new.sheets (sheets_after p)) none does.sheets)
part_keeps name steps (x ∷ front) rest step part old new is so does =
    let first : x ≡ BeginSheet name = cc in
    begun_keeps name (front ++ part) old.sheets new.sheets
    (subst (λ y. Changes old.sheets new.sheets (sheets_after (y ∷ front ++ part))) first
    does.sheets)

-- however carrying them out ended
pub run_keeps : (result : Result Tally Cut) (answer : WholeAnswer) (name : List ℕ)
    (steps : List Step) (old new : Moment) → answer.steps ≡ BeginSheet name ∷ steps
    → EndsRun result answer old new → KeepsTold old.edges.sheets new.edges.sheets
run_keeps (Ok trapped) answer name steps old new is ends =
    begun_keeps name steps old.edges.sheets new.edges.sheets
    (subst (λ all. Changes old.edges.sheets new.edges.sheets (sheets_after all)) is
    ends.0.does.sheets)
run_keeps (Err cut.WriteFault) answer name steps old new is ends =
    let some = ends.0 in
    part_keeps name steps some.0 some.1 some.2 some.3 old.edges new.edges (sym is ∙ some.4) some.5
    some.6
run_keeps (Err (cut.Memory _)) answer name steps old new is ends =
    front_keeps name steps ends.0 ends.1 old.edges new.edges (sym is ∙ ends.2) ends.3

-- the steps around those of all blocks, one after another
module _ (sheet header : List ℕ) (blocks : List Step) (old : Moment) where
  abbrev pub sheet_steps : List Step
  sheet_steps = BeginSheet sheet ∷ WriteSheet header ∷ (blocks ++ EndSheet ∷ [])

  pub begun : (at : Moment) → HasDone (BeginSheet sheet ∷ []) old at
      → Remains sheet_steps (WriteSheet header ∷ (blocks ++ EndSheet ∷ [])) old at
  begun at done =
      remains_then sheet_steps (BeginSheet sheet ∷ [])
      (WriteSheet header ∷ (blocks ++ EndSheet ∷ [])) old old at (remains_all sheet_steps old) done

  pub headed : (first at : Moment) → HasDone (BeginSheet sheet ∷ []) old first
      → HasDone (WriteSheet header ∷ []) first at
      → Remains sheet_steps (blocks ++ EndSheet ∷ []) old at
  headed first at done more =
      remains_then sheet_steps (WriteSheet header ∷ []) (blocks ++ EndSheet ∷ []) old first at
      (begun first done) more

  pub filled : (first second at : Moment) → HasDone (BeginSheet sheet ∷ []) old first
      → HasDone (WriteSheet header ∷ []) first second → HasDone blocks second at
      → Remains sheet_steps (EndSheet ∷ []) old at
  filled first second at done more all =
      remains_then sheet_steps blocks (EndSheet ∷ []) old second at (headed first second done more)
      all
