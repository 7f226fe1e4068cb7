use Rattle.std.proofs.Common.{◌≡◌, List, ℕ, subst, ◌∙◌}
use Rattle.ck_edges.specs.Sink.{Appends, AppendsFront}
use Rattle.ck_typed.specs.View.{view_program}
use Rattle.code_listing.specs.Listing.{listing_of}
use Rattle.program_answers.specs.Codes.{scheme_of}
use Rattle.run_report.specs.declared.status.Status.TheVariants.{Done}
use Rattle.program_answers.proofs.Steps.{write_whole, write_part, wanting}
use Rattle.program_answers.proofs.writing.list.Goals as goal

pub returns-in-Err : goal.returns-in-Err
returns-in-Err g c = λ sheets press_faults. wanting _ _ _ c.from.ensures

pub returns-in-Ok-write : goal.returns-in-Ok-write
returns-in-Ok-write g c =
    let lines : c.as_slice.result.now ≡ listing_of (scheme_of (view_program c.args.program)) =
    c.as_slice.ensures.value ∙ c.in-Ok.ensures in
    let P : List ℕ → Type 0 =
    Appends (g.O.Sink.written c.args.out.now) (g.O.Sink.written c.write.new.self) in
    write_whole _ Done _ _ _ _ (subst P lines c.in-Ok-write.ensures.whole)

pub returns : goal.returns
returns g c =
    let lines : c.as_slice.result.now ≡ listing_of (scheme_of (view_program c.args.program)) =
    c.as_slice.ensures.value ∙ c.in-Ok.ensures in
    let P : List ℕ → Type 0 =
    AppendsFront (g.O.Sink.written c.args.out.now) (g.O.Sink.written c.write.new.self) in
    write_part _ Done _ _ _ _ (subst P lines c.in-Err-write.ensures.part) c.in-Err-write.ensures.failed
