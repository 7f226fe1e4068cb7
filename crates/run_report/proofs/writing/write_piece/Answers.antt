use Rattle.std.proofs.Common.{◌≡◌, [], List, ℕ, sym, subst, ◌∙◌}
use Rattle.ck_edges.specs.Sink.{Appends}
use Rattle.run_report.proofs.Steps.{appends_nothing, no_length}
use Rattle.run_report.proofs.writing.write_piece.Goals as goal

-- nothing is written of an empty piece
pub returns-then-is_empty-clause-whole : goal.returns-then-is_empty-clause-whole
returns-then-is_empty-clause-whole g c =
    let none : c.args.piece.now ≡ [] =
    no_length c.args.piece.now (sym c.is_empty.ensures ∙ c.if-is_empty.true) in
    let P : List ℕ
    → Type 0 = Appends (g.O.Sink.written c.args.out.now) (g.O.Sink.written c.args.out.now) in
    subst P (sym none) (appends_nothing (g.O.Sink.written c.args.out.now))
