use Rattle.std.proofs.Common.{◌++◌, ℕ, List, ap, ◌∙◌}
use Rattle.ck_code.specs.declared.code.CodeParts.{CodeParts}
use Rattle.ck_typed.specs.View.{view_program}
use Rattle.code_listing.specs.Listing.{listing_of}
use Rattle.program_answers.proofs.Codes.{scheme_is}
use Rattle.program_answers.proofs.writing.listing_of.Goals as goal

pub returns : goal.returns
returns c =
    c.in_ok-listing.ensures.ok
    ∙ ap (λ (before : List ℕ). before ++ listing_of c.parts.result.now) c.new-lines.ensures.items
    ∙ ap (λ (code : CodeParts). listing_of code) (c.parts.ensures.parts
    ∙ scheme_is (view_program c.args.program) c.in_ok-code.code c.in_ok-code.ensures.scheme)
