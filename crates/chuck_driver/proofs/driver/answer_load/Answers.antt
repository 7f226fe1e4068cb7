use Rattle.std.proofs.Common.{◌≤◌, [], length, sym, subst, Vec, ℕ, List}
use Rattle.std.proofs.lemmas.List.Elements.{All-nil, All-cons}
use Rattle.std.specs.declared.alloc.Global.{Global}
use Rattle.ck_base.specs.declared.limits.TheConstants.{MAX_FILE_BYTES}
use Rattle.load_text.proofs.Short.{text_is_short}
use Rattle.chuck_driver.proofs.Answering.{answered_unstarted}
use Rattle.chuck_driver.proofs.driver.answer_load.Goals as goal

pub returns-in-Err-clause-answered : goal.returns-in-Err-clause-answered
returns-in-Err-clause-answered g c = answered_unstarted _ _ _ _ _ _ _ c.from.ensures

pub answer-requires-clause-short : goal.answer-requires-clause-short
answer-requires-clause-short g c =
    All-cons (λ (file : Vec ℕ Global). length file.items ≤ MAX_FILE_BYTES) c.in-Ok.text []
    (subst (λ (bytes : List ℕ). length bytes ≤ MAX_FILE_BYTES)
    (sym c.in-Ok.ensures.text) (text_is_short c.args.seed))
    (All-nil (λ (file : Vec ℕ Global). length file.items ≤ MAX_FILE_BYTES))
