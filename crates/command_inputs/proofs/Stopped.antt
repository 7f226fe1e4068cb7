-- Why the files of a command don't all have trees.
use Rattle.std.proofs.Common.{◌≡◌, ℕ, List, Vec, Err, subst}
use Rattle.std.specs.Prelude.{Result}
use Rattle.std.specs.declared.alloc.Global.{Global}
use Rattle.command_inputs.specs.Senses.{FirstRefused, contents_of, wrong_text}
use Rattle.command_inputs.specs.declared.sense.Wrong.{Wrong}
use Rattle.command_inputs.specs.declared.sources.SourceStop.{SourceStop}
use Rattle.command_inputs.specs.declared.sources.SourceStop.TheVariants.{Refused}

-- the same refusal
pub record SameRefusal (place there line on : ℕ) (wrong other : Wrong) : Type 0 where
  pub place_is : place ≡ there
  pub line_is : line ≡ on
  pub wrong_is : wrong ≡ other

pub refused_is : {A : Type 0} {place there line on : ℕ} {wrong other : Wrong}
    → ◌≡◌ {A = Result A SourceStop} (Err (Refused place line wrong)) (Err (Refused there on other))
    → SameRefusal place there line on wrong other
refused_is same = record { place_is = cc; line_is = cc; wrong_is = cc }

pub refused_there : (files : List (Vec ℕ Global)) (place there line on : ℕ) (wrong other : Wrong)
    → SameRefusal place there line on wrong other
    → FirstRefused (contents_of files) place line (wrong_text wrong)
    → FirstRefused (contents_of files) there on (wrong_text other)
refused_there files place there line on wrong other same first =
    subst (λ w. FirstRefused (contents_of files) there on (wrong_text w)) same.wrong_is
    (subst (λ l. FirstRefused (contents_of files) there l (wrong_text wrong)) same.line_is
    (subst (λ p. FirstRefused (contents_of files) p line (wrong_text wrong)) same.place_is first))
