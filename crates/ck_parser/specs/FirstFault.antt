-- Why a list of tokens is refused.
use Rattle.std.specs.Prelude.{List}
use Rattle.ck_lexer.specs.declared.token.Token.{Token}
use Rattle.ck_parser.specs.declared.parse_fault.ParseFault.{ParseFault}
use Rattle.ck_parser.specs.declared.parse_fault.ParseFault.TheVariants.{Syntax, TooDeep, Memory}
use Rattle.ck_parser.specs.Parse.{IsSyntaxFault, IsDepthFault}

-- Memory may be short at any list.
abbrev pub IsFirstFault : List Token → ParseFault → Type 0
IsFirstFault ts (Syntax line) = IsSyntaxFault ts line
IsFirstFault ts (TooDeep line) = IsDepthFault ts line
IsFirstFault ts (Memory _) = Unit {0}
