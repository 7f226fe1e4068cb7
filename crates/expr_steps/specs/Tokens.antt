-- How many steps a token of a program makes.
use Rattle.std.specs.Prelude.{ℕ}

-- the steps that a token makes at most. The making of an object has the most: three for each of 128
-- ancestors with statements in their braces, and a few around them
abbrev pub token_steps : ℕ
token_steps = 512
