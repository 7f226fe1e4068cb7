-- The calls on envelopes.
use Rattle.std.specs.Prelude.{Bool, true, false}
use Rattle.ck_typed.specs.declared.native.Native.{Native}
use Rattle.ck_typed.specs.declared.native.Native.TheVariants.{KeyOn, KeyOff, KeyOnWhere, KeyOffWhere}

-- the call that presses a key, or lets it go
abbrev pub key_call : (is_on : Bool) → Native
key_call true = KeyOn
key_call false = KeyOff

-- the same with an int
abbrev pub key_where_call : (is_on : Bool) → Native
key_where_call true = KeyOnWhere
key_where_call false = KeyOffWhere
