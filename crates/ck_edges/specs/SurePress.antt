use Rattle.std.specs.Prelude.{Bool}
use Rattle.ck_edges.specs.declared.sure.SurePress.{SurePress}

-- whether a sheet stands unended
abbrev pub has_open : SurePress → Bool
has_open press = press.open
