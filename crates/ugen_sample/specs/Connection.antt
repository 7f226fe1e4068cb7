-- How unit generators are connected.
use Rattle.std.specs.Prelude.{ℕ, Bool, true, false}
use Rattle.ck_values.specs.declared.side.Side.{Side}
use Rattle.ck_values.specs.declared.side.Side.TheVariants.{Both, Left, Right}

-- a connection between two unit generators, by their places among all of them, and the side of the
-- reader that it goes to
pub record Connection : Type 0 where
  pub from : ℕ
  pub to : ℕ
  pub side : Side

abbrev pub same_side : Side → Side → Bool
same_side Both Both = true
same_side Left Left = true
same_side Right Right = true
same_side _ _ = false
