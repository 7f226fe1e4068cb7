-- What the machine's acts mean.
use Rattle.std.specs.Prelude.{List, map}
use Rattle.ck_values.specs.Datum.{all_meant}
use Rattle.ck_store.specs.Store.{Act, Printed, Sporked, WokeOne, WokeAll, Removed}
use Rattle.machine_world.specs.declared.acts.Act.{Act as Recorded}
use Rattle.machine_world.specs.declared.acts.Act.TheVariants as recorded

-- the act that an act of the machine stands for
abbrev pub act_meant : Recorded → Act
act_meant (recorded.Print line) = Printed line
act_meant (recorded.Spork id fun args) = Sporked id fun (all_meant args)
act_meant (recorded.WakeOne event) = WokeOne event.serial
act_meant (recorded.WakeAll event) = WokeAll event.serial
act_meant (recorded.Remove number) = Removed number

-- the acts that these stand for
abbrev pub all_acts_meant : List Recorded → List Act
all_acts_meant acts = map act_meant acts
