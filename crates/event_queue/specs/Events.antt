-- Events as keys, and what waits on them.
use Rattle.std.specs.Prelude.{ℕ, List, map}
use Rattle.event_queue.specs.declared.event.Event.{Event}
use Rattle.event_queue.specs.Waiters.{Wait}

-- the number of an event's object
abbrev pub serial_of : Event → ℕ
serial_of event = event.object.serial

-- what a shred in the queue of an event stands for
abbrev pub wait_of : Event × ℕ → Wait
wait_of entry = record { event = entry.0.object; shred = entry.1 }

abbrev pub all_waits : List (Event × ℕ) → List Wait
all_waits entries = map wait_of entries
