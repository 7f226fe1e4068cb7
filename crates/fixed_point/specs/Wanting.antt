-- Want of memory.
use Rattle.fixed_point.specs.declared.memory.Memory.{Memory}

-- the one want of memory: it has no contents
abbrev pub out_of_memory : Memory
out_of_memory = record { contents = tt }
