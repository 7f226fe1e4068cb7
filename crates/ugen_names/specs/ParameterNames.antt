-- The names of the parameters of unit generators.
use Rattle.std.specs.Prelude.{ℕ, List, codes}
use Rattle.ugen_names.specs.declared.param.Param.{Param}
use Rattle.ugen_names.specs.declared.param.Param.TheVariants.{Gain, Op, Last, Freq, Phase, Sync, Width, Next, Duration, Value, Target, State, Max, Delay, Frac, Mix, Pole, Zero, A1, A2, B0, B1, B2, Pan, Read, Pos, Rate, Loop, Samples}

-- a parameter of unit generators, as the language spells it
abbrev pub parameter_name : Param → List ℕ
parameter_name Gain = codes "gain"
parameter_name Op = codes "op"
parameter_name Last = codes "last"
parameter_name Freq = codes "freq"
parameter_name Phase = codes "phase"
parameter_name Sync = codes "sync"
parameter_name Width = codes "width"
parameter_name Next = codes "next"
parameter_name Duration = codes "duration"
parameter_name Value = codes "value"
parameter_name Target = codes "target"
parameter_name State = codes "state"
parameter_name Max = codes "max"
parameter_name Delay = codes "delay"
parameter_name Frac = codes "frac"
parameter_name Mix = codes "mix"
parameter_name Pole = codes "pole"
parameter_name Zero = codes "zero"
parameter_name A1 = codes "a1"
parameter_name A2 = codes "a2"
parameter_name B0 = codes "b0"
parameter_name B1 = codes "b1"
parameter_name B2 = codes "b2"
parameter_name Pan = codes "pan"
parameter_name Read = codes "read"
parameter_name Pos = codes "pos"
parameter_name Rate = codes "rate"
parameter_name Loop = codes "loop"
parameter_name Samples = codes "samples"
