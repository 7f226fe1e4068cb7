-- What a check answers: what it was to find, or the first fault.
use Rattle.std.specs.Prelude.{ℕ, ◌≡◌}
use Rattle.fixed_point.specs.Wanting.{out_of_memory}
use Rattle.type_table.specs.declared.fault.FaultKind.{FaultKind}
use Rattle.type_table.specs.declared.fault.FaultKind.TheVariants.{UnknownName}
use Rattle.type_table.specs.declared.fault.TypeFault.{TypeFault}
use Rattle.type_table.specs.declared.fault.TypeFault.TheVariants.{Typing, Memory}

-- a fault: its file by its place among the files, its line, and what is wrong there
pub record Fault : Type 0 where
  pub file : ℕ
  pub line : ℕ
  pub kind : FaultKind

pub data Answer (A : Type 0) : Type 0 where
  gives : A → Answer A
  refused : Fault → Answer A

-- and what is found goes on
abbrev pub and_then : {A B : Type 0} → Answer A → (A → Answer B) → Answer B
and_then (gives a) next = next a
and_then (refused why) next = refused why

abbrev pub wrong : {A : Type 0} → (file line : ℕ) → FaultKind → Answer A
wrong file line kind = refused (record { file = file; line = line; kind = kind })

-- what the code answers -------------------------------------------------------------------------

-- a refusal that isn't want of memory
abbrev pub IsFault : TypeFault → Type 0
IsFault why = why ≡ Memory out_of_memory → ⊥

-- the fault that the code names; want of memory is none, and where it may come no clause asks what
-- it names
abbrev pub fault_of : TypeFault → Fault
fault_of (Typing file line kind) = record { file = file; line = line; kind = kind }
fault_of (Memory _) = record { file = 0; line = 0; kind = UnknownName }

-- refused for the fault that the code names
abbrev pub fault : {A : Type 0} → TypeFault → Answer A
fault why = refused (fault_of why)
