-- The built-in calls: what each is made on, its name, its arguments, and what it gives.
use Rattle.std.specs.Prelude.{ℕ, Bool, ◌&&◌, nat_eq, List, length, map, Option, find}
use Rattle.std.specs.List.{list_any}
use Rattle.std.specs.Option.{option_map}
use Rattle.std.specs.Str.{bytes_eq}
use Rattle.ck_values.specs.declared.kind.Elem.{Elem}
use Rattle.ck_values.specs.declared.kind.Kind.{Kind}
use Rattle.ck_syntax.specs.Tree.{Name}
use Rattle.ck_typed.specs.declared.native.Native.{Native}
use Rattle.type_rules.specs.declared.calls.Holder.{Holder}
use Rattle.type_rules.specs.declared.calls.TheConstants.{CALLS}
use Rattle.type_rules.specs.contracts.calls.Holder as holder_enum
use denote.Enum.Bare.{sameb}

-- what it is made on, its name, its arguments, the call, and what it gives
pub record Call : Type 0 where
  pub on : Holder
  pub name : Name
  pub params : List Elem
  pub native : Native
  pub gives : Kind

abbrev pub call : Holder → Name → List Elem → Native → Kind → Call
call h n ps native k = record { on = h; name = n; params = ps; native = native; gives = k }

-- the calls are the rows of the table of src/calls.rt
unfoldable pub calls : List Call
calls = map (λ r. call r.0 r.1.now r.2.now r.3 r.4) CALLS.now

abbrev pub is_called : Holder → Name → Call → Bool
is_called h n c = sameb holder_enum.the_type c.on h && bytes_eq c.name n

-- there is a call of this name
abbrev pub has_call : Holder → Name → Bool
has_call h n = list_any (is_called h n) calls

abbrev pub takes : Holder → Name → (count : ℕ) → Call → Bool
takes h n count c = is_called h n c && nat_eq (length c.params) count

-- what a call takes and gives
pub record Signature : Type 0 where
  pub native : Native
  pub params : List Elem
  pub gives : Kind

abbrev pub signature : Call → Signature
signature c = record { native = c.native; params = c.params; gives = c.gives }

-- the call of this name that takes so many arguments
abbrev pub call_of : Holder → Name → (count : ℕ) → Option Signature
call_of h n count = option_map signature (find (takes h n count) calls)
