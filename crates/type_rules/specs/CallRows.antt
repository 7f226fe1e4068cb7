-- What the rows of built-in calls stand for.
use Rattle.std.specs.Prelude.{ℕ, List}
use Rattle.std.specs.Borrow.{Bor}
use Rattle.ck_values.specs.declared.kind.Elem.{Elem}
use Rattle.ck_values.specs.declared.kind.Kind.{Kind}
use Rattle.ck_typed.specs.declared.native.Native.{Native}
use Rattle.type_rules.specs.declared.calls.Holder.{Holder}
use Rattle.type_rules.specs.declared.calls.BuiltIn.{BuiltIn}
use Rattle.type_rules.specs.Calls.{Call, Signature}

abbrev pub row_meant : Holder × Bor (List ℕ) × Bor (List Elem) × Native × Kind → Call
row_meant r = record { on = r.0; name = r.1.now; params = r.2.now; native = r.3; gives = r.4 }

-- what a look-up answers
abbrev pub built_in : BuiltIn → Signature
built_in b = record { native = b.native; params = b.params.now; gives = b.gives }
