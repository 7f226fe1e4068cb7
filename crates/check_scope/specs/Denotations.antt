-- What an expression stands for: a value, a place for one, something to call, or a type.
use Rattle.std.specs.Prelude.{ℕ, Bool, true, false, ◌&&◌, ◌||◌, not, nat_lt, List, [], ◌∷◌, Option, Some, None, if◌then◌else◌}
use Rattle.std.specs.Option.{option_map}
use Rattle.ck_values.specs.declared.kind.Elem.TheVariants as elem
use Rattle.ck_values.specs.declared.kind.Kind.{Kind}
use Rattle.ck_values.specs.declared.kind.Kind.TheVariants as kind
use Rattle.ck_values.specs.declared.trap.Place.{Place}
use Rattle.ugen_names.specs.declared.table.UgenKind.{UgenKind}
use Rattle.ugen_names.specs.declared.table.UgenKind.TheVariants as ugen
use Rattle.ck_syntax.specs.Tree.{Name}
use Rattle.ck_typed.specs.declared.expr.Spot.{Spot}
use Rattle.ck_typed.specs.declared.expr.Spot.TheVariants as spot
use Rattle.ck_typed.specs.declared.operation.Variadic.TheVariants as variadic
use Rattle.ck_typed.specs.Tree as typed
use Rattle.ck_typed.specs.Tree.{Exprs, no_exprs, more_exprs}
use Rattle.type_rules.specs.Calls.{has_call}
use Rattle.type_rules.specs.Parameters.{Settable, parameter_of}
use Rattle.type_rules.specs.declared.calls.Holder.{Holder}
use Rattle.type_rules.specs.declared.calls.Holder.TheVariants as on
use Rattle.type_table.specs.Answer.{Answer, gives, and_then, wrong}
use Rattle.type_table.specs.declared.built_ins.BuiltInName.{BuiltInName}
use Rattle.type_table.specs.declared.built_ins.BuiltInName.TheVariants as name
use Rattle.type_table.specs.declared.fault.FaultKind.TheVariants.{UnknownName, Mismatch, BadPlace}
use Rattle.type_table.specs.declared.table.Member.{Member}
use Rattle.type_table.specs.declared.table.Member.TheVariants as member
use Rattle.type_table.specs.declared.table.Variable.{Variable}
use Rattle.type_table.specs.NameClash.{is_event_call}
use Rattle.type_table.specs.Names.{built_in, or_else}
use Rattle.type_table.specs.Table.{Table, class_of, class_named, fun_named, member_named, variable_named}
use Rattle.check_scope.specs.Scope.{Scope, local_named, local_kind, this_local, place, is_top, is_unseen, kind_now}

-- a typed expression: its kind, the place of its first token, and whether it is the literal `null`
pub record Typed : Type 0 where
  pub expr : typed.Expr
  pub kind : Kind
  pub place : Place
  pub is_null : Bool

abbrev pub typed_as : typed.Expr → Kind → Place → Typed
typed_as e k p = record { expr = e; kind = k; place = p; is_null = false }

-- what can be called
pub data Callee : Type 0 where
  -- a function by its number, and one that is named through a value
  numbered : ℕ → Callee
  through : typed.Expr → ℕ → Callee
  -- a member function of a receiver: its number and its slot
  method : typed.Expr → (fun slot : ℕ) → Callee
  -- a built-in call, by itself and on a receiver
  native : Holder → Name → Callee
  native_on : typed.Expr → Holder → Name → Callee
  -- a parameter of a unit generator
  param : typed.Expr → Settable → Callee
  -- `me.yield` and `me.exit`
  yields : Callee
  exits : Callee

-- a declaration: where its value stands, its kind, its first value, and whether it makes an object
-- or has a size
pub record Declaration : Type 0 where
  pub spot : Spot
  pub address : Exprs
  pub kind : Kind
  pub alone : typed.Expr
  pub makes : Bool

pub data Denotation : Type 0 where
  value : Typed → Denotation
  at : Spot → (address : Exprs) → Kind → Denotation
  callable : Callee → Denotation
  a_type : BuiltInName → Denotation
  declared : Declaration → Denotation
  -- a declaration with `auto`, which takes the kind of what is assigned to it: its name, and whether
  -- it has the form of one
  an_auto : Name → (has_form : Bool) → Denotation

abbrev pub one : typed.Expr → Exprs
one e = more_exprs e no_exprs

-- the value of what an expression at a place stands for
abbrev pub as_value : Scope → (line : ℕ) → Denotation → Answer Typed
as_value s l (value x) = gives x
as_value s l (at spot address k) =
    gives (typed_as (typed.Variadic (variadic.Read spot) address (place s l)) k (place s l))
as_value s l (callable c) = wrong s.file l Mismatch
as_value s l (a_type b) = wrong s.file l Mismatch
as_value s l (declared d) = gives (typed_as d.alone d.kind (place s l))
as_value s l (an_auto n has_form) = wrong s.file l BadPlace

-- a name by itself ------------------------------------------------------------------------------

-- `this`, for what is named without a receiver
abbrev pub with_this : Scope → (line : ℕ) → Option ℕ → (typed.Expr → Denotation) → Answer Denotation
with_this s l None named = wrong s.file l BadPlace
with_this s l (Some i) named =
    gives (named (typed.Variadic (variadic.Read (spot.Local i)) no_exprs (place s l)))

-- a public class doesn't see its file's variables and functions
abbrev pub is_public_class : Table → Option ℕ → Bool
is_public_class t None = false
is_public_class t (Some c) = (class_of t c).is_public

abbrev pub unless_public : Table → Scope → (line : ℕ) → Denotation → Answer Denotation
unless_public t s l m = if is_public_class t s.class then wrong s.file l BadPlace else gives m

-- Each place where a name is sought has nothing of this name, or what the name stands for there: a
-- fault, where it is there but can't be used.

-- the locals, from the innermost block outwards
abbrev pub in_locals : Scope → Name → Option (Answer Denotation)
in_locals s n =
    option_map (λ i. gives (at (spot.Local i) no_exprs (local_kind s i))) (local_named s n)

-- the member of this name that the class around has, or the nearest of its ancestors
abbrev pub member_here : Table → Option ℕ → Name → Option Member
member_here t None n = None
member_here t (Some c) n = member_named t c n

-- a member isn't found in its own arguments
abbrev pub unless_unseen : Scope → Name → Option Member → Option Member
unless_unseen s n x = if is_unseen s n then None else x

-- the fields and static members of the class around and its ancestors
abbrev pub in_fields : Table → Scope → (line : ℕ) → Option Member → Option (Answer Denotation)
in_fields t s l (Some (member.Field i k)) =
    Some (with_this s l (this_local t s) (λ this. at (spot.Field i) (one this) k))
in_fields t s l (Some (member.Static i k)) = Some (gives (at (spot.Static i) no_exprs k))
in_fields t s l _ = None

abbrev pub is_void : Kind → Bool
is_void kind.Void = true
is_void _ = false

-- top-level code sees the file variables that are declared before, and all code those with `auto`
-- that are
abbrev pub seen : Scope → Option Variable → Option Variable
seen s None = None
seen s (Some v) =
    if is_void (kind_now s v) || is_top s && not (nat_lt v.index s.reached) then None
    else Some (record v { kind = kind_now s v })

-- the variables of the file
abbrev pub in_variables : Table → Scope → (line : ℕ) → Name → Option (Answer Denotation)
in_variables t s l n =
    option_map (λ v. unless_public t s l (at (spot.Static v.index) no_exprs v.kind))
    (seen s (variable_named t s.file n))

-- the functions of the class around and its ancestors
abbrev pub in_methods : Table → Scope → (line : ℕ) → Option Member → Option (Answer Denotation)
in_methods t s l (Some (member.Fun f None)) = Some (gives (callable (numbered f)))
in_methods t s l (Some (member.Fun f (Some k))) =
    Some (with_this s l (this_local t s) (λ this. callable (method this f k)))
in_methods t s l _ = None

-- the calls that every class below Event has
abbrev pub in_event_calls : Table → Scope → (line : ℕ) → Name → (class : Option ℕ) →
    Option (Answer Denotation)
in_event_calls t s l n None = None
in_event_calls t s l n (Some c) =
    if is_event_call t c n
    then Some (with_this s l (this_local t s) (λ this. callable (native_on this on.Event n)))
    else None

-- the functions of the file
abbrev pub in_functions : Table → Scope → (line : ℕ) → Name → Option (Answer Denotation)
in_functions t s l n =
    option_map (λ f. unless_public t s l (callable (numbered f))) (fun_named t s.file n)

-- the classes that the file sees
abbrev pub in_classes : Table → Scope → Name → Option (Answer Denotation)
in_classes t s n =
    option_map (λ c. gives (a_type (name.Elem (elem.Class c)))) (class_named t s.file n)

-- the names that every program has
abbrev pub in_built_ins : Name → Option (Answer Denotation)
in_built_ins n = option_map (λ b. gives (a_type b)) (built_in n)

-- all places, in the order in which a name is sought in them
abbrev pub in_places : Table → Scope → (line : ℕ) → Name → List (Option (Answer Denotation))
in_places t s l n =
    in_locals s n ∷
    in_fields t s l (unless_unseen s n (member_here t s.class n)) ∷
    in_variables t s l n ∷
    in_methods t s l (member_here t s.class n) ∷
    in_event_calls t s l n s.class ∷
    in_functions t s l n ∷
    in_classes t s n ∷
    in_built_ins n ∷ []

-- what the first one has that has something
abbrev pub first_found : {A : Type 0} → List (Option A) → Option A
first_found [] = None
first_found (found ∷ others) = or_else found (first_found others)

abbrev pub or_unknown : Scope → (line : ℕ) → Option (Answer Denotation) → Answer Denotation
or_unknown s l None = wrong s.file l UnknownName
or_unknown s l (Some answer) = answer

-- a name stands for what the first place gives that has it
abbrev pub name_meaning : Table → Scope → (line : ℕ) → Name → Answer Denotation
name_meaning t s l n = or_unknown s l (first_found (in_places t s l n))

-- a member of a value ---------------------------------------------------------------------------

abbrev pub native_meaning : Scope → (line : ℕ) → typed.Expr → Holder → Name → Answer Denotation
native_meaning s l o holder n =
    if has_call holder n then gives (callable (native_on o holder n))
    else wrong s.file l UnknownName

-- of an object
abbrev pub object_meaning : Table → Scope → (line : ℕ) → typed.Expr → (class : ℕ) → Name →
    Option Member → Answer Denotation
object_meaning t s l o c n (Some (member.Field i k)) = gives (at (spot.Field i) (one o) k)
object_meaning t s l o c n (Some (member.Static i k)) = gives (at (spot.StaticOf i) (one o) k)
object_meaning t s l o c n (Some (member.Fun f None)) = gives (callable (through o f))
object_meaning t s l o c n (Some (member.Fun f (Some k))) = gives (callable (method o f k))
object_meaning t s l o c n (Some member.Auto) = wrong s.file l UnknownName
object_meaning t s l o c n None =
    if is_event_call t c n then gives (callable (native_on o on.Event n))
    else wrong s.file l UnknownName

-- whose calls a unit generator has: both kinds of envelope have those of the first
abbrev pub ugen_holder : UgenKind → Name → Option Holder
ugen_holder ugen.Envelope n = if has_call on.Envelope n then Some on.Envelope else None
ugen_holder ugen.Adsr n =
    if has_call on.Envelope n then Some on.Envelope else if has_call on.Adsr n then Some on.Adsr
    else None
ugen_holder _ n = None

-- the parameters of its kind, then the calls
abbrev pub ugen_meaning : Scope → (line : ℕ) → typed.Expr → UgenKind → Name → Answer Denotation
ugen_meaning s l o k n =
    or_unknown s l (first_found
    (option_map (λ p. gives (callable (param o p))) (parameter_of k n) ∷
    option_map (λ holder. gives (callable (native_on o holder n))) (ugen_holder k n) ∷ []))

abbrev pub member_of_kind : Table → Scope → (line : ℕ) → typed.Expr → Kind → Name → Answer Denotation
member_of_kind t s l o (kind.One (elem.Class c)) n = object_meaning t s l o c n (member_named t c n)
member_of_kind t s l o (kind.One (elem.Unit k)) n = ugen_meaning s l o k n
member_of_kind t s l o (kind.One elem.Shred) n = native_meaning s l o on.Shred n
member_of_kind t s l o (kind.One elem.Text) n = native_meaning s l o on.Text n
member_of_kind t s l o (kind.Row e) n = native_meaning s l o on.Array n
member_of_kind t s l o (kind.Grid e) n = native_meaning s l o on.Array n
member_of_kind t s l o _ n = wrong s.file l Mismatch

-- a member of a type's name: a static one --------------------------------------------------------

-- it is there, but isn't static
abbrev pub if_there : Scope → (line : ℕ) → Bool → Answer Denotation
if_there s l true = wrong s.file l BadPlace
if_there s l false = wrong s.file l UnknownName

abbrev pub static_meaning : Table → Scope → (line : ℕ) → (class : ℕ) → Name → Option Member →
    Answer Denotation
static_meaning t s l c n (Some (member.Static i k)) = gives (at (spot.Static i) no_exprs k)
static_meaning t s l c n (Some (member.Fun f None)) = gives (callable (numbered f))
static_meaning t s l c n (Some _) = wrong s.file l BadPlace
static_meaning t s l c n None = if_there s l (is_event_call t c n)

abbrev pub has_param : Option Settable → Bool
has_param None = false
has_param (Some p) = true

abbrev pub has_holder : Option Holder → Bool
has_holder None = false
has_holder (Some h) = true

abbrev pub member_of_type : Table → Scope → (line : ℕ) → BuiltInName → Name → Answer Denotation
member_of_type t s l (name.Elem (elem.Class c)) n = static_meaning t s l c n (member_named t c n)
member_of_type t s l (name.Elem (elem.Unit k)) n =
    if_there s l (has_param (parameter_of k n) || has_holder (ugen_holder k n))
member_of_type t s l (name.Elem _) n = if_there s l (has_call on.Shred n)
member_of_type t s l (name.Module h) n =
    if has_call h n then gives (callable (native h n)) else wrong s.file l UnknownName

-- a member of what an expression stands for
abbrev pub member_meaning : Table → Scope → (line object_line : ℕ) → Denotation → Name → Answer Denotation
member_meaning t s l k (a_type b) n = member_of_type t s l b n
member_meaning t s l k m n = and_then (as_value s k m) (λ o. member_of_kind t s l o.expr o.kind n)
