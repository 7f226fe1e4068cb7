-- What the law of typing rests on: what a program has under the numbers of a table, which scopes are right, and what an
-- expression stands for then.
use Rattle.std.specs.Prelude.{◌≡◌, ◌⊎◌, ℕ, ◌<◌, ◌≤◌, true, false, List, length, drop, Option, Some, None, slice_get}
use Rattle.ck_values.specs.declared.kind.Elem.{Elem}
use Rattle.ck_values.specs.declared.kind.Elem.TheVariants as elem
use Rattle.ck_values.specs.declared.kind.Kind.{Kind}
use Rattle.ck_values.specs.declared.kind.Kind.TheVariants.{One, Row, Grid}
use Rattle.ugen_names.specs.declared.table.UgenKind.{UgenKind}
use Rattle.ugen_names.specs.declared.table.UgenKind.TheVariants as ugen
use Rattle.ck_syntax.specs.Tree.{Name}
use Rattle.ck_typed.specs.declared.expr.Spot.{Spot}
use Rattle.ck_typed.specs.Tree as typed
use Rattle.ck_typed.specs.Tree.{Program}
use Rattle.type_rules.specs.Fitting.{is_below}
use Rattle.type_rules.specs.Parameters.{Settable}
use Rattle.type_rules.specs.declared.calls.Holder.{Holder}
use Rattle.type_rules.specs.declared.calls.Holder.TheVariants as on
use Rattle.type_table.specs.Answer.{Answer, gives, refused}
use Rattle.type_table.specs.declared.built_ins.BuiltInName.{BuiltInName}
use Rattle.type_table.specs.declared.built_ins.BuiltInName.TheVariants as name
use Rattle.type_table.specs.declared.table.Member.{Member}
use Rattle.type_table.specs.declared.table.Member.TheVariants as member
use Rattle.type_table.specs.declared.table.Variable.{Variable}
use Rattle.type_table.proofs.Ranges.{Each, Within, ElemIn, KindIn, ValueIn, many}
use Rattle.type_table.specs.Table.{Table, fun_of, class_named, fun_named, member_named, variable_named, construct}
use Rattle.ck_typed.specs.Standing.{IsBelow}
use Rattle.ck_typed.specs.Signatures.{parameter}
use Rattle.ck_typed.specs.WellFormed.{FoundWhere, params_of, Supplies, Methods, Constructs, HasKind, IsAt}
use Rattle.check_scope.specs.Scope.{Scope, this_local}
use Rattle.check_scope.specs.Denotations.{Typed, Callee, numbered, through, method, native, native_on, param, yields, exits, Declaration, Denotation, value, at, callable, a_type, declared, an_auto, is_void}
use Rattle.ck_typed.specs.Standing.{given}

-- lists and answers -----------------------------------------------------------------------------

-- what is found is so
abbrev pub Ok : {A : Type 0} → (A → Type 0) → Answer A → Type 0
Ok P (gives a) = P a
Ok P (refused why) = Unit {0}

-- the program under the numbers of a table ------------------------------------------------------

-- a function that is called by its number
abbrev pub PlainFun : Program → Table → (fun : ℕ) → Type 0
PlainFun p t f =
    FoundWhere (slice_get p.funs f) (λ fn. (params_of fn ≡ (fun_of t f).params)
    × (fn.result ≡ given (fun_of t f).result)) × KindIn (many t) (fun_of t f).result

-- a function that is called by a slot of a class
abbrev pub SlotFun : Program → Table → (class slot fun : ℕ) → Type 0
SlotFun p t c slot f =
    Methods p c slot (λ fn. (drop 1 (params_of fn) ≡ (fun_of t f).params) × (fn.result ≡ given (fun_of t f).result))
    × KindIn (many t) (fun_of t f).result

abbrev pub MemberIs : Program → Table → (class : ℕ) → Member → Type 0
MemberIs p t c (member.Field i k) = FoundWhere (slice_get p.classes c) (λ class. slice_get class.fields i ≡ Some k)
    × ValueIn (many t) k
MemberIs p t c (member.Static i k) = (slice_get p.statics i ≡ Some k) × ValueIn (many t) k
MemberIs p t c (member.Fun f None) = PlainFun p t f
MemberIs p t c (member.Fun f (Some slot)) = SlotFun p t c slot f
MemberIs p t c member.Auto = Unit {0}

-- a constructor of a class, with the parameters that the table has
abbrev pub MakerIs : Program → Table → (class fun : ℕ) → Type 0
MakerIs p t c f = Constructs p f (One (elem.Class c)) (λ params. params ≡ (fun_of t f).params)

-- a file variable of this kind
abbrev pub HasStatic : Program → Table → ℕ → Kind → Type 0
HasStatic p t i k = (slice_get p.statics i ≡ Some k) × ValueIn (many t) k

-- the program has all that the table names; of a variable with `auto` it tells nothing before that has
-- a kind
pub record Has (p : Program) (t : Table) : Type 0 where
  pub classes : many t ≤ length p.classes
  pub two : 2 ≤ many t
  pub below : (c d : ℕ) → c < many t → is_below t.parents c d ≡ true → IsBelow p.classes c d
  pub named : (file c : ℕ) (n : Name) → class_named t file n ≡ Some c → c < many t
  pub variable : (file : ℕ) (n : Name) (v : Variable) → variable_named t file n ≡ Some v → is_void v.kind ≡ false
      → HasStatic p t v.index v.kind
  pub fun : (file f : ℕ) (n : Name) → fun_named t file n ≡ Some f → PlainFun p t f
  pub params : (f : ℕ) → Each (ValueIn (many t)) (fun_of t f).params
  pub member : (c : ℕ) (n : Name) (m : Member) → c < many t → member_named t c n ≡ Some m → MemberIs p t c m
  pub maker : (c f : ℕ) → c < many t → construct t c ≡ Some f → MakerIs p t c f

-- scopes ----------------------------------------------------------------------------------------

abbrev pub IsNumber : Scope → Name × ℕ → Type 0
IsNumber s entry = entry.1 < length s.locals

-- the object of a class is its first local
abbrev pub IsThis : Table → Scope → Option ℕ → Option ℕ → Type 0
IsThis t s None class = Unit {0}
IsThis t s (Some i) None = ⊥
IsThis t s (Some i) (Some c) = (slice_get s.locals i ≡ Some (One (elem.Class c))) × (c < many t)

-- the class of a scope was entered
abbrev pub IsClass : Table → Option ℕ → Type 0
IsClass t None = Unit {0}
IsClass t (Some c) = c < many t

pub record IsScope (t : Table) (s : Scope) : Type 0 where
  pub own : Each (IsNumber s) s.own
  pub blocks : Each (Each (IsNumber s)) s.blocks
  pub class : IsClass t s.class
  pub this : IsThis t s (this_local t s) s.class

-- a scope with more locals, of the same function
pub record Grows (s u : Scope) : Type 0 where
  pub file : u.file ≡ s.file
  pub class : u.class ≡ s.class
  pub fun : u.fun ≡ s.fun
  pub locals : Within s.locals u.locals
  pub settled : Within s.settled u.settled

-- what got a kind has it in the program
abbrev pub IsSettled : Program → ℕ × Kind → Type 0
IsSettled p settled = slice_get p.statics settled.0 ≡ Some settled.1

-- these locals are all that the function has in the end, and what was settled up to this scope is so
-- in the program
pub record Leads (p : Program) (s : Scope) (all : List Kind) : Type 0 where
  pub locals : Within s.locals all
  pub settled : Each (IsSettled p) s.settled

-- a file variable that got a kind
abbrev pub HasSettled : Program → Table → ℕ × Kind → Type 0
HasSettled p t settled = HasStatic p t settled.0 settled.1

-- and the kinds that locals and file variables have up to this scope are those of values
pub record Ends (p : Program) (t : Table) (s : Scope) (all : List Kind) : Type 0 where
  pub locals : Within s.locals all
  pub kinds : Each (ValueIn (many t)) s.locals
  pub settled : Each (HasSettled p t) s.settled

-- what expressions stand for --------------------------------------------------------------------

-- these locals are all that the function has in the end
module _ (p : Program) (t : Table) (all : List Kind) where
  -- an expression gives a kind
  abbrev pub Valued : typed.Expr → Kind → Type 0
  Valued e k = Supplies p (HasKind p all e) k

  abbrev pub IsValue : Typed → Type 0
  IsValue x = Valued x.expr (given x.kind) × KindIn (many t) x.kind

  abbrev pub IsPlace : Spot → typed.Exprs → Kind → Type 0
  IsPlace spot address k = IsAt p all spot address k × ValueIn (many t) k

  -- what calls are made on no value
  abbrev pub IsModule : Holder → Type 0
  IsModule on.Std = Unit {0}
  IsModule on.Math = Unit {0}
  IsModule on.Machine = Unit {0}
  IsModule _ = ⊥

  -- a value has the calls of this holder
  abbrev pub Holds : typed.Expr → Holder → Type 0
  Holds o on.Shred = Valued o (One elem.Shred)
  Holds o on.Event = Valued o (One (elem.Class 1))
  Holds o on.Array = (e : Elem) × (Valued o (Row e) ⊎ Valued o (Grid e))
  Holds o on.Text = Valued o (One elem.Text)
  Holds o on.Envelope = Valued o (One (elem.Unit ugen.Envelope)) ⊎ Valued o (One (elem.Unit ugen.Adsr))
  Holds o on.Adsr = Valued o (One (elem.Unit ugen.Adsr))
  Holds o _ = ⊥

  -- a unit generator has this parameter
  abbrev pub HasParameter : typed.Expr → Settable → Type 0
  HasParameter u q =
      (k : UgenKind) × Valued u (One (elem.Unit k))
      × (parameter k q.param ≡ Some (record { elem = q.elem; is_read_only = q.is_read_only }))
      × ElemIn (many t) q.elem

  abbrev pub IsCallee : Callee → Type 0
  IsCallee (numbered f) = PlainFun p t f
  IsCallee (through o f) = ((j : Kind) × HasKind p all o j) × PlainFun p t f
  IsCallee (method o f slot) = (c : ℕ) × Valued o (One (elem.Class c)) × SlotFun p t c slot f
  IsCallee (native h n) = IsModule h
  IsCallee (native_on o h n) = Holds o h
  IsCallee (param u q) = HasParameter u q
  IsCallee yields = Unit {0}
  IsCallee exits = Unit {0}

  -- a name of a type or of a module
  abbrev pub IsType : BuiltInName → Type 0
  IsType (name.Elem e) = ElemIn (many t) e
  IsType (name.Module h) = IsModule h

  abbrev pub IsDeclaration : Declaration → Type 0
  IsDeclaration d = IsPlace d.spot d.address d.kind × Valued d.alone d.kind

  abbrev pub IsMeaning : Denotation → Type 0
  IsMeaning (value x) = IsValue x
  IsMeaning (at spot address k) = IsPlace spot address k
  IsMeaning (callable c) = IsCallee c
  IsMeaning (a_type b) = IsType b
  IsMeaning (declared d) = IsDeclaration d
  IsMeaning (an_auto n has_form) = Unit {0}
