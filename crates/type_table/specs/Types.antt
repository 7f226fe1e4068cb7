-- What written types stand for, and which of them a declaration may have.
use Rattle.std.specs.Prelude.{ℕ, zero, suc, ◌+◌, Bool, true, false, not, ◌&&◌, ◌||◌, Option, Some, None, if◌then◌else◌}
use Rattle.ck_values.specs.declared.kind.Elem.{Elem}
use Rattle.ck_values.specs.declared.kind.Elem.TheVariants as elem
use Rattle.ck_values.specs.declared.kind.Kind.{Kind}
use Rattle.ck_values.specs.declared.kind.Kind.TheVariants as kind
use Rattle.ugen_names.specs.declared.table.UgenKind.TheVariants.{UGen}
use Rattle.ck_syntax.specs.declared.declaration.Base.{Base}
use Rattle.ck_syntax.specs.declared.declaration.Base.TheVariants as base
use Rattle.ck_syntax.specs.declared.declaration.DeclHead.{DeclHead}
use Rattle.ck_syntax.specs.Tree.{Name, Brackets, no_brackets, and_empty, and_size, Declr, declr, declr_with}
use Rattle.type_rules.specs.Fitting.{is_reference}
use Rattle.type_table.specs.declared.built_ins.BuiltInName.{BuiltInName}
use Rattle.type_table.specs.declared.built_ins.BuiltInName.TheVariants.{Elem as one, Module}
use Rattle.type_table.specs.declared.types.Named.{Named}
use Rattle.type_table.specs.declared.types.Named.TheVariants as named
use Rattle.type_table.specs.Names.{built_in}
use Rattle.type_table.specs.Table.{Table, class_named}

abbrev pub built_in_type : Option BuiltInName → Named
built_in_type (Some (one e)) = named.Elem e
built_in_type (Some (Module h)) = named.NoType
built_in_type None = named.Unknown

abbrev pub class_type : Name → Option ℕ → Named
class_type n (Some c) = named.Elem (elem.Class c)
class_type n None = built_in_type (built_in n)

-- what a type's first word stands for in a file
abbrev pub named_by : Table → (file : ℕ) → Base → Named
named_by t f base.Int = named.Elem elem.Int
named_by t f base.Float = named.Elem elem.Float
named_by t f base.Dur = named.Elem elem.Dur
named_by t f base.Time = named.Elem elem.Time
named_by t f base.String = named.Elem elem.Text
named_by t f base.Void = named.Void
named_by t f (base.Class n) = class_type n (class_named t f n)

abbrev pub is_unknown : Named → Bool
is_unknown named.Unknown = true
is_unknown _ = false

-- int, float, dur, time, string or Shred
abbrev pub is_plain : Elem → Bool
is_plain e = not (is_reference e)

-- a value of this type, or an array with so many pairs of brackets; two are for plain types
abbrev pub kind_of : Elem → (brackets : ℕ) → Option Kind
kind_of e zero = Some (kind.One e)
kind_of e (suc zero) = Some (kind.Row e)
kind_of e (suc (suc zero)) = if is_plain e then Some (kind.Grid e) else None
kind_of e _ = None

-- the type of a parameter or a variable, where it is one
abbrev pub value_kind : Named → (brackets : ℕ) → Option Kind
value_kind (named.Elem e) brackets = kind_of e brackets
value_kind _ brackets = None

-- the type of a result
abbrev pub result_kind : Named → (brackets : ℕ) → Option Kind
result_kind named.Void zero = Some kind.Void
result_kind n brackets = value_kind n brackets

abbrev pub count : Brackets → ℕ
count no_brackets = 0
count (and_empty bs) = 1 + count bs
count (and_size bs e) = 1 + count bs

abbrev pub all_empty : Brackets → Bool
all_empty no_brackets = true
all_empty (and_empty bs) = all_empty bs
all_empty (and_size bs e) = false

abbrev pub all_sized : Brackets → Bool
all_sized no_brackets = true
all_sized (and_empty bs) = false
all_sized (and_size bs e) = all_sized bs

abbrev pub is_shred : Elem → Bool
is_shred elem.Shred = true
is_shred _ = false

abbrev pub has_none : Brackets → Bool
has_none no_brackets = true
has_none _ = false

-- `@` is for references, arrays and Shred
abbrev pub takes_at : Elem → Brackets → Bool
takes_at e bs = not (has_none bs) || is_reference e || is_shred e

-- the declaration makes no object of type UGen
abbrev pub can_be_made : Elem → Brackets → Bool
can_be_made (elem.Unit UGen) bs = not (has_none bs) && all_empty bs
can_be_made _ bs = true

-- either each pair of brackets has a size or none has
abbrev pub is_even : Brackets → Bool
is_even bs = all_empty bs || all_sized bs

abbrev pub has_form : DeclHead → Elem → Brackets → Bool
has_form h e bs = is_even bs && (if h.is_reference then takes_at e bs else can_be_made e bs)

-- the type that a declaration gives its name, where it has the form of one
abbrev pub declared_kind : DeclHead → Named → Brackets → Option Kind
declared_kind h (named.Elem e) bs = if has_form h e bs then kind_of e (count bs) else None
declared_kind h _ bs = None

-- an object of this type is made with arguments
abbrev pub made_kind : Named → Option Kind
made_kind (named.Elem e) =
    if is_reference e && can_be_made e no_brackets then Some (kind.One e) else None
made_kind _ = None

-- the type that a declaration gives its name by what stands behind that
abbrev pub written_kind : DeclHead → Named → Declr → Option Kind
written_kind h named (declr n bs) = declared_kind h named bs
written_kind h named (declr_with n es) = made_kind named

-- a static member may have this type: a plain one, or another one with `@`
abbrev pub may_be_static : DeclHead → Kind → Bool
may_be_static h (kind.One e) = is_plain e || h.is_reference
may_be_static h _ = h.is_reference
