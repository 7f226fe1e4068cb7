-- A program with objects in an array, an array of arrays that grows, and items that are read and
-- updated: by the source and by the code it comes to the same number.
use Rattle.std.proofs.Common.{◌≡◌, ℕ, zero, suc, List, [], ◌∷◌, map, Some, None, refl, subst, arith, false, true, pos, All, slice_get}
use Rattle.fixed_point.specs.Fix.{nearest_in_range}
use Rattle.ck_values.specs.declared.kind.Elem.TheVariants as elem
use Rattle.ck_values.specs.declared.kind.Kind.{Kind}
use Rattle.ck_values.specs.declared.kind.Kind.TheVariants.{One, Row, Grid}
use Rattle.ck_values.specs.declared.operator.Op2.TheVariants.{AddIntInt}
use Rattle.ck_values.specs.Datum.{AnInt}
use Rattle.ck_store.specs.Store.{first_store}
use Rattle.ck_store.specs.Steps.{local_of, with_local, fresh}
use Rattle.ck_store.specs.Operators.{binary}
use Rattle.ck_store.specs.Objects.{referred, field_of, with_field, added, bodies_of, object_made}
use Rattle.ck_store.specs.Arrays.{array_at, item_at, item_of, with_item, grown, appended, size_of, row_made, array_made, is_within, has_item, next_index, filled}
use Rattle.ck_typed.specs.declared.class.Class.{Class}
use Rattle.ck_typed.specs.declared.expr.Spot.TheVariants.{Local, Field, Item}
use Rattle.ck_typed.specs.Standing.{itself, step}
use Rattle.ck_typed.specs.declared.operation.Leaf.TheVariants as leaf
use Rattle.ck_typed.specs.declared.operation.Binary.TheVariants as binary_op
use Rattle.ck_typed.specs.declared.operation.Variadic.TheVariants as variadic_op
use Rattle.ck_typed.specs.Tree.{Expr, Exprs, no_exprs, more_exprs, Leaf, Binary, Variadic, Assign, Update, NewObjects, Stmt, no_stmts, more_stmts, Simple, Block, Return, Fun as TypedFun, Program}
use Rattle.ck_typed.specs.WellFormed.{HasKind, ExprLies, StmtLies, FunLies, IsFineFun, IsMain, IsVirtual, IsValueKind, IsFineClass, IsWellFormed}
use Rattle.ck_code.specs.declared.instr.Instr.{Instr}
use Rattle.ck_code.specs.declared.instr.Instr.TheVariants as code
use Rattle.ck_code.specs.declared.code.CodeParts.{CodeParts}
use Rattle.ck_code.specs.declared.code.Fun.{Fun}
use Rattle.ck_code.specs.declared.code.Step.{Step}
use Rattle.ck_code.specs.Machine.{code_run}
use Rattle.ck_meaning.specs.Meaning.{shred_from}
use Rattle.ck_scheme.specs.Scheme.{at, expr_code, body_code, SameFun, IsScheme}
use Rattle.ck_scheme.specs.Follows.{first_state, fun_frames, MeansOnFitting}
use Rattle.code_laws.proofs.Means.{means}
use Rattle.code_laws.proofs.ObjectExamples.{here, class_of, int, local, one, fun_of, value_of, ended, none, some, lies}

-- class C { 7 => int v; }
abbrev object_class : Class
object_class = class_of 0 [] [] None false

abbrev event_class : Class
event_class = class_of 0 [] [] None true

abbrev c_class : Class
c_class = class_of 0 (int ∷ []) [] (Some 1) false

abbrev classes : List Class
classes = object_class ∷ event_class ∷ c_class ∷ []

abbrev c : Kind
c = One (elem.Class 2)

abbrev two : Expr → Expr → Exprs
two x y = more_exprs x (one y)

abbrev number : ℕ → Expr
number n = Leaf (leaf.Int (pos n)) here

abbrev item : (array index : Expr) → Expr
item x i = Variadic (variadic_op.Read Item) (two x i) here

-- C xs[2]; [[1, 2], [3, 4]] @=> int g[][]; g[1] << 5; 100 +=> g[1][2]; return xs[1].v + g[1][2];
abbrev main_body : Stmt
main_body = Block (
    more_stmts (Simple (Assign (NewObjects (elem.Class 2) (number 2) None here) (Local 0) no_exprs here)
    here) (
    more_stmts (Simple (Assign (Variadic (variadic_op.ArrayOfRows elem.Int) (two
    (Variadic (variadic_op.Array elem.Int) (two (number 1) (number 2)) here)
    (Variadic (variadic_op.Array elem.Int) (two (number 3) (number 4)) here)) here)
    (Local 1) no_exprs here) here) (
    more_stmts (Simple (Binary binary_op.Append (item (local 1) (number 1)) (number 5) here) here) (
    more_stmts (Simple (Update AddIntInt (number 100) Item
    (two (item (local 1) (number 1)) (number 2)) here) here) (
    more_stmts (Return (Binary (binary_op.Operator AddIntInt)
    (Variadic (variadic_op.Read (Field 0)) (one (item (local 0) (number 1))) here)
    (item (item (local 1) (number 1)) (number 2)) here) here) no_stmts)))))

abbrev main_fun : TypedFun
main_fun = fun_of 0 (Row (elem.Class 2) ∷ Grid elem.Int ∷ []) main_body

abbrev c_body : TypedFun
c_body = fun_of 1 (c ∷ []) (Simple (Assign (number 7) (Field 0) (one (local 0)) here) here)

abbrev program : Program
program = record {
  files = 1;
  classes = classes;
  funs = main_fun ∷ c_body ∷ [];
  statics = [];
  mains = 0 ∷ [];
}

abbrev compiled : TypedFun → Fun
compiled fn = record {
  params = fn.params;
  locals = fn.locals;
  code = body_code classes [] fn.body fn.result fn.place;
}

abbrev parts : CodeParts
parts = record {
  funs = map compiled program.funs;
  texts = [];
  classes = classes;
  statics = [];
  mains = 0 ∷ [];
}

is_scheme : IsScheme program parts
is_scheme = record { funs = same; texts = refl; classes = refl; statics = refl; mains = refl }
  where
    same : (f : ℕ) → SameFun classes [] (slice_get program.funs f) (slice_get parts.funs f)
    same zero = record { params = refl; locals = refl; steps = refl }
    same (suc zero) = record { params = refl; locals = refl; steps = refl }
    same (suc (suc f)) = tt

abbrev here_does : Instr → Step
here_does i = at i here

-- the code of so many objects: a loop, whose turn comes first
so_many : expr_code classes [] 0 (NewObjects (elem.Class 2) (number 2) None here)
    ≡ map here_does (code.Int (pos 2) ∷ code.Row (elem.Class 2) ∷ code.Int (pos 0)
    ∷ code.Each 11 ∷ code.Turn ∷ code.New 2 ∷ code.Dup ∷ code.Call 1 ∷ code.Drop ∷ code.Fill
    ∷ code.Jump 3 ∷ [])
unfolding bodies_of
so_many = refl

-- the source comes to 112
by_source : value_of (shred_from program 1 main_fun [] (first_store 1 []) [])
    ≡ Some (AnInt (pos 112))
unfolding nearest_in_range binary local_of with_local referred field_of with_field added fresh bodies_of object_made
    array_at item_at item_of with_item grown appended size_of row_made array_made is_within has_item next_index filled
by_source = refl

-- so does the code
by_code : ended (code_run parts 1 90 (fun_frames 0 main_fun []) (first_state (first_store 1 [])) [])
    ≡ Some (AnInt (pos 112))
unfolding nearest_in_range binary local_of with_local referred field_of with_field added fresh bodies_of object_made
    array_at item_at item_of with_item grown appended size_of row_made array_made is_within has_item next_index filled
by_code = refl

-- the program is well formed ----------------------------------------------------------------------

int_field : All (IsValueKind program.classes) (int ∷ [])
int_field = some (IsValueKind program.classes) int [] tt (none (IsValueKind program.classes))

fine_object : IsFineClass program 0 object_class
fine_object = record {
  parent = record { fields = ([], refl); slots = λ s g at. absurd (cc at) };
  line = itself;
  fields = none (IsValueKind program.classes);
  virtuals = none (IsVirtual program 0);
  body = tt;
}

fine_event : IsFineClass program 1 event_class
fine_event = record {
  parent = record { fields = ([], refl); slots = λ s g at. absurd (cc at) };
  line = step event_class refl itself;
  fields = none (IsValueKind program.classes);
  virtuals = none (IsVirtual program 1);
  body = tt;
}

fine_c : IsFineClass program 2 c_class
fine_c = record {
  parent = record { fields = (int ∷ [], refl); slots = λ s g at. absurd (cc at) };
  line = step c_class refl itself;
  fields = int_field;
  virtuals = none (IsVirtual program 2);
  body = refl;
}

fine_classes : (d : ℕ) (class : Class) → slice_get classes d ≡ Some class
    → IsFineClass program d class
fine_classes zero class e =
    let is : object_class ≡ class = cc e in subst (IsFineClass program 0) is fine_object
fine_classes (suc zero) class e =
    let is : event_class ≡ class = cc e in subst (IsFineClass program 1) is fine_event
fine_classes (suc (suc zero)) class e =
    let is : c_class ≡ class = cc e in subst (IsFineClass program 2) is fine_c
fine_classes (suc (suc (suc d))) class e = absurd (cc e)

abbrev locals : List Kind
locals = main_fun.locals

-- an array of two ints, and an item of the array of arrays
ints : (n m : ℕ) → HasKind program locals
    (Variadic (variadic_op.Array elem.Int) (two (number n) (number m)) here) (Row elem.Int)
ints n m = (tt, ((int, refl, refl), ((int, refl, refl), tt)), refl)

a_row : HasKind program locals (item (local 1) (number 1)) (Row elem.Int)
a_row = (Grid elem.Int, (Grid elem.Int, refl, refl), refl, (int, refl, refl))

an_int : HasKind program locals (item (item (local 1) (number 1)) (number 2)) int
an_int = (Row elem.Int, (Row elem.Int, a_row, refl), refl, (int, refl, refl))

an_object : HasKind program locals (item (local 0) (number 1)) c
an_object = (Row (elem.Class 2), (Row (elem.Class 2), refl, refl), refl, (int, refl, refl))

fine_main : IsFineFun program main_fun
fine_main = record {
  params = omega arith;
  locals = some (IsValueKind program.classes) (Row (elem.Class 2)) (Grid elem.Int ∷ []) (omega arith)
      (some (IsValueKind program.classes) (Grid elem.Int) [] tt (none (IsValueKind program.classes)));
  result = tt;
  body = (
    (
      Row (elem.Class 2),
      (refl, (Row (elem.Class 2), (omega arith, (int, refl, refl), tt, refl), refl)),
    ),
    (
      (
        Grid elem.Int,
        (
          refl,
          (
            Grid elem.Int,
            (tt, ((Row elem.Int, ints 1 2, refl), ((Row elem.Int, ints 3 4, refl), tt)), refl),
            refl,
          ),
        ),
      ),
      (
        (Row elem.Int, (elem.Int, (Row elem.Int, a_row, refl), (int, refl, refl), refl)),
        (
          (int, (an_int, (refl, (int, refl, refl), refl))),
          (
            (
              int,
              ((int, (2, (c, an_object, itself), refl), refl), (int, an_int, refl), refl),
              refl,
            ),
            tt,
          ),
        ),
      ),
    ),
  );
}

fine_c_body : IsFineFun program c_body
fine_c_body = record {
  params = omega arith;
  locals = some (IsValueKind program.classes) c [] (omega arith) (none (IsValueKind program.classes));
  result = tt;
  body = (int, ((2, (c, refl, itself), refl), (int, refl, refl)));
}

-- all of it lies in its file
item_lies : (x i : Expr) → ExprLies 1 x → ExprLies 1 i → ExprLies 1 (item x i)
item_lies x i first second = ((first, (second, tt)), lies)

an_item_lies : (i n : ℕ) → ExprLies 1 (item (local i) (number n))
an_item_lies i n = item_lies (local i) (number n) (tt, lies) lies

main_body_lies : StmtLies 1 main_body
main_body_lies = (
  (((lies, lies), tt, lies), lies),
  (
    ((((((lies, (lies, tt)), lies), (((lies, (lies, tt)), lies), tt)), lies), tt, lies), lies),
    (
      ((an_item_lies 1 1, lies, lies), lies),
      (
        ((lies, (an_item_lies 1 1, (lies, tt)), lies), lies),
        (
          (
            (
              ((an_item_lies 0 1, tt), lies),
              item_lies (item (local 1) (number 1)) (number 2) (an_item_lies 1 1) lies,
              lies,
            ),
            lies,
          ),
          tt,
        ),
      ),
    ),
  ),
)

c_body_lies : FunLies 1 c_body
c_body_lies = (((lies, ((tt, lies), tt), lies), lies), lies)

well_formed : IsWellFormed program
well_formed = record {
  files = refl;
  enough = omega arith;
  mains = some (IsMain program) 0 [] refl (none (IsMain program));
  funs = some (IsFineFun program) main_fun (c_body ∷ []) fine_main
      (some (IsFineFun program) c_body [] fine_c_body (none (IsFineFun program)));
  places = some (FunLies 1) main_fun (c_body ∷ []) (main_body_lies, lies)
      (some (FunLies 1) c_body [] c_body_lies (none (FunLies 1)));
  statics = none (IsValueKind program.classes);
  classes = fine_classes;
  object = refl;
  event = refl;
}

-- so the laws hold of it
it_means : MeansOnFitting program parts
it_means = means program well_formed parts is_scheme
