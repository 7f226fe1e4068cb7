-- A program that sporks a child, yields to it and exits: by the source and by the code the child adds
-- the arguments as they were at the spork, and nothing comes after the exit.
use Rattle.std.proofs.Common.{◌≡◌, ℕ, zero, suc, List, [], ◌∷◌, map, Some, None, refl, subst, arith, false, true, pos, slice_get}
use Rattle.ck_values.specs.declared.kind.Elem.TheVariants as elem
use Rattle.ck_values.specs.declared.kind.Kind.TheVariants.{One}
use Rattle.ck_values.specs.declared.operator.Op2.TheVariants.{AddIntInt}
use Rattle.ck_values.specs.Datum.{AnInt}
use Rattle.ck_store.specs.Steps.{local_of, with_local, static_of, with_static, fresh}
use Rattle.ck_store.specs.Operators.{binary}
use Rattle.ck_store.specs.Shreds.{sporked}
use Rattle.ck_typed.specs.declared.class.Class.{Class}
use Rattle.ck_typed.specs.declared.expr.Spot.TheVariants.{Local, Static}
use Rattle.ck_typed.specs.Standing.{itself, step}
use Rattle.ck_typed.specs.declared.operation.Leaf.TheVariants as leaf
use Rattle.ck_typed.specs.declared.operation.Binary.TheVariants as binary_op
use Rattle.ck_typed.specs.declared.operation.Variadic.TheVariants as variadic_op
use Rattle.ck_typed.specs.Tree.{Expr, no_exprs, more_exprs, Leaf, Binary, Variadic, Assign, Stmt, Stmts, no_stmts, more_stmts, Simple, Block, Fun as TypedFun, Program}
use Rattle.ck_typed.specs.WellFormed.{StmtLies, FunLies, IsFineFun, IsMain, IsVirtual, IsValueKind, IsFineClass, IsWellFormed}
use Rattle.ck_code.specs.declared.instr.Instr.{Instr}
use Rattle.ck_code.specs.declared.instr.Instr.TheVariants as code
use Rattle.ck_code.specs.declared.code.CodeParts.{CodeParts}
use Rattle.ck_code.specs.declared.code.Fun.{Fun}
use Rattle.ck_code.specs.declared.code.Step.{Step}
use Rattle.ck_code.specs.Machine.{enough}
use Rattle.ck_meaning.specs.Replay.{run, run_code}
use Rattle.ck_scheme.specs.Scheme.{at, stmt_code, body_code, SameFun, IsScheme}
use Rattle.ck_scheme.specs.Follows.{HasSameRuns}
use Rattle.code_laws.proofs.ObjectExamples.{here, class_of, int, local, one, fun_of, none, some, lies}
use Rattle.code_laws.proofs.SameRuns.{same_runs}

abbrev object_class : Class
object_class = class_of 0 [] [] None false

abbrev event_class : Class
event_class = class_of 0 [] [] None true

abbrev classes : List Class
classes = object_class ∷ event_class ∷ []

abbrev number : ℕ → Expr
number n = Leaf (leaf.Int (pos n)) here

abbrev sum : Expr → Expr → Expr
sum x y = Binary (binary_op.Operator AddIntInt) x y here

abbrev line : Expr → Stmt
line e = Simple e here

abbrev set_i : ℕ → Stmt
set_i n = line (Assign (number n) (Local 0) no_exprs here)

abbrev set_total : Expr → Stmt
set_total e = line (Assign e (Static 0) no_exprs here)

abbrev spork_add : Stmt
spork_add = line (Variadic (variadic_op.Spork 1) (more_exprs (local 0) (one (sum (local 0) (number 1)))) here)

abbrev last_lines : Stmts
last_lines =
    more_stmts (line (Leaf leaf.Yield here)) (more_stmts (line (Leaf leaf.Exit here))
    (more_stmts (set_total (number 9)) no_stmts))

-- 1 => int i; spork ~ add(i, i + 1); 5 => i; me.yield(); me.exit(); 9 => total;
abbrev main_fun : TypedFun
main_fun =
    fun_of 0 (int ∷ []) (Block (more_stmts (set_i 1) (more_stmts spork_add
    (more_stmts (set_i 5) last_lines))))

-- int total; fun int add(int n, int m) { n + m => total; }
abbrev add_fun : TypedFun
add_fun = fun_of 2 (int ∷ int ∷ []) (set_total (sum (local 0) (local 1)))

abbrev program : Program
program = record {
  files = 1;
  classes = classes;
  funs = main_fun ∷ add_fun ∷ [];
  statics = int ∷ [];
  mains = 0 ∷ [];
}

abbrev compiled : TypedFun → Fun
compiled fn = record {
  params = fn.params;
  locals = fn.locals;
  code = body_code program.classes [] fn.body fn.result fn.place;
}

abbrev parts : CodeParts
parts = record {
  funs = map compiled program.funs;
  texts = [];
  classes = classes;
  statics = int ∷ [];
  mains = 0 ∷ [];
}

is_scheme : IsScheme program parts
is_scheme = record { funs = same; texts = refl; classes = refl; statics = refl; mains = refl }
  where
    same : (f : ℕ) → SameFun program.classes [] (slice_get program.funs f) (slice_get parts.funs f)
    same zero = record { params = refl; locals = refl; steps = refl }
    same (suc zero) = record { params = refl; locals = refl; steps = refl }
    same (suc (suc f)) = tt

-- the arguments are worked out before the spork, and a yield and an exit leave a value
abbrev listing : List Instr → List Step
listing instrs = map (λ (i : Instr). at i here) instrs

sporked_after_its_arguments : stmt_code classes [] 0 0 0 spork_add
    ≡ listing (code.Local 0 ∷ code.Local 0 ∷ code.Int (pos 1) ∷ code.Op2 AddIntInt ∷ code.Spork 1
    ∷ code.Drop ∷ [])
sporked_after_its_arguments = refl

a_yield_and_an_exit : stmt_code classes [] 0 0 0
    (Block (more_stmts (line (Leaf leaf.Yield here)) (more_stmts (line (Leaf leaf.Exit here)) no_stmts)))
    ≡ listing (code.Yield ∷ code.Int (pos 0) ∷ code.Drop ∷ code.Exit ∷ code.Int (pos 0) ∷ code.Drop
    ∷ [])
a_yield_and_an_exit = refl

-- the child runs while its parent yields: it adds 1 and 2, and 9 never comes
by_source : (run program 1).store.statics ≡ AnInt (pos 3) ∷ []
unfolding binary local_of with_local static_of with_static sporked fresh
by_source = refl

by_code : (run_code parts 1).store.statics ≡ AnInt (pos 3) ∷ []
unfolding binary local_of with_local static_of with_static sporked fresh enough
by_code = refl

-- the program is well formed -----------------------------------------------------------------------

fine_object : IsFineClass program 0 object_class
fine_object = record {
  parent = record { fields = ([], refl); slots = λ s g at. absurd (cc at) };
  line = itself;
  fields = none (IsValueKind program.classes);
  virtuals = none (IsVirtual program 0);
  body = tt;
}

fine_event : IsFineClass program 1 event_class
fine_event = record {
  parent = record { fields = ([], refl); slots = λ s g at. absurd (cc at) };
  line = step event_class refl itself;
  fields = none (IsValueKind program.classes);
  virtuals = none (IsVirtual program 1);
  body = tt;
}

fine_classes : (d : ℕ) (class : Class) → slice_get classes d ≡ Some class
    → IsFineClass program d class
fine_classes zero class e =
    let is : object_class ≡ class = cc e in subst (IsFineClass program 0) is fine_object
fine_classes (suc zero) class e =
    let is : event_class ≡ class = cc e in subst (IsFineClass program 1) is fine_event
fine_classes (suc (suc d)) class e = absurd (cc e)

fine_main : IsFineFun program main_fun
fine_main = record {
  params = omega arith;
  locals = some (IsValueKind program.classes) int [] tt (none (IsValueKind program.classes));
  result = tt;
  body = (
    (int, (refl, (int, refl, refl))),
    (
      (
        One elem.Shred,
        (
          ((int, refl, refl), ((int, ((int, refl, refl), (int, refl, refl), refl), refl), tt)),
          refl,
        ),
      ),
      (
        (int, (refl, (int, refl, refl))),
        ((int, refl), ((int, refl), ((int, (refl, (int, refl, refl))), tt))),
      ),
    ),
  );
}

fine_add : IsFineFun program add_fun
fine_add = record {
  params = omega arith;
  locals = some (IsValueKind program.classes) int (int ∷ []) tt
      (some (IsValueKind program.classes) int [] tt (none (IsValueKind program.classes)));
  result = tt;
  body = (int, (refl, (int, ((int, refl, refl), (int, refl, refl), refl), refl)));
}

-- all of it lies in its file
set_lies : (n : ℕ) → StmtLies 1 (set_i n)
set_lies n = ((lies, tt, lies), lies)

spork_lies : StmtLies 1 spork_add
spork_lies = ((((tt, lies), (((tt, lies), lies, lies), tt)), lies), lies)

main_lies : FunLies 1 main_fun
main_lies = (
  (
    set_lies 1,
    (spork_lies, (set_lies 5, ((lies, lies), ((lies, lies), (((lies, tt, lies), lies), tt))))),
  ),
  lies,
)

add_lies : FunLies 1 add_fun
add_lies = (((((tt, lies), (tt, lies), lies), tt, lies), lies), lies)

well_formed : IsWellFormed program
well_formed = record {
  files = refl;
  enough = omega arith;
  mains = some (IsMain program) 0 [] refl (none (IsMain program));
  funs = some (IsFineFun program) main_fun (add_fun ∷ []) fine_main
      (some (IsFineFun program) add_fun [] fine_add (none (IsFineFun program)));
  places = some (FunLies 1) main_fun (add_fun ∷ []) main_lies
      (some (FunLies 1) add_fun [] add_lies (none (FunLies 1)));
  statics = some (IsValueKind program.classes) int [] tt (none (IsValueKind program.classes));
  classes = fine_classes;
  object = refl;
  event = refl;
}

-- so the laws hold of its runs
it_runs : HasSameRuns program parts
it_runs = same_runs program well_formed parts is_scheme
