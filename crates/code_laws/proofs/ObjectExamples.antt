-- A program with an override, statements in a class's braces, a join and a wait while the receiver of
-- a call is held: by the source and by the code it comes to the same number.
use Rattle.std.proofs.Common.{◌≡◌, ℕ, zero, suc, ◌<◌, List, [], ◌∷◌, ◌++◌, map, Option, Some, None, refl, subst, arith, Bool, true, false, pos, All, slice_get}
use Rattle.fixed_point.specs.Fix.{nearest_in_range}
use Rattle.ck_values.specs.declared.kind.Elem.TheVariants as elem
use Rattle.ck_values.specs.declared.kind.Kind.{Kind}
use Rattle.ck_values.specs.declared.kind.Kind.TheVariants.{Null as NullKind, One}
use Rattle.ck_values.specs.declared.operator.Op2.TheVariants.{AddIntInt}
use Rattle.ck_values.specs.declared.trap.Place.{Place}
use Rattle.ck_values.specs.Datum.{Datum, AnInt, ARef}
use Rattle.ck_store.specs.Store.{Instance, Store, first_store}
use Rattle.ck_store.specs.Steps.{int_units, is_zero, local_of, with_local, wait_dur, fresh}
use Rattle.ck_store.specs.Operators.{binary}
use Rattle.ck_store.specs.Objects.{referred, field_of, with_field, added, bodies_of, object_made, method_of}
use Rattle.ck_typed.specs.declared.class.Class.{Class}
use Rattle.ck_typed.specs.declared.expr.Spot.TheVariants.{Local, Field}
use Rattle.ck_typed.specs.Standing.{IsBelow, itself, step}
use Rattle.ck_typed.specs.declared.operation.Leaf.TheVariants as leaf
use Rattle.ck_typed.specs.declared.operation.Unary.TheVariants as unary_op
use Rattle.ck_typed.specs.declared.operation.Binary.TheVariants as binary_op
use Rattle.ck_typed.specs.declared.operation.Variadic.TheVariants as variadic_op
use Rattle.ck_typed.specs.Tree.{Expr, Exprs, no_exprs, more_exprs, Leaf, Unary, Binary, Variadic, Choice, Assign, New, Stmt, no_stmts, more_stmts, Simple, Block, Return, Fun as TypedFun, Program}
use Rattle.ck_typed.specs.WellFormed.{FoundWhere, AreSame, IsFineFun, IsMain, IsVirtual, IsValueKind, LiesIn, FunLies, IsFineClass, IsWellFormed}
use Rattle.ck_code.specs.declared.code.CodeParts.{CodeParts}
use Rattle.ck_code.specs.declared.code.Fun.{Fun}
use Rattle.ck_code.specs.Machine.{Halt, Ended, Waits, exec, code_run}
use Rattle.ck_meaning.specs.Outcome.{Outcome, Done}
use Rattle.ck_meaning.specs.Meaning.{shred_from}
use Rattle.ck_scheme.specs.Scheme.{body_code, SameFun, IsScheme}
use Rattle.ck_scheme.specs.Follows.{first_state, fun_frames, MeansOnFitting}
use Rattle.code_laws.proofs.Means.{means}

abbrev pub here : Place
here = record { file = 0; line = 1 }

abbrev pub class_of : (parent : ℕ) → List Kind → (virtuals : List ℕ) → Option ℕ → Bool → Class
class_of parent fields virtuals body event = record { name = []; parent = parent; fields = fields; virtuals = virtuals; body = body; event = event }

abbrev pub int : Kind
int = One elem.Int

abbrev a : Kind
a = One (elem.Class 2)

abbrev b : Kind
b = One (elem.Class 3)

-- class A { int v; A @ next; 7 => v; fun int f(time t) { return 1; } }
-- class B extends A { fun int f(time t) { return v + 9; } }
abbrev classes : List Class
classes = class_of 0 [] [] None false ∷ class_of 0 [] [] None true ∷ class_of 0 (int ∷ a ∷ []) (2 ∷ []) (Some 1) false ∷ class_of 2 (int ∷ a ∷ []) (3 ∷ []) None false ∷ []

abbrev pub local : ℕ → Expr
local i = Variadic (variadic_op.Read (Local i)) no_exprs here

abbrev number : ℕ → Expr
number n = Leaf (leaf.Int (pos n)) here

abbrev pub one : Expr → Exprs
one e = more_exprs e no_exprs

abbrev pub fun_of : ℕ → List Kind → Stmt → TypedFun
fun_of params locals body = record { params = params; locals = locals; result = int; body = body; place = here }

-- (1 ? new B : null) @=> A @ x; return x.f(5::samp => now);
abbrev main_body : Stmt
main_body = Block (
    more_stmts (Simple (Assign (Choice (number 1) (New 3 here) (Leaf leaf.Null here) here) (Local 0) no_exprs here) here) (
    more_stmts (Return (Variadic (variadic_op.Method 0) (more_exprs (local 0)
    (one (Unary unary_op.WaitDur (Unary (unary_op.UnitInt (pos 1) (pos 1)) (number 5) here) here))) here) here) no_stmts
    )
    )

abbrev main_fun : TypedFun
main_fun = fun_of 0 (a ∷ []) main_body

abbrev a_body : TypedFun
a_body = fun_of 1 (a ∷ []) (Simple (Assign (number 7) (Field 0) (one (local 0)) here) here)

abbrev a_f : TypedFun
a_f = fun_of 2 (a ∷ One elem.Time ∷ []) (Return (number 1) here)

abbrev b_f : TypedFun
b_f =
    fun_of 2 (b ∷ One elem.Time ∷ []) (Return (Binary (binary_op.Operator AddIntInt)
    (Variadic (variadic_op.Read (Field 0)) (one (local 0)) here) (number 9) here) here)

abbrev program : Program
program = record {
  files = 1;
  classes = classes;
  funs = main_fun ∷ a_body ∷ a_f ∷ b_f ∷ [];
  statics = [];
  mains = 0 ∷ [];
}

abbrev compiled : TypedFun → Fun
compiled fn = record { params = fn.params; locals = fn.locals; code = body_code program.classes [] fn.body fn.result fn.place }

abbrev code : CodeParts
code = record { funs = map compiled program.funs; texts = []; classes = classes; statics = []; mains = 0 ∷ [] }

is_scheme : IsScheme program code
is_scheme = record { funs = same; texts = refl; classes = refl; statics = refl; mains = refl }
  where
    same : (f : ℕ) → SameFun program.classes [] (slice_get program.funs f) (slice_get code.funs f)
    same zero = record { params = refl; locals = refl; steps = refl }
    same (suc zero) = record { params = refl; locals = refl; steps = refl }
    same (suc (suc zero)) = record { params = refl; locals = refl; steps = refl }
    same (suc (suc (suc zero))) = record { params = refl; locals = refl; steps = refl }
    same (suc (suc (suc (suc f)))) = tt

-- the store that the second slice finds, five samples later
abbrev later : Store
later = record (first_store 1 []) { now = pos 5; objects = (first_store 1 []).objects ++ Instance 3 (AnInt (pos 7) ∷ ARef 0 ∷ []) ∷ [] }

abbrev pub value_of : Outcome Datum → Option Datum
value_of (Done v pt) = Some v
value_of _ = None

abbrev pub ended : Halt → Option Datum
ended (Ended v s) = Some v
ended _ = None

abbrev waits : Halt → Option Store
waits (Waits q place frames s) = Some s.store
waits _ = None

-- the body of A runs for a B, and B's f is called with the object that was held over the wait
by_source : value_of (shred_from program 1 (fun_of 0 (a ∷ []) main_body) [] (first_store 1 []) (later ∷ [])) ≡ Some (AnInt (pos 16))
unfolding nearest_in_range binary int_units is_zero local_of with_local wait_dur referred field_of with_field added fresh bodies_of object_made method_of
by_source = refl

-- so does the code
by_code : ended (code_run code 1 60 (fun_frames 0 (fun_of 0 (a ∷ []) main_body) []) (first_state (first_store 1 [])) (later ∷ [])) ≡ Some (AnInt (pos 16))
unfolding nearest_in_range binary int_units is_zero local_of with_local wait_dur referred field_of with_field added fresh bodies_of object_made method_of
by_code = refl

-- the first slice leaves all the objects that the second one finds
by_first : waits (exec code 1 60 (fun_frames 0 (fun_of 0 (a ∷ []) main_body) []) (first_state (first_store 1 []))) ≡ Some (record later { now = pos 0 })
unfolding nearest_in_range binary int_units is_zero local_of with_local wait_dur referred field_of with_field added fresh bodies_of object_made method_of
by_first = refl

-- the program is well formed -----------------------------------------------------------------------

pub none : {A : Type 0} (P : A → Type 0) → All P []
none P = λ i d lt. absurd (omega arith)

pub some : {A : Type 0} (P : A → Type 0) (x : A) (xs : List A) → P x → All P xs → All P (x ∷ xs)
some P x xs h all zero d lt = h
some P x xs h all (suc i) d lt = all i d (omega arith)

abbrev to_object : IsBelow classes 2 0
to_object = step (class_of 0 (int ∷ a ∷ []) (2 ∷ []) (Some 1) false) refl itself

abbrev b_below_a : IsBelow classes 3 2
b_below_a = step (class_of 2 (int ∷ a ∷ []) (3 ∷ []) None false) refl itself

abbrev object_class : Class
object_class = class_of 0 [] [] None false

abbrev event_class : Class
event_class = class_of 0 [] [] None true

abbrev a_class : Class
a_class = class_of 0 (int ∷ a ∷ []) (2 ∷ []) (Some 1) false

abbrev b_class : Class
b_class = class_of 2 (int ∷ a ∷ []) (3 ∷ []) None false

abbrev Values : List Kind → Type 0
Values ks = All (IsValueKind program.classes) ks

no_values : Values []
no_values = none (IsValueKind program.classes)

one_value : (k : Kind) → IsValueKind program.classes k → Values (k ∷ [])
one_value k is = some (IsValueKind program.classes) k [] is no_values

fields_fine : Values (int ∷ a ∷ [])
fields_fine = some (IsValueKind program.classes) int (a ∷ []) tt (one_value a (omega arith))

fine_object : IsFineClass program 0 object_class
fine_object = record {
  parent = record { fields = ([], refl); slots = λ s g at. absurd (cc at) };
  line = itself;
  fields = no_values;
  virtuals = none (IsVirtual program 0);
  body = tt;
}

fine_event : IsFineClass program 1 event_class
fine_event = record {
  parent = record { fields = ([], refl); slots = λ s g at. absurd (cc at) };
  line = step event_class refl itself;
  fields = no_values;
  virtuals = none (IsVirtual program 1);
  body = tt;
}

fine_a : IsFineClass program 2 a_class
fine_a = record {
  parent = record { fields = (int ∷ a ∷ [], refl); slots = λ s g at. absurd (cc at) };
  line = to_object;
  fields = fields_fine;
  virtuals = some (IsVirtual program 2) 2 [] (2, One elem.Time ∷ [], refl, itself) (none (IsVirtual program 2));
  body = refl;
}

b_slots : (s g : ℕ) → slice_get (2 ∷ []) s ≡ Some g → FoundWhere (slice_get (3 ∷ []) s) (λ f. AreSame program f g)
b_slots zero g at = let is : 2 ≡ g = cc at in subst (λ g. AreSame program 3 g) is (refl, refl)
b_slots (suc s) g at = absurd (cc at)

fine_b : IsFineClass program 3 b_class
fine_b = record {
  parent = record { fields = ([], refl); slots = b_slots };
  line = step b_class refl to_object;
  fields = fields_fine;
  virtuals = some (IsVirtual program 3) 3 [] (3, One elem.Time ∷ [], refl, itself) (none (IsVirtual program 3));
  body = tt;
}

fine_classes : (c : ℕ) (class : Class) → slice_get classes c ≡ Some class → IsFineClass program c class
fine_classes zero class e = let is : object_class ≡ class = cc e in subst (IsFineClass program 0) is fine_object
fine_classes (suc zero) class e = let is : event_class ≡ class = cc e in subst (IsFineClass program 1) is fine_event
fine_classes (suc (suc zero)) class e = let is : a_class ≡ class = cc e in subst (IsFineClass program 2) is fine_a
fine_classes (suc (suc (suc zero))) class e = let is : b_class ≡ class = cc e in subst (IsFineClass program 3) is fine_b
fine_classes (suc (suc (suc (suc c)))) class e = absurd (cc e)

abbrev time : Kind
time = One elem.Time

one_local : (c : ℕ) → c < 4 → Values (One (elem.Class c) ∷ [])
one_local c lt = one_value (One (elem.Class c)) lt

two_locals : (c : ℕ) → c < 4 → Values (One (elem.Class c) ∷ time ∷ [])
two_locals c lt =
    some (IsValueKind program.classes) (One (elem.Class c)) (time ∷ []) lt (one_value time tt)

fine_main : IsFineFun program main_fun
fine_main = record {
  params = omega arith;
  locals = one_local 2 (omega arith);
  result = tt;
  body = (
    (a, (refl, (a, ((int, refl, refl), (b, (omega arith, refl), b_below_a), (NullKind, refl, tt)), itself))),
    ((int, (2, (((a, refl, itself), ((time, ((One elem.Dur, ((int, refl, refl), omega arith, refl), refl), refl), refl), tt)), refl)), refl), tt),
  );
}

fine_a_body : IsFineFun program a_body
fine_a_body = record { params = omega arith; locals = one_local 2 (omega arith); result = tt; body = (int, ((2, (a, refl, itself), refl), (int, refl, refl))) }

fine_a_f : IsFineFun program a_f
fine_a_f = record { params = omega arith; locals = two_locals 2 (omega arith); result = tt; body = (int, refl, refl) }

fine_b_f : IsFineFun program b_f
fine_b_f = record { params = omega arith; locals = two_locals 3 (omega arith); result = tt; body = (int, ((int, (3, (b, refl, itself), refl), refl), (int, refl, refl), refl), refl) }

fine_funs : All (IsFineFun program) program.funs
fine_funs =
    some (IsFineFun program) main_fun (a_body ∷ a_f ∷ b_f ∷ []) fine_main
    (some (IsFineFun program) a_body (a_f ∷ b_f ∷ []) fine_a_body
    (some (IsFineFun program) a_f (b_f ∷ []) fine_a_f
    (some (IsFineFun program) b_f [] fine_b_f (none (IsFineFun program)))))

-- all of it lies in its file
pub lies : LiesIn 1 here
lies = omega arith

main_lies : FunLies 1 main_fun
main_lies = (
  (
    (((lies, lies, lies, lies), tt, lies), lies),
    (((((tt, lies), (((lies, lies), lies), tt)), lies), lies), tt),
  ),
  lies,
)

funs_lie : All (FunLies 1) program.funs
funs_lie =
    some (FunLies 1) main_fun (a_body ∷ a_f ∷ b_f ∷ []) main_lies
    (some (FunLies 1) a_body (a_f ∷ b_f ∷ []) (((lies, ((tt, lies), tt), lies), lies), lies)
    (some (FunLies 1) a_f (b_f ∷ []) ((lies, lies), lies)
    (some (FunLies 1) b_f [] ((((((tt, lies), tt), lies), lies, lies), lies), lies)
    (none (FunLies 1)))))

well_formed : IsWellFormed program
well_formed = record {
  files = refl;
  enough = omega arith;
  mains = some (IsMain program) 0 [] refl (none (IsMain program));
  funs = fine_funs;
  places = funs_lie;
  statics = no_values;
  classes = fine_classes;
  object = refl;
  event = refl;
}

-- so the laws hold of it
it_means : MeansOnFitting program code
it_means = means program well_formed code is_scheme
