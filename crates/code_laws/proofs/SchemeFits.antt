-- The scheme's code of an expression has a typing.
use Rattle.std.proofs.Common.{◌≡◌, ℕ, ◌+◌, List, [], ◌∷◌, ◌++◌, length, Some, sym, subst}
use Rattle.std.proofs.lemmas.Option.{slice_get_within}
use Rattle.std.specs.Prelude.{slice_get}
use Rattle.ck_values.specs.declared.kind.Elem.TheVariants.{Int as IntElem, Text as TextElem, Shred as ShredElem, Class as ClassElem, Unit as UnitElem}
use Rattle.ck_values.specs.declared.kind.Kind.{Kind}
use Rattle.ck_values.specs.declared.kind.Kind.TheVariants.{One, Row}
use Rattle.ck_values.specs.declared.trap.Place.{Place}
use Rattle.ck_meaning.specs.Meaning.{step_of}
use Rattle.ck_typed.specs.declared.class.Class.{Class}
use Rattle.ck_store.specs.Objects.{bodies_of}
use Rattle.ck_typed.specs.Standing.{Stands}
use Rattle.ck_typed.specs.Tree.{Expr, Exprs, no_exprs, more_exprs, Leaf, Text, Unary, Binary, Variadic, And, Or, Choice, Assign, AssignDeclared, Update, Prefix, Postfix, New as Making, NewObjects, Construct, CallOf, SporkOf, Fun as TypedFun, Program}
use Rattle.ck_typed.specs.WellFormed.{params_of, HasKind, IsWellFormed}
use Rattle.ck_code.specs.declared.instr.Instr.TheVariants.{Jump, JumpZero, Call, Spork}
use Rattle.ck_code.specs.declared.code.Fun.{Fun}
use Rattle.ck_code.specs.declared.code.Step.{Step}
use Rattle.ck_code.specs.Verified.{Places, Typing, AllStand, AreAt}
use Rattle.ck_code.proofs.Standing.{found_is}
use Rattle.ck_scheme.specs.Texts.{number_of, texts_of}
use Rattle.code_laws.proofs.Shapes.{Shaped, AllShaped}
use Rattle.ck_scheme.specs.Scheme.{at, bodies_code, bodies_end, count_of, set_code, update_code, spot_end, expr_end, args_end, expr_code, args_code}
use Rattle.ck_scheme.specs.Tails.{unary_code, binary_code, variadic_code}
use Rattle.ck_scheme.proofs.Stands.{update_length, expr_length, args_length}
use Rattle.code_laws.proofs.Facts.{updates_is, steps_int, kinds_on, AllHave, operands_of, address_of, AllTakeThis, bodies_are}
use Rattle.code_laws.proofs.Parts.{operand_of, two_of, many_of}
use Rattle.code_laws.proofs.Typings.{bodies_shapes, expr_shapes, args_shapes}
use Rattle.code_laws.proofs.Placed as laid
use Rattle.code_laws.proofs.SpotFits as spots
use Rattle.code_laws.proofs.CallFits as calling
use Rattle.code_laws.proofs.UnitFits as units
use Rattle.code_laws.proofs.OperationFits as operations

module _ (program : Program) (fine : IsWellFormed program) (locals : List Kind) where
  abbrev classes : List Class
  classes = program.classes

  module _ (places : Places) where
    abbrev Placed : ℕ → List (List Kind) → Type 0
    Placed p shapes = laid.Placed program fine locals places p shapes

    cut : (e : Expr) (k : Kind) (h : HasKind program locals e k) (under : List Kind) (p : ℕ)
        (b : List (List Kind))
        → Placed p (expr_shapes program fine locals under e k h ++ b)
        → (Placed p (expr_shapes program fine locals under e k h))
        × (Placed (expr_end classes p e) b)
    cut = laid.cut program fine locals places

    first : (e : Expr) (k : Kind) (h : HasKind program locals e k) (under : List Kind) (p : ℕ)
        → Placed p (expr_shapes program fine locals under e k h) → AreAt places p under
    first = laid.first program fine locals places

    cut_args : (args : Exprs) (js : List Kind) (h : AllHave program locals args js)
        (under : List Kind) (p : ℕ) (b : List (List Kind))
        → Placed p (args_shapes program fine locals under args js h ++ b)
        → (Placed p (args_shapes program fine locals under args js h))
        × (Placed (args_end classes p args) b)
    cut_args = laid.cut_args program fine locals places

    args_first : (args : Exprs) (js : List Kind) (h : AllHave program locals args js)
        (under : List Kind) (p : ℕ) → Placed p (args_shapes program fine locals under args js h)
        → AreAt places (args_end classes p args) (kinds_on js under) → AreAt places p under
    args_first = laid.args_first program fine locals places

    abbrev Reached : ℕ → List Kind → Type 0
    Reached p ks = spots.Reached program fine locals places p ks

    reached : (p : ℕ) (ks : List Kind) → AreAt places p ks → Reached p ks
    reached = spots.reached program fine locals places

    on_less : (p : ℕ) (j k : Kind) (under : List Kind) → Stands classes j k
        → Reached p (k ∷ under) → Reached p (j ∷ under)
    on_less = spots.on_less program fine locals places

    same_on : (p : ℕ) (j k : Kind) (under : List Kind) → j ≡ k → Reached p (j ∷ under)
        → Reached p (k ∷ under)
    same_on p j k under is h = subst (λ x. Reached p (x ∷ under)) is h

    module _ (funs : List Fun) (typing : Typing) (fn : Fun) (f : ℕ) (result : Kind)
        (at_locals : fn.locals ≡ locals) (at_result : slice_get typing.results f ≡ Some result)
        (calls : (g : ℕ) (callee : TypedFun) → slice_get program.funs g ≡ Some callee
        → (c : Fun) × (slice_get funs g ≡ Some c) × (c.params ≡ callee.params) × (c.locals ≡ callee.locals)
        × (slice_get typing.results g ≡ Some callee.result)) where
      abbrev Fine : ℕ → List Step → Type 0
      Fine p steps = spots.Fine program fine locals places funs typing fn f at_locals p steps

      fine_join : (a b : List Step) (p q : ℕ) → p + length a ≡ q → Fine p a → Fine q b
          → Fine p (a ++ b)
      fine_join = spots.fine_join program fine locals places funs typing fn f at_locals

      pub join_expr : (e : Expr) (b : List Step) (p : ℕ) → Fine p (expr_code classes (texts_of program) p e) → Fine
          (expr_end classes p e) b
          → Fine p (expr_code classes (texts_of program) p e ++ b)
      join_expr e b p h g =
          fine_join (expr_code classes (texts_of program) p e) b p (expr_end classes p e)
          (expr_length classes (texts_of program) e p) h g

      pub join_args : (args : Exprs) (b : List Step) (p : ℕ)
          → Fine p (args_code classes (texts_of program) p args) → Fine (args_end classes p args) b
          → Fine p (args_code classes (texts_of program) p args ++ b)
      join_args args b p h g =
          fine_join (args_code classes (texts_of program) p args) b p (args_end classes p args)
          (args_length classes (texts_of program) args p) h g

      bodies_first : (c : ℕ) (under : List Kind) (bodies : List ℕ)
          (h : AllTakeThis program c bodies) (p : ℕ) → Placed p (bodies_shapes program fine locals c under bodies h)
          → Reached (bodies_end p bodies) (One (ClassElem c) ∷ under)
          → Reached p (One (ClassElem c) ∷ under)
      bodies_first = calling.bodies_first program fine locals places funs typing fn f at_locals calls

      bodies_code_fine : (c : ℕ) (place : Place) (under : List Kind) (bodies : List ℕ)
          (h : AllTakeThis program c bodies) (p : ℕ) → Placed p (bodies_shapes program fine locals c under bodies h)
          → Reached (bodies_end p bodies) (One (ClassElem c) ∷ under)
          → Fine p (bodies_code bodies place)
      bodies_code_fine =
          calling.bodies_code_fine program fine locals places funs typing fn f at_locals calls

      -- a call or a spork, after its operands
      call_fine : (g : ℕ) (place : Place) (callee : TypedFun) (js under : List Kind) (q : ℕ)
          → slice_get program.funs g ≡ Some callee → AllStand classes js (params_of callee)
          → AreAt places q (kinds_on js under) → Reached (q + 1) (callee.result ∷ under)
          → Fine q (at (Call g) place ∷ [])
      call_fine = calling.call_fine program fine locals places funs typing fn f at_locals calls

      spork_fine : (g : ℕ) (place : Place) (callee : TypedFun) (js under : List Kind) (q : ℕ)
          → slice_get program.funs g ≡ Some callee → AllStand classes js (params_of callee)
          → AreAt places q (kinds_on js under) → Reached (q + 1) (One ShredElem ∷ under)
          → Fine q (at (Spork g) place ∷ [])
      spork_fine = calling.spork_fine program fine locals places funs typing fn f at_locals calls

      mutual
        pub expr_fine : (e : Expr) (k : Kind) (h : HasKind program locals e k) → Shaped program e
            → (under : List Kind) (p : ℕ) → Placed p (expr_shapes program fine locals under e k h)
            → Reached (expr_end classes p e) (k ∷ under) → Fine p (expr_code classes (texts_of program) p e)
        expr_fine (Leaf o place) k h shaped under p placed end =
            operations.leaf_fine program fine locals places funs typing fn f at_locals calls o
            place k h under p placed end
        expr_fine (Text bytes place) k h shaped under p placed end =
            let within = slice_get_within (texts_of program) (number_of (texts_of program) bytes) bytes shaped in
            ((under, placed.0, (within, same_on (p + 1) k (One TextElem) under h end)), tt)
        expr_fine (Unary o a place) k h shaped under p placed end =
            let x = operand_of program o _ k h in
            let ca = cut a x.kind x.has under p _ placed in
            let q = expr_end classes p a in
            join_expr a (unary_code o place) p
            (expr_fine a x.kind x.has shaped under p ca.0 (reached q (x.kind ∷ under) ca.1.0))
            (operations.unary_fine program fine locals places funs typing fn f at_locals calls o
            place _ k h under q ca.1 end)
        expr_fine (Binary o a b place) k h shaped under p placed end =
            let x = two_of program o _ _ k h in
            let m = expr_end classes p a in
            let q = expr_end classes m b in
            let on : List Kind = x.left ∷ under in
            let ca = cut a x.left x.at_left under p _ placed in
            let cb = cut b x.right x.at_right on m _ ca.1 in
            join_expr a _ p (expr_fine a x.left x.at_left shaped.1 under p ca.0
            (reached m on (first b x.right x.at_right on m cb.0)))
            (join_expr b (binary_code o place) m
            (expr_fine b x.right x.at_right shaped.2 on m cb.0 (reached q (x.right ∷ on) cb.1.0))
            (operations.binary_fine program fine locals places funs typing fn f at_locals calls o
            place _ _ k h under q cb.1 end))
        expr_fine (Variadic o operands place) k h shaped under p placed end =
            let x = many_of program locals o operands k h in
            let c = cut_args operands x.kinds x.have under p _ placed in
            join_args operands (variadic_code o (count_of operands) place) p
            (args_fine operands x.kinds x.have shaped.1 under p c.0 c.1.0)
            (operations.variadic_fine program fine locals places funs typing fn f at_locals calls o
            place operands k h under (args_end classes p operands) c.1 end)
        expr_fine (And a b place) k h shaped under p placed end =
            let ja = h.0.0 in
            let jb = h.1.0 in
            let ca = cut a ja h.0.1 under p _ placed in
            let start = expr_end classes p a + 1 in
            let cb = cut b jb h.1.1 under start _ ca.1.1 in
            let q = expr_end classes start b in
            let last = same_on (q + 1 + 1 + 1) k (One IntElem) under h.2 end in
            join_expr a _ p (expr_fine a ja h.0.1 shaped.0 under p ca.0
            (reached (expr_end classes p a) (ja ∷ under) ca.1.0)) (
              (
                ja ∷ under,
                ca.1.0,
                (
                  h.0.2,
                  (
                    reached (q + 1 + 1) under cb.1.1.1.0,
                    reached start under (first b jb h.1.1 under start cb.0),
                  ),
                ),
              ),
              join_expr b _ start (expr_fine b jb h.1.1 shaped.1 under start cb.0
                  (reached q (jb ∷ under) cb.1.0)) (
                    (jb ∷ under, cb.1.0, (h.1.2, reached (q + 1) (One IntElem ∷ under) cb.1.1.0)),
                    ((One IntElem ∷ under, cb.1.1.0, last), ((under, cb.1.1.1.0, last), tt)),
                  ),
            )
        expr_fine (Or a b place) k h shaped under p placed end =
            let ja = h.0.0 in
            let jb = h.1.0 in
            let ca = cut a ja h.0.1 under p _ placed in
            let m = expr_end classes p a in
            let second = m + 1 + 1 + 1 in
            let cb = cut b jb h.1.1 under second _ ca.1.1.1.1 in
            let q = expr_end classes second b in
            let last = same_on (q + 1) k (One IntElem) under h.2 end in
            join_expr a _ p (expr_fine a ja h.0.1 shaped.0 under p ca.0 (reached m (ja ∷ under) ca.1.0)) (
              (
                ja ∷ under,
                ca.1.0,
                (
                  h.0.2,
                  (
                    reached second under (first b jb h.1.1 under second cb.0),
                    reached (m + 1) under ca.1.1.0,
                  ),
                ),
              ),
              (
                (under, ca.1.1.0, reached (m + 1 + 1) (One IntElem ∷ under) ca.1.1.1.0),
                (
                  (One IntElem ∷ under, ca.1.1.1.0, last),
                  join_expr b _ second (expr_fine b jb h.1.1 shaped.1 under second cb.0
                      (reached q (jb ∷ under) cb.1.0))
                      ((jb ∷ under, cb.1.0, (h.1.2, last)), tt),
                ),
              ),
            )
        expr_fine (Choice c a b place) k h shaped under p placed end =
            let cc1 = cut c h.0.0 h.0.1 under p _ placed in
            let start = expr_end classes p c + 1 in
            let ca = cut a h.1.0 h.1.1 under start _ cc1.1.1 in
            let second = expr_end classes start a + 1 in
            join_expr c (at (JumpZero second) place
            ∷ (expr_code classes (texts_of program) start a
            ++ (at (Jump (expr_end classes second b)) place ∷ expr_code classes (texts_of program) second b))) p
            (expr_fine c h.0.0 h.0.1 shaped.0 under p cc1.0 (reached (expr_end classes p c) (h.0.0 ∷ under) cc1.1.0)) (
              (
                h.0.0 ∷ under,
                cc1.1.0,
                (
                  h.0.2,
                  (
                    reached second under
                        (first b h.2.0 h.2.1 under second ca.1.1),
                    reached start under (first a h.1.0 h.1.1 under start ca.0),
                  ),
                ),
              ),
              join_expr a (at (Jump (expr_end classes second b)) place ∷ expr_code classes (texts_of program) second b)
                  start
                  (expr_fine a h.1.0 h.1.1 shaped.1 under start ca.0
                  (reached (expr_end classes start a) (h.1.0 ∷ under) ca.1.0)) (
                    (h.1.0 ∷ under, ca.1.0, on_less (expr_end classes second b) h.1.0 k under h.1.2 end),
                    expr_fine b h.2.0 h.2.1 shaped.2 under second ca.1.1
                        (on_less (expr_end classes second b) h.2.0 k under h.2.2 end),
                  ),
            )
        expr_fine (Assign e spot address place) k h shaped under p placed end =
            let a = address_of program locals spot address k h.0 in
            let j = h.1.0 in
            let ce = cut e j h.1.1 under p _ placed in
            let ca = cut_args address a.kinds a.have (j ∷ under) (expr_end classes p e) _
            ce.1 in
            join_expr e (args_code classes (texts_of program) (expr_end classes p e) address ++ set_code spot place) p
            (expr_fine e j h.1.1 shaped.0 under p ce.0
            (reached (expr_end classes p e) (j ∷ under) (args_first address a.kinds a.have
            (j ∷ under) (expr_end classes p e) ca.0 ca.1.0)))
            (join_args address (set_code spot place) (expr_end classes p e)
            (args_fine address a.kinds a.have shaped.2 (j ∷ under) (expr_end classes p e) ca.0
            ca.1.0) (spots.set_fine program fine locals places funs typing fn f at_locals spot place a.kinds
            j k under (args_end classes (expr_end classes p e) address) a.at h.1.2 ca.1 end))
        expr_fine (AssignDeclared e declaration spot address place) k h shaped under p placed end =
            let a = address_of program locals spot address k h.0 in
            let j = h.1.0 in
            let i = h.2.0 in
            let m = expr_end classes p e in
            let made = expr_end classes m declaration in
            let ce = cut e j h.1.1 under p _ placed in
            let cd = cut declaration i h.2.1 (j ∷ under) m _ ce.1 in
            let ca = cut_args address a.kinds a.have (j ∷ under) (made + 1) _ cd.1.1 in
            let q = args_end classes (made + 1) address in
            join_expr e _ p (expr_fine e j h.1.1 shaped.0 under p ce.0
            (reached m (j ∷ under) (first declaration i h.2.1 (j ∷ under) m cd.0)))
            (join_expr declaration _ m (expr_fine declaration i h.2.1 shaped.1 (j ∷ under) m cd.0
            (reached made (i ∷ j ∷ under) cd.1.0)) (
              (
                i ∷ j ∷ under,
                cd.1.0,
                reached (made + 1) (j ∷ under)
                    (args_first address a.kinds a.have (j ∷ under) (made + 1) ca.0 ca.1.0),
              ),
              join_args address (set_code spot place) (made + 1)
                  (args_fine address a.kinds a.have shaped.3 (j ∷ under) (made + 1) ca.0 ca.1.0)
                  (spots.set_fine program fine locals places funs typing fn f at_locals spot place
                  a.kinds j k under q a.at h.1.2 ca.1 end),
            ))
        expr_fine (Update o e spot address place) k h shaped under p placed end =
            let a = address_of program locals spot address k h.0 in
            let u = updates_is program o (HasKind program locals e) k h.1 in
            let j = u.value in
            let m = expr_end classes p e in
            let ce = cut e j u.at_value under p _ placed in
            let ca = cut_args address a.kinds a.have (j ∷ under) m _ ce.1 in
            join_expr e _ p (expr_fine e j u.at_value shaped.0 under p ce.0
            (reached m (j ∷ under)
            (args_first address a.kinds a.have (j ∷ under) m ca.0 ca.1.0)))
            (join_args address (update_code spot o place) m
            (args_fine address a.kinds a.have shaped.2 (j ∷ under) m ca.0 ca.1.0)
            (spots.update_fine program fine locals places funs typing fn f at_locals spot o place
            a.kinds k (HasKind program locals e) u under (args_end classes m address) a.at ca.1
            end))
        expr_fine (Prefix direction spot address place) k h shaped under p placed end =
            let a = address_of program locals spot address k h.0 in
            let int : Kind = One IntElem in
            let u = steps_int program direction k h.1 in
            let ca = cut_args address a.kinds a.have (int ∷ under) (p + 1) _ placed.1 in (
              (
                under,
                placed.0,
                reached (p + 1) (int ∷ under)
                    (args_first address a.kinds a.have (int ∷ under) (p + 1) ca.0 ca.1.0),
              ),
              join_args address (update_code spot (step_of direction) place) (p + 1)
                  (args_fine address a.kinds a.have shaped.1 (int ∷ under) (p + 1) ca.0 ca.1.0)
                  (spots.update_fine program fine locals places funs typing fn f at_locals spot
                  (step_of direction) place a.kinds k (λ j. j ≡ int) u under
                  (args_end classes (p + 1) address) a.at ca.1 end),
            )
        expr_fine (Postfix direction spot address place) k h shaped under p placed end =
            let a = address_of program locals spot address k h.0 in
            let int : Kind = One IntElem in
            let u = steps_int program direction k h.1 in
            let ca = cut_args address a.kinds a.have (int ∷ under) (p + 1) _ placed.1 in
            let q = args_end classes (p + 1) address in
            let r = spot_end q spot in
            let after = laid.placed_after program fine locals places spot _ _ _ q ca.1 in
            let o = step_of direction in (
              (
                under,
                placed.0,
                reached (p + 1) (int ∷ under)
                    (args_first address a.kinds a.have (int ∷ under) (p + 1) ca.0 ca.1.0),
              ),
              join_args address _ (p + 1)
                  (args_fine address a.kinds a.have shaped.1 (int ∷ under) (p + 1) ca.0 ca.1.0)
                  (fine_join (update_code spot o place) _ q r (update_length spot o place q)
                  (spots.update_fine program fine locals places funs typing fn f at_locals spot o
                  place a.kinds k (λ j. j ≡ int) u under q a.at after.0
                  (same_on r int k under (sym h.1) (reached r (int ∷ under) after.1.0)))
                  (spots.undone_fine program fine locals places funs typing fn f at_locals
                  direction place under r after.1.0 after.1.1.0
                  (same_on (r + 1 + 1) k int under h.1 end))),
            )
        expr_fine (Making c place) k h shaped under p placed end =
            let bodies = bodies_of program.classes c in
            let are = bodies_are program fine c in
            let last = same_on (bodies_end (p + 1) bodies) k (One (ClassElem c)) under h.1 end in (
              (under, placed.0, (h.0, bodies_first c under bodies are (p + 1) placed.1 last)),
              bodies_code_fine c place under bodies are (p + 1) placed.1 last,
            )
        expr_fine (NewObjects (ClassElem c) n constructor place) k h shaped under p placed end =
            let q = expr_end classes p n in
            let cn = cut n h.1.0 h.1.1 under p _ placed in
            let last = bodies_end (q + 1 + 1 + 1 + 1 + 1) (bodies_of program.classes c) + 1 + 1 in
            join_expr n _ p
            (expr_fine n h.1.0 h.1.1 shaped.0 under p cn.0 (reached q (h.1.0 ∷ under) cn.1.0))
            (calling.objects_fine program fine locals places funs typing fn f at_locals calls c
            place h.1.0 under q h.0 h.1.2 cn.1 (same_on last k (Row (ClassElem c)) under h.3 end))
        expr_fine (NewObjects (UnitElem kind) n constructor place) k h shaped under p placed end =
            let q = expr_end classes p n in
            let cn = cut n h.1.0 h.1.1 under p _ placed in
            let last = q + 1 + 1 + 1 + 1 + 1 + 1 + 1 in
            join_expr n _ p
            (expr_fine n h.1.0 h.1.1 shaped under p cn.0 (reached q (h.1.0 ∷ under) cn.1.0))
            (units.units_fine program fine locals places funs typing fn f at_locals kind place
            h.1.0 under q h.0 h.1.2 cn.1 (same_on last k (Row (UnitElem kind)) under h.3 end))
        expr_fine (Construct o g arguments place) k h shaped under p placed end =
            expr_fine o k h.0 shaped under p placed end
        expr_fine (CallOf o g arguments place) k h shaped under p placed end =
            let i = h.0.0 in
            let m = expr_end classes p o in
            let callee = found_is (slice_get program.funs g) _ h.1 in
            let a = operands_of program locals arguments (params_of callee.0) callee.2.0 in
            let co = cut o i h.0.1 under p _ placed in
            let c = cut_args arguments a.kinds a.have under (m + 1) _ co.1.1 in
            let q = args_end classes (m + 1) arguments in
            join_expr o _ p (expr_fine o i h.0.1 shaped.0 under p co.0 (reached m (i ∷ under) co.1.0)) (
              (
                i ∷ under,
                co.1.0,
                reached (m + 1) under
                    (args_first arguments a.kinds a.have under (m + 1) c.0 c.1.0),
              ),
              join_args arguments (at (Call g) place ∷ []) (m + 1)
                  (args_fine arguments a.kinds a.have shaped.2 under (m + 1) c.0 c.1.0)
                  (call_fine g place callee.0 a.kinds under q callee.1 a.stand c.1.0
                  (same_on (q + 1) k callee.0.result under callee.2.1 end)),
            )
        expr_fine (SporkOf o g arguments place) k h shaped under p placed end =
            let i = h.0.0 in
            let m = expr_end classes p o in
            let callee = found_is (slice_get program.funs g) _ h.1 in
            let a = operands_of program locals arguments (params_of callee.0) callee.2 in
            let co = cut o i h.0.1 under p _ placed in
            let c = cut_args arguments a.kinds a.have under (m + 1) _ co.1.1 in
            let q = args_end classes (m + 1) arguments in
            join_expr o _ p (expr_fine o i h.0.1 shaped.0 under p co.0 (reached m (i ∷ under) co.1.0)) (
              (
                i ∷ under,
                co.1.0,
                reached (m + 1) under
                    (args_first arguments a.kinds a.have under (m + 1) c.0 c.1.0),
              ),
              join_args arguments (at (Spork g) place ∷ []) (m + 1)
                  (args_fine arguments a.kinds a.have shaped.2 under (m + 1) c.0 c.1.0)
                  (spork_fine g place callee.0 a.kinds under q callee.1 a.stand c.1.0
                  (same_on (q + 1) k (One ShredElem) under h.2 end)),
            )
        expr_fine (NewObjects _ n constructor place) k h shaped under p placed end = absurd h.0

        pub args_fine : (args : Exprs) (js : List Kind) (h : AllHave program locals args js)
            → AllShaped program args → (under : List Kind) (p : ℕ)
            → Placed p (args_shapes program fine locals under args js h)
            → AreAt places (args_end classes p args) (kinds_on js under)
            → Fine p (args_code classes (texts_of program) p args)
        args_fine no_exprs js h shaped under p placed end = tt
        args_fine (more_exprs e rest) [] h shaped under p placed end = absurd h
        args_fine (more_exprs e rest) (j ∷ js) h shaped under p placed end =
            let ce = cut e j h.0 under p _ placed in
            join_expr e (args_code classes (texts_of program) (expr_end classes p e) rest) p
            (expr_fine e j h.0 shaped.0 under p ce.0
            (reached (expr_end classes p e) (j ∷ under)
            (args_first rest js h.1 (j ∷ under) (expr_end classes p e) ce.1 end)))
            (args_fine rest js h.1 shaped.1 (j ∷ under) (expr_end classes p e) ce.1 end)
