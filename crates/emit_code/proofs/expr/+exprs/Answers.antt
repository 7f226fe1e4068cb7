-- The codes of expressions: those that jump are put part after part.
use Rattle.std.proofs.Common.{◌≡◌, ℕ, ◌+◌, pos, List, [], ◌∷◌, ◌++◌, None, length, refl, ap, ◌∙◌, append_assoc, rules, vec_len}
use Rattle.std.specs.Prelude.{slice_set}
use Rattle.ck_values.specs.declared.kind.Elem.TheVariants as elem
use Rattle.ck_values.specs.declared.operator.Op1.TheVariants.{BoolInt}
use Rattle.ck_values.specs.declared.trap.Place.{Place}
use Rattle.ugen_names.specs.declared.table.UgenKind.{UgenKind}
use Rattle.ck_store.specs.Objects.{bodies_of}
use Rattle.ck_typed.specs.declared.class.Class.{Class}
use Rattle.ck_typed.specs.Tree.{Expr, And, Or, Choice, NewObjects}
use Rattle.ck_code.specs.declared.code.Step.{Step}
use Rattle.ck_code.specs.declared.instr.Instr.TheVariants.{Int, Jump, JumpZero, Op1, Row, Each, Turn, New, Ugen, Fill}
use Rattle.ck_scheme.specs.Scheme.{at, bodies_code, bodies_end, expr_end, expr_code, count_of, args_code}
use Rattle.emit_code.proofs.Seams.{one_jump, two_jumps}
use Rattle.std.proofs.lemmas.Result.{on_ok_weaker}
use Rattle.ck_typed.specs.View.{view_expr, exprs_of}
use Rattle.ck_scheme.specs.Tails.{variadic_code}
use Rattle.emit_code.proofs.Rows.{expr_rows, counts}
use Rattle.emit_code.proofs.Emits.{one_after}
use Rattle.emit_code.proofs.expr.+exprs.Goals as goal

module _ (classes : List Class) (texts : List (List ℕ)) (place : Place) (p : ℕ) where
  -- a choice: a test, a first side with a jump past the second, and the second side
  choice_after : (test a b : Expr) (c0 c1 c2 c3 c4 c5 c6 c7 : List Step)
      (n1 n2 n3 n4 n5 n6 i j other end : ℕ)
      → c1 ≡ c0 ++ expr_code classes texts p test → n1 ≡ expr_end classes p test
      → n1 ≡ length c1 → i ≡ n1 → c2 ≡ c1 ++ at (Jump 0) place ∷ [] → n2 ≡ n1 + 1
      → c3 ≡ c2 ++ expr_code classes texts n2 a → n3 ≡ expr_end classes n2 a
      → n3 ≡ length c3 → j ≡ n3 → c4 ≡ c3 ++ at (Jump 0) place ∷ [] → n4 ≡ n3 + 1 → other ≡ n4
      → c5 ≡ slice_set c4 i (at (JumpZero other) place) → n5 ≡ n4
      → c6 ≡ c5 ++ expr_code classes texts n5 b → n6 ≡ expr_end classes n5 b → end ≡ n6
      → c7 ≡ slice_set c6 j (at (Jump end) place)
      → c7 ≡ c0 ++ expr_code classes texts p (Choice test a b place)
  choice_after test a b c0 c1 c2 c3 c4 c5 c6 c7 n1 n2 n3 n4 n5 n6 i j other end e1 r1 l1 at1 e2 r2
      e3 r3 l3 at3 e4 r4 at4 e5 r5 e6 r6 at6 e7 =
      two_jumps c0 (expr_code classes texts p test) (expr_code classes texts n2 a)
      (expr_code classes texts n5 b) c1 c2 c3 c4 c5 c6 c7 _ _ _ _ i j e1 (at1 ∙ l1) e2 e3
      (at3 ∙ l3) e4 e5 e6 e7
      ∙ rw (at6, r6, r5, at4, r4, r3, r2, r1) refl

  -- the right one where the left one isn't 0
  and_after : (a b : Expr) (c0 c1 c2 c3 c4 c5 c6 c7 c8 : List Step)
      (n1 n2 n3 n4 n5 n6 n7 i j other end : ℕ)
      → c1 ≡ c0 ++ expr_code classes texts p a → n1 ≡ expr_end classes p a
      → n1 ≡ length c1 → i ≡ n1 → c2 ≡ c1 ++ at (Jump 0) place ∷ [] → n2 ≡ n1 + 1
      → c3 ≡ c2 ++ expr_code classes texts n2 b → n3 ≡ expr_end classes n2 b
      → c4 ≡ c3 ++ at (Op1 BoolInt) place ∷ [] → n4 ≡ n3 + 1
      → n4 ≡ length c4 → j ≡ n4 → c5 ≡ c4 ++ at (Jump 0) place ∷ [] → n5 ≡ n4 + 1 → other ≡ n5
      → c6 ≡ slice_set c5 i (at (JumpZero other) place) → n6 ≡ n5
      → c7 ≡ c6 ++ at (Int (pos 0)) place ∷ [] → n7 ≡ n6 + 1 → end ≡ n7
      → c8 ≡ slice_set c7 j (at (Jump end) place)
      → c8 ≡ c0 ++ expr_code classes texts p (And a b place)
  and_after a b c0 c1 c2 c3 c4 c5 c6 c7 c8 n1 n2 n3 n4 n5 n6 n7 i j other end e1 r1 l1 at1 e2 r2 e3 r3
      e4 r4 l4 at4 e5 r5 at5 e6 r6 e7 r7 at7 e8 =
      two_jumps c0 (expr_code classes texts p a)
      (expr_code classes texts n2 b ++ at (Op1 BoolInt) place ∷ []) (at (Int (pos 0)) place ∷ [])
      c1 c2 c4 c5 c6 c7 c8 _ _ _ _ i j e1 (at1 ∙ l1) e2
      (e4 ∙ ap (λ c. c ++ at (Op1 BoolInt) place ∷ []) e3
      ∙ append_assoc c2 (expr_code classes texts n2 b) (at (Op1 BoolInt) place ∷ []))
      (at4 ∙ l4) e5 e6 e7 e8
      ∙ rw (at7, r7, r6, at5, r5, r4, r3, r2, r1) (simp append_assoc)

  -- the right one where the left one is 0
  or_after : (a b : Expr) (c0 c1 c2 c3 c4 c5 c6 c7 c8 : List Step)
      (n1 n2 n3 n4 n5 n6 n7 i j other end : ℕ)
      → c1 ≡ c0 ++ expr_code classes texts p a → n1 ≡ expr_end classes p a
      → n1 ≡ length c1 → i ≡ n1 → c2 ≡ c1 ++ at (Jump 0) place ∷ [] → n2 ≡ n1 + 1
      → c3 ≡ c2 ++ at (Int (pos 1)) place ∷ [] → n3 ≡ n2 + 1
      → n3 ≡ length c3 → j ≡ n3 → c4 ≡ c3 ++ at (Jump 0) place ∷ [] → n4 ≡ n3 + 1 → other ≡ n4
      → c5 ≡ slice_set c4 i (at (JumpZero other) place) → n5 ≡ n4
      → c6 ≡ c5 ++ expr_code classes texts n5 b → n6 ≡ expr_end classes n5 b
      → c7 ≡ c6 ++ at (Op1 BoolInt) place ∷ [] → n7 ≡ n6 + 1 → end ≡ n7
      → c8 ≡ slice_set c7 j (at (Jump end) place)
      → c8 ≡ c0 ++ expr_code classes texts p (Or a b place)
  or_after a b c0 c1 c2 c3 c4 c5 c6 c7 c8 n1 n2 n3 n4 n5 n6 n7 i j other end e1 r1 l1 at1 e2 r2 e3 r3
      l3 at3 e4 r4 at4 e5 r5 e6 r6 e7 r7 at7 e8 =
      two_jumps c0 (expr_code classes texts p a) (at (Int (pos 1)) place ∷ [])
      (expr_code classes texts n5 b ++ at (Op1 BoolInt) place ∷ [])
      c1 c2 c3 c4 c5 c7 c8 _ _ _ _ i j e1 (at1 ∙ l1) e2 e3 (at3 ∙ l3) e4 e5
      (e7 ∙ ap (λ c. c ++ at (Op1 BoolInt) place ∷ []) e6
      ∙ append_assoc c5 (expr_code classes texts n5 b) (at (Op1 BoolInt) place ∷ []))
      e8
      ∙ rw (at7, r7, r6, r5, at4, r4, r3, r2, r1) refl

  -- an array of so many nulls, and then a round for each: a new object
  objects_after : (class : ℕ) (size : Expr) (c0 c1 c2 c3 c4 c5 c6 c7 : List Step)
      (n1 n2 n3 n4 n5 n6 round over end : ℕ)
      → c1 ≡ c0 ++ expr_code classes texts p size → n1 ≡ expr_end classes p size
      → c2 ≡ c1 ++ at (Row (elem.Class class)) place ∷ at (Int (pos 0)) place ∷ []
      → n2 ≡ n1 + 1 + 1 → n2 ≡ length c2 → round ≡ n2 → over ≡ n2
      → c3 ≡ c2 ++ at (Jump 0) place ∷ [] → n3 ≡ n2 + 1
      → c4 ≡ c3 ++ at Turn place ∷ [] → n4 ≡ n3 + 1
      → c5 ≡ c4 ++ at (New class) place ∷ bodies_code (bodies_of classes class) place
      → n5 ≡ bodies_end (n4 + 1) (bodies_of classes class)
      → c6 ≡ c5 ++ at Fill place ∷ at (Jump round) place ∷ [] → n6 ≡ n5 + 1 + 1 → end ≡ n6
      → c7 ≡ slice_set c6 over (at (Each end) place)
      → c7 ≡ c0 ++ expr_code classes texts p (NewObjects (elem.Class class) size None place)
  objects_after class size c0 c1 c2 c3 c4 c5 c6 c7 n1 n2 n3 n4 n5 n6 round over end e1 r1 e2 r2 l2
      at_round at_over e3 r3 e4 r4 e5 r5 e6 r6 at_end e7 =
      let bodies = bodies_code (bodies_of classes class) place in
      let made : List Step =
      at Turn place ∷ at (New class) place
      ∷ (bodies ++ at Fill place ∷ at (Jump round) place ∷ []) in
      let all : c6 ≡ c3 ++ made =
      e6 ∙ ap (λ c. c ++ at Fill place ∷ at (Jump round) place ∷ [])
      (e5 ∙ ap (λ c. c ++ at (New class) place ∷ bodies) e4)
      ∙ (simp append_assoc) in
      let start : c2 ≡ c0 ++ (expr_code classes texts p size
      ++ at (Row (elem.Class class)) place ∷ at (Int (pos 0)) place ∷ []) =
      e2 ∙ ap (λ c. c ++ at (Row (elem.Class class)) place ∷ at (Int (pos 0)) place ∷ []) e1
      ∙ append_assoc c0 (expr_code classes texts p size)
      (at (Row (elem.Class class)) place ∷ at (Int (pos 0)) place ∷ []) in
      one_jump c0 _ made c2 c3 c6 c7 _ _ over start (at_over ∙ l2) e3 all e7
      ∙ rw (at_end, r6, r5, r4, r3, at_round, r2, r1) (simp append_assoc)

  -- or a new unit generator
  units_after : (kind : UgenKind) (size : Expr) (c0 c1 c2 c3 c4 c5 c6 : List Step)
      (n1 n2 n3 n4 n5 round over end : ℕ)
      → c1 ≡ c0 ++ expr_code classes texts p size → n1 ≡ expr_end classes p size
      → c2 ≡ c1 ++ at (Row (elem.Unit kind)) place ∷ at (Int (pos 0)) place ∷ []
      → n2 ≡ n1 + 1 + 1 → n2 ≡ length c2 → round ≡ n2 → over ≡ n2
      → c3 ≡ c2 ++ at (Jump 0) place ∷ [] → n3 ≡ n2 + 1
      → c4 ≡ c3 ++ at Turn place ∷ at (Ugen kind) place ∷ [] → n4 ≡ n3 + 1 + 1
      → c5 ≡ c4 ++ at Fill place ∷ at (Jump round) place ∷ [] → n5 ≡ n4 + 1 + 1 → end ≡ n5
      → c6 ≡ slice_set c5 over (at (Each end) place)
      → c6 ≡ c0 ++ expr_code classes texts p (NewObjects (elem.Unit kind) size None place)
  units_after kind size c0 c1 c2 c3 c4 c5 c6 n1 n2 n3 n4 n5 round over end e1 r1 e2 r2 l2 at_round
      at_over e3 r3 e4 r4 e5 r5 at_end e6 =
      let made : List Step =
      at Turn place ∷ at (Ugen kind) place ∷ at Fill place ∷ at (Jump round) place ∷ [] in
      let all : c5 ≡ c3 ++ made =
      e5 ∙ ap (λ c. c ++ at Fill place ∷ at (Jump round) place ∷ []) e4 ∙ (simp append_assoc) in
      let start : c2 ≡ c0 ++ (expr_code classes texts p size
      ++ at (Row (elem.Unit kind)) place ∷ at (Int (pos 0)) place ∷ []) =
      e2 ∙ ap (λ c. c ++ at (Row (elem.Unit kind)) place ∷ at (Int (pos 0)) place ∷ []) e1
      ∙ append_assoc c0 (expr_code classes texts p size)
      (at (Row (elem.Unit kind)) place ∷ at (Int (pos 0)) place ∷ []) in
      one_jump c0 _ made c2 c3 c5 c6 _ _ over start (at_over ∙ l2) e3 all e6
      ∙ rw (at_end, r5, r4, r3, at_round, r2, r1) (simp append_assoc)

-- answers ------------------------------------------------------------------------------------

pub emit_expr-returns-in_ok-emit_all-in-Variadic-clause-code :
    goal.emit_expr-returns-in_ok-emit_all-in-Variadic-clause-code
emit_expr-returns-in_ok-emit_all-in-Variadic-clause-code t c =
    let classes = c.args.tables.now.classes.now in
    let texts = c.args.tables.now.texts.now in
    let p = vec_len c.args.code.now in
    let whole = expr_code classes texts p (view_expr c.args.e.now) in
    let operands = c.items-operands.result.now in
    let first = args_code classes texts p (exprs_of operands) in
    let tail = λ (n : ℕ). variadic_code c.in-Variadic.operation n c.in-Variadic.place in
    let is : whole ≡ first ++ tail (count_of (exprs_of operands)) =
    search (rules, expr_rows) in
    let counted = ap (λ n. first ++ tail n) (counts operands) in
    on_ok_weaker c.emit_variadic.result (λ put.
    one_after c.args.code.now.items c.emit_all.new.code.items
    c.emit_variadic.new.code.items first (tail (length operands)) whole
    c.in_ok-emit_all-in-Variadic.ensures.code put (is ∙ counted)) c.emit_variadic.ensures.code

pub emit_and-returns-clause-code : goal.emit_and-returns-clause-code
emit_and-returns-clause-code t c =
    and_after c.args.tables.now.classes.now c.args.tables.now.texts.now c.args.place (vec_len c.args.code.now)
    (view_expr c.args.left.now) (view_expr c.args.right.now) _ _ _ _ _ _ _ _ _ _ _ _ _ _ _ _ _ _ _
    _
    c.in_ok-emit_expr.ensures.code c.in_ok-emit_expr.ensures.len c.emit_expr.new.code.ok.0
    c.in_ok-skip.ensures.at c.in_ok-skip.ensures.code c.in_ok-skip.ensures.len
    c.in_ok-emit_expr-2.ensures.code c.in_ok-emit_expr-2.ensures.len c.in_ok-put.ensures.code
    c.in_ok-put.ensures.len c.put.new.code.ok.0 c.in_ok-out.ensures.at c.in_ok-out.ensures.code
    c.in_ok-out.ensures.len c.len-other.ensures c.write.ensures.code c.write.ensures.len
    c.in_ok-put-2.ensures.code c.in_ok-put-2.ensures.len c.len-end.ensures c.write-2.ensures.code

pub emit_or-returns-clause-code : goal.emit_or-returns-clause-code
emit_or-returns-clause-code t c =
    or_after c.args.tables.now.classes.now c.args.tables.now.texts.now c.args.place (vec_len c.args.code.now)
    (view_expr c.args.left.now) (view_expr c.args.right.now) _ _ _ _ _ _ _ _ _ _ _ _ _ _ _ _ _ _ _
    _
    c.in_ok-emit_expr.ensures.code c.in_ok-emit_expr.ensures.len c.emit_expr.new.code.ok.0
    c.in_ok-on.ensures.at c.in_ok-on.ensures.code c.in_ok-on.ensures.len c.in_ok-put.ensures.code
    c.in_ok-put.ensures.len c.put.new.code.ok.0 c.in_ok-out.ensures.at c.in_ok-out.ensures.code
    c.in_ok-out.ensures.len c.len-other.ensures c.write.ensures.code c.write.ensures.len
    c.in_ok-emit_expr-2.ensures.code c.in_ok-emit_expr-2.ensures.len c.in_ok-put-2.ensures.code
    c.in_ok-put-2.ensures.len c.len-end.ensures c.write-2.ensures.code

pub emit_choice-returns-clause-code : goal.emit_choice-returns-clause-code
emit_choice-returns-clause-code t c =
    choice_after c.args.tables.now.classes.now c.args.tables.now.texts.now c.args.place (vec_len c.args.code.now)
    (view_expr c.args.test.now) (view_expr c.args.then.now) (view_expr c.args.otherwise.now) _ _ _
    _ _ _ _ _ _ _ _ _ _ _ _ _ _ _
    c.in_ok-emit_expr.ensures.code c.in_ok-emit_expr.ensures.len c.emit_expr.new.code.ok.0
    c.in_ok-over.ensures.at c.in_ok-over.ensures.code c.in_ok-over.ensures.len
    c.in_ok-emit_expr-2.ensures.code c.in_ok-emit_expr-2.ensures.len c.emit_expr-2.new.code.ok.0
    c.in_ok-out.ensures.at c.in_ok-out.ensures.code c.in_ok-out.ensures.len c.len-other.ensures
    c.write.ensures.code c.write.ensures.len c.in_ok-emit_expr-3.ensures.code
    c.in_ok-emit_expr-3.ensures.len c.len-end.ensures c.write-2.ensures.code

pub emit_objects-returns-clause-code : goal.emit_objects-returns-clause-code
emit_objects-returns-clause-code t c =
    objects_after c.args.tables.now.classes.now c.args.tables.now.texts.now c.args.place (vec_len c.args.code.now)
    c.args.class (view_expr c.args.size.now) _ _ _ _ _ _ _ _ _ _ _ _ _ _ _ _ _
    c.in_ok-emit_expr.ensures.code c.in_ok-emit_expr.ensures.len c.in_ok-put_two.ensures.code
    c.in_ok-put_two.ensures.len c.put_two.new.code.ok.0 c.len-round.ensures
    c.in_ok-over.ensures.at c.in_ok-over.ensures.code c.in_ok-over.ensures.len
    c.in_ok-put.ensures.code c.in_ok-put.ensures.len c.in_ok-emit_new.ensures.code
    c.in_ok-emit_new.ensures.len c.in_ok-put_two-2.ensures.code c.in_ok-put_two-2.ensures.len
    c.len-end.ensures c.write.ensures.code

pub emit_units-returns-clause-code : goal.emit_units-returns-clause-code
emit_units-returns-clause-code t c =
    units_after c.args.tables.now.classes.now c.args.tables.now.texts.now c.args.place (vec_len c.args.code.now)
    c.args.kind (view_expr c.args.size.now) _ _ _ _ _ _ _ _ _ _ _ _ _ _ _
    c.in_ok-emit_expr.ensures.code c.in_ok-emit_expr.ensures.len c.in_ok-put_two.ensures.code
    c.in_ok-put_two.ensures.len c.put_two.new.code.ok.0 c.len-round.ensures
    c.in_ok-over.ensures.at c.in_ok-over.ensures.code c.in_ok-over.ensures.len
    c.in_ok-put_two-2.ensures.code c.in_ok-put_two-2.ensures.len c.in_ok-put_two-3.ensures.code
    c.in_ok-put_two-3.ensures.len c.len-end.ensures c.write.ensures.code
