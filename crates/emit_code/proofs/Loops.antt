-- The codes of statements that jump, put part after part.
use Rattle.std.proofs.Common.{◌≡◌, ℕ, ◌+◌, pos, Bool, List, [], ◌∷◌, ◌++◌, length, refl, ap, ◌∙◌, append_assoc}
use Rattle.std.specs.Prelude.{slice_set}
use Rattle.ck_values.specs.declared.operator.Op2.TheVariants.{SubIntInt, GtIntInt}
use Rattle.ck_values.specs.declared.trap.Place.{Place}
use Rattle.ck_typed.specs.declared.class.Class.{Class}
use Rattle.ck_typed.specs.Tree.{Expr, Stmt, If, Loop, LoopLast, For, ForEver, Repeat}
use Rattle.ck_code.specs.declared.code.Step.{Step}
use Rattle.ck_code.specs.declared.instr.Instr.TheVariants.{Int, Dup, Drop, Op2, Jump, JumpZero, Turn}
use Rattle.ck_scheme.specs.Scheme.{at, test_end, test_code, expr_end, expr_code, stmt_end, stmt_code}
use Rattle.emit_code.specs.declared.jumps.Held.{Held}
use Rattle.emit_code.specs.Exits.{exits_of, written}
use Rattle.emit_code.specs.Rounds.{round_code}
use Rattle.emit_code.proofs.Seams.{one_jump, two_jumps}
use Rattle.emit_code.proofs.Exits.{written-exits}

-- what is held where nothing was
pub from_none : (h h0 x : List Held) → h ≡ h0 ++ x → h0 ≡ [] → h ≡ x
from_none h h0 x e none = e ∙ ap (λ l. l ++ x) none

module _ (classes : List Class) (texts : List (List ℕ)) (place : Place) where
  -- a body with its exits written, whatever stands behind it
  pub body_written : (body : Stmt) (out again p : ℕ) (held : List Held) (d c0 c1 c2 c3 : List Step)
      → p ≡ length c0 → c1 ≡ c0 ++ stmt_code classes texts 0 0 p body
      → held ≡ exits_of classes p body → c2 ≡ c1 ++ d → c3 ≡ written out again held c2
      → c3 ≡ c0 ++ (stmt_code classes texts out again p body ++ d)
  body_written body out again p held d c0 c1 c2 c3 stands e1 is e2 e3 =
      e3 ∙ ap (λ h. written out again h c2) is
      ∙ ap (written out again (exits_of classes p body))
      (e2 ∙ ap (λ c. c ++ d) e1 ∙ append_assoc c0 (stmt_code classes texts 0 0 p body) d)
      ∙ written-exits out again classes texts body p c0 d stands

  pub if_after : (test : Expr) (a b : Stmt) (p : ℕ) (c0 c1 c2 c3 c4 c5 c6 c7 : List Step)
      (n1 n2 n3 n4 n5 n6 i j other end : ℕ)
      → c1 ≡ c0 ++ expr_code classes texts p test → n1 ≡ expr_end classes p test
      → n1 ≡ length c1 → i ≡ n1 → c2 ≡ c1 ++ at (Jump 0) place ∷ [] → n2 ≡ n1 + 1
      → c3 ≡ c2 ++ stmt_code classes texts 0 0 n2 a → n3 ≡ stmt_end classes n2 a
      → n3 ≡ length c3 → j ≡ n3 → c4 ≡ c3 ++ at (Jump 0) place ∷ [] → n4 ≡ n3 + 1 → other ≡ n4
      → c5 ≡ slice_set c4 i (at (JumpZero other) place) → n5 ≡ n4
      → c6 ≡ c5 ++ stmt_code classes texts 0 0 n5 b → n6 ≡ stmt_end classes n5 b → end ≡ n6
      → c7 ≡ slice_set c6 j (at (Jump end) place)
      → c7 ≡ c0 ++ stmt_code classes texts 0 0 p (If test a b place)
  if_after test a b p c0 c1 c2 c3 c4 c5 c6 c7 n1 n2 n3 n4 n5 n6 i j other end e1 r1 l1 at1 e2 r2
      e3 r3 l3 at3 e4 r4 at4 e5 r5 e6 r6 at6 e7 =
      two_jumps c0 (expr_code classes texts p test) (stmt_code classes texts 0 0 n2 a)
      (stmt_code classes texts 0 0 n5 b) c1 c2 c3 c4 c5 c6 c7 _ _ _ _ i j e1 (at1 ∙ l1) e2 e3
      (at3 ∙ l3) e4 e5 e6 e7
      ∙ rw (at6, r6, r5, at4, r4, r3, r2, r1) refl

  pub if_held : (test : Expr) (a b : Stmt) (p n2 n5 : ℕ) (h0 h1 h2 : List Held)
      → h1 ≡ h0 ++ exits_of classes n2 a → n2 ≡ expr_end classes p test + 1
      → h2 ≡ h1 ++ exits_of classes n5 b → n5 ≡ stmt_end classes n2 a + 1
      → h2 ≡ h0 ++ exits_of classes p (If test a b place)
  if_held test a b p n2 n5 h0 h1 h2 e1 r2 e2 r5 = rw (e2, e1, r5, r2) (simp append_assoc)

  -- a loop whose test comes first
  pub while_after : (until : Bool) (test : Expr) (body : Stmt) (p : ℕ)
      (c0 c1 c2 c3 c4 c5 c6 c7 : List Step) (held : List Held) (n1 n2 n3 n4 n5 round over end : ℕ)
      → round ≡ p → c1 ≡ c0 ++ test_code classes texts until p test place
      → n1 ≡ test_end classes until p test → n1 ≡ length c1 → over ≡ n1
      → c2 ≡ c1 ++ at (Jump 0) place ∷ [] → n2 ≡ n1 + 1
      → c3 ≡ c2 ++ at Turn place ∷ [] → n3 ≡ n2 + 1 → n3 ≡ length c3
      → c4 ≡ c3 ++ stmt_code classes texts 0 0 n3 body → held ≡ exits_of classes n3 body
      → n4 ≡ stmt_end classes n3 body → c5 ≡ c4 ++ at (Jump round) place ∷ [] → n5 ≡ n4 + 1
      → end ≡ n5 → c6 ≡ written end round held c5
      → c7 ≡ slice_set c6 over (at (JumpZero end) place)
      → c7 ≡ c0 ++ stmt_code classes texts 0 0 p (Loop until test body place)
  while_after until test body p c0 c1 c2 c3 c4 c5 c6 c7 held n1 n2 n3 n4 n5 round over end at_round
      e1 r1 l1 at_over e2 r2 e3 r3 l3 e4 is r4 e5 r5 at_end e6 e7 =
      let back : List Step = at (Jump round) place ∷ [] in
      let loop : List Step =
      at Turn place ∷ (stmt_code classes texts end round n3 body ++ back) in
      let all : c6 ≡ c2 ++ loop =
      body_written body end round n3 held back c3 c4 c5 c6 l3 e4 is e5 e6
      ∙ ap (λ c. c ++ (stmt_code classes texts end round n3 body ++ back)) e3
      ∙ append_assoc c2 (at Turn place ∷ []) (stmt_code classes texts end round n3 body ++ back) in
      one_jump c0 (test_code classes texts until p test place) loop c1 c2 c6 c7 _ _ over e1
      (at_over ∙ l1) e2 all e7
      ∙ rw (at_end, r5, r4, r3, r2, r1, at_round) refl

  -- a loop whose test comes last
  pub do_after : (until : Bool) (test : Expr) (body : Stmt) (p : ℕ)
      (c0 c1 c2 c3 c4 c5 c6 c7 : List Step) (held : List Held)
      (n1 n2 n3 n4 n5 round again over end : ℕ)
      → round ≡ p → c1 ≡ c0 ++ at Turn place ∷ [] → n1 ≡ p + 1 → n1 ≡ length c1
      → c2 ≡ c1 ++ stmt_code classes texts 0 0 n1 body → held ≡ exits_of classes n1 body
      → n2 ≡ stmt_end classes n1 body → again ≡ n2
      → c3 ≡ c2 ++ test_code classes texts until n2 test place
      → n3 ≡ test_end classes until n2 test → n3 ≡ length c3 → over ≡ n3
      → c4 ≡ c3 ++ at (Jump 0) place ∷ [] → n4 ≡ n3 + 1
      → c5 ≡ c4 ++ at (Jump round) place ∷ [] → n5 ≡ n4 + 1 → end ≡ n5
      → c6 ≡ slice_set c5 over (at (JumpZero end) place)
      → c7 ≡ written end again held c6
      → c7 ≡ c0 ++ stmt_code classes texts 0 0 p (LoopLast until body test place)
  do_after until test body p c0 c1 c2 c3 c4 c5 c6 c7 held n1 n2 n3 n4 n5 round again over end at_round
      e1 r1 l1 e2 is r2 at_again e3 r3 l3 at_over e4 r4 e5 r5 at_end e6 e7 =
      let check = test_code classes texts until n2 test place in
      let rest : List Step = check ++ at (JumpZero end) place ∷ at (Jump round) place ∷ [] in
      let behind : c6 ≡ c2 ++ rest =
      one_jump c2 check (at (Jump round) place ∷ []) c3 c4 c5 c6 _ _ over e3 (at_over ∙ l3) e4 e5 e6 in
      body_written body end again n1 held rest c1 c2 c6 c7 l1 e2 is behind e7
      ∙ ap (λ c. c ++ (stmt_code classes texts end again n1 body ++ rest)) e1
      ∙ append_assoc c0 (at Turn place ∷ []) (stmt_code classes texts end again n1 body ++ rest)
      ∙ rw (at_end, r5, r4, r3, at_again, r2, r1, at_round)
      refl

  -- the body of a `for`, its step, and the jump back
  pub round_after : (step body : Stmt) (round p : ℕ) (c0 c1 c2 c3 c4 c5 : List Step)
      (held last : List Held) (n1 n2 n3 again end : ℕ)
      → p ≡ length c0 → c1 ≡ c0 ++ stmt_code classes texts 0 0 p body
      → held ≡ exits_of classes p body → n1 ≡ stmt_end classes p body → n1 ≡ length c1
      → again ≡ n1 → c2 ≡ c1 ++ stmt_code classes texts 0 0 n1 step
      → last ≡ exits_of classes n1 step → n2 ≡ stmt_end classes n1 step
      → c3 ≡ c2 ++ at (Jump round) place ∷ [] → n3 ≡ n2 + 1 → end ≡ n3
      → c4 ≡ written end round last c3 → c5 ≡ written end again held c4
      → c5 ≡ c0 ++ round_code classes texts round p step body place
  round_after step body round p c0 c1 c2 c3 c4 c5 held last n1 n2 n3 again end l0 e1 is r1 l1 at_again
      e2 is2 r2 e3 r3 at_end e4 e5 =
      let back : List Step = at (Jump round) place ∷ [] in
      body_written body end again p held (stmt_code classes texts end round n1 step ++ back) c0 c1
      c4 c5 l0 e1 is (body_written step end round n1 last back c1 c2 c3 c4 l1 e2 is2 e3 e4) e5
      ∙ rw (at_end, r3, r2, at_again, r1) refl

  pub for_after : (start step body : Stmt) (test : Expr) (p : ℕ) (c0 c1 c2 c3 c4 c5 c6 : List Step)
      (n1 n2 n3 n4 n5 round over end : ℕ)
      → c1 ≡ c0 ++ stmt_code classes texts 0 0 p start → n1 ≡ stmt_end classes p start → round ≡ n1
      → c2 ≡ c1 ++ expr_code classes texts n1 test → n2 ≡ expr_end classes n1 test
      → n2 ≡ length c2 → over ≡ n2 → c3 ≡ c2 ++ at (Jump 0) place ∷ [] → n3 ≡ n2 + 1
      → c4 ≡ c3 ++ at Turn place ∷ [] → n4 ≡ n3 + 1
      → c5 ≡ c4 ++ round_code classes texts round n4 step body place
      → n5 ≡ stmt_end classes (stmt_end classes n4 body) step + 1 → end ≡ n5
      → c6 ≡ slice_set c5 over (at (JumpZero end) place)
      → c6 ≡ c0 ++ stmt_code classes texts 0 0 p (For start test step body place)
  for_after start step body test p c0 c1 c2 c3 c4 c5 c6 n1 n2 n3 n4 n5 round over end e1 r1 at_round
      e2 r2 l2 at_over e3 r3 e4 r4 e5 r5 at_end e6 =
      let rounds = round_code classes texts round n4 step body place in
      one_jump c1 (expr_code classes texts n1 test) (at Turn place ∷ rounds) c2 c3 c5 c6 _ _ over e2
      (at_over ∙ l2) e3
      (e5 ∙ ap (λ c. c ++ rounds) e4 ∙ append_assoc c3 (at Turn place ∷ []) rounds) e6
      ∙ ap (λ c. c ++ (expr_code classes texts n1 test
      ++ at (JumpZero end) place ∷ at Turn place ∷ rounds)) e1
      ∙ append_assoc c0 (stmt_code classes texts 0 0 p start) _
      ∙ rw (at_end, r5, r4, r3, r2, at_round, r1) refl

  pub endless_after : (start step body : Stmt) (p : ℕ) (c0 c1 c2 c3 : List Step) (n1 n2 round : ℕ)
      → c1 ≡ c0 ++ stmt_code classes texts 0 0 p start → n1 ≡ stmt_end classes p start → round ≡ n1
      → c2 ≡ c1 ++ at Turn place ∷ [] → n2 ≡ n1 + 1
      → c3 ≡ c2 ++ round_code classes texts round n2 step body place
      → c3 ≡ c0 ++ stmt_code classes texts 0 0 p (ForEver start step body place)
  endless_after start step body p c0 c1 c2 c3 n1 n2 round e1 r1 at_round e2 r2 e3 =
      rw (e3, e2, e1, r2, at_round, r1) (simp append_assoc)

  pub repeat_after : (count : Expr) (body : Stmt) (p : ℕ) (c0 c1 c2 c3 c4 c5 c6 c7 c8 c9 c10 : List Step)
      (held : List Held) (n1 n2 n3 n4 n5 n6 n7 round again over end : ℕ)
      → c1 ≡ c0 ++ expr_code classes texts p count → n1 ≡ expr_end classes p count → round ≡ n1
      → c2 ≡ c1 ++ at Dup place ∷ at (Int (pos 0)) place ∷ at (Op2 GtIntInt) place ∷ []
      → n2 ≡ n1 + 1 + 1 + 1 → n2 ≡ length c2 → over ≡ n2
      → c3 ≡ c2 ++ at (Jump 0) place ∷ [] → n3 ≡ n2 + 1
      → c4 ≡ c3 ++ at Turn place ∷ [] → n4 ≡ n3 + 1 → n4 ≡ length c4
      → c5 ≡ c4 ++ stmt_code classes texts 0 0 n4 body → held ≡ exits_of classes n4 body
      → n5 ≡ stmt_end classes n4 body → again ≡ n5
      → c6 ≡ c5 ++ at (Int (pos 1)) place ∷ at (Op2 SubIntInt) place ∷ [] → n6 ≡ n5 + 1 + 1
      → c7 ≡ c6 ++ at (Jump round) place ∷ [] → n7 ≡ n6 + 1 → end ≡ n7
      → c8 ≡ written end again held c7 → c9 ≡ slice_set c8 over (at (JumpZero end) place)
      → c10 ≡ c9 ++ at Drop place ∷ []
      → c10 ≡ c0 ++ stmt_code classes texts 0 0 p (Repeat count body place)
  repeat_after count body p c0 c1 c2 c3 c4 c5 c6 c7 c8 c9 c10 held n1 n2 n3 n4 n5 n6 n7 round again over
      end e1 r1 at_round e2 r2 l2 at_over e3 r3 e4 r4 l4 e5 is r5 at_again e6 r6 e7 r7 at_end e8 e9 e10 =
      let more : List Step =
      at Dup place ∷ at (Int (pos 0)) place ∷ at (Op2 GtIntInt) place ∷ [] in
      let back : List Step =
      at (Int (pos 1)) place ∷ at (Op2 SubIntInt) place ∷ at (Jump round) place ∷ [] in
      let done = stmt_code classes texts end again n4 body in
      let behind : c7 ≡ c5 ++ back =
      e7 ∙ ap (λ c. c ++ at (Jump round) place ∷ []) e6 ∙ (simp append_assoc) in
      let all : c8 ≡ c3 ++ at Turn place ∷ (done ++ back) =
      body_written body end again n4 held back c4 c5 c7 c8 l4 e5 is behind e8
      ∙ ap (λ c. c ++ (done ++ back)) e4
      ∙ append_assoc c3 (at Turn place ∷ []) (done ++ back) in
      let start : c2 ≡ c0 ++ (expr_code classes texts p count ++ more) =
      e2 ∙ ap (λ c. c ++ more) e1 ∙ append_assoc c0 (expr_code classes texts p count) more in
      e10 ∙ ap (λ c. c ++ at Drop place ∷ [])
      (one_jump c0 (expr_code classes texts p count ++ more) (at Turn place ∷ (done ++ back)) c2 c3
      c8 c9 _ _ over start (at_over ∙ l2) e3 all e9)
      ∙ rw (at_end, r7, r6, at_again, r5, r4, r3, r2, at_round, r1) (simp append_assoc)
