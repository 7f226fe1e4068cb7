-- A statement's code is that with its breaks and continues written.
use Rattle.std.proofs.Common.{◌≡◌, ℕ, ◌+◌, List, [], ◌∷◌, ◌++◌, length, refl, sym, ap, ◌∙◌, arith, append_assoc, length-append, if◌then◌else◌}
use Rattle.std.specs.Prelude.{slice_set}
use Rattle.std.proofs.Math.Seq.{set-append_seam}
use Rattle.ck_typed.specs.declared.class.Class.{Class}
use Rattle.ck_typed.specs.Tree.{Stmt, Stmts, no_stmts, more_stmts, Simple, Block, Print, If, Loop, LoopLast, For, ForEver, Repeat, ForEach, Break, Continue, Return}
use Rattle.ck_code.specs.declared.code.Step.{Step}
use Rattle.ck_code.specs.declared.instr.Instr.TheVariants.{Jump, JumpZero, Turn}
use Rattle.ck_scheme.specs.Scheme.{at, expr_end, expr_code, stmt_end, stmt_code, block_code}
use Rattle.ck_scheme.proofs.Stands.{expr_length, stmt_length}
use Rattle.emit_code.specs.declared.jumps.Held.{Held}
use Rattle.emit_code.specs.Exits.{exits_of, all_exits_of, written}

module _ (out again : ℕ) where
  pub written-append : (xs ys : List Held) (l : List Step)
      → written out again (xs ++ ys) l ≡ written out again ys (written out again xs l)
  written-append [] ys l = refl
  written-append (x ∷ xs) ys l =
      written-append xs ys
      (slice_set l x.at (at (Jump (if x.leaves then out else again)) x.place))

  one_exit : (c d : List Step) (x y : Step) (p : ℕ) → p ≡ length c
      → slice_set (c ++ x ∷ d) p y ≡ c ++ y ∷ d
  one_exit c d x y p stands =
      ap (λ n. slice_set (c ++ x ∷ d) n y) stands ∙ set-append_seam c x d y

  module _ (classes : List Class) (texts : List (List ℕ)) where
    abbrev held_code : ℕ → Stmt → List Step
    held_code p t = stmt_code classes texts 0 0 p t

    abbrev whole_code : ℕ → Stmt → List Step
    whole_code p t = stmt_code classes texts out again p t

    -- a code with another behind it
    behind : (held : List Held) (h w rest c d : List Step)
        → written out again held (c ++ (h ++ (rest ++ d))) ≡ c ++ (w ++ (rest ++ d))
        → written out again held (c ++ ((h ++ rest) ++ d)) ≡ c ++ ((w ++ rest) ++ d)
    behind held h w rest c d is =
        ap (λ l. written out again held (c ++ l)) (append_assoc h rest d)
        ∙ is
        ∙ ap (λ l. c ++ l) (sym (append_assoc w rest d))

    mutual
      pub written-exits : (t : Stmt) (p : ℕ) (c d : List Step) → p ≡ length c
          → written out again (exits_of classes p t) (c ++ (stmt_code classes texts 0 0 p t ++ d))
          ≡ c ++ (stmt_code classes texts out again p t ++ d)
      written-exits (Simple e place) p c d stands = refl
      written-exits (Block all) p c d stands = written-all all p c d stands
      written-exits (Print items kinds place) p c d stands = refl
      written-exits (If e a b place) p c d stands =
          let test = expr_code classes texts p e in
          let first = expr_end classes p e + 1 in
          let second = stmt_end classes first a + 1 in
          let over = at (JumpZero second) place in
          let on = at (Jump (stmt_end classes second b)) place in
          let before = c ++ (test ++ over ∷ []) in
          let between = c ++ (test ++ over ∷ (whole_code first a ++ on ∷ [])) in
          let stands1 : first ≡ length before =
          omega (
            arith,
            stands,
            expr_length classes texts e p,
            length-append c (test ++ over ∷ []),
            length-append test (over ∷ []),
          ) in
          let stands2 : second ≡ length between =
          omega (
            arith,
            stands,
            expr_length classes texts e p,
            stmt_length classes texts a out again first,
            length-append c (test ++ over ∷ (whole_code first a ++ on ∷ [])),
            length-append test (over ∷ (whole_code first a ++ on ∷ [])),
            length-append (whole_code first a) (on ∷ []),
          ) in
          let whole : List Step = test ++ over ∷ (held_code first a ++ on ∷ held_code second b) in
          let done : List Step =
          test ++ over ∷ (whole_code first a ++ on ∷ whole_code second b) in
          let shape1 : c ++ (whole ++ d)
          ≡ before ++ (held_code first a ++ (on ∷ (held_code second b ++ d))) =
          simp append_assoc in
          let shape2 : before ++ (whole_code first a ++ (on ∷ (held_code second b ++ d)))
          ≡ between ++ (held_code second b ++ d) = simp append_assoc in
          let shape3 : between ++ (whole_code second b ++ d) ≡ c ++ (done ++ d) =
          simp append_assoc in
          written-append (exits_of classes first a) (exits_of classes second b) (c ++ (whole ++ d))
          ∙ ap (λ l. written out again (exits_of classes second b)
          (written out again (exits_of classes first a) l)) shape1
          ∙ ap (written out again (exits_of classes second b))
          (written-exits a first before (on ∷ (held_code second b ++ d)) stands1 ∙ shape2)
          ∙ written-exits b second between d stands2
          ∙ shape3
      written-exits (Loop until e body place) p c d stands = refl
      written-exits (LoopLast until body e place) p c d stands = refl
      written-exits (For start e step body place) p c d stands =
          let test = stmt_end classes p start in
          let first = expr_end classes test e + 1 + 1 in
          let next = stmt_end classes first body in
          let end = stmt_end classes next step + 1 in
          let rest : List Step =
          expr_code classes texts test e ++ (at (JumpZero end) place ∷ at Turn place
          ∷ (stmt_code classes texts end next first body
          ++ (stmt_code classes texts end test next step ++ at (Jump test) place ∷ []))) in
          behind (exits_of classes p start) (held_code p start) (whole_code p start) rest c d
          (written-exits start p c (rest ++ d) stands)
      written-exits (ForEver start step body place) p c d stands =
          let round = stmt_end classes p start in
          let next = stmt_end classes (round + 1) body in
          let end = stmt_end classes next step + 1 in
          let rest : List Step =
          at Turn place ∷ (stmt_code classes texts end next (round + 1) body
          ++ (stmt_code classes texts end round next step ++ at (Jump round) place ∷ [])) in
          behind (exits_of classes p start) (held_code p start) (whole_code p start) rest c d
          (written-exits start p c (rest ++ d) stands)
      written-exits (Repeat e body place) p c d stands = refl
      written-exits (ForEach array local widens body place) p c d stands = refl
      written-exits (Break place) p c d stands =
          one_exit c d (at (Jump 0) place) (at (Jump out) place) p stands
      written-exits (Continue place) p c d stands =
          one_exit c d (at (Jump 0) place) (at (Jump again) place) p stands
      written-exits (Return e place) p c d stands = refl

      written-all : (all : Stmts) (p : ℕ) (c d : List Step) → p ≡ length c
          → written out again (all_exits_of classes p all)
          (c ++ (block_code classes texts 0 0 p all ++ d))
          ≡ c ++ (block_code classes texts out again p all ++ d)
      written-all no_stmts p c d stands = refl
      written-all (more_stmts t rest) p c d stands =
          let next = stmt_end classes p t in
          let held_rest = block_code classes texts 0 0 next rest in
          let whole_rest = block_code classes texts out again next rest in
          let before = c ++ whole_code p t in
          let stands1 : next ≡ length before =
          omega (
            arith,
            stands,
            stmt_length classes texts t out again p,
            length-append c (whole_code p t),
          ) in
          let shape1 : c ++ ((whole_code p t ++ held_rest) ++ d) ≡ before ++ (held_rest ++ d) =
          simp append_assoc in
          let shape2 : before ++ (whole_rest ++ d) ≡ c ++ ((whole_code p t ++ whole_rest) ++ d) =
          simp append_assoc in
          written-append (exits_of classes p t) (all_exits_of classes next rest)
          (c ++ ((held_code p t ++ held_rest) ++ d))
          ∙ ap (written out again (all_exits_of classes next rest))
          (behind (exits_of classes p t) (held_code p t) (whole_code p t) held_rest c d
          (written-exits t p c (held_rest ++ d) stands) ∙ shape1)
          ∙ written-all rest next before d stands1
          ∙ shape2
