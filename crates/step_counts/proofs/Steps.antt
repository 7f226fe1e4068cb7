-- The code of a checked program has few steps in each function.
use Rattle.std.proofs.Common.{◌≡◌, ℕ, suc, ◌*◌, ◌<◌, ◌≤◌, ◌^◌, List, [], ◌∷◌, length, All, get_or, Option}
use Rattle.std.proofs.Common.{Some, None, slice_get, refl, sym, ap, ◌∙◌, subst, arith}
use Rattle.std.proofs.lemmas.Option.{slice_get-get_or}
use Rattle.ck_base.specs.declared.limits.TheConstants.{MAX_ANCESTORS, MAX_FILE_TOKENS}
use Rattle.ck_store.specs.Objects.{bodies_of}
use Rattle.ck_syntax.specs.Size.{file_size}
use Rattle.ck_syntax.specs.Tree as tree
use Rattle.ck_typed.specs.Tree.{Fun as TypedFun, Program}
use Rattle.ck_code.specs.declared.code.CodeParts.{CodeParts}
use Rattle.ck_code.specs.declared.code.Fun.{Fun}
use Rattle.ck_scheme.specs.Scheme.{body_code, SameFun}
use Rattle.ck_scheme.specs.Texts.{texts_of}
use Rattle.first_walk.proofs.TableFacts.{owners_of}
use Rattle.program_laws.specs.Programs.{none_checked, files_from, program_of, checked}
use Rattle.program_laws.proofs.EnteredFiles.{laws}
use Rattle.program_laws.proofs.Found.{some_is, each_at}
use Rattle.program_laws.proofs.WholeProgram.{then_gives, given_is, before_files, after_files}
use Rattle.type_table.specs.Answer.{gives}
use Rattle.type_table.proofs.Ranges.{Each}
use Rattle.expr_laws.proofs.Premises.{Ok}
use Rattle.expr_steps.specs.Tokens.{token_steps}
use Rattle.step_counts.specs.Checked.{IsCheckedCode}
use Rattle.step_counts.proofs.Bodies.{bodies_few}
use Rattle.step_counts.proofs.Programs.{FunWithin, program_costs}
use Rattle.expr_steps.proofs.Most.{fun_within}

each_of : {A : Type 0} (P : A → Type 0) (xs : List A) → All P xs → Each P xs
each_of P [] all = tt
each_of P (x ∷ xs) all = (all 0 x (omega arith), each_of P xs (λ k d lt. all (suc k) d (omega (arith, lt))))

-- no class has more than 128 ancestors with statements in their braces
program_bodies : (files : List tree.File) (program : Program) → checked files ≡ gives program
    → (c : ℕ) → length (bodies_of program.classes c) ≤ MAX_ANCESTORS
program_bodies files program is c =
    let all = then_gives (files_from none_checked 0 files) (λ d. gives (program_of d)) program is in
    let after = after_files laws files 0 none_checked [] (before_files laws) all.0 all.1 in
    let table = after.1.numbered.table in
    let owners = owners_of after.0 in
    subst (λ (p : Program). length (bodies_of p.classes c) ≤ MAX_ANCESTORS) (given_is all.2)
    (bodies_few all.0.table owners table (laws.classes all.0.table owners table) c)

program_funs : (files : List tree.File) (program : Program) (most : ℕ)
    → All (λ (file : tree.File). file_size file ≤ most) files
    → checked files ≡ gives program → Each (FunWithin most) program.funs
program_funs files program most short is = subst (Ok (λ (p : Program). Each (FunWithin most) p.funs)) is
    (program_costs most files (each_of (λ (file : tree.File). file_size file ≤ most) files short))

pub few_a_token : (files : List tree.File) (most : ℕ) (code : CodeParts) → IsCheckedCode files most code
    → All (λ (fn : Fun). length fn.code ≤ token_steps * most) code.funs
few_a_token files most code is f d lt =
    go (slice_get is.program.funs f) (slice_get code.funs f) refl refl (is.scheme.funs f)
  where
    few : (texts : List (List ℕ)) (fn : TypedFun) → slice_get is.program.funs f ≡ Some fn
        → length (body_code is.program.classes texts fn.body fn.result fn.place) ≤ token_steps * most
    few texts fn found =
        let fits : FunWithin most fn =
        each_at (FunWithin most) is.program.funs f fn (program_funs files is.program most is.short is.checks) found in
        omega (arith, fun_within is.program.classes (program_bodies files is.program is.checks) texts fn)

    there : slice_get code.funs f ≡ Some (get_or code.funs f d)
    there = slice_get-get_or code.funs f d lt

    go : (o : Option TypedFun) (q : Option Fun) → slice_get is.program.funs f ≡ o → slice_get code.funs f ≡ q
        → SameFun is.program.classes (texts_of is.program) o q
        → length (get_or code.funs f d).code ≤ token_steps * most
    go None None found at same = let none : Some (get_or code.funs f d) ≡ None = sym there ∙ at in absurd (cc)
    go None (Some fun) found at same = absurd same
    go (Some fn) None found at same = absurd same
    go (Some fn) (Some fun) found at same =
        let fun_is : fun ≡ get_or code.funs f d = some_is (sym at ∙ there) in
        subst (λ (x : Fun). length x.code ≤ token_steps * most) fun_is
        (omega (arith, ap length same.steps, few (texts_of is.program) fn found))

pub fit_32_bits : (files : List tree.File) (code : CodeParts) → IsCheckedCode files MAX_FILE_TOKENS code
    → All (λ (fn : Fun). length fn.code < 2 ^ 32) code.funs
fit_32_bits files code is f d lt = omega (arith, few_a_token files MAX_FILE_TOKENS code is f d lt)
