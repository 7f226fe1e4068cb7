-- A code of the scheme is the one of the program.
use Rattle.std.proofs.Common.{◌≡◌, ℕ, suc, List, [], ◌∷◌, map, slice_get, refl, ap, ◌∙◌}
use Rattle.ck_values.specs.declared.kind.Kind.{Kind}
use Rattle.ck_typed.specs.declared.class.Class.{Class}
use Rattle.ck_typed.specs.Tree.{Fun as TypedFun, Program}
use Rattle.ck_code.specs.declared.code.CodeParts.{CodeParts}
use Rattle.ck_code.specs.declared.code.Fun.{Fun}
use Rattle.ck_code.specs.declared.code.Step.{Step}
use Rattle.ck_scheme.specs.Scheme.{IsCodeOf, SameFun, IsScheme}
use Rattle.ck_scheme.specs.Texts.{texts_of}
use Rattle.program_answers.specs.Codes.{fun_of, scheme_of}

module _ (classes : List Class) (texts : List (List ℕ)) where
  same_fun : (fn : TypedFun) (code : Fun) → IsCodeOf classes texts fn code
      → code ≡ fun_of classes texts fn
  same_fun fn code is =
      let F : ℕ → List Kind → List Step → Fun =
      λ params locals steps. record { params = params; locals = locals; code = steps } in
      ap (λ params. F params code.locals code.code) is.params
      ∙ ap (λ locals. F fn.params locals code.code) is.locals
      ∙ ap (F fn.params fn.locals) is.steps

  same_funs : (funs : List TypedFun) (codes : List Fun)
      → ((f : ℕ) → SameFun classes texts (slice_get funs f) (slice_get codes f))
      → codes ≡ map (fun_of classes texts) funs
  same_funs [] [] same = refl
  same_funs [] (code ∷ codes) same = absurd (same 0)
  same_funs (fn ∷ funs) [] same = absurd (same 0)
  same_funs (fn ∷ funs) (code ∷ codes) same =
      ap (λ c. c ∷ codes) (same_fun fn code (same 0))
      ∙ ap (λ cs. fun_of classes texts fn ∷ cs) (same_funs funs codes (λ f. same (suc f)))

pub scheme_is : (program : Program) (code : CodeParts) → IsScheme program code
    → code ≡ scheme_of program
scheme_is program code is =
    let F : List Fun → List (List ℕ) → List Class → List Kind → List ℕ → CodeParts =
    λ funs texts classes statics mains. record {
      funs = funs;
      texts = texts;
      classes = classes;
      statics = statics;
      mains = mains;
    } in
    let funs = map (fun_of program.classes (texts_of program)) program.funs in
    ap (λ fs. F fs code.texts code.classes code.statics code.mains)
    (same_funs program.classes (texts_of program) program.funs code.funs is.funs)
    ∙ ap (λ texts. F funs texts code.classes code.statics code.mains) is.texts
    ∙ ap (λ classes. F funs (texts_of program) classes code.statics code.mains) is.classes
    ∙ ap (λ statics. F funs (texts_of program) program.classes statics code.mains) is.statics
    ∙ ap (F funs (texts_of program) program.classes program.statics) is.mains
