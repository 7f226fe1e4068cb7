-- The functions of a program and of its code, one after another.
use Rattle.std.proofs.Common.{◌≡◌, ℕ, zero, suc, List, [], ◌∷◌, ◌++◌, sym, subst}
use Rattle.std.specs.Prelude.{slice_get, map}
use Rattle.ck_typed.specs.declared.class.Class.{Class}
use Rattle.ck_typed.specs.View.{view_fun}
use Rattle.ck_typed.specs.declared.program.TypedFun.{TypedFun}
use Rattle.ck_code.specs.declared.code.Fun.{Fun}
use Rattle.ck_scheme.specs.Scheme.{IsCodeOf, SameFun}

module _ (classes : List Class) (texts : List (List ℕ)) where
  -- as many functions, each with its code
  abbrev pub SameFuns : List TypedFun → List Fun → Type 0
  SameFuns [] [] = Unit {0}
  SameFuns (fn ∷ fns) (c ∷ cs) = IsCodeOf classes texts (view_fun fn) c × SameFuns fns cs
  SameFuns [] (c ∷ cs) = ⊥
  SameFuns (fn ∷ fns) [] = ⊥

  SameFuns-push : (fns : List TypedFun) (cs : List Fun) (fn : TypedFun) (c : Fun) → SameFuns fns cs
      → IsCodeOf classes texts (view_fun fn) c → SameFuns (fns ++ fn ∷ []) (cs ++ c ∷ [])
  SameFuns-push [] [] fn c h same = (same, tt)
  SameFuns-push [] (d ∷ cs) fn c h same = absurd h
  SameFuns-push (g ∷ fns) [] fn c h same = absurd h
  SameFuns-push (g ∷ fns) (d ∷ cs) fn c h same = (h.0, SameFuns-push fns cs fn c h.1 same)

  -- one more function of the program
  pub SameFuns-more : (fns : List TypedFun) (cs new : List Fun) (fn : TypedFun) (c : Fun)
      → new ≡ cs ++ c ∷ [] → SameFuns fns cs → IsCodeOf classes texts (view_fun fn) c
      → SameFuns (fns ++ fn ∷ []) new
  SameFuns-more fns cs new fn c is h same =
      subst (SameFuns (fns ++ fn ∷ [])) (sym is) (SameFuns-push fns cs fn c h same)

  -- by their numbers
  pub all_same : (fns : List TypedFun) (cs : List Fun) (f : ℕ) → SameFuns fns cs
      → SameFun classes texts (slice_get (map view_fun fns) f) (slice_get cs f)
  all_same [] [] f h = tt
  all_same [] (c ∷ cs) f h = absurd h
  all_same (fn ∷ fns) [] f h = absurd h
  all_same (fn ∷ fns) (c ∷ cs) zero h = h.0
  all_same (fn ∷ fns) (c ∷ cs) (suc f) h = all_same fns cs f h.1
