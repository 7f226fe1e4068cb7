-- How a text grows by one item of a list.
use Rattle.std.proofs.Common.{◌≡◌, ◌∙◌, sym, ap, ℕ, ◌+◌, ◌<◌, ◌≤◌, List, [], ◌∷◌, ◌++◌, length, map, drop, get_or, append_assoc, append-nil}
use Rattle.std.proofs.lemmas.List.{at_drop_more, at_drop_all}
use Rattle.ck_values.specs.declared.kind.Kind.{Kind}
use Rattle.ck_code.specs.declared.code.Fun.{Fun}
use Rattle.ck_code.specs.declared.code.Step.{Step}
use Rattle.ck_store.specs.Prints.{kind_name}
use Rattle.ck_typed.specs.declared.class.Class.{Class}
use Rattle.code_listing.specs.Listing.{spaced, step_line, step_lines, fun_line, fun_lines}

-- what the item adds, and what is left behind it
pub moved : (all now new a rest : List ℕ) → all ≡ now ++ (a ++ rest) → new ≡ now ++ a
    → all ≡ new ++ rest
moved all now new a rest e f =
    e ∙ sym (append_assoc now a rest) ∙ ap (λ x. x ++ rest) (sym f)

pub fun_added : (classes : List Class) (funs : List Fun) (n : ℕ) (fn : Fun)
    (all now new : List ℕ) → n < length funs → fn ≡ get_or funs n fn
    → all ≡ now ++ fun_lines classes n (drop n funs)
    → new ≡ now ++ (fun_line n fn ++ step_lines classes 0 fn.code)
    → all ≡ new ++ fun_lines classes (n + 1) (drop (n + 1) funs)
fun_added classes funs n fn all now new h i e f =
    moved all now new (fun_line n fn ++ step_lines classes 0 fn.code)
    (fun_lines classes (n + 1) (drop (n + 1) funs))
    (e ∙ at_drop_more (λ xs. now ++ fun_lines classes n xs) funs n fn h
    ∙ ap (λ x. now ++ fun_lines classes n (x ∷ drop (n + 1) funs)) (sym i)) f

pub step_added : (classes : List Class) (steps : List Step) (n : ℕ) (step : Step)
    (all now new : List ℕ) → n < length steps → step ≡ get_or steps n step
    → all ≡ now ++ step_lines classes n (drop n steps)
    → new ≡ now ++ step_line classes n step
    → all ≡ new ++ step_lines classes (n + 1) (drop (n + 1) steps)
step_added classes steps n step all now new h i e f =
    moved all now new (step_line classes n step)
    (step_lines classes (n + 1) (drop (n + 1) steps))
    (e ∙ at_drop_more (λ xs. now ++ step_lines classes n xs) steps n step h
    ∙ ap (λ x. now ++ step_lines classes n (x ∷ drop (n + 1) steps)) (sym i)) f

pub kind_added : (classes : List Class) (kinds : List Kind) (n : ℕ) (kind : Kind)
    (all now spaced_out new : List ℕ) → n < length kinds
    → all ≡ now ++ spaced (map (kind_name classes) (drop n kinds))
    → spaced_out ≡ now ++ 32 ∷ []
    → new ≡ spaced_out ++ kind_name classes (get_or kinds n kind)
    → all ≡ new ++ spaced (map (kind_name classes) (drop (n + 1) kinds))
kind_added classes kinds n kind all now spaced_out new h e f g =
    let name = kind_name classes (get_or kinds n kind) in
    moved all now new (32 ∷ name) (spaced (map (kind_name classes) (drop (n + 1) kinds)))
    (e ∙ at_drop_more (λ xs. now ++ spaced (map (kind_name classes) xs)) kinds n kind h)
    (g ∙ ap (λ x. x ++ name) f ∙ append_assoc now (32 ∷ []) name)

-- ---- none is left

pub funs_over : (classes : List Class) (funs : List Fun) (n : ℕ) (all now : List ℕ)
    → length funs ≤ n → all ≡ now ++ fun_lines classes n (drop n funs) → now ≡ all
funs_over classes funs n all now h e = sym
    (e ∙ at_drop_all (λ xs. now ++ fun_lines classes n xs) funs n h ∙ append-nil now)

pub steps_over : (classes : List Class) (steps : List Step) (n : ℕ) (all now : List ℕ)
    → length steps ≤ n → all ≡ now ++ step_lines classes n (drop n steps) → now ≡ all
steps_over classes steps n all now h e = sym
    (e ∙ at_drop_all (λ xs. now ++ step_lines classes n xs) steps n h ∙ append-nil now)

pub kinds_over : (classes : List Class) (kinds : List Kind) (n : ℕ) (all now : List ℕ)
    → length kinds ≤ n → all ≡ now ++ spaced (map (kind_name classes) (drop n kinds))
    → now ≡ all
kinds_over classes kinds n all now h e = sym
    (e ∙ at_drop_all (λ xs. now ++ spaced (map (kind_name classes) xs)) kinds n h
    ∙ append-nil now)
