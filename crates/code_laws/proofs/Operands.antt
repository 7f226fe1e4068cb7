-- The operands of a call: that those pushed are on top, and how many there are.
use Rattle.std.proofs.Common.{◌≡◌, ℕ, zero, suc, ◌+◌, List, [], ◌∷◌, ◌++◌, length, map, reverse, take, drop, Some, refl, sym, ap, ◌∙◌, subst, arith, append-nil, length-append}
use Rattle.std.proofs.lemmas.List.{length-take}
use Rattle.std.specs.Prelude.{replicate, slice_get}
use Rattle.ck_values.specs.declared.kind.Elem.TheVariants.{Class as ClassElem}
use Rattle.ck_values.specs.declared.kind.Kind.{Kind}
use Rattle.ck_values.specs.declared.kind.Kind.TheVariants.{One}
use Rattle.ck_typed.specs.declared.class.Class.{Class}
use Rattle.ck_typed.specs.Tree.{Exprs, no_exprs, more_exprs, Fun as TypedFun, Program}
use Rattle.ck_typed.specs.Signatures.{built_in}
use Rattle.ck_typed.specs.declared.native.Native.{Native}
use Rattle.ck_typed.specs.WellFormed.{FoundWhere, IsOn, params_of, IsWellFormed}
use Rattle.ck_code.specs.declared.code.Fun.{Fun}
use Rattle.ck_code.specs.Verified.{Typing, AllStand, AreAt, Finds, UnlessNull, Receiver, UnlessOnNull, OnTop, UpdatesWith, Fits}
use Rattle.ck_code.specs.Verified as code
use Rattle.ck_code.proofs.Standing.{unless, found_is, where_found}
use Rattle.ck_store.specs.Store.{shape_at}
use Rattle.ck_code.proofs.Values.{native_count}
use Rattle.ck_code.proofs.Nulls.{on_something}
use Rattle.ck_scheme.specs.Scheme.{at, count_of}
use Rattle.code_laws.proofs.Facts.{fine_at, kinds_on, kinds_on_is, AllHave, virtual_at}

-- kinds that were pushed one after another are on top, the last one first
top_of : (classes : List Class) (P : List Kind → Type 0) (js ks before under : List Kind)
    → AllStand classes js ks → OnTop classes before under P
    → OnTop classes (kinds_on ks before) (kinds_on js under) P
top_of classes P [] [] before under is h = h
top_of classes P [] (k ∷ ks) before under is h = absurd is
top_of classes P (j ∷ js) [] before under is h = absurd is
top_of classes P (j ∷ js) (k ∷ ks) before under is h =
    top_of classes P js ks (k ∷ before) (j ∷ under) is.1 (is.0, h)

-- operands that were pushed are on top
pub pushed_top : (classes : List Class) (js wanted under : List Kind) (P : List Kind → Type 0)
    → AllStand classes js wanted → P under
    → OnTop classes (reverse wanted) (kinds_on js under) P
pushed_top classes js wanted under P is h =
    let same : kinds_on wanted [] ≡ reverse wanted =
    kinds_on_is wanted [] ∙ append-nil (reverse wanted) in
    subst (λ ks. OnTop classes ks (kinds_on js under) P) same
    (top_of classes P js wanted [] under is h)

-- the same where all may stand where one kind is wanted
all_on : (n m : ℕ) (k : Kind) → kinds_on (replicate n k) (replicate m k) ≡ replicate (n + m) k
all_on zero m k = let e : m ≡ zero + m = omega arith in ap (λ i. replicate i k) e
all_on (suc n) m k =
    let e : n + suc m ≡ suc n + m = omega arith in
    all_on n (suc m) k ∙ ap (λ i. replicate i k) e

pub all_on_top : (classes : List Class) (js : List Kind) (n : ℕ) (k : Kind) (under : List Kind)
    (P : List Kind → Type 0) → AllStand classes js (replicate n k) → P under
    → OnTop classes (replicate n k) (kinds_on js under) P
all_on_top classes js n k under P is h =
    let e : n + 0 ≡ n = omega arith in
    let same : kinds_on (replicate n k) [] ≡ replicate n k =
    all_on n 0 k ∙ ap (λ i. replicate i k) e in
    subst (λ ks. OnTop classes ks (kinds_on js under) P) same
    (top_of classes P js (replicate n k) [] under is h)

-- what was pushed first lies beneath all that was pushed after it
beneath_all : (js l : List Kind) (n : ℕ)
    → slice_get (kinds_on js l) (length js + n) ≡ slice_get l n
beneath_all [] l n =
    let e : length {A = Kind} [] + n ≡ n = omega arith in ap (slice_get l) e
beneath_all (j ∷ js) l n =
    let e : length (j ∷ js) + n ≡ length js + suc n = omega arith in
    ap (slice_get (kinds_on js (j ∷ l))) e ∙ beneath_all js (j ∷ l) (suc n)

-- as many kinds as those in whose place they may stand
stand_count : (classes : List Class) (js ks : List Kind) → AllStand classes js ks
    → length js ≡ length ks
stand_count classes [] [] h = refl
stand_count classes [] (k ∷ ks) h = absurd h
stand_count classes (j ∷ js) [] h = absurd h
stand_count classes (j ∷ js) (k ∷ ks) h = ap suc (stand_count classes js ks h.1)

-- the receiver was pushed first, and what holds anyway holds unless it is null
receiver_is : (js under : List Kind) (j : Kind) (n : ℕ) (P : Type 0) → length js ≡ n → P
    → Receiver n (kinds_on js (j ∷ under)) (λ r. UnlessNull r P)
receiver_is js under j n P count h =
    let e : length js + 0 ≡ n = omega (arith, count) in
    where_found (slice_get (kinds_on js (j ∷ under)) n) (λ r. UnlessNull r P) j
    (ap (slice_get (kinds_on js (j ∷ under))) (sym e) ∙ beneath_all js (j ∷ under) 0)
    (unless j P h)

-- a call of a member function has one operand more than arguments
pub sent_on : (classes : List Class) (k : Kind) (others js under : List Kind) (n : ℕ) (P : Type 0)
    → n ≡ length (k ∷ others) → AllStand classes js (k ∷ others) → P
    → (m : ℕ) × (n ≡ suc m) × Receiver m (kinds_on js under) (λ r. UnlessNull r P)
sent_on classes k others [] under n P count stand h = absurd stand
sent_on classes k others (j ∷ js) under n P count stand h = (
  length js,
  count ∙ ap suc (sym (stand_count classes js others stand.1)),
  receiver_is js under j (length js) P refl h,
)

-- a built-in call on operands that suit it
pub called_on : (classes : List Class) (call : Native) (on js under : List Kind) (P : Type 0)
    → IsOn (built_in call).on on → AllStand classes js (on ++ map One (built_in call).params) → P
    → UnlessOnNull on (length (built_in call).params) (kinds_on js under) P
called_on classes call [] js under P is stand h = h
called_on classes call (k ∷ ks) [] under P is stand h = absurd stand
called_on classes call (k ∷ ks) (j ∷ js) under P is stand h =
    let params = (built_in call).params in
    receiver_is js under j (length params) P (omega (
      arith,
      stand_count classes js (ks ++ map One params) stand.1,
      native_count [] (shape_at [] []) call (k ∷ ks) is,
      on_something call k ks is,
      length-append ks (map One params),
      length-append (k ∷ ks) (map One params),
    )) h

module _ (classes : List Class) (funs : List Fun) (typing : Typing) where
  -- a function of the program as the code has it
  pub calls_so : (g : ℕ) (callee : TypedFun) (c : Fun) (ops : List Kind) (P : Kind → List Kind → Type 0)
      → slice_get funs g ≡ Some c → c.params ≡ callee.params → c.locals ≡ callee.locals
      → slice_get typing.results g ≡ Some callee.result
      → OnTop classes (reverse (params_of callee)) ops (P callee.result)
      → FoundWhere (slice_get funs g) (λ c. FoundWhere (slice_get typing.results g) (λ r.
      OnTop classes (reverse (code.params_of c)) ops (P r)))
  calls_so g callee c ops P at_c params locals_are at_r top =
      where_found (slice_get funs g) _ c at_c
      (where_found (slice_get typing.results g) (λ r.
      OnTop classes (reverse (code.params_of c)) ops (P r)) callee.result at_r
      (subst (λ l. OnTop classes (reverse (take c.params l)) ops (P callee.result)) (sym locals_are)
      (subst (λ n. OnTop classes (reverse (take n callee.locals)) ops (P callee.result))
      (sym params) top)))

  -- a member function of the program as the code has it
  pub method_so : (g : ℕ) (callee : TypedFun) (c : Fun) (owner n : ℕ) (ops : List Kind)
      (P : Kind → List Kind → Type 0) → slice_get funs g ≡ Some c
      → c.params ≡ callee.params → c.locals ≡ callee.locals
      → slice_get typing.results g ≡ Some callee.result → n ≡ callee.params
      → OnTop classes (reverse (One (ClassElem owner) ∷ drop 1 (params_of callee))) ops
      (P callee.result)
      → FoundWhere (slice_get funs g) (λ c. FoundWhere (slice_get typing.results g) (λ r.
      (n ≡ c.params)
      × OnTop classes (reverse (One (ClassElem owner) ∷ drop 1 (code.params_of c))) ops (P r)))
  method_so g callee c owner n ops P at_c params locals_are at_r count top =
      let Takes : List Kind → Type 0 = λ ks.
      OnTop classes (reverse (One (ClassElem owner) ∷ drop 1 ks)) ops (P callee.result) in
      where_found (slice_get funs g) _ c at_c
      (where_found (slice_get typing.results g) (λ r. (n ≡ c.params)
      × OnTop classes (reverse (One (ClassElem owner) ∷ drop 1 (code.params_of c))) ops (P r))
      callee.result at_r (
        count ∙ sym params,
        subst (λ l. Takes (take c.params l)) (sym locals_are)
            (subst (λ m. Takes (take m callee.locals)) (sym params) top),
      ))

module _ (program : Program) (fine : IsWellFormed program) where
  -- a member function takes the object at least
  pub virtual_count : (class : Class) (c slot g : ℕ) (callee : TypedFun)
      → slice_get program.classes c ≡ Some class → slice_get class.virtuals slot ≡ Some g
      → slice_get program.funs g ≡ Some callee
      → length (One (ClassElem c) ∷ drop 1 (params_of callee)) ≡ callee.params
  virtual_count class c slot g callee at at_slot at_fun =
      let v =
      virtual_at program c class.virtuals (fine.classes c class at).virtuals slot g at_slot in
      let fn = found_is (slice_get program.funs g) _ v in
      let is : fn.0 ≡ callee = cc (fn.1, at_fun) in
      let params : params_of callee ≡ One (ClassElem fn.2.0) ∷ fn.2.1 =
      ap params_of (sym is) ∙ fn.2.2 in
      let one : length (drop 1 (params_of callee)) ≡ length fn.2.1 =
      ap (λ l. length (drop 1 l)) params in
      omega (
        arith,
        length-take callee.params callee.locals,
        ap length params,
        one,
        (fine_at program fine g callee at_fun).params,
      )

module _ (program : Program) (locals : List Kind) where
  -- there are as many operands as kinds are wanted
  pub count_is : (args : Exprs) (js ks : List Kind) → AllHave program locals args js
      → AllStand program.classes js ks → count_of args ≡ length ks
  count_is no_exprs [] [] have stand = refl
  count_is no_exprs [] (k ∷ ks) have stand = absurd stand
  count_is no_exprs (j ∷ js) ks have stand = absurd have
  count_is (more_exprs e rest) [] ks have stand = absurd have
  count_is (more_exprs e rest) (j ∷ js) [] have stand = absurd stand
  count_is (more_exprs e rest) (j ∷ js) (k ∷ ks) have stand =
      ap suc (count_is rest js ks have.1 stand.1)
