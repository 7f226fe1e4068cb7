-- The scheme's code of a well-formed program is verified.
use Rattle.std.proofs.Common.{◌≡◌, ℕ, zero, suc, ◌+◌, ◌<◌, ◌≤◌, inl, inr, List, [], ◌∷◌, ◌++◌, length, take, drop, map, Option, option_map, Some, None, refl, sym, ap, ◌∙◌, subst, arith, length-append, append_assoc, All, false}
use Rattle.std.proofs.lemmas.Bool.{cases_lt}
use Rattle.std.proofs.lemmas.List.{length-map}
use Rattle.std.proofs.lemmas.List.Elements.{All-map, All-weaker}
use Rattle.std.proofs.lemmas.Option.{slice_get-get_or, slice_get_past}
use Rattle.std.proofs.Math.Seq.{get_or-append_seam}
use Rattle.std.specs.Prelude.{slice_get}
use Rattle.ck_values.specs.declared.kind.Elem.TheVariants as elem
use Rattle.ck_values.specs.declared.kind.Kind.{Kind}
use Rattle.ck_values.specs.declared.kind.Kind.TheVariants.{One}
use Rattle.ck_typed.specs.declared.class.Class.{Class}
use Rattle.ck_typed.specs.Tree.{Fun as TypedFun, Program}
use Rattle.ck_typed.specs.WellFormed as typed
use Rattle.ck_typed.specs.WellFormed.{IsValueKind, FoundWhere, params_of, IsFineFun, IsMain, IsWellFormed}
use Rattle.ck_code.specs.declared.code.CodeParts.{CodeParts}
use Rattle.ck_code.specs.declared.code.Fun.{Fun}
use Rattle.ck_code.specs.declared.code.Step.{Step}
use Rattle.ck_code.specs.Verified as code_spec
use Rattle.ck_code.specs.Verified.{Places, operands_at, reached, IsBody, Typing, AreAt, Fits, JumpsTo, HasJump, HasTurnBetween, IsFunVerified, TakesObject, HaveSameTypes, ExtendsTable, IsClassVerified, IsVerified}
use Rattle.ck_code.proofs.Standing.{found_is, where_found, same_found, found_more}
use Rattle.ck_code.proofs.Ranges.{all_in_range}
use Rattle.ck_scheme.specs.Texts.{texts_of}
use Rattle.ck_scheme.specs.Scheme.{stmt_end, stmt_code, default_instr, body_code, IsCodeOf, SameFun, IsScheme}
use Rattle.ck_scheme.proofs.Stands.{stmt_length, StepsLie, step_lies, fun_lies}
use Rattle.code_laws.proofs.Facts.{fine_at, lies_at, virtual_at}
use Rattle.code_laws.proofs.Shaped.{all_shaped}
use Rattle.code_laws.proofs.Pieces.{At, at_split, one_jump, Apart, Piece, plain, joined}
use Rattle.code_laws.proofs.Turns.{stmt_piece}
use Rattle.code_laws.proofs.Typings.{default_kind, body_shapes, stmt_shapes_length}
use Rattle.code_laws.proofs.Whole.{IsShapedFun}
use Rattle.code_laws.proofs.Placed.{Placed}
use Rattle.code_laws.proofs.SpotFits.{Fine}
use Rattle.code_laws.proofs.BodyFits.{cut_stmt, starts, body_fine}

-- a list made of another, each from an element and where it stands
abbrev mapped : {A B : Type 0} (xs : List A) → ((g : ℕ) (x : A) → slice_get xs g ≡ Some x → B)
    → List B
mapped [] make = []
mapped (x ∷ xs) make = make 0 x refl ∷ mapped xs (λ g y e. make (suc g) y e)

mapped_get : {A B : Type 0} (xs : List A) (make : (g : ℕ) (x : A) → slice_get xs g ≡ Some x → B)
    (g : ℕ) (x : A) → slice_get xs g ≡ Some x
    → (e : slice_get xs g ≡ Some x) × (slice_get (mapped xs make) g ≡ Some (make g x e))
mapped_get [] make g x e = absurd (cc)
mapped_get (y ∷ xs) make zero x e =
    let is : y ≡ x = cc in
    subst (λ x. (e : Some y ≡ Some x) × (Some (make 0 y refl) ≡ Some (make 0 x e))) is (refl, refl)
mapped_get (y ∷ xs) make (suc g) x e = mapped_get xs (λ g y e. make (suc g) y e) g x e

mapped_length : {A B : Type 0} (xs : List A) (make : (g : ℕ) (x : A) → slice_get xs g ≡ Some x → B)
    → length (mapped xs make) ≡ length xs
mapped_length [] make = refl
mapped_length (x ∷ xs) make = ap suc (mapped_length xs (λ g y e. make (suc g) y e))

map_get : {A B : Type 0} (g : A → B) (xs : List A) (i : ℕ) (x : A) → slice_get xs i ≡ Some x
    → slice_get (map g xs) i ≡ Some (g x)
map_get g [] i x e = absurd (cc)
map_get g (y ∷ xs) zero x e = ap (option_map g) e
map_get g (y ∷ xs) (suc i) x e = map_get g xs i x e

same_length : {A B : Type 0} (R : Option A → Option B → Type 0) → ((x : A) → R (Some x) None → ⊥)
    → ((y : B) → R None (Some y) → ⊥) → (xs : List A) (ys : List B)
    → ((f : ℕ) → R (slice_get xs f) (slice_get ys f)) → length xs ≡ length ys
same_length R left right [] [] h = refl
same_length R left right [] (y ∷ ys) h = absurd (right y (h 0))
same_length R left right (x ∷ xs) [] h = absurd (left x (h 0))
same_length R left right (x ∷ xs) (y ∷ ys) h =
    ap suc (same_length R left right xs ys (λ f. h (suc f)))

at_all : (w before after : List Step) → w ≡ before ++ after → At w (length before) after
at_all w before [] e = tt
at_all w before (x ∷ xs) e =
    let within : length before < length (before ++ x ∷ xs) =
    omega (arith, length-append before (x ∷ xs)) in
    let here =
    slice_get-get_or (before ++ x ∷ xs) (length before) x within
    ∙ ap Some (get_or-append_seam before x xs x) in
    let n : length (before ++ x ∷ []) ≡ length before + 1 =
    omega (arith, length-append before (x ∷ [])) in
    let more = at_all w (before ++ x ∷ []) xs (e ∙ sym (append_assoc before (x ∷ []) xs)) in
    (ap (λ l. slice_get l (length before)) e ∙ here, subst (λ m. At w m xs) n more)

-- the default doesn't jump
default_jumps : (texts : List (List ℕ)) (k : Kind) (to : ℕ) → JumpsTo (default_instr texts k) to → ⊥
default_jumps texts (One elem.Int) to h = h
default_jumps texts (One elem.Float) to h = h
default_jumps texts (One elem.Dur) to h = h
default_jumps texts (One elem.Time) to h = h
default_jumps texts (One elem.Text) to h = h
default_jumps texts (One elem.Shred) to h = h
default_jumps texts _ to h = h

module _ (program : Program) (fine : IsWellFormed program) where
  pub shapes_at : (g : ℕ) (fn : TypedFun) → slice_get program.funs g ≡ Some fn → Places
  shapes_at g fn e =
      map Some (body_shapes program fine fn.locals fn.result fn.body (fine_at program fine g fn e).body
      (default_kind fn.result))

  -- these stand in a list from a place on
  placed_all : (locals : List Kind) (places : Places) (before after : List (List Kind))
      → places ≡ map Some (before ++ after) → Placed program fine locals places (length before) after
  placed_all locals places before [] e = tt
  placed_all locals places before (x ∷ xs) e =
      let within : length before < length (before ++ x ∷ xs) =
      omega (arith, length-append before (x ∷ xs)) in
      let here =
      slice_get-get_or (before ++ x ∷ xs) (length before) x within
      ∙ ap Some (get_or-append_seam before x xs x) in
      let n : length (before ++ x ∷ []) ≡ length before + 1 =
      omega (arith, length-append before (x ∷ [])) in
      let more =
      placed_all locals places (before ++ x ∷ []) xs (e
      ∙ ap (map Some) (sym (append_assoc before (x ∷ []) xs))) in (
        ap (λ l. operands_at l (length before)) e
            ∙ ap reached (map_get Some (before ++ x ∷ xs) (length before) x here),
        subst (λ m. Placed program fine locals places m xs) n more,
      )

  module _ (funs : List Fun) (same : (f : ℕ)
      → SameFun program.classes (texts_of program) (slice_get program.funs f) (slice_get funs f)) where
    abbrev parts : CodeParts
    parts = record {
      funs = funs;
      texts = texts_of program;
      classes = program.classes;
      statics = program.statics;
      mains = program.mains;
    }

    abbrev typing : Typing
    typing = record {
      results = map (λ (fn : TypedFun). fn.result) program.funs;
      operands = mapped program.funs shapes_at;
    }

    result_at : (g : ℕ) (fn : TypedFun) → slice_get program.funs g ≡ Some fn
        → slice_get typing.results g ≡ Some fn.result
    result_at g fn at_g = map_get (λ (fn : TypedFun). fn.result) program.funs g fn at_g

    -- the function of the code at a function's number
    code_at : (o : Option Fun) (fn : TypedFun) → SameFun program.classes (texts_of program) (Some fn) o
        → (c : Fun) × (o ≡ Some c) × IsCodeOf program.classes (texts_of program) fn c
    code_at None fn same = absurd same
    code_at (Some c) fn same = (c, refl, same)

    -- the function of the program at a function's number
    fun_at : (o : Option TypedFun) (c : Fun) → SameFun program.classes (texts_of program) o (Some c)
        → (fn : TypedFun) × (o ≡ Some fn) × IsCodeOf program.classes (texts_of program) fn c
    fun_at None c same = absurd same
    fun_at (Some fn) c same = (fn, refl, same)

    pub calls : (g : ℕ) (callee : TypedFun) → slice_get program.funs g ≡ Some callee
        → (c : Fun) × (slice_get funs g ≡ Some c) × (c.params ≡ callee.params)
        × (c.locals ≡ callee.locals) × (slice_get typing.results g ≡ Some callee.result)
    calls g callee at_g =
        let c = code_at (slice_get funs g) callee
        (subst (λ o. SameFun program.classes (texts_of program) o (slice_get funs g)) at_g (same g)) in
        (c.0, c.1, c.2.params, c.2.locals, result_at g callee at_g)

    module _ (f : ℕ) (fn : Fun) (tf : TypedFun) (at_tf : slice_get program.funs f ≡ Some tf)
        (is : IsCodeOf program.classes (texts_of program) tf fn) where
      abbrev ff : IsFineFun program tf
      ff = fine_at program fine f tf at_tf

      abbrev shaped : IsShapedFun program tf
      shaped = all_shaped program fine f tf at_tf

      abbrev shapes : List (List Kind)
      shapes = body_shapes program fine tf.locals tf.result tf.body ff.body (default_kind tf.result)

      abbrev places : Places
      places = map Some shapes

      all_placed : Placed program fine tf.locals places 0 shapes
      all_placed = placed_all tf.locals places [] shapes refl

      abbrev AllFine : ℕ → List Step → Type 0
      AllFine p steps =
          Fine program fine tf.locals places funs typing fn f is.locals p steps

      all_fine : AllFine 0 (body_code program.classes (texts_of program) tf.body tf.result tf.place)
      all_fine =
          body_fine program fine tf.locals places funs typing fn f tf.result is.locals
          (result_at f tf at_tf) calls tf.body tf.place ff.body shaped.body ff.result
          shaped.result all_placed

      each_fine : (steps : List Step) (p i : ℕ) (step : Step) (ops : List Kind) → AllFine p steps
          → slice_get steps i ≡ Some step → AreAt places (p + i) ops
          → Fits parts typing fn f places (p + i) step.instr ops
      each_fine [] p i step ops h e finds = absurd (cc)
      each_fine (x ∷ xs) p zero step ops h e finds =
          let zero_more : p ≡ p + 0 = omega arith in
          let at_p : AreAt places p ops = subst (λ q. AreAt places q ops) (sym zero_more) finds in
          let same_ops : h.0.0 ≡ ops = cc (h.0.1, at_p) in
          let same_step : x ≡ step = cc e in
          subst (λ q. Fits parts typing fn f places q step.instr ops) zero_more
          (subst (λ s. Fits parts typing fn f places p s.instr ops) same_step
          (subst (λ o. Fits parts typing fn f places p x.instr o) same_ops h.0.2))
      each_fine (x ∷ xs) p (suc i) step ops h e finds =
          let further : p + 1 + i ≡ p + suc i = omega arith in
          subst (λ q. Fits parts typing fn f places q step.instr ops) further
          (each_fine xs (p + 1) i step ops h.1 e
          (subst (λ q. AreAt places q ops) (sym further) finds))

      each_at : (p : ℕ) (step : Step) (ops : List Kind) → slice_get fn.code p ≡ Some step
          → AreAt places p ops → Fits parts typing fn f places p step.instr ops
      each_at p step ops e finds =
          let from_zero : 0 + p ≡ p = omega arith in
          subst (λ q. Fits parts typing fn f places q step.instr ops) from_zero
          (each_fine fn.code 0 p step ops (subst (AllFine 0) (sym is.steps) all_fine) e
          (subst (λ q. AreAt places q ops) (sym from_zero) finds))

      same_as_long : length places ≡ length fn.code
      same_as_long =
          let long : length fn.code ≡ stmt_end program.classes 0 tf.body + 2 =
          ap length is.steps ∙ omega (
            arith,
            length-append {A = Step},
            stmt_length program.classes (texts_of program) tf.body 0 0 0,
          ) in
          omega (
            arith,
            length-append {A = List Kind},
            length-map shapes (λ (ks : List Kind). Some ks),
            stmt_shapes_length program fine tf.locals tf.result [] tf.body false ff.body 0,
            long,
          )

      first_place : AreAt places 0 []
      first_place =
          let parts =
          cut_stmt program fine tf.locals places tf.result [] tf.body false ff.body 0 _ all_placed in
          starts program fine tf.locals places funs typing fn f tf.result is.locals
          (result_at f tf at_tf) calls [] tf.body false ff.body 0 parts.0 parts.1.0

      -- the whole function is a piece
      whole_piece : Piece fn.code false 0 0 0 (stmt_end program.classes 0 tf.body + 1 + 1)
      whole_piece =
          let at_code = at_all fn.code [] (body_code program.classes (texts_of program) tf.body tf.result tf.place) is.steps in
          let e = stmt_end program.classes 0 tf.body in
          let c = at_split fn.code (stmt_code program.classes (texts_of program) 0 0 0 tf.body) _ 0 e
          (stmt_length program.classes (texts_of program) tf.body 0 0 0) at_code in
          joined fn.code false 0 0 0 e (e + 1 + 1)
          (stmt_piece program.classes (texts_of program) fn.code program tf.body false shaped.body 0 0 0
          c.0)
          (joined fn.code false 0 0 e (e + 1) (e + 1 + 1)
          (plain fn.code false 0 0 e (λ to j.
          default_jumps (texts_of program) tf.result to (one_jump fn.code e to _ c.1.0 j)))
          (plain fn.code false 0 0 (e + 1) (λ to j. one_jump fn.code (e + 1) to _ c.1.1.0 j)))

      no_step : (p to : ℕ) → length fn.code ≤ p → HasJump fn.code p to → ⊥
      no_step p to le jump =
          subst (λ o. FoundWhere o (λ step. JumpsTo step.instr to))
          (slice_get_past fn.code p le) jump

      back_turns : (p t : ℕ) → HasJump fn.code p t → t ≤ p → HasTurnBetween fn.code t p
      back_turns p t jump back =
          let e = stmt_end program.classes 0 tf.body in
          let long : length fn.code ≡ e + 1 + 1 =
          ap length is.steps ∙ omega (
            arith,
            length-append {A = Step},
            stmt_length program.classes (texts_of program) tf.body 0 0 0,
          ) in
          let apart : Apart fn.code 0 (e + 1 + 1) =
          record {
            by = λ from to j out.
                elim out [
                  | inl low ↦ absurd (omega (arith, low))
                  | inr high ↦ absurd
                      (no_step from to (omega (arith, high, long)) j)
                ];
          } in
          elim (cases_lt p (e + 1 + 1)) [
            | inl within ↦ whole_piece.turns apart (λ never.
                absurd (cc never)) p t (omega arith) within jump back
            | inr high ↦ absurd (no_step p t (omega (arith, high, long)) jump)
          ]

      fun_verified : IsFunVerified parts typing f fn places
      fun_verified = record {
        params = subst (λ n. n ≤ length fn.locals) (sym is.params)
            (subst (λ l. tf.params ≤ length l) (sym is.locals) ff.params);
        locals = subst (All (IsValueKind program.classes)) (sym is.locals) ff.locals;
        as_long = same_as_long;
        first = first_place;
        each = each_at;
        ranges = all_in_range parts typing fn f shapes same_as_long each_at;
        files =
            let n = length program.mains in
            step_lies n fn.code (subst (StepsLie n) (sym is.steps)
            (fun_lies n program.classes (texts_of program) tf (lies_at program fine f tf at_tf)));
        turns = back_turns;
      }

    -- class tables
    params_same : (g : ℕ) (fn : TypedFun) (c : Fun) → c.params ≡ fn.params → c.locals ≡ fn.locals
        → code_spec.params_of c ≡ params_of fn
    params_same g fn c params locals_are =
        ap (λ l. take c.params l) locals_are ∙ ap (λ n. take n fn.locals) params

    virtual_verified : (c f : ℕ) → typed.IsVirtual program c f → TakesObject parts c f
    virtual_verified c f h =
        let fn = found_is (slice_get program.funs f) _ h in
        let k = calls f fn.0 fn.1 in
        where_found (slice_get funs f) _ k.0 k.1 (
          fn.2.0,
          fn.2.1,
          params_same f fn.0 k.0 k.2 k.3
              ∙ fn.2.2,
          fn.2.3,
        )

    body_verified : (c : ℕ) (body : Option ℕ) → typed.IsBody program c body → IsBody parts c body
    body_verified c None h = tt
    body_verified c (Some f) h =
        let fn = found_is (slice_get program.funs f) _ h in
        let k = calls f fn.0 fn.1 in
        where_found (slice_get funs f) _ k.0 k.1 (params_same f fn.0 k.0 k.2 k.3 ∙ fn.2)

    same_verified : (f g : ℕ) → typed.AreSame program f g → HaveSameTypes parts typing f g
    same_verified f g h =
        let fn = found_is (slice_get program.funs f) _ h in
        let old = found_is (slice_get program.funs g) _ fn.2 in
        let k = calls f fn.0 fn.1 in
        let j = calls g old.0 old.1 in
        where_found (slice_get funs f) _ k.0 k.1 (where_found (slice_get funs g) _ j.0 j.1 (
          ap (drop 1) (params_same f fn.0 k.0 k.2 k.3) ∙ old.2.0
              ∙ sym (ap (drop 1) (params_same g old.0 j.0 j.2 j.3)),
          k.4 ∙ ap Some old.2.1 ∙ sym j.4,
        ))

    extends_verified : (class parent : Class) → typed.Extends program class parent
        → ExtendsTable parts typing class parent
    extends_verified class parent h = record {
      fields = h.fields;
      slots = λ s g at. found_more (slice_get class.virtuals s) _ _ (λ f same_fg.
          same_verified f g same_fg) (h.slots s g at);
    }

    class_verified : (c : ℕ) (class : Class) → slice_get program.classes c ≡ Some class
        → IsClassVerified parts typing c class
    class_verified c class at =
        let h = fine.classes c class at in
        record {
          parent = found_more (slice_get program.classes class.parent) _ _ (λ parent extends.
              extends_verified class parent extends) h.parent;
          line = h.line;
          fields = h.fields;
          virtuals =
              λ s f at_s. virtual_verified c f
              (virtual_at program c class.virtuals h.virtuals s f at_s);
          body = body_verified c class.body h.body;
        }

    main_same : (o : Option TypedFun) (oc : Option Fun) → SameFun program.classes (texts_of program) o oc
        → FoundWhere o (λ fn. fn.params ≡ 0) → FoundWhere oc (λ fn. fn.params ≡ 0)
    main_same None oc same h = absurd h
    main_same (Some fn) None same h = absurd same
    main_same (Some fn) (Some c) same h = same.params ∙ h

    -- the code is verified
    pub parts_verified : IsVerified parts
    unfolding shapes_at
    parts_verified =
        let long : length program.funs ≡ length funs =
        same_length (SameFun program.classes (texts_of program)) (λ x h. h) (λ y h. h) program.funs funs same in
        record {
          typing = typing;
          results =
              All-map (IsValueKind program.classes) (λ (fn : TypedFun).
              fn.result) program.funs (All-weaker (IsFineFun program) (λ fn.
              IsValueKind program.classes fn.result) (λ fn h. h.result) program.funs fine.funs);
          same_results = length-map program.funs (λ (fn : TypedFun). fn.result) ∙ long;
          same_places = mapped_length program.funs shapes_at ∙ long;
          funs = λ f fn places at_fn at_places.
              let t = fun_at (slice_get program.funs f) fn
              (subst (λ o. SameFun program.classes (texts_of program) (slice_get program.funs f) o) at_fn (same f)) in
              let m = mapped_get program.funs shapes_at f t.0 t.1 in
              let is : shapes_at f t.0 m.0 ≡ places = cc (m.1, at_places) in
              subst (IsFunVerified parts typing f fn) is (fun_verified f fn t.0 m.0 t.2);
          classes = class_verified;
          statics = fine.statics;
          object = λ class at.
              same_found (slice_get program.classes 0) (λ c. c.parent ≡ 0) class at fine.object;
          mains = All-weaker (IsMain program) (λ f.
              FoundWhere (slice_get funs f) (λ fn. fn.params ≡ 0)) (λ f h.
              main_same (slice_get program.funs f) (slice_get funs f)
              (same f) h) program.mains fine.mains;
        }

-- the code is made of the program's parts and its own functions
parts_are : (program : Program) (code : CodeParts) → IsScheme program code → record {
  funs = code.funs;
  texts = texts_of program;
  classes = program.classes;
  statics = program.statics;
  mains = program.mains;
} ≡ code
parts_are program code scheme =
    let made =
    λ (texts : List (List ℕ)) (classes : List Class) (statics : List Kind) (mains : List ℕ).
    let parts : CodeParts = record {
      funs = code.funs;
      texts = texts;
      classes = classes;
      statics = statics;
      mains = mains;
    } in parts
    in
    let at_texts =
    ap (λ x. made x program.classes program.statics program.mains)
    (sym scheme.texts) in
    let at_classes =
    ap (λ x. made code.texts x program.statics program.mains) (sym scheme.classes) in
    let at_statics = ap (λ x. made code.texts code.classes x program.mains) (sym scheme.statics) in
    let at_mains = ap (λ x. made code.texts code.classes code.statics x) (sym scheme.mains) in
    at_texts ∙ at_classes ∙ at_statics ∙ at_mains

-- the scheme's code of a well-formed program is verified
pub verified : (program : Program) → IsWellFormed program → (code : CodeParts)
    → IsScheme program code → IsVerified code
verified program fine code scheme =
    subst IsVerified (parts_are program code scheme)
    (parts_verified program fine code.funs scheme.funs)
