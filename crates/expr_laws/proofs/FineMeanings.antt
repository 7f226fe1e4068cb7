-- What an expression stands for is well formed, and so is the scope behind it.
use Rattle.std.proofs.Common.{◌≡◌, ℕ, true, if◌then◌else◌, List, length, Option, Some, None, refl, sym, ap, ◌∙◌, subst}
use Rattle.ck_values.specs.declared.kind.Elem.TheVariants as elem
use Rattle.ck_values.specs.declared.kind.Kind.{Kind}
use Rattle.ck_values.specs.declared.kind.Kind.TheVariants.{One}
use Rattle.ck_syntax.specs.declared.declaration.Base.{Base}
use Rattle.ck_syntax.specs.declared.declaration.DeclHead.{DeclHead}
use Rattle.ck_syntax.specs.declared.operator.ChuckOp.{ChuckOp}
use Rattle.ck_syntax.specs.Tree as tree
use Rattle.ck_syntax.specs.Tree.{Name, Expr, expr_line, Exprs, no_exprs, and_expr, Brackets, no_brackets, and_empty, and_size, Declr, declr, declr_with, declr_name}
use Rattle.ck_typed.specs.Tree.{Program}
use Rattle.type_table.specs.Answer.{Answer, gives, refused, and_then, wrong}
use Rattle.type_table.specs.declared.fault.FaultKind.TheVariants.{NotCallable}
use Rattle.type_table.specs.declared.table.Member.TheVariants as member
use Rattle.type_table.specs.Table.{Table}
use Rattle.type_table.specs.Types.{named_by}
use Rattle.type_table.proofs.Declared.{Declared, AllDeclared, SizesDeclared, IsDeclared, IsDeclaredAs, HasName, IsOfKind}
use Rattle.type_table.proofs.Ranges.{Each}
use Rattle.check_scope.specs.Expressions as e
use Rattle.check_scope.specs.Expressions.{Making, with_sizes, with_arguments, Meant, Valued, AllValued, and_valued, in_scope, value_of, meaning, values, sizes}
use Rattle.check_scope.specs.Denotations as means
use Rattle.check_scope.specs.Denotations.{Typed, Denotation, value, as_value, name_meaning}
use Rattle.check_scope.specs.Scope.{Scope, place, declares_globals, in_arguments, behind_arguments}
use Rattle.expr_laws.proofs.FineCalls.{call_meaning_is, spork_meaning_is, chuck_callee_is}
use Rattle.expr_laws.proofs.FineChuck.{now_meaning_is, chuck_meaning_is}
use Rattle.expr_laws.proofs.FineDeclarations.{sizes_count, HasGlobal, HasForm, parts, agreed_form, declared_with_is}
use Rattle.expr_laws.proofs.FineAutos.{auto_chucked_is}
use Rattle.expr_laws.proofs.FineForms.{cast_meaning_is, choice_is, array_is, item_is}
use Rattle.expr_laws.proofs.FineMaking.{new_is, new_with_is}
use Rattle.expr_laws.proofs.Growing.{Keeps, keeps_refl, keeps_trans, same_globals, declaration_keeps, auto_keeps, in_arguments_keeps, behind_arguments_keeps}
use Rattle.expr_laws.proofs.FineMembers.{member_or_wait_is}
use Rattle.expr_laws.proofs.FineNames.{name_meaning_is, word_meaning_is}
use Rattle.expr_laws.proofs.Oks.{ok_then, ok_if}
use Rattle.expr_laws.proofs.Premises.{Leads, Ends, Ok, Has, IsScope, IsValue, IsMeaning}
use Rattle.expr_laws.proofs.Results.{Carries, IsMeant}
use Rattle.expr_laws.proofs.ScopeLaws.{each_and, within_grown, ends_before, same_ends, in_arguments_is, behind_arguments_is}
use Rattle.expr_laws.proofs.FineTypes.{Matches, same_some, named_in, sized}
use Rattle.expr_laws.proofs.FineValues.{as_value_is, binary_is, prefix_is, postfix_is, dur_is}

-- results -----------------------------------------------------------------------------------------

module _ (p : Program) (t : Table) where
  -- a right scope that keeps what the one before was
  abbrev pub Follows : (before behind : Scope) → Type 0
  Follows s u = Keeps t s u × Carries p t s u

  pub follows_refl : (s : Scope) → Follows s s
  follows_refl s = (keeps_refl s, λ all leads ends. ends)

  pub follows_trans : (s u v : Scope) → Follows s u → Follows u v → Follows s v
  follows_trans s u v first second = (
    keeps_trans s u v first.0 second.0,
    λ all leads ends. second.1 all leads
        (first.1 all (within_grown u v all second.0.0 leads) ends),
  )

  -- in the arguments of a declaration, and behind them
  in_arguments_follows : (s : Scope) (n : Name) → Follows s (in_arguments s n)
  in_arguments_follows s n =
      (in_arguments_keeps t s n, λ all leads ends. same_ends p t s (in_arguments s n) all refl refl ends)

  behind_arguments_follows : (s : Scope) → Follows s (behind_arguments s)
  behind_arguments_follows s =
      (behind_arguments_keeps t s, λ all leads ends. same_ends p t s (behind_arguments s) all refl refl ends)

  abbrev pub Behind : (before behind : Scope) → Type 0
  Behind s u = IsScope t u × Follows s u

  abbrev pub M : Scope → Meant → Type 0
  M s m = Behind s m.scope × ((all : List Kind) → Ends p t m.scope all → IsMeaning p t all m.means)

  abbrev pub V : Scope → Valued → Type 0
  V s x = Behind s x.scope × ((all : List Kind) → Ends p t x.scope all → IsValue p t all x.typed)

  abbrev pub A : Scope → AllValued → Type 0
  A s xs = Behind s xs.scope × ((all : List Kind) → Ends p t xs.scope all → Each (IsValue p t all) xs.typed)

  in_scope_is : (s u : Scope) (a : Answer Denotation) → Behind s u
      → ((all : List Kind) → Ends p t u all → Ok (IsMeaning p t all) a) → Ok (M s) (in_scope u a)
  in_scope_is s u (gives m) behind is = (behind, is)
  in_scope_is s u (refused why) behind is = tt

  -- from one scope to the next
  more : (s u : Scope) (a : Answer Meant) → Follows s u → Ok (M u) a → Ok (M s) a
  more s u (gives m) keeps is = ((is.0.0, follows_trans s u m.scope keeps is.0.1), is.1)
  more s u (refused why) keeps is = tt

module _ (p : Program) (t : Table) (has : Has p t) where
  valued : (s : Scope) (m : Meant) (a : Answer Typed) → Behind p t s m.scope
      → ((all : List Kind) → Ends p t m.scope all → Ok (IsValue p t all) a)
      → Ok (V p t s) (and_then a (λ x. gives (record { typed = x; scope = m.scope })))
  valued s m (gives x) behind is = (behind, is)
  valued s m (refused why) behind is = tt

  pub value_of_is : (s : Scope) (l : ℕ) (a : Answer Meant) → Ok (M p t s) a → Ok (V p t s) (value_of l a)
  value_of_is s l (gives m) is = valued s m (as_value m.scope l m.means) is.0
      (λ all within. as_value_is p t has all m.scope l m.means (is.1 all within))
  value_of_is s l (refused why) is = tt

  -- nodes of one part, of two, and of three
  one_part : (s : Scope) (a : Answer Meant) (f : Denotation → Scope → Answer Denotation) → Ok (M p t s) a
      → ((all : List Kind) (m : Denotation) (u : Scope) → IsMeaning p t all m → Ok (IsMeaning p t all) (f m u))
      → Ok (M p t s) (and_then a (λ m. in_scope m.scope (f m.means m.scope)))
  one_part s a f is next = ok_then (M p t s) (M p t s) a _ is
      (λ m part. in_scope_is p t s m.scope (f m.means m.scope) part.0
      (λ all within. next all m.means m.scope (part.1 all within)))

  one_value : (s : Scope) (a : Answer Valued) (f : Typed → Scope → Answer Denotation) → Ok (V p t s) a
      → ((all : List Kind) (x : Typed) (u : Scope) → IsValue p t all x → Ok (IsMeaning p t all) (f x u))
      → Ok (M p t s) (and_then a (λ x. in_scope x.scope (f x.typed x.scope)))
  one_value s a f is next = ok_then (V p t s) (M p t s) a _ is
      (λ x part. in_scope_is p t s x.scope (f x.typed x.scope) part.0
      (λ all within. next all x.typed x.scope (part.1 all within)))

  all_values : (s : Scope) (a : Answer AllValued) (f : List Typed → Scope → Answer Denotation) → Ok (A p t s) a
      → ((all : List Kind) (xs : List Typed) (u : Scope) → Each (IsValue p t all) xs → Ok (IsMeaning p t all) (f xs u))
      → Ok (M p t s) (and_then a (λ xs. in_scope xs.scope (f xs.typed xs.scope)))
  all_values s a f is next = ok_then (A p t s) (M p t s) a _ is
      (λ xs part. in_scope_is p t s xs.scope (f xs.typed xs.scope) part.0
      (λ all within. next all xs.typed xs.scope (part.1 all within)))

  two_values : (s : Scope) (a : Answer Valued) (b : Scope → Answer Valued)
      (f : Typed → Typed → Scope → Answer Denotation) → Ok (V p t s) a
      → ((u : Scope) → IsScope t u → Follows p t s u → Ok (V p t u) (b u))
      → ((all : List Kind) (x y : Typed) (u : Scope) → IsValue p t all x → IsValue p t all y
      → Ok (IsMeaning p t all) (f x y u))
      → Ok (M p t s) (and_then a (λ x. and_then (b x.scope) (λ y. in_scope y.scope (f x.typed y.typed y.scope))))
  two_values s a b f is other next =
      ok_then (V p t s) (M p t s) a _ is (λ x first.
      more p t s x.scope _ first.0.1
      (ok_then (V p t x.scope) (M p t x.scope) (b x.scope) _ (other x.scope first.0.0 first.0.1) (λ y second.
      in_scope_is p t x.scope y.scope (f x.typed y.typed y.scope) second.0 (λ all within.
      next all x.typed y.typed y.scope (first.1 all (ends_before p t x.scope y.scope all second.0.1.0.0 within))
      (second.1 all within)))))

  -- what is called, and the values of its arguments
  part_and_values : (s : Scope) (a : Answer Meant) (b : Scope → Answer AllValued)
      (f : Denotation → List Typed → Scope → Answer Denotation) → Ok (M p t s) a
      → ((u : Scope) → IsScope t u → Follows p t s u → Ok (A p t u) (b u))
      → ((all : List Kind) (m : Denotation) (xs : List Typed) (u : Scope) → IsMeaning p t all m
      → Each (IsValue p t all) xs → Ok (IsMeaning p t all) (f m xs u))
      → Ok (M p t s) (and_then a (λ m. and_then (b m.scope) (λ xs. in_scope xs.scope (f m.means xs.typed xs.scope))))
  part_and_values s a b f is other next =
      ok_then (M p t s) (M p t s) a _ is (λ m first.
      more p t s m.scope _ first.0.1
      (ok_then (A p t m.scope) (M p t m.scope) (b m.scope) _ (other m.scope first.0.0 first.0.1) (λ xs second.
      in_scope_is p t m.scope xs.scope (f m.means xs.typed xs.scope) second.0 (λ all within.
      next all m.means xs.typed xs.scope (first.1 all (ends_before p t m.scope xs.scope all second.0.1.0.0 within))
      (second.1 all within)))))

  three_values : (s : Scope) (a : Answer Valued) (b c : Scope → Answer Valued)
      (f : Typed → Typed → Typed → Scope → Answer Denotation) → Ok (V p t s) a
      → ((u : Scope) → IsScope t u → Follows p t s u → Ok (V p t u) (b u))
      → ((u : Scope) → IsScope t u → Follows p t s u → Ok (V p t u) (c u))
      → ((all : List Kind) (x y z : Typed) (u : Scope) → IsValue p t all x → IsValue p t all y → IsValue p t all z
      → Ok (IsMeaning p t all) (f x y z u))
      → Ok (M p t s) (and_then a (λ x. and_then (b x.scope)
      (λ y. and_then (c y.scope) (λ z. in_scope z.scope (f x.typed y.typed z.typed z.scope)))))
  three_values s a b c f is other last next =
      ok_then (V p t s) (M p t s) a _ is (λ x first.
      more p t s x.scope _ first.0.1
      (ok_then (V p t x.scope) (M p t x.scope) (b x.scope) _ (other x.scope first.0.0 first.0.1) (λ y second.
      more p t x.scope y.scope _ second.0.1
      (ok_then (V p t y.scope) (M p t y.scope) (c y.scope) _
      (last y.scope second.0.0 (follows_trans p t s x.scope y.scope first.0.1 second.0.1)) (λ z third.
      in_scope_is p t y.scope z.scope (f x.typed y.typed z.typed z.scope) third.0 (λ all within.
      let kept = ends_before p t y.scope z.scope all third.0.1.0.0 within in
      next all x.typed y.typed z.typed z.scope (first.1 all (ends_before p t x.scope y.scope all second.0.1.0.0 kept))
      (second.1 all kept) (third.1 all within)))))))

-- all expressions ---------------------------------------------------------------------------------

-- what is known of a text is known behind an expression
pub moved : (p : Program) (t : Table) (P : ℕ → Option ℕ → Type 0) (s u : Scope) → Follows p t s u
    → (declares_globals s ≡ true → P s.file s.class) → declares_globals u ≡ true → P u.file u.class
moved p t P s u keeps known is = subst (λ f. P f u.class) (sym keeps.0.0.file)
    (subst (λ c. P s.file c) (sym keeps.0.0.class) (known (sym (same_globals s u keeps.0) ∙ is)))

ok_both : {X : Type 0} (P Q : X → Type 0) (a : Answer X) → Ok P a → Ok Q a → Ok (λ x. P x × Q x) a
ok_both P Q (gives x) one other = (one, other)
ok_both P Q (refused why) one other = tt

module _ (p : Program) (t : Table) (has : Has p t) where
  -- what is declared where globals are is what the table has
  agrees : (s : Scope) (n : Name) (class : Option ℕ) (k j : Kind) → HasGlobal t s n class k → HasName t s.file class n j
      → j ≡ k
  agrees s n None k j is so = sym so.2 ∙ ap (λ v. v.kind) (same_some so.0 is.0 (sym so.1 ∙ is.1)) ∙ is.2
  agrees s n (Some c) k j is so = sym (subst (λ m. IsOfKind m j)
      (same_some so.0 (member.Field is.0 k) (sym so.1 ∙ is.1)) so.2)

  form_is : (s : Scope) (h : DeclHead) (x : Declr) (making : Making) (base : Option Base) → Matches x making
      → (declares_globals s ≡ true → IsDeclaredAs t s.file s.class h base x) → (b : Base) → base ≡ Some b
      → HasForm t s h (declr_name x) making
  form_is s h x making None so known b is = absurd (cc)
  form_is s h x making (Some a) so known b is =
      agreed_form p t has s h x making (named_by t s.file a) (named_in p t has s.file a) so
      (λ global k found. let it = known global in it.1 ∙ ap Some (agrees s (declr_name x) s.class k it.0 found it.2))

  -- a right result, and one that keeps the scope
  with_keeps : (s : Scope) (a : Answer Meant) → Ok (IsMeant p t s) a → Ok (λ m. Keeps t s m.scope) a → Ok (M p t s) a
  with_keeps s (gives m) is keeps = ((is.0.0, (keeps, is.0.2)), is.1)
  with_keeps s (refused why) is keeps = tt

  -- one value more
  and_value : (s : Scope) (a : Answer AllValued) (x : Expr) → Ok (A p t s) a
      → ((u : Scope) → IsScope t u → Follows p t s u → Ok (M p t u) (meaning t u x))
      → Ok (A p t s) (and_then a (λ xs. and_then (value_of (expr_line x) (meaning t xs.scope x))
      (λ y. gives (and_valued xs y))))
  and_value s (gives xs) x are next = go (value_of (expr_line x) (meaning t xs.scope x))
      (value_of_is p t has xs.scope (expr_line x) (meaning t xs.scope x) (next xs.scope are.0.0 are.0.1))
    where
      go : (b : Answer Valued) → Ok (V p t xs.scope) b → Ok (A p t s) (and_then b (λ y. gives (and_valued xs y)))
      go (gives y) is = (
        (is.0.0, follows_trans p t s xs.scope y.scope are.0.1 is.0.1),
        λ all within.
            each_and (IsValue p t all) xs.typed y.typed
            (are.1 all (ends_before p t xs.scope y.scope all is.0.1.0.0 within)) (is.1 all within),
      )
      go (refused why) is = tt
  and_value s (refused why) x are next = tt

  as_valued : (s : Scope) (x : Expr) → Ok (M p t s) (meaning t s x)
      → Ok (V p t s) (value_of (expr_line x) (meaning t s x))
  as_valued s x is = value_of_is p t has s (expr_line x) (meaning t s x) is

  -- what is chucked to: with `auto` it is declared then
  module _ (s : Scope) (l : ℕ) (o : ChuckOp) (x : Typed) (b : Expr) where
    other_chucked : (m : Denotation) → IsScope t s → ((all : List Kind) → Ends p t s all → IsValue p t all x)
        → ((all : List Kind) → Ends p t s all → IsMeaning p t all m)
        → Ok (M p t s) (in_scope s (if e.is_now b then e.now_meaning t.parents s l o x else e.chuck_meaning t s l
        (expr_line b) o x m))
    other_chucked m scope left part =
        in_scope_is p t s s _ (scope, follows_refl p t s) (λ all within.
        ok_if (IsMeaning p t all) (e.is_now b) _ _ (λ now. now_meaning_is p t has all s l o x (left all within))
        (λ other. chuck_meaning_is p t has all (chuck_callee_is p t has all) s l (expr_line b) o x m (left all within)
        (part all within)))

    chucked_of : (m : Denotation) → IsScope t s → ((all : List Kind) → Ends p t s all → IsValue p t all x)
        → ((all : List Kind) → Ends p t s all → IsMeaning p t all m)
        → Ok (M p t s) (e.chucked t s l o x b m)
    chucked_of (means.an_auto n form) scope left part =
        with_keeps s _ (auto_chucked_is p t has s l (expr_line b) x scope left o n form)
        (auto_keeps t s l (expr_line b) o x n form)
    chucked_of (value y) scope left part = other_chucked (value y) scope left part
    chucked_of (means.at spot address k) scope left part = other_chucked (means.at spot address k) scope left part
    chucked_of (means.callable c) scope left part = other_chucked (means.callable c) scope left part
    chucked_of (means.a_type c) scope left part = other_chucked (means.a_type c) scope left part
    chucked_of (means.declared d) scope left part = other_chucked (means.declared d) scope left part

  chucked_is : (s : Scope) (l : ℕ) (o : ChuckOp) (x : Typed) (b : Expr) (m : Denotation) → IsScope t s
      → ((all : List Kind) → Ends p t s all → IsValue p t all x)
      → ((all : List Kind) → Ends p t s all → IsMeaning p t all m) → Ok (M p t s) (e.chucked t s l o x b m)
  chucked_is s l o x b m scope left part = chucked_of s l o x b m scope left part

  abbrev Known : Scope → Expr → Type 0
  Known s x = declares_globals s ≡ true → Declared t s.file s.class x

  -- a declaration behind what its first value is made of
  declared_behind : (s u : Scope) (l : ℕ) (h : DeclHead) (x : Declr) (making : Making) → Behind p t s u
      → ((all : List Kind) → Ends p t u all → Each (IsValue p t all) (parts making))
      → Matches x making → (declares_globals s ≡ true → IsDeclared t s.file s.class h x)
      → Ok (M p t s) (e.declaration_meaning t u l h x making)
  declared_behind s u l h x making behind are so known =
      let given = declared_with_is p t has u l h x making h.base behind.0 are so
      (form_is u h x making h.base so (moved p t (λ f c. IsDeclaredAs t f c h h.base x) s u behind.1 known)) in
      more p t s u (e.declaration_meaning t u l h x making) behind.1
      (with_keeps u _ given (declaration_keeps t u l h x making))

  mutual
    pub meaning_is : (s : Scope) (x : Expr) → IsScope t s → Known s x → Ok (M p t s) (meaning t s x)
    meaning_is s (tree.int l v) scope known = (
      (scope, follows_refl p t s),
      λ all within. ((One elem.Int, refl, refl), tt),
    )
    meaning_is s (tree.float l v) scope known = (
      (scope, follows_refl p t s),
      λ all within. ((One elem.Float, refl, refl), tt),
    )
    meaning_is s (tree.text l v) scope known = (
      (scope, follows_refl p t s),
      λ all within. ((One elem.Text, refl, refl), tt),
    )
    meaning_is s (tree.name l n) scope known = in_scope_is p t s s (name_meaning t s l n) (scope, follows_refl p t s)
        (λ all within. name_meaning_is p t has all s l n scope within)
    meaning_is s (tree.constant l c) scope known = in_scope_is p t s s (e.word_meaning t s l c)
        (scope, follows_refl p t s) (λ all within. word_meaning_is p t has all s l c scope within)
    meaning_is s (tree.time_unit l u) scope known =
        ((scope, follows_refl p t s), λ all within. ((One elem.Dur, refl, refl), tt))
    meaning_is s (tree.paren l x) scope known = one_value p t has s _
        (λ y u. gives (value (record y { place = place s l }))) (as_valued s x (meaning_is s x scope known))
        (λ all y u is. is)
    meaning_is s (tree.array l xs) scope known = all_values p t has s _ (λ ys u. e.array_meaning t.parents u l ys)
        (values_are s xs scope known) (λ all ys u are. array_is p t has all u l ys are)
    meaning_is s (tree.call l f xs) scope known =
        part_and_values p t has s _ (λ u. values t u xs) (λ m ys u. e.call_meaning t u l m ys)
        (meaning_is s f scope (λ is. (known is).0))
        (λ u right keeps. values_are u xs right (moved p t (λ f c. AllDeclared t f c xs) s u keeps
        (λ is. (known is).1)))
        (λ all m ys u part are. call_meaning_is p t has all u l m ys part are)
    meaning_is s (tree.index l a i) scope known =
        two_values p t has s _ (λ u. value_of (expr_line i) (meaning t u i)) (λ x y u. e.item_meaning u l x y)
        (as_valued s a (meaning_is s a scope (λ is. (known is).0)))
        (λ u right keeps. as_valued u i (meaning_is u i right
        (moved p t (λ f c. Declared t f c i) s u keeps (λ is. (known is).1))))
        (λ all x y u left index. item_is p t has all u l x y left index)
    meaning_is s (tree.member l o n) scope known =
        one_part p t has s _ (λ m u. e.member_or_wait t u l (expr_line o) m n (e.wait_word o n))
        (meaning_is s o scope known) (λ all m u part. member_or_wait_is p t has all u l (expr_line o) m n o part)
    meaning_is s (tree.postfix l x o) scope known =
        one_part p t has s _ (λ m u. e.postfix_meaning u l o m) (meaning_is s x scope known)
        (λ all m u part. postfix_is p t has all u l o m part)
    meaning_is s (tree.dur l x d) scope known =
        two_values p t has s _ (λ u. value_of (expr_line d) (meaning t u d))
        (λ y z u. e.dur_meaning u l y z (e.unit_in d)) (as_valued s x (meaning_is s x scope (λ is. (known is).0)))
        (λ u right keeps. as_valued u d (meaning_is u d right
        (moved p t (λ f c. Declared t f c d) s u keeps (λ is. (known is).1))))
        (λ all y z u left right. dur_is p t has all u l y z (e.unit_in d) left right)
    meaning_is s (tree.prefix l o x) scope known =
        one_part p t has s _ (λ m u. e.prefix_meaning u l (expr_line x) o m) (meaning_is s x scope known)
        (λ all m u part. prefix_is p t has all u l (expr_line x) o m part)
    meaning_is s (tree.new l b xs) scope known =
        all_values p t has s _ (λ ys u. e.new_meaning t u l (named_by t u.file b) ys) (values_are s xs scope known)
        (λ all ys u are. new_is p t has all u l (named_by t u.file b) ys (named_in p t has u.file b) are)
    meaning_is s (tree.new_with l b xs) scope known =
        all_values p t has s _ (λ ys u. e.new_with_meaning t u l (named_by t u.file b) ys) (values_are s xs scope known)
        (λ all ys u are. new_with_is p t has all u l (named_by t u.file b) ys (named_in p t has u.file b) are)
    meaning_is s (tree.spork l (tree.call k f xs)) scope known =
        part_and_values p t has s _ (λ u. values t u xs) (λ m ys u. e.spork_meaning t u l k m ys)
        (meaning_is s f scope (λ is. (known is).0))
        (λ u right keeps. values_are u xs right (moved p t (λ f c. AllDeclared t f c xs) s u keeps
        (λ is. (known is).1)))
        (λ all m ys u part are. spork_meaning_is p t has all u l k m ys part are)
    meaning_is s (tree.spork l x) scope known =
        ok_then (V p t s) (M p t s) (value_of (expr_line x) (meaning t s x)) (λ y. wrong s.file l NotCallable)
        (as_valued s x (meaning_is s x scope known)) (λ y part. tt)
    meaning_is s (tree.cast l x k) scope known =
        one_value p t has s _ (λ y u. e.cast_meaning t.parents u l y (named_by t u.file k.base) k.brackets)
        (as_valued s x (meaning_is s x scope known))
        (λ all y u is. cast_meaning_is p t has all u l y (named_by t u.file k.base) k.brackets
        (named_in p t has u.file k.base) is)
    meaning_is s (tree.binary l a o b) scope known =
        two_values p t has s _ (λ u. value_of (expr_line b) (meaning t u b))
        (λ x y u. e.binary_meaning t.parents u l o x y) (as_valued s a (meaning_is s a scope (λ is. (known is).0)))
        (λ u right keeps. as_valued u b (meaning_is u b right
        (moved p t (λ f c. Declared t f c b) s u keeps (λ is. (known is).1))))
        (λ all x y u left right. binary_is p t has all u l o x y left right)
    meaning_is s (tree.choice l c a b) scope known =
        three_values p t has s _ (λ u. value_of (expr_line a) (meaning t u a))
        (λ u. value_of (expr_line b) (meaning t u b)) (λ x y z u. e.choice_meaning t.parents u l x y z)
        (as_valued s c (meaning_is s c scope (λ is. (known is).0)))
        (λ u right keeps. as_valued u a (meaning_is u a right
        (moved p t (λ f c. Declared t f c a) s u keeps (λ is. (known is).1))))
        (λ u right keeps. as_valued u b (meaning_is u b right
        (moved p t (λ f c. Declared t f c b) s u keeps (λ is. (known is).2))))
        (λ all x y z u test left right. choice_is p t has all u l x y z test left right)
    meaning_is s (tree.declare l h (declr n bs)) scope known =
        ok_then (λ xs. A p t s xs × (length xs.typed ≡ sized bs)) (M p t s) (sizes t s bs)
        (λ xs. e.declaration_meaning t xs.scope l h (declr n bs) (with_sizes xs.typed))
        (ok_both (A p t s) (λ xs. length xs.typed ≡ sized bs) (sizes t s bs) (sizes_are s bs scope (λ is. (known is).0))
        (sizes_count t s bs)) (λ xs part.
        declared_behind s xs.scope l h (declr n bs) (with_sizes xs.typed) part.0.0 part.0.1 part.1 (λ is. (known is).1))
    meaning_is s (tree.declare l h (declr_with n es)) scope known =
        let inner = in_arguments s n in
        ok_then (A p t inner) (M p t s) (values t inner es)
        (λ xs. e.declaration_meaning t (behind_arguments xs.scope) l h (declr_with n es) (with_arguments xs.typed))
        (values_are inner es (in_arguments_is t s n scope) (λ is. (known is).0)) (λ xs part.
        let behind = behind_arguments xs.scope in
        more p t s inner _ (in_arguments_follows p t s n)
        (declared_behind inner behind l h (declr_with n es) (with_arguments xs.typed) (
          behind_arguments_is t xs.scope part.0.0,
          follows_trans p t inner xs.scope behind part.0.1 (behind_arguments_follows p t xs.scope),
        )
        (λ all ends. part.1 all (same_ends p t behind xs.scope all refl refl ends)) tt (λ is. (known is).1)))
    meaning_is s (tree.chuck l a o b) scope known =
        ok_then (V p t s) (M p t s) (value_of (expr_line a) (meaning t s a)) _
        (as_valued s a (meaning_is s a scope (λ is. (known is).0))) (λ x first.
        more p t s x.scope _ first.0.1
        (ok_then (M p t x.scope) (M p t x.scope) (meaning t x.scope b) _
        (meaning_is x.scope b first.0.0 (moved p t (λ f c. Declared t f c b) s x.scope first.0.1
        (λ is. (known is).1))) (λ m second.
        more p t x.scope m.scope _ second.0.1
        (chucked_is m.scope l o x.typed b m.means second.0.0
        (λ all ends. first.1 all (ends_before p t x.scope m.scope all second.0.1.0.0 ends)) second.1))))

    pub values_are : (s : Scope) (xs : Exprs) → IsScope t s
        → (declares_globals s ≡ true → AllDeclared t s.file s.class xs) → Ok (A p t s) (values t s xs)
    values_are s no_exprs scope known = ((scope, follows_refl p t s), λ all within. tt)
    values_are s (and_expr xs x) scope known =
        and_value s (values t s xs) x (values_are s xs scope (λ is. (known is).0))
        (λ u right keeps. meaning_is u x right (moved p t (λ f c. Declared t f c x) s u keeps (λ is. (known is).1)))

    sizes_are : (s : Scope) (bs : Brackets) → IsScope t s
        → (declares_globals s ≡ true → SizesDeclared t s.file s.class bs) → Ok (A p t s) (sizes t s bs)
    sizes_are s no_brackets scope known = ((scope, follows_refl p t s), λ all within. tt)
    sizes_are s (and_empty bs) scope known = sizes_are s bs scope known
    sizes_are s (and_size bs x) scope known =
        and_value s (sizes t s bs) x (sizes_are s bs scope (λ is. (known is).0))
        (λ u right keeps. meaning_is u x right (moved p t (λ f c. Declared t f c x) s u keeps (λ is. (known is).1)))
