-- The table as the members of a file begin to be entered: the classes stand, with their parents and with the types of
-- their functions.
use Rattle.std.proofs.Common.{◌≡◌, ℕ, ◌+◌, ◌<◌, ◌≤◌, true, List, [], ◌∷◌, ◌++◌, length, Option, Some, None, slice_get, ⊎_elim, sym, ap, ◌∙◌, subst, arith}
use Rattle.std.proofs.lemmas.Bool.{cases_lt}
use Rattle.ck_syntax.specs.Tree as tree
use Rattle.ck_syntax.specs.Tree.{Name}
use Rattle.type_rules.specs.Fitting.{is_below}
use Rattle.first_walk.specs.FirstWalk.{own_class, with_parents, with_heads}
use Rattle.type_table.specs.declared.class.Class.{Class}
use Rattle.type_table.specs.declared.class.Head.{Head}
use Rattle.type_table.specs.declared.class.FileNames.{FileNames as File}
use Rattle.type_table.specs.Table.{Table, class_of, file_of, plain_head}
use Rattle.type_table.proofs.Ranges.{Each, many}
use Rattle.first_walk.proofs.TableFacts.{IsFileOf, IsTable}
use Rattle.type_table.proofs.ListFacts.{each_map, within_same, within_is}
use Rattle.first_walk.proofs.SameNames.{SameClasses}
use Rattle.first_walk.proofs.Growth.{file_grows}
use Rattle.first_walk.proofs.TextFuns.{FunsHold, ClassesHold, classes_keep, funs_keep}
use Rattle.first_walk.proofs.NamedClasses.{Named, IsNew}
use Rattle.first_walk.proofs.LinesBelow.{is_below_same}
use Rattle.first_walk.proofs.Extended.{AllExtended, Below, Parented, all_parented, new_below}
use Rattle.first_walk.proofs.Headed.{headless, Headed, headed_classes, Noted, all_headed, all_noted}

-- of a class nothing was entered but the types of its functions
pub record IsBlank (k : Class) : Type 0 where
  pub members : k.members ≡ []
  pub fields : k.fields ≡ []
  pub slots : k.slots ≡ 0
  pub body : k.body ≡ None
  pub constructor_none : k.constructor ≡ None

-- t is the table before file f, which has this text
pub record Started (t : Table) (f : ℕ) (owners : List (Option ℕ)) (raw : tree.File) (b : Table) : Type 1 where
  pub funs : b.funs ≡ t.funs ++ plain_head true ∷ []
  pub statics : b.statics ≡ t.statics
  pub more : many t ≤ many b
  pub old : (c : ℕ) → c < many t → class_of b c ≡ class_of t c
  pub blank : (c : ℕ) → many t ≤ c → IsBlank (class_of b c)
  pub many_parents : length b.parents ≡ many b
  pub old_parents : (c : ℕ) → c < many t → slice_get b.parents c ≡ slice_get t.parents c
  pub inner : Each (λ c. c < many b) b.parents
  pub lines : (c : ℕ) → c < many b → is_below b.parents c 0 ≡ true
  pub publics : Each (λ (e : Name × ℕ). e.1 < many b) b.publics
  pub many_files : length b.files ≡ length t.files + 1
  pub main : (file_of b f).main ≡ length t.funs
  pub others : (g : ℕ) → g < f → file_of b g ≡ file_of t g
  pub files : Each (IsFileOf b owners) b.files
  pub classes : Each (λ (e : Name × ℕ). IsNew (many t) (many b) e.1) (file_of b f).classes
  pub own : ClassesHold (IsNew (many t) (many b)) b f raw
  pub noted : (Q : Option ℕ → Name → Option Head → Type 0) → FunsHold Q b f raw → Noted Q (many t) b

classes_back : (t u : Table) → SameClasses t u → SameClasses u t
classes_back t u same = record {
  publics = sym same.publics;
  classes = λ g. sym (same.classes g);
  files = λ c. sym
      (same.files c);
}

module _ (t : Table) (f : ℕ) (owners : List (Option ℕ)) (before : List (Option ℕ)) (is : IsTable t before)
    (raw : tree.File) (u : Table) (named : Named t f owners u) (own : ClassesHold (IsNew (many t) (many u)) u f raw)
  where
    abbrev w : Table
    w = with_parents f u raw

    abbrev b : Table
    b = with_heads f w raw

    parented : Parented (many t) u w
    parented = all_parented t f owners is.two u named raw own

    named_w : SameClasses u w
    named_w = record {
      publics = ap (λ v. v.publics) parented.rest;
      classes = λ g. ap (λ v. (file_of v g).classes)
          parented.rest;
      files = λ c. ap (λ v. (class_of v c).file) parented.rest;
    }

    many_w : many w ≡ many u
    many_w = ap many parented.rest

    own_w : ClassesHold (IsNew (many t) (many w)) w f raw
    own_w = subst (λ m. ClassesHold (IsNew (many t) m) w f raw) (sym many_w)
        (classes_keep u w f named_w (IsNew (many t) (many u)) raw own)

    headed : Headed (many t) w b
    headed = all_headed w (many t) f raw own_w

    same_b : SameClasses w b
    same_b = headed_classes (many t) w b headed

    many_b : many b ≡ many u
    many_b = headed.many_same ∙ many_w

    parents_b : b.parents ≡ w.parents
    parents_b = ap (λ v. v.parents) headed.rest

    files_b : b.files ≡ u.files
    files_b = ap (λ v. v.files) headed.rest ∙ ap (λ v. v.files) parented.rest

    statics_b : b.statics ≡ u.statics
    statics_b = ap (λ v. v.statics) headed.rest ∙ ap (λ v. v.statics) parented.rest

    file_b : (g : ℕ) → file_of b g ≡ file_of u g
    file_b g = ap (λ v. file_of v g) headed.rest ∙ ap (λ v. file_of v g) parented.rest

    class_w : (d : ℕ) → class_of w d ≡ class_of u d
    class_w d = ap (λ v. class_of v d) parented.rest

    core_b : (d : ℕ) → headless (class_of b d) ≡ headless (class_of u d)
    core_b d = headed.same d ∙ ap headless (class_w d)

    blank_b : (d : ℕ) → many t ≤ d → IsBlank (class_of b d)
    blank_b d le = let e = named.empty d le in record {
      members = ap (λ (k : Class). k.members) (core_b d) ∙ e.members;
      fields = ap (λ (k : Class). k.fields) (core_b d) ∙ e.fields;
      slots = ap (λ (k : Class). k.slots) (core_b d) ∙ e.slots;
      body = ap (λ (k : Class). k.body) (core_b d) ∙ e.body;
      constructor_none = ap (λ (k : Class). k.constructor) (core_b d) ∙ e.constructor_none;
    }

    old_w : (c : ℕ) → c < many t → slice_get w.parents c ≡ slice_get t.parents c
    old_w c lt = parented.old c lt ∙ named.old_parents c lt

    noted_w : (Q : Option ℕ → Name → Option Head → Type 0) → Noted Q (many t) w
    noted_w Q d le = subst (Each (λ (e : Name × Option Head). Q (Some d) e.0 e.1))
        (sym (ap (λ (k : Class). k.heads) (class_w d) ∙ (named.empty d le).heads)) tt

    lines_w : AllExtended (Below t f owners is.two u named w) (own_class w f) raw → (c : ℕ)
        → is_below w.parents c 0 ≡ true
    lines_w checked c = ⊎_elim
        (λ lt. is_below_same t.parents w.parents (many t) (omega (arith, is.two)) old_w is.inner c 0 lt ∙ is.lines c lt)
        (λ le. new_below t f owners is.two u named raw own checked c le)
        (cases_lt c (many t))

    pub started : AllExtended (Below t f owners is.two u named w) (own_class w f) raw → Started t f owners raw b
    started checked = record {
      funs = ap (λ v. v.funs) headed.rest ∙ ap (λ v. v.funs) parented.rest ∙ named.funs;
      statics = statics_b ∙ named.statics;
      more = omega (arith, named.more, many_b);
      old = λ c lt. headed.old c lt ∙ class_w c ∙ named.old c lt;
      blank = blank_b;
      many_parents = ap length parents_b ∙ parented.many_parents ∙ named.many_parents ∙ sym many_b;
      old_parents = λ c lt. ap (λ p. slice_get p c) parents_b ∙ old_w c lt;
      inner = subst (λ p. Each (λ c. c < many b) p) (sym parents_b)
          (subst (λ m. Each (λ c. c < m) w.parents) (sym many_b) parented.inner);
      lines = λ c lt. subst (λ p. is_below p c 0 ≡ true) (sym parents_b) (lines_w checked c);
      publics = subst (λ l. Each (λ (e : Name × ℕ). e.1 < many b) l) (sym (same_b.publics ∙ named_w.publics))
          (subst (λ m. Each (λ (e : Name × ℕ). e.1 < m) u.publics) (sym many_b) named.publics);
      many_files = ap length files_b ∙ named.many_files;
      main = ap (λ (x : File). x.main) (file_b f) ∙ named.main;
      others = λ g lt. file_b g ∙ named.others g lt;
      files = subst (Each (IsFileOf b owners)) (sym files_b)
          (each_map (IsFileOf u owners) (IsFileOf b owners)
          (λ x so. file_grows u b owners owners x (omega (arith, many_b)) (within_is u.statics b.statics statics_b)
          (within_same owners) so)
          u.files named.files);
      classes =
          subst (λ (x : File). Each (λ (e : Name × ℕ). IsNew (many t) (many b) e.1) x.classes) (sym (file_b f))
          (subst (λ m. Each (λ (e : Name × ℕ). IsNew (many t) m e.1) (file_of u f).classes) (sym many_b) named.classes);
      own = subst (λ m. ClassesHold (IsNew (many t) m) b f raw) (sym headed.many_same)
          (classes_keep w b f same_b (IsNew (many t) (many w)) raw own_w);
      noted = λ Q holds. all_noted w (many t) f Q raw own_w (noted_w Q)
          (funs_keep b w f (classes_back w b same_b) Q raw holds);
    }
