-- The types of the functions of a file's classes are noted: each of them is of a function of the class's text.
use Rattle.std.proofs.Common.{◌≡◌, ℕ, ◌<◌, ◌≤◌, [], Option, Some, slice_set, refl, sym, ap, ◌∙◌, subst, arith}
use Rattle.std.proofs.lemmas.List.{length-set}
use Rattle.ck_syntax.specs.Tree as tree
use Rattle.ck_syntax.specs.Tree.{Name, Members, no_members, and_member, fun_member, stmt_member, Item, no_items, and_item, class_item, fun_item, stmt_item}
use Rattle.type_table.specs.Names.{and_first}
use Rattle.first_walk.specs.FirstWalk.{own_class, head_of, with_head, with_heads_of, with_item_heads, with_heads}
use Rattle.type_table.specs.declared.class.Class.{Class}
use Rattle.type_table.specs.declared.class.Head.{Head}
use Rattle.type_table.specs.Table.{Table, or_no_class, class_of, file_of}
use Rattle.type_table.proofs.Ranges.{Each, many}
use Rattle.type_table.proofs.ListFacts.{get_set_other, set_keeps, set_cases, each_first}
use Rattle.first_walk.proofs.SameNames.{SameClasses, own_same, head_same}
use Rattle.first_walk.proofs.NamedClasses.{IsNew}
use Rattle.first_walk.proofs.TextFuns.{FunHolds, MembersHold, ItemHolds, FunsHold, ClassHolds, ClassesHold}

-- a class without the types of its functions
abbrev pub headless : Class → Class
headless k = record k { heads = [] }

-- u is the table with the parents of the classes
pub record Headed (low : ℕ) (u w : Table) : Type 0 where
  pub rest : w ≡ record u { classes = w.classes }
  pub many_same : many w ≡ many u
  pub same : (d : ℕ) → headless (class_of w d) ≡ headless (class_of u d)
  pub old : (d : ℕ) → d < low → class_of w d ≡ class_of u d

pub headed_classes : (low : ℕ) (u w : Table) → Headed low u w → SameClasses u w
headed_classes low u w so = record {
  publics = ap (λ v. v.publics) so.rest;
  classes = λ g. ap
      (λ v. (file_of v g).classes) so.rest;
  files = λ c. ap (λ (k : Class). k.file) (so.same c);
}

-- what is said of each function noted
abbrev pub Noted : (Q : Option ℕ → Name → Option Head → Type 0) → (low : ℕ) → Table → Type 0
Noted Q low w = (d : ℕ) → low ≤ d → Each (λ (e : Name × Option Head). Q (Some d) e.0 e.1) (class_of w d).heads

module _ (u : Table) (low f : ℕ) where
  module _ (c : ℕ) (own : IsNew low (many u) c) where
    module _ (w : Table) (so : Headed low u w) where
      member_headed : (m : tree.Member) → Headed low u (with_head f c w m)
      member_headed (fun_member (tree.fun l s result n ps body)) = record {
        rest = ap (λ (v : Table). record v { classes = slice_set w.classes c k }) so.rest;
        many_same = length-set w.classes c k ∙ so.many_same;
        same = λ d. set_keeps (λ o. headless (or_no_class o)) w.classes c d k refl ∙ so.same d;
        old = λ d lt. ap or_no_class (get_set_other w.classes c d k (λ e. absurd (omega (arith, e, lt, own.0))))
            ∙ so.old d lt;
      }
        where
          k : Class
          k = record (class_of w c) {
            heads = and_first n (head_of w f (tree.fun l s result n ps body))
                (class_of w c).heads;
          }
      member_headed (fun_member (tree.constructor l ps body)) = so
      member_headed (stmt_member s) = so

      member_noted : (Q : Option ℕ → Name → Option Head → Type 0) (g : tree.Fun) → FunHolds Q u f (Some c) g
          → Noted Q low w → Noted Q low (with_head f c w (fun_member g))
      member_noted Q (tree.fun l s result n ps body) holds noted d le =
          set_cases (λ j o. low ≤ j → Each (λ (e : Name × Option Head). Q (Some j) e.0 e.1) (or_no_class o).heads)
          w.classes c d k (omega (arith, own.1, so.many_same)) here (λ other. noted d) le
        where
          g : tree.Fun
          g = tree.fun l s result n ps body

          k : Class
          k = record (class_of w c) { heads = and_first n (head_of w f g) (class_of w c).heads }

          here : low ≤ c → Each (λ (e : Name × Option Head). Q (Some c) e.0 e.1) k.heads
          here at =
              each_first (λ (e : Name × Option Head). Q (Some c) e.0 e.1) n (head_of w f g) (class_of w c).heads
              (noted c at) (subst (Q (Some c) n) (sym (head_same u w (headed_classes low u w so) f g)) holds)
      member_noted Q (tree.constructor l ps body) holds noted d le = noted d le

    members_headed : (w : Table) → Headed low u w → (ms : Members) → Headed low u (with_heads_of f c w ms)
    members_headed w so no_members = so
    members_headed w so (and_member ms m) = member_headed (with_heads_of f c w ms) (members_headed w so ms) m

    members_noted : (Q : Option ℕ → Name → Option Head → Type 0) (w : Table) → Headed low u w → Noted Q low w
        → (ms : Members) → MembersHold Q u f c ms → Noted Q low (with_heads_of f c w ms)
    members_noted Q w so noted no_members holds = noted
    members_noted Q w so noted (and_member ms (fun_member g)) holds = member_noted (with_heads_of f c w ms)
        (members_headed w so ms) Q g holds.1 (members_noted Q w so noted ms holds.0)
    members_noted Q w so noted (and_member ms (stmt_member s)) holds = members_noted Q w so noted ms holds

  item_headed : (w : Table) → Headed low u w → (x : Item) → ClassHolds (IsNew low (many u)) u f x
      → Headed low u (with_item_heads f w x)
  item_headed w so (class_item (tree.class l p n parent ms)) own =
      subst (λ c. Headed low u (with_heads_of f c w ms)) (sym (own_same u w (headed_classes low u w so) f n))
      (members_headed (own_class u f n) own w so ms)
  item_headed w so (fun_item g) own = so
  item_headed w so (stmt_item s) own = so

  item_noted : (Q : Option ℕ → Name → Option Head → Type 0) (w : Table) → Headed low u w → Noted Q low w
      → (x : Item) → ClassHolds (IsNew low (many u)) u f x → ItemHolds Q u f x → Noted Q low (with_item_heads f w x)
  item_noted Q w so noted (class_item (tree.class l p n parent ms)) own holds =
      subst (λ c. Noted Q low (with_heads_of f c w ms)) (sym (own_same u w (headed_classes low u w so) f n))
      (members_noted (own_class u f n) own Q w so noted ms holds)
  item_noted Q w so noted (fun_item g) own holds = noted
  item_noted Q w so noted (stmt_item s) own holds = noted

  pub all_headed : (xs : tree.File) → ClassesHold (IsNew low (many u)) u f xs → Headed low u (with_heads f u xs)
  all_headed no_items own = record { rest = refl; many_same = refl; same = λ d. refl; old = λ d lt. refl }
  all_headed (and_item xs x) own = item_headed (with_heads f u xs) (all_headed xs own.0) x own.1

  pub all_noted : (Q : Option ℕ → Name → Option Head → Type 0) (xs : tree.File)
      → ClassesHold (IsNew low (many u)) u f xs → Noted Q low u → FunsHold Q u f xs → Noted Q low (with_heads f u xs)
  all_noted Q no_items own noted holds = noted
  all_noted Q (and_item xs x) own noted holds = item_noted Q (with_heads f u xs) (all_headed xs own.0)
      (all_noted Q xs own.0 noted holds.0) x own.1 holds.1
