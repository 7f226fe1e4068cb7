use Rattle.std.proofs.Common.{rules, ◌≡◌, List, length, ap, subst, ◌∙◌, sym, arith}
use Rattle.ck_syntax.specs.declared.file.Item.{Item}
use Rattle.ck_syntax.specs.Size.{items_size}
use Rattle.ck_syntax.specs.Tree.{File, no_items}
use Rattle.ck_syntax.specs.View.{items_of}
use Rattle.type_table.specs.Answer.{gives}
use Rattle.type_table.specs.Table.{Table}
use Rattle.first_walk.specs.FirstWalk.{begun, with_classes, with_parents, with_heads, enter_items}
use Rattle.first_walk.specs.Room.{entries, FileReady, HaveRoom, AreNumbered}
use Rattle.first_walk.proofs.Fresh.{file_ready, file_room}
use Rattle.first_walk.proofs.Numbered.{named_numbered, parented_numbered, headed_numbered, entered_numbered}
use Rattle.first_walk.proofs.Measures.{begun_more, counts_entries}
use Rattle.first_walk.proofs.RoomFacts.{classes_grow, parents_kept, heads_kept}
use Rattle.first_walk.proofs.walk.enter_file.Goals as goal

pub find_below-requires : goal.find_below-requires
find_below-requires c =
    record {
      few =
          omega (
            arith,
            ap (λ (l : List Item). items_size (items_of no_items l)) c.items-items.ensures,
            ap entries c.in_ok-begin.ensures.begun,
            begun_more c.args.table.now,
            classes_grow entries counts_entries c.args.file c.begin.new.table c.enter_classes.new.table
                (items_of no_items c.items-items.result.now) c.in_ok-enter_classes.ensures.entered,
            ap entries c.enter_parents.ensures,
            parents_kept entries counts_entries c.args.file c.enter_classes.new.table
                (items_of no_items c.items-items.result.now),
          );
    }

pub enter_parents-requires-clause-numbered : goal.enter_parents-requires-clause-numbered
enter_parents-requires-clause-numbered c =
    let raw : File = items_of no_items c.items-items.result.now in
    let named : with_classes c.args.file (begun c.args.table.now) raw ≡ gives c.enter_classes.new.table =
    subst (λ (t : Table). with_classes c.args.file t raw ≡ gives c.enter_classes.new.table)
    c.in_ok-begin.ensures.begun c.in_ok-enter_classes.ensures.entered in
    let first : length c.args.table.now.classes ≡ c.number-first.result = omega
    (arith, c.number-first.ensures, c.len.ensures, ap (λ (t : Table). length t.classes) c.table.view_is) in
    subst (λ k. AreNumbered c.enter_classes.new.table c.args.file k c.items-items.result.now) first
    (named_numbered c.args.table.now c.args.file c.requires.built_in c.requires.next c.items-items.result.now
    c.enter_classes.new.table named)

pub check_parents-requires-clause-numbered : goal.check_parents-requires-clause-numbered
check_parents-requires-clause-numbered c =
    let raw : File = items_of no_items c.items-items.result.now in
    let named : with_classes c.args.file (begun c.args.table.now) raw ≡ gives c.enter_classes.new.table =
    subst (λ (t : Table). with_classes c.args.file t raw ≡ gives c.enter_classes.new.table)
    c.in_ok-begin.ensures.begun c.in_ok-enter_classes.ensures.entered in
    let first : length c.args.table.now.classes ≡ c.number-first.result = omega
    (arith, c.number-first.ensures, c.len.ensures, ap (λ (t : Table). length t.classes) c.table.view_is) in
    subst (λ t. AreNumbered t c.args.file c.number-first.result c.items-items.result.now)
    (sym (c.enter_parents.ensures))
    (subst (λ k. AreNumbered (with_parents c.args.file c.enter_classes.new.table raw) c.args.file k
    c.items-items.result.now) first
    (parented_numbered c.args.table.now c.args.file c.requires.built_in c.requires.next c.items-items.result.now
    c.enter_classes.new.table named))

pub enter_heads-requires-clause-numbered : goal.enter_heads-requires-clause-numbered
enter_heads-requires-clause-numbered c =
    let raw : File = items_of no_items c.items-items.result.now in
    let named : with_classes c.args.file (begun c.args.table.now) raw ≡ gives c.enter_classes.new.table =
    subst (λ (t : Table). with_classes c.args.file t raw ≡ gives c.enter_classes.new.table)
    c.in_ok-begin.ensures.begun c.in_ok-enter_classes.ensures.entered in
    let first : length c.args.table.now.classes ≡ c.number-first.result = omega
    (arith, c.number-first.ensures, c.len.ensures, ap (λ (t : Table). length t.classes) c.table.view_is) in
    subst (λ t. AreNumbered t c.args.file c.number-first.result c.items-items.result.now)
    (sym (c.in_ok-find_below.ensures ∙ c.enter_parents.ensures))
    (subst (λ k. AreNumbered (with_parents c.args.file c.enter_classes.new.table raw) c.args.file k
    c.items-items.result.now) first
    (parented_numbered c.args.table.now c.args.file c.requires.built_in c.requires.next c.items-items.result.now
    c.enter_classes.new.table named))

pub enter_items-requires : goal.enter_items-requires
enter_items-requires c =
    let raw : File = items_of no_items c.items-items.result.now in
    let same : items_size raw ≡ items_size (items_of no_items c.args.raw.now.items) =
    ap (λ (l : List Item). items_size (items_of no_items l)) c.items-items.ensures in
    let named : with_classes c.args.file (begun c.args.table.now) raw ≡ gives c.enter_classes.new.table =
    subst (λ (t : Table). with_classes c.args.file t raw ≡ gives c.enter_classes.new.table)
    c.in_ok-begin.ensures.begun c.in_ok-enter_classes.ensures.entered in
    let heads : Table = with_heads c.args.file (with_parents c.args.file c.enter_classes.new.table raw) raw in
    let is : c.enter_heads.new.table ≡ heads =
    c.in_ok-enter_heads.ensures.added
    ∙ ap (λ t. with_heads c.args.file t raw) (c.in_ok-find_below.ensures ∙ c.enter_parents.ensures) in
    let first : length c.args.table.now.classes ≡ c.number-first.result = omega
    (arith, c.number-first.ensures, c.len.ensures, ap (λ (t : Table). length t.classes) c.table.view_is) in
    record {
      numbered =
          subst (λ t. AreNumbered t c.args.file c.number-first.result c.items-items.result.now) (sym is)
          (subst (λ k. AreNumbered heads c.args.file k c.items-items.result.now) first
          (headed_numbered c.args.table.now c.args.file c.requires.built_in c.requires.next
          c.items-items.result.now c.enter_classes.new.table named));
      few = omega (arith, same, c.requires.room, first);
      room =
          omega (
            arith,
            same,
            ap entries c.in_ok-begin.ensures.begun,
            begun_more c.args.table.now,
            classes_grow entries counts_entries c.args.file c.begin.new.table c.enter_classes.new.table raw
                c.in_ok-enter_classes.ensures.entered,
            ap entries is,
            parents_kept entries counts_entries c.args.file c.enter_classes.new.table raw,
            heads_kept entries counts_entries c.args.file
                (with_parents c.args.file c.enter_classes.new.table raw) raw,
          );
      own =
          subst (λ t. HaveRoom t c.args.file (items_size raw) raw) (sym is)
          (file_room c.args.table.now c.args.file c.requires.built_in c.requires.next raw c.enter_classes.new.table
          named (omega (arith, same, c.requires.short)));
      ready =
          subst (FileReady c.args.file) (sym is)
          (file_ready c.args.table.now c.args.file c.requires.built_in c.requires.next raw c.enter_classes.new.table
          named);
    }

pub returns-clause-numbered : goal.returns-clause-numbered
returns-clause-numbered c =
    let raw : File = items_of no_items c.items-items.result.now in
    let named : with_classes c.args.file (begun c.args.table.now) raw ≡ gives c.enter_classes.new.table =
    subst (λ (t : Table). with_classes c.args.file t raw ≡ gives c.enter_classes.new.table)
    c.in_ok-begin.ensures.begun c.in_ok-enter_classes.ensures.entered in
    let heads : Table = with_heads c.args.file (with_parents c.args.file c.enter_classes.new.table raw) raw in
    let is : c.enter_heads.new.table ≡ heads =
    c.in_ok-enter_heads.ensures.added
    ∙ ap (λ t. with_heads c.args.file t raw) (c.in_ok-find_below.ensures ∙ c.enter_parents.ensures) in
    let stay : enter_items c.args.file c.enter_heads.new.table raw ≡ gives c.enter_items.new.table
    → AreNumbered c.enter_items.new.table c.args.file (length c.args.table.now.classes) c.args.raw.now.items =
    λ gave. subst (λ xs. AreNumbered c.enter_items.new.table c.args.file (length c.args.table.now.classes) xs)
    c.items-items.ensures
    (entered_numbered c.args.table.now c.args.file c.requires.built_in c.requires.next
    c.items-items.result.now c.enter_classes.new.table named c.enter_items.new.table
    (ap (λ t. enter_items c.args.file t raw) (sym is) ∙ gave)) in
    search (rules, stay)
