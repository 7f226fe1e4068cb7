use Rattle.std.proofs.Common.{◌≡◌, List, length, arith, ap, sym, subst}
use Rattle.ck_syntax.specs.declared.file.Item.{Item}
use Rattle.ck_syntax.specs.Size.{items_size}
use Rattle.ck_syntax.specs.Tree.{no_items}
use Rattle.ck_syntax.specs.View.{view_file, items_of}
use Rattle.type_table.specs.Table.{Table}
use Rattle.first_walk.specs.Room.{entries, AreNumbered}
use Rattle.first_walk.proofs.Measures.{begun_more, begun_main, counts_entries, counts_main, main_of}
use Rattle.first_walk.proofs.RoomFacts.{file_grows}
use Rattle.check_decls.proofs.Settling.{settled_entries}
use Rattle.check_decls.proofs.programs.Checked.add_file.Goals as goal

pub enter_file-requires : goal.enter_file-requires
enter_file-requires c =
    let same = c.deref_mut.ensures.value in
    record {
      next = omega (arith, c.requires.next, ap (λ (t : Table). length t.files) same);
      built_in = omega (arith, c.requires.built_in, ap (λ (t : Table). length t.classes) same);
      short = c.requires.short;
      room = omega (arith, c.requires.room, c.requires.short, ap entries same);
    }

pub items_typed-requires : goal.items_typed-requires
items_typed-requires c =
    let raw = view_file c.args.raw.now in
    let items = ap (λ (l : List Item). items_size (items_of no_items l)) c.items.ensures in
    let main =
    file_grows (main_of c.args.file) (counts_main c.args.file) c.args.file c.deref_mut.result.now
    c.enter_file.new.table raw c.in_ok-enter_file.ensures.entered in
    let begun =
    begun_main c.deref_mut.result.now c.args.file
    (omega (arith, c.requires.next, ap (λ (t : Table). length t.files) c.deref_mut.ensures.value)) in
    let first : length c.deref_mut.result.now.classes ≡ c.number-first.result =
    omega (
      arith,
      c.number-first.ensures,
      c.len.ensures,
      ap (λ (t : Table). length t.classes) c.behind-self.view_is,
      ap (λ (t : Table). length t.classes) c.deref.ensures,
      ap (λ (t : Table). length t.classes) c.deref_mut.ensures.value,
    ) in
    record {
      numbered =
          subst (λ (t : Table). AreNumbered t c.args.file c.number-first.result c.items.result.now)
          (sym c.deref-2.ensures)
          (subst (λ xs. AreNumbered c.enter_file.new.table c.args.file c.number-first.result xs)
          (sym c.items.ensures)
          (subst (λ n. AreNumbered c.enter_file.new.table c.args.file n c.args.raw.now.items) first
          c.in_ok-enter_file.ensures.numbered));
      few = omega (
        arith,
        c.requires.short,
        c.requires.room,
        items,
        first,
        ap entries c.deref_mut.ensures.value,
      );
      room = omega (arith, c.requires.short, items);
      numbers =
          omega (
            arith,
            c.requires.short,
            c.requires.room,
            items,
            main,
            begun,
            ap entries c.deref_mut.ensures.value,
            ap (main_of c.args.file) c.deref-2.ensures,
          );
    }

pub returns-clause-grown : goal.returns-clause-grown
returns-clause-grown c =
    omega (
      arith,
      c.requires.short,
      ap entries c.deref_mut.ensures.value,
      begun_more c.deref_mut.result.now,
      file_grows entries counts_entries c.args.file c.deref_mut.result.now c.enter_file.new.table
          (view_file c.args.raw.now) c.in_ok-enter_file.ensures.entered,
      ap entries c.deref_mut-2.ensures.value,
      ap entries c.settle_all.ensures,
      settled_entries c.deref_mut-2.result.now c.settled.result.now,
    )
