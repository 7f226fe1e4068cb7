-- Typing gives only well-formed programs.
use Rattle.std.proofs.Common.{◌≡◌, ℕ, ◌≤◌, List, length, Option, Some, None, sym, arith}
use Rattle.ck_base.specs.declared.limits.TheConstants.{MAX_FILES}
use Rattle.ck_syntax.specs.Tree as tree
use Rattle.ck_syntax.specs.Tree.{Name, Members, no_members, and_member, fun_member, stmt_member}
use Rattle.ck_syntax.specs.Tree.{no_items, and_item, class_item, fun_item, stmt_item}
use Rattle.ck_typed.specs.Tree.{Program}
use Rattle.type_table.specs.Answer.{gives}
use Rattle.first_walk.specs.FirstWalk.{own_class, entered}
use Rattle.type_table.specs.Table.{Table}
use Rattle.first_walk.proofs.Below.{virtuals_are, maker_is}
use Rattle.first_walk.proofs.DeclaredFacts.{file_declared}
use Rattle.first_walk.proofs.EnteredFacts.{entered_facts, heads_are, new_table_is}
use Rattle.first_walk.proofs.FieldFacts.{fields_in, extends}
use Rattle.first_walk.proofs.FinishedFacts.{finished_classes_are, length-finished_classes}
use Rattle.first_walk.proofs.LaterFacts.{same_fun, below_later, same_fields, same_slots}
use Rattle.first_walk.proofs.MemberFacts.{member_is}
use Rattle.first_walk.proofs.SlotFacts.{slots_extend}
use Rattle.first_walk.proofs.TableFacts.{IsTable, IsLater}
use Rattle.first_walk.proofs.TextFuns.{FunHolds, MembersHold, ItemHolds, FunsHold}
use Rattle.type_table.specs.declared.class.Head.{Head}
use Rattle.program_laws.specs.Programs.{checked}
use Rattle.ck_typed.specs.WellFormed.{IsWellFormed}
use Rattle.program_laws.proofs.FileLaws.{IsEnteredFile, FileLaws}
use Rattle.program_laws.proofs.Matching.{HasHead, MembersHaveHeads, ItemHasHeads, FileHasHeads}
use Rattle.program_laws.proofs.TableLaws.{ClassLaws, LaterLaws}
use Rattle.program_laws.proofs.TypedFiles.{typed_file}
use Rattle.program_laws.proofs.WholeProgram.{typing_is_well_formed}

-- the functions of a text have types -------------------------------------------------------------

abbrev IsSome : Option ℕ → Name → Option Head → Type 0
IsSome c n h = (x : Head) × (h ≡ Some x)

fun_has : (u : Table) (file : ℕ) (c : Option ℕ) (f : tree.Fun) → FunHolds IsSome u file c f
    → HasHead u file f
fun_has u file c (tree.fun l s result n ps body) is = is
fun_has u file c (tree.constructor l ps body) is = is

members_have : (u : Table) (file c : ℕ) (ms : Members) → MembersHold IsSome u file c ms
    → MembersHaveHeads u file ms
members_have u file c no_members are = tt
members_have u file c (and_member ms (stmt_member s)) are = members_have u file c ms are
members_have u file c (and_member ms (fun_member f)) are =
    (members_have u file c ms are.0, fun_has u file (Some c) f are.1)

item_has : (u : Table) (file : ℕ) (x : tree.Item) → ItemHolds IsSome u file x
    → ItemHasHeads u file x
item_has u file (class_item (tree.class l is_public n parent ms)) are =
    members_have u file (own_class u file n) ms are
item_has u file (fun_item f) is = fun_has u file None f is
item_has u file (stmt_item s) is = tt

file_has : (u : Table) (file : ℕ) (raw : tree.File) → FunsHold IsSome u file raw
    → FileHasHeads u file raw
file_has u file no_items are = tt
file_has u file (and_item xs x) are = (file_has u file xs are.0, item_has u file x are.1)

-- all that the law rests on
-- ------------------------------------------------------------------------

class_laws : (t : Table) (owners : List (Option ℕ)) → IsTable t owners → ClassLaws t owners
class_laws t owners is =
    record {
      finished = finished_classes_are t;
      finished_length = length-finished_classes t;
      fields_in = fields_in t owners is;
      extends = extends t owners is;
      slots_extend = slots_extend t owners is;
      virtuals_are = virtuals_are t owners is;
      maker_is = maker_is t owners is;
      member_is = member_is t owners is;
    }

later_laws : (t u : Table) (owners : List (Option ℕ)) → IsTable t owners → IsLater t u
    → LaterLaws t u
later_laws t u owners is later =
    record {
      below = below_later t owners u is later;
      fields =
          same_fields t owners u is later;
      slots = same_slots t owners u is later;
      funs =
          same_fun t owners u is later;
    }

entered_file : (t u : Table) (owners : List (Option ℕ)) (file : ℕ) (raw : tree.File)
    → IsTable t owners → length t.files ≡ file → entered t file raw ≡ gives u
    → IsEnteredFile t owners file raw u
entered_file t u owners file raw is count gave =
    let facts = entered_facts t file owners is (sym count) raw u gave in
    record {
      table = facts.table;
      funs = facts.funs;
      main = facts.main;
      later = facts.later;
      files =
          facts.many_files;
    }

pub laws : FileLaws
laws =
    record {
      first = new_table_is;
      classes = class_laws;
      later = λ t u owners more is after within later. later_laws t u owners is later;
      enters = entered_file;
      types = λ t u owners file raw w is count gave file_is typed.
          typed_file t u owners file raw w file_is
          (file_has u file raw (heads_are t u owners file raw is (sym count) gave))
          (file_declared t u file raw (sym count) (omega (arith, is.two)) gave) typed;
    }

pub well_formed : (files : List tree.File) (p : Program) → length files ≤ MAX_FILES
    → checked files ≡ gives p → IsWellFormed p
well_formed = typing_is_well_formed laws
