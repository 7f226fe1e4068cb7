-- A program that was checked has a main for each file.
use Rattle.std.proofs.Common.{◌≡◌, ℕ, suc, ◌+◌, List, [], ◌∷◌, length, refl, sym, ap, ◌∙◌, arith}
use Rattle.std.proofs.Common.{length-append}
use Rattle.ck_syntax.specs.Tree.{File}
use Rattle.ck_typed.specs.Tree.{Program}
use Rattle.type_table.specs.Answer.{Answer, gives, refused, and_then}
use Rattle.first_walk.specs.FirstWalk.{entered}
use Rattle.program_laws.specs.Programs.{Checked, none_checked, with_file_funs, items_typed}
use Rattle.program_laws.specs.Programs.{file_checked, files_from, program_of, checked}

gives_is : {A : Type 0} {x y : A} → gives x ≡ gives y → x ≡ y
gives_is is = cc

-- what was found first, where something was found then
then_gives : {A B : Type 0} (a : Answer A) (next : A → Answer B) (y : B) → and_then a next ≡ gives y
    → (x : A) × (a ≡ gives x) × (next x ≡ gives y)
then_gives (gives x) next y is = (x, refl, is)
then_gives (refused why) next y is = absurd (cc)

one_more : (c : Checked) (file : ℕ) (raw : File) (d : Checked) → file_checked c file raw ≡ gives d
    → length d.mains ≡ suc (length c.mains)
one_more c file raw d is =
    let t = then_gives (entered c.table file raw)
    (λ t. and_then (items_typed t file raw) (λ w. gives (with_file_funs c file t w))) d is in
    let w = then_gives (items_typed t.0 file raw) (λ w. gives (with_file_funs c file t.0 w)) d
    t.2 in
    ap (λ (e : Checked). length e.mains) (sym (gives_is w.2)) ∙ omega (arith, length-append {A = ℕ})

all_more : (c : Checked) (file : ℕ) (files : List File) (d : Checked)
    → files_from c file files ≡ gives d → length d.mains ≡ length c.mains + length files
all_more c file [] d is = ap (λ (e : Checked). length e.mains) (sym (gives_is is)) ∙ omega arith
all_more c file (raw ∷ files) d is =
    let e = then_gives (file_checked c file raw) (λ e. files_from e (file + 1) files) d is in
    omega (arith, one_more c file raw e.0 e.1, all_more e.0 (file + 1) files d e.2)

pub checked_mains : (files : List File) (program : Program) → checked files ≡ gives program
    → length program.mains ≡ length files
checked_mains files program is =
    let c = then_gives (files_from none_checked 0 files) (λ c. gives (program_of c)) program is in
    ap (λ (p : Program). length p.mains) (sym (gives_is c.2))
    ∙ omega (arith, all_more none_checked 0 files c.0 c.1)
