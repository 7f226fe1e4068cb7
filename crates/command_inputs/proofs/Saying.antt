-- What files say, one after another.
use Rattle.std.proofs.Common.{◌≡◌, ℕ, zero, suc, ◌+◌, ◌<◌, ◌≤◌, List, [], ◌∷◌, ◌++◌, length, take}
use Rattle.std.proofs.Common.{get_or, Vec, sym, ◌∙◌, ap, subst, arith}
use Rattle.std.proofs.lemmas.List.{take_more, take_all, map-append}
use Rattle.std.specs.declared.alloc.Global.{Global}
use Rattle.ck_syntax.specs.declared.file.File.{File}
use Rattle.ck_syntax.specs.View.{view_file}
use Rattle.command_inputs.specs.Sense.{Sense, HasTree, HasFault, Says, AllSay, none_says, and_says}
use Rattle.command_inputs.specs.Senses.{FirstRefused, is_first, is_later, contents_of, said}

says_push : (files : List (List ℕ)) (senses : List Sense) (bytes : List ℕ) (sense : Sense)
    → AllSay files senses → Says bytes sense → AllSay (files ++ bytes ∷ []) (senses ++ sense ∷ [])
says_push [] [] bytes sense none_says says = and_says says none_says
says_push (file ∷ files) (s ∷ senses) bytes sense (and_says a more) says =
    and_says a (says_push files senses bytes sense more says)
says_push [] (s ∷ senses) bytes sense say says = elim say [ ]
says_push (file ∷ files) [] bytes sense say says = elim say [ ]

-- one more file has its tree
pub said_more : (files : List (Vec ℕ Global)) (i : ℕ) (file : Vec ℕ Global)
    (trees trees2 : List File) (tree : File) → i < length files → file ≡ get_or files i file
    → trees2 ≡ trees ++ tree ∷ []
    → AllSay (contents_of (take i files)) (said trees) → Says file.items (HasTree (view_file tree))
    → AllSay (contents_of (take (i + 1) files)) (said trees2)
said_more files i file trees trees2 tree within is more say says =
    let longer : take i files ++ file ∷ [] ≡ take (i + 1) files =
    sym (take_more files i file within ∙ ap (λ x. take i files ++ x ∷ []) (sym is)) in
    let bytes : contents_of (take i files) ++ file.items ∷ [] ≡ contents_of (take (i + 1) files) =
    sym (map-append (λ f. f.items) (take i files) (file ∷ [])) ∙ ap contents_of longer in
    let senses : said trees ++ HasTree (view_file tree) ∷ [] ≡ said trees2 =
    sym (map-append (λ f. HasTree (view_file f)) trees (tree ∷ [])) ∙ ap said (sym more) in
    subst (λ ss. AllSay (contents_of (take (i + 1) files)) ss) senses
    (subst (λ bs. AllSay bs (said trees ++ HasTree (view_file tree) ∷ [])) bytes
    (says_push (contents_of (take i files)) (said trees) file.items (HasTree (view_file tree)) say
    says))

pub said_all : (files : List (Vec ℕ Global)) (i : ℕ) (trees : List File) → length files ≤ i
    → AllSay (contents_of (take i files)) (said trees) → AllSay (contents_of files) (said trees)
said_all files i trees past say =
    subst (λ fs. AllSay (contents_of fs) (said trees)) (take_all i files past) say

-- the first file that is refused
pub first_said : (files : List (Vec ℕ Global)) (i : ℕ) (file : Vec ℕ Global) (trees : List File)
    (line : ℕ) (wrong : List ℕ) → i < length files → file ≡ get_or files i file
    → AllSay (contents_of (take i files)) (said trees) → Says file.items (HasFault line wrong)
    → FirstRefused (contents_of files) i line wrong
first_said [] i file trees line wrong within is say says = absurd (omega (arith, within))
first_said (f ∷ files) zero file trees line wrong within is say says =
    is_first (subst (λ (g : Vec ℕ Global). Says g.items (HasFault line wrong)) is says)
first_said (f ∷ files) (suc i) file (t ∷ trees) line wrong within is (and_says a more) says =
    is_later a (first_said files i file trees line wrong (omega (arith, within)) is more says)
first_said (f ∷ files) (suc i) file [] line wrong within is say says = elim say [ ]
