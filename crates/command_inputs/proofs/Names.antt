-- The names of files among words, and how many a command has.
use Rattle.std.proofs.Common.{◌≡◌, ℕ, suc, ◌+◌, ◌<◌, ◌≤◌, List, [], ◌∷◌, String, length}
use Rattle.std.proofs.Common.{◌&&◌, Bool, true, false, if◌then◌else◌, Option, Some, None, codes}
use Rattle.std.proofs.Common.{◌-◌, ◌∙◌, take, drop, get_or, drop-cons, add-one, refl, sym, ap, subst, arith}
use Rattle.std.proofs.lemmas.Bool.{leb-true}
use Rattle.std.proofs.lemmas.List.{take_all, length-map, length-drop, drop-map}
use Rattle.std.specs.Prelude.{nat_le}
use Rattle.std.specs.Option.{option_map}
use Rattle.std.specs.Str.{bytes_eq}
use Rattle.std.specs.List.{list_all}
use Rattle.std.specs.String.{string_bytes}
use Rattle.std.specs.declared.alloc.Global.{Global}
use Rattle.std.proofs.Math.ListN.{drop_of_length-le}
use Rattle.ck_base.specs.declared.limits.TheConstants.{MAX_FILES, MAX_SAMPLES}
use Rattle.command_inputs.specs.declared.commands.Command.{Command}
use Rattle.command_inputs.specs.declared.commands.Command.TheVariants.{Check, Wakes, Render, Stats, Code, Load}
use Rattle.command_inputs.specs.Words.{words_of, can_name_file, is_count, decimal_value}
use Rattle.command_inputs.specs.Words.{samples_asked, are_files, check_of, wakes_of, render_of, stats_of, code_of, load_of}
use Rattle.command_inputs.specs.Words.{command_of}
use Rattle.command_inputs.specs.Words.{file_words, TakesFiles, ReadsFiles}

-- the next word, and those behind it
pub next_named : (words : List (String Global)) (i : ℕ) (word : String Global) → i < length words
    → word ≡ get_or words i word
    → list_all can_name_file
    (words_of (drop i words)) ≡ (can_name_file (string_bytes word) && list_all can_name_file
    (words_of (drop (i + 1) words)))
next_named words i word within is =
    let cut : drop i words ≡ word ∷ drop (i + 1) words =
    rw (add-one, drop-cons words i word within) (ap (λ w. w ∷ drop (suc i) words) (sym is)) in
    rw cut refl

pub none_left : (words : List (String Global)) (i : ℕ) → length words ≤ i
    → list_all can_name_file (words_of (drop i words)) ≡ true
none_left words i past = rw (drop_of_length-le words past) refl

-- a number of samples that is asked for is allowed
asked_few : (word : List ℕ) (samples : ℕ) → samples_asked word ≡ Some samples
    → samples ≤ MAX_SAMPLES
asked_few word samples asked =
    by (is_count word) (nat_le (decimal_value word) MAX_SAMPLES) refl asked
  where
    by : (counts small : Bool) → nat_le (decimal_value word) MAX_SAMPLES ≡ small
        → (if counts && small then Some (decimal_value word) else None) ≡ Some samples
        → samples ≤ MAX_SAMPLES
    by true true small is =
        let same : decimal_value word ≡ samples = cc is in
        omega (arith, leb-true (decimal_value word) MAX_SAMPLES small, same)
    by true false small is = absurd (cc)
    by false small so is = absurd (cc)

-- a command takes 1 to 64 files
files_few : (files : List (List ℕ)) → are_files files ≡ true
    → (1 ≤ length files) × (length files ≤ MAX_FILES)
files_few files are =
    by (nat_le 1 (length files)) (nat_le (length files) MAX_FILES)
    (list_all can_name_file files) refl refl are
  where
    by : (some few all : Bool) → nat_le 1 (length files) ≡ some
        → nat_le (length files) MAX_FILES ≡ few → ((some && few) && all) ≡ true
        → (1 ≤ length files) × (length files ≤ MAX_FILES)
    by true true all some few is =
        (leb-true 1 (length files) some, leb-true (length files) MAX_FILES few)
    by true false all some few is = absurd (cc is)
    by false few all some so is = absurd (cc is)

-- a command that reads files, and may have so many
abbrev Reads : Command → ℕ → Type 0
Reads command count = TakesFiles command count × ReadsFiles command

check_takes : (files : List (List ℕ)) (command : Command) → check_of files ≡ Some command
    → Reads command (length files)
check_takes files command is = by (are_files files) refl is
  where
    by : (good : Bool) → are_files files ≡ good
        → (if good then Some Check else None) ≡ Some command → Reads command (length files)
    by true good is =
        let same : Check ≡ command = cc is in
        let few = files_few files good in
        subst (λ c. Reads c (length files)) same ((tt, few.0, few.1), tt)
    by false good is = absurd (cc)

wakes_takes : (words : List (List ℕ)) (command : Command) → wakes_of words ≡ Some command
    → Reads command (length (drop 1 words))
wakes_takes [] command is = absurd (cc)
wakes_takes (count ∷ files) command is = by (are_files files) (samples_asked count) refl refl is
  where
    by : (good : Bool) (asked : Option ℕ) → are_files files ≡ good → samples_asked count ≡ asked
        → (if good then option_map Wakes asked else None) ≡ Some command
        → Reads command (length files)
    by true (Some samples) good asked is =
        let same : Wakes samples ≡ command = cc is in
        let few = files_few files good in
        subst (λ c. Reads c (length files)) same
        ((asked_few count samples asked, few.0, few.1), tt)
    by true None good asked is = absurd (cc)
    by false asked good so is = absurd (cc)

render_takes : (words : List (List ℕ)) (command : Command) → render_of words ≡ Some command
    → Reads command (length (drop 2 words))
render_takes [] command is = absurd (cc)
render_takes (count ∷ []) command is = absurd (cc)
render_takes (count ∷ sheet ∷ files) command is =
    by (can_name_file sheet) (are_files files) (samples_asked count) refl refl is
  where
    by : (named good : Bool) (asked : Option ℕ) → are_files files ≡ good
        → samples_asked count ≡ asked
        → (if named && good then option_map Render asked else None) ≡ Some command
        → Reads command (length files)
    by true true (Some samples) good asked is =
        let same : Render samples ≡ command = cc is in
        let few = files_few files good in
        subst (λ c. Reads c (length files)) same
        ((asked_few count samples asked, few.0, few.1), tt)
    by true true None good asked is = absurd (cc)
    by true false asked good so is = absurd (cc)
    by false good asked so more is = absurd (cc)

stats_takes : (words : List (List ℕ)) (command : Command) → stats_of words ≡ Some command
    → Reads command (length (drop 1 words))
stats_takes [] command is = absurd (cc)
stats_takes (count ∷ files) command is = by (are_files files) (samples_asked count) refl refl is
  where
    by : (good : Bool) (asked : Option ℕ) → are_files files ≡ good → samples_asked count ≡ asked
        → (if good then option_map Stats asked else None) ≡ Some command
        → Reads command (length files)
    by true (Some samples) good asked is =
        let same : Stats samples ≡ command = cc is in
        let few = files_few files good in
        subst (λ c. Reads c (length files)) same
        ((asked_few count samples asked, few.0, few.1), tt)
    by true None good asked is = absurd (cc)
    by false asked good so is = absurd (cc)

code_takes : (files : List (List ℕ)) (command : Command) → code_of files ≡ Some command
    → Reads command (length files)
code_takes files command is = by (are_files files) refl is
  where
    by : (good : Bool) → are_files files ≡ good
        → (if good then Some Code else None) ≡ Some command → Reads command (length files)
    by true good is =
        let same : Code ≡ command = cc is in
        let few = files_few files good in
        subst (λ c. Reads c (length files)) same ((tt, few.0, few.1), tt)
    by false good is = absurd (cc)

-- the words of a load are two, and name no file
load_is : (words : List (List ℕ)) (command : Command) → load_of words ≡ Some command
    → (seed : ℕ) × (command ≡ Load seed) × (drop 1 words ≡ [])
load_is [] command is = absurd (cc)
load_is (seed ∷ more ∷ words) command is = absurd (cc)
load_is (seed ∷ []) command is = by (is_count seed) is
  where
    by : (good : Bool) → (if good then Some (Load (decimal_value seed)) else None) ≡ Some command
        → (n : ℕ) × (command ≡ Load n) × (drop 1 (seed ∷ []) ≡ [])
    by true is = let same : Load (decimal_value seed) ≡ command = cc is in
        (decimal_value seed, sym same, refl)
    by false is = absurd (cc)

-- the command by its verb, and the names of its files
abbrev command_by : (check wakes render stats code load : Bool) → List (List ℕ) → Option Command
command_by check wakes render stats code load words =
    if check then check_of words else (if wakes then wakes_of words
    else (if render then render_of words else (if stats then stats_of words
    else (if code then code_of words else (if load then load_of words else None)))))

abbrev files_by : (check wakes render stats code : Bool) → List (List ℕ) → List (List ℕ)
files_by check wakes render stats code words =
    if check then words else (if wakes then drop 1 words else (if render then drop 2 words
    else (if stats then drop 1 words else (if code then words else []))))

-- so many files has the command of these words
command_takes : (words : List (List ℕ)) (command : Command) → command_of words ≡ Some command
    → ReadsFiles command → TakesFiles command (length (file_words words))
command_takes [] command is reads = absurd (cc)
command_takes (verb ∷ words) command is reads =
    by (bytes_eq verb (codes "check")) (bytes_eq verb (codes "wakes"))
    (bytes_eq verb (codes "render")) (bytes_eq verb (codes "stats"))
    (bytes_eq verb (codes "code")) (bytes_eq verb (codes "load")) is
  where
    by : (check wakes render stats code load : Bool)
        → command_by check wakes render stats code load words ≡ Some command
        → TakesFiles command (length (files_by check wakes render stats code words))
    by true wakes render stats code load is = (check_takes words command is).0
    by false true render stats code load is = (wakes_takes words command is).0
    by false false true stats code load is = (render_takes words command is).0
    by false false false true code load is = (stats_takes words command is).0
    by false false false false true load is = (code_takes words command is).0
    by false false false false false true is =
        absurd (subst ReadsFiles (load_is words command is).1 reads)
    by false false false false false false is = absurd (cc)

-- how many words a command has before the names of its files
abbrev pub words_before : Command → ℕ
words_before Check = 1
words_before (Wakes samples) = 2
words_before (Render samples) = 3
words_before (Stats samples) = 2
words_before Code = 1
words_before (Load seed) = 2

check_before : (files : List (List ℕ)) (command : Command) → check_of files ≡ Some command
    → words_before command ≡ 1
check_before files command is = by (are_files files) is
  where
    by : (good : Bool) → (if good then Some Check else None) ≡ Some command
        → words_before command ≡ 1
    by true is = let same : Check ≡ command = cc is in ap words_before (sym same)
    by false is = absurd (cc)

wakes_before : (words : List (List ℕ)) (command : Command) → wakes_of words ≡ Some command
    → words_before command ≡ 2
wakes_before [] command is = absurd (cc)
wakes_before (count ∷ files) command is = by (are_files files) (samples_asked count) is
  where
    by : (good : Bool) (asked : Option ℕ)
        → (if good then option_map Wakes asked else None) ≡ Some command
        → words_before command ≡ 2
    by true (Some samples) is =
        let same : Wakes samples ≡ command = cc is in ap words_before (sym same)
    by true None is = absurd (cc)
    by false asked is = absurd (cc)

render_before : (words : List (List ℕ)) (command : Command) → render_of words ≡ Some command
    → words_before command ≡ 3
render_before [] command is = absurd (cc)
render_before (count ∷ []) command is = absurd (cc)
render_before (count ∷ sheet ∷ files) command is =
    by (can_name_file sheet && are_files files) (samples_asked count) is
  where
    by : (good : Bool) (asked : Option ℕ)
        → (if good then option_map Render asked else None) ≡ Some command
        → words_before command ≡ 3
    by true (Some samples) is =
        let same : Render samples ≡ command = cc is in ap words_before (sym same)
    by true None is = absurd (cc)
    by false asked is = absurd (cc)

stats_before : (words : List (List ℕ)) (command : Command) → stats_of words ≡ Some command
    → words_before command ≡ 2
stats_before [] command is = absurd (cc)
stats_before (count ∷ files) command is = by (are_files files) (samples_asked count) is
  where
    by : (good : Bool) (asked : Option ℕ)
        → (if good then option_map Stats asked else None) ≡ Some command
        → words_before command ≡ 2
    by true (Some samples) is =
        let same : Stats samples ≡ command = cc is in ap words_before (sym same)
    by true None is = absurd (cc)
    by false asked is = absurd (cc)

code_before : (files : List (List ℕ)) (command : Command) → code_of files ≡ Some command
    → words_before command ≡ 1
code_before files command is = by (are_files files) is
  where
    by : (good : Bool) → (if good then Some Code else None) ≡ Some command
        → words_before command ≡ 1
    by true is = let same : Code ≡ command = cc is in ap words_before (sym same)
    by false is = absurd (cc)

-- behind them stand the names of its files
names_behind : (words : List (List ℕ)) (command : Command) → command_of words ≡ Some command
    → file_words words ≡ drop (words_before command) words
names_behind [] command is = absurd (cc)
names_behind (verb ∷ words) command is =
    by (bytes_eq verb (codes "check")) (bytes_eq verb (codes "wakes"))
    (bytes_eq verb (codes "render")) (bytes_eq verb (codes "stats"))
    (bytes_eq verb (codes "code")) (bytes_eq verb (codes "load")) is
  where
    after : (n : ℕ) (names : List (List ℕ)) → names ≡ drop n (verb ∷ words)
        → words_before command ≡ n → names ≡ drop (words_before command) (verb ∷ words)
    after n names same before = same ∙ ap (λ m. drop m (verb ∷ words)) (sym before)

    by : (check wakes render stats code load : Bool)
        → command_by check wakes render stats code load words ≡ Some command
        → files_by check wakes render stats code words
        ≡ drop (words_before command) (verb ∷ words)
    by true wakes render stats code load is = after 1 words refl (check_before words command is)
    by false true render stats code load is =
        after 2 (drop 1 words) refl (wakes_before words command is)
    by false false true stats code load is =
        after 3 (drop 2 words) refl (render_before words command is)
    by false false false true code load is =
        after 2 (drop 1 words) refl (stats_before words command is)
    by false false false false true load is = after 1 words refl (code_before words command is)
    by false false false false false true is =
        let load = load_is words command is in
        after 2 [] (sym load.2) (ap words_before load.1)
    by false false false false false false is = absurd (cc)

-- the words from one on
from_word : (words : List (String Global)) (n : ℕ)
    → words_of (take (length words - n) (drop n words)) ≡ drop n (words_of words)
from_word words n =
    ap words_of (take_all (length words - n) (drop n words) (omega (arith, length-drop n words)))
    ∙ sym (drop-map string_bytes n words)

-- the names of a command's files, and how many there are
pub names_are : (words : List (String Global)) (command : Command) (n : ℕ)
    → command_of (words_of words) ≡ Some command → words_before command ≡ n
    → words_of (take (length words - n) (drop n words)) ≡ file_words (words_of words)
names_are words command n is before =
    from_word words n ∙ ap (λ m. drop m (words_of words)) (sym before)
    ∙ sym (names_behind (words_of words) command is)

pub names_take : (words : List (String Global)) (command : Command) (n : ℕ)
    → command_of (words_of words) ≡ Some command → words_before command ≡ n → ReadsFiles command
    → TakesFiles command (length (take (length words - n) (drop n words)))
names_take words command n is before reads =
    subst (TakesFiles command)
    (ap length (sym (names_are words command n is before))
    ∙ length-map (take (length words - n) (drop n words)) string_bytes)
    (command_takes (words_of words) command is reads)

-- more words than those before the names of the files
pub enough : (words : List (String Global)) (command : Command) (n : ℕ)
    → command_of (words_of words) ≡ Some command → words_before command ≡ n → ReadsFiles command
    → n < length words
enough words command n is before reads =
    let some = (command_takes (words_of words) command is reads).1 in
    let behind = ap (length {A = List ℕ}) (names_behind (words_of words) command is) in
    omega (
      arith,
      some,
      behind,
      before,
      length-drop (words_before command) (words_of words),
      length-map words string_bytes,
    )

-- the words of a load name no file
pub none_named : (words : List (List ℕ)) (seed : ℕ) → command_of words ≡ Some (Load seed)
    → file_words words ≡ []
none_named [] seed is = absurd (cc)
none_named (verb ∷ words) seed is =
    by (bytes_eq verb (codes "check")) (bytes_eq verb (codes "wakes"))
    (bytes_eq verb (codes "render")) (bytes_eq verb (codes "stats"))
    (bytes_eq verb (codes "code")) (bytes_eq verb (codes "load")) is
  where
    by : (check wakes render stats code load : Bool)
        → command_by check wakes render stats code load words ≡ Some (Load seed)
        → files_by check wakes render stats code words ≡ []
    by true wakes render stats code load is = absurd ((check_takes words (Load seed) is).1)
    by false true render stats code load is = absurd ((wakes_takes words (Load seed) is).1)
    by false false true stats code load is = absurd ((render_takes words (Load seed) is).1)
    by false false false true code load is = absurd ((stats_takes words (Load seed) is).1)
    by false false false false true load is = absurd ((code_takes words (Load seed) is).1)
    by false false false false false load is = refl
