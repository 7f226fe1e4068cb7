-- Command lines: which lists of words are a command, and which command each is.
use Rattle.std.specs.Prelude.{◌≤◌, ℕ, ◌+◌, ◌-◌, ◌*◌, Bool, ◌&&◌, nat_le, List, [], ◌∷◌, length}
use Rattle.std.specs.Prelude.{drop, fold, map, Option, Some, None, codes, if◌then◌else◌, String}
use Rattle.std.specs.Option.{option_map}
use Rattle.std.specs.List.{list_all}
use Rattle.std.specs.Str.{bytes_eq}
use Rattle.std.specs.String.{string_bytes}
use Rattle.std.specs.declared.alloc.Global.{Global}
use Rattle.ck_lexer.specs.Bytes.{is_digit}
use Rattle.ck_base.specs.declared.limits.TheConstants.{MAX_FILES, MAX_NAME_WORD_BYTES, MAX_SAMPLES}
use Rattle.command_inputs.specs.declared.commands.Command.{Command}
use Rattle.command_inputs.specs.declared.commands.Command.TheVariants.{Check, Wakes, Render, Stats, Code, Load}

-- a word or a name is its bytes
abbrev pub words_of : List (String Global) → List (List ℕ)
words_of = map string_bytes

-- the number that these decimal digits write
abbrev pub decimal_value : List ℕ → ℕ
decimal_value digits = fold (λ value digit. 10 * value + (digit - 48)) 0 digits

-- one to nine decimal digits
abbrev pub is_count : List ℕ → Bool
is_count word = (nat_le 1 (length word) && nat_le (length word) 9) && list_all is_digit word

-- the number of samples that a word asks for: one to nine decimal digits, at most 500,000,000
abbrev pub samples_asked : List ℕ → Option ℕ
samples_asked word =
    if is_count word && nat_le (decimal_value word) MAX_SAMPLES then Some (decimal_value word)
    else None

-- a word that can name a file or a sheet
abbrev pub can_name_file : List ℕ → Bool
can_name_file word = nat_le 1 (length word) && nat_le (length word) MAX_NAME_WORD_BYTES

-- words that can name the files of a command: 1 to 64
abbrev pub are_files : List (List ℕ) → Bool
are_files words =
    (nat_le 1 (length words) && nat_le (length words) MAX_FILES) && list_all can_name_file words

-- check FILE [FILE ...]
abbrev pub check_of : List (List ℕ) → Option Command
check_of files = if are_files files then Some Check else None

-- wakes N FILE [FILE ...]
abbrev pub wakes_of : List (List ℕ) → Option Command
wakes_of (count ∷ files) =
    if are_files files then option_map Wakes (samples_asked count) else None
wakes_of [] = None

-- render N OUT FILE [FILE ...]
abbrev pub render_of : List (List ℕ) → Option Command
render_of (count ∷ sheet ∷ files) =
    if can_name_file sheet && are_files files then option_map Render (samples_asked count)
    else None
render_of words = None

-- stats N FILE [FILE ...]
abbrev pub stats_of : List (List ℕ) → Option Command
stats_of (count ∷ files) =
    if are_files files then option_map Stats (samples_asked count) else None
stats_of [] = None

-- code FILE [FILE ...]
abbrev pub code_of : List (List ℕ) → Option Command
code_of files = if are_files files then Some Code else None

-- load SEED, of one to nine decimal digits
abbrev pub load_of : List (List ℕ) → Option Command
load_of (seed ∷ []) = if is_count seed then Some (Load (decimal_value seed)) else None
load_of words = None

-- the command of a list of words
abbrev pub command_of : List (List ℕ) → Option Command
command_of [] = None
command_of (verb ∷ words) =
    if bytes_eq verb (codes "check") then check_of words
    else (if bytes_eq verb (codes "wakes") then wakes_of words
    else (if bytes_eq verb (codes "render") then render_of words
    else (if bytes_eq verb (codes "stats") then stats_of words
    else (if bytes_eq verb (codes "code") then code_of words
    else (if bytes_eq verb (codes "load") then load_of words else None)))))

-- the words of a command that name its files: those behind the verb, the number of samples, and the
-- name of the sheet, as far as it has them; those of `load` name none
abbrev pub file_words : List (List ℕ) → List (List ℕ)
file_words [] = []
file_words (verb ∷ words) =
    if bytes_eq verb (codes "check") then words
    else (if bytes_eq verb (codes "wakes") then drop 1 words
    else (if bytes_eq verb (codes "render") then drop 2 words
    else (if bytes_eq verb (codes "stats") then drop 1 words
    else (if bytes_eq verb (codes "code") then words else []))))

-- the word of a rendering that names its sheet
abbrev pub sheet_word : List (List ℕ) → List ℕ
sheet_word (verb ∷ count ∷ sheet ∷ files) = sheet
sheet_word words = []

-- a run may have so many samples
abbrev pub TakesSamples : Command → Type 0
TakesSamples Check = Unit {0}
TakesSamples (Wakes samples) = samples ≤ MAX_SAMPLES
TakesSamples (Render samples) = samples ≤ MAX_SAMPLES
TakesSamples (Stats samples) = samples ≤ MAX_SAMPLES
TakesSamples Code = Unit {0}
TakesSamples (Load seed) = Unit {0}

-- it reads the files that its words name
abbrev pub ReadsFiles : Command → Type 0
ReadsFiles (Load seed) = ⊥
ReadsFiles _ = Unit {0}

-- a command may have so many files
abbrev pub TakesFiles : Command → ℕ → Type 0
TakesFiles command count = TakesSamples command × (1 ≤ count) × (count ≤ MAX_FILES)
