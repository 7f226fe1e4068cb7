-- Readings of a file: how they go on, and that there is one.
use Rattle.std.proofs.Common.{◌≡◌, ◌≢◌, ℕ, ℤ, ◌+◌, ◌<◌, ◌≤◌, ◌%◌, List, [], ◌∷◌, ◌++◌, length, take, drop, Option, Some, None, refl, sym, ap, subst, ◌∙◌, append_assoc, arith, get_or, length-drop, ◌-◌, min, inl, inr}
use Rattle.std.proofs.lemmas.Bool.{cases_lt}
use Rattle.std.specs.Prelude.{MatchOption, codes}
use Rattle.std.specs.List.{AllByRecursion}
use Rattle.std.proofs.lemmas.List.{drop_at, length-append, take_all}
use Rattle.sample_buf.specs.declared.format.Format.{Format}
use Rattle.sample_buf.specs.declared.waves.Wave.{Wave}
use Rattle.sample_buf.specs.Chunks.{Chunk, IsRiff, HasHead, HasChunk, HasChunks}
use Rattle.sample_buf.specs.Formats.{format_name, SaysFormat, SaysNone, HaveNoFormat, LastSays}
use Rattle.sample_buf.specs.Frames.{frames_of}
use Rattle.sample_buf.specs.Waves.{data_name, IsBefore, Opens, HasSamples, IsWave, Stops, no_head, past_the_end, no_format, unknown, IsFault, no_riff, stops}
use Rattle.sample_buf.proofs.Fields.{fields}
use Rattle.sample_buf.proofs.Heads.{chunk, head_parts, same_head, same_chunk, chunk_found}

-- ---- lists

all_more : {X : Type 0} (P : X → Type 0) (xs : List X) (x : X) → AllByRecursion P xs → P x → AllByRecursion P (xs ++ x ∷ [])
all_more P [] x h p = (p, tt)
all_more P (y ∷ ys) x h p = (h.0, all_more P ys x h.1 p)

among : {X : Type 0} (P : X → Type 0) (xs ys : List X) (x : X) → AllByRecursion P (xs ++ x ∷ ys) → P x
among P [] ys x h = h.0
among P (y ∷ xs) ys x h = among P xs ys x h.1

pub other_names : format_name ≡ data_name → ⊥
other_names e = absurd (omega (arith, ap (λ (t : List ℕ). get_or t 0 0) e))

-- ---- how a reading goes on

-- so far the rest is reached, and this format is known
pub record ReadTo (file rest : List ℕ) (format : Option Format) : Type 0 where
  pub chunks : List Chunk
  pub opens : Opens file chunks rest
  pub known : MatchOption format (HaveNoFormat chunks) (LastSays chunks)
  pub within : length rest ≤ length file

pub riff_length : (file all : List ℕ) → IsRiff file all → length file ≡ 12 + length all
riff_length file all r = ap length r.stands ∙ omega (arith, r.four, length-append r.size (codes "WAVE" ++ all))

pub at_first : (file all : List ℕ) → IsRiff file all → ReadTo file all None
at_first file all r = record {
  chunks = [];
  opens = record { all = all; riff = r; stand = refl; before = tt };
  known = tt;
  within = omega (arith, riff_length file all r);
}

chunks_more : (cs : List Chunk) (bytes rest others : List ℕ) (c : Chunk) → HasChunks bytes cs rest → HasChunk rest c others → HasChunks bytes (cs ++ c ∷ []) others
chunks_more [] bytes rest others c e h = (others, subst (λ (t : List ℕ). HasChunk t c others) e h, refl)
chunks_more (d ∷ ds) bytes rest others c s h = (s.0, s.1, chunks_more ds s.0 rest others c s.2 h)

pub chunk_length : (bytes others : List ℕ) (c : Chunk) → HasChunk bytes c others → 8 + length others ≤ length bytes
chunk_length bytes others c h =
    let p = head_parts bytes c.name (length c.body) (c.body ++ h.behind) h.head in
    omega (arith, p.long, length-append c.body h.behind, ap length h.padded, length-drop (length c.body % 2) h.behind)

opens_more : (file rest others : List ℕ) (cs : List Chunk) (c : Chunk) → Opens file cs rest → HasChunk rest c others → IsBefore c → Opens file (cs ++ c ∷ []) others
opens_more file rest others cs c o h b = record {
  all = o.all;
  riff = o.riff;
  stand = chunks_more cs o.all rest others c o.stand h;
  before = all_more IsBefore cs c o.before b;
}

known_on : (cs : List Chunk) (c : Chunk) (format : Option Format) → c.name ≢ format_name → MatchOption format (HaveNoFormat cs) (LastSays cs)
    → MatchOption format (HaveNoFormat (cs ++ c ∷ [])) (LastSays (cs ++ c ∷ []))
known_on cs c None other known = all_more (λ d. d.name ≢ format_name) cs c known other
known_on cs c (Some f) other known = record {
  before = known.before;
  body = known.body;
  behind = known.behind ++ c ∷ [];
  stand = ap (λ (t : List Chunk). t ++ c ∷ []) known.stand ∙ append_assoc known.before (record { name = format_name; body = known.body } ∷ known.behind) (c ∷ []);
  says = known.says;
  last = all_more (λ d. d.name ≢ format_name) known.behind c known.last other;
}

-- past a chunk of another name
pub past_other : (file rest others : List ℕ) (format : Option Format) (c : Chunk) → ReadTo file rest format → HasChunk rest c others → c.name ≢ data_name → c.name ≢ format_name → ReadTo file others format
past_other file rest others format c r h no_data other_name = record {
  chunks = r.chunks ++ c ∷ [];
  opens = opens_more file rest others r.chunks c r.opens h (record { no_samples = no_data; format = λ e. absurd (other_name e) });
  known = known_on r.chunks c format other_name r.known;
  within = omega (arith, r.within, chunk_length rest others c h);
}

-- past a chunk that says the format
pub past_format : (file rest others body : List ℕ) (format : Option Format) (f : Format) → ReadTo file rest format → HasChunk rest (record { name = format_name; body = body }) others → SaysFormat body f
    → ReadTo file others (Some f)
past_format file rest others body format f r h says = record {
  chunks = r.chunks ++ record { name = format_name; body = body } ∷ [];
  opens = opens_more file rest others r.chunks (record { name = format_name; body = body }) r.opens h (record { no_samples = other_names; format = λ e. (f, says) });
  known = record { before = r.chunks; body = body; behind = []; stand = refl; says = says; last = tt };
  within = omega (arith, r.within, chunk_length rest others (record { name = format_name; body = body }) h);
}

-- ---- there is one

one_riff : (file all other : List ℕ) → IsRiff file all → IsRiff file other → all ≡ other
one_riff file all other r q = sym (behind file all r) ∙ behind file other q
  where
    behind : (file all : List ℕ) → IsRiff file all → drop 4 (drop 4 (drop 4 file)) ≡ all
    behind file all r = ap (λ (t : List ℕ). drop 4 (drop 4 (drop 4 t))) r.stands ∙ ap (drop 4) (drop_at r.size (codes "WAVE" ++ all) 4 r.four)

-- no chunk that may stand before the samples is next
abbrev Stuck : List ℕ → Type 0
Stuck rest = (c : Chunk) (others : List ℕ) → HasChunk rest c others → IsBefore c → ⊥

one_list : (cs ds : List Chunk) (bytes rest other : List ℕ) → HasChunks bytes cs rest → HasChunks bytes ds other → AllByRecursion IsBefore cs → AllByRecursion IsBefore ds → Stuck rest → Stuck other
    → (cs ≡ ds) × (rest ≡ other)
one_list [] [] bytes rest other h g a b s t = (refl, h ∙ sym g)
one_list [] (d ∷ ds) bytes rest other h g a b s t = absurd (s d g.0 (subst (λ (u : List ℕ). HasChunk u d g.0) (sym h) g.1) b.0)
one_list (c ∷ cs) [] bytes rest other h g a b s t = absurd (t c h.0 (subst (λ (u : List ℕ). HasChunk u c h.0) (sym g) h.1) a.0)
one_list (c ∷ cs) (d ∷ ds) bytes rest other h g a b s t =
    let same = same_chunk bytes c d h.0 g.0 h.1 g.1 in
    let more = one_list cs ds h.0 rest other h.2 (subst (λ (u : List ℕ). HasChunks u ds other) (sym same.1) g.2) a.1 b.1 s t in
    let first : c ≡ d = same.0 in
    let then : cs ≡ ds = more.0 in
    (cc, more.1)

one_opening : (file rest other : List ℕ) (cs ds : List Chunk) → Opens file cs rest → Opens file ds other → Stuck rest → Stuck other → (cs ≡ ds) × (rest ≡ other)
one_opening file rest other cs ds o p s t =
    one_list cs ds o.all rest other o.stand (subst (λ (u : List ℕ). HasChunks u ds other) (sym (one_riff file o.all p.all o.riff p.riff)) p.stand) o.before p.before s t

data_stuck : (rest behind : List ℕ) (size : ℕ) → HasHead rest data_name size behind → Stuck rest
data_stuck rest behind size h c others g b =
    let same = same_head rest c.name data_name (length c.body) size (c.body ++ g.behind) behind g.head h in b.no_samples same.one_name

stops_stuck : (cs : List Chunk) (rest : List ℕ) → Stops cs rest → Stuck rest
stops_stuck cs rest (no_head short) c others g b = let l = chunk_length rest others c g in absurd (omega (arith, short, l))
stops_stuck cs rest (past_the_end {name} {behind} {size} h other past) c others g b =
    let same = same_head rest c.name name (length c.body) size (c.body ++ g.behind) behind g.head h in
    absurd (omega (arith, same.one_size, ap length same.one_rest, length-append c.body g.behind, past))
stops_stuck cs rest (no_format {body} {others = behind} h none) c others g b =
    let same : c ≡ record { name = format_name; body = body } = (same_chunk rest c (record { name = format_name; body = body }) others behind g h).0 in
    let named : c.name ≡ format_name = ap (λ (d : Chunk). d.name) same in
    let said = b.format named in
    none said.0 (subst (λ (d : Chunk). SaysFormat d.body said.0) same said.1)
stops_stuck cs rest (unknown {size} {behind} h nothing) c others g b = data_stuck rest behind size h c others g b

-- the last format is one
one_last : (p q x y : List Chunk) (c d : Chunk) → p ++ c ∷ x ≡ q ++ d ∷ y → c.name ≡ format_name → d.name ≡ format_name → HaveNoFormat x → HaveNoFormat y → c ≡ d
one_last [] [] x y c d e n m a b = cc
one_last [] (z ∷ q) x y c d e n m a b =
    let tail : x ≡ q ++ d ∷ y = cc in absurd (among (λ z. z.name ≢ format_name) q y d (subst HaveNoFormat tail a) m)
one_last (z ∷ p) [] x y c d e n m a b =
    let tail : y ≡ p ++ c ∷ x = cc in absurd (among (λ z. z.name ≢ format_name) p x c (subst HaveNoFormat tail b) n)
one_last (z ∷ p) (w ∷ q) x y c d e n m a b =
    let tail : p ++ c ∷ x ≡ q ++ d ∷ y = cc in one_last p q x y c d tail n m a b

abbrev format : ℕ → ℕ → Format
format channels rate = record { channels = channels; rate = rate }

abbrev wave : ℕ → List ℤ → Wave
wave rate frames = record { rate = rate; frames = frames }

one_format : (body : List ℕ) (f g : Format) → SaysFormat body f → SaysFormat body g → f ≡ g
one_format body f g s t =
    let a = fields body f s in
    let b = fields body g t in
    ap (λ (n : ℕ). format n f.rate) (a.channels ∙ sym b.channels) ∙ ap (format g.channels) (a.rate ∙ sym b.rate)

last_format : (cs : List Chunk) (f g : Format) → LastSays cs f → LastSays cs g → f ≡ g
last_format cs f g s t =
    let same = one_last s.before t.before s.behind t.behind (record { name = format_name; body = s.body }) (record { name = format_name; body = t.body }) (sym s.stand ∙ t.stand) refl refl s.last t.last in
    let body : s.body ≡ t.body = ap (λ (d : Chunk). d.body) same in
    one_format t.body f g (subst (λ (u : List ℕ). SaysFormat u f) body s.says) t.says

pub one_samples : (file bytes more : List ℕ) (f g : Format) → HasSamples file f bytes → HasSamples file g more → (f ≡ g) × (bytes ≡ more)
one_samples file bytes more f g h k =
    let same = one_opening file h.rest k.rest h.chunks k.chunks h.opens k.opens (data_stuck h.rest h.behind h.size h.head) (data_stuck k.rest k.behind k.size k.head) in
    let head = same_head h.rest data_name data_name h.size k.size h.behind k.behind h.head (subst (λ (u : List ℕ). HasHead u data_name k.size k.behind) (sym same.1) k.head) in (
      last_format h.chunks f g h.says (subst (λ (u : List Chunk). LastSays u g) (sym same.0) k.says),
      h.samples ∙ ap (λ (n : ℕ). take n h.behind) head.one_size ∙ ap (take k.size) head.one_rest ∙ sym k.samples,
    )

pub one_wave : (file : List ℕ) (v w : Wave) → IsWave file v → IsWave file w → v ≡ w
one_wave file v w h k =
    let same = one_samples file h.bytes k.bytes h.format k.format h.samples k.samples in
    let format : h.format ≡ k.format = same.0 in
    let bytes : h.bytes ≡ k.bytes = same.1 in
    let rate : v.rate ≡ w.rate = h.rate ∙ ap (λ (f : Format). f.rate) format ∙ sym k.rate in
    let frames : v.frames ≡ w.frames = h.frames ∙ ap (λ (f : Format). frames_of f.channels h.bytes) format ∙ ap (frames_of k.format.channels) bytes ∙ sym k.frames in
    ap (λ (n : ℕ). wave n v.frames) rate ∙ ap (wave w.rate) frames

-- a file that has samples has no fault
none_stops : (cs : List Chunk) (rest behind : List ℕ) (size : ℕ) (f : Format) → HasHead rest data_name size behind → LastSays cs f → Stops cs rest → ⊥
none_stops cs rest behind size f h says (no_head short) = let p = head_parts rest data_name size behind h in absurd (omega (arith, p.long, short))
none_stops cs rest behind size f h says (past_the_end {name} {behind = after} {size = long} g other past) = other (same_head rest name data_name long size after behind g h).one_name
none_stops cs rest behind size f h says (no_format {body} {others} g none) =
    other_names (same_head rest format_name data_name (length body) size (body ++ g.behind) behind g.head h).one_name
none_stops cs rest behind size f h says (unknown g nothing) =
    among (λ z. z.name ≢ format_name) says.before says.behind (record { name = format_name; body = says.body }) (subst HaveNoFormat says.stand nothing) refl

pub samples_or_fault : (file bytes : List ℕ) (f : Format) (at : ℕ) → HasSamples file f bytes → IsFault file at → ⊥
samples_or_fault file bytes f at h (no_riff none e) = none h.opens.all h.opens.riff
samples_or_fault file bytes f at h (stops {chunks = cs} {rest} o s e) =
    let same = one_opening file h.rest rest h.chunks cs h.opens o (data_stuck h.rest h.behind h.size h.head) (stops_stuck cs rest s) in
    none_stops cs rest h.behind h.size f (subst (λ (u : List ℕ). HasHead u data_name h.size h.behind) same.1 h.head) (subst (λ (u : List Chunk). LastSays u f) same.0 h.says) s

pub one_fault : (file : List ℕ) (at place : ℕ) → IsFault file at → IsFault file place → at ≡ place
one_fault file at place (no_riff none e) (no_riff other d) = e ∙ sym d
one_fault file at place (no_riff none e) (stops o s d) = absurd (none o.all o.riff)
one_fault file at place (stops o s d) (no_riff none e) = absurd (none o.all o.riff)
one_fault file at place (stops {chunks = cs} {rest} o s d) (stops {chunks = ds} {rest = other} p t e) =
    let same = one_opening file rest other cs ds o p (stops_stuck cs rest s) (stops_stuck ds other t) in
    omega (arith, d, e, ap length same.1)

-- ---- where a reading ends

pub stopped : (file rest : List ℕ) (format : Option Format) (r : ReadTo file rest format) → Stops r.chunks rest → IsFault file (length file - length rest)
stopped file rest format r s = stops r.opens s (omega (arith, r.within))

pub ends : (file rest : List ℕ) (format : Option Format) → ReadTo file rest format → length rest < 8 → IsFault file (length file - length rest)
ends file rest format r short = stopped file rest format r (no_head short)

pub nothing_said : (file rest name behind : List ℕ) (size : ℕ) (format : Option Format) → ReadTo file rest format → HasHead rest name size behind → name ≡ data_name → format ≡ None
    → IsFault file (length file - length rest)
nothing_said file rest name behind size format r h e none =
    stopped file rest format r (unknown (subst (λ (t : List ℕ). HasHead rest t size behind) e h) (subst (λ (o : Option Format). MatchOption o (HaveNoFormat r.chunks) (LastSays r.chunks)) none r.known))

pub runs_past : (file rest name behind : List ℕ) (size : ℕ) (format : Option Format) → ReadTo file rest format → HasHead rest name size behind → name ≢ data_name → length behind < size
    → IsFault file (length file - length rest)
runs_past file rest name behind size format r h other past = stopped file rest format r (past_the_end h other past)

pub says_none : (file rest name behind body after : List ℕ) (size : ℕ) (format : Option Format) → ReadTo file rest format → HasHead rest name size behind → name ≡ format_name → size ≤ length behind → body ≡ take size behind
    → after ≡ drop size behind → SaysNone body → IsFault file (length file - length rest)
says_none file rest name behind body after size format r h e enough b a none =
    let whole = chunk_found rest name behind body after (drop (size % 2) after) size h enough b a refl in
    stopped file rest format r (no_format (subst (λ (t : List ℕ). HasChunk rest (chunk t body) (drop (size % 2) after)) e whole) none)

take_least : (n k : ℕ) (xs : List ℕ) → k ≡ min (length xs) n → take k xs ≡ take n xs
take_least n k xs e =
    elim (cases_lt n (length xs)) [
      | inl lt ↦ let same : k ≡ n = omega (arith, e, lt) in ap (λ (i : ℕ). take i xs) same
      | inr le ↦ take_all k xs (omega (arith, e, le)) ∙ sym (take_all n xs (omega (arith, le)))
    ]

pub samples_found : (file rest name behind bytes : List ℕ) (size least : ℕ) (format : Option Format) (f : Format) → ReadTo file rest format → HasHead rest name size behind → name ≡ data_name → format ≡ Some f
    → least ≡ min (length behind) size → bytes ≡ take least behind → HasSamples file f bytes
samples_found file rest name behind bytes size least format f r h e some l b = record {
  chunks = r.chunks;
  rest = rest;
  opens = r.opens;
  says = subst (λ (o : Option Format). MatchOption o (HaveNoFormat r.chunks) (LastSays r.chunks)) some r.known;
  size = size;
  behind = behind;
  head = subst (λ (t : List ℕ). HasHead rest t size behind) e h;
  samples = b ∙ take_least size least behind l;
}

pub goes_on_other : (file rest name behind body after others : List ℕ) (size : ℕ) (format next : Option Format) → ReadTo file rest format → HasHead rest name size behind → name ≢ data_name → name ≢ format_name
    → size ≤ length behind → body ≡ take size behind → after ≡ drop size behind → others ≡ drop (size % 2) after → next ≡ format → ReadTo file others next
goes_on_other file rest name behind body after others size format next r h no_data other_name enough b a o same =
    subst (λ (n : Option Format). ReadTo file others n) (sym same) (past_other file rest others format (chunk name body) r (chunk_found rest name behind body after others size h enough b a o) no_data other_name)

pub goes_on_format : (file rest name behind body after others : List ℕ) (size : ℕ) (format next : Option Format) (f : Format) → ReadTo file rest format → HasHead rest name size behind → name ≡ format_name → SaysFormat body f
    → size ≤ length behind → body ≡ take size behind → after ≡ drop size behind → others ≡ drop (size % 2) after → next ≡ Some f → ReadTo file others next
goes_on_format file rest name behind body after others size format next f r h e says enough b a o some =
    subst (λ (n : Option Format). ReadTo file others n) (sym some)
    (past_format file rest others body format f r (subst (λ (t : List ℕ). HasChunk rest (chunk t body) others) e (chunk_found rest name behind body after others size h enough b a o)) says)
