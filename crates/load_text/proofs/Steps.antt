-- A text is written line by line, and the words are drawn voice by voice.
use Rattle.std.proofs.Common.{◌≡◌, ℕ, ◌+◌, List, ◌++◌, codes, decimal, refl, append_assoc, add-one}
use Rattle.load_text.specs.declared.voice.Voice.{Voice}
use Rattle.load_text.specs.LoadText.{voice_line, voice_of, after_voice, words_after, voices, spork_line, sporks, load_text}
use Rattle.load_text.proofs.Pieces.{three_written, four_written, nine_written}

-- the pieces of a voice's line
pub voice_written : (t0 t1 t2 t3 t4 t5 : List ℕ) (number : ℕ) (voice : Voice)
    → t1 ≡ t0 ++ codes "fun void voice" ++ decimal number
    → t2 ≡ t1 ++ codes "() { SinOsc s => dac; " ++ decimal voice.frequency
    → t3 ≡ t2 ++ codes " => s.freq; 0.001 => s.gain; Cell @ top; for (0 => int k; k < "
    ++ decimal voice.cells
    → t4 ≡ t3 ++ codes "; k++) { new Cell @=> Cell @ c; k => c.v; top @=> c.next; c @=> top; "
    ++ decimal voice.wait
    → t5 ≡ t4 ++ codes "::samp => now; } }\n"
    → t5 ≡ t0 ++ voice_line number voice
unfolding voice_line
voice_written t0 t1 t2 t3 t4 t5 number voice first second third fourth fifth =
    nine_written t0 t1 t2 t3 t4 t5 _ _ _ _ _ _ _ _ _ first second third fourth fifth

-- the words of one voice more
pub words_after-more : (seed n : ℕ)
    → words_after seed (n + 1) ≡ after_voice (words_after seed n)
unfolding words_after
words_after-more seed n = rw add-one refl

-- the line of one voice more
voices-more : (seed n : ℕ)
    → voices seed (n + 1) ≡ voices seed n ++ voice_line n (voice_of (words_after seed n))
unfolding voices
voices-more seed n = rw add-one refl

pub voice_more : (t0 t1 t2 : List ℕ) (seed n : ℕ) (voice : Voice)
    → t1 ≡ t0 ++ voices seed n → voice ≡ voice_of (words_after seed n)
    → t2 ≡ t1 ++ voice_line n voice → t2 ≡ t0 ++ voices seed (n + 1)
voice_more t0 t1 t2 seed n voice before drawn added =
    let more = voices-more seed n in
    let line : List ℕ = voice_line n (voice_of (words_after seed n)) in
    let all : t0 ++ voices seed n ++ line ≡ t0 ++ (voices seed n ++ line) =
    append_assoc t0 (voices seed n) line in cc

-- the line of one spork more
sporks-more : (n : ℕ) → sporks (n + 1) ≡ sporks n ++ spork_line n
unfolding sporks
sporks-more n = rw add-one refl

pub spork_more : (t0 t1 t2 t3 : List ℕ) (n : ℕ)
    → t1 ≡ t0 ++ sporks n → t2 ≡ t1 ++ codes "spork ~ voice" ++ decimal n
    → t3 ≡ t2 ++ codes "();\n" → t3 ≡ t0 ++ sporks (n + 1)
unfolding spork_line
spork_more t0 t1 t2 t3 n before first second =
    let line : t3 ≡ t1 ++ spork_line n = three_written t1 t2 t3 _ _ _ first second in
    let more = sporks-more n in
    let all = append_assoc t0 (sporks n) (spork_line n) in cc

-- the parts of a text
pub text_written : (t0 t1 t2 t3 t4 : List ℕ) (seed : ℕ)
    → t1 ≡ t0 ++ codes "class Cell { int v; Cell @ next; }\n" → t2 ≡ t1 ++ voices seed 200
    → t3 ≡ t2 ++ sporks 200 → t4 ≡ t3 ++ codes "1::second => now;\n"
    → t4 ≡ t0 ++ load_text seed
unfolding load_text
text_written t0 t1 t2 t3 t4 seed first second third fourth =
    four_written t0 t1 t2 t3 t4 _ _ _ _ first second third fourth
