-- How long a text is at most.
use Rattle.std.proofs.Common.{ℕ, zero, suc, ◌+◌, ◌*◌, ◌^◌, ◌<◌, ◌≤◌, List, ◌++◌, length, decimal, codes, arith, length-append, lit≤, le_trans}
use Rattle.std.proofs.lemmas.Fmt.{length-decimal-le}
use Rattle.ck_base.specs.declared.limits.TheConstants.{MAX_FILE_BYTES}
use Rattle.rand_pcg.specs.Lcg.{Lcg}
use Rattle.load_text.specs.declared.voice.Voice.{Voice}
use Rattle.load_text.specs.LoadText.{voices, words_after, voice_line, voice_of, sporks, spork_line, load_text}

-- a number below ten thousand million has ten digits at most
ten_digits : (n : ℕ) → n < 10 ^ 10 → length (decimal n) ≤ 10
ten_digits n small = length-decimal-le 10 n (omega arith) small (omega arith)

-- five pieces with four numbers between them
joined_short : (a n b f c k d w e : List ℕ)
    → length n ≤ 10 → length f ≤ 10 → length k ≤ 10 → length w ≤ 10
    → length (a ++ n ++ b ++ f ++ c ++ k ++ d ++ w ++ e)
    ≤ length a + length b + length c + length d + length e + 40
joined_short a n b f c k d w e number frequency cells wait = simp length-append (omega arith)

voice_line-short : (number : ℕ) (voice : Voice) → number < 10 ^ 10
    → voice.frequency < 10 ^ 10 → voice.cells < 10 ^ 10 → voice.wait < 10 ^ 10
    → length (voice_line number voice) ≤ 400
unfolding voice_line
voice_line-short number voice small frequency cells wait = le_trans
    (joined_short (codes "fun void voice") (decimal number) (codes "() { SinOsc s => dac; ")
    (decimal voice.frequency)
    (codes " => s.freq; 0.001 => s.gain; Cell @ top; for (0 => int k; k < ")
    (decimal voice.cells)
    (codes "; k++) { new Cell @=> Cell @ c; k => c.v; top @=> c.next; c @=> top; ")
    (decimal voice.wait) (codes "::samp => now; } }\n")
    (ten_digits number small) (ten_digits voice.frequency frequency)
    (ten_digits voice.cells cells) (ten_digits voice.wait wait))
    (lit≤ tt)

-- the line of a voice, whatever its words
drawn_short : (number : ℕ) (words : Lcg) → number < 10 ^ 10
    → length (voice_line number (voice_of words)) ≤ 400
drawn_short number words small =
    voice_line-short number (voice_of words) small (omega arith) (omega arith) (omega arith)

voices-short : (seed n : ℕ) → n ≤ 200 → length (voices seed n) ≤ 400 * n
unfolding voices
voices-short seed zero few = lit≤ tt
voices-short seed (suc n) few =
    let before : length (voices seed n) ≤ 400 * n = voices-short seed n (omega arith) in
    let more : length (voice_line n (voice_of (words_after seed n))) ≤ 400 =
    drawn_short n (words_after seed n) (omega arith) in
    simp length-append (omega arith)

spork_line-short : (number : ℕ) → number < 10 ^ 10 → length (spork_line number) ≤ 30
unfolding spork_line
spork_line-short number small =
    let digits : length (decimal number) ≤ 10 = ten_digits number small in
    simp length-append (omega arith)

sporks-short : (n : ℕ) → n ≤ 200 → length (sporks n) ≤ 30 * n
unfolding sporks
sporks-short zero few = lit≤ tt
sporks-short (suc n) few =
    let before : length (sporks n) ≤ 30 * n = sporks-short n (omega arith) in
    let more : length (spork_line n) ≤ 30 = spork_line-short n (omega arith) in
    simp length-append (omega arith)

-- four texts one behind the other
whole_short : (a b c d : List ℕ) → length a ≤ 100 → length b ≤ 80000 → length c ≤ 6000
    → length d ≤ 100 → length (a ++ b ++ c ++ d) ≤ 1048576
whole_short a b c d first second third fourth = simp length-append (omega arith)

-- the whole text is short enough for a file
pub text_is_short : (seed : ℕ) → length (load_text seed) ≤ MAX_FILE_BYTES
unfolding load_text
text_is_short seed = whole_short
    (codes "class Cell { int v; Cell @ next; }\n") (voices seed 200) (sporks 200)
    (codes "1::second => now;\n")
    (lit≤ tt) (voices-short seed 200 (lit≤ tt)) (sporks-short 200 (lit≤ tt)) (lit≤ tt)
