-- A large program that a number gives: 200 voices, each a shred that makes objects and waits.
use Rattle.std.specs.Prelude.{ℕ, zero, suc, ◌+◌, ◌%◌, List, [], ◌++◌, codes, decimal}
use Rattle.rand_pcg.specs.Lcg.{Lcg}
use Rattle.rand_pcg.specs.Pcg.{pcg32}
use Rattle.ugen_kinds.specs.Words.{words_from}
use Rattle.load_text.specs.declared.voice.Voice.{Voice}

-- the generator after the three words of a voice
abbrev pub after_voice : Lcg → Lcg
after_voice words = (pcg32 (pcg32 (pcg32 words).1).1).1

-- what the next three words choose: a frequency in hertz, how many cells, and the wait after each
abbrev pub voice_of : Lcg → Voice
voice_of words =
    let second = (pcg32 words).1 in
    let third = (pcg32 second).1 in
    record {
      frequency = 100 + (pcg32 words).0 % 1000;
      cells = 50 + (pcg32 second).0 % 100;
      wait = 1 + (pcg32 third).0 % 200;
    }

-- the line of a voice by its number: a tone sounds while a list grows, cell by cell
unfoldable pub voice_line : ℕ → Voice → List ℕ
voice_line number voice =
    codes "fun void voice" ++ decimal number ++ codes "() { SinOsc s => dac; "
    ++ decimal voice.frequency
    ++ codes " => s.freq; 0.001 => s.gain; Cell @ top; for (0 => int k; k < "
    ++ decimal voice.cells
    ++ codes "; k++) { new Cell @=> Cell @ c; k => c.v; top @=> c.next; c @=> top; "
    ++ decimal voice.wait ++ codes "::samp => now; } }\n"

-- the generator that a number starts, after so many voices
unfoldable pub words_after : ℕ → ℕ → Lcg
words_after seed zero = words_from seed
words_after seed (suc n) = after_voice (words_after seed n)

-- the lines of the first n voices, numbered from 0
unfoldable pub voices : ℕ → ℕ → List ℕ
voices seed zero = []
voices seed (suc n) = voices seed n ++ voice_line n (voice_of (words_after seed n))

-- the line that sporks a voice
unfoldable pub spork_line : ℕ → List ℕ
spork_line number = codes "spork ~ voice" ++ decimal number ++ codes "();\n"

-- the lines that spork the first n voices
unfoldable pub sporks : ℕ → List ℕ
sporks zero = []
sporks (suc n) = sporks n ++ spork_line n

-- the whole text: the class of the cells, the voices, their sporks, and a second of waiting
unfoldable pub load_text : ℕ → List ℕ
load_text seed =
    codes "class Cell { int v; Cell @ next; }\n" ++ voices seed 200 ++ sporks 200
    ++ codes "1::second => now;\n"
