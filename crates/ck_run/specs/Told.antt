-- What a run has told: samples, text, slices, and how many instructions these began.
use Rattle.std.specs.Prelude.{◌≡◌, ℕ, ◌+◌, List, [], ◌++◌}
use Rattle.ugen_kinds.specs.declared.output.Output.{Output}
use Rattle.ck_run.specs.Run.{Run, Piece, Wake, Block, block_between}

module _ {P : Type 0} where
  -- the run with nothing told yet: its store, its shreds, and what they wait for
  abbrev pub silent : Run P → Run P
  silent run = record run { samples = []; text = []; wakes = []; begun = 0 }

  -- the run that had told these before
  abbrev pub told : List Output → List Piece → List Wake → (begun : ℕ) → Run P → Run P
  told samples text wakes begun run = record run {
    samples = samples ++ run.samples;
    text = text ++ run.text;
    wakes = wakes ++ run.wakes;
    begun = begun + run.begun;
  }

  -- a run has told what an earlier one has, and then the block between them
  pub record GoesOn (before after : Run P) : Type 0 where
    pub samples : after.samples ≡ before.samples ++ (block_between before after).samples
    pub text : after.text ≡ before.text ++ (block_between before after).text
    pub wakes : after.wakes ≡ before.wakes ++ (block_between before after).wakes

-- some front of these items was added
abbrev pub AddsFront : {A : Type 0} → List A → (old new : List A) → Type 0
AddsFront {A} items old new = (front rest : List A) × (items ≡ front ++ rest) × (new ≡ old ++ front)

-- a block, and the one that comes next
abbrev pub joined : Block → Block → Block
joined block next = record {
  samples = block.samples ++ next.samples;
  text = block.text ++ next.text;
  wakes = block.wakes ++ next.wakes;
}
