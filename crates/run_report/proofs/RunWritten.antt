-- How the steps of a run are carried out, block by block.
use Rattle.std.proofs.Common.{◌≡◌, ℕ, suc, ◌+◌, ◌-◌, ◌<◌, ◌≤◌, ℤ, Bool, true, false, List, [], ◌∷◌, ◌++◌, map, refl, sym, ◌∙◌, ap, subst, arith, ◌||◌, if◌then◌else◌}
use Rattle.std.proofs.lemmas.Bool.{lt-ltb}
use Rattle.std.proofs.lemmas.List.Sums.{sum_by-append}
use Rattle.std.proofs.Math.Nat.{sub-zero}
use Rattle.std.specs.List.{range_with_len}
use Rattle.std.specs.Int.{div_ceil}
use Rattle.std.specs.List.{list_any}
use Rattle.std.specs.Prelude.{flat_map, is_some, count_by, cond, nat_lt, length, pred, Some}
use Rattle.ugen_kinds.specs.declared.output.Output.{Output}
use Rattle.ck_code.specs.declared.code.CodeParts.{CodeParts}
use Rattle.ck_run.specs.Run.{Run, Block, Piece, Wake, since, block_between}
use Rattle.ck_store.specs.Store.{Store}
use Rattle.ck_meaning.specs.Replay.{run_code}
use Rattle.chuck_vm.specs.Tallies.{tally_of, as_counted, trap_count}
use Rattle.chuck_vm.specs.Vm.{Sight, block_of}
use Rattle.chuck_vm.specs.declared.tally.Tally.{Tally}
use Rattle.run_report.specs.declared.block.Block.{Block as Made}
use Rattle.run_report.specs.declared.cut.Cut.{Cut}
use Rattle.run_report.specs.declared.report.Report.{Report}
use Rattle.run_report.specs.declared.report.Report.TheVariants.{Wakes, Text, Numbers}
use Rattle.run_report.specs.declared.status.Status.{Status}
use Rattle.run_report.specs.declared.status.Status.TheVariants.{Done, Trapped}
use Rattle.run_report.specs.Step.{Step, Write}
use Rattle.run_report.specs.Answer.{WholeAnswer, lines_steps, block_steps, blocks_answer, on_sheet, numbers_answer, run_answer}
use Rattle.run_report.specs.Ends.{Moment, HasDone, IsCut}
use Rattle.run_report.specs.Blocks.{block_count, block_start, block_at, blocks_of, block_report, run_status, some_trapped, tally_status, tally_lines, IsReported}
use Rattle.run_report.proofs.Steps.{Remains, remains_all, remains_none, remains_then, remains_cut}

since_same : {A : Type 0} (xs ys us vs : List A) → xs ≡ us → ys ≡ vs → since xs ys ≡ since us vs
since_same xs ys us vs same also = ap (λ l. since l ys) same ∙ ap (since us) also

map_same : {A B : Type 0} (f g : A → B) → ((x : A) → f x ≡ g x) → (xs : List A) → map f xs ≡ map g xs
map_same f g same [] = refl
map_same f g same (x ∷ xs) =
    ap (λ y. y ∷ map f xs) (same x) ∙ ap (λ ys. g x ∷ ys) (map_same f g same xs)

-- two runs have the same samples, the same text and the same slices up to a sample, and the same
-- store there
pub record AreSame {P Q : Type 0} (samples : ℕ) (one : ℕ → Run P) (other : ℕ → Run Q) : Type 0 where
  pub same_samples : (n : ℕ) → n ≤ samples → (one n).samples ≡ (other n).samples
  pub same_text : (n : ℕ) → n ≤ samples → (one n).text ≡ (other n).text
  pub same_wakes : (n : ℕ) → n ≤ samples → (one n).wakes ≡ (other n).wakes
  pub same_store : (one samples).store ≡ (other samples).store

-- then they have the same blocks, and the same answer
module _ {P Q : Type 0} (names : List (List ℕ)) (samples : ℕ) (one : ℕ → Run P) (other : ℕ → Run Q)
    (same : AreSame samples one other) where
  same_block : (block : ℕ) → block_at one samples block ≡ block_at other samples block
  same_block block =
      let start = block_start samples block in
      let end = block_start samples (block + 1) in
      let le : start ≤ samples = omega arith in
      let le2 : end ≤ samples = omega arith in
      let of : List Output → List Piece → List Wake → Block =
      λ samples text wakes. record { samples = samples; text = text; wakes = wakes } in
      let text = since (one start).text (one end).text in
      let wakes = since (one start).wakes (one end).wakes in
      ap (λ l. of l text wakes)
      (since_same _ _ _ _ (same.same_samples start le) (same.same_samples end le2))
      ∙ ap (λ l. of (since (other start).samples (other end).samples) l wakes)
      (since_same _ _ _ _ (same.same_text start le) (same.same_text end le2))
      ∙ ap (of (since (other start).samples (other end).samples)
      (since (other start).text (other end).text))
      (since_same _ _ _ _ (same.same_wakes start le) (same.same_wakes end le2))

  abbrev numbers_by : List Output → List Wake → Store → (begun : ℕ) → Tally
  numbers_by made wakes store begun = record {
    samples = as_counted (length made);
    wakes = as_counted (length wakes);
    traps = as_counted (trap_count wakes);
    shreds = as_counted (pred store.next_shred);
    made = as_counted (length store.objects);
    instructions = as_counted begun;
  }

  same_numbers : (begun : ℕ) → tally_of (one samples) begun ≡ tally_of (other samples) begun
  same_numbers begun =
      ap (λ made. numbers_by made (one samples).wakes (one samples).store begun)
      (same.same_samples samples (omega arith))
      ∙ ap (λ wakes. numbers_by (other samples).samples wakes (one samples).store begun)
      (same.same_wakes samples (omega arith))
      ∙ ap (λ store. numbers_by (other samples).samples (other samples).wakes store begun)
      same.same_store

  same_blocks : (report : Report) (begun : ℕ)
      → blocks_answer report samples names one begun ≡ blocks_answer report samples names other begun
  same_blocks report begun =
      ap {B = WholeAnswer} (λ wakes. record {
        status = run_status wakes;
        steps = flat_map (block_steps report names) (blocks_of one samples);
        tally = Some (tally_of (one samples) begun);
      }) (same.same_wakes samples (omega arith))
      ∙ ap {B = WholeAnswer} (λ blocks. record {
        status = run_status (other samples).wakes;
        steps = flat_map (block_steps report names) blocks;
        tally = Some (tally_of (one samples) begun);
      }) (map_same (block_at one samples) (block_at other samples) same_block
      (range_with_len 0 (block_count samples)))
      ∙ ap {B = WholeAnswer} (λ numbers. record {
        status = run_status (other samples).wakes;
        steps = flat_map (block_steps report names) (blocks_of other samples);
        tally = Some numbers;
      }) (same_numbers begun)

  same_numbers_answer : (begun : ℕ)
      → numbers_answer samples one begun ≡ numbers_answer samples other begun
  same_numbers_answer begun =
      ap {B = WholeAnswer} (λ wakes. record {
        status = run_status wakes;
        steps = Write (tally_lines (tally_of (one samples) begun)) ∷ [];
        tally = Some (tally_of (one samples) begun);
      }) (same.same_wakes samples (omega arith))
      ∙ ap {B = WholeAnswer} (λ numbers. record {
        status = run_status (other samples).wakes;
        steps = Write (tally_lines numbers) ∷ [];
        tally = Some numbers;
      }) (same_numbers begun)

  pub same_answer : (report : Report) (sheet : List ℕ) (begun : ℕ)
      → run_answer report samples sheet names one begun
      ≡ run_answer report samples sheet names other begun
  same_answer Wakes sheet begun = same_blocks Wakes begun
  same_answer Text sheet begun = ap (on_sheet sheet samples) (same_blocks Text begun)
  same_answer Numbers sheet begun = same_numbers_answer begun

-- some slice trapped where the count of those that did isn't 0
any_counted : {A : Type 0} (f : A → Bool) (xs : List A)
    → list_any f xs ≡ nat_lt 0 (as_counted (count_by f xs))
any_counted f [] = refl
any_counted f (x ∷ xs) =
    by (f x) (any_counted f xs) ∙ ap (λ n. nat_lt 0 (as_counted n)) (sym next)
  where
    next : count_by f (x ∷ xs) ≡ cond (f x) 1 0 + count_by f xs
    next = sum_by-append (λ y. cond (f y) 1 0) (x ∷ []) xs ∙ omega arith

    by : (b : Bool) → list_any f xs ≡ nat_lt 0 (as_counted (count_by f xs))
        → (b || list_any f xs) ≡ nat_lt 0 (as_counted (cond b 1 0 + count_by f xs))
    by true rest = sym (lt-ltb 0 (as_counted (1 + count_by f xs)) (omega arith))
    by false rest = rest ∙ ap (λ n. nat_lt 0 (as_counted n)) (omega arith)

pub trapped_counted : (wakes : List Wake)
    → some_trapped wakes ≡ nat_lt 0 (as_counted (trap_count wakes))
trapped_counted wakes = any_counted (λ wake. is_some wake.trap) wakes

module _ (code : CodeParts) (report : Report) (names : List (List ℕ)) (samples : ℕ) where
  abbrev blocks : ℕ → Block
  blocks = block_at (run_code code) samples

  -- the steps of all blocks, and of those from this one on
  abbrev pub all_steps : List Step
  all_steps = flat_map (block_steps report names) (blocks_of (run_code code) samples)

  abbrev pub steps_from : ℕ → List Step
  steps_from block =
      flat_map (block_steps report names)
      (map blocks (range_with_len block (block_count samples - block)))

  -- before a block: what was done, and how many samples the machine has made
  pub record AtBlock (block : ℕ) (vm : Sight) (old new : Moment) : Type 0 where
    pub plan : Remains all_steps (steps_from block) old new
    pub code_is : vm.code ≡ code
    pub names_are : vm.names ≡ names
    pub made : vm.samples ≡ block_start samples block

  pub at_start : (vm : Sight) (at : Moment)
      → vm ≡ record { code = code; names = names; samples = 0 } → AtBlock 0 vm at at
  at_start vm at is =
      let P : ℕ → Type 0 = λ n. Remains all_steps
      (flat_map (block_steps report names) (map blocks (range_with_len 0 n))) at at in
      let none : 0 ≡ block_start samples 0 = omega arith in
      record {
        plan = subst P (sym (sub-zero (block_count samples))) (remains_all all_steps at);
        code_is = ap (λ (v : Sight). v.code) is;
        names_are = ap (λ (v : Sight). v.names) is;
        made = ap (λ (v : Sight). v.samples) is ∙ none;
      }

  blocks_next : (block : ℕ) → block < block_count samples
      → steps_from block ≡ block_steps report names (blocks block) ++ steps_from (block + 1)
  blocks_next block more =
      let left : block_count samples - block ≡ suc (block_count samples - (block + 1)) =
      omega (arith, more) in
      ap (λ n. flat_map (block_steps report names) (map blocks (range_with_len block n))) left

  module _ (block count : ℕ) (vm : Sight) (old mid : Moment)
      (at : AtBlock block vm old mid) (more : block < block_count samples)
      (is_count : block_start samples block + count ≡ block_start samples (block + 1)) where
    -- what the machine makes next is the block
    next_is : block_of vm.code vm.samples count ≡ blocks block
    next_is =
        ap (λ c. block_of c vm.samples count) at.code_is
        ∙ ap (λ n. block_of code n count) at.made
        ∙ ap (λ n. block_between (run_code code (block_start samples block)) (run_code code n)) is_count

    module _ (made : Made) (is : IsReported report names (block_of vm.code vm.samples count) made) where
      abbrev P : Block → Type 0
      P b = IsReported report names b made

      is_block : IsReported report names (blocks block) made
      is_block = subst P next_is is

      -- these are the steps of the block, which come next
      steps_here : lines_steps report made.lines.items made.samples.items
          ≡ block_steps report names (blocks block)
      steps_here =
          ap (λ text. lines_steps report text made.samples.items) is_block.lines
          ∙ ap (lines_steps report (block_report report names (blocks block))) is_block.samples

      to_come : Remains all_steps (lines_steps report made.lines.items made.samples.items
          ++ steps_from (block + 1)) old mid
      to_come =
          subst (λ left. Remains all_steps left old mid)
          (blocks_next block more
          ∙ ap (λ steps. steps ++ steps_from (block + 1)) (sym steps_here)) at.plan

      -- they were done
      pub after_block : (next : Sight) (new : Moment)
          → next ≡ record vm { samples = vm.samples + count }
          → HasDone (lines_steps report made.lines.items made.samples.items) mid new
          → AtBlock (block + 1) next old new
      after_block next new same done = record {
        plan = remains_then all_steps (lines_steps report made.lines.items made.samples.items)
            (steps_from (block + 1)) old mid new to_come done;
        code_is = ap (λ (v : Sight). v.code) same ∙ at.code_is;
        names_are = ap (λ (v : Sight). v.names) same ∙ at.names_are;
        made = ap (λ (v : Sight). v.samples) same ∙ ap (λ n. n + count) at.made ∙ is_count;
      }

      -- or cut short
      pub block_cut : (cut : Cut) (new : Moment)
          → IsCut cut (lines_steps report made.lines.items made.samples.items) mid new
          → IsCut cut all_steps old new
      block_cut cut new short =
          remains_cut cut all_steps (lines_steps report made.lines.items made.samples.items)
          (steps_from (block + 1)) old mid new to_come short

  -- behind the last block all is done
  pub at_end : (block : ℕ) (vm : Sight) (old new : Moment)
      → AtBlock block vm old new → block_count samples ≤ block → HasDone all_steps old new
  at_end block vm old new at past =
      let none : block_count samples - block ≡ 0 = omega (arith, past) in
      let P : ℕ → Type 0 = λ n. Remains all_steps
      (flat_map (block_steps report names) (map blocks (range_with_len block n))) old new in
      remains_none all_steps old new (subst P none at.plan)

  -- with the numbers of the run, and its status
  pub end_numbers : (block : ℕ) (vm : Sight) (old new : Moment) (numbers : Tally)
      → AtBlock block vm old new → block_count samples ≤ block
      → numbers ≡ tally_of (run_code vm.code vm.samples) (run_code vm.code vm.samples).begun
      → (blocks_answer report samples names (run_code code) (run_code code samples).begun).tally
      ≡ Some numbers
  end_numbers block vm old new numbers at past is =
      let end : vm.samples ≡ samples = omega (arith, at.made, past) in
      let T : CodeParts → ℕ → Tally =
      λ code n. tally_of (run_code code n) (run_code code n).begun in
      ap Some (sym (is ∙ ap (λ c. T c vm.samples) at.code_is ∙ ap (T code) end))

  pub end_status : (block : ℕ) (vm : Sight) (old new : Moment) (numbers : Tally)
      → AtBlock block vm old new → block_count samples ≤ block
      → numbers ≡ tally_of (run_code vm.code vm.samples) (run_code vm.code vm.samples).begun
      → run_status (run_code code samples).wakes ≡ tally_status numbers
  end_status block vm old new numbers at past is =
      let all = some_is (end_numbers block vm old new numbers at past is) in
      ap {A = Bool} {B = Status} (λ b. if b then Trapped else Done)
      (trapped_counted (run_code code samples).wakes)
      ∙ ap tally_status all
    where
      some_is : {x y : Tally} → Some x ≡ Some y → x ≡ y
      some_is e = cc e

-- the blocks that the code counts are those of the run
pub below_count : (blocks block samples all : ℕ) → blocks ≡ div_ceil samples 4096 → samples ≡ all
    → block < blocks → block < block_count all
below_count blocks block samples all is same below = omega (arith, is, same, below)

pub past_count : (blocks block samples all : ℕ) → blocks ≡ div_ceil samples 4096 → samples ≡ all
    → blocks ≤ block → block_count all ≤ block
past_count blocks block samples all is same past = omega (arith, is, same, past)

-- a run that is reported by its numbers alone has no steps for its blocks
pub no_block_steps : (names : List (List ℕ)) (blocks : List Block)
    → flat_map (block_steps Numbers names) blocks ≡ []
no_block_steps names [] = refl
no_block_steps names (block ∷ blocks) = no_block_steps names blocks
