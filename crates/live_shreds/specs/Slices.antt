-- What the slice of a live shred leaves.
use Rattle.std.specs.Prelude.{◌≡◌, ℕ, List, Some, slice_get, slice_set}
use Rattle.ck_code.specs.declared.code.CodeParts.{CodeParts}
use Rattle.shred_state.specs.Frames.{Standing}
use Rattle.machine_world.specs.declared.acts.Act.{Act}
use Rattle.machine_world.specs.declared.course.Stop.{Stop}
use Rattle.machine_world.specs.Worlds.{Parts, counted}
use Rattle.stack_machine.specs.Fitting.{OfSuited}
use Rattle.stack_machine.specs.Slices.{Tells, slice_of, begun_of}

-- the live shred with a number has run its next slice: it stands anew where it stood, with the same
-- number and parent, and the world is what the slice left
pub record Ran (stop : Stop) (n : ℕ) (code : CodeParts) (shreds shreds2 : List Standing)
    (world world2 : Parts) (acts : List Act) : Type 0 where
  pub place : ℕ
  pub shred : Standing
  pub after : Standing
  pub at : slice_get shreds place ≡ Some shred
  pub is : shred.number ≡ n
  pub tells : OfSuited code shred world (λ store.
      Tells stop (slice_of code shred store) code after world2 acts)
  pub time_is : world2.time ≡ world.time
  pub number_is : after.number ≡ shred.number
  pub parent_is : after.parent ≡ shred.parent
  pub last_is : after.last ≡ world.time
  pub ran_is : OfSuited code shred world (λ store.
      world2.ran ≡ counted world.ran (begun_of code shred store))
  pub shreds_are : shreds2 ≡ slice_set shreds place after
