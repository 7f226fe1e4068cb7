use Rattle.std.proofs.Common.{◌≡◌, ◌≤◌, All, length, Vec, ◌+◌, ℕ, List, ◌∷◌, ◌++◌, [], Err, Option}
use Rattle.std.proofs.Common.{drop, map, IfSome, string_bytes, sym, ap, subst, ◌∙◌, arith}
use Rattle.std.proofs.lemmas.Grind.{common_steps}
use Rattle.std.proofs.lemmas.List.{map-append}
use Rattle.std.proofs.lemmas.List.Elements.{All-push}
use Rattle.std.specs.declared.alloc.Global.{Global}
use Rattle.ck_base.specs.declared.limits.TheConstants.{MAX_FILE_BYTES}
use Rattle.ck_edges.specs.Faults.{HasRisen}
use Rattle.ck_edges.specs.Shelf.{Files, HasBytes, IsLonger}
use Rattle.command_inputs.specs.Words.{words_of}
use Rattle.command_inputs.proofs.Found.{Read, told_long_at, told_fault_at, told_read_at}
use Rattle.command_inputs.proofs.Found.{told_all_read}
use Rattle.command_inputs.proofs.reading.read_files.Goals as goal

pub loop-place-preserved : goal.loop-place-preserved
loop-place-preserved g c =
    let P : List ℕ
    → Type 0 = λ name. HasBytes (g.S.Shelf.files c.loop-place.shelf) name c.read.new.into.items in
    let Q : Option Files
    → Type 0 = λ told. HasBytes told (string_bytes c.index-names-place.result)
    c.read.new.into.items in
    let gives = subst Q c.loop-place.invariant.same_files
    (subst P c.as_str.ensures.value c.in-Ok.ensures.given) in
    let all : map (λ file. file.items) c.push.new.self.items ≡ map (λ file. file.items)
    c.loop-place.files.items ++ c.read.new.into.items ∷ [] =
    ap (map (λ file. file.items)) c.in_ok-push.ensures.items
    ∙ map-append (λ file. file.items) c.loop-place.files.items (c.read.new.into ∷ []) in
    let S : List (Vec ℕ Global)
    → Type 0 = λ files. All (λ file. length file.items ≤ MAX_FILE_BYTES) files in
    let R : List (List ℕ)
    → Type 0 = λ found. IfSome (g.S.Shelf.files c.args.shelf.now)
    (λ told. Read told (words_of c.args.names.now)
    (words_of (drop (c.loop-place.place + 1) c.args.names.now)) found) in
    record {
      same_files = c.in-Ok.ensures.same_files ∙ c.loop-place.invariant.same_files;
      short = subst S (sym c.in_ok-push.ensures.items)
          (All-push (λ file. length file.items ≤ MAX_FILE_BYTES) c.loop-place.files.items
          c.read.new.into c.loop-place.invariant.short c.in-Ok.ensures.within);
      count = grind (arith, common_steps);
      counts = λ name. omega
          (arith, c.loop-place.invariant.counts name, c.in-Ok.ensures.counts name);
      read = subst R (sym all)
          (told_read_at (g.S.Shelf.files c.args.shelf.now) c.args.names.now c.loop-place.place
          c.index-names-place.result (map (λ file. file.items) c.loop-place.files.items)
          c.read.new.into.items
          c.loop-place-test.true (sym c.index-names-place.is) c.loop-place.invariant.read gives
          c.in-Ok.ensures.within);
    }

pub returns-in-Err-Long-clause-long : goal.returns-in-Err-Long-clause-long
returns-in-Err-Long-clause-long g c = λ i same.
    let P : List ℕ
    → Type 0 = λ name. IsLonger (g.S.Shelf.files c.loop-place.shelf) name MAX_FILE_BYTES in
    let Q : Option Files
    → Type 0 = λ told. IsLonger told (string_bytes c.index-names-place.result) MAX_FILE_BYTES in
    let longer = subst Q c.loop-place.invariant.same_files
    (subst P c.as_str.ensures.value
    (c.in-Err-Long.ensures.long (ap Err c.in-Err-Long.field-0-is))) in
    told_long_at (g.S.Shelf.files c.args.shelf.now) c.args.names.now i c.loop-place.place
    c.index-names-place.result (map (λ file. file.items) c.loop-place.files.items)
    (grind (arith, same)) c.loop-place-test.true (sym c.index-names-place.is)
    c.loop-place.invariant.read longer

pub returns-in-Err-Failed-clause-failed : goal.returns-in-Err-Failed-clause-failed
returns-in-Err-Failed-clause-failed g c = λ same.
    let P : List ℕ
    → Type 0 = λ name. HasRisen (g.S.Shelf.read_faults c.loop-place.shelf name)
    (g.S.Shelf.read_faults c.read.new.self name) in
    told_fault_at (g.S.Shelf.files c.args.shelf.now) c.args.names.now c.loop-place.place
    c.index-names-place.result (map (λ file. file.items) c.loop-place.files.items)
    (g.S.Shelf.read_faults c.args.shelf.now) (g.S.Shelf.read_faults c.loop-place.shelf)
    (g.S.Shelf.read_faults c.read.new.self)
    c.loop-place-test.true (sym c.index-names-place.is) c.loop-place.invariant.read
    c.loop-place.invariant.counts
    (subst P c.as_str.ensures.value
    (c.in-Err-Failed.ensures.failed (ap Err c.in-Err-Failed.field-0-is)))

pub returns-clause-found : goal.returns-clause-found
returns-clause-found g c =
    told_all_read (g.S.Shelf.files c.args.shelf.now) c.args.names.now c.loop-place.place
    (map (λ file. file.items) c.loop-place.files.items) c.loop-place-test.false
    c.loop-place.invariant.read
