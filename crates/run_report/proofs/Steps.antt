-- How steps at the edges follow one another.
use Rattle.std.proofs.Common.{◌≡◌, ℕ, true, nat_eq, List, [], ◌∷◌, ◌++◌, length, Option}
use Rattle.std.proofs.Common.{Ok, Err, Some, None, refl, sym, ◌∙◌, ap, subst, inl, inr, append_assoc}
use Rattle.std.proofs.Common.{append-nil, arith}
use Rattle.std.specs.Prelude.{Result}
use Rattle.std.specs.Result.{IsErrAnd}
use Rattle.std.proofs.lemmas.Bool.{eqb-true}
use Rattle.ck_edges.specs.Faults.{HasRisen}
use Rattle.ck_edges.specs.Sink.{Appends, AppendsFront}
use Rattle.ck_edges.specs.Press.{Sheet, Changes, WritesFront, with_begun, with_written, with_ended}
use Rattle.chuck_vm.specs.declared.tally.Tally.{Tally}
use Rattle.fixed_point.specs.Wanting.{out_of_memory}
use Rattle.run_report.specs.declared.cut.Cut.{Cut}
use Rattle.run_report.specs.declared.cut.Cut.TheVariants as cut
use Rattle.run_report.specs.Step.{Step, Write, BeginSheet, WriteSheet, EndSheet, text_written}
use Rattle.run_report.specs.Step.{writes_of, sheets_after, Edges, told, Does, DoesFront}
use Rattle.run_report.specs.Step.{IsPart}
use Rattle.run_report.specs.Answer.{WholeAnswer}
use Rattle.run_report.specs.Ends.{Moment, moment, KeepsTold}
use Rattle.run_report.specs.Ends.{HasFailed, HasDone, IsCut}
use Rattle.run_report.specs.Ends.{EndsSteps, EndsRun}

pub appends_nothing : (text : Option (List ℕ)) → Appends text text []
appends_nothing None = refl
appends_nothing (Some text) = ap Some (sym (append-nil text))

-- a list of no length is empty
pub no_length : {A : Type 0} (xs : List A) → nat_eq (length xs) 0 ≡ true → xs ≡ []
no_length [] e = refl
no_length (x ∷ xs) e = absurd (omega (arith, eqb-true (length (x ∷ xs)) 0 e))

pub appends_only_nothing : (old new : Option (List ℕ)) → Appends old new [] → new ≡ old
appends_only_nothing None new e = e
appends_only_nothing (Some text) new e = e ∙ ap Some (append-nil text)

pub appends_then : (old mid new : Option (List ℕ)) (first second : List ℕ)
    → Appends old mid first → Appends mid new second → Appends old new (first ++ second)
appends_then None mid new first second a b =
    subst (λ (text : Option (List ℕ)). Appends text new second) a b
appends_then (Some text) mid new first second a b =
    let c : new ≡ Some ((text ++ first) ++ second) =
    subst (λ (t : Option (List ℕ)). Appends t new second) a b in
    c ∙ ap Some (append_assoc text first second)

pub changes_nothing : (sheets : Option (List Sheet)) → Changes sheets sheets (λ s. s)
changes_nothing None = refl
changes_nothing (Some sheets) = refl

pub changes_then : (old mid new : Option (List Sheet)) (first second : List Sheet → List Sheet)
    → Changes old mid first → Changes mid new second → Changes old new (λ s. second (first s))
changes_then None mid new first second a b =
    subst (λ (s : Option (List Sheet)). Changes s new second) a b
changes_then (Some sheets) mid new first second a b =
    subst (λ (s : Option (List Sheet)). Changes s new second) a b

pub changes_alike : (old new : Option (List Sheet)) (first second : List Sheet → List Sheet)
    → ((s : List Sheet) → first s ≡ second s) → Changes old new first → Changes old new second
changes_alike None new first second same a = a
changes_alike (Some sheets) new first second same a = a ∙ ap Some (same sheets)

pub text_written-append : (a b : List Step)
    → text_written (a ++ b) ≡ text_written a ++ text_written b
text_written-append [] b = refl
text_written-append (Write bytes ∷ a) b =
    ap (λ t. bytes ++ t) (text_written-append a b)
    ∙ sym (append_assoc bytes (text_written a) (text_written b))
text_written-append (BeginSheet name ∷ a) b = text_written-append a b
text_written-append (WriteSheet bytes ∷ a) b = text_written-append a b
text_written-append (EndSheet ∷ a) b = text_written-append a b

pub sheets_after-append : (a b : List Step) (s : List Sheet)
    → sheets_after (a ++ b) s ≡ sheets_after b (sheets_after a s)
sheets_after-append [] b s = refl
sheets_after-append (Write bytes ∷ a) b s = sheets_after-append a b s
sheets_after-append (BeginSheet name ∷ a) b s = sheets_after-append a b (with_begun name s)
sheets_after-append (WriteSheet bytes ∷ a) b s = sheets_after-append a b (with_written bytes s)
sheets_after-append (EndSheet ∷ a) b s = sheets_after-append a b (with_ended s)

pub does_nothing : (edges : Edges) → Does [] edges edges
does_nothing edges =
    record { text = appends_nothing edges.text; sheets = changes_nothing edges.sheets }

pub does_then : (a b : List Step) (old mid new : Edges)
    → Does a old mid → Does b mid new → Does (a ++ b) old new
does_then a b old mid new first second = record {
  text = rw (text_written-append a b)
      (appends_then old.text mid.text new.text (text_written a) (text_written b)
      first.text second.text);
  sheets = changes_alike old.sheets new.sheets (λ s. sheets_after b (sheets_after a s))
      (sheets_after (a ++ b)) (λ s. sym (sheets_after-append a b s))
      (changes_then old.sheets mid.sheets new.sheets (sheets_after a) (sheets_after b)
      first.sheets second.sheets);
}

-- one write
pub does_write : (bytes : List ℕ) (text text' : Option (List ℕ)) (sheets : Option (List Sheet))
    → Appends text text' bytes → Does (Write bytes ∷ []) (told text sheets) (told text' sheets)
does_write bytes text text' sheets appends =
    record { text = rw (append-nil bytes) appends; sheets = changes_nothing sheets }

-- steps on a sheet, which leave the text
does_sheet : (step : Step) (change : List Sheet → List Sheet) (text : Option (List ℕ))
    (sheets sheets' : Option (List Sheet)) → text_written (step ∷ []) ≡ []
    → ((s : List Sheet) → change s ≡ sheets_after (step ∷ []) s) → Changes sheets sheets' change
    → Does (step ∷ []) (told text sheets) (told text sheets')
does_sheet step change text sheets sheets' none same changes = record {
  text = subst (Appends text text) (sym none) (appends_nothing text);
  sheets = changes_alike sheets sheets' change (sheets_after (step ∷ [])) same changes;
}

-- nothing was done, and no call failed
pub has_done_nothing : (at : Moment) → HasDone [] at at
has_done_nothing at =
    record { does = does_nothing at.edges; write_faults = refl; press_faults = refl }

pub has_done_then : (a b : List Step) (old mid new : Moment)
    → HasDone a old mid → HasDone b mid new → HasDone (a ++ b) old new
has_done_then a b old mid new first second = record {
  does = does_then a b old.edges mid.edges new.edges first.does second.does;
  write_faults = second.write_faults ∙ first.write_faults;
  press_faults = second.press_faults ∙ first.press_faults;
}

-- what failed after steps that were done failed since before them
failed_since : (a : List Step) (old mid new : Moment) → HasDone a old mid → HasFailed mid new
    → HasFailed old new
failed_since a old mid new done (inl rose) =
    inl (subst (λ n. HasRisen n new.write_faults) done.write_faults rose)
failed_since a old mid new done (inr rose) =
    inr (subst (λ n. HasRisen n new.press_faults) done.press_faults rose)

-- steps that are cut short after others
pub cut_then : (cut : Cut) (a b : List Step) (old mid new : Moment) → HasDone a old mid
    → IsCut cut b mid new → IsCut cut (a ++ b) old new
cut_then cut.WriteFault a b old mid new done (some, failed) = (
  (
    a ++ some.0,
    some.1,
    some.2,
    some.3,
    ap (λ steps. a ++ steps) some.4 ∙ sym (append_assoc a some.0 (some.2 ∷ some.1)),
    some.5,
    subst (λ (steps : List Step). Does steps old.edges new.edges)
        (sym (append_assoc a some.0 some.3))
        (does_then a (some.0 ++ some.3) old.edges mid.edges new.edges done.does some.6),
  ),
  failed_since a old mid new done failed,
)
cut_then (cut.Memory _) a b old mid new done front = (
  a ++ front.0,
  front.1,
  ap (λ steps. a ++ steps) front.2 ∙ sym (append_assoc a front.0 front.1),
  does_then a front.0 old.edges mid.edges new.edges done.does front.3,
)

-- steps that are cut short before others
pub cut_before : (cut : Cut) (a b : List Step) (old new : Moment) → IsCut cut a old new
    → IsCut cut (a ++ b) old new
cut_before cut.WriteFault a b old new (some, failed) = (
  (
    some.0,
    some.1 ++ b,
    some.2,
    some.3,
    ap (λ steps. steps ++ b) some.4 ∙ append_assoc some.0 (some.2 ∷ some.1) b,
    some.5,
    some.6,
  ),
  failed,
)
cut_before (cut.Memory _) a b old new front = (
  front.0,
  front.1 ++ b,
  ap (λ steps. steps ++ b) front.2 ∙ append_assoc front.0 front.1 b,
  front.3,
)

-- memory was wanting before the first step
pub cut_at_once : (steps : List Step) (at : Moment) → IsCut (cut.Memory out_of_memory) steps at at
cut_at_once steps at = ([], steps, refl, does_nothing at.edges)

-- of a plan, some first steps were done, and these are left
pub record Remains (plan left : List Step) (old new : Moment) : Type 0 where
  pub done : List Step
  pub so : plan ≡ done ++ left
  pub does : HasDone done old new

pub remains_all : (plan : List Step) (at : Moment) → Remains plan plan at at
remains_all plan at = record { done = []; so = refl; does = has_done_nothing at }

pub remains_none : (plan : List Step) (old new : Moment) → Remains plan [] old new
    → HasDone plan old new
remains_none plan old new at =
    let e : plan ≡ at.done = at.so ∙ append-nil at.done in
    subst (λ (steps : List Step). HasDone steps old new) (sym e) at.does

pub remains_front : (plan left : List Step) (old new : Moment)
    → Remains plan left old new → DoesFront plan old.edges new.edges
remains_front plan left old new at = (at.done, left, at.so, at.does.does)

-- the next steps were done
pub remains_then : (plan next left : List Step) (old mid new : Moment)
    → Remains plan (next ++ left) old mid → HasDone next mid new → Remains plan left old new
remains_then plan next left old mid new at more = record {
  done = at.done ++ next;
  so = at.so ∙ sym (append_assoc at.done next left);
  does = has_done_then at.done next old mid new at.does more;
}

-- or they were cut short, and with them the plan
pub remains_cut : (cut : Cut) (plan next left : List Step) (old mid new : Moment)
    → Remains plan (next ++ left) old mid → IsCut cut next mid new → IsCut cut plan old new
remains_cut cut plan next left old mid new at short =
    subst (λ (steps : List Step). IsCut cut steps old new) (sym at.so)
    (cut_then cut at.done (next ++ left) old mid new at.does
    (cut_before cut next left mid new short))

-- a result that says how steps were cut short
err_is : {V : Type 0} (r : Result V Cut) (cut : Cut) → IsErrAnd r (λ e. e ≡ cut) → r ≡ Err cut
err_is (Ok v) cut is = absurd is
err_is (Err e) cut is = ap Err is

pub steps_cut : (r : Result (Unit {0}) Cut) (cut : Cut) (steps : List Step) (old new : Moment)
    → IsErrAnd r (λ e. e ≡ cut) → IsCut cut steps old new → EndsSteps r steps old new
steps_cut r cut steps old new is short =
    subst (λ end. EndsSteps end steps old new) (sym (err_is r cut is)) short

pub run_cut : (r : Result Tally Cut) (cut : Cut) (answer : WholeAnswer) (old new : Moment)
    → IsErrAnd r (λ e. e ≡ cut) → IsCut cut answer.steps old new → EndsRun r answer old new
run_cut r cut answer old new is short =
    subst (λ end. EndsRun end answer old new) (sym (err_is r cut is)) short

-- one write
pub write_done : (bytes : List ℕ) (text text' : Option (List ℕ)) (faults faults' : ℕ)
    (sheets : Option (List Sheet)) (press_faults : ℕ) → Appends text text' bytes
    → faults' ≡ faults
    → HasDone (Write bytes ∷ []) (moment text faults sheets press_faults)
    (moment text' faults' sheets press_faults)
write_done bytes text text' faults faults' sheets press_faults appends same = record {
  does = does_write bytes text text' sheets appends;
  write_faults = same;
  press_faults = refl;
}

pub write_cut : (bytes : List ℕ) (text text' : Option (List ℕ)) (faults faults' : ℕ)
    (sheets : Option (List Sheet)) (press_faults : ℕ) → AppendsFront text text' bytes
    → HasRisen faults faults'
    → IsCut cut.WriteFault (Write bytes ∷ []) (moment text faults sheets press_faults)
    (moment text' faults' sheets press_faults)
write_cut bytes text text' faults faults' sheets press_faults some risen = (
  (
    [],
    [],
    Write bytes,
    Write some.0 ∷ [],
    refl,
    (some.0, some.1, some.2, refl),
    does_write some.0 text text' sheets some.3,
  ),
  inl risen,
)

-- the write of a piece, which is none where it is empty
pub piece_done : (bytes : List ℕ) (text text' : Option (List ℕ)) (faults faults' : ℕ)
    (sheets : Option (List Sheet)) (press_faults : ℕ) → Appends text text' bytes
    → faults' ≡ faults
    → HasDone (writes_of (bytes ∷ [])) (moment text faults sheets press_faults)
    (moment text' faults' sheets press_faults)
piece_done [] text text' faults faults' sheets press_faults appends same = record {
  does = subst (λ t. Does [] (told text sheets) (told t sheets))
      (sym (appends_only_nothing text text' appends)) (does_nothing (told text sheets));
  write_faults = same;
  press_faults = refl;
}
piece_done (byte ∷ bytes) text text' faults faults' sheets press_faults appends same =
    write_done (byte ∷ bytes) text text' faults faults' sheets press_faults appends same

pub piece_cut : (bytes : List ℕ) (text text' : Option (List ℕ)) (faults faults' : ℕ)
    (sheets : Option (List Sheet)) (press_faults : ℕ) → (bytes ≡ [] → ⊥)
    → AppendsFront text text' bytes → HasRisen faults faults'
    → IsCut cut.WriteFault (writes_of (bytes ∷ [])) (moment text faults sheets press_faults)
    (moment text' faults' sheets press_faults)
piece_cut [] text text' faults faults' sheets press_faults some front risen = absurd (some refl)
piece_cut (byte ∷ bytes) text text' faults faults' sheets press_faults some front risen =
    write_cut (byte ∷ bytes) text text' faults faults' sheets press_faults front risen

-- one step on a sheet
pub sheet_done : (step : Step) (change : List Sheet → List Sheet) (text : Option (List ℕ))
    (write_faults : ℕ) (sheets sheets' : Option (List Sheet)) (faults faults' : ℕ)
    → text_written (step ∷ []) ≡ []
    → ((s : List Sheet) → change s ≡ sheets_after (step ∷ []) s) → Changes sheets sheets' change
    → faults' ≡ faults
    → HasDone (step ∷ []) (moment text write_faults sheets faults)
    (moment text write_faults sheets' faults')
sheet_done step change text write_faults sheets sheets' faults faults' none same changes still =
    record {
      does = does_sheet step change text sheets sheets' none same changes;
      write_faults = refl;
      press_faults = still;
    }

-- which failed in part
pub sheet_cut : (bytes : List ℕ) (text : Option (List ℕ)) (write_faults : ℕ)
    (sheets sheets' : Option (List Sheet)) (faults faults' : ℕ) → WritesFront sheets sheets' bytes
    → HasRisen faults faults'
    → IsCut cut.WriteFault (WriteSheet bytes ∷ []) (moment text write_faults sheets faults)
    (moment text write_faults sheets' faults')
sheet_cut bytes text write_faults sheets sheets' faults faults' some risen = (
  (
    [],
    [],
    WriteSheet bytes,
    WriteSheet some.0 ∷ [],
    refl,
    (some.0, some.1, some.2, refl),
    does_sheet (WriteSheet some.0) (with_written some.0) text sheets sheets' refl (λ s. refl)
        some.3,
  ),
  inr risen,
)

-- or without any
pub none_cut : (step : Step) (text : Option (List ℕ)) (write_faults : ℕ)
    (sheets sheets' : Option (List Sheet)) (faults faults' : ℕ) → IsPart step []
    → sheets' ≡ sheets → HasRisen faults faults'
    → IsCut cut.WriteFault (step ∷ []) (moment text write_faults sheets faults)
    (moment text write_faults sheets' faults')
none_cut step text write_faults sheets sheets' faults faults' is same risen = (
  (
    [],
    [],
    step,
    [],
    refl,
    is,
    subst (λ s. Does [] (told text sheets) (told text s)) (sym same)
        (does_nothing (told text sheets)),
  ),
  inr risen,
)

pub keeps_same : {A : Type 0} (told : Option (List A)) → KeepsTold told told
keeps_same None = tt
keeps_same (Some all) = ([], ap Some (sym (append-nil all)))
