-- What an edge that tells nothing of its bytes has still to show of its trait's clauses.
use Rattle.std.proofs.Common.{◌≡◌, ℕ, List, [], None, Result, Ok, Err, OnOk, OnErr}
use Rattle.std.proofs.Common.{refl, sym, append-nil, arith}
use Rattle.std.proofs.lemmas.Result.{on_err_weaker}
use Rattle.ck_edges.specs.Faults.{next_count, HasRisen}
use Rattle.ck_edges.specs.Sink.{AppendsFront}
use Rattle.ck_edges.specs.Press.{WritesFront}

-- what holds of every end holds of an `Ok`
pub on_ok : {A E : Type 0} (P : Type 0) (r : Result A E) → P → OnOk r P
on_ok P (Ok x) p = p
on_ok P (Err e) p = tt

pub on_err : {A E : Type 0} (P : Type 0) (r : Result A E) → P → OnErr r P
on_err P (Ok x) p = tt
on_err P (Err e) p = p

-- a count that went on by one has risen
pub risen : (old new : ℕ) → new ≡ next_count old → HasRisen old new
risen old new e = grind arith

pub risen_on_err : {A E : Type 0} (r : Result A E) (old new : ℕ) → OnErr r (new ≡ next_count old)
    → OnErr r (HasRisen old new)
risen_on_err r old new h = on_err_weaker r (risen old new) h

-- any front may have been appended where nothing is told
pub appends_untold : (bytes : List ℕ) → AppendsFront None None bytes
appends_untold bytes = (bytes, [], sym (append-nil bytes), refl)

pub writes_untold : (bytes : List ℕ) → WritesFront None None bytes
writes_untold bytes = (bytes, [], sym (append-nil bytes), refl)
