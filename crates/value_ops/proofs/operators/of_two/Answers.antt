-- No operator takes two operands that no other case of the match has.
use Rattle.std.proofs.Common.{◌≡◌, true, subst}
use Rattle.ck_values.specs.declared.value.Value.{Value}
use Rattle.ck_values.specs.Datum.{meant}
use Rattle.value_ops.proofs.Pairs.{is_pair, fits_pair, beside_int, beside_float, beside_string, beside_shred, beside_object, beside_dur, beside_time}
use Rattle.value_ops.proofs.operators.of_two.Goals as goal
use Rattle.value_ops.proofs.operators.of_two.Goals.{in_default-via-in-Int+in_default, in_default-via-in-Float+in_default, in_default-via-in-Text+in_default, in_default-via-in-Shred+in_default, in_default-via-in-Ref+in_default, in_default-via-in-Dur+in_default, in_default-via-in-Time+in_default}

pub unreachable-requires : goal.unreachable-requires
unreachable-requires c =
    let b = c.args.b.now in
    let given = c.requires in
    let pair = fits_pair c.args.op (meant c.args.a.now) (meant b) given.no_string given.fitting in
    let pair_of = λ (a : Value) (is : c.args.a.now ≡ a).
    subst (λ v. is_pair (meant v) (meant b) ≡ true) is pair in
    elim c.in_default.branch [
      | in_default-via-in-Int+in_default w ↦
          let h = w.in_default in
          beside_int h.field-0-0 b h.not-Int-1 h.not-Dur-1 (pair_of _ h.is-0)
      | in_default-via-in-Float+in_default w ↦
          let h = w.in_default in
          beside_float h.field-0-0 b h.not-Float-1 h.not-Dur-1 (pair_of _ h.is-0)
      | in_default-via-in-Text+in_default w ↦
          let h = w.in_default in
          beside_string h.field-0-0 b h.not-Text-1 (pair_of _ h.is-0)
      | in_default-via-in-Shred+in_default w ↦
          let h = w.in_default in
          beside_shred h.field-0-0 b h.not-Shred-1 (pair_of _ h.is-0)
      | in_default-via-in-Ref+in_default w ↦
          let h = w.in_default in
          beside_object h.field-0-0.serial b h.not-Ref-1 (pair_of _ h.is-0)
      | in_default-via-in-Dur+in_default w ↦
          let h = w.in_default in
          beside_dur h.field-0-0 b h.not-Int-1 h.not-Float-1 h.not-Dur-1 h.not-Time-1
          (pair_of _ h.is-0)
      | in_default-via-in-Time+in_default w ↦
          let h = w.in_default in
          beside_time h.field-0-0 b h.not-Dur-1 h.not-Time-1 (pair_of _ h.is-0)
    ]
