use mir.Syntax.{w64}
use mir.Val.{SFits}
use Rattle.std.proofs.Common.{◌≡◌, Some, refl, ap, sym, subst, ◌∙◌, rules}
use Rattle.std.proofs.lemmas.Int.{to_z-of_z}
use Rattle.ck_values.specs.declared.value.Value.TheVariants.{Int}
use Rattle.loop_steps.proofs.Given.{is_taken, given_on}
use Rattle.loop_steps.proofs.control.leave.Goals as goal

pub returns-in-Int : goal.returns-in-Int
returns-in-Int c =
    let n = c.in-Int.n in
    let fits : SFits w64 n = search rules in
    let is : Int n ≡ c.pop.result =
    is_taken _ _ _ _ c.pop.ensures (c.peek.ensures ∙ ap Some c.in-Int.is) in
    record {
      carries = given_on _ _ _ _ _ _ c.give.result c.pop.ensures
          (subst (λ m. Int m ≡ c.pop.result) (sym (to_z-of_z w64 n fits)) is)
          c.give.ensures.carries;
    }

pub returns-in-Float : goal.returns-in-Float
returns-in-Float c =
    let is = is_taken _ _ _ _ c.pop-in-Float.ensures (c.peek-2.ensures ∙ ap Some c.in-Float.is) in
    record {
      carries = given_on _ _ _ _ _ _ c.give-in-Float.result c.pop-in-Float.ensures is
          c.give-in-Float.ensures.carries;
    }

pub returns : goal.returns
returns c = record {
  carries = given_on _ _ _ _ _ _ c.give-2.result c.pop-v.ensures refl c.give-2.ensures.carries;
}
