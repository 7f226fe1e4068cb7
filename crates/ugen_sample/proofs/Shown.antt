-- A sample is the same under other numbers: of the nodes of a graph, and of the objects of a store.
use Rattle.std.proofs.Common.{◌≡◌, ℕ, ℤ, ◌<◌, Bool, false, nat_eq, cond, List, [], ◌∷◌, length, map, Option, Some, None, slice_set, refl, ap, sym, subst, ◌∙◌, inl, inr, arith}
use Rattle.std.specs.List.{fold}
use Rattle.std.proofs.lemmas.Grind.{common_steps}
use Rattle.std.proofs.lemmas.Bool.Decides.{nat_tests}
use Rattle.ugen_kinds.specs.SoundFile.{SoundFile}
use Rattle.ugen_sample.specs.declared.choices.Channel.{Channel}
use Rattle.ugen_sample.specs.declared.choices.Channel.TheVariants.{Mean, Left, Right}
use Rattle.ugen_sample.specs.Connection.{Connection}
use Rattle.ugen_sample.specs.declared.unit.UnitState.{UnitState}
use Rattle.ugen_sample.specs.UnitState.{Units, unit_at}
use Rattle.ugen_sample.specs.Order.{roots, order}
use Rattle.ugen_sample.specs.Sample.{dac, is_left, is_right, sources_on, numbers_of, sounded, sounded_where, made_from, sampled}
use Rattle.ugen_sample.specs.Renaming.{Renames, renamed, Ends, Shown, IsOther}
use Rattle.ugen_sample.proofs.Among.{either, equal, Each}
use Rattle.ugen_sample.proofs.Renamed.{same_test, sources_same, sources_in, by_same, by_in, order_renamed}

at_set : (xs : Units) (i k : ℕ) (v : Option UnitState) → i < length xs
    → unit_at (slice_set xs i v) k ≡ cond (nat_eq i k) v (unit_at xs k)
at_set xs i k v h = grind (arith, common_steps, nat_tests)

other_set : (xs : Units) (i k : ℕ) (v : Option UnitState) → nat_eq i k ≡ false
    → unit_at (slice_set xs i v) k ≡ unit_at xs k
other_set xs i k v e = grind (arith, common_steps, nat_tests)

-- what the one at a place hears
abbrev heard_by : Units → List Connection → ℕ → Channel → List ℤ
heard_by us cs n channel = numbers_of us channel (sources_on cs channel n)

module _ (f : ℕ → ℕ) (P : ℕ → Type 0) (r : Renames f P) (waves : List SoundFile)
    (links : List Connection) (e : Ends P links) where
  abbrev others : List Connection
  others = map (renamed f) links

  heard_same : (channel : Channel) (n : ℕ) → P n
      → sources_on others channel (f n) ≡ map f (sources_on links channel n)
  heard_same Mean n p = sources_same f P r links n e p
  heard_same Left n p = by_same f P r is_left links n e p
  heard_same Right n p = by_same f P r is_right links n e p

  heard_in : (channel : Channel) (n : ℕ) → Each P (sources_on links channel n)
  heard_in Mean n = sources_in P links n e
  heard_in Left n = by_in is_left P links n e
  heard_in Right n = by_in is_right P links n e

  reads_same : (us ss : Units) → Shown f P us ss → (channel : Channel) (ms : List ℕ) → Each P ms
      → numbers_of ss channel (map f ms) ≡ numbers_of us channel ms
  reads_same us ss s channel [] h = refl
  reads_same us ss s channel (m ∷ ms) h = rw (s.same m h.0, reads_same us ss s channel ms h.1) refl

  hears : (us ss : Units) → Shown f P us ss → (n : ℕ) → P n
      → heard_by ss others (f n) ≡ heard_by us links n
  hears us ss s n p =
      let same : (channel : Channel) → numbers_of ss channel (sources_on others channel (f n))
      ≡ numbers_of us channel (sources_on links channel n) = λ channel.
      ap (numbers_of ss channel) (heard_same channel n p)
      ∙ reads_same us ss s channel (sources_on links channel n) (heard_in channel n) in
      λ i channel. same channel i

  is_dac_same : (n : ℕ) → P n → nat_eq (f n) dac ≡ nat_eq n dac
  is_dac_same n p =
      ap (nat_eq (f n)) (sym r.dac_stays) ∙ same_test f P r n dac p r.dac_is

  sounded_same : (n : ℕ) (o : Option UnitState) (heard : Channel → List ℤ) → P n
      → sounded_where waves (f n) o heard ≡ sounded_where waves n o heard
  unfolding sounded
  sounded_same n None heard p = refl
  sounded_same n (Some unit) heard p = rw (is_dac_same n p, sounded) refl

  made_shown : (us ss : Units) → Shown f P us ss → (n : ℕ) → P n
      → Shown f P (made_from waves (sources_on links) us n)
      (made_from waves (sources_on others) ss (f n))
  made_shown us ss s n p =
      let heard = heard_by us links n in
      let v = sounded_where waves n (unit_at us n) heard in
      let w = sounded_where waves (f n) (unit_at ss (f n))
      (heard_by ss others (f n)) in
      let values : w ≡ v =
      ap (λ (h : Channel → List ℤ). sounded_where waves (f n) (unit_at ss (f n)) h) (hears us ss s n p)
      ∙ ap (λ (o : Option UnitState). sounded_where waves (f n) o heard) (s.same n p)
      ∙ sounded_same n (unit_at us n) heard p in
      record {
        same = λ k q.
            at_set ss (f n) (f k) w (s.named n p)
            ∙ ap (λ (b : Bool). cond b w (unit_at ss (f k))) (same_test f P r n k p q)
            ∙ ap (λ (o : Option UnitState). cond (nat_eq n k) o (unit_at ss (f k))) values
            ∙ ap (λ (o : Option UnitState). cond (nat_eq n k) v o) (s.same k q)
            ∙ sym (at_set us n k v (s.there n p));
        there = λ k q. let h = s.there k q in grind (arith, common_steps);
        named = λ k q. let h = s.named k q in grind (arith, common_steps);
      }

  all_shown : (ns : List ℕ) → Each P ns → (us ss : Units) → Shown f P us ss
      → Shown f P (fold (made_from waves (sources_on links)) us ns)
      (fold (made_from waves (sources_on others)) ss (map f ns))
  all_shown [] i us ss s = s
  all_shown (n ∷ ns) i us ss s = all_shown ns i.1 _ _ (made_shown us ss s n i.0)

  -- so are their samples
  pub sample_shown : (roots : List ℕ) → Each P roots → (us ss : Units) → Shown f P us ss
      → Shown f P (sampled waves roots links us) (sampled waves (map f roots) others ss)
  unfolding sampled
  sample_shown roots in_r us ss s =
      let o = order_renamed f P r links e roots in_r in
      rw o.same (all_shown (order roots links) o.inside us ss s)

  -- and no other object changes
  kept : (ns : List ℕ) → Each P ns → (m : ℕ) → IsOther f P m → (ss : Units)
      → unit_at (fold (made_from waves (sources_on others)) ss (map f ns)) m ≡ unit_at ss m
  kept [] i m other ss = refl
  kept (n ∷ ns) i m other ss =
      kept ns i.1 m other _ ∙ elim (either (nat_eq (f n) m)) [
        | inl is ↦ absurd (other n i.0 (equal (f n) m is))
        | inr isnt ↦ other_set ss (f n) m _ isnt
      ]

  pub others_stay : (roots : List ℕ) → Each P roots → (m : ℕ) → IsOther f P m → (ss : Units)
      → unit_at (sampled waves (map f roots) others ss) m ≡ unit_at ss m
  unfolding sampled
  others_stay roots in_r m other ss =
      let o = order_renamed f P r links e roots in_r in
      rw o.same (kept (order roots links) o.inside m other ss)

-- the roots keep their places
roots_same : (f : ℕ → ℕ) (P : ℕ → Type 0) → Renames f P → f 1 ≡ 1 → map f roots ≡ roots
roots_same f P r one = rw (r.dac_stays, one) refl

pub by_numbers : (f : ℕ → ℕ) (P : ℕ → Type 0) → Renames f P → P 1 → f 1 ≡ 1
    → (links : List Connection) → Ends P links
    → order roots (map (renamed f) links) ≡ map f (order roots links)
by_numbers f P r p one links e =
    ap (λ (rs : List ℕ). order rs (map (renamed f) links)) (sym (roots_same f P r one))
    ∙ (order_renamed f P r links e roots (r.dac_is, (p, tt))).same

pub shown_by_numbers : (waves : List SoundFile) (f : ℕ → ℕ) (P : ℕ → Type 0) → Renames f P → P 1
    → f 1 ≡ 1 → (links : List Connection) → Ends P links → (us ss : Units) → Shown f P us ss
    → Shown f P (sampled waves roots links us) (sampled waves roots (map (renamed f) links) ss)
shown_by_numbers waves f P r p one links e us ss s =
    let Q : List ℕ → Type 0 = λ rs. Shown f P (sampled waves roots links us)
    (sampled waves rs (map (renamed f) links) ss) in
    subst Q (roots_same f P r one) (sample_shown f P r waves links e roots (r.dac_is, (p, tt)) us ss s)

pub rest_by_numbers : (waves : List SoundFile) (f : ℕ → ℕ) (P : ℕ → Type 0) → Renames f P → P 1
    → f 1 ≡ 1 → (links : List Connection) → Ends P links → (ss : Units) (m : ℕ) → IsOther f P m
    → unit_at (sampled waves roots (map (renamed f) links) ss) m ≡ unit_at ss m
rest_by_numbers waves f P r p one links e ss m other =
    ap (λ (rs : List ℕ). unit_at (sampled waves rs (map (renamed f) links) ss) m)
    (sym (roots_same f P r one))
    ∙ others_stay f P r waves links e roots (r.dac_is, (p, tt)) m other ss
