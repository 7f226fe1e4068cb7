-- What changes of its graph do to the store of a world.
use Rattle.std.proofs.Common.{◌≡◌, ℕ, zero, suc, ◌<◌, ◌≤◌, nat_lt, Bool, true, false, not, cond, List, [], ◌∷◌, ◌++◌, length, filter, Option, Some, None, refl, ap, sym, subst, ◌∙◌, arith, slice_set}
use Rattle.std.specs.Prelude.{◌↔◌, IsTrue, IsSome, IsSomeAnd, IfSome}
use Rattle.std.proofs.lemmas.Bool.Decides.{nat_tests}
use Rattle.std.proofs.lemmas.List.{length-map, map-append}
use Rattle.ck_base.specs.declared.limits.TheConstants.{MAX_CONNECTIONS, MAX_OBJECTS}
use Rattle.ck_values.specs.declared.reference.Ref.{Ref}
use Rattle.ck_values.specs.declared.trap.Trap.TheVariants.{Connections, DelayLimit, ObjectLimit}
use Rattle.ugen_names.specs.declared.param.Param.{Param}
use Rattle.ck_values.specs.declared.side.Side.TheVariants.{Both as OnBoth}
use Rattle.ugen_names.specs.declared.table.UgenKind.{UgenKind}
use Rattle.ck_values.specs.Datum.{Datum, ARef}
use Rattle.ugen_kinds.specs.declared.generator.Generator.{Generator}
use Rattle.ugen_kinds.specs.SoundFile.{no_waves}
use Rattle.ugen_kinds.specs.Generator.{is_past_limit}
use Rattle.ugen_sample.specs.Connection.{Connection}
use Rattle.ugen_sample.specs.declared.unit.UnitState.{UnitState}
use Rattle.ugen_sample.specs.UnitState.{Units, unit_at, first_unit}
use Rattle.ugen_sample.specs.Parameters.{unit_parameter, with_unit_parameter}
use Rattle.ugen_sample.proofs.Limits.{unit_past}
use Rattle.ugen_graph.specs.declared.link.Link.{Link}
use Rattle.ugen_graph.specs.Links as links
use Rattle.ugen_graph.specs.Wiring.{Network, connection_of, connections_of, filled}
use Rattle.ck_store.specs.Store.{Object, UnitGenerator, Store, Try, Gives, Fails, IsFitting}
use Rattle.ck_store.specs.Objects.{Made, added}
use Rattle.ck_store.specs.Steps.{and_then, found, pick}
use Rattle.ck_store.specs.Graph.{place_at, unit_made, connected, leads, without_first, disconnected, parameter_of, unit_set, ReadBack, parameter_set, with_unit, generator_changed}
use Rattle.object_heap.specs.declared.body.Body.TheVariants.{Ugen}
use Rattle.object_heap.specs.Objects.{Objects, next, MakesObject}
use Rattle.value_ops.specs.Ends.{IsGiven}
use Rattle.value_ops.specs.Heaps.{shown_body, objects_of}
use Rattle.value_ops.proofs.Makes.{added_so, added_not, added_given}
use Rattle.value_ops.proofs.Wants.{is_given}
use Rattle.machine_world.specs.Units.{touches, detached}
use Rattle.machine_world.specs.Worlds.{Parts, store_of}
use Rattle.machine_world.proofs.Held.{shown_objects}
use Rattle.machine_world.proofs.Places.{AtEnd}
use Rattle.machine_world.proofs.Located.{Goes, goes, sits_within, Both, both_are, linked, unlinked, reads, reads_back, sets_to, sets, changes}

-- the world's store, from inside ----------------------------------------------------------------------

module _ (inside world : Parts) (same : inside ≡ world) where
  -- what holds of the store of a world holds of what it is made of, and the other way round
  from_inside : (P : Store → Type 0) → P (store_of world) → P (store_of inside)
  from_inside P holds = subst (λ (w : Parts). P (store_of w)) (sym same) holds

  of_inside : (P : Store → Type 0) → P (store_of inside) → P (store_of world)
  of_inside P holds = subst (λ (w : Parts). P (store_of w)) same holds

  -- a unit generator of the world's store is one of its heap
  pub unit_there : (d : Datum) → IsFitting (place_at (store_of world).objects d)
      → IsFitting (place_at (objects_of inside.heap) d)
  unit_there d fits =
      subst (λ (os : List Object). IsFitting (place_at os d)) (sym (shown_objects inside world same)) fits

  pub place_there : (d : Datum) (t : Try ℕ) → place_at (objects_of inside.heap) d ≡ t
      → place_at (store_of world).objects d ≡ t
  place_there d t is =
      subst (λ (os : List Object). place_at os d ≡ t) (shown_objects inside world same) is

-- connections ---------------------------------------------------------------------------------------

-- a link from one node to both sides of another
abbrev pub link_of : (n m : ℕ) (r s : Ref) → Link
link_of n m r s = record {
  from = record { node = n; at = r };
  to = record { node = m; at = s };
  side = OnBoth;
}

-- both ends of a connection are there
pub record AreThere (units : Units) (n m : ℕ) : Type 0 where
  pub from : n < length units
  pub to : m < length units

module _ (inside world : Parts) (same : inside ≡ world) (a b : Datum) (n m : ℕ)
    (at : place_at (objects_of inside.heap) a ≡ Gives n)
    (there : place_at (objects_of inside.heap) b ≡ Gives m) where
  both_connect : IsFitting (connected a b (store_of world))
      → Both (store_of inside) a b (linked (store_of inside)) n m
  unfolding connected store_of
  both_connect fits =
      let store = store_of inside in
      let fits1 = from_inside inside world same (λ s. IsFitting (connected a b s)) fits in
      both_are store a b (linked store) n at fits1 m there

  pub are_there : IsFitting (connected a b (store_of world)) → AreThere inside.graph.units n m
  unfolding store_of
  are_there fits =
      let both = both_connect fits in record {
        from = sits_within inside.graph.units n both.from;
        to = sits_within inside.graph.units m both.to;
      }

  pub connect_made : (later : Network) (r s : Ref) → IsFitting (connected a b (store_of world))
      → length inside.graph.links < MAX_CONNECTIONS
      → later ≡ record inside.graph { links = inside.graph.links ++ link_of n m r s ∷ [] }
      → connected a b (store_of world) ≡ Gives (store_of (record inside { graph = later }))
  unfolding connected store_of
  connect_made later r s fits few is =
      let store = store_of inside in
      let before = connections_of inside.graph.links in
      let one : Connection = record { from = n; to = m; side = OnBoth } in
      let size : length before ≡ length inside.graph.links =
      length-map inside.graph.links connection_of in
      let room : nat_lt (length before) MAX_CONNECTIONS ≡ true = grind (arith, nat_tests, size, few) in
      subst (λ (w : Parts). connected a b (store_of w) ≡ Gives (store_of (record inside { graph = later })))
      same
      ((both_connect fits).is
      ∙ ap (λ t. pick t (Gives (record store { connections = before ++ one ∷ [] })) (Fails Connections))
      room
      ∙ ap (λ cs. Gives (record store { connections = cs }))
      (sym (map-append connection_of inside.graph.links (link_of n m r s ∷ [])))
      ∙ ap (λ (g : Network). Gives (store_of (record inside { graph = g }))) (sym is))

  pub connect_full : IsFitting (connected a b (store_of world))
      → length inside.graph.links ≡ MAX_CONNECTIONS
      → connected a b (store_of world) ≡ Fails Connections
  unfolding connected store_of
  connect_full fits many =
      let store = store_of inside in
      let before = connections_of inside.graph.links in
      let one : Connection = record { from = n; to = m; side = OnBoth } in
      let size : length before ≡ length inside.graph.links =
      length-map inside.graph.links connection_of in
      let full : nat_lt (length before) MAX_CONNECTIONS ≡ false = grind (arith, nat_tests, size, many) in
      of_inside inside world same (λ s. connected a b s ≡ Fails Connections)
      ((both_connect fits).is
      ∙ ap (λ t. pick t (Gives (record store { connections = before ++ one ∷ [] })) (Fails Connections))
      full)

  -- there is a connection more where there is room for it
  pub connect_given : IsFitting (connected a b (store_of world))
      → length inside.graph.links < MAX_CONNECTIONS → IsGiven (connected a b (store_of world))
  connect_given fits few =
      let nowhere : Ref = record { serial = 0; slot = 0 } in
      let links = inside.graph.links ++ link_of n m nowhere nowhere ∷ [] in
      is_given _ _ (connect_made (record inside.graph { links = links }) nowhere nowhere fits few refl)

-- a connection fewer, by the links
without_link : (n m : ℕ) (ls : List Link)
    → without_first (leads n m OnBoth) (connections_of ls)
    ≡ connections_of (links.without (links.leads n m OnBoth) ls)
without_link n m [] = refl
without_link n m (l ∷ ls) = by (links.leads n m OnBoth l) (without_link n m ls)
  where
    by : (b : Bool) → without_first (leads n m OnBoth) (connections_of ls)
        ≡ connections_of (links.without (links.leads n m OnBoth) ls)
        → pick b (connections_of ls)
        (connection_of l ∷ without_first (leads n m OnBoth) (connections_of ls))
        ≡ connections_of (elim b [ true ↦ ls | false ↦ l ∷ links.without (links.leads n m OnBoth) ls ])
    by true rest = refl
    by false rest = ap (λ cs. connection_of l ∷ cs) rest

pub disconnect_made : (inside world : Parts) → inside ≡ world → (later : Network) (a b : Datum) (n m : ℕ)
    → place_at (objects_of inside.heap) a ≡ Gives n → place_at (objects_of inside.heap) b ≡ Gives m
    → IsFitting (disconnected a b (store_of world))
    → later ≡ record inside.graph { links = links.without (links.leads n m OnBoth) inside.graph.links }
    → disconnected a b (store_of world) ≡ Gives (store_of (record inside { graph = later }))
unfolding disconnected store_of
disconnect_made inside world same later a b n m at there fits is =
    let store = store_of inside in
    let fits1 = from_inside inside world same (λ s. IsFitting (disconnected a b s)) fits in
    let both = both_are store a b (unlinked store) n at fits1 m there in
    subst (λ (w : Parts). disconnected a b (store_of w)
    ≡ Gives (store_of (record inside { graph = later }))) same
    (both.is
    ∙ ap (λ cs. Gives (record store { connections = cs })) (without_link n m inside.graph.links)
    ∙ ap (λ (g : Network). Gives (store_of (record inside { graph = g }))) (sym is))

-- the links that pass no test -----------------------------------------------------------------------

module _ (test : Link → Bool) where
  abbrev pub others : List Link → List Link
  others ls = filter (λ l. not (test l)) ls

  -- one that passes is none of the others
  pub others_same : (ls : List Link) → others (links.without test ls) ≡ others ls
  others_same [] = refl
  others_same (l ∷ ls) = by (test l) refl (others_same ls)
    where
      by : (b : Bool) → test l ≡ b → others (links.without test ls) ≡ others ls
          → others (elim b [ true ↦ ls | false ↦ l ∷ links.without test ls ])
          ≡ cond (not b) (l ∷ others ls) (others ls)
      by true is rest = refl
      by false is rest =
          ap (λ t. cond (not t) (l ∷ others (links.without test ls)) (others (links.without test ls))) is
          ∙ ap (λ os. l ∷ os) rest

  -- where none passes
  pub none_passes : (ls : List Link) → links.earliest test ls ≡ None → others ls ≡ ls
  none_passes [] none = refl
  none_passes (l ∷ ls) none = by (test l) none (none_passes ls)
    where
      by : (b : Bool)
          → ◌≡◌ {A = Option Link} (elim b [ true ↦ Some l | false ↦ links.earliest test ls ]) None
          → (links.earliest test ls ≡ None → others ls ≡ ls)
          → cond (not b) (l ∷ others ls) (others ls) ≡ l ∷ ls
      by true none rest = absurd (cc none)
      by false none rest = ap (λ os. l ∷ os) (rest none)

  pub none_taken : (ls : List Link) → links.earliest test ls ≡ None → links.without test ls ≡ ls
  none_taken [] none = refl
  none_taken (l ∷ ls) none = by (test l) none (none_taken ls)
    where
      by : (b : Bool)
          → ◌≡◌ {A = Option Link} (elim b [ true ↦ Some l | false ↦ links.earliest test ls ]) None
          → (links.earliest test ls ≡ None → links.without test ls ≡ ls)
          → ◌≡◌ {A = List Link} (elim b [ true ↦ ls | false ↦ l ∷ links.without test ls ]) (l ∷ ls)
      by true none rest = absurd (cc none)
      by false none rest = ap (λ os. l ∷ os) (rest none)

  -- and where one does, it is taken
  pub one_fewer : (ls : List Link) (first : Link) → links.earliest test ls ≡ Some first
      → length ls ≡ suc (length (links.without test ls))
  one_fewer [] first some = absurd (cc some)
  one_fewer (l ∷ ls) first some = by (test l) some (one_fewer ls first)
    where
      by : (b : Bool)
          → ◌≡◌ {A = Option Link} (elim b [ true ↦ Some l | false ↦ links.earliest test ls ])
          (Some first)
          → (links.earliest test ls ≡ Some first → length ls ≡ suc (length (links.without test ls)))
          → suc (length ls)
          ≡ suc (length {A = Link} (elim b [ true ↦ ls | false ↦ l ∷ links.without test ls ]))
      by true some rest = refl
      by false some rest = ap suc (rest some)

-- one link of what a shred made is taken out
pub detached_one : (start now later : Network) (maker : ℕ) → now ≡ record start { links = now.links }
    → others (links.touches start.units maker) now.links
    ≡ others (links.touches start.units maker) start.links
    → later ≡ record now { links = links.without (links.touches now.units maker) now.links }
    → (later ≡ record start { links = later.links })
    × (others (links.touches start.units maker) later.links
    ≡ others (links.touches start.units maker) start.links)
detached_one start now later maker same left is =
    let test = links.touches start.units maker in
    let units : now.units ≡ start.units = ap (λ (g : Network). g.units) same in
    let taken = links.without (links.touches now.units maker) now.links in (
      is ∙ ap (λ (us : Units). record { units = us; links = taken }) units
          ∙ ap (λ ls. record start { links = ls }) (sym (ap (λ (g : Network). g.links) is)),
      ap (λ (g : Network). others test g.links) is
          ∙ ap (λ (us : Units). others test (links.without (links.touches us maker) now.links)) units
          ∙ others_same test now.links ∙ left,
    )

-- all links of what a shred made are taken out
pub detached_all : (start now end : Network) (maker : ℕ) → now ≡ record start { links = now.links }
    → others (links.touches start.units maker) now.links
    ≡ others (links.touches start.units maker) start.links
    → links.earliest (links.touches now.units maker) now.links ≡ None
    → end ≡ record now { links = links.without (links.touches now.units maker) now.links }
    → end ≡ record start { links = others (links.touches start.units maker) start.links }
detached_all start now end maker same left none is =
    let test = links.touches start.units maker in
    let units : now.units ≡ start.units = ap (λ (g : Network). g.units) same in
    let none_now : links.earliest test now.links ≡ None =
    subst (λ (us : Units). links.earliest (links.touches us maker) now.links ≡ None) units none in
    let rest = links.without test now.links in
    let all : rest ≡ now.links = none_taken test now.links none_now in
    is
    ∙ ap (λ (us : Units). record {
      units = us;
      links = links.without (links.touches us maker) now.links;
    }) units
    ∙ ap (λ ls. record start { links = ls })
    (all ∙ sym (none_passes test now.links none_now) ∙ left)

-- the connections that are left
detached_links : (units : Units) (maker : ℕ) (ls : List Link)
    → connections_of (others (links.touches units maker) ls)
    ≡ filter (λ c. not (touches units maker c)) (connections_of ls)
detached_links units maker [] = refl
detached_links units maker (l ∷ ls) =
    by (links.touches units maker l) (detached_links units maker ls)
  where
    by : (b : Bool) → connections_of (others (links.touches units maker) ls)
        ≡ filter (λ c. not (touches units maker c)) (connections_of ls)
        → connections_of (cond (not b) (l ∷ others (links.touches units maker) ls)
        (others (links.touches units maker) ls))
        ≡ cond (not b) (connection_of l ∷ filter (λ c. not (touches units maker c)) (connections_of ls))
        (filter (λ c. not (touches units maker c)) (connections_of ls))
    by true rest = rest
    by false rest = ap (λ cs. connection_of l ∷ cs) rest

pub detached_so : (inside world : Parts) (later : Network) (maker : ℕ) → inside ≡ world
    → later ≡ record inside.graph {
      links = others (links.touches inside.graph.units maker) inside.graph.links;
    }
    → store_of (record inside { graph = later }) ≡ detached maker (store_of world)
unfolding store_of
detached_so inside world later maker same is =
    ap (λ (g : Network). store_of (record inside { graph = g })) is
    ∙ ap (λ cs. record (store_of inside) { connections = cs })
    (detached_links inside.graph.units maker inside.graph.links)
    ∙ ap (λ (w : Parts). detached maker (store_of w)) same

-- parameters ----------------------------------------------------------------------------------------

-- what is put in the place of one is there
set_there : (units : Units) (n : ℕ) (unit after : UnitState) → unit_at units n ≡ Some unit
    → unit_at (slice_set units n (Some after)) n ≡ Some after
set_there [] n unit after there = absurd cc
set_there (u ∷ us) zero unit after there = refl
set_there (u ∷ us) (suc n) unit after there = set_there us n unit after there

some_found : {A : Type 0} (o : Option A) → IsFitting (found o) → IsSome o
some_found None fits = absurd fits
some_found (Some a) fits = refl

some_then : {A B : Type 0} (o : Option A) (go : A → Try B) → IsFitting (and_then (found o) go)
    → IsSome o
some_then None go fits = absurd fits
some_then (Some a) go fits = refl

some_and : {A : Type 0} (o : Option A) (a : A) (P : A → Type 0) → o ≡ Some a → P a → IsSomeAnd o P
some_and o a P is holds = subst (λ o. IsSomeAnd o P) (sym is) holds

of_some : {A : Type 0} (o : Option A) (a : A) (P : A → Type 0) → o ≡ Some a → IfSome o P → P a
of_some o a P is holds = subst (λ o. IfSome o P) is holds

-- a test of a unit generator, by an answer that comes exactly where it passes
pub not_past : {R : Type 0} (r limit : R) (o : Option UnitState) (test : UnitState → Bool)
    → IfSome o (λ u. (r ≡ limit) ↔ IsTrue (test u)) → (r ≡ limit → ⊥)
    → IfSome o (λ u. test u ≡ false)
not_past r limit None test exact never = tt
not_past r limit (Some u) test exact never = by (test u) refl
  where
    by : (t : Bool) → test u ≡ t → test u ≡ false
    by true is = absurd (never (exact.1 is))
    by false is = is

pub in_past : {R : Type 0} (r limit : R) (o : Option UnitState) (test : UnitState → Bool)
    → IfSome o (λ u. (r ≡ limit) ↔ IsTrue (test u)) → r ≡ limit
    → IfSome o (λ u. test u ≡ true)
in_past r limit None test exact came = tt
in_past r limit (Some u) test exact came = exact.0 came

module _ (inside world : Parts) (same : inside ≡ world) (u : Datum) (n : ℕ) (p : Param)
    (at : place_at (objects_of inside.heap) u ≡ Gives n) where
  found_read : IsFitting (parameter_of p u (store_of world)) → Goes (store_of inside) u (reads p) n
  unfolding parameter_of store_of
  found_read fits =
      goes (store_of inside) u (reads p) n at
      (from_inside inside world same (λ s. IsFitting (parameter_of p u s)) fits)

  pub can_read : IsFitting (parameter_of p u (store_of world))
      → IsSomeAnd (unit_at inside.graph.units n) (λ unit. IsSome (unit_parameter no_waves p unit))
  unfolding store_of
  can_read fits =
      let g = found_read fits in
      some_and (unit_at inside.graph.units n) g.sits.unit (λ unit. IsSome (unit_parameter no_waves p unit))
      g.sits.at (some_found (unit_parameter no_waves p g.sits.unit) g.fits)

  pub is_read : (v : Datum) → IsFitting (parameter_of p u (store_of world))
      → IfSome (unit_at inside.graph.units n) (λ unit. Some v ≡ unit_parameter no_waves p unit)
      → parameter_of p u (store_of world) ≡ Gives v
  unfolding parameter_of store_of
  is_read v fits is =
      let g = found_read fits in
      of_inside inside world same (λ s. parameter_of p u s ≡ Gives v)
      (g.is
      ∙ ap found (sym (of_some (unit_at inside.graph.units n) g.sits.unit
      (λ unit. Some v ≡ unit_parameter no_waves p unit) g.sits.at is)))

  abbrev back : ℕ → UnitState → Datum → Try ReadBack
  back place unit w = reads_back (store_of inside) place unit w

  abbrev to : ℕ → UnitState → Try ReadBack
  to place unit = sets_to p (store_of inside) place unit

  -- it can be set, or is past a limit
  pub record Settable (v : Datum) : Type 0 where
    pub unit : UnitState
    pub sits : unit_at inside.graph.units n ≡ Some unit
    pub can : IsSome (with_unit_parameter no_waves p v unit)
    pub is : parameter_set p u v (store_of inside) ≡ and_then (unit_set p v unit) (to n)
    pub fits : IsFitting (and_then (unit_set p v unit) (to n))

  can_so : (v : Datum) (unit : UnitState) (b : Bool) → is_past_limit p v unit.generator ≡ b
      → IsFitting (and_then (pick b (Fails DelayLimit) (found (with_unit_parameter no_waves p v unit))) (to n))
      → IsSome (with_unit_parameter no_waves p v unit)
  can_so v unit true past fits = unit_past no_waves p v unit past
  can_so v unit false past fits = some_then (with_unit_parameter no_waves p v unit) (to n) fits

  settable : (v : Datum) → IsFitting (parameter_set p u v (store_of world)) → Settable v
  unfolding parameter_set store_of
  settable v fits =
      let fits1 = from_inside inside world same (λ s. IsFitting (parameter_set p u v s)) fits in
      let g = goes (store_of inside) u (sets p v (store_of inside)) n at fits1 in
      let unit = g.sits.unit in
      record {
        unit = unit;
        sits = g.sits.at;
        can = can_so v unit (is_past_limit p v unit.generator) refl g.fits;
        is = g.is;
        fits = g.fits;
      }

  pub can_set : (v : Datum) → IsFitting (parameter_set p u v (store_of world))
      → IsSomeAnd (unit_at inside.graph.units n) (λ unit. IsSome (with_unit_parameter no_waves p v unit))
  can_set v fits =
      let s = settable v fits in
      some_and (unit_at inside.graph.units n) s.unit (λ unit. IsSome (with_unit_parameter no_waves p v unit))
      s.sits s.can

  -- whether it is past a limit
  abbrev pub IsPast : (v : Datum) → Bool → Type 0
  IsPast v b = IfSome (unit_at inside.graph.units n) (λ unit. is_past_limit p v unit.generator ≡ b)

  pub is_refused : (v : Datum) → IsFitting (parameter_set p u v (store_of world)) → IsPast v true
      → parameter_set p u v (store_of world) ≡ Fails DelayLimit
  is_refused v fits past =
      let s = settable v fits in
      let is_past : is_past_limit p v s.unit.generator ≡ true =
      of_some (unit_at inside.graph.units n) s.unit (λ unit. is_past_limit p v unit.generator ≡ true)
      s.sits past in
      of_inside inside world same (λ store. parameter_set p u v store ≡ Fails DelayLimit)
      (s.is
      ∙ ap (λ b. and_then (pick b (Fails DelayLimit) (found (with_unit_parameter no_waves p v s.unit))) (to n))
      is_past)

  -- it is set within the limits, and can be read back then
  record Settled (v : Datum) : Type 0 where
    unit : UnitState
    sits : unit_at inside.graph.units n ≡ Some unit
    after : UnitState
    is_after : with_unit_parameter no_waves p v unit ≡ Some after
    is : parameter_set p u v (store_of inside) ≡ to n after
    reads : IsSome (unit_parameter no_waves p after)

  after_so : (v : Datum) (unit : UnitState) (o : Option UnitState)
      → unit_at inside.graph.units n ≡ Some unit → with_unit_parameter no_waves p v unit ≡ o
      → parameter_set p u v (store_of inside) ≡ and_then (found o) (to n)
      → IsFitting (and_then (found o) (to n)) → Settled v
  after_so v unit None sits is_after is fits = absurd fits
  after_so v unit (Some after) sits is_after is fits = record {
    unit = unit;
    sits = sits;
    after = after;
    is_after = is_after;
    is = is;
    reads = some_then (unit_parameter no_waves p after) (back n after) fits;
  }

  settled : (v : Datum) → IsFitting (parameter_set p u v (store_of world)) → IsPast v false
      → Settled v
  settled v fits within =
      let s = settable v fits in
      let o = with_unit_parameter no_waves p v s.unit in
      let no : is_past_limit p v s.unit.generator ≡ false =
      of_some (unit_at inside.graph.units n) s.unit (λ unit. is_past_limit p v unit.generator ≡ false)
      s.sits within in
      after_so v s.unit o s.sits refl
      (s.is ∙ ap (λ b. and_then (pick b (Fails DelayLimit) (found o)) (to n)) no)
      (subst (λ b. IsFitting (and_then (pick b (Fails DelayLimit) (found o)) (to n))) no s.fits)

  -- the graph with it set
  abbrev pub IsSet : (v : Datum) → Network → Type 0
  IsSet v later = IfSome (unit_at inside.graph.units n)
      (λ unit. IfSome (with_unit_parameter no_waves p v unit)
      (λ w. later ≡ record inside.graph { units = slice_set inside.graph.units n (Some w) }))

  set_so : (v : Datum) (later : Network) (s : Settled v) → IsSet v later
      → later ≡ record inside.graph { units = slice_set inside.graph.units n (Some s.after) }
  set_so v later s is =
      of_some (with_unit_parameter no_waves p v s.unit) s.after
      (λ w. later ≡ record inside.graph { units = slice_set inside.graph.units n (Some w) }) s.is_after
      (of_some (unit_at inside.graph.units n) s.unit
      (λ unit. IfSome (with_unit_parameter no_waves p v unit)
      (λ w. later ≡ record inside.graph { units = slice_set inside.graph.units n (Some w) })) s.sits is)

  sits_after : (v : Datum) (later : Network) (s : Settled v) → IsSet v later
      → unit_at later.units n ≡ Some s.after
  sits_after v later s is =
      ap (λ (g : Network). unit_at g.units n) (set_so v later s is)
      ∙ set_there inside.graph.units n s.unit s.after s.sits

  pub can_read_back : (v : Datum) (later : Network)
      → IsFitting (parameter_set p u v (store_of world)) → IsPast v false → IsSet v later
      → IsSomeAnd (unit_at later.units n) (λ unit. IsSome (unit_parameter no_waves p unit))
  can_read_back v later fits within is =
      let s = settled v fits within in
      some_and (unit_at later.units n) s.after (λ unit. IsSome (unit_parameter no_waves p unit))
      (sits_after v later s is) s.reads

  pub is_set : (v w : Datum) (later : Network) → IsFitting (parameter_set p u v (store_of world))
      → IsPast v false → IsSet v later
      → IfSome (unit_at later.units n) (λ unit. Some w ≡ unit_parameter no_waves p unit)
      → parameter_set p u v (store_of world)
      ≡ Gives (record { value = w; store = store_of (record inside { graph = later }) })
  unfolding store_of
  is_set v w later fits within is read =
      let s = settled v fits within in
      subst (λ (x : Parts). parameter_set p u v (store_of x)
      ≡ Gives (record { value = w; store = store_of (record inside { graph = later }) })) same
      (s.is
      ∙ ap (λ o. and_then (found o) (back n s.after))
      (sym (of_some (unit_at later.units n) s.after (λ unit. Some w ≡ unit_parameter no_waves p unit)
      (sits_after v later s is) read))
      ∙ ap (λ (g : Network). Gives (record { value = w; store = store_of (record inside { graph = g }) }))
      (sym (set_so v later s is)))

  -- within the limits there is what is read back
  back_given : (o : Option Datum) (go : Datum → ReadBack) → IsSome o
      → IsGiven (and_then (found o) (λ w. Gives (go w)))
  back_given None go some = absurd (cc some)
  back_given (Some w) go some = tt

  pub set_given : (v : Datum) → IsFitting (parameter_set p u v (store_of world)) → IsPast v false
      → IsGiven (parameter_set p u v (store_of world))
  set_given v fits within =
      let s = settled v fits within in
      of_inside inside world same (λ store. IsGiven (parameter_set p u v store))
      (subst (λ (t : Try ReadBack). IsGiven t) (sym s.is)
      (back_given (unit_parameter no_waves p s.after) (λ w. record {
        value = w;
        store = record (store_of inside) { units = slice_set (store_of inside).units n (Some s.after) };
      }) s.reads))

-- a change of what one keeps --------------------------------------------------------------------------

module _ (inside world : Parts) (same : inside ≡ world) (u : Datum) (n : ℕ)
    (change : Generator → Option Generator) (at : place_at (objects_of inside.heap) u ≡ Gives n) where
  found_change : IsFitting (generator_changed change u (store_of world))
      → Goes (store_of inside) u (changes change (store_of inside)) n
  unfolding generator_changed store_of
  found_change fits =
      goes (store_of inside) u (changes change (store_of inside)) n at
      (from_inside inside world same (λ s. IsFitting (generator_changed change u s)) fits)

  abbrev put : UnitState → Generator → Try Store
  put unit generator = Gives (with_unit n (record unit { generator = generator }) (store_of inside))

  pub can_change : IsFitting (generator_changed change u (store_of world))
      → IsSomeAnd (unit_at inside.graph.units n) (λ unit. IsSome (change unit.generator))
  unfolding store_of
  can_change fits =
      let g = found_change fits in
      some_and (unit_at inside.graph.units n) g.sits.unit (λ unit. IsSome (change unit.generator))
      g.sits.at (some_then (change g.sits.unit.generator) (put g.sits.unit) g.fits)

  -- the graph with it changed
  abbrev pub IsChanged : Network → Type 0
  IsChanged later = IfSome (unit_at inside.graph.units n) (λ unit. IfSome (change unit.generator)
      (λ generator. later ≡ record inside.graph {
        units = slice_set inside.graph.units n (Some (record unit { generator = generator }));
      }))

  changed_so : (later : Network) (unit : UnitState) (o : Option Generator)
      → IfSome o (λ generator. later ≡ record inside.graph {
        units = slice_set inside.graph.units n (Some (record unit { generator = generator }));
      })
      → IsFitting (and_then (found o) (put unit))
      → and_then (found o) (put unit) ≡ Gives (store_of (record inside { graph = later }))
  unfolding store_of
  changed_so later unit None is fits = absurd fits
  changed_so later unit (Some generator) is fits =
      ap (λ (g : Network). Gives (store_of (record inside { graph = g }))) (sym is)

  pub is_changed : (later : Network) → IsFitting (generator_changed change u (store_of world))
      → IsChanged later
      → generator_changed change u (store_of world) ≡ Gives (store_of (record inside { graph = later }))
  unfolding generator_changed store_of
  is_changed later fits is =
      let g = found_change fits in
      let unit = g.sits.unit in
      subst (λ (x : Parts). generator_changed change u (store_of x)
      ≡ Gives (store_of (record inside { graph = later }))) same
      (g.is
      ∙ changed_so later unit (change unit.generator)
      (of_some (unit_at inside.graph.units n) unit (λ unit. IfSome (change unit.generator)
      (λ generator. later ≡ record inside.graph {
        units = slice_set inside.graph.units n (Some (record unit { generator = generator }));
      })) g.sits.at is) g.fits)

-- a unit generator that is made ---------------------------------------------------------------------

pub unit_added : (inside world : Parts) → inside ≡ world → (heap : Objects) (graph : Network)
    (kind : UgenKind) (maker node number : ℕ) (at : Ref) → inside.heap.first ≡ 1
    → number ≡ next inside.heap
    → AtEnd inside.graph.units node (first_unit kind maker number)
    → graph ≡ record inside.graph {
      units = filled node (first_unit kind maker number) inside.graph.units;
    }
    → MakesObject inside.heap (Ugen node) at heap
    → unit_made kind maker (store_of world) ≡ Gives (record {
      reference = ARef at.serial;
      store = store_of (record inside { heap = heap; graph = graph });
    })
unfolding unit_made store_of
unit_added inside world same heap graph kind maker node number at first is_number end is_graph made =
    let store = store_of inside in
    let grown_by : ℕ → Store =
    λ k. record store { units = store.units ++ Some (first_unit kind maker k) ∷ [] } in
    let size : length store.objects ≡ length inside.heap.bodies =
    length-map inside.heap.bodies shown_body in
    let is_next : suc (length store.objects) ≡ number =
    omega (arith, size, first, is_number) in
    let with_it : Network → Try Made = λ g. Gives (record {
      reference = ARef at.serial;
      store = store_of (record inside { heap = heap; graph = g });
    }) in
    let is_end : graph ≡ record inside.graph {
      units = inside.graph.units ++ Some (first_unit kind maker number) ∷ [];
    } = is_graph ∙ ap (λ (us : Units). record inside.graph { units = us }) end.is in
    subst (λ (w : Parts). unit_made kind maker (store_of w) ≡ with_it graph) same
    (ap (λ k. added (UnitGenerator (length store.units)) (grown_by k)) is_next
    ∙ ap (λ n. added (UnitGenerator n) (grown_by number)) (sym end.place)
    ∙ added_so (grown_by number) inside.heap heap at (Ugen node) first made
    ∙ ap with_it (sym is_end))

pub unit_given : (inside world : Parts) → inside ≡ world → (kind : UgenKind) (maker : ℕ)
    → inside.heap.first ≡ 1 → next inside.heap ≤ MAX_OBJECTS
    → IsGiven (unit_made kind maker (store_of world))
unfolding unit_made store_of
unit_given inside world same kind maker first few =
    let store = store_of inside in
    let unit = first_unit kind maker (suc (length store.objects)) in
    of_inside inside world same (λ s. IsGiven (unit_made kind maker s))
    (added_given (record store { units = store.units ++ Some unit ∷ [] }) inside.heap
    (UnitGenerator (length store.units)) first few)

pub unit_refused : (inside world : Parts) → inside ≡ world → (kind : UgenKind) (maker : ℕ)
    → inside.heap.first ≡ 1 → MAX_OBJECTS < next inside.heap
    → unit_made kind maker (store_of world) ≡ Fails ObjectLimit
unfolding unit_made store_of
unit_refused inside world same kind maker first many =
    let store = store_of inside in
    let unit = first_unit kind maker (suc (length store.objects)) in
    of_inside inside world same (λ s. unit_made kind maker s ≡ Fails ObjectLimit)
    (added_not (record store { units = store.units ++ Some unit ∷ [] }) inside.heap
    (UnitGenerator (length store.units)) first many)
