-- A run that goes on has told what it had told before, and more.
use Rattle.std.proofs.Common.{◌≡◌, ℕ, zero, suc, ◌+◌, List, [], ◌∷◌, ◌++◌, refl, sym, ap, ◌∙◌, subst, arith, append_assoc, append-nil}
use Rattle.ck_values.specs.declared.kind.Kind.{Kind}
use Rattle.ugen_kinds.specs.declared.output.Output.{Output}
use Rattle.ck_run.specs.Run.{Runner, Piece, Wake, Run, settled, most_slices, sampled, run_of, since, block_between}
use Rattle.ck_run.specs.Told.{silent, told, GoesOn, joined}
use Rattle.ck_run.proofs.Frame.{told-settled, told-sampled}

pub since-front : {A : Type 0} (xs ys : List A) → since xs (xs ++ ys) ≡ ys
since-front [] ys = refl
since-front (x ∷ xs) ys = since-front xs ys

-- what came since, in two parts
since_both : {A : Type 0} (one two three xs ys : List A) → two ≡ one ++ xs → three ≡ two ++ ys
    → since one three ≡ since one two ++ since two three
since_both one two three xs ys a b =
    ap (since one) (b ∙ ap (λ l. l ++ ys) a ∙ append_assoc one xs ys) ∙ since-front one (xs ++ ys)
    ∙ ap (λ l. l ++ ys) (sym (ap (since one) a ∙ since-front one xs))
    ∙ ap (λ l. since one two ++ l) (sym (ap (since two) b ∙ since-front two ys))

grown : {A : Type 0} (before after more : List A) → after ≡ before ++ more → after ≡ before
    ++ since before after
grown before after more e = e ∙ ap (λ l. before ++ l) (sym (ap (since before) e ∙ since-front before more))

module _ {P : Type 0} where
  -- a run has told these since
  pub record Grows (before after : Run P) (xs : List Output) (ts : List Piece) (ws : List Wake) (begun : ℕ) : Type
      0 where
    pub samples_grow : after.samples ≡ before.samples ++ xs
    pub text_grows : after.text ≡ before.text ++ ts
    pub wakes_grow : after.wakes ≡ before.wakes ++ ws
    pub begun_grows : after.begun ≡ before.begun + begun

  pub grows_more : (one two three : Run P) (xs xs2 : List Output) (ts ts2 : List Piece) (ws ws2 : List Wake)
      (b b2 : ℕ)
      → Grows one two xs ts ws b → Grows two three xs2 ts2 ws2 b2 → Grows one three (xs ++ xs2) (ts ++ ts2)
      (ws ++ ws2) (b + b2)
  grows_more one two three xs xs2 ts ts2 ws ws2 b b2 first next = record {
    samples_grow = next.samples_grow ∙ ap (λ l. l ++ xs2) first.samples_grow ∙ append_assoc one.samples xs xs2;
    text_grows = next.text_grows ∙ ap (λ l. l ++ ts2) first.text_grows ∙ append_assoc one.text ts ts2;
    wakes_grow = next.wakes_grow ∙ ap (λ l. l ++ ws2) first.wakes_grow ∙ append_assoc one.wakes ws ws2;
    begun_grows = omega (arith, first.begun_grows, next.begun_grows);
  }

  pub grows_same : (run : Run P) → Grows run run [] [] [] 0
  grows_same run = record {
    samples_grow = sym (append-nil run.samples);
    text_grows = sym (append-nil run.text);
    wakes_grow = sym (append-nil run.wakes);
    begun_grows = omega arith;
  }

  pub goes_on : (before after : Run P) (xs : List Output) (ts : List Piece) (ws : List Wake) (begun : ℕ)
      → Grows before after xs ts ws begun → GoesOn before after
  goes_on before after xs ts ws begun grows = record {
    samples = grown before.samples after.samples xs grows.samples_grow;
    text = grown before.text after.text ts grows.text_grows;
    wakes = grown before.wakes after.wakes ws grows.wakes_grow;
  }

  -- a run is what it has told, and what is silent of it
  pub as_told : (run : Run P) → run ≡ told run.samples run.text run.wakes run.begun (silent run)
  as_told run =
      ap (λ xs. record run { samples = xs }) (sym (append-nil run.samples))
      ∙ ap (λ ts. record run { samples = run.samples ++ []; text = ts }) (sym (append-nil run.text))
      ∙ ap (λ ws. record run { samples = run.samples ++ []; text = run.text ++ []; wakes = ws })
      (sym (append-nil run.wakes))
      ∙ ap (λ b. record run {
        samples = run.samples ++ [];
        text = run.text ++ [];
        wakes = run.wakes ++ [];
        begun =
            b;
      }) (let e : run.begun ≡ run.begun + 0 = omega arith in e)

  -- what was told before what was told
  pub told_more : (xs xs2 : List Output) (ts ts2 : List Piece) (ws ws2 : List Wake) (b b2 : ℕ) (run : Run P)
      → told xs ts ws b (told xs2 ts2 ws2 b2 run) ≡ told (xs ++ xs2) (ts ++ ts2) (ws ++ ws2) (b + b2) run
  told_more xs xs2 ts ts2 ws ws2 b b2 run =
      let last = told (xs ++ xs2) (ts ++ ts2) (ws ++ ws2) (b + b2) run in
      ap (λ l. record (told xs ts ws b (told xs2 ts2 ws2 b2 run)) { samples = l })
      (sym (append_assoc xs xs2 run.samples))
      ∙ ap (λ l. record last { text = l; wakes = ws ++ (ws2 ++ run.wakes); begun = b + (b2 + run.begun) })
      (sym (append_assoc ts ts2 run.text))
      ∙ ap (λ l. record last { wakes = l; begun = b + (b2 + run.begun) }) (sym (append_assoc ws ws2 run.wakes))
      ∙ ap (λ m. record last { begun = m }) (let e : b + (b2 + run.begun) ≡ (b + b2) + run.begun =
      omega arith in e)

  module _ (runner : Runner P) (mains : List ℕ) (statics : List Kind) where
    abbrev at : ℕ → Run P
    at n = run_of runner mains statics n

    -- what comes after so many samples, told from then on
    abbrev pub quiet : ℕ → Run P
    quiet n = settled runner (most_slices (at n)) (silent (at n))

    pub next_run : (n : ℕ) → at (suc n) ≡ told (at n).samples (at n).text (at n).wakes (at n).begun
        (sampled runner (quiet n))
    next_run n =
        let run = at n in
        let bound = most_slices run in
        ap (λ r. sampled runner (settled runner bound r)) (as_told run)
        ∙ ap (λ (r : Run P). sampled runner r) (told-settled runner run.samples run.text run.wakes run.begun bound
        (silent run))
        ∙ told-sampled runner run.samples run.text run.wakes run.begun (quiet n)

    pub next_grows : (n : ℕ)
        → (let more =
        sampled runner (quiet n) in Grows (at n) (at (suc n)) more.samples more.text more.wakes more.begun)
    next_grows n = record {
      samples_grow = ap (λ (r : Run P). r.samples) (next_run n);
      text_grows = ap (λ (r : Run P). r.text) (next_run n);
      wakes_grow = ap (λ (r : Run P). r.wakes) (next_run n);
      begun_grows = ap (λ (r : Run P). r.begun) (next_run n);
    }

    pub record GrowsSome (before after : Run P) : Type 0 where
      pub xs : List Output
      pub ts : List Piece
      pub ws : List Wake
      pub more : ℕ
      pub grows : Grows before after xs ts ws more

    pub run_grows : (k n : ℕ) → GrowsSome (at n) (at (n + k))
    run_grows zero n = record {
      xs = [];
      ts = [];
      ws = [];
      more = 0;
      grows =
          subst (λ m. Grows (at n) (at m) [] [] [] 0) (omega arith) (grows_same (at n));
    }
    run_grows (suc k) n =
        let rest = run_grows k (suc n) in
        let more = sampled runner (quiet n) in
        record {
          xs = more.samples ++ rest.xs;
          ts = more.text ++ rest.ts;
          ws = more.wakes ++ rest.ws;
          more = more.begun + rest.more;
          grows = subst (λ m. Grows (at n) (at m) (more.samples ++ rest.xs) (more.text ++ rest.ts)
              (more.wakes ++ rest.ws) (more.begun + rest.more)) (omega arith)
              (grows_more (at n) (at (suc n)) (at (suc n + k)) more.samples rest.xs more.text rest.ts more.wakes
              rest.ws more.begun rest.more (next_grows n) rest.grows);
        }

    pub run_goes_on : (n k : ℕ) → GoesOn (at n) (at (n + k))
    run_goes_on n k =
        let more = run_grows k n in
        goes_on (at n) (at (n + k)) more.xs more.ts more.ws more.more more.grows

    -- two blocks are one
    pub blocks_join : (n a b : ℕ) → block_between (at n) (at ((n + a) + b)) ≡ joined
        (block_between (at n) (at (n + a))) (block_between (at (n + a)) (at ((n + a) + b)))
    blocks_join n a b =
        let first = (run_grows a n) in
        let next = (run_grows b (n + a)) in
        let one = at n in
        let two = at (n + a) in
        let three = at ((n + a) + b) in
        ap (λ xs. record (block_between one three) { samples = xs })
        (since_both one.samples two.samples three.samples first.xs next.xs first.grows.samples_grow
        next.grows.samples_grow)
        ∙ ap (λ ts. record (joined (block_between one two) (block_between two three)) {
          text = ts;
          wakes =
              since one.wakes three.wakes;
        })
        (since_both one.text two.text three.text first.ts next.ts first.grows.text_grows next.grows.text_grows)
        ∙ ap (λ ws. record (joined (block_between one two) (block_between two three)) { wakes = ws })
        (since_both one.wakes two.wakes three.wakes first.ws next.ws first.grows.wakes_grow
        next.grows.wakes_grow)
