-- Where the machine stops is the first fault.
use Rattle.std.proofs.Common.{◌≡◌, ℕ, zero, suc, ◌+◌, ◌-◌, ◌<◌, ◌≤◌, List, [], ◌∷◌, ◌++◌, length}
use Rattle.std.proofs.Common.{take, drop, get_or, Bool, true, false, cond, Option, Some, None, refl}
use Rattle.std.proofs.Common.{sym, ◌∙◌, ap, subst, arith}
use Rattle.std.specs.Prelude.{slice_get}
use Rattle.std.proofs.lemmas.List.{length-append, take-append-drop}
use Rattle.std.proofs.lemmas.Option.{slice_get_within, slice_get-get_or}
use Rattle.std.proofs.lemmas.Bool.Decides.{nat_tests}
use Rattle.ck_base.specs.declared.limits.TheConstants.{MAX_NESTING}
use Rattle.ck_lexer.specs.declared.token.Token.{Token}
use Rattle.ck_lexer.specs.declared.token.TokenKind.{TokenKind}
use Rattle.ck_lexer.specs.declared.token.TokenKind.TheVariants.{End}
use Rattle.ck_parser.specs.Depth.{file_depths}
use Rattle.ck_parser.specs.Grammar.{IsFile}
use Rattle.parse_exprs.specs.Machine.{for_start}
use Rattle.parse_exprs.specs.Machine.{State, done, sign, may, a_name, a_base, pairs, postfix, unary}
use Rattle.parse_exprs.specs.Machine.{operand, declared, declared_or, calls, durs, casts, joins}
use Rattle.parse_exprs.specs.Machine.{asks, chucks, brackets, sizes, more_exprs, more_declrs}
use Rattle.parse_exprs.specs.Machine.{an_expr_stmt, a_stmt, stmts, more_params, members, items}
use Rattle.parse_exprs.specs.Machine.{Next, step, heights, depths_on, Stop, accepted, faulty, deep}
use Rattle.parse_exprs.specs.Machine.{ended, at_end, resume, left, is_shallow, start}
use Rattle.ck_parser.specs.Parse.{AreShallow, BeginsFile, IsFaulty, IsTooDeep, StandsAt, is_end}
use Rattle.ck_parser.specs.Parse.{is_empty, ends_here, ends_once, Verdict, reads, syntax, too_deep}
use Rattle.ck_parser.proofs.Completions.{At}
use Rattle.ck_parser.proofs.Fills.{take_fills, file_of, sound}
use Rattle.ck_parser.proofs.PassesFile.{heights-file}
use Rattle.ck_parser.proofs.Size.{heights-front, depths-length}
use Rattle.ck_syntax.specs.Tree.{File}

-- ---- what a stop says of the depths

-- so many tokens are passed, of which none is too deep
record Passed (ts : List Token) (s : State) (k : ℕ) : Type 0 where
  pub shallow : AreShallow (take k (heights ts s))
  pub long : k ≤ length (heights ts s)

record Faulty (ts : List Token) (s : State) (n k : ℕ) : Type 0 where
  pub passed : Passed ts s k
  pub all : k ≡ length (heights ts s)
  pub count : k + n ≡ length ts

record Deep (ts : List Token) (s : State) (n k : ℕ) : Type 0 where
  pub passed : Passed ts s k
  pub count : k + n ≡ length ts
  pub depth : ℕ
  pub stands : slice_get (heights ts s) k ≡ Some depth
  pub over : MAX_NESTING < depth

abbrev Says : List Token → State → Stop → Type 0
Says ts s (accepted g) = AreShallow (heights ts s)
Says ts s (faulty n) = (k : ℕ) × Faulty ts s n k
Says ts s (deep n) = (k : ℕ) × Deep ts s n k

one_more : (x : Token) (ts : List Token) (s r : State) (d : ℕ) → step s x ≡ Some (d, r)
    → heights (x ∷ ts) s ≡ d ∷ heights ts r
one_more x ts s r d i = ap (depths_on (λ q. heights ts q)) i

more_faulty : (x : Token) (ts : List Token) (s r : State) (d n k : ℕ) → step s x ≡ Some (d, r)
    → d ≤ MAX_NESTING → Faulty ts r n k → Faulty (x ∷ ts) s n (suc k)
more_faulty x ts s r d n k i h f =
    let g = one_more x ts s r d i in
    record {
      passed = record {
        shallow = subst (λ y. AreShallow (take (suc k) y)) (sym g)
            (h, f.passed.shallow);
        long = subst (λ y. suc k ≤ length y) (sym g)
            (let a = f.passed.long in omega arith);
      };
      all = subst (λ y. suc k ≡ length y) (sym g) (let a = f.all in omega arith);
      count = let a = f.count in omega arith;
    }

more_deep : (x : Token) (ts : List Token) (s r : State) (d n k : ℕ) → step s x ≡ Some (d, r)
    → d ≤ MAX_NESTING → Deep ts r n k → Deep (x ∷ ts) s n (suc k)
more_deep x ts s r d n k i h f =
    let g = one_more x ts s r d i in
    record {
      passed = record {
        shallow = subst (λ y. AreShallow (take (suc k) y)) (sym g)
            (h, f.passed.shallow);
        long = subst (λ y. suc k ≤ length y) (sym g)
            (let a = f.passed.long in omega arith);
      };
      count = let a = f.count in omega arith;
      depth = f.depth;
      stands = ap (λ y. slice_get y (suc k)) g ∙ f.stands;
      over = f.over;
    }

at_faulty : (x : Token) (ts : List Token) (s : State) → step s x ≡ None
    → Faulty (x ∷ ts) s (suc (length ts)) 0
at_faulty x ts s i =
    let g : heights (x ∷ ts) s ≡ [] = ap (depths_on (λ q. heights ts q)) i in
    record {
      passed = record { shallow = tt; long = omega arith };
      all = sym (ap length g);
      count = omega arith;
    }

at_deep : (x : Token) (ts : List Token) (s r : State) (d : ℕ) → step s x ≡ Some (d, r)
    → MAX_NESTING < d → Deep (x ∷ ts) s (suc (length ts)) 0
at_deep x ts s r d i h =
    let g : heights (x ∷ ts) s ≡ d ∷ heights ts r = one_more x ts s r d i in
    record {
      passed = record { shallow = tt; long = omega arith };
      count = omega arith;
      depth = d;
      stands = ap (λ y. slice_get y 0) g;
      over = h;
    }

le_of : (d : ℕ) → is_shallow d ≡ true → d ≤ MAX_NESTING
le_of d h = grind (arith, nat_tests)

lt_of : (d : ℕ) → is_shallow d ≡ false → MAX_NESTING < d
lt_of d h = grind (arith, nat_tests)

says-more : (x : Token) (ts : List Token) (s r : State) (d : ℕ) (p : Stop)
    → step s x ≡ Some (d, r) → d ≤ MAX_NESTING → Says ts r p → Says (x ∷ ts) s p
says-more x ts s r d (accepted g) i h a = subst AreShallow (sym (one_more x ts s r d i)) (h, a)
says-more x ts s r d (faulty n) i h (k, f) = (suc k, more_faulty x ts s r d n k i h f)
says-more x ts s r d (deep n) i h (k, f) = (suc k, more_deep x ts s r d n k i h f)

says : (ts : List Token) (s : State) → Says ts s (left ts s)
says [] s = at_once (at_end s)
  where
    at_once : (o : Option File) → Says [] s (ended o)
    at_once None = (
      0,
      record {
        passed = record { shallow = tt; long = omega arith };
        all = refl;
        count = omega arith;
      },
    )
    at_once (Some g) = tt
says (x ∷ ts) s = go (λ r. says ts r) (step s x) refl
  where
    choose : (d : ℕ) (r : State) → step s x ≡ Some (d, r) → Says ts r (left ts r) → (b : Bool)
        → is_shallow d ≡ b → Says (x ∷ ts) s (cond b (left ts r) (deep (suc (length ts))))
    choose d r i p true h = says-more x ts s r d (left ts r) i (le_of d h) p
    choose d r i p false h = (0, at_deep x ts s r d i (lt_of d h))

    go : ((r : State) → Says ts r (left ts r)) → (o : Next) → step s x ≡ o
        → Says (x ∷ ts) s (resume is_shallow (suc (length ts)) (λ r. left ts r) o)
    go p None i = (0, at_faulty x ts s i)
    go p (Some (d, r)) i = choose d r i (p r) (is_shallow d) refl

-- ---- fronts of lists

take_within : (k n : ℕ) (xs : List ℕ) → k ≤ n → take k (take n xs) ≡ take k xs
take_within zero n xs h = refl
take_within (suc k) zero xs h = absurd (omega arith)
take_within (suc k) (suc n) [] h = refl
take_within (suc k) (suc n) (x ∷ xs) h = ap (λ ys. x ∷ ys) (take_within k n xs (omega arith))

slice_get-take : (k : ℕ) (xs : List ℕ) → slice_get (take (suc k) xs) k ≡ slice_get xs k
slice_get-take k [] = refl
slice_get-take zero (x ∷ xs) = refl
slice_get-take (suc k) (x ∷ xs) = slice_get-take k xs

length_front : (n : ℕ) (xs : List Token) → n ≤ length xs → length (take n xs) ≡ n
length_front zero xs h = refl
length_front (suc n) [] h = absurd (omega arith)
length_front (suc n) (x ∷ xs) h = let i = length_front n xs (omega arith) in omega arith

length_take : (n : ℕ) (xs : List ℕ) → n ≤ length xs → length (take n xs) ≡ n
length_take zero xs h = refl
length_take (suc n) [] h = absurd (omega arith)
length_take (suc n) (x ∷ xs) h = let i = length_take n xs (omega arith) in omega arith

take_short : (n : ℕ) (xs : List ℕ) → length (take n xs) ≤ length xs
take_short zero xs = omega arith
take_short (suc n) [] = omega arith
take_short (suc n) (x ∷ xs) = let i = take_short n xs in omega arith

heights-le : (ts : List Token) (s : State) → length (heights ts s) ≤ length ts
heights-le [] s = omega arith
heights-le (x ∷ ts) s = go (λ r. heights-le ts r) (step s x)
  where
    go : ((r : State) → length (heights ts r) ≤ length ts) → (o : Next)
        → length (depths_on (λ r. heights ts r) o) ≤ length (x ∷ ts)
    go i None = omega arith
    go i (Some (d, r)) = let h = i r in omega arith

-- the depths of a front, in a file that begins with it
front : (ts more : List Token) (k n : ℕ) (x : File) → k ≤ n → n ≤ length ts
    → IsFile (take n ts ++ more) x → take k (file_depths x) ≡ take k (heights ts start)
front ts more k n x h l p =
    let w = length_front n ts l in
    let e : take n (heights (take n ts ++ more) start)
    ≡ take n (heights (take n ts ++ drop n ts) start) =
    subst (λ y. take y (heights (take n ts ++ more) start)
    ≡ take y (heights (take n ts ++ drop n ts) start)) w
    (heights-front (take n ts) more (drop n ts) start) in
    sym (take_within k n (file_depths x) h)
    ∙ ap (λ y. take k (take n y)) (sym (heights-file p))
    ∙ ap (take k) e
    ∙ take_within k n (heights (take n ts ++ drop n ts) start) h
    ∙ ap (λ y. take k (heights y start)) (take-append-drop n ts)

-- ---- the two faults

begins_file : (ts : List Token) (k n : ℕ) → k ≤ n → n ≤ length ts
    → n ≤ length (heights ts start) → AreShallow (take k (heights ts start))
    → (x : File) × BeginsFile (take n ts) k x
begins_file ts k n h l g s =
    let (more, x, f) = take_fills ts n start g in
    let p = file_of x (take n ts ++ more) f in (
      x,
      record {
        more = more;
        file = p;
        shallow = subst AreShallow
            (sym (front ts more k n x h l p)) s;
      },
    )

faulty_at : (ts : List Token) (n k : ℕ) → 0 < n → Faulty ts start n k → IsFaulty ts k
faulty_at ts n k p f =
    let c = f.count in
    let (x, b) = begins_file ts k k (omega arith) (omega arith) f.passed.long f.passed.shallow in
    record {
      tree = x;
      before = b;
      not_with = λ (more, y, q).
          let e = front ts more (suc k) (suc k) y (omega arith) (omega arith) q in
          let a = depths-length (take (suc k) ts ++ more) y q in
          let w = length_front (suc k) ts (omega arith) in
          let l = length-append (take (suc k) ts) more in
          let u = length_take (suc k) (file_depths y) (omega arith) in
          let v = take_short (suc k) (heights ts start) in
          let z : length (take (suc k) (file_depths y))
          ≡ length (take (suc k) (heights ts start)) = ap length e in
          let o = f.all in
          omega arith;
    }

deep_at : (ts : List Token) (n k : ℕ) → Deep ts start n k → IsTooDeep ts k
deep_at ts n k f =
    let i = slice_get_within (heights ts start) k f.depth f.stands in
    let j = heights-le ts start in
    let (x, b) = begins_file ts k (suc k) (omega arith) (omega arith) (omega arith)
    f.passed.shallow in
    let e = front ts b.more (suc k) (suc k) x (omega arith) (omega arith) b.file in
    record {
      tree = x;
      with = b;
      depth = f.depth;
      stands = sym (slice_get-take k (file_depths x)) ∙ ap (λ y. slice_get y k) e
          ∙ slice_get-take k (heights ts start) ∙ f.stands;
      over = f.over;
    }

-- the token from which n are left
pub is_faulty : (ts : List Token) (n : ℕ) → left ts start ≡ faulty n → 0 < n
    → IsFaulty ts (length ts - n)
is_faulty ts n e p = let (k, f) = subst (Says ts start) e (says ts start) in let c = f.count in
    let i : k ≡ length ts - n = omega arith in subst (IsFaulty ts) i (faulty_at ts n k p f)

pub is_too_deep : (ts : List Token) (n : ℕ) → left ts start ≡ deep n → IsTooDeep ts (length ts - n)
is_too_deep ts n e = let (k, f) = subst (Says ts start) e (says ts start) in let c = f.count in
    let i : k ≡ length ts - n = omega arith in subst (IsTooDeep ts) i (deep_at ts n k f)

-- a stop is within the tokens
pub faulty-le : (ts : List Token) (n : ℕ) → left ts start ≡ faulty n → n ≤ length ts
faulty-le ts n e =
    let (k, f) = subst (Says ts start) e (says ts start) in let c = f.count in omega arith

pub deep-le : (ts : List Token) (n : ℕ) → left ts start ≡ deep n → n ≤ length ts
deep-le ts n e =
    let (k, f) = subst (Says ts start) e (says ts start) in let c = f.count in omega arith

pub deep-positive : (ts : List Token) (n : ℕ) → left ts start ≡ deep n → 0 < n
deep-positive ts n e =
    let (k, f) = subst (Says ts start) e (says ts start) in
    let c = f.count in let i = slice_get_within (heights ts start) k f.depth f.stands in
    let j = heights-le ts start in omega arith

pub stands_at : (ts : List Token) (d : Token) (n line : ℕ) → n ≤ length ts → 0 < n
    → (get_or ts (length ts - n) d).line ≡ line → StandsAt ts (length ts - n) line
stands_at ts d n line h p e = record {
  token = get_or ts (length ts - n) d;
  at = slice_get-get_or ts (length ts - n) d (omega arith);
  in_line = e;
}

-- ---- what is accepted

pub is_file : (ts : List Token) (x : File) → left ts start ≡ accepted x → IsFile ts x
is_file ts x e = file_of x ts (sound is_shallow ts start x e)

pub is_shallow_file : (ts : List Token) (x : File) → left ts start ≡ accepted x
    → AreShallow (file_depths x)
is_shallow_file ts x e =
    subst AreShallow (heights-file (is_file ts x e)) (subst (Says ts start) e (says ts start))

-- ---- where the tokens end in an End, the fault is a token

abbrev IsDone : State → Type 0
IsDone r = (x : File) × (r ≡ done x)

abbrev the_end : ℕ → ℕ → Token
the_end l a = record { kind = End; line = l; at = a }

-- behind an End nothing is to come
end-step : (s : State) (l a : ℕ) → At (step s (the_end l a)) IsDone
end-step (done y) l a = tt
end-step (sign d j s) l a = tt
end-step (may d j s r) l a = end-step r l a
end-step (a_name d k) l a = tt
end-step (a_base d k) l a = tt
end-step (pairs d n k) l a = end-step (k n) l a
end-step (postfix d k) l a = tt
end-step (unary d k) l a = tt
end-step (operand d h k) l a = tt
end-step (declared d k) l a = tt
end-step (declared_or d k r) l a = end-step r l a
end-step (calls d e k) l a = end-step (k e d) l a
end-step (durs d e k) l a = end-step (k e d) l a
end-step (casts d e k) l a = end-step (k e d) l a
end-step (joins n d e k) l a = end-step (k e d) l a
end-step (asks d e k) l a = end-step (k e d) l a
end-step (chucks d e k) l a = end-step (k e) l a
end-step (brackets d bs k) l a = end-step (k bs) l a
end-step (sizes d es k) l a = end-step (k es) l a
end-step (more_exprs d es k) l a = end-step (k es) l a
end-step (more_declrs d xs k) l a = end-step (k xs) l a
end-step (an_expr_stmt d k) l a = tt
end-step (for_start d f k) l a = tt
end-step (a_stmt d k) l a = tt
end-step (stmts d ss k) l a = end-step (k ss) l a
end-step (more_params d ps k) l a = end-step (k ps) l a
end-step (members xs k) l a = end-step (k xs) l a
end-step (items xs) l a = (xs, refl)

kind_end : (k : TokenKind) → is_end k ≡ true → k ≡ End
kind_end End h = refl
kind_end _ h = cc

end_step : (s : State) (x : Token) → x.kind ≡ End → At (step s x) IsDone
end_step s x h = subst (λ k. At (step s (record { kind = k; line = x.line; at = x.at })) IsDone)
    (sym h) (end-step s x.line x.at)

empty_nil : (ts : List Token) → is_empty ts ≡ true → ts ≡ []
empty_nil [] h = refl
empty_nil (x ∷ ts) h = cc

not_done : (r : State) (n : ℕ) → IsDone r → left [] r ≡ faulty n → ⊥
not_done r n (x, e) h = accepted_faulty (sym (ap (λ q. left [] q) e) ∙ h)
  where
    accepted_faulty : accepted x ≡ faulty n → ⊥
    accepted_faulty h = cc

pub faulty-positive : (ts : List Token) (s : State) (n : ℕ) → ends_once ts ≡ true
    → left ts s ≡ faulty n → 0 < n
faulty-positive [] s n h e = cc
faulty-positive (x ∷ ts) s n h e =
    go (step s x) (end_step s x) e (λ r i g. faulty-positive ts r n i g) (is_end x.kind) refl h
  where
    deep_faulty : (m : ℕ) → deep m ≡ faulty n → ⊥
    deep_faulty m h = cc

    faulty_is : (m : ℕ) → faulty m ≡ faulty n → m ≡ n
    faulty_is m h = cc

    chosen : (b : Bool) (r : State) → cond b (left ts r) (deep (suc (length ts))) ≡ faulty n
        → left ts r ≡ faulty n
    chosen true r h = h
    chosen false r h = absurd (deep_faulty (suc (length ts)) h)

    go : (o : Next) → (x.kind ≡ End → At o IsDone)
        → resume is_shallow (suc (length ts)) (λ r. left ts r) o ≡ faulty n
        → ((r : State) → ends_once ts ≡ true → left ts r ≡ faulty n → 0 < n) → (b : Bool)
        → is_end x.kind ≡ b → ends_here b ts (ends_once ts) ≡ true → 0 < n
    go None i g f b q h = let z = faulty_is (suc (length ts)) g in omega arith
    go (Some (d, r)) i g f false q h = f r h (chosen (is_shallow d) r g)
    go (Some (d, r)) i g f true q h = absurd
        (not_done r n (i (kind_end x.kind q))
        (subst (λ y. left y r ≡ faulty n) (empty_nil ts h) (chosen (is_shallow d) r g)))

-- ---- a tree or a fault

some_line : (ts : List Token) (n : ℕ) → n ≤ length ts → 0 < n
    → (line : ℕ) × StandsAt ts (length ts - n) line
some_line [] n h p = absurd (omega arith)
some_line (x ∷ ts) n h p = (_, stands_at (x ∷ ts) x n _ h p refl)

pub verdict : (ts : List Token) → ends_once ts ≡ true → Verdict ts
verdict ts h = go (left ts start) refl
  where
    go : (p : Stop) → left ts start ≡ p → Verdict ts
    go (accepted x) e = reads x (is_file ts x e) (is_shallow_file ts x e)
    go (faulty n) e =
        let some = faulty-positive ts start n h e in
        let at = some_line ts n (faulty-le ts n e) some in
        syntax at.0
        (record { place = length ts - n; faulty = is_faulty ts n e some; stands = at.1 })
    go (deep n) e =
        let at = some_line ts n (deep-le ts n e) (deep-positive ts n e) in
        too_deep at.0
        (record { place = length ts - n; too_deep = is_too_deep ts n e; stands = at.1 })

-- a list that has a tree has no token that cannot come
pub no_fault : (ts : List Token) (x : File) (k : ℕ) → IsFile ts x → IsFaulty ts k → ⊥
no_fault ts x k p f = f.not_with
    (drop (suc k) ts, x, subst (λ y. IsFile y x) (sym (take-append-drop (suc k) ts)) p)
