-- How high an expression may be by the depth at which it begins.
use Rattle.std.proofs.Common.{◌≡◌, ℕ, zero, suc, ◌+◌, ◌-◌, ◌≤◌, ◌<◌, max, ap, arith}
use Rattle.ck_base.specs.declared.limits.TheConstants.{MAX_NESTING}

-- n + (n - 1) + .. + 1
abbrev pub triangle : ℕ → ℕ
triangle zero = 0
triangle (suc n) = suc n + triangle n

triangle-rises : (m n : ℕ) → m ≤ n → triangle m ≤ triangle n
triangle-rises zero n le = omega arith
triangle-rises (suc m) zero le = absurd (omega (arith, le))
triangle-rises (suc m) (suc n) le =
    let rest = triangle-rises m n (omega (arith, le)) in omega (arith, le, rest)

-- The greatest height of an expression that begins at depth d: its operators, of which each
-- stands one deeper than the one before it,
-- are at most MAX_NESTING - d, and the first operand may be a pair of parentheses with an
-- expression one deeper.
abbrev pub most : ℕ → ℕ
most d = triangle (suc MAX_NESTING - d)

pub most-falls : {c d : ℕ} → d ≤ c → most c ≤ most d
most-falls {c = c} {d = d} le =
    triangle-rises (suc MAX_NESTING - c) (suc MAX_NESTING - d) (omega (arith, le))

pub most-next : (d : ℕ) → d ≤ MAX_NESTING → most d + d ≡ suc MAX_NESTING + most (suc d)
most-next d le =
    let room : suc MAX_NESTING - d ≡ suc (MAX_NESTING - d) = omega (arith, le) in
    let same : MAX_NESTING - d ≡ suc MAX_NESTING - suc d = omega arith in
    let unfolded : most d ≡ suc (MAX_NESTING - d) + triangle (MAX_NESTING - d) = ap triangle room in
    let next : triangle (MAX_NESTING - d) ≡ most (suc d) = ap triangle same in
    omega (arith, unfolded, next, le)

-- a maximum is at most what both are
pub both : {a b c : ℕ} → a ≤ c → b ≤ c → max a b ≤ c
both h k = omega (arith, h, k)

-- An expression of height h that begins at depth d, and behind which the depth is b, is as low
-- as its operators and parts allow.
pub record Low (d h b : ℕ) : Type 0 where
  pub from : d ≤ b
  pub to : b ≤ MAX_NESTING
  pub low : h + d ≤ suc b + most (suc d)

-- a whole expression
pub whole : {d h b : ℕ} → Low d h b → h ≤ most d
whole {d = d} p =
    let l = p.low in
    let f = p.from in
    let t = p.to in
    let next = most-next d (omega (arith, f, t)) in
    omega (arith, l, t, next)

-- an expression whose parts all begin deeper
pub front : {d h b : ℕ} → d ≤ b → b ≤ MAX_NESTING → h ≤ most (suc d) → Low d (suc h) b
front f t l = record { from = f; to = t; low = omega (arith, f, l) }

-- one more part, which begins deeper than what is behind the first
pub and_part : {d h b i : ℕ} → Low d h b → i ≤ most (suc b) → Low d (max h i) b
and_part {d = d} {b = b} p le =
    let l = p.low in
    let f = p.from in
    let falls : most (suc b) ≤ most (suc d) = most-falls (omega (arith, f)) in
    record { from = f; to = p.to; low = omega (arith, l, le, falls, f) }

-- an operator behind the first part
pub over : {d h b c : ℕ} → Low d h b → b < c → c ≤ MAX_NESTING → Low d (suc h) c
over p f t = record {
  from = let g = p.from in omega (arith, f, g);
  to = t;
  low = let l = p.low in omega (arith, f, l);
}

-- an operator between two parts
pub joined : {d h b i c : ℕ} → Low d h b → Low (suc b) i c → Low d (suc (max h i)) c
joined p q = over (and_part p (whole q)) q.from q.to
