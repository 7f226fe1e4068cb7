-- A float literal of at most six decimals, cut to millionths.
use Rattle.std.proofs.Common.{◌≡◌, ℕ, suc, zero, ◌+◌, ◌-◌, ◌*◌, ◌/◌, ◌%◌, ◌^◌, ◌<◌, ◌≤◌, List, [], ◌∷◌, ◌++◌, length, take, get_or, replicate, length-append, fold, min, pos, ◌&&◌, true, refl, sym, ◌∙◌, ap, arith}
use Rattle.std.proofs.Math.Nat.{mul-le-mul_right, pow-suc}
use Rattle.std.specs.List.{list_all}
use Rattle.std.specs.Int.{div_ceil}
use Rattle.std.proofs.lemmas.List.{take_all, take_more, length-take-le, length-replicate}
use Rattle.std.proofs.lemmas.List.Sums.{fold-append}
use Rattle.std.proofs.lemmas.List.Folds.{list_all-append}
use Rattle.std.proofs.lemmas.Bool.Decides.{nat_tests}
use Rattle.std.specs.Prelude.{decimal}
use Rattle.fixed_point.specs.Decimals.{last_digits, six_decimals, text_of}
use Rattle.ck_lexer.specs.Bytes.{is_digit}
use Rattle.ck_lexer.specs.Numbers.{digit_value, number_in, max_int, max_whole, raw_of}
use Rattle.ck_lexer.proofs.Runs.{both-left, both-right, list_all-first}

digit-below : (b : ℕ) → is_digit b ≡ true → digit_value b < 10
digit-below b h = let i : b ≤ 57 = grind (arith, nat_tests) in rw h (omega arith)

-- further digits stay below the next whole number
fold-below : (n : ℕ) (ds : List ℕ) → list_all is_digit ds ≡ true → fold (λ m b. m * 10 + digit_value b) n ds + 1 ≤ (n + 1) * 10 ^ length ds
fold-below n [] h = omega arith
fold-below n (d ∷ ds) h =
    let i = fold-below (n * 10 + digit_value d) ds (both-right (is_digit d) _ h) in
    let j = digit-below d (both-left (is_digit d) _ h) in
    let k : n * 10 + digit_value d + 1 ≤ (n + 1) * 10 = omega (arith, j) in
    let l = mul-le-mul_right (10 ^ length ds) k in
    let q : (n + 1) * 10 * 10 ^ length ds ≡ (n + 1) * 10 ^ suc (length ds) = rw (pow-suc 10 (length ds)) (omega arith) in
    omega (arith, i, l, q)

-- at each number of decimals
written : (k n w r : ℕ) → k ≤ 6 → w ≤ max_whole → n + 1 ≤ (w + 1) * 10 ^ k → r ≡ min (div_ceil (n * 2 ^ 32) (10 ^ k)) max_int → r * 10 ^ 6 / 2 ^ 32 ≡ n * 10 ^ (6 - k)
written zero n w r h l m e = omega arith
written (suc zero) n w r h l m e = omega arith
written (suc (suc zero)) n w r h l m e = omega arith
written (suc (suc (suc zero))) n w r h l m e = omega arith
written (suc (suc (suc (suc zero)))) n w r h l m e = omega arith
written (suc (suc (suc (suc (suc zero))))) n w r h l m e = omega arith
written (suc (suc (suc (suc (suc (suc zero)))))) n w r h l m e = omega arith
written (suc (suc (suc (suc (suc (suc (suc k))))))) n w r h l m e = absurd (omega arith)

-- cut to millionths, a literal of at most six decimals is as written
pub as_written : (whole decimals : List ℕ) → list_all is_digit decimals ≡ true → number_in 10 whole ≤ max_whole → length decimals ≤ 6
    → raw_of whole decimals * 10 ^ 6 / 2 ^ 32 ≡ number_in 10 (whole ++ decimals) * 10 ^ (6 - length decimals)
as_written whole decimals h l m =
    let all : take 18 decimals ≡ decimals = take_all 18 decimals (omega arith) in
    let n : number_in 10 (whole ++ decimals) ≡ fold (λ m b. m * 10 + digit_value b) (number_in 10 whole) decimals = fold-append (λ m b. m * 10 + digit_value b) 0 whole decimals in
    let below = fold-below (number_in 10 whole) decimals h in
    let small : number_in 10 (whole ++ decimals) + 1 ≤ (number_in 10 whole + 1) * 10 ^ length decimals = omega (arith, n, below) in
    written (length decimals) (number_in 10 (whole ++ decimals)) (number_in 10 whole) (raw_of whole decimals) m l small (rw all refl)

-- the digits of a number from the back
fold-split : (w : ℕ) (ds : List ℕ) → fold (λ m b. m * 10 + digit_value b) w ds ≡ w * 10 ^ length ds + fold (λ m b. m * 10 + digit_value b) 0 ds
fold-split w [] = omega arith
fold-split w (d ∷ ds) =
    let i = fold-split (w * 10 + digit_value d) ds in
    let j = fold-split (0 * 10 + digit_value d) ds in
    let p : w * 10 ^ suc (length ds) ≡ w * 10 * 10 ^ length ds = rw (pow-suc 10 (length ds)) (omega arith) in
    omega (arith, i, j, p)

digit_is : (b : ℕ) → is_digit b ≡ true → 48 + digit_value b ≡ b
digit_is b h = let i : 48 ≤ b = grind (arith, nat_tests) in rw h (omega arith)

last_digits-fold : (k : ℕ) (ds : List ℕ) → length ds ≡ k → list_all is_digit ds ≡ true → last_digits k (number_in 10 ds) ≡ ds
last_digits-fold zero [] e h = refl
last_digits-fold zero (d ∷ ds) e h = absurd (omega arith)
last_digits-fold (suc k) ds e h =
    let front = take k ds in
    let d = get_or ds k 0 in
    let cut : ds ≡ front ++ d ∷ [] = sym (take_all (k + 1) ds (omega arith)) ∙ take_more ds k 0 (omega arith) in
    let all : (list_all is_digit front && list_all is_digit (d ∷ [])) ≡ true = sym (list_all-append is_digit front (d ∷ [])) ∙ ap (list_all is_digit) (sym cut) ∙ h in
    let one = list_all-first is_digit d [] (both-right (list_all is_digit front) _ all) in
    let some = digit-below d one in
    let n : number_in 10 ds ≡ number_in 10 front * 10 + digit_value d = ap (number_in 10) cut ∙ fold-append (λ m b. m * 10 + digit_value b) 0 front (d ∷ []) in
    let tens : number_in 10 ds / 10 ≡ number_in 10 front = omega (arith, n, some) in
    let unit : number_in 10 ds % 10 ≡ digit_value d = omega (arith, n, some) in
    let i = last_digits-fold k front (length-take-le k ds (omega arith)) (both-left (list_all is_digit front) _ all) in
    let j = digit_is d one in
    rw (tens, unit, i, j) (sym cut)

-- zeros behind the decimals
zeros : (k : ℕ) → list_all is_digit (replicate k 48) ≡ true
zeros zero = refl
zeros (suc k) = zeros k

fold-zeros : (k n : ℕ) → fold (λ m b. m * 10 + digit_value b) n (replicate k 48) ≡ n * 10 ^ k
fold-zeros zero n = omega arith
fold-zeros (suc k) n =
    let i = fold-zeros k (n * 10 + 0) in
    let p : n * 10 ^ suc k ≡ n * 10 * 10 ^ k = rw (pow-suc 10 k) (omega arith) in
    omega (arith, i, p)

-- a literal of at most six decimals prints as it was written
pub prints_as_written : (whole decimals : List ℕ) → list_all is_digit decimals ≡ true → number_in 10 whole ≤ max_whole → length decimals ≤ 6
    → text_of (pos (raw_of whole decimals)) ≡ decimal (number_in 10 whole) ++ 46 ∷ (decimals ++ replicate (6 - length decimals) 48)
unfolding text_of
prints_as_written whole decimals h l m =
    let z = 6 - length decimals in
    let six = decimals ++ replicate z 48 in
    let n = number_in 10 (whole ++ decimals) in
    let long : length six ≡ 6 = omega (arith, length-append decimals (replicate z 48), length-replicate {A = ℕ} z 48, m) in
    let all : list_all is_digit six ≡ true = list_all-append is_digit decimals (replicate z 48) ∙ ap (λ x. x && list_all is_digit (replicate z 48)) h ∙ zeros z in
    let cut = as_written whole decimals h l m in
    let filled : n * 10 ^ z ≡ fold (λ m b. m * 10 + digit_value b) (number_in 10 whole) six
    = sym (fold-zeros z n)
    ∙ ap (λ x. fold (λ m b. m * 10 + digit_value b) x (replicate z 48)) (fold-append (λ m b. m * 10 + digit_value b) 0 whole decimals)
    ∙ sym (fold-append (λ m b. m * 10 + digit_value b) (number_in 10 whole) decimals (replicate z 48)) in
    let split = fold-split (number_in 10 whole) six in
    let below = fold-below 0 six all in
    let p : 10 ^ length six ≡ 1000000 = ap (λ k. 10 ^ k) long in
    let parts : n * 10 ^ z ≡ number_in 10 whole * 1000000 + number_in 10 six = filled ∙ split ∙ ap (λ k. number_in 10 whole * k + number_in 10 six) p in
    let small : number_in 10 six < 1000000 = omega (arith, below, p) in
    let whole_part : n * 10 ^ z / 1000000 ≡ number_in 10 whole = omega (arith, parts, small) in
    let rest : n * 10 ^ z % 1000000 ≡ number_in 10 six = omega (arith, parts, small) in
    let digits = last_digits-fold 6 six long all in
    ap six_decimals cut ∙ ap (λ x. decimal x ++ 46 ∷ last_digits 6 (n * 10 ^ z % 1000000)) whole_part ∙ ap (λ x. decimal (number_in 10 whole) ++ 46 ∷ last_digits 6 x) rest ∙ ap (λ x. decimal (number_in 10 whole) ++ 46 ∷ x) digits
