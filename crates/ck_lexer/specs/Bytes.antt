-- The kinds of bytes that the language tells apart.
use Rattle.std.specs.Prelude.{ℕ, Bool, false, List, [], ◌∷◌, nat_le, ◌==◌, ◌&&◌, ◌||◌, not}

-- `0` to `9`
abbrev pub is_digit : ℕ → Bool
is_digit b = nat_le 48 b && nat_le b 57

-- `A` to `F`
abbrev pub is_upper_digit : ℕ → Bool
is_upper_digit b = nat_le 65 b && nat_le b 70

-- `a` to `f`
abbrev pub is_lower_digit : ℕ → Bool
is_lower_digit b = nat_le 97 b && nat_le b 102

-- a digit of a hexadecimal number, in either case
abbrev pub is_hexadecimal : ℕ → Bool
is_hexadecimal b = is_digit b || (is_upper_digit b || is_lower_digit b)

-- a letter or `_`
abbrev pub begins_name : ℕ → Bool
begins_name b = (nat_le 97 b && nat_le b 122) || ((nat_le 65 b && nat_le b 90) || (b == 95))

-- a letter, `_` or a digit
abbrev pub continues_name : ℕ → Bool
continues_name b = begins_name b || is_digit b

-- a byte that ends a line
abbrev pub is_line_end : ℕ → Bool
is_line_end b = b == 10

-- a byte that doesn't
abbrev pub is_in_line : ℕ → Bool
is_in_line b = not (is_line_end b)

-- a blank, a tab, or an end of a line
abbrev pub is_space : ℕ → Bool
is_space b = (b == 32) || ((b == 10) || ((b == 9) || (b == 13)))

-- a byte that stands for itself in a text: not `"`, not a backslash, and no end of a line
abbrev pub is_plain : ℕ → Bool
is_plain b = not ((b == 34) || ((b == 92) || is_line_end b))

-- whether there is a first byte, which passes
abbrev pub begins_with : (ℕ → Bool) → List ℕ → Bool
begins_with p [] = false
begins_with p (b ∷ bs) = p b

-- whether a number stands at the front: a digit, or a point and a digit
abbrev pub begins_number : List ℕ → Bool
begins_number [] = false
begins_number (b ∷ bs) = is_digit b || ((b == 46) && begins_with is_digit bs)
