-- What a pin's name says: its port and its number; and the place of a pin in a table.
use Rattle.std.specs.Prelude.{ℕ, ◌==◌, ◌-◌, ◌&&◌, List, [], ◌∷◌, Bool, true, false, not, nat_le, if◌then◌else◌, Option, Some, None, option_and_then, position}
use Rattle.std.specs.Str.{bytes_eq}
use Rattle.res_model.specs.declared.table.Pin.{Pin}

abbrev pub is_digit : ℕ → Bool
is_digit b = nat_le 48 b && nat_le b 57

abbrev pub begins_with_digit : List ℕ → Bool
begins_with_digit [] = false
begins_with_digit (b ∷ bs) = is_digit b

-- 10 to 15: the digit after a 1, and no digit after it
abbrev pub ten_and : List ℕ → Option ℕ
ten_and [] = None
ten_and (b ∷ bs) = if nat_le 48 b && nat_le b 53 && not (begins_with_digit bs) then Some (b - 38) else None

-- a number from 0 to 15 without a leading zero, and no digit after it
unfoldable pub pin_number : List ℕ → Option ℕ
pin_number [] = None
pin_number (a ∷ bs) =
    if not (is_digit a) then None
    else (if not (begins_with_digit bs) then Some (a - 48)
    else (if a == 49 then ten_and bs else None))

-- the port and the number of a pin's name: P, a letter from A to I, the number
unfoldable pub spot : List ℕ → Option (ℕ × ℕ)
spot (p ∷ letter ∷ bs) =
    if (p == 80) && nat_le 65 letter && nat_le letter 73
    then option_and_then (λ n. Some (letter - 65, n)) (pin_number bs)
    else None
spot name = None

-- the place of the pin of this name
unfoldable pub place : List Pin → List ℕ → Option ℕ
place pins name = position (λ p. bytes_eq p.name name) pins
