-- Decimal numbers in a text.
use Rattle.std.specs.Prelude.{ℕ, ◌^◌, ◌&&◌, List, nat_lt, nat_le, if◌then◌else◌, Option, Some, None, option_and_then, decimal}
use Rattle.std.specs.Str.{bytes_eq}
use Rattle.std.specs.Str.Parse.{digits_value}

-- the number below 2^64 whose decimal digits the text is
unfoldable pub number_of : List ℕ → Option ℕ
number_of text = if nat_lt (digits_value 10 text) (2 ^ 64) && bytes_eq text (decimal (digits_value 10 text)) then Some (digits_value 10 text) else None

-- such a number that is at most a greatest one
unfoldable pub number_up_to : ℕ → List ℕ → Option ℕ
number_up_to most text = option_and_then (λ n. if nat_le n most then Some n else None) (number_of text)
