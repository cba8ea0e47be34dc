-- Bits and fields of a word.
use Rattle.std.specs.Prelude.{ℕ, ◌+◌, ◌*◌, ◌/◌, ◌%◌, ◌^◌, ◌≤◌, ◌==◌, Bool}
use Rattle.reg_map.specs.declared.field.Field.{Field}

-- bit k is set
abbrev pub bit_of : ℕ → ℕ → Bool
bit_of k word = word / 2 ^ k % 2 == 1

-- the value of the field that begins at bit `low`
abbrev pub field_of : ℕ → ℕ → ℕ → ℕ
field_of low width word = word / 2 ^ low % 2 ^ width

-- the bits above the field, the value, and the bits below the field
abbrev pub with_field : ℕ → ℕ → ℕ → ℕ → ℕ
with_field low width value word = word / 2 ^ (low + width) * 2 ^ (low + width) + value * 2 ^ low + word % 2 ^ low

-- a field within 32 bits
pub record IsField (f : Field) : Type 0 where
  pub some_bit : 1 ≤ f.width
  pub within : f.low + f.width ≤ 32
