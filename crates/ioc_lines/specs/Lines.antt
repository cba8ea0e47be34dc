-- A project's text: its lines with their ends, and their keys.
use Rattle.std.specs.Prelude.{◌≡◌, ◌⊎◌, ℕ, ◌+◌, ◌-◌, ◌==◌, ◌||◌, List, [], ◌∷◌, ◌++◌, length, take, drop, Bool, false, if◌then◌else◌, Option, Some, None, codes, slice_index}
use Rattle.std.specs.List.{flat_map, slice_split}
use Rattle.res_base.specs.Lists.{Each}
use Rattle.std.specs.Str.{bytes_eq}
use Rattle.std.specs.Str.Lines.{strip_carriage_return}
use Rattle.ioc_text.specs.Lines.{equals_at, is_quiet, undone}

-- what a line says, and what ends it: LF, CR LF, or nothing at the end of the text
pub record TextLine : Type 0 where
  pub says : List ℕ
  pub end : List ℕ

abbrev pub text_line : List ℕ → List ℕ → TextLine
text_line says end = record { says = says; end = end }

-- what ends the line of a part before an LF: a CR before the LF belongs to it
abbrev pub ending : List ℕ → List ℕ
ending part = if slice_index part (length part - 1) == 13 then 13 ∷ 10 ∷ [] else 10 ∷ []

abbrev pub ended : List ℕ → TextLine
ended part = text_line (strip_carriage_return part) (ending part)

-- the line of what stands after the last LF, if anything does
abbrev pub unended : List ℕ → List TextLine
unended [] = []
unended (b ∷ bs) = text_line (b ∷ bs) [] ∷ []

-- the lines in the parts between LFs
abbrev pub lines_of_parts : List (List ℕ) → List TextLine
lines_of_parts [] = []
lines_of_parts (part ∷ []) = unended part
lines_of_parts (part ∷ next ∷ more) = ended part ∷ lines_of_parts (next ∷ more)

-- the lines of a text: they say what its lines are, and with their ends they are the text
abbrev pub text_lines : List ℕ → List TextLine
text_lines text = lines_of_parts (slice_split (λ b. b == 10) text)

-- a line with a key: the place of the = that divides it, and the key with escapes undone
pub record Keyed : Type 0 where
  pub equals : ℕ
  pub key : List ℕ

abbrev pub keyed_at : List ℕ → ℕ → Keyed
keyed_at key at = record { equals = at; key = key }

abbrev pub with_key : ℕ → Option (List ℕ) → Option Keyed
with_key at None = None
with_key at (Some key) = Some (keyed_at key at)

abbrev pub divided : List ℕ → Option ℕ → Option Keyed
divided bytes None = None
divided bytes (Some at) = with_key at (undone (take at bytes))

-- the key of a line; an empty line and one that begins with # have none, and neither has one with a bad escape in its key
unfoldable pub keyed : List ℕ → Option Keyed
keyed bytes = if is_quiet bytes then None else divided bytes (equals_at bytes)

-- the place of the last dot: that in the rest, or else the first byte if it is one
abbrev pub first_or_later : ℕ → Option ℕ → Option ℕ
first_or_later b None = if b == 46 then Some 0 else None
first_or_later b (Some at) = Some (1 + at)

abbrev pub last_dot : List ℕ → Option ℕ
last_dot [] = None
last_dot (b ∷ bs) = first_or_later b (last_dot bs)

-- what stands before the last dot of a key; nothing where it has no dot
abbrev pub prefix_to : List ℕ → Option ℕ → List ℕ
prefix_to bytes None = []
prefix_to bytes (Some at) = take at bytes

unfoldable pub pin_part : List ℕ → List ℕ
pin_part key = prefix_to key (last_dot key)

-- what stands from the last dot of a key on
abbrev pub rest_from : List ℕ → Option ℕ → List ℕ
rest_from bytes None = bytes
rest_from bytes (Some at) = drop at bytes

-- one of \ : = # !
abbrev pub is_special : ℕ → Bool
is_special b = (b == 92) || (b == 58) || (b == 61) || (b == 35) || (b == 33)

abbrev pub escaped_byte : ℕ → List ℕ
escaped_byte b = if is_special b then 92 ∷ b ∷ [] else b ∷ []

-- a name with a backslash before each of those
unfoldable pub escaped : List ℕ → List ℕ
escaped name = flat_map escaped_byte name

-- what a line says with another value: all up to its = stays
abbrev pub with_value : List ℕ → ℕ → List ℕ → List ℕ
with_value says equals value = take (equals + 1) says ++ value

-- what a line says with another pin in its key: all from the key's last dot on stays
unfoldable pub with_pin : List ℕ → ℕ → List ℕ → List ℕ
with_pin says equals name = name ++ rest_from says (last_dot (take equals says))

-- no LF is among them
abbrev pub IsClean : List ℕ → Type 0
IsClean bs = Each (λ (b : ℕ). (b == 10) ≡ false) bs

unfoldable pub last_of : List ℕ → ℕ
last_of [] = 0
last_of (b ∷ []) = b
last_of (b ∷ c ∷ bs) = last_of (c ∷ bs)

-- a line that ends at LF, or at CR LF: where LF alone ends it, it does not end in CR
pub record IsEnded (l : TextLine) : Type 0 where
  pub clean : IsClean l.says
  pub by : ((l.end ≡ 10 ∷ []) × ((last_of l.says == 13) ≡ false)) ⊎ (l.end ≡ 13 ∷ 10 ∷ [])

-- what names a key of a pin
abbrev pub is_suffix : List ℕ → Bool
is_suffix rest =
    bytes_eq (codes ".Signal") rest || bytes_eq (codes ".Locked") rest || bytes_eq (codes ".GPIO_PuPd") rest || bytes_eq (codes ".GPIO_Speed") rest
