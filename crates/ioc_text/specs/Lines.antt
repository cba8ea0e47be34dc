-- A project's text: its lines, and those that have a named key.
use Rattle.std.specs.Prelude.{ℕ, ◌+◌, ◌==◌, ◌||◌, List, [], ◌∷◌, ◌++◌, length, take, drop, Bool, true, false, nat_eq, nat_lt, if◌then◌else◌, Option, Some, None, is_some, Result, Ok, Err, codes, find}
use Rattle.std.specs.List.{starts_with, ends_with}
use Rattle.std.specs.Str.{bytes_eq}
use Rattle.std.specs.Str.Lines.{lines}
use Rattle.res_model.specs.Numbers.{number_of}
use Rattle.res_model.specs.Steps.{◌>>=◌}
use Rattle.ioc_text.specs.declared.line.Line.{Line}
use Rattle.ioc_text.specs.declared.fault.IocFault.{IocFault}
use Rattle.ioc_text.specs.declared.fault.IocFault.TheVariants.{LongLine, NoEquals, BadEscape, TwiceKey}

-- a space or one of \ : = # !
abbrev pub is_escapable : ℕ → Bool
is_escapable b = (b == 32) || (b == 92) || (b == 58) || (b == 61) || (b == 35) || (b == 33)

-- the place of the first = outside the pairs of a backslash and the byte after it. The bytes stand
-- from a place on, and in_pair says that the first of them ends a pair
unfoldable pub equals_from : Bool → ℕ → List ℕ → Option ℕ
equals_from in_pair at [] = None
equals_from true at (b ∷ bs) = equals_from false (at + 1) bs
equals_from false at (b ∷ bs) = if b == 61 then Some at else equals_from (b == 92) (at + 1) bs

unfoldable pub equals_at : List ℕ → Option ℕ
equals_at line = equals_from false 0 line

-- these bytes, and then those that are read of the rest
abbrev pub after_bytes : List ℕ → Option (List ℕ) → Option (List ℕ)
after_bytes prefix None = None
after_bytes prefix (Some bytes) = Some (prefix ++ bytes)

-- the bytes with escapes undone: a backslash and an escapable byte stand for that byte, and any other
-- backslash has no meaning. in_pair says that a backslash stands before the first byte
unfoldable pub undone_from : Bool → List ℕ → Option (List ℕ)
undone_from true [] = None
undone_from false [] = Some []
undone_from true (b ∷ bs) = if is_escapable b then after_bytes (b ∷ []) (undone_from false bs) else None
undone_from false (b ∷ bs) = if b == 92 then undone_from true bs else after_bytes (b ∷ []) (undone_from false bs)

unfoldable pub undone : List ℕ → Option (List ℕ)
undone bytes = undone_from false bytes

-- k of a key Mcu.Pin<k>
unfoldable pub pin_number : List ℕ → Option ℕ
pin_number key = if starts_with nat_eq key (codes "Mcu.Pin") then number_of (drop 7 key) else None

-- a key of one name
unfoldable pub is_single_key : List ℕ → Bool
is_single_key key =
    bytes_eq key (codes "Mcu.Name") || bytes_eq key (codes "Mcu.Package") || bytes_eq key (codes "Mcu.PinsNb")
    || bytes_eq key (codes "KeepUserPlacement")

-- a key of the clock tree
unfoldable pub is_clock_key : List ℕ → Bool
is_clock_key key =
    bytes_eq key (codes "RCC.HSE_VALUE") || bytes_eq key (codes "RCC.PLLM") || bytes_eq key (codes "RCC.PLLN")
    || bytes_eq key (codes "RCC.PLLQ") || bytes_eq key (codes "RCC.PLLP") || bytes_eq key (codes "RCC.SYSCLKSource")
    || bytes_eq key (codes "RCC.PLLSourceVirtual") || bytes_eq key (codes "RCC.AHBCLKDivider")
    || bytes_eq key (codes "RCC.APB1CLKDivider") || bytes_eq key (codes "RCC.APB2CLKDivider")

-- a key <pin>.X, for any part before its last dot
unfoldable pub is_pin_key : List ℕ → Bool
is_pin_key key =
    ends_with nat_eq key (codes ".Signal") || ends_with nat_eq key (codes ".Locked")
    || ends_with nat_eq key (codes ".GPIO_PuPd") || ends_with nat_eq key (codes ".GPIO_Speed")

unfoldable pub is_named : List ℕ → Bool
is_named key = is_single_key key || is_clock_key key || is_pin_key key || is_some (pin_number key)

-- it is empty, or begins with #
abbrev pub is_quiet : List ℕ → Bool
is_quiet [] = true
is_quiet (b ∷ bs) = b == 35

-- a named key has a value with escapes undone
abbrev pub with_value : ℕ → List ℕ → Option (List ℕ) → Result (Option Line) IocFault
with_value n key None = Err (BadEscape n)
with_value n key (Some value) = Ok (Some (record { number = n; key = key; value = value }))

-- other keys are passed over with their values unread
abbrev pub with_key : ℕ → Option (List ℕ) → List ℕ → Result (Option Line) IocFault
with_key n None value = Ok None
with_key n (Some key) value = if is_named key then with_value n key (undone value) else Ok None

-- key and value stand before and after an =
abbrev pub divided : ℕ → List ℕ → Option ℕ → Result (Option Line) IocFault
divided n bytes None = Err (NoEquals n)
divided n bytes (Some at) = with_key n (undone (take at bytes)) (drop (at + 1) bytes)

-- what the line of this number says by itself: nothing, a named key with its value, or a fault
unfoldable pub line_of : ℕ → List ℕ → Result (Option Line) IocFault
line_of n bytes = if nat_lt 65535 (length bytes) then Err (LongLine n) else (if is_quiet bytes then Ok None else divided n bytes (equals_at bytes))

-- the line of a key
unfoldable pub line_at : List Line → List ℕ → Option Line
line_at ioc key = find (λ l. bytes_eq key l.key) ioc

-- the lines with one more, whose key stood on none of them
unfoldable pub with_line : List Line → Option Line → Result (List Line) IocFault
with_line before None = Ok before
with_line before (Some line) = if is_some (line_at before line.key) then Err (TwiceKey line.number) else Ok (before ++ line ∷ [])

-- the lines of named keys, after those before, of lines whose first has this number; or the first line's fault that has one
abbrev pub ioc_after : List Line → ℕ → List (List ℕ) → Result (List Line) IocFault
ioc_after before n [] = Ok before
ioc_after before n (bytes ∷ more) = do
  line ← line_of n bytes
  found ← with_line before line
  ioc_after found (n + 1) more

-- the lines of a project's text that have a named key, or the fault of its first faulty line. A line ends
-- at LF, at CR LF or at the end of the text
unfoldable pub ioc_of : List ℕ → Result (List Line) IocFault
ioc_of text = ioc_after [] 1 (lines text)
