-- The single things that could be given up: options, and lines of the project's text.
use Rattle.std.specs.Prelude.{ℕ, zero, suc, ◌+◌, ◌-◌, ◌==◌, ◌&&◌, ◌++◌, List, [], ◌∷◌, Bool, codes, decimal, find, is_some, length, Option, Some, None, if◌then◌else◌, slice_get, slice_index_or}
use Rattle.std.specs.Option.{option_map_or}
use Rattle.std.specs.Str.{bytes_eq}
use Rattle.ioc_text.specs.Lines.{line_at, pin_number}
use Rattle.ioc_text.specs.declared.line.Line.{Line}
use Rattle.res_model.specs.Placed.{is_held, rows_named}
use Rattle.res_model.specs.declared.opts.Free.{Free}
use Rattle.res_model.specs.declared.opts.Free.TheVariants as free
use Rattle.res_model.specs.declared.opts.Opts.{Opts}
use Rattle.res_model.specs.declared.project.Signal.{Signal}
use Rattle.res_model.specs.declared.table.TableParts.{TableParts}
use Rattle.explain.specs.declared.kinds.Thing.{Thing}
use Rattle.explain.specs.declared.kinds.Thing.TheVariants.{Need, Hclk, Pclk1, Pclk2, Freed, Keep, Lock, Pin}
use Rattle.explain_text.specs.Names.{pin_name}

-- the things of the numbers below n, in order
unfoldable pub things_below : ℕ → (ℕ → List Thing) → List Thing
things_below zero things = []
things_below (suc n) things = things_below n things ++ things n

-- ---- the options

-- a need, by its number from 1
abbrev pub need_thing : ℕ → List Thing
need_thing k = Need (k + 1) ∷ []

-- a wish that is there
abbrev pub wish_thing : Option ℕ → Thing → List Thing
wish_thing None thing = []
wish_thing (Some hertz) thing = thing ∷ []

-- what `--free` holds fixed
abbrev pub free_thing : Free → List Thing
free_thing free.All = []
free_thing free.Pins = Freed ∷ []
free_thing free.Clock = Freed ∷ []
free_thing free.Nothing = Freed ∷ []

-- ---- the lines

-- the number of a line that says `true`
abbrev pub true_line : Option Line → Option ℕ
true_line None = None
true_line (Some line) = if bytes_eq line.value (codes "true") then Some line.number else None

abbrev pub keep_from : Option ℕ → List Thing
keep_from None = []
keep_from (Some line) = Keep line ∷ []

-- that all signals with a home are kept there
abbrev pub keep_thing : List Line → List Thing
keep_thing ioc = keep_from (true_line (line_at ioc (codes "KeepUserPlacement")))

-- a signal that stays where it is, since the table has no rows for it
abbrev pub has_no_rows : TableParts → Signal → Bool
has_no_rows t s = length (rows_named t s.name) == 0

abbrev pub lock_from : ℕ → Option ℕ → List Thing
lock_from i None = []
lock_from i (Some line) = Lock i line ∷ []

-- the key that locks the signal at a pin
abbrev pub lock_key : List ℕ → List ℕ
lock_key pin = pin ++ codes ".Locked"

abbrev pub lock_at_home : TableParts → List Line → ℕ → Option ℕ → List Thing
lock_at_home t ioc i None = []
lock_at_home t ioc i (Some home) = lock_from i (true_line (line_at ioc (lock_key (pin_name t home))))

-- the lock of a signal with rows
abbrev pub lock_of : TableParts → List Line → ℕ → Signal → List Thing
lock_of t ioc i s = if has_no_rows t s then [] else lock_at_home t ioc i s.home

unfoldable pub lock_thing : TableParts → List Line → List Signal → ℕ → List Thing
lock_thing t ioc signals i = option_map_or (lock_of t ioc i) (slice_get signals i) []

-- a line that lists this pin
abbrev pub lists_pin : List ℕ → Line → Bool
lists_pin pin line = is_some (pin_number line.key) && bytes_eq line.value pin

unfoldable pub pin_line : List Line → List ℕ → Option Line
pin_line ioc pin = find (lists_pin pin) ioc

abbrev pub pin_from : ℕ → Option Line → List Thing
pin_from i None = []
pin_from i (Some line) = Pin i line.number ∷ []

abbrev pub pin_at_home : TableParts → List Line → ℕ → Option ℕ → List Thing
pin_at_home t ioc i None = []
pin_at_home t ioc i (Some home) = pin_from i (pin_line ioc (pin_name t home))

-- the pin of a signal without rows
abbrev pub pin_of : TableParts → List Line → ℕ → Signal → List Thing
pin_of t ioc i s = if has_no_rows t s then pin_at_home t ioc i s.home else []

unfoldable pub pin_thing : TableParts → List Line → List Signal → ℕ → List Thing
pin_thing t ioc signals i = option_map_or (pin_of t ioc i) (slice_get signals i) []

-- ---- all of them, in their order

unfoldable pub option_things : Opts → List Thing
option_things opts =
    things_below (length opts.needs) need_thing ++ wish_thing opts.hclk Hclk ++ wish_thing opts.pclk1 Pclk1 ++ wish_thing opts.pclk2 Pclk2
    ++ free_thing opts.free

unfoldable pub line_things : TableParts → List Line → List Signal → List Thing
line_things t ioc signals =
    keep_thing ioc ++ things_below (length signals) (lock_thing t ioc signals) ++ things_below (length signals) (pin_thing t ioc signals)

unfoldable pub things : TableParts → List Line → Opts → List Signal → List Thing
things t ioc opts signals = option_things opts ++ line_things t ioc signals

-- ---- how a thing is called

abbrev pub hertz_or : Option ℕ → ℕ
hertz_or None = 0
hertz_or (Some hertz) = hertz

abbrev pub free_word : Free → List ℕ
free_word free.All = codes "all"
free_word free.Pins = codes "pins"
free_word free.Clock = codes "clock"
free_word free.Nothing = codes "none"

unfoldable pub need_words : List (List ℕ) → ℕ → List ℕ
need_words needs number = codes "need " ++ decimal number ++ codes " " ++ slice_index_or needs (number - 1) []

unfoldable pub number_words : List ℕ → ℕ → List ℕ
number_words option hertz = option ++ decimal hertz

unfoldable pub free_words : Free → List ℕ
free_words f = codes "--free " ++ free_word f

-- the pin at which a signal is in the project
abbrev pub home_name : TableParts → Signal → List ℕ
home_name t s = option_map_or (pin_name t) s.home []

unfoldable pub lock_words : TableParts → Signal → List ℕ
lock_words t s = home_name t s ++ codes ".Locked=true"

unfoldable pub held_words : List ℕ → List ℕ
held_words pin = codes "held pin " ++ pin

unfoldable pub at_words : List ℕ → List ℕ → List ℕ
at_words name pin = name ++ codes " at " ++ pin

abbrev pub pin_words : TableParts → Signal → List ℕ
pin_words t s = if is_held s.name then held_words (home_name t s) else at_words s.name (home_name t s)

abbrev pub words_of : TableParts → Opts → List Signal → Thing → List ℕ
words_of t opts signals (Need number) = need_words opts.needs number
words_of t opts signals Hclk = number_words (codes "--hclk ") (hertz_or opts.hclk)
words_of t opts signals Pclk1 = number_words (codes "--pclk1 ") (hertz_or opts.pclk1)
words_of t opts signals Pclk2 = number_words (codes "--pclk2 ") (hertz_or opts.pclk2)
words_of t opts signals Freed = free_words opts.free
words_of t opts signals (Keep line) = codes "KeepUserPlacement=true"
words_of t opts signals (Lock i line) = option_map_or (lock_words t) (slice_get signals i) []
words_of t opts signals (Pin i line) = option_map_or (pin_words t) (slice_get signals i) []
