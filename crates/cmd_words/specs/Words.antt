-- The grammar of the command line, and the command that words ask for.
--
--     pins T P [--need SIGNAL]..
--     tree T P [--vdd MV]
--     resolve T P [OPTIONS] [--workers N] [--proof]
--     check T P PROOF [OPTIONS]
--     case K [--workers N]
--     can T P RATE POINT TOLERANCE
--     dma T REQUEST.. [--workers N]
--     i2s T P SAMPLE_RATE
--     ioc T P [OPTIONS] [--workers N]
--     board T P [OPTIONS]
--     explain T P [OPTIONS]
--     trace T P C ANSWERS [--vdd MV]
--
-- OPTIONS are --vdd MV, --need SIGNAL, --hclk HZ, --pclk1 HZ, --pclk2 HZ and --free pins|clock|all|none. Options stand
-- after the names, in any order, and each at most once but --need. T, P, PROOF, C, ANSWERS and SIGNAL are any words;
-- of a REQUEST there are 1 to 16, and none begins with two hyphens.
-- RATE is in bits per second, SAMPLE_RATE in hertz, POINT and TOLERANCE are in per mille of a bit.
use Rattle.std.specs.Prelude.{ℕ, ◌≤◌, IfSome, ◌+◌, ◌==◌, Bool, true, false, List, [], ◌∷◌, ◌++◌, length, take, drop, eqb, find, codes, nat_le, nat_lt, if◌then◌else◌, Option, Some, None, option_and_then, option_map, is_some, unwrap_or, Result, Ok, Err}
use Rattle.std.specs.List.{position_or_len, starts_with}
use Rattle.std.specs.Str.{bytes_eq}
use Rattle.res_model.specs.Numbers.{number_of, number_up_to}
use Rattle.res_model.specs.Steps.{◌>>=◌}
use Rattle.res_model.specs.declared.opts.Opts.{Opts}
use Rattle.cmd_words.specs.declared.command.Command.{Command}
use Rattle.cmd_words.specs.declared.command.Command.TheVariants.{Pins, Tree, Resolve, Check, Case, Can, I2s, Dma, Ioc, Board, Explain, Trace}
use Rattle.res_model.specs.declared.opts.Free.{Free as FreeSet}
use Rattle.res_model.specs.declared.opts.Free.TheVariants as free
use Rattle.cmd_words.specs.declared.fault.UsageFault.{UsageFault}
use Rattle.cmd_words.specs.declared.fault.UsageFault.TheVariants.{Word}
use Rattle.cmd_words.specs.declared.given.Given.{Given}
use Rattle.cmd_words.specs.declared.given.Named.{Named}
use Rattle.cmd_words.specs.declared.given.Flag.{Flag}
use Rattle.cmd_words.specs.declared.given.Flag.TheVariants.{Vdd, Need, Hclk, Pclk1, Pclk2, Free, Workers, Proof}

-- OPTIONS
abbrev pub common : List Flag
common = Vdd ∷ Need ∷ Hclk ∷ Pclk1 ∷ Pclk2 ∷ Free ∷ []

-- Which options a command takes, in any order after its names.
abbrev pub pins_takes : List Flag
pins_takes = Need ∷ []

abbrev pub tree_takes : List Flag
tree_takes = Vdd ∷ []

abbrev pub resolve_takes : List Flag
resolve_takes = common ++ Workers ∷ Proof ∷ []

abbrev pub check_takes : List Flag
check_takes = common

abbrev pub case_takes : List Flag
case_takes = Workers ∷ []

abbrev pub ioc_takes : List Flag
ioc_takes = common ++ Workers ∷ []

-- How an option is written.
abbrev pub word_of : Flag → List ℕ
word_of Vdd = codes "--vdd"
word_of Need = codes "--need"
word_of Hclk = codes "--hclk"
word_of Pclk1 = codes "--pclk1"
word_of Pclk2 = codes "--pclk2"
word_of Free = codes "--free"
word_of Workers = codes "--workers"
word_of Proof = codes "--proof"

-- How the values of --free are written.
abbrev pub free_of : List ℕ → Option FreeSet
free_of word =
    if bytes_eq word (codes "pins") then Some free.Pins
    else (if bytes_eq word (codes "clock") then Some free.Clock
    else (if bytes_eq word (codes "all") then Some free.All
    else (if bytes_eq word (codes "none") then Some free.Nothing
    else None)))

-- A number from a least to a greatest one.
abbrev pub number_from : ℕ → ℕ → List ℕ → Option ℕ
number_from least most word = option_and_then (λ n. if nat_le least n then Some n else None) (number_up_to most word)

-- A number of workers, and a number of hertz.
abbrev pub workers_of : List ℕ → Option ℕ
workers_of word = number_from 1 16 word

abbrev pub hertz_of : List ℕ → Option ℕ
hertz_of word = number_up_to 4294967295 word

-- A bit rate, a sample point, and its tolerance to either side.
abbrev pub rate_of : List ℕ → Option ℕ
rate_of word = number_from 1 1000000 word

abbrev pub point_of : List ℕ → Option ℕ
point_of word = number_from 1 999 word

abbrev pub tolerance_of : List ℕ → Option ℕ
tolerance_of word = number_up_to 999 word

-- A sample rate of an audio interface, in hertz.
abbrev pub sample_rate_of : List ℕ → Option ℕ
sample_rate_of word = number_from 8000 192000 word

-- An option that was given is not taken again, but --need, which gives one signal more each time.
abbrev pub is_given : Given → Flag → Bool
is_given g Vdd = is_some g.vdd
is_given g Need = false
is_given g Hclk = is_some g.hclk
is_given g Pclk1 = is_some g.pclk1
is_given g Pclk2 = is_some g.pclk2
is_given g Free = is_some g.free
is_given g Workers = is_some g.workers
is_given g Proof = g.proof

-- What an option gives with this word as its value; nothing where the word is out of form.
abbrev pub with_value : Flag → List ℕ → Given → Option Given
with_value Vdd word g = option_map (λ n. record g { vdd = Some n }) (number_up_to 10000 word)
with_value Need word g = Some (record g { needs = g.needs ++ word ∷ [] })
with_value Hclk word g = option_map (λ n. record g { hclk = Some n }) (hertz_of word)
with_value Pclk1 word g = option_map (λ n. record g { pclk1 = Some n }) (hertz_of word)
with_value Pclk2 word g = option_map (λ n. record g { pclk2 = Some n }) (hertz_of word)
with_value Free word g = option_map (λ f. record g { free = Some f }) (free_of word)
with_value Workers word g = option_map (λ n. record g { workers = Some n }) (workers_of word)
with_value Proof word g = None

-- Where a reader stands among the options: what they gave so far, and the option whose value is due.
pub record Reading : Type 0 where
  pub given : Given
  pub due : Option Flag

-- An option's word alone: --proof wants no value, and each other waits for its own.
abbrev pub with_flag : Flag → Given → Reading
with_flag Proof g = record { given = record g { proof = true }; due = None }
with_flag flag g = record { given = g; due = Some flag }

-- A word where no value is due: an option that the command takes, and that may still be given.
abbrev pub option_read : List Flag → Given → List ℕ → Option Reading
option_read takes g word =
    option_and_then (λ flag. if is_given g flag then None else Some (with_flag flag g)) (find (λ flag. bytes_eq (word_of flag) word) takes)

-- One word: a value where one is due, and else an option; nothing where it is not allowed.
abbrev pub word_read : List Flag → Given → Option Flag → List ℕ → Option Reading
word_read takes g None word = option_read takes g word
word_read takes g (Some flag) word = option_map (λ h. record { given = h; due = None }) (with_value flag word g)

-- The word of this number is the fault where it is not allowed.
abbrev pub allowed : {X : Type 0} → ℕ → Option X → Result X UsageFault
allowed number None = Err (Word number)
allowed number (Some x) = Ok x

-- What the words give from the word of this number on. They may not end where a value is due.
abbrev pub given_from : List Flag → ℕ → Given → Option Flag → List (List ℕ) → Result Given UsageFault
given_from takes number g None [] = Ok g
given_from takes number g (Some flag) [] = Err (Word number)
given_from takes number g due (word ∷ words) = do
  r ← allowed number (word_read takes g due word)
  given_from takes (number + 1) r.given r.due words

abbrev pub nothing_given : Given
nothing_given = record { vdd = None; needs = []; hclk = None; pclk1 = None; pclk2 = None; free = None; workers = None; proof = false }

-- The options after a command's names.
abbrev pub options : List Flag → ℕ → List (List ℕ) → Result Given UsageFault
options takes number words = given_from takes number nothing_given None words

-- The options with their defaults.
abbrev pub opts_of : Given → Opts
opts_of g = record { vdd = unwrap_or g.vdd 3300; needs = g.needs; hclk = g.hclk; pclk1 = g.pclk1; pclk2 = g.pclk2; free = unwrap_or g.free free.All }

abbrev pub worker_count : Given → ℕ
worker_count g = unwrap_or g.workers 1

-- The words after a command's own end before its names do.
abbrev pub too_early : {X : Type 0} → List (List ℕ) → Result X UsageFault
too_early words = Err (Word (length words + 2))

-- T P, and the options behind them
abbrev pub named : List Flag → List (List ℕ) → Result Named UsageFault
named takes (t ∷ p ∷ words) = do
  g ← options takes 4 words
  Ok (record { tables = t; project = p; given = g })
named takes words = too_early words

-- pins T P [--need SIGNAL]..
abbrev pub pins_of : List (List ℕ) → Result Command UsageFault
pins_of words = do
  n ← named pins_takes words
  Ok (Pins n.tables n.project (opts_of n.given))

-- tree T P [--vdd MV]
abbrev pub tree_of : List (List ℕ) → Result Command UsageFault
tree_of words = do
  n ← named tree_takes words
  Ok (Tree n.tables n.project (opts_of n.given))

-- resolve T P [OPTIONS] [--workers N] [--proof]
abbrev pub resolve_of : List (List ℕ) → Result Command UsageFault
resolve_of words = do
  n ← named resolve_takes words
  Ok (Resolve n.tables n.project (opts_of n.given) (worker_count n.given) n.given.proof)

-- ioc T P [OPTIONS] [--workers N]
abbrev pub ioc_of : List (List ℕ) → Result Command UsageFault
ioc_of words = do
  n ← named ioc_takes words
  Ok (Ioc n.tables n.project (opts_of n.given) (worker_count n.given))

-- board T P [OPTIONS]
abbrev pub board_of : List (List ℕ) → Result Command UsageFault
board_of words = do
  n ← named common words
  Ok (Board n.tables n.project (opts_of n.given))

-- explain T P [OPTIONS]
abbrev pub explain_of : List (List ℕ) → Result Command UsageFault
explain_of words = do
  n ← named common words
  Ok (Explain n.tables n.project (opts_of n.given))

-- check T P PROOF [OPTIONS]
abbrev pub check_of : List (List ℕ) → Result Command UsageFault
check_of (t ∷ p ∷ proof ∷ words) = do
  g ← options check_takes 5 words
  Ok (Check t p proof (opts_of g))
check_of words = too_early words

-- trace T P C ANSWERS [--vdd MV]
abbrev pub trace_of : List (List ℕ) → Result Command UsageFault
trace_of (t ∷ p ∷ c ∷ answers ∷ words) = do
  g ← options tree_takes 6 words
  Ok (Trace t p c answers (opts_of g))
trace_of words = too_early words

-- case K [--workers N]
abbrev pub case_of : List (List ℕ) → Result Command UsageFault
case_of (k ∷ words) = do
  number ← allowed 2 (number_of k)
  g ← options case_takes 3 words
  Ok (Case number (worker_count g))
case_of words = too_early words

-- can T P RATE POINT TOLERANCE
abbrev pub can_of : List (List ℕ) → Result Command UsageFault
can_of (t ∷ p ∷ rate ∷ point ∷ tolerance ∷ words) = do
  r ← allowed 4 (rate_of rate)
  s ← allowed 5 (point_of point)
  d ← allowed 6 (tolerance_of tolerance)
  g ← options [] 7 words
  Ok (Can t p r s d)
can_of (t ∷ p ∷ rate ∷ point ∷ []) = do
  r ← allowed 4 (rate_of rate)
  s ← allowed 5 (point_of point)
  Err (Word 6)
can_of (t ∷ p ∷ rate ∷ []) = do
  r ← allowed 4 (rate_of rate)
  Err (Word 5)
can_of words = too_early words

-- i2s T P SAMPLE_RATE
abbrev pub i2s_of : List (List ℕ) → Result Command UsageFault
i2s_of (t ∷ p ∷ rate ∷ words) = do
  r ← allowed 4 (sample_rate_of rate)
  g ← options [] 5 words
  Ok (I2s t p r)
i2s_of words = too_early words

-- the word of an option
abbrev pub is_option : List ℕ → Bool
is_option word = starts_with eqb word (codes "--")

-- how many words stand before the first of an option
abbrev pub names_before : List (List ℕ) → ℕ
names_before words = position_or_len is_option words

-- requests, and the options behind them
abbrev pub with_requests : List ℕ → List (List ℕ) → List (List ℕ) → Result Command UsageFault
with_requests t requests words = do
  g ← options case_takes (3 + length requests) words
  Ok (Dma t requests (worker_count g))

-- there are 1 to 16: the third word is at fault where there is none, and the word of the 17th where there are more
abbrev pub requested : List ℕ → List (List ℕ) → List (List ℕ) → Result Command UsageFault
requested t requests words = if length requests == 0 then Err (Word 3) else (if nat_lt 16 (length requests) then Err (Word 19) else with_requests t requests words)

-- the requests are the words before the first of an option
abbrev pub requests_of : List ℕ → List (List ℕ) → Result Command UsageFault
requests_of t words = requested t (take (names_before words) words) (drop (names_before words) words)

-- dma T REQUEST.. [--workers N]
abbrev pub dma_of : List (List ℕ) → Result Command UsageFault
dma_of [] = too_early []
dma_of (t ∷ words) = requests_of t words

-- The command that words ask for, or the first word, from 1, that the grammar does not allow there: one more
-- than their number where they end too early.
unfoldable pub command_of : List (List ℕ) → Result Command UsageFault
command_of [] = Err (Word 1)
command_of (command ∷ words) =
    if bytes_eq command (codes "pins") then pins_of words
    else (if bytes_eq command (codes "tree") then tree_of words
    else (if bytes_eq command (codes "resolve") then resolve_of words
    else (if bytes_eq command (codes "check") then check_of words
    else (if bytes_eq command (codes "case") then case_of words
    else (if bytes_eq command (codes "can") then can_of words
    else (if bytes_eq command (codes "i2s") then i2s_of words
    else (if bytes_eq command (codes "dma") then dma_of words
    else (if bytes_eq command (codes "ioc") then ioc_of words
    else (if bytes_eq command (codes "board") then board_of words
    else (if bytes_eq command (codes "explain") then explain_of words
    else (if bytes_eq command (codes "trace") then trace_of words
    else Err (Word 1))))))))))))

-- The numbers that the grammar allows: what options gave, and what a command has.
abbrev pub IsHertz : Option ℕ → Type 0
IsHertz wish = IfSome wish (λ n. n ≤ 4294967295)

abbrev pub IsWorkers : ℕ → Type 0
IsWorkers n = (1 ≤ n) × (n ≤ 16)

pub record IsLimited (g : Given) : Type 0 where
  pub vdd : IfSome g.vdd (λ n. n ≤ 10000)
  pub hclk : IsHertz g.hclk
  pub pclk1 : IsHertz g.pclk1
  pub pclk2 : IsHertz g.pclk2
  pub workers : IfSome g.workers IsWorkers

pub record HasLimits (opts : Opts) : Type 0 where
  pub vdd : opts.vdd ≤ 10000
  pub hclk : IsHertz opts.hclk
  pub pclk1 : IsHertz opts.pclk1
  pub pclk2 : IsHertz opts.pclk2

pub record IsBitTiming (rate point tolerance : ℕ) : Type 0 where
  pub rate_is : (1 ≤ rate) × (rate ≤ 1000000)
  pub point_is : (1 ≤ point) × (point ≤ 999)
  pub tolerance_is : tolerance ≤ 999

abbrev pub IsWithinLimits : Command → Type 0
IsWithinLimits (Pins t p opts) = HasLimits opts
IsWithinLimits (Tree t p opts) = HasLimits opts
IsWithinLimits (Resolve t p opts workers proof) = HasLimits opts × IsWorkers workers
IsWithinLimits (Check t p proof opts) = HasLimits opts
IsWithinLimits (Case number workers) = IsWorkers workers
IsWithinLimits (Can t p rate point tolerance) = IsBitTiming rate point tolerance
IsWithinLimits (Ioc t p opts workers) = HasLimits opts × IsWorkers workers
IsWithinLimits (Board t p opts) = HasLimits opts
IsWithinLimits (Explain t p opts) = HasLimits opts
IsWithinLimits (Trace t p c answers opts) = HasLimits opts
IsWithinLimits (I2s t p rate) = (8000 ≤ rate) × (rate ≤ 192000)
IsWithinLimits (Dma t requests workers) = ((1 ≤ length requests) × (length requests ≤ 16)) × IsWorkers workers
