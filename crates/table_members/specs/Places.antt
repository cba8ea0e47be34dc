-- Internal: the places of faults, and how a path spells them.
use Rattle.std.specs.Prelude.{◌≡◌, ℕ, List, [], codes, decimal, Result, Ok, Err}
use Rattle.refusal.specs.declared.refusal.Refusal.{Refusal}
use Rattle.refusal.specs.declared.refusal.Refusal.TheVariants.{Fault, OutOfMemory}
use Rattle.table_members.specs.Forms.{below}
use Rattle.table_members.specs.declared.fault.TableFault.{TableFault}
use Rattle.table_members.specs.declared.fault.TableFault.TheVariants as fault
use Rattle.table_members.specs.declared.place.Key.{Key}
use Rattle.table_members.specs.declared.place.Key.TheVariants.{Version, Names, Package, Pins, Signals, Name, Use, Ip, Drain, At, HseIn, HseOut, Ips, Clock48, Floor, Marks, Clock, M, N, Q, P, Hpre, Ppre1, Ppre2, Vos, Limits, Crystal, Bypass, VcoIn, Vco, Sysclk, Pclk1, Pclk2, Over, Scales, Max, Flash, From, To, Prefetch, Rows, Defaults, Src, Psrc, Hse, Dma}
use Rattle.table_members.specs.declared.place.Spot.{Spot}
use Rattle.table_members.specs.declared.place.Spot.TheVariants.{Top, Nested, Deep, Inner}
use Rattle.table_members.specs.declared.place.Place.{Place}
use Rattle.table_members.specs.declared.place.Place.TheVariants.{Member, Entry}
use Rattle.table_members.specs.declared.place.Flaw.{Flaw}
use Rattle.table_members.specs.declared.place.Flaw.TheVariants.{NotJson, Missing, BadField, Repeated, ResetIllegal}

abbrev pub spelling : Key → List ℕ
spelling Version = codes "version"
spelling Names = codes "names"
spelling Package = codes "package"
spelling Pins = codes "pins"
spelling Signals = codes "signals"
spelling Name = codes "name"
spelling Use = codes "use"
spelling Ip = codes "ip"
spelling Drain = codes "drain"
spelling At = codes "at"
spelling HseIn = codes "hse_in"
spelling HseOut = codes "hse_out"
spelling Ips = codes "ips"
spelling Clock48 = codes "clock48"
spelling Floor = codes "floor"
spelling Marks = codes "marks"
spelling Clock = codes "clock"
spelling M = codes "m"
spelling N = codes "n"
spelling Q = codes "q"
spelling P = codes "p"
spelling Hpre = codes "hpre"
spelling Ppre1 = codes "ppre1"
spelling Ppre2 = codes "ppre2"
spelling Vos = codes "vos"
spelling Limits = codes "limits"
spelling Crystal = codes "crystal"
spelling Bypass = codes "bypass"
spelling VcoIn = codes "vco_in"
spelling Vco = codes "vco"
spelling Sysclk = codes "sysclk"
spelling Pclk1 = codes "pclk1"
spelling Pclk2 = codes "pclk2"
spelling Over = codes "over"
spelling Scales = codes "scales"
spelling Max = codes "max"
spelling Flash = codes "flash"
spelling From = codes "from"
spelling To = codes "to"
spelling Prefetch = codes "prefetch"
spelling Rows = codes "rows"
spelling Defaults = codes "defaults"
spelling Src = codes "src"
spelling Psrc = codes "psrc"
spelling Hse = codes "hse"
spelling Dma = codes "dma"

-- the path of a member
abbrev pub path_of : Spot → List ℕ
path_of (Top k) = below [] (spelling k)
path_of (Nested g k) = below (below [] (spelling g)) (spelling k)
path_of (Deep g h k) = below (below (below [] (spelling g)) (spelling h)) (spelling k)
path_of (Inner l i k) = below (below (below [] (spelling l)) (decimal i)) (spelling k)

-- the path of an entry of a list
abbrev pub entry_path : Key → ℕ → List ℕ
entry_path l i = below (below [] (spelling l)) (decimal i)

abbrev pub spelled : Place → List ℕ
spelled (Member s) = path_of s
spelled (Entry s i) = below (path_of s) (decimal i)

-- the fault with its path
abbrev pub fault_of : Flaw → TableFault
fault_of NotJson = fault.NotJson
fault_of (Missing at) = fault.Missing (spelled at)
fault_of (BadField at) = fault.BadField (spelled at)
fault_of (Repeated at) = fault.Repeated (spelled at)
fault_of (ResetIllegal limit) = fault.ResetIllegal limit

-- what was read, seen by look, is what the definition reads; or it refuses with this very fault, at this place
abbrev pub Reads : {X Y : Type 0} → (X → Y) → Result X (Refusal Flaw) → Result Y TableFault → Type 0
Reads look (Ok x) read = read ≡ Ok (look x)
Reads look (Err (Fault flaw)) read = read ≡ Err (fault_of flaw)
Reads look (Err OutOfMemory) read = Unit {0}
