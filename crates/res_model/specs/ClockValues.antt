-- The values that the clock tree's fields can have, and the frequency of the HSI.
use Rattle.std.specs.Prelude.{ℕ, ◌==◌, ◌||◌, Bool, List, [], ◌∷◌, if◌then◌else◌}
use Rattle.res_model.specs.declared.clock.Src.{Src}
use Rattle.res_model.specs.declared.clock.Src.TheVariants.{Hsi, Hse, Pll}

-- a source as the clock variables and the registers have it: HSI 0, HSE 1 and PLL 2 (RM0090, SW of RCC_CFGR)
abbrev pub source_of : ℕ → Src
source_of number = if number == 0 then Hsi else (if number == 1 then Hse else Pll)

abbrev pub source_number : Src → ℕ
source_number Hsi = 0
source_number Hse = 1
source_number Pll = 2

-- the dividers of AHB, and those of APB1 and APB2 (RM0090, RCC_CFGR), and those of the PLL's output (RCC_PLLCFGR)
abbrev pub ahb_dividers : List ℕ
ahb_dividers = 1 ∷ 2 ∷ 4 ∷ 8 ∷ 16 ∷ 64 ∷ 128 ∷ 256 ∷ 512 ∷ []

abbrev pub apb_dividers : List ℕ
apb_dividers = 1 ∷ 2 ∷ 4 ∷ 8 ∷ 16 ∷ []

abbrev pub pll_dividers : List ℕ
pll_dividers = 2 ∷ 4 ∷ 6 ∷ 8 ∷ []

-- the power steps of a part, by the version of its table: 1 to 3 are the scales of the voltage regulator, and 4 and 5 are
-- scale 1 and scale 2 with over-drive (RM0090, PWR_CR). Parts of version 1 have scales 1 and 2 alone
abbrev pub known_steps : ℕ → List ℕ
known_steps version = if version == 1 then 1 ∷ 2 ∷ [] else 1 ∷ 2 ∷ 3 ∷ 4 ∷ 5 ∷ []

-- a power step with over-drive
abbrev pub has_over : ℕ → Bool
has_over step = (step == 4) || (step == 5)

-- the greatest HCLK that a table may state at a power step
abbrev pub widest_hclk : ℕ → ℕ
widest_hclk step = if has_over step then 180000000 else 168000000

-- the scale of a power step
abbrev pub scale_of_step : ℕ → ℕ
scale_of_step step = if step == 4 then 1 else (if step == 5 then 2 else step)

-- the HSI runs, at this many hertz (RM0090, RCC)
abbrev pub hsi : ℕ
hsi = 16000000
