-- Wishes for the clocks of the buses, and a problem under another wish for HCLK.
use Rattle.std.specs.Prelude.{ℕ, ◌^◌, Option, Some, None, if◌then◌else◌, nat_lt}
use Rattle.problem.specs.declared.parts.ProblemParts.{ProblemParts}
use Rattle.res_model.specs.declared.clock.Facts.{Facts}

-- all but the wish stays: the variables with their values and costs, and so the ranks
abbrev pub with_hclk : Option ℕ → ProblemParts → ProblemParts
with_hclk hclk p = record p { facts = record p.facts { hclk = hclk } }

-- a wish that is low enough to be multiplied by any divider, with the number of the variable of the divider
abbrev pub low_wish : ℕ → ℕ → Option (ℕ × ℕ)
low_wish wish variable = if nat_lt wish (2 ^ 48) then Some (wish, variable) else None

-- the wish for PCLK1, whose divider is variable 7; else that for PCLK2, whose divider is variable 8
abbrev pub wish_of_bus : Option ℕ → Option ℕ → Option (ℕ × ℕ)
wish_of_bus (Some wish) pclk2 = low_wish wish 7
wish_of_bus None (Some wish) = low_wish wish 8
wish_of_bus None None = None

abbrev pub wish_unless : Option ℕ → Option (ℕ × ℕ) → Option (ℕ × ℕ)
wish_unless None wish = wish
wish_unless (Some hclk) wish = None

-- the wish for the clock of a bus, in hertz, with the number of the variable of its divider, where HCLK itself is not wished
abbrev pub bus_wish : Facts → Option (ℕ × ℕ)
bus_wish f = wish_unless f.hclk (wish_of_bus f.pclk1 f.pclk2)
