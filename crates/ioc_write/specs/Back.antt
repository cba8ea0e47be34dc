-- What a project's reader makes of what is written.
use Rattle.std.specs.Prelude.{ℕ, List, [], Option, codes}
use Rattle.ioc_project.specs.Project.{number_after, pll_source_of, system_source_of}
use Rattle.res_model.specs.declared.clock.ClockChoice.{ClockChoice}
use Rattle.res_model.specs.declared.clock.Src.{Src}
use Rattle.res_model.specs.declared.clock.Src.TheVariants.{Hsi, Hse, Pll}
use Rattle.ioc_write.specs.declared.variable.Variable.{Variable}
use Rattle.ioc_write.specs.declared.variable.Variable.TheVariants as variable
use Rattle.res_model.specs.ClockValues.{source_number}

-- the form in which the value of a clock variable is read
abbrev pub form_of : Variable → List ℕ → Option ℕ
form_of variable.System = system_source_of
form_of variable.Input = pll_source_of
form_of variable.Ahb = number_after (codes "RCC_SYSCLK_DIV")
form_of variable.P = number_after (codes "RCC_PLLP_DIV")
form_of variable.M = number_after []
form_of variable.N = number_after []
form_of variable.Q = number_after []
form_of variable.Apb1 = number_after (codes "RCC_HCLK_DIV")
form_of variable.Apb2 = number_after (codes "RCC_HCLK_DIV")

-- the value of a clock variable in a choice, as a home has it
abbrev pub value_in : ClockChoice → Variable → ℕ
value_in c variable.System = source_number c.src
value_in c variable.Input = source_number c.psrc
value_in c variable.Ahb = c.hpre
value_in c variable.P = c.p
value_in c variable.M = c.m
value_in c variable.N = c.n
value_in c variable.Q = c.q
value_in c variable.Apb1 = c.ppre1
value_in c variable.Apb2 = c.ppre2
