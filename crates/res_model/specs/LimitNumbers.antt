-- The number of each limit of the clock tree, as texts and refutations name it. Limits 1 and 2 are those of pins.
use Rattle.std.specs.Prelude.{ℕ}
use Rattle.res_model.specs.declared.limit.Limit.{Limit}
use Rattle.res_model.specs.declared.limit.Limit.TheVariants as name

abbrev pub limit_number : Limit → ℕ
limit_number name.Hse = 3
limit_number name.VcoIn = 4
limit_number name.Vco = 5
limit_number name.Sysclk = 6
limit_number name.Hclk = 7
limit_number name.Pclk1 = 8
limit_number name.Pclk2 = 9
limit_number name.Exact48 = 10
limit_number name.Most48 = 11
limit_number name.Floor = 12
limit_number name.FlashRow = 13
limit_number name.HclkWish = 14
limit_number name.Pclk1Wish = 15
limit_number name.Pclk2Wish = 16
limit_number name.OverDrive = 17
