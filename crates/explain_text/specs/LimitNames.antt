-- The limit of a number. Numbers that refutations have are 3 to 17.
use Rattle.std.specs.Prelude.{ℕ, ◌==◌, if◌then◌else◌}
use Rattle.res_model.specs.LimitNumbers.{limit_number}
use Rattle.res_model.specs.declared.limit.Limit.{Limit}
use Rattle.res_model.specs.declared.limit.Limit.TheVariants as name

-- the one whose number it is
unfoldable pub limit_named : ℕ → Limit
limit_named k =
    if k == limit_number name.Hse then name.Hse
    else (if k == limit_number name.VcoIn then name.VcoIn
    else (if k == limit_number name.Vco then name.Vco
    else (if k == limit_number name.Sysclk then name.Sysclk
    else (if k == limit_number name.Hclk then name.Hclk
    else (if k == limit_number name.Pclk1 then name.Pclk1
    else (if k == limit_number name.Pclk2 then name.Pclk2
    else (if k == limit_number name.Exact48 then name.Exact48
    else (if k == limit_number name.Most48 then name.Most48
    else (if k == limit_number name.Floor then name.Floor
    else (if k == limit_number name.FlashRow then name.FlashRow
    else (if k == limit_number name.HclkWish then name.HclkWish
    else (if k == limit_number name.Pclk1Wish then name.Pclk1Wish
    else (if k == limit_number name.Pclk2Wish then name.Pclk2Wish
    else name.OverDrive)))))))))))))
