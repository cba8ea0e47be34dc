use Rattle.std.proofs.Common.{◌≡◌, refl}
use Rattle.explain_text.specs.LimitNames.{limit_named}
use Rattle.res_model.specs.LimitNumbers.{limit_number}
use Rattle.res_model.specs.declared.limit.Limit.{Limit}
use Rattle.res_model.specs.declared.limit.Limit.TheVariants as name
use Rattle.explain_text.proofs.laws.numbers_have_names.Goals as goal

named : (limit : Limit) → limit_named (limit_number limit) ≡ limit
unfolding limit_named
named name.Hse = refl
named name.VcoIn = refl
named name.Vco = refl
named name.Sysclk = refl
named name.Hclk = refl
named name.Pclk1 = refl
named name.Pclk2 = refl
named name.Exact48 = refl
named name.Most48 = refl
named name.Floor = refl
named name.FlashRow = refl
named name.HclkWish = refl
named name.Pclk1Wish = refl
named name.Pclk2Wish = refl
named name.OverDrive = refl

pub returns : goal.returns
returns c = named
