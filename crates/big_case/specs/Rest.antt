-- What stands in the table behind the signals, with the clock tree, limits and flash of an STM32F407, and the clock
-- keys of the project. All of it is the same for every number.
use Rattle.std.specs.Prelude.{ℕ, List, ◌++◌, codes}

-- the oscillator's pins, and the one IP, which needs 48 MHz exactly
unfoldable pub oscillator : List ℕ
oscillator =
    codes "\"hse_in\":\"OSC_IN\",\"hse_out\":\"OSC_OUT\",\n"
    ++ codes "\"ips\":[{\"name\":\"CASE_USB\",\"clock48\":\"exact\",\"floor\":14200001}],\n"

-- the values that the clock variables can have (RM0090, RCC)
unfoldable pub domains : List ℕ
domains = codes "\"clock\":{\"m\":[2,63],\"n\":[50,432],\"p\":[2,4,6,8],\"q\":[2,15],\"hpre\":[1,2,4,8,16,64,128,256,512],\"ppre1\":[1,2,4,8,16],\"ppre2\":[1,2,4,8,16],\"vos\":[1,2]},\n"

-- the limits of the clock nodes in hertz
unfoldable pub limits : List ℕ
limits = codes "\"limits\":{\"crystal\":[4000000,26000000],\"bypass\":[1000000,50000000],\"vco_in\":[1000000,2000000],\"vco\":[100000000,432000000],\"sysclk\":168000000,\"pclk1\":42000000,\"pclk2\":84000000},\n"

-- the fastest HCLK of each voltage scale in hertz
unfoldable pub scales : List ℕ
scales = codes "\"scales\":[{\"vos\":1,\"max\":168000000},{\"vos\":2,\"max\":144000000}],\n"

-- the flash's wait states: each range of the supply in millivolts, and up to which HCLK in hertz each count serves
unfoldable pub flash : List ℕ
flash =
    codes "\"flash\":[\n"
    ++ codes "{\"from\":1800,\"to\":2099,\"prefetch\":false,\"rows\":[20000000,40000000,60000000,80000000,100000000,120000000,140000000,160000000]},\n"
    ++ codes "{\"from\":2100,\"to\":2399,\"prefetch\":true,\"rows\":[22000000,44000000,66000000,88000000,110000000,132000000,154000000,168000000]},\n"
    ++ codes "{\"from\":2400,\"to\":2699,\"prefetch\":true,\"rows\":[24000000,48000000,72000000,96000000,120000000,144000000,168000000]},\n"
    ++ codes "{\"from\":2700,\"to\":3600,\"prefetch\":true,\"rows\":[30000000,60000000,90000000,120000000,150000000,168000000]}],\n"

-- where the clock tree stands without a project
unfoldable pub start : List ℕ
start = codes "\"defaults\":{\"src\":\"HSI\",\"psrc\":\"HSI\",\"hpre\":1,\"p\":2,\"m\":16,\"n\":192,\"q\":4,\"ppre1\":1,\"ppre2\":1,\"vos\":1,\"hse\":8000000}}\n"

-- the project's clock tree: 168 MHz, and a Q of 4, which gives no 48 MHz
unfoldable pub clock_keys : List ℕ
clock_keys =
    codes "RCC.APB1CLKDivider=RCC_HCLK_DIV4\n"
    ++ codes "RCC.APB2CLKDivider=RCC_HCLK_DIV2\n"
    ++ codes "RCC.HSE_VALUE=8000000\n"
    ++ codes "RCC.PLLM=8\n"
    ++ codes "RCC.PLLN=336\n"
    ++ codes "RCC.PLLQ=4\n"
    ++ codes "RCC.PLLSourceVirtual=RCC_PLLSOURCE_HSE\n"
    ++ codes "RCC.SYSCLKSource=RCC_SYSCLKSOURCE_PLLCLK\n"
