-- The fields of a pin (RM0090, GPIO), the mode that they say, and which modes are legal and right.
-- A pin stands at port times 16 plus number.
use Rattle.std.specs.Prelude.{◌≡◌, ℕ, zero, suc, ◌*◌, ◌/◌, ◌%◌, ◌<◌, List, get_or, Bool, true, false, not, ◌&&◌, ◌||◌, if◌then◌else◌, ◌==◌, nat_lt, Option, Some, None, ◌⊎◌}
use Rattle.reg_map.specs.Fields.{field_of}
use Rattle.reg_map.specs.declared.register.GpioReg.{GpioReg}
use Rattle.reg_map.specs.declared.register.GpioReg.TheVariants as kind
use Rattle.res_model.specs.declared.table.Mode.{Mode}
use Rattle.res_model.specs.declared.table.Mode.TheVariants as mode
use Rattle.reg_machine.specs.Words.{slot}

-- ---- the fields of the pin at a place, in the words of all ports

abbrev pub mode_field : ℕ → List ℕ → ℕ
mode_field p g = field_of (2 * (p % 16)) 2 (get_or g (slot (p / 16) kind.Moder) 0)

abbrev pub af_kind : ℕ → GpioReg
af_kind p = if nat_lt (p % 16) 8 then kind.Afrl else kind.Afrh

abbrev pub af_field : ℕ → List ℕ → ℕ
af_field p g = field_of (4 * (p % 8)) 4 (get_or g (slot (p / 16) (af_kind p)) 0)

-- MODER's 0 is input, 1 output, 2 an alternate function and 3 analog
abbrev pub mode_read : ℕ → ℕ → Mode
mode_read m af = if m == 0 then mode.Input else (if m == 1 then mode.Output else (if m == 2 then mode.Alt af else mode.Analog))

abbrev pub mode_at : ℕ → List ℕ → Mode
mode_at p g = mode_read (mode_field p g) (af_field p g)

-- ---- what is legal

-- PA13, PA14, PA15, PB3 and PB4, which are for debugging at reset
abbrev pub is_debug : ℕ → Bool
is_debug p = (p == 13) || ((p == 14) || ((p == 15) || ((p == 19) || (p == 20))))

-- the mode is this alternate function
abbrev pub IsFunction : Mode → ℕ → Type 0
IsFunction (mode.Alt f) af = af ≡ f
IsFunction mode.Input af = ⊥
IsFunction mode.Output af = ⊥
IsFunction mode.Analog af = ⊥
IsFunction mode.Exti af = ⊥
IsFunction mode.Osc af = ⊥
IsFunction mode.Held af = ⊥

abbrev pub IsChosen : Option Mode → ℕ → Type 0
IsChosen None af = ⊥
IsChosen (Some m) af = IsFunction m af

-- a pin in alternate mode has the function chosen for it, or is one for debugging with AF0
abbrev pub IsPinLegal : Option Mode → ℕ → ℕ → ℕ → Type 0
IsPinLegal wanted p m af = m ≡ 2 → IsChosen wanted af ⊎ ((is_debug p ≡ true) × (af ≡ 0))

pub record ArePinsLegal (wanted : List (Option Mode)) (g : List ℕ) : Type 0 where
  pub pin : (p : ℕ) → p < 144 → IsPinLegal (get_or wanted p None) p (mode_field p g) (af_field p g)

-- the same as tests
abbrev pub is_function : Mode → ℕ → Bool
is_function (mode.Alt f) af = af == f
is_function mode.Input af = false
is_function mode.Output af = false
is_function mode.Analog af = false
is_function mode.Exti af = false
is_function mode.Osc af = false
is_function mode.Held af = false

abbrev pub is_chosen : Option Mode → ℕ → Bool
is_chosen None af = false
is_chosen (Some m) af = is_function m af

abbrev pub is_pin_legal : Option Mode → ℕ → ℕ → ℕ → Bool
is_pin_legal wanted p m af = not (m == 2) || (is_chosen wanted af || (is_debug p && (af == 0)))

abbrev pub is_place_legal : List (Option Mode) → List ℕ → ℕ → Bool
is_place_legal wanted g p = is_pin_legal (get_or wanted p None) p (mode_field p g) (af_field p g)

-- each place below n is legal
unfoldable pub are_legal_below : ℕ → List (Option Mode) → List ℕ → Bool
are_legal_below zero wanted g = true
are_legal_below (suc n) wanted g = is_place_legal wanted g n && are_legal_below n wanted g

-- ---- what is right

-- each pin with a wanted mode has it
pub record HaveModes (wanted : List (Option Mode)) (g : List ℕ) : Type 0 where
  pub pin : (p : ℕ) → p < 144 → (m : Mode) → ◌≡◌ {A = Option Mode} (get_or wanted p None) (Some m) → mode_at p g ≡ m
