-- What is due for a sample rate.
use Rattle.std.specs.Prelude.{◌≡◌, ℕ, codes}
use Rattle.answers.specs.Said.{Says, answered}
use Rattle.answers.specs.declared.answer.Answer.{Answer}
use Rattle.answers.specs.declared.answer.Status.TheVariants.{Done, NoChoice}
use Rattle.res_model.specs.Clock.{vco_in_of}
use Rattle.res_model.specs.declared.clock.ClockChoice.{ClockChoice}
use Rattle.res_model.specs.declared.clock.Facts.{Facts}
use Rattle.res_model.specs.declared.table.TableParts.{TableParts}
use Rattle.i2s_pll.specs.declared.choice.I2s.{I2s}
use Rattle.i2s_pll.specs.Least.{IsLeast, NoneMeets}
use Rattle.i2s_pll.specs.Run.{AreSound, writes_of}
use Rattle.i2s_pll.specs.Texts.{i2s_text}

-- the text of the choice of least error, whose writes are sound, or that no choice keeps the limits
pub data OfI2s (t : TableParts) (f : Facts) (home : ClockChoice) (rate : ℕ) (a : Answer) : Type 0 where
  found : (x : I2s) → IsLeast t f home rate x → AreSound t.limits (vco_in_of f home) x (writes_of x)
      → a ≡ answered Done (i2s_text (vco_in_of f home) rate x) → OfI2s t f home rate a
  unmet : NoneMeets t f home → Says a NoChoice (codes "no choice") → OfI2s t f home rate a
