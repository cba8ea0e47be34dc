-- The limits of a box by its ranges.
use Rattle.std.proofs.Common.{◌≡◌}
use Rattle.res_model.specs.declared.clock.Facts.{Facts}
use Rattle.res_model.specs.declared.table.TableParts.{TableParts}
use Rattle.clock_limits.specs.Ranges.{Allowed, limits_over, vco_in_range, vco_range, clk48_range, sysclk_range, hclk_reach, hclk_range, pclk1_range, pclk2_range}
use Rattle.clock_limits.specs.declared.ranges.NodeRanges.{NodeRanges}
use Rattle.clock_limits.specs.Room.{room_over, room_by}

same_room : {A B : Type 0} (g : A → A → A → A → A → A → A → A → B) (a b c d e f h i a' b' c' d' e' f' h' i' : A) → a ≡ a' → b ≡ b' → c ≡ c' → d ≡ d' → e ≡ e' → f ≡ f' → h ≡ h' → i ≡ i' → g a b c d e f h i ≡ g a' b' c' d' e' f' h' i'
same_room g a b c d e f h i a' b' c' d' e' f' h' i' p q r s t u v w = cc

pub room_of : (t : TableParts) (f : Facts) (a : Allowed) (x : NodeRanges) → x.vco_in ≡ vco_in_range f a → x.vco ≡ vco_range f a → x.clk48 ≡ clk48_range f a → x.sysclk ≡ sysclk_range f a → x.hclk_reach ≡ hclk_reach f a → x.hclk ≡ hclk_range f a → x.pclk1 ≡ pclk1_range f a → x.pclk2 ≡ pclk2_range f a → room_by t f a x ≡ limits_over t f a
unfolding limits_over
room_of t f a x p q r s u v w z =
    same_room (room_over t f a) x.vco_in x.vco x.clk48 x.sysclk x.hclk_reach x.hclk x.pclk1 x.pclk2
    (vco_in_range f a) (vco_range f a) (clk48_range f a) (sysclk_range f a) (hclk_reach f a) (hclk_range f a) (pclk1_range f a) (pclk2_range f a)
    p q r s u v w z
