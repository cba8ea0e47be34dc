-- The clock tree of a project's homes.
use Rattle.std.specs.Prelude.{◌<◌, ◌==◌, ◌++◌, ℕ, List, [], ◌∷◌, Option, Some, None, codes, decimal, slice_index_or, if◌then◌else◌}
use Rattle.res_model.specs.Clock.{IsInRange, facts_of, hclk_of, nodes_of}
use Rattle.clock_tree.specs.ClockText.{clock_text}
use Rattle.res_model.specs.Limits.{broken_limit}
use Rattle.res_model.specs.Power.{wait_of}
use Rattle.res_model.specs.declared.clock.ClockChoice.{ClockChoice}
use Rattle.res_model.specs.declared.clock.Facts.{Facts}
use Rattle.res_model.specs.declared.clock.Nodes.{Nodes}
use Rattle.res_model.specs.declared.clock.Src.{Src}
use Rattle.res_model.specs.declared.clock.Src.TheVariants.{Hsi, Hse, Pll}
use Rattle.res_model.specs.declared.opts.Free.TheVariants.{Pins}
use Rattle.res_model.specs.declared.opts.Opts.{Opts}
use Rattle.res_model.specs.declared.project.Home.{Home}
use Rattle.res_model.specs.declared.project.Project.{Project}
use Rattle.res_model.specs.declared.table.TableParts.{TableParts}
use Rattle.res_model.specs.ClockValues.{source_of}

-- the home of the clock variable at this place
abbrev pub home_at : List Home → ℕ → ℕ
home_at homes place = (slice_index_or homes place record { value = 0; line = 0 }).value

unfoldable pub home_choice : List Home → ClockChoice
home_choice homes = record {
  src = source_of (home_at homes 0);
  psrc = source_of (home_at homes 1);
  hpre = home_at homes 2;
  p = home_at homes 3;
  m = home_at homes 4;
  n = home_at homes 5;
  q = home_at homes 6;
  ppre1 = home_at homes 7;
  ppre2 = home_at homes 8;
  vos = home_at homes 9;
}

-- what is said of the limits: that all are met, or the least that is broken
abbrev pub limits_line : Option ℕ → List ℕ
limits_line None = codes "limits met"
limits_line (Some limit) = codes "limits broken L " ++ decimal limit

unfoldable pub choice_text : TableParts → Facts → ClockChoice → List ℕ
choice_text t f c = clock_text f c (wait_of t f.vdd (hclk_of f c)) ++ limits_line (broken_limit t f c) ++ 10 ∷ []

-- the nodes of the homes
abbrev pub home_nodes : TableParts → Project → Opts → Nodes
home_nodes t p opts = nodes_of (facts_of t p opts) (home_choice p.clock)

abbrev pub home_text : TableParts → Project → Opts → List ℕ
home_text t p opts = choice_text t (facts_of t p opts) (home_choice p.clock)

-- the tree is read with fixed clocks
abbrev pub fixed : Opts → Opts
fixed opts = record opts { free = Pins }

-- the options of a command that takes none: nothing is needed or wished, and the clocks are fixed
abbrev pub no_options : Opts
no_options = record { vdd = 3300; needs = []; hclk = None; pclk1 = None; pclk2 = None; free = Pins }

-- the homes of a project that was read so are a choice that a table may allow, and its scale is a byte
pub record AreHomes (homes : List Home) : Type 0 where
  pub in_range : IsInRange (home_choice homes)
  pub vos : home_at homes 9 < 256
  pub hpre : home_at homes 2 < 65536
  pub p : home_at homes 3 < 256
  pub m : home_at homes 4 < 256
  pub n : home_at homes 5 < 65536
  pub q : home_at homes 6 < 256
  pub ppre1 : home_at homes 7 < 256
  pub ppre2 : home_at homes 8 < 256
