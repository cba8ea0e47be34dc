-- The options under which a made case is read.
use Rattle.std.specs.Prelude.{None}
use Rattle.big_case.specs.Case.{needs}
use Rattle.res_model.specs.declared.opts.Free.TheVariants.{All}
use Rattle.res_model.specs.declared.opts.Opts.{Opts}

abbrev pub case_opts : Opts
case_opts = record { vdd = 3300; needs = needs; hclk = None; pclk1 = None; pclk2 = None; free = All }
