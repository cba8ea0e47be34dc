-- Internal: the line of one thing.
use Rattle.std.specs.Prelude.{◌≡◌, ℕ, List, Option}
use Rattle.ioc_text.specs.declared.line.Line.{Line}
use Rattle.res_model.specs.declared.opts.Opts.{Opts}
use Rattle.res_model.specs.declared.project.Signal.{Signal}
use Rattle.res_model.specs.declared.table.TableParts.{TableParts}
use Rattle.explain.specs.GiveUp.{line_if}
use Rattle.explain.specs.Left.{ComesTo, lines_left, opts_left}
use Rattle.explain.specs.Things.{words_of}
use Rattle.explain.specs.declared.kinds.Thing.{Thing}

pub record Told (t : TableParts) (ioc : List Line) (opts : Opts) (signals : List Signal) (thing : Thing) (line : List ℕ) : Type 0 where
  pub cost : Option ℕ
  pub comes : ComesTo t (lines_left ioc thing) (opts_left opts thing) cost
  pub line_is : line ≡ line_if (words_of t opts signals thing) cost
