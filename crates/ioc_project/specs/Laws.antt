-- What holds of every project that is read, whatever its text and its table.
use Rattle.std.specs.Prelude.{◌≡◌, ◌↔◌, List, Bool, true, Ok, None}
use Rattle.res_base.specs.Lists.{Each}
use Rattle.ioc_text.specs.declared.line.Line.{Line}
use Rattle.res_model.specs.declared.opts.Opts.{Opts}
use Rattle.res_model.specs.declared.project.Project.{Project}
use Rattle.res_model.specs.declared.project.Signal.{Signal}
use Rattle.res_model.specs.declared.table.TableParts.{TableParts}
use Rattle.ioc_project.specs.Project.{project_of}

-- a signal is a need exactly where it has no home, so that whoever asks for the one has asked for the other
abbrev pub IsNeedOrAtHome : Signal → Type 0
IsNeedOrAtHome s = (s.need ≡ true) ↔ (s.home ≡ None)

abbrev pub NeedsHaveNoHome : Type 0
NeedsHaveNoHome =
    (t : TableParts) (ioc : List Line) (opts : Opts) (clocks : Bool) (p : Project)
    → project_of t ioc opts clocks ≡ Ok p → Each IsNeedOrAtHome p.signals
