-- Internal: what was opened is what two texts say.
use Rattle.std.specs.Prelude.{◌≡◌, Bool, Result, Ok, Err}
use Rattle.answers.specs.declared.answer.Answer.{Answer}
use Rattle.ioc_project.specs.Read.{IsRead}
use Rattle.project_reading.specs.declared.projects.Opened.{Opened}
use Rattle.project_reading.specs.declared.projects.Opened.TheVariants as opened
use Rattle.res_model.specs.declared.opts.Opts.{Opts}
use Rattle.res_model.specs.declared.project.Project.{Project}
use Rattle.res_model.specs.declared.table.TableParts.{TableParts}

-- what was opened is what was found
abbrev pub IsOpened : Opts → Bool → Result (TableParts × Project) Answer → Opened → Type 0
IsOpened opts clocks found (opened.Project t p) = (found ≡ Ok (t, p)) × IsRead t opts clocks p
IsOpened opts clocks found (opened.Refused a) = found ≡ Err a
