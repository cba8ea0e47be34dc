-- What helps where it is given up.
use Rattle.std.specs.Prelude.{◌≡◌, ℕ, ◌==◌, ◌++◌, List, [], ◌∷◌, codes, decimal, length, Option, Some, None, if◌then◌else◌}
use Rattle.ioc_text.specs.declared.line.Line.{Line}
use Rattle.res_model.specs.declared.opts.Opts.{Opts}
use Rattle.res_model.specs.declared.project.Signal.{Signal}
use Rattle.res_model.specs.declared.table.TableParts.{TableParts}
use Rattle.explain.specs.Left.{ComesTo, lines_left, opts_left}
use Rattle.explain.specs.Things.{words_of}
use Rattle.explain.specs.declared.kinds.Thing.{Thing}

unfoldable pub fits_line : List ℕ → ℕ → List ℕ
fits_line words cost = codes "fits without " ++ words ++ codes ", cost " ++ decimal cost ++ codes "\n"

-- a thing that helps has a line
abbrev pub line_if : List ℕ → Option ℕ → List ℕ
line_if words None = []
line_if words (Some cost) = fits_line words cost

-- the lines of the things that help, in the order of the things
abbrev pub Tells : TableParts → List Line → Opts → List Signal → List Thing → List ℕ → Type 0
Tells t ioc opts signals [] text = text ≡ []
Tells t ioc opts signals (thing ∷ things) text =
    (cost : Option ℕ) × ComesTo t (lines_left ioc thing) (opts_left opts thing) cost
    × ((rest : List ℕ) × (text ≡ line_if (words_of t opts signals thing) cost ++ rest) × Tells t ioc opts signals things rest)

-- where none helps, a line says so
unfoldable pub or_none : List ℕ → List ℕ
or_none lines = if length lines == 0 then codes "no single thing is found to help\n" else lines
